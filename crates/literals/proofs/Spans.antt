-- All selectors of an element: each is folded and placed in turn.
use mathlib.Core.Path.{◌≡◌, refl, sym, ap, ◌∙◌, subst}
use mathlib.Core.List.{List, [], ◌∷◌}
use Prim.Native.Nat.{ℕ, suc, ◌+◌, ◌-◌, ◌≤◌, ◌<◌}
use native.Mathlib.Omega.{arith}
use lib.IntN.{ℤ}
use lib.ListN.{drop, get_or}
use Rattle.checks.specs.Checks.{KindLine}
use Rattle.semantics.specs.Text.{Bytes}
use Rattle.semantics.specs.Tree as Tree
use Rattle.semantics.specs.Tree.{Ses}
use Rattle.semantics.specs.Tree.Ses.{no_ses, and_se}
use Rattle.semantics.specs.Form.{number_of, values, ses_of}
use Rattle.semantics.specs.Form.Kind.{k_se}
use Rattle.semantics.specs.Form.Atom.{ref}
use Rattle.semantics.specs.Fold.{Result, bind, Names}
use Rattle.semantics.specs.Fold.Result.{ok, failed, refuse}
use Rattle.semantics.specs.Array.{Filled, place_indices, place_spans, span_of, spans_of}
use Rattle.decimal.specs.Number as Number
use Rattle.lines.specs.Lines.{read_at, nodes_in}
use Rattle.refs.proofs.Fields.{head-drop, tail-drop}
use Rattle.placements.specs.declared.Extent.{Extent}
use Rattle.placements.specs.Placements.{element_in, Keeps, Filling, Goes, Step}
use Rattle.std.specs.Prelude.{Option, None, Some, Ok, Err}
use Rattle.values.specs.declared.NoValue.{NoValue}
use Rattle.values.specs.declared.NoValue.TheVariants as N
use Rattle.values.specs.Values.{Outcome, answered}
use Rattle.placements.proofs.Same.{keeps-all, keeps_then, keeps-less, element-same}
use Rattle.names.specs.Table.{names_in}
use Rattle.literals.specs.Literals.{se_at, ses_at, Task, AtTask, above, SpanPlaced, SelectorResult, Selects, Fills}
use Rattle.literals.proofs.Names.{log-kept, logged-kept}
use Rattle.literals.proofs.Lines.{good-line, count-is, selectors}

-- ---- folding and placing in turn gives what folding all and then placing gives

pub place_all : Names → Tree.ConstVal → Ses → Result Filled → Result Filled
place_all ns v no_ses r = r
place_all ns v (and_se l h ss) r = bind (span_of ns l h) (λ (x : ℤ × ℤ). place_all ns v ss (bind r (place_indices v x.0 x.1)))

bind-bind : {A B C : Type 0} (r : Result A) (f : A → Result B) (g : B → Result C) → bind (bind r f) g ≡ bind r (λ (a : A). bind (f a) g)
bind-bind (ok a) f g = refl
bind-bind failed f g = refl
bind-bind (refuse n) f g = refl

bind_ok : {A : Type 0} (r : Result A) → bind r ok ≡ r
bind_ok (ok a) = refl
bind_ok failed = refl
bind_ok (refuse n) = refl

all-spans : (ns : Names) (v : Tree.ConstVal) (ss : Ses) (r : Result Filled) → bind (spans_of ns ss) (λ (l : List (ℤ × ℤ)). bind r (place_spans v l)) ≡ place_all ns v ss r
unfolding place_all
all-spans ns v no_ses r = bind_ok r
all-spans ns v (and_se l h ss) r =
    bind-bind (span_of ns l h) (λ (x : ℤ × ℤ). bind (spans_of ns ss) (λ (y : List (ℤ × ℤ)). ok (x ∷ y))) (λ (y : List (ℤ × ℤ)). bind r (place_spans v y)) ∙ go (span_of ns l h) (λ q. all-spans ns v ss q)
  where
    go : (x : Result (ℤ × ℤ)) → ((q : Result Filled) → bind (spans_of ns ss) (λ (y : List (ℤ × ℤ)). bind q (place_spans v y)) ≡ place_all ns v ss q) → bind x (λ (a : ℤ × ℤ). bind (bind (spans_of ns ss) (λ (y : List (ℤ × ℤ)). ok (a ∷ y))) (λ (y : List (ℤ × ℤ)). bind r (place_spans v y)))
        ≡ bind x (λ (a : ℤ × ℤ). place_all ns v ss (bind r (place_indices v a.0 a.1)))
    go (ok a) ih =
        bind-bind (spans_of ns ss) (λ (y : List (ℤ × ℤ)). ok (a ∷ y)) (λ (y : List (ℤ × ℤ)). bind r (place_spans v y))
        ∙ inner (spans_of ns ss) ∙ ih (bind r (place_indices v a.0 a.1))
      where
        inner : (y : Result (List (ℤ × ℤ))) → bind y (λ (b : List (ℤ × ℤ)). bind r (place_spans v (a ∷ b))) ≡ bind y (λ (b : List (ℤ × ℤ)). bind (bind r (place_indices v a.0 a.1)) (place_spans v b))
        inner (ok b) = sym (bind-bind r (place_indices v a.0 a.1) (place_spans v b))
        inner failed = refl
        inner (refuse n) = refl
    go failed ih = refl
    go (refuse n) ih = refl

-- ---- the loop

-- how far a literal goes, 0 for one that has ended
abbrev pub extent_of : Option Extent → Extent
extent_of (Some a) = a
extent_of None = record { next = 0; reach = 0 }

-- the selectors from j on, where there are `count`
abbrev ses_from : Bytes → ℕ → ℕ → ℕ → Ses
ses_from s r count j = ses_of (values (ref k_se) (nodes_in s) (count - j) (drop (2 + j) (read_at s (r - 1)).fields))

-- r is the literal after some selectors, and those that are left complete it
pub record On (t : Bytes) (e : ℕ) (x : Option Extent) (ns : Names) (v : Tree.ConstVal) (rest all : Ses) (f : Filled) : Type 0 where
  pub result : Result Filled
  pub step : Goes t (above e) e x result
  pub left : place_all ns v rest result ≡ place_all ns v all (ok f)

pub record Selecting (s t : Bytes) (m r e : ℕ) (a : Extent) (count : ℕ) (u : Bytes) (x : Option Extent) (j : ℕ) : Type 0 where
  pub within : j ≤ count
  pub keeps : Keeps 12288 (above e) t u
  pub on : (f : Filled) → 0 < e → e ≤ 16 → Filling t (above e) e a.next a.reach f → On u e x (names_in s t m) (element_in t e) (ses_from s r count j) (ses_from s r count 0) f

module _ {s t : Bytes} {m r e : ℕ} (k : AtTask s t m r e) (a : Extent) {count : ℕ} (hc : count ≡ Number.number_up_to 65536 (get_or (read_at s (r - 1)).fields 1 [])) where
  l : KindLine 76 s r
  l = k.task.line

  count-exact : count ≡ number_of (get_or (read_at s (r - 1)).fields 1 [])
  count-exact = (count-is l (selectors l k.form) hc).0

  all-selectors : ses_from s r count 0 ≡ ses_at s r
  all-selectors = let z : count - 0 ≡ number_of (get_or (read_at s (r - 1)).fields 1 []) = omega (arith, count-exact) in rw z

  abbrev place_selected : Tree.ConstVal → Filled → Result Filled
  place_selected v f = bind (spans_of (names_in s t m) (ses_at s r)) (λ (y : List (ℤ × ℤ)). place_spans v y f)

  pub selecting_start : Selecting s t m r e a count t (Some a) 0
  selecting_start = record { within = omega arith; keeps = keeps-all; on = λ f one few p. record { result = ok f; step = record { literal = f; result = refl; filling = p }; left = refl } }

  filled : (y : Outcome (Option Extent)) (w : Bytes) → Keeps 12288 (above e) t w
      → ((f : Filled) → 0 < e → e ≤ 16 → Filling t (above e) e a.next a.reach f → Step w (above e) e y (place_all (names_in s t m) (element_in t e) (ses_from s r count 0) (ok f))) → Fills t e a place_selected y w
  filled y w c h = record {
    keeps = keeps-less (omega arith) (omega arith) c;
    step = λ f one few p. subst (λ (q : Result Filled). Step w (above e) e y q) (ap (λ (ss : Ses). place_all (names_in s t m) (element_in t e) ss (ok f)) all-selectors ∙ sym (all-spans (names_in s t m) (element_in t e) (ses_at s r) (ok f))) (h f one few p);
  }

  module _ {u : Bytes} {x : Option Extent} {j : ℕ} (c : Selecting s t m r e a count u x j) where
    keeps-names : Keeps 16384 49152 t u
    keeps-names = keeps-less (omega arith) (omega arith) c.keeps

    pub selecting-end : count ≤ j → Fills t e a place_selected (Ok x) u
    unfolding place_all
    selecting-end h =
        let z : count - j ≡ 0 = omega arith in
        filled (Ok x) u c.keeps (λ f one few p. let o = c.on f one few p in subst (λ (q : Result Filled). Goes u (above e) e x q) (rw z at o.left) o.step)

    module _ (h : j < count) {q : ℕ} (hq : q ≡ Number.number_up_to 65536 (get_or (read_at s (r - 1)).fields (2 + j) [])) where
      selector-line : (q ≡ number_of (get_or (read_at s (r - 1)).fields (2 + j) [])) × KindLine 74 s q
      selector-line = good-line l 74 (get_or (read_at s (r - 1)).fields (2 + j) []) q hq ((selectors l k.form).each j (omega (arith, count-exact)))

      pub selector-task : Task 74 s u m q e
      selector-task = record { line = selector-line.1; log = logged-kept keeps-names k.task.log; few = k.task.few }

      selectors-split : ses_from s r count j ≡ and_se (se_at s q).low (se_at s q).high (ses_from s r count (j + 1))
      selectors-split =
          let z : count - j ≡ suc (count - (j + 1)) = omega arith in
          let y : suc (2 + j) ≡ 2 + (j + 1) = omega arith in
          rw (z, head-drop (2 + j) (read_at s (r - 1)).fields, tail-drop (2 + j) (read_at s (r - 1)).fields, y, selector-line.0)

      module _ (y : Outcome (Option Extent)) {w : Bytes} (d : Selects u e x (span_of (names_in s u m) (se_at s q).low (se_at s q).high) y w) where
        chosen : (f : Filled) (one : 0 < e) (few : e ≤ 16) (p : Filling t (above e) e a.next a.reach f)
            → SelectorResult w e (span_of (names_in s t m) (se_at s q).low (se_at s q).high) (element_in t e) (c.on f one few p).result y
        chosen f one few p =
            let o = c.on f one few p in
            let v : element_in u e ≡ element_in t e = element-same t u c.keeps.long (above e) e (p.strings e (omega arith)) (λ i a b. c.keeps.above i (omega arith) (omega arith)) (λ i a b. c.keeps.above i (omega arith) b) in
            rw (v, log-kept keeps-names k.task.log) at (d.result o.result one few o.step)

        keeps-next : Keeps 12288 (above e) t w
        keeps-next = keeps_then c.keeps d.keeps

        stops : (n : NoValue) (v : Tree.ConstVal) (r' : Result Filled) → span_of (names_in s t m) (se_at s q).low (se_at s q).high ≡ answered (Err n) → place_all (names_in s t m) v (ses_from s r count j) r' ≡ answered (Err n)
        unfolding place_all
        stops N.Failed v r' z = rw (selectors-split, z)
        stops N.LongString v r' z = rw (selectors-split, z)

        pub selecting-stop : (n : NoValue) → y ≡ Err n → Fills t e a place_selected (Err n) w
        selecting-stop n z =
            filled (Err n) w keeps-next (λ f one few p.
            let o = c.on f one few p in
            sym o.left ∙ stops n (element_in t e) o.result (subst (λ (b : Outcome (Option Extent)). SelectorResult w e (span_of (names_in s t m) (se_at s q).low (se_at s q).high) (element_in t e) o.result b) z (chosen f one few p)))

        goes : (z : Option Extent) (v : Tree.ConstVal) (f : Filled) (o : On u e x (names_in s t m) v (ses_from s r count j) (ses_from s r count 0) f)
            → SpanPlaced w e (span_of (names_in s t m) (se_at s q).low (se_at s q).high) v o.result z → On w e z (names_in s t m) v (ses_from s r count (j + 1)) (ses_from s r count 0) f
        unfolding place_all
        goes z v f o g = record { result = bind o.result (place_indices v g.low g.high); step = g.step; left = rw (selectors-split, g.is) at o.left }

        pub selecting-next : {z : Option Extent} → y ≡ Ok z → Selecting s t m r e a count w z (j + 1)
        selecting-next {z} i = record {
          within = omega arith;
          keeps = keeps-next;
          on = λ f one few p.
              let o = c.on f one few p in
              goes z (element_in t e) f o (subst (λ (b : Outcome (Option Extent)). SelectorResult w e (span_of (names_in s t m) (se_at s q).low (se_at s q).high) (element_in t e) o.result b) i (chosen f one few p));
        }
