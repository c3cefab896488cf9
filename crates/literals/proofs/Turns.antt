-- All elements of a literal.
use mathlib.Core.Path.{◌≡◌, sym, ap, ◌∙◌, subst}
use mathlib.Core.Bool.{false}
use mathlib.Core.List.{[], ◌∷◌}
use Prim.Native.Nat.{ℕ, suc, ◌+◌, ◌-◌, ◌≤◌, ◌<◌}
use native.Mathlib.Omega.{arith}
use lib.ListN.{drop, get_or}
use lib.Seq.{get_or-drop, drop-drop}
use Rattle.checks.specs.Checks.{KindLine}
use Rattle.semantics.specs.Text.{Bytes}
use Rattle.semantics.specs.Tree.{Node, Els}
use Rattle.semantics.specs.Tree.Ex.{array_ex}
use Rattle.semantics.specs.Tree.ArrayEx.{lit}
use Rattle.semantics.specs.Tree.Els.{and_el}
use Rattle.semantics.specs.Form.{number_of, values, els_of, maybe_ex, ty_of, perhaps_at, forms}
use Rattle.semantics.specs.Form.Kind.{k_ty, k_ex, k_el}
use Rattle.semantics.specs.Form.Atom.{ref, maybe}
use Rattle.semantics.specs.Form.Part.{one, many}
use Rattle.semantics.specs.Fold.{Result, bind}
use Rattle.semantics.specs.Array.{Filled, none_filled, fill_element, fill}
use Rattle.decimal.specs.Number as Number
use Rattle.lines.specs.Lines.{reads_in, read_at, nodes_in}
use Rattle.refs.proofs.Fields.{head-drop, tail-drop}
use Rattle.sizes.proofs.Types.{May, maybe-head, CountedRefs, group_at}
use Rattle.placements.specs.declared.Extent.{Extent}
use Rattle.std.specs.Prelude.{Option, Some, Ok}
use Rattle.values.specs.Values.{Outcome}
use Rattle.placements.specs.Placements.{Keeps, Filling, LiteralSoFar, Step}
use Rattle.placements.proofs.Same.{keeps_then}
use Rattle.placements.proofs.Fillings.{filling-wider}
use Rattle.leaf.specs.Folds.{ex_at}
use Rattle.literals.specs.Literals.{el_at, els_at, ElementTask, LiteralLine, above, ElementFilled, AllFilled}
use Rattle.names.specs.Table.{ConstsLogged, names_in}
use Rattle.literals.proofs.Names.{log-kept, logged-kept}
use Rattle.literals.proofs.Placing.{goes_on, step-ends}
use Rattle.literals.proofs.Lines.{parts_at, makes, good-line, count-is}

-- ---- the line of a literal

module _ {s : Bytes} {r : ℕ} (k : LiteralLine s r) where
  pub literal-refs : May (reads_in s) (r - 1) 69 (get_or (read_at s (r - 1)).fields 0 []) × May (reads_in s) (r - 1) 75 (get_or (read_at s (r - 1)).fields 1 []) × CountedRefs (reads_in s) (r - 1) 76 2 (read_at s (r - 1)).fields
  unfolding forms
  literal-refs =
      let fs = (read_at s (r - 1)).fields in
      let w = parts_at k.line k.form in
      let x = maybe-head (reads_in s) (r - 1) k_ex (one (maybe k_ty) ∷ (many (ref k_el) ∷ [])) fs w.0 w.1 in
      let y = maybe-head (reads_in s) (r - 1) k_ty (many (ref k_el) ∷ []) (drop 1 fs) x.1 x.2 in
      (x.0, rw (get_or-drop 1 fs 0 []) at y.0, group_at (reads_in s) (r - 1) 2 k_el [] fs (rw (drop-drop 1 1 fs) at y.1) (rw (drop-drop 1 1 fs) at y.2))

  pub literal-is : ex_at s r ≡ array_ex (lit (maybe_ex (perhaps_at (nodes_in s) (number_of (get_or (read_at s (r - 1)).fields 0 [])))) (ty_of (perhaps_at (nodes_in s) (number_of (get_or (read_at s (r - 1)).fields 1 [])))) (els_at s r))
  unfolding forms
  literal-is =
      let fs = (read_at s (r - 1)).fields in
      ap (λ (x : Node). x.ex) (makes k.line k.form) ∙ rw (tail-drop 0 fs, tail-drop 1 fs, tail-drop 2 fs, head-drop 0 fs, head-drop 1 fs, head-drop 2 fs)

-- the elements from j on, where there are `count`
abbrev pub els_from : Bytes → ℕ → ℕ → ℕ → Els
els_from s r count j = els_of (values (ref k_el) (nodes_in s) (count - j) (drop (3 + j) (read_at s (r - 1)).fields))

module _ {s : Bytes} {r : ℕ} (k : LiteralLine s r) {count : ℕ} (hc : count ≡ Number.number_up_to 65536 (get_or (read_at s (r - 1)).fields 2 [])) where
  pub few-elements : count ≤ 16
  few-elements = (count-is k.line (literal-refs k).2 hc).1

  count-exact : count ≡ number_of (get_or (read_at s (r - 1)).fields 2 [])
  count-exact = (count-is k.line (literal-refs k).2 hc).0

  pub all-elements : els_from s r count 0 ≡ els_at s r
  all-elements = let z : count - 0 ≡ number_of (get_or (read_at s (r - 1)).fields 2 []) = omega (arith, count-exact) in rw z

  module _ {j : ℕ} (h : j < count) {q : ℕ} (hq : q ≡ Number.number_up_to 65536 (get_or (read_at s (r - 1)).fields (3 + j) [])) where
    element-good : (q ≡ number_of (get_or (read_at s (r - 1)).fields (3 + j) [])) × KindLine 76 s q
    element-good = good-line k.line 76 (get_or (read_at s (r - 1)).fields (3 + j) []) q hq ((literal-refs k).2.each j (omega (arith, count-exact)))

    pub element-line : KindLine 76 s q
    element-line = element-good.1

    pub elements-split : els_from s r count j ≡ and_el (el_at s q) (els_from s r count (j + 1))
    elements-split =
        let z : count - j ≡ suc (count - (j + 1)) = omega arith in
        let y : suc (3 + j) ≡ 3 + (j + 1) = omega arith in
        rw (z, head-drop (3 + j) (read_at s (r - 1)).fields, tail-drop (3 + j) (read_at s (r - 1)).fields, y, element-good.0)

-- ---- the loop

-- j elements are placed, and those that are left complete the literal
pub record Turning (s t : Bytes) (m r count : ℕ) (u : Bytes) (x : Extent) (j : ℕ) : Type 0 where
  pub within : j ≤ count
  pub keeps : Keeps 16384 49152 t u
  pub literal : Filled
  pub filling : Filling u (above j) j x.next x.reach literal
  pub left : fill (names_in s t m) (els_from s r count j) literal ≡ fill (names_in s t m) (els_from s r count 0) none_filled

module _ {s t₀ : Bytes} {m r : ℕ} (k : LiteralLine s r) (g : ConstsLogged s t₀ m) {t : Bytes} (a : (Filling t 49152 0 0 0 none_filled) × ((b : ℕ) → Keeps 16384 b t₀ t)) where
  module _ {count : ℕ} (hc : count ≡ Number.number_up_to 65536 (get_or (read_at s (r - 1)).fields 2 [])) where
    few : count ≤ 16
    few = few-elements k hc

    -- the literal, as the working space before the start has its names
    whole_is : fill (names_in s t m) (els_from s r count 0) none_filled ≡ fill (names_in s t₀ m) (els_at s r) none_filled
    whole_is = rw (all-elements k hc, log-kept (a.1 49152) g)

    module _ {u : Bytes} {x : Extent} {j : ℕ} (c : Turning s t m r count u x j) where
      pub turning-end : count ≤ j → AllFilled t₀ (fill (names_in s t₀ m) (els_at s r) none_filled) (Ok (Some x)) u
      turning-end h =
          let z : count - j ≡ 0 = omega arith in
          record {
            keeps = keeps_then (a.1 49152) c.keeps;
            count = j;
            few = omega (arith, c.within, few);
            step = record { literal = c.literal; result = sym (rw z at c.left ∙ whole_is); filling = filling-wider c.filling (above 16) (omega (arith, c.within, few)) };
          }

      module _ (h : j < count) {q : ℕ} (hq : q ≡ Number.number_up_to 65536 (get_or (read_at s (r - 1)).fields (3 + j) [])) where
        keeps-both : Keeps 16384 49152 t₀ u
        keeps-both = keeps_then (a.1 49152) c.keeps

        pub turn-line : ElementTask s u m q j
        turn-line = record { line = element-line k hc h hq; log = logged-kept keeps-both g; few = omega (arith, few) }

        module _ (y : Outcome (Option Extent)) {w : Bytes} (d : ElementFilled u j x (fill_element (names_in s u m) (el_at s q)) y w) where
          keeps-next : Keeps 16384 49152 t w
          keeps-next = keeps_then c.keeps d.keeps

          step-next : Step w (above (j + 1)) (j + 1) y (fill_element (names_in s t m) (el_at s q) c.literal)
          step-next = rw (log-kept c.keeps (logged-kept (a.1 49152) g)) at (d.step c.literal c.filling)

          -- what is left, by what the element gives
          left-next : bind (fill_element (names_in s t m) (el_at s q) c.literal) (fill (names_in s t m) (els_from s r count (j + 1))) ≡ fill (names_in s t m) (els_from s r count 0) none_filled
          left-next = rw (elements-split k hc h hq) at c.left

          pub turning-stop : (z : Outcome (Option Extent)) → y ≡ z → goes_on z ≡ false → AllFilled t₀ (fill (names_in s t₀ m) (els_at s r) none_filled) z w
          turning-stop z i e =
              let o = subst (λ (b : Outcome (Option Extent)). Step w (above (j + 1)) (j + 1) b (fill_element (names_in s t m) (el_at s q) c.literal)) i step-next in
              record {
                keeps = keeps_then (a.1 49152) keeps-next;
                count = j + 1;
                few = omega (arith, few);
                step = subst (λ (b : Result Filled). Step w (above 16) (j + 1) z b) (left-next ∙ whole_is) (step-ends z e w (above (j + 1)) (above 16) (j + 1) (fill_element (names_in s t m) (el_at s q) c.literal) (fill (names_in s t m) (els_from s r count (j + 1))) o);
              }

          pub turning-next : {z : Extent} → y ≡ Ok (Some z) → Turning s t m r count w z (j + 1)
          turning-next {z} e =
              let o : LiteralSoFar w (above (j + 1)) (j + 1) z.next z.reach (fill_element (names_in s t m) (el_at s q) c.literal) = subst (λ (b : Outcome (Option Extent)). Step w (above (j + 1)) (j + 1) b (fill_element (names_in s t m) (el_at s q) c.literal)) e step-next in
              record { within = omega arith; keeps = keeps-next; literal = o.literal; filling = o.filling; left = rw o.result at left-next }
