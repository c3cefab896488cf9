-- Laws of a pass, line by line.
use mathlib.Core.Path.{◌≡◌, refl, sym, ap, ◌∙◌}
use mathlib.Core.Bool.{Bool, true, false, not, ◌&&◌}
use mathlib.Core.List.{List, [], ◌∷◌}
use Rattle.std.specs.Prelude.{Option, None, Some}
use Prim.Native.Nat.{ℕ, suc, ◌+◌, ◌≤◌, ◌<◌}
use native.Mathlib.Omega.{arith}
use native.Mathlib.Numerals.{add-one}
use lib.Dec.{eqb}
use lib.ListN.{length, get_or}
use Rattle.std.specs.Option.{is_some, option_eq}
use borrow.Author.Tests.{eqb-true, eqb-false, eq-eqb, ne_eqb, not-true}
use Rattle.semantics.proofs.Common.{both}
use Rattle.semantics.specs.Text.{Bytes}
use Rattle.semantics.specs.Tree.{ConstDecl}
use Rattle.semantics.specs.Form.{letter}
use Rattle.semantics.specs.Sheet.{Located, sheet_source}
use Rattle.semantics.specs.Fold.{Const}
use Rattle.semantics.specs.Const.{Refusal, Folding, iota_at, iota_next, new_counter, pass, passes_from, constants}
use Rattle.decimal.specs.Number as Number
use Rattle.form.specs.Table.{kind_at}
use Rattle.lines.specs.Lines.{lines_in, read_at, nodes_in, form_at}
use Rattle.lines.proofs.Line.{kind-is}
use Rattle.implement.specs.Modules.{module_at, line_number, Open}
use Rattle.checks.specs.Checks.{Checked, Kept}
use Rattle.checks.proofs.Laws.{few-consts}
use Rattle.source.specs.Walk.{open_at}
use Rattle.chains.proofs.Laws.{chained-none}
use Rattle.names.specs.Table.{const_chains, log_in}
use Rattle.iota.specs.declared.Stepped.{Stepped}
use Rattle.iota.specs.Iota.{counter_of, stepped_of}
use Rattle.iota.proofs.Counter.{moved-counter, moved_value}
use Rattle.consts.specs.declared.Pass.{Pass}
use Rattle.std.specs.Prelude.{Result, Ok, Err}
use Rattle.answers.specs.declared.Refusal as Answers
use Rattle.answers.specs.Answers.{refusal_number, refusal_line, refusal_of}
use Rattle.consts.specs.Passes.{group_from, passes_after, const_at, ConstLine, step, too_long, ConstantEntered, AtConstant, PassAt, pass_from, PassMoves, Group, Logs, PassDone, PassesBefore, passes_left, ModulePassed, Collects, left}
use Rattle.consts.proofs.Passes.{open-mod, open-other, group-other, group-in, group-out, group-end, passes-start, passes-mod, passes-other, passes-end, count-mod, count-top}
use Rattle.consts.proofs.Group.{group-start, group-left}
use Rattle.consts.proofs.Lines.{line-number, col-number}

-- the letter that is read of line i
module _ {s : Bytes} (c : Checked s) {i : ℕ} (h : i < lines_in s) where
  pub kind-read : {f x : ℕ} → f ≡ form_at s i → x ≡ kind_at f → letter (read_at s i).form.kind ≡ x
  kind-read e d = kind-is s c.whole i h ∙ ap kind_at (sym e) ∙ sym d

module _ (s t : Bytes) (k : ℕ) (p : Pass) (st : PassAt s t k p) (h : p.line < lines_in s) where
  -- where the group goes on behind the line
  moves-past : (w : Option ℕ) → line_number w ≤ lines_in s → open_at (nodes_in s) (suc p.line) ≡ module_at s (line_number w) → group_from s k p.line ≡ group_from s k (suc p.line)
      → PassMoves s t t k p (record { line = p.line + 1; within = w; count = p.count; iota = p.iota })
  unfolding pass_from
  moves-past w l o g = record {
    stands = record {
      checked = st.checked;
      logged = st.logged;
      inside = omega arith;
      low = l;
      group = st.group;
      opened = rw add-one o;
      room = rw (add-one, ← g) st.room;
      small = st.small;
    };
    next = refl;
    same = rw (add-one, g);
    count = rw (add-one, g);
  }

  module _ {x : ℕ} (kind : letter (read_at s p.line).form.kind ≡ x) where
    pub moves-other : (x ≡ 68 → ⊥) → {w : Option ℕ} → Open s (p.line + 1) w → PassMoves s t t k p (record { line = p.line + 1; within = w; count = p.count; iota = p.iota })
    moves-other z {w} o = moves-past w o.low (sym (rw add-one at o.here)) (group-other s st.checked p.line h k (λ q. z (sym kind ∙ q)))

    module _ (con : x ≡ 68) where
      still : open_at (nodes_in s) (suc p.line) ≡ module_at s (line_number p.within)
      still = open-other s st.checked p.line h (λ q. omega (arith, kind)) (λ q. omega (arith, kind)) ∙ st.opened

      pub moves_out : (line_number p.within ≡ k → ⊥) → PassMoves s t t k p (record { line = p.line + 1; within = p.within; count = p.count; iota = p.iota })
      moves_out z = moves-past p.within st.low still (group-out s st.checked p.line h (line_number p.within) st.opened k (kind ∙ con) z)

      pub at_constant : line_number p.within ≡ k → AtConstant s k p
      at_constant e = record { line = h; kind = kind ∙ con; own = e }

-- ---- lines compared, and the module left

same-number : (i j : ℕ) → eqb i j ≡ eqb (suc i) (suc j)
same-number i j = go (eqb i j) refl
  where
    go : (b : Bool) → eqb i j ≡ b → b ≡ eqb (suc i) (suc j)
    go true e = let z = eqb-true i j e in sym (eq-eqb (suc i) (suc j) (omega arith))
    go false e = let z = eqb-false i j e in sym (ne_eqb (suc i) (suc j) (λ q. z (omega arith)))

same-line : (w k : Option ℕ) → option_eq eqb w k ≡ eqb (line_number w) (line_number k)
same-line None None = refl
same-line None (Some j) = sym (ne_eqb 0 (suc j) (λ q. omega arith))
same-line (Some i) None = sym (ne_eqb (suc i) 0 (λ q. omega arith))
same-line (Some i) (Some j) = same-number i j

module _ (w k : Option ℕ) {b : Bool} (e : b ≡ option_eq eqb w k) where
  pub line-same : b ≡ true → line_number w ≡ line_number k
  line-same q = eqb-true (line_number w) (line_number k) (sym (same-line w k) ∙ sym e ∙ q)

  pub line-other : b ≡ false → line_number w ≡ line_number k → ⊥
  line-other q = eqb-false (line_number w) (line_number k) (sym (same-line w k) ∙ sym e ∙ q)

pub left-is : (k w : Option ℕ) → left (line_number k) (line_number w) ≡ is_some k && not (option_eq eqb w k)
unfolding left
left-is None w = refl
left-is (Some i) w = rw (ne_eqb (suc i) 0 (λ q. omega arith), same-line w (Some i))

-- ---- a constant of the group

module _ (s t : Bytes) (k : ℕ) (p : Pass) (st : PassAt s t k p) (a : AtConstant s k p) where
  group-is : group_from s k p.line ≡ const_at s k p.line ∷ group_from s k (suc p.line)
  group-is = group-in s st.checked p.line a.line (line_number p.within) st.opened k a.kind a.own ∙ ap (λ (o : ℕ). const_at s o p.line ∷ group_from s k (suc p.line)) a.own

  longer : length (group_from s k p.line) ≡ suc (length (group_from s k (suc p.line)))
  longer = ap length group-is

  pub const-line : ConstLine s t p.count k p.line
  const-line = record {
    checked = st.checked;
    logged = st.logged;
    few = omega (arith, st.room, longer);
    line = a.line;
    kind = a.kind;
    group = st.group;
  }

  module _ (line col : ℕ) (hl : line ≡ Number.number_up_to 65536 (get_or (read_at s p.line).fields 1 [])) (hc : col ≡ Number.number_up_to 65536 (get_or (read_at s p.line).fields 2 []))
      (x : Stepped) (hx : x ≡ stepped_of p.iota line col) where
    line-is : line ≡ (const_at s k p.line).it.line
    line-is = hl ∙ line-number s p.line st.checked a.line a.kind

    col-is : col ≡ (const_at s k p.line).it.col
    col-is = hc ∙ col-number s p.line st.checked a.line a.kind

    value-is : x.value ≡ iota_at line col (counter_of p.iota)
    value-is = ap (λ (y : Stepped). y.value) hx

    next-is : counter_of x.next ≡ iota_next line col (counter_of p.iota)
    next-is = rw hx (moved-counter p.iota line col (omega (arith, st.small, st.room)))

    next_small : x.next.value ≤ p.iota.value + 1
    next_small = rw hx (moved_value p.iota line col)

    pass-from-is : pass_from s t k p ≡ step s t p.count k p.line x.value (pass (sheet_source s).implement (group_from s k (suc p.line)) (iota_next line col (counter_of p.iota)))
    unfolding pass_from
    pass-from-is = rw (group-is, value-is, line-is, col-is)

    -- whatever refuses the line
    pub visit-refused-by : {y : Refusal} → ((go : List Const → Folding) → step s t p.count k p.line x.value go ≡ record { log = log_in s t p.count; refused = Some y }) → (pass_from s t k p).refused ≡ Some y
    visit-refused-by f = ap (λ (g : Folding). g.refused) (pass-from-is ∙ f (pass (sheet_source s).implement (group_from s k (suc p.line)) (iota_next line col (counter_of p.iota))))

    module _ (u : Bytes) (kept : Kept 5120 t u) where
      pub visit-refused : (r : Answers.Refusal) → ConstantEntered s t u p.count k p.line x.value (Err r) → ((pass_from s t k p).refused ≡ Some (refusal_of r)) × (refusal_number r ≡ 8)
      visit-refused r f = (visit-refused-by f.0, ap (λ (y : Refusal). y.number) f.1)

      pub visit-on : ConstantEntered s t u p.count k p.line x.value (Ok (tt {0})) → PassMoves s t u k p (record { line = p.line + 1; within = p.within; count = p.count + 1; iota = x.next })
      unfolding pass_from
      visit-on f = record {
        stands = record {
          checked = st.checked;
          logged = f.0;
          inside = omega (arith, a.line);
          low = st.low;
          group = st.group;
          opened = rw add-one (still s t k p st a.line a.kind refl);
          room = rw (add-one p.line) (omega (arith, st.room, longer));
          small = omega (arith, st.small, next_small);
        };
        next = refl;
        same = rw (add-one p.line, next-is) (sym (pass-from-is ∙ f.1 (pass (sheet_source s).implement (group_from s k (suc p.line)) (iota_next line col (counter_of p.iota)))));
        count = rw (add-one p.line) (omega (arith, longer));
      }

-- ---- a pass

abbrev pub pass_start : Option ℕ → ℕ → Pass
pass_start k m = record { line = line_number k; within = k; count = m; iota = record { started = false; line = 0; col = 0; value = 0 } }

module _ (s t : Bytes) (m : ℕ) (k : Option ℕ) (g : Group s t m (line_number k)) where
  start_is : group_from s (line_number k) (line_number k) ≡ group_from s (line_number k) 0
  start_is = group-start s g.checked (line_number k) g.group

  pub begins : PassAt s t (line_number k) (pass_start k m)
  begins = record {
    checked = g.checked;
    logged = g.logged;
    inside = g.group;
    low = g.group;
    group = g.group;
    opened = g.opened;
    room = omega (arith, g.room, ap length start_is);
    small = omega arith;
  }

  pub begin-count : m + length (group_from s (line_number k) (line_number k)) ≡ m + length (group_from s (line_number k) 0)
  begin-count = rw start_is

  begin-is : pass_from s t (line_number k) (pass_start k m) ≡ pass (sheet_source s).implement (group_from s (line_number k) 0) new_counter (log_in s t m)
  unfolding pass_from counter_of
  begin-is = rw start_is

  module _ (u : Bytes) (p : Pass) (st : PassAt s u (line_number k) p) (same : pass_from s u (line_number k) p ≡ pass_from s t (line_number k) (pass_start k m)) where
    pub pass-refused : {x : Refusal} → (pass_from s u (line_number k) p).refused ≡ Some x → (pass (sheet_source s).implement (group_from s (line_number k) 0) new_counter (log_in s t m)).refused ≡ Some x
    pass-refused e = ap (λ (f : Folding). f.refused) (sym begin-is ∙ sym same) ∙ e

    -- the pass is done at the last line, and where the module is left
    pub at-end : lines_in s ≤ p.line → group_from s (line_number k) p.line ≡ []
    at-end h = group-end s st.checked (line_number k) p.line h

    pub at_left : {b : Bool} → b ≡ left (line_number k) (line_number p.within) → b ≡ true → line_number k ≤ p.line → group_from s (line_number k) p.line ≡ []
    unfolding left
    at_left e q l =
        let w = both (not (eqb (line_number k) 0)) (not (eqb (line_number p.within) (line_number k))) (sym e ∙ q) in
        group-left s st.checked (line_number k) p.line (line_number p.within) st.inside l (eqb-false (line_number k) 0 (not-true (eqb (line_number k) 0) w.0)) st.opened (eqb-false (line_number p.within) (line_number k) (not-true (eqb (line_number p.within) (line_number k)) w.1))

    pub pass-done : group_from s (line_number k) p.line ≡ [] → p.count + length (group_from s (line_number k) p.line) ≡ m + length (group_from s (line_number k) 0)
        → Logs s u p.count (pass (sheet_source s).implement (group_from s (line_number k) 0) new_counter (log_in s t m)) × (p.count ≡ m + length (group_from s (line_number k) 0))
    unfolding pass_from
    pass-done e count = (record { logged = st.logged; same = sym begin-is ∙ sym same ∙ rw e }, omega (arith, ap length e))

-- ---- all passes

then-on : (g : List (Located ConstDecl)) (ps : List (List (Located ConstDecl))) (impl : Option Bytes) (log new : List Const)
    → pass impl g new_counter log ≡ record { log = new; refused = None } → passes_from impl (g ∷ ps) log ≡ passes_from impl ps new
then-on g ps impl log new e = rw e

then-stop : (g : List (Located ConstDecl)) (ps : List (List (Located ConstDecl))) (impl : Option Bytes) (log : List Const) {x : Refusal}
    → (pass impl g new_counter log).refused ≡ Some x → (passes_from impl (g ∷ ps) log).refused ≡ Some x
then-stop g ps impl log e = rw e e

module _ (s t : Bytes) (m i : ℕ) (b : PassesBefore s t m i) where
  -- a line that opens no module
  pub past-other : i < lines_in s → (letter (read_at s i).form.kind ≡ 77 → ⊥) → PassesBefore s t m (i + 1) × (passes_left s t m (i + 1) ≡ passes_left s t m i)
  unfolding passes_left
  past-other h z =
      (record { checked = b.checked; logged = b.logged; few = rw add-one (omega (arith, b.few, count-mod s b.checked i)) }, rw (add-one, passes-other s b.checked i h z))

  pub module-group : i < lines_in s → letter (read_at s i).form.kind ≡ 77 → Group s t m (suc i)
  module-group h e = record {
    checked = b.checked;
    logged = b.logged;
    group = omega arith;
    opened = open-mod s b.checked i h e;
    room = omega (arith, b.few, count-mod s b.checked i, count-top s b.checked (suc i), few-consts b.checked);
  }

  -- whatever refuses a line of the module
  pub past-module-refused : i < lines_in s → letter (read_at s i).form.kind ≡ 77 → {y : Refusal}
      → (pass (sheet_source s).implement (group_from s (suc i) 0) new_counter (log_in s t m)).refused ≡ Some y → (passes_left s t m i).refused ≡ Some y
  unfolding passes_left
  past-module-refused h e q = rw (passes-mod s b.checked i h e) (then-stop (group_from s (suc i) 0) (passes_after s (suc i)) (sheet_source s).implement (log_in s t m) q)

  pub past-module : i < lines_in s → letter (read_at s i).form.kind ≡ 77 → (u : Bytes) → Kept 5120 t u → (r : Result ℕ Answers.Refusal) → PassDone s t u m (suc i) r → ModulePassed s t u m i r
  unfolding passes_left
  past-module h e u kept (Ok c) (l, q) = (
    record {
      checked = b.checked;
      logged = l.logged;
      few = rw add-one (omega (arith, b.few, count-mod s b.checked i, q));
    },
    sym (rw (passes-mod s b.checked i h e) (then-on (group_from s (suc i) 0) (passes_after s (suc i)) (sheet_source s).implement (log_in s t m) (log_in s u c) l.same ∙ rw add-one)),
  )
  past-module h e u kept (Err x) (q, f) = (past-module-refused h e q, f)

  pub top-group : Group s t m 0
  unfolding open_at module_at
  top-group = record {
    checked = b.checked;
    logged = b.logged;
    group = omega arith;
    opened = refl;
    room = omega (arith, b.few, count-top s b.checked i, few-consts b.checked);
  }

  -- whatever refuses a line outside modules
  pub past_all_refused : lines_in s ≤ i → passes_left s t m i ≡ constants (sheet_source s) → {y : Refusal}
      → (pass (sheet_source s).implement (group_from s 0 0) new_counter (log_in s t m)).refused ≡ Some y → (constants (sheet_source s)).refused ≡ Some y
  unfolding passes_left
  past_all_refused h same q =
      ap (λ (f : Folding). f.refused) (sym same) ∙ rw (passes-end s b.checked i h) (then-stop (group_from s 0 0) [] (sheet_source s).implement (log_in s t m) q)

  pub past_all : lines_in s ≤ i → passes_left s t m i ≡ constants (sheet_source s) → (u : Bytes) → (r : Result ℕ Answers.Refusal) → PassDone s t u m 0 r → Collects s u r
  unfolding passes_left
  past_all h same u (Ok c) (l, q) =
      let e : constants (sheet_source s) ≡ record { log = log_in s u c; refused = None } =
      sym same ∙ rw (passes-end s b.checked i h) (then-on (group_from s 0 0) [] (sheet_source s).implement (log_in s t m) (log_in s u c) l.same) in
      (ap (λ (f : Folding). f.refused) e, ap (λ (f : Folding). f.log) e, l.logged)
  past_all h same u (Err x) (q, f) = (past_all_refused h same q, f)

pub start-before : (s t : Bytes) → Checked s → PassesBefore s t 0 0
start-before s t c = record { checked = c; logged = record { few = omega arith; each = λ i h. absurd (omega arith); digests = λ i h. absurd (omega arith); chained = chained-none t const_chains }; few = omega arith }

pub start-same : (s t : Bytes) → Checked s → passes_left s t 0 0 ≡ constants (sheet_source s)
unfolding passes_left log_in
start-same s t c = sym (passes-start s c)

-- ---- for callers: what is refused is refused by 8, at a line

pub refused-long : {o : Option Refusal} (r : Answers.Refusal) → (o ≡ Some (refusal_of r)) × (refusal_number r ≡ 8) → o ≡ Some (too_long (refusal_line r))
refused-long r (e, f) = e ∙ ap (λ (q : ℕ). Some (record { number = q; line = refusal_line r })) f

pub collects-long : (s u : Bytes) (r : Answers.Refusal) → Collects s u (Err r) → (constants (sheet_source s)).refused ≡ Some (too_long (refusal_line r))
collects-long s u r h = refused-long r h
