-- What the lines of each form take: one line more than what they refer to; and no `fd` line has more than 16 names. One table of laws for all forms.
use mathlib.Core.Path.{◌≡◌}
use mathlib.Core.Bool.{true, false}
use mathlib.Core.List.{List, [], ◌∷◌, ◌++◌}
use Rattle.std.specs.Prelude.{Option, None, Some}
use Prim.Native.Nat.{ℕ, zero, suc, ◌+◌, ◌≤◌, max}
use native.Mathlib.Omega.{arith}
use lib.ListN.{length, drop}
use Rattle.semantics.specs.Text.{Bytes, head_part, tail_parts}
use Rattle.semantics.specs.Tree.{AdtDecl, Node}
use Rattle.semantics.specs.Form.{Kind, Row, Atom, Part, Value, forms, node_at, perhaps_at, value, values, make, number_of, fits, is_count, is_number, ones, ty_of, tys_of, fds_of, cases_of}
use Rattle.semantics.specs.Form.Kind.{k_ty, k_fd, k_pc}
use Rattle.semantics.specs.Form.Atom.{name, key, ref, maybe, unary_op, binary_op, line_or_col, size, i64, offset, real, text}
use Rattle.semantics.specs.Form.Part.{one, many}
use Rattle.semantics.specs.Refusal.{sum_of}
use Rattle.form.specs.Table.{row_at}
use Rattle.semantics.proofs.Common.{never, both}
use Rattle.form.proofs.Table.{Each, done, ◌also◌}
use Rattle.refs.proofs.Fields.{count-number, values_length}
use Rattle.layout.specs.Lines.{lines_of, lines_of_all, type_lines, field_lines, case_lines, decl_lines, FewNames, FewInPick}
use Rattle.laws.specs.Every.{Every}

-- ---- what a node takes

-- The lines of what a line makes, whatever its kind: what it does not make takes 1 here at most.
abbrev pub node_lines : Node → ℕ
node_lines m = max (lines_of m.ty) (max (suc (type_lines m.fd.ty)) (max (suc (field_lines m.case.fields)) (sum_of decl_lines m.declares.adts)))

abbrev pub perhaps_lines : Option Node → ℕ
perhaps_lines None = 0
perhaps_lines (Some m) = node_lines m

abbrev pub value_lines : (a : Atom) → Value a → ℕ
value_lines name v = 0
value_lines key v = 0
value_lines (ref k) v = node_lines v
value_lines (maybe k) v = perhaps_lines v
value_lines unary_op v = 0
value_lines binary_op v = 0
value_lines line_or_col v = 0
value_lines size v = 0
value_lines i64 v = 0
value_lines offset v = 0
value_lines real v = 0
value_lines text v = 0

-- of all that fields refer to
abbrev pub parts_lines : List Part → List Node → List Bytes → ℕ
parts_lines [] ns fs = 0
parts_lines (one a ∷ ps) ns fs = value_lines a (value a ns (head_part fs)) + parts_lines ps ns (tail_parts fs)
parts_lines (many a ∷ ps) ns fs = let n = number_of (head_part fs) in sum_of (value_lines a) (values a ns n (tail_parts fs)) + parts_lines ps ns (drop (suc n) fs)

-- no `fd` line has more than 16 names
abbrev pub FewDecl : AdtDecl → Type 0
FewDecl d = FewNames d.fields × FewInPick d.pick

abbrev pub FewOf : Node → Type 0
FewOf m = (length m.fd.names ≤ 16) × FewNames m.case.fields × Every FewDecl m.declares.adts

-- ---- lists of nodes, and counts

types-lines : (ms : List Node) → lines_of_all (tys_of ms) ≤ sum_of node_lines ms
types-lines [] = omega arith
types-lines (m ∷ ms) = omega (arith, types-lines ms)

fields-lines : (ms : List Node) → field_lines (fds_of ms) ≤ sum_of node_lines ms
fields-lines [] = omega arith
fields-lines (m ∷ ms) = omega (arith, fields-lines ms)

cases-lines : (ms : List Node) → case_lines (cases_of ms) ≤ sum_of node_lines ms
cases-lines [] = omega arith
cases-lines (m ∷ ms) = omega (arith, cases-lines ms)

type-lines-of : (o : Option Node) → type_lines (ty_of o) ≤ perhaps_lines o
type-lines-of None = omega arith
type-lines-of (Some m) = omega arith

-- ---- by forms

module _ (ns : List Node) where
  abbrev pub FewBefore : Type 0
  FewBefore = (r : ℕ) → FewOf (node_at ns r)

  -- what a form makes takes at most one more than what its fields refer to, and has few names where the nodes before have
  abbrev pub BoundedMake : Row → Type 0
  BoundedMake r = (fs : List (List ℕ)) → fits r.parts fs ≡ true
      → (node_lines (make r.parts r.make ns fs) ≤ suc (parts_lines r.parts ns fs)) × (FewBefore → FewOf (make r.parts r.make ns fs))

  -- a form that makes no type, field, case or record
  plain : {x : ℕ} → (1 ≤ suc x) × (FewBefore → (0 ≤ 16) × Unit {0} × Unit {0})
  plain = (omega arith, λ g. (omega arith, tt, tt))

  -- a count and as many references
  abbrev group : Kind → List (List ℕ) → List Node
  group k fs = values (ref k) ns (number_of (head_part fs)) (tail_parts fs)

  few-fields : (n : ℕ) (fs : List (List ℕ)) → FewBefore → FewNames (fds_of (values (ref k_fd) ns n fs))
  few-fields zero fs h = tt
  few-fields (suc n) fs h = ((h (number_of (head_part fs))).0, few-fields n (tail_parts fs) h)

  few-cases : (n : ℕ) (fs : List (List ℕ)) → FewBefore → FewInPick (Some (cases_of (values (ref k_pc) ns n fs)))
  few-cases zero fs h = tt
  few-cases (suc n) fs h = ((h (number_of (head_part fs))).1, few-cases n (tail_parts fs) h)

  array-sound : BoundedMake (row_at 6)
  unfolding forms
  array-sound fs h = (omega arith, λ g. (omega arith, tt, tt))

  tuple-sound : BoundedMake (row_at 7)
  unfolding forms
  tuple-sound fs h = (omega (arith, types-lines (group k_ty fs)), λ g. (omega arith, tt, tt))

  field-sound : BoundedMake (row_at 24)
  unfolding forms
  field-sound [] h = never h
  field-sound (f ∷ []) h = never (both (is_number f) false h).1
  field-sound (f ∷ (g ∷ fs)) h =
      let c = count-number g (both (is_count g) (fits (ones (number_of g) name ++ []) fs) (both (is_number f) (fits (many name ∷ []) (g ∷ fs)) h).1).0 in
      (omega (arith, type-lines-of (perhaps_at ns (number_of f))), λ q. (omega (arith, c.1, values_length name ns (number_of g) fs), tt, tt))

  case-sound : BoundedMake (row_at 25)
  unfolding forms
  case-sound fs h =
      let gs = drop (suc (number_of (head_part fs))) fs in
      (omega (arith, fields-lines (group k_fd gs)), λ g. (omega arith, few-fields (number_of (head_part gs)) (tail_parts gs) g, tt))

  adt-sound : BoundedMake (row_at 26)
  unfolding forms
  adt-sound fs h =
      let gs = tail_parts fs in
      (omega (arith, fields-lines (group k_fd gs)), λ g. (omega arith, tt, ((few-fields (number_of (head_part gs)) (tail_parts gs) g, tt), tt)))

  pick-sound : BoundedMake (row_at 27)
  unfolding forms
  pick-sound fs h =
      let gs = tail_parts fs in
      let ks = drop (suc (number_of (head_part gs))) gs in
      (omega (arith, fields-lines (group k_fd gs), cases-lines (group k_pc ks)), λ g. (omega arith, tt, ((few-fields (number_of (head_part gs)) (tail_parts gs) g, few-cases (number_of (head_part ks)) (tail_parts ks) g), tt)))

  pub all_sound : Each BoundedMake forms
  unfolding forms
  all_sound =
      (λ fs h. plain) also (λ fs h. plain) also (λ fs h. plain) also (λ fs h. plain) also (λ fs h. plain) also (λ fs h. plain) also
      array-sound also tuple-sound also
      (λ fs h. plain) also (λ fs h. plain) also (λ fs h. plain) also (λ fs h. plain) also (λ fs h. plain) also (λ fs h. plain) also (λ fs h. plain) also (λ fs h. plain) also
      (λ fs h. plain) also (λ fs h. plain) also (λ fs h. plain) also (λ fs h. plain) also (λ fs h. plain) also (λ fs h. plain) also (λ fs h. plain) also (λ fs h. plain) also
      field-sound also case-sound also adt-sound also pick-sound also
      (λ fs h. plain) also (λ fs h. plain) also (λ fs h. plain) also (λ fs h. plain) also (λ fs h. plain) also (λ fs h. plain) also (λ fs h. plain) also
      (λ fs h. plain) also (λ fs h. plain) also (λ fs h. plain) also (λ fs h. plain) also (λ fs h. plain) also (λ fs h. plain) also (λ fs h. plain) also done
