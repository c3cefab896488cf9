-- What `adt` and `pick` lines declare. A `pick` line has a name, the group of its common fields, and behind it the group of its cases.
use mathlib.Core.Path.{◌≡◌, refl, sym, ap, ◌∙◌}
use mathlib.Core.Bool.{Bool, true, false, ◌||◌}
use mathlib.Core.List.{List, [], ◌∷◌, ◌++◌, map}
use Rattle.std.specs.Prelude.{None, Some}
use Prim.Native.Nat.{ℕ, zero, suc, ◌+◌, ◌-◌, ◌≤◌, ◌<◌}
use native.Mathlib.Omega.{arith}
use lib.Dec.{eqb}
use lib.ListN.{length, drop, get_or}
use lib.Seq.{get_or-drop, drop-drop}
use borrow.Author.Tests.{eqb-true}
use Rattle.semantics.specs.Text.{tail_parts}
use Rattle.semantics.specs.Tree.{Node, Case, AdtDecl, no_case}
use Rattle.semantics.specs.Form.{Read, Row, Kind, Part, letter, forms, node_at, values, number_of, fits, holds, is_count, ones, cases_of}
use Rattle.semantics.specs.Form.Kind.{k_fd, k_pc}
use Rattle.semantics.specs.Form.Atom.{name, ref}
use Rattle.semantics.specs.Form.Part.{one, many}
use Rattle.semantics.specs.Refusal.{refs_in}
use Rattle.decimal.specs.Number as Number
use Rattle.form.specs.Table.{row_at, kind_at, row_node}
use Rattle.semantics.proofs.Common.{never, both}
use Rattle.lines.specs.Lines.{lines_in, reads_in, read_at, nodes_in, form_at}
use Rattle.lines.proofs.Line.{form-low, form-is, kind-is, read_fits}
use Rattle.refs.specs.Refs.{fine_ref, fine_refs}
use Rattle.refs.proofs.Fine.{needed-ref}
use Rattle.refs.proofs.Nodes.{node-at}
use Rattle.checks.specs.Checks.{Checked}
use Rattle.sizes.specs.Places.{first_decl, decl_at, RecordLine}
use Rattle.sizes.proofs.Forms.{adt-form, pick-form}
use Rattle.refs.proofs.Fields.{number-exact, head-drop, tail-drop, count-number}
use Rattle.sizes.proofs.Types.{Good, group-good}
use Rattle.sizes.proofs.Places.{name-first, common-is}
use Rattle.shapes.specs.Shapes.{cases_in, cases_at, PickLine, CaseOf}

-- ---- a group of references, and what stands behind it

module _ (ls : List Read) (i : ℕ) (a : Kind) (ps : List Part) where
  refs-first : (m : ℕ) (fs : List (List ℕ)) → fits (ones m (ref a) ++ ps) fs ≡ true → fine_refs ls i (refs_in (ones m (ref a) ++ ps) fs) ≡ true
      → (fits ps (drop m fs) ≡ true) × (fine_refs ls i (refs_in ps (drop m fs)) ≡ true)
  unfolding fine_refs
  refs-first zero fs h k = (h, k)
  refs-first (suc m) [] h k = never cc
  refs-first (suc m) (f ∷ fs) h k =
      refs-first m fs (both (holds (ref a) f) (fits (ones m (ref a) ++ ps) fs) h).1
      (both (fine_ref ls (i + 1) (record { kind = letter a; optional = false; line = number_of f })) (fine_refs ls i (refs_in (ones m (ref a) ++ ps) fs)) k).1

  group-first : (fs : List (List ℕ)) → fits (many (ref a) ∷ ps) fs ≡ true → fine_refs ls i (refs_in (many (ref a) ∷ ps) fs) ≡ true
      → (fits ps (drop (suc (number_of (get_or fs 0 []))) fs) ≡ true) × (fine_refs ls i (refs_in ps (drop (suc (number_of (get_or fs 0 []))) fs)) ≡ true)
  group-first [] h k = never cc
  group-first (f ∷ fs) h k = refs-first (number_of f) fs (both (is_count f) (fits (ones (number_of f) (ref a) ++ ps) fs) h).1 k

group-length : {A : Type 0} (f : Node → A) (a : Kind) (ns : List Node) (m : ℕ) (fs : List (List ℕ)) → length (map f (values (ref a) ns m fs)) ≡ m
group-length f a ns zero fs = refl
group-length f a ns (suc m) fs = ap suc (group-length f a ns m (tail_parts fs))

-- value j of a group is what line `number_of` of field j makes
value-at : {A : Type 0} (f : Node → A) (a : Kind) (ns : List Node) (m : ℕ) (fs : List (List ℕ)) (j : ℕ) (d : A) → j < m
    → get_or (map f (values (ref a) ns m fs)) j d ≡ f (node_at ns (number_of (get_or fs j [])))
value-at f a ns zero fs j d h = absurd (omega arith)
value-at f a ns (suc m) fs zero d h = rw (head-drop 0 fs)
value-at f a ns (suc m) [] (suc j) d h = value-at f a ns m [] j d (omega arith)
value-at f a ns (suc m) (g ∷ fs) (suc j) d h = value-at f a ns m fs j d (omega arith)

-- ---- forms 26 and 27: `adt` and `pick`

module _ (s : List ℕ) (r : ℕ) (c : Checked s) (first : 0 < r) (last : r ≤ lines_in s) where
  kind-of : (f : ℕ) → form_at s (r - 1) ≡ f → letter (read_at s (r - 1)).form.kind ≡ kind_at f
  kind-of f e = kind-is s c.whole (r - 1) (omega arith) ∙ ap kind_at e

  decl-of : (f : ℕ) → form_at s (r - 1) ≡ f → decl_at s r ≡ first_decl (row_node (nodes_in s) f (read_at s (r - 1)).fields).declares.adts
  unfolding decl_at
  decl-of f e =
      ap (λ (m : Node). first_decl m.declares.adts) (node-at s c.whole c.good (r - 1) (omega arith))
      ∙ ap (λ (g : ℕ). first_decl (row_node (nodes_in s) g (read_at s (r - 1)).fields).declares.adts) e

  pub adt-line : form_at s (r - 1) ≡ 26 → RecordLine s r
  unfolding forms
  adt-line e = record { checked = c; first = first; last = last; kind = rw (kind-of 26 e) }

  pub pick-line : form_at s (r - 1) ≡ 27 → PickLine s r
  unfolding forms
  pick-line e = record { checked = c; first = first; last = last; kind = kind-of 27 e }

pub adt-plain : (s : List ℕ) (r : ℕ) → RecordLine s r → form_at s (r - 1) ≡ 26 → (decl_at s r).pick ≡ None
unfolding forms
adt-plain s r l e = ap (λ (d : AdtDecl). d.pick) (decl-of s r l.checked l.first l.last 26 e)

-- a record line of another form is a `pick` line
pub else-pick : (s : List ℕ) (r : ℕ) → RecordLine s r → (form_at s (r - 1) ≡ 26 → ⊥) → PickLine s r
else-pick s r l z = record { checked = l.checked; first = l.first; last = l.last; kind = go (eqb (letter (read_at s (r - 1)).form.kind) 65) refl l.kind }
  where
    h : r - 1 < lines_in s
    h = omega (arith, l.first, l.last)

    go : (b : Bool) → eqb (letter (read_at s (r - 1)).form.kind) 65 ≡ b → b || eqb (letter (read_at s (r - 1)).form.kind) 66 ≡ true → letter (read_at s (r - 1)).form.kind ≡ 66
    go true q k = absurd (z (adt-form (form_at s (r - 1)) (form-low s l.checked.whole (r - 1) h) (sym (kind-is s l.checked.whole (r - 1) h) ∙ eqb-true _ _ q)))
    go false q k = eqb-true (letter (read_at s (r - 1)).form.kind) 66 k

-- ---- a `pick` line

module _ (s : List ℕ) (r : ℕ) (l : PickLine s r) where
  pick-in : r - 1 < lines_in s
  pick-in = omega (arith, l.first, l.last)

  pub pick-record : RecordLine s r
  pick-record = record { checked = l.checked; first = l.first; last = l.last; kind = rw l.kind }

  form-pick : form_at s (r - 1) ≡ 27
  form-pick = pick-form (form_at s (r - 1)) (form-low s l.checked.whole (r - 1) pick-in) (sym (kind-is s l.checked.whole (r - 1) pick-in) ∙ l.kind)

  abbrev parts : List (List ℕ)
  parts = (read_at s (r - 1)).fields

  -- how many common fields there are
  abbrev common : ℕ
  common = number_of (get_or parts 1 [])

  groups : (fits (many (ref k_fd) ∷ (many (ref k_pc) ∷ [])) (drop 1 parts) ≡ true) × (fine_refs (reads_in s) (r - 1) (refs_in (many (ref k_fd) ∷ (many (ref k_pc) ∷ [])) (drop 1 parts)) ≡ true)
  unfolding forms
  groups =
      let w = l.checked.whole in
      let p : (read_at s (r - 1)).form.parts ≡ one name ∷ (many (ref k_fd) ∷ (many (ref k_pc) ∷ [])) = ap (λ (x : Row). x.parts) (form-is s w (r - 1) pick-in) ∙ ap (λ (g : ℕ). (row_at g).parts) form-pick in
      name-first (reads_in s) (r - 1) (many (ref k_fd) ∷ (many (ref k_pc) ∷ [])) parts (rw form-pick at (read_fits s w (r - 1) pick-in)) (rw p at (l.checked.fine (r - 1) pick-in))

  common-count : is_count (get_or parts 1 []) ≡ true
  common-count = rw (← get_or-drop 1 parts 0 []) (group-good (reads_in s) (r - 1) k_fd (many (ref k_pc) ∷ []) (drop 1 parts) groups.0 groups.1).0

  behind : drop (suc (number_of (get_or (drop 1 parts) 0 []))) (drop 1 parts) ≡ drop (common + 2) parts
  behind =
      let e : get_or (drop 1 parts) 0 [] ≡ get_or parts 1 [] = get_or-drop 1 parts 0 [] in
      let z : 1 + suc common ≡ common + 2 = omega arith in
      rw e (drop-drop (suc common) 1 parts ∙ rw z)

  cases-good : (is_count (get_or parts (common + 2) []) ≡ true) × ((j : ℕ) → j < number_of (get_or parts (common + 2) []) → Good (reads_in s) (r - 1) 67 (get_or parts (common + 3 + j) []))
  cases-good =
      let w = group-first (reads_in s) (r - 1) k_fd (many (ref k_pc) ∷ []) (drop 1 parts) groups.0 groups.1 in
      let g = group-good (reads_in s) (r - 1) k_pc [] (drop (common + 2) parts) (rw behind at w.0) (rw behind at w.1) in
      let z : common + 2 + 0 ≡ common + 2 = omega arith in
      let e : get_or (drop (common + 2) parts) 0 [] ≡ get_or parts (common + 2) [] = get_or-drop (common + 2) parts 0 [] ∙ rw z in
      (rw e at g.0, λ j k. let y : common + 3 + j ≡ common + 2 + suc j = omega arith in rw (y, ← get_or-drop (common + 2) parts (suc j) []) (g.1 j (rw e k)))

  pub pick_some : (decl_at s r).pick ≡ Some (cases_at s r)
  unfolding cases_at forms
  pick_some = from (ap (λ (d : AdtDecl). d.pick) (decl-of s r l.checked l.first l.last 27 form-pick))
    where
      from : {ks : List Case} → (decl_at s r).pick ≡ Some ks → (decl_at s r).pick ≡ Some (cases_in (decl_at s r))
      from e = rw e

  cases-are : cases_at s r ≡ cases_of (values (ref k_pc) (nodes_in s) (number_of (get_or parts (common + 2) [])) (drop (common + 3) parts))
  unfolding cases_at forms
  cases-are =
      let z : 1 + suc common ≡ common + 2 = omega arith in
      let y : suc (common + 2) ≡ common + 3 = omega arith in
      ap cases_in (decl-of s r l.checked l.first l.last 27 form-pick)
      ∙ rw (tail-drop 0 parts, head-drop 1 parts, drop-drop (suc common) 1 parts, z, head-drop (common + 2) parts, tail-drop (common + 2) parts, y)

  cases-length : length (cases_at s r) ≡ number_of (get_or parts (common + 2) [])
  cases-length = ap length cases-are ∙ group-length (λ (m : Node). m.case) k_pc (nodes_in s) (number_of (get_or parts (common + 2) [])) (drop (common + 3) parts)

  pub cases-few : length (cases_at s r) ≤ 16
  cases-few = omega (arith, cases-length, (count-number (get_or parts (common + 2) []) cases-good.0).1)

  module _ (fields : ℕ) (hf : fields ≡ Number.number_up_to 65536 (get_or parts 1 [])) where
    common-exact : fields ≡ common
    common-exact = let q = count-number (get_or parts 1 []) common-count in hf ∙ number-exact (get_or parts 1 []) q.0 (omega (arith, q.1))

    fields-length : length (decl_at s r).fields ≡ common
    fields-length =
        ap length (common-is s r pick-record fields hf) ∙ group-length (λ (m : Node). m.fd) k_fd (nodes_in s) fields (drop 2 parts) ∙ common-exact

    pub case_count : (k : ℕ) → k ≡ Number.number_up_to 65536 (get_or parts (fields + 2) []) → (k ≡ length (cases_at s r)) × (k ≤ 16)
    case_count k hk =
        let q = count-number (get_or parts (common + 2) []) cases-good.0 in
        let e = (rw common-exact at hk) ∙ number-exact (get_or parts (common + 2) []) q.0 (omega (arith, q.1)) ∙ sym cases-length in
        (e, omega (arith, e, cases-few))

    pub case-line : (c v : ℕ) → c < length (cases_at s r) → v ≡ Number.number_up_to 65536 (get_or parts (fields + 3 + c) []) → CaseOf s r c v
    case-line c v h hv =
        let m : c < number_of (get_or parts (common + 2) []) = omega (arith, cases-length) in
        let g = cases-good.1 c m in
        let k = needed-ref (reads_in s) (r - 1 + 1) 67 (number_of (get_or parts (common + 3 + c) [])) g.fine in
        let e : v ≡ number_of (get_or parts (common + 3 + c) []) = (rw common-exact at hv) ∙ number-exact (get_or parts (common + 3 + c) []) g.number (omega (arith, k.1, l.last, l.checked.whole.few)) in
        record {
          number = e ∙ rw fields-length;
          line = record { checked = l.checked; first = omega (arith, e, k.0); last = omega (arith, e, k.1, l.last, l.first); kind = rw e k.2 };
          case = sym (rw cases-are (value-at (λ (x : Node). x.case) k_pc (nodes_in s) _ (drop (common + 3) parts) c no_case m ∙ rw (get_or-drop (common + 3) parts c [], e)));
        }
