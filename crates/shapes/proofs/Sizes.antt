-- Sizes of records: of an `adt` line's, of the variants of a `pick` line, and of all of them together.
use mathlib.Core.Path.{◌≡◌, refl, sym, ap, ◌∙◌}
use mathlib.Core.List.{List, [], ◌∷◌, ◌++◌, map}
use Rattle.std.specs.Prelude.{None, Some}
use Prim.Native.Nat.{ℕ, ◌+◌, ◌-◌, ◌≤◌, ◌<◌, max}
use native.Mathlib.Nat.{le_refl}
use native.Mathlib.Numerals.{add-one}
use native.Mathlib.Omega.{arith}
use lib.ListN.{length, drop, get_or, drop_of_length-le}
use lib.Seq.{drop-cons}
use Rattle.semantics.specs.Tree.{Fd, Case, AdtDecl, Shape, no_case}
use Rattle.semantics.specs.Layout.{rounded_size, place, furthest, shape_of, pick_shape, behind_tag, variant_shape, records_of}
use Rattle.layout.proofs.Bounds.{place-above, place-within, furthest-within}
use Rattle.lines.specs.Lines.{form_at}
use Rattle.sizes.specs.declared.place.Reached.{Reached}
use Rattle.sizes.specs.Places.{decl_at, common_fields, case_fields, RecordLine, AllPlaced, common_end}
use Rattle.sizes.proofs.Places.{furthest-append}
use Rattle.shapes.specs.Shapes.{first_shape, shape_at, cases_at, variant_at, PickLine, CaseOf, BehindCommon}
use Rattle.shapes.proofs.Cases.{adt-plain, pick_some}

-- ---- the shape of T

plain-shape : (d : AdtDecl) → d.pick ≡ None → first_shape (records_of d) ≡ shape_of 0 (place 0 d.fields).placed
plain-shape d e = rw e

picked-shape : (d : AdtDecl) (ks : List Case) → d.pick ≡ Some ks
    → first_shape (records_of d) ≡ pick_shape (shape_of behind_tag (place behind_tag d.fields).placed) (map (variant_shape d.fields) ks)
picked-shape d ks e = rw e

pub adt-shape : (s : List ℕ) (r : ℕ) → RecordLine s r → form_at s (r - 1) ≡ 26 → shape_at s r ≡ shape_of 0 (place 0 (decl_at s r).fields).placed
unfolding shape_at
adt-shape s r l e = plain-shape (decl_at s r) (adt-plain s r l e)

pub pick-shape : (s : List ℕ) (r : ℕ) → PickLine s r
    → shape_at s r ≡ pick_shape (shape_of behind_tag (place behind_tag (decl_at s r).fields).placed) (map (variant_shape (decl_at s r).fields) (cases_at s r))
unfolding shape_at
pick-shape s r l = picked-shape (decl_at s r) (cases_at s r) (pick_some s r l)

-- ---- no field passes the end

pub furthest-low : (fs : List Fd) (p q : Reached) → AllPlaced fs p q → p.furthest ≤ p.end → q.furthest ≤ q.end
furthest-low fs p q a h =
    let e = (place p.end fs).end in
    rw (a.furthest, a.end) (furthest-within p.furthest e (place p.end fs).placed (omega (arith, place-above fs p.end)) (place-within fs p.end e (le_refl e)))

pub adt-size : (s : List ℕ) (r x : ℕ) (p q : Reached) → RecordLine s r → form_at s (r - 1) ≡ 26 → p.end ≡ 0 → p.furthest ≡ 0
    → AllPlaced (common_fields s r) p q → x ≡ rounded_size q.furthest → x ≡ (shape_at s r).size
unfolding shape_of
adt-size s r x p q l e h k a g =
    g ∙ rw (adt-shape s r l e, a.furthest, h, k)

-- ---- variants

pub behind-common : (s : List ℕ) (r : ℕ) (p q : Reached) → p.end ≡ 4 → p.furthest ≡ 4 → AllPlaced (common_fields s r) p q → q.end ≤ common_end → BehindCommon s r q
behind-common s r p q h k a b = record {
  end = a.end ∙ rw (h);
  furthest = a.furthest ∙ rw (h, k);
  within = furthest-low (common_fields s r) p q a (omega arith);
  small = b;
}

pub variant-size : (s : List ℕ) (r c v x : ℕ) (p : Reached) → BehindCommon s r p → CaseOf s r c v → x ≡ rounded_size (furthest p.furthest (place p.end (case_fields s v)).placed)
    → x ≡ (variant_at s r c).size
unfolding variant_at shape_of
variant-size s r c v x p b k e =
    let common = place behind_tag (decl_at s r).fields in
    let own = (get_or (cases_at s r) c no_case).fields in
    e ∙ rw (b.furthest, b.end, ap (λ (m : Case). m.fields) k.case) (ap rounded_size (sym (furthest-append behind_tag common.placed (place common.end own).placed)))

-- ---- the largest

pub largest : ℕ → List Shape → ℕ
largest n [] = n
largest n (v ∷ vs) = largest (max n v.size) vs

pick-largest : (x : Shape) (vs : List Shape) → (pick_shape x vs).size ≡ largest x.size vs
unfolding largest
pick-largest x [] = refl
pick-largest x (v ∷ vs) = pick-largest (record { size = max x.size v.size; pointers = x.pointers ++ v.pointers }) vs

-- `size` is the largest of the common fields' and of the variants' of the first c cases
pub record Largest (s : List ℕ) (r size c : ℕ) : Type 0 where
  pub within : c ≤ length (cases_at s r)
  pub rest : largest size (map (variant_shape (decl_at s r).fields) (drop c (cases_at s r))) ≡ (shape_at s r).size

module _ (s : List ℕ) (r : ℕ) (l : PickLine s r) where
  pub largest-start : (x : ℕ) (p : Reached) → BehindCommon s r p → x ≡ rounded_size p.furthest → Largest s r x 0
  unfolding shape_of
  largest-start x p b e = record {
    within = omega arith;
    rest = rw (e, b.furthest) (sym (rw (pick-shape s r l) (pick-largest (shape_of behind_tag (place behind_tag (decl_at s r).fields).placed) (map (variant_shape (decl_at s r).fields) (cases_at s r)))));
  }

  pub largest-next : (size x y c : ℕ) → Largest s r size c → c < length (cases_at s r) → x ≡ (variant_at s r c).size → y ≡ max size x → Largest s r y (c + 1)
  unfolding variant_at largest
  largest-next size x y c m h e f = record {
    within = omega arith;
    rest = rw (f, e, add-one c) (rw (drop-cons (cases_at s r) c no_case h) at m.rest);
  }

  pub largest-end : (size c : ℕ) → Largest s r size c → length (cases_at s r) ≤ c → size ≡ (shape_at s r).size
  unfolding largest
  largest-end size c m h = rw (drop_of_length-le (cases_at s r) h) at m.rest
