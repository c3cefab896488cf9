-- How large a record of a sheet can be: 8 bytes for each line of a type, 128 for each line of a field of up to 16 names, and 8.
-- With the 1,024 lines that a sheet has at most, no offset and no size passes 131,080, far below 2 ^ 31: 32 bits hold them all.
use Prim.Native.Nat.{ℕ, suc, ◌+◌, ◌*◌, ◌≤◌, max}
use native.Mathlib.Nat.{le_refl, le_trans, mul-le-mul_right, suc-mul}
use native.Mathlib.Omega.{arith}
use mathlib.Core.List.{List, [], ◌∷◌, ◌++◌, map}
use Rattle.std.specs.Prelude.{Option, None, Some}
use lib.ListN.{length}
use Rattle.semantics.specs.Text.{Bytes}
use Rattle.semantics.specs.Tree.{Ty, Tys, Fd, Case, AdtDecl, Shape}
use Rattle.semantics.specs.Tree.Ty.{basic, ptr, array, tuple}
use Rattle.semantics.specs.Tree.Tys.{no_tys, and_ty}
use Rattle.semantics.specs.Layout.{align_up, align_of, size_of, end_of_all, PlacedField, place_names, place_line, place, furthest, shape_of, pick_shape, Recorded, behind_tag, variant_fields, variant_shape, variants_of, cases_from, records_for, records_of}
use Rattle.laws.proofs.Alignments.{four-or-eight, aligned}
use Rattle.layout.specs.Lines.{lines_of, lines_of_all, type_lines, field_lines, case_lines, pick_lines, decl_lines, FewNames, FewInPick}
use Rattle.laws.specs.Every.{Every}
use Rattle.laws.proofs.Every.{every_append}

-- ---- types

mutual
  pub size-bound : (t : Ty) → size_of t ≤ 8 * lines_of t
  size-bound (basic b) = four-or-eight (λ n. n ≤ 8) (omega arith) (omega arith) (basic b)
  size-bound ptr = omega arith
  size-bound (array t) = omega arith
  size-bound (tuple ts) = omega (arith, ends-bound ts 0)

  -- where padding is needed, the field before it has left that much of its 8 bytes
  ends-bound : (ts : Tys) (off : ℕ) → end_of_all ts off ≤ align_up 8 off + 8 * lines_of_all ts
  ends-bound no_tys off = omega arith
  ends-bound (and_ty t ts) off = omega (arith, aligned t off, size-bound t, ends-bound ts (align_up (align_of t) off + size_of t))

-- ---- where fields end

names-end : (t : Ty) (off : ℕ) (ns : List Bytes) → (place_names t off ns).end ≤ off + length ns * (8 * lines_of t)
names-end t off [] = omega arith
names-end t off (n ∷ ns) = omega (arith, size-bound t, names-end t (off + size_of t) ns, suc-mul (length ns) (8 * lines_of t))

line-end : (t : Option Ty) (off : ℕ) (ns : List Bytes) → length ns ≤ 16 → (place_line t ns off).end ≤ align_up 8 off + 128 * type_lines t
line-end None off ns h = omega arith
line-end (Some t) off ns h = omega (arith, aligned t off, names-end t (align_up (align_of t) off) ns, mul-le-mul_right (8 * lines_of t) h)

place-bound : (fs : List Fd) (off : ℕ) → FewNames fs → (place off fs).end ≤ align_up 8 off + 128 * field_lines fs
place-bound [] off h = omega arith
place-bound (f ∷ fs) off h = omega (arith, line-end f.ty off f.names h.0, place-bound fs (place_line f.ty f.names off).end h.1)

-- ---- each field ends there or before

names-above : (t : Ty) (off : ℕ) (ns : List Bytes) → off ≤ (place_names t off ns).end
names-above t off [] = le_refl off
names-above t off (n ∷ ns) = omega (arith, names-above t (off + size_of t) ns)

line-above : (t : Option Ty) (off : ℕ) (ns : List Bytes) → off ≤ (place_line t ns off).end
line-above None off ns = le_refl off
line-above (Some t) off ns = omega (arith, aligned t off, names-above t (align_up (align_of t) off) ns)

pub place-above : (fs : List Fd) (off : ℕ) → off ≤ (place off fs).end
place-above [] off = le_refl off
place-above (f ∷ fs) off = let end = (place_line f.ty f.names off).end in omega (arith, line-above f.ty off f.names, place-above fs end)

abbrev EndsBy : ℕ → PlacedField → Type 0
EndsBy end p = p.offset + size_of p.ty ≤ end

-- no field passes an end
abbrev pub FieldsWithin : ℕ → List PlacedField → Type 0
FieldsWithin end ps = Every (EndsBy end) ps

names-within : (t : Ty) (off end : ℕ) (ns : List Bytes) → (place_names t off ns).end ≤ end → FieldsWithin end (place_names t off ns).placed
names-within t off end [] h = tt
names-within t off end (n ∷ ns) h = (le_trans (names-above t (off + size_of t) ns) h, names-within t (off + size_of t) end ns h)

line-within : (t : Option Ty) (off end : ℕ) (ns : List Bytes) → (place_line t ns off).end ≤ end → FieldsWithin end (place_line t ns off).placed
line-within None off end ns h = tt
line-within (Some t) off end ns h = names-within t (align_up (align_of t) off) end ns h

pub place-within : (fs : List Fd) (off end : ℕ) → (place off fs).end ≤ end → FieldsWithin end (place off fs).placed
place-within [] off end h = tt
place-within (f ∷ fs) off end h =
    let r = place_line f.ty f.names off in
    every_append (EndsBy end) r.placed (place r.end fs).placed
    (line-within f.ty off end f.names (le_trans (place-above fs r.end) h)) (place-within fs r.end end h)

-- ---- the size of a record

pub furthest-within : (e end : ℕ) (ps : List PlacedField) → e ≤ end → FieldsWithin end ps → furthest e ps ≤ end
furthest-within e end [] h u = h
furthest-within e end (p ∷ ps) h u = furthest-within (max e (p.offset + size_of p.ty)) end ps (omega arith) u.1

-- a record that begins at `base`, 0 or 4: at most 8 bytes more than 128 for each line
shape-bound : (fs : List Fd) (base : ℕ) → FewNames fs → (shape_of base (place base fs).placed).size ≤ align_up 8 (max base 4) + 128 * field_lines fs
unfolding shape_of
shape-bound fs base h =
    let end = (place base fs).end in
    omega (arith, place-bound fs base h, furthest-within base end (place base fs).placed (place-above fs base) (place-within fs base end (le_refl end)))

variant-bound : (fs : List Fd) (k : Case) → FewNames fs → FewNames k.fields
    → (variant_shape fs k).size ≤ 8 + 128 * (field_lines fs + field_lines k.fields)
unfolding shape_of
variant-bound fs k h l =
    let r = place behind_tag fs in
    let s = place r.end k.fields in
    let w = every_append (EndsBy s.end) r.placed s.placed (place-within fs behind_tag s.end (place-above k.fields r.end))
    (place-within k.fields r.end s.end (le_refl s.end)) in
    let e : behind_tag ≤ s.end = le_trans (place-above fs behind_tag) (place-above k.fields r.end) in
    omega (arith, place-bound fs behind_tag h, place-bound k.fields r.end l, furthest-within behind_tag s.end (r.placed ++ s.placed) e w)

-- ---- the records of a declaration

-- a record's size is at most n
abbrev pub SizeAtMost : ℕ → Recorded → Type 0
SizeAtMost n r = r.shape.size ≤ n

largest-bound : (n : ℕ) (fs : List Fd) (s : Shape) (ks : List Case) → s.size ≤ n → Every (λ (k : Case). (variant_shape fs k).size ≤ n) ks
    → (pick_shape s (map (variant_shape fs) ks)).size ≤ n
largest-bound n fs s [] h u = h
largest-bound n fs s (k ∷ ks) h u =
    let v = variant_shape fs k in
    largest-bound n fs (record { size = max s.size v.size; pointers = s.pointers ++ v.pointers }) ks (omega arith) u.1

variants-bound : (n : ℕ) (t : Bytes) (s : Shape) (ps : List PlacedField) (g tag : ℕ) (xs : List Bytes) → s.size ≤ n → Every (SizeAtMost n) (variants_of t s ps g tag xs)
variants-bound n t s ps g tag [] h = tt
variants-bound n t s ps g tag (x ∷ xs) h = (h, variants-bound n t s ps g (suc tag) xs h)

cases-bound : (n : ℕ) (t : Bytes) (fs : List Fd) (g tag : ℕ) (ks : List Case) → Every (λ (k : Case). (variant_shape fs k).size ≤ n) ks
    → Every (SizeAtMost n) (cases_from t fs g tag ks)
cases-bound n t fs g tag [] u = tt
cases-bound n t fs g tag (k ∷ ks) u =
    every_append (SizeAtMost n) (variants_of t (variant_shape fs k) (variant_fields fs k) g tag k.tags) (cases_from t fs (suc g) (tag + length k.tags) ks)
    (variants-bound n t (variant_shape fs k) (variant_fields fs k) g tag k.tags u.0) (cases-bound n t fs (suc g) (tag + length k.tags) ks u.1)

-- each variant by itself, where all cases together take so many lines
each-variant : (n : ℕ) (fs : List Fd) (ks : List Case) → FewNames fs → FewInPick (Some ks) → 8 + 128 * (field_lines fs + case_lines ks) ≤ n
    → Every (λ (k : Case). (variant_shape fs k).size ≤ n) ks
each-variant n fs [] h u b = tt
each-variant n fs (k ∷ ks) h u b = (omega (arith, variant-bound fs k h u.0), each-variant n fs ks h u.1 (omega arith))

records-bound : (n : ℕ) (d : AdtDecl) → FewNames d.fields → FewInPick d.pick → 8 + 128 * decl_lines d ≤ n → Every (SizeAtMost n) (records_of d)
records-bound n d h u b = go d.pick u b
  where
    go : (p : Option (List Case)) → FewInPick p → 8 + 128 * suc (field_lines d.fields + pick_lines p) ≤ n → Every (SizeAtMost n) (records_for d.name d.fields p)
    go None u b = (omega (arith, shape-bound d.fields 0 h), tt)
    go (Some ks) u b =
        let v = each-variant n d.fields ks h u (omega arith) in (
          largest-bound n d.fields (shape_of behind_tag (place behind_tag d.fields).placed) ks (omega (arith, shape-bound d.fields behind_tag h)) v,
          cases-bound n d.name d.fields 0 0 ks v,
        )

-- ---- on a sheet of 1,024 lines

-- a declaration of few names that takes no more lines than a sheet has
abbrev pub FitsSheet : AdtDecl → Type 0
FitsSheet d = FewNames d.fields × FewInPick d.pick × (decl_lines d ≤ 1024)

pub sheet-records-bound : (d : AdtDecl) → FitsSheet d → Every (SizeAtMost 131080) (records_of d)
sheet-records-bound d h = records-bound 131080 d h.0 h.1 (omega (arith, h.2))
