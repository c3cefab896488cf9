-- The records' part of demand 3: fields lie apart, in order, inside the record, and its map marks exactly the words at which pointers start.
use Prim.Native.Nat.{ℕ, ◌+◌, ◌*◌, ◌/◌, ◌%◌, ◌≤◌, max}
use native.Mathlib.Nat.{le_refl, le_trans}
use native.Mathlib.Omega.{arith}
use mathlib.Core.Path.{◌≡◌, refl, sym}
use mathlib.Core.Bool.{Bool, true, false, ◌&&◌, ◌||◌, cond}
use mathlib.Core.List.{List, [], ◌∷◌, ◌++◌, map, map-append}
use Rattle.std.specs.Prelude.{Option, None, Some}
use lib.IntN.{pos}
use lib.Dec.{eqb}
use borrow.Author.Tests.{eqb-true, le-leb, eq-eqb}
use Rattle.semantics.specs.Text.{Bytes, same, any}
use Rattle.semantics.specs.Tree.{Ty, Fd, Case, AdtDecl}
use Rattle.semantics.specs.Tree.Ty.{basic, ptr, array, tuple}
use Rattle.semantics.specs.Layout.{align_up, rounded_size, align_of, size_of, is_ptr, marks, marked, PlacedField, place_names, place_line, place, furthest, pointers_of, shape_of, Recorded, without_pick, with_pick, records_for, records_of, record_log, last_of, seen, records_by_key, records}
use Rattle.semantics.specs.Demand.{filled_by, filling, typed_names, typed_fields, typed_of, InOrder, pointer_at, Apart, AllApart}
use Rattle.laws.proofs.Tests.{or_left, or_right, tests_agree, same_refl, same-eq}
use Rattle.laws.proofs.Lists.{last-append}
use Rattle.laws.proofs.Alignments.{four-or-eight, aligned}
use Rattle.laws.proofs.Maps.{map-bits}

-- ---- sizes are words

sized : (t : Ty) → (4 ≤ size_of t) × (size_of t % 4 ≡ 0)
sized (basic b) = four-or-eight (λ n. (4 ≤ n) × (n % 4 ≡ 0)) (omega arith) (omega arith) (basic b)
sized ptr = omega arith
sized (array t) = omega arith
sized (tuple ts) = omega arith

-- ---- the fields lie in order

-- each begins at a word, where the one before it has ended, or later
abbrev InWordOrder : ℕ → List PlacedField → Type 0
InWordOrder end [] = Unit {0}
InWordOrder end (p ∷ ps) = (end ≤ p.offset) × (p.offset % 4 ≡ 0) × InWordOrder (p.offset + size_of p.ty) ps

laid-from : (d e : ℕ) (ps : List PlacedField) → d ≤ e → InWordOrder e ps → InWordOrder d ps
laid-from d e [] h l = tt
laid-from d e (p ∷ ps) h l = (le_trans h l.0, l.1, l.2)

names-laid : (t : Ty) (off : ℕ) (ns : List Bytes) (ps : List PlacedField) → off % 4 ≡ 0 → InWordOrder (place_names t off ns).end ps
    → InWordOrder off ((place_names t off ns).placed ++ ps)
names-laid t off [] ps h l = l
names-laid t off (n ∷ ns) ps h l = (le_refl off, h, names-laid t (off + size_of t) ns ps (omega (arith, sized t)) l)

line-laid : (t : Option Ty) (off : ℕ) (ns : List Bytes) (ps : List PlacedField) → InWordOrder (place_line t ns off).end ps
    → InWordOrder off ((place_line t ns off).placed ++ ps)
line-laid None off ns ps l = l
line-laid (Some t) off ns ps l =
    let at = align_up (align_of t) off in
    let a = aligned t off in
    laid-from off at ((place_names t at ns).placed ++ ps) a.0 (names-laid t at ns ps a.1 l)

fields_laid : (fs : List Fd) (off : ℕ) → InWordOrder off (place off fs).placed
fields_laid [] off = tt
fields_laid (f ∷ fs) off =
    let end = (place_line f.ty f.names off).end in
    line-laid f.ty off f.names (place end fs).placed (fields_laid fs end)

furthest-above : (e : ℕ) (ps : List PlacedField) → e ≤ furthest e ps
furthest-above e [] = le_refl e
furthest-above e (p ∷ ps) = omega (arith, furthest-above (max e (p.offset + size_of p.ty)) ps)

in-order : (e f size : ℕ) (ps : List PlacedField) → InWordOrder e ps → furthest f ps ≤ size → InOrder e size ps
in-order e f size [] l h = tt
in-order e f size (p ∷ ps) l h =
    let x = p.offset + size_of p.ty in
    (l.0, omega (arith, furthest-above (max f x) ps), in-order x (max f x) size ps l.2 h)

-- ---- they are the typed fields of the line

names-theirs : (t : Ty) (off : ℕ) (ns : List Bytes) → map typed_of (place_names t off ns).placed ≡ typed_names (Some t) ns
names-theirs t off [] = refl
names-theirs t off (n ∷ ns) = rw (names-theirs t (off + size_of t) ns)

line-theirs : (t : Option Ty) (off : ℕ) (ns : List Bytes) → map typed_of (place_line t ns off).placed ≡ typed_names t ns
line-theirs None off ns = refl
line-theirs (Some t) off ns = names-theirs t (align_up (align_of t) off) ns

fields-theirs : (fs : List Fd) (off : ℕ) → map typed_of (place off fs).placed ≡ typed_fields fs
fields-theirs [] off = refl
fields-theirs (f ∷ fs) off =
    rw (map-append, line-theirs f.ty off f.names, fields-theirs fs (place_line f.ty f.names off).end)

-- ---- the words marked are those at which pointers start

word-marked : (size off w : ℕ) → off % 4 ≡ 0 → off + 4 ≤ size → marks size w (pos off) ≡ eqb off (w * 4)
word-marked size off w h f =
    rw (le-leb (off + 4) size)
    (tests_agree (eqb (off / 4) w) (eqb off (w * 4)) (λ e. eq-eqb off (w * 4) (omega (arith, eqb-true))) (λ e. eq-eqb (off / 4) w (omega (arith, eqb-true))))

pointers-marked : (e size w : ℕ) (ps : List PlacedField) → InWordOrder e ps → InOrder e size ps → marked size (pointers_of ps) w ≡ any (pointer_at (w * 4)) ps
pointers-marked e size w [] l o = refl
pointers-marked e size w (p ∷ ps) l o = go (is_ptr p.ty) (pointers-marked (p.offset + size_of p.ty) size w ps l.2 o.2)
  where
    go : (b : Bool) → marked size (pointers_of ps) w ≡ any (pointer_at (w * 4)) ps
        → marked size (cond b (pos p.offset ∷ []) [] ++ pointers_of ps) w ≡ (b && eqb p.offset (w * 4)) || any (pointer_at (w * 4)) ps
    go true r = rw (word-marked size p.offset w l.1 (omega (arith, sized p.ty)), r)
    go false r = r

-- ---- the record of an `adt` line

adt-apart : (t : Bytes) (fs : List Fd) → Apart fs (without_pick t fs)
unfolding shape_of
adt-apart t fs =
    let ps = (place 0 fs).placed in
    let size = rounded_size (furthest 0 ps) in
    let l = fields_laid fs 0 in
    let o = in-order 0 0 size ps l (omega arith) in
    record {
      same_fields = fields-theirs fs 0;
      in_order = o;
      marks = λ w. rw (map-bits size (pointers_of ps) w, pointers-marked 0 size w ps l o);
    }

-- ---- the last record of a key is that of the line that fills it

-- nothing is said of a record that no `adt` line fills
abbrev ApartBy : Option (List Fd) → Recorded → Type 0
ApartBy None r = Unit {0}
ApartBy (Some fs) r = Apart fs r

last-unseen : (k : Bytes) (r : Recorded) (xs : List Recorded) → seen k xs ≡ false → last_of k r xs ≡ r
last-unseen k r [] h = refl
last-unseen k r (x ∷ xs) h = rw (or_left (same k x.key) (seen k xs) h) (last-unseen k r xs (or_right (same k x.key) (seen k xs) h))

filled_apart : (k : Bytes) (o : Option (List Fd)) (r : Recorded) (t : Bytes) (fs : List Fd) (ks : Option (List Case)) → ApartBy o r
    → ApartBy (filled_by k o (record { name = t; fields = fs; pick = ks })) (last_of k r (records_for t fs ks))
filled_apart k o r t fs None a = go (same k t)
  where
    go : (b : Bool) → ApartBy (cond (b || false) (Some fs) o) (cond b (without_pick t fs) r)
    go true = adt-apart t fs
    go false = a
filled_apart k o r t fs (Some ks) a = go (with_pick t fs ks) (seen k (with_pick t fs ks)) refl
  where
    go : (xs : List Recorded) (b : Bool) → seen k xs ≡ b → ApartBy (cond b None o) (last_of k r xs)
    go xs true e = tt
    go xs false e = rw (last-unseen k r xs e) a

last_apart : (k : Bytes) (ds : List AdtDecl) (o : Option (List Fd)) (r : Recorded) → ApartBy o r → ApartBy (filling k o ds) (last_of k r (record_log ds))
last_apart k [] o r a = a
last_apart k (d ∷ ds) o r a =
    rw last-append (last_apart k ds (filled_by k o d) (last_of k r (records_of d)) (filled_apart k o r d.name d.fields d.pick a))

last-key : (k : Bytes) (r : Recorded) (xs : List Recorded) → r.key ≡ k → (last_of k r xs).key ≡ k
last-key k r [] h = h
last-key k r (x ∷ xs) h = last-key k (cond (same k x.key) x r) xs (go (same k x.key) refl)
  where
    go : (b : Bool) → same k x.key ≡ b → (cond b x r).key ≡ k
    go true e = sym (same-eq k x.key e)
    go false e = h

-- ---- the settled records

-- xs are the records still to come, and r k is the last record of key k before them
settled-apart : (ds : List AdtDecl) (before xs : List Recorded) (r : Bytes → Recorded)
    → ((k : Bytes) → ApartBy (filling k None ds) (last_of k (r k) xs)) → AllApart ds (records_by_key before xs)
settled-apart ds before [] r a = tt
settled-apart ds before (x ∷ xs) r a =
    go (seen x.key before) (records_by_key (x ∷ before) xs) (settled-apart ds (x ∷ before) xs (λ k. cond (same k x.key) x (r k)) a)
  where
    last : Recorded
    last = last_of x.key x xs

    apart : ApartBy (filling last.key None ds) last
    apart = rw (last-key x.key x xs refl) (rw (same_refl x.key) at (a x.key))

    go : (b : Bool) (ys : List Recorded) → AllApart ds ys → AllApart ds (cond b ys (last ∷ ys))
    go true ys s = s
    go false ys s = (λ fs q. rw q at apart, s)

pub records-apart : (ds : List AdtDecl) → AllApart ds (records ds)
unfolding records
records-apart ds = settled-apart ds [] (record_log ds) (λ k. without_pick k []) (λ k. last_apart k ds None (without_pick k []) tt)
