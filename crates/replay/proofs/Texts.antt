-- Laws of the rows of a listing.
use Prim.Native.Nat.{ℕ, zero, suc, ◌+◌, ◌-◌, ◌*◌, ◌≤◌, ◌<◌, min}
use mathlib.Core.Path.{◌≡◌, refl, sym, ap, ◌∙◌}
use mathlib.Core.Bool.{Bool, true, false, cond}
use mathlib.Core.List.{List, [], ◌∷◌}
use Rattle.std.specs.Prelude.{Option, None, Some}
use native.Mathlib.Nat.{zero-mul, suc-mul, le_refl}
use native.Mathlib.Omega.{arith}
use lib.Dec.{leb, ltb, eqb}
use lib.ListN.{length, drop, get_or, get_or-eq_default}
use borrow.Author.Tests.{lt-ltb, le-ltb, eq-eqb, ne_eqb, leb-true, leb-false}
use Rattle.semantics.specs.Text.{Bytes, bytes, same, fields_of}
use Rattle.semantics.specs.Form.{fields_from}
use Rattle.semantics.specs.Image.{handle, part_at}
use Rattle.text.specs.Parts.{part_start_at}
use Rattle.decimal.specs.Number.{most}
use Rattle.stored.specs.Stored.{Stored}
use Rattle.stored.specs.Reading.{number_read, keyword_of, width_of, row_values, read_row, most_types}
use Rattle.stored.specs.Laying.{Laying, lay_image, lay_part, lay_bytes, lay_array, move_to, lay_all}
use Rattle.laying.specs.declared.State.{State}
use Rattle.laying.specs.Steps.{laying_of, seen_laying, MoreFits, Lays}
use denote.Enum.Bare.{sameb}
use Rattle.codes.specs.contracts.item.Item.{the_type}
use Rattle.codes.specs.declared.item.Item.{Item}
use Rattle.codes.specs.declared.item.Item.TheVariants as I
use Rattle.codes.specs.Kinds.{item_number}
use Rattle.replay.specs.Rows.{table_at, element_size_at, width, laid_item, laid_row}
use Rattle.row_fields.proofs.Writes.{fields-from}

-- ---- the same step said otherwise

pub lays-as : {q q' : Option Laying} {s r : State} {im ar : Bytes} → q ≡ q' → Lays q s r im ar → Lays q' s r im ar
lays-as e l = record { is = l.is ∙ e; low = l.low; high = l.high; item = l.item }

pub lays-none : {q : Option Laying} {s : State} (im ar : Bytes) → MoreFits s (length ar) → Some (laying_of s im ar) ≡ q → Lays q s s im ar
unfolding seen_laying
lays-none {q} {s} im ar h e = record { is = ap (λ (b : Bool). cond b None (Some (laying_of s im ar))) h.fitted ∙ e; low = h.low; high = h.high; item = omega arith }

-- ---- numbers that are cut off at a size that no buffer has

-- what holds of n, and of the largest number where n lies above it, holds of n cut off
cut_off : (P : ℕ → Type 0) (n : ℕ) → (P n) → (most < n → P most) → P (min n most)
cut_off P n a b = go (leb n most) refl
  where
    go : (t : Bool) → leb n most ≡ t → P (min n most)
    go true e = let l = leb-true n most e in let q : min n most ≡ n = omega arith in rw q a
    go false e = let l = leb-false n most e in let q : min n most ≡ most = omega arith in rw q (b l)

x-le : (size x : ℕ) → x ≤ suc size * x
x-le size x = rw (suc-mul size x) (omega arith)

module _ (m : Laying) (image : length m.image < most) where
  cut-image : (o : ℕ) (ys : Bytes) → most ≤ o → lay_image o ys m ≡ None
  unfolding lay_image
  cut-image o ys h = rw (lt-ltb (length m.image) (o + length ys) (omega arith))

  array-none : (o n : ℕ) → length m.area < part_at m.end + n → lay_array o n m ≡ None
  unfolding lay_array
  array-none o n h = rw (lt-ltb (length m.area) (part_at m.end + n) h)

  cut_array : (o n : ℕ) → lay_array (min o most) n m ≡ lay_array o n m
  unfolding lay_array lay_image
  cut_array o n =
      cut_off (λ (x : ℕ). lay_array x n m ≡ lay_array o n m) o refl
      (λ l.
      rw (lt-ltb (length m.image) (most + length (handle m.item)) (omega arith), lt-ltb (length m.image) (o + length (handle m.item)) (omega arith)))

  cut-length : (o size n : ℕ) → length m.area < most → lay_array o (size * min n most) m ≡ lay_array o (size * n) m
  cut-length o zero n h = cut_off (λ (x : ℕ). lay_array o (0 * x) m ≡ lay_array o (0 * n) m) n refl (λ l. rw (zero-mul most, zero-mul n))
  cut-length o (suc size) n h = cut_off (λ (x : ℕ). lay_array o (suc size * x) m ≡ lay_array o (suc size * n) m) n refl (λ l. none-of most (le_refl most) ∙ sym (none-of n (omega arith)))
    where
      none-of : (x : ℕ) → most ≤ x → lay_array o (suc size * x) m ≡ None
      none-of x k = array-none o (suc size * x) (omega (arith, x-le size x))

  module _ (part : m.end - m.start < most) where
    cut-part : (o : ℕ) (ys : Bytes) → most ≤ o → lay_part o ys m ≡ None
    unfolding lay_part
    cut-part o ys h = rw (lt-ltb (m.end - m.start) (o + length ys) (omega arith))

    cut-bytes : (o : ℕ) (ys : Bytes) → lay_bytes (min o most) ys m ≡ lay_bytes o ys m
    unfolding lay_bytes
    cut-bytes o ys =
        cut_off (λ (x : ℕ). lay_bytes x ys m ≡ lay_bytes o ys m) o refl
        (λ l. rw (cut-part most ys (omega arith), cut-image most ys (omega arith), cut-part o ys (omega arith), cut-image o ys (omega arith)))

-- ---- the item of a row

pub no_size : (work : Bytes) (i : ℕ) → most_types ≤ i → 0 ≡ element_size_at work i
unfolding element_size_at
no_size work i h = rw (le-ltb i most_types h)

pub short-table : (work : Bytes) (i : ℕ) → length work ≤ table_at + i → 0 ≡ element_size_at work i
unfolding element_size_at
short-table work i h = rw (get_or-eq_default work 0 h) (go (ltb i most_types))
  where
    go : (b : Bool) → ◌≡◌ {A = ℕ} 0 (cond b 0 0)
    go true = refl
    go false = refl

pub a-size : (work : Bytes) (i : ℕ) → i < most_types → get_or work (table_at + i) 0 ≡ element_size_at work i
unfolding element_size_at
a-size work i h = rw (lt-ltb i most_types h)

cut-size : (work : Bytes) (i : ℕ) → element_size_at work (min i most) ≡ element_size_at work i
cut-size work i = cut_off (λ (x : ℕ). element_size_at work x ≡ element_size_at work i) i refl (λ l. sym (no_size work most (omega arith)) ∙ no_size work i (omega arith))

-- a keyword of none of the four other items is one of values
pub value-kind : (k : Item) → (k ≡ I.Str → ⊥) → (k ≡ I.Array → ⊥) → (k ≡ I.Set → ⊥) → (k ≡ I.Back → ⊥) → (item_number k ≡ 0 → ⊥) × (item_number k < 5)
value-kind I.Bytes a b c d = (λ h. omega arith, omega arith)
value-kind I.Words a b c d = (λ h. omega arith, omega arith)
value-kind I.Bigs a b c d = (λ h. omega arith, omega arith)
value-kind I.Reals a b c d = (λ h. omega arith, omega arith)
value-kind I.Str a b c d = absurd (a refl)
value-kind I.Array a b c d = absurd (b refl)
value-kind I.Set a b c d = absurd (c refl)
value-kind I.Back a b c d = absurd (d refl)

pub real-test : (k : Item) → sameb the_type k I.Reals ≡ eqb (item_number k) 4
real-test I.Bytes = refl
real-test I.Words = refl
real-test I.Bigs = refl
real-test I.Reals = refl
real-test I.Str = refl
real-test I.Array = refl
real-test I.Set = refl
real-test I.Back = refl

module _ (work : Bytes) (k : ℕ) (row im ar : Bytes) (s : State) where
  abbrev sizes : ℕ → ℕ
  sizes = element_size_at work

  abbrev laying_now : Laying
  laying_now = laying_of s im ar

  abbrev fs : List Bytes
  fs = fields_of row

  module _ (some_item : k ≡ 0 → ⊥) (image : length im < most) (area : length ar < most) (ready : MoreFits s (length ar)) {off : ℕ} {f : Bytes}
      (offset : off ≡ min (number_read f) most) (field : f ≡ get_or fs 2 []) where
    at : off ≡ min (number_read (get_or fs 2 [])) most
    at = offset ∙ ap (λ (g : Bytes). min (number_read g) most) field

    part : s.end - s.start < most
    part = let h = ready.high in omega arith

    pub item-values : {from w : ℕ} → k < 5 → from ≡ part_start_at 44 4 row → w ≡ width k
        → lay_bytes off (row_values w (eqb k 4) (fields_from from row)) laying_now ≡ laid_item sizes k row laying_now
    unfolding laid_item width laying_of
    item-values h hf hw =
        rw (ne_eqb k 0 some_item, lt-ltb k 5 h, at, hf, hw, fields-from 4 row)
        (cut-bytes laying_now image part (number_read (get_or fs 2 [])) (row_values (width_of k) (eqb k 4) (drop 4 fs)))

    pub item-string : 5 ≤ k → k ≡ 5 → lay_bytes off (handle s.item) laying_now ≡ laid_item sizes k row laying_now
    unfolding laid_item laying_of
    item-string h e =
        rw (ne_eqb k 0 some_item, le-ltb k 5 h, eq-eqb k 5 e, at)
        (cut-bytes laying_now image part (number_read (get_or fs 2 [])) (handle s.item))

    pub item-array : {size id n : ℕ} {g j : Bytes} → 5 ≤ k → (k ≡ 5 → ⊥) → k ≡ 6 → id ≡ min (number_read g) most → g ≡ get_or fs 3 [] → n ≡ min (number_read j) most → j ≡ get_or fs 4 []
        → size ≡ element_size_at work id → lay_array off (size * n) laying_now ≡ laid_item sizes k row laying_now
    unfolding laid_item laying_of
    item-array {size} {id} {n} h d e hi hg hn hj hs =
        let q : size ≡ element_size_at work (number_read (get_or fs 3 [])) = hs ∙ ap (element_size_at work) (hi ∙ ap (λ (x : Bytes). min (number_read x) most) hg) ∙ cut-size work (number_read (get_or fs 3 [])) in
        let r : n ≡ min (number_read (get_or fs 4 [])) most = hn ∙ ap (λ (x : Bytes). min (number_read x) most) hj in
        rw (ne_eqb k 0 some_item, le-ltb k 5 h, ne_eqb k 5 d, eq-eqb k 6 e)
        (ap (λ (x : ℕ). lay_array off (size * x) laying_now) r
        ∙ cut-length laying_now image off size (number_read (get_or fs 4 [])) area
        ∙ ap (λ (x : ℕ). lay_array off (x * number_read (get_or fs 4 [])) laying_now) q
        ∙ ap (λ (x : ℕ). lay_array x (element_size_at work (number_read (get_or fs 3 [])) * number_read (get_or fs 4 [])) laying_now) at
        ∙ cut_array laying_now image (number_read (get_or fs 2 [])) (element_size_at work (number_read (get_or fs 3 [])) * number_read (get_or fs 4 [])))

    pub item-moved : 5 ≤ k → (k ≡ 5 → ⊥) → (k ≡ 6 → ⊥) → Some (move_to (eqb k 7) laying_now) ≡ laid_item sizes k row laying_now
    unfolding laid_item
    item-moved h d e = rw (ne_eqb k 0 some_item, le-ltb k 5 h, ne_eqb k 5 d, ne_eqb k 6 e) (go (eqb k 7))
      where
        go : (b : Bool) → Some (move_to b laying_now) ≡ lay_all (cond b (Stored.set_at (number_read (get_or fs 2 [])) ∷ []) (Stored.go_back ∷ [])) (Some laying_now)
        go true = refl
        go false = refl

-- ---- a row

module _ (sizes : ℕ → ℕ) (row : Bytes) (m : Laying) {f : Bytes} (field : f ≡ get_or (fields_of row) 0 []) where
  pub row_other : same f (bytes "dat") ≡ false → Some m ≡ laid_row sizes row m
  unfolding laid_row read_row
  row_other e = rw (← field, e)

  pub row-item : {k : ℕ} {g : Bytes} → same f (bytes "dat") ≡ true → k ≡ keyword_of g → g ≡ get_or (fields_of row) 1 [] → laid_item sizes k row m ≡ laid_row sizes row m
  unfolding laid_row laid_item read_row
  row-item e hk hg = rw (← field, e, hk, hg)

  pub row-none : {g : Bytes} → same f (bytes "dat") ≡ true → 0 ≡ keyword_of g → g ≡ get_or (fields_of row) 1 [] → Some m ≡ laid_row sizes row m
  unfolding laid_row read_row
  row-none e hk hg = rw (← field, e, ← hg, ← hk)
