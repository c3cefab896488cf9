-- The fields of the lines that write out a shape.
use mathlib.Core.Path.{◌≡◌, refl, sym, ap, ◌∙◌}
use mathlib.Core.Bool.{Bool, true, false, ◌&&◌, ◌||◌}
use mathlib.Core.List.{List, [], ◌∷◌, ◌++◌}
use Rattle.std.specs.Prelude.{Option, None, Some}
use Rattle.std.specs.Option.{option_map}
use Prim.Native.Nat.{ℕ, zero, suc, ◌+◌, ◌-◌, ◌≤◌, ◌<◌, min}
use native.Mathlib.Omega.{arith}
use lib.Dec.{leb, eqb}
use lib.IntN.{ℤ, pos, negsuc}
use lib.ListN.{length, drop, get_or}
use lib.Seq.{get_or-drop}
use borrow.Author.Tests.{eqb-true, leb-true, ltb-true}
use Rattle.semantics.specs.Text as Text
use Rattle.semantics.specs.Tree.{Node}
use Rattle.semantics.specs.Form.{forms, value, values, number_of, is_number, is_count, up_to, between, holds, fits, ones}
use Rattle.semantics.specs.Form.Atom.{size, offset}
use Rattle.semantics.specs.Form.Part.{one, many}
use Rattle.decimal.specs.Number as Number
use Rattle.decimal.specs.declared.Signed.{Signed}
use Rattle.form.specs.Table.{row_at}
use Rattle.lines.specs.Lines.{read_at, nodes_in, form_at}
use Rattle.lines.proofs.Line.{read_fits}
use Rattle.type_lines.specs.Shapes.{written_shape, ShapeLine, raised}
use Rattle.semantics.proofs.Common.{never, both}
use Rattle.refs.proofs.Fields.{number-exact, count-number, values_length}

-- ---- fields

size_number : (f : List ℕ) → up_to 4096 f ≡ true → (is_number f ≡ true) × (number_of f ≤ 4096)
size_number f = go (Text.nat_of f)
  where
    go : (o : Option ℕ) → Text.holds_of (λ (m : ℕ). leb m 4096) o ≡ true → (Text.holds_of (λ (m : ℕ). true) o ≡ true) × (Text.or_else 0 o ≤ 4096)
    go None h = never h
    go (Some m) h = (refl, leb-true m 4096 h)

offsets-hold : (m : ℕ) (fs : List (List ℕ)) → fits (ones m offset ++ []) fs ≡ true → (j : ℕ) → j < m → holds offset (get_or fs j []) ≡ true
offsets-hold zero fs h j l = absurd (omega arith)
offsets-hold (suc m) [] h j l = never h
offsets-hold (suc m) (f ∷ fs) h j l = go j l (both (holds offset f) (fits (ones m offset ++ []) fs) h) (offsets-hold m fs)
  where
    go : (j : ℕ) → j < suc m → (holds offset f ≡ true) × (fits (ones m offset ++ []) fs ≡ true) → (fits (ones m offset ++ []) fs ≡ true → (j : ℕ) → j < m → holds offset (get_or fs j []) ≡ true)
        → holds offset (get_or (f ∷ fs) j []) ≡ true
    go zero l w ih = w.0
    go (suc j) l w ih = ih w.1 j (omega arith)

-- what fields of a shape hold
record ShapeFields (fs : List (List ℕ)) : Type 0 where
  size : up_to 4096 (get_or fs 0 []) ≡ true
  count : is_count (get_or fs 1 []) ≡ true
  each : (j : ℕ) → j < number_of (get_or fs 1 []) → holds offset (get_or fs (2 + j) []) ≡ true

shape-fields : (fs : List (List ℕ)) → fits (one size ∷ many offset ∷ []) fs ≡ true → ShapeFields fs
shape-fields [] h = never h
shape-fields (f ∷ []) h = never (both (holds size f) false h).1
shape-fields (f ∷ (g ∷ fs)) h =
    let a = both (up_to 4096 f) (is_count g && fits (ones (number_of g) offset ++ []) fs) h in
    let b = both (is_count g) (fits (ones (number_of g) offset ++ []) fs) a.1 in
    record { size = a.0; count = b.0; each = λ j l. rw (← get_or-drop 2 (f ∷ (g ∷ fs)) j []) (offsets-hold (number_of g) fs b.1 j l) }

values-at : (ns : List Node) (m : ℕ) (fs : List (List ℕ)) (j : ℕ) → j < m → get_or (values offset ns m fs) j (pos 0) ≡ value offset ns (get_or fs j [])
values-at ns zero fs j h = absurd (omega arith)
values-at ns (suc m) [] zero h = refl
values-at ns (suc m) (f ∷ fs) zero h = refl
values-at ns (suc m) [] (suc j) h = values-at ns m [] j (omega arith)
values-at ns (suc m) (f ∷ fs) (suc j) h = values-at ns m fs j (omega arith)

-- ---- a line that writes out a shape

or_cases : (P : ℕ → Type 0) (f a b : ℕ) → eqb f a || eqb f b ≡ true → P a → P b → P f
or_cases P f a b h p q = go (eqb f a) refl
  where
    go : (x : Bool) → eqb f a ≡ x → P f
    go true e = rw (eqb-true f a e) p
    go false e = rw (eqb-true f b (rw e at h)) q

module _ (s : List ℕ) (i : ℕ) (l : ShapeLine s i) where
  shape-fit : ShapeFields (read_at s i).fields
  unfolding forms
  shape-fit =
      or_cases (λ f. fits (row_at f).parts (read_at s i).fields ≡ true → ShapeFields (read_at s i).fields) (form_at s i) 33 40 l.form
      (shape-fields (read_at s i).fields) (shape-fields (read_at s i).fields) (read_fits s l.checked.whole i l.within)

  pub size_is : Number.number_up_to 65536 (get_or (read_at s i).fields 0 []) ≡ (written_shape s i).size
  unfolding written_shape
  size_is = let q = size_number (get_or (read_at s i).fields 0 []) shape-fit.size in number-exact (get_or (read_at s i).fields 0 []) q.0 (omega (arith, q.1))

  pub size_low : (written_shape s i).size ≤ 4096
  unfolding written_shape
  size_low = (size_number (get_or (read_at s i).fields 0 []) shape-fit.size).1

  pub count-is : Number.number_up_to 65536 (get_or (read_at s i).fields 1 []) ≡ length (written_shape s i).pointers
  unfolding written_shape
  count-is =
      let q = count-number (get_or (read_at s i).fields 1 []) shape-fit.count in
      number-exact (get_or (read_at s i).fields 1 []) q.0 (omega (arith, q.1)) ∙ sym (values_length offset (nodes_in s) (number_of (get_or (read_at s i).fields 1 [])) (drop 2 (read_at s i).fields))

  pub count_low : length (written_shape s i).pointers ≤ 16
  unfolding written_shape
  count_low = omega (arith, values_length offset (nodes_in s) (number_of (get_or (read_at s i).fields 1 [])) (drop 2 (read_at s i).fields), (count-number (get_or (read_at s i).fields 1 []) shape-fit.count).1)

  module _ (j : ℕ) (h : j < length (written_shape s i).pointers) where
    low : j < number_of (get_or (read_at s i).fields 1 [])
    unfolding written_shape
    low = omega (arith, values_length offset (nodes_in s) (number_of (get_or (read_at s i).fields 1 [])) (drop 2 (read_at s i).fields))

    pub offset-holds : holds offset (get_or (read_at s i).fields (2 + j) []) ≡ true
    offset-holds = shape-fit.each j low

    pub offset-is : Text.or_else (pos 0) (Text.int_of (get_or (read_at s i).fields (2 + j) [])) ≡ get_or (written_shape s i).pointers j (pos 0)
    unfolding written_shape
    offset-is = sym (values-at (nodes_in s) (number_of (get_or (read_at s i).fields 1 [])) (drop 2 (read_at s i).fields) j low ∙ ap (λ (f : List ℕ). Text.or_else (pos 0) (Text.int_of f)) (get_or-drop 2 (read_at s i).fields j []))

    pub offset_near : between 4096 4096 (get_or (written_shape s i).pointers j (pos 0)) ≡ true
    offset_near = rw (← offset-is) (go (Text.int_of (get_or (read_at s i).fields (2 + j) [])) offset-holds)
      where
        go : (o : Option ℤ) → Text.holds_of (between 4096 4096) o ≡ true → between 4096 4096 (Text.or_else (pos 0) o) ≡ true
        go None h = never h
        go (Some z) h = h

-- ---- an offset as it is read

module _ (f : List ℕ) (h : holds offset f ≡ true) where
  read : (o : Option ℤ) → Text.holds_of (between 4096 4096) o ≡ true → (r : Signed) → Some r ≡ option_map Number.signed o
      → ((m : ℕ) → r ≡ Signed.Plus m → (m ≤ 4096) × (4096 + m ≡ raised (Text.or_else (pos 0) o))) × ((m : ℕ) → r ≡ Signed.Minus m → (m ≤ 4096) × (4096 - m ≡ raised (Text.or_else (pos 0) o)))
  read None k r e = never k
  read (Some (pos a)) k r e =
      let l = leb-true a 4096 k in
      (λ m q. let z : m ≡ min a 9223372036854775809 = cc in (omega arith, omega arith), λ m q. never cc)
  read (Some (negsuc a)) k r e =
      let l = ltb-true a 4096 k in
      (λ m q. never cc, λ m q. let z : m ≡ min (suc a) 9223372036854775809 = cc in (omega arith, omega arith))

  pub read-plus : (m : ℕ) → Some (Signed.Plus m) ≡ Number.signed_of f → (m ≤ 4096) × (4096 + m ≡ raised (Text.or_else (pos 0) (Text.int_of f)))
  unfolding Number.signed_of
  read-plus m e = (read (Text.int_of f) h (Signed.Plus m) e).0 m refl

  pub read-minus : (m : ℕ) → Some (Signed.Minus m) ≡ Number.signed_of f → (m ≤ 4096) × (4096 - m ≡ raised (Text.or_else (pos 0) (Text.int_of f)))
  unfolding Number.signed_of
  read-minus m e = (read (Text.int_of f) h (Signed.Minus m) e).1 m refl

pub read_none : (f : List ℕ) → None ≡ Number.signed_of f → 4096 ≡ raised (Text.or_else (pos 0) (Text.int_of f))
unfolding Number.signed_of
read_none f e = go (Text.int_of f) e
  where
    go : (o : Option ℤ) → None ≡ option_map Number.signed o → 4096 ≡ raised (Text.or_else (pos 0) o)
    go None x = refl
    go (Some z) x = never cc
