-- Laws of the loops over a listing's rows.
use Prim.Native.Nat.{ℕ, suc, ◌+◌, ◌-◌, ◌≤◌, ◌<◌, min}
use mathlib.Core.Path.{◌≡◌, refl, sym, ap, ◌∙◌}
use mathlib.Core.Bool.{Bool, true, false, cond}
use mathlib.Core.List.{List, [], ◌∷◌, ◌++◌}
use Rattle.std.specs.Prelude.{Option, None, Some}
use native.Mathlib.Omega.{arith}
use lib.Dec.{ltb, eqb}
use lib.ListN.{length, take, drop, get_or, set, replicate, drop_of_length-le, length-drop, length-set, length-replicate}
use lib.Seq.{drop-drop, take_all, get_or-set_same, get_or-set_other}
use borrow.Author.Tests.{ltb-true, ltb-false, ne_eqb, eqb-true, eqb-false}
use borrow.Rule.Slice.PartMut.{mid_of, put_mid, mid_len, same_len_mid}
use Rattle.semantics.specs.Text.{Bytes, bytes, same, line_parts, fields_of}
use Rattle.semantics.specs.Sheet.{concat_map}
use Rattle.text.specs.Parts.{until}
use Rattle.decimal.specs.Number.{most}
use Rattle.text.proofs.Parts.{parts-step, parts-one, until-take}
use Rattle.stored.specs.Stored.{Stored}
use Rattle.stored.specs.Reading.{number_read, read_row, read_rows, read_all, largest_size, size_by, size_rows, most_types, size_in}
use Rattle.stored.specs.Laying.{Laying, lay_one, lay_then, lay_all}
use Rattle.semantics.proofs.Common.{zeros-at}
use Rattle.stored.proofs.Laying.{lay-none}
use Rattle.stored.proofs.Others.{items-end, sizes-end}
use Rattle.stored.proofs.Written.{laid-below, laid-in, laid-past, mid_at}
use Rattle.laying.specs.declared.State.{State}
use Rattle.laying.specs.Steps.{laying_of, seen_laying, Lays}
use Rattle.replay.specs.Rows.{table_at, element_size_at, laid_row, laid_text, OutOfTable, Noted, Sizes}

-- ---- the next line of a text: it ends at e

module _ (t : Bytes) (at e : ℕ) (within : at < length t) (found : e ≡ at + length (until 10 (drop at t))) where
  abbrev next_line : Bytes
  next_line = take (e - at) (drop at t)

  line-is : until 10 (drop at t) ≡ next_line
  line-is = let q : e - at ≡ length (until 10 (drop at t)) = omega arith in sym (rw q (until-take 10 (drop at t)))

  -- lines follow, or none
  by-line : (X : Type 0) → (line_parts (drop at t) ≡ next_line ∷ line_parts (drop (e + 1) t) → X) → (line_parts (drop at t) ≡ next_line ∷ [] → drop (e + 1) t ≡ [] → X) → X
  by-line X a b = go (ltb (length (until 10 (drop at t))) (length (drop at t))) refl
    where
      go : (s : Bool) → ltb (length (until 10 (drop at t))) (length (drop at t)) ≡ s → X
      go true k =
          let l = ltb-true (length (until 10 (drop at t))) (length (drop at t)) k in
          let q : at + suc (length (until 10 (drop at t))) ≡ e + 1 = omega arith in
          a (parts-step 10 (drop at t) l ∙ (λ j. line-is j ∷ line_parts ((drop-drop (suc (length (until 10 (drop at t)))) at t ∙ ap (λ (n : ℕ). drop n t) q) j)))
      go false k =
          let l = ltb-false (length (until 10 (drop at t))) (length (drop at t)) k in
          let d = length-drop at t in
          b (parts-one 10 (drop at t) l ∙ ap (λ (x : Bytes). x ∷ []) (sym (take_all (length (until 10 (drop at t))) (drop at t) l) ∙ until-take 10 (drop at t) ∙ line-is))
          (drop_of_length-le t {i = e + 1} (omega arith))

  pub items-turn : (sizes : ℕ → ℕ) → read_all sizes (drop at t) ≡ read_row sizes (fields_of next_line) ++ read_all sizes (drop (e + 1) t)
  unfolding read_all read_rows
  items-turn sizes =
      by-line (read_all sizes (drop at t) ≡ read_row sizes (fields_of next_line) ++ read_all sizes (drop (e + 1) t))
      (λ q. ap (concat_map (λ (l : Bytes). read_row sizes (fields_of l))) q)
      (λ q r. ap (concat_map (λ (l : Bytes). read_row sizes (fields_of l))) q ∙ ap (λ (xs : List Stored). read_row sizes (fields_of next_line) ++ xs) (sym (ap (read_all sizes) r ∙ items-end sizes)))

  pub sizes-turn : (i d : ℕ) → size_rows i d (line_parts (drop at t)) ≡ size_rows i (size_by i (fields_of next_line) d) (line_parts (drop (e + 1) t))
  unfolding size_rows
  sizes-turn i d =
      by-line (size_rows i d (line_parts (drop at t)) ≡ size_rows i (size_by i (fields_of next_line) d) (line_parts (drop (e + 1) t)))
      (λ q. ap (size_rows i d) q)
      (λ q r. ap (size_rows i d) q ∙ sym (ap (λ (x : Bytes). size_rows i (size_by i (fields_of next_line) d) (line_parts x)) r ∙ sizes-end i (size_by i (fields_of next_line) d)))

-- ---- a replay's rows

lay-append : (xs ys : List Stored) (m : Option Laying) → lay_all (xs ++ ys) m ≡ lay_all ys (lay_all xs m)
lay-append [] ys m = refl
lay-append (x ∷ xs) ys m = lay-append xs ys (lay_then (lay_one x) m)

module _ (sizes : ℕ → ℕ) (t : Bytes) (at : ℕ) where
  pub text-turn : (e : ℕ) (s : State) {r : State} (im ar : Bytes) {im' ar' : Bytes} → at < length t → e ≡ at + length (until 10 (drop at t)) → s.full ≡ false
      → Lays (laid_row sizes (take (e - at) (drop at t)) (laying_of s im ar)) s r im' ar'
      → laid_text sizes (drop at t) (seen_laying s im ar) ≡ laid_text sizes (drop (e + 1) t) (seen_laying r im' ar')
  unfolding laid_text laid_row seen_laying
  text-turn e s {r} im ar {im'} {ar'} h f fitted l =
      ap (λ (xs : List Stored). lay_all xs (seen_laying s im ar)) (items-turn t at e h f sizes)
      ∙ lay-append (read_row sizes (fields_of (take (e - at) (drop at t)))) (read_all sizes (drop (e + 1) t)) (seen_laying s im ar)
      ∙ ap (λ (b : Bool). lay_all (read_all sizes (drop (e + 1) t)) (lay_all (read_row sizes (fields_of (take (e - at) (drop at t)))) (cond b None (Some (laying_of s im ar))))) fitted
      ∙ ap (lay_all (read_all sizes (drop (e + 1) t))) (sym l.is)

  pub text-full : (s : State) (im ar : Bytes) → s.full ≡ true → laid_text sizes (drop at t) (seen_laying s im ar) ≡ seen_laying s im ar
  unfolding laid_text seen_laying
  text-full s im ar full = rw full (lay-none (read_all sizes (drop at t)))

  pub text-end : (m : Option Laying) → length t ≤ at → laid_text sizes (drop at t) m ≡ m
  unfolding laid_text
  text-end m h = ap (λ (xs : List Stored). lay_all xs m) (ap (read_all sizes) (drop_of_length-le t h) ∙ items-end sizes)

-- ---- sizes

pub table_same : (t : Bytes) → OutOfTable t t
table_same t = record { long = refl; below = λ j h. refl; above = λ j h. refl }

pub table-then : {t u v : Bytes} → OutOfTable t u → OutOfTable u v → OutOfTable t v
table-then a b = record { long = b.long ∙ a.long; below = λ j h. b.below j h ∙ a.below j h; above = λ j h. b.above j h ∙ a.above j h }

module _ (row t : Bytes) {f : Bytes} (word : f ≡ get_or (fields_of row) 0 []) where
  pub noted_other : same f (bytes "typ") ≡ false → Noted row t t
  unfolding size_by
  noted_other e = record { sizes = λ i h. rw (← word, e); rest = table_same t }

  module _ (typ : same f (bytes "typ") ≡ true) {id : ℕ} {g : Bytes} (number : id ≡ min (number_read g) most) (field : g ≡ get_or (fields_of row) 1 []) where
    number_is : id ≡ min (number_read (get_or (fields_of row) 1 [])) most
    number_is = number ∙ ap (λ (x : Bytes). min (number_read x) most) field

    pub noted-far : most_types ≤ id → Noted row t t
    unfolding size_by
    noted-far h =
        let q = number_is in
        record { sizes = λ i l. rw (← word, typ, ne_eqb (number_read (get_or (fields_of row) 1 [])) i (λ (e : number_read (get_or (fields_of row) 1 []) ≡ i). omega arith)); rest = table_same t }

    pub noted-at : {v n : ℕ} {k : Bytes} → id < most_types → table_at + most_types ≤ length t → v ≡ min n largest_size → n ≡ min (number_read k) most → k ≡ get_or (fields_of row) 2 []
        → Noted row t (set t (table_at + id) v)
    unfolding size_by
    noted-at {v} {n} {k} h fits hv hn hk = record {
      sizes = λ i l. go i l (eqb id i) refl;
      rest = record {
        long = length-set t (table_at + id) v;
        below = λ j l. get_or-set_other t (table_at + id) j v 0 (λ (e : j ≡ table_at + id). omega arith);
        above = λ j l. get_or-set_other t (table_at + id) j v 0 (λ (e : j ≡ table_at + id). omega arith);
      };
    }
      where
        same_number : number_read (get_or (fields_of row) 1 []) ≡ id
        same_number = let q = number_is in omega arith

        value : v ≡ min (number_read (get_or (fields_of row) 2 [])) largest_size
        value = let q : n ≡ min (number_read (get_or (fields_of row) 2 [])) most = hn ∙ ap (λ (x : Bytes). min (number_read x) most) hk in omega arith

        go : (i : ℕ) → i < most_types → (b : Bool) → eqb id i ≡ b → get_or (set t (table_at + id) v) (table_at + i) 0 ≡ size_by i (fields_of row) (get_or t (table_at + i) 0)
        go i l true e =
            let q = eqb-true id i e in
            rw (← word, typ, same_number, e) (ap (λ (x : ℕ). get_or (set t (table_at + id) v) (table_at + x) 0) (sym q) ∙ get_or-set_same t (table_at + id) v 0 (omega arith) ∙ value)
        go i l false e =
            let q = eqb-false id i e in
            rw (← word, typ, same_number, e) (get_or-set_other t (table_at + id) (table_at + i) v 0 (λ (x : table_at + i ≡ table_at + id). q (omega arith)))

-- the sizes so far, with the rows from `at` on to come
abbrev pub SizesAt : Bytes → ℕ → Bytes → Type 0
SizesAt listing at u = (i : ℕ) → i < most_types → size_rows i 0 (line_parts listing) ≡ size_rows i (get_or u (table_at + i) 0) (line_parts (drop at listing))

-- the table of zeros, before the first row
module _ (t : Bytes) (fits : table_at + most_types ≤ length t) {part : Bytes} (is : part ≡ replicate (length (mid_of table_at most_types t)) 0) where
  mid-long : length (mid_of table_at most_types t) ≡ most_types
  mid-long = mid_len table_at (table_at + most_types) t fits

  part-long : length part ≡ most_types
  part-long = ap length is ∙ length-replicate {A = ℕ} (length (mid_of table_at most_types t)) 0 ∙ mid-long

  pub cleared-rest : OutOfTable t (put_mid table_at most_types t part)
  cleared-rest =
      let z = part-long in
      record {
        long = same_len_mid table_at most_types t part (part-long ∙ sym mid-long);
        below = λ j h. mid_at t table_at most_types part fits z j ∙ laid-below table_at part t j h;
        above = λ j h. mid_at t table_at most_types part fits z j ∙ laid-past table_at part t j (omega arith);
      }

  cleared-zero : (i : ℕ) → i < most_types → get_or (put_mid table_at most_types t part) (table_at + i) 0 ≡ 0
  cleared-zero i h =
      let z = part-long in
      mid_at t table_at most_types part fits z (table_at + i)
      ∙ laid-in table_at part t (table_at + i) (omega arith) (omega arith)
      ∙ ap (λ (xs : Bytes). get_or xs (table_at + i - table_at) 0) is
      ∙ zeros-at (length (mid_of table_at most_types t)) (table_at + i - table_at)

  pub cleared-sizes : (listing : Bytes) → SizesAt listing 0 (put_mid table_at most_types t part)
  cleared-sizes listing i h = rw (cleared-zero i h)

pub sizes-on : (listing : Bytes) (at e : ℕ) {u v : Bytes} → at < length listing → e ≡ at + length (until 10 (drop at listing)) → Noted (take (e - at) (drop at listing)) u v → SizesAt listing at u
    → SizesAt listing (e + 1) v
sizes-on listing at e {u} {v} h f n s i l =
    s i l ∙ sizes-turn listing at e h f i (get_or u (table_at + i) 0) ∙ ap (λ (d : ℕ). size_rows i d (line_parts (drop (e + 1) listing))) (sym (n.sizes i l))

pub sizes-all : (listing : Bytes) (at : ℕ) {t u : Bytes} → length listing ≤ at → SizesAt listing at u → OutOfTable t u → Sizes listing t u
unfolding element_size_at size_in
sizes-all listing at {t} {u} h s o = record { sizes = λ i. go i (ltb i most_types) refl; rest = o }
  where
    go : (i : ℕ) (b : Bool) → ltb i most_types ≡ b → cond b (get_or u (table_at + i) 0) 0 ≡ cond b (size_rows i 0 (line_parts listing)) 0
    go i true e =
        sym (s i (ltb-true i most_types e) ∙ ap (λ (x : Bytes). size_rows i (get_or u (table_at + i) 0) (line_parts x)) (drop_of_length-le listing h) ∙ sizes-end i (get_or u (table_at + i) 0))
    go i false e = refl
