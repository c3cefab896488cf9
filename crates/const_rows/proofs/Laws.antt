-- Laws of the rows as they are written.
use mathlib.Core.Path.{◌≡◌, refl, sym, ap, ◌∙◌}
use mathlib.Core.Bool.{Bool, true, false}
use mathlib.Core.List.{[], ◌∷◌, ◌++◌}
use Rattle.std.proofs.Common.{Bor}
use Rattle.std.specs.Prelude.{Option, None, Some}
use Rattle.std.specs.Option.{is_some}
use Prim.Native.Nat.{ℕ, suc, ◌+◌, ◌-◌, ◌/◌, ◌%◌, ◌≤◌, ◌<◌}
use native.Mathlib.Omega.{arith}
use native.Mathlib.Numerals.{add-one}
use lib.IntN.{ℤ}
use lib.Ieee.{Float, binary64, of_bits, to_bits}
use lib.ListN.{take, drop, get_or}
use Rattle.lines.specs.Lines.{lines_in, read_at}
use mir.Syntax.{w64}
use mir.Val.{SFits}
use mir.ValLaws.{to_z-of_z}
use borrow.Author.Tests.{ne_eqb}
use Rattle.semantics.specs.Text.{Bytes, bytes, decimalℤ, hex_of, big_endian}
use Rattle.semantics.specs.Tree.{ConstVal}
use Rattle.semantics.specs.Tree.ConstVal.{v_int, v_real, v_str}
use Rattle.semantics.specs.Fold.{Key, signed64, plain, qualified, look_up, value_of}
use Rattle.semantics.specs.Listing.{row, key_text, value_fields, const_row, const_rows}
use Rattle.ints.proofs.Widths.{held}
use Rattle.write.specs.declared.Writer.{Writer}
use Rattle.write.specs.Writes.{Writes}
use Rattle.write.proofs.Writes.{writes_as, writes_then}
use Rattle.implement.specs.Modules.{first_field, is_own}
use Rattle.names.specs.declared.Key as declared
use Rattle.names.specs.Table.{const_line_of, module_line_of, value_by, kind_of, bits_of, log_in, key_of, ConstTable, Answered, found, has_key, is_within, answers_key}
use Rattle.names.proofs.Laws.{found-is, value-failed, value-int, value-real, value-text}
use Rattle.laws.proofs.Tests.{same_refl}
use Rattle.const_rows.specs.Rows.{qualified_to, plain_to, qualified_part, plain_part, new_part, rows_to, entry_rows}
use Rattle.const_rows.proofs.Keys.{qualified-none, plain-none, qualified-more, plain_more}

-- ---- values

abbrev value_row : Option ConstVal → Bytes
value_row o = row (value_fields o)

row-none : value_row None ≡ bytes "x" ++ (10 ∷ [])
unfolding row
row-none = refl

row-int : (z : ℤ) → value_row (Some (v_int z)) ≡ (bytes "i," ++ decimalℤ z) ++ (10 ∷ [])
unfolding row
row-int z = refl

row-real : (x : Float) → value_row (Some (v_real x)) ≡ (bytes "r," ++ hex_of (big_endian 8 (to_bits binary64 x))) ++ (10 ∷ [])
unfolding row to_bits
row-real x = refl

row-text : (b : Bytes) → value_row (Some (v_str b)) ≡ (bytes "s," ++ hex_of b) ++ (10 ∷ [])
unfolding row
row-text b = refl

pub shows-none : (t : Bytes) {r : Option ℕ} → r ≡ None → row (value_fields (found t r)) ≡ 120 ∷ (10 ∷ [])
unfolding found
shows-none t e = rw e row-none

module _ (t : Bytes) (r : Option ℕ) (a : Answered t r) {i : ℕ} (is : r ≡ Some i) (k b : ℕ) (hk : k ≡ kind_of t i) (hb : b ≡ bits_of t i) where
  by-slot : found t r ≡ value_by t k b
  by-slot = ap (found t) is ∙ found-is t i ∙ rw (hk, hb)

  module _ {u v x w : Writer} where
    pub shows-int : k ≡ 1 → {y : ℤ} → SFits w64 y → y ≡ signed64 b → Writes u (bytes "i,") v → Writes v (decimalℤ (held w64 y)) x → Writes x (10 ∷ []) w → Writes u (row (value_fields (found t r))) w
    shows-int h {y} fits iy p q o =
        let z : decimalℤ (held w64 y) ≡ decimalℤ (signed64 b) = ap decimalℤ (to_z-of_z w64 y fits ∙ iy) in
        writes_as (sym (ap value_row (by-slot ∙ value-int t k b h) ∙ row-int (signed64 b))) (writes_then (writes_then p (writes_as z q)) o)

    pub shows-real : k ≡ 2 → {y : Float} {c : ℕ} → y ≡ of_bits binary64 b → c ≡ to_bits binary64 y → Writes u (bytes "r,") v → Writes v (hex_of (big_endian 8 c)) x → Writes x (10 ∷ []) w → Writes u (row (value_fields (found t r))) w
    shows-real h {y} {c} iy ic p q o =
        let z : hex_of (big_endian 8 c) ≡ hex_of (big_endian 8 (to_bits binary64 (of_bits binary64 b))) = ap (λ (j : ℕ). hex_of (big_endian 8 j)) (ic ∙ ap (to_bits binary64) iy) in
        writes_as (sym (ap value_row (by-slot ∙ value-real t k b h) ∙ row-real (of_bits binary64 b))) (writes_then (writes_then p (writes_as z q)) o)

    pub shows-text : k ≡ 3 → Writes u (bytes "s,") v → Writes v (hex_of (take (b % 65536 + b / 65536 - b % 65536) (drop (b % 65536) t))) x → Writes x (10 ∷ []) w → Writes u (row (value_fields (found t r))) w
    shows-text h p q o =
        let j : b % 65536 + b / 65536 - b % 65536 ≡ b / 65536 = omega arith in
        let z : hex_of (take (b % 65536 + b / 65536 - b % 65536) (drop (b % 65536) t)) ≡ hex_of (take (b / 65536) (drop (b % 65536) t)) = ap (λ (l : ℕ). hex_of (take l (drop (b % 65536) t))) j in
        writes_as (sym (ap value_row (by-slot ∙ value-text t k b h) ∙ row-text (take (b / 65536) (drop (b % 65536) t)))) (writes_then (writes_then p (writes_as z q)) o)

  pub shows-failed : (k ≡ 1 → ⊥) → (k ≡ 2 → ⊥) → (k ≡ 3 → ⊥) → row (value_fields (found t r)) ≡ 120 ∷ (10 ∷ [])
  shows-failed p q o = ap (λ (v : Option ConstVal). row (value_fields v)) (by-slot ∙ value-failed t k b p q o) ∙ row-none

-- ---- rows

row-key : (k : Bytes) (v : Option ConstVal) → row (bytes "con" ∷ (k ∷ value_fields v)) ≡ bytes "con," ++ (k ++ (44 ∷ row (value_fields v)))
unfolding row
row-key k None = refl
row-key k (Some (v_int z)) = refl
row-key k (Some (v_real x)) = refl
row-key k (Some (v_str b)) = refl

-- ---- a key as it is shown

pub key-within : (k : declared.Key) {m : Bor Bytes} → k.within ≡ Some m → (m.now ++ bytes "->") ++ k.name.now ≡ key_text (key_of k)
key-within k e = rw e

pub key-plain : (k : declared.Key) → k.within ≡ None → k.name.now ≡ key_text (key_of k)
key-plain k e = rw e

pub row_shown : (s t : Bytes) (m : ℕ) (k : Key) (q : Option ℕ) → value_of (look_up k (log_in s t m)) ≡ found t q → bytes "con," ++ (key_text k ++ ((44 ∷ []) ++ row (value_fields (found t q)))) ≡ const_row (log_in s t m) k
row_shown s t m k q v = sym (ap (λ (x : Option ConstVal). row (bytes "con" ∷ (key_text k ∷ value_fields x))) v ∙ row-key (key_text k) (found t q))

-- the first field of line k, from 0
pub name-of : (s : Bytes) (k : ℕ) {x : Bytes} → x ≡ get_or (read_at s k).fields 0 [] → x ≡ first_field s (suc k)
name-of s k e = let z : suc k - 1 ≡ k = omega arith in rw z e

-- ---- the key by which an entry enters its constant

module _ (s t : Bytes) (m i : ℕ) {l : ℕ} (hl : l ≡ const_line_of t i) {name : Bytes} (hn : name ≡ first_field s l) where
  module _ {k : ℕ} (hk : k ≡ module_line_of t i) where
    pub no-module : k ≡ 0 → [] ≡ qualified_part s t m i
    unfolding qualified_part
    no-module z = rw (sym hk ∙ z)

    module _ (z : k ≡ 0 → ⊥) {within : Bytes} (hw : within ≡ first_field s k) where
      pub qualified-answers : answers_key s t i (qualified within name) ≡ true
      unfolding answers_key is_within
      qualified-answers = rw (hw, hk, hn, hl, same_refl (first_field s (const_line_of t i)), ne_eqb (module_line_of t i) 0 (λ x. z (hk ∙ x)), same_refl (first_field s (module_line_of t i)))

      pub qualified-new : new_part s t m i (qualified within name) ≡ qualified_part s t m i
      unfolding qualified_part
      qualified-new = rw (hw, hk, hn, hl, ne_eqb (module_line_of t i) 0 (λ x. z (hk ∙ x)))

    module _ {own : Bool} (ho : own ≡ is_own s k) where
      own_is : is_own s (module_line_of t i) ≡ own
      own_is = ap (is_own s) (sym hk) ∙ sym ho

      pub not_own : own ≡ false → [] ≡ plain_part s t m i
      unfolding plain_part
      not_own z = rw (own_is, z)

      pub plain-answers : own ≡ true → answers_key s t i (plain name) ≡ true
      unfolding answers_key is_within
      plain-answers z = rw (hn, hl, same_refl (first_field s (const_line_of t i)), own_is, z)

      pub plain-new : own ≡ true → new_part s t m i (plain name) ≡ plain_part s t m i
      unfolding plain_part
      plain-new z = rw (hn, hl, own_is, z)

-- an old key adds nothing
pub old-key : (s t : Bytes) (m i : ℕ) (k : Key) (r : Option ℕ) → has_key k (log_in s t i) ≡ is_some r → is_some r ≡ true → [] ≡ new_part s t m i k
old-key s t m i k r h p = rw (h, p)

-- ---- the table

module _ {s t : Bytes} {m : ℕ} (b : ConstTable s t m) where
  pub line-in : {i l : ℕ} → i < m → l ≡ const_line_of t i → (0 < l) × (l ≤ lines_in s)
  line-in {i} h e = let x = b.logged.each i h in (omega (arith, x.first), omega (arith, x.last))

-- ---- all rows

module _ (s t : Bytes) (m : ℕ) {u v : Writer} where
  pub rows_start : (b : Bool) → Writes u [] v → Writes u (rows_to b s t m 0) v
  rows_start true w = writes_as (sym (plain-none s t m)) w
  rows_start false w = writes_as (sym (qualified-none s t m)) w

  pub rows_next : (b : Bool) (i : ℕ) {w : Writer} → Writes u (rows_to b s t m i) v → Writes v (entry_rows b s t m i) w → Writes u (rows_to b s t m (i + 1)) w
  rows_next true i x y = rw (add-one, plain_more s t m i) (writes_then x y)
  rows_next false i x y = rw (add-one, qualified-more s t m i) (writes_then x y)

  pub all-rows : {w : Writer} → Writes u (qualified_to s t m m) v → Writes v (plain_to s t m m) w → Writes u (const_rows (log_in s t m)) w
  unfolding const_rows qualified_to plain_to
  all-rows x y = writes_then x y
