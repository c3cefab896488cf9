-- What a good field says keeps to the limits where the nodes before do, and so does what a form makes of good fields.
use Prim.Native.Nat.{ℕ, zero, suc, ◌-◌, ◌≤◌}
use native.Mathlib.Omega.{arith}
use mathlib.Core.Path.{◌≡◌, refl}
use mathlib.Core.Bool.{Bool, true, false, cond}
use mathlib.Core.List.{List, [], ◌∷◌, ◌++◌}
use Rattle.std.specs.Prelude.{Option, None, Some}
use lib.ListN.{length, drop, get_or, length-drop}
use lib.Dec.{T, ltb, eqb}
use lib.IntN.{ℤ, pos}
use lib.Ieee.{binary64, fits}
use lib.Ieee.Bits.{of_bits-fits}
use Rattle.semantics.specs.Text.{Bytes, parts_at, fields_of, head_part, tail_parts, cut, or_else, holds_of, int_of, unhex, hex_pair, hex_value, from_big_endian}
use Rattle.semantics.specs.Tree.{Node, no_node}
use Rattle.semantics.specs.Form.{Atom, Part, Value, Makes, holds, between, value, values, make, number_of, perhaps_at, is_count, fits as fields_fit, fields_from, ones}
use Rattle.semantics.specs.Form.Atom.{name, key, ref, maybe, unary_op, binary_op, line_or_col, size, i64, offset, real, text}
use Rattle.semantics.specs.Form.Part.{one, many}
use Rattle.semantics.proofs.Common.{never, both}
use Rattle.write.specs.Plain.{is_plain_text}
use Rattle.stored.proofs.Items.{Fits64}
use Rattle.stored.proofs.Names.{name-plain}
use Rattle.sound.proofs.Limits.{LimitedNode}
use Rattle.laws.specs.Every.{Every}

-- ---- the fields of a line of at most k bytes

abbrev pub Short : ℕ → Bytes → Type 0
Short k f = length f ≤ k

short-more : (k : ℕ) (fs : List Bytes) → Every (Short k) fs → Every (Short (suc k)) fs
short-more k [] h = tt
short-more k (f ∷ fs) h = (omega (arith, h.0), short-more k fs h.1)

head-short : (k : ℕ) (fs : List Bytes) → Every (Short k) fs → length (head_part fs) ≤ k
head-short k [] h = omega arith
head-short k (f ∷ fs) h = h.0

tail-short : (k : ℕ) (fs : List Bytes) → Every (Short k) fs → Every (Short k) (tail_parts fs)
tail-short k [] h = tt
tail-short k (f ∷ fs) h = h.1

drop-short : (k n : ℕ) (fs : List Bytes) → Every (Short k) fs → Every (Short k) (drop n fs)
drop-short k zero fs h = h
drop-short k (suc n) [] h = tt
drop-short k (suc n) (f ∷ fs) h = drop-short k n fs h.1

parts-short : (c k : ℕ) (l : Bytes) → length l ≤ k → Every (Short k) (parts_at c l)
parts-short c k [] h = (omega arith, tt)
parts-short c zero (b ∷ l) h = absurd (omega arith)
parts-short c (suc k) (b ∷ l) h = go (eqb b c) (parts-short c k l (omega arith))
  where
    go : (t : Bool) → Every (Short k) (parts_at c l) → Every (Short (suc k)) (cut t b (parts_at c l))
    go true e = (omega arith, short-more k (parts_at c l) e)
    go false e = (omega (arith, head-short k (parts_at c l) e), short-more k (tail_parts (parts_at c l)) (tail-short k (parts_at c l) e))

pub fields-short : (k n : ℕ) (l : Bytes) → length l ≤ k → Every (Short k) (fields_from n l)
fields-short k n l h = go (ltb (length l) n)
  where
    go : (t : Bool) → Every (Short k) (cond t [] (fields_of (drop n l)))
    go true = tt
    go false = parts-short 44 k (drop n l) (omega (arith, length-drop n l, h))

-- hex writes no more bytes than it has digits
unhex-short : (f : Bytes) → length (or_else [] (unhex f)) ≤ length f
unfolding unhex
unhex-short [] = omega arith
unhex-short (h ∷ []) = omega arith
unhex-short (h ∷ (l ∷ ds)) = go (hex_value h) (hex_value l) (unhex ds) (unhex-short ds)
  where
    go : (a b : Option ℕ) (o : Option Bytes) → length (or_else [] o) ≤ length ds → length (or_else [] (hex_pair a b o)) ≤ suc (suc (length ds))
    go None b o e = omega arith
    go (Some a) None o e = omega arith
    go (Some a) (Some b) None e = omega arith
    go (Some a) (Some b) (Some bs) e = omega (arith, e)

-- ---- what a field says

abbrev pub LimitedPerhaps : Option Node → Type 0
LimitedPerhaps None = Unit {0}
LimitedPerhaps (Some m) = LimitedNode m

abbrev pub LimitedField : (a : Atom) → Value a → Type 0
LimitedField name v = is_plain_text v ≡ true
LimitedField key v = Unit {0}
LimitedField (ref k) v = LimitedNode v
LimitedField (maybe k) v = LimitedPerhaps v
LimitedField unary_op v = Unit {0}
LimitedField binary_op v = Unit {0}
LimitedField line_or_col v = Unit {0}
LimitedField size v = Unit {0}
LimitedField i64 v = Fits64 v
LimitedField offset v = Unit {0}
LimitedField real v = T (fits binary64 v)
LimitedField text v = length v ≤ 256

-- what a form makes of fields within the limits is within them
abbrev pub KeepsLimits : (ps : List Part) → Makes ps → Type 0
KeepsLimits [] m = LimitedNode m
KeepsLimits (one a ∷ ps) m = (v : Value a) → LimitedField a v → KeepsLimits ps (m v)
KeepsLimits (many a ∷ ps) m = (vs : List (Value a)) → Every (LimitedField a) vs → KeepsLimits ps (m vs)

no-node : LimitedNode no_node
no-node = record { ex = tt; el = tt; fd = tt; tags = tt; fields = tt; adts = tt; consts = tt; vars = tt; opens = tt }

node-limited : (ns : List Node) (j : ℕ) → Every LimitedNode ns → LimitedNode (get_or ns j no_node)
node-limited [] j h = no-node
node-limited (m ∷ ns) zero h = h.0
node-limited (m ∷ ns) (suc j) h = node-limited ns j h.1

perhaps-limited : (ns : List Node) (r : ℕ) → Every LimitedNode ns → LimitedPerhaps (perhaps_at ns r)
perhaps-limited ns zero h = tt
perhaps-limited ns (suc r) h = node-limited ns (suc r - 1) h

integer-fits : (o : Option ℤ) → holds_of (between 9223372036854775808 9223372036854775807) o ≡ true → Fits64 (or_else (pos 0) o)
integer-fits None h = refl
integer-fits (Some z) h = h

module _ (ns : List Node) (before : Every LimitedNode ns) where
  value-limited : (a : Atom) (f : Bytes) → holds a f ≡ true → Short 255 f → LimitedField a (value a ns f)
  value-limited name f h l = name-plain f h
  value-limited key f h l = tt
  value-limited (ref k) f h l = node-limited ns (number_of f - 1) before
  value-limited (maybe k) f h l = perhaps-limited ns (number_of f) before
  value-limited unary_op f h l = tt
  value-limited binary_op f h l = tt
  value-limited line_or_col f h l = tt
  value-limited size f h l = tt
  value-limited i64 f h l = integer-fits (int_of f) h
  value-limited offset f h l = tt
  value-limited real f h l = of_bits-fits binary64 (from_big_endian 0 (or_else [] (unhex f)))
  value-limited text f h l = omega (arith, unhex-short f, l)

  values-limited : (n : ℕ) (a : Atom) (ps : List Part) (fs : List Bytes) → fields_fit (ones n a ++ ps) fs ≡ true → Every (Short 255) fs
      → Every (LimitedField a) (values a ns n fs) × (fields_fit ps (drop n fs) ≡ true)
  values-limited zero a ps fs h l = (tt, h)
  values-limited (suc n) a ps [] h l = never h
  values-limited (suc n) a ps (f ∷ fs) h l =
      let w = both (holds a f) (fields_fit (ones n a ++ ps) fs) h in
      let r = values-limited n a ps fs w.1 l.1 in
      ((value-limited a f w.0 l.0, r.0), r.1)

  pub make-limited : (ps : List Part) (m : Makes ps) (fs : List Bytes) → fields_fit ps fs ≡ true → Every (Short 255) fs → KeepsLimits ps m → LimitedNode (make ps m ns fs)
  make-limited [] m fs h l k = k
  make-limited (one a ∷ ps) m [] h l k = never h
  make-limited (one a ∷ ps) m (f ∷ fs) h l k =
      let w = both (holds a f) (fields_fit ps fs) h in
      make-limited ps (m (value a ns f)) fs w.1 l.1 (k (value a ns f) (value-limited a f w.0 l.0))
  make-limited (many a ∷ ps) m [] h l k = never h
  make-limited (many a ∷ ps) m (f ∷ fs) h l k =
      let n = number_of f in
      let v = values-limited n a ps fs (both (is_count f) (fields_fit (ones n a ++ ps) fs) h).1 l.1 in
      make-limited ps (m (values a ns n fs)) (drop n fs) v.1 (drop-short 255 n fs l.1) (k (values a ns n fs) v.0)
