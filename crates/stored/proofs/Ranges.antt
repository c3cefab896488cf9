-- The values of the items of globals are in the range of their kind, where the folded values are those of 64 bits.
use Prim.Native.Nat.{ℕ, ◌+◌, ◌-◌, ◌^◌, ◌<◌}
use native.Mathlib.Omega.{arith}
use mathlib.Core.Path.{refl}
use mathlib.Core.Bool.{Bool, true, false, cond}
use mathlib.Core.List.{List, [], ◌∷◌, map}
use Rattle.std.specs.Prelude.{Option, None, Some}
use lib.IntN.{ℤ, pos, negsuc}
use lib.Signed.{mag}
use lib.Dec.{T, ltb}
use lib.Ieee.{Float, binary64, fits, to_bits}
use lib.Ieee.Bits.{to_bits-lt}
use lib.Ieee.Casts.{to_signed_in}
use lib.Ieee.Fits.{of_int-fits}
use borrow.Author.Tests.{le-leb, lt-ltb}
use Rattle.semantics.specs.Tree.{Ty, ConstVal, ElemKind}
use Rattle.semantics.specs.Tree.ConstVal.{v_int, v_real, v_str}
use Rattle.semantics.specs.Tree.ElemKind.{k_byte, k_word, k_big, k_real, k_ptr}
use Rattle.semantics.specs.Sheet.{Source}
use Rattle.semantics.specs.Fold.{Names, low_bits, to_real, to_whole}
use Rattle.semantics.specs.Array.{is_of_kind, lowest, low_byte, const_byte, const_word, const_big, const_real}
use Rattle.semantics.specs.Global.{Init, Declared, Globals, str_items, element_items, contents, init_items, place_of, declare_at, globals_from, globals, declared_in, no_globals}
use Rattle.semantics.specs.Global.Values.{big_values, word_values}
use Rattle.semantics.specs.Global.Item.{back_item}
use Rattle.semantics.specs.Global.Init.{no_init, const_init, array_init, pending_init}
use Rattle.stored.proofs.Items.{Fits64, ValuesInRange}
use Rattle.stored.proofs.Sizes.{Ranged}
use Rattle.laws.specs.Every.{Every}
use Rattle.laws.proofs.Every.{every_append}

-- an integer of 64 bits, and a real that binary64 holds
abbrev pub Sound : ConstVal → Type 0
Sound (v_int z) = Fits64 z
Sound (v_real x) = T (fits binary64 x)
Sound (v_str s) = Unit {0}

abbrev pub SoundFirst : Init → Type 0
SoundFirst no_init = Unit {0}
SoundFirst (const_init v) = Sound v
SoundFirst (array_init a) = Every Sound a.values
SoundFirst pending_init = Unit {0}

-- ---- values after conversion

pub small : (z : ℤ) → mag z < 2 ^ 63 → Fits64 z
small (pos n) h = le-leb n (2 ^ 63 - 1) (omega arith)
small (negsuc n) h = lt-ltb n (2 ^ 63) h

low_small : (z : ℤ) → Fits64 (lowest 31 z)
low_small z = go (low_bits 32 z) (low-few z) (ltb (low_bits 32 z) 2147483648)
  where
    low-few : (z : ℤ) → low_bits 32 z < 4294967296
    low-few (pos n) = omega arith
    low-few (negsuc n) = omega arith

    go : (m : ℕ) → m < 4294967296 → (b : Bool) → Fits64 (cond b (pos m) (negsuc (4294967295 - m)))
    go m h true = small (pos m) (omega arith)
    go m h false = small (negsuc (4294967295 - m)) (omega arith)

whole-small : (x : Float) → Fits64 (to_whole 31 x)
unfolding to_whole
whole-small x = let h = to_signed_in 31 x in small (to_whole 31 x) (omega arith)

pub whole-fits : (x : Float) → Fits64 (to_whole 63 x)
unfolding to_whole
whole-fits x = small (to_whole 63 x) (to_signed_in 63 x)

byte_small : (z : ℤ) → low_byte z < 256
byte_small (pos n) = omega arith
byte_small (negsuc n) = omega arith

word-range : (v : ConstVal) → Fits64 (const_word v)
word-range (v_int z) = low_small z
word-range (v_real x) = whole-small x
word-range (v_str s) = refl

big-range : (v : ConstVal) → Sound v → Fits64 (const_big v)
big-range (v_int z) h = h
big-range (v_real x) h = whole-fits x
big-range (v_str s) h = refl

bits_range : (x : Float) → T (fits binary64 x) → to_bits binary64 x < 2 ^ 64
bits_range x h = to_bits-lt binary64 x h

real-range : (v : ConstVal) → Sound v → to_bits binary64 (const_real v) < 2 ^ 64
unfolding to_real fits
real-range (v_int z) h = bits_range (to_real z) (of_int-fits binary64 z)
real-range (v_real x) h = bits_range x h
real-range (v_str s) h = bits_range (const_real (v_str s)) tt

-- ---- items

every_value : {B : Type 0} (Q : B → Type 0) (f : ConstVal → B) → ((v : ConstVal) → Sound v → Q (f v)) → (vs : List ConstVal) → Every Sound vs → Every Q (map f vs)
every_value Q f h [] e = tt
every_value Q f h (v ∷ vs) e = (h v e.0, every_value Q f h vs e.1)

strings-ranged : (o : ℕ) (vs : List ConstVal) → Every Ranged (str_items o vs)
strings-ranged o [] = tt
strings-ranged o (v_int z ∷ vs) = strings-ranged (o + 4) vs
strings-ranged o (v_real x ∷ vs) = strings-ranged (o + 4) vs
strings-ranged o (v_str s ∷ vs) = (tt, strings-ranged (o + 4) vs)

elements-ranged : (k : ElemKind) (vs : List ConstVal) → Every Sound vs → Every Ranged (element_items k vs)
elements-ranged k_byte vs h = (every_value (λ (b : ℕ). b < 256) const_byte (λ v e. byte_small (const_word v)) vs h, tt)
elements-ranged k_word vs h = (every_value Fits64 const_word (λ v e. word-range v) vs h, tt)
elements-ranged k_big vs h = (every_value Fits64 const_big big-range vs h, tt)
elements-ranged k_real vs h = (every_value (λ (x : Float). to_bits binary64 x < 2 ^ 64) const_real real-range vs h, tt)
elements-ranged k_ptr vs h = strings-ranged 0 vs

contents-ranged : (off : ℕ) (k : ElemKind) (vs : List ConstVal) → Every Sound vs → Every Ranged (contents off k vs)
contents-ranged off k [] h = tt
contents-ranged off k (v ∷ vs) h = (tt, every_append Ranged (element_items k (v ∷ vs)) (back_item ∷ []) (elements-ranged k (v ∷ vs) h) (tt, tt))

value-range : (b : Bool) (z : ℤ) → Fits64 z → ValuesInRange (cond b (big_values (z ∷ [])) (word_values (lowest 31 z ∷ [])))
value-range true z h = (h, tt)
value-range false z h = (low_small z, tt)

init-ranged : (off : ℕ) (t : Ty) (i : Init) → SoundFirst i → Every Ranged (init_items off t i)
init-ranged off t no_init h = tt
init-ranged off t (const_init (v_int z)) h = (value-range (is_of_kind k_big t) z h, tt)
init-ranged off t (const_init (v_real x)) h = ((bits_range x h, tt), tt)
init-ranged off t (const_init (v_str s)) h = (tt, tt)
init-ranged off t (array_init a) h = (tt, contents-ranged off a.kind a.values h)
init-ranged off t pending_init h = tt

declare-ranged : (d : Declared) (o : Option ℕ) (g : Globals) → SoundFirst d.first → Every Ranged g.items → Every Ranged (declare_at d o g).items
declare-ranged d None g h e = every_append Ranged g.items _ e (init-ranged _ d.ty d.first h)
declare-ranged d (Some off) g h e = every_append Ranged g.items _ e (init-ranged off d.ty d.first h)

all-ranged : (g : Globals) (ds : List Declared) → Every (λ (d : Declared). SoundFirst d.first) ds → Every Ranged g.items → Every Ranged (globals_from g ds).items
all-ranged g [] h e = e
all-ranged g (d ∷ ds) h e = all-ranged (declare_at d (place_of d.name g.places) g) ds h.1 (declare-ranged d (place_of d.name g.places) g h.0 e)

pub globals-ranged : (ns : Names) (s : Source) → Every (λ (d : Declared). SoundFirst d.first) (declared_in ns s) → Every Ranged (globals ns s).items
globals-ranged ns s h = all-ranged no_globals (declared_in ns s) h tt
