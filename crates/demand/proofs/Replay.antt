-- The replay of the items of the globals, by place. Over zeros a write adds its bytes, so a replay is a sum of layers.
use Prim.Native.Nat.{ℕ, suc, ◌+◌, ◌-◌, ◌*◌, ◌≤◌, ◌<◌}
use native.Mathlib.Nat.{add-zero, zero-add, add_assoc}
use native.Mathlib.Omega.{arith}
use mathlib.Core.Path.{◌≡◌, refl, sym, ap, ◌∙◌, subst}
use mathlib.Core.Bool.{Bool, true, false, cond}
use mathlib.Core.List.{List, [], ◌∷◌, ◌++◌, map, append-nil}
use Rattle.std.specs.Prelude.{Option, None, Some}
use lib.ListN.{length, get_or, length-append}
use lib.Dec.{leb}
use lib.Ieee.{Float, to_bits}
use borrow.Author.Tests.{leb-true, leb-false, eq-eqb}
use Rattle.semantics.specs.Text.{Bytes, big_endian}
use Rattle.semantics.specs.Tree.{Ty, ConstVal, ElemKind}
use Rattle.semantics.specs.Tree.Basic.{int, byte, big, real, string}
use Rattle.semantics.specs.Tree.Ty.{basic, ptr, array, tuple}
use Rattle.semantics.specs.Tree.ConstVal.{v_int, v_real, v_str}
use Rattle.semantics.specs.Tree.ElemKind.{k_byte, k_word, k_big, k_real, k_ptr}
use Rattle.semantics.specs.Sheet.{concat_map}
use Rattle.semantics.specs.Layout.{align_up}
use Rattle.semantics.specs.Fold.{bits64, real_bytes}
use Rattle.semantics.specs.Array.{const_byte, const_word, const_big, const_real, lowest}
use Rattle.semantics.specs.Global.{Item, Init, Declared, global_size, new_offset, element_items, str_items, contents, init_items}
use Rattle.semantics.specs.Global.Item.{values_item, str_item, array_item, set_item, back_item}
use Rattle.semantics.specs.Global.Init.{no_init, const_init, array_init, pending_init}
use Rattle.semantics.specs.Image.{written, word_bytes, big_bytes, handle, elem_size, part_at, end_after, area_after, ArrayPart, Replay, start_of, lay, replay_item, replay_all}
use Rattle.semantics.specs.Demand.{is_of, of_kind, kinds_fit, LaidGlobal, after_part, laid_from, value_bytes, first_bytes, image_byte, string_bytes, element_bytes, after_string, elements_bytes, part_byte, area_byte}
use Rattle.semantics.proofs.Common.{never}
use Rattle.laws.proofs.Tests.{and_left, and_right}
use Rattle.demand.proofs.Bytes.{shifted, shifted-below, shifted_at, shifted_past, shifted-nil, shifted-append, length-written, written-adds, layer, lies-below, get_or-zeros, word-bytes}
use Rattle.laws.proofs.Alignments.{global-size}
use Rattle.demand.proofs.Elements.{ValuesFit}
use Rattle.demand.proofs.Places.{end_at, end_from, items_at, items_from}
use Rattle.laws.specs.Every.{Every}

-- ---- any items: the number of the next one, and the end of the parts

pub replay-append : (is js : List Item) (r : Replay) → replay_all (is ++ js) r ≡ replay_all js (replay_all is r)
replay-append [] js r = refl
replay-append (i ∷ is) js r = replay-append is js (replay_item i r)

lay-keeps : (off : ℕ) (ys : Bytes) (i : Option ℕ) (r : Replay) → ((lay off ys i r).item ≡ suc r.item) × ((lay off ys i r).end ≡ r.end)
lay-keeps off ys None r = (refl, refl)
lay-keeps off ys (Some start) r = (refl, refl)

item-next : (i : Item) (r : Replay) → ((replay_item i r).item ≡ suc r.item) × ((replay_item i r).end ≡ end_after r.end i)
item-next (values_item o vs) r = lay-keeps o _ r.inside r
item-next (str_item o s) r = lay-keeps o _ r.inside r
item-next (array_item o k n) r = lay-keeps o _ r.inside _
item-next (set_item o) r = (refl, refl)
item-next back_item r = (refl, refl)

pub replay-item : (is : List Item) (r : Replay) → (replay_all is r).item ≡ r.item + length is
replay-item [] r = sym (add-zero r.item)
replay-item (i ∷ is) r = let e = (item-next i r).0 in let h = replay-item is (replay_item i r) in omega arith

pub replay-end : (is : List Item) (r : Replay) → (replay_all is r).end ≡ area_after r.end is
replay-end [] r = refl
replay-end (i ∷ is) r = replay-end is (replay_item i r) ∙ ap (λ (e : ℕ). area_after e is) (item-next i r).1

abbrev st : ℕ → Bytes → Bytes → ℕ → List ArrayPart → Option ℕ → Replay
st k im ar a ps i = record { item = k; image = im; area = ar; end = a; parts = ps; inside = i }

-- the bytes from a place on are zero
abbrev pub ZeroFrom : ℕ → Bytes → Type 0
ZeroFrom o xs = (p : ℕ) → o ≤ p → get_or xs p 0 ≡ 0

-- ---- an array's elements

-- a replay inside an array has laid the bytes bs from o on
record Inside (r : Replay) (im ar : Bytes) (o : ℕ) (bs : Bytes) : Type 0 where
  image : r.image ≡ im
  long : length r.area ≡ length ar
  adds : (p : ℕ) → get_or r.area p 0 ≡ get_or ar p 0 + shifted o bs p

abbrev zeros4 : Bytes
zeros4 = 0 ∷ 0 ∷ 0 ∷ 0 ∷ []

shifted-zeros : (o p : ℕ) → shifted o zeros4 p ≡ 0
shifted-zeros o p = go (leb o p) refl
  where
    go : (b : Bool) → leb o p ≡ b → shifted o zeros4 p ≡ 0
    go true e = shifted_at o zeros4 p (leb-true o p e) ∙ get_or-zeros [] 4 (p - o)
    go false e = shifted-below o zeros4 p (leb-false o p e)

-- an element that leaves no item
skipped : (r : Replay) (im ar : Bytes) (start o : ℕ) (bs : Bytes) → Inside r im ar (start + (o + 4)) bs → Inside r im ar (start + o) (zeros4 ++ bs)
skipped r im ar start o bs h = record {
  image = h.image;
  long = h.long;
  adds = λ p.
      let e : start + (o + 4) ≡ start + o + 4 = omega arith in
      h.adds p ∙ ap (λ (n : ℕ). get_or ar p 0 + n)
      (ap (λ (n : ℕ). shifted n bs p) e ∙ sym (shifted-append (start + o) zeros4 bs p ∙ ap (λ (n : ℕ). n + shifted (start + o + 4) bs p) (shifted-zeros (start + o) p) ∙ zero-add (shifted (start + o + 4) bs p)));
}

strings : (vs : List ConstVal) (k : ℕ) (im ar : Bytes) (a : ℕ) (ps : List ArrayPart) (start o : ℕ) → start + o + 4 * length vs ≤ length ar → ZeroFrom (start + o) ar
    → Inside (replay_all (str_items o vs) (st k im ar a ps (Some start))) im ar (start + o) (elements_bytes k_ptr k vs)
unfolding big_endian
strings [] k im ar a ps start o h z = record { image = refl; long = refl; adds = λ p. rw (shifted-nil (start + o) p, add-zero) }
strings (v_int x ∷ vs) k im ar a ps start o h z = skipped _ im ar start o (elements_bytes k_ptr k vs) (strings vs k im ar a ps start (o + 4) (omega arith) (λ p l. z p (omega arith)))
strings (v_real x ∷ vs) k im ar a ps start o h z = skipped _ im ar start o (elements_bytes k_ptr k vs) (strings vs k im ar a ps start (o + 4) (omega arith) (λ p l. z p (omega arith)))
strings (v_str s ∷ vs) k im ar a ps start o h z =
    let bs : Bytes = handle k in
    let rest : Bytes = elements_bytes k_ptr (suc k) vs in
    let fits : start + o + length bs ≤ length ar = omega arith in
    let ar₁ : Bytes = written ar (start + o) bs in
    let l₁ : length ar₁ ≡ length ar = length-written ar (start + o) bs fits in
    let a₁ = written-adds ar (start + o) bs fits z in
    let e : start + (o + 4) ≡ start + o + length bs = omega arith in
    let ih = strings vs (suc k) im ar₁ a ps start (o + 4) (omega arith) (λ p l. a₁ p ∙ rw (z p (omega arith), shifted_past (start + o) bs p (omega arith))) in
    record {
      image = ih.image;
      long = ih.long ∙ l₁;
      adds = λ p.
          ih.adds p ∙ ap (λ (n : ℕ). n + shifted (start + (o + 4)) rest p) (a₁ p)
          ∙ add_assoc (get_or ar p 0) (shifted (start + o) bs p) (shifted (start + (o + 4)) rest p)
          ∙ ap (λ (n : ℕ). get_or ar p 0 + n) (ap (λ (n : ℕ). shifted (start + o) bs p + shifted n rest p) e ∙ sym (shifted-append (start + o) bs rest p));
    }

-- elements of one size, laid by one item
each-element : {A : Type 0} (e : ElemKind) (f : ConstVal → A) (g : A → Bytes) → ((k : ℕ) (v : ConstVal) → g (f v) ≡ element_bytes e k v)
    → (vs : List ConstVal) (k : ℕ) → concat_map g (map f vs) ≡ elements_bytes e k vs
each-element e f g h [] k = refl
each-element e f g h (v ∷ vs) k = λ i. h k v i ++ each-element e f g h vs (after_string k v) i

byte-elements : (vs : List ConstVal) (k : ℕ) → map const_byte vs ≡ elements_bytes k_byte k vs
byte-elements [] k = refl
byte-elements (v ∷ vs) k = ap (λ (r : Bytes). const_byte v ∷ r) (byte-elements vs (after_string k v))

pub real-long : (x : Float) → length (real_bytes x) ≡ 8
unfolding to_bits big_endian
real-long x = refl

string-long : (k : ℕ) (v : ConstVal) → length (string_bytes k v) ≡ 4
unfolding big_endian
string-long k (v_int x) = refl
string-long k (v_real x) = refl
string-long k (v_str s) = refl

element-long : (e : ElemKind) (k : ℕ) (v : ConstVal) → length (element_bytes e k v) ≡ elem_size e
unfolding big_endian
element-long k_byte k v = refl
element-long k_word k v = refl
element-long k_big k v = refl
element-long k_real k v = real-long (const_real v)
element-long k_ptr k v = string-long k v

elements-long : (e : ElemKind) (k : ℕ) (vs : List ConstVal) → length (elements_bytes e k vs) ≡ elem_size e * length vs
elements-long e k [] = omega arith
elements-long e k (v ∷ vs) =
    let a = element-long e k v in
    let b = elements-long e (after_string k v) vs in
    length-append (element_bytes e k v) (elements_bytes e (after_string k v) vs) ∙ omega arith

one-item : (k : ℕ) (im ar : Bytes) (a : ℕ) (ps : List ArrayPart) (start : ℕ) (ys bs : Bytes) → ys ≡ bs → start + length bs ≤ length ar → ZeroFrom start ar
    → Inside (st (suc k) im (written ar (start + 0) ys) a ps (Some start)) im ar start bs
one-item k im ar a ps start ys bs e h z =
    let w : written ar (start + 0) ys ≡ written ar start bs = ap (λ (n : ℕ). written ar n ys) (add-zero start) ∙ ap (written ar start) e in
    record {
      image = refl;
      long = ap length w ∙ length-written ar start bs h;
      adds = λ p. ap (λ (xs : Bytes). get_or xs p 0) w ∙ written-adds ar start bs h z p;
    }

elements : (e : ElemKind) (vs : List ConstVal) (k : ℕ) (im ar : Bytes) (a : ℕ) (ps : List ArrayPart) (start : ℕ) → start + elem_size e * length vs ≤ length ar → ZeroFrom start ar
    → Inside (replay_all (element_items e vs) (st k im ar a ps (Some start))) im ar start (elements_bytes e k vs)
elements k_byte vs k im ar a ps start h z = one-item k im ar a ps start _ _ (byte-elements vs k) (rw (elements-long k_byte k vs) h) z
elements k_word vs k im ar a ps start h z = one-item k im ar a ps start _ _ (each-element k_word const_word word_bytes (λ j v. refl) vs k) (rw (elements-long k_word k vs) h) z
elements k_big vs k im ar a ps start h z = one-item k im ar a ps start _ _ (each-element k_big const_big big_bytes (λ j v. refl) vs k) (rw (elements-long k_big k vs) h) z
elements k_real vs k im ar a ps start h z = one-item k im ar a ps start _ _ (each-element k_real const_real real_bytes (λ j v. refl) vs k) (rw (elements-long k_real k vs) h) z
elements k_ptr vs k im ar a ps start h z =
    let e : start + 0 ≡ start = add-zero start in
    let i = strings vs k im ar a ps start 0 (omega arith) (λ p l. z p (omega arith)) in
    record { image = i.image; long = i.long; adds = λ p. i.adds p ∙ ap (λ (n : ℕ). get_or ar p 0 + shifted n (elements_bytes k_ptr k vs) p) e }

-- ---- a global's items

-- a replay has laid the bytes bs at off of the image, and added part to the area
record LaidOutside (r : Replay) (im ar : Bytes) (off : ℕ) (bs : Bytes) (part : ℕ → ℕ) : Type 0 where
  inside : r.inside ≡ None
  image_long : length r.image ≡ length im
  area_long : length r.area ≡ length ar
  image_adds : (p : ℕ) → get_or r.image p 0 ≡ get_or im p 0 + shifted off bs p
  area_adds : (p : ℕ) → get_or r.area p 0 ≡ get_or ar p 0 + part p

-- no item
nothing : (k : ℕ) (im ar : Bytes) (a : ℕ) (ps : List ArrayPart) (off : ℕ) → LaidOutside (st k im ar a ps None) im ar off [] (λ p. 0)
nothing k im ar a ps off = record {
  inside = refl;
  image_long = refl;
  area_long = refl;
  image_adds = λ p. rw (shifted-nil off p, add-zero);
  area_adds = λ p. sym (add-zero (get_or ar p 0));
}

-- an item of the image
value : (k : ℕ) (im ar : Bytes) (a : ℕ) (ps : List ArrayPart) (off : ℕ) (ys bs : Bytes) → ys ≡ bs → off + length bs ≤ length im → ZeroFrom off im
    → LaidOutside (st (suc k) (written im off ys) ar a ps None) im ar off bs (λ p. 0)
value k im ar a ps off ys bs e h z = record {
  inside = refl;
  image_long = ap (λ (xs : Bytes). length (written im off xs)) e ∙ length-written im off bs h;
  area_long = refl;
  image_adds = λ p. ap (λ (xs : Bytes). get_or (written im off xs) p 0) e ∙ written-adds im off bs h z p;
  area_adds = λ p. sym (add-zero (get_or ar p 0));
}

pub size-le : (e : ElemKind) (m n : ℕ) → m ≤ n → elem_size e * m ≤ elem_size e * n
size-le k_byte m n h = omega arith
size-le k_word m n h = omega arith
size-le k_big m n h = omega arith
size-le k_real m n h = omega arith
size-le k_ptr m n h = omega arith

array-items : (k : ℕ) (im ar : Bytes) (a : ℕ) (ps : List ArrayPart) (off : ℕ) (e : ElemKind) (n : ℕ) (vs : List ConstVal)
    → off + 4 ≤ length im → ZeroFrom off im → part_at a + elem_size e * n ≤ length ar → ZeroFrom a ar → length vs ≤ n
    → LaidOutside (replay_all (array_item off e n ∷ contents off e vs) (st k im ar a ps None)) im ar off (handle k) (λ p. shifted (part_at a) (elements_bytes e (suc (suc k)) vs) p)
unfolding big_endian
array-items k im ar a ps off e n [] fits z room zr l = record {
  inside = refl;
  image_long = length-written im off (handle k) fits;
  area_long = refl;
  image_adds = written-adds im off (handle k) fits z;
  area_adds = λ p. sym (rw (shifted-nil (part_at a) p, add-zero));
}
array-items k im ar a ps off e n (v ∷ vs) fits z room zr l =
    let start = part_at a in
    let im₁ = written im off (handle k) in
    let a₁ = end_after a (array_item off e n) in
    let ps₁ : List ArrayPart = record { place = off; start = start } ∷ ps in
    let s = size-le e (length (v ∷ vs)) n l in
    let i = elements e (v ∷ vs) (suc (suc k)) im₁ ar a₁ ps₁ start (omega arith) (λ p h. zr p (omega arith)) in
    let is =
    ap (λ (b : Bool). replay_all (element_items e (v ∷ vs) ++ (back_item ∷ [])) (st (suc (suc k)) im₁ ar a₁ ps₁ (Some (cond b start (start_of off ps))))) (eq-eqb off off refl)
    ∙ replay-append (element_items e (v ∷ vs)) (back_item ∷ []) (st (suc (suc k)) im₁ ar a₁ ps₁ (Some start)) in
    subst (λ (r : Replay). LaidOutside r im ar off (handle k) (λ p. shifted start (elements_bytes e (suc (suc k)) (v ∷ vs)) p)) (sym is)
    (record {
      inside = refl;
      image_long = ap length i.image ∙ length-written im off (handle k) fits;
      area_long = i.long;
      image_adds = λ p. ap (λ (xs : Bytes). get_or xs p 0) i.image ∙ written-adds im off (handle k) fits z p;
      area_adds = i.adds;
    })

-- ---- a first value

size-4 : (t : Ty) → 4 ≤ global_size t
size-4 t = global-size (λ n. 4 ≤ n) (omega arith) (omega arith) t

align-up : (t : Ty) (e : ℕ) → e ≤ new_offset t e
align-up t e = global-size (λ n. e ≤ align_up n e) (omega arith) (omega arith) t

-- a value of its type's kind
data TypedValue : Ty → ConstVal → Type 0 where
  an_int : (x : lib.IntN.ℤ) → TypedValue (basic int) (v_int x)
  a_byte : (x : lib.IntN.ℤ) → TypedValue (basic byte) (v_int x)
  a_big : (x : lib.IntN.ℤ) → TypedValue (basic big) (v_int x)
  a_real : (x : Float) → TypedValue (basic real) (v_real x)
  a_string : (s : Bytes) → TypedValue (basic string) (v_str s)
  a_ptr : (s : Bytes) → TypedValue ptr (v_str s)

value_of : (t : Ty) (v : ConstVal) → is_of t v ≡ true → TypedValue t v
value_of (basic int) (v_int x) h = an_int x
value_of (basic int) (v_real x) h = never h
value_of (basic int) (v_str s) h = never h
value_of (basic byte) (v_int x) h = a_byte x
value_of (basic byte) (v_real x) h = never h
value_of (basic byte) (v_str s) h = never h
value_of (basic big) (v_int x) h = a_big x
value_of (basic big) (v_real x) h = never h
value_of (basic big) (v_str s) h = never h
value_of (basic real) (v_int x) h = never h
value_of (basic real) (v_real x) h = a_real x
value_of (basic real) (v_str s) h = never h
value_of (basic string) (v_int x) h = never h
value_of (basic string) (v_real x) h = never h
value_of (basic string) (v_str s) h = a_string s
value_of ptr (v_int x) h = never h
value_of ptr (v_real x) h = never h
value_of ptr (v_str s) h = a_ptr s
value_of (array t) v h = never h
value_of (tuple ts) v h = never h

-- it takes the global's size
value-long : (t : Ty) (v : ConstVal) (k : ℕ) → TypedValue t v → length (value_bytes t k v) ≡ global_size t
unfolding big_endian
value-long t v k (an_int x) = refl
value-long t v k (a_byte x) = refl
value-long t v k (a_big x) = refl
value-long t v k (a_real x) = real-long x
value-long t v k (a_string s) = refl
value-long t v k (a_ptr s) = refl

first-long : (t : Ty) (k : ℕ) (i : Init) → of_kind t i ≡ true → length (first_bytes t k i) ≤ global_size t
unfolding big_endian
first-long t k no_init h = omega arith
first-long t k (const_init v) h = let l = value-long t v k (value_of t v h) in omega arith
first-long t k (array_init a) h = size-4 t
first-long t k pending_init h = omega arith

value-item : (t : Ty) (v : ConstVal) (k : ℕ) (im ar : Bytes) (a : ℕ) (ps : List ArrayPart) (off : ℕ) → TypedValue t v → off + length (value_bytes t k v) ≤ length im → ZeroFrom off im
    → LaidOutside (replay_all (init_items off t (const_init v)) (st k im ar a ps None)) im ar off (value_bytes t k v) (λ p. 0)
unfolding big_endian
value-item t v k im ar a ps off (an_int x) h z = value k im ar a ps off (word_bytes (lowest 31 x)) (big_endian 4 (bits64 x)) (word-bytes x) h z
value-item t v k im ar a ps off (a_byte x) h z = value k im ar a ps off (word_bytes (lowest 31 x)) (big_endian 4 (bits64 x)) (word-bytes x) h z
value-item t v k im ar a ps off (a_big x) h z = value k im ar a ps off (big_bytes x) (big_endian 8 (bits64 x)) refl h z
value-item t v k im ar a ps off (a_real x) h z = value k im ar a ps off (real_bytes x ++ []) (real_bytes x) (append-nil (real_bytes x)) h z
value-item t v k im ar a ps off (a_string s) h z = value k im ar a ps off (handle k) (handle k) refl h z
value-item t v k im ar a ps off (a_ptr s) h z = value k im ar a ps off (handle k) (handle k) refl h z

-- what a first value adds to the area, whose parts end at a
abbrev area_added : ℕ → ℕ → Init → ℕ → ℕ
area_added k a no_init p = 0
area_added k a (const_init v) p = 0
area_added k a (array_init b) p = shifted (part_at a) (elements_bytes b.kind (suc (suc k)) b.values) p
area_added k a pending_init p = 0

init-items : (t : Ty) (i : Init) (k : ℕ) (im ar : Bytes) (a : ℕ) (ps : List ArrayPart) (off : ℕ) → of_kind t i ≡ true → ValuesFit i
    → off + global_size t ≤ length im → ZeroFrom off im → after_part a i ≤ length ar → ZeroFrom a ar
    → LaidOutside (replay_all (init_items off t i) (st k im ar a ps None)) im ar off (first_bytes t k i) (area_added k a i)
init-items t no_init k im ar a ps off h s fits z room zr = nothing k im ar a ps off
init-items t (const_init v) k im ar a ps off h s fits z room zr =
    let w = value_of t v h in
    let l = value-long t v k w in
    value-item t v k im ar a ps off w (omega arith) z
init-items t (array_init b) k im ar a ps off h s fits z room zr =
    let l = size-4 t in
    array-items k im ar a ps off b.kind b.count b.values (omega arith) z room zr s
init-items t pending_init k im ar a ps off h s fits z room zr = nothing k im ar a ps off

-- ---- all globals

abbrev pub AllSized : List Declared → Type 0
AllSized ds = Every (λ (d : Declared). ValuesFit d.first) ds

-- where their parts of the area end
abbrev pub parts_from : ℕ → List Declared → ℕ
parts_from a [] = a
parts_from a (d ∷ ds) = parts_from (after_part a d.first) ds

end-above : (ds : List Declared) (e : ℕ) → e ≤ end_from e ds
end-above [] e = omega arith
end-above (d ∷ ds) e = let a = align-up d.ty e in let b = end-above ds (end_at d e) in omega arith

part-above : (i : Init) (a : ℕ) → a ≤ after_part a i
part-above no_init a = omega arith
part-above (const_init v) a = omega arith
part-above (array_init b) a = omega arith
part-above pending_init a = omega arith

parts-above : (ds : List Declared) (a : ℕ) → a ≤ parts_from a ds
parts-above [] a = omega arith
parts-above (d ∷ ds) a = let b = part-above d.first a in let c = parts-above ds (after_part a d.first) in omega arith

image-below : (ds : List Declared) (e k a p : ℕ) → p < e → image_byte (laid_from e k a ds) p ≡ 0
image-below [] e k a p h = refl
image-below (d ∷ ds) e k a p h =
    let u = align-up d.ty e in
    rw (lies-below p (new_offset d.ty e) (global_size d.ty) (omega arith)) (image-below ds (end_at d e) _ _ p (omega arith))

part-below : (p k a : ℕ) (i : Init) (rest : ℕ) → p < a → rest ≡ 0 → part_byte p k (part_at a) i rest ≡ 0
part-below p k a no_init rest h z = z
part-below p k a (const_init v) rest h z = z
part-below p k a (array_init b) rest h z = rw (lies-below p (part_at a) (elem_size b.kind * b.count) (omega arith)) z
part-below p k a pending_init rest h z = z

area-below : (ds : List Declared) (e k a p : ℕ) → p < a → area_byte (laid_from e k a ds) p ≡ 0
area-below [] e k a p h = refl
area-below (d ∷ ds) e k a p h = let b = part-above d.first a in part-below p k a d.first _ h (area-below ds (end_at d e) _ (after_part a d.first) p (omega arith))

part-layer : (p k a : ℕ) (i : Init) (rest : ℕ) → ValuesFit i → (p < after_part a i → rest ≡ 0) → area_added k a i p + rest ≡ part_byte p k (part_at a) i rest
part-layer p k a no_init rest s z = zero-add rest
part-layer p k a (const_init v) rest s z = zero-add rest
part-layer p k a (array_init b) rest s z =
    let l = elements-long b.kind (suc (suc k)) b.values in
    let m = size-le b.kind (length b.values) b.count s in
    layer p (part_at a) (elem_size b.kind * b.count) (elements_bytes b.kind (suc (suc k)) b.values) rest (omega arith) z
part-layer p k a pending_init rest s z = zero-add rest

-- no bytes behind the part's end
added-past : (k a : ℕ) (i : Init) (p : ℕ) → ValuesFit i → after_part a i ≤ p → area_added k a i p ≡ 0
added-past k a no_init p s h = refl
added-past k a (const_init v) p s h = refl
added-past k a (array_init b) p s h =
    let l = elements-long b.kind (suc (suc k)) b.values in
    let m = size-le b.kind (length b.values) b.count s in
    shifted_past (part_at a) (elements_bytes b.kind (suc (suc k)) b.values) p (omega arith)
added-past k a pending_init p s h = refl

-- the end of the parts, by the items
pub init-end : (t : Ty) (i : Init) (off a : ℕ) → area_after a (init_items off t i) ≡ after_part a i
init-end t no_init off a = refl
init-end t (const_init (v_int x)) off a = refl
init-end t (const_init (v_real x)) off a = refl
init-end t (const_init (v_str s)) off a = refl
init-end t (array_init b) off a = contents-end b.kind b.values (part_at a + elem_size b.kind * b.count)
  where
    strings-end : (vs : List ConstVal) (o e : ℕ) (is : List Item) → area_after e (str_items o vs ++ is) ≡ area_after e is
    strings-end [] o e is = refl
    strings-end (v_int x ∷ vs) o e is = strings-end vs (o + 4) e is
    strings-end (v_real x ∷ vs) o e is = strings-end vs (o + 4) e is
    strings-end (v_str s ∷ vs) o e is = strings-end vs (o + 4) e is

    elements-end : (k : ElemKind) (vs : List ConstVal) (e : ℕ) → area_after e (element_items k vs ++ (back_item ∷ [])) ≡ e
    elements-end k_byte vs e = refl
    elements-end k_word vs e = refl
    elements-end k_big vs e = refl
    elements-end k_real vs e = refl
    elements-end k_ptr vs e = strings-end vs 0 e (back_item ∷ [])

    contents-end : (k : ElemKind) (vs : List ConstVal) (e : ℕ) → area_after e (contents off k vs) ≡ e
    contents-end k [] e = refl
    contents-end k (v ∷ vs) e = elements-end k (v ∷ vs) e
init-end t pending_init off a = refl

pub area-append : (xs ys : List Item) (a : ℕ) → area_after a (xs ++ ys) ≡ area_after (area_after a xs) ys
area-append [] ys a = refl
area-append (x ∷ xs) ys a = area-append xs ys (end_after a x)

pub items-end : (ds : List Declared) (e a : ℕ) → area_after a (items_from e ds) ≡ parts_from a ds
items-end [] e a = refl
items-end (d ∷ ds) e a =
    area-append (items_at d e) (items_from (end_at d e) ds) a
    ∙ ap (λ (x : ℕ). area_after x (items_from (end_at d e) ds)) (init-end d.ty d.first (new_offset d.ty e) a)
    ∙ items-end ds (end_at d e) (after_part a d.first)

-- what a replay of all items adds to image and area
pub record ReplayAdds (r : Replay) (im ar : Bytes) (ls : List LaidGlobal) : Type 0 where
  pub image_long : length r.image ≡ length im
  pub area_long : length r.area ≡ length ar
  pub image : (p : ℕ) → get_or r.image p 0 ≡ get_or im p 0 + image_byte ls p
  pub area : (p : ℕ) → get_or r.area p 0 ≡ get_or ar p 0 + area_byte ls p

-- what stands at the end, of what stood before, one global's layer and the rest
joined : (b l r : ℕ) {f m w : ℕ} → f ≡ m + r → m ≡ b + l → l + r ≡ w → f ≡ b + w
joined b l r p q h = omega arith

pub replayed : (ds : List Declared) (e k : ℕ) (im ar : Bytes) (a : ℕ) (ps : List ArrayPart) → kinds_fit ds ≡ true → AllSized ds
    → end_from e ds ≤ length im → ZeroFrom e im → parts_from a ds ≤ length ar → ZeroFrom a ar
    → ReplayAdds (replay_all (items_from e ds) (st k im ar a ps None)) im ar (laid_from e k a ds)
replayed [] e k im ar a ps h s fits z room zr =
    record { image_long = refl; area_long = refl; image = λ p. sym (add-zero (get_or im p 0)); area = λ p. sym (add-zero (get_or ar p 0)) }
replayed (d ∷ ds) e k im ar a ps h s fits z room zr =
    let t = d.ty in
    let i = d.first in
    let off = new_offset t e in
    let kind = and_left (of_kind t i) (kinds_fit ds) h in
    let u = align-up t e in
    let v = end-above ds (end_at d e) in
    let w = parts-above ds (after_part a i) in
    let r₀ = st k im ar a ps None in
    let r₁ = replay_all (items_at d e) r₀ in
    let o = init-items t i k im ar a ps off kind s.0 (omega arith) (λ p l. z p (omega arith)) (omega arith) zr in
    let long = first-long t k i kind in
    let il = o.image_long in
    let al = o.area_long in
    let k₁ = k + length (items_at d e) in
    let a₁ = after_part a i in
    let ih = replayed ds (end_at d e) k₁ r₁.image r₁.area a₁ r₁.parts (and_right (of_kind t i) (kinds_fit ds) h) s.1
    (omega arith) (λ p l. o.image_adds p ∙ rw (z p (omega arith), shifted_past off (first_bytes t k i) p (omega arith)))
    (omega arith) (λ p l. let b = part-above i a in o.area_adds p ∙ rw (zr p (omega arith), added-past k a i p s.0 l)) in
    let state : st k₁ r₁.image r₁.area a₁ r₁.parts None ≡ r₁ =
    sym (λ x. record { item = replay-item (items_at d e) r₀ x; image = r₁.image; area = r₁.area; end = (replay-end (items_at d e) r₀ ∙ init-end t i off a) x; parts = r₁.parts; inside = o.inside x }) in
    let same = ap (replay_all (items_from (end_at d e) ds)) state ∙ sym (replay-append (items_at d e) (items_from (end_at d e) ds) r₀) in
    let rest = laid_from (end_at d e) k₁ a₁ ds in
    subst (λ (r : Replay). ReplayAdds r im ar (laid_from e k a (d ∷ ds))) same
    (record {
      image_long = ih.image_long ∙ il;
      area_long = ih.area_long ∙ al;
      image = λ p.
          joined (get_or im p 0) (shifted off (first_bytes t k i) p) (image_byte rest p) (ih.image p) (o.image_adds p)
          (layer p off (global_size t) (first_bytes t k i) (image_byte rest p) long (image-below ds (end_at d e) k₁ a₁ p));
      area = λ p.
          joined (get_or ar p 0) (area_added k a i p) (area_byte rest p) (ih.area p) (o.area_adds p)
          (part-layer p k a i (area_byte rest p) s.0 (area-below ds (end_at d e) k₁ a₁ p));
    })
