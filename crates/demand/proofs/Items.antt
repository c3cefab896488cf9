-- Each handle's item is the sheet's item with the handle's number, put at the handle's own place.
use Prim.Native.Nat.{ℕ, suc, ◌+◌}
use native.Mathlib.Omega.{arith}
use mathlib.Core.Path.{◌≡◌, refl, sym, ap, ◌∙◌, subst}
use mathlib.Core.List.{List, [], ◌∷◌, ◌++◌, append_assoc}
use Rattle.std.specs.Prelude.{Option, None, Some}
use lib.ListN.{length, take, length-append}
use Rattle.std.specs.List.{slice_get}
use lib.Seq.{take_at}
use Rattle.semantics.specs.Tree.{Ty, ConstVal, ElemKind}
use Rattle.semantics.specs.Tree.ConstVal.{v_int, v_real, v_str}
use Rattle.semantics.specs.Tree.ElemKind.{k_byte, k_word, k_big, k_real, k_ptr}
use Rattle.semantics.specs.Global.{Item, Init, Declared, new_offset, str_items, element_items, contents, init_items}
use Rattle.semantics.specs.Global.Item.{str_item, array_item, set_item, back_item}
use Rattle.semantics.specs.Global.Init.{no_init, const_init, array_init, pending_init}
use Rattle.semantics.specs.Image.{part_at, area_after}
use Rattle.semantics.specs.Demand.{after_part, laid_from, part_of, put_after, put_in, Put, StringsAt, ElementsAt, ItemAt, ItemsAt}
use Rattle.demand.proofs.Places.{end_at, items_at, items_from}
use Rattle.demand.proofs.Replay.{area-append, init-end}

-- where items are put behind a list of them
abbrev put_behind : Option ℕ → List Item → Option ℕ
put_behind w [] = w
put_behind w (i ∷ is) = put_behind (put_after i w) is

put-append : (xs ys : List Item) (w : Option ℕ) → put_behind w (xs ++ ys) ≡ put_behind (put_behind w xs) ys
put-append [] ys w = refl
put-append (x ∷ xs) ys w = put-append xs ys (put_after x w)

-- the items `is` are `pre`, k of them, and then `rest`, which is put at w
record Split (is pre rest : List Item) (k : ℕ) (w : Option ℕ) : Type 0 where
  whole : is ≡ pre ++ rest
  count : length pre ≡ k
  put : put_behind None pre ≡ w

-- the first of the rest has number k
here : (is pre : List Item) (y : Item) (ys : List Item) (k : ℕ) (w : Option ℕ) → Split is pre (y ∷ ys) k w → Put is k w y
here is pre y ys k w s =
    subst (λ (xs : List Item). Put xs k w y) (sym s.whole) (subst (λ (n : ℕ). Put (pre ++ (y ∷ ys)) n w y) s.count (record { item = item pre; into = into pre None ∙ s.put }))
  where
    item : (xs : List Item) → slice_get (xs ++ (y ∷ ys)) (length xs) ≡ Some y
    item [] = refl
    item (x ∷ xs) = item xs

    into : (xs : List Item) (v : Option ℕ) → put_in v (xs ++ (y ∷ ys)) (length xs) ≡ put_behind v xs
    into [] v = refl
    into (x ∷ xs) v = into xs (put_after x v)

-- some items further
past : (is pre xs rest : List Item) (k : ℕ) (w : Option ℕ) → Split is pre (xs ++ rest) k w → Split is (pre ++ xs) rest (k + length xs) (put_behind w xs)
past is pre xs rest k w s = record {
  whole = s.whole ∙ sym (append_assoc pre xs rest);
  count = length-append pre xs ∙ ap (λ (n : ℕ). n + length xs) s.count;
  put = put-append pre xs None ∙ ap (λ (v : Option ℕ). put_behind v xs) s.put;
}

-- one item further
next : (is pre : List Item) (y : Item) (rest : List Item) (k : ℕ) (w : Option ℕ) → Split is pre (y ∷ rest) k w → Split is (pre ++ (y ∷ [])) rest (suc k) (put_after y w)
next is pre y rest k w s =
    let e : k + 1 ≡ suc k = omega arith in
    subst (λ (n : ℕ). Split is (pre ++ (y ∷ [])) rest n (put_after y w)) e (past is pre (y ∷ []) rest k w s)

strings-at : (vs : List ConstVal) (is pre post : List Item) (off k o : ℕ) → Split is pre (str_items o vs ++ post) k (Some off) → StringsAt is off k o vs
strings-at [] is pre post off k o s = tt
strings-at (v_int x ∷ vs) is pre post off k o s = (tt, strings-at vs is pre post off k (o + 4) s)
strings-at (v_real x ∷ vs) is pre post off k o s = (tt, strings-at vs is pre post off k (o + 4) s)
strings-at (v_str x ∷ vs) is pre post off k o s =
    let y = str_item o x in
    let rest = str_items (o + 4) vs ++ post in
    (here is pre y rest k (Some off) s, strings-at vs is (pre ++ (y ∷ [])) post off (suc k) (o + 4) (next is pre y rest k (Some off) s))

elements-at : (e : ElemKind) (vs : List ConstVal) (is pre post : List Item) (k off : ℕ) → Split is pre (contents off e vs ++ post) k None → ElementsAt is off (suc k) e vs
elements-at k_byte vs is pre post k off s = tt
elements-at k_word vs is pre post k off s = tt
elements-at k_big vs is pre post k off s = tt
elements-at k_real vs is pre post k off s = tt
elements-at k_ptr [] is pre post k off s = tt
elements-at k_ptr (v ∷ vs) is pre post k off s =
    let body = str_items 0 (v ∷ vs) in
    let n = next is pre (set_item off) ((body ++ (back_item ∷ [])) ++ post) k None s in
    strings-at (v ∷ vs) is (pre ++ (set_item off ∷ [])) ((back_item ∷ []) ++ post) off (suc k) 0
    (record { whole = n.whole ∙ ap (λ (xs : List Item). (pre ++ (set_item off ∷ [])) ++ xs) (append_assoc body (back_item ∷ []) post); count = n.count; put = n.put })

part-of : (is pre rest : List Item) (k a : ℕ) (w : Option ℕ) → Split is pre rest k w → area_after 0 pre ≡ a → part_of is k ≡ part_at a
part-of is pre rest k a w s h =
    ap (λ (xs : List Item). part_at (area_after 0 (take k xs))) s.whole
    ∙ ap (λ (xs : List Item). part_at (area_after 0 xs)) (take_at pre rest k s.count)
    ∙ ap part_at h

item-at : (t : Ty) (i : Init) (is pre post : List Item) (k a off : ℕ) → Split is pre (init_items off t i ++ post) k None → area_after 0 pre ≡ a → ItemAt is off k (part_at a) i
item-at t no_init is pre post k a off s h = tt
item-at t (const_init (v_int x)) is pre post k a off s h = tt
item-at t (const_init (v_real x)) is pre post k a off s h = tt
item-at t (const_init (v_str x)) is pre post k a off s h = here is pre (str_item off x) post k None s
item-at t (array_init b) is pre post k a off s h =
    let y = array_item off b.kind b.count in
    let rest = contents off b.kind b.values ++ post in (
      here is pre y rest k None s,
      part-of is pre (y ∷ rest) k a None s h,
      elements-at b.kind b.values is (pre ++ (y ∷ [])) post (suc k) off (next is pre y rest k None s),
    )
item-at t pending_init is pre post k a off s h = tt

-- behind a global's items the image is written to

contents-put : (e : ElemKind) (vs : List ConstVal) (off : ℕ) → put_behind None (contents off e vs) ≡ None
contents-put e [] off = refl
contents-put e (v ∷ vs) off = put-append (element_items e (v ∷ vs)) (back_item ∷ []) (Some off)

init-put : (t : Ty) (i : Init) (off : ℕ) → put_behind None (init_items off t i) ≡ None
init-put t no_init off = refl
init-put t (const_init (v_int x)) off = refl
init-put t (const_init (v_real x)) off = refl
init-put t (const_init (v_str s)) off = refl
init-put t (array_init a) off = contents-put a.kind a.values off
init-put t pending_init off = refl

items-at : (ds : List Declared) (is pre : List Item) (e k a : ℕ) → Split is pre (items_from e ds) k None → area_after 0 pre ≡ a → ItemsAt is (laid_from e k a ds)
items-at [] is pre e k a s h = tt
items-at (d ∷ ds) is pre e k a s h =
    let off = new_offset d.ty e in
    let xs = items_at d e in
    let rest = items_from (end_at d e) ds in
    let p = past is pre xs rest k None s in (
      item-at d.ty d.first is pre rest k a off s h,
      items-at ds is (pre ++ xs) (end_at d e) (k + length xs) (after_part a d.first)
          (record { whole = p.whole; count = p.count; put = p.put ∙ init-put d.ty d.first off })
          (area-append pre xs 0 ∙ ap (λ (n : ℕ). area_after n xs) h ∙ init-end d.ty d.first off a),
    )

-- from the first item on
pub all-items : (ds : List Declared) (is : List Item) → is ≡ items_from 0 ds → ItemsAt is (laid_from 0 0 0 ds)
all-items ds is e = items-at ds is [] 0 0 0 (record { whole = e; count = refl; put = refl }) refl
