-- The items of globals fill each array directly behind its own item, within its part.
use Prim.Native.Nat.{ℕ, suc, ◌+◌, ◌*◌, ◌≤◌}
use native.Mathlib.Nat.{mul-suc, add_comm}
use native.Mathlib.Omega.{arith}
use mathlib.Core.Path.{◌≡◌, refl, sym, ◌∙◌}
use mathlib.Core.Bool.{true, false}
use mathlib.Core.List.{List, [], ◌∷◌, ◌++◌, map, append_assoc, append-nil}
use Rattle.std.specs.Prelude.{Option, None, Some}
use lib.ListN.{length, length-append, length-map}
use lib.IntN.{ℤ}
use Rattle.semantics.specs.Text.{Bytes, big_endian}
use Rattle.semantics.specs.Tree.{Ty, ConstVal, ElemKind}
use Rattle.semantics.specs.Tree.ConstVal.{v_int, v_real, v_str}
use Rattle.semantics.specs.Tree.ElemKind.{k_byte, k_word, k_big, k_real, k_ptr}
use Rattle.semantics.specs.Sheet.{Source, concat_map}
use Rattle.semantics.specs.Fold.{Names, real_bytes}
use Rattle.semantics.specs.Array.{const_byte, const_word, const_big, const_real}
use Rattle.semantics.specs.Global.{Item, Init, Declared, Globals, str_items, element_items, contents, init_items, place_of, declare_at, globals_from, globals, laid_vars, declared_in, no_globals}
use Rattle.semantics.specs.Global.Item.{array_item, back_item}
use Rattle.semantics.specs.Global.Init.{no_init, const_init, array_init, pending_init}
use Rattle.semantics.specs.Image.{word_bytes, big_bytes, elem_size}
use Rattle.semantics.proofs.Common.{never}
use Rattle.demand.proofs.Elements.{ValuesFit}
use Rattle.demand.proofs.Replay.{AllSized, real-long, size-le}
use Rattle.demand.proofs.Theorem.{vars-sized}
use Rattle.stored.specs.Stored.{stored_of}
use Rattle.stored.specs.Laying.{InPlace}

-- items that are in place outside an array
abbrev InPlaceOutside : List Item → Type 0
InPlaceOutside js = (p n : ℕ) → InPlace p n false (map stored_of js)

-- items that are in place before any such
abbrev Closed : List Item → Type 0
Closed is = (js : List Item) → InPlaceOutside js → InPlaceOutside (is ++ js)

closed-join : (is js : List Item) → Closed is → Closed js → Closed (is ++ js)
closed-join is js a b ks h p n = rw (append_assoc is js ks) (a (js ++ ks) (b ks h) p n)

-- ---- elements

concat-long : {A : Type 0} (f : A → Bytes) (w : ℕ) → ((x : A) → length (f x) ≡ w) → (xs : List A) → length (concat_map f xs) ≡ w * length xs
concat-long f w h [] = omega arith
concat-long f w h (x ∷ xs) = let a = h x in let b = concat-long f w h xs in length-append (f x) (concat_map f xs) ∙ go (length xs) a b
  where
    go : (n : ℕ) → length (f x) ≡ w → length (concat_map f xs) ≡ w * n → length (f x) + length (concat_map f xs) ≡ w * suc n
    go n a b = rw (a, b) (sym (mul-suc w n ∙ add_comm (w * n) w))

word-long : (z : ℤ) → length (word_bytes z) ≡ 4
unfolding big_endian
word-long z = refl

big-long : (z : ℤ) → length (big_bytes z) ≡ 8
unfolding big_endian
big-long z = refl

module _ (js : List Item) (out : InPlaceOutside js) (p n : ℕ) where
  strings-in : (o : ℕ) (vs : List ConstVal) → o + 4 * length vs ≤ n → InPlace p n true (map stored_of (str_items o vs ++ (back_item ∷ js)))
  strings-in o [] h = out p n
  strings-in o (v_int x ∷ vs) h = strings-in (o + 4) vs (omega arith)
  strings-in o (v_real x ∷ vs) h = strings-in (o + 4) vs (omega arith)
  strings-in o (v_str s ∷ vs) h = (λ e. omega arith, strings-in (o + 4) vs (omega arith))

  elements-in : (k : ElemKind) (vs : List ConstVal) → elem_size k * length vs ≤ n → InPlace p n true (map stored_of (element_items k vs ++ (back_item ∷ js)))
  elements-in k_byte vs h = (λ e. omega (arith, length-map vs const_byte), out p n)
  elements-in k_word vs h = (λ e. omega (arith, length-map vs const_word, concat-long word_bytes 4 word-long (map const_word vs)), out p n)
  elements-in k_big vs h = (λ e. omega (arith, length-map vs const_big, concat-long big_bytes 8 big-long (map const_big vs)), out p n)
  elements-in k_real vs h = (λ e. omega (arith, length-map vs const_real, concat-long real_bytes 8 real-long (map const_real vs)), out p n)
  elements-in k_ptr vs h = strings-in 0 vs (omega arith)

-- ---- first values

array-closed : (off : ℕ) (k : ElemKind) (n : ℕ) (vs : List ConstVal) → length vs ≤ n → Closed (array_item off k n ∷ contents off k vs)
array-closed off k n [] h js out p m = (refl, out off (elem_size k * n))
array-closed off k n (v ∷ vs) h js out p m =
    (refl, (refl, rw (append_assoc (element_items k (v ∷ vs)) (back_item ∷ []) js) (elements-in js out off (elem_size k * n) k (v ∷ vs) (size-le k (length (v ∷ vs)) n h))))

init-closed : (off : ℕ) (t : Ty) (i : Init) → ValuesFit i → Closed (init_items off t i)
init-closed off t no_init h js out p n = out p n
init-closed off t (const_init (v_int x)) h js out p n = (λ e. never e, out p n)
init-closed off t (const_init (v_real x)) h js out p n = (λ e. never e, out p n)
init-closed off t (const_init (v_str s)) h js out p n = (λ e. never e, out p n)
init-closed off t (array_init a) h js out p n = array-closed off a.kind a.count a.values h js out p n
init-closed off t pending_init h js out p n = out p n

-- ---- all globals

declare-closed : (d : Declared) (o : Option ℕ) (g : Globals) → ValuesFit d.first → Closed g.items → Closed (declare_at d o g).items
declare-closed d None g h c = closed-join g.items _ c (init-closed _ d.ty d.first h)
declare-closed d (Some off) g h c = closed-join g.items _ c (init-closed off d.ty d.first h)

globals-closed : (g : Globals) (ds : List Declared) → AllSized ds → Closed g.items → Closed (globals_from g ds).items
globals-closed g [] h c = c
globals-closed g (d ∷ ds) h c = globals-closed (declare_at d (place_of d.name g.places) g) ds h.1 (declare-closed d (place_of d.name g.places) g h.0 c)

pub globals-in-place : (ns : Names) (s : Source) (p n : ℕ) → InPlace p n false (map stored_of (globals ns s).items)
globals-in-place ns s p n =
    rw append-nil at (globals-closed no_globals (declared_in ns s) (vars-sized ns (laid_vars s)) (λ js out. out) [] (λ p n. tt) p n)
