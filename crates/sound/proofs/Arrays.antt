-- A first value of literals and constants within the limits has 64 bits.
use Prim.Native.Nat.{ℕ, zero, suc, ◌^◌}
use mathlib.Core.Path.{refl}
use mathlib.Core.Bool.{Bool, true, false, cond, ◌&&◌}
use mathlib.Core.List.{List, [], ◌∷◌, map}
use Rattle.std.specs.Prelude.{Option, None, Some}
use lib.IntN.{ℤ, pos, negsuc}
use lib.Dec.{leb, ltb}
use Rattle.semantics.specs.Text.{Bytes, any}
use Rattle.semantics.specs.Tree.{Ty, Ex, ArrayEx, El, Els, ConstVal, ElemKind, VarDecl, elem_of}
use Rattle.semantics.specs.Tree.ConstVal.{v_int, v_real, v_str}
use Rattle.semantics.specs.Tree.Ex.{constant, ident, mod_qual, unary, binary, cast, len, array_ex, other_ex}
use Rattle.semantics.specs.Tree.ArrayEx.{alloc, lit}
use Rattle.semantics.specs.Tree.El.{next, star, at}
use Rattle.semantics.specs.Tree.Els.{no_els, and_el}
use Rattle.semantics.specs.Sheet.{Located, Source, concat_map}
use Rattle.semantics.specs.Fold.{Result, Names, bind, fold_at0}
use Rattle.semantics.specs.Fold.Result.{ok, failed, refuse}
use Rattle.semantics.specs.Array.{ConstArray, Placement, Filled, allocated, place_span, place_indices, place_next, place_spans, set_wildcard, spans_of, fill_element, fill, none_filled, value_at, values_from, filler, literal_size, outside, built, measured, array_of, const_array, longest_alloc, longest_literal}
use Rattle.semantics.specs.Global.{Init, Declared, first_value, init_of, laid_vars, laid_names, or_no_init, declared_by, declared_in}
use Rattle.stored.proofs.Ranges.{Sound, SoundFirst}
use Rattle.sound.proofs.Limits.{Limited, LimitedOption, LimitedEx, LimitedArray, LimitedEl, LimitedEls, LimitedInit}
use Rattle.sound.proofs.Folds.{Gives, next-gives, LimitedConst, fold-limited}
use Rattle.laws.specs.Every.{Every}
use Rattle.laws.proofs.Every.{every_append, every-filter}

sound : (v : ConstVal) → Limited v → Sound v
sound (v_int z) h = h
sound (v_real x) h = h
sound (v_str s) h = tt

-- ---- where elements fall

abbrev LimitedPlacement : Placement → Type 0
LimitedPlacement p = Limited p.value

record LimitedFilled (f : Filled) : Type 0 where
  placements : Every LimitedPlacement f.placements
  wildcard : LimitedOption f.wildcard

span-limited : (v : ConstVal) (l h : ℕ) (f : Filled) → Limited v → LimitedFilled f → LimitedFilled (place_span v l h f)
span-limited v l h f g e = record { placements = every_append LimitedPlacement f.placements (record { low = l; high = h; value = v } ∷ []) e.placements (g, tt); wildcard = e.wildcard }

indices-limited : (v : ConstVal) (l h : ℤ) (f : Filled) → Limited v → LimitedFilled f → Gives LimitedFilled (place_indices v l h f)
indices-limited v (pos l) (pos h) f g e = go (leb l h)
  where
    go : (b : Bool) → Gives LimitedFilled (cond b (ok (place_span v l h f)) (ok f))
    go true = span-limited v l h f g e
    go false = e
indices-limited v (pos l) (negsuc h) f g e = e
indices-limited v (negsuc l) (pos h) f g e = tt
indices-limited v (negsuc l) (negsuc h) f g e = go (leb h l)
  where
    go : (b : Bool) → Gives LimitedFilled (cond b failed (ok f))
    go true = tt
    go false = e

next-limited : (v : ConstVal) (f : Filled) → Limited v → LimitedFilled f → Gives LimitedFilled (place_next v f)
next-limited v f g e = go (ltb f.next_index (2 ^ 63))
  where
    go : (b : Bool) → Gives LimitedFilled (cond b (place_indices v (pos f.next_index) (pos f.next_index) f) failed)
    go true = indices-limited v (pos f.next_index) (pos f.next_index) f g e
    go false = tt

spans-limited : (v : ConstVal) (ss : List (ℤ × ℤ)) (f : Filled) → Limited v → LimitedFilled f → Gives LimitedFilled (place_spans v ss f)
spans-limited v [] f g e = e
spans-limited v (s ∷ ss) f g e =
    next-gives LimitedFilled LimitedFilled (place_indices v s.0 s.1 f) (place_spans v ss) (indices-limited v s.0 s.1 f g e) (λ r k. spans-limited v ss r g k)

-- ---- the values of a literal

value-limited : (ps : List Placement) (v : ConstVal) (i : ℕ) → Every LimitedPlacement ps → Limited v → Limited (value_at ps v i)
value-limited [] v i h e = e
value-limited (p ∷ ps) v i h e = value-limited ps (cond (leb p.low i && leb i p.high) p.value v) i h.1 (go (leb p.low i && leb i p.high))
  where
    go : (b : Bool) → Limited (cond b p.value v)
    go true = h.0
    go false = e

values-sound : (ps : List Placement) (v : ConstVal) (i n : ℕ) → Every LimitedPlacement ps → Limited v → Every Sound (values_from ps v i n)
values-sound ps v i zero h e = tt
values-sound ps v i (suc n) h e = (sound (value_at ps v i) (value-limited ps v i h e), values-sound ps v (suc i) n h e)

filler-limited : (o : Option ConstVal) → LimitedOption o → Limited (filler o)
filler-limited None h = refl
filler-limited (Some v) h = h

abbrev SoundArray : ConstArray → Type 0
SoundArray a = Every Sound a.values

measured-sound : (declared ty : Option Ty) (es : Els) (f : Filled) (n : ℕ) → LimitedFilled f → Gives SoundArray (measured declared ty es f n)
measured-sound declared ty es f n e = go (any (outside n) f.placements) (leb n longest_literal)
  where
    go : (b c : Bool) → Gives SoundArray (cond b (refuse 11) (cond c (built declared ty es f n) (refuse 12)))
    go true c = tt
    go false true = values-sound f.placements (filler f.wildcard) 0 n e.placements (filler-limited f.wildcard e.wildcard)
    go false false = tt

allocated-sound : (k : ElemKind) (v : ConstVal) → Gives SoundArray (allocated k v)
allocated-sound k (v_int (pos n)) = go (leb n longest_alloc)
  where
    go : (b : Bool) → Gives SoundArray (cond b (ok (record { kind = k; count = n; values = [] })) (refuse 9))
    go true = tt
    go false = tt
allocated-sound k (v_int (negsuc n)) = go (leb n longest_alloc)
  where
    go : (b : Bool) → Gives SoundArray (cond b (refuse 10) (refuse 9))
    go true = tt
    go false = tt
allocated-sound k (v_real x) = tt
allocated-sound k (v_str s) = tt

-- where nothing is asked of a result
any-result : {A : Type 0} (r : Result A) → Gives (λ (a : A). Unit {0}) r
any-result (ok a) = tt
any-result failed = tt
any-result (refuse r) = tt

module _ (ns : Names) (known : Every LimitedConst ns.log) where
  at-0 : (e : Ex) → LimitedEx e → Gives Limited (fold_at0 ns e)
  at-0 e h = fold-limited ns known (pos 0) refl e h

  element-limited : (l : El) (f : Filled) → LimitedEl l → LimitedFilled f → Gives LimitedFilled (fill_element ns l f)
  element-limited (next e) f h g = next-gives Limited LimitedFilled (fold_at0 ns e) (λ (v : ConstVal). place_next v f) (at-0 e h) (λ v k. next-limited v f k g)
  element-limited (star e) f h g =
      next-gives Limited LimitedFilled (fold_at0 ns e) (λ (v : ConstVal). ok (set_wildcard v f)) (at-0 e h) (λ v k. record { placements = g.placements; wildcard = k })
  element-limited (at e ss) f h g =
      next-gives Limited LimitedFilled (fold_at0 ns e) (λ (v : ConstVal). bind (spans_of ns ss) (λ (l : List (ℤ × ℤ)). place_spans v l f)) (at-0 e h)
      (λ v k. next-gives (λ (l : List (ℤ × ℤ)). Unit {0}) LimitedFilled (spans_of ns ss) (λ (l : List (ℤ × ℤ)). place_spans v l f) (any-result (spans_of ns ss)) (λ l u. spans-limited v l f k g))

  fill-limited : (es : Els) (f : Filled) → LimitedEls es → LimitedFilled f → Gives LimitedFilled (fill ns es f)
  fill-limited no_els f h g = g
  fill-limited (and_el e es) f h g =
      next-gives LimitedFilled LimitedFilled (fill_element ns e f) (fill ns es) (element-limited e f h.0 g) (λ r k. fill-limited es r h.1 k)

  array-sound : (declared : Option Ty) (a : ArrayEx) → LimitedArray a → Gives SoundArray (array_of ns declared a)
  array-sound declared (alloc e t) h = next-gives (λ (v : ConstVal). Unit {0}) SoundArray (fold_at0 ns e) _ (any-result (fold_at0 ns e)) (λ v u. allocated-sound _ v)
  array-sound declared (lit s t es) h =
      next-gives LimitedFilled SoundArray (fill ns es none_filled) (λ (f : Filled). bind (literal_size ns s f) (measured declared t es f)) (fill-limited es none_filled h (record { placements = tt; wildcard = tt }))
      (λ f g. next-gives (λ (n : ℕ). Unit {0}) SoundArray (literal_size ns s f) (measured declared t es f) (any-result (literal_size ns s f)) (λ n u. measured-sound declared t es f n g))

  constant-array-sound : (declared : Option Ty) (e : Ex) → LimitedEx e → Gives SoundArray (const_array ns declared e)
  constant-array-sound declared (constant v) h = tt
  constant-array-sound declared (ident n) h = tt
  constant-array-sound declared (mod_qual e n) h = tt
  constant-array-sound declared (unary o e) h = tt
  constant-array-sound declared (binary l o r) h = tt
  constant-array-sound declared (cast t e) h = tt
  constant-array-sound declared (len e) h = tt
  constant-array-sound declared (array_ex a) h = array-sound declared a h
  constant-array-sound declared other_ex h = tt

  -- ---- first values

  first-sound : (r : Result ConstVal) (a : Result ConstArray) → Gives Limited r → Gives SoundArray a → SoundFirst (or_no_init (first_value r a))
  first-sound (ok v) a h g = sound v h
  first-sound failed (ok a) h g = g
  first-sound failed failed h g = tt
  first-sound failed (refuse r) h g = tt
  first-sound (refuse r) a h g = tt

  init-sound : (t : Ty) (o : Option Ex) → LimitedInit o → SoundFirst (or_no_init (init_of ns t o))
  init-sound t None h = tt
  init-sound t (Some e) h = first-sound (fold_at0 ns e) (const_array ns (elem_of t) e) (at-0 e h) (constant-array-sound (elem_of t) e h)

  names-sound : (t : Ty) (i : Init) (xs : List Bytes) → SoundFirst i → Every (λ (d : Declared). SoundFirst d.first) (map (λ (n : Bytes). record { name = n; ty = t; first = i }) xs)
  names-sound t i [] h = tt
  names-sound t i (x ∷ xs) h = (h, names-sound t i xs h)

  lines-sound : (vs : List (Located VarDecl)) → Every (λ (v : Located VarDecl). LimitedInit v.it.init) vs → Every (λ (d : Declared). SoundFirst d.first) (concat_map (declared_by ns) vs)
  lines-sound [] h = tt
  lines-sound (v ∷ vs) h =
      every_append (λ (d : Declared). SoundFirst d.first) (declared_by ns v) (concat_map (declared_by ns) vs)
      (names-sound v.it.ty (or_no_init (init_of ns v.it.ty v.it.init)) (laid_names v.it.names) (init-sound v.it.ty v.it.init h.0)) (lines-sound vs h.1)

  pub firsts-sound : (s : Source) → Every (λ (v : Located VarDecl). LimitedInit v.it.init) s.vars → Every (λ (d : Declared). SoundFirst d.first) (declared_in ns s)
  firsts-sound s h = lines-sound (laid_vars s) (every-filter (λ (v : Located VarDecl). LimitedInit v.it.init) _ s.vars h)
