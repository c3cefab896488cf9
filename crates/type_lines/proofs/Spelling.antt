-- A need is spelled in one way only: `need` lines with one key have one text.
use mathlib.Core.Path.{◌≡◌, refl, sym, ap, ◌∙◌}
use mathlib.Core.Bool.{Bool, true, false, cond, ◌&&◌}
use mathlib.Core.List.{List, [], ◌∷◌, ◌++◌, map}
use Rattle.std.specs.Prelude.{Option, None, Some}
use Prim.Native.Nat.{ℕ, zero, suc, ◌+◌, ◌-◌, ◌*◌, ◌≤◌, ◌<◌}
use native.Mathlib.Omega.{arith}
use native.Mathlib.Numerals.{add-one}
use lib.Dec.{leb, ltb, eqb, leb-suc-suc}
use lib.IntN.{ℤ, pos, negsuc}
use lib.ListN.{length, drop}
use borrow.Author.Tests.{leb-true, leb-false, ltb-true, ltb-false, le-ltb, eqb-true, eqb-false}
use Rattle.semantics.specs.Text.{Bytes, same, is_digit, digits_value, nat_of, int_of, negative, map_option, holds_of, or_else, cut, parts_at}
use Rattle.semantics.specs.Tree.{Node}
use Rattle.semantics.specs.Types.{key_code, same_type_key}
use Rattle.semantics.specs.Form.{forms, holds, fits, ones, values, up_to, is_count, between, number_of, begins, row_of, fields_from, read_of}
use Rattle.semantics.specs.Form.Atom.{key, size, offset}
use Rattle.semantics.specs.Form.Part.{one, many}
use Rattle.form.specs.Table.{row_at, keywords_at}
use Rattle.form.proofs.Table.{row-count}
use Rattle.form.proofs.Laws.{begins-chosen}
use Rattle.lines.specs.Lines.{text_at, read_at, nodes_in, form_at}
use Rattle.lines.proofs.Line.{read_is, fields-are, read_fits, form-low}
use Rattle.words.specs.Words.{digest}
use Rattle.words.proofs.Laws.{digest-apart}
use Rattle.semantics.proofs.Common.{never, both}
use Rattle.laws.proofs.Tests.{tests_agree, same_refl, same-eq}
use Rattle.source.specs.Walk.{field_at, frame_of}
use Rattle.type_lines.specs.Needs.{need_at, NeedLine}
use Rattle.type_lines.proofs.Codes.{ints-eq, same_self}
use Rattle.type_lines.proofs.Forms.{key_by, key-is, form-from, forms-apart}
use Rattle.refs.proofs.Fields.{values_length}

nothing : {A B : Type 0} {b : B} → None ≡ Some b → A
nothing h = let z : ◌≡◌ {A = ℕ} 0 1 = cc in absurd (omega arith)

-- ---- decimal numbers

module _ (x : ℕ) (l : Bytes) (a v : ℕ) where
  first-digit : digits_value a (x ∷ l) ≡ Some v → (48 ≤ x) × (x ≤ 57) × (digits_value (a * 10 + (x - 48)) l ≡ Some v)
  first-digit p = go (is_digit x) refl p
    where
      go : (t : Bool) → is_digit x ≡ t → cond t (digits_value (a * 10 + (x - 48)) l) None ≡ Some v → (48 ≤ x) × (x ≤ 57) × (digits_value (a * 10 + (x - 48)) l ≡ Some v)
      go true e q = let w = both (leb 48 x) (leb x 57) e in (leb-true 48 x w.0, leb-true x 57 w.1, q)
      go false e q = nothing q

-- as many digits, behind those of a and of b
digits-one : (l m : Bytes) (a b v : ℕ) → length l ≡ length m → digits_value a l ≡ Some v → digits_value b m ≡ Some v → (a ≡ b) × (l ≡ m)
digits-one [] [] a b v h p q = (cc, refl)
digits-one [] (y ∷ m) a b v h p q = absurd (omega arith)
digits-one (x ∷ l) [] a b v h p q = absurd (omega arith)
digits-one (x ∷ l) (y ∷ m) a b v h p q =
    let d = first-digit x l a v p in
    let e = first-digit y m b v q in
    let w = digits-one l m (a * 10 + (x - 48)) (b * 10 + (y - 48)) v (omega arith) d.2 e.2 in
    let z : x ≡ y = omega arith in
    let i = w.1 in
    (omega arith, cc)

-- more digits, of which the first is not 0
digits_more : (l m : Bytes) (b v : ℕ) → 0 < b → length l ≤ length m → digits_value 0 l ≡ Some v → digits_value b m ≡ Some v → ⊥
digits_more l [] b v h k p q = omega (arith, (digits-one l [] 0 b v (omega arith) p q).0)
digits_more l (y ∷ m) b v h k p q = go (leb (length l) (length m)) refl (λ k. digits_more l m (b * 10 + (y - 48)) v (omega arith) k p (first-digit y m b v q).2)
  where
    go : (t : Bool) → leb (length l) (length m) ≡ t → (length l ≤ length m → ⊥) → ⊥
    go true e ih = ih (leb-true (length l) (length m) e)
    go false e ih = omega (arith, leb-false (length l) (length m) e, (digits-one l (y ∷ m) 0 b v (omega (arith, leb-false (length l) (length m) e)) p q).0)

nat-digits : (l : Bytes) (v : ℕ) → nat_of l ≡ Some v → (0 < length l) × (digits_value 0 l ≡ Some v)
unfolding nat_of
nat-digits [] v p = nothing p
nat-digits (x ∷ []) v p = (omega arith, p)
nat-digits (x ∷ (y ∷ l)) v p = go (eqb x 48) p
  where
    go : (t : Bool) → cond t None (digits_value 0 (x ∷ (y ∷ l))) ≡ Some v → (0 < suc (suc (length l))) × (digits_value 0 (x ∷ (y ∷ l)) ≡ Some v)
    go true q = nothing q
    go false q = (omega arith, q)

nat-longer : (l m : Bytes) (v : ℕ) → nat_of l ≡ Some v → nat_of m ≡ Some v → length l < length m → ⊥
unfolding nat_of
nat-longer l [] v p q h = omega arith
nat-longer l (y ∷ []) v p q h = omega (arith, (nat-digits l v p).0)
nat-longer l (y ∷ (z ∷ m)) v p q h = go (eqb y 48) refl q
  where
    go : (t : Bool) → eqb y 48 ≡ t → cond t None (digits_value 0 (y ∷ (z ∷ m))) ≡ Some v → ⊥
    go true e r = nothing r
    go false e r =
        let d = first-digit y (z ∷ m) 0 v r in
        digits_more l (z ∷ m) (0 * 10 + (y - 48)) v (omega (arith, eqb-false y 48 e)) (omega arith) (nat-digits l v p).1 d.2

nat-one : (l m : Bytes) (v : ℕ) → nat_of l ≡ Some v → nat_of m ≡ Some v → l ≡ m
nat-one l m v p q = go (ltb (length l) (length m)) refl (ltb (length m) (length l)) refl
  where
    go : (s : Bool) → ltb (length l) (length m) ≡ s → (t : Bool) → ltb (length m) (length l) ≡ t → l ≡ m
    go true e t f = absurd (nat-longer l m v p q (ltb-true (length l) (length m) e))
    go false e true f = absurd (nat-longer m l v q p (ltb-true (length m) (length l) f))
    go false e false f = (digits-one l m 0 0 v (omega (arith, ltb-false (length l) (length m) e, ltb-false (length m) (length l) f)) (nat-digits l v p).1 (nat-digits m v q).1).1

-- ---- integers

Writes : ℤ → Bytes → Type 0
Writes (pos n) l = nat_of l ≡ Some n
Writes (negsuc n) l = (l ≡ 45 ∷ drop 1 l) × (nat_of (drop 1 l) ≡ Some (suc n))

int-writes : (l : Bytes) (z : ℤ) → int_of l ≡ Some z → Writes z l
unfolding int_of Writes
int-writes [] z p = nothing p
int-writes (b ∷ l) z p = go (eqb b 45) refl (nat_of l) refl (nat_of (b ∷ l)) refl z p
  where
    go : (t : Bool) → eqb b 45 ≡ t → (o : Option ℕ) → nat_of l ≡ o → (r : Option ℕ) → nat_of (b ∷ l) ≡ r → (z : ℤ) → cond t (negative o) (map_option pos r) ≡ Some z → Writes z (b ∷ l)
    go true e None f r g z q = nothing q
    go true e (Some zero) f r g z q = nothing q
    go true e (Some (suc n)) f r g (pos m) q = let o : ◌≡◌ {A = ℕ} 0 1 = cc in absurd (omega arith)
    go true e (Some (suc n)) f r g (negsuc m) q = let k : n ≡ m = cc in (ap (λ (x : ℕ). x ∷ l) (eqb-true b 45 e), f ∙ ap (λ (x : ℕ). Some (suc x)) k)
    go false e o f None g z q = nothing q
    go false e o f (Some n) g (pos m) q = let k : n ≡ m = cc in g ∙ ap Some k
    go false e o f (Some n) g (negsuc m) q = let o : ◌≡◌ {A = ℕ} 0 1 = cc in absurd (omega arith)

int-one : (l m : Bytes) (z : ℤ) → int_of l ≡ Some z → int_of m ≡ Some z → l ≡ m
unfolding Writes
int-one l m z p q = go z (int-writes l z p) (int-writes m z q)
  where
    go : (z : ℤ) → Writes z l → Writes z m → l ≡ m
    go (pos n) a b = nat-one l m n a b
    go (negsuc n) a b = a.0 ∙ ap (λ (k : Bytes). 45 ∷ k) (nat-one (drop 1 l) (drop 1 m) (suc n) a.1 b.1) ∙ sym b.0

-- ---- the fields of a line

number-one : (k : ℕ) (f g : Bytes) → up_to k f ≡ true → up_to k g ≡ true → number_of f ≡ number_of g → f ≡ g
number-one k f g p q e = nat-one f g (number_of f) (go (nat_of f) p) (go (nat_of g) q ∙ ap Some (sym e))
  where
    go : (o : Option ℕ) → holds_of (λ (n : ℕ). leb n k) o ≡ true → o ≡ Some (or_else 0 o)
    go None h = never h
    go (Some n) h = refl

offset-one : (f g : Bytes) → holds offset f ≡ true → holds offset g ≡ true → or_else (pos 0) (int_of f) ≡ or_else (pos 0) (int_of g) → f ≡ g
offset-one f g p q e = int-one f g (or_else (pos 0) (int_of f)) (go (int_of f) p) (go (int_of g) q ∙ ap Some (sym e))
  where
    go : (o : Option ℤ) → holds_of (between 4096 4096) o ≡ true → o ≡ Some (or_else (pos 0) o)
    go None h = never h
    go (Some z) h = refl

offsets-one : (ns : List Node) (m : ℕ) (fs gs : List Bytes) → fits (ones m offset ++ []) fs ≡ true → fits (ones m offset ++ []) gs ≡ true → values offset ns m fs ≡ values offset ns m gs → fs ≡ gs
offsets-one ns zero [] [] p q e = refl
offsets-one ns zero [] (g ∷ gs) p q e = never q
offsets-one ns zero (f ∷ fs) gs p q e = never p
offsets-one ns (suc m) [] gs p q e = never p
offsets-one ns (suc m) (f ∷ fs) [] p q e = never q
offsets-one ns (suc m) (f ∷ fs) (g ∷ gs) p q e =
    let a = both (holds offset f) (fits (ones m offset ++ []) fs) p in
    let b = both (holds offset g) (fits (ones m offset ++ []) gs) q in
    let x = offset-one f g a.0 b.0 (cc) in
    let y = offsets-one ns m fs gs a.1 b.1 (cc) in
    cc

names-one : (x y : Bytes) → map pos x ≡ map pos y → x ≡ y
names-one [] [] e = refl
names-one [] (b ∷ y) e = let z : ◌≡◌ {A = ℕ} 0 1 = cc in absurd (omega arith)
names-one (a ∷ x) [] e = let z : ◌≡◌ {A = ℕ} 0 1 = cc in absurd (omega arith)
names-one (a ∷ x) (b ∷ y) e =
    let z : a ≡ b = cc in
    let w = names-one x y (cc) in
    cc

module _ (ns : List Node) where
  block_one : (fs gs : List Bytes) → fits (one size ∷ many offset ∷ []) fs ≡ true → fits (one size ∷ many offset ∷ []) gs ≡ true → (frame_of ns fs).size ≡ (frame_of ns gs).size → (frame_of ns fs).pointers ≡ (frame_of ns gs).pointers → fs ≡ gs
  block_one [] gs p q d e = never p
  block_one (f ∷ []) gs p q d e = never (both (holds size f) false p).1
  block_one (f ∷ (m ∷ fs)) [] p q d e = never q
  block_one (f ∷ (m ∷ fs)) (g ∷ []) p q d e = never (both (holds size g) false q).1
  block_one (f ∷ (m ∷ fs)) (g ∷ (n ∷ gs)) p q d e =
      let a = both (holds size f) (is_count m && fits (ones (number_of m) offset ++ []) fs) p in
      let b = both (holds size g) (is_count n && fits (ones (number_of n) offset ++ []) gs) q in
      let c = both (is_count m) (fits (ones (number_of m) offset ++ []) fs) a.1 in
      let k = both (is_count n) (fits (ones (number_of n) offset ++ []) gs) b.1 in
      let h : number_of m ≡ number_of n = sym (values_length offset ns (number_of m) fs) ∙ ap length e ∙ values_length offset ns (number_of n) gs in
      let x = number-one 4096 f g a.0 b.0 d in
      let y = number-one 16 m n c.0 k.0 h in
      let z = offsets-one ns (number_of m) fs gs c.1 (rw h k.1) (e ∙ ap (λ (w : ℕ). values offset ns w gs) (sym h)) in
      cc

  none-one : (fs gs : List Bytes) → fits [] fs ≡ true → fits [] gs ≡ true → fs ≡ gs
  none-one [] [] p q = refl
  none-one [] (g ∷ gs) p q = never q
  none-one (f ∷ fs) gs p q = never p

  name-one : (fs gs : List Bytes) → fits (one key ∷ []) fs ≡ true → fits (one key ∷ []) gs ≡ true → field_at fs 0 ≡ field_at gs 0 → fs ≡ gs
  name-one [] gs p q e = never p
  name-one (f ∷ fs) [] p q e = never q
  name-one (f ∷ fs) (g ∷ gs) p q e =
      let z = none-one fs gs (both (holds key f) (fits [] fs) p).1 (both (holds key g) (fits [] gs) q).1 in
      cc

  -- keys of one form come from the same fields
  fields-one : (d : ℕ) → d < 8 → (fs gs : List Bytes) → fits (row_at (34 + d)).parts fs ≡ true → fits (row_at (34 + d)).parts gs ≡ true → key_code (key_by (34 + d) ns fs) ≡ key_code (key_by (34 + d) ns gs) → fs ≡ gs
  unfolding forms
  fields-one zero h fs gs p q e = name-one fs gs p q (names-one (field_at fs 0) (field_at gs 0) (cc))
  fields-one (suc zero) h fs gs p q e = none-one fs gs p q
  fields-one (suc (suc zero)) h fs gs p q e = none-one fs gs p q
  fields-one (suc (suc (suc zero))) h fs gs p q e = none-one fs gs p q
  fields-one (suc (suc (suc (suc zero)))) h fs gs p q e = none-one fs gs p q
  fields-one (suc (suc (suc (suc (suc zero))))) h fs gs p q e = none-one fs gs p q
  fields-one (suc (suc (suc (suc (suc (suc zero)))))) h fs gs p q e = block_one fs gs p q (cc) (cc)
  fields-one (suc (suc (suc (suc (suc (suc (suc zero))))))) h fs gs p q e = none-one fs gs p q
  fields-one (suc (suc (suc (suc (suc (suc (suc (suc d)))))))) h fs gs p q e = absurd (omega arith)

-- ---- the text of a line

-- parts, each behind a byte c
each_behind : ℕ → List Bytes → Bytes
each_behind c [] = []
each_behind c (p ∷ ps) = c ∷ (p ++ each_behind c ps)

parts-back : (c : ℕ) (l : Bytes) → each_behind c (parts_at c l) ≡ c ∷ l
unfolding each_behind
parts-back c [] = refl
parts-back c (b ∷ l) = go (eqb b c) refl (parts_at c l) (parts-back c l)
  where
    go : (t : Bool) → eqb b c ≡ t → (ps : List Bytes) → each_behind c ps ≡ c ∷ l → each_behind c (cut t b ps) ≡ c ∷ (b ∷ l)
    go true e ps h = let z = eqb-true b c e in cc
    go false e [] h = let z : ◌≡◌ {A = ℕ} 0 1 = cc in absurd (omega arith)
    go false e (p ∷ ps) h = cc

-- it is its keywords and the fields behind them
line-back : (ws l : Bytes) → begins ws l ≡ true → l ≡ ws ++ each_behind 44 (fields_from (suc (length ws)) l)
unfolding each_behind
line-back [] [] h = refl
line-back [] (b ∷ l) h = rw (le-ltb (suc (length l)) 1 (omega arith)) (ap (λ (x : ℕ). x ∷ l) (eqb-true b 44 h) ∙ sym (parts-back 44 l))
line-back (w ∷ ws) [] h = never h
line-back (w ∷ ws) (b ∷ l) h =
    let a = both (eqb b w) (begins ws l) h in
    let x = eqb-true b w a.0 in
    let y = line-back ws l a.1 in
    rw leb-suc-suc (cc)

-- ---- two lines

module _ {s : Bytes} {i : ℕ} (l : NeedLine s i) where
  text-begins : begins (keywords_at (form_at s i)) (text_at s i) ≡ true
  text-begins =
      begins-chosen forms (text_at s i) (omega (arith, row-count, form-low s l.checked.whole i l.within))

  text-is : text_at s i ≡ keywords_at (form_at s i) ++ each_behind 44 (read_at s i).fields
  text-is = line-back (keywords_at (form_at s i)) (text_at s i) text-begins ∙ rw (fields-are s l.checked.whole i l.within, add-one)

module _ {s : Bytes} {i j : ℕ} (a : NeedLine s i) (b : NeedLine s j) where
  key-same : text_at s i ≡ text_at s j → need_at s i ≡ need_at s j
  key-same e =
      let f : form_at s i ≡ form_at s j = ap (row_of forms) e in
      let r : read_at s i ≡ read_at s j = read_is s a.checked.whole i a.within ∙ ap read_of e ∙ sym (read_is s b.checked.whole j b.within) in
      key-is s i a ∙ rw (f, r) (sym (key-is s j b))

  form-same : same_type_key (need_at s i) (need_at s j) ≡ true → form_at s i ≡ form_at s j
  form-same e = go (eqb (form_at s i) (form_at s j)) refl
    where
      go : (x : Bool) → eqb (form_at s i) (form_at s j) ≡ x → form_at s i ≡ form_at s j
      go true q = eqb-true (form_at s i) (form_at s j) q
      go false q = never (sym (forms-apart s i j a b (eqb-false (form_at s i) (form_at s j) q)) ∙ e)

  text_same : same_type_key (need_at s i) (need_at s j) ≡ true → text_at s i ≡ text_at s j
  text_same e =
      let f = form-same e in
      let z : 34 + (form_at s i - 34) ≡ form_at s i = omega (arith, (form-from s i a).0) in
      let one = rw z at (fields-one (nodes_in s) (form_at s i - 34) (omega (arith, (form-from s i a).1)) (read_at s i).fields (read_at s j).fields) in
      let g : need_at s j ≡ key_by (form_at s i) (nodes_in s) (read_at s j).fields = key-is s j b ∙ rw f in
      let c = ints-eq (key_code (need_at s i)) (key_code (need_at s j)) e in
      let k = one (read_fits s a.checked.whole i a.within) (rw f (read_fits s b.checked.whole j b.within)) (ap key_code (sym (key-is s i a)) ∙ c ∙ ap key_code g) in
      text-is a ∙ rw (f, k) (sym (text-is b))

  pub texts-are : same (text_at s i) (text_at s j) ≡ same_type_key (need_at s i) (need_at s j)
  texts-are =
      tests_agree (same (text_at s i) (text_at s j)) (same_type_key (need_at s i) (need_at s j))
      (λ e. ap (same_type_key (need_at s i)) (sym (key-same (same-eq (text_at s i) (text_at s j) e))) ∙ same_self (need_at s i)) (λ e. rw (text_same e) (same_refl (text_at s j)))

  pub digests-apart : (digest (text_at s i) ≡ digest (text_at s j) → ⊥) → false ≡ same_type_key (need_at s i) (need_at s j)
  digests-apart h = digest-apart (text_at s i) (text_at s j) h ∙ texts-are
