-- Steps of filling a literal.
use mathlib.Core.Path.{◌≡◌, refl, sym, ◌∙◌}
use mathlib.Core.Bool.{Bool, true, false, cond, ◌&&◌, ◌||◌, or-false, or_assoc}
use mathlib.Core.List.{List, [], ◌∷◌, ◌++◌}
use mathlib.Core.Logic.{◌⊎◌, inl, inr}
use Prim.Native.Nat.{ℕ, zero, suc, ◌+◌, ◌*◌, ◌^◌, ◌≤◌, ◌<◌, max}
use native.Mathlib.Omega.{arith}
use lib.Dec.{leb, ltb, eqb}
use lib.ListN.{length}
use borrow.Author.Tests.{leb-true, leb-false, ltb-true, ltb-false, eqb-true, eqb-false, lt-ltb, le-ltb}
use Rattle.semantics.specs.Text.{Bytes, any}
use Rattle.semantics.specs.Tree as Tree
use Rattle.semantics.specs.Array.{Placement, Filled, place_span, set_wildcard, value_at, filler, outside}
use Rattle.values.specs.declared.ConstVal.{ConstVal}
use Rattle.values.specs.declared.ConstVal.TheVariants.{Int, Real, Str}
use Rattle.values.specs.Values.{value_in}
use Rattle.slots.proofs.Bits.{SlotStored}
use Rattle.checks.specs.Checks.{Kept}
use Rattle.checks.proofs.Kept.{kept_at}
use Rattle.placements.specs.Placements.{placement_at, slot_at, element_in, SpanSet, StringStands, value_named, Filling}
use Rattle.placements.proofs.Same.{Alike, slot_kept, value_same, element-same}

-- ---- placements, one more behind others

value-last : (ps : List Placement) (p : Placement) (v : Tree.ConstVal) (i : ℕ) → value_at (ps ++ (p ∷ [])) v i ≡ cond (leb p.low i && leb i p.high) p.value (value_at ps v i)
value-last [] p v i = refl
value-last (q ∷ ps) p v i = value-last ps p (cond (leb q.low i && leb i q.high) q.value v) i

any_last : (n : ℕ) (ps : List Placement) (p : Placement) → any (outside n) (ps ++ (p ∷ [])) ≡ any (outside n) ps || leb n p.high
any_last n [] p = or-false (leb n p.high)
any_last n (q ∷ ps) p = rw (any_last n ps p) (sym (or_assoc (leb n q.high) (any (outside n) ps) (leb n p.high)))

-- an end is reached where the furthest is
either_end : (n a b : ℕ) → ltb n a || leb n b ≡ ltb n (max a (suc b))
either_end n a b = go (ltb n a) refl (leb n b) refl
  where
    go : (x : Bool) → ltb n a ≡ x → (y : Bool) → leb n b ≡ y → x || y ≡ ltb n (max a (suc b))
    go true e y d = let h : n < a = ltb-true n a e in sym (lt-ltb n (max a (suc b)) (omega arith))
    go false e true d = let h : n ≤ b = leb-true n b d in sym (lt-ltb n (max a (suc b)) (omega arith))
    go false e false d =
        let h : a ≤ n = ltb-false n a e in
        let k : b < n = leb-false n b d in
        sym (le-ltb n (max a (suc b)) (omega arith))

cond-entered : (t : Bytes) (v w : Tree.ConstVal) (c : Bool) (e b : ℕ) → 0 < e → w ≡ element_in t e → cond c w (value_named t v b) ≡ value_named t v (cond c e b)
cond-entered t v w true zero b h q = absurd (omega arith)
cond-entered t v w true (suc e) b h q = q
cond-entered t v w false e b h q = refl

standing-more : {a b : ℕ} → a ≤ b → (v : ConstVal) → StringStands a v → StringStands b v
standing-more h (Int z) s = s
standing-more h (Real x) s = s
standing-more h (Str p l) s = (s.0, omega (arith, s.1), s.2)

-- ---- steps

module _ {t : Bytes} {top k next reach : ℕ} {f : Filled} (p : Filling t top k next reach f) where
  module _ (u : Bytes) (long : length u ≡ length t) (table : Alike 11264 12288 t u) (more : ℕ) (wider : top ≤ more) where
    entry-same : (i : ℕ) → i < 1024 → placement_at u i ≡ placement_at t i
    unfolding placement_at
    entry-same i h = table (11264 + i) (omega arith) (omega arith)

    -- where the table is kept, and so are the values of elements
    filling-on : (m : ℕ) → k ≤ m → (g : Filled) → g.next_index ≡ f.next_index → g.reach ≡ f.reach → g.placements ≡ f.placements → element_in u 0 ≡ filler g.wildcard
        → ((j : ℕ) → 0 < j → j ≤ k → element_in u j ≡ element_in t j) → ((j : ℕ) → j ≤ m → StringStands more (slot_at u j)) → Filling u more m next reach g
    filling-on m le g e1 e2 e3 w same st = record {
      next-is = p.next-is ∙ sym e1;
      reach-is = p.reach-is ∙ sym e2;
      low = p.low;
      ends = λ n. rw e3 (p.ends n);
      known = λ i h. omega (arith, p.known i h, entry-same i h);
      values = λ i h v. rw (e3, entry-same i h) (p.values i h v ∙ go v (placement_at t i) (p.known i h));
      fills = w;
      strings = st;
    }
      where
        go : (v : Tree.ConstVal) (b : ℕ) → b ≤ k → value_named t v b ≡ value_named u v b
        go v zero h = refl
        go v (suc j) h = sym (same (suc j) (omega arith) h)

  pub filling-wider : (more : ℕ) → top ≤ more → Filling t more k next reach f
  filling-wider more h = filling-on t refl (λ i x y. refl) more h k (omega arith) f refl refl refl p.fills (λ j x y. refl) (λ j x. standing-more h (slot_at t j) (p.strings j x))

  -- bytes below top are the same
  module _ (u : Bytes) (few : k ≤ 16) (high : 49152 ≤ top) (q : Kept top t u) where
    pub element-kept : (j : ℕ) → j ≤ k → element_in u j ≡ element_in t j
    element-kept j h = element-same t u q.long top j (p.strings j h) (λ i x y. kept_at q i (omega arith)) (λ i x y. kept_at q i y)

    pub filling-kept : Filling u top k next reach f
    filling-kept =
        filling-on u q.long (λ i x y. kept_at q i (omega arith)) top (omega arith) k (omega arith) f refl refl refl (element-kept 0 (omega arith) ∙ p.fills) (λ j x y. element-kept j y)
        (λ j h. rw (slot_kept t u q.long j (λ i x y. kept_at q i (omega arith))) (p.strings j h))

  module _ (u : Bytes) (more : ℕ) (wider : top ≤ more) (n : ℕ) (v : ConstVal) (st : StringStands more v) (q : SlotStored t (12288 + 16 * n) v u) (few : n ≤ 16) where
    other-slot : (j : ℕ) → (j ≡ n → ⊥) → Alike (12288 + 16 * j) (12297 + 16 * j) t u
    other-slot j h i x y = q.others i (go (ltb i (12288 + 16 * n)) refl)
      where
        go : (b : Bool) → ltb i (12288 + 16 * n) ≡ b → (i < 12288 + 16 * n) ⊎ (12288 + 16 * n + 9 ≤ i)
        go true e = inl (ltb-true i (12288 + 16 * n) e)
        go false e = let z : 12288 + 16 * n ≤ i = ltb-false i (12288 + 16 * n) e in inr (omega (arith, h))

    stack_same : Alike 49152 more t u
    stack_same i x y = q.others i (inr (omega arith))

    other-same : (j : ℕ) → j ≤ k → (j ≡ n → ⊥) → element_in u j ≡ element_in t j
    other-same j h d = element-same t u q.long top j (p.strings j h) (other-slot j d) (λ i x y. stack_same i x (omega arith))

    stored-slot : slot_at u n ≡ v
    unfolding slot_at
    stored-slot = q.value

    pub stored-element : element_in u n ≡ value_in t v
    unfolding element_in
    stored-element = rw stored-slot (value_same t u q.long more v st stack_same)

    stands : (j : ℕ) → (j ≤ k) ⊎ (j ≡ n) → StringStands more (slot_at u j)
    stands j h = go (eqb j n) refl h
      where
        go : (b : Bool) → eqb j n ≡ b → (j ≤ k) ⊎ (j ≡ n) → StringStands more (slot_at u j)
        go true e h = rw (eqb-true j n e, stored-slot) st
        go false e (inl h) = rw (slot_kept t u q.long j (other-slot j (eqb-false j n e))) (standing-more wider (slot_at t j) (p.strings j h))
        go false e (inr h) = absurd (eqb-false j n e h)

    table_same : Alike 11264 12288 t u
    table_same i x y = q.others i (inl (omega arith))

    -- the value of one more element in its slot
    pub filling-value : n ≡ k + 1 → Filling u more n next reach f
    filling-value e =
        filling-on u q.long table_same more wider n (omega arith) f refl refl refl (other-same 0 (omega arith) (λ z. omega arith) ∙ p.fills)
        (λ j x y. other-same j y (λ z. omega arith)) (λ j h. stands j (split j h))
      where
        split : (j : ℕ) → j ≤ n → (j ≤ k) ⊎ (j ≡ n)
        split j h = go (eqb j n) refl
          where
            go : (b : Bool) → eqb j n ≡ b → (j ≤ k) ⊎ (j ≡ n)
            go true d = inr (eqb-true j n d)
            go false d = inl (omega (arith, eqb-false j n d))

    -- and of the filler
    pub filling-star : n ≡ 0 → Filling u more k next reach (set_wildcard (value_in t v) f)
    filling-star e =
        filling-on u q.long table_same more wider k (omega arith) (set_wildcard (value_in t v) f) refl refl refl (rw e at stored-element)
        (λ j x y. other-same j y (λ z. omega arith)) (λ j h. stands j (inl h))

  -- indices that take the value of element e
  pub filling-span : (u : Bytes) (l h e : ℕ) → 0 < e → e ≤ k → k ≤ 16 → h < 2 ^ 63 → SpanSet t l h e u → Filling u top k (suc h) (max reach (suc h)) (place_span (element_in t e) l h f)
  filling-span u l h e one le few low q = record {
    next-is = refl;
    reach-is = rw p.reach-is;
    low = omega (arith, p.low);
    ends = λ n. any_last n f.placements _ ∙ rw (p.ends n) (either_end n reach h);
    known = λ i x. rw (q.at i x) (bounded (leb l i && leb i h) (p.known i x));
    values = λ i x v. value-last f.placements _ v i ∙ rw (q.at i x, p.values i x v) (cond-entered t v (element_in t e) (leb l i && leb i h) e (placement_at t i) one refl ∙ moved v (cond (leb l i && leb i h) e (placement_at t i)) (bounded (leb l i && leb i h) (p.known i x)));
    fills = same 0 (omega arith) ∙ p.fills;
    strings = λ j x. rw (slot_kept t u q.long j (λ i y z. q.others i (inr (omega arith)))) (p.strings j x);
  }
    where
      bounded : (c : Bool) {b : ℕ} → b ≤ k → cond c e b ≤ k
      bounded true x = le
      bounded false x = x

      same : (j : ℕ) → j ≤ k → element_in u j ≡ element_in t j
      same j x = element-same t u q.long top j (p.strings j x) (λ i y z. q.others i (inr (omega arith))) (λ i y z. q.others i (inr (omega arith)))

      moved : (v : Tree.ConstVal) (b : ℕ) → b ≤ k → value_named t v b ≡ value_named u v b
      moved v zero x = refl
      moved v (suc j) x = sym (same (suc j) x)
