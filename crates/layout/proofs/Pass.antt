-- The pass that makes a pointer map holds, after n finished bytes, exactly the map's first n bytes and the count of ones in them.
use Prim.Native.Nat.{ℕ, zero, suc, ◌+◌, ◌*◌, ◌/◌, ◌%◌, ◌^◌, ◌≤◌, ◌<◌}
use native.Mathlib.Nat.{le_of_lt, pow-suc}
use native.Mathlib.Numerals.{add-one}
use native.Mathlib.Omega.{arith}
use mathlib.Core.Path.{◌≡◌, refl, sym, ap, ◌∙◌}
use mathlib.Core.List.{List, [], ◌∷◌, ◌++◌}
use lib.ListN.{length, get_or, take, set}
use lib.Seq.{take-suc, take_all, length-take-le}
use lib.IntN.{ℤ}
use lib.Count.{ones_in, ones, ones_step}
use Rattle.semantics.specs.Text.{Bytes}
use Rattle.semantics.specs.Layout.{map_bits, map_bytes, map_length, pointer_map, pointer_count}
use Rattle.laws.proofs.Maps.{byte_at}
use Rattle.layout.specs.Pass.{laid_over, MapPass}

bytes-length : (size : ℕ) (zs : List ℤ) (n w : ℕ) → length (map_bytes size zs n w) ≡ n
bytes-length size zs zero w = refl
bytes-length size zs (suc n) w = ap suc (bytes-length size zs n (w + 8))

pub map-length : (size : ℕ) (zs : List ℤ) → length (pointer_map size zs) ≡ map_length size
unfolding pointer_map
map-length size zs = bytes-length size zs (map_length size) 0

-- ---- bytes over a buffer

-- one more byte goes behind those that are laid
over-more : (l d : Bytes) (b : ℕ) → set (laid_over l d) (length l) b ≡ laid_over (l ++ b ∷ []) d
unfolding laid_over
over-more [] [] b = refl
over-more [] (x ∷ d) b = refl
over-more (a ∷ l) [] b = refl
over-more (a ∷ l) (x ∷ d) b = ap (λ (m : Bytes). a ∷ m) (over-more l d b)

over-length : (l d : Bytes) → length (laid_over l d) ≡ length d
unfolding laid_over
over-length [] d = refl
over-length (a ∷ l) [] = refl
over-length (a ∷ l) (x ∷ d) = ap suc (over-length l d)

-- ---- the count

-- the ones of a byte are those of its 8 digits
pub digits-all : (k n : ℕ) → n < 2 ^ k → ones n ≡ ones_in k n
unfolding ones_in ones
digits-all zero n h = let e : n ≡ 0 = omega arith in rw e
digits-all (suc k) n h = let l : n / 2 < 2 ^ k = omega (arith, pow-suc 2 k) in ones_step n ∙ ap (λ (x : ℕ). n % 2 + x) (digits-all k (n / 2) l)

pub count-more : (l : Bytes) (b : ℕ) → pointer_count (l ++ b ∷ []) ≡ pointer_count l + ones_in 8 b
unfolding pointer_count
count-more [] b = omega arith
count-more (a ∷ l) b = omega (arith, count-more l b)

-- ---- the pass

module _ (size : ℕ) (zs : List ℤ) (came : Bytes) where
  pub start : MapPass size zs came 0 came 0
  unfolding laid_over pointer_count
  start = record { bytes = refl; ones = refl }

  -- byte n is finished: stored behind the n before it, and its ones are counted
  pub step : (n : ℕ) (d : Bytes) (count b ones : ℕ) → n < map_length size → b ≡ map_bits size zs 8 (n * 8) → ones ≡ ones_in 8 b
      → MapPass size zs came n d count → MapPass size zs came (n + 1) (set d n b) (count + ones)
  step n d count b ones h e f p =
      let m = pointer_map size zs in
      let l : n < length m = omega (arith, map-length size zs) in
      let w : 8 * n ≡ n * 8 = omega arith in
      let at : get_or m n 0 ≡ b = byte_at size zs n ∙ ap (map_bits size zs 8) w ∙ sym e in
      let more : take (n + 1) m ≡ take n m ++ b ∷ [] = rw (add-one, ← at) (take-suc m n 0 l) in
      let long : length (take n m) ≡ n = length-take-le n m (le_of_lt l) in
      record {
        bytes = rw (more, p.bytes) (rw long at (over-more (take n m) came b));
        ones = rw more (omega (arith, count-more (take n m) b, p.ones));
      }

  pub done : (n : ℕ) (d : Bytes) (count : ℕ) → map_length size ≤ n → MapPass size zs came n d count
      → (d ≡ laid_over (pointer_map size zs) came) × (count ≡ pointer_count (pointer_map size zs))
  done n d count h p = let l : length (pointer_map size zs) ≤ n = omega (arith, map-length size zs) in rw (← take_all n (pointer_map size zs) l) (p.bytes, p.ones)

  pub pass-length : (n : ℕ) (d : Bytes) (count : ℕ) → MapPass size zs came n d count → length d ≡ length came
  pass-length n d count p = rw p.bytes (over-length (take n (pointer_map size zs)) came)
