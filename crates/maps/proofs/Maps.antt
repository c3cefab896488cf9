-- The map in the working space: what marking and clearing leave there.
use Prim.Native.Nat.{ℕ, zero, suc, ◌+◌, ◌-◌, ◌*◌, ◌/◌, ◌%◌, ◌^◌, ◌≤◌, ◌<◌}
use native.Mathlib.Numerals.{add-one}
use native.Mathlib.Omega.{arith}
use mathlib.Core.Path.{◌≡◌, refl, sym, ap, ◌∙◌}
use mathlib.Core.Bool.{Bool, true, false, cond}
use mathlib.Core.List.{List, [], ◌∷◌, ◌++◌}
use lib.Bits.{bit_or, or_zero_r}
use lib.Count.{ones_in}
use lib.Dec.{ltb, eqb}
use lib.IntN.{ℤ, pos}
use lib.ListN.{length, take, drop, get_or, set, length-take, length-drop, length-set, get_or-eq_default}
use lib.Seq.{get_or-take, get_or-drop, get_or-set_same, get_or-set_other, take-set-le, take-suc, take_all, ext_get_or}
use borrow.Author.Tests.{eqb-true, eqb-false, ltb-true, ltb-false, lt-ltb, le-ltb}
use Rattle.semantics.specs.Layout.{map_length, marks, pointer_map, pointer_count}
use Rattle.layout.proofs.Pass.{map-length, count-more}
use Rattle.checks.specs.Checks.{Kept}
use Rattle.checks.proofs.Kept.{kept-all, kept_then}
use Rattle.maps.specs.Maps.{map_in, MapRoom, Mapped, Marks, MapMade}
use Rattle.maps.proofs.Bits.{or_assoc, byte-append, byte-none, byte_one, byte-other}

pub map-fits : {t : List ℕ} {size : ℕ} → MapRoom t size → map_length size ≤ 4097
unfolding map_length
map-fits m = omega (arith, m.small)

-- ---- byte by byte

module _ (t : List ℕ) (size : ℕ) (room : MapRoom t size) where
  in-length : length (map_in t size) ≡ map_length size
  unfolding map_in
  in-length = simp (length-take, length-drop) (omega (arith, room.room, map-fits room))

  in-at : (j : ℕ) → j < map_length size → get_or (map_in t size) j 0 ≡ get_or t (49152 + j) 0
  unfolding map_in
  in-at j h = get_or-take (map_length size) (drop 49152 t) j 0 h ∙ get_or-drop 49152 t j 0

  mapped-from : (offs : List ℤ) → ((j : ℕ) → j < map_length size → get_or t (49152 + j) 0 ≡ get_or (pointer_map size offs) j 0) → Mapped t size offs
  mapped-from offs h = record {
    bytes = ext_get_or 0 (map_in t size) (pointer_map size offs) (in-length ∙ sym (map-length size offs))
        (λ j l. let k : j < map_length size = omega (arith, in-length) in in-at j k ∙ h j k);
  }

  mapped_at : (offs : List ℤ) → Mapped t size offs → (j : ℕ) → j < map_length size → get_or t (49152 + j) 0 ≡ get_or (pointer_map size offs) j 0
  mapped_at offs m j h = sym (in-at j h) ∙ ap (λ (l : List ℕ). get_or l j 0) m.bytes

-- bit 7 first
pub halves : (k : ℕ) → k < 8 → 128 / 2 ^ k ≡ 2 ^ (7 - k)
halves zero h = refl
halves (suc zero) h = refl
halves (suc (suc zero)) h = refl
halves (suc (suc (suc zero))) h = refl
halves (suc (suc (suc (suc zero)))) h = refl
halves (suc (suc (suc (suc (suc zero))))) h = refl
halves (suc (suc (suc (suc (suc (suc zero)))))) h = refl
halves (suc (suc (suc (suc (suc (suc (suc zero))))))) h = refl
halves (suc (suc (suc (suc (suc (suc (suc (suc k)))))))) h = absurd (omega arith)

-- ---- marks, one behind the other

module _ {size : ℕ} where
  pub marks-none : {t : List ℕ} → Marks size [] t t
  marks-none {t} = record { bytes = λ j. sym (rw (byte-none size [] (λ x. refl) j) (or_zero_r (get_or t (49152 + j) 0))); kept = kept-all }

  pub marks_then : {a b : List ℤ} {t u v : List ℕ} → Marks size a t u → Marks size b u v → Marks size (a ++ b) t v
  marks_then {a} {b} {t} {u} {v} p q = record {
    bytes = λ j. q.bytes j ∙ rw (p.bytes j, byte-append size a b j) (or_assoc (get_or t (49152 + j) 0) (get_or (pointer_map size a) j 0) (get_or (pointer_map size b) j 0));
    kept = kept_then p.kept q.kept;
  }

  pub marks-same : {a b : List ℤ} {t u : List ℕ} → pointer_map size a ≡ pointer_map size b → Marks size a t u → Marks size b t u
  marks-same e p = record { bytes = λ j. rw e at (p.bytes j); kept = p.kept }

  pub room-kept : {t u : List ℕ} → Kept 49152 t u → MapRoom t size → MapRoom u size
  room-kept k m = record { room = omega (arith, k.long, m.room); small = m.small }

  -- offsets marked in the map of others
  mapped-then : {a b : List ℤ} {t u : List ℕ} → MapRoom t size → Mapped t size a → Marks size b t u → Mapped u size (a ++ b)
  mapped-then {a} {b} {t} {u} m p q =
      mapped-from u size (room-kept q.kept m) (a ++ b) (λ j h. q.bytes j ∙ rw (mapped_at t size m a p j h) (sym (byte-append size a b j)))

  pub made_then : {a b : List ℤ} {t u v : List ℕ} → MapRoom t size → MapMade size a t u → Marks size b u v → MapMade size (a ++ b) t v
  made_then {a} {b} {t} {u} {v} m p q = record {
    map = mapped-then (room-kept p.kept m) p.map q;
    behind = λ j h. q.bytes j ∙ rw (past j h) (or_zero_r (get_or u (49152 + j) 0)) ∙ p.behind j h;
    kept = kept_then p.kept q.kept;
  }
    where
      past : (j : ℕ) → map_length size ≤ j → get_or (pointer_map size b) j 0 ≡ 0
      past j h = get_or-eq_default (pointer_map size b) 0 (omega (arith, map-length size b))

  -- ---- one mark

  -- an offset that marks no word
  pub marks-skip : {t : List ℕ} (z : ℤ) → ((x : ℕ) → false ≡ marks size x z) → Marks size (z ∷ []) t t
  marks-skip {t} z h = record {
    bytes = λ j. sym (rw (byte-none size (z ∷ []) (λ x. rw (← h x)) j) (or_zero_r (get_or t (49152 + j) 0)));
    kept = kept-all;
  }

  pub marks-set : {t u : List ℕ} {v : ℕ} (off : ℕ) → MapRoom t size → off + 4 ≤ size → v ≡ bit_or (get_or t (49152 + off / 4 / 8) 0) (2 ^ (7 - off / 4 % 8))
      → u ≡ set t (49152 + off / 4 / 8) v → Marks size (pos off ∷ []) t u
  marks-set {t} {u} {v} off m h e f = record {
    bytes = λ j. go j (eqb j (off / 4 / 8)) refl;
    kept = record { below = rw f (take-set-le 49152 t (49152 + off / 4 / 8) v (omega arith)); long = rw f (length-set t (49152 + off / 4 / 8) v) };
  }
    where
      go : (j : ℕ) (b : Bool) → eqb j (off / 4 / 8) ≡ b → get_or u (49152 + j) 0 ≡ bit_or (get_or t (49152 + j) 0) (get_or (pointer_map size (pos off ∷ [])) j 0)
      go j true q = rw (eqb-true j (off / 4 / 8) q, f, get_or-set_same t (49152 + off / 4 / 8) v 0 (omega (arith, m.room, m.small)), e, byte_one size off h)
      go j false q =
          let n = eqb-false j (off / 4 / 8) q in
          rw (f, get_or-set_other t (49152 + off / 4 / 8) (49152 + j) v 0 (λ x. n (omega arith)), byte-other size off h j n) (sym (or_zero_r (get_or t (49152 + j) 0)))

-- ---- zeros

-- i bytes are cleared
pub record Clearing (t u : List ℕ) (i : ℕ) : Type 0 where
  pub bytes : (j : ℕ) → get_or u (49152 + j) 0 ≡ cond (ltb j i) 0 (get_or t (49152 + j) 0)
  pub kept : Kept 49152 t u

pub clearing-start : {t : List ℕ} → Clearing t t 0
clearing-start = record { bytes = λ j. rw (le-ltb j 0 (omega arith)); kept = kept-all }

pub clearing-next : {t u : List ℕ} {i : ℕ} → Clearing t u i → 49152 + i < length u → Clearing t (set u (49152 + i) 0) (i + 1)
clearing-next {t} {u} {i} c h = record {
  bytes = λ j. go j (eqb j i) refl;
  kept = kept_then c.kept (record { below = take-set-le 49152 u (49152 + i) 0 (omega arith); long = length-set u (49152 + i) 0 });
}
  where
    go : (j : ℕ) (b : Bool) → eqb j i ≡ b → get_or (set u (49152 + i) 0) (49152 + j) 0 ≡ cond (ltb j (i + 1)) 0 (get_or t (49152 + j) 0)
    go j true q = let e = eqb-true j i q in rw (e, lt-ltb i (i + 1) (omega arith)) (get_or-set_same u (49152 + i) 0 0 h)
    go j false q =
        let n = eqb-false j i q in
        get_or-set_other u (49152 + i) (49152 + j) 0 0 (λ x. n (omega arith)) ∙ c.bytes j ∙ again (ltb j i) refl
      where
        again : (b : Bool) → ltb j i ≡ b → cond (ltb j i) 0 (get_or t (49152 + j) 0) ≡ cond (ltb j (i + 1)) 0 (get_or t (49152 + j) 0)
        again true r = rw (r, lt-ltb j (i + 1) (omega (arith, ltb-true j i r)))
        again false r = rw (r, le-ltb j (i + 1) (omega (arith, ltb-false j i r, eqb-false j i q)))

pub clearing-end : {t u : List ℕ} {i size : ℕ} → MapRoom t size → i ≡ map_length size → Clearing t u i → MapMade size [] t u
clearing-end {t} {u} {i} {size} m e c = record {
  map = mapped-from u size (room-kept c.kept m) [] (λ j h. c.bytes j ∙ rw (e, lt-ltb j (map_length size) h) (sym (byte-none size [] (λ x. refl) j)));
  behind = λ j h. c.bytes j ∙ rw (e, le-ltb j (map_length size) h);
  kept = c.kept;
}

-- ---- ones

-- so many ones in the first i bytes
pub record OnesCounted (t : List ℕ) (size count i : ℕ) : Type 0 where
  pub within : i ≤ map_length size
  pub ones : count ≡ pointer_count (take i (map_in t size))
  pub few : count ≤ 8 * i

module _ (t : List ℕ) (size : ℕ) (room : MapRoom t size) where
  pub ones-start : OnesCounted t size 0 0
  unfolding pointer_count
  ones-start = record { within = omega arith; ones = refl; few = omega arith }

  pub ones-next : (count i n : ℕ) → OnesCounted t size count i → i < map_length size → n ≡ ones_in 8 (get_or t (49152 + i) 0) → n ≤ 8 → OnesCounted t size (count + n) (i + 1)
  ones-next count i n c h e k =
      let l : i < length (map_in t size) = omega (arith, in-length t size room) in
      record {
        within = omega arith;
        ones = rw (add-one, take-suc (map_in t size) i 0 l, count-more (take i (map_in t size)) (get_or (map_in t size) i 0), in-at t size room i h, ← e, c.ones);
        few = omega (arith, c.few);
      }

  pub ones-end : (count i : ℕ) → OnesCounted t size count i → map_length size ≤ i → count ≡ pointer_count (map_in t size)
  ones-end count i c h = rw (← take_all i (map_in t size) (omega (arith, in-length t size room))) c.ones
