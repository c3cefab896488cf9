-- The log as bytes of the working space.
use mathlib.Core.Path.{◌≡◌, refl, sym, ap, ◌∙◌}
use mathlib.Core.List.{List, [], ◌∷◌, ◌++◌, append_assoc, append-nil}
use Prim.Native.Nat.{ℕ, zero, suc, ◌+◌, ◌*◌, ◌-◌, ◌≤◌, ◌<◌}
use native.Mathlib.Nat.{div-add-mod'}
use native.Mathlib.Omega.{arith}
use lib.ListN.{length, get_or, get_or-append}
use lib.Seq.{get_or-append-add}
use Rattle.semantics.specs.Text.{Bytes}
use Rattle.write.specs.Wrote.{Wrote}
use Rattle.write.proofs.Wrote.{wrote_none, then, wrote_as}
use Rattle.write.proofs.Over.{get_or-stored}
use Rattle.records.specs.Log.{Entry, byte_of, entry_at}
use Rattle.record_log.specs.Entries.{entry_bytes, bytes_of, tag_entries, log_bytes}

wrote_at : {d : Bytes} {a : ℕ} {t e : Bytes} {b : ℕ} → Wrote d a t e b → a + length t ≤ length d → (k : ℕ) → k < length t → get_or e (a + k) 0 ≡ get_or t k 0
wrote_at {d} {a} {t} w l k h = ap (λ (m : Bytes). get_or m (a + k) 0) w.bytes ∙ get_or-stored d a t k h (omega arith)

-- ---- the bytes of entries

pub log-append : (xs ys : List Entry) → log_bytes (xs ++ ys) ≡ log_bytes xs ++ log_bytes ys
unfolding log_bytes
log-append [] ys = refl
log-append (x ∷ xs) ys = rw (log-append xs ys)

pub log-bytes : (es : List Entry) → length (log_bytes es) ≡ 8 * length es
unfolding log_bytes
log-bytes [] = refl
log-bytes (e ∷ es) = omega (arith, log-bytes es)

log-at : (none : Entry) (es : List Entry) (i k : ℕ) → i < length es → k < 8 → get_or (log_bytes es) (8 * i + k) 0 ≡ get_or (bytes_of (get_or es i none)) k 0
unfolding log_bytes
log-at none [] i k h l = absurd (omega arith)
log-at none (e ∷ es) zero k h l =
    let z : 8 * 0 + k ≡ k = omega arith in
    rw z (get_or-append (bytes_of e) (log_bytes es) 0 k (omega arith))
log-at none (e ∷ es) (suc i) k h l =
    let z : 8 * suc i + k ≡ 8 + (8 * i + k) = omega arith in
    ap (λ (j : ℕ). get_or (bytes_of e ++ log_bytes es) j 0) z ∙ get_or-append-add (bytes_of e) (log_bytes es) (8 * i + k) 0 ∙ log-at none es i k (omega arith) l

entry-same : {a b c d p q r s : ℕ} → a ≡ p → b ≡ q → c ≡ r → d ≡ s
    → ◌≡◌ {A = Entry} (record { line = a; case = b; position = c; number = d }) (record { line = p; case = q; position = r; number = s })
entry-same e f g h = rw (e, f, g, h)

-- what was written is read back
pub entry-back : (es : List Entry) {d u : Bytes} {b : ℕ} → Wrote d 9216 (log_bytes es) u b → 62464 ≤ length d → length es ≤ 128 → (none : Entry) (i : ℕ) → i < length es → entry_at u i ≡ get_or es i none
unfolding entry_at
entry-back es {d} {u} w room few none i h =
    let e = get_or es i none in
    let line : byte_of u i 0 + 256 * byte_of u i 1 ≡ e.line = rw (at 0 (omega arith), at 1 (omega arith)) (omega (arith, div-add-mod' e.line 256)) in
    entry-same line (at 2 (omega arith)) (at 3 (omega arith)) (at 4 (omega arith))
  where
    at : (k : ℕ) → k < 8 → byte_of u i k ≡ get_or (bytes_of (get_or es i none)) k 0
    at k l = wrote_at w (omega (arith, log-bytes es)) (8 * i + k) (omega (arith, log-bytes es)) ∙ log-at none es i k h l

-- ---- the entries of a case's tags, one by one

-- those of the first j tags are written
pub record Tagging (r c count k : ℕ) (d : Bytes) (a : ℕ) (e : Bytes) (b j : ℕ) : Type 0 where
  pub within : j ≤ count
  pub done : Bytes
  pub wrote : Wrote d a done e b
  pub rest : done ++ log_bytes (tag_entries r c j (k + j) (count - j)) ≡ log_bytes (tag_entries r c 0 k count)

module _ (r c count k : ℕ) (d : Bytes) (a : ℕ) where
  pub tagging-start : a ≤ length d + 1 → Tagging r c count k d a d a 0
  tagging-start h =
      let z : k + 0 ≡ k = omega arith in
      let y : count - 0 ≡ count = omega arith in
      record { within = omega arith; done = []; wrote = wrote_none d a h; rest = rw (z, y) }

  module _ (e : Bytes) (b j : ℕ) (g : Tagging r c count k d a e b j) where
    pub tagging-next : j < count → (f : Bytes) (q : ℕ) → Wrote e b (entry_bytes r c j (k + j)) f q → Tagging r c count k d a f q (j + 1)
    unfolding log_bytes
    tagging-next h f q w =
        let z : count - j ≡ suc (count - suc j) = omega arith in
        let y : k + (j + 1) ≡ suc (k + j) = omega arith in
        let x : j + 1 ≡ suc j = omega arith in
        record {
          within = omega arith;
          done = g.done ++ entry_bytes r c j (k + j);
          wrote = then g.wrote w;
          rest = append_assoc g.done (entry_bytes r c j (k + j)) _ ∙ rw (y, x) (rw z at g.rest);
        }

    pub tagging-end : count ≤ j → Wrote d a (log_bytes (tag_entries r c 0 k count)) e b
    unfolding log_bytes
    tagging-end h =
        let z : count - j ≡ 0 = omega arith in
        wrote_as (sym (append-nil g.done) ∙ rw z at g.rest) g.wrote
