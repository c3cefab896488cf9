-- Laws of entries.
use mathlib.Core.Path.{◌≡◌, refl, sym, ap, ◌∙◌, subst}
use mathlib.Core.Bool.{Bool, true, false}
use mathlib.Core.List.{[], ◌∷◌, ◌++◌}
use mathlib.Core.Logic.{⊎_elim}
use Rattle.std.specs.Prelude.{Option, None, Some}
use Prim.Native.Nat.{ℕ, ◌+◌, ◌*◌, ◌/◌, ◌%◌, ◌≤◌, ◌<◌}
use native.Mathlib.Omega.{arith}
use native.Mathlib.Numerals.{add-one}
use native.Mathlib.Nat.{eq-or-lt_of_le}
use borrow.Author.Tests.{ltb-true, ltb-false}
use lib.Dec.{ltb}
use lib.IntN.{ℤ}
use lib.Ieee.{Float, binary64, to_bits}
use lib.ListN.{length, take, drop, get_or, length-append}
use lib.Seq.{get_or-take, get_or-drop, take_at, drop-drop, get_or_at}
use Rattle.semantics.specs.Text.{Bytes, big_endian, from_big_endian}
use Rattle.semantics.specs.Tree as Tree
use Rattle.semantics.specs.Tree.ConstVal.{v_int, v_real, v_str}
use Rattle.semantics.specs.Sheet.{sheet_source}
use Rattle.semantics.specs.Fold.{bits64, wrap}
use Rattle.semantics.specs.Const.{entries}
use Rattle.write.specs.Wrote.{over}
use Rattle.write.proofs.Over.{drop-over, over-there}
use Rattle.write.proofs.Hex.{big-length}
use Rattle.write.proofs.Back.{bits_back}
use Rattle.chains.specs.Chains.{digest_place, digest_at, Chained, linked}
use Rattle.chains.proofs.Laws.{SameBytes, chained-kept, chained-next}
use Rattle.words.specs.Words.{u16_at, bits_at}
use Rattle.implement.specs.Modules.{first_field, module_at}
use Rattle.checks.specs.Checks.{Kept}
use Rattle.checks.proofs.Kept.{kept_at, kept_then, kept_less, outside-less, over-kept}
use Rattle.names.specs.Table.{const_line_of, module_line_of, value_by, kind_of, bits_of, const_chains, const_digest, entries_at, log_in, EntryBounds, ConstsLogged}
use Rattle.names.proofs.Laws.{slot_is, value-failed, value-int, value-real, value-text, part_low, part-kept, SameText, each_same, digests-same, log-same, entries_below, const-room, const-apart, const-outside, linked-entries}
use Rattle.values.specs.declared.ConstVal.{ConstVal}
use Rattle.values.specs.declared.ConstVal.TheVariants.{Int, Real, Str}
use Rattle.values.specs.Values.{string_in, value_in, kind_for, bits_for, InRange, At}
use Rattle.values.proofs.Values.{word, real-back}
use Rattle.values.proofs.Written.{string-length}
use Rattle.entries.specs.Entering.{entry_of, moved_to, string_of, EntryRoom}
use Rattle.lines.specs.Lines.{lines_in}

-- entry m holds a constant with this value, and the entries before it what they held
pub record Entered (s t : Bytes) (m line within : ℕ) (v : Option Tree.ConstVal) (u : Bytes) : Type 0 where
  pub log : log_in s u (m + 1) ≡ entries (sheet_source s).implement (module_at s within) (first_field s line) v ++ log_in s t m
  pub logged : ConstsLogged s u (m + 1)
  pub kept : Kept 5120 t u

-- ---- a value's string

over_none : (t : Bytes) (a : ℕ) → t ≡ over t a []
unfolding over
over_none t a = refl

module _ {v : ConstVal} (t : Bytes) (m : ℕ) where
  pub string-none : {w : ConstVal} → v ≡ w → string_of t w ≡ [] → w ≡ moved_to (16384 + 256 * m) w → (t ≡ over t (16384 + 256 * m) (string_of t v)) × (v ≡ moved_to (16384 + 256 * m) v)
  string-none e d r = rw e (rw d (over_none t (16384 + 256 * m)), r)

  pub string-some : {q l : ℕ} {u : Bytes} → v ≡ Str q l → u ≡ over t (16384 + 256 * m) (take l (drop q t)) → (u ≡ over t (16384 + 256 * m) (string_of t v)) × (Str (16384 + 256 * m) l ≡ moved_to (16384 + 256 * m) v)
  unfolding string_in
  string-some e d = rw e (d, refl)

-- ---- an entry's bytes

entry_length : (line within kind bits d : ℕ) → length (entry_of line within kind bits d) ≡ 14
unfolding entry_of
entry_length line within kind bits d = omega (arith, length-append (big_endian 8 bits) (d ∷ []), big-length 8 bits)

module _ (t u : Bytes) (m line within kind bits d : ℕ) (f : EntryRoom m line within) (long : 62464 ≤ length t) (str : Bytes) (short : length str ≤ 256)
    (is : u ≡ over (over t (16384 + 256 * m) str) (5120 + 16 * m) (entry_of line within kind bits d))
    (low : kind ≤ 3) (word : bits < 18446744073709551616) (text : kind ≡ 3 → (bits % 65536 ≡ 16384 + 256 * m) × (bits / 65536 ≤ 256)) where
  string-room : 16384 + 256 * m + length str ≤ length t
  string-room = omega (arith, f.few, long)

  string-kept : Kept (16384 + 256 * m) t (over t (16384 + 256 * m) str)
  string-kept = over-kept t (16384 + 256 * m) str

  entry-room : 5120 + 16 * m + length (entry_of line within kind bits d) ≤ length (over t (16384 + 256 * m) str)
  entry-room = omega (arith, f.few, long, entry_length line within kind bits d, string-kept.long)

  entry-only : Kept (5120 + 16 * m) (over t (16384 + 256 * m) str) u
  entry-only = rw is (over-kept (over t (16384 + 256 * m) str) (5120 + 16 * m) (entry_of line within kind bits d))

  table_kept : Kept (5120 + 16 * m) t u
  table_kept = kept_then (kept_less (omega (arith, f.few)) string-kept) entry-only

  -- what stands behind the entry is as the string leaves it
  behind : (p : ℕ) → 5134 + 16 * m ≤ p → drop p u ≡ drop p (over t (16384 + 256 * m) str)
  behind p h = rw is (drop-over (over t (16384 + 256 * m) str) (5120 + 16 * m) (entry_of line within kind bits d) p (omega (arith, f.few, entry_length line within kind bits d)))

  byte-behind : (p : ℕ) → 5134 + 16 * m ≤ p → get_or u p 0 ≡ get_or (over t (16384 + 256 * m) str) p 0
  byte-behind p h =
      let z : p + 0 ≡ p = omega arith in
      rw z at (sym (get_or-drop p u 0 0) ∙ ap (λ (l : Bytes). get_or l 0 0) (behind p h) ∙ get_or-drop p (over t (16384 + 256 * m) str) 0 0)

  -- ---- the new entry

  here : take 14 (drop (5120 + 16 * m) u) ≡ entry_of line within kind bits d
  here = rw (is, ← entry_length line within kind bits d) (over-there (over t (16384 + 256 * m) str) (5120 + 16 * m) (entry_of line within kind bits d) entry-room)

  byte-here : (p j : ℕ) → p ≡ 5120 + 16 * m + j → j < 14 → get_or u p 0 ≡ get_or (entry_of line within kind bits d) j 0
  byte-here p j e h =
      ap (λ (q : ℕ). get_or u q 0) e ∙ sym (get_or-drop (5120 + 16 * m) u j 0) ∙ sym (get_or-take 14 (drop (5120 + 16 * m) u) j 0 h) ∙ ap (λ (l : Bytes). get_or l j 0) here

  line-here : const_line_of u m ≡ line
  unfolding u16_at entry_of
  line-here = omega (arith, byte-here (5120 + 16 * m) 0 (omega arith) (omega arith), byte-here (5120 + 16 * m + 1) 1 (omega arith) (omega arith))

  within-here : module_line_of u m ≡ within
  unfolding u16_at entry_of
  within-here = omega (arith, byte-here (5122 + 16 * m) 2 (omega arith) (omega arith), byte-here (5122 + 16 * m + 1) 3 (omega arith) (omega arith))

  kind-here : kind_of u m ≡ kind
  unfolding entry_of
  kind-here = byte-here (5124 + 16 * m) 4 (omega arith) (omega arith)

  bits-here : bits_of u m ≡ bits
  unfolding bits_at entry_of
  bits-here =
      let a : 5125 + 16 * m ≡ 5120 + 16 * m + 5 = omega arith in
      let e : take 8 (drop (5125 + 16 * m) u) ≡ big_endian 8 bits =
      rw (a, ← drop-drop 5 (5120 + 16 * m) u) (sym (part_low 5 8 14 (drop (5120 + 16 * m) u) (omega arith)) ∙ ap (λ (l : Bytes). take 8 (drop 5 l)) here ∙ take_at (big_endian 8 bits) (d ∷ []) 8 (big-length 8 bits)) in
      ap (from_big_endian 0) e ∙ bits_back bits (omega arith)

  digest-here : digest_at u const_chains m ≡ d
  unfolding entry_of digest_place
  digest-here = byte-here (5133 + 16 * m) 13 (omega arith) (omega arith) ∙ get_or_at (big_endian 8 bits) d [] 0 8 (big-length 8 bits)

  entry_new : {n : ℕ} → line ≤ n → within ≤ n → EntryBounds u n m
  entry_new p q = record {
    first = rw line-here f.first;
    last = rw line-here p;
    within = rw within-here q;
    kind = rw kind-here low;
    text = λ k. let g = text (sym kind-here ∙ k) in rw bits-here (record { low = omega arith; high = omega (arith, f.few); short = g.1 });
    own = λ k. rw bits-here (text (sym kind-here ∙ k)).0;
  }

  -- the string that was copied
  text-here : kind ≡ 3 → bits / 65536 ≡ length str → value_by u kind bits ≡ Some (v_str str)
  text-here k e =
      value-text u kind bits k
      ∙ rw ((text k).0, e, behind (16384 + 256 * m) (omega arith), over-there t (16384 + 256 * m) str string-room)

  -- ---- the earlier ones

  texts-same : (s : Bytes) → ConstsLogged s t m → (i : ℕ) → i < m → SameText t u i
  texts-same s l i h k =
      let g = (l.each i h).own k in
      let e = (l.each i h).text k in
      rw (behind (bits_of t i % 65536) (omega (arith, f.few))) (part-kept string-kept (bits_of t i % 65536) (bits_of t i / 65536) (omega (arith, e.short)))

  each-new : {n : ℕ} → line ≤ n → within ≤ n → ((i : ℕ) → i < m → EntryBounds t n i) → (i : ℕ) → i < m + 1 → EntryBounds u n i
  each-new {n} p q each i h = ⊎_elim (λ (x : i ≡ m). subst (EntryBounds u n) (sym x) (entry_new p q)) (λ (x : i < m). each_same (entries_below table_kept) each i x) (eq-or-lt_of_le (omega arith))

  digests-new : (s : Bytes) → d ≡ const_digest s within (first_field s line) → ConstsLogged s t m → (i : ℕ) → i < m + 1 → digest_at u const_chains i ≡ const_digest s (module_line_of u i) (first_field s (const_line_of u i))
  digests-new s e l i h = ⊎_elim (λ (x : i ≡ m). rw (x, digest-here, within-here, line-here) e) (λ (x : i < m). digests-same (entries_below table_kept) s l.digests i x) (eq-or-lt_of_le (omega arith))

  log-new : (v : Option Tree.ConstVal) → value_by u kind bits ≡ v → (s : Bytes) → ConstsLogged s t m → log_in s u (m + 1) ≡ entries (sheet_source s).implement (module_at s within) (first_field s line) v ++ log_in s t m
  unfolding log_in entries_at
  log-new v e s l = rw (add-one, line-here, within-here, slot_is u m, kind-here, bits-here, e, log-same (entries_below table_kept) s (texts-same s l))

  -- the chains of the earlier ones are as they were
  head-kept : (p k : ℕ) → p ≡ 5135 + 16 * k → k < 128 → get_or u p 0 ≡ get_or t p 0
  head-kept p k e h = go (ltb k m) refl
    where
      go : (b : Bool) → ltb k m ≡ b → get_or u p 0 ≡ get_or t p 0
      go true q = let x = ltb-true k m q in kept_at table_kept p (omega arith)
      go false q = let x = ltb-false k m q in byte-behind p (omega arith) ∙ kept_at string-kept p (omega arith)

  chained-still : Chained t const_chains m → Chained u const_chains m
  unfolding digest_place
  chained-still =
      let same : SameBytes t u const_chains m = record {
        digest = λ i (h : i < m). kept_at table_kept (5133 + 16 * i) (omega arith);
        link = λ i (h : i < m). kept_at table_kept (5133 + 16 * i + 1) (omega arith);
        head = λ k h. head-kept (5133 + 16 * k + 1 + 1) k (omega arith) h;
      } in
      chained-kept same (omega arith)

  entered : (v : Option Tree.ConstVal) → value_by u kind bits ≡ v → (w : Bytes) → w ≡ linked u const_chains m → (s : Bytes) → line ≤ lines_in s → within ≤ lines_in s → d ≡ const_digest s within (first_field s line) → ConstsLogged s t m → Entered s t m line within v w
  entered v e w j s p q hd l =
      let bounds = each-new p q l.each in
      let same = linked-entries u m f.few in
      let outside = const-outside u m f.few in
      rw j
      (record {
        log = log-same same s (λ i h x. ap (take (bits_of u i / 65536)) (outside-less 5120 (bits_of u i % 65536) (omega arith) (omega (arith, ((bounds i h).text x).low)) outside).above) ∙ log-new v e s l;
        logged = record {
          few = omega (arith, f.few);
          each = each_same same bounds;
          digests = digests-same same s (digests-new s hd l);
          chained = rw add-one (chained-next (const-room (omega (arith, long, table_kept.long))) const-apart (omega arith) (omega arith) f.few (chained-still l.chained));
        };
        kept = kept_then (kept_less (omega arith) table_kept) outside.kept;
      })

module _ (t w : Bytes) (m line within d : ℕ) (f : EntryRoom m line within) (long : 62464 ≤ length t) where
  pub entered-failed : w ≡ linked (over t (5120 + 16 * m) (entry_of line within 0 0 d)) const_chains m → (s : Bytes) → line ≤ lines_in s → within ≤ lines_in s → d ≡ const_digest s within (first_field s line) → ConstsLogged s t m → Entered s t m line within None w
  entered-failed e =
      let u = over t (5120 + 16 * m) (entry_of line within 0 0 d) in
      entered t u m line within 0 0 d f long [] (omega arith) (ap (λ (x : Bytes). over x (5120 + 16 * m) (entry_of line within 0 0 d)) (over_none t (16384 + 256 * m))) (omega arith) (omega arith) (λ k. absurd (omega arith))
      None (value-failed u 0 0 (λ k. omega arith) (λ k. omega arith) (λ k. omega arith)) w e

  -- a value, by its variant
  pub entered-value : (v : ConstVal) → At 49152 v
      → (w ≡ linked (over (over t (16384 + 256 * m) (string_of t v)) (5120 + 16 * m) (entry_of line within (kind_for v) (bits_for (moved_to (16384 + 256 * m) v)) d)) const_chains m) × InRange v
      → (s : Bytes) → line ≤ lines_in s → within ≤ lines_in s → d ≡ const_digest s within (first_field s line) → ConstsLogged s t m → Entered s t m line within (Some (value_in t v)) w
  unfolding value_in wrap
  entered-value (Int z) a (e, r) =
      let u = over (over t (16384 + 256 * m) []) (5120 + 16 * m) (entry_of line within 1 (bits64 z) d) in
      entered t u m line within 1 (bits64 z) d f long [] (omega arith) refl (omega arith) (word (Int z) tt r) (λ k. absurd (omega arith))
      (Some (v_int z)) (value-int u 1 (bits64 z) refl ∙ ap (λ (x : ℤ). Some (v_int x)) r) w e
  entered-value (Real x) a (e, r) =
      let u = over (over t (16384 + 256 * m) []) (5120 + 16 * m) (entry_of line within 2 (to_bits binary64 x) d) in
      entered t u m line within 2 (to_bits binary64 x) d f long [] (omega arith) refl (omega arith) (word (Real x) tt r) (λ k. absurd (omega arith))
      (Some (v_real x)) (value-real u 2 (to_bits binary64 x) refl ∙ ap (λ (y : Float). Some (v_real y)) (real-back x r)) w e
  entered-value (Str p l) a (e, r) =
      let b : ℕ = 16384 + 256 * m + 65536 * l in
      let u = over (over t (16384 + 256 * m) (string_in t p l)) (5120 + 16 * m) (entry_of line within 3 b d) in
      let g : length (string_in t p l) ≡ l = string-length t p l (omega (arith, long)) in
      let c : (bits : ℕ) → bits ≡ 16384 + 256 * m + 65536 * l → (bits % 65536 ≡ 16384 + 256 * m) × (bits / 65536 ≡ l) = λ bits q. (omega (arith, f.few), omega (arith, f.few)) in
      let x : (k : ◌≡◌ {A = ℕ} 3 3) → (b % 65536 ≡ 16384 + 256 * m) × (b / 65536 ≤ 256) = λ k. ((c b refl).0, omega (arith, (c b refl).1)) in
      let y : length (string_in t p l) ≤ 256 = omega arith in
      let h : b < 18446744073709551616 = omega (arith, f.few) in
      entered t u m line within 3 b d f long (string_in t p l) y refl (omega arith) h x
      (Some (v_str (string_in t p l))) (text-here t u m line within 3 b d f long (string_in t p l) y refl (omega arith) h x refl ((c b refl).1 ∙ sym g)) w e
