-- Laws of the table of globals.
use mathlib.Core.Path.{◌≡◌, refl, sym, ap, ◌∙◌}
use mathlib.Core.Logic.{⊎_elim}
use mathlib.Core.Bool.{Bool, true, false, cond}
use mathlib.Core.List.{List, [], ◌∷◌, ◌++◌}
use Rattle.std.specs.Prelude.{Option, None, Some, option_map, IfSome}
use Prim.Native.Nat.{ℕ, zero, suc, ◌+◌, ◌*◌, ◌/◌, ◌%◌, ◌≤◌, ◌<◌}
use native.Mathlib.Numerals.{add-one}
use native.Mathlib.Nat.{eq-or-lt_of_le}
use native.Mathlib.Omega.{arith}
use lib.ListN.{length, get_or, set}
use lib.Seq.{length-sets}
use borrow.Author.Tests.{eq-eqb}
use Rattle.semantics.specs.Text.{Bytes, same}
use Rattle.semantics.specs.Global.{Global, place_of}
use Rattle.laws.proofs.Tests.{same-eq}
use Rattle.write.specs.Wrote.{over}
use Rattle.write.proofs.Over.{get_d_over, get_or-stored}
use Rattle.words.specs.Words.{digest, u16_at}
use Rattle.words.proofs.Laws.{digest-same, digest-apart}
use Rattle.chains.specs.Chains.{newest_of, count_to, chain_of, digest_place, digest_at, chain_at, in_chain, ChainRoom, Chained, linked}
use Rattle.chains.proofs.Laws.{PlacesApart, SameBytes, newest-yes, newest-no, newest-low, linked-outside, linked-other, linked_long, chained-none, chained-kept, chained-next}
use Rattle.checks.specs.Checks.{Checked, Kept, Outside}
use Rattle.checks.proofs.Kept.{kept_less, kept_at, outside-then, outside-less, over-outside}
use Rattle.global_table.specs.Table.{VarLine, global_line_of, global_position_of, offset_of, global_chains, global_stored, global_entered, global_at, entries_from, places_in, GlobalEntry, Tabled, number_from, entry_number}

-- ---- an entry

stored-by : (t : Bytes) (i line position offset d : ℕ)
    → set (set (set (set (set (set t (7168 + 8 * i) (line % 256)) (7168 + 8 * i + 1) (line / 256)) (7168 + 8 * i + 2) position) (7168 + 8 * i + 3) (offset % 256)) (7168 + 8 * i + 4) (offset / 256)) (7168 + 8 * i + 5) d
    ≡ global_stored t i line position offset d
unfolding global_stored
stored-by t i line position offset d =
    let e1 : 7168 + 8 * i + 1 ≡ suc (7168 + 8 * i) = omega arith in
    let e2 : 7168 + 8 * i + 2 ≡ suc (suc (7168 + 8 * i)) = omega arith in
    let e3 : 7168 + 8 * i + 3 ≡ suc (suc (suc (7168 + 8 * i))) = omega arith in
    let e4 : 7168 + 8 * i + 4 ≡ suc (suc (suc (suc (7168 + 8 * i)))) = omega arith in
    let e5 : 7168 + 8 * i + 5 ≡ suc (suc (suc (suc (suc (7168 + 8 * i))))) = omega arith in
    rw (e1, e2, e3, e4, e5)

module _ (t : Bytes) (i line position offset d : ℕ) {u : Bytes} where
  pub entered_by : u ≡ linked (set (set (set (set (set (set t (7168 + 8 * i) (line % 256)) (7168 + 8 * i + 1) (line / 256)) (7168 + 8 * i + 2) position) (7168 + 8 * i + 3) (offset % 256)) (7168 + 8 * i + 4) (offset / 256)) (7168 + 8 * i + 5) d) global_chains i
      → u ≡ global_entered t i line position offset d
  unfolding global_entered
  entered_by h = h ∙ rw (stored-by t i line position offset d)

pub entered-long : (t : Bytes) (i line position offset d : ℕ) → length (global_entered t i line position offset d) ≡ length t
unfolding global_entered global_stored
entered-long t i line position offset d =
    linked_long (global_stored t i line position offset d) global_chains i
    ∙ length-sets t (7168 + 8 * i) (line % 256 ∷ line / 256 ∷ position ∷ offset % 256 ∷ offset / 256 ∷ d ∷ [])

-- digests, links and heads lie in the working space, and apart
pub global-room : {t : Bytes} → 62464 ≤ length t → ChainRoom t global_chains
unfolding digest_place
global-room room = record { low = λ i h. omega arith; within = λ i h. omega arith }

global-apart : PlacesApart global_chains 256
unfolding digest_place
global-apart = record { own = λ i j e. omega arith; link = λ i j h l e. omega arith; head = λ i k h l e. omega arith }

module _ (t : Bytes) (i line position offset d : ℕ) where
  cells : Bytes
  cells = line % 256 ∷ line / 256 ∷ position ∷ offset % 256 ∷ offset / 256 ∷ d ∷ []

  -- a link or a head is no other byte of an entry
  unlinked : (j k m : ℕ) → k < 6 → m ≡ 7168 + 8 * j + k → get_or (global_entered t i line position offset d) m 0 ≡ get_or (global_stored t i line position offset d) m 0
  unfolding global_entered digest_place
  unlinked j k m h e = linked-other (global_stored t i line position offset d) global_chains i m (λ q. omega arith) (λ l x q. omega arith)

  -- a byte that is none of the entry's stays
  stored_other : (m : ℕ) → ((k : ℕ) → k < 6 → m ≡ 7168 + 8 * i + k → ⊥) → get_or (global_stored t i line position offset d) m 0 ≡ get_or t m 0
  unfolding global_stored cells over
  stored_other m h = get_d_over t (7168 + 8 * i) cells m h

  -- the entries before it
  module _ (j : ℕ) (hj : j < i) where
    cell-old : (k : ℕ) → k < 6 → (m : ℕ) → m ≡ 7168 + 8 * j + k → get_or (global_entered t i line position offset d) m 0 ≡ get_or t m 0
    cell-old k h m e = unlinked j k m h e ∙ stored_other m (λ x l q. omega arith)

    pub line-old : global_line_of (global_entered t i line position offset d) j ≡ global_line_of t j
    unfolding u16_at
    line-old = rw (cell-old 0 (omega arith) (7168 + 8 * j) (omega arith), cell-old 1 (omega arith) (7168 + 8 * j + 1) refl)

    position-old : global_position_of (global_entered t i line position offset d) j ≡ global_position_of t j
    unfolding global_position_of
    position-old = cell-old 2 (omega arith) (7170 + 8 * j) (omega arith)

    offset-old : offset_of (global_entered t i line position offset d) j ≡ offset_of t j
    unfolding u16_at
    offset-old = rw (cell-old 3 (omega arith) (7171 + 8 * j) (omega arith), cell-old 4 (omega arith) (7171 + 8 * j + 1) (omega arith))

    pub digest-old : digest_at (global_entered t i line position offset d) global_chains j ≡ digest_at t global_chains j
    unfolding digest_place
    digest-old = cell-old 5 (omega arith) (7173 + 8 * j) (omega arith)

    pub entry_old : (s : Bytes) → global_at s (global_entered t i line position offset d) j ≡ global_at s t j
    unfolding global_at
    entry_old s = rw (line-old, position-old, offset-old)

  stored_same : SameBytes t (global_stored t i line position offset d) global_chains i
  unfolding digest_place
  stored_same = record {
    digest = λ j h. stored_other (7173 + 8 * j) (λ k l e. omega arith);
    link = λ j h. stored_other (7173 + 8 * j + 1) (λ k l e. omega arith);
    head = λ j h. stored_other (7173 + 8 * j + 1 + 1) (λ k l e. omega arith);
  }

  module _ (hi : i < 256) where
    outside-stored : Outside 7168 9216 t (global_stored t i line position offset d)
    unfolding global_stored cells over
    outside-stored = outside-less 7168 9216 (omega arith) (omega arith) (over-outside t (7168 + 8 * i) cells)

    pub outside-entered : Outside 7168 9216 t (global_entered t i line position offset d)
    unfolding global_entered digest_place
    outside-entered = outside-then outside-stored (linked-outside (global_stored t i line position offset d) global_chains i (omega arith) (omega arith) (λ k h. (omega arith, omega arith)))

    module _ (room : 62464 ≤ length t) where
      cell_at : (k j : ℕ) → k < 6 → j ≡ 7168 + 8 * i + k → get_or (global_entered t i line position offset d) j 0 ≡ get_or cells k 0
      unfolding global_stored cells over
      cell_at k j h e = unlinked i k j h e ∙ rw e (get_or-stored t (7168 + 8 * i) cells k h (omega arith))

      pub line-new : line < 65536 → global_line_of (global_entered t i line position offset d) i ≡ line
      unfolding u16_at cells
      line-new h = rw (cell_at 0 (7168 + 8 * i) (omega arith) (omega arith), cell_at 1 (7168 + 8 * i + 1) (omega arith) refl) (omega arith)

      pub position-new : global_position_of (global_entered t i line position offset d) i ≡ position
      unfolding global_position_of cells
      position-new = cell_at 2 (7170 + 8 * i) (omega arith) (omega arith)

      pub offset-new : offset < 65536 → offset_of (global_entered t i line position offset d) i ≡ offset
      unfolding u16_at cells
      offset-new h = rw (cell_at 3 (7171 + 8 * i) (omega arith) (omega arith), cell_at 4 (7171 + 8 * i + 1) (omega arith) (omega arith)) (omega arith)

      pub digest-new : digest_at (global_entered t i line position offset d) global_chains i ≡ d
      unfolding digest_place cells
      digest-new = cell_at 5 (7173 + 8 * i) (omega arith) (omega arith)

      -- the entries and this one are chained
      pub chained-entered : Chained t global_chains i → Chained (global_entered t i line position offset d) global_chains (suc i)
      unfolding global_entered
      chained-entered c =
          chained-next (global-room (omega (arith, outside-stored.kept.long))) global-apart (omega arith) (omega arith) hi (chained-kept stored_same (omega arith) c)

-- ---- entries in order

entries-same : (s t u : Bytes) (i k : ℕ) → ((j : ℕ) → j < i + k → global_at s u j ≡ global_at s t j) → entries_from s u i k ≡ entries_from s t i k
unfolding entries_from
entries-same s t u i zero h = refl
entries-same s t u i (suc k) h = rw (h i (omega arith), entries-same s t u (suc i) k (λ j l. h j (omega arith)))

entries-more : (s t : Bytes) (i k : ℕ) → entries_from s t i (suc k) ≡ entries_from s t i k ++ (global_at s t (i + k) ∷ [])
unfolding entries_from
entries-more s t i zero = let e : i + 0 ≡ i = omega arith in rw e
entries-more s t i (suc k) = let e : i + suc k ≡ suc i + k = omega arith in ap (λ (l : List Global). global_at s t i ∷ l) (entries-more s t (suc i) k ∙ rw e)

pub places-more : (s t : Bytes) (g : ℕ) → places_in s t (g + 1) ≡ places_in s t g ++ (global_at s t g ∷ [])
places-more s t g = let e : 0 + g ≡ g = omega arith in rw add-one (entries-more s t 0 g ∙ rw e)

pub places_count : (s t : Bytes) (i g : ℕ) → length (entries_from s t i g) ≡ g
unfolding entries_from
places_count s t i zero = refl
places_count s t i (suc g) = ap suc (places_count s t (suc i) g)

pub places-entered : (s t : Bytes) (g line position offset d : ℕ) → places_in s (global_entered t g line position offset d) g ≡ places_in s t g
places-entered s t g line position offset d = entries-same s t (global_entered t g line position offset d) 0 g (λ j l. entry_old t g line position offset d j (omega arith) s)

-- a name that no entry before it has is entered
pub once-entered : (s t : Bytes) (g line position offset d : ℕ)
    → ((i : ℕ) → i < g → entry_number (global_at s t i).name (places_in s t i) ≡ None)
    → entry_number (global_at s (global_entered t g line position offset d) g).name (places_in s t g) ≡ None
    → (i : ℕ) → i < suc g → entry_number (global_at s (global_entered t g line position offset d) i).name (places_in s (global_entered t g line position offset d) i) ≡ None
once-entered s t g line position offset d old last i h = ⊎_elim (λ (e : i ≡ g). here e) (λ (l : i < g). before l) (eq-or-lt_of_le (omega arith))
  where
    same-to : (m : ℕ) → m ≤ g → places_in s (global_entered t g line position offset d) m ≡ places_in s t m
    same-to m l = entries-same s t (global_entered t g line position offset d) 0 m (λ j q. entry_old t g line position offset d j (omega arith) s)

    here : i ≡ g → entry_number (global_at s (global_entered t g line position offset d) i).name (places_in s (global_entered t g line position offset d) i) ≡ None
    here e = rw (e, same-to g (omega arith)) last

    before : i < g → entry_number (global_at s (global_entered t g line position offset d) i).name (places_in s (global_entered t g line position offset d) i) ≡ None
    before l = rw (same-to i (omega arith), entry_old t g line position offset d i l s) (old i l)

-- ---- search for a name

-- names with different digests are different
pub named-apart : {s t : Bytes} {i d : ℕ} (x : Bytes) → GlobalEntry s t i → d ≡ digest x → (digest_at t global_chains i ≡ d → ⊥) → false ≡ same x (global_at s t i).name
named-apart {s} {t} {i = i} x b e z = digest-apart x (global_at s t i).name (λ q. z (b.digest ∙ sym (e ∙ q)))

-- one more place: the first with a name is new where it has that name and none before it has
number_more : (k : ℕ) (x : Bytes) (ps : List Global) (p : Global) → same x p.name ≡ false → number_from k x (ps ++ (p ∷ [])) ≡ number_from k x ps
number_more k x [] p e = rw e
number_more k x (q ∷ ps) p e = rw (number_more (suc k) x ps p e)

place-more : (x : Bytes) (ps : List Global) (p : Global) → same x p.name ≡ false → place_of x (ps ++ (p ∷ [])) ≡ place_of x ps
place-more x [] p e = rw e
place-more x (q ∷ ps) p e = rw (place-more x ps p e)

module _ (x : Bytes) (p : Global) (e : same x p.name ≡ true) where
  number-new : (k : ℕ) (ps : List Global) → number_from k x ps ≡ None → number_from k x (ps ++ (p ∷ [])) ≡ Some (k + length ps)
  number-new k [] z = rw e (ap Some (omega arith))
  number-new k (q ∷ ps) z = go (same x q.name) z (number-new (suc k) ps)
    where
      go : (b : Bool) → cond b (Some k) (number_from (suc k) x ps) ≡ None → (number_from (suc k) x ps ≡ None → number_from (suc k) x (ps ++ (p ∷ [])) ≡ Some (suc k + length ps))
          → cond b (Some k) (number_from (suc k) x (ps ++ (p ∷ []))) ≡ Some (k + suc (length ps))
      go true h f = cc h
      go false h f = f h ∙ ap Some (omega arith)

  place-new : (k : ℕ) (ps : List Global) → number_from k x ps ≡ None → place_of x (ps ++ (p ∷ [])) ≡ Some p.offset
  place-new k [] z = rw e
  place-new k (q ∷ ps) z = go (same x q.name) z (place-new (suc k) ps)
    where
      go : (b : Bool) → cond b (Some k) (number_from (suc k) x ps) ≡ None → (number_from (suc k) x ps ≡ None → place_of x (ps ++ (p ∷ [])) ≡ Some p.offset)
          → cond b (Some q.offset) (place_of x (ps ++ (p ∷ []))) ≡ Some p.offset
      go true h f = cc h
      go false h f = f h

-- whether entry i has the name x
abbrev pub has_name : Bytes → Bytes → Bytes → ℕ → Bool
has_name s t x i = same x (global_at s t i).name

-- r is the first entry with the name x, and its offset that name's place
pub record Found (s t : Bytes) (g : ℕ) (x : Bytes) (r : Option ℕ) : Type 0 where
  pub place : option_map (offset_of t) r ≡ place_of x (places_in s t g)
  pub number : r ≡ entry_number x (places_in s t g)

module _ (s t : Bytes) (x : Bytes) where
  found_none : Found s t 0 x (newest_of (has_name s t x) 0)
  unfolding newest_of entries_from
  found_none = record { place = refl; number = refl }

  module _ (g : ℕ) where
    more : places_in s t (suc g) ≡ places_in s t g ++ (global_at s t g ∷ [])
    more = rw (add-one g) at (places-more s t g)

    found_here : has_name s t x g ≡ true → entry_number (global_at s t g).name (places_in s t g) ≡ None → Found s t (suc g) x (Some g)
    unfolding global_at
    found_here e h =
        let q : x ≡ (global_at s t g).name = same-eq x (global_at s t g).name e in
        let z : entry_number x (places_in s t g) ≡ None = rw q h in
        let l : length (places_in s t g) ≡ g = places_count s t 0 g in
        record {
          place = sym (rw more (place-new x (global_at s t g) e 0 (places_in s t g) z));
          number = sym (rw more (number-new x (global_at s t g) e 0 (places_in s t g) z ∙ ap Some (omega (arith, l))));
        }

    found_before : has_name s t x g ≡ false → {r : Option ℕ} → Found s t g x r → Found s t (suc g) x r
    found_before e f = record {
      place = rw more (f.place ∙ sym (place-more x (places_in s t g) (global_at s t g) e));
      number = rw more (f.number ∙ sym (number_more 0 x (places_in s t g) (global_at s t g) e));
    }

  -- the newest entry with a name is the first, as there is one alone
  newest-first : (g : ℕ) → ((i : ℕ) → i < g → entry_number (global_at s t i).name (places_in s t i) ≡ None) → Found s t g x (newest_of (has_name s t x) g)
  newest-first zero h = found_none
  newest-first (suc g) h = go (has_name s t x g) refl (newest-first g (λ i l. h i (omega arith)))
    where
      go : (b : Bool) → has_name s t x g ≡ b → Found s t g x (newest_of (has_name s t x) g) → Found s t (suc g) x (newest_of (has_name s t x) (suc g))
      go true e f = rw (newest-yes (has_name s t x) g e) (found_here g e (h g (omega arith)))
      go false e f = rw (newest-no (has_name s t x) g e) (found_before g e f)

-- an entry with the name x, which has the digest d, is of the chain of d
pub named-chain : {s t : Bytes} {g d : ℕ} (x : Bytes) → Tabled s t g → d ≡ digest x → (j : ℕ) → j < g → has_name s t x j ≡ true → in_chain t global_chains (chain_of d) j ≡ true
unfolding chain_at
named-chain {s} {t} {d = d} x w e j h q =
    let y : digest_at t global_chains j ≡ d = (w.entries j h).digest ∙ sym (e ∙ digest-same x (global_at s t j).name 0 q) in
    eq-eqb (chain_at t global_chains j) (chain_of d) (ap chain_of y)

below : (r : Option ℕ) {g : ℕ} → count_to r ≤ g → IfSome r (λ i. i < g)
below None h = tt
below (Some i) h = omega arith

pub found-is : {s t : Bytes} {g : ℕ} {r : Option ℕ} (x : Bytes) → Tabled s t g → r ≡ newest_of (has_name s t x) g → (option_map (offset_of t) r ≡ place_of x (places_in s t g)) × (IfSome r (λ i. i < g)) × (r ≡ entry_number x (places_in s t g))
found-is {s} {t} {g = g} x w e =
    let f = newest-first s t x g w.once in
    rw e (f.place, below (newest_of (has_name s t x) g) (newest-low (has_name s t x) g), f.number)

-- ---- what is kept

pub checked-outside : {s t u : Bytes} → Outside 7168 9216 t u → Checked s → Checked s
checked-outside a c = c

pub var-outside : {s t u : Bytes} {r : ℕ} → Outside 7168 9216 t u → VarLine s r → VarLine s r
var-outside a l = l

-- ---- no entry

pub tabled-none : {s t : Bytes} {g : ℕ} → Checked s → g ≡ 0 → Tabled s t g
tabled-none {t = t} c e = record { checked = c; few = omega arith; entries = λ i h. absurd (omega arith); once = λ i h. absurd (omega arith); chained = rw e (chained-none t global_chains) }

-- ---- the table stays where all that stands up to its end is kept

module _ {t u : Bytes} (a : Kept 9216 t u) where
  u16-kept : (k : ℕ) → k + 1 < 9216 → u16_at u k ≡ u16_at t k
  unfolding u16_at
  u16-kept k h = rw (kept_at a k (omega arith), kept_at a (k + 1) h)

  pub line_kept : (i : ℕ) → i < 256 → global_line_of u i ≡ global_line_of t i
  line_kept i h = u16-kept (7168 + 8 * i) (omega arith)

  pub offset-kept : (i : ℕ) → i < 256 → offset_of u i ≡ offset_of t i
  offset-kept i h = u16-kept (7171 + 8 * i) (omega arith)

  entry_kept : (s : Bytes) (i : ℕ) → i < 256 → global_at s u i ≡ global_at s t i
  unfolding global_at global_position_of
  entry_kept s i h = rw (line_kept i h, offset-kept i h, kept_at a (7170 + 8 * i) (omega arith))

  pub places-kept : (s : Bytes) (g : ℕ) → g ≤ 256 → places_in s u g ≡ places_in s t g
  places-kept s g h = entries-same s t u 0 g (λ j l. entry_kept s j (omega arith))

  globals-same : SameBytes t u global_chains 256
  unfolding digest_place
  globals-same = record {
    digest = λ i h. kept_at a (7173 + 8 * i) (omega arith);
    link = λ i h. kept_at a (7173 + 8 * i + 1) (omega arith);
    head = λ k h. kept_at a (7173 + 8 * k + 1 + 1) (omega arith);
  }

  pub tabled-kept : {s : Bytes} {g : ℕ} → Tabled s t g → Tabled s u g
  tabled-kept {s} d = record {
    checked = d.checked;
    few = d.few;
    entries = λ i h. let x = d.entries i h in record {
      low = x.low;
      line = rw (line_kept i x.low) (x.line);
      digest = rw (globals-same.digest i x.low, entry_kept s i x.low) x.digest;
    };
    once = λ i h. let x = d.entries i h in rw (entry_kept s i x.low, places-kept s i (omega (arith, x.low))) (d.once i h);
    chained = chained-kept globals-same d.few d.chained;
  }
