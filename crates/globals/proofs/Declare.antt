-- Laws of names that get places.
use mathlib.Core.Path.{◌≡◌, refl, sym, ap, ◌∙◌, subst}
use mathlib.Core.Logic.{⊎_elim}
use mathlib.Core.Bool.{Bool, true, false}
use mathlib.Core.List.{List, [], ◌∷◌, ◌++◌}
use Rattle.std.specs.Prelude.{Option, None, Some, option_map}
use Rattle.std.specs.Option.{is_some}
use Prim.Native.Nat.{ℕ, ◌+◌, ◌-◌, ◌*◌, ◌≤◌, ◌<◌}
use native.Mathlib.Nat.{eq-or-lt_of_le}
use native.Mathlib.Numerals.{add-one}
use native.Mathlib.Omega.{arith}
use lib.ListN.{length, drop, get_or}
use lib.Seq.{get_or-drop}
use Rattle.semantics.specs.Text.{Bytes, bytes, same}
use Rattle.semantics.specs.Tree.{Ty}
use Rattle.semantics.specs.Form.{values, number_of}
use Rattle.semantics.specs.Form.Atom.{name}
use Rattle.semantics.specs.Layout.{align_up}
use Rattle.semantics.specs.Global.{Global, global_size, place_of, new_offset}
use Rattle.laws.proofs.Alignments.{global-size}
use Rattle.words.specs.Words.{digest}
use Rattle.chains.specs.Chains.{Chained}
use Rattle.lines.specs.Lines.{read_at, nodes_in}
use Rattle.checks.specs.Checks.{Outside}
use Rattle.checks.proofs.Kept.{outside-all, outside-then}
use Rattle.sizes.specs.Sizes.{type_at}
use Rattle.globals.specs.declared.Globals.{Globals}
use Rattle.globals.specs.Allocation.{Allocation, lay_name, lay_names}
use Rattle.global_table.specs.Table.{VarLine, name_on, type_on, names_on, global_chains, global_entered, global_at, offset_of, places_in, GlobalEntry, entry_number}
use Rattle.globals.specs.Collect.{allocation_in, PlacesEntered, PlacesLaid}
use Rattle.globals.proofs.Allocation.{names-next}
use Rattle.global_table.proofs.VarLine.{names-count}
use Rattle.global_table.proofs.Table.{line-new, position-new, offset-new, digest-new, line-old, digest-old, entry_old, outside-entered, places-more, places-entered, once-entered, chained-entered, checked-outside, var-outside}

-- 8 bytes each are enough
place-low : (t : Ty) (end count : ℕ) → end ≤ 8 * count → align_up (global_size t) end ≤ 8 * count
place-low t end count h = global-size (λ a. align_up a end ≤ 8 * count) (omega arith) (omega arith) t

-- ---- places as they were

pub laid_same : {s t : Bytes} {l : Allocation} {g : Globals} {m : ℕ} → PlacesEntered s t g → allocation_in s t g ≡ l → g.count ≤ m → PlacesLaid s t t l g m
laid_same st e h = record { standing = st; outside = outside-all; allocation = e; most = h }

-- the test for `nil`, of a name that was read
pub nil-test : {x y : Bytes} {b : Bool} → y ≡ x → b ≡ same y (bytes "nil") → same x (bytes "nil") ≡ b
nil-test e h = rw (← e) (sym h)

pub lay-nil : (t : Ty) (x : Bytes) (l : Allocation) → same x (bytes "nil") ≡ true → l ≡ lay_name t x l
unfolding lay_name
lay-nil t x l e = rw e

pub lay-again : (t : Ty) (x : Bytes) (l : Allocation) (f : ℕ → ℕ) (p : Option ℕ) → same x (bytes "nil") ≡ false → option_map f p ≡ place_of x l.places → is_some p ≡ true → l ≡ lay_name t x l
unfolding lay_name
lay-again t x l f None e h z = cc z
lay-again t x l f (Some i) e h z = rw (e, ← h)

pub none_of : {p : Option ℕ} → is_some p ≡ false → p ≡ None
none_of {p} h = elim p as (λ (o : Option ℕ). is_some o ≡ false → o ≡ None) [ None ↦ λ e. refl | Some i ↦ λ e. cc e ] h

-- ---- a new place

module _ (s t : Bytes) (r j : ℕ) (g : Globals) (st : PlacesEntered s t g) (l : VarLine s r) (hj : j < 16) (full : g.count < 256) (room : 62464 ≤ length t)
    (v : ℕ) (hv : type_at s v ≡ type_on s r) (size : ℕ) (hs : size ≡ global_size (type_at s v)) (off : ℕ) (ho : off ≡ align_up size g.end) (d : ℕ) (hd : d ≡ digest (name_on s r j)) (small : d < 256) where
  size_is : size ≡ global_size (type_on s r)
  size_is = hs ∙ ap global_size hv

  off-is : off ≡ new_offset (type_on s r) g.end
  off-is = ho ∙ ap (λ (a : ℕ). align_up a g.end) size_is

  off-low : off ≤ 8 * g.count
  off-low = rw off-is (place-low (type_on s r) g.end g.count st.low)

  size_low : size ≤ 8
  size_low = rw size_is (global-size (λ a. a ≤ 8) (omega arith) (omega arith) (type_on s r))

  line_low : r < 65536
  line_low = omega (arith, l.last, l.checked.whole.few)

  with_entry : Bytes
  with_entry = global_entered t g.count r j off d

  outside-new : Outside 7168 9216 t with_entry
  unfolding with_entry
  outside-new = outside-entered t g.count r j off d full

  entry_new : global_at s with_entry g.count ≡ record { name = name_on s r j; offset = new_offset (type_on s r) g.end; ty = type_on s r }
  unfolding with_entry global_at
  entry_new =
      rw (
        line-new t g.count r j off d full room line_low,
        position-new t g.count r j off d full room,
        offset-new t g.count r j off d full room (omega (arith, off-low)),
        off-is,
      )

  entries-new : (i : ℕ) → i < g.count + 1 → GlobalEntry s with_entry i
  unfolding with_entry
  entries-new i h = let w : i ≤ g.count = omega arith in ⊎_elim (λ (e : i ≡ g.count). subst (GlobalEntry s with_entry) (sym e) last) (λ (q : i < g.count). old q) (eq-or-lt_of_le w)
    where
      last : GlobalEntry s with_entry g.count
      last = record {
        low = full;
        line = rw (line-new t g.count r j off d full room line_low) (var-outside outside-new l);
        digest = digest-new t g.count r j off d full room ∙ hd ∙ ap (λ (e : Global). digest e.name) (sym entry_new);
      }

      old : i < g.count → GlobalEntry s with_entry i
      old q =
          let x = st.tabled.entries i q in
          record {
            low = x.low;
            line = rw (line-old t g.count r j off d i q) (var-outside outside-new x.line);
            digest = rw (
              digest-old t g.count r j off d i q,
              entry_old t g.count r j off d i q s,
            ) x.digest;
          }

  places-old : places_in s with_entry g.count ≡ places_in s t g.count
  unfolding with_entry
  places-old = places-entered s t g.count r j off d

  module _ (p : Option ℕ) (hn : same (name_on s r j) (bytes "nil") ≡ false) (hp : option_map (offset_of t) p ≡ place_of (name_on s r j) (places_in s t g.count)) (hq : p ≡ entry_number (name_on s r j) (places_in s t g.count)) (hz : p ≡ None) (h : Globals) (hc : h.count ≡ g.count + 1) (he : h.end ≡ off + size) where
    places-new : places_in s with_entry h.count ≡ places_in s t g.count ++ (record { name = name_on s r j; offset = new_offset (type_on s r) g.end; ty = type_on s r } ∷ [])
    places-new =
        ap (places_in s with_entry) hc ∙ places-more s with_entry g.count
        ∙ ap (λ (e : Global). places_in s with_entry g.count ++ (e ∷ [])) entry_new ∙ ap (λ (l : List Global). l ++ (record { name = name_on s r j; offset = new_offset (type_on s r) g.end; ty = type_on s r } ∷ [])) places-old

    allocation-new : allocation_in s with_entry h ≡ lay_name (type_on s r) (name_on s r j) (allocation_in s t g)
    unfolding lay_name
    allocation-new =
        let q : place_of (name_on s r j) (places_in s t g.count) ≡ None = sym hp ∙ ap (option_map (offset_of t)) hz in
        let f : h.end ≡ new_offset (type_on s r) g.end + global_size (type_on s r) = he ∙ rw (off-is, size_is) in
        rw (hn, q, places-new, f)

    -- no entry has the name yet
    once-new : (i : ℕ) → i < h.count → entry_number (global_at s with_entry i).name (places_in s with_entry i) ≡ None
    unfolding with_entry
    once-new i q =
        let z : entry_number (global_at s with_entry g.count).name (places_in s t g.count) ≡ None = ap (λ (e : Global). entry_number e.name (places_in s t g.count)) entry_new ∙ sym hq ∙ hz in
        once-entered s t g.count r j off d st.tabled.once z i (omega arith)

    chained-new : Chained with_entry global_chains h.count
    unfolding with_entry
    chained-new = rw (hc, add-one) (chained-entered t g.count r j off d full room st.tabled.chained)

    laid-new : PlacesLaid s t with_entry (lay_name (type_on s r) (name_on s r j) (allocation_in s t g)) h (g.count + 1)
    laid-new = record {
      standing = record {
        tabled = record { checked = checked-outside outside-new l.checked; few = omega arith; entries = λ i q. entries-new i (omega arith); once = once-new; chained = chained-new };
        low = omega (arith, off-low, size_low);
      };
      outside = outside-new;
      allocation = allocation-new;
      most = omega arith;
    }

    pub laid-entered : {u : Bytes} → u ≡ global_entered t g.count r j off d → PlacesLaid s t u (lay_name (type_on s r) (name_on s r j) (allocation_in s t g)) h (g.count + 1)
    unfolding with_entry
    laid-entered e = rw e laid-new

-- ---- one after the other

pub laid_then : (F : Allocation → Allocation) {s t u v : Bytes} {l : Allocation} {g h : Globals} {m : ℕ} (k : ℕ) → PlacesLaid s t u l g m → PlacesLaid s u v (F (allocation_in s u g)) h (g.count + k) → PlacesLaid s t v (F l) h (m + k)
laid_then F k a b = record { standing = b.standing; outside = outside-then a.outside b.outside; allocation = b.allocation ∙ ap F a.allocation; most = omega (arith, a.most, b.most) }

-- ---- the names of a line

-- the first j names have places
pub record Naming (s t u : Bytes) (r count : ℕ) (g h : Globals) (j : ℕ) : Type 0 where
  pub within : j ≤ count
  pub laid : PlacesLaid s t u (lay_names (type_on s r) (values name (nodes_in s) j (drop 3 (read_at s (r - 1)).fields)) (allocation_in s t g)) h (g.count + j)

module _ (s t : Bytes) (r : ℕ) (g : Globals) (count : ℕ) where
  pub naming-start : PlacesEntered s t g → Naming s t t r count g g 0
  unfolding lay_names
  naming-start st = record { within = omega arith; laid = laid_same st refl (omega arith) }

  module _ (l : VarLine s r) (hc : (count ≡ length (names_on s r)) × (count ≤ 16)) (u : Bytes) (h : Globals) (j : ℕ) (m : Naming s t u r count g h j) where
    pub naming-next : {v : Bytes} {h' : Globals} → j < count → PlacesLaid s u v (lay_name (type_on s r) (name_on s r j) (allocation_in s u h)) h' (h.count + 1) → Naming s t v r count g h' (j + 1)
    naming-next {v} {h'} k a =
        let fs = (read_at s (r - 1)).fields in
        let e : lay_names (type_on s r) (values name (nodes_in s) (j + 1) (drop 3 fs)) (allocation_in s t g) ≡ lay_name (type_on s r) (name_on s r j) (lay_names (type_on s r) (values name (nodes_in s) j (drop 3 fs)) (allocation_in s t g))
        = names-next (type_on s r) (nodes_in s) (drop 3 fs) j (allocation_in s t g) ∙ rw (get_or-drop 3 fs j []) in
        let b = laid_then (lay_name (type_on s r) (name_on s r j)) 1 m.laid a in
        record { within = omega arith; laid = record { standing = b.standing; outside = b.outside; allocation = b.allocation ∙ sym e; most = omega (arith, b.most) } }

    pub naming-end : count ≤ j → PlacesLaid s t u (lay_names (type_on s r) (names_on s r) (allocation_in s t g)) h (g.count + length (names_on s r))
    naming-end k =
        let z : j ≡ number_of (get_or (read_at s (r - 1)).fields 2 []) = omega (arith, hc.0, names-count s r, m.within) in
        record {
          standing = m.laid.standing;
          outside = m.laid.outside;
          allocation = m.laid.allocation ∙ ap (λ (x : ℕ). lay_names (type_on s r) (values name (nodes_in s) x (drop 3 (read_at s (r - 1)).fields)) (allocation_in s t g)) z;
          most = omega (arith, m.laid.most, hc.0, m.within);
        }
