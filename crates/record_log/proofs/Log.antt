-- Laws of the pass that logs the records.
use mathlib.Core.Path.{◌≡◌, refl, sym, ap, ◌∙◌, subst}
use mathlib.Core.Bool.{Bool, true, false, ◌||◌}
use mathlib.Core.List.{List, [], ◌∷◌, ◌++◌, map, append_assoc, append-nil, map-append}
use Prim.Native.Nat.{ℕ, zero, suc, ◌+◌, ◌-◌, ◌*◌, ◌/◌, ◌≤◌, ◌<◌}
use native.Mathlib.Omega.{arith}
use lib.Dec.{eqb}
use lib.ListN.{length, drop, take, get_or, get_or-map, length-map, drop_of_length-le}
use lib.Seq.{drop-cons}
use borrow.Author.Tests.{eqb-true, eqb-false}
use Rattle.semantics.specs.Text.{Bytes}
use Rattle.semantics.specs.Tree.{AdtDecl, Case, Declares, no_case}
use Rattle.semantics.specs.Form.{forms, letter}
use Rattle.semantics.specs.Sheet.{Source}
use Rattle.semantics.specs.Layout.{Recorded, records_of, recorded_adts, record_log}
use Rattle.laws.specs.Every.{Every}
use Rattle.laws.proofs.Lists.{concat-append}
use Rattle.laws.proofs.Every.{every_append, every-at}
use Rattle.write.specs.Wrote.{Wrote}
use Rattle.write.proofs.Wrote.{wrote_none, then, wrote_as}
use Rattle.form.specs.Table.{kind_at}
use Rattle.lines.specs.Lines.{lines_in, read_at, nodes_in, form_at}
use Rattle.lines.proofs.Line.{kind-is}
use Rattle.refs.proofs.Nodes.{node-count}
use Rattle.checks.specs.Checks.{Checked}
use Rattle.checks.proofs.Kept.{outside-less, wrote-outside}
use Rattle.source.specs.Walk.{declares_at, declared_to}
use Rattle.source.proofs.Walk.{located-all, located-its, declared-all, source-of}
use Rattle.shapes.specs.Shapes.{cases_in}
use Rattle.chains.proofs.Laws.{chained-none}
use Rattle.records.specs.Log.{case_in, Entry, record_of, entry_at, recorded_at, record_chains, log_of, no_record, EntryInSheet}
use Rattle.record_log.specs.Entries.{entry_bytes, tag_entries, case_entries, line_entries, entries_of, entries_to, log_bytes, CollectedTo}
use Rattle.records.specs.Lines.{case_at}
use Rattle.records.proofs.Keys.{default-same}
use Rattle.sizes.specs.Places.{decl_at, first_decl}
use Rattle.shapes.specs.Shapes.{PickLine, CaseOf}
use Rattle.record_log.proofs.Lists.{line-log, log-length, line-sound}
use Rattle.record_log.proofs.Table.{log-append, log-bytes, entry-back}
use Rattle.records.proofs.Picks.{adt-decl, pick-decl, no-decl, case-is}

-- ---- the cases of a `pick` line, one by one

-- the entries of the first c cases are written, and k tags are numbered
pub record Casing (s : Bytes) (r : ℕ) (d : Bytes) (a : ℕ) (e : Bytes) (b k c : ℕ) : Type 0 where
  pub within : c ≤ length (cases_in (decl_at s r))
  pub small : k ≤ 16 * c
  pub done : Bytes
  pub wrote : Wrote d a done e b
  pub rest : done ++ log_bytes (case_entries r c k (drop c (cases_in (decl_at s r)))) ≡ log_bytes (case_entries r 0 0 (cases_in (decl_at s r)))

module _ (s : Bytes) (r : ℕ) (d : Bytes) (a : ℕ) where
  pub casing-start : a ≤ length d + 1 → Casing s r d a d a 0 0
  casing-start h = record { within = omega arith; small = omega arith; done = []; wrote = wrote_none d a h; rest = refl }

  module _ (e : Bytes) (b k c : ℕ) (g : Casing s r d a e b k c) where
    pub casing-end : length (cases_in (decl_at s r)) ≤ c → Wrote d a (log_bytes (case_entries r 0 0 (cases_in (decl_at s r)))) e b
    unfolding log_bytes
    casing-end h = wrote_as (sym (append-nil g.done) ∙ rw (drop_of_length-le (cases_in (decl_at s r)) {i = c} h) at g.rest) g.wrote

    module _ (h : c < length (cases_in (decl_at s r))) (v : ℕ) (x : CaseOf s r c v) (m : ℕ) (hm : m ≡ length (case_at s v).tags) (few : m ≤ 16) where
      tags-are : m ≡ length (case_in (decl_at s r) c).tags
      tags-are = hm ∙ ap (λ (y : Case). length y.tags) (case-is x)

      pub casing-next : (f : Bytes) (q : ℕ) → Wrote e b (log_bytes (tag_entries r (c + 1) 0 k m)) f q → Casing s r d a f q (k + m) (c + 1)
      casing-next f q w =
          let ks = cases_in (decl_at s r) in
          let z : c + 1 ≡ suc c = omega arith in
          let p : g.done ++ log_bytes (tag_entries r (suc c) 0 k (length (case_in (decl_at s r) c).tags) ++ case_entries r (suc c) (k + length (case_in (decl_at s r) c).tags) (drop (suc c) ks)) ≡ log_bytes (case_entries r 0 0 ks) = rw (drop-cons ks c no_case h) at g.rest in
          record {
            within = omega arith;
            small = omega (arith, g.small);
            done = g.done ++ log_bytes (tag_entries r (c + 1) 0 k m);
            wrote = then g.wrote w;
            rest =
                append_assoc g.done (log_bytes (tag_entries r (c + 1) 0 k m)) (log_bytes (case_entries r (c + 1) (k + m) (drop (c + 1) ks)))
                ∙ rw (z, ← log-append (tag_entries r (suc c) 0 k m) (case_entries r (suc c) (k + m) (drop (suc c) ks)), tags-are) p;
          }

-- ---- the entries of a line

one_entry : (e : Entry) → log_bytes (e ∷ []) ≡ entry_bytes e.line e.case e.position e.number
unfolding log_bytes
one_entry e = append-nil _

module _ (s : Bytes) (c : Checked s) (r : ℕ) (first : 0 < r) (last : r ≤ lines_in s) where
  line-in : r - 1 < lines_in s
  line-in = omega arith

  same-decl : first_decl (declares_at (nodes_in s) (r - 1)).adts ≡ decl_at s r
  unfolding decl_at
  same-decl = refl

  pub adt-entries : {f : ℕ} → f ≡ form_at s (r - 1) → f ≡ 26 → entry_bytes r 0 0 0 ≡ log_bytes (entries_of s r)
  unfolding entries_of
  adt-entries e h = sym (ap (λ (ds : List AdtDecl). log_bytes (line_entries r ds)) (adt-decl s c (r - 1) line-in (sym e ∙ h)) ∙ one_entry (record { line = r; case = 0; position = 0; number = 0 }))

  pub pick-entries : {f : ℕ} → f ≡ form_at s (r - 1) → f ≡ 27 → entry_bytes r 0 0 0 ++ log_bytes (case_entries r 0 0 (cases_in (decl_at s r))) ≡ log_bytes (entries_of s r)
  unfolding entries_of log_bytes
  pick-entries e h =
      let q = pick-decl s c (r - 1) line-in (sym e ∙ h) in
      ap (λ (d : AdtDecl). entry_bytes r 0 0 0 ++ log_bytes (case_entries r 0 0 (cases_in d))) (sym same-decl ∙ ap first_decl q)
      ∙ sym (ap (λ (ds : List AdtDecl). log_bytes (line_entries r ds)) q)

  pub no-entries : {f : ℕ} → f ≡ form_at s (r - 1) → (f ≡ 26 → ⊥) → (f ≡ 27 → ⊥) → [] ≡ log_bytes (entries_of s r)
  unfolding entries_of log_bytes
  no-entries e a b = sym (ap (λ (ds : List AdtDecl). log_bytes (line_entries r ds)) (no-decl s c (r - 1) line-in (λ q. a (e ∙ q)) (λ q. b (e ∙ q))))

  pub line-pick : {f : ℕ} → f ≡ form_at s (r - 1) → f ≡ 27 → PickLine s r
  unfolding forms
  line-pick e h = record { checked = c; first = first; last = last; kind = kind-is s c.whole (r - 1) line-in ∙ ap kind_at (sym e ∙ h) }

-- ---- all lines

pub entries-start : (s t : Bytes) → 62464 ≤ length t → Wrote t 9216 (log_bytes (entries_to (nodes_in s) 0)) t 9216
unfolding entries_to log_bytes
entries-start s t room = wrote_none t 9216 (omega arith)

pub entries_next : (s d : Bytes) (r : ℕ) (e : Bytes) (b : ℕ) (f : Bytes) (q : ℕ) → Wrote d 9216 (log_bytes (entries_to (nodes_in s) r)) e b → Wrote e b (log_bytes (entries_of s (r + 1))) f q
    → Wrote d 9216 (log_bytes (entries_to (nodes_in s) (r + 1))) f q
unfolding entries_to entries_of
entries_next s d r e b f q v w =
    let z : r + 1 ≡ suc r = omega arith in
    let y : suc r - 1 ≡ r = omega arith in
    rw z (wrote_as (rw (z, y) (sym (log-append (entries_to (nodes_in s) r) (line_entries (suc r) (declares_at (nodes_in s) r).adts)))) (then v w))

module _ (s : Bytes) (c : Checked s) where
  -- by the form of line i, from 0
  by-form : (P : List AdtDecl → Type 0) (i : ℕ) → i < lines_in s
      → ((d : AdtDecl) → eqb (letter (read_at s i).form.kind) 65 || eqb (letter (read_at s i).form.kind) 66 ≡ true → P (d ∷ [])) → P [] → P (declares_at (nodes_in s) i).adts
  unfolding forms
  by-form P i h one zero-decls = go (eqb (form_at s i) 26) refl (eqb (form_at s i) 27) refl
    where
      kind : (f : ℕ) → form_at s i ≡ f → letter (read_at s i).form.kind ≡ kind_at f
      kind f e = kind-is s c.whole i h ∙ ap kind_at e

      go : (a : Bool) → eqb (form_at s i) 26 ≡ a → (b : Bool) → eqb (form_at s i) 27 ≡ b → P (declares_at (nodes_in s) i).adts
      go true p b q = let e = eqb-true (form_at s i) 26 p in subst P (sym (adt-decl s c i h e)) (one _ (rw (kind 26 e)))
      go false p true q = let e = eqb-true (form_at s i) 27 q in subst P (sym (pick-decl s c i h e)) (one _ (rw (kind 27 e)))
      go false p false q = subst P (sym (no-decl s c i h (eqb-false (form_at s i) 26 p) (eqb-false (form_at s i) 27 q))) zero-decls

  first-is : (i : ℕ) → first_decl (declares_at (nodes_in s) i).adts ≡ decl_at s (suc i)
  unfolding decl_at
  first-is i = let z : suc i - 1 ≡ i = omega arith in rw z

  lines-log : (i : ℕ) → i ≤ lines_in s → map (record_of s) (entries_to (nodes_in s) i) ≡ record_log (declared_to (λ (d : Declares). d.adts) (nodes_in s) i)
  unfolding entries_to declared_to
  lines-log zero h = refl
  lines-log (suc i) h =
      let ds = (declares_at (nodes_in s) i).adts in
      let one : take 1 ds ≡ ds = by-form (λ (l : List AdtDecl). take 1 l ≡ l) i (omega arith) (λ d k. refl) refl in
      map-append (record_of s) (entries_to (nodes_in s) i) (line_entries (suc i) ds)
      ∙ rw (lines-log i (omega arith), line-log s (suc i) ds (first-is i) one) (sym (concat-append records_of (declared_to (λ (d : Declares). d.adts) (nodes_in s) i) ds))

  lines-sound : (i : ℕ) → i ≤ lines_in s → Every (EntryInSheet s) (entries_to (nodes_in s) i)
  unfolding entries_to
  lines-sound zero h = tt
  lines-sound (suc i) h =
      let z : suc i - 1 ≡ i = omega arith in
      every_append (EntryInSheet s) (entries_to (nodes_in s) i) (line_entries (suc i) (declares_at (nodes_in s) i).adts) (lines-sound i (omega arith))
      (by-form (λ (l : List AdtDecl). first_decl l ≡ decl_at s (suc i) → Every (EntryInSheet s) (line_entries (suc i) l)) i (omega arith)
      (λ d k e. line-sound s (suc i) (omega arith) h (rw z k) (d ∷ []) e) (λ e. tt) (first-is i))

  log_is : log_of s ≡ record_log (declared_to (λ (d : Declares). d.adts) (nodes_in s) (lines_in s))
  unfolding log_of
  log_is =
      ap (λ (x : Source). record_log (recorded_adts x)) (source-of s)
      ∙ ap record_log (ap (λ (l : List _). map (λ x. x.it) l) (located-all (λ (d : Declares). d.adts) (nodes_in s)) ∙ located-its (λ (d : Declares). d.adts) (nodes_in s) (length (nodes_in s)))
      ∙ rw (node-count s c.whole)

  entries-are : map (record_of s) (entries_to (nodes_in s) (lines_in s)) ≡ log_of s
  entries-are = lines-log (lines_in s) (omega arith) ∙ sym log_is

  entries-count : length (entries_to (nodes_in s) (lines_in s)) ≡ length (log_of s)
  entries-count = sym (length-map (entries_to (nodes_in s) (lines_in s)) (record_of s)) ∙ ap length entries-are

  log-few : length (log_of s) ≤ 128
  log-few =
      let e = ap length log_is ∙ log-length (declared_to (λ (d : Declares). d.adts) (nodes_in s) (lines_in s)) in
      let q = declared-all (λ (d : Declares). d.adts) (nodes_in s) in
      omega (arith, e, rw (q, node-count s c.whole) at c.bounds.records)

no_entry : Entry
no_entry = record { line = 0; case = 0; position = 0; number = 0 }

module _ (s d : Bytes) (room : 62464 ≤ length d) (c : Checked s) (e : Bytes) (b : ℕ) (w : Wrote d 9216 (log_bytes (entries_to (nodes_in s) (lines_in s))) e b) where
  length-es : (length (entries_to (nodes_in s) (lines_in s)) ≡ length (log_of s)) × (length (log_of s) ≤ 128)
  length-es = (entries-count s c, log-few s c)

  back : (i : ℕ) → i < length (log_of s) → entry_at e i ≡ get_or (entries_to (nodes_in s) (lines_in s)) i no_entry
  back i h = entry-back (entries_to (nodes_in s) (lines_in s)) w room (omega (arith, length-es.0, length-es.1)) no_entry i (omega (arith, length-es.0))

  record-back : (i : ℕ) → i < length (log_of s) → recorded_at s e i ≡ get_or (log_of s) i no_record
  unfolding recorded_at
  record-back i h =
      rw (back i h)
      (sym (get_or-map (record_of s) (entries_to (nodes_in s) (lines_in s)) i no_entry) ∙ ap (λ (l : List Recorded). get_or l i (record_of s no_entry)) (entries-are s c)
      ∙ default-same (log_of s) i (record_of s no_entry) no_record h)

  place_is : b ≡ 9216 + 8 * length (log_of s)
  place_is = omega (arith, w.place, log-bytes (entries_to (nodes_in s) (lines_in s)), length-es.0, length-es.1)

  all-logged : (m : ℕ) → m ≡ (b - 9216) / 8 → CollectedTo s d e m 0
  all-logged m h =
      let q : m ≡ length (log_of s) = omega (arith, place_is) in
      record {
        log = record {
          checked = c;
          count = q;
          few = omega (arith, length-es.1);
          each = λ i l. record-back i (omega arith);
          digests = λ i l. absurd (omega arith);
          chained = chained-none e record_chains;
          entries = λ i l. record { checked = c; low = omega (arith, length-es.1); sound = rw (back i (omega arith)) (every-at (EntryInSheet s) (entries_to (nodes_in s) (lines_in s)) (lines-sound s c (lines_in s) (omega arith)) no_entry i (omega (arith, length-es.0))) };
        };
        outside = outside-less 9216 10240 (omega arith) (omega (arith, log-bytes (entries_to (nodes_in s) (lines_in s)), length-es.0, length-es.1)) (wrote-outside w);
      }

pub entries-end : (s d : Bytes) → 62464 ≤ length d → Checked s → (r : ℕ) → r ≤ lines_in s → lines_in s ≤ r → (e : Bytes) (b : ℕ) → Wrote d 9216 (log_bytes (entries_to (nodes_in s) r)) e b → (m : ℕ) → m ≡ (b - 9216) / 8 → CollectedTo s d e m 0
entries-end s d room c r h k e b w m q = let z : r ≡ lines_in s = omega arith in all-logged s d room c e b (rw z at w) m q
