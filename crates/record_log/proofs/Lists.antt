-- The records of the entries are the log of what is declared, and every entry is sound.
use mathlib.Core.Path.{◌≡◌, refl, sym, ap, ◌∙◌}
use mathlib.Core.Bool.{true, ◌||◌}
use mathlib.Core.List.{List, [], ◌∷◌, map, append-nil, map-append}
use Rattle.std.specs.Prelude.{Option, None, Some}
use Prim.Native.Nat.{ℕ, zero, suc, ◌+◌, ◌-◌, ◌≤◌, ◌<◌}
use native.Mathlib.Omega.{arith}
use lib.Dec.{eqb}
use lib.ListN.{length, drop, take, get_or, length-append, length-drop}
use lib.Seq.{get_or-drop, drop-drop}
use Rattle.semantics.specs.Text.{Bytes, or_else}
use Rattle.semantics.specs.Tree.{AdtDecl, Case, no_case, Fd, Shape}
use Rattle.semantics.specs.Form.{letter}
use Rattle.semantics.specs.Refusal.{sum_of, record_count}
use Rattle.semantics.specs.Layout.{PlacedField, variants_of, cases_from, records_for, records_of, record_log, variant_shape, variant_fields}
use Rattle.laws.specs.Every.{Every}
use Rattle.laws.proofs.Every.{every_append}
use Rattle.lines.specs.Lines.{lines_in, read_at}
use Rattle.sizes.specs.Places.{first_decl, decl_at}
use Rattle.shapes.specs.Shapes.{cases_in}
use Rattle.records.specs.Log.{first_record, own_record, case_in, variant_record, record_of, EntryInSheet}
use Rattle.record_log.specs.Entries.{tag_entries, case_entries, decl_entries, line_entries}

-- ---- lists

head_of : {A : Type 0} (d : A) (p : ℕ) (l : List A) (x : A) (xs : List A) → drop p l ≡ x ∷ xs → get_or l p d ≡ x
head_of d p l x xs h = let z : p + 0 ≡ p = omega arith in sym (get_or-drop p l 0 d ∙ ap (λ (j : ℕ). get_or l j d) z) ∙ ap (λ (m : List _). get_or m 0 d) h

tail_of : {A : Type 0} (p : ℕ) (l : List A) (x : A) (xs : List A) → drop p l ≡ x ∷ xs → drop (suc p) l ≡ xs
tail_of p l x xs h = let z : suc p ≡ p + 1 = omega arith in ap (λ (j : ℕ). drop j l) z ∙ sym (drop-drop 1 p l) ∙ ap (drop 1) h

longer : {A : Type 0} (p : ℕ) (l : List A) (x : A) (xs : List A) → drop p l ≡ x ∷ xs → p < length l
longer p l x xs h = omega (arith, length-drop p l, ap length h)

-- ---- the records of the entries of a line

module _ (s : Bytes) (r : ℕ) where
  tags-log : (c : ℕ) (xs : List Bytes) (p k : ℕ) → drop p (case_in (decl_at s r) c).tags ≡ xs
      → map (record_of s) (tag_entries r (suc c) p k (length xs)) ≡ variants_of (decl_at s r).name (variant_shape (decl_at s r).fields (case_in (decl_at s r) c)) (variant_fields (decl_at s r).fields (case_in (decl_at s r) c)) c k xs
  unfolding variant_record
  tags-log c [] p k h = refl
  tags-log c (x ∷ xs) p k h =
      rw (head_of [] p (case_in (decl_at s r) c).tags x xs h, tags-log c xs (suc p) (suc k) (tail_of p (case_in (decl_at s r) c).tags x xs h))

  cases-log : (ks : List Case) (c k : ℕ) → drop c (cases_in (decl_at s r)) ≡ ks → map (record_of s) (case_entries r c k ks) ≡ cases_from (decl_at s r).name (decl_at s r).fields c k ks
  cases-log [] c k h = refl
  cases-log (x ∷ xs) c k h =
      let e : case_in (decl_at s r) c ≡ x = head_of no_case c (cases_in (decl_at s r)) x xs h in
      let g = tags-log c (case_in (decl_at s r) c).tags 0 k refl in
      map-append (record_of s) (tag_entries r (suc c) 0 k (length x.tags)) (case_entries r (suc c) (k + length x.tags) xs)
      ∙ rw (rw e at g, cases-log xs (suc c) (k + length x.tags) (tail_of c (cases_in (decl_at s r)) x xs h))

  decl-log : map (record_of s) (decl_entries r (decl_at s r)) ≡ records_of (decl_at s r)
  unfolding own_record
  decl-log = go (decl_at s r).pick refl
    where
      go : (o : Option (List Case)) → (decl_at s r).pick ≡ o
          → first_record (records_for (decl_at s r).name (decl_at s r).fields o) ∷ map (record_of s) (case_entries r 0 0 (or_else [] o)) ≡ records_for (decl_at s r).name (decl_at s r).fields o
      go None q = refl
      go (Some ks) q = rw (cases-log ks 0 0 (ap (or_else []) q))

  -- a line declares one at most
  pub line-log : (ds : List AdtDecl) → first_decl ds ≡ decl_at s r → take 1 ds ≡ ds → map (record_of s) (line_entries r ds) ≡ record_log ds
  line-log [] e h = refl
  line-log (d ∷ []) e h = ap (λ (x : AdtDecl). map (record_of s) (decl_entries r x)) e ∙ decl-log ∙ ap records_of (sym e) ∙ sym (append-nil (records_of d))
  line-log (d ∷ (x ∷ ds)) e h = let z : ◌≡◌ {A = ℕ} 0 1 = cc in absurd (omega arith)

-- ---- how many

variants_length : (t : Bytes) (h : Shape) (ps : List PlacedField) (g k : ℕ) (xs : List Bytes) → length (variants_of t h ps g k xs) ≡ length xs
variants_length t h ps g k [] = refl
variants_length t h ps g k (x ∷ xs) = ap suc (variants_length t h ps g (suc k) xs)

cases-length : (t : Bytes) (fs : List Fd) (g k : ℕ) (ks : List Case) → length (cases_from t fs g k ks) ≡ sum_of (λ (x : Case). length x.tags) ks
cases-length t fs g k [] = refl
cases-length t fs g k (x ∷ xs) =
    length-append (variants_of t (variant_shape fs x) (variant_fields fs x) g k x.tags) (cases_from t fs (suc g) (k + length x.tags) xs)
    ∙ rw (variants_length t (variant_shape fs x) (variant_fields fs x) g k x.tags, cases-length t fs (suc g) (k + length x.tags) xs)

records-length : (t : Bytes) (fs : List Fd) (o : Option (List Case)) → length (records_for t fs o) ≡ record_count o
records-length t fs None = refl
records-length t fs (Some ks) = omega (arith, cases-length t fs 0 0 ks)

pub log-length : (ds : List AdtDecl) → length (record_log ds) ≡ sum_of (λ (d : AdtDecl). record_count d.pick) ds
log-length [] = refl
log-length (d ∷ ds) = length-append (records_of d) (record_log ds) ∙ rw (records-length d.name d.fields d.pick, log-length ds)

-- ---- every entry is sound

module _ (s : Bytes) (r : ℕ) (first : 0 < r) (last : r ≤ lines_in s) (kind : eqb (letter (read_at s (r - 1)).form.kind) 65 || eqb (letter (read_at s (r - 1)).form.kind) 66 ≡ true) where
  tags-sound : (c : ℕ) → c < length (cases_in (decl_at s r)) → (q p k : ℕ) → p + q ≤ length (case_in (decl_at s r) c).tags → Every (EntryInSheet s) (tag_entries r (suc c) p k q)
  tags-sound c h zero p k l = tt
  tags-sound c h (suc q) p k l =
      (record { first = first; last = last; kind = kind; case = λ x e. here x (omega (arith, e)); tag = λ x e. there x (omega (arith, e)) }, tags-sound c h q (suc p) (suc k) (omega arith))
    where
      here : (x : ℕ) → c ≡ x → x < length (cases_in (decl_at s r))
      here x e = omega arith

      there : (x : ℕ) → c ≡ x → p < length (case_in (decl_at s r) x).tags
      there x e = rw (← e) (omega arith)

  cases-sound : (ks : List Case) (c k : ℕ) → drop c (cases_in (decl_at s r)) ≡ ks → Every (EntryInSheet s) (case_entries r c k ks)
  cases-sound [] c k h = tt
  cases-sound (x ∷ xs) c k h =
      let e : case_in (decl_at s r) c ≡ x = head_of no_case c (cases_in (decl_at s r)) x xs h in
      every_append (EntryInSheet s) (tag_entries r (suc c) 0 k (length x.tags)) (case_entries r (suc c) (k + length x.tags) xs) (tags-sound c (longer c (cases_in (decl_at s r)) x xs h) (length x.tags) 0 k (rw e (omega arith))) (cases-sound xs (suc c) (k + length x.tags) (tail_of c (cases_in (decl_at s r)) x xs h))

  pub line-sound : (ds : List AdtDecl) → first_decl ds ≡ decl_at s r → Every (EntryInSheet s) (line_entries r ds)
  line-sound [] e = tt
  line-sound (d ∷ ds) e =
      (record { first = first; last = last; kind = kind; case = λ c q. absurd (omega (arith, q)); tag = λ c q. absurd (omega (arith, q)) }, cases-sound (cases_in d) 0 0 (ap cases_in (sym e)))
