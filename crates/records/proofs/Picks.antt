-- What an `adt` or `pick` line declares, and the lines of a pick's cases.
use mathlib.Core.Path.{◌≡◌, refl, sym, ap, ◌∙◌}
use mathlib.Core.Bool.{Bool, true, false}
use mathlib.Core.List.{List, [], ◌∷◌}
use Rattle.std.specs.Prelude.{None, Some}
use mathlib.Core.Logic.{◌⊎◌, inl, inr, ⊎_elim}
use Prim.Native.Nat.{ℕ, zero, suc, ◌+◌, ◌-◌, ◌≤◌, ◌<◌}
use native.Mathlib.Omega.{arith}
use lib.Dec.{eqb}
use lib.ListN.{length, drop, get_or}
use lib.Seq.{get_or-drop, drop-drop}
use borrow.Author.Tests.{eqb-true, ne_eqb}
use Rattle.semantics.specs.Text.{is_name}
use Rattle.semantics.specs.Tree.{AdtDecl, Case, Node, Declares, no_case}
use Rattle.semantics.specs.Form.{Part, letter, forms, values, number_of, fits, fds_of, cases_of}
use Rattle.semantics.specs.Form.Kind.{k_fd, k_pc}
use Rattle.semantics.specs.Form.Atom.{name, ref}
use Rattle.semantics.specs.Form.Part.{one}
use Rattle.decimal.specs.Number as Number
use Rattle.form.specs.Table.{kind_at, row_node}
use Rattle.semantics.proofs.Common.{never, both}
use Rattle.lines.specs.Lines.{lines_in, read_at, nodes_in, form_at}
use Rattle.lines.proofs.Line.{form-low, kind-is, read_fits}
use Rattle.refs.proofs.Nodes.{node-at}
use Rattle.refs.proofs.Fields.{count-exact, head-drop, tail-drop, values_length}
use Rattle.checks.specs.Checks.{Checked}
use Rattle.source.specs.Walk.{declares_at, by_kind}
use Rattle.source.proofs.Declares.{line-declares}
use Rattle.sizes.specs.Places.{RecordLine, CaseLine, decl_at, first_decl}
use Rattle.sizes.proofs.Forms.{adt-form, pick-form}
use Rattle.sizes.proofs.Places.{case-in, form-pc, case-good}
use Rattle.shapes.specs.Shapes.{cases_in}
use Rattle.records.specs.Log.{case_in}
use Rattle.records.specs.Lines.{case_at}
use Rattle.shapes.specs.Shapes.{cases_at, PickLine, VariantLine, CaseOf}

-- ---- what line i declares, from 0

module _ (s : List ℕ) (c : Checked s) (i : ℕ) (h : i < lines_in s) where
  adts-row : (f : ℕ) → form_at s i ≡ f → (declares_at (nodes_in s) i).adts ≡ (row_node (nodes_in s) f (read_at s i).fields).declares.adts
  adts-row f e =
      ap (λ (m : Node). m.declares.adts) (node-at s c.whole c.good i h)
      ∙ ap (λ (g : ℕ). (row_node (nodes_in s) g (read_at s i).fields).declares.adts) e

  pub adt-decl : form_at s i ≡ 26
      → (declares_at (nodes_in s) i).adts ≡ record { name = get_or (read_at s i).fields 0 []; fields = fds_of (values (ref k_fd) (nodes_in s) (number_of (get_or (read_at s i).fields 1 [])) (drop 2 (read_at s i).fields)); pick = None } ∷ []
  unfolding forms
  adt-decl e =
      adts-row 26 e
      ∙ rw (head-drop 0 (read_at s i).fields, tail-drop 0 (read_at s i).fields, head-drop 1 (read_at s i).fields, tail-drop 1 (read_at s i).fields)

  pub pick-decl : form_at s i ≡ 27
      → (declares_at (nodes_in s) i).adts ≡ record {
        name = get_or (read_at s i).fields 0 [];
        fields = fds_of (values (ref k_fd) (nodes_in s) (number_of (get_or (read_at s i).fields 1 [])) (drop 2 (read_at s i).fields));
        pick = Some (cases_of (values (ref k_pc) (nodes_in s) (number_of (get_or (read_at s i).fields (2 + number_of (get_or (read_at s i).fields 1 [])) [])) (drop (3 + number_of (get_or (read_at s i).fields 1 [])) (read_at s i).fields)));
      } ∷ []
  unfolding forms
  pick-decl e =
      let fs = (read_at s i).fields in
      let a = number_of (get_or fs 1 []) in
      let x : 1 + suc a ≡ 2 + a = omega arith in
      let y : suc (2 + a) ≡ 3 + a = omega arith in
      adts-row 27 e
      ∙ rw (head-drop 0 fs, tail-drop 0 fs, head-drop 1 fs, tail-drop 1 fs, drop-drop (suc a) 1 fs, x, head-drop (2 + a) fs, tail-drop (2 + a) fs, y)

  pub no-decl : (form_at s i ≡ 26 → ⊥) → (form_at s i ≡ 27 → ⊥) → (declares_at (nodes_in s) i).adts ≡ []
  unfolding by_kind
  no-decl a b =
      let k = kind-is s c.whole i h in
      let p : letter (read_at s i).form.kind ≡ 65 → ⊥ = λ e. a (adt-form (form_at s i) (form-low s c.whole i h) (sym k ∙ e)) in
      let q : letter (read_at s i).form.kind ≡ 66 → ⊥ = λ e. b (pick-form (form_at s i) (form-low s c.whole i h) (sym k ∙ e)) in
      ap (λ (d : Declares). d.adts) (line-declares s c i h) ∙ rw (ne_eqb _ _ p, ne_eqb _ _ q)

-- ---- groups of fields

pub names_at : (ns : List Node) (m : ℕ) (fs : List (List ℕ)) (p : ℕ) → p < m → get_or (values name ns m fs) p [] ≡ get_or fs p []
names_at ns zero fs p h = absurd (omega arith)
names_at ns (suc m) fs zero h = head-drop 0 fs
names_at ns (suc m) [] (suc p) h = names_at ns m [] p (omega arith)
names_at ns (suc m) (f ∷ fs) (suc p) h = names_at ns m fs p (omega arith)

name-first : (ps : List Part) (fs : List (List ℕ)) → fits (one name ∷ ps) fs ≡ true → is_name (get_or fs 0 []) ≡ true
name-first ps [] h = never h
name-first ps (f ∷ fs) h = (both (is_name f) (fits ps fs) h).0

-- ---- the name of a record

module _ (s : List ℕ) (r : ℕ) (l : RecordLine s r) where
  pub record-in : r - 1 < lines_in s
  record-in = omega (arith, l.first, l.last)

  same-kind : kind_at (form_at s (r - 1)) ≡ letter (read_at s (r - 1)).form.kind
  same-kind = sym (kind-is s l.checked.whole (r - 1) record-in)

  -- an `adt` line or a `pick` line
  pub record-form : (form_at s (r - 1) ≡ 26) ⊎ (form_at s (r - 1) ≡ 27)
  record-form = go (eqb (letter (read_at s (r - 1)).form.kind) 65) refl
    where
      go : (b : Bool) → eqb (letter (read_at s (r - 1)).form.kind) 65 ≡ b → (form_at s (r - 1) ≡ 26) ⊎ (form_at s (r - 1) ≡ 27)
      go true q = inl (adt-form (form_at s (r - 1)) (form-low s l.checked.whole (r - 1) record-in) (same-kind ∙ eqb-true _ _ q))
      go false q =
          let k : eqb (letter (read_at s (r - 1)).form.kind) 66 ≡ true = rw q at l.kind in
          inr (pick-form (form_at s (r - 1)) (form-low s l.checked.whole (r - 1) record-in) (same-kind ∙ eqb-true _ _ k))

  pub name-is : (decl_at s r).name ≡ get_or (read_at s (r - 1)).fields 0 []
  unfolding decl_at
  name-is = ⊎_elim
      (λ (e : form_at s (r - 1) ≡ 26). ap (λ (ds : List AdtDecl). (first_decl ds).name) (adt-decl s l.checked (r - 1) record-in e))
      (λ (e : form_at s (r - 1) ≡ 27). ap (λ (ds : List AdtDecl). (first_decl ds).name) (pick-decl s l.checked (r - 1) record-in e))
      record-form

  pub name-good : is_name (decl_at s r).name ≡ true
  unfolding forms
  name-good = rw name-is (⊎_elim
      (λ (e : form_at s (r - 1) ≡ 26). name-first _ (read_at s (r - 1)).fields (rw e at (read_fits s l.checked.whole (r - 1) record-in)))
      (λ (e : form_at s (r - 1) ≡ 27). name-first _ (read_at s (r - 1)).fields (rw e at (read_fits s l.checked.whole (r - 1) record-in)))
      record-form)

  -- a line with cases is a `pick` line
  pub pick-line : {c : ℕ} → c < length (cases_in (decl_at s r)) → PickLine s r
  unfolding decl_at forms
  pick-line {c} h = ⊎_elim
      (λ (e : form_at s (r - 1) ≡ 26).
      let z : cases_in (decl_at s r) ≡ [] = ap (λ (ds : List AdtDecl). cases_in (first_decl ds)) (adt-decl s l.checked (r - 1) record-in e) in
      absurd (omega (arith, ap length z)))
      (λ (e : form_at s (r - 1) ≡ 27). record { checked = l.checked; first = l.first; last = l.last; kind = sym same-kind ∙ ap kind_at e })
      record-form

-- ---- the cases of a `pick` line

same_cases : (s : List ℕ) (r : ℕ) → cases_at s r ≡ cases_in (decl_at s r)
unfolding cases_at
same_cases s r = refl

pub cases-count : (s : List ℕ) (r : ℕ) {k : ℕ} → k ≡ length (cases_at s r) → k ≡ length (cases_in (decl_at s r))
cases-count s r e = e ∙ ap length (same_cases s r)

pub variant-line : {s : List ℕ} {r c : ℕ} → PickLine s r → c < length (cases_in (decl_at s r)) → VariantLine s r c
variant-line {s} {r} l h = record { line = l; case = rw (same_cases s r) h }

pub case-is : {s : List ℕ} {r c v : ℕ} → CaseOf s r c v → case_at s v ≡ case_in (decl_at s r) c
unfolding case_at
case-is {s} {r} {c} x = x.case ∙ ap (λ (ks : List Case). get_or ks c no_case) (same_cases s r)

-- ---- the tags of a case

module _ (s : List ℕ) (v : ℕ) (l : CaseLine s v) where
  tags-are : (case_at s v).tags ≡ values name (nodes_in s) (number_of (get_or (read_at s (v - 1)).fields 0 [])) (drop 1 (read_at s (v - 1)).fields)
  unfolding forms case_at
  tags-are =
      ap (λ (m : Node). m.case.tags) (node-at s l.checked.whole l.checked.good (v - 1) (case-in s v l))
      ∙ rw (form-pc s v l, head-drop 0 (read_at s (v - 1)).fields, tail-drop 0 (read_at s (v - 1)).fields)

  tags-number : length (case_at s v).tags ≡ number_of (get_or (read_at s (v - 1)).fields 0 [])
  tags-number = ap length tags-are ∙ values_length name (nodes_in s) _ _

  pub tags-count : (k : ℕ) → k ≡ Number.number_up_to 65536 (get_or (read_at s (v - 1)).fields 0 []) → (k ≡ length (case_at s v).tags) × (k ≤ 16)
  tags-count k h =
      let q = count-exact (get_or (read_at s (v - 1)).fields 0 []) (case-good s v l).0 h in
      (omega (arith, q.0, tags-number), q.1)

  pub tags-few : length (case_at s v).tags ≤ 16
  tags-few = let q = tags-count (Number.number_up_to 65536 (get_or (read_at s (v - 1)).fields 0 [])) refl in omega (arith, q.0, q.1)

  pub tag_is : (p : ℕ) → p < length (case_at s v).tags → get_or (case_at s v).tags p [] ≡ get_or (read_at s (v - 1)).fields (1 + p) []
  tag_is p h =
      ap (λ (xs : List (List ℕ)). get_or xs p []) tags-are ∙ names_at (nodes_in s) (number_of (get_or (read_at s (v - 1)).fields 0 [])) (drop 1 (read_at s (v - 1)).fields) p (omega (arith, tags-number))
      ∙ get_or-drop 1 (read_at s (v - 1)).fields p []
