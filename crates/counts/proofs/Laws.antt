-- Laws of counts: what a line's node declares is what its kind and its fields say.
use mathlib.Core.Path.{◌≡◌, refl, sym, ap, ◌∙◌}
use mathlib.Core.Bool.{Bool, true, false, cond, not, ◌&&◌, ◌||◌, and-false}
use mathlib.Core.List.{List, [], ◌∷◌, ◌++◌}
use Prim.Native.Nat.{ℕ, zero, suc, ◌+◌, ◌-◌, ◌*◌, ◌≤◌, ◌<◌, min}
use native.Mathlib.Omega.{arith}
use native.Mathlib.Numerals.{add-one}
use lib.Dec.{ltb, eqb}
use lib.ListN.{length, drop, get_or, drop_of_length-le}
use lib.Seq.{drop-cons}
use borrow.Author.Tests.{eq-eqb, ne_eqb, ltb-false, eqb-true, eqb-false}
use Rattle.semantics.specs.Text.{head_part, tail_parts}
use Rattle.semantics.specs.Tree.{Node, no_node}
use Rattle.semantics.specs.Form as Form
use Rattle.semantics.specs.Form.{Read, letter, forms, values, number_of, node_at, fits, holds, is_count, ones}
use Rattle.semantics.specs.Form.Kind.{k_fd, k_pc}
use Rattle.semantics.specs.Form.Atom.{ref}
use Rattle.semantics.specs.Form.Part.{one, many}
use Rattle.semantics.specs.Refusal.{Ref, Counts, no_counts, line_at, refs_in, refs_of, counted, over_limits, bad_ref_from, too_many_from}
use Rattle.decimal.specs.Number as Number
use Rattle.form.specs.declared.Walk.{Walk}
use Rattle.form.specs.Table.{row_at, row_node}
use Rattle.form.specs.Letters.{letters_from, fields_left, beginning, WalkAt, WalkStepped}
use Rattle.semantics.proofs.Common.{never, both}
use Rattle.form.proofs.Table.{row-count, Only, only-pc, only-pick, only-var, form-of-kind, each_at}
use Rattle.lines.specs.Lines.{lines_in, text_at, reads_in, read_at, nodes_in, form_at, Whole}
use Rattle.lines.proofs.Line.{line-short, form-low, form-is, kind-is, read_fits}
use Rattle.refs.specs.Refs as Refs
use Rattle.refs.specs.Refs.{is_ref, wanted_by, fine_ref, fine_refs}
use Rattle.refs.proofs.Letters.{as_ref, refs_left, ref-number, refs-begin, stands, refs-step, refs_end}
use Rattle.refs.proofs.Fine.{needed-ref, refs-fine}
use Rattle.refs.proofs.Nodes.{node-count, node-at}
use Rattle.refs.proofs.Fields.{count-exact, first_count, third-count, head-drop, tail-drop, values_length}
use Rattle.counts.specs.Counts.{field_number, one_of, tags_in, records_on, var_names, added}
use Rattle.counts.proofs.Forms.{from_cases, case_tags, CountsAs, all-count}

-- ---- the lines of a sheet by their kinds

module _ (s : List ℕ) (w : Whole s) where
  form-for : {k f : ℕ} → Only k f → (i : ℕ) → i < lines_in s → letter (read_at s i).form.kind ≡ k → form_at s i ≡ f
  form-for o i h e = form-of-kind o (form_at s i) (form-low s w i h) (sym (kind-is s w i h) ∙ e)

  pub tags-exact : (i : ℕ) → i < lines_in s → letter (read_at s i).form.kind ≡ 67 → Number.number_up_to 65536 (get_or (read_at s i).fields 0 []) ≡ field_number (read_at s i) 0
  unfolding forms
  tags-exact i h e =
      let f : form_at s i ≡ 25 = form-for only-pc i h e in
      (count-exact (get_or (read_at s i).fields 0 []) (first_count Form.Atom.name (many (ref k_fd) ∷ []) (read_at s i).fields (rw f at (read_fits s w i h))) refl).0

  pub names-exact : (i : ℕ) → i < lines_in s → letter (read_at s i).form.kind ≡ 72 → Number.number_up_to 65536 (get_or (read_at s i).fields 2 []) ≡ field_number (read_at s i) 2
  unfolding forms
  names-exact i h e =
      let f : form_at s i ≡ 29 = form-for only-var i h e in
      (count-exact (get_or (read_at s i).fields 2 []) (third-count _ _ Form.Atom.name [] (read_at s i).fields (rw f at (read_fits s w i h))) refl).0

  module _ (good : bad_ref_from (reads_in s) 1 [] (reads_in s) ≡ 0) where
    -- the tags of a `pc` line
    case-node : (j : ℕ) → j < lines_in s → letter (read_at s j).form.kind ≡ 67 → length (get_or (nodes_in s) j no_node).case.tags ≡ field_number (read_at s j) 0
    unfolding forms
    case-node j h e =
        let f : form_at s j ≡ 25 = form-for only-pc j h e in
        ap (λ (m : Node). length m.case.tags) (node-at s w good j h)
        ∙ ap (λ (g : ℕ). length (row_node (nodes_in s) g (read_at s j).fields).case.tags) f
        ∙ values_length Form.Atom.name (nodes_in s) _ _ ∙ ap number_of (head-drop 0 (read_at s j).fields)

    module _ (i : ℕ) (hi : i < lines_in s) where
      case-tags : (m : ℕ) → fine_ref (reads_in s) (i + 1) (record { kind = 67; optional = false; line = m }) ≡ true → field_number (line_at (reads_in s) m) 0 ≡ length (node_at (nodes_in s) m).case.tags
      case-tags m h = let k = needed-ref (reads_in s) (i + 1) 67 m h in sym (case-node (m - 1) (omega (arith, k.0, k.1)) k.2)

      -- fields that are no cases hold no tags
      tags-skip : (m : ℕ) (fs : List (List ℕ)) (ps : List Form.Part) → fits (ones m (ref k_fd) ++ ps) fs ≡ true → fine_refs (reads_in s) i (refs_in (ones m (ref k_fd) ++ ps) fs) ≡ true
          → (tags_in (reads_in s) (refs_in (ones m (ref k_fd) ++ ps) fs) ≡ tags_in (reads_in s) (refs_in ps (drop m fs))) × (fits ps (drop m fs) ≡ true) × (fine_refs (reads_in s) i (refs_in ps (drop m fs)) ≡ true)
      unfolding fine_refs
      tags-skip zero fs ps h k = (refl, h, k)
      tags-skip (suc m) [] ps h k = never h
      tags-skip (suc m) (f ∷ fs) ps h k =
          let r : Ref = record { kind = 70; optional = false; line = number_of f } in
          let q = tags-skip m fs ps (both (holds (ref k_fd) f) (fits (ones m (ref k_fd) ++ ps) fs) h).1 (both (fine_ref (reads_in s) (i + 1) r) (fine_refs (reads_in s) i (refs_in (ones m (ref k_fd) ++ ps) fs)) k).1 in
          (none_more _ ∙ q.0, q.1, q.2)
        where
          none_more : (x : ℕ) → 0 + x ≡ x
          none_more x = omega arith

      tags-cases : (m : ℕ) (fs : List (List ℕ)) → fits (ones m (ref k_pc) ++ []) fs ≡ true → fine_refs (reads_in s) i (refs_in (ones m (ref k_pc) ++ []) fs) ≡ true
          → tags_in (reads_in s) (refs_in (ones m (ref k_pc) ++ []) fs) ≡ case_tags (nodes_in s) m fs
      unfolding fine_refs
      tags-cases zero [] h k = refl
      tags-cases zero (f ∷ fs) h k = refl
      tags-cases (suc m) [] h k = never h
      tags-cases (suc m) (f ∷ fs) h k =
          let r : Ref = record { kind = 67; optional = false; line = number_of f } in
          let w = both (fine_ref (reads_in s) (i + 1) r) (fine_refs (reads_in s) i (refs_in (ones m (ref k_pc) ++ []) fs)) k in
          rw (case-tags (number_of f) w.0, tags-cases m fs (both (holds (ref k_pc) f) (fits (ones m (ref k_pc) ++ []) fs) h).1 w.1)

      pick_parts : List Form.Part
      pick_parts = one Form.Atom.name ∷ (many (ref k_fd) ∷ (many (ref k_pc) ∷ []))

      cases_last : (gs : List (List ℕ)) → fits (many (ref k_pc) ∷ []) gs ≡ true → fine_refs (reads_in s) i (refs_in (many (ref k_pc) ∷ []) gs) ≡ true
          → tags_in (reads_in s) (refs_in (many (ref k_pc) ∷ []) gs) ≡ case_tags (nodes_in s) (number_of (head_part gs)) (tail_parts gs)
      cases_last [] h k = never h
      cases_last (c ∷ gs) h k = tags-cases (number_of c) gs (both (is_count c) (fits (ones (number_of c) (ref k_pc) ++ []) gs) h).1 k

      pick-fields : (fs : List (List ℕ)) → fits pick_parts fs ≡ true → fine_refs (reads_in s) i (refs_in pick_parts fs) ≡ true
          → tags_in (reads_in s) (refs_in pick_parts fs) ≡ case_tags (nodes_in s) (number_of (head_part (from_cases fs))) (tail_parts (from_cases fs))
      unfolding pick_parts
      pick-fields [] h k = never h
      pick-fields (a ∷ []) h k = never (both (holds Form.Atom.name a) false h).1
      pick-fields (a ∷ (b ∷ fs)) h k =
          let m = number_of b in
          let g = both (is_count b) (fits (ones m (ref k_fd) ++ (many (ref k_pc) ∷ [])) fs) (both (holds Form.Atom.name a) (fits (many (ref k_fd) ∷ (many (ref k_pc) ∷ [])) (b ∷ fs)) h).1 in
          let q = tags-skip m fs (many (ref k_pc) ∷ []) g.1 k in
          q.0 ∙ cases_last (drop m fs) q.1 q.2

      pick-tags : letter (read_at s i).form.kind ≡ 66 → tags_in (reads_in s) (refs_of (read_at s i)) ≡ case_tags (nodes_in s) (number_of (head_part (from_cases (read_at s i).fields))) (tail_parts (from_cases (read_at s i).fields))
      unfolding forms pick_parts
      pick-tags e =
          let f : form_at s i ≡ 27 = form-for only-pick i hi e in
          let p : (read_at s i).form.parts ≡ pick_parts = ap (λ (r : Form.Row). r.parts) (form-is s w i hi) ∙ ap (λ (g : ℕ). (row_at g).parts) f in
          ap (λ (ps : List Form.Part). tags_in (reads_in s) (refs_in ps (read_at s i).fields)) p
          ∙ pick-fields (read_at s i).fields (rw f at (read_fits s w i hi)) (rw p at (refs-fine s w good i hi))

      records-are : cond (eqb (letter (read_at s i).form.kind) 65) 1 (cond (eqb (letter (read_at s i).form.kind) 66) (1 + case_tags (nodes_in s) (number_of (head_part (from_cases (read_at s i).fields))) (tail_parts (from_cases (read_at s i).fields)) + 0) 0) ≡ records_on (reads_in s) (read_at s i)
      unfolding records_on
      records-are = go (eqb (letter (read_at s i).form.kind) 66) refl
        where
          go : (b : Bool) → eqb (letter (read_at s i).form.kind) 66 ≡ b
              → cond (eqb (letter (read_at s i).form.kind) 65) 1 (cond (eqb (letter (read_at s i).form.kind) 66) (1 + case_tags (nodes_in s) (number_of (head_part (from_cases (read_at s i).fields))) (tail_parts (from_cases (read_at s i).fields)) + 0) 0)
              ≡ cond (eqb (letter (read_at s i).form.kind) 65) 1 (cond (eqb (letter (read_at s i).form.kind) 66) (1 + tags_in (reads_in s) (refs_of (read_at s i))) 0)
          go true q = let e = pick-tags (eqb-true (letter (read_at s i).form.kind) 66 q) in let z : 1 + case_tags (nodes_in s) (number_of (head_part (from_cases (read_at s i).fields))) (tail_parts (from_cases (read_at s i).fields)) + 0 ≡ 1 + tags_in (reads_in s) (refs_of (read_at s i)) = omega (arith, e) in rw z
          go false q = rw q

      names-are : cond (eqb (letter (read_at s i).form.kind) 72) (length (values Form.Atom.name (nodes_in s) (number_of (head_part (tail_parts (tail_parts (read_at s i).fields)))) (tail_parts (tail_parts (tail_parts (read_at s i).fields)))) + 0) 0 ≡ var_names (read_at s i)
      unfolding var_names
      names-are = rw (values_length, tail-drop 0 (read_at s i).fields, tail-drop 1 (read_at s i).fields, head-drop 2 (read_at s i).fields) (ap (λ (x : ℕ). cond (eqb (letter (read_at s i).form.kind) 72) x 0) (none_more (field_number (read_at s i) 2)))
        where
          none_more : (x : ℕ) → x + 0 ≡ x
          none_more x = omega arith

      -- what line i adds to the counts
      pub line-adds : (c : Counts) → counted (get_or (nodes_in s) i no_node).declares c ≡ added (reads_in s) (read_at s i) c
      unfolding added
      line-adds c =
          ap (λ (m : Node). counted m.declares c) (node-at s w good i hi)
          ∙ each_at CountsAs forms all-count (form_at s i) (omega (arith, row-count, form-low s w i hi)) (nodes_in s) (read_at s i).fields c
          ∙ rw (← kind-is s w i hi, records-are, names-are)

-- ---- the walk over the fields of a line

-- d are the tags of the cases to which the fields up to w refer
pub record TagsCounted (s : List ℕ) (i f : ℕ) (l : List ℕ) (w : Walk) (d : ℕ) : Type 0 where
  pub standing : WalkAt f l w
  pub fine : fine_refs (reads_in s) i (Refs.refs_by (letters_from f w) (fields_left l w)) ≡ true
  pub same : tags_in (reads_in s) (refs_of (read_at s i)) ≡ d + tags_in (reads_in s) (Refs.refs_by (letters_from f w) (fields_left l w))
  pub small : d ≤ 65537 * min w.at 256

pub tags-start : (s : List ℕ) (i : ℕ) → Whole s → bad_ref_from (reads_in s) 1 [] (reads_in s) ≡ 0 → i < lines_in s → (l : List ℕ) (f : ℕ) → l ≡ text_at s i → f ≡ form_at s i → (w : Walk) → w ≡ beginning f → TagsCounted s i f l w 0
tags-start s i w good h l f hl hf u hu =
    let e = refs-begin s i w h l f hl hf in
    rw hu (record {
      standing = stands s i w h l f hl hf;
      fine = rw e at (refs-fine s w good i h);
      same = ap (tags_in (reads_in s)) e ∙ omega arith;
      small = omega arith;
    })

tags-case : (ls : List Read) (f : List ℕ) (rs : List Ref) → tags_in ls (Refs.ref_by 67 f rs) ≡ field_number (line_at ls (number_of f)) 0 + tags_in ls rs
unfolding Refs.ref_by
tags-case ls f rs = refl

no-case : (x : ℕ) → (x ≡ 67 → ⊥) → eqb (wanted_by x) 67 && not (ltb x 64) ≡ false
no-case x n = go (ltb x 64) refl
  where
    go : (b : Bool) → ltb x 64 ≡ b → eqb (wanted_by x) 67 && not (ltb x 64) ≡ false
    go true q = rw q (and-false (eqb (x + 32) 67))
    go false q = rw (q, ne_eqb x 67 n)

tags-other : (ls : List Read) (x : ℕ) (f : List ℕ) (rs : List Ref) → (x ≡ 67 → ⊥) → tags_in ls (Refs.ref_by x f rs) ≡ 0 + tags_in ls rs
unfolding Refs.ref_by
tags-other ls x f rs n = go (is_ref x) refl
  where
    go : (b : Bool) → is_ref x ≡ b → tags_in ls (cond (is_ref x) (record { kind = wanted_by x; optional = ltb x 64; line = number_of f } ∷ rs) rs) ≡ 0 + tags_in ls rs
    go true e = rw (e, no-case x n)
    go false e = rw e (omega arith)

module _ (s : List ℕ) (n i : ℕ) (few : n ≤ 1024) (hi : i < n) (f : ℕ) (l : List ℕ) (w u : Walk) (x v d : ℕ) (q : WalkStepped f l w x v u) (g : TagsCounted s i f l w d) where
  fine-here : fine_refs (reads_in s) i (Refs.ref_by x q.field (refs_left f l u)) ≡ true
  unfolding refs_left
  fine-here = rw (refs-step f l w u x v q) at g.fine

  module _ (e : is_ref x ≡ true) where
    fine-both : (fine_ref (reads_in s) (i + 1) (as_ref x q.field) ≡ true) × (fine_refs (reads_in s) i (refs_left f l u) ≡ true)
    unfolding as_ref Refs.ref_by fine_refs
    fine-both = both (fine_ref (reads_in s) (i + 1) (as_ref x q.field)) (fine_refs (reads_in s) i (refs_left f l u)) (rw e at fine-here)

  fine-rest : fine_refs (reads_in s) i (refs_left f l u) ≡ true
  unfolding Refs.ref_by
  fine-rest = go (is_ref x) refl
    where
      go : (b : Bool) → is_ref x ≡ b → fine_refs (reads_in s) i (refs_left f l u) ≡ true
      go true e = (fine-both e).1
      go false e = rw e at fine-here

  module _ (e : x ≡ 67) where
    is-ref : is_ref x ≡ true
    is-ref = rw e

    case-ref : (number_of q.field ≡ 0 → ⊥) × (number_of q.field < i + 1) × (letter (line_at (reads_in s) (number_of q.field)).form.kind ≡ 67)
    unfolding as_ref
    case-ref = needed-ref (reads_in s) (i + 1) 67 (number_of q.field) (rw e at (fine-both is-ref).0)

    number_is : v ≡ number_of q.field
    number_is =
        let k = case-ref in
        let m : v ≡ min (number_of q.field) 65536 = q.number ∙ ref-number x q.field is-ref q.good in
        omega (arith, k.1)

    pub tags-line : (0 < v) × (v ≤ n) × (letter (read_at s (v - 1)).form.kind ≡ 67)
    tags-line = let k = case-ref in (omega (arith, number_is, k.0), omega (arith, number_is, k.1), rw number_is k.2)

  -- the tags of this field
  tags-here : tags_in (reads_in s) (Refs.ref_by x q.field (refs_left f l u)) ≡ cond (eqb x 67) (field_number (read_at s (v - 1)) 0) 0 + tags_in (reads_in s) (refs_left f l u)
  tags-here = go (eqb x 67) refl
    where
      go : (b : Bool) → eqb x 67 ≡ b → tags_in (reads_in s) (Refs.ref_by x q.field (refs_left f l u)) ≡ cond (eqb x 67) (field_number (read_at s (v - 1)) 0) 0 + tags_in (reads_in s) (refs_left f l u)
      go true p =
          let e = eqb-true x 67 p in
          ap (λ (y : ℕ). tags_in (reads_in s) (Refs.ref_by y q.field (refs_left f l u))) e ∙ tags-case (reads_in s) q.field (refs_left f l u)
          ∙ ap (λ (m : ℕ). field_number (line_at (reads_in s) m) 0 + tags_in (reads_in s) (refs_left f l u)) (sym (number_is e))
          ∙ ap (λ (b : Bool). cond b (field_number (read_at s (v - 1)) 0) 0 + tags_in (reads_in s) (refs_left f l u)) (sym p)
      go false p = tags-other (reads_in s) x q.field (refs_left f l u) (eqb-false x 67 p) ∙ rw p

  pub tags-on : (r k : ℕ) → w.at ≤ 255 → r ≤ 65537 → r ≡ cond (eqb x 67) (field_number (read_at s (v - 1)) 0) 0 → k ≡ d + r → TagsCounted s i f l u k
  unfolding refs_left
  tags-on r k short low hr hk = record {
    standing = q.standing;
    fine = fine-rest;
    same = g.same ∙ rw (refs-step f l w u x v q, tags-here, ← hr) (omega (arith, hk));
    small = omega (arith, g.small, q.further, hk);
  }

pub tags-end : (s : List ℕ) (i f : ℕ) (l : List ℕ) (w : Walk) (d : ℕ) → length l < w.at → TagsCounted s i f l w d → (d ≡ tags_in (reads_in s) (refs_of (read_at s i))) × (d ≤ 16777472)
tags-end s i f l w d h g = (sym (g.same ∙ rw (refs_end f l w h) (omega arith)), omega (arith, g.small))

pub length-line : (s : List ℕ) (i : ℕ) → Whole s → i < lines_in s → (l : List ℕ) → l ≡ text_at s i → length l ≤ 255
length-line s i w h l e = rw e (line-short (i + 1) (text_at s i) (w.good i h))

-- ---- what the readers of a line answer, by its kind

module _ (s : List ℕ) (i k : ℕ) (hk : k ≡ letter (read_at s i).form.kind) where
  pub records-adt : k ≡ 65 → 1 ≡ records_on (reads_in s) (read_at s i)
  unfolding records_on
  records-adt e = rw (← hk, eq-eqb k 65 e)

  pub records-pick : {d : ℕ} → (k ≡ 65 → ⊥) → k ≡ 66 → d ≡ tags_in (reads_in s) (refs_of (read_at s i)) → 1 + d ≡ records_on (reads_in s) (read_at s i)
  unfolding records_on
  records-pick n e h = rw (← hk, ne_eqb k 65 n, eq-eqb k 66 e, h)

  pub records-none : (k ≡ 65 → ⊥) → (k ≡ 66 → ⊥) → 0 ≡ records_on (reads_in s) (read_at s i)
  unfolding records_on
  records-none n m = rw (← hk, ne_eqb k 65 n, ne_eqb k 66 m)

  pub names-var : {r : ℕ} → k ≡ 72 → r ≡ field_number (read_at s i) 2 → r ≡ var_names (read_at s i)
  unfolding var_names
  names-var e h = rw (← hk, eq-eqb k 72 e, h)

  pub names-none : (k ≡ 72 → ⊥) → 0 ≡ var_names (read_at s i)
  unfolding var_names
  names-none n = rw (← hk, ne_eqb k 72 n)

  -- the counts with those of the line
  pub counts-are : (c : Counts) (a b e r v : ℕ) → a ≡ one_of k 68 → b ≡ one_of k 78 → e ≡ one_of k 71 → r ≡ records_on (reads_in s) (read_at s i) → v ≡ var_names (read_at s i)
      → record { consts = c.consts + a; needs = c.needs + b; frames = c.frames + e; records = c.records + r; names = c.names + v } ≡ added (reads_in s) (read_at s i) c
  unfolding added
  counts-are c a b e r v ha hb he hr hv = rw (ha, hb, he, hr, hv, hk)

-- ---- bounds

or_parts : (a b c d e : Bool) → a || b || c || d || e ≡ false → (a ≡ false) × (b ≡ false) × (c ≡ false) × (d ≡ false) × (e ≡ false)
or_parts false false false false false h = (refl, refl, refl, refl, refl)
or_parts false false false false true h = never (sym h)
or_parts false false false true e h = never (sym h)
or_parts false false true d e h = never (sym h)
or_parts false true c d e h = never (sym h)
or_parts true b c d e h = never (sym h)

pub bounded : (c : Counts) → over_limits c ≡ false → (c.consts ≤ 128) × (c.needs ≤ 128) × (c.frames ≤ 128) × (c.records ≤ 128) × (c.names ≤ 256)
bounded c h =
    let p = or_parts (ltb 128 c.consts) (ltb 128 c.needs) (ltb 128 c.frames) (ltb 128 c.records) (ltb 256 c.names) h in
    (ltb-false _ _ p.0, ltb-false _ _ p.1, ltb-false _ _ p.2, ltb-false _ _ p.3, ltb-false _ _ p.4)

-- ---- the pass over all lines

pub record Counting (s : List ℕ) (i : ℕ) (c : Counts) : Type 0 where
  pub small : over_limits c ≡ false
  pub same : too_many_from 1 no_counts (nodes_in s) ≡ too_many_from (i + 1) c (drop i (nodes_in s))

pub counting-start : (s : List ℕ) → Counting s 0 no_counts
counting-start s = record { small = refl; same = refl }

many-cons : (k : ℕ) (c : Counts) (m : Node) (ms : List Node) → too_many_from k c (m ∷ ms) ≡ cond (over_limits (counted m.declares c)) k (too_many_from (suc k) (counted m.declares c) ms)
unfolding too_many_from
many-cons k c m ms = refl

many-nil : (k : ℕ) (c : Counts) → too_many_from k c [] ≡ 0
unfolding too_many_from
many-nil k c = refl

module _ (s : List ℕ) (w : Whole s) (good : bad_ref_from (reads_in s) 1 [] (reads_in s) ≡ 0) (i : ℕ) (c : Counts) (g : Counting s i c) where
  pub counting-end : lines_in s ≤ i → 0 ≡ too_many_from 1 no_counts (nodes_in s)
  counting-end h = sym (g.same ∙ rw (drop_of_length-le (nodes_in s) {i = i} (omega (arith, node-count s w))) (many-nil (i + 1) c))

  module _ (h : i < lines_in s) (d : Counts) (hd : d ≡ added (reads_in s) (read_at s i) c) where
    opened : too_many_from 1 no_counts (nodes_in s) ≡ cond (over_limits d) (i + 1) (too_many_from (i + 1 + 1) d (drop (i + 1) (nodes_in s)))
    opened =
        g.same
        ∙ ap (too_many_from (i + 1) c) (drop-cons (nodes_in s) i no_node (omega (arith, node-count s w)))
        ∙ many-cons (i + 1) c (get_or (nodes_in s) i no_node) (drop (suc i) (nodes_in s))
        ∙ ap (λ (e : Counts). cond (over_limits e) (i + 1) (too_many_from (suc (i + 1)) e (drop (suc i) (nodes_in s)))) (line-adds s w good i h c ∙ sym hd)
        ∙ rw (← add-one (i + 1), ← add-one i)

    pub counting-over : {b : Bool} → b ≡ over_limits d → b ≡ true → i + 1 ≡ too_many_from 1 no_counts (nodes_in s)
    counting-over p e = sym (opened ∙ rw (sym p ∙ e))

    pub counting-next : {b : Bool} → b ≡ over_limits d → b ≡ false → Counting s (i + 1) d
    counting-next p e = record { small = sym p ∙ e; same = opened ∙ rw (sym p ∙ e) }
