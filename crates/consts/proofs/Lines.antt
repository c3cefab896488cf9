-- The fields of a `con` line: LINE and COL, and its `ex` line.
use mathlib.Core.Path.{◌≡◌, sym, ap, ◌∙◌}
use mathlib.Core.Bool.{true, false}
use mathlib.Core.List.{List, [], ◌∷◌}
use Rattle.std.specs.Prelude.{Option, None, Some}
use Prim.Native.Nat.{ℕ, ◌+◌, ◌-◌, ◌<◌}
use native.Mathlib.Omega.{arith}
use lib.Dec.{leb}
use lib.ListN.{get_or}
use borrow.Author.Tests.{leb-true}
use Rattle.semantics.specs.Text as Text
use Rattle.semantics.specs.Form.{Read, Part, Row, forms, letter, number_of, is_number, up_to, holds, fits}
use Rattle.semantics.specs.Form.Kind.{k_ex}
use Rattle.semantics.specs.Form.Atom.{name, line_or_col, ref}
use Rattle.semantics.specs.Form.Part.{one}
use Rattle.semantics.specs.Refusal.{refs_in}
use Rattle.refs.proofs.Fields.{number-exact}
use Rattle.decimal.specs.Number as Number
use Rattle.form.specs.Table.{row_at}
use Rattle.semantics.proofs.Common.{never, both}
use Rattle.form.proofs.Table.{only-con, form-of-kind}
use Rattle.lines.specs.Lines.{lines_in, reads_in, read_at, form_at}
use Rattle.lines.proofs.Line.{form-low, form-is, kind-is, read_fits}
use Rattle.refs.specs.Refs.{fine_ref, fine_refs}
use Rattle.refs.proofs.Fine.{needed-ref}
use Rattle.checks.specs.Checks.{Checked}
use Rattle.leaf.specs.Folds.{ExLine}

abbrev const_parts : List Part
const_parts = one name ∷ (one line_or_col ∷ (one line_or_col ∷ (one (ref k_ex) ∷ [])))

-- what they hold
record Fields (ls : List Read) (i : ℕ) (fs : List (List ℕ)) : Type 0 where
  line : up_to 65535 (get_or fs 1 []) ≡ true
  col : up_to 65535 (get_or fs 2 []) ≡ true
  number : is_number (get_or fs 3 []) ≡ true
  fine : fine_ref ls (i + 1) (record { kind = 69; optional = false; line = number_of (get_or fs 3 []) }) ≡ true

fields-good : (ls : List Read) (i : ℕ) (fs : List (List ℕ)) → fits const_parts fs ≡ true → fine_refs ls i (refs_in const_parts fs) ≡ true → Fields ls i fs
unfolding fine_refs
fields-good ls i [] h k = never h
fields-good ls i (a ∷ []) h k = never (both (holds name a) false h).1
fields-good ls i (a ∷ (b ∷ [])) h k = never (both (holds line_or_col b) false (both (holds name a) (fits (one line_or_col ∷ (one line_or_col ∷ (one (ref k_ex) ∷ []))) (b ∷ [])) h).1).1
fields-good ls i (a ∷ (b ∷ (d ∷ []))) h k =
    let p = (both (holds name a) (fits (one line_or_col ∷ (one line_or_col ∷ (one (ref k_ex) ∷ []))) (b ∷ (d ∷ []))) h).1 in
    let q = (both (holds line_or_col b) (fits (one line_or_col ∷ (one (ref k_ex) ∷ [])) (d ∷ [])) p).1 in
    never (both (holds line_or_col d) false q).1
fields-good ls i (a ∷ (b ∷ (d ∷ (e ∷ fs)))) h k =
    let p = (both (holds name a) (fits (one line_or_col ∷ (one line_or_col ∷ (one (ref k_ex) ∷ []))) (b ∷ (d ∷ (e ∷ fs)))) h).1 in
    let q = both (holds line_or_col b) (fits (one line_or_col ∷ (one (ref k_ex) ∷ [])) (d ∷ (e ∷ fs))) p in
    let r = both (holds line_or_col d) (fits (one (ref k_ex) ∷ []) (e ∷ fs)) q.1 in
    record {
      line = q.0;
      col = r.0;
      number = (both (is_number e) (fits [] fs) r.1).0;
      fine = (both (fine_ref ls (i + 1) (record { kind = 69; optional = false; line = number_of e })) (fine_refs ls i (refs_in [] fs)) k).0;
    }

-- a number as it is read
place-exact : (f : List ℕ) → up_to 65535 f ≡ true → Number.number_up_to 65536 f ≡ number_of f
unfolding Number.number_up_to
place-exact f = go (Text.nat_of f)
  where
    go : (o : Option ℕ) → Text.holds_of (λ (m : ℕ). leb m 65535) o ≡ true → Number.capped 65536 o ≡ Text.or_else 0 o
    go None h = never h
    go (Some m) h = omega (arith, leb-true m 65535 h)

module _ (s : List ℕ) (i : ℕ) (c : Checked s) (h : i < lines_in s) (con : letter (read_at s i).form.kind ≡ 68) where
  form-con : form_at s i ≡ 28
  form-con = form-of-kind only-con (form_at s i) (form-low s c.whole i h) (sym (kind-is s c.whole i h) ∙ con)

  fields-are : Fields (reads_in s) i (read_at s i).fields
  unfolding forms
  fields-are =
      let p : (read_at s i).form.parts ≡ const_parts = ap (λ (x : Row). x.parts) (form-is s c.whole i h) ∙ ap (λ (g : ℕ). (row_at g).parts) form-con in
      fields-good (reads_in s) i (read_at s i).fields (rw form-con at (read_fits s c.whole i h)) (rw p at (c.fine i h))

  pub line-number : Number.number_up_to 65536 (get_or (read_at s i).fields 1 []) ≡ number_of (get_or (read_at s i).fields 1 [])
  line-number = place-exact (get_or (read_at s i).fields 1 []) fields-are.line

  pub col-number : Number.number_up_to 65536 (get_or (read_at s i).fields 2 []) ≡ number_of (get_or (read_at s i).fields 2 [])
  col-number = place-exact (get_or (read_at s i).fields 2 []) fields-are.col

  module _ (r : ℕ) (is : r ≡ Number.number_up_to 65536 (get_or (read_at s i).fields 3 [])) where
    ex-ref : (number_of (get_or (read_at s i).fields 3 []) ≡ 0 → ⊥) × (number_of (get_or (read_at s i).fields 3 []) < i + 1)
        × (letter (read_at s (number_of (get_or (read_at s i).fields 3 []) - 1)).form.kind ≡ 69)
    ex-ref = needed-ref (reads_in s) (i + 1) 69 (number_of (get_or (read_at s i).fields 3 [])) fields-are.fine

    pub ex-number : r ≡ number_of (get_or (read_at s i).fields 3 [])
    ex-number = is ∙ number-exact (get_or (read_at s i).fields 3 []) fields-are.number (omega (arith, ex-ref.1, c.whole.few))

    pub ex-line : ExLine s r
    ex-line = record {
      checked = c;
      first = omega (arith, ex-number, ex-ref.0);
      last = omega (arith, ex-number, ex-ref.1);
      kind = rw ex-number ex-ref.2;
    }
