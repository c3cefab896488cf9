-- What each form adds to the counts.
use mathlib.Core.Path.{◌≡◌, refl}
use mathlib.Core.Bool.{cond}
use mathlib.Core.List.{List}
use Prim.Native.Nat.{ℕ, suc, ◌+◌}
use lib.ListN.{length, drop}
use lib.Dec.{eqb}
use Rattle.semantics.specs.Text.{head_part, tail_parts}
use Rattle.semantics.specs.Tree.{Node, Case}
use Rattle.semantics.specs.Form.{Row, letter, forms, make, values, number_of, cases_of}
use Rattle.semantics.specs.Form.Kind.{k_pc}
use Rattle.semantics.specs.Form.Atom.{name, ref}
use Rattle.semantics.specs.Refusal.{Counts, counted, sum_of}
use Rattle.form.proofs.Table.{Each, done, ◌also◌}
use Rattle.counts.specs.Counts.{one_of}

-- the fields of a `pick` line from the count of its cases on
abbrev pub from_cases : List (List ℕ) → List (List ℕ)
from_cases fs = drop (suc (number_of (head_part (tail_parts fs)))) (tail_parts fs)

abbrev pub case_tags : List Node → ℕ → List (List ℕ) → ℕ
case_tags ns n fs = sum_of (λ (k : Case). length k.tags) (cases_of (values (ref k_pc) ns n fs))

-- by the letter of the form's kind
abbrev pub form_adds : ℕ → List Node → List (List ℕ) → Counts → Counts
form_adds k ns fs c = record {
  consts = c.consts + one_of k 68;
  needs = c.needs + one_of k 78;
  frames = c.frames + one_of k 71;
  records = c.records + cond (eqb k 65) 1 (cond (eqb k 66) (1 + case_tags ns (number_of (head_part (from_cases fs))) (tail_parts (from_cases fs)) + 0) 0);
  names = c.names + cond (eqb k 72) (length (values name ns (number_of (head_part (tail_parts (tail_parts fs)))) (tail_parts (tail_parts (tail_parts fs)))) + 0) 0;
}

abbrev pub CountsAs : Row → Type 0
CountsAs r = (ns : List Node) (fs : List (List ℕ)) (c : Counts) → counted (make r.parts r.make ns fs).declares c ≡ form_adds (letter r.kind) ns fs c

pub all-count : Each CountsAs forms
unfolding forms
all-count =
    (λ ns fs c. refl) also (λ ns fs c. refl) also (λ ns fs c. refl) also (λ ns fs c. refl) also (λ ns fs c. refl) also (λ ns fs c. refl) also
    (λ ns fs c. refl) also (λ ns fs c. refl) also (λ ns fs c. refl) also (λ ns fs c. refl) also (λ ns fs c. refl) also (λ ns fs c. refl) also
    (λ ns fs c. refl) also (λ ns fs c. refl) also (λ ns fs c. refl) also (λ ns fs c. refl) also (λ ns fs c. refl) also (λ ns fs c. refl) also
    (λ ns fs c. refl) also (λ ns fs c. refl) also (λ ns fs c. refl) also (λ ns fs c. refl) also (λ ns fs c. refl) also (λ ns fs c. refl) also
    (λ ns fs c. refl) also (λ ns fs c. refl) also (λ ns fs c. refl) also (λ ns fs c. refl) also (λ ns fs c. refl) also (λ ns fs c. refl) also
    (λ ns fs c. refl) also (λ ns fs c. refl) also (λ ns fs c. refl) also (λ ns fs c. refl) also (λ ns fs c. refl) also (λ ns fs c. refl) also
    (λ ns fs c. refl) also (λ ns fs c. refl) also (λ ns fs c. refl) also (λ ns fs c. refl) also (λ ns fs c. refl) also (λ ns fs c. refl) also done
