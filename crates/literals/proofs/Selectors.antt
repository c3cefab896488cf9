-- Indices and spans, as they are folded.
use mathlib.Core.Path.{◌≡◌, refl, sym, ap, ◌∙◌}
use Prim.Native.Nat.{ℕ, ◌+◌, ◌-◌, ◌*◌, ◌≤◌}
use native.Mathlib.Omega.{arith}
use lib.IntN.{ℤ, pos}
use lib.ListN.{length, get_or}
use mathlib.Core.List.{[]}
use mir.Syntax.{w64}
use mir.Val.{SFits}
use mir.Facts.{to_z-of_z}
use Rattle.semantics.specs.Text.{Bytes}
use Rattle.semantics.specs.Form.{number_of}
use Rattle.semantics.specs.Fold.{bind, Names, fold}
use Rattle.semantics.specs.Fold.Result.{ok, failed, refuse}
use Rattle.semantics.specs.Array.{as_int, index_of, high_of, span_of}
use Rattle.ints.proofs.Widths.{held}
use Rattle.decimal.specs.Number as Number
use Rattle.lines.specs.Lines.{read_at, nodes_in}
use Rattle.checks.specs.Checks.{Kept}
use Rattle.values.specs.declared.ConstVal.{ConstVal}
use Rattle.values.specs.declared.ConstVal.TheVariants.{Int, Real, Str}
use Rattle.std.specs.Prelude.{Ok, Err}
use Rattle.values.specs.declared.NoValue.{NoValue}
use Rattle.values.specs.declared.NoValue.TheVariants as N
use Rattle.values.specs.Values.{value_in, result_in, answered, Outcome}
use Rattle.placements.specs.Placements.{Keeps}
use Rattle.placements.proofs.Same.{keeps-less, keeps-kept}
use Rattle.leaf.specs.Folds.{ex_at, fold_at, Foldable, Folds}
use Rattle.fold.proofs.Steps as Steps
use Rattle.names.specs.Table.{names_in}
use Rattle.literals.specs.Literals.{se_at, Task, above}
use Rattle.literals.proofs.Names.{log-kept, logged-kept}
use Rattle.literals.proofs.Lines.{good-line, may-line, se-refs, se-is, maybe-given, maybe-absent}

-- ---- integers

module _ (t : Bytes) {x : Outcome ConstVal} where
  module _ {v : ConstVal} (e : x ≡ Ok v) where
    pub int-value : {z : ℤ} → v ≡ Int z → SFits w64 z → ok (held w64 z) ≡ bind (result_in t x) as_int
    unfolding result_in value_in
    int-value d f = rw (e, d, to_z-of_z f)

    pub no-int : ((z : ℤ) → v ≡ Int z → ⊥) → failed ≡ bind (result_in t x) as_int
    unfolding result_in value_in
    no-int n = rw e (go v n)
      where
        go : (w : ConstVal) → ((z : ℤ) → w ≡ Int z → ⊥) → failed ≡ as_int (value_in t w)
        go (Int z) n = absurd (n z refl)
        go (Real y) n = refl
        go (Str p l) n = refl

  pub no_value : (e : NoValue) → x ≡ Err e → answered (Err e) ≡ bind (result_in t x) as_int
  unfolding result_in
  no_value N.Failed d = rw d
  no_value N.LongString d = rw d

-- ---- folds

pub foldable : {s t : Bytes} {m r e : ℕ} → Task 69 s t m r e → 62464 ≤ length t → Foldable s t m r (49152 + 256 * e)
foldable k long = Steps.foldable k.line k.log (omega arith) (omega (arith, k.few))

-- what a fold gives, where iota is 0
pub folds-to : {s t : Bytes} {m r top : ℕ} {u : Bytes} {x : Outcome ConstVal} → Folds s t m 0 r top u x → result_in u x ≡ fold (names_in s t m) (pos 0) (ex_at s r)
unfolding fold_at
folds-to f = f.answer.value

pub index_is : {s t : Bytes} {m r top : ℕ} {u : Bytes} {x : Outcome ConstVal} (i : Outcome ℤ) → Folds s t m 0 r top u x → answered i ≡ bind (result_in u x) as_int → answered i ≡ index_of (names_in s t m) (ex_at s r)
index_is i f h = rw (folds-to f) at h

-- ---- the ends of a selector

module _ {s t : Bytes} {m r e : ℕ} (k : Task 74 s t m r e) where
  pub low-task : {v : ℕ} → v ≡ Number.number_up_to 65536 (get_or (read_at s (r - 1)).fields 0 []) → Task 69 s t m v e
  low-task {v} h = record { line = (good-line k.line 69 (get_or (read_at s (r - 1)).fields 0 []) v h (se-refs k.line).0).1; log = k.log; few = k.few }

  low-is : {v : ℕ} → v ≡ Number.number_up_to 65536 (get_or (read_at s (r - 1)).fields 0 []) → (se_at s r).low ≡ ex_at s v
  low-is {v} h = rw (se-is k.line, (good-line k.line 69 (get_or (read_at s (r - 1)).fields 0 []) v h (se-refs k.line).0).0)

  module _ {v : ℕ} (h : v ≡ Number.number_up_to 65536 (get_or (read_at s (r - 1)).fields 1 [])) where
    pub high-task : (v ≡ 0 → ⊥) → Task 69 s t m v e
    high-task z = record { line = (may-line k.line 69 (get_or (read_at s (r - 1)).fields 1 []) v h (se-refs k.line).1).1 z; log = k.log; few = k.few }

    number_is : number_of (get_or (read_at s (r - 1)).fields 1 []) ≡ v
    number_is = sym (may-line k.line 69 (get_or (read_at s (r - 1)).fields 1 []) v h (se-refs k.line).1).0

    pub high-none : (ns : Names) {low : ℤ} → SFits w64 low → v ≡ 0 → ok (held w64 low) ≡ high_of ns low (se_at s r).high
    high-none ns f z = rw (to_z-of_z f, se-is k.line, number_is, maybe-absent (nodes_in s) v z)

    pub high-some : (ns : Names) (low : ℤ) (i : Outcome ℤ) → (v ≡ 0 → ⊥) → answered i ≡ index_of ns (ex_at s v) → answered i ≡ high_of ns low (se_at s r).high
    high-some ns low i z d = d ∙ sym (rw (se-is k.line, number_is, maybe-given (nodes_in s) v z))

  -- the low end is folded, and u is the working space then
  module _ {v : ℕ} (h : v ≡ Number.number_up_to 65536 (get_or (read_at s (r - 1)).fields 0 [])) (x : Outcome ℤ) (hx : answered x ≡ index_of (names_in s t m) (ex_at s v)) where
    low-found : answered x ≡ index_of (names_in s t m) (se_at s r).low
    low-found = rw (low-is h) hx

    pub span-low : (e : NoValue) → x ≡ Err e → answered (Err e) ≡ span_of (names_in s t m) (se_at s r).low (se_at s r).high
    span-low N.Failed d = let q : index_of (names_in s t m) (se_at s r).low ≡ failed = sym low-found ∙ ap answered d in rw q
    span-low N.LongString d = let q : index_of (names_in s t m) (se_at s r).low ≡ refuse 8 = sym low-found ∙ ap answered d in rw q

    module _ {a : ℤ} (d : x ≡ Ok a) (f : SFits w64 a) {u : Bytes} (c : Kept (above e) t u) where
      keeps_low : Keeps 16384 49152 t u
      keeps_low = keeps-less (omega arith) (omega arith) (keeps-kept {a = 0} (omega arith) c)

      pub again : Task 74 s u m r e
      again = record { line = k.line; log = logged-kept keeps_low k.log; few = k.few }

      module _ (y : Outcome ℤ) (hy : answered y ≡ high_of (names_in s u m) (held w64 a) (se_at s r).high) where
        low_ok : index_of (names_in s t m) (se_at s r).low ≡ ok a
        low_ok = sym low-found ∙ ap answered d

        high-found : high_of (names_in s t m) a (se_at s r).high ≡ answered y
        high-found = sym (rw (to_z-of_z f, log-kept keeps_low k.log) at hy)

        pub span-ok : {b : ℤ} → y ≡ Ok b → SFits w64 b → ok (held w64 a, held w64 b) ≡ span_of (names_in s t m) (se_at s r).low (se_at s r).high
        span-ok {b} g i = let q : high_of (names_in s t m) a (se_at s r).high ≡ ok b = high-found ∙ ap answered g in rw (low_ok, q, to_z-of_z f, to_z-of_z i)

        pub span-high : (e : NoValue) → y ≡ Err e → answered (Err e) ≡ span_of (names_in s t m) (se_at s r).low (se_at s r).high
        span-high N.Failed g = let q : high_of (names_in s t m) a (se_at s r).high ≡ failed = high-found ∙ ap answered g in rw (low_ok, q)
        span-high N.LongString g = let q : high_of (names_in s t m) a (se_at s r).high ≡ refuse 8 = high-found ∙ ap answered g in rw (low_ok, q)
