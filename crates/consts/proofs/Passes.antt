-- What a walk over lines meets of the passes.
use mathlib.Core.Path.{◌≡◌, refl, sym, ap, ◌∙◌}
use mathlib.Core.Bool.{Bool, true, false, cond}
use mathlib.Core.List.{List, [], ◌∷◌, ◌++◌, map}
use Rattle.std.specs.Prelude.{Option, None, Some}
use Prim.Native.Nat.{ℕ, zero, suc, ◌+◌, ◌-◌, ◌≤◌, ◌<◌}
use native.Mathlib.Omega.{arith}
use lib.Dec.{leb, eqb}
use lib.ListN.{length, get_or, drop_of_length-le}
use lib.Seq.{drop-cons}
use borrow.Author.Tests.{eq-eqb, ne_eqb, leb-true, leb-false, eqb-true}
use Rattle.semantics.specs.Text.{Bytes, filter, is_none, holds_of}
use Rattle.semantics.specs.Tree.{ConstDecl, Declares, Node, no_node}
use Rattle.semantics.specs.Form.{letter}
use Rattle.semantics.specs.Sheet.{Module, Located, Source, located_from, sheet_source}
use Rattle.semantics.specs.Const.{passes_from, stands_in, top_level, constants}
use Rattle.semantics.proofs.Common.{filter-less}
use Rattle.lines.specs.Lines.{lines_in, read_at, nodes_in}
use Rattle.refs.proofs.Nodes.{node-count}
use Rattle.implement.specs.Modules.{module_at}
use Rattle.checks.specs.Checks.{Checked}
use Rattle.source.specs.Walk.{declares_at, open_at, con_of, by_kind}
use Rattle.source.proofs.Walk.{source-of}
use Rattle.source.proofs.Declares.{line-declares}
use Rattle.consts.specs.Passes.{rest_from, in_group, group_from, passes_after, in_earlier, count_before, const_at}

-- ---- one line

module _ {A : Type 0} (f : Declares → List A) (ns : List Node) where
  rest-step : (i : ℕ) → i < length ns → rest_from f ns i ≡ map (λ (a : A). record { line = suc i; within = open_at ns i; it = a }) (f (declares_at ns i)) ++ rest_from f ns (suc i)
  unfolding rest_from open_at
  rest-step i h = ap (located_from f (suc i) (open_at ns i)) (drop-cons ns i no_node h)

  rest_end : (i : ℕ) → length ns ≤ i → rest_from f ns i ≡ []
  unfolding rest_from
  rest_end i h = ap (located_from f (suc i) (open_at ns i)) (drop_of_length-le ns {i = i} h)

in-group : (s : Bytes) (o k i : ℕ) → in_group k (const_at s o i) ≡ eqb o k
unfolding module_at
in-group s zero zero i = refl
in-group s zero (suc k) i = sym (ne_eqb 0 (suc k) (λ e. omega arith))
in-group s (suc o) zero i = sym (ne_eqb (suc o) 0 (λ e. omega arith))
in-group s (suc o) (suc k) i = refl

module _ (s : Bytes) (c : Checked s) where
  lines_are : length (nodes_in s) ≡ lines_in s
  lines_are = node-count s c.whole

  module _ (i : ℕ) (h : i < lines_in s) where
    inside : i < length (nodes_in s)
    inside = omega (arith, lines_are)

    consts-at : (declares_at (nodes_in s) i).consts ≡ cond (eqb (letter (read_at s i).form.kind) 68) (con_of (nodes_in s) (read_at s i).fields ∷ []) []
    unfolding by_kind
    consts-at = ap (λ (d : Declares). d.consts) (line-declares s c i h)

    opens_at : (declares_at (nodes_in s) i).opens ≡ cond (eqb (letter (read_at s i).form.kind) 77) (get_or (read_at s i).fields 0 [] ∷ []) []
    unfolding by_kind
    opens_at = ap (λ (d : Declares). d.opens) (line-declares s c i h)

    closes_at : (declares_at (nodes_in s) i).closes ≡ eqb (letter (read_at s i).form.kind) 79
    unfolding by_kind
    closes_at = ap (λ (d : Declares). d.closes) (line-declares s c i h)

    -- ---- the module that is open behind a line

    pub open-mod : letter (read_at s i).form.kind ≡ 77 → open_at (nodes_in s) (suc i) ≡ module_at s (suc i)
    unfolding open_at module_at
    open-mod e = let z : suc i - 1 ≡ i = omega arith in rw (closes_at, opens_at, e, z)

    pub open-end : letter (read_at s i).form.kind ≡ 79 → open_at (nodes_in s) (suc i) ≡ module_at s 0
    unfolding open_at module_at
    open-end e = rw (closes_at, e)

    pub open-other : (letter (read_at s i).form.kind ≡ 77 → ⊥) → (letter (read_at s i).form.kind ≡ 79 → ⊥) → open_at (nodes_in s) (suc i) ≡ open_at (nodes_in s) i
    unfolding open_at
    open-other p q = rw (closes_at, opens_at, ne_eqb (letter (read_at s i).form.kind) 77 p, ne_eqb (letter (read_at s i).form.kind) 79 q)

    -- ---- a group's constants

    rest-other : (letter (read_at s i).form.kind ≡ 68 → ⊥) → rest_from (λ (d : Declares). d.consts) (nodes_in s) i ≡ rest_from (λ (d : Declares). d.consts) (nodes_in s) (suc i)
    rest-other z = rest-step (λ (d : Declares). d.consts) (nodes_in s) i inside ∙ rw (consts-at, ne_eqb (letter (read_at s i).form.kind) 68 z)

    pub group-other : (k : ℕ) → (letter (read_at s i).form.kind ≡ 68 → ⊥) → group_from s k i ≡ group_from s k (suc i)
    unfolding group_from
    group-other k z = ap (filter (in_group k)) (rest-other z)

    module _ (o : ℕ) (now : open_at (nodes_in s) i ≡ module_at s o) (k : ℕ) (con : letter (read_at s i).form.kind ≡ 68) where
      rest-con : rest_from (λ (d : Declares). d.consts) (nodes_in s) i ≡ const_at s o i ∷ rest_from (λ (d : Declares). d.consts) (nodes_in s) (suc i)
      rest-con = rest-step (λ (d : Declares). d.consts) (nodes_in s) i inside ∙ rw (consts-at, con, now)

      pub group-in : o ≡ k → group_from s k i ≡ const_at s o i ∷ group_from s k (suc i)
      unfolding group_from
      group-in e = ap (filter (in_group k)) rest-con ∙ rw (in-group s o k i, eq-eqb o k e)

      pub group-out : (o ≡ k → ⊥) → group_from s k i ≡ group_from s k (suc i)
      unfolding group_from
      group-out e = ap (filter (in_group k)) rest-con ∙ rw (in-group s o k i, ne_eqb o k e)

  pub group-end : (k i : ℕ) → lines_in s ≤ i → group_from s k i ≡ []
  unfolding group_from
  group-end k i h = ap (filter (in_group k)) (rest_end (λ (d : Declares). d.consts) (nodes_in s) i (omega (arith, lines_are)))

  -- ---- all passes

  consts-are : (sheet_source s).consts ≡ rest_from (λ (d : Declares). d.consts) (nodes_in s) 0
  unfolding rest_from open_at
  consts-are = ap (λ (o : Source). o.consts) (source-of s)

  group-all : (k : ℕ) → group_from s k 0 ≡ filter (in_group k) (sheet_source s).consts
  unfolding group_from
  group-all k = ap (filter (in_group k)) (sym consts-are)

  pub passes-start : constants (sheet_source s) ≡ passes_from (sheet_source s).implement (passes_after s 0) []
  unfolding constants passes_after rest_from open_at
  passes-start = ap (λ (ms : List Module). passes_from (sheet_source s).implement (map (λ (m : Module). filter (stands_in m) (sheet_source s).consts) ms ++ (top_level (sheet_source s) ∷ [])) []) (ap (λ (o : Source). o.modules) (source-of s))

  pub passes-mod : (i : ℕ) → i < lines_in s → letter (read_at s i).form.kind ≡ 77 → passes_after s i ≡ group_from s (suc i) 0 ∷ passes_after s (suc i)
  unfolding passes_after
  passes-mod i h e =
      rw (rest-step (λ (d : Declares). d.opens) (nodes_in s) i (inside i h), opens_at i h, e)
      (ap (λ (g : List (Located ConstDecl)). g ∷ passes_after s (suc i)) (sym (group-all (suc i))))

  pub passes-other : (i : ℕ) → i < lines_in s → (letter (read_at s i).form.kind ≡ 77 → ⊥) → passes_after s i ≡ passes_after s (suc i)
  unfolding passes_after
  passes-other i h z = rw (rest-step (λ (d : Declares). d.opens) (nodes_in s) i (inside i h), opens_at i h, ne_eqb (letter (read_at s i).form.kind) 77 z)

  pub passes-end : (i : ℕ) → lines_in s ≤ i → passes_after s i ≡ group_from s 0 0 ∷ []
  unfolding passes_after
  passes-end i h =
      rw (rest_end (λ (d : Declares). d.opens) (nodes_in s) i (omega (arith, lines_are)))
      (ap (λ (g : List (Located ConstDecl)). g ∷ []) (sym (group-all 0)))

-- ---- no constant is in two passes

abbrev one_if : Bool → ℕ
one_if b = cond b 1 0

filter-step : {A : Type 0} (p : A → Bool) (x : A) (xs : List A) → length (filter p (x ∷ xs)) ≡ one_if (p x) + length (filter p xs)
filter-step p x xs = go (p x)
  where
    go : (b : Bool) → length (cond b (x ∷ filter p xs) (filter p xs)) ≡ cond b 1 0 + length (filter p xs)
    go true = omega arith
    go false = omega arith

filter-add : {A : Type 0} (p q r : A → Bool) → ((x : A) → one_if (p x) + one_if (q x) ≤ one_if (r x)) → (xs : List A) → length (filter p xs) + length (filter q xs) ≤ length (filter r xs)
filter-add p q r h [] = omega arith
filter-add p q r h (x ∷ xs) = omega (arith, filter-step p x xs, filter-step q x xs, filter-step r x xs, h x, filter-add p q r h xs)

earlier-or-here : (i : ℕ) (o : Option Module)
    → one_if (holds_of (λ (m : Module). leb m.line i) o) + one_if (holds_of (λ (m : Module). eqb m.line (suc i)) o) ≤ one_if (holds_of (λ (m : Module). leb m.line (suc i)) o)
earlier-or-here i None = omega arith
earlier-or-here i (Some m) = go (leb m.line i) refl (eqb m.line (suc i)) refl (leb m.line (suc i)) refl
  where
    go : (a : Bool) → leb m.line i ≡ a → (b : Bool) → eqb m.line (suc i) ≡ b → (d : Bool) → leb m.line (suc i) ≡ d → cond a 1 0 + cond b 1 0 ≤ cond d 1 0
    go true p true q true r = absurd (omega (arith, leb-true m.line i p, eqb-true m.line (suc i) q))
    go true p false q true r = omega arith
    go false p true q true r = omega arith
    go false p false q true r = omega arith
    go true p true q false r = absurd (omega (arith, leb-true m.line i p, leb-false m.line (suc i) r))
    go true p false q false r = absurd (omega (arith, leb-true m.line i p, leb-false m.line (suc i) r))
    go false p true q false r = absurd (omega (arith, eqb-true m.line (suc i) q, leb-false m.line (suc i) r))
    go false p false q false r = omega arith

earlier-or-top : (i : ℕ) (o : Option Module) → one_if (holds_of (λ (m : Module). leb m.line i) o) + one_if (is_none o) ≤ 1
earlier-or-top i None = omega arith
earlier-or-top i (Some m) = go (leb m.line i)
  where
    go : (b : Bool) → cond b 1 0 + 0 ≤ 1
    go true = omega arith
    go false = omega arith

module _ (s : Bytes) (c : Checked s) where
  pub count-mod : (i : ℕ) → count_before s i + length (group_from s (suc i) 0) ≤ count_before s (suc i)
  unfolding count_before
  count-mod i = rw (group-all s c (suc i)) (filter-add (in_earlier i) (in_group (suc i)) (in_earlier (suc i)) (λ x. earlier-or-here i x.within) (sheet_source s).consts)

  pub count-top : (i : ℕ) → count_before s i + length (group_from s 0 0) ≤ length (sheet_source s).consts
  unfolding count_before
  count-top i =
      rw (group-all s c 0)
      (omega (arith, filter-add (in_earlier i) (in_group 0) (λ x. true) (λ x. earlier-or-top i x.within) (sheet_source s).consts, filter-less (λ (x : Located ConstDecl). true) (sheet_source s).consts))
