-- What stays while items are printed: tables, constants' strings, and the first value of a line.
use mathlib.Core.Path.{◌≡◌, refl, ◌∙◌}
use Prim.Native.Nat.{ℕ, zero, suc, ◌+◌, ◌<◌}
use native.Mathlib.Omega.{arith}
use Rattle.semantics.specs.Text.{Bytes}
use Rattle.checks.specs.Checks.{Outside}
use Rattle.checks.proofs.Kept.{kept-all, kept_then, kept_less, outside_above}
use Rattle.names.specs.Table.{log_in, ConstsLogged}
use Rattle.names.proofs.Laws.{logged-same, log-stays}
use Rattle.values.specs.declared.ConstVal.{ConstVal}
use Rattle.values.specs.declared.ConstVal.TheVariants.{Int, Real, Str}
use Rattle.values.specs.Values.{At}
use Rattle.placements.specs.Placements.{placement_at, slot_at, element_in, values_in, Keeps, StringStands}
use Rattle.placements.proofs.Same.{part_same, value_same, slot_kept, element-same}
use Rattle.literals.specs.Literals.{above}
use Rattle.literals.proofs.Names.{kept_low}
use Rattle.global_table.specs.Table.{places_in, Tabled}
use Rattle.global_table.proofs.Table.{places-kept, tabled-kept}
use Rattle.vars.specs.declared.First.{First}
use Rattle.vars.specs.declared.First.TheVariants.{Value, Array}
use Rattle.vars.specs.First.{first_in, FirstStands}
use Rattle.arrays.specs.declared.Arrayed.{Arrayed}
use Rattle.arrays.specs.declared.Arrayed.TheVariants.{Alloc, Literal}
use Rattle.arrays.specs.Arrays.{array_in, ValuesStand, ArrayStands}
use Rattle.data_rows.specs.Data.{PrintKept}

-- ---- tables

pub keeping_all : {t : Bytes} → PrintKept t t
keeping_all = record { below = kept-all; strings = λ j h k. refl }

pub keeping-then : {t u v : Bytes} → PrintKept t u → PrintKept u v → PrintKept t v
keeping-then a b = record { below = kept_then a.below b.below; strings = λ j h k. b.strings j h k ∙ a.strings j h k }

pub keeping-first : {t u : Bytes} → Keeps 16384 49152 t u → PrintKept t u
keeping-first k = record { below = kept_low k 10624 (omega arith); strings = k.above }

pub keeping-outside : {t u : Bytes} → Outside 10624 10629 t u → PrintKept t u
keeping-outside o = record { below = o.kept; strings = λ j h k. outside_above o j (omega arith) }

module _ {t u : Bytes} (k : PrintKept t u) where
  pub tabled-still : {s : Bytes} {g : ℕ} → Tabled s t g → Tabled s u g
  tabled-still d = tabled-kept (kept_less (omega arith) k.below) d

  pub places-still : (s : Bytes) {g : ℕ} → Tabled s t g → places_in s u g ≡ places_in s t g
  places-still s {g} d = places-kept (kept_less (omega arith) k.below) s g d.few

  module _ {s : Bytes} {m : ℕ} (l : ConstsLogged s t m) where
    pub logged-still : ConstsLogged s u m
    logged-still = logged-same (kept_less (omega arith) k.below) l

    pub log-still : log_in s u m ≡ log_in s t m
    log-still =
        log-stays (kept_less (omega arith) k.below) l
        (λ a b h e. part_same t u k.below.long b a (λ j y z. k.strings j (omega arith) (omega arith)))

-- ---- the first value of a line

standing-at : (v : ConstVal) → At 49152 v → StringStands (above 16) v
standing-at (Int z) h = tt
standing-at (Real x) h = tt
standing-at (Str p l) h = (omega (arith, h.0), omega (arith, h.0, h.1), h.1)

-- storing positions of elements leaves it
module _ {t u : Bytes} (o : Outside 10624 10629 t u) where
  entry-still : (i : ℕ) → placement_at u i ≡ placement_at t i
  unfolding placement_at
  entry-still i = outside_above o (11264 + i) (omega arith)

  slot-still : (j : ℕ) → slot_at u j ≡ slot_at t j
  slot-still j = slot_kept t u o.kept.long j (λ i x y. outside_above o i (omega arith))

  values-from : (n i : ℕ) → ((j : ℕ) → j < i + n → StringStands (above 16) (slot_at t (placement_at t j))) → values_in u i n ≡ values_in t i n
  unfolding values_in
  values-from zero i h = refl
  values-from (suc n) i h =
      let e : element_in u (placement_at t i) ≡ element_in t (placement_at t i) = element-same t u o.kept.long (above 16) (placement_at t i) (h i (omega arith)) (λ j x y. outside_above o j (omega arith)) (λ j x y. outside_above o j (omega arith)) in
      rw (entry-still i, e, values-from n (suc i) (λ j l. h j (omega arith)))

  pub values-still : (n : ℕ) → ValuesStand t n → values_in u 0 n ≡ values_in t 0 n
  values-still n f = values-from n 0 (λ j h. f.1 j (omega arith))

  pub filled-still : {n : ℕ} → ValuesStand t n → ValuesStand u n
  filled-still f = (f.0, λ i h. rw (entry-still i, slot-still (placement_at t i)) (f.1 i h))

  pub array-still : (a : Arrayed) → ArrayStands t a → (array_in u a ≡ array_in t a) × ArrayStands u a
  array-still (Alloc k n) h = (refl, tt)
  array-still (Literal k n) h = (rw (values-still n h), filled-still {n = n} h)

  pub first-still : (x : First) → FirstStands t x → (first_in u x ≡ first_in t x) × FirstStands u x
  first-still (Value v) h = (rw (value_same t u o.kept.long (above 16) v (standing-at v h) (λ j x y. outside_above o j (omega arith))), h)
  first-still (Array a) h = (rw ((array-still a h).0), (array-still a h).1)
