-- The keys of a log, entry by entry.
use mathlib.Core.Path.{◌≡◌, refl, sym, ap, ◌∙◌}
use mathlib.Core.Bool.{Bool, true, false, cond, not, ◌||◌, or-true, or-false}
use mathlib.Core.List.{List, [], ◌∷◌, ◌++◌, append-nil}
use Rattle.std.specs.Prelude.{Option, None, Some}
use Prim.Native.Nat.{ℕ, zero, suc, ◌+◌, ◌*◌}
use native.Mathlib.Omega.{arith}
use lib.Dec.{eqb}
use borrow.Author.Tests.{ne_eqb}
use Rattle.semantics.specs.Text.{Bytes, same, any, filter}
use Rattle.semantics.specs.Tree.{ConstVal}
use Rattle.semantics.specs.Sheet.{sheet_source, concat_map}
use Rattle.semantics.specs.Fold.{Key, Const, plain, qualified, same_option, same_key}
use Rattle.semantics.specs.Const.{entries}
use Rattle.semantics.specs.Listing.{keys_in, is_plain, const_row}
use Rattle.laws.proofs.Tests.{same-eq}
use Rattle.laws.proofs.Lists.{concat-append, filter-append, any_append}
use Rattle.implement.specs.Modules.{first_field, module_at, own_in, is_own}
use Rattle.names.specs.Table.{const_line_of, module_line_of, slot_value, entries_at, log_in, has_key}
use Rattle.const_rows.specs.Rows.{plain_key, qualified_key, qualified_to, plain_to, qualified_part, plain_part}
use Rattle.semantics.proofs.Common.{never, both}

-- ---- equal keys

option-equal : (x y : Option Bytes) → same_option x y ≡ true → x ≡ y
option-equal None None h = refl
option-equal None (Some y) h = never h
option-equal (Some x) None h = never h
option-equal (Some x) (Some y) h = rw (same-eq x y h)

key-equal : (j k : Key) → same_key j k ≡ true → j ≡ k
key-equal j k h =
    let w = both (same_option j.within k.within) (same j.name k.name) h in
    let p = option-equal j.within k.within w.0 in
    let q = same-eq j.name k.name w.1 in
    λ i. record { within = p i; name = q i }

-- the keys of a log are those that it has
keys-has : (k : Key) (cs : List Const) → any (same_key k) (keys_in cs) ≡ has_key k cs
unfolding has_key
keys-has k [] = refl
keys-has k (c ∷ cs) = go (any (same_key c.key) (keys_in cs)) refl (same_key k c.key) refl (keys-has k cs)
  where
    go : (b : Bool) → any (same_key c.key) (keys_in cs) ≡ b → (a : Bool) → same_key k c.key ≡ a → any (same_key k) (keys_in cs) ≡ any (λ (d : Const). same_key k d.key) cs
        → any (same_key k) (cond b (keys_in cs) (keys_in cs ++ (c.key ∷ []))) ≡ a || any (λ (d : Const). same_key k d.key) cs
    go true e true q ih = ap (λ (j : Key). any (same_key j) (keys_in cs)) (key-equal k c.key q) ∙ e
    go true e false q ih = ih
    go false e true q ih = any_append (same_key k) (keys_in cs) (c.key ∷ []) ∙ rw q (or-true (any (same_key k) (keys_in cs)))
    go false e false q ih = any_append (same_key k) (keys_in cs) (c.key ∷ []) ∙ rw q (or-false (any (same_key k) (keys_in cs)) ∙ ih)

-- ---- one more key

abbrev is_qualified : Key → Bool
is_qualified k = not (is_plain k)

module _ (p : Key → Bool) (b : Bool) (ks : List Key) (k : Key) where
  -- of a kind that is not looked for
  filter-other : p k ≡ false → filter p (cond b ks (ks ++ (k ∷ []))) ≡ filter p ks
  filter-other e = go b
    where
      go : (x : Bool) → filter p (cond x ks (ks ++ (k ∷ []))) ≡ filter p ks
      go true = refl
      go false = filter-append p ks (k ∷ []) ∙ rw e (append-nil (filter p ks))

  filter-one : p k ≡ true → filter p (cond b ks (ks ++ (k ∷ []))) ≡ filter p ks ++ cond b [] (k ∷ [])
  filter-one e = go b
    where
      go : (x : Bool) → filter p (cond x ks (ks ++ (k ∷ []))) ≡ filter p ks ++ cond x [] (k ∷ [])
      go true = sym (append-nil (filter p ks))
      go false = filter-append p ks (k ∷ []) ∙ rw e

-- a plain key is not among those of modules
plain-apart : (b : Bool) (y m : Bytes) (ks : List Key) → any (same_key (plain y)) (cond b ks (ks ++ (qualified m y ∷ []))) ≡ any (same_key (plain y)) ks
plain-apart true y m ks = refl
plain-apart false y m ks = any_append (same_key (plain y)) ks (qualified m y ∷ []) ∙ or-false (any (same_key (plain y)) ks)

-- ---- the keys of an entry

module _ (impl : Option Bytes) (s y : Bytes) (v : Option ConstVal) (log : List Const) where
  qualified-in : (i : Bool) (m : Bytes)
      → filter is_qualified (keys_in ((cond i (record { key = plain y; value = v } ∷ []) [] ++ (record { key = qualified m y; value = v } ∷ [])) ++ log))
      ≡ filter is_qualified (keys_in log) ++ cond (has_key (qualified m y) log) [] (qualified m y ∷ [])
  qualified-in false m = rw (← keys-has (qualified m y) log) (filter-one is_qualified (any (same_key (qualified m y)) (keys_in log)) (keys_in log) (qualified m y) refl)
  qualified-in true m =
      let older = cond (any (same_key (qualified m y)) (keys_in log)) (keys_in log) (keys_in log ++ (qualified m y ∷ [])) in
      filter-other is_qualified (any (same_key (plain y)) older) older (plain y) refl
      ∙ rw (← keys-has (qualified m y) log) (filter-one is_qualified (any (same_key (qualified m y)) (keys_in log)) (keys_in log) (qualified m y) refl)

  qualified-entry : (k : ℕ) → filter is_qualified (keys_in (entries impl (module_at s k) y v ++ log))
      ≡ filter is_qualified (keys_in log) ++ cond (eqb k 0 || has_key (qualified (first_field s k) y) log) [] (qualified (first_field s k) y ∷ [])
  unfolding module_at
  qualified-entry zero = filter-other is_qualified (any (same_key (plain y)) (keys_in log)) (keys_in log) (plain y) refl ∙ sym (append-nil (filter is_qualified (keys_in log)))
  qualified-entry (suc k) = rw (ne_eqb (suc k) 0 (λ e. omega arith)) (qualified-in (same_option impl (Some (first_field s (suc k)))) (first_field s (suc k)))

  plain_in : (i : Bool) (m : Bytes)
      → filter is_plain (keys_in ((cond i (record { key = plain y; value = v } ∷ []) [] ++ (record { key = qualified m y; value = v } ∷ [])) ++ log))
      ≡ filter is_plain (keys_in log) ++ cond (not i || has_key (plain y) log) [] (plain y ∷ [])
  plain_in false m = filter-other is_plain (any (same_key (qualified m y)) (keys_in log)) (keys_in log) (qualified m y) refl ∙ sym (append-nil (filter is_plain (keys_in log)))
  plain_in true m =
      let b = any (same_key (qualified m y)) (keys_in log) in
      let older = cond b (keys_in log) (keys_in log ++ (qualified m y ∷ [])) in
      filter-one is_plain (any (same_key (plain y)) older) older (plain y) refl
      ∙ rw (plain-apart b y m (keys_in log), keys-has (plain y) log, filter-other is_plain b (keys_in log) (qualified m y) refl)

  plain_entry : (k : ℕ) → filter is_plain (keys_in (entries impl (module_at s k) y v ++ log))
      ≡ filter is_plain (keys_in log) ++ cond (not (own_in impl (module_at s k)) || has_key (plain y) log) [] (plain y ∷ [])
  unfolding module_at
  plain_entry zero = filter-one is_plain (any (same_key (plain y)) (keys_in log)) (keys_in log) (plain y) refl ∙ rw (keys-has (plain y) log)
  plain_entry (suc k) = plain_in (same_option impl (Some (first_field s (suc k)))) (first_field s (suc k))

-- ---- the rows

concat-cond : (f : Key → Bytes) (b : Bool) (k : Key) → concat_map f (cond b [] (k ∷ [])) ≡ cond b [] (f k)
concat-cond f true k = refl
concat-cond f false k = append-nil (f k)

module _ (s t : Bytes) (m : ℕ) where
  pub qualified-none : qualified_to s t m 0 ≡ []
  unfolding qualified_to log_in
  qualified-none = refl

  pub plain-none : plain_to s t m 0 ≡ []
  unfolding plain_to log_in
  plain-none = refl

  pub qualified-more : (i : ℕ) → qualified_to s t m (suc i) ≡ qualified_to s t m i ++ qualified_part s t m i
  unfolding qualified_to qualified_part log_in entries_at
  qualified-more i =
      let f = const_row (log_in s t m) in
      let b = eqb (module_line_of t i) 0 || has_key (qualified_key s t i) (log_in s t i) in
      ap (concat_map f) (qualified-entry (sheet_source s).implement s (first_field s (const_line_of t i)) (slot_value t (5124 + 16 * i)) (log_in s t i) (module_line_of t i))
      ∙ concat-append f (filter is_qualified (keys_in (log_in s t i))) (cond b [] (qualified_key s t i ∷ []))
      ∙ ap (λ (x : Bytes). concat_map f (filter is_qualified (keys_in (log_in s t i))) ++ x) (concat-cond f b (qualified_key s t i))

  pub plain_more : (i : ℕ) → plain_to s t m (suc i) ≡ plain_to s t m i ++ plain_part s t m i
  unfolding plain_to plain_part log_in entries_at
  plain_more i =
      let f = const_row (log_in s t m) in
      let b = not (is_own s (module_line_of t i)) || has_key (plain_key s t i) (log_in s t i) in
      ap (concat_map f) (plain_entry (sheet_source s).implement s (first_field s (const_line_of t i)) (slot_value t (5124 + 16 * i)) (log_in s t i) (module_line_of t i))
      ∙ concat-append f (filter is_plain (keys_in (log_in s t i))) (cond b [] (plain_key s t i ∷ []))
      ∙ ap (λ (x : Bytes). concat_map f (filter is_plain (keys_in (log_in s t i))) ++ x) (concat-cond f b (plain_key s t i))
