-- Keys: how they compare.
use mathlib.Core.Path.{◌≡◌, refl, sym, ap, ◌∙◌}
use mathlib.Core.Bool.{Bool, true, false, not, ◌&&◌, ◌||◌, and-false, and_assoc}
use mathlib.Core.List.{List, [], ◌∷◌, ◌++◌}
use Rattle.std.specs.Prelude.{Option, None, Some}
use Prim.Native.Nat.{ℕ, zero, suc, ◌+◌, ◌-◌, ◌≤◌, ◌<◌}
use native.Mathlib.Numerals.{add-one}
use native.Mathlib.Omega.{arith}
use lib.Dec.{eqb, leb}
use lib.ListN.{length, drop, take, get_or, length-append, length-drop}
use lib.Seq.{take_all}
use borrow.Author.Tests.{eqb-true, eqb-false, eq-eqb, ne_eqb}
use Rattle.semantics.specs.Text.{Bytes, same, all, is_name, is_letter, is_digit}
use Rattle.semantics.specs.Tree.{AdtDecl, Case}
use Rattle.semantics.specs.Layout.{records_for}
use Rattle.semantics.proofs.Common.{never, both}
use Rattle.words.proofs.Laws.{same_length}
use Rattle.sizes.specs.Places.{RecordLine, decl_at}
use Rattle.shapes.specs.Shapes.{cases_in}
use Rattle.records.specs.Log.{first_record, own_record, case_in, variant_record, record_in, entry_at, recorded_at, name_of, tag_of, EntryIn}
use Rattle.records.specs.Lines.{case_at}
use Rattle.shapes.specs.Shapes.{VariantLine, CaseOf}
use Rattle.records.proofs.Picks.{name-good, pick-line, variant-line, case-is}

-- ---- a name and a tag

pub joined-short : (k a b : Bytes) → length k ≤ length a → false ≡ same k (a ++ (46 ∷ b))
joined-short k a b h = sym (same_length k (a ++ (46 ∷ b)) (λ e. omega (arith, length-append a (46 ∷ b))))

joined-parts : (k a b : Bytes) → length a < length k → same k (a ++ (46 ∷ b)) ≡ same (take (length a) k) a && (eqb (get_or k (length a) 0) 46 && same (drop (suc (length a)) k) b)
joined-parts [] a b h = absurd (omega arith)
joined-parts (x ∷ k) [] b h = refl
joined-parts (x ∷ k) (y ∷ a) b h = rw (joined-parts k a b (omega arith)) (sym (and_assoc (eqb x y) (same (take (length a) k) a) _))

module _ (k a b : Bytes) (h : length a < length k) where
  pub joined-undotted : (get_or k (length a) 0 ≡ 46 → ⊥) → false ≡ same k (a ++ (46 ∷ b))
  joined-undotted n = sym (joined-parts k a b h ∙ rw (ne_eqb _ _ n) (and-false (same (take (length a) k) a)))

  name-part : take (length a - 0) (drop 0 k) ≡ take (length a) k
  name-part = let z : length a - 0 ≡ length a = omega arith in rw z

  tag-part : take (length k - (length a + 1)) (drop (length a + 1) k) ≡ drop (suc (length a)) k
  tag-part = take_all (length k - (length a + 1)) (drop (length a + 1) k) (omega (arith, length-drop (length a + 1) k)) ∙ rw (add-one (length a))

  pub joined-unnamed : {p : Bool} → p ≡ same (take (length a - 0) (drop 0 k)) a → p ≡ false → false ≡ same k (a ++ (46 ∷ b))
  joined-unnamed e q = sym (joined-parts k a b h ∙ rw (← name-part, sym e ∙ q))

  pub joined-tag : {p q : Bool} → get_or k (length a) 0 ≡ 46 → p ≡ same (take (length a - 0) (drop 0 k)) a → p ≡ true → q ≡ same (take (length k - (length a + 1)) (drop (length a + 1) k)) b → q ≡ same k (a ++ (46 ∷ b))
  joined-tag d e t g = g ∙ rw tag-part (sym (joined-parts k a b h ∙ rw (← name-part, sym e ∙ t, eq-eqb _ _ d)))

-- ---- a name has no full stop

mark-not : (x : ℕ) → is_letter x || is_digit x ≡ true → eqb x 46 ≡ false
mark-not x h = go (eqb x 46) refl
  where
    go : (b : Bool) → eqb x 46 ≡ b → b ≡ false
    go true q = never (rw (eqb-true x 46 q) at h)
    go false q = refl

letter-not : (x : ℕ) → is_letter x ≡ true → eqb x 46 ≡ false
letter-not x h = mark-not x (rw h)

undotted : Bytes → Bool
undotted a = all (λ (x : ℕ). not (eqb x 46)) a

marks-undotted : (a : Bytes) → all (λ (x : ℕ). is_letter x || is_digit x) a ≡ true → undotted a ≡ true
unfolding undotted
marks-undotted [] h = refl
marks-undotted (x ∷ a) h =
    let w = both (is_letter x || is_digit x) (all (λ (y : ℕ). is_letter y || is_digit y) a) h in
    rw (mark-not x w.0) (marks-undotted a w.1)

name-undotted : (a : Bytes) → is_name a ≡ true → undotted a ≡ true
unfolding is_name undotted
name-undotted [] h = never h
name-undotted (x ∷ a) h =
    let v = both (is_letter x && all (λ (y : ℕ). is_letter y || is_digit y) a) (leb (length (x ∷ a)) 32) h in
    let w = both (is_letter x) (all (λ (y : ℕ). is_letter y || is_digit y) a) v.0 in
    rw (letter-not x w.0) (marks-undotted a w.1)

undotted-first : (x : ℕ) (a : Bytes) → undotted (x ∷ a) ≡ true → (eqb 46 x ≡ false) × (eqb x 46 ≡ false) × (undotted a ≡ true)
unfolding undotted
undotted-first x a h =
    let w = both (not (eqb x 46)) (all (λ (y : ℕ). not (eqb y 46)) a) h in
    go (eqb x 46) refl w.0 w.1
  where
    go : (b : Bool) → eqb x 46 ≡ b → not b ≡ true → all (λ (y : ℕ). not (eqb y 46)) a ≡ true → (eqb 46 x ≡ false) × (eqb x 46 ≡ false) × (undotted a ≡ true)
    go true q n k = never n
    go false q n k = (ne_eqb 46 x (λ e. eqb-false x 46 q (sym e)), q, k)

tagged-plain : (a b c : Bytes) → undotted c ≡ true → same (a ++ (46 ∷ b)) c ≡ false
tagged-plain [] b [] h = refl
tagged-plain [] b (x ∷ c) h = rw (undotted-first x c h).0
tagged-plain (y ∷ a) b [] h = refl
tagged-plain (y ∷ a) b (x ∷ c) h = rw (tagged-plain a b c (undotted-first x c h).2) (and-false (eqb y x))

plain-tagged : (a b c : Bytes) → undotted c ≡ true → same c (a ++ (46 ∷ b)) ≡ false
plain-tagged [] b [] h = refl
plain-tagged [] b (x ∷ c) h = rw (undotted-first x c h).1
plain-tagged (y ∷ a) b [] h = refl
plain-tagged (y ∷ a) b (x ∷ c) h = rw (plain-tagged a b c (undotted-first x c h).2) (and-false (eqb x y))

tagged-both : (a b c d : Bytes) → undotted a ≡ true → undotted c ≡ true → same (a ++ (46 ∷ b)) (c ++ (46 ∷ d)) ≡ same a c && same b d
tagged-both [] b [] d h k = refl
tagged-both [] b (x ∷ c) d h k = rw (undotted-first x c k).0
tagged-both (y ∷ a) b [] d h k = rw (undotted-first y a h).1
tagged-both (y ∷ a) b (x ∷ c) d h k =
    rw (tagged-both a b c d (undotted-first y a h).2 (undotted-first x c k).2) (sym (and_assoc (eqb y x) (same a c) (same b d)))

-- ---- the key of an entry

own-key : (d : AdtDecl) → (own_record d).key ≡ d.name
unfolding own_record
own-key d = go d.pick
  where
    go : (o : Option (List Case)) → (first_record (records_for d.name d.fields o)).key ≡ d.name
    go None = refl
    go (Some ks) = refl

module _ (s t : Bytes) (i : ℕ) where
  pub plain-key : (entry_at t i).case ≡ 0 → (recorded_at s t i).key ≡ name_of s (entry_at t i)
  unfolding recorded_at name_of
  plain-key e =
      ap (λ (c : ℕ). (record_in (decl_at s (entry_at t i).line) c (entry_at t i).position (entry_at t i).number).key) e
      ∙ own-key (decl_at s (entry_at t i).line)

  pub variant-key : ((entry_at t i).case ≡ 0 → ⊥) → (recorded_at s t i).key ≡ name_of s (entry_at t i) ++ (46 ∷ tag_of s (entry_at t i))
  unfolding recorded_at name_of tag_of variant_record
  variant-key n = go (entry_at t i).case n
    where
      go : (c : ℕ) → (c ≡ 0 → ⊥) → (record_in (decl_at s (entry_at t i).line) c (entry_at t i).position (entry_at t i).number).key
          ≡ (decl_at s (entry_at t i).line).name ++ (46 ∷ get_or (case_in (decl_at s (entry_at t i).line) (c - 1)).tags (entry_at t i).position [])
      go zero m = absurd (m refl)
      go (suc c) m = let z : suc c - 1 ≡ c = omega arith in rw z

module _ (s t : Bytes) (i : ℕ) (l : EntryIn s t i) where
  pub entry-line : RecordLine s (entry_at t i).line
  entry-line = record { checked = l.checked; first = l.sound.first; last = l.sound.last; kind = l.sound.kind }

  name-plain : undotted (name_of s (entry_at t i)) ≡ true
  unfolding name_of
  name-plain = name-undotted (decl_at s (entry_at t i).line).name (name-good s (entry_at t i).line entry-line)

  module _ (h : 0 < (entry_at t i).case) where
    before : (entry_at t i).case ≡ suc ((entry_at t i).case - 1)
    before = omega arith

    entry_case : (entry_at t i).case - 1 < length (cases_in (decl_at s (entry_at t i).line))
    entry_case = l.sound.case ((entry_at t i).case - 1) before

    pub entry-variant : VariantLine s (entry_at t i).line ((entry_at t i).case - 1)
    entry-variant = variant-line (pick-line s (entry_at t i).line entry-line entry_case) entry_case

    pub entry-tag : (v : ℕ) → CaseOf s (entry_at t i).line ((entry_at t i).case - 1) v → (entry_at t i).position < length (case_at s v).tags
    entry-tag v x = rw (case-is x) (l.sound.tag ((entry_at t i).case - 1) before)

    pub tag_read : (v : ℕ) → CaseOf s (entry_at t i).line ((entry_at t i).case - 1) v → get_or (case_at s v).tags (entry_at t i).position [] ≡ tag_of s (entry_at t i)
    unfolding tag_of
    tag_read v x = rw (case-is x)

-- the keys of two entries, by their cases
abbrev keyed : ℕ → ℕ → Bool → Bool → Bool
keyed zero zero names tags = names
keyed zero (suc d) names tags = false
keyed (suc c) zero names tags = false
keyed (suc c) (suc d) names tags = names && tags

module _ (s t : Bytes) (i j : ℕ) (k : EntryIn s t i) (l : EntryIn s t j) where
  abbrev names : Bool
  names = same (name_of s (entry_at t i)) (name_of s (entry_at t j))

  abbrev tags : Bool
  tags = same (tag_of s (entry_at t i)) (tag_of s (entry_at t j))

  keys-are : same (recorded_at s t i).key (recorded_at s t j).key ≡ keyed (entry_at t i).case (entry_at t j).case names tags
  keys-are = go (entry_at t i).case (entry_at t j).case refl refl
    where
      go : (c d : ℕ) → (entry_at t i).case ≡ c → (entry_at t j).case ≡ d
          → same (recorded_at s t i).key (recorded_at s t j).key ≡ keyed c d names tags
      go zero zero e f = rw (plain-key s t i e, plain-key s t j f)
      go zero (suc d) e f = rw (plain-key s t i e, variant-key s t j (λ z. omega arith)) (plain-tagged (name_of s (entry_at t j)) (tag_of s (entry_at t j)) (name_of s (entry_at t i)) (name-plain s t i k))
      go (suc c) zero e f = rw (variant-key s t i (λ z. omega arith), plain-key s t j f) (tagged-plain (name_of s (entry_at t i)) (tag_of s (entry_at t i)) (name_of s (entry_at t j)) (name-plain s t j l))
      go (suc c) (suc d) e f =
          rw (variant-key s t i (λ z. omega arith), variant-key s t j (λ z. omega arith))
          (tagged-both (name_of s (entry_at t i)) (tag_of s (entry_at t i)) (name_of s (entry_at t j)) (tag_of s (entry_at t j)) (name-plain s t i k) (name-plain s t j l))

  module _ {a : Bool} (e : a ≡ same (name_of s (entry_at t i)) (name_of s (entry_at t j))) where
    pub keys-unnamed : a ≡ false → false ≡ same (recorded_at s t i).key (recorded_at s t j).key
    keys-unnamed f = sym (keys-are ∙ ap (λ (b : Bool). keyed (entry_at t i).case (entry_at t j).case b tags) (sym e ∙ f) ∙ go (entry_at t i).case (entry_at t j).case tags)
      where
        go : (c d : ℕ) (b : Bool) → keyed c d false b ≡ false
        go zero zero b = refl
        go zero (suc d) b = refl
        go (suc c) zero b = refl
        go (suc c) (suc d) b = refl

    module _ (f : a ≡ true) where
      named : same (recorded_at s t i).key (recorded_at s t j).key ≡ keyed (entry_at t i).case (entry_at t j).case true tags
      named = keys-are ∙ ap (λ (b : Bool). keyed (entry_at t i).case (entry_at t j).case b tags) (sym e ∙ f)

      pub keys-own : (entry_at t i).case ≡ 0 → eqb (entry_at t j).case 0 ≡ same (recorded_at s t i).key (recorded_at s t j).key
      keys-own z = sym (named ∙ ap (λ (c : ℕ). keyed c (entry_at t j).case true tags) z ∙ go (entry_at t j).case tags)
        where
          go : (d : ℕ) (b : Bool) → keyed 0 d true b ≡ eqb d 0
          go zero b = refl
          go (suc d) b = sym (ne_eqb (suc d) 0 (λ q. omega arith))

      module _ (p : (entry_at t i).case ≡ 0 → ⊥) where
        pub keys-plain : (entry_at t j).case ≡ 0 → false ≡ same (recorded_at s t i).key (recorded_at s t j).key
        keys-plain z = sym (named ∙ ap (λ (d : ℕ). keyed (entry_at t i).case d true tags) z ∙ go (entry_at t i).case tags p)
          where
            go : (c : ℕ) (b : Bool) → (c ≡ 0 → ⊥) → keyed c 0 true b ≡ false
            go zero b q = absurd (q refl)
            go (suc c) b q = refl

        pub keys-tags : {b : Bool} → ((entry_at t j).case ≡ 0 → ⊥) → b ≡ same (tag_of s (entry_at t i)) (tag_of s (entry_at t j)) → b ≡ same (recorded_at s t i).key (recorded_at s t j).key
        keys-tags q g = g ∙ sym (named ∙ go (entry_at t i).case (entry_at t j).case tags p q)
          where
            go : (c d : ℕ) (b : Bool) → (c ≡ 0 → ⊥) → (d ≡ 0 → ⊥) → keyed c d true b ≡ b
            go zero d b x y = absurd (x refl)
            go (suc c) zero b x y = absurd (y refl)
            go (suc c) (suc d) b x y = refl

-- ---- the log as a list

pub default-same : {A : Type 0} (l : List A) (i : ℕ) (x y : A) → i < length l → get_or l i x ≡ get_or l i y
default-same [] i x y h = absurd (omega arith)
default-same (r ∷ l) zero x y h = refl
default-same (r ∷ l) (suc i) x y h = default-same l i x y (omega arith)
