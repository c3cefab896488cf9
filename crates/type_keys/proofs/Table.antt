-- The table: what is read of it after a store.
use mathlib.Core.Path.{◌≡◌, refl, ap, ◌∙◌}
use mathlib.Core.Bool.{Bool, true, false, cond}
use mathlib.Core.List.{List, [], ◌∷◌}
use Prim.Native.Nat.{ℕ, suc, ◌+◌, ◌*◌, ◌/◌, ◌%◌, ◌≤◌, ◌<◌}
use native.Mathlib.Omega.{arith}
use native.Mathlib.Nat.{div-add-mod'}
use lib.Dec.{eqb}
use lib.ListN.{length, get_or, set, length-set}
use lib.Seq.{get_or-set_same, get_or-set_other}
use borrow.Author.Tests.{eqb-true, eqb-false}
use Rattle.semantics.specs.Tree.{ElemKind, TypeKey}
use Rattle.semantics.specs.Tree.ElemKind.{k_byte, k_word, k_big, k_real, k_ptr}
use Rattle.semantics.specs.Tree.TypeKey.{elem_key}
use Rattle.semantics.specs.Array.{kind_number}
use Rattle.semantics.specs.Types.{same_type_key}
use Rattle.codes.specs.declared.element.Element.{Element}
use Rattle.codes.specs.declared.element.Element.TheVariants as E
use Rattle.codes.specs.Kinds.{element_kind}
use Rattle.chains.specs.Chains.{digest_place, digest_at, ChainRoom, Chained}
use Rattle.chains.proofs.Laws.{PlacesApart, SameBytes, linked-outside, digest-stays, chained-kept, chained-next}
use Rattle.checks.specs.Checks.{Kept, Outside}
use Rattle.checks.proofs.Kept.{kept_at, outside-then, outside_set, outside_above}
use Rattle.type_keys.specs.Table.{need_line_of, need_position_of, kind_position, need_chains, kinds_used, need_entered, digest_entered, kind_entered, Kinds}
use Rattle.type_lines.proofs.Codes.{kind-low, elems-are}

-- ---- the parts of the table

module _ {t u : List ℕ} where
  -- a store among the kinds of elements leaves the needs
  pub line-below : {b : ℕ} → Outside 10624 b t u → (q : ℕ) → q < 128 → need_line_of u q ≡ need_line_of t q
  unfolding need_line_of
  line-below x q h = rw (kept_at x.kept (10240 + q) (omega arith), kept_at x.kept (10368 + q) (omega arith))

  pub position-below : {b : ℕ} → Outside 10624 b t u → (q : ℕ) → q < 128 → need_position_of u q ≡ need_position_of t q
  unfolding need_position_of
  position-below x q h = kept_at x.kept (10496 + q) (omega arith)

  -- and one among the needs the kinds
  pub kind-above : {a : ℕ} → Outside a 10624 t u → (k : ElemKind) → kind_position u k ≡ kind_position t k
  unfolding kind_position
  kind-above x k = outside_above x (10624 + kind_number k) (omega arith)

  -- both leave the digests
  pub digest-above : {a b : ℕ} → b ≤ 10752 → Outside a b t u → (q : ℕ) → digest_at u need_chains q ≡ digest_at t need_chains q
  unfolding digest_place
  digest-above h x q = outside_above x (10752 + 1 * q) (omega arith)

  -- a store behind the kinds leaves them
  pub kind-kept : Kept 10629 t u → (k : ElemKind) → kind_position u k ≡ kind_position t k
  unfolding kind_position
  kind-kept x k = kept_at x (10624 + kind_number k) (omega (arith, kind-low k))

  pub kinds_kept : {l : List TypeKey} {keys : ℕ} → Kept 10629 t u → Kinds t l keys → Kinds u l keys
  unfolding kinds_used
  kinds_kept k x = record {
    count = x.count;
    position = λ e. kind-kept k e ∙ x.position e;
    few = rw (kind-kept k k_byte, kind-kept k k_word, kind-kept k k_big, kind-kept k k_real, kind-kept k k_ptr) x.few;
  }

-- ---- a need

module _ (t : List ℕ) (room : 62464 ≤ length t) (q i p : ℕ) (hq : q < 128) where
  pub entered-outside : Outside 10240 10624 t (need_entered t q i p)
  unfolding need_entered
  entered-outside =
      let a = set t (10240 + q) (i % 256) in
      let b = set a (10368 + q) (i / 256) in
      outside-then (outside_set 10240 10624 t (10240 + q) (i % 256) (omega arith) (omega arith))
      (outside-then (outside_set 10240 10624 a (10368 + q) (i / 256) (omega arith) (omega arith))
      (outside_set 10240 10624 b (10496 + q) p (omega arith) (omega arith)))

  long-1 : length (set t (10240 + q) (i % 256)) ≡ length t
  long-1 = length-set t (10240 + q) (i % 256)

  long-2 : length (set (set t (10240 + q) (i % 256)) (10368 + q) (i / 256)) ≡ length t
  long-2 = length-set (set t (10240 + q) (i % 256)) (10368 + q) (i / 256) ∙ long-1

  pub entered-line : need_line_of (need_entered t q i p) q ≡ i
  unfolding need_line_of need_entered
  entered-line =
      let a = set t (10240 + q) (i % 256) in
      let b = set a (10368 + q) (i / 256) in
      rw (
        get_or-set_other b (10496 + q) (10240 + q) p 0 (λ e. absurd (omega arith)),
        get_or-set_other a (10368 + q) (10240 + q) (i / 256) 0 (λ e. absurd (omega arith)),
        get_or-set_same t (10240 + q) (i % 256) 0 (omega arith),
        get_or-set_other b (10496 + q) (10368 + q) p 0 (λ e. absurd (omega arith)),
        get_or-set_same a (10368 + q) (i / 256) 0 (omega (arith, long-1)),
      )
      (omega (arith, div-add-mod' i 256))

  pub entered-position : need_position_of (need_entered t q i p) q ≡ p
  unfolding need_position_of need_entered
  entered-position = get_or-set_same (set (set t (10240 + q) (i % 256)) (10368 + q) (i / 256)) (10496 + q) p 0 (omega (arith, long-2))

  module _ (j : ℕ) (hj : j < 128) (ne : j ≡ q → ⊥) where
    pub other-line : need_line_of (need_entered t q i p) j ≡ need_line_of t j
    unfolding need_line_of need_entered
    other-line =
        let a = set t (10240 + q) (i % 256) in
        let b = set a (10368 + q) (i / 256) in
        rw (
          get_or-set_other b (10496 + q) (10240 + j) p 0 (λ e. absurd (omega arith)),
          get_or-set_other a (10368 + q) (10240 + j) (i / 256) 0 (λ e. absurd (omega arith)),
          get_or-set_other t (10240 + q) (10240 + j) (i % 256) 0 (λ e. ne (omega arith)),
          get_or-set_other b (10496 + q) (10368 + j) p 0 (λ e. absurd (omega arith)),
          get_or-set_other a (10368 + q) (10368 + j) (i / 256) 0 (λ e. ne (omega arith)),
          get_or-set_other t (10240 + q) (10368 + j) (i % 256) 0 (λ e. absurd (omega arith)),
        )

    pub other-position : need_position_of (need_entered t q i p) j ≡ need_position_of t j
    unfolding need_position_of need_entered
    other-position =
        let a = set t (10240 + q) (i % 256) in
        let b = set a (10368 + q) (i / 256) in
        rw (get_or-set_other b (10496 + q) (10496 + j) p 0 (λ e. ne (omega arith)), get_or-set_other a (10368 + q) (10496 + j) (i / 256) 0 (λ e. absurd (omega arith)), get_or-set_other t (10240 + q) (10496 + j) (i % 256) 0 (λ e. absurd (omega arith)))

-- ---- a kind of element

pub kind-outside : (t : List ℕ) (k : ElemKind) (p : ℕ) → Outside 10624 10629 t (kind_entered t k p)
unfolding kind_entered
kind-outside t k p = outside_set 10624 10629 t (10624 + kind_number k) (p + 1) (omega arith) (omega (arith, kind-low k))

module _ (t : List ℕ) (room : 62464 ≤ length t) (k : ElemKind) (p : ℕ) where
  pub kind-entered : (j : ElemKind) → kind_position (kind_entered t k p) j ≡ cond (same_type_key (elem_key j) (elem_key k)) (suc p) (kind_position t j)
  unfolding kind_entered kind_position
  kind-entered j = rw (elems-are j k) (go (eqb (kind_number j) (kind_number k)) refl)
    where
      go : (e : Bool) → eqb (kind_number j) (kind_number k) ≡ e → get_or (set t (10624 + kind_number k) (p + 1)) (10624 + kind_number j) 0 ≡ cond e (suc p) (get_or t (10624 + kind_number j) 0)
      go true e =
          let z : kind_number j ≡ kind_number k = eqb-true (kind_number j) (kind_number k) e in
          rw (z, get_or-set_same t (10624 + kind_number k) (p + 1) 0 (omega (arith, kind-low k))) (omega arith)
      go false e = get_or-set_other t (10624 + kind_number k) (10624 + kind_number j) (p + 1) 0 (λ z. eqb-false (kind_number j) (kind_number k) e (omega arith))

-- ---- a digest

-- the chains of needs lie in the working space, and their bytes apart
pub need-room : {t : List ℕ} → 62464 ≤ length t → ChainRoom t need_chains
unfolding digest_place
need-room room = record { low = λ i h. omega arith; within = λ i h. omega arith }

need-apart : PlacesApart need_chains 128
unfolding digest_place
need-apart = record { own = λ i j e. omega arith; link = λ i j h l e. omega arith; head = λ i k h l e. omega arith }

module _ (t : List ℕ) (room : 62464 ≤ length t) (q d : ℕ) (hq : q < 128) where
  pub digest-outside : Outside 10752 11264 t (digest_entered t q d)
  unfolding digest_entered digest_place
  digest-outside = outside-then (outside_set 10752 11264 t (10752 + q) d (omega arith) (omega arith)) (linked-outside (set t (10752 + q) d) need_chains q (omega arith) (omega arith) (λ k h. (omega arith, omega arith)))

  pub digest-new : digest_at (digest_entered t q d) need_chains q ≡ d
  unfolding digest_entered digest_place
  digest-new = let e : 10752 + 1 * q ≡ 10752 + q = omega arith in digest-stays need-apart (set t (10752 + q) d) hq q hq ∙ rw e (get_or-set_same t (10752 + q) d 0 (omega arith))

  before_same : SameBytes t (set t (10752 + q) d) need_chains q
  unfolding digest_place
  before_same = record {
    digest = λ i h. get_or-set_other t (10752 + q) (10752 + 1 * i) d 0 (λ e. omega arith);
    link = λ i h. get_or-set_other t (10752 + q) (10752 + 1 * i + 128) d 0 (λ e. omega arith);
    head = λ k h. get_or-set_other t (10752 + q) (10752 + 1 * k + 128 + 128) d 0 (λ e. omega arith);
  }

  pub digest-old : (j : ℕ) → j < q → digest_at (digest_entered t q d) need_chains j ≡ digest_at t need_chains j
  unfolding digest_entered
  digest-old j h = digest-stays need-apart (set t (10752 + q) d) hq j (omega arith) ∙ before_same.digest j h

  -- the needs before it and this one are chained
  pub chained-entered : Chained t need_chains q → Chained (digest_entered t q d) need_chains (suc q)
  unfolding digest_entered
  chained-entered c =
      chained-next (need-room (omega (arith, length-set t (10752 + q) d))) need-apart (omega arith) (omega arith) hq (chained-kept before_same (omega arith) c)

-- a store before the digests leaves the chains
pub chained-above : {t u : List ℕ} {a b m : ℕ} → b ≤ 10752 → Outside a b t u → Chained t need_chains m → Chained u need_chains m
unfolding digest_place
chained-above {t} {u} {m = m} h x c = chained-kept same (omega arith) c
  where
    same : SameBytes t u need_chains m
    same = record {
      digest = λ i l. digest-above h x i;
      link = λ i l. outside_above x (10752 + 1 * i + 128) (omega arith);
      head = λ k l. outside_above x (10752 + 1 * k + 128 + 128) (omega arith);
    }

-- ---- all kinds cleared

-- the kinds, each at its number
abbrev pub all_kinds : List Element
all_kinds = E.Byte ∷ E.Word ∷ E.Big ∷ E.Real ∷ E.Pointer ∷ []

abbrev pub kind_in : ℕ → ElemKind
kind_in j = element_kind (get_or all_kinds j E.Byte)

-- what holds of those below 5 or more holds of all
pub each-kind : (P : ElemKind → Type 0) (n : ℕ) → 5 ≤ n → ((j : ℕ) → j < n → P (kind_in j)) → (k : ElemKind) → P k
each-kind P n h z k_byte = z 0 (omega arith)
each-kind P n h z k_word = z 1 (omega arith)
each-kind P n h z k_big = z 2 (omega arith)
each-kind P n h z k_real = z 3 (omega arith)
each-kind P n h z k_ptr = z 4 (omega arith)

pub cleared-next : (t : List ℕ) (i : ℕ) → 62464 ≤ length t → ((j : ℕ) → j < i → kind_position t (kind_in j) ≡ 0) → (j : ℕ) → j < i + 1 → kind_position (set t (10624 + kind_number (kind_in i)) 0) (kind_in j) ≡ 0
unfolding kind_position
cleared-next t i room z j l = go (eqb (kind_number (kind_in j)) (kind_number (kind_in i))) refl
  where
    go : (e : Bool) → eqb (kind_number (kind_in j)) (kind_number (kind_in i)) ≡ e → get_or (set t (10624 + kind_number (kind_in i)) 0) (10624 + kind_number (kind_in j)) 0 ≡ 0
    go true e =
        let q : kind_number (kind_in j) ≡ kind_number (kind_in i) = eqb-true (kind_number (kind_in j)) (kind_number (kind_in i)) e in
        rw q (get_or-set_same t (10624 + kind_number (kind_in i)) 0 0 (omega (arith, kind-low (kind_in i))))
    go false e =
        let ne = eqb-false (kind_number (kind_in j)) (kind_number (kind_in i)) e in
        get_or-set_other t (10624 + kind_number (kind_in i)) (10624 + kind_number (kind_in j)) 0 0 (λ q. ne (omega arith))
        ∙ z j (before (eqb j i) refl ne)
      where
        before : (b : Bool) → eqb j i ≡ b → (kind_number (kind_in j) ≡ kind_number (kind_in i) → ⊥) → j < i
        before true b ne = absurd (ne (ap (λ (x : ℕ). kind_number (kind_in x)) (eqb-true j i b)))
        before false b ne = omega (arith, eqb-false j i b)
