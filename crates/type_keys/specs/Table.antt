-- The table of descriptor keys in the working space, from byte 10240 on.
use Rattle.std.specs.Prelude.{ℕ, suc, ◌+◌, ◌*◌, ◌/◌, ◌%◌, ◌≤◌, ◌<◌, ◌≡◌, cond, List, [], eqb, length, get_or, set}
use Rattle.semantics.specs.Text.{Bytes, any}
use Rattle.semantics.specs.Tree.{ElemKind, TypeKey}
use Rattle.semantics.specs.Tree.ElemKind.{k_byte, k_word, k_big, k_real, k_ptr}
use Rattle.semantics.specs.Tree.TypeKey.{elem_key, opaque_key}
use Rattle.semantics.specs.Form.{letter}
use Rattle.semantics.specs.Array.{kind_number}
use Rattle.semantics.specs.Types.{same_type_key, distinct, position}
use Rattle.lines.specs.Lines.{lines_in, read_at}
use Rattle.chains.specs.declared.ChainPlaces.{ChainPlaces}
use Rattle.chains.specs.Chains.{linked}
use Rattle.type_lines.specs.Needs.{need_at}

-- 128 bytes each: the line, from 0, of need q, low and high byte, and the position of its key among the distinct keys
unfoldable pub need_line_of : Bytes → ℕ → ℕ
need_line_of t q = get_or t (10240 + q) 0 + 256 * get_or t (10368 + q) 0

unfoldable pub need_position_of : Bytes → ℕ → ℕ
need_position_of t q = get_or t (10496 + q) 0

-- for each kind of element 0 where its key is not used, or its position plus 1
unfoldable pub kind_position : Bytes → ElemKind → ℕ
kind_position t k = get_or t (10624 + kind_number k) 0

-- 128 bytes each: the digest of the text of need q; from 10880 on its link; from 11008 on the head of chain q
abbrev pub need_chains : ChainPlaces
need_chains = record { at = 10752; gap = 128; step = 1 }

-- the position of k among the keys js, from 1 on; 0 where it is none of them
abbrev pub position_from_one : TypeKey → List TypeKey → ℕ
position_from_one k js = cond (any (same_type_key k) js) (suc (position k js)) 0

-- the table has the lines of the needs ks, which are `need` lines, 78, and the positions of their keys
pub record Needs (s t : Bytes) (ks : List TypeKey) : Type 0 where
  pub few : length ks ≤ 128
  pub within : (q : ℕ) → q < length ks → need_line_of t q < lines_in s
  pub kind : (q : ℕ) → q < length ks → letter (read_at s (need_line_of t q)).form.kind ≡ 78
  pub key : (q : ℕ) → q < length ks → need_at s (need_line_of t q) ≡ get_or ks q opaque_key
  pub position : (q : ℕ) → q < length ks → need_position_of t q ≡ position (get_or ks q opaque_key) (distinct [] ks)

-- 1 where a kind of element is used
abbrev pub is_used : ℕ → ℕ
is_used p = cond (eqb p 0) 0 1

-- how many kinds of elements are used
unfoldable pub kinds_used : Bytes → ℕ
kinds_used t = is_used (kind_position t k_byte) + is_used (kind_position t k_word) + is_used (kind_position t k_big) + is_used (kind_position t k_real) + is_used (kind_position t k_ptr)

-- `keys` keys are distinct among ks, at most 128 besides those of elements, and the table has the positions of elements' keys
pub record Kinds (t : Bytes) (ks : List TypeKey) (keys : ℕ) : Type 0 where
  pub count : keys ≡ length (distinct [] ks)
  pub position : (k : ElemKind) → kind_position t k ≡ position_from_one (elem_key k) (distinct [] ks)
  pub few : keys ≤ 128 + kinds_used t

-- ---- what is stored

-- need q is on line i, from 0, and its key has position p
unfoldable pub need_entered : Bytes → ℕ → ℕ → ℕ → Bytes
need_entered t q i p = set (set (set t (10240 + q) (i % 256)) (10368 + q) (i / 256)) (10496 + q) p

-- its text has the digest d, by which it is linked
unfoldable pub digest_entered : Bytes → ℕ → ℕ → Bytes
digest_entered t q d = linked (set t (10752 + q) d) need_chains q

-- the key of element kind k has position p
unfoldable pub kind_entered : Bytes → ElemKind → ℕ → Bytes
kind_entered t k p = set t (10624 + kind_number k) (p + 1)
