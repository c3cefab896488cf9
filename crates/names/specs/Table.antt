-- The table of constants in the working space, and the log that it holds.
-- Entry i takes 16 bytes from 5120 + 16 i: the `con` line and its module's line, 0 for none, two bytes each, the low one first; a slot;
-- the constant's digest; its link, and the head of chain i.
-- A slot is a kind and 8 bytes, the highest first: 0 failed, 1 an integer's bits, 2 a real's, 3 a string's place + 65536 times its length.
use Rattle.std.specs.Prelude.{ℕ, zero, suc, ◌+◌, ◌*◌, ◌/◌, ◌%◌, ◌≤◌, ◌<◌, ◌≡◌, Bool, cond, not, ◌&&◌, List, [], ◌++◌, eqb, take, drop, get_or, Option, None, Some, option_map}
use Rattle.std.specs.Option.{is_some}
use Rattle.std.specs.Float.{binary64}
use Rattle.std.specs.Float.Ieee.{of_bits}
use Rattle.semantics.specs.Text.{Bytes, same, any}
use Rattle.semantics.specs.Tree.{ConstVal}
use Rattle.semantics.specs.Tree.ConstVal.{v_int, v_real, v_str}
use Rattle.semantics.specs.Sheet.{sheet_source}
use Rattle.semantics.specs.Fold.{Key, Const, Names, signed64, same_option, same_key, look_up, value_of}
use Rattle.semantics.specs.Const.{entries}
use Rattle.chains.specs.declared.ChainPlaces.{ChainPlaces}
use Rattle.chains.specs.Chains.{newest_of, count_to, digest_at, Chained}
use Rattle.names.specs.declared.Key as declared
use Rattle.words.specs.Words.{digest_from, digest, u16_at, bits_at}
use Rattle.implement.specs.Modules.{first_field, module_at, is_own}
use Rattle.checks.specs.Checks.{Checked}
use Rattle.lines.specs.Lines.{lines_in}

abbrev pub const_line_of : Bytes → ℕ → ℕ
const_line_of t i = u16_at t (5120 + 16 * i)

abbrev pub module_line_of : Bytes → ℕ → ℕ
module_line_of t i = u16_at t (5122 + 16 * i)

-- ---- slots

-- the value of a kind and bits
unfoldable pub value_by : Bytes → ℕ → ℕ → Option ConstVal
unfolding of_bits
value_by t k b =
    cond (eqb k 1) (Some (v_int (signed64 b)))
    (cond (eqb k 2) (Some (v_real (of_bits binary64 b)))
    (cond (eqb k 3) (Some (v_str (take (b / 65536) (drop (b % 65536) t)))) None))

unfoldable pub slot_value : Bytes → ℕ → Option ConstVal
slot_value t a = value_by t (get_or t a 0) (bits_at t (a + 1))

-- the kind and the bits of entry i
abbrev pub kind_of : Bytes → ℕ → ℕ
kind_of t i = get_or t (5124 + 16 * i) 0

abbrev pub bits_of : Bytes → ℕ → ℕ
bits_of t i = bits_at t (5125 + 16 * i)

-- where the digests stand, by which look-ups pass over entries, and the links and heads
abbrev pub const_chains : ChainPlaces
const_chains = record { at = 5133; gap = 1; step = 16 }

-- the digest for a module and a name: the module counts unless it is implemented, since the names of that one are also plain
unfoldable pub qualified_digest : Bytes → Bytes → Bytes → ℕ
qualified_digest s q x = cond (same_option (sheet_source s).implement (Some q)) (digest x) (digest_from (digest x) q)

-- the digest for a name in the module of line k, in none for 0
unfoldable pub const_digest : Bytes → ℕ → Bytes → ℕ
const_digest s zero x = digest x
const_digest s (suc k) x = qualified_digest s (first_field s (suc k)) x

-- ---- the log

unfoldable pub entries_at : Bytes → Bytes → ℕ → List Const
entries_at s t i = entries (sheet_source s).implement (module_at s (module_line_of t i)) (first_field s (const_line_of t i)) (slot_value t (5124 + 16 * i))

-- the constants of the first m entries, the newest first
unfoldable pub log_in : Bytes → Bytes → ℕ → List Const
log_in s t zero = []
log_in s t (suc m) = entries_at s t m ++ log_in s t m

-- what names say by them
abbrev pub names_in : Bytes → Bytes → ℕ → Names
names_in s t m = record { log = log_in s t m }

-- a string's bytes lie among the constants' strings
pub record StringPlace (b : ℕ) : Type 0 where
  pub low : 16384 ≤ b % 65536
  pub high : b % 65536 + b / 65536 ≤ 49152
  pub short : b / 65536 ≤ 256

-- an entry of a table for a sheet of n lines; its string lies at a place of its own
pub record EntryBounds (t : Bytes) (n i : ℕ) : Type 0 where
  pub first : 0 < const_line_of t i
  pub last : const_line_of t i ≤ n
  pub within : module_line_of t i ≤ n
  pub kind : kind_of t i ≤ 3
  pub text : kind_of t i ≡ 3 → StringPlace (bits_of t i)
  pub own : kind_of t i ≡ 3 → bits_of t i % 65536 ≡ 16384 + 256 * i

-- the table's m entries, each with the digest of its constant, and chained by it
pub record ConstsLogged (s t : Bytes) (m : ℕ) : Type 0 where
  pub few : m ≤ 128
  pub each : (i : ℕ) → i < m → EntryBounds t (lines_in s) i
  pub digests : (i : ℕ) → i < m → digest_at t const_chains i ≡ const_digest s (module_line_of t i) (first_field s (const_line_of t i))
  pub chained : Chained t const_chains m

-- the table of a checked sheet has m entries
pub record ConstTable (s t : Bytes) (m : ℕ) : Type 0 where
  pub checked : Checked s
  pub logged : ConstsLogged s t m

-- i is one of them
pub record ConstEntry (s t : Bytes) (i : ℕ) : Type 0 where
  pub checked : Checked s
  pub low : i < 128
  pub entry : EntryBounds t (lines_in s) i
  pub digested : digest_at t const_chains i ≡ const_digest s (module_line_of t i) (first_field s (const_line_of t i))

-- the value of an entry that a look-up found
unfoldable pub found : Bytes → Option ℕ → Option ConstVal
found t None = None
found t (Some i) = slot_value t (5124 + 16 * i)

-- r is what a look-up answers, and a string that it names lies at its place
pub record Answered (t : Bytes) (r : Option ℕ) : Type 0 where
  pub few : count_to r ≤ 128
  pub text : (i : ℕ) → r ≡ Some i → kind_of t i ≡ 3 → StringPlace (bits_of t i)

-- ---- which keys an entry enters

-- whether constants have one of a key
unfoldable pub has_key : Key → List Const → Bool
has_key k cs = any (λ (c : Const). same_key k c.key) cs

-- whether a constant in the module of line k, in none for 0, has keys within a module of a name, or by the name alone: those outside
-- modules and in the implemented module have
unfoldable pub is_within : Bytes → ℕ → Option Bytes → Bool
is_within s k None = is_own s k
is_within s k (Some q) = not (eqb k 0) && same q (first_field s k)

unfoldable pub answers_key : Bytes → Bytes → ℕ → Key → Bool
answers_key s t i k = same k.name (first_field s (const_line_of t i)) && is_within s (module_line_of t i) k.within

abbrev pub newest_key : Bytes → Bytes → ℕ → Key → Option ℕ
newest_key s t m k = newest_of (λ (i : ℕ). answers_key s t i k) m

-- a key, as the definitions have it
abbrev pub key_of : declared.Key → Key
key_of k = record { within = option_map (λ m. m.now) k.within; name = k.name.now }

-- the digest for a key
abbrev pub digest_within : Bytes → Option Bytes → Bytes → ℕ
digest_within s None x = digest x
digest_within s (Some q) x = qualified_digest s q x

abbrev pub key_digest : Bytes → Key → ℕ
key_digest s k = digest_within s k.within k.name

-- r is the newest of m entries that enter the key k, and tells what the log has
pub record Looked (s t : Bytes) (k : Key) (m : ℕ) (r : Option ℕ) : Type 0 where
  pub value : value_of (look_up k (log_in s t m)) ≡ found t r
  pub low : count_to r ≤ m
  pub has : has_key k (log_in s t m) ≡ is_some r
  pub newest-is : r ≡ newest_key s t m k
