-- Chains of the entries of a table in the working space t: entries whose digests are equal modulo 128.
use Rattle.std.specs.Prelude.{ℕ, zero, suc, ◌+◌, ◌*◌, ◌%◌, ◌≤◌, ◌<◌, ◌≡◌, Bool, cond, ◌&&◌, Option, None, Some, ltb, eqb, length, get_or, set}
use Rattle.semantics.specs.Text.{Bytes}
use Rattle.chains.specs.declared.ChainPlaces.{ChainPlaces}

-- the newest of the first m entries that answer
unfoldable pub newest_of : (ℕ → Bool) → ℕ → Option ℕ
newest_of answers zero = None
newest_of answers (suc m) = cond (answers m) (Some m) (newest_of answers m)

-- how many entries there are up to one, none up to no entry
abbrev pub count_to : Option ℕ → ℕ
count_to None = 0
count_to (Some i) = suc i

-- ---- bytes

-- the chain of a digest
abbrev pub chain_of : ℕ → ℕ
chain_of d = d % 128

-- where the digest of entry i stands
unfoldable pub digest_place : ChainPlaces → ℕ → ℕ
digest_place c i = c.at + c.step * i

abbrev pub digest_at : Bytes → ChainPlaces → ℕ → ℕ
digest_at t c i = get_or t (digest_place c i) 0

unfoldable pub link_at : Bytes → ChainPlaces → ℕ → ℕ
link_at t c i = get_or t (digest_place c i + c.gap) 0

unfoldable pub head_at : Bytes → ChainPlaces → ℕ → ℕ
head_at t c k = get_or t (digest_place c k + c.gap + c.gap) 0

-- the chain of entry i
unfoldable pub chain_at : Bytes → ChainPlaces → ℕ → ℕ
chain_at t c i = chain_of (digest_at t c i)

-- whether entry i is of chain k
abbrev pub in_chain : Bytes → ChainPlaces → ℕ → ℕ → Bool
in_chain t c k i = eqb (chain_at t c i) k

-- the places that 256 entries would have lie in the working space, below 65536
pub record ChainRoom (t : Bytes) (c : ChainPlaces) : Type 0 where
  pub low : (i : ℕ) → i < 256 → digest_place c i + c.gap + c.gap < 65536
  pub within : (i : ℕ) → i < 256 → digest_place c i + c.gap + c.gap < length t

-- ---- chains

-- j, where it is one of the first m entries and of chain k
unfoldable pub entry_below : Bytes → ChainPlaces → ℕ → ℕ → ℕ → Option ℕ
entry_below t c m k j = cond (ltb j m && in_chain t c k j) (Some j) None

-- the entry that the head of chain k leads to, in a table of m
abbrev pub newest_in : Bytes → ChainPlaces → ℕ → ℕ → Option ℕ
newest_in t c m k = entry_below t c m k (head_at t c k)

-- the entry that the link of entry i leads to
abbrev pub earlier_than : Bytes → ChainPlaces → ℕ → Option ℕ
earlier_than t c i = entry_below t c i (chain_at t c i) (link_at t c i)

-- m entries are chained: each head leads to the newest of its chain, and each link to the next older one, where there are such
pub record Chained (t : Bytes) (c : ChainPlaces) (m : ℕ) : Type 0 where
  pub heads : (k : ℕ) → k < 128 → newest_in t c m k ≡ newest_of (in_chain t c k) m
  pub links : (i : ℕ) → i < m → earlier_than t c i ≡ newest_of (in_chain t c (chain_at t c i)) i

-- entry m becomes the newest of its chain
unfoldable pub linked : Bytes → ChainPlaces → ℕ → Bytes
linked t c m = set (set t (digest_place c m + c.gap) (head_at t c (chain_at t c m))) (digest_place c (chain_at t c m) + c.gap + c.gap) m
