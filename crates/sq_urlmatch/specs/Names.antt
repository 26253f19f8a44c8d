-- Names of hosts and the hosts that they stand for, and a table of names by a hash of their bytes.
use Rattle.std.specs.Prelude.{◌≡◌, ℕ, ◌+◌, ◌*◌, ◌^◌, ◌/◌, ◌%◌, ◌<◌, List, [], ◌∷◌, Bool, true, false, ◌&&◌, ◌||◌, ◌==◌, nat_lt, length, bytes_eq, slice_index_or}
use Rattle.std.specs.List.{list_any, All}
use Rattle.std.specs.List.Sorted.{IsPartitionPoint}
use Rattle.sq_base.specs.Bytes.{dot}
use Rattle.sq_urlmatch.specs.declared.names.Name.{Name}

-- the host ends in a dot and the name
abbrev pub is_below : List ℕ → List ℕ → Bool
is_below name [] = false
is_below name (b ∷ bs) = is_below name bs || ((b == dot) && bytes_eq name bs)

-- the name is the host, or is wide and the host is below it
abbrev pub is_at : Name → List ℕ → Bool
is_at n host = bytes_eq n.name host || (n.wide && is_below n.name host)

-- some name stands for the host
abbrev pub has_host : List Name → List ℕ → Bool
has_host names host = list_any (λ n. is_at n host) names

-- the name is this one; one that is not wide counts for a whole host alone
abbrev pub is_named : List ℕ → Bool → Name → Bool
is_named bytes whole n = bytes_eq n.name bytes && (whole || n.wide)

-- some name is
abbrev pub some_named : List Name → List ℕ → Bool → Bool
some_named names bytes whole = list_any (λ n. is_named bytes whole n) names

-- some wide name has the host below it
abbrev pub some_above : List Name → List ℕ → Bool
some_above names [] = false
some_above names (b ∷ bs) = some_above names bs || ((b == dot) && some_named names bs false)

-- the hash of a text with one byte more before it
abbrev pub mixed : ℕ → ℕ → ℕ
mixed hash byte = (((hash + byte) % 2 ^ 64) * 2685821657736338717) % 2 ^ 64

-- the hash of a text, from its last byte to its first
abbrev pub hash_of : List ℕ → ℕ
hash_of [] = 0
hash_of (b ∷ bs) = mixed (hash_of bs) b

-- the place of a hash: its first bits
abbrev pub place_of : ℕ → ℕ → ℕ
place_of hash shift = hash / 2 ^ shift

-- each name has its own hash
abbrev pub AreHashed : List Name → Type 0
AreHashed names = All (λ n. n.hash ≡ hash_of n.name) names

-- the names of earlier places stand before this index, and the others from it on
abbrev pub Parts : List Name → ℕ → ℕ → ℕ → Type 0
Parts names shift place index = IsPartitionPoint (λ n. nat_lt (place_of n.hash shift) place ≡ true)
    (λ n. nat_lt (place_of n.hash shift) place ≡ false) names index

-- each start parts the names at its place
abbrev pub AreStarts : List Name → ℕ → List ℕ → Type 0
AreStarts names shift starts = (place : ℕ) → place < length starts → Parts names shift place
    (slice_index_or starts place 0)

-- names with hashes, and where each place begins
pub record IsTable (names : List Name) (shift : ℕ) (begins : List ℕ) : Type 0 where
  pub fits : shift < 64
  pub hashed : AreHashed names
  pub starts : AreStarts names shift begins
