-- Keys of the class by which names are looked up: the host, the name of the acl that asks, and `-`,
-- with a space between them (configuration reference, `external_acl_type`, FORMAT; `dst_lookup` is
-- this program's own).
use Rattle.std.specs.Prelude.{ℕ, ◌+◌, ◌-◌, List, ◌∷◌, ◌++◌, length, take, drop, Bool, ◌&&◌, ◌==◌, if◌then◌else◌, Some, None, codes, bytes_eq, nat_le, position}
use Rattle.std.specs.Option.{option_map}
use Rattle.std.specs.declared.option.Option.{Option}
use Rattle.percent_encoding.specs.Percent.{percent_decode}
use Rattle.sq_base.specs.Bytes.{space}
use Rattle.sq_dst.specs.declared.keys.LookupKey.{LookupKey}
use Rattle.sq_rules.specs.Keys.{key_escaped}

-- a line of more bytes is no key
abbrev pub question_limit : ℕ
question_limit = 65536

-- the key by which the acl of this name asks for this host
abbrev pub lookup_text : List ℕ → List ℕ → List ℕ
lookup_text host acl = key_escaped host ++ space ∷ (key_escaped acl ++ codes " -")

-- what stands before this end, if a text has it
abbrev pub before_end : List ℕ → List ℕ → Option (List ℕ)
before_end end text = if bytes_eq (drop (length text - length end) text) end
    then Some (take (length text - length end) text) else None

abbrev pub is_space : ℕ → Bool
is_space b = b == space

-- the word is some text as it stands in a key
abbrev pub is_key_word : List ℕ → Bool
is_key_word w = bytes_eq w (key_escaped (percent_decode w))

-- what two words ask for
abbrev pub key_of_words : List ℕ → List ℕ → Option LookupKey
key_of_words host acl = if is_key_word host && is_key_word acl
    then Some (record { host = percent_decode host; acl = percent_decode acl }) else None

-- the words stand before and behind the space at this place
abbrev pub key_at : List ℕ → Option ℕ → Option LookupKey
key_at words None = None
key_at words (Some n) = key_of_words (take n words) (drop (n + 1) words)

abbrev pub key_before : Option (List ℕ) → Option LookupKey
key_before None = None
key_before (Some words) = key_at words (position is_space words)

-- what a question asks for, if it is a key
unfoldable pub lookup_key : List ℕ → Option LookupKey
lookup_key question = if nat_le (length question) question_limit
    then key_before (before_end (codes " -") question) else None

-- the host of a question, if it is a key
abbrev pub host_asked : List ℕ → Option (List ℕ)
host_asked question = option_map (λ k. k.host) (lookup_key question)
