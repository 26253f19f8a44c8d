-- What is asked for the name of a host, and in which order its addresses are tried.
use Rattle.std.specs.Prelude.{ℕ, List, [], ◌∷◌, ◌++◌, Bool, true, false, not, if◌then◌else◌, ◌&&◌, ◌||◌, ◌==◌, filter, bytes_eq, codes, Some, None, is_none}
use Rattle.std.specs.Char.{to_ascii_lowercase}
use Rattle.std.specs.declared.option.Option.{Option}
use Rattle.sq_base.specs.Addresses.{Address, address_of}
use Rattle.sq_base.specs.Bytes.{cr, dot, hash, lf, space, tab}
use Rattle.sq_system.specs.Hosts.{has_one_spelling}
use Rattle.sq_system.specs.declared.names.Goal.{Goal}

-- a name in its one spelling
abbrev pub is_name : List ℕ → Bool
is_name host = has_one_spelling host && is_none (address_of host)

-- what the system is asked for a host: a dot at the end keeps it from trying a name with what
-- resolv.conf has behind `search`. An address and any other spelling is asked for as it stands
abbrev pub asked : List ℕ → List ℕ
asked host = if is_name host then host ++ dot ∷ [] else host

-- what is read of a hosts file (hosts(5)): whether a comment has begun, the word that has not
-- ended, the line's first word, and the addresses that lines give for the name
pub record HostsRead : Type 0 where
  pub comment : Bool
  pub word : List ℕ
  pub first : List ℕ
  pub found : List Address

-- nothing
abbrev pub nothing_read : HostsRead
nothing_read = record { comment = false; word = []; first = []; found = [] }

-- a blank between words; CR stands before LF in files of other systems
abbrev pub is_gap : ℕ → Bool
is_gap b = b == space || b == tab || b == cr

-- an address more, where the line's first word is one
abbrev pub with_found : Option Address → List Address → List Address
with_found None found = found
with_found (Some a) found = found ++ a ∷ []

-- a word has ended: it is the first, or the name, or another
abbrev pub word_ended : List ℕ → List ℕ → List ℕ → HostsRead → HostsRead
word_ended name [] first s = s
word_ended name (b ∷ bs) [] s = record s { word = []; first = b ∷ bs }
word_ended name (b ∷ bs) (c ∷ cs) s =
    if bytes_eq (b ∷ bs) name
    then record s { word = []; found = with_found (address_of (c ∷ cs)) s.found }
    else record s { word = [] }

abbrev pub ended : List ℕ → HostsRead → HostsRead
ended name s = word_ended name s.word s.first s

-- the next byte; names are compared in lower case
abbrev pub byte_read : List ℕ → HostsRead → ℕ → HostsRead
byte_read name s b =
    if b == lf then record (ended name s) { comment = false; first = [] }
    else (if s.comment then s
    else (if b == hash then record (ended name s) { comment = true }
    else (if is_gap b then ended name s
    else record s { word = s.word ++ to_ascii_lowercase b ∷ [] })))

abbrev pub all_read : List ℕ → HostsRead → List ℕ → HostsRead
all_read name s [] = s
all_read name s (b ∷ bs) = all_read name (byte_read name s b) bs

-- the addresses that a hosts file has for a name in lower case
abbrev pub hosts_addresses : List ℕ → List ℕ → List Address
hosts_addresses name text = (ended name (all_read name nothing_read text)).found

-- one of the first, then one of the second, and so on
abbrev pub in_turns : List Goal → List Goal → List Goal
in_turns [] second = second
in_turns (a ∷ first) [] = a ∷ in_turns first []
in_turns (a ∷ first) (b ∷ second) = a ∷ b ∷ in_turns first second

abbrev pub is_kind : Bool → Bool → Goal → Bool
is_kind v6 late g = (if v6 then g.v6 else not g.v6) && (if late then g.late else not g.late)

-- those of one kind in their order: IPv6 first, and then one of each (RFC 8305 section 4)
abbrev pub turns_of : Bool → List Goal → List Goal
turns_of late goals = in_turns (filter (is_kind true late) goals)
    (filter (is_kind false late) goals)

-- the order in which addresses are tried: those that failed or lost of late are the last
abbrev pub tried_so : List Goal → List Goal
tried_so goals = turns_of false goals ++ turns_of true goals
