-- In the statement: docs/STATEMENT.md lists which definitions.
-- The requests of a rehearsal, each by a number of one sequence, and the replies to their
-- questions.
use Rattle.std.specs.Prelude.{ℕ, ◌+◌, ◌*◌, ◌/◌, ◌%◌, List, [], ◌∷◌, ◌++◌, Bool, true, false, ◌==◌, if◌then◌else◌, codes, decimal}
use Rattle.std.specs.declared.option.Option.{Option}
use Rattle.sq_base.specs.Addresses.{Address}
use Rattle.sq_base.specs.Replies.{channel_text}

-- the number after this one
abbrev pub number_after : ℕ → ℕ
number_after x = (1103515245 * x + 12345) % 2147483648

-- the number of the host that is asked for
abbrev pub host_number : ℕ → ℕ
host_number x = x / 16 % 50

-- the port that is asked for: one in eight is not the web's
abbrev pub port_of : ℕ → ℕ
port_of x = if x / 1024 % 8 == 0 then 81 else 80

-- the client, one of four from 10.0.0.1 on
abbrev pub client_of : ℕ → Address
client_of x = record { v6 = false; number = 167772161 + x % 4 }

-- the target: `http://hK.example:PORT/`
abbrev pub target_text : ℕ → List ℕ
target_text x = codes "http://h" ++ decimal (host_number x) ++ codes ".example:"
    ++ decimal (port_of x) ++ codes "/"

-- whether the last byte before the first `.` is even, where this is so of the byte before the first
-- of these
abbrev pub is_even_before : Bool → List ℕ → Bool
is_even_before even [] = even
is_even_before even (b ∷ bs) = if b == 46 then even else is_even_before (b % 2 == 0) bs

-- whether the number of the host that a key names is even
abbrev pub is_even_key : List ℕ → Bool
is_even_key key = is_even_before true key

-- the line of a reply: `OK` or `ERR`
abbrev pub reply_line : Option ℕ → Bool → List ℕ
reply_line channel ok = channel_text channel ++ (if ok then codes "OK" else codes "ERR")
