-- In the statement: docs/STATEMENT.md lists which definitions.
-- Domains of the configuration and the hosts in them (configuration reference, `acl`, type
-- dstdomain).
use Rattle.std.specs.Prelude.{ℕ, List, [], ◌∷◌, Bool, if◌then◌else◌, ◌||◌, ◌==◌, nat_eq, bytes_eq}
use Rattle.std.specs.List.{ends_with}
use Rattle.sq_base.specs.Bytes.{dot}

-- the host is the domain; one that begins with `.` stands for itself without it, and for all names
-- below
abbrev pub in_domain : List ℕ → List ℕ → Bool
in_domain host [] = bytes_eq [] host
in_domain host (b ∷ bs) = if b == dot then bytes_eq bs host || ends_with nat_eq host (b ∷ bs)
    else bytes_eq (b ∷ bs) host
