-- In the statement: docs/STATEMENT.md lists which definitions.
-- Limits of the machine.
use Rattle.std.specs.Prelude.{ℕ, ◌-◌, ◌^◌}

-- the number that is never given: those below it are
abbrev pub last_number : ℕ
last_number = 2 ^ 63 - 1

-- connections that may be open at a time
abbrev pub conn_limit : ℕ
conn_limit = 65536

-- bytes of the key of a question
abbrev pub key_limit : ℕ
key_limit = 8192

-- epochs that may have an open check
abbrev pub epoch_limit : ℕ
epoch_limit = 16
