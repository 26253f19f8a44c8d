-- In the statement: docs/STATEMENT.md lists which definitions.
-- A history with what its steps said: beside each entry the question that was put there, and what a
-- check took there.
use Rattle.std.specs.Prelude.{ℕ, List, [], ◌∷◌}
use Rattle.std.specs.declared.option.Option.{Option}
use Rattle.sq_base.specs.declared.helpers.Answer.{Answer}
use Rattle.sq_machine.specs.Entries.{History, Noted}

-- a question as it was put: for an epoch, a class by its place, and a key
pub record Put : Type 0 where
  pub epoch : ℕ
  pub class : ℕ
  pub key : List ℕ

-- an entry, the question that was put there, and what a check took there
pub record Marked : Type 0 where
  pub entry : Noted
  pub put : Option Put
  pub took : Option Answer

-- the newest entry first
abbrev pub Past : Type 0
Past = List Marked

-- the entries alone
abbrev pub entries : Past → History
entries [] = []
entries (x ∷ m) = x.entry ∷ entries m
