-- Lines: what stands before each LF. Squid's helper protocol page: one line, one request or reply.
use Rattle.std.specs.Prelude.{◌≡◌, ℕ, List, [], ◌∷◌, ◌++◌, take, map}
use Rattle.std.specs.Io.KnownBytes.{Consumes}
use Rattle.std.specs.declared.option.Option.{Option}
use Rattle.sq_base.specs.Lines.{ended_lines}
use Rattle.sq_keeper.specs.declared.desk.Handed.{Handed}
use Rattle.sq_keeper.specs.declared.desk.Handed.TheVariants.{Line, Stop, Died}
use Rattle.sq_keeper.specs.declared.keeper.KeeperEnd.{KeeperEnd}
use Rattle.sq_keeper.specs.declared.keeper.KeeperEnd.TheVariants.{Ended, ReadFault, Told, WantOfMemory}
use Rattle.sq_keeper.specs.Handing.{Adds}

-- a line is handed on up to this many bytes: one more than a reply line may have
abbrev pub line_room : ℕ
line_room = 65537

-- the front of a line that is handed on
unfoldable pub cut : List ℕ → List ℕ
cut line = take line_room line

-- these lines, as a desk is handed them
abbrev pub lines_handed : ℕ → List ℕ → List Handed
lines_handed proc bytes = map (λ l. Line proc (cut l)) (ended_lines bytes)

-- what was handed on of the bytes that were read: each line, and then the death; where the desk
-- ended the reading, each line up to some LF, and that no more were wanted; nothing where there was
-- no memory
abbrev pub Hands : ℕ → List ℕ → KeeperEnd → List Handed → Type 0
Hands proc read Ended handed = handed ≡ lines_handed proc read ++ Died proc ∷ []
Hands proc read ReadFault handed = handed ≡ lines_handed proc read ++ Died proc ∷ []
Hands proc read Told handed = (front more : List ℕ) × (read ≡ front ++ 10 ∷ more)
    × (handed ≡ lines_handed proc (front ++ 10 ∷ []) ++ Stop proc ∷ [])
Hands proc read WantOfMemory handed = (read ≡ []) × (handed ≡ [])

-- some bytes of the source were read, and their lines were handed to the desk
pub record ReadsLines (proc : ℕ) (left_before left_now : Option (List ℕ))
    (before now : Option (List Handed)) (result : KeeperEnd) : Type 0 where
  pub read : List ℕ
  pub handed : List Handed
  pub consumed : Consumes left_before left_now read
  pub adds : Adds before now handed
  pub hands : Hands proc read result handed
