-- In the statement: docs/STATEMENT.md lists which definitions.
-- The openings of a run: of the files that its lines name, one for each line, in the order of the
-- lines.
use Rattle.std.specs.Prelude.{◌≡◌, ℕ, ◌+◌, List, [], ◌∷◌, ◌++◌, length, Result, Ok, Err, Some, None, IfSome}
use Rattle.std.specs.Io.KnownBytes.{IsAtEnd}
use Rattle.std.specs.declared.option.Option.{Option}
use Rattle.sq_outside.specs.SourceLines.{SourceLine, lines}
use Rattle.sq_outside.specs.Told.{Opening, Openings}
use Rattle.sq_machine.specs.declared.entries.Event.{Event}
use Rattle.sq_machine.specs.declared.entries.Event.TheVariants.{Reconfigure}
use Rattle.sq_rules.specs.ConfText.{conf_result}
use Rattle.sq_rules.specs.Configurations.{Configuration}
use Rattle.sq_replay.specs.declared.ends.RunEnd.{RunEnd}
use Rattle.sq_replay.specs.declared.ends.RunEnd.TheVariants as ends
use Rattle.sq_replay.specs.RunText.{stated}

-- where openings are told, some were added, newest first, of which P holds
abbrev pub Added : Openings → Openings → (List Opening → Type 0) → Type 0
Added old new P = IfSome old
    (λ earlier. (more : List Opening) × (new ≡ Some (more ++ earlier)) × P more)

-- names

-- the file that an event of a script names
abbrev pub name_of : Event → Option (List ℕ)
name_of (Reconfigure name) = Some name
name_of event = None

-- the file that a line names
abbrev pub name_in : Option (ℕ × Event) → Option (List ℕ)
name_in None = None
name_in (Some (now, event)) = name_of event

-- the file that a line names
abbrev pub name_at : SourceLine → Option (List ℕ)
name_at l = name_in (stated l.bytes)

-- a name in front of the others, if there is one
abbrev pub before_names : Option (List ℕ) → List (List ℕ) → List (List ℕ)
before_names None names = names
before_names (Some name) names = name ∷ names

-- the files that lines name, in their order
abbrev pub names_in : List SourceLine → List (List ℕ)
names_in [] = []
names_in (l ∷ ls) = before_names (name_at l) (names_in ls)

-- the file that the first of these lines names
abbrev pub next_name : List SourceLine → Option (List ℕ)
next_name [] = None
next_name (l ∷ ls) = name_at l

-- the names of openings, the newest of which stands first, in their order
abbrev pub opened_names : List Opening → List (List ℕ)
opened_names [] = []
opened_names (o ∷ more) = opened_names more ++ o.name ∷ []

-- openings

-- the text of an opening gives a configuration
abbrev pub Gives : Opening → Type 0
Gives o = (config : Configuration) × (conf_result o.text ≡ Ok config)

-- all of these openings gave a source
abbrev pub AllGive : List Opening → Type 0
AllGive [] = Unit {0}
AllGive (o ∷ more) = Gives o × AllGive more

-- each file that these lines name was opened once, in their order, and gave a configuration
pub record LinesOpened (ls : List SourceLine) (more : List Opening) : Type 0 where
  pub names : opened_names more ≡ names_in ls
  pub give : AllGive more

-- the file of this name was opened, if there is a name, and nothing else was, and it gave a
-- configuration
abbrev pub NameOpened : Option (List ℕ) → List Opening → Type 0
NameOpened None more = more ≡ []
NameOpened (Some name) more = (o : Opening) × (more ≡ o ∷ []) × (o.name ≡ name) × Gives o

-- it was opened once at most, and nothing else was
abbrev pub MayOpen : Option (List ℕ) → List Opening → Type 0
MayOpen name [] = Unit {0}
MayOpen name (o ∷ []) = name ≡ Some o.name
MayOpen name (o ∷ p ∷ more) = ⊥

-- what a line with this number opened that names this file, if it names one, and ended its run so:
-- a file with a fault was opened, and one that is missed was not
abbrev pub StopOpened : ℕ → RunEnd → Option (List ℕ) → List Opening → Type 0
StopOpened number ends.Ok name more = more ≡ []
StopOpened number (ends.Script line) name more = (line ≡ number) × MayOpen name more
StopOpened number (ends.Config e) name more = (o : Opening) × (more ≡ o ∷ []) × (name ≡ Some o.name)
    × (conf_result o.text ≡ Err e)
StopOpened number (ends.Missing missed) name more = (more ≡ []) × (name ≡ Some missed)
StopOpened number end name more = MayOpen name more

-- what a line with this number opened that names this file, if it names one
abbrev pub StepOpened : {A : Type 0} → ℕ → Option (List ℕ) → Result A RunEnd → List Opening → Type 0
StepOpened number name (Ok done) more = NameOpened name more
StepOpened number name (Err end) more = StopOpened number end name more

-- The openings of a run of these lines, behind so many others: those of the lines that it ran, and
-- what the line opened at which it ended; a run that ended well ran all, and opened nothing more.
pub record RunOpened (count : ℕ) (ls : List SourceLine) (end : RunEnd)
    (more : List Opening) : Type 0 where
  pub done : List SourceLine
  pub left : List SourceLine
  pub earlier : List Opening
  pub last : List Opening
  pub lines_are : ls ≡ done ++ left
  pub more_is : more ≡ last ++ earlier
  pub ran : LinesOpened done earlier
  pub stops : StopOpened (count + length done + 1) end (next_name left) last
  pub whole : end ≡ ends.Ok → left ≡ []

-- so it is under way, before the line with this number, which is the first of the bytes that are
-- left
pub record OpenedSoFar (count : ℕ) (ls : List SourceLine) (old new : Openings)
    (left : Option (List ℕ)) (number : ℕ) : Type 0 where
  pub done : List SourceLine
  pub bytes : List ℕ
  pub left_is : left ≡ Some bytes
  pub lines_are : ls ≡ done ++ lines bytes
  pub number_is : number ≡ count + length done + 1
  pub ran : Added old new (LinesOpened done)

-- a script whose run ended well was read to its end
abbrev pub ReachesEnd : RunEnd → Option (List ℕ) → Option (List ℕ) → Type 0
ReachesEnd ends.Ok old new = IfSome old (λ bytes. IsAtEnd new)
ReachesEnd end old new = Unit {0}
