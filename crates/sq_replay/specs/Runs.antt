-- In the statement: docs/STATEMENT.md lists which definitions.
-- A run under way: the machine with its pools, what was written, and what the script has left.
use Rattle.std.specs.Prelude.{◌≡◌, ◌⊎◌, ℕ, ◌+◌, ◌≤◌, suc, List, [], ◌∷◌, ◌++◌, length, if◌then◌else◌, true, Result, Ok, Err, Some, None, IfSome}
use Rattle.std.specs.Io.KnownBytes.{Appends}
use Rattle.std.specs.declared.option.Option.{Option}
use Rattle.sq_base.specs.Addresses.{Address}
use Rattle.sq_base.specs.declared.helpers.Answer.{Answer}
use Rattle.sq_outside.specs.Causes.{Rose}
use Rattle.sq_outside.specs.Output.{Grew, IsPrefix, IsProperPrefix}
use Rattle.sq_outside.specs.SourceLines.{SourceLine, lines}
use Rattle.sq_outside.specs.Told.{Opening, Openings, Texts}
use Rattle.sq_machine.specs.declared.entries.Event.{Event}
use Rattle.sq_machine.specs.declared.entries.Event.TheVariants.{Reconfigure}
use Rattle.sq_machine.specs.declared.entries.Told.{Told}
use Rattle.sq_machine.specs.Checks.{Asked}
use Rattle.sq_rules.specs.ConfText.{conf_result}
use Rattle.sq_rules.specs.Configurations.{Configuration}
use Rattle.sq_machine.specs.Entries.{History, entry_at}
use Rattle.sq_machine.specs.Events.{begins_epoch}
use Rattle.sq_machine.specs.Machine.{next}
use Rattle.sq_machine.specs.Epochs.{config_of}
use Rattle.sq_machine.specs.Next.{gives}
use Rattle.sq_machine.specs.Marking.{marked}
use Rattle.sq_machine.specs.Marks.{Past}
use Rattle.sq_machine.specs.PoolHistories.{Addressed, Tagged, pool_history}
use Rattle.sq_machine.specs.Readings.{current, latest}
use Rattle.sq_machine.specs.SeatPlaces.{seat_place}
use Rattle.sq_machine.specs.TakenRecords.{allowed_of, taken_answers}
use Rattle.sq_machine.specs.declared.places.SeatPlace.{SeatPlace}
use Rattle.sq_journal.specs.EntryText.{written}
use Rattle.sq_pools.specs.Basins.{Basin}
use Rattle.sq_pools.specs.Stands.{PoolsStand}
use Rattle.sq_model.specs.Promises.{StandsFor}
use Rattle.sq_model.specs.States.{State}
use Rattle.sq_replay.specs.declared.ends.RunEnd.{RunEnd}
use Rattle.sq_replay.specs.declared.ends.RunEnd.TheVariants as ends
use Rattle.sq_replay.specs.Ends.{End, Done, Refused, Faulted, Reading, Writing, Lacking, end_of}
use Rattle.sq_replay.specs.Headline.{IsAhead}
use Rattle.sq_replay.specs.RunText.{ScriptRun, Shelf, acts, configs_of, run_lines, run_script, stated, stated_step}

-- what was written

-- since `base` the text was written, but for what the page holds of it
pub record Wrote (base contents : Option (List ℕ)) (page text : List ℕ) : Type 0 where
  pub done : List ℕ
  pub appends : Appends base contents done
  pub whole : done ++ page ≡ text

-- the same of a front of the text
pub record WroteFront (base contents : Option (List ℕ)) (page text : List ℕ) : Type 0 where
  pub front : List ℕ
  pub begins : IsPrefix front text
  pub wrote : Wrote base contents page front

-- the page holds a front of this text more
pub record HoldsFront (old new text : List ℕ) : Type 0 where
  pub front : List ℕ
  pub begins : IsPrefix front text
  pub page_is : new ≡ old ++ front

-- a text of whole lines, each with its LF
abbrev pub EndsLine : List ℕ → Type 0
EndsLine text = (text ≡ []) ⊎ ((front : List ℕ) × (text ≡ front ++ 10 ∷ []))

-- what `WroteFront` says, of a front of whole lines
pub record WroteLines (base contents : Option (List ℕ)) (page text : List ℕ) : Type 0 where
  pub front : List ℕ
  pub begins : IsPrefix front text
  pub lines : EndsLine front
  pub wrote : Wrote base contents page front

-- since `base` a front of the text was written, and not all
abbrev pub WrotePart : Option (List ℕ) → Option (List ℕ) → List ℕ → Type 0
WrotePart base contents text = Grew base contents (λ part. IsProperPrefix part text)

-- the machine

-- a record that allows, as a seat needs it: its epoch with the configuration, where it is seated,
-- and the client's address
pub record Rider : Type 0 where
  pub epoch : ℕ
  pub config : Configuration
  pub place : SeatPlace
  pub addr : Address

-- the record is of this check, which had these answers
pub record IsRider (configs : List Configuration) (a : Asked) (answers : List Answer)
    (r : Rider) : Type 0 where
  pub epoch_is : r.epoch ≡ a.epoch
  pub config_is : config_of configs a.epoch ≡ Some r.config
  pub place_is : r.place ≡ seat_place r.config a.sight answers
  pub addr_is : r.addr ≡ a.sight.addr

-- there is such a record exactly where there is a check
abbrev pub Rides : List Configuration → Option Asked → List Answer → Option Rider → Type 0
Rides configs None answers None = Unit {0}
Rides configs None answers (Some r) = ⊥
Rides configs (Some a) answers None = ⊥
Rides configs (Some a) answers (Some r) = IsRider configs a answers r

-- the pools with buckets by addresses, and those with buckets by tags
pub record BothPools : Type 0 where
  pub addressed : Basin
  pub tagged : Basin

-- the machine that a script runs: the engine's state, the pools, the greatest moment of all
-- entries, and the record last taken on each connection, where it allows
pub record ScriptView : Type 0 where
  pub state : State
  pub pools : BothPools
  pub latest : ℕ
  pub riders : ℕ → Option Rider

-- pools of both kinds stand for what this past says to each
pub record BothStand (p : BothPools) (configs : List Configuration) (m : Past) : Type 0 where
  pub addressed : PoolsStand p.addressed (pool_history Addressed configs m)
  pub tagged : PoolsStand p.tagged (pool_history Tagged configs m)

-- it stands for this history, which is legal over these configurations
pub record Is (v : ScriptView) (configs : List Configuration) (h : History) : Type 0 where
  pub engine : StandsFor configs h v.state
  pub pools : BothStand v.pools configs (marked configs h)
  pub latest_is : v.latest ≡ latest h
  pub riders_are : (c : ℕ)
      → Rides configs (allowed_of h c) (taken_answers configs (marked configs h) c) (v.riders c)

-- and the lines of the history were written since `base`, but for what the page holds
pub record At (v : ScriptView) (base contents : Option (List ℕ)) (page : List ℕ)
    (configs : List Configuration) (h : History) : Type 0 where
  pub is : Is v configs h
  pub wrote : Wrote base contents page (written h)

-- after this history the machine answers so to an event at this moment, and then stands for the
-- history with the entry
pub record IsMade (v : ScriptView) (configs : List Configuration) (h : History) (moment : ℕ)
    (event : Event) (answer : Told) : Type 0 where
  pub next_is : next configs (marked configs h) moment event ≡ gives answer
  pub is : Is v configs (entry_at moment event answer ∷ h)

-- the acts

-- a history from which the acts go on to the same end, and whose lines were written
pub record Reached (v : ScriptView) (base contents : Option (List ℕ)) (page : List ℕ)
    (configs : List Configuration) (h : History) : Type 0 where
  pub history : History
  pub same : acts configs history ≡ acts configs h
  pub at : At v base contents page configs history

-- files

-- what files tell is what stands on the shelf, whenever it is opened
abbrev pub IsShelf : Texts → Shelf → Type 0
IsShelf None files = ⊥
IsShelf (Some disk) files = (e : ℕ) (name : List ℕ) → files e name ≡ disk name

-- these openings, the newest first, gave what stands on the shelf, one in each epoch from this one
-- on
abbrev pub StandOn : Shelf → ℕ → List Opening → Type 0
StandOn files e [] = Unit {0}
StandOn files e (o ∷ more) = (files (e + length more) o.name ≡ Some o.text) × StandOn files e more

-- the file that a run misses
abbrev pub missed : RunEnd → Option (List ℕ)
missed (ends.Missing name) = Some name
missed end = None

abbrev pub missed_by : {A : Type 0} → Result A RunEnd → Option (List ℕ)
missed_by (Ok done) = None
missed_by (Err end) = missed end

-- a file that is missed does not stand on the shelf
abbrev pub Lacks : Shelf → ℕ → Option (List ℕ) → Type 0
Lacks files e None = Unit {0}
Lacks files e (Some name) = files e name ≡ None

-- the openings that were added gave what stands on the shelf from this epoch on, and a file that
-- was missed then does not stand there
pub record Opened (old new : Openings) (files : Shelf) (e : ℕ)
    (missing : Option (List ℕ)) : Type 0 where
  pub earlier : List Opening
  pub more : List Opening
  pub old_is : old ≡ Some earlier
  pub new_is : new ≡ Some (more ++ earlier)
  pub stand : StandOn files e more
  pub lacks : Lacks files (e + length more) missing

-- the files tell what stands on the shelf: by the text of each name, or by their openings since
-- this epoch
abbrev pub Tells : Texts → Openings → Openings → Shelf → ℕ → Option (List ℕ) → Type 0
Tells texts old new files e missing = IsShelf texts files ⊎ Opened old new files e missing

-- where openings are told, some were added
abbrev pub Adds : Openings → Openings → Type 0
Adds old new = IfSome old (λ earlier. (more : List Opening) × (new ≡ Some (more ++ earlier)))

-- so many of them
abbrev pub AddsCount : Openings → Openings → ℕ → Type 0
AddsCount old new n = IfSome old
    (λ earlier. (more : List Opening) × (new ≡ Some (more ++ earlier)) × (length more ≡ n))

-- the openings that an event of a line takes
abbrev pub openings_of : Event → ℕ
openings_of event = if begins_epoch event then 1 else 0

abbrev pub openings_in : Option (ℕ × Event) → ℕ
openings_in None = 0
openings_in (Some (now, event)) = openings_of event

-- the configuration that a reconfiguration would read is that of the next epoch
abbrev pub HasNext : Shelf → List Configuration → History → Event → Type 0
HasNext files configs h (Reconfigure name) =
    (text : List ℕ) (config : Configuration) → files (current h) name ≡ Some text
    → conf_result text ≡ Ok config → config_of configs (suc (current h)) ≡ Some config
HasNext files configs h event = Unit {0}

-- one step

-- the text that a step comes to
abbrev pub step_text : History → Result History RunEnd → List ℕ
step_text h (Ok t) = written t
step_text h (Err end) = written h

abbrev pub StopsAs : End → Option (List ℕ) → Option (List ℕ) → List ℕ → History
    → Result History RunEnd → RunEnd → Type 0
StopsAs Done base contents page h step end = ⊥
StopsAs Refused base contents page h step end = (step ≡ Err end)
    × Wrote base contents page (written h)
StopsAs (Faulted Reading) base contents page h step end = Wrote base contents page (written h)
StopsAs (Faulted Writing) base contents page h step end = WrotePart base contents (step_text h step)
StopsAs (Faulted Lacking) base contents page h step end = WroteFront base contents page
    (step_text h step)

-- the run stops at this step: the step is refused, or a fault came; a file is read before the
-- step's lines are written
abbrev pub Stops : Option (List ℕ) → Option (List ℕ) → List ℕ → History → Result History RunEnd
    → RunEnd → Type 0
Stops base contents page h step end = StopsAs (end_of end) base contents page h step end

-- a step was made, and the run goes on; or it stops
abbrev pub Goes : ScriptView → Option (List ℕ) → Option (List ℕ) → List ℕ → List Configuration
    → History → Result History RunEnd → Result (Unit {0}) RunEnd → Type 0
Goes v base contents page configs h step (Ok done) = (t : History) × (step ≡ Ok t)
    × At v base contents page configs t
Goes v base contents page configs h step (Err end) = Stops base contents page h step end

-- what files told of a run: by the text of each name, or by the openings before it and after it
pub record ToldFiles : Type 0 where
  pub texts : Texts
  pub before : Openings
  pub after : Openings

abbrev pub told_files : Texts → Openings → Openings → ToldFiles
told_files texts before after = record { texts = texts; before = before; after = after }

-- what a sink has, told since `base`, and the page that was not written to it
pub record Paged : Type 0 where
  pub base : Option (List ℕ)
  pub contents : Option (List ℕ)
  pub page : List ℕ

abbrev pub paged : Option (List ℕ) → Option (List ℕ) → List ℕ → Paged
paged base contents page = record { base = base; contents = contents; page = page }

-- the machine, and what was written of its history
pub record RunAt : Type 0 where
  pub view : ScriptView
  pub out : Paged

abbrev pub run_at : ScriptView → Paged → RunAt
run_at view out = record { view = view; out = out }

-- the next line's number, and how many bytes stand before it
pub record Spot : Type 0 where
  pub number : ℕ
  pub place : ℕ

abbrev pub spot : ℕ → ℕ → Spot
spot number place = record { number = number; place = place }

-- a line of a script was run, where the files tell: over every history that the machine stood for,
-- and configurations that go on as the line and those behind it say
abbrev pub LineGoes : RunAt → RunAt → ToldFiles → List Configuration → ℕ → List ℕ
    → Result (Unit {0}) RunEnd → Type 0
LineGoes old new told configs number line result =
    (h : History) (files : Shelf) (ls : List SourceLine)
    → At old.view old.out.base old.out.contents old.out.page configs h
    → Tells told.texts told.before told.after files (current h) (missed_by result)
    → IsAhead files configs h (record { bytes = line; ended = true } ∷ ls)
    → Goes new.view new.out.base new.out.contents new.out.page configs h
    (stated_step files configs h number (stated line)) result

-- the run

abbrev pub ReachesAs : End → Option (List ℕ) → Option (List ℕ) → List ℕ → ScriptRun → RunEnd
    → Type 0
ReachesAs Done base contents page ran end = (end ≡ ran.end)
    × Wrote base contents page (written ran.history)
ReachesAs Refused base contents page ran end = (end ≡ ran.end)
    × Wrote base contents page (written ran.history)
ReachesAs (Faulted Reading) base contents page ran end = WroteLines base contents page
    (written ran.history)
ReachesAs (Faulted Writing) base contents page ran end = WrotePart base contents
    (written ran.history)
ReachesAs (Faulted Lacking) base contents page ran end = WroteFront base contents page
    (written ran.history)

-- the run came to its end, and the page holds what was not written; or a fault ended it before
abbrev pub Reaches : Option (List ℕ) → Option (List ℕ) → List ℕ → ScriptRun → RunEnd → Type 0
Reaches base contents page ran end = ReachesAs (end_of end) base contents page ran end

-- where script and files tell, something holds over what stands on the shelf, and configurations
-- that go on as the script's lines say
abbrev pub WhereTold : Texts → Openings → Openings → Option (List ℕ) → Option (List ℕ)
    → List Configuration → History → (Shelf → List ℕ → Type 0) → Type 0
WhereTold texts old new missing left configs h P =
    IfSome left (λ bytes. (files : Shelf) → Tells texts old new files (current h) missing
    → IsAhead files configs h (lines bytes) → P files bytes)

-- the run of what is left
abbrev pub RunsOver : ToldFiles → Option (List ℕ) → Paged → List Configuration → History
    → (Shelf → List ℕ → ScriptRun) → RunEnd → Type 0
RunsOver told left out configs h run end =
    WhereTold told.texts told.before told.after (missed end) left configs h
    (λ files bytes. Reaches out.base out.contents out.page (run files bytes) end)

-- the state that a run has come to: what the script has left runs, from this spot on, to the whole;
-- and each epoch since e took an opening
pub record GoesOn (now : RunAt) (told : ToldFiles) (files : Shelf) (left : Option (List ℕ))
    (configs : List Configuration) (run : ScriptRun) (e : ℕ) (at_spot : Spot) : Type 0 where
  pub history : History
  pub at : At now.view now.out.base now.out.contents now.out.page configs history
  pub bytes : List ℕ
  pub left_is : left ≡ Some bytes
  pub ahead : IsAhead files configs history (lines bytes)
  pub count : ℕ
  pub adds : AddsCount told.before told.after count
  pub epoch_is : current history ≡ e + count
  pub same : run_lines files configs history at_spot.number at_spot.place (lines bytes) ≡ run

-- so it is in a loop over lines, where h, the openings before and `first` are what there was before
-- it
abbrev pub Going : RunAt → ToldFiles → Option (List ℕ) → Option (List ℕ) → List Configuration
    → History → (Shelf → List ℕ → ScriptRun) → Spot → Type 0
Going now told first left configs h run at_spot =
    WhereTold told.texts told.before told.after None first configs h
    (λ files bytes. GoesOn now told files left configs (run files bytes) (current h) at_spot)

-- the beginning

abbrev pub BeginsAs : End → Option (List ℕ) → Option (List ℕ) → List ℕ → List ℕ → Type 0
BeginsAs Done base contents page text = ⊥
BeginsAs Refused base contents page text = ⊥
BeginsAs (Faulted Reading) base contents page text = ⊥
BeginsAs (Faulted Writing) base contents page text = WrotePart base contents text
BeginsAs (Faulted Lacking) base contents page text = WroteFront base contents page text

-- a line with its LF
abbrev pub whole_line : List ℕ → SourceLine
whole_line bytes = record { bytes = bytes; ended = true }

-- the run of what is left behind the first line, over the configurations that this line and the
-- others name
abbrev pub FirstRuns : ToldFiles → Option (List ℕ) → Paged → Configuration → SourceLine
    → (Shelf → List Configuration → List ℕ → ScriptRun) → RunEnd → Type 0
FirstRuns told left out config l run end =
    IfSome left (λ bytes. (files : Shelf)
    → Tells told.texts told.before told.after files 1 (missed end)
    → Reaches out.base out.contents out.page
    (run files (configs_of files config (l ∷ lines bytes)) bytes) end)

-- the run of a script from its first line on, where script and files tell
abbrev pub ScriptRuns : ToldFiles → Option (List ℕ) → Paged → Configuration → RunEnd → Type 0
ScriptRuns told left out config end =
    IfSome left (λ bytes. (files : Shelf)
    → Tells told.texts told.before told.after files 1 (missed end)
    → Reaches out.base out.contents out.page (run_script files config (lines bytes)) end)

-- the counts of the script, of the files and of the sink never fall; one of the first two rose
-- where a read fault came, and the third where a write fault did; and each stays where no such
-- fault came
pub record RunHasCauses (script_before script_now files_before files_now out_before out_now : ℕ)
    (end : RunEnd) : Type 0 where
  pub script_later : script_before ≤ script_now
  pub files_later : files_before ≤ files_now
  pub out_later : out_before ≤ out_now
  pub read : end ≡ ends.ReadFault → Rose script_before script_now ⊎ Rose files_before files_now
  pub write : end ≡ ends.WriteFault → Rose out_before out_now
  pub script_quiet : (end ≡ ends.ReadFault → ⊥) → script_now ≡ script_before
  pub files_quiet : (end ≡ ends.ReadFault → ⊥) → files_now ≡ files_before
  pub out_quiet : (end ≡ ends.WriteFault → ⊥) → out_now ≡ out_before

-- a run of a script ends by these alone
abbrev pub IsRunEnd : RunEnd → Type 0
IsRunEnd end = Unit {0}

-- a step ends a run by these alone
abbrev pub IsStepEnd : RunEnd → Type 0
IsStepEnd ends.Ok = ⊥
IsStepEnd end = Unit {0}
