-- In the statement: docs/STATEMENT.md lists which definitions.
-- Helper processes of a history: what starts and ends them (helper protocol page).
use Rattle.std.specs.Prelude.{ℕ, ◌-◌, suc, List, [], ◌∷◌, Bool, true, false, not, ◌&&◌, ◌||◌, ◌==◌, if◌then◌else◌, nat_le, bytes_eq, is_some, Some, None}
use Rattle.std.specs.Option.{option_or, option_map_or}
use Rattle.std.specs.declared.option.Option.{Option}
use Rattle.sq_base.specs.declared.helpers.Cause.{Cause}
use Rattle.sq_base.specs.declared.helpers.Cause.TheVariants as cause
use Rattle.sq_machine.specs.declared.entries.Event.{Event}
use Rattle.sq_machine.specs.declared.entries.Event.TheVariants.{Started, StartFail, Line, Died, Act}
use Rattle.sq_machine.specs.declared.entries.Told.{Told}
use Rattle.sq_machine.specs.declared.entries.Told.TheVariants as told
use Rattle.sq_machine.specs.Entries.{History}
use Rattle.sq_machine.specs.Epochs.{is_live}
use Rattle.sq_machine.specs.Checks.{numbered}

-- of which epoch and class a process is, the class by its name
pub record Home : Type 0 where
  pub epoch : ℕ
  pub class : List ℕ

-- the process that an event brings
abbrev pub started_by : Event → Option Home
started_by (Started epoch class) = Some (record { epoch = epoch; class = class })
started_by event = None

-- how many processes were started
abbrev pub proc_count : History → ℕ
proc_count [] = 0
proc_count (e ∷ h) = if is_some (started_by e.event) then suc (proc_count h) else proc_count h

-- process k is that of the k-th `started`
abbrev pub home_of : History → ℕ → Option Home
home_of [] k = None
home_of (e ∷ h) k = option_or (numbered k (proc_count h) (started_by e.event)) (home_of h k)

-- a line's answer that ends its process
abbrev pub line_end : Told → Option Cause
line_end told.Bad = Some cause.BadReply
line_end told.Stray = Some cause.Stray
line_end answer = None

-- the value where the test holds
abbrev pub if_here : {A : Type 0} → Bool → Option A → Option A
if_here true o = o
if_here false o = None

-- the cause, where there is one and it is of this process
abbrev pub cause_here : Option Cause → Bool → Option Cause
cause_here None here = None
cause_here (Some c) here = if here then Some c else None

-- how an entry ends process k
abbrev pub ended_by : History → ℕ → Event → Told → Option Cause
ended_by h k (Died p) answer = if_here ((k == p) && nat_le k (proc_count h)) (Some cause.Died)
ended_by h k (Line p bytes) answer = cause_here (line_end answer)
    ((k == p) && nat_le k (proc_count h))
ended_by h k event answer = None

-- how process k ended, if it has: it died, or wrote a line that is bad or stray
abbrev pub proc_end : History → ℕ → Option Cause
proc_end [] k = None
proc_end (e ∷ h) k = option_or (ended_by h k e.event e.answer) (proc_end h k)

-- process k was started and has not ended
abbrev pub is_running : History → ℕ → Bool
is_running h k = is_some (home_of h k) && not (is_some (proc_end h k))

-- process k is of this epoch and class
abbrev pub is_at_home : History → ℕ → List ℕ → ℕ → Bool
is_at_home h e name k = option_map_or (λ p. (p.epoch == e) && bytes_eq p.class name) (home_of h k)
    false

-- process k has not ended, and its epoch lives
abbrev pub lives_on : History → ℕ → Bool
lives_on h k = is_running h k && option_map_or (λ p. is_live h p.epoch) (home_of h k) false

-- process k of this epoch and class has not ended
abbrev pub runs_at : History → ℕ → List ℕ → ℕ → Bool
runs_at h e name k = is_at_home h e name k && is_running h k

-- what an act is told to stop
abbrev pub stop_told : ℕ → Told → Bool
stop_told k (told.Stop p) = k == p
stop_told k answer = false

-- whether the event stops process k
abbrev pub stops : ℕ → Event → Told → Bool
stops k Act answer = stop_told k answer
stops k event answer = false

-- process k was told to stop
abbrev pub is_stopped : History → ℕ → Bool
is_stopped [] k = false
is_stopped (e ∷ h) k = if (nat_le k (proc_count h)) && stops k e.event e.answer then true
    else is_stopped h k

-- the process ended by a line
abbrev pub is_line_end : Option Cause → Bool
is_line_end (Some cause.BadReply) = true
is_line_end (Some cause.Stray) = true
is_line_end c = false

-- a stop of process k is due: it was not told to stop, and it ended by a line, or it was living as
-- its epoch ended
abbrev pub stop_due : History → ℕ → Bool
stop_due h k =
    is_some (home_of h k) && not (is_stopped h k)
    && (is_line_end (proc_end h k)
    || (is_running h k && not (option_map_or (λ p. is_live h p.epoch) (home_of h k) true)))

-- the entry is the start of a process of this epoch and class, as an act
abbrev pub start_told : ℕ → List ℕ → Told → Bool
start_told e name (told.Start epoch class) = (epoch == e) && bytes_eq class name
start_told e name answer = false

-- whether the event starts a process of this class of this epoch
abbrev pub is_start : ℕ → List ℕ → Event → Told → Bool
is_start e name Act answer = start_told e name answer
is_start e name event answer = false

-- how many starts of this epoch and class were due and told
abbrev pub start_count : History → ℕ → List ℕ → ℕ
start_count [] e name = 0
start_count (x ∷ h) e name = if is_start e name x.event x.answer then suc (start_count h e name)
    else start_count h e name

-- the event settles a start of this epoch and class: a process runs, or could not be started
abbrev pub settles_start : ℕ → List ℕ → Event → Bool
settles_start e name (Started epoch class) = (epoch == e) && bytes_eq class name
settles_start e name (StartFail epoch class) = (epoch == e) && bytes_eq class name
settles_start e name event = false

-- how many starts of this class of this epoch have come or failed
abbrev pub settled_starts : History → ℕ → List ℕ → ℕ
settled_starts [] e name = 0
settled_starts (x ∷ h) e name = if settles_start e name x.event then suc (settled_starts h e name)
    else settled_starts h e name

-- how many starts of this epoch and class are open
abbrev pub starting : History → ℕ → List ℕ → ℕ
starting h e name = start_count h e name - settled_starts h e name
