-- The file that a run misses is one that its script names.
use Rattle.std.proofs.Common.{◌≡◌, inl, inr, ℕ, ◌+◌, List, [], ◌∷◌, length, Bool, true, false, if◌then◌else◌, max, Some, None, IfSome, Ok, Err, Result, is_some, pos, refl, sym, ap, subst}
use Rattle.std.specs.declared.option.Option.{Option}
use Rattle.sq_outside.specs.SourceLines.{SourceLine, is_readable, lines}
use Rattle.sq_outside.specs.Told.{IsNotTold, Texts}
use Rattle.sq_request.specs.Written.{made_request}
use Rattle.sq_machine.specs.declared.entries.Event.{Event}
use Rattle.sq_machine.specs.declared.entries.Event.TheVariants.{Begin, Ask, Act, Reconfigure}
use Rattle.sq_rules.specs.ConfText.{conf_result}
use Rattle.sq_rules.specs.declared.kinds.ConfError.{ConfError}
use Rattle.sq_rules.specs.Configurations.{Configuration}
use Rattle.sq_machine.specs.Entries.{History}
use Rattle.sq_machine.specs.Machine.{next}
use Rattle.sq_machine.specs.Next.{Next, gives, nothing, refuses}
use Rattle.sq_machine.specs.Marking.{marked}
use Rattle.sq_machine.specs.Readings.{current, latest}
use Rattle.sq_replay.specs.declared.ends.RunEnd.{RunEnd}
use Rattle.sq_replay.specs.declared.ends.RunEnd.TheVariants as ended
use Rattle.sq_replay.specs.RunText.{ScriptRun, Shelf, accepted, answered, asked_next, begun_history, configs_of, event_step, line_step, reconfigured, run_first, run_from, run_lines, run_on, run_over, run_script, run_stated, stated, stated_step, stopped}
use Rattle.sq_commands.specs.declared.ends.Status.{Status}
use Rattle.sq_commands.specs.declared.ends.Status.TheVariants as ends
use Rattle.sq_commands.specs.Commands.{Disk, IsNamed, NamesIn, Replay, conf_read, ran_output, replay_output, script_stage, shelf_of, staged, conf_stage}
use Rattle.sq_commands.specs.Ends.{IfMissing, IsReplayEnd, run_status}
use Rattle.sq_commands.specs.Outputs.{Delivers}

-- P holds of the file that such an end misses
abbrev Misses : (List ℕ → Type 0) → RunEnd → Type 0
Misses P (ended.Missing name) = P name
Misses P end = Unit {0}

abbrev StepMisses : (List ℕ → Type 0) → Result History RunEnd → Type 0
StepMisses P (Ok t) = Unit {0}
StepMisses P (Err end) = Misses P end

misses_map : (P Q : List ℕ → Type 0) → ((name : List ℕ) → P name → Q name) → (end : RunEnd) → Misses P end
    → Misses Q end
misses_map P Q f (ended.Missing name) m = f name m
misses_map P Q f ended.Ok m = tt
misses_map P Q f (ended.Script n) m = tt
misses_map P Q f (ended.Config e) m = tt
misses_map P Q f ended.ReadFault m = tt
misses_map P Q f ended.WriteFault m = tt
misses_map P Q f ended.WantOfMemory m = tt

answered_misses : (P : List ℕ → Type 0) (configs : List Configuration) (h : History) (number moment : ℕ) (event : Event)
    (n : Next) → StepMisses P (answered configs h number moment event n)
answered_misses P configs h number moment event (gives answer) = tt
answered_misses P configs h number moment event (refuses r) = tt
answered_misses P configs h number moment event nothing = tt

asked_misses : (P : List ℕ → Type 0) (configs : List Configuration) (h : History) (number now : ℕ) (event : Event)
    → StepMisses P (asked_next configs h number now event)
asked_misses P configs h number now event = answered_misses P configs h number (max now (latest h)) event
    (next configs (marked configs h) (max now (latest h)) event)

if_misses : (P : List ℕ → Type 0) (b : Bool) (step : Result History RunEnd) (number : ℕ) → StepMisses P step
    → StepMisses P (if b then step else Err (ended.Script number))
if_misses P true step number s = s
if_misses P false step number s = tt

accepted_misses : (P : List ℕ → Type 0) (read : Result Configuration ConfError) (step : Result History RunEnd)
    → StepMisses P step → StepMisses P (accepted read step)
accepted_misses P (Ok config) step s = s
accepted_misses P (Err e) step s = tt

reconfigured_misses : (P : List ℕ → Type 0) (configs : List Configuration) (h : History) (number now : ℕ)
    (name : List ℕ) (o : Option (List ℕ)) → P name
    → StepMisses P (reconfigured configs h number now name o)
reconfigured_misses P configs h number now name None p = p
reconfigured_misses P configs h number now name (Some text) p =
    accepted_misses P (conf_result text) (asked_next configs h number now (Reconfigure text))
    (asked_misses P configs h number now (Reconfigure text))

event_misses : (P : List ℕ → Type 0) (files : Shelf) (configs : List Configuration) (h : History) (number now : ℕ)
    (event : Event) → ((name : List ℕ) → event ≡ Reconfigure name → P name)
    → StepMisses P (event_step files configs h number now event)
event_misses P files configs h number now (Begin offset) p = tt
event_misses P files configs h number now Act p = tt
event_misses P files configs h number now (Ask conn method target fields) p =
    if_misses P (is_some (made_request method target 1 fields))
    (asked_next configs h number now (Ask conn method target fields)) number
    (asked_misses P configs h number now (Ask conn method target fields))
event_misses P files configs h number now (Reconfigure name) p =
    reconfigured_misses P configs h number now name (files (current h) name) (p name refl)
event_misses P files configs h number now event p = asked_misses P configs h number now event

stated_misses : (P : List ℕ → Type 0) (files : Shelf) (configs : List Configuration) (h : History) (number : ℕ)
    (o : Option (ℕ × Event)) → ((now : ℕ) (name : List ℕ) → o ≡ Some (now, Reconfigure name) → P name)
    → StepMisses P (stated_step files configs h number o)
stated_misses P files configs h number None p = tt
stated_misses P files configs h number (Some (now, event)) p =
    event_misses P files configs h number now event (λ name e. p now name (ap (λ (x : Event). Some (now, x)) e))

line_misses : (files : Shelf) (configs : List Configuration) (h : History) (number place : ℕ) (l : SourceLine)
    (ls : List SourceLine) → StepMisses (NamesIn (l ∷ ls)) (line_step files configs h number place l)
line_misses files configs h number place l ls =
    if_misses (NamesIn (l ∷ ls)) (is_readable place l) (stated_step files configs h number (stated l.bytes)) number
    (stated_misses (NamesIn (l ∷ ls)) files configs h number (stated l.bytes) (λ now name e. inl (now, e)))

on_misses : (P : List ℕ → Type 0) (h : History) (step : Result History RunEnd) (go : History → ScriptRun)
    → StepMisses P step → ((t : History) → Misses P (go t).end) → Misses P (run_on h step go).end
on_misses P h (Ok t) go s more = more t
on_misses P h (Err end) go s more = s

lines_miss : (files : Shelf) (configs : List Configuration) (h : History) (number place : ℕ) (ls : List SourceLine)
    → Misses (NamesIn ls) (run_lines files configs h number place ls).end
lines_miss files configs h number place [] = tt
lines_miss files configs h number place (l ∷ ls) =
    on_misses (NamesIn (l ∷ ls)) h (line_step files configs h number place l)
    (λ t. run_lines files configs t (number + 1) (place + length l.bytes + 1) ls)
    (line_misses files configs h number place l ls)
    (λ t. misses_map (NamesIn ls) (NamesIn (l ∷ ls)) (λ name n. inr n) _
    (lines_miss files configs t (number + 1) (place + length l.bytes + 1) ls))

lines_more : (files : Shelf) (configs : List Configuration) (h : History) (number place : ℕ) (l : SourceLine)
    (ls : List SourceLine) → Misses (NamesIn (l ∷ ls)) (run_lines files configs h number place ls).end
lines_more files configs h number place l ls = misses_map (NamesIn ls) (NamesIn (l ∷ ls)) (λ name n. inr n) _
    (lines_miss files configs h number place ls)

from_misses : (files : Shelf) (configs : List Configuration) (place : ℕ) (l : SourceLine) (ls : List SourceLine)
    (now : ℕ) (event : Event) → ((name : List ℕ) → event ≡ Reconfigure name → NamesIn (l ∷ ls) name)
    → Misses (NamesIn (l ∷ ls)) (run_from files configs place ls now event).end
from_misses files configs place l ls now event p =
    let h = begun_history configs now (pos 0) in
    on_misses (NamesIn (l ∷ ls)) h (event_step files configs h 1 now event) (λ t. run_lines files configs t 2 place ls)
    (event_misses (NamesIn (l ∷ ls)) files configs h 1 now event p)
    (λ t. lines_more files configs t 2 place l ls)

first_misses : (files : Shelf) (configs : List Configuration) (place : ℕ) (l : SourceLine) (ls : List SourceLine)
    (now : ℕ) (event : Event) → ((name : List ℕ) → event ≡ Reconfigure name → NamesIn (l ∷ ls) name)
    → Misses (NamesIn (l ∷ ls)) (run_first files configs place ls now event).end
first_misses files configs place l ls now (Begin offset) p =
    lines_more files configs (begun_history configs now offset) 2 place l ls
first_misses files configs place l ls now Act p = tt
first_misses files configs place l ls now event p = from_misses files configs place l ls now event p

stated_run_misses : (files : Shelf) (configs : List Configuration) (place : ℕ) (l : SourceLine) (ls : List SourceLine)
    (o : Option (ℕ × Event)) → stated l.bytes ≡ o
    → Misses (NamesIn (l ∷ ls)) (run_stated files configs place ls o).end
stated_run_misses files configs place l ls None is = tt
stated_run_misses files configs place l ls (Some (now, event)) is =
    first_misses files configs place l ls now event
    (λ name e. inl (now, subst (λ (x : Event). stated l.bytes ≡ Some (now, x)) e is))

over_misses : (files : Shelf) (configs : List Configuration) (ls : List SourceLine)
    → Misses (NamesIn ls) (run_over files configs ls).end
over_misses files configs [] = tt
over_misses files configs (l ∷ ls) = by (is_readable 0 l)
    (stated_run_misses files configs (length l.bytes + 1) l ls (stated l.bytes) refl)
  where
    by : (b : Bool) → Misses (NamesIn (l ∷ ls)) (run_stated files configs (length l.bytes + 1) ls (stated l.bytes)).end
        → Misses (NamesIn (l ∷ ls))
        (if b then run_stated files configs (length l.bytes + 1) ls (stated l.bytes) else stopped (ended.Script 1)).end
    by true m = m
    by false m = tt

status_misses : (P : List ℕ → Type 0) (end : RunEnd) (name : List ℕ) → ends.Missing name ≡ run_status end → Misses P end
    → P name
status_misses P (ended.Missing n) name e m = let same : name ≡ n = cc in subst P (sym same) m
status_misses P ended.Ok name e m = absurd (cc)
status_misses P (ended.Script n) name e m = absurd (cc)
status_misses P (ended.Config x) name e m = absurd (cc)
status_misses P ended.ReadFault name e m = absurd (cc)
status_misses P ended.WriteFault name e m = absurd (cc)
status_misses P ended.WantOfMemory name e m = absurd (cc)

script_named : (disk : Disk) (conf script name : List ℕ) (config : Configuration) (o : Option (List ℕ))
    → disk script ≡ o
    → ends.Missing name ≡ (staged (script_stage script o)
    (λ text. ran_output (run_script (shelf_of disk) config (lines text)))).end
    → IsNamed (Some disk) (Some (Replay conf script)) name
script_named disk conf script name config None is e = inr (inl (cc))
script_named disk conf script name config (Some text) is e =
    let named = status_misses (NamesIn (lines text)) (run_script (shelf_of disk) config (lines text)).end name e
    (over_misses (shelf_of disk) (configs_of (shelf_of disk) config (lines text)) (lines text)) in
    inr (inr (subst (λ (f : Option (List ℕ)). IfSome f (λ t. NamesIn (lines t) name)) (sym is) named))

conf_named : (disk : Disk) (conf script name text : List ℕ) (r : Result Configuration ConfError)
    → ends.Missing name ≡ (staged (conf_read r)
    (λ config. staged (script_stage script (disk script))
    (λ t. ran_output (run_script (shelf_of disk) config (lines t))))).end
    → IsNamed (Some disk) (Some (Replay conf script)) name
conf_named disk conf script name text (Err x) e = absurd (cc)
conf_named disk conf script name text (Ok config) e = script_named disk conf script name config (disk script) refl e

output_named : (disk : Disk) (conf script name : List ℕ) (o : Option (List ℕ))
    → ends.Missing name ≡ (staged (conf_stage conf o)
    (λ config. staged (script_stage script (disk script))
    (λ t. ran_output (run_script (shelf_of disk) config (lines t))))).end
    → IsNamed (Some disk) (Some (Replay conf script)) name
output_named disk conf script name None e = inl (cc)
output_named disk conf script name (Some text) e = conf_named disk conf script name text (conf_result text) e

-- a file that `replay` misses is one that it names, or its script does
replay_named : (texts : Texts) (a b : Option (List ℕ)) (before now : ℕ) (conf script name : List ℕ)
    → IfSome texts (λ disk. Delivers a b before now (replay_output disk conf script) (ends.Missing name))
    → IsNamed texts (Some (Replay conf script)) name
replay_named None a b before now conf script name d = inr (inr tt)
replay_named (Some disk) a b before now conf script name d = output_named disk conf script name (disk conf) d.0

pub replay_missing : (texts : Texts) (a b : Option (List ℕ)) (before now : ℕ) (conf script : List ℕ) (result : Status)
    → IfSome texts (λ disk. Delivers a b before now (replay_output disk conf script) result) → IsReplayEnd texts result
    → IfMissing result (λ name. IsNamed texts (Some (Replay conf script)) name × IsNotTold texts name)
replay_missing texts a b before now conf script (ends.Missing name) d told =
    (replay_named texts a b before now conf script name d, told)
replay_missing texts a b before now conf script ends.Ok d told = tt
replay_missing texts a b before now conf script ends.Usage d told = tt
replay_missing texts a b before now conf script (ends.Config l k) d told = tt
replay_missing texts a b before now conf script (ends.Script n) d told = tt
replay_missing texts a b before now conf script ends.ReadFault d told = tt
replay_missing texts a b before now conf script ends.WriteFault d told = tt
replay_missing texts a b before now conf script (ends.Differs l m j) d told = tt
replay_missing texts a b before now conf script ends.JournalFault d told = tt
replay_missing texts a b before now conf script ends.Net d told = tt
replay_missing texts a b before now conf script ends.WantOfMemory d told = tt
