-- What the machine answers to each event, by its state.
use Rattle.std.specs.Prelude.{ℕ, suc, List, [], length, Bool, false, not, ◌==◌, nat_le, Some, None, is_some, is_none}
use Rattle.std.specs.List.{list_any}
use Rattle.std.specs.Option.{option_and_then, option_map, option_map_or}
use Rattle.std.specs.declared.option.Option.{Option}
use Rattle.sq_base.specs.declared.requests.Field.{Field}
use Rattle.sq_machine.specs.declared.entries.Told.{Told}
use Rattle.sq_machine.specs.declared.entries.Told.TheVariants as told
use Rattle.sq_machine.specs.declared.refusals.Refusal.TheVariants as refusal
use Rattle.sq_rules.specs.declared.sights.Sight.{Sight}
use Rattle.sq_machine.specs.Channels.{Channels}
use Rattle.sq_machine.specs.Checks.{Asked, peer_or_nobody}
use Rattle.sq_machine.specs.DueActs.{ClassId, Due, sending_told, sends, starts, stops}
use Rattle.sq_machine.specs.Machine.{step_next}
use Rattle.sq_machine.specs.Limits.{conn_limit, epoch_limit, last_number}
use Rattle.sq_machine.specs.Living.{find_proc}
use Rattle.sq_machine.specs.Next.{Next, gives, nothing, refuse_if, refuse_open, refuses}
use Rattle.sq_machine.specs.Numbered.{picks}
use Rattle.sq_rules.specs.Sights.{asked_request, minute_of_week}
use Rattle.sq_machine.specs.Transcripts.{line_is, line_told}
use Rattle.sq_model.specs.CheckRows.{Held, held_at, held_on}
use Rattle.sq_model.specs.Acts.{due_in}
use Rattle.sq_model.specs.Says.{class_in, outcome_in, says_in}
use Rattle.sq_model.specs.States.{State}

abbrev pub open_answer : State → ℕ → Next
open_answer s c =
    refuse_if (is_some (s.client c)) (refusal.ConnInUse c)
    (refuse_if (nat_le conn_limit s.conns) (refusal.TooManyConns conn_limit)
    (gives told.Fine))

abbrev pub close_answer : State → ℕ → Next
close_answer s c = refuse_if (is_none (s.client c)) (refusal.UnknownConn c) (gives told.Fine)

-- the open check of a connection
abbrev pub check_on : State → ℕ → Option ℕ
check_on s c = option_map (λ h. h.number) (held_on c s.checks)

abbrev pub ask_answer : State → ℕ → Next
ask_answer s c =
    refuse_if (is_none (s.client c)) (refusal.UnknownConn c)
    (refuse_open (check_on s c)
    (refuse_if (nat_le last_number (suc s.asks)) (refusal.Spent (suc s.asks))
    (gives (told.Check (suc s.asks)))))

-- what a check sees that begins on a connection at a moment
abbrev pub sight_in : State → ℕ → ℕ → List ℕ → List ℕ → List Field → Sight
sight_in s now c method target fields = record {
  request = asked_request method target fields;
  addr = (peer_or_nobody (s.client c)).addr;
  port = (peer_or_nobody (s.client c)).port;
  minute = minute_of_week now s.offset;
  conns = s.from (peer_or_nobody (s.client c)).addr;
}

-- the check that begins there
abbrev pub asked_in : State → ℕ → ℕ → List ℕ → List ℕ → List Field → Asked
asked_in s now c method target fields = record {
  conn = c;
  epoch = s.current;
  sight = sight_in s now c method target fields;
}

abbrev pub step_of_held : State → ℕ → ℕ → Option Held → Next
step_of_held s n now None = refuses (refusal.UnknownCheck n)
step_of_held s n now (Some h) = step_next s.puts (says_in s now h)

abbrev pub step_answer : State → ℕ → ℕ → Next
step_answer s n now = step_of_held s n now (held_at n s.checks)

abbrev pub take_of_held : State → ℕ → Option Held → Next
take_of_held s n None = refuses (refusal.UnknownCheck n)
take_of_held s n (Some h) = refuse_if (not h.done) (refusal.NotDone n)
    (gives (told.Judged h.asked.epoch (outcome_in s h)))

abbrev pub take_answer : State → ℕ → Next
take_answer s n = take_of_held s n (held_at n s.checks)

-- a start of the class at a place is open
abbrev pub has_start_in : State → ClassId → Bool
has_start_in s p = option_map_or (λ r. not (r.stock.starting == 0)) (s.row p.epoch p.class) false

abbrev pub started_answer : State → ClassId → Next
started_answer s p =
    refuse_if (not (has_start_in s p)) (refusal.NoStartOpen p.epoch p.class)
    (refuse_if (nat_le last_number (suc s.procs)) (refusal.Spent (suc s.procs))
    (gives (told.Proc (suc s.procs))))

abbrev pub failed_answer : State → ClassId → Next
failed_answer s p = refuse_if (not (has_start_in s p)) (refusal.NoStartOpen p.epoch p.class)
    (gives told.Fine)

-- the channels of a living process
abbrev pub channels_in : State → ℕ → Option Channels
channels_in s k = option_and_then
    (λ p. option_and_then (λ r. find_proc k r.stock.procs) (s.row p.epoch p.class)) (s.home k)

abbrev pub line_of : ℕ → List ℕ → Option Channels → Next
line_of k bytes None = refuses (refusal.UnknownProc k)
line_of k bytes (Some p) = gives (line_told (line_is p bytes))

abbrev pub line_answer : State → ℕ → List ℕ → Next
line_answer s k bytes = line_of k bytes (channels_in s k)

abbrev pub died_answer : State → ℕ → Next
died_answer s k = refuse_if (is_none (s.home k)) (refusal.UnknownProc k) (gives told.Fine)

-- the name of the class at a place
abbrev pub name_in : State → ClassId → List ℕ
name_in s p = option_map_or (λ class. class.name) (class_in s p.epoch p.class) []

-- an act as it is told
abbrev pub due_told : State → Due → Told
due_told s (stops k) = told.Stop k
due_told s (sends p sending) = sending_told sending
due_told s (starts p) = told.Start p.epoch (name_in s p)

abbrev pub act_of : State → Option Due → Next
act_of s None = nothing
act_of s (Some d) = gives (due_told s d)

abbrev pub act_answer : State → Next
act_answer s = act_of s (due_in s)

-- how many epochs have an open check
abbrev pub busy_in : State → ℕ
busy_in s = length (picks (λ e. list_any (λ h. h.asked.epoch == e) s.checks) s.current)

abbrev pub reconfigure_answer : State → Next
reconfigure_answer s =
    refuse_if (nat_le last_number (suc s.current)) (refusal.Spent (suc s.current))
    (refuse_if (nat_le epoch_limit (busy_in s)) (refusal.TooManyEpochs epoch_limit)
    (gives (told.Epoch (suc s.current))))
