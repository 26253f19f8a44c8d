-- In the statement: docs/STATEMENT.md lists which definitions.
-- The farm of an epoch's class as a history leaves it: its queue, its processes with their
-- channels, its starts.
use Rattle.std.specs.Prelude.{ℕ, ◌-◌, min, List, [], ◌∷◌, Bool, true, false, not, ◌&&◌, ◌||◌, ◌==◌, if◌then◌else◌, bytes_eq, is_some, Some, None}
use Rattle.std.specs.Option.{option_map, option_map_or}
use Rattle.std.specs.declared.option.Option.{Option}
use Rattle.sq_machine.specs.declared.entries.Event.{Event}
use Rattle.sq_machine.specs.declared.entries.Event.TheVariants.{StartFail, Line, Died}
use Rattle.sq_machine.specs.declared.entries.Told.{Told}
use Rattle.sq_rules.specs.Classes.{Class}
use Rattle.sq_rules.specs.Configurations.{Configuration}
use Rattle.sq_machine.specs.Entries.{History}
use Rattle.sq_machine.specs.Epochs.{class_at}
use Rattle.sq_machine.specs.Farms.{Stock, Waiting}
use Rattle.sq_machine.specs.Living.{Living}
use Rattle.sq_machine.specs.Marks.{Past, Put, entries}
use Rattle.sq_machine.specs.Numbered.{rows}
use Rattle.sq_machine.specs.Processes.{ended_by, is_at_home, proc_count, runs_at, start_count, starting}
use Rattle.sq_machine.specs.Questions.{has_ended, put_count, put_of, sent_to}
use Rattle.sq_machine.specs.Transcripts.{channels_of}

-- whether the question was put to this class of this epoch
abbrev pub is_put_for : ℕ → ℕ → Option Put → Bool
is_put_for e c None = false
is_put_for e c (Some p) = (p.epoch == e) && (p.class == c)

-- question q waits in the queue of this epoch and class: it was not sent and has not ended
abbrev pub is_queued : List Configuration → Past → ℕ → ℕ → ℕ → Bool
is_queued configs m e c q = is_put_for e c (put_of m q) && not (is_some (sent_to m q))
    && not (has_ended configs m q)

-- a question of the queue with its text
abbrev pub waiting_of : Past → ℕ → Waiting
waiting_of m q = record { question = q; text = option_map_or (λ p. p.key) (put_of m q) [] }

-- a process with its channels
abbrev pub living_of : ℕ → History → ℕ → Living
living_of concurrency h k = record { number = k; process = channels_of concurrency h k }

-- the event is the end of a process of this epoch and class
abbrev pub ends_process : History → ℕ → List ℕ → Event → Told → Bool
ends_process h e name (Died p) answer = is_at_home h e name p
ends_process h e name (Line p bytes) answer = is_at_home h e name p
    && is_some (ended_by h p (Line p bytes) answer)
ends_process h e name event answer = false

-- whether the event is a failed start of this class of this epoch
abbrev pub fails_start : ℕ → List ℕ → Event → Bool
fails_start e name (StartFail epoch class) = (epoch == e) && bytes_eq class name
fails_start e name event = false

-- the starts of this epoch and class are held: a start failed, and since then no question of it was
-- put and no process of it ended
abbrev pub is_held : Past → ℕ → ℕ → List ℕ → Bool
is_held [] e c name = false
is_held (x ∷ m) e c name =
    if fails_start e name x.entry.event then true
    else (if is_put_for e c x.put
    || ends_process (entries m) e name x.entry.event x.entry.answer then false
    else is_held m e c name)

-- the farm of a class
abbrev pub farm_with : List Configuration → Past → ℕ → ℕ → Class → Stock
farm_with configs m e c class = record {
  concurrency = class.concurrency;
  children_max = class.children_max;
  queue_size = class.queue_size;
  queue = rows (waiting_of m) (is_queued configs m e c) (put_count m);
  procs = rows (living_of class.concurrency (entries m)) (runs_at (entries m) e class.name)
      (proc_count (entries m));
  owed = min class.startup class.children_max - start_count (entries m) e class.name;
  starting = starting (entries m) e class.name;
  held = is_held m e c class.name;
  losses = [];
}

-- the farm of the class at a place of an epoch's configuration
abbrev pub farm_of : List Configuration → Past → ℕ → ℕ → Option Stock
farm_of configs m e c = option_map (farm_with configs m e c) (class_at configs e c)
