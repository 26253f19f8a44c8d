-- Where a question is open is said twice: by the channels of a process, and by what was sent to it
-- and has not ended.
use Rattle.std.specs.Prelude.{ℕ, List, true, not, ◌&&◌, ◌≡◌}
use Rattle.sq_machine.specs.Channels.{is_open}
use Rattle.sq_rules.specs.Classes.{Class}
use Rattle.sq_rules.specs.Configurations.{Configuration}
use Rattle.sq_machine.specs.Events.{is_number}
use Rattle.sq_machine.specs.Marks.{Past, entries}
use Rattle.sq_machine.specs.Processes.{runs_at}
use Rattle.sq_machine.specs.Questions.{has_ended, sent_to}
use Rattle.sq_machine.specs.Transcripts.{channels_of}

-- for each running process of the class at place c of epoch e: a question is open on its channels
-- exactly where it was sent to it and has not ended
abbrev pub SlotsAgree : List Configuration → Past → ℕ → Class → Type 0
SlotsAgree configs m e class =
    (k q : ℕ) → runs_at (entries m) e class.name k ≡ true
    → is_open q (channels_of class.concurrency (entries m) k).slots
    ≡ (is_number k (sent_to m q) && not (has_ended configs m q))
