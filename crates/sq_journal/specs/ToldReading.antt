-- In the statement: docs/STATEMENT.md lists which definitions.
-- Answers and entries read from words, word by word.
use Rattle.std.specs.Prelude.{ℕ, ◌+◌, ◌^◌, List, [], ◌∷◌, Bool, if◌then◌else◌, Some, None, zero, suc, codes, bytes_eq, option_map, option_and_then}
use Rattle.std.specs.declared.option.Option.{Option}
use Rattle.sq_base.specs.Decimals.{number_of}
use Rattle.sq_base.specs.NameTables.{beside}
use Rattle.sq_base.specs.Replies.{channel_limit}
use Rattle.sq_machine.specs.declared.entries.Event.{Event}
use Rattle.sq_machine.specs.declared.entries.Told.{Told}
use Rattle.sq_machine.specs.declared.entries.Told.TheVariants as told
use Rattle.sq_rules.specs.declared.outcomes.Outcome.{Outcome}
use Rattle.sq_rules.specs.declared.outcomes.Why.{Why}
use Rattle.sq_rules.specs.declared.outcomes.Why.TheVariants as why
use Rattle.sq_machine.specs.Entries.{Noted, is_row}
use Rattle.sq_rules.specs.Steps.{WordList}
use Rattle.sq_journal.specs.declared.names.AnswerName.{AnswerName}
use Rattle.sq_journal.specs.declared.names.AnswerName.TheVariants as name
use Rattle.sq_journal.specs.declared.names.WhyName.{WhyName}
use Rattle.sq_journal.specs.declared.names.WhyName.TheVariants as reason
use Rattle.sq_journal.specs.Names.{told_names, why_names, action_names, cause_names, result_names, arrow_names}
use Rattle.sq_journal.specs.Reading.{Reads, word_in, then_in, below_in, number_in, text_in, whole, fields1, fields2, fields3, fields4, event_in}

-- a channel, or `-`
unfoldable pub channel_of : List ℕ → Option (Option ℕ)
channel_of word = if bytes_eq word (codes "-") then Some None
    else option_map Some (number_of channel_limit word)

-- the number before, if there is one
abbrev pub one_less : ℕ → Option ℕ
one_less zero = None
one_less (suc n) = Some n

-- a pool's place, of its number from 1
unfoldable pub pool_named : List ℕ → Option ℕ
pool_named word = option_and_then one_less (number_of (2 ^ 32 + 1) word)

-- what stands after a reason's name
unfoldable pub why_after : WhyName → Reads Why
why_after reason.Rule = fields1 why.Rule (below_in (2 ^ 32))
why_after reason.Default = λ ws. Some (why.Default, ws)
why_after reason.Empty = λ ws. Some (why.Empty, ws)
why_after reason.Fault = fields3 why.Fault (below_in (2 ^ 32)) text_in
    (word_in (beside cause_names))

-- why a check was decided so
unfoldable pub why_in : Reads Why
why_in = then_in (word_in (beside why_names)) why_after

-- an outcome of its parts
abbrev pub outcome_from : Bool → Why → Outcome
outcome_from allow reason = record { allow = allow; why = reason }

-- an outcome
unfoldable pub outcome_in : Reads Outcome
outcome_in = fields2 outcome_from (word_in (beside action_names)) why_in

-- an epoch alone, or with the outcome of a check
abbrev pub epoch_told : ℕ → Reads Told
epoch_told epoch [] = Some (told.Epoch epoch, [])
epoch_told epoch (w ∷ ws) = fields1 (told.Judged epoch) outcome_in (w ∷ ws)

-- what stands after an answer's name
unfoldable pub told_after : AnswerName → Reads Told
told_after name.Epoch = then_in number_in epoch_told
told_after name.Fine = λ ws. Some (told.Fine, ws)
told_after name.Check = fields1 told.Check number_in
told_after name.Took = fields1 told.Took text_in
told_after name.Waits = fields1 told.Waits number_in
told_after name.Done = λ ws. Some (told.Done, ws)
told_after name.Proc = fields1 told.Proc number_in
told_after name.Reply = fields2 told.Reply number_in (word_in (beside result_names))
told_after name.Bad = λ ws. Some (told.Bad, ws)
told_after name.Stray = λ ws. Some (told.Stray, ws)
told_after name.Start = fields2 told.Start number_in text_in
told_after name.Send = fields4 told.Send number_in number_in (word_in channel_of) text_in
told_after name.Stop = fields1 told.Stop number_in
told_after name.Seat = fields2 told.Seat number_in (word_in pool_named)
told_after name.NoSeat = λ ws. Some (told.NoSeat, ws)
told_after name.Granted = fields1 told.Granted number_in

-- an answer, by its name
unfoldable pub told_in : Reads Told
told_in = then_in (word_in (beside told_names)) told_after

-- the word between an event and its answer
abbrev pub arrow_in : Reads (Unit {0})
arrow_in = word_in (beside arrow_names)

-- an entry of its parts
abbrev pub noted_from : ℕ → Event → Unit {0} → Told → Noted
noted_from moment event arrow answer = record { moment = moment; event = event; answer = answer }

-- the entry, where its answer is one that its event may have
abbrev pub with_row : Noted → Option Noted
with_row e = if is_row e.event e.answer then Some e else None

-- the entry of some words
unfoldable pub entry_of : WordList → Option Noted
entry_of ws = option_and_then with_row
    (option_and_then whole (fields4 noted_from number_in event_in arrow_in told_in ws))

-- a number, an epoch and an entry of their parts
abbrev pub numbered_from : ℕ → ℕ → Noted → ℕ × ℕ × Noted
numbered_from number epoch e = (number, epoch, e)

-- the number, the epoch and the entry of some words
unfoldable pub numbered_of : WordList → Option (ℕ × ℕ × Noted)
numbered_of ws =
    option_and_then (λ n. option_and_then (λ m. option_map (numbered_from n.0 m.0) (entry_of m.1))
    (number_in n.1)) (number_in ws)
