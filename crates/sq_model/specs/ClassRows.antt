-- In the statement: docs/STATEMENT.md lists which definitions.
-- A helper class of an epoch as a row: its cached replies, its open lookups and its farm; and what
-- events do to it.
use Rattle.std.specs.Prelude.{ℕ, List, [], ◌∷◌, ◌++◌, Bool, true, not, ◌&&◌, ◌==◌, filter}
use Rattle.std.specs.List.{list_any}
use Rattle.std.specs.Option.{option_map, option_map_or}
use Rattle.std.specs.declared.option.Option.{Option}
use Rattle.sq_base.specs.declared.helpers.Answer.{Answer}
use Rattle.sq_base.specs.declared.helpers.Cause.{Cause}
use Rattle.sq_base.specs.declared.helpers.What.{What}
use Rattle.sq_machine.specs.Channels.{is_open}
use Rattle.sq_rules.specs.Classes.{Class}
use Rattle.sq_rules.specs.Configurations.{Configuration}
use Rattle.sq_machine.specs.Epochs.{class_at}
use Rattle.sq_machine.specs.FarmReadings.{farm_with, is_put_for}
use Rattle.sq_machine.specs.Farms.{Stock, Waiting, after_send, after_start, ended, failed, is_last_start, put_in, started_in, stock_of}
use Rattle.sq_machine.specs.KeptLists.{CachedReplies}
use Rattle.sq_machine.specs.KeptReadings.{after_took, keep_what, kept}
use Rattle.sq_machine.specs.Living.{settled_in, slots_in}
use Rattle.sq_machine.specs.Marks.{Past, Put}
use Rattle.sq_machine.specs.Numbered.{rows}
use Rattle.sq_machine.specs.OpenLookups.{LookupRow}
use Rattle.sq_machine.specs.Questions.{has_ended, put_count, put_of}

-- a class: the verdicts that it keeps, the newest use first; its questions that have not ended,
-- with their keys, in order; and its farm
pub record ClassRow : Type 0 where
  pub kept : CachedReplies
  pub lookups : List LookupRow
  pub stock : Stock

-- question q was put for this epoch and class and has not ended
abbrev pub is_asked : List Configuration → Past → ℕ → ℕ → ℕ → Bool
is_asked configs m e c q = is_put_for e c (put_of m q) && not (has_ended configs m q)

-- an open question as a row, with its key
abbrev pub lookup_of : Past → ℕ → LookupRow
lookup_of m q = record { question = q; key = option_map_or (λ p. p.key) (put_of m q) [] }

-- the questions of an epoch's class that have not ended
abbrev pub lookups : List Configuration → Past → ℕ → ℕ → List LookupRow
lookups configs m e c = rows (lookup_of m) (is_asked configs m e c) (put_count m)

-- a class as a history leaves it
abbrev pub class_row : List Configuration → Past → ℕ → ℕ → Class → ClassRow
class_row configs m e c class = record {
  kept = kept configs m e c;
  lookups = lookups configs m e c;
  stock = farm_with configs m e c class;
}

-- the class at a place of an epoch's configuration, as a history leaves it
abbrev pub class_part : List Configuration → Past → ℕ → ℕ → Option ClassRow
class_part configs m e c = option_map (class_row configs m e c) (class_at configs e c)

-- a class whose epoch begins, with what is kept of the class of the epoch before that is alike
abbrev pub new_row : CachedReplies → Class → ClassRow
new_row before class = record { kept = before; lookups = []; stock = stock_of class }

-- a farm after its lost questions were handed out
abbrev pub handed : Stock → Stock
handed v = record v { losses = [] }

-- the key of a question that was put, for a step that put one
abbrev pub key_put : Option Put → List ℕ
key_put p = option_map_or (λ x. x.key) p []

-- the class with question q, which was put with this key
abbrev pub with_question : ℕ → List ℕ → ClassRow → ClassRow
with_question q key r = record r {
  lookups = r.lookups ++ record { question = q; key = key } ∷ [];
  stock = put_in (record { question = q; text = key }) r.stock;
}

-- the class after a check of its epoch took an answer of the class at place c of that epoch
abbrev pub with_took : ℕ → Option Answer → ClassRow → ClassRow
with_took c took r = record r { kept = after_took true c took r.kept }

-- the class after a reply of process k to question q, of this key, with what it says and its moment
abbrev pub after_reply : Class → ℕ → ℕ → List ℕ → What → ℕ → ClassRow → ClassRow
after_reply class k q key w date r = record {
  kept = keep_what class q key date w r.kept;
  lookups = filter (λ l. not (q == l.question)) r.lookups;
  stock = record r.stock { procs = settled_in k q r.stock.procs };
}

-- the class after the end of process k by a cause: the questions that are open on it end
abbrev pub after_death : Cause → ℕ → ClassRow → ClassRow
after_death cause k r = record {
  kept = r.kept;
  lookups = filter (λ l. not (is_open l.question (slots_in k r.stock.procs))) r.lookups;
  stock = handed (ended cause k r.stock);
}

-- the question waits in a queue
abbrev pub is_waiting : ℕ → List Waiting → Bool
is_waiting q queue = list_any (λ w. q == w.question) queue

-- the class after a failed start: where no process lives or starts then, the questions in the queue
-- end
abbrev pub after_failed : ClassRow → ClassRow
after_failed r = record {
  kept = r.kept;
  lookups = filter (λ l. not (is_last_start r.stock && is_waiting l.question r.stock.queue))
      r.lookups;
  stock = handed (failed r.stock);
}

-- the class after process k was started
abbrev pub after_started : ℕ → ClassRow → ClassRow
after_started k r = record r { stock = started_in k r.stock }

-- the class after the send that was due
abbrev pub after_sending : ClassRow → ClassRow
after_sending r = record r { stock = after_send r.stock }

-- the class after the start that was due
abbrev pub after_starting : ClassRow → ClassRow
after_starting r = record r { stock = after_start r.stock }
