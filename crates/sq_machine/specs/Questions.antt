-- In the statement: docs/STATEMENT.md lists which definitions.
-- Questions of a history: each is put at a step, sent to a process at most once, and ends once at
-- most.
use Rattle.std.specs.Prelude.{ℕ, suc, List, [], ◌∷◌, Bool, false, not, ◌&&◌, ◌==◌, if◌then◌else◌, nat_le, nat_lt, bytes_eq, is_some, Some, None}
use Rattle.std.specs.List.{list_any}
use Rattle.std.specs.Option.{option_or, option_map, option_map_or}
use Rattle.std.specs.declared.option.Option.{Option}
use Rattle.sq_base.specs.Replies.{reply_of}
use Rattle.sq_base.specs.declared.helpers.Cause.TheVariants as cause
use Rattle.sq_base.specs.declared.helpers.Pair.{Pair}
use Rattle.sq_base.specs.declared.helpers.Reply.{Reply}
use Rattle.sq_base.specs.declared.helpers.What.{What}
use Rattle.sq_base.specs.declared.helpers.What.TheVariants as what
use Rattle.sq_base.specs.declared.helpers.Word.{Word}
use Rattle.sq_base.specs.declared.helpers.Word.TheVariants as word
use Rattle.sq_machine.specs.declared.entries.Event.{Event}
use Rattle.sq_machine.specs.declared.entries.Event.TheVariants.{StartFail, Line, Died, Act}
use Rattle.sq_machine.specs.declared.entries.Told.{Told}
use Rattle.sq_machine.specs.declared.entries.Told.TheVariants as told
use Rattle.sq_rules.specs.Configurations.{Configuration}
use Rattle.sq_machine.specs.Entries.{History}
use Rattle.sq_machine.specs.Epochs.{channels_named, name_of_class}
use Rattle.sq_machine.specs.Marks.{Past, Put, entries}
use Rattle.sq_machine.specs.Numbered.{picks}
use Rattle.sq_machine.specs.Processes.{home_of, if_here, proc_count, runs_at, starting}
use Rattle.sq_machine.specs.Events.{is_number}
use Rattle.sq_machine.specs.Checks.{numbered}

-- how many questions were put
abbrev pub put_count : Past → ℕ
put_count [] = 0
put_count (x ∷ m) = if is_some x.put then suc (put_count m) else put_count m

-- question q is the q-th that was put
abbrev pub put_of : Past → ℕ → Option Put
put_of [] q = None
put_of (x ∷ m) q = option_or (numbered q (put_count m) x.put) (put_of m q)

-- the process to which the answer of an act sends question q
abbrev pub send_told : Past → ℕ → Told → Option ℕ
send_told m q (told.Send p r channel key) = if_here ((q == r) && nat_le q (put_count m)) (Some p)
send_told m q answer = None

-- the process to which the event sends question q
abbrev pub sends : Past → ℕ → Event → Told → Option ℕ
sends m q Act answer = send_told m q answer
sends m q event answer = None

-- the process that question q was sent to
abbrev pub sent_to : Past → ℕ → Option ℕ
sent_to [] q = None
sent_to (x ∷ m) q = option_or (sends m q x.entry.event x.entry.answer) (sent_to m q)

-- what a reply says: `BH` is a fault
abbrev pub what_by : Word → List Pair → What
what_by word.Yes pairs = what.Yes pairs
what_by word.No pairs = what.No pairs
what_by word.Broken pairs = what.Fault cause.Bh

-- what a reply says
abbrev pub what_of : Reply → What
what_of reply = what_by reply.word reply.pairs

-- whether the lines of process k have channel numbers
abbrev pub is_numbered : List Configuration → History → ℕ → Bool
is_numbered configs h k = nat_lt 0
    (option_map_or (λ p. channels_named configs p.epoch p.class) (home_of h k) 0)

-- what a line of process k says that is a reply
abbrev pub said_by : List Configuration → Past → ℕ → List ℕ → Option What
said_by configs m k bytes = option_map (λ a. what_of a.1)
    (reply_of (is_numbered configs (entries m) k) bytes)

-- how a question ended, and when
pub record QuestionEnd : Type 0 where
  pub what : What
  pub date : ℕ

-- what a line of process k does to question q: a reply ends it, and a line that ends the process
-- too
abbrev pub end_told : List Configuration → Past → ℕ → ℕ → List ℕ → Told → Option What
end_told configs m q k bytes (told.Reply r w) = if_here ((q == r) && nat_le q (put_count m))
    (said_by configs m k bytes)
end_told configs m q k bytes told.Bad = if_here (is_number k (sent_to m q))
    (Some (what.Fault cause.BadReply))
end_told configs m q k bytes told.Stray = if_here (is_number k (sent_to m q))
    (Some (what.Fault cause.Stray))
end_told configs m q k bytes answer = None

-- question q was put for this epoch and class and was not sent
abbrev pub is_unsent : List Configuration → Past → ℕ → List ℕ → ℕ → Bool
is_unsent configs m e name q =
    option_map_or (λ p. (p.epoch == e) && bytes_eq (name_of_class configs e p.class) name)
    (put_of m q) false && not (is_some (sent_to m q))

-- a process of this epoch and class has not ended
abbrev pub some_runs : History → ℕ → List ℕ → Bool
some_runs h e name = list_any (runs_at h e name) (picks (runs_at h e name) (proc_count h))

-- a failed start is the last that was open, and no process is there
abbrev pub leaves_none : History → ℕ → List ℕ → Bool
leaves_none h e name = not (some_runs h e name) && nat_le (starting h e name) 1

-- what an entry ends question q with
abbrev pub end_at : List Configuration → Past → ℕ → Event → Told → Option What
end_at configs m q (Line k bytes) answer = end_told configs m q k bytes answer
end_at configs m q (Died k) answer = if_here (is_number k (sent_to m q))
    (Some (what.Fault cause.Died))
end_at configs m q (StartFail e name) answer = if_here
    (is_unsent configs m e name q && leaves_none (entries m) e name)
    (Some (what.Fault cause.NoHelper))
end_at configs m q event answer = None

-- the first end counts
abbrev pub first_end : ℕ → Option What → Option QuestionEnd → Option QuestionEnd
first_end date None before = before
first_end date (Some w) None = Some (record { what = w; date = date })
first_end date (Some w) (Some end) = Some end

-- how question q ended, if it has
abbrev pub question_end : List Configuration → Past → ℕ → Option QuestionEnd
question_end configs [] q = None
question_end configs (x ∷ m) q = first_end x.entry.moment
    (end_at configs m q x.entry.event x.entry.answer) (question_end configs m q)

-- whether question q has ended
abbrev pub has_ended : List Configuration → Past → ℕ → Bool
has_ended configs m q = is_some (question_end configs m q)

-- a question, where it has not ended
abbrev pub unended : List Configuration → Past → Option ℕ → Option ℕ
unended configs m None = None
unended configs m (Some q) = if has_ended configs m q then None else Some q

-- whether the question was put for this class, epoch and key
abbrev pub put_is : ℕ → ℕ → List ℕ → Option Put → Bool
put_is e c key None = false
put_is e c key (Some p) = (p.epoch == e) && (p.class == c) && bytes_eq p.key key

-- the last question of this epoch, class and key
abbrev pub last_put : Past → ℕ → ℕ → List ℕ → Option ℕ
last_put [] e c key = None
last_put (x ∷ m) e c key = if put_is e c key x.put then Some (suc (put_count m))
    else last_put m e c key

-- the question of these that has not ended; there is one at most
abbrev pub pending : List Configuration → Past → ℕ → ℕ → List ℕ → Option ℕ
pending configs m e c key = unended configs m (last_put m e c key)
