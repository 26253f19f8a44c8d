-- The state of a rewriter: the farm of its class, its questions and the stops that are due, and
-- what each call does to them.
use Rattle.std.specs.Prelude.{◌≡◌, ℕ, suc, List, [], ◌∷◌, Bool, true, false, not, if◌then◌else◌, ◌==◌, nat_le, filter, Some, None}
use Rattle.std.specs.BTreeMap.{insert_entry, is_at}
use Rattle.std.specs.BTreeSet.{insert_key}
use Rattle.std.specs.Map.{lookup, set_value}
use Rattle.std.specs.Option.{option_map}
use Rattle.std.specs.Ordering.{nat_cmp}
use Rattle.std.specs.declared.option.Option.{Option}
use Rattle.sq_base.specs.declared.helpers.Reply.{Reply}
use Rattle.sq_channel.specs.declared.replies.Got.{Got}
use Rattle.sq_channel.specs.declared.replies.Got.TheVariants as got
use Rattle.sq_farm.specs.Acts.{act_of}
use Rattle.sq_farm.specs.Replies.{after_got, got_of}
use Rattle.sq_farm.specs.declared.acts.FarmAct.{FarmAct}
use Rattle.sq_farm.specs.declared.acts.FarmAct.TheVariants as farm
use Rattle.sq_machine.specs.Farms.{Stock, after_act, ended, failed, full, put_in, started_in, stock_of}
use Rattle.sq_machine.specs.Limits.{last_number}
use Rattle.sq_machine.specs.Living.{lives}
use Rattle.sq_machine.specs.Losses.{Loss}
use Rattle.sq_base.specs.declared.helpers.Cause.TheVariants as cause
use Rattle.sq_rules.specs.Classes.{Class}
use Rattle.sq_rewrite.specs.Calls.{Call, Calls, Asked, Acted, Started, StartFailed, Wrote, Died, Took}
use Rattle.sq_rewrite.specs.Rewritings.{question_text, rewriting_of}
use Rattle.sq_rewrite.specs.declared.acts.RewriteAct.{RewriteAct}
use Rattle.sq_rewrite.specs.declared.acts.RewriteAct.TheVariants as act
use Rattle.sq_rewrite.specs.declared.faults.RewriteFault.{RewriteFault}
use Rattle.sq_rewrite.specs.declared.faults.RewriteFault.TheVariants as fault
use Rattle.sq_rewrite.specs.declared.rewritings.Rewriting.{Rewriting}
use Rattle.sq_rewrite.specs.declared.rewritings.Rewriting.TheVariants as rewriting
use Rattle.sq_rewrite.specs.declared.rows.QuestionRow.{QuestionRow}
use Rattle.sq_rewrite.specs.declared.rows.QuestionRow.TheVariants as row

-- the questions that were asked and not taken, by number
abbrev pub Rows : Type 0
Rows = List (ℕ × QuestionRow)

-- the farm, the processes of which a stop is due, by number, how many questions and processes got a
-- number, and the questions
pub record RewriteState : Type 0 where
  pub stock : Stock
  pub stops : List ℕ
  pub asked : ℕ
  pub started : ℕ
  pub rows : Rows

-- the state of a class at its beginning
abbrev pub begun : Class → RewriteState
begun c = record { stock = stock_of c; stops = []; asked = 0; started = 0; rows = [] }

-- what is known of a question
abbrev pub row_at : ℕ → Rows → Option QuestionRow
row_at q rows = lookup (is_at (nat_cmp q)) rows

-- the questions with one more
abbrev pub with_row : ℕ → QuestionRow → Rows → Rows
with_row q r rows = insert_entry nat_cmp rows q r

-- the questions once this one has ended
abbrev pub ended_row : ℕ → Rewriting → Rows → Rows
ended_row q w rows = set_value (is_at (nat_cmp q)) rows (row.Ended w)

-- the questions without this one
abbrev pub without_row : ℕ → Rows → Rows
without_row q rows = filter (λ e. not (is_at (nat_cmp q) e.0)) rows

-- the questions once these were lost, each by its cause
abbrev pub lost_rows : List Loss → Rows → Rows
lost_rows [] rows = rows
lost_rows (l ∷ ls) rows = lost_rows ls (ended_row l.question (rewriting.Same (Some l.cause)) rows)

abbrev pub answered_by : ℕ → Reply → Option QuestionRow → Rows → Rows
answered_by q reply None rows = rows
answered_by q reply (Some (row.Open r)) rows = ended_row q (rewriting_of reply r) rows
answered_by q reply (Some (row.Ended w)) rows = rows

-- the questions once this one had this reply
abbrev pub answered_row : ℕ → Reply → Rows → Rows
answered_row q reply rows = answered_by q reply (row_at q rows) rows

-- the act of a farm as one of the rewriter
abbrev pub as_act : FarmAct → RewriteAct
as_act (farm.Send k q channel text) = act.Send k q channel text
as_act farm.Start = act.Start

abbrev pub due_by : List ℕ → Option FarmAct → Option RewriteAct
due_by [] due = option_map as_act due
due_by (k ∷ ks) due = Some (act.Stop k)

-- the act that is due: the stop of the least process of which one is due, else the farm's
abbrev pub act_due : RewriteState → Option RewriteAct
act_due s = due_by s.stops (act_of s.stock)

abbrev pub later_stops : List ℕ → List ℕ
later_stops [] = []
later_stops (k ∷ ks) = ks

-- after that act
abbrev pub after_acted : RewriteAct → RewriteState → RewriteState
after_acted (act.Stop k) s = record s { stops = later_stops s.stops }
after_acted (act.Send k q channel text) s = record s { stock = after_act s.stock }
after_acted act.Start s = record s { stock = after_act s.stock }

-- the questions that an end or a failed start gave a fault have ended by it
abbrev pub handed : RewriteState → RewriteState
handed s = record s {
  stock = record s.stock { losses = [] };
  rows = lost_rows s.stock.losses s.rows;
}

-- a line that is no reply ends its process, of which a stop is due then
abbrev pub stops_after : ℕ → Got → List ℕ → List ℕ
stops_after k (got.Reply q reply) stops = stops
stops_after k got.Bad stops = insert_key nat_cmp stops k
stops_after k got.Stray stops = insert_key nat_cmp stops k

-- a reply ends its question
abbrev pub rows_after : Got → Rows → Rows
rows_after (got.Reply q reply) rows = answered_row q reply rows
rows_after got.Bad rows = rows
rows_after got.Stray rows = rows

-- after a line of process k
abbrev pub after_line : ℕ → Got → RewriteState → RewriteState
after_line k g s = handed
    (record s {
      stock = after_got k g s.stock;
      stops = stops_after k g s.stops;
      rows = rows_after g s.rows;
    })

-- after a call
abbrev pub after : Call → RewriteState → RewriteState
after (Asked r addr q) s =
    record s {
      stock = put_in (record { question = q; text = question_text r addr }) s.stock;
      asked = q;
      rows = with_row q (row.Open r) s.rows;
    }
after (Acted a) s = after_acted a s
after (Started k) s = record s { stock = started_in k s.stock; started = k }
after StartFailed s = handed (record s { stock = failed s.stock })
after (Wrote k line g) s = after_line k g s
after (Died k) s = handed (record s { stock = ended cause.Died k s.stock })
after (Took q w) s = record s { rows = without_row q s.rows }

-- no number is left
abbrev pub is_spent : ℕ → Bool
is_spent n = nat_le last_number (suc n)

-- why a question is not put
abbrev pub ask_refusal : RewriteState → Option RewriteFault
ask_refusal s = if is_spent s.asked then Some (fault.Spent last_number)
    else (if full s.stock then Some fault.Full else None)

-- why a failed start is not noted
abbrev pub fail_refusal : RewriteState → Option RewriteFault
fail_refusal s = if s.stock.starting == 0 then Some fault.NoStartOpen else None

-- why a started process is not noted
abbrev pub start_refusal : RewriteState → Option RewriteFault
start_refusal s =
    if s.stock.starting == 0 then Some fault.NoStartOpen
    else (if is_spent s.started then Some (fault.Spent last_number) else None)

-- why a line or the death of process k is not noted
abbrev pub proc_refusal : ℕ → RewriteState → Option RewriteFault
proc_refusal k s = if lives k s.stock.procs then None else Some (fault.UnknownProc k)

abbrev pub refusal_at : ℕ → Option QuestionRow → Option RewriteFault
refusal_at q None = Some (fault.UnknownQuestion q)
refusal_at q (Some r) = None

-- why nothing can be taken of a question
abbrev pub take_refusal : ℕ → RewriteState → Option RewriteFault
take_refusal q s = refusal_at q (row_at q s.rows)

-- a fault is the one for which the call is refused, and want of memory only where there is no other
abbrev pub Refuses : Option RewriteFault → RewriteFault → Type 0
Refuses None e = e ≡ fault.WantOfMemory
Refuses (Some f) e = e ≡ f

-- what a question came to, if it has ended
abbrev pub taken_of : QuestionRow → Option Rewriting
taken_of (row.Open r) = None
taken_of (row.Ended w) = Some w

abbrev pub ended_in : Option QuestionRow → Option Rewriting
ended_in None = None
ended_in (Some r) = taken_of r

-- the call has its answer: it is not refused, and answers what is due, what was written or how the
-- question has ended
abbrev pub Answers : Call → RewriteState → Type 0
Answers (Asked r addr q) s = (ask_refusal s ≡ None) × (q ≡ suc s.asked)
Answers (Acted a) s = act_due s ≡ Some a
Answers (Started k) s = (start_refusal s ≡ None) × (k ≡ suc s.started)
Answers StartFailed s = fail_refusal s ≡ None
Answers (Wrote k line g) s = got_of k s.stock line ≡ Some g
Answers (Died k) s = proc_refusal k s ≡ None
Answers (Took q w) s = ended_in (row_at q s.rows) ≡ Some w

-- the state after some calls
abbrev pub state_of : Class → Calls → RewriteState
state_of c [] = begun c
state_of c (e ∷ h) = after e (state_of c h)

-- each of the calls has its answer
abbrev pub IsRun : Class → Calls → Type 0
IsRun c [] = Unit {0}
IsRun c (e ∷ h) = Answers e (state_of c h) × IsRun c h

-- a state that some calls come to
pub record IsReached (s : RewriteState) : Type 0 where
  pub class : Class
  pub calls : Calls
  pub run : IsRun class calls
  pub state_is : s ≡ state_of class calls

-- a call that no question makes: an act, the end of a start, a line or a death
abbrev pub is_of_processes : Call → Bool
is_of_processes (Asked r addr q) = false
is_of_processes (Acted a) = true
is_of_processes (Started k) = true
is_of_processes StartFailed = true
is_of_processes (Wrote k line g) = true
is_of_processes (Died k) = true
is_of_processes (Took q w) = false

-- the state after these calls more
abbrev pub after_calls : Calls → RewriteState → RewriteState
after_calls [] s = s
after_calls (e ∷ more) s = after e (after_calls more s)

-- each of these calls has its answer, from this state on
abbrev pub RunsOn : Calls → RewriteState → Type 0
RunsOn [] s = Unit {0}
RunsOn (e ∷ more) s = Answers e (after_calls more s) × RunsOn more s
