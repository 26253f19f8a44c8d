-- What a hub tells of the machine, of the rewriter and of the delay pools, and what each of its
-- calls makes of that.
use Rattle.std.specs.Prelude.{◌≡◌, ℕ, ◌<◌, ◌≤◌, ◌==◌, List, ◌∷◌, ◌++◌, Bool, true, false, max, suc, Some, None, is_some, Ok, Err, OnErr, ⊤}
use Rattle.std.specs.List.{list_all}
use Rattle.std.specs.Option.{option_map}
use Rattle.std.specs.declared.option.Option.{Option}
use Rattle.std.specs.declared.result.Result.{Result}
use Rattle.sq_base.specs.Addresses.{Address}
use Rattle.sq_base.specs.Requests.{HttpRequest}
use Rattle.sq_rules.specs.Configurations.{Configuration}
use Rattle.sq_machine.specs.Entries.{History, Noted, entry_at}
use Rattle.sq_machine.specs.Machine.{next}
use Rattle.sq_machine.specs.Limits.{last_number}
use Rattle.sq_machine.specs.Next.{gives, refuses}
use Rattle.sq_machine.specs.Marking.{marked}
use Rattle.sq_machine.specs.Readings.{latest}
use Rattle.sq_machine.specs.declared.entries.Event.{Event}
use Rattle.sq_machine.specs.declared.entries.Event.TheVariants as event
use Rattle.sq_machine.specs.declared.entries.Told.{Told}
use Rattle.sq_machine.specs.declared.entries.Told.TheVariants as told
use Rattle.sq_machine.specs.declared.refusals.Refusal.{Refusal}
use Rattle.sq_machine.specs.declared.refusals.Refusal.TheVariants as refusal
use Rattle.sq_rewrite.specs.Calls.{Call, Calls, Asked, Took}
use Rattle.sq_rewrite.specs.States as rewriter
use Rattle.sq_rewrite.specs.States.{Refuses, RewriteState, RunsOn, after, after_calls, ask_refusal, is_of_processes, row_at, take_refusal, taken_of}
use Rattle.sq_rewrite.specs.declared.faults.RewriteFault.{RewriteFault}
use Rattle.sq_rewrite.specs.declared.faults.RewriteFault.TheVariants as fault
use Rattle.sq_rewrite.specs.declared.rewritings.Rewriting.{Rewriting}
use Rattle.sq_rules.specs.Sights.{unversioned_sight}
use Rattle.sq_rules.specs.declared.sights.Sight.{Sight}
use Rattle.sq_model.specs.declared.stepping.Stepped.{Stepped}
use Rattle.sq_model.specs.declared.stepping.Stepped.TheVariants as stepped
use Rattle.sq_checks.specs.Records.{Judged}
use Rattle.sq_pools.specs.Basins.{Basin, HasLeft, IsChosen, IsGranted, IsTagChosen, grant_in, is_dry, seat_in}
use Rattle.sq_pools.specs.declared.pools.ChooseFault.{ChooseFault}
use Rattle.sq_pools.specs.declared.pools.ChooseFault.TheVariants as choose
use Rattle.sq_model.specs.CheckRows.{Held, held_at}
use Rattle.sq_model.specs.Promises.{StandsFor}
use Rattle.sq_model.specs.States.{IsSame, State}
use Rattle.sq_turns.specs.declared.hub.HubFault.{HubFault}
use Rattle.sq_turns.specs.declared.hub.HubFault.TheVariants.{Refused, JournalFault, WantOfMemory}

-- what a check has from its beginning on: its configuration, what it sees, with the HTTP version of
-- its request, of which no history tells, and its pool
pub record BegunCheck : Type 0 where
  pub config : Configuration
  pub sight : Sight
  pub pool : Option ℕ

-- the delay pools with buckets by addresses, and those with buckets by tags
pub record DelayPools : Type 0 where
  pub addressed : Basin
  pub tagged : Basin

-- the machine's state, which is that of its histories; what each open check began with; the
-- rewriter's state, if there is one; the delay pools; and the moment that the next call hands on
pub record HubState : Type 0 where
  pub machine : State
  pub begun : ℕ → Option BegunCheck
  pub rewriter : Option RewriteState
  pub pools : DelayPools
  pub moment : ℕ

-- the moment at which the next call is an event of the machine, and of the pools of each kind
abbrev pub machine_now : HubState → ℕ
machine_now v = max v.moment v.machine.latest

abbrev pub pools_now : HubState → ℕ
pools_now v = max v.moment v.pools.addressed.latest

abbrev pub tags_now : HubState → ℕ
tags_now v = max v.moment v.pools.tagged.latest

-- where a hub tells it goes on telling, and P holds of what it told before and tells now
abbrev pub Tells : (HubState → HubState → Type 0) → Option HubState → Option HubState → Type 0
Tells P None new = new ≡ None
Tells P (Some v) new = (w : HubState) × (new ≡ Some w) × P v w

-- the state stands for this legal history, of which no entry is behind it
pub record StandsAt (configs : List Configuration) (h : History) (s : State) : Type 0 where
  pub stands : StandsFor configs h s
  pub newest : latest h ≤ s.latest

-- after each history that the state stood for the machine answers so, and the state that is left
-- stands for the history with this entry
pub record IsNext (s : State) (now : ℕ) (e : Event) (answer : Told) (new : State) : Type 0 where
  pub gives : (configs : List Configuration) (h : History) → StandsAt configs h s
      → next configs (marked configs h) now e ≡ gives answer
  pub stands : (configs : List Configuration) (h : History) → StandsAt configs h s
      → StandsAt configs (entry_at now e answer ∷ h) new

-- after each history that the state stands for the machine refuses so
abbrev pub IsRefused : State → ℕ → Event → Refusal → Type 0
IsRefused s now e why = (configs : List Configuration) (h : History) → StandsAt configs h s
    → next configs (marked configs h) now e ≡ refuses why

-- a call answers the event as the machine does, in words of which R holds; where memory is wanting
-- or the journal fails nothing is said
abbrev pub Answers : {A : Type 0} → (A → Told → Type 0) → State → ℕ → Event → Result A HubFault
    → State → Type 0
Answers R s now e (Ok a) new = (answer : Told) × R a answer × IsNext s now e answer new
Answers R s now e (Err (Refused why)) new = ¬ (why ≡ refusal.WantOfMemory) → IsRefused s now e why
Answers R s now e (Err JournalFault) new = ⊤
Answers R s now e (Err WantOfMemory) new = ⊤

-- a call of the machine: its answer is the machine's, one that is not made leaves the state, and
-- the rewriter and the pools stay
pub record Makes {A : Type 0} (R : A → Told → Type 0) (e : Event) (result : Result A HubFault)
    (v w : HubState) : Type 0 where
  pub answers : Answers R v.machine (machine_now v) e result w.machine
  pub unmade : OnErr result (IsSame w.machine v.machine)
  pub rewriter : w.rewriter ≡ v.rewriter
  pub pools : w.pools ≡ v.pools

-- each check that is open still has what it had
abbrev pub AreKept : (ℕ → Option BegunCheck) → (ℕ → Option BegunCheck) → Type 0
AreKept old new = (n : ℕ) (b : BegunCheck) → new n ≡ Some b → old n ≡ Some b

-- the same where no check begins
pub record MakesOn {A : Type 0} (R : A → Told → Type 0) (e : Event) (result : Result A HubFault)
    (v w : HubState) : Type 0 where
  pub makes : Makes R e result v w
  pub kept : AreKept v.begun w.begun

-- how the answers are told
abbrev pub IsFine : Unit {0} → Told → Type 0
IsFine u answer = answer ≡ told.Fine

abbrev pub IsCheck : ℕ → Told → Type 0
IsCheck n answer = answer ≡ told.Check n

abbrev pub IsStep : Stepped → Told → Type 0
IsStep (stepped.Took class) answer = (name : List ℕ) × (answer ≡ told.Took name)
IsStep (stepped.Waits question) answer = answer ≡ told.Waits question
IsStep stepped.Done answer = answer ≡ told.Done

abbrev pub IsTaken : Judged → Told → Type 0
IsTaken r answer = answer ≡ told.Judged r.epoch r.outcome

-- the event of a question about this request
abbrev pub asks_for : ℕ → HttpRequest → Event
asks_for conn r = event.Ask conn r.method r.target r.fields

-- the check that begins has this very request
abbrev pub BeginsCheck : HttpRequest → Result ℕ HubFault → HubState → Type 0
BeginsCheck r (Ok n) w = (b : BegunCheck) × (w.begun n ≡ Some b) × (b.sight.request ≡ r)
BeginsCheck r (Err f) w = ⊤

pub record Asks (conn : ℕ) (r : HttpRequest) (result : Result ℕ HubFault)
    (v w : HubState) : Type 0 where
  pub makes : Makes IsCheck (asks_for conn r) result v w
  pub begins : BeginsCheck r result w

abbrev pub begun_of : Judged → BegunCheck
begun_of j = record { config = j.config; sight = j.sight; pool = j.pool }

-- the record that is taken is of the check, and has what that began with
abbrev pub IsOfCheck : ℕ → Result Judged HubFault → HubState → Type 0
IsOfCheck n (Ok r) v = (r.check ≡ n) × (v.begun n ≡ Some (begun_of r))
IsOfCheck n (Err f) v = ⊤

-- the machine's row of the check of a record, on this connection, before that is taken: it has the
-- epoch, what was seen, but for the HTTP version, the answers in order, and how often it was
-- stepped; it is done and waits for nothing
abbrev pub row_taken : ℕ → Judged → Held
row_taken conn j = record {
  number = j.check;
  asked = record { conn = conn; epoch = j.epoch; sight = unversioned_sight j.sight };
  waits = None;
  answers = j.answers;
  done = true;
  steps = j.steps;
}

-- this is the row of the record's check among these open ones
abbrev pub IsTakenOf : ℕ → Judged → List Held → Type 0
IsTakenOf n j checks = (conn : ℕ) × (held_at n checks ≡ Some (row_taken conn j))

-- the record that is taken is the machine's of the check
abbrev pub IsOfRow : ℕ → Result Judged HubFault → HubState → Type 0
IsOfRow n (Ok j) v = IsTakenOf n j v.machine.checks
IsOfRow n (Err f) v = ⊤

pub record Takes (n : ℕ) (result : Result Judged HubFault) (v w : HubState) : Type 0 where
  pub makes : MakesOn IsTaken (event.Take n) result v w
  pub of_check : IsOfCheck n result v
  pub of_row : IsOfRow n result v

-- an event that no connection makes: an act, what comes from a helper process or its start, or
-- another configuration
abbrev pub comes_outside : Event → Bool
comes_outside event.Act = true
comes_outside (event.Started epoch class) = true
comes_outside (event.StartFail epoch class) = true
comes_outside (event.Line proc bytes) = true
comes_outside (event.Died proc) = true
comes_outside (event.Reconfigure text) = true
comes_outside e = false

abbrev pub is_outside : Noted → Bool
is_outside e = comes_outside e.event

-- the rewriter's acts were made, and its starts, lines and deaths came; it comes from nowhere
abbrev pub Works : Option RewriteState → Option RewriteState → Type 0
Works None new = new ≡ None
Works (Some s) new = (more : Calls) × (list_all is_of_processes more ≡ true) × RunsOn more s
    × (new ≡ Some (after_calls more s))

-- events that no connection makes came to the machine, and to the rewriter
pub record Waited (v w : HubState) : Type 0 where
  pub adds : (configs : List Configuration) (h : History) → StandsAt configs h v.machine
      → (more : History) × (list_all is_outside more ≡ true)
      × StandsAt configs (more ++ h) w.machine
  pub kept : AreKept v.begun w.begun
  pub works : Works v.rewriter w.rewriter
  pub pools : w.pools ≡ v.pools

-- a call of the pools leaves the machine and the rewriter as they are
pub record LeavesMachine (v w : HubState) : Type 0 where
  pub machine : w.machine ≡ v.machine
  pub begun : w.begun ≡ v.begun
  pub rewriter : w.rewriter ≡ v.rewriter

-- a while has passed
pub record Paused (v w : HubState) : Type 0 where
  pub rest : LeavesMachine v w
  pub pools : w.pools ≡ v.pools

-- and of these the pools of the other kind
pub record LeavesTags (v w : HubState) : Type 0 where
  pub rest : LeavesMachine v w
  pub tagged : w.pools.tagged ≡ v.pools.tagged

pub record LeavesAddressed (v w : HubState) : Type 0 where
  pub rest : LeavesMachine v w
  pub addressed : w.pools.addressed ≡ v.pools.addressed

-- a seat, with the next number, of which C holds; it is refused as spent exactly where that would
-- be the last
abbrev pub ChoosesSeat : (Basin → Basin → Type 0) → Result ℕ ChooseFault → Basin → Basin → Type 0
ChoosesSeat C (Ok seat) old new = (seat ≡ suc old.given) × (suc old.given < last_number) × C old new
ChoosesSeat C (Err choose.Spent) old new = (suc old.given ≡ last_number) × (new ≡ old)
ChoosesSeat C (Err choose.WantOfMemory) old new = (suc old.given < last_number) × (new ≡ old)

-- a seat in this pool for a client of this address
pub record Chooses (epoch : ℕ) (c : Configuration) (pool : ℕ) (a : Address)
    (result : Result ℕ ChooseFault) (v w : HubState) : Type 0 where
  pub rest : LeavesTags v w
  pub seat : ChoosesSeat (λ old new. IsChosen old new epoch c pool a (pools_now v)) result
      v.pools.addressed w.pools.addressed

-- a seat in this pool for this tag
pub record ChoosesTag (epoch : ℕ) (c : Configuration) (pool : ℕ) (tag : List ℕ)
    (result : Result ℕ ChooseFault) (v w : HubState) : Type 0 where
  pub rest : LeavesAddressed v w
  pub seat : ChoosesSeat (λ old new. IsTagChosen old new epoch c pool tag (tags_now v)) result
      v.pools.tagged w.pools.tagged

-- what the seat is granted is what its buckets have: where some is wanted, nothing exactly where
-- one of them is empty
pub record Grants (seat wanted given : ℕ) (v w : HubState) : Type 0 where
  pub rest : LeavesTags v w
  pub amount : given ≡ grant_in v.pools.addressed (pools_now v) wanted
      (seat_in v.pools.addressed seat)
  pub nothing : 0 < wanted → (given == 0) ≡ is_dry v.pools.addressed (pools_now v)
      (seat_in v.pools.addressed seat)
  pub taken : IsGranted v.pools.addressed w.pools.addressed (pools_now v) given
      (seat_in v.pools.addressed seat)

-- the same on a seat for a tag
pub record GrantsTag (seat wanted given : ℕ) (v w : HubState) : Type 0 where
  pub rest : LeavesAddressed v w
  pub amount : given ≡ grant_in v.pools.tagged (tags_now v) wanted (seat_in v.pools.tagged seat)
  pub nothing : 0 < wanted → (given == 0) ≡ is_dry v.pools.tagged (tags_now v)
      (seat_in v.pools.tagged seat)
  pub taken : IsGranted v.pools.tagged w.pools.tagged (tags_now v) given
      (seat_in v.pools.tagged seat)

-- the seat is given up
pub record Leaves (seat : ℕ) (v w : HubState) : Type 0 where
  pub rest : LeavesTags v w
  pub left : HasLeft v.pools.addressed w.pools.addressed seat

pub record LeavesTag (seat : ℕ) (v w : HubState) : Type 0 where
  pub rest : LeavesAddressed v w
  pub left : HasLeft v.pools.tagged w.pools.tagged seat

-- a call of the rewriter leaves the machine and the pools as they are
pub record LeavesOthers (v w : HubState) : Type 0 where
  pub machine : w.machine ≡ v.machine
  pub begun : w.begun ≡ v.begun
  pub pools : w.pools ≡ v.pools

-- the question about the request of this record, with this number
abbrev pub puts_for : Judged → ℕ → Call
puts_for j q = Asked j.sight.request j.sight.addr q

-- the question is put as the rewriter puts it; where there is none, no question has a place
abbrev pub PutsBy : Judged → Result ℕ RewriteFault → Option RewriteState → Option RewriteState
    → Type 0
PutsBy j result None new = (result ≡ Err fault.Full) × (new ≡ None)
PutsBy j (Ok q) (Some s) new = rewriter.Answers (puts_for j q) s
    × (new ≡ Some (after (puts_for j q) s))
PutsBy j (Err f) (Some s) new = Refuses (ask_refusal s) f × (new ≡ Some s)

pub record Puts (j : Judged) (result : Result ℕ RewriteFault) (v w : HubState) : Type 0 where
  pub rest : LeavesOthers v w
  pub puts : PutsBy j result v.rewriter w.rewriter

-- what a question came to is taken as the rewriter gives it; where there is none, it has no
-- question
abbrev pub TakesBy : ℕ → Result (Option Rewriting) RewriteFault → Option RewriteState
    → Option RewriteState → Type 0
TakesBy q result None new = (result ≡ Err (fault.UnknownQuestion q)) × (new ≡ None)
TakesBy q (Ok None) (Some s) new = (option_map taken_of (row_at q s.rows) ≡ Some None)
    × (new ≡ Some s)
TakesBy q (Ok (Some w)) (Some s) new = rewriter.Answers (Took q w) s
    × (new ≡ Some (after (Took q w) s))
TakesBy q (Err f) (Some s) new = (take_refusal q s ≡ Some f) × (new ≡ Some s)

pub record TakesRewriting (q : ℕ) (result : Result (Option Rewriting) RewriteFault)
    (v w : HubState) : Type 0 where
  pub rest : LeavesOthers v w
  pub takes : TakesBy q result v.rewriter w.rewriter

-- whether there is a rewriter, where a hub tells
abbrev pub SaysRewriter : Bool → Option HubState → Type 0
SaysRewriter said None = ⊤
SaysRewriter said (Some v) = said ≡ is_some v.rewriter
