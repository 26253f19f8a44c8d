-- What the opening of a connection, its close, a question about a request, one to the rewriter and
-- a seat make of what a hub tells.
use Rattle.std.specs.Prelude.{◌≡◌, ◌≢◌, ◌⊎◌, ℕ, ◌==◌, List, [], ◌∷◌, ◌++◌, Bool, true, false, ◌||◌, Some, None, is_some, Ok, Err, ⊤}
use Rattle.std.specs.List.{list_all}
use Rattle.std.specs.Option.{option_map}
use Rattle.std.specs.declared.option.Option.{Option}
use Rattle.std.specs.declared.result.Result.{Result}
use Rattle.sq_base.specs.Addresses.{Address}
use Rattle.sq_base.specs.Requests.{HttpRequest}
use Rattle.sq_machine.specs.Checks.{check_open, open_check}
use Rattle.sq_rules.specs.Configurations.{Configuration}
use Rattle.sq_machine.specs.Connections.{peer_at}
use Rattle.sq_machine.specs.Entries.{History, Noted, entry_at}
use Rattle.sq_machine.specs.Machine.{next}
use Rattle.sq_machine.specs.SeatPlaces.{seat_place}
use Rattle.sq_machine.specs.declared.places.SeatPlace.{SeatPlace}
use Rattle.sq_machine.specs.declared.places.SeatPlace.TheVariants.{Nowhere, ByAddress, ByTag}
use Rattle.sq_machine.specs.Next.{refuses}
use Rattle.sq_machine.specs.Marking.{marked}
use Rattle.sq_machine.specs.declared.entries.Event.{Event}
use Rattle.sq_machine.specs.declared.entries.Event.TheVariants as event
use Rattle.sq_machine.specs.declared.entries.Told.TheVariants as told
use Rattle.sq_machine.specs.declared.refusals.Refusal.{Refusal}
use Rattle.sq_machine.specs.declared.refusals.Refusal.TheVariants as refusal
use Rattle.sq_checks.specs.Records.{Judged, needs_tag}
use Rattle.sq_rewrite.specs.Calls.{Calls, Took}
use Rattle.sq_rewrite.specs.States.{RewriteState, RunsOn, after_calls, ask_refusal, is_of_processes, take_refusal}
use Rattle.sq_rewrite.specs.declared.faults.RewriteFault.{RewriteFault}
use Rattle.sq_rewrite.specs.declared.faults.RewriteFault.TheVariants as fault
use Rattle.sq_rewrite.specs.declared.rewritings.Rewriting.{Rewriting}
use Rattle.sq_rewrite.specs.declared.rewritings.Rewriting.TheVariants as rewriting
use Rattle.sq_pools.specs.Basins.{is_dry, seat_in}
use Rattle.sq_pools.specs.declared.pools.ChooseFault.{ChooseFault}
use Rattle.sq_pools.specs.declared.pools.ChooseFault.TheVariants as choose
use Rattle.sq_turns.specs.declared.front.CloseFault.{CloseFault}
use Rattle.sq_turns.specs.declared.front.CloseFault.TheVariants as close
use Rattle.sq_turns.specs.declared.front.Decided.{Decided}
use Rattle.sq_turns.specs.declared.front.Decided.TheVariants as decided
use Rattle.sq_turns.specs.declared.front.Opened.{Opened}
use Rattle.sq_turns.specs.declared.front.Opened.TheVariants as opened
use Rattle.sq_turns.specs.declared.front.Rewritten.{Rewritten}
use Rattle.sq_turns.specs.declared.front.Rewritten.TheVariants as rewritten
use Rattle.sq_turns.specs.declared.front.SitFault.{SitFault}
use Rattle.sq_turns.specs.declared.front.SitFault.TheVariants as sit
use Rattle.sq_model.specs.CheckRows.{held_checks}
use Rattle.sq_model.specs.States.{IsSame, State}
use Rattle.sq_turns.specs.Tellings.{AreKept, Chooses, ChoosesTag, Grants, GrantsTag, HubState, IsNext, IsOfCheck, IsRefused, IsTakenOf, Leaves, LeavesTag, StandsAt, Works, asks_for, is_outside, machine_now, pools_now, puts_for, tags_now}
use Rattle.sq_turns.specs.declared.hub.HubFault.{HubFault}
use Rattle.sq_turns.specs.declared.hub.HubFault.TheVariants.{Refused, JournalFault, WantOfMemory}
use Rattle.sq_pools.specs.declared.held_seats.HeldSeat.{HeldSeat}
use Rattle.sq_pools.specs.declared.held_seats.HeldSeat.TheVariants as held

-- how a connection opens: as the machine answers the event; too many connections are Full, and no
-- other refusal
abbrev pub OpensBy : Event → Opened → HubState → State → Type 0
OpensBy e opened.In old new = IsNext old.machine (machine_now old) e told.Fine new
OpensBy e opened.Full old new = ((n : ℕ)
    × IsRefused old.machine (machine_now old) e (refusal.TooManyConns n)) × IsSame new old.machine
OpensBy e (opened.Refused why) old new = IsRefused old.machine (machine_now old) e why
    × IsSame new old.machine × ((n : ℕ) → why ≢ refusal.TooManyConns n)
OpensBy e opened.JournalFault old new = IsSame new old.machine
OpensBy e opened.WantOfMemory old new = IsSame new old.machine

pub record Opens (conn : ℕ) (addr : Address) (port : ℕ) (result : Opened)
    (old new : HubState) : Type 0 where
  pub opens : OpensBy (event.Open conn addr port) result old new.machine
  pub rewriter : new.rewriter ≡ old.rewriter
  pub pools : new.pools ≡ old.pools

-- the connection closed, or did not, as the machine answers
abbrev pub ClosesBy : Event → Result (Unit {0}) CloseFault → HubState → State → Type 0
ClosesBy e (Ok u) old new = IsNext old.machine (machine_now old) e told.Fine new
ClosesBy e (Err (close.Refused why)) old new = IsRefused old.machine (machine_now old) e why
    × IsSame new old.machine
ClosesBy e (Err close.JournalFault) old new = IsSame new old.machine
ClosesBy e (Err close.WantOfMemory) old new = IsSame new old.machine

pub record Closes (conn : ℕ) (result : Result (Unit {0}) CloseFault)
    (old new : HubState) : Type 0 where
  pub closes : ClosesBy (event.Close conn) result old new.machine
  pub rewriter : new.rewriter ≡ old.rewriter
  pub pools : new.pools ≡ old.pools

-- while a check goes on come its steps, and events that no connection makes
abbrev pub is_step_of : ℕ → Event → Bool
is_step_of check (event.Step m) = m == check
is_step_of check e = false

abbrev pub goes_on : ℕ → Noted → Bool
goes_on check e = is_step_of check e.event || is_outside e

-- from one state to another a check went on
pub record GoesOn (check : ℕ) (old new : HubState) : Type 0 where
  pub adds : (configs : List Configuration) (h : History) → StandsAt configs h old.machine
      → (more : History) × (list_all (goes_on check) more ≡ true)
      × StandsAt configs (more ++ h) new.machine
  pub kept : AreKept old.begun new.begun
  pub works : Works old.rewriter new.rewriter
  pub pools : new.pools ≡ old.pools

-- the machine refuses the event so behind this history
pub record RefusesLast (configs : List Configuration) (h : History) (e : Event)
    (why : Refusal) : Type 0 where
  pub now : ℕ
  pub next_is : next configs (marked configs h) now e ≡ refuses why

-- a number would be the last
abbrev pub IsForLastNumber : Refusal → Type 0
IsForLastNumber why = (n : ℕ) × (why ≡ refusal.Spent n)

-- a step or the taking of this check
abbrev pub IsOfGoing : ℕ → Event → Type 0
IsOfGoing check e = (e ≡ event.Step check) ⊎ (e ≡ event.Take check)

-- the entries of a check that ended with this record, which was taken last
pub record EndsSo (check : ℕ) (j : Judged) (entries : History) : Type 0 where
  pub now : ℕ
  pub steps : History
  pub cut : entries ≡ entry_at now (event.Take check) (told.Judged j.epoch j.outcome) ∷ steps
  pub on : list_all (goes_on check) steps ≡ true

-- a history whose newest entry is the taking of this record, which is what the machine has of the
-- check behind the older ones, its answers among the rest
pub record TakesOwn (configs : List Configuration) (h : History) (j : Judged) : Type 0 where
  pub now : ℕ
  pub before : History
  pub cut : h ≡ entry_at now (event.Take j.check) (told.Judged j.epoch j.outcome) ∷ before
  pub row : IsTakenOf j.check j (held_checks configs (marked configs before))

-- the entries that a check added up to its record, which is the machine's, or up to what kept it
-- from one; a refusal is the machine's, and of a check that was open it says that a number would be
-- the last
abbrev pub FitsResult : List Configuration → History → ℕ → Result Judged HubFault → History → Type 0
FitsResult configs h check (Ok j) more = EndsSo check j more × TakesOwn configs (more ++ h) j
FitsResult configs h check (Err (Refused why)) more =
    (list_all (goes_on check) more ≡ true)
    × (¬ (why ≡ refusal.WantOfMemory)
    → (e : Event) × IsOfGoing check e × RefusesLast configs (more ++ h) e why)
    × (¬ (why ≡ refusal.WantOfMemory) → check_open h check ≡ true → IsForLastNumber why)
FitsResult configs h check (Err JournalFault) more = list_all (goes_on check) more ≡ true
FitsResult configs h check (Err WantOfMemory) more = list_all (goes_on check) more ≡ true

pub record FinishesAfter (configs : List Configuration) (h : History) (check : ℕ)
    (result : Result Judged HubFault) (new : State) : Type 0 where
  pub more : History
  pub fits : FitsResult configs h check result more
  pub stands : StandsAt configs (more ++ h) new

-- a check is taken to its end
pub record Finishes (check : ℕ) (result : Result Judged HubFault)
    (old new : HubState) : Type 0 where
  pub after : (configs : List Configuration) (h : History) → StandsAt configs h old.machine
      → FinishesAfter configs h check result new.machine
  pub of_check : IsOfCheck check result old
  pub works : Works old.rewriter new.rewriter
  pub pools : new.pools ≡ old.pools

-- the entries of a question that ended with this record: it was asked about this very request, and
-- the record was taken last
pub record IsDecision (conn : ℕ) (request : HttpRequest) (j : Judged)
    (entries : History) : Type 0 where
  pub now : ℕ
  pub rest : History
  pub cut : entries ≡ rest ++ entry_at now (asks_for conn request) (told.Check j.check) ∷ []
  pub ends : EndsSo j.check j rest
  pub request_is : j.sight.request ≡ request

-- the entries of a question without a record: at most it was asked, and its check went on
pub record IsAttempt (conn : ℕ) (request : HttpRequest) (entries : History) : Type 0 where
  pub now : ℕ
  pub check : ℕ
  pub asked : History
  pub rest : History
  pub cut : entries ≡ rest ++ asked
  pub asks : (asked ≡ []) ⊎ (asked ≡ entry_at now (asks_for conn request) (told.Check check) ∷ [])
  pub on : list_all (goes_on check) rest ≡ true

-- an event of a question
abbrev pub IsOfQuestion : ℕ → HttpRequest → Event → Type 0
IsOfQuestion conn request e = (e ≡ asks_for conn request) ⊎ ((n : ℕ) × IsOfGoing n e)

-- the entries that a question added; a record is the machine's, no other request is judged, and a
-- refusal is the machine's; on a connection that was open without a check it says that a number
-- would be the last
abbrev pub FitsDecided : List Configuration → History → ℕ → HttpRequest → Decided → History → Type 0
FitsDecided configs h conn request (decided.Record j) more = IsDecision conn request j more
    × TakesOwn configs (more ++ h) j
FitsDecided configs h conn request (decided.Mismatch other) more = ⊥
FitsDecided configs h conn request (decided.Refused why) more =
    IsAttempt conn request more × ((e : Event) × IsOfQuestion conn request e
    × RefusesLast configs (more ++ h) e why)
    × (is_some (peer_at h conn) ≡ true → open_check h conn ≡ None → IsForLastNumber why)
FitsDecided configs h conn request decided.JournalFault more = IsAttempt conn request more
FitsDecided configs h conn request decided.WantOfMemory more = IsAttempt conn request more

pub record JudgesAfter (configs : List Configuration) (h : History) (conn : ℕ)
    (request : HttpRequest) (result : Decided) (new : State) : Type 0 where
  pub more : History
  pub fits : FitsDecided configs h conn request result more
  pub stands : StandsAt configs (more ++ h) new

-- no other request was judged
abbrev pub IsOwn : Decided → Type 0
IsOwn (decided.Mismatch other) = ⊥
IsOwn (decided.Record j) = ⊤
IsOwn (decided.Refused why) = ⊤
IsOwn decided.JournalFault = ⊤
IsOwn decided.WantOfMemory = ⊤

-- a question about a request
pub record Judges (conn : ℕ) (request : HttpRequest) (result : Decided)
    (old new : HubState) : Type 0 where
  pub after : (configs : List Configuration) (h : History) → StandsAt configs h old.machine
      → JudgesAfter configs h conn request result new.machine
  pub own : IsOwn result
  pub works : Works old.rewriter new.rewriter
  pub pools : new.pools ≡ old.pools

-- what a front answers for what was taken of its question
abbrev pub rewritten_of : Rewriting → Rewritten
rewritten_of (rewriting.Same cause) = rewritten.Same
rewritten_of (rewriting.New new) = rewritten.New new
rewritten_of (rewriting.Redirect code url) = rewritten.Redirect code url

-- what it answers where the rewriter refuses a call: the request stays the same
abbrev pub unasked_of : RewriteFault → Rewritten
unasked_of fault.Full = rewritten.Same
unasked_of fault.NoStartOpen = rewritten.Same
unasked_of (fault.UnknownProc k) = rewritten.Same
unasked_of (fault.UnknownQuestion q) = rewritten.Same
unasked_of (fault.Spent n) = rewritten.Same
unasked_of fault.WantOfMemory = rewritten.WantOfMemory

-- what a question came to was taken, after the rewriter's processes did their part
abbrev pub TakesLast : ℕ → Result Rewriting RewriteFault → Option RewriteState → Option RewriteState
    → Type 0
TakesLast q result None new = (result ≡ Err (fault.UnknownQuestion q)) × (new ≡ None)
TakesLast q (Ok taken) (Some s) new = (more : Calls) × (list_all is_of_processes more ≡ true)
    × RunsOn (Took q taken ∷ more) s × (new ≡ Some (after_calls (Took q taken ∷ more) s))
TakesLast q (Err f) (Some s) new = (more : Calls) × (list_all is_of_processes more ≡ true)
    × RunsOn more s × (new ≡ Some (after_calls more s))
    × (take_refusal q (after_calls more s) ≡ Some f)

-- the same of what a hub tells; meanwhile only events came that no connection makes
pub record TakesAtLast (q : ℕ) (result : Result Rewriting RewriteFault)
    (old new : HubState) : Type 0 where
  pub adds : (configs : List Configuration) (h : History) → StandsAt configs h old.machine
      → (more : History) × (list_all is_outside more ≡ true)
      × StandsAt configs (more ++ h) new.machine
  pub kept : AreKept old.begun new.begun
  pub takes : TakesLast q result old.rewriter new.rewriter
  pub pools : new.pools ≡ old.pools

-- the calls of a question that was put for this record and taken: this was taken of it, after the
-- rewriter's processes did their part
pub record IsRewriting (j : Judged) (said : Rewritten) (calls : Calls) : Type 0 where
  pub question : ℕ
  pub taken : Rewriting
  pub meanwhile : Calls
  pub cut : calls ≡ Took question taken ∷ (meanwhile ++ puts_for j question ∷ [])
  pub on : list_all is_of_processes meanwhile ≡ true
  pub said_is : said ≡ rewritten_of taken

-- what a question to the rewriter comes to: what was taken of it; where it is refused for want of a
-- place or of a number the request stays the same, and for want of memory nothing becomes of it
pub data ComesTo (j : Judged) (said : Rewritten) (s : RewriteState) (calls : Calls) : Type 0 where
  WasTaken : IsRewriting j said calls → ComesTo j said s calls
  WasRefused : (f : RewriteFault) → ask_refusal s ≡ Some f → calls ≡ [] → said ≡ rewritten.Same
      → ComesTo j said s calls
  HadNoMemory : calls ≡ [] → said ≡ rewritten.WantOfMemory → ComesTo j said s calls

-- without a rewriter the request stays the same
abbrev pub RewritesBy : Judged → Rewritten → Option RewriteState → Option RewriteState → Type 0
RewritesBy j said None new = (said ≡ rewritten.Same) × (new ≡ None)
RewritesBy j said (Some s) new = (calls : Calls) × ComesTo j said s calls × RunsOn calls s
    × (new ≡ Some (after_calls calls s))

-- a question to the rewriter about the request of a record: meanwhile only events came that no
-- connection makes
pub record RewritesFor (j : Judged) (said : Rewritten) (old new : HubState) : Type 0 where
  pub adds : (configs : List Configuration) (h : History) → StandsAt configs h old.machine
      → (more : History) × (list_all is_outside more ≡ true)
      × StandsAt configs (more ++ h) new.machine
  pub kept : AreKept old.begun new.begun
  pub rewrites : RewritesBy j said old.rewriter new.rewriter
  pub pools : new.pools ≡ old.pools

-- why a front has no seat that the pools did not give
abbrev pub unseated_of : ChooseFault → SitFault
unseated_of choose.Spent = sit.Spent
unseated_of choose.WantOfMemory = sit.WantOfMemory

-- what a front holds of what the pools gave
abbrev pub seat_of : (ℕ → HeldSeat) → Result ℕ ChooseFault → Result (Option HeldSeat) SitFault
seat_of make (Ok n) = Ok (Some (make n))
seat_of make (Err fault) = Err (unseated_of fault)

-- the seat of a record, where it is seated so: none where that is nowhere, or the hub's choice in
-- its pool, in pools of the one kind or of the other
abbrev pub SeatsAt : Judged → SeatPlace → Result (Option HeldSeat) SitFault → HubState → HubState
    → Type 0
SeatsAt j Nowhere said old new = (said ≡ Ok None) × (new ≡ old)
SeatsAt j (ByAddress pool) said old new = (chosen : Result ℕ ChooseFault)
    × (said ≡ seat_of held.ByAddress chosen)
    × Chooses j.epoch j.config pool j.sight.addr chosen old new
SeatsAt j (ByTag pool tag) said old new = (chosen : Result ℕ ChooseFault)
    × (said ≡ seat_of held.ByTag chosen)
    × ChoosesTag j.epoch j.config pool tag chosen old new

-- where memory for its tag is wanting there is none, and nothing changes
abbrev pub Seats : Judged → Result (Option HeldSeat) SitFault → HubState → HubState → Type 0
Seats j said old new = SeatsAt j (seat_place j.config j.sight j.answers) said old new
    ⊎ ((needs_tag j ≡ true) × (said ≡ Err sit.WantOfMemory) × (new ≡ old))

-- a call for a seat: the front holds the seat of the record, or, where that is refused, what it
-- held
abbrev pub Sits : Judged → Result (Unit {0}) SitFault → Option HeldSeat → Option HeldSeat → HubState
    → HubState → Type 0
Sits j (Ok u) before now old new = Seats j (Ok now) old new
Sits j (Err fault) before now old new = Seats j (Err fault) old new × (now ≡ before)

-- a grant on a seat; without one nothing changes
abbrev pub GrantsOn : Option HeldSeat → ℕ → ℕ → HubState → HubState → Type 0
GrantsOn None wanted given old new = new ≡ old
GrantsOn (Some (held.ByAddress seat)) wanted given old new = Grants seat wanted given old new
GrantsOn (Some (held.ByTag seat)) wanted given old new = GrantsTag seat wanted given old new

-- whether a bucket of the seat that a front holds is empty at the moment of the next call, where
-- its hub tells; without a seat none is
abbrev pub emptied_on : Option HeldSeat → Option HubState → Option Bool
emptied_on None told = Some false
emptied_on (Some (held.ByAddress seat)) told = option_map
    (λ v. is_dry v.pools.addressed (pools_now v) (seat_in v.pools.addressed seat)) told
emptied_on (Some (held.ByTag seat)) told = option_map
    (λ v. is_dry v.pools.tagged (tags_now v) (seat_in v.pools.tagged seat)) told

-- a seat is given back; without one nothing changes
abbrev pub Rises : Option HeldSeat → HubState → HubState → Type 0
Rises None old new = new ≡ old
Rises (Some (held.ByAddress seat)) old new = Leaves seat old new
Rises (Some (held.ByTag seat)) old new = LeavesTag seat old new
