-- What a front's answers say: the engine, the rewriter and the pools as one connection sees them.
use Rattle.std.specs.Prelude.{◌≡◌, ◌⊎◌, ℕ, List, [], ◌∷◌, Bool, Ok, Err, is_some, ⊤}
use Rattle.std.specs.declared.result.Result.{Result}
use Rattle.sq_base.specs.Addresses.{Address}
use Rattle.sq_base.specs.Requests.{HttpRequest}
use Rattle.sq_checks.specs.Records.{Judged}
use Rattle.sq_machine.specs.SeatPlaces.{pool_at, seat_place}
use Rattle.sq_outside.specs.Causes.{Rose, raised}
use Rattle.sq_rewrite.specs.Rewritings.{IsInPlaceOf, IsRedirect}
use Rattle.sq_turns.specs.declared.front.Opened.{Opened}
use Rattle.sq_turns.specs.declared.front.Opened.TheVariants as opened
use Rattle.sq_turns.specs.declared.front.SitFault.{SitFault}
use Rattle.sq_turns.specs.declared.front.CloseFault.{CloseFault}
use Rattle.sq_turns.specs.declared.front.CloseFault.TheVariants as close
use Rattle.sq_turns.specs.declared.front.Decided.{Decided}
use Rattle.sq_turns.specs.declared.front.Decided.TheVariants.{Record, Mismatch, Refused, JournalFault, WantOfMemory}
use Rattle.sq_turns.specs.declared.front.Rewritten.{Rewritten}
use Rattle.sq_turns.specs.declared.front.Rewritten.TheVariants as rewritten

-- an answer that a front gave: to the opening for this address and port, to a question about this
-- request, to a question to the rewriter about this record, to a call for a seat with this record,
-- to the close
pub data FrontAnswer : Type 0 where
  OfOpen : Address → ℕ → Opened → FrontAnswer
  OfDecide : HttpRequest → Decided → FrontAnswer
  OfRewrite : Judged → Rewritten → FrontAnswer
  OfSit : Judged → Result (Unit {0}) SitFault → FrontAnswer
  OfClose : Result (Unit {0}) CloseFault → FrontAnswer

-- a record has the request that was asked about; another that was judged is told
abbrev pub Decides : HttpRequest → Decided → Type 0
Decides r (Record j) = j.sight.request ≡ r
Decides r (Mismatch other) = other ≡ r → ⊥
Decides r (Refused why) = ⊤
Decides r JournalFault = ⊤
Decides r WantOfMemory = ⊤

-- another request in place of this one has its method, version and fields, and the scheme http; a
-- client is sent elsewhere with a status of a redirect and a URL
abbrev pub Rewrites : HttpRequest → Rewritten → Type 0
Rewrites r rewritten.Same = ⊤
Rewrites r (rewritten.New new) = IsInPlaceOf r new
Rewrites r (rewritten.Redirect code url) = IsRedirect code url
Rewrites r rewritten.WantOfMemory = ⊤

-- where the next answers are of the rewriter and to a call for a seat, they are with this record,
-- and what the rewriter makes of a request it makes of the record's
abbrev pub SitsFor : Judged → List FrontAnswer → Type 0
SitsFor j [] = ⊤
SitsFor j (OfRewrite k said ∷ more) = (k ≡ j) × Rewrites j.sight.request said × SitsFor j more
SitsFor j (OfSit k s ∷ more) = k ≡ j
SitsFor j (OfDecide r d ∷ more) = ⊤
SitsFor j (OfOpen a port o ∷ more) = ⊤
SitsFor j (OfClose c ∷ more) = ⊤

-- the same behind an answer that is a record
abbrev pub SitsBehind : Decided → List FrontAnswer → Type 0
SitsBehind (Record j) more = SitsFor j more
SitsBehind (Mismatch other) more = ⊤
SitsBehind (Refused why) more = ⊤
SitsBehind JournalFault more = ⊤
SitsBehind WantOfMemory more = ⊤

-- a question more, or none where there is no record
abbrev pub Asks : ℕ → ℕ → Decided → Type 0
Asks before now (Record j) = now ≡ raised before
Asks before now (Mismatch other) = now ≡ raised before
Asks before now (Refused why) = (now ≡ before) ⊎ (now ≡ raised before)
Asks before now JournalFault = (now ≡ before) ⊎ (now ≡ raised before)
Asks before now WantOfMemory = (now ≡ before) ⊎ (now ≡ raised before)

-- a refusal comes only where the count of refusals rose
abbrev pub OpenRefuses : ℕ → ℕ → Opened → Type 0
OpenRefuses before now opened.In = ⊤
OpenRefuses before now opened.Full = Rose before now
OpenRefuses before now (opened.Refused why) = Rose before now
OpenRefuses before now opened.JournalFault = Rose before now
OpenRefuses before now opened.WantOfMemory = ⊤

abbrev pub DecideRefuses : ℕ → ℕ → Decided → Type 0
DecideRefuses before now (Record j) = ⊤
DecideRefuses before now (Mismatch other) = ⊤
DecideRefuses before now (Refused why) = Rose before now
DecideRefuses before now JournalFault = Rose before now
DecideRefuses before now WantOfMemory = ⊤

abbrev pub CloseRefuses : ℕ → ℕ → Result (Unit {0}) CloseFault → Type 0
CloseRefuses before now (Ok u) = ⊤
CloseRefuses before now (Err (close.Refused why)) = Rose before now
CloseRefuses before now (Err close.JournalFault) = Rose before now
CloseRefuses before now (Err close.WantOfMemory) = ⊤

-- the record takes a seat: it has a pool, and where the buckets of that are by tags, a tag
abbrev pub takes_seat : Judged → Bool
takes_seat j = is_some (pool_at (seat_place j.config j.sight j.answers))
