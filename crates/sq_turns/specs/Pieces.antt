-- What a front over a hub that tells stands for: its answers are those of pieces of the machine's
-- history and of the rewriter's calls.
use Rattle.std.specs.Prelude.{◌≡◌, ◌⊎◌, ℕ, List, [], ◌∷◌, ◌++◌, Bool, true, false, Ok, Err, Some, None, ⊤}
use Rattle.std.specs.List.{list_all}
use Rattle.std.specs.Option.{option_map}
use Rattle.std.specs.declared.option.Option.{Option}
use Rattle.std.specs.declared.result.Result.{Result}
use Rattle.sq_base.specs.Addresses.{Address}
use Rattle.sq_rules.specs.Configurations.{Configuration}
use Rattle.sq_machine.specs.Entries.{History, entry_at}
use Rattle.sq_machine.specs.declared.entries.Event.TheVariants as event
use Rattle.sq_machine.specs.declared.entries.Told.TheVariants as told
use Rattle.sq_base.specs.Requests.{HttpRequest}
use Rattle.sq_rewrite.specs.Calls.{Calls}
use Rattle.sq_rewrite.specs.States.{IsRun, RewriteState, is_of_processes, state_of}
use Rattle.sq_rules.specs.Classes.{Class}
use Rattle.sq_turns.specs.Fronts.{FrontAnswer, OfOpen, OfDecide, OfRewrite, OfSit, OfClose}
use Rattle.sq_turns.specs.declared.front.CloseFault.{CloseFault}
use Rattle.sq_turns.specs.declared.front.CloseFault.TheVariants as close
use Rattle.sq_turns.specs.declared.front.Decided.{Decided}
use Rattle.sq_turns.specs.declared.front.Decided.TheVariants as decided
use Rattle.sq_turns.specs.declared.front.Rewritten.{Rewritten}
use Rattle.sq_turns.specs.declared.front.Rewritten.TheVariants as rewritten
use Rattle.sq_checks.specs.Records.{Judged}
use Rattle.sq_turns.specs.declared.front.Opened.{Opened}
use Rattle.sq_turns.specs.declared.front.Opened.TheVariants as opened
use Rattle.sq_turns.specs.Hubs.{Served}
use Rattle.sq_turns.specs.Judging.{IsAttempt, IsDecision, IsRewriting}
use Rattle.sq_turns.specs.Steps.{FrontSeen, front_seen}
use Rattle.sq_turns.specs.Tellings.{HubState, StandsAt, is_outside}

-- an answer of a front, the entries that its call added, and the calls of the rewriter in it
pub record HistoryPiece : Type 0 where
  pub answer : FrontAnswer
  pub entries : History
  pub calls : Calls

-- the connection opened for a client of this address and port, or nothing came of it
abbrev pub IsOpening : ℕ → Address → ℕ → Opened → History → Type 0
IsOpening conn a port opened.In entries = (now : ℕ)
    × (entries ≡ entry_at now (event.Open conn a port) told.Fine ∷ [])
IsOpening conn a port opened.Full entries = entries ≡ []
IsOpening conn a port (opened.Refused why) entries = entries ≡ []
IsOpening conn a port opened.JournalFault entries = entries ≡ []
IsOpening conn a port opened.WantOfMemory entries = entries ≡ []

-- this request was asked about on the connection: with a record it is that of this check, and
-- without one the check may have gone on
abbrev pub IsQuestion : ℕ → HttpRequest → Decided → History → Type 0
IsQuestion conn r (decided.Record j) entries = IsDecision conn r j entries
IsQuestion conn r (decided.Mismatch other) entries = ⊥
IsQuestion conn r (decided.Refused why) entries = IsAttempt conn r entries
IsQuestion conn r decided.JournalFault entries = IsAttempt conn r entries
IsQuestion conn r decided.WantOfMemory entries = IsAttempt conn r entries

-- the connection closed, or nothing came of it
abbrev pub IsClosing : ℕ → Result (Unit {0}) CloseFault → History → Type 0
IsClosing conn (Ok u) entries = (now : ℕ)
    × (entries ≡ entry_at now (event.Close conn) told.Fine ∷ [])
IsClosing conn (Err fault) entries = entries ≡ []

-- the rewriter gave this answer in these calls: what it says of another request, or that a client
-- is sent elsewhere, was taken of the question about this record
abbrev pub IsRewritten : Judged → Rewritten → Calls → Type 0
IsRewritten j rewritten.Same calls = (calls ≡ []) ⊎ IsRewriting j rewritten.Same calls
IsRewritten j (rewritten.New new) calls = IsRewriting j (rewritten.New new) calls
IsRewritten j (rewritten.Redirect code url) calls = IsRewriting j (rewritten.Redirect code url)
    calls
IsRewritten j rewritten.WantOfMemory calls = calls ≡ []

-- the entries and the calls are those of the answer
abbrev pub FitsPiece : ℕ → FrontAnswer → History → Calls → Type 0
FitsPiece conn (OfOpen a port o) entries calls = IsOpening conn a port o entries × (calls ≡ [])
FitsPiece conn (OfDecide r d) entries calls = IsQuestion conn r d entries
    × (list_all is_of_processes calls ≡ true)
FitsPiece conn (OfRewrite j said) entries calls = (list_all is_outside entries ≡ true)
    × IsRewritten j said calls
FitsPiece conn (OfSit j s) entries calls = (entries ≡ []) × (calls ≡ [])
FitsPiece conn (OfClose c) entries calls = IsClosing conn c entries × (calls ≡ [])

-- the newest piece first
abbrev pub ArePieces : ℕ → List HistoryPiece → Type 0
ArePieces conn [] = ⊤
ArePieces conn (p ∷ ps) = FitsPiece conn p.answer p.entries p.calls × ArePieces conn ps

-- the answers, the oldest first
abbrev pub answers_of : List HistoryPiece → List FrontAnswer
answers_of [] = []
answers_of (p ∷ ps) = answers_of ps ++ p.answer ∷ []

-- the entries, the newest first
abbrev pub entries_of : List HistoryPiece → History
entries_of [] = []
entries_of (p ∷ ps) = p.entries ++ entries_of ps

-- the calls, the newest first
abbrev pub calls_of : List HistoryPiece → Calls
calls_of [] = []
calls_of (p ∷ ps) = p.calls ++ calls_of ps

-- the rewriter's state is that of its class after these calls; without one there are none
abbrev pub RunsTo : Option RewriteState → Calls → Type 0
RunsTo None calls = calls ≡ []
RunsTo (Some s) calls = (c : Class) × IsRun c calls × (s ≡ state_of c calls)

-- behind some history and some calls those of the machine and of the rewriter are of pieces with
-- these answers
pub record IsFrontList (conn : ℕ) (s : Served) (list : List FrontAnswer) : Type 0 where
  pub configs : List Configuration
  pub before : History
  pub earlier : Calls
  pub pieces : List HistoryPiece
  pub fit : ArePieces conn pieces
  pub same : list ≡ answers_of pieces
  pub stands : StandsAt configs (entries_of pieces ++ before) s.machine
  pub runs : RunsTo s.rewriter (calls_of pieces ++ earlier)

abbrev pub served_by : HubState → Served
served_by v = record { machine = v.machine; rewriter = v.rewriter }

abbrev pub served_told : Option HubState → Option Served
served_told told = option_map served_by told

-- the answer is no refusal, tells of no journal that could not be written, and of no other request
-- that was judged; of the rewriter and of seats nothing is said
abbrev pub is_unrefused : FrontAnswer → Bool
is_unrefused (OfOpen a port opened.In) = true
is_unrefused (OfOpen a port opened.Full) = false
is_unrefused (OfOpen a port (opened.Refused why)) = false
is_unrefused (OfOpen a port opened.JournalFault) = false
is_unrefused (OfOpen a port opened.WantOfMemory) = true
is_unrefused (OfDecide r (decided.Record j)) = true
is_unrefused (OfDecide r (decided.Mismatch other)) = false
is_unrefused (OfDecide r (decided.Refused why)) = false
is_unrefused (OfDecide r decided.JournalFault) = false
is_unrefused (OfDecide r decided.WantOfMemory) = true
is_unrefused (OfRewrite j said) = true
is_unrefused (OfSit j s) = true
is_unrefused (OfClose (Ok u)) = true
is_unrefused (OfClose (Err (close.Refused why))) = false
is_unrefused (OfClose (Err close.JournalFault)) = false
is_unrefused (OfClose (Err close.WantOfMemory)) = true

-- they are so where no refusal was ever counted
abbrev pub AreUnrefused : ℕ → List FrontAnswer → Type 0
AreUnrefused refused list = refused ≡ 0 → list_all is_unrefused list ≡ true

-- what a front stands for, by the machine and the rewriter where its hub tells them, and by the
-- count of refusals; else it stands for no list
abbrev pub FrontStands : ℕ → Option Served → ℕ → List FrontAnswer → Type 0
FrontStands conn None refused list = ⊥
FrontStands conn (Some s) refused list = IsFrontList conn s list × AreUnrefused refused list

-- what is seen of the front of this connection over a hub, by what the hub told and how many
-- refusals it counted before and now
abbrev pub hub_seen : ℕ → Option HubState → ℕ → Option HubState → ℕ → FrontSeen
hub_seen conn told_before refused_before told_now refused_now =
    front_seen (FrontStands conn (served_told told_before) refused_before)
    (FrontStands conn (served_told told_now) refused_now)
