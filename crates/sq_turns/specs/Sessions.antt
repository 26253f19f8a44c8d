-- A session over links, a front and a dialer that tell what they hold.
use Rattle.std.specs.Prelude.{◌≡◌, ◌⊎◌, ℕ, ◌+◌, ◌≤◌, List, [], ◌∷◌, ◌++◌, length, sum_by, flat_map, Bool, true, false, ◌&&◌, Some, option_to_list, ⊤}
use Rattle.std.specs.declared.option.Option.{Option}
use Rattle.std.specs.declared.result.Result.{Result}
use Rattle.std.specs.Io.KnownBytes.{Appends}
use Rattle.sq_base.specs.Addresses.{Address}
use Rattle.sq_base.specs.Requests.{HttpRequest}
use Rattle.sq_outside.specs.Dials.{Dial, Dialled}
use Rattle.sq_outside.specs.Output.{IsPrefix}
use Rattle.sq_message.specs.OwnReplies.{error_text}
use Rattle.sq_message.specs.declared.own.Own.TheVariants.{Inner, Stopped, NoMemory, TooManyConns}
use Rattle.sq_forward.specs.Meters.{granted_after, dry_limit}
use Rattle.sq_turns.specs.Begins.{Begins}
use Rattle.sq_turns.specs.Carrying.{sat}
use Rattle.sq_turns.specs.Fronts.{FrontAnswer, OfOpen, OfDecide, OfRewrite, OfSit, OfClose, Decides, SitsBehind, takes_seat}
use Rattle.sq_turns.specs.Steps.{FrontSeen, TurnSeen, spare_of, FitsReply, Gives, DialsOn, Goes}
use Rattle.sq_turns.specs.Turns.{ClientTurn, from_origin, Reply, is_broken, is_connect, asked, turn}
use Rattle.sq_turns.specs.declared.beginning.Begun.{Begun}
use Rattle.sq_turns.specs.declared.beginning.Begun.TheVariants as begun
use Rattle.sq_turns.specs.declared.ends.Carried.{Carried}
use Rattle.sq_turns.specs.declared.ends.Carried.TheVariants.{Stays, Closes, Over}
use Rattle.sq_turns.specs.declared.ends.End.{End}
use Rattle.sq_turns.specs.declared.ends.End.TheVariants.{Finished, Cut, ClientFault, OriginCut, OriginFault, Starved, WantOfMemory}
use Rattle.sq_turns.specs.declared.front.CloseFault.{CloseFault}
use Rattle.sq_turns.specs.declared.front.Decided.TheVariants as decided
use Rattle.sq_turns.specs.declared.front.Opened.{Opened}
use Rattle.sq_turns.specs.declared.front.Opened.TheVariants as opened

-- whether a seat was held in a turn with these answers of the front
abbrev pub held_seat : List FrontAnswer → Bool
held_seat (OfDecide q (decided.Record j) ∷ more) = takes_seat j && sat more
held_seat (OfDecide q (decided.Mismatch other) ∷ more) = false
held_seat (OfDecide q (decided.Refused why) ∷ more) = false
held_seat (OfDecide q decided.JournalFault ∷ more) = false
held_seat (OfDecide q decided.WantOfMemory ∷ more) = false
held_seat (OfRewrite j said ∷ more) = false
held_seat (OfSit k s ∷ more) = false
held_seat (OfOpen a port o ∷ more) = false
held_seat (OfClose c ∷ more) = false
held_seat [] = false

-- the front was asked about this request, what it said is of it, and what the rewriter was asked
-- about and a seat are of its record
abbrev pub JudgesOf : HttpRequest → List FrontAnswer → Type 0
JudgesOf r (OfDecide q d ∷ more) = (q ≡ r) × Decides r d × SitsBehind d more
JudgesOf r (OfRewrite j said ∷ more) = ⊤
JudgesOf r (OfSit k s ∷ more) = ⊤
JudgesOf r (OfOpen a port o ∷ more) = ⊤
JudgesOf r (OfClose c ∷ more) = ⊤
JudgesOf r [] = ⊤

-- the part of a turn from the request on, with the answers that the front gave in it
pub record Answers (r : HttpRequest) (addr : Address) (rest : List ℕ) (front : FrontSeen)
    (links : TurnSeen) (dialled_now : Dialled) (failed : Type 0) (ended : Carried) : Type 0 where
  pub answers : List FrontAnswer
  pub told : (list : List FrontAnswer) → front.stood list → front.stands (list ++ answers)
  pub judges : JudgesOf r answers
  pub goes : Goes (is_connect r) (asked r addr rest answers) [] (held_seat answers) links
      dialled_now failed ended

-- a turn of a session: what its input begins with and what follows that, the answers that the front
-- gave, the origin's part, what was written to the client, the dial that came back, what was
-- granted, and how it ended
pub record SessionStep : Type 0 where
  pub begun : Begun
  pub rest : List ℕ
  pub answers : List FrontAnswer
  pub reply : Reply
  pub written : List ℕ
  pub dial : Option Dial
  pub granted : ℕ
  pub ended : Carried

abbrev pub turn_of : Address → SessionStep → ClientTurn
turn_of addr s = turn addr s.begun s.rest s.answers s.reply

-- whether it asks for a tunnel
abbrev pub asks_tunnel : Begun → Bool
asks_tunnel (begun.Asks r) = is_connect r
asks_tunnel begun.Nothing = false
asks_tunnel begun.Cut = false
asks_tunnel begun.TooLarge = false
asks_tunnel begun.Bad = false
asks_tunnel begun.Failed = false
asks_tunnel begun.WantOfMemory = false

-- the same of the request that came
abbrev pub JudgesBegun : Begun → List FrontAnswer → Type 0
JudgesBegun (begun.Asks r) answers = JudgesOf r answers
JudgesBegun begun.Nothing answers = ⊤
JudgesBegun begun.Cut answers = ⊤
JudgesBegun begun.TooLarge answers = ⊤
JudgesBegun begun.Bad answers = ⊤
JudgesBegun begun.Failed answers = ⊤
JudgesBegun begun.WantOfMemory answers = ⊤

-- with a seat what was written of the origin's bytes was granted, or up to a piece more; without
-- one nothing is counted
abbrev pub IsGranted : ClientTurn → Bool → ℕ → Carried → ℕ → Type 0
IsGranted t true written ended n = (more : ℕ) × (more ≤ spare_of ended)
    × (n ≡ from_origin t written + more)
IsGranted t false written ended n = n ≡ 0

-- the step is the turn that the definition gives of its input
pub record IsStep (addr : Address) (input : List ℕ) (s : SessionStep) : Type 0 where
  pub begins : Begins input s.begun s.rest
  pub fits : FitsReply (asks_tunnel s.begun) s.reply s.ended
  pub asks : (turn_of addr s).unasked ≡ []
  pub judges : JudgesBegun s.begun s.answers
  pub gives : Gives (turn_of addr s) (is_broken s.reply) s.written s.dial s.ended
  pub grants : IsGranted (turn_of addr s) (held_seat s.answers) (length s.written) s.ended s.granted

-- one turn was taken
pub record TakesTurn (addr : Address) (input : List ℕ) (front : FrontSeen) (links : TurnSeen)
    (dialled_now : Dialled) (failed : Type 0) (ended : Carried) : Type 0 where
  pub step : SessionStep
  pub is : IsStep addr input step
  pub ended_is : step.ended ≡ ended
  pub told : (list : List FrontAnswer) → front.stood list → front.stands (list ++ step.answers)
  pub wrote : Appends links.before links.now step.written
  pub dials : DialsOn links.dialled_before dialled_now step.dial
  pub broken : (turn_of addr step).faulted ≡ true → failed
  pub granted : links.granted_now ≡ granted_after true links.granted_before step.granted
  pub rest : ended ≡ Stays → links.left ≡ Some (turn_of addr step).rest

-- how the last turn ends a session
abbrev pub EndsSession : Carried → End → Type 0
EndsSession Stays end = ⊥
EndsSession Closes end = end ≡ Finished
EndsSession (Over why) end = end ≡ why

-- the steps are turns of the input, one after the other up to the last, which ends the session so
abbrev pub Turns : Address → List ℕ → List SessionStep → End → Type 0
Turns addr input [] end = ⊥
Turns addr input (s ∷ []) end = IsStep addr input s × EndsSession s.ended end
Turns addr input (s ∷ (u ∷ us)) end = IsStep addr input s × (s.ended ≡ Stays)
    × Turns addr (turn_of addr s).rest (u ∷ us) end

-- joined over the steps
abbrev pub answers_of : List SessionStep → List FrontAnswer
answers_of steps = flat_map (λ s. s.answers) steps

abbrev pub client_of : List SessionStep → List ℕ
client_of steps = flat_map (λ s. s.written) steps

abbrev pub dials_of : List SessionStep → List Dial
dials_of steps = flat_map (λ s. option_to_list s.dial) steps

abbrev pub granted_of : List SessionStep → ℕ
granted_of steps = sum_by (λ s. s.granted) steps

-- an origin was not reached, or its link failed before the head of a reply
abbrev pub HasFaulted : Address → List SessionStep → Type 0
HasFaulted addr [] = ⊥
HasFaulted addr (s ∷ ss) = ((turn_of addr s).faulted ≡ true) ⊎ HasFaulted addr ss

-- the dials that came back, and no other was made
pub record DialsAll (before : Option Dialled) (now : Dialled) (dials : List Dial) : Type 0 where
  pub old : Dialled
  pub told : before ≡ Some old
  pub made : now.made ≡ old.made + length dials
  pub back : now.back ≡ old.back ++ dials

-- what is seen of a session: what the client's sink held before and now, how much had been granted
-- before and is now, and the dials before, where they are told
pub record SessionSeen : Type 0 where
  pub before : Option (List ℕ)
  pub now : Option (List ℕ)
  pub granted_before : ℕ
  pub granted_now : ℕ
  pub dialled_before : Option Dialled

abbrev pub session_seen : Option (List ℕ) → Option (List ℕ) → ℕ → ℕ → Option Dialled → SessionSeen
session_seen before now granted_before granted_now dialled_before = record {
  before = before;
  now = now;
  granted_before = granted_before;
  granted_now = granted_now;
  dialled_before = dialled_before;
}

-- what the steps of an open connection come to
pub record Serves (addr : Address) (input : List ℕ) (front : FrontSeen) (links : SessionSeen)
    (dialled_now : Dialled) (failed : Type 0) (end : End) : Type 0 where
  pub steps : List SessionStep
  pub turns : Turns addr input steps end
  pub told : (list : List FrontAnswer) → front.stood list
      → front.stands (list ++ answers_of steps)
  pub wrote : Appends links.before links.now (client_of steps)
  pub dials : DialsAll links.dialled_before dialled_now (dials_of steps)
  pub broken : HasFaulted addr steps → failed
  pub granted : links.granted_now ≡ granted_after true links.granted_before (granted_of steps)

-- a reply was written whole, or a front of it before a fault
abbrev pub TellsAs : List ℕ → List ℕ → End → Type 0
TellsAs text written Finished = written ≡ text
TellsAs text written ClientFault = IsPrefix written text
TellsAs text written WantOfMemory = IsPrefix written text
TellsAs text written Cut = ⊥
TellsAs text written OriginCut = ⊥
TellsAs text written OriginFault = ⊥
TellsAs text written Starved = ⊥

pub record TellsWhole (text : List ℕ) (before now : Option (List ℕ)) (end : End) : Type 0 where
  pub written : List ℕ
  pub wrote : Appends before now written
  pub tells : TellsAs text written end

-- a connection that was opened has its turns, and any other none and one reply
abbrev pub ServesOpened : Address → List ℕ → Opened → List SessionStep → List ℕ → End → Type 0
ServesOpened addr input opened.In steps written end = Turns addr input steps end
    × (written ≡ client_of steps)
ServesOpened addr input opened.Full steps written end = (steps ≡ [])
    × TellsAs (error_text TooManyConns false) written end
ServesOpened addr input (opened.Refused why) steps written end = (steps ≡ [])
    × TellsAs (error_text Inner false) written end
ServesOpened addr input opened.JournalFault steps written end = (steps ≡ [])
    × TellsAs (error_text Stopped false) written end
ServesOpened addr input opened.WantOfMemory steps written end = (steps ≡ [])
    × TellsAs (error_text NoMemory false) written end

-- a connection that was opened is closed at the end, once, and any other is not
abbrev pub ClosesOpened : Opened → List FrontAnswer → Type 0
ClosesOpened opened.In closing = (c : Result (Unit {0}) CloseFault) × (closing ≡ OfClose c ∷ [])
ClosesOpened opened.Full closing = closing ≡ []
ClosesOpened (opened.Refused why) closing = closing ≡ []
ClosesOpened opened.JournalFault closing = closing ≡ []
ClosesOpened opened.WantOfMemory closing = closing ≡ []

-- a session: its opening for the client's address and port, its turns, and its close
pub record IsSession (addr : Address) (port : ℕ) (input : List ℕ) (front : FrontSeen)
    (links : SessionSeen) (dialled_now : Dialled) (failed : Type 0) (end : End) : Type 0 where
  pub opening : Opened
  pub steps : List SessionStep
  pub written : List ℕ
  pub closing : List FrontAnswer
  pub serves : ServesOpened addr input opening steps written end
  pub closes : ClosesOpened opening closing
  pub told : (list : List FrontAnswer) → front.stood list
      → front.stands (list ++ OfOpen addr port opening ∷ (answers_of steps ++ closing))
  pub wrote : Appends links.before links.now written
  pub dials : DialsAll links.dialled_before dialled_now (dials_of steps)
  pub broken : HasFaulted addr steps → failed
  pub granted : links.granted_now ≡ granted_after true links.granted_before (granted_of steps)

-- a fault of a link has its cause
abbrev pub SessionHasCause : Type 0 → Type 0 → End → Type 0
SessionHasCause client origin ClientFault = client
SessionHasCause client origin OriginFault = origin
SessionHasCause client origin Finished = ⊤
SessionHasCause client origin Cut = ⊤
SessionHasCause client origin OriginCut = ⊤
SessionHasCause client origin Starved = ⊤
SessionHasCause client origin WantOfMemory = ⊤

-- how dry the front is then: how many pauses came, each behind a grant that found a bucket empty
abbrev pub dry_after_session : End → ℕ
dry_after_session Starved = dry_limit
dry_after_session Finished = 0
dry_after_session Cut = 0
dry_after_session ClientFault = 0
dry_after_session OriginCut = 0
dry_after_session OriginFault = 0
dry_after_session WantOfMemory = 0
