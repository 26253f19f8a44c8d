-- What a turn did, against its definition.
use Rattle.std.specs.Prelude.{◌≡◌, ℕ, ◌+◌, ◌≤◌, List, ◌++◌, length, Bool, true, false, ◌&&◌, not, Some, None, IfSome, option_to_list, ⊤}
use Rattle.std.specs.declared.option.Option.{Option}
use Rattle.std.specs.Io.KnownBytes.{Appends}
use Rattle.sq_outside.specs.Dials.{Dial, Dialled}
use Rattle.sq_outside.specs.Output.{IsPrefix}
use Rattle.sq_forward.specs.Meters.{granted_after, piece_limit, dry_limit}
use Rattle.sq_forward.specs.Replies.{Reading, IsReading}
use Rattle.sq_turns.specs.Fronts.{FrontAnswer}
use Rattle.sq_turns.specs.Turns.{ClientTurn, text, from_origin, Reply, NoOrigin, Came, is_broken}
use Rattle.sq_turns.specs.declared.ends.Carried.{Carried}
use Rattle.sq_turns.specs.declared.ends.Carried.TheVariants.{Stays, Closes, Over}
use Rattle.sq_turns.specs.declared.ends.End.TheVariants.{Finished, Cut, ClientFault, OriginCut, OriginFault, Starved, WantOfMemory}

-- no fault and no want of memory ended it: all of its text was written
abbrev pub is_exact : Carried → Bool
is_exact Stays = true
is_exact Closes = true
is_exact (Over Finished) = true
is_exact (Over Cut) = true
is_exact (Over ClientFault) = false
is_exact (Over OriginCut) = true
is_exact (Over OriginFault) = false
is_exact (Over Starved) = false
is_exact (Over WantOfMemory) = false

-- it ended by what the origin had to say
abbrev pub is_by_origin : Carried → Bool
is_by_origin Stays = true
is_by_origin Closes = true
is_by_origin (Over Finished) = false
is_by_origin (Over Cut) = false
is_by_origin (Over ClientFault) = false
is_by_origin (Over OriginCut) = true
is_by_origin (Over OriginFault) = false
is_by_origin (Over Starved) = false
is_by_origin (Over WantOfMemory) = false

-- what was granted beyond what was written: up to a piece where the client's link failed
abbrev pub spare_of : Carried → ℕ
spare_of Stays = 0
spare_of Closes = 0
spare_of (Over Finished) = 0
spare_of (Over Cut) = 0
spare_of (Over ClientFault) = piece_limit
spare_of (Over OriginCut) = 0
spare_of (Over OriginFault) = 0
spare_of (Over Starved) = 0
spare_of (Over WantOfMemory) = 0

-- how dry the meter is then: how many pauses came, each behind a grant that found a bucket empty
abbrev pub dry_after : Carried → ℕ
dry_after Stays = 0
dry_after Closes = 0
dry_after (Over Finished) = 0
dry_after (Over Cut) = 0
dry_after (Over ClientFault) = 0
dry_after (Over OriginCut) = 0
dry_after (Over OriginFault) = 0
dry_after (Over Starved) = dry_limit
dry_after (Over WantOfMemory) = 0

-- the bytes that were looked at begin the origin's and read so; a reply that ended by them is of
-- all of them; where the link failed before it, there is none, and where it failed behind its head,
-- there is that
pub record IsReply (bytes seen : List ℕ) (reading : Reading) (broke : Bool)
    (ended : Carried) : Type 0 where
  pub front : IsPrefix seen bytes
  pub reads : IsReading seen reading
  pub whole : is_by_origin ended ≡ true → broke ≡ false → seen ≡ bytes
  pub none : broke ≡ true → reading.final ≡ None
  pub headed : ended ≡ Over OriginFault → reading.final ≡ None → ⊥

-- an origin's part; a tunnel reads no heads, and so none that its link failed before; where there
-- is no origin its link ends nothing
abbrev pub FitsReply : Bool → Reply → Carried → Type 0
FitsReply tunnel NoOrigin ended = ended ≡ Over OriginFault → ⊥
FitsReply tunnel (Came bytes seen reading broke) ended = (tunnel ≡ false
    → IsReply bytes seen reading broke ended) × (tunnel ≡ true → broke ≡ false)

-- all of the bytes, or a front of them
abbrev pub WritesAs : Bool → List ℕ → List ℕ → Type 0
WritesAs true written bytes = written ≡ bytes
WritesAs false written bytes = IsPrefix written bytes

-- the dial that came back is the turn's, with all that it was to get, or a front of that
abbrev pub FitsDial : Bool → Option Dial → Option Dial → Type 0
FitsDial whole None told = told ≡ None
FitsDial whole (Some d) None = ⊥
FitsDial whole (Some d) (Some t) = (t.origin ≡ d.origin) × WritesAs whole t.written d.written

-- what was written to the client and to the origin: the turn's text whole where it ended as the
-- turn does, a front of it otherwise; what the origin gets whole, or a front of it behind a fault
pub record Gives (t : ClientTurn) (broke : Bool) (written : List ℕ) (came : Option Dial)
    (ended : Carried) : Type 0 where
  pub exact : is_exact ended ≡ true → (t.ends ≡ ended) × (written ≡ text t)
  pub front : IsPrefix written (text t)
  pub dial : FitsDial (is_exact ended && not broke) t.dial came

-- so much was granted in a turn of which so many bytes were written
pub record Pays (t : ClientTurn) (seated : Bool) (written : List ℕ) (ended : Carried)
    (granted_before granted_now : ℕ) : Type 0 where
  pub more : ℕ
  pub close : more ≤ spare_of ended
  pub granted : granted_now
      ≡ granted_after seated granted_before (from_origin t (length written) + more)

-- a dialer that tells its dials told them before
pub record WasTold (before now : Option Dialled) : Type 0 where
  pub told : IfSome now (λ _. (old : Dialled) × (before ≡ Some old))

-- the dials that came back are one more, or none
pub record DialsOn (before : Option Dialled) (now : Dialled) (dial : Option Dial) : Type 0 where
  pub old : Dialled
  pub told : before ≡ Some old
  pub made : now.made ≡ old.made + length (option_to_list dial)
  pub back : now.back ≡ old.back ++ option_to_list dial

-- what is seen of a turn: what is left of the client's input, what the client's sink held before
-- and now, how much had been granted before and is now, and the dials before, where they are told
pub record TurnSeen : Type 0 where
  pub left : Option (List ℕ)
  pub before : Option (List ℕ)
  pub now : Option (List ℕ)
  pub granted_before : ℕ
  pub granted_now : ℕ
  pub dialled_before : Option Dialled

abbrev pub turn_seen : Option (List ℕ) → Option (List ℕ) → Option (List ℕ) → ℕ → ℕ
    → Option Dialled → TurnSeen
turn_seen left before now granted_before granted_now dialled_before = record {
  left = left;
  before = before;
  now = now;
  granted_before = granted_before;
  granted_now = granted_now;
  dialled_before = dialled_before;
}

-- the lists of answers that a front stood for before, and those that it stands for now
pub record FrontSeen : Type 1 where
  pub stood : List FrontAnswer → Type 0
  pub stands : List FrontAnswer → Type 0

abbrev pub front_seen : (List FrontAnswer → Type 0) → (List FrontAnswer → Type 0) → FrontSeen
front_seen stood stands = record { stood = stood; stands = stands }

-- a part of a turn, which is t by what the origin had to say, and has these answers of the front to
-- spare
pub record Goes (tunnel : Bool) (t : Reply → ClientTurn) (unasked : List FrontAnswer)
    (seated : Bool) (links : TurnSeen) (dialled_now : Dialled) (failed : Type 0)
    (ended : Carried) : Type 0 where
  pub reply : Reply
  pub written : List ℕ
  pub dial : Option Dial
  pub fits : FitsReply tunnel reply ended
  pub broken : (t reply).faulted ≡ true → failed
  pub gives : Gives (t reply) (is_broken reply) written dial ended
  pub wrote : Appends links.before links.now written
  pub pays : Pays (t reply) seated written ended links.granted_before links.granted_now
  pub dials : DialsOn links.dialled_before dialled_now dial
  pub rest : ended ≡ Stays → links.left ≡ Some (t reply).rest
  pub spare : (t reply).unasked ≡ unasked

-- a fault of a link has its cause
abbrev pub EndHasCause : Type 0 → Type 0 → Carried → Type 0
EndHasCause client origin (Over ClientFault) = client
EndHasCause client origin (Over OriginFault) = origin
EndHasCause client origin (Over Finished) = ⊥
EndHasCause client origin (Over Cut) = ⊤
EndHasCause client origin (Over OriginCut) = ⊤
EndHasCause client origin (Over Starved) = ⊤
EndHasCause client origin (Over WantOfMemory) = ⊤
EndHasCause client origin Stays = ⊤
EndHasCause client origin Closes = ⊤
