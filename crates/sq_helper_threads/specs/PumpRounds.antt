-- What a round of a pump does: it hands out halves, makes a turn, and ends a process that has
-- waited for its keeper's thread.
use Rattle.std.specs.Prelude.{◌≡◌, ◌⊎◌, ℕ, ◌+◌, ◌++◌, Bool, true, false, List, [], ◌∷◌, Some, None, Result, Ok, Err, map, length, position, slice_get, take, drop}
use Rattle.std.specs.declared.option.Option.{Option}
use Rattle.sq_keeper.specs.Pipes.{HalfTells}
use Rattle.sq_keeper.specs.Waiting.{has_waited}
use Rattle.sq_outside.specs.Causes.{raised}
use Rattle.sq_outside.specs.World.{GivesMoment}
use Rattle.sq_helper_threads.specs.Entries.{IsTurn}
use Rattle.sq_helper_threads.specs.Handing.{HandsDeath, desk_step}
use Rattle.sq_helper_threads.specs.Pumps.{PumpTells, PumpView, step}
use Rattle.sq_helper_threads.specs.Turning.{LetsGo}
use Rattle.sq_helper_threads.specs.declared.halves.AskerOut.{AskerOut}
use Rattle.sq_helper_threads.specs.declared.keeper_counts.KeeperCounts.{KeeperCounts}
use Rattle.sq_helper_threads.specs.declared.keeper_halves.ProcOut.{ProcOut}
use Rattle.sq_helper_threads.specs.declared.keeper_halves.ProcOut.TheVariants.{Asker, Child}
use Rattle.sq_helper_threads.specs.declared.reader.Reader.{Reader}
use Rattle.sq_helper_threads.specs.declared.rounds.HandEnd.{HandEnd}
use Rattle.sq_helper_threads.specs.declared.rounds.HandEnd.TheVariants as hand
use Rattle.sq_helper_threads.specs.declared.rounds.PumpRound.{PumpRound}
use Rattle.sq_helper_threads.specs.declared.rounds.PumpRound.TheVariants as end
use Rattle.sq_helper_threads.specs.declared.turns.Turn.{Turn}
use Rattle.sq_helper_threads.specs.declared.turns.Turn.TheVariants as turn

-- at this moment none of these halves has waited for its keeper for as long as its process may owe
-- an answer
abbrev pub NoneWaited : {P : Type 0} → ℕ → List (Reader P) → Type 0
NoneWaited moment halves = position (λ half. has_waited half.since moment) halves ≡ None

-- nor has any that a pump holds
abbrev pub NoHalfWaited : {P Q R D : Type 0} → ℕ → PumpView P Q R D → Type 0
NoHalfWaited moment pump = NoneWaited moment pump.readers × NoneWaited moment pump.asking

-- the first half that has waited for so long was taken out
pub record TakesWaited {P : Type 0} (moment : ℕ) (half : Reader P)
    (old new : List (Reader P)) : Type 0 where
  pub place : ℕ
  pub place_is : position (λ h. has_waited h.since moment) old ≡ Some place
  pub half_is : slice_get old place ≡ Some half
  pub new_is : new ≡ take place old ++ drop (place + 1) old

-- the half of this process, which is read, has waited for so long, and was taken out of those that
-- a pump holds: of a program, or of a thread that answers look-ups
abbrev pub FindsWaited : {P Q R D : Type 0} → ℕ → ℕ → PumpView P Q R D → PumpView P Q R D → Type 0
FindsWaited {P = P} {R = R} moment proc before now =
    ((half : Reader P) × (half.proc ≡ proc)
    × TakesWaited moment half before.readers now.readers
    × (now ≡ record before { readers = now.readers; room = now.room }))
    ⊎ ((half : Reader (AskerOut R)) × (half.proc ≡ proc)
    × TakesWaited moment half before.asking now.asking
    × (now ≡ record before { asking = now.asking; asking_room = now.asking_room }))

-- what is seen of keepers: how many halves they were given, how often one could not be had, and how
-- many parts of the book of refusals are left for them
pub record KeepersSeen : Type 0 where
  pub given : ℕ
  pub unhad : ℕ
  pub spare : ℕ

abbrev pub keepers_of : KeeperCounts → ℕ → KeepersSeen
keepers_of counts spare = record { given = counts.given; unhad = counts.unhad; spare = spare }

-- a half was given to a keeper, with a part of the book for good, exactly where the call says so,
-- and else a keeper could not be had; either is counted
abbrev pub CountsKeeper : {A E : Type 0} → KeepersSeen → KeepersSeen → Result A E → Type 0
CountsKeeper had has (Ok a) = (has.given ≡ raised had.given) × (has.unhad ≡ had.unhad)
    × (had.spare ≡ has.spare + 1)
CountsKeeper had has (Err e) = (has.given ≡ had.given) × (has.unhad ≡ raised had.unhad)
    × (has.spare ≡ had.spare)

-- a count after each of these was counted
abbrev pub counted : {A : Type 0} → List A → ℕ → ℕ
counted [] n = n
counted (half ∷ halves) n = raised (counted halves n)

-- whether a keeper could not be had, and a count after that
abbrev pub is_refusal : HandEnd → Bool
is_refusal hand.All = false
is_refusal hand.Refused = true
is_refusal hand.WantOfMemory = false

abbrev pub counted_if : Bool → ℕ → ℕ
counted_if true n = raised n
counted_if false n = n

-- the halves that no keeper has, in the order that is the reverse of that in which they are handed
-- out: those of programs are handed out first
abbrev pub held_halves : {P Q R D : Type 0} → PumpView P Q R D → List (ProcOut P R)
held_halves pump = map Asker pump.asking ++ map Child pump.readers

-- nothing but these halves, and the room for them, changed
abbrev pub OnlyHalves : {P Q R D : Type 0} → PumpView P Q R D → PumpView P Q R D → Type 0
OnlyHalves before now = now ≡ record before {
  readers = now.readers;
  room = now.room;
  asking = now.asking;
  asking_room = now.asking_room;
}

-- a half was put to those of its kind, and nothing else changed
abbrev pub PutsBack : {P Q R D : Type 0} → ProcOut P R → PumpView P Q R D → PumpView P Q R D
    → Type 0
PutsBack (Child half) before now = (now.readers ≡ before.readers ++ half ∷ [])
    × (now ≡ record before { readers = now.readers; room = now.room })
PutsBack (Asker half) before now = (now.asking ≡ before.asking ++ half ∷ [])
    × (now ≡ record before { asking = now.asking; asking_room = now.asking_room })

-- Of the halves that were held, these were given to keepers, the last one first: all of them; or
-- all behind one for which no keeper could be had, and one that came back was put to the others; or
-- there was no memory, and none was.
abbrev pub GivesHalves : {P Q R D : Type 0} → HandEnd → PumpView P Q R D → List (ProcOut P R)
    → PumpView P Q R D → Type 0
GivesHalves hand.All before given now = (held_halves before ≡ given) × (now.readers ≡ [])
    × (now.asking ≡ [])
GivesHalves {P = P} {Q = Q} {R = R} {D = D} hand.Refused before given now =
    (left : PumpView P Q R D) × (half : ProcOut P R) × (back : ProcOut P R)
    × (held_halves before ≡ held_halves left ++ half ∷ given) × PutsBack back left now
GivesHalves hand.WantOfMemory before given now = (given ≡ []) × (now.readers ≡ before.readers)
    × (now.asking ≡ before.asking)

-- Halves were given to keepers, up to one for which none could be had, where there was one. Each
-- that was given is counted once and has its part of the book, a refusal is counted exactly where
-- there was one, and nothing else changed.
pub record HandsOut {P Q R D : Type 0} (before : PumpView P Q R D) (had : KeepersSeen)
    (result : HandEnd) (now : PumpView P Q R D) (has : KeepersSeen) : Type 0 where
  pub given : List (ProcOut P R)
  pub halves : GivesHalves result before given now
  pub given_is : has.given ≡ counted given had.given
  pub unhad_is : has.unhad ≡ counted_if (is_refusal result) had.unhad
  pub spare_is : had.spare ≡ has.spare + length given
  pub same : OnlyHalves before now

-- a process that has waited for its keeper for so long was ended: its half that is written to was
-- closed and let go of, and its death was handed to the desk at this moment
pub record EndsWaited {P Q R D : Type 0} (halves : HalfTells Q) (moment : ℕ)
    (before now : PumpView P Q R D) : Type 0 where
  pub proc : ℕ
  pub found : PumpView P Q R D
  pub finds : FindsWaited moment proc before found
  pub closes : LetsGo halves proc found.pipes now.pipes
  pub hands : HandsDeath (desk_step found.first found.told now.told found.refused now.refused
      now.stopped) proc moment
  pub same : now ≡ record found {
    desk = now.desk;
    told = now.told;
    refused = now.refused;
    stopped = now.stopped;
    pipes = now.pipes;
  }

-- What follows a turn at a moment that left this pump. Only where nothing was due, and where a
-- keeper was refused, a process that has waited is ended.
abbrev pub EndsRound : {P Q R D : Type 0} → HalfTells Q → ℕ → Bool → Turn → PumpView P Q R D
    → PumpRound → PumpView P Q R D → Type 0
EndsRound halves moment is_refused (turn.Acted act) turned result now =
    (result ≡ end.Worked) × (now ≡ turned)
EndsRound halves moment is_refused turn.WantOfMemory turned result now =
    (result ≡ end.WantOfMemory) × (now ≡ turned)
EndsRound halves moment is_refused turn.Ended turned result now =
    (result ≡ end.Ended) × (now ≡ turned)
EndsRound halves moment is_refused turn.Idle turned result now =
    ((result ≡ end.Idle) × (now ≡ turned) × (turned.readers ≡ []) × (turned.asking ≡ []))
    ⊎ ((result ≡ end.Held) × (now ≡ turned)
    × ((is_refused ≡ false) ⊎ NoHalfWaited moment turned))
    ⊎ ((result ≡ end.Worked) × (is_refused ≡ true) × EndsWaited halves moment turned now)

-- a turn was made at this moment, and then a process may have been ended
pub record TurnsAndEnds {P Q R D : Type 0} (tells : PumpTells P Q D) (moment : ℕ)
    (is_refused : Bool) (before : PumpView P Q R D) (result : PumpRound)
    (now : PumpView P Q R D) : Type 0 where
  pub turn : Turn
  pub turned : PumpView P Q R D
  pub turns : IsTurn tells (step moment before turn turned)
  pub ends : EndsRound tells.halves moment is_refused turn turned result now

-- what is seen of a pump round a round: the pump and its keepers before and behind it, and the
-- moments that its clock will give
pub record RoundSeen (P Q R D : Type 0) : Type 0 where
  pub before : PumpView P Q R D
  pub now : PumpView P Q R D
  pub keepers_before : KeepersSeen
  pub keepers_now : KeepersSeen
  pub moments_before : Option (List ℕ)
  pub moments_now : Option (List ℕ)

-- First halves are handed out, then a turn is made, and then a process may be ended, where a keeper
-- could not be had in this round.
pub record IsRound {P Q R D : Type 0} (tells : PumpTells P Q D) (seen : RoundSeen P Q R D)
    (result : PumpRound) : Type 0 where
  pub handing : HandEnd
  pub handed : PumpView P Q R D
  pub hands : HandsOut seen.before seen.keepers_before handing handed seen.keepers_now
  pub moment : ℕ
  pub gave : GivesMoment seen.moments_before seen.moments_now moment
  pub ends : TurnsAndEnds tells moment (is_refusal handing) handed result seen.now
