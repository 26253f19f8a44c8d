-- What a round of a rewriter's pump does: it hands out halves, makes a turn, and ends a process
-- that has waited for its keeper's thread.
use Rattle.std.specs.Prelude.{◌≡◌, ◌⊎◌, ℕ, ◌+◌, ◌++◌, Bool, true, false, List, [], ◌∷◌, Some, None, Result, Ok, Err, position, slice_get, take, drop}
use Rattle.std.specs.declared.option.Option.{Option}
use Rattle.sq_keeper.specs.Pipes.{HalfTells}
use Rattle.sq_keeper.specs.Waiting.{has_waited}
use Rattle.sq_outside.specs.Causes.{raised}
use Rattle.sq_outside.specs.World.{GivesMoment}
use Rattle.sq_rewrite.specs.Handing.{HandsDeath}
use Rattle.sq_rewrite.specs.Pumps.{RewritePumpView, step}
use Rattle.sq_rewrite.specs.Turning.{ClosesHalf, TurnsFrom}
use Rattle.sq_rewrite.specs.declared.half_counts.HalfCounts.{HalfCounts}
use Rattle.sq_rewrite.specs.declared.rounds.RoundEnd.{RoundEnd}
use Rattle.sq_rewrite.specs.declared.rounds.RoundEnd.TheVariants as end
use Rattle.sq_rewrite.specs.declared.turns.RewriterTurn.{RewriterTurn}
use Rattle.sq_rewrite.specs.declared.turns.RewriterTurn.TheVariants as turn
use Rattle.sq_rewrite.specs.declared.unread.UnreadHalf.{UnreadHalf}

-- at this moment none of these halves has waited for its keeper for as long as its process may owe
-- an answer
abbrev pub NoneWaited : {P : Type 0} → ℕ → List (UnreadHalf P) → Type 0
NoneWaited moment halves = position (λ half. has_waited half.since moment) halves ≡ None

-- the first half that has waited for so long was taken out
pub record TakesWaited {P : Type 0} (moment : ℕ) (half : UnreadHalf P)
    (old new : List (UnreadHalf P)) : Type 0 where
  pub place : ℕ
  pub place_is : position (λ h. has_waited h.since moment) old ≡ Some place
  pub half_is : slice_get old place ≡ Some half
  pub new_is : new ≡ take place old ++ drop (place + 1) old

-- a half was given to a keeper exactly where the call says so, and else a keeper could not be had;
-- either is counted
abbrev pub CountsKeeper : {A E : Type 0} → HalfCounts → HalfCounts → Result A E → Type 0
CountsKeeper had has (Ok a) = (has.given ≡ raised had.given) × (has.refused ≡ had.refused)
CountsKeeper had has (Err e) = (has.given ≡ had.given) × (has.refused ≡ raised had.refused)

-- a count after each of these was counted
abbrev pub counted : {A : Type 0} → List A → ℕ → ℕ
counted [] n = n
counted (half ∷ halves) n = raised (counted halves n)

-- a count after a refusal, where there was one
abbrev pub counted_if : Bool → ℕ → ℕ
counted_if true n = raised n
counted_if false n = n

-- Of the halves that were held, these were given to keepers, the last one first: all of them; or
-- all behind one for which no keeper could be had, and one that was handed back is held in its
-- place.
abbrev pub GivesHalves : {P : Type 0} → Bool → List (UnreadHalf P) → List (UnreadHalf P)
    → List (UnreadHalf P) → Type 0
GivesHalves false held given kept = (held ≡ given) × (kept ≡ [])
GivesHalves {P = P} true held given kept = (front : List (UnreadHalf P)) × (half : UnreadHalf P)
    × (back : UnreadHalf P) × (held ≡ front ++ half ∷ given) × (kept ≡ front ++ back ∷ [])

-- Halves were given to keepers, up to one for which none could be had, where there was one. Each
-- that was given is counted once, a refusal exactly where there was one, and nothing else changed.
pub record HandsOut {P Q : Type 0} (before : RewritePumpView P Q) (had : HalfCounts)
    (is_refused : Bool) (now : RewritePumpView P Q) (has : HalfCounts) : Type 0 where
  pub given : List (UnreadHalf P)
  pub halves : GivesHalves is_refused before.readers given now.readers
  pub given_is : has.given ≡ counted given had.given
  pub refused_is : has.refused ≡ counted_if is_refused had.refused
  pub same : now ≡ record before { readers = now.readers; room = now.room }

-- the first process that has waited for its keeper for so long was ended: its half that is written
-- to was closed, and its death was noted or refused
pub record EndsWaited {P Q : Type 0} (tells : HalfTells Q) (moment : ℕ)
    (before now : RewritePumpView P Q) : Type 0 where
  pub half : UnreadHalf P
  pub takes : TakesWaited moment half before.readers now.readers
  pub closes : ClosesHalf tells half.proc before.pipes now.pipes
  pub hands : HandsDeath before.told now.told half.proc
  pub same : now ≡ record before {
    told = now.told;
    pipes = now.pipes;
    readers = now.readers;
    room = now.room;
  }

-- What follows a turn at a moment that left this pump. Only where nothing was due, and where a
-- keeper's thread was refused, a process that has waited is ended.
abbrev pub EndsRound : {P Q : Type 0} → HalfTells Q → ℕ → Bool → RewriterTurn → RewritePumpView P Q
    → RoundEnd → RewritePumpView P Q → Type 0
EndsRound tells moment is_refused (turn.Acted act) turned result now =
    (result ≡ end.Worked) × (now ≡ turned)
EndsRound tells moment is_refused turn.WantOfMemory turned result now =
    (result ≡ end.WantOfMemory) × (now ≡ turned)
EndsRound tells moment is_refused turn.Idle turned result now =
    ((result ≡ end.Idle) × (now ≡ turned) × (turned.readers ≡ []))
    ⊎ ((result ≡ end.Held) × (now ≡ turned)
    × ((is_refused ≡ false) ⊎ NoneWaited moment turned.readers))
    ⊎ ((result ≡ end.Worked) × (is_refused ≡ true) × EndsWaited tells moment turned now)

-- a turn was made at this moment, and then a process may have been ended
pub record TurnsAndEnds {P Q : Type 0} (read_faults : P → ℕ) (tells : HalfTells Q) (moment : ℕ)
    (is_refused : Bool) (before : RewritePumpView P Q) (result : RoundEnd)
    (now : RewritePumpView P Q) : Type 0 where
  pub turn : RewriterTurn
  pub turned : RewritePumpView P Q
  pub turns : TurnsFrom read_faults tells before.left (step moment before turn turned)
  pub ends : EndsRound tells moment is_refused turn turned result now

-- what is seen of a pump round a round: the pump before and after, how many halves keepers were
-- given and how often one could not be had, and the moments that its clock will give
pub record RoundSeen (P Q : Type 0) : Type 0 where
  pub before : RewritePumpView P Q
  pub now : RewritePumpView P Q
  pub counts_before : HalfCounts
  pub counts_now : HalfCounts
  pub moments_before : Option (List ℕ)
  pub moments_now : Option (List ℕ)

-- First halves are handed out, then a turn is made, and then a process may be ended, where a
-- keeper's thread was refused in this round.
pub record IsRound {P Q : Type 0} (read_faults : P → ℕ) (tells : HalfTells Q)
    (seen : RoundSeen P Q) (result : RoundEnd) : Type 0 where
  pub handed : RewritePumpView P Q
  pub is_refused : Bool
  pub hands : HandsOut seen.before seen.counts_before is_refused handed seen.counts_now
  pub moment : ℕ
  pub gave : GivesMoment seen.moments_before seen.moments_now moment
  pub ends : TurnsAndEnds read_faults tells moment is_refused handed result seen.now
