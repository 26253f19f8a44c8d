-- What a round does, from what its parts do.
use Rattle.std.proofs.Common.{◌≡◌, ℕ, ◌+◌, Bool, List, ◌++◌, Some, get_or, take, drop, ap, sym, ◌∙◌, subst}
use Rattle.std.specs.Prelude.{position}
use Rattle.std.specs.declared.option.Option.{Option}
use Rattle.std.proofs.lemmas.List.Quantifiers.{position-Some}
use Rattle.std.proofs.lemmas.Option.{slice_get-get_or}
use Rattle.sq_keeper.specs.Waiting.{has_waited}
use Rattle.sq_keeper.specs.Pipes.{HalfTells}
use Rattle.sq_helper_threads.specs.PumpRounds.{EndsRound, EndsWaited, TakesWaited}
use Rattle.sq_helper_threads.specs.Pumps.{PumpView}
use Rattle.sq_helper_threads.specs.declared.reader.Reader.{Reader}
use Rattle.sq_helper_threads.specs.declared.rounds.PumpRound.{PumpRound}
use Rattle.sq_helper_threads.specs.declared.turns.Turn.{Turn}
use Rattle.sq_helper_threads.specs.declared.turns.Turn.TheVariants as turn

-- the first half that has waited was taken out

pub taken_there : {P : Type 0} (moment : ℕ) (old new : List (Reader P)) (found : Option ℕ) (place : ℕ)
    (half : Reader P) → found ≡ position (λ h. has_waited h.since moment) old → found ≡ Some place
    → half ≡ get_or old place half → new ≡ take place old ++ drop (place + 1) old → TakesWaited moment half old new
taken_there moment old new found place half looked at read is =
    let there : position (λ h. has_waited h.since moment) old ≡ Some place = sym looked ∙ at in
    let inside = (position-Some (λ h. has_waited h.since moment) old place half there).0 in
    record {
      place = place;
      place_is = there;
      half_is = slice_get-get_or old place half inside ∙ ap Some (sym read);
      new_is = is;
    }

-- a process was ended after nothing else had changed
pub ended_behind : {P Q R D : Type 0} (halves : HalfTells Q) (moment : ℕ) (before mid now : PumpView P Q R D)
    → mid ≡ before → EndsWaited halves moment mid now → EndsWaited halves moment before now
ended_behind halves moment before mid now same ends = subst (λ v. EndsWaited halves moment v now) same ends

-- what follows a turn for which nothing was due
pub idle_ends : {P Q R D : Type 0} (halves : HalfTells Q) (moment : ℕ) (is_refused : Bool) (t : Turn)
    (turned now later : PumpView P Q R D) (result came : PumpRound) → t ≡ turn.Idle → result ≡ came → now ≡ later
    → EndsRound halves moment is_refused turn.Idle turned came later
    → EndsRound halves moment is_refused t turned result now
idle_ends halves moment is_refused t turned now later result came idle r n ends =
    subst (λ x. EndsRound halves moment is_refused x turned result now) (sym idle)
    (subst (λ x. EndsRound halves moment is_refused turn.Idle turned x now) (sym r)
    (subst (λ x. EndsRound halves moment is_refused turn.Idle turned came x) (sym n) ends))
