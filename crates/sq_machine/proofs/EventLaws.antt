-- Which event it is, from what it is told to do: a proof over all events has then one case for those that do not.
use Rattle.std.proofs.Common.{◌≡◌, ℕ, true, Some, None, refl, ap}
use Rattle.std.proofs.lemmas.Option.{none-some, same_Some}
use Rattle.sq_machine.specs.declared.entries.Event.{Event}
use Rattle.sq_machine.specs.declared.entries.Event.TheVariants.{Begin, Take}
use Rattle.sq_machine.specs.declared.entries.Told.{Told}
use Rattle.sq_machine.specs.declared.entries.Told.TheVariants as told
use Rattle.sq_machine.specs.Events.{Judgement, judgement, told_judged, is_begin}

-- what was taken, and what was told
pub record IsJudged (event : Event) (answer : Told) (j : Judgement) : Type 0 where
  pub event_is : event ≡ Take j.check
  pub told_is : answer ≡ told.Judged j.epoch j.outcome

judged_told : (n : ℕ) (answer : Told) (j : Judgement) → told_judged n answer ≡ Some j → IsJudged (Take n) answer j
judged_told n (told.Judged epoch o) j e =
    let same = same_Some _ _ e in
    record { event_is = ap (λ x. Take x.check) same; told_is = ap (λ x. told.Judged x.epoch x.outcome) same }
judged_told n answer j e = absurd (none-some j e)

-- an outcome that was taken is that of a `take`, and was told
pub judged_event : (event : Event) (answer : Told) (j : Judgement) → judgement event answer ≡ Some j
    → IsJudged event answer j
judged_event (Take n) answer j e = judged_told n answer j e
judged_event event answer j e = absurd (none-some j e)

-- the first event of a history takes no outcome
pub begin_judges : (event : Event) (answer : Told) → is_begin event ≡ true → judgement event answer ≡ None
begin_judges (Begin offset) answer b = refl
begin_judges event answer b = absurd (cc)
