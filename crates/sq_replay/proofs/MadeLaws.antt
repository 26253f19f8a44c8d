-- From what the machine makes of an event to the step of a line, and to the end of the acts.
use Rattle.std.proofs.Common.{◌≡◌, ℕ, List, ◌∷◌, Bool, true, false, max, if◌then◌else◌, Option, Result, Ok, Err, is_some, inl, inr, refl, sym, ap, subst, ◌∙◌}
use Rattle.std.specs.declared.result.Result.{Result}
use Rattle.sq_base.specs.declared.requests.Field.{Field}
use Rattle.sq_request.specs.Written.{made_request}
use Rattle.sq_machine.specs.declared.entries.Event.{Event}
use Rattle.sq_machine.specs.declared.entries.Event.TheVariants.{Act, Ask, Begin, Reconfigure}
use Rattle.sq_machine.specs.declared.entries.Told.{Told}
use Rattle.sq_rules.specs.Configurations.{Configuration}
use Rattle.sq_machine.specs.Entries.{History, entry_at}
use Rattle.sq_machine.specs.Events.{begins_epoch}
use Rattle.sq_machine.specs.Machine.{next}
use Rattle.sq_machine.specs.Next.{nothing}
use Rattle.sq_machine.specs.Marking.{marked}
use Rattle.sq_replay.specs.declared.ends.RunEnd.{RunEnd}
use Rattle.sq_replay.specs.declared.ends.RunEnd.TheVariants as ends
use Rattle.sq_replay.specs.declared.stops.Stop.TheVariants as stop
use Rattle.sq_replay.specs.Making.{IsMaking, IsRefusal, MayStand}
use Rattle.sq_replay.specs.RunText.{Shelf, acts, asked_next, event_step}
use Rattle.sq_replay.specs.Runs.{At, Is, ScriptView, Reached}
use Rattle.sq_replay.proofs.ActLaws.{acts_none}
use Rattle.sq_replay.proofs.MakingLaws.{made_asks, refused_asks}

-- an event that was made is the step of its line
pub made_steps : (v w : ScriptView) (files : Shelf) (configs : List Configuration) (h : History) (number now : ℕ)
    (event : Event) (answer : Told) → begins_epoch event ≡ false → Is v configs h
    → IsMaking v w now event (Ok answer)
    → event_step files configs h number now event ≡ Ok (acts configs (entry_at (max now v.latest) event answer ∷ h))
made_steps v w files configs h number now event answer plain is making =
    by event plain making.0 (made_asks v w configs h number now event answer is (making.1 configs h is))
  where
    by : (event : Event) → begins_epoch event ≡ false → MayStand event
        → asked_next configs h number now event ≡ Ok (acts configs (entry_at (max now v.latest) event answer ∷ h))
        → event_step files configs h number now event ≡ Ok (acts configs (entry_at (max now v.latest) event answer ∷ h))
    by (Begin offset) plain stands e = absurd stands
    by Act plain stands e = absurd stands
    by (Ask conn method target fields) plain stands e =
        ap (λ (b : Bool). if b then asked_next configs h number now (Ask conn method target fields)
        else Err (ends.Script number)) stands ∙ e
    by (Reconfigure text) plain stands e = absurd (cc)
    by event plain stands e = e

-- one that was refused ends the run at its line
pub refused_steps : (v w : ScriptView) (files : Shelf) (configs : List Configuration) (h : History) (number now : ℕ)
    (event : Event) → begins_epoch event ≡ false → Is v configs h
    → IsMaking v w now event (Err stop.Refused) → event_step files configs h number now event ≡ Err (ends.Script number)
refused_steps v w files configs h number now event plain is making = by event plain (making configs h is)
  where
    asks : (b : Bool) (step : Result History RunEnd) → step ≡ Err (ends.Script number)
        → (if b then step else Err (ends.Script number)) ≡ Err (ends.Script number)
    asks true step e = e
    asks false step e = refl

    by_request : (conn : ℕ) (method target : List ℕ) (fields : List Field)
        → IsRefusal configs h (max now v.latest) (Ask conn method target fields)
        → event_step files configs h number now (Ask conn method target fields) ≡ Err (ends.Script number)
    by_request conn method target fields (inl none) =
        ap (λ o. if is_some o then asked_next configs h number now (Ask conn method target fields)
        else Err (ends.Script number)) none
    by_request conn method target fields (inr r) =
        asks (is_some (made_request method target 1 fields))
        (asked_next configs h number now (Ask conn method target fields))
        (refused_asks v configs h number now (Ask conn method target fields) is r)

    by : (event : Event) → begins_epoch event ≡ false → IsRefusal configs h (max now v.latest) event
        → event_step files configs h number now event ≡ Err (ends.Script number)
    by (Begin offset) plain r = refl
    by Act plain r = refl
    by (Ask conn method target fields) plain r = by_request conn method target fields r
    by (Reconfigure text) plain r = absurd (cc)
    by event plain r = refused_asks v configs h number now event is r

-- where no act is due any more, all were made
pub reached_done : (v : ScriptView) (base contents : Option (List ℕ)) (page : List ℕ) (configs : List Configuration)
    (h : History)
    → ((g : History) → Is v configs g → next configs (marked configs g) v.latest Act ≡ nothing)
    → Reached v base contents page configs h → At v base contents page configs (acts configs h)
reached_done v base contents page configs h none r =
    let last : acts configs r.history ≡ r.history =
    acts_none configs r.history
    (subst (λ (n : ℕ). next configs (marked configs r.history) n Act ≡ nothing) r.at.is.latest_is
    (none r.history r.at.is)) in
    subst (At v base contents page configs) (sym last ∙ r.same) r.at
