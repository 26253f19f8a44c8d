-- Acts: what the engine does is what the machine makes, and each lowers what is due.
use Rattle.std.proofs.Common.{◌≡◌, ℕ, ◌<◌, max, true, Option, Some, None, Ok, refl, sym, subst}
use Rattle.std.proofs.lemmas.Option.{none-some}
use Rattle.std.specs.Option.{option_map}
use Rattle.sq_machine.specs.declared.entries.Event.TheVariants as event
use Rattle.sq_machine.specs.Machine.{next}
use Rattle.sq_machine.specs.Next.{nothing}
use Rattle.sq_machine.specs.Marking.{marked}
use Rattle.sq_epochs.specs.DueStates.{told_act}
use Rattle.sq_machine.specs.declared.acts.Act.{Act}
use Rattle.sq_machine.specs.DueActs.{Due, sends, starts, stops}
use Rattle.sq_model.specs.Acts.{due_in}
use Rattle.sq_model.specs.States.{IsSame, State}
use Rattle.sq_engine.specs.Acting.{IsActPromised, after_act, told_of_act}
use Rattle.sq_replay.specs.Riding.{AreBasins}
use Rattle.sq_replay.proofs.PairLaws.{is_elsewhere}
use Rattle.sq_replay.specs.Dues.{dues_in}
use Rattle.sq_replay.specs.Making.{IsActing}
use Rattle.sq_replay.specs.Runs.{ScriptView}
use Rattle.sq_replay.proofs.ActLaws.{due_lowers}
use Rattle.sq_replay.proofs.EngineLaws.{engine_made, engine_moment, late_by}
use Rattle.sq_replay.proofs.MakingLaws.{riders_kept}

act_elsewhere : (s : State) (a : Act) → is_elsewhere event.Act (told_of_act s a) ≡ true
act_elsewhere s a = refl

-- the engine's act is the machine's
pub act_making : (v : ScriptView) (t : State) (now : ℕ) (a : Act) → AreBasins v.pools
    → IsActPromised v.state (max (max now v.latest) v.state.latest) (Some a) t
    → IsActing v (record { state = t; pools = v.pools; latest = max now v.latest; riders = v.riders })
    (max now v.latest) (Ok (Some (told_of_act v.state a)))
act_making v t now a basin promised =
    engine_made v t v.riders now event.Act (told_of_act v.state a) basin (act_elsewhere v.state a) promised
    (λ configs h is. riders_kept v configs h (max now v.latest) event.Act (told_of_act v.state a) is refl)

-- where the engine has none, the machine has none
pub act_none : (v w : ScriptView) (t : State) (now : ℕ)
    → IsActPromised v.state (max (max now v.latest) v.state.latest) None t → IsActing v w (max now v.latest) (Ok None)
act_none v w t now promised configs h is =
    subst (λ (n : ℕ). next configs (marked configs h) n event.Act ≡ nothing) (engine_moment v configs h now is)
    (promised configs h is.engine (late_by v configs h now is))

-- the same at a moment that is the greatest
pub act_at_moment : (v : ScriptView) (t : State) (now u : ℕ) (a : Act) → u ≡ max now v.latest → AreBasins v.pools
    → IsActPromised v.state (max u v.state.latest) (Some a) t
    → IsActing v (record { state = t; pools = v.pools; latest = u; riders = v.riders }) (max now v.latest)
    (Ok (Some (told_of_act v.state a)))
act_at_moment v t now u a e basin =
    subst (λ (n : ℕ). IsActPromised v.state (max n v.state.latest) (Some a) t
    → IsActing v (record { state = t; pools = v.pools; latest = n; riders = v.riders }) (max now v.latest)
    (Ok (Some (told_of_act v.state a)))) (sym e) (act_making v t now a basin)

pub none_at_moment : (v w : ScriptView) (t : State) (now u : ℕ) → u ≡ max now v.latest
    → IsActPromised v.state (max u v.state.latest) None t → IsActing v w (max now v.latest) (Ok None)
none_at_moment v w t now u e p = act_none v w t now
    (subst (λ (n : ℕ). IsActPromised v.state (max n v.state.latest) None t) e p)

-- what an act leaves has less due
pub act_lowers_due : (s t : State) (o : Option Due) (now : ℕ) (a : Act) → o ≡ due_in s → Some a ≡ option_map told_act o
    → IsSame t (after_act o now s) → dues_in t < dues_in s
act_lowers_due s t None now a due told same = absurd (none-some a (sym told))
act_lowers_due s t (Some (stops k)) now a due told same = due_lowers s t (stops k) now (sym due) same
act_lowers_due s t (Some (sends p x)) now a due told same = due_lowers s t (sends p x) now (sym due) same
act_lowers_due s t (Some (starts p)) now a due told same = due_lowers s t (starts p) now (sym due) same
