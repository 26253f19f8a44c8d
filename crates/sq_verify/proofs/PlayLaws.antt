-- What the machine makes of an event, as the judging of a line has it.
use Rattle.std.proofs.Common.{◌≡◌, inr, ℕ, max, List, true, false, Some, None, Result, Ok, Err, refl, ap, subst}
use Rattle.sq_machine.specs.declared.entries.Event.{Event}
use Rattle.sq_machine.specs.declared.entries.Event.TheVariants.{Act, Ask, Begin, Reconfigure}
use Rattle.sq_machine.specs.declared.entries.Told.{Told}
use Rattle.sq_rules.specs.Configurations.{Configuration}
use Rattle.sq_machine.specs.Entries.{History}
use Rattle.sq_machine.specs.Events.{begins_epoch}
use Rattle.sq_machine.specs.Machine.{next}
use Rattle.sq_machine.specs.Marking.{marked}
use Rattle.sq_replay.specs.declared.stops.Stop.{Stop}
use Rattle.sq_replay.specs.declared.stops.Stop.TheVariants as stop
use Rattle.sq_replay.specs.Making.{IsActing, IsMaking, IsReconfiguring, IsRefusal, MayStand, is_refused}
use Rattle.sq_replay.specs.Runs.{IsMade, ScriptView}
use Rattle.sq_conf.specs.declared.faults.ConfFault.{ConfFault}
use Rattle.sq_conf.specs.declared.faults.ConfFault.TheVariants as conf
use Rattle.sq_rules.specs.declared.kinds.Kind.{Kind}
use Rattle.sq_rules.specs.ConfText.{conf_refuses, conf_result}
use Rattle.sq_conf.proofs.TextLaws.{gives_source}
use Rattle.sq_verify.specs.Promised.{Accepts, IsNone, MayFollow, Plays, stop_for}

may : (event : Event) → begins_epoch event ≡ false → MayStand event → MayFollow event
may (Begin offset) e m = absurd m
may Act e m = absurd m
may (Ask conn method target fields) e m = m
may (Reconfigure text) e m = absurd (cc)
may event e m = tt

none : (configs : List Configuration) (h : History) (moment : ℕ) (event : Event) → begins_epoch event ≡ false
    → (event ≡ Act → ⊥) → IsRefusal configs h moment event → IsNone configs h moment event
none configs h moment (Begin offset) e other r = tt
none configs h moment Act e other r = absurd (other refl)
none configs h moment (Ask conn method target fields) e other r = r
none configs h moment (Reconfigure text) e other r = absurd (cc)
none configs h moment event e other r = r

-- an event that is made so
pub make_plays : (old new : ScriptView) (now : ℕ) (event : Event) (r : Result Told Stop) → begins_epoch event ≡ false
    → (event ≡ Act → ⊥) → IsMaking old new now event r → Plays old new now event r
make_plays old new now event (Ok answer) e other m = (may event e m.0, λ configs h is next. m.1 configs h is)
make_plays old new now event (Err stop.Refused) e other m =
    λ configs h is. none configs h (max now old.latest) event e other (m configs h is)
make_plays old new now event (Err stop.WantOfMemory) e other m = tt

-- the act that is due is made
pub act_plays : (old new : ScriptView) (now : ℕ) (answer : Told)
    → IsActing old new (max now old.latest) (Ok (Some answer)) → Plays old new now Act (Ok answer)
act_plays old new now answer a = (tt, λ configs h is next. a configs h is)

-- none is due
pub act_none : (old new : ScriptView) (now : ℕ) → IsActing old new (max now old.latest) (Ok None)
    → Plays old new now Act (Err stop.Refused)
act_none old new now a = λ configs h is. ap is_refused (a configs h is)

-- a reconfiguration by the text that gives its configuration
pub reconfigure_plays : (old new : ScriptView) (now : ℕ) (text : List ℕ) (config : Configuration) (r : Result Told Stop)
    → conf_result text ≡ Ok config → IsReconfiguring old new now config r
    → Plays old new now (Reconfigure text) r
reconfigure_plays old new now text config (Ok answer) read m = (
  (config, read),
  λ configs h is said.
      subst (λ (t : List ℕ). IsMade new configs h (max now old.latest) (Reconfigure t) answer)
      (gives_source text config read) (m configs h is (said config read)),
)
reconfigure_plays old new now text config (Err stop.Refused) read m = λ configs h is.
    inr (subst (λ (t : List ℕ). is_refused (next configs (marked configs h) (max now old.latest) (Reconfigure t))
    ≡ true) (gives_source text config read) (m configs h is))
reconfigure_plays old new now text config (Err stop.WantOfMemory) read m = tt

-- a text that gives no configuration
pub accepts_none : (text : List ℕ) (fault : ConfFault)
    → ((line : ℕ) (kind : Kind) → fault ≡ conf.At (record { line = line; kind = kind }) → conf_refuses text line kind)
    → Accepts text (Err (stop_for fault))
accepts_none text (conf.At e) refused = (e, refused e.line e.kind refl)
accepts_none text conf.WantOfMemory refused = tt
