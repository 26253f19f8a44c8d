-- What is answered to each event of a script, by the engine's state.
use Rattle.std.proofs.Common.{◌≡◌, ℕ, suc, ◌≤◌, List, Bool, true, false, not, ◌&&◌, ◌==◌, nat_le, bytes_eq, slice_get, position, if◌then◌else◌, Option, Some, None, option_and_then, refl, sym, ap, ◌∙◌}
use Rattle.std.proofs.lemmas.Option.{none-some}
use Rattle.sq_base.proofs.CommonLaws.{then_some}
use Rattle.sq_base.specs.Addresses.{Address}
use Rattle.sq_base.specs.declared.requests.Field.{Field}
use Rattle.sq_machine.specs.declared.entries.Event.TheVariants.{Act, Ask, Close, Open, Reconfigure, StartFail, Started, Take}
use Rattle.sq_machine.specs.declared.entries.Told.TheVariants as told
use Rattle.sq_machine.specs.declared.refusals.Refusal.TheVariants as refusal
use Rattle.sq_rules.specs.Classes.{Class}
use Rattle.sq_rules.specs.Configurations.{Configuration}
use Rattle.sq_machine.specs.DueActs.{ClassId}
use Rattle.sq_machine.specs.Entries.{History}
use Rattle.sq_machine.specs.Epochs.{class_at, is_live, place_of_class, config_of}
use Rattle.sq_machine.specs.Machine.{next, next_at, has_start, with_place}
use Rattle.sq_machine.specs.Limits.{last_number}
use Rattle.sq_machine.specs.Next.{Next, gives, refuse_if}
use Rattle.sq_machine.specs.Marking.{marked}
use Rattle.sq_machine.specs.Marks.{Past, entries}
use Rattle.sq_machine.specs.Processes.{proc_count, starting}
use Rattle.sq_machine.specs.Readings.{latest}
use Rattle.sq_model.specs.Answers.{act_answer, ask_answer, close_answer, failed_answer, open_answer, reconfigure_answer, started_answer, take_answer}
use Rattle.sq_model.specs.Promises.{StandsFor}
use Rattle.sq_model.specs.Says.{class_in}
use Rattle.sq_model.specs.States.{Stands, State}
use Rattle.sq_model.proofs.ActNext.{act_next_is}
use Rattle.sq_model.proofs.ConnStands.{ask_next, close_next, open_next, take_next}
use Rattle.sq_model.proofs.PromiseLaws.{law_of, next_now}
use Rattle.sq_model.proofs.ReconfigureStands.{reconfigure_next}
use Rattle.sq_model.proofs.StartStands.{failed_next, started_next}
use Rattle.sq_replay.specs.Making.{is_refused}

-- of connections and checks

pub open_told : (configs : List Configuration) (h : History) (s : State) (now c : ℕ) (addr : Address) (port : ℕ)
    → StandsFor configs h s → latest h ≤ now
    → next configs (marked configs h) now (Open c addr port) ≡ open_answer s c
open_told configs h s now c addr port st late = next_now configs h now (Open c addr port) late
    ∙ open_next configs (marked configs h) s now c addr port st.stands

pub close_told : (configs : List Configuration) (h : History) (s : State) (now c : ℕ) → StandsFor configs h s
    → latest h ≤ now
    → next configs (marked configs h) now (Close c) ≡ close_answer s c
close_told configs h s now c st late = next_now configs h now (Close c) late
    ∙ close_next configs (marked configs h) s now c st.stands

pub ask_told : (configs : List Configuration) (h : History) (s : State) (now c : ℕ) (method target : List ℕ)
    (fields : List Field) → StandsFor configs h s → latest h ≤ now
    → next configs (marked configs h) now (Ask c method target fields) ≡ ask_answer s c
ask_told configs h s now c method target fields st late =
    next_now configs h now (Ask c method target fields) late
    ∙ ask_next configs (marked configs h) s now c method target fields (law_of configs h s st).alone st.stands

pub take_told : (configs : List Configuration) (h : History) (s : State) (now n : ℕ) → StandsFor configs h s
    → latest h ≤ now
    → next configs (marked configs h) now (Take n) ≡ take_answer s n
take_told configs h s now n st late = next_now configs h now (Take n) late
    ∙ take_next configs (marked configs h) s now n st.stands

-- of reconfigurations and acts

pub reconfigure_told : (configs : List Configuration) (h : History) (s : State) (now : ℕ) (text : List ℕ)
    → StandsFor configs h s → latest h ≤ now
    → next configs (marked configs h) now (Reconfigure text) ≡ reconfigure_answer s
reconfigure_told configs h s now text st late = next_now configs h now (Reconfigure text) late
    ∙ reconfigure_next configs (marked configs h) s now text st.stands

pub act_told : (configs : List Configuration) (h : History) (s : State) (now : ℕ) → StandsFor configs h s
    → latest h ≤ now → next configs (marked configs h) now Act ≡ act_answer s
act_told configs h s now st late = next_now configs h now Act late
    ∙ act_next_is configs (marked configs h) s now st.stands

-- of starts: the script names a class, and the engine its place

-- a configuration that the state has is that of its epoch
pub config_there : (configs : List Configuration) (m : Past) (s : State) (e : ℕ) (config : Configuration)
    → Stands configs m s → s.config e ≡ Some config → config_of configs e ≡ Some config
config_there configs m s e config st is = by (is_live (entries m) e) (sym (st.configs_are e) ∙ is)
  where
    by : (b : Bool) → (if b then config_of configs e else None) ≡ Some config → config_of configs e ≡ Some config
    by true e = e
    by false e = absurd (none-some config e)

-- so is a class
pub class_there : (configs : List Configuration) (m : Past) (s : State) (e c : ℕ) (class : Class) → Stands configs m s
    → class_in s e c ≡ Some class → class_at configs e c ≡ Some class
class_there configs m s e c class st is =
    let k = then_some (λ (config : Configuration). slice_get config.classes c) (s.config e) class is in
    ap (option_and_then (λ (config : Configuration). slice_get config.classes c))
    (config_there configs m s e k.0 st k.1) ∙ k.2

-- a start of a class of a live epoch
pub started_told : (configs : List Configuration) (h : History) (s : State) (now : ℕ) (p : ClassId) (class : Class)
    → StandsFor configs h s → latest h ≤ now → class_in s p.epoch p.class ≡ Some class
    → next configs (marked configs h) now (Started p.epoch class.name) ≡ started_answer s p
started_told configs h s now p class st late is =
    next_now configs h now (Started p.epoch class.name) late
    ∙ started_next configs (marked configs h) s now p class (law_of configs h s st).once st.stands
    (class_there configs (marked configs h) s p.epoch p.class class st.stands is)

-- one that failed
pub failed_told : (configs : List Configuration) (h : History) (s : State) (now : ℕ) (p : ClassId) (class : Class)
    → StandsFor configs h s → latest h ≤ now → class_in s p.epoch p.class ≡ Some class
    → next configs (marked configs h) now (StartFail p.epoch class.name) ≡ failed_answer s p
failed_told configs h s now p class st late is =
    next_now configs h now (StartFail p.epoch class.name) late
    ∙ failed_next configs (marked configs h) s now p class (law_of configs h s st).once st.stands
    (class_there configs (marked configs h) s p.epoch p.class class st.stands is)

-- where the state has no configuration of the epoch, there is no start of it, or no class
no_start : (configs : List Configuration) (m : Past) (s : State) (e : ℕ) (name : List ℕ) (rest : Next)
    → Stands configs m s → s.config e ≡ None
    → is_refused (with_place (place_of_class configs e name)
    (λ place. refuse_if (not (has_start (entries m) e name)) (refusal.NoStartOpen e place) rest)) ≡ true
no_start configs m s e name rest st none = by (is_live (entries m) e) refl (sym (st.configs_are e) ∙ none)
    (place_of_class configs e name) refl
  where
    by : (b : Bool) → is_live (entries m) e ≡ b → (if b then config_of configs e else None) ≡ None → (o : Option ℕ)
        → place_of_class configs e name ≡ o
        → is_refused (with_place o
        (λ place. refuse_if (not (has_start (entries m) e name)) (refusal.NoStartOpen e place) rest)) ≡ true
    by b live gone None is = refl
    by false live gone (Some place) is =
        ap (λ (b : Bool). is_refused
        (refuse_if (not (b && not (starting (entries m) e name == 0))) (refusal.NoStartOpen e place) rest)) live
    by true live gone (Some place) is =
        absurd (none-some place (sym
        (ap (option_and_then (λ (config : Configuration). position (λ (class : Class). bytes_eq class.name name)
        config.classes)) gone) ∙ is))

pub started_nowhere : (configs : List Configuration) (h : History) (s : State) (now e : ℕ) (name : List ℕ)
    → StandsFor configs h s → latest h ≤ now → s.config e ≡ None
    → is_refused (next configs (marked configs h) now (Started e name)) ≡ true
unfolding next_at
started_nowhere configs h s now e name st late none =
    ap is_refused (next_now configs h now (Started e name) late)
    ∙ no_start configs (marked configs h) s e name
    (refuse_if (nat_le last_number (suc (proc_count (entries (marked configs h)))))
    (refusal.Spent (suc (proc_count (entries (marked configs h)))))
    (gives (told.Proc (suc (proc_count (entries (marked configs h)))))))
    st.stands none

pub failed_nowhere : (configs : List Configuration) (h : History) (s : State) (now e : ℕ) (name : List ℕ)
    → StandsFor configs h s → latest h ≤ now → s.config e ≡ None
    → is_refused (next configs (marked configs h) now (StartFail e name)) ≡ true
unfolding next_at
failed_nowhere configs h s now e name st late none =
    ap is_refused (next_now configs h now (StartFail e name) late)
    ∙ no_start configs (marked configs h) s e name (gives told.Fine) st.stands none

-- a class that is not in its epoch
not_named : (configs : List Configuration) (m : Past) (s : State) (e : ℕ) (name : List ℕ) (config : Configuration)
    → Stands configs m s → s.config e ≡ Some config
    → position (λ (class : Class). bytes_eq class.name name) config.classes ≡ None
    → place_of_class configs e name ≡ None
not_named configs m s e name config st is none =
    ap (option_and_then (λ (config : Configuration). position (λ (class : Class). bytes_eq class.name name)
    config.classes)) (config_there configs m s e config st is) ∙ none

pub started_unnamed : (configs : List Configuration) (h : History) (s : State) (now e : ℕ) (name : List ℕ)
    (config : Configuration) → StandsFor configs h s → latest h ≤ now → s.config e ≡ Some config
    → position (λ (class : Class). bytes_eq class.name name) config.classes ≡ None
    → is_refused (next configs (marked configs h) now (Started e name)) ≡ true
unfolding next_at
started_unnamed configs h s now e name config st late is none =
    ap is_refused (next_now configs h now (Started e name) late
    ∙ ap (λ (o : Option ℕ). with_place o
    (λ place. refuse_if (not (has_start (entries (marked configs h)) e name)) (refusal.NoStartOpen e place)
    (refuse_if (nat_le last_number (suc (proc_count (entries (marked configs h)))))
    (refusal.Spent (suc (proc_count (entries (marked configs h)))))
    (gives (told.Proc (suc (proc_count (entries (marked configs h)))))))))
    (not_named configs (marked configs h) s e name config st.stands is none))

pub failed_unnamed : (configs : List Configuration) (h : History) (s : State) (now e : ℕ) (name : List ℕ)
    (config : Configuration) → StandsFor configs h s → latest h ≤ now → s.config e ≡ Some config
    → position (λ (class : Class). bytes_eq class.name name) config.classes ≡ None
    → is_refused (next configs (marked configs h) now (StartFail e name)) ≡ true
unfolding next_at
failed_unnamed configs h s now e name config st late is none =
    ap is_refused (next_now configs h now (StartFail e name) late
    ∙ ap (λ (o : Option ℕ). with_place o
    (λ place. refuse_if (not (has_start (entries (marked configs h)) e name)) (refusal.NoStartOpen e place)
    (gives told.Fine)))
    (not_named configs (marked configs h) s e name config st.stands is none))
