-- What is promised of acts, of starts that are settled and of reconfigurations.
use Rattle.std.proofs.Common.{◌≡◌, ℕ, suc, ◌≤◌, List, true, false, not, ◌==◌, Option, Some, None, refl, sym, ap, subst, ◌∙◌}
use Rattle.std.specs.Option.{option_map_or}
use Rattle.sq_machine.specs.declared.entries.Event.TheVariants.{Act, Reconfigure, StartFail, Started}
use Rattle.sq_machine.specs.declared.entries.Told.{Told}
use Rattle.sq_machine.specs.declared.entries.Told.TheVariants as told
use Rattle.sq_machine.specs.declared.refusals.Refusal.TheVariants as refusal
use Rattle.sq_rules.specs.Configurations.{Configuration}
use Rattle.sq_machine.specs.DueActs.{ClassId, sending_told, sends, starts, stops}
use Rattle.sq_machine.specs.Entries.{History}
use Rattle.sq_machine.specs.Farms.{Sending}
use Rattle.sq_machine.specs.Machine.{next}
use Rattle.sq_machine.specs.Epochs.{config_of}
use Rattle.sq_machine.specs.Next.{gives, nothing}
use Rattle.sq_machine.specs.Marking.{marked}
use Rattle.sq_machine.specs.Marks.{Past, entries}
use Rattle.sq_machine.specs.Readings.{current, latest}
use Rattle.sq_model.specs.ClassRows.{ClassRow}
use Rattle.sq_model.proofs.LegalLaws.{marked_entries}
use Rattle.sq_model.specs.Acts.{due_in}
use Rattle.sq_model.specs.Answers.{act_of, failed_answer, has_start_in, name_in, reconfigure_answer, started_answer}
use Rattle.sq_model.specs.Changes.{after_failed_at, after_reconfigured, after_send_at, after_start_at, after_started_at, after_stop_of}
use Rattle.sq_model.specs.Promises.{IsAnswered, StandsFor}
use Rattle.sq_model.specs.States.{State, Stands}
use Rattle.sq_model.proofs.ActNext.{act_next_is, name_is}
use Rattle.sq_model.proofs.ActStands.{IsClassRow, is_class_row, send_stands, start_stands, stop_stands}
use Rattle.sq_model.proofs.PromiseLaws.{answered_so, law_of, next_now}
use Rattle.sq_model.proofs.ReconfigureStands.{reconfigure_next, reconfigure_stands}
use Rattle.sq_model.proofs.StartStands.{failed_next, failed_stands, not_refused, started_next, started_stands}

-- a stop that is due
pub stop_answered : (configs : List Configuration) (h : History) (s : State) (now k : ℕ) → StandsFor configs h s
    → latest h ≤ now → due_in s ≡ Some (stops k)
    → IsAnswered configs h now Act (told.Stop k) (after_stop_of k now s)
stop_answered configs h s now k st late is =
    answered_so configs h s _ now Act (told.Stop k) st refl refl tt late
    (act_next_is configs (marked configs h) s now st.stands ∙ ap (act_of s) is)
    (stop_stands configs (marked configs h) s now k st.stands)

-- a send
pub send_answered : (configs : List Configuration) (h : History) (s : State) (now : ℕ) (p : ClassId) (x : Sending)
    → StandsFor configs h s → latest h ≤ now → due_in s ≡ Some (sends p x)
    → IsAnswered configs h now Act (sending_told x) (after_send_at p now s)
send_answered configs h s now p x st late is =
    answered_so configs h s _ now Act (sending_told x) st refl refl tt late
    (act_next_is configs (marked configs h) s now st.stands ∙ ap (act_of s) is)
    (send_stands configs (marked configs h) s now p x (law_of configs h s st) st.stands is)

-- a start
pub start_answered : (configs : List Configuration) (h : History) (s : State) (now : ℕ) (p : ClassId)
    → StandsFor configs h s → latest h ≤ now → due_in s ≡ Some (starts p)
    → IsAnswered configs h now Act (told.Start p.epoch (name_in s p)) (after_start_at p now s)
start_answered configs h s now p st late is =
    answered_so configs h s _ now Act (told.Start p.epoch (name_in s p)) st refl refl tt late
    (act_next_is configs (marked configs h) s now st.stands ∙ ap (act_of s) is)
    (start_stands configs (marked configs h) s now p (law_of configs h s st) st.stands is)

-- nothing is due
pub none_due : (configs : List Configuration) (h : History) (s : State) (now : ℕ) → StandsFor configs h s
    → latest h ≤ now → due_in s ≡ None
    → next configs (marked configs h) now Act ≡ nothing
none_due configs h s now st late is = next_now configs h now Act late
    ∙ act_next_is configs (marked configs h) s now st.stands ∙ ap (act_of s) is

-- the row of a class of which a start is open
open_row : (configs : List Configuration) (m : Past) (s : State) (p : ClassId) → Stands configs m s
    → has_start_in s p ≡ true → (r : ClassRow) × IsClassRow configs m p.epoch p.class r
open_row configs m s p st t = by (s.row p.epoch p.class) refl t
  where
    by : (o : Option ClassRow) → s.row p.epoch p.class ≡ o
        → option_map_or (λ r. not (r.stock.starting == 0)) o false ≡ true
        → (r : ClassRow) × IsClassRow configs m p.epoch p.class r
    by None is t = absurd (cc)
    by (Some r) is t = (r, is_class_row configs m s p.epoch p.class r st is)

-- a process that was started, of a class that has a start open
pub started_answered : (configs : List Configuration) (h : History) (s : State) (now : ℕ) (p : ClassId) (answer : Told)
    → StandsFor configs h s → latest h ≤ now → started_answer s p ≡ gives answer
    → IsAnswered configs h now (Started p.epoch (name_in s p)) answer (after_started_at p now s)
started_answered configs h s now p answer st late is =
    let row = (open_row configs (marked configs h) s p st.stands
    (not_refused (has_start_in s p) (refusal.NoStartOpen p.epoch p.class) _ answer is)).1 in
    let law = law_of configs h s st in
    let next = started_next configs (marked configs h) s now p row.class law.once st.stands row.class_is ∙ is in
    subst (λ (name : List ℕ). IsAnswered configs h now (Started p.epoch name) answer (after_started_at p now s))
    (sym (name_is configs (marked configs h) s p row.class st.stands row.lives row.class_is))
    (answered_so configs h s _ now (Started p.epoch row.class.name) answer st refl refl tt late next
    (started_stands configs (marked configs h) s now p row.class answer law st.stands row.class_is next))

-- a start that failed
pub failed_answered : (configs : List Configuration) (h : History) (s : State) (now : ℕ) (p : ClassId) (answer : Told)
    → StandsFor configs h s → latest h ≤ now → failed_answer s p ≡ gives answer
    → IsAnswered configs h now (StartFail p.epoch (name_in s p)) answer (after_failed_at p now s)
failed_answered configs h s now p answer st late is =
    let row = (open_row configs (marked configs h) s p st.stands
    (not_refused (has_start_in s p) (refusal.NoStartOpen p.epoch p.class) _ answer is)).1 in
    let law = law_of configs h s st in
    let next = failed_next configs (marked configs h) s now p row.class law.once st.stands row.class_is ∙ is in
    subst (λ (name : List ℕ). IsAnswered configs h now (StartFail p.epoch name) answer (after_failed_at p now s))
    (sym (name_is configs (marked configs h) s p row.class st.stands row.lives row.class_is))
    (answered_so configs h s _ now (StartFail p.epoch row.class.name) answer st refl refl tt late next
    (failed_stands configs (marked configs h) s now p row.class answer law st.stands row.class_is next))

-- a reconfiguration, to the configuration of the next epoch
pub reconfigure_answered : (configs : List Configuration) (h : History) (s : State) (now : ℕ) (text : List ℕ)
    (config : Configuration) (answer : Told) → StandsFor configs h s → latest h ≤ now
    → config.source ≡ text → config_of configs (suc s.current) ≡ Some config → reconfigure_answer s ≡ gives answer
    → IsAnswered configs h now (Reconfigure text) answer (after_reconfigured config now s)
reconfigure_answered configs h s now text config answer st late source at is =
    let there : config_of configs (suc (current (entries (marked configs h)))) ≡ Some config =
    ap (λ (n : ℕ). config_of configs (suc n)) (sym st.stands.current_is) ∙ at in
    answered_so configs h s _ now (Reconfigure text) answer st refl refl
    (config, source, ap (λ (g : History). config_of configs (suc (current g))) (sym (marked_entries configs h)) ∙ there)
    late
    (reconfigure_next configs (marked configs h) s now text st.stands ∙ is)
    (reconfigure_stands configs (marked configs h) s now text answer config (law_of configs h s st) st.stands there)
