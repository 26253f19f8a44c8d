-- Each question of a legal history was put for a class that stands; so a reply is to a question of its process's class.
use Rattle.std.proofs.Common.{◌≡◌, ℕ, suc, List, [], ◌∷◌, Bool, true, false, ◌&&◌, ◌==◌, if◌then◌else◌, Option, Some, None, is_some, refl, sym, ap, ap₂, ◌∙◌}
use Rattle.std.specs.Option.{option_and_then, option_map_or, option_or}
use Rattle.std.proofs.lemmas.Option.{none-some}
use Rattle.sq_base.specs.declared.helpers.Answer.{Answer}
use Rattle.sq_machine.specs.declared.entries.Event.{Event}
use Rattle.sq_machine.specs.declared.entries.Event.TheVariants.{Step}
use Rattle.sq_rules.specs.declared.values.Value.{Value}
use Rattle.sq_rules.specs.declared.values.Value.TheVariants as value
use Rattle.sq_machine.specs.AnswerReadings.{answers}
use Rattle.sq_machine.specs.Checks.{Asked, ask_of, numbered}
use Rattle.sq_rules.specs.Classes.{Class}
use Rattle.sq_rules.specs.Configurations.{Configuration}
use Rattle.sq_machine.specs.Entries.{History}
use Rattle.sq_machine.specs.Epochs.{class_at, config_of}
use Rattle.sq_machine.specs.FarmReadings.{farm_with, is_put_for}
use Rattle.sq_machine.specs.Farms.{full}
use Rattle.sq_machine.specs.KeptReadings.{kept}
use Rattle.sq_machine.specs.Marking.{mark, marked, says_at}
use Rattle.sq_machine.specs.Marks.{Marked, Past, Put, entries}
use Rattle.sq_machine.specs.Processes.{is_at_home}
use Rattle.sq_machine.specs.Questions.{pending, put_count, put_of, sent_to}
use Rattle.sq_machine.specs.StepRule.{class_of_acl, says_asked_of, says_at_place, says_of_class, says_value, value_over}
use Rattle.sq_model.specs.Carried.{Carried, NamesOnce}
use Rattle.sq_model.proofs.ClassParts.{itself}
use Rattle.sq_model.proofs.ElsewhereLaws.{IsSamePlace, one_place}
use Rattle.sq_model.proofs.PendingLaws.{puts_need}

-- what a step puts is for a class that stands
record PutsStanding (configs : List Configuration) (o : Option Put) : Type 0 where
  stands : (p : Put) → o ≡ Some p → is_some (class_at configs p.epoch p.class) ≡ true

standing_none : (configs : List Configuration) → PutsStanding configs None
standing_none configs = record { stands = λ p e. absurd (none-some p e) }

standing_class : (configs : List Configuration) (m : Past) (e c : ℕ) (key : List ℕ) (now : ℕ) (o : Option Class)
    → class_at configs e c ≡ o → PutsStanding configs (says_of_class configs m e c key now o).put
standing_class configs m e c key now None at = standing_none configs
standing_class configs m e c key now (Some class) at =
    let f = puts_need class (record { epoch = e; class = c; key = key }) now (kept configs m e c)
    (pending configs m e c key) (full (farm_with configs m e c class)) (put_count m) in
    record {
      stands = λ p is. ap (λ (q : Put). is_some (class_at configs q.epoch q.class)) (f.fresh p is).0
          ∙ ap (λ (o : Option Class). is_some o) at;
    }

standing_place : (configs : List Configuration) (m : Past) (e : ℕ) (key : List ℕ) (now : ℕ) (o : Option ℕ)
    → PutsStanding configs (says_at_place configs m e key now o).put
standing_place configs m e key now None = standing_none configs
standing_place configs m e key now (Some c) = standing_class configs m e c key now (class_at configs e c) refl

standing_value : (configs : List Configuration) (m : Past) (e now : ℕ) (v : Value)
    → PutsStanding configs (says_value configs m e now v).put
standing_value configs m e now (value.Verdict o) = standing_none configs
standing_value configs m e now (value.Need acl key) = standing_place configs m e key now
    (option_and_then (λ config. class_of_acl config.acls acl) (config_of configs e))

standing_asked : (configs : List Configuration) (m : Past) (now : ℕ) (s : List Answer) (o : Option Asked)
    → PutsStanding configs (says_asked_of configs m now s o).put
standing_asked configs m now s None = standing_none configs
standing_asked configs m now s (Some a) = standing_value configs m a.epoch now (value_over configs a s)

standing_mark : (configs : List Configuration) (m : Past) (now : ℕ) (event : Event)
    → PutsStanding configs (says_at configs m now event).put
standing_mark configs m now (Step n) = standing_asked configs m now (answers configs m n) (ask_of (entries m) n)
standing_mark configs m now event = standing_none configs

-- each question was put for a class that stands
pub record PutsStand (configs : List Configuration) (m : Past) : Type 0 where
  pub stand : (q : ℕ) (p : Put) → put_of m q ≡ Some p → is_some (class_at configs p.epoch p.class) ≡ true

stand_more : (configs : List Configuration) (m : Past) (x : Marked) → PutsStanding configs x.put → PutsStand configs m
    → PutsStand configs (x ∷ m)
stand_more configs m x new old = record { stand = λ q p e. by q (numbered q (put_count m) x.put) refl p e }
  where
    new_is : (q n : ℕ) (o : Option Put) (z : Put) → numbered q n o ≡ Some z → o ≡ Some z
    new_is q n None z e = absurd (none-some z e)
    new_is q n (Some y) z e = at (q == suc n) e
      where
        at : (b : Bool) → (if b then Some y else None) ≡ Some z → Some y ≡ Some z
        at true e = e
        at false e = absurd (none-some z e)

    by : (q : ℕ) (o : Option Put) → numbered q (put_count m) x.put ≡ o → (p : Put) → option_or o (put_of m q) ≡ Some p
        → is_some (class_at configs p.epoch p.class) ≡ true
    by q None is p e = old.stand q p e
    by q (Some z) is p e = new.stands p (new_is q (put_count m) x.put z is ∙ e)

-- so it is in every history with its marks
pub puts_stand : (configs : List Configuration) (h : History) → PutsStand configs (marked configs h)
puts_stand configs [] = record { stand = λ q p e. absurd (none-some p e) }
puts_stand configs (x ∷ h) =
    stand_more configs (marked configs h) (mark configs (marked configs h) x)
    (standing_mark configs (marked configs h) x.moment x.event) (puts_stand configs h)

-- a question that was sent to a process was put for the class that the process is of
pub put_at_home : (configs : List Configuration) (m : Past) (q k e c : ℕ) (class : Class) (p : Put) → NamesOnce configs
    → Carried configs m → PutsStand configs m → class_at configs e c ≡ Some class
    → is_at_home (entries m) e class.name k ≡ true → sent_to m q ≡ Some k → put_of m q ≡ Some p
    → is_put_for e c (Some p) ≡ true
put_at_home configs m q k e c class p once carried stand at home sent put =
    by (class_at configs p.epoch p.class) refl (stand.stand q p put)
  where
    here : is_put_for p.epoch p.class (put_of m q) ≡ true
    here = ap (is_put_for p.epoch p.class) put ∙ ap₂ (λ (a b : Bool). a && b) (itself p.epoch) (itself p.class)

    by : (o : Option Class) → class_at configs p.epoch p.class ≡ o → is_some o ≡ true → is_put_for e c (Some p) ≡ true
    by None there t = absurd (cc)
    by (Some other) there t =
        let his : is_at_home (entries m) p.epoch other.name k ≡ true =
        sym (ap (λ (o : Option Class). is_at_home (entries m) p.epoch (option_map_or (λ z. z.name) o []) k) there)
        ∙ carried.sent_home q k p.epoch p.class sent here in
        let same : IsSamePlace p.epoch p.class e c = one_place configs m k p.epoch p.class e c other class once there
        at his home in
        ap₂ (λ (a b : ℕ). (p.epoch == a) && (p.class == b)) (sym same.epoch_is) (sym same.class_is)
        ∙ ap₂ (λ (a b : Bool). a && b) (itself p.epoch) (itself p.class)
