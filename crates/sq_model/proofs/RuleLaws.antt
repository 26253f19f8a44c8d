-- What a step of a check says: that the check is done, or what the rule says of a key that it needs; and what it takes.
use Rattle.std.proofs.Common.{Bool, List, None, Option, Some, ℕ, ap, ap₂, false, if◌then◌else◌, inl, inr, length, nat_lt, refl, subst, true, ◌∙◌, ◌≡◌, ◌⊎◌}
use Rattle.std.specs.Option.{option_and_then}
use Rattle.std.proofs.lemmas.Option.{none-some, same_Some}
use Rattle.sq_base.specs.declared.helpers.Answer.{Answer}
use Rattle.sq_base.specs.declared.helpers.Cause.{Cause}
use Rattle.sq_base.specs.declared.helpers.Cause.TheVariants as cause
use Rattle.sq_base.specs.declared.helpers.What.TheVariants as what
use Rattle.sq_machine.specs.declared.kept.CachedReply.{CachedReply}
use Rattle.sq_rules.specs.declared.values.Value.{Value}
use Rattle.sq_rules.specs.declared.values.Value.TheVariants as value
use Rattle.sq_machine.specs.AnswerReadings.{answers}
use Rattle.sq_machine.specs.Checks.{Asked, ask_of}
use Rattle.sq_rules.specs.Classes.{Class}
use Rattle.sq_rules.specs.Configurations.{Configuration}
use Rattle.sq_machine.specs.Epochs.{class_at, config_of}
use Rattle.sq_machine.specs.FarmReadings.{farm_with}
use Rattle.sq_machine.specs.Farms.{full}
use Rattle.sq_machine.specs.KeptLists.{CachedReplies, fresh_for}
use Rattle.sq_machine.specs.KeptReadings.{kept}
use Rattle.sq_machine.specs.Limits.{key_limit}
use Rattle.sq_machine.specs.Marks.{Past, Put, entries}
use Rattle.sq_machine.specs.Questions.{pending, put_count}
use Rattle.sq_machine.specs.StepRule.{StepSays, class_of_acl, says_asked, says_asked_of, says_at_place, says_done, says_fault, says_fresh, says_need, says_of_class, says_value, step_says, value_over}
use Rattle.sq_model.specs.Given.{FindsNoRoom, IsTooLong, fault_for}
use Rattle.sq_model.specs.Waits.{IsNeeded}

-- what the rule says of a need of check n
abbrev pub need_says : (configs : List Configuration) (m : Past) (n now : ℕ) → IsNeeded configs m n → StepSays
need_says configs m n now d =
    says_need d.class (record { epoch = d.asked.epoch; class = d.place; key = d.key }) now
    (kept configs m d.asked.epoch d.place) (pending configs m d.asked.epoch d.place d.key)
    (full (farm_with configs m d.asked.epoch d.place d.class)) (put_count m)

-- check n needs a key, and the step says what the rule says of that need
pub record SaysNeed (configs : List Configuration) (m : Past) (n now : ℕ) (s : StepSays) : Type 0 where
  pub needed : IsNeeded configs m n
  pub is : s ≡ need_says configs m n now needed

-- or it says that the check is done
abbrev pub SaysOf : List Configuration → Past → ℕ → ℕ → StepSays → Type 0
SaysOf configs m n now s = (s ≡ says_done) ⊎ SaysNeed configs m n now s

class_says : (configs : List Configuration) (m : Past) (n now : ℕ) (a : Asked) (acl : ℕ) (key : List ℕ) (c : ℕ)
    (o : Option Class) → ask_of (entries m) n ≡ Some a
    → value_over configs a (answers configs m n) ≡ value.Need acl key
    → option_and_then (λ config. class_of_acl config.acls acl) (config_of configs a.epoch) ≡ Some c
    → class_at configs a.epoch c ≡ o
    → SaysOf configs m n now (says_of_class configs m a.epoch c key now o)
class_says configs m n now a acl key c None ask v place at = inl refl
class_says configs m n now a acl key c (Some class) ask v place at =
    inr (record {
      needed = record {
        asked = a;
        acl = acl;
        key = key;
        place = c;
        class = class;
        ask_is = ask;
        value_is = v;
        place_is = place;
        class_is = at;
      };
      is = refl;
    })

place_says : (configs : List Configuration) (m : Past) (n now : ℕ) (a : Asked) (acl : ℕ) (key : List ℕ) (o : Option ℕ)
    → ask_of (entries m) n ≡ Some a
    → value_over configs a (answers configs m n) ≡ value.Need acl key
    → option_and_then (λ config. class_of_acl config.acls acl) (config_of configs a.epoch) ≡ o
    → SaysOf configs m n now (says_at_place configs m a.epoch key now o)
place_says configs m n now a acl key None ask v place = inl refl
place_says configs m n now a acl key (Some c) ask v place =
    class_says configs m n now a acl key c (class_at configs a.epoch c) ask v place refl

value_says : (configs : List Configuration) (m : Past) (n now : ℕ) (a : Asked) (v : Value)
    → ask_of (entries m) n ≡ Some a → value_over configs a (answers configs m n) ≡ v
    → SaysOf configs m n now (says_value configs m a.epoch now v)
value_says configs m n now a (value.Verdict o) ask is = inl refl
value_says configs m n now a (value.Need acl key) ask is =
    place_says configs m n now a acl key
    (option_and_then (λ config. class_of_acl config.acls acl) (config_of configs a.epoch)) ask is refl

check_says : (configs : List Configuration) (m : Past) (n now : ℕ) (o : Option Asked) → ask_of (entries m) n ≡ o
    → SaysOf configs m n now (says_asked_of configs m now (answers configs m n) o)
check_says configs m n now None ask = inl refl
check_says configs m n now (Some a) ask = value_says configs m n now a (value_over configs a (answers configs m n)) ask
    refl

-- what a step of check n says: that it is done, or what the rule says of a need of it
pub step_is : (configs : List Configuration) (m : Past) (n now : ℕ) → SaysOf configs m n now (step_says configs m n now)
step_is configs m n now = check_says configs m n now (ask_of (entries m) n) refl

-- a step of a check that needs a key says what the rule says of that need
pub need_step : (configs : List Configuration) (m : Past) (n now : ℕ) (d : IsNeeded configs m n)
    → step_says configs m n now ≡ need_says configs m n now d
need_step configs m n now d =
    ap (says_asked_of configs m now (answers configs m n)) d.ask_is
    ∙ ap (says_value configs m d.asked.epoch now) d.value_is
    ∙ ap (says_at_place configs m d.asked.epoch d.key now) d.place_is
    ∙ ap (says_of_class configs m d.asked.epoch d.place d.key now) d.class_is

-- a step takes the fault of a long key where the key is too long
pub long_takes : (configs : List Configuration) (m : Past) (n now : ℕ) (d : IsNeeded configs m n)
    → IsTooLong configs m n d
    → (step_says configs m n now).took ≡ Some (fault_for configs m n d cause.KeyTooLong now)
long_takes configs m n now d long =
    ap (λ (s : StepSays). s.took) (need_step configs m n now d)
    ∙ ap (λ (b : Bool). (if b then says_fault d.class.name p cause.KeyTooLong now
    else says_fresh d.class p now (fresh_for d.class d.key now (kept configs m d.asked.epoch d.place))
    (pending configs m d.asked.epoch d.place d.key)
    (full (farm_with configs m d.asked.epoch d.place d.class)) (put_count m)).took) long
  where
    p : Put
    p = record { epoch = d.asked.epoch; class = d.place; key = d.key }

-- and that of a full queue where no verdict is fresh, none is pending and the farm is full
pub no_room_takes : (configs : List Configuration) (m : Past) (n now : ℕ) (d : IsNeeded configs m n)
    → FindsNoRoom configs m n now d
    → (step_says configs m n now).took ≡ Some (fault_for configs m n d cause.QueueFull now)
no_room_takes configs m n now d r =
    ap (λ (s : StepSays). s.took) (need_step configs m n now d)
    ∙ ap (λ (b : Bool). (if b then says_fault d.class.name p cause.KeyTooLong now
    else says_fresh d.class p now (fresh_for d.class d.key now (kept configs m d.asked.epoch d.place))
    (pending configs m d.asked.epoch d.place d.key)
    (full (farm_with configs m d.asked.epoch d.place d.class)) (put_count m)).took) r.short
    ∙ ap (λ (v : Option CachedReply).
    (says_fresh d.class p now v (pending configs m d.asked.epoch d.place d.key)
    (full (farm_with configs m d.asked.epoch d.place d.class)) (put_count m)).took) r.none_fresh
    ∙ ap₂ (λ (o : Option ℕ) (f : Bool). (says_asked d.class.name p now o f (put_count m)).took) r.none_pending r.is_full
  where
    p : Put
    p = record { epoch = d.asked.epoch; class = d.place; key = d.key }

-- what the rule takes for a need: a cached reply and fresh
pub record TakesKept (configs : List Configuration) (m : Past) (n now : ℕ) (d : IsNeeded configs m n)
    (a : Answer) : Type 0 where
  pub question : ℕ
  pub class_is : a.class ≡ d.place
  pub key_is : a.key ≡ d.key
  pub question_is : a.question ≡ Some question
  pub taken_is : a.taken ≡ now
  pub fresh_is : fresh_for d.class d.key now (kept configs m d.asked.epoch d.place)
      ≡ Some (record { what = a.what; question = question; date = a.date })

-- or a fault, where the key is too long, or where there is no room
pub record TakesNone (configs : List Configuration) (m : Past) (n now : ℕ) (d : IsNeeded configs m n)
    (a : Answer) : Type 0 where
  pub class_is : a.class ≡ d.place
  pub key_is : a.key ≡ d.key
  pub question_is : a.question ≡ None
  pub date_is : a.date ≡ now
  pub taken_is : a.taken ≡ now
  pub cause_is : ((a.what ≡ what.Fault cause.KeyTooLong) × IsTooLong configs m n d)
      ⊎ ((a.what ≡ what.Fault cause.QueueFull) × FindsNoRoom configs m n now d)

-- so it takes one of these
pub takes_so : (configs : List Configuration) (m : Past) (n now : ℕ) (d : IsNeeded configs m n) (a : Answer)
    → (need_says configs m n now d).took ≡ Some a
    → TakesKept configs m n now d a ⊎ TakesNone configs m n now d a
takes_so configs m n now d a is = by (nat_lt key_limit (length d.key)) refl is
  where
    p : Put
    p = record { epoch = d.asked.epoch; class = d.place; key = d.key }

    k : CachedReplies
    k = kept configs m d.asked.epoch d.place

    o : Option ℕ
    o = pending configs m d.asked.epoch d.place d.key

    f : Bool
    f = full (farm_with configs m d.asked.epoch d.place d.class)

    of_fault : (c : Cause)
        → Some (record { class = d.place; key = d.key; what = what.Fault c; question = None; date = now; taken = now })
        ≡ Some a
        → ((what.Fault c ≡ what.Fault cause.KeyTooLong) × IsTooLong configs m n d)
        ⊎ ((what.Fault c ≡ what.Fault cause.QueueFull) × FindsNoRoom configs m n now d) → TakesNone configs m n now d a
    of_fault c e so = subst (TakesNone configs m n now d) (same_Some _ _ e)
        (record { class_is = refl; key_is = refl; question_is = refl; date_is = refl; taken_is = refl; cause_is = so })

    of_asked : nat_lt key_limit (length d.key) ≡ false → fresh_for d.class d.key now k ≡ None → (p' : Option ℕ) → o ≡ p'
        → (g : Bool) → f ≡ g
        → (says_asked d.class.name p now p' g (put_count m)).took ≡ Some a
        → TakesKept configs m n now d a ⊎ TakesNone configs m n now d a
    of_asked short stale (Some q) waits g room e = absurd (none-some a e)
    of_asked short stale None waits true room e = inr
        (of_fault cause.QueueFull e
        (inr (refl, record { short = short; none_fresh = stale; none_pending = waits; is_full = room })))
    of_asked short stale None waits false room e = absurd (none-some a e)

    of_fresh : nat_lt key_limit (length d.key) ≡ false → (v : Option CachedReply) → fresh_for d.class d.key now k ≡ v
        → (says_fresh d.class p now v o f (put_count m)).took ≡ Some a
        → TakesKept configs m n now d a ⊎ TakesNone configs m n now d a
    of_fresh short None stale e = of_asked short stale o refl f refl e
    of_fresh short (Some v) fresh e =
        inl (subst (TakesKept configs m n now d) (same_Some _ _ e)
        (record {
          question = v.question;
          class_is = refl;
          key_is = refl;
          question_is = refl;
          taken_is = refl;
          fresh_is = fresh;
        }))

    by : (b : Bool) → nat_lt key_limit (length d.key) ≡ b
        → (if b then says_fault d.class.name p cause.KeyTooLong now
        else says_fresh d.class p now (fresh_for d.class d.key now k) o f (put_count m)).took ≡ Some a
        → TakesKept configs m n now d a ⊎ TakesNone configs m n now d a
    by true long e = inr (of_fault cause.KeyTooLong e (inl (refl, long)))
    by false short e = of_fresh short (fresh_for d.class d.key now k) refl e
