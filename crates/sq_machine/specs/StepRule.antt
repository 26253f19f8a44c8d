-- In the statement: docs/STATEMENT.md lists which definitions.
-- What a step of a check says: the verdict, or how the answer that is needed first is found.
use Rattle.std.specs.Prelude.{ℕ, suc, List, length, Bool, true, false, if◌then◌else◌, nat_lt, Some, None, slice_get}
use Rattle.std.specs.Option.{option_and_then, option_map_or}
use Rattle.std.specs.declared.option.Option.{Option}
use Rattle.sq_base.specs.declared.helpers.Answer.{Answer}
use Rattle.sq_base.specs.declared.helpers.Cause.{Cause}
use Rattle.sq_base.specs.declared.helpers.Cause.TheVariants as cause
use Rattle.sq_base.specs.declared.helpers.What.TheVariants as what
use Rattle.sq_rules.specs.declared.configs.Acl.{Acl}
use Rattle.sq_rules.specs.declared.configs.Body.{Body}
use Rattle.sq_rules.specs.declared.configs.Body.TheVariants as body
use Rattle.sq_machine.specs.declared.entries.Told.{Told}
use Rattle.sq_machine.specs.declared.entries.Told.TheVariants as told
use Rattle.sq_machine.specs.declared.kept.CachedReply.{CachedReply}
use Rattle.sq_rules.specs.declared.outcomes.Why.TheVariants as why
use Rattle.sq_rules.specs.declared.values.Value.{Value}
use Rattle.sq_rules.specs.declared.values.Value.TheVariants as value
use Rattle.sq_machine.specs.AnswerReadings.{answers}
use Rattle.sq_rules.specs.Classes.{Class}
use Rattle.sq_rules.specs.Configurations.{Configuration}
use Rattle.sq_machine.specs.Epochs.{class_at, config_of}
use Rattle.sq_machine.specs.FarmReadings.{farm_with}
use Rattle.sq_machine.specs.Farms.{full}
use Rattle.sq_machine.specs.Freshness.{is_due}
use Rattle.sq_machine.specs.KeptLists.{CachedReplies, fresh_for}
use Rattle.sq_machine.specs.KeptReadings.{kept}
use Rattle.sq_machine.specs.Limits.{key_limit}
use Rattle.sq_machine.specs.Marks.{Past, Put, entries}
use Rattle.sq_machine.specs.Questions.{pending, put_count}
use Rattle.sq_machine.specs.Checks.{Asked, ask_of}
use Rattle.sq_rules.specs.Verdicts.{verdict_over}

-- what a step says: its answer, the question that it puts, and what the check takes
pub record StepSays : Type 0 where
  pub answer : Told
  pub put : Option Put
  pub took : Option Answer

-- there is a verdict; so it is too of a check, an acl or a class that is not there, which no legal
-- history has
abbrev pub says_done : StepSays
says_done = record { answer = told.Done; put = None; took = None }

-- a fault is taken, for which no question stands
abbrev pub says_fault : List ℕ → Put → Cause → ℕ → StepSays
says_fault name p c now = record {
  answer = told.Took name;
  put = None;
  took = Some (record {
    class = p.class;
    key = p.key;
    what = what.Fault c;
    question = None;
    date = now;
    taken = now;
  });
}

-- a refresh is put where it is due, none is pending and there is room
abbrev pub refresh : Bool → Option ℕ → Bool → Put → Option Put
refresh true None false p = Some p
refresh due pending full p = None

-- a cached reply is taken
abbrev pub says_kept : List ℕ → Put → CachedReply → ℕ → Option Put → StepSays
says_kept name p v now again = record {
  answer = told.Took name;
  put = again;
  took = Some (record {
    class = p.class;
    key = p.key;
    what = v.what;
    question = Some v.question;
    date = v.date;
    taken = now;
  });
}

-- the question is pending; or there is no room for one; or it is put, with the next number
abbrev pub says_asked : List ℕ → Put → ℕ → Option ℕ → Bool → ℕ → StepSays
says_asked name p now (Some q) full count = record {
  answer = told.Waits q;
  put = None;
  took = None;
}
says_asked name p now None true count = says_fault name p cause.QueueFull now
says_asked name p now None false count = record {
  answer = told.Waits (suc count);
  put = Some p;
  took = None;
}

-- what a step says where the cached reply is fresh, and where there is none
abbrev pub says_fresh : Class → Put → ℕ → Option CachedReply → Option ℕ → Bool → ℕ → StepSays
says_fresh class p now (Some v) pending full count = says_kept class.name p v now
    (refresh (is_due class v now) pending full p)
says_fresh class p now None pending full count = says_asked class.name p now pending full count

-- how an answer that is needed is found: the key is too long; a verdict is kept and fresh; or a
-- question is needed
abbrev pub says_need : Class → Put → ℕ → CachedReplies → Option ℕ → Bool → ℕ → StepSays
says_need class p now kept pending full count =
    if nat_lt key_limit (length p.key) then says_fault class.name p cause.KeyTooLong now
    else says_fresh class p now (fresh_for class p.key now kept) pending full count

-- the class that an external acl asks
abbrev pub class_of_body : Body → Option ℕ
class_of_body (body.External class arguments) = Some class
class_of_body b = None

-- the class of an external acl by its place
abbrev pub class_of_acl : List Acl → ℕ → Option ℕ
class_of_acl acls place = option_and_then (λ a. class_of_body a.body) (slice_get acls place)

-- what the check comes to over its answers so far
abbrev pub value_over : List Configuration → Asked → List Answer → Value
value_over configs a answers = option_map_or (λ config. verdict_over answers config a.sight)
    (config_of configs a.epoch) (value.Verdict (record { allow = false; why = why.Empty }))

-- what a step says that needs an answer of this class
abbrev pub says_of_class : List Configuration → Past → ℕ → ℕ → List ℕ → ℕ → Option Class → StepSays
says_of_class configs m e c key now None = says_done
says_of_class configs m e c key now (Some class) =
    says_need class (record { epoch = e; class = c; key = key }) now (kept configs m e c)
    (pending configs m e c key) (full (farm_with configs m e c class)) (put_count m)

-- what a step says that needs an answer of the class at this place
abbrev pub says_at_place : List Configuration → Past → ℕ → List ℕ → ℕ → Option ℕ → StepSays
says_at_place configs m e key now None = says_done
says_at_place configs m e key now (Some c) = says_of_class configs m e c key now
    (class_at configs e c)

-- what a step says of a verdict, or of a needed answer
abbrev pub says_value : List Configuration → Past → ℕ → ℕ → Value → StepSays
says_value configs m e now (value.Verdict o) = says_done
says_value configs m e now (value.Need acl key) =
    says_at_place configs m e key now
    (option_and_then (λ config. class_of_acl config.acls acl) (config_of configs e))

-- what a step says of a check, if it is open
abbrev pub says_asked_of : List Configuration → Past → ℕ → List Answer → Option Asked → StepSays
says_asked_of configs m now answers None = says_done
says_asked_of configs m now answers (Some a) = says_value configs m a.epoch now
    (value_over configs a answers)

-- what a step of check n says at a moment
abbrev pub step_says : List Configuration → Past → ℕ → ℕ → StepSays
step_says configs m n now = says_asked_of configs m now (answers configs m n) (ask_of (entries m) n)
