-- An open check as it is kept, the row that it is, and what each call makes of it.
use Rattle.std.specs.Prelude.{◌≡◌, ℕ, ◌+◌, suc, min, List, [], ◌∷◌, ◌++◌, Bool, true, false, not, ◌==◌, if◌then◌else◌, nat_lt, map, filter, Some, None, IfSome}
use Rattle.std.specs.List.{list_all}
use Rattle.std.specs.Option.{option_to_list, option_and_then, option_or}
use Rattle.std.specs.declared.option.Option.{Option}
use Rattle.sq_base.specs.Distinct.{has_answer}
use Rattle.sq_base.specs.declared.helpers.Answer.{Answer}
use Rattle.sq_base.specs.declared.helpers.What.{What}
use Rattle.sq_rules.specs.Configurations.{Configuration}
use Rattle.sq_rules.specs.Facts.{facts_of}
use Rattle.sq_machine.specs.Limits.{last_number}
use Rattle.sq_rules.specs.Sights.{unversioned_sight}
use Rattle.sq_machine.specs.StepRule.{StepSays, class_of_acl}
use Rattle.sq_machine.specs.declared.entries.Told.TheVariants as told
use Rattle.sq_rules.specs.Keys.{key_text}
use Rattle.sq_rules.specs.Verdicts.{pool_of, verdict_over}
use Rattle.sq_rules.specs.declared.outcomes.Outcome.{Outcome}
use Rattle.sq_rules.specs.declared.sights.Sight.{Sight}
use Rattle.sq_rules.specs.declared.values.Value.{Value}
use Rattle.sq_rules.specs.declared.values.Value.TheVariants as value
use Rattle.sq_model.specs.CheckRows.{Ends, Held, held_on}
use Rattle.sq_model.specs.StepRows.{question_told, told_of}
use Rattle.sq_model.specs.declared.stepping.StepEffect.{StepEffect}
use Rattle.sq_checks.specs.Positions.{look_limit}
use Rattle.sq_checks.specs.Standing.{Standing}
use Rattle.sq_checks.specs.Givens.{AreFrames, looks_over}
use Rattle.sq_checks.specs.Stages.{HasAsked, IsLooked, IsStage, came_in, ended_stage, given, is_done_in, is_idle, is_noted, noted_stage, question_in}
use Rattle.sq_checks.specs.Tables.{value_at}
use Rattle.sq_checks.specs.declared.stages.CheckStage.{CheckStage}
use Rattle.sq_checks.specs.declared.stages.CheckStage.TheVariants as stage

-- an open check: its connection, its epoch with the configuration, what it saw, its pool, the
-- answers that are put, how far it has come, how many facts were looked at, and how often it was
-- stepped
pub record CheckParts : Type 0 where
  pub conn : ℕ
  pub epoch : ℕ
  pub config : Configuration
  pub sight : Sight
  pub pool : Option ℕ
  pub answers : List Answer
  pub stage : CheckStage
  pub looks : ℕ
  pub steps : ℕ

-- a check that begins
abbrev pub begun_parts : ℕ → ℕ → Configuration → Sight → CheckParts
begun_parts conn epoch config sight = record {
  conn = conn;
  epoch = epoch;
  config = config;
  sight = sight;
  pool = pool_of config sight;
  answers = [];
  stage = stage.Ready;
  looks = 0;
  steps = 0;
}

-- its facts are those of what it saw, so is its pool, its stage is sound, and so are its looks, its
-- frames were given what its answers give, and what it waits for, or what came, is of the acl for
-- which it asked last
pub record IsCheck (c : CheckParts) (facts : List Bool) (frames : Standing)
    (asks : Option ℕ) : Type 0 where
  pub facts_are : facts ≡ facts_of c.config.acls c.sight
  pub pool_is : c.pool ≡ pool_of c.config c.sight
  pub stage_is : IsStage c.config c.sight c.answers c.stage
  pub looks_are : IsLooked c.config c.sight c.answers c.looks c.stage
  pub frames_are : AreFrames c.config c.sight c.answers facts frames
  pub asks_are : HasAsked c.config c.sight asks c.stage

-- all answers that a check has
abbrev pub answers_in : CheckParts → List Answer
answers_in c = c.answers ++ option_to_list (came_in c.stage)

-- what a check comes to over its answers
abbrev pub comes_to : CheckParts → Value
comes_to c = verdict_over (answers_in c) c.config (unversioned_sight c.sight)

-- an answer is needed
abbrev pub is_need : Value → Bool
is_need (value.Verdict o) = false
is_need (value.Need acl key) = true

-- this is what a check comes to, and it looked at as many facts as the walk over its answers has
-- leaf acls; where it is a need, the check is not done, has no answer of that class and key, and
-- the key is that of the acl
pub record HasCome (c : CheckParts) (v : Value) : Type 0 where
  pub comes : v ≡ comes_to c
  pub looks : c.looks ≡ looks_over c.answers c.config c.sight
  pub idle : is_need v ≡ true → is_idle c.stage ≡ true
  pub other : (acl class : ℕ) (key : List ℕ) → v ≡ value.Need acl key
      → class_of_acl c.config.acls acl ≡ Some class → has_answer c.answers class key ≡ false
  pub keyed : (acl : ℕ) (key : List ℕ) → v ≡ value.Need acl key
      → key_text c.config acl c.sight ≡ key

-- a check whose outcome was taken out
abbrev pub emptied : CheckParts → CheckParts
emptied c = record c { stage = stage.Ready }

-- a check after so many looks more
abbrev pub looked : ℕ → CheckParts → CheckParts
looked k c = record c { looks = min look_limit (c.looks + k) }

-- check n as a row
abbrev pub row : ℕ → CheckParts → Held
row n c = record {
  number = n;
  asked = record { conn = c.conn; epoch = c.epoch; sight = unversioned_sight c.sight };
  waits = question_in c.stage;
  answers = answers_in c;
  done = is_done_in c.stage;
  steps = c.steps;
}

abbrev pub entry_row : ℕ × CheckParts → Held
entry_row e = row e.0 e.1

-- open checks as rows
abbrev pub rows_of : List (ℕ × CheckParts) → List Held
rows_of checks = map entry_row checks

abbrev pub settled_by : CheckParts → Option Answer → CheckParts
settled_by c None = c
settled_by c (Some a) = record c { answers = c.answers ++ a ∷ []; stage = stage.Ready }

-- a check with the answer that came put among the others
abbrev pub settled : CheckParts → CheckParts
settled c = settled_by c (came_in c.stage)

-- a step more, up to the last number
abbrev pub step_more : ℕ → ℕ
step_more n = min last_number (suc n)

-- a check after a step that asked for this key of this class
abbrev pub noted : StepEffect → ℕ → List ℕ → CheckParts → CheckParts
noted s class key c = record c
    { stage = noted_stage s.took (question_told s.stepped) class key; steps = step_more c.steps }

-- a check after a step in which it waited on
abbrev pub waited : CheckParts → CheckParts
waited c = record c { steps = step_more c.steps }

-- a check after a step that said that it is done
abbrev pub finished : Outcome → CheckParts → CheckParts
finished o c = record c { stage = stage.Done o; steps = step_more c.steps }

-- a check after the end of a question
abbrev pub ended_by : ℕ → What → ℕ → CheckParts → CheckParts
ended_by question what now c = record c { stage = ended_stage question what now c.stage }

-- what a step says, as far as a check changes by it
abbrev pub says_of : StepEffect → StepSays
says_of s = record { answer = told_of [] s.stepped; put = None; took = s.took }

-- what a step says of a check that waits for this question
abbrev pub says_waits : ℕ → StepSays
says_waits q = record { answer = told.Waits q; put = None; took = None }

abbrev pub change_entry : ℕ → (CheckParts → CheckParts) → ℕ × CheckParts → ℕ × CheckParts
change_entry n f e = if n == e.0 then (e.0, f e.1) else e

-- the checks with check n changed
abbrev pub change_at : ℕ → (CheckParts → CheckParts) → List (ℕ × CheckParts) → List (ℕ × CheckParts)
change_at n f checks = map (change_entry n f) checks

-- the checks after the end of a question
abbrev pub all_ended : ℕ → What → ℕ → List (ℕ × CheckParts) → List (ℕ × CheckParts)
all_ended question what now checks = map (λ e. (e.0, ended_by question what now e.1)) checks

-- the checks without check n
abbrev pub without_entry : ℕ → List (ℕ × CheckParts) → List (ℕ × CheckParts)
without_entry n checks = filter (λ e. not (n == e.0)) checks

-- each of these rows has a number below n
abbrev pub all_before : ℕ → List Held → Bool
all_before n checks = list_all (λ h. nat_lt h.number n) checks

-- the question that check n waits for
abbrev pub wait_at : ℕ → List (ℕ × CheckParts) → Option ℕ
wait_at n checks = option_and_then (λ c. question_in c.stage) (value_at checks n)

-- the answer is the one that the end of a question gives, where the stage waits for that one
abbrev pub IsFit : ℕ → Answer → What → ℕ → CheckStage → Type 0
IsFit question answer what now stage.Ready = Unit {0}
IsFit question answer what now (stage.Came b) = Unit {0}
IsFit question answer what now (stage.Waits n) = (n.question == question) ≡ true
    → answer ≡ given what now n
IsFit question answer what now (stage.Done o) = Unit {0}

-- the answer is the one that each check is given that waits for the question
abbrev pub AllFit : ℕ → Answer → What → ℕ → List (ℕ × CheckParts) → Type 0
AllFit question answer what now [] = Unit {0}
AllFit question answer what now (e ∷ es) = IsFit question answer what now e.1.stage
    × AllFit question answer what now es

-- what the one or the other gives
abbrev pub both_ends : Ends → Ends → Ends
both_ends first second q = option_or (first q) (second q)

-- each of these is the one
abbrev pub AllAre : What → List What → Type 0
AllAre what [] = Unit {0}
AllAre what (x ∷ xs) = (x ≡ what) × AllAre what xs

-- what a step says that asked for this key of this class: it took an answer of these, or was told
-- to wait
pub record IsNoted (class : ℕ) (key : List ℕ) (s : StepEffect) : Type 0 where
  pub fits : is_noted s.took s.stepped ≡ true
  pub took : IfSome s.took (λ a. (a.class ≡ class) × (a.key ≡ key))

-- each connection has one of these checks at most
abbrev pub AreAlone : List Held → Type 0
AreAlone [] = Unit {0}
AreAlone (h ∷ checks) = (held_on h.asked.conn checks ≡ None) × AreAlone checks

-- how many of these checks began in an epoch
abbrev pub of_epoch : ℕ → List Held → ℕ
of_epoch e [] = 0
of_epoch e (h ∷ checks) = if e == h.asked.epoch then suc (of_epoch e checks) else of_epoch e checks
