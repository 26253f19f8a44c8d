-- In the statement: docs/STATEMENT.md lists which definitions.
-- What a check needs, and what it needs that waits for a question.
use Rattle.std.specs.Prelude.{◌≡◌, ℕ, ◌≤◌, List, [], ◌∷◌, true, false, length, nat_lt, Some}
use Rattle.std.specs.Option.{option_and_then}
use Rattle.sq_base.specs.Distinct.{has_answer}
use Rattle.sq_machine.specs.declared.kept.CachedReply.{CachedReply}
use Rattle.sq_rules.specs.declared.values.Value.TheVariants as value
use Rattle.sq_machine.specs.AnswerReadings.{answers}
use Rattle.sq_machine.specs.Checks.{Asked, ask_of}
use Rattle.sq_rules.specs.Classes.{Class}
use Rattle.sq_rules.specs.Configurations.{Configuration}
use Rattle.sq_machine.specs.Epochs.{class_at, config_of}
use Rattle.sq_machine.specs.Freshness.{is_fresh}
use Rattle.sq_machine.specs.KeptLists.{verdict_of}
use Rattle.sq_machine.specs.KeptReadings.{kept}
use Rattle.sq_machine.specs.Limits.{key_limit}
use Rattle.sq_machine.specs.Marks.{Past, entries}
use Rattle.sq_machine.specs.Questions.{put_is, put_of}
use Rattle.sq_machine.specs.StepRule.{class_of_acl, value_over}

-- no entry is of a later moment
abbrev pub NoneLater : Past → ℕ → Type 0
NoneLater [] now = Unit {0}
NoneLater (newest ∷ past) now = (newest.entry.moment ≤ now) × NoneLater past now

-- the check, over its answers, needs a key of a class
pub record IsNeeded (configs : List Configuration) (past : Past) (check : ℕ) : Type 0 where
  pub asked : Asked
  pub acl : ℕ
  pub key : List ℕ
  pub place : ℕ
  pub class : Class
  pub ask_is : ask_of (entries past) check ≡ Some asked
  pub value_is : value_over configs asked (answers configs past check) ≡ value.Need acl key
  pub place_is : option_and_then (λ config. class_of_acl config.acls acl)
      (config_of configs asked.epoch) ≡ Some place
  pub class_is : class_at configs asked.epoch place ≡ Some class

-- the check needs the class and key that the question was put for, and has no answer of it
pub record WaitsSo (configs : List Configuration) (past : Past) (check question : ℕ) : Type 0 where
  pub needed : IsNeeded configs past check
  pub put_is_it : put_is needed.asked.epoch needed.place needed.key (put_of past question) ≡ true
  pub unanswered : has_answer (answers configs past check) needed.place needed.key ≡ false

-- the check needs the class and key that the question was put for; the key is not too long, and no
-- verdict of it is kept that will be fresh
pub record NeedsPut (configs : List Configuration) (past : Past) (check question : ℕ) : Type 0 where
  pub needed : IsNeeded configs past check
  pub short : nat_lt key_limit (length needed.key) ≡ false
  pub put_is_it : put_is needed.asked.epoch needed.place needed.key (put_of past question) ≡ true
  pub stale : (now : ℕ) (v : CachedReply) → NoneLater past now
      → verdict_of needed.key (kept configs past needed.asked.epoch needed.place) ≡ Some v
      → is_fresh needed.class v now ≡ false
