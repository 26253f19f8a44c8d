-- In the statement: docs/STATEMENT.md lists which definitions.
-- The words of an outcome, as a journal, a script's output and a denial have them.
use Rattle.std.specs.Prelude.{List, [], ◌∷◌, ℕ, Bool, if◌then◌else◌, codes, decimal}
use Rattle.sq_base.specs.Escapes.{text_word}
use Rattle.sq_base.specs.declared.helpers.Cause.{Cause}
use Rattle.sq_base.specs.declared.helpers.Cause.TheVariants as cause
use Rattle.sq_rules.specs.declared.outcomes.Outcome.{Outcome}
use Rattle.sq_rules.specs.declared.outcomes.Why.{Why}
use Rattle.sq_rules.specs.declared.outcomes.Why.TheVariants as why

-- the word of a fault's cause
abbrev pub cause_word : Cause → List ℕ
cause_word cause.Bh = codes "Bh"
cause_word cause.BadReply = codes "BadReply"
cause_word cause.Stray = codes "Stray"
cause_word cause.Died = codes "Died"
cause_word cause.NoHelper = codes "NoHelper"
cause_word cause.QueueFull = codes "QueueFull"
cause_word cause.KeyTooLong = codes "KeyTooLong"

-- the words of an outcome's reason
abbrev pub why_words : Why → List (List ℕ)
why_words (why.Rule number) = codes "rule" ∷ decimal number ∷ []
why_words why.Default = codes "default" ∷ []
why_words why.Empty = codes "empty" ∷ []
why_words (why.Fault rule acl cause) = codes "fault" ∷ decimal rule ∷ text_word acl
    ∷ cause_word cause ∷ []

-- the word of an action
abbrev pub action_word : Bool → List ℕ
action_word allow = if allow then codes "allowed" else codes "denied"

-- `allowed rule 1`, `denied default` and the like
abbrev pub outcome_words : Outcome → List (List ℕ)
outcome_words o = action_word o.allow ∷ why_words o.why
