-- In the statement: docs/STATEMENT.md lists which definitions.
-- What a rehearsal came to, as a reading of its history.
use Rattle.std.specs.Prelude.{ℕ, ◌+◌, List, [], ◌∷◌, ◌++◌, Bool, true, false, codes, decimal}
use Rattle.sq_machine.specs.declared.entries.Told.{Told}
use Rattle.sq_machine.specs.declared.entries.Told.TheVariants as told
use Rattle.sq_rules.specs.declared.outcomes.Outcome.{Outcome}
use Rattle.sq_rules.specs.declared.outcomes.Why.{Why}
use Rattle.sq_rules.specs.declared.outcomes.Why.TheVariants as why
use Rattle.sq_machine.specs.Entries.{History}
use Rattle.sq_commands.specs.declared.summaries.Summary.{Summary}

-- the summary of nothing
abbrev pub no_count : Summary
no_count = record { asks = 0; allowed = 0; denied = 0; faults = 0; sends = 0 }

-- an outcome that denies, by a fault or otherwise
abbrev pub count_denied : Why → Summary → Summary
count_denied (why.Fault rule acl cause) s = record s { faults = s.faults + 1 }
count_denied w s = record s { denied = s.denied + 1 }

-- one more outcome: allowed, or denied for this reason
abbrev pub count_by : Bool → Why → Summary → Summary
count_by true w s = record s { allowed = s.allowed + 1 }
count_by false w s = count_denied w s

-- one more outcome
abbrev pub count_outcome : Outcome → Summary → Summary
count_outcome o s = count_by o.allow o.why s

-- an answer: a check began, an outcome was taken, or a question was sent
abbrev pub count_told : Told → Summary → Summary
count_told (told.Check n) s = record s { asks = s.asks + 1 }
count_told (told.Judged epoch outcome) s = count_outcome outcome s
count_told (told.Send proc question channel key) s = record s { sends = s.sends + 1 }
count_told answer s = s

-- what a history came to
abbrev pub counted : History → Summary
counted [] = no_count
counted (e ∷ h) = count_told e.answer (counted h)

-- all that was counted
abbrev pub total : Summary → ℕ
total s = s.asks + s.allowed + s.denied + s.faults + s.sends

-- a word and a number
abbrev pub count : List ℕ → ℕ → List ℕ
count word number = word ++ decimal number

-- `asks N allowed A denied D faults F sends S`
abbrev pub summary_line : Summary → List ℕ
summary_line s =
    count (codes "asks ") s.asks ++ count (codes " allowed ") s.allowed
    ++ count (codes " denied ") s.denied ++ count (codes " faults ") s.faults
    ++ count (codes " sends ") s.sends ++ 10 ∷ []
