-- In the statement: docs/STATEMENT.md lists which definitions.
-- The answers of a check and its walk.
use Rattle.std.specs.Prelude.{◌≡◌, ℕ, suc, ◌≤◌, List, [], ◌∷◌, Bool, true, false, ◌&&◌, bytes_eq, if◌then◌else◌, Some, is_some}
use Rattle.std.specs.List.{list_any}
use Rattle.sq_base.specs.Distinct.{has_answer}
use Rattle.sq_base.specs.declared.helpers.Answer.{Answer}
use Rattle.sq_machine.specs.declared.entries.Told.{Told}
use Rattle.sq_machine.specs.declared.entries.Told.TheVariants as told
use Rattle.sq_rules.specs.declared.sights.Sight.{Sight}
use Rattle.sq_machine.specs.AnswerReadings.{answers, steps}
use Rattle.sq_machine.specs.Checks.{Asked, ask_of}
use Rattle.sq_rules.specs.Configurations.{Configuration}
use Rattle.sq_machine.specs.Events.{is_number}
use Rattle.sq_rules.specs.Keys.{key_text}
use Rattle.sq_machine.specs.Epochs.{config_of}
use Rattle.sq_machine.specs.Marks.{Past, entries}
use Rattle.sq_machine.specs.StepRule.{class_of_acl}
use Rattle.sq_rules.specs.Walks.{walk_over}

-- the acl at a place asks this class for this key
abbrev pub asks : Configuration → Sight → ℕ → List ℕ → ℕ → Bool
asks c s class key place = is_number class (class_of_acl c.acls place)
    && bytes_eq (key_text c place s) key

-- an acl of the walk over these answers asks this class for this key
abbrev pub walk_asks : List Answer → Configuration → Sight → ℕ → List ℕ → Bool
walk_asks answers c s class key = list_any (asks c s class key) (walk_over answers c s)

-- a class and key have an answer exactly where an acl of the walk over these answers asks for it
abbrev pub AreWalked : List Answer → Configuration → Sight → Type 0
AreWalked answers c s = (class : ℕ) (key : List ℕ)
    → has_answer answers class key ≡ walk_asks answers c s class key

-- how many of these places are of acls that ask a class
abbrev pub external_count : Configuration → List ℕ → ℕ
external_count c [] = 0
external_count c (place ∷ places) = if is_some
    (class_of_acl c.acls place) then suc (external_count c places) else external_count c places

-- a step tells that it took an answer
abbrev pub is_took : Told → Bool
is_took (told.Took name) = true
is_took answer = false

-- how many answers steps of check n took
abbrev pub times_took : Past → ℕ → ℕ
times_took [] n = 0
times_took (x ∷ m) n = if steps m n x.entry.event
    && is_took x.entry.answer then suc (times_took m n) else times_took m n

-- steps of a check took no more answers than its walk has acls that ask a class
abbrev pub FewTaken : List Configuration → Past → Type 0
FewTaken configs m =
    (n : ℕ) (a : Asked) (config : Configuration) → ask_of (entries m) n ≡ Some a
    → config_of configs a.epoch ≡ Some config
    → times_took m n ≤ external_count config (walk_over (answers configs m n) config a.sight)
