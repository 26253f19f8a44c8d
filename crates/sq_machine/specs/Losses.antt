-- In the statement: docs/STATEMENT.md lists which definitions.
-- Questions that have a fault in place of a reply and were not handed out yet.
use Rattle.std.specs.Prelude.{◌≡◌, ℕ, suc, List, [], ◌∷◌, if◌then◌else◌, nat_lt, ◌==◌, Some, None}
use Rattle.std.specs.declared.option.Option.{Option}
use Rattle.sq_base.specs.declared.helpers.Cause.{Cause}

-- a lost question, and why
pub record Loss : Type 0 where
  pub question : ℕ
  pub cause : Cause

-- the number of the lost question
abbrev pub loss_number : Loss → ℕ
loss_number l = l.question

-- each was lost by this cause
abbrev pub AreOfCause : Cause → List Loss → Type 0
AreOfCause c [] = Unit {0}
AreOfCause c (l ∷ ls) = (l.cause ≡ c) × AreOfCause c ls

-- the question put to its place, by number
abbrev pub lose : ℕ → Cause → List Loss → List Loss
lose q c [] = record { question = q; cause = c } ∷ []
lose q c (l ∷ ls) = if nat_lt l.question q then l ∷ lose q c ls
    else record { question = q; cause = c } ∷ l ∷ ls

-- these questions put to their places
abbrev pub lose_all : Cause → List ℕ → List Loss → List Loss
lose_all c [] ls = ls
lose_all c (q ∷ qs) ls = lose_all c qs (lose q c ls)

-- how often the question is among them
abbrev pub times_lost : ℕ → List Loss → ℕ
times_lost q [] = 0
times_lost q (l ∷ ls) = if q == l.question then suc (times_lost q ls) else times_lost q ls

-- the one that is handed out next: the least
abbrev pub first_lost : List Loss → Option (ℕ × Cause)
first_lost [] = None
first_lost (l ∷ ls) = Some (l.question, l.cause)

-- those behind it
abbrev pub later_lost : List Loss → List Loss
later_lost [] = []
later_lost (l ∷ ls) = ls
