-- The questions that an end or a failed start gave a fault, and what is known of them then.
use Rattle.std.proofs.Common.{◌≡◌, ◌∙◌, ◌==◌, ◌||◌, ◌<◌, cond, Bool, true, false, ℕ, List, [], ◌∷◌, length, Option, None, Some, if◌then◌else◌, nat_lt, refl, ap, sym, arith}
use Rattle.std.specs.List.{list_any}
use Rattle.sq_base.specs.declared.helpers.Cause.{Cause}
use Rattle.sq_machine.specs.Channels.{is_open, opened}
use Rattle.sq_machine.specs.Farms.{Stock}
use Rattle.sq_machine.specs.Losses.{AreOfCause, Loss, first_lost, later_lost, lose, lose_all}
use Rattle.sq_rewrite.specs.States.{Rows, ended_row, lost_rows, row_at}
use Rattle.sq_rewrite.specs.declared.rewritings.Rewriting.TheVariants as rewriting
use Rattle.sq_rewrite.specs.declared.rows.QuestionRow.{QuestionRow}
use Rattle.sq_rewrite.proofs.RowLaws.{now_ended, row_ended}

-- the question is among the lost ones
abbrev pub is_lost : ℕ → List Loss → Bool
is_lost q [] = false
is_lost q (l ∷ ls) = (q == l.question) || is_lost q ls

-- for one question more that is lost
lost_one : (q p : ℕ) (c : Cause) (ls : List Loss) → is_lost q (lose p c ls) ≡ ((q == p) || is_lost q ls)
lost_one q p c [] = refl
lost_one q p c (l ∷ ls) = by_test (nat_lt l.question p) (lost_one q p c ls)
  where
    swapped : (a b o o' : Bool) → o ≡ (b || o') → (a || o) ≡ (b || (a || o'))
    swapped true true o o' e = refl
    swapped true false o o' e = refl
    swapped false b o o' e = e

    by_test : (b : Bool) → is_lost q (lose p c ls) ≡ ((q == p) || is_lost q ls)
        → is_lost q (if b then l ∷ lose p c ls else record { question = p; cause = c } ∷ l ∷ ls)
        ≡ ((q == p) || is_lost q (l ∷ ls))
    by_test true e = swapped (q == l.question) (q == p) (is_lost q (lose p c ls)) (is_lost q ls) e
    by_test false e = refl

-- for these questions more that are lost
pub lost_all : (q : ℕ) (c : Cause) (qs : List ℕ) (ls : List Loss)
    → is_lost q (lose_all c qs ls) ≡ (list_any (λ p. q == p) qs || is_lost q ls)
lost_all q c [] ls = refl
lost_all q c (p ∷ qs) ls = lost_all q c qs (lose p c ls) ∙ ap (λ b. list_any (λ n. q == n) qs || b) (lost_one q p c ls)
    ∙ joined (list_any (λ n. q == n) qs) (q == p) (is_lost q ls)
  where
    joined : (a b o : Bool) → (a || (b || o)) ≡ ((b || a) || o)
    joined true true o = refl
    joined true false o = refl
    joined false true o = refl
    joined false false o = refl

cause_one : (p : ℕ) (c : Cause) (ls : List Loss) → AreOfCause c ls → AreOfCause c (lose p c ls)
cause_one p c [] a = (refl, tt)
cause_one p c (l ∷ ls) a = by_test (nat_lt l.question p) (cause_one p c ls a.1)
  where
    by_test : (b : Bool) → AreOfCause c (lose p c ls)
        → AreOfCause c (if b then l ∷ lose p c ls else record { question = p; cause = c } ∷ l ∷ ls)
    by_test true e = (a.0, e)
    by_test false e = (refl, a)

pub cause_all : (c : Cause) (qs : List ℕ) (ls : List Loss) → AreOfCause c ls → AreOfCause c (lose_all c qs ls)
cause_all c [] ls a = a
cause_all c (p ∷ qs) ls a = cause_all c qs (lose p c ls) (cause_one p c ls a)

-- for the open questions of a process, as a test
pub opened_any : (q : ℕ) (slots : List (Option ℕ)) → list_any (λ p. q == p) (opened slots) ≡ is_open q slots
opened_any q [] = refl
opened_any q (None ∷ slots) = opened_any q slots
opened_any q (Some p ∷ slots) = by_test (q == p) (opened_any q slots)
  where
    by_test : (b : Bool) → list_any (λ n. q == n) (opened slots) ≡ is_open q slots
        → (b || list_any (λ n. q == n) (opened slots)) ≡ (if b then true else is_open q slots)
    by_test true e = refl
    by_test false e = e

-- for what is known of a question after these were lost, all by one cause
pub row_lost : (q : ℕ) (c : Cause) (ls : List Loss) (rows : Rows) → AreOfCause c ls
    → row_at q (lost_rows ls rows)
    ≡ cond (is_lost q ls) (now_ended (rewriting.Same (Some c)) (row_at q rows)) (row_at q rows)
row_lost q c [] rows a = refl
row_lost q c (l ∷ ls) rows a =
    let w = rewriting.Same (Some c) in
    row_lost q c ls (ended_row l.question (rewriting.Same (Some l.cause)) rows) a.1
    ∙ ap (λ o. cond (is_lost q ls) (now_ended w o) o)
    (row_ended q l.question (rewriting.Same (Some l.cause)) rows
    ∙ ap (λ x. cond (q == l.question) (now_ended (rewriting.Same (Some x)) (row_at q rows)) (row_at q rows)) a.0)
    ∙ joined (is_lost q ls) (q == l.question) (row_at q rows)
  where
    twice : (o : Option QuestionRow)
        → now_ended (rewriting.Same (Some c)) (now_ended (rewriting.Same (Some c)) o)
        ≡ now_ended (rewriting.Same (Some c)) o
    twice None = refl
    twice (Some r) = refl

    joined : (a b : Bool) (o : Option QuestionRow)
        → cond a (now_ended (rewriting.Same (Some c)) (cond b (now_ended (rewriting.Same (Some c)) o) o))
        (cond b (now_ended (rewriting.Same (Some c)) o) o) ≡ cond (b || a) (now_ended (rewriting.Same (Some c)) o) o
    joined true true o = twice o
    joined true false o = refl
    joined false true o = refl
    joined false false o = refl

-- for lost questions of which the first is handed out
pub hand_step : (q : ℕ) (c : Cause) (ls : List Loss) (rows : Rows) → first_lost ls ≡ Some (q, c)
    → lost_rows (later_lost ls) (ended_row q (rewriting.Same (Some c)) rows) ≡ lost_rows ls rows
hand_step q c [] rows e = absurd cc
hand_step q c (l ∷ ls) rows e = let p : (l.question, l.cause) ≡ (q, c) = cc in
    ap (λ (x : ℕ × Cause). lost_rows ls (ended_row x.0 (rewriting.Same (Some x.1)) rows)) (sym p)

-- for lost questions without a first: there are none
pub hand_end : (ls : List Loss) → first_lost ls ≡ None → ls ≡ []
hand_end [] e = refl
hand_end (l ∷ ls) e = absurd cc

pub hand_fewer : (q : ℕ) (c : Cause) (ls : List Loss) → first_lost ls ≡ Some (q, c) → length (later_lost ls) < length ls
hand_fewer q c [] e = absurd cc
hand_fewer q c (l ∷ ls) e = omega arith

-- a farm of which no lost question is left
abbrev pub without_losses : Stock → Stock
without_losses v = record v { losses = [] }
