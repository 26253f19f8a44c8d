-- For those who end questions: what that makes of the rows.
use Rattle.std.proofs.Common.{◌≡◌, ◌∙◌, ℕ, List, [], ◌∷◌, Option, None, Some, refl, ap}
use Rattle.sq_base.specs.declared.helpers.Answer.{Answer}
use Rattle.sq_base.specs.declared.helpers.What.{What}
use Rattle.sq_model.specs.CheckRows.{Ends, Held, after_ends, one_end, served}
use Rattle.sq_checks.specs.OpenChecks.{AllFit, CheckParts, all_ended, both_ends, row, rows_of}
use Rattle.sq_checks.proofs.CheckLaws.{row_ended}

-- the rows after the end of a question, where the answer is what each check is given that waits for it
pub rows_ended : (q : ℕ) (a : Answer) (w : What) (now : ℕ) (checks : List (ℕ × CheckParts)) → AllFit q a w now checks
    → rows_of (all_ended q w now checks) ≡ after_ends (one_end q a) (rows_of checks)
rows_ended q a w now [] fit = refl
rows_ended q a w now (e ∷ es) fit =
    ap (λ x. x ∷ rows_of (all_ended q w now es)) (row_ended e.0 q a w now e.1 fit.0)
    ∙ ap (λ l. served (one_end q a) (row e.0 e.1) ∷ l) (rows_ended q a w now es fit.1)

served_both : (first second : Ends) (h : Held) (o : Option ℕ) → h.waits ≡ o
    → served second (served first h) ≡ served (both_ends first second) h
served_both first second h None e = rw e refl
served_both first second h (Some q) e = by (first q) refl
  where
    by : (p : Option Answer) → first q ≡ p → served second (served first h) ≡ served (both_ends first second) h
    by None f = rw (e, f) refl
    by (Some a) f = rw (e, f) refl

-- the ends of some questions and then of others are the ends of both
pub ends_after : (first second : Ends) (checks : List Held)
    → after_ends second (after_ends first checks) ≡ after_ends (both_ends first second) checks
ends_after first second [] = refl
ends_after first second (h ∷ checks) =
    ap (λ x. x ∷ after_ends second (after_ends first checks)) (served_both first second h h.waits refl)
    ∙ ap (λ l. served (both_ends first second) h ∷ l) (ends_after first second checks)
