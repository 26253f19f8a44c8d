use Rattle.std.proofs.Common.{◌≡◌, false, true, sym, subst, ◌∙◌}
use Rattle.std.specs.List.{list_any}
use Rattle.sq_rules.proofs.TokenLaws.{few_added, few_kept, few_more}
use Rattle.sq_rules.specs.Classes.{has_few_tokens, is_arguments}
use Rattle.sq_rules.proofs.formats.with_arguments.Goals as goal
use Rattle.sq_rules.proofs.formats.with_arguments.Goals.{then-not-has_arguments+in_ok-push, else-not-has_arguments}

pub returns-clause-written : goal.returns-clause-written
returns-clause-written c = λ few.
    elim c.if-not-has_arguments.branch [
      | then-not-has_arguments+in_ok-push w ↦
          (let none : list_any is_arguments c.args.format ≡ false =
          subst (λ f. list_any is_arguments f ≡ false) c.as_slice.ensures
          (sym c.has_arguments.ensures ∙ w.if-not-has_arguments.true) in
          subst (λ f. has_few_tokens f ≡ true) (sym (w.format-is ∙ w.in_ok-push.ensures.ok))
          (few_added c.args.format none few))
      | else-not-has_arguments w ↦ subst (λ f. has_few_tokens f ≡ true) (sym w.format-is) (few_kept c.args.format few)
    ]

pub returns-clause-few : goal.returns-clause-few
returns-clause-few c = λ few.
    elim c.if-not-has_arguments.branch [
      | then-not-has_arguments+in_ok-push w ↦
          (let none : list_any is_arguments c.args.format ≡ false =
          subst (λ f. list_any is_arguments f ≡ false) c.as_slice.ensures
          (sym c.has_arguments.ensures ∙ w.if-not-has_arguments.true) in
          subst (λ f. has_few_tokens f ≡ true) (sym (w.format-is ∙ w.in_ok-push.ensures.ok))
          (few_more c.args.format none few))
      | else-not-has_arguments w ↦ subst (λ f. has_few_tokens f ≡ true) (sym w.format-is) few
    ]
