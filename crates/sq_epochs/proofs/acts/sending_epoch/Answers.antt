use Rattle.std.proofs.Common.{rules, tests, ◌∙◌}
use Rattle.std.proofs.lemmas.Iterator.{YieldsList-from_slice}
use Rattle.std.proofs.lemmas.Iterator.Search.{position_from_yields_List}
use Rattle.sq_epochs.specs.DueStates.{has_act, owes_send}
use Rattle.sq_epochs.proofs.DueLaws.{position_is}
use Rattle.sq_epochs.proofs.acts.sending_epoch.Goals as goal

pub returns-clause-first : goal.returns-clause-first
returns-clause-first c =
    let xs = c.args.epochs.now in
    position_from_yields_List (has_act owes_send) _ _ c.position.result c.position.ensures.ran
    (YieldsList-from_slice xs cc) (λ x b q k. search (rules, tests)) ∙ position_is (has_act owes_send) xs
