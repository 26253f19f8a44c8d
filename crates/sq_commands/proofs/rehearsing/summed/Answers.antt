use Rattle.std.proofs.Common.{List, ℕ, Ok, Err, subst}
use Rattle.sq_rules.specs.Configurations.{Configuration}
use Rattle.sq_rules.specs.ConfText.{conf_result}
use Rattle.sq_commands.specs.Commands.{conf_read}
use Rattle.sq_commands.specs.Ends.{Comes}
use Rattle.sq_commands.proofs.RehearseLaws.{line_is, unread_comes}
use Rattle.sq_commands.proofs.rehearsing.summed.Goals as goal

pub returns-in-Err-clause-comes : goal.returns-in-Err-clause-comes
returns-in-Err-clause-comes c =
    unread_comes c.args.count c.in-Err.end
    (subst (λ (t : List ℕ). Comes {A = Configuration} (Err c.in-Err.end) (conf_read (conf_result t)))
    c.configuration.ensures c.in-Err.ensures.comes)

pub returns-in-Ok-line-clause-comes : goal.returns-in-Ok-line-clause-comes
returns-in-Ok-line-clause-comes c =
    line_is c.args.count c.in-Ok.setup c.in-Ok-run.summary c.in-Ok-line.line
    (subst (λ (t : List ℕ). Comes {A = Configuration} (Ok c.in-Ok.setup) (conf_read (conf_result t)))
    c.configuration.ensures c.in-Ok.ensures.comes)
    c.in-Ok-run.ensures.counts c.in-Ok-run.ensures.asks c.in-Ok-line.ensures
