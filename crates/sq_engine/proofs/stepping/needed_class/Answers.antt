use Rattle.std.proofs.Common.{sym}
use Rattle.sq_machine.specs.StepRule.{class_of_acl}
use Rattle.sq_engine.proofs.NowLaws.{class_is_there, class_needed, some_none}
use Rattle.sq_engine.proofs.stepping.needed_class.Goals as goal

pub unreachable-requires : goal.unreachable-requires
unreachable-requires c = some_none (class_of_acl c.args.config.now.acls c.args.acl)
    (class_is_there c.args.config.now c.args.acl c.facts.ensures c.requires) c.in-None.ensures

pub returns-clause-there : goal.returns-clause-there
returns-clause-there c = class_needed c.args.config.now c.args.acl c.in-Some.class c.facts.ensures c.requires
    (sym c.in-Some.ensures)
