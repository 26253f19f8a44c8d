use Rattle.std.proofs.lemmas.Result.{IfOk-at_ok}
use Rattle.sq_control.proofs.RereadLaws.{is_stated}
use Rattle.tests_system.proofs.desk.calls.setup_of.Goals as goal

pub returns : goal.returns
returns g c = is_stated c.args.text.now _ (IfOk-at_ok _ c.expect.ensures c.read_config.ensures.ok)
