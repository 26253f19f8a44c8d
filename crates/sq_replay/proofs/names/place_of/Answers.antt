use Rattle.std.proofs.Common.{◌∙◌, Some, ap, sym}
use Rattle.sq_engine.specs.EngineViews.{state_of}
use Rattle.sq_replay.proofs.NamingLaws.{searched_some}
use Rattle.sq_replay.proofs.names.place_of.Goals as goal

pub returns-clause-some : goal.returns-clause-some
returns-clause-some c =
    searched_some (state_of c.args.engine.now) c.args.epoch c.args.name.now c.deref.result.now c.place_in.result
    (sym c.in-Some.ensures ∙ ap Some (sym c.deref.ensures)) c.place_in.ensures
