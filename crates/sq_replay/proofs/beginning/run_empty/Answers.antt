use Rattle.std.proofs.Common.{pos, [], refl}
use Rattle.sq_journal.specs.EntryText.{written}
use Rattle.sq_replay.specs.RunText.{begun_history, configs_of, run_script}
use Rattle.sq_outside.proofs.Writing.{IsPrefix_refl}
use Rattle.sq_replay.proofs.BeginLaws.{begins_reach}
use Rattle.sq_replay.proofs.ReadingLaws.{configs_good}
use Rattle.sq_replay.proofs.beginning.run_empty.Goals as goal

pub returns-in-Ok-clause-runs : goal.returns-in-Ok-clause-runs
returns-in-Ok-clause-runs g c = λ base shelf w.
    let configs = configs_of shelf c.args.setup [] in
    (refl, (c.in-Ok.ensures.begins base configs (configs_good shelf c.args.setup [] c.requires) refl w).wrote)

pub returns-clause-runs : goal.returns-clause-runs
returns-clause-runs g c = λ base shelf w.
    let configs = configs_of shelf c.args.setup [] in
    begins_reach base _ _ (written (begun_history configs 0 (pos 0))) (run_script shelf c.args.setup []) c.in-Err.end
    (IsPrefix_refl (written (begun_history configs 0 (pos 0))))
    (c.in-Err.ensures.begins base configs (configs_good shelf c.args.setup [] c.requires) refl w)
