-- one thing after the other: as one search it would be too long
use Rattle.std.proofs.Common.{inl, inr, rules}
use Rattle.sq_helper_threads.proofs.TakingLaws.{refused_engine}
use Rattle.sq_helper_threads.proofs.pump.ServePump.admit.Goals as goal

pub returns-in-Err-Engine-clause-admitted : goal.returns-in-Err-Engine-clause-admitted
returns-in-Err-Engine-clause-admitted g c = inr (
  (
    search rules,
    inl (
      c.in-Err-Engine.field-0-0,
      search rules,
      search rules,
      refused_engine g.K.TellsJournal.first c.args.self.now.first c.args.now c.args.epoch c.args.class
          (g.K.TellsJournal.told c.self.inside.desk) c.args.self.now.told c.in-Err-Engine.field-0
          c.in-Err-Engine.field-0-0 (search rules) (search rules) c.in-Err-Engine.field-0-is
          c.in-Err-Engine.ensures.refuses,
    ),
  ),
  record { pipes = search rules; readers = search rules; asking = search rules },
  (c.let_go.new.to, search rules),
)

pub returns-in-Err-Engine-clause-reports : goal.returns-in-Err-Engine-clause-reports
returns-in-Err-Engine-clause-reports g c = (
  search rules,
  search rules,
  inr (
    search rules,
    search rules,
    (
      c.in-Err-Engine.field-0-0,
      refused_engine g.K.TellsJournal.first c.match-to.self.first c.args.now c.args.epoch c.args.class
          (g.K.TellsJournal.told c.self.inside.desk) c.args.self.now.told c.in-Err-Engine.field-0
          c.in-Err-Engine.field-0-0 (search rules) (search rules) c.in-Err-Engine.field-0-is
          c.in-Err-Engine.ensures.refuses,
    ),
  ),
  search rules,
)

pub returns-in-Err-Stopped-clause-admitted : goal.returns-in-Err-Stopped-clause-admitted
returns-in-Err-Stopped-clause-admitted g c = inr (
  (search rules, inr (inl (search rules, search rules))),
  record { pipes = search rules; readers = search rules; asking = search rules },
  (c.let_go-in-Err-Stopped.new.to, search rules),
)
