use Rattle.sq_verify.proofs.AuditLaws.{comes_audited}
use Rattle.sq_verify.proofs.CompleteLaws.{told_verifies}
use Rattle.sq_verify.proofs.beginning.judge.Goals as goal

pub returns-clause-audits : goal.returns-clause-audits
returns-clause-audits g c = comes_audited c.args.setup (g.S.Source.left c.args.journal.now) c.judge_all.result
    c.configuration_facts.ensures c.judge_all.ensures.judges

pub returns-clause-complete : goal.returns-clause-complete
returns-clause-complete g c = λ v h told over.
    told_verifies c.args.setup (g.S.Source.left c.args.journal.now) c.judge_all.result v h c.judge_all.ensures.judges
    told over
