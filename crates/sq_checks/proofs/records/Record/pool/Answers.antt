use Rattle.std.proofs.Common.{◌≡◌, rules}
use Rattle.sq_rules.specs.Verdicts.{pool_of}
use Rattle.sq_checks.proofs.PoolLaws.{pool_some}
use Rattle.sq_checks.proofs.records.Record.pool.Goals as goal

pub returns-clause-takes : goal.returns-clause-takes
returns-clause-takes c =
    let r = c.args.self.now in
    let theirs : c.pool.result ≡ pool_of r.config r.sight = search rules in
    pool_some c.pool.result r.config r.sight theirs
