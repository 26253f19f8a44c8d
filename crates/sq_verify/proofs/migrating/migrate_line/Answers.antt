use Rattle.sq_verify.proofs.MigrateLaws.{line_by}
use Rattle.sq_verify.proofs.migrating.migrate_line.Goals as goal

pub returns-clause-line : goal.returns-clause-line
returns-clause-line g c =
    line_by (g.O.Sink.contents c.args.out.now) (g.O.Sink.contents c.put_entry.new.out) c.args.page.now.items
    c.put_entry.new.page.items c.args.count c.args.epoch c.args.line.now c.in-Ok.entry c.put_entry.result
    c.in-Ok.ensures c.put_entry.ensures.puts
