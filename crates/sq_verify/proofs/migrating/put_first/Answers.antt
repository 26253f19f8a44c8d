use Rattle.std.proofs.Common.{◌++◌, ◌∷◌, [], Ok, Err}
use Rattle.sq_journal.specs.Journals.{version_line}
use Rattle.sq_verify.proofs.MigrateLaws.{puts_line, puts_stops, puts_then}
use Rattle.sq_verify.proofs.migrating.put_first.Goals as goal

pub returns-in-Err-clause-puts : goal.returns-in-Err-clause-puts
returns-in-Err-clause-puts g c =
    let a = g.O.Sink.contents c.args.out.now in
    let b = g.O.Sink.contents c.put_line.new.out in
    puts_stops a b c.args.page.now.items c.put_line.new.page.items version_line (c.args.text.now ++ 10 ∷ [])
    c.in-Err.untold
    (puts_line a b c.args.page.now.items c.put_line.new.page.items version_line (Err c.in-Err.untold) tt
    c.in-Err.ensures.failed c.in-Err.ensures.memory)

pub returns-clause-puts : goal.returns-clause-puts
returns-clause-puts g c =
    let a = g.O.Sink.contents c.args.out.now in
    let m = g.O.Sink.contents c.put_line.new.out in
    let b = g.O.Sink.contents c.put_line-2.new.out in
    let line = c.args.text.now ++ 10 ∷ [] in
    puts_then a m b c.args.page.now.items c.put_line.new.page.items c.put_line-2.new.page.items version_line line
    c.put_line-2.result
    (puts_line a m c.args.page.now.items c.put_line.new.page.items version_line (Ok tt) c.in-Ok.ensures.ok
    (λ e. absurd (cc)) (λ e. absurd (cc)))
    (puts_line m b c.put_line.new.page.items c.put_line-2.new.page.items line c.put_line-2.result
    c.put_line-2.ensures.ok c.put_line-2.ensures.failed c.put_line-2.ensures.memory)
