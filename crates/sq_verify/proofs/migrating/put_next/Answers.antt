use Rattle.std.proofs.Common.{◌++◌, ◌∷◌, [], Bool, subst, sym}
use Rattle.sq_verify.specs.Migrating.{PutsText, first_behind}
use Rattle.sq_verify.proofs.MigrateLaws.{puts_line}
use Rattle.sq_verify.proofs.migrating.put_next.Goals as goal

pub returns-else-is_first-clause-puts : goal.returns-else-is_first-clause-puts
returns-else-is_first-clause-puts g c =
    let a = g.O.Sink.contents c.args.out.now in
    let b = g.O.Sink.contents c.put_line.new.out in
    let line = c.args.text.now ++ 10 ∷ [] in
    subst (λ (first : Bool). PutsText a b c.args.page.now.items c.put_line.new.page.items c.put_line.result
    (first_behind first line)) (sym c.if-is_first.false)
    (puts_line a b c.args.page.now.items c.put_line.new.page.items line c.put_line.result c.put_line.ensures.ok
    c.put_line.ensures.failed c.put_line.ensures.memory)
