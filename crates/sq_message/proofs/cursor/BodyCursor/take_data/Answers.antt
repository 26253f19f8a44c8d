use Rattle.std.proofs.Common.{sym, ap, subst, [], take}
use Rattle.sq_message.specs.Cursors.{Cursor}
use Rattle.sq_message.specs.declared.body_state.BodyState.{BodyState}
use Rattle.sq_message.specs.Feeding.{Feeds}
use Rattle.sq_message.proofs.cursor.BodyCursor.take_data.Goals as goal

pub returns-in-Some-clause-fed : goal.returns-in-Some-clause-fed
returns-in-Some-clause-fed c =
    let input = c.args.input.now in
    let n = c.in-Some.used in
    let chunked = c.args.self.now.chunked in
    subst (λ (p : BodyState). Feeds chunked p input c.in-Some.place n c.is_complete-done.result [] (take n input))
    (ap Cursor.place c.self.view_is)
    (subst (λ t. Feeds chunked c.self.inside.place input c.in-Some.place n t [] (take n input))
    (sym c.is_complete-done.ensures) (c.in-Some.ensures.passes.fed chunked))
