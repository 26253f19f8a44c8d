use Rattle.std.proofs.Common.{◌≡◌, true, false, None, is_some}
use Rattle.sq_machine.specs.Farms.{full}
use Rattle.sq_machine.specs.OpenLookups.{pending_in}
use Rattle.sq_class.proofs.HoldLaws.{not_some}
use Rattle.sq_class.proofs.StepLaws.{refused}
use Rattle.sq_class.proofs.parts.Part.ask.Goals as goal

pub returns-then-is_full-clause-ok : goal.returns-then-is_full-clause-ok
returns-then-is_full-clause-ok c = λ e name.
    let rows = c.self.inside.lookups.rows in
    let no : is_some (pending_in c.args.key.now rows) ≡ false = cc in
    let none : pending_in c.args.key.now rows ≡ None = not_some (pending_in c.args.key.now rows) no in
    let crowded : full c.self.inside.farm ≡ true = cc in
    rw (← c.self.view_is) (refused c.args.place c.args.count c.args.check name c.args.key.now e c.args.now
    c.in_ok-said.said
    (record {
      row = record { kept = c.self.inside.kept.verdicts; lookups = rows; stock = c.self.inside.farm };
      waiting = c.self.inside.lookups.waiting;
      limit = c.self.inside.kept.limit;
    })
    none crowded (c.in_ok-said.ensures e name) (rw (← c.self.view_is) at c.requires.free))
