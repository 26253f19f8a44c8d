use Rattle.std.proofs.Common.{◌≡◌}
use Rattle.std.specs.Arc.{arc_value}
use Rattle.sq_control.specs.declared.control.Reread.TheVariants as reread
use Rattle.sq_control.proofs.AttendLaws.{gives_config, renews_made}
use Rattle.sq_control.proofs.attending.renew.Goals as goal

pub returns-in-Made-clause-renews : goal.returns-in-Made-clause-renews
returns-in-Made-clause-renews g c =
    let is : c.args.reread.now ≡ reread.Made c.in-Made.epoch = cc (c.in-Made.is) in
    renews_made (g.K.TellsJournal.configs c.args.desk.now) c.args.reread.now c.in-Made.epoch c.args.now
    (g.B.Beside.renewed c.args.beside.now) (g.B.Beside.renewed c.renew.new.self) _ is
    (gives_config (g.K.TellsJournal.configs c.args.desk.now c.in-Made.epoch) c.config.result (λ k. arc_value k)
    c.config.ensures)
    c.renew.ensures.renewed
