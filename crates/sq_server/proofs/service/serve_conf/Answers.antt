use Rattle.std.proofs.Common.{refl, ap}
use Rattle.sq_control.specs.Attending.{Streams}
use Rattle.sq_commands.specs.Serving.{shown_service}
use Rattle.sq_server.proofs.ServiceLaws.{conf_failed, net_failed, served_from, served_service, served_texts}
use Rattle.sq_server.proofs.service.serve_conf.Goals as goal

pub returns-in-Err : goal.returns-in-Err
returns-in-Err g c =
    let e = c.in-Err.ensures in
    conf_failed (shown_service c.args.service.now) _ _ _ _ _ _ _ c.in-Err.end e.end e.comes e.read c.requires e.later
    e.opened

pub returns-in-Err-parts : goal.returns-in-Err-parts
returns-in-Err-parts g c =
    let e = c.in-Ok.ensures in
    let cause = c.in-Err-parts.ensures.cause in
    net_failed (shown_service c.args.service.now) _ _ _ _ _ _ _ _ c.in-Ok.setup e.comes cause.failed cause.later
    c.requires e.later e.opened

pub returns : goal.returns
returns g c =
    served_service (shown_service c.args.service.now) _ _ _ _ _ _ _ _ _ _ _ _ _ c.port_of-port.result _ c.in-Ok.setup
    c.serve_at-status.result.0 c.write_stopped.result
    (cc) (record { told = c.in-Ok.ensures.comes; opened = c.in-Ok.ensures.opened })
    (served_from (shown_service c.args.service.now) c.in-Ok.setup c.offset_of.result _ _ _ _ _ _ _ _ _ _ _ _
    c.offset_of.ensures
    (served_texts _ _ _ _ _ _ _ _ _ _ _ _ _ _ c.in-Ok.ensures.texts c.serve_at-status.ensures.served))
    c.in-Ok-parts.ensures.cause.quiet c.give_back.ensures.cause c.in-Ok.ensures.later c.write_stopped.ensures.ok
    c.write_stopped.ensures.same c.write_stopped.ensures.write
    (λ other.
    let both = c.write_stopped.ensures.kept other in (
      both.0,
      ap {B = Streams}
          (λ o. record {
            left = g.W.C.Source.left c.serve_at-status.new.control;
            input_faults = g.W.C.Source.faults c.serve_at-status.new.control;
            contents = g.W.O.Sink.contents o;
            output_faults = g.W.O.Sink.faults o;
          })
          both.1,
    ))
    c.write_stopped.ensures.short refl refl c.write_stopped.ensures.later
