use Rattle.std.proofs.Common.{refl, ap}
use Rattle.sq_control.specs.Attending.{Streams}
use Rattle.sq_commands.specs.Ends.{end_of, is_silent}
use Rattle.sq_commands.specs.Serving.{shown_service}
use Rattle.sq_commands.specs.declared.ends.Status.{Status}
use Rattle.sq_server.proofs.ServiceLaws.{finished}
use Rattle.sq_server.proofs.service.serve_service.Goals as goal

pub returns : goal.returns
returns g c =
    finished (shown_service c.args.service.now) _ _ _ _ _ _ _ _ _ _ _ c.serve_conf-status.result.0 c.finish.result
    c.finish.ensures.same c.serve_conf-status.ensures
    (λ e. ap {B = Streams}
    (λ o. record {
      left = g.W.C.Source.left c.serve_conf-status.new.control;
      input_faults = g.W.C.Source.faults c.serve_conf-status.new.control;
      contents = g.W.O.Sink.contents o;
      output_faults = g.W.O.Sink.faults o;
    })
    (c.finish.ensures.silent (ap (λ (s : Status). is_silent (end_of s)) e)))
    c.finish.ensures.written refl c.finish.ensures.later
