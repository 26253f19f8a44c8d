use Rattle.std.proofs.Common.{[], Err, subst}
use Rattle.sq_replay.specs.Entering.{Arrives}
use Rattle.sq_replay.specs.MachineViews.{machine_of}
use Rattle.sq_replay.specs.RunText.{begun_history}
use Rattle.sq_replay.proofs.beginning.begin.Goals as goal

pub returns-in-Ok-enter-clause-begins : goal.returns-in-Ok-enter-clause-begins
returns-in-Ok-enter-clause-begins g c = λ base configs good at w. c.in-Ok-enter.ensures.arrives base configs []
    (c.in-Ok.ensures.begun configs good at) w

pub returns-in-Err-Failed-clause-begins : goal.returns-in-Err-Failed-clause-begins
returns-in-Err-Failed-clause-begins g c = λ base configs good at w.
    subst (λ f. Arrives (machine_of c.enter.new.machine) base (g.O.Sink.contents c.enter.new.out) c.enter.new.page.items
    configs (begun_history configs c.args.at.moment c.args.at.offset) (Err f)) c.in-Err-Failed.field-0-is
    (c.in-Err-Failed.ensures.arrives base configs [] (c.in-Ok.ensures.begun configs good at) w)

pub returns-clause-begins : goal.returns-clause-begins
returns-clause-begins g c = λ base configs good at w.
    subst (λ f. Arrives (machine_of c.enter.new.machine) base (g.O.Sink.contents c.enter.new.out) c.enter.new.page.items
    configs (begun_history configs c.args.at.moment c.args.at.offset) (Err f)) c.in-Err-WantOfMemory.field-0-is
    (c.in-Err-WantOfMemory.ensures.arrives base configs [] (c.in-Ok.ensures.begun configs good at) w)
