use Rattle.sq_outside.specs.SourceLines.{lines}
use Rattle.sq_commands.specs.declared.ends.Status.TheVariants as ends
use Rattle.sq_commands.specs.Commands.{ran_output, script_stage, shelf_of, staged}
use Rattle.sq_replay.specs.RunText.{run_script}
use Rattle.sq_commands.proofs.OpenedLaws.{fault_told, play_fault, play_missing, play_opened}
use Rattle.sq_commands.proofs.SettleLaws.{nothing_yet, play_causes, play_over}
use Rattle.sq_commands.proofs.top.play.Goals as goal

pub returns-clause-delivers : goal.returns-clause-delivers
returns-clause-delivers g c =
    let a = g.O.Sink.contents c.args.out.now in
    play_over (g.F.Files.texts c.args.files.now) (g.F.Files.texts c.open.new.self) (g.F.Files.opened c.open.new.self)
    (g.F.Files.opened c.replay-end.new.files) _ a _ _
    (g.O.Sink.faults c.args.out.now) (g.O.Sink.faults c.replay-end.new.out) (g.O.Sink.faults c.settle.new.out)
    c.args.script.now _ c.args.setup c.replay-end.result c.settle.result
    c.in-Ok.ensures.texts c.in-Ok.ensures.opened c.replay-end.ensures.causes.out_later
    (c.replay-end.ensures.runs a (nothing_yet a c.new-page.result.items c.new-page.ensures.items))
    c.settle.ensures.delivers

pub returns-in-Err-Missing-clause-opened : goal.returns-in-Err-Missing-clause-opened
returns-in-Err-Missing-clause-opened g c =
    play_missing (g.F.Files.opened c.args.files.now) (g.F.Files.opened c.open.new.self)
    (g.O.Sink.contents c.args.out.now) (g.O.Sink.faults c.args.out.now) c.args.script.now
    c.args.setup c.missing.result c.in-Err-Missing.ensures.opened_list c.missing.ensures

pub returns-in-Err-Failed-clause-delivers : goal.returns-in-Err-Failed-clause-delivers
returns-in-Err-Failed-clause-delivers g c =
    fault_told (g.F.Files.texts c.args.files.now) (g.O.Sink.contents c.args.out.now) (g.O.Sink.faults c.args.out.now)
    (λ disk. staged (script_stage c.args.script.now (disk c.args.script.now))
    (λ text. ran_output (run_script (shelf_of disk) c.args.setup (lines text)))) ends.ReadFault (λ e. absurd (cc)) tt

pub returns-in-Err-Failed-clause-opened : goal.returns-in-Err-Failed-clause-opened
returns-in-Err-Failed-clause-opened g c =
    play_fault (g.F.Files.opened c.args.files.now) (g.F.Files.opened c.open.new.self) (g.O.Sink.contents c.args.out.now)
    (g.O.Sink.faults c.args.out.now) c.args.script.now
    c.args.setup ends.ReadFault c.in-Err-Failed.ensures.opened_list (λ e. absurd (cc)) tt

pub returns-in-Err-WantOfMemory-clause-opened : goal.returns-in-Err-WantOfMemory-clause-opened
returns-in-Err-WantOfMemory-clause-opened g c =
    play_fault (g.F.Files.opened c.args.files.now) (g.F.Files.opened c.open.new.self) (g.O.Sink.contents c.args.out.now)
    (g.O.Sink.faults c.args.out.now) c.args.script.now
    c.args.setup ends.WantOfMemory c.in-Err-WantOfMemory.ensures.opened_list (λ e. absurd (cc)) tt

pub returns-clause-opened : goal.returns-clause-opened
returns-clause-opened g c =
    let a = g.O.Sink.contents c.args.out.now in
    play_opened (g.F.Files.texts c.open.new.self) (g.F.Files.opened c.args.files.now) (g.F.Files.opened c.open.new.self)
    (g.F.Files.opened c.replay-end.new.files) (g.F.Files.opened c.give_back.new.self) _ a _ _
    (g.O.Sink.faults c.args.out.now) (g.O.Sink.faults c.replay-end.new.out) (g.O.Sink.faults c.settle.new.out)
    c.args.script.now _ c.args.setup c.replay-end.result c.settle.result
    c.in-Ok.ensures.opened_list c.replay-end.ensures.opens c.give_back.ensures.opened_list
    c.replay-end.ensures.causes.out_later
    (c.replay-end.ensures.runs a (nothing_yet a c.new-page.result.items c.new-page.ensures.items)) c.settle.ensures.same
    c.settle.ensures.delivers

pub returns-clause-causes : goal.returns-clause-causes
returns-clause-causes g c =
    play_causes (g.F.Files.faults c.args.files.now) (g.F.Files.faults c.open.new.self)
    (g.F.Files.faults c.replay-end.new.files) (g.F.Files.faults c.give_back.new.self) _ _
    (g.O.Sink.faults c.args.out.now) (g.O.Sink.faults c.replay-end.new.out) (g.O.Sink.faults c.settle.new.out)
    c.replay-end.result c.settle.result
    c.in-Ok.ensures.cause.quiet c.in-Ok.ensures.fresh c.replay-end.ensures.causes c.give_back.ensures.cause
    c.settle.ensures.same c.settle.ensures.read c.settle.ensures.later c.settle.ensures.write c.settle.ensures.quiet
