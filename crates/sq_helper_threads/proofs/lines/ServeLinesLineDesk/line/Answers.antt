use Rattle.sq_helper_threads.proofs.LineLaws.{line_timely}
use Rattle.sq_helper_threads.specs.Handing.{desk_step}
use Rattle.sq_helper_threads.specs.LineViews.{lines_clock, lines_desk}
use Rattle.sq_helper_threads.proofs.lines.ServeLinesLineDesk.line.Goals as goal

pub returns-clause-passes : goal.returns-clause-passes
returns-clause-passes g c =
    let old = c.args.self.now in
    let new = c.hand_line.new.self in
    line_timely
    (desk_step g.K.TellsJournal.first (g.K.TellsJournal.told (lines_desk old)) (g.K.TellsJournal.told (lines_desk new))
    (g.K.TellsJournal.refused (lines_desk old)) (g.K.TellsJournal.refused (lines_desk new))
    (g.K.HelperCalls.is_stopped (lines_desk new)))
    (g.C.Clock.moments (lines_clock old)) (g.C.Clock.moments (lines_clock new)) c.args.proc c.args.bytes.now
    c.hand_line.result c.hand_line.ensures.hands
