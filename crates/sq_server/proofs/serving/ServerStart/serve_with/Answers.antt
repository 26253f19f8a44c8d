use Rattle.std.proofs.Common.{sym, ◌∙◌}
use denote.Exit.{no}
use denote.Param.Send.{arg_send, param_send}
use Rattle.sq_server.proofs.ThreadLaws.{desk_send, watched_send}
use Rattle.sq_server.proofs.serving.ServerStart.serve_with.Goals as goal

pub run-desk-requires-send-D : goal.run-desk-requires-send-D
run-desk-requires-send-D g c κs within = param_send _ _
    (arg_send _ no _ (desk_send _ _ _ _ (watched_send _ _ _ _ c.type_bounds.send-J c.type_bounds.send-B)
    c.type_bounds.send-B))

pub returns-clause-asks : goal.returns-clause-asks
returns-clause-asks g c = λ history told.
    c.run-desk.ensures.asks history (sym c.journal_of-journal.ensures.history ∙ told)

pub returns-clause-panel : goal.returns-clause-panel
returns-clause-panel g c =
    let ran = c.run-desk.ensures.panel in
    (ran.0, ran.1, λ history told. ran.2 history (sym c.journal_of-journal.ensures.history ∙ told))
