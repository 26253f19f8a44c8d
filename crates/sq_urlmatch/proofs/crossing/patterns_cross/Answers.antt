use denote.Param.Send.{arg_send, arg_sync, param_send, param_sync}
use Rattle.sq_urlmatch.proofs.ThreadLaws.{patterns_send, patterns_sync}
use Rattle.sq_urlmatch.proofs.crossing.patterns_cross.Goals as goal

pub crosses-requires-send-T : goal.crosses-requires-send-T
crosses-requires-send-T c κs = search (param_send, arg_send, patterns_send)

pub crosses-requires-sync-T : goal.crosses-requires-sync-T
crosses-requires-sync-T c κs = search (param_sync, arg_sync, patterns_sync)
