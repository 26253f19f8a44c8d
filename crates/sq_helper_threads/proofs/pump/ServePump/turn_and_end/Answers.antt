-- one case after the other: as one search it would be too long
use Rattle.std.proofs.Common.{rules}
use Rattle.sq_helper_threads.proofs.RoundLaws.{idle_ends}
use Rattle.sq_helper_threads.proofs.pump.ServePump.turn_and_end.Goals as goal
use Rattle.sq_helper_threads.proofs.pump.ServePump.turn_and_end.Goals.{in-Acted, in-WantOfMemory, in-Ended, in-Idle}

pub returns : goal.returns
returns g c = record {
  turn = c.turn.result;
  turned = c.turn.new.self;
  turns = search rules;
  ends = elim c.match-turn.branch [
    | in-Acted w ↦ search rules
    | in-WantOfMemory w ↦ search rules
    | in-Ended w ↦ search rules
    | in-Idle w ↦ idle_ends _ c.args.now c.args.is_refused c.turn.result c.turn.new.self c.match-turn.self
        w.end_idle.new.self c.match-turn.result w.end_idle.result (search rules) (search rules) (search rules)
        w.end_idle.ensures
  ];
}
