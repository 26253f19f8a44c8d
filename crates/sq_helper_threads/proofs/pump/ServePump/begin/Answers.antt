use Rattle.std.proofs.Common.{inr, rules}
use Rattle.sq_helper_threads.proofs.pump.ServePump.begin.Goals as goal

pub returns-in-Ok-Some-clause-begins : goal.returns-in-Ok-Some-clause-begins
returns-in-Ok-Some-clause-begins g c =
    inr (inr (inr (record {
      act = c.in-Ok-Some.act;
      mid = record c.args.self.now {
        desk = c.act.new.self;
        told = g.K.TellsJournal.told c.act.new.self;
        refused = g.K.TellsJournal.refused c.act.new.self;
        stopped = g.K.HelperCalls.is_stopped c.act.new.self;
        made = g.K.TellsJournal.made c.act.new.self;
      };
      noted = search rules;
      same = search rules;
      later = search rules;
      going = search rules;
      programs_stay = search rules;
      performs = search rules;
    })))
