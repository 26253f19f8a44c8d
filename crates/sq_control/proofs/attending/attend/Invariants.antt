use Rattle.std.proofs.Common.{◌≡◌}
use Rattle.sq_calls.specs.Moments.{IsTimely}
use Rattle.sq_control.specs.ControlViews.{desk_of}
use Rattle.sq_control.specs.Renewing.{AreRenewed}
use Rattle.sq_control.proofs.AttendLaws.{IsGoing}
use Rattle.sq_control.proofs.attending.attend.Given as goal

-- the orders so far were followed
abbrev pub invariant-orders : goal.invariant-orders
invariant-orders g l = record {
  going : IsGoing (g.I.F.Files.texts l.fn.files) l.conf l.port
      (record {
        files = record { opened = g.I.F.Files.opened l.fn.files; faults = g.I.F.Files.faults l.fn.files };
        desk = record {
          told = g.K.TellsJournal.told (desk_of l.fn.control);
          made = g.K.TellsJournal.made (desk_of l.fn.control);
          refused = g.K.TellsJournal.refused (desk_of l.fn.control);
        };
      })
      (record {
        files = record { opened = g.I.F.Files.opened l.files; faults = g.I.F.Files.faults l.files };
        desk = record {
          told = g.K.TellsJournal.told (desk_of l.control);
          made = g.K.TellsJournal.made (desk_of l.control);
          refused = g.K.TellsJournal.refused (desk_of l.control);
        };
      })
      (record {
        left = g.I.S.Source.left l.fn.input;
        input_faults = g.I.S.Source.faults l.fn.input;
        contents = g.I.O.Sink.contents l.fn.out;
        output_faults = g.I.O.Sink.faults l.fn.out;
      })
      (record {
        left = g.I.S.Source.left l.input;
        input_faults = g.I.S.Source.faults l.input;
        contents = g.I.O.Sink.contents l.out;
        output_faults = g.I.O.Sink.faults l.out;
      });
  renewed : AreRenewed
      (record { told = g.K.TellsJournal.told; configs = g.K.TellsJournal.configs }) (desk_of l.fn.control)
      going.rereads (desk_of l.control) (g.B.Beside.renewed l.fn.beside) (g.B.Beside.renewed l.beside);
  texts : g.I.F.Files.texts l.files ≡ g.I.F.Files.texts l.fn.files;
  timely : IsTimely (g.B.Beside.moments l.fn.beside) (g.B.Beside.moments l.beside)
      (g.K.TellsJournal.told (desk_of l.fn.control)) (g.K.TellsJournal.told (desk_of l.control));
  callable : g.B.Beside.callable l.beside;
}
