use Rattle.std.proofs.Common.{[], inl, inr, refl, sym, ◌∙◌}
use Rattle.sq_calls.proofs.MomentLaws.{timely_and, timely_none, timely_one}
use Rattle.sq_control.specs.ControlViews.{desk_of}
use Rattle.sq_control.specs.Attending.{IsReread, Seen}
use Rattle.sq_control.proofs.AttendLaws.{asked_of, going_begins, going_fails, going_on, going_over, going_reread, going_stops, going_unread, going_unwritten, renewed_more, renewed_same, same_texts, timely_still, unwritten}
use Rattle.sq_control.proofs.attending.attend.Goals as goal

pub returns-in-Err-clause-attends : goal.returns-in-Err-clause-attends
unfolding unwritten
returns-in-Err-clause-attends g c = (
  unwritten _ _ _ _ _ _ c.in-Err.ensures.short refl c.in-Err.ensures.cause.failed
      c.in-Err.ensures.cause.later,
  (refl, refl),
)

pub returns-then-must_end-clause-attends : goal.returns-then-must_end-clause-attends
unfolding going_fails going_on
returns-then-must_end-clause-attends g c = (
  going_fails _ _ _ _ _ _ _ _
      (going_on _ _ _ _ _ _ _ (record {
        left = g.I.S.Source.left c.next_order.new.source;
        input_faults = g.I.S.Source.faults c.next_order.new.source;
        contents = g.I.O.Sink.contents c.orders.out;
        output_faults = g.I.O.Sink.faults c.orders.out;
      })
      c.orders.invariant.going (rw c.in-Ok-Nothing.field-0-is at c.in-Ok-Nothing.ensures.next) refl
      c.in-Ok-Nothing.ensures.cause.quiet refl)
      refl refl refl,
  c.orders.invariant.renewed,
)

pub returns-in-Err-write_reread-clause-attends : goal.returns-in-Err-write_reread-clause-attends
unfolding going_unwritten
returns-in-Err-write_reread-clause-attends g c =
    let was : Seen = record {
      files =
          record { opened = g.I.F.Files.opened c.orders.files; faults = g.I.F.Files.faults c.orders.files };
      desk = record {
        told = g.K.TellsJournal.told (desk_of c.orders.control);
        made = g.K.TellsJournal.made (desk_of c.orders.control);
        refused = g.K.TellsJournal.refused (desk_of c.orders.control);
      };
    } in
    let is_now : Seen = record {
      files =
          record {
            opened = g.I.F.Files.opened c.reread-reread.new.files;
            faults = g.I.F.Files.faults c.reread-reread.new.files;
          };
      desk = record {
        told = g.K.TellsJournal.told (desk_of c.reread-reread.new.self);
        made = g.K.TellsJournal.made (desk_of c.reread-reread.new.self);
        refused = g.K.TellsJournal.refused (desk_of c.reread-reread.new.self);
      };
    } in
    let r = c.reread-reread.ensures in
    let one : IsReread (g.I.F.Files.texts c.orders.files) c.args.conf.now was c.reread-reread.result is_now =
    record {
      adds = r.adds;
      opened = r.opened;
      made = r.made;
      asked = asked_of _ _ _ _ _ _ _ _ r.asks;
      at = r.at;
      missing = r.missing;
      unopened = r.unopened;
      read = r.read;
      quiet = r.quiet;
      later = r.faults_later;
      refused = r.refused;
      refused_later = r.later;
    } in (
      going_unwritten _ _ _ _ was is_now _
          (record {
            left = g.I.S.Source.left c.orders.input;
            input_faults = g.I.S.Source.faults c.orders.input;
            contents = g.I.O.Sink.contents c.orders.out;
            output_faults = g.I.O.Sink.faults c.orders.out;
          })
          _ c.reread-reread.result c.orders.invariant.going (same_texts _ _ _ _ _ _ c.orders.invariant.texts one)
          c.in-Err-write_reread.ensures.short
          c.in-Ok-Reconfigure.ensures.cause.quiet c.in-Err-write_reread.ensures.cause.failed
          c.in-Err-write_reread.ensures.cause.later,
      renewed_more _ _ _ _ _ _ c.reread-reread.result c.now-now.result _ _ _ _
          c.orders.invariant.renewed c.desk.ensures c.now-now.ensures.renewed c.reread-reread.ensures.grew
          c.renew.ensures.renews,
    )

pub returns-in-Err-write_reread-clause-timely : goal.returns-in-Err-write_reread-clause-timely
returns-in-Err-write_reread-clause-timely g c =
    let told = g.K.TellsJournal.told (desk_of c.orders.control) in
    timely_still (sym c.renew.ensures.moments)
    (timely_and _ (g.B.Beside.moments c.orders.beside) _ _ told _ c.orders.invariant.timely
    (timely_one c.now-now.result _ _ told _ c.now-now.ensures.moment c.reread-reread.ensures.grew))

pub returns-then-is_over-clause-attends : goal.returns-then-is_over-clause-attends
unfolding going_over
returns-then-is_over-clause-attends g c =
    let was : Seen = record {
      files =
          record { opened = g.I.F.Files.opened c.orders.files; faults = g.I.F.Files.faults c.orders.files };
      desk = record {
        told = g.K.TellsJournal.told (desk_of c.orders.control);
        made = g.K.TellsJournal.made (desk_of c.orders.control);
        refused = g.K.TellsJournal.refused (desk_of c.orders.control);
      };
    } in
    let is_now : Seen = record {
      files =
          record {
            opened = g.I.F.Files.opened c.reread-reread.new.files;
            faults = g.I.F.Files.faults c.reread-reread.new.files;
          };
      desk = record {
        told = g.K.TellsJournal.told (desk_of c.reread-reread.new.self);
        made = g.K.TellsJournal.made (desk_of c.reread-reread.new.self);
        refused = g.K.TellsJournal.refused (desk_of c.reread-reread.new.self);
      };
    } in
    let r = c.reread-reread.ensures in
    let one : IsReread (g.I.F.Files.texts c.orders.files) c.args.conf.now was c.reread-reread.result is_now =
    record {
      adds = r.adds;
      opened = r.opened;
      made = r.made;
      asked = asked_of _ _ _ _ _ _ _ _ r.asks;
      at = r.at;
      missing = r.missing;
      unopened = r.unopened;
      read = r.read;
      quiet = r.quiet;
      later = r.faults_later;
      refused = r.refused;
      refused_later = r.later;
    } in (
      going_over _ _ _ _ was is_now _
          (record {
            left = g.I.S.Source.left c.orders.input;
            input_faults = g.I.S.Source.faults c.orders.input;
            contents = g.I.O.Sink.contents c.orders.out;
            output_faults = g.I.O.Sink.faults c.orders.out;
          })
          _ c.reread-reread.result c.orders.invariant.going (same_texts _ _ _ _ _ _ c.orders.invariant.texts one)
          c.in-Ok-write_reread.ensures.ok c.in-Ok-Reconfigure.ensures.cause.quiet
          c.in-Ok-write_reread.ensures.cause.quiet,
      renewed_more _ _ _ _ _ _ c.reread-reread.result c.now-now.result _ _ _ _
          c.orders.invariant.renewed c.desk.ensures c.now-now.ensures.renewed c.reread-reread.ensures.grew
          c.renew.ensures.renews,
    )

pub returns-then-is_over-clause-timely : goal.returns-then-is_over-clause-timely
returns-then-is_over-clause-timely g c =
    let told = g.K.TellsJournal.told (desk_of c.orders.control) in
    timely_still (sym c.renew.ensures.moments)
    (timely_and _ (g.B.Beside.moments c.orders.beside) _ _ told _ c.orders.invariant.timely
    (timely_one c.now-now.result _ _ told _ c.now-now.ensures.moment c.reread-reread.ensures.grew))

pub orders-init : goal.orders-init
unfolding going_begins
orders-init g c = record {
  going = going_begins _ _ _ _ _
      (record {
        left = g.I.S.Source.left c.args.input.now;
        input_faults = g.I.S.Source.faults c.args.input.now;
        contents = g.I.O.Sink.contents c.write_listening.new.out;
        output_faults = g.I.O.Sink.faults c.write_listening.new.out;
      })
      refl c.in-Ok.ensures.ok refl c.in-Ok.ensures.cause.quiet;
  renewed = (refl, refl);
  texts = refl;
  timely = timely_none [] _ _ _ _ refl refl;
  callable = c.requires;
}

pub orders-preserved-else-must_end : goal.orders-preserved-else-must_end
unfolding going_on
orders-preserved-else-must_end g c = record {
  going = going_on _ _ _ _ _ _ _
      (record {
        left = g.I.S.Source.left c.next_order.new.source;
        input_faults = g.I.S.Source.faults c.next_order.new.source;
        contents = g.I.O.Sink.contents c.orders.out;
        output_faults = g.I.O.Sink.faults c.orders.out;
      })
      c.orders.invariant.going (rw c.in-Ok-Nothing.field-0-is at c.in-Ok-Nothing.ensures.next) refl
      c.in-Ok-Nothing.ensures.cause.quiet refl;
  renewed = c.orders.invariant.renewed;
  texts = c.orders.invariant.texts;
  timely = c.orders.invariant.timely;
  callable = c.orders.invariant.callable;
}

pub orders-preserved : goal.orders-preserved
unfolding going_reread
orders-preserved g c =
    let was : Seen = record {
      files =
          record { opened = g.I.F.Files.opened c.orders.files; faults = g.I.F.Files.faults c.orders.files };
      desk = record {
        told = g.K.TellsJournal.told (desk_of c.orders.control);
        made = g.K.TellsJournal.made (desk_of c.orders.control);
        refused = g.K.TellsJournal.refused (desk_of c.orders.control);
      };
    } in
    let is_now : Seen = record {
      files =
          record {
            opened = g.I.F.Files.opened c.reread-reread.new.files;
            faults = g.I.F.Files.faults c.reread-reread.new.files;
          };
      desk = record {
        told = g.K.TellsJournal.told (desk_of c.reread-reread.new.self);
        made = g.K.TellsJournal.made (desk_of c.reread-reread.new.self);
        refused = g.K.TellsJournal.refused (desk_of c.reread-reread.new.self);
      };
    } in
    let r = c.reread-reread.ensures in
    let one : IsReread (g.I.F.Files.texts c.orders.files) c.args.conf.now was c.reread-reread.result is_now =
    record {
      adds = r.adds;
      opened = r.opened;
      made = r.made;
      asked = asked_of _ _ _ _ _ _ _ _ r.asks;
      at = r.at;
      missing = r.missing;
      unopened = r.unopened;
      read = r.read;
      quiet = r.quiet;
      later = r.faults_later;
      refused = r.refused;
      refused_later = r.later;
    } in
    record {
      going = going_reread _ _ _ _ was is_now _
          (record {
            left = g.I.S.Source.left c.orders.input;
            input_faults = g.I.S.Source.faults c.orders.input;
            contents = g.I.O.Sink.contents c.orders.out;
            output_faults = g.I.O.Sink.faults c.orders.out;
          })
          (record {
            left = g.I.S.Source.left c.next_order.new.source;
            input_faults = g.I.S.Source.faults c.next_order.new.source;
            contents = g.I.O.Sink.contents c.write_reread.new.out;
            output_faults = g.I.O.Sink.faults c.write_reread.new.out;
          })
          c.reread-reread.result c.orders.invariant.going
          (rw c.in-Ok-Reconfigure.field-0-is at c.in-Ok-Reconfigure.ensures.next)
          (same_texts _ _ _ _ _ _ c.orders.invariant.texts one)
          (λ e. absurd (cc (sym (c.is_over.ensures e) ∙ c.if-is_over.false))) c.in-Ok-write_reread.ensures.ok
          c.in-Ok-Reconfigure.ensures.cause.quiet c.in-Ok-write_reread.ensures.cause.quiet;
      renewed = renewed_more _ _ _ _ _ _ c.reread-reread.result c.now-now.result _ _ _ _
          c.orders.invariant.renewed c.desk.ensures c.now-now.ensures.renewed r.grew
          c.renew.ensures.renews;
      texts = r.texts ∙ c.orders.invariant.texts;
      timely = timely_still (sym c.renew.ensures.moments)
          (timely_and _ (g.B.Beside.moments c.orders.beside) _ _ was.desk.told _ c.orders.invariant.timely
          (timely_one c.now-now.result _ _ was.desk.told is_now.desk.told c.now-now.ensures.moment r.grew));
      callable = c.renew.ensures.callable (c.now-now.ensures.callable c.orders.invariant.callable);
    }

pub returns-in-Ok-Shutdown-clause-attends : goal.returns-in-Ok-Shutdown-clause-attends
returns-in-Ok-Shutdown-clause-attends g c =
    let s = going_stops _ _ _ _ _ _ (record {
      left = g.I.S.Source.left c.orders.input;
      input_faults = g.I.S.Source.faults c.orders.input;
      contents = g.I.O.Sink.contents c.orders.out;
      output_faults = g.I.O.Sink.faults c.orders.out;
    })
    _ c.in-Ok-Shutdown.field-0 c.ending.result c.orders.invariant.going c.in-Ok-Shutdown.ensures.next
    (inl c.in-Ok-Shutdown.field-0-is) c.ending.ensures refl c.in-Ok-Shutdown.ensures.cause.quiet refl
    in
    (s.0, renewed_same _ _ _ _ _ _ _ s.1 c.orders.invariant.renewed)

pub returns-in-Ok-End-clause-attends : goal.returns-in-Ok-End-clause-attends
returns-in-Ok-End-clause-attends g c =
    let s = going_stops _ _ _ _ _ _ (record {
      left = g.I.S.Source.left c.orders.input;
      input_faults = g.I.S.Source.faults c.orders.input;
      contents = g.I.O.Sink.contents c.orders.out;
      output_faults = g.I.O.Sink.faults c.orders.out;
    })
    _ c.in-Ok-End.field-0 c.ending-in-Ok-End.result c.orders.invariant.going c.in-Ok-End.ensures.next
    (inr c.in-Ok-End.field-0-is) c.ending-in-Ok-End.ensures refl c.in-Ok-End.ensures.cause.quiet refl
    in
    (s.0, renewed_same _ _ _ _ _ _ _ s.1 c.orders.invariant.renewed)

pub returns-in-Err-next_order-clause-attends : goal.returns-in-Err-next_order-clause-attends
unfolding going_unread
returns-in-Err-next_order-clause-attends g c = (
  going_unread _ _ _ _ _ _
      (record {
        left = g.I.S.Source.left c.orders.input;
        input_faults = g.I.S.Source.faults c.orders.input;
        contents = g.I.O.Sink.contents c.orders.out;
        output_faults = g.I.O.Sink.faults c.orders.out;
      })
      _ c.orders.invariant.going refl c.in-Err-next_order.ensures.cause.failed c.in-Err-next_order.ensures.cause.later
      refl,
  c.orders.invariant.renewed,
)
