use Rattle.std.proofs.Common.{◌≡◌, ◌++◌, Ok, Err, IfNone, IfSome, ◌<◌, refl, subst, sym, ap, ◌∙◌}
use Rattle.sq_machine.specs.declared.entries.Event.TheVariants.{Act}
use Rattle.sq_machine.specs.Entries.{entry_at}
use Rattle.sq_journal.specs.EntryText.{entry_line}
use Rattle.sq_replay.specs.Dues.{dues_in}
use Rattle.sq_replay.specs.Making.{IsActing}
use Rattle.sq_replay.specs.MachineViews.{machine_of}
use Rattle.sq_replay.specs.RunText.{acts}
use Rattle.sq_replay.specs.Runs.{At, Wrote, WroteFront, WrotePart}
use Rattle.sq_replay.proofs.EnteringLaws.{reached_failed, reached_front, reached_lacking, reached_none}
use Rattle.sq_replay.proofs.MakingLaws.{reached_first, reached_next}
use Rattle.sq_replay.proofs.entering.write_acts.Goals as goal

pub acts-init : goal.acts-init
acts-init g c = record { quiet = refl; reached = λ base configs h at. reached_first _ base _ _ configs h at }

pub returns-in-Ok-None-clause-arrives : goal.returns-in-Ok-None-clause-arrives
returns-in-Ok-None-clause-arrives g c = λ base configs h at.
    let acting = subst (λ o. IsActing (machine_of c.acts.machine) (machine_of c.act.new.self)
    (machine_of c.acts.machine).latest (Ok o)) c.in-Ok-None.field-0-is c.in-Ok-None.ensures.acting in
    let same : c.act.new.self ≡ c.acts.machine =
    subst (λ o. IfNone o (c.act.new.self ≡ c.acts.machine)) c.in-Ok-None.field-0-is c.in-Ok-None.ensures.same in
    subst (λ m. At (machine_of m) base (g.O.Sink.contents c.acts.out) c.acts.page.items configs (acts configs h))
    (sym same)
    (reached_none (machine_of c.acts.machine) base _ _ configs h (λ x is. acting configs x is)
    (c.acts.invariant.reached base configs h at))

pub returns-in-Err-clause-arrives : goal.returns-in-Err-clause-arrives
returns-in-Err-clause-arrives g c = λ base configs h at. reached_front _ base _ _ configs h
    (c.acts.invariant.reached base configs h at)

pub returns-in-Err-Failed-clause-arrives : goal.returns-in-Err-Failed-clause-arrives
returns-in-Err-Failed-clause-arrives g c = λ base configs h at.
    let moment = c.latest.ensures ∙ c.in-Ok-Some.ensures.latest in
    let acting = subst (λ o. IsActing (machine_of c.acts.machine) (machine_of c.act.new.self)
    (machine_of c.acts.machine).latest (Ok o)) c.in-Ok-Some.field-0-is c.in-Ok-Some.ensures.acting in
    reached_failed (machine_of c.acts.machine) (machine_of c.act.new.self) base _ _ _ configs h c.in-Ok-Some.answer
    (λ x is. acting configs x is)
    (λ text w. subst (λ m. WrotePart base (g.O.Sink.contents c.page_entry.new.out)
    (text ++ entry_line (entry_at m Act c.in-Ok-Some.answer))) moment
    (c.in-Err-Failed.ensures.failed (ap (λ x. Err x) c.in-Err-Failed.field-0-is) base text w))
    (c.acts.invariant.reached base configs h at)

pub returns-in-Err-WantOfMemory-clause-arrives : goal.returns-in-Err-WantOfMemory-clause-arrives
returns-in-Err-WantOfMemory-clause-arrives g c = λ base configs h at.
    let moment = c.latest.ensures ∙ c.in-Ok-Some.ensures.latest in
    let acting = subst (λ o. IsActing (machine_of c.acts.machine) (machine_of c.act.new.self)
    (machine_of c.acts.machine).latest (Ok o)) c.in-Ok-Some.field-0-is c.in-Ok-Some.ensures.acting in
    reached_lacking (machine_of c.acts.machine) (machine_of c.act.new.self) base _ _ _ _ configs h c.in-Ok-Some.answer
    (λ x is. acting configs x is)
    (λ text w. subst (λ m. WroteFront base (g.O.Sink.contents c.page_entry.new.out) c.page_entry.new.page.items
    (text ++ entry_line (entry_at m Act c.in-Ok-Some.answer))) moment
    (c.in-Err-WantOfMemory.ensures.memory (ap (λ x. Err x) c.in-Err-WantOfMemory.field-0-is) base text w))
    (c.acts.invariant.reached base configs h at)

pub acts-preserved : goal.acts-preserved
acts-preserved g c = record {
  quiet = c.in-Ok.ensures.quiet (λ e. absurd (cc)) ∙ c.acts.invariant.quiet;
  reached = λ base configs h at.
      let moment = c.latest.ensures ∙ c.in-Ok-Some.ensures.latest in
      let acting = subst (λ o. IsActing (machine_of c.acts.machine) (machine_of c.act.new.self)
      (machine_of c.acts.machine).latest (Ok o)) c.in-Ok-Some.field-0-is c.in-Ok-Some.ensures.acting in
      reached_next (machine_of c.acts.machine) (machine_of c.act.new.self) base _ _ _ _ configs h c.in-Ok-Some.answer
      (λ x is. acting configs x is)
      (λ text w. subst (λ m. Wrote base (g.O.Sink.contents c.page_entry.new.out) c.page_entry.new.page.items
      (text ++ entry_line (entry_at m Act c.in-Ok-Some.answer))) moment (c.in-Ok.ensures.ok base text w))
      (c.acts.invariant.reached base configs h at);
}

pub acts-smaller : goal.acts-smaller
acts-smaller g c = subst (λ o. IfSome o
    (λ _. dues_in (machine_of c.act.new.self).state < dues_in (machine_of c.acts.machine).state))
    c.in-Ok-Some.field-0-is c.in-Ok-Some.ensures.lowers
