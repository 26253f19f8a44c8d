use Rattle.std.proofs.Common.{[], ◌∷◌, inl, refl, sym, subst}
use Rattle.sq_machine.specs.declared.entries.Told.TheVariants as answer
use Rattle.sq_calls.specs.Telling.{IsReread}
use Rattle.sq_calls.proofs.MomentLaws.{grew_none, notes_grew}
use Rattle.sq_rules.specs.ConfText.{conf_refuses}
use Rattle.sq_control.specs.Rereading.{Adds, States}
use Rattle.sq_control.proofs.RereadLaws.{adds_of, of_file, states_of}
use Rattle.sq_control.proofs.control.Control.reread.Goals as goal

pub returns-in-Err-At-clause-at : goal.returns-in-Err-At-clause-at
returns-in-Err-At-clause-at g c e is =
    of_file (g.F.Files.texts c.args.files.now) (g.F.Files.opened c.args.files.now)
    (g.F.Files.opened c.read_file.new.files) c.args.conf.now c.in-Ok.text
    (λ bytes. conf_refuses bytes e.line e.kind) c.in-Ok.ensures.text c.in-Ok.ensures.opened_list
    (λ bytes whole. c.in-Err-At.ensures.err e.line e.kind (cc) bytes whole)

pub returns-clause-adds : goal.returns-clause-adds
returns-clause-adds g c =
    let texts = g.F.Files.texts c.args.files.now in
    let before = g.F.Files.opened c.args.files.now in
    let now = g.F.Files.opened c.read_file.new.files in
    let old = g.K.TellsJournal.told c.args.self.now.desk in
    let new = g.K.TellsJournal.told c.reconfigure.new.self in
    subst (Adds texts before now c.args.conf.now old new) (sym c.answer_of.ensures)
    (adds_of g.K.TellsJournal.first c.args.now texts before now c.args.conf.now old new c.in-Ok-set_up.setup
    c.reconfigure.result
    (of_file texts before now c.args.conf.now c.in-Ok.text (States c.in-Ok-set_up.setup) c.in-Ok.ensures.text
    c.in-Ok.ensures.opened_list
    (states_of c.in-Ok.text c.in-Ok-set_up.setup c.in-Ok-set_up.ensures.ok))
    c.reconfigure.ensures.told)

pub returns-clause-asks : goal.returns-clause-asks
returns-clause-asks g c =
    let texts = g.F.Files.texts c.args.files.now in
    let before = g.F.Files.opened c.args.files.now in
    let now = g.F.Files.opened c.read_file.new.files in
    inl (
      c.in-Ok-set_up.setup,
      c.reconfigure.result,
      of_file texts before now c.args.conf.now c.in-Ok.text (States c.in-Ok-set_up.setup) c.in-Ok.ensures.text
          c.in-Ok.ensures.opened_list
          (states_of c.in-Ok.text c.in-Ok-set_up.setup c.in-Ok-set_up.ensures.ok),
      (c.reconfigure.ensures.rereads, c.reconfigure.ensures.refused, c.reconfigure.ensures.told),
      c.answer_of.ensures,
    )

pub returns-clause-grew : goal.returns-clause-grew
returns-clause-grew g c =
    notes_grew g.K.TellsJournal.first c.args.now answer.Epoch (IsReread c.in-Ok-set_up.setup)
    (g.K.TellsJournal.told c.args.self.now.desk) (g.K.TellsJournal.told c.reconfigure.new.self) c.reconfigure.result
    c.reconfigure.ensures.told

pub returns-in-Err-Missing-clause-grew : goal.returns-in-Err-Missing-clause-grew
returns-in-Err-Missing-clause-grew g c =
    let told = g.K.TellsJournal.told c.args.self.now.desk in
    grew_none (c.args.now ∷ []) told told refl

pub returns-in-Err-Failed-clause-grew : goal.returns-in-Err-Failed-clause-grew
returns-in-Err-Failed-clause-grew g c =
    let told = g.K.TellsJournal.told c.args.self.now.desk in
    grew_none (c.args.now ∷ []) told told refl

pub returns-in-Err-WantOfMemory-clause-grew : goal.returns-in-Err-WantOfMemory-clause-grew
returns-in-Err-WantOfMemory-clause-grew g c =
    let told = g.K.TellsJournal.told c.args.self.now.desk in
    grew_none (c.args.now ∷ []) told told refl

pub returns-in-Err-At-clause-grew : goal.returns-in-Err-At-clause-grew
returns-in-Err-At-clause-grew g c =
    let told = g.K.TellsJournal.told c.args.self.now.desk in
    grew_none (c.args.now ∷ []) told told refl
