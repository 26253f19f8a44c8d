use Rattle.std.proofs.Common.{◌≡◌, Ok, Err, Some, None, subst, refl, ap}
use Rattle.sq_outside.specs.Input.{IsWhole, ReadsFile, ReadsOpening}
use Rattle.sq_rules.specs.ConfText.{conf_result}
use Rattle.sq_replay.specs.Entering.{Judges}
use Rattle.sq_replay.specs.Openings.{StopOpened}
use Rattle.sq_replay.specs.declared.ends.RunEnd.TheVariants as ends
use Rattle.sq_replay.proofs.EnteringLaws.{named_judged, named_long, named_whole}
use Rattle.sq_replay.proofs.OpeningLaws.{adds_most, adds_one, count_one, tells_none}
use Rattle.sq_replay.proofs.OpenedLaws.{Added_none, fault_opened, long_opened, may_open, name_opened}
use Rattle.sq_replay.proofs.named.read_named.Goals as goal

pub returns-in-Ok-None-clause-reads : goal.returns-in-Ok-None-clause-reads
returns-in-Ok-None-clause-reads g c = λ shelf e tells.
    let old = g.F.Files.opened c.args.files.now in
    let new = g.F.Files.opened c.read_file.new.files in
    named_long (g.F.Files.texts c.args.files.now) old new shelf e _ c.args.name
    (subst (ReadsFile 1048576 (g.F.Files.texts c.args.files.now) c.args.name) c.in-Ok-None.field-0-is
    c.in-Ok-None.ensures.text)
    (subst (ReadsOpening 1048576 old new c.args.name) c.in-Ok-None.field-0-is c.in-Ok-None.ensures.opened_list) tells

pub returns-in-Ok-None-clause-adds : goal.returns-in-Ok-None-clause-adds
returns-in-Ok-None-clause-adds g c =
    let old = g.F.Files.opened c.args.files.now in
    let new = g.F.Files.opened c.read_file.new.files in
    adds_one old new c.args.name (λ bytes. IsWhole 1048576 bytes None)
    (subst (ReadsOpening 1048576 old new c.args.name) c.in-Ok-None.field-0-is c.in-Ok-None.ensures.opened_list)

pub returns-in-Err-Missing-clause-reads : goal.returns-in-Err-Missing-clause-reads
returns-in-Err-Missing-clause-reads g c = λ shelf e tells.
    let is = ap (λ x. Err x) c.in-Err-Missing.field-0-is in (
      refl,
      tells_none (g.F.Files.texts c.args.files.now) (g.F.Files.opened c.args.files.now)
          (g.F.Files.opened c.read_file.new.files) shelf e c.args.name
          (c.in-Err-Missing.ensures.missing is) (c.in-Err-Missing.ensures.not_opened is) tells,
    )

pub returns-in-Err-Missing-clause-adds : goal.returns-in-Err-Missing-clause-adds
returns-in-Err-Missing-clause-adds g c = adds_most (g.F.Files.opened c.args.files.now)
    (g.F.Files.opened c.read_file.new.files) c.args.name c.in-Err-Missing.ensures.opened_err

pub returns-in-Err-Failed-clause-adds : goal.returns-in-Err-Failed-clause-adds
returns-in-Err-Failed-clause-adds g c = adds_most (g.F.Files.opened c.args.files.now)
    (g.F.Files.opened c.read_file.new.files) c.args.name c.in-Err-Failed.ensures.opened_err

pub returns-in-Err-WantOfMemory-clause-adds : goal.returns-in-Err-WantOfMemory-clause-adds
returns-in-Err-WantOfMemory-clause-adds g c = adds_most (g.F.Files.opened c.args.files.now)
    (g.F.Files.opened c.read_file.new.files) c.args.name c.in-Err-WantOfMemory.ensures.opened_err

pub returns-in-Ok-clause-reads : goal.returns-in-Ok-clause-reads
returns-in-Ok-clause-reads g c = λ shelf e tells.
    let old = g.F.Files.opened c.args.files.now in
    let new = g.F.Files.opened c.read_file.new.files in (
      named_whole (g.F.Files.texts c.args.files.now) old new shelf e _ c.args.name c.in-Ok-Some.text
          (subst (ReadsFile 1048576 (g.F.Files.texts c.args.files.now) c.args.name) c.in-Ok-Some.field-0-is
          c.in-Ok-Some.ensures.text)
          (subst (ReadsOpening 1048576 old new c.args.name) c.in-Ok-Some.field-0-is c.in-Ok-Some.ensures.opened_list)
          tells,
      subst (λ b. conf_result b ≡ Ok c.in-Ok.setup) c.as_bytes.ensures.value c.in-Ok.ensures.judges,
    )

pub returns-in-Ok-clause-adds : goal.returns-in-Ok-clause-adds
returns-in-Ok-clause-adds g c =
    let old = g.F.Files.opened c.args.files.now in
    let new = g.F.Files.opened c.read_file.new.files in
    adds_one old new c.args.name (λ bytes. IsWhole 1048576 bytes (Some c.in-Ok-Some.text))
    (subst (ReadsOpening 1048576 old new c.args.name) c.in-Ok-Some.field-0-is c.in-Ok-Some.ensures.opened_list)

pub returns-in-Ok-clause-counts : goal.returns-in-Ok-clause-counts
returns-in-Ok-clause-counts g c =
    let old = g.F.Files.opened c.args.files.now in
    let new = g.F.Files.opened c.read_file.new.files in
    count_one old new c.args.name (λ bytes. IsWhole 1048576 bytes (Some c.in-Ok-Some.text))
    (subst (ReadsOpening 1048576 old new c.args.name) c.in-Ok-Some.field-0-is c.in-Ok-Some.ensures.opened_list)

pub returns-clause-reads : goal.returns-clause-reads
returns-clause-reads g c = λ shelf e tells.
    let old = g.F.Files.opened c.args.files.now in
    let new = g.F.Files.opened c.read_file.new.files in
    named_judged (g.F.Files.texts c.args.files.now) old new shelf e _ c.args.name c.in-Ok-Some.text c.in-Err.end
    (subst (ReadsFile 1048576 (g.F.Files.texts c.args.files.now) c.args.name) c.in-Ok-Some.field-0-is
    c.in-Ok-Some.ensures.text)
    (subst (ReadsOpening 1048576 old new c.args.name) c.in-Ok-Some.field-0-is c.in-Ok-Some.ensures.opened_list)
    c.in-Err.ensures.end
    (subst (λ b. Judges (conf_result b) (Err c.in-Err.end)) c.as_bytes.ensures.value c.in-Err.ensures.judges) tells

pub returns-clause-adds : goal.returns-clause-adds
returns-clause-adds g c =
    let old = g.F.Files.opened c.args.files.now in
    let new = g.F.Files.opened c.read_file.new.files in
    adds_one old new c.args.name (λ bytes. IsWhole 1048576 bytes (Some c.in-Ok-Some.text))
    (subst (ReadsOpening 1048576 old new c.args.name) c.in-Ok-Some.field-0-is c.in-Ok-Some.ensures.opened_list)

pub returns-in-Ok-None-clause-opens : goal.returns-in-Ok-None-clause-opens
returns-in-Ok-None-clause-opens g c = λ number.
    let old = g.F.Files.opened c.args.files.now in
    let new = g.F.Files.opened c.read_file.new.files in
    long_opened old new c.args.name number
    (subst (ReadsOpening 1048576 old new c.args.name) c.in-Ok-None.field-0-is c.in-Ok-None.ensures.opened_list)

pub returns-in-Err-Missing-clause-opens : goal.returns-in-Err-Missing-clause-opens
returns-in-Err-Missing-clause-opens g c = λ number.
    Added_none (g.F.Files.opened c.args.files.now) (g.F.Files.opened c.read_file.new.files)
    (StopOpened number (ends.Missing c.args.name) (Some c.args.name))
    (c.in-Err-Missing.ensures.not_opened (ap (λ x. Err x) c.in-Err-Missing.field-0-is)) (refl, refl)

pub returns-in-Err-Failed-clause-opens : goal.returns-in-Err-Failed-clause-opens
returns-in-Err-Failed-clause-opens g c = λ number. may_open (g.F.Files.opened c.args.files.now)
    (g.F.Files.opened c.read_file.new.files) c.args.name c.in-Err-Failed.ensures.opened_err

pub returns-in-Err-WantOfMemory-clause-opens : goal.returns-in-Err-WantOfMemory-clause-opens
returns-in-Err-WantOfMemory-clause-opens g c = λ number. may_open (g.F.Files.opened c.args.files.now)
    (g.F.Files.opened c.read_file.new.files) c.args.name c.in-Err-WantOfMemory.ensures.opened_err

pub returns-in-Ok-clause-opens : goal.returns-in-Ok-clause-opens
returns-in-Ok-clause-opens g c = λ number.
    let old = g.F.Files.opened c.args.files.now in
    let new = g.F.Files.opened c.read_file.new.files in
    name_opened old new c.args.name c.in-Ok-Some.text c.in-Ok.setup
    (subst (λ b. conf_result b ≡ Ok c.in-Ok.setup) c.as_bytes.ensures.value c.in-Ok.ensures.judges)
    (subst (ReadsOpening 1048576 old new c.args.name) c.in-Ok-Some.field-0-is c.in-Ok-Some.ensures.opened_list)

pub returns-clause-opens : goal.returns-clause-opens
returns-clause-opens g c = λ number.
    let old = g.F.Files.opened c.args.files.now in
    let new = g.F.Files.opened c.read_file.new.files in
    fault_opened old new number c.args.name c.in-Ok-Some.text c.in-Err.end c.in-Err.ensures.end
    (subst (λ b. Judges (conf_result b) (Err c.in-Err.end)) c.as_bytes.ensures.value c.in-Err.ensures.judges)
    (subst (ReadsOpening 1048576 old new c.args.name) c.in-Ok-Some.field-0-is c.in-Ok-Some.ensures.opened_list)
