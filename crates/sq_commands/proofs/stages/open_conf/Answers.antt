use Rattle.std.proofs.Common.{subst}
use Rattle.sq_outside.specs.Input.{ReadsFile, ReadsOpening}
use Rattle.sq_rules.specs.ConfText.{conf_result}
use Rattle.sq_commands.specs.declared.ends.Status.TheVariants as ends
use Rattle.sq_commands.specs.Commands.{conf_read}
use Rattle.sq_commands.specs.Ends.{Comes}
use Rattle.sq_commands.proofs.OpenedLaws.{conf_fault, conf_long, conf_opened}
use Rattle.sq_commands.proofs.StageLaws.{long_conf}
use Rattle.sq_commands.proofs.stages.open_conf.Goals as goal

pub returns-in-Ok-None-clause-comes : goal.returns-in-Ok-None-clause-comes
returns-in-Ok-None-clause-comes g c =
    long_conf (g.F.Files.texts c.args.files.now) c.args.name.now
    (subst (ReadsFile 1048576 (g.F.Files.texts c.args.files.now) c.args.name.now) c.in-Ok-None.field-0-is
    c.in-Ok-None.ensures.text)

pub returns-in-Ok-None-clause-opened : goal.returns-in-Ok-None-clause-opened
returns-in-Ok-None-clause-opened g c =
    let old = g.F.Files.opened c.args.files.now in
    let new = g.F.Files.opened c.read_file.new.files in
    conf_long old new c.args.name.now
    (subst (ReadsOpening 1048576 old new c.args.name.now) c.in-Ok-None.field-0-is c.in-Ok-None.ensures.opened_list)

pub returns-in-Err-Failed-clause-opened : goal.returns-in-Err-Failed-clause-opened
returns-in-Err-Failed-clause-opened g c =
    conf_fault (g.F.Files.opened c.args.files.now) (g.F.Files.opened c.read_file.new.files) c.args.name.now
    ends.ReadFault c.in-Err-Failed.ensures.opened_err tt

pub returns-in-Err-WantOfMemory-clause-opened : goal.returns-in-Err-WantOfMemory-clause-opened
returns-in-Err-WantOfMemory-clause-opened g c =
    conf_fault (g.F.Files.opened c.args.files.now) (g.F.Files.opened c.read_file.new.files) c.args.name.now
    ends.WantOfMemory c.in-Err-WantOfMemory.ensures.opened_err tt

pub returns-clause-opened : goal.returns-clause-opened
returns-clause-opened g c =
    let old = g.F.Files.opened c.args.files.now in
    let new = g.F.Files.opened c.read_file.new.files in
    conf_opened old new c.args.name.now c.in-Ok-Some.text c.judge_text.result
    (subst (ReadsOpening 1048576 old new c.args.name.now) c.in-Ok-Some.field-0-is c.in-Ok-Some.ensures.opened_list)
    (subst (λ b. Comes c.judge_text.result (conf_read (conf_result b))) c.as_bytes.ensures.value
    c.judge_text.ensures.comes)
