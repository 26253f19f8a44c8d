use Rattle.std.proofs.Common.{◌≡◌, rules, subst}
use Rattle.sq_outside.specs.Output.{Grew, IsProperPrefix}
use Rattle.sq_commands.specs.declared.ends.Status.TheVariants as ends
use Rattle.sq_commands.specs.ParseText.{parse_text}
use Rattle.sq_commands.proofs.OpenedLaws.{parse_opened, parse_told}
use Rattle.sq_commands.proofs.top.parse.Goals as goal

pub returns-clause-delivers : goal.returns-clause-delivers
returns-clause-delivers g c =
    let a = g.O.Sink.contents c.args.out.now in
    let b = g.O.Sink.contents c.write_all.new.out in
    let text : c.as_bytes.result.now ≡ parse_text c.in-Ok.setup = search rules in
    parse_told (g.F.Files.texts c.args.files.now) a b (g.O.Sink.faults c.args.out.now)
    (g.O.Sink.faults c.write_all.new.out) c.args.conf.now c.in-Ok.setup ends.WriteFault
    c.in-Ok.ensures.comes (subst (λ t. Grew a b (λ part. IsProperPrefix part t)) text c.in-Err-write_all.ensures.short)

pub returns-clause-opened : goal.returns-clause-opened
returns-clause-opened g c =
    let a = g.O.Sink.contents c.args.out.now in
    let b = g.O.Sink.contents c.write_all.new.out in
    let text : c.as_bytes.result.now ≡ parse_text c.in-Ok.setup = search rules in
    parse_opened (g.F.Files.opened c.args.files.now) (g.F.Files.opened c.open_conf.new.files) a b
    (g.O.Sink.faults c.args.out.now) (g.O.Sink.faults c.write_all.new.out)
    c.args.conf.now c.in-Ok.setup ends.WriteFault c.in-Ok.ensures.opened
    (subst (λ t. Grew a b (λ part. IsProperPrefix part t)) text c.in-Err-write_all.ensures.short)
