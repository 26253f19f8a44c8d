use Rattle.std.proofs.Common.{◌∙◌, subst}
use Rattle.std.specs.Io.KnownBytes.{Appends}
use Rattle.sq_outside.specs.Output.{Grew, IsProperPrefix}
use Rattle.sq_outside.proofs.Writing.{OnErr_given, OnErr_map}
use Rattle.sq_keeper.proofs.QuestionLaws.{failed_in_number, failed_behind}
use Rattle.sq_keeper.proofs.questions.write_question.Goals as goal

pub returns-in_err-write_all-clause-err : goal.returns-in_err-write_all-clause-err
returns-in_err-write_all-clause-err g c =
    let a = g.O.Sink.contents c.args.to.now in
    let b = g.O.Sink.contents c.write_all.new.out in
    OnErr_given c.from_residual.result
    (failed_in_number a b c.in-Some.number c.args.channel c.args.text.now c.in-Some.is
    (subst (λ w. Grew a b (λ part. IsProperPrefix part w)) (c.as_bytes.ensures.value ∙ c.format.ensures.text)
    c.in_err-write_all.ensures.short))

pub returns-clause-err : goal.returns-clause-err
returns-clause-err g c =
    let a = g.O.Sink.contents c.args.to.now in
    let b = g.O.Sink.contents c.write_all.new.out in
    OnErr_map c.write_line-2.result
    (failed_behind a b (g.O.Sink.contents c.write_line-2.new.out) c.in-Some.number c.args.channel c.args.text.now
    c.in-Some.is
    (subst (λ w. Appends a b w) (c.as_bytes.ensures.value ∙ c.format.ensures.text) c.in_ok-write_all.ensures.ok))
    c.write_line-2.ensures.short
