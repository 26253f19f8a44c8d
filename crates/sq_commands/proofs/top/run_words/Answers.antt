use Rattle.std.proofs.Common.{◌≡◌, Some, subst, sym}
use Rattle.sq_outside.specs.Told.{IsNotTold}
use Rattle.sq_commands.specs.Commands.{IsNamed, Rehearse, Replay, Verify, command_of, shown_command}
use Rattle.sq_commands.specs.Ends.{IfMissing}
use Rattle.sq_commands.proofs.MissingLaws.{replay_missing}
use Rattle.sq_commands.proofs.RehearseLaws.{rehearse_missing, rehearse_opened, rehearse_told, rehearse_usage}
use Rattle.sq_commands.proofs.VerifyLaws.{verify_missing}
use Rattle.sq_commands.proofs.top.run_words.Goals as goal

pub returns-in-Some-Replay-clause-missing : goal.returns-in-Some-Replay-clause-missing
returns-in-Some-Replay-clause-missing g c =
    let texts = g.F.Files.texts c.args.files.now in
    let is : command_of c.args.words.now ≡ Some (Replay c.in-Some-Replay.conf.now c.in-Some-Replay.script.now) =
    subst (λ x. command_of c.args.words.now ≡ Some (shown_command x)) c.in-Some-Replay.field-0-is
    c.in-Some-Replay.ensures in
    subst (λ o. IfMissing c.replay.result (λ name. IsNamed texts o name × IsNotTold texts name)) (sym is)
    (replay_missing texts (g.O.Sink.contents c.args.out.now) (g.O.Sink.contents c.replay.new.out)
    (g.O.Sink.faults c.args.out.now) (g.O.Sink.faults c.replay.new.out)
    c.in-Some-Replay.conf.now c.in-Some-Replay.script.now c.replay.result c.replay.ensures.delivers
    c.replay.ensures.end)

pub returns-in-Some-Verify-clause-missing : goal.returns-in-Some-Verify-clause-missing
returns-in-Some-Verify-clause-missing g c =
    let texts = g.F.Files.texts c.args.files.now in
    let is : command_of c.args.words.now ≡ Some (Verify c.in-Some-Verify.conf.now c.in-Some-Verify.journal.now) =
    subst (λ x. command_of c.args.words.now ≡ Some (shown_command x)) c.in-Some-Verify.field-0-is
    c.in-Some-Verify.ensures in
    subst (λ o. IfMissing c.verify.result (λ name. IsNamed texts o name × IsNotTold texts name)) (sym is)
    (verify_missing texts c.in-Some-Verify.conf.now c.in-Some-Verify.journal.now c.verify.result c.verify.ensures.end)

pub returns-in-Some-Rehearse-clause-delivers : goal.returns-in-Some-Rehearse-clause-delivers
returns-in-Some-Rehearse-clause-delivers g c =
    let is : command_of c.args.words.now ≡ Some (Rehearse c.in-Some-Rehearse.count) =
    subst (λ x. command_of c.args.words.now ≡ Some (shown_command x)) c.in-Some-Rehearse.field-0-is
    c.in-Some-Rehearse.ensures in
    rehearse_told (g.F.Files.texts c.args.files.now) (g.O.Sink.contents c.args.out.now)
    (g.O.Sink.contents c.rehearse.new.out) (g.O.Sink.faults c.args.out.now) (g.O.Sink.faults c.rehearse.new.out)
    c.args.words.now c.in-Some-Rehearse.count c.rehearse.result is c.rehearse.ensures.delivers

pub returns-in-Some-Rehearse-clause-opened : goal.returns-in-Some-Rehearse-clause-opened
returns-in-Some-Rehearse-clause-opened g c =
    let is : command_of c.args.words.now ≡ Some (Rehearse c.in-Some-Rehearse.count) =
    subst (λ x. command_of c.args.words.now ≡ Some (shown_command x)) c.in-Some-Rehearse.field-0-is
    c.in-Some-Rehearse.ensures in
    rehearse_opened (g.F.Files.opened c.args.files.now) (g.O.Sink.contents c.args.out.now)
    (g.O.Sink.contents c.rehearse.new.out) (g.O.Sink.faults c.args.out.now) (g.O.Sink.faults c.rehearse.new.out)
    c.args.words.now c.in-Some-Rehearse.count c.rehearse.result is c.rehearse.ensures.delivers

pub returns-in-Some-Rehearse-clause-usage : goal.returns-in-Some-Rehearse-clause-usage
returns-in-Some-Rehearse-clause-usage g c =
    let is : command_of c.args.words.now ≡ Some (Rehearse c.in-Some-Rehearse.count) =
    subst (λ x. command_of c.args.words.now ≡ Some (shown_command x)) c.in-Some-Rehearse.field-0-is
    c.in-Some-Rehearse.ensures in
    rehearse_usage c.args.words.now c.in-Some-Rehearse.count c.rehearse.result is c.rehearse.ensures.end

pub returns-in-Some-Rehearse-clause-missing : goal.returns-in-Some-Rehearse-clause-missing
returns-in-Some-Rehearse-clause-missing g c =
    let texts = g.F.Files.texts c.args.files.now in
    rehearse_missing (λ name. IsNamed texts (command_of c.args.words.now) name × IsNotTold texts name) c.rehearse.result
    c.rehearse.ensures.end

pub returns-in-Some-Rehearse-clause-causes : goal.returns-in-Some-Rehearse-clause-causes
returns-in-Some-Rehearse-clause-causes g c = c.rehearse.ensures.causes (g.F.Files.faults c.args.files.now)
