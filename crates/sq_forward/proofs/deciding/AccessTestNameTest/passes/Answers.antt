use Rattle.std.proofs.Common.{sym}
use Rattle.std.specs.Cmp.Lexicographic.{same_text}
use Rattle.std.specs.Str.{str_to_ascii_lowercase}
use Rattle.sq_forward.proofs.AccessLaws.{allowed_alike}
use Rattle.sq_forward.specs.Access.{allowed_by}
use Rattle.sq_forward.proofs.deciding.AccessTestNameTest.passes.Goals as goal

pub returns-in-Some : goal.returns-in-Some
returns-in-Some c =
    let test = c.args.self.now in
    c.in-Some.ensures (allowed_by test.config.now test.facts.now test.reply) c.requires.1
    (λ other is. allowed_alike test.config.now test.facts.now test.reply other c.args.name.now
    (same_text (str_to_ascii_lowercase other) (str_to_ascii_lowercase c.args.name.now) (sym is)))
