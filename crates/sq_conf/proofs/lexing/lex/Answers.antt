use Rattle.std.proofs.Common.{◌≡◌, ◌∙◌, subst, IfOk, length, ap, arith}
use Rattle.sq_base.specs.Lines.{joined, lexed_lines, lexed, file_lines}
use Rattle.sq_base.specs.declared.config_lines.Lexed.{Lexed}
use Rattle.sq_conf.proofs.BareLaws.{bare_by}
use Rattle.sq_conf.proofs.LineLaws.{file_lines_count}
use Rattle.sq_conf.proofs.lexing.lex.Goals as goal

pub join-requires : goal.join-requires
join-requires c = omega (
  arith,
  file_lines_count c.args.text.now,
  ap length c.as_slice.ensures,
  ap length c.in_ok-lines.ensures.lines,
)

pub returns-clause-ok : goal.returns-clause-ok
unfolding lexed
returns-clause-ok c =
    let lines : c.as_slice.result.now ≡ file_lines c.args.text.now = c.as_slice.ensures ∙ c.in_ok-lines.ensures.lines in
    let text : c.as_slice-2.result.now ≡ joined 1 (file_lines c.args.text.now) = c.as_slice-2.ensures
    ∙ c.in_ok-joined.ensures ∙ ap (joined 1) lines in
    subst (λ (x : Lexed). IfOk c.lex_joined.result (λ l. l ≡ x)) (ap lexed_lines text) c.lex_joined.ensures

pub returns-clause-bare : goal.returns-clause-bare
unfolding lexed
returns-clause-bare c =
    let lines : c.as_slice.result.now ≡ file_lines c.args.text.now = c.as_slice.ensures ∙ c.in_ok-lines.ensures.lines in
    let text : c.as_slice-2.result.now ≡ joined 1 (file_lines c.args.text.now) = c.as_slice-2.ensures
    ∙ c.in_ok-joined.ensures ∙ ap (joined 1) lines in
    bare_by c.lex_joined.result c.args.text.now
    (subst (λ (x : Lexed). IfOk c.lex_joined.result (λ l. l ≡ x)) (ap lexed_lines text) c.lex_joined.ensures)
