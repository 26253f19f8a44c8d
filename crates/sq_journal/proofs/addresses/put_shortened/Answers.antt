use Rattle.std.proofs.Common.{◌+◌, ◌++◌, codes, take, drop, ap, ◌∙◌}
use Rattle.std.proofs.lemmas.List.{drop-drop}
use Rattle.std.specs.Net.Text.{groups_text}
use Rattle.sq_journal.proofs.AddressPutLaws.{shortened}
use Rattle.sq_journal.proofs.PutSameLaws.{puts_as}
use Rattle.sq_journal.proofs.addresses.put_shortened.Goals as goal

pub returns : goal.returns
returns g c =
    let run = c.longest_zero_run-start.result in
    let groups = c.args.groups.now in
    let head = c.split_at.ensures.front in
    let tail = c.split_at-2.ensures.back ∙ ap (drop run.1) c.split_at.ensures.back ∙ drop-drop run.1 run.0 groups in
    puts_as _ _ _ _ _ _ _
    (ap (λ l. groups_text l ++ (codes "::" ++ groups_text c.split_at-2.result.1.now)) head
    ∙ ap (λ l. groups_text (take run.0 groups) ++ (codes "::" ++ groups_text l)) tail
    ∙ shortened groups run c.longest_zero_run-start.ensures.value c.if-len-le1.false)
    c.put_parts.ensures
