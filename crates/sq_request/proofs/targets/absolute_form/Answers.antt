use Rattle.std.proofs.Common.{◌∙◌, sym, ap, take, drop}
use Rattle.sq_request.proofs.TargetLaws.{cut_at_colon}
use Rattle.sq_request.proofs.targets.absolute_form.Goals as goal

pub returns : goal.returns
returns c =
    let text = c.args.text.now in
    c.with_colon.ensures
    ∙ cut_at_colon text c.split_at.result.0.now c.split_at.result.1.now c.behind_first.result.now
    (sym c.are_target_bytes.ensures ∙ c.if-not-are_target_bytes.false)
    (c.split_at.ensures.front ∙ ap (λ n. take n text) c.scheme_len.ensures.value)
    (c.split_at.ensures.back ∙ ap (λ n. drop n text) c.scheme_len.ensures.value) c.behind_first.ensures
