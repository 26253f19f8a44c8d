use Rattle.std.proofs.Common.{subst, sym}
use Rattle.std.specs.List.Sorted.{IsNonDecreasingBy}
use Rattle.sq_urlmatch.proofs.MergeLaws.{whole_again}
use Rattle.sq_urlmatch.specs.declared.spans.Span.{Span}
use Rattle.sq_urlmatch.proofs.spans.apart.Goals as goal

pub apart_from-requires : goal.apart_from-requires
apart_from-requires c =
    subst (λ l. IsNonDecreasingBy (λ (s : Span). s.first) l)
    (sym (whole_again c.args.spans.now (record { first = 0; last = 0 }) c.in-len1-up.len_at_least)) c.requires
