use Rattle.std.proofs.Common.{◌≡◌, drop}
use Rattle.std.specs.List.{list_all}
use Rattle.sq_rules.specs.Drafts.{is_fast}
use Rattle.sq_conf.proofs.pools.are_fast_headers.Given as goal

abbrev pub invariant-loop-header : goal.invariant-loop-header
invariant-loop-header l = list_all (λ h. is_fast l.slow h.rule) (drop l.header-index l.headers)
    ≡ list_all (λ h. is_fast l.slow h.rule) l.headers
