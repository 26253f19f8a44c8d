use Rattle.std.proofs.Common.{◌≡◌, ◌<◌, ◌∙◌, sym, ap, Some, arith}
use Rattle.sq_machine.specs.Freshness.{ttl_of}
use Rattle.sq_machine.specs.KeptLists.{keep}
use Rattle.sq_machine.specs.declared.kept.CachedReply.{CachedReply}
use Rattle.sq_cache.specs.Keeping.{keeping_of}
use Rattle.sq_cache.proofs.KeepLaws.{put_keeps}
use Rattle.sq_cache.proofs.kept.Kept.put.Goals as goal

pub returns-clause-ok : goal.returns-clause-ok
returns-clause-ok c =
    let v : CachedReply = record { what = c.args.what; question = c.args.question; date = c.args.date } in
    let old : keeping_of (Some c.in-Some.cache) ≡ c.args.self.now = ap keeping_of (sym c.in-Some.is) ∙ c.self.view_is in
    let some : 0 < ttl_of c.args.class.now c.args.what = grind (arith, c.ttl_of.ensures, c.if-ttl_of-eq0.false) in
    ap (λ d. d.entries) c.in_ok-_was.ensures.entries
    ∙ put_keeps c.in-Some.cache c.args.class.now c.args.key v c.len-len.ensures.valid some
    ∙ ap (λ k. keep k.limit c.args.class.now c.args.key v k.verdicts) old
