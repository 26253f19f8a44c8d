use Rattle.std.proofs.Common.{◌≡◌, refl, ap, subst, ◌∙◌, arith}
use Rattle.std.specs.Io.KnownBytes.{Appends}
use Rattle.std.proofs.KnownBytes.{Appends-trans}
use Rattle.sq_forward.specs.Meters.{granted_after}
use Rattle.sq_forward.proofs.PayLaws.{granted_more, take_more, failed_part, gives_most, dry_reset}
use Rattle.sq_forward.proofs.paying.pay_by_grants.Goals as goal

pub loop-at-preserved : goal.loop-at-preserved
loop-at-preserved g c =
    let inv = c.loop-at.invariant in
    let contents = g.O.Sink.contents in
    let seated = g.M.Meter.seated c.args.meter.now in
    let start = g.M.Meter.granted c.args.meter.now in
    let at = c.loop-at.at in
    let n = c.grant-count.result in
    let bytes = c.args.bytes.now in
    let most = gives_most (g.M.Meter.seated c.loop-at.meter) c.min-wanted.result n c.grant-count.ensures.gives in
    let fresh : g.M.Meter.dry c.grant-count.new.self ≡ 0 = c.grant-count.ensures.dry
    ∙ dry_reset n (g.M.Meter.dry c.loop-at.meter) c.if-count-eq0.false in
    record {
      within = omega (arith, most, c.min-wanted.ensures, c.split_at.ensures.back_len, inv.within);
      wrote =
          subst (Appends (contents c.args.to.now) (contents c.write_all.new.out))
          (take_more at n bytes c.split_at.result.1.now c.split_at-else-count-eq0.result.0.now c.split_at.ensures.back
          c.split_at-else-count-eq0.ensures.front)
          (Appends-trans (contents c.args.to.now) (contents c.loop-at.to) (contents c.write_all.new.out) _ _ inv.wrote
          c.in-Ok.ensures.ok);
      counted = fresh;
      few = omega arith;
      rested = λ _. refl;
      seated = c.grant-count.ensures.seated ∙ inv.seated;
      besides = c.grant-count.ensures.besides ∙ inv.besides;
      granted =
          c.grant-count.ensures.granted ∙ ap (λ s. granted_after s (g.M.Meter.granted c.loop-at.meter) n) inv.seated
          ∙ ap (λ b. granted_after seated b n) inv.granted ∙ granted_more seated start at n;
      later = omega (arith, inv.later, c.in-Ok.ensures.cause);
    }

pub returns-in-Err-clause-failed : goal.returns-in-Err-clause-failed
returns-in-Err-clause-failed g c = λ _.
    let inv = c.loop-at.invariant in
    let contents = g.O.Sink.contents in
    let seated = g.M.Meter.seated c.args.meter.now in
    let start = g.M.Meter.granted c.args.meter.now in
    let at = c.loop-at.at in
    let n = c.grant-count.result in
    let most = gives_most (g.M.Meter.seated c.loop-at.meter) c.min-wanted.result n c.grant-count.ensures.gives in
    failed_part seated c.args.bytes.now c.split_at.result.1.now c.split_at-else-count-eq0.result.0.now
    (contents c.args.to.now) (contents c.loop-at.to) (contents c.write_all.new.out) start
    (g.M.Meter.granted c.grant-count.new.self) at n
    inv.within c.split_at.ensures.back c.split_at-else-count-eq0.ensures.front
    (omega (arith, most, c.min-wanted.ensures)) c.split_at-else-count-eq0.ensures.front_len
    inv.wrote c.in-Err.ensures.err
    (c.grant-count.ensures.granted ∙ ap (λ s. granted_after s (g.M.Meter.granted c.loop-at.meter) n) inv.seated
    ∙ ap (λ b. granted_after seated b n) inv.granted ∙ granted_more seated start at n)
