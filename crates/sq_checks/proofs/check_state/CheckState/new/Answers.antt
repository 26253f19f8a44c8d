use Rattle.std.proofs.Common.{◌≡◌, ◌∙◌, ap, sym, refl}
use Rattle.std.specs.Arc.{arc_value}
use Rattle.sq_rules.specs.Facts.{facts_of}
use Rattle.sq_rules.specs.Verdicts.{pool_of}
use Rattle.sq_checks.proofs.FrameLaws.{none_looked}
use Rattle.sq_checks.specs.Standing.{looks_in}
use Rattle.sq_checks.proofs.CheckLaws.{begun_is}
use Rattle.sq_checks.proofs.GivenLaws.{frames_first}
use Rattle.sq_checks.proofs.check_state.CheckState.new.Goals as goal

pub invariant_of-new : goal.invariant_of-new
invariant_of-new c =
    let config : arc_value c.in_ok-config.config ≡ arc_value c.args.slots.now = c.in_ok-config.ensures
    ∙ c.config.ensures ∙ c.deref.ensures in
    let second : c.deref-2.result.now ≡ arc_value c.args.slots.now = c.deref-2.ensures ∙ config in
    let facts : c.args.facts ≡ facts_of c.deref-2.result.now.acls c.args.sight = c.requires
    ∙ ap (λ d. facts_of d.acls c.args.sight) (sym second) in
    let pool : c.pool_of-pool.result ≡ pool_of c.deref-2.result.now c.args.sight =
    c.pool_of-pool.ensures c.args.sight facts refl in
    let f = c.in_ok-frames.frames in
    record {
      facts_are = c.requires ∙ ap (λ d. facts_of d.acls c.args.sight) (sym config);
      pool_is = pool ∙ ap (λ d. pool_of d c.args.sight) c.deref-2.ensures;
      stage_is = tt;
      looks_are = tt;
      frames_are = frames_first (arc_value c.in_ok-config.config) c.args.sight c.new.result c.args.facts f
          (c.in_ok-frames.ensures.config ∙ sym config) (0, c.in_ok-frames.ensures.at c.args.facts)
          c.in_ok-frames.ensures.given;
      asks_are = tt;
    }

pub returns-in-Ok : goal.returns-in-Ok
returns-in-Ok c =
    let config : arc_value c.in_ok-config.config ≡ arc_value c.args.slots.now = c.in_ok-config.ensures
    ∙ c.config.ensures ∙ c.deref.ensures in
    let second : c.deref-2.result.now ≡ arc_value c.args.slots.now = c.deref-2.ensures ∙ config in
    let facts : c.args.facts ≡ facts_of c.deref-2.result.now.acls c.args.sight = c.requires
    ∙ ap (λ d. facts_of d.acls c.args.sight) (sym second) in
    let pool : c.pool_of-pool.result ≡ pool_of c.deref-2.result.now c.args.sight =
    c.pool_of-pool.ensures c.args.sight facts refl in
    let f = c.in_ok-frames.frames in
    let first : looks_in f ≡ 0 = none_looked c.args.facts f (c.in_ok-frames.ensures.at c.args.facts) in
    c.in-Ok.ensures.ok
    ∙ begun_is c.args.conn c.args.epoch (arc_value c.in_ok-config.config) (arc_value c.args.slots.now) c.args.sight
    c.pool_of-pool.result c.new.result (looks_in f) config
    (pool ∙ ap (λ d. pool_of d c.args.sight) second) c.new.ensures first
