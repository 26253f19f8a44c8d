use Rattle.std.proofs.Common.{◌≡◌, ◌∙◌, ◌≤◌, ℕ, ap, sym, subst, true}
use Rattle.std.specs.Arc.{arc_value}
use Rattle.sq_rules.specs.Configurations.{Configuration}
use Rattle.sq_rules.specs.Verdicts.{verdict_over}
use Rattle.sq_checks.specs.Standing.{looks_in}
use Rattle.sq_checks.specs.Givens.{AreFrames, leaves_over, looks_over}
use Rattle.sq_checks.specs.OpenChecks.{CheckParts, HasCome, comes_to}
use Rattle.sq_checks.specs.Stages.{is_settled}
use Rattle.sq_checks.proofs.CheckLaws.{comes_settled, looked_on, need_idle, ok_then_both}
use Rattle.sq_checks.proofs.GivenLaws.{frames_few}
use Rattle.sq_checks.proofs.NeedLaws.{need_is_keyed, need_is_new}
use Rattle.sq_checks.proofs.check_state.CheckState.come_to.Goals as goal

pub invariant_of-self : goal.invariant_of-self
invariant_of-self g c =
    let k = c.self.inside in
    let f = c.come_to.new.frames in
    let are : AreFrames (arc_value k.config) k.sight k.answers k.facts f =
    subst (λ (d : Configuration). AreFrames d k.sight k.answers k.facts f) c.deref.ensures c.come_to.ensures.frames in
    let few : looks_in f ≤ leaves_over k.answers (arc_value k.config) k.sight =
    frames_few (arc_value k.config) k.sight k.answers k.facts f c.self.invariant.facts_are are in
    let counted = c.come_to.ensures.counted in
    record {
      facts_are = c.self.invariant.facts_are;
      pool_is = c.self.invariant.pool_is;
      stage_is = c.self.invariant.stage_is;
      looks_are = looked_on (arc_value k.config) k.sight k.answers (looks_in k.frames) (looks_in f) k.stage
          c.self.invariant.looks_are counted.looked counted.looks few;
      frames_are = are;
      asks_are = c.self.invariant.asks_are;
    }

pub returns-clause-same : goal.returns-clause-same
returns-clause-same g c =
    let k = c.self.inside in
    let x : ℕ → CheckParts = λ looks. record {
      conn = k.conn;
      epoch = k.epoch;
      config = arc_value k.config;
      sight = k.sight;
      pool = k.pool;
      answers = k.answers;
      stage = k.stage;
      looks = looks;
      steps = k.steps;
    } in
    let counted = c.come_to.ensures.counted in
    let most : counted.looked ≤ leaves_over k.answers (arc_value k.config) k.sight =
    subst (λ (d : Configuration). counted.looked ≤ leaves_over k.answers d k.sight) c.deref.ensures counted.few in
    let few = subst (λ (y : CheckParts). counted.looked ≤ leaves_over y.answers y.config y.sight) c.self.view_is most in
    (counted.looked, few, counted.steps, rw (← c.self.view_is) (ap x counted.looks))

pub returns-clause-come : goal.returns-clause-come
returns-clause-come g c =
    let k = c.self.inside in
    let x : CheckParts = record {
      conn = k.conn;
      epoch = k.epoch;
      config = arc_value k.config;
      sight = k.sight;
      pool = k.pool;
      answers = k.answers;
      stage = k.stage;
      looks = looks_in c.come_to.new.frames;
      steps = k.steps;
    } in
    let settled : is_settled k.stage ≡ true = rw (← c.self.view_is) at c.requires in
    let over : verdict_over k.answers c.deref.result.now k.sight ≡ comes_to x =
    ap (λ d. verdict_over k.answers d k.sight) c.deref.ensures ∙ comes_settled x settled in
    let same : looks_over k.answers c.deref.result.now k.sight ≡ looks_over k.answers (arc_value k.config) k.sight =
    ap (λ d. looks_over k.answers d k.sight) c.deref.ensures in
    ok_then_both c.come_to.result (λ v. v ≡ verdict_over k.answers c.deref.result.now k.sight)
    (λ v. looks_in c.come_to.new.frames ≡ looks_over k.answers c.deref.result.now k.sight) (HasCome x)
    (λ v is looks. record {
      comes = is ∙ over;
      looks = looks ∙ same;
      idle = need_idle x settled c.self.invariant.stage_is v (is ∙ over);
      other = λ acl class key e of. need_is_new k.answers x.config k.sight acl class key
          (comes_settled x settled ∙ sym (is ∙ over) ∙ e) of;
      keyed = λ acl key e. need_is_keyed k.answers x.config k.sight acl key
          (comes_settled x settled ∙ sym (is ∙ over) ∙ e);
    }) c.come_to.ensures.value c.come_to.ensures.looks
