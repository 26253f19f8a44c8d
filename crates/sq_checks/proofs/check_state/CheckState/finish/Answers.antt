use Rattle.std.proofs.Common.{◌≡◌, ◌∙◌, sym, subst, true}
use Rattle.std.specs.Arc.{arc_value}
use Rattle.sq_rules.proofs.SightLaws.{over_unversioned}
use Rattle.sq_rules.specs.declared.values.Value.TheVariants as value
use Rattle.sq_checks.specs.Standing.{looks_in}
use Rattle.sq_checks.specs.OpenChecks.{CheckParts, HasCome}
use Rattle.sq_checks.specs.Stages.{is_settled}
use Rattle.sq_checks.proofs.CheckLaws.{comes_settled}
use Rattle.sq_checks.proofs.check_state.CheckState.finish.Goals as goal

pub invariant_of-self : goal.invariant_of-self
invariant_of-self c =
    let k = c.self.inside in
    let x : CheckParts = record {
      conn = k.conn;
      epoch = k.epoch;
      config = arc_value k.config;
      sight = k.sight;
      pool = k.pool;
      answers = k.answers;
      stage = k.stage;
      looks = looks_in k.frames;
      steps = k.steps;
    } in
    let come : HasCome x (value.Verdict c.args.outcome) =
    subst (λ (y : CheckParts). HasCome y (value.Verdict c.args.outcome)) (sym c.self.view_is) c.requires.verdict in
    let settled : is_settled x.stage ≡ true =
    subst (λ (y : CheckParts). is_settled y.stage ≡ true) (sym c.self.view_is) c.requires.settled in
    record {
      facts_are = c.self.invariant.facts_are;
      pool_is = c.self.invariant.pool_is;
      stage_is = over_unversioned x.answers x.config x.sight ∙ comes_settled x settled ∙ sym come.comes;
      looks_are = come.looks;
      frames_are = c.self.invariant.frames_are;
      asks_are = tt;
    }
