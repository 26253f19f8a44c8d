use Rattle.std.proofs.Common.{◌≡◌, true, drop}
use Rattle.std.specs.List.{list_all}
use Rattle.sq_eval.specs.Takings.{fact_taken}
use Rattle.sq_forward.specs.Standings.{settled}
use Rattle.sq_forward.specs.declared.standing.Standing.TheVariants.{Unnamed}
use Rattle.sq_rules.specs.Configurations.{is_header}
use Rattle.sq_rules.specs.Verdicts.{rules_for}
use Rattle.sq_forward.proofs.allowing.standing_of.Given as goal

-- the rules so far have come to where the rest goes on
abbrev pub invariant-loop-rule : goal.invariant-loop-rule
invariant-loop-rule l = record {
  goes : settled (fact_taken l.facts) l.config.acls l.standing
      (rules_for l.reply l.name (drop l.rule-index l.config.headers))
      ≡ settled (fact_taken l.facts) l.config.acls Unnamed (rules_for l.reply l.name l.config.headers);
  are : list_all (is_header l.config.acls) (drop l.rule-index l.config.headers) ≡ true;
}
