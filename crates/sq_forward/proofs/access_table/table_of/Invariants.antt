use Rattle.std.proofs.Common.{◌≡◌, true, drop}
use Rattle.std.specs.List.{list_all}
use Rattle.sq_eval.specs.Takings.{fact_taken}
use Rattle.sq_forward.specs.Standings.{AreStandings}
use Rattle.sq_rules.specs.Configurations.{is_header, is_lower}
use Rattle.sq_forward.proofs.access_table.table_of.Given as goal

-- the rules so far have come to where the rest goes on
abbrev pub invariant-loop-rule : goal.invariant-loop-rule
invariant-loop-rule l = record {
  goes : AreStandings (fact_taken l.facts) l.config.acls l.reply l.config.headers (drop l.rule-index l.config.headers)
      l.table;
  are : list_all (is_header l.config.acls) (drop l.rule-index l.config.headers) ≡ true;
  lower : list_all is_lower (drop l.rule-index l.config.headers) ≡ true;
}
