-- What a rule decides that asks no helper does not hang on what is taken of external acls.
use Rattle.std.proofs.Common.{◌≡◌, ℕ, List, [], ◌∷◌, length, Bool, true, ◌&&◌, refl, sym, ap, ◌∙◌}
use Rattle.std.specs.Prelude.{unwrap_or}
use Rattle.sq_rules.proofs.ValueLaws.{AgreeOnLeaves, fast_rules}
use Rattle.sq_rules.specs.Configurations.{Configuration, are_known_bodies, is_fast_rule, is_leaf_body}
use Rattle.sq_rules.specs.Values.{rule_value}
use Rattle.sq_rules.specs.Verdicts.{decided, outcome_so_far}
use Rattle.sq_rules.specs.declared.configs.Acl.{Acl}
use Rattle.sq_rules.specs.declared.configs.Body.{Body}
use Rattle.sq_rules.specs.declared.configs.Body.TheVariants as body
use Rattle.sq_rules.specs.declared.configs.Rule.{Rule}
use Rattle.sq_rules.specs.declared.values.TermValue.{TermValue}
use Rattle.sq_rules.specs.declared.values.TermValue.TheVariants.{Hit, Miss, Fault, Need}
use Rattle.sq_rules.specs.declared.values.Value.{Value}
use Rattle.sq_rules.specs.declared.values.Value.TheVariants as value
use Rattle.sq_eval.specs.Rans.{shown_as}
use Rattle.sq_eval.specs.Takings as by
use Rattle.sq_eval.specs.declared.taking.Helpers.TheVariants as helpers

alone : (a : Bool) → a ≡ true → (a && true) ≡ true
alone a e = rw e refl

leaf_read : (c : Configuration) (facts : List Bool) (p : ℕ) (b : Body) → is_leaf_body b ≡ true
    → by.read_of_body c facts helpers.Nobody p b ≡ by.fact_taken facts p
leaf_read c facts p (body.Leaf l) leaf = refl
leaf_read c facts p (body.External class arguments) leaf = absurd (cc)
leaf_read c facts p (body.AnyOf terms) leaf = absurd (cc)
leaf_read c facts p (body.AllOf lines) leaf = absurd (cc)

-- of leaf acls the facts are taken
leaves_read : (c : Configuration) (facts : List Bool)
    → AgreeOnLeaves c.acls (by.taken_by c facts helpers.Nobody) (by.fact_taken facts)
leaves_read c facts p a here leaf =
    ap (by.read_of_acl c facts helpers.Nobody p) here ∙ leaf_read c facts p a.body leaf

-- of what rules come to behind one, only whether it allows counts
only_allow : (acls : List Acl) (number : ℕ) (r : Rule) (v : TermValue) (rest : Value)
    → (outcome_so_far (decided acls number r v rest)).allow
    ≡ (outcome_so_far (decided acls number r v (value.Verdict (outcome_so_far rest)))).allow
only_allow acls number r Hit rest = refl
only_allow acls number r Miss rest = refl
only_allow acls number r (Fault acl cause) rest = refl
only_allow acls number r (Need acl key) rest = refl

shown_is : (acls : List Acl) (number : ℕ) (r : Rule) (v : TermValue) (rest : Value)
    → (outcome_so_far (decided acls number r v rest)).allow ≡ unwrap_or (shown_as r v) (outcome_so_far rest).allow
shown_is acls number r Hit rest = refl
shown_is acls number r Miss rest = refl
shown_is acls number r (Fault acl cause) rest = refl
shown_is acls number r (Need acl key) rest = refl

-- what a rule decides where nobody is asked is what it decides over the facts
pub decides : (c : Configuration) (facts : List Bool) (r : Rule) → are_known_bodies (length c.classes) 0 c.acls ≡ true
    → is_fast_rule c.acls r ≡ true → (number : ℕ) (rest : Value)
    → (outcome_so_far (decided c.acls number r (rule_value (by.fact_taken facts) c.acls r) rest)).allow
    ≡ unwrap_or (shown_as r (rule_value (by.taken_by c facts helpers.Nobody) c.acls r)) (outcome_so_far rest).allow
decides c facts r known fast number rest =
    let asked = by.taken_by c facts helpers.Nobody in
    only_allow c.acls number r (rule_value (by.fact_taken facts) c.acls r) rest
    ∙ ap (λ v. (outcome_so_far v).allow)
    (sym (fast_rules asked (by.fact_taken facts) (length c.classes) c.acls known (leaves_read c facts)
    (outcome_so_far rest) number (r ∷ []) (alone (is_fast_rule c.acls r) fast)))
    ∙ sym (only_allow c.acls number r (rule_value asked c.acls r) rest)
    ∙ shown_is c.acls number r (rule_value asked c.acls r) rest
