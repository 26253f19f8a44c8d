-- What rules come to, one after the other.
use Rattle.std.proofs.Common.{◌≡◌, ℕ, ◌+◌, List, [], ◌∷◌, Bool, true, false, ◌&&◌, not, codes, refl}
use Rattle.std.specs.Prelude.{unwrap_or}
use Rattle.std.specs.Str.{str_eq_ignore_ascii_case}
use Rattle.sq_eval.specs.Takings.{fact_taken}
use Rattle.sq_forward.specs.Access.{allowed_by}
use Rattle.sq_forward.specs.Standings.{comes_to, others_allowed, settled, so}
use Rattle.sq_forward.specs.declared.standing.Standing.TheVariants.{Unnamed}
use Rattle.sq_rules.specs.Configurations.{Configuration}
use Rattle.sq_rules.specs.Values.{rule_value}
use Rattle.sq_rules.specs.Verdicts.{decided, default_of, field_allowed, is_same_way, or_for_all, outcome_so_far, rules_for, rules_from}
use Rattle.sq_rules.specs.declared.configs.Acl.{Acl}
use Rattle.sq_rules.specs.declared.configs.Rule.{Rule}
use Rattle.sq_rules.specs.declared.headers.HeaderRule.{HeaderRule}
use Rattle.sq_rules.specs.declared.values.TermValue.{TermValue}
use Rattle.sq_rules.specs.declared.values.TermValue.TheVariants.{Hit, Miss, Fault, Need}
use Rattle.sq_rules.specs.declared.values.Value.{Value}
use Rattle.sq_rules.specs.declared.values.Value.TheVariants as value

-- whether it is allowed does not hang on numbers
only_allow : (acls : List Acl) (n m : ℕ) (r : Rule) (v : TermValue) (rest other : Value)
    → (outcome_so_far rest).allow ≡ (outcome_so_far other).allow
    → (outcome_so_far (decided acls n r v rest)).allow ≡ (outcome_so_far (decided acls m r v other)).allow
only_allow acls n m r Hit rest other e = refl
only_allow acls n m r Miss rest other e = e
only_allow acls n m r (Fault acl cause) rest other e = refl
only_allow acls n m r (Need acl key) rest other e = refl

rules_come : (taken : ℕ → TermValue) (acls : List Acl) (n : ℕ) (default : Bool) (r : Rule) (rules : List Rule)
    → (outcome_so_far (rules_from taken acls (default_of (r ∷ rules)) n (r ∷ rules))).allow
    ≡ comes_to taken acls default (r ∷ rules)
rules_come taken acls n default r [] =
    only_allow acls n 0 r (rule_value taken acls r) (value.Verdict (default_of (r ∷ []))) (so (not r.allow)) refl
rules_come taken acls n default r (q ∷ rules) =
    only_allow acls n 0 r (rule_value taken acls r)
    (rules_from taken acls (default_of (q ∷ rules)) (n + 1) (q ∷ rules))
    (so (comes_to taken acls (not r.allow) (q ∷ rules)))
    (rules_come taken acls (n + 1) (not r.allow) q rules)

allowed_settled : (taken : ℕ → TermValue) (acls : List Acl) (own all : List Rule)
    → field_allowed taken acls (or_for_all own all)
    ≡ unwrap_or (settled taken acls Unnamed own) (unwrap_or (settled taken acls Unnamed all) true)
allowed_settled taken acls [] [] = refl
allowed_settled taken acls [] (r ∷ all) = rules_come taken acls 1 true r all
allowed_settled taken acls (r ∷ own) all = rules_come taken acls 1 true r own

-- a field is allowed as the rules for its name come to, or else those for all fields
pub allowed_is : (c : Configuration) (facts : List Bool) (reply : Bool) (name : List ℕ)
    → allowed_by c facts reply name
    ≡ unwrap_or (settled (fact_taken facts) c.acls Unnamed (rules_for reply name c.headers))
    (others_allowed c facts reply)
allowed_is c facts reply name =
    allowed_settled (fact_taken facts) c.acls (rules_for reply name c.headers) (rules_for reply (codes "all") c.headers)

-- a rule for the name, and one that is not
pub own_rule : (reply : Bool) (name : List ℕ) (h : HeaderRule) (rest : List HeaderRule)
    → (is_same_way h.reply reply && str_eq_ignore_ascii_case h.name name) ≡ true
    → rules_for reply name (h ∷ rest) ≡ h.rule ∷ rules_for reply name rest
own_rule reply name h rest e = rw e refl

pub other_rule : (reply : Bool) (name : List ℕ) (h : HeaderRule) (rest : List HeaderRule)
    → (is_same_way h.reply reply && str_eq_ignore_ascii_case h.name name) ≡ false
    → rules_for reply name (h ∷ rest) ≡ rules_for reply name rest
other_rule reply name h rest e = rw e refl
