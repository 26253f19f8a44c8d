-- Over the facts of what a check sees, the fields that go on are those of the definitions.
use Rattle.std.proofs.Common.{◌≡◌, ℕ, List, [], ◌∷◌, Bool, true, false, ◌&&◌, length, if◌then◌else◌, Some, refl, sym, ap, ◌∙◌, slice_get, slice_index_or}
use Rattle.std.proofs.Math.Path.{fun_ext}
use Rattle.std.specs.List.{list_all}
use Rattle.std.specs.Str.{str_eq_ignore_ascii_case, str_to_ascii_lowercase}
use Rattle.std.specs.Prelude.{bytes_eq, codes}
use Rattle.sq_eval.specs.Takings.{fact_taken}
use Rattle.sq_forward.specs.Access.{access_by, allowed_by, header_access}
use Rattle.sq_rules.proofs.FactLaws.{fact_at}
use Rattle.sq_rules.proofs.ValueLaws.{AgreeOnLeaves, fast_rules}
use Rattle.sq_rules.specs.Configurations.{Configuration, IsConfiguration, is_fast_rule, is_header, is_leaf_body}
use Rattle.sq_rules.specs.Facts.{body_fact, facts_of}
use Rattle.sq_rules.specs.Values.{taken_at, taken_of_acl, taken_of_body, value_if}
use Rattle.sq_rules.specs.Verdicts.{default_of, field_allowed, is_same_way, name_allowed, or_for_all, outcome_so_far, rules_for}
use Rattle.sq_rules.specs.declared.configs.Acl.{Acl}
use Rattle.sq_rules.specs.declared.configs.Body.{Body}
use Rattle.sq_rules.specs.declared.configs.Body.TheVariants as body
use Rattle.sq_rules.specs.declared.configs.Rule.{Rule}
use Rattle.sq_rules.specs.declared.headers.HeaderRule.{HeaderRule}
use Rattle.sq_rules.specs.declared.sights.Sight.{Sight}

left : (a b : Bool) → (a && b) ≡ true → a ≡ true
left true b e = refl
left false b e = cc

right : (a b : Bool) → (a && b) ≡ true → b ≡ true
right true b e = e
right false b e = cc

leaf_fact : (c : Configuration) (facts : List Bool) (s : Sight) (p : ℕ) (a : Acl) (b : Body)
    → facts ≡ facts_of c.acls s → slice_get c.acls p ≡ Some a → a.body ≡ b → is_leaf_body b ≡ true
    → fact_taken facts p ≡ taken_of_body c s [] p b
leaf_fact c facts s p a (body.Leaf l) is here known leaf =
    ap value_if (ap (λ fs. slice_index_or fs p false) is ∙ fact_at c.acls s p a here ∙ ap (body_fact s) known)
leaf_fact c facts s p a (body.External class arguments) is here known leaf = absurd (cc)
leaf_fact c facts s p a (body.AnyOf terms) is here known leaf = absurd (cc)
leaf_fact c facts s p a (body.AllOf lines) is here known leaf = absurd (cc)

leaves_agree : (c : Configuration) (facts : List Bool) (s : Sight) → facts ≡ facts_of c.acls s
    → AgreeOnLeaves c.acls (fact_taken facts) (taken_at c s [])
leaves_agree c facts s is p a here leaf =
    leaf_fact c facts s p a a.body is here refl leaf ∙ sym (ap (taken_of_acl c s [] p) here)

chosen_fast : (acls : List Acl) (t : Bool) (h : HeaderRule) (rules : List Rule) → is_header acls h ≡ true
    → list_all (is_fast_rule acls) rules ≡ true
    → list_all (is_fast_rule acls) (if t then h.rule ∷ rules else rules) ≡ true
chosen_fast acls true h rules is rest = rw (is, rest) refl
chosen_fast acls false h rules is rest = rest

rules_fast : (acls : List Acl) (reply : Bool) (name : List ℕ) (headers : List HeaderRule)
    → list_all (is_header acls) headers ≡ true → list_all (is_fast_rule acls) (rules_for reply name headers) ≡ true
rules_fast acls reply name [] are = refl
rules_fast acls reply name (h ∷ headers) are =
    chosen_fast acls (is_same_way h.reply reply && str_eq_ignore_ascii_case h.name name) h
    (rules_for reply name headers) (left (is_header acls h) (list_all (is_header acls) headers) are)
    (rules_fast acls reply name headers (right (is_header acls h) (list_all (is_header acls) headers) are))

deciding_fast : (acls : List Acl) (own all : List Rule) → list_all (is_fast_rule acls) own ≡ true
    → list_all (is_fast_rule acls) all ≡ true → list_all (is_fast_rule acls) (or_for_all own all) ≡ true
deciding_fast acls [] all own_fast all_fast = all_fast
deciding_fast acls (r ∷ own) all own_fast all_fast = own_fast

field_same : (c : Configuration) (facts : List Bool) (s : Sight) (rules : List Rule) → IsConfiguration c
    → facts ≡ facts_of c.acls s → list_all (is_fast_rule c.acls) rules ≡ true
    → field_allowed (fact_taken facts) c.acls rules ≡ field_allowed (taken_at c s []) c.acls rules
field_same c facts s [] is seen fast = refl
field_same c facts s (r ∷ rules) is seen fast =
    ap (λ v. (outcome_so_far v).allow)
    (fast_rules (fact_taken facts) (taken_at c s []) (length c.classes) c.acls is.members
    (leaves_agree c facts s seen) (default_of (r ∷ rules)) 1 (r ∷ rules) fast)

-- whether a field is allowed over the facts
pub allowed_at : (c : Configuration) (facts : List Bool) (s : Sight) (reply : Bool) (name : List ℕ) → IsConfiguration c
    → facts ≡ facts_of c.acls s → allowed_by c facts reply name ≡ name_allowed c s reply name
allowed_at c facts s reply name is seen =
    field_same c facts s (or_for_all (rules_for reply name c.headers) (rules_for reply (codes "all") c.headers)) is seen
    (deciding_fast c.acls (rules_for reply name c.headers) (rules_for reply (codes "all") c.headers)
    (rules_fast c.acls reply name c.headers is.headers_are)
    (rules_fast c.acls reply (codes "all") c.headers is.headers_are))

pub tests_at : (c : Configuration) (facts : List Bool) (s : Sight) (reply : Bool) → IsConfiguration c
    → facts ≡ facts_of c.acls s → allowed_by c facts reply ≡ name_allowed c s reply
tests_at c facts s reply is seen = fun_ext (λ name. allowed_at c facts s reply name is seen)

-- what goes on over the facts of what a check sees
pub access_at : (c : Configuration) (facts : List Bool) (s : Sight) → IsConfiguration c → facts ≡ facts_of c.acls s
    → access_by c facts ≡ header_access c s
access_at c facts s is seen =
    ap (λ t. record { request = t; reply = allowed_by c facts true }) (tests_at c facts s false is seen)
    ∙ ap (λ t. record { request = name_allowed c s false; reply = t }) (tests_at c facts s true is seen)

-- names without case are one to the rules
rules_alike : (reply : Bool) (a b : List ℕ) (headers : List HeaderRule)
    → str_to_ascii_lowercase a ≡ str_to_ascii_lowercase b → rules_for reply a headers ≡ rules_for reply b headers
rules_alike reply a b [] same = refl
rules_alike reply a b (h ∷ headers) same =
    ap (λ l. if is_same_way h.reply reply && bytes_eq (str_to_ascii_lowercase h.name) l
    then h.rule ∷ rules_for reply a headers else rules_for reply a headers) same
    ∙ ap (λ rs. if is_same_way h.reply reply && str_eq_ignore_ascii_case h.name b then h.rule ∷ rs else rs)
    (rules_alike reply a b headers same)

pub allowed_alike : (c : Configuration) (facts : List Bool) (reply : Bool) (a b : List ℕ)
    → str_to_ascii_lowercase a ≡ str_to_ascii_lowercase b → allowed_by c facts reply a ≡ allowed_by c facts reply b
allowed_alike c facts reply a b same =
    ap (λ rs. field_allowed (fact_taken facts) c.acls (or_for_all rs (rules_for reply (codes "all") c.headers)))
    (rules_alike reply a b c.headers same)
