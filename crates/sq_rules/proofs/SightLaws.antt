-- Nothing that decides reads the HTTP version of a request: two sights that are the same have the same verdict.
use Rattle.std.proofs.Common.{◌≡◌, ℕ, List, [], ◌∷◌, Some, None, slice_get, map, refl, sym, ap, ◌∙◌}
use Rattle.std.proofs.Math.Path.{fun_ext}
use Rattle.std.specs.List.{join_with_byte}
use Rattle.std.specs.declared.option.Option.{Option}
use Rattle.sq_base.specs.Targets.{Target, target_of}
use Rattle.sq_base.specs.declared.helpers.Answer.{Answer}
use Rattle.sq_base.specs.declared.requests.Field.{Field}
use Rattle.sq_rules.specs.Classes.{Class}
use Rattle.sq_rules.specs.Configurations.{Configuration}
use Rattle.sq_rules.specs.Keys.{acl_key, body_key, format_text, key_text, token_text}
use Rattle.sq_rules.specs.Leaves.{holds}
use Rattle.sq_rules.specs.Sights.{asked_request, asked_with, unversioned, unversioned_sight, IsSameSight}
use Rattle.sq_rules.specs.Values.{answer_for, answer_value, taken_at, taken_of_acl, taken_of_body, value_if}
use Rattle.sq_rules.specs.Verdicts.{default_of, outcome_so_far, rules_from, verdict, verdict_over}
use Rattle.sq_rules.specs.declared.classes.Token.{Token}
use Rattle.sq_rules.specs.declared.classes.Token.TheVariants as token
use Rattle.sq_rules.specs.declared.configs.Acl.{Acl}
use Rattle.sq_rules.specs.declared.configs.Body.{Body}
use Rattle.sq_rules.specs.declared.configs.Body.TheVariants as body
use Rattle.sq_rules.specs.declared.leaves.Leaf.{Leaf}
use Rattle.sq_rules.specs.declared.leaves.Leaf.TheVariants as leaf
use Rattle.sq_rules.specs.declared.sights.Sight.{Sight}

holds_unversioned : (l : Leaf) (s : Sight) → holds l (unversioned_sight s) ≡ holds l s
holds_unversioned (leaf.Src ranges) s = refl
holds_unversioned l s = refl

token_unversioned : (name : List ℕ) (arguments : List (List ℕ)) (s : Sight) (t : Token)
    → token_text name arguments (unversioned_sight s) t ≡ token_text name arguments s t
token_unversioned name arguments s token.ClientAddr = refl
token_unversioned name arguments s t = refl

tokens_unversioned : (name : List ℕ) (arguments : List (List ℕ)) (s : Sight) (format : List Token)
    → map (token_text name arguments (unversioned_sight s)) format ≡ map (token_text name arguments s) format
tokens_unversioned name arguments s [] = refl
tokens_unversioned name arguments s (t ∷ format) =
    ap (λ k. k ∷ map (token_text name arguments (unversioned_sight s)) format) (token_unversioned name arguments s t)
    ∙ ap (λ ks. token_text name arguments s t ∷ ks) (tokens_unversioned name arguments s format)

format_unversioned : (name : List ℕ) (arguments : List (List ℕ)) (s : Sight) (o : Option Class)
    → format_text name arguments (unversioned_sight s) o ≡ format_text name arguments s o
format_unversioned name arguments s None = refl
format_unversioned name arguments s (Some k) = ap (join_with_byte 32) (tokens_unversioned name arguments s k.format)

body_key_unversioned : (c : Configuration) (s : Sight) (name : List ℕ) (b : Body)
    → body_key c (unversioned_sight s) name b ≡ body_key c s name b
body_key_unversioned c s name (body.External class arguments) =
    format_unversioned name arguments s (slice_get c.classes class)
body_key_unversioned c s name (body.Leaf l) = refl
body_key_unversioned c s name (body.AnyOf terms) = refl
body_key_unversioned c s name (body.AllOf lines) = refl

acl_key_unversioned : (c : Configuration) (s : Sight) (o : Option Acl)
    → acl_key c (unversioned_sight s) o ≡ acl_key c s o
acl_key_unversioned c s None = refl
acl_key_unversioned c s (Some a) = body_key_unversioned c s a.name a.body

-- nor does the key of an acl tell it
pub key_unversioned : (c : Configuration) (place : ℕ) (s : Sight)
    → key_text c place (unversioned_sight s) ≡ key_text c place s
unfolding key_text
key_unversioned c place s = acl_key_unversioned c s (slice_get c.acls place)

body_unversioned : (c : Configuration) (s : Sight) (answers : List Answer) (place : ℕ) (b : Body)
    → taken_of_body c (unversioned_sight s) answers place b ≡ taken_of_body c s answers place b
body_unversioned c s answers place (body.Leaf l) = ap value_if (holds_unversioned l s)
body_unversioned c s answers place (body.External class arguments) =
    ap (λ k. answer_value place k (answer_for answers class k)) (key_unversioned c place s)
body_unversioned c s answers place (body.AnyOf terms) = refl
body_unversioned c s answers place (body.AllOf lines) = refl

acl_unversioned : (c : Configuration) (s : Sight) (answers : List Answer) (place : ℕ) (o : Option Acl)
    → taken_of_acl c (unversioned_sight s) answers place o ≡ taken_of_acl c s answers place o
acl_unversioned c s answers place None = refl
acl_unversioned c s answers place (Some a) = body_unversioned c s answers place a.body

-- what is taken of an acl does not depend on it
pub taken_unversioned : (c : Configuration) (s : Sight) (answers : List Answer)
    → taken_at c (unversioned_sight s) answers ≡ taken_at c s answers
taken_unversioned c s answers = fun_ext (λ place. acl_unversioned c s answers place (slice_get c.acls place))

-- what rules come to over a sight is what they come to over the sight but for the version of its request
pub over_unversioned : (answers : List Answer) (c : Configuration) (s : Sight)
    → verdict_over answers c (unversioned_sight s) ≡ verdict_over answers c s
over_unversioned answers c s = ap (λ taken. rules_from taken c.acls (default_of c.rules) 1 c.rules)
    (taken_unversioned c s answers)

-- so it is of the verdict
pub verdict_unversioned : (c : Configuration) (s : Sight) → verdict c (unversioned_sight s) ≡ verdict c s
verdict_unversioned c s = ap outcome_so_far (over_unversioned [] c s)

-- two sights that are the same have the same verdict
pub verdict_same : (c : Configuration) (s t : Sight) → IsSameSight s t → verdict c s ≡ verdict c t
verdict_same c s t e = sym (verdict_unversioned c s) ∙ ap (verdict c) e ∙ verdict_unversioned c t

asked_by_target : (method target : List ℕ) (fields : List Field) (o : Option Target)
    → unversioned (asked_with method target fields o) ≡ asked_with method target fields o
asked_by_target method target fields None = refl
asked_by_target method target fields (Some t) = refl

-- the request of an `ask` has version 1.1
pub asked_unversioned : (method target : List ℕ) (fields : List Field)
    → unversioned (asked_request method target fields) ≡ asked_request method target fields
asked_unversioned method target fields = asked_by_target method target fields (target_of method target)
