-- Over the facts of what a check sees, what is taken is what the definitions take.
use Rattle.std.proofs.Common.{◌≡◌, ℕ, List, ◌∷◌, length, Bool, true, false, Some, None, refl, ap, ◌∙◌, slice_get, slice_index_or}
use Rattle.std.proofs.Math.Path.{fun_ext}
use Rattle.std.specs.declared.option.Option.{Option}
use Rattle.sq_base.specs.declared.helpers.Answer.{Answer}
use Rattle.sq_rules.proofs.FactLaws as fact_laws
use Rattle.sq_rules.specs.Configurations.{Configuration}
use Rattle.sq_rules.specs.Facts.{body_fact, facts_of}
use Rattle.sq_rules.specs.Keys.{key_text}
use Rattle.sq_rules.specs.Values.{answer_for, answer_value, taken_at, taken_of_acl, taken_of_body, value_if}
use Rattle.sq_rules.specs.declared.configs.Acl.{Acl}
use Rattle.sq_rules.specs.declared.configs.Body.{Body}
use Rattle.sq_rules.specs.declared.configs.Body.TheVariants as body
use Rattle.sq_rules.specs.declared.sights.Sight.{Sight}
use Rattle.sq_eval.specs.Takings as by
use Rattle.sq_eval.specs.declared.taking.Helpers.{Helpers}

pub facts_count : (acls : List Acl) (s : Sight) → length (facts_of acls s) ≡ length acls
facts_count acls s = fact_laws.facts_count acls s

body_taken : (c : Configuration) (facts : List Bool) (s : Sight) (h : Helpers) (p : ℕ) (a : Acl) (b : Body)
    → facts ≡ facts_of c.acls s → slice_get c.acls p ≡ Some a → a.body ≡ b
    → (answers : List Answer)
    → ((class : ℕ) → by.asked_of h c p class
    ≡ answer_value p (key_text c p s) (answer_for answers class (key_text c p s)))
    → by.read_of_body c facts h p b ≡ taken_of_body c s answers p b
body_taken c facts s h p a (body.Leaf l) is here known answers asked =
    ap value_if (ap (λ fs. slice_index_or fs p false) is ∙ fact_laws.fact_at c.acls s p a here ∙ ap (body_fact s) known)
body_taken c facts s h p a (body.External class arguments) is here known answers asked = asked class
body_taken c facts s h p a (body.AnyOf terms) is here known answers asked = refl
body_taken c facts s h p a (body.AllOf lines) is here known answers asked = refl

acl_taken : (c : Configuration) (facts : List Bool) (s : Sight) (h : Helpers) (p : ℕ) (o : Option Acl)
    → facts ≡ facts_of c.acls s → slice_get c.acls p ≡ o
    → (answers : List Answer)
    → ((class : ℕ) → by.asked_of h c p class
    ≡ answer_value p (key_text c p s) (answer_for answers class (key_text c p s)))
    → by.read_of_acl c facts h p o ≡ taken_of_acl c s answers p o
acl_taken c facts s h p None is here answers asked = refl
acl_taken c facts s h p (Some a) is here answers asked = body_taken c facts s h p a a.body is here refl answers asked

-- over the answers of a check, what is taken is what the definitions take
pub taken_is : (c : Configuration) (facts : List Bool) (s : Sight) (h : Helpers) (answers : List Answer)
    → facts ≡ facts_of c.acls s
    → ((p class : ℕ) → by.asked_of h c p class
    ≡ answer_value p (key_text c p s) (answer_for answers class (key_text c p s)))
    → by.taken_by c facts h ≡ taken_at c s answers
taken_is c facts s h answers is asked = fun_ext
    (λ p. acl_taken c facts s h p (slice_get c.acls p) is refl answers (asked p))

-- the first answer is for the key
pub found_first : (a : Answer) (rest : List Answer) (class : ℕ) (key : List ℕ) → by.answers_for a class key ≡ true
    → answer_for (a ∷ rest) class key ≡ Some a.what
found_first a rest class key e = rw e refl
