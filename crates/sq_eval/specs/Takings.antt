-- What the values of leaf acls and of external acls are taken from: the facts of a check, and
-- answers of helpers.
use Rattle.std.specs.Prelude.{ℕ, List, Bool, true, false, ◌&&◌, ◌==◌, Some, None, slice_get, slice_index_or, bytes_eq}
use Rattle.std.specs.declared.option.Option.{Option}
use Rattle.sq_base.specs.declared.helpers.Answer.{Answer}
use Rattle.sq_rules.specs.Configurations.{Configuration}
use Rattle.sq_rules.specs.Keys.{key_text}
use Rattle.sq_rules.specs.Values.{answer_for, answer_value, value_if}
use Rattle.sq_rules.specs.declared.configs.Acl.{Acl}
use Rattle.sq_rules.specs.declared.configs.Body.{Body}
use Rattle.sq_rules.specs.declared.configs.Body.TheVariants as body
use Rattle.sq_rules.specs.declared.values.TermValue.{TermValue}
use Rattle.sq_rules.specs.declared.values.TermValue.TheVariants.{Miss}
use Rattle.sq_eval.specs.declared.taking.Helpers.{Helpers}
use Rattle.sq_eval.specs.declared.taking.Helpers.TheVariants as helpers
use Rattle.sq_eval.specs.declared.taking.EvalInputs.{EvalInputs}

-- the answer is for this class and key
abbrev pub answers_for : Answer → ℕ → List ℕ → Bool
answers_for a class key = (a.class == class) && bytes_eq a.key key

-- answers are looked for
abbrev pub has_answers : Helpers → Bool
has_answers helpers.Nobody = false
has_answers (helpers.Answered alloc sight answers) = true

-- the value of the external acl at a place, of this class; nothing matches where nobody is asked
abbrev pub asked_of : Helpers → Configuration → ℕ → ℕ → TermValue
asked_of helpers.Nobody c place class = Miss
asked_of (helpers.Answered alloc sight answers) c place class =
    answer_value place (key_text c place sight.now)
    (answer_for answers.now class (key_text c place sight.now))

-- a leaf acl has the value of its fact
abbrev pub read_of_body : Configuration → List Bool → Helpers → ℕ → Body → TermValue
read_of_body c facts h place (body.Leaf l) = value_if (slice_index_or facts place false)
read_of_body c facts h place (body.External class arguments) = asked_of h c place class
read_of_body c facts h place (body.AnyOf terms) = Miss
read_of_body c facts h place (body.AllOf lines) = Miss

abbrev pub read_of_acl : Configuration → List Bool → Helpers → ℕ → Option Acl → TermValue
read_of_acl c facts h place None = Miss
read_of_acl c facts h place (Some a) = read_of_body c facts h place a.body

-- what is taken at a place
abbrev pub taken_by : Configuration → List Bool → Helpers → ℕ → TermValue
taken_by c facts h place = read_of_acl c facts h place (slice_get c.acls place)

abbrev pub taken_in : EvalInputs → ℕ → TermValue
taken_in t = taken_by t.config.now t.facts.now t.helpers

abbrev pub acls_in : EvalInputs → List Acl
acls_in t = t.config.now.acls

-- what is taken at a place where the facts alone are looked at
abbrev pub fact_taken : List Bool → ℕ → TermValue
fact_taken facts place = value_if (slice_index_or facts place false)
