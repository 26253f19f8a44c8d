-- What a check needs it does not have: a need that rules come to is of a class and key that have no answer.
use Rattle.std.proofs.Common.{◌≡◌, ℕ, ◌+◌, zero, suc, List, [], ◌∷◌, Bool, true, false, ◌&&◌, ◌||◌, ◌==◌, if◌then◌else◌, not, Some, None, refl, sym, ap, ◌∙◌, map, slice_get}
use Rattle.std.proofs.lemmas.Slice.Eq.{bytes_eq-Decides}
use Rattle.std.specs.Option.{option_and_then}
use Rattle.std.specs.Str.{bytes_eq}
use Rattle.std.specs.declared.option.Option.{Option}
use Rattle.sq_base.specs.Distinct.{has_answer}
use Rattle.sq_base.specs.declared.helpers.Answer.{Answer}
use Rattle.sq_base.specs.declared.helpers.What.{What}
use Rattle.sq_base.specs.declared.helpers.What.TheVariants as what
use Rattle.sq_rules.specs.Configurations.{Configuration}
use Rattle.sq_rules.specs.Keys.{key_text}
use Rattle.sq_rules.specs.Leaves.{holds}
use Rattle.sq_machine.specs.StepRule.{class_of_acl, class_of_body}
use Rattle.sq_rules.specs.Values.{acl_value, answer_for, answer_value, body_value, both, either, member_value, rule_value, taken_at, taken_of_acl, taken_of_body, term_value, turned, value_if}
use Rattle.sq_rules.specs.Verdicts.{decided, default_of, rules_from, verdict_over}
use Rattle.sq_rules.specs.declared.configs.Acl.{Acl}
use Rattle.sq_rules.specs.declared.configs.Body.{Body}
use Rattle.sq_rules.specs.declared.configs.Body.TheVariants as body
use Rattle.sq_rules.specs.declared.configs.Rule.{Rule}
use Rattle.sq_rules.specs.declared.configs.Term.{Term}
use Rattle.sq_rules.specs.declared.outcomes.Outcome.{Outcome}
use Rattle.sq_rules.specs.declared.sights.Sight.{Sight}
use Rattle.sq_rules.specs.declared.values.TermValue.{TermValue}
use Rattle.sq_rules.specs.declared.values.TermValue.TheVariants.{Hit, Miss, Fault, Need}
use Rattle.sq_rules.specs.declared.values.Value.{Value}
use Rattle.sq_rules.specs.declared.values.Value.TheVariants as value

-- the need, where there is one, passes a test
abbrev passes : (ℕ → List ℕ → Bool) → TermValue → Bool
passes t Hit = true
passes t Miss = true
passes t (Fault acl cause) = true
passes t (Need acl key) = t acl key

abbrev value_passes : (ℕ → List ℕ → Bool) → Value → Bool
value_passes t (value.Verdict o) = true
value_passes t (value.Need acl key) = t acl key

turned_passes : (t : ℕ → List ℕ → Bool) (b : Bool) (v : TermValue) → passes t v ≡ true → passes t (turned b v) ≡ true
turned_passes t false v e = e
turned_passes t true Hit e = refl
turned_passes t true Miss e = refl
turned_passes t true (Fault acl cause) e = refl
turned_passes t true (Need acl key) e = e

both_passes : (t : ℕ → List ℕ → Bool) (v : TermValue) (values : List TermValue) → passes t v ≡ true
    → passes t (both values) ≡ true → passes t (both (v ∷ values)) ≡ true
both_passes t Hit values e rest = rest
both_passes t Miss values e rest = refl
both_passes t (Fault acl cause) values e rest = refl
both_passes t (Need acl key) values e rest = e

either_passes : (t : ℕ → List ℕ → Bool) (v : TermValue) (values : List TermValue) → passes t v ≡ true
    → passes t (either values) ≡ true → passes t (either (v ∷ values)) ≡ true
either_passes t Hit values e rest = refl
either_passes t Miss values e rest = rest
either_passes t (Fault acl cause) values e rest = refl
either_passes t (Need acl key) values e rest = e

both_map : {A : Type 0} (t : ℕ → List ℕ → Bool) (f : A → TermValue) (xs : List A) → ((x : A) → passes t (f x) ≡ true)
    → passes t (both (map f xs)) ≡ true
both_map t f [] all = refl
both_map t f (x ∷ xs) all = both_passes t (f x) (map f xs) (all x) (both_map t f xs all)

either_map : {A : Type 0} (t : ℕ → List ℕ → Bool) (f : A → TermValue) (xs : List A) → ((x : A) → passes t (f x) ≡ true)
    → passes t (either (map f xs)) ≡ true
either_map t f [] all = refl
either_map t f (x ∷ xs) all = either_passes t (f x) (map f xs) (all x) (either_map t f xs all)

body_passes : (t : ℕ → List ℕ → Bool) (taken : ℕ → TermValue) (p : ℕ) (f : Term → TermValue) (b : Body)
    → ((q : ℕ) → passes t (taken q) ≡ true) → ((u : Term) → passes t (f u) ≡ true)
    → passes t (body_value taken f p b) ≡ true
body_passes t taken p f (body.Leaf l) at all = at p
body_passes t taken p f (body.External class arguments) at all = at p
body_passes t taken p f (body.AnyOf terms) at all = either_map t f terms all
body_passes t taken p f (body.AllOf lines) at all = either_map t (λ l. both (map f l)) lines (λ l. both_map t f l all)

acl_passes : (t : ℕ → List ℕ → Bool) (taken : ℕ → TermValue) (p : ℕ) (f : Term → TermValue) (o : Option Acl)
    → ((q : ℕ) → passes t (taken q) ≡ true) → ((u : Term) → passes t (f u) ≡ true)
    → passes t (acl_value taken f p o) ≡ true
acl_passes t taken p f None at all = refl
acl_passes t taken p f (Some a) at all = body_passes t taken p f a.body at all

member_passes : (t : ℕ → List ℕ → Bool) (taken : ℕ → TermValue) (acls : List Acl)
    → ((q : ℕ) → passes t (taken q) ≡ true) → (n : ℕ) (u : Term) → passes t (member_value taken acls n u) ≡ true
member_passes t taken acls at zero u = refl
member_passes t taken acls at (suc n) u =
    turned_passes t u.negated (acl_value taken (member_value taken acls n) u.acl (slice_get acls u.acl))
    (acl_passes t taken u.acl (member_value taken acls n) (slice_get acls u.acl)
    at (λ v. member_passes t taken acls at n v))

decided_passes : (t : ℕ → List ℕ → Bool) (acls : List Acl) (number : ℕ) (r : Rule) (v : TermValue) (rest : Value)
    → passes t v ≡ true → value_passes t rest ≡ true
    → value_passes t (decided acls number r v rest) ≡ true
decided_passes t acls number r Hit rest e more = refl
decided_passes t acls number r Miss rest e more = more
decided_passes t acls number r (Fault acl cause) rest e more = refl
decided_passes t acls number r (Need acl key) rest e more = e

rules_pass : (t : ℕ → List ℕ → Bool) (taken : ℕ → TermValue) (acls : List Acl) → ((q : ℕ) → passes t (taken q) ≡ true)
    → (default : Outcome) (number : ℕ) (rules : List Rule)
    → value_passes t (rules_from taken acls default number rules) ≡ true
rules_pass t taken acls at default number [] = refl
rules_pass t taken acls at default number (r ∷ rules) =
    decided_passes t acls number r (rule_value taken acls r) (rules_from taken acls default (number + 1) rules)
    (both_map t (term_value taken acls) r.terms (λ u. member_passes t taken acls at (suc u.acl) u))
    (rules_pass t taken acls at default (number + 1) rules)

-- the class, if there is one, has no answer for the key
abbrev lacks : List Answer → List ℕ → Option ℕ → Bool
lacks answers key None = true
lacks answers key (Some class) = not (has_answer answers class key)

abbrev unanswered : Configuration → List Answer → ℕ → List ℕ → Bool
unanswered c answers acl key = lacks answers key (class_of_acl c.acls acl)

not_found : (b : Bool) (x : What) (o : Option What) (rest : Bool) → (if b then Some x else o) ≡ None
    → (o ≡ None → rest ≡ false) → (b || rest) ≡ false
not_found true x o rest e k = absurd cc
not_found false x o rest e k = k e

no_answer : (answers : List Answer) (class : ℕ) (key : List ℕ) → answer_for answers class key ≡ None
    → has_answer answers class key ≡ false
no_answer [] class key e = refl
no_answer (a ∷ answers) class key e =
    not_found ((a.class == class) && bytes_eq a.key key) a.what (answer_for answers class key)
    (has_answer answers class key) e (no_answer answers class key)

if_passes : (t : ℕ → List ℕ → Bool) (b : Bool) → passes t (value_if b) ≡ true
if_passes t true = refl
if_passes t false = refl

answer_passes : (t : ℕ → List ℕ → Bool) (place : ℕ) (key : List ℕ) (o : Option What) → (o ≡ None → t place key ≡ true)
    → passes t (answer_value place key o) ≡ true
answer_passes t place key None k = k refl
answer_passes t place key (Some (what.Yes pairs)) k = refl
answer_passes t place key (Some (what.No pairs)) k = refl
answer_passes t place key (Some (what.Fault cause)) k = refl

taken_body : (c : Configuration) (s : Sight) (answers : List Answer) (place : ℕ) (b : Body)
    → option_and_then (λ (a : Acl). class_of_body a.body) (slice_get c.acls place) ≡ class_of_body b
    → passes (unanswered c answers) (taken_of_body c s answers place b) ≡ true
taken_body c s answers place (body.Leaf l) is = if_passes (unanswered c answers) (holds l s)
taken_body c s answers place (body.External class arguments) is =
    answer_passes (unanswered c answers) place (key_text c place s) (answer_for answers class (key_text c place s))
    (λ e. ap (lacks answers (key_text c place s)) is ∙ ap not (no_answer answers class (key_text c place s) e))
taken_body c s answers place (body.AnyOf terms) is = refl
taken_body c s answers place (body.AllOf lines) is = refl

taken_acl : (c : Configuration) (s : Sight) (answers : List Answer) (place : ℕ) (o : Option Acl)
    → slice_get c.acls place ≡ o
    → passes (unanswered c answers) (taken_of_acl c s answers place o) ≡ true
taken_acl c s answers place None is = refl
taken_acl c s answers place (Some a) is = taken_body c s answers place a.body
    (ap (option_and_then (λ (x : Acl). class_of_body x.body)) is)

not_true : (b : Bool) → not b ≡ true → b ≡ false
not_true true e = absurd cc
not_true false e = refl

-- a need that a configuration comes to over some answers is of a class and key that have none among them
pub need_is_new : (answers : List Answer) (c : Configuration) (s : Sight) (acl class : ℕ) (key : List ℕ)
    → verdict_over answers c s ≡ value.Need acl key
    → class_of_acl c.acls acl ≡ Some class → has_answer answers class key ≡ false
need_is_new answers c s acl class key e k =
    let all : value_passes (unanswered c answers) (verdict_over answers c s) ≡ true =
    rules_pass (unanswered c answers) (taken_at c s answers) c.acls
    (λ q. taken_acl c s answers q (slice_get c.acls q) refl) (default_of c.rules) 1 c.rules in
    let one : lacks answers key (class_of_acl c.acls acl) ≡ true = ap (value_passes (unanswered c answers)) (sym e)
    ∙ all in
    not_true (has_answer answers class key) (ap (lacks answers key) (sym k) ∙ one)

-- the key is that of the acl
abbrev is_keyed : Configuration → Sight → ℕ → List ℕ → Bool
is_keyed c s acl key = bytes_eq (key_text c acl s) key

keyed_body : (c : Configuration) (s : Sight) (answers : List Answer) (place : ℕ) (b : Body)
    → passes (is_keyed c s) (taken_of_body c s answers place b) ≡ true
keyed_body c s answers place (body.Leaf l) = if_passes (is_keyed c s) (holds l s)
keyed_body c s answers place (body.External class arguments) =
    answer_passes (is_keyed c s) place (key_text c place s) (answer_for answers class (key_text c place s))
    (λ e. (bytes_eq-Decides (key_text c place s) (key_text c place s)).1 refl)
keyed_body c s answers place (body.AnyOf terms) = refl
keyed_body c s answers place (body.AllOf lines) = refl

keyed_acl : (c : Configuration) (s : Sight) (answers : List Answer) (place : ℕ) (o : Option Acl)
    → passes (is_keyed c s) (taken_of_acl c s answers place o) ≡ true
keyed_acl c s answers place None = refl
keyed_acl c s answers place (Some a) = keyed_body c s answers place a.body

-- a need that a configuration comes to over some answers is of the key of its acl
pub need_is_keyed : (answers : List Answer) (c : Configuration) (s : Sight) (acl : ℕ) (key : List ℕ)
    → verdict_over answers c s ≡ value.Need acl key
    → key_text c acl s ≡ key
need_is_keyed answers c s acl key e =
    let all : value_passes (is_keyed c s) (verdict_over answers c s) ≡ true =
    rules_pass (is_keyed c s) (taken_at c s answers) c.acls
    (λ q. keyed_acl c s answers q (slice_get c.acls q)) (default_of c.rules) 1 c.rules in
    let one : bytes_eq (key_text c acl s) key ≡ true = ap (value_passes (is_keyed c s)) (sym e) ∙ all in
    (bytes_eq-Decides (key_text c acl s) key).0 one
