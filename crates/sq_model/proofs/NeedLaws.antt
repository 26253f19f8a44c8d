-- A need is one without an answer: a check that has the answer of a key needs that key no more.
use Rattle.std.proofs.Common.{◌≡◌, ℕ, zero, suc, List, [], ◌∷◌, ◌++◌, map, Bool, true, false, ◌&&◌, ◌==◌, ◌+◌, slice_get, bytes_eq, if◌then◌else◌, Option, Some, None, is_some, refl, sym, ap, ◌∙◌}
use Rattle.std.specs.Option.{option_and_then, option_map_or}
use Rattle.std.proofs.lemmas.Option.{none-some, same_Some}
use Rattle.sq_base.specs.declared.helpers.Answer.{Answer}
use Rattle.sq_base.specs.declared.helpers.What.{What}
use Rattle.sq_base.specs.declared.helpers.What.TheVariants as what
use Rattle.sq_rules.specs.declared.configs.Acl.{Acl}
use Rattle.sq_rules.specs.declared.configs.Body.{Body}
use Rattle.sq_rules.specs.declared.configs.Body.TheVariants as body
use Rattle.sq_rules.specs.declared.configs.Rule.{Rule}
use Rattle.sq_rules.specs.declared.configs.Term.{Term}
use Rattle.sq_rules.specs.declared.outcomes.Outcome.{Outcome}
use Rattle.sq_rules.specs.declared.outcomes.Why.TheVariants as why
use Rattle.sq_rules.specs.declared.sights.Sight.{Sight}
use Rattle.sq_rules.specs.declared.values.TermValue.{TermValue}
use Rattle.sq_rules.specs.declared.values.TermValue.TheVariants.{Hit, Miss, Fault, Need}
use Rattle.sq_rules.specs.declared.values.Value.{Value}
use Rattle.sq_rules.specs.declared.values.Value.TheVariants as value
use Rattle.sq_machine.specs.Checks.{Asked}
use Rattle.sq_rules.specs.Configurations.{Configuration}
use Rattle.sq_rules.specs.Keys.{key_text}
use Rattle.sq_rules.specs.Leaves.{holds}
use Rattle.sq_machine.specs.Epochs.{config_of}
use Rattle.sq_machine.specs.StepRule.{class_of_acl, class_of_body, value_over}
use Rattle.sq_rules.specs.Values.{acl_value, answer_for, answer_value, body_value, both, either, member_value, rule_value, taken_at, taken_of_acl, taken_of_body, term_value, turned, value_if}
use Rattle.sq_rules.specs.Verdicts.{decided, default_of, rules_from, verdict_over}
use Rattle.sq_model.specs.Given.{EachOf}

-- what a value needs is of an acl that asks a class, and has no answer yet
pub record NeedIsOpen (c : Configuration) (answers : List Answer) (v : TermValue) : Type 0 where
  pub asks : (acl : ℕ) (key : List ℕ) → v ≡ Need acl key → is_some (class_of_acl c.acls acl) ≡ true
  pub unanswered : (acl : ℕ) (key : List ℕ) (class : ℕ) → v ≡ Need acl key → class_of_acl c.acls acl ≡ Some class
      → answer_for answers class key ≡ None

is_need : TermValue → Bool
is_need Hit = false
is_need Miss = false
is_need (Fault acl cause) = false
is_need (Need acl key) = true

plain : (c : Configuration) (answers : List Answer) (v : TermValue) → is_need v ≡ false → NeedIsOpen c answers v
unfolding is_need
plain c answers v e = record {
  asks = λ acl key is. absurd (let no : false ≡ true = sym e ∙ ap is_need is in cc);
  unanswered = λ acl key class is at. absurd (let no : false ≡ true = sym e ∙ ap is_need is in cc);
}

need_turned : (c : Configuration) (answers : List Answer) (b : Bool) (v : TermValue) → NeedIsOpen c answers v
    → NeedIsOpen c answers (turned b v)
unfolding is_need
need_turned c answers false v n = n
need_turned c answers true Hit n = plain c answers Miss refl
need_turned c answers true Miss n = plain c answers Hit refl
need_turned c answers true (Fault acl cause) n = n
need_turned c answers true (Need acl key) n = n

need_both : (c : Configuration) (answers : List Answer) (vs : List TermValue) → EachOf (NeedIsOpen c answers) vs
    → NeedIsOpen c answers (both vs)
unfolding is_need
need_both c answers [] e = plain c answers Hit refl
need_both c answers (Hit ∷ vs) e = need_both c answers vs e.1
need_both c answers (Miss ∷ vs) e = plain c answers Miss refl
need_both c answers (Fault acl cause ∷ vs) e = e.0
need_both c answers (Need acl key ∷ vs) e = e.0

need_either : (c : Configuration) (answers : List Answer) (vs : List TermValue) → EachOf (NeedIsOpen c answers) vs
    → NeedIsOpen c answers (either vs)
unfolding is_need
need_either c answers [] e = plain c answers Miss refl
need_either c answers (Hit ∷ vs) e = plain c answers Hit refl
need_either c answers (Miss ∷ vs) e = need_either c answers vs e.1
need_either c answers (Fault acl cause ∷ vs) e = e.0
need_either c answers (Need acl key ∷ vs) e = e.0

each_mapped : {A B : Type 0} (P : B → Type 0) (f : A → B) (xs : List A) → ((x : A) → P (f x)) → EachOf P (map f xs)
each_mapped P f [] e = tt
each_mapped P f (x ∷ xs) e = (e x, each_mapped P f xs e)

need_body : (c : Configuration) (answers : List Answer) (taken : ℕ → TermValue) (member : Term → TermValue) (place : ℕ)
    (b : Body) → ((p : ℕ) → NeedIsOpen c answers (taken p))
    → ((t : Term) → NeedIsOpen c answers (member t)) → NeedIsOpen c answers (body_value taken member place b)
need_body c answers taken member place (body.Leaf l) t m = t place
need_body c answers taken member place (body.External class arguments) t m = t place
need_body c answers taken member place (body.AnyOf terms) t m =
    need_either c answers (map member terms) (each_mapped (NeedIsOpen c answers) member terms m)
need_body c answers taken member place (body.AllOf lines) t m =
    need_either c answers (map (λ (l : List Term). both (map member l)) lines)
    (each_mapped (NeedIsOpen c answers) (λ (l : List Term). both (map member l)) lines
    (λ l. need_both c answers (map member l) (each_mapped (NeedIsOpen c answers) member l m)))

need_acl : (c : Configuration) (answers : List Answer) (taken : ℕ → TermValue) (member : Term → TermValue) (place : ℕ)
    (o : Option Acl) → ((p : ℕ) → NeedIsOpen c answers (taken p))
    → ((t : Term) → NeedIsOpen c answers (member t)) → NeedIsOpen c answers (acl_value taken member place o)
unfolding is_need
need_acl c answers taken member place None t m = plain c answers Miss refl
need_acl c answers taken member place (Some a) t m = need_body c answers taken member place a.body t m

need_member : (c : Configuration) (answers : List Answer) (taken : ℕ → TermValue) (acls : List Acl) (before : ℕ)
    (t : Term) → ((p : ℕ) → NeedIsOpen c answers (taken p))
    → NeedIsOpen c answers (member_value taken acls before t)
unfolding is_need
need_member c answers taken acls zero t k = plain c answers Miss refl
need_member c answers taken acls (suc before) t k =
    need_turned c answers t.negated (acl_value taken (member_value taken acls before) t.acl (slice_get acls t.acl))
    (need_acl c answers taken (member_value taken acls before) t.acl (slice_get acls t.acl) k
    (λ m. need_member c answers taken acls before m k))

need_rule : (c : Configuration) (answers : List Answer) (taken : ℕ → TermValue) (acls : List Acl) (r : Rule)
    → ((p : ℕ) → NeedIsOpen c answers (taken p))
    → NeedIsOpen c answers (rule_value taken acls r)
need_rule c answers taken acls r k =
    need_both c answers (map (term_value taken acls) r.terms)
    (each_mapped (NeedIsOpen c answers) (term_value taken acls) r.terms
    (λ t. need_turned c answers t.negated (acl_value taken (member_value taken acls t.acl) t.acl (slice_get acls t.acl))
    (need_acl c answers taken (member_value taken acls t.acl) t.acl (slice_get acls t.acl) k
    (λ m. need_member c answers taken acls t.acl m k))))

needed_acl : ℕ → TermValue → ℕ
needed_acl d (Need acl key) = acl
needed_acl d v = d

needed_key : List ℕ → TermValue → List ℕ
needed_key d (Need acl key) = key
needed_key d v = d

need_answer : (c : Configuration) (answers : List Answer) (place class : ℕ) (key : List ℕ) (o : Option What)
    → class_of_acl c.acls place ≡ Some class → answer_for answers class key ≡ o
    → NeedIsOpen c answers (answer_value place key o)
unfolding is_need needed_acl needed_key
need_answer c answers place class key None at is = record {
  asks = λ acl k e. ap (λ (i : ℕ). is_some (class_of_acl c.acls i)) (sym (ap (needed_acl place) e)) ∙ ap is_some at;
  unanswered = λ acl k d e there.
      let same : place ≡ acl = ap (needed_acl place) e in
      let keys : key ≡ k = ap (needed_key key) e in
      let classes : class ≡ d = same_Some _ _ (sym at ∙ ap (class_of_acl c.acls) same ∙ there) in
      sym (ap (λ (i : ℕ). answer_for answers i k) classes) ∙ sym (ap (answer_for answers class) keys) ∙ is;
}
need_answer c answers place class key (Some (what.Yes pairs)) at is = plain c answers Hit refl
need_answer c answers place class key (Some (what.No pairs)) at is = plain c answers Miss refl
need_answer c answers place class key (Some (what.Fault cause)) at is = plain c answers (Fault place cause) refl

need_taken : (c : Configuration) (s : Sight) (answers : List Answer) (place : ℕ)
    → NeedIsOpen c answers (taken_at c s answers place)
unfolding is_need
need_taken c s answers place = by (slice_get c.acls place) refl
  where
    leaf : (b : Bool) → NeedIsOpen c answers (value_if b)
    leaf true = plain c answers Hit refl
    leaf false = plain c answers Miss refl

    by_body : (a : Acl) → slice_get c.acls place ≡ Some a → (b : Body) → a.body ≡ b
        → NeedIsOpen c answers (taken_of_body c s answers place b)
    by_body a at (body.Leaf l) is = leaf (holds l s)
    by_body a at (body.External class arguments) is =
        need_answer c answers place class (key_text c place s) (answer_for answers class (key_text c place s))
        (ap (option_and_then (λ (x : Acl). class_of_body x.body)) at ∙ ap class_of_body is) refl
    by_body a at (body.AnyOf terms) is = plain c answers Miss refl
    by_body a at (body.AllOf lines) is = plain c answers Miss refl

    by : (o : Option Acl) → slice_get c.acls place ≡ o → NeedIsOpen c answers (taken_of_acl c s answers place o)
    by None at = plain c answers Miss refl
    by (Some a) at = by_body a at a.body refl

needed_by : Value → TermValue
needed_by (value.Need acl key) = Need acl key
needed_by (value.Verdict o) = Hit

rules_need : (c : Configuration) (answers : List Answer) (taken : ℕ → TermValue) (acls : List Acl) (default : Outcome)
    (number : ℕ) (rules : List Rule) → ((p : ℕ) → NeedIsOpen c answers (taken p))
    → NeedIsOpen c answers (needed_by (rules_from taken acls default number rules))
unfolding is_need needed_by
rules_need c answers taken acls default number [] k = plain c answers Hit refl
rules_need c answers taken acls default number (r ∷ rules) k =
    by (rule_value taken acls r) (need_rule c answers taken acls r k)
    (rules_need c answers taken acls default (number + 1) rules k)
  where
    by : (v : TermValue) → NeedIsOpen c answers v
        → NeedIsOpen c answers (needed_by (rules_from taken acls default (number + 1) rules))
        → NeedIsOpen c answers (needed_by (decided acls number r v (rules_from taken acls default (number + 1) rules)))
    by Hit n rest = plain c answers Hit refl
    by Miss n rest = rest
    by (Fault acl cause) n rest = plain c answers Hit refl
    by (Need acl key) n rest = n

-- what a verdict over some answers needs has no answer among them
pub verdict_needs : (c : Configuration) (s : Sight) (answers : List Answer) (acl : ℕ) (key : List ℕ) (class : ℕ)
    → verdict_over answers c s ≡ value.Need acl key → class_of_acl c.acls acl ≡ Some class
    → answer_for answers class key ≡ None
unfolding needed_by
verdict_needs c s answers acl key class is at =
    (rules_need c answers (taken_at c s answers) c.acls (default_of c.rules) 1 c.rules
    (need_taken c s answers)).unanswered acl key class (ap needed_by is) at

-- and is of an acl that asks a class
pub verdict_asks : (c : Configuration) (s : Sight) (answers : List Answer) (acl : ℕ) (key : List ℕ)
    → verdict_over answers c s ≡ value.Need acl key → is_some (class_of_acl c.acls acl) ≡ true
unfolding needed_by
verdict_asks c s answers acl key is =
    (rules_need c answers (taken_at c s answers) c.acls (default_of c.rules) 1 c.rules (need_taken c s answers)).asks
    acl key (ap needed_by is)

-- so it is with what a check of a configuration comes to: a step of it asks for a key without an answer
pub value_needs : (configs : List Configuration) (a : Asked) (answers : List Answer) (config : Configuration) (acl : ℕ)
    (key : List ℕ) (class : ℕ) → config_of configs a.epoch ≡ Some config
    → value_over configs a answers ≡ value.Need acl key → class_of_acl config.acls acl ≡ Some class
    → answer_for answers class key ≡ None
value_needs configs a answers config acl key class at is there =
    verdict_needs config a.sight answers acl key class (sym (by (config_of configs a.epoch) at) ∙ is) there
  where
    by : (o : Option Configuration) → o ≡ Some config
        → option_map_or (λ config. verdict_over answers config a.sight) o
        (value.Verdict (record { allow = false; why = why.Empty })) ≡ verdict_over answers config a.sight
    by None e = absurd (none-some config e)
    by (Some x) e = ap (λ (k : Configuration). verdict_over answers k a.sight) (same_Some _ _ e)

-- an answer stays, so a key that has one is needed by no later step
pub answer_stays : (xs ys : List Answer) (class : ℕ) (key : List ℕ) (w : What) → answer_for xs class key ≡ Some w
    → answer_for (xs ++ ys) class key ≡ Some w
answer_stays [] ys class key w e = absurd (none-some w e)
answer_stays (a ∷ xs) ys class key w e = by ((a.class == class) && bytes_eq a.key key)
    (answer_stays xs ys class key w) e
  where
    by : (b : Bool) → (answer_for xs class key ≡ Some w → answer_for (xs ++ ys) class key ≡ Some w)
        → (if b then Some a.what else answer_for xs class key) ≡ Some w
        → (if b then Some a.what else answer_for (xs ++ ys) class key) ≡ Some w
    by true more e = e
    by false more e = more e
