-- The rules come to the same over what the frames of a check were given as over its answers,
-- and what was given stays so as more answers come.
use Rattle.std.proofs.Common.{◌≡◌, ◌≢◌, ◌≤◌, ℕ, ◌+◌, zero, suc, List, [], ◌∷◌, ◌++◌, Bool, true, false, ◌==◌, ◌&&◌, ◌||◌, if◌then◌else◌, bytes_eq, Option, Some, None, IfSome, refl, sym, ap, subst, ◌∙◌, map, min, slice_get, slice_index_or, arith}
use Rattle.std.proofs.lemmas.Bool.Decides.{nat_tests}
use Rattle.std.proofs.lemmas.Option.{none-some, same_Some}
use Rattle.std.proofs.lemmas.Slice.Eq.{bytes_eq-Decides}
use Rattle.std.specs.Option.{option_and_then}
use Rattle.sq_base.specs.Distinct.{has_answer}
use Rattle.sq_base.specs.declared.helpers.Answer.{Answer}
use Rattle.sq_base.specs.declared.helpers.What.{What}
use Rattle.sq_base.specs.declared.helpers.What.TheVariants as what
use Rattle.sq_rules.proofs.FactLaws.{fact_at}
use Rattle.sq_rules.specs.Configurations.{Configuration}
use Rattle.sq_rules.specs.Facts.{body_fact, facts_of}
use Rattle.sq_rules.specs.Keys.{key_text}
use Rattle.sq_rules.specs.Leaves.{holds}
use Rattle.sq_rules.specs.Values.{acl_value, answer_for, answer_value, body_value, both, either, member_value, negated, rule_value, taken_at, taken_of_acl, taken_of_body, term_value, turned, value_if}
use Rattle.sq_rules.specs.Verdicts.{decided, default_of, rules_from, verdict_over}
use Rattle.sq_rules.specs.declared.configs.Acl.{Acl}
use Rattle.sq_rules.specs.declared.configs.Body.{Body}
use Rattle.sq_rules.specs.declared.configs.Body.TheVariants as body
use Rattle.sq_rules.specs.declared.configs.Rule.{Rule}
use Rattle.sq_rules.specs.declared.configs.Term.{Term}
use Rattle.sq_rules.specs.declared.outcomes.Outcome.{Outcome}
use Rattle.sq_rules.specs.declared.sights.Sight.{Sight}
use Rattle.sq_rules.specs.declared.values.TermValue.{TermValue}
use Rattle.sq_rules.specs.declared.values.TermValue.TheVariants.{Hit, Miss, Fault, Need}
use Rattle.sq_rules.specs.declared.values.Value.{Value}
use Rattle.sq_rules.specs.declared.values.Value.TheVariants as value
use Rattle.sq_machine.specs.StepRule.{class_of_body}
use Rattle.sq_checks.proofs.FrameLaws.{few_over}
use Rattle.sq_checks.specs.Courses.{Extends, is_need, leaves, still_needed}
use Rattle.sq_checks.specs.GivenValues as by
use Rattle.sq_checks.specs.Positions.{course_at, look_limit}
use Rattle.sq_checks.specs.Slots.{external_of, is_external, is_external_at, slots_of}
use Rattle.sq_checks.specs.Standing.{IsAt, IsOver, IsWhole, Standing, given_to, leaves_of, looks_in, taken_of, value_of}
use Rattle.sq_checks.specs.declared.answers.Given.{Given}
use Rattle.sq_checks.specs.declared.answers.Given.TheVariants as given
use Rattle.sq_checks.specs.Givens.{AreCounted, AreFrames, AreGiven, given_by, leaves_over, looks_over}
use Rattle.sq_checks.specs.Stages.{IsOf}
use Rattle.sq_checks.proofs.MapLaws.{self_number}

-- a value that is known stays, and one that is needed is needed where its acl is
abbrev Follows : (ℕ → TermValue) → TermValue → TermValue → Type 0
Follows more Hit w = w ≡ Hit
Follows more Miss w = w ≡ Miss
Follows more (Fault acl cause) w = w ≡ Fault acl cause
Follows more (Need acl key) w = (k : List ℕ) → more acl ≡ Need acl k → w ≡ Need acl k

abbrev pub ValueFollows : (ℕ → TermValue) → Value → Value → Type 0
ValueFollows more (value.Verdict o) w = w ≡ value.Verdict o
ValueFollows more (value.Need acl key) w = (k : List ℕ) → more acl ≡ Need acl k → w ≡ value.Need acl k

turned_follows : (more : ℕ → TermValue) (b : Bool) (v w : TermValue) → Follows more v w
    → Follows more (turned b v) (turned b w)
turned_follows more false v w e = e
turned_follows more true Hit w e = ap negated e
turned_follows more true Miss w e = ap negated e
turned_follows more true (Fault acl cause) w e = ap negated e
turned_follows more true (Need acl key) w e = λ k is. ap negated (e k is)

both_follows : (more : ℕ → TermValue) (v w : TermValue) (vs ws : List TermValue) → Follows more v w
    → Follows more (both vs) (both ws) → Follows more (both (v ∷ vs)) (both (w ∷ ws))
both_follows more Hit w vs ws e rest = subst (λ x. Follows more (both vs) (both (x ∷ ws))) (sym e) rest
both_follows more Miss w vs ws e rest = ap (λ x. both (x ∷ ws)) e
both_follows more (Fault acl cause) w vs ws e rest = ap (λ x. both (x ∷ ws)) e
both_follows more (Need acl key) w vs ws e rest = λ k is. ap (λ x. both (x ∷ ws)) (e k is)

either_follows : (more : ℕ → TermValue) (v w : TermValue) (vs ws : List TermValue) → Follows more v w
    → Follows more (either vs) (either ws)
    → Follows more (either (v ∷ vs)) (either (w ∷ ws))
either_follows more Hit w vs ws e rest = ap (λ x. either (x ∷ ws)) e
either_follows more Miss w vs ws e rest = subst (λ x. Follows more (either vs) (either (x ∷ ws))) (sym e) rest
either_follows more (Fault acl cause) w vs ws e rest = ap (λ x. either (x ∷ ws)) e
either_follows more (Need acl key) w vs ws e rest = λ k is. ap (λ x. either (x ∷ ws)) (e k is)

both_map : {A : Type 0} (more : ℕ → TermValue) (f g : A → TermValue) (xs : List A)
    → ((x : A) → Follows more (f x) (g x)) → Follows more (both (map f xs)) (both (map g xs))
both_map more f g [] all = refl
both_map more f g (x ∷ xs) all = both_follows more (f x) (g x) (map f xs) (map g xs) (all x) (both_map more f g xs all)

either_map : {A : Type 0} (more : ℕ → TermValue) (f g : A → TermValue) (xs : List A)
    → ((x : A) → Follows more (f x) (g x)) → Follows more (either (map f xs)) (either (map g xs))
either_map more f g [] all = refl
either_map more f g (x ∷ xs) all = either_follows more (f x) (g x) (map f xs) (map g xs) (all x)
    (either_map more f g xs all)

body_follows : (taken more : ℕ → TermValue) (p : ℕ) (f g : Term → TermValue) (b : Body)
    → ((q : ℕ) → Follows more (taken q) (more q)) → ((u : Term) → Follows more (f u) (g u))
    → Follows more (body_value taken f p b) (body_value more g p b)
body_follows taken more p f g (body.Leaf l) at all = at p
body_follows taken more p f g (body.External class arguments) at all = at p
body_follows taken more p f g (body.AnyOf terms) at all = either_map more f g terms all
body_follows taken more p f g (body.AllOf lines) at all = either_map more (λ l. both (map f l)) (λ l. both (map g l))
    lines (λ l. both_map more f g l all)

acl_follows : (taken more : ℕ → TermValue) (p : ℕ) (f g : Term → TermValue) (o : Option Acl)
    → ((q : ℕ) → Follows more (taken q) (more q)) → ((u : Term) → Follows more (f u) (g u))
    → Follows more (acl_value taken f p o) (acl_value more g p o)
acl_follows taken more p f g None at all = refl
acl_follows taken more p f g (Some a) at all = body_follows taken more p f g a.body at all

member_follows : (taken more : ℕ → TermValue) (acls : List Acl) → ((q : ℕ) → Follows more (taken q) (more q))
    → (n : ℕ) (u : Term)
    → Follows more (member_value taken acls n u) (member_value more acls n u)
member_follows taken more acls at zero u = refl
member_follows taken more acls at (suc n) u =
    turned_follows more u.negated (acl_value taken (member_value taken acls n) u.acl (slice_get acls u.acl))
    (acl_value more (member_value more acls n) u.acl (slice_get acls u.acl))
    (acl_follows taken more u.acl (member_value taken acls n) (member_value more acls n) (slice_get acls u.acl)
    at (λ v. member_follows taken more acls at n v))

decided_follows : (more : ℕ → TermValue) (acls : List Acl) (number : ℕ) (r : Rule) (v w : TermValue) (rest next : Value)
    → Follows more v w → ValueFollows more rest next
    → ValueFollows more (decided acls number r v rest) (decided acls number r w next)
decided_follows more acls number r Hit w rest next e behind = ap (λ x. decided acls number r x next) e
decided_follows more acls number r Miss w rest next e behind =
    subst (λ x. ValueFollows more rest (decided acls number r x next)) (sym e) behind
decided_follows more acls number r (Fault acl cause) w rest next e behind = ap (λ x. decided acls number r x next) e
decided_follows more acls number r (Need acl key) w rest next e behind =
    λ k is. ap (λ x. decided acls number r x next) (e k is)

rules_follow : (taken more : ℕ → TermValue) (acls : List Acl) → ((q : ℕ) → Follows more (taken q) (more q))
    → (default : Outcome) (number : ℕ) (rules : List Rule)
    → ValueFollows more (rules_from taken acls default number rules) (rules_from more acls default number rules)
rules_follow taken more acls at default number [] = refl
rules_follow taken more acls at default number (r ∷ rules) =
    decided_follows more acls number r (rule_value taken acls r) (rule_value more acls r)
    (rules_from taken acls default (number + 1) rules) (rules_from more acls default (number + 1) rules)
    (both_map more (term_value taken acls) (term_value more acls) r.terms
    (λ u. member_follows taken more acls at (suc u.acl) u))
    (rules_follow taken more acls at default (number + 1) rules)

if_follows : (more : ℕ → TermValue) (b c : Bool) → b ≡ c → Follows more (value_if b) (value_if c)
if_follows more true c e = ap value_if (sym e)
if_follows more false c e = ap value_if (sym e)

given_follows : (more : ℕ → TermValue) (acl : ℕ) (g : Given) (w : TermValue) → w ≡ by.given_value acl (Some g)
    → Follows more (by.given_value acl (Some g)) w
given_follows more acl given.Hit w e = e
given_follows more acl given.Miss w e = e
given_follows more acl (given.Fault cause) w e = e

-- what the answers give follows what was given
at_given : (facts : List Bool) (s : Sight) (answers : List Answer) (f : Standing) → facts ≡ facts_of f.config.acls s
    → AreGiven f.config s answers f → (acl : ℕ)
    → Follows (taken_at f.config s answers) (taken_of facts f acl) (taken_at f.config s answers acl)
at_given facts s answers f are all acl = by_acl (slice_get f.config.acls acl) refl
  where
    more : ℕ → TermValue
    more = taken_at f.config s answers

    by_body : (a : Acl) (b : Body) → slice_get f.config.acls acl ≡ Some a → a.body ≡ b
        → Follows more (by.taken_of_body facts (given_to f acl) acl b) (taken_of_body f.config s answers acl b)
    by_body a (body.Leaf l) here is =
        if_follows more (slice_index_or facts acl false) (holds l s)
        (ap (λ fs. slice_index_or fs acl false) are ∙ fact_at f.config.acls s acl a here ∙ ap (body_fact s) is)
    by_body a (body.External class arguments) here is = by_given (given_to f acl) refl
      where
        same : taken_at f.config s answers acl ≡ taken_of_body f.config s answers acl (body.External class arguments)
        same = ap (taken_of_acl f.config s answers acl) here ∙ ap (taken_of_body f.config s answers acl) is

        by_given : (o : Option Given) → given_to f acl ≡ o
            → Follows more (by.given_value acl o) (taken_of_body f.config s answers acl (body.External class arguments))
        by_given None e = λ k needs. sym same ∙ needs
        by_given (Some g) e =
            given_follows more acl g (taken_of_body f.config s answers acl (body.External class arguments))
            (sym same ∙ all acl g (ap external_of here ∙ ap is_external is) e)
    by_body a (body.AnyOf terms) here is = refl
    by_body a (body.AllOf lines) here is = refl

    by_acl : (o : Option Acl) → slice_get f.config.acls acl ≡ o
        → Follows more (by.taken_of_acl facts (given_to f acl) acl o) (taken_of_acl f.config s answers acl o)
    by_acl None here = refl
    by_acl (Some a) here = by_body a a.body here refl

follows_known : (more : ℕ → TermValue) (v w : TermValue) → Follows more v w → is_need v ≡ false → w ≡ v
follows_known more Hit w e known = e
follows_known more Miss w e known = e
follows_known more (Fault acl cause) w e known = e
follows_known more (Need acl key) w e known = absurd (cc)

over_here : (facts : List Bool) (s : Sight) (answers : List Answer) (f : Standing) → facts ≡ facts_of f.config.acls s
    → AreGiven f.config s answers f
    → ValueFollows (taken_at f.config s answers) (value_of facts f) (verdict_over answers f.config s)
over_here facts s answers f are all =
    rules_follow (taken_of facts f) (taken_at f.config s answers) f.config.acls (at_given facts s answers f are all)
    (default_of f.config.rules) 1 f.config.rules

extends_here : (facts : List Bool) (s : Sight) (answers : List Answer) (f : Standing)
    → facts ≡ facts_of f.config.acls s → AreGiven f.config s answers f
    → Extends (taken_of facts f) (taken_at f.config s answers)
extends_here facts s answers f are all = λ acl known.
    follows_known (taken_at f.config s answers) (taken_of facts f acl) (taken_at f.config s answers acl)
    (at_given facts s answers f are all acl) known

few_here : (facts : List Bool) (s : Sight) (answers : List Answer) (f : Standing) → facts ≡ facts_of f.config.acls s
    → AreGiven f.config s answers f → IsOver facts f
    → looks_in f ≤ leaves_over answers f.config s
few_here facts s answers f are all over = few_over facts f (taken_at f.config s answers) over
    (extends_here facts s answers f are all)

place_here : (facts : List Bool) (s : Sight) (answers : List Answer) (f : Standing) (n : ℕ)
    → facts ≡ facts_of f.config.acls s → AreGiven f.config s answers f → IsAt facts f n
    → n ≤ leaves_over answers f.config s
place_here facts s answers f n are all at =
    let y : leaves_over answers f.config s ≡ n
    + leaves f.config.acls (course_at (taken_at f.config s answers) f.config f.position).walk =
    at.leaves_are (taken_at f.config s answers) (extends_here facts s answers f are all) in
    omega (arith, y)

looks_here : (facts : List Bool) (s : Sight) (answers : List Answer) (f : Standing) (need : Option ℕ)
    → facts ≡ facts_of f.config.acls s → AreGiven f.config s answers f
    → IsAt facts f (leaves_of facts f) → IsWhole facts f.config f.table need
    → still_needed (taken_at f.config s answers) need ≡ true
    → looks_in f ≡ looks_over answers f.config s
looks_here facts s answers f need are all at whole still =
    let same : leaves_over answers f.config s ≡ leaves_of facts f =
    whole (taken_at f.config s answers) (extends_here facts s answers f are all) still in
    at.looks ∙ ap (min look_limit) (sym same)

-- what the rules come to over the answers follows what they come to over what was given
pub over_follows : (c : Configuration) (s : Sight) (answers : List Answer) (facts : List Bool) (f : Standing)
    → facts ≡ facts_of c.acls s → AreFrames c s answers facts f
    → ValueFollows (taken_at c s answers) (value_of facts f) (verdict_over answers c s)
over_follows c s answers facts f are is =
    subst (λ d. facts ≡ facts_of d.acls s → AreGiven d s answers f
    → ValueFollows (taken_at d s answers) (value_of facts f) (verdict_over answers d s)) is.config_is
    (over_here facts s answers f) are is.given

-- no more facts were looked at than the walk of the verdict over the answers has leaf acls
pub frames_few : (c : Configuration) (s : Sight) (answers : List Answer) (facts : List Bool) (f : Standing)
    → facts ≡ facts_of c.acls s → AreFrames c s answers facts f
    → looks_in f ≤ leaves_over answers c s
frames_few c s answers facts f are is =
    subst (λ d. facts ≡ facts_of d.acls s → AreGiven d s answers f → IsOver facts f
    → looks_in f ≤ leaves_over answers d s) is.config_is
    (few_here facts s answers f) are is.given is.over

-- nor did more lead to its place
place_few : (c : Configuration) (s : Sight) (answers : List Answer) (facts : List Bool) (f : Standing) (n : ℕ)
    → facts ≡ facts_of c.acls s → AreFrames c s answers facts f
    → IsAt facts f n
    → n ≤ leaves_over answers c s
place_few c s answers facts f n are is =
    subst (λ d. facts ≡ facts_of d.acls s → AreGiven d s answers f → IsAt facts f n
    → n ≤ leaves_over answers d s) is.config_is
    (place_here facts s answers f n) are is.given

-- where a run is over and the need that it came to is none or has no answer, as many facts were looked at as the walk
-- over the answers has leaf acls
pub frames_looked : (c : Configuration) (s : Sight) (answers : List Answer) (facts : List Bool) (f : Standing)
    (need : Option ℕ) → facts ≡ facts_of c.acls s → AreFrames c s answers facts f
    → IsAt facts f (leaves_of facts f) → IsWhole facts f.config f.table need
    → still_needed (taken_at c s answers) need ≡ true
    → looks_in f ≡ looks_over answers c s
frames_looked c s answers facts f need are is at whole =
    subst (λ d. facts ≡ facts_of d.acls s → AreGiven d s answers f → still_needed (taken_at d s answers) need ≡ true
    → looks_in f ≡ looks_over answers d s) is.config_is
    (λ are all. looks_here facts s answers f need are all at whole) are is.given

-- Frames on the way: so many looks by a counter and by the number that is kept of them, and no more than led to the
-- place.
pub record AreGoing (facts : List Bool) (f : Standing) (before after old : ℕ) : Type 0 where
  pub looked : ℕ
  pub place : ℕ
  pub at : IsAt facts f place
  pub few : looked ≤ place
  pub steps : after ≡ before + looked
  pub looks : looks_in f ≡ min look_limit (old + looked)

-- the looks of a run are counted
pub going_run : (facts : List Bool) (f g : Standing) (start before after looks : ℕ)
    → ((n : ℕ) → IsAt facts f n → (k : ℕ) × (after ≡ before + k) × IsAt facts g (n + k))
    → AreGoing facts f start before looks
    → AreGoing facts g start after looks
going_run facts f g start before after looks runs so_far =
    let r = runs so_far.place so_far.at in
    let old : f.position.looks ≡ min look_limit so_far.place = so_far.at.looks in
    let new : g.position.looks ≡ min look_limit (so_far.place + r.0) = r.2.looks in
    let steps : before ≡ start + so_far.looked = so_far.steps in
    let was : f.position.looks ≡ min look_limit (looks + so_far.looked) = so_far.looks in
    let few : so_far.looked ≤ so_far.place = so_far.few in
    let more : after ≡ before + r.0 = r.1 in
    record {
      looked = so_far.looked + r.0;
      place = so_far.place + r.0;
      at = r.2;
      few = omega (arith, few);
      steps = omega (arith, steps, more);
      looks = omega (arith, old, new, was);
    }

-- and those of frames that were given a value stay
pub going_given : (facts : List Bool) (f g : Standing) (before after looks : ℕ) → looks_in g ≡ looks_in f
    → ((n : ℕ) → IsAt facts f n → IsAt facts g n)
    → AreGoing facts f before after looks
    → AreGoing facts g before after looks
going_given facts f g before after looks same stays so_far = record {
  looked = so_far.looked;
  place = so_far.place;
  at = stays so_far.place so_far.at;
  few = so_far.few;
  steps = so_far.steps;
  looks = same ∙ so_far.looks;
}

-- no look yet
pub going_none : (facts : List Bool) (f : Standing) (n : ℕ) → IsOver facts f → AreGoing facts f n n (looks_in f)
going_none facts f n over =
    let old : f.position.looks ≡ min look_limit over.0 = over.1.looks in
    record {
      looked = 0;
      place = over.0;
      at = over.1;
      few = omega arith;
      steps = omega arith;
      looks = omega (arith, old);
    }

-- no more looks led to a place than the walk over the answers has leaf acls
pub going_counted : (c : Configuration) (s : Sight) (answers : List Answer) (facts : List Bool) (f : Standing)
    (before after looks : ℕ) → facts ≡ facts_of c.acls s → AreFrames c s answers facts f
    → AreGoing facts f before after looks
    → AreCounted (leaves_over answers c s) before after looks (looks_in f)
going_counted c s answers facts f before after looks are is so_far =
    let most : so_far.place ≤ leaves_over answers c s = place_few c s answers facts f so_far.place are is so_far.at in
    let few : so_far.looked ≤ so_far.place = so_far.few in
    record {
      looked = so_far.looked;
      few = omega (arith, most, few);
      steps = so_far.steps;
      looks = so_far.looks;
    }

-- no more looks are counted than the greatest number of them
pub limit_looks : (facts : List Bool) (f : Standing) → IsOver facts f → looks_in f ≤ look_limit
limit_looks facts f over =
    let old : f.position.looks ≡ min look_limit over.0 = over.1.looks in
    omega (arith, old)

-- frames that were given the same
pub frames_same : (c : Configuration) (s : Sight) (answers : List Answer) (facts : List Bool) (f g : Standing)
    → AreFrames c s answers facts f → g.config ≡ f.config → g.table ≡ f.table → IsOver facts g
    → AreFrames c s answers facts g
frames_same c s answers facts f g is config table over = record {
  config_is = config ∙ is.config_is;
  over = over;
  given = λ acl v external e.
      is.given acl v external (sym
      (ap (λ d. by.given_at (slots_of d.acls) g.table acl) config
      ∙ ap (λ t. by.given_at (slots_of f.config.acls) t acl) table) ∙ e);
}

same_of : (a b : ℕ) → (a == b) ≡ true → a ≡ b
same_of a b e = grind (arith, nat_tests, e)

-- frames of which the external acl that was needed was given the value of its answer
pub frames_given : (c : Configuration) (s : Sight) (answers : List Answer) (facts : List Bool) (f g : Standing)
    (need : ℕ) (v : Given) → AreFrames c s answers facts f → g.config ≡ f.config → IsOver facts g
    → ((acl : ℕ) → is_external_at f.config.acls acl ≡ true
    → given_to g acl ≡ (if acl == need then Some v else given_to f acl))
    → by.given_value need (Some v) ≡ taken_at c s answers need
    → AreFrames c s answers facts g
frames_given c s answers facts f g need v is config over after found = record {
  config_is = config ∙ is.config_is;
  over = over;
  given = λ acl h external e. by_acl acl h external (acl == need) refl
      (sym (after acl (ap (λ d. is_external_at d.acls acl) is.config_is ∙ external)) ∙ e);
}
  where
    by_acl : (acl : ℕ) (h : Given) → is_external_at c.acls acl ≡ true → (b : Bool) → (acl == need) ≡ b
        → (if acl == need then Some v else given_to f acl) ≡ Some h
        → taken_at c s answers acl ≡ by.given_value acl (Some h)
    by_acl acl h external true same e =
        let it : acl ≡ need = same_of acl need same in
        let its : v ≡ h = same_Some _ _ (sym (ap (λ b. if b then Some v else given_to f acl) same) ∙ e) in
        ap (taken_at c s answers) it ∙ sym found ∙ ap (λ n. by.given_value n (Some v)) (sym it)
        ∙ ap (λ x. by.given_value acl (Some x)) its
    by_acl acl h external false other e = is.given acl h external
        (sym (ap (λ b. if b then Some v else given_to f acl) other) ∙ e)

stays_if : (b : Bool) (x o p : Option What) (w : What) → (o ≡ Some w → p ≡ Some w) → (if b then x else o) ≡ Some w
    → (if b then x else p) ≡ Some w
stays_if true x o p w k e = e
stays_if false x o p w k e = k e

-- an answer that is there is found with more answers behind it
answer_stays : (answers more : List Answer) (class : ℕ) (key : List ℕ) (w : What)
    → answer_for answers class key ≡ Some w → answer_for (answers ++ more) class key ≡ Some w
answer_stays [] more class key w e = absurd (none-some w e)
answer_stays (a ∷ answers) more class key w e =
    stays_if (a.class == class && bytes_eq a.key key) (Some a.what) (answer_for answers class key)
    (answer_for (answers ++ more) class key) w (answer_stays answers more class key w) e

needs_none : (acl : ℕ) (key : List ℕ) (g : Given) → Need acl key ≢ by.given_value acl (Some g)
needs_none acl key given.Hit e = cc
needs_none acl key given.Miss e = cc
needs_none acl key (given.Fault cause) e = cc

value_stays : (acl : ℕ) (key : List ℕ) (g : Given) (o p : Option What) → ((w : What) → o ≡ Some w → p ≡ Some w)
    → answer_value acl key o ≡ by.given_value acl (Some g)
    → answer_value acl key p ≡ by.given_value acl (Some g)
value_stays acl key g None p k e = absurd (needs_none acl key g e)
value_stays acl key g (Some w) p k e = ap (answer_value acl key) (k w refl) ∙ e

body_stays : (c : Configuration) (s : Sight) (answers more : List Answer) (acl : ℕ) (g : Given) (b : Body)
    → taken_of_body c s answers acl b ≡ by.given_value acl (Some g)
    → taken_of_body c s (answers ++ more) acl b ≡ by.given_value acl (Some g)
body_stays c s answers more acl g (body.Leaf l) e = e
body_stays c s answers more acl g (body.External class arguments) e =
    value_stays acl (key_text c acl s) g (answer_for answers class (key_text c acl s))
    (answer_for (answers ++ more) class (key_text c acl s))
    (λ w is. answer_stays answers more class (key_text c acl s) w is) e
body_stays c s answers more acl g (body.AnyOf terms) e = e
body_stays c s answers more acl g (body.AllOf lines) e = e

acl_stays : (c : Configuration) (s : Sight) (answers more : List Answer) (acl : ℕ) (g : Given) (o : Option Acl)
    → taken_of_acl c s answers acl o ≡ by.given_value acl (Some g)
    → taken_of_acl c s (answers ++ more) acl o ≡ by.given_value acl (Some g)
acl_stays c s answers more acl g None e = e
acl_stays c s answers more acl g (Some a) e = body_stays c s answers more acl g a.body e

-- frames of a check to which more answers come
pub frames_stay : (c : Configuration) (s : Sight) (answers more : List Answer) (facts : List Bool) (f : Standing)
    → AreFrames c s answers facts f → AreFrames c s (answers ++ more) facts f
frames_stay c s answers more facts f is = record {
  config_is = is.config_is;
  over = is.over;
  given = λ acl g external e. acl_stays c s answers more acl g (slice_get c.acls acl) (is.given acl g external e);
}

-- frames to which nothing was given
pub frames_first : (c : Configuration) (s : Sight) (answers : List Answer) (facts : List Bool) (f : Standing)
    → f.config ≡ c → IsOver facts f → ((acl : ℕ) → given_to f acl ≡ None) → AreFrames c s answers facts f
frames_first c s answers facts f config over none = record {
  config_is = config;
  over = over;
  given = λ acl g external e. absurd (none-some g (sym (none acl) ∙ e));
}

-- the verdict that a run came to is that over the answers, and so is a need for which there is no answer
pub decided_over : (c : Configuration) (s : Sight) (answers : List Answer) (facts : List Bool) (f : Standing)
    (v : Value) (o : Outcome) → facts ≡ facts_of c.acls s → AreFrames c s answers facts f
    → v ≡ value_of facts f → v ≡ value.Verdict o → verdict_over answers c s ≡ v
decided_over c s answers facts f v o are is ran verdict =
    subst (λ x. ValueFollows (taken_at c s answers) x (verdict_over answers c s)) (sym ran ∙ verdict)
    (over_follows c s answers facts f are is) ∙ sym verdict

pub needed_over : (c : Configuration) (s : Sight) (answers : List Answer) (facts : List Bool) (f : Standing) (acl : ℕ)
    (key : List ℕ) → facts ≡ facts_of c.acls s → AreFrames c s answers facts f
    → value.Need acl [] ≡ value_of facts f → Need acl key ≡ taken_at c s answers acl
    → verdict_over answers c s ≡ value.Need acl key
needed_over c s answers facts f acl key are is ran found =
    subst (λ x. ValueFollows (taken_at c s answers) x (verdict_over answers c s)) (sym ran)
    (over_follows c s answers facts f are is) key (sym found)

-- the first answer is for the class and key
pub found_first : (a : Answer) (rest : List Answer) (class : ℕ) (key : List ℕ)
    → (a.class == class && bytes_eq a.key key) ≡ true → answer_for (a ∷ rest) class key ≡ Some a.what
found_first a rest class key e = rw e refl

none_if : (b : Bool) (x : What) (o : Option What) (rest : Bool) → (b || rest) ≡ false → (rest ≡ false → o ≡ None)
    → (if b then Some x else o) ≡ None
none_if true x o rest e k = absurd cc
none_if false x o rest e k = k e

-- where there is no answer, none is found
none_found : (answers : List Answer) (class : ℕ) (key : List ℕ) → has_answer answers class key ≡ false
    → answer_for answers class key ≡ None
none_found [] class key e = refl
none_found (a ∷ answers) class key e =
    none_if ((a.class == class) && bytes_eq a.key key) a.what (answer_for answers class key)
    (has_answer answers class key) e (none_found answers class key)

behind_if : (b : Bool) (x : What) (o p r : Option What) → (if b then Some x else o) ≡ None → (o ≡ None → p ≡ r)
    → (if b then Some x else p) ≡ r
behind_if true x o p r e k = absurd cc
behind_if false x o p r e k = k e

-- and then one behind is
found_behind : (answers more : List Answer) (class : ℕ) (key : List ℕ) → answer_for answers class key ≡ None
    → answer_for (answers ++ more) class key ≡ answer_for more class key
found_behind [] more class key e = refl
found_behind (a ∷ answers) more class key e =
    behind_if ((a.class == class) && bytes_eq a.key key) a.what (answer_for answers class key)
    (answer_for (answers ++ more) class key) (answer_for more class key) e (found_behind answers more class key)

both_true : (a b : Bool) → a ≡ true → b ≡ true → (a && b) ≡ true
both_true a b e f = rw (e, f) refl

-- an answer that is new is found where it is put
found_new : (answers : List Answer) (a : Answer) → has_answer answers a.class a.key ≡ false
    → answer_for (answers ++ a ∷ []) a.class a.key ≡ Some a.what
found_new answers a new =
    found_behind answers (a ∷ []) a.class a.key (none_found answers a.class a.key new)
    ∙ found_first a [] a.class a.key
    (both_true (a.class == a.class) (bytes_eq a.key a.key) (self_number a.class)
    ((bytes_eq-Decides a.key a.key).1 refl))

what_given : (acl : ℕ) (key : List ℕ) (w : What) → answer_value acl key (Some w)
    ≡ by.given_value acl (Some (given_by w))
what_given acl key (what.Yes pairs) = refl
what_given acl key (what.No pairs) = refl
what_given acl key (what.Fault cause) = refl

taken_new : (c : Configuration) (s : Sight) (answers : List Answer) (a : Answer) (acl : ℕ)
    → has_answer answers a.class a.key ≡ false → IsOf c s acl a.class a.key
    → taken_at c s (answers ++ a ∷ []) acl ≡ by.given_value acl (Some (given_by a.what))
taken_new c s answers a acl new is = by_acl (slice_get c.acls acl) refl
  where
    by_body : (b : Body) → class_of_body b ≡ Some a.class
        → taken_of_body c s (answers ++ a ∷ []) acl b ≡ by.given_value acl (Some (given_by a.what))
    by_body (body.Leaf l) e = absurd (none-some a.class e)
    by_body (body.External class arguments) e =
        let same : class ≡ a.class = same_Some _ _ e in
        let found : answer_for (answers ++ a ∷ []) class (key_text c acl s) ≡ Some a.what =
        ap (answer_for (answers ++ a ∷ []) class) is.1 ∙ ap (λ n. answer_for (answers ++ a ∷ []) n a.key) same
        ∙ found_new answers a new in
        ap (answer_value acl (key_text c acl s)) found ∙ what_given acl (key_text c acl s) a.what
    by_body (body.AnyOf terms) e = absurd (none-some a.class e)
    by_body (body.AllOf lines) e = absurd (none-some a.class e)

    by_acl : (o : Option Acl) → slice_get c.acls acl ≡ o
        → taken_of_acl c s (answers ++ a ∷ []) acl o ≡ by.given_value acl (Some (given_by a.what))
    by_acl None here =
        absurd (none-some a.class (sym (ap (option_and_then (λ (x : Acl). class_of_body x.body)) here) ∙ is.0))
    by_acl (Some x) here =
        by_body x.body (sym (ap (option_and_then (λ (x : Acl). class_of_body x.body)) here) ∙ is.0)

-- with an answer that is new, the acl for which was asked comes to its value
pub asked_taken : (c : Configuration) (s : Sight) (answers : List Answer) (a : Answer) (asks : Option ℕ)
    → has_answer answers a.class a.key ≡ false
    → IfSome asks (λ acl. IsOf c s acl a.class a.key)
    → IfSome asks (λ acl. taken_at c s (answers ++ a ∷ []) acl ≡ by.given_value acl (Some (given_by a.what)))
asked_taken c s answers a None new is = tt
asked_taken c s answers a (Some acl) new is = taken_new c s answers a acl new is
