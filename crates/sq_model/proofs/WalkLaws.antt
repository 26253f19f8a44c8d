-- What is so of the values and walks of leaf and external acls is so of rules over them.
use Rattle.std.proofs.Common.{◌≡◌, ◌⊎◌, inl, inr, ℕ, zero, suc, ◌+◌, List, [], ◌∷◌, ◌++◌, map, slice_get, Bool, true, false, ◌||◌, if◌then◌else◌, Option, Some, None, refl, sym, ap, subst, ◌∙◌}
use Rattle.std.specs.List.{list_any}
use Rattle.std.proofs.lemmas.Bool.{or_cases}
use Rattle.std.proofs.lemmas.List.Folds.{list_any-append}
use Rattle.sq_base.specs.declared.helpers.Answer.{Answer}
use Rattle.sq_base.specs.declared.helpers.What.{What}
use Rattle.sq_rules.specs.declared.configs.Acl.{Acl}
use Rattle.sq_rules.specs.declared.configs.Body.{Body}
use Rattle.sq_rules.specs.declared.configs.Body.TheVariants as body
use Rattle.sq_rules.specs.declared.configs.Rule.{Rule}
use Rattle.sq_rules.specs.declared.configs.Term.{Term}
use Rattle.sq_rules.specs.declared.outcomes.Outcome.{Outcome}
use Rattle.sq_rules.specs.declared.sights.Sight.{Sight}
use Rattle.sq_rules.specs.declared.values.TermValue.{TermValue}
use Rattle.sq_rules.specs.declared.values.TermValue.TheVariants.{Hit, Miss, Fault, Need}
use Rattle.sq_rules.specs.declared.values.Value.{Value}
use Rattle.sq_rules.specs.declared.values.Value.TheVariants as value
use Rattle.sq_rules.specs.Configurations.{Configuration}
use Rattle.sq_rules.specs.Keys.{key_text}
use Rattle.sq_rules.specs.Values.{acl_value, answer_for, answer_value, body_value, both, either, member_value, rule_value, taken_at, taken_of_acl, taken_of_body, turned}
use Rattle.sq_rules.specs.Verdicts.{decided, default_of, rules_from, verdict_over}
use Rattle.sq_rules.specs.Walks.{Seen, acl_walk, body_walk, is_hit, is_miss, line_seen, member_walk, rule_seen, rules_walk, term_seen, walk_over, walk_while}
use Rattle.sq_model.proofs.NeedLaws.{answer_stays}

-- a value and a walk, and what is behind it where the value goes on
abbrev pub then_seen : (TermValue → Bool) → Seen → Seen → Seen
then_seen goes_on x rest = record {
  value = if goes_on x.value then rest.value else x.value;
  walk = x.walk ++ (if goes_on x.value then rest.walk else []);
}

-- a value that is turned or not, with its walk
abbrev pub turned_seen : Bool → Seen → Seen
turned_seen b x = record { value = turned b x.value; walk = x.walk }

-- a value without a walk
abbrev pub alone_seen : TermValue → Seen
alone_seen v = record { value = v; walk = [] }

-- the value that is taken at a place
abbrev pub place_seen : (ℕ → TermValue) → ℕ → Seen
place_seen taken place = record { value = taken place; walk = place ∷ [] }

-- a relation of two values and walks that goes over from parts to the whole
pub record GoesOver (R : Seen → Seen → Type 0) : Type 0 where
  pub turns : (b : Bool) (x y : Seen) → R x y → R (turned_seen b x) (turned_seen b y)
  pub hits : R (alone_seen Hit) (alone_seen Hit)
  pub misses : R (alone_seen Miss) (alone_seen Miss)
  pub behind_hit : (x y r s : Seen) → R x y → R r s → R (then_seen is_hit x r) (then_seen is_hit y s)
  pub behind_miss : (x y r s : Seen) → R x y → R r s → R (then_seen is_miss x r) (then_seen is_miss y s)

both_is : (v : TermValue) (vs : List TermValue) → both (v ∷ vs) ≡ (if is_hit v then both vs else v)
both_is Hit vs = refl
both_is Miss vs = refl
both_is (Fault acl cause) vs = refl
both_is (Need acl key) vs = refl

either_is : (v : TermValue) (vs : List TermValue) → either (v ∷ vs) ≡ (if is_miss v then either vs else v)
either_is Hit vs = refl
either_is Miss vs = refl
either_is (Fault acl cause) vs = refl
either_is (Need acl key) vs = refl

abbrev both_seen : {A : Type 0} → (A → Seen) → List A → Seen
both_seen f xs = record { value = both (map (λ a. (f a).value) xs); walk = walk_while is_hit (map f xs) }

abbrev either_seen : {A : Type 0} → (A → Seen) → List A → Seen
either_seen f xs = record { value = either (map (λ a. (f a).value) xs); walk = walk_while is_miss (map f xs) }

valued : (R : Seen → Seen → Type 0) (v w v' w' : TermValue) (xs ys : List ℕ) → v' ≡ v → w' ≡ w
    → R (record { value = v; walk = xs }) (record { value = w; walk = ys })
    → R (record { value = v'; walk = xs }) (record { value = w'; walk = ys })
valued R v w v' w' xs ys e f r =
    subst (λ (z : TermValue). R (record { value = z; walk = xs }) (record { value = w'; walk = ys })) (sym e)
    (subst (λ (z : TermValue). R (record { value = v; walk = xs }) (record { value = z; walk = ys })) (sym f) r)

both_over : {A : Type 0} (R : Seen → Seen → Type 0) (f g : A → Seen) (xs : List A) → GoesOver R
    → ((a : A) → R (f a) (g a)) → R (both_seen f xs) (both_seen g xs)
both_over R f g [] c each = c.hits
both_over R f g (x ∷ xs) c each =
    valued R (then_seen is_hit (f x) (both_seen f xs)).value (then_seen is_hit (g x) (both_seen g xs)).value
    (both_seen f (x ∷ xs)).value (both_seen g (x ∷ xs)).value
    (both_seen f (x ∷ xs)).walk (both_seen g (x ∷ xs)).walk (both_is (f x).value (map (λ a. (f a).value) xs))
    (both_is (g x).value (map (λ a. (g a).value) xs))
    (c.behind_hit (f x) (g x) (both_seen f xs) (both_seen g xs) (each x) (both_over R f g xs c each))

either_over : {A : Type 0} (R : Seen → Seen → Type 0) (f g : A → Seen) (xs : List A) → GoesOver R
    → ((a : A) → R (f a) (g a)) → R (either_seen f xs) (either_seen g xs)
either_over R f g [] c each = c.misses
either_over R f g (x ∷ xs) c each =
    valued R (then_seen is_miss (f x) (either_seen f xs)).value (then_seen is_miss (g x) (either_seen g xs)).value
    (either_seen f (x ∷ xs)).value (either_seen g (x ∷ xs)).value
    (either_seen f (x ∷ xs)).walk (either_seen g (x ∷ xs)).walk (either_is (f x).value (map (λ a. (f a).value) xs))
    (either_is (g x).value (map (λ a. (g a).value) xs))
    (c.behind_miss (f x) (g x) (either_seen f xs) (either_seen g xs) (each x) (either_over R f g xs c each))

abbrev body_seen : (ℕ → TermValue) → (Term → Seen) → ℕ → Body → Seen
body_seen taken f place b = record { value = body_value taken (λ t. (f t).value) place b; walk = body_walk f place b }

abbrev acl_seen : (ℕ → TermValue) → (Term → Seen) → ℕ → Option Acl → Seen
acl_seen taken f place o = record { value = acl_value taken (λ t. (f t).value) place o; walk = acl_walk f place o }

abbrev member_seen : (ℕ → TermValue) → List Acl → ℕ → Term → Seen
member_seen taken acls before t = record {
  value = member_value taken acls before t;
  walk = member_walk taken acls before t;
}

-- rules, up to the first whose terms are no mismatch
abbrev pub rules_seen : (ℕ → TermValue) → List Acl → List Rule → Seen
rules_seen taken acls rules = record {
  value = either (map (rule_value taken acls) rules);
  walk = rules_walk taken acls rules;
}

body_over : (R : Seen → Seen → Type 0) (taken other : ℕ → TermValue) (f g : Term → Seen) (place : ℕ) (b : Body)
    → GoesOver R → ((p : ℕ) → R (place_seen taken p) (place_seen other p))
    → ((t : Term) → R (f t) (g t)) → R (body_seen taken f place b) (body_seen other g place b)
body_over R taken other f g place (body.Leaf l) c at each = at place
body_over R taken other f g place (body.External class arguments) c at each = at place
body_over R taken other f g place (body.AnyOf terms) c at each = either_over R f g terms c each
body_over R taken other f g place (body.AllOf lines) c at each =
    either_over R (line_seen f) (line_seen g) lines c (λ l. both_over R f g l c each)

acl_over : (R : Seen → Seen → Type 0) (taken other : ℕ → TermValue) (f g : Term → Seen) (place : ℕ) (o : Option Acl)
    → GoesOver R → ((p : ℕ) → R (place_seen taken p) (place_seen other p))
    → ((t : Term) → R (f t) (g t)) → R (acl_seen taken f place o) (acl_seen other g place o)
acl_over R taken other f g place None c at each = c.misses
acl_over R taken other f g place (Some a) c at each = body_over R taken other f g place a.body c at each

member_over : (R : Seen → Seen → Type 0) (taken other : ℕ → TermValue) (acls : List Acl) (before : ℕ) (t : Term)
    → GoesOver R → ((p : ℕ) → R (place_seen taken p) (place_seen other p))
    → R (member_seen taken acls before t) (member_seen other acls before t)
member_over R taken other acls zero t c at = c.misses
member_over R taken other acls (suc before) t c at =
    c.turns t.negated (acl_seen taken (member_seen taken acls before) t.acl (slice_get acls t.acl))
    (acl_seen other (member_seen other acls before) t.acl (slice_get acls t.acl))
    (acl_over R taken other (member_seen taken acls before) (member_seen other acls before) t.acl (slice_get acls t.acl)
    c at (λ m. member_over R taken other acls before m c at))

-- so it goes over from places to rules
pub rules_over : (R : Seen → Seen → Type 0) (taken other : ℕ → TermValue) (acls : List Acl) (rules : List Rule)
    → GoesOver R → ((p : ℕ) → R (place_seen taken p) (place_seen other p))
    → R (rules_seen taken acls rules) (rules_seen other acls rules)
rules_over R taken other acls rules c at =
    either_over R (rule_seen taken acls) (rule_seen other acls) rules c
    (λ r. both_over R (term_seen taken acls) (term_seen other acls) r.terms c
    (λ t. member_over R taken other acls (suc t.acl) t c at))

-- a value is a need
abbrev pub is_need : TermValue → Bool
is_need Hit = false
is_need Miss = false
is_need (Fault acl cause) = false
is_need (Need acl key) = true

needed_in : TermValue → Value → TermValue
needed_in v (value.Need acl key) = Need acl key
needed_in v (value.Verdict o) = v

-- rules that come to a need have the first value that is no mismatch as a need
pub rules_needing : (taken : ℕ → TermValue) (acls : List Acl) (default : Outcome) (number : ℕ) (rules : List Rule)
    (acl : ℕ) (key : List ℕ)
    → rules_from taken acls default number rules ≡ value.Need acl key
    → (rules_seen taken acls rules).value ≡ Need acl key
unfolding needed_in
rules_needing taken acls default number [] acl key e = absurd (cc)
rules_needing taken acls default number (r ∷ rules) acl key e =
    by (rule_value taken acls r) (rules_needing taken acls default (number + 1) rules acl key) e
  where
    by : (v : TermValue)
        → (rules_from taken acls default (number + 1) rules ≡ value.Need acl key
        → either (map (rule_value taken acls) rules) ≡ Need acl key)
        → decided acls number r v (rules_from taken acls default (number + 1) rules) ≡ value.Need acl key
        → either (v ∷ map (rule_value taken acls) rules) ≡ Need acl key
    by Hit more e = absurd (cc)
    by Miss more e = more e
    by (Fault a cause) more e = absurd (cc)
    by (Need a k) more e = ap (needed_in Hit) e

-- and those that come to a verdict have none
pub rules_decided : (taken : ℕ → TermValue) (acls : List Acl) (default : Outcome) (number : ℕ) (rules : List Rule)
    (o : Outcome)
    → rules_from taken acls default number rules ≡ value.Verdict o → is_need (rules_seen taken acls rules).value ≡ false
rules_decided taken acls default number [] o e = refl
rules_decided taken acls default number (r ∷ rules) o e = by (rule_value taken acls r)
    (rules_decided taken acls default (number + 1) rules o) e
  where
    by : (v : TermValue)
        → (rules_from taken acls default (number + 1) rules ≡ value.Verdict o
        → is_need (either (map (rule_value taken acls) rules)) ≡ false)
        → decided acls number r v (rules_from taken acls default (number + 1) rules) ≡ value.Verdict o
        → is_need (either (v ∷ map (rule_value taken acls) rules)) ≡ false
    by Hit more e = refl
    by Miss more e = more e
    by (Fault a cause) more e = refl
    by (Need a k) more e = absurd (cc)

need_turned : (b : Bool) (v : TermValue) → is_need (turned b v) ≡ is_need v
need_turned false v = refl
need_turned true Hit = refl
need_turned true Miss = refl
need_turned true (Fault acl cause) = refl
need_turned true (Need acl key) = refl

turned_need : (b : Bool) (v : TermValue) (acl : ℕ) (key : List ℕ) → turned b v ≡ Need acl key → v ≡ Need acl key
turned_need false v acl key e = e
turned_need true Hit acl key e = absurd (cc)
turned_need true Miss acl key e = absurd (cc)
turned_need true (Fault a cause) acl key e = absurd (cc)
turned_need true (Need a k) acl key e = e

-- a need goes on nowhere
pub record StopsAtNeed (goes_on : TermValue → Bool) : Type 0 where
  pub stops : (v : TermValue) → is_need v ≡ true → goes_on v ≡ false

hit_stops : StopsAtNeed is_hit
hit_stops = record { stops = λ v e. by v e }
  where
    by : (v : TermValue) → is_need v ≡ true → is_hit v ≡ false
    by Hit e = absurd (cc)
    by Miss e = refl
    by (Fault acl cause) e = refl
    by (Need acl key) e = refl

miss_stops : StopsAtNeed is_miss
miss_stops = record { stops = λ v e. by v e }
  where
    by : (v : TermValue) → is_need v ≡ true → is_miss v ≡ false
    by Hit e = refl
    by Miss e = absurd (cc)
    by (Fault acl cause) e = refl
    by (Need acl key) e = refl

in_left : (t : ℕ → Bool) (xs ys : List ℕ) → list_any t xs ≡ true → list_any t (xs ++ ys) ≡ true
in_left t xs ys e = list_any-append t xs ys ∙ ap (λ (b : Bool). b || list_any t ys) e

in_right : (t : ℕ → Bool) (xs ys : List ℕ) → list_any t ys ≡ true → list_any t (xs ++ ys) ≡ true
in_right t xs ys e = list_any-append t xs ys ∙ ap (λ (b : Bool). list_any t xs || b) e ∙ by (list_any t xs)
  where
    by : (b : Bool) → (b || true) ≡ true
    by true = refl
    by false = refl

in_either : (t : ℕ → Bool) (xs ys : List ℕ) → list_any t (xs ++ ys) ≡ true
    → (list_any t xs ≡ true) ⊎ (list_any t ys ≡ true)
in_either t xs ys e = or_cases (list_any t xs) (list_any t ys) (sym (list_any-append t xs ys) ∙ e)

-- where a value is no need, what the test finds in its walk makes b true
abbrev AnsweredBy : (ℕ → Bool) → Bool → Seen → Seen → Type 0
AnsweredBy t b x y = is_need x.value ≡ false → list_any t x.walk ≡ true → b ≡ true

answered_behind : (t : ℕ → Bool) (b : Bool) (goes_on : TermValue → Bool) → StopsAtNeed goes_on → (x y r s : Seen)
    → AnsweredBy t b x y → AnsweredBy t b r s
    → AnsweredBy t b (then_seen goes_on x r) (then_seen goes_on y s)
answered_behind t b goes_on st x y r s p q = by (is_need x.value) refl (goes_on x.value) refl
  where
    by : (n : Bool) → is_need x.value ≡ n → (d : Bool) → goes_on x.value ≡ d
        → is_need (if d then r.value else x.value) ≡ false
        → list_any t (x.walk ++ (if d then r.walk else [])) ≡ true → b ≡ true
    by true needs true go e found = absurd (let no = st.stops x.value needs in cc)
    by true needs false go e found = absurd (cc)
    by false clear true go e found = part (in_either t x.walk r.walk found)
      where
        part : (list_any t x.walk ≡ true) ⊎ (list_any t r.walk ≡ true) → b ≡ true
        part (inl f) = p clear f
        part (inr f) = q e f
    by false clear false go e found = part (in_either t x.walk [] found)
      where
        part : (list_any t x.walk ≡ true) ⊎ (false ≡ true) → b ≡ true
        part (inl f) = p clear f
        part (inr f) = absurd (cc)

answered_over : (t : ℕ → Bool) (b : Bool) → GoesOver (AnsweredBy t b)
answered_over t b = record {
  turns = λ n x y p e f. p (sym (need_turned n x.value) ∙ e) f;
  hits = λ e f. absurd (cc);
  misses = λ e f. absurd (cc);
  behind_hit = λ x y r s p q. answered_behind t b is_hit hit_stops x y r s p q;
  behind_miss = λ x y r s p q. answered_behind t b is_miss miss_stops x y r s p q;
}

-- a need is found in its walk
abbrev NeedsIn : (ℕ → Bool) → ℕ → List ℕ → Seen → Seen → Type 0
NeedsIn t acl key x y = x.value ≡ Need acl key → list_any t x.walk ≡ true

needs_behind : (t : ℕ → Bool) (acl : ℕ) (key : List ℕ) (goes_on : TermValue → Bool) (x y r s : Seen)
    → NeedsIn t acl key x y → NeedsIn t acl key r s
    → NeedsIn t acl key (then_seen goes_on x r) (then_seen goes_on y s)
needs_behind t acl key goes_on x y r s p q = by (goes_on x.value)
  where
    by : (d : Bool) → (if d then r.value else x.value) ≡ Need acl key
        → list_any t (x.walk ++ (if d then r.walk else [])) ≡ true
    by true e = in_right t x.walk r.walk (q e)
    by false e = in_left t x.walk [] (p e)

needs_over : (t : ℕ → Bool) (acl : ℕ) (key : List ℕ) → GoesOver (NeedsIn t acl key)
needs_over t acl key = record {
  turns = λ b x y p e. p (turned_need b x.value acl key e);
  hits = λ e. absurd (cc);
  misses = λ e. absurd (cc);
  behind_hit = λ x y r s p q. needs_behind t acl key is_hit x y r s p q;
  behind_miss = λ x y r s p q. needs_behind t acl key is_miss x y r s p q;
}

-- a value that is no need stays, and what the test finds in the walk it finds in the longer one
record Grows (t : ℕ → Bool) (x y : Seen) : Type 0 where
  value_or : (x.value ≡ y.value) ⊎ (is_need x.value ≡ true)
  found : list_any t x.walk ≡ true → list_any t y.walk ≡ true

grows_behind : (t : ℕ → Bool) (goes_on : TermValue → Bool) → StopsAtNeed goes_on → (x y r s : Seen) → Grows t x y
    → Grows t r s → Grows t (then_seen goes_on x r) (then_seen goes_on y s)
grows_behind t goes_on st x y r s p q = by p.value_or
  where
    going : (d : Bool) → goes_on x.value ≡ d → x.value ≡ y.value
        → Grows t (record { value = if d then r.value else x.value; walk = x.walk ++ (if d then r.walk else []) })
        (record { value = if d then s.value else y.value; walk = y.walk ++ (if d then s.walk else []) })
    going true go same = record { value_or = q.value_or; found = λ e. part (in_either t x.walk r.walk e) }
      where
        part : (list_any t x.walk ≡ true) ⊎ (list_any t r.walk ≡ true) → list_any t (y.walk ++ s.walk) ≡ true
        part (inl f) = in_left t y.walk s.walk (p.found f)
        part (inr f) = in_right t y.walk s.walk (q.found f)
    going false go same = record { value_or = inl same; found = λ e. part (in_either t x.walk [] e) }
      where
        part : (list_any t x.walk ≡ true) ⊎ (false ≡ true) → list_any t (y.walk ++ []) ≡ true
        part (inl f) = in_left t y.walk [] (p.found f)
        part (inr f) = absurd (cc)

    stopped : is_need x.value ≡ true → (d : Bool) → goes_on x.value ≡ d
        → Grows t (record { value = if d then r.value else x.value; walk = x.walk ++ (if d then r.walk else []) })
        (then_seen goes_on y s)
    stopped needs true go = absurd (let no = st.stops x.value needs in cc)
    stopped needs false go = record { value_or = inr needs; found = λ e. part (in_either t x.walk [] e) }
      where
        part : (list_any t x.walk ≡ true) ⊎ (false ≡ true)
            → list_any t (y.walk ++ (if goes_on y.value then s.walk else [])) ≡ true
        part (inl f) = in_left t y.walk (if goes_on y.value then s.walk else []) (p.found f)
        part (inr f) = absurd (cc)

    by : (x.value ≡ y.value) ⊎ (is_need x.value ≡ true) → Grows t (then_seen goes_on x r) (then_seen goes_on y s)
    by (inl same) =
        subst (λ (d : Bool). Grows t (then_seen goes_on x r)
        (record { value = if d then s.value else y.value; walk = y.walk ++ (if d then s.walk else []) }))
        (ap goes_on same)
        (going (goes_on x.value) refl same)
    by (inr needs) = stopped needs (goes_on x.value) refl

grows_turned : (t : ℕ → Bool) (b : Bool) (x y : Seen) → Grows t x y → Grows t (turned_seen b x) (turned_seen b y)
grows_turned t b x y p = record { value_or = by p.value_or; found = p.found }
  where
    by : (x.value ≡ y.value) ⊎ (is_need x.value ≡ true)
        → (turned b x.value ≡ turned b y.value) ⊎ (is_need (turned b x.value) ≡ true)
    by (inl e) = inl (ap (turned b) e)
    by (inr e) = inr (need_turned b x.value ∙ e)

grows_over : (t : ℕ → Bool) → GoesOver (Grows t)
grows_over t = record {
  turns = λ b x y p. grows_turned t b x y p;
  hits = record { value_or = inl refl; found = λ e. e };
  misses = record { value_or = inl refl; found = λ e. e };
  behind_hit = λ x y r s p q. grows_behind t is_hit hit_stops x y r s p q;
  behind_miss = λ x y r s p q. grows_behind t is_miss miss_stops x y r s p q;
}

alone : (t : ℕ → Bool) (p : ℕ) → list_any t (p ∷ []) ≡ true → t p ≡ true
alone t p e = by (t p) e
  where
    by : (b : Bool) → (b || false) ≡ true → b ≡ true
    by true e = refl
    by false e = e

alone_found : (t : ℕ → Bool) (p : ℕ) → t p ≡ true → list_any t (p ∷ []) ≡ true
alone_found t p e = ap (λ (b : Bool). b || false) e

-- over answers that give a verdict, no place of the walk has a need:
-- what a test finds in the walk is a place without one
pub walk_answered : (t : ℕ → Bool) (b : Bool) (answers : List Answer) (c : Configuration) (s : Sight) (o : Outcome)
    → verdict_over answers c s ≡ value.Verdict o
    → ((p : ℕ) → is_need (taken_at c s answers p) ≡ false → t p ≡ true → b ≡ true)
    → list_any t (walk_over answers c s) ≡ true → b ≡ true
walk_answered t b answers c s o is at =
    rules_over (AnsweredBy t b) (taken_at c s answers) (taken_at c s answers) c.acls c.rules (answered_over t b)
    (λ p e f. at p e (alone t p f))
    (rules_decided (taken_at c s answers) c.acls (default_of c.rules) 1 c.rules o is)

-- what is needed stands in the walk
pub need_walked : (t : ℕ → Bool) (answers : List Answer) (c : Configuration) (s : Sight) (acl : ℕ) (key : List ℕ)
    → verdict_over answers c s ≡ value.Need acl key
    → ((p : ℕ) → taken_at c s answers p ≡ Need acl key → t p ≡ true) → list_any t (walk_over answers c s) ≡ true
need_walked t answers c s acl key is at =
    rules_over (NeedsIn t acl key) (taken_at c s answers) (taken_at c s answers) c.acls c.rules (needs_over t acl key)
    (λ p e. alone_found t p (at p e))
    (rules_needing (taken_at c s answers) c.acls (default_of c.rules) 1 c.rules acl key is)

-- with more answers a place has the value that it had, or had a need
taken_grows : (c : Configuration) (s : Sight) (xs ys : List Answer) (place : ℕ)
    → (taken_at c s xs place ≡ taken_at c s (xs ++ ys) place) ⊎ (is_need (taken_at c s xs place) ≡ true)
taken_grows c s xs ys place = by (slice_get c.acls place)
  where
    key : List ℕ
    key = key_text c place s

    by_answer : (class : ℕ) (o : Option What) → answer_for xs class key ≡ o
        → (answer_value place key o ≡ answer_value place key (answer_for (xs ++ ys) class key))
        ⊎ (is_need (answer_value place key o) ≡ true)
    by_answer class None is = inr refl
    by_answer class (Some w) is = inl (ap (answer_value place key) (sym (answer_stays xs ys class key w is)))

    by_body : (b : Body) → (taken_of_body c s xs place b ≡ taken_of_body c s (xs ++ ys) place b)
        ⊎ (is_need (taken_of_body c s xs place b) ≡ true)
    by_body (body.Leaf l) = inl refl
    by_body (body.External class arguments) = by_answer class (answer_for xs class key) refl
    by_body (body.AnyOf terms) = inl refl
    by_body (body.AllOf lines) = inl refl

    by : (o : Option Acl)
        → (taken_of_acl c s xs place o ≡ taken_of_acl c s (xs ++ ys) place o)
        ⊎ (is_need (taken_of_acl c s xs place o) ≡ true)
    by None = inl refl
    by (Some a) = by_body a.body

-- with more answers the walk has what it had
pub walk_grows : (t : ℕ → Bool) (xs ys : List Answer) (c : Configuration) (s : Sight)
    → list_any t (walk_over xs c s) ≡ true → list_any t (walk_over (xs ++ ys) c s) ≡ true
walk_grows t xs ys c s =
    (rules_over (Grows t) (taken_at c s xs) (taken_at c s (xs ++ ys)) c.acls c.rules (grows_over t)
    (λ p. record { value_or = taken_grows c s xs ys p; found = λ e. e })).found
