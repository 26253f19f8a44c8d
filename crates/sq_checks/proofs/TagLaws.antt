-- The first tag of a walk is found as its terms are.
use Rattle.std.proofs.Common.{◌≡◌, ℕ, List, [], ◌∷◌, ◌++◌, map, slice_get, Bool, true, false, if◌then◌else◌, Option, Some, None, refl, sym, ap, ◌∙◌}
use Rattle.std.specs.Option.{option_map, option_or}
use Rattle.std.specs.Prelude.{find}
use Rattle.sq_base.specs.declared.helpers.Answer.{Answer}
use Rattle.sq_rules.specs.Tags.{first_tag, tag_of}
use Rattle.sq_rules.specs.Configurations.{are_known_bodies}
use Rattle.sq_rules.specs.Values.{answer_for, both, either, turned}
use Rattle.sq_rules.specs.Walks.{Seen, is_hit, is_miss, line_seen, rule_seen, term_seen, walk_while}
use Rattle.sq_rules.specs.declared.configs.Rule.{Rule}
use Rattle.sq_rules.specs.declared.configs.Term.{Term}
use Rattle.sq_rules.specs.declared.values.TermValue.{TermValue}
use Rattle.sq_rules.specs.declared.values.TermValue.TheVariants.{Hit, Miss, Fault, Need}
use Rattle.sq_eval.specs.Takings.{answers_for}
use Rattle.sq_checks.specs.Traces.{all_traced, line_traced, rules_tag, some_traced, tags_in, tags_while, taken_by_tags, term_traced, trace}
use Rattle.sq_checks.specs.declared.tags.TagInputs.{TagInputs}
use Rattle.sq_checks.specs.declared.tags.Traced.{Traced}
use Rattle.sq_checks.proofs.SeenLaws.{acl_seen, term_over_members}

-- tags one after the other

pub or_or : (o p q : Option (List ℕ)) → option_or (option_or o p) q ≡ option_or o (option_or p q)
or_or None p q = refl
or_or (Some t) p q = refl

pub or_none : (o : Option (List ℕ)) → option_or o None ≡ o
or_none None = refl
or_none (Some t) = refl

first_append : (tag : ℕ → Option (List ℕ)) (a b : List ℕ)
    → first_tag tag (a ++ b) ≡ option_or (first_tag tag a) (first_tag tag b)
first_append tag [] b = refl
first_append tag (x ∷ a) b = ap (option_or (tag x)) (first_append tag a b)
    ∙ sym (or_or (tag x) (first_tag tag a) (first_tag tag b))

walk_tags : (tag : ℕ → Option (List ℕ)) (goes_on : TermValue → Bool) (xs : List Seen)
    → first_tag tag (walk_while goes_on xs) ≡ tags_while goes_on (map (trace tag) xs)
walk_tags tag goes_on [] = refl
walk_tags tag goes_on (x ∷ xs) =
    first_append tag x.walk (if goes_on x.value then walk_while goes_on xs else [])
    ∙ ap (option_or (first_tag tag x.walk)) (by (goes_on x.value) (walk_tags tag goes_on xs))
  where
    by : (b : Bool) → first_tag tag (walk_while goes_on xs) ≡ tags_while goes_on (map (trace tag) xs)
        → first_tag tag (if b then walk_while goes_on xs else [])
        ≡ (if b then tags_while goes_on (map (trace tag) xs) else None)
    by true e = e
    by false e = refl

maps : {A B C : Type 0} (g : B → C) (f : A → B) (xs : List A) → map g (map f xs) ≡ map (λ x. g (f x)) xs
maps g f [] = refl
maps g f (x ∷ xs) = ap (λ ys. g (f x) ∷ ys) (maps g f xs)

map_same : {A B : Type 0} (f g : A → B) (xs : List A) → ((x : A) → f x ≡ g x) → map f xs ≡ map g xs
map_same f g [] same = refl
map_same f g (x ∷ xs) same = ap (λ y. y ∷ map f xs) (same x) ∙ ap (λ ys. g x ∷ ys) (map_same f g xs same)

abbrev pub traced : TermValue → Option (List ℕ) → Traced
traced v t = record { value = v; tag = t }

pub traced_same : (v w : TermValue) (t u : Option (List ℕ)) → v ≡ w → t ≡ u → traced v t ≡ traced w u
traced_same v w t u a b = rw (a, b) refl

-- some of several, and all of several

some_is : {A : Type 0} (tag : ℕ → Option (List ℕ)) (f : A → Seen) (xs : List A)
    → trace tag (record { value = either (map (λ x. (f x).value) xs); walk = walk_while is_miss (map f xs) })
    ≡ some_traced (map (λ x. trace tag (f x)) xs)
some_is tag f xs = traced_same _ _ _ _
    (ap either (sym (maps (λ (y : Traced). y.value) (λ x. trace tag (f x)) xs)))
    (walk_tags tag is_miss (map f xs) ∙ ap (tags_while is_miss) (maps (trace tag) f xs))

all_is : {A : Type 0} (tag : ℕ → Option (List ℕ)) (f : A → Seen) (xs : List A)
    → trace tag (record { value = both (map (λ x. (f x).value) xs); walk = walk_while is_hit (map f xs) })
    ≡ all_traced (map (λ x. trace tag (f x)) xs)
all_is tag f xs = traced_same _ _ _ _
    (ap both (sym (maps (λ (y : Traced). y.value) (λ x. trace tag (f x)) xs)))
    (walk_tags tag is_hit (map f xs) ∙ ap (tags_while is_hit) (maps (trace tag) f xs))

-- members of any-of
pub members_are : (t : TagInputs) (terms : List Term)
    → trace (tags_in t) (record {
      value = either (map (λ m. (term_seen (taken_by_tags t) t.config.now.acls m).value) terms);
      walk = walk_while is_miss (map (term_seen (taken_by_tags t) t.config.now.acls) terms);
    }) ≡ some_traced (map (term_traced t) terms)
members_are t terms = some_is (tags_in t) (term_seen (taken_by_tags t) t.config.now.acls) terms

line_is : (t : TagInputs) (terms : List Term)
    → trace (tags_in t) (line_seen (term_seen (taken_by_tags t) t.config.now.acls) terms) ≡ line_traced t terms
line_is t terms = all_is (tags_in t) (term_seen (taken_by_tags t) t.config.now.acls) terms

-- lines of all-of
pub lines_are : (t : TagInputs) (lines : List (List Term))
    → trace (tags_in t) (record {
      value = either (map (λ l. both (map (λ m. (term_seen (taken_by_tags t) t.config.now.acls m).value) l)) lines);
      walk = walk_while is_miss (map (line_seen (term_seen (taken_by_tags t) t.config.now.acls)) lines);
    }) ≡ some_traced (map (λ l. line_traced t l) lines)
lines_are t lines =
    some_is (tags_in t) (line_seen (term_seen (taken_by_tags t) t.config.now.acls)) lines
    ∙ ap some_traced (map_same (λ l. trace (tags_in t) (line_seen (term_seen (taken_by_tags t) t.config.now.acls) l))
    (λ l. line_traced t l) lines (line_is t))

-- rules
pub rules_are : (t : TagInputs)
    → tag_of t.config.now t.sight.now t.answers.now ≡ rules_tag t t.config.now.rules
rules_are t =
    let f = rule_seen (taken_by_tags t) t.config.now.acls in
    walk_tags (tags_in t) is_miss (map f t.config.now.rules)
    ∙ ap (tags_while is_miss) (maps (trace (tags_in t)) f t.config.now.rules
    ∙ map_same (λ (r : Rule). trace (tags_in t) (f r)) (λ r. line_traced t r.terms) t.config.now.rules
    (λ r. line_is t r.terms))

-- a term over the acl that it names
pub term_is : (t : TagInputs) (m : Term) (classes : ℕ) → are_known_bodies classes 0 t.config.now.acls ≡ true
    → (x : Traced)
    → x ≡ trace (tags_in t) (acl_seen (taken_by_tags t) (term_seen (taken_by_tags t) t.config.now.acls) m.acl
    (slice_get t.config.now.acls m.acl))
    → traced (turned m.negated x.value) x.tag ≡ term_traced t m
term_is t m classes known x is =
    ap (λ (y : Traced). traced (turned m.negated y.value) y.tag) is
    ∙ sym (ap (trace (tags_in t)) (term_over_members (taken_by_tags t) classes t.config.now.acls m known))

-- answers
answer_found : (answers : List Answer) (class : ℕ) (key : List ℕ)
    → answer_for answers class key ≡ option_map (λ a. a.what) (find (λ a. answers_for a class key) answers)
answer_found [] class key = refl
answer_found (a ∷ answers) class key = by (answers_for a class key) (answer_found answers class key)
  where
    by : (b : Bool)
        → answer_for answers class key ≡ option_map (λ a. a.what) (find (λ a. answers_for a class key) answers)
        → (if b then Some a.what else answer_for answers class key)
        ≡ option_map (λ a. a.what) (if b then Some a else find (λ a. answers_for a class key) answers)
    by true e = refl
    by false e = e

pub answer_by : (answers xs : List Answer) (class : ℕ) (key text : List ℕ) (o : Option Answer) → key ≡ text
    → xs ≡ answers → o ≡ find (λ a. answers_for a class key) xs
    → answer_for answers class text ≡ option_map (λ a. a.what) o
answer_by answers xs class key text o same whole first =
    ap (answer_for answers class) (sym same) ∙ answer_found answers class key
    ∙ ap (λ ys. option_map (λ a. a.what) (find (λ a. answers_for a class key) ys)) (sym whole)
    ∙ ap (option_map (λ a. a.what)) (sym first)

-- lists that are gone through

pub some_more : (v : TermValue) (t : Option (List ℕ)) (xs : List Traced) (tag : Option (List ℕ)) → is_miss v ≡ true
    → traced (some_traced (traced v t ∷ xs)).value (option_or tag (some_traced (traced v t ∷ xs)).tag)
    ≡ traced (some_traced xs).value (option_or (option_or tag t) (some_traced xs).tag)
some_more v t xs tag miss = by v miss
  where
    by : (w : TermValue) → is_miss w ≡ true
        → traced (some_traced (traced w t ∷ xs)).value (option_or tag (some_traced (traced w t ∷ xs)).tag)
        ≡ traced (some_traced xs).value (option_or (option_or tag t) (some_traced xs).tag)
    by Miss e = ap (traced (some_traced xs).value) (sym (or_or tag t (some_traced xs).tag))
    by Hit e = absurd (cc)
    by (Fault acl cause) e = absurd (cc)
    by (Need acl key) e = absurd (cc)

pub all_more : (v : TermValue) (t : Option (List ℕ)) (xs : List Traced) (tag : Option (List ℕ)) → is_hit v ≡ true
    → traced (all_traced (traced v t ∷ xs)).value (option_or tag (all_traced (traced v t ∷ xs)).tag)
    ≡ traced (all_traced xs).value (option_or (option_or tag t) (all_traced xs).tag)
all_more v t xs tag hit = by v hit
  where
    by : (w : TermValue) → is_hit w ≡ true
        → traced (all_traced (traced w t ∷ xs)).value (option_or tag (all_traced (traced w t ∷ xs)).tag)
        ≡ traced (all_traced xs).value (option_or (option_or tag t) (all_traced xs).tag)
    by Hit e = ap (traced (all_traced xs).value) (sym (or_or tag t (all_traced xs).tag))
    by Miss e = absurd (cc)
    by (Fault acl cause) e = absurd (cc)
    by (Need acl key) e = absurd (cc)

-- and end there

pub some_end : (v : TermValue) (t : Option (List ℕ)) (xs : List Traced) (tag : Option (List ℕ)) → is_miss v ≡ false
    → traced (some_traced (traced v t ∷ xs)).value (option_or tag (some_traced (traced v t ∷ xs)).tag)
    ≡ traced v (option_or tag t)
some_end v t xs tag other = by v other
  where
    by : (w : TermValue) → is_miss w ≡ false
        → traced (some_traced (traced w t ∷ xs)).value (option_or tag (some_traced (traced w t ∷ xs)).tag)
        ≡ traced w (option_or tag t)
    by Miss e = absurd (cc)
    by Hit e = ap (λ o. traced Hit (option_or tag o)) (or_none t)
    by (Fault acl cause) e = ap (λ o. traced (Fault acl cause) (option_or tag o)) (or_none t)
    by (Need acl key) e = ap (λ o. traced (Need acl key) (option_or tag o)) (or_none t)

pub all_end : (v : TermValue) (t : Option (List ℕ)) (xs : List Traced) (tag : Option (List ℕ)) → is_hit v ≡ false
    → traced (all_traced (traced v t ∷ xs)).value (option_or tag (all_traced (traced v t ∷ xs)).tag)
    ≡ traced v (option_or tag t)
all_end v t xs tag other = by v other
  where
    by : (w : TermValue) → is_hit w ≡ false
        → traced (all_traced (traced w t ∷ xs)).value (option_or tag (all_traced (traced w t ∷ xs)).tag)
        ≡ traced w (option_or tag t)
    by Hit e = absurd (cc)
    by Miss e = ap (λ o. traced Miss (option_or tag o)) (or_none t)
    by (Fault acl cause) e = ap (λ o. traced (Fault acl cause) (option_or tag o)) (or_none t)
    by (Need acl key) e = ap (λ o. traced (Need acl key) (option_or tag o)) (or_none t)
