-- The value of a term is that of its acl over its members' values, and where no helper is reached, no answer matters.
use Rattle.std.proofs.Common.{◌≡◌, ℕ, ◌+◌, ◌<◌, zero, suc, List, [], ◌∷◌, Bool, true, false, ◌&&◌, ◌||◌, not, nat_lt, Some, None, refl, sym, ap, ◌∙◌, map, take, length, arith, slice_get, slice_index_or}
use Rattle.std.proofs.lemmas.Bool.Decides.{nat_tests}
use Rattle.std.proofs.lemmas.List.{get_or-take}
use Rattle.std.specs.List.{list_all, list_any}
use Rattle.std.specs.declared.option.Option.{Option}
use Rattle.sq_base.specs.declared.helpers.Answer.{Answer}
use Rattle.sq_rules.proofs.TableLaws.{slow_at}
use Rattle.sq_rules.specs.Configurations.{Configuration, IsConfiguration, asks_nobody, are_known, are_known_bodies, is_fast_rule, is_known_body, is_known_rule, is_leaf_body, is_slow, slow_ones, some_slow}
use Rattle.sq_rules.specs.Leaves.{holds}
use Rattle.sq_rules.specs.Values.{acl_value, body_value, both, either, member_value, rule_value, taken_at, taken_of_acl, taken_of_body, term_value, turned, value_if}
use Rattle.sq_rules.specs.Verdicts.{decided, default_of, is_plain_why, outcome_so_far, rules_from, verdict, verdict_over}
use Rattle.sq_rules.specs.declared.configs.Acl.{Acl}
use Rattle.sq_rules.specs.declared.configs.Body.{Body}
use Rattle.sq_rules.specs.declared.configs.Body.TheVariants as body
use Rattle.sq_rules.specs.declared.configs.Rule.{Rule}
use Rattle.sq_rules.specs.declared.configs.Term.{Term}
use Rattle.sq_rules.specs.declared.outcomes.Outcome.{Outcome}
use Rattle.sq_rules.specs.declared.sights.Sight.{Sight}
use Rattle.sq_rules.specs.declared.values.TermValue.{TermValue}
use Rattle.sq_rules.specs.declared.values.TermValue.TheVariants.{Hit, Miss, Fault, Need}
use Rattle.sq_rules.specs.declared.values.Value.{Value}
use Rattle.sq_rules.specs.declared.values.Value.TheVariants as value

left : (a b : Bool) → (a && b) ≡ true → a ≡ true
left true b e = refl
left false b e = cc

right : (a b : Bool) → (a && b) ≡ true → b ≡ true
right true b e = e
right false b e = cc

neither_left : (a b : Bool) → (a || b) ≡ false → a ≡ false
neither_left true b e = cc
neither_left false b e = refl

neither_right : (a b : Bool) → (a || b) ≡ false → b ≡ false
neither_right true b e = cc
neither_right false b e = e

below : (a b : ℕ) → nat_lt a b ≡ true → a < b
below a b e = grind (arith, nat_tests, e)

-- the acl at a place names what there is before it
pub known_at : (classes place : ℕ) (acls : List Acl) (i : ℕ) (a : Acl) → are_known_bodies classes place acls ≡ true
    → slice_get acls i ≡ Some a → is_known_body classes (place + i) a.body ≡ true
known_at classes place [] i a known is = absurd (cc)
known_at classes place (b ∷ acls) zero a known is =
    let same : b ≡ a = cc in
    let here : place + 0 ≡ place = omega arith in
    rw here (ap (λ x. is_known_body classes place x.body) (sym same)
    ∙ left (is_known_body classes place b.body) (are_known_bodies classes (suc place) acls) known)
known_at classes place (b ∷ acls) (suc i) a known is =
    let there : place + suc i ≡ suc place + i = omega arith in
    rw there (known_at classes (suc place) acls i a
    (right (is_known_body classes place b.body) (are_known_bodies classes (suc place) acls) known) is)

-- the same of all acls
pub known_here : (classes : ℕ) (acls : List Acl) (p : ℕ) (a : Acl) → are_known_bodies classes 0 acls ≡ true
    → slice_get acls p ≡ Some a → is_known_body classes p a.body ≡ true
known_here classes acls p a known is =
    let same : 0 + p ≡ p = omega arith in
    ap (λ n. is_known_body classes n a.body) (sym same) ∙ known_at classes 0 acls p a known is

-- two values of each term below a place agree
abbrev Agree : ℕ → (Term → TermValue) → (Term → TermValue) → Type 0
Agree p f g = (u : Term) → u.acl < p → f u ≡ g u

terms_same : (p : ℕ) (f g : Term → TermValue) (terms : List Term) → are_known p terms ≡ true → Agree p f g
    → map f terms ≡ map g terms
terms_same p f g [] known same = refl
terms_same p f g (t ∷ terms) known same =
    ap (λ v. v ∷ map f terms) (same t (below t.acl p (left (nat_lt t.acl p) (are_known p terms) known)))
    ∙ ap (λ vs. g t ∷ vs) (terms_same p f g terms (right (nat_lt t.acl p) (are_known p terms) known) same)

lines_same : (p : ℕ) (f g : Term → TermValue) (lines : List (List Term)) → list_all (are_known p) lines ≡ true
    → Agree p f g
    → map (λ l. both (map f l)) lines ≡ map (λ l. both (map g l)) lines
lines_same p f g [] known same = refl
lines_same p f g (l ∷ lines) known same =
    ap (λ vs. both vs ∷ map (λ k. both (map f k)) lines)
    (terms_same p f g l (left (are_known p l) (list_all (are_known p) lines) known) same)
    ∙ ap (λ vs. both (map g l) ∷ vs)
    (lines_same p f g lines (right (are_known p l) (list_all (are_known p) lines) known) same)

body_same : (taken : ℕ → TermValue) (classes p : ℕ) (f g : Term → TermValue) (b : Body)
    → is_known_body classes p b ≡ true → Agree p f g
    → body_value taken f p b ≡ body_value taken g p b
body_same taken classes p f g (body.Leaf l) known same = refl
body_same taken classes p f g (body.External class arguments) known same = refl
body_same taken classes p f g (body.AnyOf terms) known same = ap either (terms_same p f g terms known same)
body_same taken classes p f g (body.AllOf lines) known same = ap either (lines_same p f g lines known same)

acl_same : (taken : ℕ → TermValue) (classes : ℕ) (acls : List Acl) (p : ℕ) (f g : Term → TermValue) (o : Option Acl)
    → are_known_bodies classes 0 acls ≡ true
    → slice_get acls p ≡ o → Agree p f g → acl_value taken f p o ≡ acl_value taken g p o
acl_same taken classes acls p f g None known is same = refl
acl_same taken classes acls p f g (Some a) known is same = body_same taken classes p f g a.body
    (known_here classes acls p a known is) same

-- a member has its value however many acls may stand before its group
members_agree : (taken : ℕ → TermValue) (classes : ℕ) (acls : List Acl) → are_known_bodies classes 0 acls ≡ true
    → (n m : ℕ) (t : Term) → t.acl < n → t.acl < m
    → member_value taken acls n t ≡ member_value taken acls m t
members_agree taken classes acls known zero m t small less = absurd (omega arith)
members_agree taken classes acls known (suc n) zero t small less = absurd (omega arith)
members_agree taken classes acls known (suc n) (suc m) t small less =
    ap (turned t.negated)
    (acl_same taken classes acls t.acl (member_value taken acls n) (member_value taken acls m) (slice_get acls t.acl)
    known refl
    (λ u under. members_agree taken classes acls known n m u (omega arith) (omega arith)))

-- the value of a term, over those of the members of its acl
pub term_over_members : (taken : ℕ → TermValue) (classes : ℕ) (acls : List Acl) (t : Term)
    → are_known_bodies classes 0 acls ≡ true
    → term_value taken acls t ≡ turned t.negated (acl_value taken (term_value taken acls) t.acl (slice_get acls t.acl))
term_over_members taken classes acls t known =
    ap (turned t.negated)
    (acl_same taken classes acls t.acl (member_value taken acls t.acl) (term_value taken acls) (slice_get acls t.acl)
    known refl
    (λ u under. members_agree taken classes acls known t.acl (suc u.acl) u under (omega arith)))

-- two takings agree on leaf acls
abbrev pub AgreeOnLeaves : List Acl → (ℕ → TermValue) → (ℕ → TermValue) → Type 0
AgreeOnLeaves acls taken other = (p : ℕ) (a : Acl) → slice_get acls p ≡ Some a → is_leaf_body a.body ≡ true
    → taken p ≡ other p

-- two values of each fast term below a place agree
abbrev AgreeFast : List Bool → ℕ → (Term → TermValue) → (Term → TermValue) → Type 0
AgreeFast slow p f g = (u : Term) → u.acl < p → slice_index_or slow u.acl false ≡ false → f u ≡ g u

fast_same : (slow : List Bool) (p : ℕ) (f g : Term → TermValue) (terms : List Term) → are_known p terms ≡ true
    → some_slow (take p slow) terms ≡ false → AgreeFast slow p f g
    → map f terms ≡ map g terms
fast_same slow p f g [] known fast same = refl
fast_same slow p f g (t ∷ terms) known fast same =
    let under : t.acl < p = below t.acl p (left (nat_lt t.acl p) (are_known p terms) known) in
    let here : slice_index_or (take p slow) t.acl false ≡ false =
    neither_left (slice_index_or (take p slow) t.acl false) (some_slow (take p slow) terms) fast in
    ap (λ v. v ∷ map f terms) (same t under (sym (get_or-take p slow t.acl false under) ∙ here))
    ∙ ap (λ vs. g t ∷ vs)
    (fast_same slow p f g terms (right (nat_lt t.acl p) (are_known p terms) known)
    (neither_right (slice_index_or (take p slow) t.acl false) (some_slow (take p slow) terms) fast) same)

fast_lines : (slow : List Bool) (p : ℕ) (f g : Term → TermValue) (lines : List (List Term))
    → list_all (are_known p) lines ≡ true → list_any (some_slow (take p slow)) lines ≡ false
    → AgreeFast slow p f g → map (λ l. both (map f l)) lines ≡ map (λ l. both (map g l)) lines
fast_lines slow p f g [] known fast same = refl
fast_lines slow p f g (l ∷ lines) known fast same =
    ap (λ vs. both vs ∷ map (λ k. both (map f k)) lines)
    (fast_same slow p f g l (left (are_known p l) (list_all (are_known p) lines) known)
    (neither_left (some_slow (take p slow) l) (list_any (some_slow (take p slow)) lines) fast) same)
    ∙ ap (λ vs. both (map g l) ∷ vs)
    (fast_lines slow p f g lines (right (are_known p l) (list_all (are_known p) lines) known)
    (neither_right (some_slow (take p slow) l) (list_any (some_slow (take p slow)) lines) fast) same)

fast_body : (taken other : ℕ → TermValue) (classes : ℕ) (slow : List Bool) (p : ℕ) (f g : Term → TermValue) (b : Body)
    → is_known_body classes p b ≡ true
    → is_slow (take p slow) b ≡ false → (is_leaf_body b ≡ true → taken p ≡ other p) → AgreeFast slow p f g
    → body_value taken f p b ≡ body_value other g p b
fast_body taken other classes slow p f g (body.Leaf l) known fast leaf same = leaf refl
fast_body taken other classes slow p f g (body.External class arguments) known fast leaf same = absurd (cc)
fast_body taken other classes slow p f g (body.AnyOf terms) known fast leaf same =
    ap either (fast_same slow p f g terms known fast same)
fast_body taken other classes slow p f g (body.AllOf lines) known fast leaf same =
    ap either (fast_lines slow p f g lines known fast same)

fast_acl : (taken other : ℕ → TermValue) (classes : ℕ) (acls : List Acl) (p : ℕ) (f g : Term → TermValue)
    (o : Option Acl) → are_known_bodies classes 0 acls ≡ true
    → AgreeOnLeaves acls taken other → slice_get acls p ≡ o → slice_index_or (slow_ones acls) p false ≡ false
    → AgreeFast (slow_ones acls) p f g
    → acl_value taken f p o ≡ acl_value other g p o
fast_acl taken other classes acls p f g None known leaves is fast same = refl
fast_acl taken other classes acls p f g (Some a) known leaves is fast same =
    fast_body taken other classes (slow_ones acls) p f g a.body (known_here classes acls p a known is)
    (sym (slow_at acls p a is) ∙ fast) (leaves p a is) same

fast_members : (taken other : ℕ → TermValue) (classes : ℕ) (acls : List Acl) → are_known_bodies classes 0 acls ≡ true
    → AgreeOnLeaves acls taken other
    → (n : ℕ) (t : Term) → slice_index_or (slow_ones acls) t.acl false ≡ false
    → member_value taken acls n t ≡ member_value other acls n t
fast_members taken other classes acls known leaves zero t fast = refl
fast_members taken other classes acls known leaves (suc n) t fast =
    ap (turned t.negated)
    (fast_acl taken other classes acls t.acl (member_value taken acls n) (member_value other acls n)
    (slice_get acls t.acl) known leaves refl fast
    (λ u under quick. fast_members taken other classes acls known leaves n u quick))

fast_terms : (taken other : ℕ → TermValue) (classes : ℕ) (acls : List Acl) → are_known_bodies classes 0 acls ≡ true
    → AgreeOnLeaves acls taken other
    → (terms : List Term) → some_slow (slow_ones acls) terms ≡ false
    → map (term_value taken acls) terms ≡ map (term_value other acls) terms
fast_terms taken other classes acls known leaves [] fast = refl
fast_terms taken other classes acls known leaves (t ∷ terms) fast =
    ap (λ v. v ∷ map (term_value taken acls) terms)
    (fast_members taken other classes acls known leaves (suc t.acl) t
    (neither_left (slice_index_or (slow_ones acls) t.acl false) (some_slow (slow_ones acls) terms) fast))
    ∙ ap (λ vs. term_value other acls t ∷ vs)
    (fast_terms taken other classes acls known leaves terms
    (neither_right (slice_index_or (slow_ones acls) t.acl false) (some_slow (slow_ones acls) terms) fast))

not_slow : (a b : Bool) → (a && not b) ≡ true → b ≡ false
not_slow true true e = cc
not_slow true false e = refl
not_slow false b e = cc

-- over rules that reach no external acl, what is taken of external acls does not matter
pub fast_rules : (taken other : ℕ → TermValue) (classes : ℕ) (acls : List Acl) → are_known_bodies classes 0 acls ≡ true
    → AgreeOnLeaves acls taken other
    → (default : Outcome) (number : ℕ) (rules : List Rule) → list_all (is_fast_rule acls) rules ≡ true
    → rules_from taken acls default number rules ≡ rules_from other acls default number rules
fast_rules taken other classes acls known leaves default number [] fast = refl
fast_rules taken other classes acls known leaves default number (r ∷ rules) fast =
    let quick : some_slow (slow_ones acls) r.terms ≡ false =
    not_slow _ (some_slow (slow_ones acls) r.terms)
    (left (is_fast_rule acls r) (list_all (is_fast_rule acls) rules) fast) in
    ap (λ vs. decided acls number r (both vs) (rules_from taken acls default (number + 1) rules))
    (fast_terms taken other classes acls known leaves r.terms quick)
    ∙ ap (decided acls number r (rule_value other acls r))
    (fast_rules taken other classes acls known leaves default (number + 1) rules
    (right (is_fast_rule acls r) (list_all (is_fast_rule acls) rules) fast))

-- what is taken where no external acl matches
abbrev unasked_body : Configuration → Sight → Body → TermValue
unasked_body c s (body.Leaf l) = value_if (holds l s)
unasked_body c s (body.External class arguments) = Miss
unasked_body c s (body.AnyOf terms) = Miss
unasked_body c s (body.AllOf lines) = Miss

abbrev unasked_acl : Configuration → Sight → Option Acl → TermValue
unasked_acl c s None = Miss
unasked_acl c s (Some a) = unasked_body c s a.body

abbrev unasked : Configuration → Sight → ℕ → TermValue
unasked c s p = unasked_acl c s (slice_get c.acls p)

leaf_taken : (c : Configuration) (s : Sight) (answers : List Answer) (p : ℕ) (b : Body) → is_leaf_body b ≡ true
    → taken_of_body c s answers p b ≡ unasked_body c s b
leaf_taken c s answers p (body.Leaf l) leaf = refl
leaf_taken c s answers p (body.External class arguments) leaf = absurd (cc)
leaf_taken c s answers p (body.AnyOf terms) leaf = absurd (cc)
leaf_taken c s answers p (body.AllOf lines) leaf = absurd (cc)

unasked_leaves : (c : Configuration) (s : Sight) (answers : List Answer)
    → AgreeOnLeaves c.acls (taken_at c s answers) (unasked c s)
unasked_leaves c s answers p a is leaf =
    ap (taken_of_acl c s answers p) is ∙ leaf_taken c s answers p a.body leaf ∙ sym (ap (unasked_acl c s) is)

-- a match or a mismatch
abbrev is_plain : TermValue → Bool
is_plain Hit = true
is_plain Miss = true
is_plain (Fault acl cause) = false
is_plain (Need acl key) = false

plain_if : (b : Bool) → is_plain (value_if b) ≡ true
plain_if true = refl
plain_if false = refl

plain_turned : (b : Bool) (v : TermValue) → is_plain v ≡ true → is_plain (turned b v) ≡ true
plain_turned false v e = e
plain_turned true Hit e = refl
plain_turned true Miss e = refl
plain_turned true (Fault acl cause) e = cc
plain_turned true (Need acl key) e = cc

both_plain : (v : TermValue) (values : List TermValue) → is_plain v ≡ true → is_plain (both values) ≡ true
    → is_plain (both (v ∷ values)) ≡ true
both_plain Hit values e rest = rest
both_plain Miss values e rest = refl
both_plain (Fault acl cause) values e rest = absurd (cc)
both_plain (Need acl key) values e rest = absurd (cc)

either_plain : (v : TermValue) (values : List TermValue) → is_plain v ≡ true → is_plain (either values) ≡ true
    → is_plain (either (v ∷ values)) ≡ true
either_plain Hit values e rest = refl
either_plain Miss values e rest = rest
either_plain (Fault acl cause) values e rest = absurd (cc)
either_plain (Need acl key) values e rest = absurd (cc)

both_map : {A : Type 0} (f : A → TermValue) (xs : List A) → ((x : A) → is_plain (f x) ≡ true)
    → is_plain (both (map f xs)) ≡ true
both_map f [] plain = refl
both_map f (x ∷ xs) plain = both_plain (f x) (map f xs) (plain x) (both_map f xs plain)

either_map : {A : Type 0} (f : A → TermValue) (xs : List A) → ((x : A) → is_plain (f x) ≡ true)
    → is_plain (either (map f xs)) ≡ true
either_map f [] plain = refl
either_map f (x ∷ xs) plain = either_plain (f x) (map f xs) (plain x) (either_map f xs plain)

body_plain : (taken : ℕ → TermValue) (p : ℕ) (f : Term → TermValue) (b : Body) → ((q : ℕ) → is_plain (taken q) ≡ true)
    → ((u : Term) → is_plain (f u) ≡ true)
    → is_plain (body_value taken f p b) ≡ true
body_plain taken p f (body.Leaf l) at plain = at p
body_plain taken p f (body.External class arguments) at plain = at p
body_plain taken p f (body.AnyOf terms) at plain = either_map f terms plain
body_plain taken p f (body.AllOf lines) at plain = either_map (λ l. both (map f l)) lines (λ l. both_map f l plain)

acl_plain : (taken : ℕ → TermValue) (p : ℕ) (f : Term → TermValue) (o : Option Acl)
    → ((q : ℕ) → is_plain (taken q) ≡ true) → ((u : Term) → is_plain (f u) ≡ true)
    → is_plain (acl_value taken f p o) ≡ true
acl_plain taken p f None at plain = refl
acl_plain taken p f (Some a) at plain = body_plain taken p f a.body at plain

member_plain : (taken : ℕ → TermValue) (acls : List Acl) → ((q : ℕ) → is_plain (taken q) ≡ true) → (n : ℕ) (t : Term)
    → is_plain (member_value taken acls n t) ≡ true
member_plain taken acls at zero t = refl
member_plain taken acls at (suc n) t =
    plain_turned t.negated (acl_value taken (member_value taken acls n) t.acl (slice_get acls t.acl))
    (acl_plain taken t.acl (member_value taken acls n) (slice_get acls t.acl) at (λ u. member_plain taken acls at n u))

unasked_plain_body : (c : Configuration) (s : Sight) (b : Body) → is_plain (unasked_body c s b) ≡ true
unasked_plain_body c s (body.Leaf l) = plain_if (holds l s)
unasked_plain_body c s (body.External class arguments) = refl
unasked_plain_body c s (body.AnyOf terms) = refl
unasked_plain_body c s (body.AllOf lines) = refl

unasked_plain_acl : (c : Configuration) (s : Sight) (o : Option Acl) → is_plain (unasked_acl c s o) ≡ true
unasked_plain_acl c s None = refl
unasked_plain_acl c s (Some a) = unasked_plain_body c s a.body

-- a plain outcome
abbrev is_plain_verdict : Value → Bool
is_plain_verdict (value.Verdict o) = is_plain_why o.allow o.why
is_plain_verdict (value.Need acl key) = false

default_plain : (rules : List Rule) → is_plain_verdict (value.Verdict (default_of rules)) ≡ true
default_plain [] = refl
default_plain (r ∷ []) = refl
default_plain (r ∷ q ∷ rules) = default_plain (q ∷ rules)

decided_plain : (acls : List Acl) (number : ℕ) (r : Rule) (v : TermValue) (rest : Value) → is_plain v ≡ true
    → is_plain_verdict rest ≡ true → is_plain_verdict (decided acls number r v rest) ≡ true
decided_plain acls number r Hit rest e more = refl
decided_plain acls number r Miss rest e more = more
decided_plain acls number r (Fault acl cause) rest e more = absurd (cc)
decided_plain acls number r (Need acl key) rest e more = absurd (cc)

rules_plain : (taken : ℕ → TermValue) (acls : List Acl) → ((q : ℕ) → is_plain (taken q) ≡ true) → (default : Outcome)
    → is_plain_verdict (value.Verdict default) ≡ true
    → (number : ℕ) (rules : List Rule) → is_plain_verdict (rules_from taken acls default number rules) ≡ true
rules_plain taken acls at default plain number [] = plain
rules_plain taken acls at default plain number (r ∷ rules) =
    decided_plain acls number r (rule_value taken acls r) (rules_from taken acls default (number + 1) rules)
    (both_map (term_value taken acls) r.terms (λ t. member_plain taken acls at (suc t.acl) t))
    (rules_plain taken acls at default plain (number + 1) rules)

by_outcome : (v : Value) → is_plain_verdict v ≡ true → v ≡ value.Verdict (outcome_so_far v)
by_outcome (value.Verdict o) plain = refl
by_outcome (value.Need acl key) plain = absurd (cc)

rules_fast : (acls : List Acl) (rules : List Rule) → list_all (is_known_rule (length acls)) rules ≡ true
    → list_all (λ r. not (some_slow (slow_ones acls) r.terms)) rules ≡ true
    → list_all (is_fast_rule acls) rules ≡ true
rules_fast acls [] known nobody = refl
rules_fast acls (r ∷ rules) known nobody =
    rw (
      left (is_known_rule (length acls) r) (list_all (is_known_rule (length acls)) rules) known,
      left (not (some_slow (slow_ones acls) r.terms)) (list_all (λ q. not (some_slow (slow_ones acls) q.terms)) rules)
          nobody,
    )
    (rules_fast acls rules (right (is_known_rule (length acls) r) (list_all (is_known_rule (length acls)) rules) known)
    (right (not (some_slow (slow_ones acls) r.terms)) (list_all (λ q. not (some_slow (slow_ones acls) q.terms)) rules)
    nobody))

fast_of : (c : Configuration) → IsConfiguration c → asks_nobody c ≡ true → list_all (is_fast_rule c.acls) c.rules ≡ true
fast_of c is nobody = rules_fast c.acls c.rules is.places nobody

over_unasked : (c : Configuration) (s : Sight) (answers : List Answer) → IsConfiguration c → asks_nobody c ≡ true
    → verdict_over answers c s ≡ rules_from (unasked c s) c.acls (default_of c.rules) 1 c.rules
over_unasked c s answers is nobody =
    fast_rules (taken_at c s answers) (unasked c s) (length c.classes) c.acls is.members (unasked_leaves c s answers)
    (default_of c.rules) 1 c.rules (fast_of c is nobody)

plain_over : (c : Configuration) (s : Sight) (answers : List Answer) → IsConfiguration c → asks_nobody c ≡ true
    → is_plain_verdict (verdict_over answers c s) ≡ true
plain_over c s answers is nobody =
    ap is_plain_verdict (over_unasked c s answers is nobody)
    ∙ rules_plain (unasked c s) c.acls (λ q. unasked_plain_acl c s (slice_get c.acls q)) (default_of c.rules)
    (default_plain c.rules) 1 c.rules

-- where no rule asks anybody, the verdict is what the rules come to over any answers
pub verdict_is : (c : Configuration) (s : Sight) (answers : List Answer) → IsConfiguration c → asks_nobody c ≡ true
    → verdict_over answers c s ≡ value.Verdict (verdict c s)
verdict_is c s answers is nobody =
    by_outcome (verdict_over answers c s) (plain_over c s answers is nobody)
    ∙ ap (λ v. value.Verdict (outcome_so_far v))
    (over_unasked c s answers is nobody ∙ sym (over_unasked c s [] is nobody))

-- and it comes of no fault
pub verdict_plain : (c : Configuration) (s : Sight) → IsConfiguration c → asks_nobody c ≡ true
    → is_plain_why (verdict c s).allow (verdict c s).why ≡ true
verdict_plain c s is nobody = ap is_plain_verdict (sym (verdict_is c s [] is nobody)) ∙ plain_over c s [] is nobody
