-- A course goes on behind a term as the value of the term says.
use Rattle.std.proofs.Common.{◌≡◌, ℕ, ◌+◌, ◌<◌, zero, suc, List, [], ◌∷◌, ◌++◌, map, drop, length, slice_get, Bool, true, false, if◌then◌else◌, Option, Some, None, refl, sym, ap, ◌∙◌, append_assoc, arith}
use Rattle.std.proofs.lemmas.List.{drop_more}
use Rattle.std.proofs.lemmas.Option.{get_or_from_slice_get, slice_get_within}
use Rattle.sq_base.specs.declared.helpers.Cause.{Cause}
use Rattle.sq_rules.specs.Configurations.{Configuration}
use Rattle.sq_rules.specs.Values.{both, either, turned, value_if}
use Rattle.sq_rules.specs.Verdicts.{default_of, name_of}
use Rattle.sq_rules.specs.Walks.{Seen, is_hit, is_miss, line_seen, term_seen}
use Rattle.sq_rules.specs.declared.configs.Acl.{Acl}
use Rattle.sq_rules.specs.declared.configs.Rule.{Rule}
use Rattle.sq_rules.specs.declared.configs.Term.{Term}
use Rattle.sq_rules.specs.declared.outcomes.Why.TheVariants as why
use Rattle.sq_rules.specs.declared.values.TermValue.{TermValue}
use Rattle.sq_rules.specs.declared.values.TermValue.TheVariants.{Hit, Miss, Fault, Need}
use Rattle.sq_rules.specs.declared.values.Value.TheVariants as value
use Rattle.sq_checks.specs.Courses.{Course, ahead, alone, behind, course_behind, course_from, lines_behind, lines_from, lines_seen, rule_course, rules_course, then_seen, walked}
use Rattle.sq_checks.specs.Groups.{groups_moved, line_moved, line_on, lines_at, lines_on, next_at, next_in, term_moved, term_on, term_or_end}
use Rattle.sq_checks.specs.declared.looking.Next.TheVariants as next
use Rattle.sq_checks.specs.declared.spots.GroupSpot.{GroupSpot}

both_is : (v : TermValue) (vs : List TermValue) → both (v ∷ vs) ≡ (if is_hit v then both vs else v)
both_is Hit vs = refl
both_is Miss vs = refl
both_is (Fault acl cause) vs = refl
both_is (Need acl key) vs = refl

pub either_is : (v : TermValue) (vs : List TermValue) → either (v ∷ vs) ≡ (if is_miss v then either vs else v)
either_is Hit vs = refl
either_is Miss vs = refl
either_is (Fault acl cause) vs = refl
either_is (Need acl key) vs = refl

-- what is seen, behind a walk
abbrev pub seen_behind : List ℕ → Seen → Seen
seen_behind walk x = record { value = x.value; walk = walk ++ x.walk }

-- a line, by its first term
line_first : (f : Term → Seen) (t : Term) (l : List Term)
    → line_seen f (t ∷ l) ≡ seen_behind (f t).walk (then_seen is_hit (alone (f t).value) (line_seen f l))
line_first f t l = ap (λ (v : TermValue). record { value = v; walk = (line_seen f (t ∷ l)).walk })
    (both_is (f t).value (map (λ u. (f u).value) l))

-- lines, by the first of them
pub lines_first : (f : Term → Seen) (l : List Term) (lines : List (List Term))
    → lines_seen f (l ∷ lines) ≡ then_seen is_miss (line_seen f l) (lines_seen f lines)
lines_first f l lines = ap (λ (v : TermValue). record { value = v; walk = (lines_seen f (l ∷ lines)).walk })
    (either_is (line_seen f l).value (map (λ k. (line_seen f k).value) lines))

-- lines from their beginning
pub lines_begun : (f : Term → Seen) (lines : List (List Term)) → lines_from f 0 lines ≡ lines_seen f lines
lines_begun f [] = refl
lines_begun f (l ∷ lines) = sym (lines_first f l lines)

-- a walk in front goes over
then_behind : (goes_on : TermValue → Bool) (walk : List ℕ) (x y : Seen)
    → then_seen goes_on (seen_behind walk x) y ≡ seen_behind walk (then_seen goes_on x y)
then_behind goes_on walk x y = ap (λ (w : List ℕ). record { value = (then_seen goes_on x y).value; walk = w })
    (append_assoc walk x.walk (if goes_on x.value then y.walk else []))

rule_behind : (acls : List Acl) (number : ℕ) (r : Rule) (walk : List ℕ) (x : Seen) (rest : Course)
    → rule_course acls number r (seen_behind walk x) rest ≡ walked walk (rule_course acls number r x rest)
rule_behind acls number r walk x rest = ap (λ (w : List ℕ).
    record { value = (rule_course acls number r x rest).value; walk = w })
    (append_assoc walk x.walk (if is_miss x.value then rest.walk else []))

pub walked_walked : (v w : List ℕ) (x : Course) → walked (v ++ w) x ≡ walked v (walked w x)
walked_walked v w x = ap (λ (z : List ℕ). record { value = x.value; walk = z }) (append_assoc v w x.walk)

-- from a term on, by that term
lines_at_term : (f : Term → Seen) (term : ℕ) (t : Term) (l : List Term) (lines : List (List Term))
    → drop term l ≡ t ∷ drop (term + 1) l
    → lines_from f term (l ∷ lines) ≡ seen_behind (f t).walk (lines_behind f term (f t).value (l ∷ lines))
lines_at_term f term t l lines here =
    ap (λ k. then_seen is_miss (line_seen f k) (lines_seen f lines)) here
    ∙ ap (λ x. then_seen is_miss x (lines_seen f lines)) (line_first f t (drop (term + 1) l))
    ∙ then_behind is_miss (f t).walk (then_seen is_hit (alone (f t).value) (line_seen f (drop (term + 1) l)))
    (lines_seen f lines)

course_at_term : (taken : ℕ → TermValue) (c : Configuration) (number term : ℕ) (t : Term) (r : Rule) (rules : List Rule)
    → drop term r.terms ≡ t ∷ drop (term + 1) r.terms
    → course_from taken c number term (r ∷ rules)
    ≡ walked (term_seen taken c.acls t).walk
    (course_behind taken c number term (term_seen taken c.acls t).value (r ∷ rules))
course_at_term taken c number term t r rules here =
    let f = term_seen taken c.acls in
    let rest = rules_course taken c (number + 1) rules in
    ap (λ k. rule_course c.acls number r (line_seen f k) rest) here
    ∙ ap (λ x. rule_course c.acls number r x rest) (line_first f t (drop (term + 1) r.terms))
    ∙ rule_behind c.acls number r (f t).walk
    (then_seen is_hit (alone (f t).value) (line_seen f (drop (term + 1) r.terms))) rest

-- the element at a place begins the rest
pub drop_some : {A : Type 0} (xs : List A) (i : ℕ) (x : A) → slice_get xs i ≡ Some x → drop i xs ≡ x ∷ drop (i + 1) xs
drop_some xs i x is = drop_more xs i x (slice_get_within xs i x is)
    ∙ ap (λ z. z ∷ drop (i + 1) xs) (get_or_from_slice_get xs i x x is)

-- behind the end there is nothing
pub drop_none : {A : Type 0} (xs : List A) (i : ℕ) → slice_get xs i ≡ None → drop i xs ≡ []
drop_none [] zero is = refl
drop_none [] (suc i) is = refl
drop_none (y ∷ xs) zero is = absurd (cc)
drop_none (y ∷ xs) (suc i) is = drop_none xs i is

-- of an option that is some value the value
some_inj : {A : Type 0} (x y : A) → Some x ≡ Some y → x ≡ y
some_inj x y e = cc

-- a term that is next stands in a line
or_end_term : (o : Option Term) (t : Term) → term_or_end o ≡ next.Term t → o ≡ Some t
or_end_term None t e = absurd (cc)
or_end_term (Some u) t e = cc

or_end_held : (o : Option Term) → term_or_end o ≡ next.Held → o ≡ None
or_end_held None e = refl
or_end_held (Some u) e = absurd (cc)

or_end_failed : (o : Option Term) → term_or_end o ≡ next.Failed → ⊥
or_end_failed None e = absurd (cc)
or_end_failed (Some u) e = absurd (cc)

pub in_line : (o : Option (List Term)) (term : ℕ) (t : Term) → next_in o term ≡ next.Term t
    → (l : List Term) × (o ≡ Some l) × (slice_get l term ≡ Some t)
in_line None term t e = absurd (cc)
in_line (Some l) term t e = (l, refl, or_end_term (slice_get l term) t e)

pub in_held : (o : Option (List Term)) (term : ℕ) → next_in o term ≡ next.Held
    → (l : List Term) × (o ≡ Some l) × (slice_get l term ≡ None)
in_held None term e = absurd (cc)
in_held (Some l) term e = (l, refl, or_end_held (slice_get l term) e)

pub in_failed : (o : Option (List Term)) (term : ℕ) → next_in o term ≡ next.Failed → o ≡ None
in_failed None term e = refl
in_failed (Some l) term e = absurd (or_end_failed (slice_get l term) e)

-- a line of the rules is that of a rule
pub rule_of_line : (rules : List Rule) (i : ℕ) (l : List Term)
    → slice_get (map (λ (r : Rule). r.terms) rules) i ≡ Some l
    → (r : Rule) × (slice_get rules i ≡ Some r) × (r.terms ≡ l)
rule_of_line [] i l e = absurd (cc)
rule_of_line (r ∷ rules) zero l e = (r, refl, some_inj r.terms l e)
rule_of_line (r ∷ rules) (suc i) l e = rule_of_line rules i l e

no_rule : (rules : List Rule) (i : ℕ) → slice_get (map (λ (r : Rule). r.terms) rules) i ≡ None
    → slice_get rules i ≡ None
no_rule [] i e = refl
no_rule (r ∷ rules) zero e = absurd (cc)
no_rule (r ∷ rules) (suc i) e = no_rule rules i e

-- where a term is next, the course is that behind the term's value
pub ahead_at_term : (taken : ℕ → TermValue) (c : Configuration) (line term : ℕ) (groups : List GroupSpot) (t : Term)
    → next_at (lines_on c groups) (line_on line groups) (term_on term groups) ≡ next.Term t
    → ahead taken c line term groups
    ≡ walked (term_seen taken c.acls t).walk (behind taken c line term groups (term_seen taken c.acls t).value)
ahead_at_term taken c line term [] t e =
    let at = in_line (slice_get (lines_on c []) line) term t e in
    let rule = rule_of_line c.rules line at.0 at.1 in
    let here : drop line c.rules ≡ rule.0 ∷ drop (line + 1) c.rules = drop_some c.rules line rule.0 rule.1 in
    let next : drop term rule.0.terms ≡ t ∷ drop (term + 1) rule.0.terms =
    drop_some rule.0.terms term t (ap (λ l. slice_get l term) rule.2 ∙ at.2) in
    ap (course_from taken c (line + 1) term) here
    ∙ course_at_term taken c (line + 1) term t rule.0 (drop (line + 1) c.rules) next
    ∙ ap (λ rules. walked (term_seen taken c.acls t).walk
    (course_behind taken c (line + 1) term (term_seen taken c.acls t).value rules)) (sym here)
ahead_at_term taken c line term (s ∷ groups) t e =
    let f = term_seen taken c.acls in
    let lines = lines_at c.acls s.acl in
    let at = in_line (slice_get lines s.line) s.term t e in
    let here : drop s.line lines ≡ at.0 ∷ drop (s.line + 1) lines = drop_some lines s.line at.0 at.1 in
    let next : drop s.term at.0 ≡ t ∷ drop (s.term + 1) at.0 = drop_some at.0 s.term t at.2 in
    let g : lines_from f s.term (drop s.line lines)
    ≡ seen_behind (f t).walk (lines_behind f s.term (f t).value (drop s.line lines)) =
    ap (lines_from f s.term) here ∙ lines_at_term f s.term t at.0 (drop (s.line + 1) lines) next
    ∙ ap (λ ls. seen_behind (f t).walk (lines_behind f s.term (f t).value ls)) (sym here) in
    let x = lines_behind f s.term (f t).value (drop s.line lines) in
    ap (λ (y : Seen). walked y.walk (behind taken c line term groups (turned s.negated y.value))) g
    ∙ walked_walked (f t).walk x.walk (behind taken c line term groups (turned s.negated x.value))

-- rules from their beginning
pub rules_begun : (taken : ℕ → TermValue) (c : Configuration) (number : ℕ) (rules : List Rule)
    → course_from taken c number 0 rules ≡ rules_course taken c number rules
rules_begun taken c number [] = refl
rules_begun taken c number (r ∷ rules) = refl

pub within_some : {A : Type 0} (xs : List A) (i : ℕ) → i < length xs → (x : A) × (slice_get xs i ≡ Some x)
within_some [] i less = absurd (omega arith)
within_some (x ∷ xs) zero less = (x, refl)
within_some (x ∷ xs) (suc i) less = within_some xs i (omega arith)

-- behind a match the next term of the line is next, behind a mismatch the next line
pub ahead_moved : (taken : ℕ → TermValue) (c : Configuration) (line term : ℕ) (groups : List GroupSpot) (hit : Bool)
    → line_on line groups < length (lines_on c groups)
    → behind taken c line term groups (value_if hit)
    ≡ ahead taken c (line_moved hit line groups) (term_moved hit term groups) (groups_moved hit groups)
ahead_moved taken c line term [] true within =
    let at = within_some (lines_on c []) line within in
    let rule = rule_of_line c.rules line at.0 at.1 in
    let here : drop line c.rules ≡ rule.0 ∷ drop (line + 1) c.rules = drop_some c.rules line rule.0 rule.1 in
    ap (course_behind taken c (line + 1) term Hit) here ∙ ap (course_from taken c (line + 1) (term + 1)) (sym here)
ahead_moved taken c line term [] false within =
    let at = within_some (lines_on c []) line within in
    let rule = rule_of_line c.rules line at.0 at.1 in
    let here : drop line c.rules ≡ rule.0 ∷ drop (line + 1) c.rules = drop_some c.rules line rule.0 rule.1 in
    ap (course_behind taken c (line + 1) term Miss) here
    ∙ sym (rules_begun taken c (line + 1 + 1) (drop (line + 1) c.rules))
ahead_moved taken c line term (s ∷ groups) true within =
    let f = term_seen taken c.acls in
    let lines = lines_at c.acls s.acl in
    let at = within_some lines s.line within in
    let here : drop s.line lines ≡ at.0 ∷ drop (s.line + 1) lines = drop_some lines s.line at.0 at.1 in
    ap (λ (ls : List (List Term)). let y = lines_behind f s.term Hit ls in
    walked y.walk (behind taken c line term groups (turned s.negated y.value))) here
    ∙ ap (λ (ls : List (List Term)). let y = lines_from f (s.term + 1) ls in
    walked y.walk (behind taken c line term groups (turned s.negated y.value))) (sym here)
ahead_moved taken c line term (s ∷ groups) false within =
    let f = term_seen taken c.acls in
    let lines = lines_at c.acls s.acl in
    let at = within_some lines s.line within in
    let here : drop s.line lines ≡ at.0 ∷ drop (s.line + 1) lines = drop_some lines s.line at.0 at.1 in
    ap (λ (ls : List (List Term)). let y = lines_behind f s.term Miss ls in
    walked y.walk (behind taken c line term groups (turned s.negated y.value))) here
    ∙ ap (λ (y : Seen). walked y.walk (behind taken c line term groups (turned s.negated y.value)))
    (sym (lines_begun f (drop (s.line + 1) lines)))

-- a line that has held closes its group with a match
pub ahead_held : (taken : ℕ → TermValue) (c : Configuration) (line term : ℕ) (s : GroupSpot) (groups : List GroupSpot)
    → next_at (lines_at c.acls s.acl) s.line s.term ≡ next.Held
    → ahead taken c line term (s ∷ groups) ≡ behind taken c line term groups (turned s.negated Hit)
ahead_held taken c line term s groups e =
    let f = term_seen taken c.acls in
    let lines = lines_at c.acls s.acl in
    let at = in_held (slice_get lines s.line) s.term e in
    let here : drop s.line lines ≡ at.0 ∷ drop (s.line + 1) lines = drop_some lines s.line at.0 at.1 in
    let none : drop s.term at.0 ≡ [] = drop_none at.0 s.term at.2 in
    let g : lines_from f s.term (drop s.line lines) ≡ alone Hit = ap (lines_from f s.term) here
    ∙ ap (λ l. then_seen is_miss (line_seen f l) (lines_seen f (drop (s.line + 1) lines))) none in
    ap (λ (y : Seen). walked y.walk (behind taken c line term groups (turned s.negated y.value))) g

-- a group whose lines have all failed closes with a mismatch
pub ahead_failed : (taken : ℕ → TermValue) (c : Configuration) (line term : ℕ) (s : GroupSpot) (groups : List GroupSpot)
    → next_at (lines_at c.acls s.acl) s.line s.term ≡ next.Failed
    → ahead taken c line term (s ∷ groups) ≡ behind taken c line term groups (turned s.negated Miss)
ahead_failed taken c line term s groups e =
    let f = term_seen taken c.acls in
    let lines = lines_at c.acls s.acl in
    let none : drop s.line lines ≡ [] = drop_none lines s.line (in_failed (slice_get lines s.line) s.term e) in
    ap (λ (ls : List (List Term)). let y = lines_from f s.term ls in
    walked y.walk (behind taken c line term groups (turned s.negated y.value))) none

-- a rule whose line has held decides
pub rule_decides : (taken : ℕ → TermValue) (c : Configuration) (line term : ℕ)
    → next_at (lines_on c []) line term ≡ next.Held
    → (r : Rule) × (slice_get c.rules line ≡ Some r)
    × (ahead taken c line term []
    ≡ record { value = value.Verdict (record { allow = r.allow; why = why.Rule (line + 1) }); walk = [] })
rule_decides taken c line term e =
    let f = term_seen taken c.acls in
    let at = in_held (slice_get (lines_on c []) line) term e in
    let rule = rule_of_line c.rules line at.0 at.1 in
    let here : drop line c.rules ≡ rule.0 ∷ drop (line + 1) c.rules = drop_some c.rules line rule.0 rule.1 in
    let none : drop term rule.0.terms ≡ [] = drop_none rule.0.terms term (ap (λ l. slice_get l term) rule.2 ∙ at.2) in (
      rule.0,
      rule.1,
      ap (course_from taken c (line + 1) term) here
          ∙ ap (λ l. rule_course c.acls (line + 1) rule.0 (line_seen f l)
          (rules_course taken c (line + 1 + 1) (drop (line + 1) c.rules))) none,
    )

-- where no rule is left, the default decides
pub default_decides : (taken : ℕ → TermValue) (c : Configuration) (line term : ℕ)
    → next_at (lines_on c []) line term ≡ next.Failed
    → ahead taken c line term [] ≡ record { value = value.Verdict (default_of c.rules); walk = [] }
default_decides taken c line term e =
    ap (course_from taken c (line + 1) term)
    (drop_none c.rules line (no_rule c.rules line (in_failed (slice_get (lines_on c []) line) term e)))

fault_rest : (f : Term → Seen) (term acl : ℕ) (cause : Cause) (lines : List (List Term))
    → lines_behind f term (Fault acl cause) lines ≡ alone (Fault acl cause)
fault_rest f term acl cause [] = refl
fault_rest f term acl cause (l ∷ lines) = refl

need_rest : (f : Term → Seen) (term acl : ℕ) (key : List ℕ) (lines : List (List Term))
    → lines_behind f term (Need acl key) lines ≡ alone (Need acl key)
need_rest f term acl key [] = refl
need_rest f term acl key (l ∷ lines) = refl

pub turned_fault : (b : Bool) (acl : ℕ) (cause : Cause) → turned b (Fault acl cause) ≡ Fault acl cause
turned_fault true acl cause = refl
turned_fault false acl cause = refl

pub turned_need : (b : Bool) (acl : ℕ) (key : List ℕ) → turned b (Need acl key) ≡ Need acl key
turned_need true acl key = refl
turned_need false acl key = refl

-- a fault decides whatever groups are open
pub fault_stops : (taken : ℕ → TermValue) (c : Configuration) (line term : ℕ) (groups : List GroupSpot) (acl : ℕ)
    (cause : Cause) → line < length c.rules
    → behind taken c line term groups (Fault acl cause)
    ≡ record {
      value = value.Verdict
          (record { allow = false; why = why.Fault (line + 1) (name_of (slice_get c.acls acl)) cause });
      walk = [];
    }
fault_stops taken c line term [] acl cause within =
    let at = within_some c.rules line within in
    ap (course_behind taken c (line + 1) term (Fault acl cause)) (drop_some c.rules line at.0 at.1)
fault_stops taken c line term (s ∷ groups) acl cause within =
    ap (λ (y : Seen). walked y.walk (behind taken c line term groups (turned s.negated y.value)))
    (fault_rest (term_seen taken c.acls) s.term acl cause (drop s.line (lines_at c.acls s.acl)))
    ∙ ap (λ v. walked [] (behind taken c line term groups v)) (turned_fault s.negated acl cause)
    ∙ ap (walked []) (fault_stops taken c line term groups acl cause within)

-- a need is the whole answer
pub need_stops : (taken : ℕ → TermValue) (c : Configuration) (line term : ℕ) (groups : List GroupSpot) (acl : ℕ)
    (key : List ℕ) → line < length c.rules
    → behind taken c line term groups (Need acl key) ≡ record { value = value.Need acl key; walk = [] }
need_stops taken c line term [] acl key within =
    let at = within_some c.rules line within in
    ap (course_behind taken c (line + 1) term (Need acl key)) (drop_some c.rules line at.0 at.1)
need_stops taken c line term (s ∷ groups) acl key within =
    ap (λ (y : Seen). walked y.walk (behind taken c line term groups (turned s.negated y.value)))
    (need_rest (term_seen taken c.acls) s.term acl key (drop s.line (lines_at c.acls s.acl)))
    ∙ ap (λ v. walked [] (behind taken c line term groups v)) (turned_need s.negated acl key)
    ∙ ap (walked []) (need_stops taken c line term groups acl key within)
