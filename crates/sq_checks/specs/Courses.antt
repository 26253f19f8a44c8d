-- What rules come to from a place in them on, and by which acls.
use Rattle.std.specs.Prelude.{◌≡◌, ℕ, ◌+◌, List, [], ◌∷◌, ◌++◌, Bool, true, false, if◌then◌else◌, drop, map, Some, None, slice_get}
use Rattle.std.specs.declared.option.Option.{Option}
use Rattle.sq_rules.specs.Configurations.{Configuration, is_leaf}
use Rattle.sq_rules.specs.Values.{either, turned}
use Rattle.sq_rules.specs.Verdicts.{decided, default_of, rules_from}
use Rattle.sq_rules.specs.Walks.{Seen, is_hit, is_miss, line_seen, rules_walk, term_seen, walk_while}
use Rattle.sq_rules.specs.declared.configs.Acl.{Acl}
use Rattle.sq_rules.specs.declared.configs.Rule.{Rule}
use Rattle.sq_rules.specs.declared.configs.Term.{Term}
use Rattle.sq_rules.specs.declared.values.TermValue.{TermValue}
use Rattle.sq_rules.specs.declared.values.TermValue.TheVariants.{Hit, Miss, Fault, Need}
use Rattle.sq_rules.specs.declared.values.Value.{Value}
use Rattle.sq_rules.specs.declared.values.Value.TheVariants as value
use Rattle.sq_checks.specs.Groups.{lines_at}
use Rattle.sq_checks.specs.declared.spots.GroupSpot.{GroupSpot}

-- what rules come to, with the walk
pub record Course : Type 0 where
  pub value : Value
  pub walk : List ℕ

-- a value and its walk, and what is behind it where the value goes on
abbrev pub then_seen : (TermValue → Bool) → Seen → Seen → Seen
then_seen goes_on x rest = record {
  value = if goes_on x.value then rest.value else x.value;
  walk = x.walk ++ (if goes_on x.value then rest.walk else []);
}

-- a value whose walk is behind
abbrev pub alone : TermValue → Seen
alone v = record { value = v; walk = [] }

-- lines, up to the first that is no mismatch
abbrev pub lines_seen : (Term → Seen) → List (List Term) → Seen
lines_seen member lines = record {
  value = either (map (λ l. (line_seen member l).value) lines);
  walk = walk_while is_miss (map (line_seen member) lines);
}

-- lines, the first of them from this term on
abbrev pub lines_from : (Term → Seen) → ℕ → List (List Term) → Seen
lines_from member term [] = alone Miss
lines_from member term (l ∷ lines) = then_seen is_miss (line_seen member (drop term l))
    (lines_seen member lines)

-- the same behind this term, which had this value
abbrev pub lines_behind : (Term → Seen) → ℕ → TermValue → List (List Term) → Seen
lines_behind member term v [] = alone v
lines_behind member term v (l ∷ lines) = then_seen is_miss
    (then_seen is_hit (alone v) (line_seen member (drop (term + 1) l))) (lines_seen member lines)

-- a rule with this value and walk, and the rules behind it
abbrev pub rule_course : List Acl → ℕ → Rule → Seen → Course → Course
rule_course acls number r x rest = record {
  value = decided acls number r x.value rest.value;
  walk = x.walk ++ (if is_miss x.value then rest.walk else []);
}

-- rules, from their beginning
abbrev pub rules_course : (ℕ → TermValue) → Configuration → ℕ → List Rule → Course
rules_course taken c number rules = record {
  value =
      rules_from taken c.acls (default_of c.rules) number rules;
  walk = rules_walk taken c.acls rules;
}

-- rules, the first of them from this term on
abbrev pub course_from : (ℕ → TermValue) → Configuration → ℕ → ℕ → List Rule → Course
course_from taken c number term [] = record {
  value = value.Verdict (default_of c.rules);
  walk = [];
}
course_from taken c number term (r ∷ rules) =
    rule_course c.acls number r (line_seen (term_seen taken c.acls) (drop term r.terms))
    (rules_course taken c (number + 1) rules)

-- the same behind this term, which had this value
abbrev pub course_behind : (ℕ → TermValue) → Configuration → ℕ → ℕ → TermValue → List Rule → Course
course_behind taken c number term v [] = record {
  value = value.Verdict (default_of c.rules);
  walk = [];
}
course_behind taken c number term v (r ∷ rules) =
    rule_course c.acls number r
    (then_seen is_hit (alone v) (line_seen (term_seen taken c.acls) (drop (term + 1) r.terms)))
    (rules_course taken c (number + 1) rules)

-- behind a walk
abbrev pub walked : List ℕ → Course → Course
walked walk x = record { value = x.value; walk = walk ++ x.walk }

-- what the rules come to behind the term of this line, in these open groups, where that term had
-- this value
abbrev pub behind : (ℕ → TermValue) → Configuration → ℕ → ℕ → List GroupSpot → TermValue → Course
behind taken c line term [] v = course_behind taken c (line + 1) term v (drop line c.rules)
behind taken c line term (s ∷ groups) v =
    let g = lines_behind (term_seen taken c.acls) s.term v (drop s.line (lines_at c.acls s.acl)) in
    walked g.walk (behind taken c line term groups (turned s.negated g.value))

-- what the rules come to from the term of this line on, in these open groups
abbrev pub ahead : (ℕ → TermValue) → Configuration → ℕ → ℕ → List GroupSpot → Course
ahead taken c line term [] = course_from taken c (line + 1) term (drop line c.rules)
ahead taken c line term (s ∷ groups) =
    let g = lines_from (term_seen taken c.acls) s.term (drop s.line (lines_at c.acls s.acl)) in
    walked g.walk (behind taken c line term groups (turned s.negated g.value))

abbrev pub leaf_here : Option Acl → ℕ
leaf_here None = 0
leaf_here (Some a) = if is_leaf a then 1 else 0

-- how many places of a walk are those of leaf acls
abbrev pub leaves : List Acl → List ℕ → ℕ
leaves acls [] = 0
leaves acls (acl ∷ walk) = leaf_here (slice_get acls acl) + leaves acls walk

-- a value of an external acl that was not given yet
abbrev pub is_need : TermValue → Bool
is_need Hit = false
is_need Miss = false
is_need (Fault acl cause) = false
is_need (Need acl key) = true

-- nothing is given for the acl that is needed, if one is
abbrev pub still_needed : (ℕ → TermValue) → Option ℕ → Bool
still_needed more None = true
still_needed more (Some acl) = is_need (more acl)

-- how many leaf acls the walk of the rules has
abbrev pub leaves_by : (ℕ → TermValue) → Configuration → ℕ
leaves_by taken c = leaves c.acls (rules_walk taken c.acls c.rules)

-- what was taken stays, and what was needed may be given
abbrev pub Extends : (ℕ → TermValue) → (ℕ → TermValue) → Type 0
Extends taken more = (acl : ℕ) → is_need (taken acl) ≡ false → more acl ≡ taken acl
