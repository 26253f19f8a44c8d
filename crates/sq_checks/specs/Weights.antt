-- A number that falls with each step in the rules: how much is left of the lines of the rules and
-- of the open groups, if all of it is looked through.
use Rattle.std.specs.Prelude.{ℕ, ◌+◌, zero, suc, List, [], ◌∷◌, drop, length}
use Rattle.sq_rules.specs.Configurations.{Configuration}
use Rattle.sq_rules.specs.declared.configs.Acl.{Acl}
use Rattle.sq_rules.specs.declared.configs.Term.{Term}
use Rattle.sq_checks.specs.Groups.{lines_at, lines_on}
use Rattle.sq_checks.specs.declared.positions.Position.{Position}
use Rattle.sq_checks.specs.declared.spots.GroupSpot.{GroupSpot}

abbrev pub line_weight : (Term → ℕ) → List Term → ℕ
line_weight w [] = 1
line_weight w (t ∷ l) = w t + line_weight w l

abbrev pub lines_weight : (Term → ℕ) → List (List Term) → ℕ
lines_weight w [] = 0
lines_weight w (l ∷ lines) = line_weight w l + lines_weight w lines

-- of a term that names one of so many acls
abbrev pub weigh : List Acl → ℕ → Term → ℕ
weigh acls zero t = 1
weigh acls (suc n) t = 2 + lines_weight (weigh acls n) (lines_at acls t.acl)

-- lines, the first of them from a term on
abbrev pub rest_weight : (Term → ℕ) → ℕ → List (List Term) → ℕ
rest_weight w term [] = 0
rest_weight w term (l ∷ lines) = line_weight w (drop term l) + lines_weight w lines

-- what is left behind the term of this line, in these open groups
abbrev pub behind_weight : Configuration → ℕ → ℕ → List GroupSpot → ℕ
behind_weight c line term [] = rest_weight (weigh c.acls (length c.acls)) (term + 1)
    (drop line (lines_on c []))
behind_weight c line term (s ∷ groups) = 1
    + rest_weight (weigh c.acls s.acl) (s.term + 1) (drop s.line (lines_at c.acls s.acl))
    + behind_weight c line term groups

-- what is left from the term of this line on
abbrev pub ahead_weight : Configuration → ℕ → ℕ → List GroupSpot → ℕ
ahead_weight c line term [] = rest_weight (weigh c.acls (length c.acls)) term
    (drop line (lines_on c []))
ahead_weight c line term (s ∷ groups) = 1
    + rest_weight (weigh c.acls s.acl) s.term (drop s.line (lines_at c.acls s.acl))
    + behind_weight c line term groups

abbrev pub weight_at : Configuration → Position → ℕ
weight_at c p = ahead_weight c p.line p.term p.groups.list
