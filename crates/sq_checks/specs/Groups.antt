-- The place in a configuration's rules: which rule and term of it, and in each open group which
-- line and term of it.
use Rattle.std.specs.Prelude.{ℕ, ◌+◌, ◌<◌, ◌≤◌, ◌^◌, List, [], ◌∷◌, length, map, Bool, true, false, not, Some, None, if◌then◌else◌, slice_get, slice_index_or}
use Rattle.std.specs.declared.option.Option.{Option}
use Rattle.sq_rules.specs.Configurations.{Configuration, nestings}
use Rattle.sq_rules.specs.declared.configs.Acl.{Acl}
use Rattle.sq_rules.specs.declared.configs.Body.{Body}
use Rattle.sq_rules.specs.declared.configs.Body.TheVariants as body
use Rattle.sq_rules.specs.declared.configs.Term.{Term}
use Rattle.sq_checks.specs.declared.spots.GroupSpot.{GroupSpot}
use Rattle.sq_checks.specs.declared.looking.Next.{Next}
use Rattle.sq_checks.specs.declared.looking.Next.TheVariants as next

-- the lines of a group; any-of has one for each member
abbrev pub lines_of_body : Body → List (List Term)
lines_of_body (body.Leaf l) = []
lines_of_body (body.External class arguments) = []
lines_of_body (body.AnyOf terms) = map (λ t. t ∷ []) terms
lines_of_body (body.AllOf lines) = lines

abbrev pub lines_of : Option Acl → List (List Term)
lines_of None = []
lines_of (Some a) = lines_of_body a.body

-- the lines of the group at a place
abbrev pub lines_at : List Acl → ℕ → List (List Term)
lines_at acls acl = lines_of (slice_get acls acl)

-- the lines in which the next term stands: those of the innermost open group, which is the first
-- here, or else the rules
abbrev pub lines_on : Configuration → List GroupSpot → List (List Term)
lines_on c [] = map (λ r. r.terms) c.rules
lines_on c (s ∷ groups) = lines_at c.acls s.acl

-- the line of the next term among them
abbrev pub line_on : ℕ → List GroupSpot → ℕ
line_on line [] = line
line_on line (s ∷ groups) = s.line

-- its place in the line
abbrev pub term_on : ℕ → List GroupSpot → ℕ
term_on term [] = term
term_on term (s ∷ groups) = s.term

-- what they name stands before this acl
abbrev pub bound_on : Configuration → List GroupSpot → ℕ
bound_on c [] = length c.acls
bound_on c (s ∷ groups) = s.acl

abbrev pub term_or_end : Option Term → Next
term_or_end None = next.Held
term_or_end (Some t) = next.Term t

abbrev pub next_in : Option (List Term) → ℕ → Next
next_in None term = next.Failed
next_in (Some l) term = term_or_end (slice_get l term)

-- what is next in these lines: a term, or a line has held, or all lines have failed
abbrev pub next_at : List (List Term) → ℕ → ℕ → Next
next_at lines line term = next_in (slice_get lines line) term

-- the places of a term that is next can be counted on
abbrev pub FitsNext : Next → ℕ → ℕ → Type 0
FitsNext (next.Term t) line term = (line + 1 < 2 ^ 64) × (term + 1 < 2 ^ 64)
FitsNext next.Held line term = Unit {0}
FitsNext next.Failed line term = Unit {0}

-- what is next behind a term that matched, or did not: the next of its line, or the next line
abbrev pub moved : Bool → GroupSpot → GroupSpot
moved hit s = record s {
  line = if hit then s.line else s.line + 1;
  term = if hit then s.term + 1 else 0;
}

-- the groups that are open, each named by the term at which the one outside of it stands
pub record IsOpen (c : Configuration) (room line term : ℕ) (s : GroupSpot)
    (groups : List GroupSpot) : Type 0 where
  pub pointed : line_on line groups < length (lines_on c groups)
  pub small : (line_on line groups + 1 < 2 ^ 64) × (term_on term groups + 1 < 2 ^ 64)
  pub before : s.acl < bound_on c groups
  pub fits : slice_index_or (nestings c.acls) s.acl 0 + length groups ≤ room

abbrev pub AreOpen : Configuration → ℕ → ℕ → ℕ → List GroupSpot → Type 0
AreOpen c room line term [] = Unit {0}
AreOpen c room line term (s ∷ groups) = IsOpen c room line term s groups
    × AreOpen c room line term groups

-- the innermost open group, if one is open
abbrev pub first_of : List GroupSpot → Option GroupSpot
first_of [] = None
first_of (s ∷ groups) = Some s

-- what is next behind a term that matched, or did not, among the rules
abbrev pub line_moved : Bool → ℕ → List GroupSpot → ℕ
line_moved hit line [] = if hit then line else line + 1
line_moved hit line (s ∷ groups) = line

abbrev pub term_moved : Bool → ℕ → List GroupSpot → ℕ
term_moved hit term [] = if hit then term + 1 else 0
term_moved hit term (s ∷ groups) = term

-- and in the innermost open group
abbrev pub groups_moved : Bool → List GroupSpot → List GroupSpot
groups_moved hit [] = []
groups_moved hit (s ∷ groups) = moved hit s ∷ groups

abbrev pub body_of : Option Acl → Option Body
body_of None = None
body_of (Some a) = Some a.body

-- whether a term matches whose acl matches, or does not
abbrev pub under_not : Bool → Bool → Bool
under_not true hit = not hit
under_not false hit = hit
