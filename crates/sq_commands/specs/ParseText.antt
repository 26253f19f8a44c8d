-- In the statement: docs/STATEMENT.md lists which definitions.
-- What `parse` writes of a configuration: a line for each notice, and a line of counts.
use Rattle.std.specs.Prelude.{ℕ, List, [], ◌∷◌, ◌++◌, length, codes, decimal}
use Rattle.std.specs.List.{flat_map}
use Rattle.sq_rules.specs.Configurations.{Configuration}
use Rattle.sq_rules.specs.Lookups.{stated_acls, stated_classes}
use Rattle.sq_rules.specs.declared.notices.Notice.{Notice}

-- a word and a number
abbrev pub count : List ℕ → ℕ → List ℕ
count word number = word ++ decimal number

-- `notice LINE DIRECTIVE`
abbrev pub notice_line : Notice → List ℕ
notice_line n = count (codes "notice ") n.line ++ 32 ∷ [] ++ n.directive ++ 10 ∷ []

-- `ok acls A rules R classes C pools P`: what a file states, and not what is made for look-ups
abbrev pub counts_line : Configuration → List ℕ
counts_line c =
    count (codes "ok acls ") (stated_acls c.dst_lookup c.acls)
    ++ count (codes " rules ") (length c.rules)
    ++ count (codes " classes ") (stated_classes c.dst_lookup c.classes)
    ++ count (codes " pools ") (length c.pools) ++ 10 ∷ []

-- what `parse` writes
abbrev pub parse_text : Configuration → List ℕ
parse_text c = flat_map notice_line c.notices ++ counts_line c
