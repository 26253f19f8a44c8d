-- In the statement: docs/STATEMENT.md lists which definitions.
-- What a pattern of `url_regex` is, and when it is found (configuration reference, `acl`, type
-- url_regex): patterns have the syntax of the crate regex, over bytes.
use Rattle.std.specs.Prelude.{ℕ, Bool, false, ◌&&◌, nat_le, List, Option, None, Some, is_some, chars}
use Rattle.std.specs.List.{list_any}
use Rattle.std.specs.Str.{is_utf8}
use Rattle.regex.specs.Patterns.{Re, find, default_config, Config}
use Rattle.regex_syntax.specs.Brackets.{Nested}
use Rattle.regex_syntax.specs.Grammar.{Names, read}
use Rattle.sq_rules.specs.declared.leaves.Find.{Find}

-- the options with which a pattern is read: for bytes, and with case off where it is folded
abbrev pub options : Bool → Config
options fold = record default_config
    { flags = record default_config.flags { case_insensitive = fold }; utf8 = false }

-- what the grammar of patterns reads in the pattern
unfoldable pub reading : Find → Option (Nested Re × Names)
reading f = read (options f.fold) (chars f.pattern)

-- the grammar reads the pattern, and its syntax nests at most 250 deep
abbrev pub reads_well : Option (Nested Re × Names) → Bool
reads_well None = false
reads_well (Some r) = nat_le r.0.depth 250

-- a pattern is UTF-8 that the grammar reads and that does not nest too deep
unfoldable pub is_pattern : Find → Bool
is_pattern f = is_utf8 f.pattern && reads_well (reading f)

-- what it stands for is found somewhere in the text
abbrev pub is_found_by : Option (Nested Re × Names) → List ℕ → Bool
is_found_by None text = false
is_found_by (Some r) text = is_some (find r.0.value text 0)

-- whether the pattern is found in the text
unfoldable pub is_found : Find → List ℕ → Bool
is_found f text = is_found_by (reading f) text

-- some pattern of the list is found
abbrev pub some_found : List Find → List ℕ → Bool
some_found finds text = list_any (λ f. is_found f text) finds
