-- In the statement: docs/STATEMENT.md lists which definitions.
-- Lines `url_rewrite_program` and `url_rewrite_children` (configuration reference,
-- `url_rewrite_program`, `url_rewrite_children`).
use Rattle.std.specs.Prelude.{ℕ, List, [], ◌∷◌, if◌then◌else◌, Some, None, Ok, is_none, codes}
use Rattle.std.specs.List.{before_first, after_first}
use Rattle.std.specs.declared.option.Option.{Option}
use Rattle.std.specs.declared.result.Result.{Result}
use Rattle.sq_base.specs.NameTables.{beside}
use Rattle.sq_base.specs.Results.{◌>>=◌}
use Rattle.sq_rules.specs.ClassLines.{ClassDraft, class_of, default_class, has_equals, is_equals, with_option}
use Rattle.sq_rules.specs.Classes.{Class}
use Rattle.sq_rules.specs.ConfNumbers.{number_between}
use Rattle.sq_rules.specs.Drafts.{Drafts}
use Rattle.sq_rules.specs.Limits.{children_limit}
use Rattle.sq_rules.specs.Steps.{WordList, unless, needed, word, over}
use Rattle.sq_rules.specs.declared.directives.ClassOption.{ClassOption}
use Rattle.sq_rules.specs.declared.directives.ClassOption.TheVariants as option
use Rattle.sq_rules.specs.declared.kinds.Kind.{Kind}
use Rattle.sq_rules.specs.declared.kinds.Kind.TheVariants.{BadValue, UnknownOption}

-- the rewriter's program
abbrev pub with_program : WordList → Drafts → Drafts
with_program words d = record d { program = Some words }

-- the helper and its arguments
abbrev pub program_words : WordList → Result WordList Kind
program_words ws = word ws >>= λ first. Ok ws

-- url_rewrite_program HELPER ARGUMENT ...; a second line is refused
unfoldable pub program_line : Drafts → WordList → Result Drafts Kind
program_line d ws = do
  words ← unless (is_none d.program) BadValue (program_words ws)
  Ok (with_program words d)

-- options by the names before their `=`
abbrev pub children_options : List (List ℕ × ClassOption)
children_options =
    (codes "startup", option.ChildrenStartup)
    ∷ (codes "idle", option.ChildrenIdle)
    ∷ (codes "concurrency", option.Concurrency)
    ∷ (codes "queue-size", option.QueueSize)
    ∷ []

-- the option of a word, in which `=` stands
abbrev pub option_named : List ℕ → Option ClassOption
option_named w = if has_equals w then beside children_options (before_first is_equals w) else None

-- the option that a word of `url_rewrite_children` states
unfoldable pub children_option : List ℕ → Result ClassOption Kind
children_option w = needed UnknownOption (option_named w)

-- an option and its value
unfoldable pub children_step : ClassDraft → List ℕ → Result ClassDraft Kind
children_step s w = children_option w >>= λ o. with_option o (after_first is_equals w) s

-- the class with this `children-max`
abbrev pub most_children : ℕ → ClassDraft
most_children max = record default_class { children_max = max }

-- the class of the program that rewrites, without its program; nothing asks it by a key, so its
-- format is empty
abbrev pub rewriter_with : ClassDraft → Class
rewriter_with s = record (class_of (codes "url rewrite") s) { format = [] }

-- MAX and options
unfoldable pub children_words : WordList → Result ClassDraft Kind
children_words ws = do
  first ← word ws
  max ← number_between 1 children_limit first.0
  over children_step (most_children max) first.1

-- the rewriter's children
abbrev pub with_children : ClassDraft → Drafts → Drafts
with_children s d = record d { children = Some (rewriter_with s) }

-- url_rewrite_children MAX [option ...]; a second line is refused
unfoldable pub children_line : Drafts → WordList → Result Drafts Kind
children_line d ws = do
  s ← unless (is_none d.children) BadValue (children_words ws)
  Ok (with_children s d)
