-- In the statement: docs/STATEMENT.md lists which definitions.
-- The line `dst_lookup on|off [option ...]`, which is this program's own: only the first line with
-- words may be one, and only behind `on` may options stand.
use Rattle.std.specs.Prelude.{ℕ, ◌*◌, List, [], ◌∷◌, Bool, true, false, if◌then◌else◌, Some, None, Ok, is_none, bytes_eq, codes}
use Rattle.std.specs.List.{before_first, after_first}
use Rattle.std.specs.Option.{unwrap_or}
use Rattle.std.specs.declared.option.Option.{Option}
use Rattle.std.specs.declared.result.Result.{Result}
use Rattle.sq_base.specs.NameTables.{beside}
use Rattle.sq_base.specs.Results.{◌>>=◌}
use Rattle.sq_rules.specs.ClassLines.{has_equals, is_equals, up_to}
use Rattle.sq_rules.specs.ConfNumbers.{number_between}
use Rattle.sq_rules.specs.Limits.{children_limit, queue_limit}
use Rattle.sq_rules.specs.Lookups.{LookupSizes}
use Rattle.sq_rules.specs.Steps.{WordList, needed, unless, word, no_more, over}
use Rattle.sq_rules.specs.declared.directives.LookupOption.{LookupOption}
use Rattle.sq_rules.specs.declared.directives.LookupOption.TheVariants as option
use Rattle.sq_rules.specs.declared.kinds.Kind.{Kind}
use Rattle.sq_rules.specs.declared.kinds.Kind.TheVariants.{BadValue, UnknownOption}

-- the words of the switch, and what they mean
abbrev pub switches : List (List ℕ × Bool)
switches = (codes "on", true) ∷ (codes "off", false) ∷ []

-- on or off
unfoldable pub switch : List ℕ → Result Bool Kind
switch w = needed BadValue (beside switches w)

-- the options that stand so far
pub record LookupDraft : Type 0 where
  pub children_max : Option ℕ
  pub queue_size : Option ℕ

-- none
abbrev pub no_sizes : LookupDraft
no_sizes = record { children_max = None; queue_size = None }

-- options by the names before their `=`
abbrev pub lookup_options : List (List ℕ × LookupOption)
lookup_options = (codes "children-max", option.ChildrenMax) ∷ (codes "queue-size", option.QueueSize)
    ∷ []

-- the option of a word; one without `=` is a word too many
unfoldable pub lookup_option : List ℕ → Result LookupOption Kind
lookup_option w = unless (has_equals w) BadValue
    (needed UnknownOption (beside lookup_options (before_first is_equals w)))

-- the option with its value, which may stand once
unfoldable pub with_size : LookupOption → List ℕ → LookupDraft → Result LookupDraft Kind
with_size option.ChildrenMax w s = unless (is_none s.children_max) BadValue
    (number_between 1 children_limit w >>= λ n. Ok (record s { children_max = Some n }))
with_size option.QueueSize w s = unless (is_none s.queue_size) BadValue
    (up_to queue_limit w >>= λ n. Ok (record s { queue_size = Some n }))

-- an option and its value
unfoldable pub size_step : LookupDraft → List ℕ → Result LookupDraft Kind
size_step s w = lookup_option w >>= λ o. with_size o (after_first is_equals w) s

-- how many look-ups are under way at once: eight where it is not said
abbrev pub most_lookups : LookupDraft → ℕ
most_lookups s = unwrap_or s.children_max 8

-- the sizes: twice as many questions wait as look-ups may be under way, where it is not said
abbrev pub sizes_of : LookupDraft → LookupSizes
sizes_of s = record {
  children_max = most_lookups s;
  queue_size = unwrap_or s.queue_size (2 * most_lookups s);
}

-- what stands behind `on`
unfoldable pub sizes_read : WordList → Result (Option LookupSizes) Kind
sizes_read ws = over size_step no_sizes ws >>= λ s. Ok (Some (sizes_of s))

-- what stands behind the directive: the sizes where names are looked up
unfoldable pub lookup_line : WordList → Result (Option LookupSizes) Kind
lookup_line ws = do
  first ← word ws
  on ← switch first.0
  if on then sizes_read first.1 else no_more first.1 None

-- the words of a line are those of `dst_lookup`
abbrev pub states_lookup : WordList → Bool
states_lookup [] = false
states_lookup (w ∷ ws) = bytes_eq w (codes "dst_lookup")

-- the words behind the first
abbrev pub behind_first : WordList → WordList
behind_first [] = []
behind_first (w ∷ ws) = ws
