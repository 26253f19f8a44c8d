-- In the statement: docs/STATEMENT.md lists which definitions.
-- Lines `external_acl_type NAME [option ...] [%token ...] helper [argument ...]` (configuration
-- reference, `external_acl_type`).
use Rattle.std.specs.Prelude.{ℕ, ◌*◌, List, [], ◌∷◌, ◌++◌, length, Bool, true, false, not, if◌then◌else◌, ◌&&◌, ◌||◌, ◌==◌, nat_lt, nat_le, nat_eq, Some, None, Ok, is_none, codes, drop}
use Rattle.std.specs.List.{list_any, before_first, after_first, starts_with}
use Rattle.std.specs.Option.{option_or, unwrap_or}
use Rattle.std.specs.declared.option.Option.{Option}
use Rattle.std.specs.declared.result.Result.{Result}
use Rattle.sq_base.specs.Bytes.{close_brace, equals, percent}
use Rattle.sq_base.specs.Lines.{but_last, ends_in}
use Rattle.sq_base.specs.NameTables.{beside, is_among}
use Rattle.sq_base.specs.Results.{◌>>=◌}
use Rattle.sq_rules.specs.AclValues.{is_token}
use Rattle.sq_rules.specs.Building.{class_place}
use Rattle.sq_rules.specs.Classes.{Class, with_arguments}
use Rattle.sq_rules.specs.ConfNumbers.{number_between}
use Rattle.sq_rules.specs.Drafts.{Drafts}
use Rattle.sq_rules.specs.Limits.{cache_limit, children_limit, grace_limit, name_limit, queue_limit, seconds_limit, token_limit}
use Rattle.sq_rules.specs.Lookups.{classes_within}
use Rattle.sq_rules.specs.Steps.{WordList, unless, needed, word, is_empty, over, begins}
use Rattle.sq_rules.specs.declared.classes.Token.{Token}
use Rattle.sq_rules.specs.declared.classes.Token.TheVariants as token
use Rattle.sq_rules.specs.declared.directives.ClassOption.{ClassOption}
use Rattle.sq_rules.specs.declared.directives.ClassOption.TheVariants as option
use Rattle.sq_rules.specs.declared.kinds.Kind.{Kind}
use Rattle.sq_rules.specs.declared.kinds.Kind.TheVariants.{BadValue, DuplicateClass, MissingWord, TooMany, UnknownOption, UnknownToken}

-- what the words of a line so far state; `noted` is true where an option has no effect
pub record ClassDraft : Type 0 where
  pub ttl : ℕ
  pub negative_ttl : Option ℕ
  pub grace : ℕ
  pub cache : ℕ
  pub children_max : ℕ
  pub startup : ℕ
  pub concurrency : ℕ
  pub queue_size : Option ℕ
  pub noted : Bool
  pub format : List Token
  pub words : List (List ℕ)

-- the defaults
unfoldable pub default_class : ClassDraft
default_class =
    record {
      ttl = 3600;
      negative_ttl = None;
      grace = 0;
      cache = 262144;
      children_max = 5;
      startup = 0;
      concurrency = 0;
      queue_size = None;
      noted = false;
      format = [];
      words = [];
    }

-- whether the byte is `=`
abbrev pub is_equals : ℕ → Bool
is_equals b = b == equals

-- options that are whole words, and have no effect
abbrev pub whole_options : List (List ℕ)
whole_options = codes "protocol=3.0" ∷ codes "quote=url" ∷ codes "ipv4" ∷ codes "ipv6" ∷ []

-- options by the names before their `=`
abbrev pub valued_options : List (List ℕ × ClassOption)
valued_options =
    (codes "ttl", option.Ttl)
    ∷ (codes "negative_ttl", option.NegativeTtl)
    ∷ (codes "grace", option.Grace)
    ∷ (codes "cache", option.Cache)
    ∷ (codes "children-max", option.ChildrenMax)
    ∷ (codes "children-startup", option.ChildrenStartup)
    ∷ (codes "children-idle", option.ChildrenIdle)
    ∷ (codes "concurrency", option.Concurrency)
    ∷ (codes "queue-size", option.QueueSize)
    ∷ []

-- the option of a word
unfoldable pub option_of : List ℕ → Result ClassOption Kind
option_of w =
    if is_among whole_options w then Ok option.NoEffect
    else needed UnknownOption (beside valued_options (before_first is_equals w))

-- a number up to the most
abbrev pub up_to : ℕ → List ℕ → Result ℕ Kind
up_to most w = number_between 0 most w

-- the option with its value; of several, the last counts
unfoldable pub with_option : ClassOption → List ℕ → ClassDraft → Result ClassDraft Kind
with_option option.Ttl w s = up_to seconds_limit w >>= λ n. Ok (record s { ttl = n })
with_option option.NegativeTtl w s = up_to seconds_limit w >>= λ n. Ok
    (record s { negative_ttl = Some n })
with_option option.Grace w s = up_to grace_limit w >>= λ n. Ok (record s { grace = n })
with_option option.Cache w s = up_to cache_limit w >>= λ n. Ok (record s { cache = n })
with_option option.ChildrenMax w s = number_between 1 children_limit w >>= λ n. Ok
    (record s { children_max = n })
with_option option.ChildrenStartup w s = up_to children_limit w >>= λ n. Ok
    (record s { startup = n })
with_option option.ChildrenIdle w s = up_to children_limit w >>= λ n. Ok (record s { noted = true })
with_option option.Concurrency w s = up_to children_limit w >>= λ n. Ok
    (record s { concurrency = n })
with_option option.QueueSize w s = up_to queue_limit w >>= λ n. Ok
    (record s { queue_size = Some n })
with_option option.NoEffect w s = Ok (record s { noted = true })

-- an option and its value
unfoldable pub option_step : ClassDraft → List ℕ → Result ClassDraft Kind
option_step s w = option_of w >>= λ o. with_option o (after_first is_equals w) s

-- what stands in `%>{` and `}`
abbrev pub field_name : List ℕ → List ℕ
field_name w = but_last (drop 3 w)

-- a token for a field of the request
abbrev pub is_field : List ℕ → Bool
is_field w = starts_with nat_eq w (codes "%>{") && ends_in close_brace w && is_token (field_name w)

-- the tokens that are whole words
abbrev pub whole_tokens : List (List ℕ × Token)
whole_tokens =
    (codes "%>a", token.ClientAddr)
    ∷ (codes "%SRC", token.ClientAddr)
    ∷ (codes "%>p", token.ClientPort)
    ∷ (codes "%SRCPORT", token.ClientPort)
    ∷ (codes "%>rm", token.Method)
    ∷ (codes "%METHOD", token.Method)
    ∷ (codes "%>ru", token.Uri)
    ∷ (codes "%URI", token.Uri)
    ∷ (codes "%>rs", token.Scheme)
    ∷ (codes "%PROTO", token.Scheme)
    ∷ (codes "%>rd", token.Host)
    ∷ (codes "%DST", token.Host)
    ∷ (codes "%>rP", token.Port)
    ∷ (codes "%PORT", token.Port)
    ∷ (codes "%>rp", token.Path)
    ∷ (codes "%PATH", token.Path)
    ∷ (codes "%ACL", token.AclName)
    ∷ (codes "%DATA", token.Arguments)
    ∷ (codes "%%", token.Percent)
    ∷ []

-- the token for a field of the request
abbrev pub field_token : List ℕ → Option Token
field_token w = if is_field w then Some (token.Header (field_name w)) else None

-- what a token stands for
unfoldable pub token_of : List ℕ → Result Token Kind
token_of w = needed UnknownToken (option_or (beside whole_tokens w) (field_token w))

-- a token more
unfoldable pub token_step : ClassDraft → List ℕ → Result ClassDraft Kind
token_step s w = do
  token ← token_of w
  unless (nat_lt (length s.format) token_limit) TooMany
      (Ok (record s { format = s.format ++ token ∷ [] }))

-- whether the word has a `=`
abbrev pub has_equals : List ℕ → Bool
has_equals w = list_any is_equals w

-- options without `=`
abbrev pub bare_options : List (List ℕ)
bare_options = codes "ipv4" ∷ codes "ipv6" ∷ []

-- a word that is an option where no token stands yet
abbrev pub is_option : List ℕ → Bool
is_option w = has_equals w || is_among bare_options w

-- the helper, or an argument of it
abbrev pub with_word : ClassDraft → List ℕ → ClassDraft
with_word s w = record s { words = s.words ++ w ∷ [] }

-- options, then tokens, then the helper and its arguments
unfoldable pub class_step : ClassDraft → List ℕ → Result ClassDraft Kind
class_step s w =
    if not (is_empty s.words) then Ok (with_word s w)
    else (if begins percent w then token_step s w
    else (if is_empty s.format && is_option w then option_step s w
    else Ok (with_word s w)))

-- the class that a line states
unfoldable pub class_of : List ℕ → ClassDraft → Class
class_of name s = record {
  name = name;
  ttl = s.ttl;
  negative_ttl = unwrap_or s.negative_ttl s.ttl;
  grace = s.grace;
  cache = s.cache;
  children_max = s.children_max;
  startup = s.startup;
  concurrency = s.concurrency;
  queue_size = unwrap_or s.queue_size (2 * s.children_max);
  format = with_arguments s.format;
  words = s.words;
}

-- a name that no class has, and room for one more
abbrev pub class_name : Drafts → List ℕ → Result (List ℕ) Kind
class_name d w =
    unless (nat_le (length w) name_limit) BadValue
    (unless (is_none (class_place d.classes w)) DuplicateClass
    (unless (nat_lt (length d.classes) (classes_within d.dst_lookup)) TooMany (Ok w)))

-- one notice more
abbrev pub with_notice : ℕ → List ℕ → Drafts → Drafts
with_notice line directive d = record d
    { notices = d.notices ++ (record { line = line; directive = directive }) ∷ [] }

-- one more notice where the test holds
abbrev pub with_notice_if : Bool → ℕ → List ℕ → Drafts → Drafts
with_notice_if true line directive d = with_notice line directive d
with_notice_if false line directive d = d

-- one more class of helpers
abbrev pub with_class : Class → Drafts → Drafts
with_class c d = record d { classes = d.classes ++ c ∷ [] }

-- external_acl_type NAME ...
unfoldable pub class_line : ℕ → Drafts → WordList → Result Drafts Kind
class_line line d ws = do
  first ← word ws
  name ← class_name d first.0
  s ← over class_step default_class first.1
  unless (not (is_empty s.words)) MissingWord
      (Ok (with_notice_if s.noted line (codes "external_acl_type")
      (with_class (class_of name s) d)))
