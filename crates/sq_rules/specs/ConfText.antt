-- In the statement: docs/STATEMENT.md lists which definitions.
-- What a text of a configuration states, or its first fault: the lines in their order, and in each
-- its words from the left (configuration reference).
use Rattle.std.specs.Prelude.{◌≡◌, ℕ, List, [], ◌∷◌, length, Bool, true, false, if◌then◌else◌, nat_lt, Some, None, Ok, Err, codes}
use Rattle.std.specs.declared.option.Option.{Option}
use Rattle.std.specs.declared.result.Result.{Result}
use Rattle.sq_base.specs.Lines.{lexed}
use Rattle.sq_base.specs.NameTables.{beside, is_among}
use Rattle.sq_base.specs.Results.{◌>>=◌}
use Rattle.sq_base.specs.declared.config_lines.Line.{Line}
use Rattle.sq_base.specs.declared.config_lines.LineFault.{LineFault}
use Rattle.sq_base.specs.declared.config_lines.LineFault.TheVariants as fault
use Rattle.sq_rules.specs.AclLines.{acl_line, rule_line}
use Rattle.sq_rules.specs.ClassLines.{class_line, with_notice}
use Rattle.sq_rules.specs.Configurations.{Configuration}
use Rattle.sq_rules.specs.Drafts.{Drafts, begun, are_complete, finished}
use Rattle.sq_rules.specs.HeaderLines.{header_line}
use Rattle.sq_rules.specs.Limits.{text_limit}
use Rattle.sq_rules.specs.LookupLines.{behind_first, lookup_line, states_lookup}
use Rattle.sq_rules.specs.Lookups.{LookupSizes}
use Rattle.sq_rules.specs.PoolLines.{initial_line, pool_access_line, pool_class_line, pool_pairs_line, pools_line, port_line}
use Rattle.sq_rules.specs.RewriteLines.{children_line, program_line}
use Rattle.sq_rules.specs.Steps.{WordList, word}
use Rattle.sq_rules.specs.declared.directives.Directive.{Directive}
use Rattle.sq_rules.specs.declared.directives.Directive.TheVariants as directive
use Rattle.sq_rules.specs.declared.kinds.ConfError.{ConfError}
use Rattle.sq_rules.specs.declared.kinds.Kind.{Kind}
use Rattle.sq_rules.specs.declared.kinds.Kind.TheVariants as kind

-- directives by their names
abbrev pub directives : List (List ℕ × Directive)
directives =
    (codes "acl", directive.Acl)
    ∷ (codes "http_access", directive.HttpAccess)
    ∷ (codes "external_acl_type", directive.ExternalAclType)
    ∷ (codes "delay_pools", directive.DelayPools)
    ∷ (codes "delay_class", directive.DelayClass)
    ∷ (codes "delay_access", directive.DelayAccess)
    ∷ (codes "delay_parameters", directive.DelayParameters)
    ∷ (codes "delay_initial_bucket_level", directive.InitialLevel)
    ∷ (codes "http_port", directive.HttpPort)
    ∷ (codes "request_header_access", directive.RequestHeaderAccess)
    ∷ (codes "reply_header_access", directive.ReplyHeaderAccess)
    ∷ (codes "url_rewrite_program", directive.RewriteProgram)
    ∷ (codes "url_rewrite_children", directive.RewriteChildren)
    ∷ (codes "dst_lookup", directive.DstLookup)
    ∷ []

-- directives of the cache and of the program that are read without effect
abbrev pub without_effect : List (List ℕ)
without_effect =
    codes "cache" ∷ codes "cache_dir" ∷ codes "cache_effective_group" ∷ codes "cache_effective_user"
    ∷ codes "cache_log" ∷ codes "cache_mem"
    ∷ codes "cache_mgr" ∷ codes "cache_replacement_policy" ∷ codes "cache_store_log"
    ∷ codes "maximum_object_size"
    ∷ codes "maximum_object_size_in_memory" ∷ codes "memory_replacement_policy"
    ∷ codes "minimum_object_size" ∷ codes "refresh_pattern"
    ∷ codes "strip_query_terms" ∷ codes "access_log" ∷ codes "coredump_dir"
    ∷ codes "dns_nameservers" ∷ codes "error_directory"
    ∷ codes "hosts_file" ∷ codes "logfile_rotate" ∷ codes "pid_filename" ∷ codes "shutdown_lifetime"
    ∷ codes "visible_hostname" ∷ []

-- a directive that is known and has no effect, or an unknown one
abbrev pub directive_without_effect : List ℕ → Result Directive Kind
directive_without_effect w = if is_among without_effect w then Ok directive.NoEffect
    else Err kind.UnknownDirective

-- a directive with an effect, or one without
abbrev pub or_without_effect : Option Directive → List ℕ → Result Directive Kind
or_without_effect (Some d) w = Ok d
or_without_effect None w = directive_without_effect w

-- the directive of this name
unfoldable pub directive_of : List ℕ → Result Directive Kind
directive_of w = or_without_effect (beside directives w) w

-- what the words behind a directive change; `dst_lookup` is refused but at the first line
unfoldable pub by_directive : Directive → ℕ → List ℕ → Drafts → WordList → Result Drafts Kind
by_directive directive.Acl line name d ws = acl_line d ws
by_directive directive.HttpAccess line name d ws = rule_line d ws
by_directive directive.ExternalAclType line name d ws = class_line line d ws
by_directive directive.DelayPools line name d ws = pools_line d ws
by_directive directive.DelayClass line name d ws = pool_class_line d ws
by_directive directive.DelayAccess line name d ws = pool_access_line d ws
by_directive directive.DelayParameters line name d ws = pool_pairs_line d ws
by_directive directive.InitialLevel line name d ws = initial_line d ws
by_directive directive.HttpPort line name d ws = port_line line d ws
by_directive directive.RequestHeaderAccess line name d ws = header_line false d ws
by_directive directive.ReplyHeaderAccess line name d ws = header_line true d ws
by_directive directive.RewriteProgram line name d ws = program_line d ws
by_directive directive.RewriteChildren line name d ws = children_line d ws
by_directive directive.DstLookup line name d ws = Err kind.BadValue
by_directive directive.NoEffect line name d ws = Ok (with_notice line name d)

-- a line, by its number and its words
unfoldable pub line_read : ℕ → Drafts → WordList → Result Drafts Kind
line_read line d ws = do
  first ← word ws
  directive ← directive_of first.0
  by_directive directive line first.0 d first.1

-- the error at this line
abbrev pub error_at : {A : Type 0} → ℕ → Kind → Result A ConfError
error_at line k = Err (record { line = line; kind = k })

-- a line's fault is one of the text, at that line; where it has none, the rest is read
abbrev pub then_read : {A B : Type 0} → ℕ → Result B Kind → (B → Result A ConfError)
    → Result A ConfError
then_read line (Ok d) rest = rest d
then_read line (Err k) rest = error_at line k

-- the lines in their order, up to the first fault
abbrev pub lines_read : Drafts → List Line → Result Drafts ConfError
lines_read d [] = Ok d
lines_read d (l ∷ ls) = then_read l.number (line_read l.number d l.words)
    (λ next. lines_read next ls)

-- whether names are looked up, and how many, which the first line may say
abbrev pub lookup_read : List Line → Result (Option LookupSizes) ConfError
lookup_read [] = Ok None
lookup_read (l ∷ ls) = if states_lookup l.words then then_read l.number
    (lookup_line (behind_first l.words)) (λ sizes. Ok sizes) else Ok None

-- the lines that are left then
abbrev pub lines_left : List Line → List Line
lines_left [] = []
lines_left (l ∷ ls) = if states_lookup l.words then ls else (l ∷ ls)

-- the next step over a result, or its error
abbrev pub and_then : {A B : Type 0} → Result A ConfError → (A → Result B ConfError)
    → Result B ConfError
and_then (Ok x) f = f x
and_then (Err e) f = Err e

-- all lines
unfoldable pub all_read : List Line → Result Drafts ConfError
all_read ls = and_then (lookup_read ls) (λ sizes. lines_read (begun sizes) (lines_left ls))

-- the first line that is faulty as a whole comes after those before it
abbrev pub text_read : Drafts → Option LineFault → Result Drafts ConfError
text_read d None = Ok d
text_read d (Some (fault.LineTooLong line)) = error_at line kind.LineTooLong
text_read d (Some (fault.NotUtf8 line)) = error_at line kind.NotUtf8

-- at the end each pool has its class and its limits
abbrev pub end_read : List ℕ → Drafts → Result Configuration ConfError
end_read bytes d = if are_complete d.pools then Ok (finished bytes d)
    else error_at 0 kind.PoolIncomplete

-- the configuration of a text, or the text's first fault
unfoldable pub conf_result : List ℕ → Result Configuration ConfError
conf_result bytes =
    if nat_lt text_limit (length bytes) then error_at 0 kind.TooMany
    else and_then (all_read (lexed bytes).lines)
    (λ d. and_then (text_read d (lexed bytes).fault) (end_read bytes))

-- the text states this configuration
abbrev pub conf_gives : List ℕ → Configuration → Type 0
conf_gives bytes config = conf_result bytes ≡ Ok config

-- the text is refused, for this fault at this line
abbrev pub conf_refuses : List ℕ → ℕ → Kind → Type 0
conf_refuses bytes line k = conf_result bytes ≡ Err (record { line = line; kind = k })
