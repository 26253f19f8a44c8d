-- What a text gives: a configuration of which all holds that holds of every one, with the text as its source.
use Rattle.sq_rules.specs.Lookups.{LookupSizes}
use Rattle.std.proofs.Common.{◌≡◌, ℕ, ◌<◌, ◌≤◌, List, [], ◌∷◌, length, Bool, true, false, refl, sym, ap, arith, Option, Some, None, Result, Ok, Err, nat_lt, if◌then◌else◌}
use Rattle.std.proofs.lemmas.Bool.Decides.{nat_tests}
use Rattle.std.specs.Prelude.{IfOk}
use Rattle.sq_base.specs.Lines.{lexed}
use Rattle.sq_base.specs.declared.config_lines.Line.{Line}
use Rattle.sq_base.specs.declared.config_lines.LineFault.{LineFault}
use Rattle.sq_base.specs.declared.config_lines.LineFault.TheVariants as fault
use Rattle.sq_conf.proofs.AclReadLaws.{Keeps, acl_keeps, rule_keeps}
use Rattle.sq_conf.proofs.LineReadLaws.{access_keeps, children_keep, class_keeps, header_keeps, initial_keeps, noted_keeps, pairs_keep, pool_class_keeps, pools_keep, port_keeps, program_keeps}
use Rattle.sq_conf.proofs.StepLaws.{after, of_given}
use Rattle.sq_conf.proofs.WholeLaws.{IsWhole, begun_whole, finished_whole}
use Rattle.sq_rules.specs.Configurations.{Configuration, IsConfiguration}
use Rattle.sq_rules.specs.ConfText.{all_read, and_then, by_directive, conf_gives, conf_result, directive_of, end_read, error_at, line_read, lines_left, lines_read, lookup_read, text_read, then_read}
use Rattle.sq_rules.specs.Drafts.{Drafts, are_complete, begun, finished}
use Rattle.sq_rules.specs.Limits.{text_limit}
use Rattle.sq_rules.specs.Steps.{WordList, word}
use Rattle.sq_rules.specs.declared.directives.Directive.{Directive}
use Rattle.sq_rules.specs.declared.directives.Directive.TheVariants as directive
use Rattle.sq_rules.specs.declared.kinds.ConfError.{ConfError}
use Rattle.sq_rules.specs.declared.kinds.Kind.{Kind}
use Rattle.sq_rules.specs.declared.kinds.Kind.TheVariants as kind

directive_keeps : (x : Directive) (line : ℕ) (name : List ℕ) (d : Drafts) (ws : WordList) → IsWhole d
    → Keeps (by_directive x line name d ws)
unfolding by_directive
directive_keeps directive.Acl line name d ws whole = acl_keeps d ws whole
directive_keeps directive.HttpAccess line name d ws whole = rule_keeps d ws whole
directive_keeps directive.ExternalAclType line name d ws whole = class_keeps line d ws whole
directive_keeps directive.DelayPools line name d ws whole = pools_keep d ws whole
directive_keeps directive.DelayClass line name d ws whole = pool_class_keeps d ws whole
directive_keeps directive.DelayAccess line name d ws whole = access_keeps d ws whole
directive_keeps directive.DelayParameters line name d ws whole = pairs_keep d ws whole
directive_keeps directive.InitialLevel line name d ws whole = initial_keeps d ws whole
directive_keeps directive.HttpPort line name d ws whole = port_keeps line d ws whole
directive_keeps directive.RequestHeaderAccess line name d ws whole = header_keeps false d ws whole
directive_keeps directive.ReplyHeaderAccess line name d ws whole = header_keeps true d ws whole
directive_keeps directive.RewriteProgram line name d ws whole = program_keeps d ws whole
directive_keeps directive.RewriteChildren line name d ws whole = children_keep d ws whole
directive_keeps directive.DstLookup line name d ws whole = tt
directive_keeps directive.NoEffect line name d ws whole = noted_keeps line name d whole

line_keeps : (line : ℕ) (d : Drafts) (ws : WordList) → IsWhole d → Keeps (line_read line d ws)
unfolding line_read
line_keeps line d ws whole =
    after IsWhole (word ws) _
    (λ first. after IsWhole (directive_of first.0) _
    (λ x. directive_keeps x line first.0 d first.1 whole))

-- a line, and those behind it
read_on_so : {A B : Type 0} (P : B → Type 0) (Q : A → Type 0) (line : ℕ) (r : Result B Kind)
    (rest : B → Result A ConfError) → IfOk r P → ((x : B) → P x → IfOk (rest x) Q) → IfOk (then_read line r rest) Q
read_on_so P Q line (Ok x) rest p q = q x p
read_on_so P Q line (Err k) rest p q = tt

lines_keep : (d : Drafts) (ls : List Line) → IsWhole d → IfOk (lines_read d ls) IsWhole
lines_keep d [] whole = whole
lines_keep d (l ∷ ls) whole =
    read_on_so IsWhole IsWhole l.number (line_read l.number d l.words) (λ next. lines_read next ls)
    (line_keeps l.number d l.words whole) (λ next after. lines_keep next ls after)

-- one part of the text, and what is left
next_so : {A B : Type 0} (P : A → Type 0) (Q : B → Type 0) (r : Result A ConfError) (f : A → Result B ConfError)
    → IfOk r P → ((x : A) → P x → IfOk (f x) Q) → IfOk (and_then r f) Q
next_so P Q (Ok x) f p q = q x p
next_so P Q (Err e) f p q = tt

pub all_keep : (ls : List Line) → IfOk (all_read ls) IsWhole
unfolding all_read
all_keep ls = by (lookup_read ls)
  where
    by : (r : Result (Option LookupSizes) ConfError)
        → IfOk (and_then r (λ sizes. lines_read (begun sizes) (lines_left ls))) IsWhole
    by (Ok sizes) = lines_keep (begun sizes) (lines_left ls) (begun_whole sizes)
    by (Err e) = tt

text_keeps : (d : Drafts) (o : Option LineFault) → IsWhole d → IfOk (text_read d o) IsWhole
text_keeps d None whole = whole
text_keeps d (Some (fault.LineTooLong line)) whole = tt
text_keeps d (Some (fault.NotUtf8 line)) whole = tt

end_so : (bytes : List ℕ) (d : Drafts) → length bytes ≤ text_limit → IsWhole d
    → IfOk (end_read bytes d) IsConfiguration
end_so bytes d short whole = by (are_complete d.pools) refl
  where
    by : (b : Bool) → are_complete d.pools ≡ b
        → IfOk (if b then Ok (finished bytes d) else error_at 0 kind.PoolIncomplete) IsConfiguration
    by true complete = finished_whole bytes d whole short complete
    by false complete = tt

result_so : (bytes : List ℕ) → IfOk (conf_result bytes) IsConfiguration
unfolding conf_result
result_so bytes = by (nat_lt text_limit (length bytes)) refl
  where
    by : (b : Bool) → nat_lt text_limit (length bytes) ≡ b
        → IfOk (if b then error_at 0 kind.TooMany
        else and_then (all_read (lexed bytes).lines)
        (λ d. and_then (text_read d (lexed bytes).fault) (end_read bytes))) IsConfiguration
    by true long = tt
    by false short =
        let most : length bytes ≤ text_limit = grind (arith, nat_tests, short) in
        next_so IsWhole IsConfiguration (all_read (lexed bytes).lines) _ (all_keep (lexed bytes).lines)
        (λ d whole. next_so IsWhole IsConfiguration (text_read d (lexed bytes).fault) _
        (text_keeps d (lexed bytes).fault whole)
        (λ e after. end_so bytes e most after))

-- what a text gives is a configuration
pub gives_configuration : (bytes : List ℕ) (config : Configuration) → conf_gives bytes config → IsConfiguration config
gives_configuration bytes config gives =
    of_given IsConfiguration (conf_result bytes) config (result_so bytes) gives

-- a text past its limit gives none
pub too_long : (bytes : List ℕ) → text_limit < length bytes
    → conf_result bytes ≡ Err (record { line = 0; kind = kind.TooMany })
unfolding conf_result
too_long bytes l = let long : nat_lt text_limit (length bytes) ≡ true = grind (arith, nat_tests) in rw long refl

-- a configuration that a text gives has it as its source
pub gives_source : (text : List ℕ) (config : Configuration) → conf_gives text config → config.source ≡ text
unfolding conf_result finished
gives_source text config gives = by (nat_lt text_limit (length text)) gives
  where
    ended : (d : Drafts) (b : Bool) → (if b then Ok (finished text d) else error_at 0 kind.PoolIncomplete) ≡ Ok config
        → config.source ≡ text
    ended d true e = let same : finished text d ≡ config = cc in ap (λ (c : Configuration). c.source) (sym same)
    ended d false e = absurd (cc)

    read : (r : Result Drafts ConfError) → and_then r (end_read text) ≡ Ok config → config.source ≡ text
    read (Ok d) e = ended d (are_complete d.pools) e
    read (Err x) e = absurd (cc)

    whole : (r : Result Drafts ConfError)
        → and_then r (λ d. and_then (text_read d (lexed text).fault) (end_read text)) ≡ Ok config → config.source ≡ text
    whole (Ok d) e = read (text_read d (lexed text).fault) e
    whole (Err x) e = absurd (cc)

    by : (b : Bool) →
        (if b then error_at 0 kind.TooMany
        else and_then (all_read (lexed text).lines) (λ d. and_then (text_read d (lexed text).fault) (end_read text)))
        ≡ Ok config
        → config.source ≡ text
    by true e = absurd (cc)
    by false e = whole (all_read (lexed text).lines) e
