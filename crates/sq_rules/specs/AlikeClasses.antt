-- In the statement: docs/STATEMENT.md lists which definitions.
-- When two classes are alike, so that cached replies of one may be used by the other.
use Rattle.std.specs.Prelude.{Bool, true, false, ◌&&◌, ◌==◌, nat_eq}
use Rattle.std.specs.Cmp.Lexicographic.{pointwise}
use Rattle.sq_rules.specs.Classes.{Class}
use Rattle.sq_rules.specs.declared.classes.Token.{Token}
use Rattle.sq_rules.specs.declared.classes.Token.TheVariants as token

-- two tokens are one
abbrev pub same_token : Token → Token → Bool
same_token token.ClientAddr token.ClientAddr = true
same_token token.ClientPort token.ClientPort = true
same_token token.Method token.Method = true
same_token token.Uri token.Uri = true
same_token token.Scheme token.Scheme = true
same_token token.Host token.Host = true
same_token token.Port token.Port = true
same_token token.Path token.Path = true
same_token (token.Header name) (token.Header other) = pointwise nat_eq name other
same_token token.AclName token.AclName = true
same_token token.Arguments token.Arguments = true
same_token token.Percent token.Percent = true
same_token t u = false

-- what two classes say of cached replies is the same
abbrev pub same_times : Class → Class → Bool
same_times c d = c.ttl == d.ttl && c.negative_ttl == d.negative_ttl && c.grace == d.grace && c.cache
    == d.cache

-- what two classes say of processes is the same
abbrev pub same_processes : Class → Class → Bool
same_processes c d =
    c.children_max == d.children_max && c.startup == d.startup && c.concurrency == d.concurrency
    && c.queue_size == d.queue_size

-- two classes are alike: all that they state is the same, the name too
abbrev pub is_alike : Class → Class → Bool
is_alike c d =
    pointwise nat_eq c.name d.name && same_times c d && same_processes c d
    && pointwise same_token c.format d.format && pointwise (pointwise nat_eq) c.words d.words
