-- In the statement: docs/STATEMENT.md lists which definitions.
-- Limits of a configuration.
use Rattle.std.specs.Prelude.{ℕ}

-- bytes of a configuration's text
abbrev pub text_limit : ℕ
text_limit = 1048576

-- acls that a file states, the predefined ones counted
abbrev pub acl_limit : ℕ
acl_limit = 4096

-- acls, with those that are made where names are looked up: three beside each, and one for all
abbrev pub most_acls : ℕ
most_acls = 16385

-- rules
abbrev pub rule_limit : ℕ
rule_limit = 10000

-- bytes of a name
abbrev pub name_limit : ℕ
name_limit = 255

-- rules of `request_header_access` and `reply_header_access` together
abbrev pub header_limit : ℕ
header_limit = 10000

-- classes of helpers that a file states
abbrev pub class_limit : ℕ
class_limit = 64

-- classes, with the one that is made where names are looked up
abbrev pub most_classes : ℕ
most_classes = 65

-- delay pools
abbrev pub pool_limit : ℕ
pool_limit = 64

-- tokens that a format states
abbrev pub token_limit : ℕ
token_limit = 32

-- how deep groups nest
abbrev pub nesting_limit : ℕ
nesting_limit = 32

-- numbers of `delay_parameters`
abbrev pub delay_limit : ℕ
delay_limit = 1000000000000000

-- the percentage at which a bucket opens
abbrev pub initial_limit : ℕ
initial_limit = 100

-- seconds for which a verdict of a helper may be fresh
abbrev pub seconds_limit : ℕ
seconds_limit = 2147483647

-- the percentage of that time in which a refresh may begin
abbrev pub grace_limit : ℕ
grace_limit = 100

-- verdicts of a class that may be kept
abbrev pub cache_limit : ℕ
cache_limit = 16777216

-- processes of a class, and channels of a process
abbrev pub children_limit : ℕ
children_limit = 1024

-- questions of a class that may wait
abbrev pub queue_limit : ℕ
queue_limit = 1000000

-- numbers of `maxconn` are below this
abbrev pub maxconn_limit : ℕ
maxconn_limit = 2147483648
