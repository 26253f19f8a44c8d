-- What holds of a class of helpers as far as a line states it.
use Rattle.std.specs.Prelude.{ℕ, ◌≤◌, List, length, IfSome}
use Rattle.std.specs.declared.result.Result.{Result}
use Rattle.sq_base.specs.Results.{◌>>=◌}
use Rattle.sq_rules.specs.ClassLines.{ClassDraft}
use Rattle.sq_rules.specs.ConfNumbers.{number_between}
use Rattle.sq_rules.specs.Limits.{cache_limit, children_limit, grace_limit, queue_limit, seconds_limit, token_limit}
use Rattle.sq_rules.specs.RewriteLines.{children_step, most_children}
use Rattle.sq_rules.specs.Steps.{WordList, over}
use Rattle.sq_rules.specs.declared.kinds.Kind.{Kind}

-- each option lies in its range, and the tokens are few
pub record IsClassDraft (s : ClassDraft) : Type 0 where
  pub ttl_is : s.ttl ≤ seconds_limit
  pub negative_ttl_is : IfSome s.negative_ttl (λ n. n ≤ seconds_limit)
  pub grace_is : s.grace ≤ grace_limit
  pub cache_is : s.cache ≤ cache_limit
  pub some_children : 1 ≤ s.children_max
  pub few_children : s.children_max ≤ children_limit
  pub startup_is : s.startup ≤ children_limit
  pub concurrency_is : s.concurrency ≤ children_limit
  pub queue_size_is : IfSome s.queue_size (λ n. n ≤ queue_limit)
  pub few_tokens : length s.format ≤ token_limit

-- what the number of processes and the options of `url_rewrite_children` state
abbrev pub children_of : List ℕ → WordList → Result ClassDraft Kind
children_of max ws = number_between 1 children_limit max >>= λ n. over children_step
    (most_children n) ws
