-- What holds of the options of `dst_lookup` that stand so far.
use Rattle.std.specs.Prelude.{◌≤◌, IfSome}
use Rattle.sq_rules.specs.Limits.{children_limit, queue_limit}
use Rattle.sq_rules.specs.LookupLines.{LookupDraft}

-- each lies in its range
pub record IsLookupDraft (s : LookupDraft) : Type 0 where
  pub some_children : IfSome s.children_max (λ n. 1 ≤ n)
  pub few_children : IfSome s.children_max (λ n. n ≤ children_limit)
  pub queue_size_is : IfSome s.queue_size (λ n. n ≤ queue_limit)
