use Rattle.std.proofs.Common.{rules, ◌≡◌, ◌∙◌, cond, List, Some, None, refl, sym, ap}
use Rattle.sq_machine.specs.BucketLevels.{Filled}
use Rattle.sq_machine.specs.PoolReadings.{BucketSpot, has_spot, is_spot}
use Rattle.sq_buckets.specs.Grants.{bucket_at, filled_if, opened_in}
use Rattle.sq_buckets.proofs.BucketLaws.{opened_more, opened_there}
use Rattle.sq_buckets.proofs.buckets.Buckets.+open.Goals as goal

pub returns-in-Ok-clause-ok : goal.returns-in-Ok-clause-ok
returns-in-Ok-clause-ok t c = λ s.
    let n : BucketSpot = c.in-Some.first.now in
    let rest : List BucketSpot = c.in-Some.rest.now in
    let es = c.args.self.now in
    let free : bucket_at es n ≡ None = search rules in
    let new : c.open-2.result ≡ opened_in c.args.initial c.args.second n =
    rw (c.open-2.ensures, c.limit.ensures) refl in
    let put : bucket_at c.put.new.self s
    ≡ filled_if (is_spot n s) (opened_in c.args.initial c.args.second s) (bucket_at es s) =
    c.in_ok-put.ensures.ok s
    ∙ ap (λ (f : Filled). cond (is_spot s n) (Some f) (bucket_at es s)) new
    ∙ opened_there c.args.initial c.args.second n s es free in
    c.in-Ok.ensures.ok s
    ∙ ap (filled_if (has_spot rest s) (opened_in c.args.initial c.args.second s)) put
    ∙ opened_more (is_spot n s) (has_spot rest s) (opened_in c.args.initial c.args.second s) (bucket_at es s)
    ∙ ap (λ (l : List BucketSpot). filled_if (has_spot l s) (opened_in c.args.initial c.args.second s) (bucket_at es s))
    (sym c.in-Some.ensures.cases.0)
