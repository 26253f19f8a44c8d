use Rattle.std.proofs.Common.{rules, ◌≡◌, ◌∙◌, cond, sym, Some, None, is_some, true}
use Rattle.sq_machine.specs.BucketLevels.{Filled}
use Rattle.sq_machine.specs.PoolReadings.{is_spot}
use Rattle.sq_buckets.specs.Grants.{bucket_at}
use Rattle.sq_buckets.proofs.BucketLaws.{drawn_there, level_there, not_missing}
use Rattle.sq_buckets.proofs.MapLaws.{after, found, spot_key}
use Rattle.sq_buckets.proofs.buckets.Buckets.draw.Goals as goal

pub grant-requires-clause-amount : goal.grant-requires-clause-amount
grant-requires-clause-amount c =
    let here : bucket_at c.self.inside.map.entries c.args.spot.now ≡ Some c.in-Some.filling.now =
    found _ _ spot_key c.args.spot.now c.self.inside.map.entries ∙ sym c.in-Some.ensures.value in
    let same : bucket_at c.args.self.now c.args.spot.now ≡ Some c.in-Some.filling.now = rw (← c.self.view_is) here in
    rw (level_there c.args.second _ c.in-Some.filling.now same) at c.requires.amount

pub unreachable-requires : goal.unreachable-requires
unreachable-requires c =
    let here : bucket_at c.self.inside.map.entries c.args.spot.now ≡ None =
    found _ _ spot_key c.args.spot.now c.self.inside.map.entries ∙ sym c.in-None.ensures.value in
    let there : is_some (bucket_at c.self.inside.map.entries c.args.spot.now) ≡ true =
    rw c.self.view_is c.requires.there in
    not_missing _ here there

pub returns : goal.returns
returns c = λ s.
    let w : Filled = c.grant.new.self in
    let here : bucket_at c.self.inside.map.entries c.args.spot.now ≡ Some c.in-Some.filling.now =
    found _ _ spot_key c.args.spot.now c.self.inside.map.entries ∙ sym c.in-Some.ensures.value in
    let now : bucket_at (c.get_mut.follows.lender w).entries s
    ≡ cond (is_spot s c.args.spot.now) (Some w) (bucket_at c.self.inside.map.entries s) =
    after _ _ spot_key s c.args.spot.now (Some w) c.self.inside.map.entries (c.get_mut.follows.lender w).entries
    (((c.get_mut.follows.holds w).3 (search rules)).0 s) in
    let step : cond (is_spot s c.args.spot.now) (Some w) (bucket_at c.self.inside.map.entries s) ≡ _ =
    rw c.grant.ensures (drawn_there c.args.second c.args.amount c.args.spot.now s c.self.inside.map.entries
    c.in-Some.filling.now here) in
    rw (← c.self.view_is) (now ∙ step)
