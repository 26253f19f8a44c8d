use Rattle.std.proofs.Common.{◌≡◌, ◌∙◌, ◌==◌, ◌<◌, if◌then◌else◌, None, Some, is_some, length, ap, sym, subst}
use Rattle.sq_checks.specs.Conns.{check_in, client_in}
use Rattle.sq_checks.specs.Counts.{tally}
use Rattle.sq_checks.specs.Tables.{value_at}
use Rattle.sq_epochs.specs.LiveEpochs.{after_ended, checks_at}
use Rattle.sq_model.specs.Changes.{after_take}
use Rattle.sq_model.specs.States.{IsSame}
use Rattle.sq_engine.specs.EngineViews.{EngineView, state_of}
use Rattle.sq_engine.proofs.LeavingLaws.{LeftBy}
use Rattle.sq_engine.proofs.OverLaws.{IsOver, over_engine, over_same}
use Rattle.sq_engine.proofs.TakeLaws.{client_there, left_by, marked_there, over_counts}
use Rattle.sq_engine.specs.Begun.{AreKept}
use Rattle.sq_engine.proofs.BegunLaws.{kept_removed}
use Rattle.sq_engine.proofs.engines.Engine.remove.Goals as goal

pub leave-requires : goal.leave-requires
leave-requires c =
    let v : EngineView = record {
      conns = c.self.inside.conns;
      checks = c.self.inside.checks;
      asks = c.self.inside.asks;
      puts = c.self.inside.puts;
      epochs = c.self.inside.epochs;
      setup = c.self.inside.setup;
      offset = c.self.inside.offset;
      latest = c.self.inside.latest;
    } in
    let k = c.in-Some.open in
    let found : value_at v.checks c.args.check ≡ Some k = sym c.in-Some.ensures.check in
    λ x needs. c.self.invariant.waiting.there c.args.check k x found needs

pub set_check-requires : goal.set_check-requires
set_check-requires c =
    let v : EngineView = record {
      conns = c.self.inside.conns;
      checks = c.self.inside.checks;
      asks = c.self.inside.asks;
      puts = c.self.inside.puts;
      epochs = c.self.inside.epochs;
      setup = c.self.inside.setup;
      offset = c.self.inside.offset;
      latest = c.self.inside.latest;
    } in
    let k = c.in-Some.open in
    let found : value_at v.checks c.args.check ≡ Some k = sym c.in-Some.ensures.check in
    ap (λ z. is_some (client_in v.conns z)) c.conn.ensures
    ∙ client_there v.conns k.conn c.args.check (marked_there v c.args.check k c.self.invariant found)

pub ended-requires : goal.ended-requires
ended-requires c =
    let v : EngineView = record {
      conns = c.self.inside.conns;
      checks = c.self.inside.checks;
      asks = c.self.inside.asks;
      puts = c.self.inside.puts;
      epochs = c.self.inside.epochs;
      setup = c.self.inside.setup;
      offset = c.self.inside.offset;
      latest = c.self.inside.latest;
    } in
    let k = c.in-Some.open in
    let found : value_at v.checks c.args.check ≡ Some k = sym c.in-Some.ensures.check in
    let left = c.leave.new.epochs in
    let leaves : LeftBy c.args.check v.epochs left =
    left_by v c.args.check k left c.self.invariant found c.leave.ensures.waited c.leave.ensures.none in
    let o : IsOver v c.args.check k left = record { found = found; rise = c.len-len.ensures.rise; leaves = leaves } in
    subst (λ z. 0 < checks_at left z) (sym c.epoch-epoch.ensures) (over_counts v c.args.check k left c.self.invariant o)

pub invariant_of-self : goal.invariant_of-self
invariant_of-self c =
    let v : EngineView = record {
      conns = c.self.inside.conns;
      checks = c.self.inside.checks;
      asks = c.self.inside.asks;
      puts = c.self.inside.puts;
      epochs = c.self.inside.epochs;
      setup = c.self.inside.setup;
      offset = c.self.inside.offset;
      latest = c.self.inside.latest;
    } in
    let k = c.in-Some.open in
    let found : value_at v.checks c.args.check ≡ Some k = sym c.in-Some.ensures.check in
    let left = c.leave.new.epochs in
    let leaves : LeftBy c.args.check v.epochs left =
    left_by v c.args.check k left c.self.invariant found c.leave.ensures.waited c.leave.ensures.none in
    let o : IsOver v c.args.check k left = record { found = found; rise = c.len-len.ensures.rise; leaves = leaves } in
    let is : c.ended.new.self ≡ after_ended k.epoch left = c.ended.ensures
    ∙ ap (λ z. after_ended z left) c.epoch-epoch.ensures in
    over_engine v c.args.check v.latest k left c.ended.new.self c.set_check.new.self c.remove.new.self c.self.invariant
    o is c.remove.ensures.list c.remove.ensures.rows
    (λ d. c.set_check.ensures.checks d ∙ ap (λ z. if z == d then None else check_in v.conns d) c.conn.ensures)

pub returns-clause-same : goal.returns-clause-same
returns-clause-same c =
    let v : EngineView = record {
      conns = c.self.inside.conns;
      checks = c.self.inside.checks;
      asks = c.self.inside.asks;
      puts = c.self.inside.puts;
      epochs = c.self.inside.epochs;
      setup = c.self.inside.setup;
      offset = c.self.inside.offset;
      latest = c.self.inside.latest;
    } in
    let k = c.in-Some.open in
    let found : value_at v.checks c.args.check ≡ Some k = sym c.in-Some.ensures.check in
    let left = c.leave.new.epochs in
    let leaves : LeftBy c.args.check v.epochs left =
    left_by v c.args.check k left c.self.invariant found c.leave.ensures.waited c.leave.ensures.none in
    let o : IsOver v c.args.check k left = record { found = found; rise = c.len-len.ensures.rise; leaves = leaves } in
    let is : c.ended.new.self ≡ after_ended k.epoch left = c.ended.ensures
    ∙ ap (λ z. after_ended z left) c.epoch-epoch.ensures in
    subst (λ z. IsSame (state_of
    (record v { conns = c.set_check.new.self; checks = c.remove.new.self; epochs = c.ended.new.self }))
    (after_take c.args.check z.latest (state_of z))) c.self.view_is
    (over_same v c.args.check v.latest k left c.ended.new.self c.set_check.new.self c.remove.new.self
    (client_in v.conns) (length v.conns.links) (tally v.conns.counts) c.self.invariant o
    c.facts.ensures.homed c.facts.ensures.homes.rise is c.remove.ensures.rows c.set_check.ensures.clients
    c.set_check.ensures.len (λ a. ap (λ z. tally z a) c.set_check.ensures.counts))

pub returns-clause-kept : goal.returns-clause-kept
returns-clause-kept c =
    let v : EngineView = record {
      conns = c.self.inside.conns;
      checks = c.self.inside.checks;
      asks = c.self.inside.asks;
      puts = c.self.inside.puts;
      epochs = c.self.inside.epochs;
      setup = c.self.inside.setup;
      offset = c.self.inside.offset;
      latest = c.self.inside.latest;
    } in
    subst (λ z. AreKept z.checks c.remove.new.self) c.self.view_is
    (subst (AreKept v.checks) (sym c.remove.ensures.list) (kept_removed c.args.check v.checks))
