use Rattle.std.proofs.Common.{subst, sym}
use Rattle.sq_engine.proofs.HandingLaws.{IsHanding, IsLed, all_faulted, all_handed, fewer_lost, handed_on, lost_listed, none_handed, there_after}
use Rattle.sq_engine.proofs.handing.hand_out.Goals as goal

pub loop-lost-init : goal.loop-lost-init
loop-lost-init c = none_handed c.args.epoch c.args.class c.args.now c.args.epochs.now c.args.checks.now c.requires.there
    c.requires.listed

pub next_lost-requires : goal.next_lost-requires
next_lost-requires c = record {
  there =
      there_after c.args.epoch c.args.class IsLed c.args.epochs.now c.loop-lost.epochs c.loop-lost.invariant.changed;
}

pub fault-requires : goal.fault-requires
fault-requires c =
    lost_listed c.args.epoch c.args.class c.args.now c.args.epochs.now c.loop-lost.epochs c.next_lost.new.self
    c.args.checks.now c.loop-lost.checks c.in-Some.lost c.loop-lost.invariant c.in-Some.ensures.handed

pub loop-lost-smaller : goal.loop-lost-smaller
loop-lost-smaller c = fewer_lost c.args.epoch c.args.class c.loop-lost.epochs c.next_lost.new.self c.in-Some.lost
    c.in-Some.ensures.handed

pub loop-lost-preserved : goal.loop-lost-preserved
loop-lost-preserved c =
    subst (λ ds. IsHanding c.args.epoch c.args.class c.args.now c.args.epochs.now c.next_lost.new.self c.args.checks.now
    ds) (sym c.fault.ensures)
    (handed_on c.args.epoch c.args.class c.args.now c.args.epochs.now c.loop-lost.epochs c.next_lost.new.self
    c.args.checks.now c.loop-lost.checks c.in-Some.lost c.loop-lost.invariant c.in-Some.ensures.handed)

pub returns-clause-part : goal.returns-clause-part
returns-clause-part c =
    all_handed c.args.epoch c.args.class c.args.now c.args.epochs.now c.loop-lost.epochs c.next_lost.new.self
    c.args.checks.now c.loop-lost.checks c.loop-lost.invariant c.in_default.ensures.none

pub returns-clause-checks : goal.returns-clause-checks
returns-clause-checks c =
    all_faulted c.args.epoch c.args.class c.args.now c.args.epochs.now c.loop-lost.epochs c.next_lost.new.self
    c.args.checks.now c.loop-lost.checks c.loop-lost.invariant c.in_default.ensures.none
