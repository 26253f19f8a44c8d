use Rattle.std.proofs.Common.{◌≡◌, ◌≤◌, ◌<◌, ◌+◌, ◌-◌, ◌*◌, length, take}
use Rattle.std.specs.Io.KnownBytes.{Appends}
use Rattle.sq_forward.specs.Meters.{granted_after, dry_limit}
use Rattle.sq_forward.proofs.paying.pay_by_grants.Given as goal

-- the bytes before `at` were granted and written
abbrev pub invariant-loop-at : goal.invariant-loop-at
invariant-loop-at g l = record {
  within : l.at ≤ length l.bytes;
  wrote : Appends (g.O.Sink.contents l.fn.to) (g.O.Sink.contents l.to) (take l.at l.bytes);
  counted : g.M.Meter.dry l.meter ≡ l.dry;
  few : l.dry < dry_limit;
  rested : length l.bytes ≤ l.at → l.dry ≡ 0;
  seated : g.M.Meter.seated l.meter ≡ g.M.Meter.seated l.fn.meter;
  besides : g.M.Meter.besides l.meter ≡ g.M.Meter.besides l.fn.meter;
  granted : g.M.Meter.granted l.meter ≡ granted_after (g.M.Meter.seated l.fn.meter) (g.M.Meter.granted l.fn.meter) l.at;
  later : g.O.Sink.faults l.fn.to ≤ g.O.Sink.faults l.to;
}

abbrev pub decreases-loop-at : goal.decreases-loop-at
decreases-loop-at g l = (length l.bytes - l.at) * dry_limit + (dry_limit - l.dry)
