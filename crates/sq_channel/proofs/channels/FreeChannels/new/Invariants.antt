use Rattle.std.proofs.Common.{◌≡◌, ◌≤◌, replicate, None}
use Rattle.std.specs.VecDeque.{deque_capacity}
use Rattle.sq_channel.specs.Indexes.{free_channels}
use Rattle.sq_channel.proofs.channels.FreeChannels.new.Given as goal

abbrev pub invariant-loop-channel : goal.invariant-loop-channel
invariant-loop-channel l = (l.items.items ≡ free_channels 0 (replicate l.channel None))
    × (deque_capacity l.items ≡ l.count) × (l.channel ≤ l.count)
