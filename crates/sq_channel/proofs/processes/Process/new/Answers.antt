use Rattle.std.proofs.Common.{◌≡◌, ℕ, None, ◌∙◌, ap, arith, length, replicate, sym}
use Rattle.std.proofs.lemmas.Grind.{common_steps}
use Rattle.std.proofs.lemmas.List.{length-replicate}
use Rattle.std.specs.declared.option.Option.{Option}
use Rattle.sq_channel.specs.Indexes.{channel_in, free_channels}
use Rattle.sq_channel.proofs.ChannelLaws.{channel_new}
use Rattle.sq_channel.proofs.SlotLaws.{IsProcess_new, opened_new}
use Rattle.sq_channel.proofs.processes.Process.new.Goals as goal

pub invariant_of-result : goal.invariant_of-result
invariant_of-result c =
    let n = c.loop.counter in
    let all : n ≡ c.max-count.result = grind (arith, common_steps) in
    let long = length-replicate {A = Option ℕ} n None in
    let fits = c.ranges.concurrency.fits in
    rw (c.loop.invariant.0) (
      IsProcess_new _ n (grind (arith, common_steps)) (grind (arith, common_steps)),
      record {
        are = c.in_ok-free.ensures.numbers ∙ ap (λ k. free_channels 0 (replicate k None)) (sym all);
        room = grind (arith, long, all, c.in_ok-free.ensures.room);
      },
      record {
        are = λ q. ap (channel_in q) c.in_ok-open.ensures.places ∙ sym (channel_new q n);
        count = ap length c.in_ok-open.ensures.places ∙ sym (ap length (opened_new n));
        room = grind (arith, long, all, c.in_ok-open.ensures.room);
      },
    )
