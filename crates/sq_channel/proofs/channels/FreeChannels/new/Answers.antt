use Rattle.std.proofs.Common.{◌≡◌, ℕ, suc, ◌+◌, ◌∷◌, ◌++◌, [], None, ◌∙◌, ap, arith, length, replicate, subst, sym}
use Rattle.std.proofs.lemmas.Grind.{common_steps}
use Rattle.sq_machine.specs.Rising.{Rises}
use Rattle.sq_channel.specs.Indexes.{free_channels}
use Rattle.sq_channel.proofs.ChannelLaws.{free_count_law, free_new, from_zero, rises_free}
use Rattle.sq_channel.proofs.SlotLaws.{new_slots}
use Rattle.sq_channel.proofs.channels.FreeChannels.new.Goals as goal

more : (n : ℕ) → suc n ≡ n + 1
more n = omega arith

pub push_back_reserved-requires : goal.push_back_reserved-requires
push_back_reserved-requires c =
    let n = c.loop-channel.channel in
    let count : length c.loop-channel.items.items ≡ n = ap length c.loop-channel.invariant.0
    ∙ free_count_law 0 (replicate n None) ∙ new_slots n in
    grind (arith, common_steps, count, c.loop-channel.invariant.1)

pub loop-channel-preserved : goal.loop-channel-preserved
loop-channel-preserved c =
    let n = c.loop-channel.channel in (
      c.push_back_reserved.ensures.items ∙ ap (λ z. z ++ n ∷ []) c.loop-channel.invariant.0
          ∙ ap (λ k. free_channels 0 (replicate n None) ++ k ∷ []) (sym (from_zero n)) ∙ free_new 0 n
          ∙ ap (λ k. free_channels 0 (replicate k None)) (more n),
      grind (arith, common_steps, c.loop-channel.invariant.1),
      grind (arith, common_steps),
    )

pub invariant_of-result : goal.invariant_of-result
invariant_of-result c = subst Rises (sym c.loop-channel.invariant.0)
    (rises_free 0 (replicate c.loop-channel.channel None))
