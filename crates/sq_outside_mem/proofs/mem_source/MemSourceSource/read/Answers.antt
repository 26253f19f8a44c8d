use Rattle.std.proofs.Common.{length, take, drop, ◌+◌, arith, ◌∙◌, ap}
use Rattle.std.proofs.Math.ListN.{drop_of_length-le}
use Rattle.sq_outside_mem.proofs.Places.{read_gives}
use Rattle.sq_outside_mem.proofs.mem_source.MemSourceSource.read.Goals as goal

-- src/mem_source.rt:55:5
pub returns-clause-bytes : goal.returns-clause-bytes
returns-clause-bytes c = (
  read_gives c.args.self.now.text.items _ c.args.self.now.at c.fill-count.result
      (c.fill-count.ensures.front
      ∙ ap (take c.fill-count.result)
      (c.split_at.ensures.back ∙ ap (drop c.args.self.now.at) c.as_slice.ensures.value)),
  λ zero room. drop_of_length-le c.args.self.now.text.items {i = c.args.self.now.at + c.fill-count.result}
      (omega (arith, ap length c.as_slice.ensures.value)),
)
