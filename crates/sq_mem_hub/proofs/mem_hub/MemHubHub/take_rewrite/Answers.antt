use Rattle.std.proofs.Common.{refl}
use Rattle.sq_mem_hub.proofs.mem_hub.MemHubHub.take_rewrite.Goals as goal

pub returns-clause-told : goal.returns-clause-told
returns-clause-told g c =
    (_, refl, record { rest = record { machine = refl; begun = refl; pools = refl }; takes = c.taken.ensures.takes })
