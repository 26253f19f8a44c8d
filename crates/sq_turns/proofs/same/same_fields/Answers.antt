use Rattle.sq_turns.proofs.SameLaws.{decides_as}
use Rattle.sq_turns.proofs.same.same_fields.Goals as goal

pub returns : goal.returns
returns c = decides_as c.same_list.result _ _ _ _ c.as_slice.ensures c.as_slice-2.ensures c.same_list.ensures
