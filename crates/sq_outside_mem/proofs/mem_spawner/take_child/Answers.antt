use Rattle.std.proofs.Common.{sym, ◌∙◌, ap}
use Rattle.std.specs.Prelude.{position}
use Rattle.sq_outside_mem.specs.MemoryServer.{is_child}
use Rattle.sq_outside_mem.proofs.Taken.{taken_passes, words_same}
use Rattle.sq_outside_mem.proofs.mem_spawner.take_child.Goals as goal

pub returns-clause-words : goal.returns-clause-words
returns-clause-words c =
    let test = is_child c.args.words.now in
    let at = sym (c.in_ok-place.ensures ∙ ap (position test) c.as_slice.ensures.value) in
    words_same _ _ (taken_passes test _ _ c.remove.result
    (c.in_ok-place.place, at, c.remove.ensures.value, c.remove.ensures.items))
