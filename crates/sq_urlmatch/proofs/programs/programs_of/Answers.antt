use Rattle.sq_urlmatch.proofs.ManyLaws.{all_good}
use Rattle.sq_urlmatch.proofs.programs.programs_of.Goals as goal

pub single_programs-requires : goal.single_programs-requires
single_programs-requires c = all_good 0 c.args.finds.now c.in_ok-trees.ensures.good

pub returns-in-Ok-clause-found : goal.returns-in-Ok-clause-found
returns-in-Ok-clause-found c text bytes =
    let one = rw c.in-Some.is at (c.in_ok-whole_program.ensures c.args.finds.now c.in_ok-trees.ensures.alike) in
    rw (c.in-Ok.ensures.items, c.new-programs.ensures.items) (one text bytes)
