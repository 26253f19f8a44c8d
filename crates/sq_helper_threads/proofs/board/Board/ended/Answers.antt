use Rattle.sq_helper_threads.proofs.BoardLaws.{taken_there}
use Rattle.sq_helper_threads.proofs.board.Board.ended.Goals as goal

pub returns-in-Some-clause-some : goal.returns-in-Some-clause-some
returns-in-Some-clause-some g c =
    taken_there c.args.self.now.posts.items c.remove.new.self.items c.ended_place.result c.in-Some.place c.remove.result
    c.ended_place.ensures c.in-Some.is c.remove.ensures.value c.remove.ensures.by_index.2
