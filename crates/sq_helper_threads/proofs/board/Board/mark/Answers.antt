use Rattle.sq_helper_threads.proofs.BoardLaws.{marked_nowhere, marked_there}
use Rattle.sq_helper_threads.proofs.board.Board.mark.Goals as goal

pub returns-in-None-clause-posts : goal.returns-in-None-clause-posts
returns-in-None-clause-posts g c = marked_nowhere c.args.proc c.args.self.now.posts.items c.place.result c.place.ensures
    c.in-None.is

pub returns-in-Some-clause-posts : goal.returns-in-Some-clause-posts
returns-in-Some-clause-posts g c = marked_there c.args.proc c.args.self.now.posts.items c.place.result c.in-Some.place
    c.place.ensures c.in-Some.is
