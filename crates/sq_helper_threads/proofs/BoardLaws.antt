-- The posts of keepers.
use Rattle.std.proofs.Common.{◌≡◌, ℕ, ◌+◌, ◌==◌, List, ◌++◌, true, None, Some, get_or, take, drop, ap, sym, ◌∙◌, refl}
use Rattle.std.specs.Prelude.{position, slice_set}
use Rattle.std.specs.declared.option.Option.{Option}
use Rattle.std.proofs.lemmas.List.Quantifiers.{position-Some}
use Rattle.std.proofs.lemmas.Option.{slice_get-get_or}
use Rattle.sq_helper_threads.specs.declared.board.Post.{Post}
use Rattle.sq_helper_threads.specs.Boards.{TakesEnded, marked, marked_at, without, without_at}

-- the post at the place of the process was marked
pub marked_there : (proc : ℕ) (posts : List Post) (found : Option ℕ) (place : ℕ)
    → found ≡ position (λ p. p.proc == proc) posts → found ≡ Some place
    → slice_set posts place (record { proc = proc; ended = true }) ≡ marked proc posts
marked_there proc posts found place looked at = ap (λ o. marked_at o proc posts) (sym at ∙ looked)

-- a process without a post: nothing is marked
pub marked_nowhere : (proc : ℕ) (posts : List Post) (found : Option ℕ) → found ≡ position (λ p. p.proc == proc) posts
    → found ≡ None → posts ≡ marked proc posts
marked_nowhere proc posts found looked at = ap (λ o. marked_at o proc posts) (sym at ∙ looked)

-- the post at the place of the process was taken away
pub removed_there : (proc : ℕ) (posts new : List Post) (found : Option ℕ) (place : ℕ)
    → found ≡ position (λ p. p.proc == proc) posts → found ≡ Some place
    → new ≡ take place posts ++ drop (place + 1) posts → new ≡ without proc posts
removed_there proc posts new found place looked at is = is ∙ ap (λ o. without_at o posts) (sym at ∙ looked)

-- a process without a post: nothing is taken away
pub removed_nowhere : (proc : ℕ) (posts : List Post) (found : Option ℕ) → found ≡ position (λ p. p.proc == proc) posts
    → found ≡ None → posts ≡ without proc posts
removed_nowhere proc posts found looked at = ap (λ o. without_at o posts) (sym at ∙ looked)

-- the first post whose keeper has ended was taken away
pub taken_there : (posts new : List Post) (found : Option ℕ) (place : ℕ) (post : Post)
    → found ≡ position (λ p. p.ended) posts → found ≡ Some place
    → post ≡ get_or posts place post → new ≡ take place posts ++ drop (place + 1) posts → TakesEnded post.proc posts new
taken_there posts new found place post looked at read is =
    let there : position (λ p. p.ended) posts ≡ Some place = sym looked ∙ at in
    let inside = (position-Some (λ p. p.ended) posts place post there).0 in
    record {
      place = place;
      post = post;
      place_is = there;
      post_is = slice_get-get_or posts place post inside ∙ ap Some (sym read);
      proc_is = refl;
      new_is = is;
    }
