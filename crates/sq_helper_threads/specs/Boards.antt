-- The posts of keepers.
use Rattle.std.specs.Prelude.{◌≡◌, ◌+◌, ℕ, ◌==◌, List, ◌++◌, Some, None, true, position, slice_get, slice_set, take, drop}
use Rattle.std.specs.declared.option.Option.{Option}
use Rattle.sq_helper_threads.specs.declared.board.PlacedTask.{PlacedTask}
use Rattle.sq_helper_threads.specs.declared.board.Post.{Post}

-- the process whose half was put for a keeper
abbrev pub placed_proc : PlacedTask → ℕ
placed_proc placed = placed.proc

-- the post at this place is of this process, and its keeper has ended
abbrev pub marked_at : Option ℕ → ℕ → List Post → List Post
marked_at None proc posts = posts
marked_at (Some place) proc posts = slice_set posts place (record { proc = proc; ended = true })

-- the keeper of this process has ended
abbrev pub marked : ℕ → List Post → List Post
marked proc posts = marked_at (position (λ post. post.proc == proc) posts) proc posts

-- the post at this place was taken away
abbrev pub without_at : Option ℕ → List Post → List Post
without_at None posts = posts
without_at (Some place) posts = take place posts ++ drop (place + 1) posts

-- without the first post of this process
abbrev pub without : ℕ → List Post → List Post
without proc posts = without_at (position (λ post. post.proc == proc) posts) posts

-- no keeper has ended
abbrev pub no_end : List Post → Type 0
no_end posts = position (λ post. post.ended) posts ≡ None

-- the first post whose keeper has ended was taken away, and it is of this process
pub record TakesEnded (proc : ℕ) (old new : List Post) : Type 0 where
  pub place : ℕ
  pub post : Post
  pub place_is : position (λ p. p.ended) old ≡ Some place
  pub post_is : slice_get old place ≡ Some post
  pub proc_is : post.proc ≡ proc
  pub new_is : new ≡ take place old ++ drop (place + 1) old
