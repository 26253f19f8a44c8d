-- What is said of a line that was handed to a rewriter, and what a keeper counts as a refusal.
use Rattle.std.specs.Prelude.{◌≡◌, ℕ, List, Result, Ok, Err}
use Rattle.std.specs.declared.option.Option.{Option}
use Rattle.sq_channel.specs.declared.replies.Got.{Got}
use Rattle.sq_channel.specs.declared.replies.Got.TheVariants as got
use Rattle.sq_keeper.specs.declared.desk.LineEnd.{LineEnd}
use Rattle.sq_keeper.specs.declared.desk.LineEnd.TheVariants as end
use Rattle.sq_outside.specs.Causes.{raised}
use Rattle.sq_rewrite.specs.States.{RewriteState}
use Rattle.sq_rewrite.specs.declared.faults.RewriteFault.{RewriteFault}
use Rattle.sq_rewrite.specs.declared.faults.RewriteFault.TheVariants as fault
use Rattle.sq_rewrite.specs.RewriterCalls.{NotesDeath, NotesLine, Tells}

-- no more lines are wanted exactly after a line that was bad or stray, and after a refusal
abbrev pub line_end : Result Got RewriteFault → LineEnd
line_end (Ok (got.Reply question reply)) = end.Go
line_end (Ok got.Bad) = end.End
line_end (Ok got.Stray) = end.End
line_end (Err fault.WantOfMemory) = end.WantOfMemory
line_end (Err f) = end.End

-- each line after which no more are wanted is counted
abbrev pub refused_after : LineEnd → ℕ → ℕ
refused_after end.Go n = n
refused_after end.End n = raised n
refused_after end.WantOfMemory n = n

-- the rewriter was handed this line of this process, and what it gave is answered so
abbrev pub HandsLine : Option RewriteState → Option RewriteState → ℕ → List ℕ → LineEnd → Type 0
HandsLine old new proc bytes result = (gave : Result Got RewriteFault)
    × Tells (NotesLine proc bytes gave) old new × (result ≡ line_end gave)

-- it was told of this death, and noted or refused it
abbrev pub HandsDeath : Option RewriteState → Option RewriteState → ℕ → Type 0
HandsDeath old new proc = (gave : Result (Unit {0}) RewriteFault)
    × Tells (NotesDeath proc gave) old new
