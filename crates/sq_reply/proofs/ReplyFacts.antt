-- What the grammar says of an answer that reading gave.
use Rattle.std.proofs.Common.{◌≡◌, ℕ, List, Bool, Some, Ok, Err, Result, IfOk, refl, sym, ◌∙◌}
use Rattle.sq_base.specs.Replies.{Answer, reply_of}
use Rattle.sq_base.specs.ReplyGrammar.{Says}
use Rattle.sq_reply.specs.Reading.{ReadsAs}
use Rattle.sq_reply.specs.declared.faults.ReplyFault.{ReplyFault}
use Rattle.sq_reply.specs.declared.faults.ReplyFault.TheVariants.{Bad, WantOfMemory}
use Rattle.sq_reply.proofs.ReadLines.{read_said}
use Rattle.sq_reply.proofs.TreeLines.{said_reads}

pub found_from : (with_channel : Bool) (line : List ℕ) (result : Result Answer ReplyFault)
    → ReadsAs result (reply_of with_channel line) → IfOk result (λ x. Says with_channel line x)
found_from with_channel line (Ok x) h = read_said with_channel line x h
found_from with_channel line (Err e) h = tt

pub only_from : (with_channel : Bool) (line : List ℕ) (result : Result Answer ReplyFault)
    → ReadsAs result (reply_of with_channel line) → (x : Answer) → Says with_channel line x → ReadsAs result (Some x)
only_from with_channel line (Ok y) h x s = sym (said_reads with_channel line x s) ∙ h
only_from with_channel line (Err Bad) h x s = sym (said_reads with_channel line x s) ∙ h
only_from with_channel line (Err WantOfMemory) h x s = refl

pub one_from : (with_channel : Bool) (line : List ℕ) (x y : Answer) → Says with_channel line x
    → Says with_channel line y → x ≡ y
one_from with_channel line x y s t =
    let same : Some x ≡ Some y = sym (said_reads with_channel line x s) ∙ said_reads with_channel line y t in
    cc
