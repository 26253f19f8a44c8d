-- What reading a line came to.
use Rattle.std.specs.Prelude.{◌≡◌, true, is_some, Ok, Err, Some, None}
use Rattle.std.specs.declared.option.Option.{Option}
use Rattle.std.specs.declared.result.Result.{Result}
use Rattle.sq_reply.specs.declared.faults.ReplyFault.{ReplyFault}
use Rattle.sq_reply.specs.declared.faults.ReplyFault.TheVariants.{Bad, WantOfMemory}

-- the value that is read; `Bad` exactly where there is none, and want of memory only where there is
-- one
abbrev pub ReadsAs : {X : Type 0} → Result X ReplyFault → Option X → Type 0
ReadsAs (Ok x) read = read ≡ Some x
ReadsAs (Err Bad) read = read ≡ None
ReadsAs (Err WantOfMemory) read = is_some read ≡ true
