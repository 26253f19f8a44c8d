-- Heads at the front of what comes: RFC 9112 section 2.1.
use Rattle.std.specs.Prelude.{◌≡◌, ℕ, ◌≤◌, ◌<◌, List, length, take, Some, None, IfSome, ⊤}
use Rattle.std.specs.declared.option.Option.{Option}
use Rattle.sq_request.specs.Endings.{head_end, IsWholeHead}
use Rattle.sq_message.specs.ReplyHeads.{most_bytes}
use Rattle.sq_forward.specs.declared.heads.HeadFound.{HeadFound}
use Rattle.sq_forward.specs.declared.heads.HeadFound.TheVariants as found

-- as many bytes as a head may have, or more, and no head ends within them
pub record IsTooLarge (bytes : List ℕ) : Type 0 where
  pub long : most_bytes ≤ length bytes
  pub endless : (n : ℕ) → head_end bytes ≡ Some n → most_bytes < n

-- what was found at the front of what comes: a whole head ahead, none that ends within the limit,
-- or the end of the input before that of a head
abbrev pub FindsHead : List ℕ → Option (List ℕ) → HeadFound → Type 0
FindsHead ahead told (found.Whole len) = (head_end ahead ≡ Some len) × (len ≤ length ahead)
    × (len ≤ most_bytes) × IsWholeHead (take len ahead)
FindsHead ahead told found.TooLarge = IfSome told IsTooLarge
FindsHead ahead told found.Ended = (head_end ahead ≡ None) × (length ahead < most_bytes)
    × IfSome told (λ bytes. bytes ≡ ahead)
FindsHead ahead told found.Failed = ⊤
FindsHead ahead told found.WantOfMemory = ⊤
