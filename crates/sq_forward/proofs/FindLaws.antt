-- Heads that are looked for in what is ahead.
use Rattle.std.proofs.Common.{◌≡◌, ℕ, ◌<◌, ◌≤◌, List, ◌++◌, Bool, true, false, length, nat_lt, Option, Some, None, IfSome, refl, sym, ◌∙◌, arith, length-append}
use Rattle.std.proofs.lemmas.Bool.Decides.{nat_tests}
use Rattle.std.proofs.lemmas.Option.{none-some, same_Some}
use Rattle.std.specs.Io.KnownBytes.{prepend_known}
use Rattle.sq_request.specs.Endings.{head_end}
use Rattle.sq_request.proofs.MoreLaws.{head_end_more, head_end_within}
use Rattle.sq_message.specs.ReplyHeads.{most_bytes}
use Rattle.sq_forward.specs.Heads.{IsTooLarge}

-- the head ahead is over the limit
pub large_by_end : (ahead : List ℕ) (src : Option (List ℕ)) (len : ℕ) → head_end ahead ≡ Some len → len ≤ length ahead
    → most_bytes < len → IfSome (prepend_known ahead src) IsTooLarge
large_by_end ahead None len e inside over = tt
large_by_end ahead (Some s) len e inside over = record {
  long = omega (arith, length-append ahead s, inside, over);
  endless = λ n at.
      let same : n ≡ len = same_Some n len (sym at ∙ head_end_more ahead s len e) in
      omega (arith, same, over);
}

-- so many bytes are ahead that no head within the limit is to come
pub large_by_room : (ahead : List ℕ) (src : Option (List ℕ)) → head_end ahead ≡ None → most_bytes ≤ length ahead
    → IfSome (prepend_known ahead src) IsTooLarge
large_by_room ahead None e room = tt
large_by_room ahead (Some s) e room = record {
  long = omega (arith, length-append ahead s, room);
  endless = λ n at. by n at (nat_lt most_bytes n) refl;
}
  where
    by : (n : ℕ) → head_end (ahead ++ s) ≡ Some n → (t : Bool) → nat_lt most_bytes n ≡ t → most_bytes < n
    by n at true t = grind (arith, nat_tests)
    by n at false t =
        let few : n ≤ length ahead = grind (arith, nat_tests) in
        absurd (none-some n (sym e ∙ head_end_within ahead s n at few))
