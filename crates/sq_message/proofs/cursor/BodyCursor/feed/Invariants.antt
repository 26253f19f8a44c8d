use Rattle.std.proofs.Common.{◌≡◌, ◌-◌, length, true}
use Rattle.sq_message.specs.Bodies.{is_refused}
use Rattle.sq_message.proofs.TakeLaws.{Went}
use Rattle.sq_message.proofs.cursor.BodyCursor.feed.Given as goal

-- the bytes before `at` were taken
abbrev pub invariant-pieces : goal.invariant-pieces
invariant-pieces l = record {
  chunked : l.self-inside.chunked ≡ l.fn.self.chunked;
  went : Went l.fn.self.chunked l.fn.self.place l.input l.self-inside.place l.at l.fn.out l.out;
  spoilt : is_refused l.fn.self.place ≡ true → (is_refused l.self-inside.place ≡ true) × (l.out ≡ l.fn.out);
}

abbrev pub decreases-pieces : goal.decreases-pieces
decreases-pieces l = length l.input - l.at
