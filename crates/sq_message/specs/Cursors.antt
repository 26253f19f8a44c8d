-- What a contract sees of a cursor.
use Rattle.std.specs.Prelude.{Bool}
use Rattle.sq_message.specs.declared.body_state.BodyState.{BodyState}

-- where the body stands, and whether it goes out in chunks
pub record Cursor : Type 0 where
  pub place : BodyState
  pub chunked : Bool
