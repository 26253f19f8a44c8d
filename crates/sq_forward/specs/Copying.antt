-- A body that is copied from a source to a sink as its bytes are granted.
use Rattle.std.specs.Prelude.{◌≡◌, ℕ, List, [], ◌++◌, Bool, true, false, Some, None, IfSome, ⊤}
use Rattle.std.specs.declared.option.Option.{Option}
use Rattle.std.specs.Io.KnownBytes.{IsAtEnd}
use Rattle.sq_base.specs.declared.plans.BodyPlan.{BodyPlan}
use Rattle.sq_message.specs.declared.body_state.BodyState.{BodyState}
use Rattle.sq_message.specs.Bodies.{Walk, after, walk, body_of, is_whole_body, is_refused}
use Rattle.sq_message.specs.Feeding.{Feeds}
use Rattle.sq_forward.specs.Meters.{Metered, PaysAll, PaysPart, piece_limit, dry_limit}
use Rattle.sq_forward.specs.declared.copying.Copied.{Copied}
use Rattle.sq_forward.specs.declared.copying.Copied.TheVariants.{Whole, Cut, Bad, NoSource, NoSink, Starved, WantOfMemory}
use Rattle.sq_outside.specs.Causes.{Rose}

-- what was written of a body: all that its bytes give, and then what is left of them; or a front of
-- it
abbrev pub CopiesBody : Walk → Option (List ℕ) → Metered → Copied → Type 0
CopiesBody body left to Whole = (is_whole_body body.place ≡ true)
    × (left ≡ Some body.rest) × PaysAll body.out to
CopiesBody body left to Cut =
    (is_whole_body body.place ≡ false) × (is_refused body.place ≡ false) × IsAtEnd left
    × PaysAll body.out to
CopiesBody body left to Bad = (is_refused body.place ≡ true) × PaysAll body.out to
CopiesBody body left to NoSource = PaysPart body.out to 0
CopiesBody body left to NoSink = PaysPart body.out to piece_limit
CopiesBody body left to Starved = PaysPart body.out to 0
CopiesBody body left to WantOfMemory = PaysPart body.out to 0

-- the same of the body at the front of what is to come, where that is told
pub record Copies (plan : BodyPlan) (chunked : Bool) (first left : Option (List ℕ)) (to : Metered)
    (copied : Copied) : Type 0 where
  pub body : IfSome first (λ bytes. CopiesBody (body_of plan chunked bytes) left to copied)

-- the bytes ahead were taken, up to the end of the body, and what they give was written
pub record PieceFed (chunked : Bool) (place next : BodyState) (ahead : List ℕ) (used : ℕ)
    (ended : Bool) (to : Metered) : Type 0 where
  pub piece : List ℕ
  pub feeds : Feeds chunked place ahead next used ended [] piece
  pub pays : PaysAll piece to

-- the copying ended in them, whatever follows them
pub record PieceUnfed (chunked : Bool) (place : BodyState) (ahead : List ℕ) (to : Metered)
    (copied : Copied) : Type 0 where
  pub ends : (more : List ℕ) (left : Option (List ℕ))
      → CopiesBody (walk chunked place (ahead ++ more)) left to copied

-- a piece of the bytes to come was taken, which lead from here to there, and what they give was
-- written
pub record PieceGoes (chunked : Bool) (place next : BodyState) (bytes : List ℕ)
    (left : Option (List ℕ)) (to : Metered) : Type 0 where
  pub piece : List ℕ
  pub rest : List ℕ
  pub left_is : left ≡ Some rest
  pub walks : walk chunked place bytes ≡ after piece (walk chunked next rest)
  pub pays : PaysAll piece to

-- a piece was copied, and the body goes on; or its copying ended
abbrev pub PieceEnds : Bool → BodyState → BodyState → List ℕ → Option (List ℕ) → Metered
    → Option Copied → Type 0
PieceEnds chunked place next bytes left to None = PieceGoes chunked place next bytes left to
PieceEnds chunked place next bytes left to (Some copied) =
    CopiesBody (walk chunked place bytes) left to copied

-- the same of what is to come, where that is told
pub record CopiesPiece (chunked : Bool) (place next : BodyState) (first left : Option (List ℕ))
    (to : Metered) (ended : Option Copied) : Type 0 where
  pub piece : IfSome first (λ bytes. PieceEnds chunked place next bytes left to ended)

-- the count of the link that failed rose
abbrev pub CopyHasCause : ℕ → ℕ → ℕ → ℕ → Copied → Type 0
CopyHasCause source source_now sink sink_now NoSource = Rose source source_now
CopyHasCause source source_now sink sink_now NoSink = Rose sink sink_now
CopyHasCause source source_now sink sink_now Whole = ⊤
CopyHasCause source source_now sink sink_now Cut = ⊤
CopyHasCause source source_now sink sink_now Bad = ⊤
CopyHasCause source source_now sink sink_now Starved = ⊤
CopyHasCause source source_now sink sink_now WantOfMemory = ⊤

-- how dry the meter is then: how many pauses came, each behind a grant that found a bucket empty
abbrev pub dry_after_copy : Copied → ℕ
dry_after_copy Starved = dry_limit
dry_after_copy Whole = 0
dry_after_copy Cut = 0
dry_after_copy Bad = 0
dry_after_copy NoSource = 0
dry_after_copy NoSink = 0
dry_after_copy WantOfMemory = 0

abbrev pub dry_after_piece : Option Copied → ℕ
dry_after_piece None = 0
dry_after_piece (Some copied) = dry_after_copy copied
