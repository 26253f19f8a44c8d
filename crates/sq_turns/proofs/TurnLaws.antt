-- A turn, put together of what its input begins with, the front's answers and the way to the origin.
use Rattle.std.proofs.Common.{◌≡◌, ℕ, ◌+◌, ◌≤◌, List, [], ◌++◌, length, Bool, true, false, Option, Some, None, IfSome, refl, sym, subst, ◌∙◌, append-nil}
use Rattle.sq_base.specs.Addresses.{Address}
use Rattle.sq_base.specs.Requests.{HttpRequest}
use Rattle.sq_outside.specs.Causes.{count_limit}
use Rattle.sq_outside.specs.Dials.{Dialled}
use Rattle.sq_forward.specs.Meters.{granted_after}
use Rattle.sq_turns.specs.Begins.{Begins}
use Rattle.sq_turns.specs.Fronts.{FrontAnswer}
use Rattle.sq_turns.specs.Sessions.{TakesTurn, JudgesBegun, IsGranted, held_seat, asks_tunnel}
use Rattle.sq_turns.specs.Steps.{Pays, Goes, turn_seen, front_seen}
use Rattle.sq_turns.specs.Turns.{ClientTurn, from_origin, turn}
use Rattle.sq_turns.specs.declared.beginning.Begun.{Begun}
use Rattle.sq_turns.specs.declared.ends.Carried.{Carried}
use Rattle.std.proofs.KnownBytes.{Appends-nil}
use Rattle.sq_turns.specs.Sessions.{Answers}
use Rattle.sq_turns.specs.Written.{WritesReply}
use Rattle.sq_turns.specs.Told.{BeginsTold, AnswersTold, TurnTold}
use Rattle.sq_turns.specs.Turns.{NoOrigin}
use Rattle.sq_turns.specs.declared.beginning.Begun.TheVariants as begun
use Rattle.sq_turns.specs.declared.ends.Carried.TheVariants.{Stays, Closes, Over}
use Rattle.sq_turns.specs.declared.ends.End.TheVariants.{OriginFault}
use Rattle.sq_turns.proofs.GoesLaws.{granted_none, own_goes, own_turn, silent_goes}

-- what was granted in a turn
pub record Counted (t : ClientTurn) (seated : Bool) (written : List ℕ) (ended : Carried) (g h : ℕ) : Type 0 where
  pub n : ℕ
  pub grants : IsGranted t seated (length written) ended n
  pub granted : h ≡ granted_after true g n

counted : {t : ClientTurn} {written : List ℕ} {ended : Carried} {g h : ℕ} (seated : Bool) → g ≤ count_limit
    → Pays t seated written ended g h → Counted t seated written ended g h
counted {t} {written} {ended} {g} {h} true few p = record {
  n = from_origin t (length written) + p.more;
  grants = (p.more, p.close, refl);
  granted = p.granted;
}
counted {t} {written} {ended} {g} {h} false few p = record {
  n = 0;
  grants = refl;
  granted = p.granted ∙ granted_none true g few;
}

-- the front's answers stand behind those before
pub told_none : (stood : List FrontAnswer → Type 0) (list : List FrontAnswer) → stood list → stood (list ++ [])
told_none stood list s = subst stood (sym (append-nil list)) s

-- nothing was said
judges_none : (begun : Begun) → JudgesBegun begun []
judges_none (begun.Asks r) = tt
judges_none begun.Nothing = tt
judges_none begun.Cut = tt
judges_none begun.TooLarge = tt
judges_none begun.Bad = tt
judges_none begun.Failed = tt
judges_none begun.WantOfMemory = tt

-- a turn that went so
pub takes_turn : {stood stands : List FrontAnswer → Type 0} {left a b : Option (List ℕ)} {d : Option Dialled}
    {now : Dialled} {failed : Type 0} {g h : ℕ} {ended : Carried} (addr : Address) (input : List ℕ) (begun : Begun)
    (rest : List ℕ) (answers : List FrontAnswer)
    → Begins input begun rest → ((list : List FrontAnswer) → stood list → stands (list ++ answers)) → g ≤ count_limit
    → JudgesBegun begun answers
    → Goes (asks_tunnel begun) (turn addr begun rest answers) [] (held_seat answers) (turn_seen left a b g h d) now
    failed ended
    → TakesTurn addr input (front_seen stood stands) (turn_seen left a b g h d) now failed ended
takes_turn {stood} {stands} {left} {a} {b} {d} {now} {failed} {g} {h} {ended} addr input begun rest answers begins told
    few judges x =
    let k = counted (held_seat answers) few x.pays in
    record {
      step = record {
        begun = begun;
        rest = rest;
        answers = answers;
        reply = x.reply;
        written = x.written;
        dial = x.dial;
        granted = k.n;
        ended = ended;
      };
      is = record {
        begins = begins;
        fits = x.fits;
        asks = x.spare;
        judges = judges;
        gives = x.gives;
        grants = k.grants;
      };
      ended_is = refl;
      told = told;
      wrote = x.wrote;
      dials = x.dials;
      broken = x.broken;
      granted = k.granted;
      rest = x.rest;
    }

-- a request came, and was answered
pub takes_request : {first : Option (List ℕ)} {before now : Option Dialled} {stood stands : List FrontAnswer → Type 0}
    {left mid a b : Option (List ℕ)} {failed : Type 0} {g h : ℕ} {ended : Carried} (addr : Address) (r : HttpRequest)
    → g ≤ count_limit → BeginsTold first mid (begun.Asks r)
    → AnswersTold r addr mid (front_seen stood stands) (turn_seen left a b g h before) now failed ended
    → TurnTold addr first (front_seen stood stands) (turn_seen left a b g h before) now failed ended
takes_request {first = None} addr r few x y = record { known = tt }
takes_request {first = Some input} {now = None} addr r few x y = record { known = tt }
takes_request {first = Some input} {before} {now = Some o} {stood} {stands} {left} {mid} {a} {b} {failed} {g} {h}
    {ended} addr r few x y =
    let z : Answers r addr x.known.rest (front_seen stood stands) (turn_seen left a b g h before) o failed ended =
    subst (λ l. IfSome l (λ rest. Answers r addr rest (front_seen stood stands) (turn_seen left a b g h before) o failed
    ended)) x.known.left_is
    y.known in
    record {
      known = takes_turn addr input (begun.Asks r) x.known.rest z.answers x.known.begins z.told few z.judges
          z.goes;
    }

-- something else came, of which the client was told
pub takes_own : {first : Option (List ℕ)} {d : Option Dialled} {stood : List FrontAnswer → Type 0}
    {left mid a b : Option (List ℕ)} {failed : Type 0} {g : ℕ} {ended : Carried} (addr : Address) (begun : Begun)
    (words : List ℕ)
    → ((rest : List ℕ) → turn addr begun rest [] NoOrigin ≡ own_turn words [] [] Closes) → g ≤ count_limit
    → BeginsTold first mid begun → WritesReply words Closes a b ended
    → TurnTold addr first (front_seen stood stood) (turn_seen left a b g g d) d failed ended
takes_own {first = None} addr begun words e few x w = record { known = tt }
takes_own {first = Some input} {d = None} addr begun words e few x w = record { known = tt }
takes_own {first = Some input} {d = Some o} {stood} addr begun words e few x w = record {
  known = takes_turn addr input begun x.known.rest [] x.known.begins (told_none stood) few (judges_none begun)
      (own_goes (turn addr begun x.known.rest []) words [] [] Closes (Some o) o (e x.known.rest) w few refl
      (λ s. absurd cc));
}

-- the connection has nothing to answer
pub takes_none : {first : Option (List ℕ)} {d : Option Dialled} {stood : List FrontAnswer → Type 0}
    {left mid a : Option (List ℕ)} {failed : Type 0} {g : ℕ} (addr : Address) (begun : Begun) (ended : Carried)
    → ((rest : List ℕ) → turn addr begun rest [] NoOrigin ≡ own_turn [] [] [] ended) → (ended ≡ Stays → ⊥)
    → (ended ≡ Over OriginFault → ⊥) → g ≤ count_limit → BeginsTold first mid begun
    → TurnTold addr first (front_seen stood stood) (turn_seen left a a g g d) d failed ended
takes_none {first = None} addr begun ended e goes here few x = record { known = tt }
takes_none {first = Some input} {d = None} addr begun ended e goes here few x = record { known = tt }
takes_none {first = Some input} {d = Some o} {stood} {a} addr begun ended e goes here few x = record {
  known = takes_turn addr input begun x.known.rest [] x.known.begins (told_none stood) few (judges_none begun)
      (silent_goes (turn addr begun x.known.rest []) [] (Some o) o ended (e x.known.rest) (Appends-nil a) goes here few
      refl);
}
