-- Parts of turns, put together.
use Rattle.std.proofs.Common.{◌≡◌, ℕ, ◌≤◌, List, [], Bool, true, false, Option, Some, None, refl, sym, ap, subst, ◌∙◌, arith, append-nil}
use Rattle.std.specs.Io.KnownBytes.{Appends}
use Rattle.sq_outside.specs.Causes.{count_limit}
use Rattle.sq_outside.specs.Dials.{Dialled}
use Rattle.sq_outside.specs.Output.{IsPrefix}
use Rattle.sq_outside.proofs.Writing.{IsPrefix_refl}
use Rattle.sq_forward.specs.Meters.{granted_after}
use Rattle.sq_turns.specs.Fronts.{FrontAnswer}
use Rattle.sq_turns.specs.Steps.{is_exact, Gives, Pays, DialsOn, WasTold, Goes, EndHasCause, turn_seen}
use Rattle.sq_turns.specs.Written.{Tells, WritesReply}
use Rattle.sq_turns.specs.Turns.{ClientTurn, Reply, NoOrigin, is_broken}
use Rattle.sq_turns.specs.declared.ends.Carried.{Carried}
use Rattle.sq_turns.specs.declared.ends.Carried.TheVariants.{Stays, Closes, Over}
use Rattle.sq_turns.specs.declared.ends.End.TheVariants.{Finished, Cut, ClientFault, OriginCut, OriginFault, Starved, WantOfMemory}

-- no byte more
pub granted_none : (seated : Bool) (before : ℕ) → before ≤ count_limit → before ≡ granted_after seated before 0
granted_none true before h = omega (arith, h)
granted_none false before h = refl

-- the same part of a turn, said in another way
pub goes_as : {tunnel seated : Bool} {unasked : List FrontAnswer} {left a b : Option (List ℕ)} {d : Option Dialled}
    {now : Dialled} {failed : Type 0} {g h : ℕ} {ended : Carried} (t u : Reply → ClientTurn)
    → ((x : Reply) → t x ≡ u x) → Goes tunnel t unasked seated (turn_seen left a b g h d) now failed ended
    → Goes tunnel u unasked seated (turn_seen left a b g h d) now failed ended
goes_as {tunnel} {seated} {unasked} {left} {a} {b} {d} {now} {failed} {g} {h} {ended} t u e x = record {
  reply = x.reply;
  written = x.written;
  dial = x.dial;
  fits = x.fits;
  broken = λ f. x.broken (ap ClientTurn.faulted (e x.reply) ∙ f);
  gives = subst (λ y. Gives y (is_broken x.reply) x.written x.dial ended) (e x.reply) x.gives;
  wrote = x.wrote;
  pays = subst (λ y. Pays y seated x.written ended g h) (e x.reply) x.pays;
  dials = x.dials;
  rest = λ s. x.rest s ∙ ap (λ y. Some (ClientTurn.rest y)) (e x.reply);
  spare = ap ClientTurn.unasked (sym (e x.reply)) ∙ x.spare;
}

-- a turn whose text is the proxy's own
abbrev pub own_turn_of : Bool → List ℕ → List ℕ → List FrontAnswer → Carried → ClientTurn
own_turn_of faulted words rest unasked then = record {
  own = [];
  client = [];
  last = words;
  dial = None;
  rest = rest;
  unasked = unasked;
  ends = then;
  faulted = faulted;
}

abbrev pub own_turn : List ℕ → List ℕ → List FrontAnswer → Carried → ClientTurn
own_turn words rest unasked then = own_turn_of false words rest unasked then

no_dials : (before : Option Dialled) (now : Dialled) → before ≡ Some now → DialsOn before now None
no_dials before now e = record { old = now; told = e; made = omega arith; back = sym (append-nil now.back) }

here_by : (words : List ℕ) (then : Carried) (a b : Option (List ℕ)) (ended : Carried) → Tells words then a b ended
    → ended ≡ Over OriginFault → ⊥
here_by words then a b Stays w = λ e. cc
here_by words then a b Closes w = λ e. cc
here_by words then a b (Over Finished) w = λ e. cc
here_by words then a b (Over Cut) w = λ e. cc
here_by words then a b (Over ClientFault) w = λ e. cc
here_by words then a b (Over OriginCut) w = λ e. cc
here_by words then a b (Over OriginFault) w = absurd w
here_by words then a b (Over Starved) w = λ e. cc
here_by words then a b (Over WantOfMemory) w = λ e. cc

-- what the client hears of the proxy itself ends by no origin's link
pub told_here : {words : List ℕ} {then : Carried} {a b : Option (List ℕ)} {ended : Carried}
    → WritesReply words then a b ended → ended ≡ Over OriginFault → ⊥
told_here {words} {then} {a} {b} {ended} w = here_by words then a b ended w.is

-- so much of its text was written
own_part : {tunnel seated : Bool} {left a b : Option (List ℕ)} {failed : Type 0} {g : ℕ} (faulted : Bool)
    (fault : faulted ≡ true → failed) (t : Reply → ClientTurn) (words rest : List ℕ) (unasked : List FrontAnswer)
    (then : Carried) (before : Option Dialled) (now : Dialled) (ended : Carried) (written : List ℕ)
    → t NoOrigin ≡ own_turn_of faulted words rest unasked then
    → (is_exact ended ≡ true → (then ≡ ended) × (written ≡ words)) → IsPrefix written words → Appends a b written
    → g ≤ count_limit → before ≡ Some now → (ended ≡ Stays → left ≡ Some rest) → (ended ≡ Over OriginFault → ⊥)
    → Goes tunnel t unasked seated (turn_seen left a b g g before) now failed ended
own_part {tunnel} {seated} {left} {a} {b} {failed} {g} faulted fault t words rest unasked then before now ended written
    e exact front wrote few same stays here = record {
      reply = NoOrigin;
      written = written;
      dial = None;
      fits = here;
      broken = λ f. fault (sym (ap ClientTurn.faulted e) ∙ f);
      gives = subst (λ y. Gives y false written None ended) (sym e)
          (record { exact = exact; front = front; dial = refl });
      wrote = wrote;
      pays = subst (λ y. Pays y seated written ended g g) (sym e) (record {
        more = 0;
        close = omega arith;
        granted = granted_none seated g few ∙ ap (granted_after seated g) (omega arith);
      });
      dials = no_dials before now same;
      rest = λ s. stays s ∙ ap (λ y. Some (ClientTurn.rest y)) (sym e);
      spare = ap ClientTurn.unasked e;
    }

-- its text was told
told_goes : {tunnel seated : Bool} {left a b : Option (List ℕ)} {failed : Type 0} {g : ℕ} (faulted : Bool)
    (fault : faulted ≡ true → failed) (t : Reply → ClientTurn) (words rest : List ℕ) (unasked : List FrontAnswer)
    (then : Carried) (before : Option Dialled) (now : Dialled) (ended : Carried)
    → t NoOrigin ≡ own_turn_of faulted words rest unasked then → Tells words then a b ended → g ≤ count_limit
    → before ≡ Some now → (then ≡ Stays → left ≡ Some rest)
    → Goes tunnel t unasked seated (turn_seen left a b g g before) now failed ended
told_goes faulted fault t words rest unasked then before now Stays e w few same stays =
    own_part faulted fault t words rest unasked then before now Stays words e (λ _. (w.0, refl)) (IsPrefix_refl words)
    w.1 few same (λ _. stays w.0) (λ s. cc)
told_goes faulted fault t words rest unasked then before now Closes e w few same stays =
    own_part faulted fault t words rest unasked then before now Closes words e (λ _. (w.0, refl)) (IsPrefix_refl words)
    w.1 few same (λ s. absurd cc) (λ s. cc)
told_goes faulted fault t words rest unasked then before now (Over ClientFault) e w few same stays =
    own_part faulted fault t words rest unasked then before now (Over ClientFault) w.0 e (λ s. absurd cc) w.2 w.1 few
    same (λ s. absurd cc) (λ s. cc)
told_goes faulted fault t words rest unasked then before now (Over WantOfMemory) e w few same stays =
    own_part faulted fault t words rest unasked then before now (Over WantOfMemory) w.0 e (λ s. absurd cc) w.2 w.1 few
    same (λ s. absurd cc) (λ s. cc)
told_goes faulted fault t words rest unasked then before now (Over Finished) e w few same stays = absurd w
told_goes faulted fault t words rest unasked then before now (Over Cut) e w few same stays = absurd w
told_goes faulted fault t words rest unasked then before now (Over OriginCut) e w few same stays = absurd w
told_goes faulted fault t words rest unasked then before now (Over OriginFault) e w few same stays = absurd w
told_goes faulted fault t words rest unasked then before now (Over Starved) e w few same stays = absurd w

pub own_goes : {tunnel seated : Bool} {left a b : Option (List ℕ)} {failed : Type 0} {g : ℕ} {ended : Carried}
    (t : Reply → ClientTurn) (words rest : List ℕ) (unasked : List FrontAnswer) (then : Carried)
    (before : Option Dialled) (now : Dialled)
    → t NoOrigin ≡ own_turn words rest unasked then → WritesReply words then a b ended → g ≤ count_limit
    → before ≡ Some now → (then ≡ Stays → left ≡ Some rest)
    → Goes tunnel t unasked seated (turn_seen left a b g g before) now failed ended
own_goes {tunnel} {seated} {left} {a} {b} {failed} {g} {ended} t words rest unasked then before now e w few same stays =
    told_goes false (λ f. absurd cc) t words rest unasked then before now ended e w.is few same stays

-- the text of an origin that was not reached
pub fault_goes : {tunnel seated : Bool} {left a b : Option (List ℕ)} {failed : Type 0} {g : ℕ} {ended : Carried}
    (t : Reply → ClientTurn) (words rest : List ℕ) (unasked : List FrontAnswer) (then : Carried)
    (before : Option Dialled) (now : Dialled)
    → failed → t NoOrigin ≡ own_turn_of true words rest unasked then → WritesReply words then a b ended
    → g ≤ count_limit → before ≡ Some now → (then ≡ Stays → left ≡ Some rest)
    → Goes tunnel t unasked seated (turn_seen left a b g g before) now failed ended
fault_goes {tunnel} {seated} {left} {a} {b} {failed} {g} {ended} t words rest unasked then before now fault e w few same
    stays = told_goes true (λ _. fault) t words rest unasked then before now ended e w.is few same stays

-- a dialer that was not touched
pub was_told : (d : Option Dialled) → WasTold d d
was_told None = record { told = tt }
was_told (Some now) = record { told = (now, refl) }

-- no text, and no link was touched
pub silent_goes : {tunnel seated : Bool} {left a : Option (List ℕ)} {failed : Type 0} {g : ℕ} (t : Reply → ClientTurn)
    (unasked : List FrontAnswer) (before : Option Dialled) (now : Dialled) (ended : Carried)
    → t NoOrigin ≡ own_turn [] [] unasked ended → Appends a a [] → (ended ≡ Stays → ⊥) → (ended ≡ Over OriginFault → ⊥)
    → g ≤ count_limit → before ≡ Some now → Goes tunnel t unasked seated (turn_seen left a a g g before) now failed
    ended
silent_goes t unasked before now ended e wrote goes here few same =
    own_part false (λ f. absurd cc) t [] [] unasked ended before now ended [] e (λ _. (refl, refl)) (IsPrefix_refl [])
    wrote few same (λ s. absurd (goes s)) here

-- a cause, by what it leads to
pub cause_map : {A B C D : Type 0} (ended : Carried) → (A → C) → (B → D) → EndHasCause A B ended → EndHasCause C D ended
cause_map (Over ClientFault) f k x = f x
cause_map (Over OriginFault) f k x = k x
cause_map (Over Finished) f k x = absurd x
cause_map (Over Cut) f k x = tt
cause_map (Over OriginCut) f k x = tt
cause_map (Over Starved) f k x = tt
cause_map (Over WantOfMemory) f k x = tt
cause_map Stays f k x = tt
cause_map Closes f k x = tt
