-- A session of its opening and its turns.
use Rattle.std.proofs.Common.{◌≡◌, ◌⊎◌, inl, inr, ℕ, ◌≤◌, List, [], ◌∷◌, ◌++◌, true, false, Option, Some, None, Result, refl, sym, ap, subst, ◌∙◌, arith, append_assoc, append-nil}
use Rattle.sq_base.specs.Addresses.{Address}
use Rattle.sq_outside.specs.Causes.{count_limit, Rose}
use Rattle.sq_outside.specs.Dials.{Dialled}
use Rattle.sq_message.specs.OwnReplies.{error_text}
use Rattle.sq_message.specs.declared.own.Own.{Own}
use Rattle.sq_message.specs.declared.own.Own.TheVariants.{Inner, Stopped, NoMemory, TooManyConns}
use Rattle.sq_forward.specs.Meters.{granted_after}
use Rattle.sq_turns.specs.Fronts.{FrontAnswer, OfOpen, OfClose}
use Rattle.sq_turns.specs.Sessions.{answers_of, client_of, granted_of, ServesOpened, ClosesOpened, TellsWhole, TellsAs, SessionHasCause, dry_after_session, session_seen}
use Rattle.sq_turns.specs.Steps.{EndHasCause, dry_after, front_seen}
use Rattle.sq_turns.specs.Told.{ServesTold, SessionTold}
use Rattle.sq_turns.specs.Verdicts.{refusal_of}
use Rattle.sq_turns.specs.Written.{WritesReply}
use Rattle.sq_turns.specs.declared.ends.Carried.{Carried}
use Rattle.sq_turns.specs.declared.ends.Carried.TheVariants.{Stays, Closes, Over}
use Rattle.sq_turns.specs.declared.ends.End.{End}
use Rattle.sq_turns.specs.declared.ends.End.TheVariants.{Finished, Cut, ClientFault, OriginCut, OriginFault, Starved, WantOfMemory}
use Rattle.sq_turns.specs.declared.front.CloseFault.{CloseFault}
use Rattle.sq_turns.specs.declared.front.Opened.{Opened}
use Rattle.sq_turns.specs.declared.front.Opened.TheVariants as opened
use Rattle.sq_turns.proofs.CarryLaws.{rose_later}
use Rattle.sq_turns.proofs.GoesLaws.{granted_none}

-- the cause of the last turn's end, for the whole session
pub over_cause : (a b c i j k x y z : ℕ) (end : End) → a ≤ b → i ≤ j → x ≤ y
    → EndHasCause (Rose b c ⊎ Rose j k) (Rose y z) (Over end) → SessionHasCause (Rose a c ⊎ Rose i k) (Rose x z) end
over_cause a b c i j k x y z ClientFault h l m (inl r) = inl (rose_later a b c h r)
over_cause a b c i j k x y z ClientFault h l m (inr r) = inr (rose_later i j k l r)
over_cause a b c i j k x y z OriginFault h l m r = rose_later x y z m r
over_cause a b c i j k x y z Finished h l m r = absurd r
over_cause a b c i j k x y z Cut h l m r = tt
over_cause a b c i j k x y z OriginCut h l m r = tt
over_cause a b c i j k x y z Starved h l m r = tt
over_cause a b c i j k x y z WantOfMemory h l m r = tt

pub over_dry : (end : End) → dry_after (Over end) ≡ dry_after_session end
over_dry Finished = refl
over_dry Cut = refl
over_dry ClientFault = refl
over_dry OriginCut = refl
over_dry OriginFault = refl
over_dry Starved = refl
over_dry WantOfMemory = refl

-- a connection that was opened
session_in : {addr : Address} {port : ℕ} {first : Option (List ℕ)} {before now : Option Dialled}
    {stood mid stands last : List FrontAnswer → Type 0} {a b : Option (List ℕ)} {failed : Type 0} {g h k n : ℕ}
    {end : End}
    → (c : Result (Unit {0}) CloseFault)
    → ((list : List FrontAnswer) → stood list → mid (list ++ OfOpen addr port opened.In ∷ []))
    → ((list : List FrontAnswer) → stands list → last (list ++ OfClose c ∷ [])) → g ≡ k → n ≡ h
    → ServesTold addr first (front_seen mid stands) (session_seen a b g h before) now failed end
    → SessionTold addr port first (front_seen stood last) (session_seen a b k n before) now failed end
session_in {first = None} c told closed same after x = record { known = tt }
session_in {first = Some input} {now = None} c told closed same after x = record { known = tt }
session_in {addr} {port} {first = Some input} {now = Some o} {stands} {last} c told closed same after x =
    let y = x.known in
    let opening = OfOpen addr port opened.In in
    let turns = answers_of y.steps in
    record {
      known = record {
        opening = opened.In;
        steps = y.steps;
        written = client_of y.steps;
        closing = OfClose c ∷ [];
        serves = (y.turns, refl);
        closes = (c, refl);
        told = λ list s. subst last (append_assoc list (opening ∷ turns) (OfClose c ∷ []))
            (closed (list ++ opening ∷ turns)
            (subst stands (append_assoc list (opening ∷ []) turns) (y.told (list ++ opening ∷ []) (told list s))));
        wrote = y.wrote;
        dials = y.dials;
        broken = y.broken;
        granted = after ∙ y.granted ∙ ap (λ m. granted_after true m (granted_of y.steps)) same;
      };
    }

-- one that was not
session_not : {addr : Address} {port : ℕ} {first : Option (List ℕ)} {d : Option Dialled}
    {stood stands : List FrontAnswer → Type 0} {a b : Option (List ℕ)} {failed : Type 0} {g h : ℕ} {end : End}
    (opening : Opened) (words : List ℕ)
    → ((input written : List ℕ) → TellsAs words written end → ServesOpened addr input opening [] written end)
    → ClosesOpened opening []
    → ((list : List FrontAnswer) → stood list → stands (list ++ OfOpen addr port opening ∷ []))
    → TellsWhole words a b end → g ≤ count_limit → h ≡ g
    → SessionTold addr port first (front_seen stood stands) (session_seen a b g h d) d failed end
session_not {first = None} opening words serves closes told w few same = record { known = tt }
session_not {first = Some input} {d = None} opening words serves closes told w few same = record { known = tt }
session_not {first = Some input} {d = Some o} {g} opening words serves closes told w few same = record {
  known = record {
    opening = opening;
    steps = [];
    written = w.written;
    closing = [];
    serves = serves input w.written w.tells;
    closes = closes;
    told = told;
    wrote = w.wrote;
    dials = record { old = o; told = refl; made = omega arith; back = sym (append-nil o.back) };
    broken = λ x. absurd x;
    granted = same ∙ granted_none true g few;
  };
}

-- by whether there is a reply

pub session_opened : {addr : Address} {port : ℕ} {first : Option (List ℕ)} {before now : Option Dialled}
    {stood mid stands last : List FrontAnswer → Type 0} {a b : Option (List ℕ)} {failed : Type 0} {g h k n : ℕ}
    {end : End}
    → (opening : Opened) (c : Result (Unit {0}) CloseFault) → refusal_of opening ≡ None
    → ((list : List FrontAnswer) → stood list → mid (list ++ OfOpen addr port opening ∷ []))
    → ((list : List FrontAnswer) → stands list → last (list ++ OfClose c ∷ [])) → g ≡ k → n ≡ h
    → ServesTold addr first (front_seen mid stands) (session_seen a b g h before) now failed end
    → SessionTold addr port first (front_seen stood last) (session_seen a b k n before) now failed end
session_opened opened.In c e told closed same after x = session_in c told closed same after x
session_opened opened.Full c e told closed same after x = absurd (cc)
session_opened (opened.Refused why) c e told closed same after x = absurd (cc)
session_opened opened.JournalFault c e told closed same after x = absurd (cc)
session_opened opened.WantOfMemory c e told closed same after x = absurd (cc)

serves_refused : (opening : Opened) (own : Own) (addr : Address) (input written : List ℕ) (end : End)
    → refusal_of opening ≡ Some own → TellsAs (error_text own false) written end
    → ServesOpened addr input opening [] written end
serves_refused opened.In own addr input written end e t = absurd (cc)
serves_refused opened.Full own addr input written end e t =
    let same : own ≡ TooManyConns = cc in (refl, subst (λ o. TellsAs (error_text o false) written end) same t)
serves_refused (opened.Refused why) own addr input written end e t =
    let same : own ≡ Inner = cc in (refl, subst (λ o. TellsAs (error_text o false) written end) same t)
serves_refused opened.JournalFault own addr input written end e t =
    let same : own ≡ Stopped = cc in (refl, subst (λ o. TellsAs (error_text o false) written end) same t)
serves_refused opened.WantOfMemory own addr input written end e t =
    let same : own ≡ NoMemory = cc in (refl, subst (λ o. TellsAs (error_text o false) written end) same t)

closes_refused : (opening : Opened) (own : Own) → refusal_of opening ≡ Some own → ClosesOpened opening []
closes_refused opened.In own e = absurd (cc)
closes_refused opened.Full own e = refl
closes_refused (opened.Refused why) own e = refl
closes_refused opened.JournalFault own e = refl
closes_refused opened.WantOfMemory own e = refl

pub session_refused : {addr : Address} {port : ℕ} {first : Option (List ℕ)} {d : Option Dialled}
    {stood stands : List FrontAnswer → Type 0} {a b : Option (List ℕ)} {failed : Type 0} {g h : ℕ} {end : End}
    (opening : Opened) (own : Own) → refusal_of opening ≡ Some own
    → ((list : List FrontAnswer) → stood list → stands (list ++ OfOpen addr port opening ∷ []))
    → TellsWhole (error_text own false) a b end → g ≤ count_limit → h ≡ g
    → SessionTold addr port first (front_seen stood stands) (session_seen a b g h d) d failed end
session_refused {addr} {end} opening own e told w few same =
    session_not opening (error_text own false)
    (λ input written t. serves_refused opening own addr input written end e t)
    (closes_refused opening own e) told w few same

-- a reply, as the session's end
pub tells_end : {a b : Option (List ℕ)} {words : List ℕ} (ended : Carried) (end : End)
    → (ended ≡ Closes → end ≡ Finished) → ((e : End) → ended ≡ Over e → end ≡ e) → WritesReply words Closes a b ended
    → TellsWhole words a b end
tells_end {a} {b} {words} Stays end f k w = absurd (let e = w.is.0 in cc)
tells_end {a} {b} {words} Closes end f k w = subst (TellsWhole words a b) (sym (f refl))
    (record { written = words; wrote = w.is.1; tells = refl })
tells_end {a} {b} {words} (Over ClientFault) end f k w = subst (TellsWhole words a b) (sym (k ClientFault refl))
    (record { written = w.is.0; wrote = w.is.1; tells = w.is.2 })
tells_end {a} {b} {words} (Over WantOfMemory) end f k w = subst (TellsWhole words a b) (sym (k WantOfMemory refl))
    (record { written = w.is.0; wrote = w.is.1; tells = w.is.2 })
tells_end (Over Finished) end f k w = absurd w.is
tells_end (Over Cut) end f k w = absurd w.is
tells_end (Over OriginCut) end f k w = absurd w.is
tells_end (Over OriginFault) end f k w = absurd w.is
tells_end (Over Starved) end f k w = absurd w.is

pub refuse_cause : (A B : Type 0) (end : End) → EndHasCause A B (Over end) → SessionHasCause A B end
refuse_cause A B ClientFault x = x
refuse_cause A B OriginFault x = x
refuse_cause A B Finished x = absurd x
refuse_cause A B Cut x = tt
refuse_cause A B OriginCut x = tt
refuse_cause A B Starved x = tt
refuse_cause A B WantOfMemory x = tt

pub session_cause : {A B C D : Type 0} (end : End) → (A → C) → (B → D) → SessionHasCause A B end
    → SessionHasCause C D end
session_cause ClientFault f k x = f x
session_cause OriginFault f k x = k x
session_cause Finished f k x = tt
session_cause Cut f k x = tt
session_cause OriginCut f k x = tt
session_cause Starved f k x = tt
session_cause WantOfMemory f k x = tt

-- the client's sink alone
pub session_said : (A B C : Type 0) (end : End) → SessionHasCause B ⊥ end → SessionHasCause (A ⊎ B) C end
session_said A B C ClientFault x = inr x
session_said A B C OriginFault x = absurd x
session_said A B C Finished x = tt
session_said A B C Cut x = tt
session_said A B C OriginCut x = tt
session_said A B C Starved x = tt
session_said A B C WantOfMemory x = tt

-- the client's sink was closed behind it
pub session_closed : {addr : Address} {port : ℕ} {first : Option (List ℕ)} {before now : Option Dialled}
    {stood stands : List FrontAnswer → Type 0} {a b c : Option (List ℕ)} {failed : Type 0} {g h : ℕ} {end : End}
    → c ≡ b → SessionTold addr port first (front_seen stood stands) (session_seen a b g h before) now failed end
    → SessionTold addr port first (front_seen stood stands) (session_seen a c g h before) now failed end
session_closed {addr} {port} {first} {before} {now} {stood} {stands} {a} {b} {c} {failed} {g} {h} {end} e x =
    subst (λ z. SessionTold addr port first (front_seen stood stands) (session_seen a z g h before) now failed end)
    (sym e) x
