-- What follows a verdict, put together.
use Rattle.std.proofs.Common.{◌≡◌, ◌⊎◌, inl, inr, ℕ, ◌+◌, ◌≤◌, List, [], ◌∷◌, ◌++◌, Bool, true, false, ◌&&◌, Option, Some, None, Ok, bytes_eq, codes, refl, sym, ap, subst, ◌∙◌, arith, append_assoc}
use Rattle.sq_base.specs.Addresses.{Address}
use Rattle.sq_base.specs.Requests.{HttpRequest}
use Rattle.sq_base.specs.declared.plans.BodyPlan.{BodyPlan}
use Rattle.sq_checks.specs.Records.{Judged}
use Rattle.sq_outside.specs.Causes.{count_limit, Rose, TakesBack}
use Rattle.sq_outside.specs.Dials.{Dialled}
use Rattle.sq_message.specs.BodyPlans.{request_plan}
use Rattle.sq_message.specs.OwnReplies.{error_text, denial}
use Rattle.sq_message.specs.declared.own.Own.{Own}
use Rattle.sq_message.specs.declared.own.Own.TheVariants.{NotImplemented}
use Rattle.sq_turns.specs.Begins.{fits_hosts}
use Rattle.sq_turns.specs.Carrying.{sat}
use Rattle.sq_turns.specs.Fronts.{FrontAnswer, OfDecide, OfRewrite, OfSit, Rewrites, SitsFor, SitsBehind, takes_seat}
use Rattle.sq_turns.specs.Sessions.{JudgesOf, held_seat}
use Rattle.sq_turns.specs.Steps.{Goes, EndHasCause, turn_seen, front_seen}
use Rattle.sq_turns.specs.Written.{WritesReply}
use Rattle.sq_turns.specs.Told.{ReachesTold, CarriesTold, ObeysTold, AnswersTold}
use Rattle.sq_turns.specs.Turns.{Reply, NoOrigin, access_of, is_head, is_connect, is_served, dialled, seated, carried, rewritten_on, denied_closes, stays_unless, recorded, judged, asked}
use Rattle.sq_turns.specs.declared.ends.Carried.{Carried}
use Rattle.sq_turns.specs.declared.ends.Carried.TheVariants.{Closes}
use Rattle.sq_turns.specs.declared.front.Decided.{Decided}
use Rattle.sq_turns.specs.declared.front.Decided.TheVariants as decided
use Rattle.sq_turns.specs.declared.front.Rewritten.{Rewritten}
use Rattle.sq_turns.proofs.GoesLaws.{goes_as, own_goes, own_turn, cause_map}
use Rattle.sq_turns.proofs.TurnLaws.{told_none}
use Rattle.sq_forward.specs.Exchanges.{message}

and_true : (b : Bool) → b ≡ b && true
and_true true = refl
and_true false = refl

-- a request that is not forwarded
pub carries_unserved : {first : Option (List ℕ)} {d : Option Dialled} {stood : List FrontAnswer → Type 0}
    {left a b : Option (List ℕ)} {failed : Type 0} {g : ℕ} {ended : Carried} (r : HttpRequest) (addr : Address)
    (p : BodyPlan) (j : Judged)
    → is_served r ≡ false → WritesReply (error_text NotImplemented (is_head r)) Closes a b ended → g ≤ count_limit
    → CarriesTold (message r addr p) j first (front_seen stood stood) (turn_seen left a b g g d) d failed ended
carries_unserved {first = None} r addr p j e w few = record { known = tt }
carries_unserved {first = Some rest} {d = None} r addr p j e w few = record { known = tt }
carries_unserved {first = Some rest} {d = Some now} {stood} r addr p j e w few = record {
  known = record {
    answers = [];
    told = told_none stood;
    sits = tt;
    goes = own_goes (carried (access_of j) r addr p rest []) (error_text NotImplemented (is_head r)) [] [] Closes
        (Some now) now
        (rw e refl) w few refl (λ s. absurd cc);
  };
}

-- a seat that was refused
pub carries_unseated : {first : Option (List ℕ)} {d : Option Dialled} {stood stands : List FrontAnswer → Type 0}
    {left a b : Option (List ℕ)} {failed : Type 0} {g h : ℕ} {ended : Carried} (r : HttpRequest) (addr : Address)
    (p : BodyPlan) (j : Judged) (answers : List FrontAnswer) (own : Own)
    → is_served r ≡ true → ((rest : List ℕ)
    → seated (access_of j) r addr p rest answers NoOrigin ≡ own_turn (error_text own (is_head r)) [] [] Closes)
    → SitsFor j answers
    → ((list : List FrontAnswer) → stood list → stands (list ++ answers))
    → WritesReply (error_text own (is_head r)) Closes a b ended → g ≤ count_limit → h ≡ g
    → CarriesTold (message r addr p) j first (front_seen stood stands) (turn_seen left a b g h d) d failed ended
carries_unseated {first = None} r addr p j answers own e turn sits told w few same = record { known = tt }
carries_unseated {first = Some rest} {d = None} r addr p j answers own e turn sits told w few same =
    record { known = tt }
carries_unseated {first = Some rest} {d = Some now} {left} {a} {b} {failed} {g} {h} {ended} r addr p j answers own e
    turn sits told w few same = record {
      known = record {
        answers = answers;
        told = told;
        sits = sits;
        goes = subst (λ n. Goes (is_connect r) (carried (access_of j) r addr p rest answers) []
            (takes_seat j && sat answers) (turn_seen left a b g n (Some now)) now failed ended) (sym same)
            (own_goes (carried (access_of j) r addr p rest answers) (error_text own (is_head r)) [] [] Closes (Some now)
            now
            (rw e (turn rest)) w few refl (λ s. absurd cc));
      };
    }

-- a seat, if there is a pool, and the way to the origin
pub carries_seated : {first : Option (List ℕ)} {before d : Option Dialled} {stood stands : List FrontAnswer → Type 0}
    {left a b : Option (List ℕ)} {failed : Type 0} {g h k n : ℕ} {seat : Bool} {ended : Carried} (r : HttpRequest)
    (addr : Address) (p : BodyPlan) (j : Judged) (u : Unit {0})
    → is_served r ≡ true → seat ≡ takes_seat j → g ≡ k → h ≡ n
    → ((list : List FrontAnswer) → stood list → stands (list ++ OfSit j (Ok u) ∷ []))
    → ReachesTold (access_of j) (message r addr p) first seat (turn_seen left a b g h before) d failed ended
    → CarriesTold (message r addr p) j first (front_seen stood stands) (turn_seen left a b k n before) d failed ended
carries_seated {first = None} r addr p j u e held same last told x = record { known = tt }
carries_seated {first = Some rest} {d = None} r addr p j u e held same last told x = record { known = tt }
carries_seated {first = Some rest} {before} {d = Some now} {left} {a} {b} {failed} {g} {h} {k} {n} {seat} {ended} r addr
    p j u e held same last told x = record {
      known = record {
        answers = OfSit j (Ok u) ∷ [];
        told = told;
        sits = refl;
        goes =
            subst (λ m. Goes (is_connect r) (carried (access_of j) r addr p rest (OfSit j (Ok u) ∷ [])) []
            (takes_seat j && true) (turn_seen left a b k m before) now failed ended) last
            (subst (λ m. Goes (is_connect r) (carried (access_of j) r addr p rest (OfSit j (Ok u) ∷ [])) []
            (takes_seat j && true) (turn_seen left a b m h before) now failed ended) same
            (subst (λ s. Goes (is_connect r) (carried (access_of j) r addr p rest (OfSit j (Ok u) ∷ [])) [] s
            (turn_seen left a b g h before) now failed ended) (held ∙ and_true (takes_seat j))
            (goes_as (dialled (access_of j) r addr p rest [])
            (carried (access_of j) r addr p rest (OfSit j (Ok u) ∷ [])) (λ reply. rw e refl)
            (x.known []))));
      };
    }

-- a request for a tunnel
pub obeys_tunnel : {first : Option (List ℕ)} {before d : Option Dialled} {stood stands : List FrontAnswer → Type 0}
    {left a b : Option (List ℕ)} {failed : Type 0} {g h : ℕ} {ended : Carried} (r : HttpRequest) (addr : Address)
    (p : BodyPlan) (j : Judged)
    → j.outcome.allow ≡ true → is_connect r ≡ true
    → CarriesTold (message r addr p) j first (front_seen stood stands) (turn_seen left a b g h before) d failed ended
    → ObeysTold (message r addr p) j first (front_seen stood stands) (turn_seen left a b g h before) d failed ended
obeys_tunnel {first = None} r addr p j e f x = record { known = tt }
obeys_tunnel {first = Some rest} {d = None} r addr p j e f x = record { known = tt }
obeys_tunnel {first = Some rest} {d = Some now} r addr p j e f x =
    let y = x.known in
    record {
      known = record {
        answers = y.answers;
        told = y.told;
        sits = y.sits;
        goes = goes_as (carried (access_of j) r addr p rest y.answers) (recorded r addr p rest j y.answers)
            (λ reply. rw (e, f) refl)
            y.goes;
      };
    }

-- a request goes on as the rewriter left it
pub obeys_sent : {first : Option (List ℕ)} {before d : Option Dialled} {stood mid stands : List FrontAnswer → Type 0}
    {left a b : Option (List ℕ)} {failed : Type 0} {g h k : ℕ} {ended : Carried} (r sent : HttpRequest)
    (addr : Address) (p : BodyPlan) (j : Judged) (said : Rewritten)
    → j.outcome.allow ≡ true → is_connect r ≡ false → sent.method ≡ r.method
    → ((rest : List ℕ) (more : List FrontAnswer) (reply : Reply)
    → carried (access_of j) sent addr p rest more reply
    ≡ rewritten_on (access_of j) r addr p rest (OfRewrite j said ∷ more) reply)
    → Rewrites j.sight.request said → g ≡ k
    → ((list : List FrontAnswer) → stood list → mid (list ++ OfRewrite j said ∷ []))
    → CarriesTold (message sent addr p) j first (front_seen mid stands) (turn_seen left a b g h before) d failed ended
    → ObeysTold (message r addr p) j first (front_seen stood stands) (turn_seen left a b k h before) d failed ended
obeys_sent {first = None} r sent addr p j said e f m goes_on is same told x = record { known = tt }
obeys_sent {first = Some rest} {d = None} r sent addr p j said e f m goes_on is same told x = record { known = tt }
obeys_sent {first = Some rest} {before} {d = Some now} {stands} {left} {a} {b} {failed} {g} {h} {k} {ended} r sent addr
    p
    j said e f m goes_on is same told x =
    let y = x.known in
    let all = OfRewrite j said ∷ y.answers in
    let seat = takes_seat j && sat y.answers in
    let went : Goes (is_connect sent) (recorded r addr p rest j all) [] seat (turn_seen left a b g h before) now failed
    ended =
    goes_as (carried (access_of j) sent addr p rest y.answers) (recorded r addr p rest j all)
    (λ reply. rw (e, f) (goes_on rest y.answers reply)) y.goes in
    record {
      known = record {
        answers = all;
        told = λ list s. subst stands (append_assoc list (OfRewrite j said ∷ []) y.answers)
            (y.told (list ++ OfRewrite j said ∷ []) (told list s));
        sits = (refl, is, y.sits);
        goes = subst (λ n. Goes (is_connect r) (recorded r addr p rest j all) [] seat (turn_seen left a b n h before)
            now failed ended) same
            (subst (λ c. Goes c (recorded r addr p rest j all) [] seat (turn_seen left a b g h before) now failed ended)
            (ap (λ w. bytes_eq w (codes "CONNECT")) m) went);
      };
    }

-- its client hears this of the proxy instead
pub obeys_told : {first : Option (List ℕ)} {d : Option Dialled} {stood stands : List FrontAnswer → Type 0}
    {left a b : Option (List ℕ)} {failed : Type 0} {g h : ℕ} {ended : Carried} (r : HttpRequest) (addr : Address)
    (p : BodyPlan) (j : Judged) (said : Rewritten) (words : List ℕ)
    → j.outcome.allow ≡ true → is_connect r ≡ false
    → ((rest : List ℕ) → rewritten_on (access_of j) r addr p rest (OfRewrite j said ∷ []) NoOrigin
    ≡ own_turn words [] [] Closes)
    → Rewrites j.sight.request said → ((list : List FrontAnswer) → stood list → stands (list ++ OfRewrite j said ∷ []))
    → WritesReply words Closes a b ended → g ≤ count_limit → h ≡ g
    → ObeysTold (message r addr p) j first (front_seen stood stands) (turn_seen left a b g h d) d failed ended
obeys_told {first = None} r addr p j said words e f turn is told w few same = record { known = tt }
obeys_told {first = Some rest} {d = None} r addr p j said words e f turn is told w few same = record { known = tt }
obeys_told {first = Some rest} {d = Some now} {left} {a} {b} {failed} {g} {h} {ended} r addr p j said words e f turn is
    told w few same =
    let all = OfRewrite j said ∷ [] in
    record {
      known = record {
        answers = all;
        told = told;
        sits = (refl, is, tt);
        goes = subst (λ n. Goes (is_connect r) (recorded r addr p rest j all) [] (takes_seat j && false)
            (turn_seen left a b g n (Some now)) now failed ended) (sym same)
            (own_goes (recorded r addr p rest j all) words [] [] Closes (Some now) now (rw (e, f) (turn rest)) w few
            refl (λ s. absurd cc));
      };
    }

-- a denied one
pub obeys_denied : {left : Option (List ℕ)} {d : Option Dialled} {stood : List FrontAnswer → Type 0}
    {a b : Option (List ℕ)} {failed : Type 0} {g : ℕ} {ended : Carried} (r : HttpRequest) (addr : Address)
    (p : BodyPlan) (j : Judged) (closes : Bool)
    → j.outcome.allow ≡ false → closes ≡ denied_closes r p
    → WritesReply (denial j.outcome (is_head r) closes) (stays_unless closes) a b ended → g ≤ count_limit
    → ObeysTold (message r addr p) j left (front_seen stood stood) (turn_seen left a b g g d) d failed ended
obeys_denied {left = None} r addr p j closes e same w few = record { known = tt }
obeys_denied {left = Some rest} {d = None} r addr p j closes e same w few = record { known = tt }
obeys_denied {left = Some rest} {d = Some now} {stood} r addr p j closes e same w few = record {
  known = record {
    answers = [];
    told = told_none stood;
    sits = tt;
    goes = own_goes (recorded r addr p rest j []) (denial j.outcome (is_head r) closes) rest [] (stays_unless closes)
        (Some now) now (rw (e, same) refl) w few refl (λ s. refl);
  };
}

-- from the request on: to what is judged
pub asked_judged : (r : HttpRequest) (addr : Address) (p : BodyPlan) (rest : List ℕ) (answers : List FrontAnswer)
    (reply : Reply) → fits_hosts r ≡ true → request_plan r ≡ Ok p
    → judged r addr p rest answers reply ≡ asked r addr rest answers reply
asked_judged r addr p rest answers reply e f = rw (e, f) refl

-- a request whose client hears this of the proxy
pub answers_own : {first : Option (List ℕ)} {d : Option Dialled} {stood stands : List FrontAnswer → Type 0}
    {left a b : Option (List ℕ)} {failed : Type 0} {g h : ℕ} {ended : Carried} (r : HttpRequest) (addr : Address)
    (answers : List FrontAnswer) (own : Own)
    → ((rest : List ℕ) → asked r addr rest answers NoOrigin ≡ own_turn (error_text own (is_head r)) [] [] Closes)
    → JudgesOf r answers → ((list : List FrontAnswer) → stood list → stands (list ++ answers))
    → WritesReply (error_text own (is_head r)) Closes a b ended → g ≤ count_limit → h ≡ g
    → AnswersTold r addr first (front_seen stood stands) (turn_seen left a b g h d) d failed ended
answers_own {first = None} r addr answers own turn judges told w few same = record { known = tt }
answers_own {first = Some rest} {d = None} r addr answers own turn judges told w few same = record { known = tt }
answers_own {first = Some rest} {d = Some now} {left} {a} {b} {failed} {g} {h} {ended} r addr answers own turn judges
    told w few same = record {
      known = record {
        answers = answers;
        told = told;
        judges = judges;
        goes = subst (λ n. Goes (is_connect r) (asked r addr rest answers) [] (held_seat answers)
            (turn_seen left a b g n (Some now)) now failed ended) (sym same)
            (own_goes (asked r addr rest answers) (error_text own (is_head r)) [] [] Closes (Some now) now (turn rest) w
            few
            refl (λ s. absurd cc));
      };
    }

-- no seat was asked for
pub none_behind : (said : Decided) → SitsBehind said []
none_behind (decided.Record j) = tt
none_behind (decided.Mismatch other) = tt
none_behind (decided.Refused why) = tt
none_behind decided.JournalFault = tt
none_behind decided.WantOfMemory = tt

-- a record, and what follows it
pub answers_judged : {first : Option (List ℕ)} {before d : Option Dialled}
    {stood mid stands : List FrontAnswer → Type 0} {left a b : Option (List ℕ)} {failed : Type 0} {g h k : ℕ}
    {ended : Carried} (r : HttpRequest) (addr : Address) (p : BodyPlan) (j : Judged)
    → fits_hosts r ≡ true → request_plan r ≡ Ok p → g ≡ k → j.sight.request ≡ r
    → ((list : List FrontAnswer) → stood list → mid (list ++ OfDecide r (decided.Record j) ∷ []))
    → ObeysTold (message r addr p) j first (front_seen mid stands) (turn_seen left a b g h before) d failed ended
    → AnswersTold r addr first (front_seen stood stands) (turn_seen left a b k h before) d failed ended
answers_judged {first = None} r addr p j e f same judges told x = record { known = tt }
answers_judged {first = Some rest} {d = None} r addr p j e f same judges told x = record { known = tt }
answers_judged {first = Some rest} {before} {d = Some now} {stands} {left} {a} {b} {failed} {g} {h} {k} {ended} r addr p
    j e f same judges told x =
    let y = x.known in
    let all = OfDecide r (decided.Record j) ∷ y.answers in
    record {
      known = record {
        answers = all;
        told = λ list s. subst stands (append_assoc list (OfDecide r (decided.Record j) ∷ []) y.answers)
            (y.told (list ++ OfDecide r (decided.Record j) ∷ []) (told list s));
        judges = (refl, judges, y.sits);
        goes = subst (λ m. Goes (is_connect r) (asked r addr rest all) [] (takes_seat j && sat y.answers)
            (turn_seen left a b m h before) now failed ended) same
            (goes_as (recorded r addr p rest j y.answers) (asked r addr rest all)
            (λ reply. asked_judged r addr p rest all reply e f) y.goes);
      };
    }

-- a count that rose later rose
pub rose_later : (a b c : ℕ) → a ≤ b → Rose b c → Rose a c
rose_later a b c h r = omega (arith, h, r)

left_later : (B : Type 0) (a b c : ℕ) → a ≤ b → Rose b c ⊎ B → Rose a c ⊎ B
left_later B a b c h (inl r) = inl (rose_later a b c h r)
left_later B a b c h (inr y) = inr y

pub cause_later : (B C : Type 0) (a b c : ℕ) (ended : Carried) → a ≤ b → EndHasCause (Rose b c ⊎ B) C ended
    → EndHasCause (Rose a c ⊎ B) C ended
cause_later B C a b c ended h x = cause_map ended (left_later B a b c h) (λ (y : C). y) x

-- the client's link alone
never : (C : Type 0) → ⊥ → C
never C x = absurd x

right : (A B : Type 0) → B → A ⊎ B
right A B y = inr y

pub cause_client : (A B C : Type 0) (ended : Carried) → EndHasCause B ⊥ ended → EndHasCause (A ⊎ B) C ended
cause_client A B C ended x = cause_map ended (right A B) (never C) x

-- a reply of the proxy's own, said later
pub cause_said : (A B : Type 0) (a b c : ℕ) (ended : Carried) → a ≤ b → EndHasCause (Rose b c) ⊥ ended
    → EndHasCause (A ⊎ Rose a c) B ended
cause_said A B a b c ended h x = cause_map ended (λ (y : Rose b c). right A (Rose a c) (rose_later a b c h y))
    (never B) x

pub right_later : (A : Type 0) (a b c : ℕ) → a ≤ b → A ⊎ Rose b c → A ⊎ Rose a c
right_later A a b c h (inl x) = inl x
right_later A a b c h (inr r) = inr (rose_later a b c h r)

-- the dialer's count rose where a half of its dial failed
pub reached_rose : (in_old in_now out_old out_now before mid now : ℕ) → in_old ≡ 0 → out_old ≡ 0 → mid ≡ before
    → TakesBack mid now (in_now + out_now) → Rose in_old in_now ⊎ Rose out_old out_now → Rose before now
reached_rose in_old in_now out_old out_now before mid now e f same t (inl r) = let k = t.rose (omega (arith, e, r)) in
    omega (arith, same, k)
reached_rose in_old in_now out_old out_now before mid now e f same t (inr r) = let k = t.rose (omega (arith, f, r)) in
    omega (arith, same, k)

pub cause_reached : (A B C : Type 0) (ended : Carried) → (B → C) → EndHasCause A B ended → EndHasCause A C ended
cause_reached A B C ended f x = cause_map ended (λ (y : A). y) f x

-- a count that rose earlier rose
pub rose_earlier : (a b c : ℕ) → Rose a b → b ≤ c → Rose a c
rose_earlier a b c r h = omega (arith, h, r)

pub right_earlier : (A : Type 0) (a b c : ℕ) → b ≤ c → A ⊎ Rose a b → A ⊎ Rose a c
right_earlier A a b c h (inl x) = inl x
right_earlier A a b c h (inr r) = inr (rose_earlier a b c r h)
