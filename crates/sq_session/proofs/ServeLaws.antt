-- The turns of a session, one after the other.
use Rattle.std.proofs.Common.{◌≡◌, ◌⊎◌, inl, inr, ℕ, ◌+◌, ◌≤◌, List, [], ◌∷◌, ◌++◌, length, true, Option, Some, None, IfSome, refl, sym, ap, subst, ◌∙◌, arith, append_assoc, append-nil, length-append}
use Rattle.std.proofs.lemmas.List.{flat_map_more}
use Rattle.std.proofs.lemmas.List.Sums.{sum_by-append}
use Rattle.std.specs.Option.{option_to_list}
use Rattle.std.specs.Io.KnownBytes.{Appends}
use Rattle.std.proofs.KnownBytes.{Appends-trans, Appends-nil}
use Rattle.sq_base.specs.Addresses.{Address}
use Rattle.sq_outside.specs.Causes.{count_limit}
use Rattle.sq_outside.specs.Dials.{Dialled}
use Rattle.sq_forward.specs.Meters.{granted_after}
use Rattle.sq_turns.specs.Fronts.{FrontAnswer}
use Rattle.sq_turns.specs.Sessions.{SessionStep, IsStep, TakesTurn, Turns, EndsSession, answers_of, client_of, dials_of, granted_of, HasFaulted, DialsAll, turn_of, session_seen}
use Rattle.sq_turns.specs.Steps.{DialsOn, WasTold, turn_seen, front_seen}
use Rattle.sq_turns.specs.Told.{TurnTold, ServesTold}
use Rattle.sq_turns.specs.declared.ends.Carried.{Carried}
use Rattle.sq_turns.specs.declared.ends.Carried.TheVariants.{Stays}
use Rattle.sq_turns.specs.declared.ends.End.{End}
use Rattle.sq_turns.proofs.GoesLaws.{granted_none}

-- some turns were taken, and the connection stays
pub record Served (addr : Address) (input : List ℕ) (stood stands : List FrontAnswer → Type 0)
    (left a b : Option (List ℕ)) (before : Option Dialled) (now : Dialled) (failed : Type 0) (g h : ℕ) : Type 0 where
  pub steps : List SessionStep
  pub rest : List ℕ
  pub left_is : left ≡ Some rest
  pub goes : (more : List SessionStep) (end : End) → Turns addr rest more end → Turns addr input (steps ++ more) end
  pub told : (list : List FrontAnswer) → stood list → stands (list ++ answers_of steps)
  pub wrote : Appends a b (client_of steps)
  pub dials : DialsAll before now (dials_of steps)
  pub broken : HasFaulted addr steps → failed
  pub granted : h ≡ granted_after true g (granted_of steps)

pub record ServedSo (addr : Address) (stood stands : List FrontAnswer → Type 0) (first left a b : Option (List ℕ))
    (before now : Option Dialled) (failed : Type 0) (g h : ℕ) : Type 0 where
  pub known : IfSome first (λ input. IfSome now (λ d. Served addr input stood stands left a b before d failed g h))

-- none was taken yet
pub serves_none : {addr : Address} {stood : List FrontAnswer → Type 0} {failed : Type 0} (first a : Option (List ℕ))
    (d : Option Dialled) (g : ℕ) → g ≤ count_limit → ServedSo addr stood stood first first a a d d failed g g
serves_none None a d g few = record { known = tt }
serves_none (Some input) a None g few = record { known = tt }
serves_none {addr} {stood} (Some input) a (Some now) g few = record {
  known = record {
    steps = [];
    rest = input;
    left_is = refl;
    goes = λ more end t. t;
    told = λ list s. subst stood (sym (append-nil list)) s;
    wrote = Appends-nil a;
    dials = record { old = now; told = refl; made = omega arith; back = sym (append-nil now.back) };
    broken = λ b. absurd b;
    granted = granted_none true g few;
  };
}

-- one turn in front of those that follow
first_turn : (addr : Address) (rest : List ℕ) (s : SessionStep) (more : List SessionStep) (end : End)
    → IsStep addr rest s → s.ended ≡ Stays → Turns addr (turn_of addr s).rest more end → Turns addr rest (s ∷ more) end
first_turn addr rest s [] end is stays t = absurd t
first_turn addr rest s (u ∷ us) end is stays t = (is, stays, t)

-- the last one broke, or one before
broken_last : (addr : Address) (steps : List SessionStep) (s : SessionStep) → HasFaulted addr (steps ++ s ∷ [])
    → HasFaulted addr steps ⊎ ((turn_of addr s).faulted ≡ true)
broken_last addr [] s (inl b) = inr b
broken_last addr [] s (inr b) = absurd b
broken_last addr (u ∷ us) s (inl b) = inl (inl b)
broken_last addr (u ∷ us) s (inr b) = by (broken_last addr us s b)
  where
    by : HasFaulted addr us ⊎ ((turn_of addr s).faulted ≡ true)
        → HasFaulted addr (u ∷ us) ⊎ ((turn_of addr s).faulted ≡ true)
    by (inl x) = inl (inr x)
    by (inr x) = inr x

-- what both lead to
either : {A B C : Type 0} → (A → C) → (B → C) → A ⊎ B → C
either f k (inl x) = f x
either f k (inr x) = k x

-- behind some dials one more, or none
dials_more : {before mid : Option Dialled} {held now : Dialled} (steps : List SessionStep) (s : SessionStep)
    → mid ≡ Some held → DialsAll before held (dials_of steps) → DialsOn mid now s.dial
    → DialsAll before now (dials_of (steps ++ s ∷ []))
dials_more {before} {mid} {held} {now} steps s is x y =
    let old_is : y.old ≡ held = let e : Some y.old ≡ Some held = sym y.told ∙ is in cc in
    let one = option_to_list s.dial in
    let list : dials_of (steps ++ s ∷ []) ≡ dials_of steps ++ one =
    sym (flat_map_more (λ u. option_to_list (SessionStep.dial u)) [] steps s) in
    record {
      old = x.old;
      told = x.told;
      made = y.made ∙ omega (arith, ap Dialled.made old_is, x.made, ap length list, length-append (dials_of steps) one);
      back = y.back ∙ ap (λ o. Dialled.back o ++ one) old_is ∙ ap (λ l. l ++ one) x.back
          ∙ append_assoc x.old.back (dials_of steps) one ∙ ap (λ l. x.old.back ++ l) (sym list);
    }

granted_more : (g n m : ℕ) → granted_after true (granted_after true g n) m ≡ granted_after true g (n + m)
granted_more g n m = omega arith

granted_last : (g h k : ℕ) (steps : List SessionStep) (s : SessionStep) → h ≡ granted_after true g (granted_of steps)
    → k ≡ granted_after true h s.granted → k ≡ granted_after true g (granted_of (steps ++ s ∷ []))
granted_last g h k steps s e f =
    f ∙ ap (λ n. granted_after true n s.granted) e ∙ granted_more g (granted_of steps) s.granted
    ∙ ap (granted_after true g) (omega (arith, sum_by-append (λ u. SessionStep.granted u) steps (s ∷ [])))

-- the answers of one turn more
told_last : (stood mid stands : List FrontAnswer → Type 0) (steps : List SessionStep) (s : SessionStep)
    → ((list : List FrontAnswer) → stood list → mid (list ++ answers_of steps))
    → ((list : List FrontAnswer) → mid list → stands (list ++ s.answers))
    → (list : List FrontAnswer) → stood list → stands (list ++ answers_of (steps ++ s ∷ []))
told_last stood mid stands steps s f k list x = subst stands (flat_map_more (λ u. SessionStep.answers u) list steps s)
    (k (list ++ answers_of steps) (f list x))

wrote_last : (a b c : Option (List ℕ)) (steps : List SessionStep) (s : SessionStep) → Appends a b (client_of steps)
    → Appends b c s.written → Appends a c (client_of (steps ++ s ∷ []))
wrote_last a b c steps s x y = subst (Appends a c) (flat_map_more (λ u. SessionStep.written u) [] steps s)
    (Appends-trans a b c (client_of steps) s.written x y)

-- one turn more was taken, and the connection stays
pub serves_more : {addr : Address} {stood mid stands : List FrontAnswer → Type 0}
    {first left next a b c : Option (List ℕ)} {before held now : Option Dialled} {failed fails fails_now : Type 0}
    {g h k : ℕ} {ended : Carried}
    → ended ≡ Stays → ServedSo addr stood mid first left a b before held failed g h → WasTold held now
    → TurnTold addr left (front_seen mid stands) (turn_seen next b c h k held) now fails ended
    → (failed → fails_now) → (fails → fails_now) → ServedSo addr stood stands first next a c before now fails_now g k
serves_more {first = None} stays x w t early late = record { known = tt }
serves_more {first = Some input} {now = None} stays x w t early late = record { known = tt }
serves_more {first = Some input} {held = None} {now = Some d} stays x w t early late = absurd (let e = w.told.1 in cc)
serves_more {addr} {stood} {mid} {stands} {first = Some input} {left} {next} {a} {b} {c} {before} {held = Some o}
    {now = Some d} {failed} {fails} {fails_now} {g} {h} {k} {ended} stays x w t early late =
    let y = x.known in
    let u : TakesTurn addr y.rest (front_seen mid stands) (turn_seen next b c h k (Some o)) d fails ended =
    subst (λ l. IfSome l (λ i. TakesTurn addr i (front_seen mid stands) (turn_seen next b c h k (Some o)) d fails
    ended)) y.left_is t.known in
    let s = u.step in
    record {
      known = record {
        steps = y.steps ++ s ∷ [];
        rest = (turn_of addr s).rest;
        left_is = u.rest stays;
        goes = λ more end v. subst (λ l. Turns addr input l end) (sym (append_assoc y.steps (s ∷ []) more))
            (y.goes (s ∷ more) end (first_turn addr y.rest s more end u.is (u.ended_is ∙ stays) v));
        told = told_last stood mid stands y.steps s y.told u.told;
        wrote = wrote_last a b c y.steps s y.wrote u.wrote;
        dials = dials_more y.steps s refl y.dials u.dials;
        broken = λ v. either (λ p. early (y.broken p)) (λ p. late (u.broken p)) (broken_last addr y.steps s v);
        granted = granted_last g h k y.steps s y.granted u.granted;
      };
    }

-- the last turn was taken
pub serves_last : {addr : Address} {stood mid stands : List FrontAnswer → Type 0}
    {first left next a b c : Option (List ℕ)} {before held now : Option Dialled} {failed fails fails_now : Type 0}
    {g h k : ℕ} {end : End} (ended : Carried)
    → EndsSession ended end → ServedSo addr stood mid first left a b before held failed g h → WasTold held now
    → TurnTold addr left (front_seen mid stands) (turn_seen next b c h k held) now fails ended
    → (failed → fails_now) → (fails → fails_now) → ServesTold addr first (front_seen stood stands)
    (session_seen a c g k before) now fails_now end
serves_last {first = None} ended ends x w t early late = record { known = tt }
serves_last {first = Some input} {now = None} ended ends x w t early late = record { known = tt }
serves_last {first = Some input} {held = None} {now = Some d} ended ends x w t early late =
    absurd (let e = w.told.1 in cc)
serves_last {addr} {stood} {mid} {stands} {first = Some input} {left} {next} {a} {b} {c} {before} {held = Some o}
    {now = Some d} {failed} {fails} {fails_now} {g} {h} {k} {end} ended ends x w t early late =
    let y = x.known in
    let u : TakesTurn addr y.rest (front_seen mid stands) (turn_seen next b c h k (Some o)) d fails ended =
    subst (λ l. IfSome l (λ i. TakesTurn addr i (front_seen mid stands) (turn_seen next b c h k (Some o)) d fails
    ended)) y.left_is t.known in
    let s = u.step in
    record {
      known = record {
        steps = y.steps ++ s ∷ [];
        turns = y.goes (s ∷ []) end (u.is, subst (λ e. EndsSession e end) (sym u.ended_is) ends);
        told = told_last stood mid stands y.steps s y.told u.told;
        wrote = wrote_last a b c y.steps s y.wrote u.wrote;
        dials = dials_more y.steps s refl y.dials u.dials;
        broken = λ v. either (λ p. early (y.broken p)) (λ p. late (u.broken p)) (broken_last addr y.steps s v);
        granted = granted_last g h k y.steps s y.granted u.granted;
      };
    }
