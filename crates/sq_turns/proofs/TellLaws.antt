-- What calls of a hub that tells come to together.
use Rattle.std.proofs.Common.{◌≡◌, ◌⊎◌, inl, inr, ℕ, List, [], ◌∷◌, ◌++◌, Bool, true, false, ◌&&◌, ◌||◌, Option, Some, None, Result, Ok, Err, refl, sym, subst, ap, ◌∙◌, arith, append_assoc}
use Rattle.std.specs.List.{list_all}
use Rattle.std.proofs.lemmas.List.Folds.{list_all-append}
use Rattle.sq_checks.specs.Records.{Judged}
use Rattle.sq_model.specs.declared.stepping.Stepped.{Stepped}
use Rattle.sq_model.specs.declared.stepping.Stepped.TheVariants as stepped
use Rattle.sq_machine.specs.Checks.{check_open, is_done}
use Rattle.sq_rules.specs.Configurations.{Configuration}
use Rattle.sq_machine.specs.Entries.{History, Noted, entry_at}
use Rattle.sq_machine.specs.Machine.{next}
use Rattle.sq_machine.specs.Next.{refuses}
use Rattle.sq_machine.specs.Marking.{marked}
use Rattle.sq_machine.specs.declared.entries.Event.{Event}
use Rattle.sq_machine.specs.declared.entries.Event.TheVariants as event
use Rattle.sq_machine.specs.declared.entries.Told.{Told}
use Rattle.sq_machine.specs.declared.entries.Told.TheVariants as told
use Rattle.sq_machine.specs.declared.refusals.Refusal.{Refusal}
use Rattle.sq_model.proofs.Lawful.{stands_same}
use Rattle.sq_model.specs.CheckRows.{held_checks}
use Rattle.sq_model.specs.States.{IsSame, State}
use Rattle.sq_turns.proofs.WorkLaws.{works_before, works_self, works_then}
use Rattle.sq_turns.proofs.SpentLaws.{done_now, first_of, second_of, stays_open, step_spent, take_spent}
use Rattle.sq_turns.specs.Judging.{Finishes, GoesOn, IsForLastNumber, goes_on}
use Rattle.sq_turns.specs.Tellings.{AreKept, HubState, IsStep, IsTaken, IsTakenOf, Makes, MakesOn, StandsAt, Takes, Tells, Waited, Works, begun_of, is_outside, machine_now}
use Rattle.sq_turns.specs.declared.hub.HubFault.{HubFault}
use Rattle.sq_turns.specs.declared.hub.HubFault.TheVariants.{Refused, JournalFault, WantOfMemory}

-- two calls, one after the other
pub tells_then : (P Q R : HubState → HubState → Type 0) (a b c : Option HubState)
    → ((v w x : HubState) → P v w → Q w x → R v x) → Tells P a b → Tells Q b c → Tells R a c
tells_then P Q R None b c f p q = subst (λ o. Tells Q o c) p q
tells_then P Q R (Some v) b c f p q =
    let r = subst (λ o. Tells Q o c) p.1 q in
    (r.0, r.1, f v p.0 r.0 p.2 r.2)

-- one call, in other words
pub tells_as : (P R : HubState → HubState → Type 0) (a b : Option HubState) → ((v w : HubState) → P v w → R v w)
    → Tells P a b → Tells R a b
tells_as P R None b f p = p
tells_as P R (Some v) b f p = (p.0, p.1, f v p.0 p.2)

-- no call
pub tells_self : (R : HubState → HubState → Type 0) (a : Option HubState) → ((v : HubState) → R v v) → Tells R a a
tells_self R None f = refl
tells_self R (Some v) f = (v, refl, f v)

-- a state that is the same stands for the same histories
pub stands_at_same : (configs : List Configuration) (h : History) (s t : State) → IsSame t s → StandsAt configs h s
    → StandsAt configs h t
stands_at_same configs h s t is st = record {
  stands = record {
    good = st.stands.good;
    legal = st.stands.legal;
    sourced = st.stands.sourced;
    stands = stands_same configs (marked configs h) s t is st.stands.stands;
  };
  newest = omega (arith, is.latest_is, st.newest);
}

both : (a b : Bool) → a ≡ true → b ≡ true → (a && b) ≡ true
both true true p q = refl
both true false p q = q
both false b p q = absurd (cc)

or_second : (a b : Bool) → b ≡ true → (a || b) ≡ true
or_second true b p = refl
or_second false b p = p

-- events that no connection makes go on with any check
all_outside : (n : ℕ) (xs : History) → list_all is_outside xs ≡ true → list_all (goes_on n) xs ≡ true
all_outside n [] p = refl
all_outside n (x ∷ xs) p =
    both (goes_on n x) (list_all (goes_on n) xs)
    (or_second _ (is_outside x) (first_of (is_outside x) (list_all is_outside xs) p))
    (all_outside n xs (second_of (is_outside x) (list_all is_outside xs) p))

all_both : (p : Noted → Bool) (xs ys : History) → list_all p xs ≡ true → list_all p ys ≡ true
    → list_all p (xs ++ ys) ≡ true
all_both p xs ys one other = list_all-append p xs ys ∙ both (list_all p xs) (list_all p ys) one other

step_goes_on : (n now : ℕ) (answer : Told) → goes_on n (entry_at now (event.Step n) answer) ≡ true
step_goes_on n now answer = grind arith

-- a check that has not gone on
pub goes_self : (n : ℕ) (v : HubState) → GoesOn n v v
goes_self n v = record
    { adds = λ configs h st. ([], refl, st); kept = λ m b e. e; works = works_self v.rewriter; pools = refl }

-- a step more
pub goes_step : (n : ℕ) (s : Stepped) (v w x : HubState) → GoesOn n v w → MakesOn IsStep (event.Step n) (Ok s) w x
    → GoesOn n v x
goes_step n s v w x go call = record {
  adds = λ configs h st.
      let before = go.adds configs h st in
      let answer = call.makes.answers in
      let e = entry_at (machine_now w) (event.Step n) answer.0 in (
        e ∷ before.0,
        both (goes_on n e) (list_all (goes_on n) before.0) (step_goes_on n (machine_now w) answer.0)
            before.1,
        answer.2.stands configs (before.0 ++ h) before.2,
      );
  kept = λ m b e. go.kept m b (call.kept m b e);
  works = works_before v.rewriter w.rewriter x.rewriter call.makes.rewriter go.works;
  pools = call.makes.pools ∙ go.pools;
}

-- a wait more
pub goes_wait : (n : ℕ) (v w x : HubState) → GoesOn n v w → Waited w x → GoesOn n v x
goes_wait n v w x go wait = record {
  adds = λ configs h st.
      let before = go.adds configs h st in
      let more = wait.adds configs (before.0 ++ h) before.2 in (
        more.0 ++ before.0,
        all_both (goes_on n) more.0 before.0 (all_outside n more.0 more.1) before.1,
        subst (λ l. StandsAt configs l x.machine) (sym (append_assoc (more.0) (before.0) (h))) more.2,
      );
  kept = λ m b e. go.kept m b (wait.kept m b e);
  works = works_then v.rewriter w.rewriter x.rewriter go.works wait.works;
  pools = wait.pools ∙ go.pools;
}

-- from one state to another a check went on until its step said that it is done
pub record GoesDone (n : ℕ) (v w : HubState) : Type 0 where
  pub adds : (configs : List Configuration) (h : History) → StandsAt configs h v.machine
      → (more : History) × (list_all (goes_on n) more ≡ true) × StandsAt configs (more ++ h) w.machine
      × (check_open h n ≡ true → is_done (more ++ h) n ≡ true)
  pub kept : AreKept v.begun w.begun
  pub works : Works v.rewriter w.rewriter
  pub pools : w.pools ≡ v.pools

goes_of : (n : ℕ) (v w : HubState) → GoesDone n v w → GoesOn n v w
goes_of n v w go = record {
  adds = λ configs h st. let before = go.adds configs h st in (before.0, before.1, before.2);
  kept = go.kept;
  works = go.works;
  pools = go.pools;
}

-- the step that says so
pub goes_done : (n : ℕ) (s : Stepped) (v w x : HubState) → s ≡ stepped.Done → GoesOn n v w
    → MakesOn IsStep (event.Step n) (Ok s) w x → GoesDone n v x
goes_done n s v w x is go call = record {
  adds = λ configs h st.
      let before = go.adds configs h st in
      let answer = call.makes.answers in
      let e = entry_at (machine_now w) (event.Step n) answer.0 in
      let done : answer.0 ≡ told.Done = subst (λ (y : Stepped). IsStep y answer.0) is answer.1 in (
        e ∷ before.0,
        both (goes_on n e) (list_all (goes_on n) before.0) (step_goes_on n (machine_now w) answer.0) before.1,
        answer.2.stands configs (before.0 ++ h) before.2,
        λ opened. done_now (machine_now w) n answer.0 (before.0 ++ h) done (stays_open n before.0 h before.1 opened),
      );
  kept = λ m b e. go.kept m b (call.kept m b e);
  works = works_before v.rewriter w.rewriter x.rewriter call.makes.rewriter go.works;
  pools = call.makes.pools ∙ go.pools;
}

-- the machine's row of a check is that of its history
taken_of_history : (n : ℕ) (j : Judged) (configs : List Configuration) (h : History) (s : State) → StandsAt configs h s
    → IsTakenOf n j s.checks → IsTakenOf n j (held_checks configs (marked configs h))
taken_of_history n j configs h s st row = subst (λ l. IsTakenOf n j l) st.stands.stands.checks_are row

-- the record is taken
goes_taken : (n : ℕ) (j : Judged) (v w x : HubState) → GoesOn n v w → Takes n (Ok j) w x → Finishes n (Ok j) v x
goes_taken n j v w x go take = record {
  after = λ configs h st.
      let before = go.adds configs h st in
      let answer = take.makes.makes.answers in
      record {
        more = entry_at (machine_now w) (event.Take n) answer.0 ∷ before.0;
        fits = (
          record {
            now = machine_now w;
            steps = before.0;
            cut = ap (λ t. entry_at (machine_now w) (event.Take n) t ∷ before.0) answer.1;
            on = before.1;
          },
          record {
            now = machine_now w;
            before = before.0 ++ h;
            cut = ap (λ t. entry_at (machine_now w) (event.Take n) t ∷ (before.0 ++ h)) answer.1
                ∙ ap (λ k. entry_at (machine_now w) (event.Take k) (told.Judged j.epoch j.outcome) ∷ (before.0 ++ h))
                (sym take.of_check.0);
            row = subst (λ k. IsTakenOf k j (held_checks configs (marked configs (before.0 ++ h))))
                (sym take.of_check.0)
                (taken_of_history n j configs (before.0 ++ h) w.machine before.2 take.of_row);
          },
        );
        stands = answer.2.stands configs (before.0 ++ h) before.2;
      };
  of_check = (take.of_check.0, go.kept n (begun_of j) take.of_check.1);
  works = works_before v.rewriter w.rewriter x.rewriter take.makes.makes.rewriter go.works;
  pools = take.makes.makes.pools ∙ go.pools;
}

-- a refusal behind what the check added says that a number would be the last
abbrev LastRefused : (n : ℕ) (e : Event) (v w : HubState) → GoesOn n v w → Type 0
LastRefused n e v w go =
    (configs : List Configuration) (h : History) (st : StandsAt configs h v.machine) (why : Refusal)
    → next configs (marked configs ((go.adds configs h st).0 ++ h)) (machine_now w) e ≡ refuses why
    → check_open h n ≡ true → IsForLastNumber why

-- a call for the check is not made
goes_fault : {A : Type 0} (R : A → Told → Type 0) (n : ℕ) (e : Event) (fault : HubFault) (v w x : HubState)
    → (e ≡ event.Step n) ⊎ (e ≡ event.Take n) → (go : GoesOn n v w) → Makes R e (Err fault) w x → LastRefused n e v w go
    → Finishes n (Err fault) v x
goes_fault R n e (Refused why) v w x of_check go call last = record {
  after = λ configs h st.
      let before = go.adds configs h st in
      record {
        more = before.0;
        fits = (
          before.1,
          λ no. (
            e,
            of_check,
            record {
              now = machine_now w;
              next_is = call.answers no configs (before.0 ++ h) before.2;
            },
          ),
          λ no. last configs h st why (call.answers no configs (before.0 ++ h) before.2),
        );
        stands = stands_at_same configs (before.0 ++ h) w.machine x.machine call.unmade before.2;
      };
  of_check = tt;
  works = works_before v.rewriter w.rewriter x.rewriter call.rewriter go.works;
  pools = call.pools ∙ go.pools;
}
goes_fault R n e JournalFault v w x of_check go call last = record {
  after = λ configs h st.
      let before = go.adds configs h st in
      record {
        more = before.0;
        fits = before.1;
        stands = stands_at_same configs (before.0 ++ h) w.machine x.machine call.unmade before.2;
      };
  of_check = tt;
  works = works_before v.rewriter w.rewriter x.rewriter call.rewriter go.works;
  pools = call.pools ∙ go.pools;
}
goes_fault R n e WantOfMemory v w x of_check go call last = record {
  after = λ configs h st.
      let before = go.adds configs h st in
      record {
        more = before.0;
        fits = before.1;
        stands = stands_at_same configs (before.0 ++ h) w.machine x.machine call.unmade before.2;
      };
  of_check = tt;
  works = works_before v.rewriter w.rewriter x.rewriter call.rewriter go.works;
  pools = call.pools ∙ go.pools;
}

-- the taking ends the check, whatever it answers
pub goes_take : (n : ℕ) (r : Result Judged HubFault) (v w x : HubState) → GoesDone n v w → Takes n r w x
    → Finishes n r v x
unfolding goes_of
goes_take n (Ok j) v w x go take = goes_taken n j v w x (goes_of n v w go) take
goes_take n (Err fault) v w x go take =
    goes_fault IsTaken n (event.Take n) fault v w x (inr refl) (goes_of n v w go) take.makes.makes
    (λ configs h st why next opened.
    let before = go.adds configs h st in
    take_spent configs (before.0 ++ h) (machine_now w) n why next (stays_open n before.0 h before.1 opened)
    (before.3 opened))

-- a step that is not made ends it
pub goes_unmade : (n : ℕ) (fault : HubFault) (v w x : HubState) → GoesOn n v w
    → MakesOn IsStep (event.Step n) (Err fault) w x → Finishes n (Err fault) v x
goes_unmade n fault v w x go call =
    goes_fault IsStep n (event.Step n) fault v w x (inl refl) go call.makes
    (λ configs h st why next opened.
    let before = go.adds configs h st in
    step_spent configs (before.0 ++ h) (machine_now w) n why next (stays_open n before.0 h before.1 opened))

-- the same of what a hub tells
pub tells_step : (n : ℕ) (s : Stepped) (a b c : Option HubState) → Tells (GoesOn n) a b
    → Tells (MakesOn IsStep (event.Step n) (Ok s)) b c → Tells (GoesOn n) a c
tells_step n s a b c p q = tells_then (GoesOn n) (MakesOn IsStep (event.Step n) (Ok s)) (GoesOn n) a b c (goes_step n s)
    p q

pub tells_done : (n : ℕ) (s : Stepped) (a b c : Option HubState) → s ≡ stepped.Done → Tells (GoesOn n) a b
    → Tells (MakesOn IsStep (event.Step n) (Ok s)) b c → Tells (GoesDone n) a c
tells_done n s a b c is p q = tells_then (GoesOn n) (MakesOn IsStep (event.Step n) (Ok s)) (GoesDone n) a b c
    (λ v w x go call. goes_done n s v w x is go call) p q

pub tells_wait : (n : ℕ) (a b c : Option HubState) → Tells (GoesOn n) a b → Tells Waited b c → Tells (GoesOn n) a c
tells_wait n a b c p q = tells_then (GoesOn n) Waited (GoesOn n) a b c (goes_wait n) p q

pub tells_take : (n : ℕ) (r : Result Judged HubFault) (a b c : Option HubState) → Tells (GoesDone n) a b
    → Tells (Takes n r) b c → Tells (Finishes n r) a c
tells_take n r a b c p q = tells_then (GoesDone n) (Takes n r) (Finishes n r) a b c (goes_take n r) p q

pub tells_unmade : (n : ℕ) (fault : HubFault) (a b c : Option HubState) → Tells (GoesOn n) a b
    → Tells (MakesOn IsStep (event.Step n) (Err fault)) b c → Tells (Finishes n (Err fault)) a c
tells_unmade n fault a b c p q = tells_then (GoesOn n) (MakesOn IsStep (event.Step n) (Err fault))
    (Finishes n (Err fault)) a b c (goes_unmade n fault) p q

pub tells_not_begun : (n : ℕ) (a : Option HubState) → Tells (GoesOn n) a a
tells_not_begun n a = tells_self (GoesOn n) a (goes_self n)
