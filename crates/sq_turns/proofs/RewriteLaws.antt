-- A question to the rewriter, over a hub that tells.
use Rattle.std.proofs.Common.{◌≡◌, ℕ, List, [], ◌∷◌, ◌++◌, Bool, true, false, ◌&&◌, Option, Some, None, is_some, if◌then◌else◌, Result, Ok, Err, refl, sym, subst, ap, ◌∙◌, append_assoc}
use Rattle.std.specs.List.{list_all}
use Rattle.std.proofs.lemmas.List.Folds.{list_all-append}
use Rattle.sq_checks.specs.Records.{Judged}
use Rattle.sq_rules.specs.Configurations.{Configuration}
use Rattle.sq_machine.specs.Entries.{History}
use Rattle.sq_machine.specs.Farms.{full}
use Rattle.sq_machine.specs.Limits.{last_number}
use Rattle.sq_model.specs.States.{State}
use Rattle.sq_rewrite.proofs.WorkLaws.{calls_more, run_more, taken_fits, taken_known}
use Rattle.sq_rewrite.specs.Calls.{Took}
use Rattle.sq_rewrite.specs.Rewritings.{MayBecome}
use Rattle.sq_rewrite.specs.States.{Refuses, RewriteState, after, after_calls, ask_refusal, is_spent}
use Rattle.sq_rewrite.specs.declared.faults.RewriteFault.{RewriteFault}
use Rattle.sq_rewrite.specs.declared.faults.RewriteFault.TheVariants as fault
use Rattle.sq_rewrite.specs.declared.rewritings.Rewriting.{Rewriting}
use Rattle.sq_turns.specs.declared.front.Rewritten.{Rewritten}
use Rattle.sq_turns.specs.declared.front.Rewritten.TheVariants as rewritten
use Rattle.sq_turns.specs.Judging.{ComesTo, HadNoMemory, WasRefused, WasTaken, RewritesBy, RewritesFor, TakesAtLast, TakesLast, rewritten_of, unasked_of}
use Rattle.sq_turns.specs.Tellings.{HubState, Puts, PutsBy, SaysRewriter, StandsAt, TakesBy, TakesRewriting, Tells, Waited, Works, is_outside, puts_for}
use Rattle.sq_turns.proofs.TellLaws.{tells_as, tells_self, tells_then}
use Rattle.sq_turns.proofs.WorkLaws.{works_before, works_self, works_then}

both : (a b : Bool) → a ≡ true → b ≡ true → (a && b) ≡ true
both true true p q = refl
both true false p q = q
both false b p q = absurd (cc)

-- what events that no connection makes, and nothing else, came to the machine
abbrev OnlyOutside : State → State → Type 0
OnlyOutside s t = (configs : List Configuration) (h : History) → StandsAt configs h s
    → (more : History) × (list_all is_outside more ≡ true) × StandsAt configs (more ++ h) t

outside_none : (s t : State) → t ≡ s → OnlyOutside s t
outside_none s t e = λ configs h st. ([], refl, subst (StandsAt configs h) (sym e) st)

outside_then : (s t u : State) → OnlyOutside s t → OnlyOutside t u → OnlyOutside s u
outside_then s t u one other = λ configs h st.
    let first = one configs h st in
    let more = other configs (first.0 ++ h) first.2 in (
      more.0 ++ first.0,
      list_all-append is_outside more.0 first.0
          ∙ both (list_all is_outside more.0) (list_all is_outside first.0) more.1 first.1,
      subst (λ l. StandsAt configs l u) (sym (append_assoc (more.0) (first.0) (h))) more.2,
    )

-- nothing came
waited_self : (v : HubState) → Waited v v
waited_self v = record {
  adds = outside_none v.machine v.machine refl;
  kept = λ n b e. e;
  works = works_self v.rewriter;
  pools = refl;
}

-- a question that has not ended is left
untaken : (q : ℕ) (a b : Option RewriteState) → TakesBy q (Ok None) a b → b ≡ a
untaken q None b p = absurd (let e = p.0 in cc)
untaken q (Some s) b p = p.1

waited_untaken : (q : ℕ) (v w x : HubState) → Waited v w → TakesRewriting q (Ok None) w x → Waited v x
waited_untaken q v w x wait take = record {
  adds = outside_then v.machine w.machine x.machine wait.adds
      (outside_none w.machine x.machine take.rest.machine);
  kept = λ n b e. wait.kept n b (ap (λ f. f n) (sym take.rest.begun) ∙ e);
  works = works_before v.rewriter w.rewriter x.rewriter (untaken q w.rewriter x.rewriter take.takes) wait.works;
  pools = take.rest.pools ∙ wait.pools;
}

waited_then : (v w x : HubState) → Waited v w → Waited w x → Waited v x
waited_then v w x one other = record {
  adds = outside_then v.machine w.machine x.machine one.adds other.adds;
  kept = λ n b e. one.kept n b (other.kept n b e);
  works = works_then v.rewriter w.rewriter x.rewriter one.works other.works;
  pools = other.pools ∙ one.pools;
}

-- it was taken at last
last_taken : (q : ℕ) (taken : Rewriting) (a b c : Option RewriteState) → Works a b → TakesBy q (Ok (Some taken)) b c
    → TakesLast q (Ok taken) a c
last_taken q taken None b c w t = absurd (let p = subst (λ o. TakesBy q (Ok (Some taken)) o c) w t in let e = p.0 in cc)
last_taken q taken (Some s) b c w t =
    let p = subst (λ o. TakesBy q (Ok (Some taken)) o c) w.3 t in
    (w.0, w.1, (p.0, w.2), p.1)

last_refused : (q : ℕ) (f : RewriteFault) (a b c : Option RewriteState) → Works a b → TakesBy q (Err f) b c
    → TakesLast q (Err f) a c
last_refused q f None b c w t =
    let p = subst (λ o. TakesBy q (Err f) o c) w t in
    let is : f ≡ fault.UnknownQuestion q = let e = p.0 in cc in
    (ap (λ x. Err x) is, p.1)
last_refused q f (Some s) b c w t =
    let p = subst (λ o. TakesBy q (Err f) o c) w.3 t in
    (w.0, w.1, w.2, p.1, p.0)

takes_last : (q : ℕ) (r : Result (Option Rewriting) RewriteFault) (said : Result Rewriting RewriteFault)
    (v w x : HubState) → ((a b c : Option RewriteState) → Works a b → TakesBy q r b c → TakesLast q said a c)
    → Waited v w → TakesRewriting q r w x → TakesAtLast q said v x
takes_last q r said v w x f wait take = record {
  adds = outside_then v.machine w.machine x.machine wait.adds
      (outside_none w.machine x.machine take.rest.machine);
  kept = λ n b e. wait.kept n b (ap (λ g. g n) (sym take.rest.begun) ∙ e);
  takes = f v.rewriter w.rewriter x.rewriter wait.works take.takes;
  pools = take.rest.pools ∙ wait.pools;
}

-- the same of what a hub tells
pub tells_unwaited : (a : Option HubState) → Tells Waited a a
tells_unwaited a = tells_self Waited a waited_self

pub tells_untaken : (q : ℕ) (a b c d : Option HubState) → Tells Waited a b → Tells (TakesRewriting q (Ok None)) b c
    → Tells Waited c d → Tells Waited a d
tells_untaken q a b c d p t w =
    tells_then Waited Waited Waited a c d waited_then
    (tells_then Waited (TakesRewriting q (Ok None)) Waited a b c (waited_untaken q) p t) w

pub tells_taken : (q : ℕ) (taken : Rewriting) (a b c : Option HubState) → Tells Waited a b
    → Tells (TakesRewriting q (Ok (Some taken))) b c → Tells (TakesAtLast q (Ok taken)) a c
tells_taken q taken a b c p t =
    tells_then Waited (TakesRewriting q (Ok (Some taken))) (TakesAtLast q (Ok taken)) a b c
    (λ v w x wait take. takes_last q (Ok (Some taken)) (Ok taken) v w x (last_taken q taken) wait take) p t

pub tells_refused : (q : ℕ) (f : RewriteFault) (a b c : Option HubState) → Tells Waited a b
    → Tells (TakesRewriting q (Err f)) b c → Tells (TakesAtLast q (Err f)) a c
tells_refused q f a b c p t =
    tells_then Waited (TakesRewriting q (Err f)) (TakesAtLast q (Err f)) a b c
    (λ v w x wait take. takes_last q (Err f) (Err f) v w x (last_refused q f) wait take) p t

-- without a rewriter
rewrites_none : (j : Judged) (o : Option RewriteState) → false ≡ is_some o → RewritesBy j rewritten.Same o o
rewrites_none j None e = (refl, refl)
rewrites_none j (Some s) e = absurd cc

pub tells_none : (j : Judged) (a : Option HubState) → SaysRewriter false a → Tells (RewritesFor j rewritten.Same) a a
tells_none j None e = refl
tells_none j (Some v) e = (
  v,
  refl,
  record {
    adds = outside_none v.machine v.machine refl;
    kept = λ n b k. k;
    rewrites = rewrites_none j v.rewriter e;
    pools = refl;
  },
)

-- the question is not put: the rewriter has no number or no place for it, or there was no memory
unput_by : (j : Judged) (f : RewriteFault) (s : RewriteState) (o : Option RewriteFault) → ask_refusal s ≡ o
    → ((x : RewriteFault) → o ≡ Some x → unasked_of x ≡ rewritten.Same) → Refuses o f → ComesTo j (unasked_of f) s []
unput_by j f s None e k r = HadNoMemory refl (ap unasked_of r)
unput_by j f s (Some x) e k r = WasRefused x e refl (ap unasked_of r ∙ k x refl)

asked_for : (s : RewriteState) (x : RewriteFault) → ask_refusal s ≡ Some x → unasked_of x ≡ rewritten.Same
asked_for s x e = by (is_spent s.asked) (full s.stock) e
  where
    by : (a b : Bool)
        → (if a then Some (fault.Spent last_number) else (if b then Some fault.Full else None)) ≡ Some x
        → unasked_of x ≡ rewritten.Same
    by true b e = let is : fault.Spent last_number ≡ x = cc in ap unasked_of (sym is)
    by false true e = let is : fault.Full ≡ x = cc in ap unasked_of (sym is)
    by false false e = absurd cc

rewrites_unput : (j : Judged) (f : RewriteFault) (a b : Option RewriteState) → PutsBy j (Err f) a b
    → RewritesBy j (unasked_of f) a b
rewrites_unput j f None b p = let is : f ≡ fault.Full = let e = p.0 in cc in (ap unasked_of is, p.1)
rewrites_unput j f (Some s) b p = (
  [],
  unput_by j f s (ask_refusal s) refl (asked_for s) p.0,
  tt,
  p.1,
)

pub tells_unput : (j : Judged) (f : RewriteFault) (said : Rewritten) (a b : Option HubState) → said ≡ unasked_of f
    → Tells (Puts j (Err f)) a b → Tells (RewritesFor j said) a b
tells_unput j f said a b is p =
    subst (λ y. Tells (RewritesFor j y) a b) (sym is)
    (tells_as (Puts j (Err f)) (RewritesFor j (unasked_of f)) a b
    (λ v w put. record {
      adds = outside_none v.machine w.machine put.rest.machine;
      kept = λ n b e. ap (λ g. g n) (sym put.rest.begun) ∙ e;
      rewrites = rewrites_unput j f v.rewriter w.rewriter put.puts;
      pools = put.rest.pools;
    }) p)

-- what was taken of it is what becomes of the request
rewrites_taken : (j : Judged) (q : ℕ) (taken : Rewriting) (said : Rewritten) (a b c : Option RewriteState)
    → (MayBecome j.sight.request taken → said ≡ rewritten_of taken) → PutsBy j (Ok q) a b
    → TakesLast q (Ok taken) b c → RewritesBy j said a c
rewrites_taken j q taken said None b c is p t = absurd (let e = p.0 in cc)
rewrites_taken j q taken said (Some s) b c is p t =
    let u = subst (λ o. TakesLast q (Ok taken) o c) p.1 t in
    let first = puts_for j q ∷ [] in
    let calls = Took q taken ∷ (u.0 ++ first) in
    let same : after_calls u.0 (after (puts_for j q) s) ≡ after_calls (u.0 ++ first) s = calls_more s first u.0 in (
      calls,
      WasTaken (record {
        question = q;
        taken = taken;
        meanwhile = u.0;
        cut = refl;
        on = u.1;
        said_is = is (taken_fits s j.sight.request j.sight.addr q taken u.0 u.1 u.2.0);
      }),
      run_more s first (Took q taken ∷ u.0) (p.0, tt) u.2,
      u.3 ∙ ap (λ x. Some (after (Took q taken) x)) same,
    )

pub tells_rewritten : (j : Judged) (q : ℕ) (taken : Rewriting) (said : Rewritten) (a b c : Option HubState)
    → (MayBecome j.sight.request taken → said ≡ rewritten_of taken) → Tells (Puts j (Ok q)) a b
    → Tells (TakesAtLast q (Ok taken)) b c → Tells (RewritesFor j said) a c
tells_rewritten j q taken said a b c is p t =
    tells_then (Puts j (Ok q)) (TakesAtLast q (Ok taken)) (RewritesFor j said) a b c
    (λ v w x put take. record {
      adds = outside_then v.machine w.machine x.machine (outside_none v.machine w.machine put.rest.machine) take.adds;
      kept = λ n b e. ap (λ g. g n) (sym put.rest.begun) ∙ take.kept n b e;
      rewrites = rewrites_taken j q taken said v.rewriter w.rewriter x.rewriter is put.puts take.takes;
      pools = take.pools ∙ put.rest.pools;
    }) p t

-- a question that was put is known until it is taken
never_refused : (j : Judged) (q : ℕ) (f : RewriteFault) (a b c : Option RewriteState) → PutsBy j (Ok q) a b
    → TakesLast q (Err f) b c → ⊥
never_refused j q f None b c p t = absurd (let e = p.0 in cc)
never_refused j q f (Some s) b c p t =
    let u = subst (λ o. TakesLast q (Err f) o c) p.1 t in
    taken_known s j.sight.request j.sight.addr q f u.0 u.1 u.4

pub tells_never : (j : Judged) (q : ℕ) (f : RewriteFault) (said : Rewritten) (a b c : Option HubState)
    → Tells (Puts j (Ok q)) a b → Tells (TakesAtLast q (Err f)) b c → Tells (RewritesFor j said) a c
tells_never j q f said a b c p t =
    tells_then (Puts j (Ok q)) (TakesAtLast q (Err f)) (RewritesFor j said) a b c
    (λ v w x put take. absurd (never_refused j q f v.rewriter w.rewriter x.rewriter put.puts take.takes)) p t
