-- Events that come to the machine while a check waits.
use Rattle.std.proofs.Common.{◌≡◌, ℕ, ◌≤◌, List, [], ◌∷◌, ◌++◌, Bool, true, false, ◌&&◌, max, Option, Some, None, Result, Ok, Err, OnErr, OnOk, IfOk, IfErr, IfSome, MatchOption, option_map, refl, sym, subst, ap, ◌∙◌, arith, append_assoc}
use Rattle.std.specs.List.{list_all}
use Rattle.std.proofs.lemmas.List.Folds.{list_all-append}
use Rattle.sq_rules.specs.Configurations.{Configuration}
use Rattle.sq_machine.specs.DueActs.{ClassId}
use Rattle.sq_machine.specs.Entries.{History, entry_at}
use Rattle.sq_machine.specs.Marking.{marked}
use Rattle.sq_machine.specs.Readings.{latest}
use Rattle.sq_machine.specs.declared.entries.Event.{Event}
use Rattle.sq_machine.specs.declared.entries.Event.TheVariants as event
use Rattle.sq_machine.specs.declared.entries.Told.{Told}
use Rattle.sq_machine.specs.declared.refusals.Refusal.{Refusal}
use Rattle.sq_machine.specs.declared.acts.Act.{Act}
use Rattle.sq_turns.proofs.WorkLaws.{works_same, works_self, works_then}
use Rattle.sq_rewrite.specs.Calls.{Call, Asked, Acted, Took}
use Rattle.sq_rewrite.specs.States.{Answers, Refuses, RewriteState, act_due, after, ask_refusal, is_of_processes, row_at, take_refusal, taken_of}
use Rattle.sq_rewrite.specs.declared.acts.RewriteAct.{RewriteAct}
use Rattle.sq_rewrite.specs.declared.faults.RewriteFault.{RewriteFault}
use Rattle.sq_rewrite.specs.declared.rewritings.Rewriting.{Rewriting}
use Rattle.sq_rules.specs.declared.sights.Sight.{Sight}
use Rattle.sq_checks.specs.Records.{Judged}
use Rattle.sq_turns.specs.Tellings.{DelayPools}
use Rattle.sq_model.proofs.Lawful.{stands_same}
use Rattle.sq_model.specs.Answers.{name_in}
use Rattle.sq_model.specs.Promises.{IsAnswered, StandsFor}
use Rattle.sq_model.specs.States.{IsSame, is_of_pools}
use Rattle.sq_engine.specs.Acting.{IsActPromised, told_of_act}
use Rattle.sq_engine.specs.EngineViews.{EngineView, state_of}
use Rattle.sq_engine.specs.Promised.{IsPromised, IsPromisedAt}
use Rattle.sq_turns.specs.Tellings.{AreKept, HubState, PutsBy, StandsAt, TakesBy, Waited, Works, comes_outside, is_outside}
use Rattle.sq_mem_hub.specs.MemHubs.{WorksOn, begun_in, hub_state}
use Rattle.sq_mem_hub.proofs.CallLaws.{kept_same, next_by}

both : (a b : Bool) → a ≡ true → b ≡ true → (a && b) ≡ true
both true true p q = refl
both true false p q = q
both false b p q = absurd (cc)

-- nothing came
pub waited_self : (v : HubState) → Waited v v
waited_self v = record
    { adds = λ configs h st. ([], refl, st); kept = λ n b e. e; works = works_self v.rewriter; pools = refl }

-- and more came
pub waited_then : (v w x : HubState) → Waited v w → Waited w x → Waited v x
waited_then v w x one other = record {
  adds = λ configs h st.
      let first = one.adds configs h st in
      let more = other.adds configs (first.0 ++ h) first.2 in (
        more.0 ++ first.0,
        list_all-append is_outside more.0 first.0
            ∙ both (list_all is_outside more.0) (list_all is_outside first.0) more.1 first.1,
        subst (λ l. StandsAt configs l x.machine) (sym (append_assoc (more.0) (first.0) (h))) more.2,
      );
  kept = λ n b e. one.kept n b (other.kept n b e);
  works = works_then v.rewriter w.rewriter x.rewriter one.works other.works;
  pools = other.pools ∙ one.pools;
}

-- one event that was answered
one_event : (v w : EngineView) (rewriter : Option RewriteState) (pools : DelayPools) (moment : ℕ) (e : Event)
    (answer : Told) → comes_outside e ≡ true
    → is_of_pools e ≡ false → AreKept (begun_in v.checks) (begun_in w.checks)
    → ((configs : List Configuration) (h : History) → StandsFor configs h (state_of v) → latest h ≤ max moment v.latest
    → IsAnswered configs h (max moment v.latest) e answer (state_of w))
    → Waited (hub_state v rewriter pools moment) (hub_state w rewriter pools moment)
one_event v w rewriter pools moment e answer outside other kept promised = record {
  adds = λ configs h st.
      let next = next_by (state_of v) (state_of w) moment e answer other promised in (
        entry_at (max moment v.latest) e answer ∷ [],
        both (comes_outside e) true outside refl,
        next.stands configs h st,
      );
  kept = kept;
  works = works_self rewriter;
  pools = refl;
}

-- one that was not made
no_event : (v w : EngineView) (rewriter : Option RewriteState) (pools : DelayPools) (moment : ℕ)
    → AreKept (begun_in v.checks) (begun_in w.checks)
    → IsSame (state_of w) (state_of v) → Waited (hub_state v rewriter pools moment) (hub_state w rewriter pools moment)
no_event v w rewriter pools moment kept same = record {
  adds = λ configs h st. (
    [],
    refl,
    record {
      stands = record {
        good = st.stands.good;
        legal = st.stands.legal;
        sourced = st.stands.sourced;
        stands = stands_same configs (marked configs h) (state_of v) (state_of w) same st.stands.stands;
      };
      newest = omega (arith, same.latest_is, st.newest);
    },
  );
  kept = kept;
  works = works_self rewriter;
  pools = refl;
}

-- an act
pub waited_act : (v w : EngineView) (rewriter : Option RewriteState) (pools : DelayPools) (moment : ℕ) (a : Act)
    → w.checks ≡ v.checks
    → IsActPromised (state_of v) (max moment v.latest) (Some a) (state_of w)
    → Waited (hub_state v rewriter pools moment) (hub_state w rewriter pools moment)
waited_act v w rewriter pools moment a checks promised =
    one_event v w rewriter pools moment event.Act (told_of_act (state_of v) a) refl refl
    (kept_same v.checks w.checks checks)
    promised

-- a call for a process
pub waited_by : {A : Type 0} (tell : A → Told) (v w : EngineView) (rewriter : Option RewriteState) (pools : DelayPools)
    (moment : ℕ) (e : Event)
    (r : Result A Refusal) → comes_outside e ≡ true → is_of_pools e ≡ false
    → AreKept (begun_in v.checks) (begun_in w.checks)
    → IsPromised tell (state_of v) (max moment v.latest) e r (state_of w) → OnErr r (IsSame (state_of w) (state_of v))
    → Waited (hub_state v rewriter pools moment) (hub_state w rewriter pools moment)
waited_by tell v w rewriter pools moment e (Ok a) outside other kept promised same =
    one_event v w rewriter pools moment e (tell a) outside other kept promised
waited_by tell v w rewriter pools moment e (Err why) outside other kept promised same = no_event v w rewriter pools
    moment kept same

-- a start
pub waited_start : {A : Type 0} (tell : A → Told) (v w : EngineView) (rewriter : Option RewriteState)
    (pools : DelayPools) (moment : ℕ) (p : ClassId)
    (r : Result A Refusal) → AreKept (begun_in v.checks) (begun_in w.checks)
    → IsPromisedAt tell (state_of v) (max moment v.latest) event.Started p r (state_of w)
    → OnErr r (IsSame (state_of w) (state_of v))
    → Waited (hub_state v rewriter pools moment) (hub_state w rewriter pools moment)
waited_start tell v w rewriter pools moment p (Ok a) kept promised same =
    one_event v w rewriter pools moment (event.Started p.epoch (name_in (state_of v) p)) (tell a) refl refl kept
    promised
waited_start tell v w rewriter pools moment p (Err why) kept promised same = no_event v w rewriter pools moment kept
    same

-- calls came to the rewriter alone
pub waited_works : (v : EngineView) (a b : Option RewriteState) (pools : DelayPools) (moment : ℕ) → Works a b
    → Waited (hub_state v a pools moment) (hub_state v b pools moment)
waited_works v a b pools moment works = record {
  adds = λ configs h st. ([], refl, st);
  kept = λ n c e. e;
  works = works;
  pools = refl;
}

-- no call of its processes came
pub works_on_same : (s t : RewriteState) → t ≡ s → WorksOn s t
works_on_same s t e = record { works = works_same (Some s) (Some t) (ap (λ x. Some x) e) }

-- and more came
pub works_on_then : (s t u : RewriteState) → WorksOn s t → WorksOn t u → WorksOn s u
works_on_then s t u one other =
    record { works = works_then (Some s) (Some t) (Some u) one.works other.works }

pub works_on_before : (s t u : RewriteState) → u ≡ t → WorksOn s t → WorksOn s u
works_on_before s t u e one = subst (WorksOn s) (sym e) one

-- a call of its processes, if it was not refused
pub works_call : {A : Type 0} (e : A → Call) (r : Result A RewriteFault) (s t : RewriteState)
    → ((a : A) → is_of_processes (e a) ≡ true) → IfOk r (λ a. Answers (e a) s) → IfOk r (λ a. t ≡ after (e a) s)
    → OnErr r (t ≡ s) → WorksOn s t
works_call e (Ok a) s t of answers ok err = record {
  works = (e a ∷ [], both (is_of_processes (e a)) true (of a) refl, (answers, tt), ap (λ x. Some x) ok);
}
works_call e (Err f) s t of answers ok err = works_on_same s t err

-- a call without a value
pub works_done : {E : Type 0} (e : Call) (r : Result (Unit {0}) E) (s t : RewriteState)
    → is_of_processes e ≡ true → OnOk r (Answers e s) → OnOk r (t ≡ after e s) → OnErr r (t ≡ s) → WorksOn s t
works_done e (Ok u) s t of answers ok err = record {
  works = (e ∷ [], both (is_of_processes e) true of refl, (answers, tt), ap (λ x. Some x) ok);
}
works_done e (Err f) s t of answers ok err = works_on_same s t err

-- an act that is due
pub works_act : (a : RewriteAct) (s t : RewriteState) → act_due s ≡ Some a → t ≡ after (Acted a) s → WorksOn s t
works_act a s t due is = record { works = (Acted a ∷ [], refl, (due, tt), ap (λ x. Some x) is) }

-- a question that is put
pub puts_call : (j : Judged) (x : Sight) (r : Result ℕ RewriteFault) (s t : RewriteState) → x ≡ j.sight
    → IfErr r (Refuses (ask_refusal s)) → IfOk r (λ q. Answers (Asked x.request x.addr q) s)
    → IfOk r (λ q. t ≡ after (Asked x.request x.addr q) s) → OnErr r (t ≡ s) → PutsBy j r (Some s) (Some t)
puts_call j x (Ok q) s t is refused answers ok err = (
  subst (λ (y : Sight). Answers (Asked y.request y.addr q) s) is answers,
  ap (λ z. Some z) (ok ∙ ap (λ (y : Sight). after (Asked y.request y.addr q) s) is),
)
puts_call j x (Err f) s t is refused answers ok err = (refused, ap (λ z. Some z) err)

-- what a question came to is taken
pub takes_call : (q : ℕ) (r : Result (Option Rewriting) RewriteFault) (s t : RewriteState)
    → IfErr r (λ e. take_refusal q s ≡ Some e) → IfOk r (λ o. option_map taken_of (row_at q s.rows) ≡ Some o)
    → IfOk r (λ o. IfSome o (λ w. Answers (Took q w) s))
    → IfOk r (λ o. MatchOption o (t ≡ s) (λ w. t ≡ after (Took q w) s)) → OnErr r (t ≡ s)
    → TakesBy q r (Some s) (Some t)
takes_call q (Ok None) s t refused row answers ok err = (row, ap (λ z. Some z) ok)
takes_call q (Ok (Some w)) s t refused row answers ok err = (answers, ap (λ z. Some z) ok)
takes_call q (Err f) s t refused row answers ok err = (refused, ap (λ z. Some z) err)
