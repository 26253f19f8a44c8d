-- Calls of a hub in memory, by those of its engine.
use Rattle.std.proofs.Common.{◌≡◌, ◌==◌, ℕ, ◌≤◌, List, ◌∷◌, ◌++◌, append-nil, not, Bool, true, false, if◌then◌else◌, max, Option, Some, None, option_map, Result, Ok, Err, OnErr, IfOk, refl, sym, subst, ap, ◌∙◌, arith}
use Rattle.std.proofs.lemmas.Option.{none-some}
use Rattle.sq_base.specs.Requests.{HttpRequest}
use Rattle.sq_model.specs.CheckRows.{Held, held_at}
use Rattle.sq_model.specs.declared.stepping.Stepped.{Stepped}
use Rattle.sq_model.specs.declared.stepping.Stepped.TheVariants as stepped
use Rattle.sq_rules.specs.Configurations.{Configuration}
use Rattle.sq_machine.specs.Entries.{History, entry_at}
use Rattle.sq_machine.specs.Machine.{next}
use Rattle.sq_machine.specs.Next.{gives, refuse_if, refuses}
use Rattle.sq_machine.specs.Marking.{marked}
use Rattle.sq_machine.specs.Marks.{entries}
use Rattle.sq_machine.specs.Readings.{latest}
use Rattle.sq_rules.specs.Verdicts.{pool_of}
use Rattle.sq_machine.specs.declared.entries.Event.{Event}
use Rattle.sq_machine.specs.declared.entries.Event.TheVariants as event
use Rattle.sq_machine.specs.declared.entries.Told.{Told}
use Rattle.sq_machine.specs.declared.entries.Told.TheVariants as told
use Rattle.sq_machine.specs.declared.refusals.Refusal.{Refusal}
use Rattle.sq_machine.specs.declared.refusals.Refusal.TheVariants as refusal
use Rattle.sq_checks.specs.OpenChecks.{CheckParts, row, rows_of}
use Rattle.sq_checks.specs.Records.{Judged, judged_of}
use Rattle.sq_checks.specs.Stages.{came_in, is_done_in, question_in}
use Rattle.sq_checks.specs.declared.stages.CheckStage.{CheckStage}
use Rattle.sq_checks.specs.declared.stages.CheckStage.TheVariants as stage
use Rattle.sq_checks.specs.Tables.{value_at}
use Rattle.sq_rules.specs.Sights.{unversioned_sight}
use Rattle.sq_rules.specs.declared.outcomes.Outcome.{Outcome}
use Rattle.std.specs.Option.{option_to_list}
use Rattle.sq_rewrite.specs.States.{RewriteState}
use Rattle.sq_turns.specs.Tellings.{DelayPools}
use Rattle.sq_model.specs.Answers.{take_answer, take_of_held}
use Rattle.sq_model.specs.Says.{outcome_in}
use Rattle.sq_model.specs.Promises.{IsAnswered, StandsFor}
use Rattle.sq_model.specs.States.{IsSame, State, is_of_pools, machine_moment}
use Rattle.sq_engine.proofs.TableLaws.{row_at_number}
use Rattle.sq_engine.specs.Begun as engine
use Rattle.sq_engine.specs.Begun.{Begun, HasBegun, begun_at, looked_more}
use Rattle.sq_engine.specs.Begun.{begun_of as begun_parts}
use Rattle.sq_engine.specs.EngineViews.{EngineView, state_of}
use Rattle.sq_engine.specs.Promised.{IsPromised}
use Rattle.sq_engine.specs.Stepping.{stepped_told}
use Rattle.sq_engine.specs.Tellings.{IsAlwaysTold}
use Rattle.sq_turns.specs.Tellings.{AreKept, Asks, BegunCheck, BeginsCheck, HubState, IsCheck, IsNext, IsOfCheck, IsOfRow, IsRefused, IsStep, IsTaken, IsTakenOf, Makes, MakesOn, Takes, asks_for, begun_of, machine_now, row_taken}
use Rattle.sq_turns.specs.declared.hub.HubFault.{HubFault}
use Rattle.sq_mem_hub.specs.MemHubs.{begun_in, check_of, hub_result, hub_state}

same_self : (s : State) → IsSame s s
same_self s = record {
  clients_are = λ c. refl;
  conns_are = refl;
  from_are = λ a. refl;
  checks_are = refl;
  asks_are = refl;
  puts_are = refl;
  current_is = refl;
  configs_are = λ e. refl;
  rows_are = λ e c. refl;
  procs_are = refl;
  homes_are = λ k. refl;
  stops_are = λ k. refl;
  latest_is = refl;
  offset_is = refl;
}

same_engine : (v w : EngineView) → w ≡ v → IsSame (state_of w) (state_of v)
same_engine v w e = subst (λ z. IsSame (state_of w) (state_of z)) e (same_self (state_of w))

-- a call that is refused leaves the engine
pub unmade : {A : Type 0} (r : Result A Refusal) (v w : EngineView) → OnErr r (w ≡ v)
    → OnErr r (IsSame (state_of w) (state_of v))
unmade (Ok a) v w e = e
unmade (Err why) v w e = same_engine v w e

-- a state that stands for a history with this entry is at its moment
late : (configs : List Configuration) (h : History) (t : State) (now : ℕ) (e : Event) (answer : Told)
    → is_of_pools e ≡ false → StandsFor configs (entry_at now e answer ∷ h) t → t.latest ≡ now
late configs h t now e answer other st = st.stands.latest_is
    ∙ ap (λ (b : Bool). if b then machine_moment (entries (marked configs h)) else now) other

-- what the engine promises is the machine's next answer
pub next_by : (s t : State) (moment : ℕ) (e : Event) (answer : Told) → is_of_pools e ≡ false
    → ((configs : List Configuration) (h : History) → StandsFor configs h s → latest h ≤ max moment s.latest
    → IsAnswered configs h (max moment s.latest) e answer t)
    → IsNext s (max moment s.latest) e answer t
next_by s t moment e answer other promised = record {
  gives = λ configs h st. (promised configs h st.stands (omega (arith, st.newest))).next_is;
  stands = λ configs h st.
      let there = (promised configs h st.stands (omega (arith, st.newest))).stands in
      let same = late configs h t (max moment s.latest) e answer other there in
      record { stands = there; newest = omega (arith, same) };
}

-- of a call that is refused
refused_by : (s : State) (moment : ℕ) (e : Event) (why : Refusal)
    → ((configs : List Configuration) (h : History) → StandsFor configs h s → latest h ≤ max moment s.latest
    → next configs (marked configs h) (max moment s.latest) e ≡ refuses why)
    → IsRefused s (max moment s.latest) e why
refused_by s moment e why promised = λ configs h st. promised configs h st.stands (omega (arith, st.newest))

-- a call of the machine, by what the engine promises
pub makes_by : {A : Type 0} (R : A → Told → Type 0) (tell : A → Told) (e : Event) (r : Result A Refusal)
    (v w : HubState) → is_of_pools e ≡ false → ((a : A) → R a (tell a))
    → IsPromised tell v.machine (machine_now v) e r w.machine → OnErr r (IsSame w.machine v.machine)
    → w.rewriter ≡ v.rewriter → w.pools ≡ v.pools → Makes R e (hub_result r) v w
makes_by R tell e (Ok a) v w other tells promised same left pools =
    record {
      answers = (tell a, tells a, next_by v.machine w.machine v.moment e (tell a) other promised);
      unmade = tt;
      rewriter = left;
      pools = pools;
    }
makes_by R tell e (Err (refusal.ConnInUse n)) v w other tells promised same left pools =
    record {
      answers = λ no. refused_by v.machine v.moment e (refusal.ConnInUse n) promised;
      unmade = same;
      rewriter = left;
      pools = pools;
    }
makes_by R tell e (Err (refusal.UnknownConn n)) v w other tells promised same left pools =
    record {
      answers = λ no. refused_by v.machine v.moment e (refusal.UnknownConn n) promised;
      unmade = same;
      rewriter = left;
      pools = pools;
    }
makes_by R tell e (Err (refusal.TooManyConns n)) v w other tells promised same left pools =
    record {
      answers = λ no. refused_by v.machine v.moment e (refusal.TooManyConns n) promised;
      unmade = same;
      rewriter = left;
      pools = pools;
    }
makes_by R tell e (Err (refusal.CheckOpen n)) v w other tells promised same left pools =
    record {
      answers = λ no. refused_by v.machine v.moment e (refusal.CheckOpen n) promised;
      unmade = same;
      rewriter = left;
      pools = pools;
    }
makes_by R tell e (Err (refusal.UnknownCheck n)) v w other tells promised same left pools =
    record {
      answers = λ no. refused_by v.machine v.moment e (refusal.UnknownCheck n) promised;
      unmade = same;
      rewriter = left;
      pools = pools;
    }
makes_by R tell e (Err (refusal.NotDone n)) v w other tells promised same left pools =
    record {
      answers = λ no. refused_by v.machine v.moment e (refusal.NotDone n) promised;
      unmade = same;
      rewriter = left;
      pools = pools;
    }
makes_by R tell e (Err (refusal.NoStartOpen k n)) v w other tells promised same left pools =
    record {
      answers = λ no. refused_by v.machine v.moment e (refusal.NoStartOpen k n) promised;
      unmade = same;
      rewriter = left;
      pools = pools;
    }
makes_by R tell e (Err (refusal.UnknownProc n)) v w other tells promised same left pools =
    record {
      answers = λ no. refused_by v.machine v.moment e (refusal.UnknownProc n) promised;
      unmade = same;
      rewriter = left;
      pools = pools;
    }
makes_by R tell e (Err (refusal.TooManyEpochs n)) v w other tells promised same left pools =
    record {
      answers = λ no. refused_by v.machine v.moment e (refusal.TooManyEpochs n) promised;
      unmade = same;
      rewriter = left;
      pools = pools;
    }
makes_by R tell e (Err (refusal.Spent n)) v w other tells promised same left pools =
    record {
      answers = λ no. refused_by v.machine v.moment e (refusal.Spent n) promised;
      unmade = same;
      rewriter = left;
      pools = pools;
    }
makes_by R tell e (Err refusal.WantOfMemory) v w other tells promised same left pools =
    record { answers = tt; unmade = same; rewriter = left; pools = pools }

-- what checks began with
kept_one : (old new : Option Begun) (b : BegunCheck) → ((x : Begun) → new ≡ Some x → old ≡ Some x)
    → option_map check_of new ≡ Some b → option_map check_of old ≡ Some b
kept_one old None b kept e = absurd (none-some b e)
kept_one old (Some x) b kept e = ap (option_map check_of) (kept x refl) ∙ e

pub kept_by : (old new : List (ℕ × CheckParts)) → engine.AreKept old new → AreKept (begun_in old) (begun_in new)
kept_by old new kept = λ n b e. kept_one (begun_at old n) (begun_at new n) b (λ x is. kept n x is) e

-- the same after a step, at which a check may have looked at more facts
looked_same : (a : Begun) (k : ℕ) (t : Bool) → check_of (if t then looked_more k a else a) ≡ check_of a
looked_same a k true = refl
looked_same a k false = refl

kept_one_but : (old new : Option Begun) (b : BegunCheck) (t : Bool)
    → ((x : Begun) → new ≡ Some x → (a : Begun) × (k : ℕ) × (old ≡ Some a)
    × (x ≡ (if t then looked_more k a else a))) → option_map check_of new ≡ Some b → option_map check_of old ≡ Some b
kept_one_but old None b t kept e = absurd (none-some b e)
kept_one_but old (Some x) b t kept e =
    let had = kept x refl in
    ap (option_map check_of) had.2 ∙ ap (λ c. Some c) (sym (looked_same had.0 had.1 t))
    ∙ ap (λ y. Some (check_of y)) (sym had.3) ∙ e

kept_by_but : (m : ℕ) (old new : List (ℕ × CheckParts)) → engine.AreKeptBut m old new
    → AreKept (begun_in old) (begun_in new)
kept_by_but m old new kept = λ n b e.
    kept_one_but (begun_at old n) (begun_at new n) b (m == n) (λ x is. kept n x is) e

pub kept_same : (old new : List (ℕ × CheckParts)) → new ≡ old → AreKept (begun_in old) (begun_in new)
kept_same old new e = λ n b is. subst (λ checks. begun_in checks n ≡ Some b) e is

-- a check that begins
pub begins_by : (n : ℕ) (config : Configuration) (r : HttpRequest) (old : List (ℕ × CheckParts)) (v w : EngineView)
    (rewriter : Option RewriteState) (pools : DelayPools) (moment : ℕ) → HasBegun n config r old w.checks
    → BeginsCheck r (Ok n) (hub_state w rewriter pools moment)
begins_by n config r old v w rewriter pools moment has = (
  check_of
      (record { config = config; sight = has.sight; pool = pool_of config has.sight; looks = 0 }),
  ap (option_map check_of) has.begun,
  has.request_is,
)

-- no check of this number is open
take_none : (s : State) (n : ℕ) (o : Option Held) (answer : Told) → o ≡ None → take_of_held s n o ≡ gives answer → ⊥
take_none s n o answer e h = let same : take_of_held s n None ≡ gives answer =
    subst (λ x. take_of_held s n x ≡ gives answer) e h in absurd (cc)

-- the record that is taken is that of the check
taken_from : (v : EngineView) (n : ℕ) (j : Judged) (o : Option CheckParts) → value_at v.checks n ≡ o
    → take_answer (state_of v) n ≡ gives (told.Judged j.epoch j.outcome)
    → ((k : CheckParts) → value_at v.checks n ≡ Some k → j ≡ judged_of n j.outcome k)
    → (j.check ≡ n) × (begun_in v.checks n ≡ Some (begun_of j))
taken_from v n j None at told_is rec = absurd
    (take_none (state_of v) n (held_at n (rows_of v.checks)) _ (row_at_number n v.checks ∙ ap (option_map (row n)) at)
    told_is)
taken_from v n j (Some k) at told_is rec =
    let is = rec k at in (
      ap (λ (x : Judged). x.check) is,
      ap (λ o. option_map check_of (option_map begun_parts o)) at ∙ ap (λ (x : Judged). Some (begun_of x)) (sym is),
    )

pub taken_by : (v : EngineView) (n : ℕ) (rewriter : Option RewriteState) (pools : DelayPools) (moment : ℕ)
    (r : Result Judged Refusal)
    → IsAlwaysTold (λ j. told.Judged j.epoch j.outcome) (take_answer (state_of v) n) r
    → IfOk r (λ j. (k : CheckParts) → value_at v.checks n ≡ Some k → j ≡ judged_of n j.outcome k)
    → IsOfCheck n (hub_result r) (hub_state v rewriter pools moment)
taken_by v n rewriter pools moment (Ok j) told_is rec = taken_from v n j (value_at v.checks n) refl told_is rec
taken_by v n rewriter pools moment (Err why) told_is rec = tt

-- only a check that is done is taken
done_taken : (s : State) (n : ℕ) (h : Held) (t : Told) (done : Bool) → h.done ≡ done
    → take_of_held s n (Some h) ≡ gives t → done ≡ true
done_taken s n h t true e is = refl
done_taken s n h t false e is =
    let same : refuses (refusal.NotDone n) ≡ gives t =
    subst
    (λ b. refuse_if (not b) (refusal.NotDone n) (gives (told.Judged h.asked.epoch (outcome_in s h))) ≡ gives t) e is in
    absurd (cc)

-- its row, by its stage, is that of its record
abbrev row_at_stage : ℕ → CheckParts → CheckStage → Held
row_at_stage n k s = record {
  number = n;
  asked = record { conn = k.conn; epoch = k.epoch; sight = unversioned_sight k.sight };
  waits = question_in s;
  answers = k.answers ++ option_to_list (came_in s);
  done = is_done_in s;
  steps = k.steps;
}

row_done : (n : ℕ) (o : Outcome) (k : CheckParts) (s : CheckStage) → is_done_in s ≡ true
    → row_at_stage n k s ≡ row_taken k.conn (judged_of n o k)
row_done n o k stage.Ready e = absurd (cc)
row_done n o k (stage.Came a) e = absurd (cc)
row_done n o k (stage.Waits q) e = absurd (cc)
row_done n o k (stage.Done p) e = ap (λ l. record {
  number = n;
  asked = record { conn = k.conn; epoch = k.epoch; sight = unversioned_sight k.sight };
  waits = None;
  answers = l;
  done = true;
  steps = k.steps;
}) (append-nil k.answers)

row_is_done : (n : ℕ) (o : Outcome) (k : CheckParts) → is_done_in k.stage ≡ true
    → row n k ≡ row_taken k.conn (judged_of n o k)
row_is_done n o k e = row_done n o k k.stage e

row_from : (v : EngineView) (n : ℕ) (j : Judged) (o : Option CheckParts) → value_at v.checks n ≡ o
    → take_answer (state_of v) n ≡ gives (told.Judged j.epoch j.outcome)
    → ((k : CheckParts) → value_at v.checks n ≡ Some k → j ≡ judged_of n j.outcome k)
    → IsTakenOf n j (rows_of v.checks)
row_from v n j None at told_is rec = absurd
    (take_none (state_of v) n (held_at n (rows_of v.checks)) _ (row_at_number n v.checks ∙ ap (option_map (row n)) at)
    told_is)
row_from v n j (Some k) at told_is rec =
    let there : held_at n (rows_of v.checks) ≡ Some (row n k) =
    row_at_number n v.checks ∙ ap (option_map (row n)) at in
    let done : is_done_in k.stage ≡ true = done_taken (state_of v) n (row n k) _ (is_done_in k.stage) refl
    (subst (λ x. take_of_held (state_of v) n x ≡ gives (told.Judged j.epoch j.outcome)) there told_is) in (
      k.conn,
      there
          ∙ ap (λ (h : Held). Some h)
          (row_is_done n j.outcome k done ∙ ap (λ (x : Judged). row_taken k.conn x) (sym (rec k at))),
    )

pub row_taken_by : (v : EngineView) (n : ℕ) (rewriter : Option RewriteState) (pools : DelayPools) (moment : ℕ)
    (r : Result Judged Refusal)
    → IsAlwaysTold (λ j. told.Judged j.epoch j.outcome) (take_answer (state_of v) n) r
    → IfOk r (λ j. (k : CheckParts) → value_at v.checks n ≡ Some k → j ≡ judged_of n j.outcome k)
    → IsOfRow n (hub_result r) (hub_state v rewriter pools moment)
row_taken_by v n rewriter pools moment (Ok j) told_is rec = row_from v n j (value_at v.checks n) refl told_is rec
row_taken_by v n rewriter pools moment (Err why) told_is rec = tt

-- how a step is told
pub step_tells : (s : State) (e : ℕ) (a : Stepped) → IsStep a (stepped_told s e a)
step_tells s e (stepped.Took class) = (_, refl)
step_tells s e (stepped.Waits question) = refl
step_tells s e stepped.Done = refl

-- a question
begins_so : (x : Result ℕ Refusal) (config : Configuration) (r : HttpRequest) (old : List (ℕ × CheckParts))
    (v w : EngineView) (rewriter : Option RewriteState) (pools : DelayPools) (moment : ℕ)
    → IfOk x (λ n. HasBegun n config r old w.checks)
    → BeginsCheck r (hub_result x) (hub_state w rewriter pools moment)
begins_so (Ok n) config r old v w rewriter pools moment has = begins_by n config r old v w rewriter pools moment has
begins_so (Err why) config r old v w rewriter pools moment has = tt

pub asks_by : (conn : ℕ) (r : HttpRequest) (x : Result ℕ Refusal) (f : Result ℕ HubFault) (v w : EngineView)
    (rewriter : Option RewriteState) (pools : DelayPools) (moment : ℕ) → f ≡ hub_result x
    → IsPromised (λ n. told.Check n) (state_of v) (max moment v.latest) (asks_for conn r) x (state_of w)
    → OnErr x (w ≡ v) → IfOk x (λ n. HasBegun n v.setup r v.checks w.checks)
    → Asks conn r f (hub_state v rewriter pools moment) (hub_state w rewriter pools moment)
asks_by conn r x f v w rewriter pools moment is promised same has =
    subst (λ y. Asks conn r y (hub_state v rewriter pools moment) (hub_state w rewriter pools moment)) (sym is)
    (record {
      makes = makes_by IsCheck (λ n. told.Check n) (asks_for conn r) x (hub_state v rewriter pools moment)
          (hub_state w rewriter pools moment) refl (λ n. refl) promised (unmade x v w same) refl refl;
      begins = begins_so x v.setup r v.checks v w rewriter pools moment has;
    })

-- a step
pub steps_by : (n k : ℕ) (x : Result Stepped Refusal) (f : Result Stepped HubFault) (v w : EngineView)
    (rewriter : Option RewriteState) (pools : DelayPools)
    (moment : ℕ) → f ≡ hub_result x
    → IsPromised (stepped_told (state_of v) k) (state_of v) (max moment v.latest) (event.Step n) x (state_of w)
    → OnErr x (IsSame (state_of w) (state_of v)) → engine.AreKeptBut n v.checks w.checks
    → MakesOn IsStep (event.Step n) f (hub_state v rewriter pools moment) (hub_state w rewriter pools moment)
steps_by n k x f v w rewriter pools moment is promised same kept =
    subst (λ y. MakesOn IsStep (event.Step n) y (hub_state v rewriter pools moment) (hub_state w rewriter pools moment))
    (sym is)
    (record {
      makes = makes_by IsStep (stepped_told (state_of v) k) (event.Step n) x (hub_state v rewriter pools moment)
          (hub_state w rewriter pools moment) refl (step_tells (state_of v) k) promised same refl refl;
      kept = kept_by_but n v.checks w.checks kept;
    })

-- the taking of a record
pub takes_by : (n : ℕ) (x : Result Judged Refusal) (f : Result Judged HubFault) (v w : EngineView)
    (rewriter : Option RewriteState) (pools : DelayPools)
    (moment : ℕ) → f ≡ hub_result x
    → IsAlwaysTold (λ j. told.Judged j.epoch j.outcome) (take_answer (state_of v) n) x
    → IfOk x (λ j. (k : CheckParts) → value_at v.checks n ≡ Some k → j ≡ judged_of n j.outcome k)
    → IsPromised (λ j. told.Judged j.epoch j.outcome) (state_of v) (max moment v.latest) (event.Take n) x (state_of w)
    → OnErr x (w ≡ v) → engine.AreKept v.checks w.checks
    → Takes n f (hub_state v rewriter pools moment) (hub_state w rewriter pools moment)
takes_by n x f v w rewriter pools moment is told_is rec promised same kept =
    subst (λ y. Takes n y (hub_state v rewriter pools moment) (hub_state w rewriter pools moment)) (sym is)
    (record {
      makes = record {
        makes = makes_by IsTaken (λ j. told.Judged j.epoch j.outcome) (event.Take n) x
            (hub_state v rewriter pools moment)
            (hub_state w rewriter pools moment) refl (λ j. refl) promised (unmade x v w same) refl refl;
        kept = kept_by v.checks w.checks kept;
      };
      of_check = taken_by v n rewriter pools moment x told_is rec;
      of_row = row_taken_by v n rewriter pools moment x told_is rec;
    })
