-- The acts after an entry: each lowers what is due, so that they come to an end,
-- and what stays with each act stays with all.
use Rattle.std.proofs.Common.{◌≡◌, ℕ, zero, suc, ◌+◌, ◌<◌, ◌≤◌, List, [], ◌∷◌, ◌++◌, length, map, Option, Some, None, refl, sym, ap, ap₂, subst, ◌∙◌, arith}
use Rattle.std.specs.List.{flat_map}
use Rattle.std.specs.Option.{option_map_or}
use Rattle.sq_machine.specs.declared.entries.Event.TheVariants.{Act}
use Rattle.sq_machine.specs.declared.entries.Told.{Told}
use Rattle.sq_machine.specs.declared.refusals.Refusal.{Refusal}
use Rattle.sq_rules.specs.Configurations.{Configuration, IsConfiguration}
use Rattle.sq_machine.specs.DueActs.{ClassId, Due, sends, starts, stops}
use Rattle.sq_machine.specs.Entries.{History, entry_at}
use Rattle.sq_machine.specs.Machine.{Legal, next}
use Rattle.sq_machine.specs.Next.{Next, gives, nothing, refuses}
use Rattle.sq_machine.specs.Marking.{marked}
use Rattle.sq_machine.specs.Marks.{Past, entries}
use Rattle.sq_machine.specs.Numbered.{below, picks}
use Rattle.sq_machine.specs.Processes.{proc_count, stop_due}
use Rattle.sq_machine.specs.Readings.{latest}
use Rattle.sq_model.specs.CheckRows.{Held}
use Rattle.sq_model.specs.Given.{EachOf}
use Rattle.sq_model.proofs.RowLaws.{picks_same}
use Rattle.sq_model.specs.Acts.{due_in, live_places_in, places_in}
use Rattle.sq_model.specs.Answers.{act_of, due_told}
use Rattle.sq_model.specs.Promises.{IsAnswered, StandsFor}
use Rattle.sq_model.specs.States.{IsSame, Stands, State, lives_with}
use Rattle.sq_model.proofs.ActNext.{act_next_is}
use Rattle.sq_model.proofs.ActPromises.{send_answered, start_answered, stop_answered}
use Rattle.sq_model.proofs.ActStands.{send_stands, start_stands, stop_stands}
use Rattle.sq_model.proofs.Lawful.{Lawful, lawful}
use Rattle.sq_model.proofs.PromiseLaws.{legal_more, next_now}
use Rattle.sq_engine.specs.Acting.{after_due}
use Rattle.sq_replay.specs.Dues.{NoneDue, dues, dues_at, dues_in, dues_of_row, state_at, total}
use Rattle.sq_replay.specs.RunText.{acted, acts, acts_upto}
use Rattle.sq_replay.proofs.DueLaws.{send_lowers, start_lowers, stop_lowers, total_same}

-- the state that a history comes to stands for it
pub state_stands : (configs : List Configuration) (m : Past) → Stands configs m (state_at configs m)
state_stands configs m = record {
  clients_are = λ c. refl;
  conns_are = refl;
  from_are = λ a. refl;
  checks_are = refl;
  asks_are = refl;
  puts_are = refl;
  current_is = refl;
  configs_are = λ e. refl;
  rows_are = λ e c. refl;
  procs_are = refl;
  homes_are = λ k. refl;
  stops_are = λ k. refl;
  latest_is = refl;
  offset_is = refl;
}

flat_same : (f g : ℕ → List ClassId) (xs : List ℕ) → ((e : ℕ) → f e ≡ g e) → flat_map f xs ≡ flat_map g xs
flat_same f g [] e = refl
flat_same f g (x ∷ xs) e = ap₂ (λ (a b : List ClassId). a ++ b) (e x) (flat_same f g xs e)

-- states with the same checks and configurations have the same classes of live epochs
places_like : (s t : State) → s.current ≡ t.current → s.checks ≡ t.checks → ((e : ℕ) → s.config e ≡ t.config e)
    → live_places_in s ≡ live_places_in t
places_like s t current checks configs =
    ap₂ (λ (n : ℕ) (rows : List Held). flat_map (places_in s) (picks (lives_with n rows) n)) current checks
    ∙ flat_same (places_in s) (places_in t) (picks (lives_with t.current t.checks) t.current)
    (λ e. ap (λ (o : Option Configuration). map (λ c. record { epoch = e; class = c })
    (below (option_map_or (λ config. length config.classes) o 0))) (configs e))

-- what is due of a state that stands for a history is due after the history
pub dues_are : (configs : List Configuration) (m : Past) (s : State) → Stands configs m s
    → dues_in s ≡ dues_in (state_at configs m)
dues_are configs m s st =
    let t = state_at configs m in
    let places : live_places_in s ≡ live_places_in t = places_like s t st.current_is st.checks_are st.configs_are in
    ap₂ (λ (a b : ℕ). a + b)
    (ap (λ (xs : List ℕ). length xs)
    (ap (picks s.stop) st.procs_are
    ∙ picks_same (stop_due (entries m)) s.stop (proc_count (entries m)) (λ k low high. st.stops_are k)))
    (ap (total (dues_at s)) places
    ∙ total_same (dues_at s) (dues_at t) (live_places_in t) (λ p. ap dues_of_row (st.rows_are p.epoch p.class)))

-- states that are the same have the same due
pub dues_same : (s t : State) → IsSame s t → dues_in s ≡ dues_in t
dues_same s t is =
    ap₂ (λ (a b : ℕ). a + b)
    (ap (λ (xs : List ℕ). length xs)
    (ap (picks s.stop) is.procs_are ∙ picks_same t.stop s.stop t.procs (λ k low high. is.stops_are k)))
    (ap (total (dues_at s)) (places_like s t is.current_is is.checks_are is.configs_are)
    ∙ total_same (dues_at s) (dues_at t) (live_places_in t) (λ p. ap dues_of_row (is.rows_are p.epoch p.class)))

after_lowers : (s : State) (d : Due) (now : ℕ) → due_in s ≡ Some d → dues_in (after_due d now s) < dues_in s
after_lowers s (stops k) now is = stop_lowers s k now is
after_lowers s (sends p x) now is = send_lowers s p x now is
after_lowers s (starts p) now is = start_lowers s p now is

-- a state that is the same as after the act that was due has less due: a loop of acts ends
pub due_lowers : (s t : State) (d : Due) (now : ℕ) → due_in s ≡ Some d → IsSame t (after_due d now s)
    → dues_in t < dues_in s
due_lowers s t d now is same = subst (λ (n : ℕ). n < dues_in s) (sym (dues_same t (after_due d now s) same))
    (after_lowers s d now is)

-- what is answered to the act that is due
pub due_answered : (configs : List Configuration) (h : History) (s : State) (now : ℕ) (d : Due) → StandsFor configs h s
    → latest h ≤ now → due_in s ≡ Some d
    → IsAnswered configs h now Act (due_told s d) (after_due d now s)
due_answered configs h s now (stops k) st late is = stop_answered configs h s now k st late is
due_answered configs h s now (sends p x) st late is = send_answered configs h s now p x st late is
due_answered configs h s now (starts p) st late is = start_answered configs h s now p st late is

-- and what then stands for the history
due_stands : (configs : List Configuration) (h : History) (s : State) (now : ℕ) (d : Due)
    → Lawful configs (marked configs h) → Stands configs (marked configs h) s → due_in s ≡ Some d
    → Stands configs (marked configs (entry_at now Act (due_told s d) ∷ h)) (after_due d now s)
due_stands configs h s now (stops k) law st is = stop_stands configs (marked configs h) s now k st
due_stands configs h s now (sends p x) law st is = send_stands configs (marked configs h) s now p x law st is
due_stands configs h s now (starts p) law st is = start_stands configs (marked configs h) s now p law st is

-- what is answered to an act after a history
due_told_is : (configs : List Configuration) (h : History)
    → next configs (marked configs h) (latest h) Act
    ≡ act_of (state_at configs (marked configs h)) (due_in (state_at configs (marked configs h)))
due_told_is configs h =
    next_now configs h (latest h) Act (omega arith)
    ∙ act_next_is configs (marked configs h) (state_at configs (marked configs h)) (latest h)
    (state_stands configs (marked configs h))

-- an act is never refused
act_unrefused : (configs : List Configuration) (h : History) (r : Refusal)
    → next configs (marked configs h) (latest h) Act ≡ refuses r → ⊥
act_unrefused configs h r is = by (due_in s) (sym (due_told_is configs h) ∙ is)
  where
    s : State
    s = state_at configs (marked configs h)

    by : (o : Option Due) → act_of s o ≡ refuses r → ⊥
    by None e = cc
    by (Some d) e = cc

-- each act lowers what is due
pub act_lowers : (configs : List Configuration) (h : History) (answer : Told) → EachOf IsConfiguration configs
    → Legal configs h
    → next configs (marked configs h) (latest h) Act ≡ gives answer
    → dues configs (entry_at (latest h) Act answer ∷ h) < dues configs h
act_lowers configs h answer good legal said = by (due_in s) refl told
  where
    s : State
    s = state_at configs (marked configs h)

    st : Stands configs (marked configs h) s
    st = state_stands configs (marked configs h)

    told : act_of s (due_in s) ≡ gives answer
    told = sym (due_told_is configs h) ∙ said

    by : (o : Option Due) → due_in s ≡ o → act_of s o ≡ gives answer
        → dues configs (entry_at (latest h) Act answer ∷ h) < dues configs h
    by None is e = absurd (cc)
    by (Some d) is e =
        let same : due_told s d ≡ answer = cc in
        let after = due_stands configs h s (latest h) d (lawful configs h good legal) st is in
        subst (λ (z : Told). dues configs (entry_at (latest h) Act z ∷ h) < dues configs h) same
        (subst (λ (n : ℕ). n < dues configs h)
        (dues_are configs (marked configs (entry_at (latest h) Act (due_told s d) ∷ h)) (after_due d (latest h) s)
        after)
        (after_lowers s d (latest h) is))

-- a legal history stays so with an act
pub act_legal : (configs : List Configuration) (h : History) (answer : Told)
    → next configs (marked configs h) (latest h) Act ≡ gives answer → Legal configs h
    → Legal configs (entry_at (latest h) Act answer ∷ h)
act_legal configs h answer said legal = legal_more configs h (latest h) Act answer legal refl refl (omega arith) said

-- what stays with each act stays with all
pub acts_keep : (configs : List Configuration) (P : History → Type 0)
    → ((h : History) (answer : Told) → next configs (marked configs h) (latest h) Act ≡ gives answer → P h
    → P (entry_at (latest h) Act answer ∷ h))
    → (k : ℕ) (h : History) → P h → P (acts_upto configs k h)
acts_keep configs P step zero h p = p
acts_keep configs P step (suc k) h p = by (next configs (marked configs h) (latest h) Act) refl
    (λ t q. acts_keep configs P step k t q)
  where
    by : (n : Next) → next configs (marked configs h) (latest h) Act ≡ n
        → ((t : History) → P t → P (acts_upto configs k t)) → P (acted (acts_upto configs k) h n)
    by (gives answer) is more = more (entry_at (latest h) Act answer ∷ h) (step h answer is p)
    by (refuses r) is more = p
    by nothing is more = p

-- how many acts there may be does not matter where they are enough
pub acts_enough : (configs : List Configuration) (j k : ℕ) (h : History) → EachOf IsConfiguration configs
    → Legal configs h → dues configs h ≤ j → dues configs h ≤ k
    → acts_upto configs j h ≡ acts_upto configs k h
acts_enough configs zero zero h good legal a b = refl
acts_enough configs zero (suc k) h good legal a b = by (next configs (marked configs h) (latest h) Act) refl
  where
    by : (n : Next) → next configs (marked configs h) (latest h) Act ≡ n → h ≡ acted (acts_upto configs k) h n
    by (gives answer) is = absurd (let l = act_lowers configs h answer good legal is in omega arith)
    by (refuses r) is = refl
    by nothing is = refl
acts_enough configs (suc j) zero h good legal a b = by (next configs (marked configs h) (latest h) Act) refl
  where
    by : (n : Next) → next configs (marked configs h) (latest h) Act ≡ n → acted (acts_upto configs j) h n ≡ h
    by (gives answer) is = absurd (let l = act_lowers configs h answer good legal is in omega arith)
    by (refuses r) is = refl
    by nothing is = refl
acts_enough configs (suc j) (suc k) h good legal a b =
    by (next configs (marked configs h) (latest h) Act) refl (λ t legal a b. acts_enough configs j k t good legal a b)
  where
    by : (n : Next) → next configs (marked configs h) (latest h) Act ≡ n
        → ((t : History) → Legal configs t → dues configs t ≤ j → dues configs t ≤ k
        → acts_upto configs j t ≡ acts_upto configs k t)
        → acted (acts_upto configs j) h n ≡ acted (acts_upto configs k) h n
    by (gives answer) is more =
        let l = act_lowers configs h answer good legal is in
        more (entry_at (latest h) Act answer ∷ h) (act_legal configs h answer is legal) (omega arith) (omega arith)
    by (refuses r) is more = refl
    by nothing is more = refl

-- after enough acts none is due
upto_none : (configs : List Configuration) (k : ℕ) (h : History) → EachOf IsConfiguration configs → Legal configs h
    → dues configs h ≤ k → NoneDue configs (acts_upto configs k h)
upto_none configs zero h good legal l = by (next configs (marked configs h) (latest h) Act) refl
  where
    by : (n : Next) → next configs (marked configs h) (latest h) Act ≡ n → NoneDue configs h
    by (gives answer) is = absurd (let lower = act_lowers configs h answer good legal is in omega arith)
    by (refuses r) is = absurd (act_unrefused configs h r is)
    by nothing is = is
upto_none configs (suc k) h good legal l = by (next configs (marked configs h) (latest h) Act) refl
    (λ t legal l. upto_none configs k t good legal l)
  where
    by : (n : Next) → next configs (marked configs h) (latest h) Act ≡ n
        → ((t : History) → Legal configs t → dues configs t ≤ k → NoneDue configs (acts_upto configs k t))
        → NoneDue configs (acted (acts_upto configs k) h n)
    by (gives answer) is more =
        let lower = act_lowers configs h answer good legal is in
        more (entry_at (latest h) Act answer ∷ h) (act_legal configs h answer is legal) (omega arith)
    by (refuses r) is more = absurd (act_unrefused configs h r is)
    by nothing is more = is

-- so none is due after the acts
pub acts_done : (configs : List Configuration) (h : History) → EachOf IsConfiguration configs → Legal configs h
    → NoneDue configs (acts configs h)
acts_done configs h good legal = upto_none configs (dues configs h) h good legal (omega arith)

-- where none is due, the history stays
pub acts_none : (configs : List Configuration) (h : History) → next configs (marked configs h) (latest h) Act ≡ nothing
    → acts configs h ≡ h
acts_none configs h is = by (dues configs h)
  where
    by : (k : ℕ) → acts_upto configs k h ≡ h
    by zero = refl
    by (suc k) = ap (acted (acts_upto configs k) h) is

-- where one is due, the history goes on with it
pub acts_some : (configs : List Configuration) (h : History) (answer : Told) → EachOf IsConfiguration configs
    → Legal configs h
    → next configs (marked configs h) (latest h) Act ≡ gives answer
    → acts configs h ≡ acts configs (entry_at (latest h) Act answer ∷ h)
acts_some configs h answer good legal is = by (dues configs h) (omega arith) (act_lowers configs h answer good legal is)
  where
    t : History
    t = entry_at (latest h) Act answer ∷ h

    by : (k : ℕ) → dues configs h ≤ k → dues configs t < k → acts_upto configs k h ≡ acts configs t
    by zero a l = absurd (omega arith)
    by (suc k) a l =
        ap (acted (acts_upto configs k) h) is
        ∙ acts_enough configs k (dues configs t) t good (act_legal configs h answer is legal) (omega arith)
        (omega arith)
