-- What each change of an open check makes of its row, and that its stage stays sound.
use Rattle.std.proofs.Common.{◌≡◌, ◌∙◌, ◌+◌, ◌≤◌, ◌==◌, ◌++◌, ◌∷◌, [], true, false, ℕ, List, Option, None, Some, IfSome, IfOk, Result, Ok, Err, refl, ap, sym, subst, min, arith}
use Rattle.std.proofs.lemmas.List.{append-nil}
use Rattle.sq_base.specs.Distinct.{has_answer}
use Rattle.sq_base.specs.declared.helpers.Answer.{Answer}
use Rattle.sq_base.specs.declared.helpers.What.{What}
use Rattle.sq_rules.proofs.SightLaws.{over_unversioned}
use Rattle.sq_rules.specs.Configurations.{Configuration}
use Rattle.sq_rules.specs.Sights.{unversioned_sight}
use Rattle.sq_rules.specs.Verdicts.{pool_of, verdict_over}
use Rattle.sq_machine.specs.StepRule.{says_done}
use Rattle.sq_rules.specs.declared.outcomes.Outcome.{Outcome}
use Rattle.sq_rules.specs.declared.sights.Sight.{Sight}
use Rattle.sq_model.specs.CheckRows.{one_end, served, stepped}
use Rattle.sq_model.specs.StepRows.{question_told, told_of}
use Rattle.sq_model.specs.declared.stepping.StepEffect.{StepEffect}
use Rattle.sq_model.specs.declared.stepping.Stepped.{Stepped}
use Rattle.sq_model.specs.declared.stepping.Stepped.TheVariants as told
use Rattle.sq_rules.specs.declared.values.Value.{Value}
use Rattle.sq_rules.specs.declared.values.Value.TheVariants as value
use Rattle.sq_checks.specs.Positions.{look_limit}
use Rattle.sq_checks.specs.Givens.{leaves_over, looks_over}
use Rattle.sq_checks.specs.OpenChecks.{CheckParts, IsFit, answers_in, begun_parts, comes_to, ended_by, finished, is_need, noted, row, says_of, says_waits, settled, step_more, waited}
use Rattle.sq_checks.specs.Stages.{HasAsked, IsLooked, IsOf, IsStage, came_in, decided_in, ended_stage, given, is_done_in, is_idle, is_noted, is_settled, need_in, noted_stage, question_in}
use Rattle.sq_checks.specs.declared.stages.CheckStage.{CheckStage}
use Rattle.sq_checks.specs.declared.stages.CheckStage.TheVariants as stage

-- for a settled stage: no answer came
pub settled_came : (s : CheckStage) → is_settled s ≡ true → came_in s ≡ None
settled_came stage.Ready h = refl
settled_came (stage.Came a) h = absurd cc
settled_came (stage.Waits n) h = refl
settled_came (stage.Done o) h = refl

idle_came : (s : CheckStage) → is_idle s ≡ true → came_in s ≡ None
idle_came stage.Ready h = refl
idle_came (stage.Came a) h = absurd cc
idle_came (stage.Waits n) h = refl
idle_came (stage.Done o) h = absurd cc

idle_done : (s : CheckStage) → is_idle s ≡ true → is_done_in s ≡ false
idle_done stage.Ready h = refl
idle_done (stage.Came a) h = absurd cc
idle_done (stage.Waits n) h = refl
idle_done (stage.Done o) h = absurd cc

-- for a settled check: its answers are those that are put
pub settled_answers : (c : CheckParts) → is_settled c.stage ≡ true → answers_in c ≡ c.answers
settled_answers c h = rw (settled_came c.stage h) (append-nil c.answers)

-- for what a settled check comes to, over what it sees as it is
pub comes_settled : (c : CheckParts) → is_settled c.stage ≡ true → verdict_over c.answers c.config c.sight ≡ comes_to c
comes_settled c h =
    sym (over_unversioned c.answers c.config c.sight)
    ∙ ap (λ l. verdict_over l c.config (unversioned_sight c.sight)) (sym (settled_answers c h))

-- for a check that comes to a need: it is not done
pub need_idle : (c : CheckParts) → is_settled c.stage ≡ true → IsStage c.config c.sight c.answers c.stage → (v : Value)
    → v ≡ comes_to c → is_need v ≡ true → is_idle c.stage ≡ true
need_idle c h i v is n = by c.stage refl i h
  where
    by : (s : CheckStage) → c.stage ≡ s → IsStage c.config c.sight c.answers s → is_settled s ≡ true
        → is_idle c.stage ≡ true
    by stage.Ready e j k = ap is_idle e
    by (stage.Came a) e j k = absurd cc
    by (stage.Waits m) e j k = ap is_idle e
    by (stage.Done o) e j k =
        let known : v ≡ value.Verdict o = is
        ∙ ap (λ l. verdict_over l c.config (unversioned_sight c.sight)) (settled_answers c h) ∙ j in
        let none = rw known at n in
        absurd cc

-- for what follows from what an `Ok` says
pub ok_then : {A E : Type 0} (r : Result A E) (P Q : A → Type 0) → ((v : A) → P v → Q v) → IfOk r P → IfOk r Q
ok_then (Ok v) P Q f h = f v h
ok_then (Err e) P Q f h = tt

pub ok_then_both : {A E : Type 0} (r : Result A E) (P Q R : A → Type 0) → ((v : A) → P v → Q v → R v) → IfOk r P
    → IfOk r Q → IfOk r R
ok_then_both (Ok v) P Q R f h k = f v h k
ok_then_both (Err e) P Q R f h k = tt

-- for what holds whatever the answer is
pub always : {A E : Type 0} (r : Result A E) (P : Type 0) → P → IfOk r (λ v. P)
always (Ok v) P h = h
always (Err e) P h = tt

-- for a check whose answer is put among the others: its row stays
pub row_settled : (n : ℕ) (c : CheckParts) → row n (settled c) ≡ row n c
row_settled n c = by c.stage refl
  where
    by : (s : CheckStage) → c.stage ≡ s → row n (settled c) ≡ row n c
    by stage.Ready e = rw e refl
    by (stage.Came a) e = rw (e, append-nil (c.answers ++ a ∷ [])) refl
    by (stage.Waits k) e = rw e refl
    by (stage.Done o) e = rw e refl

noted_by : (n : ℕ) (c : CheckParts) (o : Option Answer) (t : Stepped) (class : ℕ) (key : List ℕ)
    → came_in c.stage ≡ None → is_done_in c.stage ≡ false → is_noted o t ≡ true
    → row n (record c { stage = noted_stage o (question_told t) class key; steps = step_more c.steps })
    ≡ stepped (record { answer = told_of [] t; put = None; took = o }) (row n c)
noted_by n c None (told.Took k) class key e d h = rw (e, d) (simp append-nil)
noted_by n c None (told.Waits q) class key e d h = rw (e, d) (simp append-nil)
noted_by n c None told.Done class key e d h = absurd cc
noted_by n c (Some a) (told.Took k) class key e d h = rw (e, d) (simp append-nil)
noted_by n c (Some a) (told.Waits q) class key e d h = absurd cc
noted_by n c (Some a) told.Done class key e d h = absurd cc

-- for a check after a step that asked: its row is stepped
pub row_noted : (n : ℕ) (c : CheckParts) (s : StepEffect) (class : ℕ) (key : List ℕ) → is_idle c.stage ≡ true
    → is_noted s.took s.stepped ≡ true
    → row n (noted s class key c) ≡ stepped (says_of s) (row n c)
row_noted n c s class key i h = noted_by n c s.took s.stepped class key (idle_came c.stage i) (idle_done c.stage i) h

-- for a check that waits, after a step in which it waited on
pub row_waited : (n q : ℕ) (c : CheckParts) → question_in c.stage ≡ Some q
    → row n (waited c) ≡ stepped (says_waits q) (row n c)
row_waited n q c e = by c.stage refl e
  where
    by : (s : CheckStage) → c.stage ≡ s → question_in s ≡ Some q
        → row n (waited c) ≡ stepped (says_waits q) (row n c)
    by stage.Ready is f = absurd cc
    by (stage.Came a) is f = absurd cc
    by (stage.Waits k) is f = let same : k.question ≡ q = cc in rw (is, same) (simp append-nil)
    by (stage.Done o) is f = absurd cc

-- for a check after a step that came to a verdict
pub row_finished : (n : ℕ) (c : CheckParts) (o : Outcome) → is_settled c.stage ≡ true
    → row n (finished o c) ≡ stepped says_done (row n c)
row_finished n c o h = rw (settled_came c.stage h) (simp append-nil)

-- for a check after the end of a question
pub row_ended : (n q : ℕ) (a : Answer) (w : What) (now : ℕ) (c : CheckParts) → IsFit q a w now c.stage
    → row n (ended_by q w now c) ≡ served (one_end q a) (row n c)
row_ended n q a w now c fit = by c.stage refl fit
  where
    by : (s : CheckStage) → c.stage ≡ s → IsFit q a w now s
        → row n (ended_by q w now c) ≡ served (one_end q a) (row n c)
    by stage.Ready e f = rw e refl
    by (stage.Came b) e f = rw e refl
    by (stage.Waits k) e f = (elim (k.question == q) as
        (λ y. (k.question == q) ≡ y → row n (ended_by q w now c) ≡ served (one_end q a) (row n c)) [
          | true ↦ λ t. let is : a ≡ given w now k = f t in rw (e, t, is) (simp append-nil)
          | false ↦ λ t. rw (e, t) refl
        ]) refl
    by (stage.Done o) e f = rw e refl

-- for the end of a question that comes twice
pub ended_twice : (q : ℕ) (w : What) (now : ℕ) (s : CheckStage)
    → ended_stage q w now (ended_stage q w now s) ≡ ended_stage q w now s
ended_twice q w now stage.Ready = refl
ended_twice q w now (stage.Came a) = refl
ended_twice q w now (stage.Waits k) = (elim (k.question == q) as
    (λ y. (k.question == q) ≡ y
    → ended_stage q w now (ended_stage q w now (stage.Waits k)) ≡ ended_stage q w now (stage.Waits k)) [
      | true ↦ λ t. rw t refl
      | false ↦ λ t. rw (t, t) refl
    ]) refl
ended_twice q w now (stage.Done o) = refl

-- for a stage after a step that asked: it is sound
pub noted_sound : (config : Configuration) (sight : Sight) (answers : List Answer) (o : Option Answer) (q : Option ℕ)
    (class : ℕ) (key : List ℕ)
    → has_answer answers class key ≡ false → IfSome o (λ a. (a.class ≡ class) × (a.key ≡ key))
    → IsStage config sight answers (noted_stage o q class key)
noted_sound config sight answers None None class key h f = tt
noted_sound config sight answers None (Some q) class key h f = h
noted_sound config sight answers (Some a) q class key h f = rw (f.0, f.1) h

-- for a stage after the end of a question: it is sound
pub ended_sound : (config : Configuration) (sight : Sight) (answers : List Answer) (q : ℕ) (w : What) (now : ℕ)
    (s : CheckStage) → IsStage config sight answers s
    → IsStage config sight answers (ended_stage q w now s)
ended_sound config sight answers q w now stage.Ready h = h
ended_sound config sight answers q w now (stage.Came a) h = h
ended_sound config sight answers q w now (stage.Waits k) h =
    (elim (k.question == q) as
    (λ y. (k.question == q) ≡ y → IsStage config sight answers (ended_stage q w now (stage.Waits k))) [
      | true ↦ λ t. rw t h
      | false ↦ λ t. rw t h
    ]) refl
ended_sound config sight answers q w now (stage.Done o) h = h

-- for an answer that came: it is of the acl for which was asked
pub came_asked : (config : Configuration) (sight : Sight) (asks : Option ℕ) (s : CheckStage) (a : Answer)
    → HasAsked config sight asks s → came_in s ≡ Some a
    → IfSome asks (λ acl. IsOf config sight acl a.class a.key)
came_asked config sight asks stage.Ready a h e = absurd cc
came_asked config sight asks (stage.Came b) a h e =
    let same : b ≡ a = cc in
    subst (λ (x : Answer). IfSome asks (λ acl. IsOf config sight acl x.class x.key)) same h
came_asked config sight asks (stage.Waits k) a h e = absurd cc
came_asked config sight asks (stage.Done o) a h e = absurd cc

-- for the looks of a check after a step that asked
pub noted_looked : (config : Configuration) (sight : Sight) (answers : List Answer) (looks : ℕ) (o : Option Answer)
    (q : Option ℕ) (class : ℕ) (key : List ℕ) → looks ≡ looks_over answers config sight
    → IsLooked config sight answers looks (noted_stage o q class key)
noted_looked config sight answers looks None None class key h = tt
noted_looked config sight answers looks None (Some q) class key h = h
noted_looked config sight answers looks (Some a) q class key h = h

-- for the looks of a check after the end of a question
pub ended_looked : (config : Configuration) (sight : Sight) (answers : List Answer) (looks q : ℕ) (w : What) (now : ℕ)
    (s : CheckStage) → IsLooked config sight answers looks s
    → IsLooked config sight answers looks (ended_stage q w now s)
ended_looked config sight answers looks q w now stage.Ready h = h
ended_looked config sight answers looks q w now (stage.Came a) h = h
ended_looked config sight answers looks q w now (stage.Waits k) h =
    (elim (k.question == q) as
    (λ y. (k.question == q) ≡ y → IsLooked config sight answers looks (ended_stage q w now (stage.Waits k))) [
      | true ↦ λ t. rw t h
      | false ↦ λ t. rw t h
    ]) refl
ended_looked config sight answers looks q w now (stage.Done o) h = h

-- where the looks are those over the answers, those of a run are none
still_looked : (config : Configuration) (sight : Sight) (answers : List Answer) (old new : ℕ)
    → old ≡ looks_over answers config sight → (k : ℕ) → new ≡ min look_limit (old + k)
    → new ≤ leaves_over answers config sight
    → new ≡ looks_over answers config sight
still_looked config sight answers old new h k more few =
    let was : old ≡ min look_limit (leaves_over answers config sight) = h in
    omega (arith, was, more, few)

-- for a check that is done, waits or was given an answer, and goes on: it looks at nothing
pub looked_on : (config : Configuration) (sight : Sight) (answers : List Answer) (old new : ℕ) (s : CheckStage)
    → IsLooked config sight answers old s → (k : ℕ) → new ≡ min look_limit (old + k)
    → new ≤ leaves_over answers config sight
    → IsLooked config sight answers new s
looked_on config sight answers old new stage.Ready h k more few = tt
looked_on config sight answers old new (stage.Came a) h k more few =
    still_looked config sight answers old new h k more few
looked_on config sight answers old new (stage.Waits n) h k more few =
    still_looked config sight answers old new h k more few
looked_on config sight answers old new (stage.Done o) h k more few =
    still_looked config sight answers old new h k more few

-- for what is waited for: the looks are those over the answers
pub need_looked : (config : Configuration) (sight : Sight) (answers : List Answer) (looks : ℕ) (s : CheckStage)
    → IsLooked config sight answers looks s
    → IfSome (need_in s) (λ n. looks ≡ looks_over answers config sight)
need_looked config sight answers looks stage.Ready i = tt
need_looked config sight answers looks (stage.Came a) i = tt
need_looked config sight answers looks (stage.Waits n) i = i
need_looked config sight answers looks (stage.Done o) i = tt

-- for an answer that came: it is new
pub came_new : (config : Configuration) (sight : Sight) (answers : List Answer) (s : CheckStage) (a : Answer)
    → IsStage config sight answers s → came_in s ≡ Some a
    → has_answer answers a.class a.key ≡ false
came_new config sight answers stage.Ready a i e = absurd cc
came_new config sight answers (stage.Came b) a i e = let same : a ≡ b = cc in rw same i
came_new config sight answers (stage.Waits k) a i e = absurd cc
came_new config sight answers (stage.Done o) a i e = absurd cc

-- for what is waited for: it is new
pub need_new : (config : Configuration) (sight : Sight) (answers : List Answer) (s : CheckStage)
    → IsStage config sight answers s
    → IfSome (need_in s) (λ n. has_answer answers n.class n.key ≡ false)
need_new config sight answers stage.Ready i = tt
need_new config sight answers (stage.Came a) i = tt
need_new config sight answers (stage.Waits n) i = i
need_new config sight answers (stage.Done o) i = tt

-- for an outcome that a step said: it is the verdict over what is seen as it is
pub decided_is : (config : Configuration) (sight : Sight) (answers : List Answer) (s : CheckStage)
    → IsStage config sight answers s
    → IfSome (decided_in s) (λ o. verdict_over answers config sight ≡ value.Verdict o)
decided_is config sight answers stage.Ready i = tt
decided_is config sight answers (stage.Came a) i = tt
decided_is config sight answers (stage.Waits n) i = tt
decided_is config sight answers (stage.Done o) i = sym (over_unversioned answers config sight) ∙ i

-- for what holds of a value that is there
pub found_has : {A : Type 0} (P : A → Type 0) (o : Option A) (x : A) → o ≡ Some x → IfSome o P → P x
found_has P None x e h = absurd cc
found_has P (Some y) x e h = let same : y ≡ x = cc in subst P same h

-- a check of these parts that was not stepped yet
abbrev pub parts_of : ℕ → ℕ → Configuration → Sight → Option ℕ → List Answer → ℕ → CheckParts
parts_of conn epoch config sight pool answers looks = record {
  conn = conn;
  epoch = epoch;
  config = config;
  sight = sight;
  pool = pool;
  answers = answers;
  stage = stage.Ready;
  looks = looks;
  steps = 0;
}

-- for a check that begins
pub begun_is : (conn epoch : ℕ) (config d : Configuration) (sight : Sight) (pool : Option ℕ) (answers : List Answer)
    (looks : ℕ) → config ≡ d → pool ≡ pool_of d sight → answers ≡ [] → looks ≡ 0
    → parts_of conn epoch config sight pool answers looks ≡ begun_parts conn epoch d sight
begun_is conn epoch config d sight pool answers looks is theirs none first =
    ap (λ c. parts_of conn epoch c sight pool answers looks) is
    ∙ ap (λ p. parts_of conn epoch d sight p answers looks) theirs
    ∙ ap (λ l. parts_of conn epoch d sight (pool_of d sight) l looks) none
    ∙ ap (parts_of conn epoch d sight (pool_of d sight) []) first
