-- A class after a step of a check, and after events that change no class.
use Rattle.std.proofs.Common.{◌≡◌, ℕ, suc, ◌≤◌, List, [], ◌∷◌, ◌++◌, Bool, true, false, not, ◌&&◌, ◌||◌, ◌==◌, if◌then◌else◌, Option, Some, None, is_some, refl, ap, ap₂, ◌∙◌, arith}
use Rattle.std.specs.Option.{option_map_or, option_or}
use Rattle.sq_base.specs.declared.helpers.Answer.{Answer}
use Rattle.sq_machine.specs.declared.entries.Event.{Event}
use Rattle.sq_machine.specs.declared.entries.Event.TheVariants.{Step, Started, StartFail, Line, Died, Act, Reconfigure}
use Rattle.sq_machine.specs.declared.entries.Told.{Told}
use Rattle.sq_machine.specs.declared.entries.Told.TheVariants as told
use Rattle.sq_machine.specs.Checks.{ask_of}
use Rattle.sq_rules.specs.Classes.{Class}
use Rattle.sq_rules.specs.Configurations.{Configuration}
use Rattle.sq_machine.specs.Entries.{Noted}
use Rattle.sq_machine.specs.FarmReadings.{farm_with, is_held, is_put_for, is_queued, waiting_of}
use Rattle.sq_machine.specs.Farms.{Waiting}
use Rattle.sq_machine.specs.KeptLists.{CachedReplies, is_fault, to_front}
use Rattle.sq_machine.specs.KeptReadings.{after_took, kept}
use Rattle.sq_machine.specs.Marks.{Marked, Past, Put, entries}
use Rattle.sq_machine.specs.Numbered.{rows}
use Rattle.sq_machine.specs.OpenLookups.{LookupRow}
use Rattle.sq_machine.specs.Questions.{QuestionEnd, has_ended, put_count, put_of, sent_to}
use Rattle.sq_machine.specs.StepRule.{StepSays}
use Rattle.sq_model.specs.ClassRows.{ClassRow, class_row, is_asked, key_put, lookup_of, lookups, with_question}
use Rattle.sq_model.specs.StepRows.{after_says}
use Rattle.sq_model.specs.ClassChanges.{after_said, is_farm_act, touches_classes}
use Rattle.sq_model.specs.MarkedEntries.{noted_at, stepped_at}
use Rattle.sq_model.proofs.ClassParts.{and_true, itself, not_next, same_row}
use Rattle.sq_model.proofs.NumberLaws.{end_above, sent_above}
use Rattle.sq_model.proofs.RowLaws.{rows_next}

-- an event that changes no class
pub class_untouched : (configs : List Configuration) (m : Past) (now : ℕ) (event : Event) (answer : Told) (e c : ℕ)
    (class : Class) → touches_classes event ≡ false
    → class_row configs (noted_at now event answer ∷ m) e c class ≡ class_row configs m e c class
class_untouched configs m now (Step n) answer e c class t = absurd (cc)
class_untouched configs m now (Started f name) answer e c class t = absurd (cc)
class_untouched configs m now (StartFail f name) answer e c class t = absurd (cc)
class_untouched configs m now (Line k bytes) answer e c class t = absurd (cc)
class_untouched configs m now (Died k) answer e c class t = absurd (cc)
class_untouched configs m now Act answer e c class t = absurd (cc)
class_untouched configs m now (Reconfigure text) answer e c class t = absurd (cc)
class_untouched configs m now event answer e c class t = refl

-- an act that is no send and no start
pub class_stopped : (configs : List Configuration) (m : Past) (now : ℕ) (answer : Told) (e c : ℕ) (class : Class)
    → is_farm_act answer ≡ false
    → class_row configs (noted_at now Act answer ∷ m) e c class ≡ class_row configs m e c class
class_stopped configs m now (told.Send p q channel key) e c class t = absurd (cc)
class_stopped configs m now (told.Start f name) e c class t = absurd (cc)
class_stopped configs m now answer e c class t = refl

-- the entry of a step that says so
abbrev step_with : ℕ → ℕ → Told → Option Put → Option Answer → Marked
step_with now n answer p t = record {
  entry = record { moment = now; event = Step n; answer = answer };
  put = p;
  took = t;
}

-- the question that is put now, and those that were put before
pub put_new : (m : Past) (en : Noted) (p : Put) (t : Option Answer)
    → put_of (record { entry = en; put = Some p; took = t } ∷ m) (suc (put_count m)) ≡ Some p
put_new m en p t = ap (λ (b : Bool). option_or (if b then Some p else None) (put_of m (suc (put_count m))))
    (itself (suc (put_count m)))

-- a question that was put before is what it was
pub put_old : (m : Past) (en : Noted) (p : Put) (t : Option Answer) (k : ℕ) → k ≤ put_count m
    → put_of (record { entry = en; put = Some p; took = t } ∷ m) k ≡ put_of m k
put_old m en p t k high = ap (λ (b : Bool). option_or (if b then Some p else None) (put_of m k))
    (not_next k (put_count m) high)

asked_new : (configs : List Configuration) (m : Past) (now n : ℕ) (answer : Told) (p : Put) (t : Option Answer)
    (e c : ℕ) (b : Bool) → is_put_for e c (Some p) ≡ b
    → is_asked configs (step_with now n answer (Some p) t ∷ m) e c (suc (put_count m)) ≡ b
asked_new configs m now n answer p t e c b is =
    ap₂ (λ (o : Option Put) (z : Option QuestionEnd). is_put_for e c o && not (is_some z))
    (put_new m (step_with now n answer (Some p) t).entry p t)
    (end_above configs m (suc (put_count m)) (omega arith))
    ∙ and_true (is_put_for e c (Some p)) ∙ is

queued_new : (configs : List Configuration) (m : Past) (now n : ℕ) (answer : Told) (p : Put) (t : Option Answer)
    (e c : ℕ) (b : Bool) → is_put_for e c (Some p) ≡ b
    → is_queued configs (step_with now n answer (Some p) t ∷ m) e c (suc (put_count m)) ≡ b
queued_new configs m now n answer p t e c b is =
    ap (λ (o : Option Put). is_put_for e c o && not (is_some (sent_to m (suc (put_count m))))
    && not (has_ended configs m (suc (put_count m))))
    (put_new m (step_with now n answer (Some p) t).entry p t)
    ∙ ap₂ (λ (o : Option ℕ) (z : Option QuestionEnd). is_put_for e c (Some p) && not (is_some o) && not (is_some z))
    (sent_above m (suc (put_count m)) (omega arith))
    (end_above configs m (suc (put_count m)) (omega arith))
    ∙ twice (is_put_for e c (Some p)) ∙ is
  where
    twice : (b : Bool) → (b && true && true) ≡ b
    twice true = refl
    twice false = refl

-- the lookups, the queue and the hold after a question was put for a class, or for another
put_row : (configs : List Configuration) (m : Past) (now n : ℕ) (answer : Told) (p : Put) (t : Option Answer) (e c : ℕ)
    (class : Class) (b : Bool) → is_put_for e c (Some p) ≡ b
    → class_row configs (step_with now n answer (Some p) t ∷ m) e c class
    ≡ (let r : ClassRow = record (class_row configs m e c class)
    { kept = after_took (option_map_or (λ a. a.epoch == e) (ask_of (entries m) n) false) c t (kept configs m e c) } in
    if b then with_question (suc (put_count m)) p.key r else r)
put_row configs m now n answer p t e c class b is =
    same_row (class_row configs (x ∷ m) e c class)
    (made (if b then lookups configs m e c ++ lookup_of (x ∷ m) q ∷ [] else lookups configs m e c)
    (if b then queue ++ waiting_of (x ∷ m) q ∷ [] else queue) (if b then false else is_held m e c class.name)) refl
    (rows_next (lookup_of m) (lookup_of (x ∷ m)) (is_asked configs m e c) (is_asked configs (x ∷ m) e c) (put_count m) b
    (asked_new configs m now n answer p t e c b is)
    (λ k low high. ap (λ (o : Option Put). is_put_for e c o && not (has_ended configs m k))
    (put_old m x.entry p t k high))
    (λ k low high picked. ap (λ (o : Option Put). record { question = k; key = option_map_or (λ p. p.key) o [] })
    (put_old m x.entry p t k high)))
    (λ i. record (farm_with configs m e c class) {
      queue = rows_next (waiting_of m) (waiting_of (x ∷ m)) (is_queued configs m e c) (is_queued configs (x ∷ m) e c)
          (put_count m) b
          (queued_new configs m now n answer p t e c b is)
          (λ k low high. ap (λ (o : Option Put). is_put_for e c o && not (is_some (sent_to m k))
          && not (has_ended configs m k)) (put_old m x.entry p t k high))
          (λ k low high picked. ap (λ (o : Option Put). record { question = k; text = option_map_or (λ p. p.key) o [] })
          (put_old m x.entry p t k high)) i;
      held = (ap (λ (d : Bool). if d || false then false else is_held m e c class.name) is ∙ no_more b) i;
    })
    ∙ by b
  where
    x : Marked
    x = step_with now n answer (Some p) t

    q : ℕ
    q = suc (put_count m)

    queue : List Waiting
    queue = rows (waiting_of m) (is_queued configs m e c) (put_count m)

    taken : ClassRow
    taken = record (class_row configs m e c class)
        { kept = after_took (option_map_or (λ a. a.epoch == e) (ask_of (entries m) n) false) c t (kept configs m e c) }

    made : List LookupRow → List Waiting → Bool → ClassRow
    made ls ws h = record taken
        { lookups = ls; stock = record (farm_with configs m e c class) { queue = ws; held = h } }

    no_more : (d : Bool) → (if d || false then false else is_held m e c class.name)
        ≡ (if d then false else is_held m e c class.name)
    no_more true = refl
    no_more false = refl

    by : (b : Bool) → made (if b then lookups configs m e c ++ lookup_of (x ∷ m) q ∷ [] else lookups configs m e c)
        (if b then queue ++ waiting_of (x ∷ m) q ∷ [] else queue) (if b then false else is_held m e c class.name)
        ≡ (if b then with_question q p.key taken else taken)
    by true =
        ap (λ (o : Option Put). made
        (lookups configs m e c ++ record { question = q; key = option_map_or (λ p. p.key) o [] } ∷ [])
        (queue ++ record { question = q; text = option_map_or (λ p. p.key) o [] } ∷ []) false) (put_new m x.entry p t)
    by false = refl

stepped_by : (configs : List Configuration) (m : Past) (now n : ℕ) (answer : Told) (p : Option Put) (t : Option Answer)
    (e c : ℕ) (class : Class)
    → class_row configs (step_with now n answer p t ∷ m) e c class
    ≡ after_said (option_map_or (λ a. a.epoch == e) (ask_of (entries m) n) false) e c (put_count m)
    (record { answer = answer; put = p; took = t }) (class_row configs m e c class)
stepped_by configs m now n answer None t e c class = refl
stepped_by configs m now n answer (Some p) t e c class = put_row configs m now n answer p t e c class
    (is_put_for e c (Some p)) refl

-- each class after a step of check n, whatever it says
pub class_stepped : (configs : List Configuration) (m : Past) (now n : ℕ) (s : StepSays) (e c : ℕ) (class : Class)
    → class_row configs (stepped_at now n s ∷ m) e c class
    ≡ after_said (option_map_or (λ a. a.epoch == e) (ask_of (entries m) n) false) e c (put_count m) s
    (class_row configs m e c class)
class_stepped configs m now n s e c class = stepped_by configs m now n s.answer s.put s.took e c class

says_by : (e c count : ℕ) (answer : Told) (p : Option Put) (t : Option Answer) (r : ClassRow)
    → (is_some p ≡ true → is_put_for e c p ≡ true)
    → after_said true e c count (record { answer = answer; put = p; took = t }) r
    ≡ after_says c count (record { answer = answer; put = p; took = t }) r
says_by e c count answer None t r here = refl
says_by e c count answer (Some p) t r here =
    ap (λ (b : Bool). if b then with_question (suc count) p.key (record r { kept = after_took true c t r.kept })
    else record r { kept = after_took true c t r.kept }) (here refl)

-- the class that the step asked
pub class_asked : (configs : List Configuration) (m : Past) (now n : ℕ) (s : StepSays) (e c : ℕ) (class : Class)
    → option_map_or (λ a. a.epoch == e) (ask_of (entries m) n) false ≡ true
    → (is_some s.put ≡ true → is_put_for e c s.put ≡ true)
    → class_row configs (stepped_at now n s ∷ m) e c class
    ≡ after_says c (put_count m) s (class_row configs m e c class)
class_asked configs m now n s e c class here put =
    class_stepped configs m now n s e c class
    ∙ ap (λ (b : Bool). after_said b e c (put_count m) s (class_row configs m e c class)) here
    ∙ says_by e c (put_count m) s.answer s.put s.took (class_row configs m e c class) put

-- what a step takes is not of the class at place c
pub record TakesElsewhere (here : Bool) (c : ℕ) (t : Option Answer) : Type 0 where
  pub other : (a : Answer) → t ≡ Some a → (here && (a.class == c)) ≡ false

took_elsewhere : (here : Bool) (c : ℕ) (t : Option Answer) (k : CachedReplies) → TakesElsewhere here c t
    → after_took here c t k ≡ k
took_elsewhere here c None k o = refl
took_elsewhere here c (Some a) k o = by (o.other a refl)
  where
    by : (here && (a.class == c)) ≡ false
        → (if here && (a.class == c) && not (is_fault a.what) then to_front a.key k else k) ≡ k
    by e = left here (a.class == c) (not (is_fault a.what)) e
      where
        left : (x y z : Bool) → (x && y) ≡ false → (if x && y && z then to_front a.key k else k) ≡ k
        left true true z e = absurd (cc)
        left true false z e = refl
        left false y z e = refl

-- a class that the step did not ask
pub class_not_asked : (configs : List Configuration) (m : Past) (now n : ℕ) (s : StepSays) (e c : ℕ) (class : Class)
    → TakesElsewhere (option_map_or (λ a. a.epoch == e) (ask_of (entries m) n) false) c s.took
    → is_put_for e c s.put ≡ false
    → class_row configs (stepped_at now n s ∷ m) e c class ≡ class_row configs m e c class
class_not_asked configs m now n s e c class took put =
    class_stepped configs m now n s e c class
    ∙ ap (λ (b : Bool). if b then with_question (suc (put_count m)) (key_put s.put) r else r) put
    ∙ ap (λ (k : CachedReplies). record (class_row configs m e c class) { kept = k })
    (took_elsewhere (option_map_or (λ a. a.epoch == e) (ask_of (entries m) n) false) c s.took (kept configs m e c) took)
  where
    r : ClassRow
    r = record (class_row configs m e c class) {
      kept = after_took (option_map_or (λ a. a.epoch == e) (ask_of (entries m) n) false) c s.took
          (kept configs m e c);
    }
