-- What the questions that a failed start ends give to the checks that wait for them, by the class's row.
use Rattle.std.proofs.Common.{◌≡◌, ℕ, zero, suc, ◌<◌, ◌≤◌, List, [], ◌∷◌, map, Bool, true, false, not, ◌&&◌, ◌==◌, nat_le, bytes_eq, if◌then◌else◌, Option, Some, None, is_some, option_and_then, refl, sym, ap, ap₂, ◌∙◌, arith}
use Rattle.std.specs.Option.{option_map, option_map_or, option_or}
use Rattle.std.proofs.lemmas.Bool.{and_left, and_right}
use Rattle.std.proofs.lemmas.Bool.Decides.{nat_tests}
use Rattle.std.proofs.lemmas.Option.{none-some}
use Rattle.sq_base.specs.declared.helpers.Answer.{Answer}
use Rattle.sq_base.specs.declared.helpers.Cause.TheVariants as cause
use Rattle.sq_base.specs.declared.helpers.What.{What}
use Rattle.sq_base.specs.declared.helpers.What.TheVariants as what
use Rattle.sq_machine.specs.declared.entries.Event.TheVariants.{StartFail}
use Rattle.sq_machine.specs.declared.entries.Told.{Told}
use Rattle.sq_machine.specs.AnswerReadings.{answer_by, last_wait}
use Rattle.sq_machine.specs.Checks.{ask_count, check_open, numbered}
use Rattle.sq_rules.specs.Classes.{Class}
use Rattle.sq_rules.specs.Configurations.{Configuration}
use Rattle.sq_machine.specs.Epochs.{class_at, name_of_class}
use Rattle.sq_machine.specs.FarmReadings.{farm_with, is_put_for, is_queued, waiting_of}
use Rattle.sq_machine.specs.Farms.{Waiting, is_last_start}
use Rattle.sq_machine.specs.Marks.{Past, Put, entries}
use Rattle.sq_machine.specs.Numbered.{picks}
use Rattle.sq_machine.specs.OpenLookups.{LookupRow, key_of}
use Rattle.sq_machine.specs.Processes.{if_here, starting}
use Rattle.sq_machine.specs.Questions.{has_ended, leaves_none, put_count, put_of, sent_to, unended}
use Rattle.sq_model.specs.CheckRows.{Ends, Held, after_ends, ends_at, held_checks, held_of, served, served_by}
use Rattle.sq_model.specs.ClassRows.{class_row, is_asked, is_waiting, lookup_of, lookups}
use Rattle.sq_model.specs.Carried.{NamesOnce}
use Rattle.sq_model.specs.MarkedEntries.{noted_at}
use Rattle.sq_model.proofs.CheckLaws.{answer_by_none}
use Rattle.sq_model.proofs.ClassParts.{IsPutFor, bytes_itself, equal, itself, put_for, put_named}
use Rattle.sq_model.proofs.FailLaws.{last_start}
use Rattle.sq_model.proofs.NumberLaws.{put_of_above}
use Rattle.sq_model.proofs.PutLaws.{PutsStand}
use Rattle.sq_model.proofs.RowLaws.{picked, picked_given, row_among, row_found}
use Rattle.sq_model.specs.Changes.{end_answer, is_stranded, row_ends}

-- checks wait for questions that have not ended, so only what these give is taken
pub ends_open : (configs : List Configuration) (m : Past) (ends other : Ends)
    → ((q : ℕ) → has_ended configs m q ≡ false → ends q ≡ other q)
    → after_ends ends (held_checks configs m) ≡ after_ends other (held_checks configs m)
ends_open configs m ends other same = each (picks (check_open (entries m)) (ask_count (entries m)))
  where
    given : (q : ℕ) (b : Bool) → has_ended configs m q ≡ b
        → option_and_then ends (if b then None else Some q) ≡ option_and_then other (if b then None else Some q)
    given q true is = refl
    given q false is = same q is

    by : (o : Option ℕ) → option_and_then ends (unended configs m o) ≡ option_and_then other (unended configs m o)
    by None = refl
    by (Some q) = given q (has_ended configs m q) refl

    each : (xs : List ℕ)
        → map (served ends) (map (held_of configs m) xs) ≡ map (served other) (map (held_of configs m) xs)
    each [] = refl
    each (n ∷ xs) = ap₂ (λ (o : Option Answer) (hs : List Held). served_by o (held_of configs m n) ∷ hs)
        (by (last_wait m n)) (each xs)

-- a question that was put has a number from 1 on, up to their count
pub record IsPutNumber (m : Past) (q : ℕ) : Type 0 where
  pub positive : 1 ≤ q
  pub most : q ≤ put_count m

-- as its put says
pub put_number : (m : Past) (q : ℕ) (p : Put) → put_of m q ≡ Some p → IsPutNumber m q
put_number m q p is = record { positive = low q is; most = high (nat_le q (put_count m)) refl }
  where
    not_zero : (n : ℕ) → (0 == suc n) ≡ false
    not_zero n = grind (arith, nat_tests)

    none_new : (n : ℕ) (o : Option Put) → numbered 0 n o ≡ None
    none_new n None = refl
    none_new n (Some z) = ap (λ (b : Bool). if b then Some z else None) (not_zero n)

    none : (m : Past) → put_of m 0 ≡ None
    none [] = refl
    none (x ∷ m) = ap₂ (λ (a b : Option Put). option_or a b) (none_new (put_count m) x.put) (none m)

    low : (q : ℕ) → put_of m q ≡ Some p → 1 ≤ q
    low zero e = absurd (none-some p (sym (none m) ∙ e))
    low (suc k) e = omega arith

    above : (a b : ℕ) → nat_le a b ≡ false → b < a
    above a b t = grind (arith, nat_tests)

    within : (a b : ℕ) → nat_le a b ≡ true → a ≤ b
    within a b t = grind (arith, nat_tests)

    high : (b : Bool) → nat_le q (put_count m) ≡ b → q ≤ put_count m
    high true t = within q (put_count m) t
    high false t = absurd (none-some p (sym (put_of_above m q (above q (put_count m) t)) ∙ is))

-- the key of a question of a class that has not ended
pub key_open : (configs : List Configuration) (m : Past) (e c q : ℕ) (p : Put) → put_of m q ≡ Some p
    → is_put_for e c (Some p) ≡ true → has_ended configs m q ≡ false
    → key_of q (lookups configs m e c) ≡ Some p.key
key_open configs m e c q p is here opened =
    ap (option_map (λ (l : LookupRow). l.key))
    (row_found (λ (l : LookupRow). q == l.question) (lookup_of m) (is_asked configs m e c) (put_count m) q
    (λ k a b t. refl)
    ∙ ap (λ (b : Bool). if b then Some (lookup_of m q) else None)
    (picked_given (is_asked configs m e c) (put_count m) q number.positive number.most ∙ asked))
    ∙ ap (λ (o : Option Put). Some (option_map_or (λ z. z.key) o [])) is
  where
    number : IsPutNumber m q
    number = put_number m q p is

    asked : is_asked configs m e c q ≡ true
    asked = ap₂ (λ (o : Option Put) (b : Bool). is_put_for e c o && not b) is opened ∙ ap (λ (b : Bool). b && true) here

-- whether a question waits in the queue of a class
waits_queued : (configs : List Configuration) (m : Past) (e c : ℕ) (class : Class) (q : ℕ)
    → is_waiting q (farm_with configs m e c class).queue ≡ picked (is_queued configs m e c) (put_count m) q
waits_queued configs m e c class q = row_among (λ (w : Waiting). q == w.question) (waiting_of m)
    (is_queued configs m e c) (put_count m) q (λ k a b t. refl)

-- a question that was put for another class is not one of the class of this name
not_named : (configs : List Configuration) (m : Past) (e c q : ℕ) (class : Class) → NamesOnce configs
    → PutsStand configs m → class_at configs e c ≡ Some class → is_put_for e c (put_of m q) ≡ false
    → option_map_or (λ p. (p.epoch == e) && bytes_eq (name_of_class configs e p.class) class.name) (put_of m q) false
    ≡ false
not_named configs m e c q class once stand at away = by (put_of m q) refl away
  where
    placed : (p : Put) (o : Option Class) → is_some o ≡ true → class_at configs p.epoch p.class ≡ o → (a b d : Bool)
        → (p.epoch == e) ≡ a → (p.class == c) ≡ b → (a && b) ≡ false
        → bytes_eq (name_of_class configs e p.class) class.name ≡ d → (a && d) ≡ false
    placed p None some is a b d same place not_both named = absurd (cc)
    placed p (Some other) some is false b d same place not_both named = refl
    placed p (Some other) some is true true d same place not_both named = absurd (cc)
    placed p (Some other) some is true false false same place not_both named = refl
    placed p (Some other) some is true false true same place not_both named =
        let there : class_at configs e p.class ≡ Some other =
        ap (λ (i : ℕ). class_at configs i p.class) (sym (equal p.epoch e same)) ∙ is in
        let one : p.class ≡ c = once e p.class c other class there
        at (ap (λ (o : Option Class). bytes_eq (option_map_or (λ class. class.name) o []) class.name) (sym there)
        ∙ named) in
        absurd (let yes : false ≡ true = sym place ∙ ap (λ (i : ℕ). i == c) one ∙ itself c in cc)

    by : (o : Option Put) → put_of m q ≡ o → is_put_for e c o ≡ false
        → option_map_or (λ p. (p.epoch == e) && bytes_eq (name_of_class configs e p.class) class.name) o false ≡ false
    by None is away = refl
    by (Some p) is away =
        placed p (class_at configs p.epoch p.class) (stand.stand q p is) refl (p.epoch == e) (p.class == c)
        (bytes_eq (name_of_class configs e p.class) class.name) refl refl away refl

-- what a failed start gives for a question that has not ended:
-- where no process of the class lives or starts then, the fault of each that waits in its queue
pub ends_failed : (configs : List Configuration) (m : Past) (now : ℕ) (answer : Told) (e c : ℕ) (class : Class) (q : ℕ)
    → NamesOnce configs → PutsStand configs m
    → class_at configs e c ≡ Some class → 1 ≤ starting (entries m) e class.name → has_ended configs m q ≡ false
    → ends_at configs m (noted_at now (StartFail e class.name) answer) q
    ≡ row_ends c (what.Fault cause.NoHelper) now (is_stranded (Some (class_row configs m e c class)))
    (Some (class_row configs m e c class)) q
ends_failed configs m now answer e c class q once stand at some opened = by (is_put_for e c (put_of m q)) refl
  where
    w : What
    w = what.Fault cause.NoHelper

    gives : Bool → Bool → Option Answer
    gives named none = answer_by now q (put_of m q) (if_here ((named && not (is_some (sent_to m q))) && none) (Some w))

    takes : Bool → Bool → Option Answer
    takes none waits = if none && waits then end_answer c w now q (key_of q (lookups configs m e c)) else None

    nothing : (b : Bool) → takes b false ≡ None
    nothing b = ap (λ (d : Bool). if d then end_answer c w now q (key_of q (lookups configs m e c)) else None)
        (and_right b false refl)

    served_so : (p : Put) → put_of m q ≡ Some p → p.class ≡ c → is_put_for e c (Some p) ≡ true → (sent none : Bool)
        → answer_by now q (put_of m q) (if_here (not sent && none) (Some w)) ≡ takes none (not sent && true)
    served_so p is place here true none = ap (λ (o : Option Put). answer_by now q o None) is ∙ sym (nothing none)
    served_so p is place here false false = ap (λ (o : Option Put). answer_by now q o None) is
    served_so p is place here false true =
        ap (λ (o : Option Put). answer_by now q o (Some w)) is
        ∙ ap (λ (i : ℕ). Some (record { class = i; key = p.key; what = w; question = Some q; date = now; taken = now }))
        place
        ∙ sym (ap (end_answer c w now q) (key_open configs m e c q p is here opened))

    last : is_last_start (farm_with configs m e c class) ≡ leaves_none (entries m) e class.name
    last = last_start configs m e c class some

    by : (b : Bool) → is_put_for e c (put_of m q) ≡ b
        → ends_at configs m (noted_at now (StartFail e class.name) answer) q
        ≡ takes (is_last_start (farm_with configs m e c class)) (is_waiting q (farm_with configs m e c class).queue)
    by true here =
        let put : IsPutFor (put_of m q) e c = put_for (put_of m q) e c here in
        let there : is_put_for e c (Some put.put) ≡ true = ap (is_put_for e c) (sym put.is) ∙ here in
        let number : IsPutNumber m q = put_number m q put.put put.is in
        let waits : is_waiting q (farm_with configs m e c class).queue ≡ (not (is_some (sent_to m q)) && true) =
        waits_queued configs m e c class q
        ∙ picked_given (is_queued configs m e c) (put_count m) q number.positive number.most
        ∙ ap₂ (λ (a b : Bool). a && not (is_some (sent_to m q)) && not b) here opened in
        ap (λ (b : Bool). gives b (leaves_none (entries m) e class.name))
        (put_named configs (put_of m q) e c class e class.name here at
        ∙ ap₂ (λ (a b : Bool). a && b) (itself e) (bytes_itself class.name))
        ∙ served_so put.put put.is put.class_is there (is_some (sent_to m q)) (leaves_none (entries m) e class.name)
        ∙ sym (ap₂ takes last waits)
    by false away =
        let waits : is_waiting q (farm_with configs m e c class).queue ≡ false =
        waits_queued configs m e c class q
        ∙ and_right (nat_le 1 q && nat_le q (put_count m)) (is_queued configs m e c q)
        (and_left (is_put_for e c (put_of m q) && not (is_some (sent_to m q))) (not (has_ended configs m q))
        (and_left (is_put_for e c (put_of m q)) (not (is_some (sent_to m q))) away)) in
        ap (λ (b : Bool). gives b (leaves_none (entries m) e class.name))
        (not_named configs m e c q class once stand at away)
        ∙ answer_by_none now q (put_of m q)
        ∙ sym (ap (takes (is_last_start (farm_with configs m e c class))) waits
        ∙ nothing (is_last_start (farm_with configs m e c class)))
