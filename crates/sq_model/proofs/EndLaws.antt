-- What the questions that an entry ends give to the checks that wait for them.
use Rattle.std.proofs.Common.{◌≡◌, ℕ, ◌<◌, ◌≤◌, List, [], ◌∷◌, Bool, true, false, ◌&&◌, ◌==◌, nat_le, if◌then◌else◌, Option, Some, None, option_and_then, refl, sym, ap, ap₂, subst, ◌∙◌, arith}
use Rattle.std.proofs.lemmas.Bool.{le-leb}
use Rattle.std.proofs.lemmas.Bool.Decides.{nat_tests}
use Rattle.std.proofs.lemmas.Option.{none-some}
use Rattle.sq_base.specs.declared.helpers.Answer.{Answer}
use Rattle.sq_base.specs.declared.helpers.Cause.{Cause}
use Rattle.sq_base.specs.declared.helpers.What.{What}
use Rattle.sq_base.specs.declared.helpers.What.TheVariants as what
use Rattle.sq_base.specs.declared.helpers.Word.{Word}
use Rattle.sq_machine.specs.declared.entries.Event.{Event}
use Rattle.sq_machine.specs.declared.entries.Event.TheVariants.{Line}
use Rattle.sq_machine.specs.declared.entries.Told.{Told}
use Rattle.sq_machine.specs.declared.entries.Told.TheVariants as told
use Rattle.sq_machine.specs.AnswerReadings.{answer_by}
use Rattle.sq_rules.specs.Configurations.{Configuration}
use Rattle.sq_machine.specs.Events.{is_number}
use Rattle.sq_machine.specs.Marks.{Past, Put}
use Rattle.sq_machine.specs.Processes.{if_here}
use Rattle.sq_machine.specs.Questions.{put_count, put_of, said_by, sent_to}
use Rattle.sq_model.specs.CheckRows.{Ends, Held, after_ends, ends_at, one_end, served_by}
use Rattle.sq_model.specs.MarkedEntries.{noted_at}
use Rattle.sq_model.proofs.ClassParts.{equal}
use Rattle.sq_model.proofs.DeathLaws.{EndsProcess}
use Rattle.sq_model.proofs.NumberLaws.{put_of_above}

-- checks are served by what questions give them, however that is said
pub after_ends_same : (ends other : Ends) (checks : List Held) → ((q : ℕ) → ends q ≡ other q)
    → after_ends ends checks ≡ after_ends other checks
after_ends_same ends other [] same = refl
after_ends_same ends other (h ∷ checks) same = ap₂ (λ (x : Held) (xs : List Held). x ∷ xs) (one h.waits)
    (after_ends_same ends other checks same)
  where
    one : (o : Option ℕ) → served_by (option_and_then ends o) h ≡ served_by (option_and_then other o) h
    one None = refl
    one (Some q) = ap (λ (a : Option Answer). served_by a h) (same q)

-- a reply ends its question, and no other
pub ends_replied : (configs : List Configuration) (m : Past) (now k : ℕ) (bytes : List ℕ) (q : ℕ) (w : Word) (v : What)
    (p : Put) → said_by configs m k bytes ≡ Some v → put_of m q ≡ Some p
    → (r : ℕ) → ends_at configs m (noted_at now (Line k bytes) (told.Reply q w)) r
    ≡ one_end q (record { class = p.class; key = p.key; what = v; question = Some q; date = now; taken = now }) r
ends_replied configs m now k bytes q w v p says put r = by (r == q) refl
  where
    given : (b : Bool) → nat_le q (put_count m) ≡ b → q ≤ put_count m
    given true t = le q (put_count m) t
      where
        le : (a b : ℕ) → nat_le a b ≡ true → a ≤ b
        le a b t = grind (arith, nat_tests)
    given false t = absurd (none-some p (sym (put_of_above m q (gt q (put_count m) t)) ∙ put))
      where
        gt : (a b : ℕ) → nat_le a b ≡ false → b < a
        gt a b t = grind (arith, nat_tests)

    answer : Answer
    answer = record { class = p.class; key = p.key; what = v; question = Some q; date = now; taken = now }

    nothing : (o : Option Put) → answer_by now r o None ≡ None
    nothing None = refl
    nothing (Some z) = refl

    by : (b : Bool) → (r == q) ≡ b
        → answer_by now r (put_of m r) (if_here (b && nat_le r (put_count m)) (said_by configs m k bytes))
        ≡ (if b then Some answer else None)
    by true same =
        let here = equal r q same in
        ap₂ (λ (o : Option Put) (t : Bool). answer_by now r o (if_here t (said_by configs m k bytes)))
        (ap (put_of m) here ∙ put)
        (le-leb r (put_count m) (subst (λ (i : ℕ). i ≤ put_count m) (sym here) (given (nat_le q (put_count m)) refl)))
        ∙ ap₂ (λ (i : ℕ) (o : Option What). answer_by now i (Some p) o) here says
    by false other = nothing (put_of m r)

-- the end of a process ends the questions that were sent to it, and no others
pub ends_lost : (configs : List Configuration) (m : Past) (now k : ℕ) (cause : Cause) (event : Event) (answer : Told)
    (q : ℕ) → EndsProcess configs m k cause event answer
    → ends_at configs m (noted_at now event answer) q
    ≡ (if is_number k (sent_to m q) then answer_by now q (put_of m q) (Some (what.Fault cause)) else None)
ends_lost configs m now k cause event answer q ends = ap (answer_by now q (put_of m q)) (ends.ends_is q)
    ∙ by (is_number k (sent_to m q)) (put_of m q)
  where
    by : (b : Bool) (o : Option Put)
        → answer_by now q o (if_here b (Some (what.Fault cause)))
        ≡ (if b then answer_by now q o (Some (what.Fault cause)) else None)
    by true o = refl
    by false None = refl
    by false (Some p) = refl
