-- Where the answers of a check come from: a step took a verdict that was given and is fresh, or a fault;
-- or the question that the check waited for ended.
use Rattle.std.proofs.Common.{◌≡◌, ◌⊎◌, inl, inr, ℕ, List, [], ◌∷◌, Bool, true, false, ◌&&◌, ◌==◌, nat_le, if◌then◌else◌, Option, Some, None, option_to_list, refl, sym, ap, subst, ◌∙◌}
use Rattle.std.proofs.lemmas.Bool.{and_parts}
use Rattle.std.proofs.lemmas.Option.{none-some, same_Some}
use Rattle.sq_base.specs.declared.helpers.Answer.{Answer}
use Rattle.sq_base.specs.declared.helpers.Cause.{Cause}
use Rattle.sq_base.specs.declared.helpers.Cause.TheVariants as cause
use Rattle.sq_base.specs.declared.helpers.What.{What}
use Rattle.sq_base.specs.declared.helpers.What.TheVariants as what
use Rattle.sq_machine.specs.declared.entries.Event.{Event}
use Rattle.sq_machine.specs.declared.entries.Event.TheVariants.{Begin, Step, Line, Died, StartFail}
use Rattle.sq_machine.specs.declared.entries.Told.{Told}
use Rattle.sq_machine.specs.declared.entries.Told.TheVariants as told
use Rattle.sq_machine.specs.AnswerReadings.{answer_at, answer_by, answers, ended_answer, steps, waits_for}
use Rattle.sq_machine.specs.Checks.{ask_count}
use Rattle.sq_rules.specs.Configurations.{Configuration}
use Rattle.sq_machine.specs.Entries.{History}
use Rattle.sq_machine.specs.Events.{is_number, is_begin}
use Rattle.sq_machine.specs.Machine.{Legal, next_at}
use Rattle.sq_machine.specs.KeptLists.{is_fault}
use Rattle.sq_machine.specs.Next.{gives}
use Rattle.sq_machine.specs.Marking.{mark, marked}
use Rattle.sq_machine.specs.Marks.{Marked, Past, Put, entries}
use Rattle.sq_machine.specs.Processes.{if_here}
use Rattle.sq_machine.specs.Questions.{end_at, put_count, put_is, put_of, said_by, sent_to}
use Rattle.sq_model.specs.Carried.{Carried, NamesOnce}
use Rattle.sq_model.specs.Given.{EachOf, Gives, IsSound, TakesEnd, TakesFault, TakesFresh}
use Rattle.sq_model.specs.Waits.{NeedsPut}
use Rattle.sq_model.proofs.ClassParts.{equal}
use Rattle.sq_model.proofs.GivenLaws.{AllKeptGiven, each_append, each_weaker, given_first, given_next, step_takes}
use Rattle.sq_model.proofs.LegalLaws.{legal_induction, line_replied, next_line}
use Rattle.sq_model.proofs.StayLaws.{put_parts}
use Rattle.sq_model.proofs.WaitLaws.{WaitsNeeded, needs_first, needs_next}

-- each answer of each check
pub record SoundPast (configs : List Configuration) (m : Past) : Type 0 where
  pub kept_given : AllKeptGiven configs m
  pub waits : WaitsNeeded configs m
  pub sound : (n : ℕ) → EachOf (IsSound configs m n) (answers configs m n)

fault_here : (b : Bool) (c : Cause) (w : What) → if_here b (Some (what.Fault c)) ≡ Some w → is_fault w ≡ true
fault_here true c w e = ap is_fault (sym (same_Some _ _ e))
fault_here false c w e = absurd (none-some w e)

reply_here : (a b : Bool) (o : Option What) (w : What) → if_here (a && b) o ≡ Some w → (a ≡ true) × (o ≡ Some w)
reply_here true true o w e = (refl, e)
reply_here true false o w e = absurd (none-some w e)
reply_here false b o w e = absurd (none-some w e)

-- what ends a question is a fault, or is given there
ended_source : (configs : List Configuration) (m : Past) (now : ℕ) (event : Event) (answer : Told) (q : ℕ) (w : What)
    (e c : ℕ) (key : List ℕ) → NamesOnce configs
    → next_at configs m now event ≡ gives answer → Carried configs m → put_is e c key (put_of m q) ≡ true
    → end_at configs m q event answer ≡ Some w
    → (is_fault w ≡ true) ⊎ Gives configs m (mark configs m (record { moment = now; event = event; answer = answer })) e
    c (record { key = key; what = w; question = q; date = now })
ended_source configs m now (Line k bytes) (told.Reply r v) q w e c key once is carried put ends =
    let h = reply_here (q == r) (nat_le q (put_count m)) (said_by configs m k bytes) w ends in
    let same = equal q r h.0 in
    let n = next_line configs m now k bytes (told.Reply r v) is in
    let replied = line_replied configs m k bytes r v once n.0 carried n.1 in
    inr (record {
      proc = k;
      bytes = bytes;
      word = v;
      event_is = refl;
      answer_is = ap (λ (i : ℕ). told.Reply i v) (sym same);
      date_is = refl;
      says = h.1;
      sent = ap (sent_to m) same ∙ replied.sent;
      put = put;
    })
ended_source configs m now (Line k bytes) told.Bad q w e c key once is carried put ends =
    inl (fault_here (is_number k (sent_to m q)) cause.BadReply w ends)
ended_source configs m now (Line k bytes) told.Stray q w e c key once is carried put ends =
    inl (fault_here (is_number k (sent_to m q)) cause.Stray w ends)
ended_source configs m now (Line k bytes) answer q w e c key once is carried put ends = absurd (none-some w ends)
ended_source configs m now (Died k) answer q w e c key once is carried put ends =
    inl (fault_here (is_number k (sent_to m q)) cause.Died w ends)
ended_source configs m now (StartFail f name) answer q w e c key once is carried put ends =
    inl (fault_here _ cause.NoHelper w ends)
ended_source configs m now event answer q w e c key once is carried put ends = absurd (none-some w ends)

-- what a check that waits is given
ended_sound : (configs : List Configuration) (m : Past) (now : ℕ) (event : Event) (answer : Told) (n : ℕ)
    → NamesOnce configs → next_at configs m now event ≡ gives answer
    → Carried configs m → WaitsNeeded configs m → (o : Option ℕ) → waits_for configs m n ≡ o
    → EachOf (IsSound configs (mark configs m (record { moment = now; event = event; answer = answer }) ∷ m) n)
    (option_to_list (ended_answer configs m o now event answer))
ended_sound configs m now event answer n once is c w None waits = tt
ended_sound configs m now event answer n once is c w (Some q) waits =
    by (put_of m q) refl (end_at configs m q event answer) refl
  where
    x : Marked
    x = mark configs m (record { moment = now; event = event; answer = answer })

    s : NeedsPut configs m n q
    s = w.needs n q waits

    by : (o : Option Put) → put_of m q ≡ o → (v : Option What) → end_at configs m q event answer ≡ v
        → EachOf (IsSound configs (x ∷ m) n) (option_to_list (answer_by now q o v))
    by None put v ends = tt
    by (Some p) put None ends = tt
    by (Some p) put (Some v) ends =
        let parts = put_parts s.needed.asked.epoch s.needed.place s.needed.key p
        (ap (put_is s.needed.asked.epoch s.needed.place s.needed.key) (sym put) ∙ s.put_is_it) in (
          inl (inr (inr (record {
            question = q;
            waits = waits;
            needed = s.needed;
            put = s.put_is_it;
            class_is = parts.1;
            key_is = parts.2;
            question_is = refl;
            date_is = refl;
            taken_is = refl;
            end_is = ends;
            given = ended_source configs m now event answer q v s.needed.asked.epoch s.needed.place s.needed.key once is
                c s.put_is_it ends;
          }))),
          tt,
        )

-- what a step takes
taken_sound : (configs : List Configuration) (m : Past) (now : ℕ) (event : Event) (answer : Told) (n : ℕ)
    → steps m n event ≡ true → AllKeptGiven configs m → (o : Option Answer)
    → (mark configs m (record { moment = now; event = event; answer = answer })).took ≡ o
    → EachOf (IsSound configs (mark configs m (record { moment = now; event = event; answer = answer }) ∷ m) n)
    (option_to_list o)
taken_sound configs m now event answer n here g None is = tt
taken_sound configs m now (Step k) answer n here g (Some a) is =
    (inl (by (step_takes configs m now k answer a g is)), tt)
  where
    x : Marked
    x = mark configs m (record { moment = now; event = Step k; answer = answer })

    same : n ≡ k
    same = equal n k (and_parts (n == k) (nat_le n (ask_count (entries m))) here).0

    by : TakesFresh configs m x k a ⊎ TakesFault configs m x k a
        → TakesFresh configs m x n a ⊎ (TakesFault configs m x n a ⊎ TakesEnd configs m x n a)
    by (inl t) = inl (subst (λ (i : ℕ). TakesFresh configs m x i a) (sym same) t)
    by (inr t) = inr (inl (subst (λ (i : ℕ). TakesFault configs m x i a) (sym same) t))
taken_sound configs m now event answer n here g (Some a) is = absurd (let no : false ≡ true = here in cc)

new_sound : (configs : List Configuration) (m : Past) (now : ℕ) (event : Event) (answer : Told) (n : ℕ)
    → NamesOnce configs → next_at configs m now event ≡ gives answer
    → Carried configs m → SoundPast configs m
    → EachOf (IsSound configs (mark configs m (record { moment = now; event = event; answer = answer }) ∷ m) n)
    (option_to_list (answer_at configs m n (mark configs m (record { moment = now; event = event; answer = answer }))))
new_sound configs m now event answer n once is c s = by (steps m n event) refl
  where
    x : Marked
    x = mark configs m (record { moment = now; event = event; answer = answer })

    by : (b : Bool) → steps m n event ≡ b
        → EachOf (IsSound configs (x ∷ m) n)
        (option_to_list (if b then x.took else ended_answer configs m (waits_for configs m n) now event answer))
    by true here = taken_sound configs m now event answer n here s.kept_given x.took refl
    by false other = ended_sound configs m now event answer n once is c s.waits (waits_for configs m n) refl

sound_next : (configs : List Configuration) (m : Past) (now : ℕ) (event : Event) (answer : Told) → NamesOnce configs
    → next_at configs m now event ≡ gives answer → Carried configs m
    → SoundPast configs m → SoundPast configs
    (mark configs m (record { moment = now; event = event; answer = answer }) ∷ m)
sound_next configs m now event answer once is c s =
    let x = mark configs m (record { moment = now; event = event; answer = answer }) in
    record {
      kept_given = given_next configs m now event answer once is c s.kept_given;
      waits = needs_next configs m now event answer once is c s.waits;
      sound = λ n. each_append (IsSound configs (x ∷ m) n) (answers configs m n)
          (option_to_list (answer_at configs m n x))
          (each_weaker (IsSound configs m n) (IsSound configs (x ∷ m) n) (answers configs m n) (λ a t. inr t)
          (s.sound n)) (new_sound configs m now event answer n once is c s);
    }

sound_first : (configs : List Configuration) (now : ℕ) (event : Event) (answer : Told) → is_begin event ≡ true
    → SoundPast configs (mark configs [] (record { moment = now; event = event; answer = answer }) ∷ [])
sound_first configs now (Begin offset) answer b = record {
  kept_given = given_first configs now (Begin offset) answer b;
  waits = needs_first configs now (Begin offset) answer b;
  sound = λ n. tt;
}
sound_first configs now event answer b = absurd (cc)

-- each answer of each check of a legal history is sound
pub answers_sound : (configs : List Configuration) (h : History) → NamesOnce configs → Legal configs h
    → SoundPast configs (marked configs h)
answers_sound configs h once legal =
    (legal_induction configs (SoundPast configs) once (λ x b. sound_first configs x.moment x.event x.answer b)
    (λ m now event answer is c s. sound_next configs m now event answer once is c s) h legal).1
