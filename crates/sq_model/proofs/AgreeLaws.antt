-- The channels of a class's processes hold what was sent to them and has not ended, and each question once:
-- so it stays after each event.
use Rattle.std.proofs.Common.{◌≡◌, ℕ, suc, ◌<◌, ◌≤◌, max, replicate, zero, List, [], ◌∷◌, Bool, true, false, not, ◌&&◌, ◌||◌, ◌==◌, nat_le, nat_lt, bytes_eq, if◌then◌else◌, Option, Some, None, is_some, refl, sym, ap, ap₂, subst, ◌∙◌, arith}
use Rattle.std.specs.Option.{option_map_or, option_or}
use Rattle.std.proofs.lemmas.Bool.{and_parts, le-leb}
use Rattle.std.proofs.lemmas.Bool.Decides.{nat_tests}
use Rattle.sq_base.proofs.CommonLaws.{eq_turned}
use Rattle.sq_base.specs.declared.helpers.Cause.{Cause}
use Rattle.sq_base.specs.declared.helpers.Cause.TheVariants as cause
use Rattle.sq_base.specs.declared.helpers.What.{What}
use Rattle.sq_base.specs.declared.helpers.What.TheVariants as what
use Rattle.sq_base.specs.declared.helpers.Word.{Word}
use Rattle.sq_machine.specs.declared.entries.Event.{Event}
use Rattle.sq_machine.specs.declared.entries.Event.TheVariants.{Step, Started, StartFail, Line, Died, Act, Reconfigure}
use Rattle.sq_machine.specs.declared.entries.Told.{Told}
use Rattle.sq_machine.specs.declared.entries.Told.TheVariants as told
use Rattle.sq_machine.specs.Channels.{asked, channel_name, free_count, is_open, least_free, settled}
use Rattle.sq_rules.specs.Classes.{Class}
use Rattle.sq_rules.specs.Configurations.{Configuration}
use Rattle.sq_machine.specs.Epochs.{name_of_class}
use Rattle.sq_machine.specs.Events.{is_number}
use Rattle.sq_machine.specs.FarmReadings.{living_of}
use Rattle.sq_machine.specs.Living.{Living, has_free}
use Rattle.sq_machine.specs.Marks.{Marked, Past, entries}
use Rattle.sq_machine.specs.Processes.{ended_by, home_of, if_here, is_at_home, proc_count, proc_end, runs_at}
use Rattle.sq_machine.specs.Questions.{has_ended, leaves_none, put_count, put_of, question_end, said_by, sent_to}
use Rattle.sq_machine.specs.StepRule.{StepSays}
use Rattle.sq_machine.specs.Transcripts.{channels_of}
use Rattle.sq_model.specs.Agreement.{SlotsAgree}
use Rattle.sq_model.specs.ClassChanges.{touches_classes}
use Rattle.sq_model.specs.MarkedEntries.{noted_at, stepped_at}
use Rattle.sq_model.proofs.ClassParts.{equal}
use Rattle.sq_model.proofs.DeathLaws.{EndsProcess, bad_ends, died_ends, died_questions, died_runs, stray_ends}
use Rattle.sq_model.proofs.FailLaws.{ended_if}
use Rattle.sq_model.proofs.LineLaws.{StandsOnlyOn, runs_given}
use Rattle.sq_model.proofs.ReplyLaws.{other_living, replied_ends, settled_living}
use Rattle.sq_model.proofs.SendLaws.{asked_living, unsent_living}
use Rattle.sq_model.proofs.StartLaws.{new_living}

-- an event that changes no class
pub agree_untouched : (configs : List Configuration) (m : Past) (now : ℕ) (event : Event) (answer : Told) (e : ℕ)
    (class : Class) → touches_classes event ≡ false
    → SlotsAgree configs m e class → SlotsAgree configs (noted_at now event answer ∷ m) e class
agree_untouched configs m now (Step n) answer e class t agree = absurd (cc)
agree_untouched configs m now (Started f name) answer e class t agree = absurd (cc)
agree_untouched configs m now (StartFail f name) answer e class t agree = absurd (cc)
agree_untouched configs m now (Line k bytes) answer e class t agree = absurd (cc)
agree_untouched configs m now (Died k) answer e class t agree = absurd (cc)
agree_untouched configs m now Act answer e class t agree = absurd (cc)
agree_untouched configs m now (Reconfigure text) answer e class t agree = absurd (cc)
agree_untouched configs m now event answer e class t agree = agree

-- the act is a send
abbrev pub is_send : Told → Bool
is_send (told.Send p q channel key) = true
is_send answer = false

-- an act that is no send
pub agree_acted : (configs : List Configuration) (m : Past) (now : ℕ) (answer : Told) (e : ℕ) (class : Class)
    → is_send answer ≡ false
    → SlotsAgree configs m e class → SlotsAgree configs (noted_at now Act answer ∷ m) e class
agree_acted configs m now (told.Send p q channel key) e class t agree = absurd (cc)
agree_acted configs m now answer e class t agree = agree

-- a step, whatever it says
pub agree_stepped : (configs : List Configuration) (m : Past) (now n : ℕ) (s : StepSays) (e : ℕ) (class : Class)
    → SlotsAgree configs m e class → SlotsAgree configs (stepped_at now n s ∷ m) e class
agree_stepped configs m now n s e class agree = agree

-- a reconfiguration
pub agree_reconfigured : (configs : List Configuration) (m : Past) (now : ℕ) (text : List ℕ) (answer : Told) (e : ℕ)
    (class : Class)
    → SlotsAgree configs m e class → SlotsAgree configs (noted_at now (Reconfigure text) answer ∷ m) e class
agree_reconfigured configs m now text answer e class agree = agree

none_open : (q n : ℕ) → is_open q (replicate n None) ≡ false
none_open q zero = refl
none_open q (suc n) = none_open q n

-- a process that is started: nothing was sent to it
pub agree_started : (configs : List Configuration) (m : Past) (now f : ℕ) (name : List ℕ) (answer : Told) (e : ℕ)
    (class : Class)
    → ((q k : ℕ) → sent_to m q ≡ Some k → k ≤ proc_count (entries m))
    → SlotsAgree configs m e class → SlotsAgree configs (noted_at now (Started f name) answer ∷ m) e class
agree_started configs m now f name answer e class given agree =
    λ k q runs. by k q runs (k == suc (proc_count (entries m))) refl
  where
    x : Marked
    x = noted_at now (Started f name) answer

    apart : (a b : ℕ) → a ≤ b → (suc b == a) ≡ false
    apart a b l = grind (arith, nat_tests)

    unsent : (q : ℕ) (o : Option ℕ) → sent_to m q ≡ o → is_number (suc (proc_count (entries m))) o ≡ false
    unsent q None is = refl
    unsent q (Some k) is = apart k (proc_count (entries m)) (given q k is)

    by : (k q : ℕ) → runs_at (entries (x ∷ m)) e class.name k ≡ true → (b : Bool)
        → (k == suc (proc_count (entries m))) ≡ b
        → is_open q (channels_of class.concurrency (entries m) k).slots
        ≡ (is_number k (sent_to m q) && not (has_ended configs m q))
    by k q runs true same =
        subst (λ (j : ℕ). is_open q (channels_of class.concurrency (entries m) j).slots
        ≡ (is_number j (sent_to m q) && not (has_ended configs m q)))
        (sym (equal k (suc (proc_count (entries m))) same))
        (ap (λ (r : Living). is_open q r.process.slots) (new_living (entries m) class.concurrency)
        ∙ none_open q (max 1 class.concurrency)
        ∙ sym (ap (λ (b : Bool). b && not (has_ended configs m q)) (unsent q (sent_to m q) refl)))
    by k q runs false other =
        agree k q (sym (ap (λ (t : Bool).
        (option_map_or (λ p. (p.epoch == e) && bytes_eq p.class class.name)
        (option_or (if t then Some (record { epoch = f; class = name }) else None) (home_of (entries m) k)) false)
        && (is_some (option_or (if t then Some (record { epoch = f; class = name }) else None) (home_of (entries m) k))
        && not (is_some (proc_end (entries m) k)))) other) ∙ runs)

-- a start that failed: what ends was sent nowhere
pub agree_failed : (configs : List Configuration) (m : Past) (now f : ℕ) (name : List ℕ) (answer : Told) (e : ℕ)
    (class : Class)
    → SlotsAgree configs m e class → SlotsAgree configs (noted_at now (StartFail f name) answer ∷ m) e class
agree_failed configs m now f name answer e class agree =
    λ k q runs. agree k q runs
    ∙ sym (ap (λ (b : Bool). is_number k (sent_to m q) && not b)
    (ended_if now ((option_map_or (λ p. (p.epoch == f) && bytes_eq (name_of_class configs f p.class) name) (put_of m q)
    false && not (is_some (sent_to m q)))
    && leaves_none (entries m) f name) (what.Fault cause.NoHelper) (question_end configs m q))
    ∙ stays k (option_map_or (λ p. (p.epoch == f) && bytes_eq (name_of_class configs f p.class) name) (put_of m q)
    false) (leaves_none (entries m) f name) (sent_to m q) (has_ended configs m q))
  where
    falls : (a z d b : Bool) → (b && not (((a && false) && z) || d)) ≡ (b && not d)
    falls true z d b = refl
    falls false z d b = refl

    stays : (k : ℕ) (a z : Bool) (o : Option ℕ) (d : Bool)
        → (is_number k o && not (((a && not (is_some o)) && z) || d)) ≡ (is_number k o && not d)
    stays k a z None d = refl
    stays k a z (Some j) d = falls a z d (k == j)

open_settled : (p q : ℕ) (slots : List (Option ℕ)) → is_open p (settled q slots) ≡ (not (p == q) && is_open p slots)
open_settled p q [] = none (p == q)
  where
    none : (b : Bool) → false ≡ (not b && false)
    none true = refl
    none false = refl
open_settled p q (None ∷ slots) = open_settled p q slots
open_settled p q (Some k ∷ slots) = front (q == k)
    ∙ numbers p q k (is_open p (settled q slots)) (is_open p slots) (open_settled p q slots)
  where
    front : (b : Bool) → is_open p ((if b then None else Some k) ∷ settled q slots)
        ≡ (if b then is_open p (settled q slots) else (if p == k then true else is_open p (settled q slots)))
    front true = refl
    front false = refl

    numbers : (p q k : ℕ) (a b : Bool) → a ≡ (not (p == q) && b)
        → (if q == k then a else (if p == k then true else a)) ≡ (not (p == q) && (if p == k then true else b))
    numbers p q k a b e = grind (arith, e)

open_asked : (p q : ℕ) (slots : List (Option ℕ)) → 0 < free_count slots
    → is_open p (asked q slots) ≡ (p == q || is_open p slots)
open_asked p q [] f = absurd (omega arith)
open_asked p q (None ∷ slots) f = by_test (p == q)
  where
    by_test : (b : Bool) → (if b then true else is_open p slots) ≡ (b || is_open p slots)
    by_test true = refl
    by_test false = refl
open_asked p q (Some k ∷ slots) f = by_test (p == k) (p == q) (open_asked p q slots f)
  where
    by_test : (b d : Bool) → is_open p (asked q slots) ≡ (d || is_open p slots)
        → (if b then true else is_open p (asked q slots)) ≡ (d || (if b then true else is_open p slots))
    by_test true true e = refl
    by_test true false e = refl
    by_test false d e = e

-- a reply to a question that was sent to the process that says it
pub agree_replied : (configs : List Configuration) (m : Past) (now k : ℕ) (bytes : List ℕ) (q : ℕ) (w : Word) (v : What)
    (e : ℕ) (class : Class) → said_by configs m k bytes ≡ Some v
    → sent_to m q ≡ Some k →
    (runs_at (entries m) e class.name k ≡ true → StandsOnlyOn class.concurrency (entries m) k bytes q)
    → ((q k : ℕ) → sent_to m q ≡ Some k → q ≤ put_count m)
    → SlotsAgree configs m e class → SlotsAgree configs (noted_at now (Line k bytes) (told.Reply q w) ∷ m) e class
agree_replied configs m now k bytes q w v e class says sent only put agree =
    λ j p runs. by j p runs (k == j) refl (sent_to m p) refl
  where
    answer : Told
    answer = told.Reply q w

    x : Marked
    x = noted_at now (Line k bytes) answer

    mine : (b n d : Bool) → (not b && (n && not d)) ≡ (n && not (b || d))
    mine true true d = refl
    mine true false d = refl
    mine false n d = refl

    other : (n b d : Bool) → (b ≡ true → n ≡ false) → (n && not d) ≡ (n && not (b || d))
    other true true d e = absurd (let no = e refl in cc)
    other true false d e = refl
    other false b d e = refl

    by : (j p : ℕ) → runs_at (entries m) e class.name j ≡ true → (b : Bool) → (k == j) ≡ b → (o : Option ℕ)
        → sent_to m p ≡ o
        → is_open p (channels_of class.concurrency (entries (x ∷ m)) j).slots
        ≡ (is_number j (sent_to m p) && not (has_ended configs (x ∷ m) p))
    by j p runs true same (Some z) is =
        let kj = equal k j same in
        ap (λ (r : Living). is_open p r.process.slots)
        (settled_living class.concurrency m now k bytes answer q j true same
        (runs_given (entries m) e class.name j runs).most
        (only (ap (runs_at (entries m) e class.name) kj ∙ runs))
        ∙ ap (λ (b : Bool). let r = living_of class.concurrency (entries m) j in
        if b then record r { process = record r.process { slots = settled q r.process.slots } } else r) same)
        ∙ open_settled p q (channels_of class.concurrency (entries m) j).slots
        ∙ ap (λ (b : Bool). not (p == q) && b) (agree j p runs)
        ∙ mine (p == q) (is_number j (sent_to m p)) (has_ended configs m p)
        ∙ sym (ap (λ (b : Bool). is_number j (sent_to m p) && not b)
        (replied_ends configs m now k bytes q w v p says (put p z is)))
    by j p runs true same None is =
        let kj = equal k j same in
        ap (λ (r : Living). is_open p r.process.slots)
        (settled_living class.concurrency m now k bytes answer q j true same
        (runs_given (entries m) e class.name j runs).most
        (only (ap (runs_at (entries m) e class.name) kj ∙ runs))
        ∙ ap (λ (b : Bool). let r = living_of class.concurrency (entries m) j in
        if b then record r { process = record r.process { slots = settled q r.process.slots } } else r) same)
        ∙ open_settled p q (channels_of class.concurrency (entries m) j).slots
        ∙ ap (λ (b : Bool). not (p == q) && b)
        (agree j p runs ∙ ap (λ (o : Option ℕ). is_number j o && not (has_ended configs m p)) is)
        ∙ nothing (p == q) ∙ sym (ap (λ (o : Option ℕ). is_number j o && not (has_ended configs (x ∷ m) p)) is)
      where
        nothing : (b : Bool) → (not b && false) ≡ false
        nothing true = refl
        nothing false = refl
    by j p runs false apart (Some z) is =
        ap (λ (r : Living). is_open p r.process.slots)
        (other_living class.concurrency m now k bytes answer j (eq_turned j k ∙ apart))
        ∙ agree j p runs
        ∙ other (is_number j (sent_to m p)) (p == q) (has_ended configs m p)
        (λ t. ap (λ (i : ℕ). is_number j (sent_to m i)) (equal p q t) ∙ ap (is_number j) sent ∙ eq_turned j k ∙ apart)
        ∙ sym (ap (λ (b : Bool). is_number j (sent_to m p) && not b)
        (replied_ends configs m now k bytes q w v p says (put p z is)))
    by j p runs false apart None is =
        ap (λ (r : Living). is_open p r.process.slots)
        (other_living class.concurrency m now k bytes answer j (eq_turned j k ∙ apart))
        ∙ agree j p runs ∙ ap (λ (o : Option ℕ). is_number j o && not (has_ended configs m p)) is
        ∙ sym (ap (λ (o : Option ℕ). is_number j o && not (has_ended configs (x ∷ m) p)) is)

-- what an end of process k leaves on the others
ended_agree : (configs : List Configuration) (m : Past) (now k : ℕ) (cause : Cause) (event : Event) (answer : Told)
    (j q : ℕ) → EndsProcess configs m k cause event answer → (k == j) ≡ false
    → (is_number j (sent_to m q) && not (has_ended configs m q))
    ≡ (is_number j (sent_to m q) && not (has_ended configs (noted_at now event answer ∷ m) q))
ended_agree configs m now k cause event answer j q ends apart =
    by (sent_to m q) (has_ended configs m q)
    ∙ sym (ap (λ (b : Bool). is_number j (sent_to m q) && not b)
    (died_questions configs m now k cause event answer q ends))
  where
    differ : (z : ℕ) → (j == z) ≡ true → (k == z) ≡ false
    differ z t = ap (λ (i : ℕ). k == i) (sym (equal j z t)) ∙ apart

    at : (b c d : Bool) → (b ≡ true → c ≡ false) → (b && not d) ≡ (b && not (c || d))
    at true true d e = absurd (let no = e refl in cc)
    at true false d e = refl
    at false c d e = refl

    by : (o : Option ℕ) (d : Bool) → (is_number j o && not d) ≡ (is_number j o && not (is_number k o || d))
    by None d = refl
    by (Some z) d = at (j == z) (k == z) d (differ z)

-- who runs after it is another process, and ran before
pub record StillRuns (m : Past) (e : ℕ) (name : List ℕ) (k j : ℕ) : Type 0 where
  pub ran : runs_at (entries m) e name j ≡ true
  pub other : (k == j) ≡ false

-- who runs after the end of a process
pub still_runs : (configs : List Configuration) (m : Past) (now k : ℕ) (cause : Cause) (event : Event) (answer : Told)
    (e : ℕ) (name : List ℕ) (j : ℕ) → EndsProcess configs m k cause event answer
    → (is_at_home (entries m) e name j
    && (is_some (home_of (entries m) j)
    && not (is_some (option_or (ended_by (entries m) j event answer) (proc_end (entries m) j))))) ≡ true
    → StillRuns m e name k j
still_runs configs m now k cause event answer e name j ends runs =
    let a = parts (is_at_home (entries m) e name j) (is_some (home_of (entries m) j))
    (ended_by (entries m) j event answer) (proc_end (entries m) j) runs in
    let given = runs_given (entries m) e name j a in
    let both = and_parts (runs_at (entries m) e name j) (not (k == j))
    (sym (died_runs configs m now k cause event answer e name j ends given.most) ∙ runs) in
    record { ran = both.0; other = unnot (k == j) both.1 }
  where
    parts : (h s : Bool) (o p : Option Cause) → (h && (s && not (is_some (option_or o p)))) ≡ true
        → (h && (s && not (is_some p))) ≡ true
    parts true true None p e = e
    parts true true (Some c) p e = absurd (cc)
    parts true false o p e = absurd (cc)
    parts false s o p e = absurd (cc)

    unnot : (b : Bool) → not b ≡ true → b ≡ false
    unnot true e = absurd (cc)
    unnot false e = refl

-- a death
pub agree_died : (configs : List Configuration) (m : Past) (now k : ℕ) (answer : Told) (e : ℕ) (class : Class)
    → SlotsAgree configs m e class → SlotsAgree configs (noted_at now (Died k) answer ∷ m) e class
agree_died configs m now k answer e class agree =
    λ j q runs. let s = still_runs configs m now k cause.Died (Died k) answer e class.name j
    (died_ends configs m k answer) runs in
    agree j q s.ran ∙ ended_agree configs m now k cause.Died (Died k) answer j q (died_ends configs m k answer) s.other

line_agree : (configs : List Configuration) (m : Past) (now k : ℕ) (bytes : List ℕ) (cause : Cause) (answer : Told)
    (e : ℕ) (class : Class) → EndsProcess configs m k cause (Line k bytes) answer
    → SlotsAgree configs m e class → SlotsAgree configs (noted_at now (Line k bytes) answer ∷ m) e class
line_agree configs m now k bytes cause answer e class ends agree =
    λ j q runs. let s = still_runs configs m now k cause (Line k bytes) answer e class.name j ends runs in
    ap (λ (r : Living). is_open q r.process.slots)
    (other_living class.concurrency m now k bytes answer j (eq_turned j k ∙ s.other))
    ∙ agree j q s.ran ∙ ended_agree configs m now k cause (Line k bytes) answer j q ends s.other

-- a line outside the grammar
pub agree_bad : (configs : List Configuration) (m : Past) (now k : ℕ) (bytes : List ℕ) (e : ℕ) (class : Class)
    → SlotsAgree configs m e class → SlotsAgree configs (noted_at now (Line k bytes) told.Bad ∷ m) e class
agree_bad configs m now k bytes e class agree = line_agree configs m now k bytes cause.BadReply told.Bad e class
    (bad_ends configs m k bytes) agree

-- a line on a free channel
pub agree_stray : (configs : List Configuration) (m : Past) (now k : ℕ) (bytes : List ℕ) (e : ℕ) (class : Class)
    → SlotsAgree configs m e class → SlotsAgree configs (noted_at now (Line k bytes) told.Stray ∷ m) e class
agree_stray configs m now k bytes e class agree = line_agree configs m now k bytes cause.Stray told.Stray e class
    (stray_ends configs m k bytes) agree

-- where a send goes, and that its question was sent nowhere and has not ended
pub record IsSent (configs : List Configuration) (m : Past) (p q : ℕ) (channel : Option ℕ)
    (concurrency : ℕ) : Type 0 where
  pub unsent : sent_to m q ≡ None
  pub unended : has_ended configs m q ≡ false
  pub given : q ≤ put_count m
  pub free : has_free (living_of concurrency (entries m) p) ≡ true
  pub channel_is : channel
      ≡ channel_name (nat_lt 0 concurrency) (least_free (living_of concurrency (entries m) p).process.slots)

-- a send to a process of the class, or of another
pub agree_sent : (configs : List Configuration) (m : Past) (now p q : ℕ) (channel : Option ℕ) (key : List ℕ) (e : ℕ)
    (class : Class)
    → (runs_at (entries m) e class.name p ≡ true → IsSent configs m p q channel class.concurrency) → sent_to m q ≡ None
    → q ≤ put_count m
    → SlotsAgree configs m e class → SlotsAgree configs (noted_at now Act (told.Send p q channel key) ∷ m) e class
agree_sent configs m now p q channel key e class sending unsent high agree =
    λ j i runs. by j i runs (j == p) refl (i == q) refl
  where
    x : Marked
    x = noted_at now Act (told.Send p q channel key)

    sent_now : (i : ℕ) (b : Bool) → (i == q) ≡ b → sent_to (x ∷ m) i ≡ (if b then Some p else sent_to m i)
    sent_now i true same =
        ap₂ (λ (a b : Bool). option_or (if_here (a && b) (Some p)) (sent_to m i)) same
        (le-leb i (put_count m) (subst (λ (z : ℕ). z ≤ put_count m) (sym (equal i q same)) high))
    sent_now i false other = ap (λ (a : Bool). option_or (if_here (a && nat_le i (put_count m)) (Some p)) (sent_to m i))
        other

    positive : (n : ℕ) → nat_lt 0 n ≡ true → 0 < n
    positive n e = grind (arith, nat_tests)

    slots_now : (j i : ℕ) → runs_at (entries m) e class.name j ≡ true → (j == p) ≡ true
        → is_open i (channels_of class.concurrency (entries (x ∷ m)) j).slots
        ≡ (i == q || is_open i (channels_of class.concurrency (entries m) j).slots)
    slots_now j i runs same =
        let s = sending (ap (runs_at (entries m) e class.name) (sym (equal j p same)) ∙ runs) in
        let jp = equal j p same in
        let free : has_free (living_of class.concurrency (entries m) j) ≡ true =
        ap (λ (z : ℕ). has_free (living_of class.concurrency (entries m) z)) jp ∙ s.free in
        ap (λ (r : Living). is_open i r.process.slots)
        (asked_living class.concurrency m now p q channel key j same (runs_given (entries m) e class.name j runs).most
        free
        (s.channel_is ∙ ap (λ (z : ℕ). channel_name (nat_lt 0 class.concurrency)
        (least_free (living_of class.concurrency (entries m) z).process.slots)) (sym jp)))
        ∙ open_asked i q (channels_of class.concurrency (entries m) j).slots
        (positive (free_count (channels_of class.concurrency (entries m) j).slots) free)

    by : (j i : ℕ) → runs_at (entries m) e class.name j ≡ true → (b : Bool) → (j == p) ≡ b → (d : Bool) → (i == q) ≡ d
        → is_open i (channels_of class.concurrency (entries (x ∷ m)) j).slots
        ≡ (is_number j (sent_to (x ∷ m) i) && not (has_ended configs m i))
    by j i runs true same true here =
        let s = sending (ap (runs_at (entries m) e class.name) (sym (equal j p same)) ∙ runs) in
        slots_now j i runs same ∙ ap (λ (b : Bool). b || is_open i (channels_of class.concurrency (entries m) j).slots)
        here
        ∙ sym (ap₂ (λ (o : Option ℕ) (b : Bool). is_number j o && not b) (sent_now i true here)
        (ap (has_ended configs m) (equal i q here) ∙ s.unended) ∙ ap (λ (b : Bool). b && true) same)
    by j i runs true same false apart =
        slots_now j i runs same ∙ ap (λ (b : Bool). b || is_open i (channels_of class.concurrency (entries m) j).slots)
        apart ∙ agree j i runs
        ∙ sym (ap (λ (o : Option ℕ). is_number j o && not (has_ended configs m i)) (sent_now i false apart))
    by j i runs false other true here =
        ap (λ (r : Living). is_open i r.process.slots) (unsent_living class.concurrency m now p q channel key j other)
        ∙ agree j i runs
        ∙ ap (λ (o : Option ℕ). is_number j o && not (has_ended configs m i)) (ap (sent_to m) (equal i q here) ∙ unsent)
        ∙ sym (ap (λ (o : Option ℕ). is_number j o && not (has_ended configs m i)) (sent_now i true here)
        ∙ ap (λ (b : Bool). b && not (has_ended configs m i)) other)
    by j i runs false other false apart =
        ap (λ (r : Living). is_open i r.process.slots) (unsent_living class.concurrency m now p q channel key j other)
        ∙ agree j i runs
        ∙ sym (ap (λ (o : Option ℕ). is_number j o && not (has_ended configs m i)) (sent_now i false apart))
