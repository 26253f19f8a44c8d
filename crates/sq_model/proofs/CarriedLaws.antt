-- What a legal history carries stays after each event.
use Rattle.std.proofs.Common.{◌≡◌, ℕ, suc, ◌<◌, ◌≤◌, ◌⊎◌, inl, inr, max, List, ◌∷◌, Bool, true, false, not, ◌&&◌, ◌||◌, ◌==◌, nat_le, nat_lt, bytes_eq, if◌then◌else◌, Option, Some, None, is_some, refl, sym, ap, subst, ◌∙◌, arith}
use Rattle.std.specs.Option.{option_map_or, option_or}
use Rattle.std.proofs.lemmas.Bool.{and_left, le-leb}
use Rattle.std.proofs.lemmas.Bool.Decides.{nat_tests}
use Rattle.std.proofs.lemmas.Option.{none-some, same_Some}
use Rattle.sq_base.specs.declared.helpers.Answer.{Answer}
use Rattle.sq_base.specs.declared.helpers.Cause.TheVariants as cause
use Rattle.sq_base.specs.declared.helpers.What.{What}
use Rattle.sq_base.specs.declared.helpers.Word.{Word}
use Rattle.sq_machine.specs.declared.entries.Event.{Event}
use Rattle.sq_machine.specs.declared.entries.Event.TheVariants.{Step, Started, StartFail, Line, Died, Act, Reconfigure}
use Rattle.sq_machine.specs.declared.entries.Told.{Told}
use Rattle.sq_machine.specs.declared.entries.Told.TheVariants as told
use Rattle.sq_machine.specs.AnswerReadings.{last_wait, steps, waits_told}
use Rattle.sq_machine.specs.Channels.{channel_name, least_free}
use Rattle.sq_machine.specs.Checks.{numbered}
use Rattle.sq_rules.specs.Classes.{Class}
use Rattle.sq_rules.specs.Configurations.{Configuration}
use Rattle.sq_machine.specs.Entries.{Noted}
use Rattle.sq_machine.specs.Epochs.{class_at, name_of_class}
use Rattle.sq_machine.specs.FarmReadings.{is_held, is_put_for, living_of}
use Rattle.sq_machine.specs.Events.{is_number}
use Rattle.sq_machine.specs.Marks.{Past, Put, entries}
use Rattle.sq_machine.specs.Processes.{Home, home_of, if_here, ended_by, is_at_home, proc_count, proc_end, runs_at, settled_starts, start_count}
use Rattle.sq_machine.specs.Questions.{has_ended, put_count, put_of, said_by, sent_to}
use Rattle.sq_machine.specs.Readings.{current}
use Rattle.sq_machine.specs.StepRule.{StepSays}
use Rattle.sq_model.specs.Carried.{Carried, HasClass, HoldsOnce, IsUnused}
use Rattle.sq_model.specs.ClassChanges.{is_farm_act, touches_classes}
use Rattle.sq_model.specs.MarkedEntries.{noted_at, stepped_at}
use Rattle.sq_model.proofs.AgreeLaws.{IsSent, agree_bad, agree_died, agree_failed, agree_replied, agree_sent, agree_started, agree_stray, still_runs}
use Rattle.sq_model.proofs.ClassParts.{bytes_same, equal, itself, not_next}
use Rattle.sq_model.proofs.DeathLaws.{bad_ends, died_ends, stray_ends}
use Rattle.sq_model.proofs.LineLaws.{StandsOnlyOn}
use Rattle.sq_model.proofs.NumberLaws.{holder_above, sent_above}
use Rattle.sq_model.proofs.OnceLaws.{once_line, once_sent}
use Rattle.sq_model.proofs.PendingLaws.{WaitsOpen}
use Rattle.sq_model.proofs.SendLaws.{free_within}

apart : (a b : ℕ) → a < b → (a == b) ≡ false
apart a b l = grind (arith, nat_tests)

-- what was sent was put
pub sent_put : (m : Past) (q k : ℕ) → sent_to m q ≡ Some k → q ≤ put_count m
sent_put m q k e = by (nat_le q (put_count m)) refl
  where
    le : (a b : ℕ) → nat_le a b ≡ true → a ≤ b
    le a b t = grind (arith, nat_tests)

    gt : (a b : ℕ) → nat_le a b ≡ false → b < a
    gt a b t = grind (arith, nat_tests)

    by : (b : Bool) → nat_le q (put_count m) ≡ b → q ≤ put_count m
    by true t = le q (put_count m) t
    by false t = absurd (none-some k (sym (sent_above m q (gt q (put_count m) t)) ∙ e))

-- an event that changes no class
pub carried_untouched : (configs : List Configuration) (m : Past) (now : ℕ) (event : Event) (answer : Told)
    → touches_classes event ≡ false → Carried configs m
    → Carried configs (noted_at now event answer ∷ m)
carried_untouched configs m now (Step n) answer t c = absurd (cc)
carried_untouched configs m now (Started f name) answer t c = absurd (cc)
carried_untouched configs m now (StartFail f name) answer t c = absurd (cc)
carried_untouched configs m now (Line k bytes) answer t c = absurd (cc)
carried_untouched configs m now (Died k) answer t c = absurd (cc)
carried_untouched configs m now Act answer t c = absurd (cc)
carried_untouched configs m now (Reconfigure text) answer t c = absurd (cc)
carried_untouched configs m now event answer t c = record {
  waits_put = c.waits_put;
  sent_given = c.sent_given;
  sent_home = c.sent_home;
  home_class = c.home_class;
  starts_few = c.starts_few;
  later_unused = λ e l. let u = c.later_unused e l in
      record { none_put = u.none_put; none_home = u.none_home; none_started = u.none_started; none_held = u.none_held };
  slots_agree = c.slots_agree;
  holds_once = c.holds_once;
}

-- an act that is no send and no start
pub carried_stopped : (configs : List Configuration) (m : Past) (now : ℕ) (answer : Told) → is_farm_act answer ≡ false
    → Carried configs m → Carried configs (noted_at now Act answer ∷ m)
carried_stopped configs m now (told.Send p q channel key) t c = absurd (cc)
carried_stopped configs m now (told.Start f name) t c = absurd (cc)
carried_stopped configs m now answer t c = record {
  waits_put = c.waits_put;
  sent_given = c.sent_given;
  sent_home = c.sent_home;
  home_class = c.home_class;
  starts_few = c.starts_few;
  later_unused = λ e l. let u = c.later_unused e l in
      record { none_put = u.none_put; none_home = u.none_home; none_started = u.none_started; none_held = u.none_held };
  slots_agree = c.slots_agree;
  holds_once = c.holds_once;
}

-- a reconfiguration
pub carried_reconfigured : (configs : List Configuration) (m : Past) (now : ℕ) (text : List ℕ) (answer : Told)
    → Carried configs m → Carried configs (noted_at now (Reconfigure text) answer ∷ m)
carried_reconfigured configs m now text answer c = record {
  waits_put = c.waits_put;
  sent_given = c.sent_given;
  sent_home = c.sent_home;
  home_class = c.home_class;
  starts_few = c.starts_few;
  later_unused = λ e l. let u = c.later_unused e (omega arith) in
      record { none_put = u.none_put; none_home = u.none_home; none_started = u.none_started; none_held = u.none_held };
  slots_agree = c.slots_agree;
  holds_once = c.holds_once;
}

-- a start that was told, of an epoch that has begun
pub carried_starting : (configs : List Configuration) (m : Past) (now f : ℕ) (name : List ℕ) → f ≤ current (entries m)
    → Carried configs m
    → Carried configs (noted_at now Act (told.Start f name) ∷ m)
carried_starting configs m now f name begun c = record {
  waits_put = c.waits_put;
  sent_given = c.sent_given;
  sent_home = c.sent_home;
  home_class = c.home_class;
  starts_few = λ e n. more ((f == e) && bytes_eq name n) (settled_starts (entries m) e n) (start_count (entries m) e n)
      (c.starts_few e n);
  later_unused = λ e l. let u = c.later_unused e l in record {
    none_put = u.none_put;
    none_home = u.none_home;
    none_started = λ n.
        ap (λ (b : Bool). if b && bytes_eq name n then suc (start_count (entries m) e n)
        else start_count (entries m) e n) (apart f e (lower f (current (entries m)) e begun l)) ∙ u.none_started n;
    none_held = u.none_held;
  };
  slots_agree = c.slots_agree;
  holds_once = c.holds_once;
}
  where
    more : (b : Bool) (s n : ℕ) → s ≤ n → s ≤ (if b then suc n else n)
    more true s n l = omega arith
    more false s n l = l

    lower : (a b d : ℕ) → a ≤ b → b < d → a < d
    lower a b d x y = omega arith

settled_few : (configs : List Configuration) (m : Past) (f : ℕ) (name : List ℕ)
    → settled_starts (entries m) f name < start_count (entries m) f name → Carried configs m
    → (e : ℕ) (n : List ℕ) →
    (if (f == e) && bytes_eq name n then suc (settled_starts (entries m) e n) else settled_starts (entries m) e n)
    ≤ start_count (entries m) e n
settled_few configs m f name few c e n = by (f == e) (bytes_eq name n) refl refl
  where
    by : (a b : Bool) → (f == e) ≡ a → bytes_eq name n ≡ b
        → (if a && b then suc (settled_starts (entries m) e n) else settled_starts (entries m) e n)
        ≤ start_count (entries m) e n
    by true true fe nn =
        subst (λ (w : List ℕ). suc (settled_starts (entries m) e w) ≤ start_count (entries m) e w)
        (bytes_same name n nn)
        (subst (λ (i : ℕ). suc (settled_starts (entries m) i name) ≤ start_count (entries m) i name) (equal f e fe) few)
    by true false fe nn = c.starts_few e n
    by false b fe nn = c.starts_few e n

lower : (a b d : ℕ) → a ≤ b → b < d → a < d
lower a b d x y = omega arith

-- a start that failed, of an epoch that has begun, where one was open
pub carried_failed : (configs : List Configuration) (m : Past) (now f : ℕ) (name : List ℕ) (answer : Told)
    → f ≤ current (entries m)
    → settled_starts (entries m) f name < start_count (entries m) f name → Carried configs m
    → Carried configs (noted_at now (StartFail f name) answer ∷ m)
carried_failed configs m now f name answer begun few c = record {
  waits_put = c.waits_put;
  sent_given = c.sent_given;
  sent_home = c.sent_home;
  home_class = c.home_class;
  starts_few = settled_few configs m f name few c;
  later_unused = λ e l. let u = c.later_unused e l in record {
    none_put = u.none_put;
    none_home = u.none_home;
    none_started = u.none_started;
    none_held = λ d n. ap (λ (b : Bool). if b && bytes_eq name n then true else is_held m e d n)
        (apart f e (lower f (current (entries m)) e begun l)) ∙ u.none_held d n;
  };
  slots_agree = λ e d class at. agree_failed configs m now f name answer e class (c.slots_agree e d class at);
  holds_once = c.holds_once;
}

-- a process that is started, of an epoch that has begun, where a start was open
pub carried_started : (configs : List Configuration) (m : Past) (now f : ℕ) (name : List ℕ) (answer : Told)
    → f ≤ current (entries m) → HasClass configs f name
    → settled_starts (entries m) f name < start_count (entries m) f name → Carried configs m
    → Carried configs (noted_at now (Started f name) answer ∷ m)
carried_started configs m now f name answer begun has few c = record {
  waits_put = c.waits_put;
  sent_given = λ q k e. up k (proc_count (entries m)) (c.sent_given q k e);
  sent_home = λ q k e d s p.
      ap (λ (t : Bool). option_map_or (λ p. (p.epoch == e) && bytes_eq p.class (name_of_class configs e d))
      (option_or (if t then Some (record { epoch = f; class = name }) else None) (home_of (entries m) k))
      false) (not_next k (proc_count (entries m)) (c.sent_given q k s))
      ∙ c.sent_home q k e d s p;
  home_class = λ k p is. by_home k p (k == suc (proc_count (entries m))) is;
  starts_few = settled_few configs m f name few c;
  later_unused = λ e l. let u = c.later_unused e l in record {
    none_put = u.none_put;
    none_home = λ n k. away e n k (apart f e (lower f (current (entries m)) e begun l)) (u.none_home n k)
        (k == suc (proc_count (entries m)));
    none_started = u.none_started;
    none_held = u.none_held;
  };
  slots_agree = λ e d class at. agree_started configs m now f name answer e class c.sent_given
      (c.slots_agree e d class at);
  holds_once = λ e d class at k q runs. once e d class at k q runs (k == suc (proc_count (entries m))) refl;
}
  where
    up : (a b : ℕ) → a ≤ b → a ≤ suc b
    up a b l = omega arith

    by_home : (k : ℕ) (p : Home) (b : Bool)
        → option_or (if b then Some (record { epoch = f; class = name }) else None) (home_of (entries m) k) ≡ Some p
        → HasClass configs p.epoch p.class
    by_home k p true is = subst (λ (z : Home). HasClass configs z.epoch z.class) (same_Some _ _ is) has
    by_home k p false is = c.home_class k p is

    away : (e : ℕ) (n : List ℕ) (k : ℕ) → (f == e) ≡ false → is_at_home (entries m) e n k ≡ false → (b : Bool)
        → option_map_or (λ p. (p.epoch == e) && bytes_eq p.class n)
        (option_or (if b then Some (record { epoch = f; class = name }) else None) (home_of (entries m) k)) false
        ≡ false
    away e n k fe old true = ap (λ (b : Bool). b && bytes_eq name n) fe
    away e n k fe old false = old

    once : (e d : ℕ) (class : Class) → class_at configs e d ≡ Some class → (k q : ℕ)
        → runs_at (entries (noted_at now (Started f name) answer ∷ m)) e class.name k ≡ true
        → (b : Bool) → (k == suc (proc_count (entries m))) ≡ b → HoldsOnce class.concurrency (entries m) k q
    once e d class at k q runs true same =
        λ n j ln lj a b. absurd (none-some q
        (sym (holder_above (nat_lt 0 class.concurrency) (entries m) k (channel_name (nat_lt 0 class.concurrency) n)
        (subst (λ (i : ℕ). proc_count (entries m) < i) (sym (equal k (suc (proc_count (entries m))) same))
        (omega arith))) ∙ a))
    once e d class at k q runs false other =
        c.holds_once e d class at k q
        (sym (ap (λ (t : Bool). (option_map_or (λ p. (p.epoch == e) && bytes_eq p.class class.name)
        (option_or (if t then Some (record { epoch = f; class = name }) else None) (home_of (entries m) k)) false)
        && (is_some (option_or (if t then Some (record { epoch = f; class = name }) else None) (home_of (entries m) k))
        && not (is_some (proc_end (entries m) k)))) other) ∙ runs)

-- a death
pub carried_died : (configs : List Configuration) (m : Past) (now k : ℕ) (answer : Told) → Carried configs m
    → Carried configs (noted_at now (Died k) answer ∷ m)
carried_died configs m now k answer c = record {
  waits_put = c.waits_put;
  sent_given = c.sent_given;
  sent_home = c.sent_home;
  home_class = c.home_class;
  starts_few = c.starts_few;
  later_unused = λ e l. let u = c.later_unused e l in record {
    none_put = u.none_put;
    none_home = u.none_home;
    none_started = u.none_started;
    none_held = λ d n. stays (is_at_home (entries m) e n k) (is_held m e d n) (u.none_held d n);
  };
  slots_agree = λ e d class at. agree_died configs m now k answer e class (c.slots_agree e d class at);
  holds_once = λ e d class at j q runs. c.holds_once e d class
      at j q (still_runs configs m now k cause.Died (Died k) answer e class.name j (died_ends configs m k answer)
      runs).ran;
}
  where
    stays : (a b : Bool) → b ≡ false → (if a then false else b) ≡ false
    stays true b e = refl
    stays false b e = e

line_unused : (m : Past) (now k : ℕ) (bytes : List ℕ) (answer : Told) (e : ℕ) → IsUnused m e
    → IsUnused (noted_at now (Line k bytes) answer ∷ m) e
line_unused m now k bytes answer e u = record {
  none_put = u.none_put;
  none_home = u.none_home;
  none_started = u.none_started;
  none_held = λ d n. stays (is_at_home (entries m) e n k && is_some (ended_by (entries m) k (Line k bytes) answer))
      (is_held m e d n) (u.none_held d n);
}
  where
    stays : (a b : Bool) → b ≡ false → (if a then false else b) ≡ false
    stays true b e = refl
    stays false b e = e

-- a line outside the grammar
pub carried_bad : (configs : List Configuration) (m : Past) (now k : ℕ) (bytes : List ℕ) → Carried configs m
    → Carried configs (noted_at now (Line k bytes) told.Bad ∷ m)
carried_bad configs m now k bytes c = record {
  waits_put = c.waits_put;
  sent_given = c.sent_given;
  sent_home = c.sent_home;
  home_class = c.home_class;
  starts_few = c.starts_few;
  later_unused = λ e l. line_unused m now k bytes told.Bad e (c.later_unused e l);
  slots_agree = λ e d class at. agree_bad configs m now k bytes e class (c.slots_agree e d class at);
  holds_once = λ e d class at j q runs. once_line class.concurrency m now k bytes told.Bad j q
      (c.holds_once e d class at j q
      (still_runs configs m now k cause.BadReply (Line k bytes) told.Bad e class.name j (bad_ends configs m k bytes)
      runs).ran);
}

-- a line on a free channel
pub carried_stray : (configs : List Configuration) (m : Past) (now k : ℕ) (bytes : List ℕ) → Carried configs m
    → Carried configs (noted_at now (Line k bytes) told.Stray ∷ m)
carried_stray configs m now k bytes c = record {
  waits_put = c.waits_put;
  sent_given = c.sent_given;
  sent_home = c.sent_home;
  home_class = c.home_class;
  starts_few = c.starts_few;
  later_unused = λ e l. line_unused m now k bytes told.Stray e (c.later_unused e l);
  slots_agree = λ e d class at. agree_stray configs m now k bytes e class (c.slots_agree e d class at);
  holds_once = λ e d class at j q runs. once_line class.concurrency m now k bytes told.Stray j q
      (c.holds_once e d class at j q
      (still_runs configs m now k cause.Stray (Line k bytes) told.Stray e class.name j (stray_ends configs m k bytes)
      runs).ran);
}

-- a reply of the process that the question was sent to, on the question's channel alone
pub carried_replied : (configs : List Configuration) (m : Past) (now k : ℕ) (bytes : List ℕ) (q : ℕ) (w : Word)
    (v : What) → said_by configs m k bytes ≡ Some v → sent_to m q ≡ Some k
    → ((e d : ℕ) (class : Class) → class_at configs e d ≡ Some class → runs_at (entries m) e class.name k ≡ true
    → StandsOnlyOn class.concurrency (entries m) k bytes q)
    → Carried configs m → Carried configs (noted_at now (Line k bytes) (told.Reply q w) ∷ m)
carried_replied configs m now k bytes q w v says sent only c = record {
  waits_put = c.waits_put;
  sent_given = c.sent_given;
  sent_home = c.sent_home;
  home_class = c.home_class;
  starts_few = c.starts_few;
  later_unused = λ e l. line_unused m now k bytes (told.Reply q w) e (c.later_unused e l);
  slots_agree = λ e d class at. agree_replied configs m now k bytes q w v e class says sent (only e d class at)
      (sent_put m) (c.slots_agree e d class at);
  holds_once = λ e d class at j i runs. once_line class.concurrency m now k bytes (told.Reply q w) j i
      (c.holds_once e d class at j i runs);
}

-- a send of a question that waits, to a process of its class with a free channel
pub carried_sent : (configs : List Configuration) (m : Past) (now p q : ℕ) (channel : Option ℕ) (key : List ℕ)
    → sent_to m q ≡ None → q ≤ put_count m → p ≤ proc_count (entries m)
    → ((e d : ℕ) → is_put_for e d (put_of m q) ≡ true → is_at_home (entries m) e (name_of_class configs e d) p ≡ true)
    → ((e d : ℕ) (class : Class) → class_at configs e d ≡ Some class → runs_at (entries m) e class.name p ≡ true
    → IsSent configs m p q channel class.concurrency)
    → Carried configs m → Carried configs (noted_at now Act (told.Send p q channel key) ∷ m)
carried_sent configs m now p q channel key unsent high given home sending c = record {
  waits_put = c.waits_put;
  sent_given = λ i k e. by_given i k (i == q) refl e;
  sent_home = λ i k e d s t. by_home i k e d t (i == q) refl s;
  home_class = c.home_class;
  starts_few = c.starts_few;
  later_unused = λ e l. let u = c.later_unused e l in
      record { none_put = u.none_put; none_home = u.none_home; none_started = u.none_started; none_held = u.none_held };
  slots_agree = λ e d class at. agree_sent configs m now p q channel key e class (sending e d class at) unsent high
      (c.slots_agree e d class at);
  holds_once = λ e d class at k i runs. once_sent class.concurrency m now p q channel key k i
      (λ kp. c.slots_agree e d class at k q runs
      ∙ ap (λ (o : Option ℕ). is_number k o && not (has_ended configs m q)) unsent)
      (λ kp. place e d class at (ap (runs_at (entries m) e class.name) (sym kp) ∙ runs))
      (c.holds_once e d class at k i runs);
}
  where
    by_given : (i k : ℕ) (b : Bool) → (i == q) ≡ b
        → option_or (if_here (b && nat_le i (put_count m)) (Some p)) (sent_to m i) ≡ Some k → k ≤ proc_count (entries m)
    by_given i k true is e =
        subst (λ (j : ℕ). j ≤ proc_count (entries m))
        (same_Some _ _ (sym (ap (λ (b : Bool). option_or (if_here b (Some p)) (sent_to m i))
        (le-leb i (put_count m) (subst (λ (z : ℕ). z ≤ put_count m) (sym (equal i q is)) high))) ∙ e)) given
    by_given i k false is e = c.sent_given i k e

    by_home : (i k e d : ℕ) → is_put_for e d (put_of m i) ≡ true → (b : Bool) → (i == q) ≡ b
        → option_or (if_here (b && nat_le i (put_count m)) (Some p)) (sent_to m i) ≡ Some k
        → is_at_home (entries m) e (name_of_class configs e d) k ≡ true
    by_home i k e d t true is s =
        ap (is_at_home (entries m) e (name_of_class configs e d))
        (sym (same_Some _ _ (sym
        (ap (λ (b : Bool). option_or (if_here b (Some p)) (sent_to m i))
        (le-leb i (put_count m) (subst (λ (z : ℕ). z ≤ put_count m) (sym (equal i q is)) high))) ∙ s)))
        ∙ home e d (ap (λ (j : ℕ). is_put_for e d (put_of m j)) (sym (equal i q is)) ∙ t)
    by_home i k e d t false is s = c.sent_home i k e d s t

    place : (e d : ℕ) (class : Class) → class_at configs e d ≡ Some class → runs_at (entries m) e class.name p ≡ true
        → (n : ℕ) × (n < max 1 class.concurrency) × (channel ≡ channel_name (nat_lt 0 class.concurrency) n)
    place e d class at runs =
        let s = sending e d class at runs in (
          least_free (living_of class.concurrency (entries m) p).process.slots,
          free_within class.concurrency m p s.free,
          s.channel_is,
        )

put_kept : (m : Past) (en : Noted) (o : Option Put) (t : Option Answer) (q : ℕ) → is_some (put_of m q) ≡ true
    → is_some (put_of (record { entry = en; put = o; took = t } ∷ m) q) ≡ true
put_kept m en o t q e = by (numbered q (put_count m) o)
  where
    by : (x : Option Put) → is_some (option_or x (put_of m q)) ≡ true
    by None = e
    by (Some p) = refl

-- a step, whatever it says, where what it tells to wait for is put and what it puts is of an epoch that has begun
pub carried_stepped : (configs : List Configuration) (m : Past) (now n : ℕ) (s : StepSays) → WaitsOpen configs m s
    → ((p : Put) → s.put ≡ Some p → p.epoch ≤ current (entries m))
    → Carried configs m → Carried configs (stepped_at now n s ∷ m)
carried_stepped configs m now n s waits begun c = record {
  waits_put = λ k q e. waits_by k q (steps m k (Step n)) e;
  sent_given = c.sent_given;
  sent_home = λ q k e d sent put. c.sent_home q k e d sent (old_put s.put e d q (sent_put m q k sent) put);
  home_class = c.home_class;
  starts_few = c.starts_few;
  later_unused = λ e l. let u = c.later_unused e l in record {
    none_put = λ d q. new_put e d q (u.none_put d) s.put
        (λ p is. apart p.epoch e (lower p.epoch (current (entries m)) e (begun p is) l));
    none_home = u.none_home;
    none_started = u.none_started;
    none_held = λ d name. stays (is_put_for e d s.put || false) (is_held m e d name) (u.none_held d name);
  };
  slots_agree = c.slots_agree;
  holds_once = c.holds_once;
}
  where
    en : Noted
    en = record { moment = now; event = Step n; answer = s.answer }

    stays : (a b : Bool) → b ≡ false → (if a then false else b) ≡ false
    stays true b e = refl
    stays false b e = e

    told_put : (q : ℕ) → (is_some (put_of m q) ≡ true) ⊎ ((q ≡ suc (put_count m)) × (is_some s.put ≡ true))
        → is_some (put_of (stepped_at now n s ∷ m) q) ≡ true
    told_put q (inl e) = put_kept m en s.put s.took q e
    told_put q (inr e) = by s.put e.1
      where
        by : (o : Option Put) → is_some o ≡ true → is_some (option_or (numbered q (put_count m) o) (put_of m q)) ≡ true
        by None t = absurd (cc)
        by (Some p) t = ap (λ (b : Bool). is_some (option_or (if b then Some p else None) (put_of m q)))
            (ap (λ (k : ℕ). k == suc (put_count m)) e.0 ∙ itself (suc (put_count m)))

    waits_by : (k q : ℕ) (b : Bool) → (if b then waits_told s.answer else last_wait m k) ≡ Some q
        → is_some (put_of (stepped_at now n s ∷ m) q) ≡ true
    waits_by k q true e = told_put q (waits.waits_given q e)
    waits_by k q false e = put_kept m en s.put s.took q (c.waits_put k q e)

    old_put : (o : Option Put) (e d q : ℕ) → q ≤ put_count m
        → is_put_for e d (option_or (numbered q (put_count m) o) (put_of m q)) ≡ true
        → is_put_for e d (put_of m q) ≡ true
    old_put None e d q l t = t
    old_put (Some p) e d q l t = sym
        (ap (λ (b : Bool). is_put_for e d (option_or (if b then Some p else None) (put_of m q)))
        (not_next q (put_count m) l)) ∙ t

    by_number : (e d q : ℕ) (p : Put) (b : Bool) → (p.epoch == e) ≡ false → is_put_for e d (put_of m q) ≡ false
        → is_put_for e d (option_or (if b then Some p else None) (put_of m q)) ≡ false
    by_number e d q p true pe old = and_left (p.epoch == e) (p.class == d) pe
    by_number e d q p false pe old = old

    new_put : (e d q : ℕ) → ((q : ℕ) → is_put_for e d (put_of m q) ≡ false) → (o : Option Put)
        → ((p : Put) → o ≡ Some p → (p.epoch == e) ≡ false)
        → is_put_for e d (option_or (numbered q (put_count m) o) (put_of m q)) ≡ false
    new_put e d q old None other = old q
    new_put e d q old (Some p) other = by_number e d q p (q == suc (put_count m)) (other p refl) (old q)
