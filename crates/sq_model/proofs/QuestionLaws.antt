-- The questions of a legal history: one of a key has not ended, each is sent once at most, and what is sent was put.
use Rattle.std.proofs.Common.{Bool, List, None, Option, Some, ℕ, [], ap, ap₂, bytes_eq, false, if◌then◌else◌, inl, inr, is_some, length, nat_le, nat_lt, refl, subst, suc, sym, true, ◌&&◌, ◌==◌, ◌∙◌, ◌∷◌, ◌≡◌, ◌≤◌, ◌⊎◌}
use Rattle.std.specs.Option.{option_map_or, option_or}
use Rattle.std.proofs.lemmas.Bool.{le-leb}
use Rattle.std.proofs.lemmas.Option.{none-some, same_Some}
use Rattle.sq_base.specs.declared.helpers.Cause.TheVariants as cause
use Rattle.sq_machine.specs.declared.entries.Event.{Event}
use Rattle.sq_machine.specs.declared.entries.Event.TheVariants.{Act, Begin, Step}
use Rattle.sq_machine.specs.declared.entries.Told.{Told}
use Rattle.sq_machine.specs.declared.entries.Told.TheVariants as told
use Rattle.sq_machine.specs.declared.kept.CachedReply.{CachedReply}
use Rattle.sq_rules.specs.Classes.{Class}
use Rattle.sq_rules.specs.Configurations.{Configuration}
use Rattle.sq_machine.specs.Entries.{History}
use Rattle.sq_machine.specs.FarmReadings.{farm_with, is_put_for}
use Rattle.sq_machine.specs.Farms.{full}
use Rattle.sq_machine.specs.Freshness.{is_due}
use Rattle.sq_machine.specs.Machine.{Legal, next_at}
use Rattle.sq_machine.specs.KeptLists.{CachedReplies, fresh_for}
use Rattle.sq_machine.specs.KeptReadings.{kept}
use Rattle.sq_machine.specs.Limits.{key_limit}
use Rattle.sq_machine.specs.Events.{is_begin}
use Rattle.sq_machine.specs.Next.{gives}
use Rattle.sq_machine.specs.Marking.{mark, marked, says_at}
use Rattle.sq_machine.specs.Marks.{Marked, Past, Put}
use Rattle.sq_machine.specs.Processes.{if_here}
use Rattle.sq_machine.specs.Questions.{has_ended, pending, put_count, put_is, put_of, sends, sent_to}
use Rattle.sq_machine.specs.StepRule.{StepSays, refresh, says_asked, says_fault, says_fresh, says_kept, says_need, step_says}
use Rattle.sq_model.specs.Carried.{Carried, NamesOnce}
use Rattle.sq_model.specs.Faithful.{IsPutSo, IsSentSo, PutSo, SentSo, sending_of}
use Rattle.sq_model.specs.Given.{sends_question, times_sent}
use Rattle.sq_model.specs.Waits.{IsNeeded}
use Rattle.sq_model.proofs.ClassParts.{bytes_itself, equal}
use Rattle.sq_model.proofs.LegalLaws.{IsDueSend, legal_induction, next_acts, next_send}
use Rattle.sq_model.proofs.PendingLaws.{one_open, puts_need}
use Rattle.sq_model.proofs.RuleLaws.{SaysOf, need_says, step_is}

-- two questions of one epoch, class and key that have not ended are one
pub one_question : (configs : List Configuration) (h : History) (e c : ℕ) (key : List ℕ) (q r : ℕ)
    → q ≤ put_count (marked configs h) → r ≤ put_count (marked configs h)
    → put_is e c key (put_of (marked configs h) q) ≡ true → put_is e c key (put_of (marked configs h) r) ≡ true
    → has_ended configs (marked configs h) q ≡ false → has_ended configs (marked configs h) r ≡ false → q ≡ r
one_question configs h e c key q r lq lr pq pr eq er =
    let one = one_open configs h in
    same_Some _ _ (sym (one.last_open e c key q lq pq eq) ∙ one.last_open e c key r lr pr er)

-- a question was sent as often as it has a process
pub record SentOnce (m : Past) : Type 0 where
  pub once : (q : ℕ) → times_sent m q ≡ (if is_some (sent_to m q) then 1 else 0)

no_send : (m : Past) (q : ℕ) (event : Event) (answer : Told) → sends_question q event answer ≡ false
    → sends m q event answer ≡ None
no_send m q Act (told.Send p r channel key) e = ap (λ (b : Bool). if_here (b && nat_le q (put_count m)) (Some p)) e
no_send m q Act answer e = refl
no_send m q event answer e = refl

not_sent : (m : Past) (x : Marked) (q : ℕ) → SentOnce m → sends_question q x.entry.event x.entry.answer ≡ false
    → times_sent (x ∷ m) q ≡ (if is_some (sent_to (x ∷ m) q) then 1 else 0)
not_sent m x q s e =
    ap (λ (b : Bool). if b then suc (times_sent m q) else times_sent m q) e ∙ s.once q
    ∙ sym (ap (λ (o : Option ℕ). if is_some (option_or o (sent_to m q)) then 1 else 0)
    (no_send m q x.entry.event x.entry.answer e))

sent_more : (configs : List Configuration) (m : Past) (now p r : ℕ) (channel : Option ℕ) (key : List ℕ) (q : ℕ)
    (b : Bool) → (q == r) ≡ b → IsDueSend configs m p r channel key → SentOnce m
    → (if b then suc (times_sent m q) else times_sent m q)
    ≡ (if is_some (option_or (if_here (b && nat_le q (put_count m)) (Some p)) (sent_to m q)) then 1 else 0)
sent_more configs m now p r channel key q true same d s =
    ap suc (s.once q ∙ ap (λ (o : Option ℕ). if is_some o then 1 else 0) (ap (sent_to m) (equal q r same) ∙ d.unsent))
    ∙ sym (ap (λ (b : Bool). if is_some (option_or (if_here b (Some p)) (sent_to m q)) then 1 else 0)
    (le-leb q (put_count m) (subst (λ (i : ℕ). i ≤ put_count m) (sym (equal q r same)) d.given)))
sent_more configs m now p r channel key q false other d s = s.once q

once_next : (configs : List Configuration) (m : Past) (now : ℕ) (event : Event) (answer : Told)
    → next_at configs m now event ≡ gives answer → Carried configs m → SentOnce m
    → SentOnce (mark configs m (record { moment = now; event = event; answer = answer }) ∷ m)
once_next configs m now Act (told.Send p r channel key) e c s =
    record {
      once = λ q. sent_more configs m now p r channel key q (q == r) refl
          (next_send configs m p r channel key (next_acts configs m now (told.Send p r channel key) e)) s;
    }
once_next configs m now Act answer e c s = record {
  once =
      λ q. not_sent m (mark configs m (record { moment = now; event = Act; answer = answer })) q s refl;
}
once_next configs m now event answer e c s = record {
  once =
      λ q. not_sent m (mark configs m (record { moment = now; event = event; answer = answer })) q s refl;
}

once_first : (configs : List Configuration) (now : ℕ) (event : Event) (answer : Told) → is_begin event ≡ true
    → SentOnce (mark configs [] (record { moment = now; event = event; answer = answer }) ∷ [])
once_first configs now (Begin offset) answer b = record { once = λ q. refl }
once_first configs now event answer b = absurd (cc)

-- each question of a legal history is sent once at most
pub sent_once : (configs : List Configuration) (h : History) → NamesOnce configs → Legal configs h
    → SentOnce (marked configs h)
sent_once configs h once legal =
    (legal_induction configs SentOnce once (λ x b. once_first configs x.moment x.event x.answer b)
    (λ m now event answer e c s. once_next configs m now event answer e c s) h legal).1

-- and what is sent was put, was sent nowhere and has not ended
pub send_put : (configs : List Configuration) (m : Past) (now p q : ℕ) (channel : Option ℕ) (key : List ℕ)
    → next_at configs m now Act ≡ gives (told.Send p q channel key)
    → IsDueSend configs m p q channel key
send_put configs m now p q channel key e = next_send configs m p q channel key
    (next_acts configs m now (told.Send p q channel key) e)

-- a question is put where no verdict of its key is fresh, or a refresh of it is due
pub record PutsNeeded (class : Class) (now : ℕ) (v : Option CachedReply) (s : StepSays) : Type 0 where
  pub needed : (q : Put) → s.put ≡ Some q
      → (v ≡ None) ⊎ ((w : CachedReply) × (v ≡ Some w) × (is_due class w now ≡ true))

needed_asked : (class : Class) (name : List ℕ) (p : Put) (now : ℕ) (o : Option ℕ) (f : Bool) (count : ℕ)
    → PutsNeeded class now None (says_asked name p now o f count)
needed_asked class name p now o f count = record { needed = λ q e. inl refl }

needed_kept : (class : Class) (name : List ℕ) (p : Put) (v : CachedReply) (now : ℕ) (due : Bool) (o : Option ℕ)
    (f : Bool) → is_due class v now ≡ due
    → PutsNeeded class now (Some v) (says_kept name p v now (refresh due o f p))
needed_kept class name p v now true o f is = record { needed = λ q e. inr (v, refl, is) }
needed_kept class name p v now false o f is = record { needed = λ q e. absurd (none-some q e) }

needed_fresh : (class : Class) (p : Put) (now : ℕ) (v : Option CachedReply) (o : Option ℕ) (f : Bool) (count : ℕ)
    → PutsNeeded class now v (says_fresh class p now v o f count)
needed_fresh class p now (Some v) o f count = needed_kept class class.name p v now (is_due class v now) o f refl
needed_fresh class p now None o f count = needed_asked class class.name p now o f count

-- so the rule of a step puts it
pub puts_needed : (class : Class) (p : Put) (now : ℕ) (k : CachedReplies) (o : Option ℕ) (f : Bool) (count : ℕ)
    → PutsNeeded class now (fresh_for class p.key now k) (says_need class p now k o f count)
puts_needed class p now k o f count = by (nat_lt key_limit (length p.key))
  where
    by : (b : Bool) → PutsNeeded class now (fresh_for class p.key now k)
        (if b then says_fault class.name p cause.KeyTooLong now
        else says_fresh class p now (fresh_for class p.key now k) o f count)
    by true = record { needed = λ q e. absurd (none-some q e) }
    by false = needed_fresh class p now (fresh_for class p.key now k) o f count

-- the rule puts a question where the key is not too long and there is room
record PutsWithin (p : Put) (f : Bool) (s : StepSays) : Type 0 where
  short : (q : Put) → s.put ≡ Some q → nat_lt key_limit (length p.key) ≡ false
  room : (q : Put) → s.put ≡ Some q → f ≡ false

within_none : (p : Put) (f : Bool) (s : StepSays) → s.put ≡ None → PutsWithin p f s
within_none p f s e = record {
  short = λ q is. absurd (none-some q (sym e ∙ is));
  room = λ q is. absurd (none-some q (sym e ∙ is));
}

puts_within : (class : Class) (p : Put) (now : ℕ) (k : CachedReplies) (o : Option ℕ) (f : Bool) (count : ℕ)
    → PutsWithin p f (says_need class p now k o f count)
puts_within class p now k o f count = by (nat_lt key_limit (length p.key)) refl
  where
    of_asked : nat_lt key_limit (length p.key) ≡ false → (o : Option ℕ) (f : Bool)
        → PutsWithin p f (says_asked class.name p now o f count)
    of_asked short (Some q) f = within_none p f (says_asked class.name p now (Some q) f count) refl
    of_asked short None true = within_none p true (says_asked class.name p now None true count) refl
    of_asked short None false = record { short = λ q is. short; room = λ q is. refl }

    of_kept : nat_lt key_limit (length p.key) ≡ false → (v : CachedReply) (due : Bool) (o : Option ℕ) (f : Bool)
        → PutsWithin p f (says_kept class.name p v now (refresh due o f p))
    of_kept short v true None false = record { short = λ q is. short; room = λ q is. refl }
    of_kept short v true None true = within_none p true (says_kept class.name p v now None) refl
    of_kept short v true (Some q) f = within_none p f (says_kept class.name p v now None) refl
    of_kept short v false o f = within_none p f (says_kept class.name p v now None) refl

    of_fresh : nat_lt key_limit (length p.key) ≡ false → (v : Option CachedReply)
        → PutsWithin p f (says_fresh class p now v o f count)
    of_fresh short None = of_asked short o f
    of_fresh short (Some v) = of_kept short v (is_due class v now) o f

    by : (b : Bool) → nat_lt key_limit (length p.key) ≡ b
        → PutsWithin p f (if b then says_fault class.name p cause.KeyTooLong now
        else says_fresh class p now (fresh_for class p.key now k) o f count)
    by true long = within_none p f (says_fault class.name p cause.KeyTooLong now) refl
    by false short = of_fresh short (fresh_for class p.key now k)

put_for_need : (configs : List Configuration) (m : Past) (n now : ℕ) (p : Put) (d : IsNeeded configs m n)
    → (need_says configs m n now d).put ≡ Some p → IsPutSo configs m now (Step n) p
put_for_need configs m n now p d is =
    let it : Put = record { epoch = d.asked.epoch; class = d.place; key = d.key } in
    let k : CachedReplies = kept configs m d.asked.epoch d.place in
    let o : Option ℕ = pending configs m d.asked.epoch d.place d.key in
    let f : Bool = full (farm_with configs m d.asked.epoch d.place d.class) in
    let fresh = (puts_need d.class it now k o f (put_count m)).fresh p is in
    let within = puts_within d.class it now k o f (put_count m) in
    record {
      check = n;
      event_is = refl;
      needed = d;
      put_is_it = fresh.0;
      short = within.short p is;
      stale_or_due = (puts_needed d.class it now k o f (put_count m)).needed p is;
      none_pending = fresh.1;
      room = within.room p is;
    }

put_at_step : (configs : List Configuration) (m : Past) (n now : ℕ) (p : Put) → (step_says configs m n now).put ≡ Some p
    → IsPutSo configs m now (Step n) p
put_at_step configs m n now p is = by (step_is configs m n now)
  where
    by : SaysOf configs m n now (step_says configs m n now) → IsPutSo configs m now (Step n) p
    by (inl done) = absurd (none-some p (sym (ap (λ (s : StepSays). s.put) done) ∙ is))
    by (inr r) = put_for_need configs m n now p r.needed (sym (ap (λ (s : StepSays). s.put) r.is) ∙ is)

-- each question of a history is put at a step of a check that needs its key,
-- where no verdict of it is fresh or a refresh is due, none is pending, and there is room
pub put_so : (configs : List Configuration) (m : Past) (now : ℕ) (event : Event) (o : Option Put)
    → (says_at configs m now event).put ≡ o → PutSo configs m now event o
put_so configs m now event None is = tt
put_so configs m now (Step n) (Some p) is = put_at_step configs m n now p is
put_so configs m now event (Some p) is = absurd (none-some p is)

put_with_key : (e c : ℕ) (key : List ℕ) (o : Option Put) → is_put_for e c o ≡ true
    → option_map_or (λ p. p.key) o [] ≡ key → put_is e c key o ≡ true
put_with_key e c key None t same = absurd (cc)
put_with_key e c key (Some p) t same = ap₂ (λ (a b : Bool). a && b) t
    (ap (bytes_eq p.key) (sym same) ∙ bytes_itself p.key)

send_so : (configs : List Configuration) (m : Past) (now p q : ℕ) (channel : Option ℕ) (key : List ℕ)
    → next_at configs m now Act ≡ gives (told.Send p q channel key)
    → IsSentSo configs m (record { proc = p; question = q; channel = channel; text = key })
send_so configs m now p q channel key e =
    let d = send_put configs m now p q channel key e in
    record {
      epoch = d.epoch;
      place = d.place;
      class = d.class;
      class_is = d.class_is;
      put_is_it = put_with_key d.epoch d.place key (put_of m q) d.put d.key_is;
      runs = d.runs;
      free = d.free;
      channel_is = d.channel_is;
      unsent = d.unsent;
      unended = d.unended;
    }

-- each send is of a question that was put for the process's class, with the key that is sent
pub sent_so : (configs : List Configuration) (m : Past) (now : ℕ) (event : Event) (answer : Told)
    → next_at configs m now event ≡ gives answer → SentSo configs m (sending_of event answer)
sent_so configs m now Act (told.Send p q channel key) e = send_so configs m now p q channel key e
sent_so configs m now Act answer e = tt
sent_so configs m now event answer e = tt
