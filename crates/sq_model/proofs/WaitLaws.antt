-- A check that waits for a question needs the key that the question was put for,
-- and nothing fresh is kept of it: a step of it says to wait for that question, puts nothing and takes nothing.
use Rattle.std.proofs.Common.{◌≡◌, ◌⊎◌, inl, inr, ℕ, suc, ◌≤◌, ◌-◌, ◌*◌, List, [], ◌∷◌, ◌++◌, append-nil, Bool, true, false, ◌&&◌, ◌==◌, nat_le, nat_lt, length, if◌then◌else◌, Option, Some, None, option_to_list, refl, sym, ap, ap₂, subst, ◌∙◌, arith}
use Rattle.std.specs.Option.{option_map_or, option_or}
use Rattle.std.proofs.lemmas.Bool.{and_parts}
use Rattle.std.proofs.lemmas.Bool.Decides.{nat_tests}
use Rattle.std.proofs.lemmas.Option.{none-some, same_Some}
use Rattle.sq_base.specs.declared.helpers.Answer.{Answer}
use Rattle.sq_base.specs.declared.helpers.Cause.TheVariants as cause
use Rattle.sq_base.specs.declared.helpers.What.{What}
use Rattle.sq_machine.specs.declared.entries.Event.{Event}
use Rattle.sq_machine.specs.declared.entries.Event.TheVariants.{Begin, Step}
use Rattle.sq_machine.specs.declared.entries.Told.{Told}
use Rattle.sq_machine.specs.declared.entries.Told.TheVariants as told
use Rattle.sq_machine.specs.declared.kept.CachedReply.{CachedReply}
use Rattle.sq_machine.specs.AnswerReadings.{answer_by, answers, ended_answer, last_wait, steps, waits_for, waits_told}
use Rattle.sq_machine.specs.Checks.{ask_count, ask_of, numbered}
use Rattle.sq_rules.specs.Classes.{Class}
use Rattle.sq_rules.specs.Configurations.{Configuration}
use Rattle.sq_machine.specs.Entries.{History}
use Rattle.sq_machine.specs.Events.{Asking, asking, is_begin}
use Rattle.sq_machine.specs.FarmReadings.{farm_with}
use Rattle.sq_machine.specs.Farms.{full}
use Rattle.sq_machine.specs.Freshness.{is_fresh, ttl_of}
use Rattle.sq_machine.specs.Machine.{Legal, next_at}
use Rattle.sq_machine.specs.KeptLists.{fresh_for, if_fresh, verdict_of}
use Rattle.sq_machine.specs.KeptReadings.{after_took, kept}
use Rattle.sq_machine.specs.Limits.{key_limit}
use Rattle.sq_machine.specs.Next.{gives}
use Rattle.sq_machine.specs.Marking.{mark, marked, says_at}
use Rattle.sq_machine.specs.Marks.{Marked, Past, Put, entries}
use Rattle.sq_machine.specs.Questions.{end_at, has_ended, last_put, pending, put_count, put_is, put_of, unended}
use Rattle.sq_machine.specs.Readings.{latest}
use Rattle.sq_machine.specs.StepRule.{StepSays, says_asked, says_fault, says_fresh, step_says, value_over}
use Rattle.sq_machine.proofs.CheckLaws.{ask_of_kept}
use Rattle.sq_model.specs.Carried.{Carried, NamesOnce}
use Rattle.sq_model.specs.Waits.{IsNeeded, NeedsPut, NoneLater}
use Rattle.sq_model.proofs.CheckLaws.{answer_by_none}
use Rattle.sq_model.proofs.ClassParts.{bytes_itself, equal, itself}
use Rattle.sq_model.proofs.LegalLaws.{legal_induction, next_steps}
use Rattle.sq_model.proofs.NumberLaws.{last_wait_above, new_number}
use Rattle.sq_model.proofs.PendingLaws.{OneOpen, last_put_is, mark_new, one_more}
use Rattle.sq_model.proofs.RuleLaws.{SaysOf, need_says, need_step, step_is}
use Rattle.sq_model.proofs.StayLaws.{kept_stays, put_within, still_open, still_put}

-- what a step finds that tells check n to wait for question q
record FindsNone (configs : List Configuration) (m : Past) (n now q : ℕ) (s : StepSays) : Type 0 where
  needed : IsNeeded configs m n
  short : nat_lt key_limit (length needed.key) ≡ false
  none_fresh : fresh_for needed.class needed.key now (kept configs m needed.asked.epoch needed.place) ≡ None
  took_none : s.took ≡ None
  put_or : ((pending configs m needed.asked.epoch needed.place needed.key ≡ Some q) × (s.put ≡ None))
      ⊎ ((s.put ≡ Some (record { epoch = needed.asked.epoch; class = needed.place; key = needed.key }))
      × (q ≡ suc (put_count m)))

finds_asked : (configs : List Configuration) (m : Past) (n now q : ℕ) (d : IsNeeded configs m n) (o : Option ℕ)
    (f : Bool) → pending configs m d.asked.epoch d.place d.key ≡ o
    → nat_lt key_limit (length d.key) ≡ false
    → fresh_for d.class d.key now (kept configs m d.asked.epoch d.place) ≡ None
    → waits_told (says_asked d.class.name (record { epoch = d.asked.epoch; class = d.place; key = d.key }) now o f
    (put_count m)).answer ≡ Some q
    → FindsNone configs m n now q
    (says_asked d.class.name (record { epoch = d.asked.epoch; class = d.place; key = d.key }) now o f (put_count m))
finds_asked configs m n now q d (Some r) f p short none w =
    record { needed = d; short = short; none_fresh = none; took_none = refl; put_or = inl (p ∙ w, refl) }
finds_asked configs m n now q d None true p short none w = absurd (none-some q w)
finds_asked configs m n now q d None false p short none w =
    record {
      needed = d;
      short = short;
      none_fresh = none;
      took_none = refl;
      put_or = inr (refl, sym (same_Some _ _ w));
    }

finds_need : (configs : List Configuration) (m : Past) (n now q : ℕ) (d : IsNeeded configs m n)
    → waits_told (need_says configs m n now d).answer ≡ Some q
    → FindsNone configs m n now q (need_says configs m n now d)
finds_need configs m n now q d w = by (nat_lt key_limit (length d.key)) refl w
  where
    p : Put
    p = record { epoch = d.asked.epoch; class = d.place; key = d.key }

    pends : Option ℕ
    pends = pending configs m d.asked.epoch d.place d.key

    fills : Bool
    fills = full (farm_with configs m d.asked.epoch d.place d.class)

    fresh : nat_lt key_limit (length d.key) ≡ false → (v : Option CachedReply)
        → fresh_for d.class d.key now (kept configs m d.asked.epoch d.place) ≡ v
        → waits_told (says_fresh d.class p now v pends fills (put_count m)).answer ≡ Some q
        → FindsNone configs m n now q (says_fresh d.class p now v pends fills (put_count m))
    fresh short None is w = finds_asked configs m n now q d pends fills refl short is w
    fresh short (Some v) is w = absurd (none-some q w)

    by : (b : Bool) → nat_lt key_limit (length d.key) ≡ b
        → waits_told (if b then says_fault d.class.name p cause.KeyTooLong now
        else says_fresh d.class p now (fresh_for d.class d.key now (kept configs m d.asked.epoch d.place)) pends fills
        (put_count m)).answer ≡ Some q
        → FindsNone configs m n now q
        (if b then says_fault d.class.name p cause.KeyTooLong now
        else says_fresh d.class p now (fresh_for d.class d.key now (kept configs m d.asked.epoch d.place)) pends fills
        (put_count m))
    by true long w = absurd (none-some q w)
    by false short w = fresh short (fresh_for d.class d.key now (kept configs m d.asked.epoch d.place)) refl w

-- a step that tells to wait finds nothing fresh, and takes nothing
finds : (configs : List Configuration) (m : Past) (n now q : ℕ) → waits_told (step_says configs m n now).answer ≡ Some q
    → FindsNone configs m n now q (step_says configs m n now)
finds configs m n now q w = by (step_is configs m n now)
  where
    by : SaysOf configs m n now (step_says configs m n now) → FindsNone configs m n now q (step_says configs m n now)
    by (inl e) = absurd (none-some q (sym (ap (λ (s : StepSays). waits_told s.answer) e) ∙ w))
    by (inr r) =
        subst (FindsNone configs m n now q) (sym r.is)
        (finds_need configs m n now q r.needed (sym (ap (λ (s : StepSays). waits_told s.answer) r.is) ∙ w))

-- what is so of a past in which checks wait
pub record WaitsNeeded (configs : List Configuration) (m : Past) : Type 0 where
  pub one : OneOpen configs m
  pub needs : (n q : ℕ) → waits_for configs m n ≡ Some q → NeedsPut configs m n q

needed_more : (configs : List Configuration) (m : Past) (x : Marked) (n : ℕ) → IsNeeded configs m n
    → ask_of (entries (x ∷ m)) n ≡ ask_of (entries m) n
    → answers configs (x ∷ m) n ≡ answers configs m n → IsNeeded configs (x ∷ m) n
needed_more configs m x n d ask same = record {
  asked = d.asked;
  acl = d.acl;
  key = d.key;
  place = d.place;
  class = d.class;
  ask_is = ask ∙ d.ask_is;
  value_is = ap (value_over configs d.asked) same ∙ d.value_is;
  place_is = d.place_is;
  class_is = d.class_is;
}

-- a question, where it has not ended
unended_is : (configs : List Configuration) (m : Past) (o : Option ℕ) (q : ℕ) → unended configs m o ≡ Some q
    → (o ≡ Some q) × (has_ended configs m q ≡ false)
unended_is configs m None q e = absurd (none-some q e)
unended_is configs m (Some a) q e = by (has_ended configs m a) refl e
  where
    by : (b : Bool) → has_ended configs m a ≡ b → (if b then None else Some a) ≡ Some q
        → (Some a ≡ Some q) × (has_ended configs m q ≡ false)
    by true is e = absurd (none-some q e)
    by false is e = (e, ap (has_ended configs m) (sym (same_Some _ _ e)) ∙ is)

-- what is not fresh is not fresh later
stale_later : (class : Class) (v : CachedReply) (a b : ℕ) → a ≤ b → is_fresh class v a ≡ false
    → is_fresh class v b ≡ false
stale_later class v a b l e = by v.date (ttl_of class v.what * 1000) a b l e
  where
    up : (d a b : ℕ) → a ≤ b → a - d ≤ b - d
    up d a b l = omega arith

    over : (x y t : ℕ) → x ≤ y → nat_lt x t ≡ false → nat_lt y t ≡ false
    over x y t l e = grind (arith, nat_tests)

    by : (d t a b : ℕ) → a ≤ b → nat_lt (a - d) t ≡ false → nat_lt (b - d) t ≡ false
    by d t a b l e = over (a - d) (b - d) t (up d a b l) e

not_fresh : (class : Class) (now : ℕ) (o : Option CachedReply) (v : CachedReply) → if_fresh class now o ≡ None
    → o ≡ Some v → is_fresh class v now ≡ false
not_fresh class now None v e is = absurd (none-some v is)
not_fresh class now (Some w) v e is = ap (λ (z : CachedReply). is_fresh class z now) (sym (same_Some _ _ is))
    ∙ by (is_fresh class w now) e
  where
    by : (b : Bool) → (if b then Some w else None) ≡ None → b ≡ false
    by true e = absurd (none-some w (sym e))
    by false e = refl

none_fresh : (class : Class) (now : ℕ) (o : Option CachedReply)
    → ((v : CachedReply) → o ≡ Some v → is_fresh class v now ≡ false) → if_fresh class now o ≡ None
none_fresh class now None e = refl
none_fresh class now (Some v) e = ap (λ (b : Bool). if b then Some v else None) (e v refl)

-- the check that was stepped
pub told_needs : (configs : List Configuration) (m : Past) (now n : ℕ) (answer : Told) (q : ℕ)
    → next_at configs m now (Step n) ≡ gives answer → steps m n (Step n) ≡ true
    → waits_told answer ≡ Some q
    → NeedsPut configs (mark configs m (record { moment = now; event = Step n; answer = answer }) ∷ m) n q
unfolding needed_more finds
told_needs configs m now n answer q is here w = record {
  needed = needed_more configs m x n f.needed (ask_of_kept x.entry (entries m) n refl) same;
  short = f.short;
  put_is_it = by f.put_or;
  stale = λ t v nl e. stale_later f.needed.class v now t nl.0
      (not_fresh f.needed.class now (verdict_of f.needed.key (kept configs m f.needed.asked.epoch f.needed.place)) v
      f.none_fresh
      (sym (ap (λ (o : Option Answer). verdict_of f.needed.key
      (after_took (option_map_or (λ a. a.epoch == f.needed.asked.epoch) (ask_of (entries m) n) false) f.needed.place o
      (kept configs m f.needed.asked.epoch f.needed.place))) f.took_none) ∙ e));
}
  where
    s : StepSays
    s = step_says configs m n now

    x : Marked
    x = mark configs m (record { moment = now; event = Step n; answer = answer })

    f : FindsNone configs m n now q s
    f = finds configs m n now q (ap waits_told (next_steps configs m now n answer is) ∙ w)

    same : answers configs (x ∷ m) n ≡ answers configs m n
    same =
        ap (λ (b : Bool). answers configs m n
        ++ option_to_list (if b then s.took else ended_answer configs m (waits_for configs m n) now (Step n) answer))
        here
        ∙ ap (λ (o : Option Answer). answers configs m n ++ option_to_list o) f.took_none
        ∙ append-nil (answers configs m n)

    by : ((pending configs m f.needed.asked.epoch f.needed.place f.needed.key ≡ Some q) × (s.put ≡ None))
        ⊎ ((s.put ≡ Some (record { epoch = f.needed.asked.epoch; class = f.needed.place; key = f.needed.key }))
        × (q ≡ suc (put_count m)))
        → put_is f.needed.asked.epoch f.needed.place f.needed.key
        (option_or (numbered q (put_count m) s.put) (put_of m q)) ≡ true
    by (inl p) =
        ap (λ (o : Option Put). put_is f.needed.asked.epoch f.needed.place f.needed.key
        (option_or (numbered q (put_count m) o) (put_of m q))) p.1
        ∙ (last_put_is m f.needed.asked.epoch f.needed.place f.needed.key q
        (unended_is configs m (last_put m f.needed.asked.epoch f.needed.place f.needed.key) q p.0).0).put_is_it
    by (inr p) =
        ap (λ (o : Option Put). put_is f.needed.asked.epoch f.needed.place f.needed.key
        (option_or (numbered q (put_count m) o) (put_of m q))) p.0
        ∙ ap (λ (b : Bool). put_is f.needed.asked.epoch f.needed.place f.needed.key
        (option_or (if b then Some (record { epoch = f.needed.asked.epoch; class = f.needed.place; key = f.needed.key })
        else None) (put_of m q)))
        (ap (λ (j : ℕ). j == suc (put_count m)) p.1 ∙ itself (suc (put_count m)))
        ∙ ap₂ (λ (a b : Bool). a && b)
        (ap₂ (λ (a b : Bool). a && b) (itself f.needed.asked.epoch) (itself f.needed.place)) (bytes_itself f.needed.key)

stepped_needs : (configs : List Configuration) (m : Past) (now : ℕ) (event : Event) (answer : Told) (n q : ℕ)
    → next_at configs m now event ≡ gives answer → steps m n event ≡ true
    → waits_told answer ≡ Some q
    → NeedsPut configs (mark configs m (record { moment = now; event = event; answer = answer }) ∷ m) n q
stepped_needs configs m now (Step k) answer n q is here w =
    let same = equal n k (and_parts (n == k) (nat_le n (ask_count (entries m))) here).0 in
    subst (λ (i : ℕ). NeedsPut configs (mark configs m (record { moment = now; event = Step i; answer = answer }) ∷ m) n
    q) same
    (told_needs configs m now n answer q (ap (λ (i : ℕ). next_at configs m now (Step i)) same ∙ is)
    (ap (λ (i : ℕ). steps m n (Step i)) same ∙ here) w)
stepped_needs configs m now event answer n q is here w = absurd (let no : false ≡ true = here in cc)

-- a check that waited before
kept_needs : (configs : List Configuration) (m : Past) (now : ℕ) (event : Event) (answer : Told) (n q : ℕ)
    → NamesOnce configs → next_at configs m now event ≡ gives answer → Carried configs m
    → WaitsNeeded configs m → steps m n event ≡ false → last_wait m n ≡ Some q
    → has_ended configs (mark configs m (record { moment = now; event = event; answer = answer }) ∷ m) q ≡ false
    → NeedsPut configs (mark configs m (record { moment = now; event = event; answer = answer }) ∷ m) n q
unfolding needed_more
kept_needs configs m now event answer n q once is c w other last live = record {
  needed = needed_more configs m x n d.needed ask same;
  short = d.short;
  put_is_it = still_put m x d.needed.asked.epoch d.needed.place d.needed.key q d.put_is_it;
  stale = λ t v nl e. d.stale t v nl.1
      ((kept_stays configs m now event answer d.needed.asked.epoch d.needed.place d.needed.key q once is c w.one
      d.put_is_it live).stays v e);
}
  where
    x : Marked
    x = mark configs m (record { moment = now; event = event; answer = answer })

    was : (has_ended configs m q ≡ false) × (end_at configs m q event answer ≡ None)
    was = still_open configs m x q live

    waited : waits_for configs m n ≡ Some q
    waited = ap (unended configs m) last ∙ ap (λ (b : Bool). if b then None else Some q) was.0

    d : NeedsPut configs m n q
    d = w.needs n q waited

    begun : (o : Option Asking) → numbered n (ask_count (entries m)) (asking event) ≡ o
        → numbered n (ask_count (entries m)) (asking event) ≡ None
    begun None e = e
    begun (Some a) e = absurd
        (none-some q (sym (last_wait_above m n (new_number n (ask_count (entries m)) (asking event) a e)) ∙ last))

    ask : ask_of (entries (x ∷ m)) n ≡ ask_of (entries m) n
    ask = ask_of_kept x.entry (entries m) n (begun (numbered n (ask_count (entries m)) (asking event)) refl)

    same : answers configs (x ∷ m) n ≡ answers configs m n
    same =
        ap (λ (b : Bool). answers configs m n
        ++ option_to_list (if b then x.took else ended_answer configs m (waits_for configs m n) now event answer)) other
        ∙ ap (λ (o : Option ℕ). answers configs m n ++ option_to_list (ended_answer configs m o now event answer))
        waited
        ∙ ap (λ (o : Option What). answers configs m n ++ option_to_list (answer_by now q (put_of m q) o)) was.1
        ∙ ap (λ (o : Option Answer). answers configs m n ++ option_to_list o) (answer_by_none now q (put_of m q))
        ∙ append-nil (answers configs m n)

-- an entry whose answer is the next keeps it so
pub needs_next : (configs : List Configuration) (m : Past) (now : ℕ) (event : Event) (answer : Told) → NamesOnce configs
    → next_at configs m now event ≡ gives answer → Carried configs m
    → WaitsNeeded configs m → WaitsNeeded configs
    (mark configs m (record { moment = now; event = event; answer = answer }) ∷ m)
needs_next configs m now event answer once is c w = record {
  one = one_more configs m (record { moment = now; event = event; answer = answer }) (says_at configs m now event).put
      (says_at configs m now event).took (mark_new configs m now event) w.one;
  needs = λ n q e. let u = unended_is configs (x ∷ m) (last_wait (x ∷ m) n) q e in
      by n q (steps m n event) refl u.0 u.1;
}
  where
    x : Marked
    x = mark configs m (record { moment = now; event = event; answer = answer })

    by : (n q : ℕ) (b : Bool) → steps m n event ≡ b → (if b then waits_told answer else last_wait m n) ≡ Some q
        → has_ended configs (x ∷ m) q ≡ false → NeedsPut configs (x ∷ m) n q
    by n q true here l live = stepped_needs configs m now event answer n q is here l
    by n q false other l live = kept_needs configs m now event answer n q once is c w other l live

-- at the first entry no check waits
pub needs_first : (configs : List Configuration) (now : ℕ) (event : Event) (answer : Told) → is_begin event ≡ true
    → WaitsNeeded configs (mark configs [] (record { moment = now; event = event; answer = answer }) ∷ [])
needs_first configs now (Begin offset) answer b = record {
  one = one_more configs [] (record { moment = now; event = Begin offset; answer = answer }) None None
      (mark_new configs [] now (Begin offset)) (record { last_open = λ e c key q high put live. absurd (cc) });
  needs = λ n q e. absurd (none-some q e);
}
needs_first configs now event answer b = absurd (cc)

-- in a legal history each check that waits needs the key of the question that it waits for,
-- of which no verdict is kept that will be fresh
pub waits_needed : (configs : List Configuration) (h : History) → NamesOnce configs → Legal configs h
    → WaitsNeeded configs (marked configs h)
waits_needed configs h once legal =
    (legal_induction configs (WaitsNeeded configs) once (λ x b. needs_first configs x.moment x.event x.answer b)
    (λ m now event answer is c w. needs_next configs m now event answer once is c w) h legal).1

-- what a step says of a check that waits
waiting_by : (configs : List Configuration) (m : Past) (n q now : ℕ) → WaitsNeeded configs m → NoneLater m now
    → waits_for configs m n ≡ Some q
    → step_says configs m n now ≡ record { answer = told.Waits q; put = None; took = None }
waiting_by configs m n q now w nl waits =
    need_step configs m n now d
    ∙ ap (λ (b : Bool). if b then says_fault d.class.name p cause.KeyTooLong now
    else says_fresh d.class p now (fresh_for d.class d.key now (kept configs m e d.place))
    (pending configs m e d.place d.key) (full (farm_with configs m e d.place d.class)) (put_count m)) s.short
    ∙ ap (λ (v : Option CachedReply). says_fresh d.class p now v (pending configs m e d.place d.key)
    (full (farm_with configs m e d.place d.class)) (put_count m))
    (none_fresh d.class now (verdict_of d.key (kept configs m e d.place)) (λ v at. s.stale now v nl at))
    ∙ ap (λ (o : Option ℕ). says_asked d.class.name p now o (full (farm_with configs m e d.place d.class))
    (put_count m)) pends
  where
    s : NeedsPut configs m n q
    s = w.needs n q waits

    d : IsNeeded configs m n
    d = s.needed

    e : ℕ
    e = d.asked.epoch

    p : Put
    p = record { epoch = e; class = d.place; key = d.key }

    live : has_ended configs m q ≡ false
    live = (unended_is configs m (last_wait m n) q waits).1

    pends : pending configs m e d.place d.key ≡ Some q
    pends = ap (unended configs m)
        (w.one.last_open e d.place d.key q (put_within m e d.place d.key q s.put_is_it) s.put_is_it live)
        ∙ ap (λ (b : Bool). if b then None else Some q) live

none_later : (configs : List Configuration) (h : History) (now : ℕ) → Legal configs h → latest h ≤ now
    → NoneLater (marked configs h) now
none_later configs [] now legal l = absurd legal
none_later configs (x ∷ []) now legal l = (l, tt)
none_later configs (x ∷ f ∷ h) now legal l = (
  l,
  none_later configs (f ∷ h) now legal.0 (through f.moment x.moment now legal.3 l),
)
  where
    through : (a b c : ℕ) → a ≤ b → b ≤ c → a ≤ c
    through a b c l h = omega arith

-- in a legal history, a step of a check that waits, at a moment that is none of the past,
-- says to wait for the same question, puts nothing and takes nothing
pub waiting_says : (configs : List Configuration) (h : History) (n q now : ℕ) → NamesOnce configs → Legal configs h
    → latest h ≤ now → waits_for configs (marked configs h) n ≡ Some q
    → step_says configs (marked configs h) n now ≡ record { answer = told.Waits q; put = None; took = None }
waiting_says configs h n q now once legal l waits = waiting_by configs (marked configs h) n q now
    (waits_needed configs h once legal) (none_later configs h now legal l) waits
