-- What is kept, and what a check takes, was given by lines of helpers.
use Rattle.std.proofs.Common.{◌≡◌, ◌⊎◌, inl, inr, ℕ, zero, suc, List, [], ◌∷◌, ◌++◌, take, cond, Bool, true, false, not, ◌&&◌, ◌==◌, nat_lt, bytes_eq, if◌then◌else◌, Option, Some, None, is_some, refl, sym, ap, ap₂, subst, ◌∙◌}
use Rattle.std.specs.Map.{lookup, lookup_entry}
use Rattle.std.specs.Option.{option_map_or}
use Rattle.std.proofs.lemmas.Option.{none-some, same_Some}
use Rattle.sq_base.specs.declared.helpers.Answer.{Answer}
use Rattle.sq_base.specs.declared.helpers.What.{What}
use Rattle.sq_machine.specs.declared.entries.Event.{Event}
use Rattle.sq_machine.specs.declared.entries.Event.TheVariants.{Begin, Step, Line, Reconfigure}
use Rattle.sq_machine.specs.declared.entries.Told.{Told}
use Rattle.sq_machine.specs.declared.entries.Told.TheVariants as told
use Rattle.sq_machine.specs.declared.kept.CachedReply.{CachedReply}
use Rattle.sq_machine.specs.Checks.{ask_of}
use Rattle.sq_rules.specs.Classes.{Class}
use Rattle.sq_rules.specs.Configurations.{Configuration}
use Rattle.sq_machine.specs.Entries.{History}
use Rattle.sq_machine.specs.Epochs.{class_at}
use Rattle.sq_machine.specs.Freshness.{is_fresh, ttl_of}
use Rattle.sq_machine.specs.Machine.{Legal, next_at, told_of_line}
use Rattle.sq_machine.specs.KeptLists.{CachedReplies, if_fresh, is_fault, keep, kept_without, same_key, to_front, verdict_of}
use Rattle.sq_machine.specs.KeptReadings.{after_took, alike_place, keep_reply, keep_what, kept, key_here}
use Rattle.sq_machine.specs.Events.{is_begin}
use Rattle.sq_machine.specs.Next.{gives}
use Rattle.sq_machine.specs.Marking.{mark, marked}
use Rattle.sq_machine.specs.Marks.{Marked, Past, Put, entries}
use Rattle.sq_machine.specs.Processes.{is_running}
use Rattle.sq_machine.specs.Questions.{put_is, put_of, said_by}
use Rattle.sq_machine.specs.Readings.{current}
use Rattle.sq_machine.specs.StepRule.{StepSays, step_says}
use Rattle.sq_model.specs.Carried.{Carried, NamesOnce}
use Rattle.sq_model.specs.Given.{EachOf, Given, TakesFault, TakesFresh, gift_of}
use Rattle.sq_model.specs.Waits.{IsNeeded}
use Rattle.sq_model.proofs.ClassParts.{bytes_itself, bytes_same, equal}
use Rattle.sq_model.proofs.LegalLaws.{IsReplied, legal_induction, line_replied, next_line}
use Rattle.sq_model.proofs.RuleLaws.{SaysOf, TakesKept, TakesNone, step_is, takes_so}

-- something that holds of each
pub each_weaker : {A : Type 0} (P Q : A → Type 0) (xs : List A) → ((x : A) → P x → Q x) → EachOf P xs → EachOf Q xs
each_weaker P Q [] f e = tt
each_weaker P Q (x ∷ xs) f e = (f x e.0, each_weaker P Q xs f e.1)

-- of each of two lists
pub each_append : {A : Type 0} (P : A → Type 0) (xs ys : List A) → EachOf P xs → EachOf P ys → EachOf P (xs ++ ys)
each_append P [] ys a b = b
each_append P (x ∷ xs) ys a b = (a.0, each_append P xs ys a.1 b)

each_take : {A : Type 0} (P : A → Type 0) (n : ℕ) (xs : List A) → EachOf P xs → EachOf P (take n xs)
each_take P zero xs e = tt
each_take P (suc n) [] e = tt
each_take P (suc n) (x ∷ xs) e = (e.0, each_take P n xs e.1)

each_without : (P : List ℕ × CachedReply → Type 0) (key : List ℕ) (k : CachedReplies) → EachOf P k
    → EachOf P (kept_without key k)
each_without P key [] e = tt
each_without P key (x ∷ k) e = by (same_key key x.0) (each_without P key k e.1)
  where
    by : (b : Bool) → EachOf P (kept_without key k) → EachOf P (cond b k (x ∷ kept_without key k))
    by true w = e.1
    by false w = (e.0, w)

-- the entry that a search by key finds
record IsEntry (P : List ℕ × CachedReply → Type 0) (key : List ℕ) (x : List ℕ × CachedReply) : Type 0 where
  holds : P x
  key_is : same_key key x.0 ≡ true

each_entry : (P : List ℕ × CachedReply → Type 0) (key : List ℕ) (k : CachedReplies) (x : List ℕ × CachedReply)
    → EachOf P k → lookup_entry (same_key key) k ≡ Some x → IsEntry P key x
each_entry P key [] x e l = absurd (none-some x l)
each_entry P key (y ∷ k) x e l = by (same_key key y.0) refl (each_entry P key k x e.1) l
  where
    by : (b : Bool) → same_key key y.0 ≡ b → (lookup_entry (same_key key) k ≡ Some x → IsEntry P key x)
        → cond b (Some y) (lookup_entry (same_key key) k) ≡ Some x → IsEntry P key x
    by true is more l = subst (IsEntry P key) (same_Some _ _ l) (record { holds = e.0; key_is = is })
    by false is more l = more l

each_front : (P : List ℕ × CachedReply → Type 0) (key : List ℕ) (k : CachedReplies) → EachOf P k
    → EachOf P (to_front key k)
each_front P key k e = by (lookup_entry (same_key key) k) refl
  where
    by : (o : Option (List ℕ × CachedReply)) → lookup_entry (same_key key) k ≡ o
        → EachOf P (option_map_or (λ e. e ∷ kept_without key k) o k)
    by None is = e
    by (Some x) is = ((each_entry P key k x e is).holds, each_without P key k e)

-- the verdict that a search by key finds
record IsVerdict (P : List ℕ × CachedReply → Type 0) (key : List ℕ) (v : CachedReply) : Type 0 where
  at : List ℕ
  holds : P (at, v)
  key_is : same_key key at ≡ true

each_verdict : (P : List ℕ × CachedReply → Type 0) (key : List ℕ) (k : CachedReplies) (v : CachedReply) → EachOf P k
    → verdict_of key k ≡ Some v → IsVerdict P key v
each_verdict P key [] v e l = absurd (none-some v l)
each_verdict P key (y ∷ k) v e l = by (same_key key y.0) refl (each_verdict P key k v e.1) l
  where
    by : (b : Bool) → same_key key y.0 ≡ b → (verdict_of key k ≡ Some v → IsVerdict P key v)
        → cond b (Some y.1) (lookup (same_key key) k) ≡ Some v → IsVerdict P key v
    by true is more l = subst (IsVerdict P key) (same_Some _ _ l) (record { at = y.0; holds = e.0; key_is = is })
    by false is more l = more l

-- what is kept for a class was given for it
abbrev pub KeptGiven : List Configuration → Past → ℕ → ℕ → List ℕ × CachedReply → Type 0
KeptGiven configs m e c k = Given configs m e c (gift_of k)

-- so it is of every class of every epoch
pub record AllKeptGiven (configs : List Configuration) (m : Past) : Type 0 where
  pub kept_given : (e c : ℕ) → EachOf (KeptGiven configs m e c) (kept configs m e c)

-- what was given stays given
pub given_more : (configs : List Configuration) (m : Past) (x : Marked) (e c : ℕ) (k : CachedReplies)
    → EachOf (KeptGiven configs m e c) k → EachOf (KeptGiven configs (x ∷ m) e c) k
given_more configs m x e c k each = each_weaker (KeptGiven configs m e c) (KeptGiven configs (x ∷ m) e c) k
    (λ y g. inr (inr g)) each

took_given : (P : List ℕ × CachedReply → Type 0) (here : Bool) (c : ℕ) (t : Option Answer) (k : CachedReplies)
    → EachOf P k → EachOf P (after_took here c t k)
took_given P here c None k e = e
took_given P here c (Some a) k e = by (here && (a.class == c) && not (is_fault a.what))
  where
    by : (b : Bool) → EachOf P (if b then to_front a.key k else k)
    by true = each_front P a.key k e
    by false = e

keep_given : (P : List ℕ × CachedReply → Type 0) (class : Class) (q : ℕ) (key : List ℕ) (date : ℕ) (w : What)
    (k : CachedReplies)
    → P (key, record { what = w; question = q; date = date }) → EachOf P k → EachOf P (keep_what class q key date w k)
keep_given P class q key date w k new e = by (is_fault w)
  where
    v : CachedReply
    v = record { what = w; question = q; date = date }

    put : (b : Bool) → EachOf P (if b then take class.cache ((key, v) ∷ kept_without key k) else kept_without key k)
    put true = each_take P class.cache ((key, v) ∷ kept_without key k) (new, each_without P key k e)
    put false = each_without P key k e

    by : (b : Bool) → EachOf P (if b then k else keep class.cache class key v k)
    by true = e
    by false = put (nat_lt 0 (ttl_of class w) && nat_lt 0 class.cache)

reply_given : (P : List ℕ × CachedReply → Type 0) (class : Option Class) (q : ℕ) (key : Option (List ℕ)) (date : ℕ)
    (w : Option What) (k : CachedReplies)
    → ((z : List ℕ) (v : What) → key ≡ Some z → w ≡ Some v → P (z, record { what = v; question = q; date = date }))
    → EachOf P k → EachOf P (keep_reply class q key date w k)
reply_given P (Some class) q (Some key) date (Some w) k new e =
    keep_given P class q key date w k (new key w refl refl) e
reply_given P None q key date w k new e = e
reply_given P (Some class) q None date w k new e = e
reply_given P (Some class) q (Some key) date None k new e = e

-- the key of a question that was put for a class
pub key_put_is : (e c : ℕ) (o : Option Put) (z : List ℕ) → key_here e c o ≡ Some z → put_is e c z o ≡ true
key_put_is e c None z is = absurd (none-some z is)
key_put_is e c (Some p) z is = by ((p.epoch == e) && (p.class == c)) refl is
  where
    by : (b : Bool) → ((p.epoch == e) && (p.class == c)) ≡ b → (if b then Some p.key else None) ≡ Some z
        → (((p.epoch == e) && (p.class == c)) && bytes_eq p.key z) ≡ true
    by true t is = ap₂ (λ (a b : Bool). a && b) t (ap (bytes_eq p.key) (sym (same_Some _ _ is)) ∙ bytes_itself p.key)
    by false t is = absurd (none-some z is)

line_given : (configs : List Configuration) (m : Past) (now k : ℕ) (bytes : List ℕ) (answer : Told) → NamesOnce configs
    → next_at configs m now (Line k bytes) ≡ gives answer → Carried configs m
    → AllKeptGiven configs m
    → AllKeptGiven configs (mark configs m (record { moment = now; event = Line k bytes; answer = answer }) ∷ m)
line_given configs m now k bytes (told.Reply q w) once is c g = record {
  kept_given = λ e d.
      reply_given (KeptGiven configs (x ∷ m) e d) (class_at configs e d) q (key_here e d (put_of m q)) now
      (said_by configs m k bytes) (kept configs m e d)
      (λ z v key says. inl (record {
        proc = k;
        bytes = bytes;
        word = w;
        event_is = refl;
        answer_is = refl;
        date_is = refl;
        says = says;
        sent = r.sent;
        put = key_put_is e d (put_of m q) z key;
      }))
      (given_more configs m x e d (kept configs m e d) (g.kept_given e d));
}
  where
    x : Marked
    x = mark configs m (record { moment = now; event = Line k bytes; answer = told.Reply q w })

    n : (is_running (entries m) k ≡ true) × (told_of_line configs (entries m) k bytes ≡ told.Reply q w)
    n = next_line configs m now k bytes (told.Reply q w) is

    r : IsReplied configs m k bytes q
    r = line_replied configs m k bytes q w once n.0 c n.1
line_given configs m now k bytes answer once is c g =
    record {
      kept_given = λ e d. given_more configs m
          (mark configs m (record { moment = now; event = Line k bytes; answer = answer })) e d (kept configs m e d)
          (g.kept_given e d);
    }

moved_given : (configs : List Configuration) (m : Past) (now : ℕ) (text : List ℕ) (answer : Told)
    → AllKeptGiven configs m
    → AllKeptGiven configs (mark configs m (record { moment = now; event = Reconfigure text; answer = answer }) ∷ m)
moved_given configs m now text answer g = record { kept_given = λ e d. by e d (e == suc cur) refl }
  where
    x : Marked
    x = mark configs m (record { moment = now; event = Reconfigure text; answer = answer })

    cur : ℕ
    cur = current (entries m)

    moved : (e d : ℕ) → e ≡ suc cur → (o : Option ℕ) → alike_place configs cur (class_at configs e d) ≡ o
        → EachOf (KeptGiven configs (x ∷ m) e d) (option_map_or (kept configs m cur) o [])
    moved e d same None is = tt
    moved e d same (Some i) is =
        each_weaker (KeptGiven configs m cur i) (KeptGiven configs (x ∷ m) e d) (kept configs m cur i)
        (λ y gave. inr (inl (i, refl, same, is, gave))) (g.kept_given cur i)

    left : (e d : ℕ) (b : Bool) → EachOf (KeptGiven configs (x ∷ m) e d) (if b then [] else kept configs m e d)
    left e d true = tt
    left e d false = given_more configs m x e d (kept configs m e d) (g.kept_given e d)

    by : (e d : ℕ) (b : Bool) → (e == suc cur) ≡ b
        → EachOf (KeptGiven configs (x ∷ m) e d)
        (if b then option_map_or (kept configs m cur) (alike_place configs cur (class_at configs e d)) []
        else (if (e == cur) && is_some (alike_place configs (suc cur) (class_at configs e d)) then []
        else kept configs m e d))
    by e d true same = moved e d (equal e (suc cur) same) (alike_place configs cur (class_at configs e d)) refl
    by e d false other = left e d ((e == cur) && is_some (alike_place configs (suc cur) (class_at configs e d)))

-- an entry whose answer is the next keeps it so
pub given_next : (configs : List Configuration) (m : Past) (now : ℕ) (event : Event) (answer : Told) → NamesOnce configs
    → next_at configs m now event ≡ gives answer → Carried configs m
    → AllKeptGiven configs m
    → AllKeptGiven configs (mark configs m (record { moment = now; event = event; answer = answer }) ∷ m)
given_next configs m now (Step n) answer once is c g = record {
  kept_given = λ e d.
      took_given (KeptGiven configs (mark configs m (record { moment = now; event = Step n; answer = answer }) ∷ m) e d)
      (option_map_or (λ a. a.epoch == e) (ask_of (entries m) n) false) d
      (step_says configs m n now).took (kept configs m e d)
      (given_more configs m (mark configs m (record { moment = now; event = Step n; answer = answer })) e d
      (kept configs m e d) (g.kept_given e d));
}
given_next configs m now (Line k bytes) answer once is c g = line_given configs m now k bytes answer once is c g
given_next configs m now (Reconfigure text) answer once is c g = moved_given configs m now text answer g
given_next configs m now event answer once is c g =
    record {
      kept_given = λ e d. given_more configs m
          (mark configs m (record { moment = now; event = event; answer = answer })) e d (kept configs m e d)
          (g.kept_given e d);
    }

-- at the first entry nothing is kept
pub given_first : (configs : List Configuration) (now : ℕ) (event : Event) (answer : Told) → is_begin event ≡ true
    → AllKeptGiven configs (mark configs [] (record { moment = now; event = event; answer = answer }) ∷ [])
given_first configs now (Begin offset) answer b = record { kept_given = λ e d. tt }
given_first configs now event answer b = absurd (cc)

-- every verdict that a legal history keeps was given
pub kept_is_given : (configs : List Configuration) (h : History) → NamesOnce configs → Legal configs h
    → AllKeptGiven configs (marked configs h)
kept_is_given configs h once legal =
    (legal_induction configs (AllKeptGiven configs) once (λ x b. given_first configs x.moment x.event x.answer b)
    (λ m now event answer is c g. given_next configs m now event answer once is c g) h legal).1

if_fresh_is : (class : Class) (now : ℕ) (o : Option CachedReply) (v : CachedReply) → if_fresh class now o ≡ Some v
    → (o ≡ Some v) × (is_fresh class v now ≡ true)
if_fresh_is class now None v e = absurd (none-some v e)
if_fresh_is class now (Some w) v e = by (is_fresh class w now) refl e
  where
    by : (b : Bool) → is_fresh class w now ≡ b → (if b then Some w else None) ≡ Some v
        → (Some w ≡ Some v) × (is_fresh class v now ≡ true)
    by true t e = (e, ap (λ (z : CachedReply). is_fresh class z now) (sym (same_Some _ _ e)) ∙ t)
    by false t e = absurd (none-some v e)

-- a cached reply and fresh was given
fresh_given : (configs : List Configuration) (m : Past) (e c : ℕ) (key : List ℕ) (v : CachedReply)
    → AllKeptGiven configs m → verdict_of key (kept configs m e c) ≡ Some v
    → Given configs m e c (record { key = key; what = v.what; question = v.question; date = v.date })
fresh_given configs m e c key v g is =
    let found = each_verdict (KeptGiven configs m e c) key (kept configs m e c) v (g.kept_given e c) is in
    subst (λ (k : List ℕ). Given configs m e c
    (record { key = k; what = v.what; question = v.question; date = v.date }))
    (sym (bytes_same key found.at found.key_is)) found.holds

-- what a step of check n takes was given and is fresh, or is a fault of the step
pub step_takes : (configs : List Configuration) (m : Past) (now n : ℕ) (answer : Told) (a : Answer)
    → AllKeptGiven configs m → (step_says configs m n now).took ≡ Some a
    → TakesFresh configs m (mark configs m (record { moment = now; event = Step n; answer = answer })) n a
    ⊎ TakesFault configs m (mark configs m (record { moment = now; event = Step n; answer = answer })) n a
step_takes configs m now n answer a g is = by (step_is configs m n now)
  where
    x : Marked
    x = mark configs m (record { moment = now; event = Step n; answer = answer })

    of_need : (d : IsNeeded configs m n) → TakesKept configs m n now d a ⊎ TakesNone configs m n now d a
        → TakesFresh configs m x n a ⊎ TakesFault configs m x n a
    of_need d (inl t) =
        let v : CachedReply = record { what = a.what; question = t.question; date = a.date } in
        let f = if_fresh_is d.class now (verdict_of d.key (kept configs m d.asked.epoch d.place)) v t.fresh_is in
        inl (record {
          event_is = refl;
          took_is = is;
          needed = d;
          question = t.question;
          class_is = t.class_is;
          key_is = t.key_is;
          question_is = t.question_is;
          taken_is = t.taken_is;
          kept_is = f.0;
          fresh = ap (is_fresh d.class v) t.taken_is ∙ f.1;
          given = fresh_given configs m d.asked.epoch d.place d.key v g f.0;
        })
    of_need d (inr t) =
        inr (record {
          event_is = refl;
          took_is = is;
          needed = d;
          class_is = t.class_is;
          key_is = t.key_is;
          question_is = t.question_is;
          date_is = t.date_is;
          taken_is = t.taken_is;
          cause_is = t.cause_is;
        })

    by : SaysOf configs m n now (step_says configs m n now) → TakesFresh configs m x n a ⊎ TakesFault configs m x n a
    by (inl done) = absurd (none-some a (sym (ap (λ (s : StepSays). s.took) done) ∙ is))
    by (inr r) = of_need r.needed (takes_so configs m n now r.needed a (sym (ap (λ (s : StepSays). s.took) r.is) ∙ is))
