-- While a question has not ended, no entry makes a new verdict of its key in the list of its class:
-- a verdict that is found there was found there before.
use Rattle.std.proofs.Common.{Bool, List, None, Option, Some, ℕ, [], ap, ap₂, arith, bytes_eq, cond, false, if◌then◌else◌, is_some, nat_le, nat_lt, not, refl, suc, sym, take, true, zero, ◌&&◌, ◌<◌, ◌==◌, ◌∙◌, ◌∷◌, ◌≡◌, ◌≤◌}
use Rattle.std.specs.Map.{lookup_entry}
use Rattle.std.specs.Option.{option_map_or, option_or}
use Rattle.std.proofs.lemmas.Bool.{and_parts, le-leb}
use Rattle.std.proofs.lemmas.Bool.Decides.{nat_tests}
use Rattle.std.proofs.lemmas.Option.{none-some, same_Some}
use Rattle.sq_base.specs.declared.helpers.Answer.{Answer}
use Rattle.sq_base.specs.declared.helpers.What.{What}
use Rattle.sq_machine.specs.declared.entries.Event.{Event}
use Rattle.sq_machine.specs.declared.entries.Event.TheVariants.{Step, Line, Reconfigure}
use Rattle.sq_machine.specs.declared.entries.Told.{Told}
use Rattle.sq_machine.specs.declared.entries.Told.TheVariants as told
use Rattle.sq_machine.specs.declared.kept.CachedReply.{CachedReply}
use Rattle.sq_machine.specs.Checks.{ask_of}
use Rattle.sq_rules.specs.Classes.{Class}
use Rattle.sq_rules.specs.Configurations.{Configuration}
use Rattle.sq_machine.specs.Entries.{Noted}
use Rattle.sq_machine.specs.Epochs.{class_at}
use Rattle.sq_machine.specs.Freshness.{ttl_of}
use Rattle.sq_machine.specs.Machine.{next_at}
use Rattle.sq_machine.specs.KeptLists.{CachedReplies, is_fault, keep, kept_without, same_key, to_front, verdict_of}
use Rattle.sq_machine.specs.KeptReadings.{after_took, alike_place, keep_reply, keep_what, kept, key_here}
use Rattle.sq_machine.specs.Next.{gives}
use Rattle.sq_machine.specs.Marking.{mark}
use Rattle.sq_machine.specs.Marks.{Marked, Past, Put, entries}
use Rattle.sq_machine.specs.Processes.{if_here}
use Rattle.sq_machine.specs.Questions.{QuestionEnd, end_at, first_end, has_ended, put_count, put_is, put_of, question_end, said_by}
use Rattle.sq_machine.specs.Readings.{current}
use Rattle.sq_machine.specs.StepRule.{step_says}
use Rattle.sq_model.specs.Carried.{Carried, NamesOnce}
use Rattle.sq_model.proofs.ClassParts.{bytes_same, equal, itself, not_next}
use Rattle.sq_model.proofs.GivenLaws.{key_put_is}
use Rattle.sq_model.proofs.LegalLaws.{IsReplied, line_replied, next_line}
use Rattle.sq_model.proofs.NumberLaws.{put_of_above}
use Rattle.sq_model.proofs.PendingLaws.{OneOpen, put_for_it}

-- a verdict of the key that is found in the new list was found in the old one
pub record KeyStays (key : List ℕ) (old new : CachedReplies) : Type 0 where
  pub stays : (v : CachedReply) → verdict_of key new ≡ Some v → verdict_of key old ≡ Some v

stays_same : (key : List ℕ) (k : CachedReplies) → KeyStays key k k
stays_same key k = record { stays = λ v e. e }

stays_equal : (key : List ℕ) (old new : CachedReplies) → verdict_of key new ≡ verdict_of key old → KeyStays key old new
stays_equal key old new same = record { stays = λ v e. sym same ∙ e }

apart_keys : (key other at : List ℕ) → same_key key other ≡ false → same_key other at ≡ true → same_key key at ≡ false
apart_keys key other at f t = ap (same_key key) (sym (bytes_same other at t)) ∙ f

without_same : (key other : List ℕ) (k : CachedReplies) → same_key key other ≡ false
    → verdict_of key (kept_without other k) ≡ verdict_of key k
without_same key other [] f = refl
without_same key other (y ∷ k) f = by (same_key other y.0) refl (without_same key other k f)
  where
    by : (b : Bool) → same_key other y.0 ≡ b → verdict_of key (kept_without other k) ≡ verdict_of key k
        → verdict_of key (cond b k (y ∷ kept_without other k)) ≡ verdict_of key (y ∷ k)
    by true is more = sym (ap (λ (d : Bool). cond d (Some y.1) (verdict_of key k)) (apart_keys key other y.0 f is))
    by false is more = ap (λ (o : Option CachedReply). cond (same_key key y.0) (Some y.1) o) more

entry_found : (key : List ℕ) (k : CachedReplies) (x : List ℕ × CachedReply) → lookup_entry (same_key key) k ≡ Some x
    → (same_key key x.0 ≡ true) × (verdict_of key k ≡ Some x.1)
entry_found key [] x e = absurd (none-some x e)
entry_found key (y ∷ k) x e = by (same_key key y.0) refl (entry_found key k x) e
  where
    by : (b : Bool) → same_key key y.0 ≡ b
        → (lookup_entry (same_key key) k ≡ Some x → (same_key key x.0 ≡ true) × (verdict_of key k ≡ Some x.1))
        → cond b (Some y) (lookup_entry (same_key key) k) ≡ Some x
        → (same_key key x.0 ≡ true) × (cond b (Some y.1) (verdict_of key k) ≡ Some x.1)
    by true is more e = let same = same_Some _ _ e in (
      ap (λ (z : List ℕ × CachedReply). same_key key z.0) (sym same) ∙ is,
      ap (λ (z : List ℕ × CachedReply). Some z.1) same,
    )
    by false is more e = more e

front_same : (key other : List ℕ) (k : CachedReplies) → verdict_of key (to_front other k) ≡ verdict_of key k
front_same key other k = by (lookup_entry (same_key other) k) refl
  where
    by_key : (x : List ℕ × CachedReply) → same_key other x.0 ≡ true → verdict_of other k ≡ Some x.1 → (b : Bool)
        → same_key key other ≡ b
        → cond (same_key key x.0) (Some x.1) (verdict_of key (kept_without other k)) ≡ verdict_of key k
    by_key x at found true same =
        let one = bytes_same key other same in
        ap (λ (d : Bool). cond d (Some x.1) (verdict_of key (kept_without other k)))
        (ap (λ (w : List ℕ). same_key w x.0) one ∙ at)
        ∙ sym found ∙ ap (λ (w : List ℕ). verdict_of w k) (sym one)
    by_key x at found false apart =
        ap (λ (d : Bool). cond d (Some x.1) (verdict_of key (kept_without other k))) (apart_keys key other x.0 apart at)
        ∙ without_same key other k apart

    by : (o : Option (List ℕ × CachedReply)) → lookup_entry (same_key other) k ≡ o
        → verdict_of key (option_map_or (λ e. e ∷ kept_without other k) o k) ≡ verdict_of key k
    by None is = refl
    by (Some x) is = let f = entry_found other k x is in by_key x f.0 f.1 (same_key key other) refl

took_stays : (key : List ℕ) (here : Bool) (c : ℕ) (t : Option Answer) (k : CachedReplies)
    → KeyStays key k (after_took here c t k)
took_stays key here c None k = stays_same key k
took_stays key here c (Some a) k = by (here && (a.class == c) && not (is_fault a.what))
  where
    by : (b : Bool) → KeyStays key k (if b then to_front a.key k else k)
    by true = stays_equal key k (to_front a.key k) (front_same key a.key k)
    by false = stays_same key k

take_stays : (key : List ℕ) (n : ℕ) (k : CachedReplies) (v : CachedReply) → verdict_of key (take n k) ≡ Some v
    → verdict_of key k ≡ Some v
take_stays key zero k v e = absurd (none-some v e)
take_stays key (suc n) [] v e = e
take_stays key (suc n) (y ∷ k) v e = by (same_key key y.0) (take_stays key n k v) e
  where
    by : (b : Bool) → (verdict_of key (take n k) ≡ Some v → verdict_of key k ≡ Some v)
        → cond b (Some y.1) (verdict_of key (take n k)) ≡ Some v → cond b (Some y.1) (verdict_of key k) ≡ Some v
    by true more e = e
    by false more e = more e

keep_stays : (key : List ℕ) (class : Class) (q : ℕ) (other : List ℕ) (date : ℕ) (w : What) (k : CachedReplies)
    → same_key key other ≡ false → KeyStays key k (keep_what class q other date w k)
keep_stays key class q other date w k apart = by (is_fault w)
  where
    z : CachedReply
    z = record { what = w; question = q; date = date }

    front : verdict_of key ((other, z) ∷ kept_without other k) ≡ verdict_of key k
    front = ap (λ (d : Bool). cond d (Some z) (verdict_of key (kept_without other k))) apart
        ∙ without_same key other k apart

    put : (b : Bool) → KeyStays key k
        (if b then take class.cache ((other, z) ∷ kept_without other k) else kept_without other k)
    put true = record { stays = λ v e. sym front ∙ take_stays key class.cache ((other, z) ∷ kept_without other k) v e }
    put false = stays_equal key k (kept_without other k) (without_same key other k apart)

    by : (b : Bool) → KeyStays key k (if b then k else keep class.cache class other z k)
    by true = stays_same key k
    by false = put (nat_lt 0 (ttl_of class w) && nat_lt 0 class.cache)

reply_stays : (key : List ℕ) (class : Option Class) (q : ℕ) (other : Option (List ℕ)) (date : ℕ) (w : Option What)
    (k : CachedReplies)
    → ((z : List ℕ) → other ≡ Some z → same_key key z ≡ false) → KeyStays key k (keep_reply class q other date w k)
reply_stays key (Some class) q (Some z) date (Some w) k apart = keep_stays key class q z date w k (apart z refl)
reply_stays key None q other date w k apart = stays_same key k
reply_stays key (Some class) q None date w k apart = stays_same key k
reply_stays key (Some class) q (Some z) date None k apart = stays_same key k

-- a question that was put for a key has a number that was given
pub put_within : (m : Past) (e c : ℕ) (key : List ℕ) (q : ℕ) → put_is e c key (put_of m q) ≡ true → q ≤ put_count m
put_within m e c key q put = by (nat_le q (put_count m)) refl
  where
    high : (a b : ℕ) → nat_le a b ≡ false → b < a
    high a b e = grind (arith, nat_tests)

    low : (a b : ℕ) → nat_le a b ≡ true → a ≤ b
    low a b e = grind (arith, nat_tests)

    by : (b : Bool) → nat_le q (put_count m) ≡ b → q ≤ put_count m
    by true l = low q (put_count m) l
    by false l = absurd (let no : false ≡ true = ap (put_is e c key) (sym (put_of_above m q (high q (put_count m) l)))
        ∙ put in cc)

above_le : (q n : ℕ) → (b : Bool) → nat_le q n ≡ b → (n < q → ⊥) → q ≤ n
above_le q n true t not_above = grind (arith, nat_tests)
above_le q n false t not_above = absurd (not_above (grind (arith, nat_tests)))

put_same : (m : Past) (en : Noted) (o : Option Put) (t : Option Answer) (q : ℕ) → is_some (put_of m q) ≡ true
    → put_of (record { entry = en; put = o; took = t } ∷ m) q ≡ put_of m q
put_same m en None t q some = refl
put_same m en (Some p) t q some =
    ap (λ (b : Bool). option_or (if b then Some p else None) (put_of m q))
    (not_next q (put_count m)
    (above_le q (put_count m) (nat_le q (put_count m)) refl
    (λ l. absurd (let none = put_of_above m q l in let no : false ≡ true = sym (ap is_some none) ∙ some in cc))))

some_put : (e c : ℕ) (key : List ℕ) (o : Option Put) → put_is e c key o ≡ true → is_some o ≡ true
some_put e c key None t = absurd (cc)
some_put e c key (Some p) t = refl

-- a question that was put for a key of a class is so with one entry more
pub still_put : (m : Past) (x : Marked) (e c : ℕ) (key : List ℕ) (q : ℕ) → put_is e c key (put_of m q) ≡ true
    → put_is e c key (put_of (x ∷ m) q) ≡ true
still_put m x e c key q t = ap (put_is e c key) (put_same m x.entry x.put x.took q (some_put e c key (put_of m q) t))
    ∙ t

-- a question that was put for a key, by its parts
pub put_parts : (e c : ℕ) (key : List ℕ) (p : Put) → put_is e c key (Some p) ≡ true
    → (p.epoch ≡ e) × (p.class ≡ c) × (p.key ≡ key)
put_parts e c key p t =
    let parts = and_parts ((p.epoch == e) && (p.class == c)) (bytes_eq p.key key) t in
    let place = and_parts (p.epoch == e) (p.class == c) parts.0 in
    (equal p.epoch e place.0, equal p.class c place.1, bytes_same p.key key parts.1)

-- what has not ended had not ended before, and the entry does not end it
pub still_open : (configs : List Configuration) (m : Past) (x : Marked) (q : ℕ) → has_ended configs (x ∷ m) q ≡ false
    → (has_ended configs m q ≡ false) × (end_at configs m q x.entry.event x.entry.answer ≡ None)
still_open configs m x q e = by (question_end configs m q) (end_at configs m q x.entry.event x.entry.answer) e
  where
    by : (o : Option QuestionEnd) (w : Option What) → is_some (first_end x.entry.moment w o) ≡ false
        → (is_some o ≡ false) × (w ≡ None)
    by None None e = (refl, refl)
    by None (Some w) e = absurd (cc)
    by (Some z) None e = absurd (cc)
    by (Some z) (Some w) e = absurd (cc)

-- a question of a key that has not ended is the one that was put last
one_is : (configs : List Configuration) (m : Past) (e c : ℕ) (key : List ℕ) (p q : ℕ) → OneOpen configs m
    → put_is e c key (put_of m p) ≡ true → has_ended configs m p ≡ false
    → put_is e c key (put_of m q) ≡ true → has_ended configs m q ≡ false → p ≡ q
one_is configs m e c key p q one put live again alive =
    same_Some _ _ (sym (one.last_open e c key p (put_within m e c key p put) put live)
    ∙ one.last_open e c key q (put_within m e c key q again) again alive)

line_stays : (configs : List Configuration) (m : Past) (k : ℕ) (bytes : List ℕ) (r e c : ℕ) (key : List ℕ) (q : ℕ)
    (w : What) → OneOpen configs m
    → put_is e c key (put_of m q) ≡ true → has_ended configs m q ≡ false
    → if_here ((q == r) && nat_le q (put_count m)) (said_by configs m k bytes) ≡ None
    → said_by configs m k bytes ≡ Some w → has_ended configs m r ≡ false → (z : List ℕ)
    → key_here e c (put_of m r) ≡ Some z → same_key key z ≡ false
line_stays configs m k bytes r e c key q w one put live none says alive z here = by (same_key key z) refl
  where
    by : (b : Bool) → same_key key z ≡ b → b ≡ false
    by true same =
        let again : put_is e c key (put_of m r) ≡ true =
        ap (λ (y : List ℕ). put_is e c y (put_of m r)) (bytes_same key z same) ∙ key_put_is e c (put_of m r) z here in
        let alone = one_is configs m e c key q r one put live again alive in
        let at : ((q == r) && nat_le q (put_count m)) ≡ true =
        ap₂ (λ (a b : Bool). a && b) (ap (λ (j : ℕ). q == j) (sym alone) ∙ itself q)
        (le-leb q (put_count m) (put_within m e c key q put)) in
        absurd (none-some w (sym none ∙ ap₂ (λ (b : Bool) (o : Option What). if_here b o) at says))
    by false apart = refl

-- so it is after each entry whose answer is the next, and that does not end the question
pub kept_stays : (configs : List Configuration) (m : Past) (now : ℕ) (event : Event) (answer : Told) (e c : ℕ)
    (key : List ℕ) (q : ℕ) → NamesOnce configs
    → next_at configs m now event ≡ gives answer → Carried configs m → OneOpen configs m
    → put_is e c key (put_of m q) ≡ true
    → has_ended configs (mark configs m (record { moment = now; event = event; answer = answer }) ∷ m) q ≡ false
    → KeyStays key (kept configs m e c)
    (kept configs (mark configs m (record { moment = now; event = event; answer = answer }) ∷ m) e c)
kept_stays configs m now (Step n) answer e c key q once is carried one put live =
    took_stays key (option_map_or (λ a. a.epoch == e) (ask_of (entries m) n) false) c (step_says configs m n now).took
    (kept configs m e c)
kept_stays configs m now (Line k bytes) (told.Reply r w) e c key q once is carried one put live =
    let n = next_line configs m now k bytes (told.Reply r w) is in
    let replied : IsReplied configs m k bytes r = line_replied configs m k bytes r w once n.0 carried n.1 in
    let still = still_open configs m
    (mark configs m (record { moment = now; event = Line k bytes; answer = told.Reply r w })) q live in
    reply_stays key (class_at configs e c) r (key_here e c (put_of m r)) now (said_by configs m k bytes)
    (kept configs m e c)
    (line_stays configs m k bytes r e c key q replied.what one put still.0 still.1 replied.says replied.live)
kept_stays configs m now (Line k bytes) answer e c key q once is carried one put live =
    stays_same key (kept configs m e c)
kept_stays configs m now (Reconfigure text) answer e c key q once is carried one put live =
    by (e == suc (current (entries m))) refl
  where
    cur : ℕ
    cur = current (entries m)

    left : (b : Bool) → KeyStays key (kept configs m e c) (if b then [] else kept configs m e c)
    left true = record { stays = λ v e. absurd (none-some v e) }
    left false = stays_same key (kept configs m e c)

    later : (a b : ℕ) → (a == suc b) ≡ true → b < a
    later a b e = grind (arith, nat_tests)

    by : (b : Bool) → (e == suc cur) ≡ b
        → KeyStays key (kept configs m e c)
        (if b then option_map_or (kept configs m cur) (alike_place configs cur (class_at configs e c)) []
        else (if (e == cur) && is_some (alike_place configs (suc cur) (class_at configs e c)) then []
        else kept configs m e c))
    by true new =
        absurd (let no : false ≡ true = sym ((carried.later_unused e (later e cur new)).none_put c q)
        ∙ put_for_it (put_of m q) e c key put in cc)
    by false old = left ((e == cur) && is_some (alike_place configs (suc cur) (class_at configs e c)))
kept_stays configs m now event answer e c key q once is carried one put live = stays_same key (kept configs m e c)
