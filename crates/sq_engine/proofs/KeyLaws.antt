-- The keys of open questions, and those that checks wait with.
use Rattle.std.proofs.Common.{◌≡◌, ◌∙◌, ◌==◌, ◌&&◌, ◌||◌, ℕ, suc, List, [], ◌∷◌, ◌++◌, Bool, true, false, if◌then◌else◌, nat_lt, Option, None, Some, refl, ap, sym, subst, arith}
use Rattle.std.proofs.lemmas.Bool.Decides.{nat_tests}
use Rattle.std.proofs.lemmas.Option.{none-some, same_Some}
use Rattle.std.specs.Cmp.Lexicographic.{same_text}
use Rattle.std.specs.Option.{option_map}
use Rattle.sq_base.specs.declared.helpers.Answer.{Answer}
use Rattle.sq_base.specs.declared.helpers.Cause.TheVariants as cause
use Rattle.sq_machine.specs.AnswerReadings.{waits_told}
use Rattle.sq_rules.specs.Classes.{Class}
use Rattle.sq_machine.specs.Farms.{full}
use Rattle.sq_machine.specs.KeptLists.{CachedReplies, fresh_for, same_key}
use Rattle.sq_machine.specs.Limits.{key_limit}
use Rattle.sq_machine.specs.Marks.{Put}
use Rattle.sq_machine.specs.OpenLookups.{LookupRow, all_below, is_open_lookup, key_of, pending_in}
use Rattle.sq_machine.specs.StepRule.{StepSays, says_asked, says_fault, says_fresh, says_need}
use Rattle.sq_machine.specs.declared.entries.Told.{Told}
use Rattle.sq_machine.specs.declared.entries.Told.TheVariants as told
use Rattle.sq_machine.specs.declared.kept.CachedReply.{CachedReply}
use Rattle.sq_model.specs.ClassRows.{ClassRow, with_took}
use Rattle.sq_model.specs.StepRows.{after_says, question_told, says_of_row, stepped_of, with_put}
use Rattle.sq_model.specs.declared.stepping.StepEffect.{StepEffect}
use Rattle.sq_class.specs.Parts.{PartState}
use Rattle.sq_checks.specs.OpenChecks.{CheckParts, change_at, noted}
use Rattle.sq_checks.specs.Stages.{need_in, noted_stage}
use Rattle.sq_checks.specs.Tables.{value_at}
use Rattle.sq_checks.specs.declared.stages.Need.{Need}
use Rattle.sq_epochs.specs.EpochChanges.{IsResolved}
use Rattle.sq_epochs.specs.EpochStates.{EpochsState, IsChanged, part_at}
use Rattle.sq_engine.specs.Engines.{AreKeyed, AreOnce}
use Rattle.sq_engine.proofs.LookupLaws.{not_open, open_more, pending_open}
use Rattle.sq_engine.proofs.PartLaws.{part_found, two_ways}
use Rattle.sq_engine.proofs.PlaceLaws.{PartChanged, part_changed}
use Rattle.sq_engine.proofs.TableLaws.{changed_at, mapped_if, number_is, number_self}

both : (a b : Bool) → (a && b) ≡ true → (a ≡ true) × (b ≡ true)
both true b h = (refl, h)
both false b h = absurd (cc)

key_is : (a b : List ℕ) → same_key a b ≡ true → a ≡ b
key_is a b h = same_text a b (sym h)

below_apart : (a b : ℕ) → nat_lt a b ≡ true → (a == b) ≡ false
below_apart a b e = grind (arith, nat_tests, e)

neither : (a b : Bool) → a ≡ false → b ≡ false → (a || b) ≡ false
neither true b x y = absurd (cc)
neither false b x y = y

-- each question is open once after the next was put
once_more : (n : ℕ) (key : List ℕ) (rows : List LookupRow) → all_below (suc n) rows ≡ true → AreOnce rows
    → AreOnce (rows ++ record { question = suc n; key = key } ∷ [])
once_more n key [] h o = (refl, tt)
once_more n key (l ∷ rows) h o =
    let s = both (nat_lt l.question (suc n)) (all_below (suc n) rows) h in (
      open_more l.question (record { question = suc n; key = key }) rows
          ∙ neither (l.question == suc n) (is_open_lookup l.question rows) (below_apart l.question (suc n) s.0) o.0,
      once_more n key rows s.1 o.1,
    )

pub once_put : (count : ℕ) (o : Option Put) (r : ClassRow) → all_below (suc count) r.lookups ≡ true → AreOnce r.lookups
    → AreOnce (with_put count o r).lookups
once_put count None r h a = a
once_put count (Some p) r h a = once_more count p.key r.lookups h a

-- a question that is open keeps its key when another lookup is put behind
key_more : (q : ℕ) (key : List ℕ) (l : LookupRow) (rows : List LookupRow) → key_of q rows ≡ Some key
    → key_of q (rows ++ l ∷ []) ≡ Some key
key_more q key l [] h = absurd (cc)
key_more q key l (r ∷ rows) h = by (q == r.question) refl h (λ k. key_more q key l rows k)
  where
    by : (b : Bool) → (q == r.question) ≡ b → key_of q (r ∷ rows) ≡ Some key
        → (key_of q rows ≡ Some key → key_of q (rows ++ l ∷ []) ≡ Some key) → key_of q (r ∷ (rows ++ l ∷ [])) ≡ Some key
    by true x h more = rw x (rw x at h)
    by false x h more = rw x (more (rw x at h))

pub key_still : (count : ℕ) (o : Option Put) (r : ClassRow) (q : ℕ) (key : List ℕ) → key_of q r.lookups ≡ Some key
    → key_of q (with_put count o r).lookups ≡ Some key
key_still count None r q key h = h
key_still count (Some p) r q key h = key_more q key (record { question = suc count; key = p.key }) r.lookups h

-- the key of the one that is put
key_last : (q : ℕ) (key : List ℕ) (rows : List LookupRow) → is_open_lookup q rows ≡ false
    → key_of q (rows ++ record { question = q; key = key } ∷ []) ≡ Some key
key_last q key [] h = rw (number_self q) refl
key_last q key (r ∷ rows) h = by (q == r.question) refl h (λ k. key_last q key rows k)
  where
    by : (b : Bool) → (q == r.question) ≡ b → is_open_lookup q (r ∷ rows) ≡ false
        → (is_open_lookup q rows ≡ false → key_of q (rows ++ record { question = q; key = key } ∷ []) ≡ Some key)
        → key_of q (r ∷ (rows ++ record { question = q; key = key } ∷ [])) ≡ Some key
    by true x h more = absurd (let e : is_open_lookup q (r ∷ rows) ≡ true = rw x refl in cc)
    by false x h more = rw x (more (rw x at h))

-- a question that is pending for a key has it
key_pending : (q : ℕ) (key : List ℕ) (rows : List LookupRow) → AreOnce rows → pending_in key rows ≡ Some q
    → key_of q rows ≡ Some key
key_pending q key [] o h = absurd (cc)
key_pending q key (r ∷ rows) o h = by (same_key key r.key) refl h (λ k. key_pending q key rows o.1 k)
  where
    by : (b : Bool) → same_key key r.key ≡ b → pending_in key (r ∷ rows) ≡ Some q
        → (pending_in key rows ≡ Some q → key_of q rows ≡ Some key) → key_of q (r ∷ rows) ≡ Some key
    by true x h more =
        let same : r.question ≡ q = same_Some _ _ (rw x at h) in
        rw (← same, number_self r.question) (ap Some (sym (key_is key r.key x)))
    by false x h more =
        let rest = rw x at h in
        let open_rest = pending_open q key rows rest in
        other (q == r.question) refl open_rest (more rest)
      where
        other : (c : Bool) → (q == r.question) ≡ c → is_open_lookup q rows ≡ true → key_of q rows ≡ Some key
            → key_of q (r ∷ rows) ≡ Some key
        other true y z k = absurd
            (let e : is_open_lookup r.question rows ≡ true =
            ap (λ m. is_open_lookup m rows) (sym (number_is q r.question y)) ∙ z in let f = o.0 in cc)
        other false y z k = rw y k

-- what a step tells to wait for was put with this key in the class that it asked
abbrev pub SaysKeyed : ℕ → List ℕ → ClassRow → StepSays → Type 0
SaysKeyed count key r s = (c q : ℕ) → waits_told s.answer ≡ Some q
    → key_of q (after_says c count s r).lookups ≡ Some key

if_keyed : (b : Bool) (count : ℕ) (key : List ℕ) (r : ClassRow) (x y : StepSays) → SaysKeyed count key r x
    → SaysKeyed count key r y → SaysKeyed count key r (if b then x else y)
if_keyed true count key r x y f g = f
if_keyed false count key r x y f g = g

asked_keyed : (name : List ℕ) (p : Put) (now : ℕ) (o : Option ℕ) (f : Bool) (count : ℕ) (r : ClassRow)
    → AreOnce r.lookups → all_below (suc count) r.lookups ≡ true → pending_in p.key r.lookups ≡ o
    → SaysKeyed count p.key r (says_asked name p now o f count)
asked_keyed name p now (Some n) f count r once below is = λ c q e. key_pending q p.key r.lookups once (is ∙ e)
asked_keyed name p now None true count r once below is = λ c q e. absurd (none-some q e)
asked_keyed name p now None false count r once below is = λ c q e.
    let same : suc count ≡ q = same_Some _ _ e in
    subst (λ m. key_of m (r.lookups ++ record { question = suc count; key = p.key } ∷ []) ≡ Some p.key) same
    (key_last (suc count) p.key r.lookups (not_open (suc count) r.lookups below))

fresh_keyed : (class : Class) (p : Put) (now : ℕ) (v : Option CachedReply) (o : Option ℕ) (f : Bool) (count : ℕ)
    (r : ClassRow) → AreOnce r.lookups → all_below (suc count) r.lookups ≡ true
    → pending_in p.key r.lookups ≡ o → SaysKeyed count p.key r (says_fresh class p now v o f count)
fresh_keyed class p now (Some v) o f count r once below is = λ c q e. absurd (none-some q e)
fresh_keyed class p now None o f count r once below is = asked_keyed class.name p now o f count r once below is

need_keyed : (class : Class) (p : Put) (now : ℕ) (kept : CachedReplies) (f : Bool) (count : ℕ) (r : ClassRow)
    → AreOnce r.lookups → all_below (suc count) r.lookups ≡ true
    → SaysKeyed count p.key r (says_need class p now kept (pending_in p.key r.lookups) f count)
need_keyed class p now kept f count r once below =
    if_keyed (nat_lt key_limit _) count p.key r (says_fault class.name p cause.KeyTooLong now)
    (says_fresh class p now (fresh_for class p.key now kept) (pending_in p.key r.lookups) f count)
    (λ c q e. absurd (none-some q e))
    (fresh_keyed class p now (fresh_for class p.key now kept) (pending_in p.key r.lookups) f count r once below refl)

-- a part that is found was there, with the same lookups
pub record WasPart (o : Option PartState) (p : PartState) : Type 0 where
  pub part : PartState
  pub was : o ≡ Some part
  pub lookups_are : p.row.lookups ≡ part.row.lookups

-- a check that needs this was there, of the same epoch, and needed the same
pub record WasNeed (o : Option CheckParts) (k : CheckParts) (x : Need) : Type 0 where
  pub check : CheckParts
  pub was : o ≡ Some check
  pub epoch_is : check.epoch ≡ k.epoch
  pub need_is : need_in check.stage ≡ Some x

-- where no lookup was put or ended, and no check begins to wait
pub keyed_from : (part now : ℕ → ℕ → Option PartState) (check next : ℕ → Option CheckParts) → AreKeyed part check
    → ((e c : ℕ) (p : PartState) → now e c ≡ Some p → WasPart (part e c) p)
    → ((n : ℕ) (k : CheckParts) (x : Need) → next n ≡ Some k → need_in k.stage ≡ Some x → WasNeed (check n) k x)
    → AreKeyed now next
keyed_from part now check next a parts needs = record {
  once = λ e c p is. let w = parts e c p is in subst AreOnce (sym w.lookups_are) (a.once e c w.part w.was);
  keys = λ n k x p is need at.
      let w = parts k.epoch x.class p at in
      let u = needs n k x is need in
      ap (key_of x.question) w.lookups_are
      ∙ a.keys n u.check x w.part u.was u.need_is (ap (λ z. part z x.class) u.epoch_is ∙ w.was);
}

-- where a class has the lookups that it had
pub keyed_before : (e c : ℕ) (before after : PartState) (old new : EpochsState) (check : ℕ → Option CheckParts)
    → PartChanged e c before after old new → after.row.lookups ≡ before.row.lookups
    → AreKeyed (part_at old) check → AreKeyed (part_at new) check
keyed_before e c before after old new check k same a =
    keyed_from (part_at old) (part_at new) check check a parts
    (λ n j x is need. record { check = j; was = is; epoch_is = refl; need_is = need })
  where
    parts : (f d : ℕ) (p : PartState) → part_at new f d ≡ Some p → WasPart (part_at old f d) p
    parts f d p is = two_ways (part_found e c before after old new k f d p is)
        (λ h. record {
          part = before;
          was = ap (λ z. part_at old z d) (sym h.epoch_is) ∙ ap (part_at old e) (sym h.class_is) ∙ k.was;
          lookups_are = ap (λ (z : PartState). z.row.lookups) (sym h.part_is) ∙ same;
        })
        (λ o. record { part = p; was = o.was; lookups_are = refl })

-- the question that a step said to wait for, as it is told
pub asked_told : (c : ℕ) (t : Told) → question_told (stepped_of c t) ≡ waits_told t
asked_told c (told.Waits q) = refl
asked_told c told.Done = refl
asked_told c t = refl

-- what a step left a check to need
pub record IsNoted (c : ℕ) (key : List ℕ) (q : Option ℕ) (x : Need) : Type 0 where
  pub class_is : x.class ≡ c
  pub key_is : x.key ≡ key
  pub question_is : q ≡ Some x.question

noted_need : (c : ℕ) (key : List ℕ) (took : Option Answer) (q : Option ℕ) (x : Need)
    → need_in (noted_stage took q c key) ≡ Some x → IsNoted c key q x
noted_need c key (Some a) q x e = absurd (none-some x e)
noted_need c key None None x e = absurd (none-some x e)
noted_need c key None (Some q) x e =
    let same = sym (same_Some _ _ e) in
    record {
      class_is = ap (λ z. z.class) same;
      key_is = ap (λ z. z.key) same;
      question_is = ap (λ z. Some z.question) (sym same);
    }

-- after a step that asked a class, of a check of this epoch
pub keyed_resolved : (old new : EpochsState) (cs : List (ℕ × CheckParts)) (t e c n puts : ℕ) (key : List ℕ)
    (class : Class) (said : StepEffect) (check : CheckParts) → AreKeyed (part_at old) (value_at cs)
    → ((f d : ℕ) (p : PartState) → part_at old f d ≡ Some p → all_below (suc puts) p.row.lookups ≡ true)
    → value_at cs n ≡ Some check → check.epoch ≡ e
    → IsChanged e c (IsResolved class c key (record { now = t; check = n; count = puts }) said) old new
    → AreKeyed (part_at new) (value_at (change_at n (noted said c key) cs))
keyed_resolved old new cs t e c n puts key class said check a below found epoch ch = record { once = once; keys = keys }
  where
    s : StepSays
    s = says_of_row class e c key t puts ch.before.row

    k : PartChanged e c ch.before ch.after old new
    k = part_changed e c (IsResolved class c key (record { now = t; check = n; count = puts }) said) old new ch

    row : ch.after.row ≡ after_says c puts s ch.before.row
    row = (ch.change e).row_is

    told_is : question_told said.stepped ≡ waits_told s.answer
    told_is = ap (λ z. question_told z.stepped) (ch.change e).said_is ∙ asked_told c s.answer

    once : (f d : ℕ) (p : PartState) → part_at new f d ≡ Some p → AreOnce p.row.lookups
    once f d p is = two_ways (part_found e c ch.before ch.after old new k f d p is)
        (λ h. subst (λ z. AreOnce z.row.lookups) h.part_is
        (subst (λ r. AreOnce r.lookups) (sym row)
        (once_put puts s.put (with_took c s.took ch.before.row) (below e c ch.before ch.was)
        (a.once e c ch.before ch.was))))
        (λ o. a.once f d p o.was)

    keys : (m : ℕ) (j : CheckParts) (x : Need) (p : PartState) → value_at (change_at n (noted said c key) cs) m ≡ Some j
        → need_in j.stage ≡ Some x → part_at new j.epoch x.class ≡ Some p
        → key_of x.question p.row.lookups ≡ Some x.key
    keys m j x p is need at = by (n == m) refl (sym (changed_at n m (noted said c key) cs) ∙ is)
      where
        by : (b : Bool) → (n == m) ≡ b → mapped_if b (noted said c key) (value_at cs m) ≡ Some j
            → key_of x.question p.row.lookups ≡ Some x.key
        by true y was =
            let same : noted said c key check ≡ j =
            same_Some _ _ (sym (ap (option_map (noted said c key)) (ap (value_at cs) (sym (number_is n m y)) ∙ found))
            ∙ was) in
            let u = noted_need c key said.took (question_told said.stepped) x (ap (λ z. need_in z.stage) same ∙ need) in
            let je : j.epoch ≡ e = ap (λ z. z.epoch) (sym same) ∙ epoch in
            let part : ch.after ≡ p =
            same_Some _ _ (sym k.here ∙ ap (part_at new e) (sym u.class_is) ∙ ap (λ z. part_at new z x.class) (sym je) ∙
            at) in
            ap (λ z. key_of x.question z.row.lookups) (sym part) ∙ ap (λ r. key_of x.question r.lookups) row
            ∙ need_keyed class (record { epoch = e; class = c; key = key }) t ch.before.row.kept
            (full ch.before.row.stock) puts ch.before.row (a.once e c ch.before ch.was) (below e c ch.before ch.was) c
            x.question (sym told_is ∙ u.question_is)
            ∙ ap Some (sym u.key_is)
        by false y was = two_ways (part_found e c ch.before ch.after old new k j.epoch x.class p at)
            (λ h.
            let at_before : part_at old j.epoch x.class ≡ Some ch.before =
            ap (λ z. part_at old z x.class) (sym h.epoch_is) ∙ ap (part_at old e) (sym h.class_is) ∙ ch.was in
            ap (λ z. key_of x.question z.row.lookups) (sym h.part_is) ∙ ap (λ r. key_of x.question r.lookups) row
            ∙ key_still puts s.put (with_took c s.took ch.before.row) x.question x.key
            (a.keys m j x ch.before was need at_before))
            (λ o. a.keys m j x p was need o.was)
