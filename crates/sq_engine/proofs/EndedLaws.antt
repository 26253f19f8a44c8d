-- An engine is one still after questions of one class ended.
use Rattle.std.proofs.Common.{◌≡◌, ◌∙◌, ◌==◌, ◌&&◌, ◌||◌, inl, ℕ, suc, List, [], ◌∷◌, Bool, true, false, not, if◌then◌else◌, nat_lt, filter, Option, None, Some, is_some, refl, ap, sym, subst}
use Rattle.std.proofs.lemmas.Option.{none-some, same_Some}
use Rattle.std.specs.Option.{option_map}
use Rattle.sq_machine.specs.OpenLookups.{LookupRow, all_below, is_open_lookup, key_of, question_of}
use Rattle.sq_model.specs.CheckRows.{Ends, after_ends, served}
use Rattle.sq_model.specs.ClassRows.{ClassRow}
use Rattle.sq_class.specs.Parts.{PartState}
use Rattle.sq_checks.specs.Conns.{check_in}
use Rattle.sq_checks.specs.OpenChecks.{CheckParts, rows_of}
use Rattle.sq_checks.specs.Stages.{need_in}
use Rattle.sq_checks.specs.Tables.{value_at}
use Rattle.sq_checks.specs.declared.stages.Need.{Need}
use Rattle.sq_epochs.specs.EpochStates.{EpochsState, IsChanged, epoch_at, part_at, row_at}
use Rattle.sq_engine.specs.Engines.{AreAsked, AreConfigured, AreCounted, AreOnce, IsEngine, asked_of, waits_at}
use Rattle.sq_engine.specs.EngineViews.{EngineView, config_at, config_in}
use Rattle.sq_engine.proofs.HeldLaws.{asked_mapped, counted_mapped, ends_keep}
use Rattle.sq_engine.proofs.PartLaws.{PartFed, fed_changed, part_found, two_ways, waiting_part}
use Rattle.sq_engine.proofs.PlaceLaws.{PartChanged, configs_kept, configured_part, counted_part, part_changed}
use Rattle.sq_engine.proofs.TableLaws.{number_is, number_self}

-- what is left of a question that is waited for, and of a need, where these questions ended
abbrev pub left_waits : (ℕ → Bool) → Option ℕ → Option ℕ
left_waits gone None = None
left_waits gone (Some q) = if gone q then None else Some q

abbrev pub left_need : (ℕ → Bool) → Option Need → Option Need
left_need gone None = None
left_need gone (Some x) = if gone x.question then None else Some x

-- a class was changed so, by which these of its questions, which were open, ended; no question is lost
pub record HasEnds (F : ClassRow → ClassRow) (gone : ℕ → Bool) (old new : PartState) : Type 0 where
  pub row_is : new.row ≡ F old.row
  pub lookups_are : new.row.lookups ≡ filter (λ l. not (gone l.question)) old.row.lookups
  pub waits : (n : ℕ) → question_of n new.waiting ≡ left_waits gone (question_of n old.waiting)
  pub none_lost : new.row.stock.losses ≡ []
  pub opened : (q : ℕ) → gone q ≡ true → is_open_lookup q old.row.lookups ≡ true

-- a change of a check by which it waits for these questions no more
pub record IsEnding (gone : ℕ → Bool) (f : CheckParts → CheckParts) : Type 0 where
  pub epoch_is : (k : CheckParts) → (f k).epoch ≡ k.epoch
  pub config_is : (k : CheckParts) → (f k).config ≡ k.config
  pub need_is : (k : CheckParts) → need_in (f k).stage ≡ left_need gone (need_in k.stage)

both : (a b : Bool) → (a && b) ≡ true → (a ≡ true) × (b ≡ true)
both true b h = (refl, h)
both false b h = absurd (cc)

or_true : (b a : Bool) → a ≡ true → (b || a) ≡ true
or_true true a e = refl
or_true false a e = e

neither : (a b : Bool) → (a || b) ≡ false → (a ≡ false) × (b ≡ false)
neither true b h = absurd (cc)
neither false b h = (refl, h)

-- lookups that are left
below_left : (n : ℕ) (gone : ℕ → Bool) (rows : List LookupRow) → all_below n rows ≡ true
    → all_below n (filter (λ (l : LookupRow). not (gone l.question)) rows) ≡ true
below_left n gone [] h = refl
below_left n gone (l ∷ rows) h = by (gone l.question) refl (both (nat_lt l.question n) (all_below n rows) h)
    (λ k. below_left n gone rows k)
  where
    by : (b : Bool) → gone l.question ≡ b → (nat_lt l.question n ≡ true) × (all_below n rows ≡ true)
        → (all_below n rows ≡ true → all_below n (filter (λ (r : LookupRow). not (gone r.question)) rows) ≡ true)
        → all_below n (filter (λ (r : LookupRow). not (gone r.question)) (l ∷ rows)) ≡ true
    by true x s more = rw x (more s.1)
    by false x s more = rw (x, s.0) (more s.1)

pub open_left : (q : ℕ) (gone : ℕ → Bool) (rows : List LookupRow)
    → is_open_lookup q (filter (λ (l : LookupRow). not (gone l.question)) rows) ≡ true → is_open_lookup q rows ≡ true
open_left q gone [] h = h
open_left q gone (l ∷ rows) h = by (gone l.question) (q == l.question) refl refl h (λ k. open_left q gone rows k)
  where
    by : (b c : Bool) → gone l.question ≡ b → (q == l.question) ≡ c
        → is_open_lookup q (filter (λ (r : LookupRow). not (gone r.question)) (l ∷ rows)) ≡ true
        → (is_open_lookup q (filter (λ (r : LookupRow). not (gone r.question)) rows) ≡ true
        → is_open_lookup q rows ≡ true) → is_open_lookup q (l ∷ rows) ≡ true
    by true c x y h more = or_true (q == l.question) (is_open_lookup q rows) (more (rw x at h))
    by false true x y h more = rw y refl
    by false false x y h more = rw y (more (rw (x, y) at h))

not_open_left : (q : ℕ) (gone : ℕ → Bool) (rows : List LookupRow) → is_open_lookup q rows ≡ false
    → is_open_lookup q (filter (λ (l : LookupRow). not (gone l.question)) rows) ≡ false
not_open_left q gone [] h = h
not_open_left q gone (l ∷ rows) h = by (gone l.question) refl (neither (q == l.question) (is_open_lookup q rows) h)
    (λ k. not_open_left q gone rows k)
  where
    by : (b : Bool) → gone l.question ≡ b → ((q == l.question) ≡ false) × (is_open_lookup q rows ≡ false)
        → (is_open_lookup q rows ≡ false
        → is_open_lookup q (filter (λ (r : LookupRow). not (gone r.question)) rows) ≡ false)
        → is_open_lookup q (filter (λ (r : LookupRow). not (gone r.question)) (l ∷ rows)) ≡ false
    by true x s more = rw x (more s.1)
    by false x s more = rw (x, s.0) (more s.1)

once_left : (gone : ℕ → Bool) (rows : List LookupRow) → AreOnce rows
    → AreOnce (filter (λ (l : LookupRow). not (gone l.question)) rows)
once_left gone [] o = tt
once_left gone (l ∷ rows) o = by (gone l.question) refl (once_left gone rows o.1)
  where
    by : (b : Bool) → gone l.question ≡ b → AreOnce (filter (λ (r : LookupRow). not (gone r.question)) rows)
        → AreOnce (filter (λ (r : LookupRow). not (gone r.question)) (l ∷ rows))
    by true x more = rw x more
    by false x more = rw x (not_open_left l.question gone rows o.0, more)

-- a question that did not end
moved : (q m : ℕ) (gone : ℕ → Bool) → gone q ≡ false → gone m ≡ true → (q == m) ≡ false
moved q m gone x y = by (q == m) refl
  where
    by : (b : Bool) → (q == m) ≡ b → b ≡ false
    by true e = absurd (let s = ap gone (number_is q m e) in cc)
    by false e = refl

open_kept : (q : ℕ) (gone : ℕ → Bool) (rows : List LookupRow) → gone q ≡ false
    → is_open_lookup q (filter (λ (l : LookupRow). not (gone l.question)) rows) ≡ is_open_lookup q rows
open_kept q gone [] e = refl
open_kept q gone (l ∷ rows) e = by (gone l.question) refl (open_kept q gone rows e)
  where
    by : (b : Bool) → gone l.question ≡ b
        → is_open_lookup q (filter (λ (r : LookupRow). not (gone r.question)) rows) ≡ is_open_lookup q rows
        → is_open_lookup q (filter (λ (r : LookupRow). not (gone r.question)) (l ∷ rows)) ≡ is_open_lookup q (l ∷ rows)
    by true x more = let other = moved q l.question gone e x in rw (x, other) more
    by false x more = rw x (ap (λ b. (q == l.question) || b) more)

pub key_kept : (q : ℕ) (gone : ℕ → Bool) (rows : List LookupRow) → gone q ≡ false
    → key_of q (filter (λ (l : LookupRow). not (gone l.question)) rows) ≡ key_of q rows
key_kept q gone [] e = refl
key_kept q gone (l ∷ rows) e = by (gone l.question) (q == l.question) refl refl (key_kept q gone rows e)
  where
    by : (b c : Bool) → gone l.question ≡ b → (q == l.question) ≡ c
        → key_of q (filter (λ (r : LookupRow). not (gone r.question)) rows) ≡ key_of q rows
        → key_of q (filter (λ (r : LookupRow). not (gone r.question)) (l ∷ rows)) ≡ key_of q (l ∷ rows)
    by true c x y more = let other = moved q l.question gone e x in rw (x, other) more
    by false true x y more = rw (x, y) refl
    by false false x y more = rw (x, y) more

-- what is still needed was needed, and its question did not end
pub record WasLeft (gone : ℕ → Bool) (o : Option Need) (x : Need) : Type 0 where
  pub was : o ≡ Some x
  pub left : gone x.question ≡ false

was_left : (gone : ℕ → Bool) (o : Option Need) (x : Need) → left_need gone o ≡ Some x → WasLeft gone o x
was_left gone None x e = absurd (none-some x e)
was_left gone (Some y) x e = by (gone y.question) refl e
  where
    by : (b : Bool) → gone y.question ≡ b → left_need gone (Some y) ≡ Some x → WasLeft gone (Some y) x
    by true g e = absurd (none-some x (rw g at e))
    by false g e = let same : y ≡ x = same_Some _ _ (rw g at e) in
        record { was = ap Some same; left = ap (λ z. gone z.question) (sym same) ∙ g }

-- a question that is still waited for
pub record WasWait (gone : ℕ → Bool) (o : Option ℕ) (q : ℕ) : Type 0 where
  pub was : o ≡ Some q
  pub left : gone q ≡ false

was_wait : (gone : ℕ → Bool) (o : Option ℕ) (q : ℕ) → left_waits gone o ≡ Some q → WasWait gone o q
was_wait gone None q e = absurd (none-some q e)
was_wait gone (Some m) q e = by (gone m) refl e
  where
    by : (b : Bool) → gone m ≡ b → left_waits gone (Some m) ≡ Some q → WasWait gone (Some m) q
    by true g e = absurd (none-some q (rw g at e))
    by false g e = let same : m ≡ q = same_Some _ _ (rw g at e) in
        record { was = ap Some same; left = ap gone (sym same) ∙ g }

asked_left : (c : ℕ) (gone : ℕ → Bool) (o : Option Need)
    → asked_of c (left_need gone o) ≡ left_waits gone (asked_of c o)
asked_left c gone None = refl
asked_left c gone (Some x) = by (gone x.question) (c == x.class) refl refl
  where
    by : (b d : Bool) → gone x.question ≡ b → (c == x.class) ≡ d
        → asked_of c (left_need gone (Some x)) ≡ left_waits gone (asked_of c (Some x))
    by true true y z = rw (y, z) (rw y refl)
    by true false y z = rw (y, z) refl
    by false true y z = rw (y, z) (rw y refl)
    by false false y z = rw (y, z) refl

waits_left : (e c : ℕ) (gone : ℕ → Bool) (f : CheckParts → CheckParts) (o : Option CheckParts) → IsEnding gone f
    → waits_at e c (option_map f o) ≡ left_waits gone (waits_at e c o)
waits_left e c gone f None i = refl
waits_left e c gone f (Some k) i =
    ap (λ z. if e == z then asked_of c (need_in (f k).stage) else None) (i.epoch_is k)
    ∙ ap (λ z. if e == k.epoch then asked_of c z else None) (i.need_is k)
    ∙ ap (λ z. if e == k.epoch then z else None) (asked_left c gone (need_in k.stage))
    ∙ by (e == k.epoch) (asked_of c (need_in k.stage))
  where
    by : (b : Bool) (q : Option ℕ) → (if b then left_waits gone q else None) ≡ left_waits gone (if b then q else None)
    by true q = refl
    by false q = refl

-- a check after the ends was there
pub record WasEnded (f : CheckParts → CheckParts) (o : Option CheckParts) (k : CheckParts) : Type 0 where
  pub check : CheckParts
  pub was : o ≡ Some check
  pub is : f check ≡ k

was_ended : (f : CheckParts → CheckParts) (o : Option CheckParts) (k : CheckParts) → option_map f o ≡ Some k
    → WasEnded f o k
was_ended f None k e = absurd (none-some k e)
was_ended f (Some j) k e = record { check = j; was = refl; is = same_Some _ _ e }

-- the engine after questions of class c of epoch e ended,
-- and the checks that waited for them were given what they came to
pub ended_engine : (v : EngineView) (new : EpochsState) (cs : List (ℕ × CheckParts)) (t e c : ℕ)
    (F : ClassRow → ClassRow) (gone : ℕ → Bool) (f : CheckParts → CheckParts) (ends : Ends) → IsEngine v
    → IsChanged e c (HasEnds F gone) v.epochs (record new { homes = v.epochs.homes; stops = v.epochs.stops })
    → IsEnding gone f
    → ((n : ℕ) → value_at cs n ≡ option_map f (value_at v.checks n)) → rows_of cs ≡ after_ends ends (rows_of v.checks)
    → IsEngine (record v { checks = cs; epochs = new; latest = t })
ended_engine v new cs t e c F gone f ends i ch fits at rows = record {
  asked = subst (λ hs. AreAsked (check_in v.conns) hs v.asks) (sym rows)
      (asked_mapped (served ends) (check_in v.conns) (rows_of v.checks) v.asks (ends_keep ends) i.asked);
  counted = counted_part e c ch.before ch.after v.epochs next (rows_of cs) k
      (subst (λ hs. AreCounted v.epochs.current (epoch_at v.epochs) hs) (sym rows)
      (counted_mapped (served ends) v.epochs.current (epoch_at v.epochs) (rows_of v.checks) (ends_keep ends)
      i.counted));
  configured = configured_part e c ch.before ch.after v.epochs next (value_at cs) k configured;
  waiting = waiting_part e c ch.before ch.after v.epochs next (value_at cs) (value_at v.checks) k i.waiting here other
      there;
  fed = fed_changed e c ch.before ch.after v.epochs next v.puts v.puts k i.fed part_fed
      (λ q h. inl (open_left q gone ch.before.row.lookups (sym (ap (is_open_lookup q) ch.change.lookups_are) ∙ h)))
      (λ p h. h) i.fed.few;
  keyed = record { once = once; keys = keys };
  setup_is = ap (config_at next) k.current_is ∙ configs_kept e c ch.before ch.after v.epochs next k v.epochs.current
      ∙ i.setup_is;
}
  where
    next : EpochsState
    next = record new { homes = v.epochs.homes; stops = v.epochs.stops }

    k : PartChanged e c ch.before ch.after v.epochs next
    k = part_changed e c (HasEnds F gone) v.epochs next ch

    configured : AreConfigured (epoch_at v.epochs) (value_at cs)
    configured n j is =
        let w = was_ended f (value_at v.checks n) j (sym (at n) ∙ is) in
        ap (λ z. config_in (epoch_at v.epochs z.epoch)) (sym w.is)
        ∙ ap (λ z. config_in (epoch_at v.epochs z)) (fits.epoch_is w.check) ∙ i.configured n w.check w.was
        ∙ ap Some (sym (fits.config_is w.check)) ∙ ap (λ z. Some z.config) w.is

    here : (n : ℕ) → question_of n ch.after.waiting ≡ waits_at e c (value_at cs n)
    here n =
        ch.change.waits n ∙ ap (left_waits gone) (i.waiting.waits e c ch.before ch.was n)
        ∙ sym (waits_left e c gone f (value_at v.checks n) fits) ∙ ap (waits_at e c) (sym (at n))

    -- a question that is waited for elsewhere did not end
    kept : (g d n q : ℕ) (p : PartState) → (e == g && c == d) ≡ false → part_at v.epochs g d ≡ Some p
        → waits_at g d (value_at v.checks n) ≡ Some q → gone q ≡ false
    kept g d n q p apart is waits = by (gone q) refl
      where
        by : (b : Bool) → gone q ≡ b → b ≡ false
        by true x =
            let there = i.fed.waits_open g d n q p is (i.waiting.waits g d p is n ∙ waits) in
            let s = i.fed.apart q e c g d ch.before p ch.was is (ch.change.opened q x) there in
            let same : (e == g && c == d) ≡ true = rw (s.0, s.1, number_self g, number_self d) refl in
            absurd (cc)
        by false x = refl

    left_same : (o : Option ℕ) → ((q : ℕ) → o ≡ Some q → gone q ≡ false) → left_waits gone o ≡ o
    left_same None stays = refl
    left_same (Some q) stays = let x = stays q refl in rw x refl

    other : (g d n : ℕ) → (e == g && c == d) ≡ false → is_some (part_at v.epochs g d) ≡ true
        → waits_at g d (value_at cs n) ≡ waits_at g d (value_at v.checks n)
    other g d n apart there =
        ap (waits_at g d) (at n) ∙ waits_left g d gone f (value_at v.checks n) fits
        ∙ left_same (waits_at g d (value_at v.checks n)) (λ q waits. by (part_at v.epochs g d) refl there q waits)
      where
        by : (o : Option PartState) → part_at v.epochs g d ≡ o → is_some o ≡ true → (q : ℕ)
            → waits_at g d (value_at v.checks n) ≡ Some q → gone q ≡ false
        by None is h q waits = absurd (cc)
        by (Some p) is h q waits = kept g d n q p apart is waits

    there : (n : ℕ) (j : CheckParts) (x : Need) → value_at cs n ≡ Some j → need_in j.stage ≡ Some x
        → is_some (part_at v.epochs j.epoch x.class) ≡ true
    there n j x is needs =
        let w = was_ended f (value_at v.checks n) j (sym (at n) ∙ is) in
        let u = was_left gone (need_in w.check.stage) x
        (sym (fits.need_is w.check) ∙ ap (λ z. need_in z.stage) w.is ∙ needs) in
        ap (λ z. is_some (part_at v.epochs z.epoch x.class)) (sym w.is)
        ∙ ap (λ z. is_some (part_at v.epochs z x.class)) (fits.epoch_is w.check)
        ∙ i.waiting.there n w.check x w.was u.was

    part_fed : PartFed v.puts ch.before ch.after
    part_fed = record {
      below = ap (all_below (suc v.puts)) ch.change.lookups_are
          ∙ below_left (suc v.puts) gone ch.before.row.lookups (i.fed.below e c ch.before ch.was);
      none_lost = ch.change.none_lost;
      waits_open = λ n q waits.
          let w = was_wait gone (question_of n ch.before.waiting) q (sym (ch.change.waits n) ∙ waits) in
          ap (is_open_lookup q) ch.change.lookups_are ∙ open_kept q gone ch.before.row.lookups w.left
          ∙ i.fed.waits_open e c n q ch.before ch.was w.was;
    }

    once : (g d : ℕ) (p : PartState) → part_at next g d ≡ Some p → AreOnce p.row.lookups
    once g d p is = two_ways (part_found e c ch.before ch.after v.epochs next k g d p is)
        (λ h. subst (λ z. AreOnce z.row.lookups) h.part_is
        (subst AreOnce (sym ch.change.lookups_are)
        (once_left gone ch.before.row.lookups (i.keyed.once e c ch.before ch.was))))
        (λ o. i.keyed.once g d p o.was)

    keys : (n : ℕ) (j : CheckParts) (x : Need) (p : PartState) → value_at cs n ≡ Some j → need_in j.stage ≡ Some x
        → part_at next j.epoch x.class ≡ Some p → key_of x.question p.row.lookups ≡ Some x.key
    keys n j x p is needs found =
        let w = was_ended f (value_at v.checks n) j (sym (at n) ∙ is) in
        let u = was_left gone (need_in w.check.stage) x
        (sym (fits.need_is w.check) ∙ ap (λ z. need_in z.stage) w.is ∙ needs) in
        let same : j.epoch ≡ w.check.epoch = ap (λ z. z.epoch) (sym w.is) ∙ fits.epoch_is w.check in
        two_ways (part_found e c ch.before ch.after v.epochs next k j.epoch x.class p found)
        (λ h.
        let at_before : part_at v.epochs w.check.epoch x.class ≡ Some ch.before =
        ap (λ z. part_at v.epochs z x.class) (sym same) ∙ ap (λ z. part_at v.epochs z x.class) (sym h.epoch_is)
        ∙ ap (part_at v.epochs e) (sym h.class_is) ∙ ch.was in
        ap (λ z. key_of x.question z.row.lookups) (sym h.part_is) ∙ ap (key_of x.question) ch.change.lookups_are
        ∙ key_kept x.question gone ch.before.row.lookups u.left
        ∙ i.keyed.keys n w.check x ch.before w.was u.was at_before)
        (λ o. i.keyed.keys n w.check x p w.was u.was (ap (λ z. part_at v.epochs z x.class) (sym same) ∙ o.was))

-- a class of the state after it
pub ended_rows : (old new : EpochsState) (e c f d : ℕ) (F : ClassRow → ClassRow) (gone : ℕ → Bool)
    → IsChanged e c (HasEnds F gone) old new
    → row_at new f d ≡ (if e == f && c == d then option_map F (row_at old f d) else row_at old f d)
ended_rows old new e c f d F gone ch = by (e == f && c == d) refl
  where
    k : PartChanged e c ch.before ch.after old new
    k = part_changed e c (HasEnds F gone) old new ch

    by : (b : Bool) → (e == f && c == d) ≡ b
        → row_at new f d ≡ (if e == f && c == d then option_map F (row_at old f d) else row_at old f d)
    by true x =
        let s = both (e == f) (c == d) x in
        let ef : f ≡ e = sym (number_is e f s.0) in
        let cd : d ≡ c = sym (number_is c d s.1) in
        let now : part_at new f d ≡ Some ch.after = ap (λ z. part_at new z d) ef ∙ ap (part_at new e) cd ∙ k.here in
        let was : part_at old f d ≡ Some ch.before = ap (λ z. part_at old z d) ef ∙ ap (part_at old e) cd ∙ ch.was in
        rw x (ap (option_map (λ p. p.row)) now ∙ ap Some ch.change.row_is
        ∙ sym (ap (λ o. option_map F (option_map (λ p. p.row) o)) was))
    by false x = rw x (ap (option_map (λ p. p.row)) (k.other f d x))

-- and the configurations
pub ended_configs : (old new : EpochsState) (e c f : ℕ) (F : ClassRow → ClassRow) (gone : ℕ → Bool)
    → IsChanged e c (HasEnds F gone) old new → config_at new f ≡ config_at old f
ended_configs old new e c f F gone ch = configs_kept e c ch.before ch.after old new
    (part_changed e c (HasEnds F gone) old new ch) f
