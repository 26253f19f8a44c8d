-- An engine is one still after a step that asked a class.
use Rattle.std.proofs.Common.{◌≡◌, ◌∙◌, ◌==◌, ◌&&◌, ◌⊎◌, inl, inr, ◌<◌, ℕ, suc, List, Bool, true, false, if◌then◌else◌, Option, None, Some, is_some, refl, ap, sym, subst, arith}
use Rattle.std.proofs.lemmas.Option.{none-some, same_Some}
use Rattle.std.specs.Option.{option_map}
use Rattle.sq_base.specs.declared.helpers.Answer.{Answer}
use Rattle.sq_machine.specs.AnswerReadings.{waits_told}
use Rattle.sq_rules.specs.Classes.{Class}
use Rattle.sq_machine.specs.Farms.{full}
use Rattle.sq_machine.specs.Limits.{last_number}
use Rattle.sq_machine.specs.OpenLookups.{all_below, is_open_lookup, pending_in, question_of}
use Rattle.sq_machine.specs.StepRule.{StepSays}
use Rattle.sq_model.specs.CheckRows.{after_step}
use Rattle.sq_model.specs.ClassRows.{with_took}
use Rattle.sq_model.specs.StepRows.{after_says, question_told, says_of_row}
use Rattle.sq_model.specs.declared.stepping.StepEffect.{StepEffect}
use Rattle.sq_model.specs.declared.stepping.Stepped.{Stepped}
use Rattle.sq_model.specs.declared.stepping.Stepped.TheVariants as stepped
use Rattle.sq_class.specs.Parts.{IsAsBefore, PartState}
use Rattle.sq_checks.proofs.StepLaws.{need_noted}
use Rattle.sq_checks.specs.Conns.{check_in}
use Rattle.sq_checks.specs.OpenChecks.{CheckParts, change_at, noted, rows_of, says_of}
use Rattle.sq_checks.specs.Stages.{is_noted, need_in, noted_stage}
use Rattle.sq_checks.specs.Tables.{value_at}
use Rattle.sq_checks.specs.declared.stages.Need.{Need}
use Rattle.sq_epochs.specs.EpochChanges.{IsResolved}
use Rattle.sq_epochs.specs.EpochStates.{EpochsState, IsChanged, epoch_at, part_at, row_at}
use Rattle.sq_model.specs.States.{IsSame}
use Rattle.sq_engine.specs.Engines.{AreConfigured, AreFed, AreKeyed, AreWaiting, IsEngine, asked_of, waits_at}
use Rattle.sq_engine.specs.EngineViews.{EngineView, config_at, state_of}
use Rattle.sq_engine.proofs.ChangedLaws.{configured_changed}
use Rattle.sq_engine.proofs.HeldLaws.{asked_stepped, counted_stepped}
use Rattle.sq_engine.proofs.KeyLaws.{asked_told, keyed_before, keyed_resolved}
use Rattle.sq_engine.proofs.LookupLaws.{losses_put, need_open, not_open, open_still, put_below, put_higher, puts_after, was_open}
use Rattle.sq_engine.proofs.PartLaws.{IsOwn, PartFed, fed_changed, waiting_part}
use Rattle.sq_engine.proofs.PlaceLaws.{PartChanged, configs_kept, configured_part, counted_part, part_changed}
use Rattle.sq_engine.proofs.TableLaws.{changed_at, mapped_if, number_is, number_self, number_sym}

-- a check that is told so waits in the class that it asked, and nowhere else
noted_waits : (c : ℕ) (key : List ℕ) (took : Option Answer) (st : Stepped) → is_noted took st ≡ true
    → asked_of c (need_in (noted_stage took (question_told st) c key)) ≡ question_told st
noted_waits c key (Some a) (stepped.Took d) e = refl
noted_waits c key None (stepped.Took d) e = refl
noted_waits c key None (stepped.Waits q) e = rw (number_self c) refl
noted_waits c key (Some a) (stepped.Waits q) e = absurd (cc)
noted_waits c key (Some a) stepped.Done e = absurd (cc)
noted_waits c key None stepped.Done e = absurd (cc)

noted_else : (c d : ℕ) (key : List ℕ) (took : Option Answer) (q : Option ℕ) → (d == c) ≡ false
    → asked_of d (need_in (noted_stage took q c key)) ≡ None
noted_else c d key (Some a) q e = refl
noted_else c d key None None e = refl
noted_else c d key None (Some q) e = rw e refl

noted_class : (c : ℕ) (key : List ℕ) (took : Option Answer) (q : Option ℕ) (x : Need)
    → need_in (noted_stage took q c key) ≡ Some x → x.class ≡ c
noted_class c key (Some a) q x e = absurd (none-some x e)
noted_class c key None None x e = absurd (none-some x e)
noted_class c key None (Some q) x e = ap (λ z. z.class) (sym (same_Some _ _ e))

-- what a step that asks a class is of: its check, which is of this epoch and waits for nothing
pub record IsAsking (v : EngineView) (e n : ℕ) : Type 0 where
  pub check : CheckParts
  pub found : value_at v.checks n ≡ Some check
  pub epoch_is : check.epoch ≡ e
  pub need_none : need_in check.stage ≡ None

same_number : (a b : ℕ) → a ≡ b → (a == b) ≡ true
same_number a b e = grind (arith, e)

wait_here : (e c : ℕ) (key : List ℕ) (said : StepEffect) (k : CheckParts) → k.epoch ≡ e
    → is_noted said.took said.stepped ≡ true → waits_at e c (Some (noted said c key k)) ≡ question_told said.stepped
wait_here e c key said k is fits = ap (λ b. if b then asked_of c
    (need_in (noted_stage said.took (question_told said.stepped) c key)) else None) (same_number e k.epoch (sym is))
    ∙ noted_waits c key said.took said.stepped fits

none_either : (b : Bool) (o : Option ℕ) → o ≡ None → (if b then o else None) ≡ None
none_either true o e = e
none_either false o e = refl

wait_else : (e c f d : ℕ) (key : List ℕ) (said : StepEffect) (k : CheckParts) → k.epoch ≡ e → need_in k.stage ≡ None
    → (e == f && c == d) ≡ false
    → waits_at f d (Some (noted said c key k)) ≡ waits_at f d (Some k)
wait_else e c f d key said k is none apart = by (f == k.epoch) refl
    ∙ sym (none_either (f == k.epoch) (asked_of d (need_in k.stage)) (ap (asked_of d) none))
  where
    other : (a b : Bool) → (a && b) ≡ false → a ≡ true → b ≡ false
    other true b x y = x
    other false b x y = absurd (cc)

    by : (b : Bool) → (f == k.epoch) ≡ b
        → (if f == k.epoch then asked_of d (need_in (noted_stage said.took (question_told said.stepped) c key))
        else None) ≡ None
    by true x =
        let ef : (e == f) ≡ true = same_number e f (sym is ∙ sym (number_is f k.epoch x)) in
        rw x (noted_else c d key said.took (question_told said.stepped)
        (number_sym d c ∙ other (e == f) (c == d) apart ef))
    by false x = rw x refl

-- who waits where after it
waiting_resolved : (v : EngineView) (t e c n : ℕ) (key : List ℕ) (class : Class) (said : StepEffect) (new : EpochsState)
    → IsEngine v → IsAsking v e n
    → (ch : IsChanged e c (IsResolved class c key (record { now = t; check = n; count = v.puts }) said) v.epochs new)
    → AreWaiting (part_at new) (value_at (change_at n (noted said c key) v.checks))
waiting_resolved v t e c n key class said new i a ch =
    let k =
    part_changed e c (IsResolved class c key (record { now = t; check = n; count = v.puts }) said) v.epochs new ch in
    waiting_part e c ch.before ch.after v.epochs new (value_at (change_at n (noted said c key) v.checks))
    (value_at v.checks) k i.waiting here other there
  where
    s : StepSays
    s = says_of_row class e c key t v.puts ch.before.row

    fits : is_noted said.took said.stepped ≡ true
    fits = ap (λ z. is_noted z.took z.stepped) (ch.change e).said_is
        ∙ (need_noted class (record { epoch = e; class = c; key = key }) t ch.before.row.kept
        (pending_in key ch.before.row.lookups) (full ch.before.row.stock) v.puts c).fits

    told_is : question_told said.stepped ≡ waits_told s.answer
    told_is = ap (λ z. question_told z.stepped) (ch.change e).said_is ∙ asked_told c s.answer

    at_check : (m : ℕ) → (n == m) ≡ true → value_at v.checks m ≡ Some a.check
    at_check m x = ap (value_at v.checks) (sym (number_is n m x)) ∙ a.found

    here : (m : ℕ) → question_of m ch.after.waiting
        ≡ waits_at e c (value_at (change_at n (noted said c key) v.checks) m)
    here m = (ch.change e).waiting_are m ∙ by (n == m) refl
        ∙ sym (ap (waits_at e c) (changed_at n m (noted said c key) v.checks))
      where
        by : (b : Bool) → (n == m) ≡ b
            → (if m == n then waits_told s.answer else question_of m ch.before.waiting)
            ≡ waits_at e c (mapped_if (n == m) (noted said c key) (value_at v.checks m))
        by true x = rw (number_sym m n, x)
            (sym (ap (λ o. waits_at e c (option_map (noted said c key) o)) (at_check m x)
            ∙ wait_here e c key said a.check a.epoch_is fits ∙ told_is))
        by false x = rw (number_sym m n, x) (i.waiting.waits e c ch.before ch.was m)

    other : (f d m : ℕ) → (e == f && c == d) ≡ false → is_some (part_at v.epochs f d) ≡ true
        → waits_at f d (value_at (change_at n (noted said c key) v.checks) m) ≡ waits_at f d (value_at v.checks m)
    other f d m apart there = ap (waits_at f d) (changed_at n m (noted said c key) v.checks) ∙ by (n == m) refl
      where
        by : (b : Bool) → (n == m) ≡ b
            → waits_at f d (mapped_if (n == m) (noted said c key) (value_at v.checks m))
            ≡ waits_at f d (value_at v.checks m)
        by true x = rw x (ap (λ o. waits_at f d (option_map (noted said c key) o)) (at_check m x)
            ∙ wait_else e c f d key said a.check a.epoch_is a.need_none apart ∙ sym (ap (waits_at f d) (at_check m x)))
        by false x = rw x refl

    there : (m : ℕ) (k : CheckParts) (x : Need) → value_at (change_at n (noted said c key) v.checks) m ≡ Some k
        → need_in k.stage ≡ Some x → is_some (part_at v.epochs k.epoch x.class) ≡ true
    there m k x is needs = by (n == m) refl (sym (changed_at n m (noted said c key) v.checks) ∙ is)
      where
        by : (b : Bool) → (n == m) ≡ b → mapped_if (n == m) (noted said c key) (value_at v.checks m) ≡ Some k
            → is_some (part_at v.epochs k.epoch x.class) ≡ true
        by true y found =
            let same : noted said c key a.check ≡ k =
            same_Some _ _ (sym (ap (λ b. mapped_if b (noted said c key) (value_at v.checks m)) y
            ∙ ap (option_map (noted said c key)) (at_check m y)) ∙ found) in
            let epoch : k.epoch ≡ e = ap (λ z. z.epoch) (sym same) ∙ a.epoch_is in
            let cls : x.class ≡ c = noted_class c key said.took (question_told said.stepped) x
            (ap (λ z. need_in z.stage) same ∙ needs) in
            ap (λ z. is_some (part_at v.epochs z x.class)) epoch ∙ ap (λ z. is_some (part_at v.epochs e z)) cls
            ∙ ap is_some ch.was
        by false y found = i.waiting.there m k x
            (sym (ap (λ b. mapped_if b (noted said c key) (value_at v.checks m)) y) ∙ found) needs

-- the open questions after it
fed_resolved : (v : EngineView) (t e c n : ℕ) (key : List ℕ) (class : Class) (said : StepEffect) (new : EpochsState)
    (puts : ℕ) → IsEngine v
    → (ch : IsChanged e c (IsResolved class c key (record { now = t; check = n; count = v.puts }) said) v.epochs new)
    → puts ≡ (if said.put then suc v.puts else v.puts) → AreFed (part_at new) puts
fed_resolved v t e c n key class said new puts i ch put =
    let k =
    part_changed e c (IsResolved class c key (record { now = t; check = n; count = v.puts }) said) v.epochs new ch in
    subst (AreFed (part_at new)) (sym (put ∙ ap (λ z. if z.put then suc v.puts else v.puts) (ch.change e).said_is))
    (fed_changed e c ch.before ch.after v.epochs new v.puts (puts_after v.puts s.put) k i.fed part_fed own
    (λ p h. put_higher v.puts s.put p.row.lookups h) (few (is_some s.put) refl))
  where
    s : StepSays
    s = says_of_row class e c key t v.puts ch.before.row

    few : (b : Bool) → is_some s.put ≡ b → puts_after v.puts s.put < last_number
    few true x = subst (λ b. (if b then suc v.puts else v.puts) < last_number) (sym x) ((ch.change e).fits x)
    few false x = subst (λ b. (if b then suc v.puts else v.puts) < last_number) (sym x) i.fed.few

    row : ch.after.row ≡ after_says c v.puts s ch.before.row
    row = (ch.change e).row_is

    part_fed : PartFed (puts_after v.puts s.put) ch.before ch.after
    part_fed = record {
      below = ap (λ r. all_below (suc (puts_after v.puts s.put)) r.lookups) row
          ∙ put_below v.puts s.put (with_took c s.took ch.before.row) (i.fed.below e c ch.before ch.was);
      none_lost = ap (λ r. r.stock.losses) row ∙ losses_put v.puts s.put (with_took c s.took ch.before.row)
          ∙ i.fed.none_lost e c ch.before ch.was;
      waits_open = λ m q waits. ap (λ r. is_open_lookup q r.lookups) row
          ∙ by m q (m == n) refl (sym ((ch.change e).waiting_are m) ∙ waits);
    }
      where
        by : (m q : ℕ) (b : Bool) → (m == n) ≡ b
            → (if m == n then waits_told s.answer else question_of m ch.before.waiting) ≡ Some q
            → is_open_lookup q (after_says c v.puts s ch.before.row).lookups ≡ true
        by m q true x is = need_open class (record { epoch = e; class = c; key = key }) t ch.before.row.kept
            (full ch.before.row.stock) v.puts ch.before.row c q (rw x at is)
        by m q false x is = open_still v.puts s.put (with_took c s.took ch.before.row) q
            (i.fed.waits_open e c m q ch.before ch.was (rw x at is))

    own : IsOwn (part_at v.epochs) e c ch.before ch.after
    own q here = by (q == suc v.puts) refl (sym (ap (λ r. is_open_lookup q r.lookups) row) ∙ here)
      where
        by : (b : Bool) → (q == suc v.puts) ≡ b → is_open_lookup q (after_says c v.puts s ch.before.row).lookups ≡ true
            → (is_open_lookup q ch.before.row.lookups ≡ true)
            ⊎ ((f d : ℕ) (p : PartState) → part_at v.epochs f d ≡ Some p → is_open_lookup q p.row.lookups ≡ true
            → (e ≡ f) × (c ≡ d))
        by true x h = inr (λ f d p was there.
            let no = not_open (suc v.puts) p.row.lookups (i.fed.below f d p was) in
            let yes = ap (λ z. is_open_lookup z p.row.lookups) (sym (number_is q (suc v.puts) x)) ∙ there in
            absurd (cc))
        by false x h = inl (was_open v.puts s.put (with_took c s.took ch.before.row) q h x)

pub resolved_engine : (v : EngineView) (t e c n : ℕ) (key : List ℕ) (class : Class) (said : StepEffect)
    (new : EpochsState) (cs : List (ℕ × CheckParts)) (puts : ℕ) → IsEngine v → IsAsking v e n
    → IsChanged e c (IsResolved class c key (record { now = t; check = n; count = v.puts }) said) v.epochs new
    → cs ≡ change_at n (noted said c key) v.checks → rows_of cs ≡ after_step n (says_of said) (rows_of v.checks)
    → puts ≡ (if said.put then suc v.puts else v.puts)
    → IsEngine (record v { checks = cs; puts = puts; epochs = new; latest = t })
resolved_engine v t e c n key class said new cs puts i a ch list rows put =
    let k =
    part_changed e c (IsResolved class c key (record { now = t; check = n; count = v.puts }) said) v.epochs new ch in
    record {
      asked = asked_stepped n (says_of said) (check_in v.conns) (rows_of v.checks) (rows_of cs) v.asks rows i.asked;
      counted = counted_part e c ch.before ch.after v.epochs new (rows_of cs) k
          (counted_stepped n (says_of said) v.epochs.current (epoch_at v.epochs) (rows_of v.checks) (rows_of cs) rows
          i.counted);
      configured = configured_part e c ch.before ch.after v.epochs new (value_at cs) k
          (subst (λ es. AreConfigured (epoch_at v.epochs) (value_at es)) (sym list)
          (configured_changed (epoch_at v.epochs) v.checks n (noted said c key)
          (λ m same j is. record { epoch_is = refl; config_is = refl }) i.configured));
      waiting = subst (λ es. AreWaiting (part_at new) (value_at es)) (sym list)
          (waiting_resolved v t e c n key class said new i a ch);
      fed = fed_resolved v t e c n key class said new puts i ch put;
      keyed = subst (λ es. AreKeyed (part_at new) (value_at es)) (sym list)
          (keyed_resolved v.epochs new v.checks t e c n v.puts key class said a.check i.keyed i.fed.below a.found
          a.epoch_is
          ch);
      setup_is = ap (config_at new) k.current_is ∙ configs_kept e c ch.before ch.after v.epochs new k v.epochs.current
          ∙ i.setup_is;
    }

row_before : (v : EngineView) (e c : ℕ) (new : EpochsState) (ch : IsChanged e c IsAsBefore v.epochs new) → (f d : ℕ)
    → row_at new f d ≡ row_at v.epochs f d
row_before v e c new ch f d = by (e == f && c == d) refl
  where
    both : (a b : Bool) → (a && b) ≡ true → (a ≡ true) × (b ≡ true)
    both true b h = (refl, h)
    both false b h = absurd (cc)

    k : PartChanged e c ch.before ch.after v.epochs new
    k = part_changed e c IsAsBefore v.epochs new ch

    by : (b : Bool) → (e == f && c == d) ≡ b → row_at new f d ≡ row_at v.epochs f d
    by true x =
        let two = both (e == f) (c == d) x in
        let here : row_at new e c ≡ row_at v.epochs e c = ap (option_map (λ p. p.row)) k.here ∙ ap Some ch.change.row_is
        ∙ sym (ap (option_map (λ p. p.row)) ch.was) in
        subst (λ g. row_at new g d ≡ row_at v.epochs g d) (number_is e f two.0)
        (subst (λ j. row_at new e j ≡ row_at v.epochs e j) (number_is c d two.1) here)
    by false x = ap (option_map (λ p. p.row)) (k.other f d x)

-- a step that failed leaves the state
pub same_before : (v : EngineView) (e c : ℕ) (new : EpochsState) → IsChanged e c IsAsBefore v.epochs new
    → IsSame (state_of (record v { epochs = new })) (state_of v)
same_before v e c new ch =
    let k = part_changed e c IsAsBefore v.epochs new ch in
    record {
      clients_are = λ d. refl;
      conns_are = refl;
      from_are = λ a. refl;
      checks_are = refl;
      asks_are = refl;
      puts_are = refl;
      current_is = k.current_is;
      configs_are = λ f. configs_kept e c ch.before ch.after v.epochs new k f;
      rows_are = λ f d. row_before v e c new ch f d;
      procs_are = k.procs_are;
      homes_are = k.homes_are;
      stops_are = k.stops_are;
      latest_is = refl;
      offset_is = refl;
    }

-- and the engine is one still
pub before_engine : (v : EngineView) (e c : ℕ) (new : EpochsState) → IsEngine v → IsChanged e c IsAsBefore v.epochs new
    → IsEngine (record v { epochs = new })
before_engine v e c new i ch =
    let k = part_changed e c IsAsBefore v.epochs new ch in
    let row = ch.change.row_is in
    record {
      asked = i.asked;
      counted = counted_part e c ch.before ch.after v.epochs new (rows_of v.checks) k i.counted;
      configured = configured_part e c ch.before ch.after v.epochs new (value_at v.checks) k i.configured;
      waiting = waiting_part e c ch.before ch.after v.epochs new (value_at v.checks) (value_at v.checks) k i.waiting
          (λ n. ch.change.waiting_are n ∙ i.waiting.waits e c ch.before ch.was n)
          (λ f d n apart there. refl) i.waiting.there;
      fed = fed_changed e c ch.before ch.after v.epochs new v.puts v.puts k i.fed
          (record {
            below = ap (λ r. all_below (suc v.puts) r.lookups) row ∙ i.fed.below e c ch.before ch.was;
            none_lost = ap (λ r. r.stock.losses) row ∙ i.fed.none_lost e c ch.before ch.was;
            waits_open = λ n q waits. ap (λ r. is_open_lookup q r.lookups) row
                ∙ i.fed.waits_open e c n q ch.before ch.was (sym (ch.change.waiting_are n) ∙ waits);
          })
          (λ q here. inl (ap (λ r. is_open_lookup q r.lookups) (sym row) ∙ here)) (λ p h. h) i.fed.few;
      keyed = keyed_before e c ch.before ch.after v.epochs new (value_at v.checks) k (ap (λ r. r.lookups) row) i.keyed;
      setup_is = ap (config_at new) k.current_is ∙ configs_kept e c ch.before ch.after v.epochs new k v.epochs.current
          ∙ i.setup_is;
    }
