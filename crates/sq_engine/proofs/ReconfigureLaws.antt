-- Another configuration: how it is answered, that the engine is one still, and what is left.
use Rattle.std.proofs.Common.{◌≡◌, ◌∙◌, ◌==◌, ◌||◌, ◌<◌, ◌≤◌, ℕ, zero, suc, List, [], ◌∷◌, ◌++◌, Bool, true, false, not, if◌then◌else◌, map, length, nat_lt, nat_le, Option, None, Some, Result, Ok, Err, OnOk, is_some, slice_get, refl, ap, ap₂, sym, subst, arith}
use Rattle.std.proofs.lemmas.Bool.Decides.{nat_tests}
use Rattle.std.proofs.lemmas.Option.{none-some, same_Some}
use Rattle.std.specs.List.{list_any}
use Rattle.std.specs.Option.{option_and_then, option_map, option_map_or}
use Rattle.sq_machine.specs.declared.entries.Event.TheVariants.{Reconfigure}
use Rattle.sq_machine.specs.declared.entries.Told.{Told}
use Rattle.sq_machine.specs.declared.entries.Told.TheVariants as told
use Rattle.sq_machine.specs.declared.refusals.Refusal.{Refusal}
use Rattle.sq_machine.specs.declared.refusals.Refusal.TheVariants as refusal
use Rattle.sq_rules.specs.Classes.{Class}
use Rattle.sq_rules.specs.Configurations.{Configuration}
use Rattle.sq_machine.specs.KeptLists.{CachedReplies}
use Rattle.sq_machine.specs.Limits.{epoch_limit, last_number}
use Rattle.sq_machine.specs.Next.{gives, refuses}
use Rattle.sq_machine.specs.Numbered.{picks}
use Rattle.sq_machine.specs.OpenLookups.{all_below, is_open_lookup, key_of, question_of}
use Rattle.sq_machine.specs.Rising.{Rises}
use Rattle.sq_model.specs.CheckRows.{Held}
use Rattle.sq_model.specs.ClassRows.{ClassRow, new_row}
use Rattle.sq_class.specs.Parts.{PartState}
use Rattle.sq_checks.specs.OpenChecks.{CheckParts, of_epoch, rows_of}
use Rattle.sq_checks.specs.Tables.{value_at}
use Rattle.sq_epochs.proofs.BegunLaws.{begun_epochs, config_begun, epoch_begun, kept_by_rows, left_at, left_epochs, left_row_at, none_past, part_begun, row_begun}
use Rattle.sq_epochs.proofs.LiveLaws.{lives_is}
use Rattle.sq_epochs.proofs.OverLaws.{checks_reconfigured, config_reconfigured, home_reconfigured, part_reconfigured, read_reconfigured, row_reconfigured, stop_reconfigured}
use Rattle.sq_epochs.specs.EpochProcs.{AreHomed}
use Rattle.sq_epochs.specs.EpochStates.{EpochState, EpochsState, class_at, class_of, epoch_at, home_at, part_at, row_at}
use Rattle.sq_epochs.specs.HomeStates.{home_number}
use Rattle.sq_epochs.specs.LiveEpochs.{AreEpochs, busy_count, checks_at, drop_epoch}
use Rattle.sq_epochs.specs.Reconfigured.{after_reconfigured, alike_in, begun_epoch, begun_part, emptied, kept_before, left_epoch, left_parts, with_epoch}
use Rattle.sq_model.specs.Answers.{busy_in, reconfigure_answer}
use Rattle.sq_model.specs.Changes as changes
use Rattle.sq_model.specs.Says.{class_in}
use Rattle.sq_model.specs.States.{IsSame, State, lives_with}
use Rattle.sq_model.proofs.ActPromises.{reconfigure_answered}
use Rattle.sq_model.proofs.PromiseLaws.{answered_same, next_now}
use Rattle.sq_model.proofs.ReconfigureStands.{reconfigure_next}
use Rattle.sq_engine.specs.Engines.{AreCounted, AreOnce, IsEngine, waits_at}
use Rattle.sq_engine.specs.EngineViews.{EngineView, config_at, config_in, state_of, stop_at}
use Rattle.sq_engine.specs.Promised.{IsPromisedNext}
use Rattle.sq_engine.specs.Tellings.{IsTold}
use Rattle.sq_engine.proofs.CountLaws.{any_is, counts_open, if_false, if_true}
use Rattle.sq_engine.proofs.OverLaws.{found_lives, live_gone, live_place, some_then}
use Rattle.sq_engine.proofs.TableLaws.{number_is, number_self, number_sym}

at_most : (a b : ℕ) → a ≤ b → nat_le a b ≡ true
at_most a b h = grind (arith, nat_tests, h)

not_most : (a b : ℕ) → b < a → nat_le a b ≡ false
not_most a b h = grind (arith, nat_tests, h)

pub reconfigure_spent : (s : State) → last_number ≤ suc s.current
    → reconfigure_answer s ≡ refuses (refusal.Spent (suc s.current))
reconfigure_spent s h = let l : nat_le last_number (suc s.current) ≡ true = at_most last_number (suc s.current) h in
    rw l refl

pub reconfigure_busy : (s : State) → suc s.current < last_number → epoch_limit ≤ busy_in s
    → reconfigure_answer s ≡ refuses (refusal.TooManyEpochs epoch_limit)
reconfigure_busy s h b =
    let l : nat_le last_number (suc s.current) ≡ false = not_most last_number (suc s.current) h in
    let k : nat_le epoch_limit (busy_in s) ≡ true = at_most epoch_limit (busy_in s) b in
    rw (l, k) refl

pub reconfigure_fine : (s : State) → suc s.current < last_number → busy_in s < epoch_limit
    → reconfigure_answer s ≡ gives (told.Epoch (suc s.current))
reconfigure_fine s h b =
    let l : nat_le last_number (suc s.current) ≡ false = not_most last_number (suc s.current) h in
    let k : nat_le epoch_limit (busy_in s) ≡ false = not_most epoch_limit (busy_in s) b in
    rw (l, k) refl

positive : (n : ℕ) → nat_lt 0 n ≡ not (n == 0)
positive n = grind (arith, nat_tests)

zero_is : (n : ℕ) → not (n == 0) ≡ false → 0 ≡ n
zero_is n e = grind (arith, e)

neither : (a b : Bool) → (a || b) ≡ false → b ≡ false
neither true b e = absurd (cc)
neither false b e = e

-- each epoch, live or not, counts its open checks
pub checks_are : (v : EpochsState) (e : ℕ) (checks : List Held) → AreCounted v.current (epoch_at v) checks
    → checks_at v e ≡ of_epoch e checks
checks_are v e checks a = by (epoch_at v e) refl
  where
    by : (o : Option EpochState) → epoch_at v e ≡ o → checks_at v e ≡ of_epoch e checks
    by (Some x) is = counts_open v e checks a (ap is_some is)
    by None is =
        let dead : lives_with v.current checks e ≡ false = sym (a.live e) ∙ ap is_some is in
        ap (λ o. option_map_or (λ x. x.checks) o 0) is
        ∙ zero_is (of_epoch e checks)
        (sym (any_is e checks) ∙ neither (e == v.current) (list_any (λ (h : Held). h.asked.epoch == e) checks) dead)

-- an epoch has an open check where it counts one
any_by : (v : EpochsState) (e : ℕ) (checks : List Held) → AreCounted v.current (epoch_at v) checks
    → nat_lt 0 (checks_at v e) ≡ list_any (λ (h : Held). h.asked.epoch == e) checks
any_by v e checks a = ap (nat_lt 0) (checks_are v e checks a) ∙ positive (of_epoch e checks) ∙ sym (any_is e checks)

picks_same : (f g : ℕ → Bool) (n : ℕ) → ((k : ℕ) → f k ≡ g k) → picks f n ≡ picks g n
picks_same f g zero same = refl
picks_same f g (suc n) same =
    ap (λ b. if b then picks f n ++ suc n ∷ [] else picks f n) (same (suc n))
    ∙ ap (λ ns. if g (suc n) then ns ++ suc n ∷ [] else ns) (picks_same f g n same)

-- as many epochs have an open check
pub busy_read : (v : EngineView) → IsEngine v → busy_count v.epochs ≡ busy_in (state_of v)
busy_read v i =
    ap length (picks_same (λ e. nat_lt 0 (checks_at v.epochs e))
    (λ e. list_any (λ (h : Held). h.asked.epoch == e) (rows_of v.checks)) v.epochs.current
    (λ e. any_by v.epochs e (rows_of v.checks) i.counted))

-- the epochs are epochs still
above_zero : (n : ℕ) → (n == 0) ≡ false → 0 < n
above_zero n e = grind (arith, e)

pub new_epochs : (config : Configuration) (v : EpochsState) → AreEpochs v → AreEpochs (after_reconfigured config v)
new_epochs config v is = by (checks_at v v.current == 0) refl
  where
    by : (b : Bool) → (checks_at v v.current == 0) ≡ b
        → AreEpochs (if b then drop_epoch v.current (with_epoch config v) else with_epoch config v)
    by true t = left_epochs config v (drop_epoch v.current (with_epoch config v)) is refl refl
    by false t = begun_epochs config v (with_epoch config v) is (above_zero (checks_at v v.current) t) refl refl

current_by : (b : Bool) (config : Configuration) (v : EpochsState)
    → (if b then drop_epoch v.current (with_epoch config v) else with_epoch config v).current ≡ suc v.current
current_by true config v = refl
current_by false config v = refl

new_current : (config : Configuration) (v : EpochsState) → (after_reconfigured config v).current ≡ suc v.current
new_current config v = current_by (checks_at v v.current == 0) config v

procs_by : (b : Bool) (config : Configuration) (v : EpochsState)
    → (if b then drop_epoch v.current (with_epoch config v) else with_epoch config v).procs ≡ v.procs
procs_by true config v = refl
procs_by false config v = refl

-- none was there with the number of the new epoch
next_none : (v : EpochsState) → AreEpochs v → epoch_at v (suc v.current) ≡ None
next_none v is = none_past (suc v.current) v.epochs is.born

-- each counts as many open checks as before
new_checks : (config : Configuration) (v : EpochsState) (f : ℕ) → AreEpochs v
    → checks_at (after_reconfigured config v) f ≡ checks_at v f
new_checks config v f is = checks_reconfigured config f v is ∙ by (f == suc v.current) refl
  where
    by : (b : Bool) → (f == suc v.current) ≡ b → (if b then 0 else checks_at v f) ≡ checks_at v f
    by true t = sym (ap (λ n. checks_at v n) (number_is f (suc v.current) t)
        ∙ ap (λ o. option_map_or (λ x. x.checks) o 0) (next_none v is))
    by false t = refl

-- which epochs live
pub new_lives : (config : Configuration) (v : EpochsState) (checks : List Held) (f : ℕ) → AreEpochs v
    → AreCounted v.current (epoch_at v) checks
    → is_some (epoch_at (after_reconfigured config v) f) ≡ lives_with (suc v.current) checks f
new_lives config v checks f is a =
    lives_is (after_reconfigured config v) f (new_epochs config v is)
    ∙ ap₂ (λ (n k : ℕ). n == f || nat_lt 0 k) (new_current config v) (new_checks config v f is)
    ∙ ap₂ (λ (x y : Bool). x || y) (number_sym (suc v.current) f) (any_by v f checks a)

map_long : {A B : Type 0} (f : A → B) (xs : List A) → length (map f xs) ≡ length xs
map_long f [] = refl
map_long f (x ∷ xs) = ap suc (map_long f xs)

suc_same : (a b : ℕ) → suc a ≡ suc b → a ≡ b
suc_same a b e = omega (arith, e)

left_long : (begun ks : List Class) (ps : List PartState) → length ps ≡ length ks
    → length (left_parts begun ks ps) ≡ length ks
left_long begun [] ps e = e
left_long begun (k ∷ ks) [] e = e
left_long begun (k ∷ ks) (p ∷ ps) e = ap suc (left_long begun ks ps (suc_same (length ps) (length ks) e))

some_epoch : (b : Bool) (o : Option EpochState) (x : EpochState) → (if b then o else None) ≡ Some x → o ≡ Some x
some_epoch true o x e = e
some_epoch false o x e = absurd (none-some x e)

-- an epoch has a part for each class
new_parts : (config : Configuration) (v : EpochsState) (f : ℕ) (x : EpochState) → AreEpochs v
    → ((y : EpochState) → epoch_at v f ≡ Some y → length y.parts ≡ length y.config.classes)
    → epoch_at (after_reconfigured config v) f ≡ Some x → length x.parts ≡ length x.config.classes
new_parts config v f x is old e =
    by (f == suc v.current) (f == v.current) (epoch_at v f) refl
    (sym (epoch_begun config v f is)
    ∙ some_epoch (is_some (epoch_at (after_reconfigured config v) f)) (epoch_at (with_epoch config v) f) x
    (sym (read_reconfigured (λ o. o) config f v refl) ∙ e))
  where
    begun : EpochState
    begun = begun_epoch (kept_before v.epochs v.current) (suc v.current) config

    by : (b d : Bool) (o : Option EpochState) → epoch_at v f ≡ o
        → (if b then Some begun else (if d then option_map (left_epoch config.classes) o else o)) ≡ Some x
        → length x.parts ≡ length x.config.classes
    by true d o q h =
        let same : begun ≡ x = same_Some _ _ h in
        subst (λ z. length z.parts ≡ length z.config.classes) same
        (map_long (begun_part (kept_before v.epochs v.current)) config.classes)
    by false true None q h = absurd (none-some x h)
    by false true (Some y) q h =
        let same : left_epoch config.classes y ≡ x = same_Some _ _ h in
        subst (λ z. length z.parts ≡ length z.config.classes) same
        (left_long config.classes y.config.classes y.parts (old y q))
    by false false o q h = old x (q ∙ h)

-- a part that was there, but for what it keeps
pub record KeptPart (o : Option PartState) (p : PartState) : Type 0 where
  pub part : PartState
  pub was : o ≡ Some part
  pub waiting_are : p.waiting ≡ part.waiting
  pub lookups_are : p.row.lookups ≡ part.row.lookups
  pub stock_is : p.row.stock ≡ part.row.stock

-- a part in which nothing was asked
pub record FreshPart (p : PartState) : Type 0 where
  pub waiting_are : p.waiting ≡ []
  pub lookups_are : p.row.lookups ≡ []
  pub losses_are : p.row.stock.losses ≡ []

left_kept : (begun : List Class) (k : Option Class) (o : Option PartState) (p : PartState) → left_at begun k o ≡ Some p
    → KeptPart o p
left_kept begun None None p e = absurd (none-some p e)
left_kept begun None (Some r) p e = record {
  part = p;
  was = e;
  waiting_are = refl;
  lookups_are = refl;
  stock_is = refl;
}
left_kept begun (Some k) None p e = absurd (none-some p e)
left_kept begun (Some k) (Some r) p e = by (is_some (alike_in begun k)) e
  where
    by : (b : Bool) → Some (if b then emptied r else r) ≡ Some p → KeptPart (Some r) p
    by true h =
        let same : emptied r ≡ p = same_Some _ _ h in
        record {
          part = r;
          was = refl;
          waiting_are = ap (λ (z : PartState). z.waiting) (sym same);
          lookups_are = ap (λ (z : PartState). z.row.lookups) (sym same);
          stock_is = ap (λ (z : PartState). z.row.stock) (sym same);
        }
    by false h = record { part = p; was = h; waiting_are = refl; lookups_are = refl; stock_is = refl }

fresh_part : (before : Class → CachedReplies) (o : Option Class) (p : PartState)
    → option_map (begun_part before) o ≡ Some p → FreshPart p
fresh_part before None p e = absurd (none-some p e)
fresh_part before (Some k) p e =
    let same : begun_part before k ≡ p = same_Some _ _ e in
    record {
      waiting_are = ap (λ (z : PartState). z.waiting) (sym same);
      lookups_are = ap (λ (z : PartState). z.row.lookups) (sym same);
      losses_are = ap (λ (z : PartState). z.row.stock.losses) (sym same);
    }

-- a part that is found began, or was there
part_was : {A : Type 0} (config : Configuration) (v : EpochsState) (e c : ℕ) (p : PartState) → AreEpochs v
    → part_at (after_reconfigured config v) e c ≡ Some p → (e ≡ suc v.current → FreshPart p → A)
    → (KeptPart (part_at v e c) p → A) → A
part_was {A = A} config v e c p is h fresh was =
    by (e == suc v.current) (e == v.current) refl
    (sym (part_begun config v e c is)
    ∙ (some_then (is_some (epoch_at (after_reconfigured config v) e)) (part_at (with_epoch config v) e c) p
    (sym (part_reconfigured config e c v) ∙ h)).1)
  where
    by : (b d : Bool) → (e == suc v.current) ≡ b
        → (if b then option_map (begun_part (kept_before v.epochs v.current)) (slice_get config.classes c)
        else (if d then left_at config.classes (class_at v e c) (part_at v e c) else part_at v e c)) ≡ Some p → A
    by true d t g = fresh (number_is e (suc v.current) t)
        (fresh_part (kept_before v.epochs v.current) (slice_get config.classes c) p g)
    by false true t g = was (left_kept config.classes (class_at v e c) (part_at v e c) p g)
    by false false t g = was (record { part = p; was = g; waiting_are = refl; lookups_are = refl; stock_is = refl })

none_config : (o : Option EpochState) (c : Configuration) → o ≡ None → config_in o ≡ Some c → ⊥
none_config None c e f = none-some c f
none_config (Some x) c e f = absurd (cc)

-- no open check is of the new epoch
check_old : (v : EngineView) (n : ℕ) (k : CheckParts) → IsEngine v → AreEpochs v.epochs → value_at v.checks n ≡ Some k
    → k.epoch ≡ suc v.epochs.current → ⊥
check_old v n k i is found same = none_config (epoch_at v.epochs k.epoch) k.config
    (ap (epoch_at v.epochs) same ∙ next_none v.epochs is) (i.configured n k found)

is_false : (b : Bool) → (b ≡ true → ⊥) → b ≡ false
is_false true h = absurd (h refl)
is_false false h = refl

not_next : (v : EngineView) (n : ℕ) (k : CheckParts) → IsEngine v → AreEpochs v.epochs → value_at v.checks n ≡ Some k
    → (k.epoch == suc v.epochs.current) ≡ false
not_next v n k i is found = is_false (k.epoch == suc v.epochs.current)
    (λ t. check_old v n k i is found (number_is k.epoch (suc v.epochs.current) t))

-- and none waits in it
none_waits : (v : EngineView) (n e c : ℕ) → IsEngine v → AreEpochs v.epochs → e ≡ suc v.epochs.current
    → waits_at e c (value_at v.checks n) ≡ None
none_waits v n e c i is next = by (value_at v.checks n) refl
  where
    by : (o : Option CheckParts) → value_at v.checks n ≡ o → waits_at e c o ≡ None
    by None q = refl
    by (Some k) q =
        let other : (e == k.epoch) ≡ false =
        is_false (e == k.epoch) (λ t. check_old v n k i is q (sym (number_is e k.epoch t) ∙ next)) in
        rw other refl

left_there : (begun : List Class) (k : Option Class) (o : Option PartState) → is_some (left_at begun k o) ≡ is_some o
left_there begun None None = refl
left_there begun None (Some r) = refl
left_there begun (Some k) None = refl
left_there begun (Some k) (Some r) = refl

or_true : (a b : Bool) → b ≡ true → (a || b) ≡ true
or_true true b e = refl
or_true false b e = e

-- the engine is one still
pub reconfigured_engine : (v : EngineView) (config : Configuration) (ep : EpochsState) (t : ℕ) → IsEngine v
    → AreEpochs v.epochs → ep ≡ after_reconfigured config v.epochs
    → IsEngine (record v { epochs = ep; setup = config; latest = t })
reconfigured_engine v config ep t i is made = subst (λ e. IsEngine
    (record v { epochs = e; setup = config; latest = t })) (sym made) record {
      asked = i.asked;
      counted = record {
        live = λ e. lives e ∙ ap (λ n. lives_with n (rows_of v.checks) e) (sym (new_current config v.epochs));
        counts = λ e x found.
            ap (λ o. option_map_or (λ y. y.checks) o 0) (sym found) ∙ new_checks config v.epochs e is
            ∙ checks_are v.epochs e (rows_of v.checks) i.counted;
        parts = λ e x found. new_parts config v.epochs e x is (i.counted.parts e) found;
      };
      configured = λ n k found. config_read k.epoch (lives_here n k found)
          ∙ if_false (k.epoch == suc v.epochs.current) (Some config) (config_at v.epochs k.epoch)
          (not_next v n k i is found)
          ∙ i.configured n k found;
      waiting = record {
        waits = λ e c p found n. part_was config v.epochs e c p is found
            (λ next f. ap (question_of n) f.waiting_are ∙ sym (none_waits v n e c i is next))
            (λ w. ap (question_of n) w.waiting_are ∙ i.waiting.waits e c w.part w.was n);
        there = λ n k x found needs.
            ap is_some (part_reconfigured config k.epoch x.class v.epochs
            ∙ if_true (is_some (epoch_at new k.epoch)) (part_at (with_epoch config v.epochs) k.epoch x.class) None
            (lives_here n k found)
            ∙ part_begun config v.epochs k.epoch x.class is
            ∙ if_false (k.epoch == suc v.epochs.current) _ _ (not_next v n k i is found))
            ∙ part_stays (k.epoch == v.epochs.current) k.epoch x.class ∙ i.waiting.there n k x found needs;
      };
      fed = record {
        below = λ e c p found. part_was config v.epochs e c p is found
            (λ next f. ap (all_below (suc v.puts)) f.lookups_are)
            (λ w. ap (all_below (suc v.puts)) w.lookups_are ∙ i.fed.below e c w.part w.was);
        apart = λ q e c f d p r found other here there. part_was config v.epochs e c p is found
            (λ next x. absurd (none_open q p.row.lookups x.lookups_are here))
            (λ w. part_was config v.epochs f d r is other
            (λ next x. absurd (none_open q r.row.lookups x.lookups_are there))
            (λ u. i.fed.apart q e c f d w.part u.part w.was u.was (ap (is_open_lookup q) (sym w.lookups_are) ∙ here)
            (ap (is_open_lookup q) (sym u.lookups_are) ∙ there)));
        waits_open = λ e c n q p found waits. part_was config v.epochs e c p is found
            (λ next f. absurd (none-some q (sym (ap (question_of n) f.waiting_are) ∙ waits)))
            (λ w. ap (is_open_lookup q) w.lookups_are
            ∙ i.fed.waits_open e c n q w.part w.was (sym (ap (question_of n) w.waiting_are) ∙ waits));
        none_lost = λ e c p found. part_was config v.epochs e c p is found (λ next f. f.losses_are)
            (λ w. ap (λ s. s.losses) w.stock_is ∙ i.fed.none_lost e c w.part w.was);
        few = i.fed.few;
      };
      keyed = record {
        once = λ e c p found. part_was config v.epochs e c p is found (λ next f. subst AreOnce (sym f.lookups_are) tt)
            (λ w. subst AreOnce (sym w.lookups_are) (i.keyed.once e c w.part w.was));
        keys = λ n k x p found needs at. part_was config v.epochs k.epoch x.class p is at
            (λ next f. absurd (check_old v n k i is found next))
            (λ w. ap (key_of x.question) w.lookups_are ∙ i.keyed.keys n k x w.part found needs w.was);
      };
      setup_is =
          ap (config_at new) (new_current config v.epochs)
          ∙ config_read (suc v.epochs.current)
          (lives (suc v.epochs.current)
          ∙ ap (λ b. b || list_any (λ (h : Held). h.asked.epoch == suc v.epochs.current) (rows_of v.checks))
          (number_self (suc v.epochs.current)))
          ∙ if_true (suc v.epochs.current == suc v.epochs.current) (Some config)
          (config_at v.epochs (suc v.epochs.current))
          (number_self (suc v.epochs.current));
    }
  where
    new : EpochsState
    new = after_reconfigured config v.epochs

    lives : (f : ℕ) → is_some (epoch_at new f) ≡ lives_with (suc v.epochs.current) (rows_of v.checks) f
    lives f = new_lives config v.epochs (rows_of v.checks) f is i.counted

    lives_here : (n : ℕ) (k : CheckParts) → value_at v.checks n ≡ Some k → is_some (epoch_at new k.epoch) ≡ true
    lives_here n k found = lives k.epoch
        ∙ or_true (k.epoch == suc v.epochs.current)
        (list_any (λ (h : Held). h.asked.epoch == k.epoch) (rows_of v.checks)) (found_lives n k v.checks found)

    config_read : (f : ℕ) → is_some (epoch_at new f) ≡ true
        → config_at new f ≡ (if f == suc v.epochs.current then Some config else config_at v.epochs f)
    config_read f there =
        config_reconfigured config f v.epochs
        ∙ if_true (is_some (epoch_at new f)) (option_map (λ x. x.config) (epoch_at (with_epoch config v.epochs) f)) None
        there ∙ config_begun config v.epochs f is

    part_stays : (b : Bool) (e c : ℕ)
        → is_some (if b then left_at config.classes (class_at v.epochs e c) (part_at v.epochs e c)
        else part_at v.epochs e c) ≡ is_some (part_at v.epochs e c)
    part_stays true e c = left_there config.classes (class_at v.epochs e c) (part_at v.epochs e c)
    part_stays false e c = refl

    none_open : (q : ℕ) (ls : List _) → ls ≡ [] → is_open_lookup q ls ≡ true → ⊥
    none_open q ls e h = let n : is_open_lookup q ls ≡ false = ap (is_open_lookup q) e in cc

-- what the rows of the classes of the new epoch and of the one before are
each_same : {A B : Type 0} (f g : A → B) (o : Option A) → ((a : A) → f a ≡ g a) → option_map f o ≡ option_map g o
each_same f g None same = refl
each_same f g (Some a) same = ap (λ z. Some z) (same a)

class_read : (v : EngineView) (e c : ℕ) → class_at v.epochs e c ≡ class_in (state_of v) e c
class_read v e c = by (epoch_at v.epochs e)
  where
    by : (o : Option EpochState) → class_of c o ≡ option_and_then (λ config. slice_get config.classes c) (config_in o)
    by None = refl
    by (Some x) = refl

left_read : (config : Configuration) (k : Option Class) (o : Option ClassRow)
    → left_row_at config.classes k o ≡ changes.left_class config k o
left_read config None None = refl
left_read config None (Some r) = refl
left_read config (Some k) None = refl
left_read config (Some k) (Some r) = refl

-- the rows after the epoch began
begun_read : (v : EngineView) (config : Configuration) (e c : ℕ) → AreEpochs v.epochs
    → row_at (with_epoch config v.epochs) e c ≡ (changes.with_epoch config (state_of v)).row e c
begun_read v config e c is = row_begun config v.epochs e c is ∙ by (e == suc v.epochs.current) (e == v.epochs.current)
  where
    by : (b d : Bool)
        → (if b then option_map (λ class. new_row (kept_before v.epochs.epochs v.epochs.current class) class)
        (slice_get config.classes c)
        else (if d then left_row_at config.classes (class_at v.epochs e c) (row_at v.epochs e c)
        else row_at v.epochs e c))
        ≡ (if b then option_map (changes.begun_row (state_of v)) (slice_get config.classes c)
        else (if d then changes.left_class config (class_in (state_of v) e c) (row_at v.epochs e c)
        else row_at v.epochs e c))
    by true d =
        each_same (λ class. new_row (kept_before v.epochs.epochs v.epochs.current class) class)
        (changes.begun_row (state_of v)) (slice_get config.classes c)
        (λ class. ap (λ k. new_row k class) (kept_by_rows v.epochs v.epochs.current class))
    by false true = left_read config (class_at v.epochs e c) (row_at v.epochs e c)
        ∙ ap (λ k. changes.left_class config k (row_at v.epochs e c)) (class_read v e c)
    by false false = refl

-- what is left
pub reconfigured_same : (v : EngineView) (config : Configuration) (ep : EpochsState) (t : ℕ) → IsEngine v
    → AreEpochs v.epochs → AreHomed v.epochs → Rises (map home_number v.epochs.homes)
    → ep ≡ after_reconfigured config v.epochs
    → IsSame (state_of (record v { epochs = ep; setup = config; latest = t }))
    (changes.after_reconfigured config t (state_of v))
reconfigured_same v config ep t i is homed rise made =
    subst (λ e. IsSame (state_of (record v { epochs = e; setup = config; latest = t }))
    (changes.after_reconfigured config t (state_of v))) (sym made) record {
      clients_are = λ c. refl;
      conns_are = refl;
      from_are = λ a. refl;
      checks_are = refl;
      asks_are = refl;
      puts_are = refl;
      current_is = new_current config v.epochs;
      configs_are = λ f. config_reconfigured config f v.epochs
          ∙ ap₂ (λ (b : Bool) (c : Option Configuration). if b then c else None) (lives f)
          (config_begun config v.epochs f is);
      rows_are = λ f c. row_reconfigured config f c v.epochs
          ∙ ap₂ (λ (b : Bool) (r : Option ClassRow). if b then r else None) (lives f) (begun_read v config f c is);
      procs_are = procs_by (checks_at v.epochs v.epochs.current == 0) config v.epochs;
      homes_are = λ k. home_reconfigured config k v.epochs is homed rise
          ∙ live_place new alive lives (home_at v.epochs k);
      stops_are = λ k. stop_reconfigured config k v.epochs is homed rise
          ∙ ap (λ b. stop_at v.epochs k || b) (live_gone new alive lives (home_at v.epochs k));
      latest_is = refl;
      offset_is = refl;
    }
  where
    new : EpochsState
    new = after_reconfigured config v.epochs

    alive : ℕ → Bool
    alive = lives_with (suc v.epochs.current) (rows_of v.checks)

    lives : (f : ℕ) → is_some (epoch_at new f) ≡ lives_with (suc v.epochs.current) (rows_of v.checks) f
    lives f = new_lives config v.epochs (rows_of v.checks) f is i.counted

-- and what is promised
pub reconfigure_promised : {A : Type 0} (tell : A → Told) (s new : State) (now : ℕ) (config : Configuration)
    (r : Result A Refusal) → IsTold tell (reconfigure_answer s) r
    → OnOk r (IsSame new (changes.after_reconfigured config now s)) → IsPromisedNext tell s now config r new
reconfigure_promised tell s new now config (Ok a) t ok = λ configs h st late at.
    answered_same configs h (changes.after_reconfigured config now s) new now (Reconfigure config.source) (tell a) ok
    (reconfigure_answered configs h s now config.source config (tell a) st late refl at t)
reconfigure_promised tell s new now config (Err refusal.WantOfMemory) t ok = tt
reconfigure_promised tell s new now config (Err r) t ok = λ configs h st late.
    next_now configs h now (Reconfigure config.source) late ∙ reconfigure_next configs _ s now config.source st.stands
    ∙ t
