-- What is read of each number and place after a start, an end and an act.
use Rattle.std.proofs.Common.{◌≡◌, ℕ, zero, suc, List, [], ◌∷◌, Bool, true, false, not, cond, ◌&&◌, ◌||◌, if◌then◌else◌, ◌==◌, filter, arith, refl, sym, ap, ◌∙◌, Some, None, is_some}
use Rattle.std.specs.List.{slice_get}
use Rattle.std.specs.Option.{option_map, option_or}
use Rattle.std.specs.declared.option.Option.{Option}
use Rattle.sq_channel.proofs.RisingLaws.{if_false}
use Rattle.sq_machine.specs.DueActs.{ClassId}
use Rattle.sq_model.specs.ClassRows.{ClassRow}
use Rattle.sq_class.specs.Parts.{PartState}
use Rattle.sq_epochs.specs.DueStates.{change_at, change_class, change_part}
use Rattle.sq_epochs.specs.EpochProcs.{IsStarted}
use Rattle.sq_epochs.specs.EpochStates.{EpochState, EpochsState, IsChanged, epoch_at, epoch_in, home_at, part_at, part_of, row_at}
use Rattle.sq_epochs.specs.HomeStates.{AreHomes, home_in, is_among, with_number, without_home}
use Rattle.sq_epochs.proofs.HomeLaws.{among_with, home_push, home_without}
use Rattle.sq_epochs.proofs.HomedLaws.{next_homeless}
use Rattle.sq_epochs.proofs.ProcLaws.{in_changed, part_changed}

equal : (a b : ℕ) → (a == b) ≡ true → a ≡ b
equal a b e = grind (arith, e)

turned : (a b : ℕ) → (a == b) ≡ (b == a)
turned a b = grind arith

-- the row of each class, where the part of one was changed so
pub row_changed : (e c : ℕ) (Change : PartState → PartState → Type 0) (v w : EpochsState)
    (is : IsChanged e c Change v w) (d b : ℕ)
    → row_at w d b ≡ (if e == d && c == b then Some is.after.row else row_at v d b)
row_changed e c Change v w is d b =
    ap (λ z. option_map (λ x. x.row) (part_of b (epoch_in d z.epochs))) is.new_is
    ∙ ap (option_map (λ x. x.row)) (part_changed e c v is.before is.after is.was d b) ∙ by_test (e == d && c == b)
  where
    by_test : (t : Bool) → option_map (λ x. x.row) (if t then Some is.after else part_at v d b)
        ≡ (if t then Some is.after.row else row_at v d b)
    by_test true = refl
    by_test false = refl

-- of which class each process is, where one was started
pub home_started : (e c : ℕ) (v w : EpochsState) → AreHomes v.procs v.homes v.stops → IsStarted e c v w → (k : ℕ)
    → home_at w k ≡ (if k == suc v.procs then Some (record { epoch = e; class = c }) else home_at v k)
home_started e c v w are is k =
    ap (home_in k) is.homes_are
    ∙ home_push k (record { proc = suc v.procs; place = record { epoch = e; class = c } }) v.homes
    ∙ by_test (k == suc v.procs) refl
  where
    none : (o : Option ClassId) → is_some o ≡ false
        → option_or o (Some (record { epoch = e; class = c })) ≡ Some (record { epoch = e; class = c })
    none None is = refl
    none (Some p) is = absurd cc

    same : (o : Option ClassId) → option_or o None ≡ o
    same None = refl
    same (Some p) = refl

    by_test : (t : Bool) → (k == suc v.procs) ≡ t
        → option_or (home_at v k) (if t then Some (record { epoch = e; class = c }) else None)
        ≡ (if t then Some (record { epoch = e; class = c }) else home_at v k)
    by_test true t = none (home_at v k)
        (ap (λ j. is_some (home_at v j)) (equal k (suc v.procs) t) ∙ next_homeless v are)
    by_test false t = same (home_at v k)

-- stops stay
pub stops_started : (e c : ℕ) (v w : EpochsState) → IsStarted e c v w → w.stops ≡ v.stops
stops_started e c v w is = ap (λ z. z.stops) is.changed.new_is

-- of which class each process is, and whether its stop is due, where one ended
pub home_gone : (k : ℕ) (v w : EpochsState) → w.homes ≡ without_home k v.homes → (j : ℕ)
    → home_at w j ≡ (if k == j then None else home_at v j)
home_gone k v w homes j = ap (home_in j) homes ∙ home_without j k v.homes

pub stop_due_then : (k : ℕ) (due : Bool) (ss : List ℕ) (j : ℕ)
    → is_among j (if due then with_number k ss else ss) ≡ (is_among j ss || (due && k == j))
stop_due_then k true ss j = among_with j k ss ∙ ap (λ z. z || is_among j ss) (turned j k)
    ∙ swapped (k == j) (is_among j ss)
  where
    swapped : (a b : Bool) → (a || b) ≡ (b || a)
    swapped true true = refl
    swapped true false = refl
    swapped false true = refl
    swapped false false = refl
stop_due_then k false ss j = alone (is_among j ss)
  where
    alone : (a : Bool) → a ≡ (a || false)
    alone true = refl
    alone false = refl

-- whether a stop is due, where one was told
pub stop_told : (k : ℕ) (ss : List ℕ) (j : ℕ)
    → is_among j (filter (λ i. not (k == i)) ss) ≡ (is_among j ss && not (k == j))
stop_told k [] j = refl
stop_told k (n ∷ ss) j = by_test (k == n) refl (j == n) refl (stop_told k ss j)
  where
    by_test : (b : Bool) → (k == n) ≡ b → (d : Bool) → (j == n) ≡ d
        → is_among j (filter (λ i. not (k == i)) ss) ≡ (is_among j ss && not (k == j))
        → is_among j (cond (not b) (n ∷ filter (λ i. not (k == i)) ss) (filter (λ i. not (k == i)) ss))
        ≡ ((d || is_among j ss) && not (k == j))
    by_test true t true s more = more ∙ gone (is_among j ss) (k == j) (ap (λ z. k == z) (equal j n s) ∙ t)
      where
        gone : (a c : Bool) → c ≡ true → (a && not c) ≡ not c
        gone true true e = refl
        gone false true e = refl
        gone a false e = absurd cc
    by_test true t false s more = more
    by_test false t true s more = ap (λ z. z || is_among j (filter (λ i. not (k == i)) ss)) s
        ∙ sym (ap not (ap (λ z. k == z) (equal j n s) ∙ t))
    by_test false t false s more = ap (λ z. z || is_among j (filter (λ i. not (k == i)) ss)) s ∙ more

-- the row of each class, where an act of one was made
pub row_acted : (p : ClassId) (f : PartState → PartState) (g : ClassRow → ClassRow)
    → ((x : PartState) → (f x).row ≡ g x.row) → (v : EpochsState) (d b : ℕ)
    → row_at (change_part p f v) d b
    ≡ (if p.epoch == d && p.class == b then option_map g (row_at v d b) else row_at v d b)
row_acted p f g same v d b = ap (λ o. option_map (λ x. x.row) (part_of b o))
    (in_changed p.epoch (change_class p.class f) (λ x. refl) v.epochs d) ∙ by_epoch (p.epoch == d) (epoch_at v d)
  where
    eq_suc : (a c : ℕ) → (suc a == suc c) ≡ (a == c)
    eq_suc a c = grind arith

    zero_suc : (a : ℕ) → (0 == suc a) ≡ false
    zero_suc a = grind arith

    suc_zero : (a : ℕ) → (suc a == 0) ≡ false
    suc_zero a = grind arith

    inside : (ps : List PartState) (c m : ℕ)
        → option_map (λ x. x.row) (slice_get (change_at c f ps) m)
        ≡ (if c == m then option_map g (option_map (λ x. x.row) (slice_get ps m))
        else option_map (λ x. x.row) (slice_get ps m))
    inside [] c m = none (c == m)
      where
        none : (t : Bool) → ◌≡◌ {A = Option ClassRow} None (if t then None else None)
        none true = refl
        none false = refl
    inside (q ∷ ps) zero zero = ap Some (same q)
    inside (q ∷ ps) zero (suc m) = sym
        (if_false (0 == suc m) (option_map g (option_map (λ x. x.row) (slice_get ps m)))
        (option_map (λ x. x.row) (slice_get ps m)) (zero_suc m))
    inside (q ∷ ps) (suc c) zero = sym (if_false (suc c == 0) (Some (g q.row)) (Some q.row) (suc_zero c))
    inside (q ∷ ps) (suc c) (suc m) = inside ps c m
        ∙ ap (λ t. if t then option_map g (option_map (λ x. x.row) (slice_get ps m))
        else option_map (λ x. x.row) (slice_get ps m)) (sym (eq_suc c m))

    there : (o : Option EpochState)
        → option_map (λ x. x.row) (part_of b (option_map (change_class p.class f) o))
        ≡ (if p.class == b then option_map g (option_map (λ x. x.row) (part_of b o))
        else option_map (λ x. x.row) (part_of b o))
    there None = none (p.class == b)
      where
        none : (t : Bool) → ◌≡◌ {A = Option ClassRow} None (if t then None else None)
        none true = refl
        none false = refl
    there (Some x) = inside x.parts p.class b

    by_epoch : (t : Bool) (o : Option EpochState)
        → option_map (λ x. x.row) (part_of b (if t then option_map (change_class p.class f) o else o))
        ≡ (if t && p.class == b then option_map g (option_map (λ x. x.row) (part_of b o))
        else option_map (λ x. x.row) (part_of b o))
    by_epoch true o = there o
    by_epoch false o = refl

-- the configuration of each epoch then
pub config_acted : (p : ClassId) (f : PartState → PartState) (v : EpochsState) (d : ℕ)
    → option_map (λ x. x.config) (epoch_at (change_part p f v) d) ≡ option_map (λ x. x.config) (epoch_at v d)
config_acted p f v d = ap (option_map (λ x. x.config))
    (in_changed p.epoch (change_class p.class f) (λ x. refl) v.epochs d) ∙ by_epoch (p.epoch == d) (epoch_at v d)
  where
    by_epoch : (t : Bool) (o : Option EpochState)
        → option_map (λ x. x.config) (if t then option_map (change_class p.class f) o else o)
        ≡ option_map (λ x. x.config) o
    by_epoch true None = refl
    by_epoch true (Some x) = refl
    by_epoch false o = refl
