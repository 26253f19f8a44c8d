-- What is left after a check is over and after another configuration began, by which epochs live then.
use Rattle.std.proofs.Common.{◌≡◌, ℕ, suc, ◌-◌, map, Bool, true, false, not, ◌&&◌, ◌||◌, if◌then◌else◌, ◌==◌, refl, sym, arith, ap, ◌∙◌, Some, None, is_some}
use Rattle.std.specs.declared.option.Option.{Option}
use Rattle.std.specs.Option.{option_map, option_map_or}
use Rattle.sq_rules.specs.Configurations.{Configuration}
use Rattle.sq_machine.specs.DueActs.{ClassId}
use Rattle.sq_machine.specs.Rising.{Rises}
use Rattle.sq_epochs.specs.EpochProcs.{AreHomed}
use Rattle.sq_epochs.specs.EpochStates.{EpochState, EpochsState, change_epoch, class_at, class_of, epoch_at, home_at, part_at, part_of, row_at}
use Rattle.sq_epochs.specs.HomeStates.{home_number, is_among}
use Rattle.sq_epochs.specs.LiveEpochs.{AreEpochs, after_ended, check_less, checks_at, drop_epoch, ends_with_check}
use Rattle.sq_epochs.specs.Reconfigured.{after_reconfigured, with_epoch}
use Rattle.sq_epochs.proofs.BegunLaws.{checks_begun}
use Rattle.sq_epochs.proofs.HomedLaws.{homed_begun}
use Rattle.sq_epochs.proofs.EndLaws.{checks_dropped, epoch_counted, home_left, homes_there, if_there, is_gone, none_gone, read_left, read_there, same_class, same_config, same_of, same_part, same_there, stop_left}

equal : (a b : ℕ) → (a == b) ≡ true → a ≡ b
equal a b e = grind (arith, e)

-- one check fewer is open of an epoch, and no more is changed
abbrev fewer : ℕ → EpochsState → EpochsState
fewer e v = record v { epochs = change_epoch e check_less v.epochs }

there_fewer : (e f : ℕ) (v : EpochsState) → is_some (epoch_at (fewer e v) f) ≡ is_some (epoch_at v f)
there_fewer e f v = same_of is_some e f check_less v (λ x. refl) (same_there check_less)

checks_fewer : (e f : ℕ) (v : EpochsState)
    → checks_at (fewer e v) f ≡ (if f == e then checks_at v f - 1 else checks_at v f)
checks_fewer e f v = ap (λ o. option_map_or (λ x. x.checks) o 0) (epoch_counted e f check_less v (λ x. refl))
    ∙ by_test (f == e)
  where
    one_less : (o : Option EpochState)
        → option_map_or (λ x. x.checks) (option_map check_less o) 0 ≡ option_map_or (λ x. x.checks) o 0 - 1
    one_less None = refl
    one_less (Some x) = refl

    by_test : (b : Bool) → option_map_or (λ x. x.checks)
        (if b then option_map check_less (epoch_at v f) else epoch_at v f) 0
        ≡ (if b then option_map_or (λ x. x.checks) (epoch_at v f) 0 - 1
        else option_map_or (λ x. x.checks) (epoch_at v f) 0)
    by_test true = one_less (epoch_at v f)
    by_test false = refl

if_there_same : (v w : EpochsState) (o : Option ClassId) → ((f : ℕ) → is_some (epoch_at v f) ≡ is_some (epoch_at w f))
    → if_there v o ≡ if_there w o
if_there_same v w None same = refl
if_there_same v w (Some p) same = ap (λ b. if b then Some p else None) (same p.epoch)

gone_same : (v w : EpochsState) (o : Option ClassId) → ((f : ℕ) → is_some (epoch_at v f) ≡ is_some (epoch_at w f))
    → is_gone v o ≡ is_gone w o
gone_same v w None same = refl
gone_same v w (Some p) same = ap not (same p.epoch)

-- what is read of an epoch, but how many checks are open,
-- is after a check is over as before where the epoch still lives
pub read_ended : {A : Type 0} (read : Option EpochState → Option A) (e f : ℕ) (v : EpochsState) → read None ≡ None
    → ((o : Option EpochState) → read (option_map check_less o) ≡ read o)
    → read (epoch_at (after_ended e v) f)
    ≡ (if is_some (epoch_at (after_ended e v) f) then read (epoch_at v f) else None)
read_ended {A = A} read e f v none kept = by_test (ends_with_check e v)
  where
    by_test : (b : Bool) → read (epoch_at (if b then drop_epoch e v else fewer e v) f)
        ≡ (if is_some (epoch_at (if b then drop_epoch e v else fewer e v) f) then read (epoch_at v f) else None)
    by_test true = read_left read e f v none
    by_test false = same_of read e f check_less v (λ x. refl) kept ∙ read_there read v f none
        ∙ ap (λ b. if b then read (epoch_at v f) else None) (sym (there_fewer e f v))

-- so each part, row, class and configuration
pub part_ended : (e f c : ℕ) (v : EpochsState)
    → part_at (after_ended e v) f c ≡ (if is_some (epoch_at (after_ended e v) f) then part_at v f c else None)
part_ended e f c v = read_ended (part_of c) e f v refl (same_part check_less (λ x. refl) c)

pub row_ended : (e f c : ℕ) (v : EpochsState)
    → row_at (after_ended e v) f c ≡ (if is_some (epoch_at (after_ended e v) f) then row_at v f c else None)
row_ended e f c v = read_ended (λ o. option_map (λ p. p.row) (part_of c o)) e f v refl
    (λ o. ap (option_map (λ p. p.row)) (same_part check_less (λ x. refl) c o))

pub class_ended : (e f c : ℕ) (v : EpochsState)
    → class_at (after_ended e v) f c ≡ (if is_some (epoch_at (after_ended e v) f) then class_at v f c else None)
class_ended e f c v = read_ended (class_of c) e f v refl (same_class check_less (λ x. refl) c)

pub config_ended : (e f : ℕ) (v : EpochsState)
    → option_map (λ x. x.config) (epoch_at (after_ended e v) f)
    ≡ (if is_some (epoch_at (after_ended e v) f) then option_map (λ x. x.config) (epoch_at v f) else None)
config_ended e f v = read_ended (option_map (λ x. x.config)) e f v refl (same_config check_less (λ x. refl))

-- and homes and due stops
pub home_ended : (e k : ℕ) (v : EpochsState) → AreHomed v → Rises (map home_number v.homes)
    → home_at (after_ended e v) k ≡ if_there (after_ended e v) (home_at v k)
home_ended e k v homed r = by_test (ends_with_check e v)
  where
    by_test : (b : Bool) → home_at (if b then drop_epoch e v else fewer e v) k
        ≡ if_there (if b then drop_epoch e v else fewer e v) (home_at v k)
    by_test true = home_left e k v homed r
    by_test false = homes_there v k homed ∙ sym (if_there_same (fewer e v) v (home_at v k) (λ f. there_fewer e f v))

pub stop_ended : (e k : ℕ) (v : EpochsState) → AreHomed v → Rises (map home_number v.homes)
    → is_among k (after_ended e v).stops ≡ (is_among k v.stops || is_gone (after_ended e v) (home_at v k))
stop_ended e k v homed r = by_test (ends_with_check e v)
  where
    or_none : (a : Bool) → a ≡ (a || false)
    or_none true = refl
    or_none false = refl

    by_test : (b : Bool) → is_among k (if b then drop_epoch e v else fewer e v).stops
        ≡ (is_among k v.stops || is_gone (if b then drop_epoch e v else fewer e v) (home_at v k))
    by_test true = stop_left e k v homed r
    by_test false = or_none (is_among k v.stops)
        ∙ ap (λ b. is_among k v.stops || b)
        (sym (gone_same (fewer e v) v (home_at v k) (λ f. there_fewer e f v) ∙ none_gone v k homed))

-- and one check fewer is open of its epoch
pub checks_ended : (e f : ℕ) (v : EpochsState)
    → checks_at (after_ended e v) f ≡ (if f == e then checks_at v f - 1 else checks_at v f)
checks_ended e f v = by_test (ends_with_check e v) refl
  where
    turned : (a b : ℕ) → (a == b) ≡ (b == a)
    turned a b = grind arith

    first_of : (a b : Bool) → (a && b) ≡ true → a ≡ true
    first_of true b p = refl
    first_of false b p = p

    last_one : (n : ℕ) → (n == 1) ≡ true → 0 ≡ n - 1
    last_one n t = grind (arith, t)

    by_number : (b : Bool) → (f == e) ≡ b → (checks_at v e == 1) ≡ true
        → (if b then 0 else checks_at v f) ≡ (if b then checks_at v f - 1 else checks_at v f)
    by_number true t one = last_one (checks_at v f) (ap (λ n. checks_at v n == 1) (equal f e t) ∙ one)
    by_number false t one = refl

    by_test : (b : Bool) → ends_with_check e v ≡ b
        → checks_at (if b then drop_epoch e v else fewer e v) f ≡ (if f == e then checks_at v f - 1 else checks_at v f)
    by_test true t = checks_dropped e f v ∙ ap (λ b. if b then 0 else checks_at v f) (turned e f)
        ∙ by_number (f == e) refl (first_of (checks_at v e == 1) (not (e == v.current)) t)
    by_test false t = checks_fewer e f v

-- what is read of an epoch is after another configuration that of `with_epoch` where the epoch still lives
pub read_reconfigured : {A : Type 0} (read : Option EpochState → Option A) (config : Configuration) (f : ℕ)
    (v : EpochsState) → read None ≡ None
    → read (epoch_at (after_reconfigured config v) f)
    ≡ (if is_some (epoch_at (after_reconfigured config v) f) then read (epoch_at (with_epoch config v) f) else None)
read_reconfigured {A = A} read config f v none = by_test (checks_at v v.current == 0)
  where
    by_test : (b : Bool) → read
        (epoch_at (if b then drop_epoch v.current (with_epoch config v) else with_epoch config v) f)
        ≡ (if is_some (epoch_at (if b then drop_epoch v.current (with_epoch config v) else with_epoch config v) f)
        then read (epoch_at (with_epoch config v) f) else None)
    by_test true = read_left read v.current f (with_epoch config v) none
    by_test false = read_there read (with_epoch config v) f none

-- so each part, row, class and configuration
pub part_reconfigured : (config : Configuration) (f c : ℕ) (v : EpochsState)
    → part_at (after_reconfigured config v) f c
    ≡ (if is_some (epoch_at (after_reconfigured config v) f) then part_at (with_epoch config v) f c else None)
part_reconfigured config f c v = read_reconfigured (part_of c) config f v refl

pub row_reconfigured : (config : Configuration) (f c : ℕ) (v : EpochsState)
    → row_at (after_reconfigured config v) f c
    ≡ (if is_some (epoch_at (after_reconfigured config v) f) then row_at (with_epoch config v) f c else None)
row_reconfigured config f c v = read_reconfigured (λ o. option_map (λ p. p.row) (part_of c o)) config f v refl

pub class_reconfigured : (config : Configuration) (f c : ℕ) (v : EpochsState)
    → class_at (after_reconfigured config v) f c
    ≡ (if is_some (epoch_at (after_reconfigured config v) f) then class_at (with_epoch config v) f c else None)
class_reconfigured config f c v = read_reconfigured (class_of c) config f v refl

pub config_reconfigured : (config : Configuration) (f : ℕ) (v : EpochsState)
    → option_map (λ x. x.config) (epoch_at (after_reconfigured config v) f)
    ≡ (if is_some (epoch_at (after_reconfigured config v) f) then option_map (λ x. x.config)
    (epoch_at (with_epoch config v) f) else None)
config_reconfigured config f v = read_reconfigured (option_map (λ x. x.config)) config f v refl

-- and homes and due stops
pub home_reconfigured : (config : Configuration) (k : ℕ) (v : EpochsState) → AreEpochs v → AreHomed v
    → Rises (map home_number v.homes)
    → home_at (after_reconfigured config v) k ≡ if_there (after_reconfigured config v) (home_at v k)
home_reconfigured config k v is homed r = by_test (checks_at v v.current == 0)
  where
    homed_there : AreHomed (with_epoch config v)
    homed_there = homed_begun config v is homed

    by_test : (b : Bool) → home_at (if b then drop_epoch v.current (with_epoch config v) else with_epoch config v) k
        ≡ if_there (if b then drop_epoch v.current (with_epoch config v) else with_epoch config v) (home_at v k)
    by_test true = home_left v.current k (with_epoch config v) homed_there r
    by_test false = homes_there (with_epoch config v) k homed_there

pub stop_reconfigured : (config : Configuration) (k : ℕ) (v : EpochsState) → AreEpochs v → AreHomed v
    → Rises (map home_number v.homes)
    → is_among k (after_reconfigured config v).stops
    ≡ (is_among k v.stops || is_gone (after_reconfigured config v) (home_at v k))
stop_reconfigured config k v is homed r = by_test (checks_at v v.current == 0)
  where
    homed_there : AreHomed (with_epoch config v)
    homed_there = homed_begun config v is homed

    or_none : (a : Bool) → a ≡ (a || false)
    or_none true = refl
    or_none false = refl

    by_test : (b : Bool) → is_among k
        (if b then drop_epoch v.current (with_epoch config v) else with_epoch config v).stops
        ≡ (is_among k v.stops || is_gone (if b then drop_epoch v.current (with_epoch config v) else with_epoch config v)
        (home_at v k))
    by_test true = stop_left v.current k (with_epoch config v) homed_there r
    by_test false = or_none (is_among k v.stops)
        ∙ ap (λ b. is_among k v.stops || b) (sym (none_gone (with_epoch config v) k homed_there))

-- no check of the new epoch is open, and of each other as many as before
pub checks_reconfigured : (config : Configuration) (f : ℕ) (v : EpochsState) → AreEpochs v
    → checks_at (after_reconfigured config v) f ≡ (if f == suc v.current then 0 else checks_at v f)
checks_reconfigured config f v is = by_test (checks_at v v.current == 0) refl
  where
    zero_is : (n : ℕ) → (n == 0) ≡ true → 0 ≡ n
    zero_is n t = grind (arith, t)

    both_zero : (b : Bool) (n : ℕ) → 0 ≡ n → 0 ≡ (if b then 0 else n)
    both_zero true n q = refl
    both_zero false n q = q

    by_number : (b : Bool) → (v.current == f) ≡ b → (checks_at v v.current == 0) ≡ true
        → (if b then 0 else (if f == suc v.current then 0 else checks_at v f))
        ≡ (if f == suc v.current then 0 else checks_at v f)
    by_number true t none = both_zero (f == suc v.current) (checks_at v f)
        (zero_is (checks_at v f) (ap (λ n. checks_at v n == 0) (sym (equal v.current f t)) ∙ none))
    by_number false t none = refl

    by_test : (b : Bool) → (checks_at v v.current == 0) ≡ b
        → checks_at (if b then drop_epoch v.current (with_epoch config v) else with_epoch config v) f
        ≡ (if f == suc v.current then 0 else checks_at v f)
    by_test true t = checks_dropped v.current f (with_epoch config v)
        ∙ ap (λ n. if v.current == f then 0 else n) (checks_begun config v f is) ∙ by_number (v.current == f) refl t
    by_test false t = checks_begun config v f is
