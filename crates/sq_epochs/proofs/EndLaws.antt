-- What stands at each number and place after an epoch ended, and who lives where then.
use Rattle.std.proofs.Common.{◌≡◌, ℕ, suc, ◌<◌, ◌≤◌, List, [], ◌∷◌, map, Bool, true, false, not, ◌&&◌, ◌||◌, if◌then◌else◌, ◌==◌, refl, sym, arith, ap, ◌∙◌, Some, None, is_some, slice_get}
use Rattle.std.specs.declared.option.Option.{Option}
use Rattle.std.specs.Option.{option_map, option_map_or}
use Rattle.sq_channel.proofs.RisingLaws.{if_false, if_true}
use Rattle.sq_machine.specs.DueActs.{ClassId}
use Rattle.sq_machine.specs.Rising.{AreAbove, Rises}
use Rattle.sq_epochs.specs.EpochProcs.{AreHomed, is_place, lives_in}
use Rattle.sq_epochs.specs.EpochStates.{EpochState, EpochsState, change_epoch, class_at, class_of, epoch_at, home_at, part_at, part_of, row_at}
use Rattle.sq_epochs.specs.HomeStates.{Home, home_in, home_number, is_among, is_of_epoch, procs_of}
use Rattle.sq_epochs.specs.LiveEpochs.{after_began, check_more, checks_at, drop_epoch}
use Rattle.sq_epochs.proofs.BegunLaws.{changed_at}
use Rattle.sq_epochs.proofs.DropLaws.{in_without}
use Rattle.sq_epochs.proofs.HomeLaws.{among_all}
use Rattle.sq_epochs.proofs.HomedLaws.{home_other, place_without}

equal : (a b : ℕ) → (a == b) ≡ true → a ≡ b
equal a b e = grind (arith, e)

apart : (a b : ℕ) → a < b → (a == b) ≡ false
apart a b l = grind (arith, l)

-- the epoch with a number after one ended
pub epoch_dropped : (e f : ℕ) (v : EpochsState) → epoch_at (drop_epoch e v) f ≡ (if e == f then None else epoch_at v f)
epoch_dropped e f v = in_without e f v.epochs

-- what is read of the epoch with a number then
pub read_dropped : {A : Type 0} (read : Option EpochState → Option A) (e f : ℕ) (v : EpochsState) → read None ≡ None
    → read (epoch_at (drop_epoch e v) f) ≡ (if e == f then None else read (epoch_at v f))
read_dropped {A = A} read e f v none = ap read (epoch_dropped e f v) ∙ by_test (e == f)
  where
    by_test : (b : Bool) → read (if b then None else epoch_at v f) ≡ (if b then None else read (epoch_at v f))
    by_test true = none
    by_test false = refl

-- so its part and its class at a place, and the row
pub part_dropped : (e f c : ℕ) (v : EpochsState)
    → part_at (drop_epoch e v) f c ≡ (if e == f then None else part_at v f c)
part_dropped e f c v = read_dropped (part_of c) e f v refl

pub class_dropped : (e f c : ℕ) (v : EpochsState)
    → class_at (drop_epoch e v) f c ≡ (if e == f then None else class_at v f c)
class_dropped e f c v = read_dropped (class_of c) e f v refl

pub row_dropped : (e f c : ℕ) (v : EpochsState) → row_at (drop_epoch e v) f c ≡ (if e == f then None else row_at v f c)
row_dropped e f c v = read_dropped (λ o. option_map (λ p. p.row) (part_of c o)) e f v refl

-- and what is read of live epochs, by which live then
pub read_there : {A : Type 0} (read : Option EpochState → Option A) (v : EpochsState) (f : ℕ) → read None ≡ None
    → read (epoch_at v f) ≡ (if is_some (epoch_at v f) then read (epoch_at v f) else None)
read_there {A = A} read v f none = by_case (epoch_at v f)
  where
    by_case : (o : Option EpochState) → read o ≡ (if is_some o then read o else None)
    by_case None = none
    by_case (Some x) = refl

pub read_left : {A : Type 0} (read : Option EpochState → Option A) (e f : ℕ) (v : EpochsState) → read None ≡ None
    → read (epoch_at (drop_epoch e v) f) ≡ (if is_some (epoch_at (drop_epoch e v) f) then read (epoch_at v f) else None)
read_left {A = A} read e f v none = read_dropped read e f v none ∙ by_test (e == f)
    ∙ ap (λ o. if is_some o then read (epoch_at v f) else None) (sym (epoch_dropped e f v))
  where
    by_test : (b : Bool) → (if b then None else read (epoch_at v f))
        ≡ (if is_some (if b then None else epoch_at v f) then read (epoch_at v f) else None)
    by_test true = refl
    by_test false = read_there read v f none

-- the place is of this epoch
abbrev pub is_in_epoch : ℕ → Option ClassId → Bool
is_in_epoch e p = option_map_or (λ x. e == x.epoch) p false

no_home : (j k : ℕ) (hs : List Home) → k ≤ j → AreAbove j (map home_number hs) → home_in k hs ≡ None
no_home j k [] l a = refl
no_home j k (h ∷ hs) l a = let low = a.0 in
    if_false (k == h.proc) (Some h.place) (home_in k hs) (apart k h.proc (omega arith)) ∙ no_home j k hs l a.1

-- of which epoch and class a process is after an epoch ended
pub home_dropped : (e k : ℕ) (v : EpochsState) → Rises (map home_number v.homes)
    → home_at (drop_epoch e v) k ≡ place_without e (home_at v k)
home_dropped e k v r = home_other k e v.homes r

among_procs : (e k : ℕ) (hs : List Home) → Rises (map home_number hs)
    → is_among k (procs_of e hs) ≡ is_in_epoch e (home_in k hs)
among_procs e k [] r = refl
among_procs e k (h ∷ hs) r = by_test (is_of_epoch e h) refl (k == h.proc) refl (among_procs e k hs r.1)
  where
    none_later : k ≡ h.proc → is_in_epoch e (home_in k hs) ≡ false
    none_later n = ap (is_in_epoch e) (no_home h.proc k hs (omega arith) r.0)

    by_test : (b : Bool) → is_of_epoch e h ≡ b → (d : Bool) → (k == h.proc) ≡ d
        → is_among k (procs_of e hs) ≡ is_in_epoch e (home_in k hs)
        → is_among k (if b then h.proc ∷ procs_of e hs else procs_of e hs)
        ≡ is_in_epoch e (if d then Some h.place else home_in k hs)
    by_test true t true s more = ap (λ z. z || is_among k (procs_of e hs)) s ∙ sym t
    by_test true t false s more = ap (λ z. z || is_among k (procs_of e hs)) s ∙ more
    by_test false t true s more = more ∙ none_later (equal k h.proc s) ∙ sym t
    by_test false t false s more = more

-- a stop is due after an epoch ended: of its processes, and where it was due
pub stop_dropped : (e k : ℕ) (v : EpochsState) → Rises (map home_number v.homes)
    → is_among k (drop_epoch e v).stops ≡ (is_in_epoch e (home_at v k) || is_among k v.stops)
stop_dropped e k v r = among_all k (procs_of e v.homes) v.stops
    ∙ ap (λ z. z || is_among k v.stops) (among_procs e k v.homes r)

-- how many checks of each epoch are open then
pub checks_dropped : (e f : ℕ) (v : EpochsState) → checks_at (drop_epoch e v) f ≡ (if e == f then 0 else checks_at v f)
checks_dropped e f v = ap (λ o. option_map_or (λ x. x.checks) o 0) (epoch_dropped e f v) ∙ by_test (e == f)
  where
    by_test : (b : Bool) → option_map_or (λ x. x.checks) (if b then None else epoch_at v f) 0
        ≡ (if b then 0 else option_map_or (λ x. x.checks) (epoch_at v f) 0)
    by_test true = refl
    by_test false = refl

-- a check that began or is over changes of each epoch only how many are open
pub epoch_counted : (e f : ℕ) (g : EpochState → EpochState) (v : EpochsState)
    → ((x : EpochState) → (g x).epoch ≡ x.epoch)
    → epoch_at (record v { epochs = change_epoch e g v.epochs }) f
    ≡ (if f == e then option_map g (epoch_at v f) else epoch_at v f)
epoch_counted e f g v same = changed_at e f g v.epochs same

-- what is the same of an epoch before and after is the same of all
pub same_of : {A : Type 0} (read : Option EpochState → A) (e f : ℕ) (g : EpochState → EpochState) (v : EpochsState)
    → ((x : EpochState) → (g x).epoch ≡ x.epoch) → ((o : Option EpochState) → read (option_map g o) ≡ read o)
    → read (epoch_at (record v { epochs = change_epoch e g v.epochs }) f) ≡ read (epoch_at v f)
same_of read e f g v same kept = ap read (epoch_counted e f g v same) ∙ by_test (f == e)
  where
    by_test : (b : Bool) → read (if b then option_map g (epoch_at v f) else epoch_at v f) ≡ read (epoch_at v f)
    by_test true = kept (epoch_at v f)
    by_test false = refl

-- which epochs live, their parts, classes and configurations, where the counts of checks alone are changed
pub same_there : (g : EpochState → EpochState) (o : Option EpochState) → is_some (option_map g o) ≡ is_some o
same_there g None = refl
same_there g (Some x) = refl

pub same_part : (g : EpochState → EpochState) → ((x : EpochState) → (g x).parts ≡ x.parts)
    → (c : ℕ) (o : Option EpochState) → part_of c (option_map g o) ≡ part_of c o
same_part g same c None = refl
same_part g same c (Some x) = ap (λ ps. slice_get ps c) (same x)

pub same_config : (g : EpochState → EpochState) → ((x : EpochState) → (g x).config ≡ x.config) → (o : Option EpochState)
    → option_map (λ x. x.config) (option_map g o) ≡ option_map (λ x. x.config) o
same_config g same None = refl
same_config g same (Some x) = ap (λ z. Some z) (same x)

pub same_class : (g : EpochState → EpochState) → ((x : EpochState) → (g x).config ≡ x.config)
    → (c : ℕ) (o : Option EpochState) → class_of c (option_map g o) ≡ class_of c o
same_class g same c None = refl
same_class g same c (Some x) = ap (λ z. slice_get z.classes c) (same x)

-- the epochs after a check began: all but the count is as before
pub there_began : (e f : ℕ) (v : EpochsState) → is_some (epoch_at (after_began e v) f) ≡ is_some (epoch_at v f)
there_began e f v = same_of is_some e f check_more v (λ x. refl) (same_there check_more)

pub part_began : (e f c : ℕ) (v : EpochsState) → part_at (after_began e v) f c ≡ part_at v f c
part_began e f c v = same_of (part_of c) e f check_more v (λ x. refl) (same_part check_more (λ x. refl) c)

pub row_began : (e f c : ℕ) (v : EpochsState) → row_at (after_began e v) f c ≡ row_at v f c
row_began e f c v = ap (option_map (λ p. p.row)) (part_began e f c v)

pub class_began : (e f c : ℕ) (v : EpochsState) → class_at (after_began e v) f c ≡ class_at v f c
class_began e f c v = same_of (class_of c) e f check_more v (λ x. refl) (same_class check_more (λ x. refl) c)

pub config_began : (e f : ℕ) (v : EpochsState)
    → option_map (λ x. x.config) (epoch_at (after_began e v) f) ≡ option_map (λ x. x.config) (epoch_at v f)
config_began e f v = same_of (option_map (λ x. x.config)) e f check_more v (λ x. refl)
    (same_config check_more (λ x. refl))

pub checks_began : (e f : ℕ) (v : EpochsState) → is_some (epoch_at v e) ≡ true
    → checks_at (after_began e v) f ≡ (if f == e then suc (checks_at v f) else checks_at v f)
checks_began e f v there = ap (λ o. option_map_or (λ x. x.checks) o 0) (epoch_counted e f check_more v (λ x. refl))
    ∙ by_test (f == e) refl
  where
    one_more : (o : Option EpochState) → is_some o ≡ true
        → option_map_or (λ x. x.checks) (option_map check_more o) 0 ≡ suc (option_map_or (λ x. x.checks) o 0)
    one_more None t = absurd cc
    one_more (Some x) t = refl

    by_test : (b : Bool) → (f == e) ≡ b
        → option_map_or (λ x. x.checks) (if b then option_map check_more (epoch_at v f) else epoch_at v f) 0
        ≡ (if b then suc (option_map_or (λ x. x.checks) (epoch_at v f) 0)
        else option_map_or (λ x. x.checks) (epoch_at v f) 0)
    by_test true t = one_more (epoch_at v f) (ap (λ n. is_some (epoch_at v n)) (equal f e t) ∙ there)
    by_test false t = refl

-- a place, where its epoch lives
abbrev pub if_there : EpochsState → Option ClassId → Option ClassId
if_there v None = None
if_there v (Some p) = if is_some (epoch_at v p.epoch) then Some p else None

-- the place is of an epoch that does not live
abbrev pub is_gone : EpochsState → Option ClassId → Bool
is_gone v p = option_map_or (λ x. not (is_some (epoch_at v x.epoch))) p false

-- a process that lives in a class has it, so its epoch lives
pub home_there : (v : EpochsState) (k : ℕ) (p : ClassId) → AreHomed v → home_at v k ≡ Some p
    → is_some (epoch_at v p.epoch) ≡ true
home_there v k p homed is = by_case (epoch_at v p.epoch) refl
  where
    both_same : (a b : ℕ) → a ≡ b → (a == b) ≡ true
    both_same a b e = grind (arith, e)

    differ : false ≡ true → ⊥
    differ e = cc

    lives_here : lives_in k (part_at v p.epoch p.class) ≡ true
    lives_here = homed p.epoch p.class k ∙ ap (is_place p.epoch p.class) is
        ∙ ap (λ z. z && p.class == p.class) (both_same p.epoch p.epoch refl) ∙ both_same p.class p.class refl

    by_case : (o : Option EpochState) → epoch_at v p.epoch ≡ o → is_some o ≡ true
    by_case (Some x) q = refl
    by_case None q = let none : lives_in k (part_at v p.epoch p.class) ≡ false =
        ap (λ o. lives_in k (part_of p.class o)) q in absurd (differ (sym none ∙ lives_here))

-- each home is of an epoch that lives
pub homes_there : (v : EpochsState) (k : ℕ) → AreHomed v → home_at v k ≡ if_there v (home_at v k)
homes_there v k homed = by_case (home_at v k) refl
  where
    by_case : (o : Option ClassId) → home_at v k ≡ o → o ≡ if_there v o
    by_case None q = refl
    by_case (Some p) q = sym (if_true (is_some (epoch_at v p.epoch)) (Some p) None (home_there v k p homed q))

pub none_gone : (v : EpochsState) (k : ℕ) → AreHomed v → is_gone v (home_at v k) ≡ false
none_gone v k homed = by_case (home_at v k) refl
  where
    by_case : (o : Option ClassId) → home_at v k ≡ o → is_gone v o ≡ false
    by_case None q = refl
    by_case (Some p) q = ap not (home_there v k p homed q)

-- homes and due stops where an epoch ended, by which epochs live then
pub home_left : (e k : ℕ) (v : EpochsState) → AreHomed v → Rises (map home_number v.homes)
    → home_at (drop_epoch e v) k ≡ if_there (drop_epoch e v) (home_at v k)
home_left e k v homed r = home_dropped e k v r ∙ by_case (home_at v k) refl
  where
    by_test : (p : ClassId) (b : Bool) → home_at v k ≡ Some p
        → (if b then None else Some p) ≡ (if is_some (if b then None else epoch_at v p.epoch) then Some p else None)
    by_test p true q = refl
    by_test p false q = sym (if_true (is_some (epoch_at v p.epoch)) (Some p) None (home_there v k p homed q))

    by_case : (o : Option ClassId) → home_at v k ≡ o → place_without e o ≡ if_there (drop_epoch e v) o
    by_case None q = refl
    by_case (Some p) q = by_test p (e == p.epoch) q
        ∙ ap (λ o. if is_some o then Some p else None) (sym (epoch_dropped e p.epoch v))

pub stop_left : (e k : ℕ) (v : EpochsState) → AreHomed v → Rises (map home_number v.homes)
    → is_among k (drop_epoch e v).stops ≡ (is_among k v.stops || is_gone (drop_epoch e v) (home_at v k))
stop_left e k v homed r = stop_dropped e k v r ∙ ap (λ z. z || is_among k v.stops) (by_case (home_at v k) refl)
    ∙ turned (is_gone (drop_epoch e v) (home_at v k)) (is_among k v.stops)
  where
    turned : (a b : Bool) → (a || b) ≡ (b || a)
    turned true true = refl
    turned true false = refl
    turned false true = refl
    turned false false = refl

    by_test : (p : ClassId) (b : Bool) → home_at v k ≡ Some p
        → b ≡ not (is_some (if b then None else epoch_at v p.epoch))
    by_test p true q = refl
    by_test p false q = sym (ap not (home_there v k p homed q))

    by_case : (o : Option ClassId) → home_at v k ≡ o → is_in_epoch e o ≡ is_gone (drop_epoch e v) o
    by_case None q = refl
    by_case (Some p) q = by_test p (e == p.epoch) q ∙ ap (λ o. not (is_some o)) (sym (epoch_dropped e p.epoch v))
