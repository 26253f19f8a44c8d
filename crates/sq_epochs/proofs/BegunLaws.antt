-- Laws of an epoch that begins: what is at each number and place after it.
use Rattle.std.proofs.Common.{◌≡◌, ℕ, suc, zero, ◌+◌, ◌<◌, List, [], ◌∷◌, ◌++◌, map, set, get_or, cond, Bool, true, false, not, ◌&&◌, ◌||◌, if◌then◌else◌, nat_lt, ◌==◌, refl, sym, arith, ap, ◌∙◌, Some, None, is_some, subst, slice_get}
use Rattle.std.specs.declared.option.Option.{Option}
use Rattle.std.specs.List.{list_all}
use Rattle.std.specs.Option.{option_and_then, option_map, option_map_or, option_or}
use Rattle.std.proofs.lemmas.Bool.{lt-ltb}
use Rattle.std.proofs.lemmas.List.Elements.{filter-append}
use Rattle.std.proofs.lemmas.List.Folds.{list_all-append}
use Rattle.std.proofs.lemmas.Option.{slice_get-map}
use Rattle.sq_base.proofs.CommonLaws.{eq_turned}
use Rattle.sq_channel.proofs.RisingLaws.{if_false, if_true}
use Rattle.sq_rules.specs.Classes.{Class}
use Rattle.sq_rules.specs.Configurations.{Configuration}
use Rattle.sq_machine.specs.Rising.{AreAbove, AreBelow, Rises, place_among}
use Rattle.sq_model.specs.ClassRows.{ClassRow, new_row}
use Rattle.sq_class.specs.Parts.{PartState}
use Rattle.sq_epochs.specs.EpochStates.{EpochState, EpochsState, change_epoch, class_at, class_of, epoch_at, epoch_in, epoch_number, new_epoch, part_at, part_of, row_at}
use Rattle.sq_epochs.specs.LiveEpochs.{AreEpochs, checks_at, has_checks, is_used, without_epoch}
use Rattle.sq_epochs.specs.Reconfigured.{alike_in, begun_epoch, begun_part, emptied, kept_alike, kept_before, kept_in, left_epoch, left_part, left_parts, with_begun, with_epoch}
use Rattle.sq_epochs.proofs.EpochLaws.{placed}
use Rattle.sq_epochs.proofs.ProcLaws.{in_changed}
use Rattle.sq_epochs.proofs.DropLaws.{in_without}
use Rattle.sq_epochs.proofs.RisingRows.{above_filter, above_push, below_filter, below_push, keys_push, rises_filter, rises_push}

equal : (a b : ℕ) → (a == b) ≡ true → a ≡ b
equal a b e = grind (arith, e)

apart : (a b : ℕ) → a < b → (b == a) ≡ false
apart a b l = grind (arith, l)

itself : (a : ℕ) → (a == a) ≡ true
itself a = grind arith

-- the epoch with a number, where one was changed and kept its number
pub changed_at : (e f : ℕ) (g : EpochState → EpochState) (xs : List EpochState)
    → ((x : EpochState) → (g x).epoch ≡ x.epoch)
    → epoch_in f (change_epoch e g xs) ≡ (if f == e then option_map g (epoch_in f xs) else epoch_in f xs)
changed_at e f g xs same = in_changed e g same xs f
    ∙ ap (λ b. if b then option_map g (epoch_in f xs) else epoch_in f xs) (eq_turned e f)

-- the epoch with a number in two lists, one behind the other
pub in_append : (f : ℕ) (xs ys : List EpochState) → epoch_in f (xs ++ ys) ≡ option_or (epoch_in f xs) (epoch_in f ys)
in_append f [] ys = refl
in_append f (x ∷ xs) ys = by_test (f == x.epoch) (in_append f xs ys)
  where
    by_test : (b : Bool) → epoch_in f (xs ++ ys) ≡ option_or (epoch_in f xs) (epoch_in f ys)
        → (if b then Some x else epoch_in f (xs ++ ys))
        ≡ option_or (if b then Some x else epoch_in f xs) (epoch_in f ys)
    by_test true more = refl
    by_test false more = more

-- no epoch is found above each
pub none_past : (f : ℕ) (xs : List EpochState) → AreBelow f (map epoch_number xs) → epoch_in f xs ≡ None
none_past f [] b = refl
none_past f (x ∷ xs) b = if_false (f == x.epoch) (Some x) (epoch_in f xs) (apart x.epoch f b.0) ∙ none_past f xs b.1

changed_numbers : (e : ℕ) (g : EpochState → EpochState) (xs : List EpochState)
    → ((x : EpochState) → (g x).epoch ≡ x.epoch) → map epoch_number (change_epoch e g xs) ≡ map epoch_number xs
changed_numbers e g [] same = refl
changed_numbers e g (x ∷ xs) same = by_test (e == x.epoch) (changed_numbers e g xs same)
  where
    by_test : (b : Bool) → map epoch_number (change_epoch e g xs) ≡ map epoch_number xs
        → map epoch_number (if b then g x ∷ xs else x ∷ change_epoch e g xs) ≡ x.epoch ∷ map epoch_number xs
    by_test true more = ap (λ n. n ∷ map epoch_number xs) (same x)
    by_test false more = ap (λ ns. x.epoch ∷ ns) more

-- the epoch with a number after one began: that one, the one that was current without what it handed on, or as it was
pub epoch_begun : (config : Configuration) (v : EpochsState) (f : ℕ) → AreEpochs v
    → epoch_at (with_epoch config v) f
    ≡ (if f == suc v.current then Some (begun_epoch (kept_before v.epochs v.current) (suc v.current) config)
    else (if f == v.current then option_map (left_epoch config.classes) (epoch_at v f) else epoch_at v f))
epoch_begun config v f is =
    in_append f (change_epoch v.current (left_epoch config.classes) v.epochs) (begun ∷ [])
    ∙ ap (λ o. option_or o (if f == suc v.current then Some begun else None))
    (changed_at v.current f (left_epoch config.classes) v.epochs (λ x. refl))
    ∙ by_test (f == suc v.current) refl
  where
    begun : EpochState
    begun = begun_epoch (kept_before v.epochs v.current) (suc v.current) config

    before : Option EpochState
    before = if f == v.current then option_map (left_epoch config.classes) (epoch_at v f) else epoch_at v f

    no_more : (o : Option EpochState) → option_or o None ≡ o
    no_more None = refl
    no_more (Some x) = refl

    none_before : f ≡ suc v.current → before ≡ None
    none_before n =
        let past : epoch_at v f ≡ None = ap (λ z. epoch_at v z) n ∙ none_past (suc v.current) v.epochs is.born in
        let other : (f == v.current) ≡ false = ap (λ z. z == v.current) n
        ∙ apart v.current (suc v.current) (omega arith) in
        if_false (f == v.current) (option_map (left_epoch config.classes) (epoch_at v f)) (epoch_at v f) other ∙ past

    by_test : (b : Bool) → (f == suc v.current) ≡ b
        → option_or before (if b then Some begun else None) ≡ (if b then Some begun else before)
    by_test true t = ap (λ o. option_or o (Some begun)) (none_before (equal f (suc v.current) t))
    by_test false t = no_more before

-- the numbers of the epochs, where one began
begun_numbers : (config : Configuration) (v : EpochsState)
    → map epoch_number (with_begun v.current config v.epochs) ≡ map epoch_number v.epochs ++ suc v.current ∷ []
begun_numbers config v =
    keys_push epoch_number (change_epoch v.current (left_epoch config.classes) v.epochs)
    (begun_epoch (kept_before v.epochs v.current) (suc v.current) config)
    ∙ ap (λ ns. ns ++ suc v.current ∷ []) (changed_numbers v.current (left_epoch config.classes) v.epochs (λ x. refl))

pub begun_rise : (config : Configuration) (v : EpochsState) → AreEpochs v
    → Rises (map epoch_number (with_begun v.current config v.epochs))
begun_rise config v is = subst Rises (sym (begun_numbers config v))
    (rises_push (map epoch_number v.epochs) (suc v.current) is.born is.rise)

pub begun_numbered : (config : Configuration) (v : EpochsState) → AreEpochs v
    → AreAbove 0 (map epoch_number (with_begun v.current config v.epochs))
begun_numbered config v is = subst (AreAbove 0) (sym (begun_numbers config v))
    (above_push 0 (map epoch_number v.epochs) (suc v.current) (omega arith) is.numbered)

below_next : (n : ℕ) (ns : List ℕ) → AreBelow n ns → AreBelow (suc n) ns
below_next n [] b = tt
below_next n (m ∷ ns) b = (let low = b.0 in omega arith, below_next n ns b.1)

pub begun_born : (config : Configuration) (v : EpochsState) → AreEpochs v
    → AreBelow (suc (suc v.current)) (map epoch_number (with_begun v.current config v.epochs))
begun_born config v is =
    subst (AreBelow (suc (suc v.current))) (sym (begun_numbers config v))
    (below_push (suc (suc v.current)) (map epoch_number v.epochs) (suc v.current) (omega arith)
    (below_next (suc v.current) (map epoch_number v.epochs) is.born))

pub begun_here : (config : Configuration) (v : EpochsState) → AreEpochs v
    → is_some (epoch_at (with_epoch config v) (suc v.current)) ≡ true
begun_here config v is =
    ap is_some
    (epoch_begun config v (suc v.current) is
    ∙ if_true (suc v.current == suc v.current)
    (Some (begun_epoch (kept_before v.epochs v.current) (suc v.current) config))
    (if suc v.current == v.current then option_map (left_epoch config.classes) (epoch_at v (suc v.current))
    else epoch_at v (suc v.current)) (itself (suc v.current)))

-- the part at a place after the classes handed on what was kept
abbrev pub left_at : List Class → Option Class → Option PartState → Option PartState
left_at begun (Some k) (Some p) = Some (left_part begun k p)
left_at begun k p = p

parts_left : (begun ks : List Class) (ps : List PartState) (c : ℕ)
    → slice_get (left_parts begun ks ps) c ≡ left_at begun (slice_get ks c) (slice_get ps c)
parts_left begun [] ps c = none (slice_get ps c)
  where
    none : (o : Option PartState) → o ≡ left_at begun None o
    none None = refl
    none (Some p) = refl
parts_left begun (k ∷ ks) [] zero = refl
parts_left begun (k ∷ ks) [] (suc c) = none (slice_get ks c)
  where
    none : (o : Option Class) → None ≡ left_at begun o None
    none None = refl
    none (Some p) = refl
parts_left begun (k ∷ ks) (p ∷ ps) zero = refl
parts_left begun (k ∷ ks) (p ∷ ps) (suc c) = parts_left begun ks ps c

-- a row of a class of the epoch that was current: nothing is kept of it where a class of the new configuration is alike
abbrev pub left_row : List Class → Class → ClassRow → ClassRow
left_row begun class r = if is_some (alike_in begun class) then record r { kept = [] } else r

abbrev pub left_row_at : List Class → Option Class → Option ClassRow → Option ClassRow
left_row_at begun (Some class) (Some r) = Some (left_row begun class r)
left_row_at begun class r = r

row_left : (begun : List Class) (k : Option Class) (p : Option PartState)
    → option_map (λ z. z.row) (left_at begun k p) ≡ left_row_at begun k (option_map (λ z. z.row) p)
row_left begun None None = refl
row_left begun None (Some p) = refl
row_left begun (Some k) None = refl
row_left begun (Some k) (Some p) = by_test (is_some (alike_in begun k))
  where
    by_test : (b : Bool) → Some (if b then emptied p else p).row
        ≡ Some (if b then record p.row { kept = [] } else p.row)
    by_test true = refl
    by_test false = refl

-- the part of each class after an epoch began
pub part_begun : (config : Configuration) (v : EpochsState) (e c : ℕ) → AreEpochs v
    → part_at (with_epoch config v) e c
    ≡ (if e == suc v.current then option_map (begun_part (kept_before v.epochs v.current)) (slice_get config.classes c)
    else (if e == v.current then left_at config.classes (class_at v e c) (part_at v e c) else part_at v e c))
part_begun config v e c is = ap (part_of c) (epoch_begun config v e is)
    ∙ by_test (e == suc v.current) (e == v.current) (epoch_at v e)
  where
    left : (o : Option EpochState)
        → part_of c (option_map (left_epoch config.classes) o) ≡ left_at config.classes (class_of c o) (part_of c o)
    left None = refl
    left (Some x) = parts_left config.classes x.config.classes x.parts c

    by_test : (b d : Bool) (o : Option EpochState)
        → part_of c (if b then Some (begun_epoch (kept_before v.epochs v.current) (suc v.current) config)
        else (if d then option_map (left_epoch config.classes) o else o))
        ≡ (if b then option_map (begun_part (kept_before v.epochs v.current)) (slice_get config.classes c)
        else (if d then left_at config.classes (class_of c o) (part_of c o) else part_of c o))
    by_test true d o = slice_get-map (begun_part (kept_before v.epochs v.current)) config.classes c
    by_test false true o = left o
    by_test false false o = refl

-- its row
pub row_begun : (config : Configuration) (v : EpochsState) (e c : ℕ) → AreEpochs v
    → row_at (with_epoch config v) e c
    ≡ (if e == suc v.current then option_map (λ class. new_row (kept_before v.epochs v.current class) class)
    (slice_get config.classes c)
    else (if e == v.current then left_row_at config.classes (class_at v e c) (row_at v e c) else row_at v e c))
row_begun config v e c is = ap (option_map (λ p. p.row)) (part_begun config v e c is)
    ∙ by_test (e == suc v.current) (e == v.current)
  where
    twice : (o : Option Class)
        → option_map (λ p. p.row) (option_map (begun_part (kept_before v.epochs v.current)) o)
        ≡ option_map (λ class. new_row (kept_before v.epochs v.current class) class) o
    twice None = refl
    twice (Some k) = refl

    by_test : (b d : Bool)
        → option_map (λ p. p.row)
        (if b then option_map (begun_part (kept_before v.epochs v.current)) (slice_get config.classes c)
        else (if d then left_at config.classes (class_at v e c) (part_at v e c) else part_at v e c))
        ≡ (if b then option_map (λ class. new_row (kept_before v.epochs v.current class) class)
        (slice_get config.classes c)
        else (if d then left_row_at config.classes (class_at v e c) (option_map (λ p. p.row) (part_at v e c))
        else option_map (λ p. p.row) (part_at v e c)))
    by_test true d = twice (slice_get config.classes c)
    by_test false true = row_left config.classes (class_at v e c) (part_at v e c)
    by_test false false = refl

-- the class at each place
pub class_begun : (config : Configuration) (v : EpochsState) (e c : ℕ) → AreEpochs v
    → class_at (with_epoch config v) e c ≡ (if e == suc v.current then slice_get config.classes c else class_at v e c)
class_begun config v e c is = ap (class_of c) (epoch_begun config v e is)
    ∙ by_test (e == suc v.current) (e == v.current) (epoch_at v e)
  where
    left : (o : Option EpochState) → class_of c (option_map (left_epoch config.classes) o) ≡ class_of c o
    left None = refl
    left (Some x) = refl

    by_test : (b d : Bool) (o : Option EpochState)
        → class_of c (if b then Some (begun_epoch (kept_before v.epochs v.current) (suc v.current) config)
        else (if d then option_map (left_epoch config.classes) o else o))
        ≡ (if b then slice_get config.classes c else class_of c o)
    by_test true d o = refl
    by_test false true o = left o
    by_test false false o = refl

-- the configuration of each epoch
pub config_begun : (config : Configuration) (v : EpochsState) (e : ℕ) → AreEpochs v
    → option_map (λ x. x.config) (epoch_at (with_epoch config v) e)
    ≡ (if e == suc v.current then Some config else option_map (λ x. x.config) (epoch_at v e))
config_begun config v e is = ap (option_map (λ x. x.config)) (epoch_begun config v e is)
    ∙ by_test (e == suc v.current) (e == v.current) (epoch_at v e)
  where
    left : (o : Option EpochState)
        → option_map (λ x. x.config) (option_map (left_epoch config.classes) o) ≡ option_map (λ x. x.config) o
    left None = refl
    left (Some x) = refl

    by_test : (b d : Bool) (o : Option EpochState)
        → option_map (λ x. x.config)
        (if b then Some (begun_epoch (kept_before v.epochs v.current) (suc v.current) config)
        else (if d then option_map (left_epoch config.classes) o else o))
        ≡ (if b then Some config else option_map (λ x. x.config) o)
    by_test true d o = refl
    by_test false true o = left o
    by_test false false o = refl

-- what was kept of the class that is alike, by the rows
pub kept_by_rows : (v : EpochsState) (e : ℕ) (class : Class)
    → kept_before v.epochs e class
    ≡ option_map_or (λ c. option_map_or (λ r. r.kept) (row_at v e c) [])
    (option_and_then (λ config. alike_in config.classes class) (option_map (λ x. x.config) (epoch_at v e))) []
kept_by_rows v e class = by_epoch (epoch_at v e)
  where
    by_part : (o : Option PartState)
        → option_map_or (λ p. p.row.kept) o [] ≡ option_map_or (λ r. r.kept) (option_map (λ p. p.row) o) []
    by_part None = refl
    by_part (Some p) = refl

    by_place : (x : EpochState) (o : Option ℕ)
        → option_map_or (kept_in x.parts) o []
        ≡ option_map_or (λ c. option_map_or (λ r. r.kept) (option_map (λ p. p.row) (part_of c (Some x))) []) o []
    by_place x None = refl
    by_place x (Some c) = by_part (slice_get x.parts c)

    by_epoch : (o : Option EpochState)
        → option_map_or (λ x. option_map_or (kept_in x.parts) (alike_in x.config.classes class) []) o []
        ≡ option_map_or (λ c. option_map_or (λ r. r.kept) (option_map (λ p. p.row) (part_of c o)) [])
        (option_and_then (λ config. alike_in config.classes class) (option_map (λ x. x.config) o)) []
    by_epoch None = refl
    by_epoch (Some x) = by_place x (alike_in x.config.classes class)

-- how many checks are open of each epoch after one began
pub checks_begun : (config : Configuration) (v : EpochsState) (e : ℕ) → AreEpochs v
    → checks_at (with_epoch config v) e ≡ (if e == suc v.current then 0 else checks_at v e)
checks_begun config v e is = ap (λ o. option_map_or (λ x. x.checks) o 0) (epoch_begun config v e is)
    ∙ by_test (e == suc v.current) (e == v.current) (epoch_at v e)
  where
    begun : EpochState
    begun = begun_epoch (kept_before v.epochs v.current) (suc v.current) config

    left : (o : Option EpochState)
        → option_map_or (λ x. x.checks) (option_map (left_epoch config.classes) o) 0 ≡ option_map_or (λ x. x.checks) o 0
    left None = refl
    left (Some x) = refl

    by_test : (b d : Bool) (o : Option EpochState)
        → option_map_or (λ x. x.checks)
        (if b then Some begun else (if d then option_map (left_epoch config.classes) o else o)) 0
        ≡ (if b then 0 else option_map_or (λ x. x.checks) o 0)
    by_test true d o = refl
    by_test false true o = left o
    by_test false false o = refl

rest_of : (a b : Bool) → (a && b) ≡ true → b ≡ true
rest_of true b e = e
rest_of false b e = absurd cc

first_of : (a b : Bool) → (a && b) ≡ true → a ≡ true
first_of true b e = refl
first_of false b e = e

both_are : (a b : Bool) → a ≡ true → b ≡ true → (a && b) ≡ true
both_are a b p q = cc

-- each epoch above the current one has an open check
busy_above : (c : ℕ) (xs : List EpochState) → AreAbove c (map epoch_number xs) → list_all (is_used c) xs ≡ true
    → list_all has_checks xs ≡ true
busy_above c [] a u = refl
busy_above c (x ∷ xs) a u =
    both_are (has_checks x) (list_all has_checks xs)
    (ap (λ z. z || has_checks x) (sym (other c x.epoch a.0)) ∙ first_of (is_used c x) (list_all (is_used c) xs) u)
    (busy_above c xs a.1 (rest_of (is_used c x) (list_all (is_used c) xs) u))
  where
    other : (a b : ℕ) → a < b → (a == b) ≡ false
    other a b l = grind (arith, l)

-- all have an open check, where the current one has one
busy_changed : (c : ℕ) (g : EpochState → EpochState) (xs : List EpochState)
    → ((x : EpochState) → (g x).checks ≡ x.checks) → Rises (map epoch_number xs) → list_all (is_used c) xs ≡ true
    → 0 < option_map_or (λ x. x.checks) (epoch_in c xs) 0 → list_all has_checks (change_epoch c g xs) ≡ true
busy_changed c g [] same r u l = refl
busy_changed c g (x ∷ xs) same r u l = by_test (c == x.epoch) refl l
    (busy_changed c g xs same r.1 (rest_of (is_used c x) (list_all (is_used c) xs) u))
  where
    by_test : (b : Bool) → (c == x.epoch) ≡ b
        → 0 < option_map_or (λ y. y.checks) (if b then Some x else epoch_in c xs) 0
        → (0 < option_map_or (λ y. y.checks) (epoch_in c xs) 0 → list_all has_checks (change_epoch c g xs) ≡ true)
        → list_all has_checks (if b then g x ∷ xs else x ∷ change_epoch c g xs) ≡ true
    by_test true t l more =
        let num = equal c x.epoch t in
        both_are (has_checks (g x)) (list_all has_checks xs) (ap (nat_lt 0) (same x) ∙ lt-ltb 0 x.checks l)
        (busy_above c xs (subst (λ n. AreAbove n (map epoch_number xs)) (sym num) r.0)
        (rest_of (is_used c x) (list_all (is_used c) xs) u))
    by_test false t l more =
        both_are (has_checks x) (list_all has_checks (change_epoch c g xs))
        (ap (λ z. z || has_checks x) (sym t) ∙ first_of (is_used c x) (list_all (is_used c) xs) u) (more l)

-- each other one has an open check
busy_without : (c : ℕ) (xs : List EpochState) → list_all (is_used c) xs ≡ true
    → list_all has_checks (without_epoch c xs) ≡ true
busy_without c [] u = refl
busy_without c (x ∷ xs) u = by_test (c == x.epoch) refl
    (busy_without c xs (rest_of (is_used c x) (list_all (is_used c) xs) u))
  where
    by_test : (b : Bool) → (c == x.epoch) ≡ b → list_all has_checks (without_epoch c xs) ≡ true
        → list_all has_checks (cond (not b) (x ∷ without_epoch c xs) (without_epoch c xs)) ≡ true
    by_test true t more = more
    by_test false t more =
        both_are (has_checks x) (list_all has_checks (without_epoch c xs))
        (ap (λ z. z || has_checks x) (sym t) ∙ first_of (is_used c x) (list_all (is_used c) xs) u) more

-- epochs with open checks are used, whichever is current
used_next : (c : ℕ) (xs : List EpochState) → list_all has_checks xs ≡ true → list_all (is_used c) xs ≡ true
used_next c [] u = refl
used_next c (x ∷ xs) u =
    both_are (is_used c x) (list_all (is_used c) xs)
    (right (c == x.epoch) (has_checks x) (first_of (has_checks x) (list_all has_checks xs) u))
    (used_next c xs (rest_of (has_checks x) (list_all has_checks xs) u))
  where
    right : (a b : Bool) → b ≡ true → (a || b) ≡ true
    right true b e = refl
    right false b e = e

used_end : (c : ℕ) (xs : List EpochState) (y : EpochState) → y.epoch ≡ c → list_all has_checks xs ≡ true
    → list_all (is_used c) (xs ++ y ∷ []) ≡ true
used_end c xs y e u =
    list_all-append (is_used c) xs (y ∷ [])
    ∙ both_are (list_all (is_used c) xs) (is_used c y && true) (used_next c xs u)
    (ap (λ n. (c == n || has_checks y) && true) e ∙ ap (λ z. (z || has_checks y) && true) (itself c))

-- the epochs are epochs, where one began and the one that was current has an open check
pub begun_epochs : (config : Configuration) (v w : EpochsState) → AreEpochs v → 0 < checks_at v v.current
    → w.current ≡ suc v.current → w.epochs ≡ with_begun v.current config v.epochs → AreEpochs w
begun_epochs config v w is l current epochs = record {
  rise = subst (λ z. Rises (map epoch_number z)) (sym epochs) (begun_rise config v is);
  numbered = subst (λ z. AreAbove 0 (map epoch_number z)) (sym epochs) (begun_numbered config v is);
  born = subst (λ c. AreBelow (suc c) (map epoch_number w.epochs)) (sym current)
      (subst (λ z. AreBelow (suc (suc v.current)) (map epoch_number z)) (sym epochs) (begun_born config v is));
  here = ap (λ c. is_some (epoch_in c w.epochs)) current ∙ ap (λ z. is_some (epoch_in (suc v.current) z)) epochs
      ∙ begun_here config v is;
  used =
      ap (λ c. list_all (is_used c) w.epochs) current ∙ ap (list_all (is_used (suc v.current))) epochs
      ∙ used_end (suc v.current) (change_epoch v.current (left_epoch config.classes) v.epochs)
      (begun_epoch (kept_before v.epochs v.current) (suc v.current) config) refl
      (busy_changed v.current (left_epoch config.classes) v.epochs (λ x. refl) is.rise is.used l);
}

changed_gone : (e : ℕ) (g : EpochState → EpochState) (xs : List EpochState) → ((x : EpochState) → (g x).epoch ≡ x.epoch)
    → without_epoch e (change_epoch e g xs) ≡ without_epoch e xs
changed_gone e g [] same = refl
changed_gone e g (x ∷ xs) same = by_test (e == x.epoch) refl (changed_gone e g xs same)
  where
    by_test : (b : Bool) → (e == x.epoch) ≡ b → without_epoch e (change_epoch e g xs) ≡ without_epoch e xs
        → without_epoch e (if b then g x ∷ xs else x ∷ change_epoch e g xs)
        ≡ cond (not b) (x ∷ without_epoch e xs) (without_epoch e xs)
    by_test true t more = ap (λ n. cond (not (e == n)) (g x ∷ without_epoch e xs) (without_epoch e xs)) (same x)
        ∙ ap (λ z. cond (not z) (g x ∷ without_epoch e xs) (without_epoch e xs)) t
    by_test false t more = ap (λ z. cond (not z) (x ∷ without_epoch e (change_epoch e g xs))
        (without_epoch e (change_epoch e g xs))) t ∙ ap (λ z. x ∷ z) more

-- the epochs without the one that was current, after one began
begun_without : (config : Configuration) (v : EpochsState)
    → without_epoch v.current (with_begun v.current config v.epochs) ≡ without_epoch v.current v.epochs
    ++ begun_epoch (kept_before v.epochs v.current) (suc v.current) config ∷ []
begun_without config v =
    filter-append (λ x. not (v.current == x.epoch)) (change_epoch v.current (left_epoch config.classes) v.epochs)
    (begun_epoch (kept_before v.epochs v.current) (suc v.current) config ∷ [])
    ∙ ap (λ z. z ++ without_epoch v.current (begun_epoch (kept_before v.epochs v.current) (suc v.current) config ∷ []))
    (changed_gone v.current (left_epoch config.classes) v.epochs (λ x. refl))
    ∙ ap (λ b. without_epoch v.current v.epochs
    ++ cond (not b) (begun_epoch (kept_before v.epochs v.current) (suc v.current) config ∷ []) []) (before v.current)
  where
    before : (a : ℕ) → (a == suc a) ≡ false
    before a = grind arith

-- the same, where the one that was current ended
pub left_epochs : (config : Configuration) (v w : EpochsState) → AreEpochs v → w.current ≡ suc v.current
    → w.epochs ≡ without_epoch v.current (with_begun v.current config v.epochs) → AreEpochs w
left_epochs config v w is current epochs = record {
  rise = subst (λ z. Rises (map epoch_number z)) (sym epochs)
      (rises_filter epoch_number (λ x. not (v.current == x.epoch)) (with_begun v.current config v.epochs)
      (begun_rise config v is));
  numbered = subst (λ z. AreAbove 0 (map epoch_number z)) (sym epochs)
      (above_filter epoch_number (λ x. not (v.current == x.epoch)) 0 (with_begun v.current config v.epochs)
      (begun_numbered config v is));
  born = subst (λ c. AreBelow (suc c) (map epoch_number w.epochs)) (sym current)
      (subst (λ z. AreBelow (suc (suc v.current)) (map epoch_number z)) (sym epochs)
      (below_filter epoch_number (λ x. not (v.current == x.epoch)) (suc (suc v.current))
      (with_begun v.current config v.epochs) (begun_born config v is)));
  here =
      ap (λ c. is_some (epoch_in c w.epochs)) current ∙ ap (λ z. is_some (epoch_in (suc v.current) z)) epochs
      ∙ ap is_some (in_without v.current (suc v.current) (with_begun v.current config v.epochs)
      ∙ if_false (v.current == suc v.current) None (epoch_at (with_epoch config v) (suc v.current)) (before v.current))
      ∙ begun_here config v is;
  used =
      ap (λ c. list_all (is_used c) w.epochs) current
      ∙ ap (list_all (is_used (suc v.current))) (epochs ∙ begun_without config v)
      ∙ used_end (suc v.current) (without_epoch v.current v.epochs)
      (begun_epoch (kept_before v.epochs v.current) (suc v.current) config) refl
      (busy_without v.current v.epochs is.used);
}
  where
    before : (a : ℕ) → (a == suc a) ≡ false
    before a = grind arith

-- an epoch that was put behind the others began
pub put_begun : (e i : ℕ) (xs : List EpochState) (x y b b' : EpochState) → Rises (map epoch_number xs)
    → is_some (epoch_in e xs) ≡ true → i ≡ place_among e (map epoch_number xs) → x ≡ get_or xs i x
    → b ≡ new_epoch (suc e) b.config → y ≡ left_epoch b.config.classes x
    → b' ≡ begun_epoch (kept_alike x) b.epoch b.config → set xs i y ++ b' ∷ [] ≡ with_begun e b.config xs
put_begun e i xs x y b b' r is p at new left begun = by_case (epoch_in e xs) refl is
  where
    by_case : (o : Option EpochState) → epoch_in e xs ≡ o → is_some o ≡ true
        → set xs i y ++ b' ∷ [] ≡ with_begun e b.config xs
    by_case None q f = absurd cc
    by_case (Some z) q f =
        let f = placed e xs z r q in
        let x_is : x ≡ z = at ∙ ap (λ j. get_or xs j x) p ∙ f.at x in
        let front : set xs i y ≡ change_epoch e (left_epoch b.config.classes) xs =
        ap (λ j. set xs j y) p ∙ ap (set xs (place_among e (map epoch_number xs)))
        (left ∙ ap (left_epoch b.config.classes) x_is) ∙ f.set_is (left_epoch b.config.classes) in
        let back : b' ≡ begun_epoch (kept_before xs e) (suc e) b.config =
        begun ∙ ap (λ n. begun_epoch (kept_alike x) n b.config) (ap epoch_number new)
        ∙ ap (λ w. begun_epoch (kept_alike w) (suc e) b.config) x_is
        ∙ ap (λ o. begun_epoch (λ class. option_map_or (λ w. kept_alike w class) o []) (suc e) b.config) (sym q) in
        ap (λ zs. zs ++ b' ∷ []) front ∙ ap (λ w. change_epoch e (left_epoch b.config.classes) xs ++ w ∷ []) back

-- the epoch that was current is still there
pub begun_before : (config : Configuration) (v : EpochsState) → AreEpochs v
    → is_some (epoch_at (with_epoch config v) v.current) ≡ true
begun_before config v is =
    ap is_some
    (epoch_begun config v v.current is
    ∙ if_false (v.current == suc v.current) (Some (begun_epoch (kept_before v.epochs v.current) (suc v.current) config))
    (if v.current == v.current then option_map (left_epoch config.classes) (epoch_at v v.current)
    else epoch_at v v.current) (before v.current)
    ∙ if_true (v.current == v.current) (option_map (left_epoch config.classes) (epoch_at v v.current))
    (epoch_at v v.current) (itself v.current))
    ∙ left (epoch_at v v.current) ∙ is.here
  where
    before : (a : ℕ) → (a == suc a) ≡ false
    before a = grind arith

    left : (o : Option EpochState) → is_some (option_map (left_epoch config.classes) o) ≡ is_some o
    left None = refl
    left (Some x) = refl

pub next_number : (a b : ℕ) → a ≡ b → a + 1 ≡ suc b
next_number a b e = omega arith

pub some_checks : (a b : ℕ) → a ≡ b → (a ≡ 0 → ⊥) → 0 < b
some_checks a b e n = omega arith
