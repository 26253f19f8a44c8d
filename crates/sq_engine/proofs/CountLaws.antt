-- The epochs that live, and their counts, after a check began or is over.
use Rattle.std.proofs.Common.{◌≡◌, ◌∙◌, ◌==◌, ◌-◌, ◌&&◌, ◌||◌, ◌<◌, ℕ, suc, List, [], ◌∷◌, ◌++◌, Bool, true, false, not, if◌then◌else◌, map, length, Option, None, Some, is_some, refl, ap, sym, subst, arith}
use Rattle.std.proofs.lemmas.Option.{none-some, same_Some}
use Rattle.std.specs.List.{list_any}
use Rattle.std.specs.Option.{option_map, option_map_or}
use Rattle.sq_machine.specs.Rising.{Rises}
use Rattle.sq_model.specs.CheckRows.{Held, held_at, without_check}
use Rattle.sq_checks.proofs.EpochLaws.{of_epoch_more, of_epoch_without}
use Rattle.sq_checks.specs.OpenChecks.{of_epoch}
use Rattle.sq_epochs.proofs.EndLaws.{epoch_counted, epoch_dropped}
use Rattle.sq_epochs.specs.EpochStates.{EpochState, EpochsState, change_epoch, epoch_at}
use Rattle.sq_epochs.specs.LiveEpochs.{after_began, after_ended, check_less, check_more, checks_at, drop_epoch, ends_with_check}
use Rattle.sq_model.specs.States.{lives_with}
use Rattle.sq_engine.specs.Engines.{AreCounted, held_number}
use Rattle.sq_engine.proofs.TableLaws.{number_is, number_self, number_sym}

not_zero : (n : ℕ) → not (suc n == 0) ≡ true
not_zero n = grind arith

-- an epoch has one of these checks exactly where it counts one
pub any_is : (f : ℕ) (checks : List Held)
    → list_any (λ (h : Held). h.asked.epoch == f) checks ≡ not (of_epoch f checks == 0)
any_is f [] = refl
any_is f (h ∷ checks) = by (f == h.asked.epoch) refl (any_is f checks)
  where
    by : (b : Bool) → (f == h.asked.epoch) ≡ b
        → list_any (λ (x : Held). x.asked.epoch == f) checks ≡ not (of_epoch f checks == 0)
        → (h.asked.epoch == f || list_any (λ (x : Held). x.asked.epoch == f) checks)
        ≡ not ((if f == h.asked.epoch then suc (of_epoch f checks) else of_epoch f checks) == 0)
    by true x more = rw (number_sym h.asked.epoch f, x) (sym (not_zero (of_epoch f checks)))
    by false x more = rw (number_sym h.asked.epoch f, x) more

-- an epoch lives with some checks as with others of which it has as many
lives_same : (current f : ℕ) (checks rows : List Held) → of_epoch f checks ≡ of_epoch f rows
    → lives_with current checks f ≡ lives_with current rows f
lives_same current f checks rows same = ap (λ b. f == current || b)
    (any_is f checks ∙ ap (λ n. not (n == 0)) same ∙ sym (any_is f rows))

count_at : (current e : ℕ) (epoch : ℕ → Option EpochState) (checks : List Held) (o : Option EpochState)
    → AreCounted current epoch checks → epoch e ≡ o → is_some o ≡ true
    → option_map_or (λ x. x.checks) o 0 ≡ of_epoch e checks
count_at current e epoch checks None a is there = absurd (cc)
count_at current e epoch checks (Some x) a is there = a.counts e x is

-- an epoch of which a check is open counts it
pub counts_open : (v : EpochsState) (e : ℕ) (checks : List Held) → AreCounted v.current (epoch_at v) checks
    → is_some (epoch_at v e) ≡ true → checks_at v e ≡ of_epoch e checks
counts_open v e checks a there = count_at v.current e (epoch_at v) checks (epoch_at v e) a refl there

or_true : (a b : Bool) → b ≡ true → (a || b) ≡ true
or_true true b e = refl
or_true false b e = e

-- an epoch with a check lives
pub lives_open : (v : EpochsState) (e n : ℕ) (checks : List Held) → AreCounted v.current (epoch_at v) checks
    → of_epoch e checks ≡ suc n → is_some (epoch_at v e) ≡ true
lives_open v e n checks a c =
    a.live e ∙ or_true (e == v.current) (list_any (λ (h : Held). h.asked.epoch == e) checks)
    (any_is e checks ∙ ap (λ k. not (k == 0)) c ∙ not_zero n)

pub if_false : {A : Type 0} (b : Bool) (x y : A) → b ≡ false → (if b then x else y) ≡ y
if_false true x y e = absurd (cc)
if_false false x y e = refl

pub if_true : {A : Type 0} (b : Bool) (x y : A) → b ≡ true → (if b then x else y) ≡ x
if_true true x y e = refl
if_true false x y e = absurd (cc)

both : (a b : Bool) → (a && b) ≡ true → (a ≡ true) × (b ≡ true)
both true b h = (refl, h)
both false b h = absurd (cc)

not_true : (b : Bool) → not b ≡ true → b ≡ false
not_true true e = absurd (cc)
not_true false e = refl

one_less : (m n : ℕ) → (m == 1) ≡ true → m ≡ suc n → n ≡ 0
one_less m n a b = grind (arith, a, b)

more_left : (m n : ℕ) → (m == 1) ≡ false → m ≡ suc n → not (n == 0) ≡ true
more_left m n a b = grind (arith, a, b)

less_one : (m n : ℕ) → m ≡ suc n → m - 1 ≡ n
less_one m n e = omega (arith, e)

same_there : (b : Bool) (g : EpochState → EpochState) (o : Option EpochState)
    → is_some (if b then option_map g o else o) ≡ is_some o
same_there true g None = refl
same_there true g (Some x) = refl
same_there false g o = refl

-- an epoch that is found, where one of its number was changed
pub record WasOne (g : EpochState → EpochState) (b : Bool) (o : Option EpochState) (x : EpochState) : Type 0 where
  pub epoch : EpochState
  pub was : o ≡ Some epoch
  pub is_it : x ≡ (if b then g epoch else epoch)

was_one : (g : EpochState → EpochState) (b : Bool) (o : Option EpochState) (x : EpochState)
    → (if b then option_map g o else o) ≡ Some x → WasOne g b o x
was_one g true None x e = absurd (none-some x e)
was_one g true (Some y) x e = record { epoch = y; was = refl; is_it = sym (same_Some _ _ e) }
was_one g false o x e = record { epoch = x; was = e; is_it = refl }

-- the epochs after one of these checks is over
pub counted_over : (v : EpochsState) (e n : ℕ) (h : Held) (checks : List Held) → Rises (map held_number checks)
    → held_at n checks ≡ Some h → h.asked.epoch ≡ e → AreCounted v.current (epoch_at v) checks
    → AreCounted (after_ended e v).current (epoch_at (after_ended e v)) (without_check n checks)
counted_over v e n h checks r found is a = by (ends_with_check e v) refl
  where
    rows : List Held
    rows = without_check n checks

    count : (f : ℕ) → of_epoch f checks ≡ (if f == e then suc (of_epoch f rows) else of_epoch f rows)
    count f = of_epoch_without f n h checks r found
        ∙ ap (λ z. if f == z then suc (of_epoch f rows) else of_epoch f rows) is

    here : of_epoch e checks ≡ suc (of_epoch e rows)
    here = count e ∙ if_true (e == e) (suc (of_epoch e rows)) (of_epoch e rows) (number_self e)

    there : is_some (epoch_at v e) ≡ true
    there = lives_open v e (of_epoch e rows) checks a here

    at : checks_at v e ≡ suc (of_epoch e rows)
    at = counts_open v e checks a there ∙ here

    else_ : (f : ℕ) → (f == e) ≡ false → of_epoch f checks ≡ of_epoch f rows
    else_ f x = count f ∙ if_false (f == e) (suc (of_epoch f rows)) (of_epoch f rows) x

    gone : ends_with_check e v ≡ true → AreCounted v.current (epoch_at (drop_epoch e v)) rows
    gone ends = record {
      live = λ f. ap is_some (epoch_dropped e f v) ∙ alive f (e == f) refl;
      counts = λ f x found. counted f x (e == f) refl (sym (epoch_dropped e f v) ∙ found);
      parts = λ f x found. parted f x (e == f) refl (sym (epoch_dropped e f v) ∙ found);
    }
      where
        two : ((checks_at v e == 1) ≡ true) × ((not (e == v.current)) ≡ true)
        two = both (checks_at v e == 1) (not (e == v.current)) ends

        none : of_epoch e rows ≡ 0
        none = one_less (checks_at v e) (of_epoch e rows) two.0 at

        dead : lives_with v.current rows e ≡ false
        dead = ap (λ b. b || list_any (λ (x : Held). x.asked.epoch == e) rows) (not_true (e == v.current) two.1)
            ∙ any_is e rows ∙ ap (λ k. not (k == 0)) none

        alive : (f : ℕ) (b : Bool) → (e == f) ≡ b
            → is_some (if e == f then None else epoch_at v f) ≡ lives_with v.current rows f
        alive f true x = rw x (sym (ap (lives_with v.current rows) (sym (number_is e f x)) ∙ dead))
        alive f false x = rw x (a.live f ∙ lives_same v.current f checks rows (else_ f (number_sym f e ∙ x)))

        counted : (f : ℕ) (x : EpochState) (b : Bool) → (e == f) ≡ b → (if e == f then None else epoch_at v f) ≡ Some x
            → x.checks ≡ of_epoch f rows
        counted f x true t found = absurd (none-some x (sym (if_true (e == f) None (epoch_at v f) t) ∙ found))
        counted f x false t found = a.counts f x (sym (if_false (e == f) None (epoch_at v f) t) ∙ found)
            ∙ else_ f (number_sym f e ∙ t)

        parted : (f : ℕ) (x : EpochState) (b : Bool) → (e == f) ≡ b → (if e == f then None else epoch_at v f) ≡ Some x
            → length x.parts ≡ length x.config.classes
        parted f x true t found = absurd (none-some x (sym (if_true (e == f) None (epoch_at v f) t) ∙ found))
        parted f x false t found = a.parts f x (sym (if_false (e == f) None (epoch_at v f) t) ∙ found)

    fewer : ends_with_check e v ≡ false
        → AreCounted v.current (epoch_at (record v { epochs = change_epoch e check_less v.epochs })) rows
    fewer ends = record {
      live = λ f. ap is_some (read f) ∙ same_there (f == e) check_less (epoch_at v f) ∙ a.live f
          ∙ alive f (f == e) refl;
      counts = λ f x found. let w = was_one check_less (f == e) (epoch_at v f) x (sym (read f) ∙ found) in
          ap (λ z. z.checks) w.is_it ∙ counted f w.epoch w.was (f == e) refl;
      parts = λ f x found.
          let w = was_one check_less (f == e) (epoch_at v f) x (sym (read f) ∙ found) in
          subst (λ z. length z.parts ≡ length z.config.classes) (sym w.is_it)
          (parted w.epoch (f == e) (a.parts f w.epoch w.was));
    }
      where
        read : (f : ℕ) → epoch_at (record v { epochs = change_epoch e check_less v.epochs }) f
            ≡ (if f == e then option_map check_less (epoch_at v f) else epoch_at v f)
        read f = epoch_counted e f check_less v (λ x. refl)

        stays : (c : Bool) → (e == v.current) ≡ c → lives_with v.current checks e ≡ lives_with v.current rows e
        stays true x = rw x refl
        stays false x =
            let left : (checks_at v e == 1) ≡ false = more ends (e == v.current) x in
            ap (λ b. e == v.current || b)
            (any_is e checks ∙ ap (λ k. not (k == 0)) here ∙ not_zero (of_epoch e rows)
            ∙ sym (any_is e rows ∙ more_left (checks_at v e) (of_epoch e rows) left at))
          where
            more : (checks_at v e == 1 && not (e == v.current)) ≡ false → (c : Bool) → c ≡ false
                → (checks_at v e == 1) ≡ false
            more ends c y = by_one (checks_at v e == 1) (e == v.current) ends x
              where
                by_one : (a b : Bool) → (a && not b) ≡ false → b ≡ false → a ≡ false
                by_one true true p q = absurd (cc)
                by_one true false p q = p
                by_one false b p q = refl

        alive : (f : ℕ) (b : Bool) → (f == e) ≡ b → lives_with v.current checks f ≡ lives_with v.current rows f
        alive f true x = subst (λ z. lives_with v.current checks z ≡ lives_with v.current rows z)
            (sym (number_is f e x)) (stays (e == v.current) refl)
        alive f false x = lives_same v.current f checks rows (else_ f x)

        counted : (f : ℕ) (y : EpochState) → epoch_at v f ≡ Some y → (b : Bool) → (f == e) ≡ b
            → (if f == e then check_less y else y).checks ≡ of_epoch f rows
        counted f y was true x = rw x
            (less_one y.checks (of_epoch f rows)
            (a.counts f y was ∙ count f ∙ if_true (f == e) (suc (of_epoch f rows)) (of_epoch f rows) x))
        counted f y was false x = rw x (a.counts f y was ∙ else_ f x)

        parted : (y : EpochState) (b : Bool) → length y.parts ≡ length y.config.classes
            → length (if b then check_less y else y).parts ≡ length (if b then check_less y else y).config.classes
        parted y true e = e
        parted y false e = e

    by : (b : Bool) → ends_with_check e v ≡ b → AreCounted (after_ended e v).current (epoch_at (after_ended e v)) rows
    by true x = subst (λ w. AreCounted w.current (epoch_at w) rows)
        (sym (if_true (ends_with_check e v) (drop_epoch e v) (record v { epochs = change_epoch e check_less v.epochs })
        x)) (gone x)
    by false x = subst (λ w. AreCounted w.current (epoch_at w) rows)
        (sym (if_false (ends_with_check e v) (drop_epoch e v) (record v { epochs = change_epoch e check_less v.epochs })
        x)) (fewer x)

-- the epochs after a check of a live epoch began
pub counted_began : (v : EpochsState) (e : ℕ) (h : Held) (checks : List Held) → h.asked.epoch ≡ e
    → is_some (epoch_at v e) ≡ true → AreCounted v.current (epoch_at v) checks
    → AreCounted (after_began e v).current (epoch_at (after_began e v)) (checks ++ h ∷ [])
counted_began v e h checks is there a = record {
  live = λ f. ap is_some (read f) ∙ same_there (f == e) check_more (epoch_at v f) ∙ alive f (f == e) refl;
  counts = λ f x found. let w = was_one check_more (f == e) (epoch_at v f) x (sym (read f) ∙ found) in
      ap (λ z. z.checks) w.is_it ∙ counted f w.epoch w.was (f == e) refl;
  parts = λ f x found.
      let w = was_one check_more (f == e) (epoch_at v f) x (sym (read f) ∙ found) in
      subst (λ z. length z.parts ≡ length z.config.classes) (sym w.is_it)
      (parted w.epoch (f == e) (a.parts f w.epoch w.was));
}
  where
    read : (f : ℕ) → epoch_at (after_began e v) f
        ≡ (if f == e then option_map check_more (epoch_at v f) else epoch_at v f)
    read f = epoch_counted e f check_more v (λ x. refl)

    count : (f : ℕ) → of_epoch f (checks ++ h ∷ []) ≡ (if f == e then suc (of_epoch f checks) else of_epoch f checks)
    count f = of_epoch_more f checks h ∙ ap (λ z. if f == z then suc (of_epoch f checks) else of_epoch f checks) is

    alive : (f : ℕ) (b : Bool) → (f == e) ≡ b → is_some (epoch_at v f) ≡ lives_with v.current (checks ++ h ∷ []) f
    alive f true x =
        ap (λ z. is_some (epoch_at v z)) (number_is f e x) ∙ there
        ∙ sym (or_true (f == v.current) (list_any (λ (z : Held). z.asked.epoch == f) (checks ++ h ∷ []))
        (any_is f (checks ++ h ∷ [])
        ∙ ap (λ k. not (k == 0)) (count f ∙ if_true (f == e) (suc (of_epoch f checks)) (of_epoch f checks) x)
        ∙ not_zero (of_epoch f checks)))
    alive f false x = a.live f
        ∙ lives_same v.current f checks (checks ++ h ∷ [])
        (sym (count f ∙ if_false (f == e) (suc (of_epoch f checks)) (of_epoch f checks) x))

    counted : (f : ℕ) (y : EpochState) → epoch_at v f ≡ Some y → (b : Bool) → (f == e) ≡ b
        → (if f == e then check_more y else y).checks ≡ of_epoch f (checks ++ h ∷ [])
    counted f y was true x = rw x
        (ap suc (a.counts f y was) ∙ sym (count f ∙ if_true (f == e) (suc (of_epoch f checks)) (of_epoch f checks) x))
    counted f y was false x = rw x
        (a.counts f y was ∙ sym (count f ∙ if_false (f == e) (suc (of_epoch f checks)) (of_epoch f checks) x))

    parted : (y : EpochState) (b : Bool) → length y.parts ≡ length y.config.classes
        → length (if b then check_more y else y).parts ≡ length (if b then check_more y else y).config.classes
    parted y true e = e
    parted y false e = e

-- an epoch of which one of these checks is open counts it
pub counts_some : (v : EpochsState) (e n : ℕ) (h : Held) (checks : List Held) → Rises (map held_number checks)
    → held_at n checks ≡ Some h → h.asked.epoch ≡ e → AreCounted v.current (epoch_at v) checks → 0 < checks_at v e
counts_some v e n h checks r found is a =
    let here : of_epoch e checks ≡ suc (of_epoch e (without_check n checks)) =
    of_epoch_without e n h checks r found
    ∙ ap (λ z. if e == z then suc (of_epoch e (without_check n checks)) else of_epoch e (without_check n checks)) is
    ∙ if_true (e == e) (suc (of_epoch e (without_check n checks))) (of_epoch e (without_check n checks))
    (number_self e) in
    let at : checks_at v e ≡ suc (of_epoch e (without_check n checks)) =
    counts_open v e checks a (lives_open v e (of_epoch e (without_check n checks)) checks a here) ∙ here in
    omega (arith, at)
