-- Laws of which processes live in which class.
use Rattle.std.proofs.Common.{◌≡◌, ℕ, zero, suc, ◌-◌, List, [], ◌∷◌, ◌++◌, set, Bool, true, false, ◌&&◌, ◌||◌, if◌then◌else◌, nat_lt, ◌==◌, refl, sym, arith, ap, ◌∙◌, Some, None, is_some, get_or, Ok, Err, IfOk, OnOk, OnErr}
use Rattle.std.specs.Prelude.{IfNone, IfSome}
use Rattle.std.specs.Option.{option_map, option_or}
use Rattle.std.specs.declared.option.Option.{Option}
use Rattle.std.specs.declared.result.Result.{Result}
use Rattle.std.specs.List.{slice_get}
use Rattle.sq_base.specs.declared.helpers.What.{What}
use Rattle.sq_channel.proofs.RisingLaws.{if_false, if_true}
use Rattle.sq_machine.specs.Channels.{settled}
use Rattle.sq_rules.specs.Classes.{Class}
use Rattle.sq_machine.specs.DueActs.{ClassId}
use Rattle.sq_machine.specs.Farms.{Stock, Waiting, after_send, after_send_by, after_start, emptied, failed, fresh, is_last_start, start_due}
use Rattle.sq_machine.specs.Living.{Living, asked_row, find_proc, has_free, lives, sent, settled_in, some_free, with_proc, without}
use Rattle.sq_machine.specs.Marks.{Put}
use Rattle.sq_machine.specs.StepRule.{StepSays}
use Rattle.sq_model.specs.ClassRows.{ClassRow, after_reply, with_took}
use Rattle.sq_model.specs.StepRows.{after_says, says_of_row, with_put}
use Rattle.sq_model.specs.declared.stepping.StepEffect.{StepEffect}
use Rattle.sq_class.specs.Losing.{IsHandedOut}
use Rattle.sq_class.specs.Parts.{IsAsBefore, PartState}
use Rattle.sq_class.specs.declared.faults.ResolveFault.{ResolveFault}
use Rattle.sq_class.specs.declared.lost.Lost.{Lost}
use Rattle.sq_epochs.specs.EpochChanges.{IsResolved}
use Rattle.sq_epochs.specs.EpochProcs.{AreHomed, HasStarted, SameLiving, is_place, lives_in}
use Rattle.sq_epochs.specs.EpochStates.{EpochState, EpochsState, change_epoch, epoch_in, home_at, part_at, part_limit, part_of, with_part}
use Rattle.sq_epochs.specs.HomeStates.{home_in, without_home}
use Rattle.sq_epochs.proofs.HomeLaws.{home_push, home_without}

equal : (a b : ℕ) → (a == b) ≡ true → a ≡ b
equal a b e = grind (arith, e)

-- who lives after each change of the processes of a class
pub lives_with : (k : ℕ) (p : Living) (rows : List Living)
    → lives k (with_proc p rows) ≡ (k == p.number || lives k rows)
lives_with k p [] = by_test (k == p.number)
  where
    by_test : (b : Bool) → is_some (if b then Some p.process else None) ≡ (b || false)
    by_test true = refl
    by_test false = refl
lives_with k p (r ∷ rows) = by_test (nat_lt r.number p.number) (k == r.number) (lives_with k p rows)
  where
    by_number : (d e : Bool) → lives k (with_proc p rows) ≡ (e || lives k rows)
        → is_some (if d then Some r.process else find_proc k (with_proc p rows))
        ≡ (e || is_some (if d then Some r.process else find_proc k rows))
    by_number true true more = refl
    by_number true false more = refl
    by_number false e more = more

    in_front : (d e : Bool)
        → is_some (if e then Some p.process else (if d then Some r.process else find_proc k rows))
        ≡ (e || is_some (if d then Some r.process else find_proc k rows))
    in_front d true = refl
    in_front d false = refl

    by_test : (b d : Bool) → lives k (with_proc p rows) ≡ (k == p.number || lives k rows)
        → is_some (find_proc k (if b then r ∷ with_proc p rows else p ∷ r ∷ rows))
        ≡ (k == p.number || is_some (if k == r.number then Some r.process else find_proc k rows))
    by_test true d more = by_number (k == r.number) (k == p.number) more
    by_test false d more = in_front (k == r.number) (k == p.number)

pub lives_without : (j k : ℕ) (rows : List Living) → lives j (without k rows) ≡ (if k == j then false else lives j rows)
lives_without j k [] = both (k == j)
  where
    both : (b : Bool) → false ≡ (if b then false else false)
    both true = refl
    both false = refl
lives_without j k (r ∷ rows) = by_test (k == r.number) refl (j == r.number) refl (lives_without j k rows)
  where
    same : (a b : ℕ) → a ≡ b → (a == b) ≡ true
    same a b e = grind (arith, e)

    by_test : (b : Bool) → (k == r.number) ≡ b → (d : Bool) → (j == r.number) ≡ d
        → lives j (without k rows) ≡ (if k == j then false else lives j rows)
        → lives j (if b then without k rows else r ∷ without k rows)
        ≡ (if k == j then false else is_some (if d then Some r.process else find_proc j rows))
    by_test true t true s more =
        let one : (k == j) ≡ true = same k j (equal k r.number t ∙ sym (equal j r.number s)) in
        more ∙ if_true (k == j) false (lives j rows) one ∙ sym (if_true (k == j) false true one)
    by_test true t false s more = more
    by_test false t true s more =
        let other : (k == j) ≡ false = ap (λ n. k == n) (equal j r.number s) ∙ t in
        ap is_some (if_true (j == r.number) (Some r.process) (find_proc j (without k rows)) s)
        ∙ sym (if_false (k == j) false true other)
    by_test false t false s more = ap is_some
        (if_false (j == r.number) (Some r.process) (find_proc j (without k rows)) s) ∙ more

pub lives_settled : (j k q : ℕ) (rows : List Living) → lives j (settled_in k q rows) ≡ lives j rows
lives_settled j k q [] = refl
lives_settled j k q (r ∷ rows) = by_settled (k == r.number) (lives_settled j k q rows)
  where
    by_number : (d : Bool) (x : Living) → lives j (settled_in k q rows) ≡ lives j rows
        → is_some (if d then Some x.process else find_proc j (settled_in k q rows))
        ≡ is_some (if d then Some r.process else find_proc j rows)
    by_number true x more = refl
    by_number false x more = more

    freed : Living
    freed = record r { process = record r.process { slots = settled q r.process.slots } }

    by_settled : (b : Bool) → lives j (settled_in k q rows) ≡ lives j rows
        → lives j ((if b then freed else r) ∷ settled_in k q rows) ≡ lives j (r ∷ rows)
    by_settled true more = by_number (j == r.number) freed more
    by_settled false more = by_number (j == r.number) r more

pub lives_sent : (j q : ℕ) (rows : List Living) → lives j (sent q rows) ≡ lives j rows
lives_sent j q [] = refl
lives_sent j q (r ∷ rows) = by_test (has_free r) (j == r.number) (lives_sent j q rows)
  where
    by_number : (d : Bool) → lives j (sent q rows) ≡ lives j rows
        → is_some (if d then Some r.process else find_proc j (sent q rows))
        ≡ is_some (if d then Some r.process else find_proc j rows)
    by_number true more = refl
    by_number false more = more

    asked : (d : Bool) → is_some (if d then Some (asked_row q r).process else find_proc j rows)
        ≡ is_some (if d then Some r.process else find_proc j rows)
    asked true = refl
    asked false = refl

    by_test : (b d : Bool) → lives j (sent q rows) ≡ lives j rows
        → lives j (if b then asked_row q r ∷ rows else r ∷ sent q rows)
        ≡ is_some (if j == r.number then Some r.process else find_proc j rows)
    by_test true d more = asked (j == r.number)
    by_test false d more = by_number (j == r.number) more

pub lives_after_send : (j : ℕ) (v : Stock) → lives j (after_send v).procs ≡ lives j v.procs
lives_after_send j v = by_queue v.queue (some_free v.procs)
  where
    by_queue : (queue : List Waiting) (b : Bool) → lives j (after_send_by v queue b).procs ≡ lives j v.procs
    by_queue [] b = refl
    by_queue (w ∷ queue) true = lives_sent j w.question v.procs
    by_queue (w ∷ queue) false = refl

pub procs_after_start : (v : Stock) → (after_start v).procs ≡ v.procs
procs_after_start v = by_test (start_due v)
  where
    by_test : (b : Bool) → (if b then record v { owed = v.owed - 1; starting = suc v.starting } else v).procs ≡ v.procs
    by_test true = refl
    by_test false = refl

pub procs_failed : (v : Stock) → (failed v).procs ≡ v.procs
procs_failed v = by_test (is_last_start v)
  where
    by_test : (b : Bool) → (emptied b v).procs ≡ v.procs
    by_test true = refl
    by_test false = refl

pub procs_says : (c count : ℕ) (s : StepSays) (r : ClassRow) → (after_says c count s r).stock.procs ≡ r.stock.procs
procs_says c count s r = by_put s.put
  where
    by_put : (p : Option Put) → (with_put count p (with_took c s.took r)).stock.procs ≡ r.stock.procs
    by_put None = refl
    by_put (Some p) = refl

-- a part that is put in the place of one of which the same processes live
pub same_living : (x : EpochState) (c : ℕ) (p q : PartState) → p ≡ get_or x.parts c p
    → ((k : ℕ) → lives k q.row.stock.procs ≡ lives k p.row.stock.procs) → SameLiving x (with_part c q x)
same_living x c p q is same = λ d k. here x.parts c d k is
  where
    here : (ps : List PartState) (c d k : ℕ) → p ≡ get_or ps c p
        → lives_in k (slice_get (set ps c q) d) ≡ lives_in k (slice_get ps d)
    here [] c d k is = refl
    here (y ∷ ps) zero zero k is = same k ∙ ap (λ z. lives k z.row.stock.procs) is
    here (y ∷ ps) zero (suc d) k is = refl
    here (y ∷ ps) (suc c) zero k is = refl
    here (y ∷ ps) (suc c) (suc d) k is = here ps c d k is

-- an epoch that is put in the place of one with its number, of which the same processes live
pub lives_set : (xs : List EpochState) (i : ℕ) (x y : EpochState) → x ≡ get_or xs i x → y.epoch ≡ x.epoch
    → SameLiving x y
    → (e c k : ℕ) → lives_in k (part_of c (epoch_in e (set xs i y))) ≡ lives_in k (part_of c (epoch_in e xs))
lives_set [] i x y is number same e c k = refl
lives_set (z ∷ zs) zero x y is number same e c k =
    ap (λ n. lives_in k (part_of c (if e == n then Some y else epoch_in e zs))) (number ∙ ap (λ u. u.epoch) is)
    ∙ by_test (e == z.epoch)
  where
    by_test : (b : Bool) → lives_in k (part_of c (if b then Some y else epoch_in e zs))
        ≡ lives_in k (part_of c (if b then Some z else epoch_in e zs))
    by_test true = same c k ∙ ap (λ u. lives_in k (slice_get u.parts c)) is
    by_test false = refl
lives_set (z ∷ zs) (suc i) x y is number same e c k = by_test (e == z.epoch) (lives_set zs i x y is number same e c k)
  where
    by_test : (b : Bool) → lives_in k (part_of c (epoch_in e (set zs i y))) ≡ lives_in k (part_of c (epoch_in e zs))
        → lives_in k (part_of c (if b then Some z else epoch_in e (set zs i y)))
        ≡ lives_in k (part_of c (if b then Some z else epoch_in e zs))
    by_test true more = refl
    by_test false more = more

pub still_homed : (v : EpochsState) (i : ℕ) (x y : EpochState) → AreHomed v → x ≡ get_or v.epochs i x
    → y.epoch ≡ x.epoch → SameLiving x y → AreHomed (record v { epochs = set v.epochs i y })
still_homed v i x y are is number same = λ e c k. lives_set v.epochs i x y is number same e c k ∙ are e c k

-- a start keeps the limit
pub start_limit : {A B : Type 0} (r : Result A B) (k : ℕ) (p q : PartState) → OnOk r (HasStarted k p q)
    → OnErr r (q ≡ p) → q.limit ≡ p.limit
start_limit (Ok s) k p q ok err = ap part_limit ok
start_limit (Err e) k p q ok err = ap part_limit err

-- what is told of a class that changed, for each place
pub in_changed : (e : ℕ) (f : EpochState → EpochState) → ((x : EpochState) → (f x).epoch ≡ x.epoch)
    → (xs : List EpochState) (d : ℕ)
    → epoch_in d (change_epoch e f xs) ≡ (if e == d then option_map f (epoch_in d xs) else epoch_in d xs)
in_changed e f same [] d = both (e == d)
  where
    both : (b : Bool) → ◌≡◌ {A = Option EpochState} None (if b then None else None)
    both true = refl
    both false = refl
in_changed e f same (x ∷ xs) d = by_test (e == x.epoch) refl (d == x.epoch) refl (in_changed e f same xs d)
  where
    Goal : Bool → Bool → Type 0
    Goal b s = epoch_in d (if b then f x ∷ xs else x ∷ change_epoch e f xs)
        ≡ (if e == d then option_map f (if s then Some x else epoch_in d xs) else (if s then Some x else epoch_in d xs))

    one : (e == x.epoch) ≡ true → (d == x.epoch) ≡ true → (e == d) ≡ true
    one t s = ap (λ n. e == n) (equal d x.epoch s) ∙ t

    other : (e == x.epoch) ≡ true → (d == x.epoch) ≡ false → (e == d) ≡ false
    other t s = ap (λ n. n == d) (equal e x.epoch t) ∙ turned x.epoch d ∙ s
      where
        turned : (a b : ℕ) → (a == b) ≡ (b == a)
        turned a b = grind arith

    by_test : (b : Bool) → (e == x.epoch) ≡ b → (s : Bool) → (d == x.epoch) ≡ s
        → epoch_in d (change_epoch e f xs) ≡ (if e == d then option_map f (epoch_in d xs) else epoch_in d xs) → Goal b s
    by_test true t true s more =
        if_true (d == (f x).epoch) (Some (f x)) (epoch_in d xs) (ap (λ n. d == n) (same x) ∙ s)
        ∙ sym (if_true (e == d) (Some (f x)) (Some x) (one t s))
    by_test true t false s more =
        if_false (d == (f x).epoch) (Some (f x)) (epoch_in d xs) (ap (λ n. d == n) (same x) ∙ s)
        ∙ sym (if_false (e == d) (option_map f (epoch_in d xs)) (epoch_in d xs) (other t s))
    by_test false t true s more =
        if_true (d == x.epoch) (Some x) (epoch_in d (change_epoch e f xs)) s
        ∙ sym (if_false (e == d) (Some (f x)) (Some x) (ap (λ n. e == n) (equal d x.epoch s) ∙ t))
    by_test false t false s more = if_false (d == x.epoch) (Some x) (epoch_in d (change_epoch e f xs)) s ∙ more

-- a part that was put at a place, and those at other places
pub slice_set_at : {A : Type 0} (xs : List A) (c d : ℕ) (x y : A) → slice_get xs c ≡ Some x
    → slice_get (set xs c y) d ≡ (if c == d then Some y else slice_get xs d)
slice_set_at [] c d x y is = absurd cc
slice_set_at (z ∷ zs) zero zero x y is = refl
slice_set_at (z ∷ zs) zero (suc d) x y is = sym (if_false (0 == suc d) (Some y) (slice_get zs d) (later d))
  where
    later : (a : ℕ) → (0 == suc a) ≡ false
    later a = grind arith
slice_set_at (z ∷ zs) (suc c) zero x y is = sym (if_false (suc c == 0) (Some y) (Some z) (later c))
  where
    later : (a : ℕ) → (suc a == 0) ≡ false
    later a = grind arith
slice_set_at (z ∷ zs) (suc c) (suc d) x y is = slice_set_at zs c d x y is
    ∙ ap (λ b. if b then Some y else slice_get zs d) (sym (shifted c d))
  where
    shifted : (a b : ℕ) → (suc a == suc b) ≡ (a == b)
    shifted a b = grind arith

-- the part at each place, where one class was changed
pub part_changed : (e c : ℕ) (v : EpochsState) (p q : PartState) → part_at v e c ≡ Some p
    → (d b : ℕ) → part_of b (epoch_in d (change_epoch e (with_part c q) v.epochs))
    ≡ (if e == d && c == b then Some q else part_at v d b)
part_changed e c v p q is d b =
    ap (part_of b) (in_changed e (with_part c q) (λ x. refl) v.epochs d) ∙ by_epoch (e == d) refl
  where
    inside : (o : Option EpochState) → part_of c o ≡ Some p
        → part_of b (option_map (with_part c q) o) ≡ (if c == b then Some q else part_of b o)
    inside None is = absurd cc
    inside (Some x) is = slice_set_at x.parts c b p q is

    by_epoch : (t : Bool) → (e == d) ≡ t
        → part_of b (if t then option_map (with_part c q) (epoch_in d v.epochs) else epoch_in d v.epochs)
        ≡ (if t && c == b then Some q else part_at v d b)
    by_epoch true t = inside (epoch_in d v.epochs) (ap (λ n. part_at v n c) (sym (equal e d t)) ∙ is)
    by_epoch false t = refl

-- who lives at each place, where the processes of one class were changed
pub lives_changed : (e c k : ℕ) (v : EpochsState) (p q : PartState) → part_at v e c ≡ Some p
    → (d b : ℕ) → lives_in k (part_of b (epoch_in d (change_epoch e (with_part c q) v.epochs)))
    ≡ (if e == d && c == b then lives k q.row.stock.procs else lives_in k (part_at v d b))
lives_changed e c k v p q is d b = ap (lives_in k) (part_changed e c v p q is d b) ∙ by_test (e == d && c == b)
  where
    by_test : (t : Bool) → lives_in k (if t then Some q else part_at v d b)
        ≡ (if t then lives k q.row.stock.procs else lives_in k (part_at v d b))
    by_test true = refl
    by_test false = refl

-- a class that is that of a place
same_place : (e c d b : ℕ) → (e == d && c == b) ≡ true → (e ≡ d) × (c ≡ b)
same_place e c d b t = by_test (e == d) refl t
  where
    by_test : (s : Bool) → (e == d) ≡ s → (s && c == b) ≡ true → (e ≡ d) × (c ≡ b)
    by_test true s t = (equal e d s, equal c b t)
    by_test false s t = absurd cc

-- homes and processes agree still, where one process more lives in a class
pub homed_more : (v w : EpochsState) (g e c : ℕ) (p q : PartState) → AreHomed v → is_some (home_at v g) ≡ false
    → part_at v e c ≡ Some p
    → w.epochs ≡ change_epoch e (with_part c q) v.epochs
    → w.homes ≡ v.homes ++ record { proc = g; place = record { epoch = e; class = c } } ∷ []
    → ((k : ℕ) → lives k q.row.stock.procs ≡ (k == g || lives k p.row.stock.procs)) → AreHomed w
homed_more v w g e c p q are fresh at epochs homes more = λ d b k.
    ap (λ z. lives_in k (part_of b (epoch_in d z))) epochs ∙ lives_changed e c k v p q at d b
    ∙ by_number d b k (k == g) refl
    ∙ sym (ap (λ z. is_place d b (home_in k z)) homes
    ∙ ap (is_place d b) (home_push k (record { proc = g; place = record { epoch = e; class = c } }) v.homes))
  where
    was : (d b k : ℕ) → (e == d && c == b) ≡ true → lives k p.row.stock.procs ≡ is_place d b (home_at v k)
    was d b k t = let s = same_place e c d b t in
        ap (lives_in k) (sym at) ∙ ap (λ n. lives_in k (part_at v n c)) s.0 ∙ ap (λ n. lives_in k (part_at v d n)) s.1
        ∙ are d b k

    by_place : (d b k : ℕ) (t : Bool) → (e == d && c == b) ≡ t
        → (if t then lives k p.row.stock.procs else lives_in k (part_at v d b)) ≡ is_place d b (home_at v k)
    by_place d b k true t = was d b k t
    by_place d b k false t = are d b k

    none : (d b k : ℕ) (o : Option ClassId) → is_some o ≡ false → lives_in k (part_at v d b) ≡ is_place d b o
        → (t : Bool) → (e == d && c == b) ≡ t
        → (if t then true else lives_in k (part_at v d b))
        ≡ is_place d b (option_or o (Some (record { epoch = e; class = c })))
    none d b k None is nobody true t = sym t
    none d b k None is nobody false t = nobody ∙ sym t
    none d b k (Some x) is nobody s t = absurd cc

    or_none : (o : Option ClassId) → option_or o None ≡ o
    or_none None = refl
    or_none (Some x) = refl

    by_number : (d b k : ℕ) (n : Bool) → (k == g) ≡ n
        → (if e == d && c == b then lives k q.row.stock.procs else lives_in k (part_at v d b))
        ≡ is_place d b (option_or (home_at v k) (if n then Some (record { epoch = e; class = c }) else None))
    by_number d b k true n =
        ap (λ z. if e == d && c == b then z else lives_in k (part_at v d b))
        (more k ∙ ap (λ z. z || lives k p.row.stock.procs) n)
        ∙ none d b k (home_at v k) (ap (λ j. is_some (home_at v j)) (equal k g n) ∙ fresh) (are d b k)
        (e == d && c == b) refl
    by_number d b k false n =
        ap (λ z. if e == d && c == b then z else lives_in k (part_at v d b))
        (more k ∙ ap (λ z. z || lives k p.row.stock.procs) n)
        ∙ by_place d b k (e == d && c == b) refl ∙ ap (is_place d b) (sym (or_none (home_at v k)))

-- homes and processes agree still, where one process less lives in its class
pub homed_less : (v w : EpochsState) (g e c : ℕ) (p q : PartState) → AreHomed v
    → home_at v g ≡ Some (record { epoch = e; class = c }) → part_at v e c ≡ Some p
    → w.epochs ≡ change_epoch e (with_part c q) v.epochs → w.homes ≡ without_home g v.homes
    → ((k : ℕ) → lives k q.row.stock.procs ≡ (if g == k then false else lives k p.row.stock.procs)) → AreHomed w
homed_less v w g e c p q are there at epochs homes less = λ d b k.
    ap (λ z. lives_in k (part_of b (epoch_in d z))) epochs ∙ lives_changed e c k v p q at d b
    ∙ by_number d b k (g == k) refl
    ∙ sym (ap (λ z. is_place d b (home_in k z)) homes ∙ ap (is_place d b) (home_without k g v.homes))
  where
    was : (d b k : ℕ) → (e == d && c == b) ≡ true → lives k p.row.stock.procs ≡ is_place d b (home_at v k)
    was d b k t = let s = same_place e c d b t in
        ap (lives_in k) (sym at) ∙ ap (λ n. lives_in k (part_at v n c)) s.0 ∙ ap (λ n. lives_in k (part_at v d n)) s.1
        ∙ are d b k

    by_place : (d b k : ℕ) (t : Bool) → (e == d && c == b) ≡ t
        → (if t then lives k p.row.stock.procs else lives_in k (part_at v d b)) ≡ is_place d b (home_at v k)
    by_place d b k true t = was d b k t
    by_place d b k false t = are d b k

    gone : (d b k : ℕ) → home_at v k ≡ Some (record { epoch = e; class = c }) → (t : Bool) → (e == d && c == b) ≡ t
        → (if t then false else lives_in k (part_at v d b)) ≡ false
    gone d b k is true t = refl
    gone d b k is false t = are d b k ∙ ap (is_place d b) is ∙ t

    by_number : (d b k : ℕ) (n : Bool) → (g == k) ≡ n
        → (if e == d && c == b then lives k q.row.stock.procs else lives_in k (part_at v d b))
        ≡ is_place d b (if n then None else home_at v k)
    by_number d b k true n =
        ap (λ z. if e == d && c == b then z else lives_in k (part_at v d b))
        (less k ∙ ap (λ z. if z then false else lives k p.row.stock.procs) n)
        ∙ gone d b k (ap (home_at v) (sym (equal g k n)) ∙ there) (e == d && c == b) refl
    by_number d b k false n =
        ap (λ z. if e == d && c == b then z else lives_in k (part_at v d b))
        (less k ∙ ap (λ z. if z then false else lives k p.row.stock.procs) n)
        ∙ by_place d b k (e == d && c == b) refl

-- the same processes live after each call that ends and starts none
pub living_step : (r : Result StepEffect ResolveFault) (class : Class) (place : ℕ) (key : List ℕ) (now check count : ℕ)
    (p q : PartState)
    → IfOk r (λ s. IsResolved class place key (record { now = now; check = check; count = count }) s p q)
    → OnErr r (IsAsBefore p q) → (k : ℕ)
    → lives k q.row.stock.procs ≡ lives k p.row.stock.procs
living_step (Ok s) class place key now check count p q ok err = λ k.
    ap (λ x. lives k x.stock.procs) (ok 0).row_is
    ∙ ap (lives k) (procs_says place count (says_of_row class 0 place key now count p.row) p.row)
living_step (Err e) class place key now check count p q ok err = λ k. ap (λ x. lives k x.stock.procs) err.row_is

pub living_reply : {A B : Type 0} (r : Result A B) (class : Class) (j q : ℕ) (key : List ℕ) (what : What) (date : ℕ)
    (p p' : PartState)
    → OnOk r (p'.row ≡ after_reply class j q key what date p.row) → OnErr r (p' ≡ p) → (k : ℕ)
    → lives k p'.row.stock.procs ≡ lives k p.row.stock.procs
living_reply (Ok s) class j q key what date p p' ok err = λ k. ap (λ x. lives k x.stock.procs) ok
    ∙ lives_settled k j q p.row.stock.procs
living_reply (Err e) class j q key what date p p' ok err = λ k. ap (λ x. lives k x.row.stock.procs) err

pub living_lost : (o : Option Lost) (p q : PartState) → IfSome o (λ l. IsHandedOut l p q) → IfNone o (q ≡ p) → (k : ℕ)
    → lives k q.row.stock.procs ≡ lives k p.row.stock.procs
living_lost (Some l) p q some none = λ k. ap (λ x. lives k x.stock.procs) some.row_is
living_lost None p q some none = λ k. ap (λ x. lives k x.row.stock.procs) none

pub living_failed : {A B : Type 0} (r : Result A B) (p q : PartState)
    → OnOk r (q ≡ record p { row = record p.row { stock = failed p.row.stock } }) → OnErr r (q ≡ p)
    → (k : ℕ) → lives k q.row.stock.procs ≡ lives k p.row.stock.procs
living_failed (Ok s) p q ok err = λ k. ap (λ x. lives k x.row.stock.procs) ok ∙ ap (lives k) (procs_failed p.row.stock)
living_failed (Err e) p q ok err = λ k. ap (λ x. lives k x.row.stock.procs) err
