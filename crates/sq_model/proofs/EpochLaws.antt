-- Which epochs live, after each event.
use Rattle.std.proofs.Common.{◌≡◌, ℕ, zero, suc, ◌≤◌, List, [], ◌∷◌, ◌++◌, map, map-id, filter, length, cond, Bool, true, false, not, ◌&&◌, ◌||◌, ◌==◌, if◌then◌else◌, Option, Some, None, refl, sym, ap, ap₂, ◌∙◌, arith}
use Rattle.std.specs.List.{list_any}
use Rattle.std.specs.Option.{option_map_or, unwrap_or}
use Rattle.std.proofs.lemmas.Bool.Decides.{nat_tests}
use Rattle.std.proofs.lemmas.List.Folds.{list_any-append}
use Rattle.sq_machine.specs.declared.entries.Event.TheVariants.{Ask, Close, Reconfigure, Take}
use Rattle.sq_machine.specs.declared.entries.Told.{Told}
use Rattle.sq_base.specs.declared.requests.Field.{Field}
use Rattle.sq_machine.specs.Checks.{Asked, ask_count, ask_of, check_open}
use Rattle.sq_rules.specs.Configurations.{Configuration}
use Rattle.sq_machine.specs.Entries.{History}
use Rattle.sq_machine.specs.Epochs.{busy_epochs, has_open_check, is_check_of, is_live, live_epochs}
use Rattle.sq_machine.specs.Events.{begins_epoch}
use Rattle.sq_machine.specs.Marks.{Marked, Past, entries}
use Rattle.sq_machine.specs.Numbered.{picks}
use Rattle.sq_machine.specs.Readings.{current, epoch_after}
use Rattle.sq_machine.proofs.CheckLaws.{IsAsked, open_asked}
use Rattle.sq_model.specs.CheckRows.{Held, held_checks, held_of, unasked}
use Rattle.sq_model.specs.MarkedEntries.{noted_at}
use Rattle.sq_model.proofs.CheckLaws.{held_asked, held_closed, held_taken}
use Rattle.sq_model.proofs.ClassParts.{itself}
use Rattle.sq_model.proofs.RowLaws.{picks_same, rows_left}

-- some of these checks is of the epoch
abbrev pub some_of_epoch : ℕ → List Held → Bool
some_of_epoch e checks = list_any (λ (h : Held). h.asked.epoch == e) checks

any_mapped : {A : Type 0} (test : A → Bool) (f : ℕ → A) (xs : List ℕ)
    → list_any test (map f xs) ≡ list_any (λ (k : ℕ). test (f k)) xs
any_mapped test f [] = refl
any_mapped test f (x ∷ xs) = ap (λ (b : Bool). test (f x) || b) (any_mapped test f xs)

any_if : (test : ℕ → Bool) (b : Bool) (xs : List ℕ) (n : ℕ)
    → list_any test (if b then xs ++ n ∷ [] else xs) ≡ (list_any test xs || (b && test n))
any_if test true xs n = list_any-append test xs (n ∷ []) ∙ ap (λ (b : Bool). list_any test xs || b) (or_false (test n))
  where
    or_false : (b : Bool) → (b || false) ≡ b
    or_false true = refl
    or_false false = refl
any_if test false xs n = sym (or_false (list_any test xs))
  where
    or_false : (b : Bool) → (b || false) ≡ b
    or_false true = refl
    or_false false = refl

-- tests that agree on the picked numbers
pub any_same : (test other : ℕ → Bool) (p : ℕ → Bool) (n : ℕ)
    → ((k : ℕ) → 1 ≤ k → k ≤ n → p k ≡ true → test k ≡ other k) → list_any test (picks p n) ≡ list_any other (picks p n)
any_same test other p zero e = refl
any_same test other p (suc n) e =
    any_if test (p (suc n)) (picks p n) (suc n)
    ∙ ap₂ (λ (a b : Bool). a || b) (any_same test other p n (λ k low high. e k low (omega arith)))
    (by (p (suc n)) (e (suc n) (omega arith) (omega arith)))
    ∙ sym (any_if other (p (suc n)) (picks p n) (suc n))
  where
    by : (b : Bool) → (b ≡ true → test (suc n) ≡ other (suc n)) → (b && test (suc n)) ≡ (b && other (suc n))
    by true f = f refl
    by false f = refl

-- whether an epoch has an open check, by the open checks
pub open_by_rows : (configs : List Configuration) (m : Past) (e : ℕ)
    → has_open_check (entries m) e ≡ some_of_epoch e (held_checks configs m)
open_by_rows configs m e =
    any_same (is_check_of (entries m) e) (λ (k : ℕ). (held_of configs m k).asked.epoch == e) (check_open (entries m))
    (ask_count (entries m)) (λ k low high opened. at k opened)
    ∙ sym (any_mapped (λ (h : Held). h.asked.epoch == e) (held_of configs m)
    (picks (check_open (entries m)) (ask_count (entries m))))
  where
    and_true : (b : Bool) → (b && true) ≡ b
    and_true true = refl
    and_true false = refl

    by : (o : Option Asked) → IsAsked o
        → (option_map_or (λ a. a.epoch == e) o false && true) ≡ ((unwrap_or o unasked).epoch == e)
    by None a = let is = a.is in absurd (cc)
    by (Some x) a = and_true (x.epoch == e)

    at : (k : ℕ) → check_open (entries m) k ≡ true
        → is_check_of (entries m) e k ≡ ((held_of configs m k).asked.epoch == e)
    at k opened =
        ap (λ (b : Bool). option_map_or (λ a. a.epoch == e) (ask_of (entries m) k) false && b) opened
        ∙ by (ask_of (entries m) k) (open_asked (entries m) k opened)

-- whether an epoch lives, by the open checks
pub live_by_rows : (configs : List Configuration) (m : Past) (e : ℕ)
    → is_live (entries m) e ≡ (e == current (entries m) || some_of_epoch e (held_checks configs m))
live_by_rows configs m e = ap (λ (b : Bool). e == current (entries m) || b) (open_by_rows configs m e)

-- an entry that leaves which checks are open, and of which epoch they are
pub open_like : (configs : List Configuration) (m : Past) (x : Marked) (e : ℕ) (checks : List Held)
    → held_checks configs (x ∷ m) ≡ checks → has_open_check (entries (x ∷ m)) e ≡ some_of_epoch e checks
open_like configs m x e checks is = open_by_rows configs (x ∷ m) e ∙ ap (some_of_epoch e) is

any_changed : (g : Held → Held) (e : ℕ) (checks : List Held) → ((h : Held) → (g h).asked ≡ h.asked)
    → some_of_epoch e (map g checks) ≡ some_of_epoch e checks
any_changed g e [] same = refl
any_changed g e (h ∷ checks) same = ap₂ (λ (a : Asked) (b : Bool). (a.epoch == e) || b) (same h)
    (any_changed g e checks same)

-- an entry after which each open check is changed, and is of its epoch still: a step, or ends of questions
pub open_changed : (configs : List Configuration) (m : Past) (x : Marked) (e : ℕ) (g : Held → Held)
    → ((h : Held) → (g h).asked ≡ h.asked) → held_checks configs (x ∷ m) ≡ map g (held_checks configs m)
    → has_open_check (entries (x ∷ m)) e ≡ has_open_check (entries m) e
open_changed configs m x e g same is = open_like configs m x e (map g (held_checks configs m)) is
    ∙ any_changed g e (held_checks configs m) same ∙ sym (open_by_rows configs m e)

any_kept : (keep : Held → Bool) (e : ℕ) (checks : List Held) → some_of_epoch e (filter keep checks) ≡ true
    → some_of_epoch e checks ≡ true
any_kept keep e [] t = t
any_kept keep e (h ∷ checks) t = by (keep h) (any_kept keep e checks) t
  where
    more_of : (d : Bool) → (some_of_epoch e (filter keep checks) ≡ true → some_of_epoch e checks ≡ true)
        → (d || some_of_epoch e (filter keep checks)) ≡ true → (d || some_of_epoch e checks) ≡ true
    more_of true more t = refl
    more_of false more t = more t

    beside : (d : Bool) → some_of_epoch e checks ≡ true → (d || some_of_epoch e checks) ≡ true
    beside true t = refl
    beside false t = t

    by : (b : Bool) → (some_of_epoch e (filter keep checks) ≡ true → some_of_epoch e checks ≡ true)
        → some_of_epoch e (cond b (h ∷ filter keep checks) (filter keep checks)) ≡ true
        → ((h.asked.epoch == e) || some_of_epoch e checks) ≡ true
    by true more t = more_of (h.asked.epoch == e) more t
    by false more t = beside (h.asked.epoch == e) (more t)

-- an entry after which some open checks are left: what has an open check had one
pub open_fewer : (configs : List Configuration) (m : Past) (x : Marked) (e : ℕ) (keep : Held → Bool)
    → held_checks configs (x ∷ m) ≡ filter keep (held_checks configs m)
    → has_open_check (entries (x ∷ m)) e ≡ true → has_open_check (entries m) e ≡ true
open_fewer configs m x e keep is t =
    open_by_rows configs m e
    ∙ any_kept keep e (held_checks configs m)
    (sym (open_like configs m x e (filter keep (held_checks configs m)) is) ∙ t)

-- no epoch lives then that did not
pub live_fewer : (configs : List Configuration) (m : Past) (x : Marked) (e : ℕ) (keep : Held → Bool)
    → begins_epoch x.entry.event ≡ false
    → held_checks configs (x ∷ m) ≡ filter keep (held_checks configs m) → is_live (entries (x ∷ m)) e ≡ true
    → is_live (entries m) e ≡ true
live_fewer configs m x e keep old is t =
    by (e == current (entries m)) (has_open_check (entries (x ∷ m)) e) (has_open_check (entries m) e)
    (open_fewer configs m x e keep is)
    (sym (ap (λ (b : Bool). e == epoch_after b (current (entries m)) || has_open_check (entries (x ∷ m)) e) old) ∙ t)
  where
    by : (a b c : Bool) → (b ≡ true → c ≡ true) → (a || b) ≡ true → (a || c) ≡ true
    by true b c f t = refl
    by false b c f t = f t

-- a test that holds of fewer numbers picks those of the others
pub picks_left : (p p' : ℕ → Bool) (n : ℕ) → ((k : ℕ) → p' k ≡ true → p k ≡ true) → picks p' n ≡ filter p' (picks p n)
picks_left p p' n fewer =
    sym (map-id (picks p' n))
    ∙ rows_left p' (λ (k : ℕ). k) (λ (k : ℕ). k) p p' n (λ k low high. both (p k) (p' k) (fewer k))
    (λ k low high t. refl)
    ∙ ap (filter p') (map-id (picks p n))
  where
    both : (a b : Bool) → (b ≡ true → a ≡ true) → b ≡ (a && b)
    both true b f = refl
    both false true f = sym (f refl)
    both false false f = refl

-- an outcome is taken: the live epochs that live still
pub live_taken : (configs : List Configuration) (m : Past) (now n : ℕ) (answer : Told)
    → live_epochs (entries (noted_at now (Take n) answer ∷ m))
    ≡ filter (is_live (entries (noted_at now (Take n) answer ∷ m))) (live_epochs (entries m))
live_taken configs m now n answer =
    picks_left (is_live (entries m)) (is_live (entries (noted_at now (Take n) answer ∷ m))) (current (entries m))
    (λ k t. live_fewer configs m (noted_at now (Take n) answer) k (λ (h : Held). not (n == h.number)) refl
    (held_taken configs m now n answer) t)

-- a connection is closed
pub live_closed : (configs : List Configuration) (m : Past) (now c : ℕ) (answer : Told)
    → live_epochs (entries (noted_at now (Close c) answer ∷ m))
    ≡ filter (is_live (entries (noted_at now (Close c) answer ∷ m))) (live_epochs (entries m))
live_closed configs m now c answer =
    picks_left (is_live (entries m)) (is_live (entries (noted_at now (Close c) answer ∷ m))) (current (entries m))
    (λ k t. live_fewer configs m (noted_at now (Close c) answer) k (λ (h : Held). not (c == h.asked.conn)) refl
    (held_closed configs m now c answer) t)

-- a check begins, of the current epoch, which lives
pub live_asked : (configs : List Configuration) (m : Past) (now c : ℕ) (method target : List ℕ) (fields : List Field)
    (answer : Told) (e : ℕ)
    → is_live (entries (noted_at now (Ask c method target fields) answer ∷ m)) e ≡ is_live (entries m) e
live_asked configs m now c method target fields answer e =
    live_by_rows configs (noted_at now (Ask c method target fields) answer ∷ m) e
    ∙ ap (λ (checks : List Held). e == current (entries m) || some_of_epoch e checks)
    (held_asked configs m now c method target fields answer)
    ∙ ap (λ (b : Bool). e == current (entries m) || b)
    (list_any-append (λ (h : Held). h.asked.epoch == e) (held_checks configs m) _)
    ∙ ap (λ (b : Bool). e == current (entries m) || (some_of_epoch e (held_checks configs m) || (b || false)))
    (turned (current (entries m)) e)
    ∙ by (e == current (entries m)) (some_of_epoch e (held_checks configs m)) ∙ sym (live_by_rows configs m e)
  where
    turned : (a b : ℕ) → (a == b) ≡ (b == a)
    turned a b = grind (arith, nat_tests)

    by : (a b : Bool) → (a || (b || (a || false))) ≡ (a || b)
    by true b = refl
    by false true = refl
    by false false = refl

-- an event that begins, ends and steps no check, and no epoch, where it ends no question: every epoch lives as it did
pub live_kept : (configs : List Configuration) (m : Past) (x : Marked) (e : ℕ) (g : Held → Held)
    → ((h : Held) → (g h).asked ≡ h.asked) → begins_epoch x.entry.event ≡ false
    → held_checks configs (x ∷ m) ≡ map g (held_checks configs m) → is_live (entries (x ∷ m)) e ≡ is_live (entries m) e
live_kept configs m x e g same old is =
    ap₂ (λ (a b : Bool). e == epoch_after a (current (entries m)) || b) old (open_changed configs m x e g same is)

-- so the live epochs are as they were
pub live_same : (h h' : History) → current h' ≡ current h → ((e : ℕ) → is_live h' e ≡ is_live h e)
    → live_epochs h' ≡ live_epochs h
live_same h h' same live = ap (picks (is_live h')) same
    ∙ picks_same (is_live h) (is_live h') (current h) (λ k low high. live k)

-- and as many have an open check
pub busy_same : (h h' : History) → current h' ≡ current h → ((e : ℕ) → has_open_check h' e ≡ has_open_check h e)
    → busy_epochs h' ≡ busy_epochs h
busy_same h h' same busy = ap (λ (n : ℕ). length (picks (has_open_check h') n)) same
    ∙ ap length (picks_same (has_open_check h) (has_open_check h') (current h) (λ k low high. busy k))

-- how many that is, by the open checks
pub busy_by_rows : (configs : List Configuration) (m : Past)
    → busy_epochs (entries m)
    ≡ length (picks (λ (e : ℕ). some_of_epoch e (held_checks configs m)) (current (entries m)))
busy_by_rows configs m =
    ap length (picks_same (λ (e : ℕ). some_of_epoch e (held_checks configs m)) (has_open_check (entries m))
    (current (entries m)) (λ k low high. open_by_rows configs m k))

-- a reconfiguration: the epochs with an open check live on, and the new one lives
pub live_reconfigured : (m : Past) (now : ℕ) (text : List ℕ) (answer : Told) (e : ℕ)
    → is_live (entries (noted_at now (Reconfigure text) answer ∷ m)) e
    ≡ (e == suc (current (entries m)) || has_open_check (entries m) e)
unfolding check_open ask_count ask_of
live_reconfigured m now text answer e = refl

-- the live epochs then, in order
pub epochs_reconfigured : (m : Past) (now : ℕ) (text : List ℕ) (answer : Told)
    → live_epochs (entries (noted_at now (Reconfigure text) answer ∷ m))
    ≡ filter (has_open_check (entries m)) (live_epochs (entries m)) ++ suc (current (entries m)) ∷ []
epochs_reconfigured m now text answer =
    ap (λ (b : Bool). if b then picks live now_current ++ suc now_current ∷ [] else picks live now_current)
    (live_reconfigured m now text answer (suc now_current)
    ∙ ap (λ (b : Bool). b || has_open_check (entries m) (suc now_current)) (itself (suc now_current)))
    ∙ ap (λ (xs : List ℕ). xs ++ suc now_current ∷ []) (picks_same (has_open_check (entries m)) live now_current
    (λ k low high. live_reconfigured m now text answer k
    ∙ ap (λ (b : Bool). b || has_open_check (entries m) k) (below k now_current high))
    ∙ picks_left (is_live (entries m)) (has_open_check (entries m)) now_current
    (λ k t. ap (λ (b : Bool). k == now_current || b) t ∙ or_true (k == now_current)))
  where
    now_current : ℕ
    now_current = current (entries m)

    live : ℕ → Bool
    live = is_live (entries (noted_at now (Reconfigure text) answer ∷ m))

    below : (k n : ℕ) → k ≤ n → (k == suc n) ≡ false
    below k n l = grind (arith, nat_tests)

    or_true : (b : Bool) → (b || true) ≡ true
    or_true true = refl
    or_true false = refl
