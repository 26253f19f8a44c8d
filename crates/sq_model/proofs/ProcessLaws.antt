-- Processes after each event: which live, and for which a stop is due.
use Rattle.std.proofs.Common.{◌≡◌, ℕ, suc, ◌≤◌, List, ◌∷◌, filter, map-id, Bool, true, false, not, ◌&&◌, ◌||◌, ◌==◌, nat_le, if◌then◌else◌, Option, Some, None, is_some, refl, sym, ap, ap₂, ◌∙◌, arith}
use Rattle.std.specs.Option.{option_map_or, option_or}
use Rattle.std.proofs.lemmas.Bool.{and_right, le-leb}
use Rattle.sq_base.proofs.CommonLaws.{eq_turned}
use Rattle.sq_base.specs.declared.helpers.Cause.{Cause}
use Rattle.sq_base.specs.declared.helpers.Cause.TheVariants as cause
use Rattle.sq_machine.specs.declared.entries.Event.TheVariants.{Started, Line, Died, Act}
use Rattle.sq_machine.specs.declared.entries.Told.{Told}
use Rattle.sq_machine.specs.declared.entries.Told.TheVariants as told
use Rattle.sq_machine.specs.Entries.{History}
use Rattle.sq_machine.specs.Epochs.{is_live}
use Rattle.sq_machine.specs.Marks.{Past, entries}
use Rattle.sq_machine.specs.Processes.{Home, cause_here, home_of, if_here, is_line_end, is_stopped, line_end, lives_on, proc_count, proc_end, stop_due}
use Rattle.sq_machine.specs.Numbered.{picks}
use Rattle.sq_model.specs.MarkedEntries.{noted_at}
use Rattle.sq_model.proofs.ClassParts.{and_true, equal, itself, not_next}
use Rattle.sq_model.proofs.NumberLaws.{proc_end_above}
use Rattle.sq_model.proofs.RowLaws.{rows_left}

-- whether a process lives, by its home, its end and the epochs that live
abbrev pub lives_by : Option Home → Option Cause → (ℕ → Bool) → Bool
lives_by o d live = (is_some o && not (is_some d)) && option_map_or (λ p. live p.epoch) o false

-- whether a stop is due, by these and whether it was told
abbrev pub due_by : Option Home → Bool → Option Cause → (ℕ → Bool) → Bool
due_by o stopped d live = is_some o && not stopped
    && (is_line_end d || ((is_some o && not (is_some d)) && not (option_map_or (λ p. live p.epoch) o true)))

-- these are the readings
pub lives_is : (h : History) (k : ℕ) → lives_on h k ≡ lives_by (home_of h k) (proc_end h k) (is_live h)
lives_is h k = refl

-- and of due stops
pub due_is : (h : History) (k : ℕ) → stop_due h k ≡ due_by (home_of h k) (is_stopped h k) (proc_end h k) (is_live h)
due_is h k = refl

-- they see of the epochs only the process's own
pub lives_like : (o : Option Home) (d : Option Cause) (live other : ℕ → Bool) → ((e : ℕ) → live e ≡ other e)
    → lives_by o d live ≡ lives_by o d other
lives_like None d live other e = refl
lives_like (Some p) d live other e = ap (λ (b : Bool). (true && not (is_some d)) && b) (e p.epoch)

-- and so do due stops
pub due_like : (o : Option Home) (stopped : Bool) (d : Option Cause) (live other : ℕ → Bool)
    → ((e : ℕ) → live e ≡ other e) → due_by o stopped d live ≡ due_by o stopped d other
due_like None stopped d live other e = refl
due_like (Some p) stopped d live other e = ap (λ (b : Bool). true && not stopped
    && (is_line_end d || ((true && not (is_some d)) && not b))) (e p.epoch)

-- a process that is started is of its epoch and class, and the others are what they were
pub home_new : (m : Past) (now f : ℕ) (name : List ℕ) (answer : Told)
    → home_of (entries (noted_at now (Started f name) answer ∷ m)) (suc (proc_count (entries m)))
    ≡ Some (record { epoch = f; class = name })
home_new m now f name answer =
    ap (λ (b : Bool). option_or (if b then Some (record { epoch = f; class = name }) else None)
    (home_of (entries m) (suc (proc_count (entries m))))) (itself (suc (proc_count (entries m))))

-- a process that was started before is of the class that it was of
pub home_old : (m : Past) (now f : ℕ) (name : List ℕ) (answer : Told) (k : ℕ) → k ≤ proc_count (entries m)
    → home_of (entries (noted_at now (Started f name) answer ∷ m)) k ≡ home_of (entries m) k
home_old m now f name answer k high =
    ap (λ (b : Bool). option_or (if b then Some (record { epoch = f; class = name }) else None) (home_of (entries m) k))
    (not_next k (proc_count (entries m)) high)

-- it lives where its epoch does
pub lives_new : (m : Past) (now f : ℕ) (name : List ℕ) (answer : Told)
    → is_live (entries (noted_at now (Started f name) answer ∷ m)) f ≡ true
    → lives_on (entries (noted_at now (Started f name) answer ∷ m)) (suc (proc_count (entries m))) ≡ true
lives_new m now f name answer live =
    ap₂ (λ (o : Option Home) (d : Option Cause). lives_by o d
    (is_live (entries (noted_at now (Started f name) answer ∷ m)))) (home_new m now f name answer)
    (proc_end_above (entries m) (suc (proc_count (entries m))) (omega arith))
    ∙ live

-- the end of process k: who lives
lives_without : (k j : ℕ) (cause : Cause) (b : Bool) (o : Option Home) (d : Option Cause) (live : ℕ → Bool)
    → (k == j) ≡ b
    → lives_by o (option_or (if b then Some cause else None) d) live ≡ (lives_by o d live && not (k == j))
lives_without k j cause true None d live e = ap (λ (b : Bool). false && not b) (sym e) ∙ refl
lives_without k j cause true (Some p) d live e = sym
    (ap (λ (b : Bool). ((true && not (is_some d)) && live p.epoch) && not b) e
    ∙ none ((true && not (is_some d)) && live p.epoch))
  where
    none : (b : Bool) → (b && not true) ≡ false
    none true = refl
    none false = refl
lives_without k j cause false o d live e = sym
    (ap (λ (b : Bool). lives_by o d live && not b) e ∙ and_true (lives_by o d live))

here_if : (c : Cause) (b : Bool) → if_here b (Some c) ≡ (if b then Some c else None)
here_if c true = refl
here_if c false = refl

-- a death
pub lives_died : (m : Past) (now k : ℕ) (answer : Told) (j : ℕ) → j ≤ proc_count (entries m)
    → ((e : ℕ) → is_live (entries (noted_at now (Died k) answer ∷ m)) e ≡ is_live (entries m) e)
    → lives_on (entries (noted_at now (Died k) answer ∷ m)) j ≡ (lives_on (entries m) j && not (k == j))
lives_died m now k answer j high live =
    lives_like (home_of (entries m) j) _ (is_live (entries (noted_at now (Died k) answer ∷ m))) (is_live (entries m))
    live
    ∙ ap (λ (b : Bool). lives_by (home_of (entries m) j)
    (option_or (if_here ((j == k) && b) (Some cause.Died)) (proc_end (entries m) j)) (is_live (entries m)))
    (le-leb j (proc_count (entries m)) high)
    ∙ ap (λ (o : Option Cause). lives_by (home_of (entries m) j) (option_or o (proc_end (entries m) j))
    (is_live (entries m)))
    (ap (λ (b : Bool). if_here b (Some cause.Died)) (and_true (j == k) ∙ eq_turned j k) ∙ here_if cause.Died (k == j))
    ∙ lives_without k j cause.Died (k == j) (home_of (entries m) j) (proc_end (entries m) j) (is_live (entries m)) refl

-- a line that ends its process by this cause
pub lives_line : (m : Past) (now k : ℕ) (bytes : List ℕ) (answer : Told) (c : Cause) (j : ℕ) → line_end answer ≡ Some c
    → j ≤ proc_count (entries m)
    → ((e : ℕ) → is_live (entries (noted_at now (Line k bytes) answer ∷ m)) e ≡ is_live (entries m) e)
    → lives_on (entries (noted_at now (Line k bytes) answer ∷ m)) j ≡ (lives_on (entries m) j && not (k == j))
lives_line m now k bytes answer c j ends high live =
    lives_like (home_of (entries m) j) _ (is_live (entries (noted_at now (Line k bytes) answer ∷ m)))
    (is_live (entries m)) live
    ∙ ap₂ (λ (o : Option Cause) (b : Bool). lives_by (home_of (entries m) j)
    (option_or (cause_here o ((j == k) && b)) (proc_end (entries m) j)) (is_live (entries m))) ends
    (le-leb j (proc_count (entries m)) high)
    ∙ ap (λ (b : Bool). lives_by (home_of (entries m) j) (option_or (cause_here (Some c) b) (proc_end (entries m) j))
    (is_live (entries m))) (and_true (j == k) ∙ eq_turned j k)
    ∙ lives_without k j c (k == j) (home_of (entries m) j) (proc_end (entries m) j) (is_live (entries m)) refl

-- a stop that was told is not due again, and the others are
pub due_stopped : (m : Past) (now p j : ℕ) → j ≤ proc_count (entries m)
    → ((e : ℕ) → is_live (entries (noted_at now Act (told.Stop p) ∷ m)) e ≡ is_live (entries m) e)
    → stop_due (entries (noted_at now Act (told.Stop p) ∷ m)) j ≡ (stop_due (entries m) j && not (p == j))
due_stopped m now p j high live =
    due_like (home_of (entries m) j) _ (proc_end (entries m) j) (is_live (entries (noted_at now Act (told.Stop p) ∷ m)))
    (is_live (entries m)) live
    ∙ ap₂ (λ (a b : Bool). due_by (home_of (entries m) j) (if a && b then true else is_stopped (entries m) j)
    (proc_end (entries m) j) (is_live (entries m)))
    (le-leb j (proc_count (entries m)) high) (eq_turned j p)
    ∙ by (p == j) (is_some (home_of (entries m) j)) (is_stopped (entries m) j)
    (is_line_end (proc_end (entries m) j)
    || ((is_some (home_of (entries m) j) && not (is_some (proc_end (entries m) j)))
    && not (option_map_or (λ p. is_live (entries m) p.epoch) (home_of (entries m) j) true)))
  where
    by : (b h s r : Bool) → (h && not (if true && b then true else s) && r) ≡ ((h && not s && r) && not b)
    by true true true r = refl
    by true true false true = refl
    by true true false false = refl
    by true false s r = refl
    by false true true r = refl
    by false true false true = refl
    by false true false false = refl
    by false false s r = refl

-- the stops that are due then, in order
pub dues_stopped : (m : Past) (now p : ℕ)
    → ((e : ℕ) → is_live (entries (noted_at now Act (told.Stop p) ∷ m)) e ≡ is_live (entries m) e)
    → picks (stop_due (entries (noted_at now Act (told.Stop p) ∷ m))) (proc_count (entries m))
    ≡ filter (λ (j : ℕ). not (p == j)) (picks (stop_due (entries m)) (proc_count (entries m)))
dues_stopped m now p live =
    sym (map-id (picks (stop_due (entries (noted_at now Act (told.Stop p) ∷ m))) (proc_count (entries m))))
    ∙ rows_left (λ (j : ℕ). not (p == j)) (λ (j : ℕ). j) (λ (j : ℕ). j) (stop_due (entries m))
    (stop_due (entries (noted_at now Act (told.Stop p) ∷ m))) (proc_count (entries m))
    (λ j low high. due_stopped m now p j high live) (λ j low high t. refl)
    ∙ ap (filter (λ (j : ℕ). not (p == j))) (map-id (picks (stop_due (entries m)) (proc_count (entries m))))

-- no stop is due of a process that is started in an epoch that lives
pub due_started : (m : Past) (now f : ℕ) (name : List ℕ) (answer : Told)
    → is_live (entries (noted_at now (Started f name) answer ∷ m)) f ≡ true
    → stop_due (entries (noted_at now (Started f name) answer ∷ m)) (suc (proc_count (entries m))) ≡ false
due_started m now f name answer live =
    ap₂ (λ (o : Option Home) (d : Option Cause). due_by o stopped d
    (is_live (entries (noted_at now (Started f name) answer ∷ m)))) (home_new m now f name answer)
    (proc_end_above (entries m) (suc (proc_count (entries m))) (omega arith))
    ∙ ap (λ (b : Bool). true && not stopped && (false || (true && not b))) live ∙ none stopped
  where
    stopped : Bool
    stopped = is_stopped (entries (noted_at now (Started f name) answer ∷ m)) (suc (proc_count (entries m)))

    none : (s : Bool) → (true && not s && (false || (true && not true))) ≡ false
    none true = refl
    none false = refl

-- a line that ends its process: a stop of it is due, where it lived and was not told to stop;
-- the others are due as they were
pub due_line : (m : Past) (now k : ℕ) (bytes : List ℕ) (answer : Told) (c : Cause) (j : ℕ) → line_end answer ≡ Some c
    → is_line_end (Some c) ≡ true → j ≤ proc_count (entries m)
    → lives_on (entries m) k ≡ true → is_stopped (entries m) k ≡ false
    → ((e : ℕ) → is_live (entries (noted_at now (Line k bytes) answer ∷ m)) e ≡ is_live (entries m) e)
    → stop_due (entries (noted_at now (Line k bytes) answer ∷ m)) j ≡ (stop_due (entries m) j || (k == j))
due_line m now k bytes answer c j ends line high lives unstopped live =
    ap (λ (b : Bool). due_by (home_of (entries m) j) (if b then true else is_stopped (entries m) j)
    (proc_end (entries (noted_at now (Line k bytes) answer ∷ m)) j)
    (is_live (entries (noted_at now (Line k bytes) answer ∷ m))))
    (and_right (nat_le j (proc_count (entries m))) false refl)
    ∙ due_like (home_of (entries m) j) (is_stopped (entries m) j)
    (proc_end (entries (noted_at now (Line k bytes) answer ∷ m)) j)
    (is_live (entries (noted_at now (Line k bytes) answer ∷ m))) (is_live (entries m)) live
    ∙ ap₂ (λ (o : Option Cause) (b : Bool). due_by (home_of (entries m) j) (is_stopped (entries m) j)
    (option_or (cause_here o ((j == k) && b)) (proc_end (entries m) j)) (is_live (entries m))) ends
    (le-leb j (proc_count (entries m)) high)
    ∙ ap (λ (b : Bool). due_by (home_of (entries m) j) (is_stopped (entries m) j)
    (option_or (cause_here (Some c) b) (proc_end (entries m) j)) (is_live (entries m)))
    (and_true (j == k) ∙ eq_turned j k)
    ∙ by (k == j) refl
  where
    some_home : (o : Option Home) (d : Option Cause) → lives_by o d (is_live (entries m)) ≡ true → is_some o ≡ true
    some_home None d t = absurd (cc)
    some_home (Some p) d t = refl

    or_true : (b : Bool) → (b || true) ≡ true
    or_true true = refl
    or_true false = refl

    or_false : (b : Bool) → (b || false) ≡ b
    or_false true = refl
    or_false false = refl

    at : is_some (home_of (entries m) k) ≡ true
        → due_by (home_of (entries m) k) (is_stopped (entries m) k) (Some c) (is_live (entries m)) ≡ true
    at home = by_home (home_of (entries m) k) home
      where
        by_home : (o : Option Home) → is_some o ≡ true
            → due_by o (is_stopped (entries m) k) (Some c) (is_live (entries m)) ≡ true
        by_home None t = absurd (cc)
        by_home (Some p) t = ap₂ (λ (a b : Bool). not a && (b || (false && not (is_live (entries m) p.epoch))))
            unstopped line

    by : (b : Bool) → (k == j) ≡ b
        → due_by (home_of (entries m) j) (is_stopped (entries m) j)
        (option_or (if b then Some c else None) (proc_end (entries m) j)) (is_live (entries m))
        ≡ (stop_due (entries m) j || b)
    by true same =
        ap (λ (i : ℕ). due_by (home_of (entries m) i) (is_stopped (entries m) i) (Some c) (is_live (entries m)))
        (sym (equal k j same))
        ∙ at (some_home (home_of (entries m) k) (proc_end (entries m) k) lives) ∙ sym (or_true (stop_due (entries m) j))
    by false other = sym (or_false (stop_due (entries m) j))

-- a death makes no stop due, where the process lived
pub due_died : (m : Past) (now k : ℕ) (answer : Told) (j : ℕ) → j ≤ proc_count (entries m)
    → lives_on (entries m) k ≡ true
    → ((e : ℕ) → is_live (entries (noted_at now (Died k) answer ∷ m)) e ≡ is_live (entries m) e)
    → stop_due (entries (noted_at now (Died k) answer ∷ m)) j ≡ stop_due (entries m) j
due_died m now k answer j high lives live =
    ap (λ (b : Bool). due_by (home_of (entries m) j) (if b then true else is_stopped (entries m) j)
    (proc_end (entries (noted_at now (Died k) answer ∷ m)) j) (is_live (entries (noted_at now (Died k) answer ∷ m))))
    (and_right (nat_le j (proc_count (entries m))) false refl)
    ∙ due_like (home_of (entries m) j) (is_stopped (entries m) j)
    (proc_end (entries (noted_at now (Died k) answer ∷ m)) j) (is_live (entries (noted_at now (Died k) answer ∷ m)))
    (is_live (entries m)) live
    ∙ ap (λ (b : Bool). due_by (home_of (entries m) j) (is_stopped (entries m) j)
    (option_or (if_here ((j == k) && b) (Some cause.Died)) (proc_end (entries m) j)) (is_live (entries m)))
    (le-leb j (proc_count (entries m)) high)
    ∙ ap (λ (o : Option Cause). due_by (home_of (entries m) j) (is_stopped (entries m) j)
    (option_or o (proc_end (entries m) j)) (is_live (entries m)))
    (ap (λ (b : Bool). if_here b (Some cause.Died)) (and_true (j == k) ∙ eq_turned j k) ∙ here_if cause.Died (k == j))
    ∙ by (k == j) refl
  where
    not_due : (o : Option Home) (s : Bool) (d : Option Cause) → lives_by o d (is_live (entries m)) ≡ true
        → due_by o s d (is_live (entries m)) ≡ false
    not_due None s d t = absurd (cc)
    not_due (Some p) s (Some c) t = absurd (cc)
    not_due (Some p) s None t = ap (λ (b : Bool). not s && not b) t ∙ none s
      where
        none : (s : Bool) → (not s && not true) ≡ false
        none true = refl
        none false = refl

    ended : (o : Option Home) (s : Bool) → due_by o s (Some cause.Died) (is_live (entries m)) ≡ false
    ended None s = refl
    ended (Some p) true = refl
    ended (Some p) false = refl

    by : (b : Bool) → (k == j) ≡ b
        → due_by (home_of (entries m) j) (is_stopped (entries m) j)
        (option_or (if b then Some cause.Died else None) (proc_end (entries m) j)) (is_live (entries m))
        ≡ stop_due (entries m) j
    by true same =
        ended (home_of (entries m) j) (is_stopped (entries m) j)
        ∙ sym (not_due (home_of (entries m) j) (is_stopped (entries m) j) (proc_end (entries m) j)
        (ap (lives_on (entries m)) (sym (equal k j same)) ∙ lives))
    by false other = refl

-- the end of an epoch: the stops of processes that lived there are due, unless they were told
pub due_ended : (o : Option Home) (stopped : Bool) (d : Option Cause) (live before : ℕ → Bool)
    → ((p : Home) → o ≡ Some p → live p.epoch ≡ true → before p.epoch ≡ true)
    → due_by o stopped d live
    ≡ (due_by o stopped d before || (not stopped && lives_by o d before && not (lives_by o d live)))
due_ended None stopped d live before fewer = none stopped
  where
    none : (s : Bool) → false ≡ (false || (not s && false && true))
    none true = refl
    none false = refl
due_ended (Some p) stopped d live before fewer = by stopped (is_line_end d) (is_some d) (live p.epoch) (before p.epoch)
    (fewer p refl)
  where
    by : (s l r v w : Bool) → (v ≡ true → w ≡ true)
        → (true && not s && (l || ((true && not r) && not v)))
        ≡ ((true && not s && (l || ((true && not r) && not w)))
        || (not s && ((true && not r) && w) && not ((true && not r) && v)))
    by true l r v w f = refl
    by false true r v w f = refl
    by false false true v w f = none w v
      where
        none : (w v : Bool) → false ≡ (false || (true && (false && w) && not (false && v)))
        none w v = refl
    by false false false true true f = refl
    by false false false true false f = absurd (let no = f refl in cc)
    by false false false false true f = refl
    by false false false false false f = refl
