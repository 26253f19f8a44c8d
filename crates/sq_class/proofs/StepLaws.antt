-- What a step of a check says, case by case, and what it leaves.
use Rattle.std.proofs.Common.{◌≡◌, ◌∙◌, ◌==◌, ◌&&◌, length, Bool, true, false, ℕ, List, Option, None, Some, if◌then◌else◌, nat_lt, refl, ap, sym, subst, Result, Ok, Err, IfOk}
use Rattle.std.specs.Option.{option_map}
use Rattle.sq_base.specs.declared.helpers.Cause.{Cause}
use Rattle.sq_base.specs.declared.helpers.Cause.TheVariants as cause
use Rattle.sq_cache.specs.Keeping.{taken_as, taken_for}
use Rattle.sq_cache.specs.declared.kept.Taken.{Taken}
use Rattle.sq_rules.specs.Classes.{Class}
use Rattle.sq_machine.specs.Farms.{full}
use Rattle.sq_machine.specs.KeptLists.{fresh_for, to_front}
use Rattle.sq_machine.specs.Limits.{key_limit}
use Rattle.sq_machine.specs.Marks.{Put}
use Rattle.sq_machine.specs.OpenLookups.{WaitingChecks, pending_in, question_of}
use Rattle.sq_machine.specs.StepRule.{StepSays, refresh, says_asked, says_fault, says_fresh, says_kept, says_need}
use Rattle.sq_machine.specs.declared.kept.CachedReply.{CachedReply}
use Rattle.sq_model.specs.ClassRows.{ClassRow}
use Rattle.sq_model.specs.StepRows.{said_of, says_of_row}
use Rattle.sq_model.specs.declared.stepping.StepEffect.{StepEffect}
use Rattle.sq_class.specs.declared.faults.ResolveFault.{ResolveFault}
use Rattle.sq_class.specs.Parts.{PartState}
use Rattle.sq_class.specs.Steps.{IsSpent, IsStepped, says_open, says_taken, verdict_taken}
use Rattle.sq_class.proofs.HoldLaws.{equal}

and_false : (b : Bool) → (b && false) ≡ false
and_false true = refl
and_false false = refl

-- for a check that waits for nothing, after a step that waits for nothing
unmoved : (check n : ℕ) (w : WaitingChecks) → question_of check w ≡ None
    → question_of n w ≡ (if n == check then None else question_of n w)
unmoved check n w free = (elim (n == check) as
    (λ y. (n == check) ≡ y → question_of n w ≡ (if y then None else question_of n w)) [
      | true ↦ λ t. ap (λ k. question_of k w) (equal n check t) ∙ free
      | false ↦ λ t. refl
    ]) refl

-- for a step that takes a fault
pub faulted : (place count check : ℕ) (name key : List ℕ) (e : ℕ) (c : Cause) (now : ℕ) (said : StepEffect)
    (old : PartState)
    → said ≡ said_of place (says_fault name (record { epoch = e; class = place; key = key }) c now)
    → question_of check old.waiting ≡ None
    → IsStepped place count check (says_fault name (record { epoch = e; class = place; key = key }) c now) said old old
faulted place count check name key e c now said old is free = record {
  said_is = is;
  fits = λ h. absurd cc;
  row_is = sym (ap (λ b. record old.row { kept = if b then to_front key old.row.kept else old.row.kept })
      (and_false (place == place)));
  waiting_are = λ n. unmoved check n old.waiting free;
  limit_is = refl;
}

-- for a step that finds the queue full
pub refused : (place count check : ℕ) (name key : List ℕ) (e now : ℕ) (said : StepEffect) (old : PartState)
    → pending_in key old.row.lookups ≡ None → full old.row.stock ≡ true
    → said ≡ said_of place (says_fault name (record { epoch = e; class = place; key = key }) cause.QueueFull now)
    → question_of check old.waiting ≡ None
    → IsStepped place count check (says_open name (record { epoch = e; class = place; key = key }) now count old.row)
    said old old
refused place count check name key e now said old pending crowded is free =
    let p : Put = record { epoch = e; class = place; key = key } in
    subst (λ o. IsStepped place count check (says_asked name p now o (full old.row.stock) count) said old old)
    (sym pending)
    (subst (λ b. IsStepped place count check (says_asked name p now None b count) said old old) (sym crowded)
    (faulted place count check name key e cause.QueueFull now said old is free))

fresh_says : (class : Class) (p : Put) (now : ℕ) (pending : Option ℕ) (crowded : Bool) (count : ℕ) (t : Taken)
    (o : Option CachedReply) → Some t ≡ option_map (taken_as class now) o
    → says_fresh class p now o pending crowded count
    ≡ says_kept class.name p (verdict_taken t) now (refresh t.refresh pending crowded p)
fresh_says class p now pending crowded count t None e = absurd cc
fresh_says class p now pending crowded count t (Some v) e =
    let same : taken_as class now v ≡ t = cc in
    ap (λ (x : Taken). says_kept class.name p (verdict_taken x) now (refresh x.refresh pending crowded p)) same

open_says : (class : Class) (p : Put) (now : ℕ) (pending : Option ℕ) (crowded : Bool) (count : ℕ)
    (o : Option CachedReply) → None ≡ option_map (taken_as class now) o
    → says_fresh class p now o pending crowded count ≡ says_asked class.name p now pending crowded count
open_says class p now pending crowded count None e = refl
open_says class p now pending crowded count (Some v) e = absurd cc

short_says : (class : Class) (p : Put) (now : ℕ) (r : ClassRow) (count : ℕ) → nat_lt key_limit (length p.key) ≡ false
    → says_need class p now r.kept (pending_in p.key r.lookups) (full r.stock) count
    ≡ says_fresh class p now (fresh_for class p.key now r.kept) (pending_in p.key r.lookups) (full r.stock) count
short_says class p now r count short = rw short refl

-- for a key that is not too long, whose verdict is kept and fresh
pub need_taken : (class : Class) (p : Put) (now : ℕ) (r : ClassRow) (count : ℕ) (t : Taken)
    → nat_lt key_limit (length p.key) ≡ false → Some t ≡ taken_for class p.key now r.kept
    → says_taken class.name p now t r ≡ says_need class p now r.kept (pending_in p.key r.lookups) (full r.stock) count
need_taken class p now r count t short e =
    sym (short_says class p now r count short
    ∙ fresh_says class p now (pending_in p.key r.lookups) (full r.stock) count t (fresh_for class p.key now r.kept) e)

-- for a key that is not too long, for which nothing fresh is kept
pub need_open : (class : Class) (p : Put) (now : ℕ) (r : ClassRow) (count : ℕ) → nat_lt key_limit (length p.key) ≡ false
    → None ≡ taken_for class p.key now r.kept
    → says_open class.name p now count r
    ≡ says_need class p now r.kept (pending_in p.key r.lookups) (full r.stock) count
need_open class p now r count short e =
    sym (short_says class p now r count short
    ∙ open_says class p now (pending_in p.key r.lookups) (full r.stock) count (fresh_for class p.key now r.kept) e)

-- for a key that is too long
pub need_long : (class : Class) (p : Put) (now : ℕ) (r : ClassRow) (count : ℕ) → nat_lt key_limit (length p.key) ≡ true
    → says_fault class.name p cause.KeyTooLong now
    ≡ says_need class p now r.kept (pending_in p.key r.lookups) (full r.stock) count
need_long class p now r count long = rw long refl

-- for a step that takes a verdict: it is the rule's
pub taken_ok : (class : Class) (place count check : ℕ) (key : List ℕ) (now : ℕ) (t : Taken) (old new : PartState)
    (r : Result StepEffect ResolveFault)
    → nat_lt key_limit (length key) ≡ false → Some t ≡ taken_for class key now old.row.kept
    → question_of check old.waiting ≡ None
    → IfOk r (λ s. (e check : ℕ) (name : List ℕ) → question_of check old.waiting ≡ None
    → IsStepped place count check (says_taken name (record { epoch = e; class = place; key = key }) now t old.row) s old
    new)
    → IfOk r (λ s. (e : ℕ) → IsStepped place count check (says_of_row class e place key now count old.row) s old new)
taken_ok class place count check key now t old new (Ok s) short is free h = λ e.
    subst (λ z. IsStepped place count check z s old new)
    (need_taken class (record { epoch = e; class = place; key = key }) now old.row count t short is)
    (h e check class.name free)
taken_ok class place count check key now t old new (Err f) short is free h = tt

-- for a step that finds no fresh verdict: it is the rule's
pub open_ok : (class : Class) (place count check : ℕ) (key : List ℕ) (now : ℕ) (old new : PartState)
    (r : Result StepEffect ResolveFault)
    → nat_lt key_limit (length key) ≡ false → None ≡ taken_for class key now old.row.kept
    → IfOk r (λ s. (e : ℕ) (name : List ℕ)
    → IsStepped place count check (says_open name (record { epoch = e; class = place; key = key }) now count old.row) s
    old new)
    → IfOk r (λ s. (e : ℕ) → IsStepped place count check (says_of_row class e place key now count old.row) s old new)
open_ok class place count check key now old new (Ok s) short is h = λ e.
    subst (λ z. IsStepped place count check z s old new)
    (need_open class (record { epoch = e; class = place; key = key }) now old.row count short is) (h e class.name)
open_ok class place count check key now old new (Err f) short is h = tt

-- for a step that is refused its number: it is the rule's
pub spent_same : (count : ℕ) (s z : StepSays) → s ≡ z → IsSpent count s → IsSpent count z
spent_same count s z is h = subst (λ x. IsSpent count x) is h
