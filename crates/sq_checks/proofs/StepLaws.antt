-- For those who take steps: what the rule of a step says can be noted, and noting it is the step.
use Rattle.std.proofs.Common.{◌≡◌, ◌∙◌, ◌==◌, ℕ, List, [], ◌∷◌, Bool, true, false, if◌then◌else◌, nat_lt, length, Option, None, Some, refl, ap}
use Rattle.sq_base.specs.declared.helpers.Cause.TheVariants as cause
use Rattle.sq_rules.proofs.SightLaws.{taken_unversioned}
use Rattle.sq_rules.specs.Classes.{Class}
use Rattle.sq_rules.specs.Configurations.{Configuration}
use Rattle.sq_machine.specs.KeptLists.{CachedReplies, fresh_for}
use Rattle.sq_machine.specs.Limits.{key_limit}
use Rattle.sq_machine.specs.Marks.{Put}
use Rattle.sq_rules.specs.Sights.{unversioned_sight}
use Rattle.sq_machine.specs.StepRule.{StepSays, says_asked, says_fault, says_fresh, says_need}
use Rattle.sq_rules.specs.Verdicts.{pool_from, pool_of}
use Rattle.sq_machine.specs.declared.entries.Told.{Told}
use Rattle.sq_machine.specs.declared.entries.Told.TheVariants as told
use Rattle.sq_machine.specs.declared.kept.CachedReply.{CachedReply}
use Rattle.sq_rules.specs.declared.sights.Sight.{Sight}
use Rattle.sq_model.specs.CheckRows.{Held, after_step, is_told_done, stepped}
use Rattle.sq_model.specs.StepRows.{said_of, stepped_of, told_of}
use Rattle.sq_machine.specs.AnswerReadings.{waits_told}
use Rattle.sq_checks.specs.OpenChecks.{IsNoted, says_of}

if_noted : (b : Bool) (p : Put) (c : ℕ) (x y : StepSays) → IsNoted p.class p.key (said_of c x)
    → IsNoted p.class p.key (said_of c y)
    → IsNoted p.class p.key (said_of c (if b then x else y))
if_noted true p c x y f g = f
if_noted false p c x y f g = g

asked_noted : (name : List ℕ) (p : Put) (now : ℕ) (pending : Option ℕ) (full : Bool) (count c : ℕ)
    → IsNoted p.class p.key (said_of c (says_asked name p now pending full count))
asked_noted name p now (Some q) full count c = record { fits = refl; took = tt }
asked_noted name p now None true count c = record { fits = refl; took = (refl, refl) }
asked_noted name p now None false count c = record { fits = refl; took = tt }

fresh_noted : (class : Class) (p : Put) (now : ℕ) (v : Option CachedReply) (pending : Option ℕ) (full : Bool)
    (count c : ℕ)
    → IsNoted p.class p.key (said_of c (says_fresh class p now v pending full count))
fresh_noted class p now (Some v) pending full count c = record { fits = refl; took = (refl, refl) }
fresh_noted class p now None pending full count c = asked_noted class.name p now pending full count c

-- what the rule says that needs a key of a class can be noted
pub need_noted : (class : Class) (p : Put) (now : ℕ) (kept : CachedReplies) (pending : Option ℕ) (full : Bool)
    (count c : ℕ)
    → IsNoted p.class p.key (said_of c (says_need class p now kept pending full count))
need_noted class p now kept pending full count c =
    if_noted (nat_lt key_limit (length p.key)) p c (says_fault class.name p cause.KeyTooLong now)
    (says_fresh class p now (fresh_for class p.key now kept) pending full count)
    (record { fits = refl; took = (refl, refl) })
    (fresh_noted class p now (fresh_for class p.key now kept) pending full count c)

waits_said : (c : ℕ) (t : Told) → waits_told (told_of [] (stepped_of c t)) ≡ waits_told t
waits_said c (told.Waits q) = refl
waits_said c told.Done = refl
waits_said c t = refl

done_said : (c : ℕ) (t : Told) → is_told_done (told_of [] (stepped_of c t)) ≡ is_told_done t
done_said c (told.Waits q) = refl
done_said c told.Done = refl
done_said c t = refl

-- a check is stepped by what is handed up of a step as by the step
pub stepped_said : (c : ℕ) (s : StepSays) (h : Held) → stepped (says_of (said_of c s)) h ≡ stepped s h
stepped_said c s h = rw (waits_said c s.answer, done_said c s.answer) refl

if_stepped : (b : Bool) (c : ℕ) (s : StepSays) (h : Held)
    → (if b then stepped (says_of (said_of c s)) h else h) ≡ (if b then stepped s h else h)
if_stepped true c s h = stepped_said c s h
if_stepped false c s h = refl

-- so are the checks
pub after_said : (c n : ℕ) (s : StepSays) (checks : List Held)
    → after_step n (says_of (said_of c s)) checks ≡ after_step n s checks
after_said c n s [] = refl
after_said c n s (h ∷ checks) =
    ap (λ x. x ∷ after_step n (says_of (said_of c s)) checks) (if_stepped (n == h.number) c s h)
    ∙ ap (λ l. (if n == h.number then stepped s h else h) ∷ l) (after_said c n s checks)

-- the pool of a check does not depend on the version of its request
pub pool_unversioned : (c : Configuration) (s : Sight) → pool_of c (unversioned_sight s) ≡ pool_of c s
pool_unversioned c s = ap (λ taken. pool_from taken c.acls s.addr 0 c.pools) (taken_unversioned c s [])
