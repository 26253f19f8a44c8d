-- A step of a check: what it makes of classes and of the state.
use Rattle.std.proofs.Common.{◌≡◌, ◌∙◌, ◌==◌, ◌&&◌, ℕ, List, length, Bool, true, false, if◌then◌else◌, nat_lt, Option, None, Some, refl, ap, sym, arith}
use Rattle.std.proofs.lemmas.Option.{none-some, same_Some}
use Rattle.std.specs.Option.{option_map}
use Rattle.sq_base.specs.declared.helpers.Answer.{Answer}
use Rattle.sq_base.specs.declared.helpers.Cause.{Cause}
use Rattle.sq_base.specs.declared.helpers.Cause.TheVariants as cause
use Rattle.sq_machine.specs.declared.entries.Told.{Told}
use Rattle.sq_machine.specs.declared.kept.CachedReply.{CachedReply}
use Rattle.sq_rules.specs.Classes.{Class}
use Rattle.sq_machine.specs.Freshness.{is_due}
use Rattle.sq_machine.specs.KeptLists.{CachedReplies, fresh_for}
use Rattle.sq_machine.specs.KeptReadings.{after_took}
use Rattle.sq_machine.specs.Limits.{key_limit}
use Rattle.sq_machine.specs.Marks.{Put}
use Rattle.sq_machine.specs.StepRule.{StepSays, refresh, says_asked, says_fault, says_fresh, says_kept, says_need}
use Rattle.sq_model.specs.CheckRows.{after_step}
use Rattle.sq_model.specs.ClassRows.{ClassRow, with_took}
use Rattle.sq_model.specs.StepRows.{after_says, with_put}
use Rattle.sq_model.specs.ClassChanges.{after_said, with_put_for}
use Rattle.sq_checks.specs.OpenChecks.{CheckParts, rows_of}
use Rattle.sq_model.specs.Changes.{after_step_of}
use Rattle.sq_model.specs.States.{IsSame}
use Rattle.sq_engine.specs.EngineViews.{EngineView, state_of}

-- a step that says so puts a question for this class alone, and takes an answer of it alone
pub record SaysPlace (e c : ℕ) (s : StepSays) : Type 0 where
  pub put_is : (p : Put) → s.put ≡ Some p → (p.epoch ≡ e) × (p.class ≡ c)
  pub took_is : (a : Answer) → s.took ≡ Some a → a.class ≡ c

if_place : (b : Bool) (e c : ℕ) (x y : StepSays) → SaysPlace e c x → SaysPlace e c y
    → SaysPlace e c (if b then x else y)
if_place true e c x y f g = f
if_place false e c x y f g = g

fault_place : (name : List ℕ) (p : Put) (k : Cause) (now : ℕ) → SaysPlace p.epoch p.class (says_fault name p k now)
fault_place name p k now = record {
  put_is = λ r e. absurd (none-some r e);
  took_is = λ a e. ap (λ (x : Answer). x.class) (sym (same_Some _ _ e));
}

refresh_is : (d : Bool) (o : Option ℕ) (f : Bool) (p r : Put) → refresh d o f p ≡ Some r → p ≡ r
refresh_is true None false p r e = same_Some _ _ e
refresh_is true None true p r e = absurd (none-some r e)
refresh_is true (Some q) f p r e = absurd (none-some r e)
refresh_is false o f p r e = absurd (none-some r e)

kept_place : (name : List ℕ) (p : Put) (v : CachedReply) (now : ℕ) (d : Bool) (o : Option ℕ) (f : Bool)
    → SaysPlace p.epoch p.class (says_kept name p v now (refresh d o f p))
kept_place name p v now d o f = record {
  put_is = λ r e. let same = refresh_is d o f p r e in
      (ap (λ (x : Put). x.epoch) (sym same), ap (λ (x : Put). x.class) (sym same));
  took_is = λ a e. ap (λ (x : Answer). x.class) (sym (same_Some _ _ e));
}

asked_place : (name : List ℕ) (p : Put) (now : ℕ) (o : Option ℕ) (f : Bool) (count : ℕ)
    → SaysPlace p.epoch p.class (says_asked name p now o f count)
asked_place name p now (Some q) f count = record {
  put_is = λ r e. absurd (none-some r e);
  took_is = λ a e. absurd (none-some a e);
}
asked_place name p now None true count = fault_place name p cause.QueueFull now
asked_place name p now None false count = record {
  put_is = λ r e. let same : p ≡ r = same_Some _ _ e in
      (ap (λ (x : Put). x.epoch) (sym same), ap (λ (x : Put). x.class) (sym same));
  took_is = λ a e. absurd (none-some a e);
}

fresh_place : (class : Class) (p : Put) (now : ℕ) (v : Option CachedReply) (o : Option ℕ) (f : Bool) (count : ℕ)
    → SaysPlace p.epoch p.class (says_fresh class p now v o f count)
fresh_place class p now (Some v) o f count = kept_place class.name p v now (is_due class v now) o f
fresh_place class p now None o f count = asked_place class.name p now o f count

-- so it is of what the rule says that needs a key of a class
pub need_place : (class : Class) (p : Put) (now : ℕ) (kept : CachedReplies) (o : Option ℕ) (f : Bool) (count : ℕ)
    → SaysPlace p.epoch p.class (says_need class p now kept o f count)
need_place class p now kept o f count =
    if_place (nat_lt key_limit (length p.key)) p.epoch p.class (says_fault class.name p cause.KeyTooLong now)
    (says_fresh class p now (fresh_for class p.key now kept) o f count)
    (fault_place class.name p cause.KeyTooLong now) (fresh_place class p now (fresh_for class p.key now kept) o f count)

same_number : (a b : ℕ) → a ≡ b → (a == b) ≡ true
same_number a b e = grind (arith, e)

put_here : (e c count : ℕ) (o : Option Put) (r : ClassRow) → ((p : Put) → o ≡ Some p → (p.epoch ≡ e) × (p.class ≡ c))
    → with_put_for e c count o r ≡ with_put count o r
put_here e c count None r is = refl
put_here e c count (Some p) r is = rw (same_number p.epoch e (is p refl).0, same_number p.class c (is p refl).1) refl

-- the class that is asked
pub said_here : (e c count : ℕ) (s : StepSays) (r : ClassRow) → SaysPlace e c s
    → after_said true e c count s r ≡ after_says c count s r
said_here e c count s r is = put_here e c count s.put (with_took c s.took r) is.put_is

took_else : (b : Bool) (c d : ℕ) (o : Option Answer) (k : CachedReplies) → (b && c == d) ≡ false
    → ((a : Answer) → o ≡ Some a → a.class ≡ c) → after_took b d o k ≡ k
took_else b c d None k apart is = refl
took_else b c d (Some a) k apart is = rw (is a refl, apart) refl

put_else : (e c f d count : ℕ) (o : Option Put) (r : ClassRow) → (e == f && c == d) ≡ false
    → ((p : Put) → o ≡ Some p → (p.epoch ≡ e) × (p.class ≡ c)) → with_put_for f d count o r ≡ r
put_else e c f d count None r apart is = refl
put_else e c f d count (Some p) r apart is = rw ((is p refl).0, (is p refl).1, apart) refl

-- another class
pub said_else : (e c f d count : ℕ) (s : StepSays) (r : ClassRow) → (e == f && c == d) ≡ false → SaysPlace e c s
    → after_said (e == f) f d count s r ≡ r
said_else e c f d count s r apart is =
    put_else e c f d count s.put (record r { kept = after_took (e == f) d s.took r.kept }) apart is.put_is
    ∙ ap (λ k. record r { kept = k }) (took_else (e == f) c d s.took r.kept apart is.took_is)

-- a step that only answers
abbrev pub only_says : Told → StepSays
only_says answer = record { answer = answer; put = None; took = None }

map_same : (o : Option ClassRow) → option_map (λ r. r) o ≡ o
map_same None = refl
map_same (Some r) = refl

-- leaves the classes
pub quiet_same : (v : EngineView) (cs : List (ℕ × CheckParts)) (t n e : ℕ) (answer : Told)
    → rows_of cs ≡ after_step n (only_says answer) (rows_of v.checks)
    → IsSame (state_of (record v { checks = cs; latest = t })) (after_step_of n e (only_says answer) t (state_of v))
quiet_same v cs t n e answer rows = record {
  clients_are = λ c. refl;
  conns_are = refl;
  from_are = λ a. refl;
  checks_are = rows;
  asks_are = refl;
  puts_are = refl;
  current_is = refl;
  configs_are = λ f. refl;
  rows_are = λ f d. sym (map_same ((state_of v).row f d));
  procs_are = refl;
  homes_are = λ k. refl;
  stops_are = λ k. refl;
  latest_is = refl;
  offset_is = refl;
}
