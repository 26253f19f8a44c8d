-- A rewriter that went on by its processes alone.
use Rattle.std.proofs.Common.{◌≡◌, [], ◌++◌, Bool, true, false, ◌&&◌, Option, Some, None, refl, sym, subst, ap, ◌∙◌}
use Rattle.std.specs.List.{list_all}
use Rattle.std.proofs.lemmas.List.Folds.{list_all-append}
use Rattle.sq_rewrite.proofs.WorkLaws.{calls_more, run_more}
use Rattle.sq_rewrite.specs.Calls.{Calls}
use Rattle.sq_rewrite.specs.States.{RewriteState, is_of_processes}
use Rattle.sq_turns.specs.Tellings.{Works}

both : (a b : Bool) → a ≡ true → b ≡ true → (a && b) ≡ true
both true true p q = refl
both true false p q = q
both false b p q = absurd (cc)

-- calls of processes, and more of them
pub all_more : (more first : Calls) → list_all is_of_processes more ≡ true → list_all is_of_processes first ≡ true
    → list_all is_of_processes (more ++ first) ≡ true
all_more more first p q = list_all-append is_of_processes more first
    ∙ both (list_all is_of_processes more) (list_all is_of_processes first) p q

-- nothing came
pub works_self : (o : Option RewriteState) → Works o o
works_self None = refl
works_self (Some s) = ([], refl, tt, refl)

pub works_same : (a b : Option RewriteState) → b ≡ a → Works a b
works_same a b e = subst (Works a) (sym e) (works_self a)

-- and more came
pub works_then : (a b c : Option RewriteState) → Works a b → Works b c → Works a c
works_then None b c p q = subst (λ o. Works o c) p q
works_then (Some s) b c p q =
    let r = subst (λ o. Works o c) p.3 q in (
      r.0 ++ p.0,
      all_more r.0 p.0 r.1 p.1,
      run_more s p.0 r.0 p.2 r.2,
      r.3 ∙ ap (λ t. Some t) (calls_more s p.0 r.0),
    )

-- behind a call that leaves the rewriter, and before one
pub works_behind : (a b c : Option RewriteState) → b ≡ a → Works b c → Works a c
works_behind a b c e w = subst (λ o. Works o c) e w

pub works_before : (a b c : Option RewriteState) → c ≡ b → Works a b → Works a c
works_before a b c e w = subst (Works a) (sym e) w
