-- Groups that may get members still may, where acls change.
use Rattle.std.proofs.Common.{◌≡◌, ℕ, ◌<◌, List, [], ◌∷◌, ◌++◌, length, Bool, true, false, refl, sym, subst, ◌∙◌, Result, Ok, Err, OnOk, OnErr}
use Rattle.sq_conf.proofs.ListLaws.{by_either, found}
use Rattle.sq_rules.proofs.LookupLaws.{takes_new, takes_set}
use Rattle.sq_rules.proofs.TableLaws.{changed_at}
use Rattle.sq_rules.specs.Classes.{Class}
use Rattle.sq_rules.specs.Drafts.{change_body}
use Rattle.sq_rules.specs.Lookups.{are_looked_up, has_blank, takes_members}
use Rattle.sq_rules.specs.declared.configs.Acl.{Acl}
use Rattle.sq_rules.specs.declared.configs.Body.{Body}

-- one that is put at the end may get members
pub takes_pushed : {V E : Type 0} (r : Result V E) (lookup : Bool) (classes : List Class) (acls after : List Acl)
    (a : Acl) → are_looked_up lookup classes acls ≡ true → has_blank a.name ≡ false
    → OnOk r (after ≡ acls ++ a ∷ []) → OnOk r (takes_members lookup after (length acls) ≡ true)
takes_pushed (Ok v) lookup classes acls after a looked word ok =
    subst (λ l. takes_members lookup l (length acls) ≡ true) (sym ok) (takes_new lookup classes acls a looked word)
takes_pushed (Err e) lookup classes acls after a looked word ok = tt

-- one whose body may have changed still may
pub takes_changed : {V E : Type 0} (r : Result V E) (lookup : Bool) (acls after : List Acl) (p : ℕ) (f : Body → Body)
    → p < length acls → takes_members lookup acls p ≡ true
    → OnOk r (after ≡ change_body p f acls) → OnErr r (after ≡ acls) → takes_members lookup after p ≡ true
takes_changed r lookup acls after p f within takes ok err =
    let at = found acls p within in
    by_either (λ l. takes_members lookup l p ≡ true) r acls (change_body p f acls) after takes ok err
    (subst (λ l. takes_members lookup l p ≡ true) (sym (changed_at acls p at.0 f at.1))
    (takes_set lookup acls p at.0 (record at.0 { body = f at.0.body }) at.1 refl ∙ takes))
