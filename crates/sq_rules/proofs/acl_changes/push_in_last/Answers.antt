use Rattle.std.proofs.Common.{◌≡◌, ℕ, ◌-◌, suc, List, [], ◌∷◌, ◌++◌, length, set, Some, slice_get, refl, ap, ◌∙◌, arith, Result, Ok, Err, OnOk}
use Rattle.std.proofs.lemmas.Grind.{common_steps}
use Rattle.std.proofs.lemmas.Option.{slice_get_read}
use Rattle.sq_rules.proofs.ListLaws.{last_line}
use Rattle.sq_rules.specs.Drafts.{in_last}
use Rattle.sq_rules.specs.declared.configs.Term.{Term}
use Rattle.sq_rules.proofs.acl_changes.push_in_last.Goals as goal

pushed : {V E : Type 0} (r : Result V E) (lines now : List (List Term)) (n : ℕ) (l m : List Term) (t : Term)
    → now ≡ set lines n m → suc n ≡ length lines → slice_get lines n ≡ Some l →
    OnOk r (m ≡ l ++ t ∷ []) → OnOk r (now ≡ in_last t lines)
pushed (Ok v) lines now n l m t e long is ok = e ∙ ap (set lines n) ok ∙ last_line t lines n l long is
pushed (Err x) lines now n l m t e long is ok = tt

pub returns-clause-ok : goal.returns-clause-ok
returns-clause-ok c =
    let lines = c.args.lines.now in
    let n = c.len-count.result - 1 in
    let l = c.index_mut.result.now in
    let all : c.into_vec-all.result.items ≡ lines =
    grind (arith, common_steps, c.into_vec-all.ensures, c.replace.ensures.value) in
    let long : suc n ≡ length lines = grind (arith, common_steps, c.len-count.ensures, c.if-count-eq0.false) in
    let is : slice_get lines n ≡ Some l =
    slice_get_read lines _ n l refl (omega arith) (rw all at c.index_mut.ensures.value) in
    pushed c.push-pushed.result lines c.from_vec.result n l c.push-pushed.new.self c.args.term
    (c.from_vec.ensures ∙ ap (λ z. set z n c.push-pushed.new.self) all) long is c.push-pushed.ensures.ok
