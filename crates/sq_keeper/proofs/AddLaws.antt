-- What a desk was handed, over several calls.
use Rattle.std.proofs.Common.{◌≡◌, List, [], ◌++◌, Some, None, refl, sym, ap, ◌∙◌, append_assoc, append-nil}
use Rattle.std.specs.declared.option.Option.{Option}
use Rattle.sq_keeper.specs.declared.desk.Handed.{Handed}
use Rattle.sq_keeper.specs.Handing.{Adds}

pub adds_none : (a : Option (List Handed)) → Adds a a []
adds_none None = tt
adds_none (Some xs) = (xs, refl, sym (append-nil xs))

at_some : (a b : Option (List Handed)) (xs ys zs : List Handed) → b ≡ Some ys → Adds a b xs → zs ≡ ys
    → (before : List Handed) × (a ≡ Some before) × (zs ≡ before ++ xs)
at_some a None xs ys zs e h k = absurd (cc)
at_some a (Some y) xs ys zs e h k = let same : y ≡ ys = cc in (h.0, h.1, k ∙ sym same ∙ h.2)

pub adds_more : (a b c : Option (List Handed)) (xs ys : List Handed) → Adds a b xs → Adds b c ys → Adds a c (xs ++ ys)
adds_more a b None xs ys h k = tt
adds_more a b (Some now) xs ys h k =
    let first = at_some a b xs k.0 k.0 k.1 h refl in
    (first.0, first.1, k.2 ∙ ap (λ l. l ++ ys) first.2 ∙ append_assoc first.0 xs ys)
