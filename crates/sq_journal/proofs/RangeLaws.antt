-- Fields one by one.
use Rattle.std.proofs.Common.{◌≡◌, ℕ, ◌≤◌, List, [], ◌∷◌, ◌++◌, length, take, sym, ap, ◌∙◌, All, append-nil, take-append-drop}
use Rattle.std.proofs.Math.ListN.{drop_of_length-le}
use Rattle.std.proofs.lemmas.List.Elements.{All-head, All-tail}
use Rattle.sq_base.specs.declared.requests.Field.{Field}
use Rattle.sq_journal.specs.Values.{IsField, AreFields}

-- fields are so where each is
pub each_field : (fs : List Field) → All IsField fs → AreFields fs
each_field [] h = tt
each_field (f ∷ fs) h = (All-head IsField f fs h, each_field fs (All-tail IsField f fs h))

-- a front that is as long as the list
pub take_whole : {A : Type 0} (xs : List A) (n : ℕ) → length xs ≤ n → take n xs ≡ xs
take_whole xs n h = sym (append-nil (take n xs)) ∙ ap (λ l. take n xs ++ l) (sym (drop_of_length-le xs h))
    ∙ take-append-drop n xs
