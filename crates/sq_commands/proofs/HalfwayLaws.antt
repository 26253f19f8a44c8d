-- A text that is written in pieces.
use Rattle.std.proofs.Common.{◌≡◌, ℕ, List, [], ◌++◌, sym, ap, ◌∙◌, append_assoc, append-nil, subst}
use Rattle.std.proofs.KnownBytes.{Appends-trans}
use Rattle.std.specs.declared.option.Option.{Option}
use Rattle.std.specs.Io.KnownBytes.{Appends}
use Rattle.sq_outside.specs.Output.{Grew, IsPrefix}
use Rattle.sq_outside.proofs.Writing.{Grew_after, Grew_map, IsPrefix_trans}
use Rattle.sq_commands.specs.Pieces.{Halfway}

-- one piece more
pub halfway_more : (a b c : Option (List ℕ)) (whole rest piece next : List ℕ) → Halfway a b whole rest
    → rest ≡ piece ++ next → Appends b c piece → Halfway a c whole next
halfway_more a b c whole rest piece next h e wrote = record {
  done = h.done ++ piece;
  wrote = Appends-trans a b c h.done piece h.wrote wrote;
  whole_is = append_assoc h.done piece next ∙ ap (λ r. h.done ++ r) (sym e) ∙ h.whole_is;
}

-- nothing is to come
pub halfway_done : (a b : Option (List ℕ)) (whole rest : List ℕ) → Halfway a b whole rest → rest ≡ []
    → Appends a b whole
halfway_done a b whole rest h e = subst (Appends a b)
    (sym (append-nil h.done) ∙ ap (λ r. h.done ++ r) (sym e) ∙ h.whole_is) h.wrote

-- a part of the next piece
pub halfway_part : (a b c : Option (List ℕ)) (whole rest piece next : List ℕ) → Halfway a b whole rest
    → rest ≡ piece ++ next
    → Grew b c (λ part. IsPrefix part piece) → Grew a c (λ part. IsPrefix part whole)
halfway_part a b c whole rest piece next h e grew =
    Grew_map a c _ _ (λ bytes p. IsPrefix_trans bytes (h.done ++ piece) whole p
    (next, sym (append_assoc h.done piece next ∙ ap (λ r. h.done ++ r) (sym e) ∙ h.whole_is)))
    (Grew_after a b c h.done piece h.wrote grew)
