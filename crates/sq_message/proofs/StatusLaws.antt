-- What is written of a status.
use Rattle.std.proofs.Common.{◌≡◌, ℕ, List, [], ◌∷◌, ◌++◌, Some, None, codes, append_assoc, refl, ap, ◌∙◌}
use Rattle.std.specs.Prelude.{unwrap_or}
use Rattle.http.specs.StatusCode.{code_digits, reason_phrase}
use Rattle.sq_message.specs.OwnReplies.{own_status}
use Rattle.sq_message.specs.Statuses.{status_words, own_code}
use Rattle.sq_message.specs.declared.own.Own.{Own}
use Rattle.sq_message.specs.declared.own.Own.TheVariants.{BadRequest, HeadTooLarge, Inner, Stopped, NoMemory, NotImplemented, BadGateway, TooManyConns}

-- a code, a space and a phrase are put
pub phrase_put : (status : ℕ) (to digits front back bytes phrase : List ℕ) → digits ≡ code_digits status
    → front ≡ to ++ digits → back ≡ front ++ 32 ∷ []
    → bytes ≡ phrase → Some phrase ≡ reason_phrase status → back ++ bytes ≡ to ++ status_words status
unfolding status_words
phrase_put status to digits front back bytes phrase d f b p has =
    let parts : back ++ bytes ≡ to ++ (code_digits status ++ 32 ∷ phrase) = rw (b, f, d, p) (simp append_assoc) in
    parts ∙ ap (λ o. to ++ (code_digits status ++ 32 ∷ unwrap_or o [])) has

-- a code that has no phrase, and a space
pub bare_put : (status : ℕ) (to digits front back : List ℕ) → digits ≡ code_digits status → front ≡ to ++ digits
    → back ≡ front ++ 32 ∷ []
    → None ≡ reason_phrase status → back ≡ to ++ status_words status
unfolding status_words
bare_put status to digits front back d f b none =
    let parts : back ≡ to ++ (code_digits status ++ 32 ∷ []) = rw (b, f, d) (simp append_assoc) in
    parts ∙ ap (λ o. to ++ (code_digits status ++ 32 ∷ unwrap_or o [])) none

pub forbidden : status_words 403 ≡ codes "403 Forbidden"
unfolding status_words
forbidden = refl

pub own_statuses : (own : Own) → status_words (own_code own) ≡ own_status own
unfolding status_words
own_statuses BadRequest = refl
own_statuses HeadTooLarge = refl
own_statuses Inner = refl
own_statuses Stopped = refl
own_statuses NoMemory = refl
own_statuses NotImplemented = refl
own_statuses BadGateway = refl
own_statuses TooManyConns = refl
