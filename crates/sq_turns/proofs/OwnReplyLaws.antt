-- Texts of the proxy's own.
use Rattle.std.proofs.Common.{◌≡◌, ◌⊎◌, inl, inr, ℕ, List, Bool, Option, refl, sym, ap, subst}
use Rattle.std.specs.Io.KnownBytes.{Appends}
use Rattle.sq_outside.proofs.Writing.{Grew_none, IsPrefix_nil}
use Rattle.sq_outside.specs.Output.{IsPrefix, Grew}
use Rattle.sq_message.specs.OwnReplies.{error_text}
use Rattle.sq_message.specs.declared.own.Own.{Own}
use Rattle.sq_turns.specs.Steps.{EndHasCause, dry_after}
use Rattle.sq_turns.specs.Written.{WritesReply}
use Rattle.sq_turns.specs.declared.ends.Carried.{Carried}
use Rattle.sq_turns.specs.declared.ends.Carried.TheVariants.{Stays, Closes}

-- it goes on, or closes
abbrev pub IsPlain : Carried → Type 0
IsPlain then = (then ≡ Stays) ⊎ (then ≡ Closes)

pub tells_then : (text : List ℕ) (a b : Option (List ℕ)) (then : Carried) → IsPlain then → Appends a b text
    → WritesReply text then a b then
tells_then text a b then (inl e) w = subst (λ z. WritesReply text z a b z) (sym e) (record { is = (refl, w) })
tells_then text a b then (inr e) w = subst (λ z. WritesReply text z a b z) (sym e) (record { is = (refl, w) })

pub cause_then : (A B : Type 0) (then : Carried) → IsPlain then → EndHasCause A B then
cause_then A B then (inl e) = subst (EndHasCause A B) (sym e) tt
cause_then A B then (inr e) = subst (EndHasCause A B) (sym e) tt

pub dry_then : (then : Carried) → IsPlain then → dry_after then ≡ 0
dry_then then (inl e) = ap dry_after e
dry_then then (inr e) = ap dry_after e

-- nothing was written
pub tells_nothing : (text : List ℕ) (a : Option (List ℕ)) → Grew a a (λ part. IsPrefix part text)
tells_nothing text a = Grew_none a (λ part. IsPrefix part text) (IsPrefix_nil text)

-- the same text and end
pub tells_same : {a b : Option (List ℕ)} {ended : Carried} (one other : List ℕ) (then goes : Carried) → one ≡ other
    → then ≡ goes → WritesReply one then a b ended → WritesReply other goes a b ended
tells_same {a} {b} {ended} one other then goes e f w = subst (λ z. WritesReply other z a b ended) f
    (subst (λ z. WritesReply z then a b ended) e w)

-- an own reply, by whether it has a body
pub tells_as : {a b : Option (List ℕ)} {ended : Carried} (own : Own) (one other : Bool) → one ≡ other
    → WritesReply (error_text own one) Closes a b ended → WritesReply (error_text own other) Closes a b ended
tells_as {a} {b} {ended} own one other e w = subst (λ z. WritesReply (error_text own z) Closes a b ended) e w
