use Rattle.std.proofs.Common.{◌≡◌, ℕ, true, ◌≤◌, ◌<◌, inr, refl, ◌∙◌, arith}
use Rattle.std.proofs.lemmas.Bool.Decides.{nat_tests}
use Rattle.sq_rewrite.specs.Rewritings.{is_redirect_code}
use Rattle.sq_turns.specs.declared.ends.Carried.TheVariants.{Closes}
use Rattle.sq_turns.proofs.OwnReplyLaws.{tells_nothing, tells_same}
use Rattle.sq_turns.proofs.own_replies.send_elsewhere.Goals as goal

-- a status of a redirect is one
code_fits : (n : ℕ) → is_redirect_code n ≡ true → (100 ≤ n) × (n < 1000)
code_fits n e = (grind (arith, nat_tests, e), grind (arith, nat_tests, e))

pub redirect_text-requires : goal.redirect_text-requires
redirect_text-requires g c = code_fits c.args.status c.requires.code

pub returns-in_default-clause-tells : goal.returns-in_default-clause-tells
returns-in_default-clause-tells g c = record { is = tells_nothing _ _ }

pub write_reply-requires : goal.write_reply-requires
write_reply-requires g c = record { plain = inr refl }

pub returns-clause-tells : goal.returns-clause-tells
returns-clause-tells g c = tells_same _ _ Closes Closes (c.as_bytes.ensures.value ∙ c.in-Ok.ensures.text) refl
    c.write_reply.ensures.tells
