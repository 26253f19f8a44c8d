-- From matchers to the programs that they search for.
use Rattle.std.proofs.Common.{◌≡◌, ℕ, ◌+◌, ◌<◌, suc, List, ◌||◌, Bool, true, false, drop, get_or, length, sym, ap, ◌∙◌, subst, drop-cons, add-one}
use Rattle.std.proofs.Math.ListN.{get_or-map}
use Rattle.std.proofs.lemmas.List.{length-map}
use Rattle.sq_urlmatch.specs.Matchers.{programs_in}
use Rattle.sq_urlmatch.specs.Programs.{program_found, some_program}
use Rattle.sq_urlmatch.specs.declared.matcher.Matcher.{Matcher}

-- the programs from a place on are that of the matcher there and those behind it
pub programs_from : (text : List ℕ) (matchers : List Matcher) (k : ℕ) (d : Matcher) → k < length matchers →
    some_program text (drop k (programs_in matchers))
    ≡ (program_found text (get_or matchers k d).program || some_program text (drop (k + 1) (programs_in matchers)))
programs_from text matchers k d within =
    let inside : k < length (programs_in matchers) =
    subst (λ n. k < n) (sym (length-map matchers (λ m. m.program))) within in
    rw (add-one k)
    (ap (some_program text) (drop-cons (programs_in matchers) k d.program inside)
    ∙ ap (λ p. program_found text p || some_program text (drop (suc k) (programs_in matchers)))
    (get_or-map (λ (m : Matcher). m.program) matchers k d))

-- what is found there decides, or leaves it to those behind it
pub found_here : (found : Bool) (rest whole : Bool) → found ≡ true → (found || rest) ≡ whole → true ≡ whole
found_here true rest whole e is = is
found_here false rest whole e is = cc

pub not_here : (found : Bool) (rest whole : Bool) → found ≡ false → (found || rest) ≡ whole → rest ≡ whole
not_here true rest whole e is = cc
not_here false rest whole e is = is
