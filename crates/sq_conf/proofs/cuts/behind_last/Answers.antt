use Rattle.std.proofs.Common.{◌≡◌, ◌<◌, ◌≤◌, ◌-◌, ℕ, List, length, get_or, take, drop, false, not, ◌==◌, sym, ap, ◌∙◌, arith, length-drop}
use Rattle.std.proofs.lemmas.Bool.Decides.{nat_tests}
use Rattle.std.proofs.lemmas.List.{take_all}
use Rattle.std.proofs.lemmas.List.Sums.{suffix_len_is}
use Rattle.std.specs.List.{after_last}
use Rattle.sq_conf.proofs.cuts.behind_last.Goals as goal
use Rattle.sq_conf.proofs.cuts.behind_last.Goals.{then-loop-start-test+else-word-start, else-loop-start-test}

is_same : (a b : ℕ) → a ≡ b → not (a == b) ≡ false
is_same a b e = grind (arith, nat_tests, e)

-- the bytes from n on, where none of these is the wanted one and the byte before them is
behind : (word : List ℕ) (wanted n : ℕ) → n ≤ length word
    → ((k : ℕ) → n ≤ k → k < length word → (get_or word k 0 == wanted) ≡ false)
    → (0 < n → get_or word (n - 1) 0 ≡ wanted)
    → take (length word - n) (drop n word) ≡ after_last (λ b. b == wanted) word
behind word wanted n within none before =
    let long = suffix_len_is (λ b. not (b == wanted)) word n 0 within (λ k from to. ap not (none k from to))
    (λ some. is_same (get_or word (n - 1) 0) wanted (before some)) in
    let at : length word - (length word - n) ≡ n = omega arith in
    take_all (length word - n) (drop n word) (omega (arith, length-drop n word))
    ∙ sym (ap (λ k. drop (length word - k) word) long ∙ ap (λ k. drop k word) at)

pub returns : goal.returns
returns c =
    behind c.args.word.now c.args.wanted c.loop-start.start c.loop-start.invariant.within c.loop-start.invariant.none
    (elim c.loop-start-test.branch
    [ then-loop-start-test+else-word-start w ↦ λ some. omega arith | else-loop-start-test w ↦ λ some. omega arith ])
