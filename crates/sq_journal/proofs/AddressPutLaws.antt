-- Texts of addresses that are written in pieces.
use Rattle.std.proofs.Common.{◌≡◌, ℕ, ◌+◌, ◌<◌, ◌≤◌, true, false, List, [], ◌∷◌, ◌++◌, codes, length, get_or, take, drop, if◌then◌else◌, nat_lt, refl, sym, ap, ◌∙◌, append_assoc, arith}
use Rattle.std.proofs.lemmas.Bool.Decides.{nat_tests}
use Rattle.std.specs.List.{flat_map}
use Rattle.std.specs.Net.Text.{compressed_text, groups_text, hex, hex_groups_text, longest_zero_run}

-- groups with a run of two zeros or more
pub shortened : (groups : List ℕ) (run : ℕ × ℕ) → run ≡ longest_zero_run groups → 1 < run.1
    → groups_text (take run.0 groups) ++ (codes "::" ++ groups_text (drop (run.0 + run.1) groups))
    ≡ hex_groups_text groups
unfolding hex_groups_text
shortened groups run e long =
    let test : nat_lt 1 run.1 ≡ true = grind (arith, nat_tests, long) in
    let front = groups_text (take run.0 groups) in
    let back = groups_text (drop (run.0 + run.1) groups) in
    sym (append_assoc front (codes "::") back)
    ∙ ap (λ b. if b then front ++ codes "::" ++ back else groups_text groups) (sym test) ∙ ap (compressed_text groups) e

-- groups without one
pub unshortened : (groups : List ℕ) (run : ℕ × ℕ) → run ≡ longest_zero_run groups → run.1 ≤ 1
    → groups_text groups ≡ hex_groups_text groups
unfolding hex_groups_text
unshortened groups run e short =
    let test : nat_lt 1 run.1 ≡ false = grind (arith, nat_tests, short) in
    ap (λ b. if b then groups_text (take run.0 groups) ++ codes "::" ++ groups_text (drop (run.0 + run.1) groups)
    else groups_text groups) (sym test) ∙ ap (compressed_text groups) e

-- groups are their first and the others
pub groups_first : (groups : List ℕ) → 0 < length groups
    → hex (get_or groups 0 0) ++ flat_map (λ g. codes ":" ++ hex g) (drop 1 groups) ≡ groups_text groups
groups_first [] some = absurd (omega (arith, some))
groups_first (g ∷ groups) some = refl
