-- How far the rules have come for each name, as one more rule comes.
use Rattle.std.proofs.Common.{◌≡◌, ℕ, List, [], ◌∷◌, Bool, true, false, ◌&&◌, cond, Option, Some, None, IfSome, inl, inr, refl, sym, ap, subst, ◌∙◌}
use Rattle.std.proofs.lemmas.Bool.{cases_Bool}
use Rattle.std.proofs.lemmas.Map.Text.{is_eq-slice_cmp}
use Rattle.std.specs.BTreeMap.{is_at}
use Rattle.std.specs.Cmp.Lexicographic.{slice_cmp, same_text}
use Rattle.std.specs.Map.{lookup}
use Rattle.std.specs.Ordering.{nat_cmp}
use Rattle.std.specs.Prelude.{bytes_eq, unwrap_or}
use Rattle.sq_eval.specs.Takings.{fact_taken}
use Rattle.sq_forward.specs.Access.{allowed_by}
use Rattle.sq_rules.specs.Configurations.{Configuration}
use Rattle.std.specs.Str.{str_eq_ignore_ascii_case, str_to_ascii_lowercase}
use Rattle.sq_forward.proofs.RuleLaws.{allowed_is, own_rule, other_rule}
use Rattle.sq_forward.specs.Standings.{others_allowed, settled, standing_at, AreStandings}
use Rattle.sq_forward.specs.declared.standing.Standing.{Standing}
use Rattle.sq_forward.specs.declared.standing.Standing.TheVariants.{Unnamed}
use Rattle.sq_rules.specs.Verdicts.{is_same_way, rules_for}
use Rattle.sq_rules.specs.declared.configs.Acl.{Acl}
use Rattle.sq_rules.specs.declared.configs.Rule.{Rule}
use Rattle.sq_rules.specs.declared.headers.HeaderRule.{HeaderRule}
use Rattle.sq_rules.specs.declared.values.TermValue.{TermValue}

-- after one key changed
pub standing_after : (key k : List ℕ) (w : Option Standing) (before after : List (List ℕ × Standing))
    → lookup (is_at (slice_cmp nat_cmp k)) after
    ≡ cond (is_at (slice_cmp nat_cmp key) k) w (lookup (is_at (slice_cmp nat_cmp k)) before)
    → standing_at after k ≡ cond (bytes_eq key k) w (standing_at before k)
standing_after key k w before after h = h ∙ ap (λ b. cond b w (standing_at before k)) (is_eq-slice_cmp key k)

-- what holds of all standings, and of one more
pub put_all : (P : Standing → Type 0) (t : Bool) (s : Standing) (before after : Option Standing)
    → after ≡ cond t (Some s) before → P s → IfSome before P → IfSome after P
put_all P true s before after is new old = subst (λ o. IfSome o P) (sym is) new
put_all P false s before after is new old = subst (λ o. IfSome o P) (sym is) old

-- before any rule came
pub begins : (taken : ℕ → TermValue) (acls : List Acl) (reply : Bool) (headers : List HeaderRule)
    (table : List (List ℕ × Standing))
    → ((key : List ℕ) → IfSome (standing_at table key) (λ s. s ≡ Unnamed))
    → AreStandings taken acls reply headers headers table
begins taken acls reply headers table h name =
    by (standing_at table (str_to_ascii_lowercase name)) (h (str_to_ascii_lowercase name))
  where
    by : (o : Option Standing) → IfSome o (λ s. s ≡ Unnamed)
        → IfSome o (λ s. settled taken acls s (rules_for reply name headers)
        ≡ settled taken acls Unnamed (rules_for reply name headers))
    by None e = tt
    by (Some s) e = ap (λ u. settled taken acls u (rules_for reply name headers)) e

-- what the rules for a name have come to, at the standing of that name
abbrev pub StandsAt : (ℕ → TermValue) → List Acl → Bool → List HeaderRule → List HeaderRule → List ℕ → Standing
    → Type 0
StandsAt taken acls reply headers rest name s =
    settled taken acls s (rules_for reply name rest) ≡ settled taken acls Unnamed (rules_for reply name headers)

-- a rule that is not for the name
pub passed_over : (taken : ℕ → TermValue) (acls : List Acl) (reply : Bool) (headers rest : List HeaderRule)
    (h : HeaderRule) (name : List ℕ) (o : Option Standing)
    → (is_same_way h.reply reply && str_eq_ignore_ascii_case h.name name) ≡ false
    → IfSome o (StandsAt taken acls reply headers (h ∷ rest) name)
    → IfSome o (StandsAt taken acls reply headers rest name)
passed_over taken acls reply headers rest h name None other at = tt
passed_over taken acls reply headers rest h name (Some s) other at =
    ap (settled taken acls s) (sym (other_rule reply name h rest other)) ∙ at

-- a rule of the other direction
pub other_way : (taken : ℕ → TermValue) (acls : List Acl) (reply : Bool) (h : HeaderRule)
    (table : List (List ℕ × Standing)) → is_same_way h.reply reply ≡ false → (headers rest : List HeaderRule)
    → AreStandings taken acls reply headers (h ∷ rest) table → AreStandings taken acls reply headers rest table
other_way taken acls reply h table way headers rest were name =
    passed_over taken acls reply headers rest h name (standing_at table (str_to_ascii_lowercase name))
    (ap (λ t. t && str_eq_ignore_ascii_case h.name name) way) (were name)

both_hold : (a b : Bool) → a ≡ true → b ≡ true → (a && b) ≡ true
both_hold a b e f = rw (e, f) refl

right_fails : (a b : Bool) → b ≡ false → (a && b) ≡ false
right_fails true b e = e
right_fails false b e = refl

-- a rule for a name that stands here
pub one_on : (taken : ℕ → TermValue) (acls : List Acl) (reply : Bool) (h : HeaderRule) (s new : Standing)
    (before after : List (List ℕ × Standing))
    → is_same_way h.reply reply ≡ true → standing_at before (str_to_ascii_lowercase h.name) ≡ Some s
    → ((rules : List Rule) → settled taken acls new rules ≡ settled taken acls s (h.rule ∷ rules))
    → ((k : List ℕ) → standing_at after k
    ≡ cond (bytes_eq (str_to_ascii_lowercase h.name) k) (Some new) (standing_at before k))
    → (headers rest : List HeaderRule)
    → AreStandings taken acls reply headers (h ∷ rest) before → AreStandings taken acls reply headers rest after
one_on taken acls reply h s new before after way here on put headers rest were name =
    let key = str_to_ascii_lowercase name in
    elim (cases_Bool (str_eq_ignore_ascii_case h.name name)) [
      | inl alike ↦
          let same : str_to_ascii_lowercase h.name ≡ key =
          same_text (str_to_ascii_lowercase h.name) key (sym alike) in
          let stood : StandsAt taken acls reply headers (h ∷ rest) name s =
          subst (λ o. IfSome o (StandsAt taken acls reply headers (h ∷ rest) name))
          (ap (standing_at before) (sym same) ∙ here) (were name) in
          let is : standing_at after key ≡ Some new =
          put key ∙ ap (λ t. cond t (Some new) (standing_at before key)) alike in
          subst (λ o. IfSome o (StandsAt taken acls reply headers rest name)) (sym is)
          (on (rules_for reply name rest)
          ∙ ap (settled taken acls s) (sym (own_rule reply name h rest
          (both_hold (is_same_way h.reply reply) (str_eq_ignore_ascii_case h.name name) way alike)))
          ∙ stood)
      | inr other ↦
          let is : standing_at after key ≡ standing_at before key =
          put key ∙ ap (λ t. cond t (Some new) (standing_at before key)) other in
          subst (λ o. IfSome o (StandsAt taken acls reply headers rest name)) (sym is)
          (passed_over taken acls reply headers rest h name (standing_at before key)
          (right_fails (is_same_way h.reply reply) (str_eq_ignore_ascii_case h.name name) other) (were name))
    ]

-- a rule for a name that does not stand here
pub none_on : (taken : ℕ → TermValue) (acls : List Acl) (reply : Bool) (h : HeaderRule)
    (table : List (List ℕ × Standing)) → standing_at table (str_to_ascii_lowercase h.name) ≡ None
    → (headers rest : List HeaderRule)
    → AreStandings taken acls reply headers (h ∷ rest) table → AreStandings taken acls reply headers rest table
none_on taken acls reply h table none headers rest were name =
    let key = str_to_ascii_lowercase name in
    elim (cases_Bool (str_eq_ignore_ascii_case h.name name)) [
      | inl alike ↦
          let same : str_to_ascii_lowercase h.name ≡ key =
          same_text (str_to_ascii_lowercase h.name) key (sym alike) in
          subst (λ o. IfSome o (StandsAt taken acls reply headers rest name))
          (sym (ap (standing_at table) (sym same) ∙ none)) tt
      | inr other ↦ passed_over taken acls reply headers rest h name (standing_at table key)
          (right_fails (is_same_way h.reply reply) (str_eq_ignore_ascii_case h.name name) other) (were name)
    ]

-- what the rules for a name have come to decides of it
pub decided_by : (c : Configuration) (facts : List Bool) (reply : Bool) (table : List (List ℕ × Standing))
    (name : List ℕ) (s : Standing) (others : Bool)
    → AreStandings (fact_taken facts) c.acls reply c.headers [] table
    → standing_at table (str_to_ascii_lowercase name) ≡ Some s → others ≡ others_allowed c facts reply
    → unwrap_or (settled (fact_taken facts) c.acls s []) others ≡ allowed_by c facts reply name
decided_by c facts reply table name s others are here is =
    let at : StandsAt (fact_taken facts) c.acls reply c.headers [] name s =
    subst (λ o. IfSome o (StandsAt (fact_taken facts) c.acls reply c.headers [] name)) here (are name) in
    ap (λ o. unwrap_or o others) at
    ∙ ap (unwrap_or (settled (fact_taken facts) c.acls Unnamed (rules_for reply name c.headers))) is
    ∙ sym (allowed_is c facts reply name)
