-- What terms come to, with the first tag of the acls that they look at.
use Rattle.std.specs.Prelude.{ℕ, List, [], ◌∷◌, Bool, if◌then◌else◌, map, slice_get, None}
use Rattle.std.specs.Option.{option_or}
use Rattle.std.specs.declared.option.Option.{Option}
use Rattle.sq_rules.specs.Tags.{first_tag, tag_at}
use Rattle.sq_rules.specs.Values.{acl_value, both, either, taken_at}
use Rattle.sq_rules.specs.Walks.{Seen, acl_walk, is_hit, is_miss, term_seen}
use Rattle.sq_rules.specs.declared.configs.Rule.{Rule}
use Rattle.sq_rules.specs.declared.configs.Term.{Term}
use Rattle.sq_rules.specs.declared.values.TermValue.{TermValue}
use Rattle.sq_checks.specs.declared.tags.TagInputs.{TagInputs}
use Rattle.sq_checks.specs.declared.tags.Traced.{Traced}

-- something with its value and the first tag of its walk
abbrev pub trace : (ℕ → Option (List ℕ)) → Seen → Traced
trace tag x = record { value = x.value; tag = first_tag tag x.walk }

-- the first tag of some, up to the first whose value does not go on
abbrev pub tags_while : (TermValue → Bool) → List Traced → Option (List ℕ)
tags_while goes_on [] = None
tags_while goes_on (x ∷ xs) = option_or x.tag
    (if goes_on x.value then tags_while goes_on xs else None)

-- a line: its terms from left to right, up to the first that is no match
abbrev pub all_traced : List Traced → Traced
all_traced xs = record { value = both (map (λ x. x.value) xs); tag = tags_while is_hit xs }

-- some of these, up to the first that is no mismatch
abbrev pub some_traced : List Traced → Traced
some_traced xs = record { value = either (map (λ x. x.value) xs); tag = tags_while is_miss xs }

abbrev pub taken_by_tags : TagInputs → ℕ → TermValue
taken_by_tags t = taken_at t.config.now t.sight.now t.answers.now

abbrev pub tags_in : TagInputs → ℕ → Option (List ℕ)
tags_in t = tag_at t.config.now t.sight.now t.answers.now

-- a term
abbrev pub term_traced : TagInputs → Term → Traced
term_traced t x = trace (tags_in t) (term_seen (taken_by_tags t) t.config.now.acls x)

-- the acl at a place
abbrev pub acl_traced : TagInputs → ℕ → Traced
acl_traced t place =
    let f = term_seen (taken_by_tags t) t.config.now.acls in
    trace (tags_in t) (record {
      value = acl_value (taken_by_tags t) (λ m. (f m).value) place
          (slice_get t.config.now.acls place);
      walk = acl_walk f place (slice_get t.config.now.acls place);
    })

abbrev pub line_traced : TagInputs → List Term → Traced
line_traced t terms = all_traced (map (term_traced t) terms)

-- rules, up to the first that decides
abbrev pub rules_tag : TagInputs → List Rule → Option (List ℕ)
rules_tag t rules = tags_while is_miss (map (λ r. line_traced t r.terms) rules)
