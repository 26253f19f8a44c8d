-- A check whose outcome was taken.
use Rattle.std.specs.Prelude.{◌≡◌, ℕ, List, Bool, true, false, not, slice_get, ⊤}
use Rattle.std.specs.Option.{option_map_or}
use Rattle.std.specs.declared.option.Option.{Option}
use Rattle.sq_base.specs.Addresses.{Address}
use Rattle.sq_base.specs.declared.helpers.Answer.{Answer}
use Rattle.sq_machine.specs.SeatPlaces.{has_tags}
use Rattle.sq_machine.specs.declared.places.SeatPlace.{SeatPlace}
use Rattle.sq_machine.specs.declared.places.SeatPlace.TheVariants.{Nowhere, ByAddress, ByTag}
use Rattle.sq_rules.specs.Configurations.{Configuration}
use Rattle.sq_rules.specs.Facts.{facts_of}
use Rattle.sq_rules.specs.Verdicts.{is_passed_over, pool_of, verdict_over}
use Rattle.sq_rules.specs.declared.outcomes.Outcome.{Outcome}
use Rattle.sq_rules.specs.declared.pools.Pool.{Pool}
use Rattle.sq_rules.specs.declared.sights.Sight.{Sight}
use Rattle.sq_rules.specs.declared.values.Value.TheVariants as value
use Rattle.sq_checks.specs.Givens.{looks_over}
use Rattle.sq_checks.specs.OpenChecks.{CheckParts}

-- a check that is over: its number, its epoch with the configuration, what it saw, its answers in
-- order, the outcome, its pool, how many facts were looked at, and how often it was stepped
pub record Judged : Type 0 where
  pub check : ℕ
  pub epoch : ℕ
  pub config : Configuration
  pub sight : Sight
  pub answers : List Answer
  pub outcome : Outcome
  pub pool : Option ℕ
  pub looks : ℕ
  pub steps : ℕ

-- its facts are those of what was seen, the outcome is the verdict of the configuration over that
-- and the answers, the pool is theirs, and as many facts were looked at as the walk of that verdict
-- has leaf acls
pub record IsJudged (r : Judged) (facts : List Bool) : Type 0 where
  pub facts_are : facts ≡ facts_of r.config.acls r.sight
  pub verdict_is : verdict_over r.answers r.config r.sight ≡ value.Verdict r.outcome
  pub pool_is : r.pool ≡ pool_of r.config r.sight
  pub looks_are : r.looks ≡ looks_over r.answers r.config r.sight

-- what is left of an open check with this number and outcome
abbrev pub judged_of : ℕ → Outcome → CheckParts → Judged
judged_of n o c = record {
  check = n;
  epoch = c.epoch;
  config = c.config;
  sight = c.sight;
  answers = c.answers;
  outcome = o;
  pool = c.pool;
  looks = c.looks;
  steps = c.steps;
}

-- the pool at a place is there, and a client of this address does not pass over it
abbrev pub takes_client : List Pool → Address → ℕ → Bool
takes_client pools a place = option_map_or (λ p. not (is_passed_over a p)) (slice_get pools place)
    false

-- its pool, if it has one, has buckets by tags
abbrev pub needs_tag : Judged → Bool
needs_tag j = option_map_or (has_tags j.config.pools) j.pool false

-- the pool of a place takes the client of the record, or has buckets by tags
abbrev pub TakesClient : Judged → SeatPlace → Type 0
TakesClient j Nowhere = ⊤
TakesClient j (ByAddress pool) = (takes_client j.config.pools j.sight.addr pool ≡ true)
    × (has_tags j.config.pools pool ≡ false)
TakesClient j (ByTag pool tag) = has_tags j.config.pools pool ≡ true
