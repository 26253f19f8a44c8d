-- Requests that are made, and events that may only stand first.
use Rattle.std.proofs.Common.{◌≡◌, ℕ, ℤ, List, Bool, true, false, ◌&&◌, if◌then◌else◌, nat_le, length, Option, Some, None, is_some, refl, sym, ap, ◌∙◌}
use Rattle.std.proofs.lemmas.Option.{none-some, same_Some}
use Rattle.std.specs.Option.{option_map}
use Rattle.sq_base.specs.Requests.{HttpRequest}
use Rattle.sq_base.specs.Targets.{Target, target_of}
use Rattle.sq_base.specs.declared.requests.Field.{Field}
use Rattle.sq_request.specs.Heads.{at_target, most_fields, request_with}
use Rattle.sq_request.specs.Written.{is_written, made_request}
use Rattle.sq_machine.specs.declared.entries.Event.TheVariants.{Begin}
use Rattle.sq_rules.specs.Configurations.{Configuration}
use Rattle.sq_machine.specs.Entries.{History}
use Rattle.sq_machine.specs.Machine.{next, next_at}
use Rattle.sq_machine.specs.Marking.{marked}
use Rattle.sq_rules.specs.Sights.{asked_request}
use Rattle.sq_rules.specs.Sights as sights
use Rattle.sq_replay.specs.Making.{is_refused}

-- what a made request is
pub record IsMadeOf (method target : List ℕ) (fields : List Field) (r : HttpRequest) : Type 0 where
  pub request_is : r ≡ asked_request method target fields
  pub has_form : is_some (target_of method target) ≡ true

with_target : (method target : List ℕ) (fields : List Field) (o : Option Target) (r : HttpRequest)
    → target_of method target ≡ o
    → option_map (at_target method target 1 fields) o ≡ Some r → IsMadeOf method target fields r
with_target method target fields None r e f = absurd (none-some r f)
with_target method target fields (Some t) r e f = record {
  request_is = sym (same_Some _ _ f) ∙ sym (ap (sights.asked_with method target fields) e);
  has_form = ap is_some e;
}

if_made : (method target : List ℕ) (fields : List Field) (b : Bool) (r : HttpRequest)
    → (if b then request_with method target 1 fields else None) ≡ Some r → IsMadeOf method target fields r
if_made method target fields true r e = with_target method target fields (target_of method target) r refl e
if_made method target fields false r e = absurd (none-some r e)

pub made_of : (method target : List ℕ) (fields : List Field) (r : HttpRequest)
    → made_request method target 1 fields ≡ Some r → IsMadeOf method target fields r
made_of method target fields r e =
    if_made method target fields (is_written method target 1 fields && nat_le (length fields) most_fields) r e

-- the machine begins once
pub begin_refused : (configs : List Configuration) (h : History) (moment : ℕ) (offset : ℤ)
    → is_refused (next configs (marked configs h) moment (Begin offset)) ≡ true
unfolding next next_at
begin_refused configs h moment offset = refl
