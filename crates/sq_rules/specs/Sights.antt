-- In the statement: docs/STATEMENT.md lists which definitions.
-- What a check sees: the request of its method, target and fields, and the local time.
use Rattle.std.specs.Prelude.{◌≡◌, ℕ, ◌+◌, ◌*◌, ◌/◌, ℤ, pos, ◌+ℤ◌, ◌*ℤ◌, unsigned_abs, List, [], Some, None}
use Rattle.std.specs.Int.{int_div_euclid, int_rem_euclid}
use Rattle.std.specs.declared.option.Option.{Option}
use Rattle.sq_base.specs.Requests.{HttpRequest}
use Rattle.sq_base.specs.Targets.{Target, target_of}
use Rattle.sq_base.specs.declared.requests.Field.{Field}
use Rattle.sq_rules.specs.Times.{day_minutes}
use Rattle.sq_rules.specs.declared.sights.Sight.{Sight}

-- a request of version 1.1 with the parts of its target; without parts where the target has no form
abbrev pub asked_with : List ℕ → List ℕ → List Field → Option Target → HttpRequest
asked_with method target fields None =
    record {
      method = method;
      target = target;
      scheme = [];
      host = [];
      literal = None;
      port = 0;
      path = [];
      minor = 1;
      fields = fields;
    }
asked_with method target fields (Some t) =
    record {
      method = method;
      target = target;
      scheme = t.scheme;
      host = t.host;
      literal = t.literal;
      port = t.port;
      path = t.path;
      minor = 1;
      fields = fields;
    }

-- the request of a method, a target and fields
abbrev pub asked_request : List ℕ → List ℕ → List Field → HttpRequest
asked_request method target fields = asked_with method target fields (target_of method target)

-- a request but for its HTTP version, of which an entry holds none: it is read as version 1.1
abbrev pub unversioned : HttpRequest → HttpRequest
unversioned r = record r { minor = 1 }

-- a sight but for the version of its request
abbrev pub unversioned_sight : Sight → Sight
unversioned_sight s = record s { request = unversioned s.request }

-- two sights are the same where they agree in all but `minor`
abbrev pub IsSameSight : Sight → Sight → Type 0
IsSameSight s t = unversioned_sight s ≡ unversioned_sight t

-- seconds of local time since 1970, at this moment and this offset in minutes
abbrev pub local_seconds : ℕ → ℤ → ℤ
local_seconds moment offset = pos (moment / 1000) +ℤ (pos 60 *ℤ offset)

-- the weekday, from Sunday as 0: 1970-01-01 was a Thursday
abbrev pub weekday : ℤ → ℕ
weekday seconds = unsigned_abs
    (int_rem_euclid (int_div_euclid seconds (pos 86400) +ℤ pos 4) (pos 7))

-- the minute of the day
abbrev pub minute_of_day : ℤ → ℕ
minute_of_day seconds = unsigned_abs (int_rem_euclid seconds (pos 86400)) / 60

-- the local minute of the week, from Sunday 00:00 as 0
abbrev pub minute_of_week : ℕ → ℤ → ℕ
minute_of_week moment offset = weekday (local_seconds moment offset) * day_minutes
    + minute_of_day (local_seconds moment offset)
