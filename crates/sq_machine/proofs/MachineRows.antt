-- Worked runs of the machine with helpers: what the definitions answer, event by event.
use Rattle.std.specs.Prelude.{◌≡◌, ℕ, pos, List, [], ◌∷◌, ◌++◌, true, false, refl, Some, None, codes}
use Rattle.std.specs.declared.option.Option.{Option}
use Rattle.sq_base.specs.Addresses.{v4}
use Rattle.sq_rules.specs.declared.classes.Token.TheVariants as token
use Rattle.sq_rules.specs.declared.configs.Body.TheVariants as body
use Rattle.sq_machine.specs.declared.entries.Event.{Event}
use Rattle.sq_machine.specs.declared.entries.Event.TheVariants.{Begin, Open, Ask, Step, Take, Started, StartFail, Line, Died, Act, Reconfigure, Seat, Grant, Leave}
use Rattle.sq_machine.specs.declared.entries.Told.{Told}
use Rattle.sq_machine.specs.declared.entries.Told.TheVariants as told
use Rattle.sq_rules.specs.declared.outcomes.Why.TheVariants as why
use Rattle.sq_base.specs.declared.helpers.Cause.TheVariants as cause
use Rattle.sq_base.specs.declared.helpers.Word.TheVariants as word
use Rattle.sq_machine.specs.Checks.{ask_count, ask_of, check_open, open_among, is_done}
use Rattle.sq_machine.specs.Connections.{peer_at, open_besides, open_count, conns_of}
use Rattle.sq_machine.specs.Readings.{offset_of}
use Rattle.sq_rules.specs.declared.leaves.Leaf.TheVariants as leaf
use Rattle.sq_rules.specs.Classes.{Class}
use Rattle.sq_rules.specs.Rates.{Limit}
use Rattle.sq_rules.specs.Configurations.{Configuration}
use Rattle.sq_machine.specs.Machine.{next, next_at}
use Rattle.sq_machine.specs.Next.{Next, gives}
use Rattle.sq_machine.specs.Marking.{mark}
use Rattle.sq_machine.specs.Marks.{Marked, Past}
use Rattle.sq_machine.specs.Farms.{full, start_due}
use Rattle.sq_machine.specs.Transcripts.{line_is}
use Rattle.sq_rules.specs.Keys.{key_text, key_escaped}
use Rattle.sq_base.specs.Targets.{target_of, absolute_form, host_in, port_of, with_scheme, authority_form}
use Rattle.sq_base.specs.Addresses.{v4_of, v6_of, address_of}
use Rattle.sq_base.specs.Decimals.{number_of}
use Rattle.sq_base.specs.Replies.{reply_of, reply_line_in, result_in, pairs_in, reply_word_in, value_in, without_last_cr, unquoted, quoted_len}

-- what happens at a moment
pub record Happening : Type 0 where
  pub moment : ℕ
  pub event : Event

abbrev answered : Next → Told
answered (gives t) = t
answered n = told.NoSeat

abbrev after : List Configuration → Past → ℕ → Event → Marked
after configs m moment event = mark configs m
    (record { moment = moment; event = event; answer = answered (next configs m moment event) })

abbrev run : List Configuration → Past → List Happening → List Told
run configs m [] = []
run configs m (e ∷ es) = let x = after configs m e.moment e.event in x.entry.answer ∷ run configs (x ∷ m) es

abbrev begun_past : List Configuration → Past
begun_past configs = mark configs [] (record { moment = 0; event = Begin (pos 0); answer = told.Epoch 1 }) ∷ []

abbrev at : ℕ → Event → Happening
at moment event = record { moment = moment; event = event }

abbrev class_v : Class
class_v = record {
  name = codes "v";
  ttl = 60;
  negative_ttl = 60;
  grace = 0;
  cache = 262144;
  children_max = 1;
  startup = 0;
  concurrency = 0;
  queue_size = 2;
  format = token.Host ∷ token.Arguments ∷ [];
  words = codes "/bin/h" ∷ [];
}

abbrev config_with : Class → Configuration
config_with class = record {
  source = [];
  dst_lookup = false;
  classes = class ∷ [];
  acls = record { name = codes "x"; body = body.External 0 [] } ∷ [];
  rules = record { allow = true; terms = record { acl = 0; negated = false } ∷ [] } ∷ [];
  pools = [];
  initial = 50;
  port = 3128;
  rewriter = None;
  headers = [];
  notices = [];
}

abbrev opened : ℕ → ℕ → Happening
opened moment conn = at moment (Open conn (v4 167838211) 4000)

abbrev asks_a : ℕ → ℕ → Happening
asks_a moment conn = at moment (Ask conn (codes "GET") (codes "http://a.example/") [])

abbrev asks : ℕ → ℕ → List ℕ → Happening
asks moment conn host = at moment (Ask conn (codes "GET") (codes "http://" ++ host ++ codes "/") [])

abbrev conn : ℕ → ℕ → List ℕ → List Happening
conn moment n host = opened moment n ∷ asks moment n host ∷ []

abbrev a_example : List ℕ
a_example = codes "a.example"

abbrev b_example : List ℕ
b_example = codes "b.example"

abbrev c_example : List ℕ
c_example = codes "c.example"

abbrev runs_with : List Configuration → List Happening → List Told
runs_with configs es = run configs (begun_past configs) es

abbrev first_sent : ℕ → List Happening
first_sent moment = at moment Act ∷ at moment (Started 1 (codes "v")) ∷ at moment Act ∷ []

abbrev allowed : Told
allowed = told.Judged 1 (record { allow = true; why = why.Rule 1 })

abbrev fault_of : Rattle.sq_base.specs.declared.helpers.Cause.Cause → Told
fault_of c = told.Judged 1 (record { allow = false; why = why.Fault 1 (codes "x") c })

-- one check waits for its helper, which says OK
pub one_waits : runs_with (config_with class_v ∷ [])
    (conn 0 1 a_example ++ at 0 (Step 1) ∷ first_sent 0 ++ at 5 (Line 1 (codes "OK")) ∷ at 5 (Step 1) ∷ at 5 (Take 1)
    ∷ [])
    ≡ told.Fine ∷ told.Check 1 ∷ told.Waits 1 ∷ told.Start 1 (codes "v") ∷ told.Proc 1
    ∷ told.Send 1 1 None (codes "a.example -") ∷ told.Reply 1 word.Yes ∷ told.Done ∷ allowed ∷ []
unfolding next next_at ask_count ask_of check_open open_among is_done peer_at open_besides open_count conns_of offset_of
    full start_due line_is key_text key_escaped target_of absolute_form host_in port_of with_scheme authority_form v4_of
    v6_of address_of reply_of reply_line_in result_in pairs_in reply_word_in value_in without_last_cr number_of unquoted
    quoted_len
one_waits = refl

-- a verdict is fresh for ten seconds, to the millisecond; then its question is put anew, and a death is the fault of
-- whoever waits
pub kept_for_ten_seconds : runs_with (config_with (record class_v { ttl = 10; negative_ttl = 10 }) ∷ [])
    (conn 0 1 a_example ++ at 0 (Step 1) ∷ first_sent 0 ++ at 0 (Line 1 (codes "OK")) ∷ conn 9999 2 a_example ++
    at 9999 (Step 2) ∷ at 9999 (Step 2) ∷ conn 10000 3 a_example ++ at 10000 (Step 3) ∷ at 10000 Act ∷ at 10001 (Died 1)
    ∷ at 10001 Act ∷ at 10001 (Step 3) ∷ at 10001 (Take 3) ∷ [])
    ≡ told.Fine ∷ told.Check 1 ∷ told.Waits 1 ∷ told.Start 1 (codes "v") ∷ told.Proc 1
    ∷ told.Send 1 1 None (codes "a.example -") ∷ told.Reply 1 word.Yes ∷ told.Fine ∷ told.Check 2
    ∷ told.Took (codes "v") ∷ told.Done ∷ told.Fine ∷ told.Check 3 ∷ told.Waits 2
    ∷ told.Send 1 2 None (codes "a.example -") ∷ told.Fine ∷ told.NoSeat ∷ told.Done ∷ fault_of cause.Died ∷ []
unfolding next next_at ask_count ask_of check_open open_among is_done peer_at open_besides open_count conns_of offset_of
    full start_due line_is key_text key_escaped target_of absolute_form host_in port_of with_scheme authority_form v4_of
    v6_of address_of reply_of reply_line_in result_in pairs_in reply_word_in value_in without_last_cr number_of unquoted
    quoted_len
kept_for_ten_seconds = refl

-- a refresh is due after eight of ten seconds; one question is put for it, and nobody waits
pub refreshed : runs_with (config_with (record class_v { ttl = 10; negative_ttl = 10; grace = 20 }) ∷ [])
    (conn 0 1 a_example ++ at 0 (Step 1) ∷ first_sent 0 ++ at 0 (Line 1 (codes "OK")) ∷ conn 8000 2 a_example ++
    at 8000 (Step 2) ∷ at 8000 Act ∷ at 8000 (Step 2) ∷ conn 8500 3 a_example ++ at 8500 (Step 3) ∷ at 8500 Act ∷
    at 8500 (Step 3) ∷ [])
    ≡ told.Fine ∷ told.Check 1 ∷ told.Waits 1 ∷ told.Start 1 (codes "v") ∷ told.Proc 1
    ∷ told.Send 1 1 None (codes "a.example -") ∷ told.Reply 1 word.Yes ∷ told.Fine ∷ told.Check 2
    ∷ told.Took (codes "v") ∷ told.Send 1 2 None (codes "a.example -") ∷ told.Done ∷ told.Fine ∷ told.Check 3
    ∷ told.Took (codes "v") ∷ told.NoSeat ∷ told.Done ∷ []
unfolding next next_at ask_count ask_of check_open open_among is_done peer_at open_besides open_count conns_of offset_of
    full start_due line_is key_text key_escaped target_of absolute_form host_in port_of with_scheme authority_form v4_of
    v6_of address_of reply_of reply_line_in result_in pairs_in reply_word_in value_in without_last_cr number_of unquoted
    quoted_len
refreshed = refl

-- three checks wait for one question; a death ends it for all, and the queued question goes to the next process
pub joined : runs_with (config_with class_v ∷ [])
    (conn 0 1 a_example ++ conn 0 2 a_example ++ conn 0 3 a_example ++ conn 0 4 b_example ++ at 0 (Step 1) ∷ at 0 Act ∷
    at 0 (Step 2) ∷ at 0 (Step 3) ∷ at 0 (Started 1 (codes "v")) ∷ at 0 Act ∷ at 0 (Step 4) ∷ at 9 (Died 1) ∷ at 9 Act ∷
    at 9 (Step 1) ∷ at 9 (Take 1) ∷ at 9 (Step 3) ∷ at 9 (Take 3) ∷ at 9 (Started 1 (codes "v")) ∷ at 9 Act ∷ [])
    ≡ told.Fine ∷ told.Check 1 ∷ told.Fine ∷ told.Check 2 ∷ told.Fine ∷ told.Check 3 ∷ told.Fine ∷ told.Check 4
    ∷ told.Waits 1 ∷ told.Start 1 (codes "v") ∷ told.Waits 1 ∷ told.Waits 1 ∷ told.Proc 1
    ∷ told.Send 1 1 None (codes "a.example -") ∷ told.Waits 2 ∷ told.Fine ∷ told.Start 1 (codes "v") ∷ told.Done
    ∷ fault_of cause.Died ∷ told.Done ∷ fault_of cause.Died ∷ told.Proc 2 ∷ told.Send 2 2 None (codes "b.example -")
    ∷ []
unfolding next next_at ask_count ask_of check_open open_among is_done peer_at open_besides open_count conns_of offset_of
    full start_due line_is key_text key_escaped target_of absolute_form host_in port_of with_scheme authority_form v4_of
    v6_of address_of reply_of reply_line_in result_in pairs_in reply_word_in value_in without_last_cr number_of unquoted
    quoted_len
joined = refl

-- the third question finds the queue full
pub queue_full : runs_with (config_with (record class_v { queue_size = 1 }) ∷ [])
    (conn 0 1 a_example ++ conn 0 2 b_example ++ conn 0 3 c_example ++ at 0 (Step 1) ∷ first_sent 0 ++ at 0 (Step 2) ∷
    at 0 (Step 3) ∷ at 0 (Step 3) ∷ at 0 (Take 3) ∷ [])
    ≡ told.Fine ∷ told.Check 1 ∷ told.Fine ∷ told.Check 2 ∷ told.Fine ∷ told.Check 3 ∷ told.Waits 1
    ∷ told.Start 1 (codes "v") ∷ told.Proc 1 ∷ told.Send 1 1 None (codes "a.example -") ∷ told.Waits 2
    ∷ told.Took (codes "v") ∷ told.Done ∷ fault_of cause.QueueFull ∷ []
unfolding next next_at ask_count ask_of check_open open_among is_done peer_at open_besides open_count conns_of offset_of
    full start_due line_is key_text key_escaped target_of absolute_form host_in port_of with_scheme authority_form v4_of
    v6_of address_of reply_of reply_line_in result_in pairs_in reply_word_in value_in without_last_cr number_of unquoted
    quoted_len
queue_full = refl

-- both starts fail: no act is due between them, and the second loses every queued question; a new question ends the
-- hold
pub no_helper : runs_with (config_with (record class_v { children_max = 2; queue_size = 4 }) ∷ [])
    (conn 0 1 a_example ++ conn 0 2 b_example ++ at 0 (Step 1) ∷ at 0 Act ∷ at 0 (Step 2) ∷ at 0 Act ∷
    at 0 (StartFail 1 (codes "v")) ∷ at 0 Act ∷ at 0 (StartFail 1 (codes "v")) ∷ at 0 Act ∷ at 0 (Step 1) ∷
    at 0 (Take 1) ∷ conn 0 3 c_example ++ at 0 (Step 3) ∷ at 0 Act ∷ [])
    ≡ told.Fine ∷ told.Check 1 ∷ told.Fine ∷ told.Check 2 ∷ told.Waits 1 ∷ told.Start 1 (codes "v") ∷ told.Waits 2
    ∷ told.Start 1 (codes "v") ∷ told.Fine ∷ told.NoSeat ∷ told.Fine ∷ told.NoSeat ∷ told.Done ∷ fault_of cause.NoHelper
    ∷ told.Fine ∷ told.Check 3 ∷ told.Waits 3 ∷ told.Start 1 (codes "v") ∷ []
unfolding next next_at ask_count ask_of check_open open_among is_done peer_at open_besides open_count conns_of offset_of
    full start_due line_is key_text key_escaped target_of absolute_form host_in port_of with_scheme authority_form v4_of
    v6_of address_of reply_of reply_line_in result_in pairs_in reply_word_in value_in without_last_cr number_of unquoted
    quoted_len
no_helper = refl

-- a verdict moves to the alike class of the next epoch
pub moved_verdict : runs_with (config_with class_v ∷ config_with class_v ∷ [])
    (conn 0 1 a_example ++ at 0 (Step 1) ∷ first_sent 0 ++ at 0 (Line 1 (codes "OK")) ∷ at 0 (Step 1) ∷ at 0 (Take 1) ∷
    at 10 (Reconfigure []) ∷ at 10 Act ∷ conn 20 2 a_example ++ at 20 (Step 2) ∷ at 20 Act ∷ at 20 (Step 2) ∷
    at 20 (Take 2) ∷ [])
    ≡ told.Fine ∷ told.Check 1 ∷ told.Waits 1 ∷ told.Start 1 (codes "v") ∷ told.Proc 1
    ∷ told.Send 1 1 None (codes "a.example -") ∷ told.Reply 1 word.Yes ∷ told.Done ∷ allowed ∷ told.Epoch 2
    ∷ told.Stop 1 ∷ told.Fine ∷ told.Check 2 ∷ told.Took (codes "v") ∷ told.NoSeat ∷ told.Done
    ∷ told.Judged 2 (record { allow = true; why = why.Rule 1 }) ∷ []
unfolding next next_at ask_count ask_of check_open open_among is_done peer_at open_besides open_count conns_of offset_of
    full start_due line_is key_text key_escaped target_of absolute_form host_in port_of with_scheme authority_form v4_of
    v6_of address_of reply_of reply_line_in result_in pairs_in reply_word_in value_in without_last_cr number_of unquoted
    quoted_len
moved_verdict = refl

-- the class of the new file has another time: nothing moves
pub not_alike : runs_with (config_with class_v ∷ config_with (record class_v { ttl = 61 }) ∷ [])
    (conn 0 1 a_example ++ at 0 (Step 1) ∷ first_sent 0 ++ at 0 (Line 1 (codes "OK")) ∷ at 0 (Step 1) ∷ at 0 (Take 1) ∷
    at 10 (Reconfigure []) ∷ at 10 Act ∷ conn 20 2 a_example ++ at 20 (Step 2) ∷ at 20 Act ∷ [])
    ≡ told.Fine ∷ told.Check 1 ∷ told.Waits 1 ∷ told.Start 1 (codes "v") ∷ told.Proc 1
    ∷ told.Send 1 1 None (codes "a.example -") ∷ told.Reply 1 word.Yes ∷ told.Done ∷ allowed ∷ told.Epoch 2
    ∷ told.Stop 1 ∷ told.Fine ∷ told.Check 2 ∷ told.Waits 2 ∷ told.Start 2 (codes "v") ∷ []
unfolding next next_at ask_count ask_of check_open open_among is_done peer_at open_besides open_count conns_of offset_of
    full start_due line_is key_text key_escaped target_of absolute_form host_in port_of with_scheme authority_form v4_of
    v6_of address_of reply_of reply_line_in result_in pairs_in reply_word_in value_in without_last_cr number_of unquoted
    quoted_len
not_alike = refl

-- a check goes on under its own epoch; a line that comes later is kept there alone
pub old_check_after_reconfigure : runs_with (config_with class_v ∷ config_with class_v ∷ [])
    (conn 0 1 a_example ++ at 0 (Step 1) ∷ first_sent 0 ++ at 10 (Reconfigure []) ∷ at 10 Act ∷
    at 20 (Line 1 (codes "OK")) ∷ at 20 (Step 1) ∷ conn 21 2 a_example ++ at 21 (Step 2) ∷ at 21 (Take 1) ∷ at 21 Act ∷
    at 21 Act ∷ at 30 (Line 1 (codes "OK")) ∷ [])
    ≡ told.Fine ∷ told.Check 1 ∷ told.Waits 1 ∷ told.Start 1 (codes "v") ∷ told.Proc 1
    ∷ told.Send 1 1 None (codes "a.example -") ∷ told.Epoch 2 ∷ told.NoSeat ∷ told.Reply 1 word.Yes ∷ told.Done
    ∷ told.Fine ∷ told.Check 2 ∷ told.Waits 2 ∷ allowed ∷ told.Stop 1 ∷ told.Start 2 (codes "v") ∷ told.NoSeat ∷ []
unfolding next next_at ask_count ask_of check_open open_among is_done peer_at open_besides open_count conns_of offset_of
    full start_due line_is key_text key_escaped target_of absolute_form host_in port_of with_scheme authority_form v4_of
    v6_of address_of reply_of reply_line_in result_in pairs_in reply_word_in value_in without_last_cr number_of unquoted
    quoted_len
old_check_after_reconfigure = refl

-- a configuration that allows everything and delays everybody by one pool
abbrev pooled : ℕ → List (Option Limit) → Configuration
pooled class pairs = record {
  source = [];
  dst_lookup = false;
  classes = [];
  acls = record { name = codes "all"; body = body.Leaf (leaf.Src (record { first = v4 0; last = v4 4294967295 } ∷ [])) }
      ∷ [];
  rules = record { allow = true; terms = record { acl = 0; negated = false } ∷ [] } ∷ [];
  pools = record {
    class = class;
    pairs = pairs;
    lists = record { allow = true; terms = record { acl = 0; negated = false } ∷ [] } ∷ [];
  } ∷ [];
  initial = 50;
  port = 3128;
  rewriter = None;
  headers = [];
  notices = [];
}

abbrev asks_from : ℕ → ℕ → ℕ → List Happening
asks_from n conn number = at 0 (Open conn (v4 number) 4000) ∷ asks 0 conn a_example ∷ at 0 (Step n) ∷ at 0 (Take n) ∷ []

-- one bucket: half of it at first, then what its seconds restore, and never more than its greatest level
pub one_bucket : runs_with (pooled 1 (Some (record { restore = 100; max = 1000 }) ∷ []) ∷ [])
    (asks_from 1 1 167838211 ++ at 0 (Seat 1) ∷ at 0 (Grant 1 300) ∷ at 1999 (Grant 1 1000) ∷ at 20000 (Grant 1 5000)
    ∷ [])
    ≡ told.Fine ∷ told.Check 1 ∷ told.Done ∷ allowed ∷ told.Seat 1 0 ∷ told.Granted 300 ∷ told.Granted 300
    ∷ told.Granted 1000 ∷ []
unfolding next next_at ask_count ask_of check_open open_among is_done peer_at open_besides open_count conns_of offset_of
    full start_due line_is key_text key_escaped target_of absolute_form host_in port_of with_scheme authority_form v4_of
    v6_of address_of reply_of reply_line_in result_in pairs_in reply_word_in value_in without_last_cr number_of unquoted
    quoted_len
one_bucket = refl

-- class 3 without a limit for all: two hosts of two networks, each with its own buckets
pub three_buckets : runs_with
    (pooled 3 (None ∷ Some (record { restore = 1000; max = 4000 }) ∷ Some (record { restore = 500; max = 2000 }) ∷ [])
    ∷ [])
    (asks_from 1 1 167773959 ++ asks_from 2 2 167774215 ++ at 0 (Seat 1) ∷ at 0 (Grant 1 5000) ∷ at 0 (Grant 1 5000) ∷
    at 1000 (Grant 1 5000) ∷ at 1000 (Seat 2)
    ∷ at 1000 (Grant 2 5000) ∷ at 1000 (Leave 1) ∷ [])
    ≡ told.Fine ∷ told.Check 1 ∷ told.Done ∷ allowed ∷ told.Fine ∷ told.Check 2 ∷ told.Done ∷ allowed ∷ told.Seat 1 0
    ∷ told.Granted 1000 ∷ told.Granted 0 ∷ told.Granted 500
    ∷ told.Seat 2 0 ∷ told.Granted 1000 ∷ told.Fine ∷ []
unfolding next next_at ask_count ask_of check_open open_among is_done peer_at open_besides open_count conns_of offset_of
    full start_due line_is key_text key_escaped target_of absolute_form host_in port_of with_scheme authority_form v4_of
    v6_of address_of reply_of reply_line_in result_in pairs_in reply_word_in value_in without_last_cr number_of unquoted
    quoted_len
three_buckets = refl

-- a helper allows, and one pool has buckets by tags
abbrev by_tags : Configuration
by_tags = record (config_with class_v) {
  acls = record { name = codes "x"; body = body.External 0 [] }
      ∷ record { name = codes "all"; body = body.Leaf (leaf.Src (record { first = v4 0; last = v4 4294967295 } ∷ [])) }
      ∷ [];
  pools = record {
    class = 5;
    pairs = Some (record { restore = 100; max = 1000 }) ∷ [];
    lists = record { allow = true; terms = record { acl = 1; negated = false } ∷ [] } ∷ [];
  } ∷ [];
}

-- two clients from two addresses wait for one line of the helper, and are taken
abbrev two_taken : List ℕ → List Happening
two_taken line =
    at 0 (Open 1 (v4 167838211) 4000) ∷ asks_a 0 1 ∷ at 0 (Open 2 (v4 168364297) 4001) ∷ asks_a 0 2 ∷ at 0 (Step 1)
    ∷ at 0 (Step 2) ∷ first_sent 0 ++ at 0 (Line 1 line) ∷ at 0 (Step 1) ∷ at 0 (Take 1) ∷ at 0 (Step 2) ∷ at 0 (Take 2)
    ∷ []

abbrev two_told : Told → List Told
two_told reply =
    told.Fine ∷ told.Check 1 ∷ told.Fine ∷ told.Check 2 ∷ told.Waits 1 ∷ told.Waits 1 ∷ told.Start 1 (codes "v")
    ∷ told.Proc 1 ∷ told.Send 1 1 None (codes "a.example -") ∷ reply ∷ told.Done ∷ allowed ∷ told.Done ∷ allowed ∷ []

-- two connections of one tag share its bucket
pub one_tag : runs_with (by_tags ∷ [])
    (two_taken (codes "OK tag=" ++ 34 ∷ codes "gold" ++ 34 ∷ []) ++ at 0 (Seat 1) ∷ at 0 (Grant 1 5000)
    ∷ at 0 (Seat 2) ∷ at 1000 (Grant 2 5000) ∷ [])
    ≡ two_told (told.Reply 1 word.Yes) ++ told.Seat 1 0 ∷ told.Granted 500 ∷ told.Seat 2 0 ∷ told.Granted 100 ∷ []
unfolding next next_at ask_count ask_of check_open open_among is_done peer_at open_besides open_count conns_of offset_of
    full start_due line_is key_text key_escaped target_of absolute_form host_in port_of with_scheme authority_form v4_of
    v6_of address_of reply_of reply_line_in result_in pairs_in reply_word_in value_in without_last_cr number_of unquoted
    quoted_len
one_tag = refl

-- without a tag there is no seat
pub no_tag : runs_with (by_tags ∷ []) (two_taken (codes "OK") ++ at 0 (Seat 1) ∷ [])
    ≡ two_told (told.Reply 1 word.Yes) ++ told.NoSeat ∷ []
unfolding next next_at ask_count ask_of check_open open_among is_done peer_at open_besides open_count conns_of offset_of
    full start_due line_is key_text key_escaped target_of absolute_form host_in port_of with_scheme authority_form v4_of
    v6_of address_of reply_of reply_line_in result_in pairs_in reply_word_in value_in without_last_cr number_of unquoted
    quoted_len
no_tag = refl
