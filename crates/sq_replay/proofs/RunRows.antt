-- Worked runs: the acts follow each line by themselves.
use Rattle.std.specs.Prelude.{◌≡◌, ℕ, pos, negsuc, List, [], ◌∷◌, ◌++◌, map, refl, codes, true, false, None, Some, Result, Ok, Err}
use Rattle.std.specs.Fmt.{digits}
use Rattle.sq_base.specs.Addresses.{v4, v4_of, v6_of, address_of}
use Rattle.sq_base.specs.Decimals.{number_of}
use Rattle.sq_base.specs.Replies.{reply_of, reply_line_in, result_in, pairs_in, reply_word_in, value_in, without_last_cr, unquoted, quoted_len}
use Rattle.sq_base.specs.Targets.{target_of, absolute_form, host_in, port_of, with_scheme, authority_form}
use Rattle.sq_base.specs.declared.helpers.Cause.TheVariants as cause
use Rattle.sq_base.specs.declared.helpers.Word.TheVariants as word
use Rattle.sq_rules.specs.declared.classes.Token.TheVariants as token
use Rattle.sq_rules.specs.declared.configs.Body.TheVariants as body
use Rattle.sq_machine.specs.declared.entries.Event.{Event}
use Rattle.sq_machine.specs.declared.entries.Event.TheVariants.{Begin, Open, Ask, Step, Take, Started, Line, Died, Reconfigure, Seat, Grant, Leave}
use Rattle.sq_machine.specs.declared.entries.Told.{Told}
use Rattle.sq_machine.specs.declared.entries.Told.TheVariants as told
use Rattle.sq_rules.specs.declared.leaves.Leaf.TheVariants as leaf
use Rattle.sq_rules.specs.declared.outcomes.Why.TheVariants as why
use Rattle.sq_machine.specs.Checks.{ask_count, ask_of, check_open, open_among, is_done}
use Rattle.sq_rules.specs.Configurations.{Configuration}
use Rattle.sq_machine.specs.Connections.{peer_at, open_besides, open_count, conns_of}
use Rattle.sq_machine.specs.Entries.{History, Noted}
use Rattle.sq_machine.specs.Farms.{full, start_due}
use Rattle.sq_machine.specs.Machine.{next, next_at}
use Rattle.sq_rules.specs.Keys.{key_text, key_escaped}
use Rattle.sq_machine.specs.Readings.{offset_of}
use Rattle.sq_machine.specs.Transcripts.{line_is}
use Rattle.sq_journal.specs.Lines.{spaced_words}
use Rattle.sq_journal.specs.Reading.{dated_of, event_after, event_in, offset_from, word_in}
use Rattle.sq_outside.specs.SourceLines.{lines}
use Rattle.sq_replay.specs.declared.ends.RunEnd.{RunEnd}
use Rattle.sq_replay.specs.declared.ends.RunEnd.TheVariants as ends
use Rattle.sq_replay.specs.RunText.{asked_next, begun_history, run_script}

-- an event at a moment
record Happening : Type 0 where
  pub moment : ℕ
  pub event : Event

abbrev at : ℕ → Event → Happening
at moment event = record { moment = moment; event = event }

abbrev or_same : History → Result History RunEnd → History
or_same h (Ok t) = t
or_same h (Err end) = h

abbrev steps : List Configuration → History → List Happening → History
steps configs h [] = h
steps configs h (e ∷ es) = steps configs (or_same h (asked_next configs h 1 e.moment e.event)) es

abbrev told_of : Noted → Told
told_of e = e.answer

-- the answers of a run of these events, the newest first
abbrev runs : List Configuration → List Happening → List Told
runs configs es = map told_of (steps configs (begun_history configs 0 (pos 0)) es)

abbrev asking : ℕ → ℕ → Configuration
asking startup concurrency = record {
  source = [];
  dst_lookup = false;
  classes = record {
    name = codes "v";
    ttl = 60;
    negative_ttl = 60;
    grace = 0;
    cache = 262144;
    children_max = 1;
    startup = startup;
    concurrency = concurrency;
    queue_size = 2;
    format = token.Host ∷ token.Arguments ∷ [];
    words = codes "/bin/h" ∷ [];
  } ∷ [];
  acls = record { name = codes "x"; body = body.External 0 [] } ∷ [];
  rules = record { allow = true; terms = record { acl = 0; negated = false } ∷ [] } ∷ [];
  pools = [];
  initial = 50;
  port = 3128;
  rewriter = None;
  headers = [];
  notices = [];
}

abbrev denying : Configuration
denying = record {
  source = [];
  dst_lookup = false;
  classes = [];
  acls = [];
  rules = [];
  pools = [];
  initial = 50;
  port = 3128;
  rewriter = None;
  headers = [];
  notices = [];
}

-- a check goes on under its own epoch; the stop of its process is due as it is taken,
-- and a line of that process comes to nothing then
pub old_check : runs (asking 0 0 ∷ denying ∷ [])
    (at 0 (Open 1 (v4 167838211) 4000) ∷ at 0 (Ask 1 (codes "GET") (codes "http://a.example/") []) ∷ at 0 (Step 1) ∷
    at 0 (Started 1 (codes "v")) ∷ at 10 (Reconfigure []) ∷ at 20 (Line 1 (codes "OK"))
    ∷ at 20 (Step 1) ∷ at 20 (Take 1) ∷ at 30 (Line 1 (codes "OK")) ∷ [])
    ≡ told.Stop 1 ∷ told.Judged 1 (record { allow = true; why = why.Rule 1 }) ∷ told.Done ∷ told.Reply 1 word.Yes
    ∷ told.Epoch 2 ∷ told.Send 1 1 None (codes "a.example -") ∷ told.Proc 1
    ∷ told.Start 1 (codes "v") ∷ told.Waits 1 ∷ told.Check 1 ∷ told.Fine ∷ told.Epoch 1 ∷ []
unfolding next next_at ask_count ask_of check_open open_among is_done peer_at open_besides open_count conns_of offset_of
    full start_due line_is key_text key_escaped target_of absolute_form host_in port_of with_scheme authority_form v4_of
    v6_of address_of reply_of reply_line_in result_in pairs_in reply_word_in value_in without_last_cr number_of unquoted
    quoted_len
old_check = refl

-- two questions go to two channels of one process; a line for a free channel ends it, and its stop is due at once
pub two_channels : runs (asking 0 2 ∷ [])
    (at 0 (Open 1 (v4 167838211) 4000) ∷ at 0 (Ask 1 (codes "GET") (codes "http://a.example/") []) ∷
    at 0 (Open 2 (v4 167838211) 4001) ∷ at 0 (Ask 2 (codes "GET") (codes "http://b.example/") [])
    ∷ at 0 (Step 1) ∷ at 0 (Step 2) ∷ at 0 (Started 1 (codes "v")) ∷ at 5 (Line 1 (codes "1 ERR")) ∷
    at 6 (Line 1 (codes "0 OK")) ∷ at 7 (Line 1 (codes "1 OK")) ∷ [])
    ≡ told.Stop 1 ∷ told.Stray ∷ told.Reply 1 word.Yes ∷ told.Reply 2 word.No
    ∷ told.Send 1 2 (Some 1) (codes "b.example -") ∷ told.Send 1 1 (Some 0) (codes "a.example -") ∷ told.Proc 1
    ∷ told.Waits 2
    ∷ told.Start 1 (codes "v") ∷ told.Waits 1 ∷ told.Check 2 ∷ told.Fine ∷ told.Check 1 ∷ told.Fine ∷ told.Epoch 1 ∷ []
unfolding digits next next_at ask_count ask_of check_open open_among is_done peer_at open_besides open_count conns_of
    offset_of full start_due line_is key_text key_escaped target_of absolute_form host_in port_of with_scheme
    authority_form v4_of v6_of address_of reply_of reply_line_in result_in pairs_in reply_word_in value_in
    without_last_cr number_of unquoted quoted_len
two_channels = refl

-- a start of `children-startup` is due as the machine begins; a death is the fault of who waits
pub started_at_first : runs (asking 1 0 ∷ [])
    (at 0 (Started 1 (codes "v")) ∷ at 0 (Open 1 (v4 167838211) 4000) ∷
    at 0 (Ask 1 (codes "GET") (codes "http://a.example/") []) ∷ at 0 (Step 1) ∷ at 1 (Died 1) ∷ at 1 (Step 1) ∷
    at 1 (Take 1) ∷ [])
    ≡ told.Judged 1 (record { allow = false; why = why.Fault 1 (codes "x") cause.Died }) ∷ told.Done ∷ told.Fine
    ∷ told.Send 1 1 None (codes "a.example -") ∷ told.Waits 1 ∷ told.Check 1 ∷ told.Fine
    ∷ told.Proc 1 ∷ told.Start 1 (codes "v") ∷ told.Epoch 1 ∷ []
unfolding next next_at ask_count ask_of check_open open_among is_done peer_at open_besides open_count conns_of offset_of
    full start_due line_is key_text key_escaped target_of absolute_form host_in port_of with_scheme authority_form v4_of
    v6_of address_of reply_of reply_line_in result_in pairs_in reply_word_in value_in without_last_cr number_of unquoted
    quoted_len
started_at_first = refl

-- one pool with one bucket: a seat, grants as the seconds fill it, and a seat that is left
abbrev pooled : Configuration
pooled = record {
  source = [];
  dst_lookup = false;
  classes = [];
  acls = record { name = codes "all"; body = body.Leaf (leaf.Src (record { first = v4 0; last = v4 4294967295 } ∷ [])) }
      ∷ [];
  rules = record { allow = true; terms = record { acl = 0; negated = false } ∷ [] } ∷ [];
  pools = record {
    class = 1;
    pairs = Some (record { restore = 100; max = 1000 }) ∷ [];
    lists = record { allow = true; terms = record { acl = 0; negated = false } ∷ [] } ∷ [];
  } ∷ [];
  initial = 50;
  port = 3128;
  rewriter = None;
  headers = [];
  notices = [];
}

pub seated : runs (pooled ∷ [])
    (at 0 (Open 1 (v4 167838211) 4000) ∷ at 0 (Ask 1 (codes "GET") (codes "http://a.example/") []) ∷ at 0 (Step 1) ∷
    at 0 (Take 1) ∷ at 0 (Seat 1) ∷ at 0 (Grant 1 300) ∷ at 1999 (Grant 1 1000)
    ∷ at 20000 (Grant 1 5000) ∷ at 20000 (Leave 1) ∷ at 20000 (Grant 1 1) ∷ [])
    ≡ told.Fine ∷ told.Granted 1000 ∷ told.Granted 300 ∷ told.Granted 300 ∷ told.Seat 1 0
    ∷ told.Judged 1 (record { allow = true; why = why.Rule 1 }) ∷ told.Done ∷ told.Check 1 ∷ told.Fine ∷ told.Epoch 1
    ∷ []
unfolding next next_at ask_count ask_of check_open open_among is_done peer_at open_besides open_count conns_of offset_of
    full start_due line_is key_text key_escaped target_of absolute_form host_in port_of with_scheme authority_form v4_of
    v6_of address_of reply_of reply_line_in result_in pairs_in reply_word_in value_in without_last_cr number_of unquoted
    quoted_len
seated = refl

-- `begin` says where the machine begins, and `act` is no line of a script
pub act_refused : run_script (λ e name. None) denying (lines (codes "5 begin -60" ++ 10 ∷ codes "6 act" ++ 10 ∷ []))
    ≡ record {
      history = record { moment = 5; event = Begin (negsuc 59); answer = told.Epoch 1 } ∷ [];
      end = ends.Script 2;
    }
unfolding digits offset_from spaced_words dated_of event_in event_after word_in next next_at ask_count ask_of check_open
    open_among is_done peer_at open_besides open_count conns_of offset_of full start_due line_is key_text key_escaped
    target_of absolute_form host_in port_of with_scheme authority_form v4_of v6_of address_of reply_of reply_line_in
    result_in pairs_in reply_word_in value_in without_last_cr number_of unquoted quoted_len
act_refused = refl

-- as the first line it begins no machine; neither does a line without its end
pub act_first : run_script (λ e name. None) denying (lines (codes "6 act" ++ 10 ∷ []))
    ≡ record { history = []; end = ends.Script 1 }
unfolding digits offset_from spaced_words dated_of event_in event_after word_in next next_at ask_count ask_of check_open
    open_among is_done peer_at open_besides open_count conns_of offset_of full start_due line_is key_text key_escaped
    target_of absolute_form host_in port_of with_scheme authority_form v4_of v6_of address_of reply_of reply_line_in
    result_in pairs_in reply_word_in value_in without_last_cr number_of unquoted quoted_len
act_first = refl

pub open_end : run_script (λ e name. None) denying (lines (codes "5 begin 0"))
    ≡ record { history = []; end = ends.Script 1 }
unfolding digits offset_from spaced_words dated_of event_in event_after word_in next next_at ask_count ask_of check_open
    open_among is_done peer_at open_besides open_count conns_of offset_of full start_due line_is key_text key_escaped
    target_of absolute_form host_in port_of with_scheme authority_form v4_of v6_of address_of reply_of reply_line_in
    result_in pairs_in reply_word_in value_in without_last_cr number_of unquoted quoted_len
open_end = refl
