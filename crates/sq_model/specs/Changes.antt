-- What each event makes of the machine's state. The moment is one that counts: none before the
-- greatest so far.
use Rattle.std.specs.Prelude.{ℕ, suc, ◌-◌, List, [], ◌∷◌, ◌++◌, Bool, false, not, ◌&&◌, ◌||◌, ◌==◌, if◌then◌else◌, Some, None, is_some, slice_get, position, ℤ}
use Rattle.std.specs.Option.{option_and_then, option_map, option_map_or}
use Rattle.std.specs.declared.option.Option.{Option}
use Rattle.sq_base.specs.declared.helpers.Answer.{Answer}
use Rattle.sq_base.specs.declared.helpers.Cause.{Cause}
use Rattle.sq_base.specs.declared.helpers.Cause.TheVariants as cause
use Rattle.sq_base.specs.declared.helpers.What.{What}
use Rattle.sq_base.specs.declared.helpers.What.TheVariants as what
use Rattle.sq_rules.specs.declared.sights.Peer.{Peer}
use Rattle.sq_machine.specs.Channels.{is_open}
use Rattle.sq_machine.specs.Checks.{Asked}
use Rattle.sq_rules.specs.Classes.{Class}
use Rattle.sq_rules.specs.Configurations.{Configuration}
use Rattle.sq_machine.specs.Connections.{is_address}
use Rattle.sq_machine.specs.DueActs.{ClassId}
use Rattle.sq_machine.specs.Farms.{is_last_start}
use Rattle.sq_rules.specs.AlikeClasses.{is_alike}
use Rattle.sq_machine.specs.KeptLists.{CachedReplies}
use Rattle.sq_machine.specs.Living.{slots_in}
use Rattle.sq_machine.specs.OpenLookups.{key_of}
use Rattle.sq_machine.specs.StepRule.{StepSays}
use Rattle.sq_model.specs.CheckRows.{Ends, Held, after_ends, after_step, begun, one_end, without_check, without_conn}
use Rattle.sq_model.specs.ClassRows.{ClassRow, after_death, after_failed, after_reply, after_sending, after_started, after_starting, is_waiting, new_row}
use Rattle.sq_model.specs.ClassChanges.{after_said}
use Rattle.sq_model.specs.Says.{class_in}
use Rattle.sq_model.specs.States.{State, lives_with}

-- a state at a moment
abbrev pub at : ℕ → State → State
at now s = record s { latest = now }

-- the machine as it begins, with its first configuration and the offset of local time
abbrev pub first_state : Configuration → ℤ → ℕ → State
first_state config offset now = record {
  client = λ c. None;
  conns = 0;
  from = λ a. 0;
  checks = [];
  asks = 0;
  puts = 0;
  current = 1;
  config = λ e. if e == 1 then Some config else None;
  row = λ e c. if e == 1 then option_map (new_row []) (slice_get config.classes c) else None;
  procs = 0;
  home = λ k. None;
  stop = λ k. false;
  latest = now;
  offset = offset;
}

-- a connection of this client opened
abbrev pub after_open : ℕ → Peer → ℕ → State → State
after_open c p now s = record s {
  client = λ d. if c == d then Some p else s.client d;
  conns = suc s.conns;
  from = λ a. if is_address a p.addr then suc (s.from a) else s.from a;
  latest = now;
}

-- a place, where its epoch lives
abbrev pub if_live : (ℕ → Bool) → Option ClassId → Option ClassId
if_live lives None = None
if_live lives (Some p) = if lives p.epoch then Some p else None

-- a place whose epoch does not live
abbrev pub is_over : (ℕ → Bool) → Option ClassId → Bool
is_over lives p = option_map_or (λ x. not (lives x.epoch)) p false

-- where only these checks are left open: the epochs that have none of them and are not current end,
-- and the stops of their processes are due
abbrev pub with_checks : List Held → State → State
with_checks checks s = record s {
  checks = checks;
  config = λ e. if lives_with s.current checks e then s.config e else None;
  row = λ e c. if lives_with s.current checks e then s.row e c else None;
  home = λ k. if_live (lives_with s.current checks) (s.home k);
  stop = λ k. s.stop k || is_over (lives_with s.current checks) (s.home k);
}

-- whether the address is that of the client
abbrev pub is_of_client : Option Peer → (Peer → Bool) → Bool
is_of_client p test = option_map_or test p false

-- a connection closed, with its check
abbrev pub after_close : ℕ → ℕ → State → State
after_close c now s = with_checks (without_conn c s.checks) (record s {
  client = λ d. if c == d then None else s.client d;
  conns = s.conns - 1;
  from = λ a. if is_of_client (s.client c) (λ p. is_address a p.addr) then s.from a - 1
      else s.from a;
  latest = now;
})

-- a check began
abbrev pub after_ask : Asked → ℕ → State → State
after_ask asked now s = record s
    { checks = s.checks ++ begun (suc s.asks) asked ∷ []; asks = suc s.asks; latest = now }

-- a step of check n, which is of epoch e, said so
abbrev pub after_step_of : ℕ → ℕ → StepSays → ℕ → State → State
after_step_of n e says now s = record s {
  checks = after_step n says s.checks;
  puts = if is_some says.put then suc s.puts else s.puts;
  row = λ f c. option_map (after_said (e == f) f c s.puts says) (s.row f c);
  latest = now;
}

-- the outcome of check n was taken
abbrev pub after_take : ℕ → ℕ → State → State
after_take n now s = with_checks (without_check n s.checks) (at now s)

-- this is the class at the place
abbrev pub is_at : ClassId → ℕ → ℕ → Bool
is_at p e c = p.epoch == e && p.class == c

-- the state with the row of one class changed
abbrev pub change_row : ClassId → (ClassRow → ClassRow) → State → State
change_row p f s = record s
    { row = λ e c. if is_at p e c then option_map f (s.row e c) else s.row e c }

-- a process of the class at a place was started
abbrev pub after_started_at : ClassId → ℕ → State → State
after_started_at p now s = record (change_row p (after_started (suc s.procs)) s) {
  procs = suc s.procs;
  home = λ k. if k == suc s.procs then Some p else s.home k;
  latest = now;
}

-- the answer of a question of the class at this place, with this key, that ends so
abbrev pub end_answer : ℕ → What → ℕ → ℕ → Option (List ℕ) → Option Answer
end_answer c w now q None = None
end_answer c w now q (Some key) = Some
    (record { class = c; key = key; what = w; question = Some q; date = now; taken = now })

-- what the questions of a class that end together give the checks that wait for them
abbrev pub row_ends : ℕ → What → ℕ → (ℕ → Bool) → Option ClassRow → Ends
row_ends c w now ended None q = None
row_ends c w now ended (Some r) q = if ended q then end_answer c w now q (key_of q r.lookups)
    else None

-- the question waits in the queue of a class of which this start was the last that was open, and of
-- which no process lives
abbrev pub is_stranded : Option ClassRow → ℕ → Bool
is_stranded r q = option_map_or (λ x. is_last_start x.stock && is_waiting q x.stock.queue) r false

-- a start of the class at a place failed
abbrev pub after_failed_at : ClassId → ℕ → State → State
after_failed_at p now s = record (change_row p after_failed s) {
  checks = after_ends (row_ends p.class (what.Fault cause.NoHelper) now
      (is_stranded (s.row p.epoch p.class)) (s.row p.epoch p.class)) s.checks;
  latest = now;
}

-- process k of the class at a place replied to question q, of this key
abbrev pub after_reply_at : ClassId → Class → ℕ → ℕ → List ℕ → What → ℕ → State → State
after_reply_at p class k q key w now s = record (change_row p (after_reply class k q key w now) s) {
  checks = after_ends (one_end q
      (record { class = p.class; key = key; what = w; question = Some q; date = now; taken = now }))
      s.checks;
  latest = now;
}

-- the question is open on a process of a class
abbrev pub is_open_at : ℕ → Option ClassRow → ℕ → Bool
is_open_at k r q = option_map_or (λ x. is_open q (slots_in k x.stock.procs)) r false

-- process k of the class at a place ended by a cause; where it ended by a line, its stop is due
abbrev pub after_end_at : ClassId → ℕ → Cause → Bool → ℕ → State → State
after_end_at p k cause by_line now s = record (change_row p (after_death cause k) s) {
  checks = after_ends (row_ends p.class (what.Fault cause) now
      (is_open_at k (s.row p.epoch p.class)) (s.row p.epoch p.class)) s.checks;
  home = λ j. if k == j then None else s.home j;
  stop = λ j. s.stop j || (by_line && (k == j));
  latest = now;
}

-- a process was told to stop
abbrev pub after_stop_of : ℕ → ℕ → State → State
after_stop_of k now s = record s { stop = λ j. s.stop j && not (k == j); latest = now }

-- the send that was due of the class at a place was made
abbrev pub after_send_at : ClassId → ℕ → State → State
after_send_at p now s = at now (change_row p after_sending s)

-- the start that was due of the class at a place was told
abbrev pub after_start_at : ClassId → ℕ → State → State
after_start_at p now s = at now (change_row p after_starting s)

-- the place of a class of a configuration that is alike to this one
abbrev pub alike_in : Option Configuration → Class → Option ℕ
alike_in config class = option_and_then (λ x. position (λ other. is_alike other class) x.classes)
    config

-- what is kept of the class at a place
abbrev pub kept_in : State → ℕ → ℕ → CachedReplies
kept_in s e c = option_map_or (λ r. r.kept) (s.row e c) []

-- a class of the epoch that begins: it has what was kept of the class of the current epoch that is
-- alike
abbrev pub begun_row : State → Class → ClassRow
begun_row s class = new_row
    (option_map_or (kept_in s s.current) (alike_in (s.config s.current) class) []) class

-- a class of the epoch that was current: nothing is kept of it where a class of the new
-- configuration is alike
abbrev pub left_row : Configuration → Class → ClassRow → ClassRow
left_row config class r = if is_some (alike_in (Some config) class) then record r { kept = [] }
    else r

abbrev pub left_class : Configuration → Option Class → Option ClassRow → Option ClassRow
left_class config (Some class) (Some r) = Some (left_row config class r)
left_class config class r = r

-- the state with one epoch more, which is not current yet
abbrev pub with_epoch : Configuration → State → State
with_epoch config s = record s {
  config = λ e. if e == suc s.current then Some config else s.config e;
  row = λ e c. if e == suc s.current then option_map (begun_row s) (slice_get config.classes c)
      else (if e == s.current then left_class config (class_in s e c) (s.row e c) else s.row e c);
}

-- another configuration is current; the epoch that was it ends where it has no open check
abbrev pub after_reconfigured : Configuration → ℕ → State → State
after_reconfigured config now s = with_checks s.checks
    (record (with_epoch config s) { current = suc s.current; latest = now })
