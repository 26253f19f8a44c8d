-- In the statement: docs/STATEMENT.md lists which definitions.
-- The machine's state: what can be read off it, and that it is what a history comes to.
use Rattle.std.specs.Prelude.{◌≡◌, ℕ, ℤ, List, [], ◌∷◌, Bool, true, false, ◌||◌, ◌==◌, if◌then◌else◌, None}
use Rattle.std.specs.List.{list_any}
use Rattle.std.specs.Option.{option_and_then, option_map}
use Rattle.std.specs.declared.option.Option.{Option}
use Rattle.sq_base.specs.Addresses.{Address}
use Rattle.sq_machine.specs.declared.entries.Event.{Event}
use Rattle.sq_machine.specs.declared.entries.Event.TheVariants.{Seat, Grant, Leave}
use Rattle.sq_rules.specs.declared.sights.Peer.{Peer}
use Rattle.sq_machine.specs.Checks.{ask_count}
use Rattle.sq_rules.specs.Configurations.{Configuration}
use Rattle.sq_machine.specs.Connections.{conns_of, open_count, peer_at}
use Rattle.sq_machine.specs.DueActs.{ClassId}
use Rattle.sq_machine.specs.Entries.{History}
use Rattle.sq_machine.specs.Epochs.{is_live, place_of_class, config_of}
use Rattle.sq_machine.specs.Marks.{Past, entries}
use Rattle.sq_machine.specs.Processes.{home_of, lives_on, proc_count, stop_due}
use Rattle.sq_machine.specs.Questions.{put_count}
use Rattle.sq_machine.specs.Readings.{current, offset_of}
use Rattle.sq_model.specs.CheckRows.{Held, held_checks}
use Rattle.sq_model.specs.ClassRows.{ClassRow, class_part}

-- the client of each open connection, how many are open, and how many of each address; the open
-- checks; how many checks began and questions were put; the current epoch; of each live epoch the
-- configuration and each class; how many processes were started, the place of each that lives, and
-- whether a stop of a process is due; the greatest moment of an event but of delay pools; the
-- offset of local time
pub record State : Type 0 where
  pub client : ℕ → Option Peer
  pub conns : ℕ
  pub from : Address → ℕ
  pub checks : List Held
  pub asks : ℕ
  pub puts : ℕ
  pub current : ℕ
  pub config : ℕ → Option Configuration
  pub row : ℕ → ℕ → Option ClassRow
  pub procs : ℕ
  pub home : ℕ → Option ClassId
  pub stop : ℕ → Bool
  pub latest : ℕ
  pub offset : ℤ

-- two states are one, part by part
pub record IsSame (s t : State) : Type 0 where
  pub clients_are : (c : ℕ) → s.client c ≡ t.client c
  pub conns_are : s.conns ≡ t.conns
  pub from_are : (a : Address) → s.from a ≡ t.from a
  pub checks_are : s.checks ≡ t.checks
  pub asks_are : s.asks ≡ t.asks
  pub puts_are : s.puts ≡ t.puts
  pub current_is : s.current ≡ t.current
  pub configs_are : (e : ℕ) → s.config e ≡ t.config e
  pub rows_are : (e c : ℕ) → s.row e c ≡ t.row e c
  pub procs_are : s.procs ≡ t.procs
  pub homes_are : (k : ℕ) → s.home k ≡ t.home k
  pub stops_are : (k : ℕ) → s.stop k ≡ t.stop k
  pub latest_is : s.latest ≡ t.latest
  pub offset_is : s.offset ≡ t.offset

-- an epoch lives where this one is current and these checks are open
abbrev pub lives_with : ℕ → List Held → ℕ → Bool
lives_with current checks e = e == current || list_any (λ h. h.asked.epoch == e) checks

-- the epoch lives
abbrev pub live : State → ℕ → Bool
live s e = lives_with s.current s.checks e

-- the event is of delay pools
abbrev pub is_of_pools : Event → Bool
is_of_pools (Seat c) = true
is_of_pools (Grant n wanted) = true
is_of_pools (Leave n) = true
is_of_pools event = false

-- the moment of the newest entry that is of no delay pool, which in a legal history is the greatest
-- of these
abbrev pub machine_moment : History → ℕ
machine_moment [] = 0
machine_moment (e ∷ h) = if is_of_pools e.event then machine_moment h else e.moment

-- the epoch and the place of the class that a process is of
abbrev pub place_of : List Configuration → History → ℕ → Option ClassId
place_of configs h k = option_and_then
    (λ p. option_map (λ c. record { epoch = p.epoch; class = c })
    (place_of_class configs p.epoch p.class)) (home_of h k)

-- a state stands for a history with its marks: each part of it is the reading of the history
pub record Stands (configs : List Configuration) (m : Past) (s : State) : Type 0 where
  pub clients_are : (c : ℕ) → s.client c ≡ peer_at (entries m) c
  pub conns_are : s.conns ≡ open_count (entries m)
  pub from_are : (a : Address) → s.from a ≡ conns_of (entries m) a
  pub checks_are : s.checks ≡ held_checks configs m
  pub asks_are : s.asks ≡ ask_count (entries m)
  pub puts_are : s.puts ≡ put_count m
  pub current_is : s.current ≡ current (entries m)
  pub configs_are : (e : ℕ)
      → s.config e ≡ (if is_live (entries m) e then config_of configs e else None)
  pub rows_are : (e c : ℕ)
      → s.row e c ≡ (if is_live (entries m) e then class_part configs m e c else None)
  pub procs_are : s.procs ≡ proc_count (entries m)
  pub homes_are : (k : ℕ) → s.home k
      ≡ (if lives_on (entries m) k then place_of configs (entries m) k else None)
  pub stops_are : (k : ℕ) → s.stop k ≡ stop_due (entries m) k
  pub latest_is : s.latest ≡ machine_moment (entries m)
  pub offset_is : s.offset ≡ offset_of (entries m)
