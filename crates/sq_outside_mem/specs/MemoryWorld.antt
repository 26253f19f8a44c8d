-- What dialers in memory hold and tell, their room, and the calls of them that are to fail.
use Rattle.std.specs.Prelude.{◌≡◌, ℕ, ◌-◌, ◌^◌, List, [], ◌∷◌, ◌++◌, map, position, Bool, ◌||◌, ◌&&◌, ◌==◌, if◌then◌else◌, is_none, bytes_eq, vec_len, Some, None}
use Rattle.std.specs.Option.{option_map}
use Rattle.std.specs.declared.option.Option.{Option}
use Rattle.sq_outside.specs.Calls.{next_call, is_listed}
use Rattle.sq_outside.specs.Dials.{Origin, Dial, Dialled}
use Rattle.sq_outside_mem.specs.Memory.{source_text}
use Rattle.sq_outside_mem.specs.MemoryLinks.{pair_from, pair_to}
use Rattle.sq_outside_mem.specs.Taking.{TakesFirst}
use Rattle.sq_outside_mem.specs.declared.mem_dialer.MemDial.{MemDial}
use Rattle.sq_outside_mem.specs.declared.mem_dialer.MemDialer.{MemDialer}
use Rattle.sq_outside_mem.specs.declared.mem_dialer.MemIn.{MemIn}
use Rattle.sq_outside_mem.specs.declared.mem_dialer.MemOrigin.{MemOrigin}
use Rattle.sq_outside_mem.specs.declared.mem_out.MemOut.{MemOut}
use Rattle.sq_outside_mem.specs.declared.mem_source.MemSource.{MemSource}

-- the source that gives the origin's bytes
abbrev pub in_source : MemIn → MemSource
in_source s = s.source

-- what was dialled, and all the origin's bytes
abbrev pub in_origin : MemIn → Origin
in_origin s = record { host = s.host; port = s.port; bytes = source_text s.source }

-- a kept dial, as it is told
abbrev pub told_dial : MemDial → Dial
told_dial d = record {
  origin = record { host = d.host; port = d.port; bytes = d.bytes };
  written = d.written;
}

-- the origins that no dial has reached yet
abbrev pub dialer_origins : MemDialer → List MemOrigin
dialer_origins d = d.origins.items

-- how many dials were made, and those that were given back
abbrev pub dialer_told : MemDialer → Option Dialled
dialer_told d = if d.whole then Some (record { made = d.made; back = map told_dial d.back.items })
    else None

-- for how many dials that are given back there is room
abbrev pub dialer_room : MemDialer → ℕ
dialer_room d = d.room - vec_len d.back

-- the numbers of the dials that are to fail
abbrev pub dialer_fails : MemDialer → List ℕ
dialer_fails d = d.calls.fails.items

-- how many dials were tried
abbrev pub dialer_calls : MemDialer → ℕ
dialer_calls d = d.calls.made

-- the same, as it is told: not at the greatest number, where it stays
abbrev pub dialer_calls_told : MemDialer → Option ℕ
dialer_calls_told d = if dialer_calls d == 2 ^ 64 - 1 then None else Some (dialer_calls d)

abbrev pub dialer_faults : MemDialer → ℕ
dialer_faults d = d.calls.faults

-- the origin has this host and port
abbrev pub is_origin : List ℕ → ℕ → MemOrigin → Bool
is_origin host port o = bytes_eq o.host host && o.port == port

-- the next dial is listed
abbrev pub dialer_lists_next : MemDialer → Bool
dialer_lists_next d = is_listed (dialer_fails d) (next_call (dialer_calls d))

-- the next dial, to this host and port, fails: it is listed, or no such origin is left
abbrev pub dialer_fails_next : MemDialer → List ℕ → ℕ → Bool
dialer_fails_next d host port = dialer_lists_next d
    || is_none (position (is_origin host port) (dialer_origins d))

-- the halves are those of the first origin of this host and port, which was taken from the list
abbrev pub DialTakes : List MemOrigin → List MemOrigin → List ℕ → ℕ → MemSource → MemOut → Type 0
DialTakes old new host port from to = (o : MemOrigin) × TakesFirst (is_origin host port) old new o
    × (pair_from o.pair ≡ from) × (pair_to o.pair ≡ to)

-- what is told after this dial was given back
abbrev pub adds_dial : Option Dialled → Origin → List ℕ → Option Dialled
adds_dial told origin written = option_map
    (λ d. record {
      made = d.made;
      back = d.back ++ record { origin = origin; written = written } ∷ [];
    }) told
