-- What listeners, spawners, clocks and resolvers in memory hold and tell, and the calls of them
-- that are to fail.
use Rattle.std.specs.Prelude.{◌≡◌, ℕ, List, [], ◌∷◌, map, position, Bool, ◌||◌, is_none, is_some, bytes_eq, Some, None}
use Rattle.std.specs.List.{find}
use Rattle.std.specs.declared.option.Option.{Option}
use Rattle.sq_outside.specs.Calls.{next_call, is_listed}
use Rattle.sq_outside.specs.Dials.{Coming}
use Rattle.sq_outside_mem.specs.Memory.{source_left}
use Rattle.sq_outside_mem.specs.MemoryChildren.{child_source, child_waits}
use Rattle.sq_outside_mem.specs.MemoryLinks.{pair_from, pair_to}
use Rattle.sq_base.specs.Addresses.{Address}
use Rattle.sq_outside_mem.specs.Taking.{TakesFirst, same_words}
use Rattle.sq_outside_mem.specs.declared.mem_child.MemChildOut.{MemChildOut}
use Rattle.sq_outside_mem.specs.declared.mem_clock.MemClock.{MemClock}
use Rattle.sq_outside_mem.specs.declared.mem_clock.MemName.{MemName}
use Rattle.sq_outside_mem.specs.declared.mem_clock.MemResolver.{MemResolver}
use Rattle.sq_outside_mem.specs.declared.mem_listener.MemLink.{MemLink}
use Rattle.sq_outside_mem.specs.declared.mem_listener.MemListener.{MemListener}
use Rattle.sq_outside_mem.specs.declared.mem_out.MemOut.{MemOut}
use Rattle.sq_outside_mem.specs.declared.mem_spawner.MemChild.{MemChild}
use Rattle.sq_outside_mem.specs.declared.mem_spawner.MemSpawner.{MemSpawner}

-- a link that is to come, as it is told
abbrev pub told_link : MemLink → Coming
told_link l = record { addr = l.addr; port = l.port; bytes = source_left (pair_from l.pair) }

-- the links that are to come
abbrev pub listener_coming : MemListener → List Coming
listener_coming l = map told_link l.links.items

-- whether it was asked to stop, by its own word
abbrev pub listener_asked : MemListener → Bool
listener_asked l = l.asked

-- the numbers of the calls that are to fail
abbrev pub listener_fails : MemListener → List ℕ
listener_fails l = l.calls.fails.items

-- how many calls were made
abbrev pub listener_calls : MemListener → ℕ
listener_calls l = l.calls.made

-- the next call is listed
abbrev pub listener_fails_next : MemListener → Bool
listener_fails_next l = is_listed (listener_fails l) (next_call (listener_calls l))

abbrev pub listener_faults : MemListener → ℕ
listener_faults l = l.calls.faults

-- the children that no start has reached yet
abbrev pub spawner_children : MemSpawner → List MemChild
spawner_children s = s.children.items

-- the words of the starts that were made, the oldest first
abbrev pub spawner_started : MemSpawner → List (List (List ℕ))
spawner_started s = map (λ words. words.items) s.started.items

-- the numbers of the starts that are to fail
abbrev pub spawner_fails : MemSpawner → List ℕ
spawner_fails s = s.calls.fails.items

-- how many starts were tried
abbrev pub spawner_calls : MemSpawner → ℕ
spawner_calls s = s.calls.made

-- these words start the child
abbrev pub is_child : List (List ℕ) → MemChild → Bool
is_child words c = same_words c.words.items words

-- the next start is listed
abbrev pub spawner_lists_next : MemSpawner → Bool
spawner_lists_next s = is_listed (spawner_fails s) (next_call (spawner_calls s))

-- the next start, of these words, fails: it is listed, or no such child is left
abbrev pub spawner_fails_next : MemSpawner → List (List ℕ) → Bool
spawner_fails_next s words = spawner_lists_next s
    || is_none (position (is_child words) (spawner_children s))

abbrev pub spawner_faults : MemSpawner → ℕ
spawner_faults s = s.calls.faults

-- the halves are those of the first child that these words start, which was taken from the list;
-- what it says waits where that child does
abbrev pub StartTakes : List MemChild → List MemChild → List (List ℕ) → MemChildOut → MemOut
    → Type 0
StartTakes old new words from to = (c : MemChild) × TakesFirst (is_child words) old new c
    × (pair_from c.pair ≡ child_source from) × (is_some c.waits ≡ child_waits from)
    × (pair_to c.pair ≡ to)

-- the moment that the clock gives next
abbrev pub clock_next : MemClock → ℕ
clock_next c = c.first

-- the moments that the clock gives, the next one first; the last one stays
abbrev pub clock_moments : MemClock → List ℕ
clock_moments c = c.first ∷ c.rest.items

-- the addresses of an entry that was found, or none
abbrev pub of_found : Option MemName → List Address
of_found None = []
of_found (Some n) = n.addrs

-- the addresses of the first entry of this host, or none
abbrev pub addrs_at : List MemName → List ℕ → List Address
addrs_at names host = of_found (find (λ n. bytes_eq n.host host) names)

-- the names that it knows
abbrev pub resolver_names : MemResolver → List MemName
resolver_names r = r.names.now

-- the numbers of the calls that are to fail
abbrev pub resolver_fails : MemResolver → List ℕ
resolver_fails r = r.calls.fails.items

-- how many calls were made
abbrev pub resolver_calls : MemResolver → ℕ
resolver_calls r = r.calls.made

-- the next call is listed
abbrev pub resolver_fails_next : MemResolver → Bool
resolver_fails_next r = is_listed (resolver_fails r) (next_call (resolver_calls r))

abbrev pub resolver_faults : MemResolver → ℕ
resolver_faults r = r.calls.faults
