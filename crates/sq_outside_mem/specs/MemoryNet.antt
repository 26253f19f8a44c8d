-- What a net in memory holds, and the openings of it that are to fail.
use Rattle.std.specs.Prelude.{ℕ, List, Bool, ◌||◌, is_none}
use Rattle.std.specs.declared.option.Option.{Option}
use Rattle.sq_outside.specs.Calls.{next_call, is_listed}
use Rattle.sq_outside_mem.specs.declared.mem_clock.MemClock.{MemClock}
use Rattle.sq_outside_mem.specs.declared.mem_clock.MemResolver.{MemResolver}
use Rattle.sq_outside_mem.specs.declared.mem_dialer.MemDialer.{MemDialer}
use Rattle.sq_outside_mem.specs.declared.mem_listener.MemListener.{MemListener}
use Rattle.sq_outside_mem.specs.declared.mem_net.MemNet.{MemNet}
use Rattle.sq_outside_mem.specs.declared.mem_net.MemParts.{MemParts}
use Rattle.sq_outside_mem.specs.declared.mem_spawner.MemSpawner.{MemSpawner}

-- the parts
abbrev pub parts_listener : MemParts → MemListener
parts_listener p = p.listener

abbrev pub parts_dialer : MemParts → MemDialer
parts_dialer p = p.dialer

abbrev pub parts_spawner : MemParts → MemSpawner
parts_spawner p = p.spawner

abbrev pub parts_clock : MemParts → MemClock
parts_clock p = p.clock

abbrev pub parts_resolver : MemParts → MemResolver
parts_resolver p = p.resolver

-- the parts that no opening has handed out yet
abbrev pub net_unopened : MemNet → Option MemParts
net_unopened n = n.unopened

-- the port at which it was opened
abbrev pub net_port : MemNet → Option ℕ
net_port n = n.port

-- the numbers of the openings that are to fail
abbrev pub net_fails : MemNet → List ℕ
net_fails n = n.calls.fails.items

-- how many openings were tried
abbrev pub net_calls : MemNet → ℕ
net_calls n = n.calls.made

-- the next opening fails: it is listed, or the parts were handed out
abbrev pub net_fails_next : MemNet → Bool
net_fails_next n = is_listed (net_fails n) (next_call (net_calls n)) || is_none (net_unopened n)

abbrev pub net_faults : MemNet → ℕ
net_faults n = n.calls.faults
