-- What the halves of links in memory hold.
use Rattle.std.specs.Prelude.{Bool}
use Rattle.sq_outside_mem.specs.declared.mem_out.MemOut.{MemOut}
use Rattle.sq_outside_mem.specs.declared.mem_out.MemPair.{MemPair}
use Rattle.sq_outside_mem.specs.declared.mem_sink.MemSink.{MemSink}
use Rattle.sq_outside_mem.specs.declared.mem_source.MemSource.{MemSource}

-- the sink that takes what is written
abbrev pub out_sink : MemOut → MemSink
out_sink o = o.sink

-- whether the half was closed
abbrev pub out_closed : MemOut → Bool
out_closed o = o.closed

-- the half that is read
abbrev pub pair_from : MemPair → MemSource
pair_from p = p.from

-- the half that is written to
abbrev pub pair_to : MemPair → MemOut
pair_to p = p.to
