-- What the line at the front of bytes is.
use Rattle.std.specs.Prelude.{ℕ, List}
use Rattle.httparse.specs.Grammar.{ChunkLine, HasNoChunkLine, NeverHasChunkLine, MayBecomeChunkLine}
use Rattle.httparse.specs.Spans.{IsChunkLineAt}
use Rattle.sq_message.specs.declared.chunk_line.LineRead.{LineRead}
use Rattle.sq_message.specs.declared.chunk_line.LineRead.TheVariants.{Whole, NotYet, Never}

-- the bytes begin with a line of this length and size, hold none yet, or never do
abbrev pub LineReads : List ℕ → LineRead → Type 0
LineReads bytes (Whole len size) = (l : ChunkLine) × IsChunkLineAt bytes len size l
LineReads bytes NotYet = HasNoChunkLine bytes × MayBecomeChunkLine bytes
LineReads bytes Never = NeverHasChunkLine bytes
