-- What the adapters hold.
use Rattle.std.specs.Prelude.{ℕ, None}
use Rattle.sq_outside.specs.Told.{Texts, Openings}
use Rattle.sq_system.specs.declared.system.RealSource.{RealSource}
use Rattle.sq_system.specs.declared.system.RealSink.{RealSink}
use Rattle.sq_system.specs.declared.system.RealFiles.{RealFiles}
use Rattle.sq_system.specs.declared.lines.RealLines.{RealLines}

-- the reader of std
abbrev pub reader_of : {R : Type 0} → RealSource R → R
reader_of s = s.inner

abbrev pub reader_faults : {R : Type 0} → RealSource R → ℕ
reader_faults s = s.faults

-- the writer of std
abbrev pub writer_of : {W : Type 0} → RealSink W → W
writer_of s = s.inner

abbrev pub writer_faults : {W : Type 0} → RealSink W → ℕ
writer_faults s = s.faults

abbrev pub lines_writer : {W : Type 0} → RealLines W → W
lines_writer s = s.inner

abbrev pub lines_faults : {W : Type 0} → RealLines W → ℕ
lines_faults s = s.faults

-- the system's files tell no text
abbrev pub no_texts : Texts
no_texts = None

-- and no opening
abbrev pub no_openings : Openings
no_openings = None

abbrev pub system_faults : {R : Type 0} → RealFiles R → ℕ
system_faults s = s.faults
