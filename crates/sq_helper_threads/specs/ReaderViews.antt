-- The number and the half of a reader, and the moment at which the start of its process was noted;
-- and the configuration by which look-ups are answered.
use Rattle.std.specs.Prelude.{ℕ}
use Rattle.std.specs.Arc.{arc_value}
use Rattle.sq_rules.specs.Configurations.{Configuration}
use Rattle.sq_helper_threads.specs.declared.halves.AskerOut.{AskerOut}
use Rattle.sq_helper_threads.specs.declared.reader.Reader.{Reader}

abbrev pub reader_proc : {P : Type 0} → Reader P → ℕ
reader_proc reader = reader.proc

abbrev pub reader_since : {P : Type 0} → Reader P → ℕ
reader_since reader = reader.since

abbrev pub reader_from : {P : Type 0} → Reader P → P
reader_from reader = reader.from

abbrev pub asker_config : {R : Type 0} → AskerOut R → Configuration
asker_config asker = arc_value asker.config
