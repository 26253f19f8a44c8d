-- What the forms in memory tell, their room, and the calls of them that are to fail.
use Rattle.std.specs.Prelude.{ℕ, ◌-◌, List, length, drop, min, map, reverse, Bool, ◌||◌, ◌&&◌, ◌==◌, nat_lt, is_some, bytes_eq, vec_len}
use Rattle.std.specs.List.{find}
use Rattle.std.specs.Option.{option_map}
use Rattle.std.specs.declared.option.Option.{Option}
use Rattle.sq_outside.specs.Calls.{next_call, is_listed}
use Rattle.sq_outside_mem.specs.declared.mem_files.MemFile.{MemFile}
use Rattle.sq_outside_mem.specs.declared.mem_files.MemFiles.{MemFiles}
use Rattle.sq_outside_mem.specs.declared.mem_files.MemOpening.{MemOpening}
use Rattle.sq_outside_mem.specs.declared.mem_sink.MemSink.{MemSink}
use Rattle.sq_outside_mem.specs.declared.mem_source.MemSource.{MemSource}
use Rattle.sq_outside.specs.Told.{Opening}

-- the bytes that the source has left
abbrev pub source_left : MemSource → List ℕ
source_left s = drop s.at s.text.items

-- all the bytes of the source, from its beginning
abbrev pub source_text : MemSource → List ℕ
source_text s = s.text.items

-- how many bytes a read into so many places gives, where it does not fail
abbrev pub source_gives : MemSource → ℕ → ℕ
source_gives s places = min (min (length (source_left s)) places) s.step

-- at most so many bytes come in a read
abbrev pub source_step : MemSource → ℕ
source_step s = s.step

-- the numbers of the reads that are to fail
abbrev pub source_fails : MemSource → List ℕ
source_fails s = s.calls.fails.items

-- how many reads were made
abbrev pub source_calls : MemSource → ℕ
source_calls s = s.calls.made

-- the next read fails: it is listed
abbrev pub source_fails_next : MemSource → Bool
source_fails_next s = is_listed (source_fails s) (next_call (source_calls s))

abbrev pub source_faults : MemSource → ℕ
source_faults s = s.calls.faults

-- the bytes that were written
abbrev pub sink_bytes : MemSink → List ℕ
sink_bytes s = s.bytes.items

-- for how many more bytes there is room
abbrev pub sink_room : MemSink → ℕ
sink_room s = s.room - vec_len s.bytes

-- how many of so many bytes a write takes, where it does not fail
abbrev pub sink_takes : MemSink → ℕ → ℕ
sink_takes s count = min (min count (sink_room s)) s.step

-- at most so many bytes are taken in a write
abbrev pub sink_step : MemSink → ℕ
sink_step s = s.step

-- the numbers of the writes that are to fail
abbrev pub sink_fails : MemSink → List ℕ
sink_fails s = s.calls.fails.items

-- how many writes were made
abbrev pub sink_calls : MemSink → ℕ
sink_calls s = s.calls.made

-- the next write, of so many bytes, fails: it is listed, or there are bytes and no room is left
abbrev pub sink_fails_next : MemSink → ℕ → Bool
sink_fails_next s count = is_listed (sink_fails s) (next_call (sink_calls s)) || nat_lt 0 count
    && sink_room s == 0

abbrev pub sink_faults : MemSink → ℕ
sink_faults s = s.calls.faults

-- the text of the first file of this name
abbrev pub text_at : List MemFile → List ℕ → Option (List ℕ)
text_at files name = option_map (λ f. f.text) (find (λ f. bytes_eq f.name name) files)

-- the reads of the first file of this name that are to fail
abbrev pub fails_at : List MemFile → List ℕ → Option (List ℕ)
fails_at files name = option_map (λ f. f.fails.items) (find (λ f. bytes_eq f.name name) files)

-- a kept opening, as it is told
abbrev pub told_opening : MemOpening → Opening
told_opening o = record { name = o.name; text = o.text }

-- the files that are there
abbrev pub files_list : MemFiles → List MemFile
files_list s = s.files.items

-- the openings that gave a source, newest first; they are kept oldest first
abbrev pub files_opened : MemFiles → List Opening
files_opened s = reverse (map told_opening s.openings.items)

-- for how many more openings there is room
abbrev pub files_room : MemFiles → ℕ
files_room s = s.room - vec_len s.openings

-- at most so many bytes come in a read of a source
abbrev pub files_step : MemFiles → ℕ
files_step s = s.step

-- the numbers of the openings that are to fail
abbrev pub files_fails : MemFiles → List ℕ
files_fails s = s.calls.fails.items

-- how many openings were tried
abbrev pub files_calls : MemFiles → ℕ
files_calls s = s.calls.made

-- the next opening is listed
abbrev pub files_lists_next : MemFiles → Bool
files_lists_next s = is_listed (files_fails s) (next_call (files_calls s))

-- the next opening, of this name, fails: it is listed, or there is such a file and no room is left
abbrev pub files_fails_next : MemFiles → List ℕ → Bool
files_fails_next s name = files_lists_next s || is_some (text_at (files_list s) name)
    && files_room s == 0

abbrev pub files_faults : MemFiles → ℕ
files_faults s = s.calls.faults
