-- What is handed to a desk at a moment that a clock gave is noted at that moment.
use Rattle.std.proofs.Common.{ℕ, List}
use Rattle.std.specs.declared.option.Option.{Option}
use Rattle.sq_calls.proofs.MomentLaws.{notes_grew, timely_one}
use Rattle.sq_calls.specs.Moments.{AtMoment, IsTimely}
use Rattle.sq_calls.specs.Telling.{IsDead, IsLine, got_told}
use Rattle.sq_keeper.specs.declared.desk.LineEnd.{LineEnd}
use Rattle.sq_machine.specs.declared.entries.Told.TheVariants as told
use Rattle.sq_helper_threads.specs.Handing.{DeskStep, HandsDeath, HandsLine}

pub line_timely : (d : DeskStep) (before now : Option (List ℕ)) (proc : ℕ) (bytes : List ℕ) (end : LineEnd)
    → AtMoment before now (HandsLine d proc bytes end) → IsTimely before now d.told_before d.told_now
line_timely d before now proc bytes end h =
    timely_one h.0 before now d.told_before d.told_now h.1
    (notes_grew d.first h.0 got_told (IsLine proc bytes) d.told_before d.told_now h.2.0 h.2.1)

pub death_timely : (d : DeskStep) (before now : Option (List ℕ)) (proc : ℕ)
    → AtMoment before now (HandsDeath d proc) → IsTimely before now d.told_before d.told_now
death_timely d before now proc h =
    timely_one h.0 before now d.told_before d.told_now h.1
    (notes_grew d.first h.0 (λ _. told.Fine) (IsDead proc) d.told_before d.told_now h.2.0 h.2.1)
