-- The end of a command: what its page held is written.
use Rattle.std.proofs.Common.{◌≡◌, ◌⊎◌, inl, inr, ℕ, ◌<◌, ◌≤◌, arith, List, [], ◌++◌, true, false, Some, None, IfSome, IsSome, refl, sym, ap, ◌∙◌, subst, append-nil}
use Rattle.std.proofs.KnownBytes.{Appends-nil}
use Rattle.std.specs.Io.KnownBytes.{Appends}
use Rattle.std.specs.declared.option.Option.{Option}
use Rattle.sq_outside.specs.Causes.{Rose, TakesBack}
use Rattle.sq_outside.specs.Output.{Grew, IsPrefix}
use Rattle.sq_outside.specs.SourceLines.{lines}
use Rattle.sq_outside.specs.Told.{Openings, Texts, GivesText}
use Rattle.sq_rules.specs.Configurations.{Configuration}
use Rattle.sq_outside.proofs.Writing.{IsPrefix_trans, IsProperPrefix_front, Grew_map}
use Rattle.sq_journal.specs.EntryText.{written}
use Rattle.sq_replay.specs.declared.ends.RunEnd.{RunEnd}
use Rattle.sq_replay.specs.declared.ends.RunEnd.TheVariants as ended
use Rattle.sq_replay.specs.Ends as runs
use Rattle.sq_replay.specs.Ends.{End, Done, Refused, Faulted, Fault, Reading, Writing, Lacking}
use Rattle.sq_replay.specs.RunText.{ScriptRun, run_script}
use Rattle.sq_replay.specs.Runs.{Reaches, ReachesAs, RunHasCauses, ScriptRuns, Wrote, WroteFront, WroteLines, WrotePart, paged, told_files}
use Rattle.sq_commands.specs.declared.ends.Status.{Status}
use Rattle.sq_commands.specs.declared.ends.Status.TheVariants as ends
use Rattle.sq_commands.specs.Commands.{Output, ran_output, script_stage, shelf_of, staged}
use Rattle.sq_commands.specs.Ends.{HasCauses, IsToldEnd, end_of, run_status, status_of}
use Rattle.sq_commands.specs.Outputs.{Delivers, DeliversAs, IsLines, IsSettled, is_write_end, is_write_fault, failed_as, failed_end}

-- the page was written, and holds nothing
abbrev pub Flushes : Option (List ℕ) → Option (List ℕ) → List ℕ → List ℕ → Type 0
Flushes a b page now = (base : Option (List ℕ)) (text : List ℕ) → Wrote base a page text → Wrote base b now text

-- or a part of it
abbrev pub Breaks : Option (List ℕ) → Option (List ℕ) → List ℕ → Type 0
Breaks a b page = (base : Option (List ℕ)) (text : List ℕ) → Wrote base a page text → WrotePart base b text

pub all_written : (base b : Option (List ℕ)) (now text : List ℕ) → now ≡ [] → Wrote base b now text
    → Appends base b text
all_written base b now text e w = subst (Appends base b)
    (sym (append-nil w.done) ∙ ap (λ p. w.done ++ p) (sym e) ∙ w.whole) w.appends

pub front_written : (base a b : Option (List ℕ)) (page now text : List ℕ) → Flushes a b page now → now ≡ []
    → WroteFront base a page text → Grew base b (λ part. IsPrefix part text)
front_written base a b page now text flush e w = (
  w.front,
  all_written base b now w.front e (flush base w.front w.wrote),
  w.begins,
)

pub front_broken : (base a b : Option (List ℕ)) (page text : List ℕ) → Breaks a b page → WroteFront base a page text
    → Grew base b (λ part. IsPrefix part text)
front_broken base a b page text break w =
    Grew_map base b _ _ (λ bytes p. IsPrefix_trans bytes w.front text (IsProperPrefix_front bytes w.front p) w.begins)
    (break base w.front w.wrote)

pub lines_written : (base a b : Option (List ℕ)) (page now text : List ℕ) (before after : ℕ) → Flushes a b page now
    → now ≡ [] → WroteLines base a page text
    → Grew base b (IsLines before after text)
lines_written base a b page now text before after flush e w =
    (w.front, all_written base b now w.front e (flush base w.front w.wrote), (w.begins, inl w.lines))

pub lines_broken : (base a b : Option (List ℕ)) (page text : List ℕ) (before after : ℕ) → Breaks a b page
    → Rose before after → WroteLines base a page text
    → Grew base b (IsLines before after text)
lines_broken base a b page text before after break rose w =
    Grew_map base b _ _ (λ bytes p.
    (IsPrefix_trans bytes w.front text (IsProperPrefix_front bytes w.front p) w.begins, inr rose))
    (break base w.front w.wrote)

-- a run's end is of the kind of its status
pub kind_same : (end : RunEnd) → runs.end_of end ≡ end_of (run_status end)
kind_same ended.Ok = refl
kind_same (ended.Script n) = refl
kind_same (ended.Config e) = refl
kind_same (ended.Missing n) = refl
kind_same ended.ReadFault = refl
kind_same ended.WriteFault = refl
kind_same ended.WantOfMemory = refl

reaches_kind : (base a : Option (List ℕ)) (page : List ℕ) (ran : ScriptRun) (end : RunEnd) → Reaches base a page ran end
    → ReachesAs (end_of (run_status end)) base a page ran end
reaches_kind base a page ran end r = subst (λ (k : End). ReachesAs k base a page ran end) (kind_same end) r

-- a run whose output could not be written stays so
settled_fault_as : (k : End) (base a : Option (List ℕ)) (before now : ℕ) (page : List ℕ) (ran : ScriptRun)
    (end : RunEnd) → is_write_end k ≡ true → ReachesAs k base a page ran end
    → DeliversAs k base a before now (ran_output ran) (run_status end)
settled_fault_as Done base a before now page ran end e r = absurd (cc)
settled_fault_as Refused base a before now page ran end e r = absurd (cc)
settled_fault_as (Faulted Reading) base a before now page ran end e r = absurd (cc)
settled_fault_as (Faulted Writing) base a before now page ran end e r = r
settled_fault_as (Faulted Lacking) base a before now page ran end e r = absurd (cc)

pub settled_fault : (base a : Option (List ℕ)) (before now : ℕ) (page : List ℕ) (ran : ScriptRun) (end : RunEnd)
    → is_write_fault (run_status end) ≡ true → Reaches base a page ran end
    → Delivers base a before now (ran_output ran) (run_status end)
settled_fault base a before now page ran end e r = settled_fault_as (end_of (run_status end)) base a before now page ran
    end e (reaches_kind base a page ran end r)

-- the last page was written
settled_ok_as : (k : End) (base a b : Option (List ℕ)) (before after : ℕ) (page now : List ℕ) (ran : ScriptRun)
    (end : RunEnd) → is_write_end k ≡ false → Flushes a b page now → now ≡ []
    → ReachesAs k base a page ran end → DeliversAs k base b before after (ran_output ran) (run_status end)
settled_ok_as Done base a b before after page now ran end e flush n (same, w) =
    (ap run_status same, all_written base b now (written ran.history) n (flush base (written ran.history) w))
settled_ok_as Refused base a b before after page now ran end e flush n (same, w) =
    (ap run_status same, all_written base b now (written ran.history) n (flush base (written ran.history) w))
settled_ok_as (Faulted Reading) base a b before after page now ran end e flush n r =
    lines_written base a b page now (written ran.history) before after flush n r
settled_ok_as (Faulted Writing) base a b before after page now ran end e flush n r = absurd (cc)
settled_ok_as (Faulted Lacking) base a b before after page now ran end e flush n r =
    front_written base a b page now (written ran.history) flush n r

pub settled_ok : (base a b : Option (List ℕ)) (before after : ℕ) (page now : List ℕ) (ran : ScriptRun) (end : RunEnd)
    → is_write_fault (run_status end) ≡ false → Flushes a b page now → now ≡ []
    → Reaches base a page ran end → Delivers base b before after (ran_output ran) (run_status end)
settled_ok base a b before after page now ran end e flush n r =
    settled_ok_as (end_of (run_status end)) base a b before after page now ran end e flush n
    (reaches_kind base a page ran end r)

-- the last page could not be written
settled_err_as : (k : End) (base a b : Option (List ℕ)) (before after : ℕ) (page : List ℕ) (ran : ScriptRun)
    (end : RunEnd) → is_write_end k ≡ false → Breaks a b page → Rose before after
    → ReachesAs k base a page ran end → Delivers base b before after (ran_output ran) (failed_as k)
settled_err_as Done base a b before after page ran end e break rose (same, w) = break base (written ran.history) w
settled_err_as Refused base a b before after page ran end e break rose (same, w) = break base (written ran.history) w
settled_err_as (Faulted Reading) base a b before after page ran end e break rose r =
    lines_broken base a b page (written ran.history) before after break rose r
settled_err_as (Faulted Writing) base a b before after page ran end e break rose r = absurd (cc)
settled_err_as (Faulted Lacking) base a b before after page ran end e break rose r =
    front_broken base a b page (written ran.history) break r

pub settled_err : (base a b : Option (List ℕ)) (before after : ℕ) (page : List ℕ) (ran : ScriptRun) (end : RunEnd)
    → is_write_fault (run_status end) ≡ false → Breaks a b page → Rose before after
    → Reaches base a page ran end → Delivers base b before after (ran_output ran) (failed_end (run_status end))
settled_err base a b before after page ran end e break rose r =
    settled_err_as (end_of (run_status end)) base a b before after page ran end e break rose
    (reaches_kind base a page ran end r)

-- a fault is the status of its kind
pub fault_is : (end : Status) (fault : Fault) → end_of end ≡ Faulted fault → end ≡ status_of fault
fault_is ends.ReadFault fault e = cc
fault_is ends.WriteFault fault e = cc
fault_is ends.WantOfMemory fault e = cc
fault_is ends.Ok fault e = absurd (cc)
fault_is ends.Usage fault e = absurd (cc)
fault_is (ends.Config l k) fault e = absurd (cc)
fault_is (ends.Script n) fault e = absurd (cc)
fault_is (ends.Missing n) fault e = absurd (cc)
fault_is (ends.Differs l m j) fault e = absurd (cc)
fault_is ends.JournalFault fault e = absurd (cc)
fault_is ends.Net fault e = absurd (cc)

failed_settled_as : (k : End) (end : Status) → end_of end ≡ k → IsSettled end (failed_as k)
failed_settled_as Done end e = inr refl
failed_settled_as Refused end e = inr refl
failed_settled_as (Faulted fault) end e = inl (sym (fault_is end fault e))

pub failed_settled : (end : Status) → IsSettled end (failed_end end)
failed_settled end = failed_settled_as (end_of end) end refl

-- it is a fault
failed_untold_as : (k : End) → IsToldEnd (end_of (failed_as k)) → ⊥
failed_untold_as Done told = told
failed_untold_as Refused told = told
failed_untold_as (Faulted Reading) told = told
failed_untold_as (Faulted Writing) told = told
failed_untold_as (Faulted Lacking) told = told

pub failed_untold : (end result : Status) → result ≡ failed_end end → IsToldEnd (end_of result) → ⊥
failed_untold end result e told = failed_untold_as (end_of end) (subst (λ (s : Status). IsToldEnd (end_of s)) e told)

-- what was delivered, over a longer time
delivers_later_as : (k : End) (base contents : Option (List ℕ)) (before mid now : ℕ) (o : Output) (end : Status)
    → before ≤ mid → DeliversAs k base contents mid now o end
    → DeliversAs k base contents before now o end
delivers_later_as Done base contents before mid now o end le d = d
delivers_later_as Refused base contents before mid now o end le d = d
delivers_later_as (Faulted Reading) base contents before mid now o end le (part, grew, (front, lines)) =
    (part, grew, (front, elim lines [ inl whole ↦ inl whole | inr rose ↦ inr (omega (arith, rose)) ]))
delivers_later_as (Faulted Writing) base contents before mid now o end le d = d
delivers_later_as (Faulted Lacking) base contents before mid now o end le d = d

pub delivers_later : (base contents : Option (List ℕ)) (before mid now : ℕ) (o : Output) (end : Status) → before ≤ mid
    → Delivers base contents mid now o end
    → Delivers base contents before now o end
delivers_later base contents before mid now o end le d = delivers_later_as (end_of end) base contents before mid now o
    end le d

-- nothing was written yet
pub nothing_yet : (a : Option (List ℕ)) (page : List ℕ) → page ≡ [] → Wrote a a page []
nothing_yet a page e = record { done = []; appends = Appends-nil a; whole = e }

play_text : (disk : List ℕ → Option (List ℕ)) (old new : Openings) (left a b mid : Option (List ℕ))
    (before later now : ℕ) (name page : List ℕ) (config : Configuration) (end : RunEnd) (result : Status)
    → left ≡ disk name → IsSome left → before ≤ later → ScriptRuns (told_files (Some disk) old new) left
    (paged a mid page) config end
    → ((base : Option (List ℕ)) (ran : ScriptRun) → Reaches base mid page ran end
    → Delivers base b later now (ran_output ran) result)
    → Delivers a b before now
    (staged (script_stage name (disk name)) (λ text. ran_output (run_script (shelf_of disk) config (lines text))))
    result
play_text disk old new None a b mid before later now name page config end result e some le runs settle = absurd (cc)
play_text disk old new (Some bytes) a b mid before later now name page config end result e some le runs settle =
    let run = run_script (shelf_of disk) config (lines bytes) in
    subst (λ f. Delivers a b before now
    (staged (script_stage name f) (λ text. ran_output (run_script (shelf_of disk) config (lines text)))) result) e
    (delivers_later a b before later now (ran_output run) result le
    (settle a run (runs (shelf_of disk) (inl (λ k n. refl)))))

-- the script's text was run
pub play_over : (texts same : Texts) (old new : Openings) (left a b mid : Option (List ℕ)) (before later now : ℕ)
    (name page : List ℕ) (config : Configuration) (end : RunEnd) (result : Status) → same ≡ texts
    → GivesText texts name left → before ≤ later → ScriptRuns (told_files same old new) left (paged a mid page) config
    end
    → ((base : Option (List ℕ)) (ran : ScriptRun) → Reaches base mid page ran end
    → Delivers base b later now (ran_output ran) result)
    → IfSome texts (λ disk. Delivers a b before now
    (staged (script_stage name (disk name)) (λ text. ran_output (run_script (shelf_of disk) config (lines text))))
    result)
play_over None same old new left a b mid before later now name page config end result is gives le runs settle = tt
play_over (Some disk) same old new left a b mid before later now name page config end result is (e, some) le runs
    settle =
    play_text disk old new left a b mid before later now name page config end result e some le
    (subst (λ (t : Texts). ScriptRuns (told_files t old new) left (paged a mid page) config end) is runs) settle

-- a result that is told is the end that it was settled from
pub told_end : (end result : Status) → IsSettled end result → IsToldEnd (end_of result) → result ≡ end
told_end end result (inl same) told = same
told_end end result (inr write) told = absurd (subst (λ (s : Status). IsToldEnd (end_of s)) write told)

-- an end that is told is no write fault
pub told_no_write : (end : Status) → IsToldEnd (end_of end) → end ≡ ends.WriteFault → ⊥
told_no_write end told e = subst (λ (s : Status). IsToldEnd (end_of s)) e told

-- the end of a run, by its status
ended_read : (end : RunEnd) → run_status end ≡ ends.ReadFault → end ≡ ended.ReadFault
ended_read ended.ReadFault e = refl
ended_read ended.Ok e = absurd (cc)
ended_read (ended.Script n) e = absurd (cc)
ended_read (ended.Config x) e = absurd (cc)
ended_read (ended.Missing n) e = absurd (cc)
ended_read ended.WriteFault e = absurd (cc)
ended_read ended.WantOfMemory e = absurd (cc)

ended_write : (end : RunEnd) → run_status end ≡ ends.WriteFault → end ≡ ended.WriteFault
ended_write ended.WriteFault e = refl
ended_write ended.Ok e = absurd (cc)
ended_write (ended.Script n) e = absurd (cc)
ended_write (ended.Config x) e = absurd (cc)
ended_write (ended.Missing n) e = absurd (cc)
ended_write ended.ReadFault e = absurd (cc)
ended_write ended.WantOfMemory e = absurd (cc)

settled_read : (end : RunEnd) (result : Status) → IsSettled (run_status end) result → result ≡ ends.ReadFault
    → end ≡ ended.ReadFault
settled_read end result (inl same) e = ended_read end (sym same ∙ e)
settled_read end result (inr write) e = absurd (let both : ends.WriteFault ≡ ends.ReadFault = sym write ∙ e in cc)

rose_files : (f0 f1 f2 f3 s0 s1 : ℕ) → f1 ≡ f0 → s0 ≡ 0 → f2 ≤ f3 → f1 ≤ f2 → (0 < s1 → Rose f2 f3)
    → Rose s0 s1 ⊎ Rose f1 f2 → Rose f0 f3
rose_files f0 f1 f2 f3 s0 s1 is none later more back (inl rose) = let up : Rose f2 f3 =
    back (omega (arith, rose, none)) in omega (arith, up, is, more)
rose_files f0 f1 f2 f3 s0 s1 is none later more back (inr rose) = omega (arith, rose, is, later)

rose_out : (o0 o1 o2 : ℕ) (end : RunEnd) → o0 ≤ o1 → o1 ≤ o2 → (end ≡ ended.WriteFault → Rose o0 o1)
    → (run_status end ≡ ends.WriteFault) ⊎ Rose o1 o2 → Rose o0 o2
rose_out o0 o1 o2 end l m write (inl e) = let rose : Rose o0 o1 = write (ended_write end e) in omega (arith, rose, m)
rose_out o0 o1 o2 end l m write (inr rose) = omega (arith, rose, l)

-- the causes of a script's run, from the opening of its file on
pub play_causes : (f0 f1 f2 f3 s0 s1 o0 o1 o2 : ℕ) (end : RunEnd) (result : Status) → f1 ≡ f0 → s0 ≡ 0
    → RunHasCauses s0 s1 f1 f2 o0 o1 end → TakesBack f2 f3 s1 → IsSettled (run_status end) result
    → (run_status end ≡ ends.ReadFault → result ≡ ends.ReadFault) → o1 ≤ o2
    → (result ≡ ends.WriteFault → (run_status end ≡ ends.WriteFault) ⊎ Rose o1 o2)
    → (IsToldEnd (end_of result) → o2 ≡ o1)
    → HasCauses f0 f3 o0 o2 result
play_causes f0 f1 f2 f3 s0 s1 o0 o1 o2 end result is none ran back settled kept later write quiet = record {
  files_later = let a = ran.files_later in let b = back.later in omega (arith, is, a, b);
  out_later = let a = ran.out_later in omega (arith, a, later);
  read = λ e. rose_files f0 f1 f2 f3 s0 s1 is none back.later ran.files_later back.rose
      (ran.read (settled_read end result settled e));
  write = λ e. rose_out o0 o1 o2 end ran.out_later later ran.write (write e);
  files_quiet = λ n. back.same (ran.script_quiet (λ e. n (kept (ap run_status e))) ∙ none)
      ∙ ran.files_quiet (λ e. n (kept (ap run_status e))) ∙ is;
  out_quiet = λ told.
      quiet told ∙ ran.out_quiet
      (λ e. subst (λ (s : Status). IsToldEnd (end_of s))
      (told_end (run_status end) result settled told ∙ ap run_status e) told);
}
