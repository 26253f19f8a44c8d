-- What the openings of a command add up to, where they are told.
use Rattle.std.proofs.Common.{inl, inr, ◌≡◌, ◌⊎◌, ◌≤◌, ℕ, List, [], ◌∷◌, ◌++◌, append_assoc, Result, Ok, Err, Some, None, IfSome, refl, sym, ap, ◌∙◌, subst}
use Rattle.std.proofs.KnownBytes.{Appends-nil}
use Rattle.std.specs.declared.option.Option.{Option}
use Rattle.sq_outside.specs.Input.{IsWhole, OpensAtMost}
use Rattle.sq_outside.specs.SourceLines.{lines}
use Rattle.sq_outside.specs.Told.{Opening, Openings, AddsOpening, AddsText, Texts}
use Rattle.sq_outside.proofs.Writing.{IsPrefix_nil}
use Rattle.sq_rules.specs.Configurations.{Configuration}
use Rattle.sq_rules.specs.ConfText.{conf_result}
use Rattle.sq_rules.specs.Limits.{text_limit}
use Rattle.sq_rules.specs.declared.kinds.Kind.TheVariants as kind
use Rattle.sq_replay.specs.declared.ends.RunEnd.{RunEnd}
use Rattle.sq_replay.specs.Ends.{End, Done, Refused, Faulted, Reading, Writing, Lacking}
use Rattle.sq_replay.specs.RunText.{ScriptRun, run_script}
use Rattle.sq_replay.specs.Openings.{Added, RunOpened}
use Rattle.sq_replay.specs.Runs.{Reaches, ScriptRuns, missed, paged, told_files}
use Rattle.sq_replay.proofs.OpenedLaws.{Added_map, Added_none, Added_one, Added_then}
use Rattle.sq_commands.specs.declared.ends.Status.{Status}
use Rattle.sq_commands.specs.declared.ends.Status.TheVariants as ends
use Rattle.sq_commands.specs.Commands.{Parse, Replay, Disk, Output, conf_read, conf_stage, parse_output, replay_output, shelf_of, ran_output, script_stage, silent, staged}
use Rattle.sq_commands.specs.Ends.{Comes, IsFault, IsFaultEnd, IsMissingOr, IsOpenEnd, end_of, run_status}
use Rattle.sq_commands.specs.Opened.{BeginsWith, CommandOpened, IsOnce, NamedOpened, PlayOpened, ScriptOpened, behind_first, first_text, opened_output, shelf_over}
use Rattle.sq_commands.specs.Outputs.{Delivers, DeliversAs, IsSettled}
use Rattle.sq_commands.specs.ParseText.{parse_text}
use Rattle.sq_commands.proofs.SettleLaws.{delivers_later}
use Rattle.sq_commands.proofs.ShelfLaws.{begins_is, behind_is, first_is, tells_over}
use Rattle.sq_conf.proofs.TextLaws.{too_long}

-- what `open_conf` says of its openings
abbrev pub ConfOpened : List ℕ → Result Configuration Status → List Opening → Type 0
ConfOpened name result more = IsOnce name more × Comes result (conf_stage name (first_text more))

pub conf_opened : (old new : Openings) (name text : List ℕ) (result : Result Configuration Status)
    → AddsText old new name (λ bytes. IsWhole text_limit bytes (Some text))
    → Comes result (conf_read (conf_result text)) → Added old new (ConfOpened name result)
conf_opened old new name text result adds comes =
    Added_one old new name (λ bytes. IsWhole text_limit bytes (Some text)) (ConfOpened name result) adds
    (λ bytes w. (refl, subst (λ b. Comes result (conf_read (conf_result b))) (sym w.0) comes))

pub conf_long : (old new : Openings) (name : List ℕ) → AddsText old new name (λ bytes. IsWhole text_limit bytes None)
    → Added old new (ConfOpened name (Err (ends.Config 0 kind.TooMany)))
conf_long old new name adds =
    Added_one old new name (λ bytes. IsWhole text_limit bytes None) (ConfOpened name (Err (ends.Config 0 kind.TooMany)))
    adds
    (λ bytes w. (refl, inl (ap conf_read (too_long bytes w))))

pub conf_fault : (old new : Openings) (name : List ℕ) (end : Status) → OpensAtMost old new name → IsFault end
    → Added old new (ConfOpened name (Err end))
conf_fault old new name end (inl same) fault = Added_none old new (ConfOpened name (Err end)) same (tt, inr fault)
conf_fault old new name end (inr adds) fault =
    Added_one old new name (λ _. Unit {0}) (ConfOpened name (Err end)) adds (λ text t. (refl, inr fault))

missing_comes : (name : List ℕ) (end : Status) → IsMissingOr name end
    → Comes {A = Configuration} (Err end) (Err (ends.Missing name))
missing_comes name (ends.Missing other) e = inl (ap (λ n. Err (ends.Missing n)) (sym e))
missing_comes name ends.WantOfMemory e = inr tt
missing_comes name ends.Ok e = absurd e
missing_comes name ends.Usage e = absurd e
missing_comes name ends.JournalFault e = absurd e
missing_comes name ends.Net e = absurd e
missing_comes name (ends.Config l k) e = absurd e
missing_comes name (ends.Script n) e = absurd e
missing_comes name ends.ReadFault e = absurd e
missing_comes name ends.WriteFault e = absurd e
missing_comes name (ends.Differs l m j) e = absurd e

pub conf_missing : (old new : Openings) (name : List ℕ) (end : Status) → new ≡ old → IsMissingOr name end
    → Added old new (ConfOpened name (Err end))
conf_missing old new name end same missing = Added_none old new (ConfOpened name (Err end)) same
    (tt, missing_comes name end missing)

-- a command that ends before it writes, by this end or by a fault
nothing_as : (k : End) (a : Option (List ℕ)) (n : ℕ) (o : Output) (end : Status) → (k ≡ Faulted Writing → ⊥)
    → (o ≡ silent end) ⊎ IsFaultEnd k → DeliversAs k a a n n o end
nothing_as Done a n o end other (inl e) = subst (λ (x : Output). DeliversAs Done a a n n x end) (sym e)
    (refl, Appends-nil a)
nothing_as Done a n o end other (inr fault) = absurd fault
nothing_as Refused a n o end other (inl e) = subst (λ (x : Output). DeliversAs Refused a a n n x end) (sym e)
    (refl, Appends-nil a)
nothing_as Refused a n o end other (inr fault) = absurd fault
nothing_as (Faulted Reading) a n o end other e = ([], Appends-nil a, (IsPrefix_nil o.text, inl (inl refl)))
nothing_as (Faulted Lacking) a n o end other e = ([], Appends-nil a, IsPrefix_nil o.text)
nothing_as (Faulted Writing) a n o end other e = absurd (other refl)

pub nothing_delivers : (a : Option (List ℕ)) (n : ℕ) (o : Output) (end : Status) → (end_of end ≡ Faulted Writing → ⊥)
    → (o ≡ silent end) ⊎ IsFault end → Delivers a a n n o end
nothing_delivers a n o end other e = nothing_as (end_of end) a n o end other e

pub missing_silent : (name : List ℕ) (end : Status) → IsMissingOr name end
    → (silent (ends.Missing name) ≡ silent end) ⊎ IsFault end
missing_silent name (ends.Missing other) e = inl (ap (λ n. silent (ends.Missing n)) (sym e))
missing_silent name ends.WantOfMemory e = inr tt
missing_silent name ends.Ok e = absurd e
missing_silent name ends.Usage e = absurd e
missing_silent name ends.JournalFault e = absurd e
missing_silent name ends.Net e = absurd e
missing_silent name (ends.Config l k) e = absurd e
missing_silent name (ends.Script n) e = absurd e
missing_silent name ends.ReadFault e = absurd e
missing_silent name ends.WriteFault e = absurd e
missing_silent name (ends.Differs l m j) e = absurd e

pub missing_no_write : (name : List ℕ) (end : Status) → IsMissingOr name end → end_of end ≡ Faulted Writing → ⊥
missing_no_write name ends.WriteFault m e = m
missing_no_write name (ends.Missing other) m e = absurd (cc)
missing_no_write name ends.WantOfMemory m e = absurd (cc)
missing_no_write name ends.Ok m e = m
missing_no_write name ends.Usage m e = m
missing_no_write name ends.JournalFault m e = m
missing_no_write name ends.Net m e = m
missing_no_write name (ends.Config l k) m e = m
missing_no_write name (ends.Script n) m e = m
missing_no_write name ends.ReadFault m e = m
missing_no_write name (ends.Differs l x j) m e = m

-- nothing is written before a configuration is read
pub open_no_write : (texts : Texts) (name : List ℕ) (end : Status) → IsOpenEnd texts name end
    → end_of end ≡ Faulted Writing → ⊥
open_no_write texts name ends.ReadFault is e = absurd (cc)
open_no_write texts name ends.WantOfMemory is e = absurd (cc)
open_no_write texts name (ends.Config l k) is e = absurd (cc)
open_no_write texts name (ends.Missing other) is e = absurd (cc)
open_no_write texts name ends.WriteFault is e = is
open_no_write texts name ends.Ok is e = is
open_no_write texts name ends.Usage is e = is
open_no_write texts name ends.JournalFault is e = is
open_no_write texts name ends.Net is e = is
open_no_write texts name (ends.Script n) is e = is
open_no_write texts name (ends.Differs l x j) is e = is

-- the script was opened, and run with what it names
pub play_opened : (texts : Texts) (old mid last new : Openings) (left a b written : Option (List ℕ))
    (before later now : ℕ) (name page : List ℕ) (config : Configuration) (end : RunEnd) (result : Status)
    → AddsOpening old mid name left → IfSome left (λ bytes. Added mid last (RunOpened 0 (lines bytes) end)) → new ≡ last
    → before ≤ later → ScriptRuns (told_files texts mid last) left (paged a written page) config end
    → IsSettled (run_status end) result
    → ((base : Option (List ℕ)) (ran : ScriptRun) → Reaches base written page ran end
    → Delivers base b later now (ran_output ran) result)
    → Added old new (PlayOpened name config a b before now result)
play_opened texts None mid last new left a b written before later now name page config end result adds opens same le
    runs settled settle = tt
play_opened texts (Some earlier) mid last new None a b written before later now name page config end result adds opens
    same le runs settled settle = absurd adds
play_opened texts (Some earlier) mid last new (Some text) a b written before later now name page config end result adds
    opens same le runs settled settle =
    let o : Opening = record { name = name; text = text } in
    let x = subst (λ (m : Openings). Added m last (RunOpened 0 (lines text) end)) adds opens in
    let all = x.0 ++ o ∷ [] in
    let run = run_script (shelf_over x.0) config (lines text) in
    let tells = tells_over texts (o ∷ earlier) x.0 mid last (missed end) adds x.1 in
    let delivers : Delivers a b before now (ran_output run) result =
    delivers_later a b before later now (ran_output run) result le (settle a run (runs (shelf_over x.0) tells)) in
    let named : NamedOpened (Some text) result x.0 = record { end = end; settled = settled; opens = x.2 } in (
      all,
      same ∙ x.1 ∙ ap (λ (l : List Opening). Some l) (sym (append_assoc x.0 (o ∷ []) earlier)),
      (
        (
          begins_is x.0 o name refl,
          subst (λ (f : Option (List ℕ)). NamedOpened f result (behind_first all)) (sym (first_is x.0 o))
              (subst (NamedOpened (Some text) result) (sym (behind_is x.0 o)) named),
        ),
        subst (λ (f : Option (List ℕ)). Delivers a b before now
            (staged (script_stage name f)
            (λ t. ran_output (run_script (shelf_over (behind_first all)) config (lines t))))
            result)
            (sym (first_is x.0 o))
            (subst (λ (l : List Opening). Delivers a b before now
            (ran_output (run_script (shelf_over l) config (lines text))) result) (sym (behind_is x.0 o)) delivers),
      ),
    )

pub play_missing : (old new : Openings) (a : Option (List ℕ)) (n : ℕ) (name : List ℕ) (config : Configuration)
    (end : Status) → new ≡ old → IsMissingOr name end
    → Added old new (PlayOpened name config a a n n end)
play_missing old new a n name config end same missing =
    Added_none old new (PlayOpened name config a a n n end) same (
      (tt, refl),
      nothing_delivers a n (silent (ends.Missing name)) end (missing_no_write name end missing)
          (missing_silent name end missing),
    )

pub play_fault : (old new : Openings) (a : Option (List ℕ)) (n : ℕ) (name : List ℕ) (config : Configuration)
    (end : Status) → new ≡ old → (end_of end ≡ Faulted Writing → ⊥) → IsFault end
    → Added old new (PlayOpened name config a a n n end)
play_fault old new a n name config end same other fault =
    Added_none old new (PlayOpened name config a a n n end) same
    ((tt, refl), nothing_delivers a n (silent (ends.Missing name)) end other (inr fault))

-- a stage that ended a command
pub staged_ends : {A : Type 0} (stage : Result A Status) (go : A → Output) (end : Status) → Comes (Err end) stage
    → (staged stage go ≡ silent end) ⊎ IsFault end
staged_ends stage go end (inl e) = inl (ap (λ s. staged s go) e)
staged_ends stage go end (inr fault) = inr fault

pub parse_ends : (old new : Openings) (a : Option (List ℕ)) (n : ℕ) (conf : List ℕ) (end : Status)
    → (end_of end ≡ Faulted Writing → ⊥) → Added old new (ConfOpened conf (Err end))
    → Added old new (CommandOpened (Some (Parse conf)) a a n n end)
parse_ends old new a n conf end other added =
    Added_map old new (ConfOpened conf (Err end)) (CommandOpened (Some (Parse conf)) a a n n end)
    (λ more p. (
      p.0,
      nothing_delivers a n (opened_output (Some (Parse conf)) more) end other
          (staged_ends (conf_stage conf (first_text more)) _ end p.1),
    )) added

pub parse_opened : (old new : Openings) (a b : Option (List ℕ)) (before now : ℕ) (conf : List ℕ)
    (config : Configuration) (result : Status) → Added old new (ConfOpened conf (Ok config))
    → Delivers a b before now (record { text = parse_text config; end = ends.Ok }) result
    → Added old new (CommandOpened (Some (Parse conf)) a b before now result)
parse_opened old new a b before now conf config result added delivers =
    Added_map old new (ConfOpened conf (Ok config)) (CommandOpened (Some (Parse conf)) a b before now result)
    (λ more p. (
      p.0,
      subst (λ s. Delivers a b before now (staged s (λ c. record { text = parse_text c; end = ends.Ok }))
          result) (sym p.1) delivers,
    )) added

conf_begins : (conf script : List ℕ) (end : Status) (more : List Opening) → IsOnce conf more
    → BeginsWith conf more × ScriptOpened script end (behind_first more)
conf_begins conf script end [] once = (tt, (tt, refl))
conf_begins conf script end (o ∷ []) once = (once, (tt, refl))
conf_begins conf script end (o ∷ p ∷ more) once = absurd once

pub replay_ends : (old new : Openings) (a : Option (List ℕ)) (n : ℕ) (conf script : List ℕ) (end : Status)
    → (end_of end ≡ Faulted Writing → ⊥) → Added old new (ConfOpened conf (Err end))
    → Added old new (CommandOpened (Some (Replay conf script)) a a n n end)
replay_ends old new a n conf script end other added =
    Added_map old new (ConfOpened conf (Err end)) (CommandOpened (Some (Replay conf script)) a a n n end)
    (λ more p. (
      conf_begins conf script end more p.0,
      nothing_delivers a n (opened_output (Some (Replay conf script)) more) end other
          (staged_ends (conf_stage conf (first_text more)) _ end p.1),
    )) added

-- the script's run, over the configuration that was read
abbrev script_run : List Opening → List ℕ → Option (List ℕ) → Configuration → Output
script_run later script text config = staged (script_stage script text)
    (λ t. ran_output (run_script (shelf_over later) config (lines t)))

played : (a b : Option (List ℕ)) (before now : ℕ) (conf script : List ℕ) (config : Configuration) (result : Status)
    → (first next : List Opening) → ConfOpened conf (Ok config) first
    → PlayOpened script config a b before now result next
    → CommandOpened (Some (Replay conf script)) a b before now result (next ++ first)
played a b before now conf script config result [] next p q = absurd (cc)
played a b before now conf script config result (o ∷ []) next p q =
    let all = next ++ o ∷ [] in
    let behind : next ≡ behind_first all = sym (behind_is next o) in
    let there : conf_stage conf (first_text all) ≡ Ok config = ap (conf_stage conf) (first_is next o) ∙ p.1 in
    let run : Delivers a b before now
    (script_run (behind_first (behind_first all)) script (first_text (behind_first all)) config) result =
    subst (λ (l : List Opening). Delivers a b before now (script_run (behind_first l) script (first_text l) config)
    result) behind q.1 in (
      (begins_is next o conf p.0, subst (ScriptOpened script result) behind q.0),
      subst (λ r. Delivers a b before now
          (staged r (script_run (behind_first (behind_first all)) script (first_text (behind_first all)))) result)
          (sym there) run,
    )
played a b before now conf script config result (o ∷ u ∷ first) next p q = absurd p.0

pub replay_opened : (old mid new : Openings) (a b : Option (List ℕ)) (before now : ℕ) (conf script : List ℕ)
    (config : Configuration) (result : Status)
    → Added old mid (ConfOpened conf (Ok config)) → Added mid new (PlayOpened script config a b before now result)
    → Added old new (CommandOpened (Some (Replay conf script)) a b before now result)
replay_opened old mid new a b before now conf script config result first next =
    Added_then old mid new (ConfOpened conf (Ok config)) (PlayOpened script config a b before now result)
    (CommandOpened (Some (Replay conf script)) a b before now result) first next
    (played a b before now conf script config result)

-- the same where texts are told
pub replay_told : (texts : Texts) (same : Texts) (a b : Option (List ℕ)) (before now : ℕ) (conf script : List ℕ)
    (config : Configuration) (result : Status) → same ≡ texts
    → IfSome texts (λ disk. Comes (Ok config) (conf_stage conf (disk conf)))
    → IfSome same (λ disk. Delivers a b before now
    (staged (script_stage script (disk script)) (λ text. ran_output (run_script (shelf_of disk) config (lines text))))
    result)
    → IfSome texts (λ disk. Delivers a b before now (replay_output disk conf script) result)
replay_told None same a b before now conf script config result is comes runs = tt
replay_told (Some disk) same a b before now conf script config result is comes runs =
    subst (λ r. Delivers a b before now
    (staged r (λ c. staged (script_stage script (disk script))
    (λ text. ran_output (run_script (shelf_of disk) c (lines text))))) result)
    (sym comes)
    (subst (λ (t : Texts). IfSome t
    (λ d. Delivers a b before now
    (staged (script_stage script (d script)) (λ text. ran_output (run_script (shelf_of d) config (lines text))))
    result)) is runs)

pub replay_stops : (texts : Texts) (a : Option (List ℕ)) (n : ℕ) (conf script : List ℕ) (end : Status)
    → (end_of end ≡ Faulted Writing → ⊥)
    → IfSome texts (λ disk. Comes {A = Configuration} (Err end) (conf_stage conf (disk conf)))
    → IfSome texts (λ disk. Delivers a a n n (replay_output disk conf script) end)
replay_stops None a n conf script end other comes = tt
replay_stops (Some disk) a n conf script end other comes =
    nothing_delivers a n (replay_output disk conf script) end other
    (staged_ends (conf_stage conf (disk conf)) _ end comes)

-- words that are no command open nothing
pub usage_opened : (old : Openings) (a : Option (List ℕ)) (n : ℕ)
    → Added old old (CommandOpened None a a n n ends.Usage)
usage_opened old a n = Added_none old old (CommandOpened None a a n n ends.Usage) refl (refl, (refl, Appends-nil a))

-- what `parse` writes of a configuration that its file has, where texts are told
pub parse_told : (texts : Texts) (a b : Option (List ℕ)) (before now : ℕ) (conf : List ℕ) (config : Configuration)
    (result : Status) → IfSome texts (λ disk. Comes (Ok config) (conf_stage conf (disk conf)))
    → Delivers a b before now (record { text = parse_text config; end = ends.Ok }) result
    → IfSome texts (λ disk. Delivers a b before now (parse_output disk conf) result)
parse_told None a b before now conf config result comes delivers = tt
parse_told (Some disk) a b before now conf config result comes delivers =
    subst (λ s. Delivers a b before now (staged s (λ c. record { text = parse_text c; end = ends.Ok })) result)
    (sym comes) delivers

-- a fault before anything was written, where texts are told
pub fault_told : (texts : Texts) (a : Option (List ℕ)) (n : ℕ) (output : Disk → Output) (end : Status)
    → (end_of end ≡ Faulted Writing → ⊥) → IsFault end
    → IfSome texts (λ disk. Delivers a a n n (output disk) end)
fault_told None a n output end other fault = tt
fault_told (Some disk) a n output end other fault = nothing_delivers a n (output disk) end other (inr fault)
