-- What comes of a journal that is judged, and of its openings.
use Rattle.std.proofs.Common.{◌≡◌, inl, inr, ℕ, ◌<◌, ◌≤◌, List, [], ◌∷◌, ◌++◌, arith, Result, Ok, Err, Some, None, IfSome, refl, sym, ap, ◌∙◌, subst}
use Rattle.std.specs.declared.option.Option.{Option}
use Rattle.std.specs.Io.KnownBytes.{Appends}
use Rattle.sq_outside.specs.Causes.{Rose, TakesBack}
use Rattle.sq_outside.specs.Output.{Grew, IsProperPrefix}
use Rattle.sq_outside.specs.SourceLines.{lines}
use Rattle.sq_outside.specs.Told.{AddsOpening, GivesText, IsNotTold, Opening, Openings, Texts}
use Rattle.sq_rules.specs.ConfText.{conf_result}
use Rattle.sq_rules.specs.Configurations.{Configuration}
use Rattle.sq_rules.specs.declared.kinds.ConfError.{ConfError}
use Rattle.sq_replay.specs.Ends.{Faulted, Writing}
use Rattle.sq_conf.proofs.TextLaws.{gives_configuration}
use Rattle.sq_verify.specs.declared.findings.Finding.{Finding}
use Rattle.sq_verify.specs.declared.findings.Finding.TheVariants as finding
use Rattle.sq_verify.specs.Judging.{Judged, judged}
use Rattle.sq_verify.specs.Promised as promised
use Rattle.sq_verify.specs.FindingText.{finding_text}
use Rattle.sq_verify.proofs.AuditLaws.{audited}
use Rattle.sq_commands.specs.declared.ends.Status.{Status}
use Rattle.sq_commands.specs.declared.ends.Status.TheVariants as ends
use Rattle.sq_commands.specs.Commands.{AuditedTexts, AuditsFiles, Command, IsNamed, Output, Verify, command_output, conf_read, conf_stage, found_output, journal_output, output_of, script_stage, silent, staged, verify_output, verify_over}
use Rattle.sq_commands.specs.Ends.{Comes, HasCauses, IfMissing, IsFault, IsFoundEnd, IsMissingOr, IsPlayedEnd, IsToldEnd, IsVerifyEnd, end_of}
use Rattle.sq_commands.specs.Opened.{BeginsWith, CommandOpened, IsOnce, JournalOpened, behind_first, first_text, opened_output}
use Rattle.sq_commands.specs.Outputs.{Delivers}
use Rattle.sq_replay.specs.Openings.{Added}
use Rattle.sq_replay.proofs.OpenedLaws.{Added_map, Added_none, Added_then}
use Rattle.sq_commands.proofs.OpenedLaws.{ConfOpened, missing_no_write, missing_silent, nothing_delivers, staged_ends}
use Rattle.sq_commands.proofs.ShelfLaws.{begins_is, behind_is, first_is}

-- what was found

-- the number of entries was written, or a part of its line
pub count_written : (a b : Option (List ℕ)) (before now count : ℕ) (j : Judged)
    → Appends a b (finding_text (finding.Verified count)) → promised.Comes j (finding.Verified count)
    → Delivers a b before now (found_output j.found) ends.Ok
count_written a b before now count j wrote is = subst (λ (f : Finding). Delivers a b before now (found_output f)
    ends.Ok) (sym is) (refl, wrote)

pub count_broken : (a b : Option (List ℕ)) (before now count : ℕ) (j : Judged)
    → Grew a b (λ part. IsProperPrefix part (finding_text (finding.Verified count)))
    → promised.Comes j (finding.Verified count)
    → Delivers a b before now (found_output j.found) ends.WriteFault
count_broken a b before now count j grew is = subst (λ (f : Finding). Delivers a b before now (found_output f)
    ends.WriteFault) (sym is) grew

-- else nothing is written before the last line
found_silent : (a : Option (List ℕ)) (n : ℕ) (j : Judged) (found : Finding) (end : Status) → j.found ≡ found
    → (end_of end ≡ Faulted Writing → ⊥) → found_output found ≡ silent end → Delivers a a n n (found_output j.found) end
found_silent a n j found end is other out = nothing_delivers a n (found_output j.found) end other
    (inl (ap found_output is ∙ out))

pub script_found : (a : Option (List ℕ)) (n line : ℕ) (j : Judged) → promised.Comes j (finding.Script line)
    → Delivers a a n n (found_output j.found) (ends.Script line)
script_found a n line j is = found_silent a n j (finding.Script line) (ends.Script line) is (λ e. absurd (cc)) refl

pub differs_found : (a : Option (List ℕ)) (n line : ℕ) (machine journal : List ℕ) (j : Judged)
    → promised.Comes j (finding.Differs line machine journal)
    → Delivers a a n n (found_output j.found) (ends.Differs line machine journal)
differs_found a n line machine journal j is = found_silent a n j (finding.Differs line machine journal)
    (ends.Differs line machine journal) is (λ e. absurd (cc)) refl

pub fault_found : (a : Option (List ℕ)) (n : ℕ) (j : Judged) (end : Status) → (end_of end ≡ Faulted Writing → ⊥)
    → IsFault end → Delivers a a n n (found_output j.found) end
fault_found a n j end other fault = nothing_delivers a n (found_output j.found) end other (inr fault)

-- a journal's file

-- its text came to this
pub journal_over : (texts : Texts) (left a b : Option (List ℕ)) (before now : ℕ) (name : List ℕ) (go : List ℕ → Output)
    (result : Status) → GivesText texts name left
    → IfSome left (λ bytes. Delivers a b before now (go bytes) result)
    → IfSome texts (λ disk. Delivers a b before now (staged (script_stage name (disk name)) go) result)
journal_over None left a b before now name go result gives d = tt
journal_over (Some disk) None a b before now name go result (e, some) d = absurd (cc)
journal_over (Some disk) (Some bytes) a b before now name go result (e, some) d =
    subst (λ (f : Option (List ℕ)). Delivers a b before now (staged (script_stage name f) go) result) e d

pub journal_opened : (old mid new : Openings) (left a b : Option (List ℕ)) (before now : ℕ) (name : List ℕ)
    (go : List ℕ → Output) (result : Status) → AddsOpening old mid name left → new ≡ mid
    → IfSome left (λ bytes. Delivers a b before now (go bytes) result)
    → Added old new (JournalOpened name go a b before now result)
journal_opened None mid new left a b before now name go result adds same d = tt
journal_opened (Some earlier) mid new None a b before now name go result adds same d = absurd adds
journal_opened (Some earlier) mid new (Some text) a b before now name go result adds same d =
    (record { name = name; text = text } ∷ [], same ∙ adds, (refl, d))

pub journal_missing : (old new : Openings) (a : Option (List ℕ)) (n : ℕ) (name : List ℕ) (go : List ℕ → Output)
    (end : Status) → new ≡ old → IsMissingOr name end
    → Added old new (JournalOpened name go a a n n end)
journal_missing old new a n name go end same missing =
    Added_none old new (JournalOpened name go a a n n end) same (
      tt,
      nothing_delivers a n (silent (ends.Missing name)) end (missing_no_write name end missing)
          (missing_silent name end missing),
    )

pub journal_fault : (old new : Openings) (a : Option (List ℕ)) (n : ℕ) (name : List ℕ) (go : List ℕ → Output)
    (end : Status) → new ≡ old → (end_of end ≡ Faulted Writing → ⊥) → IsFault end
    → Added old new (JournalOpened name go a a n n end)
journal_fault old new a n name go end same other fault =
    Added_none old new (JournalOpened name go a a n n end) same
    (tt, nothing_delivers a n (silent (ends.Missing name)) end other (inr fault))

-- what was found is delivered, whatever the source has left
pub found_told : (left a b : Option (List ℕ)) (before now : ℕ) (config : Configuration) (found : Finding)
    (result : Status) → IfSome left (λ bytes. promised.Comes (judged config (lines bytes)) found)
    → ((j : Judged) → promised.Comes j found → Delivers a b before now (found_output j.found) result)
    → IfSome left (λ bytes. Delivers a b before now (journal_output config bytes) result)
found_told None a b before now config found result comes settle = tt
found_told (Some bytes) a b before now config found result comes settle = settle (judged config (lines bytes)) comes

-- causes

found_read : (found : Finding) (result : Status) → IsFoundEnd found result → result ≡ ends.ReadFault
    → found ≡ finding.ReadFault
found_read (finding.Verified n) result (inl x) e = absurd (let both : ends.Ok ≡ ends.ReadFault = sym x ∙ e in cc)
found_read (finding.Verified n) result (inr x) e = absurd
    (let both : ends.WriteFault ≡ ends.ReadFault = sym x ∙ e in cc)
found_read (finding.Script n) result x e = absurd (let both : ends.Script n ≡ ends.ReadFault = sym x ∙ e in cc)
found_read (finding.Differs l m j) result x e = absurd
    (let both : ends.Differs l m j ≡ ends.ReadFault = sym x ∙ e in cc)
found_read finding.ReadFault result x e = refl
found_read finding.WantOfMemory result x e = absurd (let both : ends.WantOfMemory ≡ ends.ReadFault = sym x ∙ e in cc)

found_kept : (found : Finding) (result : Status) → IsFoundEnd found result → found ≡ finding.ReadFault
    → result ≡ ends.ReadFault
found_kept found result x e = subst (λ (f : Finding). IsFoundEnd f result) e x

rose_back : (f0 f1 f2 s0 s1 : ℕ) → f1 ≡ f0 → s0 ≡ 0 → (0 < s1 → Rose f1 f2) → Rose s0 s1 → Rose f0 f2
rose_back f0 f1 f2 s0 s1 is none back rose = let up : Rose f1 f2 = back (omega (arith, rose, none)) in
    omega (arith, up, is)

-- from the opening of the file on
pub judge_causes : (f0 f1 f2 s0 s1 o0 o1 : ℕ) (found : Finding) (result : Status) → f1 ≡ f0 → s0 ≡ 0
    → promised.JudgeHasCauses s0 s1 found → TakesBack f1 f2 s1 → IsFoundEnd found result
    → o0 ≤ o1 → (result ≡ ends.WriteFault → Rose o0 o1) → (IsToldEnd (end_of result) → o1 ≡ o0)
    → HasCauses f0 f2 o0 o1 result
judge_causes f0 f1 f2 s0 s1 o0 o1 found result is none ran back end later write quiet = record {
  files_later = let b = back.later in omega (arith, is, b);
  out_later = later;
  read = λ e. rose_back f0 f1 f2 s0 s1 is none back.rose (ran.read (found_read found result end e));
  write = write;
  files_quiet = λ n. back.same (ran.quiet (λ e. n (found_kept found result end e)) ∙ none) ∙ is;
  out_quiet = quiet;
}

-- how it ends
pub found_played : (texts : Texts) (name : List ℕ) (found : Finding) (result : Status) → IsFoundEnd found result
    → IsPlayedEnd texts name result
found_played texts name (finding.Verified n) result (inl e) = subst (IsPlayedEnd texts name) (sym e) tt
found_played texts name (finding.Verified n) result (inr e) = subst (IsPlayedEnd texts name) (sym e) tt
found_played texts name (finding.Script n) result e = subst (IsPlayedEnd texts name) (sym e) tt
found_played texts name (finding.Differs l m j) result e = subst (IsPlayedEnd texts name) (sym e) tt
found_played texts name finding.ReadFault result e = subst (IsPlayedEnd texts name) (sym e) tt
found_played texts name finding.WantOfMemory result e = subst (IsPlayedEnd texts name) (sym e) tt

-- the command

conf_once : (conf journal : List ℕ) (more : List Opening) → IsOnce conf more
    → BeginsWith conf more × IsOnce journal (behind_first more)
conf_once conf journal [] once = (tt, tt)
conf_once conf journal (o ∷ []) once = (once, tt)
conf_once conf journal (o ∷ p ∷ more) once = absurd once

pub verify_ends : (old new : Openings) (a : Option (List ℕ)) (n : ℕ) (conf journal : List ℕ) (end : Status)
    → (end_of end ≡ Faulted Writing → ⊥) → Added old new (ConfOpened conf (Err end))
    → Added old new (CommandOpened (Some (Verify conf journal)) a a n n end)
verify_ends old new a n conf journal end other added =
    Added_map old new (ConfOpened conf (Err end)) (CommandOpened (Some (Verify conf journal)) a a n n end)
    (λ more p. (
      conf_once conf journal more p.0,
      nothing_delivers a n (opened_output (Some (Verify conf journal)) more) end other
          (staged_ends (conf_stage conf (first_text more)) _ end p.1),
    )) added

pub verify_stops : (texts : Texts) (a : Option (List ℕ)) (n : ℕ) (conf journal : List ℕ) (end : Status)
    → (end_of end ≡ Faulted Writing → ⊥)
    → IfSome texts (λ disk. Comes {A = Configuration} (Err end) (conf_stage conf (disk conf)))
    → IfSome texts (λ disk. Delivers a a n n (verify_output disk conf journal) end)
verify_stops None a n conf journal end other comes = tt
verify_stops (Some disk) a n conf journal end other comes =
    nothing_delivers a n (verify_output disk conf journal) end other
    (staged_ends (conf_stage conf (disk conf)) _ end comes)

-- the journal's text, over the configuration that was read
abbrev journal_run : List ℕ → Option (List ℕ) → Configuration → Output
journal_run journal text config = staged (script_stage journal text) (journal_output config)

judged_opened : (a b : Option (List ℕ)) (before now : ℕ) (conf journal : List ℕ) (config : Configuration)
    (result : Status)
    → (first next : List Opening) → ConfOpened conf (Ok config) first
    → JournalOpened journal (journal_output config) a b before now result next
    → CommandOpened (Some (Verify conf journal)) a b before now result (next ++ first)
judged_opened a b before now conf journal config result [] next p q = absurd (cc)
judged_opened a b before now conf journal config result (o ∷ []) next p q =
    let all = next ++ o ∷ [] in
    let behind : next ≡ behind_first all = sym (behind_is next o) in
    let there : conf_stage conf (first_text all) ≡ Ok config = ap (conf_stage conf) (first_is next o) ∙ p.1 in
    let run : Delivers a b before now (journal_run journal (first_text (behind_first all)) config) result =
    subst (λ (l : List Opening). Delivers a b before now (journal_run journal (first_text l) config) result) behind
    q.1 in (
      (begins_is next o conf p.0, subst (IsOnce journal) behind q.0),
      subst (λ r. Delivers a b before now (staged r (journal_run journal (first_text (behind_first all)))) result)
          (sym there) run,
    )
judged_opened a b before now conf journal config result (o ∷ u ∷ first) next p q = absurd p.0

pub verify_opened : (old mid new : Openings) (a b : Option (List ℕ)) (before now : ℕ) (conf journal : List ℕ)
    (config : Configuration) (result : Status)
    → Added old mid (ConfOpened conf (Ok config))
    → Added mid new (JournalOpened journal (journal_output config) a b before now result)
    → Added old new (CommandOpened (Some (Verify conf journal)) a b before now result)
verify_opened old mid new a b before now conf journal config result first next =
    Added_then old mid new (ConfOpened conf (Ok config))
    (JournalOpened journal (journal_output config) a b before now result)
    (CommandOpened (Some (Verify conf journal)) a b before now result) first next
    (judged_opened a b before now conf journal config result)

-- the same where texts are told
pub verify_told : (texts same : Texts) (a b : Option (List ℕ)) (before now : ℕ) (conf journal : List ℕ)
    (config : Configuration) (result : Status) → same ≡ texts
    → IfSome texts (λ disk. Comes (Ok config) (conf_stage conf (disk conf)))
    → IfSome same (λ disk. Delivers a b before now
    (staged (script_stage journal (disk journal)) (journal_output config)) result)
    → IfSome texts (λ disk. Delivers a b before now (verify_output disk conf journal) result)
verify_told None same a b before now conf journal config result is comes runs = tt
verify_told (Some disk) same a b before now conf journal config result is comes runs =
    subst (λ r. Delivers a b before now
    (staged r (λ c. staged (script_stage journal (disk journal)) (journal_output c))) result)
    (sym comes)
    (subst (λ (t : Texts). IfSome t
    (λ d. Delivers a b before now (staged (script_stage journal (d journal)) (journal_output config)) result)) is runs)

-- the end of the command, by the ends of its parts
pub verify_played : (texts same : Texts) (conf journal : List ℕ) (result : Status) → same ≡ texts
    → IsPlayedEnd same journal result → IsVerifyEnd texts conf journal result
verify_played texts same conf journal (ends.Missing name) is (e, told) =
    (inr e, subst (λ (n : List ℕ). IsNotTold texts n) (sym e) (subst (λ (t : Texts). IsNotTold t journal) is told))
verify_played texts same conf journal ends.Usage is e = absurd e
verify_played texts same conf journal ends.Ok is e = tt
verify_played texts same conf journal (ends.Config l k) is e = tt
verify_played texts same conf journal (ends.Script n) is e = tt
verify_played texts same conf journal ends.ReadFault is e = tt
verify_played texts same conf journal ends.WriteFault is e = tt
verify_played texts same conf journal (ends.Differs l m j) is e = tt
verify_played texts same conf journal ends.JournalFault is e = tt
verify_played texts same conf journal ends.Net is e = tt
verify_played texts same conf journal ends.WantOfMemory is e = tt

-- a file that it misses is one that it names
pub verify_missing : (texts : Texts) (conf journal : List ℕ) (result : Status) → IsVerifyEnd texts conf journal result
    → IfMissing result (λ name. IsNamed texts (Some (Verify conf journal)) name × IsNotTold texts name)
verify_missing texts conf journal (ends.Missing name) e = e
verify_missing texts conf journal ends.Usage e = tt
verify_missing texts conf journal ends.Ok e = tt
verify_missing texts conf journal (ends.Config l k) e = tt
verify_missing texts conf journal (ends.Script n) e = tt
verify_missing texts conf journal ends.ReadFault e = tt
verify_missing texts conf journal ends.WriteFault e = tt
verify_missing texts conf journal (ends.Differs l m j) e = tt
verify_missing texts conf journal ends.JournalFault e = tt
verify_missing texts conf journal ends.Net e = tt
verify_missing texts conf journal ends.WantOfMemory e = tt

-- audits

by_found : (text bytes : List ℕ) (config : Configuration) (found : Finding) → conf_result text ≡ Ok config
    → (judged config (lines bytes)).found ≡ found → ends.Ok ≡ (found_output found).end
    → AuditedTexts (Some text) (Some bytes)
by_found text bytes config (finding.Verified n) reads is e =
    record {
      text = text;
      config = config;
      bytes = bytes;
      count = n;
      conf_there = refl;
      conf_reads = reads;
      journal_there = refl;
      audited = audited config bytes n (gives_configuration text config reads) is;
    }
by_found text bytes config (finding.Script n) reads is e = absurd (cc)
by_found text bytes config (finding.Differs l m j) reads is e = absurd (cc)
by_found text bytes config finding.ReadFault reads is e = absurd (cc)
by_found text bytes config finding.WantOfMemory reads is e = absurd (cc)

by_journal : (journal text : List ℕ) (config : Configuration) (o : Option (List ℕ)) → conf_result text ≡ Ok config
    → ends.Ok ≡ (staged (script_stage journal o) (journal_output config)).end
    → AuditedTexts (Some text) o
by_journal journal text config None reads e = absurd (cc)
by_journal journal text config (Some bytes) reads e = by_found text bytes config (judged config (lines bytes)).found
    reads refl e

by_read : (journal text : List ℕ) (r : Result Configuration ConfError) (o : Option (List ℕ)) → conf_result text ≡ r
    → ends.Ok ≡ (staged (conf_read r) (λ config. staged (script_stage journal o) (journal_output config))).end
    → AuditedTexts (Some text) o
by_read journal text (Ok config) o reads e = by_journal journal text config o reads e
by_read journal text (Err x) o reads e = absurd (cc)

-- where `verify` ends well over two texts, they are audited
pub texts_audited : (conf journal : List ℕ) (o p : Option (List ℕ)) → ends.Ok ≡ (verify_over o p conf journal).end
    → AuditedTexts o p
texts_audited conf journal None p e = absurd (cc)
texts_audited conf journal (Some text) p e = by_read journal text (conf_result text) p refl e

-- where `verify` ends well, its journal is audited
pub audits_told : (texts : Texts) (a b : Option (List ℕ)) (before now : ℕ) (words : List (List ℕ)) (s same : Status)
    → same ≡ s → same ≡ ends.Ok
    → IfSome texts (λ disk. Delivers a b before now (output_of disk words) s)
    → IfSome texts (λ disk. AuditsFiles disk words)
audits_told None a b before now words s same is ok d = tt
audits_told (Some disk) a b before now words s same is ok d = λ conf journal command.
    let done : Delivers a b before now (output_of disk words) ends.Ok =
    subst (λ (x : Status). Delivers a b before now (output_of disk words) x) (sym is ∙ ok) d in
    texts_audited conf journal (disk conf) (disk journal)
    (done.0 ∙ ap (λ (c : Option Command). (command_output disk c).end) command)
