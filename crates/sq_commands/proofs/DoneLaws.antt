-- What is true of the runs that a command makes, and what came of it by its openings.
use Rattle.std.proofs.Common.{◌≡◌, ◌↔◌, inl, inr, ℕ, ◌≤◌, List, Some, None, IfSome, Ok, Err, Result, refl, sym, ap, subst, ◌∙◌}
use Rattle.std.specs.declared.option.Option.{Option}
use Rattle.sq_outside.specs.Output.{Grew, IsWritten}
use Rattle.sq_outside.specs.SourceLines.{lines}
use Rattle.sq_outside.specs.Told.{Opening, Openings}
use Rattle.sq_rules.specs.ConfText.{conf_result}
use Rattle.sq_rules.specs.declared.kinds.ConfError.{ConfError}
use Rattle.sq_rules.specs.Configurations.{Configuration}
use Rattle.sq_replay.specs.Ends.{End, Done, Refused, Faulted}
use Rattle.sq_replay.specs.Openings.{Added}
use Rattle.sq_replay.specs.RunText.{Shelf}
use Rattle.sq_replay.proofs.HeadlineLaws.{run_true}
use Rattle.sq_replay.proofs.OpenedLaws.{Added_map}
use Rattle.sq_conf.proofs.TextLaws.{gives_configuration}
use Rattle.sq_verify.specs.declared.findings.Finding.{Finding}
use Rattle.sq_verify.specs.declared.findings.Finding.TheVariants as finding
use Rattle.sq_verify.specs.Judging.{judged}
use Rattle.sq_verify.proofs.MigratedLaws.{migrated_verified}
use Rattle.sq_commands.specs.declared.ends.Status.{Status}
use Rattle.sq_commands.specs.declared.ends.Status.TheVariants as ends
use Rattle.sq_commands.specs.Commands.{Command, Disk, Migrate, MigratesAlike, MigratesTruly, Output, Parse, Rehearse, Replay, RunsTruly, RunsTrulyOver, Verify, conf_read, found_output, journal_output, migrated_output, shelf_of, staged, conf_stage}
use Rattle.sq_commands.specs.Ends.{EndsBy, IsFaultEnd, IsToldEnd, end_of, last_line}
use Rattle.sq_commands.specs.Opened.{AuditedOpened, CameOf, CommandOpened, TrueOpened, behind_first, first_text, opened_output, shelf_over}
use Rattle.sq_commands.specs.Outputs.{Delivers, DeliversAs}
use Rattle.sq_commands.proofs.EndLaws.{with_line_is}
use Rattle.sq_commands.proofs.VerifyLaws.{texts_audited}

-- a configuration that a run begins with is one that the text gives
started : (name : List ℕ) (o : Option (List ℕ)) (config : Configuration) → conf_stage name o ≡ Ok config
    → (text : List ℕ) × (conf_result text ≡ Ok config)
started name None config e = absurd (cc)
started name (Some text) config e = (text, by (conf_result text) refl e)
  where
    by : (r : Result Configuration ConfError) → conf_result text ≡ r → conf_read r ≡ Ok config
        → conf_result text ≡ Ok config
    by (Ok c) is e = is ∙ (let same : c ≡ config = cc in ap (λ (x : Configuration). Ok x) same)
    by (Err x) is e = absurd (cc)

-- each run over texts that are there is true
runs_over : (files : Shelf) (conf_text script_text : Option (List ℕ)) (conf : List ℕ)
    → RunsTrulyOver files conf_text script_text conf
runs_over files conf_text script_text conf = λ config text there script_there.
    let s = started conf conf_text config there in
    run_true files config (lines text) (gives_configuration s.0 config s.1)

pub runs_truly_told : (texts : Option Disk) (words : List (List ℕ)) → IfSome texts (λ disk. RunsTruly disk words)
runs_truly_told None words = tt
runs_truly_told (Some disk) words = λ conf script command. runs_over (shelf_of disk) (disk conf) (disk script) conf

-- migrated journals

verified_of : (f : Finding) → (found_output f).end ≡ ends.Ok → (n : ℕ) × (f ≡ finding.Verified n)
verified_of (finding.Verified n) e = (n, refl)
verified_of (finding.Script line) e = absurd (cc)
verified_of (finding.Differs line machine journal) e = absurd (cc)
verified_of finding.ReadFault e = absurd (cc)
verified_of finding.WantOfMemory e = absurd (cc)

found_alike : (f g : Finding) → ((n : ℕ) → f ≡ finding.Verified n → g ≡ finding.Verified n)
    → (found_output f).end ≡ ends.Ok → (found_output g).end ≡ ends.Ok
found_alike f g more e = let v = verified_of f e in ap (λ (x : Finding). (found_output x).end) (more v.0 v.1)

-- one stage more before both
staged_alike : (s : Result Configuration Status) (go other : Configuration → Output)
    → ((config : Configuration) → ((go config).end ≡ ends.Ok) ↔ ((other config).end ≡ ends.Ok))
    → ((staged s go).end ≡ ends.Ok) ↔ ((staged s other).end ≡ ends.Ok)
staged_alike (Ok config) go other same = same config
staged_alike (Err end) go other same = (λ e. e, λ e. e)

migrates_alike : (bytes : List ℕ) → MigratesAlike bytes
migrates_alike bytes = λ small whole short fits conf_text conf journal.
    staged_alike (conf_stage conf conf_text) (λ config. journal_output config bytes)
    (λ config. journal_output config (migrated_output bytes).text)
    (λ config. (
      found_alike (judged config (lines bytes)).found (judged config (lines (migrated_output bytes).text)).found
          (λ n. (migrated_verified config bytes n small whole short fits).0),
      found_alike (judged config (lines (migrated_output bytes).text)).found (judged config (lines bytes)).found
          (λ n. (migrated_verified config bytes n small whole short fits).1),
    ))

pub migrates_truly_told : (texts : Option Disk) (words : List (List ℕ))
    → IfSome texts (λ disk. MigratesTruly disk words)
migrates_truly_told None words = tt
migrates_truly_told (Some disk) words = λ journal bytes command there. migrates_alike bytes

-- by openings

true_opened : (command : Option Command) (more : List Opening) → TrueOpened command more
true_opened (Some (Replay conf script)) more = runs_over (shelf_over (behind_first (behind_first more)))
    (first_text more) (first_text (behind_first more)) conf
true_opened None more = tt
true_opened (Some (Parse conf)) more = tt
true_opened (Some (Verify conf journal)) more = tt
true_opened (Some (Migrate journal)) more = tt
true_opened (Some (Rehearse count)) more = tt

audited_opened : (command : Option Command) (more : List Opening) → ends.Ok ≡ (opened_output command more).end
    → AuditedOpened command more
audited_opened (Some (Verify conf journal)) more e = texts_audited conf journal (first_text more)
    (first_text (behind_first more)) e
audited_opened None more e = tt
audited_opened (Some (Parse conf)) more e = tt
audited_opened (Some (Replay conf script)) more e = tt
audited_opened (Some (Migrate journal)) more e = tt
audited_opened (Some (Rehearse count)) more e = tt

-- what was delivered says how it ended
ends_as : (k : End) (a b : Option (List ℕ)) (before now : ℕ) (o : Output) (s : Status) → end_of s ≡ k
    → DeliversAs k a b before now o s → EndsBy o.end s
ends_as Done a b before now o s is d = inl d.0
ends_as Refused a b before now o s is d = inl d.0
ends_as (Faulted fault) a b before now o s is d = inr (subst IsFaultEnd (sym is) tt)

ends_well : (a b : Option (List ℕ)) (before now : ℕ) (o : Output) (s : Status) → s ≡ ends.Ok
    → Delivers a b before now o s → ends.Ok ≡ o.end
ends_well a b before now o s ok d = (subst (λ (x : Status). Delivers a b before now o x) ok d).0

-- the last line is written behind what the openings gave
pub opened_told : (old new : Openings) (a b c : Option (List ℕ)) (command : Option Command) (before mid now : ℕ)
    (s same : Status) → same ≡ s → before ≤ mid → (IsToldEnd (end_of s) → mid ≡ before)
    → Added old new (CommandOpened command a b before mid s) → Grew b c (IsWritten mid now (last_line s))
    → Added old new (CameOf command a c before now same)
opened_told old new a b c command before mid now s same e le quiet added line =
    subst (λ (x : Status). Added old new (CameOf command a c before now x)) (sym e)
    (Added_map old new (CommandOpened command a b before mid s) (CameOf command a c before now s)
    (λ more p. record {
      names = p.0;
      bytes = with_line_is a b c (opened_output command more) before mid now s le quiet p.1 line;
      ended = ends_as (end_of s) a b before mid (opened_output command more) s refl p.1;
      truly = true_opened command more;
      audits = λ ok. audited_opened command more (ends_well a b before mid (opened_output command more) s ok p.1);
    }) added)
