-- What a rehearsal writes, and how it ends.
use Rattle.std.proofs.Common.{◌≡◌, ◌↔◌, inl, inr, ℕ, List, Option, Some, None, IfSome, Ok, Err, refl, sym, ap, subst, ◌∙◌, arith}
use Rattle.std.specs.Io.KnownBytes.{Appends}
use Rattle.sq_outside.specs.Output.{Grew, IsProperPrefix}
use Rattle.sq_outside.specs.Told.{Openings, Texts}
use Rattle.sq_replay.specs.Ends.{Faulted, Writing}
use Rattle.sq_rules.specs.Configurations.{Configuration}
use Rattle.sq_rules.specs.ConfText.{conf_result}
use Rattle.sq_commands.specs.declared.summaries.Summary.{Summary}
use Rattle.sq_commands.specs.Rehearsals.{configuration_text, rehearsal}
use Rattle.sq_commands.specs.Summaries.{summary_line}
use Rattle.sq_commands.specs.declared.ends.Status.{Status}
use Rattle.sq_commands.specs.declared.ends.Status.TheVariants as ends
use Rattle.sq_commands.specs.Commands.{Rehearse, command_of, command_output, conf_read, output_of, rehearse_output, rehearsed_by, rehearsed_stage, staged}
use Rattle.sq_commands.specs.Ends.{Comes, HasCauses, IfMissing, IsConfEnd, IsRehearsedEnd, end_of}
use Rattle.sq_commands.specs.Opened.{CommandOpened}
use Rattle.sq_replay.specs.Openings.{Added}
use Rattle.sq_replay.proofs.OpenedLaws.{Added_none}
use Rattle.sq_commands.specs.Outputs.{Delivers}
use Rattle.sq_commands.proofs.OpenedLaws.{nothing_delivers, staged_ends}

-- the line

-- of a summary that was counted over the configuration that was read
pub line_is : (count : ℕ) (config : Configuration) (s : Summary) (line : List ℕ)
    → conf_read (conf_result configuration_text) ≡ Ok config → s ≡ rehearsal config count → s.asks ≡ count
    → line ≡ summary_line s → rehearsed_stage count ≡ Ok line
unfolding rehearsed_stage
line_is count config s line reads counts asks is = ap (rehearsed_by count) reads
    ∙ ap (λ (x : Summary). Ok (summary_line (record x { asks = count }))) (sym counts)
    ∙ ap (λ (n : ℕ). Ok (summary_line (record s { asks = n }))) (sym asks) ∙ ap (λ (x : List ℕ). Ok x) (sym is)

-- no configuration was read
pub unread_comes : (count : ℕ) (end : Status)
    → Comes {A = Configuration} (Err end) (conf_read (conf_result configuration_text))
    → Comes {A = List ℕ} (Err end) (rehearsed_stage count)
unfolding rehearsed_stage
unread_comes count end (inl e) = inl (ap (rehearsed_by count) e)
unread_comes count end (inr fault) = inr fault

pub written_delivers : (a b : Option (List ℕ)) (before now count : ℕ) (line : List ℕ) → rehearsed_stage count ≡ Ok line
    → Appends a b line → Delivers a b before now (rehearse_output count) ends.Ok
written_delivers a b before now count line is wrote =
    subst (λ r. Delivers a b before now (staged r (λ l. record { text = l; end = ends.Ok })) ends.Ok) (sym is)
    (refl, wrote)

pub broken_delivers : (a b : Option (List ℕ)) (before now count : ℕ) (line : List ℕ) → rehearsed_stage count ≡ Ok line
    → Grew a b (λ part. IsProperPrefix part line)
    → Delivers a b before now (rehearse_output count) ends.WriteFault
broken_delivers a b before now count line is wrote =
    subst (λ r. Delivers a b before now (staged r (λ l. record { text = l; end = ends.Ok })) ends.WriteFault) (sym is)
    wrote

conf_no_write : (end : Status) → IsConfEnd end → end_of end ≡ Faulted Writing → ⊥
conf_no_write (ends.Config line kind) is e = absurd (cc)
conf_no_write ends.WantOfMemory is e = absurd (cc)
conf_no_write ends.Ok is e = absurd is
conf_no_write ends.Usage is e = absurd is
conf_no_write (ends.Script n) is e = absurd is
conf_no_write ends.ReadFault is e = absurd is
conf_no_write ends.WriteFault is e = absurd is
conf_no_write (ends.Differs l m j) is e = absurd is
conf_no_write (ends.Missing name) is e = absurd is
conf_no_write ends.JournalFault is e = absurd is
conf_no_write ends.Net is e = absurd is

pub unread_delivers : (a : Option (List ℕ)) (n count : ℕ) (end : Status) → IsConfEnd end
    → Comes {A = List ℕ} (Err end) (rehearsed_stage count) → Delivers a a n n (rehearse_output count) end
unread_delivers a n count end is comes = nothing_delivers a n (rehearse_output count) end (conf_no_write end is)
    (staged_ends (rehearsed_stage count) _ end comes)

-- how it ends

pub conf_rehearsed : (end : Status) → IsConfEnd end → IsRehearsedEnd end
conf_rehearsed (ends.Config line kind) is = tt
conf_rehearsed ends.WantOfMemory is = tt
conf_rehearsed ends.Ok is = absurd is
conf_rehearsed ends.Usage is = absurd is
conf_rehearsed (ends.Script n) is = absurd is
conf_rehearsed ends.ReadFault is = absurd is
conf_rehearsed ends.WriteFault is = absurd is
conf_rehearsed (ends.Differs l m j) is = absurd is
conf_rehearsed (ends.Missing name) is = absurd is
conf_rehearsed ends.JournalFault is = absurd is
conf_rehearsed ends.Net is = absurd is

-- nothing was written
pub unread_causes : (files out : ℕ) (end : Status) → IsConfEnd end → HasCauses files files out out end
unread_causes files out end is = record {
  files_later = omega arith;
  out_later = omega arith;
  read = λ e. absurd (subst IsConfEnd e is);
  write = λ e. absurd (subst IsConfEnd e is);
  files_quiet = λ n. refl;
  out_quiet = λ told. refl;
}

-- the command

pub rehearse_told : (texts : Texts) (a b : Option (List ℕ)) (before now : ℕ) (words : List (List ℕ)) (count : ℕ)
    (result : Status) → command_of words ≡ Some (Rehearse count)
    → Delivers a b before now (rehearse_output count) result
    → IfSome texts (λ disk. Delivers a b before now (output_of disk words) result)
rehearse_told None a b before now words count result is d = tt
rehearse_told (Some disk) a b before now words count result is d =
    subst (λ c. Delivers a b before now (command_output disk c) result) (sym is) d

pub rehearse_opened : (old : Openings) (a b : Option (List ℕ)) (before now : ℕ) (words : List (List ℕ)) (count : ℕ)
    (result : Status) → command_of words ≡ Some (Rehearse count)
    → Delivers a b before now (rehearse_output count) result
    → Added old old (CommandOpened (command_of words) a b before now result)
rehearse_opened old a b before now words count result is d =
    subst (λ c. Added old old (CommandOpened c a b before now result)) (sym is)
    (Added_none old old (CommandOpened (Some (Rehearse count)) a b before now result) refl (refl, d))

pub rehearse_usage : (words : List (List ℕ)) (count : ℕ) (result : Status) → command_of words ≡ Some (Rehearse count)
    → IsRehearsedEnd result → (result ≡ ends.Usage) ↔ (command_of words ≡ None)
rehearse_usage words count result is end = (λ e. absurd (subst IsRehearsedEnd e end), λ e. absurd (cc))

pub rehearse_missing : (P : List ℕ → Type 0) (result : Status) → IsRehearsedEnd result → IfMissing result P
rehearse_missing P ends.Ok end = tt
rehearse_missing P (ends.Config line kind) end = tt
rehearse_missing P ends.WriteFault end = tt
rehearse_missing P ends.WantOfMemory end = tt
rehearse_missing P ends.Usage end = absurd end
rehearse_missing P (ends.Script n) end = absurd end
rehearse_missing P ends.ReadFault end = absurd end
rehearse_missing P (ends.Differs l m j) end = absurd end
rehearse_missing P (ends.Missing name) end = absurd end
rehearse_missing P ends.JournalFault end = absurd end
rehearse_missing P ends.Net end = absurd end
