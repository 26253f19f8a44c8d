-- In the statement: docs/STATEMENT.md lists which definitions.
-- What a journal is that was verified.
use Rattle.std.specs.Prelude.{◌≡◌, ℕ, List, [], ◌∷◌, ◌++◌, length, Bool, true, false, IfSome}
use Rattle.std.specs.declared.option.Option.{Option}
use Rattle.sq_outside.specs.SourceLines.{SourceLine}
use Rattle.sq_rules.specs.Configurations.{Configuration}
use Rattle.sq_machine.specs.Entries.{History}
use Rattle.sq_journal.specs.EntryText.{written}
use Rattle.sq_journal.specs.Journals.{journal_text, numbered_lines}
use Rattle.sq_replay.specs.Headline.{IsTrue}
use Rattle.sq_verify.specs.declared.findings.Finding.{Finding}
use Rattle.sq_verify.specs.declared.findings.Finding.TheVariants as finding
use Rattle.sq_verify.specs.declared.versions.Version.{Version}
use Rattle.sq_verify.specs.declared.versions.Version.TheVariants.{One, Two}

-- the text of a journal of this version
abbrev pub text_of : Version → History → List ℕ
text_of One h = written h
text_of Two h = journal_text h

-- its lines, but for the one that tells the version
abbrev pub lines_in : Version → History → List ℕ
lines_in One h = written h
lines_in Two h = numbered_lines h

-- The bytes are the text, in one of the versions, of a history with so many entries, over the
-- configuration that it begins with and those that its reconfigurations hold. Each answer in it is
-- the machine's next, and all is so of it that is so of every run.
pub record IsAudited (config : Configuration) (bytes : List ℕ) (count : ℕ) : Type 0 where
  pub version : Version
  pub more : List Configuration
  pub history : History
  pub text_is : text_of version history ≡ bytes
  pub count_is : length history ≡ count
  pub is_true : IsTrue (config ∷ more) history

-- so it is of what was verified, where the journal told what it had left
abbrev pub Audits : Configuration → Option (List ℕ) → Finding → Type 0
Audits config left (finding.Verified count) = IfSome left (λ bytes. IsAudited config bytes count)
Audits config left found = Unit {0}

-- what stands behind a line
abbrev pub behind_end : Bool → List ℕ → List ℕ
behind_end true rest = 10 ∷ rest
behind_end false rest = rest

-- the bytes of some lines
abbrev pub bytes_of : List SourceLine → List ℕ
bytes_of [] = []
bytes_of (l ∷ ls) = l.bytes ++ behind_end l.ended (bytes_of ls)
