-- In the statement: docs/STATEMENT.md lists which definitions.
-- What a history has to be that a journal of its text is verified.
use Rattle.std.specs.Prelude.{ℕ, ◌≡◌, ◌≤◌, List, [], ◌∷◌, ◌++◌, length}
use Rattle.sq_outside.specs.SourceLines.{total_limit}
use Rattle.sq_machine.specs.declared.entries.Event.{Event}
use Rattle.sq_machine.specs.declared.entries.Event.TheVariants.{Reconfigure}
use Rattle.sq_rules.specs.ConfText.{conf_result}
use Rattle.sq_rules.specs.Configurations.{Configuration}
use Rattle.sq_machine.specs.Entries.{History}
use Rattle.sq_machine.specs.Machine.{Legal}
use Rattle.sq_journal.specs.Values.{IsNoted}
use Rattle.sq_replay.specs.RunText.{with_config}
use Rattle.sq_verify.specs.declared.findings.Finding.{Finding}
use Rattle.sq_verify.specs.declared.findings.Finding.TheVariants as finding
use Rattle.sq_verify.specs.declared.versions.Version.{Version}
use Rattle.sq_verify.specs.Audits.{text_of}
use Rattle.sq_verify.specs.JournalLines.{line_in, line_limit}
use Rattle.sq_verify.specs.Promised.{MayFollow}

-- the configuration that an event's text gives
abbrev pub held_by : Event → List Configuration
held_by (Reconfigure text) = with_config (conf_result text) []
held_by event = []

-- those that the reconfigurations of a history hold, the oldest first
abbrev pub held_in : History → List Configuration
held_in [] = []
held_in (e ∷ h) = held_in h ++ held_by e.event

-- each entry is one as a value of its type, so its text is read back as it
abbrev pub AreNoted : History → Type 0
AreNoted [] = Unit {0}
AreNoted (e ∷ h) = AreNoted h × IsNoted e

-- behind the first entry each event may follow
abbrev pub MayStand : History → Type 0
MayStand [] = Unit {0}
MayStand (e ∷ []) = Unit {0}
MayStand (e ∷ f ∷ h) = MayStand (f ∷ h) × MayFollow e.event

-- each line is within its limit
abbrev pub AreShort : Version → History → Type 0
AreShort v [] = Unit {0}
AreShort v (e ∷ h) = AreShort v h × (length (line_in v h e) ≤ line_limit v)

-- each answer of the history is the machine's next over this configuration and those that its
-- reconfigurations hold, and its text is within the limits
pub record IsTellable (config : Configuration) (v : Version) (h : History) : Type 0 where
  pub legal : Legal (config ∷ held_in h) h
  pub noted : AreNoted h
  pub may : MayStand h
  pub short : AreShort v h
  pub fits : length (text_of v h) ≤ total_limit

-- it was verified, with so many entries; or a read failed, or memory was wanting
abbrev pub Verifies : Finding → ℕ → Type 0
Verifies (finding.Verified count) n = count ≡ n
Verifies (finding.Script line) n = ⊥
Verifies (finding.Differs line machine journal) n = ⊥
Verifies finding.ReadFault n = Unit {0}
Verifies finding.WantOfMemory n = Unit {0}
