-- In the statement: docs/STATEMENT.md lists which definitions.
-- What a control does: the reconfigurations that it made or did not make, and what it wrote of
-- them.
use Rattle.std.specs.Prelude.{◌≡◌, ℕ, ◌+◌, ◌≤◌, List, [], ◌∷◌, length, All, true, Some, IfSome}
use Rattle.std.specs.Io.KnownBytes.{Appends}
use Rattle.std.specs.declared.option.Option.{Option}
use Rattle.sq_outside.specs.Causes.{Rose}
use Rattle.sq_outside.specs.Input.{OpensAtMost}
use Rattle.sq_outside.specs.Output.{Grew, IsProperPrefix}
use Rattle.sq_outside.specs.SourceLines.{SourceLine, lines}
use Rattle.sq_outside.specs.Told.{IsNotTold, Openings, Texts}
use Rattle.sq_rules.specs.Configurations.{Configuration}
use Rattle.sq_machine.specs.Entries.{History}
use Rattle.sq_rules.specs.declared.kinds.ConfError.{ConfError}
use Rattle.sq_control.specs.Rereading.{Adds, CountsMade, IsRefused, OfFile, States, is_answer, is_refusal}
use Rattle.sq_control.specs.declared.control.Reread.{Reread}
use Rattle.sq_control.specs.declared.control.Reread.TheVariants as reread
use Rattle.sq_control.specs.Orders.{lines_left, rereads_in}
use Rattle.sq_control.specs.ControlText.{control_text}
use Rattle.sq_control.specs.declared.panel.PanelEnd.{PanelEnd}
use Rattle.sq_control.specs.declared.panel.PanelEnd.TheVariants as ends

-- what a reconfiguration changes of the files: the openings, where they are told, and the count of
-- faults
pub record FilesSeen : Type 0 where
  pub opened : Openings
  pub faults : ℕ

-- what it changes of the desk: the journal and the count of reconfigurations, where they are told,
-- and the count of refusals
pub record DeskSeen : Type 0 where
  pub told : Option History
  pub made : Option ℕ
  pub refused : ℕ

-- what a control saw of its files and of its desk
pub record Seen : Type 0 where
  pub files : FilesSeen
  pub desk : DeskSeen

-- the text of the file states a configuration
abbrev pub StatesConfiguration : Texts → Openings → Openings → List ℕ → Type 0
StatesConfiguration texts before now name = (config : Configuration)
    × OfFile texts before now name (States config)

-- what became of one reconfiguration by the file of this name, which was opened once at most; the
-- desk answered only where the text was accepted
pub record IsReread (texts : Texts) (name : List ℕ) (before : Seen) (result : Reread)
    (now : Seen) : Type 0 where
  pub adds : Adds texts before.files.opened now.files.opened name before.desk.told now.desk.told
      result
  pub opened : OpensAtMost before.files.opened now.files.opened name
  pub made : CountsMade before.desk.made now.desk.made result
  pub asked : is_answer result ≡ true
      → StatesConfiguration texts before.files.opened now.files.opened name
  pub at : (e : ConfError) → result ≡ reread.At e
      → IsRefused texts before.files.opened now.files.opened name e
  pub missing : result ≡ reread.Missing → IsNotTold texts name
  pub unopened : result ≡ reread.Missing → now.files.opened ≡ before.files.opened
  pub read : result ≡ reread.Read → Rose before.files.faults now.files.faults
  pub quiet : (result ≡ reread.Read → ⊥) → now.files.faults ≡ before.files.faults
  pub later : before.files.faults ≤ now.files.faults
  pub refused : is_refusal result ≡ true → Rose before.desk.refused now.desk.refused
  pub refused_later : before.desk.refused ≤ now.desk.refused

-- what became of some, one after the other; the newest stands first
abbrev pub AreReread : Texts → List ℕ → Seen → List Reread → Seen → Type 0
AreReread texts name before [] now = now ≡ before
AreReread texts name before (result ∷ older) now = (u : Seen) × AreReread texts name before older u
    × IsReread texts name u result now

-- one more where it was made
abbrev pub counts_made : Reread → ℕ → ℕ
counts_made (reread.Made epoch) n = n + 1
counts_made r n = n

-- how many were made
abbrev pub made_in : List Reread → ℕ
made_in [] = 0
made_in (r ∷ older) = counts_made r (made_in older)

-- the epoch of one that was made, behind so many
abbrev pub HasEpoch : Reread → ℕ → Type 0
HasEpoch (reread.Made epoch) before = epoch ≡ before + 2
HasEpoch r before = Unit {0}

-- Each that was made began the epoch that is one above the number of those that were made by then,
-- itself counted; so many were made before the first of these.
abbrev pub AreNumbered : ℕ → List Reread → Type 0
AreNumbered before [] = Unit {0}
AreNumbered before (r ∷ older) = HasEpoch r (before + made_in older) × AreNumbered before older

-- where the desk tells its count: the epochs are numbered by it, and it rose by those that were
-- made
abbrev pub CountsEpochs : Option ℕ → Option ℕ → List Reread → Type 0
CountsEpochs old new rereads = IfSome old
    (λ m. AreNumbered m rereads × (new ≡ Some (m + made_in rereads)))

-- of the input, what is left, where it tells that, and its count of faults; of the output the same
-- with what was written
pub record Streams : Type 0 where
  pub left : Option (List ℕ)
  pub input_faults : ℕ
  pub contents : Option (List ℕ)
  pub output_faults : ℕ

-- what was written of this text: all of it, and where a write failed a front of it
abbrev pub Writes : PanelEnd → Option (List ℕ) → Option (List ℕ) → List ℕ → Type 0
Writes ends.WriteFault old new text = Grew old new (λ part. IsProperPrefix part text)
Writes e old new text = Appends old new text

-- these lines are left
abbrev pub IsLeft : Option (List ℕ) → List SourceLine → Type 0
IsLeft now ls = (rest : List ℕ) × (now ≡ Some rest) × (lines rest ≡ ls)

-- Each order before the first `shutdown` was followed, and at none of them the desk had stopped.
-- What stands behind that `shutdown` is left, and where there is none nothing is; no two texts have
-- the same lines.
pub record IsFollowed (before now : Option (List ℕ)) (rereads : List Reread) : Type 0 where
  pub noted : All (λ r. r ≡ reread.Journal → ⊥) rereads
  pub orders : IfSome before (λ bytes. length rereads ≡ rereads_in (lines bytes))
  pub left : IfSome before (λ bytes. IsLeft now (lines_left (lines bytes)))

-- what is so at its end, where no fault ended it
abbrev pub Follows : PanelEnd → Option (List ℕ) → Option (List ℕ) → List Reread → Type 0
Follows ends.Ended before now rereads = IsFollowed before now rereads
Follows e before now rereads = Unit {0}

-- the counts of the streams never fall; a fault comes only where its count rose, and else that
-- stayed
pub record HasCauses (v w : Streams) (end : PanelEnd) : Type 0 where
  pub input_later : v.input_faults ≤ w.input_faults
  pub output_later : v.output_faults ≤ w.output_faults
  pub read : end ≡ ends.ReadFault → Rose v.input_faults w.input_faults
  pub write : end ≡ ends.WriteFault → Rose v.output_faults w.output_faults
  pub input_quiet : (end ≡ ends.ReadFault → ⊥) → w.input_faults ≡ v.input_faults
  pub output_quiet : (end ≡ ends.WriteFault → ⊥) → w.output_faults ≡ v.output_faults

-- It was written at which port the server listens. The orders of the input were followed one after
-- the other, by the file of this name, and of each a line was written that says what became of it.
pub record Attends (texts : Texts) (name : List ℕ) (port : ℕ) (before now : Seen) (v w : Streams)
    (end : PanelEnd) : Type 0 where
  pub rereads : List Reread
  pub are : AreReread texts name before rereads now
  pub counts : CountsEpochs before.desk.made now.desk.made rereads
  pub follows : Follows end v.left w.left rereads
  pub writes : Writes end v.contents w.contents (control_text port rereads)
  pub causes : HasCauses v w end

-- how it ended, and how many reconfigurations it made
pub record PanelRun : Type 0 where
  pub end : PanelEnd
  pub made : ℕ

-- the same over a desk of which is told alone that it had made none, and how many it made
abbrev pub Runs : Texts → List ℕ → ℕ → FilesSeen → FilesSeen → Streams → Streams → PanelRun
    → Type 0
Runs texts name port before now v w run =
    (desk : DeskSeen) × (later : DeskSeen) × (desk.made ≡ Some 0) × (later.made ≡ Some run.made)
    × Attends texts name port (record { files = before; desk = desk })
    (record { files = now; desk = later }) v w run.end
