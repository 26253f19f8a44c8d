-- A text that is read, and what it states.
use Rattle.std.proofs.Common.{◌≡◌, ℕ, List, ◌∷◌, Result, Ok, Err, Some, None, IfSome, inr, sym, ap, ◌∙◌, subst}
use Rattle.std.specs.declared.option.Option.{Option}
use Rattle.sq_outside.specs.Input.{IsWhole, OpensAtMost, ReadsFile, ReadsOpening}
use Rattle.sq_outside.specs.Told.{AddsText, Openings, Texts}
use Rattle.sq_rules.specs.Configurations.{Configuration}
use Rattle.sq_calls.specs.Legality.{Beginning, IsStated}
use Rattle.sq_calls.specs.Telling.{IsReread, Notes, noted_at}
use Rattle.sq_calls.specs.declared.faults.DeskFault.{DeskFault}
use Rattle.sq_calls.specs.declared.faults.DeskFault.TheVariants as desk
use Rattle.sq_conf.specs.declared.faults.ConfFault.TheVariants as fault
use Rattle.sq_machine.specs.Entries.{History, entry_at}
use Rattle.sq_machine.specs.declared.entries.Event.{Event}
use Rattle.sq_machine.specs.declared.entries.Told.TheVariants as answer
use Rattle.sq_rules.specs.declared.kinds.Kind.{Kind}
use Rattle.sq_machine.specs.declared.refusals.Refusal.TheVariants as refusal
use Rattle.sq_rules.specs.ConfText.{conf_gives, conf_refuses}
use Rattle.sq_rules.specs.Limits.{text_limit}
use Rattle.sq_rules.specs.declared.kinds.ConfError.{ConfError}
use Rattle.sq_rules.specs.declared.kinds.Kind.TheVariants as kind
use Rattle.sq_conf.proofs.TextLaws.{gives_source, too_long}
use Rattle.sq_control.specs.Rereading.{Adds, AddsReread, OfFile, States, answers}

-- a configuration that a text gives is the one that its source states
pub is_stated : (text : List ℕ) (config : Configuration) → conf_gives text config → IsStated config
is_stated text config gives = subst (λ t. conf_gives t config) (sym (gives_source text config gives)) gives

file_of : (texts : Texts) (name : List ℕ) (text : Option (List ℕ)) (P : List ℕ → Type 0)
    → ReadsFile text_limit texts name text
    → ((bytes : List ℕ) → IsWhole text_limit bytes text → P bytes)
    → IfSome texts (λ of. (bytes : List ℕ) × (of name ≡ Some bytes) × P bytes)
file_of None name text P read f = tt
file_of (Some of) name text P (bytes, there, whole) f = (bytes, there, f bytes whole)

opening_of : (before now : Openings) (name : List ℕ) (text : Option (List ℕ)) (P : List ℕ → Type 0)
    → ReadsOpening text_limit before now name text
    → ((bytes : List ℕ) → IsWhole text_limit bytes text → P bytes) → AddsText before now name P
opening_of None now name text P adds f = adds
opening_of (Some earlier) now name text P (bytes, is, whole) f = (bytes, is, f bytes whole)

-- what holds of each text that was read whole holds of the file's
pub of_file : (texts : Texts) (before now : Openings) (name : List ℕ) (text : Option (List ℕ)) (P : List ℕ → Type 0)
    → ReadsFile text_limit texts name text
    → ReadsOpening text_limit before now name text → ((bytes : List ℕ) → IsWhole text_limit bytes text → P bytes)
    → OfFile texts before now name P
of_file texts before now name text P read adds f = record {
  file = file_of texts name text P read f;
  opening = opening_of before now name text P adds f;
}

-- a file that was read was opened once
pub opens_most : (before now : Openings) (name : List ℕ) (text : Option (List ℕ))
    → ReadsOpening text_limit before now name text → OpensAtMost before now name
opens_most None now name text adds = inr adds
opens_most (Some earlier) now name text (bytes, is, whole) = inr (bytes, is, tt)

-- a configuration that it gives is what it states
pub states_of : (text : Option (List ℕ)) (config : Configuration)
    → ((bytes : List ℕ) → IsWhole text_limit bytes text → conf_gives bytes config)
    → (bytes : List ℕ) → IsWhole text_limit bytes text → States config bytes
states_of text config f bytes whole = (f bytes whole, gives_source bytes config (f bytes whole))

-- a text past its limit is refused so
pub refused_long : (line : ℕ) (k : Kind) (text : Option (List ℕ)) (bytes : List ℕ)
    → fault.At (record { line = 0; kind = kind.TooMany }) ≡ fault.At (record { line = line; kind = k })
    → text ≡ None → IsWhole text_limit bytes text → conf_refuses bytes line k
refused_long line k text bytes e none whole =
    let same : record { line = 0; kind = kind.TooMany } ≡ record { line = line; kind = k } = cc in
    too_long bytes (subst (IsWhole text_limit bytes) none whole) ∙ ap {B = Result Configuration ConfError} Err same

-- what a desk notes of a reconfiguration is its entry
adds_reread : (first : Option Beginning) (moment : ℕ) (config : Configuration) (epoch : ℕ) (old new : Option History)
    → Notes first moment answer.Epoch (IsReread config) old new (Ok epoch) → AddsReread config epoch old new
adds_reread first moment config epoch None new is = is
adds_reread first moment config epoch (Some h) new (e, is, enters) = (
  noted_at moment h,
  enters.entry ∙ ap (λ (x : Event). Some
      (entry_at (noted_at moment h) x (answer.Epoch epoch) ∷ h)) is,
)

-- what the desk's answer adds
pub adds_of : (first : Option Beginning) (moment : ℕ) (texts : Texts) (before now : Openings) (name : List ℕ)
    (old new : Option History) (config : Configuration) (r : Result ℕ DeskFault)
    → OfFile texts before now name (States config) → Notes first moment answer.Epoch (IsReread config) old new r
    → Adds texts before now name old new (answers r)
adds_of first moment texts before now name old new config (Ok epoch) file is =
    (config, file, adds_reread first moment config epoch old new is)
adds_of first moment texts before now name old new config (Err desk.Stopped) file is = is
adds_of first moment texts before now name old new config (Err desk.JournalFault) file is = is
adds_of first moment texts before now name old new config (Err desk.WantOfMemory) file is = is
adds_of first moment texts before now name old new config (Err (desk.Engine (refusal.ConnInUse n))) file is = is
adds_of first moment texts before now name old new config (Err (desk.Engine (refusal.UnknownConn n))) file is = is
adds_of first moment texts before now name old new config (Err (desk.Engine (refusal.TooManyConns n))) file is = is
adds_of first moment texts before now name old new config (Err (desk.Engine (refusal.CheckOpen n))) file is = is
adds_of first moment texts before now name old new config (Err (desk.Engine (refusal.UnknownCheck n))) file is = is
adds_of first moment texts before now name old new config (Err (desk.Engine (refusal.NotDone n))) file is = is
adds_of first moment texts before now name old new config (Err (desk.Engine (refusal.NoStartOpen n c))) file is = is
adds_of first moment texts before now name old new config (Err (desk.Engine (refusal.UnknownProc n))) file is = is
adds_of first moment texts before now name old new config (Err (desk.Engine (refusal.TooManyEpochs n))) file is = is
adds_of first moment texts before now name old new config (Err (desk.Engine (refusal.Spent n))) file is = is
adds_of first moment texts before now name old new config (Err (desk.Engine refusal.WantOfMemory)) file is = is
