-- What was written before the last line, and what was written of it.
use Rattle.std.proofs.Common.{◌≡◌, ℕ, ◌≤◌, List, [], ◌∷◌, ◌++◌, Option, Some, None, IfSome, refl, sym, ap, ◌∙◌, subst, append-nil}
use Rattle.std.proofs.KnownBytes.{Appends-trans}
use Rattle.sq_outside.specs.Output.{Grew, IsPrefix, IsProperPrefix, IsWritten}
use Rattle.sq_outside.specs.Told.{Texts}
use Rattle.sq_outside.proofs.Writing.{IsWritten_since}
use Rattle.sq_commands.specs.declared.ends.Status.{Status}
use Rattle.sq_commands.specs.declared.ends.Status.TheVariants.{Ok, Usage, Config, Script, ReadFault, WriteFault, Differs, JournalFault, Net, Missing, WantOfMemory}
use Rattle.sq_commands.specs.Commands.{Disk, Output}
use Rattle.sq_replay.specs.Ends.{End, Done, Refused, Faulted, Fault, Reading, Writing, Lacking}
use Rattle.sq_commands.specs.Ends.{IsToldEnd, end_of, status_of, last_line}
use Rattle.sq_commands.specs.Outputs.{Delivers, DeliversAs, EndsWith, IsCutOff, IsOutput, IsOutputAs, Remains}
use Rattle.sq_commands.proofs.SettleLaws.{fault_is}

pub empty_line : (line : List ℕ) → IsPrefix line [] → line ≡ []
empty_line [] p = refl
empty_line (x ∷ line) (rest, e) = absurd (cc)

-- a last line that is empty adds nothing
no_line : (text line : List ℕ) → IsPrefix line [] → text ++ line ≡ text
no_line text line p = ap (λ l. text ++ l) (empty_line line p) ∙ append-nil text

-- a text, and a line of which all or a part was written
ended : (text line : List ℕ) (before mid now : ℕ) (s : Status) → mid ≡ before → IsWritten mid now (last_line s) line
    → EndsWith text before now s (text ++ line)
ended text line before mid now s same w = (line, refl, IsWritten_since before mid now (last_line s) line same w)

-- what a fault left, and its last line
cut_off : (fault : Fault) (a b c : Option (List ℕ)) (text : List ℕ) (before mid now : ℕ) → before ≤ mid
    → Remains fault a b before mid text
    → Grew b c (IsWritten mid now (last_line (status_of fault))) → Grew a c (IsCutOff fault text before now)
cut_off Reading a b c text before mid now le (part, wrote, p) (line, grew, w) =
    (part ++ line, Appends-trans a b c part line wrote grew, (part, mid, le, p, (line, refl, w)))
cut_off Writing a b c text before mid now le (part, wrote, p) (line, grew, w) = (
  part ++ line,
  Appends-trans a b c part line wrote grew,
  subst (λ l. IsProperPrefix l text) (sym (no_line part line w.front)) p,
)
cut_off Lacking a b c text before mid now le (part, wrote, p) (line, grew, w) = (
  part ++ line,
  Appends-trans a b c part line wrote grew,
  subst (λ l. IsPrefix l text) (sym (no_line part line w.front)) p,
)

-- only a command that did what it was asked is done
done_is : (s : Status) → end_of s ≡ Done → s ≡ Ok
done_is Ok e = refl
done_is Usage e = absurd (cc)
done_is (Config l k) e = absurd (cc)
done_is (Script n) e = absurd (cc)
done_is ReadFault e = absurd (cc)
done_is WriteFault e = absurd (cc)
done_is (Differs l m j) e = absurd (cc)
done_is (Missing n) e = absurd (cc)
done_is JournalFault e = absurd (cc)
done_is Net e = absurd (cc)
done_is WantOfMemory e = absurd (cc)

-- the command's text, and then its last line
with_line_as : (k : End) (a b c : Option (List ℕ)) (o : Output) (before mid now : ℕ) (s : Status) → end_of s ≡ k
    → before ≤ mid → (IsToldEnd k → mid ≡ before)
    → DeliversAs k a b before mid o s → Grew b c (IsWritten mid now (last_line s))
    → Grew a c (IsOutputAs k o before now s)
with_line_as Done a b c o before mid now s is le quiet (end, wrote) (line, grew, w) =
    let none = subst (λ (x : Status). IsPrefix line (last_line x)) (done_is s is) w.front in
    (o.text ++ line, Appends-trans a b c o.text line wrote grew, no_line o.text line none)
with_line_as Refused a b c o before mid now s is le quiet (end, wrote) (line, grew, w) =
    (o.text ++ line, Appends-trans a b c o.text line wrote grew, ended o.text line before mid now s (quiet tt) w)
with_line_as (Faulted fault) a b c o before mid now s is le quiet remains line =
    cut_off fault a b c o.text before mid now le remains
    (subst (λ (x : Status). Grew b c (IsWritten mid now (last_line x))) (fault_is s fault is) line)

pub with_line_is : (a b c : Option (List ℕ)) (o : Output) (before mid now : ℕ) (s : Status) → before ≤ mid
    → (IsToldEnd (end_of s) → mid ≡ before)
    → Delivers a b before mid o s → Grew b c (IsWritten mid now (last_line s)) → Grew a c (IsOutput o before now s)
with_line_is a b c o before mid now s le quiet delivers line =
    with_line_as (end_of s) a b c o before mid now s refl le quiet delivers line

-- the same where the files tell, for the status that is handed on
pub joined_told : (texts : Texts) (a b c : Option (List ℕ)) (output : Disk → Output) (before mid now : ℕ)
    (s same : Status) → same ≡ s → before ≤ mid → (IsToldEnd (end_of s) → mid ≡ before)
    → IfSome texts (λ disk. Delivers a b before mid (output disk) s) → Grew b c (IsWritten mid now (last_line s))
    → IfSome texts (λ disk. Grew a c (IsOutput (output disk) before now same))
joined_told None a b c output before mid now s same e le quiet runs line = tt
joined_told (Some disk) a b c output before mid now s same e le quiet runs line =
    subst (λ (x : Status). Grew a c (IsOutput (output disk) before now x)) (sym e)
    (with_line_is a b c (output disk) before mid now s le quiet runs line)
