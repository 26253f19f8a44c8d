-- A journal from its first line on.
use Rattle.std.proofs.Common.{◌≡◌, ℕ, ℤ, inl, inr, ◌+◌, List, [], ◌∷◌, length, Bool, true, false, ◌&&◌, nat_le, if◌then◌else◌, bytes_eq, codes, Option, Some, None, IfSome, Result, Ok, Err, refl, sym, ap, subst, ◌∙◌, arith}
use Rattle.std.specs.Io.KnownBytes.{IsAtEnd, prepend_known}
use Rattle.std.proofs.lemmas.Bool.{and_parts}
use Rattle.sq_outside.specs.SourceLines.{FindsWithin, SourceLine, is_within, lines}
use Rattle.sq_outside.specs.declared.lines.LineFound.TheVariants as found
use Rattle.sq_machine.specs.declared.entries.Event.{Event}
use Rattle.sq_machine.specs.declared.entries.Event.TheVariants.{Begin}
use Rattle.sq_machine.specs.declared.entries.Told.TheVariants as told
use Rattle.sq_rules.specs.Configurations.{Configuration, IsConfiguration}
use Rattle.sq_machine.specs.Entries.{History, Noted, entry_at}
use Rattle.sq_machine.specs.Epochs.{config_of}
use Rattle.sq_machine.specs.Events.{is_begin}
use Rattle.sq_machine.specs.Readings.{current}
use Rattle.sq_model.specs.Given.{EachOf}
use Rattle.sq_replay.specs.RunText.{first_history}
use Rattle.sq_replay.specs.Runs.{Is, ScriptView}
use Rattle.sq_verify.specs.declared.findings.Finding.{Finding}
use Rattle.sq_verify.specs.declared.findings.Finding.TheVariants as finding
use Rattle.sq_verify.specs.declared.halts.Halt.{Halt}
use Rattle.sq_verify.specs.declared.halts.Halt.TheVariants as halt
use Rattle.sq_verify.specs.declared.versions.Version.{Version}
use Rattle.sq_verify.specs.declared.versions.Version.TheVariants as version
use Rattle.sq_verify.specs.JournalLines.{is_version_line, line_in, line_limit, noted_in, text_in}
use Rattle.sq_verify.specs.Judging.{Judged, begun_line, epochs_of, found_at, go_on, judged, judged_behind, judged_first, judged_lines, judged_one, judged_two, line_number, named_from, named_in, stated_first}
use Rattle.sq_verify.specs.Promised.{AreAhead, Begins, BeginsLine, Comes, Compares, IsUnread, JudgeHasCauses, JudgesOver, LacksLine, ReachesEnd, Stands}
use Rattle.sq_verify.proofs.FirstLaws.{epochs_good, stated_begins}
use Rattle.sq_verify.proofs.TextLaws.{eq_of}

-- the first entry

-- the machine has begun, and the line is that of its entry
pub begin_ok : {M : Type 0} (machine : M → ScriptView) (config : Configuration) (v : Version) (line : List ℕ) (now : ℕ)
    (offset : ℤ) (m : M)
    → ((configs : List Configuration) → EachOf IsConfiguration configs → config_of configs 1 ≡ Some config
    → Is (machine m) configs (first_history now offset))
    → bytes_eq (text_in v 1 1 (entry_at now (Begin offset) (told.Epoch 1))) line ≡ true
    → BeginsLine machine config (begun_line v line now (Begin offset)) (Ok m)
begin_ok machine config v line now offset m begun same =
    let e = entry_at now (Begin offset) (told.Epoch 1) in (
      e ∷ [],
      ap (λ (b : Bool). if b then Ok (e ∷ []) else Err (halt.Differs (line_in v [] e))) same,
      λ configs good is. record { is = begun configs good is; count_is = refl; epoch_is = refl },
    )

-- the line is another, or memory was wanting
pub begin_err : {M : Type 0} (machine : M → ScriptView) (config : Configuration) (v : Version) (line : List ℕ) (now : ℕ)
    (offset : ℤ) (stop : Halt)
    → Compares (text_in v 1 1 (entry_at now (Begin offset) (told.Epoch 1))) line (Err stop)
    → BeginsLine machine config (begun_line v line now (Begin offset)) (Err stop)
begin_err machine config v line now offset halt.NoLine c = absurd c
begin_err machine config v line now offset (halt.Differs other) c =
    let e = entry_at now (Begin offset) (told.Epoch 1) in
    ap (λ (b : Bool). if b then Ok (e ∷ []) else Err (halt.Differs (line_in v [] e))) c.1
    ∙ ap (λ (t : List ℕ). Err (halt.Differs t)) (sym c.0)
begin_err machine config v line now offset halt.WantOfMemory c = tt

-- the event of the first entry

-- another event does not begin a journal
begun_none : (v : Version) (line : List ℕ) (now : ℕ) (event : Event) → is_begin event ≡ false
    → begun_line v line now event ≡ Err halt.NoLine
begun_none v line now (Begin offset) e = absurd (cc)
begun_none v line now event e = refl

pub begins_at : (v : Version) (line : List ℕ) (e : Noted) (offset : ℤ) → noted_in v line ≡ Some e
    → e.event ≡ Begin offset → stated_first v line (noted_in v line) ≡ begun_line v line e.moment (Begin offset)
begins_at v line e offset is same = ap (stated_first v line) is ∙ ap (begun_line v line e.moment) same

pub begins_not : (v : Version) (line : List ℕ) (e : Noted) → noted_in v line ≡ Some e → is_begin e.event ≡ false
    → stated_first v line (noted_in v line) ≡ Err halt.NoLine
begins_not v line e is other = ap (stated_first v line) is ∙ begun_none v line e.moment e.event other

-- the machine began, or was not to, by the line
pub begins_by : {M : Type 0} (machine : M → ScriptView) (config : Configuration) (v : Version) (line : List ℕ)
    (step : Result History Halt) (at : ℕ × ℤ) (result : Result M Halt) → Begins v line step (Ok at)
    → BeginsLine machine config (begun_line v line at.0 (Begin at.1)) result → BeginsLine machine config step result
begins_by machine config v line step at result e b = subst (λ (s : Result History Halt). BeginsLine machine config s
    result) (sym e) b

pub begins_no_more : {M : Type 0} (machine : M → ScriptView) (config : Configuration) (v : Version) (line : List ℕ)
    (step : Result History Halt) (stop : Halt) → Begins v line step (Err stop)
    → BeginsLine machine config step (Err stop)
begins_no_more machine config v line step halt.NoLine b = b
begins_no_more machine config v line step (halt.Differs text) b = absurd b
begins_no_more machine config v line step halt.WantOfMemory b = tt

-- what follows the first line

first_ahead : (v : Version) (config : Configuration) (line : List ℕ) (t : History) (ls : List SourceLine)
    → stated_first v line (noted_in v line) ≡ Ok t
    → AreAhead v (epochs_of v config (record { bytes = line; ended = true } ∷ ls)) t ls
first_ahead v config line t ls step =
    let i = stated_begins v line (noted_in v line) t refl step in
    record {
      begun = config ∷ [];
      count_is = sym (sym (ap current i.history_is) ∙ i.current_is);
      configs_are = ap (λ (xs : List Configuration). config ∷ xs)
          (ap (λ (o : Option Noted). named_in o (named_from v ls)) i.noted_is ∙ i.begins (named_from v ls));
    }

-- the machine has begun, and the rest was judged
pub rest_judged : (w : ScriptView) (v : Version) (config : Configuration) (left : Option (List ℕ)) (line : List ℕ)
    (place : ℕ) (t : History) (result : Finding) → IsConfiguration config
    → stated_first v line (noted_in v line) ≡ Ok t
    → ((configs : List Configuration) → EachOf IsConfiguration configs → config_of configs 1 ≡ Some config
    → Stands w 1 1 configs t)
    → ((configs : List Configuration) (h : History) → Stands w 1 1 configs h
    → JudgesOver left v configs h (λ bytes. judged_lines v configs h place (lines bytes)) result)
    → IfSome left (λ bytes. Comes (judged_behind v config line place (lines bytes)) result)
rest_judged w v config None line place t result good step stands rest = tt
rest_judged w v config (Some bytes) line place t result good step stands rest =
    let all : List SourceLine = record { bytes = line; ended = true } ∷ lines bytes in
    let configs = epochs_of v config all in
    let comes : Comes (judged_lines v configs t place (lines bytes)) result =
    rest configs t (stands configs (epochs_good v config all good) refl)
    (first_ahead v config line t (lines bytes) step) in
    subst (λ (j : Judged). Comes j result)
    (sym (ap (λ (s : Result History Halt). go_on v [] line s (λ t. judged_lines v configs t place (lines bytes))) step))
    comes

first_stop : {M : Type 0} (machine : M → ScriptView) (config : Configuration) (v : Version) (line : List ℕ)
    (step : Result History Halt) (go : History → Judged) (stop : Halt) → BeginsLine machine config step (Err stop)
    → Comes (go_on v [] line step go) (found_at v 0 line stop)
first_stop machine config v line step go halt.NoLine b = ap (λ (s : Result History Halt).
    (go_on v [] line s go).found) b
first_stop machine config v line step go (halt.Differs text) b =
    ap (λ (s : Result History Halt). (go_on v [] line s go).found) b
first_stop machine config v line step go halt.WantOfMemory b = tt

-- the first line ends the journal
pub first_halted : {M : Type 0} (machine : M → ScriptView) (config : Configuration) (v : Version)
    (left : Option (List ℕ)) (line : List ℕ) (place : ℕ) (stop : Halt)
    → BeginsLine machine config (stated_first v line (noted_in v line)) (Err stop)
    → IfSome left (λ bytes. Comes (judged_behind v config line place (lines bytes)) (found_at v 0 line stop))
first_halted machine config v None line place stop b = tt
first_halted machine config v (Some bytes) line place stop b =
    first_stop machine config v line (stated_first v line (noted_in v line))
    (λ t. judged_lines v (epochs_of v config (record { bytes = line; ended = true } ∷ lines bytes)) t place
    (lines bytes)) stop b

-- reading the first entry's line

-- it cannot be read
faulty_lines : (v : Version) (configs : List Configuration) (l : SourceLine) (ls : List SourceLine) (place : ℕ)
    → is_within (line_limit v) place l ≡ false
    → Comes (judged_first v configs place (l ∷ ls)) (finding.Script (line_number v 0))
faulty_lines v configs l ls place faulty =
    ap (λ b. (go_on v [] l.bytes (if b then stated_first v l.bytes (noted_in v l.bytes) else Err halt.NoLine)
    (λ t. judged_lines v configs t (place + length l.bytes + 1) ls)).found) faulty

pub missing_lacks : (v : Version) (left after : Option (List ℕ)) (line : List ℕ) (place : ℕ)
    → FindsWithin (line_limit v) place left after line found.End
    → LacksLine v place left (finding.Script (line_number v 0))
missing_lacks v None after line place f = (refl, tt)
missing_lacks v (Some bytes) after line place f = (refl, inl f.0)

pub faulty_lacks : (v : Version) (left after : Option (List ℕ)) (line : List ℕ) (place : ℕ)
    → FindsWithin (line_limit v) place left after line found.Faulty
    → LacksLine v place left (finding.Script (line_number v 0))
faulty_lacks v None after line place f = (refl, tt)
faulty_lacks v (Some bytes) after line place f = (refl, inr f)

first_unread : (v : Version) (config : Configuration) (bytes : List ℕ) (place : ℕ) → IsUnread v place bytes
    → Comes (judged_first v (epochs_of v config (lines bytes)) place (lines bytes)) (finding.Script (line_number v 0))
first_unread v config bytes place (inl e) =
    subst (λ (b : List ℕ). Comes (judged_first v (epochs_of v config (lines b)) place (lines b))
    (finding.Script (line_number v 0))) (sym e) refl
first_unread v config bytes place (inr f) =
    subst (λ (ls : List SourceLine). Comes (judged_first v (epochs_of v config ls) place ls)
    (finding.Script (line_number v 0))) (sym f.first)
    (faulty_lines v (epochs_of v config (f.line ∷ f.rest)) f.line f.rest place f.faulty)

-- without its line there is no first entry
pub first_lacking : (v : Version) (config : Configuration) (left : Option (List ℕ)) (place : ℕ) (result : Finding)
    → LacksLine v place left result
    → IfSome left (λ bytes. Comes (judged_first v (epochs_of v config (lines bytes)) place (lines bytes)) result)
first_lacking v config None place result l = tt
first_lacking v config (Some bytes) place (finding.Verified count) l = absurd l
first_lacking v config (Some bytes) place (finding.Script n) l =
    subst (λ (k : ℕ). Comes (judged_first v (epochs_of v config (lines bytes)) place (lines bytes)) (finding.Script k))
    (sym l.0) (first_unread v config bytes place l.1)
first_lacking v config (Some bytes) place (finding.Differs n machine journal) l = absurd l
first_lacking v config (Some bytes) place finding.ReadFault l = tt
first_lacking v config (Some bytes) place finding.WantOfMemory l = tt

pub lacking_reaches : (v : Version) (place : ℕ) (left old new : Option (List ℕ)) (result : Finding)
    → LacksLine v place left result → ReachesEnd result old new
lacking_reaches v place left old new (finding.Verified count) l = absurd l
lacking_reaches v place left old new (finding.Script n) l = tt
lacking_reaches v place left old new (finding.Differs n machine journal) l = tt
lacking_reaches v place left old new finding.ReadFault l = tt
lacking_reaches v place left old new finding.WantOfMemory l = tt

-- the count stayed before what was judged then
pub causes_behind : (before mid now : ℕ) (result : Finding) → mid ≡ before → JudgeHasCauses mid now result
    → JudgeHasCauses before now result
causes_behind before mid now result same c = subst (λ (n : ℕ). JudgeHasCauses n now result) same c

-- it can
readable_line : (v : Version) (configs : List Configuration) (line : List ℕ) (ls : List SourceLine) (place : ℕ)
    → is_within (line_limit v) place (record { bytes = line; ended = true }) ≡ true
    → judged_first v configs place (record { bytes = line; ended = true } ∷ ls)
    ≡ go_on v [] line (stated_first v line (noted_in v line))
    (λ t. judged_lines v configs t (place + length line + 1) ls)
readable_line v configs line ls place readable =
    ap (λ b. go_on v [] line (if b then stated_first v line (noted_in v line) else Err halt.NoLine)
    (λ t. judged_lines v configs t (place + length line + 1) ls)) readable

pub first_whole : (v : Version) (config : Configuration) (left after : Option (List ℕ)) (line : List ℕ)
    (place moved : ℕ) (result : Finding) → FindsWithin (line_limit v) place left after line found.Whole
    → moved ≡ place + length line + 1
    → IfSome after (λ bytes. Comes (judged_behind v config line moved (lines bytes)) result)
    → IfSome left (λ bytes. Comes (judged_first v (epochs_of v config (lines bytes)) place (lines bytes)) result)
first_whole v config None after line place moved result f at comes = tt
first_whole v config (Some bytes) after line place moved result f at comes =
    let l : SourceLine = record { bytes = line; ended = true } in
    let behind : Comes (judged_behind v config line moved (lines f.rest)) result =
    subst (λ (o : Option (List ℕ)). IfSome o (λ bytes. Comes (judged_behind v config line moved (lines bytes)) result))
    f.left comes in
    let here : Comes (judged_behind v config line (place + length line + 1) (lines f.rest)) result =
    subst (λ (p : ℕ). Comes (judged_behind v config line p (lines f.rest)) result) at behind in
    subst (λ (ls : List SourceLine). Comes (judged_first v (epochs_of v config ls) place ls) result) (sym f.first)
    (subst (λ (j : Judged). Comes j result)
    (sym (readable_line v (epochs_of v config (l ∷ lines f.rest)) line (lines f.rest) place f.readable)) here)

-- the version

version_readable : (l : SourceLine) → is_version_line l ≡ true → is_within (line_limit version.One) 0 l ≡ true
version_readable l e =
    let parts = and_parts l.ended (bytes_eq l.bytes (codes "journal 2")) e in
    ap (λ (b : Bool). b && (nat_le (length l.bytes) 4194304 && nat_le (0 + length l.bytes + 1) 1073741824)) parts.0
    ∙ ap (λ (t : List ℕ). true && (nat_le (length t) 4194304 && nat_le (0 + length t + 1) 1073741824))
    (eq_of l.bytes (codes "journal 2") parts.1)

-- a line that cannot be read tells no version
no_version : (l : SourceLine) (b : Bool) → is_version_line l ≡ b → is_within (line_limit version.One) 0 l ≡ false
    → b ≡ false
no_version l true e faulty = absurd (true_false (sym (version_readable l e) ∙ faulty))
  where
    true_false : true ≡ false → ⊥
    true_false e = absurd (cc)
no_version l false e faulty = refl

-- without a version line the journal is of version 1
one_is : (config : Configuration) (l : SourceLine) (ls : List SourceLine) (result : Finding) → is_version_line l ≡ false
    → Comes (judged_first version.One (epochs_of version.One config (l ∷ ls)) 0 (l ∷ ls)) result
    → Comes (judged config (l ∷ ls)) result
one_is config l ls result e comes = subst (λ (b : Bool). Comes
    (if b then judged_two config l ls else judged_one config (l ∷ ls)) result) (sym e) comes

two_is : (config : Configuration) (l : SourceLine) (ls : List SourceLine) (result : Finding) → is_version_line l ≡ true
    → Comes (judged_first version.Two (epochs_of version.Two config ls) (length l.bytes + 1) ls) result
    → Comes (judged config (l ∷ ls)) result
two_is config l ls result e comes = subst (λ (b : Bool). Comes
    (if b then judged_two config l ls else judged_one config (l ∷ ls)) result) (sym e) comes

-- a journal whose first line cannot be read
judged_unread : (config : Configuration) (bytes : List ℕ) → IsUnread version.One 0 bytes
    → Comes (judged config (lines bytes)) (finding.Script 1)
judged_unread config bytes (inl e) = subst (λ (b : List ℕ). Comes (judged config (lines b)) (finding.Script 1)) (sym e)
    refl
judged_unread config bytes (inr f) =
    subst (λ (ls : List SourceLine). Comes (judged config ls) (finding.Script 1)) (sym f.first)
    (one_is config f.line f.rest (finding.Script 1) (no_version f.line (is_version_line f.line) refl f.faulty)
    (faulty_lines version.One (epochs_of version.One config (f.line ∷ f.rest)) f.line f.rest 0 f.faulty))

pub judged_lacking : (config : Configuration) (left : Option (List ℕ)) (result : Finding)
    → LacksLine version.One 0 left result → IfSome left (λ bytes. Comes (judged config (lines bytes)) result)
judged_lacking config None result l = tt
judged_lacking config (Some bytes) (finding.Verified count) l = absurd l
judged_lacking config (Some bytes) (finding.Script n) l =
    subst (λ (k : ℕ). Comes (judged config (lines bytes)) (finding.Script k)) (sym l.0)
    (judged_unread config bytes l.1)
judged_lacking config (Some bytes) (finding.Differs n machine journal) l = absurd l
judged_lacking config (Some bytes) finding.ReadFault l = tt
judged_lacking config (Some bytes) finding.WantOfMemory l = tt

-- one of version 1
pub judged_first_one : (config : Configuration) (left after : Option (List ℕ)) (line : List ℕ) (moved : ℕ)
    (result : Finding) → bytes_eq line (codes "journal 2") ≡ false
    → FindsWithin (line_limit version.One) 0 left after line found.Whole
    → moved ≡ 0 + length line + 1
    → IfSome after (λ bytes. Comes (judged_behind version.One config line moved (lines bytes)) result)
    → IfSome left (λ bytes. Comes (judged config (lines bytes)) result)
judged_first_one config None after line moved result e f at comes = tt
judged_first_one config (Some bytes) after line moved result e f at comes =
    subst (λ (ls : List SourceLine). Comes (judged config ls) result) (sym f.first)
    (one_is config (record { bytes = line; ended = true }) (lines f.rest) result e
    (subst (λ (ls : List SourceLine). Comes (judged_first version.One (epochs_of version.One config ls) 0 ls) result)
    f.first
    (first_whole version.One config (Some bytes) after line 0 moved result f at comes)))

-- one of version 2
pub judged_first_two : (config : Configuration) (left after : Option (List ℕ)) (line : List ℕ) (moved : ℕ)
    (result : Finding) → bytes_eq line (codes "journal 2") ≡ true
    → FindsWithin (line_limit version.One) 0 left after line found.Whole
    → moved ≡ 0 + length line + 1
    → IfSome after (λ bytes. Comes
    (judged_first version.Two (epochs_of version.Two config (lines bytes)) moved (lines bytes)) result)
    → IfSome left (λ bytes. Comes (judged config (lines bytes)) result)
judged_first_two config None after line moved result e f at comes = tt
judged_first_two config (Some bytes) after line moved result e f at comes =
    let here : Comes (judged_first version.Two (epochs_of version.Two config (lines f.rest)) moved (lines f.rest))
    result =
    subst (λ (o : Option (List ℕ)). IfSome o
    (λ bytes. Comes (judged_first version.Two (epochs_of version.Two config (lines bytes)) moved (lines bytes)) result))
    f.left comes in
    subst (λ (ls : List SourceLine). Comes (judged config ls) result) (sym f.first)
    (two_is config (record { bytes = line; ended = true }) (lines f.rest) result e
    (subst (λ (p : ℕ). Comes (judged_first version.Two (epochs_of version.Two config (lines f.rest)) p (lines f.rest))
    result) (omega (arith, at)) here))

-- the end

-- what is verified behind a line that was found is read to its end
pub reaches_behind : (f : Finding) (left after last : Option (List ℕ)) (limit place : ℕ) (line : List ℕ)
    → FindsWithin limit place left after line found.Whole → ReachesEnd f after last → ReachesEnd f left last
reaches_behind (finding.Verified count) None after last limit place line f r = tt
reaches_behind (finding.Verified count) (Some bytes) after last limit place line f r =
    subst (λ (o : Option (List ℕ)). IfSome o (λ bytes. IsAtEnd last)) f.left r
reaches_behind (finding.Script n) left after last limit place line f r = tt
reaches_behind (finding.Differs n machine journal) left after last limit place line f r = tt
reaches_behind finding.ReadFault left after last limit place line f r = tt
reaches_behind finding.WantOfMemory left after last limit place line f r = tt

held_at_end : (held : List ℕ) (left : Option (List ℕ)) → IsAtEnd (prepend_known held left) → IsAtEnd left
held_at_end held None e = tt
held_at_end [] (Some bytes) e = e
held_at_end (b ∷ held) (Some bytes) e = absurd cc

if_at_end : (o : Option (List ℕ)) (held : List ℕ) (left : Option (List ℕ))
    → IfSome o (λ bytes. IsAtEnd (prepend_known held left)) → IfSome o (λ bytes. IsAtEnd left)
if_at_end None held left e = tt
if_at_end (Some bytes) held left e = held_at_end held left e

-- and what is held then is nothing
reaches_source : (f : Finding) (first : Option (List ℕ)) (held : List ℕ) (left : Option (List ℕ))
    → ReachesEnd f first (prepend_known held left) → ReachesEnd f first left
reaches_source (finding.Verified count) first held left r = if_at_end first held left r
reaches_source (finding.Script n) first held left r = tt
reaches_source (finding.Differs n machine journal) first held left r = tt
reaches_source finding.ReadFault first held left r = tt
reaches_source finding.WantOfMemory first held left r = tt

held_none : (held : List ℕ) (left : Option (List ℕ)) → held ≡ [] → prepend_known held left ≡ left
held_none held None e = refl
held_none [] (Some bytes) e = refl
held_none (b ∷ held) (Some bytes) e = absurd (cc)

-- where nothing was held at first
pub judged_unheld : (config : Configuration) (held : List ℕ) (left : Option (List ℕ)) (result : Finding) → held ≡ []
    → IfSome (prepend_known held left) (λ bytes. Comes (judged config (lines bytes)) result)
    → IfSome left (λ bytes. Comes (judged config (lines bytes)) result)
judged_unheld config held left result e comes =
    subst (λ (o : Option (List ℕ)). IfSome o (λ bytes. Comes (judged config (lines bytes)) result))
    (held_none held left e) comes

pub reaches_unheld : (f : Finding) (held : List ℕ) (first : Option (List ℕ)) (rest : List ℕ) (left : Option (List ℕ))
    → held ≡ [] → ReachesEnd f (prepend_known held first) (prepend_known rest left) → ReachesEnd f first left
reaches_unheld f held first rest left e r =
    subst (λ (o : Option (List ℕ)). ReachesEnd f o left) (held_none held first e)
    (reaches_source f (prepend_known held first) rest left r)
