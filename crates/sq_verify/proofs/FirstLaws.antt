-- The line of a journal's first entry, and the configurations of its epochs.
use Rattle.std.proofs.Common.{◌≡◌, ℕ, List, [], ◌∷◌, true, bytes_eq, Option, Some, None, Result, Ok, Err, refl, ap}
use Rattle.sq_outside.specs.SourceLines.{SourceLine, is_within}
use Rattle.sq_machine.specs.declared.entries.Event.{Event}
use Rattle.sq_machine.specs.declared.entries.Event.TheVariants.{Begin, Reconfigure}
use Rattle.sq_machine.specs.declared.entries.Told.TheVariants as told
use Rattle.sq_rules.specs.ConfText.{conf_result}
use Rattle.sq_rules.specs.declared.kinds.ConfError.{ConfError}
use Rattle.sq_rules.specs.Configurations.{Configuration, IsConfiguration}
use Rattle.sq_machine.specs.Entries.{History, Noted, entry_at}
use Rattle.sq_machine.specs.Events.{is_begin}
use Rattle.sq_machine.specs.Readings.{current}
use Rattle.sq_model.specs.Given.{EachOf}
use Rattle.sq_replay.specs.Headline.{IsAccepted}
use Rattle.sq_replay.specs.RunText.{with_config}
use Rattle.sq_conf.proofs.TextLaws.{gives_configuration}
use Rattle.sq_verify.specs.declared.versions.Version.{Version}
use Rattle.sq_verify.specs.JournalLines.{line_in, line_limit, noted_in}
use Rattle.sq_verify.specs.Judging.{begun_line, epochs_of, first_line, named_by, named_from, named_in, stated_first}
use Rattle.sq_verify.proofs.LaterLaws.{compared_ok, readable_ok}

-- the line states `begin`, and is the text of its entry
pub record IsFirst (v : Version) (line : List ℕ) (t : History) : Type 0 where
  pub stated : Noted
  pub entry : Noted
  pub noted_is : noted_in v line ≡ Some stated
  pub begins : (ls : List Configuration) → named_by stated.event ls ≡ ls
  pub starts : is_begin entry.event ≡ true
  pub answer_is : entry.answer ≡ told.Epoch 1
  pub current_is : current (entry ∷ []) ≡ 1
  pub accepted : (configs : List Configuration) → IsAccepted configs [] entry.event
  pub text_is : bytes_eq (line_in v [] entry) line ≡ true
  pub history_is : entry ∷ [] ≡ t

begun_ok : (v : Version) (line : List ℕ) (s : Noted) (event : Event) (t : History) → s.event ≡ event
    → noted_in v line ≡ Some s → begun_line v line s.moment event ≡ Ok t → IsFirst v line t
begun_ok v line s (Begin offset) t same is e =
    let entry = entry_at s.moment (Begin offset) (told.Epoch 1) in
    let c = compared_ok v [] line entry t e in
    record {
      stated = s;
      entry = entry;
      noted_is = is;
      begins = λ ls. ap (λ (x : Event). named_by x ls) same;
      starts = refl;
      answer_is = refl;
      current_is = refl;
      accepted = λ configs. tt;
      text_is = c.0;
      history_is = c.1;
    }
begun_ok v line s event t same is e = absurd (cc)

pub stated_begins : (v : Version) (line : List ℕ) (o : Option Noted) (t : History) → noted_in v line ≡ o
    → stated_first v line o ≡ Ok t → IsFirst v line t
stated_begins v line None t is e = absurd (cc)
stated_begins v line (Some s) t is e = begun_ok v line s s.event t refl is e

pub first_ok : (v : Version) (place : ℕ) (l : SourceLine) (t : History) → first_line v place l ≡ Ok t
    → (is_within (line_limit v) place l ≡ true) × IsFirst v l.bytes t
first_ok v place l t e =
    let r = readable_ok (is_within (line_limit v) place l) (stated_first v l.bytes (noted_in v l.bytes)) t e in
    (r.0, stated_begins v l.bytes (noted_in v l.bytes) t refl r.1)

-- configurations

good_by : (r : Result Configuration ConfError) (text : List ℕ) (more : List Configuration) → conf_result text ≡ r
    → EachOf IsConfiguration more → EachOf IsConfiguration (with_config r more)
good_by (Ok config) text more is good = (gives_configuration text config is, good)
good_by (Err e) text more is good = tt

good_event : (event : Event) (more : List Configuration) → EachOf IsConfiguration more
    → EachOf IsConfiguration (named_by event more)
good_event (Reconfigure text) more good = good_by (conf_result text) text more refl good
good_event event more good = good

good_noted : (o : Option Noted) (more : List Configuration) → EachOf IsConfiguration more
    → EachOf IsConfiguration (named_in o more)
good_noted None more good = good
good_noted (Some e) more good = good_event e.event more good

-- each configuration that a journal holds is one
pub named_good : (v : Version) (ls : List SourceLine) → EachOf IsConfiguration (named_from v ls)
named_good v [] = tt
named_good v (l ∷ ls) = good_noted (noted_in v l.bytes) (named_from v ls) (named_good v ls)

pub epochs_good : (v : Version) (config : Configuration) (ls : List SourceLine) → IsConfiguration config
    → EachOf IsConfiguration (epochs_of v config ls)
epochs_good v config ls good = (good, named_good v ls)
