-- What is promised of lines and deaths of processes.
use Rattle.std.proofs.Common.{◌≡◌, ℕ, ◌≤◌, List, true, false, Option, Some, is_none, refl, ap, ◌∙◌}
use Rattle.sq_base.specs.declared.helpers.Cause.TheVariants as cause
use Rattle.sq_base.specs.declared.helpers.Reply.{Reply}
use Rattle.sq_machine.specs.declared.entries.Event.TheVariants.{Died, Line}
use Rattle.sq_machine.specs.declared.entries.Told.TheVariants as told
use Rattle.sq_machine.specs.declared.refusals.Refusal.TheVariants as refusal
use Rattle.sq_machine.specs.Channels.{Channels}
use Rattle.sq_rules.specs.Classes.{Class}
use Rattle.sq_rules.specs.Configurations.{Configuration}
use Rattle.sq_machine.specs.DueActs.{ClassId}
use Rattle.sq_machine.specs.Entries.{History}
use Rattle.sq_machine.specs.Machine.{next, next_at}
use Rattle.sq_machine.specs.Next.{gives, refuse_if}
use Rattle.sq_machine.specs.Marking.{marked}
use Rattle.sq_machine.specs.OpenLookups.{key_of}
use Rattle.sq_machine.specs.Questions.{what_of}
use Rattle.sq_machine.specs.Readings.{latest}
use Rattle.sq_machine.specs.Transcripts.{LineIs, OnFree, Outside, ReplyTo, line_is, line_told}
use Rattle.sq_model.specs.ClassRows.{ClassRow}
use Rattle.sq_model.specs.Answers.{channels_in, died_answer, line_answer, line_of}
use Rattle.sq_model.specs.Changes.{after_end_at, after_reply_at}
use Rattle.sq_model.specs.Promises.{IsAnswered, StandsFor}
use Rattle.sq_model.specs.Says.{class_in}
use Rattle.sq_model.specs.States.{State}
use Rattle.sq_model.proofs.DeathStands.{bad_stands, died_stands, stray_stands}
use Rattle.sq_model.proofs.PlaceStands.{died_next, line_next}
use Rattle.sq_model.proofs.PromiseLaws.{answered_so, law_of, next_now}
use Rattle.sq_model.proofs.ReplyStands.{reply_stands}

-- what is answered to a line
pub line_told_to : (configs : List Configuration) (h : History) (s : State) (now k : ℕ) (bytes : List ℕ)
    → StandsFor configs h s → latest h ≤ now
    → next configs (marked configs h) now (Line k bytes) ≡ line_answer s k bytes
line_told_to configs h s now k bytes st late = next_now configs h now (Line k bytes) late
    ∙ line_next configs (marked configs h) s now k bytes (law_of configs h s st) st.stands

-- what is answered to a death
pub died_told : (configs : List Configuration) (h : History) (s : State) (now k : ℕ) → StandsFor configs h s
    → latest h ≤ now → next configs (marked configs h) now (Died k) ≡ died_answer s k
died_told configs h s now k st late = next_now configs h now (Died k) late
    ∙ died_next configs (marked configs h) s now k (law_of configs h s st) st.stands

-- a line of a process is answered by what it is on its channels
line_by_channels : (configs : List Configuration) (h : History) (s : State) (now k : ℕ) (bytes : List ℕ)
    (channels : Channels) (is : LineIs) → StandsFor configs h s → channels_in s k ≡ Some channels
    → line_is channels bytes ≡ is → next_at configs (marked configs h) now (Line k bytes) ≡ gives (line_told is)
line_by_channels configs h s now k bytes channels is st at line =
    line_next configs (marked configs h) s now k bytes (law_of configs h s st) st.stands ∙ ap (line_of k bytes) at
    ∙ ap (λ (l : LineIs). gives (line_told l)) line

-- a line outside the grammar ends its process
pub bad_answered : (configs : List Configuration) (h : History) (s : State) (now k : ℕ) (bytes : List ℕ) (p : ClassId)
    (channels : Channels) → StandsFor configs h s → latest h ≤ now
    → s.home k ≡ Some p → channels_in s k ≡ Some channels → line_is channels bytes ≡ Outside
    → IsAnswered configs h now (Line k bytes) told.Bad (after_end_at p k cause.BadReply true now s)
bad_answered configs h s now k bytes p channels st late home at line =
    answered_so configs h s _ now (Line k bytes) told.Bad st refl refl tt late
    (line_by_channels configs h s now k bytes channels Outside st at line)
    (bad_stands configs (marked configs h) s now k bytes p (law_of configs h s st) st.stands home)

-- and so does one on a free channel
pub stray_answered : (configs : List Configuration) (h : History) (s : State) (now k : ℕ) (bytes : List ℕ) (p : ClassId)
    (channels : Channels) → StandsFor configs h s → latest h ≤ now
    → s.home k ≡ Some p → channels_in s k ≡ Some channels → line_is channels bytes ≡ OnFree
    → IsAnswered configs h now (Line k bytes) told.Stray (after_end_at p k cause.Stray true now s)
stray_answered configs h s now k bytes p channels st late home at line =
    answered_so configs h s _ now (Line k bytes) told.Stray st refl refl tt late
    (line_by_channels configs h s now k bytes channels OnFree st at line)
    (stray_stands configs (marked configs h) s now k bytes p (law_of configs h s st) st.stands home)

-- a reply to the question that is open on its channel
pub reply_answered : (configs : List Configuration) (h : History) (s : State) (now k : ℕ) (bytes : List ℕ) (q : ℕ)
    (reply : Reply) (p : ClassId) (class : Class) (channels : Channels) (r : ClassRow) (key : List ℕ)
    → StandsFor configs h s → latest h ≤ now → s.home k ≡ Some p → class_in s p.epoch p.class ≡ Some class
    → channels_in s k ≡ Some channels → line_is channels bytes ≡ ReplyTo q reply
    → s.row p.epoch p.class ≡ Some r → key_of q r.lookups ≡ Some key
    → IsAnswered configs h now (Line k bytes) (told.Reply q reply.word)
    (after_reply_at p class k q key (what_of reply) now s)
reply_answered configs h s now k bytes q reply p class channels r key st late home class_is at line row found =
    answered_so configs h s _ now (Line k bytes) (told.Reply q reply.word) st refl refl tt late
    (line_by_channels configs h s now k bytes channels (ReplyTo q reply) st at line)
    (reply_stands configs (marked configs h) s now k bytes q reply p class channels r key (law_of configs h s st)
    st.stands home class_is at line row found)

-- a death of a process that lives
pub died_answered : (configs : List Configuration) (h : History) (s : State) (now k : ℕ) (p : ClassId)
    → StandsFor configs h s → latest h ≤ now → s.home k ≡ Some p
    → IsAnswered configs h now (Died k) told.Fine (after_end_at p k cause.Died false now s)
died_answered configs h s now k p st late home =
    let law = law_of configs h s st in
    answered_so configs h s _ now (Died k) told.Fine st refl refl tt late
    (died_next configs (marked configs h) s now k law st.stands
    ∙ ap (λ (o : Option ClassId). refuse_if (is_none o) (refusal.UnknownProc k) (gives told.Fine)) home)
    (died_stands configs (marked configs h) s now k p law st.stands home)
