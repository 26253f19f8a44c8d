-- What a line of a process comes to, and what it leaves.
use Rattle.std.specs.Prelude.{◌≡◌, ℕ, List, [], ◌∷◌, Some, true}
use Rattle.sq_base.specs.declared.helpers.Cause.{Cause}
use Rattle.sq_base.specs.declared.helpers.Cause.TheVariants as cause
use Rattle.sq_base.specs.declared.helpers.Reply.{Reply}
use Rattle.sq_base.specs.declared.helpers.What.{What}
use Rattle.sq_machine.specs.declared.entries.Told.{Told}
use Rattle.sq_machine.specs.declared.entries.Told.TheVariants as told
use Rattle.sq_machine.specs.Channels.{Channels}
use Rattle.sq_rules.specs.Classes.{Class}
use Rattle.sq_machine.specs.DueActs.{ClassId}
use Rattle.sq_machine.specs.OpenLookups.{key_of}
use Rattle.sq_machine.specs.Questions.{what_of}
use Rattle.sq_channel.specs.Gots.{got_in}
use Rattle.sq_channel.specs.declared.replies.Got.{Got}
use Rattle.sq_channel.specs.declared.replies.Got.TheVariants as got
use Rattle.sq_model.specs.ClassRows.{ClassRow}
use Rattle.sq_checks.specs.OpenChecks.{CheckParts, change_at, ended_by}
use Rattle.sq_engine.specs.declared.lines.Share.{Share}
use Rattle.sq_model.specs.Answers.{channels_in}
use Rattle.sq_model.specs.Changes.{after_end_at, after_reply_at}
use Rattle.sq_model.specs.Says.{class_in}
use Rattle.sq_model.specs.States.{IsSame, State}

-- a line, as it is told
abbrev pub got_told : Got → Told
got_told (got.Reply q reply) = told.Reply q reply.word
got_told got.Bad = told.Bad
got_told got.Stray = told.Stray

-- a line of a process comes to this on the channels of the process
abbrev pub IsRead : State → ℕ → List ℕ → Got → Type 0
IsRead state proc line came = (c : Channels) → channels_in state proc ≡ Some c
    → got_in c line ≡ came

-- the process ended by a line, by this cause
pub record IsEndedBy (old : State) (proc : ℕ) (by : Cause) (now : ℕ) (new : State) : Type 0 where
  pub place : ClassId
  pub home_is : old.home proc ≡ Some place
  pub same : IsSame new (after_end_at place proc by true now old)

-- the process replied to the question
pub record IsReplied (old : State) (proc question : ℕ) (reply : Reply) (now : ℕ)
    (new : State) : Type 0 where
  pub place : ClassId
  pub class : Class
  pub row : ClassRow
  pub key : List ℕ
  pub home_is : old.home proc ≡ Some place
  pub class_is : class_in old place.epoch place.class ≡ Some class
  pub row_is : old.row place.epoch place.class ≡ Some row
  pub key_is : key_of question row.lookups ≡ Some key
  pub same : IsSame new (after_reply_at place class proc question key (what_of reply) now old)

-- what a line of the process leaves that comes to this
abbrev pub IsLineDone : State → ℕ → Got → ℕ → State → Type 0
IsLineDone old proc (got.Reply question reply) now new = IsReplied old proc question reply now new
IsLineDone old proc got.Bad now new = IsEndedBy old proc cause.BadReply now new
IsLineDone old proc got.Stray now new = IsEndedBy old proc cause.Stray now new

-- a check's copy of what its question ended with
abbrev pub share_of : What → ℕ → Share
share_of w n = record { check = n; what = w }

-- the checks after each was given its copy, the last one first
abbrev pub all_given : ℕ → ℕ → List Share → List (ℕ × CheckParts) → List (ℕ × CheckParts)
all_given question now [] checks = checks
all_given question now (x ∷ xs) checks = change_at x.check (ended_by question x.what now)
    (all_given question now xs checks)
