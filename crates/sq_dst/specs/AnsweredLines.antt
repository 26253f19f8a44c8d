-- Questions that are read line by line, each with its one reply (Squid's helper protocol page: one
-- line, one request or reply).
use Rattle.std.specs.Prelude.{◌≡◌, ℕ, ◌≤◌, ◌⊎◌, List, [], ◌∷◌, ◌++◌, Bool, true, false, map, Some, None, IfSome}
use Rattle.std.specs.Option.{OnSome, option_map}
use Rattle.std.specs.declared.option.Option.{Option}
use Rattle.sq_base.specs.Addresses.{Address}
use Rattle.sq_dst.specs.LookupAcls.{reply_text}
use Rattle.sq_dst.specs.LookupKeys.{host_asked}
use Rattle.sq_keeper.specs.Handing.{Adds}
use Rattle.sq_keeper.specs.Lines.{ReadsLines}
use Rattle.sq_keeper.specs.Walk.{closing, walk_handed, walk_line}
use Rattle.sq_keeper.specs.declared.desk.Handed.{Handed}
use Rattle.sq_keeper.specs.declared.desk.Handed.TheVariants.{Line, Stop, Died}
use Rattle.sq_keeper.specs.declared.keeper.KeeperEnd.{KeeperEnd}
use Rattle.sq_outside.specs.Causes.{Rose}
use Rattle.sq_outside.specs.World.{Names}
use Rattle.sq_rules.specs.Configurations.{Configuration}

-- there is a host for which is asked, and the addresses are its, where they are told
abbrev pub AreTold : Names → Option (List ℕ) → List Address → Type 0
AreTold names None addrs = ⊥
AreTold names (Some host) addrs = IfSome names (λ of. addrs ≡ of host)

-- what was found of a question's host, while the resolver's count went from the one to the other:
-- its addresses; or nothing, as no host is asked for, or the count rose
pub record IsFound (names : Names) (before now : ℕ) (question : List ℕ)
    (found : Option (List Address)) : Type 0 where
  pub told : IfSome found (AreTold names (host_asked question))
  pub quiet : OnSome found (now ≡ before)
  pub none : found ≡ None → (host_asked question ≡ None) ⊎ Rose before now
  pub later : before ≤ now

-- the reply to a question is that over what was found
pub record IsReply (config : Configuration) (names : Names) (before now : ℕ)
    (question reply : List ℕ) : Type 0 where
  pub found : Option (List Address)
  pub is_found : IsFound names before now question found
  pub reply_is : reply ≡ reply_text config question found

-- in the place of a line stands the reply to it; an end is left as it is
abbrev pub StandsFor : Configuration → Names → ℕ → ℕ → Handed → Handed → Type 0
StandsFor config names before now (Line proc question) (Line of reply) = (of ≡ proc)
    × IsReply config names before now question reply
StandsFor config names before now (Stop proc) (Stop of) = (of ≡ proc) × (now ≡ before)
StandsFor config names before now (Died proc) (Died of) = (of ≡ proc) × (now ≡ before)
StandsFor config names before now asked handed = ⊥

-- in the place of each of these stands one of those, in order
abbrev pub Answers : Configuration → Names → ℕ → ℕ → List Handed → List Handed → Type 0
Answers config names before now [] [] = now ≡ before
Answers config names before now [] (one ∷ handed) = ⊥
Answers config names before now (first ∷ asked) [] = ⊥
Answers config names before now (first ∷ asked) (one ∷ handed) = (mid : ℕ)
    × StandsFor config names before mid first one × Answers config names mid now asked handed

-- what is seen of a resolver and of a desk round a call: the addresses that the one tells, its
-- count of faults before and behind, and what the other was handed before and behind
pub record AnswerStep : Type 0 where
  pub names : Names
  pub faults_before : ℕ
  pub faults_now : ℕ
  pub handed_before : Option (List Handed)
  pub handed_now : Option (List Handed)

abbrev pub answer_step : Names → ℕ → ℕ → Option (List Handed) → Option (List Handed) → AnswerStep
answer_step names faults_before faults_now handed_before handed_now = record {
  names = names;
  faults_before = faults_before;
  faults_now = faults_now;
  handed_before = handed_before;
  handed_now = handed_now;
}

-- a desk was handed the answers to these
pub record HandsAnswers (config : Configuration) (step : AnswerStep) (asked : List Handed)
    : Type 0 where
  pub handed : List Handed
  pub answers : Answers config step.names step.faults_before step.faults_now asked handed
  pub adds : Adds step.handed_before step.handed_now handed

-- bytes were taken, and what they end of lines was answered: all of them, or those up to an LF, at
-- which the desk wanted no more
abbrev pub WalksAnswers : Configuration → AnswerStep → ℕ → List ℕ → List ℕ → List ℕ → Bool → Type 0
WalksAnswers config step proc line longer bytes true =
    HandsAnswers config step (walk_handed proc line bytes) × (longer ≡ walk_line line bytes)
WalksAnswers config step proc line longer bytes false =
    (front more : List ℕ) × (bytes ≡ front ++ 10 ∷ more)
    × HandsAnswers config step (walk_handed proc line (front ++ 10 ∷ []) ++ closing proc false)

-- some bytes of the source were read, and a desk was handed the reply to each of their lines, and
-- the end, in the place of the lines that a keeper would have handed on
pub record AnswersLines (config : Configuration) (step : AnswerStep) (proc : ℕ)
    (left_before left_now : Option (List ℕ)) (result : KeeperEnd) : Type 0 where
  pub asked : List Handed
  pub reads : ReadsLines proc left_before left_now (Some []) (Some asked) result
  pub hands : HandsAnswers config step asked

-- a line with the reply to it over the addresses that are told
abbrev pub told_reply : Configuration → (List ℕ → List Address) → Handed → Handed
told_reply config of (Line proc question) =
    Line proc (reply_text config question (option_map of (host_asked question)))
told_reply config of (Stop proc) = Stop proc
told_reply config of (Died proc) = Died proc

-- some bytes of the source were read, and a desk was handed, line by line, the reply over the
-- addresses that are told, and the end
pub record AnswersTold (config : Configuration) (of : List ℕ → List Address) (proc : ℕ)
    (left_before left_now : Option (List ℕ)) (told_before told_now : Option (List Handed))
    (result : KeeperEnd) : Type 0 where
  pub asked : List Handed
  pub reads : ReadsLines proc left_before left_now (Some []) (Some asked) result
  pub adds : Adds told_before told_now (map (told_reply config of) asked)
