-- What was read so far, and what was answered of it.
use Rattle.std.proofs.Common.{◌≡◌, ℕ, List, [], ◌∷◌, ◌++◌, true, false, Some, refl}
use Rattle.std.specs.declared.option.Option.{Option}
use Rattle.std.specs.Io.KnownBytes.{Consumes, Keeps}
use Rattle.sq_dst.proofs.AnswerLaws.{hands_death, hands_more, hands_none}
use Rattle.sq_dst.specs.AnsweredLines.{AnswersLines, HandsAnswers, WalksAnswers, answer_step}
use Rattle.sq_keeper.proofs.KeeperLaws.{SoFar, begins, goes_on, is_ended, is_failed, is_refused, is_told}
use Rattle.sq_keeper.specs.Handing.{Adds}
use Rattle.sq_keeper.specs.Walk.{closing, walk_handed}
use Rattle.sq_keeper.specs.declared.desk.Handed.{Handed}
use Rattle.sq_keeper.specs.declared.desk.Handed.TheVariants.{Died}
use Rattle.sq_keeper.specs.declared.keeper.KeeperEnd.TheVariants.{Ended, ReadFault, Told, WantOfMemory}
use Rattle.sq_outside.specs.World.{Names}
use Rattle.sq_rules.specs.Configurations.{Configuration}

-- these bytes were read, and their lines answered
pub record SoFarAnswered (c : Configuration) (names : Names) (x y proc : ℕ) (left_before left_now : Option (List ℕ))
    (before now : Option (List Handed)) (line : List ℕ) : Type 0 where
  pub asked : List Handed
  pub reads : SoFar proc left_before left_now (Some []) (Some asked) line
  pub hands : HandsAnswers c (answer_step names x y before now) asked

pub none_read : (c : Configuration) (names : Names) (n proc : ℕ) (left : Option (List ℕ)) (told : Option (List Handed))
    (line : List ℕ) → line ≡ [] → SoFarAnswered c names n n proc left left told told line
none_read c names n proc left told line e = record {
  asked = [];
  reads = begins proc left (Some []) line e;
  hands = hands_none c names n told;
}

-- more bytes, all of which were taken
pub more_read : (c : Configuration) (names : Names) (x y z proc : ℕ) (i j k : Option (List ℕ))
    (s t u : Option (List Handed)) (line longer bytes : List ℕ) → SoFarAnswered c names x y proc i j s t line
    → Consumes j k bytes → WalksAnswers c (answer_step names y z t u) proc line longer bytes true
    → SoFarAnswered c names x z proc i k s u longer
more_read c names x y z proc i j k s t u line longer bytes so took walks =
    let more = walk_handed proc line bytes in
    record {
      asked = so.asked ++ more;
      reads = goes_on proc i j k (Some []) (Some so.asked) (Some (so.asked ++ more)) line longer bytes so.reads took
          ((so.asked, refl, refl), walks.1);
      hands = hands_more c names x y z s t u so.asked more so.hands walks.0;
    }

-- more bytes, up to the LF at which the desk wanted no more
pub told_read : (c : Configuration) (names : Names) (x y z proc : ℕ) (i j k : Option (List ℕ))
    (s t u : Option (List Handed)) (line longer bytes : List ℕ) → SoFarAnswered c names x y proc i j s t line
    → Consumes j k bytes → WalksAnswers c (answer_step names y z t u) proc line longer bytes false
    → AnswersLines c (answer_step names x z s u) proc i k Told
told_read c names x y z proc i j k s t u line longer bytes so took walks =
    let more = walk_handed proc line (walks.0 ++ 10 ∷ []) ++ closing proc false in
    record {
      asked = so.asked ++ more;
      reads = is_told proc i j k (Some []) (Some so.asked) (Some (so.asked ++ more)) line longer bytes so.reads took
          (walks.0, walks.1, walks.2, (so.asked, refl, refl));
      hands = hands_more c names x y z s t u so.asked more so.hands walks.3;
    }

-- the end of the input, and the death
pub all_read : (c : Configuration) (names : Names) (x y proc : ℕ) (i j k : Option (List ℕ))
    (s t u : Option (List Handed)) (line : List ℕ) → SoFarAnswered c names x y proc i j s t line → Consumes j k []
    → Adds t u (Died proc ∷ []) → AnswersLines c (answer_step names x y s u) proc i k Ended
all_read c names x y proc i j k s t u line so took died =
    record {
      asked = so.asked ++ Died proc ∷ [];
      reads = is_ended proc i j k (Some []) (Some so.asked) (Some (so.asked ++ Died proc ∷ [])) line so.reads took
          (so.asked, refl, refl);
      hands = hands_more c names x y y s t u so.asked (Died proc ∷ []) so.hands
          (hands_death c names y proc t u died);
    }

-- a fault, and the death
pub failed_read : (c : Configuration) (names : Names) (x y proc : ℕ) (i j k : Option (List ℕ))
    (s t u : Option (List Handed)) (line : List ℕ) → SoFarAnswered c names x y proc i j s t line → Keeps j k
    → Adds t u (Died proc ∷ []) → AnswersLines c (answer_step names x y s u) proc i k ReadFault
failed_read c names x y proc i j k s t u line so kept died =
    record {
      asked = so.asked ++ Died proc ∷ [];
      reads = is_failed proc i j k (Some []) (Some so.asked) (Some (so.asked ++ Died proc ∷ [])) line so.reads kept
          (so.asked, refl, refl);
      hands = hands_more c names x y y s t u so.asked (Died proc ∷ []) so.hands
          (hands_death c names y proc t u died);
    }

-- nothing was read or handed on
pub not_read : (c : Configuration) (names : Names) (n proc : ℕ) (left : Option (List ℕ)) (told : Option (List Handed))
    → AnswersLines c (answer_step names n n told told) proc left left WantOfMemory
not_read c names n proc left told = record {
  asked = [];
  reads = is_refused proc left (Some []);
  hands = hands_none c names n told;
}
