-- Lists of lines and of the replies that stand for them.
use Rattle.std.proofs.Common.{◌≡◌, ℕ, ◌<◌, ◌≤◌, ◌⊎◌, List, [], ◌∷◌, ◌++◌, Bool, true, false, map, Some, None, refl, sym, ap, subst, ◌∙◌, arith, inl, inr, ⊎_elim, IfSome}
use Rattle.std.specs.Prelude.{IfNone}
use Rattle.std.specs.Option.{option_map}
use Rattle.std.specs.declared.option.Option.{Option}
use Rattle.sq_base.specs.Addresses.{Address}
use Rattle.sq_dst.specs.AnsweredLines.{Answers, AnswersLines, AnswersTold, AreTold, HandsAnswers, IsFound, IsReply, StandsFor, answer_step, told_reply}
use Rattle.sq_dst.specs.LookupAcls.{reply_text}
use Rattle.sq_dst.specs.LookupKeys.{host_asked}
use Rattle.sq_keeper.proofs.AddLaws.{adds_more, adds_none}
use Rattle.sq_keeper.specs.Handing.{Adds}
use Rattle.sq_keeper.specs.Walk.{closing}
use Rattle.sq_keeper.specs.declared.desk.Handed.{Handed}
use Rattle.sq_keeper.specs.declared.desk.Handed.TheVariants.{Line, Stop, Died}
use Rattle.sq_keeper.specs.declared.keeper.KeeperEnd.{KeeperEnd}
use Rattle.sq_outside.specs.Causes.{Rose, raised}
use Rattle.sq_outside.specs.World.{Names}
use Rattle.sq_rules.specs.Configurations.{Configuration}

-- one list behind another
answers_more : (c : Configuration) (names : Names) (x y z : ℕ) (a b h k : List Handed) → Answers c names x y a h
    → Answers c names y z b k → Answers c names x z (a ++ b) (h ++ k)
answers_more c names x y z [] b [] k p q = subst (λ n. Answers c names n z b k) p q
answers_more c names x y z [] b (h ∷ handed) k p q = absurd p
answers_more c names x y z (a ∷ asked) b [] k p q = absurd p
answers_more c names x y z (a ∷ asked) b (h ∷ handed) k p q =
    (p.0, p.1, answers_more c names p.0 y z asked b handed k p.2 q)

pub hands_none : (c : Configuration) (names : Names) (n : ℕ) (told : Option (List Handed))
    → HandsAnswers c (answer_step names n n told told) []
hands_none c names n told = record { handed = []; answers = refl; adds = adds_none told }

pub hands_more : (c : Configuration) (names : Names) (x y z : ℕ) (s t u : Option (List Handed)) (a b : List Handed)
    → HandsAnswers c (answer_step names x y s t) a → HandsAnswers c (answer_step names y z t u) b
    → HandsAnswers c (answer_step names x z s u) (a ++ b)
hands_more c names x y z s t u a b p q = record {
  handed = p.handed ++ q.handed;
  answers = answers_more c names x y z a b p.handed q.handed p.answers q.answers;
  adds = adds_more s t u p.handed q.handed p.adds q.adds;
}

pub hands_death : (c : Configuration) (names : Names) (n proc : ℕ) (t u : Option (List Handed))
    → Adds t u (Died proc ∷ []) → HandsAnswers c (answer_step names n n t u) (Died proc ∷ [])
hands_death c names n proc t u adds = record {
  handed = Died proc ∷ [];
  answers = (n, (refl, refl), refl);
  adds = adds;
}

-- the reply to a question stands for it
pub hands_reply : (c : Configuration) (names : Names) (x y proc : ℕ) (question reply : List ℕ)
    (found : Option (List Address)) (t u : Option (List Handed)) (more : Bool) → IsFound names x y question found
    → reply ≡ reply_text c question found → Adds t u (Line proc reply ∷ closing proc more)
    → HandsAnswers c (answer_step names x y t u) (Line proc question ∷ closing proc more)
hands_reply c names x y proc question reply found t u true is e adds = record {
  handed = Line proc reply ∷ [];
  answers = (y, (refl, record { found = found; is_found = is; reply_is = e }), refl);
  adds = adds;
}
hands_reply c names x y proc question reply found t u false is e adds = record {
  handed = Line proc reply ∷ Stop proc ∷ [];
  answers = (y, (refl, record { found = found; is_found = is; reply_is = e }), (y, (refl, refl), refl));
  adds = adds;
}

-- what is found of a question for which no host is asked
pub nothing_found : (names : Names) (n : ℕ) (question : List ℕ) → host_asked question ≡ None
    → IsFound names n n question None
nothing_found names n question none = record {
  told = tt;
  quiet = tt;
  none = λ _. inl none;
  later = omega arith;
}

-- what a resolver found of a host
pub looked_up : (names : Names) (x y : ℕ) (question host : List ℕ) (found : Option (List Address))
    → host_asked question ≡ Some host → IfSome found (λ addrs. IfSome names (λ of. addrs ≡ of host))
    → IfSome found (λ _. y ≡ x) → IfNone found (Rose x y) → x ≤ y → IsFound names x y question found
looked_up names x y question host None asked told quiet failed later = record {
  told = tt;
  quiet = tt;
  none = λ e. inr failed;
  later = later;
}
looked_up names x y question host (Some addrs) asked told quiet failed later = record {
  told = subst (λ h. AreTold names h addrs) (sym asked) told;
  quiet = quiet;
  none = λ e. absurd (cc);
  later = later;
}

-- where the count did not rise, each reply is over the addresses that are told

stands_later : (c : Configuration) (names : Names) (x y : ℕ) (a h : Handed) → StandsFor c names x y a h → x ≤ y
stands_later c names x y (Line p question) (Line q reply) is = is.1.is_found.later
stands_later c names x y (Line p question) (Stop q) is = absurd is
stands_later c names x y (Line p question) (Died q) is = absurd is
stands_later c names x y (Stop p) (Line q reply) is = absurd is
stands_later c names x y (Stop p) (Stop q) is = omega (arith, is.1)
stands_later c names x y (Stop p) (Died q) is = absurd is
stands_later c names x y (Died p) (Line q reply) is = absurd is
stands_later c names x y (Died p) (Stop q) is = absurd is
stands_later c names x y (Died p) (Died q) is = omega (arith, is.1)

answers_later : (c : Configuration) (names : Names) (x y : ℕ) (a h : List Handed) → Answers c names x y a h → x ≤ y
answers_later c names x y [] [] is = omega (arith, is)
answers_later c names x y [] (h ∷ handed) is = absurd is
answers_later c names x y (a ∷ asked) [] is = absurd is
answers_later c names x y (a ∷ asked) (h ∷ handed) is =
    let first = stands_later c names x is.0 a h is.1 in
    let rest = answers_later c names is.0 y asked handed is.2 in
    omega (arith, first, rest)

found_told : (of : List ℕ → List Address) (x y : ℕ) (host : Option (List ℕ)) (found : Option (List Address))
    → IfSome found (AreTold (Some of) host) → (found ≡ None → (host ≡ None) ⊎ Rose x y) → y < raised x
    → found ≡ option_map of host
found_told of x y None None told none less = refl
found_told of x y None (Some addrs) told none less = absurd told
found_told of x y (Some host) None told none less =
    ⊎_elim (λ e. absurd (cc)) (λ rose. absurd (omega (arith, rose, less))) (none refl)
found_told of x y (Some host) (Some addrs) told none less = ap Some told

reply_told : (c : Configuration) (of : List ℕ → List Address) (x y : ℕ) (question reply : List ℕ)
    → IsReply c (Some of) x y question reply → y < raised x
    → reply ≡ reply_text c question (option_map of (host_asked question))
reply_told c of x y question reply is less = is.reply_is
    ∙ ap (reply_text c question)
    (found_told of x y (host_asked question) is.found is.is_found.told is.is_found.none less)

one_told : (c : Configuration) (of : List ℕ → List Address) (x y : ℕ) (a h : Handed) → StandsFor c (Some of) x y a h
    → y < raised x → h ≡ told_reply c of a
one_told c of x y (Line p question) (Line q reply) is less =
    ap (λ n. Line n reply) is.0 ∙ ap (Line p) (reply_told c of x y question reply is.1 less)
one_told c of x y (Line p question) (Stop q) is less = absurd is
one_told c of x y (Line p question) (Died q) is less = absurd is
one_told c of x y (Stop p) (Line q reply) is less = absurd is
one_told c of x y (Stop p) (Stop q) is less = ap Stop is.0
one_told c of x y (Stop p) (Died q) is less = absurd is
one_told c of x y (Died p) (Line q reply) is less = absurd is
one_told c of x y (Died p) (Stop q) is less = absurd is
one_told c of x y (Died p) (Died q) is less = ap Died is.0

all_told : (c : Configuration) (of : List ℕ → List Address) (x y : ℕ) (a h : List Handed) → Answers c (Some of) x y a h
    → y < raised x → h ≡ map (told_reply c of) a
all_told c of x y [] [] is less = refl
all_told c of x y [] (h ∷ handed) is less = absurd is
all_told c of x y (a ∷ asked) [] is less = absurd is
all_told c of x y (a ∷ asked) (h ∷ handed) is less =
    let first = stands_later c (Some of) x is.0 a h is.1 in
    let rest = answers_later c (Some of) is.0 y asked handed is.2 in
    let below : is.0 < raised x = omega (arith, rest, less) in
    let above : y < raised is.0 = omega (arith, first, less) in
    ap (λ l. l ∷ handed) (one_told c of x is.0 a h is.1 below)
    ∙ ap (λ l. told_reply c of a ∷ l) (all_told c of is.0 y asked handed is.2 above)

pub lines_told : (c : Configuration) (names : Names) (x y proc : ℕ) (left_before left_now : Option (List ℕ))
    (before now : Option (List Handed)) (end : KeeperEnd)
    → AnswersLines c (answer_step names x y before now) proc left_before left_now end
    → IfSome names (λ of. y < raised x → AnswersTold c of proc left_before left_now before now end)
lines_told c None x y proc left_before left_now before now end is = tt
lines_told c (Some of) x y proc left_before left_now before now end is = λ less. record {
  asked = is.asked;
  reads = is.reads;
  adds = subst (Adds before now) (all_told c of x y is.asked is.hands.handed is.hands.answers less) is.hands.adds;
}
