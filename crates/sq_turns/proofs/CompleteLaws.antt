-- Over a front that refuses nothing each request of a session gets its answer.
use Rattle.std.proofs.Common.{◌≡◌, ℕ, List, [], ◌∷◌, ◌++◌, Bool, true, false, ◌&&◌, Option, Some, None, Result, Ok, Err, IfOk, bytes_eq, codes, refl, sym, ap, subst, ◌∙◌}
use Rattle.std.proofs.lemmas.List.Folds.{list_all-append}
use Rattle.std.specs.List.{list_all}
use Rattle.sq_base.specs.Addresses.{Address}
use Rattle.sq_base.specs.Requests.{HttpRequest}
use Rattle.sq_base.specs.declared.plans.BodyPlan.{BodyPlan}
use Rattle.sq_checks.specs.Records.{Judged}
use Rattle.sq_message.specs.BodyPlans.{request_plan}
use Rattle.sq_message.specs.declared.faults.BadBody.{BadBody}
use Rattle.sq_message.specs.declared.own.Own.TheVariants.{NotImplemented, NoMemory}
use Rattle.sq_forward.specs.Access.{HeaderAccess}
use Rattle.sq_outside.specs.Dials.{Dialled}
use Rattle.sq_turns.specs.Begins.{fits_hosts}
use Rattle.sq_turns.specs.Fronts.{FrontAnswer, OfOpen, OfDecide, OfRewrite, OfSit, OfClose, SitsFor}
use Rattle.sq_turns.specs.Sessions.{IsSession, IsStep, JudgesBegun, JudgesOf, ServesOpened, SessionStep, Turns, answers_of, turn_of, session_seen}
use Rattle.sq_turns.specs.Turns.{ClientTurn, Reply, NoOrigin, Came, access_of, allowed, asked, carried, denied, dialled, forwarded, is_connect, is_head, is_served, judged, recorded, redirected, rewritten_on, says, seated, turn}
use Rattle.sq_turns.specs.declared.beginning.Begun.{Begun}
use Rattle.sq_turns.specs.declared.beginning.Begun.TheVariants as begun
use Rattle.sq_turns.specs.declared.ends.End.{End}
use Rattle.sq_turns.specs.declared.front.Decided.TheVariants as decided
use Rattle.sq_turns.specs.declared.front.Opened.{Opened}
use Rattle.sq_turns.specs.declared.front.Opened.TheVariants as opened
use Rattle.sq_turns.specs.declared.front.Rewritten.TheVariants as rewritten
use Rattle.sq_turns.specs.declared.front.SitFault.TheVariants as sit
use Rattle.sq_turns.specs.Hubs.{Served}
use Rattle.sq_turns.specs.Completeness.{Completes, CompletesBegun, EachCompletes, GetsDenial, GetsRedirect, GetsUnserved, GetsReply, HasNoMemory, HasNone, is_unspent, sent_as}
use Rattle.sq_turns.specs.Pieces.{FrontStands, is_unrefused}
use Rattle.sq_forward.specs.Exchanges.{message}
use Rattle.sq_turns.specs.Steps.{front_seen}

both_left : (a b : Bool) → (a && b) ≡ true → a ≡ true
both_left true b e = refl
both_left false b e = e

both_right : (a b : Bool) → (a && b) ≡ true → b ≡ true
both_right true b e = e
both_right false b e = absurd cc

-- the answers that a dial leaves to spare
spare_of : (access : HeaderAccess) (r : HttpRequest) (addr : Address) (p : BodyPlan) (rest : List ℕ)
    (more : List FrontAnswer) (reply : Reply)
    → (dialled access r addr p rest more reply).unasked ≡ more
spare_of access r addr p rest more NoOrigin = refl
spare_of access r addr p rest more (Came bytes seen reading broke) = by (is_connect r) refl
  where
    by : (t : Bool) → is_connect r ≡ t → (forwarded access (message r addr p) rest bytes reading broke more).unasked ≡
        more
    by true e = rw e refl
    by false e = rw e refl

-- from the seat on: the request goes on as s
seated_completes : (r s : HttpRequest) (addr : Address) (p : BodyPlan) (rest : List ℕ) (j : Judged)
    (all more answers : List FrontAnswer) (reply : Reply) → all ≡ OfDecide r (decided.Record j) ∷ more
    → j.sight.request ≡ r
    → j.outcome.allow ≡ true → s ≡ sent_as r more → is_head s ≡ is_head r → is_served s ≡ true
    → list_all is_unspent answers ≡ true
    → (seated (access_of j) s addr p rest answers reply).unasked ≡ []
    → Completes r addr p rest all reply (seated (access_of j) s addr p rest answers reply)
seated_completes r s addr p rest j all more [] reply front same allow sent head served few none = HasNone refl
seated_completes r s addr p rest j all more (OfSit k (Ok u) ∷ behind) reply front same allow sent head served few none =
    GetsReply j more front same allow (subst (λ x. is_served x ≡ true) sent served)
    (ap (λ l. dialled (access_of j) s addr p rest l reply)
    (sym (spare_of (access_of j) s addr p rest behind reply) ∙ none)
    ∙ ap (λ x. dialled (access_of j) x addr p rest [] reply) sent)
seated_completes r s addr p rest j all more (OfSit k (Err sit.Spent) ∷ behind) reply front same allow sent head served
    few none = absurd cc
seated_completes r s addr p rest j all more (OfSit k (Err sit.WantOfMemory) ∷ behind) reply front same allow sent head
    served few none = HasNoMemory (ap (says NoMemory (is_head s)) none ∙ ap (λ b. says NoMemory b []) head)
seated_completes r s addr p rest j all more (OfDecide q d ∷ behind) reply front same allow sent head served few none =
    absurd cc
seated_completes r s addr p rest j all more (OfRewrite k said ∷ behind) reply front same allow sent head served few
    none = absurd cc
seated_completes r s addr p rest j all more (OfOpen a port o ∷ behind) reply front same allow sent head served few none
    =
    absurd cc
seated_completes r s addr p rest j all more (OfClose c ∷ behind) reply front same allow sent head served few none =
    absurd cc

-- from the scheme on
carried_completes : (r s : HttpRequest) (addr : Address) (p : BodyPlan) (rest : List ℕ) (j : Judged)
    (all more answers : List FrontAnswer) (reply : Reply) → all ≡ OfDecide r (decided.Record j) ∷ more
    → j.sight.request ≡ r
    → j.outcome.allow ≡ true → s ≡ sent_as r more → is_head s ≡ is_head r → list_all is_unspent answers ≡ true
    → (carried (access_of j) s addr p rest answers reply).unasked ≡ []
    → Completes r addr p rest all reply (carried (access_of j) s addr p rest answers reply)
carried_completes r s addr p rest j all more answers reply front same allow sent head few none = by (is_served s) refl
  where
    by : (t : Bool) → is_served s ≡ t
        → Completes r addr p rest all reply (carried (access_of j) s addr p rest answers reply)
    by true e =
        let is : carried (access_of j) s addr p rest answers reply
        ≡ seated (access_of j) s addr p rest answers reply = rw e refl in
        subst (Completes r addr p rest all reply) (sym is)
        (seated_completes r s addr p rest j all more answers reply front same allow sent head e few
        (sym (ap ClientTurn.unasked is) ∙ none))
    by false e =
        let is : carried (access_of j) s addr p rest answers reply
        ≡ says NotImplemented (is_head s) answers = rw e refl in
        GetsUnserved j more front same allow (subst (λ x. is_served x ≡ false) sent e)
        (is ∙ ap (says NotImplemented (is_head s)) (sym (ap ClientTurn.unasked is) ∙ none)
        ∙ ap (λ x. says NotImplemented (is_head x) []) sent)

-- a request of the same method
head_same : (s r : HttpRequest) → s.method ≡ r.method → is_head s ≡ is_head r
head_same s r e = ap (λ m. bytes_eq m (codes "HEAD")) e

-- from the rewriter on
rewritten_completes : (r : HttpRequest) (addr : Address) (p : BodyPlan) (rest : List ℕ) (j : Judged)
    (all more : List FrontAnswer) (reply : Reply) → all ≡ OfDecide r (decided.Record j) ∷ more
    → j.sight.request ≡ r
    → j.outcome.allow ≡ true → is_connect r ≡ false → SitsFor j more → list_all is_unspent more ≡ true
    → (rewritten_on (access_of j) r addr p rest more reply).unasked ≡ []
    → Completes r addr p rest all reply (rewritten_on (access_of j) r addr p rest more reply)
rewritten_completes r addr p rest j all [] reply front same allow plain sits few none = HasNone refl
rewritten_completes r addr p rest j all (OfRewrite k rewritten.Same ∷ more) reply front same allow plain sits few none =
    carried_completes r r addr p rest j all (OfRewrite k rewritten.Same ∷ more) more reply front same allow
    (rw plain refl) refl few none
rewritten_completes r addr p rest j all (OfRewrite k (rewritten.New new) ∷ more) reply front same allow plain sits few
    none =
    carried_completes r new addr p rest j all (OfRewrite k (rewritten.New new) ∷ more) more reply front same allow
    (rw plain refl) (head_same new r (sits.1.method ∙ ap HttpRequest.method same)) few none
rewritten_completes r addr p rest j all (OfRewrite k (rewritten.Redirect code url) ∷ more) reply front same allow plain
    sits few none =
    GetsRedirect j code url
    (front ∙ ap (λ l. OfDecide r (decided.Record j) ∷ (OfRewrite k (rewritten.Redirect code url) ∷ l)) none
    ∙ ap (λ x. OfDecide r (decided.Record j) ∷ (OfRewrite x (rewritten.Redirect code url) ∷ [])) sits.0)
    same allow plain (ap (redirected code url) none)
rewritten_completes r addr p rest j all (OfRewrite k rewritten.WantOfMemory ∷ more) reply front same allow plain sits
    few none = HasNoMemory (ap (says NoMemory (is_head r)) none)
rewritten_completes r addr p rest j all (OfSit k s ∷ more) reply front same allow plain sits few none = absurd cc
rewritten_completes r addr p rest j all (OfDecide q d ∷ more) reply front same allow plain sits few none = absurd cc
rewritten_completes r addr p rest j all (OfOpen a port o ∷ more) reply front same allow plain sits few none = absurd cc
rewritten_completes r addr p rest j all (OfClose c ∷ more) reply front same allow plain sits few none = absurd cc

-- an allowed request
allowed_completes : (r : HttpRequest) (addr : Address) (p : BodyPlan) (rest : List ℕ) (j : Judged)
    (all more : List FrontAnswer) (reply : Reply) → all ≡ OfDecide r (decided.Record j) ∷ more
    → j.sight.request ≡ r
    → j.outcome.allow ≡ true → SitsFor j more → list_all is_unspent more ≡ true
    → (allowed (access_of j) r addr p rest more reply).unasked ≡ []
    → Completes r addr p rest all reply (allowed (access_of j) r addr p rest more reply)
allowed_completes r addr p rest j all more reply front same allow sits few none = by (is_connect r) refl
  where
    by : (t : Bool) → is_connect r ≡ t
        → Completes r addr p rest all reply (allowed (access_of j) r addr p rest more reply)
    by true e =
        let is : allowed (access_of j) r addr p rest more reply
        ≡ carried (access_of j) r addr p rest more reply = rw e refl in
        subst (Completes r addr p rest all reply) (sym is)
        (carried_completes r r addr p rest j all more more reply front same allow (rw e refl) refl few
        (sym (ap ClientTurn.unasked is) ∙ none))
    by false e =
        let is : allowed (access_of j) r addr p rest more reply
        ≡ rewritten_on (access_of j) r addr p rest more reply = rw e refl in
        subst (Completes r addr p rest all reply) (sym is)
        (rewritten_completes r addr p rest j all more reply front same allow e sits few
        (sym (ap ClientTurn.unasked is) ∙ none))

-- from the record on
recorded_completes : (r : HttpRequest) (addr : Address) (p : BodyPlan) (rest : List ℕ) (j : Judged)
    (all answers : List FrontAnswer) (reply : Reply) → all ≡ OfDecide r (decided.Record j) ∷ answers
    → j.sight.request ≡ r → SitsFor j answers
    → list_all is_unspent answers ≡ true → (recorded r addr p rest j answers reply).unasked ≡ []
    → Completes r addr p rest all reply (recorded r addr p rest j answers reply)
recorded_completes r addr p rest j all answers reply front same sits few none = by j.outcome.allow refl
  where
    by : (t : Bool) → j.outcome.allow ≡ t → Completes r addr p rest all reply (recorded r addr p rest j answers reply)
    by true e =
        let is : recorded r addr p rest j answers reply
        ≡ allowed (access_of j) r addr p rest answers reply = rw e refl in
        subst (Completes r addr p rest all reply) (sym is)
        (allowed_completes r addr p rest j all answers reply front same e sits few
        (sym (ap ClientTurn.unasked is) ∙ none))
    by false e =
        let is : recorded r addr p rest j answers reply ≡ denied r p rest j answers = rw e refl in
        GetsDenial j answers front same e (is ∙ ap (denied r p rest j) (sym (ap ClientTurn.unasked is) ∙ none))

-- from the verdict on
judged_completes : (r : HttpRequest) (addr : Address) (p : BodyPlan) (rest : List ℕ) (answers : List FrontAnswer)
    (reply : Reply) → JudgesOf r answers
    → list_all is_unrefused answers ≡ true → list_all is_unspent answers ≡ true
    → (judged r addr p rest answers reply).unasked ≡ []
    → Completes r addr p rest answers reply (judged r addr p rest answers reply)
judged_completes r addr p rest [] reply j fine few none = HasNone refl
judged_completes r addr p rest (OfDecide q (decided.Record k) ∷ more) reply j fine few none =
    recorded_completes r addr p rest k (OfDecide q (decided.Record k) ∷ more) more reply
    (ap (λ x. OfDecide x (decided.Record k) ∷ more) j.0) j.1 j.2 few none
judged_completes r addr p rest (OfDecide q (decided.Mismatch other) ∷ more) reply j fine few none = absurd cc
judged_completes r addr p rest (OfDecide q (decided.Refused why) ∷ more) reply j fine few none = absurd cc
judged_completes r addr p rest (OfDecide q decided.JournalFault ∷ more) reply j fine few none = absurd cc
judged_completes r addr p rest (OfDecide q decided.WantOfMemory ∷ more) reply j fine few none =
    HasNoMemory (ap (says NoMemory (is_head r)) none)
judged_completes r addr p rest (OfRewrite k said ∷ more) reply j fine few none = absurd cc
judged_completes r addr p rest (OfSit k s ∷ more) reply j fine few none = absurd cc
judged_completes r addr p rest (OfOpen a port o ∷ more) reply j fine few none = absurd cc
judged_completes r addr p rest (OfClose c ∷ more) reply j fine few none = absurd cc

-- a request
asked_completes : (r : HttpRequest) (addr : Address) (rest : List ℕ) (answers : List FrontAnswer) (reply : Reply)
    (plan : Result BodyPlan BadBody) → request_plan r ≡ plan → fits_hosts r ≡ true → JudgesOf r answers
    → list_all is_unrefused answers ≡ true → list_all is_unspent answers ≡ true
    → (asked r addr rest answers reply).unasked ≡ []
    → IfOk plan (λ p. Completes r addr p rest answers reply (asked r addr rest answers reply))
asked_completes r addr rest answers reply (Err bad) e f j fine few none = tt
asked_completes r addr rest answers reply (Ok p) e f j fine few none =
    let is : asked r addr rest answers reply ≡ judged r addr p rest answers reply = rw (f, e) refl in
    subst (Completes r addr p rest answers reply) (sym is)
    (judged_completes r addr p rest answers reply j fine few (sym (ap ClientTurn.unasked is) ∙ none))

begun_completes : (addr : Address) (b : Begun) (rest : List ℕ) (answers : List FrontAnswer) (reply : Reply)
    → JudgesBegun b answers → list_all is_unrefused answers ≡ true → list_all is_unspent answers ≡ true
    → (turn addr b rest answers reply).unasked ≡ []
    → CompletesBegun addr b rest answers reply (turn addr b rest answers reply)
begun_completes addr (begun.Asks r) rest answers reply j fine few none =
    λ f. asked_completes r addr rest answers reply (request_plan r) refl f j fine few none
begun_completes addr begun.Nothing rest answers reply j fine few none = tt
begun_completes addr begun.Cut rest answers reply j fine few none = tt
begun_completes addr begun.TooLarge rest answers reply j fine few none = tt
begun_completes addr begun.Bad rest answers reply j fine few none = tt
begun_completes addr begun.Failed rest answers reply j fine few none = tt
begun_completes addr begun.WantOfMemory rest answers reply j fine few none = tt

-- the answers of the first step, and of the others
all_first : (q : FrontAnswer → Bool) (s : SessionStep) (ss : List SessionStep) → list_all q (answers_of (s ∷ ss)) ≡ true
    → list_all q s.answers ≡ true
all_first q s ss e = both_left (list_all q s.answers) (list_all q (answers_of ss))
    (sym (list_all-append q s.answers (answers_of ss)) ∙ e)

all_others : (q : FrontAnswer → Bool) (s : SessionStep) (ss : List SessionStep)
    → list_all q (answers_of (s ∷ ss)) ≡ true → list_all q (answers_of ss) ≡ true
all_others q s ss e = both_right (list_all q s.answers) (list_all q (answers_of ss))
    (sym (list_all-append q s.answers (answers_of ss)) ∙ e)

step_completes : (addr : Address) (input : List ℕ) (s : SessionStep) → IsStep addr input s
    → list_all is_unrefused s.answers ≡ true → list_all is_unspent s.answers ≡ true
    → CompletesBegun addr s.begun s.rest s.answers s.reply (turn_of addr s)
step_completes addr input s x fine few = begun_completes addr s.begun s.rest s.answers s.reply x.judges fine few x.asks

turns_complete : (addr : Address) (input : List ℕ) (steps : List SessionStep) (e : End) → Turns addr input steps e
    → list_all is_unrefused (answers_of steps) ≡ true → list_all is_unspent (answers_of steps) ≡ true
    → EachCompletes addr steps
turns_complete addr input [] e t fine few = tt
turns_complete addr input (s ∷ []) e t fine few = (
  step_completes addr input s t.0 (all_first is_unrefused s [] fine)
      (all_first is_unspent s [] few),
  tt,
)
turns_complete addr input (s ∷ (u ∷ us)) e t fine few = (
  step_completes addr input s t.0 (all_first is_unrefused s (u ∷ us) fine) (all_first is_unspent s (u ∷ us) few),
  turns_complete addr (turn_of addr s).rest (u ∷ us) e t.2 (all_others is_unrefused s (u ∷ us) fine)
      (all_others is_unspent s (u ∷ us) few),
)

opened_completes : (addr : Address) (input : List ℕ) (o : Opened) (steps : List SessionStep) (written : List ℕ)
    (e : End) → ServesOpened addr input o steps written e → list_all is_unrefused (answers_of steps) ≡ true
    → list_all is_unspent (answers_of steps) ≡ true → EachCompletes addr steps
opened_completes addr input opened.In steps written e t fine few = turns_complete addr input steps e t.0 fine few
opened_completes addr input opened.Full steps written e t fine few = subst (EachCompletes addr) (sym t.0) tt
opened_completes addr input (opened.Refused why) steps written e t fine few = subst (EachCompletes addr) (sym t.0) tt
opened_completes addr input opened.JournalFault steps written e t fine few = subst (EachCompletes addr) (sym t.0) tt
opened_completes addr input opened.WantOfMemory steps written e t fine few = subst (EachCompletes addr) (sym t.0) tt

-- the answers of the turns are among those that the front stands for
turns_unrefused : (list behind : List FrontAnswer) (x : FrontAnswer) (answers : List FrontAnswer)
    → list_all is_unrefused (list ++ x ∷ (answers ++ behind)) ≡ true → list_all is_unrefused answers ≡ true
turns_unrefused list behind x answers e =
    let rest = both_right (list_all is_unrefused list) (list_all is_unrefused (x ∷ (answers ++ behind)))
    (sym (list_all-append is_unrefused list (x ∷ (answers ++ behind))) ∙ e) in
    let all = both_right (is_unrefused x) (list_all is_unrefused (answers ++ behind)) rest in
    both_left (list_all is_unrefused answers) (list_all is_unrefused behind)
    (sym (list_all-append is_unrefused answers behind) ∙ all)

-- over a hub that tells, and that never counted a refusal, where no number of seats is used up
pub session_completes : (conn refused : ℕ) (m n : Option Served) (list : List FrontAnswer) {addr : Address} {port : ℕ}
    {input : List ℕ} {a b : Option (List ℕ)} {before : Option Dialled} {now : Dialled} {failed : Type 0} {g h : ℕ}
    {e : End}
    → FrontStands conn m refused list
    → (x : IsSession addr port input (front_seen (FrontStands conn m refused) (FrontStands conn n 0))
    (session_seen a b g h before) now failed e)
    → list_all is_unspent (answers_of x.steps) ≡ true → EachCompletes addr x.steps
session_completes conn refused m None list st x few = absurd (x.told list st)
session_completes conn refused m (Some s) list {addr} {port} {input} {e = e} st x few =
    opened_completes addr input x.opening x.steps x.written e x.serves
    (turns_unrefused list x.closing (OfOpen addr port x.opening) (answers_of x.steps) ((x.told list st).1 refl)) few
