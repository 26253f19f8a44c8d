-- What a front stands for after each of its calls.
use Rattle.std.proofs.Common.{◌≡◌, inl, inr, ℕ, ◌≤◌, List, [], ◌∷◌, ◌++◌, true, Option, Some, None, Result, Ok, Err, IfSome, refl, sym, subst, ap, ◌∙◌, arith, append_assoc}
use Rattle.std.specs.List.{list_all}
use Rattle.std.proofs.lemmas.List.Folds.{list_all-append}
use Rattle.sq_base.specs.Addresses.{Address}
use Rattle.sq_base.specs.Requests.{HttpRequest}
use Rattle.sq_checks.specs.Records.{Judged}
use Rattle.sq_rules.specs.Configurations.{Configuration}
use Rattle.sq_machine.specs.Entries.{History, entry_at}
use Rattle.sq_machine.specs.declared.entries.Event.{Event}
use Rattle.sq_machine.specs.declared.entries.Event.TheVariants as event
use Rattle.sq_machine.specs.declared.entries.Told.TheVariants as told
use Rattle.sq_outside.specs.Causes.{Rose}
use Rattle.sq_machine.specs.declared.refusals.Refusal.TheVariants as refusal
use Rattle.sq_turns.specs.Fronts.{FrontAnswer, OfOpen, OfDecide, OfRewrite, OfSit, OfClose, OpenRefuses, DecideRefuses, CloseRefuses}
use Rattle.sq_turns.specs.declared.front.CloseFault.{CloseFault}
use Rattle.sq_turns.specs.declared.front.CloseFault.TheVariants as close
use Rattle.sq_turns.specs.declared.front.Decided.{Decided}
use Rattle.sq_turns.specs.declared.front.Decided.TheVariants as decided
use Rattle.sq_turns.specs.declared.front.Opened.{Opened}
use Rattle.sq_turns.specs.declared.front.Opened.TheVariants as opened
use Rattle.sq_turns.specs.declared.front.SitFault.{SitFault}
use Rattle.sq_turns.specs.declared.front.Rewritten.{Rewritten}
use Rattle.sq_turns.specs.declared.front.Rewritten.TheVariants as rewritten
use Rattle.sq_model.specs.States.{IsSame}
use Rattle.sq_rewrite.proofs.WorkLaws.{runs_more, state_more}
use Rattle.sq_rewrite.specs.Calls.{Calls}
use Rattle.sq_rewrite.specs.States.{RewriteState, RunsOn, after_calls, is_of_processes}
use Rattle.sq_rewrite.specs.declared.rewritings.Rewriting.{Rewriting}
use Rattle.sq_rewrite.specs.declared.rewritings.Rewriting.TheVariants as rewriting
use Rattle.sq_turns.specs.Judging.{Closes, ClosesBy, ComesTo, FitsDecided, HadNoMemory, IsOwn, WasRefused, IsRewriting, WasTaken, Judges, Opens, OpensBy, RewritesBy, RewritesFor, rewritten_of}
use Rattle.sq_turns.specs.Hubs.{IsRefusal, Served, opened_of, unclosed_of}
use Rattle.sq_turns.specs.Pieces.{AreUnrefused, FitsPiece, FrontStands, IsFrontList, IsQuestion, IsRewritten, RunsTo, calls_of, entries_of, is_unrefused, served_by, served_told}
use Rattle.sq_turns.specs.Tellings.{HubState, IsNext, LeavesMachine, StandsAt, Tells, Works, machine_now}
use Rattle.sq_turns.specs.declared.hub.HubFault.{HubFault}
use Rattle.sq_turns.specs.declared.hub.HubFault.TheVariants.{Refused, JournalFault, WantOfMemory}
use Rattle.sq_turns.proofs.TellLaws.{stands_at_same}

-- before the first call a front stands for no answers
pub stands_first : (conn : ℕ) (configs : List Configuration) (h : History) (calls : Calls) (s : Served)
    → StandsAt configs h s.machine → RunsTo s.rewriter calls → IsFrontList conn s []
stands_first conn configs h calls s st runs = record {
  configs = configs;
  before = h;
  earlier = calls;
  pieces = [];
  fit = tt;
  same = refl;
  stands = st;
  runs = runs;
}

-- an answer more, with its entries and its calls
piece_more : (conn : ℕ) (x : FrontAnswer) (entries : History) (calls : Calls) (s t : Served) (list : List FrontAnswer)
    → FitsPiece conn x entries calls
    → ((configs : List Configuration) (h : History) → StandsAt configs h s.machine
    → StandsAt configs (entries ++ h) t.machine)
    → ((h : Calls) → RunsTo s.rewriter h → RunsTo t.rewriter (calls ++ h))
    → IsFrontList conn s list → IsFrontList conn t (list ++ x ∷ [])
piece_more conn x entries calls s t list fit stands runs l = record {
  configs = l.configs;
  before = l.before;
  earlier = l.earlier;
  pieces = record { answer = x; entries = entries; calls = calls } ∷ l.pieces;
  fit = (fit, l.fit);
  same = ap (λ (xs : List FrontAnswer). xs ++ x ∷ []) l.same;
  stands = subst (λ h. StandsAt l.configs h t.machine) (sym (append_assoc entries (entries_of l.pieces) (l.before)))
      (stands l.configs (entries_of l.pieces ++ l.before) l.stands);
  runs = subst (RunsTo t.rewriter) (sym (append_assoc calls (calls_of l.pieces) (l.earlier)))
      (runs (calls_of l.pieces ++ l.earlier) l.runs);
}

-- a rewriter that is left
runs_left : (a b : Option RewriteState) → b ≡ a → (h : Calls) → RunsTo a h → RunsTo b h
runs_left a b e h r = subst (λ o. RunsTo o h) (sym e) r

-- an answer without entries, of a call that leaves the state
quiet : (conn : ℕ) (x : FrontAnswer) (s t : Served) (list : List FrontAnswer) → FitsPiece conn x [] []
    → IsSame t.machine s.machine → t.rewriter ≡ s.rewriter → IsFrontList conn s list
    → IsFrontList conn t (list ++ x ∷ [])
quiet conn x s t list fit is left l =
    piece_more conn x [] [] s t list fit (λ configs h st. stands_at_same configs h s.machine t.machine is st)
    (runs_left s.rewriter t.rewriter left) l

-- an answer with the entry of its call
noted : (conn : ℕ) (x : FrontAnswer) (now : ℕ) (e : Event) (s t : Served) (list : List FrontAnswer)
    → FitsPiece conn x (entry_at now e told.Fine ∷ []) [] → IsNext s.machine now e told.Fine t.machine
    → t.rewriter ≡ s.rewriter → IsFrontList conn s list → IsFrontList conn t (list ++ x ∷ [])
noted conn x now e s t list fit by left l =
    piece_more conn x (entry_at now e told.Fine ∷ []) [] s t list fit (λ configs h st. by.stands configs h st)
    (runs_left s.rewriter t.rewriter left) l

-- the opening
opened_stands : (conn : ℕ) (a : Address) (port : ℕ) (o : Opened) (v w : HubState) (list : List FrontAnswer)
    → OpensBy (event.Open conn a port) o v w.machine → w.rewriter ≡ v.rewriter → IsFrontList conn (served_by v) list
    → IsFrontList conn (served_by w) (list ++ OfOpen a port o ∷ [])
opened_stands conn a port opened.In v w list by left l = noted conn (OfOpen a port opened.In) (machine_now v)
    (event.Open conn a port) (served_by v) (served_by w) list ((machine_now v, refl), refl) by left l
opened_stands conn a port opened.Full v w list by left l =
    quiet conn (OfOpen a port opened.Full) (served_by v) (served_by w) list (refl, refl) by.1 left l
opened_stands conn a port (opened.Refused why) v w list by left l =
    quiet conn (OfOpen a port (opened.Refused why)) (served_by v) (served_by w) list (refl, refl) by.1 left l
opened_stands conn a port opened.JournalFault v w list by left l =
    quiet conn (OfOpen a port opened.JournalFault) (served_by v) (served_by w) list (refl, refl) by left l
opened_stands conn a port opened.WantOfMemory v w list by left l =
    quiet conn (OfOpen a port opened.WantOfMemory) (served_by v) (served_by w) list (refl, refl) by left l

-- the close
closed_stands : (conn : ℕ) (x : Result (Unit {0}) CloseFault) (v w : HubState) (list : List FrontAnswer)
    → ClosesBy (event.Close conn) x v w.machine → w.rewriter ≡ v.rewriter → IsFrontList conn (served_by v) list
    → IsFrontList conn (served_by w) (list ++ OfClose x ∷ [])
closed_stands conn (Ok u) v w list by left l = noted conn (OfClose (Ok u)) (machine_now v) (event.Close conn)
    (served_by v) (served_by w) list ((machine_now v, refl), refl) by left l
closed_stands conn (Err (close.Refused why)) v w list by left l =
    quiet conn (OfClose (Err (close.Refused why))) (served_by v) (served_by w) list (refl, refl) by.1 left l
closed_stands conn (Err close.JournalFault) v w list by left l =
    quiet conn (OfClose (Err close.JournalFault)) (served_by v) (served_by w) list (refl, refl) by left l
closed_stands conn (Err close.WantOfMemory) v w list by left l =
    quiet conn (OfClose (Err close.WantOfMemory)) (served_by v) (served_by w) list (refl, refl) by left l

-- an answer more, which refuses only where the count of refusals rose
counted : (x : FrontAnswer) (g h : ℕ) (list : List FrontAnswer) → g ≤ h → (h ≡ 0 → is_unrefused x ≡ true)
    → AreUnrefused g list → AreUnrefused h (list ++ x ∷ [])
counted x g h list later fine old none =
    list_all-append is_unrefused list (x ∷ []) ∙ rw (old (omega (arith, later, none)), fine none) refl

rose_some : (g h : ℕ) → Rose g h → h ≡ 0 → ⊥
rose_some g h r none = omega (arith, r, none)

-- a step from what a front stood for before a call of its hub
pub stands_by : (conn : ℕ) (P : HubState → HubState → Type 0) (a b : Option HubState) (g h : ℕ)
    (before now : List FrontAnswer)
    → ((v w : HubState) → P v w → IsFrontList conn (served_by v) before → IsFrontList conn (served_by w) now)
    → ((v w : HubState) → P v w → AreUnrefused g before → AreUnrefused h now)
    → Tells P a b → FrontStands conn (served_told a) g before → FrontStands conn (served_told b) h now
stands_by conn P None b g h before now f k p st = absurd st
stands_by conn P (Some v) b g h before now f k p st = subst (λ o. FrontStands conn (served_told o) h now) (sym p.1)
    (f v p.0 p.2 st.0, k v p.0 p.2 st.1)

open_fine : (g h : ℕ) (a : Address) (port : ℕ) (o : Opened) → OpenRefuses g h o → h ≡ 0
    → is_unrefused (OfOpen a port o) ≡ true
open_fine g h a port opened.In r none = refl
open_fine g h a port opened.Full r none = absurd (rose_some g h r none)
open_fine g h a port (opened.Refused why) r none = absurd (rose_some g h r none)
open_fine g h a port opened.JournalFault r none = absurd (rose_some g h r none)
open_fine g h a port opened.WantOfMemory r none = refl

pub stands_open : (conn : ℕ) (addr : Address) (port : ℕ) (o : Opened) (a b : Option HubState) (g h : ℕ)
    (list : List FrontAnswer)
    → Tells (Opens conn addr port o) a b → g ≤ h → OpenRefuses g h o → FrontStands conn (served_told a) g list
    → FrontStands conn (served_told b) h (list ++ OfOpen addr port o ∷ [])
stands_open conn addr port o a b g h list p later refuses st =
    stands_by conn (Opens conn addr port o) a b g h list (list ++ OfOpen addr port o ∷ [])
    (λ v w by l. opened_stands conn addr port o v w list by.opens by.rewriter l)
    (λ v w by. counted (OfOpen addr port o) g h list later (open_fine g h addr port o refuses)) p st

-- what a hub refuses, as the front's answer
pub open_refuses : (g h : ℕ) (fault : HubFault) → IsRefusal g h fault → OpenRefuses g h (opened_of fault)
open_refuses g h (Refused (refusal.ConnInUse n)) r = r
open_refuses g h (Refused (refusal.UnknownConn n)) r = r
open_refuses g h (Refused (refusal.TooManyConns n)) r = r
open_refuses g h (Refused (refusal.CheckOpen n)) r = r
open_refuses g h (Refused (refusal.UnknownCheck n)) r = r
open_refuses g h (Refused (refusal.NotDone n)) r = r
open_refuses g h (Refused (refusal.NoStartOpen e n)) r = r
open_refuses g h (Refused (refusal.UnknownProc n)) r = r
open_refuses g h (Refused (refusal.TooManyEpochs n)) r = r
open_refuses g h (Refused (refusal.Spent n)) r = r
open_refuses g h (Refused refusal.WantOfMemory) r = tt
open_refuses g h JournalFault r = r
open_refuses g h WantOfMemory r = tt

-- the entries of a question are a piece
question_fits : (configs : List Configuration) (h : History) (conn : ℕ) (r : HttpRequest) (d : Decided) (more : History)
    → FitsDecided configs h conn r d more → IsQuestion conn r d more
question_fits configs h conn r (decided.Record j) more fits = fits.0
question_fits configs h conn r (decided.Mismatch other) more fits = fits
question_fits configs h conn r (decided.Refused why) more fits = fits.0
question_fits configs h conn r decided.JournalFault more fits = fits
question_fits configs h conn r decided.WantOfMemory more fits = fits

-- the calls of a rewriter that went on by its processes
record Worked (a b : Option RewriteState) : Type 0 where
  pub calls : Calls
  pub on : list_all is_of_processes calls ≡ true
  pub runs : (h : Calls) → RunsTo a h → RunsTo b (calls ++ h)

-- these calls behind those that a state stands for
runs_to_more : (s : RewriteState) (b : Option RewriteState) (more h : Calls) → RunsOn more s
    → b ≡ Some (after_calls more s) → RunsTo (Some s) h → RunsTo b (more ++ h)
runs_to_more s b more h on is r =
    subst (λ o. RunsTo o (more ++ h)) (sym is) (
      r.0,
      runs_more r.0 h more r.1 (subst (RunsOn more) r.2 on),
      ap (after_calls more) r.2 ∙ state_more r.0 h more,
    )

worked : (a b : Option RewriteState) → Works a b → Worked a b
worked None b w = record { calls = []; on = refl; runs = λ h r. subst (λ o. RunsTo o h) (sym w) r }
worked (Some s) b w = record {
  calls = w.0;
  on = w.1;
  runs = λ h r. runs_to_more s b w.0 h w.2 w.3 r;
}

decided_stands : (conn : ℕ) (r : HttpRequest) (d : Decided) (v w : HubState) (list : List FrontAnswer)
    → Judges conn r d v w → IsFrontList conn (served_by v) list
    → IsFrontList conn (served_by w) (list ++ OfDecide r d ∷ [])
decided_stands conn r d v w list by l =
    let h = entries_of l.pieces ++ l.before in
    let behind = by.after l.configs h l.stands in
    let went = worked v.rewriter w.rewriter by.works in
    record {
      configs = l.configs;
      before = l.before;
      earlier = l.earlier;
      pieces = record { answer = OfDecide r d; entries = behind.more; calls = went.calls } ∷ l.pieces;
      fit = ((question_fits l.configs h conn r d behind.more behind.fits, went.on), l.fit);
      same = ap (λ (xs : List FrontAnswer). xs ++ OfDecide r d ∷ []) l.same;
      stands = subst (λ x. StandsAt l.configs x w.machine)
          (sym (append_assoc (behind.more) (entries_of l.pieces) (l.before))) behind.stands;
      runs = subst (RunsTo w.rewriter) (sym (append_assoc (went.calls) (calls_of l.pieces) (l.earlier)))
          (went.runs (calls_of l.pieces ++ l.earlier) l.runs);
    }

decide_fine : (g h : ℕ) (r : HttpRequest) (d : Decided) → IsOwn d → DecideRefuses g h d → h ≡ 0
    → is_unrefused (OfDecide r d) ≡ true
decide_fine g h r (decided.Record j) own f none = refl
decide_fine g h r (decided.Mismatch other) own f none = absurd own
decide_fine g h r (decided.Refused why) own f none = absurd (rose_some g h f none)
decide_fine g h r decided.JournalFault own f none = absurd (rose_some g h f none)
decide_fine g h r decided.WantOfMemory own f none = refl

pub stands_decide : (conn : ℕ) (r : HttpRequest) (d : Decided) (a b : Option HubState) (g h : ℕ)
    (list : List FrontAnswer)
    → Tells (Judges conn r d) a b → g ≤ h → DecideRefuses g h d → FrontStands conn (served_told a) g list
    → FrontStands conn (served_told b) h (list ++ OfDecide r d ∷ [])
stands_decide conn r d a b g h list p later refuses st =
    stands_by conn (Judges conn r d) a b g h list (list ++ OfDecide r d ∷ [])
    (λ v w by l. decided_stands conn r d v w list by l)
    (λ v w by. counted (OfDecide r d) g h list later (decide_fine g h r d by.own refuses)) p st

-- the calls of a question to the rewriter
record Rewrote (j : Judged) (said : Rewritten) (a b : Option RewriteState) : Type 0 where
  pub calls : Calls
  pub fits : IsRewritten j said calls
  pub runs : (h : Calls) → RunsTo a h → RunsTo b (calls ++ h)

said_by : (j : Judged) (said : Rewritten) (calls : Calls) → IsRewriting j said calls → IsRewritten j said calls
said_by j rewritten.Same calls r = inr r
said_by j (rewritten.New new) calls r = r
said_by j (rewritten.Redirect code url) calls r = r
said_by j rewritten.WantOfMemory calls r = absurd (never r.taken r.said_is)
  where
    never : (w : Rewriting) → rewritten.WantOfMemory ≡ rewritten_of w → ⊥
    never (rewriting.Same cause) e = cc
    never (rewriting.New new) e = cc
    never (rewriting.Redirect code url) e = cc

came_to : (j : Judged) (said : Rewritten) (s : RewriteState) (calls : Calls) → ComesTo j said s calls
    → IsRewritten j said calls
came_to j said s calls (WasTaken r) = said_by j said calls r
came_to j said s calls (WasRefused f e none is) = subst (λ x. IsRewritten j x calls) (sym is) (inl none)
came_to j said s calls (HadNoMemory none is) = subst (λ x. IsRewritten j x calls) (sym is) none

rewrote : (j : Judged) (said : Rewritten) (a b : Option RewriteState) → RewritesBy j said a b → Rewrote j said a b
rewrote j said None b r = record {
  calls = [];
  fits = subst (λ x. IsRewritten j x []) (sym r.0) (inl refl);
  runs = λ h x. subst (λ o. RunsTo o h) (sym r.1) x;
}
rewrote j said (Some s) b r = record {
  calls = r.0;
  fits = came_to j said s r.0 r.1;
  runs = λ h x. runs_to_more s b r.0 h r.2 r.3 x;
}

rewritten_stands : (conn : ℕ) (j : Judged) (said : Rewritten) (v w : HubState) (list : List FrontAnswer)
    → RewritesFor j said v w → IsFrontList conn (served_by v) list
    → IsFrontList conn (served_by w) (list ++ OfRewrite j said ∷ [])
rewritten_stands conn j said v w list by l =
    let h = entries_of l.pieces ++ l.before in
    let behind = by.adds l.configs h l.stands in
    let went = rewrote j said v.rewriter w.rewriter by.rewrites in
    record {
      configs = l.configs;
      before = l.before;
      earlier = l.earlier;
      pieces = record { answer = OfRewrite j said; entries = behind.0; calls = went.calls } ∷ l.pieces;
      fit = ((behind.1, went.fits), l.fit);
      same = ap (λ (xs : List FrontAnswer). xs ++ OfRewrite j said ∷ []) l.same;
      stands = subst (λ x. StandsAt l.configs x w.machine)
          (sym (append_assoc (behind.0) (entries_of l.pieces) (l.before))) behind.2;
      runs = subst (RunsTo w.rewriter) (sym (append_assoc (went.calls) (calls_of l.pieces) (l.earlier)))
          (went.runs (calls_of l.pieces ++ l.earlier) l.runs);
    }

pub stands_rewrite : (conn : ℕ) (j : Judged) (said : Rewritten) (a b : Option HubState) (g h : ℕ)
    (list : List FrontAnswer) → Tells (RewritesFor j said) a b → g ≤ h → FrontStands conn (served_told a) g list
    → FrontStands conn (served_told b) h (list ++ OfRewrite j said ∷ [])
stands_rewrite conn j said a b g h list p later st =
    stands_by conn (RewritesFor j said) a b g h list (list ++ OfRewrite j said ∷ [])
    (λ v w by l. rewritten_stands conn j said v w list by l)
    (λ v w by. counted (OfRewrite j said) g h list later (λ none. refl)) p st

-- a seat adds no entry: where the machine and the rewriter stay a front stands for one answer more
pub stands_sit : (conn : ℕ) (j : Judged) (x : Result (Unit {0}) SitFault) (m n : Option Served) (g h : ℕ)
    (list : List FrontAnswer) → n ≡ m → g ≤ h → FrontStands conn m g list
    → FrontStands conn n h (list ++ OfSit j x ∷ [])
stands_sit conn j x None n g h list e later st = absurd st
stands_sit conn j x (Some s) n g h list e later st =
    subst (λ o. FrontStands conn o h (list ++ OfSit j x ∷ [])) (sym e) (
      piece_more conn (OfSit j x) [] [] s s list (refl, refl) (λ configs k y. y) (λ k y. y) st.0,
      counted (OfSit j x) g h list later (λ none. refl) st.1,
    )

-- where they stay otherwise, for the same
pub stands_on : (conn : ℕ) (m n : Option Served) (g h : ℕ) (list : List FrontAnswer) → n ≡ m → g ≤ h
    → FrontStands conn m g list → FrontStands conn n h list
stands_on conn None n g h list e later st = absurd st
stands_on conn (Some s) n g h list e later st = subst (λ o. FrontStands conn o h list) (sym e)
    (st.0, λ none. st.1 (omega (arith, later, none)))

close_fine : (g h : ℕ) (c : Result (Unit {0}) CloseFault) → CloseRefuses g h c → h ≡ 0 → is_unrefused (OfClose c) ≡ true
close_fine g h (Ok u) r none = refl
close_fine g h (Err (close.Refused why)) r none = absurd (rose_some g h r none)
close_fine g h (Err close.JournalFault) r none = absurd (rose_some g h r none)
close_fine g h (Err close.WantOfMemory) r none = refl

pub close_refuses : (g h : ℕ) (fault : HubFault) → IsRefusal g h fault → CloseRefuses g h (Err (unclosed_of fault))
close_refuses g h (Refused (refusal.ConnInUse n)) r = r
close_refuses g h (Refused (refusal.UnknownConn n)) r = r
close_refuses g h (Refused (refusal.TooManyConns n)) r = r
close_refuses g h (Refused (refusal.CheckOpen n)) r = r
close_refuses g h (Refused (refusal.UnknownCheck n)) r = r
close_refuses g h (Refused (refusal.NotDone n)) r = r
close_refuses g h (Refused (refusal.NoStartOpen e n)) r = r
close_refuses g h (Refused (refusal.UnknownProc n)) r = r
close_refuses g h (Refused (refusal.TooManyEpochs n)) r = r
close_refuses g h (Refused (refusal.Spent n)) r = r
close_refuses g h (Refused refusal.WantOfMemory) r = tt
close_refuses g h JournalFault r = r
close_refuses g h WantOfMemory r = tt

pub stands_close : (conn : ℕ) (x : Result (Unit {0}) CloseFault) (a b : Option HubState) (g h : ℕ)
    (list : List FrontAnswer)
    → Tells (Closes conn x) a b → g ≤ h → CloseRefuses g h x → FrontStands conn (served_told a) g list
    → FrontStands conn (served_told b) h (list ++ OfClose x ∷ [])
stands_close conn x a b g h list p later refuses st =
    stands_by conn (Closes conn x) a b g h list (list ++ OfClose x ∷ [])
    (λ v w by l. closed_stands conn x v w list by.closes by.rewriter l)
    (λ v w by. counted (OfClose x) g h list later (close_fine g h x refuses)) p st

-- the machine and the rewriter of a call that leaves them
served_same : (v w : HubState) → w.machine ≡ v.machine → w.rewriter ≡ v.rewriter → served_by w ≡ served_by v
served_same v w m r = rw (m, r) refl

pub served_kept : (P : HubState → HubState → Type 0) (a b : Option HubState)
    → ((v w : HubState) → P v w → LeavesMachine v w) → Tells P a b → served_told b ≡ served_told a
served_kept P None b f p = ap served_told p
served_kept P (Some v) b f p =
    let left = f v p.0 p.2 in
    ap served_told p.1 ∙ ap (λ s. Some s) (served_same v p.0 left.machine left.rewriter)

-- a front that was made over a hub
pub first_told : (conn : ℕ) (o : Option HubState) (refused : ℕ)
    → IfSome o (λ v. (configs : List Configuration) (h : History) (calls : Calls) → StandsAt configs h v.machine
    → RunsTo v.rewriter calls → FrontStands conn (served_told o) refused [])
first_told conn None refused = tt
first_told conn (Some v) refused = λ configs h calls st runs.
    (stands_first conn configs h calls (served_by v) st runs, λ none. refl)
