-- What every list of calls of a rewriter keeps, and what its calls need.
use Rattle.std.proofs.Common.{◌≡◌, ◌∙◌, ◌==◌, ◌≤◌, ◌<◌, Bool, true, false, ℕ, suc, List, [], ◌∷◌, Option, None, Some, IfNone, IfSome, if◌then◌else◌, is_some, refl, ap, sym, subst, arith}
use Rattle.std.specs.Option.{option_map}
use Rattle.sq_base.specs.Addresses.{Address}
use Rattle.sq_base.specs.Requests.{HttpRequest}
use Rattle.sq_base.specs.declared.helpers.Cause.{Cause}
use Rattle.sq_base.specs.declared.helpers.Cause.TheVariants as cause
use Rattle.sq_base.specs.declared.helpers.Reply.{Reply}
use Rattle.sq_channel.specs.declared.replies.Got.{Got}
use Rattle.sq_channel.specs.declared.replies.Got.TheVariants as got
use Rattle.sq_farm.specs.Acts.{act_by, act_of}
use Rattle.sq_farm.specs.declared.acts.FarmAct.{FarmAct}
use Rattle.sq_farm.specs.declared.acts.FarmAct.TheVariants as farm
use Rattle.sq_machine.specs.Farms.{Sending, Stock, Waiting, after_act, places, send_of, start_due, times_waiting}
use Rattle.sq_machine.specs.Living.{lives}
use Rattle.sq_machine.specs.Losses.{times_lost}
use Rattle.sq_rules.specs.Classes.{Class}
use Rattle.sq_rewrite.specs.Calls.{Call, Calls, Asked, Acted, Started, StartFailed, Wrote, Died, Took}
use Rattle.sq_rewrite.specs.Rewritings.{rewriting_of}
use Rattle.sq_rewrite.specs.States.{Answers, IsReached, IsRun, RewriteState, Rows, after, after_acted, as_act, due_by, ended_in, later_stops, proc_refusal, refusal_at, row_at, state_of, take_refusal, taken_of, without_row}
use Rattle.sq_rewrite.specs.Statuses.{Status, Unasked, Waits, IsAt, HasEnded, IsTaken, IsAtProcess, WaitsWith, is_known, is_last_open, once_acted, once_failed, once_lost, once_replied, once_sent, once_written, status, times_sent, times_taken}
use Rattle.sq_rewrite.specs.declared.acts.RewriteAct.TheVariants as act
use Rattle.sq_rewrite.specs.declared.faults.RewriteFault.TheVariants as fault
use Rattle.sq_rewrite.specs.declared.rewritings.Rewriting.{Rewriting}
use Rattle.sq_rewrite.specs.declared.rewritings.Rewriting.TheVariants as rewriting
use Rattle.sq_rewrite.specs.declared.rows.QuestionRow.{QuestionRow}
use Rattle.sq_rewrite.proofs.AgreeLaws.{Agrees, agree, is_at, reply_is, row_of, send_waits, take_is, texts_of, waiting_text}
use Rattle.sq_rewrite.proofs.OpenLaws.{none_lives, open_nowhere}
use Rattle.sq_rewrite.proofs.RowLaws.{equal}

-- what is taken is what the question came to
pub taken_law : (c : Class) (h : Calls) (q : ℕ) (w : Rewriting) → IsRun c (Took q w ∷ h) → status h q ≡ HasEnded w
taken_law c h q w run = take_is (state_of c h) (status h) q w (agree c h run.1) run.0

-- a question is known where it was asked and was not taken
pub known_law : (c : Class) (h : Calls) → IsRun c h → (q : ℕ)
    → take_refusal q (state_of c h) ≡ (if is_known (status h q) then None else Some (fault.UnknownQuestion q))
known_law c h run q = ap (refusal_at q) ((agree c h run).rows_are q) ∙ by_status (status h q)
  where
    by_status : (x : Status)
        → refusal_at q (row_of x) ≡ (if is_known x then None else Some (fault.UnknownQuestion q))
    by_status Unasked = refl
    by_status (Waits r addr) = refl
    by_status (IsAt r k) = refl
    by_status (HasEnded w) = refl
    by_status IsTaken = refl

pub replied_law : (c : Class) (h : Calls) (k q : ℕ) (line : List ℕ) (reply : Reply)
    → IsRun c (Wrote k line (got.Reply q reply) ∷ h) → IsAtProcess k (status h q)
replied_law c h k q line reply run = reply_is (state_of c h) (status h) k q reply line (agree c h run.1) run.0

pub sent_law : (c : Class) (h : Calls) (k q : ℕ) (channel : Option ℕ) (text : List ℕ)
    → IsRun c (Acted (act.Send k q channel text) ∷ h) → WaitsWith text (status h q)
sent_law c h k q channel text run = send_waits (state_of c h) (status h) k q channel text (agree c h run.1) run.0

-- how often a question of this status was sent, at most
abbrev most_sent : Status → ℕ
most_sent Unasked = 0
most_sent (Waits r addr) = 0
most_sent (IsAt r k) = 1
most_sent (HasEnded w) = 1
most_sent IsTaken = 1

-- and taken
abbrev most_taken : Status → ℕ
most_taken Unasked = 0
most_taken (Waits r addr) = 0
most_taken (IsAt r k) = 0
most_taken (HasEnded w) = 0
most_taken IsTaken = 1

-- no call lowers them, where a question is asked that was not
record NoLess (x y : Status) : Type 0 where
  sent : most_sent x ≤ most_sent y
  taken : most_taken x ≤ most_taken y

less_not : (x : Status) → NoLess x x
less_not x = record { sent = omega arith; taken = omega arith }

less_if : (b : Bool) (x y : Status) → NoLess x y → NoLess x (if b then y else x)
less_if true x y l = l
less_if false x y l = less_not x

less_lost : (k : ℕ) (c : Cause) (x : Status) → NoLess x (once_lost k c x)
less_lost k c Unasked = less_not Unasked
less_lost k c (Waits r addr) = less_not (Waits r addr)
less_lost k c (IsAt r p) = less_if (k == p) (IsAt r p) (HasEnded (rewriting.Same (Some c)))
    (record { sent = omega arith; taken = omega arith })
less_lost k c (HasEnded w) = less_not (HasEnded w)
less_lost k c IsTaken = less_not IsTaken

less_replied : (k : ℕ) (reply : Reply) (x : Status) → NoLess x (once_replied k reply x)
less_replied k reply Unasked = less_not Unasked
less_replied k reply (Waits r addr) = less_not (Waits r addr)
less_replied k reply (IsAt r p) = less_if (k == p) (IsAt r p) (HasEnded (rewriting_of reply r))
    (record { sent = omega arith; taken = omega arith })
less_replied k reply (HasEnded w) = less_not (HasEnded w)
less_replied k reply IsTaken = less_not IsTaken

less_written : (q k : ℕ) (g : Got) (x : Status) → NoLess x (once_written q k g x)
less_written q k (got.Reply p reply) x = less_if (q == p) x (once_replied k reply x) (less_replied k reply x)
less_written q k got.Bad x = less_lost k cause.BadReply x
less_written q k got.Stray x = less_lost k cause.Stray x

less_failed : (b : Bool) (x : Status) → NoLess x (once_failed b x)
less_failed b Unasked = less_not Unasked
less_failed b (Waits r addr) = less_if b (Waits r addr) (HasEnded (rewriting.Same (Some cause.NoHelper)))
    (record { sent = omega arith; taken = omega arith })
less_failed b (IsAt r p) = less_not (IsAt r p)
less_failed b (HasEnded w) = less_not (HasEnded w)
less_failed b IsTaken = less_not IsTaken

-- a question was sent and taken at most so often
record Counts (q : ℕ) (h : Calls) (x : Status) : Type 0 where
  sent : times_sent q h ≤ most_sent x
  taken : times_taken q h ≤ most_taken x

count_more : (q : ℕ) (h h' : Calls) (x y : Status) → times_sent q h' ≡ times_sent q h
    → times_taken q h' ≡ times_taken q h → NoLess x y → Counts q h x → Counts q h' y
count_more q h h' x y s t l n = record {
  sent = let a = n.sent in let b = l.sent in omega arith;
  taken = let a = n.taken in let b = l.taken in omega arith;
}

count_asked : (q : ℕ) (h : Calls) (b : Bool) (r : HttpRequest) (addr : Address) (p : ℕ) (x : Status)
    → (b ≡ true → x ≡ Unasked) → Counts q h x → Counts q (Asked r addr p ∷ h) (if b then Waits r addr else x)
count_asked q h true r addr p x new n = let a = ap most_sent (new refl) in let b = ap most_taken (new refl) in
    record { sent = let d = n.sent in omega arith; taken = let d = n.taken in omega arith }
count_asked q h false r addr p x new n = record { sent = n.sent; taken = n.taken }

count_sent : (q : ℕ) (h : Calls) (k p : ℕ) (channel : Option ℕ) (text : List ℕ) (x : Status)
    → ((q == p) ≡ true → WaitsWith text x) → Counts q h x
    → Counts q (Acted (act.Send k p channel text) ∷ h) (once_acted q (act.Send k p channel text) x)
count_sent q h k p channel text x w n = record { sent = sent_by (q == p) w; taken = taken_by (q == p) x n.taken }
  where
    sent_by : (b : Bool) → (b ≡ true → WaitsWith text x)
        → (if b then suc (times_sent q h) else times_sent q h) ≤ most_sent (if b then once_sent k x else x)
    sent_by true w =
        let f = w refl in let a = ap most_sent f.waits in let b = ap (λ z. most_sent (once_sent k z)) f.waits in
        let d = n.sent in omega arith
    sent_by false w = n.sent

    same_taken : (x : Status) → most_taken (once_sent k x) ≡ most_taken x
    same_taken Unasked = refl
    same_taken (Waits r addr) = refl
    same_taken (IsAt r p) = refl
    same_taken (HasEnded w) = refl
    same_taken IsTaken = refl

    taken_by : (b : Bool) (x : Status) → times_taken q h ≤ most_taken x
        → times_taken q h ≤ most_taken (if b then once_sent k x else x)
    taken_by true x l = let e = same_taken x in omega arith
    taken_by false x l = l

count_took : (q : ℕ) (h : Calls) (p : ℕ) (w : Rewriting) (x : Status) → ((q == p) ≡ true → x ≡ HasEnded w)
    → Counts q h x → Counts q (Took p w ∷ h) (if q == p then IsTaken else x)
count_took q h p w x e n = record { sent = sent_by (q == p) e; taken = taken_by (q == p) e }
  where
    sent_by : (b : Bool) → (b ≡ true → x ≡ HasEnded w) → times_sent q h ≤ most_sent (if b then IsTaken else x)
    sent_by true e = let a = ap most_sent (e refl) in let d = n.sent in omega arith
    sent_by false e = n.sent

    taken_by : (b : Bool) → (b ≡ true → x ≡ HasEnded w)
        → (if b then suc (times_taken q h) else times_taken q h) ≤ most_taken (if b then IsTaken else x)
    taken_by true e = let a = ap most_taken (e refl) in let d = n.taken in omega arith
    taken_by false e = n.taken

asked_above : (s : RewriteState) (q p : ℕ) → p ≡ suc s.asked → (q == p) ≡ true → s.asked < q
asked_above s q p next t = let same = equal q p t in omega arith

counts : (c : Class) (h : Calls) → IsRun c h → (q : ℕ) → Counts q h (status h q)
counts c [] run q = record { sent = omega arith; taken = omega arith }
counts c (Asked r addr p ∷ h) run q =
    count_asked q h (q == p) r addr p (status h q)
    (λ t. (agree c h run.1).new_are q (asked_above (state_of c h) q p run.0.1 t)) (counts c h run.1 q)
counts c (Acted (act.Stop k) ∷ h) run q = count_more q h (Acted (act.Stop k) ∷ h) (status h q) (status h q) refl
    refl (less_not (status h q)) (counts c h run.1 q)
counts c (Acted (act.Send k p channel text) ∷ h) run q =
    count_sent q h k p channel text (status h q) (λ t. rw (equal q p t) (sent_law c h k p channel text run))
    (counts c h run.1 q)
counts c (Acted act.Start ∷ h) run q = count_more q h (Acted act.Start ∷ h) (status h q) (status h q) refl refl
    (less_not (status h q)) (counts c h run.1 q)
counts c (Started k ∷ h) run q = count_more q h (Started k ∷ h) (status h q) (status h q) refl refl
    (less_not (status h q)) (counts c h run.1 q)
counts c (StartFailed ∷ h) run q =
    count_more q h (StartFailed ∷ h) (status h q) (once_failed (is_last_open h) (status h q))
    refl refl (less_failed (is_last_open h) (status h q)) (counts c h run.1 q)
counts c (Wrote k line g ∷ h) run q = count_more q h (Wrote k line g ∷ h) (status h q)
    (once_written q k g (status h q)) refl refl (less_written q k g (status h q)) (counts c h run.1 q)
counts c (Died k ∷ h) run q = count_more q h (Died k ∷ h) (status h q) (once_lost k cause.Died (status h q)) refl
    refl (less_lost k cause.Died (status h q)) (counts c h run.1 q)
counts c (Took p w ∷ h) run q = count_took q h p w (status h q) (λ t. rw (equal q p t) (taken_law c h p w run))
    (counts c h run.1 q)

few_sent : (x : Status) → most_sent x ≤ 1
few_sent Unasked = omega arith
few_sent (Waits r addr) = omega arith
few_sent (IsAt r k) = omega arith
few_sent (HasEnded w) = omega arith
few_sent IsTaken = omega arith

few_taken : (x : Status) → most_taken x ≤ 1
few_taken Unasked = omega arith
few_taken (Waits r addr) = omega arith
few_taken (IsAt r k) = omega arith
few_taken (HasEnded w) = omega arith
few_taken IsTaken = omega arith

pub sent_once_law : (c : Class) (h : Calls) → IsRun c h → (q : ℕ) → times_sent q h ≤ 1
sent_once_law c h run q = let n = (counts c h run q).sent in let f = few_sent (status h q) in omega arith

pub taken_once_law : (c : Class) (h : Calls) → IsRun c h → (q : ℕ) → times_taken q h ≤ 1
taken_once_law c h run q = let n = (counts c h run q).taken in let f = few_taken (status h q) in omega arith

no_texts : (q : ℕ) (queue : List Waiting) → texts_of q queue ≡ [] → times_waiting q queue ≡ 0
no_texts q [] e = refl
no_texts q (w ∷ queue) e = by_test (q == w.question) e (no_texts q queue)
  where
    by_test : (b : Bool) → (if b then w.text ∷ texts_of q queue else texts_of q queue) ≡ []
        → (texts_of q queue ≡ [] → times_waiting q queue ≡ 0)
        → (if b then suc (times_waiting q queue) else times_waiting q queue) ≡ 0
    by_test true e more = absurd cc
    by_test false e more = more e

-- for a state that is reached: the next numbers are new
new_place : (s : RewriteState) (st : ℕ → Status) → Agrees s st → places (suc s.asked) s.stock ≡ 0
new_place s st a =
    let q = suc s.asked in
    let new = a.new_are q (omega arith) in
    let w = no_texts q s.stock.queue (a.queue_is q ∙ ap waiting_text new) in
    let i = open_nowhere q s.stock.procs a.rises (λ k. a.open_is k q ∙ ap (is_at k) new) in
    let l = ap (times_lost q) a.none_lost in
    omega arith

pub reached_place : (s : RewriteState) → IsReached s → places (suc s.asked) s.stock ≡ 0
reached_place s r = rw r.state_is
    (new_place (state_of r.class r.calls) (status r.calls) (agree r.class r.calls r.run))

pub reached_row : (s : RewriteState) → IsReached s → row_at (suc s.asked) s.rows ≡ None
reached_row s r =
    let a = agree r.class r.calls r.run in
    rw r.state_is (a.rows_are (suc (state_of r.class r.calls).asked)
    ∙ ap row_of (a.new_are (suc (state_of r.class r.calls).asked) (omega arith)))

pub reached_proc : (s : RewriteState) → IsReached s → lives (suc s.started) s.stock.procs ≡ false
reached_proc s r = rw r.state_is
    (none_lives (suc (state_of r.class r.calls).started) (state_of r.class r.calls).stock.procs
    (agree r.class r.calls r.run).below)

-- for a call that has its answer: its state is reached too
pub reached_after : (e : Call) (s s' : RewriteState) → IsReached s → Answers e s → s' ≡ after e s → IsReached s'
reached_after e s s' r i is = record {
  class = r.class;
  calls = e ∷ r.calls;
  run = (rw r.state_is at i, r.run);
  state_is = is ∙ ap (after e) r.state_is;
}

pub reached_begun : (c : Class) → IsReached (state_of c [])
reached_begun c = record { class = c; calls = []; run = tt; state_is = refl }

-- for a question that has ended: what is taken of it
pub taken_row : (o : Option QuestionRow) (w : Rewriting) → option_map taken_of o ≡ Some (Some w) → ended_in o ≡ Some w
taken_row None w e = absurd cc
taken_row (Some r) w e = cc

-- for an act of the farm
pub farm_acted : (x : FarmAct) (s : RewriteState) → after_acted (as_act x) s ≡ record s { stock = after_act s.stock }
farm_acted (farm.Send k q channel text) s = refl
farm_acted farm.Start s = refl

-- for a farm of which no act is due
pub none_due : (v : Stock) → act_of v ≡ None → after_act v ≡ v
none_due v e = by_send (send_of v) (start_due v) refl refl e
  where
    by_send : (o : Option Sending) (b : Bool) → send_of v ≡ o → start_due v ≡ b → act_by o b ≡ None → after_act v ≡ v
    by_send None true s t f = absurd cc
    by_send None false s t f = rw (s, t) refl
    by_send (Some x) b s t f = absurd cc

-- for the next act of the farm, where no stop is due: its state is reached too
pub reached_acted : (s : RewriteState) → IsReached s → s.stops ≡ [] → IsReached (record s { stock = after_act s.stock })
reached_acted s r none = by_act (act_of s.stock) refl
  where
    by_act : (o : Option FarmAct) → act_of s.stock ≡ o → IsReached (record s { stock = after_act s.stock })
    by_act None e = subst (λ v. IsReached (record s { stock = v })) (sym (none_due s.stock e)) r
    by_act (Some x) e = reached_after (Acted (as_act x)) s (record s { stock = after_act s.stock }) r
        (ap (λ z. due_by z (act_of s.stock)) none ∙ ap (option_map as_act) e) (sym (farm_acted x s))

-- and what it leaves
pub acted_some : (s : RewriteState) (o : Option FarmAct)
    → IfSome (option_map as_act o) (λ a. record s { stock = after_act s.stock } ≡ after_acted a s)
acted_some s None = tt
acted_some s (Some x) = sym (farm_acted x s)

-- for a stop that is due: its state is reached too
pub reached_stop : (s : RewriteState) (k : ℕ) (ks : List ℕ) → IsReached s → s.stops ≡ k ∷ ks
    → IsReached (record s { stops = ks })
reached_stop s k ks r e = reached_after (Acted (act.Stop k)) s (record s { stops = ks }) r
    (ap (λ z. due_by z (act_of s.stock)) e) (ap (λ z. record s { stops = later_stops z }) (sym e))

-- for what was taken: its state is reached too
pub reached_took : (s : RewriteState) (q : ℕ) (w : Rewriting) (rows : Rows) → IsReached s
    → option_map taken_of (row_at q s.rows) ≡ Some (Some w) → rows ≡ without_row q s.rows
    → IsReached (record s { rows = rows })
reached_took s q w rows r e i = reached_after (Took q w) s (record s { rows = rows }) r
    (taken_row (row_at q s.rows) w e) (ap (λ z. record s { rows = z }) i)

-- for a process that lives: its death and its lines are noted
pub not_refused : (k : ℕ) (s : RewriteState) → lives k s.stock.procs ≡ true → proc_refusal k s ≡ None
not_refused k s e = rw e refl

-- for what a question came to, if it has ended: the state that is left is reached
pub reached_taking : (s : RewriteState) (q : ℕ) (o : Option (Option Rewriting)) (rows : Rows) → IsReached s
    → o ≡ option_map taken_of (row_at q s.rows)
    → IfSome o (λ w. rows ≡ (if is_some w then without_row q s.rows else s.rows)) → IfNone o (rows ≡ s.rows)
    → IsReached (record s { rows = rows })
reached_taking s q None rows r e t n = subst (λ z. IsReached (record s { rows = z })) (sym n) r
reached_taking s q (Some None) rows r e t n = subst (λ z. IsReached (record s { rows = z })) (sym t) r
reached_taking s q (Some (Some w)) rows r e t n = reached_took s q w rows r (sym e) t
