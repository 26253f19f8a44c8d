-- The state of a rewriter and the status of each question agree, and each call keeps that.
use Rattle.std.proofs.Common.{◌≡◌, ◌∙◌, ◌==◌, ◌&&◌, ◌||◌, ◌<◌, ◌++◌, ◌-◌, not, cond, Bool, true, false, ℕ, suc, List, [], ◌∷◌, map, Option, None, Some, if◌then◌else◌, refl, ap, sym, subst, arith}
use Rattle.std.specs.List.{list_any}
use Rattle.std.proofs.lemmas.Bool.Decides.{nat_tests}
use Rattle.sq_channel.proofs.RisingLaws.{if_false, if_true}
use Rattle.sq_base.specs.Addresses.{Address}
use Rattle.sq_base.specs.Requests.{HttpRequest}
use Rattle.sq_base.specs.declared.helpers.Cause.{Cause}
use Rattle.sq_base.specs.declared.helpers.Cause.TheVariants as cause
use Rattle.sq_base.specs.declared.helpers.Reply.{Reply}
use Rattle.sq_channel.specs.declared.replies.Got.{Got}
use Rattle.sq_channel.specs.declared.replies.Got.TheVariants as got
use Rattle.sq_machine.specs.Channels.{is_open, opened}
use Rattle.sq_machine.specs.Farms.{Waiting, emptied, ended, is_last_start, waiting_number}
use Rattle.sq_machine.specs.Living.{is_target, living_number, sent, slots_in}
use Rattle.sq_machine.specs.Losses.{AreOfCause, Loss, lose_all}
use Rattle.sq_machine.specs.Rising.{AreBelow, Rises}
use Rattle.sq_rules.specs.Classes.{Class}
use Rattle.sq_rewrite.specs.Calls.{Call, Calls, Asked, Acted, Started, StartFailed, Wrote, Died, Took}
use Rattle.sq_rewrite.specs.Rewritings.{question_text, rewriting_of}
use Rattle.sq_rewrite.specs.States.{Answers, IsRun, RewriteState, act_due, after, after_acted, after_line, answered_by, begun, ended_in, handed, lost_rows, row_at, state_of, stops_after}
use Rattle.sq_rewrite.specs.Statuses.{Status, Unasked, Waits, IsAt, HasEnded, IsTaken, IsAtProcess, WaitsWith, once, once_acted, once_failed, once_lost, once_replied, once_sent, once_written, status}
use Rattle.sq_rewrite.specs.declared.acts.RewriteAct.{RewriteAct}
use Rattle.sq_rewrite.specs.declared.acts.RewriteAct.TheVariants as act
use Rattle.sq_rewrite.specs.declared.rewritings.Rewriting.{Rewriting}
use Rattle.sq_rewrite.specs.declared.rewritings.Rewriting.TheVariants as rewriting
use Rattle.sq_rewrite.specs.declared.rows.QuestionRow.{QuestionRow}
use Rattle.sq_rewrite.specs.declared.rows.QuestionRow.TheVariants as row
use Rattle.sq_rewrite.proofs.ActLaws.{SendIs, after_sent, due_send, due_start, start_kept}
use Rattle.sq_rewrite.proofs.FarmLaws.{last_start}
use Rattle.sq_rewrite.proofs.LostLaws.{cause_all, is_lost, lost_all, opened_any, row_lost}
use Rattle.sq_rewrite.proofs.OpenLaws.{below_more, below_started, below_without, numbers_replied, numbers_sent, open_replied, open_sent, open_started, open_without, replied_open, rises_started, rises_without}
use Rattle.sq_rewrite.proofs.RowLaws.{equal, itself, now_ended, row_ended, row_with, row_without}

-- what is known of a question of this status
abbrev pub row_of : Status → Option QuestionRow
row_of Unasked = None
row_of (Waits r addr) = Some (row.Open r)
row_of (IsAt r k) = Some (row.Open r)
row_of (HasEnded w) = Some (row.Ended w)
row_of IsTaken = None

-- its texts in the queue: one, where it waits
abbrev pub waiting_text : Status → List (List ℕ)
waiting_text Unasked = []
waiting_text (Waits r addr) = question_text r addr ∷ []
waiting_text (IsAt r k) = []
waiting_text (HasEnded w) = []
waiting_text IsTaken = []

-- it is open on process k
abbrev pub is_at : ℕ → Status → Bool
is_at k Unasked = false
is_at k (Waits r addr) = false
is_at k (IsAt r p) = k == p
is_at k (HasEnded w) = false
is_at k IsTaken = false

-- the texts of a question in a queue
abbrev pub texts_of : ℕ → List Waiting → List (List ℕ)
texts_of q [] = []
texts_of q (w ∷ queue) = if q == w.question then w.text ∷ texts_of q queue else texts_of q queue

-- the state agrees with the statuses
pub record Agrees (s : RewriteState) (st : ℕ → Status) : Type 0 where
  pub rows_are : (q : ℕ) → row_at q s.rows ≡ row_of (st q)
  pub queue_is : (q : ℕ) → texts_of q s.stock.queue ≡ waiting_text (st q)
  pub open_is : (k q : ℕ) → is_open q (slots_in k s.stock.procs) ≡ is_at k (st q)
  pub none_lost : s.stock.losses ≡ []
  pub new_are : (q : ℕ) → s.asked < q → st q ≡ Unasked
  pub rises : Rises (map living_number s.stock.procs)
  pub below : AreBelow (suc s.started) (map living_number s.stock.procs)

-- for the state at the beginning
agrees_begun : (c : Class) → Agrees (begun c) (λ q. Unasked)
agrees_begun c = record {
  rows_are = λ q. refl;
  queue_is = λ q. refl;
  open_is = λ k q. refl;
  none_lost = refl;
  new_are = λ q l. refl;
  rises = tt;
  below = tt;
}

-- after a question was put
texts_push : (q : ℕ) (w : Waiting) (queue : List Waiting)
    → texts_of q (queue ++ w ∷ []) ≡ (if q == w.question then texts_of q queue ++ w.text ∷ [] else texts_of q queue)
texts_push q w [] = refl
texts_push q w (v ∷ queue) = by_tests (q == v.question) (q == w.question) (texts_push q w queue)
  where
    by_tests : (a b : Bool)
        → texts_of q (queue ++ w ∷ []) ≡ (if b then texts_of q queue ++ w.text ∷ [] else texts_of q queue)
        → (if a then v.text ∷ texts_of q (queue ++ w ∷ []) else texts_of q (queue ++ w ∷ []))
        ≡ (if b then (if a then v.text ∷ texts_of q queue else texts_of q queue) ++ w.text ∷ []
        else (if a then v.text ∷ texts_of q queue else texts_of q queue))
    by_tests true true e = ap (λ l. v.text ∷ l) e
    by_tests true false e = ap (λ l. v.text ∷ l) e
    by_tests false b e = e

agrees_asked : (s : RewriteState) (st : ℕ → Status) (r : HttpRequest) (addr : Address) → Agrees s st
    → Agrees (after (Asked r addr (suc s.asked)) s) (λ q. if q == suc s.asked then Waits r addr else st q)
agrees_asked s st r addr a = record {
  rows_are = λ q. row_with q (suc s.asked) (row.Open r) s.rows
      ∙ rows_by (q == suc s.asked) (row_at q s.rows) (st q) (a.rows_are q);
  queue_is = λ q. texts_push q (record { question = suc s.asked; text = question_text r addr }) s.stock.queue
      ∙ queue_by (q == suc s.asked) (texts_of q s.stock.queue) (st q) (λ t. new q t) (a.queue_is q);
  open_is = λ k q. open_by k (q == suc s.asked) (is_open q (slots_in k s.stock.procs)) (st q) (λ t. new q t)
      (a.open_is k q);
  none_lost = a.none_lost;
  new_are = λ q l. if_false (q == suc s.asked) (Waits r addr) (st q) (above q l) ∙ a.new_are q (omega (arith, l));
  rises = a.rises;
  below = a.below;
}
  where
    above : (q : ℕ) → suc s.asked < q → (q == suc s.asked) ≡ false
    above q l = grind (arith, l)

    new : (q : ℕ) → (q == suc s.asked) ≡ true → st q ≡ Unasked
    new q t = let same = equal q (suc s.asked) t in a.new_are q (omega (arith, same))

    rows_by : (b : Bool) (o : Option QuestionRow) (x : Status) → o ≡ row_of x
        → cond b (Some (row.Open r)) o ≡ row_of (if b then Waits r addr else x)
    rows_by true o x e = refl
    rows_by false o x e = e

    queue_by : (b : Bool) (l : List (List ℕ)) (x : Status) → (b ≡ true → x ≡ Unasked) → l ≡ waiting_text x
        → (if b then l ++ question_text r addr ∷ [] else l) ≡ waiting_text (if b then Waits r addr else x)
    queue_by true l x new e = ap (λ z. z ++ question_text r addr ∷ []) (e ∙ ap waiting_text (new refl))
    queue_by false l x new e = e

    open_by : (k : ℕ) (b o : Bool) (x : Status) → (b ≡ true → x ≡ Unasked) → o ≡ is_at k x
        → o ≡ is_at k (if b then Waits r addr else x)
    open_by k true o x new e = e ∙ ap (is_at k) (new refl)
    open_by k false o x new e = e

-- after a stop, and after a start
agrees_kept : (s s' : RewriteState) (st : ℕ → Status) → s'.rows ≡ s.rows → s'.stock.queue ≡ s.stock.queue
    → s'.stock.procs ≡ s.stock.procs → s'.stock.losses ≡ s.stock.losses
    → s'.asked ≡ s.asked → s'.started ≡ s.started → Agrees s st → Agrees s' st
agrees_kept s s' st r q p l n k a = record {
  rows_are = λ x. ap (row_at x) r ∙ a.rows_are x;
  queue_is = λ x. ap (texts_of x) q ∙ a.queue_is x;
  open_is = λ j x. ap (λ z. is_open x (slots_in j z)) p ∙ a.open_is j x;
  none_lost = l ∙ a.none_lost;
  new_are = λ x m. a.new_are x (rw n at m);
  rises = rw p a.rises;
  below = rw (p, k) a.below;
}

-- the text at the front of a question's texts: it waits, and has no other
front_waits : (text : List ℕ) (l : List (List ℕ)) (x : Status) → text ∷ l ≡ waiting_text x → WaitsWith text x × (l ≡ [])
front_waits text l Unasked e = absurd cc
front_waits text l (Waits r addr) e =
    let t : text ≡ question_text r addr = cc in let n : l ≡ [] = cc in
    (record { request = r; addr = addr; waits = refl; text_is = t }, n)
front_waits text l (IsAt r k) e = absurd cc
front_waits text l (HasEnded w) e = absurd cc
front_waits text l IsTaken e = absurd cc

same_row : (k : ℕ) (x : Status) → row_of x ≡ row_of (once_sent k x)
same_row k Unasked = refl
same_row k (Waits r addr) = refl
same_row k (IsAt r p) = refl
same_row k (HasEnded w) = refl
same_row k IsTaken = refl

plain : (d : Bool) → ((d && true) || false) ≡ d
plain true = refl
plain false = refl

no_more : (d o : Bool) → ((d && false) || o) ≡ o
no_more true o = refl
no_more false o = refl

agrees_sent : (s : RewriteState) (st : ℕ → Status) (k q : ℕ) (channel : Option ℕ) (text : List ℕ) → Agrees s st
    → (t : SendIs s.stock k q channel text)
    → Agrees (record s { stock = record s.stock { queue = t.rest; procs = sent q s.stock.procs } })
    (λ x. if x == q then once_sent k (st x) else st x)
agrees_sent s st k q channel text a t = record {
  rows_are = λ x. a.rows_are x ∙ row_by (x == q) (st x);
  queue_is = λ x. queue_by (x == q) (st x) (texts_of x t.rest) (sym (ap (texts_of x) t.queue_is) ∙ a.queue_is x);
  open_is = λ j x. open_sent x j q s.stock.procs a.rises
      ∙ ap (λ o. (is_target j o && (x == q)) || is_open x (slots_in j s.stock.procs)) t.target_is
      ∙ open_by j (x == q) (st x) (is_open x (slots_in j s.stock.procs)) (λ e. front x e) (a.open_is j x);
  none_lost = a.none_lost;
  new_are = λ x l. new_by (x == q) (st x) (a.new_are x l);
  rises = rw (numbers_sent q s.stock.procs) a.rises;
  below = rw (numbers_sent q s.stock.procs) a.below;
}
  where
    first : (x : ℕ) → (if x == q then text ∷ texts_of x t.rest else texts_of x t.rest) ≡ waiting_text (st x)
    first x = sym (ap (texts_of x) t.queue_is) ∙ a.queue_is x

    front : (x : ℕ) → (x == q) ≡ true → WaitsWith text (st x)
    front x e = (front_waits text (texts_of x t.rest) (st x)
        (sym (if_true (x == q) (text ∷ texts_of x t.rest) (texts_of x t.rest) e) ∙ first x)).0

    row_by : (b : Bool) (y : Status) → row_of y ≡ row_of (if b then once_sent k y else y)
    row_by true y = same_row k y
    row_by false y = refl

    sent_text : (y : Status) → [] ≡ waiting_text (once_sent k y)
    sent_text Unasked = refl
    sent_text (Waits r addr) = refl
    sent_text (IsAt r p) = refl
    sent_text (HasEnded w) = refl
    sent_text IsTaken = refl

    queue_by : (b : Bool) (y : Status) (l : List (List ℕ)) → (if b then text ∷ l else l) ≡ waiting_text y
        → l ≡ waiting_text (if b then once_sent k y else y)
    queue_by true y l e = (front_waits text l y e).1 ∙ sent_text y
    queue_by false y l e = e

    open_by : (j : ℕ) (b : Bool) (y : Status) (o : Bool) → (b ≡ true → WaitsWith text y) → o ≡ is_at j y
        → (((j == k) && b) || o) ≡ is_at j (if b then once_sent k y else y)
    open_by j true y o w e =
        let f = w refl in
        ap (λ z. ((j == k) && true) || z) (e ∙ ap (is_at j) f.waits) ∙ plain (j == k)
        ∙ sym (ap (λ z. is_at j (once_sent k z)) f.waits)
    open_by j false y o w e = no_more (j == k) o ∙ e

    new_by : (b : Bool) (y : Status) → y ≡ Unasked → (if b then once_sent k y else y) ≡ Unasked
    new_by true y e = ap (once_sent k) e
    new_by false y e = e

agrees_acted : (s : RewriteState) (st : ℕ → Status) (a : RewriteAct) → Agrees s st → act_due s ≡ Some a
    → Agrees (after_acted a s) (λ q. once_acted q a (st q))
agrees_acted s st (act.Stop k) g e = agrees_kept s (after_acted (act.Stop k) s) st refl refl refl refl refl refl g
agrees_acted s st (act.Send k q channel text) g e =
    let t = due_send s k q channel text e in
    subst (λ v. Agrees (record s { stock = v }) (λ x. once_acted x (act.Send k q channel text) (st x)))
    (sym (after_sent s.stock k q channel text t)) (agrees_sent s st k q channel text g t)
agrees_acted s st act.Start g e =
    let k = start_kept s.stock (due_start s e) in
    agrees_kept s (after_acted act.Start s) st refl k.0 k.1 k.2 refl refl g

-- for a send: its question waits, and this is its text
pub send_waits : (s : RewriteState) (st : ℕ → Status) (k q : ℕ) (channel : Option ℕ) (text : List ℕ) → Agrees s st
    → act_due s ≡ Some (act.Send k q channel text) → WaitsWith text (st q)
send_waits s st k q channel text a e =
    let t = due_send s k q channel text e in
    (front_waits text (texts_of q t.rest) (st q)
    (sym (ap (texts_of q) t.queue_is ∙ if_true (q == q) (text ∷ texts_of q t.rest) (texts_of q t.rest) (itself q))
    ∙ a.queue_is q)).0

-- after a start
agrees_started : (s : RewriteState) (st : ℕ → Status) → Agrees s st → Agrees (after (Started (suc s.started)) s) st
agrees_started s st a = record {
  rows_are = a.rows_are;
  queue_is = a.queue_is;
  open_is = λ k q. open_started q k s.stock.concurrency (suc s.started) s.stock.procs a.below ∙ a.open_is k q;
  none_lost = a.none_lost;
  new_are = a.new_are;
  rises = rises_started s.stock.concurrency (suc s.started) s.stock.procs a.below a.rises;
  below = below_started (suc (suc s.started)) s.stock.concurrency (suc s.started) s.stock.procs (omega arith)
      (below_more (suc s.started) (suc (suc s.started)) (map living_number s.stock.procs) (omega arith) a.below);
}

-- after the end of a process
agrees_ended : (s : RewriteState) (stops : List ℕ) (st : ℕ → Status) (c : Cause) (k : ℕ) → Agrees s st
    → Agrees (handed (record s { stock = ended c k s.stock; stops = stops })) (λ q. once_lost k c (st q))
agrees_ended s stops st c k a = record {
  rows_are = λ q. row_lost q c (lose_all c (opened (slots_in k s.stock.procs)) s.stock.losses) s.rows
      (cause_all c (opened (slots_in k s.stock.procs)) s.stock.losses (none_of s.stock.losses a.none_lost))
      ∙ rows_by q (is_lost q (lose_all c (opened (slots_in k s.stock.procs)) s.stock.losses)) (row_at q s.rows) (st q)
      (lost_is q) (a.rows_are q);
  queue_is = λ q. a.queue_is q ∙ same_text (st q);
  open_is = λ j q. open_without q j k s.stock.procs
      ∙ open_by j (st q) (is_open q (slots_in j s.stock.procs)) (a.open_is j q);
  none_lost = refl;
  new_are = λ q l. ap (once_lost k c) (a.new_are q l);
  rises = rises_without k s.stock.procs a.rises;
  below = below_without (suc s.started) k s.stock.procs a.below;
}
  where
    none_of : (ls : List Loss) → ls ≡ [] → AreOfCause c ls
    none_of [] e = tt
    none_of (l ∷ ls) e = absurd cc

    or_none : (b : Bool) → (b || false) ≡ b
    or_none true = refl
    or_none false = refl

    lost_is : (q : ℕ) → is_lost q (lose_all c (opened (slots_in k s.stock.procs)) s.stock.losses) ≡ is_at k (st q)
    lost_is q = lost_all q c (opened (slots_in k s.stock.procs)) s.stock.losses
        ∙ ap (λ ls. list_any (λ p. q == p) (opened (slots_in k s.stock.procs)) || is_lost q ls) a.none_lost
        ∙ or_none (list_any (λ p. q == p) (opened (slots_in k s.stock.procs))) ∙ opened_any q (slots_in k s.stock.procs)
        ∙ a.open_is k q

    row_by : (r : HttpRequest) (p : ℕ) (z : Bool)
        → cond z (Some (row.Ended (rewriting.Same (Some c)))) (Some (row.Open r))
        ≡ row_of (if z then HasEnded (rewriting.Same (Some c)) else IsAt r p)
    row_by r p true = refl
    row_by r p false = refl

    text_by : (r : HttpRequest) (p : ℕ) (z : Bool)
        → [] ≡ waiting_text (if z then HasEnded (rewriting.Same (Some c)) else IsAt r p)
    text_by r p true = refl
    text_by r p false = refl

    no_by : (z o : Bool) → o ≡ false → (if z then false else o) ≡ false
    no_by true o e = refl
    no_by false o e = e

    rows_by : (q : ℕ) (b : Bool) (o : Option QuestionRow) (x : Status) → b ≡ is_at k x → o ≡ row_of x
        → cond b (now_ended (rewriting.Same (Some c)) o) o ≡ row_of (once_lost k c x)
    rows_by q b o Unasked d e = rw (d, e) refl
    rows_by q b o (Waits r addr) d e = rw (d, e) refl
    rows_by q b o (IsAt r p) d e = rw (d, e) (row_by r p (k == p))
    rows_by q b o (HasEnded w) d e = rw (d, e) refl
    rows_by q b o IsTaken d e = rw (d, e) refl

    same_text : (x : Status) → waiting_text x ≡ waiting_text (once_lost k c x)
    same_text Unasked = refl
    same_text (Waits r addr) = refl
    same_text (IsAt r p) = text_by r p (k == p)
    same_text (HasEnded w) = refl
    same_text IsTaken = refl

    no_other : (j : ℕ) (o : Bool) → o ≡ false → (if j == k then false else o) ≡ false
    no_other j o e = no_by (j == k) o e

    apart : (j p : ℕ) → (k == p) ≡ true → (j == k) ≡ false → (j == p) ≡ false
    apart j p t u = grind (arith, nat_tests, t, u)

    others : (j p : ℕ) → (k == p) ≡ false → (j == k) ≡ true → (j == p) ≡ false
    others j p t u = grind (arith, nat_tests, t, u)

    at_by : (j p : ℕ) (r : HttpRequest)
        → (if j == k then false else (j == p))
        ≡ is_at j (if k == p then HasEnded (rewriting.Same (Some c)) else IsAt r p)
    at_by j p r = (elim (k == p) as
        (λ y. (k == p) ≡ y → (if j == k then false else (j == p))
        ≡ is_at j (if k == p then HasEnded (rewriting.Same (Some c)) else IsAt r p)) [
          | true ↦ λ t. (elim (j == k) as
              (λ y. (j == k) ≡ y → (if j == k then false else (j == p))
              ≡ is_at j (if k == p then HasEnded (rewriting.Same (Some c)) else IsAt r p)) [
                | true ↦ λ u. rw (t, u) refl
                | false ↦ λ u. rw (t, u) (apart j p t u)
              ]) refl
          | false ↦ λ t. (elim (j == k) as
              (λ y. (j == k) ≡ y → (if j == k then false else (j == p))
              ≡ is_at j (if k == p then HasEnded (rewriting.Same (Some c)) else IsAt r p)) [
                | true ↦ λ u. rw (t, u) (sym (others j p t u))
                | false ↦ λ u. rw (t, u) refl
              ]) refl
        ]) refl

    open_by : (j : ℕ) (x : Status) (o : Bool) → o ≡ is_at j x
        → (if j == k then false else o) ≡ is_at j (once_lost k c x)
    open_by j Unasked o e = no_other j o e
    open_by j (Waits r addr) o e = no_other j o e
    open_by j (IsAt r p) o e = ap (λ z. if j == k then false else z) e ∙ at_by j p r
    open_by j (HasEnded w) o e = no_other j o e
    open_by j IsTaken o e = no_other j o e

-- for a question whose status says that it is at a process
at_process : (k : ℕ) (x : Status) → is_at k x ≡ true → IsAtProcess k x
at_process k Unasked e = absurd cc
at_process k (Waits r addr) e = absurd cc
at_process k (IsAt r p) e = record { request = r; is_at = ap (IsAt r) (sym (equal k p e)) }
at_process k (HasEnded w) e = absurd cc
at_process k IsTaken e = absurd cc

-- for a reply: its question was sent to the process, and has not ended
pub reply_is : (s : RewriteState) (st : ℕ → Status) (k q : ℕ) (reply : Reply) (line : List ℕ) → Agrees s st
    → Answers (Wrote k line (got.Reply q reply)) s → IsAtProcess k (st q)
reply_is s st k q reply line a e = at_process k (st q) (sym (a.open_is k q) ∙ replied_open k q reply s.stock line e)

-- after a reply
none_kept : (z : Bool) → (if z then false else z) ≡ false
none_kept true = refl
none_kept false = refl

same_kept : (z o : Bool) → (if z then o else o) ≡ o
same_kept true o = refl
same_kept false o = refl

agrees_replied : (s : RewriteState) (st : ℕ → Status) (k p : ℕ) (reply : Reply) → Agrees s st → IsAtProcess k (st p)
    → Agrees (after_line k (got.Reply p reply) s) (λ q. if q == p then once_replied k reply (st q) else st q)
agrees_replied s st k p reply a i = record {
  rows_are = λ q. ap (λ ls. row_at q (lost_rows ls (answered_by p reply (row_at p s.rows) s.rows))) a.none_lost
      ∙ ap (λ o. row_at q (answered_by p reply o s.rows)) (a.rows_are p ∙ ap row_of i.is_at)
      ∙ row_ended q p (rewriting_of reply i.request) s.rows
      ∙ rows_by (q == p) (row_at q s.rows) (st q) (λ t. here q t) (a.rows_are q);
  queue_is = λ q. a.queue_is q ∙ text_by (q == p) (st q) (λ t. here q t);
  open_is = λ j q. open_replied q j k p s.stock.procs
      ∙ open_by j (q == p) (st q) (is_open q (slots_in j s.stock.procs)) (λ t. here q t) (a.open_is j q);
  none_lost = refl;
  new_are = λ q l. new_by (q == p) (st q) (a.new_are q l);
  rises = rw (numbers_replied k p s.stock.procs) a.rises;
  below = rw (numbers_replied k p s.stock.procs) a.below;
}
  where
    here : (q : ℕ) → (q == p) ≡ true → st q ≡ IsAt i.request k
    here q t = ap st (equal q p t) ∙ i.is_at

    ended : once_replied k reply (IsAt i.request k) ≡ HasEnded (rewriting_of reply i.request)
    ended = if_true (k == k) (HasEnded (rewriting_of reply i.request)) (IsAt i.request k) (itself k)

    rows_by : (b : Bool) (o : Option QuestionRow) (x : Status) → (b ≡ true → x ≡ IsAt i.request k) → o ≡ row_of x
        → cond b (now_ended (rewriting_of reply i.request) o) o ≡ row_of (if b then once_replied k reply x else x)
    rows_by true o x h e = ap (now_ended (rewriting_of reply i.request)) (e ∙ ap row_of (h refl))
        ∙ sym (ap (λ z. row_of (once_replied k reply z)) (h refl) ∙ ap row_of ended)
    rows_by false o x h e = e

    text_by : (b : Bool) (x : Status) → (b ≡ true → x ≡ IsAt i.request k)
        → waiting_text x ≡ waiting_text (if b then once_replied k reply x else x)
    text_by true x h = ap waiting_text (h refl)
        ∙ sym (ap (λ z. waiting_text (once_replied k reply z)) (h refl) ∙ ap waiting_text ended)
    text_by false x h = refl

    open_by : (j : ℕ) (b : Bool) (x : Status) (o : Bool) → (b ≡ true → x ≡ IsAt i.request k) → o ≡ is_at j x
        → (if j == k then (not b && o) else o) ≡ is_at j (if b then once_replied k reply x else x)
    open_by j true x o h e = ap (λ z. if j == k then false else z) (e ∙ ap (is_at j) (h refl)) ∙ none_kept (j == k)
        ∙ sym (ap (λ z. is_at j (once_replied k reply z)) (h refl) ∙ ap (is_at j) ended)
    open_by j false x o h e = same_kept (j == k) o ∙ e

    new_by : (b : Bool) (x : Status) → x ≡ Unasked → (if b then once_replied k reply x else x) ≡ Unasked
    new_by true x e = ap (once_replied k reply) e
    new_by false x e = e

agrees_written : (s : RewriteState) (st : ℕ → Status) (k : ℕ) (line : List ℕ) (g : Got) → Agrees s st
    → Answers (Wrote k line g) s → Agrees (after_line k g s) (λ q. once_written q k g (st q))
agrees_written s st k line (got.Reply p reply) a e = agrees_replied s st k p reply a (reply_is s st k p reply line a e)
agrees_written s st k line got.Bad a e = agrees_ended s (stops_after k got.Bad s.stops) st cause.BadReply k a
agrees_written s st k line got.Stray a e = agrees_ended s (stops_after k got.Stray s.stops) st cause.Stray k a

-- after a failed start
abbrev some_text : List (List ℕ) → Bool
some_text [] = false
some_text (t ∷ ts) = true

waiting_any : (q : ℕ) (queue : List Waiting)
    → list_any (λ p. q == p) (map waiting_number queue) ≡ some_text (texts_of q queue)
waiting_any q [] = refl
waiting_any q (w ∷ queue) = by_test (q == w.question) (waiting_any q queue)
  where
    by_test : (b : Bool) → list_any (λ p. q == p) (map waiting_number queue) ≡ some_text (texts_of q queue)
        → (b || list_any (λ p. q == p) (map waiting_number queue))
        ≡ some_text (if b then w.text ∷ texts_of q queue else texts_of q queue)
    by_test true e = refl
    by_test false e = e

-- the state after a start failed that was the last one, or was not
abbrev failed_by : Bool → RewriteState → RewriteState
failed_by b s = handed (record s
    { stock = let e = emptied b s.stock in record e { starting = s.stock.starting - 1; held = true } })

failed_last : (s : RewriteState) (st : ℕ → Status) → Agrees s st
    → Agrees (failed_by true s) (λ q. once_failed true (st q))
failed_last s st a = record {
  rows_are = λ q. row_lost q cause.NoHelper (lose_all cause.NoHelper (map waiting_number s.stock.queue) s.stock.losses)
      s.rows (cause_all cause.NoHelper (map waiting_number s.stock.queue) s.stock.losses
      (none_of s.stock.losses a.none_lost))
      ∙ rows_by (is_lost q (lose_all cause.NoHelper (map waiting_number s.stock.queue) s.stock.losses))
      (row_at q s.rows) (st q) (lost_is q) (a.rows_are q);
  queue_is = λ q. no_text (st q);
  open_is = λ k q. a.open_is k q ∙ same_at k (st q);
  none_lost = refl;
  new_are = λ q l. ap (once_failed true) (a.new_are q l);
  rises = a.rises;
  below = a.below;
}
  where
    none_of : (ls : List Loss) → ls ≡ [] → AreOfCause cause.NoHelper ls
    none_of [] e = tt
    none_of (l ∷ ls) e = absurd cc

    or_none : (b : Bool) → (b || false) ≡ b
    or_none true = refl
    or_none false = refl

    lost_is : (q : ℕ) → is_lost q (lose_all cause.NoHelper (map waiting_number s.stock.queue) s.stock.losses)
        ≡ some_text (waiting_text (st q))
    lost_is q = lost_all q cause.NoHelper (map waiting_number s.stock.queue) s.stock.losses
        ∙ ap (λ ls. list_any (λ p. q == p) (map waiting_number s.stock.queue) || is_lost q ls) a.none_lost
        ∙ or_none (list_any (λ p. q == p) (map waiting_number s.stock.queue)) ∙ waiting_any q s.stock.queue
        ∙ ap some_text (a.queue_is q)

    rows_by : (b : Bool) (o : Option QuestionRow) (x : Status) → b ≡ some_text (waiting_text x) → o ≡ row_of x
        → cond b (now_ended (rewriting.Same (Some cause.NoHelper)) o) o ≡ row_of (once_failed true x)
    rows_by b o Unasked d e = rw (d, e) refl
    rows_by b o (Waits r addr) d e = rw (d, e) refl
    rows_by b o (IsAt r p) d e = rw (d, e) refl
    rows_by b o (HasEnded w) d e = rw (d, e) refl
    rows_by b o IsTaken d e = rw (d, e) refl

    no_text : (x : Status) → [] ≡ waiting_text (once_failed true x)
    no_text Unasked = refl
    no_text (Waits r addr) = refl
    no_text (IsAt r p) = refl
    no_text (HasEnded w) = refl
    no_text IsTaken = refl

    same_at : (k : ℕ) (x : Status) → is_at k x ≡ is_at k (once_failed true x)
    same_at k Unasked = refl
    same_at k (Waits r addr) = refl
    same_at k (IsAt r p) = refl
    same_at k (HasEnded w) = refl
    same_at k IsTaken = refl

failed_one : (s : RewriteState) (st : ℕ → Status) → Agrees s st
    → Agrees (failed_by false s) (λ q. once_failed false (st q))
failed_one s st a = record {
  rows_are = λ q. ap (λ ls. row_at q (lost_rows ls s.rows)) a.none_lost ∙ a.rows_are q ∙ ap row_of (same (st q));
  queue_is = λ q. a.queue_is q ∙ ap waiting_text (same (st q));
  open_is = λ k q. a.open_is k q ∙ ap (is_at k) (same (st q));
  none_lost = refl;
  new_are = λ q l. sym (same (st q)) ∙ a.new_are q l;
  rises = a.rises;
  below = a.below;
}
  where
    same : (x : Status) → x ≡ once_failed false x
    same Unasked = refl
    same (Waits r addr) = refl
    same (IsAt r p) = refl
    same (HasEnded w) = refl
    same IsTaken = refl

agrees_failed : (s : RewriteState) (st : ℕ → Status) (b : Bool) → Agrees s st
    → Agrees (failed_by b s) (λ q. once_failed b (st q))
agrees_failed s st true a = failed_last s st a
agrees_failed s st false a = failed_one s st a

-- for what was taken: the question came to it
pub take_is : (s : RewriteState) (st : ℕ → Status) (q : ℕ) (w : Rewriting) → Agrees s st → Answers (Took q w) s
    → st q ≡ HasEnded w
take_is s st q w a e = by_status (st q) (sym (ap ended_in (a.rows_are q)) ∙ e)
  where
    by_status : (x : Status) → ended_in (row_of x) ≡ Some w → x ≡ HasEnded w
    by_status Unasked f = absurd cc
    by_status (Waits r addr) f = absurd cc
    by_status (IsAt r p) f = absurd cc
    by_status (HasEnded u) f = let g : u ≡ w = cc in ap HasEnded g
    by_status IsTaken f = absurd cc

-- after a question was taken
agrees_took : (s : RewriteState) (st : ℕ → Status) (p : ℕ) (w : Rewriting) → Agrees s st → st p ≡ HasEnded w
    → Agrees (after (Took p w) s) (λ q. if q == p then IsTaken else st q)
agrees_took s st p w a i = record {
  rows_are = λ q. row_without q p s.rows ∙ rows_by (q == p) (row_at q s.rows) (st q) (a.rows_are q);
  queue_is = λ q. a.queue_is q ∙ text_by (q == p) (st q) (λ t. here q t);
  open_is = λ k q. a.open_is k q ∙ open_by k (q == p) (st q) (λ t. here q t);
  none_lost = a.none_lost;
  new_are = λ q l. new_by (q == p) (st q) (λ t. here q t) (a.new_are q l);
  rises = a.rises;
  below = a.below;
}
  where
    here : (q : ℕ) → (q == p) ≡ true → st q ≡ HasEnded w
    here q t = ap st (equal q p t) ∙ i

    rows_by : (b : Bool) (o : Option QuestionRow) (x : Status) → o ≡ row_of x
        → cond b None o ≡ row_of (if b then IsTaken else x)
    rows_by true o x e = refl
    rows_by false o x e = e

    text_by : (b : Bool) (x : Status) → (b ≡ true → x ≡ HasEnded w)
        → waiting_text x ≡ waiting_text (if b then IsTaken else x)
    text_by true x h = ap waiting_text (h refl)
    text_by false x h = refl

    open_by : (k : ℕ) (b : Bool) (x : Status) → (b ≡ true → x ≡ HasEnded w)
        → is_at k x ≡ is_at k (if b then IsTaken else x)
    open_by k true x h = ap (is_at k) (h refl)
    open_by k false x h = refl

    ended_not : HasEnded w ≡ Unasked → ⊥
    ended_not e = cc

    new_by : (b : Bool) (x : Status) → (b ≡ true → x ≡ HasEnded w) → x ≡ Unasked → (if b then IsTaken else x) ≡ Unasked
    new_by true x h e = absurd (ended_not (sym (h refl) ∙ e))
    new_by false x h e = e

-- each call keeps the agreement
agrees_after : (s : RewriteState) (st : ℕ → Status) (e : Call) → Agrees s st → Answers e s
    → Agrees (after e s) (λ q. once (is_last_start s.stock) q e (st q))
agrees_after s st (Asked r addr q) a i = subst (λ p. Agrees (after (Asked r addr p) s)
    (λ x. if x == p then Waits r addr else st x)) (sym i.1) (agrees_asked s st r addr a)
agrees_after s st (Acted e) a i = agrees_acted s st e a i
agrees_after s st (Started k) a i = subst (λ p. Agrees (after (Started p) s) st) (sym i.1) (agrees_started s st a)
agrees_after s st StartFailed a i = agrees_failed s st (is_last_start s.stock) a
agrees_after s st (Wrote k line g) a i = agrees_written s st k line g a i
agrees_after s st (Died k) a i = agrees_ended s s.stops st cause.Died k a
agrees_after s st (Took q w) a i = agrees_took s st q w a (take_is s st q w a i)

-- for every list of calls: state and statuses agree
pub agree : (c : Class) (h : Calls) → IsRun c h → Agrees (state_of c h) (status h)
agree c [] run = agrees_begun c
agree c (e ∷ h) run = subst (λ b. Agrees (after e (state_of c h)) (λ q. once b q e (status h q)))
    (last_start c h run.1) (agrees_after (state_of c h) (status h) e (agree c h run.1) run.0)
