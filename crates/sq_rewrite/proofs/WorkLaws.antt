-- What calls behind a state come to, and what is taken of a question then.
use Rattle.std.proofs.Common.{◌≡◌, ◌∙◌, ◌==◌, ◌&&◌, ◌++◌, cond, Bool, true, false, ℕ, List, [], ◌∷◌, Option, None, Some, if◌then◌else◌, bytes_eq, codes, refl, ap, sym, subst}
use Rattle.std.proofs.lemmas.Slice.Eq.{bytes_eq-Decides}
use Rattle.std.specs.List.{list_all}
use Rattle.std.specs.Option.{option_map}
use Rattle.sq_base.specs.Addresses.{Address}
use Rattle.sq_base.specs.Requests.{HttpRequest}
use Rattle.sq_base.specs.Targets.{Target, target_of}
use Rattle.sq_base.specs.declared.helpers.Cause.TheVariants as cause
use Rattle.sq_base.specs.declared.helpers.Pair.{Pair}
use Rattle.sq_base.specs.declared.helpers.Reply.{Reply}
use Rattle.sq_base.specs.declared.helpers.Word.{Word}
use Rattle.sq_base.specs.declared.helpers.Word.TheVariants as word
use Rattle.sq_channel.specs.declared.replies.Got.{Got}
use Rattle.sq_channel.specs.declared.replies.Got.TheVariants as got
use Rattle.sq_farm.specs.Replies.{after_got}
use Rattle.sq_machine.specs.Farms.{ended, failed}
use Rattle.sq_machine.specs.Losses.{Loss}
use Rattle.sq_request.specs.Heads.{at_target, retargeted}
use Rattle.sq_rules.specs.Classes.{Class}
use Rattle.sq_rewrite.specs.Calls.{Call, Calls, Asked, Acted, Started, StartFailed, Wrote, Died, Took}
use Rattle.sq_rewrite.specs.Rewritings.{IsInPlaceOf, IsRedirect, MayBecome, chosen, code_by, code_named, is_redirect_code, is_url, new_request, plain_only, redirect_by, redirect_of, request_by, rewriting_by, rewriting_of, value_of}
use Rattle.sq_rewrite.specs.States.{Answers, IsRun, RewriteState, Rows, RunsOn, after, after_calls, answered_by, ended_in, ended_row, is_of_processes, lost_rows, refusal_at, row_at, rows_after, state_of, take_refusal, with_row}
use Rattle.sq_rewrite.specs.declared.acts.RewriteAct.TheVariants as act
use Rattle.sq_rewrite.specs.declared.faults.RewriteFault.{RewriteFault}
use Rattle.sq_rewrite.specs.declared.rewritings.Rewriting.{Rewriting}
use Rattle.sq_rewrite.specs.declared.rewritings.Rewriting.TheVariants as rewriting
use Rattle.sq_rewrite.specs.declared.rows.QuestionRow.{QuestionRow}
use Rattle.sq_rewrite.specs.declared.rows.QuestionRow.TheVariants as row
use Rattle.sq_rewrite.proofs.RowLaws.{equal, itself, now_ended, row_ended, row_with}

first_of : (a b : Bool) → (a && b) ≡ true → a ≡ true
first_of true b e = refl
first_of false b e = absurd cc

second_of : (a b : Bool) → (a && b) ≡ true → b ≡ true
second_of true b e = e
second_of false b e = absurd cc

-- calls behind those that a state stands for
pub state_more : (c : Class) (h more : Calls) → after_calls more (state_of c h) ≡ state_of c (more ++ h)
state_more c h [] = refl
state_more c h (e ∷ more) = ap (after e) (state_more c h more)

pub runs_more : (c : Class) (h more : Calls) → IsRun c h → RunsOn more (state_of c h) → IsRun c (more ++ h)
runs_more c h [] run on = run
runs_more c h (e ∷ more) run on = (subst (Answers e) (state_more c h more) on.0, runs_more c h more run on.1)

pub calls_more : (s : RewriteState) (first more : Calls)
    → after_calls more (after_calls first s) ≡ after_calls (more ++ first) s
calls_more s first [] = refl
calls_more s first (e ∷ more) = ap (after e) (calls_more s first more)

pub run_more : (s : RewriteState) (first more : Calls) → RunsOn first s → RunsOn more (after_calls first s)
    → RunsOn (more ++ first) s
run_more s first [] on later = on
run_more s first (e ∷ more) on later =
    (subst (Answers e) (calls_more s first more) later.0, run_more s first more on later.1)

-- a status that is named is one of a redirect
named_code : (name : List ℕ) (n : ℕ) → code_named name ≡ Some n → is_redirect_code n ≡ true
named_code name n e = by (bytes_eq name (codes "301")) (bytes_eq name (codes "302")) (bytes_eq name (codes "303"))
    (bytes_eq name (codes "307")) (bytes_eq name (codes "308")) e
  where
    by : (a b c d f : Bool)
        → (if a then Some 301 else (if b then Some 302 else (if c then Some 303 else (if d then Some 307
        else (if f then Some 308 else None))))) ≡ Some n → is_redirect_code n ≡ true
    by true b c d f e = let is : 301 ≡ n = cc in ap is_redirect_code (sym is)
    by false true c d f e = let is : 302 ≡ n = cc in ap is_redirect_code (sym is)
    by false false true d f e = let is : 303 ≡ n = cc in ap is_redirect_code (sym is)
    by false false false true f e = let is : 307 ≡ n = cc in ap is_redirect_code (sym is)
    by false false false false true e = let is : 308 ≡ n = cc in ap is_redirect_code (sym is)
    by false false false false false e = absurd cc

code_by_pair : (o : Option (List ℕ)) (n : ℕ) → code_by o ≡ Some n → is_redirect_code n ≡ true
code_by_pair None n e = let is : 302 ≡ n = cc in ap is_redirect_code (sym is)
code_by_pair (Some name) n e = named_code name n e

redirect_fits : (code : Option ℕ) (url : Option (List ℕ)) (p : ℕ × List ℕ)
    → ((n : ℕ) → code ≡ Some n → is_redirect_code n ≡ true) → redirect_by code url ≡ Some p → IsRedirect p.0 p.1
redirect_fits None url p f e = absurd cc
redirect_fits (Some n) None p f e = absurd cc
redirect_fits (Some n) (Some url) p f e = by (is_url url) refl e
  where
    by : (t : Bool) → is_url url ≡ t → (if t then Some (n, url) else None) ≡ Some p → IsRedirect p.0 p.1
    by true t e =
        let is : (n, url) ≡ p = cc in
        subst (λ (x : ℕ × List ℕ). IsRedirect x.0 x.1) is (record { code_is = f n refl; url_is = t })
    by false t e = absurd cc

-- a request with another target has all else
target_kept : (r : HttpRequest) (target : List ℕ) (new : HttpRequest) (o : Option Target)
    → option_map (at_target r.method target r.minor r.fields) o ≡ Some new
    → (new.method ≡ r.method) × (new.minor ≡ r.minor) × (new.fields ≡ r.fields)
target_kept r target new None e = absurd cc
target_kept r target new (Some t) e =
    let is : at_target r.method target r.minor r.fields t ≡ new = cc in
    (sym (ap HttpRequest.method is), sym (ap HttpRequest.minor is), sym (ap HttpRequest.fields is))

same_bytes : (xs ys : List ℕ) → bytes_eq xs ys ≡ true → xs ≡ ys
same_bytes xs ys e = (bytes_eq-Decides xs ys).0 e

plain_fits : (r : HttpRequest) (target : List ℕ) (new : HttpRequest) (o : Option HttpRequest)
    → retargeted r target ≡ o → plain_only o ≡ Some new → IsInPlaceOf r new
plain_fits r target new None e f = absurd cc
plain_fits r target new (Some x) e f = by (bytes_eq x.scheme (codes "http")) refl f
  where
    by : (t : Bool) → bytes_eq x.scheme (codes "http") ≡ t → (if t then Some x else None) ≡ Some new
        → IsInPlaceOf r new
    by true t g =
        let is : x ≡ new = cc in
        let k = target_kept r target x (target_of r.method target) e in
        subst (IsInPlaceOf r) is (record {
          method = k.0;
          minor = k.1;
          fields = k.2;
          scheme = same_bytes x.scheme (codes "http") t;
        })
    by false t g = absurd cc

request_fits : (r new : HttpRequest) (o : Option (List ℕ)) → request_by r o ≡ Some new → IsInPlaceOf r new
request_fits r new None e = absurd cc
request_fits r new (Some target) e = plain_fits r target new (retargeted r target) refl e

new_fits : (r new : HttpRequest) (pairs : List Pair) → new_request r pairs ≡ Some new → IsInPlaceOf r new
unfolding new_request
new_fits r new pairs e = by (bytes_eq r.method (codes "CONNECT")) e
  where
    by : (t : Bool) → (if t then None else request_by r (value_of (codes "rewrite-url") pairs)) ≡ Some new
        → IsInPlaceOf r new
    by true f = absurd cc
    by false f = request_fits r new (value_of (codes "rewrite-url") pairs) f

redirects : (pairs : List Pair) (p : ℕ × List ℕ) → redirect_of pairs ≡ Some p → IsRedirect p.0 p.1
unfolding redirect_of
redirects pairs p e = redirect_fits (code_by (value_of (codes "status") pairs)) (value_of (codes "url") pairs) p
    (λ n f. code_by_pair (value_of (codes "status") pairs) n f) e

chosen_fits : (r : HttpRequest) (o : Option (ℕ × List ℕ)) (new : Option HttpRequest)
    → ((p : ℕ × List ℕ) → o ≡ Some p → IsRedirect p.0 p.1)
    → ((x : HttpRequest) → new ≡ Some x → IsInPlaceOf r x) → MayBecome r (chosen o new)
chosen_fits r (Some p) new f k = f p refl
chosen_fits r None (Some x) f k = k x refl
chosen_fits r None None f k = tt

-- what a reply makes of a request may become of it
pub reply_fits : (reply : Reply) (r : HttpRequest) → MayBecome r (rewriting_of reply r)
reply_fits reply r = by reply.word
  where
    by : (w : Word) → MayBecome r (rewriting_by w reply.pairs r)
    by word.Yes = chosen_fits r (redirect_of reply.pairs) (new_request r reply.pairs) (redirects reply.pairs)
        (λ x e. new_fits r x reply.pairs e)
    by word.No = tt
    by word.Broken = tt

-- a question about this request is open, or has come to what may become of it
abbrev IsAbout : HttpRequest → Option QuestionRow → Type 0
IsAbout r None = ⊥
IsAbout r (Some (row.Open x)) = x ≡ r
IsAbout r (Some (row.Ended w)) = MayBecome r w

about_ended : (r : HttpRequest) (o : Option QuestionRow) (w : Rewriting) (b : Bool) → MayBecome r w → IsAbout r o
    → IsAbout r (cond b (now_ended w o) o)
about_ended r None w b m a = absurd a
about_ended r (Some x) w true m a = m
about_ended r (Some x) w false m a = a

about_lost : (r : HttpRequest) (q : ℕ) (ls : List Loss) (rows : Rows) → IsAbout r (row_at q rows)
    → IsAbout r (row_at q (lost_rows ls rows))
about_lost r q [] rows a = a
about_lost r q (l ∷ ls) rows a =
    about_lost r q ls (ended_row l.question (rewriting.Same (Some l.cause)) rows)
    (subst (IsAbout r) (sym (row_ended q l.question (rewriting.Same (Some l.cause)) rows))
    (about_ended r (row_at q rows) (rewriting.Same (Some l.cause)) (q == l.question) tt a))

about_answered : (r : HttpRequest) (q p : ℕ) (reply : Reply) (o : Option QuestionRow) (rows : Rows)
    → row_at p rows ≡ o → IsAbout r (row_at q rows) → IsAbout r (row_at q (answered_by p reply o rows))
about_answered r q p reply None rows e a = a
about_answered r q p reply (Some (row.Ended w)) rows e a = a
about_answered r q p reply (Some (row.Open x)) rows e a =
    subst (IsAbout r) (sym (row_ended q p (rewriting_of reply x) rows)) (by (q == p) refl)
  where
    same : (q == p) ≡ true → x ≡ r
    same t =
        let n = equal q p t in
        subst (IsAbout r) (ap (λ k. row_at k rows) n ∙ e) a

    by : (b : Bool) → (q == p) ≡ b
        → IsAbout r (cond b (now_ended (rewriting_of reply x) (row_at q rows)) (row_at q rows))
    by true t = about_ended r (row_at q rows) (rewriting_of reply x) true
        (subst (λ y. MayBecome r (rewriting_of reply y)) (sym (same t)) (reply_fits reply r)) a
    by false t = a

about_written : (r : HttpRequest) (q : ℕ) (g : Got) (rows : Rows) → IsAbout r (row_at q rows)
    → IsAbout r (row_at q (rows_after g rows))
about_written r q (got.Reply p reply) rows a = about_answered r q p reply (row_at p rows) rows refl a
about_written r q got.Bad rows a = a
about_written r q got.Stray rows a = a

-- a call that no question makes leaves it so
about_after : (r : HttpRequest) (q : ℕ) (e : Call) (s : RewriteState) → is_of_processes e ≡ true
    → IsAbout r (row_at q s.rows) → IsAbout r (row_at q (after e s).rows)
about_after r q (Asked x addr p) s on a = absurd cc
about_after r q (Acted (act.Stop k)) s on a = a
about_after r q (Acted (act.Send k p channel text)) s on a = a
about_after r q (Acted act.Start) s on a = a
about_after r q (Started k) s on a = a
about_after r q StartFailed s on a = about_lost r q (failed s.stock).losses s.rows a
about_after r q (Wrote k line g) s on a =
    about_lost r q (after_got k g s.stock).losses (rows_after g s.rows) (about_written r q g s.rows a)
about_after r q (Died k) s on a = about_lost r q (ended cause.Died k s.stock).losses s.rows a
about_after r q (Took p w) s on a = absurd cc

about_more : (r : HttpRequest) (q : ℕ) (more : Calls) (s : RewriteState) → list_all is_of_processes more ≡ true
    → IsAbout r (row_at q s.rows) → IsAbout r (row_at q (after_calls more s).rows)
about_more r q [] s on a = a
about_more r q (e ∷ more) s on a =
    about_after r q e (after_calls more s) (first_of (is_of_processes e) (list_all is_of_processes more) on)
    (about_more r q more s (second_of (is_of_processes e) (list_all is_of_processes more) on) a)

about_asked : (r : HttpRequest) (q : ℕ) (rows : Rows) → IsAbout r (row_at q (with_row q (row.Open r) rows))
about_asked r q rows = subst (IsAbout r) (sym (row_with q q (row.Open r) rows
    ∙ ap (λ b. cond b (Some (row.Open r)) (row_at q rows)) (itself q))) refl

about_taken : (r : HttpRequest) (o : Option QuestionRow) (w : Rewriting) → IsAbout r o → ended_in o ≡ Some w
    → MayBecome r w
about_taken r None w a e = absurd a
about_taken r (Some (row.Open x)) w a e = absurd cc
about_taken r (Some (row.Ended x)) w a e = let is : x ≡ w = cc in subst (MayBecome r) is a

-- what is taken of a question behind its asking is what may become of its request
pub taken_fits : (s : RewriteState) (r : HttpRequest) (addr : Address) (q : ℕ) (w : Rewriting) (more : Calls)
    → list_all is_of_processes more ≡ true → Answers (Took q w) (after_calls more (after (Asked r addr q) s))
    → MayBecome r w
taken_fits s r addr q w more on taken =
    about_taken r (row_at q (after_calls more (after (Asked r addr q) s)).rows) w
    (about_more r q more (after (Asked r addr q) s) on (about_asked r q s.rows)) taken

about_known : (r : HttpRequest) (q : ℕ) (o : Option QuestionRow) (f : RewriteFault) → IsAbout r o
    → refusal_at q o ≡ Some f → ⊥
about_known r q None f a e = a
about_known r q (Some x) f a e = absurd cc

-- and until then it is known
pub taken_known : (s : RewriteState) (r : HttpRequest) (addr : Address) (q : ℕ) (f : RewriteFault) (more : Calls)
    → list_all is_of_processes more ≡ true → take_refusal q (after_calls more (after (Asked r addr q) s)) ≡ Some f → ⊥
taken_known s r addr q f more on refused =
    about_known r q (row_at q (after_calls more (after (Asked r addr q) s)).rows) f
    (about_more r q more (after (Asked r addr q) s) on (about_asked r q s.rows)) refused
