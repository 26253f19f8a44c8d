-- The reply of an exchange: what of it was sent.
use Rattle.std.proofs.Common.{◌≡◌, ℕ, ◌≤◌, List, ◌++◌, Bool, true, false, Option, Some, None, Ok, Err, refl, sym, subst, arith}
use Rattle.sq_base.specs.Requests.{HttpRequest}
use Rattle.sq_base.specs.declared.plans.BodyPlan.{BodyPlan}
use Rattle.sq_message.specs.Bodies.{Walk, body_of, is_whole_body, is_refused}
use Rattle.sq_outside.specs.Causes.{count_limit, Rose}
use Rattle.sq_message.specs.BodyPlans.{reply_plan}
use Rattle.sq_message.specs.ReplyHeads.{reply_head_out_where}
use Rattle.sq_message.specs.declared.faults.BadBody as bad
use Rattle.sq_message.specs.declared.replies.ReplyHead.{ReplyHead}
use Rattle.sq_forward.specs.Access.{HeaderAccess}
use Rattle.sq_message.specs.declared.replies.Shape.{Shape}
use Rattle.sq_forward.specs.Copying.{CopiesBody, Copies, CopyHasCause, dry_after_copy}
use Rattle.sq_forward.specs.Exchanges.{shape_of, is_to_close, body_end, replied_by, replied, ExchangeHasCause, dry_after_exchange}
use Rattle.sq_forward.specs.Leading.{SentReply, SendsReply, body_sent, complete}
use Rattle.sq_forward.specs.Meters.{PaysAll, PaysPart, piece_limit, metered}
use Rattle.sq_forward.specs.declared.copying.Copied.{Copied}
use Rattle.sq_forward.specs.declared.copying.Copied.TheVariants as copied
use Rattle.sq_forward.specs.declared.exchanging.Exchanged.{Exchanged}
use Rattle.sq_forward.specs.declared.exchanging.Exchanged.TheVariants.{ClientFault, NoReply, OriginCut, Starved, WantOfMemory}
use Rattle.sq_forward.proofs.PayLaws.{pays_none, pays_nothing, pays_after, pays_part_after, pays_part_more}
use Rattle.sq_forward.proofs.RequestLaws.{refused_unfinished}

-- the plan of its body is refused
pub reply_unplanned : (access : HeaderAccess) (r : HttpRequest) (head : ReplyHead) (fault : bad.BadBody) (seated : Bool)
    (first a : Option (List ℕ)) (g : ℕ) → g ≤ count_limit → reply_plan r.method head ≡ Err fault
    → SendsReply access r head first (metered seated a a g g) NoReply
reply_unplanned access r head fault seated None a g few e = record { known = tt }
reply_unplanned access r head fault seated (Some bytes) a g few e = record {
  known = subst (λ p. SentReply access r head (replied_by access r head p bytes).text
      (replied_by access r head p bytes).end (metered seated a a g g) NoReply) (sym e) (pays_none seated a g few, refl);
}

-- there was no memory for its head
pub reply_no_memory : (access : HeaderAccess) (r : HttpRequest) (head : ReplyHead) (seated : Bool)
    (first a : Option (List ℕ)) (g : ℕ)
    → g ≤ count_limit → SendsReply access r head first (metered seated a a g g) WantOfMemory
reply_no_memory access r head seated None a g few = record { known = tt }
reply_no_memory access r head seated (Some bytes) a g few = record {
  known =
      pays_nothing seated (replied access r head bytes).text a g few;
}

-- a front of its head was sent
pub reply_begun : (access : HeaderAccess) (r : HttpRequest) (head : ReplyHead) (p : BodyPlan) (seated : Bool)
    (first a b : Option (List ℕ))
    (g h : ℕ) (text : List ℕ)
    → reply_plan r.method head ≡ Ok p → text ≡ reply_head_out_where access.reply head (shape_of r p)
    → PaysPart text (metered seated a b g h) piece_limit → SendsReply access r head first (metered seated a b g h)
    ClientFault
reply_begun access r head p seated None a b g h text e f x = record { known = tt }
reply_begun access r head p seated (Some bytes) a b g h text e f x = record {
  known =
      subst (λ q. PaysPart (replied_by access r head q bytes).text (metered seated a b g h) piece_limit) (sym e)
      (pays_part_more (body_of p (shape_of r p).chunked bytes).out
      (subst (λ t. PaysPart t (metered seated a b g h) piece_limit) f x));
}

pub reply_starved : (access : HeaderAccess) (r : HttpRequest) (head : ReplyHead) (p : BodyPlan) (seated : Bool)
    (first a b : Option (List ℕ))
    (g h : ℕ) (text : List ℕ)
    → reply_plan r.method head ≡ Ok p → text ≡ reply_head_out_where access.reply head (shape_of r p) → PaysPart text
    (metered seated a b g h) 0
    → SendsReply access r head first (metered seated a b g h) Starved
reply_starved access r head p seated None a b g h text e f x = record { known = tt }
reply_starved access r head p seated (Some bytes) a b g h text e f x = record {
  known =
      subst (λ q. PaysPart (replied_by access r head q bytes).text (metered seated a b g h) 0) (sym e)
      (pays_part_more (body_of p (shape_of r p).chunked bytes).out (subst (λ t. PaysPart t (metered seated a b g h) 0) f
      x));
}

-- it is complete
complete_by : (access : HeaderAccess) (r : HttpRequest) (head : ReplyHead) (text : List ℕ) (closes : Bool)
    (end : Exchanged) (seated : Bool)
    (a b : Option (List ℕ)) (g h : ℕ) → PaysAll text (metered seated a b g h) → complete closes ≡ end
    → SentReply access r head text end (metered seated a b g h) (complete closes)
complete_by access r head text true end seated a b g h x e = (x, e)
complete_by access r head text false end seated a b g h x e = (x, e)

whole_end : (to_close closes : Bool) (body : Walk) → is_whole_body body.place ≡ true
    → complete closes ≡ body_end to_close closes body
whole_end to_close closes body e = rw e refl

cut_end : (closes : Bool) (body : Walk) → is_whole_body body.place ≡ false → is_refused body.place ≡ false
    → complete closes ≡ body_end true closes body
cut_end closes body e f = rw (e, f) refl

short_end : (closes : Bool) (body : Walk) → is_whole_body body.place ≡ false → OriginCut ≡ body_end false closes body
short_end closes body e = rw e refl

bad_end : (to_close closes : Bool) (body : Walk) → is_whole_body body.place ≡ false → is_refused body.place ≡ true
    → OriginCut ≡ body_end to_close closes body
bad_end true closes body e f = rw (e, f) refl
bad_end false closes body e f = rw e refl

by_copied : (access : HeaderAccess) (r : HttpRequest) (head : ReplyHead) (p : BodyPlan) (body : Walk)
    (to_close closes seated : Bool)
    (left a b d : Option (List ℕ)) (g h i : ℕ) (k : Copied)
    → reply_plan r.method head ≡ Ok p → PaysAll (reply_head_out_where access.reply head (shape_of r p))
    (metered seated a b g h)
    → CopiesBody body left (metered seated b d h i) k
    → SentReply access r head (reply_head_out_where access.reply head (shape_of r p) ++ body.out)
    (body_end to_close closes body) (metered seated a d g i) (body_sent k to_close closes)
unfolding pays_part_after
by_copied access r head p body to_close closes seated left a b d g h i copied.NoSource e w x =
    record { plan = p; planned = e; pays = pays_part_after w x; sent = (x.part, refl) }
by_copied access r head p body to_close closes seated left a b d g h i copied.NoSink e w x = pays_part_after w x
by_copied access r head p body to_close closes seated left a b d g h i copied.Starved e w x = pays_part_after w x
by_copied access r head p body to_close closes seated left a b d g h i copied.WantOfMemory e w x = pays_part_after w x
by_copied access r head p body to_close closes seated left a b d g h i copied.Whole e w x =
    complete_by access r head (reply_head_out_where access.reply head (shape_of r p) ++ body.out) closes
    (body_end to_close closes body) seated a
    d g i (pays_after w x.2) (whole_end to_close closes body x.0)
by_copied access r head p body true closes seated left a b d g h i copied.Cut e w x =
    complete_by access r head (reply_head_out_where access.reply head (shape_of r p) ++ body.out) closes
    (body_end true closes body) seated a d g
    i (pays_after w x.3) (cut_end closes body x.0 x.1)
by_copied access r head p body false closes seated left a b d g h i copied.Cut e w x =
    (pays_after w x.3, short_end closes body x.0)
by_copied access r head p body to_close closes seated left a b d g h i copied.Bad e w x =
    (pays_after w x.1, bad_end to_close closes body (refused_unfinished body.place x.0) x.0)

-- its head was sent, and the body as its copying says
pub reply_sent : (access : HeaderAccess) (r : HttpRequest) (head : ReplyHead) (p : BodyPlan) (shape : Shape)
    (seated now_seated : Bool)
    (first left a b d : Option (List ℕ)) (g h i : ℕ) (text : List ℕ) (k : Copied) (end : Exchanged)
    → reply_plan r.method head ≡ Ok p → shape ≡ shape_of r p → text ≡ reply_head_out_where access.reply head shape
    → PaysAll text (metered seated a b g h) → now_seated ≡ seated
    → Copies p shape.chunked first left (metered now_seated b d h i) k → end ≡ body_sent k (is_to_close p) shape.closes
    → SendsReply access r head first (metered seated a d g i) end
reply_sent access r head p shape seated now_seated first left a b d g h i text k end e q f x s c n =
    by first (subst (λ o. text ≡ reply_head_out_where access.reply head o) q f)
    (subst (λ o. Copies p o.chunked first left (metered now_seated b d h i) k) q c)
    (subst (λ o. end ≡ body_sent k (is_to_close p) o.closes) q n)
  where
    by : (first : Option (List ℕ)) → text ≡ reply_head_out_where access.reply head (shape_of r p)
        → Copies p (shape_of r p).chunked first left (metered now_seated b d h i) k
        → end ≡ body_sent k (is_to_close p) (shape_of r p).closes
        → SendsReply access r head first (metered seated a d g i) end
    by None f c n = record { known = tt }
    by (Some bytes) f c n =
        let body = body_of p (shape_of r p).chunked bytes in
        let head_text = reply_head_out_where access.reply head (shape_of r p) in
        let copies : CopiesBody body left (metered seated b d h i) k = subst
        (λ t. CopiesBody body left (metered t b d h i) k) s c.body in
        let all : SentReply access r head (head_text ++ body.out) (body_end (is_to_close p) (shape_of r p).closes body)
        (metered seated a d g i) (body_sent k (is_to_close p) (shape_of r p).closes) =
        by_copied access r head p body (is_to_close p) (shape_of r p).closes seated left a b d g h i k e
        (subst (λ t. PaysAll t (metered seated a b g h)) f x) copies in
        record {
          known =
              subst (λ o. SentReply access r head (replied_by access r head o bytes).text
              (replied_by access r head o bytes).end (metered seated a d g i) end) (sym e)
              (subst (SentReply access r head (head_text ++ body.out)
              (body_end (is_to_close p) (shape_of r p).closes body) (metered seated a d g i)) (sym n) all);
        }

-- the link that failed, by that of the copying
pub body_cause : (a b c m d : ℕ) (k : Copied) (to_close closes : Bool) (end : Exchanged)
    → end ≡ body_sent k to_close closes → CopyHasCause a b m d k → c ≤ m
    → ExchangeHasCause (Rose c d) (Rose a b) end
body_cause a b c m d k to_close closes end e x later = subst (ExchangeHasCause (Rose c d) (Rose a b)) (sym e)
    (by k to_close closes x)
  where
    by : (k : Copied) (to_close closes : Bool) → CopyHasCause a b m d k
        → ExchangeHasCause (Rose c d) (Rose a b) (body_sent k to_close closes)
    by copied.Whole to_close true x = tt
    by copied.Whole to_close false x = tt
    by copied.Cut true true x = tt
    by copied.Cut true false x = tt
    by copied.Cut false closes x = tt
    by copied.Bad to_close closes x = tt
    by copied.NoSource to_close closes x = x
    by copied.NoSink to_close closes x = omega (arith, x, later)
    by copied.Starved to_close closes x = tt
    by copied.WantOfMemory to_close closes x = tt

-- how dry the meter is then
pub body_dry : (k : Copied) (to_close closes : Bool)
    → dry_after_copy k ≡ dry_after_exchange (body_sent k to_close closes)
body_dry copied.Whole to_close true = refl
body_dry copied.Whole to_close false = refl
body_dry copied.Cut true true = refl
body_dry copied.Cut true false = refl
body_dry copied.Cut false closes = refl
body_dry copied.Bad to_close closes = refl
body_dry copied.NoSource to_close closes = refl
body_dry copied.NoSink to_close closes = refl
body_dry copied.Starved to_close closes = refl
body_dry copied.WantOfMemory to_close closes = refl
