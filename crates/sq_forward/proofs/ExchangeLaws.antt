-- An exchange, put together of its request and its reply.
use Rattle.std.proofs.Common.{◌≡◌, ◌⊎◌, inl, inr, ℕ, ◌+◌, ◌-◌, ◌≤◌, List, [], ◌++◌, length, Bool, true, false, Option, Some, None, Ok, Err, IfSome, if◌then◌else◌, refl, sym, ap, subst, ◌∙◌, arith, append-nil, length-append}
use Rattle.std.specs.Io.KnownBytes.{Appends}
use Rattle.std.proofs.KnownBytes.{Appends-trans}
use Rattle.sq_base.specs.Addresses.{Address}
use Rattle.sq_base.specs.Requests.{HttpRequest}
use Rattle.sq_base.specs.declared.plans.BodyPlan.{BodyPlan}
use Rattle.sq_message.specs.Bodies.{Walk, body_of, is_whole_body, is_refused}
use Rattle.sq_outside.specs.Causes.{count_limit}
use Rattle.sq_outside.specs.Output.{IsPrefix, Grew}
use Rattle.sq_outside.proofs.Writing.{IsPrefix_refl, IsPrefix_nil, IsPrefix_after, IsPrefix_more, Grew_whole}
use Rattle.sq_message.specs.ReplyHeads.{reply_head_out_where}
use Rattle.sq_message.specs.RequestHeads.{head_out_where, is_chunked}
use Rattle.sq_message.specs.declared.replies.ReplyHead.{ReplyHead}
use Rattle.sq_forward.specs.Access.{HeaderAccess}
use Rattle.sq_forward.specs.Exchanges.{shape_of, answered, continue_part, interim_texts, replied, replied_if, Fronts, EndsExchange, Exchanges, ExchangeHasCause, message, sink, exchange_seen}
use Rattle.sq_forward.specs.Leading.{LeadsReply, LeadHasCause, PaysHeads, SentReply, SendsReply}
use Rattle.sq_forward.specs.Meters.{granted_after, PaysAll, PaysPart, piece_limit, metered}
use Rattle.sq_forward.specs.Replies.{Reading, IsReading}
use Rattle.sq_forward.specs.Sending.{SentSo, SendsRequest, SendHasCause}
use Rattle.sq_forward.specs.declared.exchanging.Exchanged.{Exchanged}
use Rattle.sq_forward.specs.declared.exchanging.Exchanged.TheVariants.{Kept, Closed, Cut, ClientFault, BadBody, NoReply, OriginCut, OriginFault, Starved, WantOfMemory}
use Rattle.sq_forward.proofs.LeadLaws.{heads_alone}
use Rattle.sq_forward.proofs.PayLaws.{granted_none, pays_after, pays_part_after}

-- no reply was looked at
abbrev nothing : Reading
nothing = record { interim = []; final = None; rest = [] }

reads_nothing : IsReading [] nothing
reads_nothing = heads_alone [] [] refl (omega arith)

-- the request went out whole
answered_whole : (access : HeaderAccess) (r : HttpRequest) (own origin : List ℕ) (body : Walk) (reading : Reading)
    → is_whole_body body.place ≡ true
    → answered access r own origin body reading
    ≡ record {
      own = own;
      client = interim_texts access r reading.interim ++ (replied_if access r reading.final reading.rest).text;
      origin = origin;
      rest = body.rest;
      end = (replied_if access r reading.final reading.rest).end;
    }
answered_whole access r own origin body reading e = rw e refl

-- or not
answered_short : (access : HeaderAccess) (r : HttpRequest) (own origin : List ℕ) (body : Walk) (reading : Reading)
    → is_whole_body body.place ≡ false
    → answered access r own origin body reading
    ≡ record {
      own = own;
      client = [];
      origin = origin;
      rest = [];
      end = if is_refused body.place then BadBody else Cut;
    }
answered_short access r own origin body reading e = rw e refl

-- fronts of what goes out before the reply
fronts_own : (own origin rest : List ℕ) (xend : Exchanged) (seated : Bool) (a b c d : Option (List ℕ)) (g spare : ℕ)
    → g ≤ count_limit → Grew a b (λ part. IsPrefix part own) → Grew c d (λ part. IsPrefix part origin)
    → Fronts (record { own = own; client = []; origin = origin; rest = rest; end = xend }) (metered seated a b g g)
    (sink c d) spare
fronts_own own origin rest xend seated a b c d g spare few (part, grew, (more, front)) v =
    let none : 0 ≡ length part - length own + 0 = omega (arith, ap length front, length-append part more) in
    record {
      part = part;
      more = 0;
      front = IsPrefix_more part own [] (more, front);
      client = grew;
      granted = granted_none seated g few ∙ ap (granted_after seated g) none;
      close = omega arith;
      origin = v;
    }

-- fronts of what the client gets behind that
fronts_after : (own text origin rest : List ℕ) (xend : Exchanged) (seated : Bool) (a b e c d : Option (List ℕ))
    (g h spare : ℕ) → Appends a b own → PaysPart text (metered seated b e g h) spare → Appends c d origin
    → Fronts (record { own = own; client = text; origin = origin; rest = rest; end = xend }) (metered seated a e g h)
    (sink c d) spare
fronts_after own text origin rest xend seated a b e c d g h spare w p v =
    let count : length p.part + p.more ≡ length (own ++ p.part) - length own + p.more =
    omega (arith, length-append own p.part) in
    record {
      part = own ++ p.part;
      more = p.more;
      front = IsPrefix_after own p.part text p.front;
      client = Appends-trans a b e own p.part w p.wrote;
      granted = p.granted ∙ ap (granted_after seated g) count;
      close = p.close;
      origin = Grew_whole c d origin v;
    }

-- a fault before the reply
fault_ends : (access : HeaderAccess) (r : HttpRequest) (own origin rest : List ℕ) (xend : Exchanged) (body : Walk)
    (reply : List ℕ)
    (seated : Bool) (left a b c d : Option (List ℕ)) (g : ℕ) (failed : Type 0) (end : Exchanged)
    → g ≤ count_limit → SentSo own origin body left (sink a b) (sink c d) (Some end) → (end ≡ NoReply → failed) →
    (end ≡ Cut → ⊥)
    → (end ≡ BadBody → ⊥)
    → EndsExchange access r nothing (record { own = own; client = []; origin = origin; rest = rest; end = xend })
    ([] ≡ reply) (exchange_seen left (metered seated a b g g) (sink c d)) failed end
fault_ends access r own origin rest xend body reply seated left a b c d g failed NoReply few s f i j =
    inr (
      f refl,
      record {
        headless = refl;
        client = subst (Appends a b) (sym (append-nil own)) s.0;
        granted = granted_none seated g few;
        origin = s.1;
      },
    )
fault_ends access r own origin rest xend body reply seated left a b c d g failed ClientFault few s f i j =
    fronts_own own origin rest xend seated a b c d g piece_limit few s.0 s.1
fault_ends access r own origin rest xend body reply seated left a b c d g failed WantOfMemory few s f i j =
    fronts_own own origin rest xend seated a b c d g 0 few s.0 s.1
fault_ends access r own origin rest xend body reply seated left a b c d g failed Cut few s f i j = absurd (i refl)
fault_ends access r own origin rest xend body reply seated left a b c d g failed BadBody few s f i j = absurd (j refl)
fault_ends access r own origin rest xend body reply seated left a b c d g failed Kept few s f i j = absurd s
fault_ends access r own origin rest xend body reply seated left a b c d g failed Closed few s f i j = absurd s
fault_ends access r own origin rest xend body reply seated left a b c d g failed OriginCut few s f i j = absurd s
fault_ends access r own origin rest xend body reply seated left a b c d g failed OriginFault few s f i j = absurd s
fault_ends access r own origin rest xend body reply seated left a b c d g failed Starved few s f i j = absurd s

-- whether its body is complete or not
by_whole : (access : HeaderAccess) (r : HttpRequest) (own origin : List ℕ) (body : Walk) (reply : List ℕ)
    (seated : Bool)
    (left a b c d : Option (List ℕ)) (g : ℕ) (failed : Type 0) (end : Exchanged)
    → g ≤ count_limit → SentSo own origin body left (sink a b) (sink c d) (Some end) → (end ≡ NoReply → failed) →
    (end ≡ Cut → ⊥)
    → (end ≡ BadBody → ⊥) → EndsExchange access r nothing (answered access r own origin body nothing) ([] ≡ reply)
    (exchange_seen left (metered seated a b g g) (sink c d)) failed end
by_whole access r own origin body reply seated left a b c d g failed end few s f i j = by (is_whole_body body.place)
    refl
  where
    by : (t : Bool) → is_whole_body body.place ≡ t
        → EndsExchange access r nothing (answered access r own origin body nothing) ([] ≡ reply)
        (exchange_seen left (metered seated a b g g) (sink c d)) failed end
    by true e =
        subst (λ x. EndsExchange access r nothing x ([] ≡ reply) (exchange_seen left (metered seated a b g g)
        (sink c d)) failed end)
        (sym (answered_whole access r own origin body nothing e))
        (fault_ends access r own origin body.rest NoReply body reply seated left a b c d g failed end few s f i j)
    by false e =
        subst (λ x. EndsExchange access r nothing x ([] ≡ reply) (exchange_seen left (metered seated a b g g)
        (sink c d)) failed end)
        (sym (answered_short access r own origin body nothing e))
        (fault_ends access r own origin [] (if is_refused body.place then BadBody else Cut) body reply seated left a b c
        d g
        failed end few s f i j)

-- the request did not go out whole
unsent_ends : (access : HeaderAccess) (r : HttpRequest) (own origin : List ℕ) (body : Walk) (reply : List ℕ)
    (seated : Bool)
    (left a b c d : Option (List ℕ)) (g : ℕ) (failed : Type 0) (end : Exchanged)
    → g ≤ count_limit → SentSo own origin body left (sink a b) (sink c d) (Some end) → (end ≡ NoReply → failed)
    → EndsExchange access r nothing (answered access r own origin body nothing) ([] ≡ reply)
    (exchange_seen left (metered seated a b g g) (sink c d)) failed end
unsent_ends access r own origin body reply seated left a b c d g failed Cut few s f =
    subst (λ x. EndsExchange access r nothing x ([] ≡ reply) (exchange_seen left (metered seated a b g g) (sink c d))
    failed Cut)
    (sym (answered_short access r own origin body nothing s.0)) (record {
      client = subst (Appends a b) (sym (append-nil own)) s.2;
      granted = granted_none seated g few;
      origin = s.3;
      rest = λ e. absurd cc;
      ends = rw s.1 refl;
    })
unsent_ends access r own origin body reply seated left a b c d g failed BadBody few s f =
    subst (λ x. EndsExchange access r nothing x ([] ≡ reply) (exchange_seen left (metered seated a b g g) (sink c d))
    failed BadBody)
    (sym (answered_short access r own origin body nothing s.0)) (record {
      client = subst (Appends a b) (sym (append-nil own)) s.2;
      granted = granted_none seated g few;
      origin = s.3;
      rest = λ e. absurd cc;
      ends = rw s.1 refl;
    })
unsent_ends access r own origin body reply seated left a b c d g failed NoReply few s f =
    by_whole access r own origin body reply seated left a b c d g failed NoReply few s f (λ e. cc) (λ e. cc)
unsent_ends access r own origin body reply seated left a b c d g failed ClientFault few s f =
    by_whole access r own origin body reply seated left a b c d g failed ClientFault few s f (λ e. cc) (λ e. cc)
unsent_ends access r own origin body reply seated left a b c d g failed WantOfMemory few s f =
    by_whole access r own origin body reply seated left a b c d g failed WantOfMemory few s f (λ e. cc) (λ e. cc)
unsent_ends access r own origin body reply seated left a b c d g failed Kept few s f = absurd s
unsent_ends access r own origin body reply seated left a b c d g failed Closed few s f = absurd s
unsent_ends access r own origin body reply seated left a b c d g failed OriginCut few s f = absurd s
unsent_ends access r own origin body reply seated left a b c d g failed OriginFault few s f = absurd s
unsent_ends access r own origin body reply seated left a b c d g failed Starved few s f = absurd s

pub exchange_unsent : (access : HeaderAccess) (r : HttpRequest) (addr : Address) (p : BodyPlan)
    (first told left a b c d : Option (List ℕ))
    (seated : Bool) (g : ℕ) (failed : Type 0) (end : Exchanged)
    → g ≤ count_limit → SendsRequest access (message r addr p) first left (sink a b) (sink c d) (Some end) →
    (end ≡ NoReply → failed)
    → IfSome first (λ input. IfSome told (λ reply. Exchanges access (message r addr p) input reply
    (exchange_seen left (metered seated a b g g) (sink c d)) failed end))
exchange_unsent access r addr p None told left a b c d seated g failed end few s f = tt
exchange_unsent access r addr p (Some input) None left a b c d seated g failed end few s f = tt
exchange_unsent access r addr p (Some input) (Some reply) left a b c d seated g failed end few s f =
    let body = body_of p (is_chunked p) input in
    record {
      seen = [];
      reading = nothing;
      front = IsPrefix_nil reply;
      reads = reads_nothing;
      ends = unsent_ends access r (continue_part r p) (head_out_where access.request r addr p ++ body.out) body reply
          seated left a b c d g failed
          end few s.known f;
    }

-- no reply's own head was reached
led_ends : (access : HeaderAccess) (r : HttpRequest) (reading : Reading) (own text origin : List ℕ)
    (rest seen reply : List ℕ) (seated : Bool)
    (left a b e c d : Option (List ℕ)) (g h : ℕ) (failed : Type 0) (end : Exchanged)
    → reading.final ≡ None → Appends a b own → Appends c d origin → PaysHeads text (metered seated b e g h) end
    → (end ≡ NoReply → (seen ≡ reply) ⊎ failed)
    → EndsExchange access r reading (record { own = own; client = text; origin = origin; rest = rest; end = NoReply })
    (seen ≡ reply) (exchange_seen left (metered seated a e g h) (sink c d)) failed end
led_ends access r reading own text origin rest seen reply seated left a b e c d g h failed NoReply n w v p all = by
    (all refl)
  where
    by : (seen ≡ reply) ⊎ failed
        → EndsExchange access r reading (record {
          own = own;
          client = text;
          origin = origin;
          rest = rest;
          end = NoReply;
        }) (seen ≡ reply) (exchange_seen left (metered seated a e g h) (sink c d)) failed NoReply
    by (inl i) = inl (
      i,
      record {
        client = Appends-trans a b e own text w p.wrote;
        granted = p.granted;
        origin = v;
        rest = λ x. absurd cc;
        ends = refl;
      },
    )
    by (inr f) = inr (
      f,
      record {
        headless = n;
        client = Appends-trans a b e own text w p.wrote;
        granted = p.granted;
        origin = Grew_whole c d origin v;
      },
    )
led_ends access r reading own text origin rest seen reply seated left a b e c d g h failed ClientFault n w v p all =
    fronts_after own text origin rest NoReply seated a b e c d g h piece_limit w p v
led_ends access r reading own text origin rest seen reply seated left a b e c d g h failed Starved n w v p all =
    fronts_after own text origin rest NoReply seated a b e c d g h 0 w p v
led_ends access r reading own text origin rest seen reply seated left a b e c d g h failed WantOfMemory n w v p all =
    fronts_after own text origin rest NoReply seated a b e c d g h 0 w p v
led_ends access r reading own text origin rest seen reply seated left a b e c d g h failed Kept n w v p all = absurd p
led_ends access r reading own text origin rest seen reply seated left a b e c d g h failed Closed n w v p all = absurd p
led_ends access r reading own text origin rest seen reply seated left a b e c d g h failed Cut n w v p all = absurd p
led_ends access r reading own text origin rest seen reply seated left a b e c d g h failed BadBody n w v p all = absurd
    p
led_ends access r reading own text origin rest seen reply seated left a b e c d g h failed OriginCut n w v p all =
    absurd p
led_ends access r reading own text origin rest seen reply seated left a b e c d g h failed OriginFault n w v p all =
    absurd p

pub exchange_led : (access : HeaderAccess) (r : HttpRequest) (addr : Address) (p : BodyPlan)
    (first told left next a b e c d : Option (List ℕ))
    (seated : Bool) (g h : ℕ) (source failed : Type 0) (end : Exchanged)
    → SendsRequest access (message r addr p) first left (sink a b) (sink c d) None → LeadsReply access r told next
    (metered seated b e g h) source (Err end)
    → (source → failed)
    → IfSome first (λ input. IfSome told (λ reply. Exchanges access (message r addr p) input reply
    (exchange_seen left (metered seated a e g h) (sink c d)) failed end))
exchange_led access r addr p None told left next a b e c d seated g h source failed end s l f = tt
exchange_led access r addr p (Some input) None left next a b e c d seated g h source failed end s l f = tt
exchange_led access r addr p (Some input) (Some reply) left next a b e c d seated g h source failed end s l f =
    let body = body_of p (is_chunked p) input in
    let own = continue_part r p in
    let origin = head_out_where access.request r addr p ++ body.out in
    let y = l.known in
    let text = interim_texts access r y.interim in
    let reading : Reading = record { interim = y.interim; final = None; rest = [] } in
    let whole : answered access r own origin body reading
    ≡ record { own = own; client = text; origin = origin; rest = body.rest; end = NoReply } =
    answered_whole access r own origin body reading s.known.0
    ∙ ap (λ t. record { own = own; client = t; origin = origin; rest = body.rest; end = NoReply }) (append-nil text) in
    record {
      seen = y.seen;
      reading = reading;
      front = y.front;
      reads = y.reads;
      ends =
          subst (λ x. EndsExchange access r reading x (y.seen ≡ reply)
          (exchange_seen left (metered seated a e g h) (sink c d)) failed end) (sym whole)
          (led_ends access r reading own text origin body.rest y.seen reply seated left a b e c d g h failed end refl
          s.known.2
          s.known.3 y.pays (λ i. or_failed (y.all i)));
    }
  where
    or_failed : {A : Type 0} → A ⊎ source → A ⊎ failed
    or_failed (inl i) = inl i
    or_failed (inr x) = inr (f x)

-- the reply was sent, as far as it goes
sent_ends : (access : HeaderAccess) (r : HttpRequest) (reading : Reading) (final : ReplyHead)
    (own text origin rest reply : List ℕ)
    (xend : Exchanged) (seated : Bool) (left a b e m c d : Option (List ℕ)) (g h i : ℕ) (failed : Type 0)
    (end : Exchanged)
    → reading.final ≡ Some final → left ≡ Some rest → Appends a b own → Appends c d origin
    → PaysAll (interim_texts access r reading.interim) (metered seated b e g h) → SentReply access r final text xend
    (metered seated e m h i) end
    → EndsExchange access r reading (record {
      own = own;
      client = interim_texts access r reading.interim ++ text;
      origin = origin;
      rest = rest;
      end = xend;
    }) (reply ≡ reply) (exchange_seen left (metered seated a m g i) (sink c d))
    failed end
unfolding fronts_after pays_part_after
sent_ends access r reading final own text origin rest reply xend seated left a b e m c d g h i failed Kept n
    at w v p (x, same) =
    let all = pays_after p x in (
      refl,
      record {
        client = Appends-trans a b m own (interim_texts access r reading.interim ++ text) w all.wrote;
        granted = all.granted;
        origin = v;
        rest = λ _. at;
        ends = same;
      },
    )
sent_ends access r reading final own text origin rest reply xend seated left a b e m c d g h i failed Closed n
    at w v p (x, same) =
    let all = pays_after p x in (
      refl,
      record {
        client = Appends-trans a b m own (interim_texts access r reading.interim ++ text) w all.wrote;
        granted = all.granted;
        origin = v;
        rest = λ _. at;
        ends = same;
      },
    )
sent_ends access r reading final own text origin rest reply xend seated left a b e m c d g h i failed OriginCut n
    at w v p (x, same) =
    let all = pays_after p x in (
      refl,
      record {
        client = Appends-trans a b m own (interim_texts access r reading.interim ++ text) w all.wrote;
        granted = all.granted;
        origin = v;
        rest = λ _. at;
        ends = same;
      },
    )
sent_ends access r reading final own text origin rest reply xend seated left a b e m c d g h i failed NoReply n
    at w v p (x, same) =
    let all = pays_after p x in
    inl (
      refl,
      record {
        client = Appends-trans a b m own (interim_texts access r reading.interim ++ text) w all.wrote;
        granted = all.granted;
        origin = v;
        rest = λ _. at;
        ends = same;
      },
    )
sent_ends access r reading final own text origin rest reply xend seated left a b e m c d g h i failed ClientFault n
    at w v p x = fronts_after own (interim_texts access r reading.interim ++ text) origin rest xend seated a b m c d g i
    piece_limit w (pays_part_after p x) v
sent_ends access r reading final own text origin rest reply xend seated left a b e m c d g h i failed OriginFault n
    at w v p x =
    let front = interim_texts access r reading.interim in
    let text_of = reply_head_out_where access.reply final (shape_of r x.plan) in
    record {
      head = final;
      plan = x.plan;
      final = n;
      planned = x.planned;
      fronts = fronts_after own (front ++ text) origin rest xend seated a b m c d g i 0 w (pays_part_after p x.pays) v;
      sent = IsPrefix_after own (front ++ text_of) (front ++ x.pays.part)
          (IsPrefix_after front text_of x.pays.part x.sent);
    }
sent_ends access r reading final own text origin rest reply xend seated left a b e m c d g h i failed Starved n at w v p
    x =
    fronts_after own (interim_texts access r reading.interim ++ text) origin rest xend seated a b m c d g i 0 w
    (pays_part_after p x) v
sent_ends access r reading final own text origin rest reply xend seated left a b e m c d g h i failed WantOfMemory n
    at w v p x = fronts_after own (interim_texts access r reading.interim ++ text) origin rest xend seated a b m c d g i
    0 w
    (pays_part_after p x) v
sent_ends access r reading final own text origin rest reply xend seated left a b e m c d g h i failed Cut n at w v p x =
    absurd x
sent_ends access r reading final own text origin rest reply xend seated left a b e m c d g h i failed BadBody n at w v p
    x =
    absurd x

-- the reply with its own head, where what comes behind the head is told
sent_known : {access : HeaderAccess} {r : HttpRequest} {head : ReplyHead} {seated : Bool} {a b : Option (List ℕ)}
    {g h : ℕ} {end : Exchanged}
    (next : Option (List ℕ)) (rest : List ℕ) → next ≡ Some rest → SendsReply access r head next (metered seated a b g h)
    end
    → SentReply access r head (replied access r head rest).text (replied access r head rest).end
    (metered seated a b g h) end
sent_known {access} {r} {head} {seated} {a} {b} {g} {h} {end} None rest e x = absurd cc
sent_known {access} {r} {head} {seated} {a} {b} {g} {h} {end} (Some bytes) rest e x =
    let same : bytes ≡ rest = cc in
    subst (λ l. SentReply access r head (replied access r head l).text (replied access r head l).end
    (metered seated a b g h) end) same x.known

pub exchange_sent : (access : HeaderAccess) (r : HttpRequest) (addr : Address) (p : BodyPlan)
    (first told left next a b e m c d : Option (List ℕ)) (seated now_seated : Bool) (g h i : ℕ) (source failed : Type 0)
    (head : ReplyHead) (end : Exchanged)
    → SendsRequest access (message r addr p) first left (sink a b) (sink c d) None → LeadsReply access r told next
    (metered seated b e g h) source (Ok head)
    → now_seated ≡ seated → SendsReply access r head next (metered now_seated e m h i) end
    → IfSome first (λ input. IfSome told (λ reply. Exchanges access (message r addr p) input reply
    (exchange_seen left (metered seated a m g i) (sink c d)) failed end))
exchange_sent access r addr p None told left next a b e m c d seated now_seated g h i source failed head end s l same
    x = tt
exchange_sent access r addr p (Some input) None left next a b e m c d seated now_seated g h i source failed head end s l
    same
    x = tt
exchange_sent access r addr p (Some input) (Some reply) left next a b e m c d seated now_seated g h i source failed head
    end s
    l same x =
    let body = body_of p (is_chunked p) input in
    let own = continue_part r p in
    let origin = head_out_where access.request r addr p ++ body.out in
    let y = l.known in
    let reading : Reading = record { interim = y.interim; final = Some head; rest = y.rest } in
    record {
      seen = reply;
      reading = reading;
      front = IsPrefix_refl reply;
      reads = record {
        heads = y.heads;
        more = y.more;
        cut = y.cut;
        interim = y.are;
        few = y.few;
        final = (y.begins, y.own, y.goes);
      };
      ends =
          subst (λ x. EndsExchange access r reading x (reply ≡ reply)
          (exchange_seen left (metered seated a m g i) (sink c d)) failed end)
          (sym (answered_whole access r own origin body reading s.known.0))
          (sent_ends access r reading head own (replied access r head y.rest).text origin body.rest reply
          (replied access r head y.rest).end
          seated left a b e m c d g h i failed end
          refl s.known.1 s.known.2 s.known.3 y.pays
          (sent_known next y.rest y.left_is (subst (λ t. SendsReply access r head next (metered t e m h i) end) same
          x)));
    }

-- the link that failed in sending the request
pub send_cause : (A B C : Type 0) (end : Exchanged) → SendHasCause A B end → ExchangeHasCause A C end
send_cause A B C ClientFault x = x
send_cause A B C NoReply x = tt
send_cause A B C Cut x = tt
send_cause A B C BadBody x = tt
send_cause A B C WantOfMemory x = tt
send_cause A B C Kept x = tt
send_cause A B C Closed x = tt
send_cause A B C OriginCut x = tt
send_cause A B C OriginFault x = absurd x
send_cause A B C Starved x = tt

-- and in passing heads on
pub lead_cause : (A B C : Type 0) (end : Exchanged) → (A → B) → LeadHasCause A end → ExchangeHasCause B C end
lead_cause A B C ClientFault f x = f x
lead_cause A B C NoReply f x = tt
lead_cause A B C Cut f x = tt
lead_cause A B C BadBody f x = tt
lead_cause A B C WantOfMemory f x = tt
lead_cause A B C Kept f x = tt
lead_cause A B C Closed f x = tt
lead_cause A B C OriginCut f x = tt
lead_cause A B C OriginFault f x = absurd x
lead_cause A B C Starved f x = tt

-- and in sending the reply
pub reply_cause : {A B C D : Type 0} (end : Exchanged) → (A → B) → (C → D) → ExchangeHasCause A C end
    → ExchangeHasCause B D end
reply_cause ClientFault f j x = f x
reply_cause OriginFault f j x = j x
reply_cause NoReply f j x = tt
reply_cause Cut f j x = tt
reply_cause BadBody f j x = tt
reply_cause WantOfMemory f j x = tt
reply_cause Kept f j x = tt
reply_cause Closed f j x = tt
reply_cause OriginCut f j x = tt
reply_cause Starved f j x = tt
