-- The part of a turn behind the dial: RFC 9112 sections 6 and 9.3, RFC 9110 section 10.1.1.
use Rattle.std.specs.Prelude.{◌≡◌, ◌⊎◌, ℕ, ◌+◌, ◌-◌, ◌≤◌, List, [], ◌++◌, length, Bool, true, false, ◌&&◌, ◌||◌, not, ◌==◌, if◌then◌else◌, codes, Some, None, Ok, Err, ⊤}
use Rattle.std.specs.List.{flat_map}
use Rattle.std.specs.declared.option.Option.{Option}
use Rattle.std.specs.declared.result.Result.{Result}
use Rattle.std.specs.Io.KnownBytes.{Appends}
use Rattle.sq_base.specs.Addresses.{Address}
use Rattle.sq_base.specs.Requests.{HttpRequest}
use Rattle.sq_base.specs.declared.plans.BodyPlan.{BodyPlan}
use Rattle.sq_base.specs.declared.plans.BodyPlan.TheVariants as plan
use Rattle.sq_message.specs.Bodies.{Walk, body_of, is_whole_body, is_refused}
use Rattle.sq_outside.specs.Output.{IsPrefix, Grew}
use Rattle.sq_message.specs.BodyPlans.{reply_plan}
use Rattle.sq_message.specs.ReplyHeads.{reply_head_out_where}
use Rattle.sq_message.specs.RequestHeads.{crlf, head_out_where, is_chunked}
use Rattle.sq_message.specs.Wishes.{wants_close, wants_continue}
use Rattle.sq_message.specs.declared.faults.BadBody as bad
use Rattle.sq_message.specs.declared.replies.ReplyHead.{ReplyHead}
use Rattle.sq_forward.specs.Access.{HeaderAccess}
use Rattle.sq_message.specs.declared.replies.Shape.{Shape}
use Rattle.sq_forward.specs.Meters.{Metered, granted_after, dry_limit, piece_limit}
use Rattle.sq_forward.specs.Replies.{Reading, IsReading}
use Rattle.sq_forward.specs.declared.exchanging.Exchanged.{Exchanged}
use Rattle.sq_forward.specs.declared.exchanging.Exchanged.TheVariants.{Kept, Closed, Cut, ClientFault, BadBody, NoReply, OriginCut, OriginFault, Starved, WantOfMemory}

-- what a client hears that waits until its body may come
abbrev pub continue_text : List ℕ
continue_text = codes "HTTP/1.1 100 Continue" ++ crlf ++ crlf

abbrev pub continue_part : HttpRequest → BodyPlan → List ℕ
continue_part r p = if wants_continue r p then continue_text else []

-- the body ends where the connection does
abbrev pub is_to_close : BodyPlan → Bool
is_to_close plan.ToClose = true
is_to_close plan.None = false
is_to_close (plan.Length n) = false
is_to_close plan.Chunked = false

-- a chunked body goes to a client of version 1.0 as its data, up to the close; a body up to the
-- close stays one
abbrev pub shape_of : HttpRequest → BodyPlan → Shape
shape_of r p = record {
  chunked = is_chunked p && not (r.minor == 0);
  closes = wants_close r || is_to_close p;
}

-- a head that is not the reply's own: clients of version 1.0 do not know them
abbrev pub interim_text : HeaderAccess → HttpRequest → ReplyHead → List ℕ
interim_text access r h = if r.minor == 0 then []
    else reply_head_out_where access.reply h (record { chunked = false; closes = false })

abbrev pub interim_texts : HeaderAccess → HttpRequest → List ReplyHead → List ℕ
interim_texts access r hs = flat_map (interim_text access r) hs

-- what the client gets from a reply, and how the exchange ends
pub record Replied : Type 0 where
  pub text : List ℕ
  pub end : Exchanged

-- nothing, since there is no reply that can be passed on
abbrev pub no_reply : Replied
no_reply = record { text = []; end = NoReply }

-- how a reply's body ended
abbrev pub body_end : Bool → Bool → Walk → Exchanged
body_end to_close closes body =
    if is_whole_body body.place
    || (to_close && not (is_refused body.place)) then (if closes then Closed else Kept)
    else OriginCut

abbrev pub replied_by : HeaderAccess → HttpRequest → ReplyHead → Result BodyPlan bad.BadBody
    → List ℕ → Replied
replied_by access r h (Err fault) bytes = no_reply
replied_by access r h (Ok p) bytes =
    let body = body_of p (shape_of r p).chunked bytes in
    record {
      text = reply_head_out_where access.reply h (shape_of r p) ++ body.out;
      end = body_end (is_to_close p) (shape_of r p).closes body;
    }

-- a reply with this head, and its body at the front of these bytes
abbrev pub replied : HeaderAccess → HttpRequest → ReplyHead → List ℕ → Replied
replied access r h bytes = replied_by access r h (reply_plan r.method h) bytes

abbrev pub replied_if : HeaderAccess → HttpRequest → Option ReplyHead → List ℕ → Replied
replied_if access r None bytes = no_reply
replied_if access r (Some h) bytes = replied access r h bytes

-- what the client gets, of which `client` came from the origin; what the origin gets; what is left
-- of the client's input; and how it ends
pub record Exchange : Type 0 where
  pub own : List ℕ
  pub client : List ℕ
  pub origin : List ℕ
  pub rest : List ℕ
  pub end : Exchanged

-- the request went out whole, or its body ended early or is refused
abbrev pub answered : HeaderAccess → HttpRequest → List ℕ → List ℕ → Walk → Reading → Exchange
answered access r own origin body reading =
    let reply = replied_if access r reading.final reading.rest in
    if is_whole_body body.place
    then record {
      own = own;
      client = interim_texts access r reading.interim ++ reply.text;
      origin = origin;
      rest = body.rest;
      end = reply.end;
    }
    else record {
      own = own;
      client = [];
      origin = origin;
      rest = [];
      end = if is_refused body.place then BadBody else Cut;
    }

-- the exchange of a request from this address, whose body begins the input, with an origin whose
-- bytes read so
abbrev pub exchange : HeaderAccess → HttpRequest → Address → BodyPlan → List ℕ → Reading → Exchange
exchange access r addr p input reading =
    let body = body_of p (is_chunked p) input in
    answered access r (continue_part r p)
    (head_out_where access.request r addr p ++ body.out) body reading

-- a request that goes out, the address of the client that asked, and the plan of its body
pub record Message : Type 0 where
  pub request : HttpRequest
  pub addr : Address
  pub plan : BodyPlan

abbrev pub message : HttpRequest → Address → BodyPlan → Message
message request addr plan = record { request = request; addr = addr; plan = plan }

-- what a sink held before and now, where it tells that
pub record SinkSeen : Type 0 where
  pub before : Option (List ℕ)
  pub now : Option (List ℕ)

abbrev pub sink : Option (List ℕ) → Option (List ℕ) → SinkSeen
sink before now = record { before = before; now = now }

-- what is seen of an exchange: what is left of the client's input, what went to the client, and
-- what to the origin
pub record ExchangeSeen : Type 0 where
  pub left : Option (List ℕ)
  pub client : Metered
  pub origin : SinkSeen

abbrev pub exchange_seen : Option (List ℕ) → Metered → SinkSeen → ExchangeSeen
exchange_seen left client origin = record { left = left; client = client; origin = origin }

-- both texts were written, and what came from the origin was granted; a kept connection stands
-- behind the body
pub record Exact (x : Exchange) (links : ExchangeSeen) (end : Exchanged) : Type 0 where
  pub client : Appends links.client.before links.client.now (x.own ++ x.client)
  pub granted : links.client.granted_now
      ≡ granted_after links.client.seated links.client.granted_before (length x.client)
  pub origin : Appends links.origin.before links.origin.now x.origin
  pub rest : end ≡ Kept → links.left ≡ Some x.rest
  pub ends : end ≡ x.end

-- fronts of both texts were written, and up to `spare` more was granted than came from the origin
pub record Fronts (x : Exchange) (to : Metered) (to_origin : SinkSeen) (spare : ℕ) : Type 0 where
  pub part : List ℕ
  pub more : ℕ
  pub front : IsPrefix part (x.own ++ x.client)
  pub client : Appends to.before to.now part
  pub granted : to.granted_now
      ≡ granted_after to.seated to.granted_before (length part - length x.own + more)
  pub close : more ≤ spare
  pub origin : Grew to_origin.before to_origin.now (λ part. IsPrefix part x.origin)

-- behind the reply's head: all up to that head was written to the client, and a front of what
-- follows; nothing more was granted
pub record Broken (access : HeaderAccess) (request : HttpRequest) (reading : Reading)
    (x : Exchange) (to : Metered) (to_origin : SinkSeen) : Type 0 where
  pub head : ReplyHead
  pub plan : BodyPlan
  pub final : reading.final ≡ Some head
  pub planned : reply_plan request.method head ≡ Ok plan
  pub fronts : Fronts x to to_origin 0
  pub sent : IsPrefix (x.own
      ++ (interim_texts access request reading.interim
      ++ reply_head_out_where access.reply head (shape_of request plan))) fronts.part

-- no head of the reply's own was reached: all that the client gets without a reply was written, and
-- a front of what the origin gets
pub record Unreached (reading : Reading) (x : Exchange) (to : Metered)
    (to_origin : SinkSeen) : Type 0 where
  pub headless : reading.final ≡ None
  pub client : Appends to.before to.now (x.own ++ x.client)
  pub granted : to.granted_now ≡ granted_after to.seated to.granted_before (length x.client)
  pub origin : Grew to_origin.before to_origin.now (λ part. IsPrefix part x.origin)

-- what an exchange comes to by its answer, where the origin's bytes read so; `all` says that it
-- looked at all of them
abbrev pub EndsExchange : HeaderAccess → HttpRequest → Reading → Exchange → Type 0 → ExchangeSeen
    → Type 0 → Exchanged → Type 0
EndsExchange access request reading x all links failed ClientFault =
    Fronts x links.client links.origin piece_limit
EndsExchange access request reading x all links failed OriginFault =
    Broken access request reading x links.client links.origin
EndsExchange access request reading x all links failed Starved =
    Fronts x links.client links.origin 0
EndsExchange access request reading x all links failed WantOfMemory =
    Fronts x links.client links.origin 0
EndsExchange access request reading x all links failed NoReply =
    (all × Exact x links NoReply) ⊎ (failed × Unreached reading x links.client links.origin)
EndsExchange access request reading x all links failed Kept = all × Exact x links Kept
EndsExchange access request reading x all links failed Closed = all × Exact x links Closed
EndsExchange access request reading x all links failed OriginCut = all × Exact x links OriginCut
EndsExchange access request reading x all links failed Cut = Exact x links Cut
EndsExchange access request reading x all links failed BadBody = Exact x links BadBody

-- the exchange of this message: over a front of the origin's bytes that it looked at, by how these
-- read
pub record Exchanges (access : HeaderAccess) (sent : Message) (input reply : List ℕ)
    (links : ExchangeSeen) (failed : Type 0) (end : Exchanged) : Type 0 where
  pub seen : List ℕ
  pub reading : Reading
  pub front : IsPrefix seen reply
  pub reads : IsReading seen reading
  pub ends : EndsExchange access sent.request reading
      (exchange access sent.request sent.addr sent.plan input reading) (seen ≡ reply) links failed
      end

-- the count of the link that failed rose
abbrev pub ExchangeHasCause : Type 0 → Type 0 → Exchanged → Type 0
ExchangeHasCause client origin ClientFault = client
ExchangeHasCause client origin OriginFault = origin
ExchangeHasCause client origin Kept = ⊤
ExchangeHasCause client origin Closed = ⊤
ExchangeHasCause client origin Cut = ⊤
ExchangeHasCause client origin BadBody = ⊤
ExchangeHasCause client origin NoReply = ⊤
ExchangeHasCause client origin OriginCut = ⊤
ExchangeHasCause client origin Starved = ⊤
ExchangeHasCause client origin WantOfMemory = ⊤

-- how dry the meter is behind an exchange: how many pauses came, each behind a grant that found a
-- bucket empty
abbrev pub dry_after_exchange : Exchanged → ℕ
dry_after_exchange Starved = dry_limit
dry_after_exchange Kept = 0
dry_after_exchange Closed = 0
dry_after_exchange Cut = 0
dry_after_exchange ClientFault = 0
dry_after_exchange BadBody = 0
dry_after_exchange NoReply = 0
dry_after_exchange OriginCut = 0
dry_after_exchange OriginFault = 0
dry_after_exchange WantOfMemory = 0
