-- The turns of a session: RFC 9112 section 9.3 (persistence), RFC 9110 sections 7.6 (forwarding),
-- 9.3.6 (CONNECT) and 10.1.1 (100-continue), and Squid's http_access and url_rewrite_program.
use Rattle.std.specs.Prelude.{ℕ, ◌-◌, List, [], ◌∷◌, ◌++◌, length, min, Bool, true, false, ◌||◌, if◌then◌else◌, bytes_eq, codes, Some, None, Ok, Err}
use Rattle.std.specs.declared.option.Option.{Option}
use Rattle.std.specs.declared.result.Result.{Result}
use Rattle.sq_base.specs.Addresses.{Address}
use Rattle.sq_base.specs.Requests.{HttpRequest}
use Rattle.sq_base.specs.declared.plans.BodyPlan.{BodyPlan}
use Rattle.sq_checks.specs.Records.{Judged}
use Rattle.sq_outside.specs.Dials.{Dial}
use Rattle.sq_message.specs.BodyPlans.{request_plan}
use Rattle.sq_message.specs.OwnReplies.{error_text, denial, redirect_text}
use Rattle.sq_message.specs.RequestHeads.{crlf}
use Rattle.sq_message.specs.Wishes.{wants_close, has_body}
use Rattle.sq_message.specs.declared.faults.BadBody as body
use Rattle.sq_message.specs.declared.faults.BadBody.TheVariants.{BothLengths, BadLength, BadCoding}
use Rattle.sq_message.specs.declared.own.Own.{Own}
use Rattle.sq_message.specs.declared.own.Own.TheVariants.{BadRequest, HeadTooLarge, Inner, Stopped, NoMemory, NotImplemented, BadGateway}
use Rattle.sq_forward.specs.Access.{HeaderAccess, header_access}
use Rattle.sq_forward.specs.Exchanges.{Exchange, Message, exchange, message}
use Rattle.sq_forward.specs.Replies.{Reading}
use Rattle.sq_forward.specs.declared.exchanging.Exchanged.{Exchanged}
use Rattle.sq_forward.specs.declared.exchanging.Exchanged.TheVariants as exchanged
use Rattle.sq_turns.specs.Begins.{fits_hosts}
use Rattle.sq_turns.specs.Fronts.{FrontAnswer, OfOpen, OfDecide, OfRewrite, OfSit, OfClose}
use Rattle.sq_turns.specs.declared.beginning.Begun.{Begun}
use Rattle.sq_turns.specs.declared.beginning.Begun.TheVariants as begun
use Rattle.sq_turns.specs.declared.ends.Carried.{Carried}
use Rattle.sq_turns.specs.declared.ends.Carried.TheVariants.{Stays, Closes, Over}
use Rattle.sq_turns.specs.declared.ends.End.TheVariants as end
use Rattle.sq_turns.specs.declared.front.Decided.TheVariants as decided
use Rattle.sq_turns.specs.declared.front.Rewritten.TheVariants as rewritten
use Rattle.sq_turns.specs.declared.front.SitFault.TheVariants as sit

-- what the client gets: the proxy's own line, what came from the origin, and the proxy's own reply;
-- the dial that is made; what is left of the input; answers of the front that were not asked for;
-- how it ends; and whether it is that of an origin that failed
pub record ClientTurn : Type 0 where
  pub own : List ℕ
  pub client : List ℕ
  pub last : List ℕ
  pub dial : Option Dial
  pub rest : List ℕ
  pub unasked : List FrontAnswer
  pub ends : Carried
  pub faulted : Bool

abbrev pub text : ClientTurn → List ℕ
text t = t.own ++ t.client ++ t.last

-- how many of the first n bytes of the text came from the origin
abbrev pub from_origin : ClientTurn → ℕ → ℕ
from_origin t n = min (n - length t.own) (length t.client)

-- an origin's part in a turn: none was reached; or all its bytes, those that were looked at and how
-- they read, and whether its link failed before the head of its reply
pub data Reply : Type 0 where
  NoOrigin : Reply
  Came : List ℕ → List ℕ → Reading → Bool → Reply

abbrev pub is_broken : Reply → Bool
is_broken NoOrigin = false
is_broken (Came bytes seen reading broke) = broke

-- no text
abbrev pub silent : Carried → List FrontAnswer → ClientTurn
silent ends unasked = record {
  own = [];
  client = [];
  last = [];
  dial = None;
  rest = [];
  unasked = unasked;
  ends = ends;
  faulted = false;
}

-- a reply of the proxy's own, behind which the connection closes
abbrev pub says : Own → Bool → List FrontAnswer → ClientTurn
says own no_body unasked = record {
  own = [];
  client = [];
  last = error_text own no_body;
  dial = None;
  rest = [];
  unasked = unasked;
  ends = Closes;
  faulted = false;
}

abbrev pub is_head : HttpRequest → Bool
is_head r = bytes_eq r.method (codes "HEAD")

abbrev pub is_connect : HttpRequest → Bool
is_connect r = bytes_eq r.method (codes "CONNECT")

-- a scheme that is forwarded; CONNECT has none
abbrev pub is_served : HttpRequest → Bool
is_served r = is_connect r || bytes_eq r.scheme (codes "http")

-- how a turn ends by its exchange
abbrev pub carried_of : Exchanged → Carried
carried_of exchanged.Kept = Stays
carried_of exchanged.Closed = Closes
carried_of exchanged.Cut = Over end.Cut
carried_of exchanged.ClientFault = Over end.ClientFault
carried_of exchanged.BadBody = Over end.Cut
carried_of exchanged.NoReply = Closes
carried_of exchanged.OriginCut = Over end.OriginCut
carried_of exchanged.OriginFault = Over end.OriginFault
carried_of exchanged.Starved = Over end.Starved
carried_of exchanged.WantOfMemory = Over end.WantOfMemory

-- what a client hears of a gateway that has no reply
abbrev pub gateway_part : Exchanged → Bool → List ℕ
gateway_part exchanged.NoReply no_body = error_text BadGateway no_body
gateway_part exchanged.Kept no_body = []
gateway_part exchanged.Closed no_body = []
gateway_part exchanged.Cut no_body = []
gateway_part exchanged.ClientFault no_body = []
gateway_part exchanged.BadBody no_body = []
gateway_part exchanged.OriginCut no_body = []
gateway_part exchanged.OriginFault no_body = []
gateway_part exchanged.Starved no_body = []
gateway_part exchanged.WantOfMemory no_body = []

-- a dial of the request's host and port
abbrev pub dial_to : HttpRequest → List ℕ → List ℕ → Dial
dial_to r bytes written = record {
  origin = record { host = r.host; port = r.port; bytes = bytes };
  written = written;
}

-- which fields of heads go on, by the configuration of a record and what that saw
abbrev pub access_of : Judged → HeaderAccess
access_of j = header_access j.config j.sight

-- an exchange that ends so
abbrev pub exchanged_turn : HttpRequest → List ℕ → Bool → Exchanged → Exchange → List FrontAnswer
    → ClientTurn
exchanged_turn r bytes broke ends x unasked = record {
  own = x.own;
  client = x.client;
  last = gateway_part ends (is_head r);
  dial = Some (dial_to r bytes x.origin);
  rest = x.rest;
  unasked = unasked;
  ends = carried_of ends;
  faulted = broke;
}

-- what a client hears whose tunnel is there
abbrev pub established_text : List ℕ
established_text = codes "HTTP/1.1 200 Connection established" ++ crlf ++ crlf

abbrev pub tunnelled_turn : HttpRequest → List ℕ → List ℕ → List FrontAnswer → ClientTurn
tunnelled_turn r bytes rest unasked =
    record {
      own = established_text;
      client = bytes;
      last = [];
      dial = Some (dial_to r bytes rest);
      rest = [];
      unasked = unasked;
      ends = Closes;
      faulted = false;
    }

-- an exchange whose link to the origin failed before the reply's head has no reply
abbrev pub ends_exchange : Bool → Exchange → Exchanged
ends_exchange broke x = if broke then exchanged.NoReply else x.end

-- behind the dial: the tunnel, or the exchange
abbrev pub forwarded : HeaderAccess → Message → List ℕ → List ℕ → Reading → Bool
    → List FrontAnswer → ClientTurn
forwarded access sent rest bytes reading broke unasked =
    if is_connect sent.request then tunnelled_turn sent.request bytes rest unasked
    else exchanged_turn sent.request bytes broke
    (ends_exchange broke (exchange access sent.request sent.addr sent.plan rest reading))
    (exchange access sent.request sent.addr sent.plan rest reading) unasked

-- an origin that was not reached
abbrev pub unreached : HttpRequest → List FrontAnswer → ClientTurn
unreached r unasked = record {
  own = [];
  client = [];
  last = error_text BadGateway (is_head r);
  dial = None;
  rest = [];
  unasked = unasked;
  ends = Closes;
  faulted = true;
}

-- from the dial on
abbrev pub dialled : HeaderAccess → HttpRequest → Address → BodyPlan → List ℕ → List FrontAnswer
    → Reply
    → ClientTurn
dialled access r addr p rest unasked NoOrigin = unreached r unasked
dialled access r addr p rest unasked (Came bytes seen reading broke) =
    forwarded access (message r addr p) rest bytes reading broke unasked

-- from the seat on
abbrev pub seated : HeaderAccess → HttpRequest → Address → BodyPlan → List ℕ → List FrontAnswer
    → Reply
    → ClientTurn
seated access r addr p rest (OfSit k (Ok u) ∷ more) reply = dialled access r addr p rest more reply
seated access r addr p rest (OfSit k (Err sit.Spent) ∷ more) reply = says Inner (is_head r) more
seated access r addr p rest (OfSit k (Err sit.WantOfMemory) ∷ more) reply = says NoMemory
    (is_head r) more
seated access r addr p rest (OfDecide q d ∷ more) reply = silent (Over end.WantOfMemory)
    (OfDecide q d ∷ more)
seated access r addr p rest (OfRewrite j said ∷ more) reply = silent (Over end.WantOfMemory)
    (OfRewrite j said ∷ more)
seated access r addr p rest (OfOpen a port o ∷ more) reply = silent (Over end.WantOfMemory)
    (OfOpen a port o ∷ more)
seated access r addr p rest (OfClose c ∷ more) reply = silent (Over end.WantOfMemory)
    (OfClose c ∷ more)
seated access r addr p rest [] reply = silent (Over end.WantOfMemory) []

-- from the scheme on: an allowed request, which goes on as this one
abbrev pub carried : HeaderAccess → HttpRequest → Address → BodyPlan → List ℕ → List FrontAnswer
    → Reply
    → ClientTurn
carried access r addr p rest answers reply = if is_served r then seated access r addr p rest answers
    reply
    else says NotImplemented (is_head r) answers

-- the client is sent elsewhere, behind which the connection closes
abbrev pub redirected : ℕ → List ℕ → List FrontAnswer → ClientTurn
redirected code url unasked = record {
  own = [];
  client = [];
  last = redirect_text code url;
  dial = None;
  rest = [];
  unasked = unasked;
  ends = Closes;
  faulted = false;
}

-- from the rewriter on: the request goes on as it is, or another one in its place with the body
-- that comes, or the client is sent elsewhere
abbrev pub rewritten_on : HeaderAccess → HttpRequest → Address → BodyPlan → List ℕ
    → List FrontAnswer → Reply
    → ClientTurn
rewritten_on access r addr p rest (OfRewrite j rewritten.Same ∷ more) reply = carried access r addr
    p rest more reply
rewritten_on access r addr p rest (OfRewrite j (rewritten.New new) ∷ more) reply =
    carried access new addr p rest more reply
rewritten_on access r addr p rest (OfRewrite j (rewritten.Redirect code url) ∷ more) reply =
    redirected code url more
rewritten_on access r addr p rest (OfRewrite j rewritten.WantOfMemory ∷ more) reply =
    says NoMemory (is_head r) more
rewritten_on access r addr p rest (OfDecide q d ∷ more) reply = silent (Over end.WantOfMemory)
    (OfDecide q d ∷ more)
rewritten_on access r addr p rest (OfSit k s ∷ more) reply = silent (Over end.WantOfMemory)
    (OfSit k s ∷ more)
rewritten_on access r addr p rest (OfOpen a port o ∷ more) reply = silent (Over end.WantOfMemory)
    (OfOpen a port o ∷ more)
rewritten_on access r addr p rest (OfClose c ∷ more) reply = silent (Over end.WantOfMemory)
    (OfClose c ∷ more)
rewritten_on access r addr p rest [] reply = silent (Over end.WantOfMemory) []

-- an allowed request: the rewriter is asked about each but CONNECT
abbrev pub allowed : HeaderAccess → HttpRequest → Address → BodyPlan → List ℕ → List FrontAnswer
    → Reply
    → ClientTurn
allowed access r addr p rest answers reply = if is_connect r then carried access r addr p rest
    answers reply
    else rewritten_on access r addr p rest answers reply

-- a denial closes the connection but where the request has no body and the connection stays
-- otherwise
abbrev pub denied_closes : HttpRequest → BodyPlan → Bool
denied_closes r p = has_body p || wants_close r

abbrev pub stays_unless : Bool → Carried
stays_unless closes = if closes then Closes else Stays

abbrev pub denied : HttpRequest → BodyPlan → List ℕ → Judged → List FrontAnswer → ClientTurn
denied r p rest j unasked = record {
  own = [];
  client = [];
  last = denial j.outcome (is_head r) (denied_closes r p);
  dial = None;
  rest = rest;
  unasked = unasked;
  ends = stays_unless (denied_closes r p);
  faulted = false;
}

-- the verdict of a record
abbrev pub recorded : HttpRequest → Address → BodyPlan → List ℕ → Judged → List FrontAnswer → Reply
    → ClientTurn
recorded r addr p rest j answers reply = if j.outcome.allow then allowed (access_of j) r addr p rest
    answers reply
    else denied r p rest j answers

-- from the verdict on
abbrev pub judged : HttpRequest → Address → BodyPlan → List ℕ → List FrontAnswer → Reply
    → ClientTurn
judged r addr p rest (OfDecide q (decided.Record j) ∷ more) reply =
    recorded r addr p rest j more reply
judged r addr p rest (OfDecide q (decided.Mismatch other) ∷ more) reply =
    says Inner (is_head r) more
judged r addr p rest (OfDecide q (decided.Refused why) ∷ more) reply = says Inner (is_head r) more
judged r addr p rest (OfDecide q decided.JournalFault ∷ more) reply = says Stopped (is_head r) more
judged r addr p rest (OfDecide q decided.WantOfMemory ∷ more) reply = says NoMemory (is_head r) more
judged r addr p rest (OfRewrite j said ∷ more) reply = silent (Over end.WantOfMemory)
    (OfRewrite j said ∷ more)
judged r addr p rest (OfSit k s ∷ more) reply = silent (Over end.WantOfMemory) (OfSit k s ∷ more)
judged r addr p rest (OfOpen a port o ∷ more) reply = silent (Over end.WantOfMemory)
    (OfOpen a port o ∷ more)
judged r addr p rest (OfClose c ∷ more) reply = silent (Over end.WantOfMemory) (OfClose c ∷ more)
judged r addr p rest [] reply = silent (Over end.WantOfMemory) []

-- the reply to a body that is refused
abbrev pub body_own : body.BadBody → Own
body_own BothLengths = BadRequest
body_own BadLength = BadRequest
body_own BadCoding = NotImplemented

-- from the body's plan on
abbrev pub planned : HttpRequest → Address → Result BodyPlan body.BadBody → List ℕ
    → List FrontAnswer → Reply → ClientTurn
planned r addr (Err bad) rest answers reply = says (body_own bad) (is_head r) answers
planned r addr (Ok p) rest answers reply = judged r addr p rest answers reply

-- a request, with what follows its head
abbrev pub asked : HttpRequest → Address → List ℕ → List FrontAnswer → Reply → ClientTurn
asked r addr rest answers reply = if fits_hosts r then planned r addr (request_plan r) rest answers
    reply else says BadRequest (is_head r) answers

-- one turn: from what the input begins with and what follows that, the answers that the front gave,
-- and the origin
abbrev pub turn : Address → Begun → List ℕ → List FrontAnswer → Reply → ClientTurn
turn addr (begun.Asks r) rest answers reply = asked r addr rest answers reply
turn addr begun.Nothing rest answers reply = silent Closes answers
turn addr begun.Cut rest answers reply = silent (Over end.Cut) answers
turn addr begun.TooLarge rest answers reply = says HeadTooLarge false answers
turn addr begun.Bad rest answers reply = says BadRequest false answers
turn addr begun.Failed rest answers reply = silent (Over end.ClientFault) answers
turn addr begun.WantOfMemory rest answers reply = says NoMemory false answers
