-- The request of an exchange, on its way to the origin.
use Rattle.std.specs.Prelude.{◌≡◌, ℕ, List, ◌++◌, true, false, Some, None, IfSome, ⊤}
use Rattle.std.specs.declared.option.Option.{Option}
use Rattle.std.specs.Io.KnownBytes.{Appends}
use Rattle.sq_message.specs.Bodies.{Walk, body_of, is_whole_body, is_refused}
use Rattle.sq_outside.specs.Output.{IsPrefix, Grew}
use Rattle.sq_message.specs.RequestHeads.{head_out_where, is_chunked}
use Rattle.sq_forward.specs.Access.{HeaderAccess}
use Rattle.sq_forward.specs.Exchanges.{Message, SinkSeen, continue_part}
use Rattle.sq_forward.specs.declared.copying.Copied.{Copied}
use Rattle.sq_forward.specs.declared.copying.Copied.TheVariants as copied
use Rattle.sq_forward.specs.declared.exchanging.Exchanged.{Exchanged}
use Rattle.sq_forward.specs.declared.exchanging.Exchanged.TheVariants.{Kept, Closed, Cut, ClientFault, BadBody, NoReply, OriginCut, OriginFault, Starved, WantOfMemory}

-- how the sending of a request ends, by how the copying of its body did
abbrev pub sent : Copied → Option Exchanged
sent copied.Whole = None
sent copied.Cut = Some Cut
sent copied.Bad = Some BadBody
sent copied.NoSource = Some ClientFault
sent copied.NoSink = Some NoReply
sent copied.Starved = Some Starved
sent copied.WantOfMemory = Some WantOfMemory

-- what a client heard that waits, and what the origin got: the head and the body, as far as they go
abbrev pub SentSo : List ℕ → List ℕ → Walk → Option (List ℕ) → SinkSeen → SinkSeen
    → Option Exchanged → Type 0
SentSo own text body left client origin None = (is_whole_body body.place ≡ true)
    × (left ≡ Some body.rest) × Appends client.before client.now own
    × Appends origin.before origin.now text
SentSo own text body left client origin (Some Cut) = (is_whole_body body.place ≡ false)
    × (is_refused body.place ≡ false) × Appends client.before client.now own
    × Appends origin.before origin.now text
SentSo own text body left client origin (Some BadBody) = (is_whole_body body.place ≡ false)
    × (is_refused body.place ≡ true) × Appends client.before client.now own
    × Appends origin.before origin.now text
SentSo own text body left client origin (Some NoReply) = Appends client.before client.now own
    × Grew origin.before origin.now (λ part. IsPrefix part text)
SentSo own text body left client origin (Some Kept) = ⊥
SentSo own text body left client origin (Some Closed) = ⊥
SentSo own text body left client origin (Some OriginCut) = ⊥
SentSo own text body left client origin (Some OriginFault) = ⊥
SentSo own text body left client origin (Some Starved) = ⊥
SentSo own text body left client origin (Some ClientFault) =
    Grew client.before client.now (λ part. IsPrefix part own)
    × Grew origin.before origin.now (λ part. IsPrefix part text)
SentSo own text body left client origin (Some WantOfMemory) =
    Grew client.before client.now (λ part. IsPrefix part own)
    × Grew origin.before origin.now (λ part. IsPrefix part text)

-- the same of a message whose body begins what is to come, where that is told
pub record SendsRequest (access : HeaderAccess) (sent : Message) (first left : Option (List ℕ))
    (client origin : SinkSeen) (ended : Option Exchanged) : Type 0 where
  pub known : IfSome first (λ input.
      SentSo (continue_part sent.request sent.plan)
      (head_out_where access.request sent.request sent.addr sent.plan
      ++ (body_of sent.plan (is_chunked sent.plan) input).out)
      (body_of sent.plan (is_chunked sent.plan) input) left client origin ended)

-- the count of the link that failed rose
abbrev pub SendHasCause : Type 0 → Type 0 → Exchanged → Type 0
SendHasCause client origin ClientFault = client
SendHasCause client origin NoReply = origin
SendHasCause client origin Cut = ⊤
SendHasCause client origin BadBody = ⊤
SendHasCause client origin WantOfMemory = ⊤
SendHasCause client origin Kept = ⊥
SendHasCause client origin Closed = ⊥
SendHasCause client origin OriginCut = ⊥
SendHasCause client origin OriginFault = ⊥
SendHasCause client origin Starved = ⊥
