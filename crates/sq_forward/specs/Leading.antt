-- The heads of an origin's bytes, one after the other, up to the reply's own.
use Rattle.std.specs.Prelude.{◌≡◌, ◌⊎◌, ℕ, ◌≤◌, List, [], ◌++◌, length, Bool, false, Some, None, Ok, Err, IfSome, ⊤, if◌then◌else◌, ◌==◌}
use Rattle.std.specs.declared.option.Option.{Option}
use Rattle.std.specs.declared.result.Result.{Result}
use Rattle.sq_base.specs.Requests.{HttpRequest}
use Rattle.sq_base.specs.declared.plans.BodyPlan.{BodyPlan}
use Rattle.sq_outside.specs.Output.{IsPrefix}
use Rattle.sq_message.specs.BodyPlans.{reply_plan}
use Rattle.sq_message.specs.ReplyHeads.{reply_head_out_where}
use Rattle.sq_message.specs.declared.replies.ReplyHead.{ReplyHead}
use Rattle.sq_forward.specs.Access.{HeaderAccess}
use Rattle.sq_forward.specs.Exchanges.{shape_of, interim_texts, replied, dry_after_exchange}
use Rattle.sq_forward.specs.Meters.{Metered, PaysAll, PaysPart, piece_limit}
use Rattle.sq_forward.specs.Replies.{BeginsHead, AreInterim, IsReading, is_interim, interim_limit}
use Rattle.sq_forward.specs.declared.copying.Copied.{Copied}
use Rattle.sq_forward.specs.declared.copying.Copied.TheVariants as copied
use Rattle.sq_forward.specs.declared.exchanging.Exchanged.{Exchanged}
use Rattle.sq_forward.specs.declared.exchanging.Exchanged.TheVariants.{Kept, Closed, Cut, ClientFault, BadBody, NoReply, OriginCut, OriginFault, Starved, WantOfMemory}
use Rattle.sq_forward.specs.declared.replies.NoHead.{NoHead}
use Rattle.sq_forward.specs.declared.replies.NoHead.TheVariants as none

-- the one head that bytes begin with was taken
pub record TakenHead (bytes : List ℕ) (left : Option (List ℕ)) (h : ReplyHead) : Type 0 where
  pub rest : List ℕ
  pub left_is : left ≡ Some rest
  pub begins : BeginsHead bytes h rest
  pub one : (other : ReplyHead) (more : List ℕ) → BeginsHead bytes other more → other ≡ h

-- a head was taken, or the bytes begin with none
abbrev pub TakesHead : List ℕ → Option (List ℕ) → Result ReplyHead NoHead → Type 0
TakesHead bytes left (Ok h) = TakenHead bytes left h
TakesHead bytes left (Err none.Missing) = (h : ReplyHead) (rest : List ℕ) → BeginsHead bytes h rest
    → ⊥
TakesHead bytes left (Err none.Failed) = ⊤
TakesHead bytes left (Err none.WantOfMemory) = ⊤

-- behind heads that are not the reply's own, which were passed on, stands its own, and it was taken
pub record LedTo (access : HeaderAccess) (request : HttpRequest) (bytes : List ℕ)
    (left : Option (List ℕ)) (to : Metered) (final : ReplyHead) : Type 0 where
  pub heads : List ℕ
  pub more : List ℕ
  pub interim : List ReplyHead
  pub rest : List ℕ
  pub cut : bytes ≡ heads ++ more
  pub are : AreInterim heads interim
  pub few : length interim ≤ interim_limit
  pub begins : BeginsHead more final rest
  pub own : is_interim final ≡ false
  pub goes : final.status ≡ 101 → ⊥
  pub left_is : left ≡ Some rest
  pub pays : PaysAll (interim_texts access request interim) to

-- how much of the heads that were looked at went to the client
abbrev pub PaysHeads : List ℕ → Metered → Exchanged → Type 0
PaysHeads text to NoReply = PaysAll text to
PaysHeads text to ClientFault = PaysPart text to piece_limit
PaysHeads text to Starved = PaysPart text to 0
PaysHeads text to WantOfMemory = PaysPart text to 0
PaysHeads text to Kept = ⊥
PaysHeads text to Closed = ⊥
PaysHeads text to Cut = ⊥
PaysHeads text to BadBody = ⊥
PaysHeads text to OriginCut = ⊥
PaysHeads text to OriginFault = ⊥

-- the count of the client's link rose where that failed
abbrev pub LeadHasCause : Type 0 → Exchanged → Type 0
LeadHasCause client ClientFault = client
LeadHasCause client NoReply = ⊤
LeadHasCause client Starved = ⊤
LeadHasCause client WantOfMemory = ⊤
LeadHasCause client Kept = ⊥
LeadHasCause client Closed = ⊥
LeadHasCause client Cut = ⊥
LeadHasCause client BadBody = ⊥
LeadHasCause client OriginCut = ⊥
LeadHasCause client OriginFault = ⊥

-- no reply's own head was reached: a front of the bytes was looked at, which is all of them where
-- no link failed
pub record LedNowhere (access : HeaderAccess) (request : HttpRequest) (bytes : List ℕ)
    (to : Metered) (failed : Type 0) (end : Exchanged) : Type 0 where
  pub seen : List ℕ
  pub interim : List ReplyHead
  pub front : IsPrefix seen bytes
  pub reads : IsReading seen (record { interim = interim; final = None; rest = [] })
  pub all : end ≡ NoReply → (seen ≡ bytes) ⊎ failed
  pub pays : PaysHeads (interim_texts access request interim) to end

abbrev pub Leads : HeaderAccess → HttpRequest → List ℕ → Option (List ℕ) → Metered → Type 0
    → Result ReplyHead Exchanged → Type 0
Leads access request bytes left to failed (Ok final) = LedTo access request bytes left to final
Leads access request bytes left to failed (Err end) =
    LedNowhere access request bytes to failed end

-- the same of what is to come, where that is told
pub record LeadsReply (access : HeaderAccess) (request : HttpRequest)
    (first left : Option (List ℕ)) (to : Metered) (failed : Type 0)
    (led : Result ReplyHead Exchanged) : Type 0 where
  pub known : IfSome first (λ bytes. Leads access request bytes left to failed led)

-- the reply's head went to the client, and a front of its body
pub record SentHead (access : HeaderAccess) (request : HttpRequest) (head : ReplyHead)
    (text : List ℕ) (to : Metered) : Type 0 where
  pub plan : BodyPlan
  pub planned : reply_plan request.method head ≡ Ok plan
  pub pays : PaysPart text to 0
  pub sent : IsPrefix (reply_head_out_where access.reply head (shape_of request plan)) pays.part

-- how much of the reply went to the client
abbrev pub SentReply : HeaderAccess → HttpRequest → ReplyHead → List ℕ → Exchanged → Metered
    → Exchanged → Type 0
SentReply access request head text end to ClientFault = PaysPart text to piece_limit
SentReply access request head text end to OriginFault = SentHead access request head text to
SentReply access request head text end to Starved = PaysPart text to 0
SentReply access request head text end to WantOfMemory = PaysPart text to 0
SentReply access request head text end to Kept = PaysAll text to × (Kept ≡ end)
SentReply access request head text end to Closed = PaysAll text to × (Closed ≡ end)
SentReply access request head text end to OriginCut = PaysAll text to × (OriginCut ≡ end)
SentReply access request head text end to NoReply = PaysAll text to × (NoReply ≡ end)
SentReply access request head text end to Cut = ⊥
SentReply access request head text end to BadBody = ⊥

-- the reply with this head, whose body begins what is to come, where that is told
pub record SendsReply (access : HeaderAccess) (request : HttpRequest) (head : ReplyHead)
    (first : Option (List ℕ)) (to : Metered) (end : Exchanged) : Type 0 where
  pub known : IfSome first
      (λ bytes. SentReply access request head (replied access request head bytes).text
      (replied access request head bytes).end to end)

-- the reply's own head may not be 101
abbrev pub own_head : ReplyHead → Result ReplyHead Exchanged
own_head h = if h.status == 101 then Err NoReply else Ok h

-- how much of a text went to the client
abbrev pub SendsText : {T : Type 0} → List ℕ → Metered → Result T Exchanged → Type 0
SendsText text to (Ok u) = PaysAll text to
SendsText text to (Err end) = PaysHeads text to end

-- how dry the meter is then: how many pauses came, each behind a grant that found a bucket empty
abbrev pub dry_after_sending : {T : Type 0} → Result T Exchanged → ℕ
dry_after_sending (Ok x) = 0
dry_after_sending (Err end) = dry_after_exchange end

abbrev pub complete : Bool → Exchanged
complete closes = if closes then Closed else Kept

-- how the exchange ends, by how the copying of the reply's body did
abbrev pub body_sent : Copied → Bool → Bool → Exchanged
body_sent copied.Whole to_close closes = complete closes
body_sent copied.Cut to_close closes = if to_close then complete closes else OriginCut
body_sent copied.Bad to_close closes = OriginCut
body_sent copied.NoSource to_close closes = OriginFault
body_sent copied.NoSink to_close closes = ClientFault
body_sent copied.Starved to_close closes = Starved
body_sent copied.WantOfMemory to_close closes = WantOfMemory
