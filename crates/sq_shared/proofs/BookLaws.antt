-- Books, over a history that grows.
use Rattle.std.proofs.Common.{◌≡◌, ℕ, ◌+◌, min, List, ◌∷◌, Bool, true, false, Result, Ok, Err, Some, None, IfSome, IsSome, IfOk, OnOk, refl, sym, ap, subst, ◌∙◌, arith}
use Rattle.std.specs.Option.{ForSome}
use Rattle.std.specs.declared.option.Option.{Option}
use Rattle.std.proofs.lemmas.Bool.{false≢true}
use Rattle.sq_outside.specs.Causes.{count_limit, raised}
use Rattle.sq_base.specs.Addresses.{Address}
use Rattle.sq_base.specs.Requests.{HttpRequest}
use Rattle.sq_calls.specs.Legality.{Beginning}
use Rattle.sq_calls.specs.Telling.{AddsOne, AddsSome, CountsReconfigured, CountsLine, CountsRefusal, IsAsking, IsClosing, IsDead, IsEventOf, IsFailed, IsLine, IsOpening, IsReread, IsStarted, IsStep, IsStepTold, IsTakeTold, IsTaking, MayAct, Notes, NotesAs, got_told, noted_at}
use Rattle.sq_calls.specs.declared.faults.DeskFault.{DeskFault}
use Rattle.sq_calls.specs.declared.faults.DeskFault.TheVariants as fault
use Rattle.sq_channel.specs.declared.replies.Got.{Got}
use Rattle.sq_channel.specs.declared.replies.Got.TheVariants as got
use Rattle.sq_checks.specs.Records.{Judged}
use Rattle.sq_model.specs.declared.stepping.Stepped.{Stepped}
use Rattle.sq_machine.specs.declared.entries.Told.TheVariants as answer
use Rattle.sq_rules.specs.Configurations.{Configuration}
use Rattle.sq_machine.specs.declared.acts.Act.{Act}
use Rattle.sq_machine.specs.declared.entries.Event.{Event}
use Rattle.sq_machine.specs.declared.entries.Event.TheVariants as event
use Rattle.sq_machine.specs.declared.entries.Told.{Told}
use Rattle.sq_machine.specs.Entries.{History, entry_at}
use Rattle.sq_machine.specs.Events.{begins_epoch}
use Rattle.sq_machine.specs.Readings.{current, epoch_after}
use Rattle.sq_shared.specs.Books.{AreCounted, SharesLine, SharesMade, SharesRefusal, asks_in, counted, is_ask}

-- an event that is a request exactly where `a`, and begins an epoch exactly where `b`
abbrev IsOf : Bool → Bool → (Event → Type 0) → Type 0
IsOf a b P = (e : Event) → P e → (is_ask e ≡ a) × (begins_epoch e ≡ b)

-- the same of a journal, by whether it is told
If : ℕ → ℕ → Option History → Type 0
If asks makes told = IfSome told (λ h. (asks ≡ asks_in h) × (makes + 1 ≡ current h))

if_for : {T : Type 0} (o : Option T) (P : T → Type 0) → ForSome o P → IfSome o P
if_for None P f = tt
if_for (Some x) P f = f x refl

for_if : {T : Type 0} (o : Option T) (P : T → Type 0) → IfSome o P → ForSome o P
for_if None P p x e = absurd (cc)
for_if (Some y) P p x e = let same : y ≡ x = cc in subst P same p

epochs : (b : Bool) (n k : ℕ) → n + 1 ≡ k → counted b n + 1 ≡ epoch_after b k
epochs true n k e = omega (arith, e)
epochs false n k e = e

counted_entry : (a b : Bool) (asks makes : ℕ) (h : History) (moment : ℕ) (e : Event) (answer : Told)
    → (is_ask e ≡ a) × (begins_epoch e ≡ b)
    → (asks ≡ asks_in h) × (makes + 1 ≡ current h)
    → (counted a asks ≡ asks_in (entry_at moment e answer ∷ h))
    × (counted b makes + 1 ≡ current (entry_at moment e answer ∷ h))
counted_entry a b asks makes h moment e answer (is_a, is_b) (n, k) = (
  ap (λ m. counted a m) n ∙ sym (ap (λ c. counted c (asks_in h)) is_a),
  epochs b makes (current h) k ∙ sym (ap (λ c. epoch_after c (current h)) is_b),
)

if_one : (first : Option Beginning) (now : ℕ) (a b : Bool) (P : Event → Type 0) (answer : Told)
    (old new : Option History)
    (asks makes : ℕ) → IsOf a b P → AddsOne first now P answer old new
    → If asks makes old → If (counted a asks) (counted b makes) new
unfolding If
if_one first now a b P answer None new asks makes of is c = subst (If (counted a asks) (counted b makes)) (sym is) tt
if_one first now a b P answer (Some h) new asks makes of (e, p, enters) c =
    subst (If (counted a asks) (counted b makes)) (sym enters.entry)
    (counted_entry a b asks makes h (noted_at now h) e answer (of e p) c)

if_some : (first : Option Beginning) (now : ℕ) (R : Told → Type 0) (P : Event → Type 0) (old new : Option History)
    (asks makes : ℕ) → IsOf false false P → AddsSome first now R P old new
    → If asks makes old → If asks makes new
unfolding If
if_some first now R P None new asks makes of is c = subst (If asks makes) (sym is) tt
if_some first now R P (Some h) new asks makes of (answer, r, e, p, enters) c =
    subst (If asks makes) (sym enters.entry)
    (counted_entry false false asks makes h (noted_at now h) e answer (of e p) c)

counted_one : (first : Option Beginning) (now : ℕ) (a b : Bool) (P : Event → Type 0) (answer : Told)
    (old new : Option History) (asks makes : ℕ) → IsOf a b P → AddsOne first now P answer old new
    → AreCounted asks makes old → AreCounted (counted a asks) (counted b makes) new
unfolding If
counted_one first now a b P answer old new asks makes of is c = for_if new _
    (if_one first now a b P answer old new asks makes of is (if_for old _ c))

counted_some : (first : Option Beginning) (now : ℕ) (R : Told → Type 0) (P : Event → Type 0) (old new : Option History)
    (asks makes : ℕ) → IsOf false false P → AddsSome first now R P old new
    → AreCounted asks makes old → AreCounted asks makes new
unfolding If
counted_some first now R P old new asks makes of is c = for_if new _
    (if_some first now R P old new asks makes of is (if_for old _ c))

-- a call of which the entry is neither a request nor a reconfiguration
counted_notes : {A : Type 0} (first : Option Beginning) (now : ℕ) (told : A → Told) (P : Event → Type 0)
    (old new : Option History) (r : Result A DeskFault) (asks makes : ℕ) → IsOf false false P
    → Notes first now told P old new r → AreCounted asks makes old → AreCounted asks makes new
counted_notes first now told P old new (Ok a) asks makes of is c = counted_one first now false false P (told a) old new
    asks makes of is c
counted_notes first now told P old new (Err f) asks makes of is c = subst (AreCounted asks makes) (sym is) c

counted_notes_as : {A : Type 0} (first : Option Beginning) (now : ℕ) (R : A → Told → Type 0) (P : Event → Type 0)
    (old new : Option History) (r : Result A DeskFault) (asks makes : ℕ) → IsOf false false P
    → NotesAs first now R P old new r → AreCounted asks makes old → AreCounted asks makes new
counted_notes_as first now R P old new (Ok a) asks makes of is c = counted_some first now (R a) P old new asks makes of
    is c
counted_notes_as first now R P old new (Err f) asks makes of is c = subst (AreCounted asks makes) (sym is) c

pub counted_act : (first : Option Beginning) (now : ℕ) (old new : Option History) (r : Result (Option Act) DeskFault)
    (asks makes : ℕ) → MayAct first now old new r
    → AreCounted asks makes old → AreCounted asks makes new
counted_act first now old new (Ok (Some a)) asks makes is c = counted_some first now (IsEventOf a) (λ e. e ≡ event.Act)
    old new asks makes
    (λ e p. (ap is_ask p, ap begins_epoch p)) is c
counted_act first now old new (Ok None) asks makes is c = subst (AreCounted asks makes) (sym is.1) c
counted_act first now old new (Err f) asks makes is c = subst (AreCounted asks makes) (sym is) c

-- the same of each call
pub kept_open : (first : Option Beginning) (now : ℕ) (conn port : ℕ) (addr : Address) (old new : Option History)
    (r : Result (Unit {0}) DeskFault)
    (asks makes : ℕ) → Notes first now (λ _. answer.Fine) (IsOpening conn addr port) old new r
    → AreCounted asks makes old → AreCounted asks makes new
kept_open first now conn port addr old new r asks makes = counted_notes first now _ (IsOpening conn addr port) old new
    r asks makes
    (λ e p. (ap is_ask p, ap begins_epoch p))

pub kept_close : (first : Option Beginning) (now : ℕ) (conn : ℕ) (old new : Option History)
    (r : Result (Unit {0}) DeskFault) (asks makes : ℕ)
    → Notes first now (λ _. answer.Fine) (IsClosing conn) old new r
    → AreCounted asks makes old → AreCounted asks makes new
kept_close first now conn old new r asks makes = counted_notes first now _ (IsClosing conn) old new r asks makes
    (λ e p. (ap is_ask p, ap begins_epoch p))

pub kept_died : (first : Option Beginning) (now : ℕ) (proc : ℕ) (old new : Option History)
    (r : Result (Unit {0}) DeskFault) (asks makes : ℕ)
    → Notes first now (λ _. answer.Fine) (IsDead proc) old new r
    → AreCounted asks makes old → AreCounted asks makes new
kept_died first now proc old new r asks makes = counted_notes first now _ (IsDead proc) old new r asks makes
    (λ e p. (ap is_ask p, ap begins_epoch p))

pub kept_failed : (first : Option Beginning) (now : ℕ) (epoch class : ℕ) (old new : Option History)
    (r : Result (Unit {0}) DeskFault) (asks makes : ℕ)
    → Notes first now (λ _. answer.Fine) (IsFailed first old epoch class) old new r
    → AreCounted asks makes old → AreCounted asks makes new
kept_failed first now epoch class old new r asks makes = counted_notes first now _ (IsFailed first old epoch class) old
    new r asks
    makes (λ e p. (ap is_ask p.2, ap begins_epoch p.2))

pub kept_started : (first : Option Beginning) (now : ℕ) (epoch class : ℕ) (old new : Option History)
    (r : Result ℕ DeskFault)
    (asks makes : ℕ) → Notes first now answer.Proc (IsStarted first old epoch class) old new r
    → AreCounted asks makes old → AreCounted asks makes new
kept_started first now epoch class old new r asks makes = counted_notes first now _ (IsStarted first old epoch class)
    old new r asks
    makes (λ e p. (ap is_ask p.2, ap begins_epoch p.2))

pub kept_line : (first : Option Beginning) (now : ℕ) (proc : ℕ) (bytes : List ℕ) (old new : Option History)
    (r : Result Got DeskFault) (asks makes : ℕ)
    → Notes first now got_told (IsLine proc bytes) old new r
    → AreCounted asks makes old → AreCounted asks makes new
kept_line first now proc bytes old new r asks makes = counted_notes first now _ (IsLine proc bytes) old new r asks makes
    (λ e p. (ap is_ask p, ap begins_epoch p))

pub kept_step : (first : Option Beginning) (now : ℕ) (check : ℕ) (old new : Option History)
    (r : Result Stepped DeskFault) (asks makes : ℕ)
    → NotesAs first now IsStepTold (IsStep check) old new r
    → AreCounted asks makes old → AreCounted asks makes new
kept_step first now check old new r asks makes = counted_notes_as first now IsStepTold (IsStep check) old new r asks
    makes
    (λ e p. (ap is_ask p, ap begins_epoch p))

pub kept_take : (first : Option Beginning) (now : ℕ) (check : ℕ) (old new : Option History)
    (r : Result Judged DeskFault) (asks makes : ℕ)
    → NotesAs first now IsTakeTold (IsTaking check) old new r
    → AreCounted asks makes old → AreCounted asks makes new
kept_take first now check old new r asks makes = counted_notes_as first now IsTakeTold (IsTaking check) old new r asks
    makes
    (λ e p. (ap is_ask p, ap begins_epoch p))

-- a request that was made is counted
pub kept_ask : (first : Option Beginning) (now : ℕ) (conn : ℕ) (request : HttpRequest) (old new : Option History)
    (r : Result ℕ DeskFault)
    (asks more makes : ℕ) → Notes first now answer.Check (IsAsking conn request) old new r
    → SharesMade asks more r → AreCounted asks makes old → AreCounted more makes new
kept_ask first now conn request old new (Ok n) asks more makes is made c =
    subst (λ k. AreCounted k makes new) (sym made)
    (counted_one first now true false (IsAsking conn request) (answer.Check n) old new asks makes
    (λ e p. (ap is_ask p, ap begins_epoch p)) is c)
kept_ask first now conn request old new (Err f) asks more makes is made c =
    subst (λ k. AreCounted k makes new) (sym made) (subst (AreCounted asks makes) (sym is) c)

-- and so is a reconfiguration
pub kept_reread : (first : Option Beginning) (now : ℕ) (config : Configuration) (old new : Option History)
    (r : Result ℕ DeskFault) (asks makes more : ℕ)
    → Notes first now answer.Epoch (IsReread config) old new r
    → SharesMade makes more r → AreCounted asks makes old → AreCounted asks more new
kept_reread first now config old new (Ok n) asks makes more is made c =
    subst (λ k. AreCounted asks k new) (sym made)
    (counted_one first now false true (IsReread config) (answer.Epoch n) old new asks makes
    (λ e p. (ap is_ask p, ap begins_epoch p)) is c)
kept_reread first now config old new (Err f) asks makes more is made c =
    subst (λ k. AreCounted asks k new) (sym made) (subst (AreCounted asks makes) (sym is) c)

if_made : (old new : Option ℕ) (r : Result ℕ DeskFault) (makes more : ℕ) → CountsReconfigured old new r
    → OnOk r (IsSome old) → SharesMade makes more r
    → IfSome old (λ m. m ≡ makes) → IfSome new (λ m. m ≡ more)
if_made None new (Ok e) makes more c some made is = absurd (false≢true some)
if_made (Some m) new (Ok e) makes more c some made is = subst (λ o. IfSome o (λ k. k ≡ more)) (sym c.0)
    (omega (arith, made, is))
if_made old new (Err f) makes more c some made is = subst (λ o. IfSome o (λ k. k ≡ more)) (sym c)
    (subst (λ n. IfSome old (λ m. m ≡ n)) (sym made) is)

-- the count of reconfigurations that the desk tells is the book's
pub kept_made : (old new : Option ℕ) (r : Result ℕ DeskFault) (makes more : ℕ) → CountsReconfigured old new r
    → OnOk r (IsSome old) → SharesMade makes more r
    → ForSome old (λ m. m ≡ makes) → ForSome new (λ m. m ≡ more)
kept_made old new r makes more c some made is = for_if new _
    (if_made old new r makes more c some made (if_for old _ is))

if_whole : (old new : Option ℕ) (r : Result ℕ DeskFault) (makes amount more : ℕ) → CountsReconfigured old new r
    → OnOk r (IsSome old) → IfSome old (λ m. m ≡ makes)
    → amount ≡ makes → SharesMade amount more r → IfOk r (λ e. e ≡ more + 1)
if_whole None new (Ok e) makes amount more c some is whole made = absurd (false≢true some)
if_whole (Some m) new (Ok e) makes amount more c some is whole made = omega (arith, made, is, whole, c.1)
if_whole old new (Err f) makes amount more c some is whole made = tt

-- where the share is the whole book's, the epoch is one above it
pub epoch_whole : (old new : Option ℕ) (r : Result ℕ DeskFault) (makes amount more : ℕ) → CountsReconfigured old new r
    → OnOk r (IsSome old) → ForSome old (λ m. m ≡ makes)
    → amount ≡ makes → SharesMade amount more r → IfOk r (λ e. e ≡ more + 1)
epoch_whole old new r makes amount more c some is whole made =
    if_whole old new r makes amount more c some (if_for old _ is) whole made

-- a count that stands at its limit is that of a book that goes on
raised_book : (n m total more : ℕ) → n ≡ min total count_limit → m ≡ raised n → more ≡ total + 1
    → m ≡ min more count_limit
raised_book n m total more e f g = grind arith

same_book : (n m total more : ℕ) → n ≡ min total count_limit → m ≡ n → more ≡ total → m ≡ min more count_limit
same_book n m total more e f g = f ∙ e ∙ ap (λ k. min k count_limit) (sym g)

pub kept_refusal : {A : Type 0} (n m total more : ℕ) (r : Result A DeskFault) → CountsRefusal n m r
    → SharesRefusal total more r → n ≡ min total count_limit → m ≡ min more count_limit
kept_refusal n m total more (Ok a) c s e = same_book n m total more e c s
kept_refusal n m total more (Err fault.WantOfMemory) c s e = same_book n m total more e c s
kept_refusal n m total more (Err fault.Stopped) c s e = raised_book n m total more e c.1 s
kept_refusal n m total more (Err (fault.Engine r)) c s e = raised_book n m total more e c.1 s
kept_refusal n m total more (Err fault.JournalFault) c s e = raised_book n m total more e c.1 s

pub kept_line_refusal : (n m total more : ℕ) (r : Result Got DeskFault) → CountsLine n m r → SharesLine total more r
    → n ≡ min total count_limit → m ≡ min more count_limit
kept_line_refusal n m total more (Ok (got.Reply q a)) c s e = same_book n m total more e c s
kept_line_refusal n m total more (Ok got.Bad) c s e = raised_book n m total more e c.1 s
kept_line_refusal n m total more (Ok got.Stray) c s e = raised_book n m total more e c.1 s
kept_line_refusal n m total more (Err fault.WantOfMemory) c s e = same_book n m total more e c s
kept_line_refusal n m total more (Err fault.Stopped) c s e = raised_book n m total more e c.1 s
kept_line_refusal n m total more (Err (fault.Engine r)) c s e = raised_book n m total more e c.1 s
kept_line_refusal n m total more (Err fault.JournalFault) c s e = raised_book n m total more e c.1 s
