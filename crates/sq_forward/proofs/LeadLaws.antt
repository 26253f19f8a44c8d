-- The heads of an origin's bytes, one after the other.
use Rattle.std.proofs.Common.{◌≡◌, ◌⊎◌, inl, inr, ℕ, ◌+◌, ◌≤◌, List, [], ◌∷◌, ◌++◌, Bool, true, false, ◌==◌, length, Option, Some, None, Result, Ok, Err, IfSome, refl, sym, ap, subst, ◌∙◌, arith, append_assoc, append-nil, length-append}
use Rattle.sq_base.specs.Requests.{HttpRequest}
use Rattle.sq_outside.specs.Causes.{count_limit}
use Rattle.sq_outside.proofs.Writing.{IsPrefix_refl}
use Rattle.sq_message.specs.declared.replies.ReplyHead.{ReplyHead}
use Rattle.sq_forward.specs.Access.{HeaderAccess}
use Rattle.sq_forward.specs.Exchanges.{interim_text, interim_texts}
use Rattle.sq_forward.specs.Leading.{TakenHead, LedNowhere, LeadsReply, PaysHeads, LeadHasCause, own_head}
use Rattle.sq_forward.specs.Meters.{PaysAll, metered}
use Rattle.sq_forward.specs.Replies.{BeginsHead, AreInterim, IsReading, is_interim, interim_limit, IsHead}
use Rattle.sq_forward.specs.declared.exchanging.Exchanged.{Exchanged}
use Rattle.sq_forward.specs.declared.exchanging.Exchanged.TheVariants.{Kept, Closed, Cut, ClientFault, BadBody, NoReply, OriginCut, OriginFault, Starved, WantOfMemory}
use Rattle.sq_forward.proofs.HeadLaws.{missing_all}
use Rattle.sq_forward.proofs.PayLaws.{pays_none, pays_after, pays_part_after, pays_whole}

-- so many heads were passed on, none of which was the reply's own
pub record Leading (access : HeaderAccess) (r : HttpRequest) (bytes : List ℕ) (seated : Bool) (passed : ℕ)
    (left before now : Option (List ℕ))
    (g h : ℕ) : Type 0 where
  pub heads : List ℕ
  pub more : List ℕ
  pub interim : List ReplyHead
  pub cut : bytes ≡ heads ++ more
  pub are : AreInterim heads interim
  pub count : length interim ≡ passed
  pub left_is : left ≡ Some more
  pub pays : PaysAll (interim_texts access r interim) (metered seated before now g h)

pub record LeadingSo (access : HeaderAccess) (r : HttpRequest) (seated : Bool) (passed : ℕ)
    (first left before now : Option (List ℕ))
    (g h : ℕ) : Type 0 where
  pub known : IfSome first (λ bytes. Leading access r bytes seated passed left before now g h)

pub leads_none : (access : HeaderAccess) (r : HttpRequest) (seated : Bool) (first out : Option (List ℕ)) (g : ℕ) → g ≤
    count_limit
    → LeadingSo access r seated 0 first first out out g g
leads_none access r seated None out g few = record { known = tt }
leads_none access r seated (Some bytes) out g few = record {
  known = record {
    heads = [];
    more = bytes;
    interim = [];
    cut = refl;
    are = refl;
    count = refl;
    left_is = refl;
    pays = pays_none seated out g few;
  };
}

-- a head behind those
interim_more : (heads head : List ℕ) (hs : List ReplyHead) (h : ReplyHead) → AreInterim heads hs → IsHead head h
    → is_interim h ≡ true → AreInterim (heads ++ head) (hs ++ h ∷ [])
interim_more heads head [] h are is one =
    ([], record { head = head; cut = ap (λ l. l ++ head) are ∙ sym (append-nil head); is = is }, one, refl)
interim_more heads head (x ∷ hs) h (rest, b, x_one, are) is one = (
  rest ++ head,
  record { head = b.head; cut = ap (λ l. l ++ head) b.cut ∙ append_assoc b.head rest head; is = b.is },
  x_one,
  interim_more rest head hs h are is one,
)

texts_more : (access : HeaderAccess) (r : HttpRequest) (hs : List ReplyHead) (h : ReplyHead)
    → interim_texts access r hs ++ interim_text access r h ≡ interim_texts access r (hs ++ h ∷ [])
texts_more access r [] h = sym (append-nil (interim_text access r h))
texts_more access r (x ∷ hs) h = append_assoc (interim_text access r x) (interim_texts access r hs)
    (interim_text access r h)
    ∙ ap (λ l. interim_text access r x ++ l) (texts_more access r hs h)

-- a front of what comes that is heads alone
pub heads_alone : (heads : List ℕ) (hs : List ReplyHead) → AreInterim heads hs → length hs ≤ interim_limit
    → IsReading heads (record { interim = hs; final = None; rest = [] })
heads_alone heads hs are few = record {
  heads = heads;
  more = [];
  cut = sym (append-nil heads);
  interim = are;
  few = few;
  final = (λ h more b. absurd (missing_all h more b), refl);
}

-- the reply's own head was taken
pub leads_to : {access : HeaderAccess} {r : HttpRequest} {seated : Bool} {passed : ℕ} {a b : Option (List ℕ)} {g h : ℕ}
    {failed : Type 0}
    (first left next : Option (List ℕ)) (head : ReplyHead)
    → LeadingSo access r seated passed first left a b g h → IfSome left (λ bytes. TakenHead bytes next head)
    → passed ≤ interim_limit → is_interim head ≡ false → (head.status ≡ 101 → ⊥)
    → LeadsReply access r first next (metered seated a b g h) failed (Ok head)
leads_to None left next head x t few own goes = record { known = tt }
leads_to (Some bytes) None next head x t few own goes = absurd (let e = x.known.left_is in cc)
leads_to (Some bytes) (Some now) next head x t few own goes =
    let y = x.known in
    let is : now ≡ y.more = let e = y.left_is in cc in
    record {
      known = record {
        heads = y.heads;
        more = y.more;
        interim = y.interim;
        rest = t.rest;
        cut = y.cut;
        are = y.are;
        few = omega (arith, y.count, few);
        begins = subst (λ l. BeginsHead l head t.rest) is t.begins;
        own = own;
        goes = goes;
        left_is = t.left_is;
        pays = y.pays;
      };
    }

-- what comes begins with no head that can be passed on
leads_nowhere : {access : HeaderAccess} {r : HttpRequest} {seated : Bool} {passed : ℕ} {a b : Option (List ℕ)} {g h : ℕ}
    {failed : Type 0}
    (bytes : List ℕ) (left : Option (List ℕ))
    → (x : Leading access r bytes seated passed left a b g h) → passed ≤ interim_limit
    → ((head : ReplyHead) (rest : List ℕ) → BeginsHead x.more head rest
    → (head.status ≡ 101) ⊎ ((is_interim head ≡ true) × (passed ≡ interim_limit)))
    → LedNowhere access r bytes (metered seated a b g h) failed NoReply
leads_nowhere {access} {r} {seated} {passed} bytes left x few refused = record {
  seen = bytes;
  interim = x.interim;
  front = IsPrefix_refl bytes;
  reads = record {
    heads = x.heads;
    more = x.more;
    cut = x.cut;
    interim = x.are;
    few = omega (arith, x.count, few);
    final = (λ head rest b. refused_as (refused head rest b), refl);
  };
  all = λ _. inl refl;
  pays = x.pays;
}
  where
    refused_as : {A B : Type 0} → A ⊎ (B × (passed ≡ interim_limit)) → A ⊎ (B × (length x.interim ≡ interim_limit))
    refused_as (inl p) = inl p
    refused_as (inr (p, e)) = inr (p, x.count ∙ e)

-- no head comes
pub leads_missing : {access : HeaderAccess} {r : HttpRequest} {seated : Bool} {passed : ℕ} {a b : Option (List ℕ)}
    {g h : ℕ} {failed : Type 0}
    (first left next : Option (List ℕ))
    → LeadingSo access r seated passed first left a b g h
    → IfSome left (λ bytes. (head : ReplyHead) (rest : List ℕ) → BeginsHead bytes head rest → ⊥)
    → passed ≤ interim_limit
    → LeadsReply access r first next (metered seated a b g h) failed (Err NoReply)
leads_missing None left next x t few = record { known = tt }
leads_missing (Some bytes) None next x t few = absurd (let e = x.known.left_is in cc)
leads_missing (Some bytes) (Some now) next x t few =
    let is : now ≡ x.known.more = let e = x.known.left_is in cc in
    record {
      known = leads_nowhere bytes (Some now) x.known few
          (λ head rest b. absurd (t head rest (subst (λ l. BeginsHead l head rest) (sym is) b)));
    }

-- the head that came is refused
pub leads_refused : {access : HeaderAccess} {r : HttpRequest} {seated : Bool} {passed : ℕ} {a b : Option (List ℕ)}
    {g h : ℕ} {failed : Type 0}
    (first left next : Option (List ℕ)) (head : ReplyHead)
    → LeadingSo access r seated passed first left a b g h → IfSome left (λ bytes. TakenHead bytes next head)
    → passed ≤ interim_limit → (head.status ≡ 101) ⊎ ((is_interim head ≡ true) × (passed ≡ interim_limit))
    → LeadsReply access r first next (metered seated a b g h) failed (Err NoReply)
leads_refused None left next head x t few refused = record { known = tt }
leads_refused (Some bytes) None next head x t few refused = absurd (let e = x.known.left_is in cc)
leads_refused {access} {r} {seated} {passed} (Some bytes) (Some now) next head x t few refused =
    let is : now ≡ x.known.more = let e = x.known.left_is in cc in
    record {
      known = leads_nowhere bytes (Some now) x.known few (λ other rest b.
          let same : other ≡ head = t.one other rest (subst (λ l. BeginsHead l other rest) (sym is) b) in
          subst (λ o. (o.status ≡ 101) ⊎ ((is_interim o ≡ true) × (passed ≡ interim_limit))) (sym same) refused);
    }

-- the head that came is no interim one
pub leads_own : {access : HeaderAccess} {r : HttpRequest} {seated : Bool} {passed : ℕ} {a b : Option (List ℕ)} {g h : ℕ}
    (failed : Type 0)
    (first left next : Option (List ℕ)) (head : ReplyHead) (led : Result ReplyHead Exchanged)
    → LeadingSo access r seated passed first left a b g h → IfSome left (λ bytes. TakenHead bytes next head)
    → passed ≤ interim_limit → is_interim head ≡ false → led ≡ own_head head
    → LeadsReply access r first next (metered seated a b g h) failed led
leads_own {access} {r} {seated} {passed} {a} {b} {g} {h} failed first left next head led x t few own e =
    by (head.status == 101) refl
  where
    by : (u : Bool) → (head.status == 101) ≡ u → LeadsReply access r first next (metered seated a b g h) failed led
    by true i =
        let is : own_head head ≡ Err NoReply = rw i refl in
        subst (LeadsReply access r first next (metered seated a b g h) failed) (sym (e ∙ is))
        (leads_refused first left next head x t few (inl (grind arith)))
    by false i =
        let is : own_head head ≡ Ok head = rw i refl in
        subst (LeadsReply access r first next (metered seated a b g h) failed) (sym (e ∙ is))
        (leads_to first left next head x t few own (λ j. grind arith))

-- the source failed: what was looked at is heads alone
pub leads_failed : {access : HeaderAccess} {r : HttpRequest} {seated : Bool} {passed : ℕ} {a b : Option (List ℕ)}
    {g h : ℕ} {failed : Type 0}
    (first left next : Option (List ℕ))
    → LeadingSo access r seated passed first left a b g h → failed → passed ≤ interim_limit
    → LeadsReply access r first next (metered seated a b g h) failed (Err NoReply)
leads_failed None left next x f few = record { known = tt }
leads_failed (Some bytes) left next x f few =
    let y = x.known in
    record {
      known = record {
        seen = y.heads;
        interim = y.interim;
        front = (y.more, y.cut);
        reads = heads_alone y.heads y.interim y.are (omega (arith, y.count, few));
        all = λ _. inr f;
        pays = y.pays;
      };
    }

-- there was no memory for a head
pub leads_no_memory : {access : HeaderAccess} {r : HttpRequest} {seated : Bool} {passed : ℕ} {a b : Option (List ℕ)}
    {g h : ℕ} {failed : Type 0}
    (first left next : Option (List ℕ))
    → LeadingSo access r seated passed first left a b g h → passed ≤ interim_limit
    → LeadsReply access r first next (metered seated a b g h) failed (Err WantOfMemory)
leads_no_memory None left next x few = record { known = tt }
leads_no_memory (Some bytes) left next x few =
    let y = x.known in
    record {
      known = record {
        seen = y.heads;
        interim = y.interim;
        front = (y.more, y.cut);
        reads = heads_alone y.heads y.interim y.are (omega (arith, y.count, few));
        all = λ e. absurd cc;
        pays = pays_whole y.pays;
      };
    }

-- a head was taken that is not the reply's own, and sent
pub leads_more : {access : HeaderAccess} {r : HttpRequest} {seated : Bool} {passed : ℕ} {a b d : Option (List ℕ)}
    {g h k : ℕ}
    (first left next : Option (List ℕ)) (head : ReplyHead)
    → LeadingSo access r seated passed first left a b g h → IfSome left (λ bytes. TakenHead bytes next head)
    → is_interim head ≡ true → PaysAll (interim_text access r head) (metered seated b d h k)
    → LeadingSo access r seated (passed + 1) first next a d g k
leads_more None left next head x t one p = record { known = tt }
leads_more (Some bytes) None next head x t one p = absurd (let e = x.known.left_is in cc)
leads_more {access} {r} {seated} {passed} {a} {b} {d} {g} {h} {k} (Some bytes) (Some now) next head x t one p =
    let y = x.known in
    let is : now ≡ y.more = let e = y.left_is in cc in
    record {
      known = record {
        heads = y.heads ++ t.begins.head;
        more = t.rest;
        interim = y.interim ++ head ∷ [];
        cut = y.cut ∙ ap (λ l. y.heads ++ l) (sym is ∙ t.begins.cut) ∙ sym (append_assoc y.heads t.begins.head t.rest);
        are = interim_more y.heads t.begins.head y.interim head y.are t.begins.is one;
        count = length-append y.interim (head ∷ []) ∙ ap (λ n. n + 1) y.count;
        left_is = t.left_is;
        pays = subst (λ l. PaysAll l (metered seated a d g k)) (texts_more access r y.interim head)
            (pays_after y.pays p);
      };
    }

-- a head was taken that is not the reply's own, and a front of it sent
pub leads_part : {access : HeaderAccess} {r : HttpRequest} {seated : Bool} {passed : ℕ} {a b d : Option (List ℕ)}
    {g h k : ℕ} {failed : Type 0}
    (first left next : Option (List ℕ)) (head : ReplyHead) (end : Exchanged)
    → LeadingSo access r seated passed first left a b g h → IfSome left (λ bytes. TakenHead bytes next head)
    → is_interim head ≡ true → passed + 1 ≤ interim_limit
    → (end ≡ NoReply → ⊥) → PaysHeads (interim_text access r head) (metered seated b d h k) end
    → LeadsReply access r first next (metered seated a d g k) failed (Err end)
leads_part None left next head end x t one few other p = record { known = tt }
leads_part (Some bytes) None next head end x t one few other p = absurd (let e = x.known.left_is in cc)
leads_part {access} {r} {seated} {passed} {a} {b} {d} {g} {h} {k} (Some bytes) (Some now) next head end x t one few
    other p =
    let y = x.known in
    let is : now ≡ y.more = let e = y.left_is in cc in
    record {
      known = record {
        seen = y.heads ++ t.begins.head;
        interim = y.interim ++ head ∷ [];
        front = (
          t.rest,
          y.cut ∙ ap (λ l. y.heads ++ l) (sym is ∙ t.begins.cut)
              ∙ sym (append_assoc y.heads t.begins.head t.rest),
        );
        reads = heads_alone (y.heads ++ t.begins.head) (y.interim ++ head ∷ [])
            (interim_more y.heads t.begins.head y.interim head y.are t.begins.is one)
            (omega (arith, length-append y.interim (head ∷ []), y.count, few));
        all = λ e. absurd (other e);
        pays = subst (λ l. PaysHeads l (metered seated a d g k) end) (texts_more access r y.interim head)
            (part_by (interim_text access r head) d k end y.pays p);
      };
    }
  where
    part_by : {front : List ℕ} {seated : Bool} {a b : Option (List ℕ)} {g h : ℕ} (text : List ℕ) (d : Option (List ℕ))
        (k : ℕ) (end : Exchanged) → PaysAll front (metered seated a b g h) → PaysHeads text (metered seated b d h k) end
        → PaysHeads (front ++ text) (metered seated a d g k) end
    part_by text d k NoReply w p = pays_after w p
    part_by text d k ClientFault w p = pays_part_after w p
    part_by text d k Starved w p = pays_part_after w p
    part_by text d k WantOfMemory w p = pays_part_after w p
    part_by text d k Kept w p = absurd p
    part_by text d k Closed w p = absurd p
    part_by text d k Cut w p = absurd p
    part_by text d k BadBody w p = absurd p
    part_by text d k OriginCut w p = absurd p
    part_by text d k OriginFault w p = absurd p

-- the same count behind a later one
pub lead_later : {A B : Type 0} (end : Exchanged) → (A → B) → LeadHasCause A end → LeadHasCause B end
lead_later ClientFault f x = f x
lead_later NoReply f x = tt
lead_later Starved f x = tt
lead_later WantOfMemory f x = tt
lead_later Kept f x = absurd x
lead_later Closed f x = absurd x
lead_later Cut f x = absurd x
lead_later BadBody f x = absurd x
lead_later OriginCut f x = absurd x
lead_later OriginFault f x = absurd x
