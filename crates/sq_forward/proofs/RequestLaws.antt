-- The request of an exchange: what of it was sent.
use Rattle.std.proofs.Common.{◌≡◌, ◌⊎◌, inl, ℕ, ◌≤◌, List, ◌++◌, Bool, true, false, Option, Some, None, IfSome, refl, sym, subst, arith}
use Rattle.std.specs.Io.KnownBytes.{Appends}
use Rattle.std.proofs.KnownBytes.{Appends-trans}
use Rattle.sq_base.specs.Addresses.{Address}
use Rattle.sq_base.specs.Requests.{HttpRequest}
use Rattle.sq_base.specs.declared.plans.BodyPlan.{BodyPlan}
use Rattle.sq_message.specs.declared.body_state.BodyState.{BodyState}
use Rattle.sq_message.specs.declared.body_state.BodyState.TheVariants as place
use Rattle.sq_message.specs.Bodies.{Walk, body_of, is_whole_body, is_refused}
use Rattle.sq_outside.specs.Causes.{Rose}
use Rattle.sq_outside.specs.Output.{IsPrefix, Grew}
use Rattle.sq_outside.proofs.Writing.{IsPrefix_nil, Grew_none, Grew_whole, Grew_more, Grew_after}
use Rattle.sq_message.specs.RequestHeads.{head_out_where, is_chunked}
use Rattle.sq_forward.specs.Access.{HeaderAccess}
use Rattle.sq_forward.specs.Copying.{CopiesBody, Copies, CopyHasCause, dry_after_copy}
use Rattle.sq_forward.specs.Exchanges.{continue_part, dry_after_exchange, message, sink}
use Rattle.sq_forward.specs.Meters.{PaysPart, metered}
use Rattle.sq_forward.specs.Sending.{sent, SentSo, SendsRequest, SendHasCause}
use Rattle.sq_forward.specs.declared.copying.Copied.{Copied}
use Rattle.sq_forward.specs.declared.copying.Copied.TheVariants as copied
use Rattle.sq_forward.specs.declared.exchanging.Exchanged.{Exchanged}
use Rattle.sq_forward.specs.declared.exchanging.Exchanged.TheVariants.{ClientFault, NoReply, WantOfMemory}

-- nothing was sent
pub request_no_memory : (access : HeaderAccess) (r : HttpRequest) (addr : Address) (p : BodyPlan)
    (first left a c : Option (List ℕ))
    → SendsRequest access (message r addr p) first left (sink a a) (sink c c) (Some WantOfMemory)
request_no_memory access r addr p None left a c = record { known = tt }
request_no_memory access r addr p (Some input) left a c = record {
  known =
      (Grew_none a _ (IsPrefix_nil _), Grew_none c _ (IsPrefix_nil _));
}

-- the client did not hear that its body may come
pub request_unheard : (access : HeaderAccess) (r : HttpRequest) (addr : Address) (p : BodyPlan)
    (first left a b c : Option (List ℕ))
    (own : List ℕ) → own ≡ continue_part r p → Grew a b (λ part. IsPrefix part own)
    → SendsRequest access (message r addr p) first left (sink a b) (sink c c) (Some ClientFault)
request_unheard access r addr p None left a b c own e w = record { known = tt }
request_unheard access r addr p (Some input) left a b c own e w = record {
  known =
      (subst (λ l. Grew a b (λ part. IsPrefix part l)) e w, Grew_none c _ (IsPrefix_nil _));
}

-- the head was not sent
pub request_unsent : (access : HeaderAccess) (r : HttpRequest) (addr : Address) (p : BodyPlan)
    (first left a b c d : Option (List ℕ))
    (own head : List ℕ) → own ≡ continue_part r p → Appends a b own
    → head ≡ head_out_where access.request r addr p → Grew c d (λ part. IsPrefix part head)
    → SendsRequest access (message r addr p) first left (sink a b) (sink c d) (Some NoReply)
request_unsent access r addr p None left a b c d own head e w f v = record { known = tt }
request_unsent access r addr p (Some input) left a b c d own head e w f v = record {
  known = (
    subst (Appends a b) e w,
    Grew_more c d (head_out_where access.request r addr p) (body_of p (is_chunked p) input).out
        (subst (λ l. Grew c d (λ part. IsPrefix part l)) f v),
  );
}

-- refused bytes are no whole body
pub refused_unfinished : (p : BodyState) → is_refused p ≡ true → is_whole_body p ≡ false
refused_unfinished place.Refused h = refl
refused_unfinished (place.Plain n) h = absurd cc
refused_unfinished place.Open h = absurd cc
refused_unfinished (place.Line text) h = absurd cc
refused_unfinished (place.Data n) h = absurd cc
refused_unfinished place.Feed h = absurd cc
refused_unfinished (place.Trailer n m) h = absurd cc
refused_unfinished place.Done h = absurd cc

-- a front of what a body gives
front_of : {seated : Bool} {text : List ℕ} {a b : Option (List ℕ)} {g h spare : ℕ} → PaysPart text
    (metered seated a b g h) spare
    → Grew a b (λ part. IsPrefix part text)
front_of x = (x.part, x.wrote, x.front)

by_copied : (own head : List ℕ) (body : Walk) (left a b c m d : Option (List ℕ)) (k : Copied) → Appends a b own
    → Appends c m head → CopiesBody body left (metered false m d 0 0) k → 0 ≡ dry_after_copy k
    → SentSo own (head ++ body.out) body left (sink a b) (sink c d) (sent k)
by_copied own head body left a b c m d copied.Whole w v x h =
    (x.0, x.1, w, Appends-trans c m d head body.out v x.2.wrote)
by_copied own head body left a b c m d copied.Cut w v x h = (x.0, x.1, w, Appends-trans c m d head body.out v x.3.wrote)
by_copied own head body left a b c m d copied.Bad w v x h =
    (refused_unfinished body.place x.0, x.0, w, Appends-trans c m d head body.out v x.1.wrote)
by_copied own head body left a b c m d copied.NoSource w v x h =
    (Grew_whole a b own w, Grew_after c m d head body.out v (front_of x))
by_copied own head body left a b c m d copied.NoSink w v x h = (w, Grew_after c m d head body.out v (front_of x))
by_copied own head body left a b c m d copied.Starved w v x h = absurd (omega (arith, h))
by_copied own head body left a b c m d copied.WantOfMemory w v x h =
    (Grew_whole a b own w, Grew_after c m d head body.out v (front_of x))

-- the body was sent as its copying says
pub request_sent : (access : HeaderAccess) (r : HttpRequest) (addr : Address) (p : BodyPlan) (chunked : Bool)
    (first left a b c m d : Option (List ℕ)) (own head : List ℕ) (k : Copied) (ended : Option Exchanged)
    → own ≡ continue_part r p → Appends a b own → head ≡ head_out_where access.request r addr p → Appends c m head →
    chunked ≡ is_chunked p
    → Copies p chunked first left (metered false m d 0 0) k → 0 ≡ dry_after_copy k → ended ≡ sent k
    → SendsRequest access (message r addr p) first left (sink a b) (sink c d) ended
request_sent access r addr p chunked None left a b c m d own head k ended e w f v i x h s = record { known = tt }
request_sent access r addr p chunked (Some input) left a b c m d own head k ended e w f v i x h s =
    let body = body_of p (is_chunked p) input in
    let copies : CopiesBody body left (metered false m d 0 0) k =
    subst (λ t. CopiesBody (body_of p t input) left (metered false m d 0 0) k) i x.body in
    record {
      known =
          subst (SentSo (continue_part r p) (head_out_where access.request r addr p ++ body.out) body left (sink a b)
          (sink c d)) (sym s)
          (by_copied (continue_part r p) (head_out_where access.request r addr p) body left a b c m d k
          (subst (Appends a b) e w)
          (subst (Appends c m) f v) copies h);
    }

-- the link that failed, by that of the copying
pub sent_cause : (client client_now c m d : ℕ) (other : Type 0) (k : Copied) (ended : Option Exchanged)
    → CopyHasCause client client_now m d k → 0 ≡ dry_after_copy k → c ≤ m → ended ≡ sent k
    → IfSome ended (SendHasCause (Rose client client_now ⊎ other) (Rose c d))
sent_cause client client_now c m d other k ended x fed later e =
    subst (λ t. IfSome t (SendHasCause (Rose client client_now ⊎ other) (Rose c d))) (sym e) (by k x fed)
  where
    by : (k : Copied) → CopyHasCause client client_now m d k → 0 ≡ dry_after_copy k
        → IfSome (sent k) (SendHasCause (Rose client client_now ⊎ other) (Rose c d))
    by copied.Whole x h = tt
    by copied.Cut x h = tt
    by copied.Bad x h = tt
    by copied.NoSource x h = inl x
    by copied.NoSink x h = omega (arith, x, later)
    by copied.Starved x h = absurd (omega (arith, h))
    by copied.WantOfMemory x h = tt

-- no meter went dry
pub sent_fed : (k : Copied) (ended : Option Exchanged) → 0 ≡ dry_after_copy k → ended ≡ sent k
    → IfSome ended (λ e. 0 ≡ dry_after_exchange e)
sent_fed k ended h e = subst (λ t. IfSome t (λ x. 0 ≡ dry_after_exchange x)) (sym e) (by k h)
  where
    by : (k : Copied) → 0 ≡ dry_after_copy k → IfSome (sent k) (λ x. 0 ≡ dry_after_exchange x)
    by copied.Whole x = tt
    by copied.Cut x = refl
    by copied.Bad x = refl
    by copied.NoSource x = refl
    by copied.NoSink x = refl
    by copied.Starved x = x
    by copied.WantOfMemory x = refl
