-- What an exchange and a tunnel come to in a turn.
use Rattle.std.proofs.Common.{◌≡◌, ◌⊎◌, inl, inr, ℕ, ◌+◌, ◌-◌, ◌≤◌, min, List, [], ◌++◌, length, Bool, true, false, ◌&&◌, not, Option, Some, None, IfSome, refl, sym, ap, subst, ◌∙◌, arith, append-nil, length-append}
use Rattle.std.specs.Io.KnownBytes.{Appends}
use Rattle.std.proofs.KnownBytes.{Appends-trans}
use Rattle.sq_base.specs.Addresses.{Address}
use Rattle.sq_base.specs.Requests.{HttpRequest}
use Rattle.sq_base.specs.declared.plans.BodyPlan.{BodyPlan}
use Rattle.sq_outside.specs.Output.{IsPrefix, Grew}
use Rattle.sq_outside.proofs.Writing.{IsPrefix_refl, IsPrefix_more, IsPrefix_after}
use Rattle.sq_message.specs.OwnReplies.{error_text}
use Rattle.sq_message.specs.declared.own.Own.TheVariants.{BadGateway}
use Rattle.sq_forward.specs.Access.{HeaderAccess, header_access}
use Rattle.sq_checks.specs.Records.{Judged}
use Rattle.sq_rules.specs.Configurations.{Configuration}
use Rattle.sq_rules.specs.Facts.{facts_of}
use Rattle.sq_rules.specs.declared.sights.Sight.{Sight}
use Rattle.sq_forward.specs.Exchanges.{Exchange, exchange, Exact, Fronts, EndsExchange, Exchanges, ExchangeHasCause, dry_after_exchange, message, sink, exchange_seen}
use Rattle.sq_forward.specs.Meters.{granted_after, piece_limit, PaysPart, PaysAll, metered}
use Rattle.sq_forward.specs.Tunnels.{spare_of_tunnel, dry_after_tunnel, GoesInPart, GoesWhole, GoesPaid, GoesGranted}
use Rattle.sq_forward.specs.declared.exchanging.Exchanged.{Exchanged}
use Rattle.sq_forward.specs.declared.exchanging.Exchanged.TheVariants as exchanged
use Rattle.sq_forward.specs.declared.tunnels.Tunnelled.{Tunnelled}
use Rattle.sq_forward.specs.declared.tunnels.Tunnelled.TheVariants as tunnelled
use Rattle.sq_turns.specs.Forwarding.{ForwardsAs, Trades, Forwards, tunnel_end}
use Rattle.sq_turns.specs.Fronts.{FrontAnswer}
use Rattle.sq_turns.specs.Steps.{is_exact, is_by_origin, spare_of, WritesAs, EndHasCause, dry_after}
use Rattle.sq_turns.specs.Written.{Tells, WritesReply}
use Rattle.sq_turns.specs.Told.{TradesTold, ConnectsTold, ForwardsTold}
use Rattle.sq_turns.specs.Turns.{access_of, is_head, is_connect, gateway_part, carried_of, exchanged_turn, tunnelled_turn, established_text}
use Rattle.sq_turns.specs.declared.ends.Carried.{Carried}
use Rattle.sq_turns.specs.declared.ends.Carried.TheVariants.{Stays, Closes, Over}
use Rattle.sq_turns.specs.declared.ends.End.TheVariants.{Finished, Cut, ClientFault, OriginCut, OriginFault, Starved, WantOfMemory}
use Rattle.sq_turns.proofs.GoesLaws.{told_here}

-- all of the bytes are a front of them, too
writes_all : (whole : Bool) (bytes : List ℕ) → WritesAs whole bytes bytes
writes_all true bytes = refl
writes_all false bytes = IsPrefix_refl bytes

-- all of the origin's bytes are in a text that goes on behind them
all_counted : (own client rest written : List ℕ) → written ≡ own ++ client ++ rest
    → length client ≡ min (length written - length own) (length client)
all_counted own client rest written e = omega
    (arith, ap length e, length-append (own ++ client) rest, length-append own client)

-- a front of the text in front of the own reply
part_counted : (own client part : List ℕ) → IsPrefix part (own ++ client)
    → length part - length own ≡ min (length part - length own) (length client)
part_counted own client part (more, e) = omega (arith, ap length e, length-append own client, length-append part more)

-- both texts were written whole
forwards_exact : {seated : Bool} {left a b c d : Option (List ℕ)} {g h : ℕ} (r : HttpRequest) (bytes : List ℕ)
    (x : Exchange) (unasked : List FrontAnswer) (e : Exchanged) (ended : Carried)
    → carried_of e ≡ ended → gateway_part e (is_head r) ≡ [] → Appends a b (x.own ++ x.client)
    → h ≡ granted_after seated g (length x.client) → Appends c d x.origin → (ended ≡ Stays → left ≡ Some x.rest)
    → ForwardsAs (exchanged_turn r bytes false e x unasked) unasked false
    (exchange_seen left (metered seated a b g h) (sink c d)) ended
forwards_exact {seated} {left} {a} {b} {c} {d} {g} {h} r bytes x unasked e ended ends none client granted origin rest =
    let last = gateway_part e (is_head r) in
    let all : x.own ++ x.client ≡ x.own ++ x.client ++ last = sym (append-nil (x.own ++ x.client))
    ∙ ap (λ l. x.own ++ x.client ++ l) (sym none) in
    record {
      written = x.own ++ x.client ++ last;
      given = x.origin;
      exact = λ _. (ends, refl);
      front = IsPrefix_refl (x.own ++ x.client ++ last);
      gives = writes_all (is_exact ended && true) x.origin;
      wrote = subst (Appends a b) all client;
      gave = origin;
      pays = record {
        more = 0;
        close = omega arith;
        granted = granted ∙ ap (granted_after seated g)
            (all_counted x.own x.client last (x.own ++ x.client ++ last) refl ∙ omega arith);
      };
      rest = rest;
      spare = refl;
    }

-- fronts of both texts were written
forwards_part : {seated : Bool} {left a b c d : Option (List ℕ)} {g h spare : ℕ} (r : HttpRequest) (bytes : List ℕ)
    (x : Exchange) (unasked : List FrontAnswer) (e : Exchanged) (ended : Carried)
    → is_exact ended ≡ false → spare ≤ spare_of ended → Fronts x (metered seated a b g h) (sink c d) spare
    → ForwardsAs (exchanged_turn r bytes false e x unasked) unasked false
    (exchange_seen left (metered seated a b g h) (sink c d)) ended
forwards_part {seated} {left} {a} {b} {c} {d} {g} {h} {spare} r bytes x unasked e ended fault few f =
    let last = gateway_part e (is_head r) in
    record {
      written = f.part;
      given = f.origin.0;
      exact = λ i. absurd (let j : false ≡ true = sym fault ∙ i in cc);
      front = IsPrefix_more f.part (x.own ++ x.client) last f.front;
      gives = subst (λ w. WritesAs (w && true) f.origin.0 x.origin) (sym fault) f.origin.2;
      wrote = f.client;
      gave = f.origin.1;
      pays = record {
        more = f.more;
        close = omega (arith, f.close, few);
        granted = f.granted ∙ ap (λ n. granted_after seated g (n + f.more))
            (part_counted x.own x.client f.part f.front);
      };
      rest = λ i. absurd (let j : false ≡ true = sym fault ∙ ap is_exact i in cc);
      spare = refl;
    }

-- the client heard that there is no reply
gateway_part_told : {seated : Bool} {left a b c d : Option (List ℕ)} {g h : ℕ} (r : HttpRequest) (bytes : List ℕ)
    (x : Exchange) (unasked : List FrontAnswer) (broke : Bool) (given part : List ℕ) (ended : Carried)
    → (is_exact ended ≡ true → (Closes ≡ ended) × (part ≡ error_text BadGateway (is_head r)))
    → IsPrefix part (error_text BadGateway (is_head r)) → Appends a b ((x.own ++ x.client) ++ part)
    → h ≡ granted_after seated g (length x.client) → Appends c d given
    → WritesAs (is_exact ended && not broke) given x.origin → (ended ≡ Stays → ⊥)
    → ForwardsAs (exchanged_turn r bytes broke exchanged.NoReply x unasked) unasked broke
    (exchange_seen left (metered seated a b g h) (sink c d)) ended
gateway_part_told {seated} {left} {a} {b} {c} {d} {g} {h} r bytes x unasked broke given part ended exact front wrote
    granted gave gives closes =
    let words = error_text BadGateway (is_head r) in
    record {
      written = x.own ++ x.client ++ part;
      given = given;
      exact = λ i. ((exact i).0, ap (λ l. x.own ++ x.client ++ l) (exact i).1);
      front = IsPrefix_after (x.own ++ x.client) part words front;
      gives = gives;
      wrote = wrote;
      gave = gave;
      pays = record {
        more = 0;
        close = omega arith;
        granted = granted ∙ ap (granted_after seated g)
            (all_counted x.own x.client part (x.own ++ x.client ++ part) refl ∙ omega arith);
      };
      rest = λ i. absurd (closes i);
      spare = refl;
    }

gateway_told : {seated : Bool} {left a b c d : Option (List ℕ)} {g h : ℕ} (mid : Option (List ℕ)) (r : HttpRequest)
    (bytes : List ℕ) (x : Exchange) (unasked : List FrontAnswer) (broke : Bool) (given : List ℕ) (ended : Carried)
    → Appends a mid (x.own ++ x.client) → Tells (error_text BadGateway (is_head r)) Closes mid b ended
    → h ≡ granted_after seated g (length x.client) → Appends c d given → WritesAs (not broke) given x.origin
    → IsPrefix given x.origin
    → ForwardsAs (exchanged_turn r bytes broke exchanged.NoReply x unasked) unasked broke
    (exchange_seen left (metered seated a b g h) (sink c d)) ended
gateway_told {seated} {left} {a} {b} mid r bytes x unasked broke given Stays client w granted gave gives front =
    absurd (let e = w.0 in cc)
gateway_told {seated} {left} {a} {b} mid r bytes x unasked broke given Closes client w granted gave gives front =
    let words = error_text BadGateway (is_head r) in
    gateway_part_told r bytes x unasked broke given words Closes (λ _. (refl, refl)) (IsPrefix_refl words)
    (Appends-trans a mid b (x.own ++ x.client) words client w.1) granted gave gives (λ e. absurd cc)
gateway_told {seated} {left} {a} {b} mid r bytes x unasked broke given (Over ClientFault) client w granted gave gives
    front =
    gateway_part_told r bytes x unasked broke given w.0 (Over ClientFault) (λ e. absurd cc) w.2
    (Appends-trans a mid b (x.own ++ x.client) w.0 client w.1) granted gave front (λ e. absurd cc)
gateway_told {seated} {left} {a} {b} mid r bytes x unasked broke given (Over WantOfMemory) client w granted gave gives
    front =
    gateway_part_told r bytes x unasked broke given w.0 (Over WantOfMemory) (λ e. absurd cc) w.2
    (Appends-trans a mid b (x.own ++ x.client) w.0 client w.1) granted gave front (λ e. absurd cc)
gateway_told mid r bytes x unasked broke given (Over Finished) client w granted gave gives front = absurd w
gateway_told mid r bytes x unasked broke given (Over Cut) client w granted gave gives front = absurd w
gateway_told mid r bytes x unasked broke given (Over OriginCut) client w granted gave gives front = absurd w
gateway_told mid r bytes x unasked broke given (Over OriginFault) client w granted gave gives front = absurd w
gateway_told mid r bytes x unasked broke given (Over Starved) client w granted gave gives front = absurd w

-- an exchange that ended as the origin's bytes say
trades_exact : {seated : Bool} {left a b c d : Option (List ℕ)} {g h : ℕ} {failed : Type 0} (access : HeaderAccess)
    (r : HttpRequest)
    (addr : Address) (p : BodyPlan) (rest bytes : List ℕ) (e : Exchanged)
    → (x : Exchanges access (message r addr p) rest bytes (exchange_seen left (metered seated a b g h) (sink c d))
    failed e) → gateway_part e (is_head r) ≡ []
    → (carried_of e ≡ Stays → e ≡ exchanged.Kept) → (is_by_origin (carried_of e) ≡ true → x.seen ≡ bytes)
    → (carried_of e ≡ Over OriginFault → ⊥)
    → Exact (exchange access r addr p rest x.reading) (exchange_seen left (metered seated a b g h) (sink c d)) e
    → Trades access (message r addr p) rest bytes (exchange_seen left (metered seated a b g h) (sink c d)) failed
    (carried_of e)
trades_exact {seated} {left} {a} {b} {c} {d} {g} {h} {failed} access r addr p rest bytes e x none kept whole other exact
    =
    let y = exchange access r addr p rest x.reading in
    record {
      seen = x.seen;
      reading = x.reading;
      broke = false;
      fits = record {
        front = x.front;
        reads = x.reads;
        whole = λ i _. whole i;
        none = λ i. absurd cc;
        headed = λ i. absurd (other i);
      };
      broken = λ i. absurd cc;
      goes = λ unasked. subst (λ z. ForwardsAs (exchanged_turn r bytes false z y unasked) unasked false
          (exchange_seen left (metered seated a b g h) (sink c d)) (carried_of e)) exact.ends
          (forwards_exact r bytes y unasked e (carried_of e) refl none exact.client exact.granted exact.origin
          (λ s. exact.rest (kept s)));
    }

-- an exchange that a fault ended
trades_part : {seated : Bool} {left a b c d : Option (List ℕ)} {g h : ℕ} {failed : Type 0} (access : HeaderAccess)
    (r : HttpRequest)
    (addr : Address) (p : BodyPlan) (rest bytes : List ℕ) (e : Exchanged) (spare : ℕ)
    → (x : Exchanges access (message r addr p) rest bytes (exchange_seen left (metered seated a b g h) (sink c d))
    failed e) → is_exact (carried_of e) ≡ false
    → is_by_origin (carried_of e) ≡ false → spare ≤ spare_of (carried_of e)
    → (carried_of e ≡ Over OriginFault → x.reading.final ≡ None → ⊥)
    → Fronts (exchange access r addr p rest x.reading) (metered seated a b g h) (sink c d) spare
    → Trades access (message r addr p) rest bytes (exchange_seen left (metered seated a b g h) (sink c d)) failed
    (carried_of e)
trades_part {seated} {left} {a} {b} {c} {d} {g} {h} {failed} access r addr p rest bytes e spare x fault other few headed
    f =
    let y = exchange access r addr p rest x.reading in
    record {
      seen = x.seen;
      reading = x.reading;
      broke = false;
      fits = record {
        front = x.front;
        reads = x.reads;
        whole = λ i _. absurd (let j : false ≡ true = sym other ∙ i in cc);
        none = λ i. absurd cc;
        headed = headed;
      };
      broken = λ i. absurd cc;
      goes = λ unasked. forwards_part r bytes y unasked y.end (carried_of e) fault few f;
    }

-- an exchange with a reply, or none that the client hears of
pub traded : {seated : Bool} {left a b c d : Option (List ℕ)} {g h : ℕ} {failed : Type 0} (access : HeaderAccess)
    (r : HttpRequest)
    (addr : Address) (p : BodyPlan) (rest bytes : List ℕ) (e : Exchanged)
    → (e ≡ exchanged.NoReply → ⊥) → Exchanges access (message r addr p) rest bytes
    (exchange_seen left (metered seated a b g h) (sink c d)) failed e
    → Trades access (message r addr p) rest bytes (exchange_seen left (metered seated a b g h) (sink c d)) failed
    (carried_of e)
traded access r addr p rest bytes exchanged.Kept n x = trades_exact access r addr p rest bytes exchanged.Kept x refl
    (λ _. refl)
    (λ _. x.ends.0) (λ s. cc) x.ends.1
traded access r addr p rest bytes exchanged.Closed n x = trades_exact access r addr p rest bytes exchanged.Closed x refl
    (λ s. absurd cc) (λ _. x.ends.0) (λ s. cc) x.ends.1
traded access r addr p rest bytes exchanged.OriginCut n x = trades_exact access r addr p rest bytes exchanged.OriginCut
    x refl
    (λ s. absurd cc) (λ _. x.ends.0) (λ s. cc) x.ends.1
traded access r addr p rest bytes exchanged.Cut n x = trades_exact access r addr p rest bytes exchanged.Cut x refl
    (λ s. absurd cc)
    (λ s. absurd cc) (λ s. cc) x.ends
traded access r addr p rest bytes exchanged.BadBody n x = trades_exact access r addr p rest bytes exchanged.BadBody x
    refl
    (λ s. absurd cc) (λ s. absurd cc) (λ s. cc) x.ends
traded access r addr p rest bytes exchanged.ClientFault n x = trades_part access r addr p rest bytes
    exchanged.ClientFault piece_limit
    x refl refl (omega arith) (λ s. absurd cc) x.ends
traded access r addr p rest bytes exchanged.OriginFault n x = trades_part access r addr p rest bytes
    exchanged.OriginFault 0 x refl
    refl (omega arith) (λ _ n. let q = sym x.ends.final ∙ n in cc) x.ends.fronts
traded access r addr p rest bytes exchanged.Starved n x = trades_part access r addr p rest bytes exchanged.Starved 0 x
    refl refl
    (omega arith) (λ s. absurd cc) x.ends
traded access r addr p rest bytes exchanged.WantOfMemory n x = trades_part access r addr p rest bytes
    exchanged.WantOfMemory 0 x refl
    refl (omega arith) (λ s. absurd cc) x.ends
traded access r addr p rest bytes exchanged.NoReply n x = absurd (n refl)

-- an exchange without a reply, and what the client heard of it
pub untraded : {seated : Bool} {left a b c d : Option (List ℕ)} {g h : ℕ} {failed : Type 0} (mid : Option (List ℕ))
    (access : HeaderAccess) (r : HttpRequest) (addr : Address) (p : BodyPlan) (rest bytes : List ℕ) (ended : Carried)
    → Exchanges access (message r addr p) rest bytes (exchange_seen left (metered seated a mid g h) (sink c d)) failed
    exchanged.NoReply
    → WritesReply (error_text BadGateway (is_head r)) Closes mid b ended
    → Trades access (message r addr p) rest bytes (exchange_seen left (metered seated a b g h) (sink c d)) failed ended
untraded {seated} {left} {a} {b} {c} {d} {g} {h} {failed} mid access r addr p rest bytes ended x w = by x.ends
  where
    by : EndsExchange access r x.reading (exchange access r addr p rest x.reading) (x.seen ≡ bytes)
        (exchange_seen left (metered seated a mid g h) (sink c d)) failed exchanged.NoReply → Trades access
        (message r addr p) rest bytes (exchange_seen left (metered seated a b g h) (sink c d)) failed ended
    by (inl (whole, exact)) = record {
      seen = x.seen;
      reading = x.reading;
      broke = false;
      fits = record {
        front = x.front;
        reads = x.reads;
        whole = λ _ _. whole;
        none = λ i. absurd cc;
        headed = λ i. absurd (told_here w i);
      };
      broken = λ i. absurd cc;
      goes = λ unasked. subst (λ z. ForwardsAs (exchanged_turn r bytes false z (exchange access r addr p rest x.reading)
          unasked) unasked false (exchange_seen left (metered seated a b g h) (sink c d)) ended) exact.ends
          (gateway_told mid r bytes (exchange access r addr p rest x.reading) unasked false
          (exchange access r addr p rest x.reading).origin ended exact.client w.is exact.granted exact.origin refl
          (IsPrefix_refl (exchange access r addr p rest x.reading).origin));
    }
    by (inr (fault, unreached)) = record {
      seen = x.seen;
      reading = x.reading;
      broke = true;
      fits = record {
        front = x.front;
        reads = x.reads;
        whole = λ _ i. absurd cc;
        none = λ _. unreached.headless;
        headed = λ i. absurd (told_here w i);
      };
      broken = λ _. fault;
      goes = λ unasked. gateway_told mid r bytes (exchange access r addr p rest x.reading) unasked true
          unreached.origin.0
          ended unreached.client w.is unreached.granted unreached.origin.1 unreached.origin.2 unreached.origin.2;
    }

-- a tunnel, behind the line that tells of it
pub tunnelled_goes : {seated : Bool} {left a b c d : Option (List ℕ)} {g h : ℕ} (mid : Option (List ℕ))
    (r : HttpRequest) (rest bytes line : List ℕ) (unasked : List FrontAnswer) (e : Tunnelled)
    → line ≡ established_text → Appends a mid line → Grew c d (λ part. IsPrefix part rest)
    → PaysPart bytes (metered seated mid b g h) (spare_of_tunnel e)
    → (e ≡ tunnelled.Ended → Appends c d rest) → (e ≡ tunnelled.Ended → PaysAll bytes (metered seated mid b g h))
    → ForwardsAs (tunnelled_turn r bytes rest unasked) unasked false
    (exchange_seen left (metered seated a b g h) (sink c d)) (tunnel_end e)
tunnelled_goes {seated} {left} {a} {b} {c} {d} {g} {h} mid r rest bytes line unasked e same told up down up_all
    down_all = by e up_all down_all down
  where
    first : Appends a mid established_text
    first = subst (Appends a mid) same told

    part : (ended : Carried) (spare : ℕ) → is_exact ended ≡ false → spare ≤ spare_of ended
        → PaysPart bytes (metered seated mid b g h) spare
        → ForwardsAs (tunnelled_turn r bytes rest unasked) unasked false
        (exchange_seen left (metered seated a b g h) (sink c d)) ended
    part ended spare fault few q = record {
      written = established_text ++ q.part;
      given = up.0;
      exact = λ i. absurd (let j : false ≡ true = sym fault ∙ i in cc);
      front = IsPrefix_more (established_text ++ q.part) (established_text ++ bytes) []
          (IsPrefix_after established_text q.part bytes q.front);
      gives = subst (λ w. WritesAs (w && true) up.0 rest) (sym fault) up.2;
      wrote = Appends-trans a mid b established_text q.part first q.wrote;
      gave = up.1;
      pays = record {
        more = q.more;
        close = omega (arith, q.close, few);
        granted = q.granted ∙ ap (λ n. granted_after seated g (n + q.more))
            (omega (arith, length-append established_text q.part, ap length q.front.1, length-append q.part q.front.0));
      };
      rest = λ i. absurd (let j : false ≡ true = sym fault ∙ ap is_exact i in cc);
      spare = refl;
    }

    by : (e : Tunnelled) → (e ≡ tunnelled.Ended → Appends c d rest)
        → (e ≡ tunnelled.Ended → PaysAll bytes (metered seated mid b g h)) → PaysPart bytes (metered seated mid b g h)
        (spare_of_tunnel e)
        → ForwardsAs (tunnelled_turn r bytes rest unasked) unasked false
        (exchange_seen left (metered seated a b g h) (sink c d)) (tunnel_end e)
    by tunnelled.Ended u v q = record {
      written = established_text ++ bytes ++ [];
      given = rest;
      exact = λ _. (refl, refl);
      front = IsPrefix_refl (established_text ++ bytes ++ []);
      gives = refl;
      wrote = subst (Appends a b) (sym (append-nil (established_text ++ bytes)))
          (Appends-trans a mid b established_text bytes first (v refl).wrote);
      gave = u refl;
      pays = record {
        more = 0;
        close = omega arith;
        granted = (v refl).granted
            ∙ ap (granted_after seated g)
            (all_counted established_text bytes [] (established_text ++ bytes ++ []) refl ∙ omega arith);
      };
      rest = λ i. absurd cc;
      spare = refl;
    }
    by tunnelled.ClientFault u v q = part (Over ClientFault) piece_limit refl (omega arith) q
    by tunnelled.OriginFault u v q = part (Over OriginFault) 0 refl (omega arith) q
    by tunnelled.Starved u v q = part (Over Starved) 0 refl (omega arith) q
    by tunnelled.WantOfMemory u v q = part (Over WantOfMemory) 0 refl (omega arith) q

-- the line that tells of a tunnel was not written whole
pub untold_goes : {seated : Bool} {left a b c : Option (List ℕ)} {g : ℕ} (r : HttpRequest) (rest bytes line : List ℕ)
    (unasked : List FrontAnswer)
    → line ≡ established_text → Grew a b (λ part. IsPrefix part line) → Appends c c [] → g ≡ granted_after seated g 0
    → ForwardsAs (tunnelled_turn r bytes rest unasked) unasked false
    (exchange_seen left (metered seated a b g g) (sink c c)) (Over ClientFault)
untold_goes {seated} {left} {a} {b} {c} {g} r rest bytes line unasked same (part, grew, front) none few =
    let begins : IsPrefix part established_text = subst (IsPrefix part) same front in
    record {
      written = part;
      given = [];
      exact = λ i. absurd cc;
      front = IsPrefix_more part (established_text ++ bytes) [] (IsPrefix_more part established_text bytes begins);
      gives = (rest, refl);
      wrote = grew;
      gave = none;
      pays = record {
        more = 0;
        close = omega arith;
        granted = few ∙ ap (granted_after seated g) (omega (arith, ap length begins.1, length-append part begins.0));
      };
      rest = λ i. absurd cc;
      spare = refl;
    }

-- as the request asks
pub forwards_connect : {seated : Bool} {left a b c d : Option (List ℕ)} {g h : ℕ} {failed : Type 0}
    (access : HeaderAccess) (r : HttpRequest)
    (addr : Address) (p : BodyPlan) (rest bytes : List ℕ) (ended : Carried)
    → is_connect r ≡ true → ((unasked : List FrontAnswer)
    → ForwardsAs (tunnelled_turn r bytes rest unasked) unasked false
    (exchange_seen left (metered seated a b g h) (sink c d)) ended)
    → Forwards access (message r addr p) rest bytes (exchange_seen left (metered seated a b g h) (sink c d)) failed
    ended
forwards_connect {seated} {left} {a} {b} {c} {d} {g} {h} {failed} access r addr p rest bytes ended e x = record {
  seen = [];
  reading = record { interim = []; final = None; rest = [] };
  broke = false;
  fits = (λ i. absurd (let j : true ≡ false = sym e ∙ i in cc), λ _. refl);
  broken = λ i. absurd cc;
  goes = λ unasked. subst (λ t. ForwardsAs t unasked false (exchange_seen left (metered seated a b g h) (sink c d))
      ended) (rw e refl) (x unasked);
}

pub forwards_trade : {seated : Bool} {left a b c d : Option (List ℕ)} {g h : ℕ} {failed : Type 0}
    (access : HeaderAccess) (r : HttpRequest)
    (addr : Address) (p : BodyPlan) (rest bytes : List ℕ) (ended : Carried)
    → is_connect r ≡ false → Trades access (message r addr p) rest bytes
    (exchange_seen left (metered seated a b g h) (sink c d)) failed ended
    → Forwards access (message r addr p) rest bytes (exchange_seen left (metered seated a b g h) (sink c d)) failed
    ended
forwards_trade {seated} {left} {a} {b} {c} {d} {g} {h} {failed} access r addr p rest bytes ended e x = record {
  seen = x.seen;
  reading = x.reading;
  broke = x.broke;
  fits = (λ _. x.fits, λ i. absurd (let j : false ≡ true = sym e ∙ i in cc));
  broken = x.broken;
  goes = λ unasked. subst (λ t. ForwardsAs t unasked x.broke (exchange_seen left (metered seated a b g h) (sink c d))
      ended) (rw e refl)
      (x.goes unasked);
}

-- the same, by what was answered
pub traded_told : {first told : Option (List ℕ)} {seated : Bool} {left a b c d : Option (List ℕ)} {g h : ℕ}
    {failed : Type 0} (access : HeaderAccess) (r : HttpRequest) (addr : Address) (p : BodyPlan) (e : Exchanged)
    (ended : Carried)
    → ended ≡ carried_of e → (e ≡ exchanged.NoReply → ⊥)
    → IfSome first (λ input. IfSome told
    (λ reply. Exchanges access (message r addr p) input reply (exchange_seen left (metered seated a b g h) (sink c d))
    failed e))
    → TradesTold access (message r addr p) first told (exchange_seen left (metered seated a b g h) (sink c d)) failed
    ended
traded_told {first = None} access r addr p e ended i n x = record { known = tt }
traded_told {first = Some rest} {told = None} access r addr p e ended i n x = record { known = tt }
traded_told {first = Some rest} {told = Some bytes} {seated} {left} {a} {b} {c} {d} {g} {h} {failed} access r addr p e
    ended i
    n x =
    record {
      known = subst (λ z. Trades access (message r addr p) rest bytes
          (exchange_seen left (metered seated a b g h) (sink c d)) failed z) (sym i)
          (traded access r addr p rest bytes e n x);
    }

pub untraded_told : {first told : Option (List ℕ)} {seated : Bool} {left a b c d : Option (List ℕ)} {g h : ℕ}
    {failed : Type 0} (mid : Option (List ℕ)) (access : HeaderAccess) (r : HttpRequest) (addr : Address) (p : BodyPlan)
    (e : Exchanged)
    (no_body : Bool) (ended : Carried)
    → e ≡ exchanged.NoReply → no_body ≡ is_head r
    → IfSome first (λ input. IfSome told
    (λ reply. Exchanges access (message r addr p) input reply (exchange_seen left (metered seated a mid g h) (sink c d))
    failed e))
    → WritesReply (error_text BadGateway no_body) Closes mid b ended
    → TradesTold access (message r addr p) first told (exchange_seen left (metered seated a b g h) (sink c d)) failed
    ended
untraded_told {first = None} mid access r addr p e no_body ended i n x w = record { known = tt }
untraded_told {first = Some rest} {told = None} mid access r addr p e no_body ended i n x w = record { known = tt }
untraded_told {first = Some rest} {told = Some bytes} {seated} {left} {a} {b} {c} {d} {g} {h} {failed} mid access r addr
    p e
    no_body ended i n x w =
    record {
      known = untraded mid access r addr p rest bytes ended
          (subst (λ z. Exchanges access (message r addr p) rest bytes
          (exchange_seen left (metered seated a mid g h) (sink c d)) failed z) i x)
          (subst (λ z. WritesReply (error_text BadGateway z) Closes mid b ended) n w);
    }

-- by the configuration of a record and its facts
pub traded_by : {first told : Option (List ℕ)} {seated : Bool} {left a b c d : Option (List ℕ)} {g h : ℕ}
    {failed : Type 0} (j : Judged) (conf : Configuration) (facts : List Bool) (r : HttpRequest) (addr : Address)
    (p : BodyPlan) (e : Exchanged) (ended : Carried)
    → conf ≡ j.config → facts ≡ facts_of j.config.acls j.sight → ended ≡ carried_of e → (e ≡ exchanged.NoReply → ⊥)
    → ((s : Sight) → facts ≡ facts_of conf.acls s → IfSome first (λ input. IfSome told
    (λ reply. Exchanges (header_access conf s) (message r addr p) input reply
    (exchange_seen left (metered seated a b g h) (sink c d)) failed e)))
    → TradesTold (access_of j) (message r addr p) first told (exchange_seen left (metered seated a b g h) (sink c d))
    failed ended
traded_by {first} {told} {seated} {left} {a} {b} {c} {d} {g} {h} {failed} j conf facts r addr p e ended same saw i n x =
    traded_told (access_of j) r addr p e ended i n
    (subst (λ z. IfSome first (λ input. IfSome told
    (λ reply. Exchanges (header_access z j.sight) (message r addr p) input reply
    (exchange_seen left (metered seated a b g h) (sink c d)) failed e))) same
    (x j.sight (subst (λ z. facts ≡ facts_of (Configuration.acls z) j.sight) (sym same) saw)))

pub untraded_by : {first told : Option (List ℕ)} {seated : Bool} {left a b c d : Option (List ℕ)} {g h : ℕ}
    {failed : Type 0} (mid : Option (List ℕ)) (j : Judged) (conf : Configuration) (facts : List Bool) (r : HttpRequest)
    (addr : Address) (p : BodyPlan) (e : Exchanged) (no_body : Bool) (ended : Carried)
    → conf ≡ j.config → facts ≡ facts_of j.config.acls j.sight → e ≡ exchanged.NoReply → no_body ≡ is_head r
    → ((s : Sight) → facts ≡ facts_of conf.acls s → IfSome first (λ input. IfSome told
    (λ reply. Exchanges (header_access conf s) (message r addr p) input reply
    (exchange_seen left (metered seated a mid g h) (sink c d)) failed e)))
    → WritesReply (error_text BadGateway no_body) Closes mid b ended
    → TradesTold (access_of j) (message r addr p) first told (exchange_seen left (metered seated a b g h) (sink c d))
    failed ended
untraded_by {first} {told} {seated} {left} {a} {b} {c} {d} {g} {h} {failed} mid j conf facts r addr p e no_body ended
    same saw i n x w =
    untraded_told mid (access_of j) r addr p e no_body ended i n
    (subst (λ z. IfSome first (λ input. IfSome told
    (λ reply. Exchanges (header_access z j.sight) (message r addr p) input reply
    (exchange_seen left (metered seated a mid g h) (sink c d)) failed e))) same
    (x j.sight (subst (λ z. facts ≡ facts_of (Configuration.acls z) j.sight) (sym same) saw))) w

carried_cause : (A B C : Type 0) (e : Exchanged) → ExchangeHasCause A B e → EndHasCause A (B ⊎ C) (carried_of e)
carried_cause A B C exchanged.ClientFault x = x
carried_cause A B C exchanged.OriginFault x = inl x
carried_cause A B C exchanged.Kept x = tt
carried_cause A B C exchanged.Closed x = tt
carried_cause A B C exchanged.Cut x = tt
carried_cause A B C exchanged.BadBody x = tt
carried_cause A B C exchanged.NoReply x = tt
carried_cause A B C exchanged.OriginCut x = tt
carried_cause A B C exchanged.Starved x = tt
carried_cause A B C exchanged.WantOfMemory x = tt

pub traded_cause : (A B C : Type 0) (e : Exchanged) (ended : Carried) → ended ≡ carried_of e → ExchangeHasCause A B e
    → EndHasCause A (B ⊎ C) ended
traded_cause A B C e ended i x = subst (EndHasCause A (B ⊎ C)) (sym i) (carried_cause A B C e x)

carried_dry : (e : Exchanged) → dry_after_exchange e ≡ dry_after (carried_of e)
carried_dry exchanged.ClientFault = refl
carried_dry exchanged.OriginFault = refl
carried_dry exchanged.Kept = refl
carried_dry exchanged.Closed = refl
carried_dry exchanged.Cut = refl
carried_dry exchanged.BadBody = refl
carried_dry exchanged.NoReply = refl
carried_dry exchanged.OriginCut = refl
carried_dry exchanged.Starved = refl
carried_dry exchanged.WantOfMemory = refl

pub traded_dry : (e : Exchanged) (ended : Carried) → ended ≡ carried_of e → dry_after_exchange e ≡ dry_after ended
traded_dry e ended i = carried_dry e ∙ ap dry_after (sym i)

-- a tunnel by what is told of both its ways
pub connects : {first told : Option (List ℕ)} {seated : Bool} {left a b c d : Option (List ℕ)} {g h : ℕ}
    (mid : Option (List ℕ)) (line : List ℕ) (e : Tunnelled) (ended : Carried)
    → ended ≡ tunnel_end e → line ≡ established_text → Appends a mid line → GoesInPart first c d
    → GoesGranted told (metered seated mid b g h) (spare_of_tunnel e)
    → (e ≡ tunnelled.Ended → GoesWhole first left c d) → (e ≡ tunnelled.Ended → GoesPaid told
    (metered seated mid b g h))
    → ConnectsTold first told (exchange_seen left (metered seated a b g h) (sink c d)) ended
connects {first = None} mid line e ended i same w up down up_all down_all = record { known = tt }
connects {first = Some rest} {told = None} mid line e ended i same w up down up_all down_all = record { known = tt }
connects {first = Some rest} {told = Some bytes} {seated} {left} {a} {b} {c} {d} {g} {h} mid line e ended i same w up
    down up_all down_all = record {
      known = λ r unasked. subst (λ z. ForwardsAs (tunnelled_turn r bytes rest unasked) unasked false
          (exchange_seen left (metered seated a b g h) (sink c d)) z) (sym i)
          (tunnelled_goes mid r rest bytes line unasked e same w up down (λ k. (up_all k).1) down_all);
    }

-- the line that tells of it was not written whole
pub connects_not : {first told : Option (List ℕ)} {seated : Bool} {left a b c : Option (List ℕ)} {g : ℕ} (line : List ℕ)
    → line ≡ established_text → Grew a b (λ part. IsPrefix part line) → Appends c c [] → g ≡ granted_after seated g 0
    → ConnectsTold first told (exchange_seen left (metered seated a b g g) (sink c c)) (Over ClientFault)
connects_not {first = None} line same w none few = record { known = tt }
connects_not {first = Some rest} {told = None} line same w none few = record { known = tt }
connects_not {first = Some rest} {told = Some bytes} line same w none few =
    record { known = λ r unasked. untold_goes r rest bytes line unasked same w none few }

tunnel_causes : (A B : Type 0) (e : Tunnelled) → (e ≡ tunnelled.ClientFault → A) → (e ≡ tunnelled.OriginFault → B)
    → EndHasCause A B (tunnel_end e)
tunnel_causes A B tunnelled.Ended f k = tt
tunnel_causes A B tunnelled.ClientFault f k = f refl
tunnel_causes A B tunnelled.OriginFault f k = k refl
tunnel_causes A B tunnelled.Starved f k = tt
tunnel_causes A B tunnelled.WantOfMemory f k = tt

pub connects_cause : {A B : Type 0} (e : Tunnelled) (ended : Carried) → ended ≡ tunnel_end e
    → (e ≡ tunnelled.ClientFault → A) → (e ≡ tunnelled.OriginFault → B) → EndHasCause A B ended
connects_cause {A} {B} e ended i f k = subst (EndHasCause A B) (sym i) (tunnel_causes A B e f k)

tunnel_dry : (e : Tunnelled) → dry_after_tunnel e ≡ dry_after (tunnel_end e)
tunnel_dry tunnelled.Ended = refl
tunnel_dry tunnelled.ClientFault = refl
tunnel_dry tunnelled.OriginFault = refl
tunnel_dry tunnelled.Starved = refl
tunnel_dry tunnelled.WantOfMemory = refl

pub connects_dry : (e : Tunnelled) (ended : Carried) → ended ≡ tunnel_end e → dry_after_tunnel e ≡ dry_after ended
connects_dry e ended i = tunnel_dry e ∙ ap dry_after (sym i)

-- a tunnel, or an exchange, as the request asks
pub connects_forwards : {first told : Option (List ℕ)} {seated : Bool} {left a b c d : Option (List ℕ)} {g h : ℕ}
    {failed : Type 0} {ended : Carried} (access : HeaderAccess) (r : HttpRequest) (addr : Address) (p : BodyPlan)
    → is_connect r ≡ true → ConnectsTold first told (exchange_seen left (metered seated a b g h) (sink c d)) ended
    → ForwardsTold access (message r addr p) first told (exchange_seen left (metered seated a b g h) (sink c d)) failed
    ended
connects_forwards {first = None} access r addr p e x = record { known = tt }
connects_forwards {first = Some rest} {told = None} access r addr p e x = record { known = tt }
connects_forwards {first = Some rest} {told = Some bytes} access r addr p e x =
    record { known = forwards_connect access r addr p rest bytes _ e (λ unasked. x.known r unasked) }

pub trades_forwards : {first told : Option (List ℕ)} {seated : Bool} {left a b c d : Option (List ℕ)} {g h : ℕ}
    {failed : Type 0} {ended : Carried} (access : HeaderAccess) (r : HttpRequest) (addr : Address) (p : BodyPlan)
    → is_connect r ≡ false → TradesTold access (message r addr p) first told
    (exchange_seen left (metered seated a b g h) (sink c d)) failed ended
    → ForwardsTold access (message r addr p) first told (exchange_seen left (metered seated a b g h) (sink c d)) failed
    ended
trades_forwards {first = None} access r addr p e x = record { known = tt }
trades_forwards {first = Some rest} {told = None} access r addr p e x = record { known = tt }
trades_forwards {first = Some rest} {told = Some bytes} access r addr p e x =
    record { known = forwards_trade access r addr p rest bytes _ e x.known }
