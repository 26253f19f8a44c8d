-- Facts over what is told, and over turns whose way is known.
use Rattle.std.proofs.Common.{◌≡◌, ℕ, ◌≤◌, List, [], ◌∷◌, ◌++◌, Bool, true, false, not, ◌&&◌, Option, Some, None, IfSome, refl, sym, ap, subst, ◌∙◌}
use Rattle.sq_base.specs.Addresses.{Address}
use Rattle.sq_base.specs.Requests.{HttpRequest}
use Rattle.sq_base.specs.declared.plans.BodyPlan.{BodyPlan}
use Rattle.sq_outside.specs.Causes.{count_limit}
use Rattle.sq_outside.specs.Dials.{Dial, Dialled, Origin, CallsMore, DialsMore, DialReaches, GivesDial}
use Rattle.std.specs.Io.KnownBytes.{Appends, prepend_known}
use Rattle.sq_forward.specs.Access.{HeaderAccess}
use Rattle.sq_forward.specs.Replies.{Reading}
use Rattle.sq_turns.specs.Fronts.{FrontAnswer}
use Rattle.sq_turns.specs.Forwarding.{Forwards, given_by}
use Rattle.sq_turns.specs.Steps.{is_exact, WritesAs, FitsDial, WasTold, Goes, turn_seen}
use Rattle.sq_turns.specs.Told.{ForwardsTold, ReachesTold}
use Rattle.sq_turns.specs.Turns.{Came, is_head, is_connect, dial_to, forwarded, dialled}
use Rattle.sq_turns.specs.declared.ends.Carried.{Carried}
use Rattle.sq_message.specs.OwnReplies.{error_text}
use Rattle.sq_message.specs.declared.own.Own.TheVariants.{BadGateway}
use Rattle.sq_turns.specs.Written.{WritesReply}
use Rattle.sq_turns.specs.declared.ends.Carried.TheVariants.{Closes}
use Rattle.sq_turns.proofs.GoesLaws.{fault_goes}
use Rattle.sq_forward.specs.Meters.{metered}
use Rattle.sq_forward.specs.Exchanges.{message, sink, exchange_seen}

-- a dialer that told at a dial and at its return
pub dialled_told : (before mid now : Option Dialled) (origin_back : Option Origin) (written_back : Option (List ℕ))
    → DialsMore before mid → GivesDial mid now origin_back written_back → WasTold before now
dialled_told before mid None o w m b = record { told = tt }
dialled_told before None (Some now) o w m b = absurd (let e = b.1 in cc)
dialled_told before (Some mid) (Some now) o w m b = record { told = (m.0, m.1) }

pub refused_told : (before now : Option Dialled) → now ≡ before → WasTold before now
refused_told before None e = record { told = tt }
refused_told before (Some now) e = record { told = (now, sym e) }

-- the call of a dial, and no other at its return
pub calls_after : (before mid now : Option ℕ) → CallsMore before mid → now ≡ mid → CallsMore before now
calls_after before mid now more same = subst (λ n. CallsMore before n) (sym same) more

-- the turn's dial is that of its request
dial_of : (access : HeaderAccess) (r : HttpRequest) (addr : Address) (p : BodyPlan) (rest bytes : List ℕ)
    (reading : Reading) (broke : Bool)
    (unasked : List FrontAnswer)
    → (forwarded access (message r addr p) rest bytes reading broke unasked).dial
    ≡ Some (dial_to r bytes (given_by (forwarded access (message r addr p) rest bytes reading broke unasked).dial))
dial_of access r addr p rest bytes reading broke unasked = by (is_connect r) refl
  where
    by : (b : Bool) → is_connect r ≡ b
        → (forwarded access (message r addr p) rest bytes reading broke unasked).dial
        ≡ Some (dial_to r bytes (given_by (forwarded access (message r addr p) rest bytes reading broke unasked).dial))
    by true e = rw e refl
    by false e = rw e refl

-- a turn of a link that failed
faulted_of : (access : HeaderAccess) (r : HttpRequest) (addr : Address) (p : BodyPlan) (rest bytes : List ℕ)
    (reading : Reading) (broke : Bool)
    (unasked : List FrontAnswer) → (forwarded access (message r addr p) rest bytes reading broke unasked).faulted ≡ true
    → broke
    ≡ true
faulted_of access r addr p rest bytes reading broke unasked h = by (is_connect r) refl
  where
    by : (b : Bool) → is_connect r ≡ b → broke ≡ true
    by true e = let k : false ≡ true = rw e at h in absurd cc
    by false e = rw e at h

-- the dial that came back fits it
fits_dial : (whole : Bool) (t : Option Dial) (r : HttpRequest) (bytes given full : List ℕ) (d : Dial)
    → t ≡ Some (dial_to r bytes full) → d ≡ dial_to r bytes given → WritesAs whole given full
    → FitsDial whole t (Some d)
fits_dial whole t r bytes given full d e f w =
    subst (λ u. FitsDial whole u (Some d)) (sym e)
    (subst (λ v. FitsDial whole (Some (dial_to r bytes full)) (Some v)) (sym f) (refl, w))

-- the way to an origin that was reached, whose halves came back
pub reached : {seated : Bool} {left a b : Option (List ℕ)} {g h : ℕ} {fails failed : Type 0} {ended : Carried}
    (access : HeaderAccess) (r : HttpRequest) (addr : Address) (p : BodyPlan) (rest : List ℕ)
    (unasked : List FrontAnswer)
    (before mid : Option Dialled) (now : Dialled) (origin origin_back : Option Origin)
    (came written written_back : Option (List ℕ)) (first : Option (List ℕ))
    → DialsMore before mid → DialReaches mid r.host r.port origin came written → origin_back ≡ origin
    → first ≡ prepend_known [] came → GivesDial mid (Some now) origin_back written_back
    → IfSome first (λ bytes. Forwards access (message r addr p) rest bytes
    (exchange_seen left (metered seated a b g h) (sink written written_back)) fails ended)
    → (fails → failed)
    → Goes (is_connect r) (dialled access r addr p rest unasked) unasked seated (turn_seen left a b g h before) now
    failed ended
reached access r addr p rest unasked before None now origin origin_back came written written_back first m reach same
    at back f fault = absurd (let e = back.1 in cc)
reached {seated} {left} {a} {b} {g} {h} {fails} {failed} {ended} access r addr p rest unasked before (Some mid) now
    origin
    origin_back came written written_back first m reach same at back f fault =
    let bytes = reach.0 in
    let made_is : back.0 ≡ mid = let e : Some mid ≡ Some back.0 = back.1 in cc in
    let all : Forwards access (message r addr p) rest bytes (exchange_seen left (metered seated a b g h)
    (sink written written_back)) fails ended =
    subst (λ o. IfSome o (λ bs. Forwards access (message r addr p) rest bs
    (exchange_seen left (metered seated a b g h) (sink written written_back)) fails ended))
    (at ∙ ap (prepend_known []) reach.2) f in
    let x = all.goes unasked in
    let t = forwarded access (message r addr p) rest bytes all.reading all.broke unasked in
    let wrote_all : written_back ≡ Some x.given = wrote_to written written_back x.given reach.3 x.gave in
    let dial : now.back ≡ back.0.back
    ++ record { origin = record { host = r.host; port = r.port; bytes = bytes }; written = x.given } ∷ [] =
    one_back now back.0 origin_back written_back _ _ (same ∙ reach.1) wrote_all back.3 in
    record {
      reply = Came bytes all.seen all.reading all.broke;
      written = x.written;
      dial = Some (dial_to r bytes x.given);
      fits = all.fits;
      broken = λ i. fault (all.broken (faulted_of access r addr p rest bytes all.reading all.broke unasked i));
      gives = record {
        exact = x.exact;
        front = x.front;
        dial = fits_dial (is_exact ended && not all.broke) t.dial r bytes x.given (given_by t.dial)
            (dial_to r bytes x.given) (dial_of access r addr p rest bytes all.reading all.broke unasked) refl x.gives;
      };
      wrote = x.wrote;
      pays = x.pays;
      dials = record {
        old = m.0;
        told = m.1;
        made = back.2 ∙ ap Dialled.made made_is ∙ m.2;
        back = dial ∙ ap (λ o. Dialled.back o ++ dial_to r bytes x.given ∷ []) made_is
            ∙ ap (λ l. l ++ dial_to r bytes x.given ∷ []) m.3;
      };
      rest = x.rest;
      spare = x.spare;
    }
  where
    wrote_to : (c d : Option (List ℕ)) (given : List ℕ) → c ≡ Some [] → Appends c d given → d ≡ Some given
    wrote_to None d given e w = absurd cc
    wrote_to (Some x) None given e w = absurd w
    wrote_to (Some x) (Some y) given e w = let none : x ≡ [] = cc in ap (λ l. Some l) (w ∙ ap (λ l. l ++ given) none)

    one_back : (new old : Dialled) (o : Option Origin) (w : Option (List ℕ)) (origin : Origin) (given : List ℕ)
        → o ≡ Some origin → w ≡ Some given
        → IfSome o (λ u. IfSome w (λ v. new.back ≡ old.back ++ record { origin = u; written = v } ∷ []))
        → new.back ≡ old.back ++ record { origin = origin; written = given } ∷ []
    one_back new old o w origin given e f h =
        let k : IfSome (Some origin)
        (λ u. IfSome w (λ v. new.back ≡ old.back ++ record { origin = u; written = v } ∷ [])) =
        subst (λ z. IfSome z (λ u. IfSome w (λ v. new.back ≡ old.back ++ record { origin = u; written = v } ∷ []))) e
        h in
        subst (λ z. IfSome z (λ v. new.back ≡ old.back ++ record { origin = origin; written = v } ∷ [])) f k

-- an origin that was not reached
pub unreached_told : {first : Option (List ℕ)} {before now : Option Dialled} {seat : Bool} {left a b : Option (List ℕ)}
    {failed : Type 0} {g : ℕ} {ended : Carried} (access : HeaderAccess) (r : HttpRequest) (addr : Address)
    (p : BodyPlan)
    → failed → WritesReply (error_text BadGateway (is_head r)) Closes a b ended → g ≤ count_limit → now ≡ before
    → ReachesTold access (message r addr p) first seat (turn_seen left a b g g before) now failed ended
unreached_told {first = None} access r addr p fault w few same = record { known = tt }
unreached_told {first = Some rest} {now = None} access r addr p fault w few same = record { known = tt }
unreached_told {first = Some rest} {before} {now = Some d} access r addr p fault w few same = record {
  known = λ unasked. fault_goes (dialled access r addr p rest unasked) (error_text BadGateway (is_head r)) [] unasked
      Closes
      before d fault refl w few (sym same) (λ s. absurd cc);
}

-- an origin that was reached, and whose halves came back
pub reaches : {first : Option (List ℕ)} {before now : Option Dialled} {seated : Bool} {left a b : Option (List ℕ)}
    {failed : Type 0} {g h : ℕ} {ended : Carried} {fails : Type 0} {written written_back bytes : Option (List ℕ)}
    (access : HeaderAccess) (r : HttpRequest) (addr : Address) (p : BodyPlan)
    (host : List ℕ) (port : ℕ) (mid : Option Dialled) (origin origin_back : Option Origin) (came : Option (List ℕ))
    → host ≡ r.host → port ≡ r.port → DialsMore before mid → DialReaches mid host port origin came written
    → origin_back ≡ origin → bytes ≡ prepend_known [] came → GivesDial mid now origin_back written_back
    → ForwardsTold access (message r addr p) first bytes (exchange_seen left (metered seated a b g h)
    (sink written written_back)) fails ended → (fails → failed)
    → ReachesTold access (message r addr p) first seated (turn_seen left a b g h before) now failed ended
reaches {first = None} access r addr p host port mid origin origin_back came e f0 m reach same at back f fault =
    record { known = tt }
reaches {first = Some rest} {now = None} access r addr p host port mid origin origin_back came e f0 m reach same
    at back f fault = record { known = tt }
reaches {first = Some rest} {before} {now = Some d} {written} {written_back} {bytes} access r addr p host port mid
    origin
    origin_back came e f0 m reach same at back f fault =
    let there : DialReaches mid r.host r.port origin came written =
    subst (λ h. DialReaches mid h r.port origin came written) e
    (subst (λ q. DialReaches mid host q origin came written) f0 reach) in
    record {
      known = λ unasked. reached access r addr p rest unasked before mid d origin origin_back came written written_back
          bytes m there same at back f.known fault;
    }
