-- A way of a tunnel is a body that goes on to the end of the input; a tunnel is two of them.
use Rattle.std.proofs.Common.{◌≡◌, ◌≤◌, inl, inr, ℕ, Bool, true, false, List, [], ◌++◌, Option, Some, None, refl, sym, ap, subst, ◌∙◌, arith, append-nil}
use Rattle.std.specs.Io.KnownBytes.{Appends, IsAtEnd}
use Rattle.sq_base.specs.declared.plans.BodyPlan.TheVariants as plan
use Rattle.sq_message.specs.declared.body_state.BodyState.TheVariants.{Open}
use Rattle.sq_message.specs.Bodies.{Walk, body_of, walk}
use Rattle.sq_message.proofs.BodyLaws.{copy_open, walk_none}
use Rattle.sq_forward.specs.Copying.{CopiesBody, Copies, dry_after_copy}
use Rattle.sq_forward.specs.Meters.{PaysAll, PaysPart, piece_limit, metered}
use Rattle.sq_forward.specs.Tunnels.{way_of, dry_after_way, spare_of_way, JoinsWays, spare_of_tunnel, GoesInPart, GoesWhole, GoesPaid, PaidAtEnd, GoesGranted}
use Rattle.sq_forward.specs.declared.copying.Copied.{Copied}
use Rattle.sq_forward.specs.declared.copying.Copied.TheVariants as copied
use Rattle.sq_forward.specs.declared.tunnels.Tunnelled.{Tunnelled}
use Rattle.sq_forward.specs.declared.tunnels.Tunnelled.TheVariants as tunnelled
use Rattle.sq_forward.specs.declared.ways.WayEnd.{WayEnd}
use Rattle.sq_forward.specs.declared.ways.WayEnd.TheVariants.{Ended, NoSource, NoSink, Starved, WantOfMemory}
use Rattle.sq_forward.proofs.PayLaws.{pays_whole, pays_spare}

-- a body up to the end gives its bytes
open_body : (bytes : List ℕ) → body_of plan.ToClose false bytes ≡ record { place = Open; out = bytes; rest = [] }
open_body bytes =
    ap (walk false Open) (sym (append-nil bytes)) ∙ copy_open false bytes []
    ∙ ap (λ w. record { place = Walk.place w; out = bytes ++ Walk.out w; rest = Walk.rest w }) (walk_none false Open)
    ∙ ap (λ o. record { place = Open; out = o; rest = [] }) (append-nil bytes)

-- what was written of a body up to the end, by how its copying ended
goes_of : (seated : Bool) (bytes : List ℕ) (left before now : Option (List ℕ)) (g h : ℕ) (c : Copied)
    → CopiesBody (record { place = Open; out = bytes; rest = [] }) left (metered seated before now g h) c
    → PaysPart bytes (metered seated before now g h) (spare_of_way (way_of c))
goes_of seated bytes left before now g h copied.Whole x = let f : false ≡ true = x.0 in absurd cc
goes_of seated bytes left before now g h copied.Cut x = pays_whole x.3
goes_of seated bytes left before now g h copied.Bad x = let f : false ≡ true = x.0 in absurd cc
goes_of seated bytes left before now g h copied.NoSource x = x
goes_of seated bytes left before now g h copied.NoSink x = x
goes_of seated bytes left before now g h copied.Starved x = x
goes_of seated bytes left before now g h copied.WantOfMemory x = x

whole_of : (seated : Bool) (bytes : List ℕ) (left before now : Option (List ℕ)) (g h : ℕ) (c : Copied)
    → way_of c ≡ Ended → CopiesBody (record { place = Open; out = bytes; rest = [] }) left
    (metered seated before now g h) c
    → IsAtEnd left × Appends before now bytes
whole_of seated bytes left before now g h copied.Whole e x = let f : false ≡ true = x.0 in absurd cc
whole_of seated bytes left before now g h copied.Cut e x = (x.2, x.3.wrote)
whole_of seated bytes left before now g h copied.Bad e x = let f : false ≡ true = x.0 in absurd cc
whole_of seated bytes left before now g h copied.NoSource e x = absurd cc
whole_of seated bytes left before now g h copied.NoSink e x = absurd cc
whole_of seated bytes left before now g h copied.Starved e x = absurd cc
whole_of seated bytes left before now g h copied.WantOfMemory e x = absurd cc

paid_of : (seated : Bool) (bytes : List ℕ) (left before now : Option (List ℕ)) (g h : ℕ) (c : Copied)
    → way_of c ≡ Ended → CopiesBody (record { place = Open; out = bytes; rest = [] }) left
    (metered seated before now g h) c
    → PaysAll bytes (metered seated before now g h)
paid_of seated bytes left before now g h copied.Whole e x = let f : false ≡ true = x.0 in absurd cc
paid_of seated bytes left before now g h copied.Cut e x = x.3
paid_of seated bytes left before now g h copied.Bad e x = let f : false ≡ true = x.0 in absurd cc
paid_of seated bytes left before now g h copied.NoSource e x = absurd cc
paid_of seated bytes left before now g h copied.NoSink e x = absurd cc
paid_of seated bytes left before now g h copied.Starved e x = absurd cc
paid_of seated bytes left before now g h copied.WantOfMemory e x = absurd cc

-- a front of the bytes went as it was granted
pub way_goes : {seated : Bool} {left before mid : Option (List ℕ)} {g h : ℕ} {c : Copied} (first now : Option (List ℕ))
    (w : WayEnd) → now ≡ mid → w ≡ way_of c
    → Copies plan.ToClose false first left (metered seated before mid g h) c
    → GoesGranted first (metered seated before now g h) (spare_of_way w)
way_goes None now w same e x = tt
way_goes {seated} {left} {before} {mid} {g} {h} {c} (Some bytes) now w same e x =
    subst (λ v. PaysPart bytes (metered seated before now g h) (spare_of_way v)) (sym e)
    (subst (λ o. PaysPart bytes (metered seated before o g h) (spare_of_way (way_of c))) (sym same)
    (goes_of seated bytes left before mid g h c
    (subst (λ b. CopiesBody b left (metered seated before mid g h) c) (open_body bytes) x.body)))

-- all of it went
pub way_whole : {seated : Bool} {left before mid : Option (List ℕ)} {g h : ℕ} {c : Copied} (first now : Option (List ℕ))
    (w : WayEnd) → now ≡ mid → w ≡ way_of c
    → Copies plan.ToClose false first left (metered seated before mid g h) c → w ≡ Ended → GoesWhole first left before
    now
way_whole None now w same e x i = tt
way_whole {seated} {left} {before} {mid} {g} {h} {c} (Some bytes) now w same e x i =
    subst (λ o. IsAtEnd left × Appends before o bytes) (sym same)
    (whole_of seated bytes left before mid g h c (sym e ∙ i)
    (subst (λ b. CopiesBody b left (metered seated before mid g h) c) (open_body bytes) x.body))

-- all of it was granted
pub way_paid : {seated : Bool} {left before mid : Option (List ℕ)} {g h : ℕ} {c : Copied} (first now : Option (List ℕ))
    (w : WayEnd) → now ≡ mid → w ≡ way_of c
    → Copies plan.ToClose false first left (metered seated before mid g h) c → w ≡ Ended → GoesPaid first
    (metered seated before now g h)
way_paid None now w same e x i = tt
way_paid {seated} {left} {before} {mid} {g} {h} {c} (Some bytes) now w same e x i =
    subst (λ o. PaysAll bytes (metered seated before o g h)) (sym same)
    (paid_of seated bytes left before mid g h c (sym e ∙ i)
    (subst (λ b. CopiesBody b left (metered seated before mid g h) c) (open_body bytes) x.body))

-- what was written where nothing is counted
pub way_grew : (first before now : Option (List ℕ)) (spare : ℕ) → GoesGranted first (metered false before now 0 0) spare
    → GoesInPart first before now
way_grew None before now spare x = tt
way_grew (Some bytes) before now spare x = (x.part, x.wrote, x.front)

-- the meter of a way is that of its copying
pub way_dry : (k : Copied) → dry_after_copy k ≡ dry_after_way (way_of k)
way_dry copied.Whole = refl
way_dry copied.Cut = refl
way_dry copied.Bad = refl
way_dry copied.NoSource = refl
way_dry copied.NoSink = refl
way_dry copied.Starved = refl
way_dry copied.WantOfMemory = refl

spare_most : (w : WayEnd) → spare_of_way w ≤ piece_limit
spare_most NoSink = omega arith
spare_most Ended = omega arith
spare_most NoSource = omega arith
spare_most Starved = omega arith
spare_most WantOfMemory = omega arith

no_spare : (w : WayEnd) → (w ≡ NoSink → ⊥) → spare_of_way w ≤ 0
no_spare NoSink h = absurd (h refl)
no_spare Ended h = omega arith
no_spare NoSource h = omega arith
no_spare Starved h = omega arith
no_spare WantOfMemory h = omega arith

-- what a tunnel may have been granted more is that of its way to the client
tunnel_spare : (up down : WayEnd) (t : Tunnelled) → JoinsWays up down t → 0 ≡ dry_after_way up
    → spare_of_way down ≤ spare_of_tunnel t
tunnel_spare up down tunnelled.Ended j fed = omega (arith, ap spare_of_way j.1)
tunnel_spare up down tunnelled.ClientFault j fed = spare_most down
tunnel_spare up down tunnelled.OriginFault j fed = no_spare down j.2
tunnel_spare up down tunnelled.Starved (inl e) fed = absurd (let f = fed ∙ ap dry_after_way e in omega (arith, f))
tunnel_spare up down tunnelled.Starved (inr e) fed = omega (arith, ap spare_of_way e)
tunnel_spare up down tunnelled.WantOfMemory j fed = no_spare down j.2

pub tunnel_goes : (up down : WayEnd) (t : Tunnelled) (seated : Bool) (first before now : Option (List ℕ)) (g h : ℕ)
    → JoinsWays up down t → 0 ≡ dry_after_way up
    → GoesGranted first (metered seated before now g h) (spare_of_way down)
    → GoesGranted first (metered seated before now g h) (spare_of_tunnel t)
tunnel_goes up down t seated None before now g h j fed x = tt
tunnel_goes up down t seated (Some bytes) before now g h j fed x =
    pays_spare (spare_of_way down) (spare_of_tunnel t) (tunnel_spare up down t j fed) x

-- what was granted to a way that ended was to a tunnel that did
pub tunnel_paid : {seated : Bool} {first before now : Option (List ℕ)} {g h : ℕ} (up down : WayEnd) (t : Tunnelled)
    → JoinsWays up down t → PaidAtEnd first (metered seated before now g h) down
    → t ≡ tunnelled.Ended → GoesPaid first (metered seated before now g h)
tunnel_paid up down t j p e = let k : JoinsWays up down tunnelled.Ended = subst (JoinsWays up down) e j in p.paid k.1
