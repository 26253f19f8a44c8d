-- A tunnel and its ways: RFC 9110 section 9.3.6.
use Rattle.std.specs.Prelude.{◌≡◌, ◌⊎◌, ℕ, List, IfSome, ⊤}
use Rattle.std.specs.declared.option.Option.{Option}
use Rattle.std.specs.Io.KnownBytes.{Appends, IsAtEnd}
use Rattle.sq_outside.specs.Causes.{Rose}
use Rattle.sq_outside.specs.Output.{IsPrefix, Grew}
use Rattle.sq_forward.specs.Meters.{Metered, PaysAll, PaysPart, piece_limit, dry_limit}
use Rattle.sq_forward.specs.declared.copying.Copied.{Copied}
use Rattle.sq_forward.specs.declared.copying.Copied.TheVariants as copied
use Rattle.sq_forward.specs.declared.tunnels.Tunnelled.{Tunnelled}
use Rattle.sq_forward.specs.declared.tunnels.Tunnelled.TheVariants as tunnelled
use Rattle.sq_forward.specs.declared.ways.WayEnd.{WayEnd}
use Rattle.sq_forward.specs.declared.ways.WayEnd.TheVariants.{Ended, NoSource, NoSink, Starved, WantOfMemory}

-- how a way ended, by how the copying of its bytes did
abbrev pub way_of : Copied → WayEnd
way_of copied.Whole = Ended
way_of copied.Cut = Ended
way_of copied.Bad = Ended
way_of copied.NoSource = NoSource
way_of copied.NoSink = NoSink
way_of copied.Starved = Starved
way_of copied.WantOfMemory = WantOfMemory

-- the count of the link that failed rose
abbrev pub WayHasCause : ℕ → ℕ → ℕ → ℕ → WayEnd → Type 0
WayHasCause source source_now sink sink_now NoSource = Rose source source_now
WayHasCause source source_now sink sink_now NoSink = Rose sink sink_now
WayHasCause source source_now sink sink_now Ended = ⊤
WayHasCause source source_now sink sink_now Starved = ⊤
WayHasCause source source_now sink sink_now WantOfMemory = ⊤

-- how dry the meter of a way is then: how many pauses came, each behind a grant that found a bucket
-- empty
abbrev pub dry_after_way : WayEnd → ℕ
dry_after_way Starved = dry_limit
dry_after_way Ended = 0
dry_after_way NoSource = 0
dry_after_way NoSink = 0
dry_after_way WantOfMemory = 0

-- how much more than was written may have been granted: up to a piece where the sink failed
abbrev pub spare_of_way : WayEnd → ℕ
spare_of_way NoSink = piece_limit
spare_of_way Ended = 0
spare_of_way NoSource = 0
spare_of_way Starved = 0
spare_of_way WantOfMemory = 0

-- how a tunnel ends whose ways ended so: a dry meter counts before a link, and a link before memory
abbrev pub JoinsWays : WayEnd → WayEnd → Tunnelled → Type 0
JoinsWays up down tunnelled.Ended = (up ≡ Ended) × (down ≡ Ended)
JoinsWays up down tunnelled.ClientFault = ((up ≡ NoSource) ⊎ (down ≡ NoSink)) × (down ≡ Starved → ⊥)
JoinsWays up down tunnelled.OriginFault = ((up ≡ NoSink) ⊎ (down ≡ NoSource)) × (down ≡ Starved → ⊥)
    × (down ≡ NoSink → ⊥)
JoinsWays up down tunnelled.Starved = (up ≡ Starved) ⊎ (down ≡ Starved)
JoinsWays up down tunnelled.WantOfMemory = ((up ≡ WantOfMemory) ⊎ (down ≡ WantOfMemory))
    × (down ≡ Starved → ⊥) × (down ≡ NoSink → ⊥)

-- and how dry that of the client is behind a tunnel
abbrev pub dry_after_tunnel : Tunnelled → ℕ
dry_after_tunnel tunnelled.Starved = dry_limit
dry_after_tunnel tunnelled.Ended = 0
dry_after_tunnel tunnelled.ClientFault = 0
dry_after_tunnel tunnelled.OriginFault = 0
dry_after_tunnel tunnelled.WantOfMemory = 0

-- how much more than was written to the client may have been granted: up to a piece where its link
-- failed
abbrev pub spare_of_tunnel : Tunnelled → ℕ
spare_of_tunnel tunnelled.ClientFault = piece_limit
spare_of_tunnel tunnelled.Ended = 0
spare_of_tunnel tunnelled.OriginFault = 0
spare_of_tunnel tunnelled.Starved = 0
spare_of_tunnel tunnelled.WantOfMemory = 0

-- what was written is a front of what was to come, where that is told
abbrev pub GoesInPart : Option (List ℕ) → Option (List ℕ) → Option (List ℕ) → Type 0
GoesInPart first before now = IfSome first (λ bytes. Grew before now (λ part. IsPrefix part bytes))

-- all that was to come was written, and the source was read to its end
abbrev pub GoesWhole : Option (List ℕ) → Option (List ℕ) → Option (List ℕ) → Option (List ℕ)
    → Type 0
GoesWhole first left before now = IfSome first (λ bytes. IsAtEnd left × Appends before now bytes)

-- all that was to come was granted and written
abbrev pub GoesPaid : Option (List ℕ) → Metered → Type 0
GoesPaid first to = IfSome first (λ bytes. PaysAll bytes to)

-- where the way ended
pub record PaidAtEnd (first : Option (List ℕ)) (to : Metered) (w : WayEnd) : Type 0 where
  pub paid : w ≡ Ended → GoesPaid first to

-- a front of what was to come was written as it was granted
abbrev pub GoesGranted : Option (List ℕ) → Metered → ℕ → Type 0
GoesGranted first to spare = IfSome first (λ bytes. PaysPart bytes to spare)
