-- A session over a hub is that of the hub's connection.
use Rattle.std.proofs.Common.{◌≡◌, ℕ, List, [], ◌++◌, Option, Some, None, refl, sym, ap, subst}
use Rattle.std.specs.Io.KnownBytes.{prepend_known}
use Rattle.sq_base.specs.Addresses.{Address}
use Rattle.sq_outside.specs.Dials.{Dialled}
use Rattle.sq_turns.specs.Pieces.{FrontStands, hub_seen, served_told}
use Rattle.sq_turns.specs.Sessions.{session_seen}
use Rattle.sq_turns.specs.Steps.{FrontSeen, front_seen}
use Rattle.sq_turns.specs.Tellings.{HubState}
use Rattle.sq_turns.specs.Told.{SessionTold}
use Rattle.sq_turns.specs.declared.ends.End.{End}

-- nothing is ahead of a link that was just taken
nothing_ahead : (ahead : List ℕ) (left : Option (List ℕ)) → ahead ≡ [] → prepend_known ahead left ≡ left
nothing_ahead ahead None e = refl
nothing_ahead ahead (Some bytes) e = ap (λ (l : List ℕ). Some (l ++ bytes)) e

-- the same where the number of the front is another one behind the session
abbrev hub_first : ℕ → ℕ → Option HubState → ℕ → Option HubState → ℕ → FrontSeen
hub_first conn other told_before refused_before told_now refused_now =
    front_seen (FrontStands conn (served_told told_before) refused_before)
    (FrontStands other (served_told told_now) refused_now)

-- a session over the front of this connection, which stays that, over this hub
pub serves_hub : {H : Type 0} (told : H → Option HubState) (refused granted : H → ℕ) (addr : Address) (port : ℕ)
    (left : Option (List ℕ)) (conn : ℕ) (hub : H) {ahead : List ℕ} {c d : ℕ} {h k r : H} {a b : Option (List ℕ)}
    {before now : Option Dialled} {failed : Type 0} {end : End}
    → ahead ≡ [] → c ≡ conn → h ≡ hub → d ≡ c → r ≡ k
    → SessionTold addr port (prepend_known ahead left)
    (front_seen (FrontStands c (served_told (told h)) (refused h)) (FrontStands d (served_told (told k)) (refused k)))
    (session_seen a b (granted h) (granted k) before) now failed end
    → SessionTold addr port left (hub_seen conn (told hub) (refused hub) (told r) (refused r))
    (session_seen a b (granted hub) (granted r) before) now failed end
serves_hub {H} told refused granted addr port left conn hub {ahead} {c} {d} {h} {k} {r} {a} {b} {before} {now} {failed}
    {end} none same_conn same_hub kept back x =
    let Seen : Option (List ℕ) → ℕ → ℕ → H → H → Type 0 = λ l m n u v. SessionTold addr port l
    (hub_first m n (told u) (refused u) (told v) (refused v)) (session_seen a b (granted u) (granted v) before) now
    failed end in
    subst (λ v. Seen left conn conn hub v) (sym back)
    (subst (λ u. Seen left conn conn u k) same_hub
    (subst (λ n. Seen left n n h k) same_conn
    (subst (λ n. Seen left c n h k) kept
    (subst (λ l. Seen l c d h k) (nothing_ahead ahead left none) x))))
