-- Laws of the connections of a history: its readings by their newest entry, and how many are open, counted up and down.
use Rattle.std.proofs.Common.{◌≡◌, ℕ, ◌+◌, List, [], ◌∷◌, ◌++◌, Bool, true, false, cond, if◌then◌else◌, not, ◌&&◌, ◌||◌, ◌==◌, Some, None, length, length-append, ◌-◌, suc, refl, sym, ap, subst, ◌∙◌, arith}
use Rattle.std.proofs.lemmas.Bool.Decides.{nat_tests}
use Rattle.std.proofs.lemmas.List.Elements.{filter-append}
use Rattle.std.specs.List.{filter, list_any}
use Rattle.std.specs.declared.option.Option.{Option}
use Rattle.sq_base.specs.Addresses.{Address}
use Rattle.sq_rules.specs.declared.sights.Peer.{Peer}
use Rattle.sq_machine.specs.Connections.{peer_at, peer_after, OpenConn, with_peer, newly_open, also_newer, open_besides, open_conns, open_count, conns_of, is_address}
use Rattle.sq_machine.specs.Entries.{History, Noted}
use Rattle.sq_machine.specs.Events.{ConnNews, conn_news}

-- the client of a connection after one more entry
pub peer_at_more : (e : Noted) (h : History) (c : ℕ)
    → peer_at (e ∷ h) c ≡ peer_after c (conn_news e.event) (peer_at h c)
unfolding peer_at
peer_at_more e h c = refl

-- before the first entry no connection is open
pub peer_at_none : (c : ℕ) → peer_at [] c ≡ None
unfolding peer_at
peer_at_none c = refl

-- the connections other than c
abbrev besides : ℕ → List OpenConn → List OpenConn
besides c conns = filter (λ o. not (o.conn == c)) conns

swapped_at : (b d : Bool) (o : OpenConn) (xs ys zs : List OpenConn) (test other : OpenConn → Bool) → test o ≡ b
    → other o ≡ d → filter test ys ≡ filter other zs
    → filter test (cond d (o ∷ ys) ys) ≡ filter other (cond b (o ∷ zs) zs)
swapped_at true true o xs ys zs test other p q e = rw (p, q) (ap (λ x. o ∷ x) e)
swapped_at true false o xs ys zs test other p q e = rw q e
swapped_at false true o xs ys zs test other p q e = rw p e
swapped_at false false o xs ys zs test other p q e = e

-- two filters, in either order
filters_swap : (test other : OpenConn → Bool) (xs : List OpenConn)
    → filter test (filter other xs) ≡ filter other (filter test xs)
filters_swap test other [] = refl
filters_swap test other (o ∷ xs) = swapped_at (test o) (other o) o xs (filter other xs) (filter test xs) test other refl
    refl (filters_swap test other xs)

alone_besides : (c d : ℕ) (p : Option Peer) (b : Bool) → (d == c) ≡ b
    → besides c (with_peer d p) ≡ (if b then [] else with_peer d p)
alone_besides c d None true e = refl
alone_besides c d None false e = refl
alone_besides c d (Some p) true e = rw e refl
alone_besides c d (Some p) false e = rw e refl

newly_by : (c d : ℕ) (p : Option Peer) (here newer : Bool) → (c == d) ≡ here
    → (if here || newer then [] else with_peer d p) ≡ besides c (if newer then [] else with_peer d p)
newly_by c d p true true e = refl
newly_by c d p true false e = sym (alone_besides c d p true (grind (arith, nat_tests)))
newly_by c d p false true e = refl
newly_by c d p false false e = sym (alone_besides c d p false (grind (arith, nat_tests)))

newly_besides : (c : ℕ) (newer : List ℕ) (news : Option ConnNews)
    → newly_open (c ∷ newer) news ≡ besides c (newly_open newer news)
newly_besides c newer None = refl
newly_besides c newer (Some n) = newly_by c n.conn n.peer (c == n.conn) (list_any (λ k. k == n.conn) newer) refl

besides_by : (c : ℕ) (newer : List ℕ) (h : History) (news : Option ConnNews)
    → ((d : ℕ) (ds : List ℕ) → open_besides (d ∷ ds) h ≡ besides d (open_besides ds h))
    → newly_open (c ∷ newer) news ++ open_besides (also_newer news (c ∷ newer)) h ≡ besides c (newly_open newer news)
    ++ besides c (open_besides (also_newer news newer) h)
besides_by c newer h None more = more c newer
besides_by c newer h (Some n) more =
    ap (λ x. x ++ open_besides (n.conn ∷ c ∷ newer) h) (newly_besides c newer (Some n))
    ∙ ap (λ x. besides c (newly_open newer (Some n)) ++ x)
    (more n.conn (c ∷ newer) ∙ ap (besides n.conn) (more c newer)
    ∙ filters_swap (λ o. not (o.conn == n.conn)) (λ o. not (o.conn == c)) (open_besides newer h)
    ∙ ap (besides c) (sym (more n.conn newer)))

-- one connection more is left out
besides_more : (c : ℕ) (newer : List ℕ) (h : History) → open_besides (c ∷ newer) h ≡ besides c (open_besides newer h)
unfolding open_besides
besides_more c newer [] = refl
besides_more c newer (e ∷ h) =
    besides_by c newer h (conn_news e.event) (λ d ds. besides_more d ds h)
    ∙ sym (filter-append (λ o. not (o.conn == c)) (newly_open newer (conn_news e.event))
    (open_besides (also_newer (conn_news e.event) newer) h))

-- the open connections after one more entry: what it opens, and those before that it does not name
conns_after : (news : Option ConnNews) (h : History) → List OpenConn
conns_after None h = open_conns h
conns_after (Some n) h = with_peer n.conn n.peer ++ besides n.conn (open_conns h)

conns_more : (e : Noted) (h : History) → open_conns (e ∷ h) ≡ conns_after (conn_news e.event) h
unfolding open_besides conns_after
conns_more e h = by (conn_news e.event)
  where
    by : (news : Option ConnNews) → newly_open [] news ++ open_besides (also_newer news []) h ≡ conns_after news h
    by None = refl
    by (Some n) = ap (λ x. with_peer n.conn n.peer ++ x) (besides_more n.conn [] h)

-- how many connections pass a test
abbrev tested : (OpenConn → Bool) → List OpenConn → ℕ
tested test conns = length (filter test conns)

tested_append : (test : OpenConn → Bool) (xs ys : List OpenConn)
    → tested test (xs ++ ys) ≡ tested test xs + tested test ys
tested_append test xs ys = ap length (filter-append test xs ys) ∙ length-append (filter test xs) (filter test ys)

both_at : (b : Bool) (o : OpenConn) (xs ys : List OpenConn) (test other : OpenConn → Bool) → other o ≡ b
    → filter test xs ≡ ys
    → filter test (cond b (o ∷ xs) xs) ≡ cond (b && test o) (o ∷ ys) ys
both_at true o xs ys test other p e = ap (λ x. cond (test o) (o ∷ x) x) e
both_at false o xs ys test other p e = e

filter_both : (test other : OpenConn → Bool) (xs : List OpenConn)
    → filter test (filter other xs) ≡ filter (λ o. other o && test o) xs
filter_both test other [] = refl
filter_both test other (o ∷ xs) = both_at (other o) o (filter other xs) (filter (λ o. other o && test o) xs) test other
    refl (filter_both test other xs)

twice_at : (b : Bool) (o : OpenConn) (xs : List OpenConn) (test : OpenConn → Bool) → test o ≡ b → filter test xs ≡ xs
    → filter test (cond b (o ∷ xs) xs) ≡ cond b (o ∷ xs) xs
twice_at true o xs test p e = rw p (ap (λ x. o ∷ x) e)
twice_at false o xs test p e = e

filter_twice : (test : OpenConn → Bool) (xs : List OpenConn) → filter test (filter test xs) ≡ filter test xs
filter_twice test [] = refl
filter_twice test (o ∷ xs) = twice_at (test o) o (filter test xs) test refl (filter_twice test xs)

-- 1 where the connection is open and passes
abbrev there : (OpenConn → Bool) → ℕ → Option Peer → ℕ
there test c None = 0
there test c (Some p) = if test (record { conn = c; peer = p }) then 1 else 0

one_by : (b : Bool) (o : OpenConn) → length (cond b (o ∷ []) []) ≡ (if b then 1 else 0)
one_by true o = refl
one_by false o = refl

tested_one : (test : OpenConn → Bool) (c : ℕ) (p : Option Peer) → tested test (with_peer c p) ≡ there test c p
tested_one test c None = refl
tested_one test c (Some p) = one_by (test (record { conn = c; peer = p })) (record { conn = c; peer = p })

tested_besides : (test : OpenConn → Bool) (d : ℕ) (xs : List OpenConn)
    → tested test (besides d xs) ≡ tested (λ o. not (o.conn == d) && test o) xs
tested_besides test d xs = ap length (filter_both test (λ o. not (o.conn == d)) xs)

there_other : (test : OpenConn → Bool) (c d : ℕ) (p : Option Peer) → (c == d) ≡ false
    → there (λ o. not (o.conn == d) && test o) c p ≡ there test c p
there_other test c d None e = refl
there_other test c d (Some p) e = rw e refl

-- the connection itself, and the others
abbrev Splits : List OpenConn → ℕ → Option Peer → Type 0
Splits conns c p = (test : OpenConn → Bool) → tested test conns ≡ tested test (besides c conns) + there test c p

news_splits : (conns : List OpenConn) (c d : ℕ) (p q : Option Peer) (b : Bool) → (d == c) ≡ b → Splits conns c p
    → Splits (with_peer d q ++ besides d conns) c (if b then q else p)
news_splits conns c d p q true same before test =
    let is : d ≡ c = grind (arith, nat_tests) in
    let left = tested_append test (with_peer d q) (besides d conns) in
    let one = tested_one test d q ∙ ap (λ k. there test k q) is in
    let cut : besides c (with_peer d q ++ besides d conns) ≡ besides c conns =
    filter-append (λ o. not (o.conn == c)) (with_peer d q) (besides d conns)
    ∙ ap (λ x. x ++ besides c (besides d conns)) (alone_besides c d q true same)
    ∙ ap (λ k. besides c (besides k conns)) is ∙ filter_twice (λ o. not (o.conn == c)) conns in
    let rest = ap (tested test) cut in
    let kept = ap (λ k. tested test (besides k conns)) is in
    omega arith
news_splits conns c d p q false same before test =
    let swap = filters_swap (λ o. not (o.conn == c)) (λ o. not (o.conn == d)) conns in
    let old = before (λ o. not (o.conn == d) && test o) in
    let other = there_other test c d p (grind (arith, nat_tests)) in
    let left = tested_append test (with_peer d q) (besides d conns) in
    let cut : besides c (with_peer d q ++ besides d conns) ≡ with_peer d q ++ besides d (besides c conns) =
    filter-append (λ o. not (o.conn == c)) (with_peer d q) (besides d conns)
    ∙ ap (λ x. x ++ besides c (besides d conns)) (alone_besides c d q false same) ∙ ap (λ x. with_peer d q ++ x) swap in
    let right = ap (tested test) cut ∙ tested_append test (with_peer d q) (besides d (besides c conns)) in
    let first = tested_besides test d conns in
    let second = tested_besides test d (besides c conns) in
    omega arith

after_splits : (h : History) (c : ℕ) (news : Option ConnNews) → Splits (open_conns h) c (peer_at h c)
    → Splits (conns_after news h) c (peer_after c news (peer_at h c))
unfolding conns_after
after_splits h c None before = before
after_splits h c (Some n) before = news_splits (open_conns h) c n.conn (peer_at h c) n.peer (n.conn == c) refl before

-- a connection stands among the open ones where it has a client, and then once
splits : (h : History) (c : ℕ) → Splits (open_conns h) c (peer_at h c)
unfolding open_besides peer_at
splits [] c = λ test. refl
splits (e ∷ h) c = subst (λ x. Splits x c (peer_after c (conn_news e.event) (peer_at h c))) (sym (conns_more e h))
    (after_splits h c (conn_news e.event) (splits h c))

-- an entry that opens or closes nothing leaves the open connections
quiet_conns : (e : Noted) (h : History) → conn_news e.event ≡ None → open_conns (e ∷ h) ≡ open_conns h
unfolding conns_after
quiet_conns e h q = conns_more e h ∙ ap (λ n. conns_after n h) q

-- how many pass a test after an `open` of a connection that is not open
opened_conns : (e : Noted) (h : History) (c : ℕ) (p : Peer) (test : OpenConn → Bool)
    → conn_news e.event ≡ Some (record { conn = c; peer = Some p }) → peer_at h c ≡ None
    → tested test (open_conns (e ∷ h)) ≡ there test c (Some p) + tested test (open_conns h)
unfolding conns_after
opened_conns e h c p test news free =
    let more = ap (tested test) (conns_more e h ∙ ap (λ n. conns_after n h) news)
    ∙ tested_append test (with_peer c (Some p)) (besides c (open_conns h)) in
    let one = tested_one test c (Some p) in
    let was = splits h c test ∙ ap (λ o. tested test (besides c (open_conns h)) + there test c o) free in
    omega arith

-- and after a `close` of one that is
closed_conns : (e : Noted) (h : History) (c : ℕ) (p : Peer) (test : OpenConn → Bool)
    → conn_news e.event ≡ Some (record { conn = c; peer = None }) → peer_at h c ≡ Some p
    → there test c (Some p) + tested test (open_conns (e ∷ h)) ≡ tested test (open_conns h)
unfolding conns_after
closed_conns e h c p test news there_is =
    let more = ap (tested test) (conns_more e h ∙ ap (λ n. conns_after n h) news) in
    let was = splits h c test ∙ ap (λ o. tested test (besides c (open_conns h)) + there test c o) there_is in
    omega arith

all_pass : (xs : List OpenConn) → filter (λ o. true) xs ≡ xs
all_pass [] = refl
all_pass (o ∷ xs) = ap (λ x. o ∷ x) (all_pass xs)

count_all : (h : History) → open_count h ≡ tested (λ o. true) (open_conns h)
unfolding open_count
count_all h = ap length (sym (all_pass (open_conns h)))

-- a table of clients keeps its number of entries: how many are open after an entry that opens or closes nothing
pub open_count_quiet : (e : Noted) (h : History) → conn_news e.event ≡ None → open_count (e ∷ h) ≡ open_count h
unfolding open_count
open_count_quiet e h q = ap length (quiet_conns e h q)

-- it has one more after an `open`
pub open_count_opened : (e : Noted) (h : History) (c : ℕ) (p : Peer)
    → conn_news e.event ≡ Some (record { conn = c; peer = Some p }) → peer_at h c ≡ None
    → open_count (e ∷ h) ≡ suc (open_count h)
open_count_opened e h c p news free =
    let now = count_all (e ∷ h) in
    let before = count_all h in
    let more = opened_conns e h c p (λ o. true) news free in
    omega arith

-- and one less after a `close`
pub open_count_closed : (e : Noted) (h : History) (c : ℕ) (p : Peer)
    → conn_news e.event ≡ Some (record { conn = c; peer = None }) → peer_at h c ≡ Some p
    → suc (open_count (e ∷ h)) ≡ open_count h
open_count_closed e h c p news there_is =
    let now = count_all (e ∷ h) in
    let before = count_all h in
    let less = closed_conns e h c p (λ o. true) news there_is in
    omega arith

-- a counter for each address stays as it is with an entry that opens or closes nothing
pub conns_of_quiet : (e : Noted) (h : History) (a : Address) → conn_news e.event ≡ None
    → conns_of (e ∷ h) a ≡ conns_of h a
unfolding conns_of
conns_of_quiet e h a q = ap (tested (λ o. is_address a o.peer.addr)) (quiet_conns e h q)

counted_up : (b : Bool) (n m : ℕ) → n ≡ (if b then 1 else 0) + m → n ≡ (if b then suc m else m)
counted_up true n m e = omega arith
counted_up false n m e = omega arith

counted_down : (b : Bool) (n m : ℕ) → (if b then 1 else 0) + n ≡ m → n ≡ (if b then m - 1 else m)
counted_down true n m e = omega arith
counted_down false n m e = omega arith

-- it goes up with an `open` from that address
pub conns_of_opened : (e : Noted) (h : History) (c : ℕ) (p : Peer) (a : Address)
    → conn_news e.event ≡ Some (record { conn = c; peer = Some p }) → peer_at h c ≡ None
    → conns_of (e ∷ h) a ≡ (if is_address a p.addr then suc (conns_of h a) else conns_of h a)
unfolding conns_of
conns_of_opened e h c p a news free = counted_up (is_address a p.addr) _ _
    (opened_conns e h c p (λ o. is_address a o.peer.addr) news free)

-- and down with a `close` of a connection from it
pub conns_of_closed : (e : Noted) (h : History) (c : ℕ) (p : Peer) (a : Address)
    → conn_news e.event ≡ Some (record { conn = c; peer = None }) → peer_at h c ≡ Some p
    → conns_of (e ∷ h) a ≡ (if is_address a p.addr then conns_of h a - 1 else conns_of h a)
unfolding conns_of
conns_of_closed e h c p a news there_is = counted_down (is_address a p.addr) _ _
    (closed_conns e h c p (λ o. is_address a o.peer.addr) news there_is)
