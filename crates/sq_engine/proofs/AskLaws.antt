-- A check that begins: what is answered, and what is left.
use Rattle.std.proofs.Common.{◌≡◌, ◌∙◌, ◌==◌, ◌+◌, ◌^◌, ◌<◌, ◌≤◌, ◌&&◌, ◌⊎◌, inl, inr, ℕ, suc, List, [], ◌∷◌, ◌++◌, Bool, true, false, if◌then◌else◌, map, length, nat_le, nat_lt, Option, None, Some, is_none, is_some, refl, ap, sym, subst, arith}
use Rattle.std.proofs.lemmas.Bool.Decides.{nat_tests}
use Rattle.std.proofs.lemmas.Option.{none-some, same_Some}
use Rattle.std.specs.Option.{option_map}
use Rattle.sq_base.specs.Addresses.{Address}
use Rattle.sq_base.specs.Requests.{HttpRequest}
use Rattle.sq_base.specs.declared.requests.Field.{Field}
use Rattle.sq_machine.specs.declared.entries.Told.TheVariants as told
use Rattle.sq_machine.specs.declared.refusals.Refusal.TheVariants as refusal
use Rattle.sq_rules.specs.declared.sights.Peer.{Peer}
use Rattle.sq_rules.specs.declared.sights.Sight.{Sight}
use Rattle.sq_machine.specs.Checks.{peer_or_nobody}
use Rattle.sq_machine.specs.Limits.{last_number}
use Rattle.sq_machine.specs.Next.{gives, refuse_if, refuse_open, refuses}
use Rattle.sq_machine.specs.Rising.{AreAbove, Rises}
use Rattle.sq_rules.specs.Sights.{asked_request, minute_of_week, unversioned, unversioned_sight}
use Rattle.sq_model.specs.CheckRows.{Held, begun, held_on}
use Rattle.sq_checks.proofs.AloneLaws.{alone_more, held_on_kept, held_on_more}
use Rattle.sq_checks.specs.Conns.{OpenConns, check_in, client_in}
use Rattle.sq_checks.specs.Counts.{tally}
use Rattle.sq_checks.specs.OpenChecks.{AreAlone, CheckParts, all_before, begun_parts, of_epoch, row, rows_of}
use Rattle.sq_checks.specs.Stages.{need_in}
use Rattle.sq_checks.specs.Tables.{value_at}
use Rattle.sq_epochs.proofs.EndLaws.{config_began, part_began, row_began}
use Rattle.sq_epochs.specs.EpochStates.{EpochState, EpochsState, epoch_at}
use Rattle.sq_epochs.specs.LiveEpochs.{after_began, checks_at}
use Rattle.sq_model.specs.Answers.{ask_answer, asked_in, check_on, sight_in}
use Rattle.sq_model.specs.Changes.{after_ask}
use Rattle.sq_model.specs.States.{IsSame}
use Rattle.sq_engine.specs.Engines.{AreCounted, IsEngine, asked_of, held_number, waits_at}
use Rattle.sq_engine.specs.EngineViews.{EngineView, config_at, config_in, state_of}
use Rattle.sq_engine.proofs.CloseLaws.{none_on}
use Rattle.sq_engine.proofs.CountLaws.{counted_began, counts_open}
use Rattle.sq_engine.proofs.TableLaws.{added_at, none_above, number_is, number_self, number_sym, or_this, some_if}

pub ask_unknown : (v : EngineView) (c : ℕ) → client_in v.conns c ≡ None
    → ask_answer (state_of v) c ≡ refuses (refusal.UnknownConn c)
ask_unknown v c none = ap (λ o. refuse_if (is_none o) (refusal.UnknownConn c)
    (refuse_open (check_on (state_of v) c)
    (refuse_if (nat_le last_number (suc v.asks)) (refusal.Spent (suc v.asks)) (gives (told.Check (suc v.asks)))))) none

ask_known : (v : EngineView) (c : ℕ) (p : Peer) → IsEngine v → client_in v.conns c ≡ Some p
    → ask_answer (state_of v) c
    ≡ refuse_open (check_in v.conns c)
    (refuse_if (nat_le last_number (suc v.asks)) (refusal.Spent (suc v.asks)) (gives (told.Check (suc v.asks))))
ask_known v c p i is =
    ap (λ o. refuse_if (is_none o) (refusal.UnknownConn c)
    (refuse_open (check_on (state_of v) c)
    (refuse_if (nat_le last_number (suc v.asks)) (refusal.Spent (suc v.asks)) (gives (told.Check (suc v.asks)))))) is
    ∙ ap (λ o. refuse_open o
    (refuse_if (nat_le last_number (suc v.asks)) (refusal.Spent (suc v.asks)) (gives (told.Check (suc v.asks)))))
    (sym (i.asked.on_conns c))

pub ask_open : (v : EngineView) (c n : ℕ) (p : Peer) → IsEngine v → client_in v.conns c ≡ Some p
    → check_in v.conns c ≡ Some n → ask_answer (state_of v) c ≡ refuses (refusal.CheckOpen n)
ask_open v c n p i is has = ask_known v c p i is
    ∙ ap (λ o. refuse_open o
    (refuse_if (nat_le last_number (suc v.asks)) (refusal.Spent (suc v.asks)) (gives (told.Check (suc v.asks))))) has

ask_free : (v : EngineView) (c : ℕ) (p : Peer) → IsEngine v → client_in v.conns c ≡ Some p → check_in v.conns c ≡ None
    → ask_answer (state_of v) c
    ≡ refuse_if (nat_le last_number (suc v.asks)) (refusal.Spent (suc v.asks)) (gives (told.Check (suc v.asks)))
ask_free v c p i is none = ask_known v c p i is
    ∙ ap (λ o. refuse_open o
    (refuse_if (nat_le last_number (suc v.asks)) (refusal.Spent (suc v.asks)) (gives (told.Check (suc v.asks))))) none

pub ask_spent : (v : EngineView) (c m : ℕ) (p : Peer) → IsEngine v → client_in v.conns c ≡ Some p
    → check_in v.conns c ≡ None → m ≡ suc v.asks → last_number ≤ m
    → ask_answer (state_of v) c ≡ refuses (refusal.Spent m)
ask_spent v c m p i is none e le =
    let many : nat_le last_number (suc v.asks) ≡ true =
    reached last_number (suc v.asks) (subst (λ z. last_number ≤ z) e le) in
    ask_free v c p i is none ∙ ap (λ b. refuse_if b (refusal.Spent (suc v.asks)) (gives (told.Check (suc v.asks)))) many
    ∙ ap (λ z. refuses (refusal.Spent z)) (sym e)
  where
    reached : (a b : ℕ) → a ≤ b → nat_le a b ≡ true
    reached a b l = grind (arith, nat_tests, l)

pub ask_told : (v : EngineView) (c m : ℕ) (p : Peer) → IsEngine v → client_in v.conns c ≡ Some p
    → check_in v.conns c ≡ None → m ≡ suc v.asks → m < last_number → ask_answer (state_of v) c ≡ gives (told.Check m)
ask_told v c m p i is none e lt =
    let few : nat_le last_number (suc v.asks) ≡ false =
    above last_number (suc v.asks) (subst (λ z. z < last_number) e lt) in
    ask_free v c p i is none ∙ ap (λ b. refuse_if b (refusal.Spent (suc v.asks)) (gives (told.Check (suc v.asks)))) few
    ∙ ap (λ z. gives (told.Check z)) (sym e)
  where
    above : (a b : ℕ) → b < a → nat_le a b ≡ false
    above a b l = grind (arith, nat_tests, l)

-- the current epoch has its configuration, so it lives
pub current_there : (v : EngineView) → IsEngine v → is_some (epoch_at v.epochs v.epochs.current) ≡ true
current_there v i = by (epoch_at v.epochs v.epochs.current) i.setup_is
  where
    by : (o : Option EpochState) → config_in o ≡ Some v.setup → is_some o ≡ true
    by None e = absurd (none-some v.setup e)
    by (Some x) e = refl

both : (a b : Bool) → (a && b) ≡ true → (a ≡ true) × (b ≡ true)
both true b h = (refl, h)
both false b h = absurd (cc)

lt_is : (a b : ℕ) → nat_lt a b ≡ true → a < b
lt_is a b h = grind (arith, nat_tests, h)

more_if : (b : Bool) (m n : ℕ) → m ≤ n → (if b then suc m else m) ≤ suc n
more_if true m n l = omega (arith, l)
more_if false m n l = omega (arith, l)

-- no more checks are open than numbers were given
few_rising : (e j n : ℕ) (checks : List Held) → j < n → AreAbove j (map held_number checks)
    → Rises (map held_number checks) → all_before n checks ≡ true → j + of_epoch e checks < n
few_rising e j n [] lt a r b = omega (arith, lt)
few_rising e j n (h ∷ checks) lt a r b =
    let p = both (nat_lt h.number n) (all_before n checks) b in
    let next : h.number + of_epoch e checks < n = few_rising e h.number n checks (lt_is h.number n p.0) r.0 r.1 p.1 in
    let here : j < h.number = a.0 in
    by (e == h.asked.epoch) next here
  where
    by : (c : Bool) → h.number + of_epoch e checks < n → j < h.number
        → j + (if c then suc (of_epoch e checks) else of_epoch e checks) < n
    by true x y = omega (arith, x, y)
    by false x y = omega (arith, x, y)

few_all : (e n : ℕ) (checks : List Held) → Rises (map held_number checks) → all_before n checks ≡ true
    → of_epoch e checks ≤ n
few_all e n [] r b = omega arith
few_all e n (h ∷ checks) r b =
    let p = both (nat_lt h.number n) (all_before n checks) b in
    let next : h.number + of_epoch e checks < n = few_rising e h.number n checks (lt_is h.number n p.0) r.0 r.1 p.1 in
    by (e == h.asked.epoch) next
  where
    by : (c : Bool) → h.number + of_epoch e checks < n → (if c then suc (of_epoch e checks) else of_epoch e checks) ≤ n
    by true x = omega (arith, x)
    by false x = omega (arith, x)

below_word : (a n : ℕ) → a ≤ suc n → n < last_number → suc a < 2 ^ 64
below_word a n x y = omega (arith, x, y)

-- so the current epoch has room for one more
pub began_room : (v : EngineView) → IsEngine v → Rises (map held_number (rows_of v.checks))
    → suc (checks_at v.epochs v.epochs.current) < 2 ^ 64
began_room v i r =
    let few = few_all v.epochs.current (suc v.asks) (rows_of v.checks) r i.asked.given in
    let is = counts_open v.epochs v.epochs.current (rows_of v.checks) i.counted (current_there v i) in
    below_word (checks_at v.epochs v.epochs.current) v.asks (subst (λ z. z ≤ suc v.asks) (sym is) few) i.asked.few

-- the checks after one began
pub record Begun (v : EngineView) (c n : ℕ) (sight : Sight) (ks : OpenConns) (cs : List (ℕ × CheckParts)) : Type 0 where
  pub number_is : n ≡ suc v.asks
  pub few : n < last_number
  pub free : check_in v.conns c ≡ None
  pub list : cs ≡ v.checks ++ (n, begun_parts c v.epochs.current v.setup sight) ∷ []
  pub rows : rows_of cs ≡ rows_of v.checks ++ row n (begun_parts c v.epochs.current v.setup sight) ∷ []
  pub marks : (d : ℕ) → check_in ks d ≡ (if c == d then Some n else check_in v.conns d)

before_more : (m n : ℕ) (checks : List Held) (h : Held) → all_before m checks ≡ true → h.number ≡ m → n ≡ suc m
    → all_before n (checks ++ h ∷ []) ≡ true
before_more m n [] h b is e = rw (is, e) (last m)
  where
    last : (m : ℕ) → (nat_lt m (suc m) && true) ≡ true
    last m = grind (arith, nat_tests)
before_more m n (x ∷ checks) h b is e =
    let p = both (nat_lt x.number m) (all_before m checks) b in
    let higher : nat_lt x.number n ≡ true = up x.number m n p.0 e in
    rw higher (before_more m n checks h p.1 is e)
  where
    up : (a m n : ℕ) → nat_lt a m ≡ true → n ≡ suc m → nat_lt a n ≡ true
    up a m n h e = grind (arith, nat_tests, h, e)

on_begun : (c d n : ℕ) (b : Bool) (checks : List Held) (h : Held) (o : Option ℕ) → (c == d) ≡ b → h.asked.conn ≡ c
    → h.number ≡ n → held_on c checks ≡ None → o ≡ option_map held_number (held_on d checks)
    → (if c == d then Some n else o) ≡ option_map held_number (held_on d (checks ++ h ∷ []))
on_begun c d n true checks h o t conn num none is =
    let same : d ≡ c = sym (number_is c d t) in
    let at : held_on d checks ≡ None = ap (λ z. held_on z checks) same ∙ none in
    let found : held_on d (checks ++ h ∷ []) ≡ Some h = held_on_more d checks h at
    ∙ ap (λ b. if b then Some h else None) (ap (λ z. d == z) conn ∙ ap (λ z. z == c) same ∙ number_self c) in
    rw t (ap Some (sym num) ∙ sym (ap (option_map held_number) found))
on_begun c d n false checks h o t conn num none is =
    let other : (d == h.asked.conn) ≡ false = ap (λ z. d == z) conn ∙ number_sym d c ∙ t in
    rw t (is ∙ ap (option_map held_number) (sym (held_on_kept d checks h other)))

found_begun : (n m : ℕ) (b : Bool) (o : Option CheckParts) (new k : CheckParts) → or_this o (some_if b new) ≡ Some k
    → (o ≡ Some k) ⊎ ((b ≡ true) × (new ≡ k))
found_begun n m b (Some x) new k e = inl e
found_begun n m true None new k e = inr (refl, same_Some _ _ e)
found_begun n m false None new k e = absurd (none-some k e)

wait_begun : (f d n m : ℕ) (b : Bool) (o : Option CheckParts) (new : CheckParts) → need_in new.stage ≡ None
    → (b ≡ true → o ≡ None) → waits_at f d (or_this o (some_if b new)) ≡ waits_at f d o
wait_begun f d n m b (Some x) new none apart = refl
wait_begun f d n m false None new none apart = refl
wait_begun f d n m true None new none apart = by (f == new.epoch)
  where
    by : (c : Bool) → (if c then asked_of d (need_in new.stage) else None) ≡ None
    by true = ap (asked_of d) none
    by false = refl

two_ways : {A B C : Type 0} → A ⊎ B → (A → C) → (B → C) → C
two_ways (inl a) f g = f a
two_ways (inr b) f g = g b

pub begun_engine : (v : EngineView) (c n t : ℕ) (sight : Sight) (ks : OpenConns) (cs : List (ℕ × CheckParts))
    (ep : EpochsState) → IsEngine v → Begun v c n sight ks cs → ep ≡ after_began v.epochs.current v.epochs
    → IsEngine (record v { conns = ks; checks = cs; asks = n; epochs = ep; latest = t })
begun_engine v c n t sight ks cs ep i k is = subst (λ e. IsEngine
    (record v { conns = ks; checks = cs; asks = n; epochs = e; latest = t })) (sym is) record {
      asked = record {
        on_conns = λ d. k.marks d
            ∙ on_begun c d n (c == d) (rows_of v.checks) new (check_in v.conns d) refl refl refl free
            (i.asked.on_conns d)
            ∙ ap (λ r. option_map held_number (held_on d r)) (sym k.rows);
        alone = subst AreAlone (sym k.rows) (alone_more (rows_of v.checks) new i.asked.alone free);
        given = ap (all_before (suc n)) k.rows
            ∙ before_more n (suc n) (rows_of v.checks) new
            (ap (λ z. all_before z (rows_of v.checks)) k.number_is ∙ i.asked.given) refl refl;
        few = k.few;
      };
      counted = subst (AreCounted v.epochs.current (epoch_at after)) (sym k.rows)
          (counted_began v.epochs v.epochs.current new (rows_of v.checks) refl (current_there v i) i.counted);
      configured = λ m j found. two m j found
          (λ was. config_began v.epochs.current j.epoch v.epochs ∙ i.configured m j was)
          (λ same. config_began v.epochs.current j.epoch v.epochs ∙ ap (λ z. config_at v.epochs z.epoch) (sym same)
          ∙ i.setup_is ∙ ap (λ z. Some z.config) same);
      waiting = record {
        waits = λ f d p found m. i.waiting.waits f d p (sym (part_began v.epochs.current f d v.epochs) ∙ found) m
            ∙ sym (ap (waits_at f d) (at m) ∙ wait_begun f d n m (m == n) (value_at v.checks m) parts refl (none m));
        there = λ m j x found needs. two m j found
            (λ was. ap is_some (part_began v.epochs.current j.epoch x.class v.epochs) ∙ i.waiting.there m j x was needs)
            (λ same. absurd (none-some x (ap (λ z. need_in z.stage) same ∙ needs)));
      };
      fed = record {
        below = λ f d p found. i.fed.below f d p (sym (part_began v.epochs.current f d v.epochs) ∙ found);
        apart = λ q f d g h p r found other. i.fed.apart q f d g h p r
            (sym (part_began v.epochs.current f d v.epochs) ∙ found)
            (sym (part_began v.epochs.current g h v.epochs) ∙ other);
        waits_open = λ f d m q p found. i.fed.waits_open f d m q p
            (sym (part_began v.epochs.current f d v.epochs) ∙ found);
        none_lost = λ f d p found. i.fed.none_lost f d p (sym (part_began v.epochs.current f d v.epochs) ∙ found);
        few = i.fed.few;
      };
      keyed = record {
        once = λ f d p found. i.keyed.once f d p (sym (part_began v.epochs.current f d v.epochs) ∙ found);
        keys = λ m j x p found needs here. two m j found
            (λ was. i.keyed.keys m j x p was needs (sym (part_began v.epochs.current j.epoch x.class v.epochs) ∙ here))
            (λ same. absurd (none-some x (ap (λ z. need_in z.stage) same ∙ needs)));
      };
      setup_is = config_began v.epochs.current v.epochs.current v.epochs ∙ i.setup_is;
    }
  where
    parts : CheckParts
    parts = begun_parts c v.epochs.current v.setup sight

    new : Held
    new = row n parts

    after : EpochsState
    after = after_began v.epochs.current v.epochs

    free : held_on c (rows_of v.checks) ≡ None
    free = none_on v c i k.free

    at : (m : ℕ) → value_at cs m ≡ or_this (value_at v.checks m) (some_if (m == n) parts)
    at m = ap (λ z. value_at z m) k.list ∙ added_at n m parts v.checks

    none : (m : ℕ) → (m == n) ≡ true → value_at v.checks m ≡ None
    none m e = ap (value_at v.checks) (number_is m n e)
        ∙ none_above n v.checks (ap (λ z. all_before z (rows_of v.checks)) k.number_is ∙ i.asked.given)

    two : {P : Type 0} (m : ℕ) (j : CheckParts) → value_at cs m ≡ Some j → (value_at v.checks m ≡ Some j → P)
        → (parts ≡ j → P) → P
    two m j found f g = two_ways (found_begun n m (m == n) (value_at v.checks m) parts j (sym (at m) ∙ found)) f
        (λ b. g b.1)

abbrev the_sight : HttpRequest → Address → ℕ → ℕ → ℕ → Sight
the_sight request addr port minute conns = record {
  request = request;
  addr = addr;
  port = port;
  minute = minute;
  conns = conns;
}

-- what is left: the check that is asked is the one that began
pub begun_same : (v : EngineView) (c n t : ℕ) (method target : List ℕ) (fields : List Field) (p : Peer) (sight : Sight)
    (ks : OpenConns) (cs : List (ℕ × CheckParts)) (ep : EpochsState) → Begun v c n sight ks cs
    → ep ≡ after_began v.epochs.current v.epochs → client_in v.conns c ≡ Some p
    → unversioned sight.request ≡ asked_request method target fields → sight.addr ≡ p.addr → sight.port ≡ p.port
    → sight.minute ≡ minute_of_week t v.offset
    → sight.conns ≡ tally v.conns.counts p.addr → ((d : ℕ) → client_in ks d ≡ client_in v.conns d)
    → length ks.links ≡ length v.conns.links → ks.counts ≡ v.conns.counts
    → IsSame (state_of (record v { conns = ks; checks = cs; asks = n; epochs = ep; latest = t }))
    (after_ask (asked_in (state_of v) t c method target fields) t (state_of v))
begun_same v c n t method target fields p sight ks cs ep k is peer request addr port minute conns clients len counts =
    subst (λ e. IsSame (state_of (record v { conns = ks; checks = cs; asks = n; epochs = e; latest = t }))
    (after_ask (asked_in (state_of v) t c method target fields) t (state_of v))) (sym is) record {
      clients_are = clients;
      conns_are = len;
      from_are = λ a. ap (λ z. tally z a) counts;
      checks_are = k.rows ∙ ap (λ h. rows_of v.checks ++ h ∷ []) held;
      asks_are = k.number_is;
      puts_are = refl;
      current_is = refl;
      configs_are = λ f. config_began v.epochs.current f v.epochs;
      rows_are = λ f d. row_began v.epochs.current f d v.epochs;
      procs_are = refl;
      homes_are = λ j. refl;
      stops_are = λ j. refl;
      latest_is = refl;
      offset_is = refl;
    }
  where
    who : peer_or_nobody (client_in v.conns c) ≡ p
    who = ap peer_or_nobody peer

    seen : unversioned_sight sight ≡ sight_in (state_of v) t c method target fields
    seen =
        ap (λ z. the_sight z sight.addr sight.port sight.minute sight.conns) request
        ∙ ap (λ z. the_sight (asked_request method target fields) z sight.port sight.minute sight.conns)
        (addr ∙ ap (λ z. z.addr) (sym who))
        ∙ ap (λ z. the_sight (asked_request method target fields) (peer_or_nobody (client_in v.conns c)).addr z
        sight.minute sight.conns) (port ∙ ap (λ z. z.port) (sym who))
        ∙ ap (λ z. the_sight (asked_request method target fields) (peer_or_nobody (client_in v.conns c)).addr
        (peer_or_nobody (client_in v.conns c)).port z sight.conns) minute
        ∙ ap (λ z. the_sight (asked_request method target fields) (peer_or_nobody (client_in v.conns c)).addr
        (peer_or_nobody (client_in v.conns c)).port (minute_of_week t v.offset) z)
        (conns ∙ ap (λ z. tally v.conns.counts z.addr) (sym who))

    held : row n (begun_parts c v.epochs.current v.setup sight)
        ≡ begun (suc v.asks) (asked_in (state_of v) t c method target fields)
    held = ap (λ z. begun n (record { conn = c; epoch = v.epochs.current; sight = z })) seen
        ∙ ap (λ z. begun z (asked_in (state_of v) t c method target fields)) k.number_is
