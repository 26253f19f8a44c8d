-- A question about a request, over a hub that tells.
use Rattle.std.proofs.Common.{◌≡◌, inl, inr, ℕ, List, [], ◌∷◌, ◌++◌, true, Option, None, is_some, Ok, Err, refl, sym, subst, ap, ◌∙◌, append_assoc}
use Rattle.std.specs.List.{list_all}
use Rattle.std.proofs.lemmas.Option.{same_Some}
use Rattle.sq_base.specs.Requests.{HttpRequest}
use Rattle.sq_checks.specs.Records.{Judged}
use Rattle.sq_machine.specs.Checks.{check_open, open_check}
use Rattle.sq_rules.specs.Configurations.{Configuration}
use Rattle.sq_machine.specs.Connections.{peer_at}
use Rattle.sq_machine.specs.Entries.{History, entry_at}
use Rattle.sq_machine.specs.declared.entries.Event.{Event}
use Rattle.sq_machine.specs.declared.entries.Told.TheVariants as told
use Rattle.sq_machine.specs.declared.refusals.Refusal.{Refusal}
use Rattle.sq_machine.specs.declared.refusals.Refusal.TheVariants as refusal
use Rattle.sq_turns.specs.declared.front.Decided.{Decided}
use Rattle.sq_turns.specs.declared.front.Decided.TheVariants as decided
use Rattle.sq_turns.specs.Hubs.{decided_of}
use Rattle.sq_turns.proofs.SpentLaws.{ask_spent, asked_open}
use Rattle.sq_turns.specs.Judging.{EndsSo, Finishes, FitsDecided, IsAttempt, IsOfGoing, IsOfQuestion, IsOwn, IsForLastNumber, Judges, RefusesLast, TakesOwn, goes_on}
use Rattle.sq_turns.specs.Tellings.{Asks, HubState, StandsAt, Tells, asks_for, machine_now}
use Rattle.sq_turns.specs.declared.hub.HubFault.{HubFault}
use Rattle.sq_turns.specs.declared.hub.HubFault.TheVariants.{Refused, JournalFault, WantOfMemory}
use Rattle.sq_turns.proofs.WorkLaws.{works_behind, works_same, works_self}
use Rattle.sq_turns.proofs.TellLaws.{tells_then, tells_as, tells_self, stands_at_same}

-- the record is that of the very request
same_request : (conn n : ℕ) (r : HttpRequest) (j : Judged) (v w x : HubState) → Asks conn r (Ok n) v w
    → Finishes n (Ok j) w x → j.sight.request ≡ r
same_request conn n r j v w x ask done =
    let same = same_Some _ _ (sym done.of_check.1 ∙ ask.begins.1) in
    ap (λ b. b.sight.request) same ∙ ask.begins.2

-- a question with a record
judges_record : (conn n : ℕ) (r : HttpRequest) (j : Judged) (v w x : HubState) → Asks conn r (Ok n) v w
    → Finishes n (Ok j) w x → Judges conn r (decided.Record j) v x
judges_record conn n r j v w x ask done = record {
  after = λ configs h st.
      let answer = ask.makes.answers in
      let e = entry_at (machine_now v) (asks_for conn r) answer.0 in
      let behind = done.after configs (e ∷ h) (answer.2.stands configs h st) in
      record {
        more = behind.more ++ e ∷ [];
        fits = (
          record {
            now = machine_now v;
            rest = behind.more;
            cut = ap (λ t. behind.more ++ entry_at (machine_now v) (asks_for conn r) t ∷ [])
                (answer.1 ∙ ap told.Check (sym done.of_check.0));
            ends = subst (λ k. EndsSo k j behind.more) (sym done.of_check.0) behind.fits.0;
            request_is = same_request conn n r j v w x ask done;
          },
          subst (λ l. TakesOwn configs l j) (sym (append_assoc (behind.more) (e ∷ []) (h))) behind.fits.1,
        );
        stands = subst (λ l. StandsAt configs l x.machine) (sym (append_assoc (behind.more) (e ∷ []) (h)))
            behind.stands;
      };
  own = tt;
  works = works_behind v.rewriter w.rewriter x.rewriter ask.makes.rewriter done.works;
  pools = done.pools ∙ ask.makes.pools;
}

-- what is known where a fault ends a question
record Fault (configs : List Configuration) (h : History) (conn : ℕ) (r : HttpRequest) (fault : HubFault)
    (more : History) : Type 0 where
  pub attempt : IsAttempt conn r more
  pub refused : (why : Refusal) → fault ≡ Refused why → ¬ (why ≡ refusal.WantOfMemory)
      → (e : Event) × IsOfQuestion conn r e × RefusesLast configs (more ++ h) e why
  pub spent : (why : Refusal) → fault ≡ Refused why → ¬ (why ≡ refusal.WantOfMemory) → is_some (peer_at h conn) ≡ true
      → open_check h conn ≡ None → IsForLastNumber why

fits_fault : (configs : List Configuration) (h : History) (conn : ℕ) (r : HttpRequest) (fault : HubFault)
    (more : History) → Fault configs h conn r fault more → FitsDecided configs h conn r (decided_of fault) more
fits_fault configs h conn r (Refused (refusal.ConnInUse n)) more f =
    (f.attempt, f.refused _ refl (λ e. cc), f.spent _ refl (λ e. cc))
fits_fault configs h conn r (Refused (refusal.UnknownConn n)) more f =
    (f.attempt, f.refused _ refl (λ e. cc), f.spent _ refl (λ e. cc))
fits_fault configs h conn r (Refused (refusal.TooManyConns n)) more f =
    (f.attempt, f.refused _ refl (λ e. cc), f.spent _ refl (λ e. cc))
fits_fault configs h conn r (Refused (refusal.CheckOpen n)) more f =
    (f.attempt, f.refused _ refl (λ e. cc), f.spent _ refl (λ e. cc))
fits_fault configs h conn r (Refused (refusal.UnknownCheck n)) more f =
    (f.attempt, f.refused _ refl (λ e. cc), f.spent _ refl (λ e. cc))
fits_fault configs h conn r (Refused (refusal.NotDone n)) more f =
    (f.attempt, f.refused _ refl (λ e. cc), f.spent _ refl (λ e. cc))
fits_fault configs h conn r (Refused (refusal.NoStartOpen e n)) more f =
    (f.attempt, f.refused _ refl (λ e. cc), f.spent _ refl (λ e. cc))
fits_fault configs h conn r (Refused (refusal.UnknownProc n)) more f =
    (f.attempt, f.refused _ refl (λ e. cc), f.spent _ refl (λ e. cc))
fits_fault configs h conn r (Refused (refusal.TooManyEpochs n)) more f =
    (f.attempt, f.refused _ refl (λ e. cc), f.spent _ refl (λ e. cc))
fits_fault configs h conn r (Refused (refusal.Spent n)) more f =
    (f.attempt, f.refused _ refl (λ e. cc), f.spent _ refl (λ e. cc))
fits_fault configs h conn r (Refused refusal.WantOfMemory) more f = f.attempt
fits_fault configs h conn r JournalFault more f = f.attempt
fits_fault configs h conn r WantOfMemory more f = f.attempt

own_fault : (fault : HubFault) → IsOwn (decided_of fault)
own_fault (Refused (refusal.ConnInUse n)) = tt
own_fault (Refused (refusal.UnknownConn n)) = tt
own_fault (Refused (refusal.TooManyConns n)) = tt
own_fault (Refused (refusal.CheckOpen n)) = tt
own_fault (Refused (refusal.UnknownCheck n)) = tt
own_fault (Refused (refusal.NotDone n)) = tt
own_fault (Refused (refusal.NoStartOpen e n)) = tt
own_fault (Refused (refusal.UnknownProc n)) = tt
own_fault (Refused (refusal.TooManyEpochs n)) = tt
own_fault (Refused (refusal.Spent n)) = tt
own_fault (Refused refusal.WantOfMemory) = tt
own_fault JournalFault = tt
own_fault WantOfMemory = tt

-- nothing was asked
attempt_none : (conn : ℕ) (r : HttpRequest) → IsAttempt conn r []
attempt_none conn r = record { now = 0; check = 0; asked = []; rest = []; cut = refl; asks = inl refl; on = refl }

-- the question is not put
fault_unasked : (conn : ℕ) (r : HttpRequest) (fault : HubFault) (v w : HubState) → Asks conn r (Err fault) v w
    → (configs : List Configuration) (h : History) → StandsAt configs h v.machine → Fault configs h conn r fault []
fault_unasked conn r (Refused why) v w ask configs h st = record {
  attempt = attempt_none conn r;
  refused = λ other e no.
      let same : why ≡ other = cc in
      subst (λ y. (e : Event) × IsOfQuestion conn r e × RefusesLast configs h e y) same (
        asks_for conn r,
        inl refl,
        record { now = machine_now v; next_is = ask.makes.answers (λ memory. no (sym same ∙ memory)) configs h st },
      );
  spent = λ other e no there free.
      let same : why ≡ other = cc in
      subst IsForLastNumber same
      (ask_spent configs h (machine_now v) conn r why
      (ask.makes.answers (λ memory. no (sym same ∙ memory)) configs h st) there free);
}
fault_unasked conn r JournalFault v w ask configs h st = record {
  attempt = attempt_none conn r;
  refused = λ other e no. absurd (cc);
  spent = λ other e no there free. absurd (cc);
}
fault_unasked conn r WantOfMemory v w ask configs h st = record {
  attempt = attempt_none conn r;
  refused = λ other e no. absurd (cc);
  spent = λ other e no there free. absurd (cc);
}

judges_unasked : (conn : ℕ) (r : HttpRequest) (fault : HubFault) (v w : HubState) → Asks conn r (Err fault) v w
    → Judges conn r (decided_of fault) v w
judges_unasked conn r fault v w ask = record {
  after = λ configs h st. record {
    more = [];
    fits = fits_fault configs h conn r fault [] (fault_unasked conn r fault v w ask configs h st);
    stands = stands_at_same configs h v.machine w.machine ask.makes.unmade st;
  };
  own = own_fault fault;
  works = works_same v.rewriter w.rewriter ask.makes.rewriter;
  pools = ask.makes.pools;
}

-- its check did not come to a record
record Unfinished (configs : List Configuration) (h : History) (n : ℕ) (fault : HubFault)
    (more : History) : Type 0 where
  pub on : list_all (goes_on n) more ≡ true
  pub refused : (why : Refusal) → fault ≡ Refused why → ¬ (why ≡ refusal.WantOfMemory)
      → (e : Event) × IsOfGoing n e × RefusesLast configs (more ++ h) e why
  pub spent : (why : Refusal) → fault ≡ Refused why → ¬ (why ≡ refusal.WantOfMemory) → check_open h n ≡ true
      → IsForLastNumber why

unfinished : (n : ℕ) (fault : HubFault) (v w : HubState) (done : Finishes n (Err fault) v w)
    (configs : List Configuration) (h : History) (st : StandsAt configs h v.machine)
    → Unfinished configs h n fault (done.after configs h st).more
unfinished n (Refused why) v w done configs h st =
    let behind = done.after configs h st in
    record {
      on = behind.fits.0;
      refused = λ other e no.
          let same : why ≡ other = cc in
          subst (λ y. (e : Event) × IsOfGoing n e × RefusesLast configs (behind.more ++ h) e y) same
          (behind.fits.1 (λ memory. no (sym same ∙ memory)));
      spent = λ other e no opened.
          let same : why ≡ other = cc in
          subst IsForLastNumber same (behind.fits.2 (λ memory. no (sym same ∙ memory)) opened);
    }
unfinished n JournalFault v w done configs h st = record {
  on = (done.after configs h st).fits;
  refused = λ other e no. absurd (cc);
  spent = λ other e no opened. absurd (cc);
}
unfinished n WantOfMemory v w done configs h st = record {
  on = (done.after configs h st).fits;
  refused = λ other e no. absurd (cc);
  spent = λ other e no opened. absurd (cc);
}

judges_fault : (conn n : ℕ) (r : HttpRequest) (fault : HubFault) (v w x : HubState) → Asks conn r (Ok n) v w
    → Finishes n (Err fault) w x → Judges conn r (decided_of fault) v x
judges_fault conn n r fault v w x ask done = record {
  after = λ configs h st.
      let answer = ask.makes.answers in
      let e = entry_at (machine_now v) (asks_for conn r) answer.0 in
      let there = answer.2.stands configs h st in
      let behind = done.after configs (e ∷ h) there in
      let rest = unfinished n fault w x done configs (e ∷ h) there in
      let joined = append_assoc (behind.more) (e ∷ []) (h) in
      record {
        more = behind.more ++ e ∷ [];
        fits = fits_fault configs h conn r fault (behind.more ++ e ∷ []) (record {
          attempt = record {
            now = machine_now v;
            check = n;
            asked = e ∷ [];
            rest = behind.more;
            cut = refl;
            asks = inr (ap (λ t. entry_at (machine_now v) (asks_for conn r) t ∷ []) answer.1);
            on = rest.on;
          };
          refused = λ why same no.
              let last = rest.refused why same no in
              (last.0, inr (n, last.1), subst (λ l. RefusesLast configs l last.0 why) (sym joined) last.2);
          spent = λ why same no there free. rest.spent why same no
              (asked_open configs h (machine_now v) conn r n answer.0 answer.1 (answer.2.gives configs h st));
        });
        stands = subst (λ l. StandsAt configs l x.machine) (sym joined) behind.stands;
      };
  own = own_fault fault;
  works = works_behind v.rewriter w.rewriter x.rewriter ask.makes.rewriter done.works;
  pools = done.pools ∙ ask.makes.pools;
}

-- there was no memory to ask
judges_nothing : (conn : ℕ) (r : HttpRequest) (v : HubState) → Judges conn r decided.WantOfMemory v v
judges_nothing conn r v = record {
  after =
      λ configs h st. record { more = []; fits = attempt_none conn r; stands = st };
  own = tt;
  works = works_self v.rewriter;
  pools = refl;
}

-- the same of what a hub tells
pub tells_record : (conn n : ℕ) (r : HttpRequest) (j : Judged) (d : Decided) (a b c : Option HubState)
    → (j.sight.request ≡ r → d ≡ decided.Record j) → Tells (Asks conn r (Ok n)) a b → Tells (Finishes n (Ok j)) b c
    → Tells (Judges conn r d) a c
tells_record conn n r j d a b c same p q =
    tells_then (Asks conn r (Ok n)) (Finishes n (Ok j)) (Judges conn r d) a b c
    (λ v w x ask done. subst (λ y. Judges conn r y v x) (sym (same (same_request conn n r j v w x ask done)))
    (judges_record conn n r j v w x ask done)) p q

pub tells_fault : (conn n : ℕ) (r : HttpRequest) (fault : HubFault) (d : Decided) (a b c : Option HubState)
    → d ≡ decided_of fault → Tells (Asks conn r (Ok n)) a b → Tells (Finishes n (Err fault)) b c
    → Tells (Judges conn r d) a c
tells_fault conn n r fault d a b c is p q =
    subst (λ y. Tells (Judges conn r y) a c) (sym is)
    (tells_then (Asks conn r (Ok n)) (Finishes n (Err fault)) (Judges conn r (decided_of fault)) a b c
    (λ v w x ask done. judges_fault conn n r fault v w x ask done) p q)

pub tells_unasked : (conn : ℕ) (r : HttpRequest) (fault : HubFault) (d : Decided) (a b : Option HubState)
    → d ≡ decided_of fault → Tells (Asks conn r (Err fault)) a b → Tells (Judges conn r d) a b
tells_unasked conn r fault d a b is p =
    subst (λ y. Tells (Judges conn r y) a b) (sym is)
    (tells_as (Asks conn r (Err fault)) (Judges conn r (decided_of fault)) a b
    (λ v w ask. judges_unasked conn r fault v w ask) p)

pub tells_nothing : (conn : ℕ) (r : HttpRequest) (a : Option HubState) → Tells (Judges conn r decided.WantOfMemory) a a
tells_nothing conn r a = tells_self (Judges conn r decided.WantOfMemory) a (λ v. judges_nothing conn r v)
