-- Entries, and the moments at which they were noted.
use Rattle.std.proofs.Common.{◌≡◌, ◌∙◌, ℕ, List, [], ◌∷◌, ◌++◌, Option, Some, None, Result, Ok, Err, inl, inr, refl, ap, sym, subst, append_assoc}
use Rattle.sq_outside.specs.World.{GivesMoment}
use Rattle.sq_machine.specs.Entries.{History, entry_at}
use Rattle.sq_machine.specs.declared.entries.Event.{Event}
use Rattle.sq_machine.specs.declared.entries.Told.{Told}
use Rattle.sq_machine.specs.declared.acts.Act.{Act}
use Rattle.sq_calls.specs.Legality.{Beginning}
use Rattle.sq_calls.specs.Moments.{AreNotedAt, Gave, GrewAt, IsAmong, IsTimely}
use Rattle.sq_calls.specs.Telling.{AddsOne, AddsSome, MayAct, Notes, NotesAs, noted_at}
use Rattle.sq_calls.specs.declared.faults.DeskFault.{DeskFault}

pub among_first : (m : ℕ) (xs ys : List ℕ) → IsAmong m xs → IsAmong m (xs ++ ys)
among_first m [] ys a = absurd a
among_first m (x ∷ xs) ys (inl e) = inl e
among_first m (x ∷ xs) ys (inr a) = inr (among_first m xs ys a)

pub among_second : (m : ℕ) (xs ys : List ℕ) → IsAmong m ys → IsAmong m (xs ++ ys)
among_second m [] ys a = a
among_second m (x ∷ xs) ys a = inr (among_second m xs ys a)

-- a clock that gave these, and then those
pub gave_and : (xs ys : List ℕ) (a b c : Option (List ℕ)) → Gave xs a b → Gave ys b c → Gave (xs ++ ys) a c
gave_and [] ys a b c is more = subst (λ z. Gave ys z c) is more
gave_and (x ∷ xs) ys a b c (between, first, rest) more = (between, first, gave_and xs ys between b c rest more)

-- what was noted at some of these moments
noted_among : (ms ns : List ℕ) (es h : History) → ((m : ℕ) → IsAmong m ms → IsAmong m ns) → AreNotedAt ms es h
    → AreNotedAt ns es h
noted_among ms ns [] h more at = tt
noted_among ms ns (e ∷ es) h more ((m, among, is), at) = ((m, more m among, is), noted_among ms ns es h more at)

noted_and : (ms : List ℕ) (fs es h : History) → AreNotedAt ms fs (es ++ h) → AreNotedAt ms es h
    → AreNotedAt ms (fs ++ es) h
noted_and ms [] es h later at = at
noted_and ms (f ∷ fs) es h ((m, among, is), later) at = (
  (m, among, is ∙ ap (noted_at m) (sym (append_assoc fs es h))),
  noted_and ms fs es h later at,
)

-- a journal that grew at these moments, and then at those
pub grew_and : (ms ns : List ℕ) (old between new : Option History) → GrewAt ms old between → GrewAt ns between new
    → GrewAt (ms ++ ns) old new
grew_and ms ns None between new is more = subst (λ z. GrewAt ns z new) is more
grew_and ms ns (Some h) between new (es, is, at) more = by (subst (λ z. GrewAt ns z new) is more)
  where
    by : GrewAt ns (Some (es ++ h)) new → GrewAt (ms ++ ns) (Some h) new
    by (fs, last, later) = (
      fs ++ es,
      last ∙ ap Some (sym (append_assoc fs es h)),
      noted_and (ms ++ ns) fs es h
          (noted_among ns (ms ++ ns) fs (es ++ h) (λ m. among_second m ms ns) later)
          (noted_among ms (ms ++ ns) es h (λ m. among_first m ms ns) at),
    )

-- one that stayed
pub grew_none : (ms : List ℕ) (old new : Option History) → new ≡ old → GrewAt ms old new
grew_none ms None new is = is
grew_none ms (Some h) new is = ([], is, tt)

-- one entry more
pub one_grew : (first : Option Beginning) (now : ℕ) (P : Event → Type 0) (answer : Told) (old new : Option History)
    → AddsOne first now P answer old new → GrewAt (now ∷ []) old new
one_grew first now P answer None new is = is
one_grew first now P answer (Some h) new (e, p, enters) =
    (entry_at (noted_at now h) e answer ∷ [], enters.entry, ((now, inl refl, refl), tt))

pub some_grew : (first : Option Beginning) (now : ℕ) (R : Told → Type 0) (P : Event → Type 0)
    (old new : Option History) → AddsSome first now R P old new → GrewAt (now ∷ []) old new
some_grew first now R P None new is = is
some_grew first now R P (Some h) new (answer, q, e, p, enters) =
    (entry_at (noted_at now h) e answer ∷ [], enters.entry, ((now, inl refl, refl), tt))

-- a call notes at its own moment alone
pub notes_grew : {A : Type 0} (first : Option Beginning) (now : ℕ) (tell : A → Told) (P : Event → Type 0)
    (old new : Option History) (r : Result A DeskFault) → Notes first now tell P old new r → GrewAt (now ∷ []) old new
notes_grew first now tell P old new (Ok a) is = one_grew first now P (tell a) old new is
notes_grew first now tell P old new (Err f) is = grew_none (now ∷ []) old new is

pub notes_as_grew : {A : Type 0} (first : Option Beginning) (now : ℕ) (R : A → Told → Type 0) (P : Event → Type 0)
    (old new : Option History) (r : Result A DeskFault) → NotesAs first now R P old new r
    → GrewAt (now ∷ []) old new
notes_as_grew first now R P old new (Ok a) is = some_grew first now (R a) P old new is
notes_as_grew first now R P old new (Err f) is = grew_none (now ∷ []) old new is

pub act_grew : (first : Option Beginning) (now : ℕ) (old new : Option History) (r : Result (Option Act) DeskFault)
    → MayAct first now old new r → GrewAt (now ∷ []) old new
act_grew first now old new (Ok (Some a)) is = some_grew first now _ _ old new is
act_grew first now old new (Ok None) is = grew_none (now ∷ []) old new is.1
act_grew first now old new (Err f) is = grew_none (now ∷ []) old new is

-- a clock gave one moment, and what was noted was noted at it
pub timely_one : (m : ℕ) (before now : Option (List ℕ)) (old new : Option History) → GivesMoment before now m
    → GrewAt (m ∷ []) old new → IsTimely before now old new
timely_one m before now old new gives grew = record {
  moments = m ∷ [];
  gave = (now, gives, refl);
  grew = grew;
}

-- nothing was noted, whatever the clock gave
pub timely_none : (ms : List ℕ) (before now : Option (List ℕ)) (old new : Option History) → Gave ms before now
    → new ≡ old → IsTimely before now old new
timely_none ms before now old new gave is = record {
  moments = ms;
  gave = gave;
  grew = grew_none ms old new is;
}

-- nothing happened
pub timely_still : (before now : Option (List ℕ)) (old new : Option History) → now ≡ before → new ≡ old
    → IsTimely before now old new
timely_still before now old new still is = timely_none [] before now old new still is

-- one after the other
pub timely_and : (a b c : Option (List ℕ)) (old between new : Option History) → IsTimely a b old between
    → IsTimely b c between new → IsTimely a c old new
timely_and a b c old between new s t = record {
  moments = s.moments ++ t.moments;
  gave = gave_and s.moments t.moments a b c s.gave t.gave;
  grew = grew_and s.moments t.moments old between new s.grew t.grew;
}
