-- What a turn adds to the journal, from what it does.
use Rattle.std.proofs.Common.{◌≡◌, ◌⊎◌, ℕ, Bool, List, [], ◌∷◌, true, Some, None, Ok, IfSome, inl, inr, ⊎_elim, refl, sym, ap, ◌∙◌, subst}
use Rattle.std.specs.declared.option.Option.{Option}
use Rattle.sq_base.specs.Replies.{question_text}
use Rattle.sq_outside.specs.Causes.{Rose}
use Rattle.sq_outside.specs.World.{StartsMore}
use Rattle.sq_keeper.specs.Pipes.{Changes, HalfTells}
use Rattle.sq_calls.specs.Legality.{Beginning}
use Rattle.sq_calls.proofs.MomentLaws.{act_grew, grew_and, grew_none, one_grew}
use Rattle.sq_calls.specs.Moments.{AreNotedAt, GrewAt}
use Rattle.sq_calls.specs.Telling.{MayAct}
use Rattle.sq_machine.specs.declared.acts.Act.{Act}
use Rattle.sq_machine.specs.declared.acts.Act.TheVariants as act
use Rattle.sq_machine.specs.Entries.{History}
use Rattle.sq_helper_threads.specs.Entries.{Follows, IsCaused, IsTurn, NotesTurn}
use Rattle.sq_rules.specs.Lookups.{is_lookup_program}
use Rattle.sq_helper_threads.specs.Pumps.{Configs, Programs, PumpStep, PumpTells, PumpView}
use Rattle.sq_helper_threads.specs.Turning.{AddsEntryOf, BeginsTurn, HasFailed, IsActing, IsAsking, IsProgram, Performs, Reports, Resumes, SameButRefused, Turns, TurnsBy}
use Rattle.sq_helper_threads.specs.declared.halves.AskerOut.{AskerOut}
use Rattle.sq_helper_threads.specs.declared.turns.Left.{Left}
use Rattle.sq_helper_threads.specs.declared.turns.Left.TheVariants as left
use Rattle.sq_helper_threads.specs.declared.turns.Turn.{Turn}
use Rattle.sq_helper_threads.specs.declared.turns.Turn.TheVariants as turn

reported : {P Q R D : Type 0} (l : Left P Q (AskerOut R)) (m : ℕ) (told : Option History) (refused : ℕ)
    (stopped : Bool) (r : Turn) (w : PumpView P Q R D)
    → Reports l m told refused stopped r w → (w.told ≡ told) ⊎ AddsEntryOf l w.first m told w.told
reported l m told refused stopped (turn.Acted a) w p = ⊎_elim (λ adds. inr adds) (λ same. inl same.0) p.2
reported l m told refused stopped turn.Ended w p = inl p.0
reported l m told refused stopped turn.WantOfMemory w p = inl p.0
reported l m told refused stopped turn.Idle w p = absurd p

reported_left : {P Q R D : Type 0} (l : Left P Q (AskerOut R)) (m : ℕ) (told : Option History) (refused : ℕ)
    (stopped : Bool) (r : Turn) (w : PumpView P Q R D)
    → Reports l m told refused stopped r w → (w.left ≡ None) ⊎ (w.left ≡ Some l)
reported_left l m told refused stopped (turn.Acted a) w p = inl p.1
reported_left l m told refused stopped turn.Ended w p = inl p.2
reported_left l m told refused stopped turn.WantOfMemory w p = inr p.1
reported_left l m told refused stopped turn.Idle w p = absurd p

follow : {P Q R D : Type 0} (pg : Programs D) (hs : HalfTells Q) (s : PumpStep P Q R D) (l : Left P Q (AskerOut R))
    (mid : Option History) (refused : ℕ) (stopped : Bool)
    → IsCaused pg hs s l → Reports l s.moment mid refused stopped s.result s.now → Follows pg hs s mid
follow pg hs s l mid refused stopped caused p = ⊎_elim (λ same. inl same) (λ adds. inr (l, caused, adds))
    (reported l s.moment mid refused stopped s.result s.now p)

none_left : {P Q R D : Type 0} (pg : Programs D) (hs : HalfTells Q) (s : PumpStep P Q R D) → s.now.left ≡ None
    → IfSome s.now.left (IsCaused pg hs s)
none_left pg hs s none = subst (λ o. IfSome o (IsCaused pg hs s)) (sym none) tt

some_left : {P Q R D : Type 0} (pg : Programs D) (hs : HalfTells Q) (s : PumpStep P Q R D)
    (l : Left P Q (AskerOut R)) → s.now.left ≡ Some l → IsCaused pg hs s l → IfSome s.now.left (IsCaused pg hs s)
some_left pg hs s l some caused = subst (λ o. IfSome o (IsCaused pg hs s)) (sym some) caused

leave : {P Q R D : Type 0} (pg : Programs D) (hs : HalfTells Q) (s : PumpStep P Q R D) (l : Left P Q (AskerOut R))
    (mid : Option History) (refused : ℕ) (stopped : Bool)
    → IsCaused pg hs s l → Reports l s.moment mid refused stopped s.result s.now → IfSome s.now.left (IsCaused pg hs s)
leave pg hs s l mid refused stopped caused p =
    ⊎_elim (λ none. none_left pg hs s none) (λ some. some_left pg hs s l some caused)
    (reported_left l s.moment mid refused stopped s.result s.now p)

-- what an act that is performed notes behind its own entry, and what it leaves
Did : {P Q R D : Type 0} (pg : Programs D) (hs : HalfTells Q) (s : PumpStep P Q R D) (mid : Option History) → Type 0
Did pg hs s mid = Follows pg hs s mid × IfSome s.now.left (IsCaused pg hs s)

did : {P Q R D : Type 0} (pg : Programs D) (hs : HalfTells Q) (s : PumpStep P Q R D) (l : Left P Q (AskerOut R))
    (mid : Option History) (refused : ℕ) (stopped : Bool)
    → IsCaused pg hs s l → Reports l s.moment mid refused stopped s.result s.now → Did pg hs s mid
unfolding Did
did pg hs s l mid refused stopped caused p = (
  follow pg hs s l mid refused stopped caused p,
  leave pg hs s l mid refused stopped caused p,
)

did_none : {P Q R D : Type 0} (pg : Programs D) (hs : HalfTells Q) (s : PumpStep P Q R D) (mid : Option History)
    → s.now.told ≡ mid → s.now.left ≡ None → Did pg hs s mid
unfolding Did
did_none pg hs s mid same none = (inl same, none_left pg hs s none)

-- the same turn, as it is seen from another state before it
abbrev from : {P Q R D : Type 0} → PumpView P Q R D → PumpStep P Q R D → PumpStep P Q R D
from u s = record s { before = u }

asked : {P Q R D : Type 0} (pg : Programs D) (cf : Configs D) (hs : HalfTells Q) (s : PumpStep P Q R D)
    (words : List (List ℕ)) (epoch class : ℕ) (u : PumpView P Q R D)
    → (s.now.told ≡ u.told → IsCaused pg hs s (left.Whole (act.Start epoch class)))
    → IsProgram pg s.before epoch class (Some words) → is_lookup_program words ≡ true
    → IsAsking cf epoch class (from u s) → Did pg hs s u.told
unfolding Did
asked pg cf hs s words epoch class u whole program lookup h =
    ⊎_elim
    (λ want.
    let same : s.now.told ≡ u.told = ap (λ x. x.told) want.1 in
    (inl same, some_left pg hs s (left.Whole (act.Start epoch class)) (ap (λ x. x.left) want.1) (whole same)))
    (λ taken.
    did pg hs s (left.Asked epoch class taken.0 taken.1) u.told u.refused u.stopped (inr (words, program, lookup))
    taken.5)
    h

performed : {P Q R D : Type 0} (t : PumpTells P Q D) (s : PumpStep P Q R D) (a : Act) (u : PumpView P Q R D)
    → u.faults ≡ s.before.faults → u.starts ≡ s.before.starts → u.pipes ≡ s.before.pipes
    → t.programs u.desk ≡ t.programs s.before.desk → u.left ≡ None
    → (s.now.told ≡ u.told → IsCaused t.programs t.halves s (left.Whole a))
    → Performs t a (from u s) → Did t.programs t.halves s u.told
unfolding Did
performed t s (act.Stop proc) u f st p g n whole h = did_none t.programs t.halves s u.told h.1.told h.1.left
performed t s (act.Send proc question channel text) u f st p g n whole h =
    ⊎_elim
    (λ same. did_none t.programs t.halves s u.told same.1.told same.1.left)
    (λ failed.
    did t.programs t.halves s (left.Died proc (act.Send proc question channel text)) u.told u.refused u.stopped
    (inr (
      question_text channel text,
      subst (λ ps. Changes proc (HasFailed t.halves (question_text channel text)) ps s.now.pipes) p failed.0,
    ))
    failed.4)
    h
performed t s (act.Start epoch class) u f st p g n whole h =
    ⊎_elim
    (λ gone. did_none t.programs t.halves s u.told (ap (λ x. x.told) gone.1) (ap (λ x. x.left) gone.1 ∙ n))
    (λ rest.
    ⊎_elim
    (λ want.
    let same : s.now.told ≡ u.told = ap (λ x. x.told) want.1 in (
      inl same,
      some_left t.programs t.halves s (left.Whole (act.Start epoch class)) (ap (λ x. x.left) want.1) (whole same),
    ))
    (λ more.
    ⊎_elim
    (λ failed. did t.programs t.halves s (left.Failed epoch class) u.told u.refused u.stopped
    (inr (subst (λ k. Rose k s.now.faults) f failed.1)) failed.3)
    (λ last.
    ⊎_elim
    (λ made.
    did t.programs t.halves s (left.Started epoch class made.1 made.2) u.told u.refused u.stopped
    (inr (
      made.0,
      subst (λ q. IfSome (q epoch class) (λ told. Some made.0 ≡ told)) g made.3,
      subst (λ o. StartsMore o s.now.starts made.0) st made.5,
    ))
    made.9)
    (λ asks.
    asked t.programs t.configs t.halves s asks.0 epoch class u whole
    (subst (λ q. IfSome (q epoch class) (λ told. Some asks.0 ≡ told)) g asks.1) asks.2 asks.3)
    last)
    more)
    rest)
    h

resumed : {P Q R D : Type 0} (t : PumpTells P Q D) (s : PumpStep P Q R D) (l : Left P Q (AskerOut R))
    → s.before.left ≡ Some l → Resumes t l (from (record s.before { left = None }) s)
    → Did t.programs t.halves s s.before.told
resumed t s (left.Whole a) is h =
    performed t s a (record s.before { left = None }) refl refl refl refl refl (λ same. inl is) h
resumed t s (left.Failed epoch class) is h =
    did t.programs t.halves s (left.Failed epoch class) s.before.told s.before.refused s.before.stopped (inl is) h.0
resumed t s (left.Started epoch class from to) is h =
    did t.programs t.halves s (left.Started epoch class from to) s.before.told s.before.refused s.before.stopped
    (inl is) h.0
resumed t s (left.Asked epoch class from to) is h =
    did t.programs t.halves s (left.Asked epoch class from to) s.before.told s.before.refused s.before.stopped
    (inl is) h.0
resumed t s (left.Died proc a) is h =
    did t.programs t.halves s (left.Died proc a) s.before.told s.before.refused s.before.stopped (inl is) h.0

same_told : {P Q R D : Type 0} (v w : PumpView P Q R D) → SameButRefused v w → w.told ≡ v.told
same_told v w s = ap (λ x. x.told) s.0

same_left : {P Q R D : Type 0} (v w : PumpView P Q R D) → SameButRefused v w → v.left ≡ None → w.left ≡ None
same_left v w s n = ap (λ x. x.left) s.0 ∙ n

-- the act's entry, and what follows it
acted : {P Q R D : Type 0} (t : PumpTells P Q D) (s : PumpStep P Q R D)
    → s.before.left ≡ None → (x : IsActing t s) → Did t.programs t.halves s x.mid.told
acted t s none x =
    performed t s x.act x.mid
    (ap (λ y. y.faults) x.same) (ap (λ y. y.starts) x.same) (ap (λ y. y.pipes) x.same) x.programs_stay
    (ap (λ y. y.left) x.same ∙ none)
    (λ same. inr (
      none,
      subst (λ o. MayAct s.before.first s.moment s.before.told o (Ok (Some x.act))) (sym same) x.noted,
    ))
    x.performs

turned_by : {P Q R D : Type 0} (t : PumpTells P Q D) (o : Option (Left P Q (AskerOut R))) (s : PumpStep P Q R D)
    → s.before.left ≡ o → TurnsBy t o s
    → NotesTurn t.programs t.halves s × IfSome s.now.left (IsCaused t.programs t.halves s)
unfolding Did
turned_by t None s is h =
    ⊎_elim
    (λ idle.
    (inl (inl (ap (λ x. x.told) idle.1)), none_left t.programs t.halves s (ap (λ x. x.left) idle.1 ∙ is)))
    (λ rest.
    ⊎_elim
    (λ want. (
      inl (inl (same_told s.before s.now want.1)),
      none_left t.programs t.halves s (same_left s.before s.now want.1 is),
    ))
    (λ more.
    ⊎_elim
    (λ ended. (
      inl (inl (same_told s.before s.now ended.1)),
      none_left t.programs t.halves s (same_left s.before s.now ended.1 is),
    ))
    (λ x.
    let d = acted t s is x in
    (inr (x.act, x.mid.told, is, x.noted, d.0), d.1))
    more)
    rest)
    h
turned_by t (Some l) s is h = let d = resumed t s l is h in (inl d.0, d.1)

-- nothing was left, and a turn begins
pub begun : {P Q R D : Type 0} (t : PumpTells P Q D) (s : PumpStep P Q R D) (u : PumpView P Q R D)
    → u ≡ s.before → s.before.left ≡ None → BeginsTurn t (from u s) → Turns t s
begun t s u same none h =
    subst (λ o. TurnsBy t o s) (sym none) (subst (λ x. BeginsTurn t (from x s)) same h)

-- two entries at one moment
at_one : (m : ℕ) (es h : History) → AreNotedAt (m ∷ m ∷ []) es h → AreNotedAt (m ∷ []) es h
at_one m [] h at = tt
at_one m (e ∷ es) h ((n, among, is), at) = (
  (n, ⊎_elim (λ same. inl same) (λ again. again) among, is),
  at_one m es h at,
)

once : (m : ℕ) (old new : Option History) → GrewAt (m ∷ m ∷ []) old new → GrewAt (m ∷ []) old new
once m None new is = is
once m (Some h) new (es, is, at) = (es, is, at_one m es h at)

adds_grew : {P Q A : Type 0} (l : Left P Q A) (first : Option Beginning) (m : ℕ) (old new : Option History)
    → AddsEntryOf l first m old new → GrewAt (m ∷ []) old new
adds_grew (left.Whole a) first m old new adds = absurd adds
adds_grew (left.Failed epoch class) first m old new adds = one_grew first m _ _ old new adds
adds_grew (left.Started epoch class from to) first m old new adds = one_grew first m _ _ old new adds.1
adds_grew (left.Asked epoch class from to) first m old new adds = one_grew first m _ _ old new adds.1
adds_grew (left.Died proc a) first m old new adds = one_grew first m _ _ old new adds

follows_grew : {P Q R D : Type 0} (pg : Programs D) (hs : HalfTells Q) (s : PumpStep P Q R D) (mid : Option History)
    → Follows pg hs s mid → GrewAt (s.moment ∷ []) mid s.now.told
follows_grew pg hs s mid h =
    ⊎_elim (λ same. grew_none (s.moment ∷ []) mid s.now.told same)
    (λ adds. adds_grew adds.0 s.now.first s.moment mid s.now.told adds.2) h

notes_grew : {P Q R D : Type 0} (pg : Programs D) (hs : HalfTells Q) (s : PumpStep P Q R D)
    → NotesTurn pg hs s → GrewAt (s.moment ∷ []) s.before.told s.now.told
notes_grew pg hs s h =
    ⊎_elim (λ one. follows_grew pg hs s s.before.told one)
    (λ both.
    once s.moment s.before.told s.now.told
    (grew_and (s.moment ∷ []) (s.moment ∷ []) s.before.told both.1 s.now.told
    (act_grew s.before.first s.moment s.before.told both.1 (Ok (Some both.0)) both.3)
    (follows_grew pg hs s both.1 both.4)))
    h

-- what a turn notes and leaves, and when
pub turned : {P Q R D : Type 0} (t : PumpTells P Q D) (s : PumpStep P Q R D) → Turns t s → IsTurn t s
turned t s h =
    let d = turned_by t s.before.left s refl h in
    record { turns = h; notes = d.0; left = d.1; timely = notes_grew t.programs t.halves s d.0 }
