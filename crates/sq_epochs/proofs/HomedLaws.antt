-- Laws of what holds of all that is kept by epoch, after an epoch changed, ended or began.
use Rattle.std.proofs.Common.{◌≡◌, ℕ, zero, suc, ◌<◌, List, [], ◌∷◌, ◌++◌, map, length, set, Bool, true, false, not, cond, ◌&&◌, if◌then◌else◌, ◌==◌, refl, sym, subst, arith, ap, ◌∙◌, Some, None, is_some, get_or}
use Rattle.std.specs.Option.{option_map}
use Rattle.std.specs.declared.option.Option.{Option}
use Rattle.std.specs.List.{slice_get}
use Rattle.std.proofs.lemmas.Option.{slice_get-map}
use Rattle.sq_base.specs.declared.helpers.Cause.{Cause}
use Rattle.sq_channel.proofs.RisingLaws.{if_false, if_true}
use Rattle.sq_rules.specs.Classes.{Class}
use Rattle.sq_rules.specs.Configurations.{Configuration}
use Rattle.sq_machine.specs.DueActs.{ClassId}
use Rattle.sq_machine.specs.Farms.{fresh}
use Rattle.sq_machine.specs.KeptLists.{CachedReplies}
use Rattle.sq_machine.specs.Living.{lives}
use Rattle.sq_machine.specs.Rising.{Rises}
use Rattle.sq_class.specs.Parts.{PartState}
use Rattle.sq_epochs.specs.EpochProcs.{AreHomed, AreWhole, IsEnded, IsStarted, SameLiving, has_start, is_place, is_starting, lives_in}
use Rattle.sq_epochs.specs.EpochStates.{EpochState, EpochsState, epoch_at, epoch_in, epoch_number, home_at, new_epoch, new_part, part_at, part_of}
use Rattle.sq_epochs.specs.HomeStates.{AreHomes, Home, home_in, home_number, is_of_epoch, other_homes, procs_of, with_number, with_numbers, without_home}
use Rattle.sq_epochs.specs.LiveEpochs.{AreEpochs, checks_at, is_used, without_epoch}
use Rattle.sq_epochs.specs.Reconfigured.{alike_in, begun_epoch, begun_part, emptied, kept_before, left_epoch, left_parts, with_begun, with_epoch}
use Rattle.sq_epochs.proofs.BegunLaws.{begun_epochs, epoch_begun, left_epochs, none_past}
use Rattle.sq_epochs.proofs.DropLaws.{dropped_epochs, in_without}
use Rattle.sq_epochs.proofs.HomeLaws.{above_other, home_above, home_below, homes_dropped, homes_less, homes_more}
use Rattle.sq_epochs.proofs.LiveLaws.{same_epochs, still_epochs, still_used}
use Rattle.sq_epochs.proofs.ProcLaws.{homed_less, homed_more, lives_with, lives_without, still_homed}

equal : (a b : ℕ) → (a == b) ≡ true → a ≡ b
equal a b e = grind (arith, e)

-- all is whole still, where one epoch was changed
pub still_whole : (v : EpochsState) (i : ℕ) (x y : EpochState) → AreWhole v → x ≡ get_or v.epochs i x
    → y.epoch ≡ x.epoch → y.checks ≡ x.checks → SameLiving x y → AreWhole (record v { epochs = set v.epochs i y })
still_whole v i x y are there number checks alive = record {
  live = still_epochs v i x y are.live there number checks;
  homes = are.homes;
  homed = still_homed v i x y are.homed there number alive;
}

pub used_whole : (v : EpochsState) (i : ℕ) (x y : EpochState) → AreWhole v → i < length v.epochs
    → x ≡ get_or v.epochs i x → y.epoch ≡ x.epoch → is_used v.current y ≡ true → y.parts ≡ x.parts
    → AreWhole (record v { epochs = set v.epochs i y })
used_whole v i x y are within there number used parts = record {
  live = still_used v i x y are.live within there number used;
  homes = are.homes;
  homed = still_homed v i x y are.homed there number (λ c k. ap (λ z. lives_in k (slice_get z c)) parts);
}

-- a place, unless it is of this epoch
abbrev pub place_without : ℕ → Option ClassId → Option ClassId
place_without e None = None
place_without e (Some p) = if e == p.epoch then None else Some p

-- where a process has its home, where an epoch ended
pub home_other : (k e : ℕ) (hs : List Home) → Rises (map home_number hs)
    → home_in k (other_homes e hs) ≡ place_without e (home_in k hs)
home_other k e [] r = refl
home_other k e (h ∷ hs) r = by_number (k == h.proc) refl (home_other k e hs r.1)
  where
    gone : (k == h.proc) ≡ true → home_in k (other_homes e hs) ≡ None
    gone t = by_case (home_in k (other_homes e hs)) refl
      where
        twice : is_some (home_in k (other_homes e hs)) ≡ true → ⊥
        twice is =
            let l = home_above h.proc k (other_homes e hs) (above_other h.proc e hs r.0) is in
            let n = equal k h.proc t in
            omega arith

        by_case : (o : Option ClassId) → home_in k (other_homes e hs) ≡ o → home_in k (other_homes e hs) ≡ None
        by_case None q = q
        by_case (Some p) q = absurd (twice (ap is_some q))

    by_epoch : (b : Bool) → (k == h.proc) ≡ true
        → home_in k (cond (not b) (h ∷ other_homes e hs) (other_homes e hs)) ≡ (if b then None else Some h.place)
    by_epoch true t = gone t
    by_epoch false t = if_true (k == h.proc) (Some h.place) (home_in k (other_homes e hs)) t

    later : (b : Bool) → (k == h.proc) ≡ false → home_in k (other_homes e hs) ≡ place_without e (home_in k hs)
        → home_in k (cond (not b) (h ∷ other_homes e hs) (other_homes e hs)) ≡ place_without e (home_in k hs)
    later true t more = more
    later false t more = if_false (k == h.proc) (Some h.place) (home_in k (other_homes e hs)) t ∙ more

    by_number : (b : Bool) → (k == h.proc) ≡ b → home_in k (other_homes e hs) ≡ place_without e (home_in k hs)
        → home_in k (cond (not (is_of_epoch e h)) (h ∷ other_homes e hs) (other_homes e hs))
        ≡ place_without e (if b then Some h.place else home_in k hs)
    by_number true t more = by_epoch (e == h.place.epoch) t
    by_number false t more = later (e == h.place.epoch) t more

-- homes and processes agree still, where an epoch ended
pub homed_dropped : (v w : EpochsState) (e : ℕ) → AreHomed v → Rises (map home_number v.homes)
    → w.epochs ≡ without_epoch e v.epochs → w.homes ≡ other_homes e v.homes → AreHomed w
homed_dropped v w e are rise epochs homes = λ d b k.
    ap (λ z. lives_in k (part_of b (epoch_in d z))) epochs
    ∙ ap (λ o. lives_in k (part_of b o)) (in_without e d v.epochs) ∙ by_epoch d b k (e == d) refl
    ∙ sym (ap (λ z. is_place d b (home_in k z)) homes ∙ ap (is_place d b) (home_other k e v.homes rise))
  where
    gone : (d b : ℕ) (o : Option ClassId) → (e == d) ≡ true → false ≡ is_place d b (place_without e o)
    gone d b None t = refl
    gone d b (Some p) t = by_test (e == p.epoch) refl
      where
        by_test : (s : Bool) → (e == p.epoch) ≡ s → false ≡ is_place d b (if s then None else Some p)
        by_test true s = refl
        by_test false s = sym (ap (λ z. z && p.class == b) (other p.epoch e d s t))
          where
            other : (a c m : ℕ) → (c == a) ≡ false → (c == m) ≡ true → (a == m) ≡ false
            other a c m s t = grind (arith, s, t)

    same : (d b : ℕ) (o : Option ClassId) → (e == d) ≡ false → is_place d b o ≡ is_place d b (place_without e o)
    same d b None t = refl
    same d b (Some p) t = by_test (e == p.epoch) refl
      where
        by_test : (s : Bool) → (e == p.epoch) ≡ s → is_place d b (Some p) ≡ is_place d b (if s then None else Some p)
        by_test true s = ap (λ z. z && p.class == b) (other p.epoch e d s t)
          where
            other : (a c m : ℕ) → (c == a) ≡ true → (c == m) ≡ false → (a == m) ≡ false
            other a c m s t = grind (arith, s, t)
        by_test false s = refl

    by_epoch : (d b k : ℕ) (t : Bool) → (e == d) ≡ t
        → lives_in k (part_of b (if t then None else epoch_at v d)) ≡ is_place d b (place_without e (home_at v k))
    by_epoch d b k true t = gone d b (home_at v k) t
    by_epoch d b k false t = are d b k ∙ same d b (home_at v k) t

-- nobody lives in a class that begins
begun_empty : (before : Class → CachedReplies) (classes : List Class) (b k : ℕ)
    → lives_in k (slice_get (map (begun_part before) classes) b) ≡ false
begun_empty before classes b k = ap (lives_in k) (slice_get-map (begun_part before) classes b)
    ∙ by_class (slice_get classes b)
  where
    by_class : (o : Option Class) → lives_in k (option_map (begun_part before) o) ≡ false
    by_class None = refl
    by_class (Some class) = refl

-- who lives in the classes of the epoch that was current
left_living : (classes old : List Class) (parts : List PartState) (b k : ℕ)
    → lives_in k (slice_get (left_parts classes old parts) b) ≡ lives_in k (slice_get parts b)
left_living classes [] parts b k = refl
left_living classes (class ∷ old) [] b k = refl
left_living classes (class ∷ old) (p ∷ parts) zero k = by_alike (is_some (alike_in classes class))
  where
    by_alike : (t : Bool) → lives_in k (Some (if t then emptied p else p)) ≡ lives_in k (Some p)
    by_alike true = refl
    by_alike false = refl
left_living classes (class ∷ old) (p ∷ parts) (suc b) k = left_living classes old parts b k

-- homes and processes agree still, where an epoch began
pub homed_begun : (config : Configuration) (v : EpochsState) → AreEpochs v → AreHomed v → AreHomed (with_epoch config v)
homed_begun config v live are = λ d b k. ap (λ o. lives_in k (part_of b o)) (epoch_begun config v d live)
    ∙ by_next d b k (d == suc v.current) refl
  where
    begun : EpochState
    begun = begun_epoch (kept_before v.epochs v.current) (suc v.current) config

    left : (o : Option EpochState) (b k : ℕ)
        → lives_in k (part_of b (option_map (left_epoch config.classes) o)) ≡ lives_in k (part_of b o)
    left None b k = refl
    left (Some x) b k = left_living config.classes x.config.classes x.parts b k

    nobody : (d b k : ℕ) → d ≡ suc v.current → is_place d b (home_at v k) ≡ false
    nobody d b k n = sym (are d b k)
        ∙ ap (λ o. lives_in k (part_of b o)) (ap (epoch_at v) n ∙ none_past (suc v.current) v.epochs live.born)

    by_current : (d b k : ℕ) (t : Bool)
        → lives_in k (part_of b (if t then option_map (left_epoch config.classes) (epoch_at v d) else epoch_at v d))
        ≡ is_place d b (home_at v k)
    by_current d b k true = left (epoch_at v d) b k ∙ are d b k
    by_current d b k false = are d b k

    by_next : (d b k : ℕ) (t : Bool) → (d == suc v.current) ≡ t
        → lives_in k (part_of b (if t then Some begun
        else (if d == v.current then option_map (left_epoch config.classes) (epoch_at v d) else epoch_at v d)))
        ≡ is_place d b (home_at v k)
    by_next d b k true t = begun_empty (kept_before v.epochs v.current) config.classes b k
        ∙ sym (nobody d b k (equal d (suc v.current) t))
    by_next d b k false t = by_current d b k (d == v.current)

-- homes and stops that are the same
same_homes : (g g' : ℕ) (hs hs' : List Home) (ss ss' : List ℕ) → g' ≡ g → hs' ≡ hs → ss' ≡ ss → AreHomes g hs ss
    → AreHomes g' hs' ss'
same_homes g g' hs hs' ss ss' p q r are = subst (λ z. AreHomes z hs' ss') (sym p)
    (subst (λ z. AreHomes g z ss') (sym q) (subst (AreHomes g hs) (sym r) are))

-- all is whole, where an epoch ended that was not current
pub dropped_whole : (v w : EpochsState) (e : ℕ) → AreWhole v → (e == v.current) ≡ false → w.current ≡ v.current
    → w.epochs ≡ without_epoch e v.epochs
    → w.procs ≡ v.procs → w.homes ≡ other_homes e v.homes → w.stops ≡ with_numbers (procs_of e v.homes) v.stops
    → AreWhole w
dropped_whole v w e are other current epochs procs homes stops = record {
  live = dropped_epochs v w e are.live other current epochs;
  homes = same_homes v.procs w.procs (other_homes e v.homes) w.homes (with_numbers (procs_of e v.homes) v.stops) w.stops
      procs homes stops (homes_dropped v.procs e v.homes v.stops are.homes);
  homed = homed_dropped v w e are.homed are.homes.rise epochs homes;
}

-- all is whole, where an epoch began and the one that was current has an open check
pub begun_whole : (config : Configuration) (v w : EpochsState) → AreWhole v → 0 < checks_at v v.current
    → w.current ≡ suc v.current → w.epochs ≡ with_begun v.current config v.epochs
    → w.procs ≡ v.procs → w.homes ≡ v.homes → w.stops ≡ v.stops → AreWhole w
begun_whole config v w are l current epochs procs homes stops = record {
  live = begun_epochs config v w are.live l current epochs;
  homes = same_homes v.procs w.procs v.homes w.homes v.stops w.stops procs homes stops are.homes;
  homed = λ d b k. ap (λ z. lives_in k (part_of b (epoch_in d z))) epochs
      ∙ homed_begun config v are.live are.homed d b k ∙ ap (λ z. is_place d b (home_in k z)) (sym homes);
}

-- the same, where the one that was current ended
pub left_whole : (config : Configuration) (v w : EpochsState) → AreWhole v → w.current ≡ suc v.current
    → w.epochs ≡ without_epoch v.current (with_begun v.current config v.epochs)
    → w.procs ≡ v.procs → w.homes ≡ other_homes v.current v.homes
    → w.stops ≡ with_numbers (procs_of v.current v.homes) v.stops → AreWhole w
left_whole config v w are current epochs procs homes stops = record {
  live = left_epochs config v w are.live current epochs;
  homes =
      same_homes v.procs w.procs (other_homes v.current v.homes) w.homes
      (with_numbers (procs_of v.current v.homes) v.stops) w.stops procs homes stops
      (homes_dropped v.procs v.current v.homes v.stops are.homes);
  homed = homed_dropped (with_epoch config v) w v.current (homed_begun config v are.live are.homed) are.homes.rise
      epochs homes;
}

-- nobody lives in an epoch of which nothing is kept
new_empty : (classes : List Class) (b k : ℕ) → lives_in k (slice_get (map new_part classes) b) ≡ false
new_empty classes b k = ap (lives_in k) (slice_get-map new_part classes b) ∙ by_class (slice_get classes b)
  where
    by_class : (o : Option Class) → lives_in k (option_map new_part o) ≡ false
    by_class None = refl
    by_class (Some class) = refl

-- all is whole in the beginning
pub first_whole : (config : Configuration) (xs : List EpochState) (g : ℕ) (hs : List Home) (ss : List ℕ)
    → xs ≡ new_epoch 1 config ∷ [] → g ≡ 0 → hs ≡ [] → ss ≡ []
    → AreWhole (record { current = 1; epochs = xs; procs = g; homes = hs; stops = ss })
first_whole config xs g hs ss p q r s =
    subst (λ z. AreWhole (record { current = 1; epochs = z; procs = g; homes = hs; stops = ss })) (sym p)
    (subst (λ z. AreWhole (record { current = 1; epochs = new_epoch 1 config ∷ []; procs = z; homes = hs; stops = ss }))
    (sym q)
    (subst (λ z. AreWhole (record { current = 1; epochs = new_epoch 1 config ∷ []; procs = 0; homes = z; stops = ss }))
    (sym r)
    (subst (λ z. AreWhole (record { current = 1; epochs = new_epoch 1 config ∷ []; procs = 0; homes = []; stops = z }))
    (sym s) first)))
  where
    by_epoch : (t : Bool) (c k : ℕ) → lives_in k (part_of c (if t then Some (new_epoch 1 config) else None)) ≡ false
    by_epoch true c k = new_empty config.classes c k
    by_epoch false c k = refl

    first : AreWhole (record { current = 1; epochs = new_epoch 1 config ∷ []; procs = 0; homes = []; stops = [] })
    first = record {
      live = record {
        rise = (tt, tt);
        numbered = (omega arith, tt);
        born = (omega arith, tt);
        here = refl;
        used = refl;
      };
      homes = record {
        rise = tt;
        above = tt;
        born = tt;
        stops_rise = tt;
        stops_above = tt;
        stops_born = tt;
        apart = λ k is. absurd cc;
      };
      homed = λ e c k. by_epoch (e == 1) c k;
    }

-- who has a home in a class lives there
pub home_lives : (v : EpochsState) (k : ℕ) (p : ClassId) → AreHomed v → home_at v k ≡ Some p
    → lives_in k (part_at v p.epoch p.class) ≡ true
home_lives v k p are is = are p.epoch p.class k ∙ ap (is_place p.epoch p.class) is ∙ both p.epoch p.class
  where
    both : (a b : ℕ) → (a == a && b == b) ≡ true
    both a b = ap (λ z. z && b == b) (one a) ∙ one b
      where
        one : (a : ℕ) → (a == a) ≡ true
        one a = grind arith

-- where somebody lives there is a part
pub lives_there : (k : ℕ) (o : Option PartState) → lives_in k o ≡ true → is_some o ≡ true
lives_there k None is = absurd cc
lives_there k (Some p) is = refl

-- epochs are epochs still, where others than they changed
pub epochs_with : (v w : EpochsState) → AreEpochs v → w.current ≡ v.current → w.epochs ≡ v.epochs → AreEpochs w
epochs_with v w are current epochs = same_epochs v w are current (ap (map epoch_number) epochs)
    (ap (map (is_used v.current)) epochs)

-- all is whole, where a process ended
pub whole_ended : (v w : EpochsState) (cause : Cause) (k : ℕ) (due : Bool) → AreWhole v → AreEpochs w
    → IsEnded cause k due v w → AreWhole w
whole_ended v w cause k due are live is = record {
  live = live;
  homes =
      same_homes v.procs w.procs (without_home k v.homes) w.homes (if due then with_number k v.stops else v.stops)
      w.stops (ap (λ z. z.procs) is.changed.new_is) is.homes_are is.stops_are
      (homes_less v.procs k v.homes v.stops due are.homes (ap is_some is.home_is));
  homed =
      homed_less v w k is.place.epoch is.place.class is.changed.before is.changed.after are.homed is.home_is
      is.changed.was (ap (λ z. z.epochs) is.changed.new_is) is.homes_are
      (λ j. ap (λ z. lives j z.row.stock.procs) is.changed.change.value
      ∙ lives_without j k is.changed.before.row.stock.procs);
}

-- the next process has no home yet
pub next_homeless : (v : EpochsState) → AreHomes v.procs v.homes v.stops → is_some (home_at v (suc v.procs)) ≡ false
next_homeless v are = by_case (is_some (home_at v (suc v.procs))) refl
  where
    by_case : (b : Bool) → is_some (home_at v (suc v.procs)) ≡ b → b ≡ false
    by_case true e = let l = home_below (suc v.procs) (suc v.procs) v.homes are.born e in absurd (omega arith)
    by_case false e = refl

-- and lives nowhere
pub next_lifeless : (v : EpochsState) (e c : ℕ) → AreWhole v → lives_in (suc v.procs) (part_at v e c) ≡ false
next_lifeless v e c are = are.homed e c (suc v.procs) ∙ by_case (home_at v (suc v.procs)) (next_homeless v are.homes)
  where
    by_case : (o : Option ClassId) → is_some o ≡ false → is_place e c o ≡ false
    by_case None is = refl
    by_case (Some p) is = absurd cc

-- all is whole, where a process was started
pub whole_started : (v w : EpochsState) (e c : ℕ) → AreWhole v → AreEpochs w → IsStarted e c v w → AreWhole w
whole_started v w e c are live is = record {
  live = live;
  homes =
      same_homes (suc v.procs) w.procs
      (v.homes ++ record { proc = suc v.procs; place = record { epoch = e; class = c } } ∷ []) w.homes v.stops w.stops
      is.procs_are is.homes_are (ap (λ z. z.stops) is.changed.new_is)
      (homes_more v.procs (suc v.procs) v.homes v.stops (record { epoch = e; class = c }) refl are.homes);
  homed =
      homed_more v w (suc v.procs) e c is.changed.before is.changed.after are.homed (next_homeless v are.homes)
      is.changed.was (ap (λ z. z.epochs) is.changed.new_is) is.homes_are
      (λ k. ap (λ z. lives k z.row.stock.procs) is.changed.change
      ∙ lives_with k (fresh is.changed.before.row.stock.concurrency (suc v.procs)) is.changed.before.row.stock.procs);
}

-- a class of which a start is open is there
pub start_there : (v : EpochsState) (e c : ℕ) → has_start v e c ≡ true → is_some (part_at v e c) ≡ true
start_there v e c is = by_case (part_at v e c) is
  where
    by_case : (o : Option PartState) → is_starting o ≡ true → is_some o ≡ true
    by_case None is = absurd cc
    by_case (Some p) is = refl

-- the number that was given
pub next_is : (b : Bool) (n m : ℕ) → Some n ≡ (if b then Some m else None) → n ≡ m
next_is true n m e = cc
next_is false n m e = absurd cc
