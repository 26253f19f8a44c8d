-- Laws of cached replies that move from the classes of an epoch to those of the next.
use Rattle.std.proofs.Common.{◌≡◌, ℕ, suc, zero, ◌+◌, ◌<◌, List, [], ◌∷◌, ◌++◌, map, length, take, drop, set, get_or, Bool, true, false, not, ◌&&◌, ◌||◌, if◌then◌else◌, refl, sym, arith, ap, ◌∙◌, Some, None, is_some}
use Rattle.std.specs.declared.option.Option.{Option}
use Rattle.std.specs.List.{list_any, slice_get}
use Rattle.std.specs.Option.{option_map, option_map_or}
use Rattle.std.specs.Str.{bytes_eq}
use Rattle.std.proofs.lemmas.List.Folds.{list_any-append}
use Rattle.std.proofs.lemmas.List.Quantifiers.{position-Some}
use Rattle.std.proofs.lemmas.Option.{slice_get-get_or, slice_get_read}
use Rattle.sq_base.proofs.CommonLaws.{bytes_turned}
use Rattle.sq_rules.specs.Classes.{Class}
use Rattle.sq_rules.specs.Configurations.{have_distinct_names, have_own_names, is_named}
use Rattle.sq_rules.specs.AlikeClasses.{is_alike}
use Rattle.sq_machine.specs.KeptLists.{CachedReplies}
use Rattle.sq_class.specs.Parts.{PartState}
use Rattle.sq_epochs.specs.EpochStates.{EpochState, class_cache, new_part, part_limit}
use Rattle.sq_epochs.specs.Reconfigured.{alike_in, begun_part, emptied, kept_alike, kept_in, left_epoch, left_part, left_parts}
use Rattle.sq_epochs.proofs.OutcomeLaws.{limit_there}
use Rattle.sq_epochs.proofs.PartLaws.{len_map}
use Rattle.sq_epochs.proofs.AlikeLaws.{alike_cache, alike_name, alike_turned, not_alike, position_cons, some_position}

abbrev class_name : Class → List ℕ
class_name c = c.name

-- one of the classes is alike to this one
abbrev has_alike : List Class → Class → Bool
has_alike cs k = list_any (λ c. is_alike c k) cs

none_alike : (cs : List Class) (k : Class) → is_named class_name cs k.name ≡ false → has_alike cs k ≡ false
none_alike [] k e = refl
none_alike (c ∷ cs) k e = by_test (bytes_eq c.name k.name) refl e (none_alike cs k)
  where
    by_test : (t : Bool) → bytes_eq c.name k.name ≡ t → (t || is_named class_name cs k.name) ≡ false
        → (is_named class_name cs k.name ≡ false → has_alike cs k ≡ false) → (is_alike c k || has_alike cs k) ≡ false
    by_test true q f more = absurd cc
    by_test false q f more = ap (λ z. z || has_alike cs k) (not_alike c k q) ∙ more f

-- a part after these classes began, by whether one of them is alike
left_by : (cs : List Class) (k : Class) (p : PartState) → left_part cs k p ≡ (if has_alike cs k then emptied p else p)
left_by cs k p = ap (λ z. if z then emptied p else p) (some_position (λ c. is_alike c k) cs)

-- what is kept of the first class that is alike to k
abbrev kept_by : Class → List Class → List PartState → CachedReplies
kept_by k [] ps = []
kept_by k (c ∷ cs) [] = []
kept_by k (c ∷ cs) (p ∷ ps) = if is_alike c k then p.row.kept else kept_by k cs ps

none_kept : (o : Option ℕ) → option_map_or (kept_in []) o [] ≡ []
none_kept None = refl
none_kept (Some i) = refl

kept_is : (k : Class) (cs : List Class) (ps : List PartState)
    → option_map_or (kept_in ps) (alike_in cs k) [] ≡ kept_by k cs ps
kept_is k [] ps = refl
kept_is k (c ∷ cs) [] = none_kept (alike_in (c ∷ cs) k)
kept_is k (c ∷ cs) (p ∷ ps) =
    ap (λ o. option_map_or (kept_in (p ∷ ps)) o []) (position_cons (λ c. is_alike c k) c cs)
    ∙ by_test (is_alike c k) (alike_in cs k) (kept_is k cs ps)
  where
    by_test : (t : Bool) (o : Option ℕ) → option_map_or (kept_in ps) o [] ≡ kept_by k cs ps
        → option_map_or (kept_in (p ∷ ps)) (if t then Some 0 else option_map suc o) []
        ≡ (if t then p.row.kept else kept_by k cs ps)
    by_test true o e = refl
    by_test false None e = e
    by_test false (Some i) e = e

-- what is kept of the class that is alike to k is as before, where the classes that began have other names
kept_after : (k : Class) (begun cs : List Class) (ps : List PartState) → is_named class_name begun k.name ≡ false
    → kept_by k cs (left_parts begun cs ps) ≡ kept_by k cs ps
kept_after k begun [] ps none = refl
kept_after k begun (c ∷ cs) [] none = refl
kept_after k begun (c ∷ cs) (p ∷ ps) none = by_test (is_alike c k) refl (kept_after k begun cs ps none)
  where
    other : (xs : List Class) → c.name ≡ k.name → is_named class_name xs k.name ≡ false
        → is_named class_name xs c.name ≡ false
    other xs e f = ap (is_named class_name xs) e ∙ f

    by_test : (t : Bool) → is_alike c k ≡ t → kept_by k cs (left_parts begun cs ps) ≡ kept_by k cs ps
        → (if t then (left_part begun c p).row.kept else kept_by k cs (left_parts begun cs ps))
        ≡ (if t then p.row.kept else kept_by k cs ps)
    by_test true e more = ap (λ z. z.row.kept) (left_by begun c p)
        ∙ ap (λ z. (if z then emptied p else p).row.kept) (none_alike begun c (other begun (alike_name c k e) none))
    by_test false e more = more

-- the same of an epoch
pub kept_left : (k : Class) (begun : List Class) (x : EpochState) → is_named class_name begun k.name ≡ false
    → kept_alike (left_epoch begun x) k ≡ kept_alike x k
kept_left k begun x none =
    kept_is k x.config.classes (left_parts begun x.config.classes x.parts)
    ∙ kept_after k begun x.config.classes x.parts none ∙ sym (kept_is k x.config.classes x.parts)

-- classes that began one after another are classes that began
one_left : (begun : List Class) (k c : Class) (p : PartState)
    → left_part (k ∷ []) c (left_part begun c p) ≡ left_part (begun ++ k ∷ []) c p
one_left begun k c p =
    left_by (k ∷ []) c (left_part begun c p)
    ∙ ap (λ z. if is_alike k c || false then emptied z else z) (left_by begun c p)
    ∙ by_test (has_alike begun c) (is_alike k c)
    ∙ ap (λ z. if z then emptied p else p) (sym (list_any-append (λ a. is_alike a c) begun (k ∷ [])))
    ∙ sym (left_by (begun ++ k ∷ []) c p)
  where
    by_test : (s t : Bool)
        → (if t || false then emptied (if s then emptied p else p) else (if s then emptied p else p))
        ≡ (if s || (t || false) then emptied p else p)
    by_test true true = refl
    by_test true false = refl
    by_test false true = refl
    by_test false false = refl

parts_left : (begun : List Class) (k : Class) (cs : List Class) (ps : List PartState)
    → left_parts (k ∷ []) cs (left_parts begun cs ps) ≡ left_parts (begun ++ k ∷ []) cs ps
parts_left begun k [] ps = refl
parts_left begun k (c ∷ cs) [] = refl
parts_left begun k (c ∷ cs) (p ∷ ps) = cc (one_left begun k c p, parts_left begun k cs ps)

pub left_again : (begun : List Class) (k : Class) (x : EpochState)
    → left_epoch (k ∷ []) (left_epoch begun x) ≡ left_epoch (begun ++ k ∷ []) x
left_again begun k x = ap (λ z. record x { parts = z }) (parts_left begun k x.config.classes x.parts)

-- where no class began, parts are as they were
nothing_left : (cs : List Class) (ps : List PartState) → left_parts [] cs ps ≡ ps
nothing_left [] ps = refl
nothing_left (c ∷ cs) [] = refl
nothing_left (c ∷ cs) (p ∷ ps) = ap (λ z. p ∷ z) (nothing_left cs ps)

pub left_none : (x : EpochState) → left_epoch [] x ≡ x
left_none x = ap (λ z. record x { parts = z }) (nothing_left x.config.classes x.parts)

-- parts of classes with other names than the one that began are as they were
others_left : (k : Class) (cs : List Class) (ps : List PartState) → is_named class_name cs k.name ≡ false
    → left_parts (k ∷ []) cs ps ≡ ps
others_left k [] ps e = refl
others_left k (c ∷ cs) [] e = refl
others_left k (c ∷ cs) (p ∷ ps) e = by_test (bytes_eq c.name k.name) refl e (others_left k cs ps)
  where
    by_test : (t : Bool) → bytes_eq c.name k.name ≡ t → (t || is_named class_name cs k.name) ≡ false
        → (is_named class_name cs k.name ≡ false → left_parts (k ∷ []) cs ps ≡ ps)
        → left_part (k ∷ []) c p ∷ left_parts (k ∷ []) cs ps ≡ p ∷ ps
    by_test true q f more = absurd cc
    by_test false q f more =
        let here : left_part (k ∷ []) c p ≡ p = left_by (k ∷ []) c p
        ∙ ap (λ z. if z || false then emptied p else p) (alike_turned k c ∙ not_alike c k q) in
        cc (here, more f)

unlike : (k : Class) (cs : List Class) (ps : List PartState) → has_alike cs k ≡ false → left_parts (k ∷ []) cs ps ≡ ps
unlike k [] ps f = refl
unlike k (c ∷ cs) [] f = refl
unlike k (c ∷ cs) (p ∷ ps) f = by_test (is_alike c k) refl f (unlike k cs ps)
  where
    by_test : (t : Bool) → is_alike c k ≡ t → (t || has_alike cs k) ≡ false
        → (has_alike cs k ≡ false → left_parts (k ∷ []) cs ps ≡ ps)
        → left_part (k ∷ []) c p ∷ left_parts (k ∷ []) cs ps ≡ p ∷ ps
    by_test true q g more = absurd cc
    by_test false q g more =
        let here : left_part (k ∷ []) c p ≡ p = left_by (k ∷ []) c p
        ∙ ap (λ z. if z || false then emptied p else p) (alike_turned k c ∙ q) in
        cc (here, more g)

-- no class is alike, so parts are as they were
pub none_left : (k : Class) (cs : List Class) (ps : List PartState) → alike_in cs k ≡ None
    → left_parts (k ∷ []) cs ps ≡ ps
none_left k cs ps e = unlike k cs ps (sym (some_position (λ c. is_alike c k) cs) ∙ ap is_some e)

own_first : (n o : Bool) → (not n && o) ≡ true → n ≡ false
own_first true o e = absurd cc
own_first false o e = refl

own_rest : (n o : Bool) → (not n && o) ≡ true → o ≡ true
own_rest true o e = absurd cc
own_rest false o e = e

-- the part at the place of the class that is alike is emptied
pub one_handed : (k : Class) (cs : List Class) (ps : List PartState) (i : ℕ) (p : PartState)
    → have_distinct_names cs ≡ true → alike_in cs k ≡ Some i
    → slice_get ps i ≡ Some p → set ps i (emptied p) ≡ left_parts (k ∷ []) cs ps
one_handed k [] ps i p own at there = absurd cc
one_handed k (c ∷ cs) [] i p own at there = absurd cc
one_handed k (c ∷ cs) (q ∷ ps) i p own at there =
    by_test (is_alike c k) refl (sym (position_cons (λ c. is_alike c k) c cs) ∙ at)
    (λ j e f. one_handed k cs ps j p (own_rest (is_named class_name cs c.name) (have_own_names class_name cs) own) e f)
  where
    later : (o : Option ℕ) (j : ℕ) → alike_in cs k ≡ o → option_map suc o ≡ Some j → slice_get (q ∷ ps) j ≡ Some p
        → left_part (k ∷ []) c q ≡ q
        → ((j : ℕ) → alike_in cs k ≡ Some j → slice_get ps j ≡ Some p
        → set ps j (emptied p) ≡ left_parts (k ∷ []) cs ps)
        → set (q ∷ ps) j (emptied p) ≡ left_part (k ∷ []) c q ∷ left_parts (k ∷ []) cs ps
    later None j e f g h more = absurd cc
    later (Some n) zero e f g h more = absurd (not_first n f)
      where
        not_first : (n : ℕ) → Some (suc n) ≡ Some 0 → ⊥
        not_first n e = grind (arith, e)
    later (Some n) (suc j) e f g h more =
        let same : n ≡ j = grind (arith, f) in
        let rest = more j (e ∙ ap (λ z. Some z) same) g in
        cc (h, rest)

    first : (j : ℕ) → Some 0 ≡ Some j → slice_get (q ∷ ps) j ≡ Some p → is_alike c k ≡ true
        → set (q ∷ ps) j (emptied p) ≡ left_part (k ∷ []) c q ∷ left_parts (k ∷ []) cs ps
    first zero f g e =
        let here : left_part (k ∷ []) c q ≡ emptied q = left_by (k ∷ []) c q
        ∙ ap (λ z. if z || false then emptied q else q) (alike_turned k c ∙ e) in
        let same : q ≡ p = cc in
        let rest : left_parts (k ∷ []) cs ps ≡ ps =
        others_left k cs ps (sym (ap (is_named class_name cs) (alike_name c k e))
        ∙ own_first (is_named class_name cs c.name) (have_own_names class_name cs) own) in
        let made : emptied q ≡ emptied p = ap emptied same in
        cc (here, rest, made)
    first (suc j) f g e = absurd (not_later j f)
      where
        not_later : (j : ℕ) → Some 0 ≡ Some (suc j) → ⊥
        not_later j e = grind (arith, e)

    by_test : (t : Bool) → is_alike c k ≡ t → (if t then Some 0 else option_map suc (alike_in cs k)) ≡ Some i
        → ((j : ℕ) → alike_in cs k ≡ Some j → slice_get ps j ≡ Some p
        → set ps j (emptied p) ≡ left_parts (k ∷ []) cs ps)
        → set (q ∷ ps) i (emptied p) ≡ left_part (k ∷ []) c q ∷ left_parts (k ∷ []) cs ps
    by_test true e f more = first i f there e
    by_test false e f more =
        later (alike_in cs k) i refl f there
        (left_by (k ∷ []) c q ∙ ap (λ z. if z || false then emptied q else q) (alike_turned k c ∙ e)) more

-- limits are as before
pub limits_left : (begun cs : List Class) (ps : List PartState)
    → map part_limit (left_parts begun cs ps) ≡ map part_limit ps
limits_left begun [] ps = refl
limits_left begun (c ∷ cs) [] = refl
limits_left begun (c ∷ cs) (p ∷ ps) = cc (limit_left, limits_left begun cs ps)
  where
    by_test : (t : Bool) → (if t then emptied p else p).limit ≡ p.limit
    by_test true = refl
    by_test false = refl

    limit_left : (left_part begun c p).limit ≡ p.limit
    limit_left = by_test (is_some (alike_in begun c))

next : (j : ℕ) → suc j ≡ j + 1
next j = omega arith

written_suc : {C P : Type 0} (f g : C → P) (cs : List C) (i : ℕ) (c : C) → i < length cs → c ≡ get_or cs i c
    → set (map g (take i cs) ++ drop i (map f cs)) i (g c) ≡ map g (take (suc i) cs) ++ drop (suc i) (map f cs)
written_suc f g [] i c l e = absurd (omega arith)
written_suc f g (d ∷ ds) zero c l e = ap (λ z. g z ∷ map f ds) e
written_suc f g (d ∷ ds) (suc i) c l e = ap (λ z. g d ∷ z) (written_suc f g ds i c (omega arith) e)

-- a step of a loop that writes g c in the place of f c for each c in turn
pub written : {C P : Type 0} (f g : C → P) (cs : List C) (i : ℕ) (c : C) → i < length cs → c ≡ get_or cs i c
    → set (map g (take i cs) ++ drop i (map f cs)) i (g c) ≡ map g (take (i + 1) cs) ++ drop (i + 1) (map f cs)
written f g cs i c l e = written_suc f g cs i c l e ∙ ap (λ j. map g (take j cs) ++ drop j (map f cs)) (next i)

-- what it finds there
pub unwritten : {C P : Type 0} (f g : C → P) (cs : List C) (i : ℕ) (c : C) (d : P) → i < length cs → c ≡ get_or cs i c
    → get_or (map g (take i cs) ++ drop i (map f cs)) i d ≡ f c
unwritten f g [] i c d l e = absurd (omega arith)
unwritten f g (b ∷ cs) zero c d l e = ap f (sym e)
unwritten f g (b ∷ cs) (suc i) c d l e = unwritten f g cs i c d (omega arith) e

-- the lists of both have one length
pub long_written : {C P : Type 0} (f g : C → P) (cs : List C) (i : ℕ)
    → length (map g (take i cs) ++ drop i (map f cs)) ≡ length cs
long_written f g [] zero = refl
long_written f g [] (suc i) = refl
long_written f g (c ∷ cs) zero = ap suc (long_map f cs)
  where
    long_map : {C P : Type 0} (f : C → P) (cs : List C) → length (map f cs) ≡ length cs
    long_map f [] = refl
    long_map f (c ∷ cs) = ap suc (long_map f cs)
long_written f g (c ∷ cs) (suc i) = ap suc (long_written f g cs i)

named_take : (cs : List Class) (i : ℕ) (c : Class) → have_distinct_names cs ≡ true → i < length cs → c ≡ get_or cs i c
    → is_named class_name (take i cs) c.name ≡ false
named_take [] i c own l e = absurd (omega arith)
named_take (d ∷ cs) zero c own l e = refl
named_take (d ∷ cs) (suc i) c own l e =
    ap (λ z. z || is_named class_name (take i cs) c.name)
    (other_name (own_first (is_named class_name cs d.name) (have_own_names class_name cs) own))
    ∙ named_take cs i c (own_rest (is_named class_name cs d.name) (have_own_names class_name cs) own) (omega arith) e
  where
    not_at : (cs : List Class) (i : ℕ) → is_named class_name cs d.name ≡ false → i < length cs → c ≡ get_or cs i c
        → bytes_eq c.name d.name ≡ false
    not_at [] i f l e = absurd (omega arith)
    not_at (b ∷ cs) zero f l e = ap (λ z. bytes_eq z.name d.name) e
        ∙ first_of (bytes_eq b.name d.name) (is_named class_name cs d.name) f
      where
        first_of : (s t : Bool) → (s || t) ≡ false → s ≡ false
        first_of true t e = e
        first_of false t e = refl
    not_at (b ∷ cs) (suc i) f l e = not_at cs i (rest_of (bytes_eq b.name d.name) (is_named class_name cs d.name) f)
        (omega arith) e
      where
        rest_of : (s t : Bool) → (s || t) ≡ false → t ≡ false
        rest_of true t e = absurd cc
        rest_of false t e = e

    other_name : is_named class_name cs d.name ≡ false → bytes_eq d.name c.name ≡ false
    other_name f = bytes_turned d.name c.name ∙ not_at cs i f (omega arith) e

-- a class that begins takes what was kept before any began, where each has its own name
pub kept_still : (cs : List Class) (i : ℕ) (c : Class) (x : EpochState) → have_distinct_names cs ≡ true → i < length cs
    → c ≡ get_or cs i c → kept_alike (left_epoch (take i cs) x) c ≡ kept_alike x c
kept_still cs i c x own l e = kept_left c (take i cs) x (named_take cs i c own l e)

take_suc : {C : Type 0} (cs : List C) (i : ℕ) (c : C) → i < length cs → c ≡ get_or cs i c
    → take i cs ++ c ∷ [] ≡ take (suc i) cs
take_suc [] i c l e = absurd (omega arith)
take_suc (d ∷ ds) zero c l e = ap (λ z. z ∷ []) e
take_suc (d ∷ ds) (suc i) c l e = ap (λ z. d ∷ z) (take_suc ds i c (omega arith) e)

-- a list of those before a place and the one there
pub take_one : {C : Type 0} (cs : List C) (i : ℕ) (c : C) → i < length cs → c ≡ get_or cs i c
    → take i cs ++ c ∷ [] ≡ take (i + 1) cs
take_one cs i c l e = take_suc cs i c l e ∙ ap (λ j. take j cs) (next i)

-- the part of the class that is alike keeps as many verdicts
pub alike_limit : (cs : List Class) (ps : List PartState) (k : Class) (i : ℕ) (p : PartState)
    → map part_limit ps ≡ map class_cache cs → alike_in cs k ≡ Some i → p ≡ get_or ps i p → p.limit ≡ k.cache
alike_limit cs ps k i p are at is =
    let here = position-Some (λ c. is_alike c k) cs i k at in
    let l : i < length cs = here.0 in
    let a = len_map part_limit ps in
    let b = len_map class_cache cs in
    let e = ap length are in
    let l' : i < length ps = omega arith in
    limit_there cs ps i (get_or cs i k) p are (slice_get-get_or cs i k l) (slice_get_read ps (length ps) i p refl l' is)
    ∙ alike_cache (get_or cs i k) k here.1

-- the part of that class stands there
pub alike_part : (cs : List Class) (ps : List PartState) (k : Class) (i : ℕ) (p : PartState)
    → map part_limit ps ≡ map class_cache cs → alike_in cs k ≡ Some i → p ≡ get_or ps i p → slice_get ps i ≡ Some p
alike_part cs ps k i p are at is =
    let here = position-Some (λ c. is_alike c k) cs i k at in
    let l : i < length cs = here.0 in
    let a = len_map part_limit ps in
    let b = len_map class_cache cs in
    let e = ap length are in
    let l' : i < length ps = omega arith in
    slice_get_read ps (length ps) i p refl l' is

-- no class of the epoch is alike, so it is as it was
pub unhanded : (v w : EpochState) (cs : List Class) (k : Class) → v ≡ w → cs ≡ v.config.classes → alike_in cs k ≡ None
    → w ≡ left_epoch (k ∷ []) w
unhanded v w cs k same are at =
    sym (ap (λ z. record w { parts = z })
    (none_left k w.config.classes w.parts (sym (ap (λ z. alike_in z k) (are ∙ ap (λ z. z.config.classes) same)) ∙ at)))

-- what is kept of the class that is alike
pub kept_here : (v w : EpochState) (cs : List Class) (k : Class) (i : ℕ) (p : PartState) → v ≡ w → cs ≡ v.config.classes
    → alike_in cs k ≡ Some i → slice_get v.parts i ≡ Some p → p.row.kept ≡ kept_alike w k
kept_here v w cs k i p same are at there =
    sym (ap (λ z. kept_alike z k) (sym same)
    ∙ ap (λ o. option_map_or (kept_in v.parts) o []) (sym (ap (λ z. alike_in z k) are) ∙ at)
    ∙ ap (λ o. option_map_or (λ y. y.row.kept) o []) there)

-- the class that is alike handed on what was kept of it
pub handed_epoch : (v w : EpochState) (cs : List Class) (k : Class) (i : ℕ) (p q : PartState) → v ≡ w
    → cs ≡ v.config.classes → have_distinct_names v.config.classes ≡ true → alike_in cs k ≡ Some i
    → slice_get v.parts i ≡ Some p → q ≡ emptied p → record v { parts = set v.parts i q } ≡ left_epoch (k ∷ []) w
handed_epoch v w cs k i p q same are own at there emptied_is =
    ap (λ z. record v { parts = set v.parts i z }) emptied_is
    ∙ ap (λ z. record v { parts = z })
    (one_handed k v.config.classes v.parts i p own (sym (ap (λ z. alike_in z k) are) ∙ at) there)
    ∙ ap (left_epoch (k ∷ [])) same

-- a part of which this is kept
abbrev with_kept : CachedReplies → PartState → PartState
with_kept kept p = record p { row = record p.row { kept = kept } }

-- one class more has what was kept
pub one_begun : (cs : List Class) (x before : EpochState) (parts : List PartState) (i : ℕ) (k : Class) (p q : PartState)
    → have_distinct_names cs ≡ true → i < length cs → k ≡ get_or cs i k
    → parts ≡ map (begun_part (kept_alike x)) (take i cs) ++ drop i (map new_part cs)
    → before ≡ left_epoch (take i cs) x → p ≡ get_or parts i p
    → q ≡ with_kept (kept_alike before k) p
    → set parts i q ≡ map (begun_part (kept_alike x)) (take (i + 1) cs) ++ drop (i + 1) (map new_part cs)
one_begun cs x before parts i k p q own l at parts_are before_is there q_is =
    let p_is : p ≡ new_part k = there ∙ ap (λ z. get_or z i p) parts_are
    ∙ unwritten new_part (begun_part (kept_alike x)) cs i k p l at in
    let kept_is : kept_alike before k ≡ kept_alike x k = ap (λ z. kept_alike z k) before_is ∙ kept_still cs i k x own l
    at in
    let made : q ≡ begun_part (kept_alike x) k = q_is ∙ ap (λ (z : PartState). with_kept (kept_alike before k) z) p_is
    ∙ ap (λ z. begun_part (λ c. z) k) kept_is in
    ap (λ (z : PartState). set parts i z) made ∙ ap (λ z. set z i (begun_part (kept_alike x) k)) parts_are
    ∙ written new_part (begun_part (kept_alike x)) cs i k l at

-- and the epoch before is without it
pub one_gone : (cs : List Class) (x before after : EpochState) (i : ℕ) (k : Class) → i < length cs → k ≡ get_or cs i k
    → before ≡ left_epoch (take i cs) x → after ≡ left_epoch (k ∷ []) before
    → after ≡ left_epoch (take (i + 1) cs) x
one_gone cs x before after i k l at before_is after_is =
    after_is ∙ ap (left_epoch (k ∷ [])) before_is ∙ left_again (take i cs) k x
    ∙ ap (λ z. left_epoch z x) (take_one cs i k l at)

-- classes that begin keep as many verdicts as they may
pub limits_begun : (before : Class → CachedReplies) (cs classes : List Class) (parts : List PartState)
    → parts ≡ map (begun_part before) cs → cs ≡ classes → map part_limit parts ≡ map class_cache classes
limits_begun before cs classes parts are same = ap (map part_limit) are ∙ limits cs ∙ ap (map class_cache) same
  where
    limits : (ks : List Class) → map part_limit (map (begun_part before) ks) ≡ map class_cache ks
    limits [] = refl
    limits (k ∷ ks) = ap (λ z. k.cache ∷ z) (limits ks)
