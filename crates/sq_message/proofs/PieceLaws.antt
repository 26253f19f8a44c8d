-- A body that is fed in pieces is the body that is fed whole.
use Rattle.std.proofs.Common.{◌≡◌, ℕ, Bool, true, false, if◌then◌else◌, List, [], ◌∷◌, ◌++◌, append-nil, refl, sym, ap, ◌∙◌}
use Rattle.sq_message.specs.declared.body_state.BodyState.{BodyState}
use Rattle.sq_message.specs.declared.body_state.BodyState.TheVariants.{Refused}
use Rattle.sq_base.specs.declared.plans.BodyPlan.{BodyPlan}
use Rattle.sq_message.specs.Feeding.{Feeds, Spoils, Follows, Joins, JoinsBad}
use Rattle.sq_message.specs.Bodies.{start, step, is_whole_body, is_refused, Walk, after, halted, walk}
use Rattle.sq_message.proofs.BodyLaws.{after_after, walk_one, walk_done, walk_refused}
use Rattle.sq_message.proofs.TakeLaws.{refused_is}

-- what more bytes make of a walk: they are left where the body was complete, and go on otherwise
pub further : Bool → Walk → List ℕ → Walk
further c w ys = if is_whole_body w.place then record { place = w.place; out = w.out; rest = w.rest ++ ys }
    else after w.out (walk c w.place ys)

further_after : (c : Bool) (g ys : List ℕ) (w : Walk) → further c (after g w) ys ≡ after g (further c w ys)
unfolding further
further_after c g ys w = by (is_whole_body w.place)
  where
    by : (t : Bool) →
        (if t then record { place = w.place; out = g ++ w.out; rest = w.rest ++ ys }
        else after (g ++ w.out) (walk c w.place ys))
        ≡ after g (if t then record { place = w.place; out = w.out; rest = w.rest ++ ys }
        else after w.out (walk c w.place ys))
    by true = refl
    by false = sym (after_after g w.out (walk c w.place ys))

further_halted : (c : Bool) (p : BodyState) (xs ys : List ℕ) → is_whole_body p ≡ true
    → further c (halted p xs) ys ≡ halted p (xs ++ ys)
unfolding further
further_halted c p xs ys d = rw d refl

further_open : (c : Bool) (p : BodyState) (ys : List ℕ) → is_whole_body p ≡ false
    → further c (halted p []) ys ≡ walk c p ys
unfolding further
further_open c p ys d = rw d refl

further_refused : (c : Bool) (ys : List ℕ) → further c (halted Refused []) ys ≡ halted Refused []
unfolding further
further_refused c ys = walk_refused c ys

walk_by : (t u : Bool) (c : Bool) (p : BodyState) (b : ℕ) (bs ys : List ℕ) → is_whole_body p ≡ t → is_refused p ≡ u
    → ((q : BodyState) → walk c q (bs ++ ys) ≡ further c (walk c q bs) ys)
    → walk c p (b ∷ bs ++ ys) ≡ further c (walk c p (b ∷ bs)) ys
walk_by true u c p b bs ys d r more =
    walk_done c p (b ∷ bs ++ ys) d ∙ sym (further_halted c p (b ∷ bs) ys d)
    ∙ ap (λ w. further c w ys) (sym (walk_done c p (b ∷ bs) d))
walk_by false true c p b bs ys d r more =
    let is = refused_is p r in
    ap (λ q. walk c q (b ∷ bs ++ ys)) is ∙ walk_refused c (b ∷ bs ++ ys) ∙ sym (further_refused c ys)
    ∙ ap (λ w. further c w ys) (sym (walk_refused c (b ∷ bs))) ∙ ap (λ q. further c (walk c q (b ∷ bs)) ys) (sym is)
walk_by false false c p b bs ys d r more =
    walk_one c p b (bs ++ ys) d r
    ∙ ap (after (step c p b).out) (more (step c p b).place)
    ∙ sym (further_after c (step c p b).out ys (walk c (step c p b).place bs))
    ∙ ap (λ w. further c w ys) (sym (walk_one c p b bs d r))

none_by : (t : Bool) (c : Bool) (p : BodyState) (ys : List ℕ) → is_whole_body p ≡ t
    → walk c p ys ≡ further c (walk c p []) ys
unfolding walk
none_by true c p ys d = walk_done c p ys d ∙ sym (further_halted c p [] ys d)
none_by false c p ys d = sym (further_open c p ys d)

-- feeding pieces one after the other is feeding the whole
pub walk_append : (c : Bool) (p : BodyState) (xs ys : List ℕ) → walk c p (xs ++ ys) ≡ further c (walk c p xs) ys
walk_append c p [] ys = none_by (is_whole_body p) c p ys refl
walk_append c p (b ∷ bs) ys = walk_by (is_whole_body p) (is_refused p) c p b bs ys refl refl
    (λ q. walk_append c q bs ys)

-- where the body is complete, what follows is left
pub walk_whole : (c : Bool) (p q : BodyState) (xs ys g r : List ℕ)
    → walk c p xs ≡ record { place = q; out = g; rest = r } → is_whole_body q ≡ true
    → walk c p (xs ++ ys) ≡ record { place = q; out = g; rest = r ++ ys }
unfolding further
walk_whole c p q xs ys g r e d = walk_append c p xs ys ∙ ap (λ w. further c w ys) e ∙ rw d refl

-- where it is not, what follows goes on
pub walk_part : (c : Bool) (p q : BodyState) (xs ys g r : List ℕ)
    → walk c p xs ≡ record { place = q; out = g; rest = r } → is_whole_body q ≡ false
    → walk c p (xs ++ ys) ≡ after g (walk c q ys)
unfolding further
walk_part c p q xs ys g r e d = walk_append c p xs ys ∙ ap (λ w. further c w ys) e ∙ rw d refl

-- nothing is left of bytes with which a body is not complete
pub NoRest : Walk → Type 0
NoRest w = is_whole_body w.place ≡ false → w.rest ≡ []

no_rest_by : (t u : Bool) (c : Bool) (p : BodyState) (b : ℕ) (bs : List ℕ) → is_whole_body p ≡ t → is_refused p ≡ u
    → ((q : BodyState) → is_whole_body (walk c q bs).place ≡ false → (walk c q bs).rest ≡ [])
    → is_whole_body (walk c p (b ∷ bs)).place ≡ false → (walk c p (b ∷ bs)).rest ≡ []
no_rest_by true u c p b bs d r more h =
    let e : true ≡ false = sym (ap (λ w. is_whole_body (Walk.place w)) (walk_done c p (b ∷ bs) d) ∙ d) ∙ h in
    absurd cc
no_rest_by false true c p b bs d r more h = ap (λ q. Walk.rest (walk c q (b ∷ bs))) (refused_is p r)
    ∙ ap Walk.rest (walk_refused c (b ∷ bs))
no_rest_by false false c p b bs d r more h =
    let at = walk_one c p b bs d r in
    ap Walk.rest at ∙ more (step c p b).place (sym (ap (λ w. is_whole_body (Walk.place w)) at) ∙ h)

-- for the sum of used bytes: a body that goes on leaves none
pub walk_no_rest : (c : Bool) (p : BodyState) (xs : List ℕ) → is_whole_body (walk c p xs).place ≡ false
    → (walk c p xs).rest ≡ []
unfolding walk
walk_no_rest c p [] h = refl
walk_no_rest c p (b ∷ bs) h = no_rest_by (is_whole_body p) (is_refused p) c p b bs refl refl
    (λ q. walk_no_rest c q bs) h

grows_by : (t : Bool) (c : Bool) (w : Walk) (ys : List ℕ) → is_whole_body w.place ≡ t
    → (more : List ℕ) × ((further c w ys).out ≡ w.out ++ more)
unfolding further
grows_by true c w ys d = ([], rw d (sym (append-nil w.out)))
grows_by false c w ys d = ((walk c w.place ys).out, rw d refl)

-- what bytes give begins what they give with more
pub walk_grows : (c : Bool) (p : BodyState) (xs ys : List ℕ)
    → (more : List ℕ) × ((walk c p (xs ++ ys)).out ≡ (walk c p xs).out ++ more)
walk_grows c p xs ys = let g = grows_by (is_whole_body (walk c p xs).place) c (walk c p xs) ys refl in
    (g.0, ap Walk.out (walk_append c p xs ys) ∙ g.1)

-- what a piece adds to the bytes before it
pub joined : (plan : BodyPlan) (c : Bool) (before input : List ℕ) (p q : BodyState) (used : ℕ) (ended : Bool)
    (a b : List ℕ) → Follows plan c before p → Feeds c p input q used ended a b → Joins plan c before input q used a b
joined plan c before input p q used ended a b (at, going) f =
    let w = walk c (start plan) before in
    let is : w ≡ record { place = p; out = w.out; rest = w.rest } =
    ap (λ x. record { place = x; out = w.out; rest = w.rest }) at in
    record {
      grown = f.grown;
      wrote = f.wrote;
      whole = walk_part c (start plan) p before input w.out w.rest is going ∙ ap (after w.out) f.walks;
    }

-- the same where the bytes are refused
pub joined_bad : (plan : BodyPlan) (c : Bool) (before input : List ℕ) (p q : BodyState) (a b : List ℕ)
    → Follows plan c before p → Spoils c p input q a b → JoinsBad plan c before input a b
joined_bad plan c before input p q a b (at, going) f =
    let w = walk c (start plan) before in
    let is : w ≡ record { place = p; out = w.out; rest = w.rest } =
    ap (λ x. record { place = x; out = w.out; rest = w.rest }) at in
    record {
      grown = f.grown;
      wrote = f.wrote;
      whole = walk_part c (start plan) p before input w.out w.rest is going ∙ ap (after w.out) f.walks;
    }
