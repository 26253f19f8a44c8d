-- External acls have slots of their own, and a value that is given stands in one of them alone.
use Rattle.std.proofs.Common.{◌≡◌, ◌≢◌, ℕ, ◌+◌, ◌<◌, ◌≤◌, zero, suc, List, [], ◌∷◌, length, set, replicate, slice_get, slice_index_or, Bool, true, false, true≢false, ◌==◌, if◌then◌else◌, nat_lt, Option, Some, None, refl, sym, ap, ◌∙◌, arith}
use Rattle.std.proofs.lemmas.Bool.Decides.{nat_tests}
use Rattle.std.proofs.lemmas.List.{get_or-set_other, get_or-set_same}
use Rattle.std.proofs.lemmas.Option.{get_or_from_slice_get}
use Rattle.sq_rules.specs.declared.configs.Acl.{Acl}
use Rattle.sq_rules.specs.declared.configs.Body.{Body}
use Rattle.sq_rules.specs.declared.configs.Body.TheVariants as body
use Rattle.sq_rules.specs.declared.values.TermValue.{TermValue}
use Rattle.sq_checks.proofs.FrameStepLaws.{external_taken}
use Rattle.sq_checks.specs.Courses.{Extends, is_need}
use Rattle.sq_checks.specs.GivenValues.{given_at, given_value, in_slot, left_in, taken_given, taken_of_acl, taken_of_body}
use Rattle.sq_checks.specs.Slots.{external_of, externals_on, is_external, is_external_at, slots_of, slots_on}
use Rattle.sq_checks.specs.declared.answers.Given.{Given}

count_rises : (b : Bool) (count : ℕ) → count ≤ (if b then count + 1 else count)
count_rises true count = omega arith
count_rises false count = omega arith

externals_rise : (count : ℕ) (acls : List Acl) → count ≤ externals_on count acls
externals_rise count [] = omega arith
externals_rise count (a ∷ acls) =
    let one : count ≤ (if is_external a.body then count + 1 else count) = count_rises (is_external a.body) count in
    let rest : (if is_external a.body then count + 1 else count)
    ≤ externals_on (if is_external a.body then count + 1 else count) acls =
    externals_rise (if is_external a.body then count + 1 else count) acls in
    omega (arith, one, rest)

-- an external acl has a slot, which is one of so many
slot_on : (count : ℕ) (acls : List Acl) (acl : ℕ) → is_external_at acls acl ≡ true
    → (s : ℕ) × (slice_get (slots_on count acls) acl ≡ Some s) × (count ≤ s) × (s < externals_on count acls)
slot_on count [] acl e = absurd (cc)
slot_on count (a ∷ acls) zero e =
    let more : (if is_external a.body then count + 1 else count) ≡ count + 1 = rw e refl in
    let rest : (if is_external a.body then count + 1 else count)
    ≤ externals_on (if is_external a.body then count + 1 else count) acls =
    externals_rise (if is_external a.body then count + 1 else count) acls in
    (count, refl, omega arith, omega (arith, more, rest))
slot_on count (a ∷ acls) (suc acl) e =
    let one : count ≤ (if is_external a.body then count + 1 else count) = count_rises (is_external a.body) count in
    let at = slot_on (if is_external a.body then count + 1 else count) acls acl e in
    let least : (if is_external a.body then count + 1 else count) ≤ at.0 = at.2 in
    (at.0, at.1, omega (arith, one, least), at.3)

pub slot_there : (acls : List Acl) (acl : ℕ) → is_external_at acls acl ≡ true
    → (s : ℕ) × (slice_get (slots_of acls) acl ≡ Some s) × (s < externals_on 0 acls)
slot_there acls acl e = let at = slot_on 0 acls acl e in (at.0, at.1, at.3)

-- slots rise
slots_rise : (count : ℕ) (acls : List Acl) (p q s t : ℕ) → p < q → is_external_at acls p ≡ true
    → is_external_at acls q ≡ true → slice_get (slots_on count acls) p ≡ Some s
    → slice_get (slots_on count acls) q ≡ Some t → s < t
slots_rise count [] p q s t less e f is at = absurd (cc)
slots_rise count (a ∷ acls) p zero s t less e f is at = absurd (omega arith)
slots_rise count (a ∷ acls) zero (suc q) s t less e f is at =
    let more : (if is_external a.body then count + 1 else count) ≡ count + 1 = rw e refl in
    let same : count ≡ s = cc in
    let there = slot_on (if is_external a.body then count + 1 else count) acls q f in
    let its : Some there.0 ≡ Some t = sym there.1 ∙ at in
    let one : there.0 ≡ t = cc in
    let least : (if is_external a.body then count + 1 else count) ≤ there.0 = there.2 in
    omega (arith, more, same, one, least)
slots_rise count (a ∷ acls) (suc p) (suc q) s t less e f is at =
    slots_rise (if is_external a.body then count + 1 else count) acls p q s t (omega arith) e f is at

-- two external acls have two slots
slots_differ : (acls : List Acl) (p q s t : ℕ) → (p == q) ≡ false → is_external_at acls p ≡ true
    → is_external_at acls q ≡ true → slice_get (slots_of acls) p ≡ Some s → slice_get (slots_of acls) q ≡ Some t → s ≢ t
slots_differ acls p q s t other e f is at = by (nat_lt p q) refl
  where
    by : (b : Bool) → nat_lt p q ≡ b → s ≢ t
    by true less =
        let before : p < q = grind (arith, nat_tests, less) in
        let one : s < t = slots_rise 0 acls p q s t before e f is at in
        omega (arith, one)
    by false least =
        let before : q < p = grind (arith, nat_tests, least, other) in
        let one : t < s = slots_rise 0 acls q p t s before f e at is in
        omega (arith, one)

-- a table in which one slot was set
set_here : (table : List (Option Given)) (slot : ℕ) (g : Option Given) → slot < length table
    → slice_index_or (set table slot g) slot None ≡ g
set_here table slot g within = get_or-set_same table slot g None within

set_other : (table : List (Option Given)) (slot other : ℕ) (g : Option Given) → other ≢ slot
    → slice_index_or (set table slot g) other None ≡ slice_index_or table other None
set_other table slot other g differ = get_or-set_other table slot other g None differ

same_of : (a b : ℕ) → (a == b) ≡ true → a ≡ b
same_of a b e = grind (arith, nat_tests, e)

-- a value that is given is that of its acl alone
pub given_after : (acls : List Acl) (table new : List (Option Given)) (need : ℕ) (v : Given) (acl : ℕ)
    → length table ≡ externals_on 0 acls → is_external_at acls need ≡ true
    → new ≡ set table (slice_index_or (slots_of acls) need 0) (Some v) → is_external_at acls acl ≡ true
    → given_at (slots_of acls) new acl ≡ (if acl == need then Some v else given_at (slots_of acls) table acl)
given_after acls table new need v acl counted e is f = by (acl == need) refl
  where
    slot : (s : ℕ) × (slice_get (slots_of acls) need ≡ Some s) × (s < externals_on 0 acls)
    slot = slot_there acls need e

    here : slice_index_or (slots_of acls) need 0 ≡ slot.0
    here = get_or_from_slice_get (slots_of acls) need slot.0 0 slot.1

    changed : new ≡ set table slot.0 (Some v)
    changed = is ∙ ap (λ k. set table k (Some v)) here

    by : (b : Bool) → (acl == need) ≡ b
        → given_at (slots_of acls) new acl ≡ (if b then Some v else given_at (slots_of acls) table acl)
    by true same =
        let within : slot.0 < length table = omega (arith, counted, slot.2) in
        ap (given_at (slots_of acls) new) (same_of acl need same) ∙ ap (in_slot new) slot.1
        ∙ ap (λ l. slice_index_or l slot.0 None) changed ∙ set_here table slot.0 (Some v) within
    by false other =
        let its = slot_there acls acl f in
        let differ : its.0 ≢ slot.0 = slots_differ acls acl need its.0 slot.0 other f e its.1 slot.1 in
        ap (in_slot new) its.1 ∙ ap (λ l. slice_index_or l its.0 None) changed
        ∙ set_other table slot.0 its.0 (Some v) differ ∙ sym (ap (in_slot table) its.1)

-- what is taken at a place hangs on what was given for its acl alone
taken_same : (facts : List Bool) (g h : Option Given) (acl : ℕ) (o : Option Acl) → (external_of o ≡ true → g ≡ h)
    → taken_of_acl facts g acl o ≡ taken_of_acl facts h acl o
taken_same facts g h acl None same = refl
taken_same facts g h acl (Some a) same = by_body a.body same
  where
    by_body : (b : Body) → (is_external b ≡ true → g ≡ h) → taken_of_body facts g acl b ≡ taken_of_body facts h acl b
    by_body (body.Leaf l) e = refl
    by_body (body.External class arguments) e = ap (given_value acl) (e refl)
    by_body (body.AnyOf terms) e = refl
    by_body (body.AllOf lines) e = refl

-- a value that is given for what was needed extends what is taken
pub extends_after : (acls : List Acl) (facts : List Bool) (table new : List (Option Given)) (need : ℕ) (v : Given)
    (more : ℕ → TermValue) → length table ≡ externals_on 0 acls
    → is_external_at acls need ≡ true → given_at (slots_of acls) table need ≡ None
    → new ≡ set table (slice_index_or (slots_of acls) need 0) (Some v)
    → Extends (taken_given acls (slots_of acls) facts new) more
    → Extends (taken_given acls (slots_of acls) facts table) more
extends_after acls facts table new need v more counted e none is extends acl known = by (acl == need) refl
  where
    old : ℕ → TermValue
    old = taken_given acls (slots_of acls) facts table

    now : ℕ → TermValue
    now = taken_given acls (slots_of acls) facts new

    by : (b : Bool) → (acl == need) ≡ b → more acl ≡ taken_given acls (slots_of acls) facts table acl
    by true same =
        let it : acl ≡ need = same_of acl need same in
        let needed : taken_given acls (slots_of acls) facts table need ≡ given_value need None =
        external_taken acls (slots_of acls) facts table need e ∙ ap (given_value need) none in
        let yes : is_need (taken_given acls (slots_of acls) facts table acl) ≡ true =
        ap (λ k. is_need (taken_given acls (slots_of acls) facts table k)) it ∙ ap is_need needed in
        absurd (true≢false (sym yes ∙ known))
    by false other =
        let kept : taken_given acls (slots_of acls) facts new acl ≡ taken_given acls (slots_of acls) facts table acl =
        taken_same facts (given_at (slots_of acls) new acl) (given_at (slots_of acls) table acl) acl
        (slice_get acls acl)
        (λ f. given_after acls table new need v acl counted e is f
        ∙ ap (λ b. if b then Some v else given_at (slots_of acls) table acl) other) in
        extends acl (ap is_need kept ∙ known) ∙ kept

abbrev nothing : Option Given
nothing = None

nothing_in : (n slot : ℕ) → slice_index_or (replicate n nothing) slot nothing ≡ nothing
nothing_in zero zero = refl
nothing_in zero (suc slot) = refl
nothing_in (suc n) zero = refl
nothing_in (suc n) (suc slot) = nothing_in n slot

-- where nothing was given yet
pub nothing_given : (slots : List ℕ) (n acl : ℕ) → given_at slots (replicate n None) acl ≡ None
nothing_given slots n acl = at (slice_get slots acl)
  where
    at : (o : Option ℕ) → in_slot (replicate n nothing) o ≡ nothing
    at None = refl
    at (Some slot) = nothing_in n slot

-- a value that is given leaves one slot less without one
left_set : (table : List (Option Given)) (slot : ℕ) (v : Given) → slot < length table
    → slice_index_or table slot None ≡ None → left_in table ≡ suc (left_in (set table slot (Some v)))
left_set [] slot v within none = absurd (omega (arith, within))
left_set (None ∷ table) zero v within none = refl
left_set (Some g ∷ table) zero v within none = absurd (cc)
left_set (None ∷ table) (suc slot) v within none = ap suc (left_set table slot v (omega (arith, within)) none)
left_set (Some g ∷ table) (suc slot) v within none = left_set table slot v (omega (arith, within)) none

pub left_after : (acls : List Acl) (table new : List (Option Given)) (need : ℕ) (v : Given)
    → length table ≡ externals_on 0 acls → is_external_at acls need ≡ true
    → given_at (slots_of acls) table need ≡ None → new ≡ set table (slice_index_or (slots_of acls) need 0) (Some v)
    → left_in table ≡ suc (left_in new)
left_after acls table new need v counted e none is =
    let slot = slot_there acls need e in
    let here : slice_index_or (slots_of acls) need 0 ≡ slot.0 =
    get_or_from_slice_get (slots_of acls) need slot.0 0 slot.1 in
    let free : slice_index_or table slot.0 None ≡ None = sym (ap (in_slot table) slot.1) ∙ none in
    let within : slot.0 < length table = omega (arith, counted, slot.2) in
    left_set table slot.0 v within free ∙ ap (λ l. suc (left_in l)) (sym (is ∙ ap (λ k. set table k (Some v)) here))
