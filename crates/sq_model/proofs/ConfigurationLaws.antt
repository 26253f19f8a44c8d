-- Where each configuration is one: no two classes of an epoch have one name,
-- a key is needed of a class that is there, and a step says that a check is done only at a verdict.
use Rattle.std.proofs.Common.{◌≡◌, ℕ, zero, suc, List, [], ◌∷◌, Bool, true, false, not, ◌||◌, nat_lt, length, bytes_eq, slice_get, if◌then◌else◌, Option, Some, None, is_some, refl, sym, ap, subst, ◌∙◌, arith}
use Rattle.std.specs.List.{list_any}
use Rattle.std.specs.Option.{option_and_then, option_map_or}
use Rattle.std.proofs.lemmas.Bool.{and_parts, not-true}
use Rattle.std.proofs.lemmas.Bool.Decides.{nat_tests}
use Rattle.std.proofs.lemmas.Option.{none-some, same_Some}
use Rattle.sq_base.proofs.CommonLaws.{bytes_turned, then_some}
use Rattle.sq_base.specs.declared.helpers.Answer.{Answer}
use Rattle.sq_base.specs.declared.helpers.Cause.TheVariants as cause
use Rattle.sq_rules.specs.declared.configs.Acl.{Acl}
use Rattle.sq_rules.specs.declared.configs.Body.{Body}
use Rattle.sq_rules.specs.declared.configs.Body.TheVariants as body
use Rattle.sq_machine.specs.declared.entries.Told.{Told}
use Rattle.sq_machine.specs.declared.entries.Told.TheVariants as told
use Rattle.sq_machine.specs.declared.kept.CachedReply.{CachedReply}
use Rattle.sq_rules.specs.declared.outcomes.Outcome.{Outcome}
use Rattle.sq_rules.specs.declared.outcomes.Why.TheVariants as why
use Rattle.sq_rules.specs.declared.values.Value.{Value}
use Rattle.sq_rules.specs.declared.values.Value.TheVariants as value
use Rattle.sq_machine.specs.AnswerReadings.{answers}
use Rattle.sq_machine.specs.Checks.{Asked, ask_of}
use Rattle.sq_rules.specs.Classes.{Class}
use Rattle.sq_rules.specs.Configurations.{Configuration, IsConfiguration, are_known_bodies, have_own_names, is_known_body, is_named}
use Rattle.sq_machine.specs.Epochs.{class_at, config_of}
use Rattle.sq_machine.specs.FarmReadings.{farm_with}
use Rattle.sq_machine.specs.Farms.{full}
use Rattle.sq_machine.specs.KeptLists.{CachedReplies, fresh_for}
use Rattle.sq_machine.specs.KeptReadings.{kept}
use Rattle.sq_machine.specs.Limits.{key_limit}
use Rattle.sq_machine.specs.Marks.{Past, Put, entries}
use Rattle.sq_machine.specs.Questions.{pending, put_count}
use Rattle.sq_machine.specs.StepRule.{class_of_acl, class_of_body, says_asked, says_asked_of, says_at_place, says_fault, says_fresh, says_need, says_of_class, says_value, step_says, value_over}
use Rattle.sq_rules.specs.Verdicts.{verdict_over}
use Rattle.sq_model.specs.Carried.{NamesOnce}
use Rattle.sq_model.specs.Given.{EachOf}
use Rattle.sq_model.proofs.NeedLaws.{verdict_asks}

each_get : {A : Type 0} (P : A → Type 0) (xs : List A) (i : ℕ) (x : A) → EachOf P xs → slice_get xs i ≡ Some x → P x
each_get P [] i x each e = absurd (none-some x e)
each_get P (y ∷ xs) zero x each e = subst P (same_Some _ _ e) each.0
each_get P (y ∷ xs) (suc i) x each e = each_get P xs i x each.1 e

-- the configuration of an epoch is one
pub config_is : (configs : List Configuration) (e : ℕ) (config : Configuration) → EachOf IsConfiguration configs
    → config_of configs e ≡ Some config → IsConfiguration config
config_is configs zero config each is = absurd (none-some config is)
config_is configs (suc e) config each is = each_get IsConfiguration configs e config each is

named_at : {A : Type 0} (f : A → List ℕ) (xs : List A) (i : ℕ) (x : A) (name : List ℕ) → slice_get xs i ≡ Some x
    → bytes_eq (f x) name ≡ true → is_named f xs name ≡ true
named_at f [] i x name e t = absurd (none-some x e)
named_at f (y ∷ xs) zero x name e t = ap (λ (b : Bool). b || list_any (λ a. bytes_eq (f a) name) xs)
    (ap (λ z. bytes_eq (f z) name) (same_Some _ _ e) ∙ t)
named_at f (y ∷ xs) (suc i) x name e t = by (bytes_eq (f y) name) (named_at f xs i x name e t)
  where
    by : (b : Bool) → is_named f xs name ≡ true → (b || is_named f xs name) ≡ true
    by true t = refl
    by false t = t

-- of things with names of their own, those with one name stand at one place
one_name : {A : Type 0} (f : A → List ℕ) (xs : List A) (i j : ℕ) (x y : A) → have_own_names f xs ≡ true
    → slice_get xs i ≡ Some x → slice_get xs j ≡ Some y → bytes_eq (f x) (f y) ≡ true → i ≡ j
one_name f [] i j x y own a b same = absurd (none-some x a)
one_name f (z ∷ xs) zero zero x y own a b same = refl
one_name f (z ∷ xs) zero (suc j) x y own a b same =
    absurd (let none = not-true (is_named f xs (f z))
    (and_parts (not (is_named f xs (f z))) (have_own_names f xs) own).0 in
    let some = named_at f xs j y (f z) b
    (bytes_turned (f y) (f z) ∙ ap (λ w. bytes_eq (f w) (f y)) (same_Some _ _ a) ∙ same) in
    let no : false ≡ true = sym none ∙ some in cc)
one_name f (z ∷ xs) (suc i) zero x y own a b same =
    absurd (let none = not-true (is_named f xs (f z))
    (and_parts (not (is_named f xs (f z))) (have_own_names f xs) own).0 in
    let some = named_at f xs i x (f z) a (ap (λ w. bytes_eq (f x) (f w)) (same_Some _ _ b) ∙ same) in
    let no : false ≡ true = sym none ∙ some in cc)
one_name f (z ∷ xs) (suc i) (suc j) x y own a b same =
    ap (λ (k : ℕ). suc k) (one_name f xs i j x y (and_parts (not (is_named f xs (f z))) (have_own_names f xs) own).1 a b
    same)

-- no two classes of an epoch have one name
pub names_once : (configs : List Configuration) → EachOf IsConfiguration configs → NamesOnce configs
names_once configs each = λ e c d class other at there same.
    let k = then_some (λ (config : Configuration). slice_get config.classes c) (config_of configs e) class at in
    let j = then_some (λ (config : Configuration). slice_get config.classes d) (config_of configs e) other there in
    let one : j.0 ≡ k.0 = same_Some _ _ (sym j.1 ∙ k.1) in
    one_name (λ (z : Class). z.name) k.0.classes c d class other (config_is configs e k.0 each k.1).class_names k.2
    (ap (λ (config : Configuration). slice_get config.classes d) (sym one) ∙ j.2) same

known_body : (n before : ℕ) (b : Body) (k : ℕ) → is_known_body n before b ≡ true → class_of_body b ≡ Some k
    → nat_lt k n ≡ true
known_body n before (body.External class arguments) k known is = ap (λ (i : ℕ). nat_lt i n) (sym (same_Some _ _ is))
    ∙ known
known_body n before (body.Leaf l) k known is = absurd (none-some k is)
known_body n before (body.AnyOf terms) k known is = absurd (none-some k is)
known_body n before (body.AllOf lines) k known is = absurd (none-some k is)

known_at : (n place : ℕ) (acls : List Acl) (i : ℕ) (a : Acl) (k : ℕ) → are_known_bodies n place acls ≡ true
    → slice_get acls i ≡ Some a → class_of_body a.body ≡ Some k → nat_lt k n ≡ true
known_at n place [] i a k known at is = absurd (none-some a at)
known_at n place (x ∷ acls) zero a k known at is =
    known_body n place x.body k (and_parts (is_known_body n place x.body) (are_known_bodies n (suc place) acls) known).0
    (ap (λ (z : Acl). class_of_body z.body) (same_Some _ _ at) ∙ is)
known_at n place (x ∷ acls) (suc i) a k known at is =
    known_at n (suc place) acls i a k
    (and_parts (is_known_body n place x.body) (are_known_bodies n (suc place) acls) known).1 at is

-- a place below the length of a list has something
pub get_some : {A : Type 0} (xs : List A) (i : ℕ) → nat_lt i (length xs) ≡ true → (x : A) × (slice_get xs i ≡ Some x)
get_some [] i l = absurd (none i l)
  where
    none : (i : ℕ) → nat_lt i 0 ≡ true → ⊥
    none i l = grind (arith, nat_tests)
get_some (x ∷ xs) zero l = (x, refl)
get_some (x ∷ xs) (suc i) l = get_some xs i (down i (length xs) l)
  where
    down : (a b : ℕ) → nat_lt (suc a) (suc b) ≡ true → nat_lt a b ≡ true
    down a b l = grind (arith, nat_tests)

-- the class of a key that a check needs
pub record NeedsClass (configs : List Configuration) (e acl : ℕ) : Type 0 where
  pub config : Configuration
  pub place : ℕ
  pub class : Class
  pub config_is_it : config_of configs e ≡ Some config
  pub place_is : class_of_acl config.acls acl ≡ Some place
  pub class_is : class_at configs e place ≡ Some class

-- what a check needs is of a class that is there
pub needs_class : (configs : List Configuration) (a : Asked) (answers : List Answer) (acl : ℕ) (key : List ℕ)
    → EachOf IsConfiguration configs → value_over configs a answers ≡ value.Need acl key
    → NeedsClass configs a.epoch acl
needs_class configs a answers acl key each is = by (config_of configs a.epoch) refl is
  where
    placed : (config : Configuration) → config_of configs a.epoch ≡ Some config → (o : Option ℕ)
        → class_of_acl config.acls acl ≡ o → is_some o ≡ true → NeedsClass configs a.epoch acl
    placed config at None there some = absurd (cc)
    placed config at (Some c) there some =
        let x = then_some (λ (z : Acl). class_of_body z.body) (slice_get config.acls acl) c there in
        let k = get_some config.classes c
        (known_at (length config.classes) 0 config.acls acl x.0 c (config_is configs a.epoch config each at).members x.1
        x.2) in
        record {
          config = config;
          place = c;
          class = k.0;
          config_is_it = at;
          place_is = there;
          class_is = ap (option_and_then (λ (z : Configuration). slice_get z.classes c)) at ∙ k.1;
        }

    by : (o : Option Configuration) → config_of configs a.epoch ≡ o
        → option_map_or (λ config. verdict_over answers config a.sight) o
        (value.Verdict (record { allow = false; why = why.Empty })) ≡ value.Need acl key
        → NeedsClass configs a.epoch acl
    by None at e = absurd (cc)
    by (Some config) at e = placed config
        at (class_of_acl config.acls acl) refl (verdict_asks config a.sight answers acl key e)

is_told_done : Told → Bool
is_told_done told.Done = true
is_told_done answer = false

need_not_done : (class : Class) (p : Put) (now : ℕ) (k : CachedReplies) (o : Option ℕ) (f : Bool) (count : ℕ)
    → is_told_done (says_need class p now k o f count).answer ≡ false
unfolding is_told_done
need_not_done class p now k o f count = by (nat_lt key_limit (length p.key))
  where
    of_asked : (o : Option ℕ) (f : Bool) → is_told_done (says_asked class.name p now o f count).answer ≡ false
    of_asked (Some q) f = refl
    of_asked None true = refl
    of_asked None false = refl

    of_fresh : (v : Option CachedReply) → is_told_done (says_fresh class p now v o f count).answer ≡ false
    of_fresh None = of_asked o f
    of_fresh (Some v) = refl

    by : (b : Bool) → is_told_done
        (if b then says_fault class.name p cause.KeyTooLong now
        else says_fresh class p now (fresh_for class p.key now k) o f count).answer ≡ false
    by true = refl
    by false = of_fresh (fresh_for class p.key now k)

-- a step that says that a check is done: its value is a verdict
pub done_decided : (configs : List Configuration) (m : Past) (n now : ℕ) (a : Asked) → EachOf IsConfiguration configs
    → ask_of (entries m) n ≡ Some a
    → (step_says configs m n now).answer ≡ told.Done
    → (o : Outcome) × (value_over configs a (answers configs m n) ≡ value.Verdict o)
unfolding is_told_done
done_decided configs m n now a each ask done =
    by (value_over configs a (answers configs m n)) refl
    (sym (ap (λ (o : Option Asked). is_told_done (says_asked_of configs m now (answers configs m n) o).answer) ask)
    ∙ ap is_told_done done)
  where
    by : (v : Value) → value_over configs a (answers configs m n) ≡ v
        → is_told_done (says_value configs m a.epoch now v).answer ≡ true
        → (o : Outcome) × (value_over configs a (answers configs m n) ≡ value.Verdict o)
    by (value.Verdict o) is e = (o, is)
    by (value.Need acl key) is e =
        let d = needs_class configs a (answers configs m n) acl key each is in
        let at : option_and_then (λ config. class_of_acl config.acls acl) (config_of configs a.epoch) ≡ Some d.place =
        ap (option_and_then (λ (config : Configuration). class_of_acl config.acls acl)) d.config_is_it ∙ d.place_is in
        let same : is_told_done (says_value configs m a.epoch now (value.Need acl key)).answer ≡ false =
        ap (λ (o : Option ℕ). is_told_done (says_at_place configs m a.epoch key now o).answer) at
        ∙ ap (λ (o : Option Class). is_told_done (says_of_class configs m a.epoch d.place key now o).answer) d.class_is
        ∙ need_not_done d.class (record { epoch = a.epoch; class = d.place; key = key }) now
        (kept configs m a.epoch d.place) (pending configs m a.epoch d.place key)
        (full (farm_with configs m a.epoch d.place d.class)) (put_count m) in
        absurd (let no : false ≡ true = sym same ∙ e in cc)
