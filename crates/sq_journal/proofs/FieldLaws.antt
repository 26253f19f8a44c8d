-- Values in turn: what is written of them is read, whatever follows, and nothing else is.
use Rattle.std.proofs.Common.{◌≡◌, ℕ, List, [], ◌∷◌, ◌++◌, Bool, true, false, Some, Option, cond, bytes_eq, option_map, option_and_then, refl, sym, ap, subst, ◌∙◌, append_assoc}
use Rattle.std.proofs.lemmas.Option.{same_Some, none-some}
use Rattle.sq_base.proofs.CommonLaws.{then_some, map_some}
use Rattle.sq_base.specs.NameTables.{beside}
use Rattle.sq_rules.specs.Steps.{WordList}
use Rattle.sq_journal.specs.Reading.{Reads, word_in, then_in, fields1, fields2, fields3, fields4}
use Rattle.sq_journal.proofs.LineLaws.{AreWords, IsPlain}
use Rattle.sq_journal.proofs.WordLaws.{ExactWord, word_is}

-- the words that were read are those of the value, and it fits
abbrev pub IsRead : {A : Type 0} → (A → WordList) → (A → Type 0) → WordList → A × WordList → Type 0
IsRead words Fits ws y = (ws ≡ words y.0 ++ y.1) × Fits y.0 × AreWords y.1

-- what is read behind some words is, with them, what was written
abbrev pub TakesAfter : {A : Type 0} → WordList → Reads A → (A → WordList) → (A → Type 0) → Type 0
TakesAfter lead read words Fits = (ws : WordList) (y : _ × WordList) → AreWords ws → read ws ≡ Some y
    → IsRead words Fits (lead ++ ws) y

-- nothing is read but what was written
pub record TakesOnly {A : Type 0} (read : Reads A) (words : A → WordList) (Fits : A → Type 0) : Type 0 where
  pub of : TakesAfter [] read words Fits

-- and what was written is read, whatever follows
pub record Exact {A : Type 0} (read : Reads A) (words : A → WordList) (Fits : A → Type 0) : Type 0 where
  pub again : (x : A) (rest : WordList) → Fits x → read (words x ++ rest) ≡ Some (x, rest)
  pub takes : TakesOnly read words Fits

-- one step after another, where both give something
pub bind_is : {A B : Type 0} (o : Option A) (f : A → Option B) (a : A) (b : B) → o ≡ Some a → f a ≡ Some b
    → option_and_then f o ≡ Some b
bind_is o f a b p q = ap (option_and_then f) p ∙ q

-- ---- one word

one_again : {A : Type 0} (of : List ℕ → Option A) (word : A → List ℕ) (Fits : A → Type 0) → ExactWord of word Fits
    → (x : A) (rest : WordList) → Fits x → word_in of (word x ∷ rest) ≡ Some (x, rest)
unfolding word_in
one_again of word Fits exact x rest h = ap (λ o. option_map (λ v. (v, rest)) o) (exact.again x h)

one_takes : {A : Type 0} (of : List ℕ → Option A) (word : A → List ℕ) (Fits : A → Type 0) → ExactWord of word Fits
    → (ws : WordList) (y : A × WordList) → AreWords ws → word_in of ws ≡ Some y → IsRead (λ x. word x ∷ []) Fits ws y
unfolding word_in
one_takes of word Fits exact [] y small e = absurd (none-some y e)
one_takes of word Fits exact (w ∷ ws) y small e =
    let s = map_some (λ x. (x, ws)) (of w) y e in
    let t = exact.takes w s.0 small.0 s.1 in
    subst (λ z. IsRead (λ x. word x ∷ []) Fits (w ∷ ws) z) (sym s.2) (ap (λ v. v ∷ ws) t.0, t.1, small.1)

-- a word that is exact is so among others
pub one_word : {A : Type 0} (of : List ℕ → Option A) (word : A → List ℕ) (Fits : A → Type 0) → ExactWord of word Fits
    → Exact (word_in of) (λ x. word x ∷ []) Fits
one_word of word Fits exact = record {
  again = one_again of word Fits exact;
  takes = record { of = one_takes of word Fits exact };
}

-- ---- values in turn

-- a value without fields
pub fields0_takes : {X : Type 0} (x : X) (lead : WordList) (words : X → WordList) (Fits : X → Type 0) → words x ≡ lead
    → Fits x
    → TakesAfter lead (λ ws. Some (x, ws)) words Fits
fields0_takes x lead words Fits shape fits ws y small e =
    subst (λ z. IsRead words Fits (lead ++ ws) z) (same_Some (x, ws) y e) (sym (ap (λ l. l ++ ws) shape), fits, small)

-- words behind others that were read first
behind_lead : (lead front rest ws : WordList) → ws ≡ front ++ rest → (lead ++ front) ++ rest ≡ lead ++ ws
behind_lead lead front rest ws e = append_assoc lead front rest ∙ ap (λ l. lead ++ l) (sym e)

-- one value, and what is made of it
pub fields1_takes : {A X : Type 0} (make : A → X) (f : Reads A) (wf : A → WordList) (Pf : A → Type 0)
    → TakesOnly f wf Pf
    → (lead : WordList) (words : X → WordList) (Fits : X → Type 0) → ((a : A) → words (make a) ≡ lead ++ wf a)
    → ((a : A) → Pf a → Fits (make a))
    → TakesAfter lead (fields1 make f) words Fits
fields1_takes make f wf Pf ef lead words Fits shape fits ws y small e =
    let s = map_some _ (f ws) y e in
    let t = ef.of ws s.0 small s.1 in
    subst (λ z. IsRead words Fits (lead ++ ws) z) (sym s.2)
    (sym (behind_lead lead (wf s.0.0) s.0.1 ws t.0) ∙ ap (λ l. l ++ s.0.1) (sym (shape s.0.0)), fits s.0.0 t.1, t.2)

-- a value, and by it what follows
pub then_takes : {A X : Type 0} (f : Reads A) (wf : A → WordList) (Pf : A → Type 0) → TakesOnly f wf Pf
    → (g : A → Reads X) (lead : WordList) (words : X → WordList) (Fits : X → Type 0)
    → ((a : A) → Pf a → TakesAfter (lead ++ wf a) (g a) words Fits) → TakesAfter lead (then_in f g) words Fits
then_takes f wf Pf ef g lead words Fits more ws y small e =
    let s = then_some _ (f ws) y e in
    let t = ef.of ws s.0 small s.1 in
    subst (λ l. IsRead words Fits l y) (behind_lead lead (wf s.0.0) s.0.1 ws t.0) (more s.0.0 t.1 s.0.1 y t.2 s.2)

-- two, three and four values
pub fields2_takes : {A B X : Type 0} (make : A → B → X) (f : Reads A) (wf : A → WordList) (Pf : A → Type 0)
    → TakesOnly f wf Pf
    → (g : Reads B) (wg : B → WordList) (Pg : B → Type 0) → TakesOnly g wg Pg
    → (lead : WordList) (words : X → WordList) (Fits : X → Type 0)
    → ((a : A) (b : B) → words (make a b) ≡ (lead ++ wf a) ++ wg b) → ((a : A) (b : B) → Pf a → Pg b → Fits (make a b))
    → TakesAfter lead (fields2 make f g) words Fits
fields2_takes make f wf Pf ef g wg Pg eg lead words Fits shape fits =
    then_takes f wf Pf ef (λ a. fields1 (make a) g) lead words Fits
    (λ a p. fields1_takes (make a) g wg Pg eg (lead ++ wf a) words Fits (shape a) (λ b. fits a b p))

pub fields3_takes : {A B C X : Type 0} (make : A → B → C → X) (f : Reads A) (wf : A → WordList) (Pf : A → Type 0)
    → TakesOnly f wf Pf
    → (g : Reads B) (wg : B → WordList) (Pg : B → Type 0) → TakesOnly g wg Pg
    → (h : Reads C) (wh : C → WordList) (Ph : C → Type 0) → TakesOnly h wh Ph
    → (lead : WordList) (words : X → WordList) (Fits : X → Type 0)
    → ((a : A) (b : B) (c : C) → words (make a b c) ≡ ((lead ++ wf a) ++ wg b) ++ wh c)
    → ((a : A) (b : B) (c : C) → Pf a → Pg b → Ph c → Fits (make a b c))
    → TakesAfter lead (fields3 make f g h) words Fits
fields3_takes make f wf Pf ef g wg Pg eg h wh Ph eh lead words Fits shape fits =
    then_takes f wf Pf ef (λ a. fields2 (make a) g h) lead words Fits
    (λ a p. fields2_takes (make a) g wg Pg eg h wh Ph eh (lead ++ wf a) words Fits (shape a) (λ b c. fits a b c p))

pub fields4_takes : {A B C D X : Type 0} (make : A → B → C → D → X) (f : Reads A) (wf : A → WordList) (Pf : A → Type 0)
    → TakesOnly f wf Pf
    → (g : Reads B) (wg : B → WordList) (Pg : B → Type 0) → TakesOnly g wg Pg
    → (h : Reads C) (wh : C → WordList) (Ph : C → Type 0) → TakesOnly h wh Ph
    → (k : Reads D) (wk : D → WordList) (Pk : D → Type 0) → TakesOnly k wk Pk
    → (lead : WordList) (words : X → WordList) (Fits : X → Type 0)
    → ((a : A) (b : B) (c : C) (d : D) → words (make a b c d) ≡ (((lead ++ wf a) ++ wg b) ++ wh c) ++ wk d)
    → ((a : A) (b : B) (c : C) (d : D) → Pf a → Pg b → Ph c → Pk d → Fits (make a b c d))
    → TakesAfter lead (fields4 make f g h k) words Fits
fields4_takes make f wf Pf ef g wg Pg eg h wh Ph eh k wk Pk ek lead words Fits shape fits =
    then_takes f wf Pf ef (λ a. fields3 (make a) g h k) lead words Fits
    (λ a p. fields3_takes (make a) g wg Pg eg h wh Ph eh k wk Pk ek (lead ++ wf a) words Fits (shape a)
    (λ b c d. fits a b c d p))

pub fields1_again : {A X : Type 0} (make : A → X) (f : Reads A) (wf : A → WordList) (Pf : A → Type 0) → Exact f wf Pf
    → (a : A) (rest : WordList) → Pf a → fields1 make f (wf a ++ rest) ≡ Some (make a, rest)
fields1_again make f wf Pf ef a rest p = ap (option_map (λ r. (make r.0, r.1))) (ef.again a rest p)

pub fields2_again : {A B X : Type 0} (make : A → B → X) (f : Reads A) (wf : A → WordList) (Pf : A → Type 0)
    → Exact f wf Pf
    → (g : Reads B) (wg : B → WordList) (Pg : B → Type 0) → Exact g wg Pg
    → (a : A) (b : B) (rest : WordList) → Pf a → Pg b
    → fields2 make f g (wf a ++ (wg b ++ rest)) ≡ Some (make a b, rest)
fields2_again make f wf Pf ef g wg Pg eg a b rest p q =
    bind_is (f (wf a ++ (wg b ++ rest))) _ (a, wg b ++ rest) _ (ef.again a (wg b ++ rest) p)
    (fields1_again (make a) g wg Pg eg b rest q)

pub fields3_again : {A B C X : Type 0} (make : A → B → C → X) (f : Reads A) (wf : A → WordList) (Pf : A → Type 0)
    → Exact f wf Pf
    → (g : Reads B) (wg : B → WordList) (Pg : B → Type 0) → Exact g wg Pg
    → (h : Reads C) (wh : C → WordList) (Ph : C → Type 0) → Exact h wh Ph
    → (a : A) (b : B) (c : C) (rest : WordList) → Pf a → Pg b → Ph c
    → fields3 make f g h (wf a ++ (wg b ++ (wh c ++ rest))) ≡ Some (make a b c, rest)
fields3_again make f wf Pf ef g wg Pg eg h wh Ph eh a b c rest p q r =
    bind_is (f (wf a ++ (wg b ++ (wh c ++ rest)))) _ (a, wg b ++ (wh c ++ rest)) _
    (ef.again a (wg b ++ (wh c ++ rest)) p)
    (fields2_again (make a) g wg Pg eg h wh Ph eh b c rest q r)

pub fields4_again : {A B C D X : Type 0} (make : A → B → C → D → X) (f : Reads A) (wf : A → WordList) (Pf : A → Type 0)
    → Exact f wf Pf
    → (g : Reads B) (wg : B → WordList) (Pg : B → Type 0) → Exact g wg Pg
    → (h : Reads C) (wh : C → WordList) (Ph : C → Type 0) → Exact h wh Ph
    → (k : Reads D) (wk : D → WordList) (Pk : D → Type 0) → Exact k wk Pk
    → (a : A) (b : B) (c : C) (d : D) (rest : WordList) → Pf a → Pg b → Ph c → Pk d
    → fields4 make f g h k (wf a ++ (wg b ++ (wh c ++ (wk d ++ rest)))) ≡ Some (make a b c d, rest)
fields4_again make f wf Pf ef g wg Pg eg h wh Ph eh k wk Pk ek a b c d rest p q r s =
    bind_is (f (wf a ++ (wg b ++ (wh c ++ (wk d ++ rest))))) _ (a, wg b ++ (wh c ++ (wk d ++ rest))) _
    (ef.again a (wg b ++ (wh c ++ (wk d ++ rest))) p)
    (fields3_again (make a) g wg Pg eg h wh Ph eh k wk Pk ek b c d rest q r s)

-- ---- names

-- each row of a table is so
abbrev pub EachRow : {A : Type 0} → (List ℕ → A → Type 0) → List (List ℕ × A) → Type 0
EachRow P [] = Unit {0}
EachRow P (row ∷ rows) = P row.0 row.1 × EachRow P rows

-- what holds of a row, before what holds of the others
infixr 5 ◌⊗◌
abbrev pub ◌⊗◌ : {A B : Type 0} → A → B → A × B
a ⊗ b = (a, b)

row_is : {A : Type 0} (P : List ℕ → A → Type 0) (key word : List ℕ) (v x : A) (other : Option A) (t : Bool)
    → bytes_eq word key ≡ t → P key v → (other ≡ Some x → P word x)
    → cond t (Some v) other ≡ Some x → P word x
row_is P key word v x other true is p more e = subst (λ z. P word z) (same_Some v x e)
    (subst (λ w. P w v) (sym (word_is word key is)) p)
row_is P key word v x other false is p more e = more e

-- what stands beside a word in a table is as its row is
pub beside_is : {A : Type 0} (P : List ℕ → A → Type 0) (table : List (List ℕ × A)) → EachRow P table
    → (word : List ℕ) (x : A) → beside table word ≡ Some x → P word x
beside_is P [] rows word x e = absurd (none-some x e)
beside_is P (row ∷ table) rows word x e =
    row_is P row.0 word row.1 x (beside table word) (bytes_eq word row.0) refl rows.0
    (beside_is P table rows.1 word x) e

name_takes : {K X : Type 0} (table : List (List ℕ × K)) (after : K → Reads X) (words : X → WordList) (Fits : X → Type 0)
    → EachRow (λ w k. TakesAfter (w ∷ []) (after k) words Fits) table
    → TakesAfter [] (then_in (word_in (beside table)) after) words Fits
unfolding word_in
name_takes table after words Fits rows [] y small e = absurd (none-some y e)
name_takes table after words Fits rows (w ∷ ws) y small e =
    let s = then_some _ (option_map (λ k. (k, ws)) (beside table w)) y e in
    let k = map_some _ (beside table w) s.0 s.1 in
    beside_is (λ v x. TakesAfter (v ∷ []) (after x) words Fits) table rows w k.0 k.1 ws y small.1
    (subst (λ r. after r.0 r.1 ≡ Some y) k.2 s.2)

-- what is told by its name is taken, where it is so behind each name
pub by_name : {K X : Type 0} (table : List (List ℕ × K)) (after : K → Reads X) (words : X → WordList)
    (Fits : X → Type 0)
    → EachRow (λ w k. TakesAfter (w ∷ []) (after k) words Fits) table
    → TakesOnly (then_in (word_in (beside table)) after) words Fits
by_name table after words Fits rows = record { of = name_takes table after words Fits rows }

-- every value fits
abbrev pub Any : {A : Type 0} → A → Type 0
Any x = Unit {0}

-- a word that is a name of a table is exact, where the table has each value's word
pub name_exact : {A : Type 0} (table : List (List ℕ × A)) (word : A → List ℕ) → EachRow (λ w x. w ≡ word x) table
    → ((x : A) → beside table (word x) ≡ Some x) → ((x : A) → IsPlain (word x))
    → ExactWord (beside table) word Any
name_exact table word rows again plain = record {
  again = λ x h. again x;
  takes = λ w x small e. (beside_is (λ v y. v ≡ word y) table rows w x e, tt);
  plain = λ x h. plain x;
}
