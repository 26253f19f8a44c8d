-- Keys of the class by which names are looked up are read back, and nothing else is read as one.
use Rattle.std.proofs.Common.{◌≡◌, ℕ, ◌+◌, ◌-◌, ◌≤◌, ◌==◌, suc, Bool, true, false, not, List, [], ◌∷◌, ◌++◌, ◌&&◌, length, take, drop, refl, sym, ap, subst, ◌∙◌, arith, if◌then◌else◌, bytes_eq, codes, Some, None, append_assoc, length-append, nat_lt, nat_le, get_or, add-one}
use Rattle.std.specs.declared.option.Option.{Option}
use Rattle.std.specs.Prelude.{position}
use Rattle.std.specs.List.{position_or_len}
use Rattle.std.proofs.Math.Seq.{drop-append_seam, drop-append-add, drop-cons, take-append_seam}
use Rattle.std.proofs.lemmas.Bool.{and_parts}
use Rattle.std.proofs.lemmas.Bool.Decides.{nat_tests}
use Rattle.std.proofs.lemmas.List.{take-append-drop}
use Rattle.std.proofs.lemmas.List.Quantifiers.{position-Some}
use Rattle.std.proofs.lemmas.Slice.Eq.{bytes_eq-Decides}
use Rattle.percent_encoding.specs.Percent.{percent_decode}
use Rattle.sq_base.specs.Bytes.{space}
use Rattle.sq_base.specs.Texts.{AreBytes}
use Rattle.sq_dst.proofs.EscapeLaws.{decodes, has_none, spaceless}
use Rattle.sq_dst.specs.LookupKeys.{before_end, is_key_word, is_space, key_at, key_before, key_of_words, lookup_key, lookup_text, question_limit}
use Rattle.sq_dst.specs.declared.keys.LookupKey.{LookupKey}
use Rattle.sq_rules.specs.Keys.{key_escaped}

same_of : (xs ys : List ℕ) → bytes_eq xs ys ≡ true → xs ≡ ys
same_of xs ys e = (bytes_eq-Decides xs ys).0 e

of_same : (xs ys : List ℕ) → xs ≡ ys → bytes_eq xs ys ≡ true
of_same xs ys e = (bytes_eq-Decides xs ys).1 e

-- a text with an end

front_by : (end text front : List ℕ) (n : ℕ) (t : Bool) → bytes_eq (drop n text) end ≡ t
    → (if t then Some (take n text) else None) ≡ Some front → text ≡ front ++ end
front_by end text front n true is e =
    let same : take n text ≡ front = cc in
    sym (take-append-drop n text) ∙ ap (λ l. l ++ drop n text) same
    ∙ ap (λ l. front ++ l) (same_of (drop n text) end is)
front_by end text front n false is e = cc

pub has_end : (end text front : List ℕ) → before_end end text ≡ Some front → text ≡ front ++ end
has_end end text front e = front_by end text front (length text - length end)
    (bytes_eq (drop (length text - length end) text) end) refl e

pub of_end : (end front : List ℕ) → before_end end (front ++ end) ≡ Some front
of_end end front =
    let many : length (front ++ end) - length end ≡ length front = omega (arith, length-append front end) in
    rw (many, drop-append_seam front end, take-append_seam front end, of_same end end refl) refl

-- words as they stand in a key

word_means : (w : List ℕ) → is_key_word w ≡ true → w ≡ key_escaped (percent_decode w)
word_means w e = same_of w (key_escaped (percent_decode w)) e

word_reads : (text : List ℕ) → AreBytes text → is_key_word (key_escaped text) ≡ true
word_reads text small = of_same _ _ (ap key_escaped (sym (decodes text small)))

abbrev made : List ℕ → List ℕ → LookupKey
made h a = record { host = percent_decode h; acl = percent_decode a }

made_by : (h a : List ℕ) (k : LookupKey) (t u : Bool) → is_key_word h ≡ t → is_key_word a ≡ u
    → (if t && u then Some (made h a) else None) ≡ Some k
    → (h ≡ key_escaped k.host) × (a ≡ key_escaped k.acl)
made_by h a k true true p q e =
    let same : made h a ≡ k = cc in (
      word_means h p ∙ ap (λ (r : LookupKey). key_escaped r.host) same,
      word_means a q ∙ ap (λ (r : LookupKey). key_escaped r.acl) same,
    )
made_by h a k true false p q e = cc
made_by h a k false u p q e = cc

words_mean : (h a : List ℕ) (k : LookupKey) → key_of_words h a ≡ Some k
    → (h ≡ key_escaped k.host) × (a ≡ key_escaped k.acl)
words_mean h a k e = made_by h a k (is_key_word h) (is_key_word a) refl refl e

words_read : (host acl : List ℕ) → AreBytes host → AreBytes acl
    → key_of_words (key_escaped host) (key_escaped acl) ≡ Some (record { host = host; acl = acl })
words_read host acl small few =
    rw (word_reads host small, word_reads acl few, decodes host small, decodes acl few) refl

-- the first space

parted : (words : List ℕ) (n : ℕ) → position is_space words ≡ Some n
    → words ≡ take n words ++ space ∷ drop (n + 1) words
parted words n e =
    let at = position-Some is_space words n 0 e in
    let here : get_or words n 0 ≡ space = grind (arith, nat_tests, at.1) in
    let rest : drop n words ≡ space ∷ drop (n + 1) words =
    rw (add-one) (drop-cons words n 0 at.0 ∙ ap (λ b. b ∷ drop (suc n) words) here) in
    sym (take-append-drop n words) ∙ ap (λ l. take n words ++ l) rest

key_means_at : (words : List ℕ) (k : LookupKey) (o : Option ℕ) → position is_space words ≡ o → key_at words o ≡ Some k
    → words ≡ key_escaped k.host ++ space ∷ key_escaped k.acl
key_means_at words k None is e = cc
key_means_at words k (Some n) is e =
    let both = words_mean (take n words) (drop (n + 1) words) k e in
    parted words n is ∙ ap (λ l. l ++ space ∷ drop (n + 1) words) both.0
    ∙ ap (λ l. key_escaped k.host ++ space ∷ l) both.1

place_in : (word rest : List ℕ) → has_none word ≡ true → position_or_len is_space (word ++ space ∷ rest) ≡ length word
place_in [] rest none = refl
place_in (b ∷ word) rest none =
    let parts = and_parts (not (b == space)) (has_none word) none in
    let off : is_space b ≡ false = grind (arith, nat_tests, parts.0) in
    let more = place_in word rest parts.1 in
    rw off (omega (arith, more))

found_in : (word rest : List ℕ) → has_none word ≡ true → position is_space (word ++ space ∷ rest) ≡ Some (length word)
found_in word rest none =
    let place = place_in word rest none in
    let less : nat_lt (length word) (length (word ++ space ∷ rest)) ≡ true =
    grind (arith, nat_tests, length-append word (space ∷ rest)) in
    rw (place, less) refl

key_reads_at : (host acl : List ℕ) → AreBytes host → AreBytes acl
    → key_before (Some (key_escaped host ++ space ∷ key_escaped acl)) ≡ Some (record { host = host; acl = acl })
key_reads_at host acl small few =
    let h = key_escaped host in
    let a = key_escaped acl in
    rw (found_in h a (spaceless host), take-append_seam h (space ∷ a), drop-append-add h (space ∷ a) 1)
    (words_read host acl small few)

-- whole keys

before_means : (question : List ℕ) (k : LookupKey) (o : Option (List ℕ)) → before_end (codes " -") question ≡ o
    → key_before o ≡ Some k → question ≡ lookup_text k.host k.acl
before_means question k None is e = cc
before_means question k (Some words) is e =
    has_end (codes " -") question words is
    ∙ ap (λ l. l ++ codes " -") (key_means_at words k (position is_space words) refl e)
    ∙ append_assoc (key_escaped k.host) (space ∷ key_escaped k.acl) (codes " -")

within_means : (question : List ℕ) (k : LookupKey) (t : Bool)
    → (if t then key_before (before_end (codes " -") question) else None) ≡ Some k
    → question ≡ lookup_text k.host k.acl
within_means question k true e = before_means question k (before_end (codes " -") question) refl e
within_means question k false e = cc

-- what is read as a key is one
pub key_means : (question : List ℕ) (k : LookupKey) → lookup_key question ≡ Some k
    → question ≡ lookup_text k.host k.acl
unfolding lookup_key
key_means question k e = within_means question k (nat_le (length question) question_limit) e

-- each key is read
pub key_reads : (host acl : List ℕ) → AreBytes host → AreBytes acl → length (lookup_text host acl) ≤ question_limit
    → lookup_key (lookup_text host acl) ≡ Some (record { host = host; acl = acl })
unfolding lookup_key
key_reads host acl small few short =
    let fits : nat_le (length (lookup_text host acl)) question_limit ≡ true = grind (arith, nat_tests, short) in
    let whole : lookup_text host acl ≡ (key_escaped host ++ space ∷ key_escaped acl) ++ codes " -" =
    sym (append_assoc (key_escaped host) (space ∷ key_escaped acl) (codes " -")) in
    rw fits (ap (λ q. key_before (before_end (codes " -") q)) whole
    ∙ ap key_before (of_end (codes " -") (key_escaped host ++ space ∷ key_escaped acl))
    ∙ key_reads_at host acl small few)

-- a question for which no host is asked is no key
pub no_key : (question : List ℕ) → lookup_key question ≡ None → length question ≤ question_limit → (host acl : List ℕ)
    → AreBytes host → AreBytes acl → question ≡ lookup_text host acl → ⊥
no_key question none short host acl small few same =
    let read : lookup_key question ≡ Some (record { host = host; acl = acl }) =
    ap lookup_key same ∙ key_reads host acl small few (subst (λ q. length q ≤ question_limit) same short) in
    cc
