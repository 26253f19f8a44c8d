-- What each change of the living processes needs and leaves.
use Rattle.std.proofs.Common.{◌≡◌, ℕ, suc, ◌+◌, ◌≤◌, ◌<◌, List, [], ◌∷◌, ◌++◌, map, length, set, Bool, true, false, if◌then◌else◌, nat_lt, ◌==◌, refl, sym, arith, ap, ◌∙◌, ⊎_elim, Some, None, is_some, get_or, subst}
use Rattle.std.specs.declared.option.Option.{Option}
use Rattle.std.proofs.lemmas.Bool.{cases_Bool, lt-ltb, le-ltb, ltb-true}
use Rattle.std.proofs.lemmas.List.{get_or_at, set_at}
use Rattle.std.specs.List.{insert, remove}
use Rattle.sq_machine.specs.Channels.{Channels, asked, channel_name, free_count, is_open, least_free, settled, times_open}
use Rattle.sq_channel.proofs.SlotLaws.{free_settled, some_open}
use Rattle.sq_channel.proofs.RisingLaws.{if_false, if_true, place_above}
use Rattle.sq_machine.specs.Living.{asked_row, find_proc, free_numbers, has_free, lives, living_number, sent, settled_in, slots_by, slots_in, some_free, target, times_in, with_proc, without, Living}
use Rattle.sq_machine.specs.Rising.{Rises, place_among}
use Rattle.sq_farm.proofs.LivingLaws.{First, Higher, Lower, around, find_lower, first, free_above, free_append, gap, place_around, place_free, place_row, rises_same, rises_with, rises_without, same, sent_first, settled_higher, settled_lower, target_first, times_around, with_higher, with_lower, without_higher, without_lower}

-- what a send needs and leaves; x is the process at the place of the first with a free channel, n
pub record Sends (q : ℕ) (rows : List Living) (n : ℕ) (x : Living) : Type 0 where
  pub room : 0 < free_count x.process.slots
  pub other : is_open q x.process.slots ≡ false
  pub rows_are : set rows (place_among n (map living_number rows)) (asked_row q x) ≡ sent q rows
  pub rises : Rises (map living_number (sent q rows))
  pub target_is : Some (n, channel_name x.process.numbered (least_free x.process.slots)) ≡ target rows
  pub full : free_count (asked q x.process.slots) ≡ 0 → remove (free_numbers rows) 0 ≡ free_numbers (sent q rows)
  pub more : 0 < free_count (asked q x.process.slots) → free_numbers rows ≡ free_numbers (sent q rows)
  pub length_is : length (sent q rows) ≡ length rows

pub length_around : (before : List Living) (a b : Living) (after : List Living)
    → length (before ++ a ∷ after) ≡ length (before ++ b ∷ after)
length_around [] a b after = refl
length_around (c ∷ before) a b after = ap suc (length_around before a b after)

pub within_around : (before : List Living) (a : Living) (after : List Living)
    → length before < length (before ++ a ∷ after)
within_around [] a after = omega arith
within_around (c ∷ before) a after = let r = within_around before a after in omega arith

pub frees_first : (before : List Living) (row : Living) (after : List Living) → free_numbers before ≡ []
    → has_free row ≡ true → free_numbers (before ++ row ∷ after) ≡ row.number ∷ free_numbers after
frees_first before row after none free =
    free_append before (row ∷ after) ∙ ap (λ z. z ++ free_numbers (row ∷ after)) none
    ∙ if_true (has_free row) (row.number ∷ free_numbers after) (free_numbers after) free

pub not_open : (q : ℕ) (slots : List (Option ℕ)) → times_open q slots ≡ 0 → is_open q slots ≡ false
not_open q slots e = ⊎_elim (λ y. absurd (let some = some_open q slots y in omega arith)) (λ y. y)
    (cases_Bool (is_open q slots))

pub sends_row : (q : ℕ) (before : List Living) (row : Living) (after : List Living) → free_numbers before ≡ []
    → has_free row ≡ true → Lower row.number before
    → Rises (map living_number (before ++ row ∷ after)) → times_in q (before ++ row ∷ after) ≡ 0
    → Sends q (before ++ row ∷ after) row.number row
sends_row q before row after none free low rises times =
    let sent_is = sent_first q before row after none free in
    let frees = frees_first before row after none free in
    record {
      room = ltb-true 0 (free_count row.process.slots) free;
      other = not_open q row.process.slots (let t = times_around q before row after in omega arith);
      rows_are = ap (λ i. set (before ++ row ∷ after) i (asked_row q row))
          (place_around row.number before (row ∷ after) low (place_row row.number row after refl))
          ∙ set_at before row after (asked_row q row) (length before) refl ∙ sym sent_is;
      rises = subst (λ z. Rises (map living_number z)) (sym sent_is)
          (rises_same before row (asked_row q row) after refl rises);
      target_is = sym (target_first before row after none free);
      full = λ e. ap (λ z. remove z 0) frees
          ∙ sym (ap free_numbers sent_is ∙ free_append before (asked_row q row ∷ after)
          ∙ ap (λ z. z ++ free_numbers (asked_row q row ∷ after)) none
          ∙ if_false (has_free (asked_row q row)) (row.number ∷ free_numbers after) (free_numbers after)
          (le-ltb 0 (free_count (asked q row.process.slots)) (omega (arith, e))));
      more = λ l. frees ∙ sym (ap free_numbers sent_is
          ∙ frees_first before (asked_row q row) after none (lt-ltb 0 (free_count (asked q row.process.slots)) l));
      length_is = ap length sent_is ∙ length_around before (asked_row q row) row after;
    }

pub sends_within : (rows : List Living) (n : ℕ) → Rises (map living_number rows) → some_free rows ≡ true
    → n ≡ get_or (free_numbers rows) 0 n → place_among n (map living_number rows) < length rows
sends_within rows n rises some is = by_first (first rows rises some)
  where
    by_first : First rows → place_among n (map living_number rows) < length rows
    by_first f =
        let n_is : n ≡ f.row.number = is
        ∙ ap (λ z. get_or z 0 n) (ap free_numbers f.are ∙ frees_first f.before f.row f.after f.none f.free) in
        let place : place_among n (map living_number rows) ≡ length f.before =
        ap (λ z. place_among n (map living_number z)) f.are
        ∙ ap (λ m. place_among m (map living_number (f.before ++ f.row ∷ f.after))) n_is
        ∙ place_around f.row.number f.before (f.row ∷ f.after) f.lower (place_row f.row.number f.row f.after refl) in
        let l = within_around f.before f.row f.after in
        let len = ap length f.are in
        omega arith

pub sends : (q : ℕ) (rows : List Living) (n : ℕ) (x : Living) → Rises (map living_number rows) → some_free rows ≡ true
    → times_in q rows ≡ 0
    → n ≡ get_or (free_numbers rows) 0 n → x ≡ get_or rows (place_among n (map living_number rows)) x → Sends q rows n x
sends q rows n x rises some times n_at x_at = by_first (first rows rises some)
  where
    by_first : First rows → Sends q rows n x
    by_first f =
        let n_is : n ≡ f.row.number = n_at
        ∙ ap (λ z. get_or z 0 n) (ap free_numbers f.are ∙ frees_first f.before f.row f.after f.none f.free) in
        let place : place_among n (map living_number rows) ≡ length f.before =
        ap (λ z. place_among n (map living_number z)) f.are
        ∙ ap (λ m. place_among m (map living_number (f.before ++ f.row ∷ f.after))) n_is
        ∙ place_around f.row.number f.before (f.row ∷ f.after) f.lower (place_row f.row.number f.row f.after refl) in
        let x_is : x ≡ f.row = x_at ∙ ap (λ i. get_or rows i x) place ∙ ap (λ z. get_or z (length f.before) x) f.are
        ∙ get_or_at f.before f.row f.after x (length f.before) refl in
        let made = sends_row q f.before f.row f.after f.none f.free f.lower
        (subst (λ z. Rises (map living_number z)) f.are rises) (sym (ap (times_in q) f.are) ∙ times) in
        subst (λ z. Sends q z n x) (sym f.are)
        (subst (λ m. Sends q (f.before ++ f.row ∷ f.after) m x) (sym n_is)
        (subst (λ y. Sends q (f.before ++ f.row ∷ f.after) f.row.number y) (sym x_is) made))

-- a list with one more, and with one less, in its middle
pub insert_around : {A : Type 0} (before after : List A) (x : A) (n : ℕ) → n ≡ length before
    → insert (before ++ after) n x ≡ before ++ x ∷ after
insert_around {A = A} before after x n e = ap (λ i. insert (before ++ after) i x) e ∙ here before
  where
    here : (before : List A) → insert (before ++ after) (length before) x ≡ before ++ x ∷ after
    here [] = refl
    here (b ∷ before) = ap (λ z. b ∷ z) (here before)

pub remove_around : {A : Type 0} (before after : List A) (x : A) (n : ℕ) → n ≡ length before
    → remove (before ++ x ∷ after) n ≡ before ++ after
remove_around {A = A} before after x n e = ap (λ i. remove (before ++ x ∷ after) i) e ∙ here before
  where
    here : (before : List A) → remove (before ++ x ∷ after) (length before) ≡ before ++ after
    here [] = refl
    here (b ∷ before) = ap (λ z. b ∷ z) (here before)

pub length_join : {A : Type 0} (xs ys : List A) → length (xs ++ ys) ≡ length xs + length ys
length_join [] ys = omega arith
length_join (x ∷ xs) ys = let r = length_join xs ys in omega arith

pub free_fewer : (rows : List Living) → length (free_numbers rows) ≤ length rows
free_fewer [] = omega arith
free_fewer (r ∷ rows) = by_test (has_free r) (free_fewer rows)
  where
    by_test : (b : Bool) → length (free_numbers rows) ≤ length rows
        → length (if b then r.number ∷ free_numbers rows else free_numbers rows) ≤ suc (length rows)
    by_test true e = omega arith
    by_test false e = omega arith

pub lives_slots : (k q : ℕ) (rows : List Living) → is_open q (slots_in k rows) ≡ true → lives k rows ≡ true
lives_slots k q rows e = by_case (find_proc k rows) e
  where
    by_case : (o : Option Channels) → is_open q (slots_by o) ≡ true → is_some o ≡ true
    by_case None e = e
    by_case (Some p) e = refl

pub find_around : (k : ℕ) (before : List Living) (row : Living) (after : List Living) → row.number ≡ k → Lower k before
    → find_proc k (before ++ row ∷ after) ≡ Some row.process
find_around k before row after e low = find_lower k before (row ∷ after) low
    ∙ if_true (k == row.number) (Some row.process) (find_proc k after) (same row.number k e)

pub frees_full : (before : List Living) (row : Living) (after : List Living) → has_free row ≡ false
    → free_numbers (before ++ row ∷ after) ≡ free_numbers before ++ free_numbers after
frees_full before row after f = free_append before (row ∷ after)
    ∙ ap (λ z. free_numbers before ++ z)
    (if_false (has_free row) (row.number ∷ free_numbers after) (free_numbers after) f)

pub frees_more : (before : List Living) (row : Living) (after : List Living) → has_free row ≡ true
    → free_numbers (before ++ row ∷ after) ≡ free_numbers before ++ row.number ∷ free_numbers after
frees_more before row after f = free_append before (row ∷ after)
    ∙ ap (λ z. free_numbers before ++ z)
    (if_true (has_free row) (row.number ∷ free_numbers after) (free_numbers after) f)

-- what a reply to question q of process k needs and leaves; x is the process at its place
pub record Settles (k q : ℕ) (rows : List Living) (x : Living) : Type 0 where
  pub opened : is_open q x.process.slots ≡ true
  pub rows_are : set rows (place_among k (map living_number rows))
      (record x { process = record x.process { slots = settled q x.process.slots } }) ≡ settled_in k q rows
  pub rises : Rises (map living_number (settled_in k q rows))
  pub fewer : free_count x.process.slots ≡ 0 → length (free_numbers rows) < length rows
  pub full : free_count x.process.slots ≡ 0
      → insert (free_numbers rows) (place_among k (free_numbers rows)) k ≡ free_numbers (settled_in k q rows)
  pub more : 0 < free_count x.process.slots → free_numbers rows ≡ free_numbers (settled_in k q rows)
  pub length_is : length (settled_in k q rows) ≡ length rows

pub settles_row : (k q : ℕ) (before : List Living) (row : Living) (after : List Living) → row.number ≡ k
    → Lower k before → Higher k after → is_open q row.process.slots ≡ true
    → Rises (map living_number (before ++ row ∷ after)) → Settles k q (before ++ row ∷ after) row
settles_row k q before row after e low high opened rises =
    let row' : Living = record row { process = record row.process { slots = settled q row.process.slots } } in
    let settled_is : settled_in k q (before ++ row ∷ after) ≡ before ++ row' ∷ after =
    settled_lower k q before (row ∷ after) low
    ∙ ap (λ z. before ++ z) (ap (λ r. r ∷ settled_in k q after)
    (if_true (k == row.number) row' row (same row.number k e)) ∙ ap (λ z. row' ∷ z) (settled_higher k q after high)) in
    let free' : has_free row' ≡ true =
    lt-ltb 0 (free_count (settled q row.process.slots))
    (let a = free_settled q row.process.slots in let b = some_open q row.process.slots opened in omega arith) in
    record {
      opened = opened;
      rows_are = ap (λ i. set (before ++ row ∷ after) i row')
          (place_around k before (row ∷ after) low (place_row k row after e))
          ∙ set_at before row after row' (length before) refl ∙ sym settled_is;
      rises = subst (λ z. Rises (map living_number z)) (sym settled_is) (rises_same before row row' after refl rises);
      fewer = λ f. let a = ap length
          (frees_full before row after (le-ltb 0 (free_count row.process.slots) (omega (arith, f)))) in
          let b = length_join (free_numbers before) (free_numbers after) in let c = length_join before (row ∷ after) in
          let d = free_fewer before in let g = free_fewer after in omega arith;
      full = λ f. let frees = frees_full before row after
          (le-ltb 0 (free_count row.process.slots) (omega (arith, f))) in
          ap (λ z. insert z (place_among k z) k) frees
          ∙ insert_around (free_numbers before) (free_numbers after) k
          (place_among k (free_numbers before ++ free_numbers after))
          (place_free k before (free_numbers after) low (place_above k (free_numbers after) (free_above k after high)))
          ∙ ap (λ n. free_numbers before ++ n ∷ free_numbers after) (sym e)
          ∙ sym (ap free_numbers settled_is ∙ frees_more before row' after free');
      more = λ l. frees_more before row after (lt-ltb 0 (free_count row.process.slots) l)
          ∙ sym (ap free_numbers settled_is ∙ frees_more before row' after free');
      length_is = ap length settled_is ∙ length_around before row' row after;
    }

pub lives_within : (k : ℕ) (rows : List Living) → Rises (map living_number rows) → lives k rows ≡ true
    → place_among k (map living_number rows) < length rows
lives_within k rows rises e =
    let f = around k rows rises e in
    let place = ap (λ z. place_among k (map living_number z)) f.are
    ∙ place_around k f.before (f.row ∷ f.after) f.lower (place_row k f.row f.after f.number) in
    let l = within_around f.before f.row f.after in
    let len = ap length f.are in
    omega arith

pub settles : (k q : ℕ) (rows : List Living) (x : Living) → Rises (map living_number rows)
    → is_open q (slots_in k rows) ≡ true
    → x ≡ get_or rows (place_among k (map living_number rows)) x → Settles k q rows x
settles k q rows x rises opened x_at =
    let f = around k rows rises (lives_slots k q rows opened) in
    let place : place_among k (map living_number rows) ≡ length f.before =
    ap (λ z. place_among k (map living_number z)) f.are
    ∙ place_around k f.before (f.row ∷ f.after) f.lower (place_row k f.row f.after f.number) in
    let x_is : x ≡ f.row = x_at ∙ ap (λ i. get_or rows i x) place ∙ ap (λ z. get_or z (length f.before) x) f.are
    ∙ get_or_at f.before f.row f.after x (length f.before) refl in
    let found : find_proc k rows ≡ Some f.row.process = ap (find_proc k) f.are
    ∙ find_around k f.before f.row f.after f.number f.lower in
    let made = settles_row k q f.before f.row f.after f.number f.lower f.higher
    (sym (ap (λ o. is_open q (slots_by o)) found) ∙ opened) (subst (λ z. Rises (map living_number z)) f.are rises) in
    subst (λ z. Settles k q z x) (sym f.are) (subst (λ y. Settles k q (f.before ++ f.row ∷ f.after) y) (sym x_is) made)

-- what the end of process k needs and leaves
pub record Removes (k : ℕ) (rows : List Living) (x : Living) : Type 0 where
  pub process : Some x.process ≡ find_proc k rows
  pub rows_are : remove rows (place_among k (map living_number rows)) ≡ without k rows
  pub rises : Rises (map living_number (without k rows))
  pub within : 0 < free_count x.process.slots → place_among k (free_numbers rows) < length (free_numbers rows)
  pub had : 0 < free_count x.process.slots
      → remove (free_numbers rows) (place_among k (free_numbers rows)) ≡ free_numbers (without k rows)
  pub full : free_count x.process.slots ≡ 0 → free_numbers rows ≡ free_numbers (without k rows)
  pub length_is : suc (length (without k rows)) ≡ length rows

pub removes_row : (k : ℕ) (before : List Living) (row : Living) (after : List Living) → row.number ≡ k → Lower k before
    → Higher k after
    → Rises (map living_number (before ++ row ∷ after)) → Removes k (before ++ row ∷ after) row
removes_row k before row after e low high rises =
    let without_is : without k (before ++ row ∷ after) ≡ before ++ after =
    without_lower k before (row ∷ after) low
    ∙ ap (λ z. before ++ z) (if_true (k == row.number) (without k after) (row ∷ without k after) (same row.number k e)
    ∙ without_higher k after high) in
    let place = λ (rest : List ℕ). λ (p : place_among k rest ≡ 0). place_free k before rest low p in
    record {
      process = sym (find_around k before row after e low);
      rows_are = remove_around before after row (place_among k (map living_number (before ++ row ∷ after)))
          (place_around k before (row ∷ after) low (place_row k row after e)) ∙ sym without_is;
      rises = subst (λ z. Rises (map living_number z)) (sym without_is) (rises_without before row after rises);
      within = λ l. let frees = frees_more before row after (lt-ltb 0 (free_count row.process.slots) l) in
          let a = ap (place_among k) frees
          ∙ place (row.number ∷ free_numbers after)
          (if_false (nat_lt row.number k) (suc (place_among k (free_numbers after))) 0
          (le-ltb row.number k (omega (arith, e)))) in
          let b = ap length frees in let c = length_join (free_numbers before) (row.number ∷ free_numbers after) in
          omega arith;
      had = λ l. let frees = frees_more before row after (lt-ltb 0 (free_count row.process.slots) l) in
          ap (λ z. remove z (place_among k z)) frees
          ∙ remove_around (free_numbers before) (free_numbers after) row.number
          (place_among k (free_numbers before ++ row.number ∷ free_numbers after))
          (place (row.number ∷ free_numbers after)
          (if_false (nat_lt row.number k) (suc (place_among k (free_numbers after))) 0
          (le-ltb row.number k (omega (arith, e)))))
          ∙ sym (ap free_numbers without_is ∙ free_append before after);
      full = λ f. frees_full before row after (le-ltb 0 (free_count row.process.slots) (omega (arith, f)))
          ∙ sym (ap free_numbers without_is ∙ free_append before after);
      length_is = let a = ap length without_is in let b = length_join before after in
          let c = length_join before (row ∷ after) in omega arith;
    }

pub removes : (k : ℕ) (rows : List Living) (x : Living) → Rises (map living_number rows) → lives k rows ≡ true
    → x ≡ get_or rows (place_among k (map living_number rows)) x → Removes k rows x
removes k rows x rises alive x_at =
    let f = around k rows rises alive in
    let place : place_among k (map living_number rows) ≡ length f.before =
    ap (λ z. place_among k (map living_number z)) f.are
    ∙ place_around k f.before (f.row ∷ f.after) f.lower (place_row k f.row f.after f.number) in
    let x_is : x ≡ f.row = x_at ∙ ap (λ i. get_or rows i x) place ∙ ap (λ z. get_or z (length f.before) x) f.are
    ∙ get_or_at f.before f.row f.after x (length f.before) refl in
    let made = removes_row k f.before f.row f.after f.number f.lower f.higher
    (subst (λ z. Rises (map living_number z)) f.are rises) in
    subst (λ z. Removes k z x) (sym f.are) (subst (λ y. Removes k (f.before ++ f.row ∷ f.after) y) (sym x_is) made)

pub without_none : (k : ℕ) (rows : List Living) → lives k rows ≡ false → without k rows ≡ rows
without_none k [] e = refl
without_none k (r ∷ rows) e = ⊎_elim (λ y. absurd cc)
    (λ y. if_false (k == r.number) (without k rows) (r ∷ without k rows) y
    ∙ ap (λ z. r ∷ z) (without_none k rows
    (sym (ap is_some (if_false (k == r.number) (Some r.process) (find_proc k rows) y)) ∙ e))) (cases_Bool
    (k == r.number))

pub find-none : (k : ℕ) (rows : List Living) → lives k rows ≡ false → find_proc k rows ≡ None
find-none k rows e = by_case (find_proc k rows) e
  where
    by_case : (o : Option Channels) → is_some o ≡ false → o ≡ None
    by_case None e = refl
    by_case (Some p) e = cc

-- what one process more leaves
pub record Inserts (p : Living) (rows : List Living) : Type 0 where
  pub rows_are : insert rows (place_among p.number (map living_number rows)) p ≡ with_proc p rows
  pub rises : Rises (map living_number (with_proc p rows))
  pub frees : insert (free_numbers rows) (place_among p.number (free_numbers rows)) p.number
      ≡ free_numbers (with_proc p rows)
  pub length_is : length (with_proc p rows) ≡ suc (length rows)

pub place_higher : (k : ℕ) (before after : List Living) → Lower k before → Higher k after
    → place_among k (map living_number (before ++ after)) ≡ length before
place_higher k before after low high = place_around k before after low (place_above k (map living_number after) high)

pub inserts_gap : (p : Living) (before after : List Living) → has_free p ≡ true → Lower p.number before
    → Higher p.number after → Rises (map living_number (before ++ after)) → Inserts p (before ++ after)
inserts_gap p before after free low high rises =
    let with_is : with_proc p (before ++ after) ≡ before ++ p ∷ after = with_lower p before after low
    ∙ ap (λ z. before ++ z) (with_higher p after high) in
    record {
      rows_are = insert_around before after p (place_among p.number (map living_number (before ++ after)))
          (place_higher p.number before after low high) ∙ sym with_is;
      rises = subst (λ z. Rises (map living_number z)) (sym with_is) (rises_with p before after low high rises);
      frees = ap (λ z. insert z (place_among p.number z) p.number) (free_append before after)
          ∙ insert_around (free_numbers before) (free_numbers after) p.number
          (place_among p.number (free_numbers before ++ free_numbers after))
          (place_free p.number before (free_numbers after) low
          (place_above p.number (free_numbers after) (free_above p.number after high)))
          ∙ sym (ap free_numbers with_is ∙ frees_more before p after free);
      length_is = let a = ap length with_is in let b = length_join before (p ∷ after) in
          let c = length_join before after in omega arith;
    }

pub inserts : (p : Living) (rows : List Living) → has_free p ≡ true → Rises (map living_number rows)
    → lives p.number rows ≡ false → Inserts p rows
inserts p rows free rises other =
    let g = gap p.number rows rises other in
    subst (λ z. Inserts p z) (sym g.are)
    (inserts_gap p g.before g.after free g.lower g.higher (subst (λ z. Rises (map living_number z)) g.are rises))

pub same_number : (k : ℕ) (row : Living) → row.number ≡ k → (k == row.number) ≡ true
same_number k row e = grind (arith, e)

pub without_around : (k : ℕ) (before : List Living) (row : Living) (after : List Living) → row.number ≡ k
    → Lower k before → Higher k after → without k (before ++ row ∷ after) ≡ before ++ after
without_around k before row after e low high =
    without_lower k before (row ∷ after) low
    ∙ ap (λ z. before ++ z) (if_true (k == row.number) (without k after) (row ∷ without k after) (same_number k row e)
    ∙ without_higher k after high)

pub times_join : (q : ℕ) (xs ys : List Living) → times_in q (xs ++ ys) ≡ times_in q xs + times_in q ys
times_join q [] ys = omega arith
times_join q (x ∷ xs) ys = let r = times_join q xs ys in omega arith

pub settled_around : (k q : ℕ) (before : List Living) (row : Living) (after : List Living) → row.number ≡ k
    → Lower k before → Higher k after
    → settled_in k q (before ++ row ∷ after) ≡ before
    ++ record row { process = record row.process { slots = settled q row.process.slots } } ∷ after
settled_around k q before row after e low high =
    let row' : Living = record row { process = record row.process { slots = settled q row.process.slots } } in
    settled_lower k q before (row ∷ after) low
    ∙ ap (λ z. before ++ z) (ap (λ r. r ∷ settled_in k q after)
    (if_true (k == row.number) row' row (same_number k row e)) ∙ ap (λ z. row' ∷ z) (settled_higher k q after high))

pub target_none : (rows : List Living) → some_free rows ≡ false → target rows ≡ None
target_none [] e = refl
target_none (r ∷ rows) e = ⊎_elim (λ y. absurd cc)
    (λ y. if_false (has_free r) (Some (r.number, channel_name r.process.numbered (least_free r.process.slots)))
    (target rows) y ∙ target_none rows (sym (if_false (has_free r) true (some_free rows) y) ∙ e))
    (cases_Bool (has_free r))

-- the process at the place of the first with a free channel is where the next question goes
pub target_at : (rows : List Living) (n : ℕ) (x : Living) → Rises (map living_number rows) → some_free rows ≡ true
    → n ≡ get_or (free_numbers rows) 0 n
    → x ≡ get_or rows (place_among n (map living_number rows)) x
    → (0 < free_count x.process.slots)
    × (Some (n, channel_name x.process.numbered (least_free x.process.slots)) ≡ target rows)
target_at rows n x rises some n_at x_at =
    let f = first rows rises some in
    let n_is : n ≡ f.row.number = n_at
    ∙ ap (λ z. get_or z 0 n) (ap free_numbers f.are ∙ frees_first f.before f.row f.after f.none f.free) in
    let place : place_among n (map living_number rows) ≡ length f.before =
    ap (λ z. place_among n (map living_number z)) f.are
    ∙ ap (λ m. place_among m (map living_number (f.before ++ f.row ∷ f.after))) n_is
    ∙ place_around f.row.number f.before (f.row ∷ f.after) f.lower (place_row f.row.number f.row f.after refl) in
    let x_is : x ≡ f.row = x_at ∙ ap (λ i. get_or rows i x) place ∙ ap (λ z. get_or z (length f.before) x) f.are
    ∙ get_or_at f.before f.row f.after x (length f.before) refl in
    let aim : Some (f.row.number, channel_name f.row.process.numbered (least_free f.row.process.slots)) ≡ target rows =
    sym (ap target f.are ∙ target_first f.before f.row f.after f.none f.free) in (
      subst (λ y. 0 < free_count y.process.slots) (sym x_is) (ltb-true 0 (free_count f.row.process.slots) f.free),
      subst (λ m. Some (m, channel_name x.process.numbered (least_free x.process.slots)) ≡ target rows) (sym n_is)
          (subst (λ y. Some (f.row.number, channel_name y.process.numbered (least_free y.process.slots)) ≡ target rows)
          (sym x_is) aim),
    )
