-- A class after a reply.
use Rattle.std.proofs.Common.{◌≡◌, ℕ, ◌≤◌, max, List, ◌∷◌, map, map-id, Bool, true, false, not, ◌&&◌, ◌||◌, ◌==◌, nat_le, nat_lt, if◌then◌else◌, Option, Some, None, is_some, refl, sym, ap, ap₂, ◌∙◌}
use Rattle.std.proofs.lemmas.Bool.{le-leb, and_left, and_right}
use Rattle.sq_base.proofs.CommonLaws.{eq_turned}
use Rattle.sq_base.specs.Replies.{reply_of}
use Rattle.sq_base.specs.declared.helpers.What.{What}
use Rattle.sq_base.specs.declared.helpers.Word.{Word}
use Rattle.sq_machine.specs.declared.entries.Event.TheVariants.{Line}
use Rattle.sq_machine.specs.declared.entries.Told.{Told}
use Rattle.sq_machine.specs.declared.entries.Told.TheVariants as told
use Rattle.sq_machine.specs.Channels.{channel_name, freed, settled}
use Rattle.sq_rules.specs.Classes.{Class}
use Rattle.sq_rules.specs.Configurations.{Configuration}
use Rattle.sq_machine.specs.Epochs.{class_at}
use Rattle.sq_machine.specs.Events.{is_number}
use Rattle.sq_machine.specs.FarmReadings.{farm_with, is_held, is_put_for, is_queued, living_of, waiting_of}
use Rattle.sq_machine.specs.KeptLists.{CachedReplies}
use Rattle.sq_machine.specs.KeptReadings.{keep_reply, kept, key_here}
use Rattle.sq_machine.specs.Living.{settled_row}
use Rattle.sq_machine.specs.Marks.{Marked, Past, Put, entries}
use Rattle.sq_machine.specs.Numbered.{below}
use Rattle.sq_machine.specs.OpenLookups.{LookupRow}
use Rattle.sq_machine.specs.Processes.{if_here, is_at_home, is_running, proc_count, runs_at}
use Rattle.sq_machine.specs.Questions.{first_end, has_ended, put_count, put_of, question_end, said_by, sent_to}
use Rattle.sq_machine.specs.Transcripts.{after_use, clears, holder, keeps, stands_on}
use Rattle.sq_model.specs.ClassRows.{after_reply, class_row, is_asked, lookup_of}
use Rattle.sq_model.specs.MarkedEntries.{noted_at}
use Rattle.sq_model.proofs.ClassParts.{and_true, equal}
use Rattle.sq_model.proofs.FailLaws.{ended_if}
use Rattle.sq_model.proofs.LineLaws.{StandsOnlyOn, cleared, map_below}
use Rattle.sq_model.proofs.RowLaws.{rows_changed, rows_left, rows_same}

-- which questions have ended after a reply
pub replied_ends : (configs : List Configuration) (m : Past) (now k : ℕ) (bytes : List ℕ) (q : ℕ) (w : Word) (v : What)
    (j : ℕ) → said_by configs m k bytes ≡ Some v → j ≤ put_count m
    → has_ended configs (noted_at now (Line k bytes) (told.Reply q w) ∷ m) j ≡ ((j == q) || has_ended configs m j)
replied_ends configs m now k bytes q w v j says high =
    ap₂ (λ (b : Bool) (o : Option What). is_some (first_end now (if_here ((j == q) && b) o) (question_end configs m j)))
    (le-leb j (put_count m) high) says
    ∙ ended_if now ((j == q) && true) v (question_end configs m j)
    ∙ ap (λ (b : Bool). b || has_ended configs m j) (and_true (j == q))

-- a line of process k does nothing on the channels of another
pub other_living : (concurrency : ℕ) (m : Past) (now k : ℕ) (bytes : List ℕ) (answer : Told) (j : ℕ) → (j == k) ≡ false
    → living_of concurrency (entries (noted_at now (Line k bytes) answer ∷ m)) j ≡ living_of concurrency (entries m) j
other_living concurrency m now k bytes answer j other =
    ap (λ (s : List (Option ℕ)). record { number = j; process = record { numbered = nat_lt 0 concurrency; slots = s } })
    (map_below (λ (n : ℕ). holder (nat_lt 0 concurrency) (entries (noted_at now (Line k bytes) answer ∷ m)) j
    (channel_name (nat_lt 0 concurrency) n)) (λ (o : Option ℕ). o)
    (λ (n : ℕ). holder (nat_lt 0 concurrency) (entries m) j (channel_name (nat_lt 0 concurrency) n)) (max 1 concurrency)
    (λ n l. ap (λ (b : Bool). after_use
    (if b && nat_le j (proc_count (entries m))
    && stands_on (reply_of (nat_lt 0 concurrency) bytes) (channel_name (nat_lt 0 concurrency) n) then clears else keeps)
    (holder (nat_lt 0 concurrency) (entries m) j (channel_name (nat_lt 0 concurrency) n))) other)
    ∙ map-id (map (λ (n : ℕ). holder (nat_lt 0 concurrency) (entries m) j (channel_name (nat_lt 0 concurrency) n))
    (below (max 1 concurrency))))

-- process k after a reply to question q
pub settled_living : (concurrency : ℕ) (m : Past) (now k : ℕ) (bytes : List ℕ) (answer : Told) (q j : ℕ) (b : Bool)
    → (k == j) ≡ b → j ≤ proc_count (entries m)
    → StandsOnlyOn concurrency (entries m) k bytes q
    → living_of concurrency (entries (noted_at now (Line k bytes) answer ∷ m)) j
    ≡ settled_row k q (living_of concurrency (entries m) j)
settled_living concurrency m now k bytes answer q j true same high only =
    ap (λ (s : List (Option ℕ)). record { number = j; process = record { numbered = nat_lt 0 concurrency; slots = s } })
    (map_below (λ (n : ℕ). holder (nat_lt 0 concurrency) (entries (noted_at now (Line k bytes) answer ∷ m)) j
    (channel_name (nat_lt 0 concurrency) n)) (freed q)
    (λ (n : ℕ). holder (nat_lt 0 concurrency) (entries m) j (channel_name (nat_lt 0 concurrency) n)) (max 1 concurrency)
    (λ n l. ap₂ (λ (a b : Bool). after_use
    (if a && b && stands_on (reply_of (nat_lt 0 concurrency) bytes) (channel_name (nat_lt 0 concurrency) n) then clears
    else keeps)
    (holder (nat_lt 0 concurrency) (entries m) j (channel_name (nat_lt 0 concurrency) n))) (eq_turned j k
    ∙ same) (le-leb j (proc_count (entries m)) high)
    ∙ cleared q (stands_on (reply_of (nat_lt 0 concurrency) bytes) (channel_name (nat_lt 0 concurrency) n))
    (holder (nat_lt 0 concurrency) (entries m) j (channel_name (nat_lt 0 concurrency) n))
    (only.stands_is n l ∙ ap (λ (i : ℕ). is_number q
    (holder (nat_lt 0 concurrency) (entries m) i (channel_name (nat_lt 0 concurrency) n))) (equal k j same))))
    ∙ sym (ap (λ (b : Bool). let r = living_of concurrency (entries m) j in
    if b then record r { process = record r.process { slots = settled q r.process.slots } } else r) same)
settled_living concurrency m now k bytes answer q j false other high only =
    other_living concurrency m now k bytes answer j (eq_turned j k ∙ other)
    ∙ sym (ap (λ (b : Bool). let r = living_of concurrency (entries m) j in
    if b then record r { process = record r.process { slots = settled q r.process.slots } } else r) other)

-- a process that runs in a class is not one that is of another
pub elsewhere : (m : Past) (e : ℕ) (name : List ℕ) (k j : ℕ) (b : Bool) → (j == k) ≡ b
    → is_at_home (entries m) e name k ≡ false → runs_at (entries m) e name j ≡ true → b ≡ false
elsewhere m e name k j true same away runs =
    let none : runs_at (entries m) e name j ≡ false =
    and_left (is_at_home (entries m) e name j) (is_running (entries m) j)
    (ap (is_at_home (entries m) e name) (equal j k same) ∙ away) in
    absurd (cc)
elsewhere m e name k j false same away runs = refl

-- the class whose process said the reply
pub class_replied : (configs : List Configuration) (m : Past) (now k : ℕ) (bytes : List ℕ) (q : ℕ) (w : Word) (v : What)
    (p : Put) (e c : ℕ) (class : Class)
    → class_at configs e c ≡ Some class → put_of m q ≡ Some p → is_put_for e c (Some p) ≡ true
    → is_some (sent_to m q) ≡ true → said_by configs m k bytes ≡ Some v
    → StandsOnlyOn class.concurrency (entries m) k bytes q
    → class_row configs (noted_at now (Line k bytes) (told.Reply q w) ∷ m) e c class
    ≡ after_reply class k q p.key v now (class_row configs m e c class)
class_replied configs m now k bytes q w v p e c class at put here sent says only =
    λ i. record {
      kept = (ap₂ (λ (o : Option Class) (z : Option Put). keep_reply o q (key_here e c z) now
          (said_by configs m k bytes) (kept configs m e c)) at put
          ∙ ap₂ (λ (b : Bool) (o : Option What). keep_reply (Some class) q (if b then Some p.key else None) now o
          (kept configs m e c)) here says) i;
      lookups = rows_left (λ (l : LookupRow). not (q == l.question)) (lookup_of m) (lookup_of m)
          (is_asked configs m e c) (is_asked configs (x ∷ m) e c) (put_count m)
          (λ j low high. ap (λ (d : Bool). is_put_for e c (put_of m j) && not d)
          (replied_ends configs m now k bytes q w v j says high)
          ∙ left_by (is_put_for e c (put_of m j)) (j == q) (has_ended configs m j)
          ∙ ap (λ (b : Bool). is_asked configs m e c j && not b) (eq_turned j q))
          (λ j low high picked. refl) i;
      stock = record (farm_with configs m e c class) {
        queue = rows_same (waiting_of m) (waiting_of m) (is_queued configs m e c) (is_queued configs (x ∷ m) e c)
            (put_count m)
            (λ j low high. ap (λ (d : Bool). is_put_for e c (put_of m j) && not (is_some (sent_to m j)) && not d)
            (replied_ends configs m now k bytes q w v j says high)
            ∙ queued_by (is_put_for e c (put_of m j)) (is_some (sent_to m j)) (j == q) (has_ended configs m j)
            (λ t. ap (λ (i : ℕ). is_some (sent_to m i)) (equal j q t) ∙ sent))
            (λ j low high picked. refl) i;
        procs = rows_changed (settled_row k q) (living_of class.concurrency (entries m))
            (living_of class.concurrency (entries (x ∷ m))) (runs_at (entries m) e class.name)
            (runs_at (entries (x ∷ m)) e class.name) (proc_count (entries m)) (λ j low high. refl)
            (λ j low high picked. settled_living class.concurrency m now k bytes (told.Reply q w) q j (k == j) refl high
            only) i;
        held = ap (λ (b : Bool). if b then false else is_held m e c class.name)
            (and_right (is_at_home (entries m) e class.name k) false refl) i;
      };
    }
  where
    x : Marked
    x = noted_at now (Line k bytes) (told.Reply q w)

    left_by : (a b d : Bool) → (a && not (b || d)) ≡ ((a && not d) && not b)
    left_by true true true = refl
    left_by true true false = refl
    left_by true false true = refl
    left_by true false false = refl
    left_by false b d = refl

    queued_by : (a s b d : Bool) → (b ≡ true → s ≡ true) → (a && not s && not (b || d)) ≡ (a && not s && not d)
    queued_by true true b d e = refl
    queued_by true false true d e = absurd (let no = e refl in cc)
    queued_by true false false d e = refl
    queued_by false s b d e = refl

no_key : (o : Option Put) (e c : ℕ) → is_put_for e c o ≡ false → key_here e c o ≡ None
no_key None e c other = refl
no_key (Some p) e c other = ap (λ (b : Bool). if b then Some p.key else None) other

keeps_none : (o : Option Class) (q date : ℕ) (w : Option What) (k : CachedReplies) → keep_reply o q None date w k ≡ k
keeps_none None q date w k = refl
keeps_none (Some class) q date w k = refl

-- another class
pub class_not_replied : (configs : List Configuration) (m : Past) (now k : ℕ) (bytes : List ℕ) (q : ℕ) (w : Word)
    (v : What) (e c : ℕ) (class : Class)
    → is_put_for e c (put_of m q) ≡ false → is_at_home (entries m) e class.name k ≡ false
    → said_by configs m k bytes ≡ Some v
    → class_row configs (noted_at now (Line k bytes) (told.Reply q w) ∷ m) e c class ≡ class_row configs m e c class
class_not_replied configs m now k bytes q w v e c class other away says =
    λ i. record {
      kept = (ap (λ (o : Option (List ℕ)). keep_reply (class_at configs e c) q o now (said_by configs m k bytes)
          (kept configs m e c)) (no_key (put_of m q) e c other)
          ∙ keeps_none (class_at configs e c) q now (said_by configs m k bytes) (kept configs m e c)) i;
      lookups = rows_same (lookup_of m) (lookup_of m) (is_asked configs m e c) (is_asked configs (x ∷ m) e c)
          (put_count m)
          (λ j low high. ap (λ (d : Bool). is_put_for e c (put_of m j) && not d)
          (replied_ends configs m now k bytes q w v j says high)
          ∙ not_asked (is_put_for e c (put_of m j)) (j == q) (has_ended configs m j) (mine j))
          (λ j low high picked. refl) i;
      stock = record (farm_with configs m e c class) {
        queue = rows_same (waiting_of m) (waiting_of m) (is_queued configs m e c) (is_queued configs (x ∷ m) e c)
            (put_count m)
            (λ j low high. ap (λ (d : Bool). is_put_for e c (put_of m j) && not (is_some (sent_to m j)) && not d)
            (replied_ends configs m now k bytes q w v j says high)
            ∙ not_here (is_put_for e c (put_of m j)) (not (is_some (sent_to m j))) (j == q) (has_ended configs m j)
            (mine j))
            (λ j low high picked. refl) i;
        procs = rows_same (living_of class.concurrency (entries m)) (living_of class.concurrency (entries (x ∷ m)))
            (runs_at (entries m) e class.name)
            (runs_at (entries (x ∷ m)) e class.name) (proc_count (entries m)) (λ j low high. refl)
            (λ j low high runs. other_living class.concurrency m now k bytes (told.Reply q w) j
            (elsewhere m e class.name k j (j == k) refl away runs)) i;
        held = ap (λ (b : Bool). if b then false else is_held m e c class.name)
            (and_right (is_at_home (entries m) e class.name k) false refl) i;
      };
    }
  where
    x : Marked
    x = noted_at now (Line k bytes) (told.Reply q w)

    mine : (j : ℕ) → (j == q) ≡ true → is_put_for e c (put_of m j) ≡ false
    mine j t = ap (λ (i : ℕ). is_put_for e c (put_of m i)) (equal j q t) ∙ other

    not_asked : (a b d : Bool) → (b ≡ true → a ≡ false) → (a && not (b || d)) ≡ (a && not d)
    not_asked true true d e = absurd (let no = e refl in cc)
    not_asked true false d e = refl
    not_asked false b d e = refl

    not_here : (a s b d : Bool) → (b ≡ true → a ≡ false) → (a && s && not (b || d)) ≡ (a && s && not d)
    not_here true s true d e = absurd (let no = e refl in cc)
    not_here true s false d e = refl
    not_here false s b d e = refl
