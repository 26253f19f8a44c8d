-- A reply of a process: the state after it stands for the history with the line.
use Rattle.std.proofs.Common.{◌≡◌, ℕ, List, [], ◌∷◌, Bool, true, false, not, ◌&&◌, ◌==◌, nat_le, nat_lt, if◌then◌else◌, Option, Some, None, is_some, refl, sym, ap, ap₂, subst, ◌∙◌}
use Rattle.std.specs.Option.{option_map, option_map_or}
use Rattle.std.proofs.lemmas.Bool.{and_parts}
use Rattle.std.proofs.lemmas.Option.{none-some, same_Some}
use Rattle.sq_base.specs.declared.helpers.Reply.{Reply}
use Rattle.sq_base.specs.declared.helpers.What.{What}
use Rattle.sq_base.specs.Replies.{reply_of}
use Rattle.sq_machine.specs.declared.entries.Event.TheVariants.{Line}
use Rattle.sq_machine.specs.declared.entries.Told.TheVariants as told
use Rattle.sq_machine.specs.Channels.{Channels}
use Rattle.sq_rules.specs.Classes.{Class}
use Rattle.sq_rules.specs.Configurations.{Configuration}
use Rattle.sq_machine.specs.DueActs.{ClassId}
use Rattle.sq_machine.specs.Epochs.{is_live, config_of}
use Rattle.sq_machine.specs.FarmReadings.{is_put_for}
use Rattle.sq_machine.specs.Marks.{Marked, Past, Put, entries}
use Rattle.sq_machine.specs.OpenLookups.{LookupRow, key_of}
use Rattle.sq_machine.specs.Questions.{has_ended, put_count, put_of, said_by, what_of}
use Rattle.sq_machine.specs.Transcripts.{ReplyTo, channels_of, line_is, line_told}
use Rattle.sq_model.specs.CheckRows.{Ends, after_ends, ends_at, held_checks, one_end, served}
use Rattle.sq_model.specs.ClassRows.{ClassRow, after_reply, class_row, is_asked, lookup_of, lookups}
use Rattle.sq_model.specs.MarkedEntries.{noted_at}
use Rattle.sq_model.proofs.CheckLaws.{held_ended}
use Rattle.sq_model.proofs.ClassParts.{IsPutFor, put_for}
use Rattle.sq_model.proofs.ElsewhereLaws.{away_from, put_once}
use Rattle.sq_model.proofs.EndLaws.{after_ends_same, ends_replied}
use Rattle.sq_model.proofs.EpochLaws.{live_kept}
use Rattle.sq_model.proofs.LegalLaws.{IsReplied, channels_are, line_replied}
use Rattle.sq_model.proofs.LineLaws.{RepliesTo, replies_to}
use Rattle.sq_model.proofs.ReplyLaws.{class_not_replied, class_replied}
use Rattle.sq_model.proofs.RowLaws.{picked, row_found}
use Rattle.sq_model.specs.Answers.{channels_in}
use Rattle.sq_model.specs.Changes.{after_reply_at}
use Rattle.sq_model.specs.Says.{class_in}
use Rattle.sq_model.specs.States.{Stands, State}
use Rattle.sq_model.proofs.StartStands.{served_asked}
use Rattle.sq_model.proofs.EndStands.{LeavesProcs, homes_stay, kept_there, leaves_procs, stops_stay}
use Rattle.sq_model.proofs.InsideStands.{other_place, rows_at, stands_inside}
use Rattle.sq_model.proofs.Lawful.{Lawful, class_live}
use Rattle.sq_model.proofs.PlaceStands.{LivesAt, channels_there, home_lives, row_there, told_there}

-- a question among the open lookups of a class was put for it, with this key
record AsksKey (m : Past) (e c q : ℕ) (key : List ℕ) : Type 0 where
  put : is_put_for e c (put_of m q) ≡ true
  key_is : option_map_or (λ p. p.key) (put_of m q) [] ≡ key

asks_key : (configs : List Configuration) (m : Past) (e c q : ℕ) (key : List ℕ)
    → key_of q (lookups configs m e c) ≡ Some key → AsksKey m e c q key
asks_key configs m e c q key found =
    by (picked (is_asked configs m e c) (put_count m) q) refl
    (sym (ap (option_map (λ (l : LookupRow). l.key))
    (row_found (λ (l : LookupRow). q == l.question) (lookup_of m) (is_asked configs m e c) (put_count m) q
    (λ k low high is. refl))) ∙ found)
  where
    by : (b : Bool) → picked (is_asked configs m e c) (put_count m) q ≡ b
        → option_map (λ (l : LookupRow). l.key) (if b then Some (lookup_of m q) else None) ≡ Some key
        → AsksKey m e c q key
    by true is e' =
        record {
          put = (and_parts (is_put_for e c (put_of m q)) (not (has_ended configs m q))
              (and_parts (nat_le 1 q && nat_le q (put_count m)) (is_asked configs m e c q) is).1).0;
          key_is = same_Some _ _ e';
        }
    by false is e' = absurd (none-some key e')

-- a reply of a process to a question that is open on its channel, which was put for its class with this key
replied_stands : (configs : List Configuration) (m : Past) (s : State) (now k : ℕ) (bytes : List ℕ) (q : ℕ)
    (reply : Reply) (p : ClassId) (key : List ℕ) → Lawful configs m → Stands configs m s
    → (l : LivesAt configs m k p) → line_is (channels_of l.class.concurrency (entries m) k) bytes ≡ ReplyTo q reply
    → AsksKey m p.epoch p.class q key
    → Stands configs (noted_at now (Line k bytes) (told.Reply q reply.word) ∷ m)
    (after_reply_at p l.class k q key (what_of reply) now s)
replied_stands configs m s now k bytes q reply p key law st l line asks =
    stands_inside configs m s now (Line k bytes) (told.Reply q reply.word) (after_reply_at p l.class k q key w now s)
    (record { news_none = refl; asks_none = refl; begins_none = refl; counts = refl }) st
    (record {
      checks_are = ap (after_ends given) st.checks_are ∙ sym checks;
      current_is = st.current_is;
      configs_are = λ e. kept_there (is_live (entries m) e) (is_live (entries (x ∷ m)) e) (config_of configs e)
          (s.config e) (st.configs_are e) (live e);
      rows_are = rows_at configs m s x p (after_reply l.class k q key w now) st live
          (λ class at. subst (λ (z : Class). class_row configs (x ∷ m) p.epoch p.class z
          ≡ after_reply l.class k q key w now (class_row configs m p.epoch p.class z))
          (same_Some _ _ (sym l.class_is ∙ at)) here)
          (λ e d other apart at. class_not_replied configs m now k bytes q reply.word w e d other
          (put_once m q p.epoch p.class e d asks.put (other_place p e d apart))
          (away_from configs m k p.epoch p.class e d l.class other law.once l.class_is
          at l.home (other_place p e d apart)) says);
      procs_are = st.procs_are;
      homes_are = λ j. st.homes_are j ∙ sym (homes_stay configs (entries m) (entries (x ∷ m)) j procs live);
      stops_are = λ j. st.stops_are j ∙ sym (stops_stay (entries m) (entries (x ∷ m)) j procs live);
    })
  where
    x : Marked
    x = noted_at now (Line k bytes) (told.Reply q reply.word)

    w : What
    w = what_of reply

    given : Ends
    given = one_end q (record { class = p.class; key = key; what = w; question = Some q; date = now; taken = now })

    r : IsReplied configs m k bytes q
    r = line_replied configs m k bytes q reply.word law.once l.running law.carried
        (told_there configs m k bytes p law l ∙ ap line_told line)

    t : RepliesTo (channels_of l.class.concurrency (entries m) k) bytes q reply
    t = replies_to (channels_of l.class.concurrency (entries m) k) bytes q reply line

    says : said_by configs m k bytes ≡ Some w
    says =
        ap (λ (n : ℕ). option_map (λ a. what_of a.1) (reply_of (nat_lt 0 n) bytes))
        (channels_are configs m k p.epoch p.class l.class law.once l.class_is l.home)
        ∙ ap (option_map (λ a. what_of a.1)) t.answer_is ∙ ap (λ (v : Reply). Some (what_of v)) t.reply_is

    put : IsPutFor (put_of m q) p.epoch p.class
    put = put_for (put_of m q) p.epoch p.class asks.put

    key_is : put.put.key ≡ key
    key_is = sym (ap (λ (o : Option Put). option_map_or (λ z. z.key) o []) put.is) ∙ asks.key_is

    here : class_row configs (x ∷ m) p.epoch p.class l.class
        ≡ after_reply l.class k q key w now (class_row configs m p.epoch p.class l.class)
    here =
        class_replied configs m now k bytes q reply.word w put.put p.epoch p.class l.class l.class_is put.is
        (sym (ap (is_put_for p.epoch p.class) put.is) ∙ asks.put)
        (ap (λ (o : Option ℕ). is_some o) r.sent) says (r.only p.epoch p.class l.class l.class_is l.runs)
        ∙ ap (λ (v : List ℕ). after_reply l.class k q v w now (class_row configs m p.epoch p.class l.class)) key_is

    checks : held_checks configs (x ∷ m) ≡ after_ends given (held_checks configs m)
    checks =
        held_ended configs m x (record { asks_none = refl; steps_none = refl; takes_none = refl; closes_none = refl })
        (λ n. record { waits_put = law.carried.waits_put n })
        ∙ after_ends_same (ends_at configs m x) given (held_checks configs m)
        (λ i. ends_replied configs m now k bytes q reply.word w put.put says put.is i
        ∙ ap₂ (λ (d : ℕ) (v : List ℕ). one_end q
        (record { class = d; key = v; what = w; question = Some q; date = now; taken = now }) i) put.class_is key_is)

    procs : LeavesProcs (entries m) (entries (x ∷ m))
    procs = leaves_procs now (Line k bytes) (told.Reply q reply.word) (entries m)
        (record { starts_none = refl; ends_none = λ j. refl; stops_none = λ j. refl })

    live : (e : ℕ) → is_live (entries (x ∷ m)) e ≡ is_live (entries m) e
    live e = live_kept configs m x e (served given) (served_asked given) refl checks

-- a process replied to a question that is open on its channel:
-- what that is, its class and its key, as the state has them
pub reply_stands : (configs : List Configuration) (m : Past) (s : State) (now k : ℕ) (bytes : List ℕ) (q : ℕ)
    (reply : Reply) (p : ClassId) (class : Class) (channels : Channels) (r : ClassRow) (key : List ℕ)
    → Lawful configs m → Stands configs m s → s.home k ≡ Some p → class_in s p.epoch p.class ≡ Some class
    → channels_in s k ≡ Some channels → line_is channels bytes ≡ ReplyTo q reply
    → s.row p.epoch p.class ≡ Some r → key_of q r.lookups ≡ Some key
    → Stands configs (noted_at now (Line k bytes) (told.Reply q reply.word) ∷ m)
    (after_reply_at p class k q key (what_of reply) now s)
reply_stands configs m s now k bytes q reply p class channels r key law st home class_is channels_is line row found =
    let l = home_lives configs m s k p law st home in
    let same_class : l.class ≡ class =
    same_Some _ _ (sym l.class_is ∙ sym (class_live configs m s p.epoch p.class st l.live) ∙ class_is) in
    let same_channels : channels ≡ channels_of l.class.concurrency (entries m) k =
    same_Some _ _ (sym channels_is ∙ channels_there configs m s k p st home l) in
    let same_row : r ≡ class_row configs m p.epoch p.class l.class =
    same_Some _ _ (sym row ∙ row_there configs m s k p st l) in
    subst (λ (z : Class). Stands configs (noted_at now (Line k bytes) (told.Reply q reply.word) ∷ m)
    (after_reply_at p z k q key (what_of reply) now s)) same_class
    (replied_stands configs m s now k bytes q reply p key law st l
    (ap (λ (z : Channels). line_is z bytes) (sym same_channels) ∙ line)
    (asks_key configs m p.epoch p.class q key (ap (λ (z : ClassRow). key_of q z.lookups) (sym same_row) ∙ found)))
