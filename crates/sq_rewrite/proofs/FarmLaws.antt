-- The farm of a rewriter after some calls is as the calls alone tell it:
-- how many processes and starts there are, and which question is on which channel.
use Rattle.std.proofs.Common.{◌≡◌, ◌∙◌, ◌==◌, ◌&&◌, ◌<◌, ◌-◌, Bool, true, false, ℕ, suc, List, [], ◌∷◌, length, drop, map, max, Option, None, Some, if◌then◌else◌, is_some, nat_le, nat_lt, refl, ap, sym, subst, arith}
use Rattle.std.specs.List.{prefix_len, take_while}
use Rattle.std.specs.Option.{option_map}
use Rattle.sq_base.specs.Bytes.{space}
use Rattle.sq_base.specs.Decimals.{number_of}
use Rattle.sq_base.specs.Replies.{Answer, after_channel, channel_limit, is_word_byte, on_channel, reply_limit, reply_line_in, reply_of, result_in, without_last_cr}
use Rattle.sq_base.specs.declared.helpers.Reply.{Reply}
use Rattle.sq_channel.specs.Gots.{got_at, got_by, got_in}
use Rattle.sq_channel.specs.declared.replies.Got.{Got}
use Rattle.sq_channel.specs.declared.replies.Got.TheVariants as got
use Rattle.sq_farm.specs.Replies.{got_of}
use Rattle.sq_machine.specs.Channels.{Channels, freed, slot_of}
use Rattle.sq_machine.specs.Farms.{AreOfClass, Stock, emptied, fresh, is_last_start}
use Rattle.sq_machine.specs.Living.{Living, find_proc, is_none_living, is_target, living_number, sent, settled_in, without}
use Rattle.sq_machine.specs.Rising.{AreBelow, Rises}
use Rattle.sq_rules.specs.Classes.{Class}
use Rattle.sq_rewrite.specs.Calls.{Call, Calls, Asked, Acted, Started, StartFailed, Wrote, Died, Took}
use Rattle.sq_rewrite.specs.States.{Answers, IsRun, RewriteState, after, after_acted, begun, proc_refusal, state_of}
use Rattle.sq_rewrite.specs.Statuses.{is_last_open, living_count, starts_open}
use Rattle.sq_rewrite.specs.Transcripts.{answers_by, line_answers, once_heard, question_on, same_channel}
use Rattle.sq_rewrite.specs.declared.acts.RewriteAct.{RewriteAct}
use Rattle.sq_rewrite.specs.declared.acts.RewriteAct.TheVariants as act
use Rattle.sq_rewrite.specs.declared.faults.RewriteFault.TheVariants as fault
use Rattle.sq_rewrite.proofs.ActLaws.{SendIs, after_sent, due_send, due_start, start_kept}
use Rattle.sq_rewrite.proofs.FindLaws.{asked_by, channel_asked, channel_none, channel_settled, class_found, class_sent, class_settled, class_started, class_without, find_sent, find_settled, find_started, find_without, many_sent, many_settled, many_started, many_without, not_zero, settled_from, target_is}
use Rattle.sq_rewrite.proofs.OpenLaws.{below_more, below_started, below_without, numbers_replied, numbers_sent, rises_started, rises_without}
use Rattle.sq_rewrite.proofs.RowLaws.{equal}

-- the farm of a state is that of these calls
pub record IsFarmOf (c : Class) (s : RewriteState) (h : Calls) : Type 0 where
  pub rises : Rises (map living_number s.stock.procs)
  pub below : AreBelow (suc s.started) (map living_number s.stock.procs)
  pub concurrency_is : s.stock.concurrency ≡ c.concurrency
  pub of_class : AreOfClass s.stock.concurrency s.stock.procs
  pub living_is : length s.stock.procs ≡ living_count h
  pub starts_are : s.stock.starting ≡ starts_open h
  pub quiet : (k : ℕ) (channel : Option ℕ) → s.started < k → question_on k channel h ≡ None
  pub on : (k : ℕ) (channel : Option ℕ) (p : Channels) → find_proc k s.stock.procs ≡ Some p
      → is_some channel ≡ p.numbered → slot_of p.slots channel ≡ question_on k channel h

farm_begun : (c : Class) → IsFarmOf c (begun c) []
farm_begun c = record {
  rises = tt;
  below = tt;
  concurrency_is = refl;
  of_class = tt;
  living_is = refl;
  starts_are = refl;
  quiet = λ k channel l. refl;
  on = λ k channel p e f. absurd cc;
}

-- a call that leaves the processes
farm_kept : (c : Class) (s t : RewriteState) (h more : Calls) → t.stock.procs ≡ s.stock.procs
    → t.stock.concurrency ≡ s.stock.concurrency → t.started ≡ s.started → t.stock.starting ≡ starts_open more
    → living_count more ≡ living_count h
    → ((k : ℕ) (channel : Option ℕ) → question_on k channel more ≡ question_on k channel h) → IsFarmOf c s h
    → IsFarmOf c t more
farm_kept c s t h more procs concurrency started starts living same f = record {
  rises = rw procs f.rises;
  below = rw (procs, started) f.below;
  concurrency_is = concurrency ∙ f.concurrency_is;
  of_class = rw (procs, concurrency) f.of_class;
  living_is = ap (λ (l : List Living). length l) procs ∙ f.living_is ∙ sym living;
  starts_are = starts;
  quiet = λ k channel l. same k channel ∙ f.quiet k channel (rw started at l);
  on = λ k channel p e n. f.on k channel p (rw procs at e) n ∙ sym (same k channel);
}

-- a send
none_not : (k : ℕ) (p : Channels) (o : Option Channels) → o ≡ Some p → o ≡ None → ⊥
none_not k p o e f = let g = sym e ∙ f in cc

below_found : (n k : ℕ) (rows : List Living) (p : Channels) → AreBelow n (map living_number rows)
    → find_proc k rows ≡ Some p → k < n
below_found n k [] p b e = absurd cc
below_found n k (r ∷ rows) p b e = by (k == r.number) refl e (λ f. below_found n k rows p b.1 f)
  where
    by : (t : Bool) → (k == r.number) ≡ t → (if t then Some r.process else find_proc k rows) ≡ Some p
        → (find_proc k rows ≡ Some p → k < n) → k < n
    by true t f more = let same = equal k r.number t in omega (arith, same, b.0)
    by false t f more = more f

one : (n : ℕ) → nat_lt 0 n ≡ false → max 1 n ≡ 1
one n e = grind (arith, e)

farm_sent : (c : Class) (s : RewriteState) (h : Calls) (k q : ℕ) (channel : Option ℕ) (text : List ℕ)
    → IsFarmOf c s h → (t : SendIs s.stock k q channel text)
    → IsFarmOf c (record s { stock = record s.stock { queue = t.rest; procs = sent q s.stock.procs } })
    (Acted (act.Send k q channel text) ∷ h)
farm_sent c s h k q channel text f t =
    let target = target_is s.stock.procs k channel f.rises t.target_is in
    let there : k < suc s.started = below_found (suc s.started) k s.stock.procs target.process f.below target.found in
    record {
      rises = rw (numbers_sent q s.stock.procs) f.rises;
      below = rw (numbers_sent q s.stock.procs) f.below;
      concurrency_is = f.concurrency_is;
      of_class = class_sent s.stock.concurrency q s.stock.procs f.of_class;
      living_is = many_sent q s.stock.procs ∙ f.living_is;
      starts_are = f.starts_are;
      quiet = λ j ch l. not_there j ch (j == k) refl l there;
      on = λ j ch p e n.
          found j ch p (j == k) refl
          (sym (find_sent j q s.stock.procs f.rises
          ∙ ap (λ o. if is_target j o then option_map (asked_by q) (find_proc j s.stock.procs)
          else find_proc j s.stock.procs) t.target_is) ∙ e) n;
    }
  where
    not_there : (j : ℕ) (ch : Option ℕ) (b : Bool) → (j == k) ≡ b → s.started < j → k < suc s.started
        → (if b && same_channel ch channel then Some q else question_on j ch h) ≡ None
    not_there j ch true e l there = let same = equal j k e in absurd (omega (arith, same, l, there))
    not_there j ch false e l there = f.quiet j ch l

    here : (j : ℕ) (ch : Option ℕ) (p : Channels) → j ≡ k → option_map (asked_by q) (find_proc j s.stock.procs) ≡ Some p
        → is_some ch ≡ p.numbered
        → slot_of p.slots ch ≡ (if same_channel ch channel then Some q else question_on j ch h)
    here j ch p same e n =
        let target = target_is s.stock.procs k channel f.rises t.target_is in
        let old : find_proc j s.stock.procs ≡ Some target.process =
        ap (λ x. find_proc x s.stock.procs) same ∙ target.found in
        let new : asked_by q target.process ≡ p = let g = sym (ap (option_map (asked_by q)) old) ∙ e in cc in
        let named : is_some ch ≡ target.process.numbered = n ∙ ap Channels.numbered (sym new) in
        let of = class_found s.stock.concurrency j s.stock.procs target.process f.of_class old in
        ap (λ (x : Channels). slot_of x.slots ch) (sym new)
        ∙ channel_asked q target.process ch target.free named (λ z. of.0 ∙ one s.stock.concurrency (sym of.1 ∙ z))
        ∙ ap (λ x. if same_channel ch x then Some q else slot_of target.process.slots ch) (sym target.channel_is)
        ∙ ap (λ o. if same_channel ch channel then Some q else o) (f.on j ch target.process old named)

    found : (j : ℕ) (ch : Option ℕ) (p : Channels) (b : Bool) → (j == k) ≡ b
        → (if b then option_map (asked_by q) (find_proc j s.stock.procs) else find_proc j s.stock.procs) ≡ Some p
        → is_some ch ≡ p.numbered
        → slot_of p.slots ch ≡ (if b && same_channel ch channel then Some q else question_on j ch h)
    found j ch p true t e n = here j ch p (equal j k t) e n
    found j ch p false t e n = f.on j ch p e n

-- an act
farm_acted : (c : Class) (s : RewriteState) (h : Calls) (a : RewriteAct) → IsFarmOf c s h
    → Answers (Acted a) s → IsFarmOf c (after_acted a s) (Acted a ∷ h)
farm_acted c s h (act.Stop k) f e = farm_kept c s (after_acted (act.Stop k) s) h (Acted (act.Stop k) ∷ h) refl refl refl
    f.starts_are refl (λ j ch. refl) f
farm_acted c s h (act.Send k q channel text) f e =
    let t = due_send s k q channel text e in
    subst (λ v. IsFarmOf c (record s { stock = v }) (Acted (act.Send k q channel text) ∷ h))
    (sym (after_sent s.stock k q channel text t)) (farm_sent c s h k q channel text f t)
farm_acted c s h act.Start f e =
    let k = start_kept s.stock (due_start s e) in
    farm_kept c s (after_acted act.Start s) h (Acted act.Start ∷ h) k.1 k.3 refl (k.4 ∙ ap suc f.starts_are) refl
    (λ j ch. refl) f

-- a start that became a process
farm_started : (c : Class) (s : RewriteState) (h : Calls) → IsFarmOf c s h
    → IsFarmOf c (after (Started (suc s.started)) s) (Started (suc s.started) ∷ h)
farm_started c s h f = record {
  rises = rises_started s.stock.concurrency (suc s.started) s.stock.procs f.below f.rises;
  below = below_started (suc (suc s.started)) s.stock.concurrency (suc s.started) s.stock.procs (omega arith)
      (below_more (suc s.started) (suc (suc s.started)) (map living_number s.stock.procs) (omega arith) f.below);
  concurrency_is = f.concurrency_is;
  of_class = class_started s.stock.concurrency (suc s.started) s.stock.procs f.of_class;
  living_is = many_started s.stock.concurrency (suc s.started) s.stock.procs ∙ ap suc f.living_is;
  starts_are = ap (λ n. n - 1) f.starts_are;
  quiet = λ k channel l. f.quiet k channel (omega (arith, l));
  on = λ k channel p e n.
      found k channel p (k == suc s.started) refl
      (sym (find_started k s.stock.concurrency (suc s.started) s.stock.procs f.below) ∙ e) n;
}
  where
    new : (k : ℕ) → (k == suc s.started) ≡ true → s.started < k
    new k t = let same = equal k (suc s.started) t in omega (arith, same)

    found : (k : ℕ) (channel : Option ℕ) (p : Channels) (b : Bool) → (k == suc s.started) ≡ b
        → (if b then Some (fresh s.stock.concurrency (suc s.started)).process else find_proc k s.stock.procs) ≡ Some p
        → is_some channel ≡ p.numbered → slot_of p.slots channel ≡ question_on k channel h
    found k channel p true t e n =
        let is : (fresh s.stock.concurrency (suc s.started)).process ≡ p = cc in
        ap (λ (x : Channels). slot_of x.slots channel) (sym is) ∙ channel_none (max 1 s.stock.concurrency) channel
        ∙ sym (f.quiet k channel (new k t))
    found k channel p false t e n = f.on k channel p e n

-- a start that failed
emptied_procs : (b : Bool) (v : Stock) → (emptied b v).procs ≡ v.procs
emptied_procs true v = refl
emptied_procs false v = refl

emptied_concurrency : (b : Bool) (v : Stock) → (emptied b v).concurrency ≡ v.concurrency
emptied_concurrency true v = refl
emptied_concurrency false v = refl

-- a reply
farm_replied : (c : Class) (s t : RewriteState) (h : Calls) (k q : ℕ) (line : List ℕ) (reply : Reply)
    → t.stock.procs ≡ settled_in k q s.stock.procs → t.stock.concurrency ≡ s.stock.concurrency → t.started ≡ s.started
    → t.stock.starting ≡ s.stock.starting → IsFarmOf c s h
    → IsFarmOf c t (Wrote k line (got.Reply q reply) ∷ h)
farm_replied c s t h k q line reply procs concurrency started starting f = record {
  rises = rw procs (rw (numbers_replied k q s.stock.procs) f.rises);
  below = rw (procs, started) (rw (numbers_replied k q s.stock.procs) f.below);
  concurrency_is = concurrency ∙ f.concurrency_is;
  of_class = rw (procs, concurrency) (class_settled s.stock.concurrency k q s.stock.procs f.of_class);
  living_is = ap (λ (l : List Living). length l) procs ∙ many_settled k q s.stock.procs ∙ f.living_is;
  starts_are = starting ∙ f.starts_are;
  quiet = λ j channel l. ap (once_heard j k (got.Reply q reply)) (f.quiet j channel (rw started at l))
      ∙ none_heard (j == k);
  on = λ j channel p e n.
      found j channel p (j == k)
      (sym (find_settled j k q s.stock.procs) ∙ ap (find_proc j) (sym procs) ∙ e) n;
}
  where
    none_heard : (b : Bool) → (if b then freed q None else None) ≡ None
    none_heard true = refl
    none_heard false = refl

    settled_found : (j : ℕ) (channel : Option ℕ) (p : Channels) (o : Option Channels) → find_proc j s.stock.procs ≡ o
        → option_map (settled_from q) o ≡ Some p → is_some channel ≡ p.numbered
        → slot_of p.slots channel ≡ freed q (question_on j channel h)
    settled_found j channel p None at e n = absurd cc
    settled_found j channel p (Some x) at e n =
        let is : settled_from q x ≡ p = cc in
        ap (λ (y : Channels). slot_of y.slots channel) (sym is) ∙ channel_settled q x.slots channel
        ∙ ap (freed q) (f.on j channel x at (n ∙ ap Channels.numbered (sym is)))

    found : (j : ℕ) (channel : Option ℕ) (p : Channels) (b : Bool)
        → (if b then option_map (settled_from q) (find_proc j s.stock.procs) else find_proc j s.stock.procs) ≡ Some p
        → is_some channel ≡ p.numbered
        → slot_of p.slots channel ≡ (if b then freed q (question_on j channel h) else question_on j channel h)
    found j channel p true e n = settled_found j channel p (find_proc j s.stock.procs) refl e n
    found j channel p false e n = f.on j channel p e n

-- the end of a process
farm_ended : (c : Class) (s t : RewriteState) (h more : Calls) (k : ℕ) (p : Channels)
    → find_proc k s.stock.procs ≡ Some p → t.stock.procs ≡ without k s.stock.procs
    → t.stock.concurrency ≡ s.stock.concurrency → t.started ≡ s.started → t.stock.starting ≡ s.stock.starting
    → living_count more ≡ living_count h - 1 → starts_open more ≡ starts_open h
    → ((j : ℕ) (channel : Option ℕ) → question_on j channel more ≡ question_on j channel h) → IsFarmOf c s h
    → IsFarmOf c t more
farm_ended c s t h more k p lives procs concurrency started starting living starts same f = record {
  rises = rw procs (rises_without k s.stock.procs f.rises);
  below = rw (procs, started) (below_without (suc s.started) k s.stock.procs f.below);
  concurrency_is = concurrency ∙ f.concurrency_is;
  of_class = rw (procs, concurrency) (class_without s.stock.concurrency k s.stock.procs f.of_class);
  living_is =
      let fewer = many_without k s.stock.procs p f.rises lives in
      let all = ap (λ (l : List Living). length l) procs in
      omega (arith, fewer, all, f.living_is, living);
  starts_are = starting ∙ f.starts_are ∙ sym starts;
  quiet = λ j channel l. same j channel ∙ f.quiet j channel (rw started at l);
  on = λ j channel x e n.
      found j channel x (j == k) (sym (find_without j k s.stock.procs) ∙ ap (find_proc j) (sym procs) ∙ e) n
      ∙ sym (same j channel);
}
  where
    found : (j : ℕ) (channel : Option ℕ) (x : Channels) (b : Bool)
        → (if b then None else find_proc j s.stock.procs) ≡ Some x → is_some channel ≡ x.numbered
        → slot_of x.slots channel ≡ question_on j channel h
    found j channel x true e n = absurd cc
    found j channel x false e n = f.on j channel x e n

record LivesAt (k : ℕ) (rows : List Living) : Type 0 where
  pub process : Channels
  pub found : find_proc k rows ≡ Some process

heard_lives : (k : ℕ) (s : RewriteState) (line : List ℕ) (g : Got) → got_of k s.stock line ≡ Some g
    → LivesAt k s.stock.procs
heard_lives k s line g e = by (find_proc k s.stock.procs) refl e
  where
    by : (o : Option Channels) → find_proc k s.stock.procs ≡ o → option_map (λ p. got_in p line) o ≡ Some g
        → LivesAt k s.stock.procs
    by None there f = absurd cc
    by (Some p) there f = record { process = p; found = there }

died_lives : (k : ℕ) (s : RewriteState) → proc_refusal k s ≡ None → LivesAt k s.stock.procs
died_lives k s e = by (find_proc k s.stock.procs) refl e
  where
    by : (o : Option Channels) → find_proc k s.stock.procs ≡ o
        → (if is_some o then None else Some (fault.UnknownProc k)) ≡ None → LivesAt k s.stock.procs
    by None there f = absurd cc
    by (Some p) there f = record { process = p; found = there }

farm_written : (c : Class) (s : RewriteState) (h : Calls) (k : ℕ) (line : List ℕ) (g : Got) → IsFarmOf c s h
    → got_of k s.stock line ≡ Some g → IsFarmOf c (after (Wrote k line g) s) (Wrote k line g ∷ h)
farm_written c s h k line (got.Reply q reply) f e = farm_replied c s (after (Wrote k line (got.Reply q reply)) s) h k q
    line reply refl refl refl refl f
farm_written c s h k line got.Bad f e =
    let at = heard_lives k s line got.Bad e in
    farm_ended c s (after (Wrote k line got.Bad) s) h (Wrote k line got.Bad ∷ h) k at.process at.found
    refl refl refl refl refl refl (λ j ch. refl) f
farm_written c s h k line got.Stray f e =
    let at = heard_lives k s line got.Stray e in
    farm_ended c s (after (Wrote k line got.Stray) s) h (Wrote k line got.Stray ∷ h) k at.process at.found
    refl refl refl refl refl refl (λ j ch. refl) f

-- each call keeps it
farm_after : (c : Class) (s : RewriteState) (h : Calls) (e : Call) → IsFarmOf c s h → Answers e s
    → IsFarmOf c (after e s) (e ∷ h)
farm_after c s h (Asked r addr q) f i = farm_kept c s (after (Asked r addr q) s) h (Asked r addr q ∷ h) refl refl refl
    f.starts_are refl (λ j ch. refl) f
farm_after c s h (Acted a) f i = farm_acted c s h a f i
farm_after c s h (Started k) f i = subst (λ n. IsFarmOf c (after (Started n) s) (Started n ∷ h)) (sym i.1)
    (farm_started c s h f)
farm_after c s h StartFailed f i =
    farm_kept c s (after StartFailed s) h (StartFailed ∷ h) (emptied_procs (is_last_start s.stock) s.stock)
    (emptied_concurrency (is_last_start s.stock) s.stock) refl (ap (λ n. n - 1) f.starts_are) refl (λ j ch. refl) f
farm_after c s h (Wrote k line g) f i = farm_written c s h k line g f i
farm_after c s h (Died k) f i =
    let at = died_lives k s i in
    farm_ended c s (after (Died k) s) h (Died k ∷ h) k at.process at.found
    refl refl refl refl refl refl (λ j ch. refl) f
farm_after c s h (Took q w) f i = farm_kept c s (after (Took q w) s) h (Took q w ∷ h) refl refl refl f.starts_are refl
    (λ j ch. refl) f

-- for every list of calls
pub farm_of : (c : Class) (h : Calls) → IsRun c h → IsFarmOf c (state_of c h) h
farm_of c [] run = farm_begun c
farm_of c (e ∷ h) run = farm_after c (state_of c h) h e (farm_of c h run.1) run.0

none_living : (rows : List Living) → is_none_living rows ≡ (length rows == 0)
none_living [] = refl
none_living (r ∷ rows) = rw (not_zero (length rows)) refl

-- whether a start that fails is the last
pub last_start : (c : Class) (h : Calls) → IsRun c h → is_last_start (state_of c h).stock ≡ is_last_open h
last_start c h run =
    let f = farm_of c h run in
    rw (none_living (state_of c h).stock.procs, f.living_is, f.starts_are) refl

-- the channel of a line is there where lines have channels
named_by : (b : Bool) (bytes : List ℕ) (a : Answer) → reply_line_in b bytes ≡ Some a → is_some a.0 ≡ b
unfolding reply_line_in
named_by false bytes a e = unnamed (result_in bytes) e
  where
    unnamed : (o : Option Reply) → on_channel None o ≡ Some a → is_some a.0 ≡ false
    unnamed None e = absurd cc
    unnamed (Some r) e = let is : (None, r) ≡ a = cc in ap (λ (x : Answer). is_some x.0) (sym is)
named_by true bytes a e = named (number_of channel_limit (take_while is_word_byte bytes))
    (drop (prefix_len is_word_byte bytes) bytes) e
  where
    put : (n : ℕ) (o : Option Reply) → on_channel (Some n) o ≡ Some a → is_some a.0 ≡ true
    put n None e = absurd cc
    put n (Some r) e = let is : (Some n, r) ≡ a = cc in ap (λ (x : Answer). is_some x.0) (sym is)

    spaced : (n : ℕ) (rest : List ℕ) (t : Bool)
        → (if t then on_channel (Some n) (result_in rest) else None) ≡ Some a → is_some a.0 ≡ true
    spaced n rest true f = put n (result_in rest) f
    spaced n rest false f = absurd cc

    named : (o : Option ℕ) (rest : List ℕ) → after_channel o rest ≡ Some a → is_some a.0 ≡ true
    named None rest e = absurd cc
    named (Some n) [] e = absurd cc
    named (Some n) (x ∷ rest) e = spaced n rest (x == space) e

named_line : (b : Bool) (line : List ℕ) (a : Answer) → reply_of b line ≡ Some a → is_some a.0 ≡ b
unfolding reply_of
named_line b line a e = by (nat_le (length line) reply_limit) e
  where
    by : (t : Bool) → (if t then reply_line_in b (without_last_cr line) else None) ≡ Some a → is_some a.0 ≡ b
    by true f = named_by b (without_last_cr line) a f
    by false f = absurd cc

-- a line answers what stands on its channel by the calls
pub heard_law : (c : Class) (h : Calls) (k : ℕ) (line : List ℕ) (g : Got) → IsRun c (Wrote k line g ∷ h)
    → g ≡ line_answers c h k line
unfolding got_in
heard_law c h k line g run = by_proc (find_proc k (state_of c h).stock.procs) refl run.0
  where
    f : IsFarmOf c (state_of c h) h
    f = farm_of c h run.1

    by_answer : (p : Channels) → find_proc k (state_of c h).stock.procs ≡ Some p → (b : Bool) → p.numbered ≡ b
        → (o : Option Answer) → reply_of b line ≡ o → got_by p.slots o ≡ answers_by k h o
    by_answer p at b named None e = refl
    by_answer p at b named (Some a) e = ap (λ o. got_at o a.1) (f.on k a.0 p at (named_line b line a e ∙ sym named))

    by_proc : (o : Option Channels) → find_proc k (state_of c h).stock.procs ≡ o
        → option_map (λ p. got_in p line) o ≡ Some g → g ≡ line_answers c h k line
    by_proc None at e = absurd cc
    by_proc (Some p) at e =
        let heard : got_in p line ≡ g = cc in
        let is : got_by p.slots (reply_of p.numbered line) ≡ g = heard in
        let of = class_found (state_of c h).stock.concurrency k (state_of c h).stock.procs p f.of_class at in
        let numbered : p.numbered ≡ nat_lt 0 c.concurrency = of.1 ∙ ap (nat_lt 0) f.concurrency_is in
        sym is ∙ ap (λ b. got_by p.slots (reply_of b line)) numbered
        ∙ by_answer p at (nat_lt 0 c.concurrency) numbered (reply_of (nat_lt 0 c.concurrency) line) refl
