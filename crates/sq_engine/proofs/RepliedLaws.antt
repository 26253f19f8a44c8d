-- A reply, from what the calls say that make it.
use Rattle.std.proofs.Common.{◌≡◌, ◌∙◌, ℕ, List, map, true, Option, None, Some, Result, Ok, Err, OnErr, is_some, refl, ap, sym, subst}
use Rattle.std.specs.Option.{option_map}
use Rattle.sq_base.specs.declared.helpers.Reply.{Reply}
use Rattle.sq_base.specs.declared.helpers.What.{What}
use Rattle.sq_lookup.specs.Index.{IsListed}
use Rattle.sq_rules.specs.Classes.{Class}
use Rattle.sq_machine.specs.OpenLookups.{key_of}
use Rattle.sq_machine.specs.Questions.{what_of}
use Rattle.sq_machine.specs.Rising.{Rises}
use Rattle.sq_class.specs.Parts.{PartState}
use Rattle.sq_checks.specs.OpenChecks.{CheckParts, all_ended, rows_of}
use Rattle.sq_epochs.specs.EpochChanges.{HasReplied}
use Rattle.sq_epochs.specs.EpochStates.{EpochsState, IsChanged, class_at, home_at, part_at}
use Rattle.sq_model.specs.Changes.{after_reply_at}
use Rattle.sq_model.specs.States.{IsSame}
use Rattle.sq_engine.specs.Engines.{IsEngine, held_number}
use Rattle.sq_engine.specs.EngineViews.{EngineView, state_of}
use Rattle.sq_engine.specs.Lines.{IsReplied, all_given, share_of}
use Rattle.sq_engine.specs.declared.lines.Share.{Share}
use Rattle.sq_engine.proofs.GiveLaws.{all_shared}
use Rattle.sq_engine.proofs.LostLaws.{engine_listed}
use Rattle.sq_engine.proofs.ReaderLaws.{class_read}
use Rattle.sq_engine.proofs.ReplyLaws.{IsOfPart, key_open, reply_same}

-- the checks, where those were given their copies that wait for the question
pub reply_list : (v : EngineView) (e c q t : ℕ) (key : List ℕ) (w : What) (waiting : List ℕ) (p : PartState)
    (shares : List Share) (cs : List (ℕ × CheckParts)) → IsEngine v → part_at v.epochs e c ≡ Some p
    → IsListed (record { rows = p.row.lookups; waiting = p.waiting }) q key waiting
    → Rises (map held_number (rows_of v.checks)) → shares ≡ map (share_of w) waiting
    → cs ≡ all_given q t shares v.checks
    → cs ≡ all_ended q w t v.checks
reply_list v e c q t key w waiting p shares cs i at listed rise are given =
    given ∙ ap (λ xs. all_given q t xs v.checks) are
    ∙ all_shared q t w waiting v.checks rise
    (λ n. listed.checks_are n ∙ engine_listed v e c p i at n q (key_open q key p.row.lookups listed.key_is))

-- what is left
pub reply_done : (v : EngineView) (new : EpochsState) (cs : List (ℕ × CheckParts)) (e c k q t : ℕ) (key : List ℕ)
    (w : What) (reply : Reply) (class : Class) (checks : List ℕ) (p : PartState) → IsEngine v
    → home_at v.epochs k ≡ Some (record { epoch = e; class = c }) → class_at v.epochs e c ≡ Some class
    → part_at v.epochs e c ≡ Some p
    → ((x : PartState) → part_at v.epochs e c ≡ Some x → key_of q x.row.lookups ≡ Some key)
    → IsChanged e c (HasReplied class k q key (record { what = w; date = t }) checks) v.epochs new → w ≡ what_of reply
    → cs ≡ all_ended q w t v.checks → Rises (map held_number (rows_of v.checks))
    → IsReplied (state_of v) k q reply t (state_of (record v { checks = cs; epochs = new; latest = t }))
reply_done v new cs e c k q t key w reply class checks p i home at_class at found ch says list rise = record {
  place = record { epoch = e; class = c };
  class = class;
  row = p.row;
  key = key;
  home_is = home;
  class_is = sym (class_read v e c) ∙ at_class;
  row_is = ap (option_map (λ z. z.row)) at;
  key_is = found p at;
  same = subst (λ z. IsSame (state_of (record v { checks = cs; epochs = new; latest = t }))
      (after_reply_at (record { epoch = e; class = c }) class k q key z t (state_of v))) says
      (reply_same v new cs e c k q t key w class checks i found ch list rise);
}

-- the part that a list is of
pub same_listed : (v : EngineView) (e c q : ℕ) (key waiting : List ℕ)
    → ((p : PartState) → part_at v.epochs e c ≡ Some p
    → IsListed (record { rows = p.row.lookups; waiting = p.waiting }) q key waiting)
    → (p : PartState) → part_at v.epochs e c ≡ Some p → key_of q p.row.lookups ≡ Some key
same_listed v e c q key waiting listed p at = (listed p at).key_is

pub part_there : (v : EngineView) (e c : ℕ) → is_some (part_at v.epochs e c) ≡ true → IsOfPart v e c
part_there v e c there = by (part_at v.epochs e c) refl there
  where
    by : (o : Option PartState) → part_at v.epochs e c ≡ o → is_some o ≡ true → IsOfPart v e c
    by None is h = absurd (cc)
    by (Some p) is h = record { part = p; is = is }

-- what holds where a call fails holds of its error
pub on_err : {A B : Type 0} (r : Result A B) (P : Type 0) → P → OnErr r P
on_err (Ok a) P p = tt
on_err (Err e) P p = p
