-- A body that is copied in pieces: what each piece comes to, and all of them.
use Rattle.std.proofs.Common.{◌≡◌, ℕ, ◌≤◌, Bool, true, false, List, [], ◌++◌, take, drop, Option, Some, None, IfSome, refl, sym, ap, subst, ◌∙◌, append_assoc, append-nil}
use Rattle.std.specs.Io.KnownBytes.{Keeps, IsAtEnd, prepend_known}
use Rattle.sq_base.specs.declared.plans.BodyPlan.{BodyPlan}
use Rattle.sq_message.specs.declared.body_state.BodyState.{BodyState}
use Rattle.sq_message.specs.declared.body_state.BodyState.TheVariants as place
use Rattle.sq_message.specs.Bodies.{Walk, after, halted, walk, body_of, start, is_whole_body, is_refused}
use Rattle.sq_message.specs.Feeding.{Feeds, Spoils, WroteOfBody}
use Rattle.sq_message.proofs.BodyLaws.{after_after, walk_none, walk_refused}
use Rattle.sq_message.proofs.PieceLaws.{walk_whole, walk_part, walk_no_rest, walk_grows}
use Rattle.sq_outside.specs.Causes.{count_limit}
use Rattle.sq_forward.specs.Meters.{PaysAll, PaysPart, piece_limit, metered}
use Rattle.sq_forward.specs.Copying.{CopiesBody, Copies, CopiesPiece, PieceFed, PieceUnfed}
use Rattle.sq_forward.specs.declared.copying.Copied.{Copied}
use Rattle.sq_forward.specs.declared.copying.Copied.TheVariants.{Whole, Cut, Bad, NoSource, NoSink, Starved, WantOfMemory}
use Rattle.sq_forward.proofs.PayLaws.{pays_none, pays_after, pays_part_after, pays_part_more, pays_whole}

-- the bytes ahead were fed, and what they give was written
pub piece_fed : {seated c : Bool} {p q : BodyState} {ahead was x piece : List ℕ} {used : ℕ} {done : Bool}
    {b d : Option (List ℕ)} {g h : ℕ}
    → was ≡ [] → x ≡ piece → Feeds c p ahead q used done was piece → PaysAll x (metered seated b d g h)
    → PieceFed c p q ahead used done (metered seated b d g h)
piece_fed {seated} {c} {p} {q} {ahead} {was} {x} {piece} {used} {done} {b} {d} {g} {h} f i feeds pays = record {
  piece = piece;
  feeds = subst (λ o. Feeds c p ahead q used done o piece) f feeds;
  pays = subst (λ l. PaysAll l (metered seated b d g h)) i pays;
}

-- what a piece gives begins what all the bytes give
piece_begins : (c : Bool) (p : BodyState) (ahead src was piece : List ℕ) → WroteOfBody c p ahead was piece → was ≡ []
    → (rest : List ℕ) × ((walk c p (ahead ++ src)).out ≡ piece ++ rest)
piece_begins c p ahead src was piece f e =
    let is : piece ≡ f.grown = f.wrote ∙ ap (λ b. b ++ f.grown) e in
    let more = walk_grows c p ahead src in (
      f.more ++ more.0,
      more.1 ∙ ap (λ o. o ++ more.0) f.gives ∙ append_assoc f.grown f.more more.0
          ∙ ap (λ o. o ++ (f.more ++ more.0)) (sym is),
    )

-- a part of what a piece gives
pub record PiecePart (seated c : Bool) (p : BodyState) (ahead : List ℕ) (before now : Option (List ℕ))
    (g h spare : ℕ) : Type 0 where
  pub was : List ℕ
  pub piece : List ℕ
  pub none : was ≡ []
  pub wrote : WroteOfBody c p ahead was piece
  pub pays : PaysPart piece (metered seated before now g h) spare

pub piece_part : {seated c : Bool} {p : BodyState} {ahead was x piece : List ℕ} {b d : Option (List ℕ)} {g h spare : ℕ}
    → was ≡ [] → x ≡ piece → WroteOfBody c p ahead was piece → PaysPart x (metered seated b d g h) spare
    → PiecePart seated c p ahead b d g h spare
piece_part {seated} {was} {piece} {b} {d} {g} {h} {spare} f i wrote pays = record {
  was = was;
  piece = piece;
  none = f;
  wrote = wrote;
  pays = subst (λ l. PaysPart l (metered seated b d g h) spare) i pays;
}

part_out : {seated c : Bool} {p : BodyState} {ahead : List ℕ} {b d : Option (List ℕ)} {g h spare : ℕ} (src : List ℕ)
    → PiecePart seated c p ahead b d g h spare → PaysPart (walk c p (ahead ++ src)).out (metered seated b d g h) spare
part_out {seated} {c} {p} {ahead} {b} {d} {g} {h} {spare} src x =
    let front = piece_begins c p ahead src x.was x.piece x.wrote x.none in
    subst (λ t. PaysPart t (metered seated b d g h) spare) (sym front.1) (pays_part_more front.0 x.pays)

-- the sink failed in a piece
pub unfed_no_sink : {seated c : Bool} {p : BodyState} {ahead : List ℕ} {b d : Option (List ℕ)} {g h : ℕ}
    → PiecePart seated c p ahead b d g h piece_limit → PieceUnfed c p ahead (metered seated b d g h) NoSink
unfed_no_sink x = record { ends = λ more left. part_out more x }

-- nothing was granted
pub unfed_starved : {seated c : Bool} {p : BodyState} {ahead : List ℕ} {b d : Option (List ℕ)} {g h : ℕ}
    → PiecePart seated c p ahead b d g h 0 → PieceUnfed c p ahead (metered seated b d g h) Starved
unfed_starved x = record { ends = λ more left. part_out more x }

-- there was no memory for all that the bytes give
pub unfed_no_memory : {seated c : Bool} {p : BodyState} {ahead : List ℕ} {b d : Option (List ℕ)} {g h : ℕ}
    → PiecePart seated c p ahead b d g h 0 → PieceUnfed c p ahead (metered seated b d g h) WantOfMemory
unfed_no_memory x = record { ends = λ more left. part_out more x }

-- the bytes are refused
pub unfed_bad : {seated c : Bool} {p q : BodyState} {ahead was t piece : List ℕ} {b d : Option (List ℕ)} {g h : ℕ}
    → was ≡ [] → t ≡ piece → Spoils c p ahead q was piece → PaysAll t (metered seated b d g h)
    → PieceUnfed c p ahead (metered seated b d g h) Bad
unfed_bad {seated} {c} {p} {q} {ahead} {was} {t} {piece} {b} {d} {g} {h} f i x y = record {
  ends = λ s left.
      let whole : walk c p (ahead ++ s) ≡ after x.grown (halted place.Refused []) =
      walk_part c p place.Refused ahead s x.grown [] x.walks refl ∙ ap (after x.grown) (walk_refused c s) in
      let is : t ≡ x.grown ++ [] = i ∙ x.wrote ∙ ap (λ o. o ++ x.grown) f ∙ sym (append-nil x.grown) in (
        ap (λ w. is_refused (Walk.place w)) whole,
        subst (λ l. PaysAll l (metered seated b d g h)) (is ∙ ap Walk.out (sym whole)) y,
      );
}

-- the copying ended in a piece
pub piece_unfed : {seated c : Bool} {p : BodyState} {b d : Option (List ℕ)} {g h : ℕ} (q : BodyState) (ahead : List ℕ)
    (src left : Option (List ℕ)) (copied : Copied)
    → PieceUnfed c p ahead (metered seated b d g h) copied
    → CopiesPiece c p q (prepend_known ahead src) left (metered seated b d g h) (Some copied)
piece_unfed q ahead None left copied x = record { piece = tt }
piece_unfed q ahead (Some s) left copied x = record { piece = x.ends s left }

-- data was written as it is
pub data_fed : {seated c : Bool} {p q : BodyState} {ahead bytes : List ℕ} {used : ℕ} {done : Bool}
    {b d : Option (List ℕ)} {g h : ℕ}
    → Feeds c p ahead q used done [] (take used ahead) → bytes ≡ take used ahead → PaysAll bytes
    (metered seated b d g h)
    → PieceFed c p q ahead used done (metered seated b d g h)
data_fed {seated} {ahead} {used} {b} {d} {g} {h} feeds e pays =
    record { piece = take used ahead; feeds = feeds; pays = subst (λ l. PaysAll l (metered seated b d g h)) e pays }

-- a part of it
pub data_part : {seated c : Bool} {p q : BodyState} {ahead bytes : List ℕ} {used : ℕ} {done : Bool}
    {b d : Option (List ℕ)} {g h spare : ℕ}
    → Feeds c p ahead q used done [] (take used ahead) → bytes ≡ take used ahead → PaysPart bytes
    (metered seated b d g h) spare
    → PiecePart seated c p ahead b d g h spare
data_part {seated} {ahead} {used} {b} {d} {g} {h} {spare} feeds e pays = record {
  was = [];
  piece = take used ahead;
  none = refl;
  wrote = record {
    grown = feeds.grown;
    more = [];
    wrote = feeds.wrote;
    gives = ap Walk.out feeds.walks ∙ sym (append-nil feeds.grown);
  };
  pays = subst (λ l. PaysPart l (metered seated b d g h) spare) e pays;
}

-- the body is complete
pub piece_whole : {seated c : Bool} {p q : BodyState} {used : ℕ} {b d : Option (List ℕ)} {g h : ℕ} (ahead : List ℕ)
    (src left : Option (List ℕ))
    → left ≡ prepend_known (drop used ahead) src → PieceFed c p q ahead used true (metered seated b d g h)
    → CopiesPiece c p q (prepend_known ahead src) left (metered seated b d g h) (Some Whole)
piece_whole ahead None left e x = record { piece = tt }
piece_whole {seated} {c} {p} {q} {used} {b} {d} {g} {h} ahead (Some s) left e x =
    let f = x.feeds in
    let whole : walk c p (ahead ++ s) ≡ record { place = q; out = f.grown; rest = drop used ahead ++ s } =
    walk_whole c p q ahead s f.grown (drop used ahead) f.walks (sym f.done) in
    record {
      piece = (
        ap (λ w. is_whole_body (Walk.place w)) whole ∙ sym f.done,
        e ∙ ap (λ w. Some (Walk.rest w)) (sym whole),
        subst (λ t. PaysAll t (metered seated b d g h)) (f.wrote ∙ ap Walk.out (sym whole)) x.pays,
      );
    }

-- where a body goes on, all of the bytes ahead were used
pub all_used : {seated c : Bool} {p q : BodyState} {used : ℕ} {b d : Option (List ℕ)} {g h : ℕ} (ahead : List ℕ)
    → PieceFed c p q ahead used false (metered seated b d g h) → drop used ahead ≡ []
all_used {seated} {c} {p} {q} ahead x =
    let f = x.feeds in
    sym (ap Walk.rest f.walks) ∙ walk_no_rest c p ahead (ap (λ w. is_whole_body (Walk.place w)) f.walks ∙ sym f.done)

-- the bytes behind a piece
piece_walks : {seated c : Bool} {p q : BodyState} {used : ℕ} {b d : Option (List ℕ)} {g h : ℕ} (ahead s : List ℕ)
    → (x : PieceFed c p q ahead used false (metered seated b d g h)) → walk c p (ahead ++ s) ≡ after x.piece
    (walk c q s)
piece_walks {seated} {c} {p} {q} {used} ahead s x =
    let f = x.feeds in
    walk_part c p q ahead s f.grown (drop used ahead) f.walks (sym f.done)
    ∙ ap (λ o. after o (walk c q s)) (sym f.wrote)

-- more was read
pub piece_goes : {seated c : Bool} {p q : BodyState} {used : ℕ} {b d : Option (List ℕ)} {g h : ℕ} (ahead : List ℕ)
    (src mid left : Option (List ℕ))
    → mid ≡ prepend_known (drop used ahead) src → Keeps mid left → PieceFed c p q ahead used false
    (metered seated b d g h)
    → CopiesPiece c p q (prepend_known ahead src) left (metered seated b d g h) None
piece_goes ahead None mid left e k x = record { piece = tt }
piece_goes {seated} {c} {p} {q} {used} {b} {d} {g} {h} ahead (Some s) mid left e k x =
    let at : mid ≡ Some s = e ∙ ap (λ l. Some (l ++ s)) (all_used ahead x) in
    record {
      piece = record {
        piece = x.piece;
        rest = s;
        left_is = kept_some s mid left at k;
        walks = piece_walks ahead s x;
        pays = x.pays;
      };
    }
  where
    kept_some : (s : List ℕ) (mid left : Option (List ℕ)) → mid ≡ Some s → Keeps mid left → left ≡ Some s
    kept_some s None left e k = absurd cc
    kept_some s (Some t) None e k = absurd k
    kept_some s (Some t) (Some u) e k = ap Some k ∙ e

-- the source failed, or there was no memory for what it gave
so_far : {seated c : Bool} {p q : BodyState} {used : ℕ} {b d : Option (List ℕ)} {g h : ℕ} (ahead s : List ℕ)
    → PieceFed c p q ahead used false (metered seated b d g h) → PaysPart (walk c p (ahead ++ s)).out
    (metered seated b d g h) 0
so_far {seated} {c} {p} {q} {used} {b} {d} {g} {h} ahead s x =
    subst (λ t. PaysPart t (metered seated b d g h) 0) (ap Walk.out (sym (piece_walks ahead s x)))
    (pays_part_more (walk c q s).out (pays_whole x.pays))

pub piece_no_source : {seated c : Bool} {p q : BodyState} {used : ℕ} {b d : Option (List ℕ)} {g h : ℕ} (ahead : List ℕ)
    (src left : Option (List ℕ))
    → PieceFed c p q ahead used false (metered seated b d g h)
    → CopiesPiece c p q (prepend_known ahead src) left (metered seated b d g h) (Some NoSource)
piece_no_source ahead None left x = record { piece = tt }
piece_no_source ahead (Some s) left x = record { piece = so_far ahead s x }

pub piece_no_room : {seated c : Bool} {p q : BodyState} {used : ℕ} {b d : Option (List ℕ)} {g h : ℕ} (ahead : List ℕ)
    (src left : Option (List ℕ))
    → PieceFed c p q ahead used false (metered seated b d g h)
    → CopiesPiece c p q (prepend_known ahead src) left (metered seated b d g h) (Some WantOfMemory)
piece_no_room ahead None left x = record { piece = tt }
piece_no_room ahead (Some s) left x = record { piece = so_far ahead s x }

-- the input ended
pub piece_cut : {seated c : Bool} {p q : BodyState} {used : ℕ} {b d : Option (List ℕ)} {g h : ℕ} (ahead next : List ℕ)
    (src mid end : Option (List ℕ))
    → mid ≡ prepend_known (drop used ahead) src → Keeps mid (prepend_known next end) → next ≡ drop used ahead
    → IsAtEnd end → PieceFed c p q ahead used false (metered seated b d g h)
    → CopiesPiece c p q (prepend_known ahead src) (prepend_known next end) (metered seated b d g h) (Some Cut)
piece_cut ahead next None mid end e k same none x = record { piece = tt }
piece_cut ahead next (Some s) mid None e k same none x = absurd (subst (λ m. Keeps m None) e k)
piece_cut {seated} {c} {p} {q} {used} {b} {d} {g} {h} ahead next (Some s) mid (Some t) e k same none x =
    let all = all_used ahead x in
    let empty : next ++ t ≡ [] = ap (λ l. l ++ t) (same ∙ all) ∙ none in
    let over : s ≡ [] = ap (λ l. l ++ s) (sym all) ∙ sym (subst (λ m. Keeps m (Some (next ++ t))) e k) ∙ empty in
    let whole : walk c p (ahead ++ s) ≡ after x.piece (halted q []) = piece_walks ahead s x
    ∙ ap (λ l. after x.piece (walk c q l)) over ∙ ap (after x.piece) (walk_none c q) in
    record {
      piece = (
        ap (λ w. is_whole_body (Walk.place w)) whole ∙ sym x.feeds.done,
        ap (λ w. is_refused (Walk.place w)) whole ∙ x.feeds.going,
        empty,
        subst (λ l. PaysAll l (metered seated b d g h)) (sym (append-nil x.piece) ∙ ap Walk.out (sym whole)) x.pays,
      );
    }

-- some of the body was written, and the rest leads from here to its end
pub record Halfway (seated c : Bool) (body : Walk) (p : BodyState) (left before now : Option (List ℕ))
    (g h : ℕ) : Type 0 where
  pub grown : List ℕ
  pub rest : List ℕ
  pub left_is : left ≡ Some rest
  pub same : body ≡ after grown (walk c p rest)
  pub pays : PaysAll grown (metered seated before now g h)

-- the same of the body at the front of what is to come, where that is told
pub record SoFar (seated : Bool) (plan : BodyPlan) (c : Bool) (p : BodyState) (first left before now : Option (List ℕ))
    (g h : ℕ) : Type 0 where
  pub known : IfSome first (λ bytes. Halfway seated c (body_of plan c bytes) p left before now g h)

-- nothing was written yet
pub begins : (seated : Bool) (plan : BodyPlan) (c : Bool) (p : BodyState) (first out : Option (List ℕ)) (g : ℕ)
    → p ≡ start plan → g ≤ count_limit → SoFar seated plan c p first first out out g g
begins seated plan c p None out g e few = record { known = tt }
begins seated plan c p (Some bytes) out g e few =
    record {
      known = record {
        grown = [];
        rest = bytes;
        left_is = refl;
        same = ap (λ q. walk c q bytes) (sym e);
        pays = pays_none seated out g few;
      };
    }

-- a piece more
halfway_on : {seated c : Bool} {body : Walk} {p q : BodyState} {a b d : Option (List ℕ)} {g h k : ℕ}
    (left next : Option (List ℕ))
    → Halfway seated c body p left a b g h → CopiesPiece c p q left next (metered seated b d h k) None
    → Halfway seated c body q next a d g k
halfway_on None next x y = absurd (let e = x.left_is in cc)
halfway_on {seated} {c} {body} {p} {q} (Some bytes) next x y =
    let z = y.piece in
    let is : x.rest ≡ bytes = let e = x.left_is in cc in
    record {
      grown = x.grown ++ z.piece;
      rest = z.rest;
      left_is = z.left_is;
      same = x.same ∙ ap (λ r. after x.grown (walk c p r)) is ∙ ap (after x.grown) z.walks
          ∙ after_after x.grown z.piece (walk c q z.rest);
      pays = pays_after x.pays z.pays;
    }

pub goes_on : {seated c : Bool} {plan : BodyPlan} {p q : BodyState} {a b d : Option (List ℕ)} {g h k : ℕ}
    (first left next : Option (List ℕ))
    → SoFar seated plan c p first left a b g h → CopiesPiece c p q left next (metered seated b d h k) None
    → SoFar seated plan c q first next a d g k
goes_on None left next x y = record { known = tt }
goes_on (Some bytes) left next x y = record { known = halfway_on left next x.known y }

-- what is written behind something else
pub copies_after : {seated : Bool} {front : List ℕ} {a b : Option (List ℕ)} {g h : ℕ} (body : Walk)
    (left d : Option (List ℕ)) (k : ℕ) (copied : Copied)
    → PaysAll front (metered seated a b g h) → CopiesBody body left (metered seated b d h k) copied
    → CopiesBody (after front body) left (metered seated a d g k) copied
copies_after body left d k Whole w x = (x.0, x.1, pays_after w x.2)
copies_after body left d k Cut w x = (x.0, x.1, x.2, pays_after w x.3)
copies_after body left d k Bad w x = (x.0, pays_after w x.1)
copies_after body left d k NoSource w x = pays_part_after w x
copies_after body left d k NoSink w x = pays_part_after w x
copies_after body left d k Starved w x = pays_part_after w x
copies_after body left d k WantOfMemory w x = pays_part_after w x

halfway_ends : {seated c : Bool} {body : Walk} {p q : BodyState} {a b d : Option (List ℕ)} {g h k : ℕ}
    (left next : Option (List ℕ)) (copied : Copied)
    → Halfway seated c body p left a b g h → CopiesPiece c p q left next (metered seated b d h k) (Some copied)
    → CopiesBody body next (metered seated a d g k) copied
halfway_ends None next copied x y = absurd (let e = x.left_is in cc)
halfway_ends {seated} {c} {body} {p} {q} {a} {b} {d} {g} {h} {k} (Some bytes) next copied x y =
    let is : x.rest ≡ bytes = let e = x.left_is in cc in
    subst (λ w. CopiesBody w next (metered seated a d g k) copied) (sym
    (x.same ∙ ap (λ r. after x.grown (walk c p r)) is))
    (copies_after (walk c p bytes) next d k copied x.pays y.piece)

-- the last piece
pub ends : {seated c : Bool} {plan : BodyPlan} {p q : BodyState} {a b d : Option (List ℕ)} {g h k : ℕ}
    (first left next : Option (List ℕ)) (copied : Copied)
    → SoFar seated plan c p first left a b g h → CopiesPiece c p q left next (metered seated b d h k) (Some copied)
    → Copies plan c first next (metered seated a d g k) copied
ends None left next copied x y = record { body = tt }
ends (Some bytes) left next copied x y = record { body = halfway_ends left next copied x.known y }

-- a piece of the body that is copied, and for the meter's own seat
pub piece_as : {seated now_seated c now_c : Bool} {p q : BodyState} {left next b d : Option (List ℕ)} {h k : ℕ}
    {ended : Option Copied}
    → now_seated ≡ seated → now_c ≡ c → CopiesPiece now_c p q left next (metered now_seated b d h k) ended
    → CopiesPiece c p q left next (metered seated b d h k) ended
piece_as {seated} {now_seated} {c} {now_c} {p} {q} {left} {next} {b} {d} {h} {k} {ended} e f x =
    subst (λ s. CopiesPiece c p q left next (metered s b d h k) ended) e
    (subst (λ t. CopiesPiece t p q left next (metered now_seated b d h k) ended) f x)

-- what is to come behind the bytes that were dropped
pub passed : {S : Type 0} (left : S → Option (List ℕ)) (ahead : List ℕ) (used : ℕ) {now : List ℕ} {a b : S}
    → now ≡ drop used ahead → a ≡ b
    → prepend_known now (left a) ≡ prepend_known (drop used ahead) (left b)
passed left ahead used {now} {a} {b} e f = ap (λ l. prepend_known l (left a)) e
    ∙ ap (λ s. prepend_known (drop used ahead) (left s)) f

-- a piece behind which the body is so
pub fed_so : {seated c : Bool} {p q : BodyState} {ahead : List ℕ} {used : ℕ} {done : Bool} {b d : Option (List ℕ)}
    {g h : ℕ} (t : Bool) → done ≡ t → PieceFed c p q ahead used done (metered seated b d g h)
    → PieceFed c p q ahead used t (metered seated b d g h)
fed_so {seated} {c} {p} {q} {ahead} {used} {b} {d} {g} {h} t e x =
    subst (λ o. PieceFed c p q ahead used o (metered seated b d g h)) e x

pub fed_at : {seated c : Bool} {p q : BodyState} {a ahead : List ℕ} {used : ℕ} {done : Bool} {b d : Option (List ℕ)}
    {g h : ℕ} → a ≡ ahead → PieceFed c p q a used done (metered seated b d g h) → PieceFed c p q ahead used done
    (metered seated b d g h)
fed_at {seated} {c} {p} {q} {used} {done} {b} {d} {g} {h} e x =
    subst (λ l. PieceFed c p q l used done (metered seated b d g h)) e x

pub unfed_at : {seated c : Bool} {p : BodyState} {a ahead : List ℕ} {b d : Option (List ℕ)} {g h : ℕ} {copied : Copied}
    → a ≡ ahead → PieceUnfed c p a (metered seated b d g h) copied → PieceUnfed c p ahead (metered seated b d g h)
    copied
unfed_at {seated} {c} {p} {b} {d} {g} {h} {copied} e x = subst (λ l. PieceUnfed c p l (metered seated b d g h) copied) e
    x
