-- What was read so far, and what was handed on of it.
use Rattle.std.proofs.Common.{◌≡◌, ℕ, ◌++◌, List, [], ◌∷◌, true, false, refl, sym, ap, subst, ◌∙◌, append_assoc, append-nil}
use Rattle.std.specs.declared.option.Option.{Option}
use Rattle.std.specs.Io.KnownBytes.{Consumes, Keeps}
use Rattle.std.proofs.KnownBytes.{Consumes-nil, Consumes-trans, Consumes-kept}
use Rattle.sq_keeper.specs.declared.desk.Handed.{Handed}
use Rattle.sq_keeper.specs.declared.desk.Handed.TheVariants.{Stop, Died}
use Rattle.sq_keeper.specs.declared.keeper.KeeperEnd.TheVariants.{Ended, ReadFault, Told, WantOfMemory}
use Rattle.sq_keeper.specs.Handing.{Adds}
use Rattle.sq_keeper.specs.Lines.{lines_handed, ReadsLines}
use Rattle.sq_keeper.specs.Walk.{walk_line, walk_handed, Walks}
use Rattle.sq_keeper.proofs.AddLaws.{adds_none, adds_more}
use Rattle.sq_keeper.proofs.WalkLaws.{walk_line_append, walk_handed_append, walk_none, line_none, walk_all}

-- these bytes were read, and their lines handed on
pub record SoFar (proc : ℕ) (left_before left_now : Option (List ℕ)) (before now : Option (List Handed))
    (line : List ℕ) : Type 0 where
  pub read : List ℕ
  pub consumed : Consumes left_before left_now read
  pub adds : Adds before now (walk_handed proc [] read)
  pub gathers : line ≡ walk_line [] read

pub begins : (proc : ℕ) (left : Option (List ℕ)) (handed : Option (List Handed)) (line : List ℕ) → line ≡ []
    → SoFar proc left left handed handed line
begins proc left handed line e =
    record {
      read = [];
      consumed = Consumes-nil left;
      adds = subst (Adds handed handed) (sym (walk_none proc [])) (adds_none handed);
      gathers = e ∙ sym (line_none []);
    }

joined : (proc : ℕ) (line read bytes : List ℕ) → line ≡ walk_line [] read
    → walk_handed proc [] read ++ walk_handed proc line bytes ≡ walk_handed proc [] (read ++ bytes)
joined proc line read bytes e =
    ap (λ l. walk_handed proc [] read ++ walk_handed proc l bytes) e ∙ sym (walk_handed_append proc [] read bytes)

-- more bytes, all of which were taken
pub goes_on : (proc : ℕ) (a b c : Option (List ℕ)) (x y z : Option (List Handed)) (line longer bytes : List ℕ)
    → SoFar proc a b x y line → Consumes b c bytes → Walks proc line longer bytes y z true → SoFar proc a c x z longer
goes_on proc a b c x y z line longer bytes s k w =
    record {
      read = s.read ++ bytes;
      consumed = Consumes-trans a b c s.read bytes s.consumed k;
      adds = subst (Adds x z) (joined proc line s.read bytes s.gathers) (adds_more x y z _ _ s.adds w.0);
      gathers = w.1 ∙ ap (λ l. walk_line l bytes) s.gathers ∙ sym (walk_line_append [] s.read bytes);
    }

stopped : (proc : ℕ) (line read bytes : List ℕ) → line ≡ walk_line [] read
    → walk_handed proc [] read ++ (walk_handed proc line bytes ++ Stop proc ∷ []) ≡ walk_handed proc [] (read ++ bytes)
    ++ Stop proc ∷ []
stopped proc line read bytes e =
    sym (append_assoc (walk_handed proc [] read) (walk_handed proc line bytes) (Stop proc ∷ []))
    ∙ ap (λ l. l ++ Stop proc ∷ []) (joined proc line read bytes e)

-- more bytes, up to the LF at which the desk wanted no more
pub is_told : (proc : ℕ) (a b c : Option (List ℕ)) (x y z : Option (List Handed)) (line longer bytes : List ℕ)
    → SoFar proc a b x y line → Consumes b c bytes → Walks proc line longer bytes y z false
    → ReadsLines proc a c x z Told
is_told proc a b c x y z line longer bytes s k w =
    let front = w.0 in
    let more = w.1 in
    record {
      read = s.read ++ bytes;
      handed = walk_handed proc [] (s.read ++ (front ++ 10 ∷ [])) ++ Stop proc ∷ [];
      consumed = Consumes-trans a b c s.read bytes s.consumed k;
      adds = subst (Adds x z) (stopped proc line s.read (front ++ 10 ∷ []) s.gathers) (adds_more x y z _ _ s.adds w.3);
      hands = (
        s.read ++ front,
        more,
        ap (λ l. s.read ++ l) w.2 ∙ sym (append_assoc s.read front (10 ∷ more)),
        ap (λ l. l ++ Stop proc ∷ [])
            (walk_all proc (s.read ++ (front ++ 10 ∷ []))
            ∙ ap (lines_handed proc) (sym (append_assoc s.read front (10 ∷ [])))),
      );
    }

lines_died : (proc : ℕ) (read : List ℕ)
    → walk_handed proc [] read ++ Died proc ∷ [] ≡ lines_handed proc read ++ Died proc ∷ []
lines_died proc read = ap (λ l. l ++ Died proc ∷ []) (walk_all proc read)

-- the end of the input, and the death
pub is_ended : (proc : ℕ) (a b c : Option (List ℕ)) (x y z : Option (List Handed)) (line : List ℕ)
    → SoFar proc a b x y line → Consumes b c [] → Adds y z (Died proc ∷ []) → ReadsLines proc a c x z Ended
is_ended proc a b c x y z line s k d =
    record {
      read = s.read ++ [];
      handed = walk_handed proc [] s.read ++ Died proc ∷ [];
      consumed = Consumes-trans a b c s.read [] s.consumed k;
      adds = adds_more x y z _ _ s.adds d;
      hands = lines_died proc s.read ∙ ap (λ l. lines_handed proc l ++ Died proc ∷ []) (sym (append-nil s.read));
    }

-- a fault, and the death
pub is_failed : (proc : ℕ) (a b c : Option (List ℕ)) (x y z : Option (List Handed)) (line : List ℕ)
    → SoFar proc a b x y line → Keeps b c → Adds y z (Died proc ∷ []) → ReadsLines proc a c x z ReadFault
is_failed proc a b c x y z line s k d =
    record {
      read = s.read;
      handed = walk_handed proc [] s.read ++ Died proc ∷ [];
      consumed = Consumes-kept a b c s.read s.consumed k;
      adds = adds_more x y z _ _ s.adds d;
      hands = lines_died proc s.read;
    }

-- nothing was read or handed on
pub is_refused : (proc : ℕ) (left : Option (List ℕ)) (handed : Option (List Handed))
    → ReadsLines proc left left handed handed WantOfMemory
is_refused proc left handed = record {
  read = [];
  handed = [];
  consumed = Consumes-nil left;
  adds = adds_none handed;
  hands = (refl, refl);
}
