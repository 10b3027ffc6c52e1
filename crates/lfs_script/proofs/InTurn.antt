-- Uses of a volume one after the other: one more.
use Rattle.std.proofs.Common.{◌≡◌, ◌+◌, ◌<◌, ◌≤◌, ℕ, Option, Some, List, [], ◌∷◌, ◌++◌, drop, length, map, take, refl, sym, ◌∙◌, ap, subst}
use Rattle.std.proofs.Common.{arith, get_or}
use Rattle.std.proofs.lemmas.List.{length-drop, length-map, map-append, take-append-drop, take_all, take_more}
use Rattle.lfs_model.specs.Device.{AllLeft, DeviceState, LeavesOnly, Only}
use Rattle.lfs_model.specs.Script.{call_of}
use Rattle.lfs_model.specs.Volume.{LeavesPrefix}
use Rattle.lfs_model.specs.Use.{UsesVolume}
use Rattle.lfs_fs.specs.Mounting.{IsMountFault, IsRefused}
use Rattle.lfs_fs.specs.log.verify.declared.fault.MountFault.{MountFault}
use Rattle.lfs_fs.specs.log.verify.declared.fault.MountFault.TheVariants.{NoMemory}
use Rattle.lfs_script.specs.Series.{Between, StopsAtMount, UsesEach, UsesInTurn, UsesOne, texts_of}
use Rattle.lfs_script.specs.Session.{Session}
use Rattle.lfs_script.specs.declared.script.ScriptEnd.{ScriptEnd}
use Rattle.lfs_script.specs.declared.session.StoppedScript.{StoppedScript}

module _ {D : Type 0} (state : D → DeviceState) where
  each_more : (texts : List (List ℕ)) (text : List ℕ) (old mid new : Between D) → UsesEach state texts old mid → UsesOne state text mid new
      → UsesEach state (texts ++ text ∷ []) old new
  each_more [] text old mid new same one = (new, subst (λ (b : Between D). UsesOne state text b new) same one, refl)
  each_more (t ∷ texts) text old mid new uses one = (uses.0, uses.1, each_more texts text uses.0 mid new uses.2 one)

  -- one use by a script of this text
  abbrev pub GoesOn : List ℕ → Option (List ℕ) → Option (List ℕ) → D → D → Type 0
  GoesOn text w w' d d' = (end : ScriptEnd) × (rest : Option (List ℕ)) × (session : Session end (Some text) rest w w' (state d) (state d'))
      × UsesVolume (state d) (state d') session.script session.answers

  -- it begins where the last ended
  then_last : (texts : List (List ℕ)) (text : List ℕ) (old last : Between D) (w' : Option (List ℕ)) (d' : D) → UsesEach state texts old last
      → LeavesPrefix (state last.device) last.points last.calls last.given
      → GoesOn text last.written w' last.device d' → Only (state d').content (state d') → UsesInTurn state (texts ++ text ∷ []) old w' d'
  then_last texts text old last w' d' uses pending (end, rest, session, one) alone =
      let next : Between D = record {
        written = w';
        device = d';
        points = one.first ∷ one.points;
        calls = map call_of session.script;
        given = session.answers;
      } in
      record {
        last = next;
        uses = each_more texts text old last next uses (record {
          end = end;
          rest = rest;
          session = session;
          uses = one;
          continues = one.continues last.points last.calls last.given pending;
          alone = alone;
          points = refl;
          calls = refl;
          given = refl;
        });
        written = refl;
        device = refl;
        pending = one.pending;
      }

  pub uses_more : {texts : List (List ℕ)} (text : List ℕ) (old : Between D) (w w' : Option (List ℕ)) (d d' : D)
      → UsesInTurn state texts old w d → GoesOn text w w' d d'
      → Only (state d').content (state d') → UsesInTurn state (texts ++ text ∷ []) old w' d'
  uses_more {texts} text old w w' d d' was goes alone =
      then_last texts text old was.last w' d' was.uses
      (subst (λ (x : D). LeavesPrefix (state x) was.last.points was.last.calls was.last.given) (sym was.device) was.pending)
      (subst (λ (x : D). GoesOn text was.last.written w' x d') (sym was.device)
      (subst (λ (x : Option (List ℕ)). GoesOn text x w' d d') (sym was.written) goes)) alone

  pub uses_none : (old : Between D) → LeavesPrefix (state old.device) old.points old.calls old.given
      → UsesInTurn state [] old old.written old.device
  uses_none old pending = record { last = old; uses = refl; written = refl; device = refl; pending = pending }

  -- the scripts so far are those up to an index
  module _ (scripts : List StoppedScript) (i : ℕ) where
    pub texts_more : (s : StoppedScript) → i < length scripts → get_or scripts i s ≡ s
        → texts_of (take (i + 1) scripts) ≡ texts_of (take i scripts) ++ s.script.items ∷ []
    texts_more s within own =
        let up : take (i + 1) scripts ≡ take i scripts ++ s ∷ [] = take_more scripts i s within
        ∙ ap (λ (x : StoppedScript). take i scripts ++ x ∷ []) own in
        ap texts_of up ∙ map-append (λ (x : StoppedScript). x.script.items) (take i scripts) (s ∷ [])

    -- the script there was used too
    pub in_turn : (s : StoppedScript) {text : List ℕ} → i < length scripts → get_or scripts i s ≡ s → text ≡ s.script.items
        → (old : Between D) (w w' : Option (List ℕ)) (d d' : D)
        → UsesInTurn state (texts_of (take i scripts)) old w d → GoesOn text w w' d d' → Only (state d').content (state d')
        → UsesInTurn state (texts_of (take (i + 1) scripts)) old w' d'
    in_turn s {text} within own is old w w' d d' was goes alone =
        let same : texts_of (take i scripts) ++ text ∷ [] ≡ texts_of (take (i + 1) scripts) =
        ap (λ (t : List ℕ). texts_of (take i scripts) ++ t ∷ []) is ∙ sym (texts_more s within own) in
        subst (λ (ts : List (List ℕ)). UsesInTurn state ts old w' d') same (uses_more text old w w' d d' was goes alone)

    -- there is none
    pub all_used : (old : Between D) (w : Option (List ℕ)) (d : D) → length scripts ≤ i
        → UsesInTurn state (texts_of (take i scripts)) old w d → UsesInTurn state (texts_of scripts) old w d
    all_used old w d past was = subst (λ (ss : List StoppedScript). UsesInTurn state (texts_of ss) old w d) (take_all i scripts past) was

    -- a mount failed
    pub stops : (fault : MountFault) {old : Between D} (w : Option (List ℕ)) {w' : Option (List ℕ)} (d d' : D) → i < length scripts → w' ≡ w
        → UsesInTurn state (texts_of (take i scripts)) old w d
        → ((fault ≡ NoMemory → ⊥) → IsMountFault (state d) (state d') fault) → IsRefused (state d) (state d') fault
        → LeavesOnly (state d) (state d') (state d).may_leave → AllLeft (state d') (state d).may_leave
        → StopsAtMount state (texts_of scripts) fault old w' d'
    stops fault w d d' within same was cause reason moments left = record {
      done = texts_of (take i scripts);
      others = texts_of (drop i scripts);
      all = sym (map-append (λ (x : StoppedScript). x.script.items) (take i scripts) (drop i scripts))
          ∙ ap texts_of (take-append-drop i scripts);
      some = omega (arith, within, length-map (drop i scripts) (λ (x : StoppedScript). x.script.items), length-drop i scripts);
      last = was.last;
      uses = was.uses;
      written = was.written ∙ sym same;
      cause = λ other. subst (λ (x : D). IsMountFault (state x) (state d') fault) (sym was.device) (cause other);
      reason = subst (λ (x : D). IsRefused (state x) (state d') fault) (sym was.device) reason;
      moments = subst (λ (x : D). LeavesOnly (state x) (state d') (state x).may_leave) (sym was.device) moments;
      pending = λ c is. was.pending c (left c is);
    }
