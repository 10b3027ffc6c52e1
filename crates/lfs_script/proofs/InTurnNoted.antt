-- Uses of a volume one after the other before a witness: one more.
use Rattle.std.proofs.Common.{◌≡◌, ◌+◌, ◌<◌, ◌≤◌, ℕ, Bool, Option, Some, List, [], ◌∷◌, ◌++◌, drop, length, map, take, refl, sym, ◌∙◌, ap}
use Rattle.std.proofs.Common.{subst, arith, get_or}
use Rattle.std.proofs.lemmas.List.{length-drop, length-map, map-append, take-append-drop, take_all}
use Rattle.lfs_model.specs.Device.{AllLeft, DeviceState, LeavesOnly, Only}
use Rattle.lfs_model.specs.Script.{call_of}
use Rattle.lfs_model.specs.Since.{UsesNoted}
use Rattle.lfs_model.specs.Volume.{LeavesPrefix}
use Rattle.lfs_fs.specs.Mounting.{IsMountFault, IsRefused}
use Rattle.lfs_fs.specs.log.verify.declared.fault.MountFault.{MountFault}
use Rattle.lfs_fs.specs.log.verify.declared.fault.MountFault.TheVariants.{NoMemory}
use Rattle.lfs_script.specs.Series.{Between, texts_of}
use Rattle.lfs_script.specs.SeriesNoted.{StopsAtMountNoted, UsesEachNoted, UsesInTurnNoted, UsesOneNoted}
use Rattle.lfs_script.specs.Session.{SessionNoted}
use Rattle.lfs_script.specs.Noted.{Glance}
use Rattle.lfs_script.specs.declared.script.StrictEnd.{StrictEnd}
use Rattle.lfs_script.specs.declared.session.StoppedScript.{StoppedScript}
use Rattle.lfs_script.proofs.InTurn.{texts_more}

module _ {D : Type 0} (state : D → DeviceState) (strict : Bool) where
  each_more : (texts : List (List ℕ)) (text : List ℕ) (old mid new : Between D) (s s1 s2 : List Glance)
      → UsesEachNoted state strict texts old
      mid s s1 → UsesOneNoted state strict text mid new s1 s2 → UsesEachNoted state strict (texts ++ text ∷ []) old new s s2
  each_more [] text old mid new s s1 s2 (same, seen) one = (
    new,
    s2,
    subst (λ (x : List Glance). UsesOneNoted state strict text old new x s2) seen
        (subst (λ (b : Between D). UsesOneNoted state strict text b new s1 s2) same one),
    (refl, refl),
  )
  each_more (t ∷ texts) text old mid new s s1 s2 uses one =
      (uses.0, uses.1, uses.2, each_more texts text uses.0 mid new uses.1 s1 s2 uses.3 one)

  -- one use by a script of this text
  abbrev pub GoesOn : List ℕ → Option (List ℕ) → Option (List ℕ) → D → D → List Glance → List Glance → Type 0
  GoesOn text w w' d d' s s' =
      (end : StrictEnd) × (rest : Option (List ℕ)) × (session : SessionNoted strict end (Some text) rest w w' (state d) (state d') s s')
      × UsesNoted (state d) (state d') session.script session.answers session.clocks

  -- it begins where the last ended
  then_last : (texts : List (List ℕ)) (text : List ℕ) (old last : Between D) (w' : Option (List ℕ)) (d' : D) (s s1 s2 : List Glance)
      → UsesEachNoted state strict texts old last s s1
      → LeavesPrefix (state last.device) last.points last.calls last.given → GoesOn text last.written w' last.device d' s1 s2
      → Only (state d').content (state d') → UsesInTurnNoted state strict (texts ++ text ∷ []) old w' d' s s2
  then_last texts text old last w' d' s s1 s2 uses pending (end, rest, session, one) alone =
      let next : Between D = record {
        written = w';
        device = d';
        points = one.uses.first ∷ one.uses.points;
        calls = map call_of session.script;
        given = session.answers;
      } in
      record {
        last = next;
        told = each_more texts text old last next s s1 s2 uses (record {
          end = end;
          rest = rest;
          session = session;
          told = one;
          continues = one.uses.continues last.points last.calls last.given pending;
          alone = alone;
          points = refl;
          calls = refl;
          given = refl;
        });
        written = refl;
        device = refl;
        pending = one.uses.pending;
      }

  uses_more : {texts : List (List ℕ)} (text : List ℕ) (old : Between D) (w w' : Option (List ℕ)) (d d' : D) (s s1 s2 : List Glance)
      → UsesInTurnNoted state strict texts old w d s s1 → GoesOn text w w' d d' s1 s2
      → Only (state d').content (state d') → UsesInTurnNoted state strict (texts ++ text ∷ []) old w' d' s s2
  uses_more {texts} text old w w' d d' s s1 s2 was goes alone =
      then_last texts text old was.last w' d' s s1 s2 was.told
      (subst (λ (x : D). LeavesPrefix (state x) was.last.points was.last.calls was.last.given) (sym was.device) was.pending)
      (subst (λ (x : D). GoesOn text was.last.written w' x d' s1 s2) (sym was.device)
      (subst (λ (x : Option (List ℕ)). GoesOn text x w' d d' s1 s2) (sym was.written) goes)) alone

  pub none_told : (old : Between D) (s : List Glance) → LeavesPrefix (state old.device) old.points old.calls old.given
      → UsesInTurnNoted state strict [] old old.written old.device s s
  none_told old s pending = record { last = old; told = (refl, refl); written = refl; device = refl; pending = pending }

  -- the scripts so far are those up to an index
  module _ (scripts : List StoppedScript) (i : ℕ) where
    -- the script there was used too
    pub more_told : (it : StoppedScript) {text : List ℕ} → i < length scripts → get_or scripts i it ≡ it → text ≡ it.script.items
        → (old : Between D) (w w' : Option (List ℕ)) (d d' : D) (s s1 s2 : List Glance)
        → UsesInTurnNoted state strict (texts_of (take i scripts)) old w d s s1 → GoesOn text w w' d d' s1 s2
        → Only (state d').content (state d') → UsesInTurnNoted state strict (texts_of (take (i + 1) scripts)) old w' d' s s2
    more_told it {text} within own is old w w' d d' s s1 s2 was goes alone =
        let same : texts_of (take i scripts) ++ text ∷ [] ≡ texts_of (take (i + 1) scripts) =
        ap (λ (t : List ℕ). texts_of (take i scripts) ++ t ∷ []) is ∙ sym (texts_more state scripts i it within own) in
        subst (λ (ts : List (List ℕ)). UsesInTurnNoted state strict ts old w' d' s s2) same
        (uses_more text old w w' d d' s s1 s2 was goes alone)

    -- there is none
    pub all_told : (old : Between D) (w : Option (List ℕ)) (d : D) (s s1 : List Glance) → length scripts ≤ i
        → UsesInTurnNoted state strict (texts_of (take i scripts)) old w d s s1
        → UsesInTurnNoted state strict (texts_of scripts) old w d s s1
    all_told old w d s s1 past was =
        subst (λ (ss : List StoppedScript). UsesInTurnNoted state strict (texts_of ss) old w d s s1) (take_all i scripts past) was

    -- a mount failed
    pub stops_told : (fault : MountFault) (old : Between D) (w : Option (List ℕ)) {w' : Option (List ℕ)} (d d' : D) (s : List Glance)
        {s1 s2 : List Glance} → i < length scripts
        → w' ≡ w → s2 ≡ s1 → UsesInTurnNoted state strict (texts_of (take i scripts)) old w d s s1
        → ((fault ≡ NoMemory → ⊥) → IsMountFault (state d) (state d') fault) → IsRefused (state d) (state d') fault
        → LeavesOnly (state d) (state d') (state d).may_leave → AllLeft (state d') (state d).may_leave
        → StopsAtMountNoted state strict (texts_of scripts) fault old w' d' s s2
    stops_told fault old w d d' s within same seen was cause reason moments left = record {
      done = texts_of (take i scripts);
      others = texts_of (drop i scripts);
      all = sym (map-append (λ (x : StoppedScript). x.script.items) (take i scripts) (drop i scripts))
          ∙ ap texts_of (take-append-drop i scripts);
      some = omega (arith, within, length-map (drop i scripts) (λ (x : StoppedScript). x.script.items), length-drop i scripts);
      last = was.last;
      told = subst (λ (x : List Glance). UsesEachNoted state strict (texts_of (take i scripts)) old was.last s x) (sym seen) was.told;
      written = was.written ∙ sym same;
      cause = λ other. subst (λ (x : D). IsMountFault (state x) (state d') fault) (sym was.device) (cause other);
      reason = subst (λ (x : D). IsRefused (state x) (state d') fault) (sym was.device) reason;
      moments = subst (λ (x : D). LeavesOnly (state x) (state d') (state x).may_leave) (sym was.device) moments;
      pending = λ c is. was.pending c (left c is);
    }
