-- What a rename serves where both paths were walked, exit by exit.
use Rattle.lfs_fs.proofs.Prelude.{◌≡◌, ◌<◌, ◌≤◌, ◌^◌, ◌*◌, ◌||◌, ℕ, Bool, true, false, List, Option, Some, None, Result, Ok, Err, refl, sym}
use Rattle.lfs_fs.proofs.Prelude.{◌∙◌, ap, subst, inl, inr, arith, IfErr, IsErrOf, OnErr, OnOk, Done, Refuse, Rename, DeviceState, IsLawful}
use Rattle.lfs_fs.proofs.Prelude.{need, Refusal, Step, last_dots, no_last, Handles, State, Store, totals_of_tree, volume_of, files_of, Last}
use Rattle.lfs_fs.proofs.Prelude.{HasLast, is_dots, here, last_says, EntryFault, Source, Target, ChecksRename, HasBothNames, RefusesRename}
use Rattle.lfs_fs.proofs.Prelude.{FailsWhere, FsError, Fs, need_of, error_of_entry, Finishes, Reaches, refusal_of, IsOpen, IsShut}
use Rattle.lfs_fs.proofs.Prelude.{ReachesBoth, IsReady, answer_by, seen, IsStill, Mounted, Serves, segments_of, IsRename, StopsAt}
use Rattle.lfs_fs.proofs.Prelude.{asked_by, conditions, draft_of, rename_stops, need_shaped}
use Rattle.lfs_fs.specs.Asking.{most_asked}
use Rattle.lfs_model.specs.Refusal as refusals
use Rattle.lfs_files.specs.declared.fault.LogFault.TheVariants as log
use Rattle.lfs_path.specs.Laws.{SaysLast}
use Rattle.lfs_entries.specs.declared.fault.EntryFault.TheVariants as fault
use Rattle.lfs_entries.specs.Moving.{CountsMove, DraftsMove, HasNames}
use Rattle.lfs_fs.specs.declared.error.FsError.TheVariants as error
use Rattle.lfs_fs.proofs.calls.AnyDevice.{IsOrdinary}
use Rattle.lfs_fs.proofs.calls.Files as calls
use Rattle.lfs_fs.proofs.calls.Files.{In, IsBegun, MakesNext, ReadsTo, RedraftsTo, Rose, apart_now, begun_after, begun_at, counted_now}
use Rattle.lfs_fs.proofs.calls.Files.{drafted_ends, explains_where, fault_serves, fits_now, has_in, reached_in, read_still, risen}
use Rattle.lfs_fs.proofs.calls.Files.{still_after, with_store}
use Rattle.lfs_fs.proofs.rename.Drafts.{moved_map}
use Rattle.lfs_steps.proofs.rename.Fits.{has_move, has_names, takes_move}
use Rattle.lfs_steps.proofs.rename.Maps.{renamed, tree_after}
use Rattle.lfs_fs.proofs.rename.Refusals.{AreReached, passes, rename_explained, renames, same_step}
use Rattle.lfs_steps.proofs.rename.Steps.{rename_done, rename_lacks}
use Rattle.lfs_fs.proofs.calls.Reads.{done_serves, refused_serves, worn_serves}

module _ {D : Type 0} (state : D → DeviceState) (lawful : (d : D) → IsLawful (state d)) (v : Mounted D) (f : Fs D) (a : List ℕ) (da : ℕ)
    (from : Option Last) (b chain : List ℕ) (to : Option Last) (reached : ReachesBoth state v f a da from b chain to)
    (ready : IsReady f) where
  abbrev N : ℕ
  N = segments_of v

  begun : IsBegun state v f
  begun = begun_at state reached.first ready

  was : v.log.halted ≡ false
  was = calls.was state lawful v f begun

  -- ---- paths without a last piece, or with one that is dots
  refused : {r : Refusal} → IsOrdinary (Refuse r) → ((s : State) → StopsAt (conditions N s a b da (here chain)) (Refuse r))
      → Serves state v (seen f) (Rename a b) (Refuse r)
  refused {r} ordinary at =
      refused_serves {call = Rename a b} (lawful v.log.device) reached.first.still was ordinary refl
      (λ k m0 m s keeps is. rename_stops N s a b da (here chain) (reached.first.walk k m0 m s keeps is)
      (reached.second.walk k m0 m s keeps is) (at s))

  pub no_first : from ≡ None → Serves state v (seen f) (Rename a b) (Refuse refusals.Busy)
  no_first none =
      let says : no_last a ≡ true = last_says a None (subst (HasLast a) none reached.first.last) in
      refused tt (λ s. inl (ap (λ (x : Bool). x || no_last b) says, refl))

  module _ (l : Last) (is_from : from ≡ Some l) where
    says : SaysLast a (Some l)
    says = last_says a (Some l) (subst (HasLast a) is_from reached.first.last)

    pub no_second : to ≡ None → Serves state v (seen f) (Rename a b) (Refuse refusals.Busy)
    no_second none =
        let none_says : no_last b ≡ true = last_says b None (subst (HasLast b) none reached.second.last) in
        refused tt (λ s. inl ((λ i. says.0 i || none_says i), refl))

    module _ {o : Last} (is_to : to ≡ Some o) where
      other_says : SaysLast b (Some o)
      other_says = last_says b (Some o) (subst (HasLast b) is_to reached.second.last)

      pub dots_first : is_dots l.name.now ≡ true → Serves state v (seen f) (Rename a b) (Refuse refusals.Inval)
      dots_first dots = refused tt
          (λ s. inr ((λ i. says.0 i || other_says.0 i), inl (ap (λ (x : Bool). x || last_dots b) (says.2 ∙ dots), refl)))

      pub dots_second : is_dots l.name.now ≡ false → is_dots o.name.now ≡ true
          → Serves state v (seen f) (Rename a b) (Refuse refusals.Inval)
      dots_second plain dots = refused tt (λ s. inr (
        (λ i. says.0 i || other_says.0 i),
        inl ((λ i. (says.2 ∙ plain) i || (other_says.2 ∙ dots) i), refl),
      ))

      -- ---- both end in names, which were looked up
      module _ (plain : is_dots l.name.now ≡ false) (other_plain : is_dots o.name.now ≡ false) (store : Store D)
          (reads : ReadsTo state f store) where
        abbrev now : Fs D
        now = with_store f store

        still : IsStill state (seen f) (seen now)
        still = read_still f store reads

        here_in : In state v now (λ m s. AreReached N m s a b da chain l o)
        here_in k m0 m s keeps is =
            let before = reads.looks.carries.kept_before keeps in
            record {
              first = reached_in (subst (Reaches state v f a da) is_from reached.first) k m0 m s before is;
              second = reached_in (subst (Reaches state v f b (here chain)) is_to reached.second) k m0 m s before is;
              directories = reached.directories k m0 m s before is;
              plain = plain;
              other_plain = other_plain;
            }

        pub checks_refused : {why : EntryFault}
            → RefusesRename (files_of state f.store) (files_of state store) da l.name.now l.slash chain o.name.now o.slash why
            → (why ≡ fault.Log log.Halted → (files_of state f.store).halted ≡ true) → (why ≡ fault.Log log.Full → ⊥)
            → Serves state v (seen now) (Rename a b) (Refuse (refusal_of (error_of_entry why)))
        checks_refused {why} refuses halted other =
            fault_serves state lawful v f begun store still (Rename a b) refl refl refl why halted other
            (λ k m0 m s keeps is. rename_explained (files_of state f.store) (files_of state store) (here_in k m0 m s keeps is)
            keeps (has_in begun is) (Rose state v store) (risen begun store) why refuses)

        -- ---- both names give one object
        module _ (same : HasBothNames (files_of state f.store) (files_of state store) da l.name.now l.slash chain o.name.now o.slash) where
          stays : In state v now (λ m s. Step N s (Rename a b) Done s)
          stays k m0 m s keeps is = same_step (files_of state f.store) (files_of state store) (here_in k m0 m s keeps is)
              keeps (has_in begun is) same

          pub same_ends : (r : Result (Unit {0}) FsError) → OnOk r ((volume_of store).number < 2 ^ 62)
              → OnErr r (2 ^ 62 ≤ (volume_of store).number)
              → IfErr r (λ e. e ≡ error.Worn) → Serves state v (seen now) (Rename a b) (answer_by (λ _. Done) r)
          same_ends (Ok u) young aged is =
              done_serves (lawful v.log.device) (still_after state lawful v f begun store still) was tt (λ e. cc)
              (let all = (still_after state lawful v f begun store still).reads.number in omega (arith, all, young)) stays
          same_ends (Err e) young aged is = subst (λ (x : FsError). Serves state v (seen now) (Rename a b) (Refuse (refusal_of x))) (sym is)
              (worn_serves {call = Rename a b} (lawful v.log.device) (still_after state lawful v f begun store still) was refl
              (let all = (still_after state lawful v f begun store still).reads.number in omega (arith, all, aged))
              (λ k m0 m s keeps inside. (Done, s, stays k m0 m s keeps inside, refl)))

        -- ---- the draft
        module _ {source : Source} {dest : Target}
            (checks : ChecksRename (files_of state f.store) (files_of state store) da l.name.now l.slash chain o.name.now o.slash source
            dest) {is_open : Bool} (held : is_open ≡ true → IsOpen f.handles dest.replaced)
            (shut : is_open ≡ false → IsShut f.handles dest.replaced)
            (next : Store D) (redrafts : RedraftsTo state now next) where
          abbrev d1 : ℕ
          d1 = source.directory.value

          abbrev d2 : ℕ
          d2 = dest.directory.value

          begun_now : IsBegun state v now
          begun_now = begun_after f store reads lawful begun

          renames_in : In state v now (λ m s. IsRename N m s a b l o source dest)
          renames_in k m0 m s keeps is = renames (files_of state f.store) (files_of state store) (here_in k m0 m s keeps is)
              keeps (has_in begun is) checks

          -- it is made
          module _ (drafts : DraftsMove (files_of state store) (files_of state next) source dest is_open)
              (counts : CountsMove (files_of state store) (files_of state next) source dest) where
            makes : In state v (with_store now next) (MakesNext state v (with_store now next) (Rename a b))
            makes k m0 m s keeps is =
                let kept = redrafts.looks.carries.kept_before keeps in
                let g = renames_in k m0 m s kept is in
                let pass = passes (files_of state f.store) (files_of state store) (here_in k m0 m s kept is) kept
                (has_in begun is) checks in
                let has = has_in begun_now is in
                let moved = drafts.has m m keeps has (has_move g) in
                let table = sym (is.handles ∙ sym begun.still.table) in
                let map = moved_map g is_open (λ on. subst (λ (hs : Handles). IsOpen hs dest.replaced) table (held on))
                (λ off. subst (λ (hs : Handles). IsShut hs dest.replaced) table (shut off)) moved in
                let counted = counts m m moved.map keeps has moved.has (has_move g) (g.shaped.long d1) map.shape.map
                (counted_now state lawful v now begun_now is) in
                let needs : need (tree_after s a b d1 d2) ≡ need_of (with_store now next) = ap need (sym map.tree)
                ∙ (need_shaped totals_of_tree map.shape counted).0 in
                let done : need_of (with_store now next) ≤ 47 * N → Step N s (Rename a b) Done (renamed s a b d1 d2) =
                λ room. rename_done N s a b d1 d2 g.first.walk g.second.walk pass
                (subst (λ (x : ℕ). x ≤ 47 * N) (sym needs) room) in
                record {
                  next = renamed s a b d1 d2;
                  answer = Done;
                  ok = refl;
                  map = moved.map;
                  has = moved.has;
                  fits = drafts.fits m m keeps has (fits_now state lawful v now begun_now m)
                      (takes_move g (files_of state store) (apart_now state lawful v now begun_now) moved);
                  counted = counted;
                  is = λ room. map.map (reached.first.bytes, reached.second.bytes) (done room);
                  done = done;
                  lacks = λ more. rename_lacks N s a b d1 d2 g.first.walk g.second.walk pass
                      (subst (λ (x : ℕ). 47 * N < x) (sym needs) more);
                }

          pub move_ends : (new : Fs D) → new.handles ≡ f.handles → (drafted : Result (Unit {0}) EntryFault)
              (result : Result (Unit {0}) FsError) → Finishes state (with_store now next) new drafted result
              → OnOk drafted (asked_by (draft_of next) ≤ most_asked (Rename a b))
              → OnOk drafted (DraftsMove (files_of state store) (files_of state next) source dest is_open)
              → OnOk drafted (CountsMove (files_of state store) (files_of state next) source dest)
              → IfErr drafted (FailsWhere (files_of state store) (files_of state next) (HasNames source dest))
              → (IsErrOf drafted (fault.Log log.Halted) → (files_of state store).halted ≡ true)
              → (IsErrOf drafted (fault.Log log.Full) → ⊥)
              → Serves state v (seen new) (Rename a b) (answer_by (λ _. Done) result)
          unfolding makes
          move_ends new rest drafted result finishes small drafts counts =
              drafted_ends state lawful v now begun_now next redrafts (Rename a b) refl refl refl refl makes new rest Done refl
              (λ p q k m0 m s keeps is. (refl, is.handles))
              (explains_where begun_now next {P = HasNames source dest}
              (λ k m0 m s keeps is. has_names (renames_in k m0 m s (redrafts.looks.carries.kept_before keeps) is)) (Rename a b))
              drafted result finishes small drafts counts
