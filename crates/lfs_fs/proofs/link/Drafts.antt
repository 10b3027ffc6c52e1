-- A further name that a call drafted, as a step of the model.
use Rattle.lfs_fs.proofs.Prelude.{◌≡◌, ◌≤◌, ◌*◌, ℕ, List, Result, refl, sym, ◌∙◌, ap, arith, Done, LinkTo, DeviceState, IsLawful, need}
use Rattle.lfs_fs.proofs.Prelude.{with_tree, FilesState, Draft, Store, StagedLog, files_of, totals_of_tree, Last, EntryFault, FsError, Fs}
use Rattle.lfs_fs.proofs.Prelude.{need_of, Finishes, answer_by, seen, Mounted, Serves, segments_of, IsLink, need_shaped}
use Rattle.lfs_model.proofs.Keeps.{link_keeps}
use Rattle.lfs_files.specs.declared.header.Header.{Header}
use Rattle.lfs_entries.specs.NewNames.{CountsName, DraftsName}
use Rattle.lfs_fs.proofs.calls.Files.{In, IsBegun, MakesNext, RedraftsTo, apart_now, counted_now, fits_now, has_in, with_store}
use Rattle.lfs_steps.proofs.link.Maps.{few_links, linked_map, linked_shape, linked_tree, takes}
use Rattle.lfs_steps.proofs.link.Steps.{link_done, link_no_space, linked}
use Rattle.lfs_fs.proofs.calls.Told.{DraftTold, told_ends}

module _ {D : Type 0} (state : D → DeviceState) (lawful : (d : D) → IsLawful (state d)) (v : Mounted D) (f : Fs D)
    (begun : IsBegun state v f) (store : Store D) (redrafts : RedraftsTo state f store)
    (a b : List ℕ) (da d : ℕ) (l : Last) (head : Header) (n : ℕ) (object : Header)
    (may : In state v (with_store f store) (λ m s. IsLink (segments_of v) m s a b da d l head n object)) where
  abbrev N : ℕ
  N = segments_of v

  abbrev s : FilesState StagedLog Draft
  s = files_of state f.store

  abbrev s' : FilesState StagedLog Draft
  s' = files_of state store

  abbrev after : Fs D
  after = with_store f store

  makes : DraftsName s s' d head n object l.name.now → CountsName s s' n object
      → In state v after (MakesNext state v after (LinkTo a b))
  makes drafts counts k m0 m st keeps is =
      let g = may k m0 m st keeps is in
      let at = g.enters.at in
      let here = has_in begun is in
      let made = drafts.has m m keeps here in
      let shape = linked_shape g made.links made.names in
      let counted = counts m m made.map keeps here made.has at.map.map g.names.there shape.map (counted_now state lawful v f begun is) in
      let needs : need (linked N st a b n d) ≡ need_of after
      = ap need (sym (linked_tree g made.links made.names)) ∙ (need_shaped totals_of_tree shape counted).0 in
      let done = λ (room : need_of after ≤ 47 * N).
      link_done N b g.names d at.walk g.enters.taken (few_links g) (omega (arith, needs, room)) in
      record {
        next = with_tree st (linked N st a b n d);
        answer = Done;
        ok = refl;
        map = made.map;
        has = made.has;
        fits = drafts.fits m m here (fits_now state lawful v f begun m)
            (takes g s (apart_now state lawful v f begun) made.names.file.bytes.size);
        counted = counted;
        is = λ room. linked_map g made.links made.names (link_keeps N st a b Done at.map.log.sound (g.bytes, at.bytes) (done room));
        done = done;
        lacks = λ more. link_no_space N b g.names d at.walk g.enters.taken (few_links g) (omega (arith, needs, more));
      }

  pub link_ends : (new : Fs D) → new.handles ≡ f.handles → (draft : Result (Unit {0}) EntryFault)
      → DraftTold s s' 2 2 (DraftsName s s' d head n object l.name.now) (CountsName s s' n object) draft
      → (result : Result (Unit {0}) FsError) → Finishes state after new draft result
      → Serves state v (seen new) (LinkTo a b) (answer_by (λ _. Done) result)
  unfolding makes
  link_ends new rest = told_ends lawful begun store redrafts (LinkTo a b) refl refl refl refl 2 2 (omega arith) makes new rest
      (λ drafts counts k m0 m st keeps is. (refl, is.handles))
