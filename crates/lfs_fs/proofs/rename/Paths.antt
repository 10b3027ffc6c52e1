-- The two paths of a rename: how the second is walked where the first was, and what ends the walk
-- of one.
use Rattle.lfs_fs.proofs.Prelude.{◌≡◌, ℕ, true, false, List, Option, refl, sym, ◌∙◌, subst, AreBytes, Refuse, Rename, DeviceState, IsLawful}
use Rattle.lfs_fs.proofs.Prelude.{Refusal, NamesGive, Step, State, Tree, Parent, Refused, step_ends, Draft, Store, IsEmpty, files_of, Last}
use Rattle.lfs_fs.proofs.Prelude.{WalkFault, HasLast, EndsParent, IsParent, Tells, TellsRefusal, IsChain, here, FsError, Fs, error_of_walk}
use Rattle.lfs_fs.proofs.Prelude.{Reaches, refusal_of, ReachesBoth, IsReady, OnlyReads, seen, Mounted, Serves, segments_of}
use Rattle.lfs_files.specs.declared.fault.LogFault.TheVariants as log
use Rattle.lfs_files.specs.Files as files
use Rattle.lfs_path.specs.declared.walk_fault.WalkFault.TheVariants as walk
use Rattle.lfs_path.specs.Trees.{HasTree}
use Rattle.lfs_fs.proofs.calls.Files.{IsBegun, begun_at, has_in, still_after, with_store}
use Rattle.lfs_fs.proofs.calls.StoreCalls.{ends_parent, ends_refused}
use Rattle.lfs_fs.proofs.paths.Later.{later_reaches, later_refused}
use Rattle.lfs_fs.proofs.paths.Places.{path_read}
use Rattle.lfs_fs.proofs.paths.Walks.{tree_of_volume}
use Rattle.lfs_steps.proofs.rename.Steps.{rename_refused, rename_refused_next}

-- the second path ends somewhere
pub first_refused : (N : ℕ) (s : State) (a b : List ℕ) → NamesGive s.tree → (r : Refusal)
    → Parent s.tree a (Refused r) → Step N s (Rename a b) (Refuse r) s
first_refused N s a b whole r walk =
    let some = (step_ends N s whole (Rename a b)).2 in
    rename_refused N s a b r some.second_end some.second walk

module _ {D : Type 0} {state : D → DeviceState} (lawful : (d : D) → IsLawful (state d)) (v : Mounted D) {f : Fs D} {a : List ℕ} {da : ℕ}
    {from : Option Last} (reached : Reaches state v f a da from) (ready : IsReady f) (store : Store D)
    (reads : files.Reads (files_of state f.store) (files_of state store)) (b : List ℕ) where
  begun : IsBegun state v f
  begun = begun_at state reached ready

  only : OnlyReads state f (with_store f store)
  only = path_read state {old = f} store reads

  was : v.log.halted ≡ false
  was = sym reached.still.reads.halted ∙ ready.running

  -- the call came to the directories of both
  pub reaches_both : AreBytes b → (chain : List ℕ) → (to : Option Last) → HasLast b to
      → Tells (files_of state f.store) (files_of state store) HasTree (IsParent b chain)
      → ReachesBoth state v (with_store f store) a da from b chain to
  reaches_both bytes chain to last tells = record {
    first = record {
      still = still_after state lawful v f begun store only.still;
      empty = subst (λ (x : Draft). IsEmpty x) (sym only.draft) reached.empty;
      drafted = only.drafted ∙ reached.drafted ∙ sym only.still.reads.totals;
      bytes = reached.bytes;
      last = reached.last;
      walk = λ k m0 m s keeps is. reached.walk k m0 m s (only.still.reads.looks.carries.kept_before keeps) is;
    };
    second = later_reaches lawful reached.still was reached.empty only reached.drafted b bytes
        last (ends_parent state f.store store b chain {d = here chain} refl tells);
    directories = λ k m0 m s keeps is. subst (λ (t : Tree). IsChain t chain) (sym is.log.is)
        (tells m m keeps (has_in begun is) (tree_of_volume is)).directories;
  }

  -- the second isn't walked to its end
  pub second_ends : (cause : WalkFault) (e : FsError) → e ≡ error_of_walk cause
      → TellsRefusal (files_of state f.store) (files_of state store) HasTree (EndsParent b) cause
      → (cause ≡ walk.Log log.Halted → (seen f).log.halted ≡ true)
      → (cause ≡ walk.Log log.Full → ⊥)
      → Serves state v (seen (with_store f store)) (Rename a b) (Refuse (refusal_of e))
  second_ends cause e is ends =
      later_refused lawful reached.still was reached.empty only (EndsParent b) refl refl refl
      (λ k m0 m s keeps is r w. rename_refused_next (segments_of v) s a b da r
      (reached.walk k m0 m s (only.still.reads.looks.carries.kept_before keeps) is) w)
      {fault = cause} is (ends_refused state f.store store (EndsParent b) cause ends)
