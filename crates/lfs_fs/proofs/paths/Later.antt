-- A path that a call walks after it has read.
use Rattle.lfs_fs.proofs.Prelude.{◌≡◌, ◌<◌, ℕ, true, false, List, Option, sym, ◌∙◌, arith, AreBytes, Call, Refuse, cleans}
use Rattle.lfs_fs.proofs.Prelude.{takes_no_memory, never_for_device, CheckpointValue, DeviceState, IsLawful, Refusal, LogMap, Step, State}
use Rattle.lfs_fs.proofs.Prelude.{Tree, tree_in, At, End, Refused, Draft, LogState, Reads, IsEmpty, draft_of, drafted_of, held_still, Last}
use Rattle.lfs_fs.proofs.Prelude.{WalkFault, HasLast, EndsParent, EachDrafted, EndsRefused, WalksTo, FsError, Fs, error_of_walk, Reaches}
use Rattle.lfs_fs.proofs.Prelude.{refusal_of, OnlyReads, seen, IsIn, IsStill, Mounted, Serves, segments_of}
use Rattle.lfs_model.specs.Refusal as model
use Rattle.lfs_files.specs.declared.fault.LogFault.TheVariants as log
use Rattle.lfs_path.specs.declared.walk_fault.WalkFault.TheVariants as walk
use Rattle.lfs_path.specs.Trees.{HasTree}
use Rattle.lfs_fs.proofs.new_entries.Ends.{still_more}
use Rattle.lfs_fs.proofs.calls.Exits.{still_in}
use Rattle.lfs_fs.proofs.paths.Walks.{walk_ends, walked}

-- what is told of a walk that ends refused, from the log before it was read
module _ {D : Type 0} (state : D → DeviceState) (h : LogState D) {h' : LogState D} (h'' : LogState D) (reads : Reads state h h')
    (d : Draft) (W : Tree → End → Type 0) where
  each_after : (P : LogMap → Type 0) → EachDrafted state h' h'' d P → EachDrafted state h h'' d P
  each_after P all k m0 m keeps holds = all k m0 m keeps (held_still state reads holds)

  to_after : (e : End) → WalksTo state h' h'' d W e → WalksTo state h h'' d W e
  to_after e ends = each_after (λ m. HasTree m → W (tree_in m) e) ends

  refused_after : (fault : WalkFault) → EndsRefused state h' h'' d W fault
      → EndsRefused state h h'' d W fault
  refused_after walk.NoEntry ends = to_after (Refused model.NoEntry) ends
  refused_after walk.NotDir ends = to_after (Refused model.NotDir) ends
  refused_after walk.NameTooLong ends = to_after (Refused model.NameTooLong) ends
  refused_after walk.Inval ends = to_after (Refused model.Inval) ends
  refused_after walk.Loop ends = to_after (Refused model.Loop) ends
  refused_after walk.NoMemory ends = tt
  refused_after (walk.Log fault) ends = λ k m0 m keeps holds tree. (
      let rose : (state h'.device).failures < (state h''.device).failures
      = ends k m0 m keeps (held_still state reads holds) tree in
      let before = reads.looks.carries.failures in
      omega (arith, rose, before))

module _ {D : Type 0} {state : D → DeviceState} (lawful : (d : D) → IsLawful (state d))
    {v : Mounted D} {mid next : Fs D} (still : IsStill state v (seen mid))
    (was : v.log.halted ≡ false) (empty : IsEmpty (draft_of mid.store))
    (only : OnlyReads state mid next) where
  still_next : IsStill state v (seen next)
  still_next = still_more state v (lawful v.log.device) still only.still

  -- the call came to the directory of the path's last piece
  pub later_reaches : drafted_of mid.store ≡ (seen mid).log.totals → (p : List ℕ) → AreBytes p → {d : ℕ}
      → {piece : Option Last} → HasLast p piece → WalksTo state (seen mid).log (seen next).log (draft_of mid.store) (EndsParent p) (At d)
      → Reaches state v next p d piece
  later_reaches counted p bytes {d} last walks = record {
    still = still_next;
    empty = rw only.draft empty;
    drafted = only.drafted ∙ counted ∙ sym only.still.reads.totals;
    bytes = bytes;
    last = last;
    walk = λ k m0 m s keeps is.
        walked (lawful (seen mid).log.device) only.still (still.reads.halted ∙ was) (draft_of mid.store) empty (EndsParent p) (At d) walks
        k m0 m keeps (still_in state still is);
  }

  -- a path that isn't walked to its end
  pub later_refused : (W : Tree → End → Type 0) {call : Call} → never_for_device call ≡ false
      → cleans call ≡ false → takes_no_memory call ≡ false
      → ((k : CheckpointValue) (m0 m : LogMap) (s : State)
      → (state (seen next).log.device).keeps_model → IsIn state v k m0 m s → (r : Refusal)
      → W s.tree (Refused r) → Step (segments_of v) s call (Refuse r) s) → {fault : WalkFault} {e : FsError} → e ≡ error_of_walk fault
      → EndsRefused state (seen mid).log (seen next).log (draft_of mid.store) W fault
      → (fault ≡ walk.Log log.Halted → (seen mid).log.halted ≡ true)
      → (fault ≡ walk.Log log.Full → ⊥)
      → Serves state v (seen next) call (Refuse (refusal_of e))
  later_refused W {call} free unclean memory steps {fault} is ends halted other =
      rw is (walk_ends (lawful v.log.device) still_next was (draft_of mid.store)
      empty W call free unclean memory steps fault (λ on. sym still.reads.halted ∙ halted on) other
      (refused_after state v.log (seen next).log still.reads (draft_of mid.store) W fault ends))
