-- The refusals of a call that takes an old entry: a path without a piece, and those of the rule.
use Rattle.lfs_fs.proofs.Prelude.{◌≡◌, ◌||◌, ℕ, Bool, true, false, List, Some, None, ap, Call, Refuse, takes_no_memory, DeviceState}
use Rattle.lfs_fs.proofs.Prelude.{IsLawful, last_dots, Store, files_of, Last, EntryFault, RefusesOld, Fs, error_of_entry, Reaches}
use Rattle.lfs_fs.proofs.Prelude.{refusal_of, IsReady, seen, Mounted, Serves, segments_of, old_dots}
use Rattle.lfs_model.specs.Refusal as refusals
use Rattle.lfs_files.specs.declared.fault.LogFault.TheVariants as log
use Rattle.lfs_entries.specs.declared.fault.EntryFault.TheVariants as fault
use Rattle.lfs_fs.proofs.calls.Files.{IsBegun, ReadsTo, Rose, begun_at, fault_serves, has_in, nameless, reached_in, read_still, risen}
use Rattle.lfs_fs.proofs.calls.Files.{with_store}
use Rattle.lfs_fs.proofs.old_entries.Explained.{old_explained}
use Rattle.lfs_steps.proofs.old_entries.Steps.{OldCall}

module _ {D : Type 0} {state : D → DeviceState} (lawful : (d : D) → IsLawful (state d)) {v : Mounted D} {f : Fs D} {path : List ℕ} {d : ℕ}
    {call : Call} (of : OldCall (segments_of v) path d call) (memory : takes_no_memory call ≡ false) where
  -- a path without a piece
  pub no_piece_perm : Reaches state v f path d None → (seen f).log.halted ≡ false → Serves state v (seen f) call (Refuse refusals.Perm)
  no_piece_perm reached running = nameless lawful d reached running call of.unclean refusals.Perm tt
      (λ s sound walk says. old_dots (of.checks s sound walk) (ap (λ (b : Bool). b || last_dots path) says))

  -- the rule takes no entry
  module _ {l : Last} (reached : Reaches state v f path d (Some l)) (ready : IsReady f) (store : Store D)
      (reads : ReadsTo state f store) where
    begun : IsBegun state v f
    begun = begun_at state reached ready

    pub entry_refused : (why : EntryFault) → (why ≡ fault.Log log.Halted → (files_of state f.store).halted ≡ true)
        → (why ≡ fault.Log log.Full → ⊥) → RefusesOld (files_of state f.store) (files_of state store) d l.name.now l.slash why
        → Serves state v (seen (with_store f store)) call (Refuse (refusal_of (error_of_entry why)))
    entry_refused why halted other refuses =
        fault_serves state lawful v f begun store (read_still f store reads) call of.uncommitted of.unclean memory why
        halted other (λ k m0 m s keeps is. (
        let g = reached_in reached k m0 m s (reads.looks.carries.kept_before keeps) is in
        old_explained (files_of state f.store) (files_of state store) g keeps (has_in begun is) (Rose state v store) (risen begun store)
        call (of.checks s is.log.sound g.walk) why refuses))
