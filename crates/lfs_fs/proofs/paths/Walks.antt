-- Walks of a path over a volume's tree, and the ends of calls that they end.
use Rattle.lfs_fs.proofs.Prelude.{◌≡◌, true, false, refl, sym, ◌∙◌, ap, inl, inr, arith, Call, Refuse, cleans, takes_no_memory}
use Rattle.lfs_fs.proofs.Prelude.{never_for_device, CheckpointValue, DeviceState, IsLawful, Refusal, Device, LogMap, Step, State, Tree}
use Rattle.lfs_fs.proofs.Prelude.{tree_in, End, Refused, IsEmpty, with_draft, Draft, empty_draft, WalkFault, EndsRefused, WalksTo}
use Rattle.lfs_fs.proofs.Prelude.{error_of_walk, refusal_of, IsIn, IsStill, Mounted, Serves, segments_of}
use Rattle.lfs_model.specs.Refusal as refusals
use Rattle.lfs_files.specs.declared.fault.LogFault.TheVariants as log
use Rattle.lfs_path.specs.declared.walk_fault.WalkFault.TheVariants as walk
use Rattle.lfs_path.specs.Trees.{HasTree}
use Rattle.lfs_path.proofs.TreeLaws.{tree_maps}
use Rattle.lfs_fs.proofs.calls.AnyDevice.{IsOrdinary}
use Rattle.lfs_fs.proofs.calls.Steps.{refused_not_worn}
use Rattle.lfs_fs.proofs.calls.Drafts.{not_acknowledged}
use Rattle.lfs_fs.proofs.volume.Map.{headers_of_volume}
use Rattle.lfs_fs.proofs.calls.Exits.{served_still}
use Rattle.lfs_fs.proofs.calls.Reads.{memory_serves}

module _ {D : Type 0} {state : D → DeviceState} {v : Mounted D} {k : CheckpointValue} {m0 m : LogMap} {s : State}
    (is : IsIn state v k m0 m s) where
  -- a volume's log map is one that is walked
  pub tree_of_volume : HasTree m
  tree_of_volume = tree_maps.sound (segments_of v) s m is.log.sound is.log.is (headers_of_volume is) is.log.formed

  -- with nothing drafted it is the same
  pub walked_drafted : (d : Draft) → IsEmpty d → HasTree (with_draft d m)
  walked_drafted d none = rw (empty_draft d m none).0 tree_of_volume

  pub tree_drafted : (d : Draft) → IsEmpty d → tree_in (with_draft d m) ≡ s.tree
  tree_drafted d none = ap (λ (x : LogMap). tree_in x) (empty_draft d m none).0 ∙ sym is.log.is

module _ {D : Type 0} {state : D → DeviceState} {old new : Mounted D} (lawful : IsLawful (state old.log.device))
    (still : IsStill state old new) (was : old.log.halted ≡ false)
    (d : Draft) (none : IsEmpty d) (W : Tree → End → Type 0) where
  -- a walk of the log map is one of the state
  pub walked : (e : End) → WalksTo state old.log new.log d W e → (k : CheckpointValue) (m0 m : LogMap) {s : State}
      → (state new.log.device).keeps_model → IsIn state old k m0 m s → W s.tree e
  walked e walks k m0 m {s} keeps is = rw (← tree_drafted is d none) (walks k m0 m keeps is.holds (walked_drafted is d none))

  -- a walk without an end refuses the call
  module _ (call : Call) (free : never_for_device call ≡ false) (unclean : cleans call ≡ false) (memory : takes_no_memory call ≡ false)
      (steps : (k : CheckpointValue) (m0 m : LogMap) (s : State) → (state new.log.device).keeps_model → IsIn state old k m0 m s
      → (r : Refusal) → W s.tree (Refused r) → Step (segments_of old) s call (Refuse r) s) where
    walk_refused : (r : Refusal) → IsOrdinary (Refuse r) → WalksTo state old.log new.log d W (Refused r)
        → Serves state old new call (Refuse r)
    walk_refused r ordinary walks = served_still state call lawful still was ordinary (λ p keeps here k m0 m is. (
        let step = steps k m0 m p.state keeps is r (walked (Refused r) walks k m0 m keeps is) in
        inl (step, refused_not_worn (segments_of old) p step unclean))) (not_acknowledged call r)

    pub walk_ends : (fault : WalkFault) → (fault ≡ walk.Log log.Halted → old.log.halted ≡ true) → (fault ≡ walk.Log log.Full → ⊥)
        → EndsRefused state old.log new.log d W fault
        → Serves state old new call (Refuse (refusal_of (error_of_walk fault)))
    walk_ends walk.NoEntry halted other ends = walk_refused refusals.NoEntry tt ends
    walk_ends walk.NotDir halted other ends = walk_refused refusals.NotDir tt ends
    walk_ends walk.NameTooLong halted other ends = walk_refused refusals.NameTooLong tt ends
    walk_ends walk.Inval halted other ends = walk_refused refusals.Inval tt ends
    walk_ends walk.Loop halted other ends = walk_refused refusals.Loop tt ends
    walk_ends walk.NoMemory halted other ends = memory_serves {call = call} lawful still was memory
    walk_ends (walk.Log log.Halted) halted other ends = absurd (let a = halted refl in let b = was in cc)
    walk_ends (walk.Log log.Full) halted other ends = absurd (other refl)
    walk_ends (walk.Log log.Device) halted other ends =
        served_still state call lawful still was tt (λ p keeps here k m0 m is. (
        let rose = ends k m0 m keeps is.holds (walked_drafted is d none) in
        inr (Device, refl, (free, (let f = here.failures in omega (arith, f, rose))), refl)))
        (not_acknowledged call Device)
