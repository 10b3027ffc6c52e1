-- What a stop leaves of a running volume.
use Rattle.lfs_steps.proofs.Prelude.{◌⊎◌, ℕ, List, ◌∷◌, refl, sym, subst, inl, inr, ⊎_elim, arith, LogMap, State, tree_in, IsLogOf}
use Rattle.lfs_model.specs.Checkpoint.{CheckpointValue, Shape, shape_of}
use Rattle.lfs_model.specs.Content.{Content}
use Rattle.lfs_model.specs.Crash.{StandsOn, StandsForOn}
use Rattle.lfs_model.specs.Device.{DeviceState, IsLawful, LeavesOnly}
use Rattle.lfs_model.specs.Settled.{IsSettled}
use Rattle.lfs_model.specs.Tree.{drop_nameless}
use Rattle.lfs_model.specs.TreeOf.{IsTree, Left, LeavesStates, Stands, dropped}
use Rattle.lfs_model.specs.Volume.{mounted}
use Rattle.lfs_model.proofs.Committed.{dropped_stands}
use Rattle.lfs_model.proofs.Moments.{weaker}
use Rattle.std.specs.List.{Contains}

-- a content that stands for the map of a tree stands for that tree
pub stands_saved : {shape : Shape} {c : Content} (m : LogMap) → IsTree shape.segments m → StandsOn shape c m
    → Stands c (mounted m.version (tree_in m))
stands_saved m tree on = record {
  checkpoint = on.is.checkpoint;
  log = m;
  found = on.is.newest;
  stands = on.is.stands;
  tree = record { is = refl; tree = subst (λ (x : Shape). IsTree x.segments m) (sym on.same) tree };
  version = on.is.stands.holds.version;
  closed = refl;
}

-- one that stands for the present map without its files of no links stands for the present state without its nodes of no name
pub stands_dropped : {shape : Shape} (c : Content) (m : LogMap) (s : State) → IsLogOf shape.segments m s → StandsOn shape c (dropped m)
    → Stands c (drop_nameless s)
stands_dropped c m s log on =
    dropped_stands c on.is.checkpoint m s on.is.newest on.is.stands (subst (λ (x : Shape). IsLogOf x.segments m s) (sym on.same) log)

module _ {d : DeviceState} (lawful : IsLawful d) (keeps : d.keeps_model) (k : CheckpointValue) (m0 : LogMap) (settled : IsSettled d k m0)
    (tree : IsTree k.segments m0) where
  here : StandsOn (shape_of k) d.content m0
  here = record { is = record { checkpoint = k; newest = settled.newest; stands = settled.stands }; same = refl }

  -- the saved state may be left now
  pub saved_left : Left d (mounted m0.version (tree_in m0))
  saved_left = record { content = d.content; may_leave = lawful.present keeps; stands = stands_saved m0 tree here }

  -- one that is left by either map
  either_left : (m : LogMap) (s : State) → IsLogOf k.segments m s → (c : Content) → StandsForOn (shape_of k) m0 (dropped m) c
      → (ss : List State)
      → (t : State) × Stands c t × (Left d t ⊎ Contains (drop_nameless s ∷ ss) t)
  either_left m s log c either ss = ⊎_elim
      (λ old. (mounted m0.version (tree_in m0), stands_saved m0 tree old, inl saved_left))
      (λ new. (drop_nameless s, stands_dropped c m s log new, inr (0, omega arith, refl))) either

  pub leaves_states : {d' : DeviceState} (m : LogMap) (s : State) → IsLogOf k.segments m s → (ss : List State)
      → LeavesOnly d d' (StandsForOn (shape_of k) m0 (dropped m)) → LeavesStates d d' (drop_nameless s ∷ ss)
  leaves_states {d'} m s log ss leaves =
      weaker (StandsForOn (shape_of k) m0 (dropped m)) (λ c. (t : State) × Stands c t × (Left d t ⊎ Contains (drop_nameless s ∷ ss) t))
      (λ c either. either_left m s log c either ss) leaves
