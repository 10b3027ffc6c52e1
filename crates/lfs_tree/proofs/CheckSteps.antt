-- The stages of a tree, where all that they look at is in tables.
use Rattle.std.proofs.Common.{◌≡◌, ◌<◌, ◌↔◌, ◌/◌, ◌%◌, ◌∙◌, ℕ, List, Option, Some, refl, sym, ap, arith}
use Rattle.lfs_model.specs.Checkpoint.{CheckpointValue}
use Rattle.lfs_model.specs.Content.{Content}
use Rattle.lfs_model.specs.Entry.{Header}
use Rattle.lfs_model.specs.Decodes.{IsSized}
use Rattle.lfs_model.specs.Device.{DeviceState, IsLawful}
use Rattle.lfs_model.specs.Reach.{address, view}
use Rattle.lfs_model.specs.Stands.{LogMap, HoldsAt, log_in}
use Rattle.lfs_model.specs.TreeOf.{AreLinks, AreReached, AreSlots, AreTexts, HasSpace, IsTree, TreeOf, tree_in}
use Rattle.lfs_model.proofs.Decodes.{are_sized, formed}
use Rattle.lfs_files.specs.declared.header.Header as files
use Rattle.lfs_inodes.specs.MapValue.{address_in}
use Rattle.lfs_verify.specs.declared.fault.MountFault.{MountFault}
use Rattle.lfs_verify.specs.declared.fault.MountFault.TheVariants as fault
use Rattle.lfs_verify.specs.declared.tables.Tables.{Tables}
use Rattle.lfs_verify.specs.Loading.{HoldsTables}
use Rattle.lfs_verify.specs.Take.{Looks}
use Rattle.lfs_tree.specs.Checking.{IsDamagedTree, IsFaultOf, IsGathered, IsOfLog, IsRefusedTree, IsTreeDamage, links_fail, reached_fail}
use Rattle.lfs_tree.specs.Checking.{space_fail}
use Rattle.lfs_tree.specs.Linking.{AreLinksFit, FitsSpace}
use Rattle.lfs_tree.specs.Naming.{NamesValue}
use Rattle.lfs_tree.specs.Objects.{AreNamed}
use Rattle.lfs_tree.specs.Reading.{Leads, Sees, TellsHeaders}
use Rattle.lfs_tree.specs.Reaching.{AllClimb, AreNamesFit}
use Rattle.lfs_tree.proofs.ObjectNames.{held_headers}
use Rattle.lfs_tree.proofs.ReachStages.{fit_if_links, fit_if_reached, links_if_fit, reached_if_fit}
use Rattle.lfs_tree.proofs.TreeStages.{damage_of_tree, need_is, same_log}

module _ (c : Content) (k : CheckpointValue) (m : LogMap) {headers : List (Option files.Header)} {names : NamesValue} {t : Tables}
    (is : IsGathered c k m headers names t) where
  root_at : (h : Header) × (m.header 1 ≡ Some h)
  root_at = let root = (formed c k m is.sized is.holds).root in (root.0, root.1)

  pub tree_reached : AreNamesFit headers names × AllClimb headers names.up → AreReached m
  tree_reached fit = reached_if_fit m (held_headers is.holds) headers is.told is.named root_at.1 fit.0 fit.1

  pub tree_links : AreLinksFit headers names → AreLinks m
  tree_links fit = links_if_fit m (held_headers is.holds) headers is.told is.named is.slots fit

  need_here : HasSpace m k.segments ↔ FitsSpace t.data_blocks t.meta_blocks t.segments
  need_here =
      let need = need_is c k m is.sized is.holds is.slots.formed is.of_log.counted in
      let same = is.of_log.segments in
      (λ room. omega (arith, same), λ fit. omega (arith, same))

  pub fails_reached : (AreNamesFit headers names × AllClimb headers names.up → ⊥) → IsTreeDamage k.segments m 12
  fails_reached other = reached_fail refl is.slots is.texts
      (λ reached. other (fit_if_reached m (held_headers is.holds) headers is.told is.named reached))

  module _ (fit : AreNamesFit headers names × AllClimb headers names.up) where
    pub fails_links : (AreLinksFit headers names → ⊥) → IsTreeDamage k.segments m 13
    fails_links other = links_fail refl is.slots is.texts (tree_reached fit)
        (λ links. other (fit_if_links m (held_headers is.holds) headers is.told is.named is.slots links))

    module _ (links : AreLinksFit headers names) where
      pub fails_space : (FitsSpace t.data_blocks t.meta_blocks t.segments → ⊥) → IsTreeDamage k.segments m 14
      fails_space other = space_fail refl is.slots is.texts (tree_reached fit) (tree_links links) (λ room. other (need_here.0 room))

      pub tree_whole : FitsSpace t.data_blocks t.meta_blocks t.segments → IsTree k.segments m
      tree_whole room =
          record { slots = is.slots; texts = is.texts; reached = tree_reached fit; links = tree_links links; room = need_here.1 room }

pub gathered : {c : Content} {k : CheckpointValue} {m : LogMap} {headers : List (Option files.Header)} {names : NamesValue} {t : Tables}
    → HoldsAt c k m → IsSized c → TellsHeaders m headers 4096
    → AreSlots m → AreTexts m → AreNamed m headers names 4096 → IsOfLog c k m t → IsGathered c k m headers names t
gathered holds sized told slots texts named of_log =
    record { holds = holds; sized = sized; told = told; named = named; slots = slots; texts = texts; of_log = of_log }

-- ---- faults
pub no_failure : (failed : Type 0) (damage : ℕ → Type 0) (f : MountFault) → IsFaultOf ⊥ damage f → IsFaultOf failed damage f
no_failure failed damage fault.NoMemory is = is
no_failure failed damage fault.Device is = absurd is
no_failure failed damage fault.TooSmall is = is
no_failure failed damage fault.NoCheckpoint is = is
no_failure failed damage (fault.Damaged code) is = is

-- a later call's fault
pub fault_after : {a b : DeviceState} (d : DeviceState) → Looks a b → (damage : ℕ → Type 0) (f : MountFault)
    → IsFaultOf (b.failures < d.failures) damage f
    → IsFaultOf (a.failures < d.failures) damage f
fault_after d looks damage fault.NoMemory is = is
fault_after d looks damage fault.Device is = omega arith
fault_after d looks damage fault.TooSmall is = is
fault_after d looks damage fault.NoCheckpoint is = is
fault_after d looks damage (fault.Damaged code) is = is

-- ---- the tables of a volume
module _ (old new : DeviceState) (t : Tables) (lawful : IsLawful old) (keeps : new.keeps_model) (has : HoldsTables old.content t) where
  abbrev log : LogMap
  log = log_in (view old.content has.checkpoint)

  same : has.log ≡ log_in (view old.content has.checkpoint)
  same = same_log has.holds

  pub sees_log : Sees old new has.checkpoint (log_in (view old.content has.checkpoint))
  sees_log = record {
    keeps = keeps;
    holds = rw (← same) has.holds;
    sized = are_sized old.content lawful.now;
  }

  leads_to : Leads old.content has.checkpoint t.map
  unfolding address
  leads_to = record {
    each = λ n low.
        ap (address_in t.map) (sym (omega arith)) ∙ has.says.map.addresses (n / 128) (n % 128) (omega arith) (omega arith);
  }

  pub is_of_log : IsOfLog old.content has.checkpoint (log_in (view old.content has.checkpoint)) t
  is_of_log = record {
    leads = leads_to;
    segments = has.says.segments;
    counted = rw (← same) has.counted;
  }

  pub tree_of : IsTree has.checkpoint.segments (log_in (view old.content has.checkpoint))
      → TreeOf has.checkpoint.segments has.log (tree_in has.log)
  tree_of tree = record { is = refl; tree = rw same tree }

  damage_in : (code : ℕ) → IsTreeDamage has.checkpoint.segments (log_in (view old.content has.checkpoint)) code
      → IsDamagedTree old.content code
  damage_in code is =
      let damage = damage_of_tree has.holds.stages is in
      (damage.0, damage.1, record { checkpoint = has.checkpoint; newest = has.newest; size = has.holds.size; damaged = damage.2 })

  pub refused_tree : (f : MountFault) → IsFaultOf (old.failures < new.failures)
      (IsTreeDamage has.checkpoint.segments (log_in (view old.content has.checkpoint))) f → IsRefusedTree old new f
  refused_tree fault.NoMemory is = is
  refused_tree fault.Device is = is
  refused_tree fault.TooSmall is = is
  refused_tree fault.NoCheckpoint is = is
  refused_tree (fault.Damaged code) is = damage_in code is
