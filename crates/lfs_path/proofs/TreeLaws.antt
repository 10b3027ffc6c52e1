-- Log maps of sound trees are walked, and what their directories are.
use Rattle.lfs_path.specs.Laws.{ChainSays, DirectoriesSay, TreeMaps}
use Rattle.lfs_path.proofs.Chains.{in_directory}
use Rattle.lfs_path.proofs.InTrees.{is_formed, limit, names_are}

pub tree_maps : TreeMaps
tree_maps = record {
  sound = λ N s m sound is headers formed. record {
    headers = headers;
    formed = formed;
    root = rw (← is) sound.root;
    there = rw (← is) sound.named;
    unnamed = rw (← is) sound.root_unnamed;
    one_name = rw (← is) sound.one_name;
  };
  mounted = λ N m tree headers root. record {
    headers = headers;
    formed = tree.slots.formed;
    root = root;
    there = tree.slots.there;
    unnamed = tree.reached.root;
    one_name = tree.reached.one;
  };
}

pub directories_say : DirectoriesSay
directories_say m d head within is =
    record { formed = is_formed m d within head is; names = names_are m d within head is; longest = limit m d within head is }

pub chain_says : ChainSays
chain_says = in_directory
