-- A log map whose version of the layout is raised.
use Rattle.std.proofs.Common.{◌≡◌, ◌≤◌, ◌+◌, ℕ, zero, suc, Bool, true, false, cond, List, refl, ap, arith}
use Rattle.lfs_model.specs.declared.Kind.{Kind}
use Rattle.lfs_model.specs.declared.Kind.TheVariants as kind
use Rattle.lfs_model.specs.Entry.{Entry, Data, Leaf, Double, Inode, Map, Usage}
use Rattle.lfs_model.specs.Inode.{IsForm}
use Rattle.lfs_model.specs.Laid.{IsMapped, SpellsBlock}
use Rattle.lfs_model.specs.Memory.{Memory}
use Rattle.lfs_model.specs.Raising.{RaisedKept, RaisedLaid, RaisedRuns, RaisedTree, raised}
use Rattle.lfs_model.specs.Stands.{LogMap}
use Rattle.lfs_model.specs.Tree.{Tree}
use Rattle.lfs_model.specs.TreeOf.{node_of, nodes_from, object, slots, tree_in, with_object}

-- ---- what is laid out
raised_spells : (m : LogMap) (is : Bool) (A : Entry → ℕ) (bytes : List ℕ) (x : Entry) → SpellsBlock m A bytes x
    → SpellsBlock (raised is m) A bytes x
raised_spells m is A bytes (Data n i) w = w
raised_spells m is A bytes (Leaf n q) w = w
raised_spells m is A bytes (Double n) w = w
raised_spells m is A bytes (Inode n) w =
    record { formed = w.formed; header = w.header; direct = w.direct; single = w.single; double = w.double }
raised_spells m is A bytes (Map j) w = w
raised_spells m is A bytes (Usage j) w = w

raised_mapped : (m : LogMap) (is : Bool) (M : Memory) (j : ℕ) → IsMapped m M j → IsMapped (raised is m) M j
raised_mapped m is M j w = record { settled = w.settled; none = w.none; long = w.long; spells = w.spells; some = w.some }

pub raised_laid : RaisedLaid
raised_laid e m M opened_at is w = record {
  size = w.size;
  few = w.few;
  blocks = w.blocks;
  inodes = w.inodes;
  down = w.down;
  low = w.low;
  some = w.some;
  up = w.up;
  long = w.long;
  spells = λ x some. raised_spells m is M.at (M.bytes x) x (w.spells x some);
  mapped = λ j ne. raised_mapped m is M j (w.mapped j ne);
  usages = w.usages;
  there = w.there;
  within = w.within;
  named = w.named;
  short = w.short;
  first = w.first;
  sealed = w.sealed;
  past = w.past;
}

pub raised_runs : RaisedRuns
raised_runs d dirty t k m0 m seg chunk is w = record {
  memory = w.memory;
  laid = raised_laid d.content m w.memory seg is w.laid;
  segments = w.segments;
  settled = w.settled;
  cached = w.cached;
  tables = record { at = w.tables.at; used = w.tables.used; live = w.tables.live; held = w.tables.held };
  fresh = w.fresh;
  part = w.part;
  whole = w.whole;
  kept = w.kept;
  opened = w.opened;
}

-- ---- what a volume may keep
form_kept : (is : Bool) (version : ℕ) (k : Kind) (form : ℕ) → version ≤ 2 → IsForm version k form → IsForm (cond is 2 version) k form
form_kept false version k form low of = of
form_kept true version kind.File zero low of = tt
form_kept true version kind.File (suc form) low of = of
form_kept true version kind.Link zero low of = tt
form_kept true version kind.Link (suc form) low of = of
form_kept true version kind.Directory zero low of = omega arith
form_kept true version kind.Directory (suc form) low of = (of.0, omega arith)

pub raised_kept : RaisedKept
raised_kept m is low w = record {
  none = w.none;
  root = w.root;
  forms = λ n h there. form_kept is m.version h.kind h.form low (w.forms n h there);
  within = w.within;
  small = w.small;
  nonzero = w.nonzero;
  past = w.past;
}

-- ---- the tree
raised_nodes : (m : LogMap) (is : Bool) (count a : ℕ) → nodes_from (raised is m) count a ≡ nodes_from m count a
unfolding nodes_from object slots
raised_nodes m is zero a = refl
raised_nodes m is (suc count) a = ap (λ (t : Tree). with_object a (node_of m a (m.header a)) t) (raised_nodes m is count (a + 1))

pub raised_tree : RaisedTree
unfolding tree_in
raised_tree m is = raised_nodes m is 4095 1
