-- The rows of a volume's tree: those of its directories, number by number.
use Rattle.lfs_steps.proofs.Prelude.{◌≡◌, ◌<◌, ◌≤◌, ◌+◌, ◌-◌, ℕ, zero, suc, List, [], ◌++◌, map, Option, Some, None, refl, sym, ◌∙◌, ap}
use Rattle.lfs_steps.proofs.Prelude.{arith, unwrap_or, LogMap, stat_of, the_node, File, Node, State, Tree, names_in, names_of, node_of}
use Rattle.lfs_steps.proofs.Prelude.{IsLogOf}
use Rattle.std.specs.Prelude.{flat_map}
use Rattle.lfs_model.specs.Call.{TreeRow}
use Rattle.lfs_model.specs.Step.{head_of, rows_of}
use Rattle.lfs_model.specs.TreeOf.{nodes_from, tree_in, with_object}
use Rattle.lfs_steps.proofs.volume.Nodes.{node_is}

-- the model's row of an entry of directory d
abbrev pub row_at : Tree → ℕ → List ℕ × ℕ → TreeRow
row_at t d e = record {
  directory = d;
  name = e.0;
  stat = stat_of t e.1;
  head = head_of (the_node t e.1);
}

-- the rows of directory d; none where no directory is
abbrev pub rows_at : Tree → ℕ → List TreeRow
rows_at t d = map (row_at t d) (names_in t d)

-- the rows of the count numbers from a on
unfoldable pub rows_from : Tree → ℕ → ℕ → List TreeRow
rows_from t zero a = []
rows_from t (suc count) a = rows_at t a ++ rows_from t count (a + 1)

-- ---- number by number

-- no number is left
pub rows_none : (t : Tree) (a : ℕ) → rows_from t 0 a ≡ []
unfolding rows_from
rows_none t a = refl

-- one more
rows_one : (t : Tree) (count a : ℕ) → rows_from t (suc count) a ≡ rows_at t a ++ rows_from t count (a + 1)
unfolding rows_from
rows_one t count a = refl

pub rows_next : (t : Tree) (a : ℕ) → a < 4096 → rows_from t (4096 - a) a ≡ rows_at t a ++ rows_from t (4096 - (a + 1)) (a + 1)
rows_next t a few =
    let left : 4096 - a ≡ suc (4096 - (a + 1)) = omega (arith, few) in
    ap (λ (count : ℕ). rows_from t count a) left ∙ rows_one t (4096 - (a + 1)) a

pub rows_end : (t : Tree) (a : ℕ) → a ≡ 4096 → rows_from t (4096 - a) a ≡ []
rows_end t a is =
    let left : 4096 - a ≡ 0 = omega (arith, is) in
    ap (λ (count : ℕ). rows_from t count a) left ∙ rows_none t a

-- ---- the rows of all nodes are those of all numbers

module _ (t : Tree) where
  abbrev node_rows : ℕ × Node → List TreeRow
  node_rows e = map (row_at t e.0) (names_of e.1)

  abbrev rows_by : ℕ → Option Node → List TreeRow
  rows_by a o = map (row_at t a) (names_of (unwrap_or o (File [])))

  with_rows : (a : ℕ) (o : Option Node) (rest : Tree) → flat_map node_rows (with_object a o rest) ≡ rows_by a o ++ flat_map node_rows rest
  with_rows a None rest = refl
  with_rows a (Some x) rest = refl

tree_nodes : (m : LogMap) → tree_in m ≡ nodes_from m 4095 1
unfolding tree_in
tree_nodes m = refl

module _ {N : ℕ} (m : LogMap) (s : State) (log : IsLogOf N m s) where
  rows_are : (count a : ℕ) → 1 ≤ a → a + count ≤ 4096 → flat_map (node_rows s.tree) (nodes_from m count a) ≡ rows_from s.tree count a
  unfolding nodes_from
  rows_are zero a low high = sym (rows_none s.tree a)
  rows_are (suc count) a low high =
      with_rows s.tree a (node_of m a (m.header a)) (nodes_from m count (a + 1))
      ∙ ap (λ (o : Option Node). rows_by s.tree a o ++ flat_map (node_rows s.tree) (nodes_from m count (a + 1)))
      (sym (node_is log a (low, omega (arith, high))))
      ∙ ap (λ (rows : List TreeRow). rows_at s.tree a ++ rows) (rows_are count (a + 1) (omega (arith, low)) (omega (arith, high)))
      ∙ sym (rows_one s.tree count a)

  pub all_rows : rows_from s.tree 4095 1 ≡ rows_of s.tree
  all_rows = sym (ap (λ (t : Tree). flat_map (node_rows s.tree) t) (log.is ∙ tree_nodes m) ∙ rows_are 4095 1 (omega arith) (omega arith))
