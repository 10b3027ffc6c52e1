-- Contents and the trees that they stand for.
use Rattle.std.proofs.Common.{◌≡◌, ◌≢◌, ◌<◌, ◌≤◌, ◌⊎◌, inl, inr, ⊎_elim, ◌+◌, ◌*◌, ◌%◌, ◌==◌, cond, Bool, true, false, ℕ, zero, suc, List}
use Rattle.std.proofs.Common.{[], ◌∷◌, length, Option, Some, None, unwrap_or, refl, sym, ◌∙◌, ap, ap₂, subst, arith, ne_eqb}
use Rattle.std.proofs.Math.Path.{fun_ext}
use Rattle.std.specs.Ordering.{nat_cmp}
use Rattle.std.specs.FinMap.{find}
use Rattle.std.specs.List.{AllByRecursion}
use Rattle.std.proofs.lemmas.Bool.{cases_eq, cond-false}
use Rattle.lfs_model.specs.Checkpoint.{CheckpointValue, IsVersion, layout_version}
use Rattle.lfs_model.specs.Content.{Content, newest}
use Rattle.lfs_model.specs.Crash.{IsReadyFor, Keeps}
use Rattle.lfs_model.specs.Damage.{IsDamaged}
use Rattle.lfs_model.specs.Device.{MayWrite, left_old, left_new, left_bad, lose, put}
use Rattle.lfs_model.specs.Entry.{Header}
use Rattle.lfs_model.specs.Image.{empty_directory, empty_root, first_checkpoint}
use Rattle.lfs_model.specs.Reach.{view}
use Rattle.lfs_model.specs.Need.{need, data_of, meta_of}
use Rattle.lfs_model.specs.Slot.{slot_in}
use Rattle.lfs_model.specs.Sound.{NamesGive, IsReachable, root}
use Rattle.lfs_model.specs.Stands.{LogMap, HoldsAt, StandsLog, log_in}
use Rattle.lfs_model.specs.Tree.{Dir, File, Link, Node, State, Tree, byte_cmp, entry, is_dir, links, names, names_of, new_form, node}
use Rattle.lfs_model.specs.TreeOf.{AreReached, AreSlots, IsTree, Stands, TreeOf, map_of, nodes_from, node_of, object, slots, tree_in}
use Rattle.lfs_model.specs.TreeOf.{with_object}
use Rattle.lfs_model.specs.Volume.{IsDamagedBy, IsTooSmall, IsWithoutCheckpoint, mounted, SingleState, StateLocality, StateSlotWrite}
use Rattle.lfs_model.specs.Volume.{FoundStands, NotRefused, NewVolume}
use Rattle.lfs_model.proofs.Crash.{keeps_lost, single_log, slot_write, stands_at_same}
use Rattle.lfs_model.proofs.Newest.{least_segments}
use Rattle.lfs_model.proofs.Damage.{stages_by_number, not_damaged}
use Rattle.lfs_model.proofs.Image.{formatted}
use Rattle.lfs_model.proofs.Trees.{cmp_same, cmp_other}
use Rattle.lfs_model.proofs.Versions.{by_version}

-- ---- the nodes of a log map's tree
find_at : (a : ℕ) (o : Option Node) (t : Tree) → find nat_cmp a t ≡ None → find nat_cmp a (with_object a o t) ≡ o
find_at a None t none = none
find_at a (Some x) t none = ap (λ (b : Bool). cond b (Some x) (find nat_cmp a t)) (cmp_same a)

find_past : (a k : ℕ) (o : Option Node) (t : Tree) → k ≢ a → find nat_cmp k (with_object a o t) ≡ find nat_cmp k t
find_past a k None t ne = refl
find_past a k (Some x) t ne = ap (λ (b : Bool). cond b (Some x) (find nat_cmp k t)) (cmp_other k a ne)

module _ (m : LogMap) where
  none_below : (count a k : ℕ) → k < a → find nat_cmp k (nodes_from m count a) ≡ None
  unfolding nodes_from
  none_below zero a k lt = refl
  none_below (suc count) a k lt = find_past a k (node_of m a (m.header a)) (nodes_from m count (a + 1)) (λ e. omega arith)
      ∙ none_below count (a + 1) k (omega arith)

  none_above : (count a k : ℕ) → a + count ≤ k → find nat_cmp k (nodes_from m count a) ≡ None
  unfolding nodes_from
  none_above zero a k le = refl
  none_above (suc count) a k le = find_past a k (node_of m a (m.header a)) (nodes_from m count (a + 1)) (λ e. omega arith)
      ∙ none_above count (a + 1) k (omega arith)

  found_from : (count a k : ℕ) → a ≤ k → k < a + count → find nat_cmp k (nodes_from m count a) ≡ node_of m k (m.header k)
  unfolding nodes_from
  found_from zero a k le lt = absurd (omega arith)
  found_from (suc count) a k le lt =
      ⊎_elim
      (λ (here : k ≡ a).
      ap (λ (x : ℕ). find nat_cmp x (with_object a (node_of m a (m.header a)) (nodes_from m count (a + 1)))) here
      ∙ find_at a (node_of m a (m.header a)) (nodes_from m count (a + 1)) (none_below count (a + 1) a (omega arith))
      ∙ ap (λ (x : ℕ). node_of m x (m.header x)) (sym here))
      (λ (later : k ≡ a → ⊥).
      find_past a k (node_of m a (m.header a)) (nodes_from m count (a + 1)) later ∙ found_from count (a + 1) k (omega arith) (omega arith))
      (cases_eq k a)

  -- a number's node is that of its header
  pub node_in : (n : ℕ) → 1 ≤ n → n ≤ 4095 → node (tree_in m) n ≡ node_of m n (m.header n)
  unfolding tree_in
  node_in n some small = found_from 4095 1 n some (omega arith)

  pub no_node_0 : node (tree_in m) 0 ≡ None
  unfolding tree_in
  no_node_0 = none_below 4095 1 0 (omega arith)

  pub no_node_past : (n : ℕ) → 4096 ≤ n → node (tree_in m) n ≡ None
  unfolding tree_in
  no_node_past n past = none_above 4095 1 n (omega arith)

-- ---- the laws
abbrev log_of : (c : Content) (s : State) (is : Stands c s) → StandsLog c is.log
log_of c s is = record { checkpoint = is.checkpoint; newest = is.found; stands = is.stands }

pub same_state : (s t : State) → s.tree ≡ t.tree → s.handles ≡ t.handles → s.version ≡ t.version → s ≡ t
same_state s t e f g = λ i. record { tree = e i; handles = f i; version = g i }

pub single_state : SingleState
single_state c s t a b =
    let same = single_log c a.log b.log (log_of c s a) (log_of c t b) in
    same_state s t (a.tree.is ∙ ap (λ (m : LogMap). tree_in m) same ∙ sym b.tree.is) (a.closed ∙ sym b.closed)
    (a.version ∙ sym a.stands.holds.version ∙ ap (λ (m : LogMap). m.version) same ∙ b.stands.holds.version ∙ sym b.version)

pub state_locality : StateLocality
state_locality c d s is keeps = record {
  checkpoint = is.checkpoint;
  log = is.log;
  found = keeps.newest;
  stands = stands_at_same c d is.checkpoint is.log is.stands keeps.size keeps.same;
  tree = is.tree;
  version = is.version;
  closed = is.closed;
}

module _ (c : Content) (s : State) (is : Stands c s) (e : Content) (keeps : Keeps c is.checkpoint e)
    (next : CheckpointValue) (bytes : List ℕ) (m : LogMap) (t : Tree) (ready : IsReadyFor e is.checkpoint next bytes m)
    (of : TreeOf next.segments m t) where
  at_written : Stands (put e (next.number % 2) bytes) (mounted (layout_version next) t)
  at_written =
      let w = slot_write c is.log (log_of c s is) e keeps next bytes m ready in record {
        checkpoint = next;
        log = m;
        found = w.1;
        stands = w.2;
        tree = of;
        version = refl;
        closed = refl;
      }

  at_lost : Stands (lose e (next.number % 2)) s
  at_lost = state_locality c (lose e (next.number % 2)) s is (keeps_lost c is.log (log_of c s is) e keeps next bytes m ready)

  at_each : (d : Content) → MayWrite (next.number % 2) bytes e d → Stands d s ⊎ Stands d (mounted (layout_version next) t)
  at_each d (left_old same) = inl (subst (λ (x : Content). Stands x s) (sym same) (state_locality c e s is keeps))
  at_each d (left_new same) = inr (subst (λ (x : Content). Stands x (mounted (layout_version next) t)) (sym same) at_written)
  at_each d (left_bad same) = inl (subst (λ (x : Content). Stands x s) (sym same) at_lost)

pub state_slot_write : StateSlotWrite
state_slot_write c s is e keeps next bytes m t ready of d torn = at_each c s is e keeps next bytes m t ready of d torn

pub found_stands : FoundStands
found_stands c k found size each =
    let all = (stages_by_number (view c k)).0 each in record {
      checkpoint = k;
      log = log_in (view c k);
      found = found;
      stands = record {
        holds = record { size = size; stages = all.0; header = λ n. refl; block = λ n i. refl; version = refl };
        clean = all.2;
      };
      tree = record { is = refl; tree = all.1 };
      version = refl;
      closed = refl;
    }

same_newest : (c : Content) (j k : CheckpointValue) → newest c ≡ Some j → newest c ≡ Some k → j ≡ k
same_newest c j k a b = let e : Some j ≡ Some k = sym a ∙ b in cc

log_same : (c : Content) (k : CheckpointValue) (m : LogMap) → HoldsAt c k m → m ≡ log_in (view c k)
log_same c k m st =
    λ j. record { header = fun_ext (λ n. st.header n) j; block = fun_ext (λ n. fun_ext (λ i. st.block n i)) j; version = st.version j }

pub not_refused : NotRefused
not_refused c s is = (not_small, without, sound)
  where
    not_small : IsTooSmall c → ⊥
    not_small (inl few) = let n = least_segments c is.checkpoint is.found in let size = is.stands.holds.size in omega arith
    not_small (inr small) =
        let n = ap (λ (k : CheckpointValue). k.segments) (same_newest c is.checkpoint small.0 is.found small.1) in
        let size = is.stands.holds.size in
        let less = small.2 in
        omega arith

    without : IsWithoutCheckpoint c → ⊥
    without none = let e : None ≡ Some is.checkpoint = sym none.1 ∙ is.found in absurd (cc)

    by_number : (code : ℕ) → IsDamaged (view c is.checkpoint) code → ⊥
    by_number code damaged = not_damaged (view c is.checkpoint) is.stands.holds.stages
        (subst (IsTree is.checkpoint.segments) (log_same c is.checkpoint is.log is.stands.holds) is.tree.tree) is.stands.clean code damaged

    sound : (code : ℕ) → IsDamagedBy c code → ⊥
    sound code bad =
        by_number code (subst (λ (k : CheckpointValue). IsDamaged (view c k) code) (same_newest c bad.0 is.checkpoint bad.1 is.found) bad.3)

-- ---- a new volume
module _ (version : ℕ) (known : IsVersion version) where
  no_nodes : (count a : ℕ) → 2 ≤ a → nodes_from (empty_root version) count a ≡ []
  unfolding nodes_from
  no_nodes zero a le = refl
  no_nodes (suc count) a le =
      ap (λ (h : Option Header). with_object a (node_of (empty_root version) a h) (nodes_from (empty_root version) count (a + 1)))
      (cond-false (a == 1) (Some (empty_directory version)) None (ne_eqb a 1 (λ e. omega arith)))
      ∙ no_nodes count (a + 1) (omega arith)

  no_slots : slots (empty_root version) 1 (empty_directory version) ≡ []
  unfolding slots object
  no_slots = by_version (λ v. slots (empty_root v) 1 (empty_directory v) ≡ []) refl refl refl version known

  abbrev alone : Tree
  alone = (1, Dir (new_form version) []) ∷ []

  root_alone : tree_in (empty_root version) ≡ alone
  unfolding tree_in nodes_from
  root_alone =
      ap (λ (t : Tree). (1, Dir (new_form version) (map_of (new_form version) (slots (empty_root version) 1 (empty_directory version))))
      ∷ t) (no_nodes 4094 2 (omega arith))
      ∙ ap (λ (l : List (List ℕ)). (1, Dir (new_form version) (map_of (new_form version) l)) ∷ []) no_slots

  header_root : (n : ℕ) (h : Header) → (empty_root version).header n ≡ Some h → (n ≡ 1) × (h ≡ (empty_directory version))
  header_root n h is =
      ⊎_elim
      (λ (here : n ≡ 1).
      let e : Some (empty_directory version) ≡ Some h = sym (ap (empty_root version).header here) ∙ is in
      (here, cc))
      (λ (ne : n ≡ 1 → ⊥).
      let e : None ≡ Some h = sym (cond-false (n == 1) (Some (empty_directory version)) None (ne_eqb n 1 ne)) ∙ is in absurd (cc))
      (cases_eq n 1)

  -- a number has the root or nothing
  at_number : (P : ℕ → Option Node → Type 0) → P 1 (Some (Dir (new_form version) [])) → ((n : ℕ) → n ≢ 1 → P n None) → (n : ℕ)
      → P n (node alone n)
  at_number P one none n =
      ⊎_elim
      (λ (here : n ≡ 1). subst (λ (x : ℕ). P x (node alone x)) (sym here) one)
      (λ (ne : n ≡ 1 → ⊥). subst (P n) (sym (find_past 1 n (Some (Dir (new_form version) [])) [] ne)) (none n ne))
      (cases_eq n 1)

  no_entry : (d : ℕ) (name : List ℕ) → entry alone d name ≡ None
  no_entry d name = at_number (λ n o. find byte_cmp name (names_of (unwrap_or o (File []))) ≡ None) refl (λ n ne. refl) d

  no_link : (n : ℕ) (text : List ℕ) → node alone n ≡ Some (Link text) → ⊥
  no_link n text is = at_number (λ n o. o ≡ Some (Link text) → ⊥) (λ e. cc) (λ n ne e. cc) n is

  reached_alone : (n : ℕ) → is_dir (node alone n) ≡ true → IsReachable alone n
  reached_alone = at_number (λ n o. is_dir o ≡ true → IsReachable alone n) (λ e. root) (λ n ne e. absurd (cc))

  empty_reached : AreReached (empty_root version)
  empty_reached = record {
    some = λ n ne there. absurd (there (ap (λ (t : Tree). node t n) root_alone ∙ find_past 1 n (Some (Dir (new_form version) [])) [] ne));
    root = ap (λ (t : Tree). names t 1) root_alone;
    one = λ n ne dir. let e : true ≡ false = sym dir ∙ ap (λ (t : Tree). is_dir (node t n)) root_alone
        ∙ ap is_dir (find_past 1 n (Some (Dir (new_form version) [])) [] ne) in absurd (cc);
    down = subst (λ (t : Tree). (n : ℕ) → is_dir (node t n) ≡ true → IsReachable t n) (sym root_alone) reached_alone;
  }

  empty_slots : AreSlots (empty_root version)
  empty_slots = record {
    formed = λ n h is kind.
        let at = header_root n h is in
        subst (λ (l : List (List ℕ)). AllByRecursion (λ b. slot_in h.form b ≢ None) l × (length (map_of h.form l) ≡ length l))
        (sym (ap₂ (λ (x : ℕ) (y : Header). slots (empty_root version) x y) at.0 at.1 ∙ no_slots)) (tt, refl);
    there = subst NamesGive (sym root_alone) (λ d name n is. let e : None ≡ Some n = sym (no_entry d name) ∙ is in absurd (cc));
  }

  needed : need alone ≡ 727
  unfolding data_of meta_of
  needed = by_version (λ v. need ((1, Dir (new_form v) []) ∷ []) ≡ 727) refl refl refl version known

  small_need : (N : ℕ) → 64 ≤ N → need alone ≤ 47 * N
  small_need N some = let e : need alone ≡ 727 = needed in omega arith

  empty_tree : (N : ℕ) → 64 ≤ N → IsTree N (empty_root version)
  empty_tree N some = record {
    slots = empty_slots;
    texts = λ n text is. absurd (no_link n text (sym (ap (λ (t : Tree). node t n) root_alone) ∙ is));
    reached = empty_reached;
    links = λ n h is. let at = header_root n h is in ap (λ (x : Header). x.links) at.1 ∙ sym (ap₂ links root_alone at.0);
    room = subst (λ (t : Tree). need t ≤ 47 * N) (sym root_alone) (small_need N some);
  }

pub new_volume : NewVolume
new_volume version N p c new =
    let both = formatted version N p c new in
    let known = new.known in record {
      checkpoint = first_checkpoint version N p;
      log = empty_root version;
      found = both.0;
      stands = both.1;
      tree = record { is = sym (root_alone version known); tree = empty_tree version known N new.count.least };
      version = refl;
      closed = refl;
    }
