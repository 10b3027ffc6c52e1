-- An open file that is cut, or made longer, from the blocks of the log map to the state after the call.
use Rattle.lfs_steps.proofs.Prelude.{◌≡◌, ◌≤◌, ◌*◌, ℕ, List, Some, sym, ◌∙◌, ap, subst, ⊎_elim, arith, cases_lt, nat_cmp, find, IsForm}
use Rattle.lfs_steps.proofs.Prelude.{IsLogMap, need, IsObject, IsWithinLimits, LogMap, file_bytes, the_node, with_tree, File, Node, State}
use Rattle.lfs_steps.proofs.Prelude.{Tree, node, with_node, object, tree_in, object_fits, object_kept, as_header, resized}
use Rattle.lfs_model.specs.declared.Kind.TheVariants as kind
use Rattle.lfs_model.specs.Bytes.{cut}
use Rattle.lfs_model.specs.Entry as entry
use Rattle.lfs_model.specs.Need.{cost, cost_at}
use Rattle.lfs_model.specs.Objects.{CutsBytes}
use Rattle.lfs_model.proofs.Cuts.{cut_cost}
use Rattle.lfs_model.proofs.FileBytes.{cut_bytes, length-cut}
use Rattle.lfs_model.proofs.Needs.{need-with_node}
use Rattle.lfs_model.proofs.ObjectBytes.{cut_ends}
use Rattle.lfs_model.proofs.ObjectTrees.{file_cut}
use Rattle.lfs_files.specs.declared.header.Header.{Header}
use Rattle.lfs_files.specs.Files.{SizesFile}
use Rattle.lfs_steps.proofs.volume.Nodes.{IsMapOf, IsFileOf, IsShaped, opened_file}
use Rattle.lfs_steps.proofs.volume.FileBytes.{changed_map, not_directory, shape_kept}
use Rattle.lfs_steps.proofs.open_files.Steps.{file_is, shortened}

module _ {N : ℕ} (m : LogMap) {m' : LogMap} (s : State) (h n : ℕ) (is : IsMapOf N m s) (opens : find nat_cmp h s.handles ≡ Some n)
    {head : Header}
    (there : m.header n ≡ Some (as_header head))
    (len : ℕ) (sizes : SizesFile m m' n head (resized head len) len) where
  was : IsFileOf m s.tree n
  was = opened_file is.log h opens

  head_is : was.head ≡ as_header head
  head_is = let both : Some was.head ≡ Some (as_header head) = sym was.there ∙ there in cc

  -- the file's bytes up to the new end
  abbrev after : List ℕ
  after = cut (object m n was.head) len

  abbrev head' : entry.Header
  head' = as_header (resized head len)

  is_file : head.kind ≡ kind.File
  is_file = sym (ap (λ (x : entry.Header). x.kind) head_is) ∙ was.kind

  cuts : CutsBytes m m' n (as_header head) head' len
  cuts = ⊎_elim sizes.shorter (λ (longer : head.size ≤ len). sizes.longer longer is.map there) (cases_lt len head.size)

  tree_after : tree_in m' ≡ with_node s.tree n (File after)
  tree_after =
      file_cut m m' n (as_header head) head' is.map sizes.only was.number.0 was.number.1 there sizes.header is_file is_file len cuts
      ∙ ap (λ (t : Tree). with_node t n (File (cut (file_bytes (the_node t n)) len))) (sym is.log.is)
      ∙ ap (λ (x : Node). with_node s.tree n (File (cut (file_bytes x) len))) was.bytes

  shortened_is : shortened N s h len ≡ with_node s.tree n (File after)
  shortened_is =
      ap (λ (k : ℕ). with_node s.tree k (File (cut (file_bytes (the_node s.tree k)) len))) (file_is N s h n opens)
      ∙ ap (λ (x : Node). with_node s.tree n (File (cut (file_bytes x) len))) was.bytes

  -- it needs no more than before
  room_after : need (with_node s.tree n (File after)) ≤ 47 * N
  room_after =
      let change = need-with_node s.tree n (File after) is.log.sound.in_order in
      let before : cost_at (node s.tree n) ≡ cost (File (object m n was.head)) = ap cost_at was.node in
      let less = cut_cost (object m n was.head) len in
      let room = is.log.sound.room in
      omega (arith, change, before, less, room)

  module _ (end : len ≤ 8511488) where
    old_fits : IsObject m n (as_header head)
    old_fits = object_fits m n (as_header head) is.map (is.long n) there (subst (λ (x : entry.Header). x.size ≤ 8511488) head_is was.small)

    fits : IsObject m' n head'
    fits = record {
      number = was.number.0;
      root = λ e. old_fits.root e;
      form = subst (λ (v : ℕ). IsForm v head.kind head.form) (sym sizes.only.version) old_fits.form;
      size = end;
      whole = sizes.whole old_fits.whole;
      ends = cut_ends m m' n (as_header head) head' len cuts;
    }

    -- the log map after it
    pub shortened_log : IsLogMap m'
    shortened_log = object_kept m m' n head' is.map sizes.only sizes.header fits

    pub shortened_shape : IsShaped m → IsShaped m'
    shortened_shape shaped = shape_kept sizes.only shaped shortened_log fits.whole.long
        (λ g here dir. absurd (not_directory m' n sizes.header is_file g here dir))

    good : IsWithinLimits (File after)
    good =
        let limits : IsWithinLimits (File (object m n was.head)) = is.log.sound.limits n (File (object m n was.head)) was.node in
        let long = length-cut (object m n was.head) len in
        (omega (arith, long, end), cut_bytes (object m n was.head) len limits.1)

    -- and the volume's
    pub shortened_map : IsMapOf N m' (with_tree s (shortened N s h len))
    shortened_map = subst (λ (t : Tree). IsMapOf N m' (with_tree s t)) (sym shortened_is)
        (changed_map N m m' s is n was sizes.only sizes.header is_file (sym (ap (λ (x : entry.Header). x.links) head_is)) fits after
        tree_after good room_after)
