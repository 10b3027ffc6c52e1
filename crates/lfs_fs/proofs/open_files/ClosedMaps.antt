-- A handle that is closed, in a volume's log map: the file stays, or goes with its last handle.
use Rattle.lfs_fs.proofs.Prelude.{◌≡◌, ◌≢◌, ◌&&◌, ℕ, false, Option, Some, None, sym, ◌∙◌, ap, arith, [], ◌==◌, unwrap_or, nat_cmp, find}
use Rattle.lfs_fs.proofs.Prelude.{Done, LogMap, File, Node, State, Tree, is_dir, links, names, node, opened, without, names_of}
use Rattle.lfs_fs.proofs.Prelude.{without_file, close_goes, close_stays, closed, rest, IsFileOf, IsMapOf, opened_file, IsShaped, map_by}
use Rattle.lfs_model.specs.Cutting.{IsWithoutFile}
use Rattle.lfs_model.specs.Entry.{Header}
use Rattle.lfs_model.specs.Tree.{links_at}
use Rattle.lfs_model.proofs.Keeps.{close_keeps}
use Rattle.lfs_store.proofs.of_memory.Removed.{is_without}
use Rattle.lfs_steps.proofs.volume.KeptMaps.{gone_kept, gone_tree, shifts_gone}
use Rattle.lfs_steps.proofs.volume.MovedNames.{nothing_at, links_left}

module _ {N : ℕ} (m : LogMap) {s : State} (is : IsMapOf N m s) (h n : ℕ) (opens : find nat_cmp h s.handles ≡ Some n) where
  file : IsFileOf m s.tree n
  file = opened_file is.log h opens

  -- a file has as many names as its header says links
  pub names_by : {g : Header} → m.header n ≡ Some g → names s.tree n ≡ g.links
  names_by {g} there = sym (ap (links_at s.tree n) file.node) ∙ ap (λ (t : Tree). links t n) is.log.is ∙ sym (is.log.links n g there)

  -- the file stays
  pub closed_map : (names s.tree n == 0 && opened (rest N s h) n == 0) ≡ false → IsMapOf N m (closed N s h s.tree)
  closed_map stays = record {
    map = is.map;
    long = is.long;
    log = record {
      sound = close_keeps N s h Done is.log.sound (close_stays N s h n opens stays);
      is = is.log.is;
      version = is.log.version;
      formed = is.log.formed;
      links = is.log.links;
    };
  }

  -- it goes
  module _ (nameless : names s.tree n ≡ 0) (shut : opened (rest N s h) n ≡ 0) where
    abbrev m' : LogMap
    m' = without_file n m

    it_is : IsWithoutFile m n m'
    it_is = is_without m n

    not_root : n ≢ 1
    not_root root = let dir = is.log.sound.root in
        let no : is_dir (node s.tree 1) ≡ false = ap (λ (q : ℕ). is_dir (node s.tree q)) (sym root) ∙ ap is_dir file.node in cc

    pub gone_map : IsShaped m → IsMapOf N m' (closed N s h (without nat_cmp n s.tree))
    gone_map shaped = map_by (gone_kept m shaped it_is not_root) (close_keeps N s h Done is.log.sound
        (close_goes N s h n opens nameless shut)) is.log.version
        (gone_tree m shaped it_is not_root ∙ ap (without nat_cmp n) (sym is.log.is))
        (λ k g there. (
        let shift = shifts_gone m' n 0 it_is k g there in
        let same = shift.2 in
        let none = nothing_at n k in
        let was : shift.0.links ≡ links s.tree k = is.log.links k shift.0 shift.1
        ∙ ap (λ (t : Tree). links t k) (sym is.log.is) in
        let left = links_left s.tree n is.log.sound.in_order nameless
        (ap (λ (o : Option Node). names_of (unwrap_or o (File []))) file.node) k
        (λ here. let both : None ≡ Some g = sym it_is.header ∙ ap m'.header (sym here) ∙ there in
        absurd (cc)) in
        omega (arith, same, none, was, left)))
