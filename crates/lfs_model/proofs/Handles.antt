-- A new handle on a file keeps a state sound.
use Rattle.std.proofs.Common.{◌≡◌, sym, ap, subst, ◌∙◌, ℕ, ◌<◌, ◌≤◌, [], ◌∷◌, Some, None, arith}
use Rattle.std.specs.Prelude.{if◌then◌else◌, ◌==◌}
use Rattle.std.specs.Ordering.{nat_cmp}
use Rattle.std.proofs.lemmas.Cmp.{nat_cmp_total}
use Rattle.std.specs.FinMap.{find, put}
use Rattle.std.specs.FinMap.Entries.{is_sorted-put}
use Rattle.lfs_model.specs.Tree.{Handles, State, node, least_handle, opened}
use Rattle.lfs_model.specs.Sound.{Sound, IsFile}
use Rattle.lfs_model.proofs.Walks.{Some-injective}
use Rattle.lfs_model.proofs.Sums.{total_put, weight}
use Rattle.lfs_model.proofs.Trees.{find_here, find_other}
use Rattle.lfs_model.proofs.Leasts.{least_free, starts}
use Rattle.lfs_model.proofs.Growing.{same_or_not}

pub starts_zero : (hs : Handles) → starts 0 hs
starts_zero [] = tt
starts_zero (e ∷ es) = omega arith

module _ (N : ℕ) (s : State) (n : ℕ) (sound : Sound N s) (room : least_handle s.handles < 64) (file : IsFile (node s.tree n)) where
  abbrev pub h : ℕ
  h = least_handle s.handles

  abbrev pub now : Handles
  now = put nat_cmp h n s.handles

  free_handle : find nat_cmp h s.handles ≡ None
  free_handle = (least_free 0 s.handles sound.handles_in_order (starts_zero s.handles)).1

  more_opened : (q : ℕ) → opened s.handles q ≤ opened now q
  more_opened q =
      let all = total_put nat_cmp_total (λ v. if v == q then 1 else 0) h n s.handles sound.handles_in_order in
      let none : weight nat_cmp_total (λ v. if v == q then 1 else 0) (find nat_cmp h s.handles) ≡ 0 =
      ap (weight nat_cmp_total (λ v. if v == q then 1 else 0)) free_handle in
      omega (arith, all, none)

  pub opened_sound : Sound N (record s { handles = now })
  opened_sound = record {
    in_order = sound.in_order;
    handles_in_order = is_sorted-put nat_cmp nat_cmp_total h n s.handles sound.handles_in_order;
    version = sound.version;
    forms = sound.forms;
    root = sound.root;
    numbers = sound.numbers;
    limits = sound.limits;
    few_links = sound.few_links;
    named = sound.named;
    root_unnamed = sound.root_unnamed;
    one_name = sound.one_name;
    reached = sound.reached;
    held = λ q ne some none. (let was = sound.held q ne some none in
        record { file = was.file; handle = let up = more_opened q in let old = was.handle in omega arith });
    handles = λ g q e. same_or_not g h
        (λ at. let here : Some n ≡ Some q = sym (find_here s.handles h n) ∙ subst (λ y. find nat_cmp y now ≡ Some q) at e in
        (omega arith, subst (λ x. IsFile (node s.tree x)) (Some-injective here) file))
        (λ ne. sound.handles g q (sym (find_other s.handles h n g ne) ∙ e));
    room = sound.room;
  }
