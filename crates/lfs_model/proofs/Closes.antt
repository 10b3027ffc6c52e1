-- A handle less: the file may have lost its last handle.
use Rattle.std.proofs.Common.{◌≡◌, ◌≢◌, refl, sym, ap, ◌∙◌, ℕ, Bool, true, false, Option, Some, None, arith, cond, eqb}
use Rattle.std.specs.Prelude.{if◌then◌else◌, ◌==◌, not}
use Rattle.std.proofs.lemmas.Bool.Decides.{nat_tests}
use Rattle.std.specs.Ordering.{nat_cmp, eq_by_cmp}
use Rattle.std.proofs.lemmas.Cmp.{nat_cmp_total}
use Rattle.std.specs.FinMap.{find}
use Rattle.std.specs.FinMap.Entries.{is_sorted-where_key}
use Rattle.lfs_model.specs.Tree.{Handles, State, without, opened}
use Rattle.lfs_model.specs.Sound.{Sound}
use Rattle.lfs_model.proofs.Sums.{total_without, weight, find_without}
use Rattle.lfs_model.proofs.Dropping.{SoundBut}

module _ (N : ℕ) (s : State) (h n : ℕ) (sound : Sound N s) (is : find nat_cmp h s.handles ≡ Some n) where
  abbrev rest : Handles
  rest = without nat_cmp h s.handles

  -- the other files keep their handles
  still_open : (q : ℕ) → q ≢ n → opened rest q ≡ opened s.handles q
  still_open q ne =
      let all = total_without nat_cmp_total (λ v. if v == q then 1 else 0) h s.handles sound.handles_in_order in
      let no : eqb n q ≡ false = grind (arith, nat_tests) in
      let zero_one : ◌≡◌ {A = ℕ} (if n == q then 1 else 0) 0 = rw no refl in
      let none : weight nat_cmp_total (λ v. if v == q then 1 else 0) (find nat_cmp h s.handles) ≡ 0 =
      ap (weight nat_cmp_total (λ v. if v == q then 1 else 0)) is ∙ zero_one in
      omega (arith, all, none)

  was_open : (b : Bool) (o : Option ℕ) (q : ℕ) → cond b None o ≡ Some q → o ≡ Some q
  was_open true o q e = cc
  was_open false o q e = e

  pub shut_sound : SoundBut N (record s { handles = rest }) n
  shut_sound = record {
    in_order = sound.in_order;
    handles_in_order = is_sorted-where_key nat_cmp (λ x. not (eq_by_cmp nat_cmp h x)) s.handles sound.handles_in_order;
    version = sound.version;
    forms = sound.forms;
    root = sound.root;
    numbers = sound.numbers;
    limits = sound.limits;
    few_links = sound.few_links;
    named = sound.named;
    root_unnamed = sound.root_unnamed;
    one_name = sound.one_name;
    reached = sound.reached;
    held = λ q a ne some none. (let was = sound.held q ne some none in
        record { file = was.file; handle = let same = still_open q a in let old = was.handle in omega arith });
    handles = λ g q e. sound.handles g q
        (was_open (eq_by_cmp nat_cmp g h) (find nat_cmp g s.handles) q (sym (find_without nat_cmp_total h g s.handles) ∙ e));
    room = sound.room;
  }
