-- Pointers of blocks in memory and on the device are what memory has for the blocks below them.
use Rattle.std.proofs.Common.{◌≡◌, ◌<◌, ◌≤◌, ⊎_elim, ◌+◌, ◌*◌, ◌-◌, ◌/◌, ◌%◌, ◌==◌, ℕ, zero, suc, true, false, refl, sym, ◌∙◌, ap}
use Rattle.std.proofs.Common.{subst, arith}
use Rattle.std.proofs.lemmas.Bool.{cases_eq, cases_lt, cond-true, cond-false, lt-ltb, le-ltb}
use Rattle.std.proofs.lemmas.Bool.Decides.{nat_tests}
use Rattle.lfs_model.specs.Content.{Content, bytes_of, block}
use Rattle.lfs_model.specs.Entry.{Entry, Data, Leaf, Double, Inode, word}
use Rattle.lfs_model.specs.Stands.{LogMap}
use Rattle.lfs_model.specs.Memory.{Memory, parent, IsOfFile}
use Rattle.lfs_model.specs.Laid.{IsLaid, SpellsFile}
use Rattle.lfs_model.specs.Running.{Dirty, IsCached}
use Rattle.lfs_model.proofs.Entries.{data_parent_high}
use Rattle.lfs_inodes.specs.Present.{present, leaf_now, data_now, PresentIsLaid}
use Rattle.lfs_inodes.proofs.Places.{word_none}

in_memory : (content : Content) (dirty : Dirty) (x : Entry) {a : ℕ} → a ≡ 1 → present content dirty x a ≡ bytes_of (dirty x)
in_memory content dirty x {a} e = cond-true _ _ _ (is_one a e)
  where
    is_one : (a : ℕ) → a ≡ 1 → (a == 1) ≡ true
    is_one a e = grind (arith, nat_tests)

on_device : (content : Content) (dirty : Dirty) (x : Entry) (a : ℕ) → (a ≡ 1 → ⊥) → present content dirty x a ≡ block content a
on_device content dirty x a ne = cond-false _ _ _ (not_one a ne)
  where
    not_one : (a : ℕ) → (a ≡ 1 → ⊥) → (a == 1) ≡ false
    not_one a ne = grind (arith, nat_tests)

module _ {content : Content} {m : LogMap} (M : Memory) {o : ℕ} {dirty : Dirty} (laid : IsLaid content m M o)
    (cached : IsCached dirty M) where
  -- the block of an entry of a file is what memory has
  pub present_is : (x : Entry) → IsOfFile x → 0 < M.at x → present content dirty x (M.at x) ≡ M.bytes x
  present_is x file some =
      ⊎_elim
      (λ one.
      let f = cached.found x file one in
      in_memory content dirty x one ∙ ap bytes_of f.1 ∙ sym (cached.cached x f.0 f.1).2)
      (λ ne. on_device content dirty x (M.at x) ne ∙ laid.there x (omega arith))
      (cases_eq (M.at x) 1)

  -- and none where there is none
  absent_is : (x : Entry) (k : ℕ) → M.at x ≡ 0 → word (present content dirty x (M.at x)) k ≡ 0
  absent_is x k none =
      ap (λ b. word b k) (on_device content dirty x (M.at x) (λ e. omega arith) ∙ ap (block content) none) ∙ word_none k

  module _ (n : ℕ) (some : 0 < M.at (Inode n)) where
    spelt : SpellsFile m M.at n (M.bytes (Inode n))
    spelt = laid.spells (Inode n) some

    pub leaf_is : (q : ℕ) → q ≤ 128 → leaf_now content dirty n (M.bytes (Inode n)) q ≡ M.at (Leaf n q)
    leaf_is zero low = spelt.single
    leaf_is (suc q) low =
        ap (λ a. word (present content dirty (Double n) a) q) spelt.double
        ∙ ⊎_elim
        (λ gone.
        absent_is (Double n) q (omega arith)
        ∙ ⊎_elim
        (λ no_leaf. let e : 0 ≡ M.at (Leaf n (suc q)) = omega arith in e)
        (λ leaf. let d : 0 < M.at (Double n) = laid.down (Leaf n (suc q)) leaf in absurd (omega arith))
        (cases_lt (M.at (Leaf n (suc q))) 1))
        (λ there.
        ap (λ b. word b q) (present_is (Double n) (n, refl) there) ∙ laid.spells (Double n) there q (omega arith))
        (cases_lt (M.at (Double n)) 1)

    past_is : (q j : ℕ) → q ≤ 128 → j < 128
        → word (present content dirty (Leaf n q) (leaf_now content dirty n (M.bytes (Inode n)) q)) j ≡ M.at (Data n (112 + 128 * q + j))
    past_is q j low lt =
        ap (λ a. word (present content dirty (Leaf n q) a) j) (leaf_is q low)
        ∙ ⊎_elim
        (λ gone.
        absent_is (Leaf n q) j (omega arith)
        ∙ ⊎_elim
        (λ no_data. let e : 0 ≡ M.at (Data n (112 + 128 * q + j)) = omega arith in e)
        (λ data_there.
        let place : (112 + 128 * q + j - 112) / 128 ≡ q = omega arith in
        let above : parent (Data n (112 + 128 * q + j)) ≡ Leaf n q = data_parent_high n (112 + 128 * q + j) (omega arith)
        ∙ ap (Leaf n) place in
        let d : 0 < M.at (Leaf n q) = subst (λ x. 0 < M.at x) above (laid.down (Data n (112 + 128 * q + j)) data_there) in
        absurd (omega arith))
        (cases_lt (M.at (Data n (112 + 128 * q + j))) 1))
        (λ there.
        ap (λ b. word b j) (present_is (Leaf n q) (n, refl) there) ∙ laid.spells (Leaf n q) there j lt)
        (cases_lt (M.at (Leaf n q)) 1)

    data_is : (i : ℕ) → i < 16624 → data_now content dirty n (M.bytes (Inode n)) i ≡ M.at (Data n i)
    data_is i low =
        ⊎_elim
        (λ direct. cond-true _ _ _ (lt-ltb i 112 direct) ∙ spelt.direct i direct)
        (λ past.
        let whole : 112 + 128 * ((i - 112) / 128) + (i - 112) % 128 ≡ i = omega arith in
        cond-false _ _ _ (le-ltb i 112 past)
        ∙ past_is ((i - 112) / 128) ((i - 112) % 128) (omega arith) (omega arith)
        ∙ ap (λ k. M.at (Data n k)) whole)
        (cases_lt i 112)

pub present_is_laid : PresentIsLaid
present_is_laid content m M o dirty laid cached n i some low = data_is M laid cached n some i low
