-- The blocks of the inode map, and the table of inode addresses.
use Rattle.lfs_verify.proofs.Places.{put_own, put_before, put_after}
use Rattle.std.proofs.Common.{◌≡◌, ◌<◌, ◌≤◌, ⊎_elim, ◌+◌, ◌-◌, ◌*◌, ◌/◌, ◌%◌, ℕ, List, length, get_or, set}
use Rattle.std.proofs.Common.{refl, sym, ◌∙◌, ap, ap₂, subst, arith, Bool}
use Rattle.std.proofs.lemmas.Bool.{cases_lt}
use Rattle.std.proofs.lemmas.List.{length-set}
use Rattle.lfs_model.specs.Checkpoint.{CheckpointValue}
use Rattle.lfs_model.specs.Content.{Content, block}
use Rattle.lfs_model.specs.Entry.{Inode, Map, word}
use Rattle.lfs_model.specs.Reach.{address, view}
use Rattle.lfs_model.specs.Stands.{Maps, Reached}
use Rattle.lfs_model.proofs.Reach.{address_linked}
use Rattle.lfs_verify.specs.MapTables.{Copies, ListsUpTo, IsEmptyFrom}
use Rattle.lfs_verify.specs.Take.{SomeWord, Lists, Advances, TakesAddress}
use Rattle.lfs_verify.proofs.Takes.{step_goes, as_it_is}
use Rattle.lfs_verify.proofs.Words.{word_none}

pub copies_none : {bytes old : List ℕ} {at : ℕ} → Copies bytes old old at 0
copies_none = record { own = λ i lt. absurd (omega (arith, lt)); before = λ j lt. refl; after = λ j le. refl; size = refl }

pub copies_more : {bytes old mid : List ℕ} {at n x : ℕ} → at + n < length mid → x ≡ word bytes n → Copies bytes old mid at n
    → Copies bytes old (set mid (at + n) x) at (n + 1)
copies_more {bytes} {mid} {at} {n} {x} inside is was = record {
  own = λ i lt. put_own mid at n x (word bytes) inside is i lt (was.own i);
  before = λ j lt. put_before mid at n x j lt ∙ was.before j lt;
  after = λ j le. put_after mid at n x j le ∙ was.after j (omega (arith, le));
  size = length-set mid (at + n) x ∙ was.size;
}

-- which block of the map an inode's address stands in
entry_at : (c : Content) (k : CheckpointValue) (j i : ℕ) → i < 128
    → address c k (Inode (128 * j + i)) ≡ word (block c (address c k (Map j))) i
entry_at c k j i lt =
    let a : (128 * j + i) / 128 ≡ j = omega arith in
    let b : (128 * j + i) % 128 ≡ i = omega arith in
    address_linked c k (Inode (128 * j + i)) ∙ ap₂ (λ (x y : ℕ). word (block c (address c k (Map x))) y) a b

module _ (c : Content) (k : CheckpointValue) (j : ℕ) (low : j < 32) {p : ℕ} (val : p ≡ get_or k.map j 0) where
  map_at : p ≡ address c k (Map j)
  map_at = val ∙ sym (address_linked c k (Map j))

  -- the numbers of this block are those of the table, if it holds them
  lists_with : (old new : List ℕ) → ((n : ℕ) → n < 128 * j → get_or new n 0 ≡ get_or old n 0)
      → ((i : ℕ) → i < 128 → get_or new (128 * j + i) 0 ≡ word (block c p) i)
      → ListsUpTo (view c k) old j → ListsUpTo (view c k) new (j + 1)
  lists_with old new before own was n lt = ⊎_elim
      (λ (below : n < 128 * j). before n below ∙ was n below)
      (λ (past : 128 * j ≤ n).
      let e : 128 * j + (n - 128 * j) ≡ n = omega arith in
      let few : n - 128 * j < 128 = omega arith in
      subst (λ (x : ℕ). get_or new x 0 ≡ address c k (Inode x)) e
      (own (n - 128 * j) few ∙ ap (λ (a : ℕ). word (block c a) (n - 128 * j)) map_at ∙ sym (entry_at c k j (n - 128 * j) few)))
      (cases_lt n (128 * j))

  pub lists_passed : p ≡ 0 → (map : List ℕ) → IsEmptyFrom map j → ListsUpTo (view c k) map j → ListsUpTo (view c k) map (j + 1)
  lists_passed none map empty was = lists_with map map (λ n lt. refl)
      (λ i lt. empty (128 * j + i) (omega arith) ∙ sym (ap (λ (a : ℕ). word (block c a) i) none ∙ word_none i)) was

  pub lists_taken : {old new out : List ℕ} → block c p ≡ out → Copies out old new (128 * j) 128 → ListsUpTo (view c k) old j
      → ListsUpTo (view c k) new (j + 1)
  lists_taken {old} {new} read copies was =
      lists_with old new copies.before (λ i lt. copies.own i lt ∙ ap (λ (b : List ℕ). word b i) (sym read)) was

  pub map_goes : (m m1 : List ℕ) (x : Bool) → TakesAddress SomeWord c m m1 p (16 + j) x
      → Advances (view c k) m m1 (16 + j) (16 + (j + 1)) (Maps (view c k)) x
  map_goes m m1 = step_goes (view c k) m m1 (Map j) refl (omega arith) low map_at c SomeWord as_it_is (Maps (view c k))
      (λ maps. maps.fresh) (λ maps. maps.nonempty j)

pub empty_taken : {out old new : List ℕ} (j : ℕ) → Copies out old new (128 * j) 128 → IsEmptyFrom old j → IsEmptyFrom new (j + 1)
empty_taken j copies was n le = copies.after n (omega (arith, le)) ∙ was n (omega (arith, le))

-- number 0 has no inode, number 1 has one
module _ (c : Content) (k : CheckpointValue) (map : List ℕ) {j : ℕ} (all : 32 ≤ j) (lists : ListsUpTo (view c k) map j) where
  pub lists_all : Lists (view c k) map
  lists_all n lt = lists n (omega (arith, all, lt))

  pub none_fails : (get_or map 0 0 ≡ 0 → ⊥) → Maps (view c k) → ⊥
  none_fails some maps = some (lists 0 (omega (arith, all)) ∙ maps.none)

  pub root_fails : get_or map 1 0 ≡ 0 → Maps (view c k) → ⊥
  root_fails none maps = let e = lists 1 (omega (arith, all)) in omega (arith, maps.root)

  pub none_holds : get_or map 0 0 ≡ 0 → address c k (Inode 0) ≡ 0
  none_holds none = sym (lists 0 (omega (arith, all))) ∙ none

  pub root_reached : (get_or map 1 0 ≡ 0 → ⊥) → Reached (view c k) (Inode 1)
  root_reached some = let e = lists 1 (omega (arith, all)) in omega arith
