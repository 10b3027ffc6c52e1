-- The first stage, block by block: what a reader that decodes each usage block proves.
use Rattle.std.proofs.Common.{◌≡◌, ◌<◌, ◌≤◌, ◌⊎◌, inl, ⊎_elim, ◌+◌, ◌*◌, ◌-◌, ◌/◌, ◌%◌, ℕ, List, [], length, take, ◌∙◌, ap, subst, arith}
use Rattle.std.proofs.lemmas.Bool.{cases_lt}
use Rattle.std.proofs.lemmas.List.{drop_all}
use Rattle.lfs_model.specs.Checkpoint.{CheckpointValue, unit_sectors}
use Rattle.lfs_model.specs.Content.{Content, block}
use Rattle.lfs_model.specs.Entry.{Usage, half, word}
use Rattle.lfs_model.specs.Fields.{number_of, part, read16}
use Rattle.lfs_model.specs.Reach.{View, view}
use Rattle.lfs_model.specs.Stands.{Fresh, Reached, Usages, age_in, live_in, used_in}
use Rattle.lfs_model.proofs.Encodes.{word_nil}
use Rattle.lfs_model.proofs.Words.{IsUsageBlock}

pub half_nil : (k : ℕ) → half [] k ≡ 0
unfolding half read16 part
half_nil k = ap (λ (b : List ℕ). number_of (take 2 b)) (drop_all (2 * k) [] (omega arith))

module _ (c : Content) (k : CheckpointValue) (reached : (j : ℕ) → Reached (view c k) (Usage j) → j < (k.segments + 63) / 64)
    (all : (j : ℕ) → j < (k.segments + 63) / 64 → Reached (view c k) (Usage j)) (fresh : Fresh (view c k) 1)
    (long : (j : ℕ) → Reached (view c k) (Usage j) → length ((view c k).block (Usage j)) ≡ 512)
    (blocks : (j : ℕ) → j < (k.segments + 63) / 64 → IsUsageBlock (k.segments - 64 * j) ((view c k).block (Usage j)))
    (whole : (s : ℕ) → s < k.segments → used_in (view c k) s % unit_sectors k ≡ 0) where
  -- a block that isn't stored
  no_block : (j : ℕ) → (k.segments + 63) / 64 ≤ j → (view c k).block (Usage j) ≡ []
  no_block j past = ap (block c) (zero_from ((view c k).address (Usage j)) (λ some. let lt = reached j some in omega arith))
    where
      zero_from : (a : ℕ) → (0 < a → ⊥) → a ≡ 0
      zero_from a none = omega arith

  unused : (s : ℕ) → (k.segments + 63) / 64 ≤ s / 64 → used_in (view c k) s ≡ 0
  unused s past = ap (λ (b : List ℕ). half b (4 * (s % 64))) (no_block (s / 64) past) ∙ half_nil (4 * (s % 64))

  no_live : (s : ℕ) → (k.segments + 63) / 64 ≤ s / 64 → live_in (view c k) s ≡ 0
  no_live s past = ap (λ (b : List ℕ). half b (4 * (s % 64) + 1)) (no_block (s / 64) past) ∙ half_nil (4 * (s % 64) + 1)

  no_age : (s : ℕ) → (k.segments + 63) / 64 ≤ s / 64 → age_in (view c k) s ≡ 0
  no_age s past = ap (λ (b : List ℕ). word b (2 * (s % 64) + 1)) (no_block (s / 64) past) ∙ word_nil (2 * (s % 64) + 1)

  by_block : (P : ℕ → Type 0) → ((s : ℕ) → s / 64 < (k.segments + 63) / 64 → P s) → ((s : ℕ) → (k.segments + 63) / 64 ≤ s / 64 → P s)
      → (s : ℕ) → P s
  by_block P inside outside s = ⊎_elim (inside s) (outside s) (cases_lt (s / 64) ((k.segments + 63) / 64))

  pub usages : Usages (view c k)
  usages = record {
    addresses = λ j. (reached j, all j);
    fresh = fresh;
    readable = long;
    fit = by_block (λ s. used_in (view c k) s ≤ 64) (λ s lt. (blocks (s / 64) lt).fit (s % 64) (omega arith))
        (λ s past. let z = unused s past in omega arith);
    whole = whole;
    less = by_block (λ s. (used_in (view c k) s ≡ 0) ⊎ ((0 < live_in (view c k) s) × (live_in (view c k) s < used_in (view c k) s)))
        (λ s lt. (blocks (s / 64) lt).less (s % 64) (omega arith)) (λ s past. inl (unused s past));
    both = by_block (λ s. used_in (view c k) s ≡ 0 → live_in (view c k) s ≡ 0)
        (λ s lt none. (blocks (s / 64) lt).both (s % 64) (omega arith) none) (λ s past none. no_live s past);
    past = by_block (λ s. k.segments ≤ s → (used_in (view c k) s ≡ 0) × (age_in (view c k) s ≡ 0))
        (λ s lt le. (blocks (s / 64) lt).past (s % 64) (omega arith) (omega arith)) (λ s past le. (unused s past, no_age s past));
  }

-- and what the stage says of each block
pub usage_block_of : (v : View) → Usages v → (j : ℕ) → IsUsageBlock (v.checkpoint.segments - 64 * j) (v.block (Usage j))
usage_block_of v u j = record {
  fit = λ i lt. at_block (λ a b. half (v.block (Usage a)) (4 * b) ≤ 64) i lt (u.fit (64 * j + i));
  less = λ i lt. at_block (λ a b. (half (v.block (Usage a)) (4 * b) ≡ 0) ⊎ ((0 < half (v.block (Usage a)) (4 * b + 1))
      × (half (v.block (Usage a)) (4 * b + 1) < half (v.block (Usage a)) (4 * b)))) i lt (u.less (64 * j + i));
  both = λ i lt.
      at_block (λ a b. half (v.block (Usage a)) (4 * b) ≡ 0 → half (v.block (Usage a)) (4 * b + 1) ≡ 0) i lt (u.both (64 * j + i));
  past = λ i le lt. at_block (λ a b. (half (v.block (Usage a)) (4 * b) ≡ 0) × (word (v.block (Usage a)) (2 * b + 1) ≡ 0)) i lt
      (u.past (64 * j + i) (omega arith));
}
  where
    at_block : (P : ℕ → ℕ → Type 0) → (i : ℕ) → i < 64 → P ((64 * j + i) / 64) ((64 * j + i) % 64) → P j i
    at_block P i lt p =
        let a : (64 * j + i) / 64 ≡ j = omega arith in
        let b : (64 * j + i) % 64 ≡ i = omega arith in
        subst (λ (x : ℕ). P x i) a (subst (P ((64 * j + i) / 64)) b p)
