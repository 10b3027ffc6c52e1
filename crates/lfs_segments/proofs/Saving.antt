-- The blocks of the usage table say what it knows, from the first on and as one segment changes.
use Rattle.std.proofs.Common.{◌≡◌, ◌<◌, ◌≤◌, ⊎_elim, ◌+◌, ◌*◌, ◌/◌, ◌%◌, ℕ, List, [], length, get_or, replicate, sym, ◌∙◌, ap, subst, arith}
use Rattle.std.proofs.Common.{length-set, get_or-set_other, get_or-set_same}
use Rattle.std.specs.Prelude.{slice_set}
use Rattle.std.proofs.lemmas.Bool.{cases_eq}
use Rattle.std.proofs.lemmas.List.{get_or-replicate, length-replicate, same_lists}
use Rattle.std.specs.Array.{AllZipBelow}
use Rattle.lfs_model.specs.Fields.{le16, le32, part, read16, read32, zeros}
use Rattle.lfs_model.proofs.Numbers.{length-zeros}
use Rattle.lfs_model.proofs.Parts.{each_of_zeros, get_or-part, length-part, read16_is, read32_is, zeros_from_each}
use Rattle.lfs_model.specs.Usage.{no_use, use_at, usage_of}
use Rattle.lfs_model.proofs.UsagePlaces.{use_in, use_read}
use Rattle.lfs_model.proofs.Runs.{length-run}
use Rattle.lfs_model.proofs.Words.{UseWords, use_words}
use Rattle.lfs_segments.specs.Table.{SegmentNumbers, UsageTable, no_segment}
use Rattle.lfs_segments.specs.Steps.{saved, SpellsBlock}
use Rattle.lfs_segments.specs.Spelling.{AreSpelled}
use Rattle.lfs_segments.proofs.Numbers.{set_own, set_other, no_segment_there}

-- a block of the table is one that a checkpoint has
pub spells_block : (t : UsageTable) {blocks : List (List ℕ)} (j : ℕ) → AreSpelled blocks t.segments → j < 16
    → SpellsBlock t j (get_or blocks j [])
spells_block t {blocks} j so low = record {
  long = so.long j low;
  used = λ i lt. (words i lt).used;
  live = λ i lt. (words i lt).live;
  age = λ i lt. (words i lt).age;
}
  where
    words : (i : ℕ) → i < 64 → UseWords (get_or blocks j []) i (saved (get_or t.segments (64 * j + i) no_segment))
    words i lt = subst (UseWords (get_or blocks j []) i) (sym (use_in (get_or blocks j []) i lt) ∙ so.each j i low lt)
        (use_words (get_or blocks j []) i)

-- a copy of a list of numbers is that list
pub copied : (R : ℕ → ℕ → Type 0) → ((a b : ℕ) → R a b → b ≡ a) → (xs ys : List ℕ) {n : ℕ} → length xs ≡ n → AllZipBelow R xs ys n → ys ≡ xs
copied R same xs ys long is = same_lists ys xs (is.long ∙ sym long) (λ k d lt. same _ _ (is.at k d d (omega arith)))

-- a block of zeros has nothing of any segment
module _ (b : List ℕ) (is : b ≡ zeros 512) where
  long_zeros : length b ≡ 512
  long_zeros = ap length is ∙ length-zeros 512

  zero_part : (at n : ℕ) → at + n ≤ 512 → part at n b ≡ zeros n
  zero_part at n fits =
      let l = long_zeros in
      let p = length-part at n b (omega arith) in
      zeros_from_each (part at n b) n p (λ i lt. get_or-part at n b i (omega arith) ∙ each_of_zeros 512 is (at + i) (omega arith))

  zero16 : (at : ℕ) → at + 2 ≤ 512 → 0 ≡ read16 at b
  unfolding le16 zeros
  zero16 at fits = sym (read16_is at b 0 (omega arith) (zero_part at 2 fits))

  zero32 : (at : ℕ) → at + 4 ≤ 512 → 0 ≡ read32 at b
  unfolding le32 zeros
  zero32 at fits = sym (read32_is at b 0 (omega arith) (zero_part at 4 fits))

  zero_entry : (i : ℕ) → i < 64 → get_or (usage_of b) i no_use ≡ no_use
  zero_entry i lt = use_in b i lt
      ∙ sym (use_read (8 * i) b 0 0 0 (zero16 (8 * i) (omega arith)) (zero16 (8 * i + 2) (omega arith)) (zero32 (8 * i + 4) (omega arith)))

  pub spelled_new : {blocks : List (List ℕ)} (n : ℕ) → blocks ≡ replicate 16 b → AreSpelled blocks (replicate n no_segment)
  spelled_new {blocks} n all = record {
    count = ap length all ∙ length-replicate 16 b;
    long = λ j lt. ap length (block j lt) ∙ long_zeros;
    each = λ j i lj li. ap (λ x. get_or (usage_of x) i no_use) (block j lj) ∙ zero_entry i li
        ∙ sym (ap saved (no_segment_there n (64 * j + i)));
  }
    where
      block : (j : ℕ) → j < 16 → get_or blocks j [] ≡ b
      block j lt = ap (λ bs. get_or bs j []) all ∙ get_or-replicate 16 j b [] lt

-- one segment has other numbers, and so has its entry
module _ (blocks new : List (List ℕ)) {segments : List SegmentNumbers} (s : ℕ) (x : SegmentNumbers) (block : List ℕ) (low : s < 1024)
    (lt : s < length segments)
    (so : AreSpelled blocks segments) (is : new ≡ slice_set blocks (s / 64) block) (long : length block ≡ 512)
    (entries : usage_of block ≡ slice_set (usage_of (get_or blocks (s / 64) [])) (s % 64) (saved x)) where
  own_block : get_or new (s / 64) [] ≡ block
  own_block = ap (λ bs. get_or bs (s / 64) []) is
      ∙ get_or-set_same blocks (s / 64) block [] (omega arith)

  other_block : (j : ℕ) → (j ≡ s / 64 → ⊥) → get_or new j [] ≡ get_or blocks j []
  other_block j away = ap (λ bs. get_or bs j []) is ∙ get_or-set_other blocks (s / 64) j block [] away

  own_entry : get_or (usage_of block) (s % 64) no_use ≡ saved x
  own_entry = ap (λ us. get_or us (s % 64) no_use) entries ∙ get_or-set_same (usage_of (get_or blocks (s / 64) []))
      (s % 64) (saved x) no_use (omega (arith, length-run use_at 8 64 0 (get_or blocks (s / 64) [])))

  other_entry : (i : ℕ) → (i ≡ s % 64 → ⊥) → get_or (usage_of block) i no_use ≡ get_or (usage_of (get_or blocks (s / 64) [])) i no_use
  other_entry i away = ap (λ us. get_or us i no_use) entries
      ∙ get_or-set_other (usage_of (get_or blocks (s / 64) [])) (s % 64) i (saved x) no_use away

  -- an entry of another segment
  stays : (j i : ℕ) → j < 16 → i < 64 → (64 * j + i ≡ s → ⊥)
      → get_or (usage_of (get_or new j [])) i no_use ≡ get_or (usage_of (get_or blocks j [])) i no_use
  stays j i lj li away = ⊎_elim
      (λ here.
      ap (λ k. get_or (usage_of (get_or new k [])) i no_use) here ∙ ap (λ b. get_or (usage_of b) i no_use) own_block
      ∙ other_entry i (λ e. away (omega arith)) ∙ ap (λ k. get_or (usage_of (get_or blocks k [])) i no_use) (sym here))
      (λ there. ap (λ b. get_or (usage_of b) i no_use) (other_block j there))
      (cases_eq j (s / 64))

  entry_is : (j i : ℕ) → j < 16 → i < 64
      → get_or (usage_of (get_or new j [])) i no_use ≡ saved (get_or (slice_set segments s x) (64 * j + i) no_segment)
  entry_is j i lj li = ⊎_elim
      (λ here.
      let at : j ≡ s / 64 = omega arith in
      let place : i ≡ s % 64 = omega arith in
      ap (λ k. get_or (usage_of (get_or new k [])) i no_use) at ∙ ap (λ b. get_or (usage_of b) i no_use) own_block
      ∙ ap (λ k. get_or (usage_of block) k no_use) place ∙ own_entry
      ∙ sym (ap saved (ap (λ k. get_or (slice_set segments s x) k no_segment) here ∙ set_own segments s x lt)))
      (λ away. stays j i lj li away ∙ so.each j i lj li ∙ sym (ap saved (set_other segments x away)))
      (cases_eq (64 * j + i) s)

  long_block : (j : ℕ) → j < 16 → length (get_or new j []) ≡ 512
  long_block j lj = ⊎_elim
      (λ here. ap (λ k. length (get_or new k [])) here ∙ ap length own_block ∙ long)
      (λ there. ap length (other_block j there) ∙ so.long j lj)
      (cases_eq j (s / 64))

  pub spelled_anew : AreSpelled new (slice_set segments s x)
  spelled_anew = record { count = ap length is ∙ length-set blocks (s / 64) block ∙ so.count; long = long_block; each = entry_is }
