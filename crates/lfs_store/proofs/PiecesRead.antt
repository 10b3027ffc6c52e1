-- The bytes between two places of a file, block by block.
use Rattle.std.proofs.Common.{◌≡◌, ⊎_elim, ℕ, ◌+◌, ◌-◌, ◌*◌, ◌/◌, ◌%◌, ◌<◌, ◌≤◌, List, ◌++◌, length, drop, refl, sym}
use Rattle.std.proofs.Common.{ap, ◌∙◌, arith, slice_index, length-append}
use Rattle.std.specs.Int.{div_ceil}
use Rattle.std.proofs.lemmas.Bool.{cases_lt}
use Rattle.std.proofs.lemmas.Grind.{same_number_lists}
use Rattle.std.proofs.lemmas.List.{length-take, length-drop, get_or-take, get_or-drop, get_or_append_left, get_or-append_right}
use Rattle.lfs_model.specs.Bytes.{part}
use Rattle.lfs_model.specs.Objects.{byte_in}
use Rattle.lfs_model.specs.Stands.{LogMap}
use Rattle.lfs_model.specs.TreeOf.{object}
use Rattle.lfs_model.proofs.ObjectBytes.{object_part}
use Rattle.lfs_store.specs.Pieces.{place_in_block, part_of_block, HoldsBlock, PartSoFar, PartBegins, PartGoesOn, PartEnds, PartRead}

-- ---- one block

-- ---- block after block

pub part_begins : PartBegins
part_begins m n from to = record { long = omega arith; bytes = λ j lt. absurd (omega arith) }

module _ (m : LogMap) (n from to index : ℕ) (out block : List ℕ) (order : from ≤ to) (far : PartSoFar m n from to index out)
    (holds : HoldsBlock m n index block) where
  abbrev start : ℕ
  start = place_in_block from index

  abbrev stop : ℕ
  stop = place_in_block to index

  abbrev more : List ℕ
  more = part_of_block from to index block

  length_more : length more ≡ stop - start
  length_more =
      let d = length-drop start block in
      let l = holds.long in
      length-take (stop - start) (drop start block) ∙ (omega arith)

  -- the byte of the block at a place of the file
  more_byte : (j : ℕ) → j < length more → (p : ℕ) → p ≡ 512 * index + (start + j) → slice_index more j ≡ byte_in m n p
  more_byte j lt p at =
      let l = length_more in
      let block_at : p / 512 ≡ index = omega arith in
      let place_at : p % 512 ≡ start + j = omega arith in
      get_or-take (stop - start) (drop start block) j 0 (omega arith)
      ∙ get_or-drop start block j 0
      ∙ holds.bytes (start + j)
      ∙ ap (λ (i : ℕ). slice_index (m.block n i) (start + j)) (cc)
      ∙ ap (slice_index (m.block n (p / 512))) (cc)

  pub gone_on : PartSoFar m n from to (index + 1) (out ++ more)
  gone_on = record {
    long = let a = length-append out more in let l = length_more in let f = far.long in omega arith;
    bytes = λ j lt.
        let a = length-append out more in
        let l = length_more in
        let f = far.long in
        ⊎_elim
        (λ (low : j < length out). get_or_append_left out more 0 j low ∙ far.bytes j low)
        (λ (high : length out ≤ j). get_or-append_right out more (length out) j 0 refl high
        ∙ more_byte _ (omega arith) _ (omega arith)) (cases_lt j (length out));
  }

pub part_goes_on : PartGoesOn
part_goes_on m n from to index out block order far holds = gone_on _ _ _ _ _ _ _ order far holds

-- the blocks below that index have the bytes up to a place
pub last_block : {to index : ℕ} → div_ceil to 512 ≤ index → to ≤ 512 * index
last_block le = omega arith

pub part_ends : PartEnds
part_ends m n h from to index out inside all far =
    let is = object_part m n h from (to - from) in
    let l = is.0 in
    let f = far.long in
    same_number_lists out (part (object m n h) from (to - from)) (omega arith)
    (λ k lt. far.bytes k lt ∙ sym (is.1 k (omega arith)))

pub part_read : PartRead
part_read m n h o count index out all far =
    let is = object_part m n h o count in
    let l = is.0 in
    let f = far.long in
    same_number_lists out (part (object m n h) o count) (omega arith)
    (λ k lt. far.bytes k lt ∙ ap (λ (p : ℕ). byte_in m n (p + k)) (omega arith) ∙ sym (is.1 k (omega arith)))
