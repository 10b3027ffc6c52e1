-- A part of a block that was written, and the bytes that it got.
use Rattle.std.proofs.Common.{◌≡◌, ⊎_elim, ℕ, ◌+◌, ◌-◌, ◌*◌, ◌<◌, ◌≤◌, List, ◌++◌, length, take, drop, get_or, sym, ap, subst, ◌∙◌, arith}
use Rattle.std.proofs.Common.{slice_index}
use Rattle.std.specs.Prelude.{min}
use Rattle.std.proofs.lemmas.Bool.{cases_lt}
use Rattle.std.proofs.lemmas.Grind.{same_number_lists}
use Rattle.std.proofs.lemmas.List.{length-take, length-drop, length-take-le, get_or-take, get_or-drop, get_or_append_left}
use Rattle.std.proofs.lemmas.List.{get_or-append_right, get_or_past}
use Rattle.std.proofs.lemmas.Slice.{drop-put_mid}
use Rattle.lfs_model.specs.Objects.{Overlays}
use Rattle.lfs_store.specs.Pieces.{piece, place_in_block, BlockOverlays, CutsTail}
use borrow.Rule.Slice.PartMut.{put_mid, mid_of, post_of}

module _ (a k : ℕ) (xs ys : List ℕ) (room : a + k ≤ length xs) where
  pub written_before : (i : ℕ) → i < a → get_or (put_mid a k xs ys) i 0 ≡ get_or xs i 0
  written_before i lt =
      let l = length-take-le a xs (omega arith) in
      get_or_append_left (take a xs) (ys ++ post_of a k xs) 0 i (omega arith) ∙ get_or-take a xs i 0 lt

  pub written_inside : length ys ≡ k → (j : ℕ) → j < k → get_or (put_mid a k xs ys) (a + j) 0 ≡ get_or ys j 0
  written_inside long j lt =
      get_or-append_right (take a xs) (ys ++ post_of a k xs) a (a + j) 0 (length-take-le a xs (omega arith)) (omega arith)
      ∙ ap (λ (i : ℕ). get_or (ys ++ post_of a k xs) i 0) (omega arith)
      ∙ get_or_append_left ys (post_of a k xs) 0 j (omega arith)

  pub written_behind : length ys ≡ k → (i : ℕ) → a + k ≤ i → get_or (put_mid a k xs ys) i 0 ≡ get_or xs i 0
  written_behind long i le =
      let at : i ≡ a + k + (i - (a + k)) = omega arith in
      ap (λ (p : ℕ). get_or (put_mid a k xs ys) p 0) at
      ∙ sym (get_or-drop (a + k) (put_mid a k xs ys) (i - (a + k)) 0)
      ∙ ap (λ (zs : List ℕ). get_or zs (i - (a + k)) 0) (drop-put_mid a k xs ys (a + k) (omega arith) (omega arith) long)
      ∙ get_or-drop (a + k) xs (i - (a + k)) 0
      ∙ ap (λ (p : ℕ). get_or xs p 0) (sym at)

-- a part that was written with w is w laid over
pub written_overlays : (a : ℕ) {k : ℕ} (xs ys : List ℕ) {w : List ℕ} → a + k ≤ length xs → ys ≡ w → length w ≡ k
    → Overlays a w (slice_index xs) (slice_index (put_mid a k xs ys))
written_overlays a {k} xs ys room same long = record {
  before = written_before _ _ _ _ room;
  inside = λ j lt. written_inside _ _ _ _ room (cc) _ (omega arith) ∙ ap (λ (zs : List ℕ). get_or zs j 0) same;
  behind = λ i le. written_behind a k xs ys room (cc) i (omega arith);
}

-- as many elements as there are, or more, are taken either way
pub take_same : (a b : ℕ) (xs : List ℕ) → min a (length xs) ≡ min b (length xs) → take a xs ≡ take b xs
take_same a b xs same =
    let la = length-take a xs in
    let lb = length-take b xs in
    same_number_lists (take a xs) (take b xs) (cc)
    (λ k lt. get_or-take a xs k 0 (omega arith) ∙ sym (get_or-take b xs k 0 (omega arith)))

-- the piece of w in a block has as many bytes as the block has places for it
pub length_piece : (at : ℕ) (w : List ℕ) (index : ℕ)
    → length (piece at w index) ≡ place_in_block (at + length w) index - place_in_block at index
length_piece at w index =
    let d = length-drop (512 * index - at) w in
    length-take (512 - place_in_block at index) (drop (512 * index - at) w) ∙ (omega arith)

-- It fits the block.
pub piece_fits : (at : ℕ) (w : List ℕ) (index : ℕ) → place_in_block at index + length (piece at w index) ≤ 512
piece_fits at w index = let l = length_piece at w index in omega arith

-- what `copy_from_slice` takes of w is the piece
pub copied_piece : (at : ℕ) (w : List ℕ) (index skip len : ℕ) → skip ≡ 512 * index - at
    → place_in_block at index + len ≡ place_in_block (at + length w) index
    → take (skip + len - skip) (drop skip w) ≡ piece at w index
copied_piece at w index skip len place fits =
    let d = length-drop skip w in
    take_same _ _ _ (omega arith)
    ∙ ap (λ (k : ℕ). take (512 - place_in_block at index) (drop k w)) place

pub copied_overlays : {block : List ℕ} (new : List ℕ) {w : List ℕ} {at index : ℕ} (skip start stop : ℕ) → length block ≡ 512
    → start ≡ place_in_block at index
    → stop ≡ place_in_block (at + length w) index
    → start < stop → skip ≡ 512 * index - at → new ≡ take (skip + (stop - start) - skip) (drop skip w)
    → BlockOverlays at w index block (put_mid start (stop - start) block new)
copied_overlays {block} new {w} {at} {index} skip start stop long from to some place copied =
    let is : new ≡ piece at w index = copied ∙ copied_piece _ _ _ _ _ place (omega arith) in
    let l : length (piece at w index) ≡ stop - start = length_piece at w index ∙ (omega arith) in
    record {
      fits = piece_fits _ _ _;
      laid =
          subst (λ (s : ℕ). Overlays s (piece at w index) (slice_index block) (slice_index (put_mid start (stop - start) block new))) from
          (written_overlays _ _ _ (omega arith) is l);
    }

-- a block that was filled with zeros from a place on
module _ (from : ℕ) (block new : List ℕ) (whole : length block ≡ 512) (low : from ≤ 512)
    (same : length new ≡ length (mid_of from (512 - from) block))
    (zeros : (k d : ℕ) → k < length (mid_of from (512 - from) block) → get_or new k d ≡ 0) where
  filled_length : length (mid_of from (512 - from) block) ≡ 512 - from
  filled_length = let d = length-drop from block in length-take-le (512 - from) (drop from block) (omega arith)

  filled_zeros : (k : ℕ) → from ≤ k → slice_index (put_mid from (512 - from) block new) k ≡ 0
  filled_zeros k le =
      let mid = filled_length in
      let long : length new ≡ 512 - from = same ∙ mid in
      ⊎_elim
      (λ (inside : k < 512).
      let at : k ≡ from + (k - from) = omega arith in
      ap (λ (p : ℕ). get_or (put_mid from (512 - from) block new) p 0) at
      ∙ written_inside _ _ _ _ (omega arith) long _ (omega arith) ∙ zeros (k - from) 0 (omega arith))
      (λ (past : 512 ≤ k). written_behind from (512 - from) block new (omega arith) long k (omega arith)
      ∙ get_or_past block k 0 (omega arith))
      (cases_lt k 512)

  pub filled_tail : CutsTail from block (put_mid from (512 - from) block new)
  filled_tail = record { before = λ k lt. written_before _ _ _ _ (omega arith) _ lt; zeros = filled_zeros }
