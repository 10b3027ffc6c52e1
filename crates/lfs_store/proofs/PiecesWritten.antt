-- Bytes written to a file, block by block.
use Rattle.std.proofs.Common.{◌≡◌, ⊎_elim, ℕ, ◌+◌, ◌-◌, ◌*◌, ◌/◌, ◌<◌, ◌≤◌, List, length, drop, refl, sym, ap, ◌∙◌, arith, slice_index}
use Rattle.std.proofs.lemmas.Bool.{cases_lt}
use Rattle.std.proofs.lemmas.List.{get_or-take, get_or-drop}
use Rattle.lfs_model.specs.Changing.{IsWithBlock}
use Rattle.lfs_model.specs.Objects.{byte_in, Overlays}
use Rattle.lfs_model.specs.Stands.{LogMap}
use Rattle.lfs_model.proofs.ObjectBytes.{block_overlaid, overlays_by_blocks}
use Rattle.lfs_model.proofs.ObjectMaps.{block_whole}
use Rattle.lfs_cleaner.specs.log.memory.Changing.{stored}
use Rattle.lfs_store.specs.Pieces.{place_in_block, piece, BlockOverlays, Covers, HoldsBlock, IsBeneath, WriteSoFar, WriteBegins}
use Rattle.lfs_store.specs.Pieces.{WriteGoesOn, WriteHeads, WriteIsDone}
use Rattle.lfs_store.proofs.PiecesLaid.{length_piece}
use Rattle.lfs_store.proofs.PiecesStored.{header_apart, stored_reads, stored_whole, other_block, block_apart, changed_twice, changed_none}
use Rattle.lfs_store.proofs.PiecesStored.{same_whole}

pub write_begins : WriteBegins
write_begins m n at w = record {
  before = λ p lt. refl;
  inside = λ j lt below. absurd (omega arith);
  behind = λ p le. refl;
  rest = λ i le. refl;
  only = changed_none;
  whole = λ was. was;
}

-- One block with the bytes that lie in it laid over is the file with them laid over.
module _ (m' m'' : LogMap) (n at : ℕ) {index : ℕ} (w old new : List ℕ) (over : BlockOverlays at w index old new)
    (with_it : IsWithBlock m' n index (stored new) m'') where
  -- it had these bytes
  over_old : HoldsBlock m' n index old → Overlays (512 * index + place_in_block at index) (piece at w index) (byte_in m' n) (byte_in m'' n)
  over_old holds = block_overlaid m' m'' n index (stored new) with_it (place_in_block at index) (piece at w index) over.fits record {
    before = λ k lt. stored_reads new k ∙ over.laid.before k lt ∙ holds.bytes k;
    inside = λ j lt. stored_reads new (place_in_block at index + j) ∙ over.laid.inside j lt;
    behind = λ k le. stored_reads new k ∙ over.laid.behind k le ∙ holds.bytes k;
  }

  -- or all of them are new
  over_any : Covers at w index → Overlays (512 * index + place_in_block at index) (piece at w index) (byte_in m' n) (byte_in m'' n)
  over_any covers =
      let l = length_piece at w index in
      overlays_by_blocks m' m'' n (512 * index + place_in_block at index) (piece at w index)
      (λ i k few before. apart i k (λ is. absurd (omega arith)))
      (λ i k j few lt is. (
      let place : k ≡ place_in_block at index + j = omega arith in
      let own : i ≡ index = omega arith in
      ap (λ (q : ℕ). slice_index (m''.block n q) k) own ∙ ap (λ (b : List ℕ). slice_index b k) with_it.own ∙ stored_reads new k
      ∙ ap (slice_index new) place ∙ over.laid.inside j lt))
      (λ i k few behind. apart i k (λ is. absurd (omega arith)))
    where
      apart : (i k : ℕ) → (i ≡ index → ⊥) → slice_index (m''.block n i) k ≡ slice_index (m'.block n i) k
      apart i k ne = rw (other_block with_it i ne)

module _ (m m' m'' : LogMap) (n at index : ℕ) (w old new : List ℕ) (far : WriteSoFar m m' n at w index)
    (beneath : IsBeneath m' n index at w old) (over : BlockOverlays at w index old new)
    (long : length new ≡ 512) (with_it : IsWithBlock m' n index (stored new) m'') where
  abbrev place : ℕ
  place = place_in_block at index

  abbrev some : List ℕ
  some = piece at w index

  step : Overlays (512 * index + place) some (byte_in m' n) (byte_in m'' n)
  step = ⊎_elim (λ holds. over_old m' m'' n at w old new over with_it holds)
      (λ covers. over_any m' m'' n at w old new over with_it covers) beneath

  go_before : (p : ℕ) → p < at → byte_in m'' n p ≡ byte_in m n p
  go_before p lt =
      let l = length_piece at w index in
      ⊎_elim
      (λ (low : p < 512 * index + place). step.before p low ∙ far.before p lt)
      (λ (high : 512 * index + place ≤ p). step.behind p (omega arith) ∙ far.before p lt)
      (cases_lt p (512 * index + place))

  piece_byte : (j k : ℕ) → k < length some → j ≡ 512 * index - at + k → slice_index some k ≡ slice_index w j
  piece_byte j k lt is =
      let l = length_piece at w index in
      get_or-take (512 - place) (drop (512 * index - at) w) k 0 (omega arith) ∙ get_or-drop (512 * index - at) w k 0
      ∙ ap (slice_index w) (sym is)

  go_inside : (j : ℕ) → j < length w → at + j < 512 * (index + 1) → byte_in m'' n (at + j) ≡ slice_index w j
  go_inside j lt below =
      let l = length_piece at w index in
      ⊎_elim
      (λ (low : at + j < 512 * index). step.before (at + j) (omega arith) ∙ far.inside j lt low)
      (λ (high : 512 * index ≤ at + j).
      let k : ℕ = at + j - (512 * index + place) in
      let in_piece : k < length some = omega arith in
      let is : at + j ≡ 512 * index + place + k = omega arith in
      ap (byte_in m'' n) is ∙ step.inside k in_piece ∙ piece_byte j k in_piece (omega arith))
      (cases_lt (at + j) (512 * index))

  go_behind : (p : ℕ) → at + length w ≤ p → byte_in m'' n p ≡ byte_in m n p
  go_behind p le =
      let l = length_piece at w index in
      ⊎_elim
      (λ (low : p < 512 * index + place). step.before p low ∙ far.behind p le)
      (λ (high : 512 * index + place ≤ p). step.behind p (omega arith) ∙ far.behind p le)
      (cases_lt p (512 * index + place))

  pub gone_on : WriteSoFar m m'' n at w (index + 1)
  gone_on = record {
    before = go_before;
    inside = go_inside;
    behind = go_behind;
    rest = λ i le. other_block with_it i (λ is. absurd (omega arith)) ∙ far.rest i (omega arith);
    only = changed_twice far.only (block_apart with_it);
    whole = λ was. block_whole m' m'' n index (stored new) with_it (far.whole was) (stored_whole new long);
  }

pub write_goes_on : WriteGoesOn
write_goes_on m m' m'' n at index w old new far beneath over long with_it =
    gone_on _ m' _ _ _ _ _ old new far beneath over long with_it

pub write_heads : WriteHeads
write_heads m m' m'' n at index w h far with_it = record {
  before = λ p lt. same p ∙ far.before p lt;
  inside = λ j lt below. same (at + j) ∙ far.inside j lt below;
  behind = λ p le. same p ∙ far.behind p le;
  rest = λ i le. with_it.block n i ∙ far.rest i le;
  only = changed_twice far.only (header_apart with_it);
  whole = λ was. same_whole (with_it.block n) (far.whole was);
}
  where
    same : (p : ℕ) → byte_in m'' n p ≡ byte_in m' n p
    same p = rw (with_it.block n (p / 512))

pub write_is_done : WriteIsDone
write_is_done m m' n at index w h h' far all some size = record {
  some = some;
  size = size;
  bytes = record { before = far.before; inside = λ j lt. far.inside j lt (omega arith); behind = far.behind };
}
