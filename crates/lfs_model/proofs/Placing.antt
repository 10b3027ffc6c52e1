-- A block of a file goes from memory to the log.
use Rattle.std.proofs.Common.{◌≡◌, ◌<◌, ◌≤◌, ◌↔◌, ◌^◌, ◌/◌, ℕ, List, length, refl, sym, ◌∙◌, ap, subst, arith}
use Rattle.lfs_model.specs.Entry.{Entry, Data, Leaf, Inode}
use Rattle.lfs_model.specs.Content.{Content, block}
use Rattle.lfs_model.specs.Device.{put}
use Rattle.lfs_model.specs.Stands.{LogMap}
use Rattle.lfs_model.specs.Encodes.{HasData, HasInode}
use Rattle.lfs_model.specs.Memory.{Memory, parent, HasPointer}
use Rattle.lfs_model.specs.Laid.{IsLaid, SpellsBlock}
use Rattle.lfs_model.specs.Placing.{IsMoved, IsPlacing, Placing, next_place}
use Rattle.lfs_model.proofs.Counting.{by_entry, moved_named}
use Rattle.lfs_model.proofs.Outgoing.{above, inside, short_now, first_now, past_now, within_now, sealed_now, there_other, there_own}
use Rattle.lfs_model.proofs.Outgoing.{size_set, cells_set}
use Rattle.lfs_model.proofs.Spelling.{same_at, spells_other}
use Rattle.lfs_model.proofs.BlockMoves.{IsStep, bytes_kept, down_now, low_now, some_now, up_now, long_now, spells_now, usages_now}
use Rattle.lfs_model.proofs.BlockMoves.{above_long, above_spells, mapped_step, hidden, unshown}

-- where each block stays a block, each has one as before
module _ (e : Content) (m : LogMap) (M : Memory) (o : ℕ) (laid : IsLaid e m M o) (x : Entry) (M' : Memory)
    (others : (y : Entry) → (y ≡ x → ⊥) → M'.at y ≡ M.at y) (was : 0 < M.at x) (is : 0 < M'.at x) where
  stays : (y : Entry) → (0 < M.at y → 0 < M'.at y) × (0 < M'.at y → 0 < M.at y)
  stays = by_entry x (λ y. (0 < M.at y → 0 < M'.at y) × (0 < M'.at y → 0 < M.at y)) (λ lt. is, λ lt. was)
      (λ y ne. let s = others y ne in (λ lt. omega arith, λ lt. omega arith))

  pub blocks_stay : (n i : ℕ) → HasData m n i ↔ 0 < M'.at (Data n i)
  blocks_stay n i = (λ has. (stays (Data n i)).0 ((laid.blocks n i).0 has), λ lt. (laid.blocks n i).1 ((stays (Data n i)).1 lt))

  pub inodes_stay : (n : ℕ) → HasInode m n ↔ 0 < M'.at (Inode n)
  inodes_stay n = (λ has. (stays (Inode n)).0 ((laid.inodes n).0 has), λ lt. (laid.inodes n).1 ((stays (Inode n)).1 lt))

  pub low_stays : (n q : ℕ) → x ≡ Leaf n q → q ≤ 128
  low_stays n q h = laid.low n q (subst (λ (z : Entry). 0 < M.at z) h was)

module _ (e : Content) (m : LogMap) (M : Memory) (o : ℕ) (laid : IsLaid e m M o) (x : Entry) (M' : Memory) (p : IsPlacing M o x M') where
  q : IsMoved M o x M'
  q = p.moved

  was : 0 < M.at x
  was = let w = p.moved.was in omega arith

  out : 2 ≤ M'.at x
  out = above e m M o laid x M' p.moved

  small : M'.at x < 2 ^ 32
  small = let a = p.moved.at in let i = inside e m M o laid x M' p.moved in let f = laid.few in omega arith

  low : (n q : ℕ) → x ≡ Leaf n q → q ≤ 128
  low = low_stays e m M o laid x M' p.moved.others was (let a = out in omega arith)

  step : IsStep m m M x M'
  step = record {
    segments = p.moved.segments;
    of_file = p.of_file;
    others = p.moved.others;
    kept = p.kept;
    same = λ y ne. same_at m y;
    blocks = blocks_stay e m M o laid x M' p.moved.others was (let a = out in omega arith);
    inodes = inodes_stay e m M o laid x M' p.moved.others was (let a = out in omega arith);
    above = λ ne. laid.up x p.moved.was;
    above_long = λ ne. above_long e m M o laid x M' p.moved.others small low ne (laid.up x p.moved.was) (p.patched ne);
    above_spells = λ ne.
        above_spells e m M o laid x M' p.moved.others small low ne (laid.up x p.moved.was) (p.patched ne) m (same_at m (parent x));
    lowest = λ y ne here one. absurd (ne (p.lowest y here one));
    children = λ y ne here lt. let a = out in omega arith;
    low = λ n q is lt. low n q is;
    some = λ is le. subst HasPointer (sym p.own) (p.some is);
    long = λ lt. ap length p.own ∙ laid.long x p.of_file was;
    spells = λ lt. subst (λ (b : List ℕ). SpellsBlock m M'.at b x) (sym p.own)
        (spells_other m M.at M'.at x p.moved.others (M.bytes x) x (λ h. refl) (laid.spells x was));
    mapped = mapped_step m m M M' x p.of_file p.moved.others p.kept (λ k ne. refl)
        (λ n is none.
        let nameless = hidden m M n (laid.mapped (n / 128) none) (ap M.at is ∙ p.moved.was) in
        unshown m M'.at n nameless ∙ sym (unshown m M.at n nameless))
        laid.mapped;
  }

  placed : IsLaid (put e (next_place M o) (M.bytes x)) m M' o
  placed = record {
    size = let l = size_set e m M o laid x M' q (M.bytes x) in let s = laid.size in let n = step.segments in omega arith;
    few = let n = step.segments in let f = laid.few in omega arith;
    blocks = step.blocks;
    inodes = step.inodes;
    down = down_now e m m M o laid x M' step;
    low = low_now e m m M o laid x M' step;
    some = some_now e m m M o laid x M' step;
    up = up_now e m m M o laid x M' step;
    long = long_now e m m M o laid x M' step;
    spells = spells_now e m m M o laid x M' step;
    mapped = step.mapped;
    usages = usages_now e m m M o laid x M' step;
    there = by_entry x (λ y. 2 ≤ M'.at y → block (put e (next_place M o) (M.bytes x)) (M'.at y) ≡ M'.bytes y)
        (λ le. there_own e m M o laid x M' q (M.bytes x) p.own)
        (λ y ne le.
        let s = p.moved.others y ne in
        there_other e m M o laid x M' q (put e (next_place M o) (M.bytes x)) (size_set e m M o laid x M' q (M.bytes x))
        (cells_set e m M o laid x M' q (M.bytes x)) y ne
        (bytes_kept e m m M o laid x M' step y ne (omega arith)) le);
    within = within_now e m M o laid x M' q;
    named = moved_named M o x M' q laid.named;
    short = short_now e m M o laid x M' q;
    first = first_now e m M o laid x M' q;
    sealed = sealed_now e m M o laid x M' q (put e (next_place M o) (M.bytes x)) (size_set e m M o laid x M' q (M.bytes x))
        (cells_set e m M o laid x M' q (M.bytes x));
    past = past_now e m M o laid x M' q;
  }

pub placing : Placing
placing e m M o x M' laid p = placed e m M o laid x M' p
