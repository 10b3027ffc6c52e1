-- A block of a file comes into memory as it is.
use Rattle.std.proofs.Common.{◌≡◌, ◌<◌, ◌≤◌, ◌^◌, ◌/◌, ℕ, true, false, not, List, length, refl, sym, ◌∙◌, ap, subst, arith, ⊎_elim}
use Rattle.std.proofs.lemmas.Bool.{cases_Bool}
use Rattle.lfs_model.specs.Entry.{Entry, Leaf, Inode, Map}
use Rattle.lfs_model.specs.Content.{Content}
use Rattle.lfs_model.specs.Stands.{LogMap}
use Rattle.lfs_model.specs.Memory.{Memory, parent, pointer, patched, is_nameless, is_shown}
use Rattle.lfs_model.specs.Laid.{IsLaid, SpellsBlock}
use Rattle.lfs_model.specs.Lifting.{IsLifting, Lifting}
use Rattle.lfs_model.proofs.Spelling.{same_at, spells_other}
use Rattle.lfs_model.proofs.BlockMoves.{IsStep, above_long, above_spells, mapped_step, unshown, taken_laid}
use Rattle.lfs_model.proofs.Placing.{blocks_stay, inodes_stay, low_stays}

module _ (e : Content) (m : LogMap) (M : Memory) (o : ℕ) (laid : IsLaid e m M o) (x : Entry) (M' : Memory) (p : IsLifting m M x M') where
  was : 0 < M.at x
  was = let w = p.was in omega arith

  is : 0 < M'.at x
  is = let a = p.taken.at in omega arith

  small : M'.at x < 2 ^ 32
  small = let a = p.taken.at in omega arith

  low : (n q : ℕ) → x ≡ Leaf n q → q ≤ 128
  low = low_stays e m M o laid x M' p.taken.others was is

  patch : (parent x ≡ x → ⊥) → M'.bytes (parent x) ≡ patched (pointer x) (M'.at x) (M.bytes (parent x))
  patch ne = p.patched ne ∙ ap (λ (v : ℕ). patched (pointer x) v (M.bytes (parent x))) (sym p.taken.at)

  -- an inode whose inode map block won't be written isn't shown
  not_shown : (n : ℕ) → Inode n ≡ x → (M.at (Map (n / 128)) ≡ 1 → ⊥) → is_nameless m n ≡ true
  not_shown n is none = ⊎_elim
      (λ (nameless : is_nameless m n ≡ true). nameless)
      (λ (named : is_nameless m n ≡ false). absurd (none (p.map n (sym is) (ap (is_shown m) (sym is) ∙ ap not named))))
      (cases_Bool (is_nameless m n))

  step : IsStep m m M x M'
  step = record {
    segments = p.taken.segments;
    of_file = p.of_file;
    others = p.taken.others;
    kept = p.kept;
    same = λ y ne. same_at m y;
    blocks = blocks_stay e m M o laid x M' p.taken.others was is;
    inodes = inodes_stay e m M o laid x M' p.taken.others was is;
    above = p.above;
    above_long = λ ne. above_long e m M o laid x M' p.taken.others small low ne (p.above ne) (patch ne);
    above_spells = λ ne. above_spells e m M o laid x M' p.taken.others small low ne (p.above ne) (patch ne) m (same_at m (parent x));
    lowest = λ y ne here one. p.taken.at;
    children = λ y ne here lt. is;
    low = λ n q h lt. low n q h;
    some = λ h le. let a = p.taken.at in absurd (omega arith);
    long = λ lt. ap length p.own ∙ laid.long x p.of_file was;
    spells = λ lt. subst (λ (b : List ℕ). SpellsBlock m M'.at b x) (sym p.own)
        (spells_other m M.at M'.at x p.taken.others (M.bytes x) x (λ h. refl) (laid.spells x was));
    mapped = mapped_step m m M M' x p.of_file p.taken.others p.kept (λ k ne. refl)
        (λ n h none. unshown m M'.at n (not_shown n h none) ∙ sym (unshown m M.at n (not_shown n h none)))
        laid.mapped;
  }

pub lifting : Lifting
lifting e m M o x M' laid p = taken_laid e m m M o laid x M' (step e m M o laid x M' p) 1 p.taken
