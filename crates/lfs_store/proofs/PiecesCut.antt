-- Bytes cut off a file: its blocks from one on, and the tail of the last one that stays.
use Rattle.std.proofs.Common.{◌≡◌, ⊎_elim, ◌==◌, ◌&&◌, nat_le, cond, ℕ, ◌/◌, ◌<◌, ◌≤◌, Bool, List, [], length, refl, sym, ap, subst, ◌∙◌}
use Rattle.std.proofs.Common.{arith, slice_index, eqb-true, eq-eqb}
use Rattle.std.proofs.lemmas.Bool.{cases_lt, cond-false, and_parts, false_from_ne_true, leb-true, le-leb}
use Rattle.lfs_model.specs.Objects.{AreStoredWhole}
use Rattle.lfs_model.specs.Stands.{LogMap}
use Rattle.lfs_model.proofs.ObjectMaps.{block_whole}
use Rattle.lfs_cleaner.specs.log.memory.Changing.{stored}
use Rattle.lfs_store.specs.Pieces.{CutBegins, CutHeads, CutBlocksHeads, CutBetween, CutInside, CutNone, CutIsDone}
use Rattle.lfs_store.proofs.PiecesStored.{header_apart, stored_reads, stored_whole, other_block, block_apart, changed_twice, same_whole}

-- A file whose blocks are each the same or none is whole.
fewer_whole : (m : LogMap) {m' : LogMap} (n first : ℕ) → ((i : ℕ) → i < first → m'.block n i ≡ m.block n i)
    → ((i : ℕ) → first ≤ i → m'.block n i ≡ [])
    → AreStoredWhole m n → AreStoredWhole m' n
fewer_whole m {m'} n first below gone was = record {
  long = λ i has. cc (same i has, was.long i (rw (← (same i has)) has));
  nonzero = λ i has.
      let one = was.nonzero i (rw (← (same i has)) has) in
      (one.0, subst (λ (b : List ℕ). 0 < slice_index b one.0) (sym (same i has)) one.1);
}
  where
    same : (i : ℕ) → 0 < length (m'.block n i) → m'.block n i ≡ m.block n i
    same i has = ⊎_elim
        (λ (low : i < first). below i low)
        (λ (high : first ≤ i). let none : length (m'.block n i) ≡ 0 = cc (gone i high) in absurd (omega arith)) (cases_lt i first)

pub cut_begins : CutBegins
cut_begins m n first = record {
  below = below;
  gone = gone;
  only = record {
    headers = λ k ne. refl;
    blocks = λ k i ne. cond-false (k == n && nat_le first i) [] (m.block k i)
        (false_from_ne_true _ (λ on. ne (eqb-true k n (and_parts (k == n) (nat_le first i) on).0)));
    version = refl;
  };
  whole = fewer_whole _ _ _ below gone;
}
  where
    below : (i : ℕ) → i < first → cond (n == n && nat_le first i) [] (m.block n i) ≡ m.block n i
    below i lt = cond-false (n == n && nat_le first i) [] (m.block n i)
        (false_from_ne_true _ (λ on. let le = leb-true first i (and_parts (n == n) (nat_le first i) on).1 in absurd (omega arith)))

    gone : (i : ℕ) → first ≤ i → cond (n == n && nat_le first i) [] (m.block n i) ≡ []
    gone i le = ap (λ (b : Bool). cond (b && nat_le first i) [] (m.block n i)) (eq-eqb n n refl)
        ∙ ap (λ (b : Bool). cond b [] (m.block n i)) (le-leb first i le)

pub cut_heads : CutHeads
cut_heads m m' m'' n first h far with_it = record {
  below = λ i lt. with_it.block n i ∙ far.below i lt;
  gone = λ i le. with_it.block n i ∙ far.gone i le;
  only = changed_twice far.only (header_apart with_it);
  whole = λ was. same_whole (with_it.block n) (far.whole was);
}

pub cut_blocks_heads : CutBlocksHeads
cut_blocks_heads m m' m'' n len h is with_it = record {
  below = λ i le. with_it.block n i ∙ is.below i le;
  last = λ k lt. cc (with_it.block n (len / 512), is.last k lt);
  zeros = λ k le. cc (with_it.block n (len / 512), is.zeros k le);
  gone = λ i le. with_it.block n i ∙ is.gone i le;
  only = changed_twice is.only (header_apart with_it);
  whole = λ was. same_whole (with_it.block n) (is.whole was);
}

pub cut_between : CutBetween
cut_between m m' n len even far = record {
  below = λ i le. far.below i (omega arith);
  last = λ k lt. absurd (omega arith);
  zeros = λ k le. cc (far.gone (len / 512) (omega arith));
  gone = λ i le. far.gone i (omega arith);
  only = far.only;
  whole = far.whole;
}

pub cut_none : CutNone
cut_none m m' n len odd far none = record {
  below = λ i le. far.below i (omega arith);
  last = λ k lt. cc (far.below (len / 512) (omega arith));
  zeros = λ k le. cc;
  gone = λ i le. far.gone i (omega arith);
  only = far.only;
  whole = far.whole;
}

pub cut_inside : CutInside
cut_inside m m' m'' n len old new odd far holds cuts long with_it = record {
  below = λ i le. other i (λ is. absurd (omega arith)) ∙ far.below i (omega arith);
  last = λ k lt. cc (own k, cuts.before k lt, holds.bytes k, far.below (len / 512) (omega arith));
  zeros = λ k le. own k ∙ cuts.zeros k le;
  gone = λ i le. other i (λ is. absurd (omega arith)) ∙ far.gone i (omega arith);
  only = changed_twice far.only (block_apart with_it);
  whole = λ was. block_whole m' m'' n (len / 512) (stored new) with_it (far.whole was) (stored_whole _ long);
}
  where
    other : (i : ℕ) → (i ≡ len / 512 → ⊥) → m''.block n i ≡ m'.block n i
    other = other_block with_it

    own : (k : ℕ) → slice_index (m''.block n (len / 512)) k ≡ slice_index new k
    own k = cc (with_it.own, stored_reads _ _)

pub cut_is_done : CutIsDone
cut_is_done m m' n len h h' is size = record { size = size; whole = is.below; last = is.last; zeros = is.zeros; gone = is.gone }
