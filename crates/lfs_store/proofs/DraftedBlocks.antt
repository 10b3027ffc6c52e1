-- What a draft says of blocks, from the list of its edits.
use Rattle.std.proofs.Common.{◌≡◌, ◌<◌, ◌≤◌, ◌+◌, ◌-◌, ◌==◌, ◌&&◌, cond, ℕ, suc, Bool, true, false, List, [], ◌∷◌, ◌++◌, length, take, drop}
use Rattle.std.proofs.Common.{set, get_or, refl, sym, ◌∙◌, ap, ap₂, arith}
use Rattle.std.proofs.Math.Path.{fun_ext}
use Rattle.std.proofs.lemmas.List.{drop_more, take-append-drop, set_split}
use Rattle.lfs_model.specs.Stands.{LogMap}
use Rattle.lfs_cleaner.specs.log.memory.declared.batch.BlockEdit.{BlockEdit}
use Rattle.lfs_cleaner.specs.log.memory.declared.batch.HeaderEdit.{HeaderEdit}
use Rattle.lfs_cleaner.specs.log.memory.declared.changes.Changes.{Changes}
use Rattle.lfs_cleaner.specs.log.memory.Applying.{after_headers, after_block, after_blocks}
use Rattle.lfs_cleaner.specs.log.memory.Batch.{lost, staged}
use Rattle.lfs_cleaner.specs.log.memory.Changing.{with_block, stored}
use Rattle.lfs_cleaner.proofs.of_log.of_memory.LogMaps.{is_with_block, both_yes, equal_is}
use Rattle.lfs_store.specs.Drafting.{IsBlock, NoBlock, LastBlock, DraftsBlock, LeavesBlock}

-- ---- blocks of log maps
abbrev under : LogMap → (ℕ → ℕ → List ℕ) → LogMap
under m f = record { header = m.header; block = f; version = m.version }

same_blocks : (m : LogMap) {f g : ℕ → ℕ → List ℕ} → ((k l : ℕ) → f k l ≡ g k l) → under m f ≡ under m g
same_blocks m same = rw (fun_ext (λ k. fun_ext (same k)))

-- the second bytes are those that stay
block_over : (m : LogMap) (n i : ℕ) (x y : List ℕ) → with_block (with_block m n i x) n i y ≡ with_block m n i y
block_over m n i x y = same_blocks m (λ k l. over ((k == n) && (l == i)) (m.block k l))
  where
    over : (b : Bool) (z : List ℕ) → cond b y (cond b x z) ≡ cond b y z
    over true z = refl
    over false z = refl

-- two blocks
blocks_apart : (m : LogMap) (n i n' i' : ℕ) (x y : List ℕ) → (n' ≡ n → i' ≡ i → ⊥)
    → with_block (with_block m n i x) n' i' y ≡ with_block (with_block m n' i' y) n i x
blocks_apart m n i n' i' x y ne = same_blocks m (λ k l. apart ((k == n) && (l == i)) ((k == n') && (l == i')) (m.block k l) (both k l))
  where
    both : (k l : ℕ) → ((k == n) && (l == i)) ≡ true → ((k == n') && (l == i')) ≡ true → ⊥
    both k l a b =
        let p = both_yes _ _ a in
        let q = both_yes _ _ b in
        ne (sym (equal_is k n' q.0) ∙ equal_is k n p.0) (sym (equal_is l i' q.1) ∙ equal_is l i p.1)

    apart : (b b' : Bool) (z : List ℕ) → (b ≡ true → b' ≡ true → ⊥) → cond b' y (cond b x z) ≡ cond b x (cond b' y z)
    apart true true z never = absurd (never refl refl)
    apart true false z never = refl
    apart false true z never = refl
    apart false false z never = refl

other_block : (m : LogMap) (n i k l : ℕ) (x : List ℕ) → (n ≡ k → i ≡ l → ⊥) → (with_block m n i x).block k l ≡ m.block k l
other_block m n i k l x ne = (is_with_block m n i x).others k l (λ e. let a : k ≡ n = cc in let b : l ≡ i = cc in ne (sym a) (sym b))

-- ---- lists of blocks
pub after_more : (es fs : List BlockEdit) (m : LogMap) → after_blocks (es ++ fs) m ≡ after_blocks fs (after_blocks es m)
after_more [] fs m = refl
after_more (e ∷ es) fs m = after_more es fs (after_block e m)

-- a block that is none of these may come before or behind them
block_through : (es : List BlockEdit) (m : LogMap) (n i : ℕ) (x : List ℕ) → NoBlock n i es
    → after_blocks es (with_block m n i x) ≡ with_block (after_blocks es m) n i x
block_through [] m n i x none = refl
block_through (e ∷ es) m n i x none =
    ap (after_blocks es) (blocks_apart m n i e.number e.index x (stored e.bytes) (λ a b. none.0 (a, b)))
    ∙ block_through es (after_block e m) n i x none.1

block_stays : (es : List BlockEdit) (m : LogMap) (n i : ℕ) → NoBlock n i es → (after_blocks es m).block n i ≡ m.block n i
block_stays [] m n i none = refl
block_stays (e ∷ es) m n i none = block_stays es (after_block e m) n i none.1
    ∙ other_block m _ _ _ _ _ (λ a b. none.0 (a, b))

-- ---- headers leave blocks
block_kept : (hs : List HeaderEdit) (m : LogMap) (n i : ℕ) → (after_headers hs m).block n i ≡ m.block n i
block_kept [] m n i = refl
block_kept (e ∷ hs) m n i = block_kept hs _ n i

-- ---- the last edit of a block
module _ (es : List BlockEdit) (n i p : ℕ) (is : LastBlock es n i p) where
  abbrev before : LogMap → LogMap
  before m = after_blocks (take p es) m

  abbrev behind : LogMap → LogMap
  behind m = after_blocks (drop (p + 1) es) m

  split : es ≡ take p es ++ is.edit ∷ drop (p + 1) es
  split = cc (take-append-drop p es, is.there)

  -- the list with this edit at its place
  with_edit : (e : BlockEdit) (m : LogMap) → IsBlock n i e
      → after_blocks (take p es ++ e ∷ drop (p + 1) es) m ≡ with_block (behind (before m)) n i (stored e.bytes)
  with_edit e m own =
      after_more (take p es) (e ∷ drop (p + 1) es) m
      ∙ ap₂ (λ (k l : ℕ). behind (with_block (before m) k l (stored e.bytes))) own.0 own.1
      ∙ block_through (drop (p + 1) es) (before m) n i (stored e.bytes) is.last

  last_says : (m : LogMap) → (after_blocks es m).block n i ≡ stored is.edit.bytes
  last_says m =
      ap (λ (fs : List BlockEdit). (after_blocks fs m).block n i) split
      ∙ ap (λ (w : LogMap). w.block n i) (with_edit _ _ is.block)
      ∙ (is_with_block (behind (before m)) n i _).own

  pub edit_replaced : (e : BlockEdit) (m : LogMap) → IsBlock n i e
      → after_blocks (set es p e) m ≡ with_block (after_blocks es m) n i (stored e.bytes)
  edit_replaced e m own =
      let next : suc p ≡ p + 1 = omega arith in
      ap (λ (fs : List BlockEdit). after_blocks fs m) (set_split es p e is.inside ∙ ap (λ (k : ℕ). take p es ++ e ∷ drop k es) next)
      ∙ with_edit _ _ own
      ∙ sym (block_over _ _ _ _ _)
      ∙ ap (λ (w : LogMap). with_block w n i (stored e.bytes))
      (sym (with_edit _ _ is.block) ∙ ap (λ (fs : List BlockEdit). after_blocks fs m) (sym split))

  edit_there : (e : BlockEdit) → get_or es p e ≡ e → is.edit ≡ e
  edit_there e own = ap (λ (fs : List BlockEdit). get_or fs 0 e) (sym is.there ∙ drop_more es p e is.inside) ∙ own

-- ---- the search for it, from the end on
pub found_block : {es : List BlockEdit} {n i : ℕ} (p : ℕ) {e : BlockEdit} → 0 < p → p ≤ length es → NoBlock n i (drop p es)
    → e ≡ get_or es (p - 1) e → IsBlock n i e → LastBlock es n i (p - 1)
found_block {es} {n} {i} p {e} some le none own is =
    let step : p ≡ p - 1 + 1 = omega arith in
    let inside : p - 1 < length es = omega arith in
    record {
      edit = e;
      block = is;
      inside = inside;
      there = cc (drop_more es (p - 1) e inside);
      last = rw (← step) none;
    }

-- ---- what a draft says
pub says_block : (c : Changes) {n i p : ℕ} {e : BlockEdit} → LastBlock c.blocks.items n i p → e ≡ get_or c.blocks.items p e
    → DraftsBlock c n i e.bytes
says_block c {n} {i} {p} {e} is own m =
    last_says c.blocks.items n i p is (after_headers c.headers.items (lost c.loss m))
    ∙ ap (λ (f : BlockEdit). stored f.bytes) (edit_there c.blocks.items n i p is _ (sym own))

pub says_no_block : (c : Changes) (n i : ℕ) → NoBlock n i c.blocks.items → LeavesBlock c n i
says_no_block c n i none = (
  none,
  λ m. block_stays _ _ _ _ none
      ∙ block_kept c.headers.items (lost c.loss m) n i,
)

-- ---- what is put into it
pub put_into : (old new : Changes) (n i : ℕ) (x : List ℕ) → ((m : LogMap) → after_blocks new.blocks.items m
    ≡ with_block (after_blocks old.blocks.items m) n i x) → new.headers ≡ old.headers → new.loss ≡ old.loss
    → (m : LogMap) → staged new m ≡ with_block (staged old m) n i x
put_into old new n i x blocks headers loss m =
    cc (blocks (after_headers old.headers.items (lost old.loss m)))
