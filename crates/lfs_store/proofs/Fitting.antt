-- What is put into a draft: the log map after it, and that a log map that may be changed by the draft may be changed so.
use Rattle.std.specs.List.{AllByRecursion}
use Rattle.std.proofs.Common.{◌≡◌, ◌≢◌, ⊎_elim, ◌+◌, ◌==◌, cond, ℕ, zero, suc, false, List, [], ◌∷◌, ◌++◌, take, drop, set, Some, refl, sym}
use Rattle.std.proofs.Common.{◌∙◌, ap, subst, length, arith}
use Rattle.std.proofs.lemmas.Bool.{cases_eq}
use Rattle.std.proofs.lemmas.List.{length-append, length-set, set_split}
use Rattle.lfs_model.specs.Encodes.{HasInode}
use Rattle.lfs_model.specs.Entry as entry
use Rattle.lfs_model.specs.Entry.{Data, Inode}
use Rattle.lfs_model.specs.Memory.{is_unlinked, is_nameless}
use Rattle.lfs_model.specs.Stands.{LogMap}
use Rattle.lfs_cleaner.specs.log.memory.declared.batch.BlockEdit.{BlockEdit}
use Rattle.lfs_cleaner.specs.log.memory.declared.batch.HeaderEdit.{HeaderEdit}
use Rattle.lfs_cleaner.specs.log.memory.declared.changes.Changes.{Changes}
use Rattle.lfs_cleaner.specs.log.memory.files.declared.header.Header.{Header}
use Rattle.lfs_cleaner.specs.log.memory.Applying.{FitsFile, AreHeadersFit, AreBlocksFit, after_header, after_headers, after_blocks}
use Rattle.lfs_cleaner.specs.log.memory.Batch as batch
use Rattle.lfs_cleaner.specs.log.memory.Batch.{lost, is_lost, staged, FitEdits, FitsBatch}
use Rattle.lfs_cleaner.specs.log.memory.Changing.{FitsHeader, stored, with_block, with_header}
use Rattle.lfs_cleaner.specs.log.memory.Present.{as_header}
use Rattle.lfs_cleaner.proofs.of_log.of_memory.LogMaps.{is_with_header}
use Rattle.lfs_store.specs.Drafting.{IsBlock, NoHeader, LastHeader, LastBlock, TakesHeader, TakesBlock, PutsHeader, PutsBlock}
use Rattle.lfs_store.proofs.DraftedBlocks as drafted
use Rattle.lfs_store.proofs.Drafts.{after_more, edit_replaced, header_kept, last_says, put_into, split}

-- ---- what holds of each edit holds of each after one more, or one in the place of another
all_set : {X : Type 0} (P : X → Type 0) (xs : List X) (p : ℕ) (x : X) → AllByRecursion P xs → P x → AllByRecursion P (set xs p x)
all_set P [] p x all own = tt
all_set P (y ∷ ys) zero x all own = (own, all.1)
all_set P (y ∷ ys) (suc p) x all own = (all.0, all_set P ys p x all.1 own)

all_more : {X : Type 0} (P : X → Type 0) (xs : List X) (x : X) → AllByRecursion P xs → P x → AllByRecursion P (xs ++ x ∷ [])
all_more P [] x all own = (own, tt)
all_more P (y ∷ ys) x all own = (all.0, all_more P ys x all.1 own)

-- ---- headers that fit
fits_same : (m : LogMap) {m' : LogMap} (e : HeaderEdit) → m'.header e.number ≡ m.header e.number → FitsFile m e → FitsFile m' e
fits_same m e same f = record { header = f.header; name = λ has. cc (f.name (has.0, sym same ∙ has.1), same) }

-- two log maps have the same headers, but for file n
abbrev AgreeBut : ℕ → LogMap → LogMap → Type 0
AgreeBut n m m' = (k : ℕ) → k ≢ n → m'.header k ≡ m.header k

fit_through : (es : List HeaderEdit) (m m' : LogMap) (n : ℕ) → NoHeader n es → AgreeBut n m m' → AreHeadersFit m es → AreHeadersFit m' es
fit_through [] m m' n none agree fit = tt
fit_through (e ∷ es) m m' n none agree fit = (
  fits_same _ _ (agree e.number none.0) fit.0,
  fit_through es (after_header e m) (after_header e m') n none.1
      (λ k ne. ap (cond (k == e.number) (Some (as_header e.header))) (agree k ne)) fit.1,
)

fit_split : (xs ys : List HeaderEdit) (m : LogMap) → AreHeadersFit m (xs ++ ys) → AreHeadersFit m xs × AreHeadersFit (after_headers xs m) ys
fit_split [] ys m fit = (tt, fit)
fit_split (e ∷ xs) ys m fit = let rest = fit_split xs ys (after_header e m) fit.1 in ((fit.0, rest.0), rest.1)

fit_join : (xs ys : List HeaderEdit) (m : LogMap) → AreHeadersFit m xs → AreHeadersFit (after_headers xs m) ys → AreHeadersFit m (xs ++ ys)
fit_join [] ys m first second = second
fit_join (e ∷ xs) ys m first second = (first.0, fit_join xs ys (after_header e m) first.1 second)

-- an edit's header may be a file's that has a name exactly where it had one after these edits
abbrev Renames : LogMap → HeaderEdit → Type 0
Renames m e = HasInode m e.number → (e.header.links == 0) ≡ is_nameless m e.number

fit_more : (es : List HeaderEdit) (e : HeaderEdit) (m : LogMap) → AreHeadersFit m es
    → FitsHeader e.header.kind e.header.form e.header.links e.header.size → Renames (after_headers es m) e → AreHeadersFit m (es ++ e ∷ [])
fit_more es e m fit header name = fit_join es (e ∷ []) m fit (record { header = header; name = name }, tt)

fit_set : {es : List HeaderEdit} (p : ℕ) (e : HeaderEdit) (m : LogMap) → LastHeader es e.number p → AreHeadersFit m es
    → FitsHeader e.header.kind e.header.form e.header.links e.header.size → Renames (after_headers es m) e
    → AreHeadersFit m (set es p e)
fit_set {es} p e m is fit header name =
    rw placed (fit_join (take p es) (e ∷ drop (p + 1) es) m parts.0 (record { header = header; name = own_name }, behind))
  where
    placed : set es p e ≡ take p es ++ e ∷ drop (p + 1) es
    placed = let next : suc p ≡ p + 1 = omega arith in set_split es p e is.inside ∙ ap (λ (k : ℕ). take p es ++ e ∷ drop k es) next

    before : LogMap
    before = after_headers (take p es) m

    parts : AreHeadersFit m (take p es) × AreHeadersFit (after_headers (take p es) m) (is.edit ∷ drop (p + 1) es)
    parts = fit_split _ _ _ (subst (AreHeadersFit m) (split is) fit)

    own_name : Renames (after_headers (take p es) m) e
    own_name has =
        let old = parts.1.0.name (has.0, ap (after_headers (take p es) m).header is.number ∙ has.1) in
        let says = last_says is m in
        name (as_header is.edit.header, says) ∙ ap is_unlinked says ∙ old
        ∙ ap (λ (k : ℕ). is_nameless (after_headers (take p es) m) k) is.number

    agree : AgreeBut e.number (after_header is.edit (after_headers (take p es) m)) (after_header e (after_headers (take p es) m))
    agree k ne =
        let w = after_headers (take p es) m in
        (is_with_header w _ {h = Some (as_header e.header)}).others k ne
        ∙ sym ((is_with_header w _ {h = Some (as_header is.edit.header)}).others k (λ same. ne (cc)))

    behind : AreHeadersFit (after_header e (after_headers (take p es) m)) (drop (p + 1) es)
    behind = fit_through _ _ _ _ is.last agree parts.1.1

-- ---- files that are there stay there
there_still : (m : LogMap) (n k : ℕ) (h : entry.Header) → HasInode m k → HasInode (with_header m n (Some h)) k
there_still m n k h has = ⊎_elim
    (λ (own : k ≡ n). (h, ap (λ (x : ℕ). (with_header m n (Some h)).header x) own ∙ (is_with_header m n {h = Some h}).own))
    (λ (ne : k ≡ n → ⊥). (has.0, (is_with_header m n {h = Some h}).others k ne ∙ has.1)) (cases_eq k n)

blocks_still : (bs : List BlockEdit) (m : LogMap) (n : ℕ) (h : entry.Header) → AreBlocksFit m bs
    → AreBlocksFit (with_header m n (Some h)) bs
blocks_still [] m n h fit = tt
blocks_still (e ∷ bs) m n h fit = (there_still m n e.number h fit.0, blocks_still bs m n h fit.1)

-- ---- a header is put into a draft
module _ (old new : Changes) (m : LogMap) (e : HeaderEdit) (loss : new.loss ≡ old.loss) (blocks : new.blocks ≡ old.blocks)
    (fit : FitsBatch m old) (takes : TakesHeader old m e.number e.header)
    (after : after_headers new.headers.items (lost old.loss m)
    ≡ with_header (after_headers old.headers.items (lost old.loss m)) e.number (Some (as_header e.header))) where
  before_blocks : (staged old m).header e.number ≡ (after_headers old.headers.items (lost old.loss m)).header e.number
  before_blocks = header_kept old.blocks.items (after_headers old.headers.items (lost old.loss m)) e.number

  renames : Renames (after_headers old.headers.items (lost old.loss m)) e
  renames has = cc (takes.name (has.0, before_blocks ∙ has.1), before_blocks)

  with_headers : AreHeadersFit (lost old.loss m) new.headers.items
      → AllByRecursion (λ (e : HeaderEdit). is_lost old.loss (Inode e.number) ≡ false) new.headers.items → FitsBatch m new
  with_headers headers apart =
      rw loss
      (rw (ap (λ v. v.items) blocks)
      (record {
        fits_loss = fit.fits_loss;
        headers_apart = apart;
        blocks_apart = fit.blocks_apart;
        fit_headers = headers;
        fit_blocks = rw after (blocks_still old.blocks.items
            (after_headers old.headers.items (lost old.loss m)) e.number (as_header e.header) fit.fit_blocks);
        within = fit.within;
      }))

  pub fits_set : (p : ℕ) → LastHeader old.headers.items e.number p → new.headers.items ≡ set old.headers.items p e → FitsBatch m new
  fits_set p is placed =
      with_headers (rw placed (fit_set p e (lost old.loss m) is fit.fit_headers takes.header renames))
      (rw placed (all_set _ old.headers.items p e fit.headers_apart takes.apart))

  pub fits_more : new.headers.items ≡ old.headers.items ++ e ∷ [] → FitsBatch m new
  fits_more placed =
      with_headers
      (rw placed (fit_more _ _ _ fit.fit_headers takes.header renames))
      (rw placed (all_more _ _ _ fit.headers_apart takes.apart))

-- ---- a block is
module _ (old new : Changes) (m : LogMap) (e : BlockEdit) (loss : new.loss ≡ old.loss) (headers : new.headers ≡ old.headers)
    (fit : FitsBatch m old) (takes : TakesBlock old m e.number e.index) where
  there : HasInode (after_headers old.headers.items (lost old.loss m)) e.number
  there = (takes.there.0, sym (header_kept old.blocks.items (after_headers old.headers.items (lost old.loss m)) e.number) ∙ takes.there.1)

  with_blocks : ((P : BlockEdit → Type 0) → AllByRecursion P old.blocks.items → P e → AllByRecursion P new.blocks.items) → FitsBatch m new
  with_blocks all =
      rw loss
      (rw (ap (λ v. v.items) headers)
      (record {
        fits_loss = fit.fits_loss;
        headers_apart = fit.headers_apart;
        blocks_apart = all _ fit.blocks_apart takes.apart;
        fit_headers = fit.fit_headers;
        fit_blocks = all _ fit.fit_blocks there;
        within = all _ fit.within takes.within;
      }))

  pub fits_block_set : (p : ℕ) → new.blocks.items ≡ set old.blocks.items p e → FitsBatch m new
  fits_block_set p placed = with_blocks (λ P all own. rw placed (all_set _ _ _ _ all own))

  pub fits_block_more : new.blocks.items ≡ old.blocks.items ++ e ∷ [] → FitsBatch m new
  fits_block_more placed = with_blocks (λ P all own. rw placed (all_more _ _ _ all own))

-- ---- the whole of it, where an edit takes the place of another, or comes behind the others
module _ (old new : Changes) (e : HeaderEdit) (loss : new.loss ≡ old.loss) (blocks : new.blocks ≡ old.blocks) where
  abbrev Follows : Type 0
  Follows = (m : LogMap)
      → after_headers new.headers.items m ≡ with_header (after_headers old.headers.items m) e.number (Some (as_header e.header))

  put_set : (p : ℕ) → LastHeader old.headers.items e.number p → new.headers.items ≡ set old.headers.items p e
      → PutsHeader old new e.number e.header
  put_set p is placed = record {
    map = put_into old new e.number (as_header e.header) follows blocks loss;
    fits = λ m fit takes. fits_set old new m e loss blocks fit takes (follows (lost old.loss m)) p is placed;
    few = omega (arith, ap length placed ∙ length-set old.headers.items p e);
    blocks = blocks;
    loss = loss;
  }
    where
      follows : Follows
      follows m = cc (placed, edit_replaced is e m refl)

  put_more : new.headers.items ≡ old.headers.items ++ e ∷ [] → PutsHeader old new e.number e.header
  put_more placed = record {
    map = put_into old new e.number (as_header e.header) follows blocks loss;
    fits = λ m fit takes. fits_more old new m e loss blocks fit takes (follows (lost old.loss m)) placed;
    few = omega (arith, ap length placed ∙ length-append old.headers.items (e ∷ []));
    blocks = blocks;
    loss = loss;
  }
    where
      follows : Follows
      follows m = cc (placed, after_more old.headers.items (e ∷ []) m)

pub header_replaced : {old : Changes} (new : Changes) {n p : ℕ} (e : HeaderEdit) → LastHeader old.headers.items n p → e.number ≡ n
    → new.headers.items ≡ set old.headers.items p e → new.blocks ≡ old.blocks → new.loss ≡ old.loss
    → PutsHeader old new n e.header
header_replaced {old} new {p} e is own placed blocks loss =
    rw (← own) (put_set old new e loss blocks p (rw own is) placed)

pub header_appended : {old new : Changes} (n : ℕ) (h : Header) → batch.AddsHeaderEdit old new n h → new.blocks ≡ old.blocks
    → new.loss ≡ old.loss → PutsHeader old new n h
header_appended n h put blocks loss =
    rw (← put.says, ← put.number) (put_more _ _ _ loss blocks put.headers)

module _ (old new : Changes) (e : BlockEdit) (loss : new.loss ≡ old.loss) (headers : new.headers ≡ old.headers) where
  abbrev FollowsBlock : Type 0
  FollowsBlock = (m : LogMap)
      → after_blocks new.blocks.items m ≡ with_block (after_blocks old.blocks.items m) e.number e.index (stored e.bytes)

  put_block_set : (p : ℕ) → LastBlock old.blocks.items e.number e.index p → new.blocks.items ≡ set old.blocks.items p e
      → PutsBlock old new e.number e.index e.bytes
  put_block_set p is placed = record {
    map = drafted.put_into old new e.number e.index (stored e.bytes) follows headers loss;
    fits = λ m fit takes. fits_block_set old new _ _ loss headers fit takes _ placed;
    few = omega (arith, ap length placed ∙ length-set old.blocks.items p e);
    headers = headers;
    loss = loss;
  }
    where
      follows : FollowsBlock
      follows m = cc (placed, drafted.edit_replaced old.blocks.items e.number e.index p is e m (refl, refl))

  put_block_more : new.blocks.items ≡ old.blocks.items ++ e ∷ [] → PutsBlock old new e.number e.index e.bytes
  put_block_more placed = record {
    map = drafted.put_into old new e.number e.index (stored e.bytes) follows headers loss;
    fits = λ m fit takes. fits_block_more old new _ _ loss headers fit takes placed;
    few = omega (arith, ap length placed ∙ length-append old.blocks.items (e ∷ []));
    headers = headers;
    loss = loss;
  }
    where
      follows : FollowsBlock
      follows m = cc (placed, drafted.after_more old.blocks.items (e ∷ []) m)

pub block_replaced : {old : Changes} {new : Changes} {n i p : ℕ} (e : BlockEdit) → LastBlock old.blocks.items n i p → IsBlock n i e
    → new.blocks.items ≡ set old.blocks.items p e → new.headers ≡ old.headers → new.loss ≡ old.loss
    → PutsBlock old new n i e.bytes
block_replaced {old} {n} {i} {p} e is own placed headers loss =
    rw (← own.1, ← own.0) (put_block_set _ _ _ loss headers _ (rw (own.1, own.0) is) placed)

pub block_appended : {old new : Changes} (n i : ℕ) {bytes : List ℕ} → batch.AddsBlockEdit old new n i bytes → new.headers ≡ old.headers
    → new.loss ≡ old.loss → PutsBlock old new n i bytes
block_appended n i put headers loss =
    rw (← put.says, ← put.index, ← put.number) (put_block_more _ _ _ loss headers put.blocks)
