-- What a draft says and what is put into it, from the lists of its edits.
use Rattle.std.proofs.Common.{◌≡◌, ◌≢◌, ◌<◌, ◌≤◌, ◌+◌, ◌-◌, ◌==◌, cond, ℕ, suc, Bool, true, false, List, [], ◌∷◌, ◌++◌, length, take, drop}
use Rattle.std.proofs.Common.{set, get_or, Option, Some, None, refl, sym, ◌∙◌, ap, arith}
use Rattle.std.proofs.Math.Path.{fun_ext}
use Rattle.std.proofs.lemmas.List.{drop_more, take-append-drop, set_split}
use Rattle.lfs_model.specs.Stands.{LogMap}
use Rattle.lfs_model.specs.Entry as entry
use Rattle.lfs_cleaner.specs.log.memory.declared.batch.BlockEdit.{BlockEdit}
use Rattle.lfs_cleaner.specs.log.memory.declared.batch.HeaderEdit.{HeaderEdit}
use Rattle.lfs_cleaner.specs.log.memory.declared.changes.Changes.{Changes}
use Rattle.lfs_cleaner.specs.log.memory.Applying.{after_header, after_headers, after_block, after_blocks}
use Rattle.lfs_cleaner.specs.log.memory.Batch.{lost, staged}
use Rattle.lfs_cleaner.specs.log.memory.Changing.{with_header}
use Rattle.lfs_cleaner.specs.log.memory.Present.{as_header}
use Rattle.lfs_cleaner.proofs.of_log.of_memory.LogMaps.{is_with_header, equal_is}
use Rattle.lfs_store.specs.Drafting.{NoHeader, LastHeader, DraftsHeader}

-- ---- headers of log maps
abbrev under : LogMap → (ℕ → Option entry.Header) → LogMap
under m f = record { header = f; block = m.block; version = m.version }

same_headers : (m : LogMap) {f g : ℕ → Option entry.Header} → ((k : ℕ) → f k ≡ g k) → under m f ≡ under m g
same_headers m same = rw (fun_ext same)

-- the second header is the one that stays
header_over : (m : LogMap) (n : ℕ) (h h' : Option entry.Header) → with_header (with_header m n h) n h' ≡ with_header m n h'
header_over m n h h' = same_headers m (λ k. over (k == n) (m.header k))
  where
    over : (b : Bool) (x : Option entry.Header) → cond b h' (cond b h x) ≡ cond b h' x
    over true x = refl
    over false x = refl

-- headers of two files
headers_apart : (m : LogMap) (n n' : ℕ) (h h' : Option entry.Header) → n' ≢ n
    → with_header (with_header m n h) n' h' ≡ with_header (with_header m n' h') n h
headers_apart m n n' h h' ne = same_headers m
    (λ k. apart (k == n) (k == n') (m.header k) (λ a b. let x = equal_is k n a in let y = equal_is k n' b in ne (sym y ∙ x)))
  where
    apart : (b b' : Bool) (x : Option entry.Header) → (b ≡ true → b' ≡ true → ⊥) → cond b' h' (cond b h x) ≡ cond b h (cond b' h' x)
    apart true true x never = absurd (never refl refl)
    apart true false x never = refl
    apart false true x never = refl
    apart false false x never = refl

own_header : (m : LogMap) (n : ℕ) (h : Option entry.Header) → (with_header m n h).header n ≡ h
own_header m n h = (is_with_header m n {h = h}).own

other_header : (m : LogMap) (n k : ℕ) (h : Option entry.Header) → k ≢ n → (with_header m n h).header k ≡ m.header k
other_header m n k h ne = (is_with_header m n {h = h}).others k ne

-- ---- lists of headers
pub after_more : (es fs : List HeaderEdit) (m : LogMap) → after_headers (es ++ fs) m ≡ after_headers fs (after_headers es m)
after_more [] fs m = refl
after_more (e ∷ es) fs m = after_more es fs (after_header e m)

-- a header of none of these files may come before or behind them
header_through : (es : List HeaderEdit) (m : LogMap) (n : ℕ) (h : Option entry.Header) → NoHeader n es
    → after_headers es (with_header m n h) ≡ with_header (after_headers es m) n h
header_through [] m n h none = refl
header_through (e ∷ es) m n h none =
    ap (after_headers es) (headers_apart _ _ _ _ _ none.0)
    ∙ header_through es (after_header e m) n h none.1

header_stays : (es : List HeaderEdit) (m : LogMap) (n : ℕ) → NoHeader n es → (after_headers es m).header n ≡ m.header n
header_stays [] m n none = refl
header_stays (e ∷ es) m n none = header_stays es (after_header e m) n none.1
    ∙ other_header m _ _ _ (λ is. none.0 (sym is))

-- ---- blocks leave headers
blocks_headers : (bs : List BlockEdit) (m : LogMap) (n : ℕ) (h : Option entry.Header)
    → after_blocks bs (with_header m n h) ≡ with_header (after_blocks bs m) n h
blocks_headers [] m n h = refl
blocks_headers (e ∷ bs) m n h = blocks_headers bs (after_block e m) n h

pub header_kept : (bs : List BlockEdit) (m : LogMap) (n : ℕ) → (after_blocks bs m).header n ≡ m.header n
header_kept [] m n = refl
header_kept (e ∷ bs) m n = header_kept bs (after_block e m) n

-- ---- the last edit of a header
module _ {es : List HeaderEdit} {n p : ℕ} (is : LastHeader es n p) where
  abbrev before : LogMap → LogMap
  before m = after_headers (take p es) m

  abbrev behind : LogMap → LogMap
  behind m = after_headers (drop (p + 1) es) m

  pub split : es ≡ take p es ++ is.edit ∷ drop (p + 1) es
  split = cc (take-append-drop p es, is.there)

  -- the list with this edit at its place
  with_edit : (e : HeaderEdit) (m : LogMap) → e.number ≡ n
      → after_headers (take p es ++ e ∷ drop (p + 1) es) m ≡ with_header (behind (before m)) n (Some (as_header e.header))
  with_edit e m own =
      cc (
        after_more (take p es) (e ∷ drop (p + 1) es) m,
        own,
        header_through (drop (p + 1) es) (before m) n (Some (as_header e.header))
            is.last,
      )

  pub last_says : (m : LogMap) → (after_headers es m).header n ≡ Some (as_header is.edit.header)
  last_says m =
      ap (λ (fs : List HeaderEdit). (after_headers fs m).header n) split
      ∙ ap (λ (w : LogMap). w.header n) (with_edit _ _ is.number)
      ∙ own_header (behind (before m)) n _

  pub edit_replaced : (e : HeaderEdit) (m : LogMap) → e.number ≡ n
      → after_headers (set es p e) m ≡ with_header (after_headers es m) n (Some (as_header e.header))
  edit_replaced e m own =
      let next : suc p ≡ p + 1 = omega arith in
      ap (λ (fs : List HeaderEdit). after_headers fs m) (set_split es p e is.inside ∙ ap (λ (k : ℕ). take p es ++ e ∷ drop k es) next)
      ∙ with_edit _ _ own
      ∙ sym (header_over _ _ _ _)
      ∙ ap (λ (w : LogMap). with_header w n (Some (as_header e.header)))
      (sym (with_edit _ _ is.number) ∙ ap (λ (fs : List HeaderEdit). after_headers fs m) (sym split))

  edit_there : (e : HeaderEdit) → get_or es p e ≡ e → is.edit ≡ e
  edit_there e own = ap (λ (fs : List HeaderEdit). get_or fs 0 e) (sym is.there ∙ drop_more es p e is.inside) ∙ own

-- ---- the search for it, from the end on
header_found : (es : List HeaderEdit) (n : ℕ) {p : ℕ} (e : HeaderEdit) → p < length es → NoHeader n (drop (p + 1) es) → get_or es p e ≡ e
    → e.number ≡ n → LastHeader es n p
header_found es n {p} e inside none own is = record {
  edit = e;
  number = is;
  inside = inside;
  there = cc (drop_more es p e inside);
  last = none;
}

pub found_header : {es : List HeaderEdit} {n : ℕ} (p : ℕ) {e : HeaderEdit} → 0 < p → p ≤ length es → NoHeader n (drop p es)
    → e ≡ get_or es (p - 1) e → (get_or es (p - 1) e).number ≡ n → LastHeader es n (p - 1)
found_header {es} {n} p {e} some le none own is =
    let step : p ≡ p - 1 + 1 = omega arith in
    header_found _ _ _ (omega arith) (rw (← step) none) (sym own) (cc)

-- ---- what a draft says
pub says_header : (c : Changes) {n p : ℕ} {e : HeaderEdit} → LastHeader c.headers.items n p → e ≡ get_or c.headers.items p e
    → DraftsHeader c n (Some e.header)
says_header c {n} {p} {e} is own m =
    header_kept c.blocks.items (after_headers c.headers.items (lost c.loss m)) n ∙ last_says is (lost c.loss m)
    ∙ ap (λ (f : HeaderEdit). Some (as_header f.header)) (edit_there is e (sym own))

pub says_no_header : (c : Changes) (n : ℕ) → NoHeader n c.headers.items → DraftsHeader c n None
says_no_header c n none = (
  none,
  λ m. header_kept c.blocks.items (after_headers c.headers.items (lost c.loss m)) n
      ∙ header_stays _ (lost c.loss m) _ none,
)

-- ---- what is put into it
pub put_into : (old new : Changes) (n : ℕ) (h : entry.Header) → ((m : LogMap) → after_headers new.headers.items m
    ≡ with_header (after_headers old.headers.items m) n (Some h)) → new.blocks ≡ old.blocks → new.loss ≡ old.loss
    → (m : LogMap) → staged new m ≡ with_header (staged old m) n (Some h)
put_into old new n h headers blocks loss m =
    cc (headers (lost old.loss m), blocks_headers old.blocks.items (after_headers old.headers.items (lost old.loss m)) _ _)
