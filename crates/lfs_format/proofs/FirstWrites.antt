-- What the calls that make an empty volume do to its content.
use Rattle.std.proofs.Common.{◌≡◌, ◌≢◌, inl, inr, ⊎_elim, ℕ, zero, suc, ◌+◌, ◌*◌, ◌<◌, ◌≤◌, List, length, Some, None, refl, sym, ◌∙◌}
use Rattle.std.proofs.Common.{ap, subst, arith, length-set}
use Rattle.std.proofs.Common.{get_or-set_other, get_or-set_same}
use Rattle.std.proofs.lemmas.Bool.{cases_eq, cases_lt}
use Rattle.std.specs.Prelude.{slice_set}
use Rattle.lfs_model.specs.Checkpoint.{usage_blocks}
use Rattle.lfs_model.specs.Content.{Content}
use Rattle.lfs_model.specs.Device.{AreSectors, Cell, cell_at, put, MayWrite, MayWriteUnit, left_old, left_new, left_bad, DeviceState}
use Rattle.lfs_model.specs.Device.{IsLawful, Carries, LeavesOnly}
use Rattle.lfs_model.specs.Device.{ComesFrom}
use Rattle.lfs_model.specs.Image.{blank, first_names, first_pointers, first_uses, root_inode}
use Rattle.lfs_model.specs.Inode.{inode_sector}
use Rattle.lfs_model.specs.Pointers.{pointer_sector}
use Rattle.lfs_model.specs.Summary.{summary_sector}
use Rattle.lfs_model.specs.Usage.{usage_sector}
use Rattle.lfs_model.proofs.Image.{unused_spelled}
use Rattle.lfs_model.proofs.Moments.{Survives, weaker}
use Rattle.lfs_model.proofs.UnitWrites.{to_sector}
use Rattle.lfs_places.specs.Places.{place_of, volume_size}
use Rattle.lfs_format.specs.Making.{AreClear, HasChunk, IsCleared, IsOfChunk, MayClear, left_as_was, left_clear, left_unreadable}
use Rattle.lfs_format.specs.Making.{MayClearSlots, SameBut, places_by}
use Rattle.lfs_format.proofs.FirstPlaces.{apart_cleared, chunk_inside, first_cleared, second_cleared, two_places}

-- ---- sectors that may change

pub same_none : (Other : ℕ → Type 0) (c : Content) → SameBut Other c c
same_none Other c = record { size = refl; others = λ k not. refl }

set_same : (Other : ℕ → Type 0) (s : ℕ) → Other s → (d c : Content) (x : Cell) → SameBut Other d c → SameBut Other d (slice_set c s x)
set_same Other s is d c x same = record {
  size = length-set c s x ∙ same.size;
  others = λ k not. get_or-set_other c s k x None (λ e. not (subst Other (sym e) is)) ∙ same.others k not;
}

pub write_same : (Other : ℕ → Type 0) (s : ℕ) (bytes : List ℕ) → Other s → (d c e : Content) → SameBut Other d c → MayWrite s bytes c e
    → SameBut Other d e
write_same Other s bytes is d c e same (left_old at) = subst (SameBut Other d) (sym at) same
write_same Other s bytes is d c e same (left_new at) = subst (SameBut Other d) (sym at) (set_same Other s is d c (Some bytes) same)
write_same Other s bytes is d c e same (left_bad at) = subst (SameBut Other d) (sym at) (set_same Other s is d c None same)

-- ---- the sectors that are cleared

pub slots_none : (c : Content) → MayClearSlots c c
slots_none c = record { others = same_none IsCleared c; slots = λ k is. left_as_was refl; in_order = inl (refl, refl) }

-- the second slot by the new places is clear
pub record Begun (old new : Content) : Type 0 where
  pub may : MayClearSlots old new
  pub clear : cell_at new 128 ≡ Some (blank 512)

-- one of them more
slot_may : (d c : Content) (s : ℕ) (x : Cell) → s < length c → ((k : ℕ) → IsCleared k → MayClear (cell_at d k) (cell_at c k))
    → ((old : Cell) → MayClear old x) → (k : ℕ) → IsCleared k → MayClear (cell_at d k) (cell_at (slice_set c s x) k)
slot_may d c s x inside may gives k is = ⊎_elim
    (λ same. subst (MayClear (cell_at d k)) (sym (ap (λ q. cell_at (slice_set c s x) q) same
    ∙ get_or-set_same c s x None inside)) (gives (cell_at d k)))
    (λ other. subst (MayClear (cell_at d k)) (sym (get_or-set_other c s k x None other)) (may k is))
    (cases_eq k s)

slot_set : (d c : Content) (s : ℕ) (x : Cell) → IsCleared s → s < 2 → s < length c → Begun d c → ((old : Cell) → MayClear old x)
    → Begun d (slice_set c s x)
slot_set d c s x is low inside begun gives = record {
  may = record {
    others = set_same IsCleared s is d c x begun.may.others;
    slots = slot_may d c s x inside begun.may.slots gives;
    in_order = inr clear;
  };
  clear = clear;
}
  where
    clear : cell_at (slice_set c s x) 128 ≡ Some (blank 512)
    clear = get_or-set_other c s 128 x None (λ e. omega (arith, e, low)) ∙ begun.clear

pub slots_written : (s : ℕ) → IsCleared s → s < 2 → (d c e : Content) → 2 ≤ length d → Begun d c → MayWrite s (blank 512) c e → Begun d e
slots_written s is low d c e long begun write = go write
  where
    inside : s < length c
    inside = let size = begun.may.others.size in omega (arith, size, long, low)

    go : MayWrite s (blank 512) c e → Begun d e
    go (left_old at) = subst (Begun d) (sym at) begun
    go (left_new at) = subst (Begun d) (sym at) (slot_set d c s (Some (blank 512)) is low inside begun (λ old. left_clear refl))
    go (left_bad at) = subst (Begun d) (sym at) (slot_set d c s None is low inside begun (λ old. left_unreadable refl))

-- the first write
pub apart_set : (d : Content) (x : Cell) → 128 < length d → ((old : Cell) → MayClear old x) → MayClearSlots d (slice_set d 128 x)
apart_set d x long gives = record {
  others = set_same IsCleared 128 apart_cleared d d x (same_none IsCleared d);
  slots = slot_may d d 128 x long (λ k is. left_as_was refl) gives;
  in_order = inl (get_or-set_other d 128 0 x None (λ e. omega (arith, e)), get_or-set_other d 128 1 x None (λ e. omega (arith, e)));
}

apart_written : (d e : Content) → 128 < length d → MayWrite 128 (blank 512) d e → MayClearSlots d e
apart_written d e long (left_old at) = subst (MayClearSlots d) (sym at) (slots_none d)
apart_written d e long (left_new at) = subst (MayClearSlots d) (sym at) (apart_set d (Some (blank 512)) long (λ old. left_clear refl))
apart_written d e long (left_bad at) = subst (MayClearSlots d) (sym at) (apart_set d None long (λ old. left_unreadable refl))

-- units are sectors after calls too
pub sectors_after : {old new : DeviceState} → AreSectors old.unit → Carries old new → AreSectors new.unit
sectors_after sectors carries = subst AreSectors (sym carries.unit) sectors

-- a write to a sector where units are sectors
pub by_sectors : {old new : DeviceState} {s : ℕ} {bytes : List ℕ} → AreSectors old.unit
    → LeavesOnly old new (ComesFrom old (MayWriteUnit old.unit s bytes)) → LeavesOnly old new (ComesFrom old (MayWrite s bytes))
by_sectors {old} {s} {bytes} sectors leaves =
    weaker _ _ (λ x from. (from.0, from.1, to_sector old.unit s (λ k e. sectors k s e) bytes from.0 x from.2)) leaves

pub apart_leaves : {old new : DeviceState} → IsLawful old → 128 < old.size → AreSectors old.unit
    → LeavesOnly old new (ComesFrom old (MayWriteUnit old.unit 128 (blank 512))) → LeavesOnly old new (ComesFrom old MayClearSlots)
apart_leaves {old} lawful room sectors leaves =
    weaker _ _ (λ x from.
    let long : 128 < length from.0 = let size = lawful.sizes from.0 from.1 in omega (arith, room, size) in
    (from.0, from.1, apart_written from.0 x long from.2)) (by_sectors sectors leaves)

-- what they leave in the end
pub all_cleared : (a b c d : Content) → 128 < length a → b ≡ put a 128 (blank 512) → c ≡ put b 0 (blank 512) → d ≡ put c 1 (blank 512)
    → AreClear d × SameBut IsCleared a d
all_cleared a b c d long one two three = (record { each = each }, same)
  where
    x : Cell
    x = Some (blank 512)

    same_b : SameBut IsCleared a b
    same_b = write_same IsCleared 128 (blank 512) apart_cleared a a b (same_none IsCleared a) (left_new one)

    same_c : SameBut IsCleared a c
    same_c = write_same IsCleared 0 (blank 512) first_cleared a b c same_b (left_new two)

    same : SameBut IsCleared a d
    same = write_same IsCleared 1 (blank 512) second_cleared a c d same_c (left_new three)

    other : (e f : Content) (s k : ℕ) → f ≡ put e s (blank 512) → k ≢ s → cell_at e k ≡ Some (blank 512) → cell_at f k ≡ Some (blank 512)
    other e f s k is ne was = ap (λ y. cell_at y k) is ∙ get_or-set_other e s k x None ne ∙ was

    here : (e f : Content) (s : ℕ) → f ≡ put e s (blank 512) → s < length e → cell_at f s ≡ Some (blank 512)
    here e f s is inside = ap (λ y. cell_at y s) is ∙ get_or-set_same e s x None inside

    each : (k : ℕ) → IsCleared k → cell_at d k ≡ Some (blank 512)
    each k (inl is) = ap (λ q. cell_at d q) is ∙ other c d 1 0 three (λ e. omega (arith, e))
        (here b c 0 two (let size = same_b.size in omega (arith, size, long)))
    each k (inr (inl is)) = ap (λ q. cell_at d q) is ∙ here c d 1 three (let size = same_c.size in omega (arith, size, long))
    each k (inr (inr is)) = ap (λ q. cell_at d q) is ∙ other c d 1 128 three (λ e. omega (arith, e))
        (other b c 0 128 two (λ e. omega (arith, e)) (here a b 128 one long))

-- ---- the first chunk

here : (c e : Content) (s : ℕ) (b : List ℕ) → e ≡ put c s b → s < length c → cell_at e s ≡ Some b
here c e s b is low = ap (λ x. cell_at x s) is ∙ get_or-set_same c s (Some b) None low

there : (c : Content) {e : Content} (s : ℕ) (b : List ℕ) → e ≡ put c s b → (k : ℕ) → k ≢ s → cell_at e k ≡ cell_at c k
there c s b is k other = ap (λ x. cell_at x k) is ∙ get_or-set_other c s k (Some b) None other

-- a later usage block is zeros
later_uses : (N p n : ℕ) → 1 ≤ n → blank 512 ≡ usage_sector (first_uses N p n)
later_uses N p zero some = absurd (omega arith)
later_uses N p (suc n) some = sym (unused_spelled N p n)

module _ (version N p : ℕ) (some : 64 ≤ N) (most : N ≤ 1024) where
  abbrev at : ℕ → ℕ
  at j = place_of (places_by version) j

  of_chunk : (j : ℕ) → 2 ≤ j → j < 5 + usage_blocks N → IsOfChunk version N (at j)
  of_chunk j past low = (j, past, low, refl)

  -- so far as its first usage block
  pub first_blocks : (c0 c1 c2 c3 c4 : Content) → 2 + 64 * N ≤ volume_size (places_by version) (length c0)
      → c1 ≡ put c0 (at 2) (summary_sector (first_names N p)) → c2 ≡ put c1 (at 3) (inode_sector (root_inode version))
      → c3 ≡ put c2 (at 4) (pointer_sector first_pointers) → c4 ≡ put c3 (at 5) (usage_sector (first_uses N p 0))
      → HasChunk version N p 1 c0 c4
  first_blocks c0 c1 c2 c3 c4 room one two three four = record {
    others = same_4;
    summary = other c3 c4 5 2 _ four (λ e. omega (arith, e)) ∙ other c2 c3 4 2 _ three (λ e. omega (arith, e))
        ∙ other c1 c2 3 2 _ two (λ e. omega (arith, e)) ∙ here c0 c1 (at 2) _ one (inside c0 refl 2 (omega arith));
    inode = other c3 c4 5 3 _ four (λ e. omega (arith, e)) ∙ other c2 c3 4 3 _ three (λ e. omega (arith, e))
        ∙ here c1 c2 (at 3) _ two (inside c1 same_1.size 3 (omega arith));
    pointers = other c3 c4 5 4 _ four (λ e. omega (arith, e)) ∙ here c2 c3 (at 4) _ three (inside c2 same_2.size 4 (omega arith));
    uses = uses;
  }
    where
      step : (c e : Content) (j : ℕ) (b : List ℕ) → 2 ≤ j → j < 5 + usage_blocks N → e ≡ put c (at j) b → SameBut (IsOfChunk version N) c0 c
          → SameBut (IsOfChunk version N) c0 e
      step c e j b past low is same = write_same (IsOfChunk version N) (at j) b (of_chunk j past low) c0 c e same (left_new is)

      same_1 : SameBut (IsOfChunk version N) c0 c1
      same_1 = step c0 c1 2 _ (omega arith) (omega arith) one (same_none (IsOfChunk version N) c0)

      same_2 : SameBut (IsOfChunk version N) c0 c2
      same_2 = step c1 c2 3 _ (omega arith) (omega arith) two same_1

      same_3 : SameBut (IsOfChunk version N) c0 c3
      same_3 = step c2 c3 4 _ (omega arith) (omega arith) three same_2

      same_4 : SameBut (IsOfChunk version N) c0 c4
      same_4 = step c3 c4 5 _ (omega arith) (omega (arith, some)) four same_3

      inside : (c : Content) → length c ≡ length c0 → (j : ℕ) → j < 128 → at j < length c
      inside c size j low = rw size (chunk_inside (places_by version) N (length c0) j some room low)

      other : (c e : Content) (s k : ℕ) (b : List ℕ) → e ≡ put c (at s) b → (k ≡ s → ⊥) → cell_at e (at k) ≡ cell_at c (at k)
      other c e s k b is ne = there c (at s) b is (at k) (two_places (places_by version) k s ne)

      uses : (j : ℕ) → j < 1 → cell_at c4 (at (5 + j)) ≡ Some (usage_sector (first_uses N p j))
      uses zero lt = here c3 c4 (at 5) _ four (inside c3 same_3.size 5 (omega arith))
      uses (suc j) lt = absurd (omega (arith, lt))

  -- and one usage block more
  pub chunk_more : {n : ℕ} {c0 : Content} (c e : Content) → 1 ≤ n → n < usage_blocks N
      → 2 + 64 * N ≤ volume_size (places_by version) (length c0) → HasChunk version N p n c0 c
      → e ≡ put c (at (5 + n)) (blank 512) → HasChunk version N p (n + 1) c0 e
  chunk_more {n} {c0} c e one low room so_far is = record {
    others = write_same (IsOfChunk version N) (at (5 + n)) (blank 512) (of_chunk (5 + n) (omega arith) (omega (arith, low))) c0 c e
        so_far.others (left_new is);
    summary = other 2 (λ w. omega (arith, w)) ∙ so_far.summary;
    inode = other 3 (λ w. omega (arith, w)) ∙ so_far.inode;
    pointers = other 4 (λ w. omega (arith, w)) ∙ so_far.pointers;
    uses = λ j lt. ⊎_elim
        (λ same. ap (λ k. cell_at e (at (5 + k))) same ∙ here c e (at (5 + n)) (blank 512) is inside
        ∙ ap (λ b. Some b) (later_uses N p n one)
        ∙ ap (λ k. Some (usage_sector (first_uses N p k))) (sym same))
        (λ ne. other (5 + j) (λ w. ne (omega (arith, w)))
        ∙ so_far.uses j (⊎_elim (λ less. less) (λ high. absurd (ne (omega (arith, high, lt)))) (cases_lt j n)))
        (cases_eq j n);
  }
    where
      other : (k : ℕ) → (k ≡ 5 + n → ⊥) → cell_at e (at k) ≡ cell_at c (at k)
      other k ne = there c (at (5 + n)) (blank 512) is (at k) (two_places (places_by version) k (5 + n) ne)

      inside : at (5 + n) < length c
      inside = rw so_far.others.size (chunk_inside (places_by version) N (length c0) (5 + n) some room (omega (arith, low, most)))

-- what is cleared stays clear under writes elsewhere
pub clear_survives : (s : ℕ) (b : List ℕ) → (IsCleared s → ⊥) → Survives s b AreClear
clear_survives s b past = record { written = λ c clear. kept c (Some b) clear; lost = λ c clear. kept c None clear }
  where
    kept : (c : Content) (x : Cell) → AreClear c → AreClear (slice_set c s x)
    kept c x clear = record {
      each = λ k is. get_or-set_other c s k x None (λ e. past (subst IsCleared e is)) ∙ clear.each k is;
    }
