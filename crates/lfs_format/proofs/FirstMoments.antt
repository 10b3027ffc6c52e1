-- What a stop leaves while an empty volume is made, and what stands then.
use Rattle.std.proofs.Common.{◌<◌, ◌≡◌, ◌⊎◌, inl, inr, ℕ, ◌+◌, ◌*◌, ◌≤◌, List, [], length, Some, None, refl, sym, ◌∙◌, ap}
use Rattle.std.proofs.Common.{subst, arith, length-set, get_or-set_other, get_or-set_same}
use Rattle.std.proofs.lemmas.Bool.{cases_eq}
use Rattle.lfs_model.specs.Checkpoint.{IsSegmentCount, IsVersion, checkpoint_sector, checkpoint_in, most_unit_power}
use Rattle.lfs_model.specs.Checkpoint.{usage_blocks}
use Rattle.lfs_model.specs.Content.{Content, newest, newer, slot, with_parity, bytes_of}
use Rattle.lfs_model.specs.Device.{AreSectors, cell_at, lose, put, MayWrite, MayWriteUnit, left_old, left_new, left_bad, DeviceState}
use Rattle.lfs_model.specs.Device.{IsUntouched, Only, AllLeft, Carries, Elapses, LeavesOnly, ComesFrom, IsLawful, CrashWrites}
use Rattle.lfs_model.specs.Device.{CrashWritesUnit}
use Rattle.lfs_model.specs.Fields.{read32, read64, part}
use Rattle.lfs_model.specs.Image.{blank, first_checkpoint, IsNew}
use Rattle.lfs_model.proofs.Moments.{Run, run_write, carries_none, carries_then, started, goes_on, joined, weaker}
use Rattle.lfs_model.proofs.UnitWrites.{crash_of_sectors}
use Rattle.lfs_model.proofs.Image.{formatted}
use Rattle.lfs_model.proofs.Volume.{new_volume}
use Rattle.lfs_places.specs.declared.Places.TheVariants.{New}
use Rattle.lfs_places.specs.Lawful.{cells_stand, sizes_stand}
use Rattle.lfs_places.specs.Places.{place_of, volume_content, volume_size}
use Rattle.lfs_format.specs.Making.{AreClear, HasChunk, HasMade, HasNone, IsCleared, IsMade, IsMaking, IsOfChunk, MayChange, MayClearSlots}
use Rattle.lfs_format.specs.Making.{MayStand, SameBehindChunk, SameBut, WritesChunk, places_by, unused_slot}
use Rattle.lfs_format.proofs.FirstPlaces.{apart_cleared, chunk_inside, first_cleared, not_cleared, second_cleared, slot_0, slot_cleared}
use Rattle.lfs_format.proofs.FirstPlaces.{two_places, unused_apart, unused_cleared}
use Rattle.lfs_format.proofs.FirstWrites.{by_sectors, clear_survives, same_none, sectors_after, write_same}

none_blank : checkpoint_in (blank 512) ≡ None
unfolding checkpoint_in read32 read64 part
none_blank = refl

none_empty : checkpoint_in [] ≡ None
unfolding checkpoint_in read32 read64 part
none_empty = refl

-- slots that hold no checkpoint
no_newest : (c : Content) → checkpoint_in (bytes_of (cell_at c 0)) ≡ None → checkpoint_in (bytes_of (cell_at c 1)) ≡ None → newest c ≡ None
no_newest c first second =
    ap (λ o. newer (with_parity 0 o) (slot c 1)) first
    ∙ ap (λ o. newer None (with_parity 1 o)) second

-- no sector spells one at which a slot may stand
no_checkpoint : (c : Content) → ((k : ℕ) → IsCleared k → checkpoint_in (bytes_of (cell_at c k)) ≡ None) → HasNone c
no_checkpoint c none = (
  no_newest c (none 0 first_cleared) (none 1 second_cleared),
  no_newest (volume_content New c)
      (ap (λ x. checkpoint_in (bytes_of x)) (cells_stand New c 0) ∙ none 0 first_cleared)
      (ap (λ x. checkpoint_in (bytes_of x)) (cells_stand New c 1) ∙ none 128 apart_cleared),
)

holds_none : (c : Content) (k : ℕ) → cell_at c k ≡ Some (blank 512) → checkpoint_in (bytes_of (cell_at c k)) ≡ None
holds_none c k is = ap (λ x. checkpoint_in (bytes_of x)) is ∙ none_blank

pub clear_none : {c : Content} → AreClear c → HasNone c
clear_none {c} clear = no_checkpoint c (λ k is. holds_none c k (clear.each k is))

-- the chunk leaves the slots clear
pub chunk_clear : (version N : ℕ) → N ≤ 1024 → {p n : ℕ} {c0 c : Content} → AreClear c0 → HasChunk version N p n c0 c → AreClear c
chunk_clear version N most clear chunk = record {
  each = λ k is. chunk.others.others k (λ of. not_cleared version N most k of is) ∙ clear.each k is;
}

module _ (version N p : ℕ) (known : IsVersion version) (unit : p ≤ most_unit_power version) (count : IsSegmentCount N)
    (c0 c1 : Content) (long : 2 + 64 * N ≤ volume_size (places_by version) (length c0))
    (clear : AreClear c0) (chunk : HasChunk version N p (usage_blocks N) c0 c1) where
  abbrev at : ℕ → ℕ
  at j = place_of (places_by version) j

  room : 2 + 64 * N ≤ volume_size (places_by version) (length c1)
  room = rw chunk.others.size long

  abbrev bytes : List ℕ
  bytes = checkpoint_sector (first_checkpoint version N p)

  still : AreClear c1
  still = chunk_clear version N count.most clear chunk

  inside : at 1 < length c1
  inside = chunk_inside (places_by version) N (length c1) 1 count.least room (omega arith)

  -- the chunk, and then the checkpoint
  pub whole : {c2 : Content} → c2 ≡ put c1 (at 1) bytes → IsNew version N p (volume_content (places_by version) c2)
  whole {c2} is = record {
    known = known;
    unit = unit;
    count = count;
    size = subst (λ n. 2 + 64 * N ≤ n) (sym (sizes_stand (places_by version) c2 ∙ ap (volume_size (places_by version)) same)) room;
    empty_slot = other 0 (λ e. omega (arith, e)) ∙ ap (λ k. cell_at c1 k) (slot_0 (places_by version)) ∙ still.each 0 first_cleared;
    checkpoint = cells_stand (places_by version) c2 1 ∙ ap (λ x. cell_at x (at 1)) is ∙ get_or-set_same c1 (at 1) (Some bytes) None inside;
    summary = other 2 (λ e. omega (arith, e)) ∙ chunk.summary;
    inode = other 3 (λ e. omega (arith, e)) ∙ chunk.inode;
    pointers = other 4 (λ e. omega (arith, e)) ∙ chunk.pointers;
    uses = λ j lt. other (5 + j) (λ e. omega (arith, e)) ∙ chunk.uses j lt;
  }
    where
      same : length c2 ≡ length c1
      same = ap (λ l. length l) is ∙ length-set c1 (at 1) (Some bytes)

      other : (k : ℕ) → (k ≡ 1 → ⊥) → cell_at (volume_content (places_by version) c2) k ≡ cell_at c1 (at k)
      other k ne = cells_stand (places_by version) c2 k ∙ ap (λ x. cell_at x (at k)) is
          ∙ get_or-set_other c1 (at 1) (at k) (Some bytes) None (two_places (places_by version) k 1 ne)

  -- the slot of the other places stays clear
  pub unused : {c2 : Content} → c2 ≡ put c1 (at 1) bytes → cell_at c2 (unused_slot (places_by version)) ≡ Some (blank 512)
  unused is = ap (λ x. cell_at x (unused_slot (places_by version))) is
      ∙ get_or-set_other c1 (at 1) (unused_slot (places_by version)) (Some bytes) None (unused_apart (places_by version))
      ∙ still.each (unused_slot (places_by version)) (unused_cleared (places_by version))

  -- the checkpoint's write leaves none or that one
  pub torn : (c2 : Content) → MayWrite (at 1) bytes c1 c2 → HasNone c2 ⊎ IsMade version N p c2
  torn c2 (left_old is) = inl (clear_none (subst AreClear (sym is) still))
  torn c2 (left_new is) = inr (record { image = whole is; clear = unused is })
  torn c2 (left_bad is) = inl (no_checkpoint c2 none)
    where
      none : (k : ℕ) → IsCleared k → checkpoint_in (bytes_of (cell_at c2 k)) ≡ None
      none k cleared = elim (cases_eq k (at 1)) [
        | inl e ↦ ap (λ x. checkpoint_in (bytes_of x))
            (ap (λ x. cell_at x k) is ∙ ap (λ q. cell_at (lose c1 (at 1)) q) e ∙ get_or-set_same c1 (at 1) None None inside) ∙ none_empty
        | inr ne ↦ holds_none c2 k
            (ap (λ x. cell_at x k) is ∙ get_or-set_other c1 (at 1) k None None ne ∙ still.each k cleared)
      ]

-- ---- at any moment

-- the device before, and with clear slots
module _ (version N p : ℕ) {a b : DeviceState} (cleared : LeavesOnly a b (ComesFrom a MayClearSlots)) where
  abbrev P : Content → Type 0
  P = MayStand version N p a

  pub moments_cleared : LeavesOnly a b P
  moments_cleared = weaker _ _ (λ x from. inl from) cleared

  -- with the chunk
  module _ (clear : AreClear b.content) (only : Only b.content b) {c : DeviceState}
      (chunked : AllLeft b AreClear → LeavesOnly b c AreClear) where
    all_clear : AllLeft b AreClear
    all_clear x left = subst AreClear (sym (only x left)) clear

    pub moments_chunked : LeavesOnly a c P
    moments_chunked = joined _ _ _ moments_cleared (chunked all_clear) (λ x has. has) (λ x has. inr (inl (clear_none has)))

    -- synced
    module _ {s : DeviceState} (still : AllLeft b AreClear → AllLeft c AreClear) (same : IsUntouched c s) (carries : Carries c s)
        (time : Elapses c s) where
      pub moments_synced : LeavesOnly a s P
      moments_synced =
          goes_on _ moments_chunked carries time (λ x left. inr (inl (clear_none (still all_clear x (same.crash x left)))))

      -- with the checkpoint, whose write comes from what has the chunk
      pub moments_written : {r : DeviceState} → IsVersion version
          → p ≤ most_unit_power version → IsSegmentCount N → 2 + 64 * N ≤ volume_size (places_by version) (length b.content)
          → HasChunk version N p (usage_blocks N) b.content c.content → Only s.content s
          → LeavesOnly s r (ComesFrom s (MayWrite (place_of (places_by version) 1) (checkpoint_sector (first_checkpoint version N p))))
          → LeavesOnly a r P
      moments_written known unit count long chunk alone written =
          joined _ _ _ moments_synced written (λ x has. has) (λ x from.
          let content : from.0 ≡ c.content = alone from.0 from.1 ∙ same.content in
          inr (torn version N p known unit count b.content c.content long clear chunk x
          (subst (λ d. MayWrite (place_of (places_by version) 1) (checkpoint_sector (first_checkpoint version N p)) d x) content from.2)))

-- ---- the sectors that are written

-- what is left comes from what was left before, but for sectors that are so
abbrev Touches : (ℕ → Type 0) → DeviceState → DeviceState → Type 0
Touches Other old new = LeavesOnly old new (ComesFrom old (SameBut Other))

left_now : (old : DeviceState) {new : DeviceState} (Q : Content → Type 0) → IsLawful new → LeavesOnly old new Q → AllLeft new Q
left_now old Q lawful leaves x left = leaves.each x (lawful.counts_now old.moment x leaves.later left)

same_then : (Other : ℕ → Type 0) {c d : Content} (e : Content) → SameBut Other c d → SameBut Other d e → SameBut Other c e
same_then Other e one two =
    record { size = two.size ∙ one.size; others = λ k not. two.others k not ∙ one.others k not }

pub touches_none : (Other : ℕ → Type 0) {d : DeviceState} → IsLawful d → Touches Other d d
touches_none Other {d} lawful = started (ComesFrom d (SameBut Other)) lawful (λ c left. (c, left, same_none Other c))

touches_then : (Other : ℕ → Type 0) {a b c : DeviceState} → IsLawful b → Touches Other a b → Touches Other b c → Touches Other a c
touches_then Other {a} lawful one two =
    joined _ _ _ one two (λ x has. has)
    (λ x from.
    let was = left_now a _ lawful one from.0 from.1 in
    (was.0, was.1, same_then Other x was.2 from.2))

pub touches_write : (Other : ℕ → Type 0) {a b c : DeviceState} (s : ℕ) (bytes : List ℕ) → Other s → IsLawful b → Touches Other a b
    → CrashWrites s bytes b c → Carries b c → Elapses b c → Touches Other a c
touches_write Other {a} s bytes is lawful one crash carries time =
    goes_on _ one carries time (λ x left.
    let from = crash x left in
    let was = left_now a _ lawful one from.0 from.1 in
    (was.0, was.1, write_same Other s bytes is was.0 from.0 x was.2 from.2))

pub touches_still : (Other : ℕ → Type 0) {a b c : DeviceState} → IsLawful b → Touches Other a b → IsUntouched b c → Carries b c
    → Elapses b c → Touches Other a c
touches_still Other {a} lawful one same carries time =
    goes_on _ one carries time
    (λ x left. left_now a _ lawful one x (same.crash x left))

-- more sectors may change
wider : (Other More : ℕ → Type 0) → ((k : ℕ) → Other k → More k) → {d x : Content} → SameBut Other d x → SameBut More d x
wider Other More each same = record { size = same.size; others = λ k not. same.others k (λ is. not (each k is)) }

pub touches_slots : (version N : ℕ) {a b : DeviceState} → Touches IsCleared a b → LeavesOnly a b (ComesFrom a (SameBehindChunk version N))
touches_slots version N leaves =
    weaker _ _ (λ x from. (from.0, from.1, wider IsCleared (MayChange version N) (λ k is. inl is) from.2)) leaves

pub touches_slot : (Other : ℕ → Type 0) {a b : DeviceState} (s : ℕ) (bytes : List ℕ) → Other s
    → LeavesOnly a b (ComesFrom a (MayWrite s bytes)) → Touches Other a b
touches_slot Other s bytes is leaves =
    weaker _ _ (λ x from. (from.0, from.1, write_same Other s bytes is from.0 from.0 x (same_none Other from.0) from.2)) leaves

-- ---- the steps

-- the same write, told in another way
pub same_write : {old new : DeviceState} {s t : ℕ} {bytes more : List ℕ} → s ≡ t → bytes ≡ more
    → LeavesOnly old new (ComesFrom old (MayWriteUnit old.unit s bytes)) → LeavesOnly old new (ComesFrom old (MayWriteUnit old.unit t more))
same_write {old} {new} {s} {t} {bytes} {more} place is leaves =
    subst (λ b. LeavesOnly old new (ComesFrom old (MayWriteUnit old.unit t b))) is
    (subst (λ q. LeavesOnly old new (ComesFrom old (MayWriteUnit old.unit q bytes))) place leaves)

-- no block of the first chunk
pub writes_none : (version N : ℕ) {d : DeviceState} → IsLawful d → WritesChunk version N d d
writes_none version N {d} lawful = record {
  any_moment = λ sectors clear. started AreClear lawful clear;
  left = λ sectors clear. clear;
  touched = λ sectors. touches_none (MayChange version N) lawful;
  carries = carries_none;
}

-- a block of it
pub writes_one : (version N : ℕ) {b c : DeviceState} {j : ℕ} {bytes : List ℕ} → N ≤ 1024 → 2 ≤ j → j < 5 + usage_blocks N
    → IsLawful b → CrashWritesUnit (place_of (places_by version) j) bytes b c → Carries b c → Elapses b c → WritesChunk version N b c
writes_one version N {b} {c} {j} {bytes} most past low lawful crash carries time = record {
  any_moment = λ sectors clear. (run sectors clear).leaves;
  left = λ sectors clear. (run sectors clear).now;
  touched = λ sectors. touches_write (MayChange version N) (place_of (places_by version) j) bytes (inr of) lawful
      (touches_none (MayChange version N) lawful) (by_sector sectors) carries time;
  carries = carries;
}
  where
    of : IsOfChunk version N (place_of (places_by version) j)
    of = (j, past, low, refl)

    by_sector : AreSectors b.unit → CrashWrites (place_of (places_by version) j) bytes b c
    by_sector sectors = crash_of_sectors b c (place_of (places_by version) j) bytes sectors crash

    run : AreSectors b.unit → AllLeft b AreClear → Run b c AreClear
    run sectors clear =
        let so_far : Run b b AreClear =
        record { carries = carries_none; leaves = started AreClear lawful clear; now = clear } in
        run_write b b c AreClear (place_of (places_by version) j) bytes so_far
        (clear_survives (place_of (places_by version) j) bytes (not_cleared version N most (place_of (places_by version) j) of))
        (by_sector sectors) carries time

pub writes_then : {version N : ℕ} {a b c : DeviceState} → IsLawful b → WritesChunk version N a b → WritesChunk version N b c
    → WritesChunk version N a c
writes_then {version} {N} lawful one two = record {
  any_moment = λ sectors clear.
      joined _ _ _ (one.any_moment sectors clear) (two.any_moment (sectors_after sectors one.carries) (one.left sectors clear))
      (λ x has. has) (λ x has. has);
  left = λ sectors clear. two.left (sectors_after sectors one.carries) (one.left sectors clear);
  touched = λ sectors.
      touches_then (MayChange version N) lawful (one.touched sectors)
      (two.touched (sectors_after sectors one.carries));
  carries = carries_then one.carries two.carries;
}

-- the slots are cleared
pub making_cleared : {version N p : ℕ} {a b : DeviceState}
    → (AreSectors a.unit → b.keeps_model → LeavesOnly a b (ComesFrom a MayClearSlots))
    → (AreSectors a.unit → LeavesOnly a b (ComesFrom a (SameBut IsCleared))) → Carries a b → IsMaking version N p a b
making_cleared {version} {N} {p} cleared touched carries = record {
  any_moment = λ sectors keeps. moments_cleared version N p (cleared sectors keeps);
  touched = λ sectors. touches_slots version N (touched sectors);
  carries = carries;
}

-- then the chunk is written
module _ {version N p : ℕ} {a b c : DeviceState} (lawful : IsLawful b)
    (cleared : AreSectors a.unit → b.keeps_model → LeavesOnly a b (ComesFrom a MayClearSlots))
    (touched : AreSectors a.unit → LeavesOnly a b (ComesFrom a (SameBut IsCleared))) (clears : Carries a b)
    (clear : b.keeps_model → AreClear b.content) (only : b.keeps_model → Only b.content b) (writes : WritesChunk version N b c) where
  pub making_chunked : IsMaking version N p a c
  making_chunked = record {
    any_moment = λ sectors keeps.
        let kept = writes.carries.kept_before keeps in
        moments_chunked version N p (cleared sectors kept) (clear kept) (only kept) (writes.any_moment (sectors_after sectors clears));
    touched = λ sectors.
        touches_then (MayChange version N) lawful (touches_slots version N (touched sectors))
        (writes.touched (sectors_after sectors clears));
    carries = carries_then clears writes.carries;
  }

  -- it is synced
  module _ {s : DeviceState} (lawful_c : IsLawful c) (same : IsUntouched c s) (carries : Carries c s) (time : Elapses c s) where
    pub making_synced : IsMaking version N p a s
    making_synced = record {
      any_moment = λ sectors keeps.
          let kept = writes.carries.kept_before (carries.kept_before keeps) in
          let then = sectors_after sectors clears in
          moments_synced version N p (cleared sectors kept) (clear kept) (only kept) (writes.any_moment then) (writes.left then) same
          carries time;
      touched = λ sectors. touches_still (MayChange version N) lawful_c (making_chunked.touched sectors) same carries time;
      carries = carries_then making_chunked.carries carries;
    }

    -- and the checkpoint is written
    pub making_written : {r : DeviceState} → IsLawful s → IsVersion version
        → p ≤ most_unit_power version → IsSegmentCount N → 2 + 64 * N ≤ volume_size (places_by version) a.size
        → (c.keeps_model → HasChunk version N p (usage_blocks N) b.content c.content) → (s.keeps_model → Only s.content s)
        → LeavesOnly s r (ComesFrom s (MayWriteUnit s.unit (place_of (places_by version) 1)
        (checkpoint_sector (first_checkpoint version N p)))) → Carries s r → IsMaking version N p a r
    making_written lawful_s known unit count room chunk alone written replaces = record {
      any_moment = λ sectors keeps.
          let synced = replaces.kept_before keeps in
          let kept = carries.kept_before synced in
          let was = writes.carries.kept_before kept in
          let then = sectors_after sectors clears in
          let long : 2 + 64 * N ≤ volume_size (places_by version) (length b.content) =
          subst (λ n. 2 + 64 * N ≤ volume_size (places_by version) n) (sym (lawful.size ∙ clears.size)) room in
          let torn = by_sectors (sectors_after sectors making_synced.carries) written in
          moments_written version N p (cleared sectors was) (clear was) (only was) (writes.any_moment then) (writes.left then) same carries
          time known unit count long (chunk kept) (alone synced) torn;
      touched = λ sectors. touches_then (MayChange version N) lawful_s (making_synced.touched sectors)
          (touches_slot (MayChange version N) (place_of (places_by version) 1) (checkpoint_sector (first_checkpoint version N p))
          (inl (slot_cleared (places_by version)))
          (by_sectors (sectors_after sectors making_synced.carries) written));
      carries = carries_then making_synced.carries replaces;
    }

    -- which makes the volume
    pub volume_made : {r : DeviceState} → IsVersion version
        → p ≤ most_unit_power version → IsSegmentCount N → 2 + 64 * N ≤ volume_size (places_by version) a.size
        → (b.keeps_model → SameBut IsCleared a.content b.content)
        → (c.keeps_model → HasChunk version N p (usage_blocks N) b.content c.content) → Carries s r
        → (r.keeps_model → r.content ≡ put s.content (place_of (places_by version) 1) (checkpoint_sector (first_checkpoint version N p)))
        → (r.keeps_model → Only r.content r)
        → r.failures ≡ a.failures → HasMade version N p a r
    volume_made {r} known unit count room slots chunk replaces written alone failures = record {
      no_failure = failures;
      image = image;
      volume = λ keeps. new_volume version N p (volume_content (places_by version) r.content) (image keeps);
      checkpoint = λ keeps. (formatted version N p (volume_content (places_by version) r.content) (image keeps)).0;
      clear = λ keeps. unused version N p known unit count b.content c.content long (clear (was keeps)) (chunk (kept keeps)) (first keeps);
      durable = alone;
      others = others;
    }
      where
        kept : r.keeps_model → c.keeps_model
        kept keeps = carries.kept_before (replaces.kept_before keeps)

        was : r.keeps_model → b.keeps_model
        was keeps = writes.carries.kept_before (kept keeps)

        long : 2 + 64 * N ≤ volume_size (places_by version) (length b.content)
        long = subst (λ n. 2 + 64 * N ≤ volume_size (places_by version) n) (sym (lawful.size ∙ clears.size)) room

        first : r.keeps_model → r.content ≡ put c.content (place_of (places_by version) 1)
            (checkpoint_sector (first_checkpoint version N p))
        first keeps = written keeps
            ∙ ap (λ x. put x (place_of (places_by version) 1) (checkpoint_sector (first_checkpoint version N p))) same.content

        image : r.keeps_model → IsNew version N p (volume_content (places_by version) r.content)
        image keeps = whole version N p known unit count b.content c.content long (clear (was keeps)) (chunk (kept keeps)) (first keeps)

        others : r.keeps_model → SameBehindChunk version N a.content r.content
        others keeps =
            write_same (MayChange version N) (place_of (places_by version) 1) (checkpoint_sector (first_checkpoint version N p))
            (inl (slot_cleared (places_by version))) a.content c.content r.content
            (same_then (MayChange version N) c.content (wider IsCleared (MayChange version N) (λ k is. inl is) (slots (was keeps)))
            (wider (IsOfChunk version N) (MayChange version N) (λ k is. inr is) (chunk (kept keeps)).others))
            (left_new (first keeps))
