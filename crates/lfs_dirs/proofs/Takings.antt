-- A draft that takes a name out of a directory.
use Rattle.std.specs.Prelude.{max}
use Rattle.std.proofs.Common.{◌≡◌, ◌<◌, ◌≤◌, ◌+◌, ◌*◌, ◌-◌, ◌/◌, ◌%◌, ℕ, List, [], length, get_or, sym, ◌∙◌, subst, arith}
use Rattle.lfs_model.specs.Encodes.{IsLogMap}
use Rattle.lfs_model.specs.Fields.{part}
use Rattle.lfs_model.specs.Tree.{slot_len}
use Rattle.lfs_model.specs.Objects.{AreLong}
use Rattle.lfs_model.specs.Stands.{LogMap}
use Rattle.lfs_model.proofs.ObjectMaps.{object_fits, object_kept}
use Rattle.lfs_files.specs.declared.header.Header.{Header}
use Rattle.lfs_files.specs.Files.{Counts, FilesState, HasFile, HasShrunk, IsApart, IsFault, Reads, Redrafts, Shrinks}
use Rattle.lfs_files.specs.Files.{TellsBlock, Writes}
use Rattle.lfs_files.specs.Headers.{as_header}
use Rattle.lfs_files.proofs.FilesCompose.{still_apart}
use Rattle.lfs_dirs.specs.declared.searching.Found.{Found}
use Rattle.lfs_dirs.specs.Directory.{per_block, slot_count, slots_at}
use Rattle.lfs_dirs.specs.Searching.{FindsName}
use Rattle.lfs_dirs.specs.Taking.{CountsDropped, CutsSlot, DropsSlot, HasDropped, ReadsSlot, Takes, TakesDrop, shrunk}
use Rattle.std.specs.Prelude.{min}
use Rattle.lfs_dirs.proofs.Widths.{one_block, one_slot, slot_next, slot_some, slot_within}
use Rattle.lfs_dirs.proofs.SlotPlaces.{slot_in_block, slots_many}
use Rattle.lfs_dirs.proofs.SlotsTaken.{file_cut, file_moved, slots_dropped, slots_moved, takes_name}

-- A directory that is cut in a log map is one in a log map that a volume may keep.
pub cut_kept : {m l : LogMap} {d : ℕ} {head : Header} → head.size ≤ 1024 * slot_len head.form → HasFile m d head → AreLong m d
    → CutsSlot m l d head → IsLogMap l
cut_kept {m} {l} {d} {head} few there long cut =
    let was =
    object_fits m d (as_header head) there.map long there.there (omega (arith, (slot_some head.form).1)) in
    object_kept m l d (as_header (shrunk head)) there.map cut.only cut.header record {
      number = was.number;
      root = was.root;
      form = rw cut.only.version was.form;
      size = omega (arith, (slot_some head.form).1);
      whole = cut.whole was.whole;
      ends = cut.ends;
    }

module _ {S D : Type 0} where
  -- ---- one slot
  pub slot_read : (s s' : FilesState S D) (d : ℕ) (head : Header) (place : ℕ) (block : List ℕ) {slot : List ℕ}
      → slot ≡ part (slot_len head.form * (place % per_block head.form)) (slot_len head.form) block
      → TellsBlock s s' d (place / per_block head.form) block → ReadsSlot s s' d head place slot
  slot_read s s' d head place block is told m m' keeps has inside = slot_in_block m' d head place block (told m m' keeps has) inside
      ∙ sym is

  -- ---- the last slot goes
  pub drops_last : {s s' : FilesState S D} {d : ℕ} {head : Header} (place : ℕ) → place + 1 ≡ slot_count head
      → Shrinks s s' d head (head.size - slot_len head.form) → DropsSlot s s' d head place
  drops_last {d} {head} place last shrinks = record {
    lost = shrinks.lost;
    headers = omega arith;
    blocks = omega arith;
    fits = λ m m' keeps has fit takes. shrinks.fits m m' has fit
        record { there = takes.there; apart = takes.apart; within = λ none. absurd (takes.staged none); header = takes.header };
    has = λ m m' keeps has.
        let f = shrinks.has m m' keeps has in
        record {
          map = f.map;
          has = f.has;
          file = λ there. file_cut d (one_slot head.form place head.size (omega arith)) (f.file there);
          slots = λ there. slots_dropped m' f.map d head place last
              ((f.file there).shorter (omega (arith, one_slot head.form place head.size (omega arith), (slot_some head.form).0)));
        };
  }

  pub counts_last : (s s' : FilesState S D) (d : ℕ) (head : Header) → Counts s s' → CountsDropped s s' d head
  counts_last s s' d head counts m a b keeps has has' there long map are = counts m a b keeps has has' there.map map are

  -- ---- or comes into another's place
  module _ {s a b s' : FilesState S D} {d : ℕ} {head : Header} (place : ℕ) {slot : List ℕ} (inside : place + 1 < slot_count head)
      (long : length slot ≡ slot_len head.form)
      (reads : Reads s a) (more : Redrafts a b) (last : Redrafts b s') (found : ReadsSlot s a d head (slot_count head - 1) slot)
      (shrinks : Shrinks a b d head (head.size - slot_len head.form))
      (writes : Writes b s' d (shrunk head) (slot_len head.form * place) slot) where
    sized : (m m' : LogMap) → s'.device.keeps_model → s.has m m' → HasShrunk b m m' d head (head.size - slot_len head.form)
    sized m m' keeps has = shrinks.has m m' (last.looks.carries.kept_before keeps) (reads.has m m' has)

    size : max (head.size - slot_len head.form) (slot_len head.form * place + length slot) ≡ head.size - slot_len head.form
    size = omega (arith, slot_within head.form (place + 1) head.size inside, slot_next head.form place)

    read : (m m' : LogMap) → s'.device.keeps_model → s.has m m' → get_or (slots_at m' d head) (length (slots_at m' d head) - 1) [] ≡ slot
    read m m' keeps has =
        cc (slots_many m' d head, found m m' (more.looks.carries.kept_before (last.looks.carries.kept_before keeps)) has (omega arith))

    dropped : (m m' : LogMap) → s'.device.keeps_model → s.has m m' → HasDropped s' m m' d head place
    dropped m m' keeps has =
        let cut = sized m m' keeps has in
        let f = writes.file m cut.map keeps cut.has in
        let file = rw size at f.file in
        record {
          map = f.map;
          has = f.has;
          file = λ there. file_moved m' d head place inside long (cut.file there) file;
          slots = λ there. slots_moved m' f.map d head place slot inside long (read m m' keeps has)
              ((cut.file there).shorter (omega (
                arith,
                one_slot head.form place head.size (omega arith),
                (slot_some head.form).0,
              ))) file.bytes;
        }

    apart_then : IsApart s.lost d → IsApart b.lost d
    apart_then is =
        let was = still_apart reads is in
        record { inode = shrinks.lost _ ∙ was.inode; above = λ i. shrinks.lost _ ∙ was.above i }

    fitting : (m m' : LogMap) → s'.device.keeps_model → s.has m m' → s.fits m → TakesDrop s m m' d head → s'.fits m
    fitting m m' keeps has fit takes =
        let cut = sized m m' keeps has in
        let shorter = shrinks.fits m m' (reads.has m m' has) (reads.fits m fit)
        record {
          there = takes.there;
          apart = still_apart reads takes.apart;
          within = λ none. absurd (takes.staged none);
          header = takes.header;
        } in
        writes.fits m cut.map cut.has shorter record {
          there = cut.header;
          apart = apart_then takes.apart;
          within = λ none. absurd (takes.staged none);
          header = rw size takes.header;
        }

    drops_other : DropsSlot s s' d head place
    drops_other = record {
      lost = λ x. writes.lost x ∙ shrinks.lost x ∙ reads.lost x;
      headers = omega arith;
      blocks = let whole = subst (λ (n : ℕ). (slot_len head.form * place + n) / 512 + min 1 ((slot_len head.form * place + n) % 512)
          ≤ slot_len head.form * place / 512 + 1) (sym long) (one_block head.form place) in
          omega arith;
      fits = fitting;
      has = dropped;
    }

    counts_other : head.size ≤ 1024 * slot_len head.form → Counts a b → Counts b s' → CountsDropped s s' d head
    counts_other few first next m x y keeps has has' there whole map are =
        let cut = sized m x keeps has in
        let kept = cut_kept few there whole (file_cut d (one_slot head.form place head.size (omega arith)) (cut.file there)) in
        next m cut.map y keeps cut.has has' kept map
        (first m x cut.map (last.looks.carries.kept_before keeps) (reads.has m x has) cut.has there.map kept
        (rw (← reads.drafted) at are))

    pub drops_and_counts : head.size ≤ 1024 * slot_len head.form → Counts a b → Counts b s'
        → DropsSlot s s' d head place × CountsDropped s s' d head
    drops_and_counts few first next = (drops_other, counts_other few first next)

  -- what fails where the slot is written
  pub fails_last : {s a b s' : FilesState S D} {d : ℕ} {head : Header} {len : ℕ} → Reads s a → Redrafts a b → Redrafts b s'
      → Shrinks a b d head len → IsFault b s' → IsFault s s'
  fails_last reads more last shrinks failed m m' keeps has =
      let cut = shrinks.has m m' (last.looks.carries.kept_before keeps) (reads.has m m' has) in
      omega (arith, failed m cut.map keeps cut.has)

  -- ---- the slot of a name goes
  pub drops_behind : (s a : FilesState S D) {s' : FilesState S D} (d : ℕ) {head : Header} {place : ℕ} → Reads s a
      → DropsSlot a s' d head place
      → DropsSlot s s' d head place
  drops_behind s a d reads drops = record {
    lost = λ x. drops.lost x ∙ reads.lost x;
    headers = omega arith;
    blocks = omega arith;
    fits = λ m m' keeps has fit takes. drops.fits m m' keeps (reads.has m m' has) (reads.fits m fit)
        record { staged = takes.staged; there = takes.there; header = takes.header; apart = still_apart reads takes.apart };
    has = λ m m' keeps has. drops.has m m' keeps (reads.has m m' has);
  }

  pub counts_behind : {s a : FilesState S D} (s' : FilesState S D) (d : ℕ) (head : Header) → Reads s a → CountsDropped a s' d head
      → CountsDropped s s' d head
  counts_behind s' d head reads counts m x y keeps has has' there long map are =
      counts m x y keeps (reads.has m x has) has' there long map (rw (← reads.drafted) at are)

  pub takes : {s a s' : FilesState S D} {d : ℕ} {head : Header} {name : List ℕ} (found : Found) → Reads s a → Redrafts a s'
      → FindsName s a d head name found
      → DropsSlot a s' d head found.place → Takes s s' d head name
  takes {s} {a} {s'} {d} {head} {name} found reads more finds drops = record {
    place = found.place;
    drops = drops_behind s a d reads drops;
    has = λ m m' keeps has.
        let f = drops.has m m' keeps (reads.has m m' has) in
        record {
          map = f.map;
          has = f.has;
          file = f.file;
          names = λ there dir.
              takes_name m' f.map d head name found (finds m m' (more.looks.carries.kept_before keeps) has dir) dir (f.slots there);
        };
  }
