-- A draft that widens a directory: another form, and then its slots in it.
use Rattle.std.specs.Prelude.{max}
use Rattle.std.proofs.Common.{◌≡◌, ◌≤◌, ◌+◌, ◌*◌, ◌/◌, ◌%◌, ℕ, zero, suc, List, length, Some, sym, ◌∙◌, ap, arith}
use Rattle.lfs_model.specs.Changing.{IsWithHeader}
use Rattle.lfs_model.specs.Encodes.{IsLogMap}
use Rattle.lfs_model.specs.Inode.{IsForm}
use Rattle.lfs_model.specs.Objects.{AreLong, AreStoredWhole, IsChangedAt, IsDirectory, byte_in}
use Rattle.lfs_model.specs.Stands.{LogMap}
use Rattle.lfs_model.specs.Tree.{slot_len}
use Rattle.lfs_model.proofs.ObjectMaps.{object_fits, object_kept}
use Rattle.lfs_files.specs.declared.header.Header.{Header}
use Rattle.lfs_files.specs.Files.{Counts, CountsReformed, FilesState, HasFile, HasReformed, IsApart, IsFault}
use Rattle.lfs_files.specs.Files.{IsLoneWrite, Reads, Redrafts, Reforms, Writes, asked_by_directory}
use Rattle.lfs_files.specs.Headers.{as_header}
use Rattle.lfs_files.proofs.FilesCompose.{still_apart}
use Rattle.lfs_dirs.specs.Directory.{slot_count}
use Rattle.lfs_dirs.specs.Finding.{IsDirectoryFault}
use Rattle.lfs_dirs.specs.Widening.{CountsWidened, HasWidened, TakesWide, TellsWide, Widens, WidensFile, wide}
use Rattle.lfs_dirs.proofs.Widenings.{few_slots, names_wide}
use Rattle.lfs_dirs.proofs.Widths.{slot_some}

wide_enough : (form size : ℕ) → size % slot_len form ≡ 0 → size ≤ slot_len 1 * (size / slot_len form)
wide_enough zero size whole = omega arith
wide_enough (suc form) size whole = omega arith

-- ---- a file with another header
module _ (m : LogMap) {m' : LogMap} (d : ℕ) (head : Header) (is : IsWithHeader m d (Some (as_header (wide head))) m') where
  only_header : IsChangedAt m d m'
  only_header = record { headers = is.others; blocks = λ k i other. is.block k i; version = is.version }

  same_byte : (p : ℕ) → byte_in m' d p ≡ byte_in m d p
  same_byte p = cc (is.block d (p / 512))

  still_whole : AreStoredWhole m d → AreStoredWhole m' d
  still_whole was = record {
    long = λ i some. ap length (is.block d i) ∙ was.long i (rw (← is.block d i) some);
    nonzero = λ i some. (let k = was.nonzero i (rw (← is.block d i) some) in
        (k.0, rw (is.block d i) k.1));
  }

  header_widens : WidensFile m m' d head
  header_widens = record {
    header = is.own;
    only = only_header;
    whole = still_whole;
    ends = λ whole ends p past. same_byte p ∙ ends p (omega (arith, wide_enough head.form head.size whole));
  }

  -- a volume may keep it, where its version has form 1
  header_kept : head.size ≤ 1024 * slot_len head.form → HasFile m d head → AreLong m d → IsDirectory m d (as_header head)
      → IsForm m.version head.kind 1 → IsLogMap m'
  header_kept few there long dir form =
      let was =
      object_fits m d (as_header head) there.map long there.there (omega (arith, (slot_some head.form).1)) in
      let whole = dir.whole in
      object_kept m m' d (as_header (wide head)) there.map only_header is.own record {
        number = was.number;
        root = was.root;
        form = rw is.version form;
        size = omega (arith, few_slots head.form head.size few);
        whole = still_whole was.whole;
        ends = header_widens.ends whole was.ends;
      }

module _ {S D : Type 0} {s a b : FilesState S D} {d : ℕ} {head : Header} {bytes : List ℕ} (reads : Reads s a)
    (told : TellsWide s a d head bytes) (long : length bytes ≡ slot_len 1 * slot_count head)
    (few : head.size ≤ 1024 * slot_len head.form) (more : Redrafts a b)
    (reforms : Reforms a b d head 1 (slot_len 1 * slot_count head)) where
  reformed_map : (m m' : LogMap) → s.has m m' → HasReformed b m m' d (wide head)
  reformed_map m m' has = reforms.file m m' (reads.has m m' has)

  apart_then : IsApart s.lost d → IsApart b.lost d
  apart_then is =
      let was = still_apart reads is in
      record { inode = reforms.lost _ ∙ was.inode; above = λ i. reforms.lost _ ∙ was.above i }

  reform_fits : (m m' : LogMap) → s.has m m' → s.fits m → TakesWide s m m' d head → b.fits m
  reform_fits m m' has fit takes = reforms.fits m m' (reads.has m m' has)
      (reads.fits m fit) record { there = takes.there; apart = still_apart reads takes.apart; header = takes.header }

  few_asked : s.headers ≡ 0 → s.blocks ≡ 0 → b.asked ≤ asked_by_directory
  few_asked no_header no_block =
      omega (arith, reforms.asked (cc) (cc))

  -- ---- a directory without slots is widened by its header
  pub widens_empty : length bytes ≡ 0 → Widens s b d head
  widens_empty none = record {
    lost = λ x. reforms.lost x ∙ reads.lost x;
    headers = omega arith;
    blocks = omega arith;
    asked = few_asked;
    fits = reform_fits;
    has = λ m m' keeps has.
        let r = reformed_map m m' has in
        record {
          map = r.map;
          has = r.has;
          file = header_widens m' d head r.file;
          names = λ dir. names_wide m' r.map d head (told m m' (more.looks.carries.kept_before keeps) has)
              (λ p low. absurd (omega arith)) dir;
        };
  }

  pub counts_empty : CountsReformed a b d head → CountsWidened s b d head
  counts_empty counts m x y keeps has has' there whole dir form map are =
      counts m x y (reads.has m x has) has' there.there (rw reads.drafted are)

  -- what fails where the slots are written
  pub fails_written : (s' : FilesState S D) → IsFault b s' → IsDirectoryFault s s' d head
  fails_written s' failed m m' keeps has dir =
      let r = reformed_map m m' has in
      omega (arith, failed m r.map keeps r.has)

  -- ---- others are written
  module _ {s' : FilesState S D} (last : Redrafts b s') (writes : Writes b s' d (wide head) 0 bytes) where
    size : max (slot_len 1 * slot_count head) (0 + length bytes) ≡ slot_len 1 * slot_count head
    size = omega arith

    widened_map : (m m' : LogMap) → s'.device.keeps_model → s.has m m' → HasWidened s' m m' d head
    widened_map m m' keeps has =
        let r = reformed_map m m' has in
        let f = writes.file m r.map keeps r.has in
        let file = rw size at f.file in
        let first = header_widens m' d head r.file in
        record {
          map = f.map;
          has = f.has;
          file = record {
            header = file.header;
            only = record {
              headers = λ k other. file.only.headers k other ∙ first.only.headers k other;
              blocks = λ k i other. file.only.blocks k i other ∙ first.only.blocks k i other;
              version = cc;
            };
            whole = λ was. file.whole (first.whole was);
            ends = λ whole ends p past. file.bytes.bytes.behind p (omega arith) ∙ first.ends whole ends p past;
          };
          names = λ dir.
              names_wide m' f.map d head (told m m' (more.looks.carries.kept_before (last.looks.carries.kept_before keeps)) has)
              (λ p low. sym (ap (λ (q : ℕ). byte_in f.map d q) (omega arith)) ∙ file.bytes.bytes.inside p low)
              dir;
        }

    pub widens_written : (IsLoneWrite b bytes → s'.asked ≤ asked_by_directory) → Widens s s' d head
    widens_written asked = record {
      lost = λ x. writes.lost x ∙ reforms.lost x ∙ reads.lost x;
      headers = omega arith;
      blocks = let slots = few_slots head.form head.size few in omega arith;
      asked = λ no_header no_block. asked record {
        headers = omega arith;
        blocks = cc;
        few = omega (arith, few_slots head.form head.size few);
      };
      fits = λ m m' has fit takes.
          let r = reformed_map m m' has in
          writes.fits m r.map r.has (reform_fits m m' has fit takes) record {
            there = r.file.own;
            apart = apart_then takes.apart;
            within = λ none. absurd (takes.staged none);
            header = rw size takes.header;
          };
      has = widened_map;
    }

    pub counts_written : CountsReformed a b d head → Counts b s' → CountsWidened s s' d head
    counts_written first next m x y keeps has has' there whole dir form map are =
        let r = reformed_map m x has in
        next m r.map y keeps r.has has' (header_kept x d head r.file few there whole dir form) map
        (first m x r.map (reads.has m x has) r.has there.there (rw reads.drafted are))
