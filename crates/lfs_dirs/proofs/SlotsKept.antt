-- Slots that stay, and none.
use Rattle.std.specs.Prelude.{slice_index}
use Rattle.std.proofs.Common.{◌≡◌, ◌*◌, ◌/◌, ◌%◌, ℕ, zero, suc, List, [], map, take, drop, refl, ◌∙◌, ap}
use Rattle.std.proofs.lemmas.List.{nil_from_length}
use Rattle.std.specs.List.{range_with_len}
use Rattle.lfs_model.specs.Objects.{IsDirectory}
use Rattle.lfs_model.specs.Stands.{LogMap}
use Rattle.lfs_model.specs.Tree.{slot_len}
use Rattle.lfs_model.specs.TreeOf.{object, slots}
use Rattle.lfs_model.proofs.ObjectBytes.{same_objects}
use Rattle.lfs_files.specs.declared.header.Header.{Header}
use Rattle.lfs_files.specs.Headers.{as_header}
use Rattle.lfs_dirs.specs.Directory.{slots_at}
use Rattle.lfs_dirs.specs.Keeping.{DirectoryStays, EmptyDirectory, SlotsStay}
use Rattle.lfs_dirs.proofs.SlotPlaces.{slots_many}

-- the slots of bytes
cut_up : ℕ → ℕ → List ℕ → List (List ℕ)
cut_up form size bytes = map (λ j. take (slot_len form) (drop (slot_len form * j) bytes)) (range_with_len 0 (size / slot_len form))

slots_are : (m : LogMap) (d : ℕ) (head : Header) → slots_at m d head ≡ cut_up head.form head.size (object m d (as_header head))
unfolding slots cut_up
slots_are m d head = refl

pub slots_stay : SlotsStay
slots_stay m m' d head head' blocks form size =
    cc (
      slots_are m' d head',
      same_objects m' m d d (as_header head') (as_header head) size
          (λ p low. ap (λ (b : List ℕ). slice_index b (p % 512)) (blocks (p / 512))),
      slots_are m d head,
    )

is_directory : (m m' : LogMap) (d : ℕ) (head head' : Header) → slots_at m' d head' ≡ slots_at m d head → head'.form ≡ head.form
    → head'.size ≡ head.size → IsDirectory m d (as_header head) → IsDirectory m' d (as_header head')
is_directory m m' d head head' same form size dir = record {
  whole = rw (form, size) dir.whole;
  formed = rw (same, form) dir.formed;
  apart = rw (same, form) dir.apart;
}

pub directory_stays : DirectoryStays
directory_stays m m' d head head' blocks form size dir =
    let same = slots_stay m m' d head head' blocks form size in
    (is_directory m m' d head head' same form size dir, cc)

no_rest : (form : ℕ) → 0 % slot_len form ≡ 0
no_rest zero = refl
no_rest (suc form) = refl

no_count : (form : ℕ) → 0 / slot_len form ≡ 0
no_count zero = refl
no_count (suc form) = refl

pub empty_directory : EmptyDirectory
empty_directory m d head size =
    let none : slots_at m d head ≡ [] = nil_from_length (slots_at m d head) (slots_many m d head ∙ (cc (no_count head.form))) in (
      record {
        whole = cc (no_rest head.form);
        formed = rw none tt;
        apart = rw none refl;
      },
      cc,
    )
