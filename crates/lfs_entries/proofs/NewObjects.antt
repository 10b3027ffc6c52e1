-- A new object without a name: a file or a directory without a byte, or a link with its text, from the draft to the log map.
use Rattle.std.proofs.Common.{◌≡◌, ◌<◌, ◌≤◌, ◌+◌, ◌/◌, ◌%◌, ℕ, List, [], length, Some, None, refl, sym, ◌∙◌, ap, subst}
use Rattle.std.proofs.Common.{⊎_elim, arith, slice_index}
use Rattle.std.specs.Prelude.{max}
use Rattle.std.proofs.lemmas.Bool.{cases_lt}
use Rattle.std.proofs.lemmas.List.{nil_from_length}
use Rattle.lfs_model.specs.declared.Kind.{Kind}
use Rattle.lfs_model.specs.declared.Kind.TheVariants as kind
use Rattle.lfs_model.specs.Changing.{IsWithHeader}
use Rattle.lfs_model.specs.Encodes.{HasData, IsLogMap}
use Rattle.lfs_model.specs.Inode.{IsForm}
use Rattle.lfs_model.specs.Objects.{AreStoredWhole, IsChangedAt, IsObject, byte_in}
use Rattle.lfs_model.specs.Stands.{LogMap}
use Rattle.lfs_model.specs.TreeOf.{object}
use Rattle.lfs_model.proofs.ObjectBytes.{object_is}
use Rattle.lfs_model.proofs.ObjectMaps.{object_kept}
use Rattle.lfs_model.proofs.ObjectTrees.{with_header_at}
use Rattle.lfs_files.specs.declared.header.Header.{Header}
use Rattle.lfs_files.specs.Files.{Counts, FilesState, Writes, WritesFile}
use Rattle.lfs_files.specs.Headers.{FitsHeader, as_header, first_header, resized}
use Rattle.lfs_files.specs.Making.{CountsMade, Makes}
use Rattle.lfs_entries.specs.NewObjects.{CountsObject, DraftsObject, IsMade, NewKind, form_of_new, kind_of_new, new_directory, new_file}
use Rattle.lfs_entries.specs.NewObjects.{new_header, new_link}

module _ (m : LogMap) {m1 : LogMap} (n : ℕ) (k : NewKind) (made : IsMade m n k m1) (some : 1 ≤ n) (free : m.header n ≡ None)
    (formed : IsForm m.version (kind_of_new k) (form_of_new k)) where
  made_object : IsLogMap m → IsObject m1 n (as_header (new_header k))
  made_object log = record {
    number = some;
    root = λ e. absurd (let root = log.root in let both : Some root.0 ≡ None = sym root.1 ∙ ap m.header (sym e) ∙ free in cc);
    form = subst (λ (v : ℕ). IsForm v (kind_of_new k) (form_of_new k)) (sym made.changed.version) formed;
    size = made.small;
    whole = made.whole;
    ends = made.ends;
  }

  pub made_log : IsLogMap m → IsLogMap m1
  made_log log = object_kept m m1 n (as_header (new_header k)) log made.changed made.own (made_object log)

-- ---- its header alone

module _ {m m1 : LogMap} (log : IsLogMap m) {n : ℕ} (free : m.header n ≡ None) (h : Header)
    (with_it : IsWithHeader m n (Some (as_header h)) m1) where
  -- what has no header has no block
  no_data : (i : ℕ) → HasData m n i → ⊥
  no_data i has = let there = log.within n i has in let both : None ≡ Some there.0 = sym free ∙ there.1 in absurd (cc)

  no_block : (i : ℕ) → m1.block n i ≡ []
  no_block i = with_it.block n i ∙ nil_from_length (m.block n i) (⊎_elim (λ (some : 0 < length (m.block n i)). absurd (no_data i some))
      (λ (none : length (m.block n i) ≤ 0). omega arith) (cases_lt 0 (length (m.block n i))))

  new_data : (i : ℕ) → HasData m1 n i → ⊥
  new_data i has = let none = ap length (no_block i) in omega arith

  blank_whole : AreStoredWhole m1 n
  blank_whole = record { long = λ i has. absurd (new_data i has); nonzero = λ i has. absurd (new_data i has) }

  blank_byte : (p : ℕ) → byte_in m1 n p ≡ 0
  blank_byte p = ap (λ (b : List ℕ). slice_index b (p % 512)) (no_block (p / 512))

  header_changed : IsChangedAt m n m1
  header_changed = with_header_at m m1 n with_it

none_small : 0 ≤ 8511488
none_small = omega arith

-- a file or a directory without a byte
no_bytes : (m : LogMap) (n : ℕ) (k : Kind) (form : ℕ) → object m n (as_header (first_header k form 0)) ≡ []
unfolding object
no_bytes m n k form = refl

module _ (m : LogMap) {m1 : LogMap} (log : IsLogMap m) (n : ℕ) (free : m.header n ≡ None) where
  file_made : IsWithHeader m n (Some (as_header (first_header kind.File 0 0))) m1 → IsMade m n new_file m1
  file_made with_it = record {
    own = with_it.own;
    changed = header_changed log free (first_header kind.File 0 0) with_it;
    bytes = no_bytes m1 n kind.File 0;
    small = none_small;
    whole = blank_whole log free (first_header kind.File 0 0) with_it;
    ends = λ p le. blank_byte log free (first_header kind.File 0 0) with_it p;
  }

  directory_made : (form : ℕ) → IsWithHeader m n (Some (as_header (first_header kind.Directory form 0))) m1
      → IsMade m n (new_directory form) m1
  directory_made form with_it = record {
    own = with_it.own;
    changed = header_changed log free (first_header kind.Directory form 0) with_it;
    bytes = no_bytes m1 n kind.Directory form;
    small = none_small;
    whole = blank_whole log free (first_header kind.Directory form 0) with_it;
    ends = λ p le. blank_byte log free (first_header kind.Directory form 0) with_it p;
  }

-- a link whose text is laid over its zeros
module _ (m blank m1 : LogMap) (log : IsLogMap m) (n : ℕ) (free : m.header n ≡ None) (text : List ℕ) (short : length text ≤ 1023) where
  abbrev h : Header
  h = first_header kind.Link 0 (length text)

  link_made : IsWithHeader m n (Some (as_header h)) blank → WritesFile blank m1 n h (resized h (max (length text) (0 + length text))) 0 text
      → IsMade m n (new_link text) m1
  link_made with_it writes = record {
    own = writes.header ∙ ap (λ (size : ℕ). Some (as_header (resized h size))) same_size;
    changed = record {
      headers = λ q ne. writes.only.headers q ne ∙ (header_changed log free h with_it).headers q ne;
      blocks = λ q i ne. writes.only.blocks q i ne ∙ (header_changed log free h with_it).blocks q i ne;
      version = writes.only.version ∙ with_it.version;
    };
    bytes = object_is m1 n (as_header h) text refl (λ p lt. ap (byte_in m1 n) (from_start p) ∙ writes.bytes.bytes.inside p lt);
    small = few;
    whole = writes.whole (blank_whole log free h with_it);
    ends = λ p le.
        (let past : length text ≤ p = le in writes.bytes.bytes.behind p (omega (arith, past)) ∙ blank_byte log free h with_it p);
  }
    where
      from_start : (p : ℕ) → p ≡ 0 + p
      from_start p = omega arith

      few : length text ≤ 8511488
      few = omega (arith, short)

      same_size : max (length text) (0 + length text) ≡ length text
      same_size = omega arith

-- ---- as it is drafted

module _ {S D : Type 0} (s s' : FilesState S D) (n : ℕ) where
  pub file_drafted : Makes s s' n (first_header kind.File 0 0) → DraftsObject s s' n new_file
  file_drafted makes = record {
    lost = makes.lost;
    fits = λ m m' has fits takes.
        makes.fits m m' has fits record { free = takes.free; apart = takes.apart.inode; header = takes.header };
    has = λ m m' keeps has. (let f = makes.has m m' has in
        record { map = f.map; has = f.has; made = λ log free. file_made m' log n free f.file });
  }

  pub directory_drafted : (form : ℕ) → Makes s s' n (first_header kind.Directory form 0) → DraftsObject s s' n (new_directory form)
  directory_drafted form makes = record {
    lost = makes.lost;
    fits = λ m m' has fits takes.
        makes.fits m m' has fits record { free = takes.free; apart = takes.apart.inode; header = takes.header };
    has = λ m m' keeps has. (let f = makes.has m m' has in
        record { map = f.map; has = f.has; made = λ log free. directory_made m' log n free form f.file });
  }

  pub made_counted : CountsMade s s' n → CountsObject s s' n
  made_counted counts m a b keeps has has' log log' free = counts m a b has has' log free

-- a link: its header, and then its text
module _ {S D : Type 0} {s a : FilesState S D} (s' : FilesState S D) {n : ℕ} (text : List ℕ) (short : length text ≤ 1023)
    (makes : Makes s a n (first_header kind.Link 0 (length text))) where
  pub link_drafted : Writes a s' n (first_header kind.Link 0 (length text)) 0 text → DraftsObject s s' n (new_link text)
  link_drafted writes = record {
    lost = λ x. writes.lost x ∙ makes.lost x;
    fits = λ m m' has fits takes. (
        let f = makes.has m m' has in
        writes.fits m f.map f.has
        (makes.fits m m' has fits record { free = takes.free; apart = takes.apart.inode; header = takes.header }) record {
          there = f.file.own;
          apart = record { inode = makes.lost _ ∙ takes.apart.inode; above = λ i. makes.lost _ ∙ takes.apart.above i };
          within = λ none. omega (arith, short);
          header = subst (λ (z : ℕ). FitsHeader kind.Link 0 1 z) (sym same_size) takes.header;
        });
    has = λ m m' keeps has. (
        let f = makes.has m m' has in
        let g = writes.file m f.map keeps f.has in record {
          map = g.map;
          has = g.has;
          made = λ log free. link_made m' f.map g.map log n free text short f.file g.file;
        });
  }
    where
      same_size : max (length text) (0 + length text) ≡ length text
      same_size = omega arith

  pub link_counted : CountsMade s a n → Counts a s' → CountsObject s s' n
  link_counted made counts m x y keeps has has' log log' free are =
      let f = makes.has m x has in
      counts m f.map y keeps f.has has' (f.keeps log free tt) log' (made m x f.map has f.has log free are)
