-- What is read of objects, behind their headers.
use Rattle.std.proofs.Common.{◌≡◌, ℕ, List, refl, sym, subst, arith}
use Rattle.lfs_model.specs.declared.Kind.{Kind}
use Rattle.lfs_model.specs.declared.Kind.TheVariants as kind
use Rattle.lfs_model.specs.Stands.{LogMap}
use Rattle.lfs_files.specs.declared.header.Header.{Header}
use Rattle.lfs_files.specs.Files.{FilesState, IsFault, Reads}
use Rattle.lfs_files.specs.Headers.{as_header}
use Rattle.lfs_path.specs.Seeing.{HasHeader}
use Rattle.lfs_path.specs.Telling.{Tells}
use Rattle.lfs_entries.specs.Reading.{ReadsObject, ReadsSized, ReadsText, ShowsHead}
use Rattle.lfs_entries.specs.Telling.{InEach}

module _ {S D : Type 0} {s a s' : FilesState S D} (one : Reads s a) (two : Reads a s') (n : ℕ) (head : Header)
    (header : Tells s a (λ m. Unit {0}) (HasHeader n head)) where
  at : (m m' : LogMap) → s'.device.keeps_model → s.has m m' → HasHeader n head m'
  at m m' keeps has = header m m' (two.looks.carries.kept_before keeps) has tt

  pub object_read : (from count : ℕ) (bytes : List ℕ) → InEach a s' (ReadsSized n head.size from count bytes)
      → ReadsObject s s' n from count bytes
  object_read from count bytes reads =
      record { head = head; header = at; is = λ m m' keeps has. reads m m' keeps (one.has m m' has) (as_header head) refl }

  pub text_read : head.kind ≡ kind.Link → (bytes : List ℕ) → InEach a s' (ReadsSized n head.size 0 1023 bytes)
      → ReadsText s s' n bytes
  text_read link bytes reads = record {
    head = head;
    header = at;
    link = link;
    is = λ m m' keeps has. reads m m' keeps (one.has m m' has) (as_header head) refl;
  }

  fails : IsFault a s' → IsFault s s'
  fails failed m m' keeps has =
      let rose = failed m m' keeps (one.has m m' has) in
      let before = one.looks.carries.failures in
      omega (arith, rose, before)

-- ---- what the listing of a tree shows
module _ {S D : Type 0} (s s' : FilesState S D) (n : ℕ) (head : Header) (bytes : List ℕ) where
  pub shows_file : head.kind ≡ kind.File → InEach s s' (ReadsSized n head.size 0 16 bytes)
      → InEach s s' (λ m. ShowsHead m n head head.kind bytes)
  shows_file is reads m m' keeps has =
      subst (λ (k : Kind). ShowsHead m' n head k bytes) (sym is) (reads m m' keeps has (as_header head) refl)

  pub shows_link : head.kind ≡ kind.Link → InEach s s' (ReadsSized n head.size 0 1023 bytes)
      → InEach s s' (λ m. ShowsHead m n head head.kind bytes)
  shows_link is reads m m' keeps has =
      subst (λ (k : Kind). ShowsHead m' n head k bytes) (sym is) (reads m m' keeps has (as_header head) refl)
