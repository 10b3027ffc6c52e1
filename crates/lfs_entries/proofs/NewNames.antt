-- New names drafted, behind what they give.
use Rattle.std.proofs.Common.{◌≡◌, ◌≢◌, ◌≤◌, ◌+◌, ℕ, List, Some, None, sym, ◌∙◌, ap, arith}
use Rattle.lfs_model.specs.Stands.{LogMap}
use Rattle.lfs_files.specs.declared.header.Header.{Header}
use Rattle.lfs_files.specs.Files.{Counts, FilesState, IsApart, IsFault, Redrafts}
use Rattle.lfs_files.specs.Headers.{as_header}
use Rattle.lfs_files.specs.Making.{CountsRelinked, SetsLinks}
use Rattle.lfs_path.specs.dirs.Adding.{Adds}
use Rattle.lfs_entries.specs.Drafting.{Relinks}
use Rattle.lfs_entries.specs.NewNames.{CountsEntry, CountsName, DraftsEntry, LacksObject, holder_with}
use Rattle.lfs_entries.specs.NewObjects.{CountsObject, DraftsObject, IsMade, NewKind, makes_directory}
use Rattle.lfs_entries.proofs.NewObjects.{made_log}

module _ {S D : Type 0} where
  -- ---- draft behind draft
  pub apart_same : (a b : FilesState S D) {n : ℕ} → ((x : _) → b.lost x ≡ a.lost x) → IsApart a.lost n → IsApart b.lost n
  apart_same a b same is = record { inode = same _ ∙ is.inode; above = λ i. same _ ∙ is.above i }

  -- what failed behind a draft, where there are files with it
  pub fails_after : (a b c : FilesState S D) → Redrafts a b → Redrafts b c
      → ((m m' : LogMap) → b.device.keeps_model → a.has m m' → (x : LogMap) × b.has m x) → IsFault b c → IsFault a c
  fails_after a b c one two has_files failed m m' keeps has =
      let x = has_files m m' (two.looks.carries.kept_before keeps) has in
      let rose = failed m x.0 keeps x.1 in
      let before = one.looks.carries.failures in
      omega (arith, rose, before)

-- ---- a new object, the links of its directory, and its name
module _ {S D : Type 0} (s a b s' : FilesState S D) (d : ℕ) (head : Header) (n : ℕ) (some : 1 ≤ n) (k : NewKind) (name : List ℕ)
    (one : Redrafts s a) (two : Redrafts a b) (three : Redrafts b s') (object : DraftsObject s a n k)
    (links : Relinks a b (makes_directory k) d head (holder_with head k).links) (adds : Adds b s' d (holder_with head k) n name) where
  abbrev head' : Header
  head' = holder_with head k

  -- what isn't there is another
  others : (m' : LogMap) → LacksObject m' d head n → d ≢ n
  others m' lacks same = let both : None ≡ Some (as_header head) = sym lacks.free ∙ ap m'.header (sym same) ∙ lacks.there in cc

  module _ (m m' : LogMap) (keeps : s'.device.keeps_model) (has : s.has m m') (lacks : LacksObject m' d head n) where
    kept : a.device.keeps_model
    kept = two.looks.carries.kept_before (three.looks.carries.kept_before keeps)

    abbrev made : LogMap
    made = (object.has m m' kept has).map

    made_has : a.has m made
    made_has = (object.has m m' kept has).has

    is_made : IsMade m' n k made
    is_made = (object.has m m' kept has).made lacks.map lacks.free

    there : made.header d ≡ Some (as_header head)
    there = is_made.changed.headers d (others m' lacks) ∙ lacks.there

    abbrev linked : LogMap
    linked = (links.has m made made_has).map

    linked_has : b.has m linked
    linked_has = (links.has m made made_has).has

  pub entry_drafted : DraftsEntry s s' d head n k name
  entry_drafted = record {
    lost = λ x. adds.writes.lost x ∙ links.lost x ∙ object.lost x;
    fits = λ m m' keeps has fits takes.
        let lacks = takes.lacks in
        let l = links.has m (made m m' keeps has lacks) (made_has m m' keeps has lacks) in
        let at = there m m' keeps has lacks in
        adds.writes.fits m l.map l.has
        (links.fits m (made m m' keeps has lacks) (made_has m m' keeps has lacks) (object.fits m m' has fits takes.object)
        (λ changes. record {
          there = at;
          linked = takes.linked;
          apart = object.lost _ ∙ takes.named.apart.inode;
          header = takes.links;
        })) record {
          there = (l.file at).own;
          apart = apart_same a b links.lost (apart_same s a object.lost takes.named.apart);
          within = λ none. absurd (takes.named.staged none);
          header = takes.named.longer;
        };
    has = λ m m' keeps has lacks.
        let l = links.has m (made m m' keeps has lacks) (made_has m m' keeps has lacks) in
        let f = adds.has m l.map keeps l.has in record {
          made = made m m' keeps has lacks;
          linked = l.map;
          map = f.map;
          has = f.has;
          object = is_made m m' keeps has lacks;
          links = l.file (there m m' keeps has lacks);
          same = l.same;
          names = record { file = f.file; more = f.more };
        };
  }

  pub entry_counted : CountsObject s a n → Counts b s' → CountsEntry s s' d head n k
  entry_counted counts recounts m x y keeps has has' lacks form log' are =
      let at = there m x keeps has lacks in
      let l = links.has m (made m x keeps has lacks) (made_has m x keeps has lacks) in
      let log = made_log x n k (is_made m x keeps has lacks) some lacks.free form lacks.map in
      recounts m l.map y keeps l.has has' (l.keeps log (λ changes. at)) log'
      (l.counted (λ changes. at)
      (counts m x (made m x keeps has lacks) (kept m x keeps has lacks) has (made_has m x keeps has lacks) lacks.map log lacks.free are))

-- ---- a link more of an object, and its name
module _ {S D : Type 0} {s a s' : FilesState S D} {d : ℕ} {head : Header} {n : ℕ} {object : Header} {name : List ℕ}
    (sets : SetsLinks s a n object (object.links + 1)) (adds : Adds a s' d head n name) where
  pub name_counted : CountsRelinked s a n object → Counts a s' → CountsName s s' n object
  name_counted relinks recounts m x y keeps has has' log there log' are =
      let l = sets.has m x has in
      recounts m l.map y keeps l.has has' (l.keeps log there) log' (relinks m x l.map has l.has there are)
