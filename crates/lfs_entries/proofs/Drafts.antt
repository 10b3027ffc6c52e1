-- Names and links as they are drafted.
use Rattle.std.proofs.Common.{◌≡◌, ◌<◌, ◌*◌, ℕ, true, false, Some, refl, sym, subst, arith}
use Rattle.lfs_model.specs.Changing.{IsWithHeader}
use Rattle.lfs_model.specs.Stands.{LogMap}
use Rattle.lfs_model.specs.Tree.{slot_len}
use Rattle.lfs_files.specs.declared.header.Header.{Header}
use Rattle.lfs_files.specs.Files.{FilesState}
use Rattle.lfs_files.specs.Headers.{as_header, relinked}
use Rattle.lfs_files.specs.Making.{CountsRelinked, SetsLinks}
use Rattle.lfs_path.specs.Telling.{TellsFault}
use Rattle.lfs_entries.specs.Drafting.{Relinks}
use Rattle.lfs_entries.specs.Widening.{MayWiden}

-- ---- faults

module _ {S D : Type 0} (s s' : FilesState S D) where
  pub never_large : (d : ℕ) (head : Header) → 1024 * slot_len head.form < head.size → TellsFault s s' (MayWiden d head)
  never_large d head large m m' keeps has may = absurd (let small = may.small in omega (arith, small, large))

-- ---- other links

module _ {S D : Type 0} {s s' : FilesState S D} {n : ℕ} {h : Header} {links : ℕ} where
  pub links_drafted : 0 < links → SetsLinks s s' n h links → CountsRelinked s s' n h → Relinks s s' true n h links
  links_drafted some sets counts = record {
    lost = sets.lost some;
    fits = λ m m' has fits takes. sets.fits m m' has fits (takes refl);
    has = λ m m' has. (let f = sets.has m m' has in record {
      map = f.map;
      has = f.has;
      same = λ (never : true ≡ false). cc;
      file = λ there. f.file;
      keeps = λ log there. f.keeps log (there refl);
      counted = λ there. counts m m' f.map has f.has (there refl);
    });
  }

-- the links that it has
module _ {S D : Type 0} (s : FilesState S D) (n : ℕ) (h : Header) where
  same_links : {m : LogMap} → m.header n ≡ Some (as_header h) → IsWithHeader m n (Some (as_header (relinked h h.links))) m
  same_links there = record { own = there; version = refl; others = λ k other. refl; block = λ k i. refl }

  pub links_stay : {links : ℕ} → links ≡ h.links → Relinks s s false n h links
  links_stay same = subst (Relinks s s false n h) (sym same) record {
    lost = λ x. refl;
    fits = λ m m' has fits takes. fits;
    has = λ m m' has. record {
      map = m';
      has = has;
      same = λ still. refl;
      file = same_links;
      keeps = λ log there. log;
      counted = λ there are. are;
    };
  }
