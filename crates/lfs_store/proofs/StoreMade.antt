-- What drafts of files made, reformed, relinked and removed are to the layers above.
use Rattle.std.proofs.Common.{◌≡◌, ◌<◌, ◌≤◌, ◌==◌, ℕ, length, Some, None, refl, sym, ◌∙◌, ap, subst, arith}
use Rattle.std.proofs.lemmas.Bool.{ne_eqb}
use Rattle.lfs_model.specs.Device.{DeviceState}
use Rattle.lfs_model.specs.Entry as entry
use Rattle.lfs_model.specs.Memory.{is_unlinked}
use Rattle.lfs_model.specs.Stands.{LogMap}
use Rattle.lfs_model.proofs.ObjectMaps.{object_lost}
use Rattle.lfs_files.specs.declared.header.Header.{Header}
use Rattle.lfs_files.specs.Files as files
use Rattle.lfs_files.specs.Files.{FilesState}
use Rattle.lfs_files.specs.Headers.{FitsHeader, as_header, reformed, relinked}
use Rattle.lfs_files.specs.Making as files_made
use Rattle.lfs_cleaner.specs.log.memory.declared.batch.LastLink.{LastLink}
use Rattle.lfs_cleaner.specs.log.memory.declared.batch.Removal.{Removal}
use Rattle.lfs_cleaner.specs.log.memory.declared.batch.Loss.TheVariants.{Link, File}
use Rattle.lfs_cleaner.specs.log.memory.Batch.{IsNoChange, staged}
use Rattle.lfs_cleaner.specs.log.memory.Changing.{header_with, with_header}
use Rattle.lfs_cleaner.specs.log.memory.Removing.{without_file}
use Rattle.lfs_cleaner.specs.log.verify.declared.totals.BlockTotals.{BlockTotals}
use Rattle.lfs_cleaner.proofs.of_log.of_memory.LogMaps.{is_with_header}
use Rattle.lfs_cleaner.proofs.of_log.of_memory.Removed.{is_without}
use Rattle.lfs_store.specs.declared.draft.Draft.{Draft}
use Rattle.lfs_store.specs.declared.store.Store.{Store}
use Rattle.lfs_store.specs.Drafting.{LosesOnly, PutsHeader}
use Rattle.lfs_store.specs.Recounting.{Recounts}
use Rattle.lfs_store.specs.Seen.{HasMap, StagedLog, files_of, state_of}
use Rattle.lfs_store.proofs.Apart.{file_apart, link_apart, no_change}
use Rattle.lfs_store.proofs.Growths.{room_few}
use Rattle.lfs_store.proofs.Makings.{made_map, relinked_map, without_changed}
use Rattle.lfs_store.proofs.Recounted.{made_counts, relinked_totals}
use Rattle.lfs_store.proofs.Writings.{takes_header}

module _ {D : Type 0} (state : D → DeviceState) (s : Store D) (d' : Draft) (u' : BlockTotals) where
  abbrev S : FilesState StagedLog Draft
  S = files_of state s

  abbrev S' : FilesState StagedLog Draft
  S' = state_of state s.log d' u'

  -- the log map with the new draft
  became : {m m' x : LogMap} → HasMap state s.log s.draft.changes m m' → x ≡ staged d'.changes m → HasMap state s.log d'.changes m x
  became has draft =
      record { checkpoint = has.checkpoint; acknowledged = has.acknowledged; holds = has.holds; draft = draft }

  at : (n : ℕ) {m m' : LogMap} → HasMap state s.log s.draft.changes m m' → (staged s.draft.changes m).header n ≡ m'.header n
  at n has = cc

  -- a header drafted by itself
  abbrev Puts : ℕ → Header → Type 0
  Puts n head = (m : LogMap) → staged d'.changes m ≡ with_header (staged s.draft.changes m) n (Some (as_header head))

  put : (n : ℕ) (head : Header) → Puts n head → {m m' : LogMap} → HasMap state s.log s.draft.changes m m'
      → with_header m' n (Some (as_header head)) ≡ staged d'.changes m
  put n head puts {m} has = cc (has.draft, puts m)

  pub header_counts : {n : ℕ} {old : Header} (head : Header) → 1 ≤ n → n ≤ 4095 → Puts n head
      → files.CountsReformed S (state_of state s.log d' s.drafted) n old
  header_counts head some few puts m a b has has' there are =
      rw (← (put _ _ puts has ∙ sym has'.draft)) (relinked_totals _ _ _ _ some few there are)

  -- ---- another form
  pub reforms : {n : ℕ} (head : Header) (form size : ℕ) → PutsHeader s.draft.changes d'.changes n (reformed head form size)
      → files.Reforms S S' n head form size
  reforms {n} head form size puts = record {
    lost = λ y. cc;
    headers = puts.few;
    blocks = cc;
    asked = λ none empty. room_few d'.changes 1 0 (omega arith) (omega (arith, ap length (ap (λ v. v.items) puts.blocks)));
    fits = λ m m' has fits takes. puts.fits m fits (takes_header (at _ has ∙ takes.there) refl takes.apart.inode takes.header);
    file = λ m m' has. record {
      map = with_header m' n (Some (as_header (reformed head form size)));
      has = became has (put _ _ puts.map has);
      file = is_with_header m' n;
    };
  }

  -- ---- a file is made
  pub makes : (n : ℕ) (head : Header) → 1 ≤ n → head.size ≤ 8511488 → PutsHeader s.draft.changes d'.changes n head
      → files_made.Makes S S' n head
  makes n head some few puts = record {
    lost = λ y. cc;
    headers = puts.few;
    blocks = cc;
    fits = λ m m' has fits takes. puts.fits m fits record {
      header = takes.header;
      name = λ there. (let never : None ≡ Some there.0 = cc in absurd (cc));
      apart = takes.apart;
    };
    has = λ m m' has. record {
      map = with_header m' n (Some (as_header head));
      has = became has (put _ _ puts.map has);
      file = is_with_header m' n;
      keeps = λ whole free form. made_map _ _ _ whole free some few form;
    };
  }

  pub counts_made : (n : ℕ) {head : Header} → 1 ≤ n → n ≤ 4095 → PutsHeader s.draft.changes d'.changes n head
      → Recounts s.drafted u' (record { data_blocks = 0; meta_blocks = 0 }) (record { data_blocks = 0; meta_blocks = 1 })
      → files_made.CountsMade S S' n
  counts_made n some few puts recounts m a b has has' whole free are =
      made_counts _ _ _ _ some few (put _ _ puts.map has ∙ sym has'.draft) whole free recounts are

  -- ---- its links
  has_relinked : (n : ℕ) (head : Header) (links : ℕ) → Puts n (relinked head links) → (m m' : LogMap)
      → HasMap state s.log s.draft.changes m m'
      → files_made.HasRelinked S' m m' n head links
  has_relinked n head links puts m m' has = record {
    map = with_header m' n (Some (as_header (relinked head links)));
    has = became has (put _ _ puts has);
    file = is_with_header m' n;
    keeps = λ whole there. relinked_map _ _ (as_header head) _ whole there;
  }

  pub relinks : {n : ℕ} (head : Header) (links : ℕ) → 1 ≤ links → PutsHeader s.draft.changes d'.changes n (relinked head links)
      → files_made.SetsLinks S S' n head links
  relinks {n} head links some puts = record {
    lost = λ _ y. cc;
    apart = λ k was. rw puts.loss was;
    headers = puts.few;
    blocks = cc;
    fits = λ m m' has fits takes. puts.fits m fits
        (takes_header {c = s.draft.changes} {m = m} {n = n} {head = head} {head' = relinked head links} (cc)
        (both_linked links head.links some takes.linked)
        takes.apart takes.header);
    has = has_relinked n head links puts.map;
  }
    where
      both_linked : (a b : ℕ) → 1 ≤ a → 0 < b → (a == 0) ≡ (b == 0)
      both_linked a b some linked = ne_eqb a 0 (λ e. omega arith) ∙ sym (ne_eqb b 0 (λ e. omega arith))

  module _ (none : IsNoChange s.draft.changes) (headers : d'.changes.headers ≡ s.draft.changes.headers)
      (blocks : d'.changes.blocks ≡ s.draft.changes.blocks)
    where
      was : (m m' : LogMap) → HasMap state s.log s.draft.changes m m' → m' ≡ m
      was m m' has = cc

      -- the last of them is lost
      module _ (n : ℕ) (head : Header) (l : LastLink) (number : l.number ≡ n)
          (same : header_with l.kind l.form 0 l.size ≡ as_header (relinked head 0)) (only : LosesOnly d'.changes (Link l)) where
        pub link_put : Puts n (relinked head 0)
        link_put m =
            cc (only.map m, number, same, no_change {c = s.draft.changes} {m = m} none)

        pub loses_link : d'.changes.loss ≡ Link l → files_made.SetsLinks S S' n head 0
        loses_link lost = record {
          lost = λ never. absurd (omega arith);
          apart = λ k _. rw lost (link_apart l _);
          headers = omega (arith, ap length (ap (λ v. v.items) headers));
          blocks = cc;
          fits = λ m m' has fits takes. (
              let there = ap m.header number ∙ sym (ap (λ (x : LogMap). x.header n) (was m m' has)) ∙ takes.there in
              only.fits m (
                subst (λ (x : entry.Header). FitsHeader x.kind x.form x.links x.size) (sym same) takes.header,
                (as_header head, there),
                ap is_unlinked there ∙ ne_eqb head.links 0 (λ e. omega arith),
              ));
          has = has_relinked _ _ _ link_put;
        }

      -- ---- it goes
      pub removes : (n : ℕ) (r : Removal) → r.number ≡ n → d'.changes.loss ≡ File r → LosesOnly d'.changes (File r)
          → files_made.Removes S S' n
      removes n r number lost only = record {
        headers = cc;
        blocks = cc;
        apart = λ k ne. rw lost (file_apart r _ (λ e. ne (e ∙ number)));
        fits = λ m. only.fits m tt;
        has = λ m m' has. record {
          map = without_file n m';
          has = became has (cc);
          file = is_without m' n;
          keeps = λ whole other. (
              let gone = is_without m' n in
              object_lost m' (without_file n m') n whole (without_changed _ _) gone.header gone.block other);
        };
      }
