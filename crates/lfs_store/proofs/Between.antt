-- What a draft does to a file between two measures of it.
use Rattle.std.specs.Int.{div_ceil}
use Rattle.std.proofs.Common.{◌≡◌, ◌<◌, ◌≤◌, ◌+◌, ◌/◌, ⊎_elim, ℕ, List, length, refl, sym, ◌∙◌, subst, arith}
use Rattle.std.proofs.lemmas.Bool.{cases_lt}
use Rattle.lfs_model.specs.Device.{DeviceState}
use Rattle.lfs_model.specs.Encodes.{IsLogMap}
use Rattle.lfs_model.specs.Stands.{LogMap}
use Rattle.lfs_files.specs.Files as files
use Rattle.lfs_files.specs.declared.header.Header.{Header}
use Rattle.lfs_files.specs.Files.{FilesState, HasSized, HasWritten, IsLoneWrite, SetsLen, Shrinks, Writes}
use Rattle.lfs_files.specs.Making.{HasRemoved, Removes}
use Rattle.lfs_cleaner.specs.log.verify.declared.totals.BlockTotals.{BlockTotals}
use Rattle.lfs_store.specs.declared.draft.Draft.{Draft}
use Rattle.lfs_store.specs.declared.store.Store.{Store}
use Rattle.lfs_store.specs.declared.totals.Measure.{Measure}
use Rattle.lfs_store.specs.Keeping.{OnlyCounts, RedraftsUncounted}
use Rattle.lfs_store.specs.Measuring.{Measures}
use Rattle.lfs_store.specs.Reading.{ReadsStore}
use Rattle.lfs_store.specs.Recounting.{AreTotals, HasChanged, Remeasures}
use Rattle.lfs_store.specs.Seen.{StagedLog, files_of, state_of}
use Rattle.lfs_files.proofs.FilesCompose.{still_apart, writes_behind}
use Rattle.lfs_store.proofs.Recountings.{recounted, same_high}
use Rattle.lfs_store.proofs.StoreSeen.{seen_read}

pub removed_file : {S D : Type 0} {s' : FilesState S D} (m : LogMap) {m' : LogMap} {n : ℕ} → HasRemoved s' m m' n
    → HasChanged s' m m' n 0 16624
removed_file m gone = record {
  map = gone.map;
  has = gone.has;
  only = record { headers = gone.file.headers; blocks = λ k i ne. gone.file.blocks k i ne; version = gone.file.version };
  around = λ i lt out. ⊎_elim (λ (low : i < 0). absurd (omega arith)) (λ (high : 16624 ≤ i). absurd (omega arith)) out;
}

pub written_file : {S D : Type 0} {s' : FilesState S D} (m : LogMap) {m' : LogMap} {n : ℕ} {h h' : Header} {at : ℕ} {w : List ℕ} {to : ℕ}
    → to ≡ div_ceil (at + length w) 512 → HasWritten s' m m' n h h' at w → HasChanged s' m m' n (at / 512) to
written_file m {at} end is = record {
  map = is.map;
  has = is.has;
  only = is.file.only;
  around = λ i lt out. is.around i (rw (← end) out);
}

pub sized_file : {S D : Type 0} {s' : FilesState S D} (m : LogMap) {m' : LogMap} {n : ℕ} {h h' : Header} {len : ℕ}
    → HasSized s' m m' n h h' len
    → HasChanged s' m m' n (len / 512) 16624
sized_file m {len} is = record {
  map = is.map;
  has = is.has;
  only = is.file.only;
  around = λ i lt out. ⊎_elim (λ (low : i < len / 512). is.file.below i low) (λ (high : 16624 ≤ i). absurd (omega arith)) out;
}

module _ {D : Type 0} {state : D → DeviceState} {a b c d : Store D} (first : ReadsStore state a b) (last : OnlyCounts state c d) where
  abbrev A : FilesState StagedLog Draft
  A = files_of state a

  abbrev B : FilesState StagedLog Draft
  B = files_of state b

  abbrev C : FilesState StagedLog Draft
  C = files_of state c

  abbrev E : FilesState StagedLog Draft
  E = files_of state d

  before : files.Reads A B
  before = seen_read _ _ _ first

  -- all but what is counted
  after : files.Reads C (state_of state d.log d.draft c.drafted)
  after = seen_read _ _ _ record { log = last.reads; draft = last.draft; drafted = refl }

  pub removes_between : {n : ℕ} → Removes B C n → Removes A E n
  removes_between is = record {
    headers = cc;
    blocks = cc;
    apart = λ k ne. let apart = is.apart k ne in
        record { inode = cc; above = λ i. after.lost _ ∙ apart.above i };
    fits = λ m. after.fits m (is.fits m);
    has = λ m m' has. let gone = is.has m m' (before.has m m' has) in
        record { map = gone.map; has = after.has m gone.map gone.has; file = gone.file; keeps = gone.keeps };
  }

  pub writes_between : {n : ℕ} {head : Header} {at : ℕ} {w : List ℕ} → Writes B C n head at w → Writes A E n head at w
  writes_between {n} {head} {at} {w} writes =
      let is = writes_behind A B n before writes in
      record {
        lost = λ x. after.lost x ∙ is.lost x;
        headers = omega (arith, after.headers);
        blocks = omega (arith, after.blocks);
        fits = λ m m' has fits takes. after.fits m (is.fits m m' has fits takes);
        file = λ m m' keeps has. let now = is.file m m' (after.looks.carries.kept_before keeps) has in
            record { map = now.map; has = after.has m now.map now.has; file = now.file; around = now.around };
      }

  pub asked_between : {w : List ℕ} {most : ℕ} → (IsLoneWrite B w → C.asked ≤ most) → IsLoneWrite A w → E.asked ≤ most
  asked_between asked lone =
      rw after.asked (asked record { headers = omega (arith, before.headers); blocks = cc; few = lone.few })

  pub sets_between : {n : ℕ} {head : Header} {len : ℕ} → SetsLen B C n head len → SetsLen A E n head len
  sets_between is = record {
    cut = λ less x. after.lost x ∙ is.cut less x;
    kept = λ more x. after.lost x ∙ is.kept more x;
    headers = omega (arith, after.headers);
    blocks = omega (arith, after.blocks);
    fits = λ m m' has there fits. after.fits m (is.fits m m' (before.has m m' has) there fits);
    file = λ m m' keeps has. let now = is.file m m' (after.looks.carries.kept_before keeps) (before.has m m' has) in
        record { map = now.map; has = after.has m now.map now.has; file = now.file };
  }

  pub shrinks_between : {n : ℕ} {head : Header} {len : ℕ} → Shrinks B C n head len → Shrinks A E n head len
  shrinks_between {n} is = record {
    lost = λ x. after.lost x ∙ is.lost x ∙ before.lost x;
    headers = omega (arith, before.headers, after.headers);
    blocks = omega (arith, before.blocks, after.blocks);
    fits = λ m m' has fits takes. after.fits m (is.fits m m' (before.has m m' has) (before.fits m fits) record {
      there = takes.there;
      apart = still_apart before takes.apart;
      within = takes.within;
      header = takes.header;
    });
    has = λ m m' keeps has. let now = is.has m m' (after.looks.carries.kept_before keeps) (before.has m m' has) in
        record { map = now.map; has = after.has m now.map now.has; header = now.header; file = now.file };
  }

  -- ---- its totals
  pub counts_between : {n from to : ℕ} {found : Measure} → 1 ≤ n → n ≤ 4095 → from ≤ to → to ≤ 16624
      → Measures state a.log b.log a.draft.changes n from to found → RedraftsUncounted state b c
      → Remeasures state c.log d.log c.draft.changes n from to found c.drafted d.drafted
      → ((m m' : LogMap) → (state c.log.device).keeps_model → B.has m m' → HasChanged C m m' n from to) → files.Counts A E
  counts_between {n} {from} {to} {found} some few order low measured next again changes m x y keeps has has' whole whole' are =
      let keeps_c = last.reads.looks.carries.kept_before keeps in
      let keeps_b = next.reads.looks.carries.kept_before keeps_c in
      let change = changes m x keeps_c (before.has m x has) in
      let now = change.has in
      let same : change.map ≡ y = cc in
      let kept : IsLogMap change.map = subst IsLogMap (sym same) whole' in
      let was : AreTotals x c.drafted = subst (λ (t : BlockTotals). AreTotals x t) (cc) are in
      rw (← same) (recounted _ _ change.only some few order low
      (λ i out. ⊎_elim (λ (lt : i < 16624). change.around i lt out) (λ (high : 16624 ≤ i). same_high whole kept high) (cases_lt i 16624))
      (rw has.draft (measured has.checkpoint has.acknowledged m keeps_b has.holds (rw (← has.draft) whole)))
      (rw now.draft (again.measures now.checkpoint now.acknowledged m keeps now.holds (rw (← now.draft) kept))) again.recounts was)
