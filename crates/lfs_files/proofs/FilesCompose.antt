-- Calls on files, one after the other.
use Rattle.std.proofs.Common.{ℕ, List, refl, ◌∙◌, arith}
use Rattle.lfs_model.specs.Device.{IsLawful}
use Rattle.lfs_files.specs.declared.header.Header.{Header}
use Rattle.lfs_files.specs.Files.{FilesState, IsApart, IsFault, Reads, Redrafts, Writes}
use Rattle.lfs_files.proofs.LooksCompose.{looks_none, looks_then}

module _ {S D : Type 0} where
  pub reads_none : (s : FilesState S D) → Reads s s
  reads_none s = record {
    looks = looks_none s.device;
    halted = refl;
    saved = refl;
    staged = refl;
    draft = refl;
    totals = refl;
    drafted = refl;
    headers = refl;
    blocks = refl;
    asked = refl;
    empty = λ is. is;
    lost = λ x. refl;
    has = λ m m' is. is;
    fits = λ m is. is;
  }

  pub reads_more : {a b c : FilesState S D} → IsLawful a.device → Reads a b → Reads b c → Reads a c
  reads_more {a} {b} {c} lawful one two = record {
    looks = looks_then lawful one.looks two.looks;
    halted = two.halted ∙ one.halted;
    saved = two.saved ∙ one.saved;
    staged = two.staged ∙ one.staged;
    draft = two.draft ∙ one.draft;
    totals = two.totals ∙ one.totals;
    drafted = two.drafted ∙ one.drafted;
    headers = two.headers ∙ one.headers;
    blocks = two.blocks ∙ one.blocks;
    asked = two.asked ∙ one.asked;
    empty = λ is. two.empty (one.empty is);
    lost = λ x. two.lost x ∙ one.lost x;
    has = λ m m' is. two.has m m' (one.has m m' is);
    fits = λ m is. two.fits m (one.fits m is);
  }

  pub fault_more : {a b : FilesState S D} (c : FilesState S D) → Reads a b → IsFault b c → IsFault a c
  fault_more c one failed m m' keeps is =
      let rose = failed m m' keeps (one.has m m' is) in
      let before = one.looks.carries.failures in
      omega (arith, rose, before)

  -- ---- the draft
  pub redrafts_read : {a b : FilesState S D} → Reads a b → Redrafts a b
  redrafts_read is = record { looks = is.looks; halted = is.halted; saved = is.saved; staged = is.staged; totals = is.totals }

  pub redrafts_more : {a b c : FilesState S D} → IsLawful a.device → Redrafts a b → Redrafts b c → Redrafts a c
  redrafts_more {a} {b} {c} lawful one two = record {
    looks = looks_then lawful one.looks two.looks;
    halted = two.halted ∙ one.halted;
    saved = two.saved ∙ one.saved;
    staged = two.staged ∙ one.staged;
    totals = two.totals ∙ one.totals;
  }

  pub still_apart : {a b : FilesState S D} {n : ℕ} → Reads a b → IsApart a.lost n → IsApart b.lost n
  still_apart reads is = record { inode = reads.lost _ ∙ is.inode; above = λ i. reads.lost _ ∙ is.above i }

  -- what is written behind calls that read is written behind none
  pub writes_behind : (a b : FilesState S D) {c : FilesState S D} (n : ℕ) {head : Header} {at : ℕ} {w : List ℕ} → Reads a b
      → Writes b c n head at w
      → Writes a c n head at w
  writes_behind a b n reads is = record {
    lost = λ x. is.lost x ∙ reads.lost x;
    headers = let more = is.headers in let same = reads.headers in omega (arith, more, same);
    blocks = let more = is.blocks in let same = reads.blocks in omega (arith, more, same);
    fits = λ m m' has fits takes. is.fits m m' (reads.has m m' has) (reads.fits m fits)
        record { there = takes.there; apart = still_apart reads takes.apart; within = takes.within; header = takes.header };
    file = λ m m' keeps has. is.file m m' keeps (reads.has m m' has);
  }
