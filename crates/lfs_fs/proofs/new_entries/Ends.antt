-- The ends of a call that makes an entry, from what its steps tell to the call as a step of the model.
use Rattle.lfs_fs.proofs.Prelude.{◌≡◌, ℕ, suc, List, [], ◌∷◌, slice_index_or, Some, refl, ◌∙◌, ap, arith, Refuse, Symlink, AreBytes}
use Rattle.lfs_fs.proofs.Prelude.{DeviceState, IsLawful, text_refusal, Refusal, reads_more, Fs, Begins, seen, IsStill, Mounted, Serves}
use Rattle.lfs_fs.proofs.Prelude.{segments_of}
use Rattle.std.proofs.Common.{Fits, w8}
use Rattle.lfs_fs.proofs.paths.Looks.{only_none}
use Rattle.lfs_fs.proofs.paths.Steps.{symlink_bad_text, text_ordinary}
use Rattle.lfs_fs.proofs.calls.Reads.{refused_serves}

module _ {D : Type 0} (state : D → DeviceState) where
  -- one volume after another that were only read
  pub still_more : (a : Mounted D) {b c : Mounted D} → IsLawful (state a.log.device) → IsStill state a b → IsStill state b c
      → IsStill state a c
  still_more a {b} {c} lawful one two = record {
    reads = reads_more state lawful one.reads two.reads;
    table = two.table ∙ one.table;
  }

-- the bytes of a slice are bytes
pub bytes_of : (b : List ℕ) → ((i : ℕ) → Fits w8 (slice_index_or b i 0)) → AreBytes b
bytes_of [] fits = tt
bytes_of (x ∷ xs) fits = (let first = (fits 0).fits in omega (arith, first), bytes_of xs (λ i. fits (suc i)))

-- ---- a link's text that is refused

module _ {D : Type 0} {state : D → DeviceState} (lawful : (d : D) → IsLawful (state d)) {old begun : Fs D} (begins : Begins old begun) where
  pub text_ends : (text path : List ℕ) {r : Refusal} → text_refusal text ≡ Some r
      → Serves state (seen begun) (seen begun) (Symlink text path) (Refuse r)
  text_ends text path {r} bad =
      refused_serves (lawful (seen begun).log.device) (only_none state begun).still
      (ap (λ (v : Mounted D). v.log.halted) begins.same ∙ begins.running) (text_ordinary text r bad) refl
      (λ k m0 m s keeps is. symlink_bad_text (segments_of (seen begun)) s path text is.log.sound.named r bad)
