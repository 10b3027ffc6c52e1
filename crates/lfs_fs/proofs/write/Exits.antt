-- Calls of open files that are refused, or do nothing, before a change is drafted.
use Rattle.lfs_fs.proofs.Prelude.{◌≡◌, ◌<◌, ◌≤◌, ◌+◌, ◌^◌, ◌==◌, ℕ, suc, false, true, List, [], ◌∷◌, length, get_or, Some, None, refl, sym}
use Rattle.lfs_fs.proofs.Prelude.{◌∙◌, ap, subst, arith, nat_tests, nat_cmp, find, AreBytes, Answer, Call, Count, Pwrite, Refuse, Truncate}
use Rattle.lfs_fs.proofs.Prelude.{cleans, DeviceState, IsLawful, BadHandle, FileTooBig, Inval, Step, State, FsError, Fs, refusal_of, Begins}
use Rattle.lfs_fs.proofs.Prelude.{GivesNone, seen, Mounted, Serves, segments_of, Refusal}
use Rattle.lfs_fs.specs.declared.error.FsError.TheVariants as error
use Rattle.lfs_steps.proofs.open_files.Steps.{cut_bad_handle, cut_too_big, write_bad_handle, write_nothing, write_too_big, write_too_much}
use Rattle.lfs_fs.proofs.calls.Reads.{done_serves, refused_serves, worn_serves}
use Rattle.lfs_fs.proofs.write.Ends.{still_none}
use Rattle.lfs_fs.proofs.calls.AnyDevice.{IsOrdinary}
use Rattle.lfs_fs.proofs.read.Ends.{halted_serves, begun_serves, begun_running}

-- the numbers of a slice of bytes are bytes
pub bytes_of : (w : List ℕ) → ((i : ℕ) → get_or w i 0 < 256) → AreBytes w
bytes_of [] small = tt
bytes_of (b ∷ w) small = (small 0, bytes_of w (λ i. small (suc i)))

-- whether there are any
pub none_of : (n : ℕ) → (n == 0) ≡ true → n ≡ 0
none_of n e = grind (arith, nat_tests)

pub some_of : (n : ℕ) → (n == 0) ≡ false → 0 < n
some_of n e = grind (arith, nat_tests)

module _ {D : Type 0} {state : D → DeviceState} (lawful : (d : D) → IsLawful (state d)) where
  -- ---- how a call begins

  pub halted_begin : {old new : Fs D} (call : Call) {fault : FsError} → new ≡ old → (seen old).log.halted ≡ true → fault ≡ error.Halted
      → Serves state (seen old) (seen new) call (Refuse (refusal_of fault))
  halted_begin {old} call same halted is = halted_serves state call (lawful (seen old).log.device) same halted is

  -- what is done from there is what is done
  pub begun : {old mid : Fs D} (new : Fs D) {call : Call} {a : Answer} → Begins old mid → Serves state (seen mid) (seen new) call a
      → Serves state (seen old) (seen new) call a
  begun new begins = begun_serves state begins

  pub still_running : {old mid : Fs D} → Begins old mid → (seen mid).log.halted ≡ false
  still_running begins = begun_running state begins

  -- ---- exits of a running volume

  module _ (v : Mounted D) (was : v.log.halted ≡ false) where
    -- the handle gives no file
    pub unopened : {call : Call} (h : ℕ) → cleans call ≡ false → ((N : ℕ) (s : State) → find nat_cmp h s.handles ≡ None
        → Step N s call (Refuse BadHandle) s) → (fault : FsError) → GivesNone v.table h fault
        → Serves state v v call (Refuse (refusal_of fault))
    unopened {call} h unclean steps fault gives =
        subst (λ (e : FsError). Serves state v v call (Refuse (refusal_of e))) (sym gives.0)
        (refused_serves {call = call} (lawful v.log.device) (still_none state lawful v) was {r = BadHandle} tt unclean
        (λ k m0 m s keeps is. steps (segments_of v) s (ap (find nat_cmp h) is.handles ∙ gives.1)))

    pub write_unopened : (h at : ℕ) (w : List ℕ) (fault : FsError) → GivesNone v.table h fault
        → Serves state v v (Pwrite h at w) (Refuse (refusal_of fault))
    write_unopened h at w = unopened h refl (λ N s none. write_bad_handle N s h at w none)

    pub cut_unopened : (h len : ℕ) (fault : FsError) → GivesNone v.table h fault
        → Serves state v v (Truncate h len) (Refuse (refusal_of fault))
    cut_unopened h len = unopened h refl (λ N s none. cut_bad_handle N s h len none)

    module _ (h : ℕ) {n : ℕ} (opens : find nat_cmp h v.table ≡ Some n) where
      refused : {call : Call} {r : Refusal} → IsOrdinary (Refuse r) → cleans call ≡ false
          → ((s : State) → find nat_cmp h s.handles ≡ Some n → Step (segments_of v) s call (Refuse r) s) → Serves state v v call (Refuse r)
      refused ordinary unclean steps = refused_serves (lawful v.log.device) (still_none state lawful v) was ordinary unclean
          (λ k m0 m s keeps is. steps s (ap (find nat_cmp h) is.handles ∙ opens))

      pub cut_refused : (len : ℕ) → 8511488 < len → Serves state v v (Truncate h len) (Refuse FileTooBig)
      cut_refused len big = refused tt refl (λ s is. cut_too_big (segments_of v) s h len n is big)

      module _ (at : ℕ) (w : List ℕ) where
        pub write_refused : 65536 < length w → Serves state v v (Pwrite h at w) (Refuse Inval)
        write_refused much = refused tt refl (λ s is. write_too_much (segments_of v) s h at w n is much)

        pub write_past : length w ≤ 65536 → 0 < length w → 8511488 < at + length w → Serves state v v (Pwrite h at w) (Refuse FileTooBig)
        write_past few some big = refused tt refl (λ s is. write_too_big (segments_of v) s h at w n is few some big)

        -- no bytes are written, up to the last number of a checkpoint
        module _ (few : length w ≤ 65536) (none : length w ≡ 0) where
          step_nothing : (s : State) → s.handles ≡ v.table → Step (segments_of v) s (Pwrite h at w) (Count 0) s
          step_nothing s same = write_nothing (segments_of v) s h at w n (ap (find nat_cmp h) same ∙ opens) few none

          pub write_none : v.log.number < 2 ^ 62 → Serves state v v (Pwrite h at w) (Count 0)
          write_none low = done_serves (lawful v.log.device) (still_none state lawful v) was tt (λ e. cc) low
              (λ k m0 m s keeps is. step_nothing s is.handles)

          pub write_none_worn : {fault : FsError} → fault ≡ error.Worn → 2 ^ 62 ≤ v.log.number
              → Serves state v v (Pwrite h at w) (Refuse (refusal_of fault))
          write_none_worn is high = subst (λ (e : FsError). Serves state v v (Pwrite h at w) (Refuse (refusal_of e))) (sym is)
              (worn_serves {call = Pwrite h at w} (lawful v.log.device) (still_none state lawful v) was refl high
              (λ k m0 m s keeps is. (Count 0, s, step_nothing s is.handles, refl)))
