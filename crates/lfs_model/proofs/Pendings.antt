-- The last state of a run is pending; and calls that read leave the state.
use Rattle.std.proofs.Common.{◌≡◌, refl, sym, ◌∙◌, ℕ, Bool, true, false, Some, List, [], ◌∷◌, length, slice_get, arith}
use Rattle.std.specs.Prelude.{if◌then◌else◌, not, nat_lt, map}
use Rattle.std.proofs.lemmas.List.{drop_all}
use Rattle.lfs_model.specs.Tree.{State, node, is_dir, names_in}
use Rattle.lfs_model.specs.Bytes as bytes
use Rattle.lfs_model.specs.Refusal.{Inval, NotDir}
use Rattle.lfs_model.specs.Walk.{End, At, Refused}
use Rattle.lfs_model.specs.Call.{Call, Open, Create, Close, Pread, Pwrite, Truncate, Mkdir, LinkTo, Symlink, Readlink, Unlink, Rmdir}
use Rattle.lfs_model.specs.Call.{Rename, StatOf, LstatOf, Readdir, Fsync, Sync, Clean, Space, Version, Upgrade, Widen, ListTree, Answer}
use Rattle.lfs_model.specs.Call.{Done, Data, Text, Status, Entries, leaves_state}
use Rattle.lfs_model.specs.Step.{Step, checked, reached, outcome, when, bad_handle, file_bytes, the_node, file_at, is_link, head_of}
use Rattle.lfs_model.specs.Step.{stat_of, entry_of, reads_link, lists}
use Rattle.lfs_model.specs.Run.{Point, Run, final, IsPending}

-- one answer and one point for each call
pub run_lengths : (N : ℕ) (p : Point) (calls : List Call) (answers : List Answer) (points : List Point) → Run N p calls answers points
    → (length calls ≡ length points) × (length answers ≡ length points)
run_lengths N p [] [] [] run = (refl, refl)
run_lengths N p (c ∷ calls) (a ∷ answers) (z ∷ points) run = let h = run_lengths N z calls answers points run.1 in
    (omega (arith, h.0), omega (arith, h.1))
run_lengths N p [] [] (z ∷ points) run = absurd run
run_lengths N p [] (a ∷ answers) points run = absurd run
run_lengths N p (c ∷ calls) [] points run = absurd run
run_lengths N p (c ∷ calls) (a ∷ answers) [] run = absurd run

-- the last of the points
pub at_final : (p : Point) (points : List Point) → slice_get (p ∷ points) (length points) ≡ Some (final p points)
at_final p [] = refl
at_final p (q ∷ points) = at_final q points

pub last_is_pending : (N : ℕ) (p : Point) (calls : List Call) (answers : List Answer) (points : List Point) → Run N p calls answers points
    → IsPending (p ∷ points) calls answers (final p points).state
last_is_pending N p calls answers points run = record {
  n = length points;
  point = final p points;
  at = at_final p points;
  none_later = let h = run_lengths N p calls answers points run in
      rw (drop_all (length points) calls (omega (arith, h.0)), drop_all (length points) answers (omega (arith, h.1))) tt;
  is = refl;
}

-- ---- calls that read

same_checked : (s : State) (cs : List (Bool × Answer)) (a : Answer) → (checked s cs (a, s)).1 ≡ s
same_checked s [] a = refl
same_checked s (c ∷ cs) a = elim c.0 as (λ b. (if b then (c.1, s) else checked s cs (a, s)).1 ≡ s)
    [ true ↦ refl | false ↦ same_checked s cs a ]

same_reached : (s : State) (e : End) (f : ℕ → Answer × State) → ((n : ℕ) → (f n).1 ≡ s) → (reached s e f).1 ≡ s
same_reached s (At n) f h = h n
same_reached s (Refused r) f h = refl

reads_same : (N : ℕ) (s : State) (call : Call) (e f : End) → leaves_state call ≡ true → (outcome N s call e f).1 ≡ s
reads_same N s (Pread h off n) e f is = same_checked s (bad_handle s h ∷ when (nat_lt 65536 n) Inval ∷ [])
    (Data (bytes.part (file_bytes (the_node s.tree (file_at s h))) off n))
reads_same N s (Readlink p) e f is = same_reached s e (reads_link s)
    (λ n. same_checked s (when (not (is_link (the_node s.tree n))) Inval ∷ []) (Text (head_of (the_node s.tree n))))
reads_same N s (StatOf p) e f is = same_reached s e (λ n. (Status (stat_of s.tree n), s)) (λ n. refl)
reads_same N s (LstatOf p) e f is = same_reached s e (λ n. (Status (stat_of s.tree n), s)) (λ n. refl)
reads_same N s (Readdir p) e f is = same_reached s e (lists s)
    (λ n. same_checked s (when (not (is_dir (node s.tree n))) NotDir ∷ []) (Entries (map (entry_of s.tree) (names_in s.tree n))))
reads_same N s (Fsync h) e f is = same_checked s (bad_handle s h ∷ []) Done
reads_same N s Sync e f is = refl
reads_same N s Clean e f is = refl
reads_same N s Space e f is = refl
reads_same N s Version e f is = refl
reads_same N s ListTree e f is = refl
reads_same N s (Open p) e f is = absurd (cc is)
reads_same N s (Create p) e f is = absurd (cc is)
reads_same N s (Close h) e f is = absurd (cc is)
reads_same N s (Pwrite h off w) e f is = absurd (cc is)
reads_same N s (Truncate h n) e f is = absurd (cc is)
reads_same N s (Mkdir p) e f is = absurd (cc is)
reads_same N s (LinkTo p q) e f is = absurd (cc is)
reads_same N s (Symlink text p) e f is = absurd (cc is)
reads_same N s (Unlink p) e f is = absurd (cc is)
reads_same N s (Rmdir p) e f is = absurd (cc is)
reads_same N s (Rename p q) e f is = absurd (cc is)
reads_same N s Upgrade e f is = absurd (cc is)
reads_same N s (Widen p) e f is = absurd (cc is)

pub reads_leave : (N : ℕ) (s s' : State) (call : Call) (a : Answer) → leaves_state call ≡ true → Step N s call a s' → s' ≡ s
reads_leave N s s' call a is st = sym st.state ∙ reads_same N s call st.first_end st.second_end is
