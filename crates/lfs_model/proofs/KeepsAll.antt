-- Every call keeps a state sound, and so does every run of calls.
use Rattle.std.proofs.Common.{◌≡◌, ◌<◌, replicate, refl, sym, subst, ℕ, zero, suc, Some, slice_get, true, List, [], ◌∷◌, inl, inr}
use Rattle.std.specs.List.{AllByRecursion}
use Rattle.lfs_model.specs.Call.{Call, Open, Create, Close, Pread, Pwrite, Truncate, Mkdir, LinkTo, Symlink, Readlink, Unlink, Rmdir}
use Rattle.lfs_model.specs.Call.{Rename, StatOf, LstatOf, Readdir, Fsync, Sync, Clean, Space, Version, Upgrade, Widen, ListTree, Answer}
use Rattle.lfs_model.specs.Call.{AreArguments, leaves_state}
use Rattle.lfs_model.specs.Tree.{State, drop_nameless}
use Rattle.lfs_model.specs.Sound.{Sound}
use Rattle.lfs_model.specs.Laws.{KeepsSound}
use Rattle.lfs_model.specs.Run.{Point, Run, LineRun, LineAnswers, Answers, IsPending}
use Rattle.lfs_model.specs.Bytes.{AreBytes}
use Rattle.lfs_model.specs.Script.{Line, Plain, Fill, InRange, call_of}
use Rattle.lfs_model.proofs.Keeps.{create_keeps, symlink_keeps, link_keeps, unlink_keeps, open_keeps, close_keeps, pwrite_keeps}
use Rattle.lfs_model.proofs.Keeps.{truncate_keeps}
use Rattle.lfs_model.proofs.KeepsNames.{mkdir_keeps, rmdir_keeps, rename_keeps}
use Rattle.lfs_model.proofs.Widening.{upgrade_keeps, widen_keeps}
use Rattle.lfs_model.proofs.Pendings.{reads_leave}
use Rattle.lfs_model.proofs.Forgetting.{dropped_sound}
use Rattle.lfs_model.proofs.Walks.{Some-injective}

read_keeps : (call : Call) → leaves_state call ≡ true → KeepsSound call
read_keeps call is N s s' a sound args st = subst (Sound N) (sym (reads_leave N s s' call a is st)) sound

pub call_keeps : (call : Call) → KeepsSound call
call_keeps (Open p) N s s' a sound args st = open_keeps N s s' p sound st
call_keeps (Create p) N s s' a sound args st = create_keeps N s s' p a sound args st
call_keeps (Close h) N s s' a sound args st = close_keeps N s h a sound st
call_keeps (Pread h off n) N s s' a sound args st = read_keeps (Pread h off n) refl N s s' a sound args st
call_keeps (Pwrite h off w) N s s' a sound args st = pwrite_keeps N s s' h off w a sound args st
call_keeps (Truncate h n) N s s' a sound args st = truncate_keeps N s s' h n a sound st
call_keeps (Mkdir p) N s s' a sound args st = mkdir_keeps N s s' p a sound args st
call_keeps (LinkTo p q) N s s' a sound args st = link_keeps N s p q a sound args st
call_keeps (Symlink text p) N s s' a sound args st = symlink_keeps N s s' text p a sound args st
call_keeps (Readlink p) N s s' a sound args st = read_keeps (Readlink p) refl N s s' a sound args st
call_keeps (Unlink p) N s s' a sound args st = unlink_keeps N s s' p a sound st
call_keeps (Rmdir p) N s s' a sound args st = rmdir_keeps N s s' p a sound st
call_keeps (Rename p q) N s s' a sound args st = rename_keeps N s s' p q a sound args st
call_keeps (StatOf p) N s s' a sound args st = read_keeps (StatOf p) refl N s s' a sound args st
call_keeps (LstatOf p) N s s' a sound args st = read_keeps (LstatOf p) refl N s s' a sound args st
call_keeps (Readdir p) N s s' a sound args st = read_keeps (Readdir p) refl N s s' a sound args st
call_keeps (Fsync h) N s s' a sound args st = read_keeps (Fsync h) refl N s s' a sound args st
call_keeps Sync N s s' a sound args st = read_keeps Sync refl N s s' a sound args st
call_keeps Clean N s s' a sound args st = read_keeps Clean refl N s s' a sound args st
call_keeps Space N s s' a sound args st = read_keeps Space refl N s s' a sound args st
call_keeps Version N s s' a sound args st = read_keeps Version refl N s s' a sound args st
call_keeps Upgrade N s s' a sound args st = upgrade_keeps N s s' a sound st
call_keeps (Widen p) N s s' a sound args st = widen_keeps N s p a sound st
call_keeps ListTree N s s' a sound args st = read_keeps ListTree refl N s s' a sound args st

-- an excused refusal leaves the state
answer_keeps : (N : ℕ) (call : Call) (p q : Point) (a : Answer) → Sound N p.state → AreArguments call → Answers N call p a q
    → Sound N q.state
answer_keeps N call p q a sound args does = elim does.steps as (λ _. Sound N q.state) [
  | inl st ↦ call_keeps call N p.state q.state a sound args st.0
  | inr excused ↦ subst (Sound N) (sym excused.3) sound
]

pub run_keeps : (N : ℕ) (p : Point) (calls : List Call) (answers : List Answer) (points : List Point) → Sound N p.state
    → AllByRecursion AreArguments calls → Run N p calls answers points
    → AllByRecursion (λ q. Sound N q.state) points
run_keeps N p [] [] [] sound args run = tt
run_keeps N p [] [] (q ∷ points) sound args run = absurd run
run_keeps N p [] (a ∷ answers) points sound args run = absurd run
run_keeps N p (call ∷ calls) [] points sound args run = absurd run
run_keeps N p (call ∷ calls) (a ∷ answers) [] sound args run = absurd run
run_keeps N p (call ∷ calls) (a ∷ answers) (q ∷ points) sound args run =
    let now = answer_keeps N call p q a sound args.0 run.0 in
    (now, run_keeps N q calls answers points now args.1 run.1)

filled_bytes : (n byte : ℕ) → byte < 256 → AreBytes (replicate n byte)
filled_bytes zero byte low = tt
filled_bytes (suc n) byte low = (low, filled_bytes n byte low)

arguments_of : (line : Line) → InRange line → AreArguments (call_of line)
arguments_of (Plain call) fits = fits
arguments_of (Fill h off n byte) fits = (fits.0, fits.1, filled_bytes n byte fits.3)

-- a line whose word found no memory leaves the state
line_keeps : (N : ℕ) (line : Line) (p q : Point) (a : Answer) → Sound N p.state → InRange line → LineAnswers N line p a q → Sound N q.state
line_keeps N line p q a sound fits (inl does) = answer_keeps N (call_of line) p q a sound (arguments_of line fits) does
line_keeps N line p q a sound fits (inr refused) = subst (λ (z : Point). Sound N z.state) (sym refused.2) sound

pub line_run_keeps : (N : ℕ) (p : Point) (asked : List Line) (answers : List Answer) (points : List Point) → Sound N p.state
    → AllByRecursion InRange asked → LineRun N p asked answers points
    → AllByRecursion (λ q. Sound N q.state) points
line_run_keeps N p [] [] [] sound fits run = tt
line_run_keeps N p [] [] (q ∷ points) sound fits run = absurd run
line_run_keeps N p [] (a ∷ answers) points sound fits run = absurd run
line_run_keeps N p (line ∷ asked) [] points sound fits run = absurd run
line_run_keeps N p (line ∷ asked) (a ∷ answers) [] sound fits run = absurd run
line_run_keeps N p (line ∷ asked) (a ∷ answers) (q ∷ points) sound fits run =
    let now = line_keeps N line p q a sound fits.0 run.0 in
    (now, line_run_keeps N q asked answers points now fits.1 run.1)

at_point : (P : Point → Type 0) (points : List Point) (n : ℕ) (q : Point) → AllByRecursion P points → slice_get points n ≡ Some q → P q
at_point P [] n q all is = cc
at_point P (p ∷ points) zero q all is = subst P (Some-injective is) all.0
at_point P (p ∷ points) (suc n) q all is = at_point P points n q all.1 is

pub pending_sound : (N : ℕ) (p : Point) (calls : List Call) (answers : List Answer) (points : List Point) (s : State) → Sound N p.state
    → AllByRecursion AreArguments calls → Run N p calls answers points
    → IsPending (p ∷ points) calls answers s → Sound N (drop_nameless s)
pending_sound N p calls answers points s sound args run pending =
    let all = run_keeps N p calls answers points sound args run in
    dropped_sound N s
    (subst (Sound N) pending.is (at_point (λ q. Sound N q.state) (p ∷ points) pending.n pending.point (sound, all) pending.at))
