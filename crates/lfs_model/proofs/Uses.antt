-- What a use of a volume can't be: where no call of the device failed, each answer is the model's, but for want of memory.
use Rattle.std.proofs.Common.{◌≡◌, ◌<◌, ◌≤◌, ◌^◌, ℕ, Bool, true, false, List, [], ◌∷◌, refl, sym, ◌∙◌, ap, subst, inl, inr, ⊎_elim, arith}
use Rattle.std.specs.Prelude.{IsTrue}
use Rattle.lfs_model.specs.Call.{Answer, Call, Open, Create, Close, Pread, Pwrite, Truncate, Mkdir, LinkTo, Symlink, Readlink, Unlink}
use Rattle.lfs_model.specs.Call.{Rmdir, Rename, StatOf, LstatOf, Readdir, Fsync, Sync, Clean, Space, Version, Upgrade, Widen, ListTree}
use Rattle.lfs_model.specs.Call.{Refuse, takes_no_memory}
use Rattle.lfs_model.specs.Refusal.{Refusal, NoEntry, NotDir, IsDir, Exist, NotEmpty, Inval, NameTooLong, Loop, Perm, Busy, BadHandle}
use Rattle.lfs_model.specs.Refusal.{TooManyOpen, TooManyLinks, FileTooBig, NoSpace, NoNumber, DirFull, NoMemory, Device, Halted, Stuck}
use Rattle.lfs_model.specs.Refusal.{Worn}
use Rattle.lfs_model.specs.Run.{Answers, IsExcused, LineAnswers, LineRun, Point, final, has_word}
use Rattle.lfs_model.specs.Script.{Line, Plain, Fill, call_of}
use Rattle.lfs_model.specs.Checkpoint.{CheckpointValue}
use Rattle.lfs_model.specs.Content.{Content}
use Rattle.lfs_model.specs.Device.{DeviceState, IsLawful}
use Rattle.lfs_model.specs.Image.{first_checkpoint}
use Rattle.lfs_model.specs.Tree.{drop_nameless}
use Rattle.lfs_model.specs.TreeOf.{Stands}
use Rattle.lfs_model.specs.Use.{AreUnstuck}
use Rattle.lfs_model.specs.UseLaws.{BeginsNew, NewIsPending, PlainAnswers, PlainRun, UsesArePlain, new_point}
use Rattle.lfs_model.proofs.Committed.{nothing_dropped}
use Rattle.lfs_model.proofs.Image.{formatted}
use Rattle.lfs_model.proofs.Volume.{new_volume, single_state}
use Rattle.lfs_model.proofs.Walks.{Some-injective}
use Rattle.lfs_model.proofs.OwnAnswers.{steps_never_fail, steps_never_halt}

-- a line with a word that spells bytes makes a call that takes memory
word_takes : (line : Line) → IsTrue (has_word line) → takes_no_memory (call_of line) ≡ false
word_takes (Fill h off n byte) is = absurd (cc)
word_takes (Plain (Close h)) is = absurd (cc)
word_takes (Plain (Pread h off n)) is = refl
word_takes (Plain (Truncate h n)) is = refl
word_takes (Plain (Fsync h)) is = absurd (cc)
word_takes (Plain Sync) is = absurd (cc)
word_takes (Plain Clean) is = refl
word_takes (Plain Space) is = absurd (cc)
word_takes (Plain Version) is = absurd (cc)
word_takes (Plain Upgrade) is = absurd (cc)
word_takes (Plain (Widen p)) is = refl
word_takes (Plain ListTree) is = refl
word_takes (Plain (Open p)) is = refl
word_takes (Plain (Create p)) is = refl
word_takes (Plain (Pwrite h off w)) is = refl
word_takes (Plain (Mkdir p)) is = refl
word_takes (Plain (LinkTo p q)) is = refl
word_takes (Plain (Symlink text p)) is = refl
word_takes (Plain (Readlink p)) is = refl
word_takes (Plain (Unlink p)) is = refl
word_takes (Plain (Rmdir p)) is = refl
word_takes (Plain (Rename p q)) is = refl
word_takes (Plain (StatOf p)) is = refl
word_takes (Plain (LstatOf p)) is = refl
word_takes (Plain (Readdir p)) is = refl

-- along a run neither failures nor numbers fall
module _ (N : ℕ) where
  line_grows : (line : Line) (old : Point) (a : Answer) (new : Point) → LineAnswers N line old a new
      → (old.failures ≤ new.failures) × (old.number ≤ new.number)
  line_grows line old a new (inl answers) = (answers.failures, answers.number)
  line_grows line old a new (inr lacks) = (let same = lacks.2 in (
    subst (λ (x : Point). old.failures ≤ x.failures) (sym same) (omega arith),
    subst (λ (x : Point). old.number ≤ x.number) (sym same) (omega arith),
  ))

  run_grows : (lines : List Line) (p : Point) (answers : List Answer) (points : List Point) → LineRun N p lines answers points
      → (p.failures ≤ (final p points).failures) × (p.number ≤ (final p points).number)
  run_grows [] p [] [] run = (omega arith, omega arith)
  run_grows (l ∷ lines) p (a ∷ answers) (q ∷ points) run =
      let one = line_grows l p a q run.0 in
      let rest = run_grows lines q answers points run.1 in
      (omega (arith, one.0, rest.0), omega (arith, one.1, rest.1))
  run_grows [] p [] (q ∷ points) run = absurd run
  run_grows [] p (a ∷ answers) points run = absurd run
  run_grows (l ∷ lines) p [] points run = absurd run
  run_grows (l ∷ lines) p (a ∷ answers) [] run = absurd run

  -- a volume that runs, and of whose device no call fails, doesn't answer Halted
  pub no_halt : (call : Call) (old new : Point) (a : Answer) → Answers N call old a new → old.halted ≡ false → new.failures ≤ old.failures
      → a ≡ Refuse Halted → ⊥
  no_halt call old new a answers on few is = ⊎_elim
      (λ step. steps_never_halt N old.state new.state call a step.0 is)
      (λ refused. (
      let same : refused.0 ≡ Halted = (let both : Refuse refused.0 ≡ Refuse Halted = sym refused.1 ∙ is in cc) in
      let why : IsExcused N call old new Halted = subst (IsExcused N call old new) same refused.2 in
      let reads = answers.failed_reads in
      ⊎_elim (λ off. absurd (cc)) (λ (more : old.failed_orders < new.failed_orders). absurd (omega (arith, more, few, reads))) why))
      answers.steps

  -- nor Device
  pub no_device : (call : Call) (old new : Point) (a : Answer) → Answers N call old a new → new.failures ≤ old.failures → a ≡ Refuse Device
      → ⊥
  no_device call old new a answers few is = ⊎_elim
      (λ step. steps_never_fail N old.state new.state call a step.0 is)
      (λ refused. (
      let same : refused.0 ≡ Device = (let both : Refuse refused.0 ≡ Refuse Device = sym refused.1 ∙ is in cc) in
      let why : IsExcused N call old new Device = subst (IsExcused N call old new) same refused.2 in
      let more = why.1 in absurd (omega (arith, more, few))))
      answers.steps

  goes_on : (call : Call) (old new : Point) (a : Answer) → Answers N call old a new → old.halted ≡ false → new.failures ≤ old.failures
      → new.halted ≡ false
  goes_on call old new a answers on few = by new.halted answers.goes_on
    where
      by : (b : Bool) → (b ≡ true → a ≡ Refuse Halted) → b ≡ false
      by true goes = absurd (no_halt call old new a answers on few (goes refl))
      by false goes = refl

  line_goes_on : (line : Line) (old new : Point) (a : Answer) → LineAnswers N line old a new → old.halted ≡ false
      → new.failures ≤ old.failures → new.halted ≡ false
  line_goes_on line old new a (inl answers) on few = goes_on (call_of line) old new a answers on few
  line_goes_on line old new a (inr lacks) on few = ap (λ (x : Point). x.halted) lacks.2 ∙ on

  pub run_goes_on : (lines : List Line) (p : Point) (answers : List Answer) (points : List Point) → LineRun N p lines answers points
      → p.halted ≡ false
      → (final p points).failures ≤ p.failures → (final p points).halted ≡ false
  run_goes_on [] p [] [] run on few = on
  run_goes_on (l ∷ lines) p (a ∷ answers) (q ∷ points) run on few =
      let one = line_grows l p a q run.0 in
      let more = run_grows lines q answers points run.1 in
      run_goes_on lines q answers points run.1 (line_goes_on l p q a run.0 on (omega (arith, few, more.0))) (omega (arith, few, one.0))
  run_goes_on [] p [] (q ∷ points) run on few = absurd run
  run_goes_on [] p (a ∷ answers) points run on few = absurd run
  run_goes_on (l ∷ lines) p [] points run on few = absurd run
  run_goes_on (l ∷ lines) p (a ∷ answers) [] run on few = absurd run

  -- an excuse that needs neither a failure nor a last number
  excuse : (call : Call) (old new : Point) {a : Answer} (r : Refusal) → a ≡ Refuse r → IsExcused N call old new r → new.state ≡ old.state
      → old.halted ≡ false → new.failures ≤ old.failures → new.failed_orders ≤ old.failed_orders → old.number < 2 ^ 62
      → (a ≡ Refuse Stuck → ⊥) → PlainAnswers N call old a new
  excuse call old new NoMemory is e same on few none low unstuck = inr (is, e, same)
  excuse call old new Stuck is e same on few none low unstuck = absurd (unstuck is)
  excuse call old new Device is e same on few none low unstuck = absurd (let more = e.1 in omega (arith, more, few))
  excuse call old new Halted is e same on few none low unstuck =
      ⊎_elim (λ off. absurd (cc)) (λ (more : old.failed_orders < new.failed_orders). absurd (omega (arith, more, none))) e
  excuse call old new Worn is e same on few none low unstuck = absurd (let past = e.0 in omega (arith, past, low))
  excuse call old new NoEntry is e same on few none low unstuck = absurd e
  excuse call old new NotDir is e same on few none low unstuck = absurd e
  excuse call old new IsDir is e same on few none low unstuck = absurd e
  excuse call old new Exist is e same on few none low unstuck = absurd e
  excuse call old new NotEmpty is e same on few none low unstuck = absurd e
  excuse call old new Inval is e same on few none low unstuck = absurd e
  excuse call old new NameTooLong is e same on few none low unstuck = absurd e
  excuse call old new Loop is e same on few none low unstuck = absurd e
  excuse call old new Perm is e same on few none low unstuck = absurd e
  excuse call old new Busy is e same on few none low unstuck = absurd e
  excuse call old new BadHandle is e same on few none low unstuck = absurd e
  excuse call old new TooManyOpen is e same on few none low unstuck = absurd e
  excuse call old new TooManyLinks is e same on few none low unstuck = absurd e
  excuse call old new FileTooBig is e same on few none low unstuck = absurd e
  excuse call old new NoSpace is e same on few none low unstuck = absurd e
  excuse call old new NoNumber is e same on few none low unstuck = absurd e
  excuse call old new DirFull is e same on few none low unstuck = absurd e

  plain_line : (line : Line) (old new : Point) (a : Answer) → LineAnswers N line old a new → old.halted ≡ false
      → new.failures ≤ old.failures → old.number < 2 ^ 62 → (a ≡ Refuse Stuck → ⊥)
      → PlainAnswers N (call_of line) old a new
  plain_line line old new a (inl answers) on few low unstuck = ⊎_elim
      (λ step. inl step.0)
      (λ refused. excuse (call_of line) old new refused.0 refused.1 refused.2 refused.3 on few
      (let reads = answers.failed_reads in omega (arith, few, reads)) low unstuck) answers.steps
  plain_line line old new a (inr lacks) on few low unstuck = inr (lacks.1, word_takes line lacks.0, ap (λ (x : Point). x.state) lacks.2)

  pub plain_run : (lines : List Line) (p : Point) (answers : List Answer) (points : List Point) → LineRun N p lines answers points
      → p.halted ≡ false
      → (final p points).failures ≤ p.failures → (final p points).number < 2 ^ 62 → AreUnstuck answers → PlainRun N p lines answers points
  plain_run [] p [] [] run on few low unstuck = tt
  plain_run (l ∷ lines) p (a ∷ answers) (q ∷ points) run on few low unstuck =
      let one = line_grows l p a q run.0 in
      let more = run_grows lines q answers points run.1 in
      let still = line_goes_on l p q a run.0 on (omega (arith, few, more.0)) in (
        plain_line l p q a run.0 on (omega (arith, few, more.0)) (omega (arith, low, one.1, more.1)) unstuck.0,
        plain_run lines q answers points run.1 still (omega (arith, few, one.0)) low unstuck.1,
      )
  plain_run [] p [] (q ∷ points) run on few low unstuck = absurd run
  plain_run [] p (a ∷ answers) points run on few low unstuck = absurd run
  plain_run (l ∷ lines) p [] points run on few low unstuck = absurd run
  plain_run (l ∷ lines) p (a ∷ answers) [] run on few low unstuck = absurd run

-- ---- the laws

pub begins_new : (version N p : ℕ) (d d' : DeviceState) → BeginsNew version N p d d'
begins_new version N p d d' new lines answers u =
    let same : u.stands.checkpoint ≡ first_checkpoint version N p =
    Some-injective (sym u.stands.found ∙ (formatted version N p d.content new).0) in (
      u.same_segments ∙ ap (λ (k : CheckpointValue). k.segments) same,
      u.same_number ∙ ap (λ (k : CheckpointValue). k.number) same,
      single_state d.content u.first.state (new_point version d).state u.stands (new_volume version N p d.content new),
    )

pub new_is_pending : (version N p : ℕ) (d : DeviceState) → NewIsPending version N p d
new_is_pending version N p d new alone c left =
    let stands : Stands d.content (new_point version d).state = new_volume version N p d.content new in
    let same : drop_nameless (new_point version d).state ≡ (new_point version d).state =
    nothing_dropped d.content (new_point version d).state stands in (
      (new_point version d).state,
      record { n = 0; point = new_point version d; at = refl; none_later = tt; is = refl },
      subst (Stands c) (sym same) (subst (λ (x : Content). Stands x (new_point version d).state) (sym (alone c left)) stands),
    )

pub uses_are_plain : (d : DeviceState) {d' : DeviceState} → IsLawful d' → UsesArePlain d d'
uses_are_plain d {d'} lawful keeps none k newest low lines answers u =
    let few : (final u.first u.points).failures ≤ u.first.failures =
    (let before = u.failures_before in let after = u.failures_after in omega (arith, before, after, none)) in
    let on = run_goes_on u.segments lines u.first answers u.points u.run u.running few in
    let number = u.number_after on d'.content (lawful.present keeps) in
    let same : number.0 ≡ k = Some-injective (sym number.1 ∙ newest) in
    plain_run u.segments lines u.first answers u.points u.run u.running few
    (let n = number.2 in let l = ap (λ (x : CheckpointValue). x.number) same in omega (arith, n, l, low)) u.unstuck
