-- A fill is the write of all its bytes: what it does where there are too many of them, and where memory for them is refused.
use Rattle.std.proofs.Common.{◌≡◌, ◌<◌, ◌≤◌, ℕ, Bool, true, List, [], ◌∷◌, length, replicate, refl, sym, ◌∙◌, ap, subst, inl, inr, ⊎_elim}
use Rattle.std.proofs.Common.{nat_lt, arith, ◌+◌, ◌==◌}
use Rattle.std.specs.Prelude.{min}
use Rattle.std.proofs.lemmas.Bool.{cases_lt}
use Rattle.std.proofs.lemmas.Bool.Decides.{nat_tests}
use Rattle.std.proofs.lemmas.List.{length-replicate}
use Rattle.lfs_model.specs.Bytes as bytes
use Rattle.lfs_model.specs.Call.{Answer, Count, Pwrite, Refuse, Room, Space}
use Rattle.lfs_model.specs.Device.{DeviceState}
use Rattle.lfs_model.specs.Refusal.{Refusal, NoEntry, NotDir, IsDir, Exist, NotEmpty, Inval, NameTooLong, Loop, Perm, Busy, BadHandle}
use Rattle.lfs_model.specs.Refusal.{TooManyOpen, TooManyLinks, FileTooBig, NoSpace, NoNumber, DirFull, NoMemory, Device, Halted, Stuck}
use Rattle.lfs_model.specs.Refusal.{Worn}
use Rattle.lfs_model.specs.Run.{IsExcused, IsPastLast, Point, StepsOr}
use Rattle.lfs_model.specs.Step.{Step, bad_handle, checked, file_at, file_bytes, no_space, the_node, when, with_tree, writes}
use Rattle.lfs_model.specs.Tree.{File, State, Tree, with_node}
use Rattle.lfs_fs.specs.Asking.{most_asked}
use Rattle.lfs_fs.specs.Volume.{Behaves, Mounted, Serves}

-- ---- more bytes than a write takes

above : (a b : ℕ) → a < b → nat_lt a b ≡ true
above a b lt = grind (arith, nat_tests)

module _ (N : ℕ) (s : State) (h off : ℕ) where
  -- the answer to each such write
  abbrev refuses : Answer × State
  refuses = checked s (bad_handle s h ∷ []) (Refuse Inval, s)

  refused : (w : List ℕ) → 65536 < length w → writes N s h off w ≡ refuses
  refused w long =
      let t : Tree = with_node s.tree (file_at s h) (File (bytes.put (file_bytes (the_node s.tree (file_at s h))) off w)) in
      ap (λ (b : Bool). checked s (bad_handle s h ∷ when b Inval ∷ (length w == 0, Count 0) ∷ when (nat_lt 8511488 (off + length w))
      FileTooBig ∷ no_space N t ∷ []) (Count (length w), with_tree s t)) (above 65536 (length w) long)

  same_step : (w v : List ℕ) → 65536 < length w → 65536 < length v → {a : Answer} {s' : State} → Step N s (Pwrite h off w) a s'
      → Step N s (Pwrite h off v) a s'
  same_step w v long_w long_v step =
      let same : writes N s h off v ≡ writes N s h off w = refused v long_v ∙ sym (refused w long_w) in record {
        first_end = step.first_end;
        second_end = step.second_end;
        first = step.first;
        second = step.second;
        answer = ap (λ (r : Answer × State). r.0) same ∙ step.answer;
        state = ap (λ (r : Answer × State). r.1) same ∙ step.state;
      }

module _ (N h off : ℕ) where
  past_last : (w v : List ℕ) → 65536 < length w → 65536 < length v → (p : Point) → IsPastLast N (Pwrite h off w) p
      → IsPastLast N (Pwrite h off v) p
  past_last w v long_w long_v p past = (
    past.0,
    ⊎_elim
        (λ cleaned. inl cleaned)
        (λ changed. inr (
          changed.0,
          (let would = changed.1 in
              (would.0, would.1, same_step N p.state h off w v long_w long_v would.2, would.3)),
        ))
        past.1,
  )

  module _ (w v : List ℕ) (long_w : 65536 < length w) (long_v : 65536 < length v) (p q : Point) where
    excused : (r : Refusal) → IsExcused N (Pwrite h off w) p q r → IsExcused N (Pwrite h off v) p q r
    excused NoMemory e = e
    excused Device e = e
    excused Halted e = e
    excused Stuck e = e
    excused Worn e = past_last w v long_w long_v p e
    excused NoEntry e = absurd e
    excused NotDir e = absurd e
    excused IsDir e = absurd e
    excused Exist e = absurd e
    excused NotEmpty e = absurd e
    excused Inval e = absurd e
    excused NameTooLong e = absurd e
    excused Loop e = absurd e
    excused Perm e = absurd e
    excused Busy e = absurd e
    excused BadHandle e = absurd e
    excused TooManyOpen e = absurd e
    excused TooManyLinks e = absurd e
    excused FileTooBig e = absurd e
    excused NoSpace e = absurd e
    excused NoNumber e = absurd e
    excused DirFull e = absurd e

    same_steps : (a : Answer) → StepsOr N (Pwrite h off w) p a q → StepsOr N (Pwrite h off v) p a q
    same_steps a steps = ⊎_elim
        (λ done. inl (same_step N p.state h off w v long_w long_v done.0, λ past. done.1 (past_last v w long_v long_w p past)))
        (λ out. inr (out.0, out.1, excused out.0 out.2, out.3))
        steps

-- ---- where memory is refused

-- a volume whose room is told isn't halted, and is as it was
room_same : (N : ℕ) (p q : Point) (a : Answer) → StepsOr N Space p a q → q.state ≡ p.state
room_same N p q a steps = ⊎_elim (λ done. sym done.0.state) (λ out. out.3) steps

module _ (N h off : ℕ) (w : List ℕ) (p q : Point) where
  -- what is excused where room is asked for is excused where bytes are written
  excused_write : (r : Refusal) → IsExcused N Space p q r → IsExcused N (Pwrite h off w) p q r
  excused_write NoMemory e = refl
  excused_write Device e = (refl, e.1)
  excused_write Halted e = e
  excused_write Stuck e = ⊎_elim (λ on. absurd (cc on)) (λ on. absurd (cc on)) e
  excused_write Worn e = ⊎_elim (λ on. absurd (cc on)) (λ on. absurd (let off = on.0 in cc)) e.1
  excused_write NoEntry e = absurd e
  excused_write NotDir e = absurd e
  excused_write IsDir e = absurd e
  excused_write Exist e = absurd e
  excused_write NotEmpty e = absurd e
  excused_write Inval e = absurd e
  excused_write NameTooLong e = absurd e
  excused_write Loop e = absurd e
  excused_write Perm e = absurd e
  excused_write Busy e = absurd e
  excused_write BadHandle e = absurd e
  excused_write TooManyOpen e = absurd e
  excused_write TooManyLinks e = absurd e
  excused_write FileTooBig e = absurd e
  excused_write NoSpace e = absurd e
  excused_write NoNumber e = absurd e
  excused_write DirFull e = absurd e

  -- the model refuses no room
  none_refused : (r : Refusal) → Step N p.state Space (Refuse r) q.state → ⊥
  none_refused r step = let e = step.answer in cc

  refused_steps : (r : Refusal) → StepsOr N Space p (Refuse r) q → StepsOr N (Pwrite h off w) p (Refuse r) q
  refused_steps r steps = ⊎_elim
      (λ done. absurd (none_refused r done.0))
      (λ out. inr (out.0, out.1, excused_write out.0 out.2, out.3))
      steps

-- none is at most so many
at_most : (now before most : ℕ) → now ≤ before + 0 → now ≤ before + most
at_most now before most none = omega (arith, none)

-- a write of too many bytes is said to ask for as much memory as any write may
long_asked : (h off waiting most : ℕ) (w v : List ℕ) → 65536 < length v → waiting + most_asked (Pwrite h off v) ≤ most
    → waiting + most_asked (Pwrite h off w) ≤ most
long_asked h off waiting most w v long room = omega (arith, long, room)

no_halt : Refuse NoMemory ≡ Refuse Halted → ⊥
no_halt e = cc

-- ---- the calls

module _ {D : Type 0} {state : D → DeviceState} {old new : Mounted D} {h off : ℕ} where
  -- what holds over any device of a write of too many bytes holds of one of others, where these are too many too
  filled_behaves : (w v : List ℕ) → 65536 < length w → 65536 < length v → (a : Answer) → Behaves state old new (Pwrite h off w) a
      → Behaves state old new (Pwrite h off v) a
  filled_behaves w v long_w long_v a behaves = record {
    refused = behaves.refused;
    handles = behaves.handles;
    first_halted = behaves.first_halted;
    quiet = behaves.quiet;
    number = behaves.number;
    few = behaves.few;
    memory = behaves.memory;
    stuck = behaves.stuck;
    told = behaves.told;
    one_pass = behaves.one_pass;
    one_commit = behaves.one_commit;
    all_saved = behaves.all_saved;
    idle = λ later unclean clean ample room. behaves.idle later unclean clean ample
        (long_asked h off old.log.waiting 456 w v long_v room);
  }

  -- and of a write that is refused where room was asked for
  told_behaves : {w : List ℕ} {r : Refusal} {a : Answer} → (Refuse r ≡ Refuse Stuck → ⊥) → Behaves state old new Space a
      → Behaves state old new (Pwrite h off w) (Refuse r)
  told_behaves none behaves = record {
    refused = λ x e. behaves.handles refl;
    handles = behaves.handles;
    first_halted = λ e. inr refl;
    quiet = λ e. absurd (cc);
    number = λ e. absurd (cc);
    few = behaves.few;
    memory = λ takes e. absurd (cc);
    stuck = none;
    told = at_most _ _ _ behaves.told;
    one_pass = λ unclean. behaves.one_pass refl;
    one_commit = λ unclean. behaves.one_commit refl;
    all_saved = λ saves. absurd (cc);
    idle = λ later unclean clean ample room. behaves.idle refl refl clean ample (omega (arith, room));
  }

  long_serves : {w : List ℕ} (v : List ℕ) → 65536 < length w → 65536 < length v → (a : Answer) → Serves state old new (Pwrite h off w) a
      → Serves state old new (Pwrite h off v) a
  long_serves {w} v long_w long_v a serves = record {
    carries = serves.carries;
    segments = serves.segments;
    orderly = serves.orderly;
    halts = serves.halts;
    behaves = filled_behaves w v long_w long_v a serves.behaves;
    model = λ p keeps at. (
        let does = serves.model p keeps at in
        let answers = does.answers in record {
          next = does.next;
          at = does.at;
          answers = record {
            steps = same_steps _ h off w v long_w long_v p does.next a answers.steps;
            halted = answers.halted;
            halts = answers.halts;
            goes_on = answers.goes_on;
            first_halted = answers.first_halted;
            failures = answers.failures;
            failed_orders = answers.failed_orders;
            failed_reads = answers.failed_reads;
            number = answers.number;
            few = answers.few;
            quiet = answers.quiet;
          };
          leaves = does.leaves;
          shape = does.shape;
          saves = does.saves;
        });
  }

  -- so many bytes, or as many as are refused
  pub filled_serves : (len byte : ℕ) {w : List ℕ} → w ≡ replicate (min len 65537) byte → {a : Answer}
      → Serves state old new (Pwrite h off w) a → Serves state old new (Pwrite h off (replicate len byte)) a
  filled_serves len byte is {a} serves =
      let cut = subst (λ (v : List ℕ). Serves state old new (Pwrite h off v) a) is serves in
      ⊎_elim
      (λ (low : len < 65537). subst (λ (n : ℕ). Serves state old new (Pwrite h off (replicate n byte)) a) (omega (arith, low)) cut)
      (λ (high : 65537 ≤ len). long_serves (replicate len byte)
      (let long = length-replicate (min len 65537) byte in omega (arith, long, high)) (let long = length-replicate len byte in
      omega (arith, long, high)) a cut)
      (cases_lt len 65537)

  -- memory for the bytes is refused, and room is told
  pub memory_serves : (w : List ℕ) {blocks others need limit : ℕ} → Serves state old new Space (Room blocks others need limit)
      → Serves state old new (Pwrite h off w) (Refuse NoMemory)
  memory_serves w {blocks} {others} {need} {limit} serves = record {
    carries = serves.carries;
    segments = serves.segments;
    orderly = λ e. (let e = (serves.orderly e).0 in absurd (cc));
    halts = λ e. absurd (no_halt e);
    behaves = told_behaves (λ e. cc) serves.behaves;
    model = λ p keeps at. (
        let does = serves.model p keeps at in
        let answers = does.answers in record {
          next = does.next;
          at = does.at;
          answers = record {
            steps = inr (NoMemory, refl, refl, room_same _ p does.next (Room blocks others need limit) answers.steps);
            halted = λ on. (let e = answers.halted on in absurd (cc));
            halts = λ e. absurd (no_halt e);
            goes_on = λ on. (let e = answers.goes_on on in absurd (cc));
            first_halted = λ e. absurd (no_halt e);
            failures = answers.failures;
            failed_orders = answers.failed_orders;
            failed_reads = answers.failed_reads;
            number = answers.number;
            few = answers.few;
            quiet = λ e. absurd (cc);
          };
          leaves = does.leaves;
          shape = does.shape;
          saves = λ e. absurd (cc);
        });
  }

  -- nor is room told
  pub refused_serves : (w : List ℕ) {r : Refusal} → Serves state old new Space (Refuse r) → Serves state old new (Pwrite h off w) (Refuse r)
  refused_serves w {r} serves = record {
    carries = serves.carries;
    segments = serves.segments;
    orderly = serves.orderly;
    halts = serves.halts;
    behaves = told_behaves serves.behaves.stuck serves.behaves;
    model = λ p keeps at. (
        let does = serves.model p keeps at in
        let answers = does.answers in record {
          next = does.next;
          at = does.at;
          answers = record {
            steps = refused_steps _ h off w p does.next r answers.steps;
            halted = answers.halted;
            halts = answers.halts;
            goes_on = answers.goes_on;
            first_halted = λ e. inr refl;
            failures = answers.failures;
            failed_orders = answers.failed_orders;
            failed_reads = answers.failed_reads;
            number = answers.number;
            few = answers.few;
            quiet = λ e. absurd (cc);
          };
          leaves = does.leaves;
          shape = does.shape;
          saves = does.saves;
        });
  }
