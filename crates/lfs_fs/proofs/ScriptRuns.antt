-- Lines of a script on a volume, one after the other: a run of the model, and what a stop in it leaves.
use Rattle.lfs_fs.proofs.Prelude.{◌≡◌, ◌⊎◌, ◌<◌, ℕ, zero, suc, List, [], ◌∷◌, ◌++◌, length, map, slice_index_or, refl, sym, ◌∙◌, ap, subst}
use Rattle.lfs_fs.proofs.Prelude.{inl, inr, ⊎_elim, arith, Contains, Answer, Call, Refuse, Content, DeviceState, IsLawful, LeavesOnly}
use Rattle.lfs_fs.proofs.Prelude.{Stuck, LineAnswers, Point, final, Line, call_of, State, drop_nameless, Left, LeavesOne, LeavesStates}
use Rattle.lfs_fs.proofs.Prelude.{Stands, LeavesPrefix, carries_none, carries_then, joined, single_state, StandsForSome, RanAt, RunsLines}
use Rattle.lfs_fs.proofs.Prelude.{ServesLine, TellsLines, IsAt, Mounted, Serves, segments_of}
use Rattle.std.proofs.Common.{length-append, slice_get, take, Some, ◌≤◌}
use Rattle.std.proofs.lemmas.List.{length-map, take-append-le, take_all}
use Rattle.std.proofs.lemmas.Option.{slice_get_within}
use Rattle.std.proofs.lemmas.List.Elements.{Contains-append_left, Contains-append_right}
use Rattle.lfs_model.specs.Run.{LineRun, RunOf}
use Rattle.lfs_model.proofs.CrashRuns.{IsRunSoFar, leaves_first, leaves_more}
use Rattle.lfs_model.proofs.Lefts.{left_only}
use Rattle.lfs_model.proofs.Moments.{weaker}
use Rattle.lfs_model.proofs.Pendings.{at_final}
use Rattle.lfs_model.proofs.SinceRuns.{get_snoc, kept_more, kept_none, kept_told}
use Rattle.lfs_model.proofs.UnitsKept.{shape_then}
use Rattle.lfs_model.specs.Device.{Carries}
use Rattle.lfs_model.specs.Since.{AreKeptUntil}
use Rattle.lfs_model.specs.Use.{AreUnstuck, left_states}
use Rattle.lfs_fs.specs.Scripts.{ServesLines, ToldAt}
use Rattle.lfs_fs.proofs.scripts.Lines.{StepsLine, left_none, line_carries, line_running, line_segments, line_steps}

-- ---- the points of a run

-- one line or call more
pub run_more : {A : Type 0} (Does : A → Point → Answer → Point → Type 0) (p : Point) (xs : List A) (answers : List Answer)
    (points : List Point) (x : A) (answer : Answer) (next : Point) → RunOf Does p xs answers points
    → Does x (final p points) answer next → RunOf Does p (xs ++ x ∷ []) (answers ++ answer ∷ []) (points ++ next ∷ [])
run_more Does p [] [] [] x answer next run more = (more, tt)
run_more Does p (y ∷ xs) (a ∷ answers) (q ∷ points) x answer next run more =
    (run.0, run_more Does q xs answers points x answer next run.1 more)
run_more Does p [] [] (q ∷ points) x answer next run more = absurd run
run_more Does p [] (a ∷ answers) points x answer next run more = absurd run
run_more Does p (y ∷ xs) [] points x answer next run more = absurd run
run_more Does p (y ∷ xs) (a ∷ answers) [] x answer next run more = absurd run

-- one answer and one point for each line
line_lengths : (N : ℕ) (p : Point) (lines : List Line) (answers : List Answer) (points : List Point) → LineRun N p lines answers points
    → (length (map call_of lines) ≡ length points) × (length answers ≡ length points)
line_lengths N p [] [] [] run = (refl, refl)
line_lengths N p (l ∷ lines) (a ∷ answers) (q ∷ points) run = let h = line_lengths N q lines answers points run.1 in
    (omega (arith, h.0), omega (arith, h.1))
line_lengths N p lines answers points run = absurd run

so_far : (N : ℕ) (p : Point) (lines : List Line) (answers : List Answer) (points : List Point) → LineRun N p lines answers points
    → IsRunSoFar (p ∷ points) (map call_of lines) answers (final p points)
so_far N p lines answers points run =
    let h = line_lengths N p lines answers points run in record {
      points_length = omega (arith, h.0);
      answers_length = omega (arith, h.0, h.1);
      at = ap (slice_get (p ∷ points)) h.0 ∙ at_final p points;
    }

pub final_more : (p : Point) (points : List Point) (next : Point) → final p (points ++ next ∷ []) ≡ next
final_more p [] next = refl
final_more p (q ∷ points) next = final_more q points next

calls_more : (lines : List Line) (line : Line) → map call_of (lines ++ line ∷ []) ≡ map call_of lines ++ call_of line ∷ []
calls_more [] line = refl
calls_more (l ∷ lines) line = ap (λ (calls : List Call). call_of l ∷ calls) (calls_more lines line)

-- ---- their states

states_more : (points : List Point) (next : Point) → left_states (points ++ next ∷ []) ≡ left_states points ++ drop_nameless next.state ∷ []
states_more [] next = refl
states_more (q ∷ points) next = ap (λ (ss : List State). drop_nameless q.state ∷ ss) (states_more points next)

final_state : (p : Point) (points : List Point) → Contains (left_states (p ∷ points)) (drop_nameless (final p points).state)
final_state p [] = (0, omega arith, refl)
final_state p (q ∷ points) = let one = final_state q points in (suc one.0, (let low = one.1 in omega arith), one.2)

was_state : (points : List Point) (next : Point) (s : State) → Contains (left_states points) s
    → Contains (left_states (points ++ next ∷ [])) s
was_state points next s one = rw (states_more points next)
    (Contains-append_left (left_states points) (drop_nameless next.state ∷ []) s one)

next_state : (points : List Point) (next : Point) → Contains (left_states (points ++ next ∷ [])) (drop_nameless next.state)
next_state points next = rw (states_more points next)
    (Contains-append_right (left_states points) (drop_nameless next.state ∷ []) (drop_nameless next.state) (0, omega arith, refl))

-- ---- what a stop leaves

abbrev pub OneOf : DeviceState → List State → Content → Type 0
OneOf d ss c = (s : State) × Stands c s × (Left d s ⊎ Contains ss s)

-- where a stop at the start left one state alone, the states of the points are all
pub moments_from : {a b : DeviceState} (p : Point) (points : List Point) → LeavesStates a b (left_states (p ∷ points))
    → LeavesOne a (drop_nameless p.state) → LeavesOnly a b (StandsForSome (p ∷ points))
moments_from {a} {b} p points leaves one =
    weaker (OneOf a (left_states (p ∷ points))) (StandsForSome (p ∷ points)) (λ c is. (is.0, each is.0 is.2, is.1)) leaves
  where
    each : (s : State) → Left a s ⊎ Contains (left_states (p ∷ points)) s → Contains (left_states (p ∷ points)) s
    each s (inl left) = (0, omega arith, sym (left_only a (drop_nameless p.state) s one left))
    each s (inr of) = of

-- one step more
module _ (a b c : DeviceState) (p : Point) (points : List Point) (next : Point) (lawful : IsLawful b) where
  abbrev so_far_states : List State
  so_far_states = left_states (p ∷ points)

  abbrev pair : List State
  pair = drop_nameless (final p points).state ∷ drop_nameless next.state ∷ []

  abbrev all : List State
  all = left_states (p ∷ (points ++ next ∷ []))

  more : (s : State) → Left a s ⊎ Contains so_far_states s → Left a s ⊎ Contains all s
  more s (inl left) = inl left
  more s (inr of) = inr (was_state (p ∷ points) next s of)

  at_index : {s : State} (k : ℕ) → k < 2 → slice_index_or pair k s ≡ s → Contains all s
  at_index zero lt is =
      subst (Contains all) is (was_state (p ∷ points) next (drop_nameless (final p points).state) (final_state p points))
  at_index (suc zero) lt is = subst (Contains all) is (next_state (p ∷ points) next)
  at_index (suc (suc k)) lt is = absurd (omega arith)

  -- a state that a stop in between might leave is one of the first run's
  then_one : LeavesStates a b so_far_states → (s : State) → Left b s ⊎ Contains pair s → Left a s ⊎ Contains all s
  then_one one s (inl left) =
      let was = one.each left.content (lawful.counts_now a.moment left.content one.later left.may_leave) in
      let same : was.0 ≡ s = single_state left.content was.0 s was.1 left.stands in
      rw (← same) (more was.0 was.2)
  then_one one s (inr of) = inr (at_index of.0 of.1 of.2)

  pub leaves_step : LeavesStates a b so_far_states → LeavesStates b c pair → LeavesStates a c all
  leaves_step one two = joined (OneOf a so_far_states) (OneOf b pair) (OneOf a all) one two (λ x is. (is.0, is.1, more is.0 is.2))
      (λ x is. (is.0, is.1, then_one one is.0 is.2))

-- ---- the laws

module _ {D : Type 0} {state : D → DeviceState} (lawful : (d : D) → IsLawful (state d)) where
  none_at : {v : Mounted D} (p : Point) → IsAt state v p → RanAt state v v [] [] p
  none_at {v} p at =
      let d : _ = state v.log.device in
      let leaves : LeavesStates d d (left_states (p ∷ [])) = left_none state (left_states (p ∷ [])) (lawful v.log.device) at.leaves in
      record {
        points = [];
        run = tt;
        at = at;
        leaves = leaves;
        shape = λ c left. (c, left, refl);
        moments = moments_from p [] leaves;
        pending = leaves_first d p;
      }

  -- a line's answer isn't Stuck
  line_unstuck : (old new : Mounted D) (line : Line) (answer : Answer) → ServesLine state old new line answer → answer ≡ Refuse Stuck → ⊥
  line_unstuck old new line answer serves is = ⊎_elim
      (λ (served : Serves state old new (call_of line) answer). served.behaves.stuck is)
      (λ refused. absurd (let no = refused.1 in cc))
      serves

  unstuck_more : (answers : List Answer) {answer : Answer} → AreUnstuck answers → (answer ≡ Refuse Stuck → ⊥)
      → AreUnstuck (answers ++ answer ∷ [])
  unstuck_more [] those one = (one, tt)
  unstuck_more (first ∷ answers) {answer} those one = (those.0, unstuck_more answers those.1 one)

  -- a line more, on the volume as the others left it
  serves_more : (old mid new : Mounted D) (lines : List Line) (answers : List Answer) (line : Line) (answer : Answer)
      → ServesLines state old mid lines answers
      → ServesLine state mid new line answer → ServesLines state old new (lines ++ line ∷ []) (answers ++ answer ∷ [])
  serves_more old mid new [] [] line answer same more = (new, rw (← same) more, refl)
  serves_more old mid new (l ∷ lines) (a ∷ answers) line answer those more =
      (those.0, those.1, serves_more those.0 mid new lines answers line answer those.2 more)
  serves_more old mid new lines answers line answer those more = absurd those

  -- an answer for each line
  answers_each : (old new : Mounted D) (lines : List Line) (answers : List Answer) → ServesLines state old new lines answers
      → length answers ≡ length lines
  answers_each old new [] [] served = refl
  answers_each old new (l ∷ lines) (a ∷ answers) served = ap (λ (n : ℕ). suc n) (answers_each served.0 new lines answers served.2)
  answers_each old new [] (a ∷ answers) served = absurd served
  answers_each old new (l ∷ lines) [] served = absurd served

  -- no line
  pub ran_none : (old : Mounted D) → RunsLines state old old [] []
  ran_none old = record {
    carries = carries_none;
    segments = λ e. refl;
    through = refl;
    unstuck = tt;
    model = λ p keeps at. none_at p at;
  }

  module _ (old mid new : Mounted D) {lines : List Line} {answers : List Answer} (line : Line) (answer : Answer) where
    more_at : (p : Point) (ran : RanAt state old mid lines answers p)
        → StepsLine state (segments_of old) mid new line answer (final p ran.points)
        → RanAt state old new (lines ++ line ∷ []) (answers ++ answer ∷ []) p
    more_at p ran step =
        let leaves = leaves_step (state old.log.device) (state mid.log.device) (state new.log.device) p ran.points step.next
        (lawful mid.log.device) ran.leaves step.leaves in record {
          points = ran.points ++ step.next ∷ [];
          run = run_more (LineAnswers (segments_of old)) p lines answers ran.points line answer step.next ran.run step.does;
          at = subst (IsAt state new) (sym (final_more p ran.points step.next)) step.at;
          leaves = leaves;
          shape = shape_then (state old.log.device) (state mid.log.device) (lawful new.log.device) ran.shape step.shape;
          moments = moments_from p (ran.points ++ step.next ∷ []) leaves;
          pending = λ one. rw (calls_more lines line) (leaves_more (state mid.log.device) (state new.log.device) answers
              step.next (call_of line) answer (so_far (segments_of old) p lines answers ran.points ran.run) (lawful new.log.device)
              (ran.pending one) step.leaves step.saves);
        }

    -- one line more
    pub ran_more : RunsLines state old mid lines answers → ServesLine state mid new line answer
        → RunsLines state old new (lines ++ line ∷ []) (answers ++ answer ∷ [])
    ran_more runs serves =
        let carries = line_carries state lawful mid new line answer serves in record {
          carries = carries_then runs.carries carries;
          segments = λ now. line_segments state lawful mid new line answer serves now
              ∙ runs.segments (line_running state lawful mid new line answer serves now);
          through = serves_more old mid new lines answers line answer runs.through serves;
          unstuck = unstuck_more answers runs.unstuck (line_unstuck mid new line answer serves);
          model = λ p keeps at. (
              let ran = runs.model p (carries.kept_before keeps) at in
              more_at p ran (line_steps state lawful mid new line answer (segments_of old) runs.segments keeps ran.at serves));
        }

  -- ---- their replies go out

  pub told_none : (old : Mounted D) → TellsLines state old old [] [] []
  told_none old = record {
    runs = ran_none old;
    one_each = refl;
    clocks_within = λ i t is. absurd (cc is);
    told = λ p keeps at. record {
      ran = none_at p at;
      kept = λ one. kept_none (state old.log.device) (p ∷ (none_at p at).points) [] [];
    };
    until = λ j u is. absurd (cc is);
  }

  module _ (old mid new : Mounted D) (lines : List Line) (answers : List Answer) (clocks : List ℕ) (line : Line) (answer : Answer) where
    abbrev d' : DeviceState
    d' = state new.log.device

    -- one line more, and its reply
    told_at : length clocks ≡ length lines → (p : Point) (told : ToldAt state old mid lines answers clocks p)
        → StepsLine state (segments_of old) mid new line answer (final p told.ran.points)
        → ToldAt state old new (lines ++ line ∷ []) (answers ++ answer ∷ []) (clocks ++ d'.moment ∷ []) p
    unfolding more_at
    told_at long p told step =
        let so = so_far (segments_of old) p lines answers told.ran.points told.ran.run in
        let few : length (map call_of lines) ≡ length lines = length-map lines call_of in
        let pending : (LeavesOne (state old.log.device) (drop_nameless p.state)
        → LeavesPrefix d' (p ∷ (told.ran.points ++ step.next ∷ [])) (map call_of lines ++ call_of line ∷ []) (answers ++ answer ∷ [])) =
        λ one. leaves_more (state mid.log.device) d' answers step.next
        (call_of line) answer so (lawful new.log.device) (told.ran.pending one) step.leaves step.saves in record {
          ran = more_at old mid new line answer p told.ran step;
          kept = λ one. rw (calls_more lines line) (kept_told d'
              (answers ++ answer ∷ []) clocks (lawful new.log.device)
              (omega (arith, length-append answers (answer ∷ []), length-append (map call_of lines) (call_of line ∷ []), so.answers_length))
              (omega (arith, length-append (map call_of lines) (call_of line ∷ []), few, long))
              (pending one)
              (kept_more (state mid.log.device) d' (p ∷ told.ran.points) (map call_of lines) answers (final p told.ran.points) step.next
              (call_of line) answer clocks so (lawful mid.log.device) (omega (arith, few, long)) (told.kept one) step.leaves));
        }

    abbrev all_lines : List Line
    all_lines = lines ++ line ∷ []

    abbrev all_answers : List Answer
    all_answers = answers ++ answer ∷ []

    abbrev all_clocks : List ℕ
    all_clocks = clocks ++ d'.moment ∷ []

    module _ (tells : TellsLines state old mid lines answers clocks) (serves : ServesLine state mid new line answer) where
      abbrev carries : Carries (state mid.log.device) d'
      carries = line_carries state lawful mid new line answer serves

      told_more : (p : Point) → d'.keeps_model → IsAt state old p → ToldAt state old new all_lines all_answers all_clocks p
      told_more p keeps at =
          let told = tells.told p (carries.kept_before keeps) at in
          told_at tells.one_each p told (line_steps state lawful mid new line answer (segments_of old)
          tells.runs.segments keeps told.ran.at serves)

      within_more : (i t : ℕ) → slice_get all_clocks i ≡ Some t → ((state old.log.device).moment ≤ t) × (t ≤ d'.moment)
      within_more i t is = ⊎_elim
          (λ was. (let low = tells.clocks_within i t was in
          (low.0, (let later = carries.later in let high = low.1 in omega (arith, high, later)))))
          (λ (last : (i ≡ length clocks) × (t ≡ d'.moment)). (
            (let first = tells.runs.carries.later in let later = carries.later in omega (arith, first, later, last.1)),
            omega
                (arith, last.1),
          ))
          (get_snoc clocks d'.moment i t is)

      -- an earlier reply: what came behind it changes nothing
      until_was : (j u : ℕ) → slice_get clocks j ≡ Some u → d'.kept_until u → (p : Point) → IsAt state old p
          → LeavesOne (state old.log.device) (drop_nameless p.state)
          → AreKeptUntil d' (segments_of old) p all_lines all_answers all_clocks j u
      until_was j u was kept p at one =
          let high = (tells.clocks_within j u was).1 in
          let low : j < length clocks = slice_get_within clocks j u was in
          let long = tells.one_each in
          let before = tells.until j u was ((carries.kept_as u high).0 kept) p at one in
          let answered : length answers ≡ length lines = answers_each old mid lines answers tells.runs.through in
          let same_lines : take (suc j) all_lines ≡ take (suc j) lines = take-append-le (suc j) lines (line ∷ [])
          (omega (arith, low, long)) in
          let same_answers : take (suc j) all_answers ≡ take (suc j) answers =
          take-append-le (suc j) answers (answer ∷ []) (omega (arith, low, long, answered)) in
          record {
            points = before.points;
            run = rw (same_lines, same_answers) before.run;
            since = λ i t le is c left. rw (same_lines, same_answers) (⊎_elim
                (λ earlier. before.since i t le earlier c ((carries.left_as t u c high).0 left))
                (λ (last : (i ≡ length clocks) × (t ≡ d'.moment)). absurd (omega (arith, last.0, le, low)))
                (get_snoc clocks d'.moment i t is));
          }

      -- the last one
      until_now : (j u : ℕ) → j ≡ length clocks → u ≡ d'.moment → d'.kept_until u → (p : Point) → IsAt state old p
          → LeavesOne (state old.log.device) (drop_nameless p.state)
          → AreKeptUntil d' (segments_of old) p all_lines all_answers all_clocks j u
      until_now j u last clock kept p at one =
          let keeps = (lawful new.log.device).kept_now.0 (subst (λ (m : ℕ). d'.kept_until m) clock kept) in
          let told = told_more p keeps at in
          let long = tells.one_each in
          let answered : length answers ≡ length lines = answers_each old mid lines answers tells.runs.through in
          let whole_lines : take (suc j) all_lines ≡ all_lines =
          take_all (suc j) all_lines (omega (arith, length-append lines (line ∷ []), last, long)) in
          let whole_answers : take (suc j) all_answers ≡ all_answers =
          take_all (suc j) all_answers (omega (arith, length-append answers (answer ∷ []), last, long, answered)) in
          record {
            points = told.ran.points;
            run = rw (whole_lines, whole_answers) told.ran.run;
            since = λ i t le is c left. rw (whole_lines, whole_answers) ((told.kept one).since i t is c
                (((lawful new.log.device).until_now t c (within_more i t is).1).0 (subst (λ (m : ℕ). d'.left_until t m c) clock left)));
          }

      pub tells_more : TellsLines state old new all_lines all_answers all_clocks
      tells_more = record {
        runs = ran_more old mid new line answer tells.runs serves;
        one_each = (let long = tells.one_each in omega (
          arith,
          length-append clocks (d'.moment ∷ []),
          length-append lines (line ∷ []),
          long,
        ));
        clocks_within = within_more;
        told = told_more;
        until = λ j u is kept p at one. ⊎_elim
            (λ was. until_was j u was kept p at one)
            (λ (last : (j ≡ length clocks) × (u ≡ d'.moment)). until_now j u last.0 last.1 kept p at one)
            (get_snoc clocks d'.moment j u is);
      }
