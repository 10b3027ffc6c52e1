-- The crash prefix of a run, one call after the other.
use Rattle.std.proofs.Common.{◌≡◌, refl, sym, ◌∙◌, ap, subst, arith, ℕ, zero, suc, slice_index_or, ◌<◌, true, false, List, [], ◌∷◌, ◌++◌}
use Rattle.std.proofs.Common.{length, drop, slice_get, Some, ⊎_elim, length-append}
use Rattle.std.proofs.lemmas.List.{drop-append-le, drop_all}
use Rattle.std.proofs.lemmas.Option.{slice_get_within}
use Rattle.lfs_model.specs.Call.{Call, Answer}
use Rattle.lfs_model.specs.Device.{DeviceState, IsLawful}
use Rattle.lfs_model.specs.Run.{Point, IsPending, NoneAcknowledged, acknowledges}
use Rattle.lfs_model.specs.Tree.{State, drop_nameless}
use Rattle.lfs_model.specs.TreeOf.{Left, LeavesOne, LeavesStates, Stands}
use Rattle.lfs_model.specs.Volume.{StandsForPrefix, LeavesPrefix}
use Rattle.lfs_model.proofs.Volume.{single_state}

-- ---- one call more

none_append : (calls : List Call) (answers : List Answer) (call : Call) (a : Answer) → NoneAcknowledged calls answers
    → acknowledges call a ≡ false → NoneAcknowledged (calls ++ call ∷ []) (answers ++ a ∷ [])
none_append [] [] call a h ne = (ne, tt)
none_append [] (b ∷ answers) call a h ne = absurd h
none_append (d ∷ calls) [] call a h ne = absurd h
none_append (d ∷ calls) (b ∷ answers) call a h ne = (h.0, none_append calls answers call a h.1 ne)

pub get_front : (points : List Point) (q : Point) (n : ℕ) (p : Point) → slice_get points n ≡ Some p
    → slice_get (points ++ q ∷ []) n ≡ Some p
get_front [] q n p is = cc
get_front (r ∷ points) q zero p is = is
get_front (r ∷ points) q (suc n) p is = get_front points q n p is

pub get_last : (points : List Point) (q : Point) → slice_get (points ++ q ∷ []) (length points) ≡ Some q
get_last [] q = refl
get_last (r ∷ points) q = get_last points q

-- The points of a run are one more than its calls and its answers.
pub record IsRunSoFar (points : List Point) (calls : List Call) (answers : List Answer) (last : Point) : Type 0 where
  pub points_length : length points ≡ suc (length calls)
  pub answers_length : length answers ≡ length calls
  pub at : slice_get points (length calls) ≡ Some last

pub so_far_more : (points : List Point) (calls : List Call) (answers : List Answer) (last new : Point) (call : Call) (a : Answer)
    → IsRunSoFar points calls answers last
    → IsRunSoFar (points ++ new ∷ []) (calls ++ call ∷ []) (answers ++ a ∷ []) new
so_far_more points calls answers last new call a run = record {
  points_length = omega (arith, length-append points (new ∷ []), length-append calls (call ∷ []), run.points_length);
  answers_length = omega (arith, length-append answers (a ∷ []), length-append calls (call ∷ []), run.answers_length);
  at = (let same : length (calls ++ call ∷ []) ≡ length points = omega (arith, length-append calls (call ∷ []), run.points_length) in
      ap (slice_get (points ++ new ∷ [])) same ∙ get_last points new);
}

module _ (points : List Point) (calls : List Call) (answers : List Answer) (last new : Point) (call : Call) (a : Answer)
    (run : IsRunSoFar points calls answers last) where
  abbrev all_points : List Point
  all_points = points ++ new ∷ []

  abbrev all_calls : List Call
  all_calls = calls ++ call ∷ []

  abbrev all_answers : List Answer
  all_answers = answers ++ a ∷ []

  -- what was pending still is, where the call isn't acknowledged
  pub pending_more : (s : State) → acknowledges call a ≡ false → IsPending points calls answers s
      → IsPending all_points all_calls all_answers s
  pending_more s ne old = record {
    n = old.n;
    point = old.point;
    at = get_front points new old.n old.point old.at;
    none_later = (
        let within = slice_get_within points old.n old.point old.at in
        let long = run.points_length in
        let same = run.answers_length in
        subst (λ cs. NoneAcknowledged cs (drop old.n all_answers)) (sym (drop-append-le old.n calls (call ∷ []) (omega arith)))
        (subst (NoneAcknowledged (drop old.n calls ++ call ∷ [])) (sym (drop-append-le old.n answers (a ∷ []) (omega arith)))
        (none_append (drop old.n calls) (drop old.n answers) call a old.none_later ne)));
    is = old.is;
  }

  -- the state before it is pending, where it isn't acknowledged
  pub pending_before : acknowledges call a ≡ false → IsPending all_points all_calls all_answers last.state
  pending_before ne = pending_more last.state ne (record {
    n = length calls;
    point = last;
    at = run.at;
    none_later = (
        let same = run.answers_length in
        subst (λ cs. NoneAcknowledged cs (drop (length calls) answers)) (sym (drop_all (length calls) calls (omega arith)))
        (subst (NoneAcknowledged []) (sym (drop_all (length calls) answers (omega arith))) tt));
    is = refl;
  })

  -- and the state after it is
  pub pending_after : IsPending all_points all_calls all_answers new.state
  pending_after =
      let more = so_far_more points calls answers last new call a run in record {
        n = length all_calls;
        point = new;
        at = more.at;
        none_later = (
            let same = more.answers_length in
            subst (λ cs. NoneAcknowledged cs (drop (length all_calls) all_answers))
            (sym (drop_all (length all_calls) all_calls (omega arith)))
            (subst (NoneAcknowledged []) (sym (drop_all (length all_calls) all_answers (omega arith))) tt));
        is = refl;
      }

-- ---- and what a stop leaves

-- before the first call
pub leaves_first : (d : DeviceState) (p : Point) → LeavesOne d (drop_nameless p.state) → LeavesPrefix d (p ∷ []) [] []
leaves_first d p one c left = (p.state, record { n = 0; point = p; at = refl; none_later = tt; is = refl }, one c left)

-- A call whose every moment leaves what was left before it, the state before it or the state after it, and which leaves the state
-- after it alone where it is acknowledged, keeps that so.
pub leaves_more : (old new : DeviceState) {points : List Point} {calls : List Call} (answers : List Answer) {last : Point} (next : Point)
    (call : Call) (a : Answer)
    → IsRunSoFar points calls answers last → IsLawful new → LeavesPrefix old points calls answers
    → LeavesStates old new (drop_nameless last.state ∷ drop_nameless next.state ∷ [])
    → (acknowledges call a ≡ true → LeavesOne new (drop_nameless next.state))
    → LeavesPrefix new (points ++ next ∷ []) (calls ++ call ∷ []) (answers ++ a ∷ [])
leaves_more old new {points} {calls} answers {last} next call a run lawful pending leaves acknowledged c left =
    elim (acknowledges call a)
    as (λ b. acknowledges call a ≡ b → StandsForPrefix c (points ++ next ∷ []) (calls ++ call ∷ []) (answers ++ a ∷ [])) [
      | true ↦ λ is. (next.state, pending_after points calls answers last next call a run, acknowledged is c left)
      | false ↦ λ not. (
          let found = leaves.each c (lawful.counts_now old.moment c leaves.later left) in
          ⊎_elim (λ was. before not found.0 found.1 was) (λ of. during not found.0 found.1 of.0 of.1 of.2) found.2)
    ] refl
  where
    before : acknowledges call a ≡ false → (t : State) → Stands c t → Left old t
        → StandsForPrefix c (points ++ next ∷ []) (calls ++ call ∷ []) (answers ++ a ∷ [])
    before ne t stands was =
        let one = pending was.content was.may_leave in
        let same : t ≡ drop_nameless one.0 = single_state was.content t (drop_nameless one.0) was.stands one.2 in
        (one.0, pending_more points calls answers last next call a run one.0 ne one.1, subst (Stands c) same stands)

    during : acknowledges call a ≡ false → (t : State) → Stands c t → (k : ℕ) → k < 2 → slice_index_or (drop_nameless last.state
        ∷ drop_nameless next.state ∷ []) k t ≡ t → StandsForPrefix c (points ++ next ∷ []) (calls ++ call ∷ []) (answers ++ a ∷ [])
    during ne t stands zero lt is =
        (last.state, pending_before points calls answers last next call a run ne, subst (Stands c) (sym is) stands)
    during ne t stands (suc zero) lt is =
        (next.state, pending_after points calls answers last next call a run, subst (Stands c) (sym is) stands)
    during ne t stands (suc (suc k)) lt is = absurd (omega arith)
