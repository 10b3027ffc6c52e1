-- What a stop leaves of a recorder's lines.
use Rattle.std.proofs.Common.{◌≡◌, ◌≢◌, ◌<◌, ◌≤◌, ℕ, zero, suc, true, false, cond, List, [], ◌∷◌, ◌++◌, Option, Some, refl, sym, ap}
use Rattle.std.proofs.Common.{ap₂, ◌∙◌, subst, arith, drop, take, map}
use Rattle.std.specs.Prelude.{T, slice_get, unwrap_or}
use Rattle.std.specs.List.{AllByRecursion}
use Rattle.std.proofs.lemmas.Bool.{false≢true}
use Rattle.std.specs.Ordering.{is_eq}
use Rattle.std.specs.declared.cmp.Ordering.TheVariants.{Less, Equal, Greater}
use Rattle.std.specs.FinMap.{find, is_sorted, nat_cmp-IsAntisymmetric, slice_cmp-IsAntisymmetric}
use Rattle.lfs_model.specs.Call.{Answer, Call, Done, Sync}
use Rattle.lfs_model.specs.Device.{DeviceState}
use Rattle.lfs_model.specs.Run.{NoneAcknowledged, acknowledges}
use Rattle.lfs_model.specs.Sound.{Sound}
use Rattle.lfs_model.specs.Tree.{Names, State, byte_cmp, drop_nameless, entry}
use Rattle.lfs_model.proofs.Sums.{T_left, T_right}
use Rattle.lfs_record.specs.Keeping.{GoesBy, IsOpen, LinesAreKept}
use Rattle.lfs_record.specs.Kept.{Holds, RecordFile, at_first, bytes_in, files_in}
use Rattle.lfs_record.specs.Moves.{Calls, texts_in}
use Rattle.lfs_record.specs.Names.{is_name, number_of}
use Rattle.lfs_record.specs.declared.recorder.Present.{Present}
use Rattle.lfs_record.specs.declared.recorder.Recorder.{Recorder}
use Rattle.lfs_record.proofs.Along.{HasPresent, IsIn}
use Rattle.lfs_record.proofs.Changes.{HasRoot, all_found, all_left, all_map, all_right, all_with, dropped_files, names_are}
use Rattle.lfs_record.proofs.Listed.{AreBehind, behind_is, never_both, not_itself}
use Rattle.lfs_record.proofs.Oldest.{all_at}
use Rattle.lfs_record.proofs.Running.{along, behind_each}
use Rattle.lfs_record.proofs.Steps.{root_of}

-- ---- where a name stands

pub record FoundAt (name : List ℕ) (n : ℕ) (m : Names) : Type 0 where
  pub before : Names
  pub after : Names
  pub order : m ≡ before ++ (name, n) ∷ after
  pub behind : AreBehind name after
  pub ahead : AllByRecursion (λ e. byte_cmp e.0 name ≡ Less) before

behind_first : (name : List ℕ) (n : ℕ) (e : List ℕ × ℕ) (m : Names) → AreBehind e.0 m → FoundAt name n m → FoundAt name n (e ∷ m)
behind_first name n e m behind rest = record {
  before = e ∷ rest.before;
  after = rest.after;
  order = ap (λ (l : Names). e ∷ l) rest.order;
  behind = rest.behind;
  ahead = (
    all_at (λ x. byte_cmp e.0 x.0 ≡ Less) rest.before (name, n) rest.after (subst (AreBehind e.0) rest.order behind),
    rest.ahead,
  );
}

pub found_at : (name : List ℕ) (n : ℕ) (m : Names) → T (is_sorted byte_cmp m) → find byte_cmp name m ≡ Some n → FoundAt name n m
found_at name n [] sorted is = cc
found_at name n (e ∷ m) sorted is =
    elim (byte_cmp name e.0) as (λ r. byte_cmp name e.0 ≡ r → cond (is_eq r) (Some e.1) (find byte_cmp name m) ≡ Some n
    → FoundAt name n (e ∷ m)) [
      | Less ↦ λ p is. behind_first name n e m (behind_is e.0 m (T_left _ _ sorted)) (found_at name n m (T_right _ _ sorted) is)
      | Equal ↦ λ p is. (
          let same : name ≡ e.0 = slice_cmp-IsAntisymmetric nat_cmp-IsAntisymmetric name e.0 p in
          let gives : e.1 ≡ n = ap (λ (o : Option ℕ). unwrap_or o n) is in
          record {
            before = [];
            after = m;
            order = ap₂ (λ (x : List ℕ) (k : ℕ). (x, k) ∷ m) (sym same) gives;
            behind = subst (λ (x : List ℕ). AreBehind x m) (sym same) (behind_is e.0 m (T_left _ _ sorted));
            ahead = tt;
          })
      | Greater ↦ λ p is. behind_first name n e m (behind_is e.0 m (T_left _ _ sorted)) (found_at name n m (T_right _ _ sorted) is)
    ] refl is

-- ---- a recorder goes by a state

module _ (N : ℕ) (r : Recorder) (s : State) (sound : Sound N s) (by : GoesBy r s) where
  abbrev form : ℕ
  form = (root_of N s sound).0

  abbrev m : Names
  m = (root_of N s sound).1

  root : HasRoot s.tree form m
  root = (root_of N s sound).2

  entry_is : (x : List ℕ) (k : ℕ) → find byte_cmp x m ≡ Some k → entry s.tree 1 x ≡ Some k
  entry_is x k is = ap (find byte_cmp x) (names_are s.tree form m root.is) ∙ is

  module _ (p : Present) (present : r.present ≡ Some p) where
    is_open : IsOpen r.number s p
    is_open = by.present p present

    abbrev name : List ℕ
    name = is_open.name

    place : FoundAt name is_open.n m
    place = found_at name is_open.n m root.sorted (ap (find byte_cmp name) (sym (names_are s.tree form m root.is)) ∙ is_open.is_there)

    all : AllByRecursion (λ e. find byte_cmp e.0 m ≡ Some e.1) (place.before ++ (name, is_open.n) ∷ place.after)
    all = subst (AllByRecursion (λ e. find byte_cmp e.0 m ≡ Some e.1)) place.order (all_found m root.sorted)

    not_after : (e : List ℕ × ℕ) → (byte_cmp name e.0 ≡ Less) × (find byte_cmp e.0 m ≡ Some e.1) → is_name e.0 ≡ false
    not_after e both = elim (is_name e.0) as (λ b. is_name e.0 ≡ b → b ≡ false) [
      | true ↦ λ named. (
          let other : e.0 ≢ name = λ (same : e.0 ≡ name). not_itself name (subst (λ (x : List ℕ). byte_cmp name x ≡ Less) same both.0) in
          absurd (never_both name e.0 both.0 (is_open.last e.0 e.1 (entry_is e.0 e.1 both.1) named other).0))
      | false ↦ λ named. refl
    ] refl

    apart_before : (e : List ℕ × ℕ) → (byte_cmp e.0 name ≡ Less) × (find byte_cmp e.0 m ≡ Some e.1) → is_name e.0 ≡ true → e.1 ≢ is_open.n
    apart_before e both named =
        let other : e.0 ≢ name = λ (same : e.0 ≡ name). not_itself name (subst (λ (x : List ℕ). byte_cmp x name ≡ Less) same both.0) in
        (is_open.last e.0 e.1 (entry_is e.0 e.1 both.1) named other).1

    has : HasPresent r.number s m p
    has = record {
      name = name;
      n = is_open.n;
      bytes = is_open.bytes;
      end = record {
        before = place.before;
        after = place.after;
        order = place.order;
        none = all_map (λ e. (byte_cmp name e.0 ≡ Less)
            × (find byte_cmp e.0 m ≡ Some e.1)) (λ e. is_name e.0 ≡ false) not_after place.after
            (all_with (λ e. byte_cmp name e.0 ≡ Less) (λ e. find byte_cmp e.0 m ≡ Some e.1) place.after place.behind
            (all_right (λ e. find byte_cmp e.0 m ≡ Some e.1) place.before ((name, is_open.n) ∷ place.after) all).1);
        apart = all_map (λ e. (byte_cmp e.0 name ≡ Less) × (find byte_cmp e.0 m ≡ Some e.1)) (λ e. is_name e.0 ≡ true → e.1 ≢ is_open.n)
            apart_before place.before
            (all_with (λ e. byte_cmp e.0 name ≡ Less) (λ e. find byte_cmp e.0 m ≡ Some e.1) place.before place.ahead
            (all_left (λ e. find byte_cmp e.0 m ≡ Some e.1) place.before ((name, is_open.n) ∷ place.after) all));
        is = ap bytes_in is_open.is_file;
        named = is_open.named;
      };
      numbered = is_open.numbered;
      opens = is_open.opens;
      long = is_open.long;
    }

  pub goes_in : IsIn r s
  goes_in = record {
    form = form;
    names = m;
    root = root;
    up = all_map (λ e. find byte_cmp e.0 m ≡ Some e.1) (λ e. is_name e.0 ≡ true → number_of e.0 ≤ r.number)
        (λ e is named. by.newest e.0 e.1 (entry_is e.0 e.1 is) named) m (all_found m root.sorted);
    present = has;
  }

-- ---- saves that were told

is_sync : (c : Call × Answer) → ◌≡◌ {A = Call × Answer} c (Sync, Done) → acknowledges c.0 c.1 ≡ true
is_sync c same = ap (λ (x : Call × Answer). acknowledges x.0 x.1) same

-- none of these calls is a save that was told
none_saves : (calls : Calls) (j : ℕ) → NoneAcknowledged (map (λ c. c.0) calls) (map (λ c. c.1) calls)
    → slice_get calls j ≡ Some (Sync, Done) → ⊥
none_saves [] j none is = cc
none_saves (c ∷ calls) zero none is = false≢true (sym none.0 ∙ is_sync c (ap (λ (o : Option (Call × Answer)). unwrap_or o c) is))
none_saves (c ∷ calls) (suc j) none is = none_saves calls j none.1 is

none_in : (calls : Calls) (i j : ℕ) → NoneAcknowledged (take i (map (λ c. c.0) calls)) (take i (map (λ c. c.1) calls)) → j < i
    → slice_get calls j ≡ Some (Sync, Done) → ⊥
none_in [] i j none low is = cc
none_in (c ∷ calls) zero j none low is = omega (arith, low)
none_in (c ∷ calls) (suc i) zero none low is =
    false≢true (sym none.0 ∙ is_sync c (ap (λ (o : Option (Call × Answer)). unwrap_or o c) is))
none_in (c ∷ calls) (suc i) (suc j) none low is = none_in calls i j none.1 (omega (arith, low)) is

-- so one among the first i calls is among the first n, where none of those behind is
saved_before : (calls : Calls) (n i j : ℕ)
    → NoneAcknowledged (drop n (take i (map (λ c. c.0) calls))) (drop n (take i (map (λ c. c.1) calls)))
    → j < i → slice_get calls j ≡ Some (Sync, Done) → j < n
saved_before [] n i j none low is = cc
saved_before (c ∷ calls) zero i j none low is = absurd (by i none low)
  where
    by : (i : ℕ) → NoneAcknowledged (take i (map (λ c. c.0) (c ∷ calls))) (take i (map (λ c. c.1) (c ∷ calls))) → j < i → ⊥
    by i none low = none_in (c ∷ calls) i j none low is
saved_before (c ∷ calls) (suc n) zero j none low is = absurd (omega (arith, low))
saved_before (c ∷ calls) (suc n) (suc i) zero none low is = omega arith
saved_before (c ∷ calls) (suc n) (suc i) (suc j) none low is =
    let rest = saved_before calls n i j none (omega (arith, low)) is in omega (arith, rest)

-- ---- what a stop leaves

module _ {D : Type 0} (state : D → DeviceState) where
  pub lines_are_kept : LinesAreKept state
  lines_are_kept device N first r r' calls points recorded =
      let start : List RecordFile = files_in first.state.tree in
      let goes = along N start [] r r' calls recorded.moves first points recorded.run (record {
        is = goes_in N r first.state recorded.sound recorded.goes_by;
        sound = recorded.sound;
        holds = at_first;
        none = λ _. refl;
      }) in
      record {
        behind = λ n q at. (behind_each N start [] first q calls points n goes.0 at).holds;
        since = λ i t since c left. (
            let from = since c left in
            let shows = behind_each N start [] first from.point calls points from.n goes.0 from.at in
            let top = root_of N from.point.state shows.sound in
            record {
              n = from.n;
              saved = λ j low is. saved_before calls from.n i j from.none_later low is;
              state = drop_nameless from.point.state;
              stands = from.stands;
              holds = subst (Holds start (texts_in (take from.n calls))) (sym
                  (dropped_files from.point.state top.0 top.1 top.2)) shows.holds;
            });
      }
