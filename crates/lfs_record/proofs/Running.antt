-- All calls of a recorder, one behind the other: what its files hold behind each.
use Rattle.std.proofs.Common.{◌≡◌, ◌≢◌, ℕ, zero, suc, List, [], ◌∷◌, ◌++◌, Option, Some, None, refl, sym, ap, ◌∙◌, subst, arith, inl, inr}
use Rattle.std.specs.Prelude.{map, slice_get, take}
use Rattle.lfs_model.specs.Bytes.{AreBytes}
use Rattle.lfs_model.specs.Call.{Answer, Call, Close, Count, Data, DirectoryEntry, Done, Entries, FormatVersion, Handle, Readdir, Refuse}
use Rattle.lfs_model.specs.Call.{Room, Rows, Status, Sync, Text, Unlink}
use Rattle.lfs_model.specs.Run.{Answers, Point, Run, final}
use Rattle.lfs_model.specs.Sound.{Sound}
use Rattle.lfs_model.specs.Step.{Step}
use Rattle.lfs_model.specs.Tree.{State}
use Rattle.lfs_model.proofs.Pendings.{reads_leave}
use Rattle.lfs_record.specs.Files.{oldest}
use Rattle.lfs_record.specs.Kept.{Holds, RecordFile, files_in, text_of}
use Rattle.lfs_record.specs.Moves.{Calls, Moves, goes_on, grown, goes_to, is_refused, keeps_few, lists, makes_room, more_texts}
use Rattle.lfs_record.specs.Moves.{no_more, root, saves, started, starts, texts_behind, writes}
use Rattle.lfs_record.specs.Names.{path_of}
use Rattle.lfs_record.specs.declared.recorder.Present.{Present}
use Rattle.lfs_record.specs.declared.recorder.Recorder.{Recorder}
use Rattle.lfs_record.proofs.Along.{IsIn, closed, file_holds, file_in, file_sound, line_holds, line_in, line_sound, listed}
use Rattle.lfs_record.proofs.Along.{other_handle, refused_state}
use Rattle.lfs_record.proofs.Along.{rest_holds, rest_in, rest_sound, stepped}

-- a sound state whose files hold these texts
pub record Shows (N : ℕ) (first : List RecordFile) (texts : List (List ℕ)) (p : Point) : Type 0 where
  pub sound : Sound N p.state
  pub holds : Holds first texts (files_in p.state.tree)

-- what files hold before each of these calls and behind all
abbrev pub Follows : ℕ → List RecordFile → List (List ℕ) → Point → Calls → List Point → Type 0
Follows N first texts p [] [] = Shows N first texts p
Follows N first texts p (c ∷ calls) (q ∷ points) = Shows N first texts p × Follows N first (more_texts texts c.1 c.0) q calls points
Follows N first texts p _ _ = ⊥

abbrev calls_of : Calls → List Call
calls_of = map (λ c. c.0)

abbrev answers_of : Calls → List Answer
answers_of = map (λ c. c.1)

abbrev Runs : ℕ → Point → Calls → List Point → Type 0
Runs N p calls points = Run N p (calls_of calls) (answers_of calls) points

text_bytes : (line : List ℕ) → AreBytes line → AreBytes (text_of line)
text_bytes [] bytes = (omega arith, tt)
text_bytes (b ∷ line) bytes = (bytes.0, text_bytes line bytes.1)

pub no_text : (texts : List (List ℕ)) (a : Answer) (h : ℕ) → more_texts texts a (Close h) ≡ texts
no_text texts (Refuse r) h = refl
no_text texts Done h = refl
no_text texts (Handle n) h = refl
no_text texts (Count n) h = refl
no_text texts (Data bytes) h = refl
no_text texts (Text bytes) h = refl
no_text texts (Status stat) h = refl
no_text texts (Entries entries) h = refl
no_text texts (Room a b c d) h = refl
no_text texts (FormatVersion n) h = refl
no_text texts (Rows rows) h = refl

abbrev handle_of : Option Present → ℕ
handle_of (Some p) = p.handle
handle_of None = 0

abbrev point_in : Point → Option Point → Point
point_in p (Some q) = q
point_in p None = p

-- a point of a run, by its recorder
pub record IsHere (N : ℕ) (first : List RecordFile) (texts : List (List ℕ)) (r : Recorder) (p : Point) : Type 0 where
  pub is : IsIn r p.state
  pub sound : Sound N p.state
  pub holds : Holds first texts (files_in p.state.tree)
  pub none : r.present ≡ None → texts ≡ []

module _ (N : ℕ) (first : List RecordFile) where
  shows : {texts : List (List ℕ)} {r : Recorder} {p : Point} → IsHere N first texts r p → Shows N first texts p
  shows here = record { sound = here.sound; holds = here.holds }

  -- what follows from a point
  abbrev Goes : List (List ℕ) → Recorder → Point → Calls → Recorder → Type 0
  Goes texts r p calls r' = (points : List Point) → Runs N p calls points → IsHere N first texts r p
      → Follows N first texts p calls points × IsIn r' (final p points).state

  here_again : {texts : List (List ℕ)} (r : Recorder) (p q : Point) → q.state ≡ p.state → IsHere N first texts r p
      → IsHere N first texts r q
  here_again {texts} r p q same here = record {
    is = subst (IsIn r) (sym same) here.is;
    sound = subst (Sound N) (sym same) here.sound;
    holds = subst (λ (s : State). Holds first texts (files_in s.tree)) (sym same) here.holds;
    none = here.none;
  }

  -- a call that leaves the state
  stays : (texts : List (List ℕ)) (r r' : Recorder) (p : Point) (call : Call) (a : Answer) (calls : Calls)
      → more_texts texts a call ≡ texts
      → ((q : Point) → Answers N call p a q → q.state ≡ p.state) → ((q : Point) → Goes texts r q calls r')
      → Goes texts r p ((call, a) ∷ calls) r'
  stays texts r r' p call a calls same leaves rest [] run here = absurd run
  stays texts r r' p call a calls same leaves rest (q ∷ points) run here =
      let behind = rest q points run.1 (here_again r p q (leaves q run.0) here) in
      ((shows here, subst (λ (t : List (List ℕ)). Follows N first t q calls points) (sym same) behind.0), behind.1)

  -- the root is listed, and its oldest file goes
  drops : (texts : List (List ℕ)) (r r' : Recorder) (p : Point) (entries : List DirectoryEntry) (file : DirectoryEntry) (calls : Calls)
      → oldest r.number entries ≡ Some file → ((q : Point) → Goes texts r q calls r')
      → Goes texts r p ((Readdir root, Entries entries) ∷ (Unlink (path_of file.name), Done) ∷ calls) r'
  drops texts r r' p entries file calls is rest [] run here = absurd run
  drops texts r r' p entries file calls is rest (q ∷ []) run here = absurd run.1
  drops texts r r' p entries file calls is rest (q ∷ o ∷ points) run here =
      let told = listed p.state q.state here.is.form here.is.names entries here.is.root (stepped p q run.0 refl) in
      let again = here_again r p q told.0 here in
      let st : Step N p.state (Unlink (path_of file.name)) Done o.state =
      subst (λ (s : State). Step N s (Unlink (path_of file.name)) Done o.state) told.0 (stepped q o run.1.0 refl) in
      let next : IsHere N first texts r o = record {
        is = rest_in N r p.state o.state here.is here.sound file entries told.1 is st;
        sound = rest_sound N r p.state o.state here.is here.sound file entries told.1 is st;
        holds = rest_holds N r p.state o.state here.is here.sound file entries told.1 is st first texts here.none here.holds;
        none = here.none;
      } in
      let behind = rest o points run.1.1 next in
      ((shows here, (shows again, behind.0)), behind.1)

  pub along : (texts : List (List ℕ)) (r r' : Recorder) (calls : Calls) → Moves r calls r' → (p : Point) → Goes texts r p calls r'
  along texts r r' calls no_more p [] run here = (shows here, here.is)
  along texts r r' calls no_more p (q ∷ points) run here = absurd run
  along texts r r' calls (is_refused {calls = calls'} call refusal own moves) p points run here =
      stays texts r r' p call (Refuse refusal) calls' refl (λ q does. refused_state refusal p q own does)
      (λ q. along texts r r' calls' moves q) points run here
  along texts r r' calls (lists {calls = calls'} entries moves) p points run here =
      stays texts r r' p (Readdir root) (Entries entries) calls' refl
      (λ q does. reads_leave N p.state q.state (Readdir root) (Entries entries) refl (stepped p q does refl))
      (λ q. along texts r r' calls' moves q) points run here
  along texts r r' calls (saves {calls = calls'} moves) p points run here =
      stays texts r r' p Sync Done calls' refl (λ q does. reads_leave N p.state q.state Sync Done refl (stepped p q does refl))
      (λ q. along texts r r' calls' moves q) points run here
  along texts r r' calls (starts day handle is few none moves) p [] run here = absurd run
  along texts r r' calls (starts {calls = calls'} day handle is few none moves) p (q ∷ points) run here =
      let st = stepped p q run.0 refl in
      let next : IsHere N first texts (started r day handle) q = record {
        is = file_in N r p.state q.state here.is here.sound day handle is few st;
        sound = file_sound N r p.state q.state here.is here.sound day handle is few st;
        holds = file_holds N r p.state q.state here.is here.sound day handle is few st first texts here.holds;
        none = λ same. cc;
      } in
      let behind = along texts (started r day handle) r' calls' moves q points run.1 next in
      ((shows here, behind.0), behind.1)
  along texts r r' calls (goes_on day handle before shut is few present moves) p [] run here = absurd run
  along texts r r' calls (goes_on day handle before shut is few present moves) p (q ∷ []) run here = absurd run.1
  along texts r r' calls (goes_on {calls = calls'} day handle before shut is few present moves) p (q ∷ o ∷ points) run here =
      let st = stepped p q run.0 refl in
      let new : Recorder = started r day handle in
      let next : IsHere N first texts new q = record {
        is = file_in N r p.state q.state here.is here.sound day handle is few st;
        sound = file_sound N r p.state q.state here.is here.sound day handle is few st;
        holds = file_holds N r p.state q.state here.is here.sound day handle is few st first texts here.holds;
        none = λ same. cc;
      } in
      let was = here.is.present before present in
      let apart : (x : Present) → new.present ≡ Some x → before.handle ≢ x.handle =
      λ (x : Present) (same : new.present ≡ Some x) (e : before.handle ≡ x.handle).
      (let other = other_handle N r p.state q.state here.is here.sound day handle is few st before.handle was.n was.opens in
      let h : handle ≡ x.handle = ap (λ (y : Option Present). handle_of y) same in
      other (e ∙ sym h)) in
      let last : IsHere N first texts new o = elim run.1.0.steps as (λ _. IsHere N first texts new o) [
        | inl step ↦ (let c = closed N new q.state o.state next.is next.sound before.handle shut step.0 apart in record {
          is = c.0;
          sound = c.2;
          holds = subst (Holds first texts) (sym c.1) next.holds;
          none = next.none;
        })
        | inr refused ↦ here_again new q o refused.3 next
      ] in
      let behind = along texts new r' calls' moves o points run.1.1 last in (
        (
          shows here,
          (
            shows next,
            subst (λ (t : List (List ℕ)). Follows N first t o calls' points) (sym
                (no_text texts shut before.handle)) behind.0,
          ),
        ),
        behind.1,
      )
  along texts r r' calls (writes present line count is at moves) p [] run here = absurd run
  along texts r r' calls (writes {calls = calls'} present line count is at moves) p (q ∷ points) run here =
      let st = stepped p q run.0 refl in
      let next : IsHere N first (texts ++ text_of line ∷ []) (goes_to r (grown present line)) q = record {
        is = line_in N r p.state q.state here.is here.sound present line count at st;
        sound = line_sound N r p.state q.state here.is here.sound present line count at st (text_bytes line is.bytes);
        holds = line_holds N r p.state q.state here.is here.sound present line count at st first texts here.holds;
        none = λ same. cc;
      } in
      let behind = along (texts ++ text_of line ∷ []) (goes_to r (grown present line)) r' calls' moves q points run.1 next in
      ((shows here, behind.0), behind.1)
  along texts r r' calls (makes_room {calls = calls'} {dropped = dropped} call refusal own room dropping moves) p points run here =
      stays texts r r' p call (Refuse refusal) (dropped ++ calls') refl (λ q does. refused_state refusal p q own does)
      (λ q. subst (λ (d : Calls). Goes texts r q (d ++ calls') r') (sym dropping.order)
      (drops texts r r' q dropping.entries dropping.file calls' dropping.is (λ o. along texts r r' calls' moves o)))
      points run here
  along texts r r' calls (keeps_few {calls = calls'} {dropped = dropped} some dropping more moves) p points run here =
      subst (λ (d : Calls). Goes texts r p (d ++ calls') r') (sym dropping.order)
      (drops texts r r' p dropping.entries dropping.file calls' dropping.is (λ o. along texts r r' calls' moves o)) points run here

-- what files hold behind the first n calls
pub behind_each : (N : ℕ) (first : List RecordFile) (texts : List (List ℕ)) (p q : Point) (calls : Calls) (points : List Point) (n : ℕ)
    → Follows N first texts p calls points → slice_get (p ∷ points) n ≡ Some q → Shows N first (texts_behind texts (take n calls)) q
behind_each N first texts p q [] [] zero follows at = subst (λ (o : Option Point). Shows N first texts (point_in p o)) at follows
behind_each N first texts p q [] [] (suc n) follows at = cc
behind_each N first texts p q [] (o ∷ points) n follows at = absurd follows
behind_each N first texts p q (c ∷ calls) [] n follows at = absurd follows
behind_each N first texts p q (c ∷ calls) (o ∷ points) zero follows at =
    subst (λ (x : Option Point). Shows N first texts (point_in p x)) at follows.0
behind_each N first texts p q (c ∷ calls) (o ∷ points) (suc n) follows at =
    behind_each N first (more_texts texts c.1 c.0) o q calls points n follows.1 at
