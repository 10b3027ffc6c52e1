-- The model's steps of the calls, from what the log map says: headers, bytes read, and totals for room.
use Rattle.lfs_fs.proofs.Prelude.{Bool, ◌≡◌, ◌<◌, ◌≤◌, ◌+◌, ◌-◌, ◌*◌, ◌^◌, ℕ, true, false, List, length, Some, sym, ◌∙◌, ap, subst, inr}
use Rattle.lfs_fs.proofs.Prelude.{⊎_elim, arith, max, min, nat_cmp, find, AreBytes, part, Answer, Call, Count, Data, Pread, Pwrite, Refuse}
use Rattle.lfs_fs.proofs.Prelude.{Room, Space, Status, changes, cleans, is_ok, need, IsHeaderOf, NoSpace, Refusal, Worn, IsExcused, Point}
use Rattle.lfs_fs.proofs.Prelude.{LogMap, Step, with_tree, State, object, At, Resolve, object_length, IsCounted, TotalsOfTree, resized}
use Rattle.lfs_fs.proofs.Prelude.{stat_call, IsFileOf, IsMapOf, IsShaped, opened_file, stat_is, written}
use Rattle.std.proofs.Common.{take, drop}
use Rattle.std.proofs.lemmas.List.{drop_min, length-drop, take_min}
use Rattle.lfs_model.specs.Call.{Stat}
use Rattle.lfs_model.specs.Entry as entry
use Rattle.lfs_model.specs.Run.{IsPastLast}
use Rattle.lfs_model.proofs.StepsAre.{step_unique}
use Rattle.lfs_files.specs.declared.header.Header.{Header}
use Rattle.lfs_store.specs.memory.Present.{as_header}
use Rattle.lfs_store.specs.Writing.{WritesFile}
use Rattle.lfs_steps.proofs.volume.Nodes.{room_counted}
use Rattle.lfs_steps.proofs.open_files.Steps.{read_done, write_done, write_no_space}
use Rattle.lfs_fs.proofs.paths.Steps.{space_done, stat_done}
use Rattle.lfs_steps.proofs.write.Bytes.{written_map, written_need}

-- ---- the last number

-- before it no call is refused for it
pub not_worn : (N : ℕ) (call : Call) (p : Point) → p.number < 2 ^ 62 → IsPastLast N call p → ⊥
not_worn N call p low past = let high = past.0 in omega (arith, low, high)

-- nor is one that changes nothing
pub never_worn : (N : ℕ) (call : Call) (p : Point) → changes call ≡ false → cleans call ≡ false → IsPastLast N call p → ⊥
never_worn N call p still unclean past = ⊎_elim (λ on. let no = unclean in cc) (λ on. let yes_changes = on.0 in let no = still in cc) past.1

-- nor one that the model refuses
pub refused_not_worn : (N : ℕ) {call : Call} (p : Point) {r : Refusal} {s' : State} → Step N p.state call (Refuse r) s'
    → cleans call ≡ false → IsPastLast N call p → ⊥
refused_not_worn N p {r} step unclean past = ⊎_elim
    (λ on. let no = unclean in cc)
    (λ on.
    let would = on.1 in
    let same : would.0 ≡ Refuse r = (step_unique would.2 step).0 in
    let no : is_ok would.0 ≡ false = ap is_ok same in
    let ok = would.3 in cc)
    past.1

-- a change that would be done is
pub worn : (N : ℕ) {call : Call} (p q : Point) → 2 ^ 62 ≤ p.number → changes call ≡ true → {a : Answer} {s' : State}
    → Step N p.state call a s' → is_ok a ≡ true → IsExcused N call p q Worn
worn N p q high change {a} {s'} step ok = (high, inr (change, (a, s', step, ok)))

-- ---- reads

-- a part of a list, its ends moved back to that of the list
pub part_clipped : (b : List ℕ) (o n : ℕ) → part b (min o (length b)) (min (o + n) (length b) - min o (length b)) ≡ part b o n
part_clipped b o n =
    ap (take (min (o + n) (length b) - min o (length b))) (drop_min o b)
    ∙ ap (λ (k : ℕ). take k (drop o b)) (let l = length-drop o b in omega (arith, l))
    ∙ take_min n (drop o b)

module _ {N : ℕ} (m : LogMap) (s : State) (is : IsMapOf N m s) where
  module _ (h n off count : ℕ) (opens : find nat_cmp h s.handles ≡ Some n) (head : Header) (there : m.header n ≡ Some (as_header head))
      (few : count ≤ 65536) (out : List ℕ) where
    was : IsFileOf m s.tree n
    was = opened_file is.log h opens

    head_is : was.head ≡ as_header head
    head_is = let both : Some was.head ≡ Some (as_header head) = sym was.there ∙ there in cc

    pub pread_step : out ≡ part (object m n (as_header head)) off count → Step N s (Pread h off count) (Data out) s
    pread_step read =
        subst (λ (b : List ℕ). Step N s (Pread h off count) (Data b) s)
        (ap (λ (x : entry.Header). part (object m n x) off count) head_is ∙ sym read) (read_done N s h off count n opens few was.bytes)

    -- its ends moved back to that of the file
    pub pread_clipped : out ≡ part (object m n (as_header head)) (min off head.size) (min (off + count) head.size - min off head.size)
        → Step N s (Pread h off count) (Data out) s
    pread_clipped read = pread_step (read
        ∙ ap (λ (l : ℕ). part (object m n (as_header head)) (min off l) (min (off + count) l - min off l))
        (sym (object_length m n (as_header head)))
        ∙ part_clipped (object m n (as_header head)) off count)

  -- ---- what is told
  pub stat_step : (p : List ℕ) (follow : Bool) (n : ℕ) → Resolve s.tree p follow (At n) → {h : entry.Header} → m.header n ≡ Some h
      → IsHeaderOf n h
      → Step N s (stat_call follow p) (Status (record { number = n; kind = h.kind; links = h.links; size = h.size })) s
  stat_step p follow n walk {h} there fits =
      subst (λ (x : Stat). Step N s (stat_call follow p) (Status x) s) (stat_is is.log n there fits) (stat_done N s p follow n walk)

  -- ---- room
  module _ (totals : TotalsOfTree) where
    pub space_step : ((n : ℕ) (h : entry.Header) → m.header n ≡ Some h → IsHeaderOf n h) → {blocks : ℕ} (others : ℕ)
        → IsCounted m blocks others
        → Step N s Space (Room blocks others (blocks + 7 * others + 720) (47 * N)) s
    space_step fits {blocks} others counted =
        subst (λ (a : Answer). Step N s Space a s) (room_counted totals N m s is fits counted) (space_done N s)

    module _ (shaped : IsShaped m) {m' : LogMap} {blocks others : ℕ} (counted : IsCounted m' blocks others) where
      -- a write of some bytes
      module _ (h n : ℕ) (opens : find nat_cmp h s.handles ≡ Some n) {head : Header} (there : m.header n ≡ Some (as_header head)) (at : ℕ)
          (w : List ℕ)
          (writes : WritesFile m m' n head (resized head (max head.size (at + length w))) at w) (some : 0 < length w)
          (few : length w ≤ 65536) (end : at + length w ≤ 8511488) where
        needs : need (written N s h at w) ≡ blocks + 7 * others + 720
        needs = written_need m m' s h n is opens head there w writes end totals shaped counted

        fits_in : blocks + 7 * others + 720 ≤ 47 * N → need (written N s h at w) ≤ 47 * N
        fits_in room = let same = needs in omega (arith, same, room)

        -- with room it is done, and without refused
        pub pwrite_ends : (47 * N < blocks + 7 * others + 720
            → Step N s (Pwrite h at w) (Refuse NoSpace) s)
            × (blocks + 7 * others + 720 ≤ 47 * N
            → Step N s (Pwrite h at w) (Count (length w)) (with_tree s (written N s h at w)))
            × (AreBytes w → blocks + 7 * others + 720 ≤ 47 * N
            → IsMapOf N m' (with_tree s (written N s h at w)))
        pwrite_ends = (
          λ lacks. write_no_space N s h at w n opens few some end (let same = needs in omega (arith, same, lacks)),
          λ room. write_done N s h at w n opens few some end (fits_in room),
          λ bytes room. written_map m m' s h n is opens head there w writes end bytes (fits_in room),
        )
