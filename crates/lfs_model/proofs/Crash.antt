-- What a crash leaves in the course of a commit.
use Rattle.std.proofs.Common.{◌≡◌, ◌<◌, ◌≤◌, ◌⊎◌, inl, inr, ◌+◌, ◌*◌, ◌-◌, ◌/◌, ◌%◌, ◌==◌, ℕ, zero, suc, List, [], ◌∷◌, length, set, take}
use Rattle.std.proofs.Common.{drop, Option, Some, None, refl, sym, ◌∙◌, ap, ap₂, subst, arith, length-take, length-set, get_or-set_same}
use Rattle.std.proofs.Math.Path.{fun_ext}
use Rattle.std.proofs.lemmas.List.{get_or_past}
use Rattle.std.proofs.lemmas.Bool.{eq-eqb, cond-true}
use Rattle.lfs_model.specs.Entry.{Entry, Data, Leaf, Double, Inode, Map, Usage, entries_in}
use Rattle.lfs_model.specs.Checkpoint.{CheckpointValue, checkpoint_in, layout_version, shape_of}
use Rattle.lfs_model.specs.Content.{Content, bytes_of, slot, with_parity}
use Rattle.lfs_model.specs.Device.{MayWrite, left_old, left_new, left_bad, cell_at}
use Rattle.lfs_model.specs.Reach.{address, used, Row, chunks, row, row_by, place_in, View, view}
use Rattle.lfs_model.specs.Stands.{Protected, Stages, used_in, LogMap, HoldsAt, StandsAt, StandsLog, EnoughClean, header_in, label_at}
use Rattle.lfs_model.specs.Stands.Protected.{reached, summary}
use Rattle.lfs_model.specs.Crash.{Keeps, IsFreeSector, IsReadyFor, StandsOn, Locality, SingleLog, FreeWrites, SlotWrite}
use Rattle.lfs_model.proofs.Newest.{none_spelt, sector_other, slot_other, newest_other, slot_newest, newest_alone, newest_next}
use Rattle.lfs_model.proofs.Reach.{view_same, after_inv, opened_inv}

-- the same stages, at any content of the same size that has the protected sectors
module _ (c d : Content) (k : CheckpointValue) (m : LogMap) where
  holds_at_same : HoldsAt c k m → length d ≡ length c → view d k ≡ view c k → HoldsAt d k m
  holds_at_same s long same =
      let e = sym same in
      record {
        size = subst (λ (n : ℕ). 2 + 64 * k.segments ≤ n) (sym long) s.size;
        stages = subst Stages e s.stages;
        header = λ n. s.header n ∙ ap (λ (v : View). header_in v n) e;
        block = λ n i. s.block n i ∙ ap (λ (v : View). v.block (Data n i)) e;
        version = s.version;
      }

  pub stands_at_same : StandsAt c k m → length d ≡ length c → ((at : ℕ) → Protected (view c k) at → cell_at d at ≡ cell_at c at)
      → StandsAt d k m
  stands_at_same s long same =
      let seen = view_same c d k long same s.holds.stages.rows in
      record { holds = holds_at_same s.holds long seen; clean = subst EnoughClean (sym seen) s.clean }

pub locality : Locality
locality c d m s keeps =
    record { checkpoint = s.checkpoint; newest = keeps.newest; stands = stands_at_same c d s.checkpoint m s.stands keeps.size keeps.same }

-- and it has the segments of the same checkpoint
pub locality_on : (c d : Content) (m : LogMap) (s : StandsLog c m) → Keeps c s.checkpoint d → StandsOn (shape_of s.checkpoint) d m
unfolding locality
locality_on c d m s keeps = record { is = locality c d m s keeps; same = refl }

same_checkpoint : (c : Content) (m m' : LogMap) (s : StandsLog c m) (t : StandsLog c m') → s.checkpoint ≡ t.checkpoint
same_checkpoint c m m' s t =
    let e = sym s.newest ∙ t.newest in
    cc

pub single_log : SingleLog
single_log c m m' s t =
    let e = same_checkpoint c m m' s t in
    let headers : (n : ℕ) → m.header n ≡ m'.header n = λ n. s.stands.holds.header n ∙ ap (λ (k : CheckpointValue). header_in (view c k) n) e
    ∙ sym (t.stands.holds.header n) in
    let blocks : (n i : ℕ) → m.block n i ≡ m'.block n i = λ n i. s.stands.holds.block n i
    ∙ ap (λ (k : CheckpointValue). (view c k).block (Data n i)) e ∙ sym (t.stands.holds.block n i) in
    let version : m.version ≡ m'.version = s.stands.holds.version ∙ ap (λ (k : CheckpointValue). layout_version k) e
    ∙ sym t.stands.holds.version in
    λ j. record { header = fun_ext headers j; block = fun_ext (λ n. fun_ext (λ i. blocks n i)) j; version = version j }

pub chunks_length : (waiting : List Entry) (ss : List (Option (List ℕ))) (r : Row) → chunks waiting ss ≡ Some r → length r ≡ length ss
chunks_length [] [] r h = let e : [] ≡ r = cc in ap length (sym e)
chunks_length (e ∷ waiting) [] r h = absurd (cc)
chunks_length (e ∷ waiting) (s ∷ ss) r h = let i = after_inv (Some e) (chunks waiting ss) r h in
    ap length i.2 ∙ ap suc (chunks_length waiting ss i.0 i.1)
chunks_length [] (s ∷ ss) r h =
    let i = opened_inv (entries_in (bytes_of s)) (λ es. chunks es ss) r h in
    ap length i.4 ∙ ap suc (chunks_length i.0 ss i.1 i.3)

place_past : (o : Option Row) (at : ℕ) → ((r : Row) → o ≡ Some r → length r ≤ at) → place_in o at ≡ None
place_past None at short = refl
place_past (Some r) at short = get_or_past r at None (short r refl)

module _ (c : Content) (k : CheckpointValue) where
  unused_place : (s at : ℕ) → used_in (view c k) s ≤ at → place_in (row c k s) at ≡ None
  unfolding row_by address
  unused_place s at unused = place_past (row c k s) at (λ r is.
      omega (arith, chunks_length [] (take (used c k s) (drop (2 + 64 * s) c)) r is, length-take (used c k s) (drop (2 + 64 * s) c)))

  free_unreached : (e : Entry) → label_at (view c k) (address c k e) ≡ Some e → (s at : ℕ) → address c k e ≡ 2 + 64 * s + at → at < 64
      → used_in (view c k) s ≤ at → ⊥
  free_unreached e named s at is within unused =
      let a = address c k e in
      let es : (a - 2) / 64 ≡ s = omega arith in
      let eo : (a - 2) % 64 ≡ at = omega arith in
      let none : label_at (view c k) a ≡ None = ap₂ (λ (x y : ℕ). place_in (row c k x) y) es eo ∙ unused_place s at unused in
      cc

  free_unprotected : Stages (view c k) → (at : ℕ) → Protected (view c k) at → IsFreeSector c k at → ⊥
  free_unprotected stages at (reached e lt) free =
      free_unreached e (stages.named e lt) free.segment free.place free.is free.within free.unused
  free_unprotected stages at (summary s o lt none) free =
      let fit = stages.usages.fit s in
      let is = free.is in
      let within = free.within in
      let unused = free.unused in
      let es : s ≡ free.segment = omega arith in
      let same : used_in (view c k) s ≡ used_in (view c k) free.segment = ap (used_in (view c k)) es in
      omega arith

keeps_set : (c : Content) (k : CheckpointValue) (d : Content) (at : ℕ) (x : Option (List ℕ)) → (Protected (view c k) at → ⊥) → 2 ≤ at
    → Keeps c k d → Keeps c k (set d at x)
keeps_set c k d at x unprotected above keeps = record {
  size = length-set d at x ∙ keeps.size;
  newest = newest_other d at x above ∙ keeps.newest;
  same = λ p protected. sector_other d at x p (λ e. unprotected (subst (Protected (view c k)) e protected)) ∙ keeps.same p protected;
}

pub free_writes : FreeWrites
free_writes c m s at bytes free d d' keeps torn = go d' torn
  where
    k : CheckpointValue
    k = s.checkpoint

    kept : (x : Option (List ℕ)) → Keeps c s.checkpoint (set d at x)
    kept x = keeps_set c s.checkpoint d at x (λ p. free_unprotected c s.checkpoint s.stands.holds.stages at p free)
        (let e = free.is in omega arith) keeps

    go : (d' : Content) → MayWrite at bytes d d' → Keeps c s.checkpoint d'
    go d' (left_old is) = subst (Keeps c s.checkpoint) (sym is) keeps
    go d' (left_new is) = subst (Keeps c s.checkpoint) (sym is) (kept (Some bytes))
    go d' (left_bad is) = subst (Keeps c s.checkpoint) (sym is) (kept None)

pub reached_above : (v : View) → Stages v → (e : Entry) → 0 < v.address e → 2 ≤ v.address e
reached_above v s (Usage j) lt = (s.usages.fresh (Usage j) refl lt).0
reached_above v s (Map j) lt = (s.maps.fresh (Map j) refl lt).0
reached_above v s (Inode n) lt = (s.inodes.fresh (Inode n) refl lt).0
reached_above v s (Double n) lt = (s.roots.fresh (Double n) refl lt).0
reached_above v s (Leaf n zero) lt = (s.roots.fresh (Leaf n zero) refl lt).0
reached_above v s (Leaf n (suc q)) lt = (s.leaves.fresh (Leaf n (suc q)) refl lt).0
reached_above v s (Data n i) lt = (s.blocks.fresh (Data n i) refl lt).0

protected_above : (v : View) → Stages v → (at : ℕ) → Protected v at → 2 ≤ at
protected_above v s at (reached e lt) = reached_above v s e lt
protected_above v s at (summary i o lt none) = omega arith

module _ (c : Content) (m : LogMap) (s : StandsLog c m) (e : Content) (keeps : Keeps c s.checkpoint e)
    (next : CheckpointValue) (bytes : List ℕ) (m' : LogMap) (ready : IsReadyFor e s.checkpoint next bytes m') where
  p : ℕ
  p = next.number % 2

  low : next.number % 2 < 2
  low = omega arith

  here : (x : Option (List ℕ)) → slot (set e (next.number % 2) x) (s.checkpoint.number % 2) ≡ Some s.checkpoint
  here x = slot_other e (next.number % 2) x (s.checkpoint.number % 2) (λ h. let n = ready.number in omega arith)
      ∙ slot_newest e s.checkpoint keeps.newest

  there : (x : Option (List ℕ))
      → slot (set e (next.number % 2) x) (next.number % 2) ≡ with_parity (next.number % 2) (checkpoint_in (bytes_of x))
  there x =
      ap (λ (y : Option (List ℕ)). with_parity (next.number % 2) (checkpoint_in (bytes_of y)))
      (get_or-set_same e (next.number % 2) x None (let a = keeps.size in let b = s.stands.holds.size in omega arith))

  parity : with_parity (next.number % 2) (Some next) ≡ Some next
  parity = cond-true (next.number % 2 == next.number % 2) (Some next) None (eq-eqb (next.number % 2) (next.number % 2) refl)

  -- unreadable: the former checkpoint is the newest
  pub keeps_lost : Keeps c s.checkpoint (set e (next.number % 2) None)
  keeps_lost = record {
    size = length-set e (next.number % 2) None ∙ keeps.size;
    newest = newest_alone (set e (next.number % 2) None) s.checkpoint (next.number % 2) (ap (λ (n : ℕ). n % 2) ready.number) (here None)
        (there None ∙ ap (with_parity (next.number % 2)) none_spelt);
    same = λ at protected. sector_other e (next.number % 2) None at (λ h. let above =
        protected_above (view c s.checkpoint) s.stands.holds.stages at protected in omega (arith, low)) ∙ keeps.same at protected;
  }

  at_lost : StandsOn (shape_of s.checkpoint) (set e (next.number % 2) None) m
  at_lost = locality_on c (set e (next.number % 2) None) m s keeps_lost

  -- written: the next one is
  at_written : StandsLog (set e (next.number % 2) (Some bytes)) m'
  at_written = record {
    checkpoint = next;
    newest = newest_next (set e (next.number % 2) (Some bytes)) s.checkpoint next ready.number ready.last (here (Some bytes))
        (there (Some bytes) ∙ ap (with_parity (next.number % 2)) ready.spelt ∙ parity);
    stands = stands_at_same e (set e (next.number % 2) (Some bytes)) next m' ready.stands (length-set e (next.number % 2) (Some bytes))
        (λ at protected. sector_other e (next.number % 2) (Some bytes) at
        (λ h. let above = protected_above (view e next) ready.stands.holds.stages at protected in omega (arith, low)));
  }

  abbrev Either : Content → Type 0
  Either d = StandsOn (shape_of s.checkpoint) d m ⊎ StandsOn (shape_of next) d m'

  at_each : (d : Content) → MayWrite (next.number % 2) bytes e d → Either d
  unfolding at_written
  at_each d (left_old is) = subst Either (sym is) (inl (locality_on c e m s keeps))
  at_each d (left_new is) = subst Either (sym is) (inr (record { is = at_written; same = refl }))
  at_each d (left_bad is) = subst Either (sym is) (inl at_lost)

pub slot_write : SlotWrite
unfolding at_written
slot_write c m s e keeps next bytes m' ready =
    let there = at_written c m s e keeps next bytes m' ready in
    (at_each c m s e keeps next bytes m' ready, there.newest, there.stands)
