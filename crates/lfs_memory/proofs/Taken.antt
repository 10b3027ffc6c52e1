-- Blocks of one file that were counted leave the usage table.
use Rattle.std.proofs.Common.{◌≡◌, ◌<◌, ◌+◌, cond, not, ℕ, Bool, true, false, List, get_or, Option, Some, None, sym, ◌∙◌, ap, refl, arith}
use Rattle.lfs_model.specs.Checkpoint.{CheckpointValue}
use Rattle.lfs_model.specs.Device.{DeviceState}
use Rattle.lfs_model.specs.Entry.{Entry}
use Rattle.lfs_model.specs.Memory.{file_of, is_nameless, is_shown, is_held, count_of}
use Rattle.lfs_model.specs.Stands.{LogMap}
use Rattle.lfs_model.proofs.CountFacts.{counts_less}
use Rattle.lfs_segments.specs.Table.{UsageTable, live_of, held_of}
use Rattle.lfs_inodes.specs.MapValue.{is_hidden_in}
use Rattle.lfs_memory.specs.declared.memory.LogMemory.{LogMemory}
use Rattle.lfs_memory.specs.Memory.{IsLoose}
use Rattle.lfs_memory.specs.Removing.{counted_in, AreUncovered, counts_in, TakesCounts}

module _ {d : DeviceState} {v : LogMemory} {k : CheckpointValue} {m0 m : LogMap} (is : IsLoose d v k m0 m) (n : ℕ) (low : n < 4096)
    {lives : Bool} (shown : lives ≡ not (is_hidden_in v.map n)) where
  nameless_is : is_nameless m n ≡ not lives
  nameless_is = is.hidden n low ∙ twice (is_hidden_in v.map n) ∙ ap not (sym shown)
    where
      twice : (b : Bool) → b ≡ not (not b)
      twice true = refl
      twice false = refl

  -- ---- an honest device has so many blocks there
  module _ {gone : Entry → Bool} (of_file : (x : Entry) → gone x ≡ true → file_of x ≡ Some n) (counts : List ℕ)
      (counted : (s : ℕ) → get_or counts s 0 ≡ count_of gone is.running.memory s) where
    pub counts_covered : AreUncovered v.usage lives counts → ⊥
    counts_covered over = by_lives lives refl
      where
        of_shown : is_nameless m n ≡ false → (x : Entry) → gone x ≡ true → is_shown m x ≡ true
        of_shown named x on = ap (λ (f : Option ℕ). elim f as (λ z. Bool) [ None ↦ true | Some n ↦ not (is_nameless m n) ]) (of_file x on)
            ∙ ap not named

        of_held : is_nameless m n ≡ true → (x : Entry) → gone x ≡ true → is_held m x ≡ true
        of_held nameless x on = ap not
            (ap (λ (f : Option ℕ). elim f as (λ z. Bool) [ None ↦ true | Some n ↦ not (is_nameless m n) ]) (of_file x on) ∙ ap not nameless)

        by_lives : (b : Bool) → lives ≡ b → ⊥
        by_lives true yes_lives =
            let less = counts_less gone (is_shown m) is.running.memory (of_shown (nameless_is ∙ ap not yes_lives)) (over.0) in
            let all = is.running.tables.live (over.0) in
            let here = counted (over.0) in
            let what : counted_in v.usage lives (over.0) ≡ live_of v.usage (over.0) =
            ap (λ (b : Bool). counted_in v.usage b (over.0)) yes_lives in
            omega arith
        by_lives false not_lives =
            let here = counted (over.0) in
            let what : counted_in v.usage lives (over.0) ≡ held_of v.usage (over.0) =
            ap (λ (b : Bool). counted_in v.usage b (over.0)) not_lives in
            omega (
              arith,
              is.running.tables.held (over.0),
              counts_less gone (is_held m) is.running.memory (of_held (nameless_is ∙ ap not not_lives)) (over.0),
            )

  -- ---- the counts after they are taken
  module _ {usage : UsageTable} (counts : List ℕ) (go : TakesCounts v.usage usage lives (counts_in counts)) where
    when_shown : (s : ℕ) → lives ≡ true → (live_of usage s + get_or counts s 0 ≡ live_of v.usage s) × (held_of usage s ≡ held_of v.usage s)
    when_shown s on =
        let l = go.live s in
        let h = go.held s in
        let a = ap (λ (b : Bool). cond {A = ℕ} b (get_or counts s 0) 0) on in
        let b = ap (λ (b : Bool). cond {A = ℕ} (not b) (get_or counts s 0) 0) on in
        (omega arith, omega arith)

    when_hidden : (s : ℕ) → lives ≡ false
        → (live_of usage s ≡ live_of v.usage s) × (held_of usage s + get_or counts s 0 ≡ held_of v.usage s)
    when_hidden s off =
        let l = go.live s in
        let h = go.held s in
        let a = ap (λ (b : Bool). cond {A = ℕ} b (get_or counts s 0) 0) off in
        let b = ap (λ (b : Bool). cond {A = ℕ} (not b) (get_or counts s 0) 0) off in
        (omega arith, omega arith)

    is_true : (b : Bool) → not b ≡ false → b ≡ true
    is_true true h = refl
    is_true false h = sym h

    is_false : (b : Bool) → not b ≡ true → b ≡ false
    is_false true h = sym h
    is_false false h = refl

    pub named_counts : is_nameless m n ≡ false → (s : ℕ) → (live_of usage s + get_or counts s 0 ≡ live_of v.usage s)
        × (held_of usage s ≡ held_of v.usage s)
    named_counts named s = when_shown s (is_true lives (sym nameless_is ∙ named))

    pub nameless_counts : is_nameless m n ≡ true → (s : ℕ)
        → (live_of usage s ≡ live_of v.usage s) × (held_of usage s + get_or counts s 0 ≡ held_of v.usage s)
    nameless_counts nameless s = when_hidden s (is_false lives (sym nameless_is ∙ nameless))
