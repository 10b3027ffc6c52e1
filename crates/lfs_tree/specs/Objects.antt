-- The objects of a log map, and what tables by number say of the names of those that were gone through.
-- All of it is an own choice.
use Rattle.std.specs.Prelude.{◌≡◌, ◌<◌, ◌≤◌, ◌+◌, ℕ, zero, suc, Bool, List, slice_index, count_by, unwrap_or, [], Option, Some, MatchBool}
use Rattle.lfs_model.specs.declared.Kind.TheVariants as kind
use Rattle.lfs_model.specs.declared.limits.TheConstants.{FILE_NUMBERS}
use Rattle.lfs_model.specs.Entry as entry
use Rattle.lfs_model.specs.Stands.{LogMap}
use Rattle.lfs_model.specs.Tree.{Names, File, names_of}
use Rattle.lfs_model.specs.TreeOf.{AreSlots, node_of, slots}
use Rattle.lfs_files.specs.declared.header.Header.{Header}
use Rattle.lfs_tree.specs.Naming.{AreGoodSlots, Base, IsNoted, NamesValue, capped, giving, leads}

-- the names that object n gives: none where it is no directory
abbrev pub names_at : LogMap → ℕ → Names
names_at m n = names_of (unwrap_or (node_of m n (m.header n)) (File []))

-- where it is a directory, its slots are good
abbrev pub IsGoodObject : LogMap → List (Option Header) → ℕ → Type 0
IsGoodObject m headers n = (h : entry.Header) → m.header n ≡ Some h → h.kind ≡ kind.Directory → AreGoodSlots h.form headers (slots m n h)

-- what the numbers below one add up to
unfoldable pub sum_below : (ℕ → ℕ) → ℕ → ℕ
sum_below f zero = 0
sum_below f (suc n) = sum_below f n + f n

-- how often the objects below a number give number n
abbrev pub given_below : LogMap → ℕ → ℕ → ℕ
given_below m upto n = sum_below (λ d. giving (names_at m d) n) upto

-- The tables tell the names of the objects below a number, which are good.
pub record AreNamed (m : LogMap) (headers : List (Option Header)) (t : NamesValue) (upto : ℕ) : Type 0 where
  pub counts : (n : ℕ) → n < FILE_NUMBERS → slice_index t.counts n ≡ capped (given_below m upto n)
  pub up : (n : ℕ) → n < FILE_NUMBERS → 0 < given_below m upto n → 0 < giving (names_at m (slice_index t.up n)) n
  pub below : (d : ℕ) → d < upto → slice_index t.below d ≡ capped (count_by (λ x. leads headers x.1) (names_at m d))
  pub none : (d : ℕ) → upto ≤ d → slice_index t.below d ≡ 0
  pub good : (n : ℕ) → n < upto → IsGoodObject m headers n

-- Object n is good and the tables tell its names too, or it isn't good.
abbrev pub TakesObject : LogMap → List (Option Header) → ℕ → Base → NamesValue → Bool → Type 0
TakesObject m headers n base t taken =
    MatchBool taken (IsGoodObject m headers n × IsNoted headers n base (names_at m n) t) (IsGoodObject m headers n → ⊥)

-- The stage holds and the tables tell all names, or it fails.
abbrev pub SlotStage : LogMap → List (Option Header) → NamesValue → Bool → Type 0
SlotStage m headers t holds = MatchBool holds (AreSlots m × AreNamed m headers t FILE_NUMBERS) (AreSlots m → ⊥)
