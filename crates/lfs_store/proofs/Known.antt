-- What the layers above know of a store: of its draft, and of its volume where calls on files only read it.
use Rattle.std.proofs.Common.{◌≡◌, ◌≤◌, ◌+◌, ◌/◌, ℕ, Bool, true, false, cond, length, ap, arith}
use Rattle.lfs_model.specs.Device.{DeviceState}
use Rattle.lfs_model.specs.Stands.{LogMap}
use Rattle.lfs_cleaner.specs.log.LogState.{LogState, Reads, commits_due}
use Rattle.lfs_cleaner.specs.log.memory.Present.{Looks}
use Rattle.lfs_cleaner.specs.Making.{most_checkpoints}
use Rattle.lfs_store.specs.declared.draft.Draft.{Draft}
use Rattle.lfs_store.specs.Drafting.{IsApart}
use Rattle.lfs_store.specs.Growing.{asked_by_changes}
use Rattle.lfs_store.specs.Seen.{StagedLog, staged_of}
use Rattle.lfs_store.specs.StoreState.{Fits, IsEmpty, asked_by, with_draft}
use Rattle.lfs_store.proofs.Apart.{draft_empty, nothing_apart}
use Rattle.lfs_store.proofs.Growths.{room_few}

-- ---- an empty draft

-- it changes no log map, and each may be changed so
pub empty_draft : (d : Draft) (m : LogMap) → IsEmpty d → (with_draft d m ≡ m) × Fits d m
empty_draft d m none = draft_empty _ _ none

-- nothing is lost by it
pub empty_apart : (d : Draft) (n : ℕ) → IsEmpty d → IsApart d.changes.loss n
empty_apart d n none = rw none.loss (nothing_apart _)

-- ---- how many blocks of memory a draft asks for

-- one that was empty, by how much it grew
pub grown_asks : (a b : Draft) (h k : ℕ) → IsEmpty a
    → length b.changes.headers.items ≤ length a.changes.headers.items + h
    → length b.changes.blocks.items ≤ length a.changes.blocks.items + k → asked_by b ≤ asked_by_changes h k
grown_asks a b h k none headers blocks =
    room_few b.changes h k (omega (arith, headers, ap length none.headers)) (omega (arith, blocks, ap length none.blocks))

-- ---- its volume

-- where all that is staged is as it was, the log was no more than read
pub reads_staged : {D : Type 0} {state : D → DeviceState} {h h' : LogState D} → Looks (state h.device) (state h'.device)
    → staged_of h' ≡ staged_of h → Reads state h h'
reads_staged looks same = record {
  looks = looks;
  halted = ap (λ (s : StagedLog). s.halted) same;
  number = ap (λ (s : StagedLog). s.number) same;
  version = ap (λ (s : StagedLog). s.version) same;
  upgraded = ap (λ (s : StagedLog). s.upgraded) same;
  saved = ap (λ (s : StagedLog). s.saved) same;
  unsaved = ap (λ (s : StagedLog). s.unsaved) same;
  totals = ap (λ (s : StagedLog). s.totals) same;
  segments = ap (λ (s : StagedLog). s.segments) same;
  clean = ap (λ (s : StagedLog). s.clean) same;
  emptied = ap (λ (s : StagedLog). s.emptied) same;
  waiting = ap (λ (s : StagedLog). s.waiting) same;
  file_data = ap (λ (s : StagedLog). s.file_data) same;
  usage = ap (λ (s : StagedLog). s.usage) same;
  inner = ap (λ (s : StagedLog). s.inner) same;
}

-- one checkpoint more than for passes is written at most where room is made
pub few_checkpoints : {D : Type 0} (h : LogState D) → most_checkpoints h ≤ h.segments / 8 + 1
few_checkpoints h = let due : commits_due h ≤ 1 = one_due h.saved in omega arith
  where
    one_due : (all : Bool) → cond {A = ℕ} all 0 1 ≤ 1
    one_due true = omega arith
    one_due false = omega arith
