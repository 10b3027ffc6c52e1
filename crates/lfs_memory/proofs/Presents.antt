-- A device that holds a log map answers each read with what the log map says.
use Rattle.std.proofs.Common.{◌≡◌, ◌<◌, ◌≤◌, ◌⊎◌, ◌-◌, ◌/◌, ℕ, List, [], length, Some, None, refl, Option, sym, ◌∙◌, ap, ap₂}
use Rattle.std.proofs.Common.{arith, inl, inr, zero, suc, Bool, true, false}
use Rattle.std.proofs.Math.Path.{fun_ext}
use Rattle.std.proofs.lemmas.Bool.{cases_eq, cases_lt}
use Rattle.lfs_model.specs.Checkpoint.{CheckpointValue, shape_of}
use Rattle.lfs_model.specs.Content.{Content, block, bytes_of}
use Rattle.lfs_model.specs.Crash.{StandsOn}
use Rattle.lfs_model.specs.Device.{DeviceState, IsLawful, LeavesOnly}
use Rattle.lfs_model.specs.Entry as entry
use Rattle.lfs_model.specs.Entry.{Entry, Data, Leaf, Double, Inode, header, word}
use Rattle.lfs_model.specs.Laid.{HoldsInode, IsLaid}
use Rattle.lfs_model.specs.Memory.{Memory, parent, IsOfFile}
use Rattle.lfs_model.specs.Running.{Dirty}
use Rattle.lfs_model.specs.Stands.{LogMap}
use Rattle.lfs_model.proofs.Entries.{data_parent_low, data_parent_high}
use Rattle.lfs_model.proofs.Leaving.{staying}
use Rattle.lfs_model.proofs.Moments.{started, goes_on}
use Rattle.lfs_model.proofs.Reading.{reading}
use Rattle.lfs_model.proofs.Settled.{settled_stands, settled_still}
use Rattle.lfs_model.proofs.Tables.{block_at}
use Rattle.lfs_device.specs.declared.device.ReadFault.{ReadFault}
use Rattle.lfs_device.specs.declared.device.ReadFault.TheVariants as kind
pub use Rattle.lfs_files.proofs.LooksCompose.{looks_none, looks_then}
use Rattle.lfs_inodes.specs.Blocks.{blocks_of}
use Rattle.lfs_inodes.specs.MapValue.{address_in}
use Rattle.lfs_inodes.specs.Present.{present, data_now, IsAway, IsDataAway}
use Rattle.lfs_inodes.proofs.PresentPointers.{present_is, leaf_is, present_is_laid}
use Rattle.lfs_files.specs.declared.header.Header.{Header}
use Rattle.lfs_memory.specs.declared.memory.LogMemory.{LogMemory}
use Rattle.lfs_memory.specs.Memory.{IsLoose, segment_in}
use Rattle.std.specs.Prelude.{Result, Ok, Err, IsErr}
use Rattle.lfs_memory.specs.Present.{OnlyLooks}
use Rattle.lfs_memory.specs.Present.{Looks, IsMissing, FailsFromDevice, AnswersInode, AnswersHeader, AnswersBlock, AnswersAddress}
use Rattle.lfs_memory.specs.Present.{as_header}

-- ---- calls that only read
pub still_log : {d d' : DeviceState} {v : LogMemory} {k : CheckpointValue} {m0 m : LogMap} → Looks d d' → IsLoose d v k m0 m
    → IsLoose d' v k m0 m
still_log {d} {d'} {v} {k} {m0} {m} looks is = record {
  running = staying d d' (blocks_of v.dirty) _ k m0 m _ _ is.running looks.untouched looks.carries.unit;
  hidden = is.hidden;
  segments = is.segments;
  unit = is.unit;
}

-- a stop meanwhile leaves what is acknowledged
pub looks_quiet : {d : DeviceState} (d' : DeviceState) {v : LogMemory} (k : CheckpointValue) (m0 m : LogMap) → IsLawful d → Looks d d'
    → IsLoose d v k m0 m
    → LeavesOnly d d' (λ c. StandsOn (shape_of k) c m0)
looks_quiet {d} d' k m0 m lawful looks is =
    let P : Content → Type 0 = λ c. StandsOn (shape_of k) c m0 in
    goes_on P (started P lawful (settled_stands d k m0 is.running.settled)) looks.carries looks.time
    (settled_stands d' k m0 (settled_still d d' k m0 is.running.settled looks.untouched looks.carries.unit))

-- ---- what is there
module _ (d : DeviceState) (v : LogMemory) (k : CheckpointValue) (m0 m : LogMap) (is : IsLoose d v k m0 m) where
  abbrev M : Memory
  M = is.running.memory

  abbrev dirty : Dirty
  dirty = blocks_of v.dirty

  laid : IsLaid d.content m M (segment_in v.chunk)
  laid = is.running.laid

  pub not_missing : (x : Entry) {a : ℕ} → IsOfFile x → M.at x ≡ a → 0 < a → IsMissing d.content dirty x a → ⊥
  not_missing x {a} file at some missing = elim (cases_eq a 1) [
    | inl one ↦
        let f = is.running.cached.found x file (at ∙ one) in
        let e : Some f.0 ≡ None = sym f.1 ∙ missing.inside one in
        cc
    | inr ne ↦
        let above : 2 ≤ M.at x = omega arith in
        let gone : block d.content (M.at x) ≡ [] = ap (block d.content) at ∙ block_at d.content a some ∙ ap bytes_of (missing.outside ne) in
        let none : length (M.bytes x) ≡ 0 = ap length (sym (laid.there x above) ∙ gone) in
        omega arith
  ]

  not_away : (x : Entry) {a : ℕ} → IsOfFile x → M.at x ≡ a → IsAway d.content a → ⊥
  not_away x file at away =
      not_missing x file at away.lost.some (record { inside = λ one. absurd (away.outside one); outside = λ ne. away.lost.lost })

  pub is_there : (x : Entry) {a : ℕ} → IsOfFile x → M.at x ≡ a → 0 < a → present d.content dirty x a ≡ M.bytes x
  is_there x file at some = ap (present d.content dirty x) (sym at) ∙ present_is M laid is.running.cached x file (omega arith)

  -- ---- inodes
  pub inode_at : (n : ℕ) → M.at (Inode n) ≡ address_in v.map n
  inode_at n = is.running.tables.at (Inode n) refl

  pub no_inode : (n : ℕ) → address_in v.map n ≡ 0 → m.header n ≡ None
  no_inode n none = (reading d.content m M _ laid).no_header n (inode_at n ∙ none)

  pub nobody_at : M.at (Inode 0) ≡ 0
  nobody_at = elim (cases_eq (M.at (Inode 0)) 0) [
    | inl none ↦ none
    | inr some ↦
        absurd (omega (arith, (laid.spells (Inode 0) (omega arith)).formed))
  ]

  pub nobody : m.header 0 ≡ None
  nobody = (reading d.content m M _ laid).no_header 0 nobody_at

  pub inode_bytes : (n : ℕ) (out : List ℕ) → 0 < address_in v.map n → out ≡ present d.content dirty (Inode n) (address_in v.map n)
      → out ≡ M.bytes (Inode n)
  inode_bytes n out some e = e ∙ is_there (Inode n) (n, refl) (inode_at n) some

  pub inode_answer : (n : ℕ) (out : List ℕ) → 0 < address_in v.map n → out ≡ present d.content dirty (Inode n) (address_in v.map n)
      → HoldsInode n out × (m.header n ≡ Some (header out))
  inode_answer n out some e =
      let f = laid.spells (Inode n) (omega (arith, inode_at n)) in
      rw (inode_bytes n out some e) (f.formed, f.header)

  -- ---- data blocks
  below_none : (x : Entry) → M.at (parent x) ≡ 0 → M.at x ≡ 0
  below_none x none = (reading d.content m M _ laid).no_pointer x none

  leaf_none : (n q : ℕ) → M.at (Inode n) ≡ 0 → M.at (Leaf n q) ≡ 0
  leaf_none n zero none = below_none (Leaf n 0) none
  leaf_none n (suc q) none = below_none (Leaf n (suc q)) (below_none (Double n) none)

  pub data_none : (n i : ℕ) → M.at (Inode n) ≡ 0 → M.at (Data n i) ≡ 0
  data_none n i none = elim (cases_lt i 112) [
    | inl low ↦ below_none (Data n i) (ap M.at (data_parent_low n i low) ∙ none)
    | inr high ↦ below_none (Data n i) (ap M.at (data_parent_high n i high) ∙ leaf_none n ((i - 112) / 128) none)
  ]

  pub data_past : (n i : ℕ) → 16624 ≤ i → M.at (Data n i) ≡ 0
  data_past n i past =
      below_none (Data n i) (ap M.at (data_parent_high n i (omega arith)) ∙ no_leaf ((i - 112) / 128) (omega arith))
    where
      no_leaf : (q : ℕ) → 129 ≤ q → M.at (Leaf n q) ≡ 0
      no_leaf q far = elim (cases_eq (M.at (Leaf n q)) 0) [
        | inl none ↦ none
        | inr some ↦ absurd (omega (arith, laid.low n q (omega arith)))
      ]

  pub data_at : (n i : ℕ) {inode : List ℕ} → 0 < address_in v.map n → inode ≡ M.bytes (Inode n) → i < 16624
      → data_now d.content dirty n inode i ≡ M.at (Data n i)
  data_at n i some e low =
      rw e (present_is_laid d.content m M _ dirty laid is.running.cached n i (omega (arith, inode_at n)) low)

  pub data_not_away : (n i : ℕ) {inode : List ℕ} → 0 < address_in v.map n → inode ≡ M.bytes (Inode n) → i < 16624
      → IsDataAway d.content dirty n inode i → ⊥
  data_not_away n i some e low away =
      let at = inode_at n in
      let there : 0 < M.at (Inode n) = omega arith in
      let w : IsDataAway d.content dirty n (M.bytes (Inode n)) i = rw e at away in
      elim w.1 [
        | inl root ↦ not_away (Double n) (n, refl) (sym (laid.spells (Inode n) there).double) root.1
        | inr leaf ↦
            not_away (Leaf n ((i - 112) / 128)) (n, refl)
            (sym (leaf_is M laid is.running.cached n there ((i - 112) / 128) (omega arith))) leaf
      ]

  pub no_block : (n i : ℕ) → M.at (Data n i) ≡ 0 → m.block n i ≡ []
  no_block n i none = (reading d.content m M _ laid).no_block n i none

  pub block_is : (n i a : ℕ) (out : List ℕ) → M.at (Data n i) ≡ a → 0 < a → out ≡ present d.content dirty (Data n i) a → m.block n i ≡ out
  block_is n i a out at some e =
      sym ((reading d.content m M _ laid).block n i (omega arith))
      ∙ sym (e ∙ is_there (Data n i) (n, refl) at some)

-- ---- answers
module _ (d d' : DeviceState) (v : LogMemory) {n a : ℕ} {x : Entry} (at : a ≡ address_in v.map n) (named : x ≡ Inode n)
    (some : a ≡ 0 → ⊥) where
  there : 0 < address_in v.map n
  there = omega arith

  pub inode_answered : {out : List ℕ} → (d'.keeps_model → out ≡ present d.content (blocks_of v.dirty) x a) → AnswersInode d d' v n out true
  inode_answered {out} read k m0 m keeps is = inode_answer d v k m0 m is n out there
      (read keeps ∙ ap (λ (y : Entry). present d.content (blocks_of v.dirty) y a) named
      ∙ ap (present d.content (blocks_of v.dirty) (Inode n)) at)

  pub inode_failed : (d'.keeps_model → (d.failures < d'.failures) ⊎ IsMissing d.content (blocks_of v.dirty) x a) → FailsFromDevice d d' v
  inode_failed unread k m0 m keeps is = elim (unread keeps) [
    | inl failed ↦ failed
    | inr missing ↦
        absurd (not_missing d v k m0 m is x (rw named (n, refl))
        (ap is.running.memory.at named ∙ inode_at d v k m0 m is n ∙ sym at) (omega arith) missing)
  ]

pub address_past : (d : DeviceState) (v : LogMemory) (n i : ℕ) → 16624 ≤ i → AnswersAddress d d v (Data n i) 0
address_past d v n i past k m0 m keeps is = data_past d v k m0 m is n i past

pub address_none : (d d' : DeviceState) (v : LogMemory) (n i : ℕ) → (n ≡ 0) ⊎ (address_in v.map n ≡ 0) → AnswersAddress d d' v (Data n i) 0
address_none d d' v n i none k m0 m keeps is = data_none d v k m0 m is n i (elim none [
  | inl nobody ↦ rw nobody (nobody_at d v k m0 m is)
  | inr absent ↦ inode_at d v k m0 m is n ∙ absent
])

-- an inode that was read, and then blocks of pointers
module _ (a b c : DeviceState) (v : LogMemory) (n i : ℕ) (inode : List ℕ) (one : Looks a b) (two : Looks b c)
    (some : 0 < address_in v.map n) (low : i < 16624)
    (read : b.keeps_model → inode ≡ present a.content (blocks_of v.dirty) (Inode n) (address_in v.map n)) where
  inode_read : (k : CheckpointValue) (m0 m : LogMap) → c.keeps_model → (is : IsLoose a v k m0 m) → inode ≡ is.running.memory.bytes (Inode n)
  inode_read k m0 m keeps is = inode_bytes a v k m0 m is n inode some (read (two.carries.kept_before keeps))

  pub address_away : (c.keeps_model → IsDataAway b.content (blocks_of v.dirty) n inode i) → FailsFromDevice a c v
  address_away away k m0 m keeps is =
      absurd (data_not_away a v k m0 m is n i some (inode_read k m0 m keeps is) low
      (rw one.untouched.content at (away keeps)))

-- a call that only reads and fails from the device
pub looks_failed : {T E : Type 0} {d d' : DeviceState} {v : LogMemory} {r : Result T E} → IsErr r → Looks d d' → FailsFromDevice d d' v
    → OnlyLooks d d' v r
looks_failed {r = Ok x} gives looks failed = cc
looks_failed {r = Err e} gives looks failed = record { failed = failed; no_failure = tt; looks = looks }

-- a failure after calls that only read
pub excused_then : (a b c : DeviceState) (v : LogMemory) → Looks a b → Looks b c → b.failures < c.failures → FailsFromDevice a c v
excused_then a b c v one two failed k m0 m keeps is = omega arith

-- a fault of what follows the pointers
pub address_failed : (a b c : DeviceState) (v : LogMemory) (n i : ℕ) (inode : List ℕ) (fault : ReadFault) → Looks a b → Looks b c
    → 0 < address_in v.map n → i < 16624
    → (b.keeps_model → inode ≡ present a.content (blocks_of v.dirty) (Inode n) (address_in v.map n))
    → (fault ≡ kind.Unreadable → c.keeps_model → IsDataAway b.content (blocks_of v.dirty) n inode i)
    → (fault ≡ kind.Failed → b.failures < c.failures) → FailsFromDevice a c v
address_failed a b c v n i inode kind.Unreadable one two some low read away failed =
    address_away a b c v n i inode one two some low read (away refl)
address_failed a b c v n i inode kind.Failed one two some low read away failed = excused_then a b c v one two (failed refl)

-- a block whose address is known
pub block_absent : (a b : DeviceState) (v : LogMemory) (n i : ℕ) {address : ℕ} → AnswersAddress a b v (Data n i) address → address ≡ 0
    → AnswersBlock a b v n i [] false
block_absent a b v n i at none k m0 m keeps is = no_block a v k m0 m is n i (at k m0 m keeps is ∙ none)

module _ {a b c : DeviceState} (v : LogMemory) {n i address : ℕ} (x : Entry) (one : Looks a b) (two : Looks b c) (named : x ≡ Data n i)
    (at : AnswersAddress a b v (Data n i) address) where
  pub block_answered : {out : List ℕ} → (address ≡ 0 → ⊥) → (c.keeps_model → out ≡ present b.content (blocks_of v.dirty) x address)
      → AnswersBlock a c v n i out true
  block_answered {out} some read k m0 m keeps is =
      block_is a v k m0 m is n i address out (at k m0 m (two.carries.kept_before keeps) is) (omega arith)
      (read keeps ∙ ap (λ (y : Entry). present b.content (blocks_of v.dirty) y address) named
      ∙ ap (λ (e : Content). present e (blocks_of v.dirty) (Data n i) address) one.untouched.content)

  pub block_failed : (address ≡ 0 → ⊥) → (c.keeps_model → (b.failures < c.failures) ⊎ IsMissing b.content (blocks_of v.dirty) x address)
      → FailsFromDevice a c v
  block_failed some unread k m0 m keeps is = elim (unread keeps) [
    | inl failed ↦ excused_then a b c v one two failed k m0 m keeps is
    | inr missing ↦
        absurd (not_missing a v k m0 m is x (rw named (n, refl))
        (ap is.running.memory.at named ∙ at k m0 m (two.carries.kept_before keeps) is) (omega arith)
        (rw one.untouched.content at missing))
  ]

pub header_read : (d d' : DeviceState) (v : LogMemory) (n : ℕ) (out : List ℕ) (found : Bool) (h : Header) → AnswersInode d d' v n out found
    → found ≡ true → header out ≡ as_header h → AnswersHeader d d' v n (Some h)
header_read d d' v n out true h answer yes_found is k m0 m keeps log = (answer k m0 m keeps log).1 ∙ ap Some is
header_read d d' v n out false h answer yes_found is k m0 m keeps log = cc

pub header_absent : (d : DeviceState) (v : LogMemory) {n : ℕ} → (n ≡ 0) ⊎ (address_in v.map n ≡ 0) → AnswersHeader d d v n None
header_absent d v {n} none k m0 m keeps is = elim none [
  | inl first ↦ ap m.header first ∙ nobody d v k m0 m is
  | inr absent ↦ no_inode d v k m0 m is n absent
]

-- ---- memory and device hold one log map
module _ {d : DeviceState} (v : LogMemory) (k k' : CheckpointValue) (m0 m m0' m' : LogMap) (is : IsLoose d v k m0 m)
    (is' : IsLoose d v k' m0' m') (version : m.version ≡ m'.version) where
  same_header : (n : ℕ) → m.header n ≡ m'.header n
  same_header n = elim (cases_eq (address_in v.map n) 0) [
    | inl none ↦ no_inode d v k m0 m is n none ∙ sym (no_inode d v k' m0' m' is' n none)
    | inr some ↦
        let out = present d.content (blocks_of v.dirty) (Inode n) (address_in v.map n) in
        (inode_answer d v k m0 m is n out (omega arith) refl).1
        ∙ sym (inode_answer d v k' m0' m' is' n out (omega arith) refl).1
  ]

  same_data_at : (n i : ℕ) → is.running.memory.at (Data n i) ≡ is'.running.memory.at (Data n i)
  same_data_at n i = elim (swap (cases_lt i 16624)) [
    | inl past ↦ data_past d v k m0 m is n i past ∙ sym (data_past d v k' m0' m' is' n i past)
    | inr low ↦ elim (cases_eq (address_in v.map n) 0) [
      | inl none ↦
          data_none d v k m0 m is n i (inode_at d v k m0 m is n ∙ none)
          ∙ sym (data_none d v k' m0' m' is' n i (inode_at d v k' m0' m' is' n ∙ none))
      | inr some ↦
          let out = present d.content (blocks_of v.dirty) (Inode n) (address_in v.map n) in
          sym (data_at d v k m0 m is n i (omega arith) (inode_bytes d v k m0 m is n out (omega arith) refl) low)
          ∙ data_at d v k' m0' m' is' n i (omega arith) (inode_bytes d v k' m0' m' is' n out (omega arith) refl) low
    ]
  ]
    where
      swap : {A B : Type 0} → A ⊎ B → B ⊎ A
      swap (inl a) = inr a
      swap (inr b) = inl b

  same_block : (n i : ℕ) → m.block n i ≡ m'.block n i
  same_block n i = elim (cases_eq (is.running.memory.at (Data n i)) 0) [
    | inl none ↦ no_block d v k m0 m is n i none
        ∙ sym (no_block d v k' m0' m' is' n i (sym (same_data_at n i) ∙ none))
    | inr some ↦
        let a = is.running.memory.at (Data n i) in
        let out = present d.content (blocks_of v.dirty) (Data n i) a in
        block_is d v k m0 m is n i a out refl (omega arith) refl
        ∙ sym (block_is d v k' m0' m' is' n i a out (sym (same_data_at n i)) (omega arith) refl)
  ]

  pub same_map : m ≡ m'
  same_map =
      ap₂ (λ (h : ℕ → Option entry.Header) (b : ℕ → ℕ → List ℕ). record m { header = h; block = b }) (fun_ext same_header)
      (fun_ext (λ n. fun_ext (same_block n)))
      ∙ ap (λ (n : ℕ). record m' { version = n }) version
