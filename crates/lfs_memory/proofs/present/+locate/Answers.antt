use Rattle.std.proofs.Common.{◌≡◌, ◌/◌, ◌%◌, ℕ, refl, sym, ap, ◌∙◌, rules}
use Rattle.lfs_model.specs.declared.BlockKind.{BlockKind}
use Rattle.lfs_model.specs.declared.BlockKind.TheVariants as kind
use Rattle.lfs_model.specs.Device.{DeviceState}
use Rattle.lfs_model.specs.Entry.{Entry}
use Rattle.lfs_model.specs.Memory.{IsOfFile, parent}
use Rattle.lfs_inodes.specs.Code.{entry_at, kind_by}
use Rattle.lfs_inodes.specs.Key.{entry_of}
use Rattle.lfs_inodes.specs.MapValue.{address_in}
use Rattle.lfs_memory.specs.declared.memory.LogMemory.{LogMemory}
use Rattle.lfs_memory.specs.Present.{AnswersAddress, Looks}
use Rattle.lfs_memory.proofs.Going.{err_then, if_ok_then}
use Rattle.lfs_memory.proofs.LiftedKeys.{file_is, inode_is, leaf_low}
use Rattle.lfs_memory.proofs.Located.{below_above, located_failed, located_found, located_none, located_top}
use Rattle.lfs_memory.proofs.present.+locate.Goals as goal
use Rattle.lfs_memory.proofs.present.+locate.Goals.{in-Inode, in_default-kind+in_ok-address-in_default-kind}

-- the pointer to the block above
record FindsAbove (a b : DeviceState) (v : LogMemory) (up : Entry) (address : ℕ) : Type 0 where
  answer : AnswersAddress a b v up address
  looks : Looks a b
  no_failure : b.failures ≡ a.failures

-- the inode map has that to an inode
by_map : {a b : DeviceState} {v : LogMemory} {f address found : ℕ} {k : BlockKind} (code : ℕ) → b ≡ a → k ≡ kind_by (code / 134217728)
    → k ≡ kind.Inode → f ≡ code / 32768 % 4096 → address ≡ found → found ≡ address_in v.map f → FindsAbove a b v (entry_at code) address
by_map {a} {v = v} code same is inode file one at = rw (same, one) (record {
  answer = located_top a v {x = entry_at code} (file_is code file) (let top = inode_is code is inode in ap parent top ∙ sym top) at;
  looks = search rules;
  no_failure = refl;
})

-- and the block above that to another
by_block : {a b d : DeviceState} {v : LogMemory} {up : Entry} {address found : ℕ} → b ≡ d → address ≡ found → AnswersAddress a d v up found
    → Looks a d → d.failures ≡ a.failures → FindsAbove a b v up address
by_block same is answer looks no_failure = rw (same, is) (record { answer = answer; looks = looks; no_failure = no_failure })

pub returns-in_default-clause-answer : goal.returns-in_default-clause-answer
returns-in_default-clause-answer g t c =
    located_top _ _ (file_is _ c.file.ensures.file) c.in_default.ensures.none c.address.ensures

pub returns-then-address-eq0-clause-answer : goal.returns-then-address-eq0-clause-answer
returns-then-address-eq0-clause-answer g t c =
    let state = g.D.SectorDevice.state in
    let before = state c.args.device.now in
    let after = state c.match-kind.device in
    let v = c.args.memory.now in
    let up = entry_of c.in-Some.above in
    let above : FindsAbove before after v up c.match-kind.address = elim c.match-kind.branch [
      | in-Inode w ↦
          by_map c.in-Some.above.code (ap state w.device-is) c.kind.ensures w.in-Inode.is w.file-in-Inode.ensures.file
          w.address-is w.address-address.ensures
      | in_default-kind+in_ok-address-in_default-kind w ↦
          let found = w.in_ok-address-in_default-kind.ensures in
          by_block (ap state w.device-is) w.address-is found.answer found.looks.looks found.looks.no_failure
    ] in
    located_none before after v (entry_of c.args.key) c.in-Some.ensures.some.0 c.if-address-eq0.true above.answer

pub returns : goal.returns
returns g t c =
    let state = g.D.SectorDevice.state in
    let before = state c.args.device.now in
    let after = state c.match-kind.device in
    let v = c.args.memory.now in
    let up = entry_of c.in-Some.above in
    let above : FindsAbove before after v up c.match-kind.address = elim c.match-kind.branch [
      | in-Inode w ↦
          by_map c.in-Some.above.code (ap state w.device-is) c.kind.ensures w.in-Inode.is w.file-in-Inode.ensures.file
          w.address-is w.address-address.ensures
      | in_default-kind+in_ok-address-in_default-kind w ↦
          let found = w.in_ok-address-in_default-kind.ensures in
          by_block (ap state w.device-is) w.address-is found.answer found.looks.looks found.looks.no_failure
    ] in
    let ends = c.present_word.ensures.ends in
    let file : IsOfFile up = (_, file_is c.in-Some.above.code refl) in
    record {
      answer = if_ok_then c.present_word.result _ _
          (λ found read. located_found v up above.looks ends.looks file above.answer c.if-address-eq0.false c.in-Some.ensures.some.0
          (below_above c.args.key.formed c.in-Some.above.formed c.in-Some.ensures.some.1 c.in-Some.ensures.some.0)
          (leaf_low c.args.key.formed) c.pointer.ensures.pointer read) c.present_word.ensures.read;
      looks = record {
        failed = err_then c.present_word.result _ _ (located_failed v up above.looks ends.looks file above.answer c.if-address-eq0.false)
            ends.unread;
        no_failure = search rules;
        looks = search rules;
      };
    }
