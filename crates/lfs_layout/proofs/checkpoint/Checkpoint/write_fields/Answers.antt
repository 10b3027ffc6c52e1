use Rattle.std.proofs.Common.{append_assoc, append-nil}
use Rattle.lfs_model.specs.Checkpoint.{checkpoint_fields, checkpoint_text}
use Rattle.lfs_layout.proofs.checkpoint.Checkpoint.write_fields.Goals as goal

pub returns-clause-written : goal.returns-clause-written
unfolding checkpoint_fields checkpoint_text
returns-clause-written c =
    rw (
      ← c.self.view_is,
      c.zeros.ensures.written,
      c.words-2.ensures.written,
      c.words.ensures.written,
      c.bytes-2.ensures.written,
      c.shape.ensures,
      c.number32-2.ensures.written,
      c.number32.ensures.written,
      c.number64.ensures.written,
      c.bytes.ensures.written,
      c.requires,
    ) (simp (append_assoc, append-nil))
