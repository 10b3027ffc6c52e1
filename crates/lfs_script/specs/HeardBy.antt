-- What the witness heard that takes no memory.
use Rattle.lfs_script.specs.Heard.{Heard}
use Rattle.lfs_script.specs.declared.witness.Glances.{Glances}

abbrev pub heard_by : {D W : Type 0} → Glances D W → Heard
heard_by g = record { bytes = g.transcript.bytes; ended = g.ended.value }
