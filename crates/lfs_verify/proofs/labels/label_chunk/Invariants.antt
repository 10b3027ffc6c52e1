use Rattle.lfs_verify.specs.Labels.{PutsLabels}
use Rattle.lfs_verify.proofs.labels.label_chunk.Given as goal

abbrev pub invariant-loop-place : goal.invariant-loop-place
invariant-loop-place l = record { puts : PutsLabels l.names l.initial.labels l.labels l.first l.place }
