use Rattle.std.proofs.Common.{◌≡◌, length}
use Rattle.lfs_log.specs.Collecting.{AddsKeys, LiftsTables, NamesFound}
use Rattle.lfs_log.proofs.collecting.collect_chunk.Given as goal

abbrev pub invariant-loop-place : goal.invariant-loop-place
invariant-loop-place l = record {
  lifts : LiftsTables l.place l.initial.memory l.memory;
  adds : AddsKeys l.initial.keys l.keys l.place;
  lists : NamesFound l.keys.keys l.memory l.names l.first l.place;
  end : l.place-end ≡ length l.names;
}
