use Rattle.lfs_model.proofs.ObjectPointers.{leaf_tests, pointer_count, pointers_changed}
use Rattle.lfs_model.proofs.objects.pointer_blocks.Goals as goal

pub returns-clause-tests : goal.returns-clause-tests
returns-clause-tests c = leaf_tests

pub returns-clause-count : goal.returns-clause-count
returns-clause-count c = pointer_count

pub returns-clause-changed : goal.returns-clause-changed
returns-clause-changed c = pointers_changed
