use Rattle.std.proofs.Common.{◌∙◌}
use Rattle.lfs_script.proofs.Filling.{filled_serves, memory_serves, refused_serves}
use Rattle.lfs_script.proofs.answer.fill.Goals as goal

pub returns-in-Ok : goal.returns-in-Ok
returns-in-Ok g c =
    filled_serves c.args.len c.args.byte (c.as_slice.ensures.value ∙ c.in-Ok.ensures) c.pwrite.ensures

pub returns-in-Ok-space : goal.returns-in-Ok-space
returns-in-Ok-space g c =
    let space = c.in-Ok-space.field-0 in
    memory_serves _ c.in-Ok-space.ensures

pub returns-in-Err-space : goal.returns-in-Err-space
returns-in-Err-space g c =
    refused_serves _ c.in-Err-space.ensures
