use Rattle.lfs_model.proofs.Image.{new_images}
use Rattle.lfs_model.proofs.stands.new_images.Goals as goal

pub returns : goal.returns
returns c = new_images
