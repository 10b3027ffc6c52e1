-- What a sector spells that can't be read.
use Rattle.std.proofs.Common.{◌≡◌, ◌∙◌, ℕ, false, None, ap}
use Rattle.lfs_model.specs.Content.{Content, bytes_of, with_parity}
use Rattle.lfs_model.specs.Checkpoint.{checkpoint_in}
use Rattle.lfs_model.specs.Device.{Cell, cell_at}
use Rattle.lfs_model.proofs.Newest.{none_spelt}
use Rattle.lfs_volume.specs.Finding.{holds_older, is_older}

-- no checkpoint
pub none_older : (content : Content) (place parity : ℕ) → cell_at content place ≡ None → holds_older content place parity ≡ false
none_older content place parity is =
    ap (λ (x : Cell). is_older (with_parity parity (checkpoint_in (bytes_of x)))) is
    ∙ ap (λ o. is_older (with_parity parity o)) none_spelt
