use Rattle.std.proofs.Common.{refl, subst, inl, inr}
use Rattle.lfs_put.specs.Largest.{AreAllTaken, IsOneFree}
use Rattle.lfs_put.proofs.telling.by_tree.Goals as goal

pub returns-then-has_free : goal.returns-then-has_free
returns-then-has_free g c =
    (c.in-Ok.rows.items, c.in-Ok.ensures, inl (subst IsOneFree c.as_slice.ensures.value c.if-has_free.ensures.free, refl))

pub returns-in-Ok : goal.returns-in-Ok
returns-in-Ok g c =
    (c.in-Ok.rows.items, c.in-Ok.ensures, inr (subst AreAllTaken c.as_slice.ensures.value c.if-has_free.ensures.taken, refl))
