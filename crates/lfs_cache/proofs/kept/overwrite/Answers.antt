use Rattle.std.proofs.Common.{ap, sym, inl, ◌∙◌}
use Rattle.std.specs.Option.{option_copied_mut}
use Rattle.lru.specs.LruCache.{lru_cache}
use Rattle.lfs_cache.proofs.Keeping.{overwritten}
use Rattle.lfs_cache.proofs.kept.overwrite.Goals as goal

pub returns-in-Some : goal.returns-in-Some
returns-in-Some c =
    let kept = c.args.kept.now in
    let found = sym c.get_mut.ensures.value ∙ ap option_copied_mut c.in-Some.is in
    rw c.fill.ensures (inl (ap (λ es. lru_cache es kept.cap) (overwritten kept c.args.sector c.args.bytes.now found)))
