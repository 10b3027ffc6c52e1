use Rattle.std.proofs.Common.{◌∙◌, subst, ap, sym}
use Rattle.lfs_model.proofs.Exits.{same_error}
use Rattle.lfs_inodes.specs.MapValue.{MapValue}
use Rattle.lfs_verify.specs.Lending.{LendsTable}
use Rattle.lfs_verify.proofs.tables.load_map_block.Goals as goal
use Rattle.lfs_verify.proofs.UsageLoads.{lent_block, block_fault}
use Rattle.lfs_verify.proofs.MapLoads.{says_skipped, map_more, says_map_more, map_fault}

pub returns-in_err-bytes-clause-cause : goal.returns-in_err-bytes-clause-cause
returns-in_err-bytes-clause-cause g c =
    let old = g.D.SectorDevice.state _ in
    let new = g.D.SectorDevice.state c.read_table.follows.lender-at-none in
    let k = c.args.checkpoint.now in
    let fault = c.in_err-bytes.field-0.0 in
    let lends = subst (LendsTable old new _ _) c.in_err-bytes.was c.read_table.follows.holds-at-none in
    same_error c.from_residual.result fault _ c.from_residual.ensures (block_fault old new k _ c.segments_of-segments.ensures
    (map_fault old new k _ (g.met.D.SectorDevice.lawful _).now (sym c.map_address-address.ensures)
    c.if-address-eq0.false) fault lends.cause)

pub returns-clause-after : goal.returns-clause-after
returns-clause-after g c =
    map_more _ c.requires.before c.load.ensures c.set_block_address.ensures.changed
    (ap (λ (a : MapValue). a.addresses) c.set_block_address.ensures.set) (ap (λ (a : MapValue). a.hidden) c.set_block_address.ensures.set)

pub returns-clause-says : goal.returns-clause-says
returns-clause-says g c keeps says =
    let lends = subst (LendsTable (g.D.SectorDevice.state _) _ _ _) c.in_ok-bytes.was c.read_table.follows.holds-at-none in
    says_map_more _ c.requires.before c.load.ensures c.set_block_address.ensures.changed
    (ap (λ (a : MapValue). a.addresses) c.set_block_address.ensures.set) (ap (λ (a : MapValue). a.hidden) c.set_block_address.ensures.set) _
    (lent_block _ _ (lends.value keeps) lends.above) (sym c.map_address-address.ensures) c.new.ensures.fits c.new.ensures.spelled says

pub returns-then-address-eq0-clause-says : goal.returns-then-address-eq0-clause-says
returns-then-address-eq0-clause-says g c keeps says =
    says_skipped c.requires.before ((sym c.map_address-address.ensures) ∙ c.if-address-eq0.true) says
