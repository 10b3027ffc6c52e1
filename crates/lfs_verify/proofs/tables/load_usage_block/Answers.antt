use Rattle.std.proofs.Common.{◌*◌, ◌-◌, ◌∙◌, sym, ℕ, subst, ap}
use Rattle.lfs_model.proofs.Exits.{same_error}
use Rattle.lfs_verify.specs.Lending.{LendsTable}
use Rattle.lfs_verify.proofs.tables.load_usage_block.Goals as goal
use Rattle.lfs_verify.proofs.UsageLoads.{lent_block, lent_long, usage_fault, usage_more, usage_undecoded, says_more, block_fault}

pub returns-in_err-bytes-clause-cause : goal.returns-in_err-bytes-clause-cause
returns-in_err-bytes-clause-cause g c =
    let old = g.D.SectorDevice.state _ in
    let new = g.D.SectorDevice.state c.read_table.follows.lender-at-none in
    let k = c.args.checkpoint.now in
    let fault = c.in_err-bytes.field-0.0 in
    let lends = subst (LendsTable old new _ _) c.in_err-bytes.was c.read_table.follows.holds-at-none in
    same_error c.from_residual.result fault _ c.from_residual.ensures (block_fault old new k _ c.segments_of-segments.ensures
    (usage_fault old new k _ c.requires.index (sym c.usage_address-address.ensures)) fault lends.cause)

pub returns-in_default-clause-cause : goal.returns-in_default-clause-cause
returns-in_default-clause-cause g c =
    let old = g.D.SectorDevice.state _ in
    let new = g.D.SectorDevice.state c.read_table.follows.lender-at-none in
    let all = (g.met.D.SectorDevice.lawful _).now in
    let lends = subst (LendsTable old new _ _) c.in_ok-bytes.was c.read_table.follows.holds-at-none in
    usage_undecoded old new _ _ _ _ c.requires.index (sym c.usage_address-address.ensures)
    (λ keeps. lent_block _ _ (lends.value keeps) lends.above) all (λ keeps. lent_long _ _ (lends.value keeps) all)
    (ap (λ (n : ℕ). n - 64 * c.args.index) c.segments_of-segments.ensures) (sym c.decode.ensures.exact ∙ c.in_default.is)

pub returns-clause-says : goal.returns-clause-says
returns-clause-says g c keeps says =
    let all = (g.met.D.SectorDevice.lawful _).now in
    let lends = subst (LendsTable (g.D.SectorDevice.state _) _ _ _) c.in_ok-bytes.was c.read_table.follows.holds-at-none in
    says_more _ c.requires.before c.take_entries.ensures c.set_block.ensures says _ (c.segments_of-segments.result - 64 * c.args.index)
    (lent_block _ _ (lends.value keeps) lends.above) (sym c.usage_address-address.ensures) all
    (lent_long _ _ (lends.value keeps) all) (sym c.decode.ensures.exact ∙ c.in-Some.is) c.has_dead_age.ensures

pub returns-clause-after : goal.returns-clause-after
returns-clause-after g c =
    let lends = subst (LendsTable (g.D.SectorDevice.state _) _ _ _) c.in_ok-bytes.was c.read_table.follows.holds-at-none in
    usage_more _ c.requires.before c.take_entries.ensures c.set_block.ensures lends.above
