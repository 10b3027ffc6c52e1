use Rattle.std.proofs.Common.{rules, refl}
use Rattle.lfs_copy.proofs.Leads.{leads_from_root, leads_own, leads_through}
use Rattle.lfs_copy.proofs.paths.path_of.Goals as goal

pub loop-init : goal.loop-init
loop-init c = leads_own _ _ c.in_ok-path.ensures c.as_slice.ensures.value refl

pub returns-then-directory-eq-ROOT-clause-leads : goal.returns-then-directory-eq-ROOT-clause-leads
returns-then-directory-eq-ROOT-clause-leads c = leads_from_root _ _ c.loop.invariant (search rules)

pub loop-preserved : goal.loop-preserved
loop-preserved c =
    leads_through _ _ c.in-Some.above.now c.in-Some.ensures.among c.in-Some.ensures.number c.loop.invariant c.in_ok-path-2.ensures
    c.as_slice-in-loop.ensures.value c.as_slice-in-loop-2.ensures.value
