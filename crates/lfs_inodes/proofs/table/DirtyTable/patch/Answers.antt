use Rattle.std.proofs.Common.{◌≡◌, ◌∙◌, ap, arith, refl, sym, length, []}
use Rattle.std.proofs.lemmas.List.{get_or_default}
use Rattle.lfs_model.specs.Memory.{patched}
use Rattle.lfs_inodes.specs.Blocks.{altered, altered_as}
use Rattle.lfs_inodes.proofs.Blocks.{find_gap, altered_changes, count_altered}
use Rattle.lfs_inodes.proofs.Data.{data_patched}
use Rattle.lfs_inodes.proofs.Held.{low_at, held_at, altered_value, neither, sorted_value, tight_at}
use Rattle.lfs_inodes.proofs.table.DirtyTable.patch.Goals as goal

pub returns-in_default : goal.returns-in_default
returns-in_default c =
    let t = c.args.self.now in
    let same : t ≡ record t { blocks = altered (patched c.args.place c.args.number) c.args.key.code t.blocks } =
    ap (λ o. record t { blocks = altered_as o (patched c.args.place c.args.number) c.args.key.code t.blocks })
    (sym (find_gap c.in_default.ensures.missing)) in
    record {
      patched = same;
      changed = altered_changes t (patched c.args.place c.args.number) c.args.key.formed same;
      length = refl;
      data_blocks = refl;
    }

pub index_mut-requires : goal.index_mut-requires
index_mut-requires c = omega (arith, low_at c.self.invariant.0 c.self.view_is c.in-Ok.ensures.found c.get-spot.ensures)

pub invariant_of-self : goal.invariant_of-self
invariant_of-self c = (
  held_at c.self.invariant.0 c.self.view_is c.in-Ok.ensures.found c.get-spot.ensures c.point.new.block,
  λ h.
      let off = neither c.self.inside.loose c.may_empty.result h in
      tight_at c.self.invariant.0 c.self.view_is c.in-Ok.ensures.found c.get-spot.ensures c.args.key.formed
      c.point.new.block
      (λ is. c.point.ensures.leads (c.may_empty.ensures off.1 is))
      (c.self.invariant.1 off.0),
)

pub returns : goal.returns
returns c =
    let t = c.args.self.now in
    let l = low_at c.self.invariant.0 c.self.view_is c.in-Ok.ensures.found c.get-spot.ensures in
    let sorted = sorted_value c.self.invariant.0 c.self.view_is in
    let is = altered_value c.self.invariant.0 c.self.view_is c.in-Ok.ensures.found c.get-spot.ensures
    (patched c.args.place c.args.number) (c.point.ensures.patched ∙ ap (patched c.args.place c.args.number)
    (c.index_mut.ensures.value ∙ sym (get_or_default c.self.inside.arena.items c.get-spot.result.spot [] c.index_mut.result.now l))) in
    record {
      patched = is;
      changed = altered_changes t (patched c.args.place c.args.number) c.args.key.formed is;
      length = ap (λ u. length u.blocks) is
          ∙ count_altered t.blocks c.args.key.code (patched c.args.place c.args.number) sorted;
      data_blocks = data_patched t sorted (patched c.args.place c.args.number) c.in-Ok.ensures.found is;
    }
