use Rattle.std.proofs.Common.{rules}
use Rattle.std.proofs.lemmas.Fn.{dedup_same}
use Rattle.std.proofs.lemmas.List.Sorted.{answers_always, ranks_by}
use Rattle.std.specs.Cmp.Lexicographic.{nat_list_cmp_total}
use Rattle.lfs_dirs.specs.declared.entry.Entry.{Entry}
use Rattle.lfs_dirs.proofs.NamesInOrder.{comes_before, ordered, same_name}
use Rattle.lfs_dirs.proofs.entry.put_in_order.Goals as goal

pub returns : goal.returns
returns c =
    let order = ranks_by nat_list_cmp_total (λ (e : Entry). e.name.items) in
    cc (ordered c.reverse.new.self.items c.sort_by.new.self.items c.sort_by.ensures.permutation
    (c.sort_by.ensures.stable comes_before order (answers_always _ _ _ (λ f a r g k. search rules)))
    (c.in_ok-sort_by.ensures.sorted comes_before order (answers_always _ _ _ (λ f a r g k. search rules)))
    (dedup_same _ same_name _ (λ x y b f' x' y' k. search rules) _ _ c.dedup_by.ensures.filtered))
