use Rattle.std.proofs.Common.{rules}
use Rattle.std.proofs.lemmas.List.Sorted.{answers_always}
use Rattle.lfs_inodes.proofs.Searching.{searched_in}
use Rattle.lfs_inodes.proofs.index.KeyIndex.search_all.Goals as goal

pub returns : goal.returns
returns c =
    let facts = c.binary_search_by_key.ensures in
    let answer = facts.position (λ place. record { 0 = place.key.code })
    (answers_always _ _ _ (λ f a r g called. search rules)) in
    searched_in _ c.self.view_is c.deref.ensures.value c.number.ensures c.binary_search_by_key.result facts.bound answer
