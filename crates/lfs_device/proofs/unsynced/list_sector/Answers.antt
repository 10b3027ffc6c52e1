use Rattle.std.proofs.Common.{◌≡◌, ◌++◌, ◌∷◌, [], true, false, List, ℕ, sym, subst, arith, rules}
use Rattle.std.specs.Prelude.{is_none, slice_set}
use Rattle.lfs_device.specs.Unsynced.{IsUnsyncedList}
use Rattle.lfs_device.proofs.UnsyncedLists.{listed_again, listed_anew, looked_at, room_left}
use Rattle.lfs_device.proofs.unsynced.list_sector.Goals as goal

pub unwrap-requires : goal.unwrap-requires
unwrap-requires c =
    let none : is_none c.index.result.now.written ≡ true = search rules in
    let left = room_left c.args.sector c.requires.listed c.requires.within
    (looked_at c.args.rows.now.items c.args.sector true c.requires.within c.index.ensures none) in
    let room = c.requires.room in
    c.push.ensures.succeeds (omega (arith, left, room))

pub returns-then-is_none-clause-listed : goal.returns-then-is_none-clause-listed
returns-then-is_none-clause-listed c = λ row now.
    let none : is_none c.index.result.now.written ≡ true = search rules in
    let came : c.push.new.self.items ≡ c.args.unsynced.now.items ++ c.args.sector ∷ [] = search rules in
    subst (λ (l : List ℕ). IsUnsyncedList l (slice_set c.args.rows.now.items c.args.sector row)) (sym came)
    (listed_anew c.args.sector c.requires.listed c.requires.within
    (looked_at c.args.rows.now.items c.args.sector true c.requires.within c.index.ensures none) row now)

pub returns-else-is_none-clause-listed : goal.returns-else-is_none-clause-listed
returns-else-is_none-clause-listed c = λ row now.
    let some : is_none c.index.result.now.written ≡ false = search rules in
    listed_again c.args.sector c.requires.listed c.requires.within
    (looked_at c.args.rows.now.items c.args.sector false c.requires.within c.index.ensures some) row now
