use Rattle.std.proofs.Common.{◌≤◌, rules, arith, inl}
use Rattle.lfs_memory.proofs.Going.{if_ok_any}
use Rattle.lfs_memory.proofs.Presents.{address_none, address_past}
use Rattle.lfs_memory.proofs.present.locate_block.Goals as goal

pub returns-then-index-gt-LAST_BLOCK : goal.returns-then-index-gt-LAST_BLOCK
returns-then-index-gt-LAST_BLOCK g c = record {
  answer = address_past _ _ _ _ (search rules);
  some = λ some. omega arith;
  looks = search rules;
}

pub returns-then-number-eq0 : goal.returns-then-number-eq0
returns-then-number-eq0 g c =
    let d = g.D.SectorDevice.state _ in
    record {
      answer = address_none d d _ _ _ (inl c.if-number-eq0.true);
      some = λ some. omega arith;
      looks = search rules;
    }

pub returns : goal.returns
returns g c =
    let number : 1 ≤ c.args.number = omega arith in
    let index : c.args.index ≤ 16623 = omega arith in
    record {
      answer = rw c.data.ensures at c.locate.ensures.answer;
      some = if_ok_any c.locate.result _ (λ address some. (number, index));
      looks = c.locate.ensures.looks;
    }
