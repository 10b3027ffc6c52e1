use Rattle.std.proofs.Common.{rules, suc, ◌≢◌, take, drop, subst, ap, ◌∙◌, ◌+◌, add-zero}
use Rattle.std.specs.Io.KnownBytes.{Appends}
use Rattle.std.proofs.KnownBytes.{Appends-kept}
use Rattle.std.proofs.lemmas.List.{take-append-drop}
use Rattle.lfs_words.proofs.Sent.{not_all, sent, took_none, took_some}
use Rattle.lfs_words.proofs.sink.put.Goals as goal

pub returns-in-Ok-eq0 : goal.returns-in-Ok-eq0
returns-in-Ok-eq0 g c = record {
  ok = tt;
  err = (
    take c.loop-at.at c.args.bytes.now,
    drop c.loop-at.at c.args.bytes.now,
    take-append-drop c.loop-at.at c.args.bytes.now,
    not_all c.args.bytes.now c.loop-at.at c.loop-at-test.true,
    subst (λ n. Appends (g.W.Write.contents c.args.writer.now) (g.W.Write.contents c.write.new.writer) (take n c.args.bytes.now))
        (ap (λ n. c.loop-at.at + n) c.in-Ok-eq0.field-0-test ∙ add-zero c.loop-at.at) (sent _ _ _ c.args.bytes.now c.loop-at.at
        c.in-Ok-eq0.field-0 c.loop-at.invariant.0 c.in-Ok-eq0.ensures.bound c.loop-at.invariant.1 c.in-Ok-eq0.ensures.bytes).1,
  );
  counted = took_none _ _ c.in-Ok-eq0.field-0 c.in-Ok-eq0.field-0-test c.in-Ok-eq0.ensures.counted ∙ ap (λ n. suc n) c.loop-at.invariant.2;
}

pub loop-at-preserved : goal.loop-at-preserved
loop-at-preserved g c =
    let some : c.in-Ok.n ≢ 0 = search rules in
    let more = sent _ _ _ c.args.bytes.now c.loop-at.at c.in-Ok.n c.loop-at.invariant.0 c.in-Ok.ensures.bound c.loop-at.invariant.1
    c.in-Ok.ensures.bytes in (
      more.0,
      more.1,
      took_some _ _ c.in-Ok.n some c.in-Ok.ensures.counted ∙ c.loop-at.invariant.2,
    )

pub returns-in-Err : goal.returns-in-Err
returns-in-Err g c = record {
  ok = tt;
  err = (
    take c.loop-at.at c.args.bytes.now,
    drop c.loop-at.at c.args.bytes.now,
    take-append-drop c.loop-at.at c.args.bytes.now,
    not_all c.args.bytes.now c.loop-at.at c.loop-at-test.true,
    Appends-kept _ _ _ _ c.loop-at.invariant.1 c.in-Err.ensures.bytes,
  );
  counted = c.in-Err.ensures.counted ∙ ap (λ n. suc n) c.loop-at.invariant.2;
}
