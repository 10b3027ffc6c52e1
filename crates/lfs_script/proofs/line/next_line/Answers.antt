use Rattle.std.proofs.Common.{rules, ◌≡◌, ◌≢◌, ◌++◌, ◌∙◌, [], ◌∷◌, All, arith, ap, subst, sym, Some}
use Rattle.std.proofs.KnownBytes.{Keeps-trans}
use Rattle.lfs_script.specs.declared.source.ReadError.{ReadError}
use Rattle.lfs_script.proofs.HeardBytes.{uses_byte, uses_fault, uses_found}
use Rattle.lfs_script.proofs.ScriptBytes.{ahead_byte, byte_read, plain_more}
use Rattle.lfs_script.proofs.line.next_line.Goals as goal

pub loop-byte-preserved : goal.loop-byte-preserved
loop-byte-preserved g c =
    let apart : c.in-Some.byte ≢ 10 = search rules in
    let pushed : c.push.new.self.items ≡ c.loop-byte.line.items ++ c.in-Some.byte ∷ [] = search rules in
    let failed = c.loop-byte.invariant.6 in
    let counted = c.next.ensures.counted in (
      search rules,
      search rules,
      subst (All (λ b. b ≢ 10)) (sym pushed) (plain_more _ c.in-Some.byte c.loop-byte.invariant.2 apart),
      byte_read ReadError _ _ _ _ c.in-Some.is pushed c.loop-byte.invariant.3 c.in_ok-next.ensures.takes.bytes,
      Keeps-trans _ _ _ c.loop-byte.invariant.4 c.next.ensures.kept,
      ahead_byte ReadError c.loop-byte.line.items _ _ _ c.in-Some.is pushed c.loop-byte.invariant.5 c.in_ok-next.ensures.ahead,
      omega (arith, failed, counted),
      c.next.ensures.unseen ∙ c.loop-byte.invariant.7,
      uses_byte ReadError _ _ _ _ _ _ _ c.in-Some.is pushed c.loop-byte.invariant.8 c.in_ok-next.ensures.hears.bytes,
    )

pub returns-in_err-next-clause-heard : goal.returns-in_err-next-clause-heard
returns-in_err-next-clause-heard g c =
    uses_fault _ _ _ _ _ _ c.loop-byte.line.items c.from_residual.result c.from_residual.ensures.0 c.loop-byte.invariant.8
    c.in_err-next.ensures.hears.bytes

pub returns-in-None-clause-heard : goal.returns-in-None-clause-heard
returns-in-None-clause-heard g c =
    uses_found ReadError _ _ _ _ _ _ c.loop-byte.line.items c.in-None.is c.loop-byte.invariant.8 c.in_ok-next.ensures.hears.bytes

pub returns-in-None-clause-heard_end : goal.returns-in-None-clause-heard_end
returns-in-None-clause-heard_end g c = λ ended. c.in_ok-next.ensures.hears.end c.in-None.is

pub returns-in-Some-eq10-clause-heard : goal.returns-in-Some-eq10-clause-heard
returns-in-Some-eq10-clause-heard g c =
    let newline : c.in-Some-eq10.field-0 ≡ 10 = search rules in
    uses_found ReadError _ _ _ _ _ _ c.loop-byte.line.items (c.in-Some-eq10.is ∙ ap (λ b. Some b) newline) c.loop-byte.invariant.8
    c.in_ok-next.ensures.hears.bytes

pub returns-then-len-ge-LONGEST_LINE-clause-heard : goal.returns-then-len-ge-LONGEST_LINE-clause-heard
returns-then-len-ge-LONGEST_LINE-clause-heard g c =
    uses_found ReadError _ _ _ _ _ _ c.loop-byte.line.items c.in-Some.is c.loop-byte.invariant.8 c.in_ok-next.ensures.hears.bytes
