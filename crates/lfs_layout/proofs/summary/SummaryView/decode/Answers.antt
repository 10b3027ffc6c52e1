use Rattle.std.proofs.Common.{◌≡◌, ◌<◌, ◌≤◌, ◌+◌, ◌-◌, ◌*◌, ℕ, length, sym, subst, ◌∙◌, arith, None}
use Rattle.lfs_model.specs.Fields.{zeros}
use Rattle.lfs_model.specs.Summary.{FitsSummary, summary_sector}
use Rattle.lfs_model.specs.Fields.{part}
use Rattle.lfs_model.specs.Fields.{run}
use Rattle.lfs_model.specs.Summary.{IsEntryAt, block_at}
use Rattle.lfs_model.proofs.Runs.{length-run}
use Rattle.lfs_model.proofs.SummaryPlaces.{reads_from, reads_to, count_of, block_in, summary_reads, summary_fits}
use Rattle.lfs_model.proofs.Decoding.{summary_is, summary_some}
use Rattle.lfs_layout.proofs.summary.SummaryView.decode.Goals as goal

pub returns-then-count-eq0-clause-none : goal.returns-then-count-eq0-clause-none
returns-then-count-eq0-clause-none c bs fits is =
    let n = count_of bs fits (reads_from bs is) in
    let some = fits.some in
    let read = c.number16_at-count.ensures.read in
    omega (arith, n, some, read)

pub returns-then-count-gt-CHUNK_BLOCKS-clause-none : goal.returns-then-count-gt-CHUNK_BLOCKS-clause-none
returns-then-count-gt-CHUNK_BLOCKS-clause-none c bs fits is =
    let n = count_of bs fits (reads_from bs is) in
    let room = fits.room in
    let read = c.number16_at-count.ensures.read in
    omega (arith, n, room, read)

pub returns-then-not-is_zero_at-clause-none : goal.returns-then-not-is_zero_at-clause-none
returns-then-not-is_zero_at-clause-none c bs fits is =
    let yes = c.is_zero_at.ensures.1 (reads_from bs is).gap in
    cc

pub returns-then-not-is_block_at-clause-none : goal.returns-then-not-is_block_at-clause-none
returns-then-not-is_block_at-clause-none c bs fits is =
    let s = c.args.sector.now in
    let r = reads_from bs is in
    let n = count_of bs fits r in
    let read = c.number16_at-count.ensures.read in
    let yes = c.is_block_at.ensures.1 (block_in s bs c.told-sector fits r c.loop-i.i (omega (arith, n, read))) in
    cc

pub returns-then-not-is_zero_at-2-clause-none : goal.returns-then-not-is_zero_at-2-clause-none
returns-then-not-is_zero_at-2-clause-none c bs fits is =
    let s = c.args.sector.now in
    let r = reads_from bs is in
    let n : c.number16_at-count.result ≡ length bs = c.number16_at-count.ensures.read ∙ count_of bs fits r in
    let P : ℕ → Type 0 = λ m. part (8 + 8 * m) (8 * (63 - m)) s ≡ zeros (8 * (63 - m)) in
    let yes = c.is_zero_at-2.ensures.1 (subst P (sym n) r.rest) in
    cc

pub returns-clause-found : goal.returns-clause-found
returns-clause-found c =
    let s = c.args.sector.now in
    let n = c.number16_at-count.result in
    let some : 1 ≤ n = omega arith in
    let room : n ≤ 63 = omega arith in
    let each : (i : ℕ) → i < n → IsEntryAt (8 + 8 * i) s = λ i lt. c.loop-i.invariant i (omega arith) in
    let gap = c.is_zero_at.ensures.0 c.if-not-is_zero_at.false in
    let rest = c.is_zero_at-2.ensures.0 c.if-not-is_zero_at-2.false in
    let reads = summary_reads s n c.fits-sector c.told-sector c.number16_at-count.ensures.read room gap each rest in
    let short : length (run block_at 8 n 8 s) ≤ 63 = omega (arith, length-run block_at 8 n 8 s) in
    let P : ℕ → Type 0 = λ m. FitsSummary (run block_at 8 m 8 s) × (s ≡ summary_sector (run block_at 8 m 8 s)) in
    subst P c.number16_at-count.ensures.read (summary_fits s n some room each, reads_to s (run block_at 8 n 8 s) c.told-sector short reads)

pub returns-then-count-eq0-clause-exact : goal.returns-then-count-eq0-clause-exact
returns-then-count-eq0-clause-exact c = summary_is c.args.sector.now None tt (λ v fits is. returns-then-count-eq0-clause-none c v fits is)

pub returns-then-count-gt-CHUNK_BLOCKS-clause-exact : goal.returns-then-count-gt-CHUNK_BLOCKS-clause-exact
returns-then-count-gt-CHUNK_BLOCKS-clause-exact c =
    summary_is c.args.sector.now None tt (λ v fits is. returns-then-count-gt-CHUNK_BLOCKS-clause-none c v fits is)

pub returns-then-not-is_zero_at-clause-exact : goal.returns-then-not-is_zero_at-clause-exact
returns-then-not-is_zero_at-clause-exact c =
    summary_is c.args.sector.now None tt (λ v fits is. returns-then-not-is_zero_at-clause-none c v fits is)

pub returns-then-not-is_block_at-clause-exact : goal.returns-then-not-is_block_at-clause-exact
returns-then-not-is_block_at-clause-exact c =
    summary_is c.args.sector.now None tt (λ v fits is. returns-then-not-is_block_at-clause-none c v fits is)

pub returns-then-not-is_zero_at-2-clause-exact : goal.returns-then-not-is_zero_at-2-clause-exact
returns-then-not-is_zero_at-2-clause-exact c =
    summary_is c.args.sector.now None tt (λ v fits is. returns-then-not-is_zero_at-2-clause-none c v fits is)

pub returns-clause-exact : goal.returns-clause-exact
returns-clause-exact c = let found = returns-clause-found c in sym (summary_some c.args.sector.now _ found.0 found.1)
