-- What the summary of a chunk names.
use Rattle.std.proofs.Common.{◌≡◌, ◌<◌, List, map, length, Some, refl, ap, arith}
use Rattle.std.specs.Option.{option_map}
use Rattle.lfs_model.specs.Entry.{entry_of, entries_in}
use Rattle.lfs_model.specs.Summary.{BlockNameValue, FitsSummary, summary_sector}
use Rattle.lfs_model.proofs.Decoding.{summary_some}
use Rattle.lfs_segments.specs.Chunk.{IsChunk}

pub chunk_entries : {names : List BlockNameValue} → IsChunk names → 0 < length names
    → entries_in (summary_sector names) ≡ Some (map entry_of names)
unfolding entries_in
chunk_entries {names} chunk some =
    let fits : FitsSummary names = record { some = omega arith; room = chunk.room; each = chunk.each } in
    ap (option_map (map entry_of)) (summary_some (summary_sector names) names fits refl)
