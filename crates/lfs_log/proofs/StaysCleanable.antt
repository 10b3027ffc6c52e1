-- A segment that may be cleaned still may, as blocks are written.
use Rattle.std.proofs.Common.{◌≡◌, ◌<◌, inl, inr, ℕ, Bool, length, Some, sym, ◌∙◌, ap, subst, arith}
use Rattle.lfs_model.specs.Summary.{BlockNameValue}
use Rattle.lfs_memory.specs.segments.Table.{UsageTable, used_of, kept_of}
use Rattle.lfs_memory.specs.segments.Chunk.{Chunk}
use Rattle.lfs_memory.proofs.of_segments.Beginnings.{begins_kept}
use Rattle.lfs_memory.specs.declared.memory.LogMemory.{LogMemory}
use Rattle.lfs_memory.specs.Memory.{IsMemory, IsMemoryUpTo, Places}
use Rattle.lfs_memory.proofs.Begun.{zero_or_more, segments_same}
use Rattle.lfs_log.specs.Cleaning.{IsCleanable, StayCleanable}

-- a block that gets the next place
module _ {v v' : LogMemory} {name : BlockNameValue} {lives : Bool} {age place : ℕ} (memory : IsMemory v)
    (p : Places v v' name lives age place) (s : ℕ) (is : IsCleanable v.usage s) where
  chunk_apart : v'.chunk.segment ≡ s → ⊥
  chunk_apart here = elim (zero_or_more (length v.chunk.names)) [
    | inl none ↦ elim (p.begun none) [
      | inl t ↦ let same = ap (used_of v.usage) here in let clean = t.clean in let some = is.used in omega (arith, same, clean, some)
      | inr g ↦ is.apart (sym g.last ∙ sym p.noted.last ∙ p.opened.last ∙ ap Some here)
    ]
    | inr some ↦ is.apart (sym (ap (λ (u : UsageTable). u.last) (p.went_on some).0) ∙ sym p.noted.last ∙ p.opened.last ∙ ap Some here)
  ]

  middle_used : used_of p.middle s ≡ used_of v.usage s
  middle_used = elim (zero_or_more (length v.chunk.names)) [
    | inl none ↦ elim (p.begun none) [
      | inl t ↦ t.used.others s (λ here. chunk_apart (sym here))
      | inr g ↦ g.used.others s (λ here. chunk_apart (sym here))
    ]
    | inr some ↦ ap (λ (u : UsageTable). used_of u s) (p.went_on some).0
  ]

  middle_kept : kept_of p.middle s ≡ kept_of v.usage s
  middle_kept = elim (zero_or_more (length v.chunk.names)) [
    | inl none ↦ begins_kept v.usage p.middle v'.chunk.segment age (p.begun none) s
    | inr some ↦ ap (λ (u : UsageTable). kept_of u s) (p.went_on some).0
  ]

  last_apart : v'.usage.last ≡ Some s → ⊥
  last_apart last = let same : Some v'.chunk.segment ≡ Some s = sym p.opened.last ∙ last in chunk_apart (cc)

  cleanable_after : IsCleanable v'.usage s
  cleanable_after =
      let used = p.noted.used.others s (λ here. chunk_apart (sym here)) ∙ middle_used in
      let kept = p.noted.kept s ∙ middle_kept in
      record {
        inside = let size = segments_same memory p in let low = is.inside in omega (arith, size, low);
        used = let some = is.used in omega (arith, used, some);
        before = let all = is.before in omega (arith, kept, used, all);
        apart = last_apart;
      }

pub placed_cleanable : {v v' : LogMemory} (w : LogMemory) {name : BlockNameValue} {lives : Bool} {age place : ℕ} → IsMemory v
    → Places v v' name lives age place → w.usage ≡ v'.usage → w.chunk ≡ v'.chunk → StayCleanable v w
placed_cleanable {v} {v'} w memory p usage chunk s is = (
  subst (λ (t : UsageTable). IsCleanable t s) (sym usage) (cleanable_after memory p s is),
  λ here.
      chunk_apart memory p s is (sym (ap (λ (c : Chunk). c.segment) chunk) ∙ here),
)

-- the summary of the chunk that has begun
pub sealed_cleanable : {most : ℕ} {v : LogMemory} (v' : LogMemory) → IsMemoryUpTo most v → 0 < length v.chunk.names → v'.usage ≡ v.usage
    → v'.chunk.segment ≡ v.chunk.segment → StayCleanable v v'
sealed_cleanable v' memory some usage segment s is = (
  subst (λ (t : UsageTable). IsCleanable t s) (sym usage) is,
  λ here.
      is.apart ((memory.opened some).last ∙ ap Some (sym segment ∙ here)),
)

-- one call after another that changes the chunk alone, and not where it stands
pub cleanable_then : (v v' v'' : LogMemory) → StayCleanable v v' → v''.usage ≡ v'.usage → v''.chunk.segment ≡ v'.chunk.segment
    → StayCleanable v v''
cleanable_then v v' v'' one usage segment s is =
    let first = one s is in
    (subst (λ (t : UsageTable). IsCleanable t s) (sym usage) first.0, λ here. first.1 (sym segment ∙ here))
