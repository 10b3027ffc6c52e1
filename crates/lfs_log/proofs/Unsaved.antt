-- What is saved stays so, where a call changes no more than memory.
use Rattle.std.proofs.Common.{◌≡◌, ◌≤◌, false, List, [], ◌∷◌, length, refl, ◌∙◌, arith}
use Rattle.lfs_model.specs.Device.{DeviceState}
use Rattle.lfs_memory.specs.segments.Early.{AreUntaken}
use Rattle.lfs_log.specs.LogState.{Alters, AreAllSaved, IsAtRest, LogState}

-- a list without length is empty
pub none_left : {T : Type 0} (xs : List T) → length xs ≤ 0 → xs ≡ []
none_left [] le = refl
none_left (x ∷ xs) le = absurd (omega (arith, le))

-- where no block came into memory, no sector was taken, and the version stayed
pub kept_saved : {D : Type 0} {h h' : LogState D} → AreAllSaved h → h'.waiting ≤ h.waiting → h'.upgraded ≡ h.upgraded
    → AreUntaken h'.usage → AreAllSaved h'
kept_saved is few same sectors = record {
  blocks = let none = is.blocks in omega (arith, none, few);
  version = same ∙ is.version;
  sectors = sectors;
}

-- a log at rest stays so where no block came into memory, and no sector was taken
pub rest_altered : {D : Type 0} {state : D → DeviceState} {h h' : LogState D} → Alters state h h' 0 false
    → (AreUntaken h.usage → AreUntaken h'.usage) → IsAtRest h → IsAtRest h'
rest_altered {h} {h'} alters untaken rest =
    let few = alters.few in
    let many = rest.many in
    let segments = alters.segments in
    let clean = alters.clean in
    record {
      nothing = kept_saved rest.nothing (omega (arith, few)) alters.upgraded (untaken rest.untaken);
      untaken = untaken rest.untaken;
      many = omega (arith, many, segments, clean);
    }
