-- The tests of a run in memory.
use Rattle.std.proofs.Common.{◌≡◌, ◌≢◌, ◌↔◌, ◌∙◌, IsTrue, ℕ, zero, suc, ◌+◌, ◌-◌, ◌*◌, ◌<◌, ◌≤◌, min, drop, eqb, leb, nat_lt, List, ◌∷◌, ap}
use Rattle.std.proofs.Common.{arith, eq-eqb, lt-ltb}
use borrow.Author.Tests.{leb-true, ltb-true}
use Rattle.std.proofs.lemmas.Bool.{eqb-true}
use Rattle.lfs_model.specs.declared.limits.TheConstants.{SECTOR_LEN}
use Rattle.lfs_device.specs.Runs.{IsOf, Run, Takes, added, first_of, first_with, placed, sectors_in, taken}
use Rattle.lfs_device.specs.Unsent.{run_in}
use Rattle.lfs_device.specs.declared.unsent.Unsent.{Unsent}
use Rattle.lfs_device.proofs.RunBytes.{length_sectors}

within_of : (len count from sector : ℕ) (bytes : List ℕ) {ahead : ℕ}
    → Takes (record { first = from; sectors = sectors_in len count bytes; ahead = ahead }) sector
    → {first : ℕ} → first ≡ first_of from (sectors_in len count bytes) sector → sector - first ≤ count
within_of len zero from sector bytes takes {first} is = omega (arith, is)
within_of len (suc count) from sector bytes takes {first} is =
    let many = length_sectors len (suc count) bytes in
    let on = takes (omega (arith, many)) in
    let high = on.high in omega (arith, is, many, high)

-- where it isn't before the first, there is room for it
room_of : (len count from sector : ℕ) (bytes : List ℕ) {ahead : ℕ} → ahead ≤ 1
    → Takes (record { first = from; sectors = sectors_in len count bytes; ahead = ahead }) sector
    → {first : ℕ} → first ≡ first_of from (sectors_in len count bytes) sector → first ≤ sector → ahead + (sector - first) < 64
room_of len zero from sector bytes near takes {first} is low = omega (arith, is, near)
room_of len (suc count) from sector bytes near takes {first} is low =
    let many = length_sectors len (suc count) bytes in
    let on = takes (omega (arith, many)) in
    let behind = on.behind in omega (arith, is, many, behind, low)

-- and where it is before the first, it is the next one there
next_of : (len count from sector : ℕ) (bytes : List ℕ) {ahead : ℕ} → ahead ≤ 1
    → Takes (record { first = from; sectors = sectors_in len count bytes; ahead = ahead }) sector
    → {first : ℕ} → first ≡ first_of from (sectors_in len count bytes) sector → sector < first → (ahead ≡ 1) × (first - sector ≡ 1)
next_of len zero from sector bytes near takes {first} is below = absurd (omega (arith, is, below))
next_of len (suc count) from sector bytes near takes {first} is below =
    let many = length_sectors len (suc count) bytes in
    let on = takes (omega (arith, many)) in
    let before = on.before in let low = on.low in
    (omega (arith, is, before, near, below), omega (arith, is, low, below))

module _ (unsent : Unsent) (sector : ℕ) where
  abbrev places : List ℕ
  places = drop (SECTOR_LEN * unsent.ahead) unsent.bytes.items

  pub has_sector : unsent.first ≤ sector → IsTrue (nat_lt (sector - unsent.first) unsent.count) ↔ IsOf (run_in unsent) sector
  has_sector low =
      let many = length_sectors SECTOR_LEN unsent.count places in (
        λ yes. let near = ltb-true _ _ yes in record { low = low; high = omega (arith, many, near, low) },
        λ of. lt-ltb _ _ (let high = of.high in omega (arith, many, high, low)),
      )

  pub takes_low : unsent.count ≢ 0 → sector < unsent.first → unsent.first - sector ≢ 1
      → IsTrue (eqb (unsent.first - sector) 1) ↔ Takes (run_in unsent) sector
  takes_low some below far =
      let many = length_sectors SECTOR_LEN unsent.count places in (
        λ yes more. absurd (far (eqb-true _ _ yes)),
        λ takes. let on = takes (omega (arith, many, some)) in let low = on.low in absurd (omega (arith, low, below, far)),
      )

  pub takes_next : unsent.count ≢ 0 → unsent.first - sector ≡ 1 → unsent.ahead + unsent.count ≤ 64
      → IsTrue (eqb unsent.ahead 1) ↔ Takes (run_in unsent) sector
  takes_next some by_one few =
      let many = length_sectors SECTOR_LEN unsent.count places in (
        λ yes more. let is = eqb-true unsent.ahead 1 yes in record {
          low = omega (arith, by_one);
          high = omega (arith, by_one);
          before = omega (arith, by_one, is);
          behind = omega (arith, by_one, is);
        },
        λ takes. eq-eqb unsent.ahead 1 (let on = takes (omega (arith, many, some)) in
            let before = on.before in let near = unsent.near in omega (arith, before, near, by_one)),
      )

  pub takes_near : unsent.count ≢ 0 → unsent.first ≤ sector → sector - unsent.first ≤ unsent.count
      → IsTrue (nat_lt (unsent.ahead + (sector - unsent.first)) 64) ↔ Takes (run_in unsent) sector
  takes_near some low near =
      let many = length_sectors SECTOR_LEN unsent.count places in (
        λ yes more. let few : unsent.ahead + (sector - unsent.first) < 64 = ltb-true _ _ yes in record {
          low = omega (arith, low);
          high = omega (arith, many, near, low);
          before = omega (arith, low);
          behind = omega (arith, few, low);
        },
        λ takes. lt-ltb _ _ (let on = takes (omega (arith, many, some)) in let behind = on.behind in omega (arith, behind, low)),
      )

  pub takes_far : unsent.count ≢ 0 → unsent.first ≤ sector → unsent.count < sector - unsent.first
      → IsTrue (leb (sector - unsent.first) unsent.count) ↔ Takes (run_in unsent) sector
  takes_far some low far =
      let many = length_sectors SECTOR_LEN unsent.count places in (
        λ yes more. absurd (let near = leb-true _ _ yes in omega (arith, near, far)),
        λ takes. let on = takes (omega (arith, many, some)) in let high = on.high in absurd (omega (arith, many, high, far, low)),
      )

  pub within : Takes (run_in unsent) sector → {first : ℕ} → first ≡ first_with (run_in unsent) sector → sector - first ≤ unsent.count
  within takes {first} is = within_of SECTOR_LEN unsent.count unsent.first sector places takes is

  pub room : Takes (run_in unsent) sector → {first : ℕ} → first ≡ first_with (run_in unsent) sector → first ≤ sector
      → unsent.ahead + (sector - first) < 64
  room takes {first} is low = room_of SECTOR_LEN unsent.count unsent.first sector places unsent.near takes is low

  pub next : Takes (run_in unsent) sector → {first : ℕ} → first ≡ first_with (run_in unsent) sector → sector < first
      → (unsent.ahead ≡ 1) × (first - sector ≡ 1)
  next takes {first} is below = next_of SECTOR_LEN unsent.count unsent.first sector places unsent.near takes is below

-- the run with it
module _ (run new : Run) (sector : ℕ) (bytes : List ℕ) {first : ℕ} (is : first ≡ first_with run sector) where
  pub taken_before : first - sector ≡ 1 → run.ahead ≡ 1 → new.first ≡ sector → new.sectors ≡ bytes ∷ run.sectors → new.ahead ≡ 0
      → new ≡ taken run sector bytes
  taken_before by_one one from all none =
      let before : 1 ≡ first_with run sector - sector = omega (arith, is, by_one) in
      let begins : new.first ≡ min sector (first_with run sector) = omega (arith, from, is, by_one) in
      let left : new.ahead ≡ run.ahead - (first_with run sector - sector) = omega (arith, none, is, by_one, one) in
      λ i. record {
        first = begins i;
        sectors = (all ∙ ap (λ (n : ℕ). added n (sector - first_with run sector) bytes run.sectors) before) i;
        ahead = left i;
      }

  pub taken_in_place : first ≤ sector → new.first ≡ first → new.sectors ≡ placed (sector - first) bytes run.sectors
      → new.ahead ≡ run.ahead → new ≡ taken run sector bytes
  taken_in_place low from all same =
      let none : 0 ≡ first_with run sector - sector = omega (arith, is, low) in
      let begins : new.first ≡ min sector (first_with run sector) = omega (arith, from, is, low) in
      let left : new.ahead ≡ run.ahead - (first_with run sector - sector) = omega (arith, same, is, low) in
      λ i. record {
        first = begins i;
        sectors = (all ∙ ap (λ (f : ℕ). placed (sector - f) bytes run.sectors) is
            ∙ ap (λ (n : ℕ). added n (sector - first_with run sector) bytes run.sectors) none) i;
        ahead = left i;
      }
