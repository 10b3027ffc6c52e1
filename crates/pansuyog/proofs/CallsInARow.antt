-- Calls of C in a row are calls of a volume in a row.
use Rattle.std.proofs.Common.{◌≡◌, ℕ, Option, Some, None, List, [], ◌∷◌, length, map, refl, sym, ◌∙◌, ap, ap₂, subst}
use Rattle.std.specs.Prelude.{ℤ}
use Rattle.lfs_model.specs.Call.{Answer, Call}
use Rattle.lfs_model.specs.Device.{IsLawful}
use Rattle.lfs_model.proofs.Walks.{Some-injective}
use Rattle.lfs_fs.proofs.CallRuns as runs
use Rattle.lfs_volume.specs.Lawful.{volume_lawful}
use Rattle.lfs_fs.specs.InARow as volume
use Rattle.lfs_fs.specs.InARow.{IsTended, ServesInARow}
use Rattle.lfs_fs.specs.Seen.{seen}
use Rattle.lfs_volume.specs.Found.{by_volume}
use Rattle.lfs_queue.proofs.KeptOrders.{since_is_done}
use Rattle.lfs_queue.specs.Orders.{count, done_of, onto, queue_lawful}
use Rattle.lfs_queue.specs.Queue.{borne_by, queue_state, told_of}
use Rattle.lfs_queue.specs.declared.queue.QueueDevice.{QueueDevice}
use Rattle.pansuyog_calls.proofs.CallsInARow.{served}
use Rattle.pansuyog_calls.specs.Codes.{code_of_answer}
use Rattle.pansuyog.proofs.Mounted.{keeps_always}
use Rattle.lfs_places.specs.Places.{volume_content}
use Rattle.pansuyog.specs.Mounted.{MountedVolume, device_of, places_of}
use Rattle.pansuyog.specs.InARow.{CallsAreKept, MakesInARow, MountsAreSaved, is_carried_out, is_served, is_unchanged, no_more}
use Rattle.pansuyog.specs.Orders.{CarriesOut, device_by, device_in, told_by}
use Rattle.pansuyog.specs.declared.handle.Source.{Source}
use Rattle.pansuyog.specs.declared.handle.Volume.{Volume}

lawful : (d : QueueDevice) → IsLawful (queue_state d)
lawful d = queue_lawful (λ k. k) d.sectors d.start.value.items (onto d.queue.items (done_of d.done.value)) (count d.failed.value)
    (borne_by d) d.fits d.started d.starts d.whole

-- ---- orders are carried out
record Tended (old : MountedVolume) (after : Option MountedVolume) : Type 0 where
  pub new : MountedVolume
  pub mounted : after ≡ Some new
  pub is : IsTended (by_volume queue_state) (seen old) (seen new)

tended : (old : MountedVolume) (before after : Option MountedVolume) (from to : Source) (code : ℤ) → before ≡ Some old
    → CarriesOut before after from to code → Tended old after
tended old (Some was) (Some new) from to code is done =
    subst (λ (f : MountedVolume). Tended f (Some new)) (Some-injective is) (record {
      new = new;
      mounted = refl;
      is = record { still = done.3; no_failure = done.2.failures };
    })
tended old (Some was) None from to code is done = absurd done
tended old None after from to code is done = absurd (cc is)

-- ---- all of them
record Row (old : MountedVolume) (after : Option MountedVolume) (calls : List Call) (codes : List ℤ) (clocks : List ℕ) : Type 0 where
  pub last : MountedVolume
  pub mounted : after ≡ Some last
  pub answers : List Answer
  pub told : codes ≡ map code_of_answer answers
  pub row : ServesInARow (by_volume queue_state) (seen last) (seen old) calls answers clocks

-- how many orders the device of a mounted volume was told
told_in : (v : Volume) (fs : MountedVolume) → v.fs ≡ Some fs → length (told_by (device_in v)) ≡ length (told_of (device_of fs))
told_in v fs is = ap (λ (o : Option MountedVolume). length (told_by (device_by o v.source))) is

in_a_row : (last : Volume) {old : Volume} {calls : List Call} {codes : List ℤ} {clocks : List ℕ} → MakesInARow last old calls codes clocks
    → (fs : MountedVolume) → old.fs ≡ Some fs → Row fs last.fs calls codes clocks
in_a_row last no_more fs is = record { last = fs; mounted = is; answers = []; told = refl; row = volume.no_more }
in_a_row last {old} (is_served {calls = calls} {codes = codes} {clocks = clocks} new call code serves rest) fs is =
    let one = served (by_volume queue_state) fs new.fs call code is serves in
    let those = in_a_row last rest one.new one.mounted in record {
      last = those.last;
      mounted = those.mounted;
      answers = one.answer ∷ those.answers;
      told = ap₂ (λ (x : ℤ) (l : List ℤ). x ∷ l) one.tells those.told;
      row = subst (λ (n : ℕ). ServesInARow (by_volume queue_state) (seen those.last) (seen fs) (call ∷ calls) (one.answer ∷ those.answers)
          (n ∷ clocks)) (sym (told_in new one.new one.mounted))
          (volume.is_served (seen one.new) call one.answer one.serves those.row);
    }
in_a_row last (is_unchanged new same rest) fs is = in_a_row last rest fs (ap (λ (v : Volume). v.fs) same ∙ is)
in_a_row last {old} (is_carried_out new code done rest) fs is =
    let one = tended fs old.fs new.fs old.source new.source code is done in
    let those = in_a_row last rest one.new one.mounted in record {
      last = those.last;
      mounted = those.mounted;
      answers = those.answers;
      told = those.told;
      row = volume.is_tended (seen one.new) one.is those.row;
    }

pub calls_are_kept : CallsAreKept
calls_are_kept old new calls codes clocks row fs is first saved =
    let those = in_a_row new row fs is in
    let kept = runs.calls_are_kept {state = by_volume queue_state} (volume_lawful queue_state lawful) (seen fs) (seen those.last) calls
    those.answers clocks those.row (keeps_always (seen those.last).log.device) first saved in (
      those.last,
      those.mounted,
      record {
        answers = those.answers;
        told = those.told;
        points = kept.points;
        run = kept.run;
        kept = since_is_done (device_of those.last) (volume_content (places_of those.last)) (first ∷ kept.points) calls those.answers
            (length (told_of (device_of fs)) ∷ clocks) (λ i t is c left.
            kept.since i t is (volume_content (places_of those.last) c)
            ((keeps_always (seen those.last).log.device).0, (c, left.1, refl)));
      },
    )

pub mounts_are_saved : MountsAreSaved
mounts_are_saved device fs mounts =
    runs.mounts_are_saved (by_volume queue_state) mounts.0 fs mounts.2.only (λ keeps. mounts.2.durable)
    (keeps_always (seen fs).log.device)
