-- Calls of C in a row are calls of a volume in a row.
use Rattle.std.proofs.Common.{◌≡◌, ℕ, Option, Some, None, List, [], ◌∷◌, map, refl, sym, ◌∙◌, ap, ap₂, subst}
use Rattle.std.specs.Prelude.{ℤ}
use Rattle.lfs_model.specs.Call as model
use Rattle.lfs_model.specs.Call.{Answer, Call}
use Rattle.lfs_model.specs.Device.{DeviceState, IsLawful}
use Rattle.lfs_model.proofs.Walks.{Some-injective}
use Rattle.lfs_fs.proofs.CallRuns as runs
use Rattle.lfs_fs.specs.InARow as volume
use Rattle.lfs_fs.specs.InARow.{ServesInARow}
use Rattle.lfs_fs.specs.Seen.{seen}
use Rattle.lfs_fs.specs.Volume.{Serves}
use Rattle.lfs_fs.specs.declared.fs.Fs.{Fs}
use Rattle.lfs_fs.specs.entries.declared.rows.ListedEntry.{ListedEntry as Listed}
use Rattle.pansuyog_calls.specs.Codes.{code_of_answer, not_mounted}
use Rattle.pansuyog_calls.specs.InARow.{CallsAreKept, MakesInARow, MountsAreSaved, ServesByContract, by_bytes, by_listing, by_number}
use Rattle.pansuyog_calls.specs.InARow.{by_space, by_status, clock_of, is_only_read, is_same, is_served, is_tended, no_more}
use Rattle.pansuyog_calls.specs.Serving.{IsOnlyRead, ServesIn, TellsBytes, TellsCode}
use Rattle.pansuyog_calls.specs.Telling.{TellsListing, TellsSpace, TellsStat}
use Rattle.pansuyog_calls.specs.declared.rows.Space.{Space}
use Rattle.pansuyog_calls.specs.declared.rows.Stat.{Stat}

stat_told : (code : ℤ) (before after : Stat) (answer : Answer) → TellsStat code before after answer → code ≡ code_of_answer answer
stat_told code before after (model.Status status) is = is.0
stat_told code before after (model.Refuse why) is = is.0
stat_told code before after other is = absurd is

space_told : (code : ℤ) (before after : Space) (answer : Answer) → TellsSpace code before after answer → code ≡ code_of_answer answer
space_told code before after (model.Room blocks others need limit) is = is.0
space_told code before after (model.Refuse why) is = is.0
space_told code before after other is = absurd is

listing_told : (code : ℤ) (before after : List Listed) (answer : Answer) → TellsListing code before after answer
    → code ≡ code_of_answer answer
listing_told code before after (model.Entries entries) is = is.0
listing_told code before after (model.Refuse why) is = is.0
listing_told code before after other is = absurd is

module _ {D : Type 0} (state : D → DeviceState) where
  -- ---- a call: the volume is mounted still, and C is told the number of the answer
  pub record Served (old : Fs D) (after : Option (Fs D)) (call : Call) (code : ℤ) : Type 0 where
    pub new : Fs D
    pub mounted : after ≡ Some new
    pub answer : Answer
    pub serves : Serves state (seen old) (seen new) call answer
    pub tells : code ≡ code_of_answer answer

  served_in : (old : Fs D) (before after : Option (Fs D)) (call : Call) (code : ℤ) (Tells : Answer → Type 0) (Otherwise : Type 0)
      → ((answer : Answer) → Tells answer → code ≡ code_of_answer answer) → before ≡ Some old
      → ServesIn state before after call Tells Otherwise → Served old after call code
  served_in old (Some was) (Some new) call code Tells Otherwise told is serves = subst (λ (f : Fs D). Served f (Some new) call code)
      (Some-injective is)
      (record { new = new; mounted = refl; answer = serves.answer; serves = serves.serves; tells = told serves.answer serves.tells })
  served_in old (Some was) None call code Tells Otherwise told is serves = absurd serves
  served_in old None after call code Tells Otherwise told is serves = absurd (cc is)

  pub served : (old : Fs D) {before : Option (Fs D)} (after : Option (Fs D)) (call : Call) (code : ℤ) → before ≡ Some old
      → ServesByContract state before after call code → Served old after call code
  served old {before} after call code is (by_number serves) =
      served_in old before after call code (TellsCode code) (code ≡ not_mounted) (λ answer told. told) is serves
  served old {before} after call code is (by_bytes was now serves) =
      served_in old before after call code (TellsBytes code was now) ((code ≡ not_mounted) × (now ≡ was)) (λ answer told. told.0) is serves
  served old {before} after call code is (by_status was now serves) =
      served_in old before after call code (TellsStat code was now) ((code ≡ not_mounted) × (now ≡ was)) (stat_told code was now) is serves
  served old {before} after call code is (by_space was now same serves) = subst (λ (c : Call). Served old after c code) (sym same)
      (served_in old before after model.Space code (TellsSpace code was now) ((code ≡ not_mounted) × (now ≡ was))
      (space_told code was now) is serves)
  served old {before} after call code is (by_listing was now serves) =
      served_in old before after call code (TellsListing code was.items now.items) ((code ≡ not_mounted) × (now ≡ was))
      (listing_told code was.items now.items) is serves

  only_read : (old : Fs D) (before after : Option (Fs D)) (code : ℤ) → before ≡ Some old
      → IsOnlyRead state before after code → after ≡ Some old
  only_read old (Some was) after code is same = same.0 ∙ is
  only_read old None after code is same = absurd (cc is)

  -- ---- all of them
  record Row (old : Fs D) (after : Option (Fs D)) (calls : List Call) (codes : List ℤ) (clocks : List ℕ) : Type 0 where
    pub last : Fs D
    pub mounted : after ≡ Some last
    pub answers : List Answer
    pub told : codes ≡ map code_of_answer answers
    pub row : ServesInARow state (seen last) (seen old) calls answers clocks

  in_a_row : (last : Option (Fs D)) {old : Option (Fs D)} {calls : List Call} {codes : List ℤ} {clocks : List ℕ}
      → MakesInARow state last old calls codes clocks → (fs : Fs D) → old ≡ Some fs → Row fs last calls codes clocks
  in_a_row last no_more fs is = record { last = fs; mounted = is; answers = []; told = refl; row = volume.no_more }
  in_a_row last (is_served {calls = calls} {codes = codes} {clocks = clocks} new call code serves rest) fs is =
      let one = served fs new call code is serves in
      let those = in_a_row last rest one.new one.mounted in record {
        last = those.last;
        mounted = those.mounted;
        answers = one.answer ∷ those.answers;
        told = ap₂ (λ (x : ℤ) (l : List ℤ). x ∷ l) one.tells those.told;
        row = subst (λ (n : ℕ). ServesInARow state (seen those.last) (seen fs) (call ∷ calls) (one.answer ∷ those.answers) (n ∷ clocks))
            (sym (ap (clock_of state) one.mounted))
            (volume.is_served (seen one.new) call one.answer one.serves those.row);
      }
  in_a_row last {old} (is_only_read new code same rest) fs is = in_a_row last rest fs (only_read fs old new code is same)
  in_a_row last (is_same new same rest) fs is = in_a_row last rest fs (same ∙ is)
  in_a_row last (is_tended {calls = calls} {codes = codes} {clocks = clocks} was now same tended rest) fs is =
      let those = in_a_row last rest now refl in
      subst (λ (f : Fs D). Row f last calls codes clocks) (Some-injective (sym same ∙ is)) (record {
        last = those.last;
        mounted = those.mounted;
        answers = those.answers;
        told = those.told;
        row = volume.is_tended (seen now) tended those.row;
      })

  pub calls_are_kept : ((d : D) → IsLawful (state d)) → CallsAreKept state
  calls_are_kept lawful old new calls codes clocks row keeps first saved =
      let those = in_a_row (Some new) row old refl in
      let last : those.last ≡ new = Some-injective (sym those.mounted) in record {
        answers = those.answers;
        told = those.told;
        kept = runs.calls_are_kept lawful (seen old) (seen new) calls those.answers clocks
            (subst (λ (f : Fs D). ServesInARow state (seen f) (seen old) calls those.answers clocks) last those.row) keeps first saved;
      }

  pub mounts_are_saved : MountsAreSaved state
  mounts_are_saved device fs mounts = runs.mounts_are_saved state device fs mounts.only mounts.durable
