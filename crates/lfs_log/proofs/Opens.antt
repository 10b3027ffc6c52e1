-- A mount: what it took in is a log that runs.
use Rattle.std.proofs.Common.{◌≡◌, ◌<◌, ◌≤◌, ⊎_elim, ◌⊎◌, inl, inr, ◌+◌, ◌*◌, ◌/◌, ◌%◌, ◌==◌, ℕ, zero, suc, false, length, get_or, Some}
use Rattle.std.proofs.Common.{true, None, refl, sym, ◌∙◌, ap, subst, arith}
use Rattle.std.proofs.lemmas.Bool.{cases_lt}
use Rattle.std.proofs.lemmas.List.{get_or_past}
use Rattle.lfs_model.specs.Checkpoint.{CheckpointValue, FitsCheckpoint, MayHave, is_last, layout_version, most_unit_power}
use Rattle.lfs_model.specs.Content.{Content, block, newest}
use Rattle.lfs_model.specs.Committing.{IsMountedTables}
use Rattle.std.specs.Prelude.{Result, Ok, Err}
use Rattle.lfs_model.specs.Device.{DeviceState, IsLawful, Only}
use Rattle.lfs_model.specs.Entry.{Entry, Data, Leaf, Double, Inode, Map, Usage, word}
use Rattle.lfs_model.specs.Memory.{parent}
use Rattle.lfs_model.specs.Reach.{address, view, map_block, inode_address}
use Rattle.lfs_model.specs.Settled.{IsSettled}
use Rattle.lfs_model.specs.Stands.{LogMap, StandsAt, StandsLog, is_clean, used_in, live_in, age_in}
use Rattle.lfs_model.proofs.Decodes.{are_sized}
use Rattle.lfs_model.proofs.Encodes.{word_nil}
use Rattle.lfs_model.proofs.Entries.{data_below, leaf_below, double_below}
use Rattle.lfs_model.proofs.Live.{count_up_same}
use Rattle.lfs_model.proofs.Mounting.{mounting}
use Rattle.lfs_model.proofs.Settled.{keeps_itself}
use Rattle.lfs_model.proofs.Starting.{starting}
use Rattle.lfs_memory.specs.inodes.Blocks.{Blocks, blocks_of, blocks_in}
use Rattle.lfs_memory.specs.inodes.MapValue.{MapValue, address_in, block_in}
use Rattle.lfs_memory.specs.segments.Table.{SegmentNumbers, UsageTable, no_segment, address_of, clean_in, is_clean_in, stale_of}
use Rattle.lfs_memory.specs.declared.memory.LogMemory.{LogMemory}
use Rattle.lfs_memory.specs.Memory.{IsLog, tables_by, tables_of}
use Rattle.lfs_model.specs.Totals.{IsCounted}
use Rattle.lfs_model.proofs.Crash.{single_log}
use Rattle.lfs_verify.specs.declared.tables.Tables.{Tables}
use Rattle.lfs_verify.specs.Loading.{HasTables, IsLoaded, IsUsageUpTo, SaysUsage, SaysTables, IsMapUpTo, SaysMap, numbers_in}
use Rattle.lfs_verify.specs.Take.{SyncsOnce}
use Rattle.lfs_verify.specs.declared.fault.MountFault.{MountFault}
use Rattle.lfs_verify.specs.declared.fault.MountFault.TheVariants as fault
use Rattle.lfs_verify.specs.Faults.{IsOpenFault}
use Rattle.lfs_verify.specs.Verified.{HasLogMap, IsRefusedLog}
use Rattle.lfs_log.specs.LogState.{LogState, AreAllSaved}
use Rattle.lfs_log.specs.Groups.{ListedKeys}
use Rattle.lfs_log.specs.Held.{Held, seen, IsPassMemory, IsReadyToPass}
use Rattle.lfs_log.proofs.Volumes.{mounts}
use Rattle.lfs_log.specs.Mounting.{HasWholeUnits, OpenedLog, OpensLog}
use Rattle.lfs_log.specs.Opening.{CountsOpened, IsOpened, Opens}
use Rattle.lfs_memory.specs.segments.Early.{AreUntaken}
use Rattle.lfs_memory.proofs.Opened.{closed_segment, closed_chunk, as_chunk}

-- ---- the newest checkpoint
one_checkpoint : (d : DeviceState) (m : LogMap) {k : CheckpointValue} → (is : StandsLog d.content m) → newest d.content ≡ Some k
    → is.checkpoint ≡ k
one_checkpoint d m {k} is newest = some_is is.checkpoint k (sym is.newest ∙ newest)
  where
    some_is : (a b : CheckpointValue) → Some a ≡ Some b → a ≡ b
    some_is a b e = cc

-- ---- the tables
abbrev by_numbers : ℕ → ℕ → ℕ → SegmentNumbers
by_numbers used live age = record { used = used; live = live; held = 0; age = age; kept = used }

module _ {c : Content} {k : CheckpointValue} (fits : FitsCheckpoint k) {m : LogMap} (st : StandsAt c k m) {map : MapValue}
    {usage : UsageTable}
    (usages : IsUsageUpTo ((k.segments + 63) / 64) k.segments usage) (says : SaysUsage c k ((k.segments + 63) / 64) usage)
    (maps : IsMapUpTo 32 map) (tells : SaysMap c k 32 map) where
  no_map : (j : ℕ) → 32 ≤ j → get_or k.map j 0 ≡ 0
  no_map j high = get_or_past k.map j 0 (let long = fits.map_length in omega (arith, long, high))

  inode_there : (n : ℕ) → address_in map n ≡ inode_address c k n
  inode_there n = ⊎_elim
      (λ (low : n < 4096).
      let here : 128 * (n / 128) + n % 128 ≡ n = omega arith in
      subst (λ (x : ℕ). address_in map x ≡ word (map_block c k (n / 128)) (n % 128)) here
      (tells.addresses (n / 128) (n % 128) (omega (arith, low)) (omega arith)))
      (λ (high : 4096 ≤ n).
      maps.past n (omega (arith, high)) ∙ sym (ap (λ (a : ℕ). word (block c a) (n % 128)) (no_map _ (omega (arith, high))) ∙ word_nil _))
      (cases_lt n 4096)

  map_there : (j : ℕ) → block_in map j ≡ get_or k.map j 0
  map_there j = ⊎_elim (λ (low : j < 32). tells.blocks j low) (λ (high : 32 ≤ j). maps.none j high ∙ sym (no_map j high)) (cases_lt j 32)

  usage_there : (j : ℕ) → address_of usage j ≡ get_or k.usage j 0
  unfolding address
  usage_there j = ⊎_elim
      (λ (low : j < (k.segments + 63) / 64). says.address j low)
      (λ (high : (k.segments + 63) / 64 ≤ j).
      usages.none j high ∙ sym (⊎_elim (λ (z : get_or k.usage j 0 ≡ 0). z) (λ (some : 0 < get_or k.usage j 0).
      absurd (let low = (st.holds.stages.usages.addresses j).0 some in omega (arith, low, high))) (zero_or_more (get_or k.usage j 0))))
      (cases_lt j ((k.segments + 63) / 64))
    where
      zero_or_more : (n : ℕ) → (n ≡ 0) ⊎ (0 < n)
      zero_or_more zero = inl refl
      zero_or_more (suc n) = inr (omega arith)

  at_there : (x : Entry) → parent x ≡ x → (tables_by map usage).at x ≡ address c k x
  unfolding address
  at_there (Data n i) up = absurd (data_below n i up)
  at_there (Leaf n q) up = absurd (leaf_below n q up)
  at_there (Double n) up = absurd (double_below n up)
  at_there (Inode n) up = inode_there n
  at_there (Map j) up = map_there j
  at_there (Usage j) up = usage_there j

  numbers_there : (s : ℕ) → get_or usage.segments s no_segment ≡ numbers_in c k s
  numbers_there s = ⊎_elim
      (λ (low : s < k.segments). says.numbers s (omega (arith, low)) (let size = usages.size in omega (arith, size, low)))
      (λ (high : k.segments ≤ s).
      let past = st.holds.stages.usages.past s high in
      get_or_past usage.segments s no_segment (let size = usages.size in omega (arith, size, high))
      ∙ sym (nothing (used_in (view c k) s) (live_in (view c k) s) (age_in (view c k) s) past.0
      (st.holds.stages.usages.both s past.0) past.1))
      (cases_lt s k.segments)
    where
      nothing : (u l a : ℕ) → u ≡ 0 → l ≡ 0 → a ≡ 0 → by_numbers u l a ≡ no_segment
      nothing u l a e f g = ap (λ (x : ℕ). by_numbers x l a) e ∙ ap (λ (x : ℕ). by_numbers 0 x a) f ∙ ap (λ (x : ℕ). by_numbers 0 0 x) g

  fresh_ages : (j i : ℕ) → stale_of usage j ≡ false → i < 64 → live_in (view c k) (64 * j + i) ≡ 0 → age_in (view c k) (64 * j + i) ≡ 0
  fresh_ages j i off low none = ⊎_elim
      (λ (inside : j < (k.segments + 63) / 64). says.stale j inside off i low none)
      (λ (past : (k.segments + 63) / 64 ≤ j). (st.holds.stages.usages.past (64 * j + i) (omega (arith, past))).1)
      (cases_lt j ((k.segments + 63) / 64))

  pub mounted_tables : IsMountedTables c k (tables_by map usage)
  mounted_tables = record {
    at = at_there;
    used = λ s. ap (λ (n : SegmentNumbers). n.used) (numbers_there s);
    live = λ s. ap (λ (n : SegmentNumbers). n.live) (numbers_there s);
    held = λ s. ap (λ (n : SegmentNumbers). n.held) (numbers_there s);
    age = λ s. ap (λ (n : SegmentNumbers). n.age) (numbers_there s);
    kept = λ s. ap (λ (n : SegmentNumbers). n.kept) (numbers_there s) ∙ sym (ap (λ (n : SegmentNumbers). n.used) (numbers_there s));
    stale = fresh_ages;
  }

-- a volume may have its own version
own_version : {k : CheckpointValue} {version : ℕ} → FitsCheckpoint k → (x : CheckpointValue) → x ≡ k → layout_version k ≡ version
    → MayHave x version
own_version {k} {version} fits x one says = record {
  unit = subst (λ (y : CheckpointValue). y.unit_power ≤ most_unit_power version) (sym one)
      (subst (λ (n : ℕ). k.unit_power ≤ most_unit_power n) says fits.unit);
  last = ap (λ (y : CheckpointValue). is_last (layout_version y)) one ∙ ap is_last says;
}

-- ---- the log
module _ {D : Type 0} (state : D → DeviceState) (h : Held D) (lawful : IsLawful (state h.device))
    (whole : HasWholeUnits (state h.device))
    (durable : (state h.device).keeps_model → Only (state h.device).content (state h.device)) {t : Tables}
    (loaded : IsLoaded t (state h.device).size) (has : (state h.device).keeps_model → HasTables (state h.device).content t)
    (is : IsOpened h.memory (state h.device).size) (usage : h.memory.usage ≡ t.usage) (map : h.memory.map ≡ t.map) where
  abbrev d : DeviceState
  d = state h.device

  module _ (keeps : d.keeps_model) where
    abbrev k : CheckpointValue
    k = (has keeps).held.checkpoint

    says : SaysTables d.content k t
    says = (has keeps).held.says

    fits : FitsCheckpoint k
    fits = (has keeps).held.fits

    usages : IsUsageUpTo ((k.segments + 63) / 64) k.segments h.memory.usage
    usages = rw (says.segments, usage) loaded.usage

    maps : IsMapUpTo 32 h.memory.map
    maps = rw map loaded.map

    tables : {m : LogMap} → StandsAt d.content k m → IsMountedTables d.content k (tables_of h.memory)
    tables st = mounted_tables fits st usages (rw usage says.usage) maps (rw map says.map)

    log_at : {m : LogMap} → StandsAt d.content k m → IsLog d h.memory k m m
    log_at {m} st = record {
      running = as_chunk (sym (closed_segment h.memory.chunk none)) (sym (closed_chunk h.memory.chunk none))
          (rw is.dirty (starting d (tables_of h.memory) k m 1024 most (are_sized d.content lawful.now) settled (tables st) most));
      hidden = λ n low. (mounting d.content k m (omega (arith, most)) (are_sized d.content lawful.now) st).2 n ∙ sym (maps.hidden n);
      segments = usages.size;
      unit = ap (λ (u : UsageTable). u.unit) usage ∙ sym says.unit;
      tight = λ x b there. absurd (let none = empty x in cc);
    }
      where
        none : length h.memory.chunk.names ≡ 0
        none = ap length is.chunk

        most : k.segments ≤ 1024
        most = fits.segments.most

        settled : IsSettled d k m
        settled = record {
          units = whole k (has keeps).held.newest;
          newest = (has keeps).held.newest;
          stands = st;
          each = λ c left. rw (durable keeps c left) (keeps_itself d.content k (has keeps).held.newest);
        }

        empty : (x : Entry) → blocks_of h.memory.dirty x ≡ None
        empty x = ap (λ (bs : Blocks). blocks_in bs x) is.dirty

    -- no sector was taken
    untaken : AreUntaken h.memory.usage
    untaken = (tables (has keeps).stands).kept

    -- and an eighth of the segments is clean at least
    many : length h.memory.usage.segments ≤ 8 * clean_in h.memory.usage.segments
    unfolding clean_in
    many =
        let same = count_up_same (is_clean_in h.memory.usage.segments) (is_clean (view d.content k)) k.segments
        (λ s low. ap (λ (n : ℕ). n == 0) ((tables (has keeps).stands).used s)) in
        rw usages.size (rw same (has keeps).stands.clean)

  opens : Opens d d h.memory t.version t.number
  opens m keeps is =
      let one = one_checkpoint d m is (has keeps).held.newest in (
        rw one (log_at _ (rw (← one) is.stands)),
        ap (λ (x : CheckpointValue). x.number) one ∙ (says keeps).number,
        is.stands.holds.version ∙ ap layout_version one ∙ (says keeps).version,
        own_version (fits keeps) is.checkpoint one (says keeps).version,
      )

  -- these are its totals
  counts_opened : h.totals.data_blocks ≡ t.data_blocks → h.totals.meta_blocks ≡ t.meta_blocks → CountsOpened d d h.totals
  counts_opened blocks others m keeps is =
      let held = (has keeps).held in
      let same = single_log d.content held.log m
      (record { checkpoint = held.checkpoint; newest = held.newest; stands = (has keeps).stands }) is in
      let counted = subst (λ (x : LogMap). IsCounted x t.data_blocks t.meta_blocks) same held.counted in
      record { stored = blocks ∙ counted.stored; above = others ∙ counted.above }

  pub opened_log : h.version ≡ t.version → h.number ≡ t.number → h.upgraded ≡ false → h.saved ≡ true → h.halted ≡ false
      → h.totals.data_blocks ≡ t.data_blocks → h.totals.meta_blocks ≡ t.meta_blocks → OpenedLog state h.device (seen h)
  opened_log version number upgraded saved running blocks others =
      let nothing : AreAllSaved (seen h) =
      record { blocks = ap length is.dirty; version = upgraded; sectors = rw usage loaded.usage.untaken } in
      record {
        holds = mounts {state = state} h.device lawful (rw (version, number) opens) running nothing untaken many;
        counts = counts_opened blocks others;
        saved = saved;
        empty = nothing;
        untaken = untaken;
        many = many;
      }

pub has_log_map : (d d' : DeviceState) (t : Tables) → (d'.keeps_model → HasTables d.content t) → HasLogMap d d'
has_log_map d d' t has keeps = let h = has keeps in
    (h.held.log, record { checkpoint = h.held.checkpoint; newest = h.held.newest; stands = h.stands })

-- the log that has it is ready
pub ready : (d : DeviceState) {v pass : LogMemory} {keys : ListedKeys} → IsOpened v d.size → IsPassMemory v pass keys
    → IsReadyToPass d v pass keys
ready d {v} is there = record {
  running = record {
    memory = is.memory;
    room = is.room;
    closed = is.chunk;
    few = let none : length v.dirty.blocks ≡ 0 = ap length is.dirty in omega (arith, none);
    wide = is.wide;
    reserved = is.reserved;
  };
  prepared = there;
}

-- ---- how a mount ends
abbrev pub mount_fails : {D : Type 0} → MountFault → D → Result (LogState D) (MountFault × D)
mount_fails fault device = Err (fault, device)

abbrev pub mount_gives : {D : Type 0} → LogState D → Result (LogState D) (MountFault × D)
mount_gives h = Ok h

-- behind a walk, which only read
module _ {D : Type 0} {state : D → DeviceState} (d d' : D) (looks : SyncsOnce (state d) (state d')) where
  -- the walk found no log
  pub opens_none : {f : MountFault} → ((f ≡ fault.NoMemory → ⊥) → IsOpenFault (state d) (state d') f)
      → IsRefusedLog (state d) (state d') f → OpensLog state d (mount_fails f d')
  opens_none cause reason = record {
    opened = tt;
    found = tt;
    durable = tt;
    cause = cause;
    reason = reason;
    untouched = looks.untouched;
    carries = looks.carries;
    any_moment = looks.any_moment;
  }

  -- it found one
  pub opens_some : {h : LogState D} → h.device ≡ d' → OpenedLog state d' h → {t : Tables}
      → ((state d').keeps_model → HasTables (state d).content t)
      → ((state d').keeps_model → Only (state d).content (state d')) → OpensLog state d (mount_gives h)
  opens_some same opened {t} has durable = record {
    opened = record {
      holds = rw (← looks.untouched.content) opened.holds;
      counts = rw (← looks.untouched.content) opened.counts;
      saved = opened.saved;
      empty = opened.empty;
      untaken = opened.untaken;
      many = opened.many;
    };
    found = rw same (has_log_map (state d) (state d') t has);
    durable = rw same durable;
    cause = tt;
    reason = tt;
    untouched = rw same looks.untouched;
    carries = rw same looks.carries;
    any_moment = rw same looks.any_moment;
  }
