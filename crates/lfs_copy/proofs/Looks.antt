-- What is asked of both volumes before anything is copied.
use Rattle.std.proofs.Common.{◌≡◌, ◌≢◌, ℕ, List, [], ◌∷◌, Ok, Err, length, map, refl, ap, subst}
use Rattle.std.specs.Prelude.{codes}
use Rattle.lfs_model.specs.Call.{DirectoryEntry, Entries, FormatVersion, ListTree, Readdir, Refuse, Room, Rows, Space, Stat, StatOf, Status}
use Rattle.lfs_model.specs.Call.{Version}
use Rattle.lfs_model.specs.Device.{DeviceState}
use Rattle.lfs_fs.specs.Answers.{entry_of, row_of}
use Rattle.lfs_fs.specs.Refusals.{refusal_of}
use Rattle.lfs_fs.specs.Volume.{Mounted, Serves}
use Rattle.lfs_fs.specs.declared.error.FsError.{FsError}
use Rattle.lfs_fs.specs.entries.declared.rows.ListedEntry.{ListedEntry}
use Rattle.lfs_fs.specs.entries.declared.rows.TreeRow.{TreeRow}
use Rattle.lfs_put.specs.Calls.{Made, made}
use Rattle.lfs_copy.specs.Looking.{LooksAtNew, LooksAtOld, Measures, is_empty_call}
use Rattle.lfs_copy.specs.declared.fault.CopyFault.TheVariants as why
use Rattle.lfs_copy.specs.declared.looking.Target.{Target}
use Rattle.lfs_copy.specs.declared.looking.Told.{Told}

some_entries : (entries : List ListedEntry) → length entries ≢ 0 → map entry_of entries ≢ []
some_entries [] some = λ same. some refl
some_entries (entry ∷ entries) some = λ same. cc same

no_entries : (entries : List ListedEntry) → length entries ≡ 0 → map entry_of entries ≡ []
no_entries [] none = refl
no_entries (entry ∷ entries) none = cc none

module _ {D : Type 0} {state : D → DeviceState} where
  -- ---- the old volume

  pub tree_refused : {a b : Mounted D} (fault : FsError) → Serves state a b ListTree (Refuse (refusal_of fault))
      → LooksAtOld state a b (Err fault)
  tree_refused {b = b} fault first = record {
    calls = made ListTree (Refuse (refusal_of fault)) ∷ [];
    served = (b, first, refl);
    only_reads = (refl, tt);
    outcome = record { before = []; call = ListTree; after = []; order = refl; done = tt; closes = tt };
  }

  pub space_refused : {a b c : Mounted D} (rows : List TreeRow) (fault : FsError) → Serves state a b ListTree (Rows (map row_of rows))
      → Serves state b c Space (Refuse (refusal_of fault)) → LooksAtOld state a c (Err fault)
  space_refused {b = b} {c = c} rows fault first second = record {
    calls = made ListTree (Rows (map row_of rows)) ∷ made Space (Refuse (refusal_of fault)) ∷ [];
    served = (b, first, (c, second, refl));
    only_reads = (refl, (refl, tt));
    outcome = record {
      before = made ListTree (Rows (map row_of rows)) ∷ [];
      call = Space;
      after = [];
      order = refl;
      done = (refl, tt);
      closes = tt;
    };
  }

  pub root_refused : {a b c d : Mounted D} (rows : List TreeRow) (data_blocks meta_blocks need limit : ℕ) (fault : FsError)
      → Serves state a b ListTree (Rows (map row_of rows)) → Serves state b c Space (Room data_blocks meta_blocks need limit)
      → Serves state c d (StatOf (codes "/")) (Refuse (refusal_of fault)) → LooksAtOld state a d (Err fault)
  root_refused {b = b} {c = c} {d = d} rows data_blocks meta_blocks need limit fault first second third = record {
    calls = made ListTree (Rows (map row_of rows)) ∷ made Space (Room data_blocks meta_blocks need limit)
        ∷ made (StatOf (codes "/")) (Refuse (refusal_of fault)) ∷ [];
    served = (b, first, (c, second, (d, third, refl)));
    only_reads = (refl, (refl, (refl, tt)));
    outcome = record {
      before = made ListTree (Rows (map row_of rows)) ∷ made Space (Room data_blocks meta_blocks need limit) ∷ [];
      call = StatOf (codes "/");
      after = [];
      order = refl;
      done = (refl, (refl, tt));
      closes = tt;
    };
  }

  pub old_told : {a b c d : Mounted D} (told : Told) (data_blocks meta_blocks limit : ℕ) (root : Stat)
      → Serves state a b ListTree (Rows (map row_of told.rows.items))
      → Serves state b c Space (Room data_blocks meta_blocks told.need limit)
      → Serves state c d (StatOf (codes "/")) (Status root) → told.size ≡ root.size → LooksAtOld state a d (Ok told)
  old_told {b = b} {c = c} {d = d} told data_blocks meta_blocks limit root first second third same = record {
    calls = made ListTree (Rows (map row_of told.rows.items)) ∷ made Space (Room data_blocks meta_blocks told.need limit)
        ∷ made (StatOf (codes "/")) (Status root) ∷ [];
    served = (b, first, (c, second, (d, third, refl)));
    only_reads = (refl, (refl, (refl, tt)));
    outcome = record {
      data_blocks = data_blocks;
      meta_blocks = meta_blocks;
      limit = limit;
      root = root;
      order = refl;
      size = same;
    };
  }

  -- ---- the new volume

  pub version_refused : {a b : Mounted D} (fault : FsError) → Serves state a b Version (Refuse (refusal_of fault))
      → Measures state a b (Err fault)
  version_refused {b = b} fault first = record {
    calls = made Version (Refuse (refusal_of fault)) ∷ [];
    served = (b, first, refl);
    outcome = record { before = []; call = Version; after = []; order = refl; done = tt; closes = tt };
  }

  pub room_refused : {a b c : Mounted D} (version : ℕ) (fault : FsError) → Serves state a b Version (FormatVersion version)
      → Serves state b c Space (Refuse (refusal_of fault)) → Measures state a c (Err fault)
  room_refused {b = b} {c = c} version fault first second = record {
    calls = made Version (FormatVersion version) ∷ made Space (Refuse (refusal_of fault)) ∷ [];
    served = (b, first, (c, second, refl));
    outcome = record {
      before = made Version (FormatVersion version) ∷ [];
      call = Space;
      after = [];
      order = refl;
      done = (refl, tt);
      closes = tt;
    };
  }

  pub measured : {a b c : Mounted D} (target : Target) (data_blocks meta_blocks need : ℕ)
      → Serves state a b Version (FormatVersion target.version)
      → Serves state b c Space (Room data_blocks meta_blocks need target.limit) → Measures state a c (Ok target)
  measured {b = b} {c = c} target data_blocks meta_blocks need first second = record {
    calls = made Version (FormatVersion target.version) ∷ made Space (Room data_blocks meta_blocks need target.limit) ∷ [];
    served = (b, first, (c, second, refl));
    outcome = record { data_blocks = data_blocks; meta_blocks = meta_blocks; need = need; order = refl };
  }

  pub listing_refused : {a b : Mounted D} (fault : FsError) → Serves state a b (Readdir (codes "/")) (Refuse (refusal_of fault))
      → LooksAtNew state a b (Err (why.New fault))
  listing_refused {b = b} fault first = record {
    calls = made (Readdir (codes "/")) (Refuse (refusal_of fault)) ∷ [];
    served = (b, first, refl);
    outcome = record { before = []; call = Readdir (codes "/"); after = []; order = refl; done = tt; closes = tt };
  }

  pub not_empty : {a b : Mounted D} (entries : List ListedEntry) → Serves state a b (Readdir (codes "/")) (Entries (map entry_of entries))
      → length entries ≢ 0 → LooksAtNew state a b (Err why.NotEmpty)
  not_empty {b = b} entries first some = record {
    calls = made (Readdir (codes "/")) (Entries (map entry_of entries)) ∷ [];
    served = (b, first, refl);
    outcome = (map entry_of entries, some_entries entries some, refl);
  }

  -- it has no entries
  empty : {a b : Mounted D} (entries : List ListedEntry) → Serves state a b (Readdir (codes "/")) (Entries (map entry_of entries))
      → length entries ≡ 0 → Serves state a b (Readdir (codes "/")) (Entries [])
  empty {a} {b} entries first none =
      subst (λ (l : List DirectoryEntry). Serves state a b (Readdir (codes "/")) (Entries l)) (no_entries entries none) first

  pub not_measured : {a b c : Mounted D} (entries : List ListedEntry) (fault : FsError)
      → Serves state a b (Readdir (codes "/")) (Entries (map entry_of entries)) → length entries ≡ 0 → Measures state b c (Err fault)
      → LooksAtNew state a c (Err (why.New fault))
  not_measured {b = b} entries fault first none measures = record {
    calls = is_empty_call ∷ measures.calls;
    served = (b, empty entries first none, measures.served);
    outcome = record {
      before = is_empty_call ∷ measures.outcome.before;
      call = measures.outcome.call;
      after = measures.outcome.after;
      order = ap (λ (ms : List Made). is_empty_call ∷ ms) measures.outcome.order;
      done = (refl, measures.outcome.done);
      closes = measures.outcome.closes;
    };
  }

  pub new_measured : {a b c : Mounted D} (entries : List ListedEntry) (target : Target)
      → Serves state a b (Readdir (codes "/")) (Entries (map entry_of entries)) → length entries ≡ 0 → Measures state b c (Ok target)
      → LooksAtNew state a c (Ok target)
  new_measured {b = b} entries target first none measures = record {
    calls = is_empty_call ∷ measures.calls;
    served = (b, empty entries first none, measures.served);
    outcome = (measures.calls, refl, measures.outcome);
  }
