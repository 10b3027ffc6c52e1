-- The calls of a recorder that begins, one behind the other.
use Rattle.std.proofs.Common.{◌≡◌, inl, inr, ℕ, ◌-◌, true, false, List, [], ◌∷◌, ◌++◌, Option, Some, None, Ok, Err, Result, refl, sym, ap}
use Rattle.std.proofs.Common.{◌∙◌, append_assoc, subst}
use Rattle.lfs_model.specs.Call.{Answer, Close, Data, DirectoryEntry, Done, Entries, Handle, LstatOf, Open, Pread, Readdir, Refuse, Stat}
use Rattle.lfs_model.specs.Call.{Status}
use Rattle.lfs_model.specs.Device.{DeviceState}
use Rattle.lfs_fs.specs.Refusals.{refusal_of}
use Rattle.lfs_fs.specs.Volume.{Mounted, Serves}
use Rattle.lfs_fs.specs.declared.error.FsError.{FsError}
use Rattle.lfs_fs.specs.declared.error.FsError.TheVariants as error
use Rattle.lfs_record.specs.Asking.{BeginsOn, EndsEarly, EndsOpen, EndsTaking, KeepsOpen, TakesFile, WasRefused}
use Rattle.lfs_record.specs.Beginning.{Begins, begun, behind, has_newest, has_none, is_empty, is_opened, is_own, is_whole, not_own}
use Rattle.lfs_record.specs.Beginning.{not_whole}
use Rattle.lfs_record.specs.Files.{newest}
use Rattle.lfs_record.specs.Moves.{Calls, root}
use Rattle.lfs_record.specs.Names.{day_of, number_of, path_of}
use Rattle.lfs_record.specs.declared.recorder.Present.{Present}
use Rattle.lfs_record.specs.declared.recorder.Recorder.{Recorder}
use Rattle.lfs_record.proofs.Finding.{finds_files}
use Rattle.lfs_record.proofs.Recorded.{listing, serves_append, serves_none, serves_one}

-- a refusal behind another call
refused_later : (xs ys : Calls) (fault : FsError) → WasRefused ys fault → WasRefused (xs ++ ys) fault
refused_later xs ys fault e =
    (xs ++ e.0, e.1, e.2, ap (λ (l : Calls). xs ++ l) e.3 ∙ sym (append_assoc xs e.0 ((e.1, Refuse (refusal_of fault)) ∷ e.2)))

early_later : (xs ys : Calls) (fault : FsError) → EndsEarly ys fault → EndsEarly (xs ++ ys) fault
early_later xs ys fault (inl e) = inl (refused_later xs ys fault e)
early_later xs ys fault (inr e) = inr e

module _ {D : Type 0} (state : D → DeviceState) where
  -- ---- an open file

  module _ (handle : ℕ) (day : List ℕ) (size : ℕ) where
    pub kept_empty : (v : Mounted D) → size ≡ 0 → KeepsOpen state v v handle day size (Ok (Some (behind handle day size)))
    kept_empty v none = record { calls = []; served = serves_none state v; ends = is_empty none }

    pub kept_whole : (a b : Mounted D) (bytes : List ℕ) → Serves state a b (Pread handle (size - 1) 1) (Data bytes) → bytes ≡ 10 ∷ []
        → KeepsOpen state a b handle day size (Ok (Some (behind handle day size)))
    kept_whole a b bytes serves same = record {
      calls = (Pread handle (size - 1) 1, Data (10 ∷ [])) ∷ [];
      served = serves_one state a b (Pread handle (size - 1) 1) (Data (10 ∷ []))
          (subst (λ (x : List ℕ). Serves state a b (Pread handle (size - 1) 1) (Data x)) same serves);
      ends = is_whole;
    }

    module _ (a b c : Mounted D) where
      pub kept_closed : (bytes : List ℕ) → Serves state a b (Pread handle (size - 1) 1) (Data bytes) → Serves state b c (Close handle) Done
          → KeepsOpen state a c handle day size (Ok None)
      kept_closed bytes first second = record {
        calls = (Pread handle (size - 1) 1, Data bytes) ∷ (Close handle, Done) ∷ [];
        served = serves_append state a b c ((Pread handle (size - 1) 1, Data bytes) ∷ []) ((Close handle, Done) ∷ [])
            (serves_one state a b (Pread handle (size - 1) 1) (Data bytes) first) (serves_one state b c (Close handle) Done second);
        ends = not_whole bytes;
      }

      pub kept_unclosed : (bytes : List ℕ) (fault : FsError) → Serves state a b (Pread handle (size - 1) 1) (Data bytes)
          → Serves state b c (Close handle) (Refuse (refusal_of fault)) → KeepsOpen state a c handle day size (Err fault)
      kept_unclosed bytes fault first second =
          let answer : Answer = Refuse (refusal_of fault) in record {
            calls = (Pread handle (size - 1) 1, Data bytes) ∷ (Close handle, answer) ∷ [];
            served = serves_append state a b c ((Pread handle (size - 1) 1, Data bytes) ∷ []) ((Close handle, answer) ∷ [])
                (serves_one state a b (Pread handle (size - 1) 1) (Data bytes) first) (serves_one state b c (Close handle) answer second);
            ends = ((Pread handle (size - 1) 1, Data bytes) ∷ [], Close handle, [], refl);
          }

      pub kept_unread : (fault : FsError) (answer : Answer) → Serves state a b (Pread handle (size - 1) 1) (Refuse (refusal_of fault))
          → Serves state b c (Close handle) answer → KeepsOpen state a c handle day size (Err fault)
      kept_unread fault answer first second =
          let refused : Answer = Refuse (refusal_of fault) in record {
            calls = (Pread handle (size - 1) 1, refused) ∷ (Close handle, answer) ∷ [];
            served = serves_append state a b c ((Pread handle (size - 1) 1, refused) ∷ []) ((Close handle, answer) ∷ [])
                (serves_one state a b (Pread handle (size - 1) 1) refused first) (serves_one state b c (Close handle) answer second);
            ends = ([], Pread handle (size - 1) 1, (Close handle, answer) ∷ [], refl);
          }

  -- ---- the file of a name

  module _ (name : List ℕ) where
    pub no_path : (v : Mounted D) → TakesFile state v v name (Err error.NoMemory)
    no_path v = record { calls = []; served = serves_none state v; ends = inr refl }

    module _ (a b : Mounted D) where
      pub not_told : (fault : FsError) → Serves state a b (LstatOf (path_of name)) (Refuse (refusal_of fault))
          → TakesFile state a b name (Err fault)
      not_told fault serves = record {
        calls = (LstatOf (path_of name), Refuse (refusal_of fault)) ∷ [];
        served = serves_one state a b (LstatOf (path_of name)) (Refuse (refusal_of fault)) serves;
        ends = inl ([], LstatOf (path_of name), [], refl);
      }

      module _ (stat : Stat) (tells : Serves state a b (LstatOf (path_of name)) (Status stat)) where
        pub passed_by : is_own stat ≡ false → TakesFile state a b name (Ok None)
        passed_by other = record {
          calls = (LstatOf (path_of name), Status stat) ∷ [];
          served = serves_one state a b (LstatOf (path_of name)) (Status stat) tells;
          ends = not_own stat other;
        }

        pub not_opened : (c : Mounted D) (fault : FsError) → Serves state b c (Open (path_of name)) (Refuse (refusal_of fault))
            → TakesFile state a c name (Err fault)
        not_opened c fault serves =
            let answer : Answer = Refuse (refusal_of fault) in record {
              calls = (LstatOf (path_of name), Status stat) ∷ (Open (path_of name), answer) ∷ [];
              served = serves_append state a b c ((LstatOf (path_of name), Status stat) ∷ []) ((Open (path_of name), answer) ∷ [])
                  (serves_one state a b (LstatOf (path_of name)) (Status stat) tells)
                  (serves_one state b c (Open (path_of name)) answer serves);
              ends = inl ((LstatOf (path_of name), Status stat) ∷ [], Open (path_of name), [], refl);
            }

        module _ (c d : Mounted D) (handle : ℕ) (own : is_own stat ≡ true) (opens : Serves state b c (Open (path_of name))
            (Handle handle)) where
          abbrev two : Calls
          two = (LstatOf (path_of name), Status stat) ∷ (Open (path_of name), Handle handle) ∷ []

          pub taken : (result : Result (Option Present) FsError) → KeepsOpen state c d handle (day_of name) stat.size result
              → TakesFile state a d name result
          taken result keeps = record {
            calls = two ++ keeps.calls;
            served = serves_append state a c d two keeps.calls
                (serves_append state a b c ((LstatOf (path_of name), Status stat) ∷ []) ((Open (path_of name), Handle handle) ∷ [])
                (serves_one state a b (LstatOf (path_of name)) (Status stat) tells)
                (serves_one state b c (Open (path_of name)) (Handle handle) opens)) keeps.served;
            ends = by result keeps.calls keeps.ends;
          }
            where
              by : (r : Result (Option Present) FsError) (calls : Calls) → EndsOpen handle (day_of name) stat.size calls r
                  → EndsTaking name (two ++ calls) r
              by (Ok present) calls ends = is_opened stat handle own ends
              by (Err fault) calls ends = inl (refused_later two calls fault ends)

  -- ---- all of them

  module _ (a b : Mounted D) (bytes files : ℕ) where
    pub not_listed : (fault : FsError) → Serves state a b (Readdir root) (Refuse (refusal_of fault))
        → BeginsOn state a b bytes files (Err fault)
    not_listed fault serves = record {
      calls = (Readdir root, Refuse (refusal_of fault)) ∷ [];
      served = serves_one state a b (Readdir root) (Refuse (refusal_of fault)) serves;
      ends = inl ([], Readdir root, [], refl);
    }

    module _ (entries : List DirectoryEntry) (lists : Serves state a b (Readdir root) (Entries entries)) where
      pub begins_anew : newest entries ≡ None → BeginsOn state a b bytes files (Ok (begun bytes files 0 None))
      begins_anew none =
          let calls : Calls = listing entries ∷ [] in
          let begins : Begins bytes files calls (begun bytes files 0 None) = has_none entries none in record {
            calls = calls;
            served = serves_one state a b (Readdir root) (Entries entries) lists;
            ends = (begins, finds_files bytes files calls (begun bytes files 0 None) begins);
          }

      module _ (c : Mounted D) (entry : DirectoryEntry) (is : newest entries ≡ Some entry) where
        pub begins_by : (present : Option Present) → TakesFile state b c entry.name (Ok present)
            → BeginsOn state a c bytes files (Ok (begun bytes files (number_of entry.name) present))
        begins_by present takes =
            let calls : Calls = listing entries ∷ takes.calls in
            let r : Recorder = begun bytes files (number_of entry.name) present in
            let begins : Begins bytes files calls r = has_newest entries entry is takes.ends in record {
              calls = calls;
              served = serves_append state a b c (listing entries ∷ []) takes.calls
                  (serves_one state a b (Readdir root) (Entries entries) lists) takes.served;
              ends = (begins, finds_files bytes files calls r begins);
            }

        pub begins_not : (fault : FsError) → TakesFile state b c entry.name (Err fault) → BeginsOn state a c bytes files (Err fault)
        begins_not fault takes = record {
          calls = listing entries ∷ takes.calls;
          served = serves_append state a b c (listing entries ∷ []) takes.calls
              (serves_one state a b (Readdir root) (Entries entries) lists) takes.served;
          ends = early_later (listing entries ∷ []) takes.calls fault takes.ends;
        }
