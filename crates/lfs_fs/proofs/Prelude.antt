-- What the proofs of this crate name often.
pub use Rattle.std.proofs.Common.{Bool, Err, List, None, Ok, Option, Result, Some, [], ap, append-nil, arith, cond, eqb, false, get_or, inl}
pub use Rattle.std.proofs.Common.{inr, length, map, nat_lt, not, refl, rules, slice_index_or, subst, suc, sym, true, zero, ℕ, ⊎_elim, ◌&&◌}
pub use Rattle.std.proofs.Common.{◌*◌, ◌++◌, ◌+◌, ◌-◌, ◌/◌, ◌<◌, ◌^◌, ◌||◌, ◌∙◌, ◌∷◌, ◌≡◌, ◌≢◌, ◌≤◌, ◌⊎◌}
pub use Rattle.std.proofs.lemmas.Bool.{cases_eq, cases_lt, eq-eqb, ne_eqb}
pub use Rattle.std.proofs.lemmas.Bool.Decides.{nat_tests}
pub use Rattle.std.proofs.lemmas.List.{length-set, take_all}
pub use Rattle.std.proofs.lemmas.Result.{err_from_is_err_and}
pub use Rattle.std.specs.FinMap.{find, is_sorted, put}
pub use Rattle.std.specs.List.{Contains, refill}
pub use Rattle.std.specs.Ordering.{nat_cmp}
pub use Rattle.std.specs.Prelude.{IfErr, IsErrOf, IsTrue, OnErr, OnOk, T, if◌then◌else◌, max, min, replicate, slice_set, unwrap_or, ◌==◌}
pub use Rattle.lfs_model.proofs.Committed.{dropped_log}
pub use Rattle.lfs_model.proofs.Moments.{carries_none, carries_then, goes_on, joined, started}
pub use Rattle.lfs_model.proofs.Standing.{object_length}
pub use Rattle.lfs_model.proofs.StepsAre.{step_ends}
pub use Rattle.lfs_model.proofs.Trees.{cmp_other, cmp_same}
pub use Rattle.lfs_model.proofs.Volume.{single_state}
pub use Rattle.lfs_model.proofs.Walks.{Some-injective}
pub use Rattle.lfs_model.specs.Bytes.{AreBytes, part}
pub use Rattle.lfs_model.specs.Call.{Answer, Call, Clean, Close, Count, Create, Data, Done, Entries, FormatVersion, Fsync, Handle, LinkTo}
pub use Rattle.lfs_model.specs.Call.{ListTree, Mkdir, Open, Pread, Pwrite, Readdir, Readlink, Refuse, Rename, Rmdir, Room, Rows, Space}
pub use Rattle.lfs_model.specs.Call.{Status, Symlink, Sync, Text, Truncate, Unlink, Upgrade, Version, Widen, changes, cleans, commits}
pub use Rattle.lfs_model.specs.Call.{is_ok, may_write, never_for_device, takes_no_memory}
pub use Rattle.lfs_model.specs.Checkpoint.{CheckpointValue, shape_of}
pub use Rattle.lfs_model.specs.Content.{Content}
pub use Rattle.lfs_model.specs.Crash.{StandsForOn}
pub use Rattle.lfs_model.specs.Device.{AllLeft, Carries, DeviceState, IsLawful, LeavesOnly, Only}
pub use Rattle.lfs_model.specs.Encodes.{IsLogMap}
pub use Rattle.lfs_model.specs.Inode.{IsForm}
pub use Rattle.lfs_model.specs.Need.{need}
pub use Rattle.lfs_model.specs.Objects.{IsDirectory, IsHeaderOf}
pub use Rattle.lfs_model.specs.PathText.{text_refusal}
pub use Rattle.lfs_model.specs.Refusal.{BadHandle, Busy, Device, FileTooBig, Halted, Inval, IsDir, NameTooLong, NoEntry, NoSpace, NotDir}
pub use Rattle.lfs_model.specs.Refusal.{Refusal, Stuck, TooManyOpen, Worn}
pub use Rattle.lfs_model.specs.Run.{IsExcused, LineAnswers, Point, StepsOr, acknowledges, final}
pub use Rattle.lfs_model.specs.Script.{Line, call_of}
pub use Rattle.lfs_model.specs.Slot.{IsName}
pub use Rattle.lfs_model.specs.Sound.{NamesGive}
pub use Rattle.lfs_model.specs.Stands.{LogMap, StandsLog}
pub use Rattle.lfs_model.specs.Step.{Step, head_of, is_link, last_dots, name, no_last, rows_of, stat_of, the_node, widened, with_tree}
pub use Rattle.lfs_model.specs.Totals.{IsCounted, TotalsOfTree}
pub use Rattle.lfs_model.specs.Tree.{Dir, File, Handles, Names, Node, State, Tree, drop_nameless, form_of, is_dir, least_handle, links}
pub use Rattle.lfs_model.specs.Tree.{names, names_in, names_of, node, opened, slot_len, without}
pub use Rattle.lfs_model.specs.TreeOf.{IsTree, LeavesOne, LeavesStates, Left, Stands, dropped, node_by, object, tree_in}
pub use Rattle.lfs_model.specs.UnitLaws.{LeavesShape}
pub use Rattle.lfs_model.specs.Use.{StandsForSome}
pub use Rattle.lfs_model.specs.Volume.{IsLogOf, LeavesPrefix}
pub use Rattle.lfs_model.specs.Walk.{At, End, Parent, Refused, Resolve}
pub use Rattle.lfs_model.specs.declared.Kind.{Kind}
pub use Rattle.lfs_model.specs.declared.Order.{Order}
pub use Rattle.lfs_model.specs.declared.limits.TheConstants.{MOST_LINKS}
pub use Rattle.lfs_model.specs.declared.number.FileNumber.{FileNumber}
pub use Rattle.lfs_files.specs.Files.{FilesState}
pub use Rattle.lfs_files.specs.declared.fault.LogFault.{LogFault}
pub use Rattle.lfs_files.specs.declared.fault.StoreFault.{StoreFault}
pub use Rattle.lfs_store.proofs.Known.{empty_draft, few_checkpoints}
pub use Rattle.lfs_store.proofs.TreeTotals.{totals_of_tree}
pub use Rattle.lfs_store.proofs.of_log.LogReads.{acknowledged, held_still, reads_more, reads_none, segment_count, settled}
pub use Rattle.lfs_store.proofs.of_memory.Going.{ok_then}
pub use Rattle.lfs_store.specs.Accepting.{Accepts, Commits, Declines, HasClean, HoldsNext, IsAcceptFault}
pub use Rattle.lfs_store.specs.Recounting.{AreTotals}
pub use Rattle.lfs_store.specs.Seen.{StagedLog, files_of}
pub use Rattle.lfs_store.specs.StoreState.{IsEmpty, asked_by, draft_of, drafted_of, volume_of, with_draft}
pub use Rattle.lfs_store.specs.Writing.{resized}
pub use Rattle.lfs_store.specs.cleaner.Making.{HaltsLater, MayNotMakeClean, most_checkpoints, clean_orders}
pub use Rattle.lfs_store.specs.declared.draft.Draft.{Draft}
pub use Rattle.lfs_store.specs.declared.store.Store.{Store}
pub use Rattle.lfs_store.specs.log.LogState.{Holds, IsFull, IsVacant, LogState, Mounts, Reads}
pub use Rattle.lfs_store.specs.log.Saving.{commit_orders}
pub use Rattle.lfs_store.specs.log.verify.declared.totals.BlockTotals.{BlockTotals}
pub use Rattle.lfs_store.specs.memory.Removing.{without_file}
pub use Rattle.lfs_path.proofs.LastPieces.{last_says}
pub use Rattle.lfs_path.specs.Lasts.{HasLast}
pub use Rattle.lfs_path.specs.Pieces.{is_dots}
pub use Rattle.lfs_path.specs.Reaching.{EndsParent, IsParent}
pub use Rattle.lfs_path.specs.Seeing.{HasHeader, HasObject}
pub use Rattle.lfs_path.specs.Telling.{Tells, TellsFault, TellsRefusal}
pub use Rattle.lfs_path.specs.Trees.{IsChain, here}
pub use Rattle.lfs_path.specs.declared.last.Last.{Last}
pub use Rattle.lfs_path.specs.declared.walk_fault.WalkFault.{WalkFault}
pub use Rattle.lfs_path.specs.dirs.Directory.{names_at}
pub use Rattle.lfs_path.specs.dirs.Growing.{GrowsDirectory}
pub use Rattle.lfs_path.specs.dirs.Widening.{WidensNames}
pub use Rattle.lfs_entries.specs.Entries.{is_directory}
pub use Rattle.lfs_entries.specs.Finding.{IsHolder, GivesObject, GivesNumber}
pub use Rattle.lfs_entries.specs.NewEntries.{RefusesEntry, TakesEntry}
pub use Rattle.lfs_entries.specs.NewObjects.{makes_directory}
pub use Rattle.lfs_entries.specs.OldEntries.{RefusesOld}
pub use Rattle.lfs_entries.specs.OldNames.{CountsDrop, DraftsDrop, HasOld}
pub use Rattle.lfs_entries.specs.Renaming.{ChecksRename, HasBothNames, RefusesRename}
pub use Rattle.lfs_entries.specs.Rows.{AreTold, IsListable, IsListed}
pub use Rattle.lfs_entries.specs.Telling.{FailsWhere, InEach}
pub use Rattle.lfs_entries.specs.Widening.{MayWiden}
pub use Rattle.lfs_entries.specs.declared.entry.Entry.{Entry}
pub use Rattle.lfs_entries.specs.declared.entry.Object.{Object}
pub use Rattle.lfs_entries.specs.declared.fault.EntryFault.{EntryFault}
pub use Rattle.lfs_entries.specs.declared.moving.Source.{Source}
pub use Rattle.lfs_entries.specs.declared.moving.Target.{Target}
pub use Rattle.lfs_entries.specs.declared.rows.ListedEntry.{ListedEntry}
pub use Rattle.lfs_entries.specs.declared.rows.TreeRow.{TreeRow}
pub use Rattle.lfs_steps.proofs.calls.Checks.{at_most, not_at_most}
pub use Rattle.lfs_steps.proofs.link.Maps.{IsLink}
pub use Rattle.lfs_steps.proofs.list.Rows.{rows_at}
pub use Rattle.lfs_steps.proofs.new_entries.Maps.{Enters, IsNew}
pub use Rattle.lfs_steps.proofs.new_entries.RuleSteps.{ChecksNew, new_dots}
pub use Rattle.lfs_steps.proofs.new_entries.Steps.{Asked, NewCall, checks_new}
pub use Rattle.lfs_steps.proofs.old_entries.Dropping.{MayGo}
pub use Rattle.lfs_steps.proofs.old_entries.Steps.{gone, old_dots}
pub use Rattle.lfs_steps.proofs.open_files.CloseSteps.{close_goes, close_stays, closed, rest}
pub use Rattle.lfs_steps.proofs.open_files.Steps.{written}
pub use Rattle.lfs_steps.proofs.paths.Named.{IsReached, dots_is, entry_is, free_is, full_is, gives_is, has_piece, holder, kind_is}
pub use Rattle.lfs_steps.proofs.paths.Named.{last_dots_is, links_are, long_is, piece_is, short_is, slash_is, target_is, there_is}
pub use Rattle.lfs_steps.proofs.rename.Maps.{IsRename}
pub use Rattle.lfs_steps.proofs.rename.Steps.{StopsAt, conditions, rename_stops}
pub use Rattle.lfs_steps.proofs.volume.KeptMaps.{map_by}
pub use Rattle.lfs_steps.proofs.volume.Nodes.{IsFileOf, IsMapOf, IsShaped, need_shaped, no_header_none, node_by_header, opened_file}
pub use Rattle.lfs_steps.proofs.volume.Nodes.{room_shaped, shaped_map, stat_is}
pub use Rattle.lfs_fs.specs.Accepting.{StagesDraft, TellsFew, TurnsDown, need_of}
pub use Rattle.lfs_fs.specs.Answers.{row_of}
pub use Rattle.lfs_fs.specs.Drafted.{EachDrafted, EndsRefused, WalksTo}
pub use Rattle.lfs_fs.specs.Faults.{error_of_entry, error_of_log, error_of_store, error_of_walk}
pub use Rattle.lfs_fs.specs.Finishing.{Finishes}
pub use Rattle.lfs_fs.specs.Handles.{HasNumber, handles_of, number_in}
pub use Rattle.lfs_fs.specs.Mounting.{FindsState, IsMountFault, MountsFs}
pub use Rattle.lfs_fs.specs.Naming.{BeginsAt, BeginsNowhere, FindsPlace, LacksPlace, Reaches}
pub use Rattle.lfs_fs.specs.Reading.{AreListable, HasRows, ReachesObject, stat_call}
pub use Rattle.lfs_fs.specs.Refusals.{refusal_of}
pub use Rattle.lfs_fs.specs.Renaming.{IsOpen, IsShut, ReachesBoth}
pub use Rattle.lfs_fs.specs.Scripts.{RanAt, RunsLines, ServesLine, TellsLines}
pub use Rattle.lfs_fs.specs.Seen.{Begins, GivesNone, IsReady, OnlyReads, answer_by, seen}
pub use Rattle.lfs_fs.specs.Volume.{Behaves, CommitsFew, IsAt, IsIn, IsStill, LeavesSome, Mounted, Runs, Serves, ServesAt, TellsAtMost}
pub use Rattle.lfs_fs.specs.Volume.{changes_handles, most_orders, segments_of}
pub use Rattle.lfs_fs.specs.declared.error.FsError.{FsError}
pub use Rattle.lfs_fs.specs.declared.fs.Fs.{Fs}
