-- What the proofs of this crate name often.
pub use Rattle.std.proofs.Common.{Bool, List, None, Option, Some, [], ap, arith, cond, drop, eqb, false, inl, inr, length, map, nat_le}
pub use Rattle.std.proofs.Common.{nat_lt, not, refl, slice_index, subst, suc, sym, take, true, zero, ℕ, ⊎_elim, ◌%◌, ◌&&◌, ◌*◌, ◌++◌, ◌+◌}
pub use Rattle.std.proofs.Common.{◌-◌, ◌/◌, ◌<◌, ◌||◌, ◌∙◌, ◌∷◌, ◌≡◌, ◌≢◌, ◌≤◌, ◌⊎◌}
pub use Rattle.std.proofs.Math.Path.{fun_ext}
pub use Rattle.std.proofs.lemmas.Bool.{cases_eq, cases_lt, eq-eqb}
pub use Rattle.std.proofs.lemmas.Bool.Decides.{eqb_tells, nat_tests}
pub use Rattle.std.proofs.lemmas.Cmp.{nat_cmp_total}
pub use Rattle.std.specs.FinMap.{find, is_sorted}
pub use Rattle.std.specs.FinMap.Entries.{is_sorted-where_key}
pub use Rattle.std.specs.List.{AllByRecursion, list_any, range_with_len}
pub use Rattle.std.specs.Ordering.{eq_by_cmp, nat_cmp}
pub use Rattle.std.specs.Prelude.{MatchOption, T, count_by, if◌then◌else◌, is_none, is_some, max, unwrap_or, ◌==◌}
pub use Rattle.lfs_model.proofs.Growing.{gives, same_or_not}
pub use Rattle.lfs_model.proofs.Keeps.{good_text, parent_dir}
pub use Rattle.lfs_model.proofs.Leasts.{least_free}
pub use Rattle.lfs_model.proofs.Makes.{dir_at, not_some, starts_one}
pub use Rattle.lfs_model.proofs.ObjectBytes.{same_objects, write_ends}
pub use Rattle.lfs_model.proofs.ObjectMaps.{object_fits, object_kept}
pub use Rattle.lfs_model.proofs.ObjectTrees.{with_header_at, without_file_at}
pub use Rattle.lfs_model.proofs.Shrinking.{named_counts}
pub use Rattle.lfs_model.proofs.Standing.{object_length, slots_length}
pub use Rattle.lfs_model.proofs.Sums.{find_without, total_put, weight}
pub use Rattle.lfs_model.proofs.Swaps.{change_less, change_more}
pub use Rattle.lfs_model.proofs.Trees.{cmp_other, find_here, find_other}
pub use Rattle.lfs_model.proofs.Volume.{node_in}
pub use Rattle.lfs_model.specs.Bytes.{AreBytes}
pub use Rattle.lfs_model.specs.Call.{Answer, AreArguments, Call, Done, Refuse, Rename, cleans, never_for_device}
pub use Rattle.lfs_model.specs.Changing.{IsWithHeader}
pub use Rattle.lfs_model.specs.Checkpoint.{IsVersion}
pub use Rattle.lfs_model.specs.Cutting.{IsWithoutFile}
pub use Rattle.lfs_model.specs.Encodes.{IsLogMap}
pub use Rattle.lfs_model.specs.Inode.{IsForm}
pub use Rattle.lfs_model.specs.Need.{need}
pub use Rattle.lfs_model.specs.Objects.{AreLong, IsChangedAt, IsDirectory, IsHeaderOf, IsObject, one_if}
pub use Rattle.lfs_model.specs.PathText.{comps, slash, text_refusal}
pub use Rattle.lfs_model.specs.Refusal.{BadHandle, Busy, DirFull, Inval, NameTooLong, NoEntry, NoSpace, NotDir, NotEmpty, Refusal}
pub use Rattle.lfs_model.specs.Refusal.{TooManyLinks}
pub use Rattle.lfs_model.specs.Slot.{slot_in}
pub use Rattle.lfs_model.specs.Sound.{IsWithinLimits, Sound}
pub use Rattle.lfs_model.specs.Stands.{LogMap}
pub use Rattle.lfs_model.specs.Step.{PathEnds, Step, checked, file_at, file_bytes, gives_dir, is_full, is_long, is_there, is_within}
pub use Rattle.lfs_model.specs.Step.{last_dots, let_go, name, new_entry, no_last, no_space, outcome, path_of, second_path_of, stat_of}
pub use Rattle.lfs_model.specs.Step.{target, the_node, when, with_new, with_tree}
pub use Rattle.lfs_model.specs.Totals.{IsCounted, TotalsOfTree}
pub use Rattle.lfs_model.specs.Tree.{Dir, File, Handles, Link, Node, State, Tree, byte_cmp, entry, form_of, is_dir, least, links, links_at}
pub use Rattle.lfs_model.specs.Tree.{name_len, name_limit, names, names_in, names_of, node, opened, slot_len, with_name, with_node, without}
pub use Rattle.lfs_model.specs.Tree.{without_name}
pub use Rattle.lfs_model.specs.TreeOf.{map_of, node_by, node_of, object, slots, tree_in}
pub use Rattle.lfs_model.specs.Volume.{IsLogOf}
pub use Rattle.lfs_model.specs.Walk.{At, End, Parent, Refused, Resolve}
pub use Rattle.lfs_model.specs.declared.Kind.{Kind}
pub use Rattle.lfs_model.specs.declared.limits.TheConstants.{LAST_NUMBER, MOST_LINKS}
pub use Rattle.lfs_files.specs.Files.{FilesState, IsApart, WritesFile}
pub use Rattle.lfs_files.specs.Headers.{FitsHeader, as_header, first_links, relinked, resized}
pub use Rattle.lfs_path.specs.declared.last.Last.{Last}
pub use Rattle.lfs_path.specs.dirs.Adding.{AddsName, grown, slot_for}
pub use Rattle.lfs_path.specs.dirs.Directory.{names_at}
pub use Rattle.lfs_path.specs.dirs.Taking.{CutsSlot, shrunk}
pub use Rattle.lfs_entries.specs.Entries.{is_directory}
pub use Rattle.lfs_entries.specs.Finding.{GivesObject, GivesNumber}
pub use Rattle.lfs_entries.specs.Moving.{fewer_links, more_links}
pub use Rattle.lfs_entries.specs.NewNames.{links_beside}
pub use Rattle.lfs_entries.specs.NewObjects.{NewKind, form_of_new, kind_of_new, makes_directory, new_directory, new_file, new_link}
pub use Rattle.lfs_entries.specs.NewObjects.{text_of_new}
pub use Rattle.lfs_entries.specs.Renaming.{GivesName}
pub use Rattle.lfs_entries.specs.Replacing.{FitsFound}
pub use Rattle.lfs_entries.specs.Sizes.{TakesOneMore}
pub use Rattle.lfs_entries.specs.declared.entry.Object.{Object}
pub use Rattle.lfs_entries.specs.declared.moving.Source.{Source}
pub use Rattle.lfs_entries.specs.declared.moving.Target.{Target}
