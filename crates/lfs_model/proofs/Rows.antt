-- Worked examples: the model computes what the calls answer on a new volume of 64 segments. Examples with files of many kilobytes,
-- with a thousand names, or with writes far into a file are too dear to compute here; they are tests of the calls.
use Rattle.std.proofs.Common.{◌≡◌, refl, ℕ, List, [], ◌∷◌, ◌++◌, ◌+◌, Some, Option, replicate}
use Rattle.std.specs.Prelude.{codes, option_and_then, map, decimal}
use Rattle.std.specs.List.{range_with_len}
use Rattle.std.specs.Fmt.{digits}
use Rattle.lfs_model.specs.Tree.{Dir, State, drop_nameless}
use Rattle.lfs_model.specs.Refusal.{Inval, NotEmpty, NotDir, IsDir, Loop, Perm, Busy, Exist, NoEntry, NameTooLong, TooManyOpen, BadHandle}
use Rattle.lfs_model.specs.Need.{data_of, meta_of}
use Rattle.lfs_model.specs.Call.{Call, Create, Open, Close, Pwrite, Pread, Truncate, Rename, LinkTo, StatOf, LstatOf, Readdir, Readlink}
use Rattle.lfs_model.specs.Call.{Mkdir, Rmdir, Symlink, Unlink, Sync, Space, Version, Upgrade, Widen, ListTree, DirectoryEntry, Answer}
use Rattle.lfs_model.specs.Call.{Handle, Count, Data, Text, Done, Refuse, Status, Room, FormatVersion, Rows, Entries}
use Rattle.lfs_model.specs.Plain.{run_to, fresh, answers_to}
use Rattle.lfs_model.specs.declared.Kind.TheVariants as kinds

answers : List Call → Option (List Answer)
answers calls = answers_to 64 fresh calls

-- a new volume of version 2
fresh_2 : State
fresh_2 = record { tree = (1, Dir 1 []) ∷ []; handles = []; version = 2 }

answers_2 : List Call → Option (List Answer)
answers_2 calls = answers_to 64 fresh_2 calls

-- what a stat, and a line of readdir, tell
file : ℕ → ℕ → ℕ → Answer
file n links size = Status (record { number = n; kind = kinds.File; links = links; size = size })

dir : ℕ → ℕ → ℕ → Answer
dir n links size = Status (record { number = n; kind = kinds.Directory; links = links; size = size })

link : ℕ → ℕ → ℕ → Answer
link n links size = Status (record { number = n; kind = kinds.Link; links = links; size = size })

file_entry : List ℕ → ℕ → DirectoryEntry
file_entry name n = record { name = name; number = n; kind = kinds.File }

dir_entry : List ℕ → ℕ → DirectoryEntry
dir_entry name n = record { name = name; number = n; kind = kinds.Directory }

-- ---- space and bytes

new_volume : answers (Space ∷ []) ≡ Some (Room 0 1 727 3008 ∷ [])
unfolding answers data_of meta_of
new_volume = refl

one_byte : answers (Create (codes "/f") ∷ Pwrite 0 0 (97 ∷ []) ∷ Sync ∷ Space ∷ Pread 0 0 9 ∷ [])
    ≡ Some (Handle 0 ∷ Count 1 ∷ Done ∷ Room 2 2 736 3008 ∷ Data (97 ∷ []) ∷ [])
unfolding answers data_of meta_of
one_byte = refl

-- what a mount finds then
one_byte_kept : option_and_then (λ r. answers_to 64 (drop_nameless r.1) (ListTree ∷ []))
    (run_to 64 fresh (Create (codes "/f") ∷ Pwrite 0 0 (97 ∷ []) ∷ Sync ∷ []))
    ≡ Some (Rows (record {
      directory = 1;
      name = codes "f";
      stat = record { number = 2; kind = kinds.File; links = 1; size = 1 };
      head = 97 ∷ [];
    } ∷ []) ∷ [])
unfolding data_of meta_of
one_byte_kept = refl

-- pieces of zeros need no room
zeros_are_free : answers (Create (codes "/z") ∷ Pwrite 0 0 (replicate 512 0) ∷ Space ∷ Pwrite 0 100 (9 ∷ []) ∷ Space ∷ Pwrite 0 100 (0 ∷ [])
    ∷ Space ∷ StatOf (codes "/z") ∷ [])
    ≡ Some (Handle 0 ∷ Count 512 ∷ Room 1 2 735 3008 ∷ Count 1 ∷ Room 2 2 736 3008 ∷ Count 1 ∷ Room 1 2 735 3008 ∷ file 2 1 512 ∷ [])
unfolding answers file data_of meta_of
zeros_are_free = refl

reads_and_limits : answers (Create (codes "/f") ∷ Pwrite 0 0 (codes "abc") ∷ Pread 0 3 5 ∷ Pread 0 0 0 ∷ Pread 0 1 65536 ∷ Pread 0 0 65537
    ∷ Pwrite 0 99999999 [] ∷ [])
    ≡ Some (Handle 0 ∷ Count 3 ∷ Data [] ∷ Data [] ∷ Data (codes "bc") ∷ Refuse Inval ∷ Count 0 ∷ [])
unfolding answers data_of meta_of
reads_and_limits = refl

cut_and_gap : answers (Create (codes "/g") ∷ Pwrite 0 0 (codes "abc") ∷ Truncate 0 1 ∷ Pwrite 0 4 (codes "z") ∷ Pread 0 0 9 ∷ [])
    ≡ Some (Handle 0 ∷ Count 3 ∷ Done ∷ Count 1 ∷ Data (97 ∷ 0 ∷ 0 ∷ 0 ∷ 122 ∷ []) ∷ [])
unfolding answers data_of meta_of
cut_and_gap = refl

-- ---- files without a name

unlinked_but_open :
    answers (Create (codes "/f") ∷ Pwrite 0 0 (codes "ab") ∷ Unlink (codes "/f") ∷ Pread 0 0 9 ∷ Create (codes "/h") ∷ Sync ∷ [])
    ≡ Some (Handle 0 ∷ Count 2 ∷ Done ∷ Data (codes "ab") ∷ Handle 1 ∷ Done ∷ [])
unfolding answers data_of meta_of
unlinked_but_open = refl

-- after a stop it is gone, and its number is free again
unlinked_and_stopped : option_and_then (λ r. answers_to 64 (drop_nameless r.1) (ListTree ∷ Create (codes "/g") ∷ StatOf (codes "/g") ∷ []))
    (run_to 64 fresh (Create (codes "/f") ∷ Pwrite 0 0 (codes "ab") ∷ Unlink (codes "/f") ∷ Pread 0 0 9 ∷ Create (codes "/h") ∷ Sync ∷ []))
    ≡ Some (Rows (record {
      directory = 1;
      name = codes "h";
      stat = record { number = 3; kind = kinds.File; links = 1; size = 0 };
      head = [];
    } ∷ []) ∷ Handle 0 ∷ file 2 1 0 ∷ [])
unfolding file data_of meta_of
unlinked_and_stopped = refl

-- ---- names

linked_twice :
    answers (Create (codes "/a") ∷ LinkTo (codes "/a") (codes "/b") ∷ Rename (codes "/a") (codes "/b") ∷ StatOf (codes "/a") ∷ [])
    ≡ Some (Handle 0 ∷ Done ∷ Done ∷ file 2 2 0 ∷ [])
unfolding answers file data_of meta_of
linked_twice = refl

renames_refused : answers (Mkdir (codes "/d") ∷ Mkdir (codes "/e") ∷ Mkdir (codes "/e/x") ∷ Symlink (codes "/d") (codes "/s")
    ∷ Rename (codes "/d") (codes "/s/y") ∷ Rename (codes "/d") (codes "/e") ∷ Rename (codes "/d") (codes "/s") ∷ [])
    ≡ Some (Done ∷ Done ∷ Done ∷ Done ∷ Refuse Inval ∷ Refuse NotEmpty ∷ Refuse NotDir ∷ [])
unfolding answers data_of meta_of
renames_refused = refl

renamed_over_a_directory : answers (Mkdir (codes "/d") ∷ Mkdir (codes "/e") ∷ Rename (codes "/d") (codes "/e") ∷ StatOf (codes "/")
    ∷ Readdir (codes "/") ∷ Mkdir (codes "/g") ∷ StatOf (codes "/g") ∷ [])
    ≡ Some (Done ∷ Done ∷ Done ∷ dir 1 3 64 ∷ Entries (dir_entry (codes "e") 2 ∷ []) ∷ Done ∷ dir 3 2 0 ∷ [])
unfolding answers dir dir_entry data_of meta_of
renamed_over_a_directory = refl

renamed_to_another_parent : answers (Mkdir (codes "/d") ∷ Mkdir (codes "/d/x") ∷ Mkdir (codes "/e") ∷ Rename (codes "/d/x") (codes "/e/y")
    ∷ StatOf (codes "/d") ∷ StatOf (codes "/e/y/..") ∷ [])
    ≡ Some (Done ∷ Done ∷ Done ∷ Done ∷ dir 2 2 0 ∷ dir 4 3 64 ∷ [])
unfolding answers dir data_of meta_of
renamed_to_another_parent = refl

renamed_over_an_open_file : answers (Create (codes "/a") ∷ Create (codes "/b") ∷ Pwrite 1 0 (codes "b") ∷ Rename (codes "/a") (codes "/b")
    ∷ Pread 1 0 4 ∷ StatOf (codes "/b") ∷ Readdir (codes "/") ∷ [])
    ≡ Some (Handle 0 ∷ Handle 1 ∷ Count 1 ∷ Done ∷ Data (codes "b") ∷ file 2 1 0 ∷ Entries (file_entry (codes "b") 2 ∷ []) ∷ [])
unfolding answers file file_entry data_of meta_of
renamed_over_an_open_file = refl

-- the root is refused after both parents
root_renamed : answers (Create (codes "/f") ∷ Rename (codes "/") (codes "/x/y") ∷ Rename (codes "/x/y") (codes "/")
    ∷ Rename (codes "/") (codes "/x") ∷ Rename (codes "/f") (codes "//") ∷ [])
    ≡ Some (Handle 0 ∷ Refuse NoEntry ∷ Refuse NoEntry ∷ Refuse Busy ∷ Refuse Busy ∷ [])
unfolding answers data_of meta_of
root_renamed = refl

file_renamed_to_a_slash : answers (Create (codes "/f") ∷ Mkdir (codes "/d") ∷ Rename (codes "/f") (codes "/d/")
    ∷ Rename (codes "/f") (codes "/d") ∷ Rename (codes "/d") (codes "/e/") ∷ [])
    ≡ Some (Handle 0 ∷ Done ∷ Refuse NotDir ∷ Refuse IsDir ∷ Done ∷ [])
unfolding answers data_of meta_of
file_renamed_to_a_slash = refl

names_made_and_taken : answers (Mkdir (codes "/d") ∷ Rmdir (codes "/d/.") ∷ Unlink (codes "/d") ∷ Rmdir (codes "/") ∷ Mkdir (codes "/")
    ∷ Create (codes "/d/n/") ∷ Rmdir (codes "/d") ∷ Create (codes "/b") ∷ Create (codes "/a c") ∷ Readdir (codes "/") ∷ Unlink (codes "/")
    ∷ [])
    ≡ Some (Done ∷ Refuse Inval ∷ Refuse Perm ∷ Refuse Busy ∷ Refuse Exist ∷ Refuse NoEntry ∷ Done ∷ Handle 0 ∷ Handle 1
    ∷ Entries (file_entry (codes "a c") 3 ∷ file_entry (codes "b") 2 ∷ []) ∷ Refuse Perm ∷ [])
unfolding answers file_entry data_of meta_of
names_made_and_taken = refl

long_names : answers (Mkdir (47 ∷ replicate 59 97) ∷ Mkdir (47 ∷ replicate 60 97) ∷ []) ≡ Some (Done ∷ Refuse NameTooLong ∷ [])
unfolding answers data_of meta_of
long_names = refl

-- ---- the versions of the layout

versions : (answers (Space ∷ Version ∷ []) ≡ Some (Room 0 1 727 3008 ∷ FormatVersion 1 ∷ []))
    × (answers_2 (Space ∷ Version ∷ []) ≡ Some (Room 0 1 727 3008 ∷ FormatVersion 2 ∷ []))
unfolding answers answers_2 fresh_2 data_of meta_of
versions = (refl, refl)

longer_names : answers_2 (Mkdir (47 ∷ replicate 123 97) ∷ Mkdir (47 ∷ replicate 124 97) ∷ []) ≡ Some (Done ∷ Refuse NameTooLong ∷ [])
unfolding answers_2 fresh_2 data_of meta_of
longer_names = refl

five_names : List Call
five_names = Create (codes "/1") ∷ Create (codes "/2") ∷ Create (codes "/3") ∷ Create (codes "/4") ∷ Create (codes "/5") ∷ Space
    ∷ StatOf (codes "/") ∷ []

-- a name takes twice as many bytes in a directory of form 1
five_short : answers five_names ≡ Some (Handle 0 ∷ Handle 1 ∷ Handle 2 ∷ Handle 3 ∷ Handle 4 ∷ Room 1 6 763 3008 ∷ dir 1 2 320 ∷ [])
unfolding answers five_names dir data_of meta_of
five_short = refl

five_wide : answers_2 five_names ≡ Some (Handle 0 ∷ Handle 1 ∷ Handle 2 ∷ Handle 3 ∷ Handle 4 ∷ Room 2 6 764 3008 ∷ dir 1 2 640 ∷ [])
unfolding answers_2 fresh_2 five_names dir data_of meta_of
five_wide = refl

-- widen asks for version 2, and then the directory is as one of form 1 with these names
widened : answers (Create (codes "/1") ∷ Create (codes "/2") ∷ Create (codes "/3") ∷ Create (codes "/4") ∷ Create (codes "/5")
    ∷ Widen (codes "/") ∷ Upgrade ∷ Widen (codes "/") ∷ Space ∷ StatOf (codes "/") ∷ Version ∷ [])
    ≡ Some (Handle 0 ∷ Handle 1 ∷ Handle 2 ∷ Handle 3 ∷ Handle 4 ∷ Refuse Inval ∷ Done ∷ Done ∷ Room 2 6 764 3008 ∷ dir 1 2 640
    ∷ FormatVersion 2 ∷ [])
unfolding answers dir data_of meta_of
widened = refl

-- a second upgrade and a second widen change nothing; a new directory is
-- of form 1, and the old one takes longer names only once it is widened
moved_over : answers (Create (codes "/f") ∷ Symlink (codes "/") (codes "/s") ∷ Upgrade ∷ Mkdir (codes "/d") ∷ Widen (codes "/d")
    ∷ Mkdir (47 ∷ replicate 60 97)
    ∷ Widen (codes "/f") ∷ Widen (codes "/x") ∷ Widen (codes "/s") ∷ Mkdir (47 ∷ replicate 60 97) ∷ Widen (codes "/") ∷ Upgrade ∷ Version
    ∷ Readdir (codes "/d") ∷ StatOf (codes "/") ∷ [])
    ≡ Some (Handle 0 ∷ Done ∷ Done ∷ Done ∷ Done ∷ Refuse NameTooLong
    ∷ Refuse NotDir ∷ Refuse NoEntry ∷ Done ∷ Done ∷ Done ∷ Done ∷ FormatVersion 2 ∷ Entries [] ∷ dir 1 4 512 ∷ [])
unfolding answers dir data_of meta_of
moved_over = refl

-- what a stop leaves of it is of the new version and the new form
moved_over_and_stopped : option_and_then (λ r. answers_to 64 (drop_nameless r.1) (Version ∷ ListTree ∷ []))
    (run_to 64 fresh (Mkdir (codes "/d") ∷ Create (codes "/d/x") ∷ Upgrade ∷ Widen (codes "/d") ∷ Sync ∷ []))
    ≡ Some (FormatVersion 2 ∷ Rows
    (record { directory = 1; name = codes "d"; stat = record { number = 2; kind = kinds.Directory; links = 2; size = 128 }; head = [] }
    ∷ record { directory = 2; name = codes "x"; stat = record { number = 3; kind = kinds.File; links = 1; size = 0 }; head = [] } ∷ [])
    ∷ [])
unfolding data_of meta_of
moved_over_and_stopped = refl

-- ---- the walk

slashes : answers (StatOf (replicate 1023 47) ∷ StatOf (replicate 1024 47) ∷ StatOf [] ∷ [])
    ≡ Some (dir 1 2 0 ∷ Refuse NameTooLong ∷ Refuse NoEntry ∷ [])
unfolding answers dir data_of meta_of
slashes = refl

link_to_itself : answers (Symlink (codes "/l") (codes "/l") ∷ StatOf (codes "/l") ∷ LstatOf (codes "/l") ∷ [])
    ≡ Some (Done ∷ Refuse Loop ∷ link 2 1 2 ∷ [])
unfolding answers link data_of meta_of
link_to_itself = refl

link_with_dot_dot : answers (Mkdir (codes "/d") ∷ Symlink (codes "d/../d/") (codes "/s") ∷ Mkdir (codes "/s/x") ∷ StatOf (codes "/d/x/..")
    ∷ StatOf (codes "/") ∷ [])
    ≡ Some (Done ∷ Done ∷ Done ∷ dir 2 3 64 ∷ dir 1 3 128 ∷ [])
unfolding answers dir data_of meta_of
link_with_dot_dot = refl

numbered : List ℕ → ℕ → List ℕ
unfolding digits
numbered p i = p ++ decimal i

forty_links : answers (Create (codes "/t") ∷ Symlink (codes "/t") (codes "/l1")
    ∷ map (λ i. Symlink (numbered (codes "/l") i) (numbered (codes "/l") (i + 1))) (range_with_len 1 40)
    ++ (StatOf (codes "/l40") ∷ StatOf (codes "/l41") ∷ StatOf (codes "/..") ∷ StatOf [] ∷ StatOf (codes "/t/") ∷ Readlink (codes "/l1")
    ∷ Readlink (codes "/t") ∷ []))
    ≡ Some (Handle 0 ∷ replicate 41 Done
    ++ (file 2 1 0 ∷ Refuse Loop ∷ dir 1 2 2688 ∷ Refuse NoEntry ∷ Refuse NotDir ∷ Text (codes "/t") ∷ Refuse Inval ∷ []))
unfolding answers file dir data_of meta_of numbered digits
forty_links = refl

-- a slash end of a text counts where no piece was left, and then for the texts after it
slash_in_a_text : answers (Create (codes "/f") ∷ Symlink (codes "f/") (codes "/a") ∷ Symlink (codes "f") (codes "/b")
    ∷ Symlink (codes "b/") (codes "/c") ∷ Mkdir (codes "/d") ∷ Symlink (codes "d/") (codes "/e")
    ∷ StatOf (codes "/a") ∷ StatOf (codes "/b") ∷ StatOf (codes "/c") ∷ Create (codes "/e/g") ∷ StatOf (codes "/e/g") ∷ [])
    ≡ Some (Handle 0 ∷ Done ∷ Done ∷ Done ∷ Done ∷ Done ∷ Refuse NotDir ∷ file 2 1 0 ∷ Refuse NotDir ∷ Handle 1 ∷ file 8 1 0 ∷ [])
unfolding answers file data_of meta_of
slash_in_a_text = refl

slash_after_a_link : answers (Mkdir (codes "/d") ∷ Symlink (codes "/d") (codes "/s") ∷ LstatOf (codes "/s") ∷ LstatOf (codes "/s/")
    ∷ Unlink (codes "/s/") ∷ Rmdir (codes "/s") ∷ Mkdir (codes "/s") ∷ Unlink (codes "/s") ∷ [])
    ≡ Some (Done ∷ Done ∷ link 3 1 2 ∷ dir 2 2 0 ∷ Refuse NotDir ∷ Refuse NotDir ∷ Refuse Exist ∷ Done ∷ [])
unfolding answers link dir data_of meta_of
slash_after_a_link = refl

-- ---- handles

all_open : answers (Create (codes "/f") ∷ replicate 63 (Open (codes "/f"))
    ++ (Open (codes "/f") ∷ Open (codes "/") ∷ Create (codes "/f") ∷ Create (codes "/g") ∷ Close 5 ∷ Open (codes "/f") ∷ []))
    ≡ Some
    (map Handle (range_with_len 0 64) ++ (Refuse TooManyOpen ∷ Refuse IsDir ∷ Refuse Exist ∷ Refuse TooManyOpen ∷ Done ∷ Handle 5 ∷ []))
unfolding answers data_of meta_of
all_open = refl

bad_handle_first : answers (Pread 0 0 65537 ∷ Pwrite 0 99999999 [] ∷ Truncate 0 99999999 ∷ Close 0 ∷ [])
    ≡ Some (Refuse BadHandle ∷ Refuse BadHandle ∷ Refuse BadHandle ∷ Refuse BadHandle ∷ [])
unfolding answers data_of meta_of
bad_handle_first = refl
