-- The model's answer that a reply is written of.
use Rattle.std.specs.Prelude.{map, Result, Ok, Err}
use Rattle.lfs_model.specs.Call as call
use Rattle.lfs_fs.specs.declared.error.FsError.{FsError}
use Rattle.lfs_fs.specs.Answers.{entry_of, room_of, row_of, status_of}
use Rattle.lfs_fs.specs.Refusals.{refusal_of}
use Rattle.lfs_replies.specs.declared.answer.Answer.{Answer}
use Rattle.lfs_replies.specs.declared.answer.Answer.TheVariants.{Done, Handle, Count, Bytes, Text, Stat, Entries, Space, Version, Tree}

abbrev pub answer_of : Answer → call.Answer
answer_of Done = call.Done
answer_of (Handle handle) = call.Handle handle
answer_of (Count count) = call.Count count
answer_of (Bytes bytes) = call.Data bytes.items
answer_of (Text text) = call.Text text.items
answer_of (Stat stat) = call.Status (status_of stat)
answer_of (Entries entries) = call.Entries (map entry_of entries.items)
answer_of (Space space) = room_of space
answer_of (Version version) = call.FormatVersion version
answer_of (Tree rows) = call.Rows (map row_of rows.items)

abbrev pub result_of : Result Answer FsError → call.Answer
result_of (Ok answer) = answer_of answer
result_of (Err error) = call.Refuse (refusal_of error)
