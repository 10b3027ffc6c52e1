-- Each call's answer, told as that of the line.
use Rattle.std.proofs.Common.{◌≡◌, sym, subst, rules}
use Rattle.lfs_model.specs.Call as model
use Rattle.lfs_model.specs.Device.{DeviceState}
use Rattle.lfs_model.specs.Script.{call_of}
use Rattle.lfs_fs.specs.Volume.{Mounted, Serves}
use Rattle.lfs_lines.specs.Calls.{line_for}
use Rattle.lfs_lines.specs.declared.call.Call.{Call}
use Rattle.lfs_script.proofs.answer.make.Goals as goal

-- what serves a call serves the line that is this call
served : {D : Type 0} {state : D → DeviceState} {old new : Mounted D} {k l : Call} {call : model.Call} {a b : model.Answer}
    → k ≡ l → Serves state old new call a → call ≡ call_of (line_for l) → a ≡ b → Serves state old new (call_of (line_for k)) b
served {state} {old} {new} {call} {b} is serves same_call same =
    subst (λ (x : Call). Serves state old new (call_of (line_for x)) b) (sym is)
    (subst (λ (x : model.Call). Serves state old new x b) same_call
    (subst (λ (x : model.Answer). Serves state old new call x) same serves))

pub returns-in-Close : goal.returns-in-Close
returns-in-Close g c = served c.in-Close.is c.close.ensures (search rules) (search rules)

pub returns-in-Pread : goal.returns-in-Pread
returns-in-Pread g c = served c.in-Pread.is c.pread.ensures (search rules) (search rules)

pub returns-in-Pwrite : goal.returns-in-Pwrite
returns-in-Pwrite g c = served c.in-Pwrite.is c.pwrite.ensures (search rules) (search rules)

pub returns-in-Fill : goal.returns-in-Fill
returns-in-Fill g c = served c.in-Fill.is c.fill.ensures (search rules) (search rules)

pub returns-in-Truncate : goal.returns-in-Truncate
returns-in-Truncate g c = served c.in-Truncate.is c.truncate.ensures (search rules) (search rules)

pub returns-in-Mkdir : goal.returns-in-Mkdir
returns-in-Mkdir g c = served c.in-Mkdir.is c.mkdir.ensures (search rules) (search rules)

pub returns-in-Link : goal.returns-in-Link
returns-in-Link g c = served c.in-Link.is c.link.ensures (search rules) (search rules)

pub returns-in-Symlink : goal.returns-in-Symlink
returns-in-Symlink g c = served c.in-Symlink.is c.symlink.ensures (search rules) (search rules)

pub returns-in-Readlink : goal.returns-in-Readlink
returns-in-Readlink g c = served c.in-Readlink.is c.readlink.ensures (search rules) (search rules)

pub returns-in-Unlink : goal.returns-in-Unlink
returns-in-Unlink g c = served c.in-Unlink.is c.unlink.ensures (search rules) (search rules)

pub returns-in-Rmdir : goal.returns-in-Rmdir
returns-in-Rmdir g c = served c.in-Rmdir.is c.rmdir.ensures (search rules) (search rules)

pub returns-in-Rename : goal.returns-in-Rename
returns-in-Rename g c = served c.in-Rename.is c.rename.ensures (search rules) (search rules)

pub returns-in-Stat : goal.returns-in-Stat
returns-in-Stat g c = served c.in-Stat.is c.stat.ensures (search rules) (search rules)

pub returns-in-Lstat : goal.returns-in-Lstat
returns-in-Lstat g c = served c.in-Lstat.is c.lstat.ensures (search rules) (search rules)

pub returns-in-Readdir : goal.returns-in-Readdir
returns-in-Readdir g c = served c.in-Readdir.is c.readdir.ensures (search rules) (search rules)

pub returns-in-Fsync : goal.returns-in-Fsync
returns-in-Fsync g c = served c.in-Fsync.is c.fsync.ensures (search rules) (search rules)

pub returns-in-Sync : goal.returns-in-Sync
returns-in-Sync g c = served c.in-Sync.is c.sync.ensures (search rules) (search rules)

pub returns-in-Clean : goal.returns-in-Clean
returns-in-Clean g c = served c.in-Clean.is c.clean.ensures.serves (search rules) (search rules)

pub returns-in-Space : goal.returns-in-Space
returns-in-Space g c = served c.in-Space.is c.space.ensures (search rules) (search rules)

pub returns-in-Version : goal.returns-in-Version
returns-in-Version g c = served c.in-Version.is c.version.ensures (search rules) (search rules)

pub returns-in-Upgrade : goal.returns-in-Upgrade
returns-in-Upgrade g c = served c.in-Upgrade.is c.upgrade.ensures (search rules) (search rules)

pub returns-in-Widen : goal.returns-in-Widen
returns-in-Widen g c = served c.in-Widen.is c.widen.ensures (search rules) (search rules)

pub returns-in-Tree : goal.returns-in-Tree
returns-in-Tree g c = served c.in-Tree.is c.tree.ensures (search rules) (search rules)
