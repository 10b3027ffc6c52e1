-- Which answers have the number of a failed call of the device, and that of a halted volume.
use Rattle.std.proofs.Common.{◌≡◌, ◌+◌, ℕ, refl, ap, arith}
use Rattle.std.specs.Prelude.{ℤ, pos, negsuc}
use Rattle.lfs_model.specs.Call as model
use Rattle.lfs_model.specs.Call.{Answer}
use Rattle.lfs_model.specs.Refusal as refusal
use Rattle.lfs_model.specs.Refusal.{Refusal}
use Rattle.pansuyog_calls.specs.Codes.{code_of_answer, code_of_refusal, device_failed}
use Rattle.pansuyog.specs.Available.{halted}

-- how far below zero a number is
abbrev below_zero : ℤ → ℕ
below_zero (pos n) = 0
below_zero (negsuc n) = n + 1

refusal_device : (why : Refusal) → below_zero (code_of_refusal why) ≡ 19 → why ≡ refusal.Device
refusal_device refusal.NoEntry is = absurd (omega (arith, is))
refusal_device refusal.NotDir is = absurd (omega (arith, is))
refusal_device refusal.IsDir is = absurd (omega (arith, is))
refusal_device refusal.Exist is = absurd (omega (arith, is))
refusal_device refusal.NotEmpty is = absurd (omega (arith, is))
refusal_device refusal.Inval is = absurd (omega (arith, is))
refusal_device refusal.NameTooLong is = absurd (omega (arith, is))
refusal_device refusal.Loop is = absurd (omega (arith, is))
refusal_device refusal.Perm is = absurd (omega (arith, is))
refusal_device refusal.Busy is = absurd (omega (arith, is))
refusal_device refusal.BadHandle is = absurd (omega (arith, is))
refusal_device refusal.TooManyOpen is = absurd (omega (arith, is))
refusal_device refusal.TooManyLinks is = absurd (omega (arith, is))
refusal_device refusal.FileTooBig is = absurd (omega (arith, is))
refusal_device refusal.NoSpace is = absurd (omega (arith, is))
refusal_device refusal.NoNumber is = absurd (omega (arith, is))
refusal_device refusal.DirFull is = absurd (omega (arith, is))
refusal_device refusal.NoMemory is = absurd (omega (arith, is))
refusal_device refusal.Device is = refl
refusal_device refusal.Halted is = absurd (omega (arith, is))
refusal_device refusal.Stuck is = absurd (omega (arith, is))
refusal_device refusal.Worn is = absurd (omega (arith, is))

answer_device_below : (answer : Answer) → below_zero (code_of_answer answer) ≡ 19 → answer ≡ model.Refuse refusal.Device
answer_device_below (model.Refuse why) is = ap model.Refuse (refusal_device why is)
answer_device_below model.Done is = absurd (omega (arith, is))
answer_device_below (model.Handle n) is = absurd (omega (arith, is))
answer_device_below (model.Count n) is = absurd (omega (arith, is))
answer_device_below (model.Data bytes) is = absurd (omega (arith, is))
answer_device_below (model.Text bytes) is = absurd (omega (arith, is))
answer_device_below (model.Status status) is = absurd (omega (arith, is))
answer_device_below (model.Entries entries) is = absurd (omega (arith, is))
answer_device_below (model.Room blocks others need limit) is = absurd (omega (arith, is))
answer_device_below (model.FormatVersion n) is = absurd (omega (arith, is))
answer_device_below (model.Rows rows) is = absurd (omega (arith, is))

pub answer_device : (answer : Answer) → code_of_answer answer ≡ device_failed → answer ≡ model.Refuse refusal.Device
answer_device answer is = answer_device_below answer (ap below_zero is)

refusal_halted : (why : Refusal) → below_zero (code_of_refusal why) ≡ 20 → why ≡ refusal.Halted
refusal_halted refusal.NoEntry is = absurd (omega (arith, is))
refusal_halted refusal.NotDir is = absurd (omega (arith, is))
refusal_halted refusal.IsDir is = absurd (omega (arith, is))
refusal_halted refusal.Exist is = absurd (omega (arith, is))
refusal_halted refusal.NotEmpty is = absurd (omega (arith, is))
refusal_halted refusal.Inval is = absurd (omega (arith, is))
refusal_halted refusal.NameTooLong is = absurd (omega (arith, is))
refusal_halted refusal.Loop is = absurd (omega (arith, is))
refusal_halted refusal.Perm is = absurd (omega (arith, is))
refusal_halted refusal.Busy is = absurd (omega (arith, is))
refusal_halted refusal.BadHandle is = absurd (omega (arith, is))
refusal_halted refusal.TooManyOpen is = absurd (omega (arith, is))
refusal_halted refusal.TooManyLinks is = absurd (omega (arith, is))
refusal_halted refusal.FileTooBig is = absurd (omega (arith, is))
refusal_halted refusal.NoSpace is = absurd (omega (arith, is))
refusal_halted refusal.NoNumber is = absurd (omega (arith, is))
refusal_halted refusal.DirFull is = absurd (omega (arith, is))
refusal_halted refusal.NoMemory is = absurd (omega (arith, is))
refusal_halted refusal.Device is = absurd (omega (arith, is))
refusal_halted refusal.Halted is = refl
refusal_halted refusal.Stuck is = absurd (omega (arith, is))
refusal_halted refusal.Worn is = absurd (omega (arith, is))

answer_halted_below : (answer : Answer) → below_zero (code_of_answer answer) ≡ 20 → answer ≡ model.Refuse refusal.Halted
answer_halted_below (model.Refuse why) is = ap model.Refuse (refusal_halted why is)
answer_halted_below model.Done is = absurd (omega (arith, is))
answer_halted_below (model.Handle n) is = absurd (omega (arith, is))
answer_halted_below (model.Count n) is = absurd (omega (arith, is))
answer_halted_below (model.Data bytes) is = absurd (omega (arith, is))
answer_halted_below (model.Text bytes) is = absurd (omega (arith, is))
answer_halted_below (model.Status status) is = absurd (omega (arith, is))
answer_halted_below (model.Entries entries) is = absurd (omega (arith, is))
answer_halted_below (model.Room blocks others need limit) is = absurd (omega (arith, is))
answer_halted_below (model.FormatVersion n) is = absurd (omega (arith, is))
answer_halted_below (model.Rows rows) is = absurd (omega (arith, is))

pub answer_halted : (answer : Answer) → code_of_answer answer ≡ halted → answer ≡ model.Refuse refusal.Halted
answer_halted answer is = answer_halted_below answer (ap below_zero is)
