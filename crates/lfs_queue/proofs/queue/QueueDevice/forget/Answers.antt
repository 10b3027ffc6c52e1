use Rattle.std.proofs.Common.{◌≡◌, ◌+◌, ℕ, List, length, ap, sym, ◌∙◌, rules}
use Rattle.lfs_model.specs.declared.Order.{Order}
use Rattle.lfs_queue.specs.Numbered.{as_told}
use Rattle.lfs_queue.specs.Orders.{content_after, done_of, onto}
use Rattle.lfs_queue.proofs.Numbering.{counted_on}
use Rattle.lfs_queue.proofs.queue.QueueDevice.forget.Goals as goal

pub invariant_of-self-clause-counted : goal.invariant_of-self-clause-counted
invariant_of-self-clause-counted c =
    let size : c.len-waiting.result ≡ length c.args.self.now.queue.items = search rules in
    c.saturating_add-self.ensures ∙ ap (λ (n : ℕ). as_told (c.args.self.now.carried + n)) size
    ∙ counted_on c.args.self.now.queue.items (done_of c.args.self.now.done.value) c.args.self.now.carried c.args.self.now.counted
    ∙ sym (ap (λ (l : List Order). as_told (length l)) c.note.ensures)

pub invariant_of-self-clause-agrees : goal.invariant_of-self-clause-agrees
invariant_of-self-clause-agrees c =
    c.args.self.now.agrees ∙ sym (ap (λ (l : List Order). content_after c.args.self.now.start.value.items l)
    (ap (λ (l : List Order). onto l (done_of c.note.new.done.value)) c.clear.ensures.items ∙ c.note.ensures))
