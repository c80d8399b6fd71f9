use Rattle.std.proofs.Common.{rules, ◌≡◌, ap, ◌∙◌}
use Rattle.std.specs.Option.{option_copied}
use Rattle.circular_buffer.specs.Buffer.{last_item}
use Rattle.console_ring.proofs.Histories.{last_retained}
use Rattle.console_ring.proofs.ring.Ring.newest.Goals as goal

pub returns : goal.returns
returns c history stands =
    let last : option_copied c.back.result ≡ last_item history =
    c.back.ensures ∙ ap last_item (ap (λ k. k.records) c.self.view_is ∙ stands.records) ∙ last_retained history in
    search rules
