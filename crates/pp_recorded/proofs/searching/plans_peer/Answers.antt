use Rattle.std.proofs.Common.{◌∙◌, sym, take}
use Rattle.pp_traffic.specs.Meter.{lets_send}
use Rattle.pp_outside.specs.Outside.{address_of}
use Rattle.pp_recorded.specs.Entries.{past}
use Rattle.pp_recorded.specs.Parts.{all}
use Rattle.pp_recorded.proofs.Searches.{plans_are_sought}
use Rattle.pp_recorded.proofs.searching.plans_peer.Goals as goal

pub returns : goal.returns
returns c =
    let exact = plans_are_sought c.args.descriptor.now (lets_send c.args.descriptor.now.chunk) (past c.args.entries.now) (address_of c.args.to) c.args.remote c.args.chunk
    (take c.args.count (all c.args.descriptor.now c.args.bytes.now)) in
    (λ e. exact.0 (sym c.some_channel.ensures ∙ e), λ is. c.some_channel.ensures ∙ exact.1 is)
