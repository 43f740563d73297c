use Rattle.std.proofs.Common.{◌≡◌, ◌+◌, ◌-◌, ◌<◌, ◌≤◌, ℕ, List, Option, length, Some, sym, ◌∙◌, ap, arith}
use Rattle.pp_terms.specs.disk.Store.{pair_place}
use Rattle.pp_terms.specs.disk.Image.{child, slice}
use Rattle.pp_scan.proofs.Children.{child_short}
use Rattle.pp_scan.proofs.Layering.{children_place}
use Rattle.pp_scan.proofs.layers.know_children.Goals as goal

pub returns-then-place-len-clause-children : goal.returns-then-place-len-clause-children
returns-then-place-len-clause-children g c known j under =
    let reads = (g.D.Disk.state c.args.disk.now).history.reads in
    let at = pair_place c.args.descriptor.now.chunk (c.args.node.layer - 1) c.args.node.offset in
    let place : c.slot_place.result + c.from.result ≡ at =
    children_place c.chunk-chunk.result c.args.node.layer c.args.node.offset c.slot_place.result c.from.result c.requires.inner c.requires.low c.requires.first c.slot_place.ensures c.from.ensures
    ∙ ap (λ (n : ℕ). pair_place n (c.args.node.layer - 1) c.args.node.offset) c.chunk-chunk.ensures.chunk in
    let short : length reads < at + 64 = omega (arith, place, c.requires.counted known) in
    c.requires.absent j under ∙ sym (child_short reads at j _ short)

pub returns-in-Ok-clause-children : goal.returns-in-Ok-clause-children
returns-in-Ok-clause-children g c known j under =
    let reads = (g.D.Disk.state c.args.disk.now).history.reads in
    let at = pair_place c.args.descriptor.now.chunk (c.args.node.layer - 1) c.args.node.offset in
    let place : c.slot_place.result + c.from.result ≡ at =
    children_place c.chunk-chunk.result c.args.node.layer c.args.node.offset c.slot_place.result c.from.result c.requires.inner c.requires.low c.requires.first c.slot_place.ensures c.from.ensures
    ∙ ap (λ (n : ℕ). pair_place n (c.args.node.layer - 1) c.args.node.offset) c.chunk-chunk.ensures.chunk in
    let inside : c.slot_place.result + c.from.result + 64 ≤ length reads = omega (arith, c.requires.counted known) in
    let is : c.in-Ok.tail.pair ≡ slice reads at 64 = c.in-Ok.ensures.pair known inside ∙ ap (λ (n : ℕ). slice reads n 64) place in
    c.adopt.ensures.children j under ∙ ap (λ (both : List ℕ). child both j (Some c.in-Some.digest)) is
    ∙ ap (λ (o : Option (List ℕ)). child (slice reads at 64) j o) c.in-Some.ensures.get
