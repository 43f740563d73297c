use Rattle.std.proofs.Common.{◌<◌, ◌≤◌, false, [], ap, ◌∙◌, subst, slice_index_or}
use Rattle.pp_avail.specs.Offers.{copies_in}
use Rattle.pp_avail.proofs.Counting.{some_copies}
use Rattle.pp_avail.proofs.avail.Avail.most_copies.Goals as goal

pub returns-clause-copies : goal.returns-clause-copies
returns-clause-copies c = λ seat i held.
    subst (λ o. (0 < copies_in o.seats i) × (copies_in o.seats i ≤ 64)) c.self.view_is
    (some_copies c.self.inside.chunks c.self.inside.seats.items c.self.inside.counts seat i c.self.invariant
    (ap (λ o. slice_index_or (slice_index_or o.seats seat []) i false) c.self.view_is ∙ held))
