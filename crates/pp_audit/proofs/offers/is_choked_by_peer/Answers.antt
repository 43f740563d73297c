use Rattle.std.proofs.Common.{List, sym, ◌∙◌, ap}
use Rattle.pp_terms.specs.format.Traffic.{Record}
use Rattle.pp_recorded.specs.Entries.{past, life_of}
use Rattle.pp_recorded.specs.Offers.{chokes_since}
use Rattle.pp_recorded.proofs.Pasts.{first_all}
use Rattle.pp_recorded.proofs.Offerings.{chokes_heard}
use Rattle.pp_audit.proofs.offers.is_choked_by_peer.Goals as goal

pub returns : goal.returns
returns c =
    let d = c.args.descriptor.now in
    let life = life_of c.args.life in
    c.loop-place.invariant
    ∙ ap (λ (rs : List Record). chokes_since d life rs) (first_all c.args.entries.now c.loop-place.place c.loop-place-test.false)
    ∙ sym (chokes_heard d life (past c.args.entries.now))
