use Rattle.std.proofs.Common.{ℕ, List, sym, ◌∙◌, ap}
use Rattle.pp_terms.specs.format.Traffic.{Record}
use Rattle.pp_traffic.specs.Past as traffic
use Rattle.pp_recorded.specs.Entries.{past, life_of}
use Rattle.pp_recorded.specs.Offers.{asked_long}
use Rattle.pp_recorded.proofs.Pasts.{first_all}
use Rattle.pp_recorded.proofs.Offerings.{asked_long_ago}
use Rattle.pp_audit.proofs.offers.has_old_request.Goals as goal

pub returns : goal.returns
returns c =
    let d = c.args.descriptor.now in
    let life = life_of c.args.life in
    let before = past c.args.entries.now in
    c.loop-place.invariant.found_is
    ∙ ap (λ (rs : List Record). asked_long d life c.now-latest.result rs) (first_all c.args.entries.now c.loop-place.place c.loop-place-test.false)
    ∙ ap (λ (n : ℕ). asked_long d life n before) c.now-latest.ensures
    ∙ sym (asked_long_ago d life (traffic.now before) before)
