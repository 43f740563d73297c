use Rattle.std.proofs.Common.{List, ℕ, refl, subst}
use Rattle.pp_terms.specs.format.Descriptor.{chunks_of}
use Rattle.pp_world.specs.Outcome.{is_held}
use Rattle.pp_actor.specs.declared.life.Life.{Life}
use Rattle.pp_outcome.specs.Announced.{AreAnnounced}
use Rattle.pp_outcome.specs.Held.{IsSetOf}
use Rattle.pp_outcome.proofs.Ends.{ends}
use Rattle.pp_outcome.proofs.outcome.end_of.Goals as goal

pub returns : goal.returns
returns c =
    let d = c.args.descriptor.now in
    ends d c.args.remains _ c.in_ok-announced.field-0 refl
    (subst (λ (lives : List Life). AreAnnounced d lives c.in_ok-announced.field-0) c.deref.ensures.value c.in_ok-announced.ensures)
    c.count-announced.ensures
    (subst (λ (reads : List ℕ). IsSetOf (chunks_of d) (is_held d reads) c.in_ok-held.held) c.bytes.ensures c.in_ok-held.ensures)
