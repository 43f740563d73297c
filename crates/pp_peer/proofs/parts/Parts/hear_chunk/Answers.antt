use Rattle.std.proofs.Common.{Bool, refl, ap, ◌∙◌, subst}
use Rattle.pp_seats.specs.Hearing.{IsAnswered}
use Rattle.pp_peer.specs.declared.parts.Parts.{Parts}
use Rattle.pp_peer.specs.Standing.{asked_of}
use Rattle.pp_peer.proofs.Fetched.{answered_fetches, asked_without}
use Rattle.pp_peer.proofs.parts.Parts.hear_chunk.Goals as goal

pub returns-then-heard_data-clause-fetches : goal.returns-then-heard_data-clause-fetches
returns-then-heard_data-clause-fetches c = answered_fetches c.args.self.now c.give_back.new.self c.args.seat c.heard_data.ensures.before c.heard_data.ensures.after c.heard_data.ensures.there
    (ap (λ (p : Parts). p.seats) c.give_back.ensures ∙ c.heard_data.ensures.is) c.args.chunk _
    (subst (λ (b : Bool). IsAnswered c.args.chunk b c.heard_data.ensures.before c.heard_data.ensures.after) c.if-heard_data.true c.heard_data.ensures.changes.0)
    (ap (λ (p : Parts). asked_of p.fetching) c.give_back.ensures ∙ asked_without c.args.self.now.fetching c.args.chunk)

pub returns-else-heard_data-clause-fetches : goal.returns-else-heard_data-clause-fetches
returns-else-heard_data-clause-fetches c = answered_fetches c.args.self.now _ c.args.seat c.heard_data.ensures.before c.heard_data.ensures.after c.heard_data.ensures.there
    c.heard_data.ensures.is c.args.chunk _
    (subst (λ (b : Bool). IsAnswered c.args.chunk b c.heard_data.ensures.before c.heard_data.ensures.after) c.if-heard_data.false c.heard_data.ensures.changes.0) refl
