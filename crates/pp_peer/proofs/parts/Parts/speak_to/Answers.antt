use Rattle.std.proofs.Common.{Option, List, sym, subst, ap}
use Rattle.std.specs.List.{AllByRecursion}
use Rattle.pp_terms.specs.format.Descriptor.{Descriptor, chunks_of}
use Rattle.pp_terms.specs.disk.Disk.{moment_of}
use Rattle.pp_draft.specs.declared.note.Note.{Note}
use Rattle.pp_draft.specs.Notes.{IsInside}
use Rattle.pp_desk.specs.Steps.{IsPlain}
use Rattle.pp_channels.specs.Seats.{channel_at}
use Rattle.pp_lives.specs.Fars.{far_of}
use Rattle.pp_lives.specs.declared.lives.Far.{Far}
use Rattle.pp_seats.specs.Standing.{SeatsState}
use Rattle.pp_seats.specs.Sending.{opening_at, IsMute}
use Rattle.pp_holding.specs.Holding.{AreTied}
use Rattle.pp_news.specs.News.{AreRunsOf}
use Rattle.pp_agenda.specs.Laws.{IsPlaced}
use Rattle.pp_agenda.proofs.Agreeing.{all_may_go}
use Rattle.pp_peer.specs.declared.parts.Parts.{Parts}
use Rattle.pp_peer.specs.Speaking.{Says}
use Rattle.pp_peer.proofs.Placed.{placed_of}
use Rattle.pp_peer.proofs.Spoke.{spoke_flushes}
use Rattle.pp_peer.proofs.Turned.{not_mute}
use Rattle.pp_peer.proofs.parts.Parts.speak_to.Goals as goal

pub returns-in_default-clause-speaks : goal.returns-in_default-clause-speaks
returns-in_default-clause-speaks g c = absurd (not_mute c.args.hearer.now.greets c.args.hearer.now.far c.args.self.now.seats.moment
    (channel_at c.args.self.now.seats.table c.args.hearer.now.seat) c.requires.due c.requires.begun
    (subst (λ (x : Option Far). IsMute (opening_at c.args.self.now.seats c.args.hearer.now.seat) x) c.requires.far
    (subst (λ (s : SeatsState). IsMute (opening_at s c.args.hearer.now.seat) (far_of (channel_at s.table c.args.hearer.now.seat)))
    (ap (λ (p : Parts). p.seats) c.pick-picks.ensures.rest) c.in_default.ensures.0)))

pub say-requires-clause-plain : goal.say-requires-clause-plain
say-requires-clause-plain g c = subst (λ (ns : List Note). AllByRecursion IsPlain ns) (sym c.notes.ensures.same)
    (all_may_go c.args.self.now.seats.descriptor c.fill.ensures.known c.fill.ensures.due c.fill.new.speaker.agenda
    (placed_of c.args.hearer.now c.pick-picks.result c.args.speaker.now c.fill.new.speaker c.args.self.now c.pick-picks.new.self c.requires.whole
    (subst (λ (p : Parts). AreTied p.holding) (sym c.pick-picks.ensures.rest) c.store.ensures.tied)
    (subst (λ (p : Parts). AreRunsOf p.holding.queue.tickets c.args.speaker.now.news.ranges) (sym c.pick-picks.ensures.rest) c.requires.gathered)
    c.pick-picks.ensures c.fill.ensures)
    c.fill.ensures.agenda).plain

pub say-requires-clause-inside : goal.say-requires-clause-inside
say-requires-clause-inside g c =
    subst (λ (d : Descriptor). AllByRecursion (IsInside d) c.notes.result.now) (sym (ap (λ (p : Parts). p.seats.descriptor) c.pick-picks.ensures.rest))
    (subst (λ (ns : List Note). AllByRecursion (IsInside c.args.self.now.seats.descriptor) ns) (sym c.notes.ensures.same)
    (all_may_go c.args.self.now.seats.descriptor c.fill.ensures.known c.fill.ensures.due c.fill.new.speaker.agenda
    (placed_of c.args.hearer.now c.pick-picks.result c.args.speaker.now c.fill.new.speaker c.args.self.now c.pick-picks.new.self c.requires.whole
    (subst (λ (p : Parts). AreTied p.holding) (sym c.pick-picks.ensures.rest) c.store.ensures.tied)
    (subst (λ (p : Parts). AreRunsOf p.holding.queue.tickets c.args.speaker.now.news.ranges) (sym c.pick-picks.ensures.rest) c.requires.gathered)
    c.pick-picks.ensures c.fill.ensures)
    c.fill.ensures.agenda).inside)

pub returns-clause-flushes : goal.returns-clause-flushes
returns-clause-flushes g c =
    spoke_flushes c.args.hearer.now c.pick-picks.result c.cancels-cancels.result c.args.speaker.now c.fill.new.speaker
    c.args.self.now c.pick-picks.new.self c.say.new.self c.settle.new.self c.pick-picks.ensures c.cancels-cancels.ensures c.fill.ensures
    c.in-Some.delivered (g.L.Link.seen c.args.link.now) (g.L.Link.seen c.say.new.link) (g.D.Disk.state c.args.disk.now)
    (subst (λ (ns : List Note). Says c.args.hearer.now.seat ns (moment_of (g.D.Disk.state c.args.disk.now).history) c.in-Some.delivered
    c.pick-picks.new.self c.say.new.self (g.L.Link.seen c.args.link.now) (g.L.Link.seen c.say.new.link)) c.notes.ensures.same c.in-Some.ensures)
    c.settle.ensures placed
  where
    placed : IsPlaced (chunks_of c.args.self.now.seats.descriptor) c.fill.ensures.due
    placed = placed_of c.args.hearer.now c.pick-picks.result c.args.speaker.now c.fill.new.speaker c.args.self.now c.pick-picks.new.self c.requires.whole
        (subst (λ (p : Parts). AreTied p.holding) (sym c.pick-picks.ensures.rest) c.store.ensures.tied)
        (subst (λ (p : Parts). AreRunsOf p.holding.queue.tickets c.args.speaker.now.news.ranges) (sym c.pick-picks.ensures.rest) c.requires.gathered)
        c.pick-picks.ensures c.fill.ensures
