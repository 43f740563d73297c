use Rattle.std.proofs.Common.{Bool, true, false, Option, ℕ, ◌+◌, List, [], sym, ◌∙◌, ap, subst, take, drop, length, ◌-◌}
use Rattle.std.proofs.lemmas.Bool.{not-false}
use Rattle.pp_terms.specs.disk.Disk.{moment_of}
use Rattle.pp_terms.specs.format.Traffic.{LinkState}
use Rattle.pp_outside.specs.Outside.{address_of}
use Rattle.pp_draft.specs.declared.note.Note.{Note}
use Rattle.pp_draft.specs.Posts.{PostsBehind, Sends}
use Rattle.pp_desk.specs.Delivers.{Way, At, Goes, Delivers, none_delivered}
use Rattle.pp_desk.proofs.Saying.{after_chunks}
use Rattle.pp_desk.proofs.Delivering.{rest_of, opens_with}
use Rattle.pp_desk.proofs.delivery.deliver.Goals as goal

pub deliver_notes-delivered-requires-clause-content : goal.deliver_notes-delivered-requires-clause-content
deliver_notes-delivered-requires-clause-content g c =
    after_chunks c.args.outgoing.now.sent_at false (take c.post_reply-posted.result.count c.args.outgoing.now.notes.now) c.args.seat.now c.said_all.new.seat c.said_all.ensures.after ∙ c.requires.content

pub returns-clause-goes : goal.returns-clause-goes
returns-clause-goes g c =
    let notes = c.args.outgoing.now.notes.now in
    let count = c.post_reply-posted.result.count in
    let link = g.L.Link.seen c.args.link.now in
    let between = g.L.Link.seen c.post_reply-posted.new.link in
    let w : Way = record { d = c.args.descriptor.now; receiver = address_of c.args.outgoing.now.to.address; channel = c.args.outgoing.now.to.channel; moment = moment_of (g.D.Disk.state c.args.disk.now).history; now = c.args.outgoing.now.sent_at } in
    let from : At = record { seat = c.args.seat.now; link = link; so_far = none_delivered } in
    let to : At = record { seat = c.deliver_notes-delivered.new.seat; link = g.L.Link.seen c.deliver_notes-delivered.new.link; so_far = record c.deliver_notes-delivered.result { sent = c.deliver_notes-delivered.result.sent + 1 } } in
    subst (λ (o : Option ℕ). Goes o w notes from to) (sym c.in-Some.is) (
      true,
      opens_with w c.in-Some.source count notes c.args.seat.now c.said_all.new.seat c.deliver_notes-delivered.new.seat link between (g.L.Link.seen c.deliver_notes-delivered.new.link)
          c.deliver_notes-delivered.result
          (subst (λ (b : Bool). PostsBehind w.d w.channel c.in-Some.source notes count (λ bytes. Sends w.receiver bytes w.moment link between b)) (not-false c.post_reply-posted.result.sent c.if-not-posted.false)
          c.post_reply-posted.ensures)
          c.said_all.ensures
          (subst (λ (ns : List Note). Delivers w ns [] (record { seat = c.said_all.new.seat; link = between; so_far = none_delivered })
          (record { seat = c.deliver_notes-delivered.new.seat; link = g.L.Link.seen c.deliver_notes-delivered.new.link; so_far = c.deliver_notes-delivered.result })) (rest_of notes count)
          c.deliver_notes-delivered.ensures.delivers),
    )

pub returns-clause-content : goal.returns-clause-content
returns-clause-content g c = c.deliver_notes-delivered.ensures.content
    ∙ after_chunks c.args.outgoing.now.sent_at false (take c.post_reply-posted.result.count c.args.outgoing.now.notes.now) c.args.seat.now c.said_all.new.seat c.said_all.ensures.after
