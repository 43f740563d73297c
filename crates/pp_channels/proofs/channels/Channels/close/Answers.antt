use Rattle.std.proofs.Common.{◌≡◌, ◌+◌, length, arith, Option, Some, None, List, ap, sym, ◌∙◌, subst}
use Rattle.std.proofs.Math.ListN.{set}
use Rattle.pp_channels.specs.declared.channel.Channel.{Channel}
use Rattle.pp_channels.specs.Seats.{Seats, AreSeats, after_drop, at_seat, used_of}
use Rattle.pp_channels.proofs.Seating.{seats_after_drop, is_free, after_drop_there, marked_items, closes, used_less}
use Rattle.pp_channels.proofs.channels.Channels.close.Goals as goal

pub invariant_of-self : goal.invariant_of-self
invariant_of-self c =
    let items = marked_items c.self.inside.seats c.args.seat c.channel-dropped.result c.deref_mut.result.now c.note_drop.new.channels
    c.deref_mut.ensures.value c.deref_mut.ensures.len c.note_drop.ensures in
    subst AreSeats (sym items) (seats_after_drop c.channel-dropped.result c.self.inside.seats.items c.args.seat c.self.invariant)

pub returns-clause-exact : goal.returns-clause-exact
returns-clause-exact c =
    let items = marked_items c.self.inside.seats c.args.seat c.channel-dropped.result c.deref_mut.result.now c.note_drop.new.channels
    c.deref_mut.ensures.value c.deref_mut.ensures.len c.note_drop.ensures in
    let from_items : List (Option Channel) → Seats = λ xs. record { channels = xs; numbers = c.self.inside.numbers } in
    ap from_items items
    ∙ closes c.args.self.now c.self.inside.seats.items c.self.inside.numbers c.args.seat c.channel-dropped.result c.self.view_is c.channel-dropped.ensures.is

pub returns-clause-free : goal.returns-clause-free
returns-clause-free c =
    let items = marked_items c.self.inside.seats c.args.seat c.channel-dropped.result c.deref_mut.result.now c.note_drop.new.channels
    c.deref_mut.ensures.value c.deref_mut.ensures.len c.note_drop.ensures in
    ap (λ xs. at_seat xs c.args.seat) items
    ∙ after_drop_there c.channel-dropped.result (set c.self.inside.seats.items c.args.seat None) c.args.seat
    ∙ ap (after_drop (Some c.channel-dropped.result)) (is_free c.self.inside.seats.items c.args.seat)

pub returns-clause-one_less : goal.returns-clause-one_less
returns-clause-one_less c =
    let long : length c.args.self.now.channels ≡ 64 = ap (λ (s : Seats). length s.channels) (sym c.self.view_is) ∙ c.self.invariant.seats in
    ap (λ s. used_of s + 1) (returns-clause-exact c)
    ∙ used_less c.args.self.now c.args.seat c.channel-dropped.result c.channel-dropped.ensures.is (omega (arith, long, c.channel-dropped.ensures.seat))
