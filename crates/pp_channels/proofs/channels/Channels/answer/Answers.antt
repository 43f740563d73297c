use Rattle.std.proofs.Common.{Some, ap, ◌∙◌}
use Rattle.std.specs.Prelude.{is_some, count_by}
use Rattle.std.proofs.Math.ListN.{set}
use Rattle.pp_channels.specs.Seats.{used_of}
use Rattle.pp_channels.proofs.Seating.{used_more}
use Rattle.pp_channels.proofs.channels.Channels.answer.Goals as goal

pub returns-clause-one_more : goal.returns-clause-one_more
returns-clause-one_more c =
    ap used_of c.put.ensures
    ∙ ap (λ s. count_by is_some (set s.channels c.in_ok-seat.seat (Some c.answered.result))) c.draw-local.ensures.words
    ∙ used_more c.args.self.now.channels c.in_ok-seat.seat c.answered.result c.in_ok-seat.ensures.seat
