use Rattle.pp_seat.proofs.Passing.{idle_stays, idle_says, cuts_name_alike, offers_grow, announced_stays, known_stays}
use Rattle.pp_seat.proofs.Answering.{none_left, chokes_are_due}
use Rattle.pp_seat.proofs.laws_of_seats.Goals as goal

pub returns : goal.returns
returns c = record { idle = idle_stays; says = idle_says; cuts = cuts_name_alike; offers = offers_grow; announced = announced_stays; known = known_stays; none_left = none_left; chokes = chokes_are_due }
