use Rattle.pp_lives.proofs.Kept.{dial_keeps, sent_keeps, first_keeps, again_keeps, refused_keeps, begun_kept}
use Rattle.pp_lives.proofs.Openings.{seats_opened}
use Rattle.pp_lives.proofs.laws_of_calls.Goals as goal

pub returns : goal.returns
returns c = record { dial = dial_keeps; sent = sent_keeps; first = first_keeps; again = again_keeps; refused = refused_keeps; begun = begun_kept; opened = seats_opened }
