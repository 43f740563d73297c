use Rattle.pp_seat.proofs.Framing.{owed_is_kept, owed_is_given, frames_grow, same_tales, tales_grow, none_begins, reads_come}
use Rattle.pp_seat.proofs.News.{news_are_counted}
use Rattle.pp_seat.proofs.laws_of_frames.Goals as goal

pub returns : goal.returns
returns c = record { owed = owed_is_kept; given = owed_is_given; frames = frames_grow; same = same_tales; tales = tales_grow; begins = none_begins; clocks = reads_come; news = news_are_counted }
