-- What is read of a seat, against the story of its channel.
use Rattle.std.proofs.Common.{◌≡◌, Bool, true, false, Option, Some, None, List, refl, subst}
use Rattle.std.proofs.lemmas.Option.{same_Some}
use Rattle.pp_terms.specs.format.Traffic.{Record}
use Rattle.pp_terms.specs.format.Descriptor.{Descriptor}
use Rattle.pp_traffic.specs.Life.{Life}
use Rattle.pp_traffic.specs.Story.{Line}
use Rattle.pp_promises.specs.ReadStory.{read_story}
use Rattle.pp_promises.specs.Laws.{is_bare}
use Rattle.pp_promises.proofs.ReadStories.{chokes_are_read, read_tells, read_asks}
use Rattle.pp_promises.proofs.Meters.{meters_agree}
use Rattle.pp_channels.specs.Seats.{channel_at}
use Rattle.pp_channels.specs.declared.channel.Channel.{Channel}
use Rattle.pp_lives.specs.Reading.{is_waiting}
use Rattle.pp_lives.specs.Standing.{Stands, StandsAt, once_known, read_of}
use Rattle.pp_lives.specs.Laws.{IsReadOf, SeatsRead}

read_bare : (d : Descriptor) (life : Life) (past : List Record) → is_bare d life past ≡ true → IsReadOf d life past (read_story d life past)
read_bare d life past bare = record {
  window = λ chunk. meters_agree d life chunk past bare;
  chokes = chokes_are_read d life past;
  tells = λ chunks n. read_tells d life chunks past n;
  asks = λ i. read_asks d life i past;
}

read_channel : (d : Descriptor) (c : Channel) (life : Life) (past : List Record) (lines : List Line) (waits : Bool) → is_waiting c ≡ waits → once_known waits (read_story d life past) ≡ Some lines
    → Stands d c life past → IsReadOf d life past lines
read_channel d c life past lines true waits e s = absurd cc
read_channel d c life past lines false waits e s =
    subst (λ (x : List Line). IsReadOf d life past x) (same_Some (read_story d life past) lines e) (read_bare d life past (s.goes.bare waits))

read_seat : (d : Descriptor) (o : Option Channel) (l : Option Life) (past : List Record) (lines : List Line) → read_of d o l past ≡ Some lines → StandsAt d o l past
    → (life : Life) × (l ≡ Some life) × IsReadOf d life past lines
read_seat d None l past lines e s = absurd cc
read_seat d (Some c) None past lines e s = absurd cc
read_seat d (Some c) (Some life) past lines e s = (life, refl, read_channel d c life past lines (is_waiting c) refl e s)

pub seats_read : SeatsRead
seats_read d t lives seat lines past s e = read_seat d (channel_at t seat) (lives seat) past lines e (s.seated.each seat)
