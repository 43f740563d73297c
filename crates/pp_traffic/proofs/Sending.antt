-- What a datagram that was sent says.
use Rattle.std.proofs.Common.{◌≡◌, ℕ, Bool, true, false, not, cond, List, [], refl}
use Rattle.pp_terms.specs.format.Messages.{Message}
use Rattle.pp_terms.specs.format.Traffic.{Address, Sent}
use Rattle.pp_terms.specs.format.Descriptor.{Descriptor}
use Rattle.pp_traffic.specs.Past.{read, goes_to, is_number}
use Rattle.pp_traffic.specs.Life.{Life}
use Rattle.pp_traffic.specs.Story.{said_in, behind}
use Rattle.pp_traffic.specs.Laws.{SentIsSaid}

none_of : (goes own zero : Bool) (all after : List Message) → own ≡ false → zero ≡ false
    → cond (not goes) [] (cond own all (cond zero after [])) ≡ []
none_of true own zero all after p q = rw (p, q) refl
none_of false own zero all after p q = refl

sent_other : (d : Descriptor) (life : Life) (moment : ℕ) (receiver : Address) (bytes : List ℕ)
    → is_number life.remote (read d (Sent moment receiver bytes)).channel ≡ false
    → is_number 0 (read d (Sent moment receiver bytes)).channel ≡ false → said_in d life (Sent moment receiver bytes) ≡ []
sent_other d life moment receiver bytes number none =
    let r = Sent moment receiver bytes in
    none_of (goes_to life.address r) (is_number life.remote (read d r).channel) (is_number 0 (read d r).channel)
    (read d r).messages.read (behind life.local (read d r).messages.read) number none

pub sent_is_said : SentIsSaid
sent_is_said = record {
  own = λ d life moment receiver bytes to number. rw (to, number) refl;
  elsewhere = λ d life moment receiver bytes to. rw to refl;
  other = sent_other;
}
