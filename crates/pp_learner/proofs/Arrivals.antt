-- What a datagram for a channel's number does.
use Rattle.std.proofs.Common.{◌≡◌, ◌≢◌, ℕ, ◌≤◌, Bool, false, Option, Some, List, length, take, refl, sym, ◌∙◌, subst, arith}
use Rattle.std.specs.Prelude.{◌↔◌, slice_set}
use Rattle.std.specs.Int.{w32, from_be_bytes}
use Rattle.std.proofs.lemmas.List.{get_or-set_same}
use Rattle.std.proofs.lemmas.Bool.Decides.{nat_tests}
use Rattle.pp_terms.specs.format.Descriptor.{Descriptor}
use Rattle.pp_counts.specs.declared.counts.Counts.{Counts}
use Rattle.pp_outside.specs.declared.link.Address.{Address}
use Rattle.pp_channels.specs.Seats.{Seats}
use Rattle.pp_lives.specs.Arriving.{Arrives, IsSeated, Proves}
use Rattle.pp_lives.specs.declared.arriving.Arrival.{Arrival}
use Rattle.pp_lives.specs.declared.arriving.Arrival.TheVariants as arrivals
use Rattle.pp_targets.specs.Names.{name_of}
use Rattle.pp_learner.specs.Rows.{RowState, begun, blank}
use Rattle.pp_learner.specs.Reading.{row_at, reading, messages_from, learned_in, Tells}
use Rattle.pp_learner.specs.Absorbing.{is_for_zero, with_keepalive, learned_from, TellsBy, IsOnProven, OpensNone}
use Rattle.pp_learner.specs.declared.parts.Parts.{Parts}
use Rattle.pp_learner.proofs.Telling.{tells_learned}

pub on_proven : (a : Arrival) (table : Seats) → Proves a table → IsOnProven a table
on_proven arrivals.Short table p = tt
on_proven arrivals.NoGreeting table p = tt
on_proven arrivals.Unwelcome table p = tt
on_proven (arrivals.Again seat) table p = tt
on_proven (arrivals.Late seat) table p = tt
on_proven arrivals.Unseated table p = tt
on_proven (arrivals.Opened seat next) table p = tt
on_proven arrivals.NoChannel table p = tt
on_proven (arrivals.NoReply seat) table p = tt
on_proven (arrivals.Cut seat) table p = tt
on_proven (arrivals.Differs seat) table p = tt
on_proven (arrivals.Given seat) table p = tt
on_proven (arrivals.Replied seat) table p = p
on_proven (arrivals.Heard seat) table p = p

-- a number that is there, of a datagram that isn't for channel 0, is another one
pub other_number : (bytes : List ℕ) → is_for_zero bytes ≡ false → 4 ≤ length bytes → from_be_bytes w32 (take 4 bytes) ≢ 0
other_number bytes e long zero = grind (arith, nat_tests)

pub opens_none : (d : Descriptor) (t : Seats) (sender : Address) (now : ℕ) (bytes : List ℕ) (a : Arrival) (new : Seats) → is_for_zero bytes ≡ false
    → Arrives d t sender now bytes a new → OpensNone a
opens_none d t sender now bytes arrivals.Short new e h = tt
opens_none d t sender now bytes arrivals.NoGreeting new e h = tt
opens_none d t sender now bytes arrivals.Unwelcome new e h = tt
opens_none d t sender now bytes (arrivals.Again seat) new e h = tt
opens_none d t sender now bytes (arrivals.Late seat) new e h = tt
opens_none d t sender now bytes arrivals.Unseated new e h = tt
opens_none d t sender now bytes (arrivals.Opened seat next) new e h = (h.other (other_number bytes e h.long)).does.1.does
opens_none d t sender now bytes arrivals.NoChannel new e h = tt
opens_none d t sender now bytes (arrivals.NoReply seat) new e h = tt
opens_none d t sender now bytes (arrivals.Cut seat) new e h = tt
opens_none d t sender now bytes (arrivals.Differs seat) new e h = tt
opens_none d t sender now bytes (arrivals.Given seat) new e h = tt
opens_none d t sender now bytes (arrivals.Replied seat) new e h = tt
opens_none d t sender now bytes (arrivals.Heard seat) new e h = tt

-- what is told is learned
by_row : (p : Parts) (bytes : List ℕ) (row own : RowState) (counts : Counts) (cut : Bool) (answer : Option Descriptor) (e : Descriptor) → row ≡ own
    → answer ≡ learned_in (reading (name_of p.name) cut (messages_from (name_of p.name) bytes 4).read row counts).ending
    → Tells (name_of p.name) e (messages_from (name_of p.name) bytes 4).read own → answer ≡ Some e
by_row p bytes row own counts cut answer e same is t = is ∙ tells_learned (name_of p.name) cut e (messages_from (name_of p.name) bytes 4).read row counts
    (subst (λ (r : RowState). Tells (name_of p.name) e (messages_from (name_of p.name) bytes 4).read r) (sym same) t)

tells_so : (a : Arrival) (bytes : List ℕ) (p : Parts) (table : Seats) (counts : Counts) (answer : Option Descriptor) (e : Descriptor)
    → length p.rows ≡ 64 → IsSeated a table → answer ≡ learned_from a bytes (record p { lives = table; counts = counts }) → TellsBy a bytes p e → answer ≡ Some e
tells_so arrivals.Short bytes p table counts answer e seats seated is t = absurd t
tells_so arrivals.NoGreeting bytes p table counts answer e seats seated is t = absurd t
tells_so arrivals.Unwelcome bytes p table counts answer e seats seated is t = absurd t
tells_so (arrivals.Again seat) bytes p table counts answer e seats seated is t = absurd t
tells_so (arrivals.Late seat) bytes p table counts answer e seats seated is t = absurd t
tells_so arrivals.Unseated bytes p table counts answer e seats seated is t = absurd t
tells_so (arrivals.Opened seat next) bytes p table counts answer e seats seated is t = absurd t
tells_so arrivals.NoChannel bytes p table counts answer e seats seated is t = absurd t
tells_so (arrivals.NoReply seat) bytes p table counts answer e seats seated is t = absurd t
tells_so (arrivals.Cut seat) bytes p table counts answer e seats seated is t = absurd t
tells_so (arrivals.Differs seat) bytes p table counts answer e seats seated is t = absurd t
tells_so (arrivals.Given seat) bytes p table counts answer e seats seated is t = absurd t
tells_so (arrivals.Replied seat) bytes p table counts answer e seats seated is t =
    by_row p bytes (row_at (slice_set p.rows seat begun) seat) begun counts _ answer e
    (get_or-set_same p.rows seat begun blank (omega (arith, seats, seated.0))) is t
tells_so (arrivals.Heard seat) bytes p table counts answer e seats seated is t =
    by_row p bytes (row_at p.rows seat) (row_at p.rows seat) (with_keepalive bytes (record p { lives = table; counts = counts })).counts _ answer e refl is t

-- the other way round, a learner whose channels and counts changed alone is told the same
tells_alike : (a : Arrival) (bytes : List ℕ) (p : Parts) (table : Seats) (counts : Counts) (e : Descriptor) → TellsBy a bytes (record p { lives = table; counts = counts }) e → TellsBy a bytes p e
tells_alike arrivals.Short bytes p table counts e t = t
tells_alike arrivals.NoGreeting bytes p table counts e t = t
tells_alike arrivals.Unwelcome bytes p table counts e t = t
tells_alike (arrivals.Again seat) bytes p table counts e t = t
tells_alike (arrivals.Late seat) bytes p table counts e t = t
tells_alike arrivals.Unseated bytes p table counts e t = t
tells_alike (arrivals.Opened seat next) bytes p table counts e t = t
tells_alike arrivals.NoChannel bytes p table counts e t = t
tells_alike (arrivals.NoReply seat) bytes p table counts e t = t
tells_alike (arrivals.Cut seat) bytes p table counts e t = t
tells_alike (arrivals.Differs seat) bytes p table counts e t = t
tells_alike (arrivals.Given seat) bytes p table counts e t = t
tells_alike (arrivals.Replied seat) bytes p table counts e t = t
tells_alike (arrivals.Heard seat) bytes p table counts e t = t

pub learned_so : (a : Arrival) (bytes : List ℕ) (p : Parts) (table : Seats) (counts : Counts) (answer : Option Descriptor)
    → length p.rows ≡ 64 → IsSeated a table → answer ≡ learned_from a bytes (record p { lives = table; counts = counts })
    → ((e : Descriptor) → answer ≡ Some e → TellsBy a bytes (record p { lives = table; counts = counts }) e)
    → (e : Descriptor) → (answer ≡ Some e) ↔ TellsBy a bytes p e
learned_so a bytes p table counts answer seats seated is tells e = (
  λ says. tells_alike a bytes p table counts e (tells e says),
  λ t. tells_so a bytes p table counts answer e seats seated is t,
)
