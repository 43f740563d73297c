-- What an act does to a window, by what it remembers and what flies of a row.
use Rattle.std.proofs.Common.{◌≡◌, ℕ, ◌+◌, ◌-◌, ltb, Bool, false, List, [], ◌∷◌, ◌++◌, length, drop, refl, sym, ◌∙◌, ap}
use Rattle.std.proofs.lemmas.Bool.{ne_eqb}
use Rattle.pp_terms.specs.format.Descriptor.{Descriptor}
use Rattle.pp_traffic.specs.Life.{Life}
use Rattle.pp_traffic.specs.declared.entries.Entry as flown
use Rattle.pp_traffic.specs.Meter.{Meter, sent, hits, oldest, flying, loses, acked, is_due, ended}
use Rattle.pp_traffic.proofs.Fresh.{all_stay}
use Rattle.pp_recorded.specs.declared.entry.Entry.{Entry}
use Rattle.pp_recorded.specs.declared.acts.Act.{Act}
use Rattle.pp_recorded.specs.declared.acts.Act.TheVariants.{Sends, Acks, Waits, Other}
use Rattle.pp_recorded.specs.declared.flying.Row.{Row}
use Rattle.pp_recorded.specs.declared.flying.Flown.{Flown}
use Rattle.pp_recorded.specs.Acts.{ahead}
use Rattle.pp_recorded.specs.Flying.{acts_in, flight_of, flight_in, is_flying}
use Rattle.pp_recorded.specs.Gauges.{with_flight, metered, departed, answered}
use Rattle.pp_recorded.proofs.Flights.{flight_sent, flight_acked, flight_waited, flight_other, flight_fresh, loses_counted}
use Rattle.pp_recorded.proofs.Rows as rows

-- a row with the act behind it, and what comes then
pub record IsLonger (d : Descriptor) (life : Life) (xs : List Entry) (row more : Row) (act : Act) (later : List Act) : Type 0 where
  pub acts : acts_in d life xs more ≡ acts_in d life xs row ++ act ∷ []
  pub behind : drop more.count (ahead d life xs more.from) ≡ later

pub is_longer : (d : Descriptor) (life : Life) (xs : List Entry) (row more : Row) (act : Act) (later : List Act)
    → drop row.count (ahead d life xs row.from) ≡ act ∷ later → more.from ≡ row.from → more.count ≡ row.count + 1 → IsLonger d life xs row more act later
is_longer d life xs row more act later e from count =
    let longer = rows.one_more row.count (ahead d life xs row.from) later act e in
    record { acts = rw (from, count) longer.taken; behind = rw (from, count) longer.behind }

pub sends : (d : Descriptor) (life : Life) (xs : List Entry) (row more : Row) (later : List Act) (m new : Meter) (flies : Bool) (chunk now : ℕ)
    → IsLonger d life xs row more (Sends chunk now) later → flies ≡ is_flying (flight_in d life xs row) → new ≡ departed flies now m
    → metered d life xs more new ≡ sent chunk now (metered d life xs row m)
sends d life xs row more later m new flies chunk now longer flies_is new_is =
    ap (λ (x : Meter). metered d life xs more x) new_is
    ∙ ap (λ (b : Bool). metered d life xs more (departed b now m)) flies_is
    ∙ ap (λ (acts : List Act). with_flight (departed (is_flying (flight_in d life xs row)) now m) (flight_of acts)) longer.acts
    ∙ ap (λ (es : List flown.Entry). with_flight (departed (is_flying (flight_in d life xs row)) now m) es) (flight_sent (acts_in d life xs row) chunk now)

pub flies_on : (d : Descriptor) (life : Life) (xs : List Entry) (row more : Row) (later : List Act) (first last delay now : ℕ)
    → IsLonger d life xs row more (Acks first last delay now) later → flight_in d life xs more ≡ flying first last (flight_in d life xs row)
flies_on d life xs row more later first last delay now longer =
    ap (λ (acts : List Act). flight_of acts) longer.acts ∙ flight_acked (acts_in d life xs row) first last delay now

-- an ACK of nothing that flies does nothing
pub ignores : (d : Descriptor) (life : Life) (xs : List Entry) (row more : Row) (later : List Act) (m : Meter) (first last delay now : ℕ)
    → IsLonger d life xs row more (Acks first last delay now) later → hits first last (flight_in d life xs row) ≡ 0
    → metered d life xs more m ≡ acked first last delay now (metered d life xs row m)
ignores d life xs row more later m first last delay now longer none =
    ap (λ (es : List flown.Entry). with_flight m es)
    (flies_on d life xs row more later first last delay now longer
    ∙ (all_stay first last (flight_in d life xs row) (flight_fresh (acts_in d life xs row)) none).0)
    ∙ rw none refl

-- what was counted before an ACK, and the number of those that fly on
pub record AreCounted (first last : ℕ) (entries : List flown.Entry) (before : Flown) (after : ℕ) : Type 0 where
  pub total : before.total ≡ length entries
  pub hits : before.hits ≡ hits first last entries
  pub sent : before.sent_at ≡ oldest first last entries
  pub left : after ≡ length (flying first last entries)

answered_by : (m : Meter) (entries : List flown.Entry) (before : Flown) (after first last delay now : ℕ) → AreCounted first last entries before after
    → answered before.total before.hits before.sent_at (ltb after (before.total - before.hits)) delay now m
    ≡ answered (length entries) (hits first last entries) (oldest first last entries) (loses first last entries) delay now m
answered_by m entries before after first last delay now is =
    rw (is.total, is.hits, is.sent, is.left) (sym (ap (λ (b : Bool). answered (length entries) (hits first last entries) (oldest first last entries) b delay now m) (loses_counted first last entries)))

settled_by : (m : Meter) (entries : List flown.Entry) (first last delay now : ℕ) → (hits first last entries ≡ 0 → ⊥)
    → with_flight (answered (length entries) (hits first last entries) (oldest first last entries) (loses first last entries) delay now m) (flying first last entries)
    ≡ acked first last delay now (with_flight m entries)
settled_by m entries first last delay now some = rw (ne_eqb (hits first last entries) 0 some) refl

pub answers : (d : Descriptor) (life : Life) (xs : List Entry) (row more short : Row) (later : List Act) (m new : Meter) (before : Flown) (after first last delay now : ℕ)
    → IsLonger d life xs row more (Acks first last delay now) later → flight_in d life xs short ≡ flight_in d life xs more
    → AreCounted first last (flight_in d life xs row) before after → (before.hits ≡ 0 → ⊥)
    → new ≡ answered before.total before.hits before.sent_at (ltb after (before.total - before.hits)) delay now m
    → metered d life xs short new ≡ acked first last delay now (metered d life xs row m)
answers d life xs row more short later m new before after first last delay now longer same counted some new_is =
    let entries = flight_in d life xs row in
    ap (λ (x : Meter). metered d life xs short x) (new_is ∙ answered_by m entries before after first last delay now counted)
    ∙ ap (λ (es : List flown.Entry). with_flight (answered (length entries) (hits first last entries) (oldest first last entries) (loses first last entries) delay now m) es)
    (same ∙ flies_on d life xs row more later first last delay now longer)
    ∙ settled_by m entries first last delay now (λ none. some (counted.hits ∙ none))

pub waits : (d : Descriptor) (life : Life) (xs : List Entry) (row more : Row) (later : List Act) (m : Meter) (now : ℕ)
    → IsLonger d life xs row more (Waits now) later → is_due now (metered d life xs row m) ≡ false
    → metered d life xs more m ≡ ended now (metered d life xs row m)
waits d life xs row more later m now longer early =
    ap (λ (es : List flown.Entry). with_flight m es) (ap (λ (acts : List Act). flight_of acts) longer.acts ∙ flight_waited (acts_in d life xs row) now)
    ∙ rw early refl

pub passes_by : (d : Descriptor) (life : Life) (xs : List Entry) (row more : Row) (later : List Act) (m : Meter)
    → IsLonger d life xs row more Other later → metered d life xs more m ≡ metered d life xs row m
passes_by d life xs row more later m longer =
    ap (λ (es : List flown.Entry). with_flight m es) (ap (λ (acts : List Act). flight_of acts) longer.acts ∙ flight_other (acts_in d life xs row))
