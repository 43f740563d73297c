-- Where this peer dialled, its first handshake was sent: what keeps it so.
use Rattle.std.proofs.Common.{◌≡◌, ⊎_elim, ℕ, eqb, true, Some, sym, ◌∙◌, ap}
use Rattle.std.proofs.lemmas.Bool.{cases_Bool, eqb-true, eqb-false}
use Rattle.std.proofs.lemmas.Option.{same_Some}
use Rattle.pp_channels.specs.declared.channel.Channel.{Channel}
use Rattle.pp_lives.specs.Reading.{is_waiting}
use Rattle.pp_channels.specs.Seats.{Seats, channel_at, is_begun}
use Rattle.pp_lives.specs.Calls.{Changes, Drops}
use Rattle.pp_lives.specs.Standing.{AllBegun}
use Rattle.pp_lives.proofs.Closing.{before_drop}

pub begun_changed : (t new : Seats) (seat : ℕ) (c' : Channel) → Changes t new seat (Some c') → (is_waiting c' ≡ true → is_begun c'.opening ≡ true) → AllBegun t → AllBegun new
begun_changed t new seat c' ch own all other e also waits = ⊎_elim
    (λ same. let e_is = same_Some c' e (sym ch.there ∙ ap (channel_at new) (sym (eqb-true other seat same)) ∙ also) in
    ap (λ (x : Channel). is_begun x.opening) (sym e_is) ∙ own (ap is_waiting e_is ∙ waits))
    (λ apart. all other e (sym (ch.others other (eqb-false other seat apart)) ∙ also) waits)
    (cases_Bool (eqb other seat))

pub begun_dropped : (t new : Seats) (seat : ℕ) (c : Channel) → Drops t new seat c → AllBegun t → AllBegun new
begun_dropped t new seat c drops all other e also waits =
    let b = before_drop t new seat c drops other e also in
    ap (λ (x : Channel). is_begun x.opening) b.1.2 ∙ all other b.1.0 b.1.1 (ap is_waiting (sym b.1.2) ∙ waits)
