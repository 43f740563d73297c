-- What flies was overtaken by fewer than three.
use Rattle.std.proofs.Common.{◌≡◌, ℕ, ◌+◌, ◌<◌, ◌==◌, leb, Bool, true, false, cond, ◌||◌, List, [], ◌∷◌, ◌++◌, refl, sym, ◌∙◌, ap, arith}
use Rattle.std.proofs.lemmas.Bool.{leb-false, lt-leb, or_parts}
use Rattle.std.specs.List.{AllByRecursion}
use Rattle.std.proofs.lemmas.List.Sums.{sum_by-cons}
use Rattle.pp_terms.specs.format.Messages.{Message, Data, Ack}
use Rattle.pp_traffic.specs.declared.entries.Entry.{Entry}
use Rattle.pp_traffic.specs.Story.{Line, Heard, Said, Taken}
use Rattle.pp_traffic.specs.Meter.{Meter, covers, hits, overtakes, flying, loses, settled, is_due, timed_out, heard_by, said_by, meter}

abbrev pub AreFresh : List Entry → Type 0
AreFresh entries = AllByRecursion (λ e. e.overtaken < 3) entries

either_flies : (b : Bool) (first last : ℕ) (e : Entry) (later rest : List Entry) → (covers first last e || leb 3 (overtakes first last e later)) ≡ b → AreFresh rest
    → AreFresh (cond b rest (record { chunk = e.chunk; overtaken = overtakes first last e later; sent_at = e.sent_at } ∷ rest))
either_flies true first last e later rest is all = all
either_flies false first last e later rest is all =
    (let less = leb-false 3 (overtakes first last e later) (or_parts (covers first last e) (leb 3 (overtakes first last e later)) is).1 in omega (arith, less), all)

pub flying_fresh : (first last : ℕ) (entries : List Entry) → AreFresh (flying first last entries)
flying_fresh first last [] = tt
flying_fresh first last (e ∷ later) =
    either_flies (covers first last e || leb 3 (overtakes first last e later)) first last e later (flying first last later) refl (flying_fresh first last later)

sent_fresh : (chunk now : ℕ) (entries : List Entry) → AreFresh entries → AreFresh (entries ++ record { chunk = chunk; overtaken = 0; sent_at = now } ∷ [])
sent_fresh chunk now [] all = (omega arith, tt)
sent_fresh chunk now (e ∷ entries) all = (all.0, sent_fresh chunk now entries all.1)

either_fresh : (b : Bool) (m n : Meter) → AreFresh m.entries → AreFresh n.entries → AreFresh (cond b m n).entries
either_fresh true m n p q = p
either_fresh false m n p q = q

heard_fresh : (now : ℕ) (message : Message) (m : Meter) → AreFresh m.entries → AreFresh (heard_by now message m).entries
heard_fresh now (Ack span delay) m is =
    either_fresh (hits span.first span.last m.entries == 0) m (settled span.first span.last delay now m) is (flying_fresh span.first span.last m.entries)
heard_fresh now _ m is = is

said_fresh : (now : ℕ) (message : Message) (m : Meter) → AreFresh m.entries → AreFresh (said_by now message m).entries
said_fresh now (Data i sent_at bytes) m is = sent_fresh i now m.entries is
said_fresh now _ m is = is

pub meter_fresh : (chunk : ℕ) (story : List Line) → AreFresh (meter chunk story).entries
meter_fresh chunk [] = tt
meter_fresh chunk (Heard now message ∷ before) = heard_fresh now message (meter chunk before) (meter_fresh chunk before)
meter_fresh chunk (Said now message ∷ before) = said_fresh now message (meter chunk before) (meter_fresh chunk before)
meter_fresh chunk (Taken now ∷ before) =
    either_fresh (is_due now (meter chunk before)) (timed_out now (meter chunk before)) (meter chunk before) tt (meter_fresh chunk before)

-- none of them acknowledged
pub hits_parts : (first last : ℕ) (e : Entry) (later : List Entry) → hits first last (e ∷ later) ≡ 0 → (covers first last e ≡ false) × (hits first last later ≡ 0)
hits_parts first last e later none = parts (covers first last e) (hits first last later) (sym (sum_by-cons (λ x. cond (covers first last x) 1 0) e later) ∙ none)
  where
    parts : (b : Bool) (n : ℕ) → cond b 1 0 + n ≡ 0 → (b ≡ false) × (n ≡ 0)
    parts true n is = absurd (omega (arith, is))
    parts false n is = (refl, omega (arith, is))

same_entry : (first last : ℕ) (e : Entry) (later : List Entry) → hits first last later ≡ 0
    → record { chunk = e.chunk; overtaken = overtakes first last e later; sent_at = e.sent_at } ≡ e
same_entry first last e later none = ap (λ (n : ℕ). record { chunk = e.chunk; overtaken = n; sent_at = e.sent_at }) (let is : overtakes first last e later ≡ e.overtaken = omega (arith, none) in is)

pub all_stay : (first last : ℕ) (entries : List Entry) → AreFresh entries → hits first last entries ≡ 0 → (flying first last entries ≡ entries) × (loses first last entries ≡ false)
all_stay first last [] all none = (refl, refl)
all_stay first last (e ∷ later) all none =
    let parts = hits_parts first last e later none in
    let rest = all_stay first last later all.1 parts.1 in
    let few : leb 3 (overtakes first last e later) ≡ false = lt-leb 3 (overtakes first last e later) (omega (arith, all.0, parts.1)) in
    (rw (parts.0, few, rest.0) (ap (λ (x : Entry). x ∷ later) (same_entry first last e later parts.1)), rw (parts.0, few, rest.1) refl)
