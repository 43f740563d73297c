-- An ACK that is cut to a content, all in flight being chunks of it.
use Rattle.std.proofs.Common.{◌≡◌, ℕ, ◌+◌, ◌-◌, ◌*◌, ◌<◌, ◌==◌, min, nat_le, Bool, true, false, cond, ◌&&◌, ◌||◌, Option, Some, None, List, [], ◌∷◌, ◌++◌, refl, sym, ◌∙◌, arith}
use Rattle.std.specs.List.{AllByRecursion}
use Rattle.std.proofs.lemmas.Bool.Decides.{nat_tests}
use Rattle.std.proofs.lemmas.List.Sums.{sum_by-cons}
use Rattle.pp_traffic.specs.declared.entries.Entry.{Entry}
use Rattle.pp_traffic.specs.Trips.{timed_by}
use Rattle.pp_traffic.specs.Delays.{sample_of, is_near, sampled, queuing}
use Rattle.pp_traffic.specs.Gain.{gained}
use Rattle.pp_traffic.specs.Meter.{Meter, covers, hits, oldest, overtakes, flying, loses, flight, half_of, is_rested, settled, acked, is_due, timed_out, ended}
use Rattle.pp_ledbat.specs.Laws.{CutsAcknowledgeAlike}

abbrev IsWithin : ℕ → List Entry → Type 0
IsWithin chunks entries = AllByRecursion (λ e. e.chunk < chunks) entries

covers_alike : (chunks first last : ℕ) (e : Entry) → e.chunk < chunks → covers first (min last (chunks - 1)) e ≡ covers first last e
covers_alike chunks first last e lt = grind (arith, nat_tests)

pub hits_alike : (chunks first last : ℕ) (entries : List Entry) → IsWithin chunks entries → hits first (min last (chunks - 1)) entries ≡ hits first last entries
hits_alike chunks first last [] within = refl
hits_alike chunks first last (e ∷ later) within =
    sum_by-cons (λ (x : Entry). cond {A = ℕ} (covers first (min last (chunks - 1)) x) 1 0) e later
    ∙ both (covers_alike chunks first last e within.0) (hits_alike chunks first last later within.1)
    ∙ sym (sum_by-cons (λ (x : Entry). cond {A = ℕ} (covers first last x) 1 0) e later)
  where
    both : {b c : Bool} {m n : ℕ} → b ≡ c → m ≡ n → cond b 1 0 + m ≡ cond c 1 0 + n
    both p q = cc

pub oldest_alike : (chunks first last : ℕ) (entries : List Entry) → IsWithin chunks entries → oldest first (min last (chunks - 1)) entries ≡ oldest first last entries
oldest_alike chunks first last [] within = refl
oldest_alike chunks first last (e ∷ later) within =
    rw (covers_alike chunks first last e within.0, oldest_alike chunks first last later within.1) refl

pub flying_alike : (chunks first last : ℕ) (entries : List Entry) → IsWithin chunks entries → flying first (min last (chunks - 1)) entries ≡ flying first last entries
flying_alike chunks first last [] within = refl
flying_alike chunks first last (e ∷ later) within =
    rw (covers_alike chunks first last e within.0, hits_alike chunks first last later within.1, flying_alike chunks first last later within.1) refl

pub loses_alike : (chunks first last : ℕ) (entries : List Entry) → IsWithin chunks entries → loses first (min last (chunks - 1)) entries ≡ loses first last entries
loses_alike chunks first last [] within = refl
loses_alike chunks first last (e ∷ later) within =
    rw (covers_alike chunks first last e within.0, hits_alike chunks first last later within.1, loses_alike chunks first last later within.1) refl

-- what flies on flew before
pub flying_within : (chunks first last : ℕ) (entries : List Entry) → IsWithin chunks entries → IsWithin chunks (flying first last entries)
flying_within chunks first last [] within = within
flying_within chunks first last (e ∷ later) within =
    elim (covers first last e || nat_le 3 (overtakes first last e later)) as
    (λ (b : Bool). IsWithin chunks (cond b (flying first last later) (record { chunk = e.chunk; overtaken = overtakes first last e later; sent_at = e.sent_at } ∷ flying first last later))) [
      | true ↦ flying_within chunks first last later within.1
      | false ↦ (within.0, flying_within chunks first last later within.1)
    ]

-- an acknowledgement by what it finds among the entries
acked_by : (count : ℕ) (old : Option ℕ) (left : List Entry) (lost : Bool) (delay now : ℕ) → Meter → Meter
acked_by count old left lost delay now m =
    let trips = timed_by now (cond (count == 1) old None) m.trips in
    let window = cond (is_near (sample_of m.delays.first delay)) (gained m.window (count * m.chunk) (queuing (sampled delay now m.delays)) m.chunk (flight m)) m.window in
    let halved = lost && is_rested now trips m.halved in
    cond (count == 0) m (record {
      chunk = m.chunk;
      window = cond halved (half_of m.chunk window) window;
      entries = left;
      delays = sampled delay now m.delays;
      trips = trips;
      halved = cond halved (Some now) m.halved;
      timer = now;
    })

acked_is : (first last delay now : ℕ) (m : Meter) → acked first last delay now m
    ≡ acked_by (hits first last m.entries) (oldest first last m.entries) (flying first last m.entries) (loses first last m.entries) delay now m
unfolding acked_by
acked_is first last delay now m = refl

pub acked_alike : (chunks first last delay now : ℕ) (m : Meter) → IsWithin chunks m.entries
    → acked first (min last (chunks - 1)) delay now m ≡ acked first last delay now m
acked_alike chunks first last delay now m within =
    let a = hits_alike chunks first last m.entries within in
    let b = oldest_alike chunks first last m.entries within in
    let c = flying_alike chunks first last m.entries within in
    let d = loses_alike chunks first last m.entries within in
    let e = acked_is first (min last (chunks - 1)) delay now m in
    let f = acked_is first last delay now m in
    cc

pub acked_within : (chunks first last delay now : ℕ) (m : Meter) → IsWithin chunks m.entries → IsWithin chunks (acked first last delay now m).entries
acked_within chunks first last delay now m within =
    elim (hits first last m.entries == 0) as (λ (b : Bool). IsWithin chunks (cond b m (settled first last delay now m)).entries) [
      | true ↦ within
      | false ↦ flying_within chunks first last m.entries within
    ]

pub one_more_within : (chunks : ℕ) (e : Entry) (entries : List Entry) → e.chunk < chunks → IsWithin chunks entries → IsWithin chunks (entries ++ e ∷ [])
one_more_within chunks e [] lt within = (lt, tt)
one_more_within chunks e (x ∷ later) lt within = (within.0, one_more_within chunks e later lt within.1)

ended_within : (chunks now : ℕ) (m : Meter) → IsWithin chunks m.entries → IsWithin chunks (ended now m).entries
ended_within chunks now m within = elim (is_due now m) as (λ (b : Bool). IsWithin chunks (cond b (timed_out now m) m).entries) [
  | true ↦ tt
  | false ↦ within
]

pub cuts_acknowledge_alike : CutsAcknowledgeAlike
cuts_acknowledge_alike = record {
  same = acked_alike;
  hears = acked_within;
  sends = λ chunks i now m lt within. one_more_within chunks (record { chunk = i; overtaken = 0; sent_at = now }) m.entries lt within;
  waits = ended_within;
}
