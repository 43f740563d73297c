-- Steps of a player.
use Rattle.std.proofs.Common.{◌≡◌, inr, ⊎_elim, ℕ, ◌+◌, ◌-◌, ◌<◌, ◌≤◌, Bool, true, false, ◌||◌, List, [], ◌++◌, length, take, Result, Ok, Err, refl, sym, ◌∙◌, ap, subst, arith, append_assoc}
use Rattle.std.specs.Prelude.{slice_index_or}
use Rattle.std.proofs.lemmas.Bool.{cases_lt, cases_Bool}
use Rattle.std.proofs.lemmas.List.{append-nil}
use Rattle.pp_terms.specs.tree.Content.{chunk_length}
use Rattle.pp_terms.specs.Count.{HasRisen}
use Rattle.pp_terms.specs.format.Descriptor.{IsDescriptor, chunks_of}
use Rattle.pp_terms.specs.command.Stream.{SinkState, Gains}
use Rattle.pp_scan.specs.Look.{KeepsAll}
use Rattle.pp_scan.proofs.Reading.{keeps_same, keeps_more}
use Rattle.pp_store.specs.Store.{StoreState, is_committed, is_held}
use Rattle.pp_store.specs.ReadChunk.{IsRightChunk, IsDamaged, HasRead}
use Rattle.pp_store.specs.declared.reading.ReadFault.{ReadFault}
use Rattle.pp_store.specs.declared.reading.ReadFault.TheVariants as reads
use Rattle.pp_tree.specs.Book.{entry}
use Rattle.pp_holding.specs.Holding.{HoldingState, AreTied}
use Rattle.pp_stream.specs.declared.player.PlayFault.{PlayFault}
use Rattle.pp_stream.specs.declared.player.PlayFault.TheVariants.{Disk, Sink, Damaged}
use Rattle.pp_stream.specs.Player.{PlayerState, Feed}
use Rattle.pp_stream.specs.Pieces.{GainsPart}
use Rattle.pp_stream.specs.Chunks.{IsChunk, AreNext}
use Rattle.pp_stream.specs.Steps.{PutsNext, PutsPart, HasNext, StopsAt, KeepsRest, TakesStep, PutsChunk, PutsOne, unread_as}
use Rattle.pp_stream.proofs.Written.{gains-nil, gains_more}
use Rattle.pp_stream.proofs.Chunks.{next_map, next_none, next_one, next_more, chunk_before, damaged_before, chunk_read, chunk_damaged}

-- ---- what stays

pub rest_same : (s : Feed) → s.player.base ≤ s.player.chunks → KeepsRest s s
rest_same s within = record { player = refl; within = within; looks = keeps_same s.disk; hard = refl; later = omega arith }

pub rest_more : (old mid new : Feed) → KeepsRest old mid → KeepsRest mid new → KeepsRest old new
rest_more old mid new one two = record {
  player = two.player ∙ ap (λ (q : PlayerState). record q { base = new.player.base }) one.player;
  within = two.within;
  looks = keeps_more old.disk mid.disk new.disk one.looks two.looks;
  hard = two.hard ∙ one.hard;
  later = omega (arith, one.later, two.later);
}

-- ---- one step behind another

pub puts_none : (s : HoldingState) (old new : Feed) → old.player.base ≤ chunks_of s.store.descriptor → new.player ≡ old.player → new.sink.taken ≡ old.sink.taken
    → PutsNext s old new []
puts_none s old new within same silent =
    let base : new.player.base ≡ old.player.base = ap (λ (q : PlayerState). q.base) same in
    let none : 0 ≡ new.player.base - old.player.base = omega (arith, base) in
    record {
      forward = omega (arith, base);
      bytes = [];
      chunks = subst (λ (n : ℕ). AreNext s.store.descriptor (IsChunk s old.disk) old.player.base n []) none
          (next_none s.store.descriptor (IsChunk s old.disk) old.player.base within);
      committed = λ i low high. absurd (omega (arith, base, low, high));
      gained = subst (Gains old.sink.taken []) (sym silent) (gains-nil old.sink.taken);
    }

module _ (s : HoldingState) (old mid new : Feed) (valid : IsDescriptor s.store.descriptor) (put : PutsNext s old mid []) (rest : KeepsRest old mid) where
  pub puts_more : (more : List ℕ) → PutsNext s mid new more → PutsNext s old new more
  puts_more more next =
      let d = s.store.descriptor in
      let far : ℕ = mid.player.base - old.player.base in
      let at : mid.player.base ≡ old.player.base + far = omega (arith, put.forward) in
      let count : far + (new.player.base - mid.player.base) ≡ new.player.base - old.player.base = omega (arith, put.forward, next.forward) in
      let seen = next_map d (IsChunk s mid.disk) (IsChunk s old.disk) (chunk_before s old.disk mid.disk rest.looks)
      mid.player.base (new.player.base - mid.player.base) next.bytes next.chunks in
      let both = next_more d (IsChunk s old.disk) old.player.base far (new.player.base - mid.player.base) put.bytes next.bytes valid put.chunks
      (subst (λ (n : ℕ). AreNext d (IsChunk s old.disk) n (new.player.base - mid.player.base) next.bytes) at seen) in
      record {
        forward = omega (arith, put.forward, next.forward);
        bytes = put.bytes ++ next.bytes;
        chunks = subst (λ (n : ℕ). AreNext d (IsChunk s old.disk) old.player.base n (put.bytes ++ next.bytes)) count both;
        committed = λ i low high. ⊎_elim (λ lt. put.committed i low lt) (λ le. next.committed i le high) (cases_lt i mid.player.base);
        gained = subst (λ (b : List ℕ). Gains old.sink.taken b new.sink.taken) (sym (append_assoc put.bytes next.bytes more))
            (gains_more old.sink.taken mid.sink.taken new.sink.taken put.bytes (next.bytes ++ more)
            (subst (λ (b : List ℕ). Gains old.sink.taken b mid.sink.taken) (append-nil put.bytes) put.gained) next.gained);
      }

  part_more : PutsPart s mid new → PutsPart s old new
  part_more part = record {
    piece = part.piece;
    chunk = chunk_before s old.disk mid.disk rest.looks new.player.base part.piece part.chunk;
    count = part.count;
    short = part.short;
    put = puts_more (take part.count part.piece) part.put;
  }

  pub stops_later : (result : Result (Unit {0}) PlayFault) → StopsAt s mid new result → StopsAt s old new result
  stops_later (Ok u) is = (puts_more [] is.0, is.1)
  stops_later (Err Disk) is = (puts_more [] is.0, is.1, λ below. let r : mid.disk.faults < new.disk.faults = is.2 below in omega (arith, r, rest.looks.faults))
  stops_later (Err Sink) is = (part_more is.0, is.1, λ below. let r : mid.sink.faults < new.sink.faults = is.2 below in omega (arith, r, rest.later))
  stops_later (Err (Damaged chunk found kept)) is = (puts_more [] is.0, is.1, is.2, damaged_before s old.disk mid.disk rest.looks chunk found kept is.3)

-- ---- the chunk at the base

held_at : (s : StoreState) (i : ℕ) → is_committed s i ≡ true → is_held s i ≡ true
held_at s i is = ap (λ (b : Bool). b || slice_index_or s.pending i false) is

module _ (s : HoldingState) (old new : Feed) (valid : IsDescriptor s.store.descriptor) (tied : AreTied s) (of : old.player.chunks ≡ chunks_of s.store.descriptor)
    (within : old.player.base < old.player.chunks) (looks : KeepsAll old.disk new.disk) (hard : new.disk.hard ≡ old.disk.hard) (later : old.sink.faults ≤ new.sink.faults) where
  inside : old.player.base < chunks_of s.store.descriptor
  inside = omega (arith, of, within)

  -- nothing is written, and the player stays
  module _ (same : new.player ≡ old.player) where
    base_same : new.player.base ≡ old.player.base
    base_same = ap (λ (q : PlayerState). q.base) same

    rest_still : KeepsRest old new
    rest_still = record {
      player = same ∙ ap (λ (n : ℕ). record old.player { base = n }) (sym base_same);
      within = (let few : new.player.chunks ≡ old.player.chunks = ap (λ (q : PlayerState). q.chunks) same in omega (arith, base_same, few, within));
      looks = looks;
      hard = hard;
      later = later;
    }

    next_still : (is_committed s.store old.player.base ≡ false → ⊥) → HasNext s new.player
    next_still never = record {
      within = (let few : new.player.chunks ≡ old.player.chunks = ap (λ (q : PlayerState). q.chunks) same in omega (arith, base_same, few, within));
      committed = ⊎_elim (λ is. ap (λ (q : PlayerState). is_committed s.store q.base) same ∙ is) (λ not. absurd (never not)) (cases_Bool (is_committed s.store old.player.base));
    }

    pub one_absent : new.sink ≡ old.sink → is_committed s.store old.player.base ≡ false → PutsOne s old new (Ok false)
    one_absent silent absent = record {
      puts = (puts_none s old new (omega (arith, inside)) same (ap (λ (k : SinkState). k.taken) silent), inr (ap (λ (q : PlayerState). is_committed s.store q.base) same ∙ absent));
      rest = rest_still;
    }

    pub one_unread : new.sink ≡ old.sink → (is_committed s.store old.player.base ≡ false → ⊥) → HasRisen old.disk.faults new.disk.faults → PutsOne s old new (Err Disk)
    one_unread silent never risen = record {
      puts = (puts_none s old new (omega (arith, inside)) same (ap (λ (k : SinkState). k.taken) silent), next_still never, risen);
      rest = rest_still;
    }

    pub one_damaged : (out found kept : List ℕ) → new.sink ≡ old.sink → (is_committed s.store old.player.base ≡ false → ⊥)
        → chunk_length s.store.descriptor.size s.store.descriptor.chunk old.player.base ≤ length out
        → IsDamaged s.store.descriptor old.player.base (entry s.book) old.disk out found kept → PutsOne s old new (Err (Damaged old.player.base found kept))
    one_damaged out found kept silent never room is =
        let next = next_still never in
        let held : is_held s.store old.player.base ≡ true = held_at s.store old.player.base (sym (ap (λ (q : PlayerState). is_committed s.store q.base) same) ∙ next.committed) in record {
          puts = (
            puts_none s old new (omega (arith, inside)) same (ap (λ (k : SinkState). k.taken) silent),
            next,
            sym base_same,
            chunk_damaged s old.disk old.player.base out tied valid inside room found kept held is,
          );
          rest = rest_still;
        }

    pub one_refused : (out : List ℕ) (count : ℕ) → (is_committed s.store old.player.base ≡ false → ⊥)
        → chunk_length s.store.descriptor.size s.store.descriptor.chunk old.player.base ≤ length out
        → IsRightChunk s.store.descriptor old.player.base (entry s.book) old.disk out count → GainsPart (take count out) old.sink new.sink
        → HasRisen old.sink.faults new.sink.faults → PutsOne s old new (Err Sink)
    one_refused out count never room is part risen = record {
      puts = (
        record {
          piece = take count out;
          chunk = subst (λ (n : ℕ). IsChunk s old.disk n (take count out)) (sym base_same) (chunk_read s old.disk old.player.base out tied valid inside room count is);
          count = part.count;
          short = part.short;
          put = record {
            forward = omega (arith, base_same);
            bytes = [];
            chunks = (let none : 0 ≡ new.player.base - old.player.base = omega (arith, base_same) in
                subst (λ (n : ℕ). AreNext s.store.descriptor (IsChunk s old.disk) old.player.base n []) none
                (next_none s.store.descriptor (IsChunk s old.disk) old.player.base (omega (arith, inside))));
            committed = λ i low high. absurd (omega (arith, base_same, low, high));
            gained = part.gained;
          };
        },
        next_still never,
        risen,
      );
      rest = rest_still;
    }

  pub one_put : (out : List ℕ) (count : ℕ) → new.player ≡ record old.player { base = old.player.base + 1 } → (is_committed s.store old.player.base ≡ false → ⊥)
      → chunk_length s.store.descriptor.size s.store.descriptor.chunk old.player.base ≤ length out
      → IsRightChunk s.store.descriptor old.player.base (entry s.book) old.disk out count → Gains old.sink.taken (take count out) new.sink.taken → PutsOne s old new (Ok true)
  one_put out count moved never room is gained =
      let base : new.player.base ≡ old.player.base + 1 = ap (λ (q : PlayerState). q.base) moved in
      let few : new.player.chunks ≡ old.player.chunks = ap (λ (q : PlayerState). q.chunks) moved in
      let chunk = chunk_read s old.disk old.player.base out tied valid inside room count is in
      let one : 1 ≡ new.player.base - old.player.base = omega (arith, base) in
      record {
        puts = (
          record {
            forward = omega (arith, base);
            bytes = take count out;
            chunks = subst (λ (n : ℕ). AreNext s.store.descriptor (IsChunk s old.disk) old.player.base n (take count out)) one
                (next_one s.store.descriptor (IsChunk s old.disk) old.player.base (take count out) inside chunk.backed.whole chunk);
            committed = λ i low high.
                let here : i ≡ old.player.base = omega (arith, base, low, high) in
                ⊎_elim (λ yes. ap (λ (n : ℕ). is_committed s.store n) here ∙ yes) (λ not. absurd (never not)) (cases_Bool (is_committed s.store old.player.base));
            gained = subst (λ (b : List ℕ). Gains old.sink.taken b new.sink.taken) (sym (append-nil (take count out))) gained;
          },
          base,
        );
        rest = record {
          player = moved ∙ ap (λ (n : ℕ). record old.player { base = n }) (sym base);
          within = omega (arith, base, few, within);
          looks = looks;
          hard = hard;
          later = later;
        };
      }

  -- nothing was read of it
  pub one_left : (fault : ReadFault) (out : List ℕ) (absent : Type 0) → new.player ≡ old.player → new.sink ≡ old.sink
      → (fault ≡ reads.Absent → is_committed s.store old.player.base ≡ false) → (is_committed s.store old.player.base ≡ false → fault ≡ reads.Absent)
      → chunk_length s.store.descriptor.size s.store.descriptor.chunk old.player.base ≤ length out
      → HasRead absent s.store.descriptor old.player.base (entry s.book) old.disk new.disk out (Err fault) → PutsOne s old new (unread_as old.player.base fault)
  one_left reads.Absent out absent same silent none only room is = one_absent same silent (none refl)
  one_left reads.Disk out absent same silent none only room is = one_unread same silent (λ not. let e = only not in absurd cc) is
  one_left (reads.Damaged found kept) out absent same silent none only room is = one_damaged same out found kept silent (λ not. let e = only not in absurd cc) room is

-- ---- the loop

-- a step that was taken so far, and what comes of the next chunk
module _ (s : HoldingState) (old mid new : Feed) (valid : IsDescriptor s.store.descriptor) (put : PutsNext s old mid []) (rest : KeepsRest old mid) where
  pub taken_more : (done : Bool) → PutsOne s mid new (Ok done) → done ≡ true → PutsNext s old new [] × KeepsRest old new
  taken_more done one is =
      let puts = subst (λ (d : Bool). PutsChunk s mid new (Ok d)) is one.puts in
      (puts_more s old mid new valid put rest [] puts.0, rest_more old mid new rest one.rest)

  pub taken_off : (done : Bool) → PutsOne s mid new (Ok done) → done ≡ false → TakesStep s old new (Ok tt)
  taken_off done one is = record {
    stops = stops_later s old mid new valid put rest (Ok tt) (subst (λ (d : Bool). PutsChunk s mid new (Ok d)) is one.puts);
    rest = rest_more old mid new rest one.rest;
  }

  pub taken_stopped : (fault : PlayFault) → PutsOne s mid new (Err fault) → TakesStep s old new (Err fault)
  taken_stopped fault one = record {
    stops = stops_later s old mid new valid put rest (Err fault) one.puts;
    rest = rest_more old mid new rest one.rest;
  }
