-- What comes and fits stays in the batch, and is held.
use Rattle.std.proofs.Common.{◌≡◌, ⊎_elim, ℕ, ◌<◌, ◌==◌, eqb, Bool, true, false, cond, ◌||◌, Some, List, [], ◌∷◌, length, refl, sym, ◌∙◌, ap, subst, arith}
use Rattle.std.specs.Prelude.{slice_get, slice_index_or, nat_lt}
use Rattle.std.proofs.Math.Bool.{or-false}
use Rattle.std.proofs.lemmas.Bool.{cases_Bool, or_cases, or_left, or_right, eq-eqb, ltb-true, ltb-false}
use Rattle.std.proofs.lemmas.List.FromFn.{length-map-range_with_len, get_or-map-range_with_len}
use Rattle.sha2.specs.Sha256.{sha256}
use Rattle.pp_terms.specs.format.Descriptor.{Descriptor, chunks_of, height_of}
use Rattle.pp_terms.specs.format.Messages.{Message, Data}
use Rattle.pp_terms.specs.tree.Book.{LookUp}
use Rattle.pp_terms.specs.tree.Claims.{Claim, latest}
use Rattle.pp_terms.specs.tree.Content.{chunk_length}
use Rattle.pp_terms.specs.tree.Proves.{first_absent}
use Rattle.pp_tree.specs.Book.{entry}
use Rattle.pp_tree.specs.declared.node.Node.{Node}
use Rattle.pp_paths.specs.declared.judging.Verdict.{Verdict}
use Rattle.pp_paths.specs.declared.judging.Verdict.TheVariants as verdicts
use Rattle.pp_paths.specs.declared.settling.Settled as settling
use Rattle.pp_paths.specs.Climb.{climb}
use Rattle.pp_paths.specs.Ends.{end_of}
use Rattle.pp_paths.specs.Judge.{judged, missing_or, verdict_of}
use Rattle.pp_paths.specs.Settle.{settled, climb_of_peaks}
use Rattle.pp_promises.specs.Batches.{Batch, is_in, is_full, is_pending, is_due, committed_with, after_commit, after_put, after_puts}
use Rattle.pp_outside.specs.declared.link.Event.{Event}
use Rattle.pp_store.specs.declared.admitting.Put.{Put}
use Rattle.pp_store.specs.declared.admitting.Put.TheVariants.{Stored, Held, Missing, Wrong, Length}
use Rattle.pp_store.specs.Answer.{peaked, by_peaks, by_verdict, put_answer}
use Rattle.pp_store.specs.Store.{StoreState, is_held}
use Rattle.pp_holding.specs.Holding.{HoldingState, batch_of, HasWaiting}
use Rattle.pp_holding.specs.Answers.{answer_to, stored_by}
use Rattle.pp_holding.specs.declared.queue.Ticket.{Ticket}
use Rattle.pp_holding.proofs.Waitings.{is_in-batch}
use Rattle.pp_seat.specs.Seats.{SeatState}
use Rattle.pp_peer.specs.declared.parts.Parts.{Parts}
use Rattle.pp_peer.specs.Absorbing.{is_quiet}
use Rattle.pp_peer.specs.Messages.{is_proven_in, claims_in, Puts, EndsWait, TakesData, TakesOther, Does, InTurn, ticket_of}
use Rattle.pp_peer.specs.Events.{Absorbs}
use Rattle.pp_core.specs.Storing.{IsJudgedFit, Fits, HoldsIfFit, HoldsFitting, StoresWhatFits}
use Rattle.pp_core.proofs.Paths.{on_path, seat_after, heeded_beside, data_or_other}

-- ---- the batch

-- The chunk is one of the content's, and is committed or pending.
record IsIn (b : Batch) (i : ℕ) : Type 0 where
  within : i < length b.committed
  is : is_in b i ≡ true

committed_in : (b : Batch) (i : ℕ) → IsIn b i → IsIn (after_commit b) i
committed_in b i in_b = record {
  within = (let size = length-map-range_with_len (is_in b) 0 (length b.committed) in let low = in_b.within in omega (arith, size, low));
  is = or-false (slice_index_or (committed_with b) i false)
      ∙ get_or-map-range_with_len (is_in b) 0 (length b.committed) i i false in_b.within (omega arith) ∙ in_b.is;
}

-- it stays in where all may be committed
maybe_committed : (due : Bool) (b : Batch) (i : ℕ) → IsIn b i → IsIn (cond due (after_commit b) b) i
maybe_committed true b i in_b = committed_in b i in_b
maybe_committed false b i in_b = in_b

with_one : (k now : ℕ) → Batch → Batch
with_one k now b = record { committed = b.committed; pending = record { chunk = k; put_at = now } ∷ b.pending }

put_in : (k now : ℕ) (b : Batch) (i : ℕ) → IsIn b i → IsIn (after_put k now b) i
unfolding with_one
put_in k now b i in_b = maybe_committed (is_full (with_one k now b)) (with_one k now b) i (record {
  within = in_b.within;
  is = ⊎_elim
      (λ committed. or_left (slice_index_or b.committed i false) (eqb k i || is_pending b i) committed)
      (λ pending. or_right (slice_index_or b.committed i false) (eqb k i || is_pending b i) (or_right (eqb k i) (is_pending b i) pending))
      (or_cases (slice_index_or b.committed i false) (is_pending b i) in_b.is);
})

-- what was put is in
put_here : (i now : ℕ) (b : Batch) → i < length b.committed → IsIn (after_put i now b) i
unfolding with_one
put_here i now b low = maybe_committed (is_full (with_one i now b)) (with_one i now b) i (record {
  within = low;
  is = or_right (slice_index_or b.committed i false) (eqb i i || is_pending b i) (or_left (eqb i i) (is_pending b i) (eq-eqb i i refl));
})

answered_in : (put : Put) (k now : ℕ) (b : Batch) (i : ℕ) → IsIn b i → IsIn (after_puts (stored_by put k) now b) i
answered_in Stored k now b i in_b = put_in k now b i in_b
answered_in Held k now b i in_b = in_b
answered_in (Missing node) k now b i in_b = in_b
answered_in (Wrong node found kept) k now b i in_b = in_b
answered_in (Length found want) k now b i in_b = in_b

-- ---- a message that came

puts_in : (ticket : Ticket) (bytes : List ℕ) (claims : List Claim) (old new : Parts) (i : ℕ) → Puts ticket bytes claims old new
    → IsIn (batch_of old.holding) i → IsIn (batch_of new.holding) i
puts_in ticket bytes claims old new i puts in_b =
    subst (λ (b : Batch). IsIn b i) (sym puts.batch) (answered_in puts.put ticket.chunk old.seats.moment (batch_of old.holding) i in_b)

-- what puts keep of a holding, each message keeps
module _ (Q : HoldingState → Type 0)
    (kept : (ticket : Ticket) (bytes : List ℕ) (claims : List Claim) (old new : Parts) → Puts ticket bytes claims old new
    → Q old.holding → Q new.holding) where
  same_keeps : (old new : Parts) → new.holding ≡ old.holding → Q old.holding → Q new.holding
  same_keeps old new same q = subst Q (sym same) q

  data_keeps : (seat chunk sent_at : ℕ) (bytes : List ℕ) (old new : Parts) → TakesData seat chunk sent_at bytes old new
      → Q old.holding → Q new.holding
  data_keeps seat chunk sent_at bytes old new takes q = ⊎_elim
      (λ inside. ⊎_elim
      (λ proven. kept (ticket_of seat chunk sent_at mid.seats.moment) bytes (claims_in (slice_get mid.seats.seats seat)) mid new
      (takes.judged (ltb-true chunk chunks inside) proven) there)
      (λ unproven. same_keeps mid new (ap (λ (p : Parts). p.holding) (takes.unproven (ltb-true chunk chunks inside) unproven)) there)
      (cases_Bool (is_proven_in (slice_get mid.seats.seats seat))))
      (λ outside. same_keeps mid new (ap (λ (p : Parts). p.holding) (takes.outside (ltb-false chunk chunks outside))) there)
      (cases_Bool (nat_lt chunk chunks))
    where
      mid : Parts
      mid = takes.mid

      chunks : ℕ
      chunks = chunks_of mid.holding.store.descriptor

      there : Q mid.holding
      there = same_keeps old mid (ap (λ (p : Parts). p.holding) takes.ends.rest) q

  other_keeps : (seat : ℕ) (m : Message) (old new : Parts) → TakesOther seat m old new → Q old.holding → Q new.holding
  other_keeps seat m old new takes q =
      same_keeps old new (ap (λ (p : Parts). p.holding) takes.rest ∙ (heeded_beside seat m old takes.mid takes.heeds).holding) q

  pub does_keep : (seat : ℕ) (m : Message) (old new : Parts) → Does seat m old new → Q old.holding → Q new.holding
  does_keep seat m old new does q = data_or_other (Q new.holding) seat m old new does
      (λ chunk sent_at bytes takes. data_keeps seat chunk sent_at bytes old new takes q) (λ takes. other_keeps seat m old new takes q)

  pub in_turn_keeps : (seat : ℕ) (ms : List Message) (old new : Parts) → InTurn seat ms old new → Q old.holding → Q new.holding
  in_turn_keeps seat [] old new in_turn q = subst (λ (p : Parts). Q p.holding) (sym in_turn) q
  in_turn_keeps seat (m ∷ ms) old new in_turn q =
      in_turn_keeps seat ms in_turn.0 new in_turn.2 (does_keep seat m old in_turn.0 in_turn.1 q)

in_turn_in : (seat : ℕ) (ms : List Message) (old new : Parts) (i : ℕ) → InTurn seat ms old new → IsIn (batch_of old.holding) i
    → IsIn (batch_of new.holding) i
in_turn_in seat ms old new i = in_turn_keeps (λ h. IsIn (batch_of h) i)
    (λ ticket bytes claims old new puts in_b. puts_in ticket bytes claims old new i puts in_b) seat ms old new

-- ---- a chunk that fits

-- a DATA leaves the seat proven as it is, and its claims
module _ (seat chunk : ℕ) (old mid : Parts) (ends : EndsWait seat chunk old mid) where
  there : slice_get mid.seats.seats seat ≡ Some ends.answered.after
  there = seat_after seat _ old.seats mid.seats ends.answered

  pub proven_same : is_proven_in (slice_get mid.seats.seats seat) ≡ is_proven_in (slice_get old.seats.seats seat)
  proven_same = ap is_proven_in there ∙ ap (λ (s : SeatState). s.proven) ends.answered.changes.rest ∙ sym (ap is_proven_in ends.answered.there)

  pub claims_same : claims_in (slice_get mid.seats.seats seat) ≡ claims_in (slice_get old.seats.seats seat)
  claims_same = ap claims_in there ∙ ap (λ (s : SeatState). s.claims) ends.answered.changes.rest ∙ sym (ap claims_in ends.answered.there)

-- where the chunk isn't held, it is stored
fit_stored : (s : HoldingState) (claims : LookUp) (i : ℕ) (bytes : List ℕ) → is_held s.store i ≡ false → IsJudgedFit s claims i bytes
    → answer_to s claims i bytes ≡ Stored
fit_stored s claims i bytes unheld fit = ap (λ (b : Bool). put_answer b d book claims i bytes) unheld
    ∙ ap (λ (b : Bool). cond b (by_peaks (settled (chunks_of d) book claims) ends (by_verdict verdict)) (Length (length bytes) want)) long
    ∙ ap (λ (x : settling.Settled). by_peaks x ends (by_verdict verdict)) fit.peaks
    ∙ ap by_verdict fit.verdict
  where
    d : Descriptor
    d = s.store.descriptor

    book : LookUp
    book = entry s.book

    want : ℕ
    want = chunk_length d.size d.chunk i

    ends : Node
    ends = end_of (climb_of_peaks (chunks_of d) book claims)

    verdict : Verdict
    verdict = judged d (peaked d book claims) claims i bytes

    -- bytes of another length don't fit
    long : (length bytes == want) ≡ true
    long = pick (length bytes == want) refl
      where
        pick : (b : Bool) → (length bytes == want) ≡ b → b ≡ true
        pick true e = refl
        pick false e =
            let other : judged d (peaked d book claims) claims i bytes ≡ verdicts.Length (length bytes) want =
            ap (λ (b : Bool). cond b (missing_or (first_absent (peaked d book claims) (chunks_of d))
            (verdict_of (climb (peaked d book claims) claims (height_of d) 0 i (sha256 bytes)))) (verdicts.Length (length bytes) want)) e in
            let is = fit.verdict in cc

put_fits : (ticket : Ticket) (bytes : List ℕ) (claims : List Claim) (old new : Parts) → Puts ticket bytes claims old new
    → IsJudgedFit old.holding (latest claims) ticket.chunk bytes → HasWaiting old.holding.store old.holding.queue.waiting
    → IsIn (batch_of new.holding) ticket.chunk
put_fits ticket bytes claims old new puts fit waits = ⊎_elim
    (λ held. puts_in ticket bytes claims old new ticket.chunk puts
    (record { within = low; is = is_in-batch old.holding.store old.holding.queue.waiting ticket.chunk waits ∙ held }))
    (λ unheld. subst (λ (b : Batch). IsIn b ticket.chunk)
    (sym (puts.batch ∙ ap (λ (put : Put). after_puts (stored_by put ticket.chunk) old.seats.moment (batch_of old.holding))
    (puts.answer ∙ fit_stored old.holding (latest claims) ticket.chunk bytes unheld fit)))
    (put_here ticket.chunk old.seats.moment (batch_of old.holding) low))
    (cases_Bool (is_held old.holding.store ticket.chunk))
  where
    low : ticket.chunk < length old.holding.store.committed
    low = let size = waits.committed_size in let content = fit.content in omega (arith, size, content)

data_fits : (seat chunk sent_at : ℕ) (bytes : List ℕ) (old new : Parts) → TakesData seat chunk sent_at bytes old new
    → HasWaiting old.holding.store old.holding.queue.waiting → Fits seat chunk bytes old → IsIn (batch_of new.holding) chunk
data_fits seat chunk sent_at bytes old new takes waits fits =
    put_fits (ticket_of seat chunk sent_at mid.seats.moment) bytes (claims_in (slice_get mid.seats.seats seat)) mid new
    (takes.judged fit.content (proven_same seat chunk old mid takes.ends ∙ fits.proven)) fit
    (subst (λ (h : HoldingState). HasWaiting h.store h.queue.waiting) (sym same) waits)
  where
    mid : Parts
    mid = takes.mid

    same : mid.holding ≡ old.holding
    same = ap (λ (p : Parts). p.holding) takes.ends.rest

    fit : IsJudgedFit mid.holding (latest (claims_in (slice_get mid.seats.seats seat))) chunk bytes
    fit = subst (λ (h : HoldingState). IsJudgedFit h (latest (claims_in (slice_get mid.seats.seats seat))) chunk bytes) (sym same)
        (subst (λ (claims : List Claim). IsJudgedFit old.holding (latest claims) chunk bytes) (sym (claims_same seat chunk old mid takes.ends))
        fits.judged_fit)

-- ---- along the path

-- what waits is what is pending
abbrev Waits : HoldingState → Type 0
Waits h = HasWaiting h.store h.queue.waiting

module _ (store : StoreState) (seat : ℕ) (last : Parts) (held : (i : ℕ) → IsIn (batch_of last.holding) i → is_held store i ≡ true) where
  holds_one : (m : Message) (old new : Parts) → Does seat m old new → Waits old.holding → ((i : ℕ) → IsIn (batch_of new.holding) i → is_held store i ≡ true)
      → HoldsIfFit store seat m old
  holds_one (Data chunk sent_at bytes) old new does waits on = λ fits. on chunk (data_fits seat chunk sent_at bytes old new does waits fits)
  holds_one _ old new does waits on = tt

  holds_all : (ms : List Message) (old : Parts) (in_turn : InTurn seat ms old last) → Waits old.holding → HoldsFitting store seat ms old last in_turn
  holds_all [] old in_turn waits = tt
  holds_all (m ∷ ms) old in_turn waits = (
    holds_one m old in_turn.0 in_turn.1 waits (λ i in_b. held i (in_turn_in seat ms in_turn.0 last i in_turn.2 in_b)),
    holds_all ms in_turn.0 in_turn.2 (does_keep Waits (λ ticket bytes claims old new puts before. puts.waits) seat m old in_turn.0 in_turn.1 waits),
  )

-- ---- the whole

pub stores_what_fits : (event : Event) (bytes : List ℕ) (old new : Parts) → Absorbs event bytes old new → StoresWhatFits event bytes old new
stores_what_fits event bytes old new a = record {
  absorbs = a;
  holds = on_path (λ path. HoldsFitting new.holding.store path.seat path.messages path.first path.last path.in_turn)
      event bytes old a.mid a.takes
      (λ path ends. holds_all new.holding.store path.seat path.last
      (λ i in_b. held i (subst (λ (h : HoldingState). IsIn (batch_of h) i) (sym ends.holding) in_b)) path.messages path.first path.in_turn
      (subst (λ (h : HoldingState). HasWaiting h.store h.queue.waiting) (sym ends.begins) a.waited));
}
  where
    held : (i : ℕ) → IsIn (batch_of a.mid.holding) i → is_held new.holding.store i ≡ true
    held i in_b = sym (is_in-batch new.holding.store new.holding.queue.waiting i a.waits) ∙ ap (λ (b : Batch). is_in b i) a.batch
        ∙ (maybe_committed (is_due (is_quiet event) a.mid.seats.moment (batch_of a.mid.holding)) (batch_of a.mid.holding) i in_b).is
