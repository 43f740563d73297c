-- A built store's file gets its length.
use Rattle.std.proofs.Common.{◌≡◌, inl, ⊎_elim, ℕ, suc, ◌+◌, ◌-◌, ◌*◌, ◌%◌, ◌^◌, ◌<◌, ◌≤◌, List, [], ◌∷◌, length, get_or, drop, Result, Ok, Err, OnOk, sym, ◌∙◌, ap, subst, arith}
use Rattle.std.proofs.Math.Pow.{pow_mono}
use Rattle.std.proofs.lemmas.Nat.{pow_pos}
use Rattle.std.proofs.lemmas.Bool.{cases_eq}
use Rattle.std.proofs.lemmas.List.{length-take}
use Rattle.pp_terms.specs.format.Descriptor.{Descriptor, height_of}
use Rattle.pp_terms.specs.disk.Store.{slot_size, pair_slot, file_size, IsWithin, Has, IsPiece, the_header, a_chunk, a_pair, a_gate}
use Rattle.pp_terms.specs.disk.Disk.{DiskState, History, IsKnown, DoesWrite, written}
use Rattle.pp_terms.proofs.Images.{length-written, written_inside, written_outside}
use Rattle.pp_store.specs.Behind.{DoesBehind}
use Rattle.pp_store.specs.Imported.{imported}
use Rattle.pp_store.specs.Growing.{IsBuilt, IsWhole, chunks_in}
use Rattle.pp_store.proofs.Writings.{write_puts}
use Rattle.pp_store.proofs.Pieces.{slot_order, has_elsewhere, covers, count_range, pair_slot_low, pair-64, header_size}

module _ (chunk : ℕ) (content reads : List ℕ) (built : IsBuilt chunk content reads) where
  abbrev d : Descriptor
  d = imported content chunk

  -- the gate of the last slot is there already
  pub whole_full : chunks_in chunk content ≡ 2 ^ height_of d → IsWhole chunk content reads
  whole_full full =
      let n = chunks_in chunk content in
      let last : n - 1 < n = (let range = count_range chunk content built.fits in omega (arith, range.0)) in
      let has = (built.chunks (n - 1) last).gate in
      let next : suc (n - 1) * slot_size chunk ≡ (n - 1) * slot_size chunk + slot_size chunk = omega arith in
      let same : suc (n - 1) * slot_size chunk ≡ 2 ^ height_of d * slot_size chunk = ap (λ (s : ℕ). s * slot_size chunk) (let e : suc (n - 1) ≡ 2 ^ height_of d = omega (arith, last, full) in e) in
      record { built = built; long = omega (arith, has.inside, built.staged.size, next, same) }

  module _ (short : chunks_in chunk content < 2 ^ height_of d) where
    -- each piece ends before the last place
    piece_low : (place : ℕ) (bytes : List ℕ) → IsPiece d content place bytes → place + length bytes < file_size d
    piece_low place bytes the_header = let le = slot_order (slot_size chunk) 0 (2 ^ height_of d) (pow_pos (height_of d)) in omega (arith, header_size chunk content, le)
    piece_low place bytes (a_chunk i lt) =
        let le = slot_order (slot_size chunk) i (2 ^ height_of d) (omega (arith, lt, short)) in
        omega (arith, le, length-take chunk (drop (i * chunk) content))
    piece_low place bytes (a_pair k j low lt) =
        let le = slot_order (slot_size chunk) (pair_slot k j) (2 ^ height_of d) (pair_slot_low chunk content built.fits k j low lt) in
        omega (arith, le, pair-64 chunk content built.fits k j)
    piece_low place bytes (a_gate i lt) =
        let le = slot_order (slot_size chunk) (suc i) (2 ^ height_of d) (omega (arith, lt, short)) in
        let next : suc i * slot_size chunk ≡ i * slot_size chunk + slot_size chunk = omega arith in
        omega (arith, le, next)

    abbrev longer : List ℕ
    longer = written reads (file_size d - 1) (0 ∷ [])

    zero_last : (k : ℕ) → ((place : ℕ) (bytes : List ℕ) → IsPiece d content place bytes → IsWithin place (length bytes) k → ⊥) → get_or longer k 0 ≡ 0
    zero_last k outside = ⊎_elim
        (λ last.
        let at : file_size d - 1 + 0 ≡ k = omega (arith, last) in
        ap (λ (n : ℕ). get_or longer n 0) (sym at) ∙ written_inside reads (file_size d - 1) (0 ∷ []) 0 (omega arith))
        (λ other. written_outside reads (file_size d - 1) (0 ∷ []) k (λ w. other (omega (arith, w.0, w.1))) ∙ built.staged.zeros k outside)
        (cases_eq k (file_size d - 1))

    some_slot : 64 < file_size d
    some_slot = let le = slot_order (slot_size chunk) 0 (2 ^ height_of d) (pow_pos (height_of d)) in omega (arith, le)

    pub whole_short : IsWhole chunk content longer
    whole_short = record {
      built = record {
        fits = built.fits;
        staged = record { zeros = zero_last; size = omega (arith, length-written reads (file_size d - 1) (0 ∷ []), built.staged.size, some_slot) };
        chunks = λ i lt. record {
          there = kept _ _ (a_chunk i lt) (built.chunks i lt).there;
          gate = kept _ _ (a_gate i lt) (built.chunks i lt).gate;
        };
        pairs = λ k j low lt. kept _ _ (a_pair k j low lt) (built.pairs k j low lt);
      };
      long = omega (arith, length-written reads (file_size d - 1) (0 ∷ []), built.staged.size, some_slot);
    }
      where
        kept : (place : ℕ) (bytes : List ℕ) → IsPiece d content place bytes → Has place bytes reads → Has place bytes longer
        kept place bytes piece has = let low = piece_low place bytes piece in has_elsewhere reads (file_size d - 1) place (0 ∷ []) bytes (inl (omega (arith, low))) has

-- a power that the code shifts
pub power_low : (h : ℕ) → h ≤ 20 → (1 * 2 ^ h) % 2 ^ 32 ≡ 2 ^ h
power_low h low = let up : 2 ^ h ≤ 2 ^ 20 = pow_mono low in omega (arith, up)

-- the write of the last byte, over any disk
pub stretched : {E : Type 0} (old new : DiskState) (place : ℕ) (result : Result (Unit {0}) E) → 64 ≤ place → DoesWrite old place (0 ∷ []) result new
    → DoesBehind old result new
stretched old new place result far does = (write_puts old new place (0 ∷ []) result far does).does

pub stretched_whole : {E : Type 0} (d : Descriptor) (chunk : ℕ) (content : List ℕ) (old new : DiskState) (place : ℕ) (result : Result (Unit {0}) E) → place ≡ file_size d - 1
    → DoesWrite old place (0 ∷ []) result new → (chunks_in chunk content ≡ 2 ^ height_of d → ⊥) → d ≡ imported content chunk → IsKnown old → IsBuilt chunk content old.history.reads
    → OnOk result (IsWhole chunk content new.history.reads)
stretched_whole d chunk content old new place (Err fault) place_is does differ is known built = tt
stretched_whole d chunk content old new place (Ok u) place_is does differ is known built =
    let to = imported content chunk in
    let short : chunks_in chunk content < 2 ^ height_of to =
    (let le = covers chunk content built.fits in let ne : chunks_in chunk content ≡ 2 ^ height_of to → ⊥ = λ e. differ (e ∙ ap (λ (x : Descriptor). 2 ^ height_of x) (sym is)) in omega (arith, le, ne)) in
    subst (IsWhole chunk content) (sym (ap (λ (h : History). h.reads) (does.done known)
    ∙ ap (λ (p : ℕ). written old.history.reads p (0 ∷ [])) (place_is ∙ ap (λ (x : Descriptor). file_size x - 1) is)))
    (whole_short chunk content old.history.reads built short)
