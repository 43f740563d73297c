-- Where the datagrams of entries lie that fill bytes, and what one more entry adds.
use Rattle.std.proofs.Common.{◌≡◌, ℕ, zero, suc, ◌+◌, ◌<◌, ◌≤◌, List, [], ◌∷◌, ◌++◌, length, map, reverse, take, drop, slice_index_or, refl, sym, ◌∙◌, ap, arith}
use Rattle.std.proofs.lemmas.List.{length-drop, map-append, reverse-append, take-append-le, drop-append-le}
use Rattle.pp_terms.specs.format.Traffic as terms
use Rattle.pp_terms.specs.format.Traffic.{Record}
use Rattle.pp_outside.specs.Outside.{address_of}
use Rattle.pp_recording.specs.State.{LiesIn, Fill, record_of, records_of}
use Rattle.pp_recording.specs.declared.recording.Entry.{Entry}
use Rattle.pp_recording.specs.declared.recording.Entry.TheVariants.{Received, Quiet, Sent}

fill_rises : (es : List Entry) (from to : ℕ) → Fill from es to → from ≤ to
fill_rises [] from to is = omega (arith, is)
fill_rises (Received at sender start len ∷ es) from to is = omega (arith, fill_rises es (from + len) to is.1)
fill_rises (Quiet at ∷ es) from to is = fill_rises es from to is
fill_rises (Sent moment receiver start len ∷ es) from to is = omega (arith, fill_rises es (from + len) to is.1)

pub lies_in : (es : List Entry) (from to n : ℕ) (e : Entry) → Fill from es to → n < length es → LiesIn (slice_index_or es n e) to
lies_in [] from to n e is lt = absurd (omega arith)
lies_in (Received at sender start len ∷ es) from to zero e is lt = omega (arith, is.0, fill_rises es (from + len) to is.1)
lies_in (Quiet at ∷ es) from to zero e is lt = tt
lies_in (Sent moment receiver start len ∷ es) from to zero e is lt = omega (arith, is.0, fill_rises es (from + len) to is.1)
lies_in (Received at sender start len ∷ es) from to (suc n) e is lt = lies_in es (from + len) to n e is.1 (omega arith)
lies_in (Quiet at ∷ es) from to (suc n) e is lt = lies_in es from to n e is (omega arith)
lies_in (Sent moment receiver start len ∷ es) from to (suc n) e is lt = lies_in es (from + len) to n e is.1 (omega arith)

-- ---- more bytes and one entry more

same_bytes : (bytes more : List ℕ) (start len : ℕ) → start + len ≤ length bytes → take len (drop start (bytes ++ more)) ≡ take len (drop start bytes)
same_bytes bytes more start len le =
    let low : start ≤ length bytes = omega arith in
    let left : len ≤ length (drop start bytes) = rw length-drop (omega arith) in
    ap (λ (xs : List ℕ). take len xs) (drop-append-le start bytes more low) ∙ take-append-le len (drop start bytes) more left

same_record : (bytes more : List ℕ) (e : Entry) → LiesIn e (length bytes) → record_of (bytes ++ more) e ≡ record_of bytes e
same_record bytes more (Received at sender start len) lies = ap (λ (xs : List ℕ). terms.Received at (address_of sender) xs) (same_bytes bytes more start len lies)
same_record bytes more (Quiet at) lies = refl
same_record bytes more (Sent moment receiver start len) lies = ap (λ (xs : List ℕ). terms.Sent moment (address_of receiver) xs) (same_bytes bytes more start len lies)

same_records : (bytes more : List ℕ) (es : List Entry) → ((n : ℕ) (e : Entry) → n < length es → LiesIn (slice_index_or es n e) (length bytes))
    → map (record_of (bytes ++ more)) es ≡ map (record_of bytes) es
same_records bytes more [] lies = refl
same_records bytes more (e ∷ es) lies =
    ap (λ (r : Record). r ∷ map (record_of (bytes ++ more)) es) (same_record bytes more e (lies 0 e (omega arith)))
    ∙ ap (λ (rs : List Record). record_of bytes e ∷ rs) (same_records bytes more es (λ n d lt. lies (suc n) d (omega arith)))

-- the new entry's record is the newest, and the others stay
pub records_more : (bytes more : List ℕ) (es : List Entry) (e : Entry) → Fill 0 es (length bytes)
    → records_of (bytes ++ more) (es ++ e ∷ []) ≡ record_of (bytes ++ more) e ∷ records_of bytes es
records_more bytes more es e filled =
    ap (λ (rs : List Record). reverse rs) (map-append (record_of (bytes ++ more)) es (e ∷ []))
    ∙ reverse-append (map (record_of (bytes ++ more)) es) (record_of (bytes ++ more) e ∷ [])
    ∙ ap (λ (rs : List Record). record_of (bytes ++ more) e ∷ reverse rs)
    (same_records bytes more es (λ n d lt. lies_in es 0 (length bytes) n d filled lt))

pub fill_more : (es : List Entry) (e : Entry) (from mid to : ℕ) → Fill from es mid → Fill mid (e ∷ []) to → Fill from (es ++ e ∷ []) to
fill_more [] (Received at sender start len) from mid to is last = (last.0 ∙ sym is, omega (arith, is, last.1))
fill_more [] (Quiet at) from mid to is last = is ∙ last
fill_more [] (Sent moment receiver start len) from mid to is last = (last.0 ∙ sym is, omega (arith, is, last.1))
fill_more (Received at sender start len ∷ es) e from mid to is last = (is.0, fill_more es e (from + len) mid to is.1 last)
fill_more (Quiet at ∷ es) e from mid to is last = fill_more es e from mid to is last
fill_more (Sent moment receiver start len ∷ es) e from mid to is last = (is.0, fill_more es e (from + len) mid to is.1 last)
