-- All DATA have fates, fates are final, and what an ACK and a timeout decide.
use Rattle.std.proofs.Common.{◌≡◌, ℕ, zero, suc, ◌≤◌, leb, Bool, true, false, cond, ◌&&◌, Some, List, [], ◌∷◌, ◌++◌, drop, map, refl, ◌∙◌, ap, subst}
use Rattle.std.specs.Prelude.{◌↔◌}
use Rattle.std.specs.List.{slice_get}
use Rattle.std.proofs.lemmas.Bool.{leb-true, le-leb}
use Rattle.pp_terms.specs.format.Messages.{Message, Data, Ack}
use Rattle.pp_terms.specs.tree.Range.{Span, within}
use Rattle.pp_traffic.specs.Story.{Line, Heard, Said, Taken}
use Rattle.pp_traffic.specs.Fates.{Fate, Flies, Acknowledged, Lost, WrittenOff, Sending, with_fate, is_in_flight, acknowledged_of, is_hit, is_passed, after_hits, after_losses, after_timeout, after_heard, after_said, Timeouts, fates}
use Rattle.pp_traffic.specs.FatesLaws.{sent_by, FatesAreOfAll, IsSameLater, FatesAreFinal, AcksDecide, TimeoutsDecide}
use Rattle.pp_traffic.proofs.Fates.{one, settled_of, acknowledged_losses}

-- one list is another one later
abbrev Follows : List Sending → List Sending → Type 0
Follows [] later = Unit {0}
Follows (s ∷ rest) [] = ⊥
Follows (s ∷ rest) (t ∷ more) = IsSameLater s t × Follows rest more

same : (s : Sending) → IsSameLater s s
same s = record { chunk = refl; sent_at = refl; final = λ e. refl }

same_on : (s t u : Sending) → IsSameLater s t → IsSameLater t u → IsSameLater s u
same_on s t u a b = record {
  chunk = b.chunk ∙ a.chunk;
  sent_at = b.sent_at ∙ a.sent_at;
  final = λ e. b.final (ap (λ (f : Fate). is_in_flight f) (a.final e) ∙ e) ∙ a.final e;
}

follows_same : (xs : List Sending) → Follows xs xs
follows_same [] = tt
follows_same (s ∷ rest) = (same s, follows_same rest)

follows_on : (xs ys zs : List Sending) → Follows xs ys → Follows ys zs → Follows xs zs
follows_on [] ys zs a b = tt
follows_on (s ∷ rest) [] zs a b = absurd a
follows_on (s ∷ rest) (t ∷ more) [] a b = absurd b
follows_on (s ∷ rest) (t ∷ more) (u ∷ last) a b = (same_on s t u a.0 b.0, follows_on rest more last a.1 b.1)

follows_more : (xs ys : List Sending) → Follows xs (xs ++ ys)
follows_more [] ys = tt
follows_more (s ∷ rest) ys = (same s, follows_more rest ys)

-- one that flies, perhaps with another fate
same_one : (new fate : Fate) (b : Bool) (chunk sent_at : ℕ) → let s = one fate chunk sent_at in IsSameLater s (cond (is_in_flight fate && b) (with_fate new s) s)
same_one new Flies true chunk sent_at = record { chunk = refl; sent_at = refl; final = λ e. absurd cc }
same_one new Flies false chunk sent_at = same (one Flies chunk sent_at)
same_one new Acknowledged b chunk sent_at = same (one Acknowledged chunk sent_at)
same_one new Lost b chunk sent_at = same (one Lost chunk sent_at)
same_one new WrittenOff b chunk sent_at = same (one WrittenOff chunk sent_at)

written_one : (fate : Fate) (chunk sent_at : ℕ) → let s = one fate chunk sent_at in IsSameLater s (cond (is_in_flight fate) (with_fate WrittenOff s) s)
written_one Flies chunk sent_at = record { chunk = refl; sent_at = refl; final = λ e. absurd cc }
written_one Acknowledged chunk sent_at = same (one Acknowledged chunk sent_at)
written_one Lost chunk sent_at = same (one Lost chunk sent_at)
written_one WrittenOff chunk sent_at = same (one WrittenOff chunk sent_at)

follows_hits : (span : Span) (xs : List Sending) → Follows xs (after_hits span xs)
follows_hits span [] = tt
follows_hits span (s ∷ behind) = (same_one Acknowledged s.fate (within span s.chunk) s.chunk s.sent_at, follows_hits span behind)

follows_losses : (xs : List Sending) → Follows xs (after_losses xs)
follows_losses [] = tt
follows_losses (s ∷ behind) = (same_one Lost s.fate (leb 3 (acknowledged_of behind)) s.chunk s.sent_at, follows_losses behind)

follows_timeout : (xs : List Sending) → Follows xs (after_timeout xs)
follows_timeout [] = tt
follows_timeout (s ∷ behind) = (written_one s.fate s.chunk s.sent_at, follows_timeout behind)

follows_heard : (message : Message) (xs : List Sending) → Follows xs (after_heard message xs)
follows_heard (Ack span delay) xs = follows_on xs (after_hits span xs) (settled_of span xs) (follows_hits span xs) (follows_losses (after_hits span xs))
follows_heard _ xs = follows_same xs

follows_said : (now : ℕ) (message : Message) (xs : List Sending) → Follows xs (after_said now message xs)
follows_said now (Data chunk sent_at bytes) xs = follows_more xs (one Flies chunk now ∷ [])
follows_said now _ xs = follows_same xs

follows_taken : (b : Bool) (xs : List Sending) → Follows xs (cond b (after_timeout xs) xs)
follows_taken true xs = follows_timeout xs
follows_taken false xs = follows_same xs

follows_line : (due : Timeouts) (line : Line) (story : List Line) → Follows (fates due story) (fates due (line ∷ story))
follows_line due (Heard now message) story = follows_heard message (fates due story)
follows_line due (Said now message) story = follows_said now message (fates due story)
follows_line due (Taken now) story = follows_taken (due now story) (fates due story)

follows_lines : (due : Timeouts) (lines story : List Line) → Follows (fates due story) (fates due (lines ++ story))
follows_lines due [] story = follows_same (fates due story)
follows_lines due (line ∷ lines) story =
    follows_on (fates due story) (fates due (lines ++ story)) (fates due (line ∷ lines ++ story))
    (follows_lines due lines story) (follows_line due line (lines ++ story))

later_at : (xs ys : List Sending) → Follows xs ys → (place : ℕ) (s : Sending) → slice_get xs place ≡ Some s
    → (later : Sending) × (slice_get ys place ≡ Some later) × IsSameLater s later
later_at [] ys f place s e = absurd cc
later_at (x ∷ xs) [] f place s e = absurd f
later_at (x ∷ xs) (y ∷ ys) f zero s e = (y, refl, subst (λ (z : Sending). IsSameLater z y) (let is : x ≡ s = cc in is) f.0)
later_at (x ∷ xs) (y ∷ ys) f (suc place) s e = later_at xs ys f.1 place s e

pub fates_are_final : FatesAreFinal
fates_are_final due lines story place s e = later_at (fates due story) (fates due (lines ++ story)) (follows_lines due lines story) place s e

-- ---- all of them

abbrev key : Sending → ℕ × ℕ
key s = (s.chunk, s.sent_at)

either_key : (b : Bool) (new : Fate) (s : Sending) → key (cond b (with_fate new s) s) ≡ key s
either_key true new s = refl
either_key false new s = refl

keys_hits : (span : Span) (xs : List Sending) → map (λ s. key s) (after_hits span xs) ≡ map (λ s. key s) xs
keys_hits span [] = refl
keys_hits span (s ∷ behind) = rw (either_key (is_hit span s) Acknowledged s, keys_hits span behind) refl

keys_losses : (xs : List Sending) → map (λ s. key s) (after_losses xs) ≡ map (λ s. key s) xs
keys_losses [] = refl
keys_losses (s ∷ behind) = rw (either_key (is_passed s behind) Lost s, keys_losses behind) refl

keys_timeout : (xs : List Sending) → map (λ s. key s) (after_timeout xs) ≡ map (λ s. key s) xs
keys_timeout [] = refl
keys_timeout (s ∷ behind) = rw (either_key (is_in_flight s.fate) WrittenOff s, keys_timeout behind) refl

keys_heard : (message : Message) (xs : List Sending) → map (λ s. key s) (after_heard message xs) ≡ map (λ s. key s) xs
keys_heard (Ack span delay) xs = keys_losses (after_hits span xs) ∙ keys_hits span xs
keys_heard _ xs = refl

keys_more : (new : Sending) (xs : List Sending) → map (λ s. key s) (xs ++ new ∷ []) ≡ map (λ s. key s) xs ++ key new ∷ []
keys_more new [] = refl
keys_more new (s ∷ rest) = ap (λ (ks : List (ℕ × ℕ)). key s ∷ ks) (keys_more new rest)

keys_said : (now : ℕ) (message : Message) (xs : List Sending) → map (λ s. key s) (after_said now message xs) ≡ sent_by now message (map (λ s. key s) xs)
keys_said now (Data chunk sent_at bytes) xs = keys_more (one Flies chunk now) xs
keys_said now _ xs = refl

keys_taken : (b : Bool) (xs : List Sending) → map (λ s. key s) (cond b (after_timeout xs) xs) ≡ map (λ s. key s) xs
keys_taken true xs = keys_timeout xs
keys_taken false xs = refl

pub fates_are_of_all : FatesAreOfAll
fates_are_of_all due [] = refl
fates_are_of_all due (Heard now message ∷ before) = keys_heard message (fates due before) ∙ fates_are_of_all due before
fates_are_of_all due (Said now message ∷ before) =
    keys_said now message (fates due before) ∙ ap (λ (ks : List (ℕ × ℕ)). sent_by now message ks) (fates_are_of_all due before)
fates_are_of_all due (Taken now ∷ before) = keys_taken (due now before) (fates due before) ∙ fates_are_of_all due before

-- ---- at a place

get_map : (f : Sending → Sending) (xs : List Sending) (place : ℕ) (s : Sending) → slice_get xs place ≡ Some s → slice_get (map f xs) place ≡ Some (f s)
get_map f [] place s e = absurd cc
get_map f (x ∷ xs) zero s e = let is : x ≡ s = cc in ap (λ (z : Sending). Some (f z)) is
get_map f (x ∷ xs) (suc place) s e = get_map f xs place s e

get_losses : (xs : List Sending) (place : ℕ) (s : Sending) → slice_get xs place ≡ Some s
    → slice_get (after_losses xs) place ≡ Some (cond (is_passed s (drop (suc place) xs)) (with_fate Lost s) s)
get_losses [] place s e = absurd cc
get_losses (x ∷ xs) zero s e = let is : x ≡ s = cc in ap (λ (z : Sending). Some (cond (is_passed z xs) (with_fate Lost z) z)) is
get_losses (x ∷ xs) (suc place) s e = get_losses xs place s e

drop_losses : (n : ℕ) (xs : List Sending) → drop n (after_losses xs) ≡ after_losses (drop n xs)
drop_losses zero xs = refl
drop_losses (suc n) [] = refl
drop_losses (suc n) (x ∷ xs) = drop_losses n xs

behind_same : (span : Span) (n : ℕ) (xs : List Sending) → acknowledged_of (drop n (settled_of span xs)) ≡ acknowledged_of (drop n (after_hits span xs))
behind_same span n xs =
    ap (λ (ys : List Sending). acknowledged_of ys) (drop_losses n (after_hits span xs)) ∙ acknowledged_losses (drop n (after_hits span xs))

flew : (s : Sending) → is_in_flight s.fate ≡ true → s ≡ one Flies s.chunk s.sent_at
flew s e = ap (λ (f : Fate). one f s.chunk s.sent_at) (is s.fate e)
  where
    is : (fate : Fate) → is_in_flight fate ≡ true → fate ≡ Flies
    is Flies e = refl
    is Acknowledged e = absurd cc
    is Lost e = absurd cc
    is WrittenOff e = absurd cc

-- what becomes of one that flew, by whether it is hit and whether three behind it are acknowledged
abbrev becomes : (hit passed : Bool) → Fate
becomes true passed = Acknowledged
becomes false true = Lost
becomes false false = Flies

becomes_is : (b c : Bool) (chunk sent_at : ℕ) → let s = one Flies chunk sent_at in let t = cond b (with_fate Acknowledged s) s in
    (cond (is_in_flight t.fate && c) (with_fate Lost t) t).fate ≡ becomes b c
becomes_is true c chunk sent_at = refl
becomes_is false true chunk sent_at = refl
becomes_is false false chunk sent_at = refl

becomes_at : (span : Span) (xs : List Sending) (place : ℕ) (s later : Sending) → slice_get xs place ≡ Some s → is_in_flight s.fate ≡ true
    → slice_get (settled_of span xs) place ≡ Some later
    → later.fate ≡ becomes (within span s.chunk) (leb 3 (acknowledged_of (drop (suc place) (settled_of span xs))))
becomes_at span xs place s later e flies at =
    let s1 = one Flies s.chunk s.sent_at in
    let t = cond (within span s.chunk) (with_fate Acknowledged s1) s1 in
    let hit : slice_get (after_hits span xs) place ≡ Some t =
    get_map (λ x. cond (is_hit span x) (with_fate Acknowledged x) x) xs place s1 (e ∙ ap (λ (z : Sending). Some z) (flew s flies)) in
    let lost = get_losses (after_hits span xs) place t hit in
    let is : later ≡ cond (is_passed t (drop (suc place) (after_hits span xs))) (with_fate Lost t) t = cc in
    rw (behind_same span (suc place) xs)
    (ap (λ (z : Sending). z.fate) is ∙ becomes_is (within span s.chunk) (leb 3 (acknowledged_of (drop (suc place) (after_hits span xs)))) s.chunk s.sent_at)

decides_hit : (b c : Bool) (fate : Fate) → fate ≡ becomes b c → (fate ≡ Acknowledged) ↔ (b ≡ true)
decides_hit true c fate e = (λ is. refl, λ is. e)
decides_hit false true fate e = (λ is. absurd cc, λ is. absurd cc)
decides_hit false false fate e = (λ is. absurd cc, λ is. absurd cc)

decides_loss : (b : Bool) (n : ℕ) (c : Bool) (fate : Fate) → leb 3 n ≡ c → fate ≡ becomes b c → (fate ≡ Lost) ↔ ((b ≡ false) × (3 ≤ n))
decides_loss true n c fate is e = (λ lost. absurd cc, λ both. absurd cc)
decides_loss false n true fate is e = (λ lost. (refl, leb-true 3 n is), λ both. e)
decides_loss false n false fate is e = (λ lost. absurd cc, λ both. absurd (let le = le-leb 3 n both.1 in cc))

pub acks_decide : AcksDecide
acks_decide = record {
  acknowledged = λ due now delay place span story s later e flies at.
      decides_hit (within span s.chunk) (leb 3 (acknowledged_of (drop (suc place) (settled_of span (fates due story))))) later.fate
      (becomes_at span (fates due story) place s later e flies at);
  lost = λ due now delay place span story s later e flies at.
      decides_loss (within span s.chunk) (acknowledged_of (drop (suc place) (settled_of span (fates due story)))) _ later.fate refl
      (becomes_at span (fates due story) place s later e flies at);
}

written_at : (b : Bool) (xs : List Sending) (place : ℕ) (s : Sending) → b ≡ true → slice_get xs place ≡ Some s → is_in_flight s.fate ≡ true
    → slice_get (cond b (after_timeout xs) xs) place ≡ Some (with_fate WrittenOff s)
written_at true xs place s is e flies =
    get_map (λ x. cond (is_in_flight x.fate) (with_fate WrittenOff x) x) xs place s e
    ∙ ap (λ (b : Bool). Some (cond b (with_fate WrittenOff s) s)) flies
written_at false xs place s is e flies = absurd cc

pub timeouts_decide : TimeoutsDecide
timeouts_decide due now place story s is e flies = written_at (due now story) (fates due story) place s is e flies
