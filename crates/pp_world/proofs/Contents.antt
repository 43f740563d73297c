-- The first two lines are read as those of a schedule, and no others are.
use Rattle.std.proofs.Common.{◌≡◌, ◌⊎◌, inl, inr, ⊎_elim, ℕ, zero, suc, ◌^◌, ◌<◌, ◌≤◌, ◌==◌, nat_le, Bool, true, false, ◌&&◌, ◌||◌, List, [], ◌∷◌, codes, decimal, Result, Ok, Err, refl, sym, ◌∙◌, ap, subst, arith}
use Rattle.std.specs.List.{list_any}
use Rattle.std.specs.Str.{bytes_eq}
use Rattle.std.specs.Cmp.Lexicographic.{same_text}
use Rattle.std.proofs.lemmas.Bool.{and_parts, and_from, eqb-true, leb-true, le-leb, false≢true}
use Rattle.pp_terms.specs.tree.Content.{IsChunkSize}
use Rattle.pp_terms.specs.format.DescriptorRead.{number_of}
use Rattle.pp_tree.proofs.Sizes.{chunk_size_range}
use Rattle.pp_world.specs.ScheduleFault.{ScheduleKind}
use Rattle.pp_world.specs.ScheduleFault as wrong
use Rattle.pp_world.specs.Schedule.{Schedule}
use Rattle.pp_world.specs.ScheduleRead.{is_number, is_chunk_size, content_with, content_in}
use Rattle.pp_world.proofs.Numbers.{where_ok, ok_where, number_read, read_number}
use Rattle.pp_world.proofs.Steps.{never_ok, two_same}

-- ---- chunk sizes

one_more : (a : ℕ) (rest : List ℕ) (n : ℕ) → list_any (λ size. size == n) (a ∷ rest) ≡ true → (a ≡ n) ⊎ (list_any (λ size. size == n) rest ≡ true)
one_more a rest n h = by (a == n) refl h
  where
    by : (b : Bool) → (a == n) ≡ b → (b || list_any (λ size. size == n) rest) ≡ true → (a ≡ n) ⊎ (list_any (λ size. size == n) rest ≡ true)
    by true e h = inl (eqb-true a n e)
    by false e h = inr h

size_of : (k a n : ℕ) → 8 ≤ k → k ≤ 13 → a ≡ 2 ^ k → a ≡ n → IsChunkSize n
size_of k a n low high is same = record { exponent = k; least = low; greatest = high; power = sym same ∙ is }

pub chunk_read : (n : ℕ) → is_chunk_size n ≡ true → IsChunkSize n
chunk_read n h =
    ⊎_elim (size_of 8 256 n (omega arith) (omega arith) refl) (λ h.
    ⊎_elim (size_of 9 512 n (omega arith) (omega arith) refl) (λ h.
    ⊎_elim (size_of 10 1024 n (omega arith) (omega arith) refl) (λ h.
    ⊎_elim (size_of 11 2048 n (omega arith) (omega arith) refl) (λ h.
    ⊎_elim (size_of 12 4096 n (omega arith) (omega arith) refl) (λ h.
    ⊎_elim (size_of 13 8192 n (omega arith) (omega arith) refl) (λ h. absurd (false≢true h))
    (one_more 8192 [] n h))
    (one_more 4096 (8192 ∷ []) n h))
    (one_more 2048 (4096 ∷ 8192 ∷ []) n h))
    (one_more 1024 (2048 ∷ 4096 ∷ 8192 ∷ []) n h))
    (one_more 512 (1024 ∷ 2048 ∷ 4096 ∷ 8192 ∷ []) n h))
    (one_more 256 (512 ∷ 1024 ∷ 2048 ∷ 4096 ∷ 8192 ∷ []) n h)

sized : (k : ℕ) → 8 ≤ k → k ≤ 13 → is_chunk_size (2 ^ k) ≡ true
sized (suc (suc (suc (suc (suc (suc (suc (suc zero)))))))) low high = refl
sized (suc (suc (suc (suc (suc (suc (suc (suc (suc zero))))))))) low high = refl
sized (suc (suc (suc (suc (suc (suc (suc (suc (suc (suc zero)))))))))) low high = refl
sized (suc (suc (suc (suc (suc (suc (suc (suc (suc (suc (suc zero))))))))))) low high = refl
sized (suc (suc (suc (suc (suc (suc (suc (suc (suc (suc (suc (suc zero)))))))))))) low high = refl
sized (suc (suc (suc (suc (suc (suc (suc (suc (suc (suc (suc (suc (suc zero))))))))))))) low high = refl
sized (suc (suc (suc (suc (suc (suc (suc (suc (suc (suc (suc (suc (suc (suc k)))))))))))))) low high = absurd (omega (arith, high))
sized (suc (suc (suc (suc (suc (suc (suc zero))))))) low high = absurd (omega (arith, low))
sized (suc (suc (suc (suc (suc (suc zero)))))) low high = absurd (omega (arith, low))
sized (suc (suc (suc (suc (suc zero))))) low high = absurd (omega (arith, low))
sized (suc (suc (suc (suc zero)))) low high = absurd (omega (arith, low))
sized (suc (suc (suc zero))) low high = absurd (omega (arith, low))
sized (suc (suc zero)) low high = absurd (omega (arith, low))
sized (suc zero) low high = absurd (omega (arith, low))
sized zero low high = absurd (omega (arith, low))

pub read_chunk : (n : ℕ) → IsChunkSize n → is_chunk_size n ≡ true
read_chunk n is = ap is_chunk_size is.power ∙ sized is.exponent is.least is.greatest

chunk_low : (n : ℕ) → IsChunkSize n → n ≤ 8192
chunk_low n is = (chunk_size_range n is).1

-- ---- the line of the content

-- The words are those of a content; no peer and no step is known yet.
pub record IsContentRead (ws : List (List ℕ)) (s : Schedule) : Type 0 where
  pub words_are : ws ≡ codes "content" ∷ decimal s.chunk ∷ decimal s.size ∷ decimal s.shift ∷ []
  pub chunk_size : IsChunkSize s.chunk
  pub some : 1 ≤ s.size
  pub most : s.size ≤ 2 ^ 20
  pub byte : s.shift ≤ 255

abbrev schedule_or : Schedule → Result Schedule ScheduleKind → Schedule
schedule_or x (Ok y) = y
schedule_or x (Err e) = x

within : (word : List ℕ) (least most : ℕ) → most < 2 ^ 64 → is_number word ≡ true → least ≤ number_of word → number_of word ≤ most
    → word ≡ decimal (number_of word)
within word least most low is above below =
    (number_read least most (number_of word) word low
    (ok_where (is_number word && nat_le least (number_of word) && nat_le (number_of word) most) wrong.Number (number_of word)
    (and_from (is_number word && nat_le least (number_of word)) (nat_le (number_of word) most)
    (and_from (is_number word) (nat_le least (number_of word)) is (le-leb least (number_of word) above)) (le-leb (number_of word) most below)))).0

with_read : (name chunk size shift : List ℕ) (s : Schedule) → content_with name chunk size shift ≡ Ok s
    → IsContentRead (name ∷ chunk ∷ size ∷ shift ∷ []) s
with_read name chunk size shift s h =
    let a = bytes_eq name (codes "content") in let b = is_number chunk in let c = is_number size in let d = is_number shift in
    let e = is_chunk_size (number_of chunk) in let f = nat_le 1 (number_of size) in let g = nat_le (number_of size) (2 ^ 20) in
    let k = nat_le (number_of shift) 255 in
    let it = where_ok (a && b && c && d && e && f && g && k) wrong.Content
    (record { chunk = number_of chunk; size = number_of size; shift = number_of shift; roles = []; steps = [] }) s h in
    let h7 = and_parts (a && b && c && d && e && f && g) k it.0 in
    let h6 = and_parts (a && b && c && d && e && f) g h7.0 in
    let h5 = and_parts (a && b && c && d && e) f h6.0 in
    let h4 = and_parts (a && b && c && d) e h5.0 in
    let h3 = and_parts (a && b && c) d h4.0 in
    let h2 = and_parts (a && b) c h3.0 in
    let h1 = and_parts a b h2.0 in
    let of_size = chunk_read (number_of chunk) h4.1 in
    let low = chunk_low (number_of chunk) of_size in
    let some = leb-true 1 (number_of size) h5.1 in
    let most = leb-true (number_of size) (2 ^ 20) h6.1 in
    let byte = leb-true (number_of shift) 255 h7.1 in
    subst (IsContentRead (name ∷ chunk ∷ size ∷ shift ∷ [])) it.1 (record {
      words_are = two_same name (codes "content") (chunk ∷ size ∷ shift ∷ [])
          (decimal (number_of chunk) ∷ decimal (number_of size) ∷ decimal (number_of shift) ∷ []) (same_text name (codes "content") (sym h1.0))
          (two_same chunk (decimal (number_of chunk)) (size ∷ shift ∷ []) (decimal (number_of size) ∷ decimal (number_of shift) ∷ [])
          (within chunk 0 8192 (omega arith) h1.1 (omega arith) low)
          (two_same size (decimal (number_of size)) (shift ∷ []) (decimal (number_of shift) ∷ [])
          (within size 1 (2 ^ 20) (omega arith) h2.1 some most)
          (ap (λ (x : List ℕ). x ∷ []) (within shift 0 255 (omega arith) h3.1 (omega arith) byte))));
      chunk_size = of_size;
      some = some;
      most = most;
      byte = byte;
    })

pub content_read : (ws : List (List ℕ)) (s : Schedule) → content_in ws ≡ Ok s → IsContentRead ws s
content_read [] s h = absurd (never_ok wrong.Content s h)
content_read (a ∷ []) s h = absurd (never_ok wrong.Content s h)
content_read (a ∷ b ∷ []) s h = absurd (never_ok wrong.Content s h)
content_read (a ∷ b ∷ c ∷ []) s h = absurd (never_ok wrong.Content s h)
content_read (a ∷ b ∷ c ∷ d ∷ []) s h = with_read a b c d s h
content_read (a ∷ b ∷ c ∷ d ∷ e ∷ more) s h = absurd (never_ok wrong.Content s h)

-- ---- what is read of a content's words

read_is : (least most n : ℕ) → most < 2 ^ 64 → least ≤ n → n ≤ most
    → (is_number (decimal n) ≡ true) × (number_of (decimal n) ≡ n)
read_is least most n low above below =
    let it = where_ok (is_number (decimal n) && nat_le least (number_of (decimal n)) && nat_le (number_of (decimal n)) most) wrong.Number
    (number_of (decimal n)) n (read_number least most n low above below) in (
      (and_parts (is_number (decimal n)) (nat_le least (number_of (decimal n)))
          (and_parts (is_number (decimal n) && nat_le least (number_of (decimal n))) (nat_le (number_of (decimal n)) most) it.0).0).0,
      it.1,
    )

pub read_content : (chunk size shift : ℕ) → IsChunkSize chunk → 1 ≤ size → size ≤ 2 ^ 20 → shift ≤ 255
    → content_in (codes "content" ∷ decimal chunk ∷ decimal size ∷ decimal shift ∷ [])
    ≡ Ok (record { chunk = chunk; size = size; shift = shift; roles = []; steps = [] })
read_content chunk size shift of_size some most byte =
    let x = read_is 0 8192 chunk (omega arith) (omega arith) (chunk_low chunk of_size) in
    let y = read_is 1 (2 ^ 20) size (omega arith) some most in
    let z = read_is 0 255 shift (omega arith) (omega arith) byte in
    let b = is_number (decimal chunk) in let c = is_number (decimal size) in let d = is_number (decimal shift) in
    let e = is_chunk_size (number_of (decimal chunk)) in let f = nat_le 1 (number_of (decimal size)) in
    let g = nat_le (number_of (decimal size)) (2 ^ 20) in let k = nat_le (number_of (decimal shift)) 255 in
    ok_where (true && b && c && d && e && f && g && k) wrong.Content
    (record { chunk = number_of (decimal chunk); size = number_of (decimal size); shift = number_of (decimal shift); roles = []; steps = [] })
    (and_from (true && b && c && d && e && f && g) k (and_from (true && b && c && d && e && f) g (and_from (true && b && c && d && e) f
    (and_from (true && b && c && d) e (and_from (true && b && c) d (and_from (true && b) c (and_from true b refl x.0) y.0) z.0)
    (ap is_chunk_size x.1 ∙ read_chunk chunk of_size))
    (le-leb 1 (number_of (decimal size)) (subst (λ (n : ℕ). 1 ≤ n) (sym y.1) some)))
    (le-leb (number_of (decimal size)) (2 ^ 20) (subst (λ (n : ℕ). n ≤ 2 ^ 20) (sym y.1) most)))
    (le-leb (number_of (decimal shift)) 255 (subst (λ (n : ℕ). n ≤ 255) (sym z.1) byte)))
    ∙ ap (λ (n : ℕ). Ok (record { chunk = n; size = number_of (decimal size); shift = number_of (decimal shift); roles = []; steps = [] })) x.1
    ∙ ap (λ (n : ℕ). Ok (record { chunk = chunk; size = n; shift = number_of (decimal shift); roles = []; steps = [] })) y.1
    ∙ ap (λ (n : ℕ). Ok (record { chunk = chunk; size = size; shift = n; roles = []; steps = [] })) z.1
