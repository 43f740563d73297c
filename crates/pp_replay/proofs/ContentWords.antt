-- The line of a content, number by number.
use Rattle.std.proofs.Common.{◌≡◌, ℕ, ◌^◌, nat_le, Bool, true, false, not, ◌&&◌, List, [], ◌∷◌, codes, Result, Ok, Err, refl, sym, ◌∙◌, ap, arith}
use Rattle.std.specs.Str.{bytes_eq}
use Rattle.std.specs.Cmp.Lexicographic.{same_text}
use Rattle.std.proofs.lemmas.Bool.{le-leb, false≢true}
use Rattle.pp_terms.specs.format.DescriptorRead.{number_of}
use Rattle.pp_world.specs.Schedule.{Schedule}
use Rattle.pp_world.specs.ScheduleFault as wrong
use Rattle.pp_world.specs.ScheduleFault.{ScheduleKind}
use Rattle.pp_world.specs.ScheduleRead.{where_true, is_number, is_chunk_size, number_in, content_in, content_with}
use Rattle.pp_replay.specs.Arity.{only_three}
use Rattle.pp_replay.specs.Begun.{begun, chunk_in, content_by}

by_tests : (b e c f g d h : Bool) (chunk size shift : ℕ)
    → where_true (b && c && d && e && f && g && h) wrong.Content (begun chunk size shift)
    ≡ content_by (where_true (b && e) wrong.Number chunk) (where_true (c && f && g) wrong.Number size) (where_true (d && true && h) wrong.Number shift)
by_tests false e c f g d h chunk size shift = refl
by_tests true false false f g d h chunk size shift = refl
by_tests true false true f g false h chunk size shift = refl
by_tests true false true f g true h chunk size shift = refl
by_tests true true false f g d h chunk size shift = refl
by_tests true true true false g false h chunk size shift = refl
by_tests true true true false g true h chunk size shift = refl
by_tests true true true true false false h chunk size shift = refl
by_tests true true true true false true h chunk size shift = refl
by_tests true true true true true false h chunk size shift = refl
by_tests true true true true true true false chunk size shift = refl
by_tests true true true true true true true chunk size shift = refl

pub content_with_is : (chunk size shift : List ℕ)
    → content_with (codes "content") chunk size shift ≡ content_by (chunk_in chunk) (number_in 1 (2 ^ 20) size) (number_in 0 255 shift)
content_with_is chunk size shift =
    by_tests (is_number chunk) (is_chunk_size (number_of chunk)) (is_number size) (nat_le 1 (number_of size)) (nat_le (number_of size) (2 ^ 20))
    (is_number shift) (nat_le (number_of shift) 255) (number_of chunk) (number_of size) (number_of shift)
    ∙ ap (λ (x : Bool). content_by (chunk_in chunk) (number_in 1 (2 ^ 20) size)
    (where_true (is_number shift && x && nat_le (number_of shift) 255) wrong.Number (number_of shift)))
    (sym (le-leb 0 (number_of shift) (omega arith)))

-- of three words behind the name
abbrev with_three : Result (List ℕ × List ℕ × List ℕ) ScheduleKind → (List ℕ × List ℕ × List ℕ → Result Schedule ScheduleKind) → Result Schedule ScheduleKind
with_three (Ok p) f = f p
with_three (Err kind) f = Err wrong.Content

content_in_is : (name : List ℕ) (ws : List (List ℕ))
    → content_in (name ∷ ws) ≡ with_three (only_three ws) (λ p. content_with name p.0 p.1 p.2)
content_in_is name [] = refl
content_in_is name (a ∷ []) = refl
content_in_is name (a ∷ b ∷ []) = refl
content_in_is name (a ∷ b ∷ c ∷ []) = refl
content_in_is name (a ∷ b ∷ c ∷ d ∷ more) = refl

pub content_words : (words ws : List (List ℕ)) (name chunk size shift : List ℕ) → words ≡ name ∷ ws → name ≡ codes "content"
    → Ok (chunk, size, shift) ≡ only_three ws → content_with (codes "content") chunk size shift ≡ content_in words
content_words words ws name chunk size shift is named three =
    sym (ap content_in is ∙ content_in_is name ws
    ∙ ap (λ (r : Result (List ℕ × List ℕ × List ℕ) ScheduleKind). with_three r (λ p. content_with name p.0 p.1 p.2)) (sym three)
    ∙ ap (λ (n : List ℕ). content_with n chunk size shift) named)

-- a test that two texts differ failed
pub not_different : (name word text : List ℕ) (r : Bool) → r ≡ not (bytes_eq name word) → r ≡ false → word ≡ text → name ≡ text
not_different name word text r test failed is = by (bytes_eq name word) refl (sym test ∙ failed)
  where
    by : (b : Bool) → bytes_eq name word ≡ b → not b ≡ false → name ≡ text
    by true e h = same_text name word (sym e) ∙ is
    by false e h = absurd (false≢true (sym h))
