-- Addresses of peers, word by word.
use Rattle.std.proofs.Common.{◌≡◌, ℕ, suc, ◌+◌, ◌-◌, ◌<◌, ◌≤◌, List, [], ◌∷◌, ◌++◌, length, drop, sym, subst, inr, arith, append_assoc, append-nil}
use Rattle.std.specs.List.{AllZip}
use Rattle.std.proofs.lemmas.List.{length-append}
use Rattle.pp_terms.specs.format.Traffic.{Address}
use Rattle.pp_terms.specs.format.Addresses.{IsAddress}
use Rattle.pp_words.specs.Usage as wrong
use Rattle.pp_words.specs.Usage.{Usage, usage}
use Rattle.pp_words.specs.CommandLine.{AnAddress, IsWrongFrom}
use Rattle.pp_words.proofs.WordSteps.{front_at, step, extra}

-- The words from `first` up to `at` were addresses of these peers, and what follows is judged as before.
pub record AreRead (words : List (List ℕ)) (first at : ℕ) (peers : List Address) : Type 0 where
  pub some : 0 < length peers
  pub most : length peers ≤ 16
  pub later : (u : Usage) → IsWrongFrom [] (16 - length peers) at (drop at words) u → IsWrongFrom (AnAddress ∷ []) 15 first (drop first words) u
  pub more : (rest : List Address) → AllZip IsAddress (drop at words) rest → AllZip IsAddress (drop first words) (peers ++ rest)

pub first_peer : (words : List (List ℕ)) (first : ℕ) (text : List ℕ) (peer : Address) → drop first words ≡ text ∷ drop (first + 1) words
    → IsAddress text peer → AreRead words first (first + 1) (peer ∷ [])
first_peer words first text peer takes is = record {
  some = omega arith;
  most = omega arith;
  later = λ u rest. step AnAddress [] 15 first words text u takes (peer, is) rest;
  more = λ rest zip. subst (λ ws. AllZip IsAddress ws (peer ∷ rest)) (sym takes) (is, zip);
}

room_for : (n : ℕ) → n < 16 → 16 - n ≡ suc (16 - (n + 1))
room_for n lt = omega arith

pub next_peer : (words : List (List ℕ)) (first at : ℕ) (peers : List Address) (text : List ℕ) (peer : Address) → AreRead words first at peers
    → length peers < 16 → drop at words ≡ text ∷ drop (at + 1) words → IsAddress text peer → AreRead words first (at + 1) (peers ++ peer ∷ [])
next_peer words first at peers text peer so_far room takes is =
    let long : length (peers ++ peer ∷ []) ≡ length peers + 1 = length-append peers (peer ∷ []) in
    let room_is = room_for (length peers) room in
    record {
      some = omega (arith, long);
      most = omega (arith, long);
      later = λ u rest.
          let rest' : IsWrongFrom [] (16 - (length peers + 1)) (at + 1) (drop (at + 1) words) u =
          subst (λ n. IsWrongFrom [] (16 - n) (at + 1) (drop (at + 1) words) u) long rest in
          so_far.later u (subst (λ n. IsWrongFrom [] n at (drop at words) u) (sym room_is)
          (subst (λ ws. IsWrongFrom [] (suc (16 - (length peers + 1))) at ws u) (sym takes) (inr ((peer, is), rest'))));
      more = λ rest zip. subst (λ ps. AllZip IsAddress (drop first words) ps) (sym (append_assoc peers (peer ∷ []) rest))
          (so_far.more (peer ∷ rest) (subst (λ ws. AllZip IsAddress ws (peer ∷ rest)) (sym takes) (is, zip)));
    }

pub full : (words : List (List ℕ)) (first at : ℕ) (peers : List Address) (u : Usage) → AreRead words first at peers → length peers ≡ 16
    → at < length words → u ≡ usage at wrong.Extra → IsWrongFrom (AnAddress ∷ []) 15 first (drop first words) u
full words first at peers u so_far is lt u_is =
    let none : 16 - length peers ≡ 0 = omega arith in
    so_far.later u (subst (λ n. IsWrongFrom [] n at (drop at words) u) (sym none) (extra words at u lt u_is))

pub wrong_peer : (words : List (List ℕ)) (first at : ℕ) (peers : List Address) (u : Usage) → AreRead words first at peers → length peers < 16
    → at < length words → IsWrongFrom (AnAddress ∷ []) (16 - (length peers + 1)) at (drop at words) u → IsWrongFrom (AnAddress ∷ []) 15 first (drop first words) u
wrong_peer words first at peers u so_far room lt is =
    let front = front_at words at [] lt in
    so_far.later u (subst (λ n. IsWrongFrom [] n at (drop at words) u) (sym (room_for (length peers) room))
    (subst (λ ws. IsWrongFrom [] (suc (16 - (length peers + 1))) at ws u) (sym front)
    (subst (λ ws. IsWrongFrom (AnAddress ∷ []) (16 - (length peers + 1)) at ws u) front is)))

pub all_peers : (words : List (List ℕ)) (first at : ℕ) (peers : List Address) → AreRead words first at peers → drop at words ≡ []
    → AllZip IsAddress (drop first words) peers
all_peers words first at peers so_far ends =
    subst (λ ps. AllZip IsAddress (drop first words) ps) (append-nil peers) (so_far.more [] (subst (λ ws. AllZip IsAddress ws []) (sym ends) tt))
