-- Words one after the other, and the first wrong one.
use Rattle.std.proofs.Common.{◌≡◌, ℕ, Option, Some, None, ◌+◌, ◌<◌, List, [], ◌∷◌, length, get_or, drop, sym, ◌∙◌, ap, subst, inl, inr, add-one}
use Rattle.std.specs.Prelude.{String, string_bytes}
use Rattle.std.specs.declared.alloc.Global.{Global}
use Rattle.std.proofs.Math.Seq.{drop-cons}
use Rattle.std.proofs.lemmas.List.{length-map, get_or-map}
use Rattle.pp_words.specs.Usage as wrong
use Rattle.pp_words.specs.Usage.{Usage, usage}
use Rattle.pp_words.specs.CommandLine.{Slot, AnAddress, IsRight, IsWrong, IsWrongFrom}
use Rattle.std.proofs.lemmas.Option.{none-some}
use Rattle.pp_terms.specs.format.Traffic.{Address}
use Rattle.pp_terms.specs.format.Addresses.{IsAddress}
use Rattle.pp_words.specs.Views.{texts}
use Rattle.pp_words.specs.Slots.{Takes}

-- the element there, and those after it
pub front_at : {X : Type 0} (xs : List X) (at : ℕ) (d : X) → at < length xs → drop at xs ≡ get_or xs at d ∷ drop (at + 1) xs
front_at xs at d lt = drop-cons xs at d lt ∙ ap (λ k. get_or xs at d ∷ drop k xs) (sym (add-one at))

-- a right word is passed
pub step : (slot : Slot) (slots : List Slot) (peers at : ℕ) (words : List (List ℕ)) (text : List ℕ) (u : Usage)
    → drop at words ≡ text ∷ drop (at + 1) words → IsRight slot text → IsWrongFrom slots peers (at + 1) (drop (at + 1) words) u
    → IsWrongFrom (slot ∷ slots) peers at (drop at words) u
step slot slots peers at words text u takes right rest =
    subst (λ ws. IsWrongFrom (slot ∷ slots) peers at ws u) (sym takes) (inr (right, rest))

-- a wrong one is named
pub stop : (slot : Slot) (slots : List Slot) (peers at : ℕ) (words : List (List ℕ)) (text : List ℕ) (u : Usage)
    → drop at words ≡ text ∷ drop (at + 1) words → IsWrong slot at text u → IsWrongFrom (slot ∷ slots) peers at (drop at words) u
stop slot slots peers at words text u takes is =
    subst (λ ws. IsWrongFrom (slot ∷ slots) peers at ws u) (sym takes) (inl is)

-- one too many
pub extra : (words : List (List ℕ)) (at : ℕ) (u : Usage) → at < length words → u ≡ usage at wrong.Extra → IsWrongFrom [] 0 at (drop at words) u
extra words at u lt is = subst (λ ws. IsWrongFrom [] 0 at ws u) (sym (front_at words at [] lt)) is

-- the word of a String there
pub takes_at : (words : List (String Global)) (at : ℕ) (word : String Global) (text : List ℕ) → at < length words → word ≡ get_or words at word
    → text ≡ string_bytes word → Takes words at text
takes_at words at word text lt is text_is =
    let long : at < length (texts words) = rw length-map lt in
    let here : get_or (texts words) at (string_bytes word) ≡ text =
    get_or-map (λ w. string_bytes w) words at word (string_bytes word) lt ∙ ap (λ w. string_bytes w) (sym is) ∙ sym text_is in
    front_at (texts words) at (string_bytes word) long ∙ ap (λ t. t ∷ drop (at + 1) (texts words)) here

pub no_address : (word bytes : List ℕ) → bytes ≡ word → ((a : Address) → IsAddress bytes a → ◌≡◌ {A = Option Address} None (Some a)) → ¬ IsRight AnAddress word
no_address word bytes same never (a, is) = none-some a (never a (subst (λ t. IsAddress t a) (sym same) is))
