-- Words spell at most one command, have at most one first wrong word, and never both.
use Rattle.std.proofs.Common.{◌≡◌, ℕ, zero, suc, ◌+◌, ◌<◌, ◌≤◌, List, [], ◌∷◌, length, Option, Some, None, refl, sym, ◌∙◌, ap, subst, inl, inr, arith}
use Rattle.std.specs.Prelude.{MatchOption}
use Rattle.std.specs.List.{AllZip}
use Rattle.pp_terms.specs.format.Traffic.{Address}
use Rattle.pp_terms.specs.format.Addresses.{IsAddress}
use Rattle.pp_words.specs.Commands.{Command, Import, Seed, Fetch, Check, Export, Upgrade, Replay, Rehearse, Play, Record, Audit}
use Rattle.pp_words.specs.Usage as wrong
use Rattle.pp_words.specs.Usage.{Usage, usage}
use Rattle.pp_words.specs.CommandLine.{Spells, Slot, AStore, AChunk, ANumber, ADescriptor, ATarget, AnAddress, AnOrder, IsRight, IsWrong, Shape, commands, shape_of, named, IsOneOf, IsWrongFrom, IsFirstWrong}
use Rattle.pp_words.proofs.FaultLaws.{no_fault, fault_same}
use Rattle.pp_words.proofs.TargetLaws as targets

-- ---- one first wrong word

right_not_wrong : (slot : Slot) (n : ℕ) (word : List ℕ) (u : Usage) → IsRight slot word → IsWrong slot n word u → ⊥
right_not_wrong AStore n word u right is = is.0 right
right_not_wrong AChunk n word u right is = is.0 right
right_not_wrong (ANumber least limit) n word u right is = is.0 right
right_not_wrong ADescriptor n word u right is = no_fault word is.0 right.0 is.1 right.1
right_not_wrong ATarget n word u right is = targets.no_fault word is.0 right.0 is.1 right.1
right_not_wrong AnAddress n word u right is = is.0 right
right_not_wrong AnOrder n word u right is = is.0 right

wrong_once : (slot : Slot) (n : ℕ) (word : List ℕ) (u v : Usage) → IsWrong slot n word u → IsWrong slot n word v → u ≡ v
wrong_once AStore n word u v one two = one.1 ∙ sym two.1
wrong_once AChunk n word u v one two = one.1 ∙ sym two.1
wrong_once (ANumber least limit) n word u v one two = one.1 ∙ sym two.1
wrong_once ADescriptor n word u v one two =
    one.2 ∙ ap (λ f. usage n (wrong.Descriptor f)) (fault_same word one.0 two.0 one.1 two.1) ∙ sym two.2
wrong_once ATarget n word u v one two =
    one.2 ∙ ap (λ f. usage n (wrong.Descriptor f)) (targets.fault_same word one.0 two.0 one.1 two.1) ∙ sym two.2
wrong_once AnAddress n word u v one two = one.1 ∙ sym two.1
wrong_once AnOrder n word u v one two = one.1 ∙ sym two.1

wrong_from_once : (slots : List Slot) (peers n : ℕ) (words : List (List ℕ)) (u v : Usage) → IsWrongFrom slots peers n words u → IsWrongFrom slots peers n words v → u ≡ v
wrong_from_once [] peers n [] u v one two = absurd one
wrong_from_once [] zero n (word ∷ words) u v one two = one ∙ sym two
wrong_from_once [] (suc peers) n (word ∷ words) u v (inl one) (inl two) = wrong_once AnAddress n word u v one two
wrong_from_once [] (suc peers) n (word ∷ words) u v (inl one) (inr two) = absurd (right_not_wrong AnAddress n word u two.0 one)
wrong_from_once [] (suc peers) n (word ∷ words) u v (inr one) (inl two) = absurd (right_not_wrong AnAddress n word v one.0 two)
wrong_from_once [] (suc peers) n (word ∷ words) u v (inr one) (inr two) = wrong_from_once [] peers (n + 1) words u v one.1 two.1
wrong_from_once (slot ∷ slots) peers n [] u v one two = one ∙ sym two
wrong_from_once (slot ∷ slots) peers n (word ∷ words) u v (inl one) (inl two) = wrong_once slot n word u v one two
wrong_from_once (slot ∷ slots) peers n (word ∷ words) u v (inl one) (inr two) = absurd (right_not_wrong slot n word u two.0 one)
wrong_from_once (slot ∷ slots) peers n (word ∷ words) u v (inr one) (inl two) = absurd (right_not_wrong slot n word v one.0 two)
wrong_from_once (slot ∷ slots) peers n (word ∷ words) u v (inr one) (inr two) = wrong_from_once slots peers (n + 1) words u v one.1 two.1

pub first_wrong_once : (shapes : List Shape) (words : List (List ℕ)) (u v : Usage) → IsFirstWrong shapes words u → IsFirstWrong shapes words v → u ≡ v
first_wrong_once shapes [] u v one two = one ∙ sym two
first_wrong_once shapes (name ∷ words) u v one two = at (named name shapes) one two
  where
    at : (o : Option Shape) → MatchOption o (u ≡ usage 0 wrong.Command) (λ shape. IsWrongFrom shape.slots shape.peers 1 words u)
        → MatchOption o (v ≡ usage 0 wrong.Command) (λ shape. IsWrongFrom shape.slots shape.peers 1 words v) → u ≡ v
    at None p q = p ∙ sym q
    at (Some shape) p q = wrong_from_once shape.slots shape.peers 1 words u v p q

-- ---- no wrong word in a command

-- the words fill the slots, and then are at most that many peers
abbrev pub AreRight : List Slot → ℕ → List (List ℕ) → Type 0
AreRight [] peers [] = Unit {0}
AreRight [] zero (word ∷ words) = ⊥
AreRight [] (suc peers) (word ∷ words) = IsRight AnAddress word × AreRight [] peers words
AreRight (slot ∷ slots) peers [] = ⊥
AreRight (slot ∷ slots) peers (word ∷ words) = IsRight slot word × AreRight slots peers words

never_both : (slots : List Slot) (peers n : ℕ) (words : List (List ℕ)) (u : Usage) → AreRight slots peers words → IsWrongFrom slots peers n words u → ⊥
never_both [] peers n [] u right is = is
never_both [] zero n (word ∷ words) u right is = right
never_both [] (suc peers) n (word ∷ words) u right (inl is) = right_not_wrong AnAddress n word u right.0 is
never_both [] (suc peers) n (word ∷ words) u right (inr is) = never_both [] peers (n + 1) words u right.1 is.1
never_both (slot ∷ slots) peers n [] u right is = right
never_both (slot ∷ slots) peers n (word ∷ words) u right (inl is) = right_not_wrong slot n word u right.0 is
never_both (slot ∷ slots) peers n (word ∷ words) u right (inr is) = never_both slots peers (n + 1) words u right.1 is.1

peers_right : (words : List (List ℕ)) (peers : List Address) (n : ℕ) → AllZip IsAddress words peers → length peers ≤ n → AreRight [] n words
peers_right [] [] n zip few = tt
peers_right (word ∷ words) [] n zip few = absurd zip
peers_right [] (peer ∷ peers) n zip few = absurd zip
peers_right (word ∷ words) (peer ∷ peers) zero zip few = absurd (omega arith)
peers_right (word ∷ words) (peer ∷ peers) (suc n) zip few = ((peer, zip.0), peers_right words peers n zip.1 (omega arith))

first_peer_right : (words : List (List ℕ)) (peers : List Address) → AllZip IsAddress words peers → 0 < length peers → length peers ≤ 16
    → AreRight (AnAddress ∷ []) 15 words
first_peer_right words [] zip some most = absurd (omega arith)
first_peer_right [] (peer ∷ peers) zip some most = absurd zip
first_peer_right (word ∷ words) (peer ∷ peers) zip some most = ((peer, zip.0), peers_right words peers 15 zip.1 (omega arith))

-- the words of a command are its name and words that fill its slots
pub record AreWordsOf (words : List (List ℕ)) (shape : Shape) : Type 0 where
  pub rest : List (List ℕ)
  pub named : words ≡ shape.name ∷ rest
  pub right : AreRight shape.slots shape.peers rest

pub words_of : (words : List (List ℕ)) (c : Command) → Spells words c → AreWordsOf words (shape_of c)
words_of words (Import store chunk) is = record { rest = _; named = is.spelled; right = (is.named, ((chunk, refl, is.size), tt)) }
words_of words (Seed store target listen turns) is = record {
  rest = _;
  named = is.spelled;
  right = (is.named, ((target, is.target_is), ((listen, is.listen_is), ((turns, refl, is.some_turns, is.few), tt))));
}
words_of words (Fetch store target listen turns order peers) is = record {
  rest = _;
  named = is.spelled;
  right = (
    is.named,
    ((target, is.target_is), ((listen, is.listen_is), ((turns, refl, is.some_turns, is.few), ((order, refl), first_peer_right is.dialled peers is.dialled_are is.some is.most)))),
  );
}
words_of words (Check store target) is = record { rest = _; named = is.spelled; right = (is.named, ((target, is.target_is), tt)) }
words_of words (Export store target) is = record { rest = _; named = is.spelled; right = (is.named, ((target, is.target_is), tt)) }
words_of words (Upgrade store descriptor) is = record { rest = _; named = is.spelled; right = (is.named, ((descriptor, is.descriptor_is), tt)) }
words_of words Replay is = record { rest = []; named = is; right = tt }
words_of words (Rehearse number) is = record { rest = _; named = is.spelled; right = ((number, refl, omega arith, is.low), tt) }
words_of words (Play store descriptor listen turns window peers) is = record {
  rest = _;
  named = is.spelled;
  right = (
    is.named,
    ((descriptor, is.descriptor_is), ((listen, is.listen_is), ((turns, refl, is.some_turns, is.few), ((window, refl, is.some_window, is.narrow), first_peer_right is.dialled peers is.dialled_are is.some is.most)))),
  );
}
words_of words (Record peer life) is = record { rest = _; named = is.spelled; right = ((peer, refl, omega arith, is.low), ((life, refl, is.some, is.few), tt)) }
words_of words Audit is = record { rest = []; named = is; right = tt }

-- words that spell one of the commands have no first wrong word
pub command_not_wrong : (shapes : List Shape) (words : List (List ℕ)) (c : Command) (u : Usage) → IsOneOf shapes c → Spells words c
    → IsFirstWrong shapes words u → ⊥
command_not_wrong shapes words c u one is bad =
    let of_it = words_of words c is in
    let shown = subst (λ ws. IsFirstWrong shapes ws u) of_it.named bad in
    let judged = subst (λ o. MatchOption o (u ≡ usage 0 wrong.Command) (λ shape. IsWrongFrom shape.slots shape.peers 1 of_it.rest u)) one shown in
    never_both (shape_of c).slots (shape_of c).peers 1 of_it.rest u of_it.right judged

-- each command is one of all
pub one_of_all : (c : Command) → IsOneOf commands c
one_of_all (Import store chunk) = refl
one_of_all (Seed store descriptor listen turns) = refl
one_of_all (Fetch store target listen turns order peers) = refl
one_of_all (Check store target) = refl
one_of_all (Export store descriptor) = refl
one_of_all (Upgrade store descriptor) = refl
one_of_all Replay = refl
one_of_all (Rehearse number) = refl
one_of_all (Play store descriptor listen turns window peers) = refl
one_of_all (Record peer life) = refl
one_of_all Audit = refl
