-- Each text is at most one address's.
use Rattle.std.proofs.Common.{◌≡◌, ℕ, ◌<◌, Bool, true, false, ◌||◌, ◌==◌, List, [], ◌∷◌, ◌++◌, codes, decimal, refl, sym, ◌∙◌, ap, subst, inl, inr, arith, append_assoc, lit≤}
use Rattle.std.specs.List.{list_any}
use Rattle.std.specs.Char.{digit_value}
use Rattle.std.specs.Str.Parse.{AllDigits}
use Rattle.std.specs.Net.Grammar.{IsDotted, IsGroupsAfter, IsColonHex}
use Rattle.std.proofs.NetLemmas.Options.{same_parts}
use Rattle.std.proofs.NetLemmas.Ipv4.{read_ipv4_complete}
use Rattle.std.proofs.NetLemmas.Ipv6.{read_ipv6_complete, EndsGroups-nil}
use Rattle.std.proofs.lemmas.Bool.{cases_eq, ne_eqb, true≢false, or_right}
use Rattle.pp_terms.specs.format.Addresses.{AreEightGroups}

-- ---- IPv4

pub dotted_same : (text a b : List ℕ) → IsDotted text a → IsDotted text b → a ≡ b
dotted_same text a b one two =
    let first = read_ipv4_complete text a [] one (lit≤ tt) in
    let second = read_ipv4_complete text b [] two (lit≤ tt) in
    (same_parts a b [] [] (sym first ∙ second)).0

-- ---- groups

is_point : ℕ → Bool
is_point c = c == 46

any_behind : (xs ys : List ℕ) → list_any (λ c. c == 46) (xs ++ ys) ≡ false → list_any (λ c. c == 46) ys ≡ false
any_behind [] ys e = e
any_behind (x ∷ xs) ys e = any_behind xs ys (or_false_right (x == 46) _ e)
  where
    or_false_right : (a b : Bool) → (a || b) ≡ false → b ≡ false
    or_false_right true b e = absurd cc
    or_false_right false b e = e

any_here : (xs ys : List ℕ) → list_any (λ c. c == 46) (xs ++ 46 ∷ ys) ≡ true
any_here [] ys = refl
any_here (x ∷ xs) ys = or_right (x == 46) _ (any_here xs ys)

none_in_both : (xs ys : List ℕ) → list_any (λ c. c == 46) xs ≡ false → list_any (λ c. c == 46) ys ≡ false → list_any (λ c. c == 46) (xs ++ ys) ≡ false
none_in_both [] ys p q = q
none_in_both (x ∷ xs) ys p q = step (x == 46) _ _ p (λ e. none_in_both xs ys e q)
  where
    step : (a b c : Bool) → (a || b) ≡ false → (b ≡ false → c ≡ false) → (a || c) ≡ false
    step true b c e k = absurd cc
    step false b c e k = k e

dotted_has_point : (text octets : List ℕ) → IsDotted text octets → list_any (λ c. c == 46) text ≡ true
dotted_has_point text octets is =
    let parts : text ≡ decimal is.a ++ (46 ∷ (decimal is.b ++ (46 ∷ (decimal is.c ++ (46 ∷ decimal is.d))))) =
    is.spelled ∙ regroup (decimal is.a) (decimal is.b) (decimal is.c) (decimal is.d) in
    ap (λ t. list_any (λ c. c == 46) t) parts ∙ any_here (decimal is.a) _
  where
    regroup : (a b c d : List ℕ) → a ++ codes "." ++ b ++ codes "." ++ c ++ codes "." ++ d ≡ a ++ (46 ∷ (b ++ (46 ∷ (c ++ (46 ∷ d)))))
    regroup a b c d = simp append_assoc

digits_no_point : (ds : List ℕ) → AllDigits 16 ds → list_any (λ c. c == 46) ds ≡ false
digits_no_point [] h = refl
digits_no_point (c ∷ cs) h = elim (cases_eq c 46) [
  | inl is ↦ (let low : digit_value 46 < 16 = subst (λ n. digit_value n < 16) is h.0 in absurd (omega arith))
  | inr other ↦ ap (λ b. b || list_any (λ c. c == 46) cs) (ne_eqb c 46 other) ∙ digits_no_point cs h.1
]

weaker : (lead text groups : List ℕ) → IsGroupsAfter false lead text groups → IsGroupsAfter true lead text groups
weaker lead text [] is = is
weaker lead text (s ∷ groups) (inl (group, rest, text_is, here, more)) = inl (group, rest, text_is, here, weaker (codes ":") rest groups more)
weaker lead text (s ∷ groups) (inr (last, octets, may, text_is, dotted, same)) = absurd cc

stronger : (lead text groups : List ℕ) → list_any (λ c. c == 46) text ≡ false → IsGroupsAfter true lead text groups → IsGroupsAfter false lead text groups
stronger lead text [] clean is = is
stronger lead text (s ∷ groups) clean (inl (group, rest, text_is, here, more)) =
    let behind = any_behind (lead ++ group) rest (ap (λ t. list_any (λ c. c == 46) t) (sym text_is) ∙ clean) in
    inl (group, rest, text_is, here, stronger (codes ":") rest groups behind more)
stronger lead text (s ∷ groups) clean (inr (last, octets, may, text_is, dotted, same)) =
    let behind = any_behind lead last (ap (λ t. list_any (λ c. c == 46) t) (sym text_is) ∙ clean) in
    let point = dotted_has_point last octets dotted in
    absurd (true≢false (sym point ∙ behind))

groups_no_point : (lead text groups : List ℕ) → list_any (λ c. c == 46) lead ≡ false → IsGroupsAfter false lead text groups → list_any (λ c. c == 46) text ≡ false
groups_no_point lead text [] clean is = ap (λ t. list_any (λ c. c == 46) t) is
groups_no_point lead text (s ∷ groups) clean (inl (group, rest, text_is, here, more)) =
    ap (λ t. list_any (λ c. c == 46) t) text_is
    ∙ none_in_both (lead ++ group) rest (none_in_both lead group clean (digits_no_point group here.0.0.1)) (groups_no_point (codes ":") rest groups refl more)
groups_no_point lead text (s ∷ groups) clean (inr (last, octets, may, text_is, dotted, same)) = absurd cc

pub no_point : (text groups : List ℕ) → AreEightGroups text groups → list_any (λ c. c == 46) text ≡ false
no_point text groups (inl is) = groups_no_point [] text groups refl is.0
no_point text groups (inr is) =
    ap (λ t. list_any (λ c. c == 46) t) is.text_is
    ∙ none_in_both (is.before_text ++ codes "::") is.after_text
    (none_in_both is.before_text (codes "::") (groups_no_point [] is.before_text is.before refl is.before_is) refl)
    (groups_no_point [] is.after_text is.after refl is.after_is)

-- in the words of the library
pub library_groups : (text groups : List ℕ) → AreEightGroups text groups → IsColonHex text groups
library_groups text groups (inl is) = inl (weaker [] text groups is.0, is.1)
library_groups text groups (inr is) = inr (record {
  head_text = is.before_text;
  tail_text = is.after_text;
  head = is.before;
  tail = is.after;
  spelled = is.text_is;
  head_groups = is.before_is;
  tail_groups = weaker [] is.after_text is.after is.after_is;
  room = is.fewer;
  value = is.groups_are;
})

pub own_groups : (text groups : List ℕ) → list_any (λ c. c == 46) text ≡ false → IsColonHex text groups → AreEightGroups text groups
own_groups text groups clean (inl is) = inl (stronger [] text groups clean is.0, is.1)
own_groups text groups clean (inr is) =
    let behind = any_behind (is.head_text ++ codes "::") is.tail_text (ap (λ t. list_any (λ c. c == 46) t) (sym is.spelled) ∙ clean) in
    inr (record {
      before_text = is.head_text;
      after_text = is.tail_text;
      before = is.head;
      after = is.tail;
      text_is = is.spelled;
      before_is = is.head_groups;
      after_is = stronger [] is.tail_text is.tail behind is.tail_groups;
      fewer = is.room;
      groups_are = is.value;
    })

pub groups_same : (text a b : List ℕ) → AreEightGroups text a → AreEightGroups text b → a ≡ b
groups_same text a b one two =
    let first = read_ipv6_complete text a [] (library_groups text a one) EndsGroups-nil in
    let second = read_ipv6_complete text b [] (library_groups text b two) EndsGroups-nil in
    (same_parts a b [] [] (sym first ∙ second)).0
