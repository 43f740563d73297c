-- Lists in which each address stands once.
use Rattle.std.proofs.Common.{◌≡◌, ℕ, zero, suc, ◌<◌, ◌≤◌, Bool, true, false, cond, ◌||◌, Option, Some, None, List, [], ◌∷◌, ◌++◌, length, take, get_or, refl, sym, ◌∙◌, ap, subst, inl, inr, arith}
use Rattle.std.specs.Prelude.{position, slice_set, nat_eq, nat_le, nat_lt, ◌==◌, IfSome}
use Rattle.std.specs.List.{filter, position_or_len}
use Rattle.std.specs.Cmp.Lexicographic.{pointwise, same_text}
use Rattle.std.proofs.lemmas.Bool.{and_parts, and_from, or_parts, or_from, cases_Bool, cases_lt, eq-eqb, eqb-true, false_from_ne_true}
use Rattle.std.proofs.lemmas.List.Quantifiers.{position-Some}
use Rattle.std.proofs.lemmas.Bool.Decides.{nat_tests}
use Rattle.std.proofs.lemmas.List.Sums.{fails_before_first}
use Rattle.pp_terms.proofs.Facts.{bytes_same}
use Rattle.pp_outside.specs.Outside.{is_same}
use Rattle.pp_outside.specs.declared.link.Address.{Address}
use Rattle.pp_outside.specs.declared.link.Address.TheVariants.{V4, V6}
use Rattle.pp_pex.specs.declared.table.Contact.{Contact}
use Rattle.pp_pex.specs.Exchange.{is_in, IsOnce, addresses, contact_of, place_of, Hears, is_told, answers, port_of, HavePorts, is_ignored, suggested}

-- ---- addresses

same_self : (a : Address) → is_same a a ≡ true
same_self (V4 bytes port) = and_from (pointwise nat_eq bytes bytes) (port == port) (bytes_same bytes) (eq-eqb port port refl)
same_self (V6 bytes port) = and_from (pointwise nat_eq bytes bytes) (port == port) (bytes_same bytes) (eq-eqb port port refl)

same_is : (a b : Address) → is_same a b ≡ true → a ≡ b
same_is (V4 a p) (V4 b q) e =
    let parts = and_parts (pointwise nat_eq a b) (p == q) e in
    ap (λ (xs : List ℕ). V4 xs p) (same_text a b (sym parts.0)) ∙ ap (λ (n : ℕ). V4 b n) (eqb-true p q parts.1)
same_is (V4 a p) (V6 b q) e = absurd cc
same_is (V6 a p) (V4 b q) e = absurd cc
same_is (V6 a p) (V6 b q) e =
    let parts = and_parts (pointwise nat_eq a b) (p == q) e in
    ap (λ (xs : List ℕ). V6 xs p) (same_text a b (sym parts.0)) ∙ ap (λ (n : ℕ). V6 b n) (eqb-true p q parts.1)

apart : (a b : Address) → is_same a b ≡ false → is_same b a ≡ false
apart a b e = false_from_ne_true (is_same b a) (λ same.
    let there : is_same a b ≡ true = subst (λ (x : Address). is_same a x ≡ true) (sym (same_is b a same)) (same_self a) in
    cc)

-- ---- less of a list

filter_absent : (p : Contact → Bool) (table : List Contact) (a : Address) → is_in (addresses table) a ≡ false → is_in (addresses (filter p table)) a ≡ false
filter_absent p [] a absent = absent
filter_absent p (c ∷ cs) a absent =
    let parts = or_parts (is_same c.address a) (is_in (addresses cs) a) absent in
    let rest = filter_absent p cs a parts.1 in
    elim (p c) as (λ b. is_in (addresses (cond b (c ∷ filter p cs) (filter p cs))) a ≡ false) [
      | true ↦ or_from (is_same c.address a) (is_in (addresses (filter p cs)) a) parts.0 rest
      | false ↦ rest
    ]

filter_once : (p : Contact → Bool) (table : List Contact) → IsOnce (addresses table) → IsOnce (addresses (filter p table))
filter_once p [] once = tt
filter_once p (c ∷ cs) once =
    let rest = filter_once p cs once.1 in
    elim (p c) as (λ b. IsOnce (addresses (cond b (c ∷ filter p cs) (filter p cs)))) [
      | true ↦ (filter_absent p cs c.address once.0, rest)
      | false ↦ rest
    ]

take_absent : (n : ℕ) (list : List Address) (a : Address) → is_in list a ≡ false → is_in (take n list) a ≡ false
take_absent zero list a absent = refl
take_absent (suc n) [] a absent = refl
take_absent (suc n) (x ∷ xs) a absent =
    let parts = or_parts (is_same x a) (is_in xs a) absent in
    or_from (is_same x a) (is_in (take n xs) a) parts.0 (take_absent n xs a parts.1)

take_once : (n : ℕ) (list : List Address) → IsOnce list → IsOnce (take n list)
take_once zero list once = tt
take_once (suc n) [] once = tt
take_once (suc n) (x ∷ xs) once = (take_absent n xs x once.0, take_once n xs once.1)

pub answers_once : (table : List Contact) (asker : Address) (now : ℕ) → IsOnce (addresses table) → IsOnce (answers table asker now)
answers_once table asker now once =
    take_once 16 (addresses (filter (is_told asker now) table)) (filter_once (is_told asker now) table once)

-- ---- one more

push_absent : (list : List Address) (a b : Address) → is_in list b ≡ false → is_same a b ≡ false → is_in (list ++ a ∷ []) b ≡ false
push_absent [] a b absent ne = or_from (is_same a b) false ne refl
push_absent (x ∷ xs) a b absent ne =
    let parts = or_parts (is_same x b) (is_in xs b) absent in
    or_from (is_same x b) (is_in (xs ++ a ∷ []) b) parts.0 (push_absent xs a b parts.1 ne)

pub push_once : (list : List Address) (a : Address) → is_in list a ≡ false → IsOnce list → IsOnce (list ++ a ∷ [])
push_once [] a absent once = (refl, tt)
push_once (x ∷ xs) a absent once =
    let parts = or_parts (is_same x a) (is_in xs a) absent in
    (push_absent xs a x once.0 (apart x a parts.0), push_once xs a parts.1 once.1)

set_absent : (list : List Address) (k : ℕ) (a b : Address) → is_in list b ≡ false → is_same a b ≡ false → is_in (slice_set list k a) b ≡ false
set_absent [] k a b absent ne = absent
set_absent (x ∷ xs) zero a b absent ne =
    let parts = or_parts (is_same x b) (is_in xs b) absent in
    or_from (is_same a b) (is_in xs b) ne parts.1
set_absent (x ∷ xs) (suc k) a b absent ne =
    let parts = or_parts (is_same x b) (is_in xs b) absent in
    or_from (is_same x b) (is_in (slice_set xs k a) b) parts.0 (set_absent xs k a b parts.1 ne)

set_once : (list : List Address) (k : ℕ) (a : Address) → is_in list a ≡ false → IsOnce list → IsOnce (slice_set list k a)
set_once [] k a absent once = tt
set_once (x ∷ xs) zero a absent once = (let parts = or_parts (is_same x a) (is_in xs a) absent in (parts.1, once.1))
set_once (x ∷ xs) (suc k) a absent once =
    let parts = or_parts (is_same x a) (is_in xs a) absent in
    (set_absent xs k a x once.0 (apart x a parts.0), set_once xs k a parts.1 once.1)

-- ---- the table

addresses-set : (table : List Contact) (k : ℕ) (c : Contact) → addresses (slice_set table k c) ≡ slice_set (addresses table) k c.address
addresses-set [] k c = refl
addresses-set (x ∷ xs) zero c = refl
addresses-set (x ∷ xs) (suc k) c = ap (λ (list : List Address). x.address ∷ list) (addresses-set xs k c)

addresses-push : (table : List Contact) (c : Contact) → addresses (table ++ c ∷ []) ≡ addresses table ++ c.address ∷ []
addresses-push [] c = refl
addresses-push (x ∷ xs) c = ap (λ (list : List Address). x.address ∷ list) (addresses-push xs c)

-- an address that has no place is not there
none_there : (table : List Contact) (a : Address) → ((k : ℕ) (d : Contact) → k < length table → is_same (get_or table k d).address a ≡ false)
    → is_in (addresses table) a ≡ false
none_there [] a none = refl
none_there (c ∷ cs) a none =
    or_from (is_same c.address a) (is_in (addresses cs) a) (none 0 c (omega arith)) (none_there cs a (λ k d lt. none (suc k) d (omega arith)))

same_again : (table : List Contact) (k : ℕ) (c : Contact) → (get_or table k c).address ≡ c.address → addresses (slice_set table k c) ≡ addresses table
same_again [] k c same = refl
same_again (x ∷ xs) zero c same = ap (λ (a : Address). a ∷ addresses xs) (sym same)
same_again (x ∷ xs) (suc k) c same = ap (λ (list : List Address). x.address ∷ list) (same_again xs k c same)

-- one that is heard again
pub again_once : (table : List Contact) (k : ℕ) (c : Contact) → place_of table c.address ≡ Some k → IsOnce (addresses table) → IsOnce (addresses (slice_set table k c))
again_once table k c is once =
    let found = position-Some (λ (other : Contact). is_same other.address c.address) table k c is in
    subst IsOnce (sym (same_again table k c (same_is (get_or table k c).address c.address found.1))) once

-- where nothing passes, each place is before the first that does
all_before : (p : Contact → Bool) (xs : List Contact) (k : ℕ) → position p xs ≡ None → k < length xs → k < position_or_len p xs
all_before p xs k none lt =
    let first = position_or_len p xs in
    elim (cases_Bool (nat_lt first (length xs))) [
      | inl t ↦
          let e : position p xs ≡ Some first = ap (λ b. cond b (Some first) None) t in
          cc
      | inr f ↦ let past : length xs ≤ first = grind (arith, nat_tests) in omega arith
    ]

unheard : (table : List Contact) (a : Address) → place_of table a ≡ None → is_in (addresses table) a ≡ false
unheard table a none =
    let p = λ (other : Contact). is_same other.address a in
    none_there table a (λ k d lt. fails_before_first p table k d (all_before p table k none lt))

heard_anew : (old : List Contact) (a : Address) (now : ℕ) (new : List Contact) → Hears old a now new → place_of old a ≡ None
    → IsOnce (addresses old) → IsOnce (addresses new)
heard_anew old a now new hears none once =
    let absent = unheard old a none in
    elim (cases_lt (length old) 64) [
      | inl lt ↦
          subst (λ (xs : List Contact). IsOnce (addresses xs)) (sym (hears.added none lt))
          (subst IsOnce (sym (addresses-push old (contact_of a now))) (push_once (addresses old) a absent once))
      | inr ge ↦
          let full = hears.full none ge in
          subst (λ (xs : List Contact). IsOnce (addresses xs)) (sym full.2)
          (subst IsOnce (sym (addresses-set old full.0 (contact_of a now))) (set_once (addresses old) full.0 a absent once))
    ]

heard_at : (o : Option ℕ) (old : List Contact) (a : Address) (now : ℕ) (new : List Contact) → Hears old a now new → place_of old a ≡ o
    → IfSome o (λ place. new ≡ slice_set old place (contact_of a now)) → IsOnce (addresses old) → IsOnce (addresses new)
heard_at (Some place) old a now new hears is again once =
    subst (λ (xs : List Contact). IsOnce (addresses xs)) (sym again) (again_once old place (contact_of a now) is once)
heard_at None old a now new hears is again once = heard_anew old a now new hears is once

pub hears_once : (old : List Contact) (a : Address) (now : ℕ) (new : List Contact) → Hears old a now new
    → IsOnce (addresses old) → IsOnce (addresses new)
hears_once old a now new hears once = heard_at (place_of old a) old a now new hears refl hears.again once

-- ---- the queue

ports_more : (queue : List Address) (a : Address) → 0 < port_of a → HavePorts queue → HavePorts (queue ++ a ∷ [])
ports_more [] a port ports = (port, tt)
ports_more (x ∷ xs) a port ports = (ports.0, ports_more xs a port ports.1)

taken_in : (queue : List Address) (a : Address) → is_ignored queue a ≡ false → IsOnce queue → HavePorts queue
    → IsOnce (queue ++ a ∷ []) × HavePorts (queue ++ a ∷ [])
taken_in queue a no_test once ports =
    let parts = or_parts ((port_of a == 0) || is_in queue a) (nat_le 64 (length queue)) no_test in
    let first = or_parts (port_of a == 0) (is_in queue a) parts.0 in
    let port : 0 < port_of a = (let zero_no = first.0 in grind (arith, nat_tests)) in
    (push_once queue a first.1 once, ports_more queue a port ports)

suggested_by : (b : Bool) (queue : List Address) (a : Address) → is_ignored queue a ≡ b → IsOnce queue → HavePorts queue
    → IsOnce (cond b queue (queue ++ a ∷ [])) × HavePorts (cond b queue (queue ++ a ∷ []))
suggested_by true queue a is once ports = (once, ports)
suggested_by false queue a is once ports = taken_in queue a is once ports

pub suggested_once : (queue : List Address) (a : Address) → IsOnce queue → HavePorts queue → IsOnce (suggested queue a) × HavePorts (suggested queue a)
suggested_once queue a once ports = suggested_by (is_ignored queue a) queue a refl once ports
