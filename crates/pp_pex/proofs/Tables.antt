-- The oldest contact of a table, and the first that are told.
use Rattle.std.proofs.Common.{◌≡◌, ◌⊎◌, ℕ, zero, suc, ◌≤◌, ◌<◌, Bool, true, false, cond, append-nil, List, [], ◌∷◌, ◌++◌, length, take, get_or, refl, sym, ◌∙◌, ap, subst}
use Rattle.std.specs.Prelude.{map}
use Rattle.std.specs.List.{filter}
use Rattle.std.proofs.lemmas.List.{map-append, take_at}
use Rattle.std.proofs.lemmas.List.Elements.{filter-append}
use Rattle.std.proofs.lemmas.Option.{slice_get_within, get_or_from_slice_get, slice_get-get_or}
use Rattle.pp_pex.specs.declared.table.Contact.{Contact}
use Rattle.pp_outside.specs.declared.link.Address.{Address}
use Rattle.pp_pex.specs.Exchange.{IsOldest, addresses, is_told, answers}

-- of the contacts before a place, the one that was heard longest ago
pub record IsOldestBelow (table : List Contact) (below best : ℕ) : Type 0 where
  pub low : best < below
  pub first : (k : ℕ) (d : Contact) → k < below → ((get_or table best d).moment < (get_or table k d).moment)
      ⊎ (((get_or table best d).moment ≡ (get_or table k d).moment) × (best ≤ k))

pub oldest_of_all : (table : List Contact) (best : ℕ) → IsOldestBelow table (length table) best → (d : Contact) → IsOldest table best
oldest_of_all table best below d = record {
  contact = get_or table best d;
  is_there = slice_get-get_or table best d below.low;
  first = λ k other is.
      let lt = slice_get_within table k other is in
      let at = get_or_from_slice_get table k other d is in
      subst (λ (c : Contact). ((get_or table best d).moment < c.moment) ⊎ (((get_or table best d).moment ≡ c.moment) × (best ≤ k))) at
      (below.first k d lt);
}

-- one more behind the first of a list
pub first_more : (n : ℕ) {X : Type 0} (xs ys : List X) → take n (xs ++ ys) ≡ take n (take n xs ++ ys)
first_more zero xs ys = refl
first_more (suc n) [] ys = refl
first_more (suc n) (x ∷ xs) ys = ap (λ zs. x ∷ zs) (first_more n xs ys)

-- Nothing is told behind the sixteenth.
pub full_stays : (b : Bool) (n : ℕ) {X : Type 0} (xs ys : List X) → length xs ≡ n → xs ≡ cond b (take n (xs ++ ys)) xs
full_stays true n xs ys len = sym (take_at xs ys n len)
full_stays false n xs ys len = refl

pub answers_more : (table : List Contact) (contact : Contact) (asker : Address) (now : ℕ) →
    answers (table ++ contact ∷ []) asker now
    ≡ cond (is_told asker now contact) (take 16 (answers table asker now ++ contact.address ∷ [])) (answers table asker now)
answers_more table contact asker now =
    let told = filter (is_told asker now) table in
    ap (λ xs. take 16 (addresses xs)) (filter-append (is_told asker now) table (contact ∷ []))
    ∙ elim (is_told asker now contact)
    as (λ b. take 16 (addresses (told ++ cond b (contact ∷ []) []))
    ≡ cond b (take 16 (answers table asker now ++ contact.address ∷ [])) (answers table asker now)) [
      | true ↦ ap (λ xs. take 16 xs) (map-append (λ (c : Contact). c.address) told (contact ∷ []))
          ∙ first_more 16 (map (λ (c : Contact). c.address) told) (contact.address ∷ [])
      | false ↦ ap (λ xs. take 16 (addresses xs)) (append-nil told)
    ]
