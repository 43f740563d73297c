-- Options read one after the other, as a loop does.
use Rattle.std.proofs.Common.{◌≡◌, ℕ, zero, suc, ◌+◌, ◌-◌, ◌≤◌, ◌<◌, List, ◌∷◌, length, get_or, drop, Option, Some, None, Result, Ok, Err, sym, ap, ◌∙◌, add-one, arith, ◌≢◌}
use Rattle.std.proofs.lemmas.List.{drop_all, drop-drop}
use Rattle.std.proofs.Math.Seq.{drop-cons}
use Rattle.std.proofs.lemmas.Bool.{ne_eqb}
use Rattle.pp_terms.specs.format.Options.{Options, OptionFault, Short, fault_at, unless, value_length, option_of, with_option, read_from}
use Rattle.pp_terms.proofs.Spellings.{pass, unless_none}

first_and_rest : (bytes : List ℕ) (at : ℕ) → at < length bytes → drop at bytes ≡ get_or bytes at 0 ∷ drop (at + 1) bytes
first_and_rest bytes at lt = drop-cons bytes at 0 lt ∙ ap (λ (k : ℕ). get_or bytes at 0 ∷ drop k bytes) (sym (add-one at))

-- one option is read, of a code that isn't the last
step : (n : ℕ) (seen : Options) (at code : ℕ) (rest : List ℕ) → code ≢ 255
    → read_from (suc n) seen at (code ∷ rest) ≡ unless (fault_at seen at code rest)
    (read_from n (with_option (option_of code rest) seen) (at + (1 + value_length code rest)) (drop (value_length code rest) rest))
unfolding read_from
step n seen at code rest ne = pass _ _ (ne_eqb code 255 ne)

pub ends_here : (n : ℕ) (seen : Options) (at : ℕ) (bytes : List ℕ) (total : Result (Options × ℕ) OptionFault) → at < length bytes
    → length bytes - at ≤ n → get_or bytes at 0 ≡ 255 → read_from n seen at (drop at bytes) ≡ total → Ok (seen, at + 1) ≡ total
unfolding read_from
ends_here zero seen at bytes total lt fuel last so_far = absurd (omega arith)
ends_here (suc n) seen at bytes total lt fuel last so_far =
    sym (ap (λ (t : List ℕ). read_from (suc n) seen at t) (first_and_rest bytes at lt ∙ ap (λ (k : ℕ). k ∷ drop (at + 1) bytes) last)) ∙ so_far

pub fails_here : (n : ℕ) (seen : Options) (at : ℕ) (bytes rest : List ℕ) (fault : OptionFault) (total : Result (Options × ℕ) OptionFault)
    → at < length bytes → length bytes - at ≤ n → get_or bytes at 0 ≢ 255 → rest ≡ drop (at + 1) bytes
    → Some fault ≡ fault_at seen at (get_or bytes at 0) rest → read_from n seen at (drop at bytes) ≡ total → Err fault ≡ total
unfolding read_from
fails_here zero seen at bytes rest fault total lt fuel more is e so_far = absurd (omega arith)
fails_here (suc n) seen at bytes rest fault total lt fuel more is e so_far =
    let code : ℕ = get_or bytes at 0 in
    let bytes-is : drop at bytes ≡ code ∷ rest = first_and_rest bytes at lt ∙ ap (λ (t : List ℕ). code ∷ t) (sym is) in
    let next : Result (Options × ℕ) OptionFault =
    read_from n (with_option (option_of code rest) seen) (at + (1 + value_length code rest)) (drop (value_length code rest) rest) in
    ap (λ (f : Option OptionFault). unless f next) e
    ∙ sym (ap (λ (t : List ℕ). read_from (suc n) seen at t) bytes-is ∙ step n seen at code rest more) ∙ so_far

pub goes_on : (n : ℕ) (seen : Options) (at : ℕ) (bytes rest : List ℕ) (total : Result (Options × ℕ) OptionFault)
    → at < length bytes → length bytes - at ≤ n → get_or bytes at 0 ≢ 255 → rest ≡ drop (at + 1) bytes
    → fault_at seen at (get_or bytes at 0) rest ≡ None → read_from n seen at (drop at bytes) ≡ total
    → (m : ℕ) × (length bytes - (at + (1 + value_length (get_or bytes at 0) rest)) ≤ m)
    × (read_from m (with_option (option_of (get_or bytes at 0) rest) seen) (at + (1 + value_length (get_or bytes at 0) rest))
    (drop (at + (1 + value_length (get_or bytes at 0) rest)) bytes) ≡ total)
goes_on zero seen at bytes rest total lt fuel more is e so_far = absurd (omega arith)
goes_on (suc n) seen at bytes rest total lt fuel more is e so_far =
    let code : ℕ = get_or bytes at 0 in
    let len : ℕ = value_length code rest in
    let x : Options = with_option (option_of code rest) seen in
    let bytes-is : drop at bytes ≡ code ∷ rest = first_and_rest bytes at lt ∙ ap (λ (t : List ℕ). code ∷ t) (sym is) in
    let next : Result (Options × ℕ) OptionFault = read_from n x (at + (1 + len)) (drop len rest) in
    let here : read_from (suc n) seen at (drop at bytes) ≡ next =
    ap (λ (t : List ℕ). read_from (suc n) seen at t) bytes-is ∙ step n seen at code rest more ∙ unless_none next e in
    let place : (at + 1) + len ≡ at + (1 + len) = omega arith in
    let after : drop (at + (1 + len)) bytes ≡ drop len rest =
    sym (ap (λ (t : List ℕ). drop len t) is ∙ drop-drop len (at + 1) bytes ∙ ap (λ (k : ℕ). drop k bytes) place) in
    (n, omega arith, ap (λ (t : List ℕ). read_from n x (at + (1 + len)) t) after ∙ sym here ∙ so_far)

pub is_short : (n : ℕ) (seen : Options) (at : ℕ) (bytes : List ℕ) (total : Result (Options × ℕ) OptionFault) → length bytes ≤ at
    → read_from n seen at (drop at bytes) ≡ total → Err (Short at) ≡ total
unfolding read_from
is_short zero seen at bytes total le so_far = so_far
is_short (suc n) seen at bytes total le so_far = sym (ap (λ (t : List ℕ). read_from (suc n) seen at t) (drop_all at bytes le)) ∙ so_far
