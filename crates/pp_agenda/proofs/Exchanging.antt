-- What the notes acknowledge and answer.
use Rattle.std.proofs.Common.{◌≡◌, List, [], ◌∷◌, ◌++◌, map, refl, ap}
use Rattle.std.specs.List.{AllByRecursion}
use Rattle.pp_outside.specs.declared.link.Address.{Address}
use Rattle.pp_outside.specs.declared.link.Address.TheVariants.{V4, V6}
use Rattle.pp_draft.specs.declared.note.Note.{Note}
use Rattle.pp_draft.specs.declared.note.Note.TheVariants.{Ack, Pex4, Pex6}
use Rattle.pp_news.specs.declared.acknowledgement.Acknowledgement.{Acknowledgement}
use Rattle.pp_agenda.specs.Agendas.{ack_note, address_note}
use Rattle.pp_agenda.specs.Laws.{acked, addressed}

abbrev pub IsNoAck : Note → Type 0
IsNoAck (Ack range delay) = ⊥
IsNoAck _ = Unit {0}

abbrev pub IsNoAddress : Note → Type 0
IsNoAddress (Pex4 address port) = ⊥
IsNoAddress (Pex6 address port) = ⊥
IsNoAddress _ = Unit {0}

pub acked-append : (xs ys : List Note) → acked (xs ++ ys) ≡ acked xs ++ acked ys
acked-append [] ys = refl
acked-append (Ack range delay ∷ xs) ys = ap (λ (zs : List Acknowledgement). record { range = range; delay = delay } ∷ zs) (acked-append xs ys)
acked-append (_ ∷ xs) ys = acked-append xs ys

pub acked_none : (xs : List Note) → AllByRecursion IsNoAck xs → acked xs ≡ []
acked_none [] a = refl
acked_none (Ack range delay ∷ xs) a = absurd a.0
acked_none (_ ∷ xs) a = acked_none xs a.1

pub acked-map : (xs : List Acknowledgement) → acked (map ack_note xs) ≡ xs
acked-map [] = refl
acked-map (x ∷ xs) = ap (λ (zs : List Acknowledgement). x ∷ zs) (acked-map xs)

pub addressed-append : (xs ys : List Note) → addressed (xs ++ ys) ≡ addressed xs ++ addressed ys
addressed-append [] ys = refl
addressed-append (Pex4 address port ∷ xs) ys = ap (λ (zs : List Address). V4 address port ∷ zs) (addressed-append xs ys)
addressed-append (Pex6 address port ∷ xs) ys = ap (λ (zs : List Address). V6 address port ∷ zs) (addressed-append xs ys)
addressed-append (_ ∷ xs) ys = addressed-append xs ys

pub addressed_none : (xs : List Note) → AllByRecursion IsNoAddress xs → addressed xs ≡ []
addressed_none [] a = refl
addressed_none (Pex4 address port ∷ xs) a = absurd a.0
addressed_none (Pex6 address port ∷ xs) a = absurd a.0
addressed_none (_ ∷ xs) a = addressed_none xs a.1

pub addressed-map : (xs : List Address) → addressed (map address_note xs) ≡ xs
addressed-map [] = refl
addressed-map (V4 bytes port ∷ xs) = ap (λ (zs : List Address). V4 bytes port ∷ zs) (addressed-map xs)
addressed-map (V6 bytes port ∷ xs) = ap (λ (zs : List Address). V6 bytes port ∷ zs) (addressed-map xs)
