-- Images since a moment, while a history goes on.
use Rattle.std.proofs.Common.{◌≡◌, ◌⊎◌, inl, inr, ⊎_elim, ℕ, zero, suc, ◌≤◌, ◌<◌, List, [], ◌∷◌, ◌++◌, length, take, drop, Bool, refl, sym, ◌∙◌, ap, subst, append_assoc, arith}
use Rattle.std.proofs.lemmas.List.{append-nil}
use Rattle.pp_terms.specs.format.Descriptor.{Descriptor}
use Rattle.pp_terms.specs.disk.Disk.{Epoch, History, WasImage, MayLeaveSince, Throughout, IsRefusedWrite, moment_of}
use Rattle.pp_terms.specs.disk.Store.{gate_place, open_gate}
use Rattle.pp_scan.specs.Look.{synced}
use Rattle.pp_store.specs.Gates.{gates_opened, made_durable, IsRefusedGate, IsRefusedCommit}
use Rattle.pp_store.specs.Sound.{IsGated, StaysSound}
use Rattle.pp_store.proofs.Gated.{gated_sound}
use Rattle.pp_store.proofs.GateWrites.{past_opened}

-- No epoch is forgotten.
pub record Lengthens (old new : History) : Type 0 where
  pub more : List Epoch
  pub past : new.past ≡ old.past ++ more

pub same_lengthens : (old new : History) → new.past ≡ old.past → Lengthens old new
same_lengthens old new same = record { more = []; past = same ∙ sym (append-nil old.past) }

synced_lengthens : (h new : History) → new.past ≡ (synced h).past → Lengthens h new
synced_lengthens h new same = record { more = h.epoch ∷ []; past = same }

-- after a commit
pub durable_lengthens : (d : Descriptor) (set : List Bool) (old new : History) → new ≡ made_durable d set old → Lengthens old new
durable_lengthens d set old new is = record {
  more = old.epoch ∷ (gates_opened d set (synced old)).epoch ∷ [];
  past = ap (λ (h : History). h.past) is ∙ ap (λ (past : List Epoch). past ++ (gates_opened d set (synced old)).epoch ∷ []) (past_opened d set (synced old))
      ∙ append_assoc old.past (old.epoch ∷ []) ((gates_opened d set (synced old)).epoch ∷ []);
}

-- or a refused one
pub refused_lengthens : (d : Descriptor) (set : List Bool) (old new : History) → IsRefusedCommit d set old new → Lengthens old new
refused_lengthens d set old new (inl same) = same_lengthens old new (ap (λ (h : History). h.past) same)
refused_lengthens d set old new (inr (inr opened)) =
    synced_lengthens old new (ap (λ (h : History). h.past) opened ∙ past_opened d set (synced old))
refused_lengthens d set old new (inr (inl gate)) = gate_lengthens gate
  where
    by_write : (h : History) → h.past ≡ (synced old).past → (place : ℕ) (bytes : List ℕ) → IsRefusedWrite h place bytes new → Lengthens old new
    by_write h same place bytes (inl is) = synced_lengthens old new (ap (λ (x : History). x.past) is ∙ same)
    by_write h same place bytes (inr (torn, is, new_is)) = synced_lengthens old new (ap (λ (x : History). x.past) new_is ∙ same)

    gate_lengthens : IsRefusedGate d set (synced old) new → Lengthens old new
    gate_lengthens gate = by_write (gates_opened d (take gate.chunk set) (synced old)) (past_opened d (take gate.chunk set) (synced old)) (gate_place d.chunk gate.chunk) open_gate gate.refused

-- of so many pending chunks
pub commit_lengthens : (d : Descriptor) (set : List Bool) (old new : History) (n : ℕ) → (n ≡ 0 → new ≡ old) → (0 < n → new ≡ made_durable d set old) → Lengthens old new
commit_lengthens d set old new zero none some = same_lengthens old new (ap (λ (h : History). h.past) (none refl))
commit_lengthens d set old new (suc n) none some = durable_lengthens d set old new (some (omega arith))

drop_within : {X : Type 0} (n : ℕ) (xs ys : List X) → n ≤ length xs → drop n (xs ++ ys) ≡ drop n xs ++ ys
drop_within zero xs ys le = refl
drop_within (suc n) [] ys le = absurd (omega arith)
drop_within (suc n) (x ∷ xs) ys le = drop_within n xs ys (omega arith)

drop_front : {X : Type 0} (xs ys : List X) → drop (length xs) (xs ++ ys) ≡ ys
drop_front [] ys = refl
drop_front (x ∷ xs) ys = drop_front xs ys

was_either : (xs ys : List Epoch) (image : List ℕ) → WasImage (xs ++ ys) image → WasImage xs image ⊎ WasImage ys image
was_either [] ys image was = inr was
was_either (e ∷ xs) ys image (inl is) = inl (inl is)
was_either (e ∷ xs) ys image (inr was) = ⊎_elim (λ w. inl (inr w)) (λ w. inr w) (was_either xs ys image was)

-- An image since a moment is one from before, or one since now.
pub since_either : (old new : History) (moment : ℕ) (image : List ℕ) → Lengthens old new → moment ≤ moment_of old → MayLeaveSince new moment image
    → MayLeaveSince old moment image ⊎ MayLeaveSince new (moment_of old) image
since_either old new moment image longer le (inl now) = inr (inl now)
since_either old new moment image longer le (inr was) =
    let parts : WasImage (drop moment old.past ++ longer.more) image =
    subst (λ (past : List Epoch). WasImage past image) (ap (λ (past : List Epoch). drop moment past) longer.past ∙ drop_within moment old.past longer.more le) was in
    ⊎_elim (λ before. inl (inr before))
    (λ after. inr (inr (subst (λ (past : List Epoch). WasImage past image)
    (sym (ap (λ (past : List Epoch). drop (moment_of old) past) longer.past ∙ drop_front old.past longer.more)) after)))
    (was_either (drop moment old.past) longer.more image parts)

-- Where each image since now is gated, images that were sound stay so.
pub stays_sound : (d : Descriptor) (member : ℕ → Bool) (old new : History) → Lengthens old new → Throughout new (moment_of old) (IsGated d member) → StaysSound d old new
stays_sound d member old new longer gated moment le all image since =
    ⊎_elim (λ before. all image before) (λ after. gated_sound d member image (gated image after)) (since_either old new moment image longer le since)
