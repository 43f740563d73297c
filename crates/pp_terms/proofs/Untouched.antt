-- Disks on which no byte was written since the attachment.
use Rattle.std.proofs.Common.{◌≡◌, ◌⊎◌, inl, inr, List, [], ◌∷◌, ◌++◌, length, drop, refl, sym, ◌∙◌, ap, subst, ℕ}
use Rattle.pp_terms.specs.disk.Disk.{History, Epoch, IsAttached, settled}
use Rattle.pp_terms.specs.disk.Untouched.{IsFreshlyAttached, IsOnceSynced, IsSyncedAtMost}

pub freshly_attached : (name : List ℕ) (old new : History) → IsAttached name old new → IsFreshlyAttached new
freshly_attached name old new is = record { started = is.started; began = is.began; showed = is.showed }

drop_length : {X : Type 0} (xs : List X) (x : X) → drop (length xs) (xs ++ x ∷ []) ≡ x ∷ []
drop_length [] x = refl
drop_length (y ∷ ys) x = drop_length ys x

pub sync_once : (h : History) → IsFreshlyAttached h → IsOnceSynced (settled h h.reads)
sync_once h is = record {
  ended =
      ap (λ n. drop n (h.past ++ h.epoch ∷ [])) is.started
      ∙ drop_length h.past h.epoch
      ∙ ap (λ (e : Epoch). e ∷ []) (sym is.began);
  begins = ap (λ (bytes : List ℕ). record { durable = bytes; pending = [] }) (sym is.showed);
  showed = is.showed;
}

-- after one sync or nothing at all
pub synced_at_most : (old new : History) → IsFreshlyAttached old → (new ≡ old) ⊎ (new ≡ settled old old.reads) → IsSyncedAtMost new
synced_at_most old new is (inl same) = inl (subst IsFreshlyAttached (sym same) is)
synced_at_most old new is (inr synced) = inr (subst IsOnceSynced (sym synced) (sync_once old is))

-- what reads give is what they gave at the attachment
pub synced_at_most-reads : (h : History) → IsSyncedAtMost h → h.reads ≡ h.found
synced_at_most-reads h (inl is) = sym is.showed
synced_at_most-reads h (inr is) = sym is.showed
