-- An attachment of a disk in memory, which tells no names.
use Rattle.std.proofs.Common.{◌≡◌, inl, None, List, [], ◌∷◌, ℕ, refl, sym, ◌∙◌, subst}
use Rattle.std.specs.Prelude.{Option}
use Rattle.pp_terms.specs.disk.Disk.{History, IsAttached, GainsName, fresh}
use Rattle.pp_terms.specs.disk.Calls.{Did, Calls, Wrote, Refused, Synced, Crashed, after_call, replay, attached, history_of}

replay-names : (h : History) (done : List Did) → (replay h done).names ≡ h.names
replay-names h [] = refl
replay-names h (Wrote place bytes ∷ done) = replay-names (after_call h (Wrote place bytes)) done
replay-names h (Refused place bytes ∷ done) = replay-names (after_call h (Refused place bytes)) done
replay-names h (Synced ∷ done) = replay-names (after_call h Synced) done
replay-names h (Crashed image ∷ done) = replay-names (after_call h (Crashed image)) done

gains_none : (old new : Option (List (List ℕ))) (name : List ℕ) → old ≡ None → new ≡ old → GainsName old name new
gains_none old new name none same =
    subst (λ (o : Option (List (List ℕ))). GainsName o name new) (sym none) (same ∙ none)

pub attached_again : (calls : Calls) (name : List ℕ) (new : History) → new ≡ attached (history_of calls) (history_of calls)
    → IsAttached name (history_of calls) new
attached_again calls name new is =
    subst (λ (h : History). IsAttached name (history_of calls) h) (sym is) (record {
      goes_on = inl (refl, refl, refl);
      started = refl;
      began = refl;
      showed = refl;
      named = gains_none _ _ name (replay-names (fresh calls.image) calls.done) refl;
    })
