-- A name that is no command's.
use Rattle.std.proofs.Common.{◌≡◌, Bool, true, false, Some, None, List, [], ◌∷◌, ℕ, refl, sym, subst, if◌then◌else◌, codes}
use Rattle.std.specs.Str.{bytes_eq}
use Rattle.std.proofs.lemmas.Slice.Eq.{bytes_eq-Decides}
use Rattle.pp_words.specs.CommandLine.{Shape, named, import_shape, seed_shape, fetch_shape, check_shape, export_shape, upgrade_shape, replay_shape, rehearse_shape, play_shape, record_shape, audit_shape}
use Rattle.pp_node.specs.Built.{built}

other_name : (name text : List ℕ) → (text ≡ name → ⊥) → bytes_eq name text ≡ false
other_name name text never = at (bytes_eq name text) refl
  where
    at : (b : Bool) → bytes_eq name text ≡ b → b ≡ false
    at true e = absurd (never (sym ((bytes_eq-Decides name text).0 e)))
    at false e = refl

not_first : (name : List ℕ) (shape : Shape) (shapes : List Shape) → (name ≡ shape.name → ⊥) → named name shapes ≡ None → named name (shape ∷ shapes) ≡ None
not_first name shape shapes never none =
    subst (λ (b : Bool). (if b then Some shape else named name shapes) ≡ None) (sym (other_name shape.name name never)) none

pub none_named : (name : List ℕ) → (name ≡ codes "import" → ⊥) → (name ≡ codes "seed" → ⊥) → (name ≡ codes "fetch" → ⊥) → (name ≡ codes "check" → ⊥)
    → (name ≡ codes "export" → ⊥) → (name ≡ codes "upgrade" → ⊥) → (name ≡ codes "replay" → ⊥) → (name ≡ codes "rehearse" → ⊥) → (name ≡ codes "play" → ⊥)
    → (name ≡ codes "record" → ⊥) → (name ≡ codes "audit" → ⊥) → named name built ≡ None
none_named name import seed fetch check export upgrade replay rehearse play recorded audit =
    not_first name import_shape (seed_shape ∷ fetch_shape ∷ check_shape ∷ export_shape ∷ upgrade_shape ∷ replay_shape ∷ rehearse_shape ∷ play_shape ∷ record_shape ∷ audit_shape ∷ []) import
    (not_first name seed_shape (fetch_shape ∷ check_shape ∷ export_shape ∷ upgrade_shape ∷ replay_shape ∷ rehearse_shape ∷ play_shape ∷ record_shape ∷ audit_shape ∷ []) seed
    (not_first name fetch_shape (check_shape ∷ export_shape ∷ upgrade_shape ∷ replay_shape ∷ rehearse_shape ∷ play_shape ∷ record_shape ∷ audit_shape ∷ []) fetch
    (not_first name check_shape (export_shape ∷ upgrade_shape ∷ replay_shape ∷ rehearse_shape ∷ play_shape ∷ record_shape ∷ audit_shape ∷ []) check
    (not_first name export_shape (upgrade_shape ∷ replay_shape ∷ rehearse_shape ∷ play_shape ∷ record_shape ∷ audit_shape ∷ []) export
    (not_first name upgrade_shape (replay_shape ∷ rehearse_shape ∷ play_shape ∷ record_shape ∷ audit_shape ∷ []) upgrade
    (not_first name replay_shape (rehearse_shape ∷ play_shape ∷ record_shape ∷ audit_shape ∷ []) replay
    (not_first name rehearse_shape (play_shape ∷ record_shape ∷ audit_shape ∷ []) rehearse
    (not_first name play_shape (record_shape ∷ audit_shape ∷ []) play
    (not_first name record_shape (audit_shape ∷ []) recorded
    (not_first name audit_shape [] audit refl))))))))))
