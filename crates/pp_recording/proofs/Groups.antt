-- The groups of sixteen bytes.
use Rattle.std.proofs.Common.{◌≡◌, ℕ, List, [], ◌∷◌, length, append_assoc, refl, arith}
use Rattle.std.proofs.lemmas.List.{append-nil}
use Rattle.std.specs.Net.Addr.{segments_of}
use Rattle.std.specs.Net.Text.{groups_text}
use Rattle.pp_recording.specs.Groups.{first_groups}

pub all_groups : (bytes : List ℕ) → length bytes ≡ 16 → first_groups bytes 8 ≡ groups_text (segments_of bytes)
all_groups ([]) size = absurd (omega arith)
all_groups (a ∷ []) size = absurd (omega arith)
all_groups (a ∷ b ∷ []) size = absurd (omega arith)
all_groups (a ∷ b ∷ c ∷ []) size = absurd (omega arith)
all_groups (a ∷ b ∷ c ∷ d ∷ []) size = absurd (omega arith)
all_groups (a ∷ b ∷ c ∷ d ∷ e ∷ []) size = absurd (omega arith)
all_groups (a ∷ b ∷ c ∷ d ∷ e ∷ f ∷ []) size = absurd (omega arith)
all_groups (a ∷ b ∷ c ∷ d ∷ e ∷ f ∷ g ∷ []) size = absurd (omega arith)
all_groups (a ∷ b ∷ c ∷ d ∷ e ∷ f ∷ g ∷ h ∷ []) size = absurd (omega arith)
all_groups (a ∷ b ∷ c ∷ d ∷ e ∷ f ∷ g ∷ h ∷ i ∷ []) size = absurd (omega arith)
all_groups (a ∷ b ∷ c ∷ d ∷ e ∷ f ∷ g ∷ h ∷ i ∷ j ∷ []) size = absurd (omega arith)
all_groups (a ∷ b ∷ c ∷ d ∷ e ∷ f ∷ g ∷ h ∷ i ∷ j ∷ k ∷ []) size = absurd (omega arith)
all_groups (a ∷ b ∷ c ∷ d ∷ e ∷ f ∷ g ∷ h ∷ i ∷ j ∷ k ∷ l ∷ []) size = absurd (omega arith)
all_groups (a ∷ b ∷ c ∷ d ∷ e ∷ f ∷ g ∷ h ∷ i ∷ j ∷ k ∷ l ∷ m ∷ []) size = absurd (omega arith)
all_groups (a ∷ b ∷ c ∷ d ∷ e ∷ f ∷ g ∷ h ∷ i ∷ j ∷ k ∷ l ∷ m ∷ n ∷ []) size = absurd (omega arith)
all_groups (a ∷ b ∷ c ∷ d ∷ e ∷ f ∷ g ∷ h ∷ i ∷ j ∷ k ∷ l ∷ m ∷ n ∷ o ∷ []) size = absurd (omega arith)
all_groups (a ∷ b ∷ c ∷ d ∷ e ∷ f ∷ g ∷ h ∷ i ∷ j ∷ k ∷ l ∷ m ∷ n ∷ o ∷ p ∷ []) size = simp (append_assoc, append-nil) refl
all_groups (a ∷ b ∷ c ∷ d ∷ e ∷ f ∷ g ∷ h ∷ i ∷ j ∷ k ∷ l ∷ m ∷ n ∷ o ∷ p ∷ q ∷ more) size = absurd (omega arith)
