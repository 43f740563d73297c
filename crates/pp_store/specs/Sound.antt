-- Images whose gates may be trusted go on being such.
use Rattle.std.specs.Prelude.{◌≡◌, ℕ, ◌<◌, ◌≤◌, Bool, true, List, length}
use Rattle.pp_terms.specs.format.Descriptor.{Descriptor, chunks_of}
use Rattle.pp_terms.specs.disk.Store.{file_size, HasHeader}
use Rattle.pp_terms.specs.disk.Image.{holds, is_open}
use Rattle.pp_terms.specs.disk.Sound.{IsSound}
use Rattle.pp_terms.specs.disk.Disk.{History, Throughout, moment_of}

-- The image begins with the header, is as long as the store, and holds each chunk whose gate is open; only chunks of the set have
-- open gates.
pub record IsGated (d : Descriptor) (member : ℕ → Bool) (image : List ℕ) : Type 0 where
  pub begins : HasHeader d image
  pub long : file_size d ≤ length image
  pub gates : (i : ℕ) → i < chunks_of d → is_open d image i ≡ true → member i ≡ true
  pub held : (i : ℕ) → i < chunks_of d → is_open d image i ≡ true → holds d image i ≡ true

-- An image stays so in every image that a crash may leave, since whatever moment it was so.
abbrev pub StaysGated : Descriptor → (ℕ → Bool) → (ℕ → Bool) → History → History → Type 0
StaysGated d before after old new =
    (moment : ℕ) → moment ≤ moment_of old → Throughout old moment (IsGated d before) → Throughout new moment (IsGated d after)

-- Where every image was sound since a moment, it goes on so.
abbrev pub StaysSound : Descriptor → History → History → Type 0
StaysSound d old new = (moment : ℕ) → moment ≤ moment_of old → Throughout old moment (IsSound d) → Throughout new moment (IsSound d)
