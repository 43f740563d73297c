-- What gates may be trusted for.
use Rattle.std.specs.Prelude.{◌≡◌, ℕ, ◌<◌, ◌≤◌, true, List, length}
use Rattle.pp_terms.specs.format.Descriptor.{Descriptor, chunks_of}
use Rattle.pp_terms.specs.disk.Store.{file_size, HasHeader}
use Rattle.pp_terms.specs.disk.Image.{holds, is_open}
use Rattle.pp_terms.specs.disk.Disk.{History, IsImage}

-- An image is sound: where it begins with the header, zeros past its end, it is as long as the store, and holds each chunk
-- whose gate is open.
pub record IsSound (d : Descriptor) (image : List ℕ) : Type 0 where
  pub long : HasHeader d image → file_size d ≤ length image
  pub held : HasHeader d image → (i : ℕ) → i < chunks_of d → is_open d image i ≡ true → holds d image i ≡ true

-- Every image was sound when the store was attached.
abbrev pub BeganSound : Descriptor → History → Type 0
BeganSound d h = (image : List ℕ) → IsImage h.first image → IsSound d image
