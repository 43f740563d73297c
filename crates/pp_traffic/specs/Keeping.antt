-- The promise on what is kept: every chunk that is announced, by HAVE or ACK (RFC 7574, sections 3.2 and 3.3), and every
-- chunk that was held throughout at the attachment, stands in each image that a crash at any later moment leaves. The first
-- is said of a store whose every image was sound at the attachment.
use Rattle.std.specs.Prelude.{◌≡◌, ℕ, Bool, true, false, ◌||◌, List, [], ◌∷◌}
use Rattle.pp_terms.specs.format.Traffic.{Record, Received, Quiet, Sent}
use Rattle.pp_terms.specs.format.Descriptor.{Descriptor}
use Rattle.pp_terms.specs.disk.Disk.{History, Epoch, IsImage, Throughout}
use Rattle.pp_terms.specs.disk.Image.{StandsIn}
use Rattle.pp_terms.specs.disk.Sound.{IsSound}
use Rattle.pp_terms.specs.format.Messages.{Message, Ack, Have}
use Rattle.pp_traffic.specs.Past.{read}
use Rattle.pp_terms.specs.tree.Range.{within}

-- a HAVE or an ACK among the messages covers the chunk
abbrev pub announces : ℕ → List Message → Bool
announces i [] = false
announces i (Ack span delay ∷ ms) = within span i || announces i ms
announces i (Have span ∷ ms) = within span i || announces i ms
announces i (_ ∷ ms) = announces i ms

-- Each chunk that was announced has P at the disk's moment at which it was.
abbrev pub EachAnnounced : Descriptor → (ℕ → ℕ → Type 0) → List Record → Type 0
EachAnnounced d P [] = Unit {0}
EachAnnounced d P (Received at sender bytes ∷ before) = EachAnnounced d P before
EachAnnounced d P (Quiet at ∷ before) = EachAnnounced d P before
EachAnnounced d P (Sent moment receiver bytes ∷ before) =
    ((i : ℕ) → announces i (read d (Sent moment receiver bytes)).messages.read ≡ true → P moment i) × EachAnnounced d P before

-- The chunk stands in every image that a crash may leave of what was on a disk.
abbrev pub StandsInEach : Descriptor → Epoch → ℕ → Type 0
StandsInEach d epoch i = (image : List ℕ) → IsImage epoch image → StandsIn d image i

-- The chunk stood in every image at the attachment.
abbrev pub StoodThroughout : Descriptor → History → ℕ → Type 0
StoodThroughout d h i = StandsInEach d h.first i

-- The chunk stands in every image since that moment.
abbrev pub StandsSince : Descriptor → History → ℕ → ℕ → Type 0
StandsSince d h moment i = Throughout h moment (λ image. StandsIn d image i)

-- From a moment on, at which that was on the disk: what stood throughout then stands since then, and each chunk that was
-- announced stands since it was, if every image was sound then.
pub record KeepsFrom (d : Descriptor) (h : History) (start : ℕ) (first : Epoch) (past : List Record) : Type 0 where
  pub held : (i : ℕ) → StandsInEach d first i → StandsSince d h start i
  pub announced : ((image : List ℕ) → IsImage first image → IsSound d image) → EachAnnounced d (StandsSince d h) past

-- From the last attachment on.
abbrev pub Keeps : Descriptor → History → List Record → Type 0
Keeps d h past = KeepsFrom d h h.start h.first past
