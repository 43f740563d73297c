-- One question on a channel's story, with whether a choke stands, told from one line to the next.
use Rattle.std.specs.Prelude.{ℕ, ◌==◌, nat_le, Bool, false, ◌||◌, if◌then◌else◌, List, [], ◌∷◌, length}
use Rattle.pp_terms.specs.format.Traffic.{Record, Received, Quiet, Sent}
use Rattle.pp_terms.specs.format.Descriptor.{Descriptor, chunks_of}
use Rattle.pp_terms.specs.format.Messages.{Message}
use Rattle.pp_traffic.specs.Past.{now}
use Rattle.pp_traffic.specs.Life.{Life}
use Rattle.pp_traffic.specs.Story.{Line, heard_in, said_in, told, story}
use Rattle.pp_traffic.specs.Asking.{choked_by, choked, asked_by, asked_after, asked}
use Rattle.pp_traffic.specs.Hashes.{told_by, is_told}
use Rattle.pp_tree.specs.Node.{node_of}
use Rattle.pp_recorded.specs.declared.standing.Question.{Question}
use Rattle.pp_recorded.specs.declared.standing.Question.TheVariants as q
use Rattle.pp_recorded.specs.declared.standing.Standing.{Standing}

-- the answer, of a story of a content of so many chunks
abbrev pub found_in : ℕ → Question → List Line → Bool
found_in chunks (q.Asked i) story = asked i story
found_in chunks (q.Told node) story = is_told chunks story (node_of node)

abbrev pub standing_of : ℕ → Question → List Line → Standing
standing_of chunks question story = record { choked = choked story; found = found_in chunks question story }

-- a message that came, or was sent
abbrev pub found_by : ℕ → Question → Bool → Message → Bool → Bool
found_by chunks (q.Asked i) is_choked m found = asked_by i is_choked m found
found_by chunks (q.Told node) is_choked m found = told_by chunks (node_of node) m || found

abbrev pub found_after : Question → Message → Bool → Bool
found_after (q.Asked i) m found = asked_after i m found
found_after (q.Told node) m found = found

abbrev pub heard_by : ℕ → Question → Message → Standing → Standing
heard_by chunks question m s = record { choked = s.choked; found = found_by chunks question s.choked m s.found }

abbrev pub said_by : Question → Message → Standing → Standing
said_by question m s = record { choked = choked_by m s.choked; found = found_after question m s.found }

-- what all messages of a datagram add
abbrev pub hear_all : ℕ → Question → List Message → Standing → Standing
hear_all chunks question [] s = s
hear_all chunks question (m ∷ ms) s = hear_all chunks question ms (heard_by chunks question m s)

abbrev pub say_all : Question → List Message → Standing → Standing
say_all question [] s = s
say_all question (m ∷ ms) s = say_all question ms (said_by question m s)

-- what a record adds
abbrev pub after_told : Descriptor → Question → Life → Bool → Record → Standing → Standing
after_told d question life is_opening (Received at sender bytes) s =
    hear_all (chunks_of d) question (heard_in d life is_opening (Received at sender bytes)) s
after_told d question life is_opening (Quiet at) s = s
after_told d question life is_opening (Sent moment receiver bytes) s = say_all question (said_in d life (Sent moment receiver bytes)) s

abbrev pub none : Standing
none = record { choked = false; found = false }

abbrev pub after_record : Descriptor → Question → Life → ℕ → ℕ → Record → Standing → Standing
after_record d question life from place r s = if nat_le from place then after_told d question life (life.opening == place) r s else none

-- the story from a place on
abbrev pub story_since : ℕ → Descriptor → Life → List Record → List Line
story_since from d life [] = []
story_since from d life (r ∷ before) =
    if nat_le from (length before)
    then told d life (life.opening == length before) (now (r ∷ before)) r (story_since from d life before)
    else []
