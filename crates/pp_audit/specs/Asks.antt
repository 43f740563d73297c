-- How many times a peer has asked, record by record, and whether its channel may be served.
use Rattle.std.specs.Prelude.{ℕ, nat_le, ◌==◌, Bool, not, ◌&&◌, if◌then◌else◌, List, count_by}
use Rattle.pp_terms.specs.format.Traffic.{Record, Received, Quiet, Sent}
use Rattle.pp_terms.specs.format.Descriptor.{Descriptor}
use Rattle.pp_traffic.specs.Life.{Life}
use Rattle.pp_traffic.specs.Story.{heard_in, story}
use Rattle.pp_traffic.specs.Asking.{choked, asks, asks_in, most_asks, is_heard}
use Rattle.pp_traffic.specs.Meter.{lets_send}

abbrev pub asks_by : Descriptor → Life → Bool → Record → ℕ
asks_by d life is_opening (Received at sender bytes) = count_by asks (heard_in d life is_opening (Received at sender bytes))
asks_by d life is_opening (Quiet at) = 0
asks_by d life is_opening (Sent moment receiver bytes) = 0

abbrev pub asks_at : Descriptor → Life → ℕ → Record → ℕ
asks_at d life place r = if nat_le life.opening place then asks_by d life (life.opening == place) r else 0

-- the peer isn't choked, has written, and has asked few times, and the window has room
abbrev pub may_be_served : Descriptor → List Record → Life → Bool
may_be_served d past life = not (choked (story d life past)) && is_heard d life past
    && nat_le (asks_in (story d life past)) most_asks && lets_send d.chunk (story d life past)
