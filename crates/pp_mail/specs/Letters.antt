-- How mail is kept: the letters under keys, and each peer's queue as a list of keys.
use Rattle.std.specs.Prelude.{◌≡◌, ℕ, ◌==◌, if◌then◌else◌, Option, Some, None, is_some, List, [], map, count_by, sum_by}
use Rattle.slab.specs.Slab.{Slab as Slots, get}
use Rattle.pp_terms.specs.format.Traffic.{V4}
use Rattle.pp_outside.specs.Outside as outside
use Rattle.pp_world.specs.World.{Queued}
use Rattle.pp_mail.specs.declared.queues.Letter.{Letter}
use Rattle.pp_mail.specs.declared.queues.Mail.TheInside.{Inside}

abbrev pub queued : Letter → Queued
queued letter = record { sender = outside.address_of letter.sender; bytes = letter.bytes.items }

-- a letter that is there; where there is none, one of no bytes stands for it
abbrev pub seen : Option Letter → Queued
seen None = record { sender = V4 [] 0; bytes = [] }
seen (Some letter) = queued letter

-- the letter at a key
abbrev pub letter_at : Slots Letter → (key : ℕ) → Queued
letter_at letters key = seen (get letters key)

-- the mail of letters whose keys stand in these queues
abbrev pub mail_of : Slots Letter → (queues : List (List ℕ)) → List (List Queued)
mail_of letters queues = map (map (letter_at letters)) queues

-- how often a key stands in a queue, and in all queues
abbrev pub times_in : (key : ℕ) → List ℕ → ℕ
times_in key queue = count_by (λ k. k == key) queue

abbrev pub times : (key : ℕ) → List (List ℕ) → ℕ
times key queues = sum_by (times_in key) queues

-- Each key with a letter stands in the queues once, and no other key does.
pub record StandOnce (letters : Slots Letter) (queues : List (List ℕ)) : Type 0 where
  pub once : (key : ℕ) → times key queues ≡ (if is_some (get letters key) then 1 else 0)

-- the keys in each queue
abbrev pub keys_of : Inside → List (List ℕ)
keys_of a = map (λ queue. queue.items) a.queues.items
