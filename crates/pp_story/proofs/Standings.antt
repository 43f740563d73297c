-- What is kept of a story, one line on.
use Rattle.std.proofs.Common.{◌≡◌, ℕ, ◌<◌, ◌==◌, Bool, true, false, cond, ◌||◌, List, [], ◌∷◌, refl, sym, ◌∙◌, ap, subst}
use Rattle.pp_terms.specs.tree.Tree.{Node}
use Rattle.pp_terms.specs.format.Descriptor.{Descriptor, chunks_of}
use Rattle.pp_terms.specs.format.Messages.{Message, Data, Ack}
use Rattle.pp_traffic.specs.Story.{Line, Heard, Said, Taken}
use Rattle.pp_traffic.specs.Asking.{choked_by, choked, asked_by, asked_after}
use Rattle.pp_traffic.specs.Hashes.{told_by}
use Rattle.pp_traffic.specs.Meter.{Meter, new_meter, hits, settled, is_due, timed_out, heard_by, said_by, ended, meter}
use Rattle.pp_tree.specs.Bits.{bit_of}
use Rattle.pp_plan.specs.Told.{knows}
use Rattle.pp_story.specs.Stories.{StoryState, StandsFor, Hears, Says}

-- a chunk of the content is one of those that are kept
below : (old : StoryState) (d : Descriptor) (s : List Line) (i : ℕ) → StandsFor old d s → i < chunks_of d → i < old.told.chunks
below old d s i is lt = subst (λ (n : ℕ). i < n) (sym is.chunks) lt

pub heard : (now : ℕ) (m : Message) (old new : StoryState) → Hears now m old new → (d : Descriptor) (s : List Line) → StandsFor old d s → StandsFor new d (Heard now m ∷ s)
heard now m old new hears d s is = record {
  chunks = hears.chunks ∙ is.chunks;
  chokes = hears.chokes ∙ is.chokes;
  asks = λ i lt. hears.asks i (below old d s i is lt)
      ∙ ap (λ (b : Bool). asked_by i b m (bit_of old.requests i)) is.chokes ∙ ap (λ (b : Bool). asked_by i (choked s) m b) (is.asks i lt);
  tells = λ n. hears.tells n
      ∙ ap (λ (k : ℕ). told_by k n m || knows old.told n) is.chunks ∙ ap (λ (b : Bool). told_by (chunks_of d) n m || b) (is.tells n);
  meters = hears.meters ∙ ap (λ (w : Meter). heard_by now m w) is.meters;
}

pub said : (now : ℕ) (m : Message) (old new : StoryState) → Says now m old new → (d : Descriptor) (s : List Line) → StandsFor old d s → StandsFor new d (Said now m ∷ s)
said now m old new says d s is = record {
  chunks = says.chunks ∙ is.chunks;
  chokes = says.chokes ∙ ap (λ (b : Bool). choked_by m b) is.chokes;
  asks = λ i lt. says.asks i (below old d s i is lt) ∙ ap (λ (b : Bool). asked_after i m b) (is.asks i lt);
  tells = λ n. says.tells n ∙ is.tells n;
  meters = says.meters ∙ ap (λ (w : Meter). said_by now m w) is.meters;
}

-- a wait changes the window alone
pub waited : (now : ℕ) (old : StoryState) (window : Meter) → window ≡ ended now old.window
    → (d : Descriptor) (s : List Line) → StandsFor old d s → StandsFor (record old { window = window }) d (Taken now ∷ s)
waited now old window ends d s is = record {
  chunks = is.chunks;
  chokes = is.chokes;
  asks = is.asks;
  tells = is.tells;
  meters = ends ∙ ap (λ (w : Meter). ended now w) is.meters;
}

pub waited_by : {kept old new : StoryState} {now : ℕ} → kept ≡ old
    → ((d : Descriptor) (s : List Line) → StandsFor kept d s → StandsFor new d (Taken now ∷ s))
    → (d : Descriptor) (s : List Line) → StandsFor old d s → StandsFor new d (Taken now ∷ s)
waited_by is step d s stands = step d s (subst (λ (k : StoryState). StandsFor k d s) (sym is) stands)

-- the chunk size of a window stays
either_size : (b : Bool) (m n : Meter) → m.chunk ≡ n.chunk → (cond b m n).chunk ≡ n.chunk
either_size true m n same = same
either_size false m n same = refl

heard_size : (now : ℕ) (message : Message) (m : Meter) → (heard_by now message m).chunk ≡ m.chunk
heard_size now (Ack span delay) m = either_size (hits span.first span.last m.entries == 0) m (settled span.first span.last delay now m) refl
heard_size now _ m = refl

said_size : (now : ℕ) (message : Message) (m : Meter) → (said_by now message m).chunk ≡ m.chunk
said_size now (Data chunk sent_at bytes) m = refl
said_size now _ m = refl

meter_size : (chunk : ℕ) (s : List Line) → (meter chunk s).chunk ≡ chunk
meter_size chunk [] = refl
meter_size chunk (Heard now message ∷ before) = heard_size now message (meter chunk before) ∙ meter_size chunk before
meter_size chunk (Said now message ∷ before) = said_size now message (meter chunk before) ∙ meter_size chunk before
meter_size chunk (Taken now ∷ before) =
    either_size (is_due now (meter chunk before)) (timed_out now (meter chunk before)) (meter chunk before) refl ∙ meter_size chunk before

-- what is kept of the empty story
pub record IsEmpty (kept : StoryState) (chunk : ℕ) : Type 0 where
  pub chokes : kept.is_choked ≡ false
  pub asks : (i : ℕ) → bit_of kept.requests i ≡ false
  pub tells : (n : Node) → knows kept.told n ≡ false
  pub meters : kept.window ≡ new_meter chunk

pub begun : (kept : StoryState) (chunk : ℕ) (d : Descriptor) → IsEmpty kept chunk → kept.told.chunks ≡ chunks_of d → chunk ≡ d.chunk → StandsFor kept d []
begun kept chunk d none size is = record {
  chunks = size;
  chokes = none.chokes;
  asks = λ i lt. none.asks i;
  tells = none.tells;
  meters = none.meters ∙ ap (λ (k : ℕ). new_meter k) is;
}

pub begun_again : (old new : StoryState) → new.told.chunks ≡ old.told.chunks → IsEmpty new old.window.chunk
    → (d : Descriptor) (s : List Line) → StandsFor old d s → StandsFor new d []
begun_again old new same none d s is =
    begun new old.window.chunk d none (same ∙ is.chunks) (ap (λ (m : Meter). m.chunk) is.meters ∙ meter_size d.chunk s)

-- What is kept stands for a story from which the messages that are left lead to the whole.
abbrev pub LeadsTo : (List Message → List Line → List Line) → StoryState → Descriptor → List Message → List Line → Type 0
LeadsTo adds kept d rest whole = (s : List Line) × StandsFor kept d s × (adds rest s ≡ whole)
