-- What one message changes.
use Rattle.std.proofs.Common.{◌≡◌, ℕ, ◌*◌, ◌<◌, ◌≤◌, ◌==◌, nat_le, Bool, true, false, not, ◌&&◌, ◌||◌, List, length, refl, ◌∙◌, ap, subst, arith}
use Rattle.std.proofs.lemmas.Bool.Decides.{nat_tests}
use Rattle.pp_terms.specs.tree.Tree.{Node}
use Rattle.pp_terms.specs.tree.Range.{Span, within}
use Rattle.pp_terms.specs.format.Messages.{Message, Data, Ack, Have, Request, Cancel, Choke, Unchoke}
use Rattle.pp_traffic.specs.Hashes.{tells}
use Rattle.pp_traffic.specs.Meter.{Meter, sent, acked}
use Rattle.pp_tree.specs.Bits.{bit_of}
use Rattle.pp_plan.specs.Told.{ToldNodes, knows}
use Rattle.pp_story.specs.Stories.{StoryState, Hears, Says}

-- each chunk of the content has a bit
abbrev HasAllBits : StoryState → Type 0
HasAllBits old = old.told.chunks ≤ 64 * length old.requests

inside : (old : StoryState) (i : ℕ) → HasAllBits old → i < old.told.chunks → i < 64 * length old.requests
inside old i all lt = omega (arith, all, lt)

-- what came
unchoked : (a b c : Bool) → c ≡ false → (a || b) ≡ ((a && not c) || b)
unchoked true b true e = absurd cc
unchoked true b false e = refl
unchoked false b c e = refl

pub hears_request : (old : StoryState) (bits : List ℕ) (span : Span) (now : ℕ) → HasAllBits old → old.is_choked ≡ false
    → ((i : ℕ) → i < 64 * length old.requests → bit_of bits i ≡ (within span i || bit_of old.requests i))
    → Hears now (Request span) old (record old { requests = bits })
hears_request old bits span now all free more = record {
  chunks = refl;
  chokes = refl;
  asks = λ i lt. more i (inside old i all lt) ∙ unchoked (within span i) (bit_of old.requests i) old.is_choked free;
  tells = λ n. refl;
  meters = refl;
}

pub hears_cancel : (old : StoryState) (bits : List ℕ) (span : Span) (now : ℕ) → HasAllBits old
    → ((i : ℕ) → i < 64 * length old.requests → bit_of bits i ≡ (not (within span i) && bit_of old.requests i))
    → Hears now (Cancel span) old (record old { requests = bits })
hears_cancel old bits span now all less = record {
  chunks = refl;
  chokes = refl;
  asks = λ i lt. less i (inside old i all lt);
  tells = λ n. refl;
  meters = refl;
}

pub hears_have : (old : StoryState) (told : ToldNodes) (span : Span) (now : ℕ) → told.chunks ≡ old.told.chunks
    → ((n : Node) → knows told n ≡ (tells old.told.chunks span n || knows old.told n))
    → Hears now (Have span) old (record old { told = told })
hears_have old told span now same more = record { chunks = same; chokes = refl; asks = λ i lt. refl; tells = more; meters = refl }

pub hears_ack : (old : StoryState) (told : ToldNodes) (window : Meter) (span : Span) (delay now : ℕ) → told.chunks ≡ old.told.chunks
    → ((n : Node) → knows told n ≡ (tells old.told.chunks span n || knows old.told n))
    → window ≡ acked span.first span.last delay now old.window
    → Hears now (Ack span delay) old (record old { told = told; window = window })
hears_ack old told window span delay now same more is = record { chunks = same; chokes = refl; asks = λ i lt. refl; tells = more; meters = is }

-- what was sent
only_one : (chunk i : ℕ) → (nat_le chunk i && nat_le i chunk) ≡ (chunk == i)
only_one chunk i = grind (arith, nat_tests)

pub says_data : (old : StoryState) (bits : List ℕ) (window : Meter) (chunk now sent_at : ℕ) (bytes : List ℕ) → HasAllBits old
    → ((i : ℕ) → i < 64 * length old.requests → bit_of bits i ≡ (not (nat_le chunk i && nat_le i chunk) && bit_of old.requests i))
    → window ≡ sent chunk now old.window
    → Says now (Data chunk sent_at bytes) old (record old { requests = bits; window = window })
says_data old bits window chunk now sent_at bytes all less is = record {
  chunks = refl;
  chokes = refl;
  asks = λ i lt. less i (inside old i all lt) ∙ ap (λ (b : Bool). not b && bit_of old.requests i) (only_one chunk i);
  tells = λ n. refl;
  meters = is;
}

pub says_choke : (old : StoryState) (bits : List ℕ) (now : ℕ) → ((i : ℕ) → bit_of bits i ≡ false)
    → Says now Choke old (record old { is_choked = true; requests = bits })
says_choke old bits now none = record { chunks = refl; chokes = refl; asks = λ i lt. none i; tells = λ n. refl; meters = refl }

pub says_unchoke : (old : StoryState) (now : ℕ) → Says now Unchoke old (record old { is_choked = false })
says_unchoke old now = record { chunks = refl; chokes = refl; asks = λ i lt. refl; tells = λ n. refl; meters = refl }

-- what is seen of a story's parts is its state
pub hears_by : {kept old new : StoryState} {m : Message} {now : ℕ} → kept ≡ old → Hears now m kept new → Hears now m old new
hears_by {new = new} {m = m} {now = now} is hears = subst (λ (k : StoryState). Hears now m k new) is hears

pub says_by : {kept old new : StoryState} {m : Message} {now : ℕ} → kept ≡ old → Says now m kept new → Says now m old new
says_by {new = new} {m = m} {now = now} is says = subst (λ (k : StoryState). Says now m k new) is says
