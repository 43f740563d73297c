-- Chunks that were sent, in a table.
use Rattle.std.proofs.Common.{◌≡◌, ⊎_elim, ℕ, ◌+◌, ◌<◌, ◌≤◌, Option, Some, None, List, [], ◌∷◌, ◌++◌, length, get_or, take, map, sym, ◌∙◌, ap, subst, arith}
use Rattle.std.specs.Prelude.{MatchOption, option_to_list}
use Rattle.std.specs.List.{Contains}
use Rattle.std.proofs.lemmas.List.Elements.{Contains-push, Contains-push_cases}
use Rattle.std.proofs.lemmas.List.{map-append}
use Rattle.pp_terms.specs.format.Descriptor.{Descriptor}
use Rattle.pp_outside.specs.Outside.{address_of}
use Rattle.pp_recorded.specs.declared.entry.Entry.{Entry}
use Rattle.pp_recorded.specs.declared.entry.Life as code
use Rattle.pp_recorded.specs.Entries.{life_of}
use Rattle.pp_traffic.specs.Life.{Life}
use Rattle.pp_verdict.specs.Chunks.{SentChunk}
use Rattle.pp_verdict.specs.Reaches.{IsSentAs, HasSent, reached, IsCovered, AreCovered}
use Rattle.pp_verdict.specs.declared.reaches.SentTo.{SentTo}
use Rattle.pp_verdict.specs.declared.reaches.Reach.{Reach}
use Rattle.pp_verdict.proofs.Walks.{mapped_more}

-- with what was found of one record more
pub sent_added : (sent : List SentTo) (found : Option SentTo) (c : SentChunk) (end : ℕ) → MatchOption found ⊥ (λ s. IsSentAs c end s)
    → (s : SentTo) × Contains (sent ++ option_to_list found) s × IsSentAs c end s
sent_added sent None c end is = absurd is
sent_added sent (Some s) c end is = (s, Contains-push sent s, is)

number_same : (a b : ℕ) (o : Option ℕ) → o ≡ Some a → o ≡ Some b → b ≡ a
number_same a b o e f = cc

-- a life is covered up to the last chunk to its address and number
covered : (d : Descriptor) (entries : List Entry) (sent : List SentTo) (r : Reach) → HasSent d entries sent
    → ((s : SentTo) → Contains sent s → address_of s.address ≡ address_of r.life.address → s.channel ≡ r.life.remote → s.end ≤ r.end) → IsCovered d entries r
covered d entries sent r all ends k x c far lt is has to by =
    let s = all k x c r.life.remote lt is has by in
    let below = ends s.0 s.1 (s.2.receiver ∙ to) (number_same r.life.remote s.0.channel c.channel by s.2.channel_is) in
    absurd (omega (arith, below, s.2.end_is, far))

-- ---- one life more

pub covered_more : (d : Descriptor) (entries : List Entry) (sent : List SentTo) (old new : List Reach) (r : Reach) → new ≡ old ++ r ∷ [] → AreCovered d entries old
    → HasSent d entries sent
    → ((s : SentTo) → Contains sent s → address_of s.address ≡ address_of r.life.address → s.channel ≡ r.life.remote → s.end ≤ r.end)
    → AreCovered d entries new
covered_more d entries sent old new r is before all ends q has = ⊎_elim
    (λ there. before q there)
    (λ same. subst (λ (x : Reach). IsCovered d entries x) same (covered d entries sent r all ends))
    (Contains-push_cases old r q (subst (λ (rs : List Reach). Contains rs q) is has))

pub reached_more : (lives : List code.Life) (i : ℕ) (old new : List Reach) (r : Reach) → new ≡ old ++ r ∷ [] → map reached old ≡ map life_of (take i lives)
    → i < length lives → r.life ≡ get_or lives i r.life → map reached new ≡ map life_of (take (i + 1) lives)
reached_more lives i old new r is before lt here =
    ap (λ (rs : List Reach). map reached rs) is ∙ map-append reached old (r ∷ [])
    ∙ ap (λ (ls : List Life). ls ++ reached r ∷ []) before ∙ sym (mapped_more life_of lives i r.life lt here)
