-- Past the greatest number that the messages of a traffic name, nothing is asked for or announced.
use Rattle.std.proofs.Common.{◌≡◌, ℕ, ◌<◌, Bool, false, not, ◌&&◌, List, [], ◌∷◌, refl, ap, arith}
use Rattle.std.specs.List.{AllByRecursion}
use Rattle.std.proofs.lemmas.Bool.{and_right, or_from, false_from_ne_true, both_ways}
use Rattle.pp_terms.specs.format.Traffic.{Record, Received, Quiet, Sent}
use Rattle.pp_terms.specs.format.Descriptor.{Descriptor}
use Rattle.pp_terms.specs.format.Messages.{Message, Handshake, Data, Ack, Have, Integrity, Pex4, PexReq, Request, Cancel, Choke, Unchoke, Pex6}
use Rattle.pp_terms.specs.tree.Range.{within}
use Rattle.pp_terms.proofs.Within.{within_past}
use Rattle.pp_traffic.specs.Past.{read}
use Rattle.pp_traffic.specs.Life.{Life}
use Rattle.pp_traffic.specs.Story.{Line, Heard, Said, Taken, story}
use Rattle.pp_traffic.specs.Asking.{choked, asked_by, asked}
use Rattle.pp_traffic.specs.Keeping.{announces}
use Rattle.pp_traffic.proofs.Chokes.{said_none}
use Rattle.pp_promises.specs.Served.{is_announced, is_owed}
use Rattle.pp_promises.proofs.ReadStories.{owed_is_asked}
use Rattle.pp_audit.specs.Alike.{top_in, top_of, top}
use Rattle.pp_audit.proofs.AlikeNumbers.{AllLines, story_by}

-- A message doesn't name the number.
abbrev pub IsPast : ℕ → Message → Type 0
IsPast i (Ack span delay) = within span i ≡ false
IsPast i (Have span) = within span i ≡ false
IsPast i (Request span) = within span i ≡ false
IsPast i _ = Unit {0}

message_past : (i : ℕ) (m : Message) → top_in m < i → IsPast i m
message_past i (Handshake source options) lt = tt
message_past i (Data chunk sent_at bytes) lt = tt
message_past i (Ack span delay) lt = within_past span i lt
message_past i (Have span) lt = within_past span i lt
message_past i (Integrity span digest) lt = tt
message_past i (Pex4 address port) lt = tt
message_past i PexReq lt = tt
message_past i (Request span) lt = within_past span i lt
message_past i (Cancel span) lt = tt
message_past i Choke lt = tt
message_past i Unchoke lt = tt
message_past i (Pex6 address port) lt = tt

messages_past : (i : ℕ) (ms : List Message) → top_of ms < i → AllByRecursion (IsPast i) ms
messages_past i [] lt = tt
messages_past i (m ∷ ms) lt = (message_past i m (omega (arith, lt)), messages_past i ms (omega (arith, lt)))

all_past : (d : Descriptor) (i : ℕ) (past : List Record) → top d past < i → AllByRecursion (λ r. AllByRecursion (IsPast i) (read d r).messages.read) past
all_past d i [] lt = tt
all_past d i (r ∷ before) lt = (messages_past i (read d r).messages.read (omega (arith, lt)), all_past d i before (omega (arith, lt)))

-- ---- nothing asks for it

by_past : (i : ℕ) (c : Bool) (m : Message) (x : Bool) → IsPast i m → x ≡ false → asked_by i c m x ≡ false
by_past i c (Handshake source options) x e s = s
by_past i c (Data chunk sent_at bytes) x e s = s
by_past i c (Ack span delay) x e s = s
by_past i c (Have span) x e s = s
by_past i c (Integrity span digest) x e s = s
by_past i c (Pex4 address port) x e s = s
by_past i c PexReq x e s = s
by_past i c (Request span) x e s = or_from (within span i && not c) x (ap (λ (b : Bool). b && not c) e) s
by_past i c (Cancel span) x e s = and_right (not (within span i)) x s
by_past i c Choke x e s = s
by_past i c Unchoke x e s = s
by_past i c (Pex6 address port) x e s = s

lines_past : (i : ℕ) (lines : List Line) → AllLines (IsPast i) lines → asked i lines ≡ false
lines_past i [] all = refl
lines_past i (Heard now m ∷ before) all = by_past i (choked before) m (asked i before) all.0 (lines_past i before all.1)
lines_past i (Said now m ∷ before) all = said_none i m (asked i before) (lines_past i before all.1)
lines_past i (Taken now ∷ before) all = lines_past i before all

pub asked_past : (d : Descriptor) (life : Life) (i : ℕ) (past : List Record) → top d past < i → asked i (story d life past) ≡ false
asked_past d life i past lt = lines_past i (story d life past) (story_by (IsPast i) d life past (all_past d i past lt))

pub owed_past : (d : Descriptor) (life : Life) (i : ℕ) (past : List Record) → top d past < i → is_owed d life i past ≡ false
owed_past d life i past lt =
    false_from_ne_true (is_owed d life i past) (λ e. both_ways (asked i (story d life past)) (asked_past d life i past lt) (owed_is_asked d life i past e))

-- ---- and nothing announces it

news_past : (i : ℕ) (ms : List Message) → AllByRecursion (IsPast i) ms → announces i ms ≡ false
news_past i [] all = refl
news_past i (Handshake source options ∷ ms) all = news_past i ms all.1
news_past i (Data chunk sent_at bytes ∷ ms) all = news_past i ms all.1
news_past i (Ack span delay ∷ ms) all = or_from (within span i) (announces i ms) all.0 (news_past i ms all.1)
news_past i (Have span ∷ ms) all = or_from (within span i) (announces i ms) all.0 (news_past i ms all.1)
news_past i (Integrity span digest ∷ ms) all = news_past i ms all.1
news_past i (Pex4 address port ∷ ms) all = news_past i ms all.1
news_past i (PexReq ∷ ms) all = news_past i ms all.1
news_past i (Request span ∷ ms) all = news_past i ms all.1
news_past i (Cancel span ∷ ms) all = news_past i ms all.1
news_past i (Choke ∷ ms) all = news_past i ms all.1
news_past i (Unchoke ∷ ms) all = news_past i ms all.1
news_past i (Pex6 address port ∷ ms) all = news_past i ms all.1

none_announced : (d : Descriptor) (i : ℕ) (past : List Record) → AllByRecursion (λ r. AllByRecursion (IsPast i) (read d r).messages.read) past → is_announced d i past ≡ false
none_announced d i [] all = refl
none_announced d i (Received at sender bytes ∷ before) all = none_announced d i before all.1
none_announced d i (Quiet at ∷ before) all = none_announced d i before all.1
none_announced d i (Sent moment receiver bytes ∷ before) all =
    or_from (announces i (read d (Sent moment receiver bytes)).messages.read) (is_announced d i before)
    (news_past i (read d (Sent moment receiver bytes)).messages.read all.0) (none_announced d i before all.1)

pub announced_past : (d : Descriptor) (i : ℕ) (past turns : List Record) → top d past < i
    → ((P : Record → Type 0) → AllByRecursion P past → AllByRecursion P turns) → is_announced d i turns ≡ false
announced_past d i past turns lt part = none_announced d i turns (part (λ r. AllByRecursion (IsPast i) (read d r).messages.read) (all_past d i past lt))
