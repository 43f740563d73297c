-- What is claimed by hashes of 32 bytes are digests.
use Rattle.std.proofs.Common.{◌≡◌, ℕ, zero, suc, eqb, Bool, true, false, cond, Option, Some, None, List, [], ◌∷◌, ◌++◌, length, take, refl}
use Rattle.std.specs.List.{list_all}
use Rattle.std.proofs.lemmas.Bool.{and_parts, and_from}
use Rattle.pp_terms.specs.format.Descriptor.{Descriptor, chunks_of}
use Rattle.pp_terms.specs.format.Messages.{Message, Handshake, Data, Ack, Have, Integrity, Pex4, PexReq, Request, Cancel, Choke, Unchoke, Pex6}
use Rattle.pp_terms.specs.format.Traffic.{Record}
use Rattle.pp_terms.specs.tree.Book.{AreDigests}
use Rattle.pp_terms.specs.tree.Claims.{Claim, latest}
use Rattle.pp_terms.specs.tree.Tree.{Node}
use Rattle.pp_terms.proofs.Claims.{latest_digests}
use Rattle.pp_traffic.specs.Claims.{named, with_claim, with_claims_of}
use Rattle.pp_traffic.specs.Life.{Life}
use Rattle.pp_traffic.specs.Past.{read}
use Rattle.pp_promises.specs.ReadStory.{is_read}
use Rattle.pp_recorded.specs.Claims.{claims_after, is_proven, proven_claims}
use Rattle.pp_audit.specs.Digests.{is_long, has_digest, AllAreLong}
use Rattle.pp_audit.specs.Storings.{known_behind}

with_long : (chunks : ℕ) (m : Message) (cs : List Claim) → is_long m ≡ true → list_all has_digest cs ≡ true → list_all has_digest (with_claims_of chunks m cs) ≡ true
with_long chunks (Integrity span digest) cs long all = by (named chunks span)
  where
    by : (o : Option Node) → list_all has_digest (with_claim o digest cs) ≡ true
    by None = all
    by (Some node) = and_from (eqb (length digest) 32) (list_all has_digest cs) long all
with_long chunks (Handshake source options) cs long all = all
with_long chunks (Data chunk sent_at bytes) cs long all = all
with_long chunks (Ack span delay) cs long all = all
with_long chunks (Have span) cs long all = all
with_long chunks (Pex4 address port) cs long all = all
with_long chunks PexReq cs long all = all
with_long chunks (Request span) cs long all = all
with_long chunks (Cancel span) cs long all = all
with_long chunks Choke cs long all = all
with_long chunks Unchoke cs long all = all
with_long chunks (Pex6 address port) cs long all = all

pub after_long : (chunks : ℕ) (ms : List Message) (cs : List Claim) → list_all is_long ms ≡ true → list_all has_digest cs ≡ true → list_all has_digest (claims_after chunks ms cs) ≡ true
after_long chunks [] cs long all = all
after_long chunks (m ∷ ms) cs long all =
    let parts = and_parts (is_long m) (list_all is_long ms) long in after_long chunks ms (with_claims_of chunks m cs) parts.1 (with_long chunks m cs parts.0 all)

take_long : (n : ℕ) (cs : List Claim) → list_all has_digest cs ≡ true → list_all has_digest (take n cs) ≡ true
take_long zero cs all = refl
take_long (suc n) [] all = refl
take_long (suc n) (c ∷ cs) all =
    let parts = and_parts (has_digest c) (list_all has_digest cs) all in and_from (has_digest c) (list_all has_digest (take n cs)) parts.0 (take_long n cs parts.1)

pub are_digests : (n : ℕ) (cs : List Claim) → list_all has_digest cs ≡ true → AreDigests (latest (take n cs))
are_digests n cs all = latest_digests (take n cs) (take_long n cs all)

front_long : (mid rest : List Message) → list_all is_long (mid ++ rest) ≡ true → list_all is_long mid ≡ true
front_long [] rest all = refl
front_long (m ∷ mid) rest all =
    let parts = and_parts (is_long m) (list_all is_long (mid ++ rest)) all in and_from (is_long m) (list_all is_long mid) parts.0 (front_long mid rest parts.1)

proven_long : (d : Descriptor) (life : Life) (past : List Record) → AllAreLong d past → list_all has_digest (proven_claims d life past) ≡ true
proven_long d life [] all = refl
proven_long d life (r ∷ before) all = by (proven_long d life before all.1) (is_proven d life (is_read d life (r ∷ before)) (length before) r)
  where
    by : list_all has_digest (proven_claims d life before) ≡ true → (b : Bool)
        → list_all has_digest (cond b (claims_after (chunks_of d) (read d r).messages.read (proven_claims d life before)) (proven_claims d life before)) ≡ true
    by so_far true = after_long (chunks_of d) (read d r).messages.read (proven_claims d life before) all.0 so_far
    by so_far false = so_far

pub known_digests : (d : Descriptor) (life : Life) (before : List Record) (mid rest : List Message) → AllAreLong d before → list_all is_long (mid ++ rest) ≡ true
    → AreDigests (known_behind d life before mid)
known_digests d life before mid rest all here =
    are_digests 128 (claims_after (chunks_of d) mid (proven_claims d life before))
    (after_long (chunks_of d) mid (proven_claims d life before) (front_long mid rest here) (proven_long d life before all))
