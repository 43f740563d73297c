-- The newest claim of a node, and the claims of a story.
use Rattle.std.proofs.Common.{◌≡◌, ⊎_elim, ℕ, zero, suc, ◌+◌, ◌-◌, ◌<◌, ◌≤◌, eqb, ltb, Bool, true, false, cond, ◌&&◌, Option, Some, None, List, [], ◌∷◌, length, get_or, take, refl, sym, ◌∙◌, ap, arith}
use Rattle.std.proofs.lemmas.Bool.{cases_lt, lt-ltb, le-ltb, lt-leb}
use Rattle.pp_terms.specs.format.Traffic.{Record, Received, Quiet, Sent}
use Rattle.pp_terms.specs.format.Descriptor.{Descriptor, chunks_of}
use Rattle.pp_terms.specs.format.Messages.{Message, Handshake, Data, Ack, Have, Integrity, Pex4, PexReq, Request, Cancel, Choke, Unchoke, Pex6}
use Rattle.pp_terms.specs.tree.Claims.{Claim, latest}
use Rattle.pp_terms.specs.tree.Tree.{Node}
use Rattle.pp_traffic.specs.Claims.{named, with_claim, with_claims_of, claims_in, claimed}
use Rattle.pp_traffic.specs.Life.{Life, comes_on}
use Rattle.pp_traffic.specs.Past.{now, read}
use Rattle.pp_traffic.specs.Story.{Line, Heard, Said, hear, say, said_in, told}
use Rattle.pp_promises.specs.ReadStory.{with_unread, is_read, proven_story}
use Rattle.pp_recorded.specs.declared.claims.Newest.{Newest}
use Rattle.pp_recorded.specs.declared.entry.Entry.{Entry}
use Rattle.pp_recorded.specs.Entries.{record_of}
use Rattle.pp_recorded.specs.Claims.{one_more_behind, newest_of, after_named, newest_by, newest_after, claims_after, is_proven, proven_claims}
use Rattle.pp_recorded.proofs.Offerings.{by_opening}
use Rattle.pp_recorded.proofs.Pasts.{first, one_more, length_first}

-- ---- the newest among claims

pub newest_with : (chunks : ℕ) (at : Node) (m : Message) (cs : List Claim) → newest_of at (with_claims_of chunks m cs) ≡ newest_by chunks at m (newest_of at cs)
newest_with chunks at (Integrity span digest) cs = by (named chunks span)
  where
    by : (o : Option Node) → newest_of at (with_claim o digest cs) ≡ after_named at o digest (newest_of at cs)
    by None = refl
    by (Some node) = refl
newest_with chunks at (Handshake source options) cs = refl
newest_with chunks at (Data chunk sent_at bytes) cs = refl
newest_with chunks at (Ack span delay) cs = refl
newest_with chunks at (Have span) cs = refl
newest_with chunks at (Pex4 address port) cs = refl
newest_with chunks at PexReq cs = refl
newest_with chunks at (Request span) cs = refl
newest_with chunks at (Cancel span) cs = refl
newest_with chunks at Choke cs = refl
newest_with chunks at Unchoke cs = refl
newest_with chunks at (Pex6 address port) cs = refl

pub newest_all : (chunks : ℕ) (at : Node) (ms : List Message) (cs : List Claim) → newest_of at (claims_after chunks ms cs) ≡ newest_after chunks at ms (newest_of at cs)
newest_all chunks at [] cs = refl
newest_all chunks at (m ∷ ms) cs =
    newest_all chunks at ms (with_claims_of chunks m cs) ∙ ap (λ (n : Newest). newest_after chunks at ms n) (newest_with chunks at m cs)

-- a claim that isn't the node's is passed
passed : (b n : ℕ) → suc n ≤ 128 → ltb b n ≡ ltb (one_more_behind b) (suc n)
passed b n few = ⊎_elim
    (λ lt. let more = ap (λ (x : Bool). ltb (cond x (b + 1) b) (suc n)) (lt-ltb b 128 lt) in both lt ∙ sym more)
    (λ le. let same = ap (λ (x : Bool). ltb (cond x (b + 1) b) (suc n)) (le-ltb b 128 le) in le-ltb b n (omega arith) ∙ sym (same ∙ le-ltb b (suc n) (omega arith)))
    (cases_lt b 128)
  where
    both : b < 128 → ltb b n ≡ ltb (b + 1) (suc n)
    both lt = ⊎_elim
        (λ below. lt-ltb b n below ∙ sym (lt-ltb (b + 1) (suc n) (omega arith)))
        (λ above. le-ltb b n above ∙ sym (le-ltb (b + 1) (suc n) (omega arith)))
        (cases_lt b n)

past_one : (b : Bool) (digest : List ℕ) (older : Option (List ℕ)) (x : Newest) (n : ℕ) → suc n ≤ 128 → older ≡ cond (ltb x.behind n) x.digest None
    → cond b (Some digest) older
    ≡ cond (ltb (cond {A = Newest} b (record { digest = Some digest; behind = 0 }) (record { digest = x.digest; behind = one_more_behind x.behind })).behind (suc n))
    (cond {A = Newest} b (record { digest = Some digest; behind = 0 }) (record { digest = x.digest; behind = one_more_behind x.behind })).digest None
past_one true digest older x n few is = sym (ap (λ (b : Bool). cond b (Some digest) None) (lt-ltb 0 (suc n) (omega arith)))
past_one false digest older x n few is = is ∙ ap (λ (b : Bool). cond b x.digest None) (passed x.behind n few)

-- the latest among the last ones
pub latest_is : (cs : List Claim) (n k j : ℕ) → n ≤ 128
    → latest (take n cs) k j ≡ cond (ltb (newest_of (record { layer = k; offset = j }) cs).behind n) (newest_of (record { layer = k; offset = j }) cs).digest None
latest_is [] zero k j few = refl
latest_is [] (suc n) k j few = by (ltb 0 (suc n))
  where
    by : (b : Bool) → ◌≡◌ {A = Option (List ℕ)} None (cond b None None)
    by true = refl
    by false = refl
latest_is (c ∷ cs) zero k j few = sym (le-none (newest_of (record { layer = k; offset = j }) (c ∷ cs)))
  where
    le-none : (x : Newest) → cond (ltb x.behind 0) x.digest None ≡ None
    le-none x = ap (λ (b : Bool). cond b x.digest None) (le-ltb x.behind 0 (omega arith))
latest_is (c ∷ cs) (suc n) k j few =
    past_one (eqb c.node.layer k && eqb c.node.offset j) c.digest (latest (take n cs) k j) (newest_of (record { layer = k; offset = j }) cs) n few (latest_is cs n k j (omega arith))

-- ---- the claims of a story

pub claims_heard : (chunks at : ℕ) (ms : List Message) (lines : List Line) → claims_in chunks (hear at ms lines) ≡ claims_after chunks ms (claims_in chunks lines)
claims_heard chunks at [] lines = refl
claims_heard chunks at (m ∷ ms) lines = claims_heard chunks at ms (Heard at m ∷ lines)

claims_said : (chunks at : ℕ) (ms : List Message) (lines : List Line) → claims_in chunks (say at ms lines) ≡ claims_in chunks lines
claims_said chunks at [] lines = refl
claims_said chunks at (m ∷ ms) lines = claims_said chunks at ms (Said at m ∷ lines)

-- a record of the channel, by whether it is read
by_record : (d : Descriptor) (life : Life) (at : ℕ) (r : Record) (lines : List Line) (read_here on : Bool) → comes_on d life r ≡ on
    → claims_in (chunks_of d) (cond (on && read_here) (told d life false at r lines) (with_unread d life false at r lines))
    ≡ cond (read_here && on && true) (claims_after (chunks_of d) (read d r).messages.read (claims_in (chunks_of d) lines)) (claims_in (chunks_of d) lines)
by_record d life at (Received moment sender bytes) lines true true on =
    claims_heard (chunks_of d) at (cond (comes_on d life (Received moment sender bytes)) (read d (Received moment sender bytes)).messages.read []) lines
    ∙ ap (λ (b : Bool). claims_after (chunks_of d) (cond b (read d (Received moment sender bytes)).messages.read []) (claims_in (chunks_of d) lines)) on
by_record d life at (Received moment sender bytes) lines true false on = refl
by_record d life at (Received moment sender bytes) lines false true on = refl
by_record d life at (Received moment sender bytes) lines false false on = refl
by_record d life at (Quiet moment) lines b true on = absurd cc
by_record d life at (Quiet moment) lines true false on = refl
by_record d life at (Quiet moment) lines false false on = refl
by_record d life at (Sent moment receiver bytes) lines b true on = absurd cc
by_record d life at (Sent moment receiver bytes) lines true false on = claims_said (chunks_of d) at (said_in d life (Sent moment receiver bytes)) lines
by_record d life at (Sent moment receiver bytes) lines false false on = claims_said (chunks_of d) at (said_in d life (Sent moment receiver bytes)) lines

false_last : (a b : Bool) → (a && b && false) ≡ false
false_last true true = refl
false_last true false = refl
false_last false b = refl

none_proven : (d : Descriptor) (life : Life) (past : List Record) → length past ≤ life.opening → proven_claims d life past ≡ []
none_proven d life [] le = refl
none_proven d life (r ∷ past) le =
    let lt : length past < life.opening = omega (arith, le) in
    ap (λ (b : Bool). cond (is_read d life (r ∷ past) && comes_on d life r && b) (claims_after (chunks_of d) (read d r).messages.read (proven_claims d life past)) (proven_claims d life past))
    (lt-leb life.opening (length past) lt)
    ∙ ap (λ (b : Bool). cond b (claims_after (chunks_of d) (read d r).messages.read (proven_claims d life past)) (proven_claims d life past))
    (false_last (is_read d life (r ∷ past)) (comes_on d life r))
    ∙ none_proven d life past (omega (arith, lt))

pub proven_are : (d : Descriptor) (life : Life) (past : List Record) → claims_in (chunks_of d) (proven_story d life past) ≡ proven_claims d life past
proven_are d life [] = refl
proven_are d life (r ∷ before) = by_opening (length before) life.opening
    (λ b. claims_in (chunks_of d) (cond b (cond (comes_on d life r && is_read d life (r ∷ before))
    (told d life false (now (r ∷ before)) r (proven_story d life before)) (with_unread d life false (now (r ∷ before)) r (proven_story d life before))) [])
    ≡ cond (is_read d life (r ∷ before) && comes_on d life r && b) (claims_after (chunks_of d) (read d r).messages.read (proven_claims d life before)) (proven_claims d life before))
    (λ e. by_record d life (now (r ∷ before)) r (proven_story d life before) (is_read d life (r ∷ before)) (comes_on d life r) refl
    ∙ ap (λ (cs : List Claim). cond (is_read d life (r ∷ before) && comes_on d life r && true) (claims_after (chunks_of d) (read d r).messages.read cs) cs) (proven_are d life before))
    (λ e lt. sym (ap (λ (b : Bool). cond b (claims_after (chunks_of d) (read d r).messages.read (proven_claims d life before)) (proven_claims d life before))
    (false_last (is_read d life (r ∷ before)) (comes_on d life r)) ∙ none_proven d life before (omega (arith, lt))))

-- the claims before a message
pub claimed_is : (d : Descriptor) (life : Life) (at : ℕ) (front : List Message) (past : List Record)
    → claimed (chunks_of d) (hear at front (proven_story d life past)) ≡ latest (take 128 (claims_after (chunks_of d) front (proven_claims d life past)))
claimed_is d life at front past =
    ap (λ (cs : List Claim). latest (take 128 cs))
    (claims_heard (chunks_of d) at front (proven_story d life past) ∙ ap (λ (cs : List Claim). claims_after (chunks_of d) front cs) (proven_are d life past))

-- ---- by the code

pub newest_is : (chunks : ℕ) (at : Node) (front : List Message) (cs : List Claim) (before now : Newest) → before ≡ newest_of at cs → now ≡ newest_after chunks at front before
    → now ≡ newest_of at (claims_after chunks front cs)
newest_is chunks at front cs before now is e = e ∙ ap (λ (n : Newest). newest_after chunks at front n) is ∙ sym (newest_all chunks at front cs)

pub latest_then : (at : Node) (cs : List Claim) (n : Newest) → n ≡ newest_of at cs → n.behind < 128 → n.digest ≡ latest (take 128 cs) at.layer at.offset
latest_then at cs n is lt =
    ap (λ (b : Bool). cond b n.digest None) (sym (lt-ltb n.behind 128 lt))
    ∙ ap (λ (x : Newest). cond (ltb x.behind 128) x.digest None) is ∙ sym (latest_is cs 128 at.layer at.offset (omega arith))

pub latest_else : (at : Node) (cs : List Claim) (n : Newest) → n ≡ newest_of at cs → 128 ≤ n.behind → None ≡ latest (take 128 cs) at.layer at.offset
latest_else at cs n is le =
    ap (λ (b : Bool). cond b n.digest None) (sym (le-ltb n.behind 128 le))
    ∙ ap (λ (x : Newest). cond (ltb x.behind 128) x.digest None) is ∙ sym (latest_is cs 128 at.layer at.offset (omega arith))

pub front_more : (chunks : ℕ) (at : Node) (ms rest : List Message) (m : Message) (left : ℕ) (n : Newest) → 0 < left → ms ≡ m ∷ rest
    → newest_after chunks at (take left ms) n ≡ newest_after chunks at (take (left - 1) rest) (newest_by chunks at m n)
front_more chunks at ms rest m left n some is =
    ap (λ (l : ℕ). newest_after chunks at (take l ms) n) (let e : left ≡ suc (left - 1) = omega arith in e)
    ∙ ap (λ (xs : List Message). newest_after chunks at (take (suc (left - 1)) xs) n) is

pub proven_more : (d : Descriptor) (life : Life) (at : Node) (xs : List Entry) (i : ℕ) (x : Entry) (read_here proven : Bool) (n n' : Newest) → i < length xs → x ≡ get_or xs i x
    → n ≡ newest_of at (proven_claims d life (first i xs)) → read_here ≡ is_read d life (first (i + 1) xs) → proven ≡ is_proven d life read_here i (record_of x)
    → n' ≡ cond proven (newest_after (chunks_of d) at (read d (record_of x)).messages.read n) n
    → n' ≡ newest_of at (proven_claims d life (first (i + 1) xs))
proven_more d life at xs i x read_here proven n n' lt is so_far read_is proven_is step =
    let more = one_more xs i x lt is in
    let test : proven ≡ is_proven d life (is_read d life (record_of x ∷ first i xs)) (length (first i xs)) (record_of x) =
    proven_is ∙ ap (λ (b : Bool). is_proven d life b i (record_of x)) (read_is ∙ ap (λ (rs : List Record). is_read d life rs) more)
    ∙ ap (λ (l : ℕ). is_proven d life (is_read d life (record_of x ∷ first i xs)) l (record_of x)) (sym (length_first xs i (omega arith))) in
    step
    ∙ ap (λ (m : Newest). cond proven (newest_after (chunks_of d) at (read d (record_of x)).messages.read m) m) so_far
    ∙ by proven
    ∙ ap (λ (b : Bool). newest_of at (cond b (claims_after (chunks_of d) (read d (record_of x)).messages.read (proven_claims d life (first i xs))) (proven_claims d life (first i xs)))) test
    ∙ sym (ap (λ (rs : List Record). newest_of at (proven_claims d life rs)) more)
  where
    by : (b : Bool)
        → cond b (newest_after (chunks_of d) at (read d (record_of x)).messages.read (newest_of at (proven_claims d life (first i xs)))) (newest_of at (proven_claims d life (first i xs)))
        ≡ newest_of at (cond b (claims_after (chunks_of d) (read d (record_of x)).messages.read (proven_claims d life (first i xs))) (proven_claims d life (first i xs)))
    by true = sym (newest_all (chunks_of d) at (read d (record_of x)).messages.read (proven_claims d life (first i xs)))
    by false = refl
