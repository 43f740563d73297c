-- What a message does to a row is what it does to the story.
use Rattle.std.proofs.Common.{◌≡◌, ℕ, suc, ◌^◌, true, Option, Some, None, List, [], ◌∷◌, take, refl, sym, ◌∙◌, ap, arith}
use Rattle.std.proofs.lemmas.List.{take-take}
use Rattle.pp_terms.specs.tree.Claims.{Claim}
use Rattle.pp_terms.specs.tree.Range.{Span}
use Rattle.pp_terms.specs.tree.Tree.{Node}
use Rattle.pp_terms.specs.format.Messages.{Message, Handshake, Data, Ack, Have, Integrity, Pex4, PexReq, Request, Cancel, Choke, Unchoke, Pex6}
use Rattle.pp_traffic.specs.Claims.{named, claims_in}
use Rattle.pp_traffic.specs.Claims as claims
use Rattle.pp_traffic.specs.Story.{Line, Heard, Said, Taken, hear}
use Rattle.pp_lives.specs.Reading.{is_blank}
use Rattle.pp_seat.specs.Lines.{inside}
use Rattle.pp_learner.specs.Following.{Follows, with_have, offered}
use Rattle.pp_learner.specs.Rows.{RowState, begun, with_offer, with_claim, heard, heard_all}

-- ---- one message that came

-- of the newest, those that are kept
kept : (c : Claim) (n : ℕ) (cs : List Claim) → take (suc n) (c ∷ take (suc n) cs) ≡ take (suc n) (c ∷ cs)
kept c n cs = ap (λ (xs : List Claim). c ∷ xs) (take-take n (suc n) cs (omega arith))

claim_kept : (node : Option Node) (digest : List ℕ) (story : List Line) (row : RowState) → Follows story row
    → (with_claim node digest row).claims ≡ take 128 (claims.with_claim node digest (claims_in (2 ^ 20) story))
claim_kept None digest story row f = f.claims
claim_kept (Some node) digest story row f =
    ap (λ (cs : List Claim). take 128 (record { node = node; digest = digest } ∷ cs)) f.claims
    ∙ kept (record { node = node; digest = digest }) 127 (claims_in (2 ^ 20) story)

claim_follows : (now : ℕ) (span : Span) (digest : List ℕ) (node : Option Node) (story : List Line) (row : RowState) → named (2 ^ 20) span ≡ node → Follows story row
    → Follows (Heard now (Integrity span digest) ∷ story) (with_claim node digest row)
claim_follows now span digest None story row is f = record {
  claims = f.claims ∙ ap (λ (o : Option Node). take 128 (claims.with_claim o digest (claims_in (2 ^ 20) story))) (sym is);
  offer = f.offer;
  chokes = f.chokes;
  asked = f.asked;
}
claim_follows now span digest (Some node) story row is f = record {
  claims = claim_kept (Some node) digest story row f ∙ ap (λ (o : Option Node). take 128 (claims.with_claim o digest (claims_in (2 ^ 20) story))) (sym is);
  offer = f.offer;
  chokes = f.chokes;
  asked = f.asked;
}

offer_follows : (now : ℕ) (span : Span) (range : Option Span) (story : List Line) (row : RowState) → inside (2 ^ 20) span ≡ range → Follows story row
    → Follows (Heard now (Have span) ∷ story) (with_offer range row)
offer_follows now span None story row is f = record {
  claims = f.claims;
  offer = f.offer ∙ ap (λ (o : Option Span). with_have o (offered story)) (sym is);
  chokes = f.chokes;
  asked = f.asked;
}
offer_follows now span (Some range) story row is f = record {
  claims = f.claims;
  offer = ap (with_have (Some range)) f.offer ∙ ap (λ (o : Option Span). with_have o (offered story)) (sym is);
  chokes = f.chokes;
  asked = f.asked;
}

pub heard_follows : (now : ℕ) (m : Message) (story : List Line) (row : RowState) → Follows story row → Follows (Heard now m ∷ story) (heard m row)
heard_follows now (Have span) story row f = offer_follows now span (inside (2 ^ 20) span) story row refl f
heard_follows now (Integrity span digest) story row f = claim_follows now span digest (named (2 ^ 20) span) story row refl f
heard_follows now Choke story row f = record { claims = f.claims; offer = f.offer; chokes = refl; asked = f.asked }
heard_follows now Unchoke story row f = record { claims = f.claims; offer = f.offer; chokes = refl; asked = f.asked }
heard_follows now (Handshake source options) story row f = record { claims = f.claims; offer = f.offer; chokes = f.chokes; asked = f.asked }
heard_follows now (Data i sent_at bytes) story row f = record { claims = f.claims; offer = f.offer; chokes = f.chokes; asked = f.asked }
heard_follows now (Ack span delay) story row f = record { claims = f.claims; offer = f.offer; chokes = f.chokes; asked = f.asked }
heard_follows now (Pex4 address port) story row f = record { claims = f.claims; offer = f.offer; chokes = f.chokes; asked = f.asked }
heard_follows now PexReq story row f = record { claims = f.claims; offer = f.offer; chokes = f.chokes; asked = f.asked }
heard_follows now (Request span) story row f = record { claims = f.claims; offer = f.offer; chokes = f.chokes; asked = f.asked }
heard_follows now (Cancel span) story row f = record { claims = f.claims; offer = f.offer; chokes = f.chokes; asked = f.asked }
heard_follows now (Pex6 address port) story row f = record { claims = f.claims; offer = f.offer; chokes = f.chokes; asked = f.asked }

-- ---- several

pub hear_follows : (now : ℕ) (ms : List Message) (story : List Line) (row : RowState) → Follows story row → Follows (hear now ms story) (heard_all ms row)
hear_follows now [] story row f = f
hear_follows now (m ∷ ms) story row f = hear_follows now ms (Heard now m ∷ story) (heard m row) (heard_follows now m story row f)

-- a wait ended
pub taken_follows : (now : ℕ) (story : List Line) (row : RowState) → Follows story row → Follows (Taken now ∷ story) row
taken_follows now story row f = record { claims = f.claims; offer = f.offer; chokes = f.chokes; asked = f.asked }

-- nothing was heard or said
pub blank_follows : (story : List Line) → is_blank story ≡ true → Follows story begun
blank_follows [] blank = record { claims = refl; offer = refl; chokes = refl; asked = refl }
blank_follows (Heard now m ∷ story) blank = absurd cc
blank_follows (Said now m ∷ story) blank = absurd cc
blank_follows (Taken now ∷ story) blank = taken_follows now story begun (blank_follows story blank)
