-- That the size is learned exactly where a DATA tells it.
use Rattle.std.proofs.Common.{◌≡◌, ℕ, Bool, true, false, Option, Some, None, List, [], ◌∷◌, ◌++◌, refl, ◌∙◌, ap, arith, nat_lt}
use Rattle.std.specs.Prelude.{if◌then◌else◌}
use Rattle.std.proofs.lemmas.Bool.{lt-ltb}
use Rattle.std.proofs.lemmas.Bool.Decides.{nat_tests}
use Rattle.pp_terms.specs.tree.Claims.{latest}
use Rattle.pp_terms.specs.format.Descriptor.{Descriptor}
use Rattle.pp_terms.specs.format.Messages.{Message, Handshake, Data, Ack, Have, Integrity, Pex4, PexReq, Request, Cancel, Choke, Unchoke, Pex6}
use Rattle.pp_counts.specs.declared.counts.Counts.{Counts}
use Rattle.pp_targets.specs.Target.{SwarmName}
use Rattle.pp_targets.specs.Learn.{learned}
use Rattle.pp_targets.specs.declared.learning.Learned as targets
use Rattle.pp_targets.specs.declared.learning.Learned.TheVariants.{Size, SixtyFour, Missing, Wrong}
use Rattle.pp_learner.specs.Rows.{RowState, heard, heard_all, size_of, size_in, noted}
use Rattle.pp_learner.specs.Reading.{Hearing, after_some, is_closing, reading, stopped, learned_in, ArePassed, IsProofIn, Tells}
use Rattle.pp_learner.specs.declared.reading.Ending.TheVariants as endings

-- ---- one message

size_is : (l : targets.Learned) (e : Descriptor) → size_of (Some l) ≡ Some e → l ≡ Size e
size_is (Size d) e is = cc
size_is SixtyFour e is = absurd cc
size_is (Missing node) e is = absurd cc
size_is (Wrong found kept) e is = absurd cc

is_last : (name : SwarmName) (e : Descriptor) (i sent_at : ℕ) (bytes : List ℕ) (row : RowState) → nat_lt i 1048576 ≡ true
    → learned name (latest row.claims) i bytes ≡ Size e → size_in name (Data i sent_at bytes) row ≡ Some e
is_last name e i sent_at bytes row lt tells =
    ap (λ (b : Bool). size_of (if b then Some (learned name (latest row.claims) i bytes) else None)) lt ∙ ap (λ (l : targets.Learned). size_of (Some l)) tells

-- ---- several

-- a message that is passed stands before them
pub tells_later : (name : SwarmName) (e : Descriptor) (m : Message) (ms : List Message) (row : RowState) → is_closing m ≡ false → size_in name m row ≡ None
    → Tells name e ms (heard m row) → Tells name e (m ∷ ms) row
tells_later name e m ms row open_still none t = record {
  before = m ∷ t.before;
  after = t.after;
  chunk = t.chunk;
  sent_at = t.sent_at;
  bytes = t.bytes;
  among = ap (λ (xs : List Message). m ∷ xs) t.among;
  passed = (open_still, none, t.passed);
  few = t.few;
  tells = t.tells;
  proof = t.proof;
}

-- a DATA that proves it stands first
pub tells_now : (name : SwarmName) (e : Descriptor) (m : Message) (ms : List Message) (row : RowState) → size_in name m row ≡ Some e → IsProofIn name e m row
    → Tells name e (m ∷ ms) row
tells_now name e (Data i sent_at bytes) ms row is proof = by (nat_lt i 1048576) refl is
  where
    by : (b : Bool) → nat_lt i 1048576 ≡ b → size_of (if b then Some (learned name (latest row.claims) i bytes) else None) ≡ Some e → Tells name e (Data i sent_at bytes ∷ ms) row
    by true lt same = record {
      before = [];
      after = ms;
      chunk = i;
      sent_at = sent_at;
      bytes = bytes;
      among = refl;
      passed = tt;
      few = grind (arith, nat_tests);
      tells = size_is (learned name (latest row.claims) i bytes) e same;
      proof = proof;
    }
    by false lt same = absurd cc
tells_now name e (Handshake source options) ms row is proof = absurd proof
tells_now name e (Ack span delay) ms row is proof = absurd proof
tells_now name e (Have span) ms row is proof = absurd proof
tells_now name e (Integrity span digest) ms row is proof = absurd proof
tells_now name e (Pex4 address port) ms row is proof = absurd proof
tells_now name e PexReq ms row is proof = absurd proof
tells_now name e (Request span) ms row is proof = absurd proof
tells_now name e (Cancel span) ms row is proof = absurd proof
tells_now name e Choke ms row is proof = absurd proof
tells_now name e Unchoke ms row is proof = absurd proof
tells_now name e (Pex6 address port) ms row is proof = absurd proof

-- what is told is what reading comes to
tells_read : (name : SwarmName) (cut : Bool) (e : Descriptor) (before after : List Message) (i sent_at : ℕ) (bytes : List ℕ) (row : RowState) (counts : Counts)
    → ArePassed name before row → nat_lt i 1048576 ≡ true → learned name (latest (heard_all before row).claims) i bytes ≡ Size e
    → learned_in (reading name cut (before ++ Data i sent_at bytes ∷ after) row counts).ending ≡ Some e
tells_read name cut e [] after i sent_at bytes row counts passed lt tells =
    ap (λ (o : Option Descriptor). learned_in (stopped o row (after_some (noted name (Data i sent_at bytes) row) counts)
    (reading name cut after row (after_some (noted name (Data i sent_at bytes) row) counts))).ending)
    (is_last name e i sent_at bytes row lt tells)
tells_read name cut e (m ∷ ms) after i sent_at bytes row counts passed lt tells =
    ap (λ (b : Bool). learned_in (if b then record { row = row; counts = counts; ending = endings.Closed } else stopped (size_in name m row) (heard m row) (after_some (noted name m row) counts) rest).ending) passed.0
    ∙ ap (λ (o : Option Descriptor). learned_in (stopped o (heard m row) (after_some (noted name m row) counts) rest).ending) passed.1
    ∙ tells_read name cut e ms after i sent_at bytes (heard m row) (after_some (noted name m row) counts) passed.2 lt tells
  where
    rest : Hearing
    rest = reading name cut (ms ++ Data i sent_at bytes ∷ after) (heard m row) (after_some (noted name m row) counts)

pub tells_learned : (name : SwarmName) (cut : Bool) (e : Descriptor) (ms : List Message) (row : RowState) (counts : Counts)
    → Tells name e ms row → learned_in (reading name cut ms row counts).ending ≡ Some e
tells_learned name cut e ms row counts t =
    ap (λ (xs : List Message). learned_in (reading name cut xs row counts).ending) t.among
    ∙ tells_read name cut e t.before t.after t.chunk t.sent_at t.bytes row counts t.passed (lt-ltb t.chunk 1048576 t.few) t.tells
