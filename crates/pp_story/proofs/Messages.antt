-- What one message of a datagram changes.
use Rattle.std.proofs.Common.{◌≡◌, ℕ, Bool, false, ◌||◌, List, Result, Ok, Err, OnOk, OnErr, Bor, refl, sym, ap, subst}
use Rattle.pp_terms.specs.tree.Tree.{Node}
use Rattle.pp_terms.specs.format.Messages as terms
use Rattle.pp_traffic.specs.Asking.{choked_by, asked_by, asked_after}
use Rattle.pp_traffic.specs.Hashes.{told_by}
use Rattle.pp_traffic.specs.Meter.{heard_by, said_by}
use Rattle.pp_tree.specs.Bits.{bit_of}
use Rattle.pp_plan.specs.Told.{knows}
use Rattle.pp_wire.specs.declared.message.Span.{Span}
use Rattle.pp_wire.specs.declared.message.Message.{Message}
use Rattle.pp_wire.specs.declared.message.Message.TheVariants.{Handshake, Data, Ack, Have, Integrity, Pex4, PexReq, Request, Cancel, Choke, Unchoke, Pex6}
use Rattle.pp_wire.specs.Views.{message_of}
use Rattle.pp_story.specs.Stories.{StoryState, Hears, Says}

pub hears_of : {old new : StoryState} {m n : Message} {now : ℕ} → m ≡ n → Hears now (message_of m) old new → Hears now (message_of n) old new
hears_of {old = old} {new = new} {now = now} is hears = subst (λ (k : Message). Hears now (message_of k) old new) is hears

pub says_of : {old new : StoryState} {m n : Message} {now : ℕ} → m ≡ n → Says now (message_of m) old new → Says now (message_of n) old new
says_of {old = old} {new = new} {now = now} is says = subst (λ (k : Message). Says now (message_of k) old new) is says

-- any other message leaves what is kept
idle_heard : (m : terms.Message) (old : StoryState) (now : ℕ) → ((b c : Bool) (i : ℕ) → asked_by i c m b ≡ b) → ((k : ℕ) (n : Node) → told_by k n m ≡ false)
    → heard_by now m old.window ≡ old.window → Hears now m old old
idle_heard m old now asks tells stays = record {
  chunks = refl;
  chokes = refl;
  asks = λ i lt. sym (asks (bit_of old.requests i) old.is_choked i);
  tells = λ n. ap (λ (b : Bool). b || knows old.told n) (sym (tells old.told.chunks n));
  meters = sym stays;
}

pub hears_other : (m : Message) (old : StoryState) (now : ℕ)
    → ((span : Span) (delay : ℕ) → m ≡ Ack span delay → ⊥) → ((span : Span) → m ≡ Have span → ⊥)
    → ((span : Span) → m ≡ Request span → ⊥) → ((span : Span) → m ≡ Cancel span → ⊥) → Hears now (message_of m) old old
hears_other (Ack span delay) old now no_ack no_have no_request no_cancel = absurd (no_ack span delay refl)
hears_other (Have span) old now no_ack no_have no_request no_cancel = absurd (no_have span refl)
hears_other (Request span) old now no_ack no_have no_request no_cancel = absurd (no_request span refl)
hears_other (Cancel span) old now no_ack no_have no_request no_cancel = absurd (no_cancel span refl)
hears_other (Handshake source options) old now no_ack no_have no_request no_cancel = idle_heard (message_of (Handshake source options)) old now (λ b c i. refl) (λ k n. refl) refl
hears_other (Data chunk sent_at bytes) old now no_ack no_have no_request no_cancel = idle_heard (message_of (Data chunk sent_at bytes)) old now (λ b c i. refl) (λ k n. refl) refl
hears_other (Integrity span digest) old now no_ack no_have no_request no_cancel = idle_heard (message_of (Integrity span digest)) old now (λ b c i. refl) (λ k n. refl) refl
hears_other (Pex4 address port) old now no_ack no_have no_request no_cancel = idle_heard (message_of (Pex4 address port)) old now (λ b c i. refl) (λ k n. refl) refl
hears_other PexReq old now no_ack no_have no_request no_cancel = idle_heard (message_of PexReq) old now (λ b c i. refl) (λ k n. refl) refl
hears_other Choke old now no_ack no_have no_request no_cancel = idle_heard (message_of Choke) old now (λ b c i. refl) (λ k n. refl) refl
hears_other Unchoke old now no_ack no_have no_request no_cancel = idle_heard (message_of Unchoke) old now (λ b c i. refl) (λ k n. refl) refl
hears_other (Pex6 address port) old now no_ack no_have no_request no_cancel = idle_heard (message_of (Pex6 address port)) old now (λ b c i. refl) (λ k n. refl) refl

idle_said : (m : terms.Message) (old : StoryState) (now : ℕ) → ((b : Bool) → choked_by m b ≡ b) → ((b : Bool) (i : ℕ) → asked_after i m b ≡ b)
    → said_by now m old.window ≡ old.window → Says now m old old
idle_said m old now chokes asks stays = record {
  chunks = refl;
  chokes = sym (chokes old.is_choked);
  asks = λ i lt. sym (asks (bit_of old.requests i) i);
  tells = λ n. refl;
  meters = sym stays;
}

pub says_other : (m : Message) (old : StoryState) (now : ℕ)
    → ((chunk sent_at : ℕ) (bytes : Bor (List ℕ)) → m ≡ Data chunk sent_at bytes → ⊥) → (m ≡ Choke → ⊥) → (m ≡ Unchoke → ⊥)
    → Says now (message_of m) old old
says_other (Data chunk sent_at bytes) old now no_data no_choke no_unchoke = absurd (no_data chunk sent_at bytes refl)
says_other Choke old now no_data no_choke no_unchoke = absurd (no_choke refl)
says_other Unchoke old now no_data no_choke no_unchoke = absurd (no_unchoke refl)
says_other (Handshake source options) old now no_data no_choke no_unchoke = idle_said (message_of (Handshake source options)) old now (λ b. refl) (λ b i. refl) refl
says_other (Ack span delay) old now no_data no_choke no_unchoke = idle_said (message_of (Ack span delay)) old now (λ b. refl) (λ b i. refl) refl
says_other (Have span) old now no_data no_choke no_unchoke = idle_said (message_of (Have span)) old now (λ b. refl) (λ b i. refl) refl
says_other (Integrity span digest) old now no_data no_choke no_unchoke = idle_said (message_of (Integrity span digest)) old now (λ b. refl) (λ b i. refl) refl
says_other (Pex4 address port) old now no_data no_choke no_unchoke = idle_said (message_of (Pex4 address port)) old now (λ b. refl) (λ b i. refl) refl
says_other PexReq old now no_data no_choke no_unchoke = idle_said (message_of PexReq) old now (λ b. refl) (λ b i. refl) refl
says_other (Request span) old now no_data no_choke no_unchoke = idle_said (message_of (Request span)) old now (λ b. refl) (λ b i. refl) refl
says_other (Cancel span) old now no_data no_choke no_unchoke = idle_said (message_of (Cancel span)) old now (λ b. refl) (λ b i. refl) refl
says_other (Pex6 address port) old now no_data no_choke no_unchoke = idle_said (message_of (Pex6 address port)) old now (λ b. refl) (λ b i. refl) refl

-- what holds on Ok holds so where it says less
pub on_ok : {X E : Type 0} {P Q : Type 0} (r : Result X E) → (P → Q) → OnOk r P → OnOk r Q
on_ok (Ok x) f p = f p
on_ok (Err e) f p = tt

pub on_err : {X E : Type 0} {P : Type 0} (r : Result X E) → P → OnErr r P
on_err (Ok x) p = tt
on_err (Err e) p = p
