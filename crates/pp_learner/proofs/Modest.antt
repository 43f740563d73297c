-- What a learner sends, whatever was due: handshakes and REQUESTs alone.
use Rattle.std.proofs.Common.{◌≡◌, ⊎_elim, ℕ, zero, suc, Bool, true, false, Option, Some, None, List, [], ◌∷◌, ◌++◌, refl, sym, ◌∙◌, ap, subst, arith}
use Rattle.std.specs.Prelude.{nat_lt, MatchBool, option_map, map, if◌then◌else◌}
use Rattle.std.specs.List.{AllByRecursion, list_all, list_any}
use Rattle.pp_terms.specs.tree.Range.{Span}
use Rattle.pp_terms.specs.format.Descriptor.{Descriptor}
use Rattle.pp_terms.specs.format.Messages as messages
use Rattle.pp_terms.specs.format.Messages.{Message}
use Rattle.pp_terms.specs.format.Traffic.{Sent, LinkState}
use Rattle.pp_terms.proofs.Risings.{gains_nothing, gains_twice}
use Rattle.pp_outside.specs.Outside.{address_of}
use Rattle.pp_outside.specs.declared.link.Address.{Address}
use Rattle.pp_channels.specs.Seats.{channel_at, has_address, free_seat}
use Rattle.pp_channels.specs.Timing.{handshake_due, is_silent}
use Rattle.pp_channels.specs.declared.channel.Channel.{Channel}
use Rattle.pp_lives.specs.Reading.{is_waiting, is_proven}
use Rattle.pp_draft.specs.declared.note.Note.{Note}
use Rattle.pp_draft.specs.declared.note.Note.TheVariants.{KeepAlive, Handshake, Close, Choke, Unchoke, Ack, Have, Request, Cancel, PexReq, Pex4, Pex6}
use Rattle.pp_draft.specs.Notes.{Says}
use Rattle.pp_learner.specs.Rows.{RowState}
use Rattle.pp_learner.specs.Reading.{row_at}
use Rattle.pp_learner.specs.Sending.{on_channel, on_proven, note_for, asks, speaks, greeting_due, due_of, farewell_of, due_at, after_sending, SendsDue, Scene, SendsOn, SpeaksAt, PartsAt, EachBelow}
use Rattle.pp_learner.specs.Dialling.{dial_to, Dials, Tries, DialsFree, StepsDial, DialsAt}
use Rattle.pp_learner.specs.Flushing.{is_modest, IsModest, SendsModest, Flushes, Closes}
use Rattle.pp_learner.specs.declared.parts.Parts.{Parts}
use Rattle.pp_learner.specs.declared.due.Due.{Due}
use Rattle.pp_learner.specs.declared.dials.Dial.{Dial}

-- ---- notes

-- the note is a handshake, a REQUEST or none
abbrev pub IsModestNote : Note → Type 0
IsModestNote KeepAlive = Unit {0}
IsModestNote (Handshake source) = Unit {0}
IsModestNote Close = Unit {0}
IsModestNote (Request range) = Unit {0}
IsModestNote _ = ⊥

requests_modest : (spans : List Span) → list_all is_modest (map (λ span. messages.Request span) spans) ≡ true
requests_modest [] = refl
requests_modest (span ∷ spans) = requests_modest spans

pub says_modest : (d : Descriptor) (note : Note) (ms : List Message) → IsModestNote note → Says d note ms → list_all is_modest ms ≡ true
says_modest d KeepAlive ms modest says = ap (list_all is_modest) says
says_modest d (Handshake source) ms modest says = ap (list_all is_modest) says
says_modest d Close ms modest says = ap (list_all is_modest) says
says_modest d (Request range) ms modest says = ap (list_all is_modest) says.messages ∙ requests_modest says.spans
says_modest d Choke ms modest says = absurd modest
says_modest d Unchoke ms modest says = absurd modest
says_modest d (Ack range delay) ms modest says = absurd modest
says_modest d (Have range) ms modest says = absurd modest
says_modest d (Cancel range) ms modest says = absurd modest
says_modest d PexReq ms modest says = absurd modest
says_modest d (Pex4 address port) ms modest says = absurd modest
says_modest d (Pex6 address port) ms modest says = absurd modest

-- ---- one step

pub all_both : {A : Type 0} (P : A → Type 0) (xs ys : List A) → AllByRecursion P xs → AllByRecursion P ys → AllByRecursion P (xs ++ ys)
all_both P [] ys one two = two
all_both P (x ∷ xs) ys one two = (one.0, all_both P xs ys one.1 two)

-- the link gained modest records, and the outbox and the moment are the same
pub record Keeps (moment : ℕ) (old new : Scene) : Type 0 where
  pub sends : SendsModest moment old new
  pub outbox : new.parts.outbox ≡ old.parts.outbox
  pub now : new.parts.moment ≡ old.parts.moment

pub keeps_same : (moment : ℕ) (s : Scene) → Keeps moment s s
keeps_same moment s = record {
  sends = record {
    added = [];
    gained = gains_nothing s.link.traffic s.link.traffic refl;
    modest = tt;
    nexts = refl;
    bound = refl;
    later = omega arith;
  };
  outbox = refl;
  now = refl;
}

pub keeps_is : (moment : ℕ) (old new : Scene) → new ≡ old → Keeps moment old new
keeps_is moment old new same = subst (λ (s : Scene). Keeps moment old s) (sym same) (keeps_same moment old)

pub keeps_twice : (moment : ℕ) (a b c : Scene) → Keeps moment a b → Keeps moment b c → Keeps moment a c
keeps_twice moment a b c one two = record {
  sends = record {
    added = two.sends.added ++ one.sends.added;
    gained = gains_twice a.link.traffic b.link.traffic c.link.traffic one.sends.added two.sends.added one.sends.gained two.sends.gained;
    modest = all_both (IsModest a.parts.outbox moment) two.sends.added one.sends.added
        (subst (λ (d : Descriptor). AllByRecursion (IsModest d moment) two.sends.added) one.outbox two.sends.modest) one.sends.modest;
    nexts = two.sends.nexts ∙ one.sends.nexts;
    bound = two.sends.bound ∙ one.sends.bound;
    later = omega (arith, one.sends.later, two.sends.later);
  };
  outbox = two.outbox ∙ one.outbox;
  now = two.now ∙ one.now;
}

-- A modest note was sent, or refused.
due_keeps : (moment : ℕ) (due : Due) (sent : Bool) (old new : Scene) → IsModestNote due.note → SendsDue old.parts.outbox due moment sent old.link new.link
    → new.parts.outbox ≡ old.parts.outbox → new.parts.moment ≡ old.parts.moment → Keeps moment old new
due_keeps moment due true old new modest s outbox now = record {
  sends = record {
    added = Sent moment (address_of due.to.address) s.bytes ∷ [];
    gained = s.sends.outcome;
    modest = (
      record {
        receiver = address_of due.to.address;
        channel = due.to.channel;
        messages = s.messages;
        bytes = s.bytes;
        is = refl;
        written = s.written;
        modest = says_modest old.parts.outbox due.note s.messages modest s.said;
      },
      tt,
    );
    nexts = s.sends.nexts;
    bound = s.sends.bound;
    later = s.sends.later;
  };
  outbox = outbox;
  now = now;
}
due_keeps moment due false old new modest s outbox now = record {
  sends = record {
    added = [];
    gained = gains_nothing old.link.traffic new.link.traffic s.sends.outcome.0;
    modest = tt;
    nexts = s.sends.nexts;
    bound = s.sends.bound;
    later = s.sends.later;
  };
  outbox = outbox;
  now = now;
}

-- ---- what is due

abbrev IsModestDue : Option Due → Type 0
IsModestDue None = Unit {0}
IsModestDue (Some due) = IsModestNote due.note

abbrev IsModestSome : Option Note → Type 0
IsModestSome None = Unit {0}
IsModestSome (Some note) = IsModestNote note

note_modest : (chunk : Option ℕ) (quiet : Bool) → IsModestSome (note_for chunk quiet)
note_modest (Some chunk) quiet = tt
note_modest None true = tt
note_modest None false = tt

on_modest : (c : Channel) (note : Option Note) → IsModestSome note → IsModestDue (on_proven c note)
on_modest c note modest = by (is_proven c) note modest
  where
    by : (b : Bool) (o : Option Note) → IsModestSome o → IsModestDue (if b then option_map (on_channel c) o else None)
    by true None m = tt
    by true (Some n) m = m
    by false o m = tt

due_if : (b : Bool) (due : Due) → IsModestNote due.note → IsModestDue (if b then Some due else None)
due_if true due modest = modest
due_if false due modest = tt

greeting_modest : (now : ℕ) (o : Option Channel) → IsModestDue (greeting_due now o)
greeting_modest now None = tt
greeting_modest now (Some c) = due_if (handshake_due now c) _ tt

due_modest : (now : ℕ) (o : Option Channel) (row : RowState) → IsModestDue (due_of now o row)
due_modest now None row = tt
due_modest now (Some c) row = by (is_waiting c)
  where
    by : (b : Bool) → IsModestDue (if b then greeting_due now (Some c) else on_proven c (speaks (is_silent now c) now row))
    by true = greeting_modest now (Some c)
    by false = on_modest c (speaks (is_silent now c) now row) (note_modest (asks now row) _)

farewell_modest : (o : Option Channel) → IsModestDue (farewell_of o)
farewell_modest None = tt
farewell_modest (Some c) = by (is_waiting c)
  where
    by : (b : Bool) → IsModestDue (if b then None else on_proven c (Some Close))
    by true = tt
    by false = on_modest c (Some Close) tt

-- ---- the steps

-- nothing was sent
pub keeps_quiet : (moment : ℕ) (old new : Scene) → new.link ≡ old.link → new.parts.outbox ≡ old.parts.outbox → new.parts.moment ≡ old.parts.moment → Keeps moment old new
keeps_quiet moment old new link outbox now = record {
  sends = record {
    added = [];
    gained = gains_nothing old.link.traffic new.link.traffic (ap (λ (l : LinkState). l.traffic) link);
    modest = tt;
    nexts = ap (λ (l : LinkState). l.nexts) link;
    bound = ap (λ (l : LinkState). l.bound) link;
    later = let same : new.link.faults ≡ old.link.faults = ap (λ (l : LinkState). l.faults) link in omega (arith, same);
  };
  outbox = outbox;
  now = now;
}

after_same : (seat : ℕ) (due : Due) (sent : Bool) (p : Parts) → ((after_sending seat due sent p).outbox ≡ p.outbox) × ((after_sending seat due sent p).moment ≡ p.moment)
after_same seat due true p = (refl, refl)
after_same seat due false p = (refl, refl)

sent_keeps : (moment seat : ℕ) (what : Option Due) (old new : Scene) → IsModestDue what → SendsOn what seat moment old new → Keeps moment old new
sent_keeps moment seat None old new modest sends = keeps_is moment old new sends
sent_keeps moment seat (Some due) old new modest sends = due_keeps moment due sends.0 old new modest sends.1
    (ap (λ (p : Parts). p.outbox) sends.2 ∙ (after_same seat due sends.0 old.parts).0)
    (ap (λ (p : Parts). p.moment) sends.2 ∙ (after_same seat due sends.0 old.parts).1)

pub speak_keeps : (moment seat : ℕ) (old new : Scene) → SpeaksAt moment seat old new → Keeps moment old new
speak_keeps moment seat old new sends =
    sent_keeps moment seat (due_at old.parts seat) old new (due_modest old.parts.moment (channel_at old.parts.lives seat) (row_at old.parts.rows seat)) sends

pub part_keeps : (moment seat : ℕ) (old new : Scene) → PartsAt moment seat old new → Keeps moment old new
part_keeps moment seat old new sends =
    sent_keeps moment seat (farewell_of (channel_at old.parts.lives seat)) old new (farewell_modest (channel_at old.parts.lives seat)) sends

dials_keeps : (address : Address) (moment : ℕ) (sent : Bool) (old new : Scene) → Dials address moment sent old new → Keeps moment old new
dials_keeps address moment sent old new d = due_keeps moment (dial_to address d.source) sent old new tt d.sends
    (ap (λ (p : Parts). p.outbox) d.is) (ap (λ (p : Parts). p.moment) d.is)

pub match_cases : (b : Bool) {P Q R : Type 0} → MatchBool b P Q → (P → R) → (Q → R) → R
match_cases true m f g = f m
match_cases false m f g = g m

tries_keeps : (dial : Dial) (from : Option ℕ) (moment : ℕ) (old new : Scene) → Tries dial from moment old new → Keeps moment old new
tries_keeps dial from moment old new t = ⊎_elim
    (λ (d : (sent : Bool) × Dials dial.address moment sent old new × (from ≡ None)). dials_keeps dial.address moment d.0 old new d.1)
    (λ (n : (free_seat old.parts.lives ≡ None) × (new ≡ old) × (from ≡ dial.from)). keeps_is moment old new n.1) t

free_keeps : (o : Option ℕ) (dial : Dial) (from : Option ℕ) (moment : ℕ) (old new : Scene) → DialsFree o dial from moment old new → Keeps moment old new
free_keeps None dial from moment old new d = keeps_is moment old new d.0
free_keeps (Some at) dial from moment old new d = match_cases (nat_lt old.parts.moment at) d
    (λ (n : (new ≡ old) × (from ≡ dial.from)). keeps_is moment old new n.0) (tries_keeps dial from moment old new)

steps_keeps : (dial : Dial) (from : Option ℕ) (moment : ℕ) (old new : Scene) → StepsDial dial from moment old new → Keeps moment old new
steps_keeps dial from moment old new d = match_cases (list_any (has_address dial.address) old.parts.lives.channels) d
    (λ (n : (new ≡ old) × (from ≡ None)). keeps_is moment old new n.0) (free_keeps dial.from dial from moment old new)

pub dial_keeps : (moment i : ℕ) (old new : Scene) → DialsAt moment i old new → Keeps moment old new
dial_keeps moment i old new d = keeps_twice moment old d.mid new (steps_keeps d.dial d.from moment old d.mid d.steps)
    (keeps_quiet moment d.mid new (ap (λ (s : Scene). s.link) d.is) (ap (λ (s : Scene). s.parts.outbox) d.is) (ap (λ (s : Scene). s.parts.moment) d.is))

-- ---- all steps

pub each_keeps : (moment n : ℕ) (Step : ℕ → Scene → Scene → Type 0) (old new : Scene) → ((i : ℕ) (a b : Scene) → Step i a b → Keeps moment a b)
    → EachBelow n Step old new → Keeps moment old new
unfolding EachBelow
each_keeps moment zero Step old new keeps each = keeps_is moment old new each
each_keeps moment (suc n) Step old new keeps each =
    keeps_twice moment old each.0 new (each_keeps moment n Step old each.0 keeps each.1) (keeps n each.0 new each.2)

pub drop_keeps : (moment : ℕ) (old : Scene) (dropped : Parts) → dropped ≡ record old.parts { lives = dropped.lives } → Keeps moment old (record { parts = dropped; link = old.link })
drop_keeps moment old dropped is = keeps_quiet moment old (record { parts = dropped; link = old.link }) refl (ap (λ (p : Parts). p.outbox) is) (ap (λ (p : Parts). p.moment) is)

pub flush_keeps : (moment : ℕ) (old new : Scene) → Flushes moment old new → Keeps moment old new
flush_keeps moment old new f =
    let start : Scene = record { parts = f.dropped; link = old.link } in
    keeps_twice moment old start new (drop_keeps moment old f.dropped f.dropped_is)
    (keeps_twice moment start f.mid new (each_keeps moment _ (DialsAt moment) start f.mid (dial_keeps moment) f.dials)
    (each_keeps moment 64 (SpeaksAt moment) f.mid new (speak_keeps moment) f.speaks))

pub close_keeps : (moment : ℕ) (old new : Scene) → Closes moment old new → Keeps moment old new
close_keeps moment old new each = each_keeps moment 64 (PartsAt moment) old new (part_keeps moment) each
