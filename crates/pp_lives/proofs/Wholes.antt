-- The laws of the calls.
use Rattle.std.proofs.Common.{◌≡◌, ℕ, eqb, Bool, true, false, cond, ◌||◌, Option, Some, None, List, [], ◌∷◌, length, replicate, refl, sym, ◌∙◌, subst, arith}
use Rattle.std.specs.Prelude.{MatchBool}
use Rattle.std.proofs.lemmas.Bool.{or_left, or_right, cond-false, ne_eqb}
use Rattle.pp_terms.specs.format.Traffic.{Received, Sent}
use Rattle.pp_terms.specs.format.Descriptor.{Descriptor}
use Rattle.pp_traffic.specs.Life.{Life, greets, answers}
use Rattle.pp_traffic.specs.Awaiting.{Awaits, AwaitsDial, AwaitsAnswer}
use Rattle.pp_traffic.proofs.OneMore.{at_more}
use Rattle.pp_traffic.proofs.Awaited.{plain_began}
use Rattle.pp_outside.specs.Outside.{address_of}
use Rattle.pp_outside.specs.declared.link.Address.{Address}
use Rattle.pp_channels.specs.Seats.{Seats, channel_at}
use Rattle.pp_channels.specs.declared.channel.Channel.{Channel}
use Rattle.pp_channels.proofs.Seating.{all_free, none_there}
use Rattle.pp_lives.specs.Reading.{opens}
use Rattle.pp_lives.specs.Standing.{StandsAt}
use Rattle.pp_lives.specs.Calls.{dialled_life}
use Rattle.pp_lives.specs.Arriving.{Arrives}
use Rattle.pp_lives.specs.Arrived.{Arrived, KeepsStanding}
use Rattle.pp_lives.specs.Laws.{StandsAtFirst, QuietStays, ExpiredStays, SaidStays, SeatsLive, DialsStay, DialledStays, RedialledStays, SteadyStays}
use Rattle.pp_lives.specs.declared.arriving.Arrival.{Arrival}
use Rattle.pp_lives.proofs.Own.{stands_of}
use Rattle.pp_lives.proofs.Missed.{quiet_seated, quiet_tells}
use Rattle.pp_lives.proofs.Closing.{dropped_seated, dropped_tells}
use Rattle.pp_lives.proofs.Edits.{dials_seated, steady_seated, steady_tells}
use Rattle.pp_lives.proofs.Sent.{unchanged, said_seated, said_tells}
use Rattle.pp_lives.proofs.Dialled.{dialled_seated, redialled_seated, dialled_tells}
use Rattle.pp_lives.proofs.Plainly.{plains_quiet, plains_dropped, expired_done, plains_steady}
use Rattle.pp_lives.proofs.PlainSends.{plains_said, plains_dials, plains_dialled, plains_redialled}
use Rattle.pp_lives.proofs.Changing.{dropped_is, are_dropped}
use Rattle.pp_lives.proofs.Dispatch.{arrived}

pub keeps_standing : (d : Descriptor) (t new : Seats) (sender : Address) (moment : ℕ) (bytes : List ℕ) (result : Arrival) → Arrives d t sender moment bytes result new → KeepsStanding d t sender moment bytes result new
keeps_standing d t new sender moment bytes result a lives stamp past e s live =
    subst (λ (n : ℕ). Arrived d t lives (Received stamp (address_of sender) bytes) past n bytes result new) (sym e)
    (arrived d t new lives sender stamp bytes past result s live (subst (λ (n : ℕ). Arrives d t sender n bytes result new) e a))

pub stands_at_first : StandsAtFirst
stands_at_first d numbers =
    let t : Seats = record { channels = replicate 64 None; numbers = numbers } in
    let free : (seat : ℕ) (c : Channel) → channel_at t seat ≡ Some c → ⊥ = λ seat c there. (let none = none_there 64 seat in cc) in
    record {
      seated = record {
        are = all_free;
        each = λ seat. subst (λ (o : Option Channel). StandsAt d o None []) (sym (none_there 64 seat)) tt;
        apart = λ one other a e n at_one at_other ra re same. absurd (free one a at_one);
        blank = λ seat c l there living waits. absurd (free seat c there);
        unknown = λ seat c there waits. absurd (free seat c there);
      };
      plains = record {
        plain = λ life is. absurd (let lt = plain_began d life [] [] is in omega arith);
        dial = λ life dialled is. absurd (none_awaits life dialled is);
        dial_alone = λ one other a e at_one at_other da de same. absurd (free one a at_one);
        shadow = λ seat c there shadowed dialled. absurd (free seat c there);
      };
    }
  where
    none_awaits : (life : Life) → life.is_dialled ≡ true → Awaits d life [] → ⊥
    none_awaits life dialled is = let dial = subst (λ (b : Bool). MatchBool b (AwaitsDial d life []) (AwaitsAnswer d life [])) dialled is.begins in none_at dial.opened
      where
        none_at : false ≡ true → ⊥
        none_at e = cc

pub quiet_stays : QuietStays
quiet_stays d t lives moment past s = (
  record { seated = quiet_seated d t lives moment past s.seated; plains = plains_quiet d t lives moment past s.plains },
  quiet_tells d t lives moment past s.seated,
)

pub expired_stays : ExpiredStays
expired_stays d t lives seat c past s there over =
    let drops = dropped_is t seat c there in (
      record {
        seated = dropped_seated d t _ lives seat c past s.seated (are_dropped t seat c s.seated.are there) drops;
        plains = plains_dropped d t _ lives seat c past s.seated s.plains drops (expired_done d t lives seat c past s.seated s.plains there over);
      },
      dropped_tells d t _ lives seat c past drops,
    )

pub said_stays : SaidStays
said_stays d t new lives seat c c' life moment bytes past s there living known number own st begun are ch =
    let plains = plains_said d t t lives seat c life moment bytes past s.seated s.plains there living known number own (unchanged t seat c there) in (
      record {
        seated = said_seated d t new lives seat c c' life moment bytes past s.seated there living known number st begun are ch;
        plains = plains_steady d t new lives seat c c' (Sent moment (address_of c.address) bytes ∷ past) plains there st ch;
      },
      said_tells d t new lives seat c c' life moment bytes past s.seated there living known number st ch,
    )

pub dials_stay : DialsStay
dials_stay d t new lives seat receiver moment local past s free are ch none = record {
  seated = dials_seated d t new lives seat receiver moment local past s.seated free are ch;
  plains = plains_dials d t new lives seat receiver moment local past s.plains free ch none;
}

pub dialled_stays : DialledStays
dialled_stays d t new lives seat c c' moment bytes past s there living waits made is st begun are ch =
    let plains = plains_dialled d t t lives seat c moment bytes past s.plains there living waits is (unchanged t seat c there) in (
      record {
        seated = dialled_seated d t new lives seat c c' moment (address_of c.address) bytes past s.seated there living waits made is st begun are ch;
        plains = plains_steady d t new _ seat c c' (Sent moment (address_of c.address) bytes ∷ past) plains there st ch;
      },
      dialled_tells d t new lives _ seat c c' moment (address_of c.address) bytes past s.seated there waits is st ch
          (λ other ne. cond-false (eqb other seat) (Some (dialled_life (address_of c.address) c.local (length past))) (lives other) (ne_eqb other seat ne)),
    )

pub redialled_stays : RedialledStays
redialled_stays d t new lives seat c c' life moment bytes past s there living waits is st begun are ch =
    let plains = plains_redialled d t t lives seat c life moment bytes past s.seated s.plains there living waits is (unchanged t seat c there) in (
      record {
        seated = redialled_seated d t new lives seat c c' life moment (address_of c.address) bytes past s.seated there living is st begun are ch;
        plains = plains_steady d t new lives seat c c' (Sent moment (address_of c.address) bytes ∷ past) plains there st ch;
      },
      dialled_tells d t new lives lives seat c c' moment (address_of c.address) bytes past s.seated there waits is st ch (λ other ne. refl),
    )

pub steady_stays : SteadyStays
steady_stays d t new lives seat c c' past s there st begun are ch = (
  record { seated = steady_seated d t new lives seat c c' past s.seated there st begun are ch; plains = plains_steady d t new lives seat c c' past s.plains there st ch },
  steady_tells d t new lives seat c c' past there st ch,
)

pub seats_live : SeatsLive
seats_live d t lives seat c life past s there living known begun =
    let st = stands_of d (channel_at t seat) (lives seat) c life past (s.seated.each seat) there living in
    let g = st.goes in
    record {
      local_some = st.local_some;
      remote_some = (st.remote known).1;
      greeted = g.greeted known;
      answered = sym g.has_begun ∙ begun;
      opened = at_more (opens d life) (λ r. greets d life r || answers d life r) (λ r e. either life.is_dialled (answers d life r) (greets d life r) e) life.opening past st.opened;
      open_still = g.open_still;
    }
  where
    either : (b x y : Bool) → cond b x y ≡ true → (y || x) ≡ true
    either true x y e = or_right y x e
    either false x y e = or_left y x e
