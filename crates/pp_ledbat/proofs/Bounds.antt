-- The bounds of a window.
use Rattle.std.proofs.Common.{◌≡◌, ℕ, ◌+◌, ◌*◌, ◌≤◌, min, max, Bool, true, false, cond, pos, ◌+ℤ◌, List, [], ◌∷◌, refl, sym, subst, arith, ◌==◌}
use Rattle.std.specs.Int.{int_min}
use Rattle.pp_terms.specs.format.Messages.{Message, Data, Ack}
use Rattle.pp_traffic.specs.Story.{Line, Heard, Said, Taken}
use Rattle.pp_traffic.specs.Gain.{gain, gained, natural}
use Rattle.pp_traffic.specs.Delays.{sample_of, is_near, sampled, queuing}
use Rattle.pp_traffic.specs.Meter.{Meter, flight, hits, half_of, window_gained, is_halved, settled, acked, is_due, timed_out, heard_by, said_by, meter}
use Rattle.pp_ledbat.specs.Laws.{WindowsAreBounded}

-- a number between the bounds
clamped_least : (chunk n : ℕ) → 2 * chunk ≤ min (512 * chunk) (max (2 * chunk) n)
clamped_least chunk n = omega arith

clamped_most : (chunk n : ℕ) → min (512 * chunk) (max (2 * chunk) n) ≤ 512 * chunk
clamped_most chunk n = omega arith

gained_least : (window acked queuing chunk flight : ℕ) → 2 * chunk ≤ gained window acked queuing chunk flight
gained_least window acked queuing chunk flight = clamped_least chunk (natural (int_min (pos window +ℤ gain window acked queuing chunk) (pos (flight + chunk))))

gained_most : (window acked queuing chunk flight : ℕ) → gained window acked queuing chunk flight ≤ 512 * chunk
gained_most window acked queuing chunk flight = clamped_most chunk (natural (int_min (pos window +ℤ gain window acked queuing chunk) (pos (flight + chunk))))

record IsBounded (chunk window : ℕ) : Type 0 where
  least : chunk ≤ window
  most : window ≤ 512 * chunk

record IsFine (chunk : ℕ) (m : Meter) : Type 0 where
  same : m.chunk ≡ chunk
  bounded : IsBounded chunk m.window

halved_bounded : (b : Bool) (chunk window : ℕ) → IsBounded chunk window → IsBounded chunk (cond b (half_of chunk window) window)
halved_bounded true chunk window is = record { least = (let l = is.least in omega arith); most = (let m = is.most in omega arith) }
halved_bounded false chunk window is = is

either_bounded : (b : Bool) (chunk x y : ℕ) → IsBounded chunk x → IsBounded chunk y → IsBounded chunk (cond b x y)
either_bounded true chunk x y p q = p
either_bounded false chunk x y p q = q

gained_bounded : (window acked queuing chunk flight : ℕ) → IsBounded chunk (gained window acked queuing chunk flight)
gained_bounded window acked queuing chunk flight = record {
  least = (let l = gained_least window acked queuing chunk flight in omega arith);
  most = gained_most window acked queuing chunk flight;
}

window_bounded : (first last delay now : ℕ) (m : Meter) → IsBounded m.chunk m.window → IsBounded m.chunk (settled first last delay now m).window
window_bounded first last delay now m is =
    halved_bounded (is_halved first last now m) m.chunk (window_gained first last delay now m)
    (either_bounded (is_near (sample_of m.delays.first delay)) m.chunk
    (gained m.window (hits first last m.entries * m.chunk) (queuing (sampled delay now m.delays)) m.chunk (flight m)) m.window
    (gained_bounded m.window (hits first last m.entries * m.chunk) (queuing (sampled delay now m.delays)) m.chunk (flight m)) is)

settled_fine : (first last delay now chunk : ℕ) (m : Meter) → IsFine chunk m → IsFine chunk (settled first last delay now m)
settled_fine first last delay now chunk m is = record {
  same = is.same;
  bounded = subst (λ (n : ℕ). IsBounded n (settled first last delay now m).window) is.same
      (window_bounded first last delay now m (subst (λ (n : ℕ). IsBounded n m.window) (sym is.same) is.bounded));
}

either_fine : (b : Bool) (chunk : ℕ) (m n : Meter) → IsFine chunk m → IsFine chunk n → IsFine chunk (cond b m n)
either_fine true chunk m n p q = p
either_fine false chunk m n p q = q

acked_fine : (first last delay now chunk : ℕ) (m : Meter) → IsFine chunk m → IsFine chunk (acked first last delay now m)
acked_fine first last delay now chunk m is = either_fine (hits first last m.entries == 0) chunk m (settled first last delay now m) is (settled_fine first last delay now chunk m is)

timed_out_fine : (now chunk : ℕ) (m : Meter) → IsFine chunk m → IsFine chunk (timed_out now m)
timed_out_fine now chunk m is = record {
  same = is.same;
  bounded = record { least = (let s = is.same in omega arith); most = (let s = is.same in omega arith) };
}

heard_fine : (now chunk : ℕ) (message : Message) (m : Meter) → IsFine chunk m → IsFine chunk (heard_by now message m)
heard_fine now chunk (Ack span delay) m is = acked_fine span.first span.last delay now chunk m is
heard_fine now chunk _ m is = is

said_fine : (now chunk : ℕ) (message : Message) (m : Meter) → IsFine chunk m → IsFine chunk (said_by now message m)
said_fine now chunk (Data i sent_at bytes) m is = record { same = is.same; bounded = is.bounded }
said_fine now chunk _ m is = is

meter_fine : (chunk : ℕ) (story : List Line) → IsFine chunk (meter chunk story)
meter_fine chunk [] = record { same = refl; bounded = record { least = omega arith; most = omega arith } }
meter_fine chunk (Heard now message ∷ before) = heard_fine now chunk message (meter chunk before) (meter_fine chunk before)
meter_fine chunk (Said now message ∷ before) = said_fine now chunk message (meter chunk before) (meter_fine chunk before)
meter_fine chunk (Taken now ∷ before) =
    either_fine (is_due now (meter chunk before)) chunk (timed_out now (meter chunk before)) (meter chunk before)
    (timed_out_fine now chunk (meter chunk before) (meter_fine chunk before)) (meter_fine chunk before)

pub windows_are_bounded : WindowsAreBounded
windows_are_bounded = record {
  least = λ chunk story. (meter_fine chunk story).bounded.least;
  most = λ chunk story. (meter_fine chunk story).bounded.most;
  moved_least = gained_least;
  moved_most = gained_most;
}
