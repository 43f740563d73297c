-- The small world, move by move, and single acts.
use Rattle.std.proofs.Common.{◌≡◌, inl, inr, true, [], ◌∷◌, refl, arith}
use Rattle.pp_terms.specs.disk.Calls.{Refused}
use Rattle.pp_terms.specs.disk.Store.{header}
use Rattle.pp_terms.specs.format.Traffic as traffic
use Rattle.pp_terms.specs.format.Traffic.{Quiet}
use Rattle.pp_world.specs.Opening.{IsAnothers, Opens, FailsToOpen}
use Rattle.pp_world.specs.Orders.{no_orders, has_order}
use Rattle.pp_world.specs.Schedule.{Device, Read, Write, Sync, Send, Receive}
use Rattle.pp_world.specs.Turn.{TakesTurn}
use Rattle.pp_world.specs.World.{reads_of, address_of}
use Rattle.pp_world.specs.Worlds.{swarm_of, idle, empty_disk}
use Rattle.pp_world.specs.WorldExamples.{small, bare, taught, session_with, opened_peer, forged_0, written, greeting, second, records_0, turned_0, waiting_1, records_1, turned_1, stopped_1, restarted_with, failing, failed, ordered, ordered_after, deafened, deafened_after, with_file, failing_sync, SmallWorlds, ActExamples}

pub opening : Opens (swarm_of small) (idle empty_disk) opened_peer
opening = record {
  calls = record { calls = []; made = refl; are_calls = tt; ordered = λ call e. e; writes = refl; faults = refl; hard = refl };
  begins = λ a. omega (arith, a.some);
  unordered = (refl, refl);
  book = bare;
  learned = λ k j. refl;
  is = refl;
  runs = refl;
  queue = refl;
}

restarting : Opens (swarm_of small) stopped_1 (restarted_with bare)
restarting = record {
  calls = record { calls = []; made = refl; are_calls = tt; ordered = λ call e. e; writes = refl; faults = refl; hard = refl };
  begins = λ a. omega (arith, a.some);
  unordered = (refl, refl);
  book = bare;
  learned = λ k j. refl;
  is = refl;
  runs = refl;
  queue = refl;
}

turn_0 : TakesTurn 20000 forged_0 records_0 turned_0
turn_0 = record {
  session = session_with bare [] [];
  earlier = [];
  was = refl;
  calls = record {
    calls = written;
    made = refl;
    are_calls = (tt, (tt, (tt, tt)));
    ordered = λ call e. e;
    writes = refl;
    faults = refl;
    hard = refl;
  };
  sent = traffic.Sent 1 (address_of 1) second ∷ traffic.Sent 1 (address_of 1) greeting ∷ [];
  gained = refl;
  went = (refl, (refl, tt));
  waited = refl;
  book = bare;
  is = refl;
  queue = refl;
  goes_on = inl refl;
}

turn_1 : TakesTurn 20000 waiting_1 records_1 turned_1
turn_1 = record {
  session = session_with bare [] [];
  earlier = [];
  was = refl;
  calls = record { calls = []; made = refl; are_calls = tt; ordered = λ call e. e; writes = refl; faults = refl; hard = refl };
  sent = [];
  gained = refl;
  went = tt;
  waited = refl;
  book = taught;
  is = refl;
  queue = refl;
  goes_on = inl refl;
}

pub small_worlds : SmallWorlds
small_worlds = (
  -- peer 1 is started, is stopped; peer 0 crashes
  record { before = stopped_1; after = restarted_with bare; added = []; here = refl; changed = (inl restarting, refl); is = refl },
  (
    refl,
    (
      refl,
      (
        -- the round
        record { before = waiting_1; after = turned_1; added = records_1; here = refl; changed = turn_1; is = refl },
        (
          record { before = forged_0; after = turned_0; added = records_0; here = refl; changed = turn_0; is = refl },
          (
            refl,
            (
              refl,
              (
                refl,
                (
                  -- both peers are started
                  record { before = idle empty_disk; after = opened_peer; added = []; here = refl; changed = (inl opening, refl); is = refl },
                  (
                    record { before = idle empty_disk; after = opened_peer; added = []; here = refl; changed = (inl opening, refl); is = refl },
                    record { clock = refl; peers = (record { disk = refl; is = refl }, (record { disk = refl; is = refl }, tt)) },
                  ),
                ),
              ),
            ),
          ),
        ),
      ),
    ),
  ),
)

-- nothing is ordered where no kind of call is
none : (call : Device) → has_order no_orders call ≡ true → ⊥
none Read e = cc
none Write e = cc
none Sync e = cc
none Send e = cc
none Receive e = cc

failing_turn : TakesTurn 20000 failing (Quiet 20000 ∷ []) failed
failing_turn = record {
  session = session_with bare [] [];
  earlier = [];
  was = refl;
  calls = record {
    calls = Refused 0 (1 ∷ []) ∷ [];
    made = refl;
    are_calls = (tt, tt);
    ordered = λ call e. absurd (none call e);
    writes = refl;
    faults = refl;
    hard = refl;
  };
  sent = [];
  gained = refl;
  went = tt;
  waited = refl;
  book = bare;
  is = refl;
  queue = refl;
  goes_on = inr (refl, refl, omega arith);
}

unused_turn : TakesTurn 20000 ordered (Quiet 20000 ∷ []) ordered_after
unused_turn = record {
  session = session_with bare [] [];
  earlier = [];
  was = refl;
  calls = record { calls = []; made = refl; are_calls = tt; ordered = λ call e. e; writes = refl; faults = refl; hard = refl };
  sent = [];
  gained = refl;
  went = tt;
  waited = refl;
  book = bare;
  is = refl;
  queue = refl;
  goes_on = inl refl;
}

deafened_turn : TakesTurn 20000 deafened [] deafened_after
deafened_turn = record {
  session = session_with bare [] [];
  earlier = [];
  was = refl;
  calls = record {
    calls = [];
    made = refl;
    are_calls = tt;
    ordered = λ call e. absurd (none call e);
    writes = refl;
    faults = refl;
    hard = refl;
  };
  sent = [];
  gained = refl;
  went = tt;
  waited = refl;
  book = bare;
  is = refl;
  queue = refl;
  goes_on = inl refl;
}

-- two bytes aren't the beginning of a header
pub is_anothers : IsAnothers (swarm_of small) (reads_of with_file)
unfolding header
is_anothers = record { some = omega arith; differs = λ begins. let e : 1 ≡ 0x50 = begins 0 (omega arith) in omega (arith, e) }

another : FailsToOpen (swarm_of small) with_file with_file
another = record {
  calls = record { calls = []; made = refl; are_calls = tt; ordered = λ call e. e; writes = refl; faults = refl; hard = refl };
  cause = inl is_anothers;
  same = refl;
  stopped = refl;
  queue = refl;
}

unsynced : FailsToOpen (swarm_of small) failing_sync (record (idle empty_disk) { faults = 1; hard = 1 })
unsynced = record {
  calls = record {
    calls = [];
    made = refl;
    are_calls = tt;
    ordered = λ call e. absurd (none call e);
    writes = refl;
    faults = refl;
    hard = refl;
  };
  cause = inr (omega arith);
  same = refl;
  stopped = refl;
  queue = refl;
}

pub act_examples : ActExamples
act_examples = record {
  rounds = refl;
  stays = refl;
  crashes = refl;
  fits = refl;
  overflows = refl;
  unused = unused_turn;
  waits = deafened_turn;
  another = another;
  unsynced = unsynced;
  lost = refl;
  repeated = refl;
  delayed = refl;
  forged = refl;
  joined = refl;
  elsewhere = refl;
  stops = failing_turn;
}
