-- What a run counts, and the lines that say it.
use Rattle.std.specs.Prelude.{ℕ, List, ◌++◌, codes, decimal}

-- How often each of these happened; a count stands still at the greatest number of 64 bits.
pub record Tally : Type 0 where
  pub turns : ℕ
  pub datagrams : ℕ
  pub sent : ℕ
  pub stored : ℕ
  pub keepalives : ℕ
  pub short : ℕ
  pub stranger : ℕ
  pub refused_handshakes : ℕ
  pub no_seat : ℕ
  pub cut : ℕ
  pub outside : ℕ
  pub not_a_node : ℕ
  pub full : ℕ
  pub choked : ℕ
  pub unheld : ℕ
  pub missing : ℕ
  pub wrong : ℕ
  pub repeats : ℕ
  pub damaged : ℕ
  pub read_faults : ℕ
  pub send_faults : ℕ
  pub receive_faults : ℕ

-- a count's line: its name, a space and its number
abbrev pub counter : List ℕ → ℕ → List ℕ
counter name n = name ++ decimal n ++ codes "\n"

-- what came and went
unfoldable pub first_lines : Tally → List ℕ
first_lines t =
    counter (codes "turns ") t.turns ++
    (counter (codes "datagrams ") t.datagrams ++
    (counter (codes "sent ") t.sent ++
    (counter (codes "stored ") t.stored ++
    (counter (codes "keepalives ") t.keepalives ++
    (counter (codes "short ") t.short ++
    (counter (codes "stranger ") t.stranger ++
    (counter (codes "refused_handshakes ") t.refused_handshakes ++
    (counter (codes "no_seat ") t.no_seat ++
    (counter (codes "cut ") t.cut ++
    (counter (codes "outside ") t.outside))))))))))

-- what came to nothing
unfoldable pub other_lines : Tally → List ℕ
other_lines t =
    counter (codes "not_a_node ") t.not_a_node ++
    (counter (codes "full ") t.full ++
    (counter (codes "choked ") t.choked ++
    (counter (codes "unheld ") t.unheld ++
    (counter (codes "missing ") t.missing ++
    (counter (codes "wrong ") t.wrong ++
    (counter (codes "repeats ") t.repeats ++
    (counter (codes "damaged ") t.damaged ++
    (counter (codes "read_faults ") t.read_faults ++
    (counter (codes "send_faults ") t.send_faults ++
    (counter (codes "receive_faults ") t.receive_faults))))))))))

abbrev pub tally_text : Tally → List ℕ
tally_text t = first_lines t ++ other_lines t
