-- "A record goes from running to waiting, from waiting to running or ended, from running to ended; no other move exists": what is
-- claimed of every record over a turn. Nothing else cites this file.
use Rattle.std.specs.Prelude.{List, ◌⊎◌, ◌≡◌, ℕ, ◌<◌}
use Rattle.rules.specs.Arrivals.{running, waiting, ended, status_at, SameRecord}
use Rattle.rules.specs.Step.{processes_in, stepped}

-- the moves, by the status before and after
abbrev pub Moves : ℕ → ℕ → Type 0
Moves before after =
    ((before ≡ running) × (after ≡ waiting))
    ⊎ (((before ≡ waiting) × (after ≡ running))
    ⊎ (((before ≡ waiting) × (after ≡ ended))
    ⊎ ((before ≡ running) × (after ≡ ended))))

-- for every table, state, roll and turn, refused or taken: each record stays, all four words of it, or makes one of the moves.
-- That of the process whose arrival completes a collective may make two, and then it stays or has gone from running to ended.
abbrev pub OnlyMoves : Type 0
OnlyMoves =
    (table state roll : List ℕ) (p q : ℕ) → q < processes_in roll
    → SameRecord (stepped table state roll p).roll roll q
    ⊎ Moves (status_at roll q) (status_at (stepped table state roll p).roll q)
