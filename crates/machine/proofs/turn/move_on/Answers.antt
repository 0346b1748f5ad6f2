-- `machine::turn::move_on` meets its contract.
use Rattle.machine.proofs.OutcomeLaws.{moved_on, finished}
use Rattle.process.proofs.LentLaws.{depth_with}
use Rattle.collectives.proofs.ArrivalMoves.{running-at, end-running}
use Rattle.rules.proofs.StackLaws.{advanced-length}
use Rattle.rules.proofs.ProcessLaws.{process_length}
use Rattle.rules.specs.Table.{Program, statement_at}
use Rattle.rules.specs.Process.{depth_at, process_words, process_at, with_process, environment, top, advanced, depth}
use Rattle.rules.specs.Arrivals.{with_arrival}
use Prim.Native.Nat.{ℕ, ◌+◌, ◌*◌, ◌<◌}
use lib.ListN.{length, get_or}
use mathlib.Core.Path.{◌≡◌, sym, ◌∙◌, ap}
use mathlib.Core.List.{List}
use Rattle.machine.proofs.turn.move_on.Goals as goal

module _ (program : Program) (state : List ℕ) (count p : ℕ) where
  -- the process's words after its statement
  abbrev moved : List ℕ
  moved =
      let here = process_at state p in
      advanced program (environment here p count) here (statement_at program (top here))

  -- the depth read off the state is theirs
  left : {after : List ℕ} → length state ≡ process_words * count → p < count → after ≡ with_process state p moved
      → get_or after (process_words * p + depth_at) 0 ≡ depth moved
  left stated within written =
      let sized : length moved ≡ process_words =
      advanced-length program _ (process_at state p) _ ∙ process_length state count p stated within in
      ap (λ l. get_or l (process_words * p + depth_at) 0) written ∙ depth_with state moved count p stated sized within

pub returns-then-state-depth-ne0 : goal.returns-then-state-depth-ne0
returns-then-state-depth-ne0 c =
    let read = left _ _ _ _ c.requires.0.stated c.requires.1 c.advance_in.ensures in
    moved_on _ _ _ _ _ c.advance_in.ensures (λ e. c.if-state-depth-ne0.true (read ∙ e))

pub returns : goal.returns
returns c =
    let args = c.args in
    let read = left _ _ _ _ c.requires.0.stated c.requires.1 c.advance_in.ensures in
    let runs = ap (λ r. r.status) c.read.ensures ∙ running-at args.roll.now args.p c.requires.2 in
    finished _ _ _ _ _ c.advance_in.ensures (sym read ∙ c.if-state-depth-ne0.false)
    (c.write.ensures ∙ ap (with_arrival args.roll.now args.p) (c.end-ended.ensures ∙ end-running _ runs))
    c.team_status-team.ensures
