-- The count of steps is of the new ledger.
use Rattle.spanset_eval.proofs.outcome.select_positions.Given as goal

abbrev pub ghosts-select_stepping : goal.ghosts-select_stepping
ghosts-select_stepping a = record { name = a.blank.name; parts = a.blank.parts }
