use Rattle.std.proofs.Common.{◌≡◌, ℕ, ◌<◌, ◌≤◌, get_or, None}
use Rattle.level.specs.Board.{without}
use Rattle.level.proofs.board.Board.release.Given as goal

abbrev pub invariant-loop-cell : goal.invariant-loop-cell
invariant-loop-cell l = record {
  done : (k : ℕ) → k < l.cell-index → get_or l.cell-items k None ≡ without l.seat (get_or l.fn.self.cells k None);
  ahead : (k : ℕ) → l.cell-index ≤ k → get_or l.cell-items k None ≡ get_or l.fn.self.cells k None;
}
