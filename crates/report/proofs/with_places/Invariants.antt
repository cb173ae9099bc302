-- After so many turns so many of the path's places stand behind the line, at most four bytes each.
use Rattle.std.proofs.Common.{List, ◌++◌, ◌≡◌, ℕ, ◌+◌, ◌*◌, ◌≤◌, map, take}
use Rattle.report.specs.Lines.{line_shown, spaced, number_of}
use Rattle.report.proofs.with_places.Given as goal

abbrev pub invariant-loop-place : goal.invariant-loop-place
invariant-loop-place l = record {
  room : l.line.length ≤ l.fn.line.length + 4 * l.place-index;
  written : (s : List ℕ) → l.fn.line ≡ line_shown s → l.line ≡ line_shown (s ++ spaced (map number_of (take l.place-index l.place-items)));
}
