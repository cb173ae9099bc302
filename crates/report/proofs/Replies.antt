-- The line for each case of a reply: `line_accepted`, `line_refused`, `line_exhausted`, `line_error`, for the proof of `line_of`. The
-- words: specs/Lines.antt; what a line tells of a search: Told.antt.
use mathlib.Core.List.{◌++◌}
use mathlib.Core.Path.{◌≡◌}
use Prim.Native.Nat.{ℕ}
use Rattle.places.specs.declared.RootPlace.{RootPlace}
use Rattle.reply.specs.declared.path.Path.{Path}
use Rattle.reply.specs.declared.Reply.{Reply}
use Rattle.reply.specs.declared.Reply.TheVariants as reply
use Rattle.report.specs.Lines.{line_shown, newline, places_shown, words}
use Rattle.report.specs.Text.{ascii, decimal}
use Rattle.report.specs.declared.line.Line.{Line}

module _ {x : Reply} (p : Path) {r : Line} where
  pub line_accepted : {root : RootPlace} {s : ℕ} → x ≡ reply.Accepted root s
      → r ≡ line_shown (words (reply.Accepted root s) (places_shown p) ++ newline) → r ≡ line_shown (words x (places_shown p) ++ newline)
  line_accepted e h = rw e h

  pub line_refused : {s : ℕ} → x ≡ reply.Refused s
      → r ≡ line_shown ((ascii "REFUSE steps " ++ decimal s) ++ newline) → r ≡ line_shown (words x (places_shown p) ++ newline)
  unfolding words
  line_refused e h = rw e h

  pub line_exhausted : {s : ℕ} → x ≡ reply.Exhausted s
      → r ≡ line_shown ((ascii "EXHAUSTED steps " ++ decimal s) ++ newline) → r ≡ line_shown (words x (places_shown p) ++ newline)
  unfolding words
  line_exhausted e h = rw e h

  pub line_error : {e n : ℕ} → x ≡ reply.Error e → n ≡ e
      → r ≡ line_shown ((ascii "ERROR " ++ decimal n) ++ newline) → r ≡ line_shown (words x (places_shown p) ++ newline)
  unfolding words
  line_error q k h = rw (q, ← k) h
