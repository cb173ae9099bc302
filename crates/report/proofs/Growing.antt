-- A line under way grows at its end (`grown`), for the proof of `Line::with`. A line as it is handed out: `line_shown` of specs/Lines.antt.
use mathlib.Core.List.{List, ◌++◌}
use mathlib.Core.Path.{◌≡◌, ap, ap₂, sym, ◌∙◌}
use Prim.Native.Nat.{ℕ, ◌+◌, ◌-◌, ◌≤◌}
use native.Mathlib.Omega.{arith}
use lib.ListN.{length, replicate, length-append}
use lib.Seq.{paste, take-append_seam, drop-append-add, take-length}
use Rattle.std.proofs.lemmas.List.{drop-replicate}
use Rattle.report.specs.Lines.{line_most, line_shown}
use Rattle.report.specs.declared.line.Line.{Line}

-- what was pasted behind l stands behind it, and zeros past it
pasted : (l more : List ℕ) → length l + length more ≤ line_most
    → paste (l ++ replicate (line_most - length l) 0) (length l) more (length more) ≡ (l ++ more) ++ replicate (line_most - length (l ++ more)) 0
pasted l more h =
    let n : line_most - length l - length more ≡ line_most - length (l ++ more) = rw length-append (omega arith) in
    rw (take-append_seam, take-length, drop-append-add, drop-replicate {X = ℕ} (length more) (line_most - length l) 0, n)

-- the line that a copy of more leaves
pub grown : (x : Line) (more bytes : List ℕ) → x.length + length more ≤ line_most → bytes ≡ paste x.bytes x.length more (length more)
    → (l : List ℕ) → x ≡ line_shown l → record { bytes = bytes; length = x.length + length more } ≡ line_shown (l ++ more)
unfolding line_shown
grown x more bytes h b l e =
    let long : x.length ≡ length l = ap (λ (y : Line). y.length) e in
    let held : x.bytes ≡ l ++ replicate (line_most - length l) 0 = ap (λ (y : Line). y.bytes) e in
    ap₂ (λ (d : List ℕ) (k : ℕ). record { bytes = d; length = k })
    (b ∙ rw (held, long) (pasted l more (omega arith)))
    (rw long (sym (length-append l more)))
