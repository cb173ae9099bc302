-- What stands at a place of a card file (docs/CARD-FILE.md, "Layout"): a count, a string, a number, so many of a thing in a row. Each gives
-- its value and the place past it, or the reply's number, judged from left to right. A reader must believe this file (docs/MAP.md).
-- Not here: where a string stands (Spans.antt); the replies 4 and 5 (card/specs/Content.antt), and 8, given where a byte's value is judged.
use Rattle.std.specs.Prelude.{ℕ, zero, suc, ◌+◌, ◌*◌, Bool, cond, ◌&&◌, List, [], ◌∷◌, length, get_or, take, drop, ltb, leb}
use Rattle.std.proofs.Math.Option.{Option, none, some}

-- what reading finds: a value and the place past it, or the number of the reply
pub data Parsed (A : Type 0) : Type 0 where
  got : A → ℕ → Parsed A
  stop : ℕ → Parsed A

-- the next thing is read where the last one ends
abbrev pub after : {A B : Type 0} → Parsed A → (A → ℕ → Parsed B) → Parsed B
after (got a e) f = f a e
after (stop r) f = stop r

-- a count or a length: a byte in a range, judged when it is read
unfoldable pub count_p : ℕ → ℕ → List ℕ → ℕ → Parsed ℕ
count_p least most s at =
    cond (ltb at (length s))
    (cond (leb least (get_or s at 0) && leb (get_or s at 0) most) (got (get_or s at 0) (at + 1)) (stop 7))
    (stop 6)

-- any byte
unfoldable pub byte_p : List ℕ → ℕ → Parsed ℕ
byte_p = count_p 0 255

-- the next n bytes
unfoldable pub bytes_p : ℕ → List ℕ → ℕ → Parsed (List ℕ)
bytes_p n s at = cond (leb (at + n) (length s)) (got (take n (drop at s)) (at + n)) (stop 6)

-- a string: the length is judged first, then its bytes must be there
unfoldable pub string_p : ℕ → ℕ → List ℕ → ℕ → Parsed (List ℕ)
string_p least most s at = after (count_p least most s at) (λ n e. bytes_p n s e)

-- bytes as one number, the highest first, after those that make v
abbrev pub big_endian : ℕ → List ℕ → ℕ
big_endian v [] = v
big_endian v (b ∷ l) = big_endian (v * 256 + b) l

-- a number of so many bytes
unfoldable pub big_p : ℕ → List ℕ → ℕ → Parsed ℕ
big_p width s at = after (bytes_p width s at) (λ l e. got (big_endian 0 l) e)

-- a thing that stands there only where it is announced
unfoldable pub optional_p : {A : Type 0} → Bool → (List ℕ → ℕ → Parsed A) → List ℕ → ℕ → Parsed (Option A)
optional_p announced p s at = cond announced (after (p s at) (λ a e. got (some a) e)) (got none at)

-- n of a thing in a row
unfoldable pub many : {A : Type 0} → (List ℕ → ℕ → Parsed A) → ℕ → List ℕ → ℕ → Parsed (List A)
many p zero s at = got [] at
many p (suc n) s at = after (p s at) (λ a e. after (many p n s e) (λ l f. got (a ∷ l) f))

-- a count in a range, then so many of a thing
unfoldable pub counted_p : {A : Type 0} → ℕ → ℕ → (List ℕ → ℕ → Parsed A) → List ℕ → ℕ → Parsed (List A)
counted_p least most p s at = after (count_p least most s at) (λ n e. many p n s e)

-- a thing that fills its bytes to the last: bytes left over are judged when it was read
unfoldable pub whole : {A : Type 0} → (List ℕ → ℕ → Parsed A) → List ℕ → Parsed A
whole p s = after (p s 0) (λ a e. cond (ltb e (length s)) (stop 9) (got a e))
