-- The loop of `normalize_string` on plain lists: what holds at its head (`start`), a law for each arm (`space`, `one`, `two`), and what
-- the end answers (`done`). What is answered and written: specs/Normalize.antt; that the loop's form is the normal form:
-- NormalFrom.antt.
use Prim.Native.Nat.{ℕ, ◌+◌, ◌<◌, ◌≤◌}
use mathlib.Core.Path.{◌≡◌, refl, sym, ap, ◌∙◌}
use mathlib.Core.Bool.{Bool, true, false, cond, ◌&&◌, and-false, false≢true}
use mathlib.Core.List.{List, [], ◌∷◌, ◌++◌, append_assoc, append-nil}
use native.Mathlib.Numerals.{add-one}
use native.Mathlib.Omega.{arith}
use lib.ListN.{length, get_or, set, take, drop, length-set, take-append-drop, drop_of_length-le}
use lib.Seq.{drop-cons, take-suc-set, drop-set-lt, drop-drop, length-take-le}
use lib.Dec.{ltb, eqb}
use borrow.Author.Tests.{lt-ltb, le-ltb, ltb-true, eq-eqb, ne_eqb}
use Rattle.std.specs.Prelude.{Some}
use Rattle.text.specs.Bytes.{lowered}
use Rattle.text.specs.Normal.{normal}
use Rattle.text.specs.Normalize.{form_of, normalized, written}
use Rattle.text.proofs.NormalFrom.{normal_from, normal_from_lem, gap_seen}

-- what is written and what is left to write are the normal form, a gap is owed only to a word; the room after that is as it was
pub record State (s out₀ out : List ℕ) (i n : ℕ) (gap : Bool) : Type 0 where
  pub left : take n out ++ normal_from (ltb 0 n) gap (drop i s) ≡ normal s
  pub owed : gap ≡ true → 0 < n
  pub kept : drop n out ≡ drop n out₀
  pub long : length out ≡ length out₀
  pub room : length s ≤ length out₀
  pub past : i ≤ length s
  pub fewer : n + cond gap 1 0 ≤ i

pub start : (s out : List ℕ) → length s ≤ length out → State s out out 0 0 false
start s out h =
    record { left = normal_from_lem s; owed = λ e. absurd (false≢true e); kept = refl; long = refl; room = h; past = omega arith; fewer = omega arith }

-- ---- one byte written at n

put-take : (out : List ℕ) (n v : ℕ) → n < length out → take (n + 1) (set out n v) ≡ take n out ++ (v ∷ [])
put-take out n v h = rw (add-one, take-suc-set)

put-drop : (out out₀ : List ℕ) (n v : ℕ) → drop n out ≡ drop n out₀ → drop (n + 1) (set out n v) ≡ drop (n + 1) out₀
put-drop out out₀ n v h =
    let m : n < n + 1 = omega arith in
    drop-set-lt (n + 1) out n v m ∙ sym (drop-drop 1 n out) ∙ ap (drop 1) h ∙ drop-drop 1 n out₀

-- ---- one byte read

module _ (s out₀ out : List ℕ) (i n : ℕ) (gap : Bool) (h : State s out₀ out i n gap) (m : i < length s) where
  next : normal_from (ltb 0 n) gap (drop i s)
      ≡ cond (eqb (get_or s i 0) 32)
      (normal_from (ltb 0 n) true (drop (i + 1) s))
      (cond (ltb 0 n && gap) (32 ∷ []) [] ++ lowered (get_or s i 0) ∷ normal_from true false (drop (i + 1) s))
  unfolding normal_from
  next = rw (add-one, drop-cons s i 0)

  less : n ≤ i
  less = omega (arith, h.fewer)

  pub space : get_or s i 0 ≡ 32 → State s out₀ out (i + 1) n (ltb 0 n)
  space e =
      record {
        left = ap (λ (l : List ℕ). take n out ++ l) (sym (rw (eq-eqb _ _ e) at next ∙ gap_seen (ltb 0 n) _)) ∙ h.left;
        owed = ltb-true 0 n;
        kept = h.kept;
        long = h.long;
        room = h.room;
        past = omega arith;
        fewer = owing (ltb 0 n);
      } where
        owing : (t : Bool) → n + cond t 1 0 ≤ i + 1
        owing true = omega (arith, less)
        owing false = omega (arith, less)

  -- a byte other than a space is written as v, after the gap g that it is owed
  word : (g out' : List ℕ) (n' v : ℕ) → (get_or s i 0 ≡ 32 → ⊥) → cond (ltb 0 n && gap) (32 ∷ []) [] ≡ g → v ≡ lowered (get_or s i 0)
      → take (n' + 1) out' ≡ take n out ++ (g ++ v ∷ []) → drop (n' + 1) out' ≡ drop (n' + 1) out₀ → length out' ≡ length out₀ → n' ≤ i
      → State s out₀ out' (i + 1) (n' + 1) false
  word g out' n' v e o q t d l f =
      record {
        left = rw (t, lt-ltb 0 (n' + 1) (omega arith), append_assoc, append_assoc, q, ← o, ← rw (ne_eqb _ _ e) at next) h.left;
        owed = λ e. absurd (false≢true e);
        kept = d;
        long = l;
        room = h.room;
        past = omega arith;
        fewer = omega arith;
      }

  pub one : (v : ℕ) → (get_or s i 0 ≡ 32 → ⊥) → gap ≡ false → v ≡ lowered (get_or s i 0) → State s out₀ (set out n v) (i + 1) (n + 1) false
  one v e o q =
      let r : n < length out = omega (arith, less, h.long, h.room) in
      word [] (set out n v) n v e (rw (o, and-false (ltb 0 n))) q (put-take out n v r) (put-drop out out₀ n v h.kept) (length-set out n v ∙ h.long) (omega (arith, less))

  module _ (owes : gap ≡ true) where
    more : n + 1 ≤ i
    more = rw owes at h.fewer

    gap_room : n + 1 < length (set out n 32)
    gap_room = simp length-set (omega (arith, h.long, h.room, more))

    pub two : (v : ℕ) → (get_or s i 0 ≡ 32 → ⊥) → v ≡ lowered (get_or s i 0)
        → State s out₀ (set (set out n 32) (n + 1) v) (i + 1) (n + 1 + 1) false
    two v e q =
        let r : n < length out = omega (arith, h.long, h.room, more) in
        let t : take (n + 1 + 1) (set (set out n 32) (n + 1) v) ≡ take n out ++ (32 ∷ v ∷ []) =
        put-take (set out n 32) (n + 1) v gap_room ∙ ap (λ l. l ++ (v ∷ [])) (put-take out n 32 r) ∙ append_assoc (take n out) (32 ∷ []) (v ∷ [])
        in
        word (32 ∷ []) _ (n + 1) v e (rw (lt-ltb 0 n (h.owed owes), owes)) q t (put-drop (set out n 32) out₀ (n + 1) v (put-drop out out₀ n 32 h.kept)) (simp length-set h.long) more

-- ---- past the end: what is written is the normal form, and its length is n

module _ (s out₀ out : List ℕ) (i n : ℕ) (gap : Bool) (h : State s out₀ out i n gap) (m : length s ≤ i) where
  whole : take n out ≡ normal s
  unfolding normal_from
  whole = sym (append-nil _) ∙ ap (λ l. take n out ++ normal_from (ltb 0 n) gap l) (sym (drop_of_length-le s m)) ∙ h.left

  count : length (normal s) ≡ n
  count = ap length (sym whole) ∙ length-take-le n out (omega (arith, h.long, h.room, h.past, h.fewer))

  filled : out ≡ normal s ++ drop (length (normal s)) out₀
  filled = sym (take-append-drop n out) ∙ ap (λ l. l ++ drop n out) whole ∙ ap (λ l. normal s ++ l) h.kept ∙ ap (λ k. normal s ++ drop k out₀) (sym count)

  -- what was read is the string t
  pub done : {t : List ℕ} → s ≡ t → (form_of (Some n) ≡ normalized t out₀) × (out ≡ written t out₀)
  unfolding normalized written
  done e =
      let f : ltb (length out₀) (length s) ≡ false = le-ltb _ _ h.room in
      rw (← e) (rw (f, count), rw f filled)
