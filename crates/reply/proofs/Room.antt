-- Bytes written to a room, one after another: what loops that write slots or zeros have done after each turn (`paste_more`, `paste_child`,
-- `zeroed_more`). For the loops of steps and report. What a room must hold is in specs/Room.antt, and that a room holds it in Laid.antt.
use mathlib.Core.Path.{◌≡◌, refl, sym, ap, ◌∙◌}
use mathlib.Core.List.{List, [], ◌∷◌, ◌++◌}
use Prim.Native.Nat.{ℕ, zero, suc, ◌+◌, ◌-◌, ◌≤◌, ◌<◌, zero-le}
use native.Mathlib.Nat.{le_of_suc-le-suc, not-suc-le-zero, sub_self, sub-zero, suc-sub-suc, zero-add, suc-add}
use native.Mathlib.Numerals.{add-one}
use native.Mathlib.Omega.{arith}
use lib.ListN.{length, take, drop, get_or, set, replicate, length-append, length-set}
use lib.Seq.{paste, paste-suc, length-take-le, take_all, set-append_left}

-- a turn's store into a list that is written from index at on
pub paste_more : (d : List ℕ) (at : ℕ) (s : List ℕ) (j : ℕ) → at + j < length d → j < length s
    → set (paste d at s j) (at + j) (get_or s j 0) ≡ paste d at s (j + 1)
paste_more d at s j h k = rw add-one (paste-suc d at s j 0 h k)

set_append_add : (xs ys : List ℕ) (n a : ℕ) → set (xs ++ ys) (length xs + n) a ≡ xs ++ set ys n a
set_append_add [] ys n a = ap (λ (k : ℕ). set ys k a) (zero-add n)
set_append_add (x ∷ xs) ys n a = ap (λ (k : ℕ). set (x ∷ (xs ++ ys)) k a) (suc-add (length xs) n) ∙ ap (λ (l : List ℕ). x ∷ l) (set_append_add xs ys n a)

-- a store into what was pasted whole
paste_set : (d : List ℕ) (at : ℕ) (k : List ℕ) (n j a : ℕ) → at + n ≤ length d → length k ≡ n → j < n → set (paste d at k n) (at + j) a ≡ paste d at (set k j a) n
paste_set d at k n j a h l b =
    let f : length (take at d) ≡ at = length-take-le at d (omega arith) in
    let t : take n k ≡ k = take_all n k (omega arith) in
    let u : take n (set k j a) ≡ set k j a = take_all n (set k j a) (simp length-set (omega arith)) in
    let s : set (take at d ++ k) (at + j) a ≡ take at d ++ set k j a =
    ap (λ (q : ℕ). set (take at d ++ k) (q + j) a) (sym f) ∙ set_append_add (take at d) k j a in
    rw (t, u) (set-append_left (take at d ++ k) (drop (at + n) d) (at + j) a (simp length-append (omega arith)) ∙ ap (λ (x : List ℕ). x ++ drop (at + n) d) s)

-- a child's two stores, in a slot of any width
pub paste_child : (width : ℕ) (d room s : List ℕ) (at len i v : ℕ) → at + width ≤ length d → length s ≡ width → len + 1 < width → room ≡ paste d at s width
    → set (set room (at + (len + 1)) i) at v ≡ paste d at (set (set s (len + 1) i) 0 v) width
paste_child width d room s at len i v h l b r =
    let z : at + 0 ≡ at = omega arith in
    ap (λ (x : List ℕ). set (set x (at + (len + 1)) i) at v) r
    ∙ ap (λ (x : List ℕ). set x at v) (paste_set d at s width (len + 1) i h l b)
    ∙ ap (λ (k : ℕ). set (paste d at (set s (len + 1) i) width) k v) (sym z)
    ∙ paste_set d at (set s (len + 1) i) width 0 v h (simp length-set l) (omega arith)

-- d with zeros from index a up to, not including, index e
abbrev pub zeroed : ℕ → ℕ → List ℕ → List ℕ
zeroed a e d = take a d ++ (replicate (e - a) 0 ++ drop e d)

pub zeroed_none : (a : ℕ) (d : List ℕ) → d ≡ zeroed a a d
zeroed_none zero d = refl
zeroed_none (suc a) [] = rw sub_self
zeroed_none (suc a) (x ∷ d) = rw suc-sub-suc (ap (λ (l : List ℕ). x ∷ l) (zeroed_none a d))

zeroed_suc : (a j : ℕ) (d : List ℕ) → a ≤ j → j < length d → set (zeroed a j d) j 0 ≡ zeroed a (suc j) d
zeroed_suc a j [] h k = absurd (not-suc-le-zero k)
zeroed_suc zero zero (x ∷ d) h k = refl
zeroed_suc zero (suc j) (x ∷ d) h k = rw (sub-zero, sub-zero) (ap (λ (l : List ℕ). 0 ∷ l) (rw (sub-zero, sub-zero) at (zeroed_suc zero j d zero-le (le_of_suc-le-suc k))))
zeroed_suc (suc a) zero (x ∷ d) h k = absurd (not-suc-le-zero h)
zeroed_suc (suc a) (suc j) (x ∷ d) h k =
    rw (suc-sub-suc, suc-sub-suc) (ap (λ (l : List ℕ). x ∷ l) (zeroed_suc a j d (le_of_suc-le-suc h) (le_of_suc-le-suc k)))

pub zeroed_more : (a j : ℕ) (d : List ℕ) → a ≤ j → j < length d → set (zeroed a j d) j 0 ≡ zeroed a (j + 1) d
zeroed_more a j d h k = rw add-one (zeroed_suc a j d h k)
