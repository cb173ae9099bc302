-- Readers that go from left to right: the bytes up to where a reader stops decide what it finds, and with fewer of them the file is cut
-- short. A value (`at_hand`), a judged value (`judged`), a thing that is read where a test holds (`judging`), and one reader after another
-- (`then`). The readers of specs/Fields.antt are in ForwardFields.antt; what it is for: card/proofs/LeftToRight.antt.
use Prim.Native.Nat.{ℕ, ◌<◌, ◌≤◌}
use mathlib.Core.Path.{◌≡◌, refl, sym, ap, ◌∙◌}
use mathlib.Core.Bool.{Bool, true, false, cond}
use mathlib.Core.List.{List}
use native.Mathlib.Omega.{arith}
use lib.ListN.{length, take}
use lib.Dec.{ltb}
use lib.Seq.{take-take}
use borrow.Author.Tests.{ltb-true, ltb-false}
use Rattle.fields.specs.Fields.{Parsed, got, stop, after}

-- the faults that a byte shows: an unknown edition, a bad count, a bad value
pub data Shown : ℕ → Type 0 where
  edition : Shown 4
  count : Shown 7
  value : Shown 8

module _ {A : Type 0} (p : List ℕ → ℕ → Parsed A) (s : List ℕ) (at : ℕ) where
  -- the first e bytes decide that p finds x, and with fewer of them the file is cut short
  pub record Settled (x : Parsed A) (e : ℕ) : Type 0 where
    pub begins : at ≤ e
    pub within : e ≤ length s
    pub same : (t : List ℕ) → take e t ≡ take e s → p t at ≡ x
    pub less : (i : ℕ) → at ≤ i → i < e → p (take i s) at ≡ stop 6

  -- p finds a value that ends where it is settled, or a fault that a byte shows, or that the file is cut short, as its beginnings are
  pub data Forwards : Parsed A → Type 0 where
    found : (a : A) (e : ℕ) → Settled (got a e) e → Forwards (got a e)
    fault : (r e : ℕ) → Shown r → Settled (stop r) e → Forwards (stop r)
    short : ((i : ℕ) → at ≤ i → i ≤ length s → p (take i s) at ≡ stop 6) → Forwards (stop 6)

-- p goes from left to right, from every place of every file
pub record Forward {A : Type 0} (p : List ℕ → ℕ → Parsed A) : Type 0 where
  pub from : (s : List ℕ) (at : ℕ) → at ≤ length s → Forwards p s at (p s at)

-- ---- a value, and a judged value

module _ {A : Type 0} where
  -- no byte is needed
  at_once : (p : List ℕ → ℕ → Parsed A) (s : List ℕ) (at : ℕ) (x : Parsed A) → at ≤ length s → ((t : List ℕ) → p t at ≡ x) → Settled p s at x at
  at_once p s at x h always = record { begins = omega arith; within = h; same = λ t _. always t; less = λ i l m. absurd (omega arith) }

  pub at_hand : (a : A) → Forward (λ s at. got a at)
  at_hand a = record { from = λ s at h. found a at (at_once _ s at _ h (λ t. refl)) }

  -- what is read where a test holds, and a fault where it does not
  pub judging : (b : Bool) {p : List ℕ → ℕ → Parsed A} {r : ℕ} → Forward p → Shown r → Forward (λ s at. cond b (p s at) (stop r))
  judging true g f = g
  judging false {r = r} g f = record { from = λ s at h. fault r at f (at_once _ s at _ h (λ t. refl)) }

  pub judged : (b : Bool) (a : A) {r : ℕ} → Shown r → Forward (λ s at. cond b (got a at) (stop r))
  judged b a f = judging b (at_hand a) f

-- ---- one after another

module _ {A B : Type 0} (p : List ℕ → ℕ → Parsed A) (q : A → List ℕ → ℕ → Parsed B) (s : List ℕ) (at : ℕ) where
  abbrev both : List ℕ → ℕ → Parsed B
  both t k = after (p t k) (λ a e. q a t e)

  onward : (t : List ℕ) {x : Parsed A} → p t at ≡ x → both t at ≡ after x (λ a e. q a t e)
  onward t h = ap (λ x. after x (λ a e. q a t e)) h

  module _ (a : A) (m : ℕ) (z : Settled p s at (got a m) m) where
    goes_on : (t : List ℕ) → take m t ≡ take m s → both t at ≡ q a t m
    goes_on t h = onward t (z.same t h)

    -- with fewer bytes the first is cut short, or it is read and the next one is
    cut : (i : ℕ) → at ≤ i → (m ≤ i → q a (take i s) m ≡ stop 6) → both (take i s) at ≡ stop 6
    cut i l rest = by_place (ltb i m) refl
      where
        by_place : (b : Bool) → ltb i m ≡ b → both (take i s) at ≡ stop 6
        by_place true e = onward (take i s) (z.less i l (ltb-true i m e))
        by_place false e =
            let k : m ≤ i = ltb-false i m e in
            goes_on (take i s) (take-take m i s k) ∙ rest k

    settled : (y : Parsed B) (e : ℕ) → Settled (q a) s m y e → Settled both s at y e
    settled y e w =
        let first : m ≤ e = w.begins in
        record {
          begins = omega (arith, z.begins);
          within = w.within;
          same = λ t h. goes_on t (sym (take-take m e t first) ∙ ap (take m) h ∙ take-take m e s first) ∙ w.same t h;
          less = λ i l k. cut i l (λ b. w.less i b k);
        }

    next : {y : Parsed B} → Forwards (q a) s m y → Forwards both s at y
    next (found b e w) = found b e (settled _ e w)
    next (fault r e f w) = fault r e f (settled _ e w)
    next (short w) = short (λ i l k. cut i l (λ b. w i b k))

  ending : {r : ℕ} (e : ℕ) → Settled p s at (stop r) e → Settled both s at (stop r) e
  ending e z =
      record {
        begins = z.begins;
        within = z.within;
        same = λ t h. onward t (z.same t h);
        less = λ i l k. onward (take i s) (z.less i l k);
      }

  joined : ((a : A) → Forward (q a)) → {x : Parsed A} → Forwards p s at x → Forwards both s at (after x (λ a e. q a s e))
  joined g (found a m z) = next a m z ((g a).from s m z.within)
  joined g (fault r e f z) = fault r e f (ending e z)
  joined g (short z) = short (λ i l k. onward (take i s) (z i l k))

module _ {A B : Type 0} where
  pub then : {p : List ℕ → ℕ → Parsed A} {q : A → List ℕ → ℕ → Parsed B} → Forward p → ((a : A) → Forward (q a))
      → Forward (λ s at. after (p s at) (λ a e. q a s e))
  then {p} {q} f g = record { from = λ s at h. joined p q s at g (f.from s at h) }
