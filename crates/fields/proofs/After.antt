-- A thing that was read after another, taken apart, for any things: what was read first and what next (`after-got`), and what was judged
-- (`judged_got`). Used wherever something is said of a thing that was read. Single things: Counts.antt, Strings.antt; a row of them:
-- Many.antt.
use Prim.Native.Nat.{ℕ}
use mathlib.Core.Path.{◌≡◌, refl}
use mathlib.Core.Bool.{Bool, true, false, cond}
use native.Mathlib.Omega.{arith}
use Rattle.fields.specs.Fields.{Parsed, got, stop, after}

-- x was read, and then b by f, and e is the place past b
pub record Then {A B : Type 0} (x : Parsed A) (f : A → ℕ → Parsed B) (b : B) (e : ℕ) : Type 0 where
  pub value : A
  pub place : ℕ
  pub first : x ≡ got value place
  pub next : f value place ≡ got b e

module _ {A B : Type 0} where
  pub after-got : (x : Parsed A) (f : A → ℕ → Parsed B) {b : B} {e : ℕ} → after x f ≡ got b e → Then x f b e
  after-got (got a m) f h = record { value = a; place = m; first = refl; next = h }
  after-got (stop r) f h = let z : ◌≡◌ {A = ℕ} 0 1 = cc in absurd (omega arith)

module _ {A : Type 0} where
  -- x was read, and judged right
  pub judged_got : (b : Bool) (x : Parsed A) (r : ℕ) {a : A} {e : ℕ} → cond b x (stop r) ≡ got a e → (b ≡ true) × (x ≡ got a e)
  judged_got true x r h = (refl, h)
  judged_got false x r h = let z : ◌≡◌ {A = ℕ} 0 1 = cc in absurd (omega arith)

  -- what holds of a thing and its end holds of the thing that was read
  pub got-is : (P : A → ℕ → Type 0) {a b : A} {e f : ℕ} → got a e ≡ got b f → P a e → P b f
  got-is P {a} {b} {e} {f} h t =
      let x : a ≡ b = cc in
      let y : e ≡ f = cc in
      rw (← x, ← y) t
