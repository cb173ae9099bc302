-- So many of a thing in a row, one after another from the first, for any thing. A loop past them: a turn that passes one (`run_next`), a turn
-- that stops (`run_stops`), its end (`run_ends`). A loop that asks each: a turn that is told yes, no or nothing (`any_yes`, `any_next`,
-- `any_untold`), its end (`any_ends`). Then a count and its things by where the things end (`run_by_ends`). What a run that was read holds:
-- lists/proofs/Meaning.antt; a row of things by itself: Many.antt.
use Prim.Native.Nat.{ℕ, zero, suc, ◌+◌, ◌-◌, ◌<◌, ◌≤◌}
use mathlib.Core.Bool.{Bool, true, false, ◌||◌}
use mathlib.Core.List.{List}
use mathlib.Core.Path.{◌≡◌, refl, sym, ap, ◌∙◌}
use native.Mathlib.Omega.{arith}
use native.Mathlib.Nat.{sub-zero}
use Rattle.std.specs.Prelude.{Result, Ok, Err}
use Rattle.fields.specs.Fields.{Parsed, got, stop, after, count_p, many}
use Rattle.fields.specs.Answers.{read, passing}
use Rattle.fields.specs.Runs.{run_p, passes, any_of}
use Rattle.fields.specs.declared.fault.Fault.{Fault}
use Rattle.fields.proofs.Held.{after_end}
use Rattle.fields.proofs.Many.{many-none, many-some}
use Rattle.fields.proofs.Values.{after_same}

-- ---- a loop past them

module _ {A : Type 0} (p : List ℕ → ℕ → Parsed A) (s : List ℕ) (first n : ℕ) where
  -- all end where those end that are left after the first i: the loop's invariant
  abbrev pub Left : (i at : ℕ) → Type 0
  Left i at = passing (many p n s first) ≡ passing (many p (n - i) s at)

  pub run_begins : Left 0 first
  run_begins = rw sub-zero

  module _ (i at : ℕ) (left : Left i at) where
    pub run_next : (e : ℕ) → i < n → passing (p s at) ≡ got tt e → Left (i + 1) e
    run_next e h q =
        let k : n - i - 1 ≡ n - (i + 1) = omega arith in
        left ∙ many-some p s (n - i) at (omega arith) ∙ rw (q, k)

    pub run_stops : (r : ℕ) → i < n → passing (p s at) ≡ stop r → passing (many p n s first) ≡ stop r
    run_stops r h q = left ∙ many-some p s (n - i) at (omega arith) ∙ rw q

    pub run_ends : n ≤ i → passing (many p n s first) ≡ got tt at
    run_ends h = left ∙ many-none p s (n - i) at (omega arith)

-- ---- a loop that asks each

module _ {A : Type 0} (test : A → Bool) (rest : ℕ → Bool) where
  told : (x : Parsed A) {b : Bool} {e : ℕ} → got b e ≡ after x (λ a e. got (test a) e) → passes test x rest ≡ (b || rest e)
  unfolding passes
  told (got a f) h = cc
  told (stop r) h = cc

  untold : (x : Parsed A) {r : ℕ} → stop r ≡ after x (λ a e. got (test a) e) → passes test x rest ≡ false
  unfolding passes
  untold (got a f) h = cc
  untold (stop r) h = refl

module _ {A : Type 0} (test : A → Bool) (p : List ℕ → ℕ → Parsed A) (s : List ℕ) where
  any-none : (n at : ℕ) → n ≤ 0 → any_of test p n s at ≡ false
  unfolding any_of
  any-none zero at h = refl
  any-none (suc n) at h = absurd (omega arith)

  any-some : (n at : ℕ) → 0 < n → any_of test p n s at ≡ passes test (p s at) (λ e. any_of test p (n - 1) s e)
  unfolding any_of
  any-some zero at h = absurd (omega arith)
  any-some (suc n) at h = let k : suc n - 1 ≡ n = omega arith in rw k

  module _ (first n : ℕ) where
    -- one of all passes where one of those passes that are left after the first i: the loop's invariant
    abbrev pub Unasked : (i at : ℕ) → Type 0
    Unasked i at = any_of test p n s first ≡ any_of test p (n - i) s at

    pub any_begins : Unasked 0 first
    any_begins = rw sub-zero

    module _ (i at : ℕ) (left : Unasked i at) where
      -- by the answer for the next one
      next : i < n → any_of test p n s first ≡ passes test (p s at) (λ e. any_of test p (n - i - 1) s e)
      next h = left ∙ any-some (n - i) at (omega arith)

      module _ (r : Result (Bool × ℕ) Fault) (tells : read r ≡ after (p s at) (λ a e. got (test a) e)) (h : i < n) where
        pub any_yes : (b : Bool) (e : ℕ) → r ≡ Ok (b, e) → b ≡ true → any_of test p n s first ≡ true
        any_yes b e k t =
            let q : got true e ≡ read r = rw (k, t) in
            next h ∙ told test _ (p s at) (q ∙ tells)

        pub any_next : (b : Bool) (e : ℕ) → r ≡ Ok (b, e) → b ≡ false → Unasked (i + 1) e
        any_next b e k t =
            let q : got false e ≡ read r = rw (k, t) in
            let less : n - i - 1 ≡ n - (i + 1) = omega arith in
            next h ∙ told test _ (p s at) (q ∙ tells) ∙ rw less

        pub any_untold : (f : Fault) → r ≡ Err f → any_of test p n s first ≡ false
        any_untold f k = next h ∙ untold test _ (p s at) (ap read (sym k) ∙ tells)

      pub any_ends : n ≤ i → any_of test p n s first ≡ false
      any_ends h = left ∙ any-none (n - i) at (omega arith)

-- ---- a count and its things

pub run_by_ends : {A : Type 0} (least most : ℕ) (p : List ℕ → ℕ → Parsed A) (s : List ℕ) (at : ℕ)
    → run_p least most p s at
    ≡ after (count_p least most s at) (λ n e. after (passing (many p n s e)) (λ _ f. got (record { count = n; first = e }) f))
unfolding run_p
run_by_ends least most p s at = after_same (count_p least most s at) (λ n e. after_end (many p n s e) (got (record { count = n; first = e })))
