-- What `agrees` asks of the bytes, by what its iterator yields, whichever iterator it is (`all_asked`): the three slices side by side
-- (`zipped`), also by a stride of one (`strided`), so that a stride that passes bytes over is refused for these. Definitions:
-- specs/Address.antt.
use Prim.Native.Nat.{ℕ, ◌+◌, ◌≤◌}
use mathlib.Core.Path.{◌≡◌, sym, subst, ap, ◌∙◌}
use mathlib.Core.Bool.{Bool, true, false, cond}
use mathlib.Core.List.{List, [], ◌∷◌}
use native.Mathlib.Omega.{arith}
use lib.ListN.{length}
use Rattle.std.specs.Prelude.{Some, None}
use Rattle.std.specs.declared.option.Option.{Option}
use Rattle.std.specs.declared.iter.StepBy.{StepBy}
use Rattle.std.specs.Iterator.{AlwaysYields, YieldsThen}
use Rattle.std.specs.Iterator.Runs.{Run}
use Rattle.std.specs.Option.{MatchOption}
use Rattle.std.specs.Iterator.Adapters.{step_by_source, step_by_gap, step_by_first_take, step_by_steps, zip_first, zip_second}
use denote.Ref.{Bor}
use denote.Param.Members.{Mut}
use Rattle.std.specs.declared.slice.Iter.{Iter}
use Rattle.std.specs.declared.iter.Zip.{Zip}
use Rattle.std.specs.Fn.{Called}
use Rattle.std.specs.List.{FoldsTo, list_all, zip}
use Rattle.std.specs.Slice.Iter.{iter_rest}
use Rattle.std.proofs.lemmas.Fn.{fronts}
use Rattle.std.proofs.lemmas.Iterator.{YieldsList, YieldsList-from_slice, YieldsList-from_zip, zips}
use Rattle.std.proofs.lemmas.Iterator.Search.{all_from_yields_List}

-- ---- a stride of one passes each item on

module _ {S A B : Type 0} (steps : S → Option A → S → Type 0) (v : A → B) where
  nothing_before : (s u : S) (xs : List A) (r : Option A) → length xs ≤ 0 → YieldsThen steps s xs r u → steps s r u
  nothing_before s u [] r h y = subst (λ t. steps t r u) (sym y.1) y.2
  nothing_before s u (x ∷ xs) r h y = absurd (omega arith)

  few : (b : Bool) (n : ℕ) (xs : List A) (r : Option A) → n ≡ cond b 0 0 → MatchOption r (length xs ≤ n) (λ _. length xs ≡ n) → length xs ≤ 0
  few true n xs None e m = omega arith
  few false n xs None e m = omega arith
  few true n xs (Some x) e m = omega arith
  few false n xs (Some x) e m = omega arith

  turn : (s t : StepBy S) (r : Option A) → step_by_gap s ≡ 0 → step_by_steps steps s r t → steps (step_by_source s) r (step_by_source t) × (step_by_gap t ≡ 0)
  turn s t r g p =
      let q = p.2 in
      let n : q.0 ≡ cond (step_by_first_take s) 0 0 = q.2 ∙ ap (λ k. cond (step_by_first_take s) 0 k) g in
      (nothing_before _ _ q.1 r (few (step_by_first_take s) q.0 q.1 r n q.4) q.3, p.0 ∙ g)

  each : (ys : List B) (s : StepBy S) → step_by_gap s ≡ 0 → AlwaysYields steps v (step_by_source s) ys → AlwaysYields (step_by_steps steps) v s ys
  each [] s g e = λ x j p. e x (step_by_source j) (turn s j (Some x) g p).0
  each (y ∷ ys) s g e = (
    (λ j p. e.0 (step_by_source j) (turn s j None g p).0),
    λ x j p. let q = turn s j (Some x) g p in let m = e.1 x (step_by_source j) q.0 in (m.0, each ys j q.1 m.1),
  )

pub YieldsList-from_each : {S A B : Type 0} {steps : S → Option A → S → Type 0} {v : A → B} {s : StepBy S} {ys : List B}
    → YieldsList steps v (step_by_source s) ys → step_by_gap s ≡ 0 → YieldsList (step_by_steps steps) v s ys
YieldsList-from_each {S} {A} {B} {steps} {v} {s} {ys} e g = record { runs = each steps v ys s g e.runs }

-- ---- what `all` asks, by what its iterator yields: `c.all.ensures.runs` tells where it began

module _ {S A B F : Type 0} {steps : S → Option A → S → Type 0} {g : Mut F (A × Unit {0}) Bool} {s : S} {Q : Run steps → Type 0} where
  pub all_asked : (v : A → B) (test : B → Bool) (u : S) (f : F) (r : Bool)
      → (p : Run steps) × (p.from ≡ s) × Q p
      → (xs : List A) × (o : Option A) × (j : F) × YieldsThen steps s xs o u × FoldsTo (λ p x q. Called g p (x, tt) true q) f xs j × MatchOption o (r ≡ true) (λ x. (r ≡ false) × ((h : F) × Called g j (x, tt) false h))
      → (all : List B) → ((x : A) (b : Bool) (q : F) → Called g f (x, tt) b q → (q ≡ f) × (b ≡ test (v x)))
      → YieldsList steps v s all → r ≡ list_all test all
  all_asked v test u f r p d all k e = all_from_yields_List test u f r d e k

-- ---- the bytes of net, mask and address that stand at one place

abbrev pub bytes : (Bor ℕ × Bor ℕ) × Bor ℕ → (ℕ × ℕ) × ℕ
bytes p = ((p.0.0.now, p.0.1.now), p.1.now)

module _ (net mask addr : List ℕ) where
  pub zipped : {s : Zip (Zip (Iter ℕ) (Iter ℕ)) (Iter ℕ)} {z : Zip (Iter ℕ) (Iter ℕ)} {i : Iter ℕ} → zip_first s ≡ z → zip_first z ≡ i → iter_rest i ≡ net → iter_rest (zip_second z) ≡ mask → iter_rest (zip_second s) ≡ addr
      → YieldsList (zips (zips fronts fronts) fronts) bytes s (zip (zip net mask) addr)
  zipped e f a b c = YieldsList-from_zip (YieldsList-from_zip (YieldsList-from_slice net (rw (e, f) a)) (YieldsList-from_slice mask (rw e b))) (YieldsList-from_slice addr c)

  pub strided : {s : StepBy (Zip (Zip (Iter ℕ) (Iter ℕ)) (Iter ℕ))} {w : Zip (Zip (Iter ℕ) (Iter ℕ)) (Iter ℕ)} → step_by_source s ≡ w → step_by_gap s + 1 ≡ 1 → YieldsList (zips (zips fronts fronts) fronts) bytes w (zip (zip net mask) addr)
      → YieldsList (step_by_steps (zips (zips fronts fronts) fronts)) bytes s (zip (zip net mask) addr)
  strided e g y = YieldsList-from_each {steps = zips (zips fronts fronts) fronts} {v = bytes} (rw e y) (omega arith)
