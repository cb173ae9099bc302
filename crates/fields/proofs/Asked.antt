-- How `?` meets a reading: what an answer tells of the thing that it stands for (`read_ok`, `read_err`, and so on for each kind of answer),
-- and a thing that is read after another, once it is known what the other was (`after_ok`, `after_err`). For the functions that read one
-- thing after another; an answer that is taken apart: Ends.antt, After.antt.
use Prim.Native.Nat.{ℕ}
use mathlib.Core.Path.{◌≡◌, sym, ap, ◌∙◌}
use Rattle.std.proofs.lemmas.Result.{err_from_is_err_and}
use Rattle.std.specs.Prelude.{Result, Ok, Err}
use Rattle.std.specs.Result.{IsErrAnd}
use Rattle.fields.specs.Fields.{Parsed, got, stop, after}
use Rattle.fields.specs.Answers.{number, read, spanned, begun, passed, held}
use Rattle.fields.specs.declared.fault.Fault.{Fault}
use Rattle.fields.specs.declared.run.Run.{Run}
use Rattle.fields.specs.declared.string.Span.{Span}

-- ---- what an answer tells

module _ {A : Type 0} {r : Result (A × ℕ) Fault} {x : Parsed A} (h : read r ≡ x) where
  pub read_ok : {a : A} {e : ℕ} → r ≡ Ok (a, e) → x ≡ got a e
  read_ok k = sym h ∙ ap read k

  pub read_err : {f : Fault} → r ≡ Err f → x ≡ stop (number f)
  read_err k = sym h ∙ ap read k

module _ {r : Result Span Fault} {x : Parsed Span} (h : spanned r ≡ x) where
  pub spanned_ok : {p : Span} → r ≡ Ok p → x ≡ got p p.end
  spanned_ok k = sym h ∙ ap spanned k

  pub spanned_err : {f : Fault} → r ≡ Err f → x ≡ stop (number f)
  spanned_err k = sym h ∙ ap spanned k

module _ {r : Result Run Fault} {x : Parsed ℕ} (h : begun r ≡ x) where
  pub begun_ok : {t : Run} → r ≡ Ok t → x ≡ got t.count t.first
  begun_ok k = sym h ∙ ap begun k

  pub begun_err : {f : Fault} → r ≡ Err f → x ≡ stop (number f)
  begun_err k = sym h ∙ ap begun k

module _ {r : Result ℕ Fault} {x : Parsed (Unit {0})} (h : passed r ≡ x) where
  pub passed_ok : {e : ℕ} → r ≡ Ok e → x ≡ got tt e
  passed_ok k = sym h ∙ ap passed k

  pub passed_err : {f : Fault} → r ≡ Err f → x ≡ stop (number f)
  passed_err k = sym h ∙ ap passed k

module _ {A : Type 0} {r : Result ℕ Fault} (a : A) {x : Parsed A} (h : held r a ≡ x) where
  pub held_ok : {e : ℕ} → r ≡ Ok e → x ≡ got a e
  held_ok k = sym h ∙ ap (λ q. held q a) k

  pub held_err : {f : Fault} → r ≡ Err f → x ≡ stop (number f)
  held_err k = sym h ∙ ap (λ q. held q a) k

-- ---- what `?` answers with a fault

asked : {A B : Type 0} (says : Result A Fault → Parsed B) (r : Result A Fault) (f : Fault) {x : Parsed B} → IsErrAnd r (λ g. g ≡ f) → x ≡ says (Err f) → says r ≡ x
asked says r f e h = let p = err_from_is_err_and r e in rw (p.1, p.2) (sym h)

pub read_asked : {A : Type 0} (r : Result (A × ℕ) Fault) (f : Fault) {x : Parsed A} → IsErrAnd r (λ g. g ≡ f) → x ≡ stop (number f) → read r ≡ x
read_asked r f e h = asked read r f e h

pub spanned_asked : (r : Result Span Fault) (f : Fault) {x : Parsed Span} → IsErrAnd r (λ g. g ≡ f) → x ≡ stop (number f) → spanned r ≡ x
spanned_asked r f e h = asked spanned r f e h

pub begun_asked : (r : Result Run Fault) (f : Fault) {x : Parsed ℕ} → IsErrAnd r (λ g. g ≡ f) → x ≡ stop (number f) → begun r ≡ x
begun_asked r f e h = asked begun r f e h

pub passed_asked : (r : Result ℕ Fault) (f : Fault) {x : Parsed (Unit {0})} → IsErrAnd r (λ g. g ≡ f) → x ≡ stop (number f) → passed r ≡ x
passed_asked r f e h = asked passed r f e h

pub held_asked : {A : Type 0} (a : A) (r : Result ℕ Fault) (f : Fault) {x : Parsed A} → IsErrAnd r (λ g. g ≡ f) → x ≡ stop (number f) → held r a ≡ x
held_asked a r f e h = asked (λ q. held q a) r f e h

-- ---- what is read next

module _ {A B : Type 0} {x : Parsed A} where
  pub after_ok : {a : A} {e : ℕ} (f : A → ℕ → Parsed B) → x ≡ got a e → after x f ≡ f a e
  after_ok f h = ap (λ y. after y f) h

  pub after_err : {r : ℕ} (f : A → ℕ → Parsed B) → x ≡ stop r → after x f ≡ stop r
  after_err f h = ap (λ y. after y f) h
