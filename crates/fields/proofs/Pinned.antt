-- No two answers say the same: what an answer stands for pins the answer down, since a fault is found again from its number. `pins`,
-- `fault_of`, `fault_again` and `held_pins` are for the Pinned.antt of the crates above. What the answers stand for: specs/Answers.antt.
use Prim.Native.Nat.{ℕ}
use mathlib.Core.Path.{◌≡◌, refl, sym, ap, ap₂, ◌∙◌}
use mathlib.Core.Bool.{cond}
use lib.Dec.{eqb}
use Rattle.std.specs.Prelude.{Result, Ok, Err}
use Rattle.fields.specs.Fields.{Parsed, got, stop}
use Rattle.fields.specs.Answers.{number, read, spanned, begun, passed, held, Emptied, numbered}
use Rattle.fields.specs.declared.fault.Fault.{Fault}
use Rattle.fields.specs.declared.fault.Fault.TheVariants.{UnknownEdition, TooLong, CutShort, BadCount, BadValue, LeftOver}
use Rattle.fields.specs.declared.run.Run.{Run}
use Rattle.fields.specs.declared.string.Span.{Span}

-- what has a left inverse takes no two things to one
pub pins : {A B : Type 0} (says : A → B) (back : B → A) → ((a : A) → back (says a) ≡ a) → (a b : A) → says a ≡ says b → a ≡ b
pins says back again a b h = sym (again a) ∙ ap back h ∙ again b

-- ---- a fault by its number

abbrev pub fault_of : ℕ → Fault
fault_of n =
    cond (eqb n 4) UnknownEdition
    (cond (eqb n 5) TooLong
    (cond (eqb n 6) CutShort
    (cond (eqb n 7) BadCount
    (cond (eqb n 8) BadValue LeftOver))))

pub fault_again : (f : Fault) → fault_of (number f) ≡ f
fault_again UnknownEdition = refl
fault_again TooLong = refl
fault_again CutShort = refl
fault_again BadCount = refl
fault_again BadValue = refl
fault_again LeftOver = refl

pub number_pins : (f g : Fault) → number f ≡ number g → f ≡ g
number_pins = pins number fault_of fault_again

-- ---- the answers

pub read_pins : {A : Type 0} (a b : Result (A × ℕ) Fault) → read a ≡ read b → a ≡ b
read_pins {A} = pins read back again
  where
    back : Parsed A → Result (A × ℕ) Fault
    back (got v e) = Ok (v, e)
    back (stop r) = Err (fault_of r)

    again : (a : Result (A × ℕ) Fault) → back (read a) ≡ a
    again (Ok (v, e)) = refl
    again (Err f) = ap Err (fault_again f)

pub spanned_pins : (a b : Result Span Fault) → spanned a ≡ spanned b → a ≡ b
spanned_pins = pins spanned back again
  where
    back : Parsed Span → Result Span Fault
    back (got p e) = Ok p
    back (stop r) = Err (fault_of r)

    again : (a : Result Span Fault) → back (spanned a) ≡ a
    again (Ok p) = refl
    again (Err f) = ap Err (fault_again f)

pub begun_pins : (a b : Result Run Fault) → begun a ≡ begun b → a ≡ b
begun_pins = pins begun back again
  where
    back : Parsed ℕ → Result Run Fault
    back (got n e) = Ok (record { count = n; first = e })
    back (stop r) = Err (fault_of r)

    again : (a : Result Run Fault) → back (begun a) ≡ a
    again (Ok r) = refl
    again (Err f) = ap Err (fault_again f)

pub passed_pins : (a b : Result ℕ Fault) → passed a ≡ passed b → a ≡ b
passed_pins = pins passed back again
  where
    back : Parsed (Unit {0}) → Result ℕ Fault
    back (got u e) = Ok e
    back (stop r) = Err (fault_of r)

    again : (a : Result ℕ Fault) → back (passed a) ≡ a
    again (Ok e) = refl
    again (Err f) = ap Err (fault_again f)

pub numbered_pins : {A : Type 0} (a b : Result A Fault) → numbered a ≡ numbered b → a ≡ b
numbered_pins {A} = pins numbered back again
  where
    back : Result A ℕ → Result A Fault
    back (Ok a) = Ok a
    back (Err r) = Err (fault_of r)

    again : (a : Result A Fault) → back (numbered a) ≡ a
    again (Ok a) = refl
    again (Err f) = ap Err (fault_again f)

pub held_pins : {A : Type 0} (none : A) (p q : Result ℕ Fault) (a b : A) → Emptied p a none → Emptied q b none → held p a ≡ held q b
    → ◌≡◌ {A = Result ℕ Fault × A} (p, a) (q, b)
held_pins {A = A} none p q a b x y h = sym (again p a x) ∙ ap back h ∙ again q b y
  where
    back : Parsed A → Result ℕ Fault × A
    back (got v e) = (Ok e, v)
    back (stop r) = (Err (fault_of r), none)

    again : (p : Result ℕ Fault) (a : A) → Emptied p a none → back (held p a) ≡ (p, a)
    again (Ok e) a x = refl
    again (Err f) a x = ap₂ (λ g v. (Err g, v)) (fault_again f) (sym x)
