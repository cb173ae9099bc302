-- No two readings of a list of certificates say the same (`certificates_pins`): what `roots_at` and `bundle_at` promise pins down what they
-- answer and leave, a list that was read and a fault alike. By `held_pins` of fields/proofs/Pinned.antt.
use Prim.Native.Nat.{ℕ}
use mathlib.Core.Path.{◌≡◌}
use Rattle.std.specs.Prelude.{Result}
use Rattle.fields.specs.Answers.{held, Emptied}
use Rattle.fields.specs.declared.fault.Fault.{Fault}
use Rattle.fields.proofs.Pinned.{held_pins}
use Rattle.certificates.specs.Certificates.{fresh_certificates}
use Rattle.certificates.specs.declared.certificates.Certificates.{Certificates}

pub certificates_pins : (most : ℕ) (p q : Result ℕ Fault) (a b : Certificates most)
    → Emptied p a (fresh_certificates most) → Emptied q b (fresh_certificates most) → held p a ≡ held q b
    → ◌≡◌ {A = Result ℕ Fault × Certificates most} (p, a) (q, b)
certificates_pins most = held_pins (fresh_certificates most)
