-- A fraud that no edit of an operand makes: its answer does not satisfy the contract of `record_at`. The others are edits in must-fail/;
-- docs/FRAUDS.md lists them all.
use mathlib.Core.Path.{◌≡◌}
use mathlib.Core.List.{[], ◌∷◌}
use Rattle.std.specs.Prelude.{Err}
use Rattle.fields.specs.Answers.{read}
use Rattle.fields.specs.Fields.{count_p, byte_p}
use Rattle.fields.specs.declared.fault.Fault.TheVariants.{CutShort}
use Rattle.extensions.specs.Flags.{flag}
use Rattle.record.specs.Record.{opening_p, head_p, record_p}
use Rattle.record.specs.Certificate.{paired, flags_p}

-- flag 16 without 8 judged late: a record that ends behind its flags called cut short
pub pairing_judged_late : read (Err CutShort) ≡ record_p (2 ∷ 16 ∷ []) 0 → ⊥
unfolding record_p head_p opening_p flags_p byte_p count_p paired flag
pairing_judged_late e = cc
