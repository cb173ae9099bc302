-- Two frauds that no edit of an operand makes: their answers do not satisfy the contracts of `same_rdn` and `same_dn`; and what an edit
-- answers wrongly (`trailing_run`). The others are edits in must-fail/; docs/FRAUDS.md lists them all.
use mathlib.Core.Path.{◌≡◌, refl}
use mathlib.Core.Bool.{Bool, true, false}
use mathlib.Core.List.{[], ◌∷◌, flat_map}
use native.Mathlib.Omega.{arith}
use Rattle.std.specs.Prelude.{Ok, Err}
use Rattle.text.specs.Bytes.{lowered, same}
use Rattle.text.specs.Normal.{onto, pieces, words_of, normal}
use Rattle.fields.specs.Fields.{count_p, bytes_p, string_p, many, counted_p, whole}
use Rattle.fields.specs.declared.fault.Fault.TheVariants.{CutShort}
use Rattle.names.specs.Names.{attr_p, rdn_p, name_p}
use Rattle.same.specs.Same.{same_attr, same_rdn, same_dn}
use Rattle.same.specs.Answers.{said, asked}

-- attributes compared place by place: 02 01 61 00 01 62 00, which is (a, b), and (b, a) answered as no
pub place_by_place : (normalise : Bool)
    → said (Ok false) ≡ asked (same_rdn normalise) (whole rdn_p (2 ∷ 1 ∷ 97 ∷ 0 ∷ 1 ∷ 98 ∷ 0 ∷ [])) (whole rdn_p (2 ∷ 1 ∷ 98 ∷ 0 ∷ 1 ∷ 97 ∷ 0 ∷ [])) → ⊥
unfolding rdn_p attr_p string_p bytes_p counted_p count_p many whole same_rdn same_attr same normal words_of pieces flat_map
place_by_place true e = omega arith
place_by_place false e = omega arith

-- bytes left over in the first argument, judged after the second: 00 3F and an empty second argument answered as cut short
pub left_over_judged_last : (normalise : Bool) → said (Err CutShort) ≡ asked (same_dn normalise) (whole name_p (0 ∷ 63 ∷ [])) (whole name_p []) → ⊥
unfolding name_p counted_p count_p many whole
left_over_judged_last normalise e = omega arith

-- a run of spaces at the end does not count: "x " is "x", where the wrong body `trailing_run_counts` answers no
pub trailing_run : same (normal (120 ∷ 32 ∷ [])) (normal (120 ∷ [])) ≡ true
unfolding normal words_of pieces onto lowered same flat_map
trailing_run = refl
