-- The printed table answers the slots that n certificates need, and past its end there are none (`printed`): each entry is right by a test
-- that antt computes (Table.antt). The table: src/lib.rt.
use mathlib.Core.Bool.{Bool, true, false}
use mathlib.Core.Path.{◌≡◌, refl, sym, ◌∙◌}
use Prim.Native.Nat.{ℕ, ◌≤◌}
use lib.Dec.{eqb, eqb→eq, ltb}
use lib.ListN.{length, get_or}
use borrow.Author.Tests.{ltb-true, ltb-false}
use Rattle.std.proofs.lemmas.List.{get_or_past}
use Rattle.order.specs.Slots.{slots_of}
use Rattle.order.specs.declared.TheConstants.{SLOTS}
use Rattle.order.proofs.Formula.{slots_past}
use Rattle.order.proofs.Table.{at}

-- an entry x at place n is right
abbrev right : ℕ → ℕ → Bool
right n x = eqb x (slots_of n)

pub printed : (n : ℕ) → get_or SLOTS n 0 ≡ slots_of n
printed n = go (ltb n (length SLOTS)) refl where
  go : (t : Bool) → ltb n (length SLOTS) ≡ t → get_or SLOTS n 0 ≡ slots_of n
  go true e = eqb→eq _ _ (at right SLOTS tt n (ltb-true _ _ e))
  go false e =
      let past : length SLOTS ≤ n = ltb-false _ _ e in
      get_or_past SLOTS n 0 past ∙ sym (slots_past n past)
