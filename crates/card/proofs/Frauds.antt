-- A fraud that no edit of an operand makes: its answer does not satisfy the contract of `read`. The others are edits in must-fail/;
-- docs/FRAUDS.md lists them all.
use mathlib.Core.List.{[]}
use mathlib.Core.Path.{◌≡◌}
use Rattle.std.specs.Prelude.{Ok}
use Rattle.fields.specs.Fields.{whole, count_p, byte_p}
use Rattle.fields.specs.Answers.{handed, numbered}
use Rattle.card.specs.Card.{card_p, file_p}
use Rattle.card.specs.Content.{edition_p}
use Rattle.card.specs.declared.Card.{Card}

-- a card that was kept with a fault: of an empty file, any card
pub card_kept_with_a_fault : (c : Card) → numbered (Ok c) ≡ handed (file_p []) → ⊥
unfolding file_p whole card_p edition_p byte_p count_p
card_kept_with_a_fault c h = cc
