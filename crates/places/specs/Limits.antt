-- How many roots and how many certificates a card has at most (docs/CARD-FILE.md, "Layout"). A reader must believe this file (docs/MAP.md).
-- Each other limit stands with the part that it bounds: in the specs of card, task, record, extensions, lists and names.
use Rattle.std.specs.Prelude.{ℕ}

abbrev pub roots_most : ℕ
roots_most = 64

abbrev pub bundle_most : ℕ
bundle_most = 24
