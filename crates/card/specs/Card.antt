-- Where a card file's sections stand, for readers that copy nothing: in their order, judged from left to right. What is found are numbers
-- and places in the file.
-- Not here: what the file says (Content.antt); what the places say over a file (Parts.antt); that the two come to the same, with the same
-- faults (`content_by_card` of proofs/Values.antt); each section by itself (the specs of certificates, verdicts and task).
use Rattle.std.specs.Prelude.{ℕ, cond, List, leb, length}
use Rattle.fields.specs.Fields.{Parsed, got, stop, after, whole}
use Rattle.places.specs.Limits.{roots_most, bundle_most}
use Rattle.certificates.specs.Certificates.{roots_p, bundle_p, fresh_certificates}
use Rattle.verdicts.specs.Grid.{grid_p, fresh-verdicts}
use Rattle.task.specs.Placed.{task_p, fresh_task}
use Rattle.card.specs.Content.{edition_p, file_most}
use Rattle.card.specs.declared.Card.{Card}

unfoldable pub card_p : List ℕ → ℕ → Parsed Card
card_p s at =
    after (edition_p s at) (λ _ e.
    after (roots_p s e) (λ roots f.
    after (bundle_p s f) (λ bundle g.
    after (grid_p roots.count bundle.count s g) (λ verdicts h.
    after (task_p s h) (λ task i.
    got (record { roots = roots; bundle = bundle; verdicts = verdicts; task = task }) i)))))

-- not too long, and the file ends where the task ends
unfoldable pub file_p : List ℕ → Parsed Card
file_p s = cond (leb (length s) file_most) (whole card_p s) (stop 5)

-- what stands where nothing was read
abbrev pub fresh_card : Card
fresh_card = record { roots = fresh_certificates roots_most; bundle = fresh_certificates bundle_most; verdicts = fresh-verdicts; task = fresh_task }
