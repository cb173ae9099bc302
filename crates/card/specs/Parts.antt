-- What a card's numbers and places say over a file, whatever they are: its certificates, then its content. What a file says by itself is
-- Content.antt; that a card that was read says it: proofs/Values.antt. A record's certificate: record/specs/Parts.antt.
use Rattle.std.specs.Prelude.{ℕ, ◌+◌, ◌*◌, List, map, take}
use Rattle.fields.specs.Fields.{many}
use Rattle.fields.specs.Spans.{bytes_of, list_of}
use Rattle.record.specs.Certificate.{Certificate}
use Rattle.record.specs.Parts.{certificate_of}
use Rattle.record.specs.declared.Record.{Record}
use Rattle.verdicts.specs.Verdicts.{verdict_p}
use Rattle.card.specs.Content.{Content}
use Rattle.card.specs.declared.Card.{Card}

-- so many records say so many certificates
unfoldable pub certificates_of : ℕ → List Record → List ℕ → List Certificate
certificates_of n records s = map (λ r. certificate_of r s) (take n records)

-- what a card's numbers and places say over a file, whatever they are
unfoldable pub content_of : Card → List ℕ → Content
content_of c s =
    record {
      roots = certificates_of c.roots.count c.roots.records s;
      bundle = certificates_of c.bundle.count c.bundle.records s;
      verdicts = list_of (many verdict_p ((c.verdicts.roots + c.verdicts.bundle) * c.verdicts.bundle) s c.verdicts.first);
      now = c.task.now;
      budget = c.task.budget;
      host = bytes_of c.task.host.name s;
    }
