-- What a card file asks, in plain numbers (docs/API.md, "What a file asks"): the contract of `savuneco_task`.
-- Not here: what a file says (card/specs/Content.antt); that the host's bytes stand where this says, and that the search gives a fault the
-- same number (proofs/TaskAsked.antt).
use Rattle.std.specs.Prelude.{ℕ, ◌-◌, length}
use Rattle.fields.specs.Fields.{Parsed, got, stop}
use Rattle.card.specs.Content.{Content}
use Rattle.desk.specs.declared.tasks.Asked.{Asked}

-- what a file of n bytes that reads as x asks. The host is the file's last part, so it begins where as many bytes are left as it has
-- (`host-stands`). With a fault there is its number, and nothing is asked
unfoldable pub asked_by : ℕ → Parsed Content → Asked
asked_by n (got c e) =
    record {
      now = c.now;
      budget = c.budget;
      host_at = n - length c.host;
      host_length = length c.host;
      number = 0;
      roots = length c.roots;
      certificates = length c.bundle;
    }
asked_by n (stop r) =
    record {
      now = 0;
      budget = 0;
      host_at = 0;
      host_length = 0;
      number = r;
      roots = 0;
      certificates = 0;
    }
