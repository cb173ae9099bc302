-- `reply_to` writes what the search answers in a room that is always enough.
use Prim.Native.Nat.{ℕ}
use lib.ListN.{replicate, length-replicate}
use Rattle.report.specs.Replying.{room_most}
use Rattle.report.proofs.Roomy.{never_ten, shown-counts}
use Rattle.report.proofs.replying.reply_to.Goals as goal

pub returns-clause-replies : goal.returns-clause-replies
returns-clause-replies c =
    let r = c.search in record {
      answer = r.result;
      after = r.new.room;
      searched = r.ensures;
      roomy = λ ten. never_ten r.result ten c.args.file.now (replicate room_most 0) r.new.room (length-replicate {A = ℕ} room_most 0) r.ensures;
      written = c.line_of.ensures;
    }

pub returns-clause-prefix_len : goal.returns-clause-prefix_len
returns-clause-prefix_len c = shown-counts _ _ c.line_of.ensures
