-- What a card file says (docs/CARD-FILE.md, "Layout"): its sections in their order, judged from left to right, and the file to its end;
-- then the certificate at a place, and who signed whom. A reader must believe this file (docs/MAP.md).
-- Not here: a certificate (record/specs/Certificate.antt), the verdicts' count and bytes (verdicts/specs/Verdicts.antt), the purpose
-- (task/specs/Task.antt); where the sections stand in a file (Card.antt), and that both read the same (proofs/Values.antt).
use Rattle.std.specs.Prelude.{ℕ, ◌+◌, ◌*◌, Bool, cond, ◌&&◌, List, [], eqb, leb, ltb, length, get_or}
use Rattle.std.proofs.Math.Option.{none}
use Rattle.places.specs.Limits.{roots_most, bundle_most}
use Rattle.fields.specs.Fields.{Parsed, got, stop, after, count_p, byte_p, string_p, big_p, counted_p, whole}
use Rattle.record.specs.Certificate.{Certificate, certificate, certificate_p}
use Rattle.verdicts.specs.Verdicts.{verdicts_p}
use Rattle.task.specs.Task.{purpose_p, host_most}

pub record Content : Type 0 where
  pub roots : List Certificate
  pub bundle : List Certificate
  pub verdicts : List ℕ
  pub now : ℕ
  pub budget : ℕ
  pub host : List ℕ

-- the edition: byte 1
unfoldable pub edition_p : List ℕ → ℕ → Parsed ℕ
edition_p s at = after (byte_p s at) (λ edition e. cond (eqb edition 1) (got edition e) (stop 4))

-- edition, roots, bundle, verdicts, and the task: a count of 1, now, budget, purpose, host
unfoldable pub sections_p : List ℕ → ℕ → Parsed Content
sections_p s at =
    after (edition_p s at) (λ _ a.
    after (counted_p 0 roots_most certificate_p s a) (λ roots b.
    after (counted_p 0 bundle_most certificate_p s b) (λ bundle c.
    after (verdicts_p (length roots) (length bundle) s c) (λ verdicts d.
    after (count_p 1 1 s d) (λ _ e.
    after (big_p 8 s e) (λ now f.
    after (big_p 8 s f) (λ budget g.
    after (purpose_p s g) (λ _ h.
    after (string_p 0 host_most s h) (λ host i.
    got (record { roots = roots; bundle = bundle; verdicts = verdicts; now = now; budget = budget; host = host }) i)))))))))

-- how many bytes a file has at most
abbrev pub file_most : ℕ
file_most = 65535

-- the content of a file: not too long, and the file ends where the task ends
unfoldable pub content_p : List ℕ → Parsed Content
content_p s = cond (leb (length s) file_most) (whole sections_p s) (stop 5)

-- ---- who signed whom

-- who can be an issuer: a root, or a certificate of the bundle, by its place
pub data Issuer : Type 0 where
  root : ℕ → Issuer
  bundled : ℕ → Issuer

-- what stands at a place that is not there
abbrev pub nobody : Certificate
nobody = certificate 0 0 0 0 [] [] [] [] [] none none none none [] []

-- the certificate at a place
abbrev pub certificate_at : Content → Issuer → Certificate
certificate_at c (root i) = get_or c.roots i nobody
certificate_at c (bundled i) = get_or c.bundle i nobody

-- an issuer that is there
abbrev pub there : Content → Issuer → Bool
there c (root i) = ltb i (length c.roots)
there c (bundled i) = ltb i (length c.bundle)

-- one row per issuer, roots first
abbrev pub issuer_row : Content → Issuer → ℕ
issuer_row c (root i) = i
issuer_row c (bundled i) = length c.roots + i

-- an issuer signed bundle place j: verdict 1 in its row, one column per bundle subject
unfoldable pub signed : Content → Issuer → ℕ → Bool
signed c i j =
    there c i && ltb j (length c.bundle) && eqb (get_or c.verdicts (issuer_row c i * length c.bundle + j) 0) 1
