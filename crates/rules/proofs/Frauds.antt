-- Frauds that no edit of an operand makes: their answers do not satisfy the contract of `for_host`. The others are edits in must-fail/;
-- docs/FRAUDS.md lists them all.
use mathlib.Core.Path.{◌≡◌}
use mathlib.Core.Bool.{false, false≢true}
use mathlib.Core.List.{[], ◌∷◌}
use Rattle.text.specs.Bytes.{lowered, same, starts_with}
use Rattle.text.specs.Wildcard.{match_name}
use Rattle.fields.specs.Fields.{count_p, bytes_p, string_p}
use Rattle.fields.specs.Runs.{passes, any_of}
use Rattle.lists.specs.Lists.{dns_name_p}
use Rattle.rules.specs.Rules.{names_host}
use Rattle.rules.specs.Records.{for_host_at}

-- the host compared as it stands: "A" refused under the DNS name "a"
pub host_not_lowered : false ≡ for_host_at (1 ∷ 97 ∷ []) (65 ∷ []) (record { count = 1; first = 0 }) → ⊥
unfolding for_host_at any_of passes dns_name_p string_p bytes_p count_p names_host match_name lowered same starts_with
host_not_lowered e = false≢true e

-- a DNS name compared as it stands: "a" refused under the DNS name "A"
pub dns_name_not_lowered : false ≡ for_host_at (1 ∷ 65 ∷ []) (97 ∷ []) (record { count = 1; first = 0 }) → ⊥
unfolding for_host_at any_of passes dns_name_p string_p bytes_p count_p names_host match_name lowered same starts_with
dns_name_not_lowered e = false≢true e
