-- A fraud that no edit of an operand makes, key usage asked of the leaf: its answer does not satisfy the contract, since such a leaf passes
-- the policy (specs/Policy.antt). The others are edits in must-fail/; docs/FRAUDS.md lists them all.
use Prim.Native.Nat.{ℕ}
use mathlib.Core.Path.{◌≡◌, refl}
use mathlib.Core.Bool.{true, false}
use mathlib.Core.List.{[], ◌∷◌}
use mathlib.Core.Option.{none}
use Rattle.text.specs.Bytes.{same}
use Rattle.extensions.specs.Flags.{flag}
use Rattle.record.specs.Certificate.{Certificate}
use Rattle.rules.specs.Rules.{at, in_date, well_formed, handled, authority, allows, for_servers, for_host}
use Rattle.policy.specs.Policy.{path_lengths, policy}

-- a certificate of v3 with these flags, and nothing else in it
abbrev plain : ℕ → Certificate
plain flags =
    record {
      version = 2;
      flags = flags;
      not-before = 0;
      not_after = 0;
      serial = 1 ∷ [];
      outer = 42 ∷ [];
      inner = 42 ∷ [];
      issuer = [];
      subject = [];
      authority_key_id = none;
      authority-serial = none;
      subject_key_id = none;
      path-length = none;
      usages = [];
      dns_names = [];
    }

-- a leaf with a key usage that may not sign certificates passes under a root, though as an issuer it would not
pub key_usage_asked_of_the_leaf : (authority (plain 32) ≡ false)
    × (policy (at 0) [] (record { leaf = plain 32; between = []; top = plain 8 }) ≡ true)
unfolding policy path_lengths at in_date well_formed handled authority allows for_servers for_host flag same
key_usage_asked_of_the_leaf = (refl, refl)
