-- A card of three certificates that all issue each other, as content and as a file, and what a search over it comes to. There are five
-- simple paths, [0], [0,2], [0,2,1], [0,1] and [0,1,2]; by which places the roots signed, the first, the second or none of them is
-- accepted. The frauds that it refutes: Frauds.antt.
use Prim.Native.Nat.{ℕ}
use mathlib.Core.Path.{◌≡◌, refl}
use mathlib.Core.List.{List, [], ◌∷◌, ◌++◌, flat_map}
use mathlib.Core.Option.{none}
use native.Mathlib.Omega.{arith}
use lib.ListN.{replicate}
use Rattle.text.specs.Bytes.{lowered, same}
use Rattle.text.specs.Normal.{onto, pieces, words_of, normal}
use Rattle.places.specs.Lowest.{seek}
use Rattle.fields.specs.Fields.{got, whole, count_p, byte_p, bytes_p, string_p, big_p, optional_p, many, counted_p}
use Rattle.keys.specs.AuthKeyId.{check_auth_key_id}
use Rattle.names.specs.Names.{Attr, name_p, rdn_p, attr_p}
use Rattle.same.specs.Same.{places, same_attr, same_rdn, same_dn}
use Rattle.lists.specs.Lists.{usage_p, dns_name_p}
use Rattle.extensions.specs.Flags.{flag}
use Rattle.record.specs.Certificate.{Certificate, certificate, certificate_p, flags_p, paired}
use Rattle.verdicts.specs.Verdicts.{verdicts_p, verdict_p}
use Rattle.task.specs.Task.{purpose_p}
use Rattle.card.specs.Content.{Content, signed, content_p, sections_p, edition_p}
use Rattle.order.specs.Paths.{Listing}
use Rattle.order.specs.Walk.{next, kids, walk, visit, stack}
use Rattle.order.proofs.Tree.{paths-listing}
use Rattle.reply.specs.Settles.{Outcome, accepted, refused, exhausted}
use Rattle.reply.proofs.Exists.{read, found}
use Rattle.issuing.specs.Issued.{keys_fit, likely_issued, issued}
use Rattle.rules.specs.Rules.{at, in_date, well_formed, handled, authority, allows, for_servers, for_host}
use Rattle.policy.specs.Policy.{path_lengths, policy}
use Rattle.question.specs.Asked.{places_in, roots_in}

-- the one name
abbrev name : List (List Attr)
name = (record { oid = 1 ∷ []; value = 65 ∷ [] } ∷ []) ∷ []

-- a certificate by its flags and its serial
abbrev plain : ℕ → ℕ → Certificate
plain flags serial = certificate 2 flags 0 9 (serial ∷ []) (42 ∷ []) (42 ∷ []) name name none none none none [] []

-- a leaf and two CAs that are alike, which all signed each other, and two roots, of which the first is no CA: both signed the same places
abbrev card : List ℕ → ℕ → Content
card signed budget =
    record {
      roots = plain 0 1 ∷ plain 8 2 ∷ [];
      bundle = plain 0 3 ∷ plain 8 4 ∷ plain 8 4 ∷ [];
      verdicts = signed ++ (signed ++ replicate 9 1);
      now = 5;
      budget = budget;
      host = [];
    }

-- the roots signed nothing, and the budget is exact
abbrev pub rootless : Content
rootless = card (0 ∷ 0 ∷ 0 ∷ []) 5

-- the roots signed the two CAs
abbrev pub rooted : Content
rooted = card (0 ∷ 1 ∷ 1 ∷ []) 9

-- the roots signed the leaf alone
abbrev pub direct : Content
direct = card (1 ∷ 0 ∷ 0 ∷ []) 9

-- ---- its file

-- the name
abbrev name_bytes : List ℕ
name_bytes = 1 ∷ 1 ∷ 1 ∷ 1 ∷ 1 ∷ 65 ∷ []

-- a certificate by its flags and its serial
abbrev certificate-bytes : ℕ → ℕ → List ℕ
certificate-bytes flags serial =
    2 ∷ flags ∷ replicate 15 0 ++ 9 ∷ 1 ∷ serial ∷ 1 ∷ 42 ∷ 1 ∷ 42 ∷ name_bytes ++ name_bytes ++ 0 ∷ 0 ∷ []

-- the card by the places that the roots signed, and the budget
abbrev file : List ℕ → ℕ → List ℕ
file signed budget =
    1 ∷ 2 ∷ certificate-bytes 0 1 ++ certificate-bytes 8 2
    ++ 3 ∷ certificate-bytes 0 3 ++ certificate-bytes 8 4 ++ certificate-bytes 8 4
    ++ 0 ∷ 15 ∷ signed ++ signed ++ replicate 9 1
    ++ 1 ∷ replicate 7 0 ++ 5 ∷ replicate 7 0 ++ budget ∷ 0 ∷ 0 ∷ []

-- each of the three is what a file says
pub filed : (content_p (file (0 ∷ 0 ∷ 0 ∷ []) 5) ≡ got rootless 229)
    × (content_p (file (0 ∷ 1 ∷ 1 ∷ []) 9) ≡ got rooted 229)
    × (content_p (file (1 ∷ 0 ∷ 0 ∷ []) 9) ≡ got direct 229)
unfolding content_p sections_p edition_p whole count_p byte_p bytes_p string_p big_p optional_p many counted_p certificate_p flags_p paired flag name_p rdn_p attr_p verdicts_p verdict_p purpose_p usage_p dns_name_p
filed = (refl, refl, refl)

-- ---- what a search over it comes to

-- the outcome with budget k; where this unfolds, all that a search asks of a card computes
unfoldable pub outcome_of : Content → ℕ → Outcome
unfolding read seek flat_map next kids walk visit lowered same onto pieces words_of normal check_auth_key_id places same_attr same_rdn same_dn flag signed keys_fit likely_issued issued path_lengths policy at in_date well_formed handled authority allows for_servers for_host
outcome_of c k = found (places_in c) (roots_in c (at c.now)) k

-- the five paths, in their order
pub five_listed : Listing (places_in rootless) ((0 ∷ []) ∷ (0 ∷ 2 ∷ []) ∷ (0 ∷ 2 ∷ 1 ∷ []) ∷ (0 ∷ 1 ∷ []) ∷ (0 ∷ 1 ∷ 2 ∷ []) ∷ [])
unfolding outcome_of
five_listed = paths-listing (places_in rootless) (omega arith)

-- all five are tried, and five steps cover them
pub rootless_refused : outcome_of rootless 5 ≡ refused 5
unfolding outcome_of
rootless_refused = refl

-- one step covers the first of them
pub rootless_exhausted : outcome_of rootless 1 ≡ exhausted 1
unfolding outcome_of
rootless_exhausted = refl

-- the larger place first, the lowest root that is a CA, and the rank
pub rooted_accepted : outcome_of rooted 9 ≡ accepted (0 ∷ 2 ∷ []) 1 2
unfolding outcome_of
rooted_accepted = refl

-- the leaf alone
pub direct_accepted : outcome_of direct 9 ≡ accepted (0 ∷ []) 1 1
unfolding outcome_of
direct_accepted = refl

-- after one step the leaf's two children wait, the larger place first
pub rootless_waits : stack (places_in rootless) 1 ≡ (0 ∷ 2 ∷ []) ∷ (0 ∷ 1 ∷ []) ∷ []
unfolding outcome_of
rootless_waits = refl
