-- Verdict's clauses on strings, by our definitions. Where values are normalised its `same_attr` takes equal values or equal normal forms
-- (`normal-same`: the second suffices), and its `check_auth_key_id` has the key ids the other way round (`same_sym`); these clauses stand in
-- same/proofs/Upstream.antt and keys/proofs/Upstream.antt. Its `match_name` is ours but for the bare domain (`match_upstream_lem`;
-- docs/DIFFERENCES.md, D30); a name under a star by its tests: Star.antt.
use Prim.Native.Nat.{ℕ}
use mathlib.Core.Path.{◌≡◌, refl, sym, ◌∙◌}
use mathlib.Core.Bool.{Bool, true, false, cond, ◌&&◌, ◌||◌, false≢true}
use mathlib.Core.List.{List}
use lib.ListN.{length, drop}
use lib.Dec.{ltb}
use Rattle.text.specs.Bytes.{same, starts_with}
use Rattle.text.specs.Normal.{normal}
use Rattle.text.specs.Wildcard.{star_dot, under_domain, match_name}
use Rattle.text.proofs.Same.{same_sound, same_refl, differ}
use Rattle.text.proofs.Star.{label_upstream, star_upstream}

module _ (a b : List ℕ) where
  pub normal-same : same a b ≡ true → same (normal a) (normal b) ≡ true
  normal-same e = rw (same_sound a b e) (same_refl (normal b))

  pub same_sym : same a b ≡ same b a
  same_sym = go (same b a) refl where
    go : (t : Bool) → same b a ≡ t → same a b ≡ t
    go true e = rw (same_sound b a e) (same_refl a)
    go false e = differ a b (λ p. false≢true (sym e ∙ rw p (same_refl b)))

module _ (pattern name : List ℕ) where
  -- Verdict's `match_name`, test by test
  abbrev match_upstream : Bool
  match_upstream =
      cond (starts_with pattern star_dot)
      (ltb 2 (length pattern) && (same (drop 2 pattern) name || label_upstream pattern name))
      (same pattern name)

  -- a star before a domain, and that domain for the name: where the two differ
  abbrev domain_itself : Bool
  domain_itself = starts_with pattern star_dot && ltb 2 (length pattern) && same (drop 2 pattern) name

  pub match_upstream_lem : match_upstream ≡ domain_itself || match_name pattern name
  unfolding match_name
  match_upstream_lem = go (starts_with pattern star_dot) refl where
    go : (t : Bool) → starts_with pattern star_dot ≡ t → match_upstream ≡ domain_itself || match_name pattern name
    go false e = rw e
    go true e = rw (e, sym (star_upstream pattern name e)) (either_way (ltb 2 (length pattern))) where
      either_way : (t : Bool) → (t && (same (drop 2 pattern) name || under_domain (drop 2 pattern) name))
          ≡ (t && same (drop 2 pattern) name) || (t && under_domain (drop 2 pattern) name)
      either_way true = refl
      either_way false = refl
