-- Reading goes on: whatever is read ends past the place where it begins, or at it where a part may be missing; for each part of a record.
-- In order: any things, fields, names, the parts. For Meaning.antt, and for certificates/proofs/Two.antt, where it keeps two records apart.
use Prim.Native.Nat.{ℕ, zero, suc, ◌+◌, ◌≤◌}
use mathlib.Core.Path.{◌≡◌, refl}
use mathlib.Core.Bool.{Bool, true, false, cond}
use mathlib.Core.List.{List, ◌∷◌}
use native.Mathlib.Omega.{arith}
use lib.Dec.{leb}
use Rattle.fields.specs.Fields.{Parsed, got, stop, after, count_p, string_p, many, counted_p, byte_p}
use Rattle.fields.specs.Spans.{span_p}
use Rattle.fields.proofs.Counts.{count_read}
use Rattle.fields.proofs.Strings.{span_read, string_by_span}
use Rattle.names.specs.Names.{attr_p, rdn_p, name_p, oid_most, value_most, rdn_most, name_most}
use Rattle.lists.specs.Lists.{usage_p, dns_name_p, usage_most, usages_most, dns_name_most, dns_names_most}
use Rattle.fields.specs.Runs.{run_p}
use Rattle.lists.specs.Runs.{usages_p, dns_names_p}
use Rattle.extensions.specs.Extensions.{span_if_p, key_ids_p, path_length_p, extensions_p}
use Rattle.extensions.specs.Flags.{flag, key_id_most, serial_most}
use Rattle.record.specs.Record.{strings_p}
use Rattle.record.specs.Certificate.{algorithm_most}

-- ---- any things

-- what is read ends at n, or further on
pub record Onward {A : Type 0} (n : ℕ) (x : Parsed A) : Type 0 where
  pub ends : (a : A) (e : ℕ) → x ≡ got a e → n ≤ e

module _ {A : Type 0} where
  onward-got : (n : ℕ) (a : A) (e : ℕ) → n ≤ e → Onward n (got a e)
  onward-got n a e h = record { ends = λ b f q. let k : e ≡ f = cc in omega arith }

  onward-stop : (n r : ℕ) → Onward {A = A} n (stop r)
  onward-stop n r = record { ends = λ b f q. cc }

  onward_judged : {n : ℕ} (b : Bool) (x : Parsed A) (r : ℕ) → Onward n x → Onward n (cond b x (stop r))
  onward_judged true x r h = h
  onward_judged {n} false x r h = onward-stop n r

  no_earlier : {at : ℕ} {x : Parsed A} → Onward (at + 1) x → Onward at x
  no_earlier h = record { ends = λ a e q. omega (arith, h.ends a e q) }

module _ {A B : Type 0} where
  onward-after : {n : ℕ} (x : Parsed A) (f : A → ℕ → Parsed B) → Onward n x → ((a : A) (e : ℕ) → Onward e (f a e)) → Onward n (after x f)
  onward-after (got a e) f h k = record { ends = λ b g q. omega (arith, h.ends a e refl, (k a e).ends b g q) }
  onward-after {n} (stop r) f h k = onward-stop n r

-- ---- fields

module _ (s : List ℕ) where
  count-onward : (least most at : ℕ) → Onward (at + 1) (count_p least most s at)
  count-onward least most at = record { ends = λ n e h. omega (arith, (count_read least most s at n e h).past) }

  span_onward : (least most at : ℕ) → Onward (at + 1) (span_p least most s at)
  span_onward least most at =
      record { ends = λ p e h. let r = span_read least most s at p e h in omega (arith, r.starts, r.ends, r.ordered) }

  string_onward : (least most at : ℕ) → Onward (at + 1) (string_p least most s at)
  string_onward least most at =
      rw (string_by_span least most s at) (onward-after (span_p least most s at) _ (span_onward least most at) (λ p e. onward-got e _ e (omega arith)))

module _ {A : Type 0} (p : List ℕ → ℕ → Parsed A) (s : List ℕ) (on : (at : ℕ) → Onward at (p s at)) where
  many-onward : (n at : ℕ) → Onward at (many p n s at)
  unfolding many
  many-onward zero at = onward-got at _ at (omega arith)
  many-onward (suc n) at =
      onward-after (p s at) _ (on at) (λ a e. onward-after (many p n s e) _ (many-onward n e) (λ l f. onward-got f (a ∷ l) f (omega arith)))

  counted_onward : (least most at : ℕ) → Onward (at + 1) (counted_p least most p s at)
  unfolding counted_p
  counted_onward least most at = onward-after (count_p least most s at) _ (count-onward s least most at) (λ n e. many-onward n e)

  run_onward : (most at : ℕ) → Onward at (run_p 0 most p s at)
  unfolding run_p
  run_onward most at =
      onward-after (count_p 0 most s at) _ (no_earlier (count-onward s 0 most at)) (λ n e.
      onward-after (many p n s e) _ (many-onward n e) (λ l f.
      onward-got f _ f (omega arith)))

-- ---- names

module _ (s : List ℕ) where
  attr_onward : (at : ℕ) → Onward at (attr_p s at)
  unfolding attr_p
  attr_onward at =
      onward-after (string_p 1 oid_most s at) _ (no_earlier (string_onward s 1 oid_most at)) (λ o e.
      onward-after (string_p 0 value_most s e) _ (no_earlier (string_onward s 0 value_most e)) (λ v f.
      onward-got f _ f (omega arith)))

  rdn_onward : (at : ℕ) → Onward at (rdn_p s at)
  unfolding rdn_p
  rdn_onward at = no_earlier (counted_onward attr_p s attr_onward 1 rdn_most at)

  pub name_onward : (at : ℕ) → Onward (at + 1) (name_p s at)
  unfolding name_p
  name_onward at = counted_onward rdn_p s rdn_onward 0 name_most at

-- ---- the parts of a record

module _ (s : List ℕ) where
  byte_onward : (at : ℕ) → Onward at (byte_p s at)
  unfolding byte_p
  byte_onward at = no_earlier (count-onward s 0 255 at)

  pub strings_onward : (at : ℕ) → Onward (at + 1) (strings_p s at)
  unfolding strings_p
  strings_onward at =
      onward-after (span_p 1 serial_most s at) _ (span_onward s 1 serial_most at) (λ p e.
      onward-after (span_p 1 algorithm_most s e) _ (no_earlier (span_onward s 1 algorithm_most e)) (λ q f.
      onward-after (span_p 1 algorithm_most s f) _ (no_earlier (span_onward s 1 algorithm_most f)) (λ r g.
      onward-got g _ g (omega arith))))

  option_onward : (b : Bool) (most at : ℕ) → Onward at (span_if_p b most s at)
  unfolding span_if_p
  option_onward true most at = no_earlier (span_onward s 1 most at)
  option_onward false most at = onward-got at _ at (omega arith)

  pub key_ids_onward : (flags at : ℕ) → Onward at (key_ids_p flags s at)
  unfolding key_ids_p
  key_ids_onward flags at =
      onward-after (span_if_p (flag 1 flags) key_id_most s at) _ (option_onward (flag 1 flags) key_id_most at) (λ a e.
      onward-after (span_if_p (flag 2 flags) serial_most s e) _ (option_onward (flag 2 flags) serial_most e) (λ b f.
      onward-after (span_if_p (flag 4 flags) key_id_most s f) _ (option_onward (flag 4 flags) key_id_most f) (λ c g.
      onward-got g _ g (omega arith))))

  pub path-length-onward : (flags at : ℕ) → Onward at (path_length_p flags s at)
  unfolding path_length_p
  path-length-onward flags at = by_flag (flag 16 flags)
    where
      by_flag : (b : Bool) → Onward at (cond b (byte_p s at) (got 0 at))
      by_flag true = byte_onward at
      by_flag false = onward-got at 0 at (omega arith)

  usage_onward : (at : ℕ) → Onward at (usage_p s at)
  unfolding usage_p
  usage_onward at = onward-after (byte_p s at) _ (byte_onward at) (λ u e. onward_judged (leb u usage_most) _ 8 (onward-got e u e (omega arith)))

  dns_name_onward : (at : ℕ) → Onward at (dns_name_p s at)
  unfolding dns_name_p
  dns_name_onward at = no_earlier (string_onward s 1 dns_name_most at)

  pub extensions_onward : (flags at : ℕ) → Onward at (extensions_p flags s at)
  unfolding extensions_p
  extensions_onward flags at =
      onward-after (key_ids_p flags s at) _ (key_ids_onward flags at) (λ k e.
      onward-after (path_length_p flags s e) _ (path-length-onward flags e) (λ p f.
      onward-after (usages_p s f) _ (run_onward usage_p s usage_onward usages_most f) (λ u g.
      onward-after (dns_names_p s g) _ (run_onward dns_name_p s dns_name_onward dns_names_most g) (λ d h.
      onward-got h _ h (omega arith)))))
