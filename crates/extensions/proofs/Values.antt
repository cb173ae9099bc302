-- The extensions of a record by their values are what stands where their reader found them: the parts that the flags announce, and the
-- lists, whatever is made of them (`key_ids_valued`, `extensions_valued`), for record/proofs/Values.antt. By their places:
-- specs/Extensions.antt; what is said of any reader: fields/proofs/Values.antt.
use Prim.Native.Nat.{ℕ}
use mathlib.Core.Path.{◌≡◌, refl, sym, ◌∙◌}
use mathlib.Core.Bool.{Bool, true, false, cond}
use mathlib.Core.List.{List}
use mathlib.Core.Option.{Option, none, some}
use Rattle.fields.specs.Fields.{Parsed, got, after, byte_p, string_p, optional_p, counted_p, many}
use Rattle.fields.specs.Spans.{span_p, bytes_of, list_of}
use Rattle.fields.proofs.Strings.{string_by_span}
use Rattle.fields.proofs.Values.{valued, after_same, after-after, by_place}
use Rattle.lists.specs.Lists.{usage_p, dns_name_p, usages_most, dns_names_most}
use Rattle.lists.specs.Runs.{usages_p, dns_names_p}
use Rattle.lists.proofs.Values.{run_valued}
use Rattle.extensions.specs.Flags.{has_authority_key_id, has_authority_serial, has_subject_key_id, has_path_length, key_id_most, serial_most}
use Rattle.extensions.specs.Extensions.{present, span_if_p, key_ids_p, path_length_p, extensions_p}

-- ---- a part, by its flag

option_valued : (b : Bool) (most : ℕ) (s : List ℕ) (at : ℕ)
    → optional_p b (string_p 1 most) s at ≡ valued (λ p. present b (bytes_of p s)) (span_if_p b most s at)
unfolding optional_p span_if_p
option_valued true most s at = by_place (span_p 1 most s at) (λ p. bytes_of p s) _ (string_by_span 1 most s at)
option_valued false most s at = refl

path_length_valued : (flags : ℕ) (s : List ℕ) (at : ℕ)
    → optional_p (has_path_length flags) byte_p s at ≡ valued (present (has_path_length flags)) (path_length_p flags s at)
unfolding optional_p path_length_p
path_length_valued flags s at = by_flag (has_path_length flags)
  where
    by_flag : (b : Bool) → cond b (after (byte_p s at) (λ a e. got (some a) e)) (got none at) ≡ valued (present b) (cond b (byte_p s at) (got 0 at))
    by_flag true = refl
    by_flag false = refl

-- ---- all of them

module _ {B : Type 0} (flags : ℕ) (s : List ℕ) where
  pub key_ids_valued : (at : ℕ) (k : Option (List ℕ) → Option (List ℕ) → Option (List ℕ) → ℕ → Parsed B)
      → after (optional_p (has_authority_key_id flags) (string_p 1 key_id_most) s at) (λ a e.
      after (optional_p (has_authority_serial flags) (string_p 1 serial_most) s e) (λ b f.
      after (optional_p (has_subject_key_id flags) (string_p 1 key_id_most) s f) (λ c g.
      k a b c g)))
      ≡ after (key_ids_p flags s at) (λ x g.
      k
      (present (has_authority_key_id flags) (bytes_of x.authority s))
      (present (has_authority_serial flags) (bytes_of x.authority_serial s))
      (present (has_subject_key_id flags) (bytes_of x.subject s)) g)
  unfolding key_ids_p
  key_ids_valued at k =
      by_place (span_if_p (has_authority_key_id flags) key_id_most s at) _ _ (option_valued (has_authority_key_id flags) key_id_most s at)
      ∙ after_same (span_if_p (has_authority_key_id flags) key_id_most s at) (λ a e.
      by_place (span_if_p (has_authority_serial flags) serial_most s e) _ _ (option_valued (has_authority_serial flags) serial_most s e)
      ∙ after_same (span_if_p (has_authority_serial flags) serial_most s e) (λ b f.
      by_place (span_if_p (has_subject_key_id flags) key_id_most s f) _ _ (option_valued (has_subject_key_id flags) key_id_most s f)))
      ∙ sym (after-after (span_if_p (has_authority_key_id flags) key_id_most s at) _ _
      ∙ after_same (span_if_p (has_authority_key_id flags) key_id_most s at) (λ a e.
      after-after (span_if_p (has_authority_serial flags) serial_most s e) _ _
      ∙ after_same (span_if_p (has_authority_serial flags) serial_most s e) (λ b f.
      after-after (span_if_p (has_subject_key_id flags) key_id_most s f) _ _)))

  pub extensions_valued : (at : ℕ)
      (k : Option (List ℕ) → Option (List ℕ) → Option (List ℕ) → Option ℕ → List ℕ → List (List ℕ) → ℕ → Parsed B)
      → after (optional_p (has_authority_key_id flags) (string_p 1 key_id_most) s at) (λ a e.
      after (optional_p (has_authority_serial flags) (string_p 1 serial_most) s e) (λ b f.
      after (optional_p (has_subject_key_id flags) (string_p 1 key_id_most) s f) (λ c g.
      after (optional_p (has_path_length flags) byte_p s g) (λ p h.
      after (counted_p 0 usages_most usage_p s h) (λ u i.
      after (counted_p 0 dns_names_most dns_name_p s i) (λ d j.
      k a b c p u d j))))))
      ≡ after (extensions_p flags s at) (λ x j.
      k
      (present (has_authority_key_id flags) (bytes_of x.key_ids.authority s))
      (present (has_authority_serial flags) (bytes_of x.key_ids.authority_serial s))
      (present (has_subject_key_id flags) (bytes_of x.key_ids.subject s))
      (present (has_path_length flags) x.path_length)
      (list_of (many usage_p x.usages.count s x.usages.first))
      (list_of (many dns_name_p x.dns_names.count s x.dns_names.first)) j)
  unfolding extensions_p
  extensions_valued at k =
      key_ids_valued at (λ a b c g.
      after (optional_p (has_path_length flags) byte_p s g) (λ p h.
      after (counted_p 0 usages_most usage_p s h) (λ u i.
      after (counted_p 0 dns_names_most dns_name_p s i) (λ d j. k a b c p u d j))))
      ∙ after_same (key_ids_p flags s at) (λ x g.
      by_place (path_length_p flags s g) _ _ (path_length_valued flags s g)
      ∙ after_same (path_length_p flags s g) (λ p h.
      by_place (usages_p s h) _ _ (run_valued usages_most usage_p s h)
      ∙ after_same (usages_p s h) (λ u i.
      by_place (dns_names_p s i) _ _ (run_valued dns_names_most dns_name_p s i))))
      ∙ sym (after-after (key_ids_p flags s at) _ _
      ∙ after_same (key_ids_p flags s at) (λ x g.
      after-after (path_length_p flags s g) _ _
      ∙ after_same (path_length_p flags s g) (λ p h.
      after-after (usages_p s h) _ _
      ∙ after_same (usages_p s h) (λ u i.
      after-after (dns_names_p s i) _ _))))
