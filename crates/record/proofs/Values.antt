-- What a record that was found says is what its certificate's reader reads there, with the same faults (`certificate_by_record`), for
-- card/proofs/Values.antt. The record: specs/Record.antt, and what it says: specs/Parts.antt; the certificate's reader:
-- specs/Certificate.antt; its extensions: extensions/proofs/Values.antt.
use Prim.Native.Nat.{ℕ, ◌+◌, ◌≤◌}
use mathlib.Core.Path.{◌≡◌, sym, ap, ◌∙◌}
use mathlib.Core.List.{List}
use lib.ListN.{length}
use Rattle.fields.specs.Fields.{Parsed, got, after, byte_p, string_p, big_p}
use Rattle.fields.specs.Spans.{span_p, bytes_of, list_of}
use Rattle.fields.proofs.After.{after-got, got-is}
use Rattle.fields.proofs.Strings.{string_by_span}
use Rattle.fields.proofs.Values.{valued, after-known, after_same, after-after, by_place, read_again}
use Rattle.names.specs.Names.{Attr, name_p}
use Rattle.lists.specs.Runs.{usages_p, dns_names_p}
use Rattle.extensions.specs.Flags.{serial_most}
use Rattle.extensions.specs.Extensions.{key_ids_p, path_length_p, extensions_p}
use Rattle.extensions.specs.declared.Extensions.{Extensions}
use Rattle.extensions.proofs.Values.{extensions_valued}
use Rattle.record.specs.Certificate.{flags_p, algorithm_most, certificate_p}
use Rattle.record.specs.Fresh.{no_key_ids}
use Rattle.record.specs.Parts.{value_or, head_of, strings_of, key_ids_of, extensions_of, certified, certificate_by, certificate_of}
use Rattle.record.specs.Record.{opening_p, dates_p, head_p, strings_p, names_p, place_most, placed, record_p}
use Rattle.record.specs.declared.head.Head.{Head}
use Rattle.record.specs.declared.strings.Strings.{Strings}
use Rattle.record.specs.declared.parties.Names.{Names}
use Rattle.record.proofs.Meaning.{head_ends, placed-is}

module _ {B : Type 0} (s : List ℕ) where
  head_valued : (at : ℕ) (k : ℕ → ℕ → ℕ → ℕ → ℕ → Parsed B)
      → after (byte_p s at) (λ version a.
      after (flags_p s a) (λ flags b.
      after (big_p 8 s b) (λ before c.
      after (big_p 8 s c) (λ last d.
      k version flags before last d))))
      ≡ after (head_p s at) (λ h d. k h.version h.flags h.not_before h.not_after d)
  unfolding head_p opening_p dates_p
  head_valued at k =
      sym (after-after (opening_p s at) _ _
      ∙ after-after (byte_p s at) _ _
      ∙ after_same (byte_p s at) (λ version a.
      after-after (flags_p s a) _ _
      ∙ after_same (flags_p s a) (λ flags b.
      after-after (dates_p s b) _ _
      ∙ after-after (big_p 8 s b) _ _
      ∙ after_same (big_p 8 s b) (λ before c. after-after (big_p 8 s c) _ _))))

  strings_valued : (at : ℕ) (k : List ℕ → List ℕ → List ℕ → ℕ → Parsed B)
      → after (string_p 1 serial_most s at) (λ serial e.
      after (string_p 1 algorithm_most s e) (λ outer f.
      after (string_p 1 algorithm_most s f) (λ inner g.
      k serial outer inner g)))
      ≡ after (strings_p s at) (λ t g. k (bytes_of t.serial s) (bytes_of t.outer s) (bytes_of t.inner s) g)
  unfolding strings_p
  strings_valued at k =
      by_place (span_p 1 serial_most s at) _ _ (string_by_span 1 serial_most s at)
      ∙ after_same (span_p 1 serial_most s at) (λ p e.
      by_place (span_p 1 algorithm_most s e) _ _ (string_by_span 1 algorithm_most s e)
      ∙ after_same (span_p 1 algorithm_most s e) (λ q f.
      by_place (span_p 1 algorithm_most s f) _ _ (string_by_span 1 algorithm_most s f)))
      ∙ sym (after-after (span_p 1 serial_most s at) _ _
      ∙ after_same (span_p 1 serial_most s at) (λ p e.
      after-after (span_p 1 algorithm_most s e) _ _
      ∙ after_same (span_p 1 algorithm_most s e) (λ q f. after-after (span_p 1 algorithm_most s f) _ _)))

  names_valued : (at : ℕ) (k : List (List Attr) → List (List Attr) → ℕ → Parsed B)
      → after (name_p s at) (λ issuer e. after (name_p s e) (λ subject f. k issuer subject f))
      ≡ after (names_p s at) (λ n f. k (list_of (name_p s n.issuer)) (list_of (name_p s n.subject)) f)
  unfolding names_p
  names_valued at k =
      read_again (name_p s at) _
      ∙ after_same (name_p s at) (λ _ e. read_again (name_p s e) _)
      ∙ sym (after-after (name_p s at) _ _ ∙ after_same (name_p s at) (λ _ e. after-after (name_p s e) _ _))

-- ---- the whole

module _ (s : List ℕ) where
  grouped : (at : ℕ)
      → certificate_p s at
      ≡ after (head_p s at) (λ h d.
      after (strings_p s d) (λ t g.
      after (names_p s g) (λ n i.
      after (extensions_p h.flags s i) (λ x o.
      got (certified s h t n x.key_ids x) o))))
  unfolding certificate_p
  grouped at =
      head_valued s at _
      ∙ after_same (head_p s at) (λ h d.
      strings_valued s d _
      ∙ after_same (strings_p s d) (λ t g.
      names_valued s g _
      ∙ after_same (names_p s g) (λ n i. extensions_valued h.flags s i _)))

  key_ids_of_lem : (flags at : ℕ) (x : Extensions) (e : ℕ) → extensions_p flags s at ≡ got x e → value_or no_key_ids (key_ids_p flags s at) ≡ x.key_ids
  unfolding extensions_p
  key_ids_of_lem flags at x e h =
      let keys = after-got (key_ids_p flags s at) _ h in
      let path = after-got (path_length_p flags s keys.place) _ keys.next in
      let usages = after-got (usages_p s path.place) _ path.next in
      let names = after-got (dns_names_p s usages.place) _ usages.next in
      got-is (λ (x : Extensions) _. value_or no_key_ids (key_ids_p flags s at) ≡ x.key_ids) names.next (ap (value_or no_key_ids) keys.first)

  says : (at f g k e : ℕ) (h : Head) (t : Strings) (x : Extensions)
      → head_p s at ≡ got h (at + 18) → strings_p s (at + 18) ≡ got t f → extensions_p h.flags s k ≡ got x e
      → certificate_of (record { start = at; issuer = f; subject = g; rest = k }) s ≡ certified s h t (record { issuer = f; subject = g }) x.key_ids x
  unfolding certificate_of certificate_by head_of strings_of key_ids_of extensions_of
  says at f g k e h t x head strings extensions = rw (head, strings, extensions, key_ids_of_lem h.flags k x e extensions)

  module _ (few : length s ≤ place_most) where
    pub certificate_by_record : (at : ℕ) → certificate_p s at ≡ valued (λ r. certificate_of r s) (record_p s at)
    unfolding record_p names_p
    certificate_by_record at =
        grouped at
        ∙ after-known (head_p s at) (λ h d head.
        after-known (strings_p s d) (λ t g strings.
        after-known (names_p s g) (λ n i names.
        after-known (extensions_p h.flags s i) (λ x o extensions.
        ap (λ c. got c o) (found at h d t g n i x o head strings names extensions))
        ∙ sym (after-after (extensions_p h.flags s i) _ _))
        ∙ sym (after-after (names_p s g) _ _))
        ∙ sym (after-after (strings_p s d) _ _))
        ∙ sym (after-after (head_p s at) _ _)
      where
        found : (at : ℕ) (h : Head) (d : ℕ) (t : Strings) (g : ℕ) (n : Names) (i : ℕ) (x : Extensions) (o : ℕ)
            → head_p s at ≡ got h d → strings_p s d ≡ got t g → names_p s g ≡ got n i → extensions_p h.flags s i ≡ got x o
            → certified s h t n x.key_ids x ≡ certificate_of (placed at n.issuer n.subject i) s
        found at h d t g n i x o head strings names extensions =
            let ends : d ≡ at + 18 = (head_ends s at h d head).1 in
            let issuer = after-got (name_p s g) _ names in
            let subject = after-got (name_p s issuer.place) _ issuer.next in
            got-is (λ (n : Names) i. extensions_p h.flags s i ≡ got x o → certified s h t n x.key_ids x ≡ certificate_of (placed at n.issuer n.subject i) s)
            subject.next
            (λ ext.
            sym (ap (λ r. certificate_of r s)
            (placed-is s few at g issuer.place subject.place o h issuer.value subject.value x (head ∙ ap (got h) ends) issuer.first subject.first ext)
            ∙ says at g issuer.place subject.place o h t x (head ∙ ap (got h) ends) (ap (strings_p s) (sym ends) ∙ strings) ext))
            extensions
