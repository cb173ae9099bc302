-- What stands at a record's places over a file, whatever they are, and the certificate that it makes; nothing where it can't be read. A
-- certificate read by its values: Certificate.antt; that a record that was read makes the same: proofs/Values.antt; what stands there
-- instead of nothing: Fresh.antt.
use Rattle.std.specs.Prelude.{ℕ, ◌+◌, List}
use Rattle.fields.specs.Fields.{Parsed, got, stop, many}
use Rattle.fields.specs.Spans.{bytes_of, list_of}
use Rattle.fields.specs.declared.string.Span.{Span}
use Rattle.names.specs.Names.{name_p}
use Rattle.lists.specs.Lists.{usage_p, dns_name_p}
use Rattle.extensions.specs.Flags.{has_authority_key_id, has_authority_serial, has_subject_key_id, has_path_length}
use Rattle.extensions.specs.Extensions.{present, key_ids_p, extensions_p}
use Rattle.extensions.specs.declared.KeyIds.{KeyIds}
use Rattle.extensions.specs.declared.Extensions.{Extensions}
use Rattle.record.specs.Certificate.{Certificate}
use Rattle.record.specs.Fresh.{no_head, no_strings, no_key_ids, no_extensions}
use Rattle.record.specs.Record.{head_p, strings_p}
use Rattle.record.specs.declared.head.Head.{Head}
use Rattle.record.specs.declared.strings.Strings.{Strings}
use Rattle.record.specs.declared.parties.Names.{Names}
use Rattle.record.specs.declared.Record.{Record}

-- what was read, or else
abbrev pub value_or : {A : Type 0} → A → Parsed A → A
value_or other (got a e) = a
value_or other (stop r) = other

unfoldable pub head_of : Record → List ℕ → Head
head_of r s = value_or no_head (head_p s r.start)

-- behind the 18 bytes of the head
unfoldable pub strings_of : Record → List ℕ → Strings
strings_of r s = value_or no_strings (strings_p s (r.start + 18))

unfoldable pub key_ids_of : ℕ → Record → List ℕ → KeyIds
key_ids_of flags r s = value_or no_key_ids (key_ids_p flags s r.rest)

unfoldable pub extensions_of : ℕ → Record → List ℕ → Extensions
extensions_of flags r s = value_or no_extensions (extensions_p flags s r.rest)

-- each name ends where the next part starts
abbrev pub issuer_span : Record → Span
issuer_span r = record { start = r.issuer; end = r.subject }

abbrev pub subject_span : Record → Span
subject_span r = record { start = r.subject; end = r.rest }

-- the certificate that a head, strings, two names by their places, key ids and extensions make over a file
abbrev pub certified : List ℕ → Head → Strings → Names → KeyIds → Extensions → Certificate
certified s head strings names keyIds rest =
    record {
      version = head.version;
      flags = head.flags;
      not-before = head.not_before;
      not_after = head.not_after;
      serial = bytes_of strings.serial s;
      outer = bytes_of strings.outer s;
      inner = bytes_of strings.inner s;
      issuer = list_of (name_p s names.issuer);
      subject = list_of (name_p s names.subject);
      authority_key_id = present (has_authority_key_id head.flags) (bytes_of keyIds.authority s);
      authority-serial = present (has_authority_serial head.flags) (bytes_of keyIds.authority_serial s);
      subject_key_id = present (has_subject_key_id head.flags) (bytes_of keyIds.subject s);
      path-length = present (has_path_length head.flags) rest.path_length;
      usages = list_of (many usage_p rest.usages.count s rest.usages.first);
      dns_names = list_of (many dns_name_p rest.dns_names.count s rest.dns_names.first);
    }

-- what a head and a record's places say over a file, whatever they are
unfoldable pub certificate_by : Head → Record → List ℕ → Certificate
certificate_by head r s =
    certified s head (strings_of r s) (record { issuer = r.issuer; subject = r.subject }) (key_ids_of head.flags r s) (extensions_of head.flags r s)

-- what a record says over a file: its own head, and its places
unfoldable pub certificate_of : Record → List ℕ → Certificate
certificate_of r s = certificate_by (head_of r s) r s
