-- What stands where nothing was read: of a record, and of each group of its parts.
use Rattle.fields.specs.Spans.{nowhere}
use Rattle.fields.specs.declared.run.Run.{Run}
use Rattle.extensions.specs.declared.KeyIds.{KeyIds}
use Rattle.extensions.specs.declared.Extensions.{Extensions}
use Rattle.record.specs.declared.head.Head.{Head}
use Rattle.record.specs.declared.strings.Strings.{Strings}
use Rattle.record.specs.declared.Record.{Record}

-- nothing but zeros
abbrev pub fresh : Record
fresh = record { start = 0; issuer = 0; subject = 0; rest = 0 }

abbrev pub no_head : Head
no_head = record { version = 0; flags = 0; not_before = 0; not_after = 0 }

abbrev pub no_strings : Strings
no_strings = record { serial = nowhere; outer = nowhere; inner = nowhere }

abbrev pub no_key_ids : KeyIds
no_key_ids = record { authority = nowhere; authority_serial = nowhere; subject = nowhere }

abbrev pub none_listed : Run
none_listed = record { count = 0; first = 0 }

abbrev pub no_extensions : Extensions
no_extensions = record { key_ids = no_key_ids; path_length = 0; usages = none_listed; dns_names = none_listed }
