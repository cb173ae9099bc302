-- What is asked of the leaf by the runs of its record is what is asked of the certificate, where the record stands in the file: usages
-- (`for_servers_read`) and the host (`for_host_read`). For policy/proofs/SeatsRead.antt. By runs: specs/Records.antt; of the certificate:
-- specs/Rules.antt.
use Prim.Native.Nat.{ℕ}
use mathlib.Core.Path.{◌≡◌}
use mathlib.Core.List.{List}
use Rattle.lists.specs.Lists.{usage_p, dns_name_p}
use Rattle.record.specs.Parts.{head_of, extensions_of, certificate_of}
use Rattle.record.specs.declared.Record.{Record}
use Rattle.record.proofs.Meaning.{RecordRead, extensions_of_lem, extensions_read_of, says-usages, says_dns_names}
use Rattle.rules.specs.Rules.{serving, names_host, for_servers, for_host}
use Rattle.rules.specs.Records.{for_servers_at, for_host_at}
use Rattle.rules.proofs.AnyOf.{any_read}

module _ (s : List ℕ) (r : Record) (e : ℕ) (t : RecordRead s r e) where
  pub for_servers_read : for_servers_at s (extensions_of (head_of r s).flags r s).usages ≡ for_servers (certificate_of r s)
  unfolding for_servers_at for_servers
  for_servers_read =
      let u = (extensions_read_of s r e t).usages in
      rw (extensions_of_lem s r e t, says-usages s r e t, u.as_many, any_read serving usage_p s _ t.extensions_are.usages _ u)

  pub for_host_read : (host : List ℕ) → for_host_at s host (extensions_of (head_of r s).flags r s).dns_names ≡ for_host host (certificate_of r s)
  unfolding for_host_at for_host
  for_host_read host =
      let d = (extensions_read_of s r e t).dns_names in
      rw (extensions_of_lem s r e t, says_dns_names s r e t, any_read (names_host host) dns_name_p s _ t.extensions_are.dns_names _ d)
