-- What Rules.antt asks of the leaf's usages and DNS names, asked of a record's runs as they are, whether a reader made them or not. That it
-- is the same of a record that was read: proofs/LeafRead.antt.
use Rattle.std.specs.Prelude.{ℕ, Bool, ◌||◌, List, eqb, length}
use Rattle.fields.specs.Runs.{any_of}
use Rattle.fields.specs.declared.run.Run.{Run}
use Rattle.lists.specs.Lists.{usage_p, dns_name_p}
use Rattle.rules.specs.Rules.{serving, names_host}

unfoldable pub for_servers_at : List ℕ → Run → Bool
for_servers_at s usages = eqb usages.count 0 || any_of serving usage_p usages.count s usages.first

unfoldable pub for_host_at : List ℕ → List ℕ → Run → Bool
for_host_at s host dns = eqb (length host) 0 || any_of (names_host host) dns_name_p dns.count s dns.first
