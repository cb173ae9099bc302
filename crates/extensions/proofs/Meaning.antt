-- What extensions that were read hold: the limits of their parts, and the lists that stand at their places (`extensions_read`, for
-- record/proofs/Meaning.antt and rules/proofs/Limits.antt). A list that was read: lists/proofs/Meaning.antt; where the parts stand:
-- specs/Extensions.antt.
use Prim.Native.Nat.{ℕ, ◌<◌, ◌≤◌}
use mathlib.Core.Path.{◌≡◌}
use mathlib.Core.Bool.{Bool, true, false, cond}
use mathlib.Core.List.{List, []}
use native.Mathlib.Omega.{arith}
use lib.ListN.{length, get_or}
use Rattle.fields.specs.Fields.{got, byte_p}
use Rattle.fields.specs.declared.string.Span.{Span}
use Rattle.fields.proofs.After.{after-got, got-is}
use Rattle.fields.proofs.Counts.{byte_few}
use Rattle.fields.proofs.Strings.{SpanRead, span_read}
use Rattle.lists.specs.Lists.{usage_p, dns_name_p, usage_most, usages_most, dns_name_most, dns_names_most}
use Rattle.lists.specs.Runs.{usages_p, dns_names_p}
use Rattle.lists.proofs.Meaning.{RunRead, run_read, run_each, usage_few, dns_name_bounded}
use Rattle.extensions.specs.Extensions.{span_if_p, key_ids_p, path_length_p, extensions_p}
use Rattle.extensions.specs.Flags.{flag, key_id_most, serial_most}
use Rattle.extensions.specs.declared.KeyIds.{KeyIds}
use Rattle.extensions.specs.declared.Extensions.{Extensions}

-- ---- key ids and path length, each where its flag is set

pub record KeyIdsRead (flags : ℕ) (s : List ℕ) (at : ℕ) (k : KeyIds) (e : ℕ) : Type 0 where
  pub serial-at : ℕ
  pub subject-at : ℕ
  pub authority : flag 1 flags ≡ true → SpanRead 1 key_id_most s at k.authority serial-at
  pub authority-serial : flag 2 flags ≡ true → SpanRead 1 serial_most s serial-at k.authority_serial subject-at
  pub subject : flag 4 flags ≡ true → SpanRead 1 key_id_most s subject-at k.subject e

option_read : (present : Bool) (most : ℕ) (s : List ℕ) (at : ℕ) (p : Span) (e : ℕ)
    → span_if_p present most s at ≡ got p e → present ≡ true → SpanRead 1 most s at p e
unfolding span_if_p
option_read true most s at p e h t = span_read 1 most s at p e h
option_read false most s at p e h t = cc

key_ids_read : (flags : ℕ) (s : List ℕ) (at : ℕ) (k : KeyIds) (e : ℕ) → key_ids_p flags s at ≡ got k e → KeyIdsRead flags s at k e
unfolding key_ids_p
key_ids_read flags s at k e h =
    let authority = after-got (span_if_p (flag 1 flags) key_id_most s at) _ h in
    let serial = after-got (span_if_p (flag 2 flags) serial_most s authority.place) _ authority.next in
    let subject = after-got (span_if_p (flag 4 flags) key_id_most s serial.place) _ serial.next in
    got-is (KeyIdsRead flags s at) subject.next
    (record {
      serial-at = authority.place;
      subject-at = serial.place;
      authority = option_read (flag 1 flags) key_id_most s at _ _ authority.first;
      authority-serial = option_read (flag 2 flags) serial_most s _ _ _ serial.first;
      subject = option_read (flag 4 flags) key_id_most s _ _ _ subject.first;
    })

path-length-few : (flags : ℕ) (s : List ℕ) (at n e : ℕ) → path_length_p flags s at ≡ got n e → n ≤ 255
unfolding path_length_p
path-length-few flags s at n e h = by_flag (flag 16 flags) h
  where
    by_flag : (b : Bool) → cond b (byte_p s at) (got 0 at) ≡ got n e → n ≤ 255
    by_flag true k = byte_few s at n e k
    by_flag false k = let z : 0 ≡ n = cc in omega arith

-- ---- the whole

pub record ExtensionsRead (flags : ℕ) (s : List ℕ) (at : ℕ) (x : Extensions) (e : ℕ) : Type 0 where
  pub path-at : ℕ
  pub dns_at : ℕ
  pub key_ids : KeyIdsRead flags s at x.key_ids path-at
  pub path-length : x.path_length ≤ 255
  pub usages : RunRead usages_most usage_p s x.usages dns_at
  pub dns_names : RunRead dns_names_most dns_name_p s x.dns_names e
  pub each_usage : (i : ℕ) → i < x.usages.count → get_or usages.things i 0 ≤ usage_most
  pub each_dns_name : (i : ℕ) → i < x.dns_names.count
      → (1 ≤ length (get_or dns_names.things i [])) × (length (get_or dns_names.things i []) ≤ dns_name_most)

pub extensions_read : (flags : ℕ) (s : List ℕ) (at : ℕ) (x : Extensions) (e : ℕ) → extensions_p flags s at ≡ got x e → ExtensionsRead flags s at x e
unfolding extensions_p
extensions_read flags s at x e h =
    let keys = after-got (key_ids_p flags s at) _ h in
    let path = after-got (path_length_p flags s keys.place) _ keys.next in
    let usages = after-got (usages_p s path.place) _ path.next in
    let names = after-got (dns_names_p s usages.place) _ usages.next in
    let u = run_read usages_most usage_p s _ _ _ usages.first in
    let n = run_read dns_names_most dns_name_p s _ _ _ names.first in
    got-is (ExtensionsRead flags s at) names.next
    (record {
      path-at = keys.place;
      dns_at = usages.place;
      key_ids = key_ids_read flags s at _ _ keys.first;
      path-length = path-length-few flags s _ _ _ path.first;
      usages = u;
      dns_names = n;
      each_usage = run_each usages_most usage_p s (λ v. v ≤ usage_most) (usage_few s) _ _ u 0;
      each_dns_name = run_each dns_names_most dns_name_p s (λ v. (1 ≤ length v) × (length v ≤ dns_name_most)) (dns_name_bounded s) _ _ n [];
    })
