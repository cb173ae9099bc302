-- What a record that was read says (`record_read`): the limits of its parts, the names and lists that stand at its places, and the
-- certificate. One record of facts for each group of parts. For certificates, issuing and rules; that the certificate is what the file says
-- there: Values.antt; where the parts stand: specs/Record.antt, what they make: specs/Parts.antt.
use Prim.Native.Nat.{ℕ, ◌+◌, ◌<◌, ◌≤◌}
use mathlib.Core.Path.{◌≡◌, refl, sym, ap, ◌∙◌}
use mathlib.Core.Bool.{true}
use mathlib.Core.List.{List}
use native.Mathlib.Nat.{mod-eq_of_lt}
use native.Mathlib.Omega.{arith}
use lib.Dec.{leb}
use lib.ListN.{length}
use Rattle.fields.specs.Fields.{got, byte_p, big_p, count_p, counted_p, many, bytes_p}
use Rattle.fields.specs.Spans.{span_p, list_of}
use Rattle.fields.proofs.After.{after-got, judged_got, got-is}
use Rattle.fields.proofs.Counts.{byte_few, count_read}
use Rattle.fields.proofs.Strings.{SpanRead, span_read}
use Rattle.names.specs.Names.{Attr, name_p, name_most}
use Rattle.lists.specs.Lists.{usage_p, dns_name_p, usages_most}
use Rattle.fields.specs.Runs.{run_p}
use Rattle.lists.specs.Runs.{usages_p}
use Rattle.extensions.specs.Extensions.{key_ids_p, path_length_p, extensions_p}
use Rattle.extensions.specs.Flags.{serial_most}
use Rattle.extensions.specs.declared.Extensions.{Extensions}
use Rattle.extensions.proofs.Meaning.{ExtensionsRead, extensions_read}
use Rattle.record.specs.Record.{opening_p, dates_p, head_p, strings_p, names_p, place_most, place_of, placed, record_p}
use Rattle.record.specs.Certificate.{paired, flags_p, algorithm_most}
use Rattle.record.specs.Fresh.{no_head, no_extensions}
use Rattle.record.specs.Parts.{value_or, head_of, extensions_of, certificate_by, certificate_of}
use Rattle.record.specs.declared.head.Head.{Head}
use Rattle.record.specs.declared.strings.Strings.{Strings}
use Rattle.record.specs.declared.parties.Names.{Names}
use Rattle.record.specs.declared.Record.{Record}
use Rattle.record.proofs.Onward.{key_ids_onward, path-length-onward}

-- ---- version and flags

pub record FlagsRead (version flags : ℕ) : Type 0 where
  pub version_byte : version ≤ 255
  pub flags_byte : flags ≤ 255
  pub flags-paired : paired flags ≡ true

flags_judged : (s : List ℕ) (at f e : ℕ) → flags_p s at ≡ got f e → (f ≤ 255) × (paired f ≡ true) × (byte_p s at ≡ got f e)
unfolding flags_p
flags_judged s at f e h =
    let byte = after-got (byte_p s at) _ h in
    let judged = judged_got (paired byte.value) _ 8 byte.next in
    got-is (λ f e. (f ≤ 255) × (paired f ≡ true) × (byte_p s at ≡ got f e)) judged.1
    (byte_few s at byte.value byte.place byte.first, judged.0, byte.first)

opening_read : (s : List ℕ) (at : ℕ) (v : ℕ × ℕ) (e : ℕ) → opening_p s at ≡ got v e → FlagsRead v.0 v.1
unfolding opening_p
opening_read s at v e h =
    let version = after-got (byte_p s at) _ h in
    let flags = after-got (flags_p s version.place) _ version.next in
    let judged = flags_judged s version.place flags.value flags.place flags.first in
    got-is (λ v _. FlagsRead v.0 v.1) flags.next
    (record {
      version_byte = byte_few s at version.value version.place version.first;
      flags_byte = judged.0;
      flags-paired = judged.1;
    })

head_read : (s : List ℕ) (at : ℕ) (h : Head) (e : ℕ) → head_p s at ≡ got h e → FlagsRead h.version h.flags
unfolding head_p
head_read s at h e r =
    let flags = after-got (opening_p s at) _ r in
    let dates = after-got (dates_p s flags.place) _ flags.next in
    got-is (λ h _. FlagsRead h.version h.flags) dates.next
    (opening_read s at flags.value flags.place flags.first)

-- ---- serial and algorithms

pub record StringsRead (s : List ℕ) (at : ℕ) (p : Strings) (e : ℕ) : Type 0 where
  pub outer-at : ℕ
  pub inner-at : ℕ
  pub serial : SpanRead 1 serial_most s at p.serial outer-at
  pub outer : SpanRead 1 algorithm_most s outer-at p.outer inner-at
  pub inner : SpanRead 1 algorithm_most s inner-at p.inner e

strings_read : (s : List ℕ) (at : ℕ) (p : Strings) (e : ℕ) → strings_p s at ≡ got p e → StringsRead s at p e
unfolding strings_p
strings_read s at p e h =
    let serial = after-got (span_p 1 serial_most s at) _ h in
    let outer = after-got (span_p 1 algorithm_most s serial.place) _ serial.next in
    let inner = after-got (span_p 1 algorithm_most s outer.place) _ outer.next in
    got-is (StringsRead s at) inner.next
    (record {
      outer-at = serial.place;
      inner-at = outer.place;
      serial = span_read 1 serial_most s at _ _ serial.first;
      outer = span_read 1 algorithm_most s _ _ _ outer.first;
      inner = span_read 1 algorithm_most s _ _ _ inner.first;
    })

-- ---- where the parts stand

byte_ends : (s : List ℕ) (at n e : ℕ) → byte_p s at ≡ got n e → (at < length s) × (e ≡ at + 1)
unfolding byte_p
byte_ends s at n e h = let r = count_read 0 255 s at n e h in (r.there, r.past)

big_ends : (width : ℕ) (s : List ℕ) (at n e : ℕ) → big_p width s at ≡ got n e → e ≡ at + width
unfolding big_p bytes_p
big_ends width s at n e h =
    let bytes = after-got (bytes_p width s at) _ h in
    let ends = got-is (λ _ e. e ≡ at + width) (judged_got (leb (at + width) (length s)) _ 6 bytes.first).1 refl in
    got-is (λ _ e. e ≡ at + width) bytes.next ends

opening_ends : (s : List ℕ) (at : ℕ) (v : ℕ × ℕ) (e : ℕ) → opening_p s at ≡ got v e → (at < length s) × (e ≡ at + 2)
unfolding opening_p
opening_ends s at v e h =
    let version = after-got (byte_p s at) _ h in
    let flags = after-got (flags_p s version.place) _ version.next in
    let x = byte_ends s at _ _ version.first in
    let y = byte_ends s version.place _ _ (flags_judged s version.place _ _ flags.first).2 in
    got-is (λ _ e. (at < length s) × (e ≡ at + 2)) flags.next (x.0, omega (arith, x.1, y.1))

dates_ends : (s : List ℕ) (at : ℕ) (v : ℕ × ℕ) (e : ℕ) → dates_p s at ≡ got v e → e ≡ at + 16
unfolding dates_p
dates_ends s at v e h =
    let before = after-got (big_p 8 s at) _ h in
    let last = after-got (big_p 8 s before.place) _ before.next in
    got-is (λ _ e. e ≡ at + 16) last.next
    (omega (arith, big_ends 8 s at _ _ before.first, big_ends 8 s before.place _ _ last.first))

pub head_ends : (s : List ℕ) (at : ℕ) (h : Head) (e : ℕ) → head_p s at ≡ got h e → (at < length s) × (e ≡ at + 18)
unfolding head_p
head_ends s at h e r =
    let flags = after-got (opening_p s at) _ r in
    let dates = after-got (dates_p s flags.place) _ flags.next in
    let x = opening_ends s at _ _ flags.first in
    got-is (λ _ e. (at < length s) × (e ≡ at + 18)) dates.next
    (x.0, omega (arith, x.1, dates_ends s flags.place _ _ dates.first))

name_there : (s : List ℕ) (at : ℕ) (n : List (List Attr)) (e : ℕ) → name_p s at ≡ got n e → at < length s
unfolding name_p counted_p
name_there s at n e h =
    let count = after-got (count_p 0 name_most s at) _ h in
    (count_read 0 name_most s at count.value count.place count.first).there

-- what is behind the names begins within the file, since its lists do
extensions_there : (flags : ℕ) (s : List ℕ) (at : ℕ) (x : Extensions) (e : ℕ) → extensions_p flags s at ≡ got x e → at < length s
unfolding extensions_p run_p
extensions_there flags s at x e h =
    let keys = after-got (key_ids_p flags s at) _ h in
    let path = after-got (path_length_p flags s keys.place) _ keys.next in
    let usages = after-got (usages_p s path.place) _ path.next in
    let count = after-got (count_p 0 usages_most s path.place) _ usages.first in
    let there = (count_read 0 usages_most s path.place count.value count.place count.first).there in
    omega (arith, (key_ids_onward s flags at).ends _ _ keys.first, (path-length-onward s flags keys.place).ends _ _ path.first)

-- ---- the whole

-- a record was read: what stands at its places, and e is the place past it
pub record RecordRead (s : List ℕ) (r : Record) (e : ℕ) : Type 0 where
  pub head_is : Head
  pub strings_are : Strings
  pub issuer_name : List (List Attr)
  pub subject_name : List (List Attr)
  pub extensions_are : Extensions
  pub head : head_p s r.start ≡ got head_is (r.start + 18)
  pub strings : strings_p s (r.start + 18) ≡ got strings_are r.issuer
  pub issuer : name_p s r.issuer ≡ got issuer_name r.subject
  pub subject : name_p s r.subject ≡ got subject_name r.rest
  pub extensions : extensions_p head_is.flags s r.rest ≡ got extensions_are e

-- a place of a file that is not too long stays as it is
stays : (s : List ℕ) (at : ℕ) → length s ≤ place_most → at < length s → place_of at ≡ at
stays s at l h = mod-eq_of_lt (omega arith)

module _ (s : List ℕ) (few : length s ≤ place_most) where
  -- the places of what was read are kept as they are
  pub placed-is : (at f g k e : ℕ) (h : Head) (i j : List (List Attr)) (x : Extensions)
      → head_p s at ≡ got h (at + 18) → name_p s f ≡ got i g → name_p s g ≡ got j k → extensions_p h.flags s k ≡ got x e
      → placed at f g k ≡ record { start = at; issuer = f; subject = g; rest = k }
  placed-is at f g k e h i j x head issuer subject extensions =
      rw (
        stays s at few (head_ends s at h (at + 18) head).0,
        stays s f few (name_there s f i g issuer),
        stays s g few (name_there s g j k subject),
        stays s k few (extensions_there h.flags s k x e extensions),
      )

  placed_read : (at f g k e : ℕ) (h : Head) (t : Strings) (i j : List (List Attr)) (x : Extensions)
      → head_p s at ≡ got h (at + 18) → strings_p s (at + 18) ≡ got t f → name_p s f ≡ got i g → name_p s g ≡ got j k
      → extensions_p h.flags s k ≡ got x e → RecordRead s (placed at f g k) e
  placed_read at f g k e h t i j x head strings issuer subject extensions =
      rw (placed-is at f g k e h i j x head issuer subject extensions)
      (record {
        head_is = h;
        strings_are = t;
        issuer_name = i;
        subject_name = j;
        extensions_are = x;
        head = head;
        strings = strings;
        issuer = issuer;
        subject = subject;
        extensions = extensions;
      })

  pub record_read : (at : ℕ) (r : Record) (e : ℕ) → record_p s at ≡ got r e → RecordRead s r e
  unfolding record_p names_p
  record_read at r e h =
      let head = after-got (head_p s at) _ h in
      let strings = after-got (strings_p s head.place) _ head.next in
      let names = after-got (names_p s strings.place) _ strings.next in
      let extensions = after-got (extensions_p head.value.flags s names.place) _ names.next in
      let issuer = after-got (name_p s strings.place) _ names.first in
      let subject = after-got (name_p s issuer.place) _ issuer.next in
      let ends = (head_ends s at _ _ head.first).1 in
      got-is (RecordRead s) extensions.next
      (got-is
      (λ (n : Names) (g : ℕ). extensions_p head.value.flags s g ≡ got extensions.value extensions.place
      → RecordRead s (placed at n.issuer n.subject g) extensions.place)
      subject.next
      (placed_read at strings.place issuer.place subject.place extensions.place head.value strings.value
      issuer.value subject.value extensions.value
      (head.first ∙ ap (got head.value) ends) (ap (strings_p s) (sym ends) ∙ strings.first) issuer.first subject.first)
      extensions.first)

  pub record_begins : (at : ℕ) (r : Record) (e : ℕ) → record_p s at ≡ got r e → r.start ≡ at
  unfolding record_p
  record_begins at r e h =
      let head = after-got (head_p s at) _ h in
      let strings = after-got (strings_p s head.place) _ head.next in
      let names = after-got (names_p s strings.place) _ strings.next in
      let extensions = after-got (extensions_p head.value.flags s names.place) _ names.next in
      got-is (λ (r : Record) _. r.start ≡ at) extensions.next (stays s at few (head_ends s at _ _ head.first).0)

-- a record's own head, and its places, say what it says
pub own-head : (h : Head) (r : Record) (s : List ℕ) → h ≡ head_of r s → certificate_by h r s ≡ certificate_of r s
unfolding certificate_of
own-head h r s e = ap (λ h. certificate_by h r s) e

-- ---- what stands at the places of a record that was read, and what its certificate says

module _ (s : List ℕ) (r : Record) (e : ℕ) (t : RecordRead s r e) where
  pub head-of : head_of r s ≡ t.head_is
  unfolding head_of
  head-of = ap (value_or no_head) t.head

  pub extensions_of_lem : extensions_of (head_of r s).flags r s ≡ t.extensions_are
  unfolding extensions_of
  extensions_of_lem = ap (λ (h : Head). value_or no_extensions (extensions_p h.flags s r.rest)) head-of ∙ ap (value_or no_extensions) t.extensions

  -- its parts within their limits
  pub head_read_of : FlagsRead t.head_is.version t.head_is.flags
  head_read_of = head_read s _ _ _ t.head

  pub strings_read_of : StringsRead s (r.start + 18) t.strings_are r.issuer
  strings_read_of = strings_read s _ _ _ t.strings

  pub extensions_read_of : ExtensionsRead t.head_is.flags s r.rest t.extensions_are e
  extensions_read_of = extensions_read _ s _ _ _ t.extensions

  -- both names end within the file
  pub issuer-within : r.subject ≤ length s
  issuer-within = omega (arith, name_there s r.subject _ _ t.subject)

  pub subject-within : r.rest ≤ length s
  subject-within = omega (arith, extensions_there t.head_is.flags s r.rest _ _ t.extensions)

  pub says-issuer : (certificate_of r s).issuer ≡ t.issuer_name
  unfolding certificate_of certificate_by
  says-issuer = ap list_of t.issuer

  pub says-subject : (certificate_of r s).subject ≡ t.subject_name
  unfolding certificate_of certificate_by
  says-subject = ap list_of t.subject

  pub says-usages : (certificate_of r s).usages ≡ extensions_read_of.usages.things
  unfolding certificate_of certificate_by
  says-usages =
      ap (λ (x : Extensions). list_of (many usage_p x.usages.count s x.usages.first)) extensions_of_lem
      ∙ ap list_of extensions_read_of.usages.are

  pub says_dns_names : (certificate_of r s).dns_names ≡ extensions_read_of.dns_names.things
  unfolding certificate_of certificate_by
  says_dns_names =
      ap (λ (x : Extensions). list_of (many dns_name_p x.dns_names.count s x.dns_names.first)) extensions_of_lem
      ∙ ap list_of extensions_read_of.dns_names.are
