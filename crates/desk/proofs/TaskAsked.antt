-- What a file asks. For the proof of `savuneco_task`: a card in plain numbers is what its file asks (`card_asks`), its host's end is not
-- before its start (`host_ordered`), and a file that can't be read asks for nothing (`fault_asks`). For who reads the answer: the bytes from the host's place to the file's end are the host
-- (`host-stands`); where the file can't be read the number is one of 4 to 9 (`fault_number`), and the search says the same (`fault_searched`).
-- Definition: specs/Asked.antt; that what was read is what the file says: card/proofs/Values.antt.
use Prim.Native.Nat.{ℕ, ◌-◌, ◌≤◌}
use mathlib.Core.Path.{◌≡◌, refl, sym, ap, ◌∙◌}
use mathlib.Core.List.{List}
use native.Mathlib.Omega.{arith}
use lib.ListN.{length, drop, length-drop}
use lib.Seq.{take_all}
use Rattle.fields.specs.Fields.{Parsed, got, stop}
use Rattle.fields.specs.declared.string.Span.{Span}
use Rattle.fields.proofs.Strings.{bytes-length}
use Rattle.card.specs.Card.{file_p}
use Rattle.card.specs.Content.{Content, content_p}
use Rattle.card.specs.Parts.{content_of}
use Rattle.card.specs.declared.Card.{Card}
use Rattle.card.proofs.Sections.{CardRead, card_read}
use Rattle.card.proofs.Standing.{roots_counted, bundle_counted}
use Rattle.card.proofs.Stops.{file_stops, WasRead}
use Rattle.card.proofs.Values.{content_got, content_stops}
use Rattle.reply.specs.Answer.{Stops}
use Rattle.reply.proofs.Says.{stops_reply}
use Rattle.search.specs.Search.{Search}
use Rattle.desk.specs.Asked.{asked_by}
use Rattle.desk.specs.Plain.{plain, Says}
use Rattle.desk.specs.declared.plain.Plain.{Plain}
use Rattle.desk.specs.declared.tasks.Asked.{Asked}

-- ---- on a card that was read

abbrev host_of : Card → Span
host_of c = c.task.host.name

module _ (s : List ℕ) (c : Card) (e : ℕ) (t : CardRead s c e) where
  host-long : length (content_of c s).host ≡ (host_of c).end - (host_of c).start
  unfolding content_of
  host-long = bytes-length (host_of c) s t.host.is.ordered t.host.is.within

  host-starts : length s - ((host_of c).end - (host_of c).start) ≡ (host_of c).start
  host-starts =
      let host = t.host.is in
      let ends = t.ends in
      omega arith

  host-rest : drop (host_of c).start s ≡ (content_of c s).host
  unfolding content_of
  host-rest =
      let host = t.host.is in
      let ends = t.ends in
      let all : length (drop (host_of c).start s) ≤ (host_of c).end - (host_of c).start = simp length-drop (omega arith) in
      sym (host.bytes ∙ take_all ((host_of c).end - (host_of c).start) (drop (host_of c).start s) all)

-- ---- on a file

-- a card in plain numbers
abbrev pub asking : Card → Asked
asking c =
    record {
      now = c.task.now;
      budget = c.task.budget;
      host_at = (host_of c).start;
      host_length = (host_of c).end - (host_of c).start;
      number = 0;
      roots = c.roots.count;
      certificates = c.bundle.count;
    }

-- nothing, and the number of a fault
abbrev pub asking_nothing : ℕ → Asked
asking_nothing r = record { now = 0; budget = 0; host_at = 0; host_length = 0; number = r; roots = 0; certificates = 0 }

module _ (s : List ℕ) where
  pub card_asks : (c : Card) → WasRead s c → asking c ≡ asked_by (length s) (content_p s)
  unfolding asked_by content_of
  card_asks c read =
      let t = card_read s c read.end read.is in
      rw (content_got s c read.end read.is, host-long s c read.end t, host-starts s c read.end t, roots_counted s c read.end t, bundle_counted s c read.end t)

  pub fault_asks : (r : ℕ) → file_p s ≡ stop r → asking_nothing r ≡ asked_by (length s) (content_p s)
  unfolding asked_by
  fault_asks r k = rw (content_stops s r k)

  pub host_ordered : (c : Card) → WasRead s c → (host_of c).start ≤ (host_of c).end
  host_ordered c read = (card_read s c read.end read.is).host.is.ordered

  pub host-stands : (c : Content) (e : ℕ) → content_p s ≡ got c e → drop (asked_by (length s) (content_p s)).host_at s ≡ c.host
  unfolding asked_by
  host-stands c e h = by_file (file_p s) refl
    where
      by_file : (x : Parsed Card) → file_p s ≡ x → drop (asked_by (length s) (content_p s)).host_at s ≡ c.host
      by_file (got d f) k =
          let t = card_read s d f k in
          let g = content_got s d f k in
          let same : content_of d s ≡ c = cc in
          rw (h, sym same, host-long s d f t, host-starts s d f t) (host-rest s d f t)
      by_file (stop r) k =
          let g = content_stops s r k in
          let z : ◌≡◌ {A = ℕ} 0 1 = cc in
          absurd (omega arith)

  pub fault_number : (r : ℕ) → content_p s ≡ stop r → (4 ≤ r) × (r ≤ 9)
  fault_number r h = by_file (file_p s) refl
    where
      by_file : (x : Parsed Card) → file_p s ≡ x → (4 ≤ r) × (r ≤ 9)
      by_file (got c e) k =
          let g = content_got s c e k in
          let z : ◌≡◌ {A = ℕ} 0 1 = cc in
          absurd (omega arith)
      by_file (stop q) k =
          let g = content_stops s q k in
          let same : q ≡ r = cc in
          (file_stops s).at r (k ∙ ap stop same)

  pub fault_searched : (before after : List ℕ) (a : Plain) (r : ℕ) → content_p s ≡ stop r → Says (Search (content_p s) before after) a
      → a.number ≡ (asked_by (length s) (content_p s)).number
  unfolding asked_by plain
  fault_searched before after a r h x =
      let stopped : Stops r before after x.answer = rw h at x.holds in
      rw (h, x.plainly, stops_reply stopped)
