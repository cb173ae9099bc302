-- The bytes of a span within the file (`bytes-within`, `bytes-length`), what a string that was read tells (`span_read`), and the string by its
-- span (`string_by_span`). Spans: specs/Spans.antt; strings: specs/Fields.antt.
use Prim.Native.Nat.{ℕ, ◌+◌, ◌-◌, ◌≤◌}
use mathlib.Core.Path.{◌≡◌, refl, sym, ap, ◌∙◌}
use mathlib.Core.Bool.{Bool, true, false, cond}
use mathlib.Core.List.{List}
use native.Mathlib.Omega.{arith}
use lib.ListN.{length, take, drop, length-drop}
use lib.Seq.{length-take-le}
use lib.Dec.{leb}
use borrow.Author.Tests.{leb-true, le-leb}
use Rattle.fields.specs.Fields.{Parsed, got, stop, after, count_p, bytes_p, string_p}
use Rattle.fields.specs.Spans.{span_p, bytes_of}
use Rattle.fields.specs.declared.string.Span.{Span}
use Rattle.fields.proofs.Counts.{count_read}

-- ---- the bytes of a span

module _ (p : Span) (s : List ℕ) where
  pub bytes-within : p.start ≤ p.end → p.end ≤ length s → bytes_of p s ≡ take (p.end - p.start) (drop p.start s)
  unfolding bytes_of
  bytes-within h l = rw (le-leb p.start p.end h, le-leb p.end (length s) l)

  pub bytes-length : p.start ≤ p.end → p.end ≤ length s → length (bytes_of p s) ≡ p.end - p.start
  bytes-length h l =
      let k : p.end - p.start ≤ length (drop p.start s) = simp length-drop (omega arith) in
      ap length (bytes-within h l) ∙ length-take-le (p.end - p.start) (drop p.start s) k

-- ---- a string that was read

-- the span p was read, and e is the place past it
pub record SpanRead (least most : ℕ) (s : List ℕ) (at : ℕ) (p : Span) (e : ℕ) : Type 0 where
  pub starts : p.start ≡ at + 1
  pub ends : p.end ≡ e
  pub ordered : p.start ≤ p.end
  pub within : p.end ≤ length s
  pub enough : least ≤ length (bytes_of p s)
  pub few : length (bytes_of p s) ≤ most
  pub bytes : bytes_of p s ≡ take (p.end - p.start) (drop p.start s)

module _ (least most : ℕ) (s : List ℕ) (at : ℕ) (p : Span) (e : ℕ) where
  by_bytes : (n b : ℕ) → count_p least most s at ≡ got n b → (there : Bool) → leb (b + n) (length s) ≡ there
      → cond there (got (record { start = b; end = b + n }) (b + n)) (stop 6) ≡ got p e → SpanRead least most s at p e
  by_bytes n b c true t h =
      let r = count_read least most s at n b c in
      let q : record { start = b; end = b + n } ≡ p = cc in
      let starts : b ≡ p.start = ap (λ (x : Span). x.start) q in
      let ends : b + n ≡ p.end = ap (λ (x : Span). x.end) q in
      let past : b + n ≡ e = cc in
      let ordered : p.start ≤ p.end = omega arith in
      let within : p.end ≤ length s = omega (arith, leb-true) in
      let long = bytes-length p s ordered within in
      record {
        starts = omega arith;
        ends = omega arith;
        ordered = ordered;
        within = within;
        enough = omega arith;
        few = omega arith;
        bytes = bytes-within p s ordered within;
      }
  by_bytes n b c false t h = let z : ◌≡◌ {A = ℕ} 0 1 = cc in absurd (omega arith)

  by_count : (x : Parsed ℕ) → count_p least most s at ≡ x
      → after x (λ n b. cond (leb (b + n) (length s)) (got (record { start = b; end = b + n }) (b + n)) (stop 6)) ≡ got p e
      → SpanRead least most s at p e
  by_count (got n b) c h = by_bytes n b c _ refl h
  by_count (stop r) c h = let z : ◌≡◌ {A = ℕ} 0 1 = cc in absurd (omega arith)

  pub span_read : span_p least most s at ≡ got p e → SpanRead least most s at p e
  unfolding span_p
  span_read h = by_count _ refl h

-- ---- a string by its span

module _ (least most : ℕ) (s : List ℕ) where
  pub string_by_span : (at : ℕ) → string_p least most s at ≡ after (span_p least most s at) (λ p e. got (bytes_of p s) e)
  unfolding string_p span_p bytes_p
  string_by_span at = by_count (count_p least most s at)
    where
      spelt : (n e : ℕ) (there : Bool) → leb (e + n) (length s) ≡ there
          → cond there (got (take n (drop e s)) (e + n)) (stop 6)
          ≡ after (cond there (got (record { start = e; end = e + n }) (e + n)) (stop 6)) (λ p e. got (bytes_of p s) e)
      spelt n e true t =
          let w : e + n - e ≡ n = omega arith in
          let b = bytes-within (record { start = e; end = e + n }) s (omega arith) (leb-true (e + n) (length s) t) in
          ap (λ l. got l (e + n)) (sym (b ∙ ap (λ k. take k (drop e s)) w))
      spelt n e false t = refl

      by_count : (x : Parsed ℕ)
          → after x (λ n e. bytes_p n s e)
          ≡ after (after x (λ n e. cond (leb (e + n) (length s)) (got (record { start = e; end = e + n }) (e + n)) (stop 6))) (λ p e. got (bytes_of p s) e)
      by_count (got n e) = spelt n e (leb (e + n) (length s)) refl
      by_count (stop r) = refl

  pub string_got : (at : ℕ) (p : Span) (e : ℕ) → span_p least most s at ≡ got p e → string_p least most s at ≡ got (bytes_of p s) e
  string_got at p e h = string_by_span at ∙ ap (λ x. after x (λ p e. got (bytes_of p s) e)) h

  pub string_stops : (at r : ℕ) → span_p least most s at ≡ stop r → string_p least most s at ≡ stop r
  string_stops at r h = string_by_span at ∙ ap (λ x. after x (λ p e. got (bytes_of p s) e)) h
