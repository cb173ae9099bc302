-- The same bytes again are the same name: what is read depends on the bytes that it is read from and not on their place (`name_local`,
-- `bytes_alike`), for same/proofs/Spans.antt. In order: any things, strings, names. What a name is: specs/Names.antt.
use Prim.Native.Nat.{ℕ, zero, suc, ◌+◌, ◌-◌, ◌<◌, ◌≤◌}
use mathlib.Core.Path.{◌≡◌, sym, ap, ap₂, ◌∙◌}
use mathlib.Core.List.{List, [], ◌∷◌}
use native.Mathlib.Omega.{arith}
use lib.Dec.{leb}
use lib.ListN.{length, get_or, take, drop, length-drop}
use lib.Seq.{length-take-le, get_or-take, get_or-drop, ext_get_or}
use borrow.Author.Tests.{leb-true}
use Rattle.fields.specs.Fields.{Parsed, got, after, count_p, bytes_p, string_p, many, counted_p}
use Rattle.fields.specs.Spans.{bytes_of}
use Rattle.fields.proofs.After.{after-got, judged_got, got-is}
use Rattle.fields.proofs.Counts.{count_read}
use Rattle.fields.proofs.Strings.{bytes-within}
use Rattle.names.specs.Names.{Attr, attr_p, rdn_p, name_p, oid_most, value_most, rdn_most, name_most}

-- so many bytes are the same from two places on
abbrev pub Agree : List ℕ → ℕ → ℕ → ℕ → Type 0
Agree s a b n = (i : ℕ) → i < n → get_or s (a + i) 0 ≡ get_or s (b + i) 0

first_byte : (s : List ℕ) (a b n : ℕ) → Agree s a b n → 0 < n → get_or s a 0 ≡ get_or s b 0
first_byte s a b n g h =
    let x : a + 0 ≡ a = omega arith in
    let y : b + 0 ≡ b = omega arith in
    ap (λ k. get_or s k 0) (sym x) ∙ g 0 h ∙ ap (λ k. get_or s k 0) y

-- what p reads ends no earlier than it begins, and is the same again where its bytes are
pub record Local {A : Type 0} (s : List ℕ) (p : ℕ → Parsed A) : Type 0 where
  pub on : (a : ℕ) (x : A) (e : ℕ) → p a ≡ got x e → a ≤ e
  pub alike : (a b : ℕ) (x y : A) (e f : ℕ) → p a ≡ got x e → p b ≡ got y f → Agree s a b (e - a) → (x ≡ y) × (e + b ≡ f + a)

-- ---- any things

module _ (s : List ℕ) where
  got_local : {A : Type 0} (x : A) → Local s (got x)
  got_local x =
      record {
        on = λ a y e h. let q : a ≡ e = cc in omega arith;
        alike = λ a b y z e f h k g.
            let q : a ≡ e = cc in
            let r : b ≡ f = cc in
            let t : x ≡ y = cc in
            let u : x ≡ z = cc in
            (sym t ∙ u, omega arith);
      }

  module _ {A B : Type 0} (p : ℕ → Parsed A) (q : A → ℕ → Parsed B) (lp : Local s p) (lq : (x : A) → Local s (q x)) where
    after_local : Local s (λ a. after (p a) q)
    after_local =
        record {
          on = λ a z e h.
              let t = after-got (p a) q h in
              omega (arith, lp.on a t.value t.place t.first, (lq t.value).on t.place z e t.next);
          alike = λ a b z w e f h k g.
              let t = after-got (p a) q h in
              let u = after-got (p b) q k in
              let c = lp.on a t.value t.place t.first in
              let d = (lq t.value).on t.place z e t.next in
              let first = lp.alike a b t.value u.value t.place u.place t.first u.first (λ i l. g i (omega arith)) in
              let shift : Agree s t.place u.place (e - t.place) = λ i l.
              let x : a + (t.place - a + i) ≡ t.place + i = omega arith in
              let y : b + (t.place - a + i) ≡ u.place + i = omega (arith, first.1) in
              ap (λ k. get_or s k 0) (sym x) ∙ g (t.place - a + i) (omega arith) ∙ ap (λ k. get_or s k 0) y in
              let again : q t.value u.place ≡ got w f = ap (λ v. q v u.place) first.0 ∙ u.next in
              let rest = (lq t.value).alike t.place u.place z w e f t.next again shift in
              (rest.0, omega (arith, first.1, rest.1));
        }

  count_local : (least most : ℕ) → Local s (count_p least most s)
  count_local least most =
      record {
        on = λ a n e h. omega (arith, (count_read least most s a n e h).past);
        alike = λ a b n m e f h k g.
            let x = count_read least most s a n e h in
            let y = count_read least most s b m f k in
            let here = first_byte s a b (e - a) g (omega (arith, x.past)) in
            (x.is ∙ here ∙ sym y.is, omega (arith, x.past, y.past));
      }

  module _ {A : Type 0} (p : List ℕ → ℕ → Parsed A) (lp : Local s (p s)) where
    many_local : (n : ℕ) → Local s (many p n s)
    unfolding many
    many_local zero = got_local []
    many_local (suc n) =
        after_local (p s) (λ x e. after (many p n s e) (λ l f. got (x ∷ l) f)) lp (λ x.
        after_local (many p n s) (λ l f. got (x ∷ l) f) (many_local n) (λ l. got_local (x ∷ l)))

    counted_local : (least most : ℕ) → Local s (counted_p least most p s)
    unfolding counted_p
    counted_local least most = after_local (count_p least most s) (λ n e. many p n s e) (count_local least most) many_local

-- ---- strings

-- a string that was read, by its length byte
record Spelt (s : List ℕ) (a : ℕ) (x : List ℕ) (e : ℕ) : Type 0 where
  within : a + 1 + get_or s a 0 ≤ length s
  is : x ≡ take (get_or s a 0) (drop (a + 1) s)
  past : e ≡ a + 1 + get_or s a 0

module _ (least most : ℕ) (s : List ℕ) where
  spelt : (a : ℕ) (x : List ℕ) (e : ℕ) → string_p least most s a ≡ got x e → Spelt s a x e
  unfolding string_p bytes_p
  spelt a x e h =
      let count = after-got (count_p least most s a) _ h in
      let c = count_read least most s a count.value count.place count.first in
      let there = judged_got (leb (count.place + count.value) (length s)) _ 6 count.next in
      got-is (Spelt s a) there.1 (by_count count.value count.place c.is c.past (leb-true _ _ there.0))
    where
      by_count : (n m : ℕ) → n ≡ get_or s a 0 → m ≡ a + 1 → m + n ≤ length s → Spelt s a (take n (drop m s)) (m + n)
      by_count n m p q l = record { within = omega arith; is = ap₂ (λ i j. take i (drop j s)) p q; past = omega arith }

  string_local : Local s (string_p least most s)
  string_local =
      record {
        on = λ a x e h. omega (arith, (spelt a x e h).past);
        alike = λ a b x y e f h k g.
            let t = spelt a x e h in
            let u = spelt b y f k in
            let n = first_byte s a b (e - a) g (omega (arith, t.past)) in (
              t.is ∙ bytes a b (get_or s a 0) t.within (rw n u.within) (λ i l. g (1 + i) (omega (arith, t.past))) ∙ ap (λ i. take i (drop (b + 1) s)) n
                  ∙ sym u.is,
              omega (arith, t.past, u.past),
            );
      }
    where
      bytes : (a b n : ℕ) → a + 1 + n ≤ length s → b + 1 + n ≤ length s → ((i : ℕ) → i < n → get_or s (a + (1 + i)) 0 ≡ get_or s (b + (1 + i)) 0)
          → take n (drop (a + 1) s) ≡ take n (drop (b + 1) s)
      bytes a b n l m g =
          let x = length-take-le n (drop (a + 1) s) (simp length-drop (omega arith)) in
          let y = length-take-le n (drop (b + 1) s) (simp length-drop (omega arith)) in
          ext_get_or 0 (take n (drop (a + 1) s)) (take n (drop (b + 1) s)) (x ∙ sym y) (λ i h.
          let w : i < n = omega (arith, x) in
          let c : a + 1 + i ≡ a + (1 + i) = omega arith in
          let d : b + 1 + i ≡ b + (1 + i) = omega arith in
          get_or-take n (drop (a + 1) s) i 0 w ∙ get_or-drop (a + 1) s i 0 ∙ ap (λ k. get_or s k 0) c ∙ g i w ∙ ap (λ k. get_or s k 0) (sym d)
          ∙ sym (get_or-take n (drop (b + 1) s) i 0 w ∙ get_or-drop (b + 1) s i 0))

-- ---- names

module _ (s : List ℕ) where
  attr_local : Local s (attr_p s)
  unfolding attr_p
  attr_local =
      after_local s (string_p 1 oid_most s) (λ o e. after (string_p 0 value_most s e) (λ v f. got (record { oid = o; value = v }) f)) (string_local 1 oid_most s) (λ o.
      after_local s (string_p 0 value_most s) (λ v f. got (record { oid = o; value = v }) f) (string_local 0 value_most s) (λ v.
      got_local s (record { oid = o; value = v })))

  rdn_local : Local s (rdn_p s)
  unfolding rdn_p
  rdn_local = counted_local s attr_p attr_local 1 rdn_most

  pub name_local : Local s (name_p s)
  unfolding name_p
  name_local = counted_local s rdn_p rdn_local 0 name_most

  -- two names whose bytes are the same
  pub bytes_alike : (a b : ℕ) (x y : List (List Attr)) (e f : ℕ) → name_p s a ≡ got x e → name_p s b ≡ got y f → e ≤ length s → f ≤ length s
      → bytes_of (record { start = a; end = e }) s ≡ bytes_of (record { start = b; end = f }) s → x ≡ y
  bytes_alike a b x y e f h k l m same =
      let c = name_local.on a x e h in
      let d = name_local.on b y f k in
      let p = bytes-within (record { start = a; end = e }) s c l in
      let q = bytes-within (record { start = b; end = f }) s d m in
      let eq = sym p ∙ same ∙ q in
      let u = length-take-le (e - a) (drop a s) (simp length-drop (omega arith)) in
      let v = length-take-le (f - b) (drop b s) (simp length-drop (omega arith)) in
      let long : e - a ≡ f - b = sym u ∙ ap length eq ∙ v in
      (name_local.alike a b x y e f h k (λ i w.
      sym (get_or-take (e - a) (drop a s) i 0 w ∙ get_or-drop a s i 0) ∙ ap (λ l. get_or l i 0) eq
      ∙ get_or-take (f - b) (drop b s) i 0 (omega (arith, long)) ∙ get_or-drop b s i 0)).0
