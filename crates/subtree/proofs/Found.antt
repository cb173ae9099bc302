-- What a relation of two arguments answers once both were judged through and something was found of them: of two things (`found`), of an
-- RDN and an attribute (`has_found`). For `is_subtree_of` and `rdn_has_name`; where both were walked: same/proofs/Asked.antt.
use Prim.Native.Nat.{ℕ}
use mathlib.Core.Path.{◌≡◌}
use mathlib.Core.Bool.{Bool, cond}
use mathlib.Core.List.{List}
use native.Mathlib.Omega.{arith}
use Rattle.fields.specs.Fields.{Parsed, got, stop, count_p, counted_p, whole}
use Rattle.fields.proofs.Judged.{Holds}
use Rattle.names.specs.Names.{Attr, attr_p, rdn_p, rdn_most}
use Rattle.same.specs.Matching.{rdn_has_name}
use Rattle.same.specs.Answers.{asked, both_read}
use Rattle.same.specs.Rows.{Fine, standing}
use Rattle.same.proofs.Rows.{row_read}

pub fine : {A : Type 0} (p : List ℕ → ℕ → Parsed A) (s : List ℕ) (e : ℕ) → Holds p s e → Fine (p s 0)
fine p s e x = rw x.read tt

-- both are fine, and what was found of the two is t
pub found : {A : Type 0} (p : List ℕ → ℕ → Parsed A) (rel : A → A → Bool) (a b : List ℕ) (e f : ℕ) → Holds p a e → Holds p b f
    → (t : Bool) → t ≡ both_read rel (p a 0) (p b 0) → cond t 1 0 ≡ asked rel (whole p a) (whole p b)
found p rel a b e f x y t h = rw (h, x.read, y.read, x.is, y.is)

-- ---- an RDN and an attribute

pub has_found : (normalise : Bool) (a b : List ℕ) (e f : ℕ) → Holds rdn_p a e → Holds attr_p b f
    → (n first : ℕ) → count_p 1 rdn_most a 0 ≡ got n first → (d : Attr) (g : ℕ) → attr_p b 0 ≡ got d g
    → (t : Bool) → t ≡ rdn_has_name normalise (standing attr_p n a first) d
    → cond t 1 0 ≡ asked (rdn_has_name normalise) (whole rdn_p a) (whole attr_p b)
unfolding rdn_p
has_found normalise a b e f x y n first c d g k t h =
    let row = row_read 1 rdn_most attr_p a 0 n first c (fine rdn_p a e x) in
    let i : row.things ≡ x.thing = cc (row.whole, x.read) in
    let j : d ≡ y.thing = cc (k, y.read) in
    rw (h, row.stand, i, j, x.is, y.is)

-- an RDN that fills its bytes was begun
pub rdn_begun_lem : (a : List ℕ) (e : ℕ) → Holds rdn_p a e → (r : ℕ) → count_p 1 rdn_most a 0 ≡ stop r → ⊥
unfolding rdn_p counted_p
rdn_begun_lem a e x r h =
    let k : stop r ≡ got x.thing e = rw h at x.read in
    let z : ◌≡◌ {A = ℕ} 0 1 = cc in
    omega arith

-- an attribute that fills its bytes is there
pub attr_there : (b : List ℕ) (f : ℕ) → Holds attr_p b f → (r : ℕ) → attr_p b 0 ≡ stop r → ⊥
attr_there b f y r h =
    let k : stop r ≡ got y.thing f = rw h at y.read in
    let z : ◌≡◌ {A = ℕ} 0 1 = cc in
    omega arith
