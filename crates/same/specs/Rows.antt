-- What looking for an attribute in an RDN comes to, each read where it stands: for the functions of src/matching.rt. No contract of a
-- published function cites this page; of RDNs that were read it is `rdn_has_name` of Matching.antt.
use Rattle.std.specs.Prelude.{ℕ, zero, suc, Bool, false, List, [], ◌∷◌}
use Rattle.fields.specs.Fields.{Parsed, got, stop}
use Rattle.names.specs.Names.{Attr}
use Rattle.same.specs.Matching.{rdn_has_name}

-- the thing can be read
abbrev pub Fine : {A : Type 0} → Parsed A → Type 0
Fine (got a e) = Unit {0}
Fine (stop r) = ⊥

abbrev pub with_rest : {A : Type 0} → Parsed A → (ℕ → List A) → List A
with_rest (got a e) f = a ∷ f e
with_rest (stop r) f = []

-- of n things in a row those that stand before the first that can't be read
unfoldable pub standing : {A : Type 0} → (List ℕ → ℕ → Parsed A) → ℕ → List ℕ → ℕ → List A
standing p zero s at = []
standing p (suc n) s at = with_rest (p s at) (λ e. standing p n s e)

-- the attribute at a place is among these; false if none can be read there
unfoldable pub has_read : Bool → List Attr → Parsed Attr → Bool
has_read normalise rdn (got x e) = rdn_has_name normalise rdn x
has_read normalise rdn (stop r) = false
