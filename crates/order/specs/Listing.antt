-- A list given by its elements and their order, with no word of how it is found: membership, sorted lists, the list of all of which
-- something holds. A reader must believe this file (docs/MAP.md).
-- For any elements: Paths.antt and Waiting.antt use it of paths. Its laws: proofs/Lists.antt.
use mathlib.Core.List.{List, [], ◌∷◌, Memᴰ}

-- x stands in xs
infix 40 ◌among◌
abbrev pub ◌among◌ : {A : Type 0} → A → List A → Type 0
x among xs = Memᴰ x xs

-- each element stands in R to every later one
pub data Sorted {A : Type 0} (R : A → A → Type 0) : List A → Type 0 where
  nil : Sorted R []
  cons : {x : A} {xs : List A} → ((y : A) → y among xs → R x y) → Sorted R xs → Sorted R (x ∷ xs)

-- xs is sorted by R, and its elements are those of which P holds
pub record Lists {A : Type 0} (R : A → A → Type 0) (P : A → Type 0) (xs : List A) : Type 0 where
  pub sorted : Sorted R xs
  pub only : (x : A) → x among xs → P x
  pub all : (x : A) → P x → x among xs
