-- A path judged by the facts of its certificates: the first place is sound as the leaf, each one after it may stand where it does, and a
-- root that issued the last may stand above. The facts themselves: Sound.antt; what a path is asked by its content: Qualifies.antt, and
-- that it is the same: `root_judged` of proofs/Qualified.antt; place by place, as the search does it: Standing.antt.
use Rattle.std.specs.Prelude.{ℕ, ◌+◌, Bool, true, false, cond, ◌&&◌, List, [], ◌∷◌, leb, ltb, get_or}
use Rattle.places.specs.Limits.{bundle_most}
use Rattle.rows.specs.Rows.{has}
use Rattle.order.specs.Paths.{last}
use Rattle.policy.specs.declared.judged.Judged.{Judged}

-- a place may stand above n certificates that count
unfoldable pub stands : ℕ → List ℕ → ℕ → ℕ → Bool
stands sound limits n i = has i sound && leb n (get_or limits i 0)

-- what a place adds to the number that path lengths count
abbrev pub adds : ℕ → ℕ → ℕ
adds counted i = cond (has i counted) 1 0

-- how many of these places count, and n before them
unfoldable pub counting : ℕ → ℕ → List ℕ → ℕ
counting counted n [] = n
counting counted n (i ∷ l) = counting counted (n + adds counted i) l

-- each of these places is below the bundle's limit and may stand where it does, the first above n certificates that count
unfoldable pub all_stand : ℕ → List ℕ → ℕ → ℕ → List ℕ → Bool
all_stand sound limits counted n [] = true
all_stand sound limits counted n (i ∷ l) = ltb i bundle_most && stands sound limits n i && all_stand sound limits counted (n + adds counted i) l

-- a path, which is any list of places, qualifies by root r, as its certificates were judged: the first is sound as the leaf, each place
-- after it may stand where it does, r issued the last place and may stand above
unfoldable pub qualifies_by : Judged → List ℕ → ℕ → Bool
qualifies_by j [] r = false
qualifies_by j (p ∷ l) r =
    (ltb (last p l) bundle_most && has p j.leaves && all_stand j.between.sound j.between.limits j.counted 0 l)
    && (has r (get_or j.issuing.roots (last p l) 0) && stands j.above.sound j.above.limits (counting j.counted 0 l) r)
